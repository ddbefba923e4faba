-- Texts as keys.
use Rattle.std.specs.Prelude.{string_cmp}
use Rattle.std.specs.declared.alloc.Global.{Global}
use Rattle.std.specs.declared.cmp.Ordering.{Ordering}
use Rattle.std.specs.declared.string.String.{String}

-- a text whose memory is the global allocator's
abbrev pub Text : Type 0
Text = String Global

-- texts are in the order of their bytes
abbrev pub text_order : Text → Text → Ordering
text_order = string_cmp
