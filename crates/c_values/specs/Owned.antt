-- What a handle owns.
use base.Fml.{Fml, ftrue, fex}
use mathlib.Core.Path.{◌≡◌}
use denote.RattleType.{RattleType}
use denote.RawPtr.{Ptr, null_ptr}
use Rattle.std.specs.Box.Ownership.{box_owns}
use Rattle.std.specs.Global.{Global}
use Rattle.std.specs.declared.option.Option.{Option}
use Rattle.std.specs.declared.option.Option.TheVariants.{None, Some}
use Rattle.std_heap.specs.contracts.GlobalAllocator.TheImpl.{ghosts}

-- the null pointer owns nothing, any other what a `Box` of this value owns
abbrev pub handle_owns : (R : RattleType) → Global → Ptr → Option R.Denot → Fml
handle_owns R alloc ptr None = fex (ptr ≡ null_ptr) (λ _. ftrue)
handle_owns R alloc ptr (Some held) = box_owns (ghosts.dealloc_token alloc) R ptr held
