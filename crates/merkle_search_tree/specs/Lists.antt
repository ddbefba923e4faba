-- Lists to which a page adds what it tells of itself.
use Rattle.std.specs.Prelude.{◌≡◌, List, ◌++◌}
use Rattle.std.specs.declared.alloc.Global.{Global}
use Rattle.std.specs.declared.vec.Vec.{Vec}
use Rattle.merkle_digest.specs.declared.PageDigest.{PageDigest}
use Rattle.merkle_diff.specs.Entry.{Entry}
use Rattle.merkle_diff.specs.PageRange.{entries}
use Rattle.merkle_diff.specs.declared.page_range.PageRange.{PageRange}
use Rattle.merkle_tree_theory.specs.Outline.{Item}
use Rattle.merkle_search_tree.specs.Items.{items}
use Rattle.merkle_search_tree.specs.declared.outline.OutlineItemOf.{OutlineItemOf}

-- items are added after those of the list
abbrev pub AddsItems : {K D : Type 0} → List (Item K D) → Vec (OutlineItemOf K D) Global → Vec (OutlineItemOf K D) Global → Type 0
AddsItems more old new = items new.items ≡ items old.items ++ more

-- page ranges are added after those of the list
abbrev pub AddsRanges : {K o e p : _} → List (Entry K PageDigest) → Vec (PageRange K o e p) Global → Vec (PageRange K o e p) Global → Type 0
AddsRanges more old new = entries new.items ≡ entries old.items ++ more
