-- What is claimed of a store's file that others write to while a session with a peer goes on: its settings, and no row; and what a pull makes of it.
use Rattle.std.specs.Prelude.{ℕ, List, [], None}
use Rattle.key_order.specs.Text.{Text}
use Rattle.merkle_replica.specs.Contents.{Contents}
use Rattle.merkle_wire.specs.ItsRows.{Kept}
use Rattle.merkle_store.specs.News.{AreNewsIn}
use Rattle.sqlite_trees.specs.Tree.{Trees}
use Rattle.store_file.specs.Changes.{HasEntriesMore}
use Rattle.store_file.specs.declared.register.Register.{Register}
use Rattle.store_side.specs.FileTrees.{digests_under}
use Rattle.store_side.specs.Sides.{contents_under}

-- to a peer that it asks
abbrev pub claimed_digests : List ℕ → Kept Text Register (List ℕ)
claimed_digests hash_key = record { digests = digests_under hash_key []; rows = None }

-- to a peer that asks it
abbrev pub claimed_contents : List ℕ → Contents Text Register (List ℕ)
claimed_contents hash_key = contents_under hash_key []

-- the table of entries has those too of what came that are later than what it had for their keys
abbrev pub AddsNews : List (Text × Register) → Trees → Trees → Type 0
AddsNews came old new = (news : List (Text × Register)) × AreNewsIn old came news × HasEntriesMore news old new
