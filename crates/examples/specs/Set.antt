-- Sets of names.
use Rattle.std.specs.Prelude.{◌≡◌, ◌||◌, List}
use Rattle.key_order.specs.Map.{has_key}
use Rattle.key_order.specs.Text.{Text, text_order}
use Rattle.merkle_replica.specs.Contents.{Contents}
use Rattle.merkle_replica.specs.Laws.{Laws}
use Rattle.examples.specs.Sync.{IsFaithfulSync}

-- `union` has the names of a and of b, and no others
abbrev pub IsUnion : List (Text × Unit {0}) → List (Text × Unit {0}) → List (Text × Unit {0}) → Type 0
IsUnion a b union = (k : Text) → has_key text_order union k ≡ has_key text_order a k || has_key text_order b k

-- a sync that leaves both with the union of both sets, while digests are faithful in what is met before each pull
abbrev pub SyncsToTheUnion : {H : Type 0} → Laws Text (Unit {0}) H → Contents Text (Unit {0}) H → Contents Text (Unit {0}) H → Contents Text (Unit {0}) H → Contents Text (Unit {0}) H → Type 0
SyncsToTheUnion laws a b a' b' = IsFaithfulSync laws (IsUnion a.rows b.rows a'.rows × IsUnion a.rows b.rows b'.rows) a b a' b'
