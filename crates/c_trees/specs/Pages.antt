-- The pages of a tree as bytes.
use Rattle.std.specs.Prelude.{◌≡◌, ℕ, ◌+◌, ◌-◌, ◌^◌, min, Bool, true, false, if◌then◌else◌, List, [], ◌∷◌, ◌++◌, length, Option, None, Some}
use Rattle.std.specs.Global.{Vec}
use Rattle.std.specs.List.{flat_map}
use Rattle.merkle_search_tree.specs.Loading.{row_count}
use Rattle.merkle_tree_theory.specs.Events.{Event, visit_page, pre_visit_node, visit_node, post_visit_node, post_visit_page, events_of}
use Rattle.merkle_tree_theory.specs.Page.{level, cache, nodes_of}
use Rattle.merkle_tree_theory.specs.Tree.{Tree}
use Rattle.c_trees.specs.Trees.{ByteState}
use Rattle.c_values.specs.Lists.{number_bytes, sized_bytes}
use Rattle.c_trees.specs.declared.walk.Pages.{Pages}

-- a call of a traversal of a tree of byte strings
abbrev pub Call : Type 0
Call = Event (Vec ℕ) (List ℕ)

-- what is written at a call: a page, before those below it, and a key, after the page below it
abbrev pub written : Call → List Call
written (visit_page t is_high) = visit_page t is_high ∷ []
written (pre_visit_node n) = []
written (visit_node n) = visit_node n ∷ []
written (post_visit_node n) = []
written (post_visit_page t) = []

-- the digest that a page has, or none
abbrev pub cache_bytes : Option (List ℕ) → List ℕ
cache_bytes None = 0 ∷ []
cache_bytes (Some digest) = 1 ∷ digest

-- a page: 2 where it is a high page and else 1, its level, the digest that it has or none, and how many keys stand on it
abbrev pub page_part : Bool → Tree (Vec ℕ) (List ℕ) → List ℕ
page_part is_high t = (if is_high then 2 else 1) ∷ level t ∷ (cache_bytes (cache t) ++ number_bytes (length (nodes_of t)))

-- an entry of a list of pages: a page, or 0 and a key
abbrev pub call_bytes : Call → List ℕ
call_bytes (visit_page t is_high) = page_part is_high t
call_bytes (pre_visit_node n) = []
call_bytes (visit_node n) = 0 ∷ sized_bytes n.key.items
call_bytes (post_visit_node n) = []
call_bytes (post_visit_page t) = []

-- the mark of a list of pages, "MSTt"
abbrev pub tree_mark : List ℕ
tree_mark = 77 ∷ 83 ∷ 84 ∷ 116 ∷ []

-- the entries of a tree, in the order in which a traversal comes to them
abbrev pub page_entries : Tree (Vec ℕ) (List ℕ) → List Call
page_entries root = flat_map written (events_of false root)

-- the list of the pages of a tree
abbrev pub page_list : Tree (Vec ℕ) (List ℕ) → List ℕ
page_list root = tree_mark ++ (number_bytes (row_count (page_entries root)) ++ flat_map call_bytes (page_entries root))

-- the bytes tell the pages of a tree
abbrev pub TellsPageList : ByteState → List ℕ → Type 0
TellsPageList s bytes = bytes ≡ page_list s.root

-- a visitor wrote these entries too, and counted them
pub record WritesEntries (entries : List Call) (old new : Pages) : Type 0 where
  pub bytes : new.bytes.items ≡ old.bytes.items ++ flat_map call_bytes entries
  pub count : new.count ≡ min (old.count + length entries) (2 ^ 64 - 1)
  pub refused : new.refused ≡ old.refused

-- a call went on and wrote these entries, or memory ran out
abbrev pub Went : Bool → List Call → Pages → Pages → Type 0
Went true [] old new = new ≡ old
Went true (e ∷ es) old new = WritesEntries (e ∷ es) old new
Went false es old new = new.refused ≡ true

-- the same of the entry that a call writes, if any
abbrev pub Visited : Call → Bool → Pages → Pages → Type 0
Visited call more = Went more (written call)
