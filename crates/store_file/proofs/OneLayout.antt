-- Pages lay a tree out in one way: its nodes, its overflow pages, and the rows that those belong to.
use Rattle.std.proofs.Common.{◌≡◌, ◌≢◌, ℕ, zero, suc, Bool, true, false, List, [], ◌∷◌, length, refl, sym, ap, ap₂, subst, ◌∙◌, inl, inr, arith}
use Rattle.std.proofs.Math.Path.{fun_ext}
use Rattle.sqlite_pages.specs.PageMap.{PageMap}
use Rattle.sqlite_format.specs.declared.kind.Tree.{Tree}
use Rattle.sqlite_format.specs.Cell.{cell_child, spilled_len, first_overflow}
use Rattle.sqlite_trees.specs.declared.store.Shape.{Shape}
use Rattle.sqlite_trees.specs.declared.store.Shape.TheVariants.{Absent, Table, Index, Pageless, FrozenTable, FrozenIndex}
use Rattle.sqlite_btree.specs.Part.{Part, IsPartOf, all_pages}
use Rattle.sqlite_btree.specs.Cut.{IsIn}
use Rattle.sqlite_btree.specs.Items.{Item, Form, is_row, body_of}
use Rattle.sqlite_btree.specs.Tree.{EachChild, SomeChild, IsTree, IsTop, Reaches, tree_items, cells_of, right_of, top_cells}
use Rattle.sqlite_btree.specs.Chain.{Layout, Entry, HasChain, IsChained}
use Rattle.sqlite_btree.specs.Stored.{Order, IsStored, IsTight, IsLaidIn, Owns, form_of, unordered}
use Rattle.sqlite_btree.proofs.PartLemmas.{owned_or_not, in_all_pages}
use Rattle.sqlite_btree.proofs.CutLemmas.{Each-in}
use Rattle.sqlite_btree.proofs.TreeLemmas.{node_live, some_map, reached_live, children_kept, one_root, reach_same}
use Rattle.sqlite_btree.proofs.ChainLemmas.{on_chain_same, on_chain_back, on_chain_owned}
use Rattle.sqlite_btree.proofs.StoredLemmas.{stored_root_live, top_reformed, items_reformed}
use Rattle.sqlite_store.specs.Db.{IsKept}

-- no page that isn't an overflow page has a row
abbrev pub IsTidy : Layout → Type 0
IsTidy layout = (n : ℕ) → layout.spill n ≡ [] → layout.owner n ≡ []

-- two layouts say the same of a page
abbrev pub SayTheSame : Layout → Layout → ℕ → Type 0
SayTheSame a b n = (a.nodes n ≡ b.nodes n) × (a.spill n ≡ b.spill n) × (a.owner n ≡ b.owner n)

module _ (form : Form) (all part : Part) (keep : (n : ℕ) → part n ≢ [] → all n ≡ part n) where
  reach_back : (h page n : ℕ) → IsTree form part h page → Reaches form all h page n → Reaches form part h page n
  reach_back zero page n t r = r
  reach_back (suc h) page n t (inl e) = inl e
  reach_back (suc h) page n t (inr some) =
      inr (some_map (IsTree form part h) (λ c. Reaches form all h c n) (λ c. Reaches form part h c n) (cells_of form false part page) (right_of part page) t.1 (λ c. reach_back h c n)
      (rw (keep page (node_live t.0)) at some))

  some_live : (h n : ℕ) (cells : List (List ℕ)) (last : ℕ) → EachChild (IsTree form part h) cells last → SomeChild (λ c. Reaches form all h c n) cells last → part n ≢ []
  some_live h n [] last t r = reached_live form part h n last t (reach_back h last n t r)
  some_live h n (cell ∷ cells) last t (inl r) = reached_live form part h n (cell_child cell) t.0 (reach_back h (cell_child cell) n t.0 r)
  some_live h n (cell ∷ cells) last t (inr r) = some_live h n cells last t.1 r

  -- a page that the file reads in a tree is one of the tree's own
  live_below : (h page n : ℕ) → IsTop form part h page → Reaches form all h page n → part n ≢ []
  live_below zero page n t e = subst (λ m. part m ≢ []) (sym e) (node_live t.0)
  live_below (suc h) page n t (inl e) = subst (λ m. part m ≢ []) (sym e) (node_live t.0)
  live_below (suc h) page n t (inr some) = some_live h n (cells_of form false part page) (right_of part page) t.1 (rw (keep page (node_live t.0)) at some)

abbrev plain : Item → Item → Bool
plain x y = false

module _ {tree : Tree} {order : Order} {usable root : ℕ} {pages : PageMap} {layout : Layout} {entries : List Entry} (laid : IsLaidIn layout pages)
    (stored : IsStored tree order usable layout root entries) (tight : IsTight tree usable layout root) where
  abbrev form : Form
  form = unordered tree usable

  own_top : IsTop (unordered tree usable) layout.nodes stored.height root
  own_top = top_reformed tree usable (form_of tree order usable layout.spill).order plain layout.nodes stored.height root stored.shape.top

  -- the file reads the tree from its root
  top_of_pages : IsTop (unordered tree usable) (all_pages pages) stored.height root
  top_of_pages =
      let same = in_all_pages layout.nodes pages laid.nodes root (stored_root_live stored) in
      let below = children_kept form layout.nodes (all_pages pages) stored.height (top_cells form layout.nodes stored.height root) (right_of layout.nodes root) own_top.1
      (λ k c n e t p. in_all_pages layout.nodes pages laid.nodes n (reached_live form layout.nodes k n c t p)) in
      rw same (own_top.0, below.0)

  reached_in_pages : (n : ℕ) → layout.nodes n ≢ [] → Reaches (unordered tree usable) (all_pages pages) stored.height root n
  reached_in_pages n live =
      reach_same form layout.nodes (all_pages pages) stored.height root n
      (λ m p. in_all_pages layout.nodes pages laid.nodes m (live_below form layout.nodes layout.nodes (λ _ _. refl) stored.height root m own_top p)) (tight.nodes stored.height n own_top live)

  not_nil : (bytes : List ℕ) → length bytes ≡ usable → bytes ≢ []
  not_nil bytes whole none = omega (arith, ap length none, whole, stored.shape.top.0.size, stored.shape.top.0.sound.usable.0)

  -- each row among the tree's items has its chain
  chain_of : (x : Item) → IsIn x (tree_items (unordered tree usable) layout.nodes stored.height root) → is_row x ≡ true → HasChain tree usable layout (body_of x)
  chain_of x at =
      let own = form_of tree order usable layout.spill in
      let same : tree_items own layout.nodes stored.height root ≡ tree_items form layout.nodes stored.height root = items_reformed tree usable plain own.order layout.nodes stored.height root in
      Each-in (IsChained own layout) (tree_items own layout.nodes stored.height root) x stored.chained (subst (IsIn x) (sym same) at)

same_part : (a b : Part) (pages : PageMap) → IsPartOf a pages → IsPartOf b pages → (n : ℕ) → (a n ≢ [] → b n ≢ []) → (b n ≢ [] → a n ≢ []) → a n ≡ b n
same_part a b pages p q n to from =
    elim (owned_or_not (a n)) [
      | inl none ↦ elim (owned_or_not (b n)) [ inl gone ↦ none ∙ sym gone | inr live ↦ absurd (from live none) ]
      | inr live ↦ sym (in_all_pages a pages p n live) ∙ in_all_pages b pages q n (to live)
    ]

module _ {tree : Tree} {order : Order} {usable root : ℕ} {pages : PageMap} {a b : Layout} {xs ys : List Entry} (la : IsLaidIn a pages) (lb : IsLaidIn b pages)
    (sa : IsStored tree order usable a root xs) (sb : IsStored tree order usable b root ys) (ta : IsTight tree usable a root) (tb : IsTight tree usable b root) where
  same_height : sa.height ≡ sb.height
  same_height = one_root (unordered tree usable) (all_pages pages) sa.height sb.height root (top_of_pages la sa ta) (top_of_pages lb sb tb)

  nodes_to : (n : ℕ) → a.nodes n ≢ [] → b.nodes n ≢ []
  nodes_to n live =
      live_below (unordered tree usable) (all_pages pages) b.nodes (in_all_pages b.nodes pages lb.nodes) sb.height root n (own_top lb sb tb)
      (subst (λ h. Reaches (unordered tree usable) (all_pages pages) h root n) same_height (reached_in_pages la sa ta n live))

  -- where the nodes are the same, an overflow page of the one is one of the other, and belongs to the same row
  spill_to : a.nodes ≡ b.nodes → (n : ℕ) → a.spill n ≢ [] → (b.spill n ≢ []) × (a.owner n ≡ b.owner n)
  spill_to nodes n live =
      let form = unordered tree usable in
      let l = ta.spill sa.height n (own_top la sa ta) live in
      let row = body_of l.row in
      let left = spilled_len tree usable row in
      let first = first_overflow tree usable row in
      let items : tree_items form a.nodes sa.height root ≡ tree_items form b.nodes sb.height root = ap₂ (λ p h. tree_items form p h root) nodes same_height in
      let ca = chain_of la sa ta l.row l.among l.a_row in
      let cb = chain_of lb sb tb l.row (subst (IsIn l.row) items l.among) l.a_row in
      let on = on_chain_same a (all_pages pages) usable row left first left n (λ m _ whole. in_all_pages a.spill pages la.spill m (not_nil la sa ta (a.spill m) whole)) ca.chain l.link in
      let there = on_chain_back (all_pages pages) b usable row left first left n (λ m whole. in_all_pages b.spill pages lb.spill m (not_nil lb sb tb (b.spill m) whole)) cb.chain on in
      let owned = on_chain_owned b usable row left first left n cb.chain there in
      (not_nil lb sb tb (b.spill n) owned.0, (on_chain_owned a usable row left first left n ca.chain l.link).1 ∙ sym owned.1)

tree_same : {tree : Tree} {order : Order} {usable root : ℕ} {pages : PageMap} {a b : Layout} {xs ys : List Entry} → IsLaidIn a pages → IsLaidIn b pages
    → IsStored tree order usable a root xs → IsStored tree order usable b root ys → IsTight tree usable a root → IsTight tree usable b root → IsTidy a → IsTidy b → (n : ℕ) → SayTheSame a b n
tree_same {pages = pages} {a = a} {b = b} la lb sa sb ta tb da db n =
    let nodes = λ (m : ℕ). same_part a.nodes b.nodes pages la.nodes lb.nodes m (nodes_to la lb sa sb ta tb m) (nodes_to lb la sb sa tb ta m) in
    let to = spill_to la lb sa sb ta tb (fun_ext nodes) in
    let from = spill_to lb la sb sa tb ta (sym (fun_ext nodes)) in
    let spill = same_part a.spill b.spill pages la.spill lb.spill n (λ live. (to n live).0) (λ live. (from n live).0) in
    (nodes n, spill, elim (owned_or_not (a.spill n)) [ inl none ↦ da n none ∙ sym (db n (sym spill ∙ none)) | inr live ↦ (to n live).1 ])

nil_of : (bytes : List ℕ) → ¬ (bytes ≢ []) → bytes ≡ []
nil_of bytes never = elim (owned_or_not bytes) [ inl none ↦ none | inr live ↦ absurd (never live) ]

none_same : (a b : Layout) → ((n : ℕ) → ¬ (Owns a n)) → ((n : ℕ) → ¬ (Owns b n)) → IsTidy a → IsTidy b → (n : ℕ) → SayTheSame a b n
none_same a b ea eb da db n =
    let sa = nil_of (a.spill n) (λ live. ea n (inr live)) in
    let sb = nil_of (b.spill n) (λ live. eb n (inr live)) in
    (nil_of (a.nodes n) (λ live. ea n (inl live)) ∙ sym (nil_of (b.nodes n) (λ live. eb n (inl live))), sa ∙ sym sb, da n sa ∙ sym (db n sb))

-- two tidy layouts of one tree in these pages are the same
pub one_layout : (size : ℕ) (pages : PageMap) (shape : Shape) (root : ℕ) (a b : Layout) → IsLaidIn a pages → IsLaidIn b pages → IsKept size a shape root → IsKept size b shape root
    → IsTidy a → IsTidy b → (n : ℕ) → SayTheSame a b n
one_layout size pages Absent root a b la lb ka kb = none_same a b ka kb
one_layout size pages Pageless root a b la lb ka kb = none_same a b ka.0 kb.0
one_layout size pages Table root a b la lb ka kb = tree_same la lb ka.1.stored kb.1.stored ka.1.tight kb.1.tight
one_layout size pages FrozenTable root a b la lb ka kb = tree_same la lb ka.1.stored kb.1.stored ka.1.tight kb.1.tight
one_layout size pages (Index o) root a b la lb ka kb = tree_same la lb ka.1.stored kb.1.stored ka.1.tight kb.1.tight
one_layout size pages (FrozenIndex o) root a b la lb ka kb = tree_same la lb ka.1.stored kb.1.stored ka.1.tight kb.1.tight
