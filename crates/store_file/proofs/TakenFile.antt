-- A sound file can be taken where there merely is one: its pages lay out its trees in one way.
use Rattle.std.proofs.Common.{◌≡◌, ◌≢◌, ◌<◌, ℕ, ℤ, Bool, true, List, [], ◌∷◌, map, length, refl, sym, ap, ap₂, subst, ◌∙◌, inl, inr, arith}
use Rattle.std.proofs.Math.Logic.{∥∥₁_map}
use Rattle.std.proofs.Math.Path.{fun_ext}
use Rattle.std.proofs.Props.{props}
use Rattle.std.proofs.lemmas.Bool.{cases_eq}
use mathlib.Core.HLevel.{Π_set}
use Rattle.sqlite_pages.specs.PageMap.{PageMap}
use Rattle.sqlite_format.specs.Bytes.{u16_at, u32_at}
use Rattle.sqlite_format.specs.declared.kind.Tree.{Tree}
use Rattle.sqlite_format.specs.declared.kind.Tree.TheVariants as tree
use Rattle.sqlite_trees.specs.declared.store.Shape.{Shape}
use Rattle.sqlite_trees.specs.declared.store.Shape.TheVariants.{Absent, Table, Index, Pageless, FrozenTable, FrozenIndex}
use Rattle.sqlite_btree.specs.Cut.{Each, Ascends}
use Rattle.sqlite_btree.specs.Tree.{IsRoot, tree_items}
use Rattle.sqlite_btree.specs.Chain.{Layout, Entry, IsChained, entry_of}
use Rattle.sqlite_btree.specs.Items.{rows_of}
use Rattle.sqlite_btree.specs.Part.{AreApart}
use Rattle.sqlite_btree.specs.Stored.{Order, IsStored, IsTight, IsTable, IsIndex, IsLaidIn, Owns, form_of, unordered, no_order, entries_at, as_row, as_record}
use Rattle.sqlite_btree.proofs.PartLemmas.{owned_or_not}
use Rattle.sqlite_btree.proofs.CutLemmas.{Each-from}
use Rattle.sqlite_btree.proofs.TreeLemmas.{one_root}
use Rattle.sqlite_btree.proofs.StoredLemmas.{KeepsChain, entries_at-stored, stored_moved}
use Rattle.sqlite_record.specs.Strict.{IsRecord}
use Rattle.sqlite_pool.specs.Header.{NamesFormat, HasPlainSettings}
use Rattle.sqlite_pool.specs.FreeList.{AreLinked}
use Rattle.sqlite_pool.specs.File.{ListsFree, in_use}
use Rattle.sqlite_store.specs.declared.catalog.Wanted.{Wanted}
use Rattle.sqlite_store.specs.Db.{AreTrees, IsDb, IsFile, IsKept, record_order, roots_of, slot_root, slot_shape}
use Rattle.store_file.proofs.Taken.{Taken, of_prop, of_cases, of_both, of_either, of_each, only_one}
use Rattle.store_file.proofs.TakenPages.{are_chained, is_record, is_root, link_among, reaches}
use Rattle.store_file.proofs.OneLayout.{IsTidy, one_layout}

ascends : {X : Type 0} (order : X → X → Bool) (xs : List X) → Taken (Ascends order xs)
ascends order [] = λ _. tt
ascends order (x ∷ xs) = of_both (of_each (λ y. order x y ≡ true) (λ y. of_prop (hlevel props)) xs) (ascends order xs)

-- a stored tree but for its height
record StoredAt (tree : Tree) (order : Order) (usable : ℕ) (layout : Layout) (root : ℕ) (entries : List Entry) (height : ℕ) : Type 0 where
  shape : IsRoot (form_of tree order usable layout.spill) layout.nodes height root
  ascends : Ascends (form_of tree order usable layout.spill).order (tree_items (form_of tree order usable layout.spill) layout.nodes height root)
  chained : Each (IsChained (form_of tree order usable layout.spill) layout) (tree_items (form_of tree order usable layout.spill) layout.nodes height root)
  apart : AreApart layout.nodes layout.spill
  holds : map (entry_of tree usable layout.spill) (rows_of (tree_items (form_of tree order usable layout.spill) layout.nodes height root)) ≡ entries

is_stored : (tree : Tree) (order : Order) (usable : ℕ) (layout : Layout) (root : ℕ) (entries : List Entry) → Taken (IsStored tree order usable layout root entries)
is_stored tree order usable layout root entries h =
    let form = form_of tree order usable layout.spill in
    let found = only_one {P = StoredAt tree order usable layout root entries} (hlevel props) (λ f g p q. one_root form layout.nodes f g root p.shape.top q.shape.top)
    (∥∥₁_map h (λ s. (s.height, record { shape = s.shape; ascends = s.ascends; chained = s.chained; apart = s.apart; holds = s.holds }))) in
    let items = tree_items form layout.nodes found.0 root in
    record {
      height = found.0;
      shape = is_root form layout.nodes found.0 root (∥∥₁_map found.1 (λ s. s.shape));
      ascends = ascends form.order items (∥∥₁_map found.1 (λ s. s.ascends));
      chained = are_chained form layout items (∥∥₁_map found.1 (λ s. s.chained));
      apart = of_prop (hlevel props) (∥∥₁_map found.1 (λ s. s.apart));
      holds = of_prop (hlevel props) (∥∥₁_map found.1 (λ s. s.holds));
    }

is_tight : (tree : Tree) (usable : ℕ) (layout : Layout) (root : ℕ) → Taken (IsTight tree usable layout root)
is_tight tree usable layout root h = record {
  nodes = λ height n top live. of_cases (reaches (unordered tree usable) layout.nodes height root n) (∥∥₁_map h (λ t. t.nodes height n top live));
  spill = λ height n top live. of_cases (link_among tree usable layout.spill (tree_items (unordered tree usable) layout.nodes height root) n) (∥∥₁_map h (λ t. t.spill height n top live));
}

module _ (size : ℕ) (pages : PageMap) (layout : Layout) (laid : IsLaidIn layout pages) (root : ℕ) where
  rows_there : (rows : List (ℤ × List ℕ)) → IsTable size layout root rows → map as_row (entries_at tree.Table size pages root) ≡ rows
  rows_there rows t = ap (map as_row) (entries_at-stored pages laid t.stored) ∙ t.shows

  records_there : (order : Order) (records : List (List ℕ)) → IsIndex order size layout root records → map as_record (entries_at tree.Index size pages root) ≡ records
  records_there order records t = ap (map as_record) (entries_at-stored pages laid t.stored) ∙ t.shows

  is_table : (rows : List (ℤ × List ℕ)) → Taken (IsTable size layout root rows)
  is_table rows h = record {
    entries = entries_at tree.Table size pages root;
    stored = is_stored tree.Table no_order size layout root (entries_at tree.Table size pages root)
        (∥∥₁_map h (λ t. subst (IsStored tree.Table no_order size layout root) (sym (entries_at-stored pages laid t.stored)) t.stored));
    tight = is_tight tree.Table size layout root (∥∥₁_map h (λ t. t.tight));
    shows = of_prop (hlevel props) (∥∥₁_map h (rows_there rows));
  }

  is_index : (order : Order) (records : List (List ℕ)) → Taken (IsIndex order size layout root records)
  is_index order records h = record {
    entries = entries_at tree.Index size pages root;
    stored = is_stored tree.Index order size layout root (entries_at tree.Index size pages root)
        (∥∥₁_map h (λ t. subst (IsStored tree.Index order size layout root) (sym (entries_at-stored pages laid t.stored)) t.stored));
    tight = is_tight tree.Index size layout root (∥∥₁_map h (λ t. t.tight));
    shows = of_prop (hlevel props) (∥∥₁_map h (records_there order records));
  }

  kept_table : Taken ((rows : List (ℤ × List ℕ)) × IsTable size layout root rows × Each (λ row. IsRecord row.1) rows)
  kept_table h =
      let rows = map as_row (entries_at tree.Table size pages root) in (
        rows,
        is_table rows (∥∥₁_map h (λ k. subst (IsTable size layout root) (sym (rows_there k.0 k.1)) k.1)),
        of_each (λ row. IsRecord row.1) (λ row. is_record row.1) rows (∥∥₁_map h (λ k. subst (Each (λ row. IsRecord row.1)) (sym (rows_there k.0 k.1)) k.2)),
      )

  kept_index : (order : Order) → Taken ((records : List (List ℕ)) × IsIndex order size layout root records × Each IsRecord records)
  kept_index order h =
      let records = map as_record (entries_at tree.Index size pages root) in (
        records,
        is_index order records (∥∥₁_map h (λ k. subst (IsIndex order size layout root) (sym (records_there order k.0 k.1)) k.1)),
        of_each IsRecord is_record records (∥∥₁_map h (λ k. subst (Each IsRecord) (sym (records_there order k.0 k.1)) k.2)),
      )

  is_kept : (shape : Shape) → Taken (IsKept size layout shape root)
  is_kept Absent = of_prop (hlevel props)
  is_kept Pageless = of_prop (hlevel props)
  is_kept Table = kept_table
  is_kept FrozenTable = kept_table
  is_kept (Index o) = kept_index (record_order o)
  is_kept (FrozenIndex o) = kept_index (record_order o)

is_laid : (layout : Layout) (pages : PageMap) → Taken (IsLaidIn layout pages)
is_laid layout pages h = record { nodes = of_prop (hlevel props) (∥∥₁_map h (λ l. l.nodes)); spill = of_prop (hlevel props) (∥∥₁_map h (λ l. l.spill)) }

owns : (layout : Layout) (n : ℕ) → Taken (Owns layout n)
owns layout n = of_either (elim (owned_or_not (layout.nodes n)) [ inl none ↦ inr (λ live. live none) | inr live ↦ inl live ]) (of_prop (hlevel props))

are_trees : (size : ℕ) (shape : ℕ → Shape) (root : ℕ → ℕ) (pages : PageMap) (layouts : ℕ → Layout) → Taken (AreTrees size shape root pages layouts)
are_trees size shape root pages layouts h =
    let laid = λ (slot : ℕ). is_laid (layouts slot) pages (∥∥₁_map h (λ t. t.laid slot)) in
    let apart = λ (slot other n : ℕ) (e : slot ≢ other) (o : Owns (layouts slot) n). of_prop {A = ¬ (Owns (layouts other) n)} (hlevel props) (∥∥₁_map h (λ t. t.apart slot other n e o)) in
    record {
      laid = laid;
      kept = λ slot. is_kept size pages (layouts slot) (laid slot) (root slot) (shape slot) (∥∥₁_map h (λ t. t.kept slot));
      apart = apart;
      covered = λ n some.
          let found = only_one {P = λ slot. Owns (layouts slot) n} (hlevel props) (λ s t p q. elim (cases_eq s t) [ inl e ↦ e | inr other ↦ absurd (apart s t n other p q) ])
          (∥∥₁_map h (λ t. t.covered n some)) in
          (found.0, owns (layouts found.0) n found.1);
    }

-- the row of an overflow page, and of no other page
abbrev owner_if : List ℕ → List ℕ → List ℕ
owner_if [] row = []
owner_if (x ∷ bytes) row = row

owner_kept : (bytes row : List ℕ) → bytes ≢ [] → owner_if bytes row ≡ row
owner_kept [] row live = absurd (live refl)
owner_kept (x ∷ bytes) row live = refl

-- what a layout has of each page
abbrev Laying : Type 0
Laying = ℕ → List ℕ × List ℕ × List ℕ

abbrev layout_of : Laying → Layout
layout_of laying = record { nodes = λ n. (laying n).0; spill = λ n. (laying n).1; owner = λ n. (laying n).2 }

abbrev tidied : Layout → Laying
tidied layout n = (layout.nodes n, layout.spill n, owner_if (layout.spill n) (layout.owner n))

tidied_is_tidy : (layout : Layout) → IsTidy (layout_of (tidied layout))
tidied_is_tidy layout n none = rw none refl

tidied_stored : {tree : Tree} {order : Order} {usable root : ℕ} {layout : Layout} {entries : List Entry} → IsStored tree order usable layout root entries
    → IsStored tree order usable (layout_of (tidied layout)) root entries
tidied_stored {tree} {order} {usable} {root} {layout} {entries} stored =
    let new = layout_of (tidied layout) in
    let size : 0 < usable = omega (arith, stored.shape.top.0.size, stored.shape.top.0.sound.usable.0) in
    (stored_moved stored new refl stored.apart (Each-from (KeepsChain tree usable layout new) (tree_items (form_of tree order usable layout.spill) layout.nodes stored.height root)
    (λ x at row. inr (λ n owned whole. (refl, owner_kept (layout.spill n) (layout.owner n) (λ none. omega (arith, ap length none, whole, size)) ∙ owned))))).0

tidied_kept : (size : ℕ) (layout : Layout) (shape : Shape) (root : ℕ) → IsKept size layout shape root → IsKept size (layout_of (tidied layout)) shape root
tidied_kept size layout Absent root k = k
tidied_kept size layout Pageless root k = k
tidied_kept size layout Table root k =
    (k.0, record { entries = k.1.entries; stored = tidied_stored k.1.stored; tight = record { nodes = k.1.tight.nodes; spill = k.1.tight.spill }; shows = k.1.shows }, k.2)
tidied_kept size layout FrozenTable root k =
    (k.0, record { entries = k.1.entries; stored = tidied_stored k.1.stored; tight = record { nodes = k.1.tight.nodes; spill = k.1.tight.spill }; shows = k.1.shows }, k.2)
tidied_kept size layout (Index o) root k =
    (k.0, record { entries = k.1.entries; stored = tidied_stored k.1.stored; tight = record { nodes = k.1.tight.nodes; spill = k.1.tight.spill }; shows = k.1.shows }, k.2)
tidied_kept size layout (FrozenIndex o) root k =
    (k.0, record { entries = k.1.entries; stored = tidied_stored k.1.stored; tight = record { nodes = k.1.tight.nodes; spill = k.1.tight.spill }; shows = k.1.shows }, k.2)

-- these layings are tidy, and lay out the trees
record AreLayings (size : ℕ) (shape : ℕ → Shape) (root : ℕ → ℕ) (pages : PageMap) (layings : ℕ → Laying) : Type 0 where
  trees : AreTrees size shape root pages (λ slot. layout_of (layings slot))
  tidy : (slot : ℕ) → IsTidy (layout_of (layings slot))

tidied_trees : (size : ℕ) (shape : ℕ → Shape) (root : ℕ → ℕ) (pages : PageMap) (layouts : ℕ → Layout) → AreTrees size shape root pages layouts
    → AreLayings size shape root pages (λ slot. tidied (layouts slot))
tidied_trees size shape root pages layouts t = record {
  trees = record {
    laid = λ slot. record { nodes = (t.laid slot).nodes; spill = (t.laid slot).spill };
    kept = λ slot. tidied_kept size (layouts slot) (shape slot) (root slot) (t.kept slot);
    apart = t.apart;
    covered = t.covered;
  };
  tidy = λ slot. tidied_is_tidy (layouts slot);
}

one_laying : (size : ℕ) (shape : ℕ → Shape) (root : ℕ → ℕ) (pages : PageMap) (a b : ℕ → Laying) → AreLayings size shape root pages a → AreLayings size shape root pages b → a ≡ b
one_laying size shape root pages a b p q =
    fun_ext (λ slot. fun_ext (λ n.
    let same = one_layout size pages (shape slot) (root slot) (layout_of (a slot)) (layout_of (b slot)) (p.trees.laid slot) (q.trees.laid slot) (p.trees.kept slot) (q.trees.kept slot)
    (p.tidy slot) (q.tidy slot) n in
    ap₂ (λ (x : List ℕ) (y : List ℕ × List ℕ). let z : List ℕ × List ℕ × List ℕ = (x, y.0, y.1) in z) same.0
    (ap₂ (λ (x y : List ℕ). let z : List ℕ × List ℕ = (x, y) in z) same.1 same.2)))

is_db : (size : ℕ) (schema : List Wanted) (pages : PageMap) → Taken (IsDb size schema pages)
is_db size schema pages h =
    let shape = slot_shape schema in
    let root = slot_root (roots_of size schema pages) in
    let found = only_one {P = AreLayings size shape root pages} (Π_set (λ _. Π_set (λ _. hlevel props))) (one_laying size shape root pages)
    (∥∥₁_map h (λ d. (λ slot. tidied (d.layouts slot), tidied_trees size shape root pages d.layouts d.trees))) in
    record {
      layouts = λ slot. layout_of (found.0 slot);
      trees = are_trees size shape root pages (λ slot. layout_of (found.0 slot)) (∥∥₁_map found.1 (λ l. l.trees));
      known = of_prop (hlevel props) (∥∥₁_map h (λ d. d.known));
    }

linked : (pages : PageMap) (trunks : List ℕ) → Taken (AreLinked pages trunks)
linked pages [] = λ _. tt
linked pages (t ∷ ts) = λ h. (of_prop (hlevel props) (∥∥₁_map h (λ x. x.0)), of_prop (hlevel props) (∥∥₁_map h (λ x. x.1)), linked pages ts (∥∥₁_map h (λ x. x.2)))

names_format : (size : ℕ) (header : List ℕ) → Taken (NamesFormat size header)
names_format size header h = record {
  magic = of_prop (hlevel props) (∥∥₁_map h (λ f. f.magic));
  size = of_prop (hlevel props) (∥∥₁_map h (λ f. f.size));
  versions = of_either (cases_eq (u16_at header 18) 0x0101) (of_prop (hlevel props)) (∥∥₁_map h (λ f. f.versions));
}

plain_settings : (size : ℕ) (header : List ℕ) → Taken (HasPlainSettings size header)
plain_settings size header h = record {
  fractions = of_prop (hlevel props) (∥∥₁_map h (λ s. s.fractions));
  format = of_either (cases_eq (u32_at header 44) 4) (of_prop (hlevel props)) (∥∥₁_map h (λ s. s.format));
  encoding = of_either (cases_eq (u32_at header 56) 1) (of_prop (hlevel props)) (∥∥₁_map h (λ s. s.encoding));
  no_vacuum = of_prop (hlevel props) (∥∥₁_map h (λ s. s.no_vacuum));
  counted = of_prop (hlevel props) (∥∥₁_map h (λ s. s.counted));
}

lists_free : (pages : PageMap) (header trunks : List ℕ) → Taken (ListsFree pages header trunks)
lists_free pages header trunks h = record {
  list = record {
    linked = linked pages trunks (∥∥₁_map h (λ l. l.list.linked));
    once = of_prop (hlevel props) (∥∥₁_map h (λ l. l.list.once));
    real = of_prop (hlevel props) (∥∥₁_map h (λ l. l.list.real));
  };
  first = of_prop (hlevel props) (∥∥₁_map h (λ l. l.first));
  count = of_prop (hlevel props) (∥∥₁_map h (λ l. l.count));
}

-- a sound file can be taken where there merely is one
pub is_file : (size : ℕ) (schema : List Wanted) (pages : PageMap) → Taken (IsFile size schema pages)
is_file size schema pages h = record {
  whole = of_prop (hlevel props) (∥∥₁_map h (λ f. f.whole));
  sound = record {
    header = of_both (names_format size _) (plain_settings size _) (∥∥₁_map h (λ f. f.sound.header));
    counted = of_prop (hlevel props) (∥∥₁_map h (λ f. f.sound.counted));
    free = lists_free _ _ _ (∥∥₁_map h (λ f. f.sound.free));
  };
  db = is_db size schema (in_use size pages) (∥∥₁_map h (λ f. f.db));
}
