-- What is said of pages, trees and records of a file can be taken where there merely is a proof.
use Rattle.std.proofs.Common.{◌≡◌, ◌⊎◌, ℕ, zero, suc, ◌+◌, ◌-◌, min, Bool, true, false, List, [], ◌∷◌, length, refl, inl, inr}
use Rattle.std.proofs.Math.Logic.{∥∥₁_map}
use Rattle.std.proofs.Props.{props}
use Rattle.std.proofs.lemmas.Bool.{cases_eq}
use Rattle.sqlite_format.specs.declared.kind.Kind.{Kind}
use Rattle.sqlite_format.specs.declared.kind.Tree.{Tree}
use Rattle.sqlite_format.specs.Bytes.{u16_at, u32_at}
use Rattle.sqlite_format.specs.Cell.{cell_child, spilled_len, first_overflow}
use Rattle.sqlite_format.specs.Page.{IsPage, AreCellsApart, IsClearOfCells, IsFreeChain, IsTiled, cell_count, cell_end, cell_offset, content_start, first_freeblock}
use Rattle.sqlite_record.specs.Strict.{TileWithin, Tile, IsRecord}
use Rattle.sqlite_btree.specs.Part.{Part}
use Rattle.sqlite_btree.specs.Cut.{Each}
use Rattle.sqlite_btree.specs.Items.{Item, Form, is_row, body_of}
use Rattle.sqlite_btree.specs.Tree.{IsPageOf, EachChild, SomeChild, IsTree, IsRoot, HasChildren, Reaches, cells_of, right_of, top_cells, is_leaf_at}
use Rattle.sqlite_btree.specs.Chain.{Layout, IsChain, IsOnChain, HasChain, IsChained, IsLinkAmong}
use Rattle.sqlite_btree.proofs.PartLemmas.{owned_or_not}
use Rattle.store_file.proofs.Taken.{Taken, of_prop, of_both, of_all, of_either, of_each, both_cases, either_cases, le_cases, lt_cases}

apart : (kind : Kind) (page : List ℕ) (header count : ℕ) → Taken (AreCellsApart kind page header count)
apart kind page header count =
    of_all (λ i. of_all (λ j. of_all (λ _. of_all (λ _. of_all (λ _. of_either (le_cases (cell_end kind page header i) (cell_offset kind.leaf page header j)) (of_prop (hlevel props)))))))

clear : (kind : Kind) (page : List ℕ) (header from to : ℕ) → Taken (IsClearOfCells kind page header from to)
clear kind page header from to = of_all (λ i. of_all (λ _. of_either (le_cases to (cell_offset kind.leaf page header i)) (of_prop (hlevel props))))

free_chain : (page : List ℕ) (Clear : ℕ → ℕ → Type 0) → ((from to : ℕ) → Taken (Clear from to)) → (fuel low at : ℕ) → Taken (IsFreeChain page Clear fuel low at)
free_chain page Clear each zero low at = of_prop (hlevel props)
free_chain page Clear each (suc fuel) low at =
    of_either (cases_eq at 0) (λ h. (
      of_prop (hlevel props) (∥∥₁_map h (λ x. x.0)),
      of_prop (hlevel props) (∥∥₁_map h (λ x. x.1)),
      of_prop (hlevel props) (∥∥₁_map h (λ x. x.2)),
      of_prop (hlevel props) (∥∥₁_map h (λ x. x.3)),
      each at (at + u16_at page (at + 2)) (∥∥₁_map h (λ x. x.4)),
      free_chain page Clear each fuel (at + u16_at page (at + 2) + 4) (u16_at page at) (∥∥₁_map h (λ x. x.5)),
    ))

tiled : (kind : Kind) (page : List ℕ) (header : ℕ) → Taken (IsTiled kind page header)
unfolding IsTiled
tiled kind page header h = (
  free_chain page (IsClearOfCells kind page header) (clear kind page header) (length page) (content_start page header) (first_freeblock page header) (∥∥₁_map h (λ x. x.0)),
  of_prop (hlevel props) (∥∥₁_map h (λ x. x.1)),
  of_prop (hlevel props) (∥∥₁_map h (λ x. x.2)),
)

is_page : (kind : Kind) (page : List ℕ) (header : ℕ) → Taken (IsPage kind page header)
is_page kind page header h = record {
  usable = of_prop (hlevel props) (∥∥₁_map h (λ p. p.usable));
  flag = of_prop (hlevel props) (∥∥₁_map h (λ p. p.flag));
  pointers = of_prop (hlevel props) (∥∥₁_map h (λ p. p.pointers));
  inside = of_prop (hlevel props) (∥∥₁_map h (λ p. p.inside));
  room = of_prop (hlevel props) (∥∥₁_map h (λ p. p.room));
  apart = apart kind page header (cell_count page header) (∥∥₁_map h (λ p. p.apart));
  tiled = tiled kind page header (∥∥₁_map h (λ p. p.tiled));
}

is_page_of : (form : Form) (leaf : Bool) (page : ℕ) (bytes : List ℕ) → Taken (IsPageOf form leaf page bytes)
is_page_of form leaf page bytes h =
    record { sound = is_page _ bytes _ (∥∥₁_map h (λ p. p.sound)); size = of_prop (hlevel props) (∥∥₁_map h (λ p. p.size)) }

each_child : (P : ℕ → Type 0) → ((n : ℕ) → Taken (P n)) → (cells : List (List ℕ)) (last : ℕ) → Taken (EachChild P cells last)
each_child P each [] last = each last
each_child P each (cell ∷ cells) last = of_both (each (cell_child cell)) (each_child P each cells last)

is_tree : (form : Form) (part : Part) (height page : ℕ) → Taken (IsTree form part height page)
is_tree form part zero page = λ h. (
  is_page_of form true page (part page) (∥∥₁_map h (λ x. x.0)),
  tt,
  of_prop (hlevel props) (∥∥₁_map h (λ x. x.2)),
  of_prop (hlevel props) (∥∥₁_map h (λ x. x.3)),
)
is_tree form part (suc height) page = λ h. (
  is_page_of form false page (part page) (∥∥₁_map h (λ x. x.0)),
  each_child (IsTree form part height) (is_tree form part height) (cells_of form false part page) (right_of part page) (∥∥₁_map h (λ x. x.1)),
  of_prop (hlevel props) (∥∥₁_map h (λ x. x.2)),
  of_prop (hlevel props) (∥∥₁_map h (λ x. x.3)),
)

has_children : (form : Form) (part : Part) (height : ℕ) (cells : List (List ℕ)) (last : ℕ) → Taken (HasChildren form part height cells last)
has_children form part zero cells last = λ _. tt
has_children form part (suc height) cells last = each_child (IsTree form part height) (is_tree form part height) cells last

pub is_root : (form : Form) (part : Part) (height page : ℕ) → Taken (IsRoot form part height page)
is_root form part height page h = record {
  top = of_both (is_page_of form (is_leaf_at height) page (part page)) (has_children form part height (top_cells form part height page) (right_of part page)) (∥∥₁_map h (λ r. r.top));
  shallow = of_prop (hlevel props) (∥∥₁_map h (λ r. r.shallow));
  full = of_either (cases_eq height 0) (of_either (lt_cases 0 (length (top_cells form part height page))) (of_prop (hlevel props))) (∥∥₁_map h (λ r. r.full));
}

is_chain : (layout : Layout) (usable : ℕ) (row : List ℕ) (fuel page left : ℕ) → Taken (IsChain layout usable row fuel page left)
is_chain layout usable row zero page left = of_prop (hlevel props)
is_chain layout usable row (suc fuel) page left =
    of_either (both_cases (cases_eq left 0) (cases_eq page 0)) (λ h. (
      of_prop (hlevel props) (∥∥₁_map h (λ x. x.0)),
      of_prop (hlevel props) (∥∥₁_map h (λ x. x.1)),
      of_prop (hlevel props) (∥∥₁_map h (λ x. x.2)),
      of_prop (hlevel props) (∥∥₁_map h (λ x. x.3)),
      is_chain layout usable row fuel (u32_at (layout.spill page) 0) (left - min (usable - 4) left) (∥∥₁_map h (λ x. x.4)),
    ))

has_chain : (tree : Tree) (usable : ℕ) (layout : Layout) (row : List ℕ) → Taken (HasChain tree usable layout row)
has_chain tree usable layout row h = record {
  limit = of_prop (hlevel props) (∥∥₁_map h (λ c. c.limit));
  short = of_prop (hlevel props) (∥∥₁_map h (λ c. c.short));
  chain = is_chain layout usable row (spilled_len tree usable row) (first_overflow tree usable row) (spilled_len tree usable row) (∥∥₁_map h (λ c. c.chain));
}

pub are_chained : (form : Form) (layout : Layout) (xs : List Item) → Taken (Each (IsChained form layout) xs)
are_chained form layout = of_each (IsChained form layout) (λ x. of_all (λ _. has_chain form.tree form.usable layout (body_of x)))

tiles : (fuel : ℕ) (types : List ℕ) (left : ℕ) → Taken (TileWithin fuel types left)
tiles zero types left = of_prop (hlevel props)
tiles (suc fuel) types left = of_either (both_cases (owned_or_not types) (cases_eq left 0)) (of_both (of_prop (hlevel props)) (tiles fuel _ _))

pub is_record : (bytes : List ℕ) → Taken (IsRecord bytes)
unfolding Tile
is_record bytes h = record {
  some = of_prop (hlevel props) (∥∥₁_map h (λ r. r.some));
  within = of_prop (hlevel props) (∥∥₁_map h (λ r. r.within));
  short = of_prop (hlevel props) (∥∥₁_map h (λ r. r.short));
  narrow = of_prop (hlevel props) (∥∥₁_map h (λ r. r.narrow));
  tiled = tiles _ _ _ (∥∥₁_map h (λ r. r.tiled));
}

on_chain : (spill : Part) (usable fuel page left n : ℕ) → IsOnChain spill usable fuel page left n ⊎ ¬ (IsOnChain spill usable fuel page left n)
on_chain spill usable zero page left n = inr (λ x. x)
on_chain spill usable (suc fuel) page left n =
    both_cases (lt_cases 0 left) (either_cases (cases_eq n page) (on_chain spill usable fuel (u32_at (spill page) 0) (left - min (usable - 4) left) n))

-- a page is on the chain of one of these rows, or of none
pub link_among : (tree : Tree) (usable : ℕ) (spill : Part) (items : List Item) (n : ℕ) → IsLinkAmong tree usable spill items n ⊎ ¬ (IsLinkAmong tree usable spill items n)
link_among tree usable spill [] n = inr (λ l. l.among)
link_among tree usable spill (x ∷ xs) n =
    elim (both_cases (row_cases (is_row x)) (on_chain spill usable (spilled_len tree usable (body_of x)) (first_overflow tree usable (body_of x)) (spilled_len tree usable (body_of x)) n)) [
      | inl here ↦ inl (record { row = x; among = inl refl; a_row = here.0; link = here.1 })
      | inr never ↦ elim (link_among tree usable spill xs n) [
        | inl l ↦ inl (record { row = l.row; among = inr l.among; a_row = l.a_row; link = l.link })
        | inr none ↦ inr (λ l. elim l.among [
          | inl e ↦ never (rw (← e) (l.a_row, l.link))
          | inr at ↦ none (record { row = l.row; among = at; a_row = l.a_row; link = l.link })
        ])
      ]
    ]
  where
    row_cases : (b : Bool) → (b ≡ true) ⊎ ¬ (b ≡ true)
    row_cases true = inl refl
    row_cases false = inr (λ e. cc)

some_child : (P : ℕ → Type 0) → ((n : ℕ) → P n ⊎ ¬ (P n)) → (cells : List (List ℕ)) (last : ℕ) → SomeChild P cells last ⊎ ¬ (SomeChild P cells last)
some_child P each [] last = each last
some_child P each (cell ∷ cells) last = either_cases (each (cell_child cell)) (some_child P each cells last)

-- a page is in a tree or not
pub reaches : (form : Form) (part : Part) (height page n : ℕ) → Reaches form part height page n ⊎ ¬ (Reaches form part height page n)
reaches form part zero page n = cases_eq n page
reaches form part (suc height) page n =
    either_cases (cases_eq n page) (some_child (λ child. Reaches form part height child n) (λ child. reaches form part height child n) (cells_of form false part page) (right_of part page))
