-- Entries that are later than what a log has for their keys, looked at one after the other.
use Rattle.std.proofs.Common.{◌≡◌, Bool, true, false, if◌then◌else◌, List, [], ◌∷◌, ◌++◌, Option, Some, None, Result, Ok, Err, length, append-nil, string_bytes, refl, sym, ap, ◌∙◌, arith}
use Rattle.std.specs.Prelude.{⊤}
use Rattle.std.specs.Cmp.{IsTotalOrder}
use Rattle.std.specs.Ordering.{eq_by_cmp, is_lt}
use Rattle.key_order.specs.Map.{SameValue, get}
use Rattle.key_order.specs.Text.{Text, text_order}
use Rattle.key_order.proofs.Bools.{is_equal}
use Rattle.sqlite_trees.specs.declared.store.Store.{Ghosts}
use Rattle.sqlite_trees.specs.Tree.{Trees}
use Rattle.store_file.specs.Latest.{IsLatestAt}
use Rattle.store_file.specs.Logs.{OnlyReads}
use Rattle.store_file.specs.Registers.{is_later, register_order}
use Rattle.store_file.specs.declared.register.Register.{Register}
use Rattle.merkle_store.specs.News.{AreNewsIn, IsNewsAt, later_entries}

-- one entry more was looked at
pub news_more : (trees : Trees) (es news : List (Text × Register)) (e : Text × Register) (later : Bool) → AreNewsIn trees es news → IsNewsAt trees e later
    → AreNewsIn trees (es ++ e ∷ []) (if later then news ++ e ∷ [] else news)
news_more trees [] news e later none is = (later, is, ([], refl, ap (λ n. if later then n ++ e ∷ [] else n) none))
news_more trees (x ∷ es) news e later (b, was, (rest, more, are)) is =
    (b, was, ((if later then rest ++ e ∷ [] else rest), news_more trees es rest e later more is, by b later are))
  where
    by : (b later : Bool) → news ≡ (if b then x ∷ rest else rest)
        → (if later then news ++ e ∷ [] else news) ≡ (if b then x ∷ (if later then rest ++ e ∷ [] else rest) else (if later then rest ++ e ∷ [] else rest))
    by true true are = ap (λ n. n ++ e ∷ []) are
    by true false are = are
    by false true are = ap (λ n. n ++ e ∷ []) are
    by false false are = are

-- at the end all entries were looked at
pub all_looked_at : {X : Type 0} (done left all : List X) → done ++ left ≡ all → length left ≡ 0 → done ≡ all
all_looked_at done [] all e h = sym (append-nil done) ∙ e
all_looked_at done (x ∷ left) all e h = absurd (omega (arith, h))

-- what reads may end with
abbrev pub ReadsSoFar : {S : Type 0} → Ghosts S → S → S → Type 0
ReadsSoFar g old new = let so_far : Result ⊤ ⊤ = Ok tt in OnlyReads g old new so_far

module _ {S : Type 0} (g : Ghosts S) where
  -- whatever a call that only reads returns
  pub reads_with : {A E : Type 0} (old new : S) (done : Result A E) → ReadsSoFar g old new → OnlyReads g old new done
  reads_with old new (Ok x) was = record { unchanged = was.unchanged; refused = λ clean o. tt; steady = was.steady; crash = was.crash }
  reads_with old new (Err why) was = record { unchanged = λ clean. tt; refused = λ clean o. was.unchanged clean; steady = was.steady; crash = was.crash }

module _ (total : IsTotalOrder register_order) (eq : Register → Register → Bool) (ties : (a b : Register) → eq a b ≡ eq_by_cmp register_order a b) where
  -- a register is later than both of two equal ones, or than none
  later_alike : (a b : Option Register) (r : Register) → SameValue (λ x y. eq x y ≡ true) a b → is_later a r ≡ is_later b r
  later_alike None None r same = refl
  later_alike None (Some y) r same = absurd same
  later_alike (Some x) None r same = absurd same
  later_alike (Some x) (Some y) r same = ap is_lt (total.congr x y r (is_equal (register_order x y) (sym (ties x y) ∙ same)))

  -- what is later than what the table has for its key is later than what rows have that tell what is found in it
  pub news_are_later : (trees : Trees) (rows : List (Text × Register))
      → ((key : Text) (found : Option Register) → IsLatestAt trees (string_bytes key) found → SameValue (λ x y. eq x y ≡ true) found (get text_order rows key))
      → (came news : List (Text × Register)) → AreNewsIn trees came news → news ≡ later_entries rows came
  news_are_later trees rows told [] news none = none
  news_are_later trees rows told (e ∷ came) news (b, (found, latest, is), (rest, more, are)) =
      let same = is ∙ later_alike found (get text_order rows e.0) e.1 (told e.0 found latest) in
      let later = is_later (get text_order rows e.0) e.1 in
      are ∙ ap (λ c. if c then e ∷ rest else rest) same ∙ ap (λ others. if later then e ∷ others else others) (news_are_later trees rows told came rest more)
