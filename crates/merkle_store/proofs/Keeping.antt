-- The rows in memory stay those of the file.
use Rattle.std.proofs.Common.{◌≡◌, ℕ, Bool, Option, List, [], ◌∷◌, map, ap, ◌∙◌}
use Rattle.std.specs.Ordering.{eq_by_cmp}
use Rattle.std.specs.Cmp.{IsTotalOrder, IsEquivalence}
use Rattle.key_order.specs.Map.{get}
use Rattle.key_order.specs.Join.{joined, IsJoining}
use Rattle.key_order.specs.Text.{Text as Key, text_order}
use Rattle.key_order.proofs.Values.{Eq, on, back, assoc, cong, same}
use Rattle.merkle_replica.specs.Puts.{IsPuts, join_of_values, HasGathered}
use Rattle.sqlite_trees.specs.Tree.{Trees}
use Rattle.store_file.specs.Changes.{HasMore}
use Rattle.store_file.specs.Entries.{HoldsEntries, entry_row, note_in, IsNoted}
use Rattle.store_file.specs.Registers.{register_order}
use Rattle.store_file.specs.declared.register.Register.{Register}
use Rattle.store_file.specs.declared.format.TheConstants.{FORMAT}
use Rattle.merkle_store.specs.Kept.{HoldsLatest, JoinTheSame}
use Rattle.store_file.proofs.Inserting.{holds_more}
use Rattle.merkle_store.proofs.Adding.{inserted_gather}

module _ (eq : Register → Register → Bool) (e : IsEquivalence eq) (join : Register → Register → Register) (j : IsJoining eq join) (total : IsTotalOrder text_order) where
  abbrev E : Option Register → Option Register → Type 0
  E = Eq eq e join j

  abbrev J : Option Register → Option Register → Option Register
  J = joined join

  abbrev G : List (Key × Register) → Key → Option Register
  G = join_of_values text_order eq join

  -- puts in any order gather the rows
  pub gathered_puts : (rows old now : List (Key × Register)) → IsPuts text_order eq join old rows now → HasGathered text_order eq join old rows now
  gathered_puts [] old now p = record { ascending = p.ascending; values = p.values }
  gathered_puts (r ∷ rows) old now p =
      let h = gathered_puts rows p.0 now p.2 in
      record {
        ascending = h.ascending;
        values = λ k.
            let A = get text_order old k in
            let B = G rows k in
            let R = get text_order (r ∷ []) k in
            on eq e join j (get text_order now k) (J (get text_order p.0 k) B) (J A (J R B)) (h.values k)
            (on eq e join j (J (get text_order p.0 k) B) (J (J A R) B) (J A (J R B))
            (cong eq e join j (get text_order p.0 k) (J A R) B B (p.1.values k) (same eq e join j B)) (assoc eq e join j A R B));
      }

  -- what was read is kept
  pub kept_read : (writer hash_key : List ℕ) (trees : Trees) (entries rows : List (Key × Register)) → IsNoted trees FORMAT writer hash_key → HoldsEntries trees entries
      → IsPuts text_order eq join [] entries rows → HoldsLatest eq join writer trees rows
  kept_read writer hash_key trees entries rows about held puts = record { hash_key = hash_key; about = about; entries = entries; held = held; gathered = gathered_puts entries [] rows puts }

  -- what joins the same gathers the same
  pub gathers_same : (old these those now : List (Key × Register)) → JoinTheSame eq join old these those → HasGathered text_order eq join old those now → HasGathered text_order eq join old these now
  gathers_same old these those now alike h = record {
    ascending = h.ascending;
    values = λ k.
        let A = get text_order old k in
        let N = J A (G those k) in
        let H = J A (G these k) in
        on eq e join j (get text_order now k) N H (h.values k) (back eq e join j H N (alike k));
  }

  module _ (ties : (a b : Register) → eq a b ≡ eq_by_cmp register_order a b) where
    -- entries put into the file, of which those that are there already stay, and joined in memory
    pub kept_all : (writer : List ℕ) (old new : Trees) (more rows rows' : List (Key × Register)) → HoldsLatest eq join writer old rows → HasMore (map entry_row more) old new
        → HasGathered text_order eq join rows more rows'
        → HoldsLatest eq join writer new rows'
    kept_all writer old new more rows rows' kept has joins =
        let all = holds_more old new kept.entries more kept.held has in
        record {
          hash_key = kept.hash_key;
          about = ap (map note_in) has.about ∙ kept.about;
          entries = all.0;
          held = all.1;
          gathered = record {
            ascending = joins.ascending;
            values = λ k.
                let N = get text_order rows' k in
                let A = get text_order rows k in
                let B = G kept.entries k in
                let M = G more k in
                on eq e join j N (J A M) (G all.0 k) (joins.values k)
                (on eq e join j (J A M) (J B M) (G all.0 k) (cong eq e join j A B M M (kept.gathered.values k) (same eq e join j M))
                (back eq e join j (G all.0 k) (J B M) (inserted_gather eq e join j total ties k more kept.entries all.0 all.2)));
          };
        }
