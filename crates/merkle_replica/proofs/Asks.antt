-- What `diff` answers on the page ranges of two replicas is an answer for them, with bounds of its own.
use Rattle.std.proofs.Common.{◌≡◌, ℕ, ◌+◌, ◌<◌, List, [], ◌∷◌, ◌++◌, length, take, get_or, map, sym, ◌∙◌, ap, subst}
use Rattle.std.proofs.lemmas.List.{take_more, map-append}
use Rattle.std.specs.Cmp.{IsTotalOrder}
use Rattle.std.specs.declared.cmp.Ordering.{Ordering}
use Rattle.key_order.specs.Order.{Same}
use Rattle.key_order.specs.Interval.{Span, SameSpan}
use Rattle.key_order.specs.Map.{SameMap}
use Rattle.merkle_digest.specs.Level.{level_of}
use Rattle.merkle_diff.specs.Difference.{IsAnswer}
use Rattle.merkle_diff.specs.Entry.{Entry}
use Rattle.merkle_diff.specs.Merge.{SameSpans}
use Rattle.merkle_diff.specs.TreeShape.{IsTreeShaped}
use Rattle.merkle_diff.proofs.SameAnswers.{difference-same, spares-same}
use Rattle.merkle_diff.proofs.SameEntries.{same_entries-own}
use Rattle.merkle_diff.proofs.SameWalks.{by_walk-alike}
use Rattle.merkle_tree_theory.specs.Ranges.{ranges_of}
use Rattle.merkle_tree_theory.specs.Sound.{IsSound}
use Rattle.merkle_tree_theory.specs.State.{State, map_of}
use Rattle.merkle_tree_theory.proofs.RangeShape.{tree_shaped}
use Rattle.merkle_replica.specs.Laws.{Laws}
use Rattle.merkle_replica.specs.Contents.{Contents, side, tree_map}
use Rattle.merkle_replica.specs.Steps.{IsAnswerTo}
use Rattle.merkle_replica.specs.Pulls.{IsAnswerFor}
use Rattle.merkle_replica.specs.Answers.{spans_of}

module _ {K : Type 0} (cmp : K → K → Ordering) where
  more_same : (xs ys : List (Span K)) (s t : Span K) → SameSpans cmp xs ys → SameSpan cmp s t → SameSpans cmp (xs ++ s ∷ []) (ys ++ t ∷ [])
  more_same [] [] s t e h = (h, tt)
  more_same [] (y ∷ ys) s t e h = absurd e
  more_same (x ∷ xs) [] s t e h = absurd e
  more_same (x ∷ xs) (y ∷ ys) s t e h = (e.0, more_same xs ys s t e.1 h)

  -- one more range with bounds of its own
  pub step_same : {A : Type 0} (f : A → Span K) (found : List A) (i : ℕ) (x : A) (rs rs' : List (K × K)) (first last : K) → i < length found → x ≡ get_or found i x → rs' ≡ rs ++ (first, last) ∷ []
      → SameSpans cmp (map f (take i found)) (spans_of rs) → Same cmp (f x).first first → Same cmp (f x).last last → SameSpans cmp (map f (take (i + 1) found)) (spans_of rs')
  step_same f found i x rs rs' first last h e r s k l =
      let t : take (i + 1) found ≡ take i found ++ x ∷ [] = take_more found i x h ∙ ap (λ y. take i found ++ y ∷ []) (sym e) in
      subst (λ w. SameSpans cmp w (spans_of rs')) (sym (ap (map f) t ∙ map-append f (take i found) (x ∷ [])))
      (subst (SameSpans cmp (map f (take i found) ++ f x ∷ [])) (sym (ap spans_of r ∙ map-append _ rs ((first, last) ∷ [])))
      (more_same (map f (take i found)) (spans_of rs) (f x) (record { first = first; last = last }) s (k, l)))

module _ {K V H : Type 0} (laws : Laws K V H) (o : IsTotalOrder laws.cmp) where
  -- the page ranges of a sound tree are tree-shaped
  shaped : (t : State K H) → IsSound laws.cmp laws.key_digest laws.bytes_of t → IsTreeShaped laws.cmp (ranges_of t.format laws.bytes_of t.root)
  shaped t s = tree_shaped laws.cmp o (λ k. level_of (laws.key_digest t.hasher k) t.base) t.format laws.bytes_of t.root s.canonical s.ascending

  pub answer_for : (local peer : Contents K V H) (ls ps : List (Entry K (List ℕ))) (found own : List (Span K))
      → SameMap laws.cmp (λ d e. d ≡ e) (map_of local.tree) (tree_map laws (side local)) → SameMap laws.cmp (λ d e. d ≡ e) (map_of peer.tree) (tree_map laws (side peer))
      → IsSound laws.cmp laws.key_digest laws.bytes_of local.tree → IsSound laws.cmp laws.key_digest laws.bytes_of peer.tree
      → ls ≡ ranges_of local.tree.format laws.bytes_of local.tree.root → ps ≡ ranges_of peer.tree.format laws.bytes_of peer.tree.root
      → IsAnswer laws.cmp ls ps found → SameSpans laws.cmp found own → IsAnswerFor laws (side local) (side peer) own
  answer_for local peer ls ps found own kl kp sl sp e f d same =
      record {
        local_list = ls;
        peer_list = ps;
        of_local = (local.tree.root, (sl.canonical, kl), e);
        of_peer = (peer.tree.root, (sp.canonical, kp), f);
        interval_laws = difference-same laws.cmp o ls ps found own same d.interval_laws;
        laws_on_trees = spares-same laws.cmp o ls ps found own same
            (d.laws_on_trees (subst (IsTreeShaped laws.cmp) (sym e) (shaped local.tree sl)) (subst (IsTreeShaped laws.cmp) (sym f) (shaped peer.tree sp)));
        exact_walk = by_walk-alike laws.cmp o ls ls ps ps found own (same_entries-own laws.cmp o ls) (same_entries-own laws.cmp o ps) same d.exact_walk;
      }

  -- what `diff` answers to a list that came is an answer to it, with bounds of its own
  pub answer_to : (local : Contents K V H) (ls ps theirs : List (Entry K (List ℕ))) (found own : List (Span K))
      → SameMap laws.cmp (λ d e. d ≡ e) (map_of local.tree) (tree_map laws (side local)) → IsSound laws.cmp laws.key_digest laws.bytes_of local.tree
      → ls ≡ ranges_of local.tree.format laws.bytes_of local.tree.root → ps ≡ theirs → IsAnswer laws.cmp ls ps found → SameSpans laws.cmp found own → IsAnswerTo laws (side local) theirs own
  answer_to local ls ps theirs found own kl sl e f d same =
      subst (λ qs. IsAnswerTo laws (side local) qs own) f
      (record {
        local_list = ls;
        of_local = (local.tree.root, (sl.canonical, kl), e);
        interval_laws = difference-same laws.cmp o ls ps found own same d.interval_laws;
        laws_on_trees = λ tp. spares-same laws.cmp o ls ps found own same (d.laws_on_trees (subst (IsTreeShaped laws.cmp) (sym e) (shaped local.tree sl)) tp);
        exact_walk = by_walk-alike laws.cmp o ls ls ps ps found own (same_entries-own laws.cmp o ls) (same_entries-own laws.cmp o ps) same d.exact_walk;
      })
