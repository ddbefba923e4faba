use Rattle.std.proofs.Common.{◌≡◌, ◌++◌, ◌∷◌, [], true, false, inl, inr, refl, sym, ap, subst, ◌∙◌, append-nil}
use Rattle.std.proofs.lemmas.List.{map-append}
use Rattle.merkle_search_tree.specs.Items.{lent_gap, item as item_of}
use Rattle.merkle_replica.specs.Contents.{side}
use Rattle.merkle_replica.specs.Descent.{HasSortedOut, gaps_of, keys_of}
use Rattle.merkle_replica.proofs.SideLaws.{laws_of}
use Rattle.merkle_replica.proofs.replica.Replica.sort_one.Goals as goal

pub returns-then-has_digest : goal.returns-then-has_digest
returns-then-has_digest g c = rw g.met.H.RowHasher.laws_are (
    let laws = laws_of g.K.Ord.cmp g.K.KeyBytes.bytes_of g.H.Hasher-1.digest_of g.V.PartialEq.eq g.V.Join.join_of g.H.Hasher-2.digest_of in
    let gaps = gaps_of c.args.asked.now.gaps.items in
    let keys = keys_of c.args.asked.now.keys.items in
    subst (λ e. HasSortedOut laws (side c.args.self.now) e gaps keys gaps keys) (sym (ap item_of c.in-Node.is))
    ([], [], (refl, inl ((rw g.met.H.RowHasher.laws_are at c.has_digest.ensures).0 c.if-has_digest.true, refl)), sym (append-nil gaps), sym (append-nil keys)))

pub returns-then-has_page : goal.returns-then-has_page
returns-then-has_page g c = rw g.met.H.RowHasher.laws_are (
    let laws = laws_of g.K.Ord.cmp g.K.KeyBytes.bytes_of g.H.Hasher-1.digest_of g.V.PartialEq.eq g.V.Join.join_of g.H.Hasher-2.digest_of in
    let gaps = gaps_of c.args.asked.now.gaps.items in
    let keys = keys_of c.args.asked.now.keys.items in
    subst (λ e. HasSortedOut laws (side c.args.self.now) e gaps keys gaps keys) (sym (ap item_of c.in-Page.is))
    ([], [], (refl, inl (sym (rw g.met.H.RowHasher.laws_are at c.has_page.ensures) ∙ c.if-has_page.true, refl)), sym (append-nil gaps), sym (append-nil keys)))

pub returns-in_ok-push-in-Node : goal.returns-in_ok-push-in-Node
returns-in_ok-push-in-Node g c = rw g.met.H.RowHasher.laws_are (
    let laws = laws_of g.K.Ord.cmp g.K.KeyBytes.bytes_of g.H.Hasher-1.digest_of g.V.PartialEq.eq g.V.Join.join_of g.H.Hasher-2.digest_of in
    let gaps = gaps_of c.args.asked.now.gaps.items in
    let keys = keys_of c.args.asked.now.keys.items in
    subst (λ e. HasSortedOut laws (side c.args.self.now) e gaps keys gaps (keys_of c.push.new.self.items)) (sym (ap item_of c.in-Node.is)) (
      [],
      c.in-Node.key.now ∷ [],
      (refl, inr (λ e. let never : true ≡ false = sym ((rw g.met.H.RowHasher.laws_are at c.has_digest.ensures).1 e) ∙ c.if-has_digest.false in cc, refl)),
      sym (append-nil gaps),
      ap keys_of c.in_ok-push-in-Node.ensures.items ∙ map-append (λ k. k.now) c.args.asked.now.keys.items (c.in-Node.key ∷ []),
    ))

pub returns-in_ok-push-in-Page : goal.returns-in_ok-push-in-Page
returns-in_ok-push-in-Page g c = rw g.met.H.RowHasher.laws_are (
    let laws = laws_of g.K.Ord.cmp g.K.KeyBytes.bytes_of g.H.Hasher-1.digest_of g.V.PartialEq.eq g.V.Join.join_of g.H.Hasher-2.digest_of in
    let gaps = gaps_of c.args.asked.now.gaps.items in
    let keys = keys_of c.args.asked.now.keys.items in
    subst (λ e. HasSortedOut laws (side c.args.self.now) e gaps keys (gaps_of c.push-in-Page.new.self.items) keys) (sym (ap item_of c.in-Page.is)) (
      lent_gap c.in-Page.gap ∷ [],
      [],
      (refl, inr (sym (rw g.met.H.RowHasher.laws_are at c.has_page.ensures) ∙ c.if-has_page.false, refl)),
      ap gaps_of c.in_ok-push-in-Page.ensures.items ∙ map-append lent_gap c.args.asked.now.gaps.items (c.copied.result ∷ []) ∙ ap (λ g. gaps ++ g ∷ []) c.copied.ensures,
      sym (append-nil keys),
    ))
