use Rattle.std.proofs.Common.{rules, ◌≡◌, ℕ, suc, [], ◌++◌, ◌-◌, ◌<◌, ◌≤◌, ◌==◌, length, true, false, Some, sym, ap, subst, ◌∙◌, arith}
use Rattle.merkle_digest.specs.Level.{level_of}
use Rattle.merkle_digest.specs.Sip24.{Holds}
use Rattle.merkle_digest.specs.SipHash.{siphash128, zero_key}
use Rattle.merkle_tree_theory.specs.Stream.{head_bytes, key_bytes}
use Rattle.test_trees.specs.Defined.{written_gap}
use Rattle.test_trees.proofs.Scan.{left, node-step, run-step, last-step, gap-here, gap-lower}
use Rattle.test_trees.proofs.defined.+defined_digest.Goals as goal
use Rattle.test_trees.proofs.defined.+defined_digest.Goals.{then-level_of_key-page_level, else-level_of_key-page_level}

pub pairs-preserved : goal.pairs-preserved
pairs-preserved g t c =
    let f = c.args.format in
    let b = g.K.KeyBytes.bytes_of in
    let lev : g.row.K.Denot → ℕ = λ key. level_of (g.H.Hasher.digest_of c.args.hasher.now key) 16 in
    let n = c.args.bound - 1 in
    let ps = c.args.pairs.now in
    let i = c.pairs.i in
    let p = c.index-pairs-i.result in
    let before = c.pairs.invariant.1.0 in
    let r : i < length ps = omega arith in
    elim c.if-level_of_key-page_level.branch [
      | then-level_of_key-page_level w ↦
          let gap = w.defined_digest-gap.result in
          let here : (lev p.0 == n) ≡ true = search rules in
          let holds = w.write.ensures zero_key _ (w.write_key.ensures zero_key _ (w.write_gap.ensures zero_key before c.pairs.invariant.1.1)) in
          let sip = w.write.new.self in
          let digest_is : Holds sip zero_key (((before ++ written_gap f gap) ++ key_bytes f w.key_bytes.result.now) ++ p.1) =
          subst (λ ds. Holds sip zero_key (((before ++ written_gap f gap) ++ key_bytes f w.key_bytes.result.now) ++ ds)) w.as_bytes.ensures holds in
          let key_is : Holds sip zero_key (((before ++ written_gap f gap) ++ key_bytes f (b p.0)) ++ p.1) =
          subst (λ ks. Holds sip zero_key (((before ++ written_gap f gap) ++ key_bytes f ks) ++ p.1)) w.key_bytes.ensures digest_is in (
            omega (arith, w.start-is),
            (
              ((before ++ written_gap f gap) ++ key_bytes f (b p.0)) ++ p.1,
              subst (λ s. Holds s zero_key (((before ++ written_gap f gap) ++ key_bytes f (b p.0)) ++ p.1)) (sym w.sip-is) key_is,
              node-step f b lev n ps c.pairs.start i c.if-level_of_key-page_level.start p before gap
                  (head_bytes f n c.count_at-count.result ++ left f b lev n [] ps) r c.index-pairs-i.is here w.start-is w.defined_digest-gap.ensures c.pairs.invariant.1.2,
            ),
          )
      | else-level_of_key-page_level w ↦
          let other : (lev p.0 == n) ≡ false = search rules in (
            omega (arith, w.start-is),
            (
              before,
              subst (λ s. Holds s zero_key before) (sym w.sip-is) c.pairs.invariant.1.1,
              run-step f b lev n ps c.pairs.start i c.if-level_of_key-page_level.start p before
                  (head_bytes f n c.count_at-count.result ++ left f b lev n [] ps) c.pairs.invariant.0 r c.index-pairs-i.is other w.start-is c.pairs.invariant.1.2,
            ),
          )
    ]

pub returns : goal.returns
returns g t c =
    let f = c.args.format in
    let b = g.K.KeyBytes.bytes_of in
    let lev : g.row.K.Denot → ℕ = λ key. level_of (g.H.Hasher.digest_of c.args.hasher.now key) 16 in
    let n = c.args.bound - 1 in
    let ps = c.args.pairs.now in
    let high = c.defined_digest-high in
    let r : c.pairs.i ≡ length ps = omega arith in
    let above : c.args.bound ≡ suc n = omega arith in
    let stream = last-step f b lev n ps c.pairs.start c.pairs.i c.pairs.invariant.1.0 high.result
    (head_bytes f n c.count_at-count.result ++ left f b lev n [] ps) r high.ensures c.pairs.invariant.1.2 in
    let digest = c.new.ensures ∙ (c.finish128.ensures zero_key _ (c.write_gap-2.ensures zero_key _ c.pairs.invariant.1.1) ∙ ap (siphash128 zero_key) stream) in
    let some : 1 ≤ c.count_at-count.result = omega arith in
    ap Some digest ∙ ap (λ k. Some (siphash128 zero_key (head_bytes f n k ++ left f b lev n [] ps))) c.count_at-count.ensures
    ∙ sym (gap-here f b lev n c.args.bound ps above (subst (λ k. 1 ≤ k) c.count_at-count.ensures some))

pub returns-then-count-eq0 : goal.returns-then-count-eq0
returns-then-count-eq0 g t c =
    let lev : g.row.K.Denot → ℕ = λ key. level_of (g.H.Hasher.digest_of c.args.hasher.now key) 16 in
    let above : c.args.bound ≡ suc (c.args.bound - 1) = omega arith in
    let none : c.count_at-count.result ≡ 0 = omega arith in
    c.defined_digest.ensures ∙ sym (gap-lower c.args.format g.K.KeyBytes.bytes_of lev (c.args.bound - 1) c.args.bound c.args.pairs.now above (sym c.count_at-count.ensures ∙ none))
