use Rattle.std.proofs.Common.{◌≡◌, ◌+◌, ◌++◌, ◌∷◌, [], length, map, arith, ap, sym, subst, ◌∙◌, rules}
use Rattle.std.proofs.lemmas.List.{map-append, length-append, length-map}
use Rattle.std.proofs.lemmas.Result.{err_from_is_err_and}
use Rattle.std.specs.List.{AllByRecursion}
use Rattle.std.specs.Vec.Iter.{into_iter_items}
use Rattle.key_order.proofs.ListParts.{each-append}
use Rattle.merkle_replica.proofs.ListIterators.{one_yielded, all_yielded}
use Rattle.merkle_wire.specs.Coming.{IsPageDigest}
use Rattle.merkle_wire.specs.Outlines.{pages_bytes}
use Rattle.merkle_wire.specs.Steps.{below_keys}
use Rattle.merkle_wire.proofs.Fronts.{refused_unread}
use Rattle.merkle_wire.proofs.NewGaps.{pages_more}
use Rattle.merkle_wire.proofs.Unfit.{no_pages}
use Rattle.merkle_wire.proofs.coming.read_pages.Goals as goal

pub keys-init : goal.keys-init
keys-init g c =
    let none = c.in_ok-below.ensures.items in
    let begun = c.args.reader.now.left.now in
    record {
      left = search rules;
      count = search rules;
      of = ap below_keys none;
      read = sym (ap (λ bs. pages_bytes (map (λ b. b.0) bs) ++ begun) none);
      digests = subst (λ bs. AllByRecursion IsPageDigest (map (λ b. b.0) bs)) (sym none) tt;
    }

pub keys-preserved : goal.keys-preserved
keys-preserved g c =
    let w = c.in-Some.wanted in
    let page = c.in_ok-page.page in
    let kept = c.keys.invariant in
    let below = c.keys.below.items in
    let more = c.in_ok-push.ensures.items in
    let pages : map (λ b. b.0) c.push.new.self.items ≡ map (λ b. b.0) below ++ page ∷ [] = ap (map (λ b. b.0)) more ∙ map-append _ below ((page, w) ∷ []) in
    let given = one_yielded c.keys.wanted-iterator c.next.new.self c.keys.yielded c.args.keys.items w c.in-Some.ensures.steps kept.left kept.count in
    record {
      left = given.0;
      count = given.1;
      of = ap below_keys more ∙ map-append _ below ((page, w) ∷ []) ∙ ap (λ ks. ks ++ w.key ∷ []) kept.of ∙ sym (map-append _ c.keys.yielded (w ∷ []));
      read = pages_more (map (λ b. b.0) below) page c.args.reader.now.left.now c.keys.reader.left.now c.decode_page.new.reader.left.now kept.read c.in_ok-page.ensures.read
          ∙ ap (λ ps. pages_bytes ps ++ c.decode_page.new.reader.left.now) (sym pages);
      digests = subst (AllByRecursion IsPageDigest) (sym pages) (each-append IsPageDigest (map (λ b. b.0) below) (page ∷ []) kept.digests (c.in_ok-page.ensures.len, tt));
    }

pub returns-clause-keys : goal.returns-clause-keys
returns-clause-keys g c =
    let kept = c.keys.invariant in
    let done = all_yielded c.keys.yielded (into_iter_items c.keys.wanted-iterator) c.args.keys.items kept.left (sym kept.count ∙ c.in-None.ensures.steps.0) in
    kept.of ∙ ap (map (λ x. x.key)) done

pub returns-clause-read : goal.returns-clause-read
returns-clause-read g c =
    pages_more (map (λ b. b.0) c.keys.below.items) c.in_ok-last.last c.args.reader.now.left.now c.keys.reader.left.now c.decode_page-2.new.reader.left.now
    c.keys.invariant.read c.in_ok-last.ensures.read

pub returns-clause-digests : goal.returns-clause-digests
returns-clause-digests g c =
    each-append IsPageDigest (map (λ b. b.0) c.keys.below.items) (c.in_ok-last.last ∷ []) c.keys.invariant.digests (c.in_ok-last.ensures.len, tt)

pub returns-in_err-page-clause-refused : goal.returns-in_err-page-clause-refused
returns-in_err-page-clause-refused g c =
    let p = err_from_is_err_and c.from_residual-in_err-page.result c.from_residual-in_err-page.ensures.1 in
    let kept = c.keys.invariant in
    let below = c.keys.below.items in
    rw (p.1, p.2) (refused_unread _ c.in_err-page.field-0.0 (λ malformed.
    no_pages (length c.args.keys.items + 1) c.args.reader.now.left.now c.keys.reader.left.now (map (λ b. b.0) below) kept.read kept.digests
    (omega (
      arith,
      length-map below (λ b. b.0),
      length-map below (λ b. b.1.key),
      length-map c.keys.yielded (λ w. w.key),
      ap length kept.of,
      ap length kept.left,
      length-append c.keys.yielded (into_iter_items c.keys.wanted-iterator),
    ))
    (c.in_err-page.ensures.malformed malformed)))

pub returns-in_err-last-clause-refused : goal.returns-in_err-last-clause-refused
returns-in_err-last-clause-refused g c =
    let p = err_from_is_err_and c.from_residual-in_err-last.result c.from_residual-in_err-last.ensures.1 in
    let kept = c.keys.invariant in
    let below = c.keys.below.items in
    rw (p.1, p.2) (refused_unread _ c.in_err-last.field-0.0 (λ malformed.
    no_pages (length c.args.keys.items + 1) c.args.reader.now.left.now c.keys.reader.left.now (map (λ b. b.0) below) kept.read kept.digests
    (omega (
      arith,
      length-map below (λ b. b.0),
      length-map below (λ b. b.1.key),
      length-map c.keys.yielded (λ w. w.key),
      ap length kept.of,
      ap length kept.left,
      length-append c.keys.yielded (into_iter_items c.keys.wanted-iterator),
    ))
    (c.in_err-last.ensures.malformed malformed)))
