use Rattle.std.proofs.Common.{rules, ◌≡◌, ◌<◌, ◌^◌, ◌++◌, length, take, drop, refl, ap, sym, subst, ◌∙◌, arith}
use Rattle.std.proofs.lemmas.List.{append_assoc}
use Rattle.std.proofs.lemmas.Result.{err_from_is_err_and}
use Rattle.merkle_bytes.specs.Keys.{shareable, kept_of, front_bytes, key_behind, GoOnApart}
use Rattle.merkle_bytes.specs.RunTelling.{shared_within}
use Rattle.merkle_bytes.specs.Refusals.{IsMalformed}
use Rattle.merkle_bytes.specs.declared.error.Expected.TheVariants.{Front, Key}
use Rattle.merkle_bytes.proofs.KeyParts.{SharesNoMore, shares_no_more, kept_behind, behind_parts, counts_fit, parts_told, counts_told, key_is}
use Rattle.merkle_bytes.proofs.Later.{refused_here, refused_later, total_was}
use Rattle.merkle_bytes.proofs.key_run.KeyRun.decode.Goals as goal

pub returns-in_err-kept-clause-malformed : goal.returns-in_err-kept-clause-malformed
returns-in_err-kept-clause-malformed g c =
    let p = err_from_is_err_and c.from_residual.result c.from_residual.ensures.1 in
    let last = c.args.self.now in
    let left = c.args.reader.now.left.now in
    let low : length left < 2 ^ 64 = search rules in
    rw (p.1, p.2) (λ malformed key rest of e.
    let k = g.K.Encode.encoding key in
    let fit = counts_fit last k left rest low e in
    c.in_err-kept.ensures.malformed malformed _ _ _ fit.0 fit.1 (behind_parts last k left rest e))

pub returns-in_err-rest-clause-refused : goal.returns-in_err-rest-clause-refused
returns-in_err-rest-clause-refused g c =
    let p = err_from_is_err_and c.from_residual-in_err-rest.result c.from_residual-in_err-rest.ensures.1 in
    rw (p.1, p.2) (refused_later c.args.reader.now.total c.args.reader.now.left.now (front_bytes c.in_ok-kept.kept c.in_ok-kept.more) c.front.new.self.left.now c.in_err-rest.field-0.0
    c.in_ok-kept.ensures.read (total_was c.front.new.self.total c.args.reader.now.total c.front.new.self.left.now c.in_err-rest.field-0.0 c.in_ok-kept.ensures.total c.in_err-rest.ensures.refused))

pub returns-in_err-rest-clause-malformed : goal.returns-in_err-rest-clause-malformed
returns-in_err-rest-clause-malformed g c =
    let p = err_from_is_err_and c.from_residual-in_err-rest.result c.from_residual-in_err-rest.ensures.1 in
    rw (p.1, p.2) (λ malformed key rest of e.
    let enough = counts_told c.args.self.now (g.K.Encode.encoding key) c.args.reader.now.left.now rest c.front.new.self.left.now c.in_ok-kept.kept c.in_ok-kept.more c.in_ok-kept.ensures.read e in
    absurd (omega (arith, enough.1, c.in_err-rest.ensures.malformed malformed)))

pub returns-then-kept-part_len-clause-malformed : goal.returns-then-kept-part_len-clause-malformed
returns-then-kept-part_len-clause-malformed g c = λ malformed key rest of e.
    let last = c.args.self.now in
    let k = g.K.Encode.encoding key in
    let same = counts_told last k c.args.reader.now.left.now rest c.front.new.self.left.now c.in_ok-kept.kept c.in_ok-kept.more c.in_ok-kept.ensures.read e in
    let part_is : c.shareable-part.result.now ≡ shareable last = c.shareable-part.ensures ∙ ap shareable (c.deref.ensures.value ∙ c.self.view_is) in
    absurd (omega (arith, same.0, (shared_within (shareable last) k).0, c.if-kept-part_len.true, ap length part_is))

pub returns-then-not-go_on_apart-clause-refused : goal.returns-then-not-go_on_apart-clause-refused
returns-then-not-go_on_apart-clause-refused g c =
    let total = c.args.reader.now.total in
    let left = c.args.reader.now.left.now in
    let rest = c.slice.new.self.left.now in
    refused_later total left (front_bytes c.in_ok-kept.kept c.in_ok-kept.more ++ c.in_ok-rest.rest.now) rest c.unexpected-then-not-go_on_apart.result
    (c.in_ok-kept.ensures.read ∙ ap (λ t. front_bytes c.in_ok-kept.kept c.in_ok-kept.more ++ t) c.in_ok-rest.ensures.read
    ∙ sym (append_assoc (front_bytes c.in_ok-kept.kept c.in_ok-kept.more) c.in_ok-rest.rest.now rest))
    (refused_here c.slice.new.self.total total rest Front c.unexpected-then-not-go_on_apart.result
    (c.in_ok-rest.ensures.total ∙ c.in_ok-kept.ensures.total) c.unexpected-then-not-go_on_apart.ensures tt)

pub returns-then-not-go_on_apart-clause-malformed : goal.returns-then-not-go_on_apart-clause-malformed
returns-then-not-go_on_apart-clause-malformed g c = λ malformed key rest of e.
    let last = c.args.self.now in
    let k = g.K.Encode.encoding key in
    let own = c.in_ok-rest.rest.now in
    let told = parts_told last k c.args.reader.now.left.now rest own c.slice.new.self.left.now c.in_ok-kept.kept c.in_ok-kept.more c.in_ok-rest.ensures.len
    (c.in_ok-kept.ensures.read ∙ ap (λ t. front_bytes c.in_ok-kept.kept c.in_ok-kept.more ++ t) c.in_ok-rest.ensures.read) e in
    let part_is : c.shareable-part.result.now ≡ shareable last = c.shareable-part.ensures ∙ ap shareable (c.deref.ensures.value ∙ c.self.view_is) in
    let after : c.split_at.result.1.now ≡ drop (kept_of last k) (shareable last) = c.split_at.ensures.back ∙ ap (drop c.in_ok-kept.kept) part_is ∙ ap (λ n. drop n (shareable last)) told.0 in
    absurd (let wrong = c.if-not-go_on_apart.ensures.1 (rw after (rw told.1 (shares_no_more (shareable last) k).ends)) in cc)

pub returns-in-Ok-clause-read : goal.returns-in-Ok-clause-read
returns-in-Ok-clause-read g c =
    let last = c.args.self.now in
    let kept = c.in_ok-kept.kept in
    let rest = c.in_ok-rest.rest.now in
    let left = c.slice.new.self.left.now in
    let part_is : c.shareable-part.result.now ≡ shareable last = c.shareable-part.ensures ∙ ap shareable (c.deref.ensures.value ∙ c.self.view_is) in
    let no_more : SharesNoMore (shareable last) kept rest = record {
      within = omega (arith, c.if-kept-part_len.false, ap length part_is);
      ends = subst (λ t. GoOnApart t rest) (c.split_at.ensures.back ∙ ap (drop kept) part_is) (c.if-not-go_on_apart.ensures.0 refl);
    } in
    let key : g.K.Encode.encoding c.in-Ok.key ≡ take kept last ++ rest =
    sym c.in-Ok.ensures.read ∙ c.deref-2.ensures.value ∙ c.in_ok-extend_from_slice.ensures.items ∙ ap (λ t. t ++ rest) (c.truncate.ensures.items ∙ ap (take kept) c.self.view_is) in
    c.in_ok-kept.ensures.read ∙ ap (λ t. front_bytes kept c.in_ok-kept.more ++ t) c.in_ok-rest.ensures.read ∙ sym (append_assoc (front_bytes kept c.in_ok-kept.more) rest left)
    ∙ ap (λ t. t ++ left) (ap (λ n. front_bytes kept n ++ rest) (sym c.in_ok-rest.ensures.len) ∙ sym (kept_behind last rest kept no_more) ∙ ap (key_behind last) (sym key))

pub returns-in-Err-Unexpected-clause-refused : goal.returns-in-Err-Unexpected-clause-refused
returns-in-Err-Unexpected-clause-refused g c =
    let total = c.args.reader.now.total in
    let left = c.args.reader.now.left.now in
    let rest = c.slice.new.self.left.now in
    refused_later total left (front_bytes c.in_ok-kept.kept c.in_ok-kept.more ++ c.in_ok-rest.rest.now) rest c.unexpected-in-Err-Unexpected.result
    (c.in_ok-kept.ensures.read ∙ ap (λ t. front_bytes c.in_ok-kept.kept c.in_ok-kept.more ++ t) c.in_ok-rest.ensures.read
    ∙ sym (append_assoc (front_bytes c.in_ok-kept.kept c.in_ok-kept.more) c.in_ok-rest.rest.now rest))
    (refused_here c.slice.new.self.total total rest Key c.unexpected-in-Err-Unexpected.result (c.in_ok-rest.ensures.total ∙ c.in_ok-kept.ensures.total) c.unexpected-in-Err-Unexpected.ensures tt)

pub returns-in-Err-Unexpected-clause-malformed : goal.returns-in-Err-Unexpected-clause-malformed
returns-in-Err-Unexpected-clause-malformed g c = λ malformed key rest of e.
    let last = c.args.self.now in
    let k = g.K.Encode.encoding key in
    let own = c.in_ok-rest.rest.now in
    let told = parts_told last k c.args.reader.now.left.now rest own c.slice.new.self.left.now c.in_ok-kept.kept c.in_ok-kept.more c.in_ok-rest.ensures.len
    (c.in_ok-kept.ensures.read ∙ ap (λ t. front_bytes c.in_ok-kept.kept c.in_ok-kept.more ++ t) c.in_ok-rest.ensures.read) e in
    let bytes : c.deref-2.result.now ≡ take c.in_ok-kept.kept last ++ own = c.deref-2.ensures.value ∙ c.in_ok-extend_from_slice.ensures.items
    ∙ ap (λ t. t ++ own) (c.truncate.ensures.items ∙ ap (take c.in_ok-kept.kept) c.self.view_is) in
    c.in-Err-Unexpected.ensures.malformed (subst IsMalformed (sym c.in-Err-Unexpected.field-0-is) tt) key of (bytes ∙ key_is last k own c.in_ok-kept.kept told.0 told.1)
