-- Where nothing stands that can be told: what was read of the bytes tells all else that they could say.
use Rattle.std.proofs.Common.{◌≡◌, ◌≢◌, ℕ, ◌+◌, ◌<◌, Bool, true, false, cond, List, [], ◌∷◌, ◌++◌, append_assoc, append-nil, length, map, Option, Some, None, refl, sym, ap, subst, ◌∙◌, arith, ◌^◌}
use Rattle.std.proofs.lemmas.List.{length-append, length-map}
use Rattle.std.proofs.lemmas.List.Concat.{concat_is}
use Rattle.std.specs.Cmp.{IsTotalOrder}
use Rattle.std.specs.List.{AllByRecursion, concat, flat_map, AllZip}
use Rattle.std.specs.declared.cmp.Ordering.{Ordering}
use Rattle.key_order.specs.Order.{Same}
use Rattle.key_order.proofs.ListParts.{join_tells}
use Rattle.merkle_bytes.specs.Counts.{count_bytes, count_told}
use Rattle.merkle_bytes.specs.Keys.{key_behind}
use Rattle.merkle_bytes.specs.Options.{option_bytes}
use Rattle.merkle_bytes.specs.Runs.{bound_key, run_bytes, row_behind, row_key}
use Rattle.merkle_wire.specs.Coming.{AscendIn, IsPageDigest}
use Rattle.merkle_wire.specs.Fit.{IsOutlineIn, AreNodesIn, NoPage, NoRows, NoOutline, NoPart}
use Rattle.merkle_wire.specs.Gaps.{owned_gap}
use Rattle.merkle_wire.specs.Outlines.{Outline, rows_told, digests_told, page_told, outline_bytes, keys_among, keys_told, pages_bytes, nodes_bytes}
use Rattle.merkle_wire.specs.Replies.{Part, part_bytes, root_bytes}
use Rattle.merkle_wire.specs.declared.gaps.OwnedGap.{OwnedGap}
use Rattle.merkle_wire.specs.declared.wanted.Wanted.{Wanted}
use Rattle.merkle_wire.proofs.WrittenKeys.{told_as_keys}
use Rattle.merkle_wire.proofs.TellingReplies.{Fits, SameRow, keys_tell, outline_some, outline_tells, page_tells, part_tells, pages_begin, digests_begin, rows_tell, same_length}
use Rattle.merkle_wire.proofs.Outside.{ascend-same}
use Rattle.merkle_bytes.specs.Reading.{BeginsWithNo}
use Rattle.merkle_wire.proofs.Fronts.{front_told}
use Rattle.merkle_wire.specs.Messages.{front}
use Rattle.merkle_wire.specs.declared.message.Kind.TheVariants.{Root as root_kind}

-- a byte at the front, and what is after it
first_byte : (a b : ℕ) (r s : List ℕ) → a ∷ r ≡ b ∷ s → (a ≡ b) × (r ≡ s)
first_byte a b r s e = (cc, cc)

none_same : {X : Type 0} (E : X → X → Type 0) (xs : List X) → AllZip E xs [] → xs ≡ []
none_same E [] s = refl
none_same E (x ∷ xs) s = absurd s

-- the digests of nodes, one after the other, and what holds of them
pub flat_digests : {K : Type 0} (nodes : List (K × List ℕ)) → flat_map (λ d. d.1) nodes ≡ flat_map (λ d. d) (map (λ d. d.1) nodes)
flat_digests [] = refl
flat_digests (d ∷ ds) = ap (λ t. d.1 ++ t) (flat_digests ds)

pub each_digest : {K : Type 0} (n : ℕ) (nodes : List (K × List ℕ)) → AllByRecursion (λ d. length d.1 ≡ n) nodes → AllByRecursion (λ d. length d ≡ n) (map (λ d. d.1) nodes)
each_digest n [] a = tt
each_digest n (d ∷ ds) a = (a.0, each_digest n ds a.1)

module _ {K : Type 0} (encoding : K → List ℕ) (is_key : K → Type 0) where
  -- no keys after a key
  abbrev pub NoKeys : List ℕ → List ℕ → Type 0
  NoKeys last left = (keys : List K) (rest : List ℕ) → AllByRecursion is_key keys → left ≢ keys_told encoding last keys ++ rest

  abbrev wanted : List K → List (Wanted K)
  wanted [] = []
  wanted (k ∷ ks) = record { key = k } ∷ wanted ks

  wanted_back : (ks : List K) → map (λ w. w.key) (wanted ks) ≡ ks
  wanted_back [] = refl
  wanted_back (k ∷ ks) = ap (λ js. k ∷ js) (wanted_back ks)

  wanted_each : (ks : List K) → AllByRecursion is_key ks → AllByRecursion (λ w. is_key w.key) (wanted ks)
  wanted_each [] a = tt
  wanted_each (k ∷ ks) a = (a.0, wanted_each ks a.1)

  -- no list of keys that are asked for
  pub no_keys : (last left : List ℕ)
      → ((list : List (Wanted K)) (rest : List ℕ) → AllByRecursion (λ w. is_key w.key) list
      → left ≢ run_bytes (λ l w. key_behind l (encoding w.key)) (λ l w. encoding w.key) last list ++ rest) → NoKeys last left
  no_keys last left none keys rest are e =
      none (wanted keys) rest (wanted_each keys are) (e ∙ ap (λ t. t ++ rest) (ap (keys_told encoding last) (sym (wanted_back keys)) ∙ sym (told_as_keys encoding last (wanted keys))))

module _ {K : Type 0} (cmp : K → K → Ordering) (o : IsTotalOrder cmp) (encoding : K → List ℕ) (tells : (x y : K) → encoding x ≡ encoding y → Same cmp x y) (is_key : K → Type 0) where
  -- what stands after keys that were read
  behind_keys : (last : List ℕ) (keys others : List K) (tail left rest more : List ℕ) → left ≡ keys_told encoding last keys ++ rest → left ≡ (keys_told encoding last others ++ tail) ++ more
      → AllZip (Same cmp) others keys × (rest ≡ tail ++ more)
  behind_keys last keys others tail left rest more read e =
      let both = keys_tell cmp encoding tells last others keys (tail ++ more) rest (sym (append_assoc (keys_told encoding last others) tail more) ∙ sym e ∙ read) in
      (both.0, sym both.1)

  module _ (n : ℕ) (last : List ℕ) (gap : OwnedGap K) (left : List ℕ) where
    pub no_nodes : NoKeys encoding is_key last left → BeginsWithNo (nodes_bytes encoding last) (AreNodesIn cmp is_key n (owned_gap gap)) left
    no_nodes none nodes more are e =
        none (keys_among nodes) (flat_map (λ d. d.1) nodes ++ more) (each_key nodes are.1) (e ∙ append_assoc (keys_told encoding last (keys_among nodes)) (flat_map (λ d. d.1) nodes) more)
      where
        each_key : (ns : List (K × List ℕ)) → AllByRecursion (λ d. is_key d.0) ns → AllByRecursion is_key (keys_among ns)
        each_key [] a = tt
        each_key (d ∷ ds) a = (a.0, each_key ds a.1)

    module _ (keys : List K) (rest : List ℕ) (read : left ≡ keys_told encoding last keys ++ rest) where
      pub no_nodes-outside : ¬ AscendIn cmp (owned_gap gap) keys → BeginsWithNo (nodes_bytes encoding last) (AreNodesIn cmp is_key n (owned_gap gap)) left
      no_nodes-outside not nodes more are e =
          not (ascend-same cmp o (owned_gap gap) (keys_among nodes) keys (behind_keys last keys (keys_among nodes) (flat_map (λ d. d.1) nodes) left rest more read e).0 are.0)

      pub no_nodes-digests : BeginsWithNo concat (λ digests. (length digests ≡ (length keys)) × AllByRecursion (λ d. length d ≡ n) digests) rest
          → BeginsWithNo (nodes_bytes encoding last) (AreNodesIn cmp is_key n (owned_gap gap)) left
      no_nodes-digests none nodes more are e =
          let both = behind_keys last keys (keys_among nodes) (flat_map (λ d. d.1) nodes) left rest more read e in
          none (map (λ d. d.1) nodes) more (
            length-map nodes (λ d. d.1) ∙ sym (length-map nodes (λ d. d.0)) ∙ same_length cmp (keys_among nodes) keys both.0,
            each_digest n nodes are.2,
          ) (both.1 ∙ ap (λ t. t ++ more) (flat_digests nodes ∙ sym (concat_is (map (λ d. d.1) nodes))))

  module _ (last : List ℕ) (gap : OwnedGap K) (left : List ℕ) where
    module _ (first mid : List ℕ) (read : left ≡ first ++ mid) (long : length first ≡ 16) where
      behind_digest : (digest : List ℕ) (keys : List K) (pages : List (Option (List ℕ))) (more : List ℕ) → length digest ≡ 16
          → left ≡ (digest ++ (keys_told encoding last keys ++ pages_bytes pages)) ++ more
          → mid ≡ (keys_told encoding last keys ++ pages_bytes pages) ++ more
      behind_digest digest keys pages more l e =
          let rest = keys_told encoding last keys ++ pages_bytes pages in
          (join_tells first digest mid (rest ++ more) (long ∙ sym l) (sym read ∙ e ∙ append_assoc digest rest more)).1

      pub no_page-keys : NoKeys encoding is_key last mid → NoPage cmp is_key encoding last gap left
      no_page-keys none digest keys pages more is e =
          none keys (pages_bytes pages ++ more) is.2 (behind_digest digest keys pages more is.3 e ∙ append_assoc (keys_told encoding last keys) (pages_bytes pages) more)

      module _ (keys : List K) (rest : List ℕ) (then : mid ≡ keys_told encoding last keys ++ rest) where
        pub no_page-empty : keys ≡ [] → NoPage cmp is_key encoding last gap left
        no_page-empty none digest others pages more is e =
            let both = behind_keys last keys others (pages_bytes pages) mid rest more then (behind_digest digest others pages more is.3 e) in
            is.0 (none_same (Same cmp) others (subst (AllZip (Same cmp) others) none both.0))

        pub no_page-outside : ¬ AscendIn cmp (owned_gap gap) keys → NoPage cmp is_key encoding last gap left
        no_page-outside not digest others pages more is e =
            let both = behind_keys last keys others (pages_bytes pages) mid rest more then (behind_digest digest others pages more is.3 e) in
            not (ascend-same cmp o (owned_gap gap) others keys both.0 is.1)

        pub no_page-pages : BeginsWithNo pages_bytes (λ pages. (length pages ≡ (length keys + 1)) × AllByRecursion IsPageDigest pages) rest → NoPage cmp is_key encoding last gap left
        no_page-pages none digest others pages more is e =
            let both = behind_keys last keys others (pages_bytes pages) mid rest more then (behind_digest digest others pages more is.3 e) in
            none pages more (is.4 ∙ ap (λ m. m + 1) (same_length cmp others keys both.0), is.5) both.1

module _ {K V : Type 0} (cmp : K → K → Ordering) (o : IsTotalOrder cmp) (eq : V → V → Bool) (encoding : K → List ℕ) (values : V → List ℕ) (tells : (x y : K) → encoding x ≡ encoding y → Same cmp x y)
    (tell_value : (x y : V) (r s : List ℕ) → values x ++ r ≡ values y ++ s → (eq x y ≡ true) × (r ≡ s)) (is_key : K → Type 0) (is_value : V → Type 0) where
  keys_alike : (rs ss : List (K × V)) → AllZip (SameRow cmp eq) rs ss → AllZip (Same cmp) (map (λ r. r.0) rs) (map (λ r. r.0) ss)
  keys_alike [] [] s = tt
  keys_alike [] (b ∷ bs) s = absurd s
  keys_alike (a ∷ rs) [] s = absurd s
  keys_alike (a ∷ rs) (b ∷ bs) s = (s.0.0, keys_alike rs bs s.1)

  abbrev rows_bytes : List ℕ → List (K × V) → List ℕ
  rows_bytes = run_bytes (row_behind encoding values) (row_key encoding)

  module _ (last : List ℕ) (gap : OwnedGap K) (left : List ℕ) (rows : List (K × V)) (rest : List ℕ) (read : left ≡ rows_bytes last rows ++ rest) where
    -- rows that were read don't ascend in the gap
    pub no_rows-outside : ¬ AscendIn cmp (owned_gap gap) (map (λ r. r.0) rows) → NoRows cmp is_key is_value encoding values last gap left
    no_rows-outside not others more are e =
        let both = rows_tell cmp eq encoding values tells tell_value last others rows more rest (sym e ∙ read) in
        not (ascend-same cmp o (owned_gap gap) (map (λ r. r.0) others) (map (λ r. r.0) rows) (keys_alike others rows both.0) are.0)

  module _ (n : ℕ) (with_pages : Bool) (gap : OwnedGap K) (left : List ℕ) where
    abbrev front_key : List ℕ
    front_key = bound_key encoding [] gap.after

    pub no_outline-none : length left < 1 → NoOutline cmp is_key is_value encoding values n with_pages gap left
    no_outline-none short told more is e = omega
        (arith, short, ap length e, outline_some cmp eq encoding values tells tell_value front_key told, length-append (outline_bytes encoding values front_key told) more)

    -- what a kind of outlines can't say is not said at all
    pub no_outline : (kind : ℕ) (mid : List ℕ) → left ≡ kind ∷ mid → (kind ≡ 0 → NoRows cmp is_key is_value encoding values front_key gap mid)
        → (kind ≡ 1 → BeginsWithNo (nodes_bytes encoding front_key) (AreNodesIn cmp is_key n (owned_gap gap)) mid)
        → (kind ≡ 2 → with_pages ≡ true → NoPage cmp is_key encoding front_key gap mid) → NoOutline cmp is_key is_value encoding values n with_pages gap left
    no_outline kind mid read rows nodes page (rows_told rs) more is e =
        let both = first_byte kind 0 mid (rows_bytes front_key rs ++ more) (sym read ∙ e) in rows both.0 rs more is both.1
    no_outline kind mid read rows nodes page (digests_told ns) more is e =
        let both = first_byte kind 1 mid ((keys_told encoding front_key (keys_among ns) ++ flat_map (λ d. d.1) ns) ++ more) (sym read ∙ e) in nodes both.0 ns more is both.1
    no_outline kind mid read rows nodes page (page_told digest keys pages) more is e =
        let both = first_byte kind 2 mid ((digest ++ (keys_told encoding front_key keys ++ pages_bytes pages)) ++ more) (sym read ∙ e) in page both.0 is.0 digest keys pages more is.1 both.1

  module _ (gap : OwnedGap K) (left : List ℕ) where
    abbrev gap_key : List ℕ
    gap_key = bound_key encoding [] gap.after

    -- a part begins with rows
    part_begins : (part : Part K V) (more : List ℕ) → left ≡ part_bytes encoding values gap_key part ++ more → left ≡ rows_bytes gap_key part.rows ++ (cond part.whole 1 0 ∷ more)
    part_begins part more e = e ∙ append_assoc (rows_bytes gap_key part.rows) (cond part.whole 1 0 ∷ []) more

    pub no_part : NoRows cmp is_key is_value encoding values gap_key gap left → NoPart cmp is_key is_value encoding values gap left
    no_part none part more is e = none part.rows (cond part.whole 1 0 ∷ more) is.0 (part_begins part more e)

    module _ (rows : List (K × V)) (rest : List ℕ) (read : left ≡ rows_bytes gap_key rows ++ rest) where
      behind_rows : (part : Part K V) (more : List ℕ) → left ≡ part_bytes encoding values gap_key part ++ more → AllZip (SameRow cmp eq) part.rows rows × (rest ≡ cond part.whole 1 0 ∷ more)
      behind_rows part more e =
          let both = rows_tell cmp eq encoding values tells tell_value gap_key part.rows rows (cond part.whole 1 0 ∷ more) rest (sym (part_begins part more e) ∙ read) in
          (both.0, sym both.1)

      pub no_part-flag : ((flag : Bool) (more : List ℕ) → rest ≢ cond flag 1 0 ∷ more) → NoPart cmp is_key is_value encoding values gap left
      no_part-flag none part more is e = none part.whole more (behind_rows part more e).1

      -- a part of a gap has a row
      pub no_part-empty : (behind : List ℕ) → rest ≡ 0 ∷ behind → rows ≡ [] → NoPart cmp is_key is_value encoding values gap left
      no_part-empty behind flag none part more is e =
          let both = behind_rows part more e in
          is.1 (cut part.whole (sym flag ∙ both.1)) (none_same (SameRow cmp eq) part.rows (subst (AllZip (SameRow cmp eq) part.rows) none both.0))
        where
          cut : (whole : Bool) → 0 ∷ behind ≡ cond whole 1 0 ∷ more → whole ≡ false
          cut true f = absurd (omega (arith, (first_byte 0 1 behind more f).0))
          cut false f = refl

-- what was read and what could be said of the same end at one place
module _ {K V : Type 0} (cmp : K → K → Ordering) (eq : V → V → Bool) (encoding : K → List ℕ) (values : V → List ℕ) (tells : (x y : K) → encoding x ≡ encoding y → Same cmp x y)
    (tell_value : (x y : V) (r s : List ℕ) → values x ++ r ≡ values y ++ s → (eq x y ≡ true) × (r ≡ s)) where
  pub outlines_end : (is_key : K → Type 0) (is_value : V → Type 0) (n : ℕ) (with_pages : Bool) (gap : OwnedGap K) (y z : Outline K V) (r s : List ℕ) → Fits n y
      → IsOutlineIn cmp is_key is_value n with_pages (owned_gap gap) z
      → outline_bytes encoding values (bound_key encoding [] gap.after) y ++ r ≡ outline_bytes encoding values (bound_key encoding [] gap.after) z ++ s → r ≡ s
  outlines_end is_key is_value n with_pages gap y z r s f is e = (outline_tells cmp eq encoding values tells tell_value n (bound_key encoding [] gap.after) y z r s f (fits z is) e).1
    where
      fits : (x : Outline K V) → IsOutlineIn cmp is_key is_value n with_pages (owned_gap gap) x → Fits n x
      fits (rows_told rows) is = tt
      fits (digests_told nodes) is = is.2
      fits (page_told digest keys pages) is = (is.1.3, omega (arith, is.1.4), is.1.5)

  pub parts_end : (gap : OwnedGap K) (y z : Part K V) (r s : List ℕ) → part_bytes encoding values (bound_key encoding [] gap.after) y ++ r ≡ part_bytes encoding values
      (bound_key encoding [] gap.after) z ++ s → r ≡ s
  parts_end gap y z r s e = (part_tells cmp eq encoding values tells tell_value (bound_key encoding [] gap.after) y z r s e).1

-- the digest of a page begins with a flag
pub no_page_digest : (left : List ℕ) → ((flag : Bool) (more : List ℕ) → left ≢ cond flag 1 0 ∷ more) → BeginsWithNo (option_bytes (λ d. d)) IsPageDigest left
no_page_digest left none None rest is e = none false rest e
no_page_digest left none (Some d) rest is e = none true (d ++ rest) e

-- this many digests, one more than were read
pub no_digests : (n count : ℕ) (left rest : List ℕ) (ds : List (List ℕ)) → left ≡ flat_map (λ d. d) ds ++ rest → AllByRecursion (λ d. length d ≡ n) ds → length ds < count
    → length rest < n → BeginsWithNo concat (λ digests. (length digests ≡ count) × AllByRecursion (λ d. length d ≡ n) digests) left
no_digests n count left rest ds read are few short others more (many, long) e =
    let behind = digests_begin n ds others rest more are long (omega (arith, few, many)) (sym read ∙ e ∙ ap (λ t. t ++ more) (concat_is others)) in omega (arith, short, behind)

-- this many digests of pages
pub no_pages : (count : ℕ) (left rest : List ℕ) (ps : List (Option (List ℕ))) → left ≡ pages_bytes ps ++ rest → AllByRecursion IsPageDigest ps → length ps < count
    → BeginsWithNo (option_bytes (λ d. d)) IsPageDigest rest → BeginsWithNo pages_bytes (λ pages. (length pages ≡ count) × AllByRecursion IsPageDigest pages) left
no_pages count left rest ps read are few none others more (many, long) e =
    let (page, behind, is, f) = pages_begin ps others rest more are long (omega (arith, few, many)) (sym read ∙ e) in none page behind is f

-- a reply says the number of rows, and the digest of the root page, or none
abbrev pub SaysRoot : List ℕ → Type 0
SaysRoot reply = (count : ℕ) × (digest : Option (List ℕ)) × (count < 2 ^ 64) × IsPageDigest digest × (reply ≡ root_bytes count digest)

-- the number of rows was read, and after it no digest of a page stands
pub no_root-digest : (reply : List ℕ) (count : ℕ) (left rest : List ℕ) → reply ≡ front root_kind ++ left → left ≡ count_bytes count ++ rest
    → BeginsWithNo (option_bytes (λ d. d)) IsPageDigest rest → ¬ SaysRoot reply
no_root-digest reply count left rest begins read none (number, digest, few, is, said) =
    let page = option_bytes (λ d. d) digest in
    none digest [] is ((count_told count number rest page (sym read ∙ (front_told root_kind root_kind left (count_bytes number ++ page) (sym begins ∙ said)).1)).1 ∙ sym (append-nil page))

-- or more stands after that
pub no_root-end : (reply : List ℕ) (count : ℕ) (digest : Option (List ℕ)) (left middle rest : List ℕ) → reply ≡ front root_kind ++ left → left ≡ count_bytes count ++ middle
    → middle ≡ option_bytes (λ d. d) digest ++ rest → IsPageDigest digest → rest ≢ [] → ¬ SaysRoot reply
no_root-end reply count digest left middle rest begins read then is more (number, other, few, of, said) =
    let page = option_bytes (λ d. d) other in
    let e = (front_told root_kind root_kind left (count_bytes number ++ page) (sym begins ∙ said)).1 in
    more (page_tells digest other rest [] is of (sym then ∙ (count_told count number middle page (sym read ∙ e)).1 ∙ sym (append-nil page))).1
