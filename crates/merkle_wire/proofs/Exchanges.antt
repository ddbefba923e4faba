-- One exchange of messages: what is taken of a reply to a question, and what is asked again.
use Rattle.std.specs.Prelude.{⊤}
use Rattle.std.proofs.Common.{◌≡◌, ℕ, Bool, true, false, List, [], ◌∷◌, ◌++◌, length, map, Option, Some, None, refl, sym, ap, subst, ◌∙◌, ◌⊎◌, inl, inr}
use Rattle.std.specs.Global.{Vec}
use Rattle.std.specs.List.{AllByRecursion, flat_map, AllZip}
use Rattle.std.specs.Cmp.{IsTotalOrder, IsEquivalence}
use Rattle.std.specs.Ordering.{is_eq}
use Rattle.std.specs.declared.cmp.Ordering.{Ordering}
use Rattle.key_order.specs.Map.{get}
use Rattle.key_order.specs.Order.{AnyByRecursion, Same}
use Rattle.key_order.proofs.ListParts.{each-append, join_tells}
use Rattle.merkle_bytes.proofs.EqualByOrder.{eq_same}
use Rattle.merkle_bytes.specs.Counts.{count_bytes, count_told}
use Rattle.merkle_bytes.specs.Options.{option_bytes}
use Rattle.merkle_diff.proofs.Each.{each-with, each-all, any-split}
use Rattle.merkle_replica.specs.CatchUp.{IsLacked}
use Rattle.merkle_replica.specs.Contents.{Contents, Side, side, tree_map}
use Rattle.merkle_replica.specs.Laws.{Laws}
use Rattle.merkle_replica.proofs.Rounds.{any-append}
use Rattle.merkle_tree_theory.specs.Gap.{IsInGap}
use Rattle.merkle_tree_theory.specs.Outline.{outline_over, whole_item}
use Rattle.merkle_tree_theory.specs.Tree.{Tree}
use Rattle.merkle_wire.specs.Underway.{Found}
use Rattle.merkle_wire.specs.Gaps.{owned_gap}
use Rattle.merkle_wire.specs.Messages.{front}
use Rattle.merkle_wire.specs.Outlines.{Outline, IsTold, nodes_among}
use Rattle.merkle_wire.specs.Replies.{Part, IsReply, IsPartOf, items_over, whole_digest, outline_over_bytes, part_in_bytes, value_at_bytes}
use Rattle.merkle_wire.specs.Sessions.{IsFaithfulSession, IsNewRow}
use Rattle.merkle_wire.specs.Taking.{IsRootTaken, value_row, AddsRows, AreTaken, PartsCome, ValuesCome, AsksAgain, HasTakenReply}
use Rattle.merkle_wire.specs.declared.gaps.OwnedGap.{OwnedGap}
use Rattle.merkle_wire.specs.declared.message.Kind.{Kind}
use Rattle.merkle_wire.specs.declared.message.Kind.TheVariants.{Root as root_kind, Outlines as outlines_kind, Nodes as nodes_kind, RowsAt as rows_at_kind, RowsIn as rows_in_kind}
use Rattle.merkle_wire.specs.declared.question.Question.{Question}
use Rattle.merkle_wire.specs.declared.question.Question.TheVariants.{Root, Outlines, Nodes, RowsAt, RowsIn}
use Rattle.merkle_wire.specs.declared.wanted.Wanted.{Wanted}
use Rattle.merkle_wire.proofs.RoundCovers.{new_rows_new, new_rows_cover}
use Rattle.merkle_wire.proofs.Fitting.{found_each, fits_read, fits_sent}
use Rattle.merkle_wire.proofs.PageCovers.{AreSides, IsAbout, nodes_peers}
use Rattle.merkle_wire.proofs.StepCovers.{outlines_keep, outlines_new, outlines_cover, rows_keep, rows_among, values_theirs, values_cover, parts_theirs, parts_cover, root_covers, root_takes}
use Rattle.merkle_wire.proofs.TellingQuestions.{SameGapTold, SameWanted, SameQuestion}
use Rattle.merkle_wire.proofs.TellingReplies.{Fits, outlines_tell, parts_tell, values_tell}
use Rattle.merkle_wire.proofs.Covering.{IsAmong, AsksAbout, IsRowOfPeer}
use Rattle.merkle_wire.specs.Coming.{OutlinesCome}
use Rattle.merkle_wire.proofs.Lacking.{new_rows}
use Rattle.merkle_wire.proofs.Continued.{TellsFirst}

-- bytes tell keys and values
pub record Tell {K V H : Type 0} (laws : Laws K V H) (encoding : K → List ℕ) (values : V → List ℕ) : Type 0 where
  pub keys : (x y : K) → encoding x ≡ encoding y → Same laws.cmp x y
  pub value : (x y : V) (r s : List ℕ) → values x ++ r ≡ values y ++ s → (laws.eq x y ≡ true) × (r ≡ s)

-- bytes tell keys whose equality is that of their order
pub key_tells : {K : Type 0} (cmp : K → K → Ordering) (encoding : K → List ℕ) (eq : K → K → Bool) → ((a b : K) → eq a b ≡ is_eq (cmp a b))
    → ((x y : K) (r s : List ℕ) → encoding x ++ r ≡ encoding y ++ s → (eq x y ≡ true) × (r ≡ s)) → (x y : K) → encoding x ≡ encoding y → Same cmp x y
key_tells cmp encoding eq matches told x y e = eq_same cmp eq matches x y (told x y [] [] (ap (λ t. t ++ []) e)).0

pub tells : {K V H : Type 0} (laws : Laws K V H) (encoding : K → List ℕ) (values : V → List ℕ) (eq : K → K → Bool) → ((a b : K) → eq a b ≡ is_eq (laws.cmp a b))
    → ((x y : K) (r s : List ℕ) → encoding x ++ r ≡ encoding y ++ s → (eq x y ≡ true) × (r ≡ s))
    → ((x y : V) (r s : List ℕ) → values x ++ r ≡ values y ++ s → (laws.eq x y ≡ true) × (r ≡ s)) → Tell laws encoding values
tells laws encoding values eq matches told told_value = record { keys = key_tells laws.cmp encoding eq matches told; value = told_value }

-- what is asked again has what is left
again_asks : {K X : Type 0} (P : X → Type 0) (ask : Vec X → Question K) (left : List X) (again : Option (Question K)) → AsksAgain ask left again → AnyByRecursion P left
    → (rest : Vec X) × (again ≡ Some (ask rest)) × AnyByRecursion P rest.items
again_asks P ask left again (inl (none, e)) a = absurd (subst (AnyByRecursion P) none a)
again_asks P ask left again (inr (rest, is, some, e)) a = (rest, e, subst (AnyByRecursion P) (sym is) a)

module _ {K V H : Type 0} (laws : Laws K V H) (o : IsTotalOrder laws.cmp) (eqv : IsEquivalence laws.eq) (encoding : K → List ℕ) (values : V → List ℕ) (tell : Tell laws encoding values) (n : ℕ)
    (local : Side K V H) (peer : Contents K V H) (root : Tree K (List ℕ)) (sides : AreSides laws local (side peer) root peer.tree.root)
    (small : AllByRecursion (λ p. length p.1 ≡ n) (tree_map laws (side peer))) where
  abbrev Lacked : K → Type 0
  Lacked = IsLacked laws local (side peer)

  abbrev Theirs : K × V → Type 0
  Theirs = IsRowOfPeer laws local (side peer)

  abbrev New : K × V → Type 0
  New = IsNewRow laws local (side peer)

  abbrev Among : K → Found K V → Type 0
  Among = IsAmong laws (side peer) root

  abbrev Faithful : Type 0
  Faithful = IsFaithfulSession laws local (side peer)

  abbrev About : Bool → K → OwnedGap K → Type 0
  About with_pages k g = IsAbout laws o eqv local (side peer) root peer.tree.root sides with_pages k (owned_gap g)

  -- what is asked again asks about the key
  abbrev pub IsAgain : K → Option (Question K) → Type 0
  IsAgain k None = ⊥
  IsAgain k (Some question) = AsksAbout laws (side peer) root k question

  -- rows that are found are new, what was found before still is, and what was asked about is asked again or found
  pub record Takes (asked : Question K) (again : Option (Question K)) (before after : Found K V) : Type 0 where
    pub new : AllByRecursion New before.rows → AllByRecursion New after.rows
    pub keeps : (k : K) → Among k before → Among k after
    pub covers : Faithful → (k : K) → Lacked k → AsksAbout laws (side peer) root k asked → IsAgain k again ⊎ Among k after

  -- the same of a list of which some were told and others are left
  record TakesList {X : Type 0} (P : K → X → Type 0) (asked left : List X) (before after : Found K V) : Type 0 where
    pub new : AllByRecursion New before.rows → AllByRecursion New after.rows
    pub keeps : (k : K) → Among k before → Among k after
    pub covers : Faithful → (k : K) → Lacked k → AnyByRecursion (P k) asked → AnyByRecursion (P k) left ⊎ Among k after

  list_takes : {X : Type 0} (P : K → X → Type 0) (ask : Vec X → Question K) (asked : Vec X) (left : List X) (again : Option (Question K)) (before after : Found K V)
      → ((k : K) (xs : Vec X) → AsksAbout laws (side peer) root k (ask xs) → AnyByRecursion (P k) xs.items)
      → ((k : K) (xs : Vec X) → AnyByRecursion (P k) xs.items → AsksAbout laws (side peer) root k (ask xs))
      → AsksAgain ask left again → TakesList P asked.items left before after → Takes (ask asked) again before after
  list_takes P ask asked left again before after to from asks t = record {
    new = t.new;
    keeps = t.keeps;
    covers = λ faith k l a. go k (t.covers faith k l (to k asked a));
  }
    where
      go : (k : K) → AnyByRecursion (P k) left ⊎ Among k after → IsAgain k again ⊎ Among k after
      go k (inr a) = inr a
      go k (inl a) = let (rest, e, b) = again_asks (P k) ask left again asks a in inl (subst (IsAgain k) (sym e) (from k rest b))

  pub sent_fits : (with_pages : Bool) (us : List (OwnedGap K × Outline K V)) → AllByRecursion
      (λ u. IsTold laws.cmp peer.rows with_pages (items_over laws.cmp laws.bytes_of peer.tree u.0) u.1) us → AllByRecursion (λ u. Fits n u.1) us
  sent_fits with_pages [] a = tt
  sent_fits with_pages (u ∷ us) a = (
    fits_sent laws.cmp o peer.tree.format laws.bytes_of n peer.rows with_pages peer.tree.root (owned_gap u.0) u.1
        (each-with (λ m. get laws.cmp (tree_map laws (side peer)) m.0 ≡ Some m.1) (λ m. length m.1 ≡ n)
        (nodes_among (outline_over peer.tree.format laws.bytes_of laws.cmp peer.tree.root (owned_gap u.0)))
        (λ m e. found_each laws.cmp o (λ d. length d ≡ n) (tree_map laws (side peer)) m.0 m.1 small e) (nodes_peers laws o eqv local (side peer) root peer.tree.root sides (owned_gap u.0))) a.0,
    sent_fits with_pages us a.1,
  )

  pub same_begin : {X Y : Type 0} (E : X → X → Type 0) (asked asked' : List X) (ts us : List (X × Y)) (l m : List X) → AllZip E asked asked'
      → asked ≡ map (λ t. t.0) ts ++ l → asked' ≡ map (λ t. t.0) us ++ m
      → AllZip E (map (λ t. t.0) ts ++ l) (map (λ t. t.0) us ++ m)
  same_begin E asked asked' ts us l m s e f = subst (λ xs. AllZip E xs (map (λ t. t.0) us ++ m)) e (subst (AllZip E asked) f s)

  outlines_take : (with_pages : Bool) (kind : Kind) (gaps gaps' left : List (OwnedGap K)) (reply : List ℕ) (before after : Found K V)
      (told' : List (OwnedGap K × Outline K V)) → AllZip (SameGapTold laws.cmp encoding) gaps gaps'
      → TellsFirst (λ g. IsTold laws.cmp peer.rows with_pages (items_over laws.cmp laws.bytes_of peer.tree g)) gaps' told' → reply ≡ front kind ++ flat_map (outline_over_bytes encoding values) told'
      → OutlinesCome laws.cmp encoding values n kind (λ told. AreTaken laws local told before after) gaps reply left → TakesList (About with_pages) gaps left before after
  outlines_take with_pages kind gaps gaps' left reply before after told' same answers sent (told, read, some, are, lies, taken) =
      let bytes = (join_tells (front kind) (front kind) (flat_map (outline_over_bytes encoding values) told) (flat_map (outline_over_bytes encoding values) told') refl (sym read ∙ sent)).1 in
      let alike = outlines_tell laws.cmp laws.eq encoding values tell.keys tell.value (SameGapTold laws.cmp encoding) (λ g h s. s.1) n told told' left answers.0
      (same_begin (SameGapTold laws.cmp encoding) gaps gaps' told told' left answers.0 same are answers.1) (fits_read laws local n told before after lies taken)
      (sent_fits with_pages told' answers.3) bytes in
      record {
        new = outlines_new laws o eqv local (side peer) root peer.tree.root sides (SameGapTold laws.cmp encoding) (λ g h s. s.0) with_pages told told' before after alike answers.3 taken;
        keeps = λ k. outlines_keep laws o eqv local (side peer) root peer.tree.root sides (SameGapTold laws.cmp encoding) (λ g h s. s.0) with_pages told before after k taken;
        covers = λ faith k l a. go k (λ b. outlines_cover laws o eqv local (side peer) root peer.tree.root sides (SameGapTold laws.cmp encoding)
            (λ g h s. s.0) with_pages faith told told' before after k l alike answers.3 taken b)
            (any-split (About with_pages k) (map (λ t. t.0) told) left (subst (AnyByRecursion (About with_pages k)) are a));
      }
    where
      go : (k : K) → (AnyByRecursion (About with_pages k) (map (λ t. t.0) told) → Among k after) → AnyByRecursion (About with_pages k) (map (λ t. t.0) told)
          ⊎ AnyByRecursion (About with_pages k) left → AnyByRecursion (About with_pages k) left ⊎ Among k after
      go k f (inl a) = inr (f a)
      go k f (inr a) = inl a

  -- rows that came are added where this side doesn't have them
  added_new : (before after : Found K V) (rows : List (K × V)) → after ≡ record before { rows = before.rows ++ new_rows laws local rows } → AllByRecursion Theirs rows
      → AllByRecursion New before.rows → AllByRecursion New after.rows
  added_new before after rows e a b = subst (λ f. AllByRecursion New f.rows) (sym e) (each-append New before.rows (new_rows laws local rows) b (new_rows_new laws o eqv local (side peer) rows a))

  added_covers : Faithful → (before after : Found K V) (rows : List (K × V)) (k : K) → Lacked k → after ≡ record before { rows = before.rows ++ new_rows laws local rows }
      → AllByRecursion Theirs rows → AnyByRecursion (λ r. Same laws.cmp k r.0) rows → Among k after
  added_covers faith before after rows k l e a i =
      rows_among laws o eqv local (side peer) root peer.tree.root sides before after (new_rows laws local rows) k e
      (new_rows_cover laws o eqv local (side peer) sides.respects faith.values rows k l a i)

  abbrev At : K → Wanted K → Type 0
  At k w = Same laws.cmp k w.key

  values_take : (keys keys' left : List (Wanted K)) (reply : List ℕ) (before after : Found K V) (told' : List (Wanted K × Option V)) → AllZip (SameWanted laws.cmp encoding) keys keys'
      → TellsFirst (λ w value. value ≡ get laws.cmp peer.rows w.key) keys' told' → reply ≡ front rows_at_kind ++ flat_map (value_at_bytes values) told'
      → ValuesCome values (λ rows. AddsRows laws local rows before after) keys reply left → TakesList At keys left before after
  values_take keys keys' left reply before after told' same answers sent (told, read, some, are, any, taken) =
      let bytes = (join_tells (front rows_at_kind) (front rows_at_kind) (flat_map (value_at_bytes values) told) (flat_map (value_at_bytes values) told') refl (sym read ∙ sent)).1 in
      let alike = values_tell laws.cmp laws.eq encoding values tell.keys tell.value (SameWanted laws.cmp encoding) told told' left answers.0
      (same_begin (SameWanted laws.cmp encoding) keys keys' told told' left answers.0 same are answers.1) (each-all (λ t. ⊤) told (λ t. tt)) (each-all (λ t. ⊤) told' (λ t. tt)) bytes in
      let theirs = values_theirs laws o eqv local (side peer) root peer.tree.root sides (SameWanted laws.cmp encoding) (λ w x s. s) told told' alike answers.3 in
      record {
        new = added_new before after (flat_map value_row told) taken theirs;
        keeps = λ k. rows_keep laws o eqv local (side peer) root peer.tree.root sides before after (new_rows laws local (flat_map value_row told)) k taken;
        covers = λ faith k l a. go faith k (λ b. added_covers faith before after (flat_map value_row told) k l taken theirs
            (values_cover laws o eqv local (side peer) root peer.tree.root sides (SameWanted laws.cmp encoding) (λ w x s. s) told told' k l alike answers.3 b))
            (any-split (At k) (map (λ t. t.0) told) left (subst (AnyByRecursion (At k)) are a));
      }
    where
      go : Faithful → (k : K) → (AnyByRecursion (At k) (map (λ t. t.0) told) → Among k after) → AnyByRecursion (At k) (map (λ t. t.0) told) ⊎ AnyByRecursion (At k) left
          → AnyByRecursion (At k) left ⊎ Among k after
      go faith k f (inl a) = inr (f a)
      go faith k f (inr a) = inl a

  abbrev In : K → OwnedGap K → Type 0
  In k g = IsInGap laws.cmp k (owned_gap g)

  parts_take : (gaps gaps' left : List (OwnedGap K)) (reply : List ℕ) (before after : Found K V) (told' : List (OwnedGap K × Part K V)) → AllZip (SameGapTold laws.cmp encoding) gaps gaps'
      → TellsFirst (IsPartOf laws.cmp peer.rows) gaps' told' → reply ≡ front rows_in_kind ++ flat_map (part_in_bytes encoding values) told'
      → PartsCome laws.cmp encoding values (λ rows. AddsRows laws local rows before after) gaps reply left → TakesList In gaps left before after
  parts_take gaps gaps' left reply before after told' same answers sent (behind, rest, is_left, (told, read, some, are, lies, (are_behind, taken))) =
      let bytes = (join_tells (front rows_in_kind) (front rows_in_kind) (flat_map (part_in_bytes encoding values) told) (flat_map (part_in_bytes encoding values) told') refl (sym read ∙ sent)).1 in
      let alike = parts_tell laws.cmp laws.eq encoding values tell.keys tell.value (SameGapTold laws.cmp encoding) (λ g h s. s.1) told told' rest answers.0
      (same_begin (SameGapTold laws.cmp encoding) gaps gaps' told told' rest answers.0 same are answers.1) (each-all (λ t. ⊤) told (λ t. tt)) (each-all (λ t. ⊤) told' (λ t. tt)) bytes in
      let rows = flat_map (λ t. t.1.rows) told in
      let theirs = parts_theirs laws o eqv local (side peer) root peer.tree.root sides (SameGapTold laws.cmp encoding) (λ g h s. s.0) told told' alike answers.3 in
      record {
        new = added_new before after rows taken theirs;
        keeps = λ k. rows_keep laws o eqv local (side peer) root peer.tree.root sides before after (new_rows laws local rows) k taken;
        covers = λ faith k l a. go k (λ b. added_covers faith before after rows k l taken theirs b)
            (λ b. parts_cover laws o eqv local (side peer) root peer.tree.root sides (SameGapTold laws.cmp encoding) (λ g h s. s.0) told told' behind k l alike answers.3 are_behind b)
            (any-split (In k) (map (λ t. t.0) told) rest (subst (AnyByRecursion (In k)) are a));
      }
    where
      to_left : (k : K) → AnyByRecursion (In k) behind ⊎ AnyByRecursion (In k) rest → AnyByRecursion (In k) left
      to_left k a = subst (AnyByRecursion (In k)) (sym is_left) (any-append (In k) behind rest a)

      go : (k : K) → (AnyByRecursion (λ r. Same laws.cmp k r.0) (flat_map (λ t. t.1.rows) told) → Among k after)
          → (AnyByRecursion (In k) (map (λ t. t.0) told) → AnyByRecursion (λ r. Same laws.cmp k r.0) (flat_map (λ t. t.1.rows) told) ⊎ AnyByRecursion (In k) behind)
          → AnyByRecursion (In k) (map (λ t. t.0) told) ⊎ AnyByRecursion (In k) rest → AnyByRecursion (In k) left ⊎ Among k after
      go k f g (inr a) = inl (to_left k (inr a))
      go k f g (inl a) = by (g a)
        where
          by : AnyByRecursion (λ r. Same laws.cmp k r.0) (flat_map (λ t. t.1.rows) told) ⊎ AnyByRecursion (In k) behind → AnyByRecursion (In k) left ⊎ Among k after
          by (inl b) = inr (f b)
          by (inr b) = inl (to_left k (inl b))

  -- bytes tell the digest of the root page
  pub root_tells : (m m' : ℕ) (d d' : Option (List ℕ)) → (front root_kind ++ count_bytes m) ++ option_bytes (λ x. x) d ≡ (front root_kind ++ count_bytes m') ++ option_bytes (λ x. x) d' → d ≡ d'
  root_tells m m' d d' e =
      let behind = (join_tells (front root_kind) (front root_kind) (count_bytes m ++ option_bytes (λ x. x) d) (count_bytes m' ++ option_bytes (λ x. x) d') refl e).1 in
      by d d' (count_told m m' (option_bytes (λ x. x) d) (option_bytes (λ x. x) d') behind).1
    where
      by : (d d' : Option (List ℕ)) → option_bytes (λ x. x) d ≡ option_bytes (λ x. x) d' → d ≡ d'
      by None None e = refl
      by None (Some y) e = absurd (let f : 0 ∷ [] ≡ 1 ∷ y = e in cc)
      by (Some x) None e = absurd (let f : 1 ∷ x ≡ 0 ∷ [] = e in cc)
      by (Some x) (Some y) e = let f : 1 ∷ x ≡ 1 ∷ y = e in let g : x ≡ y = cc in ap Some g

  -- a reply is taken
  pub takes : (asked question : Question K) (reply : List ℕ) (before after : Found K V) (again : Option (Question K)) → SameQuestion laws.cmp encoding asked question
      → IsReply laws n encoding values peer.rows peer.tree question reply
      → HasTakenReply laws n encoding values local asked reply before after again → Takes asked again before after
  takes (Root s) (Root t) reply before after again same (settings, sent) (count, digest, read, taken, none) =
      let is = root_tells count (length peer.rows) digest (whole_digest (whole_item peer.tree.format laws.bytes_of peer.tree.root)) (sym read ∙ sent) in
      let (keeps, rows) = root_takes laws o eqv local (side peer) root peer.tree.root sides digest before after taken in
      record {
        new = λ a. subst (AllByRecursion New) (sym rows) a;
        keeps = keeps;
        covers = λ faith k l a. inr (root_covers laws o eqv local (side peer) root peer.tree.root sides faith before after k l (subst (λ d. IsRootTaken laws local d before after) is taken));
      }
  takes (Outlines m gs) (Outlines m' hs) reply before after again same (told', answers, sent) (left, has, asks) =
      list_takes (About true) (Outlines m) gs left again before after (λ k xs a. a) (λ k xs a. a) asks
      (outlines_take true outlines_kind gs.items hs.items left reply before after told' same answers sent has)
  takes (Nodes m gs) (Nodes m' hs) reply before after again same (told', answers, sent) (left, has, asks) =
      list_takes (About false) (Nodes m) gs left again before after (λ k xs a. a) (λ k xs a. a) asks
      (outlines_take false nodes_kind gs.items hs.items left reply before after told' same answers sent has)
  takes (RowsAt ws) (RowsAt xs) reply before after again same (told', answers, sent) (left, has, asks) =
      list_takes At RowsAt ws left again before after (λ k xs a. a) (λ k xs a. a) asks (values_take ws.items xs.items left reply before after told' same answers sent has)
  takes (RowsIn gs) (RowsIn hs) reply before after again same (told', answers, sent) (left, has, asks) =
      list_takes In RowsIn gs left again before after (λ k xs a. a) (λ k xs a. a) asks (parts_take gs.items hs.items left reply before after told' same answers sent has)
  takes asked question reply before after again same is taken = absurd same
