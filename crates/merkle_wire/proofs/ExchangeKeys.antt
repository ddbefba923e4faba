-- After an exchange of messages a catch-up still asks about, and has found, keys of the two sides alone; so its message is read by the peer.
use Rattle.std.specs.Prelude.{⊤}
use Rattle.std.proofs.Common.{◌≡◌, ℕ, Bool, List, ◌++◌, length, map, flat_map, Option, Some, None, refl, sym, ap, subst, ◌∙◌, ◌⊎◌, inl, inr}
use Rattle.std.specs.Global.{Vec}
use Rattle.std.specs.List.{AllByRecursion, AllZip}
use Rattle.std.specs.Cmp.{IsTotalOrder, IsEquivalence}
use Rattle.std.specs.Option.{option_map}
use Rattle.key_order.specs.Map.{get}
use Rattle.key_order.specs.Order.{Same}
use Rattle.key_order.proofs.ListParts.{each-append, each-before, each-behind, join_tells}
use Rattle.key_order.proofs.Maps.{get_same}
use Rattle.merkle_bytes.specs.Options.{IsOption}
use Rattle.merkle_diff.proofs.Each.{each-all, each-with}
use Rattle.merkle_replica.specs.Contents.{Contents, Side, side, tree_map}
use Rattle.merkle_replica.specs.Laws.{Laws}
use Rattle.merkle_replica.proofs.Bounds.{get_digests}
use Rattle.merkle_tree_theory.specs.Tree.{Tree}
use Rattle.merkle_wire.specs.Underway.{IsTakenFrom, Found, nothing, Underway}
use Rattle.merkle_wire.specs.Gaps.{HasKeyBounds, owned_gap}
use Rattle.merkle_wire.specs.Messages.{front}
use Rattle.merkle_wire.specs.Next.{AsksOrGoesOn, IsNext, IfAsks}
use Rattle.merkle_wire.specs.Outlines.{Outline, IsTold, nodes_among}
use Rattle.merkle_wire.specs.Questions.{AsksNothing, IsQuestion, question_bytes}
use Rattle.merkle_wire.specs.Replies.{IsPartOf, IsReply, Part, items_over, outline_over_bytes, part_in_bytes}
use Rattle.merkle_wire.specs.Sessions.{CanBeTold, IsKeyOf}
use Rattle.merkle_wire.specs.Taking.{value_row, AddsRows, AreTaken, PartsCome, AsksAgain, HasTakenReply}
use Rattle.merkle_wire.specs.declared.catching_up.Next.{Next}
use Rattle.merkle_wire.specs.declared.catching_up.Next.TheVariants.{Ask, Came}
use Rattle.merkle_wire.specs.declared.gaps.OwnedGap.{OwnedGap}
use Rattle.merkle_wire.specs.declared.message.Kind.{Kind}
use Rattle.merkle_wire.specs.declared.message.Kind.TheVariants.{Outlines as outlines_kind, Nodes as nodes_kind, RowsIn as rows_in_kind}
use Rattle.merkle_wire.specs.declared.question.Question.{Question}
use Rattle.merkle_wire.specs.declared.question.Question.TheVariants.{Root, Outlines, Nodes, RowsAt, RowsIn}
use Rattle.merkle_wire.proofs.Exchanges.{Tell, same_begin, sent_fits}
use Rattle.merkle_wire.proofs.Fitting.{fits_read}
use Rattle.merkle_wire.proofs.CatchUpKeys.{outlines_keys, parts_keys, root_keys, rows_keys, taken_keys, whole_keys}
use Rattle.merkle_wire.proofs.PageCovers.{AreSides, nodes_peers}
use Rattle.merkle_wire.proofs.StepCovers.{parts_theirs}
use Rattle.merkle_wire.proofs.TellingQuestions.{SameGapTold, SameQuestion}
use Rattle.merkle_wire.proofs.TellingReplies.{outlines_tell, parts_tell}
use Rattle.merkle_wire.proofs.Steady.{AreKeysOf, HasKeysOfSides, IsKeyOfSides}
use Rattle.merkle_wire.specs.Coming.{OutlinesCome}
use Rattle.merkle_wire.proofs.Covering.{IsRowOfPeer}
use Rattle.merkle_wire.proofs.Lacking.{all_whole, new_rows}
use Rattle.merkle_wire.proofs.Continued.{TellsFirst}

-- a key equal to one of a side's is one of it
module _ {K V H : Type 0} (laws : Laws K V H) (o : IsTotalOrder laws.cmp) (local peer : Side K V H) where
  pub key_alike : (rows : List (K × V)) (j k : K) → Same laws.cmp j k → IsKeyOf laws.cmp rows j → IsKeyOf laws.cmp rows k
  key_alike rows j k s (v, there) = (v, sym (get_same laws.cmp o rows j k s) ∙ there)

  sides_alike : (j k : K) → Same laws.cmp j k → IsKeyOfSides laws local peer j → IsKeyOfSides laws local peer k
  sides_alike j k s (inl own) = inl (key_alike local.rows j k s own)
  sides_alike j k s (inr theirs) = inr (key_alike peer.rows j k s theirs)

  -- a key of the peer's tree is one of its rows'
  pub of_tree : (k : K) (d : List ℕ) → get laws.cmp (tree_map laws peer) k ≡ Some d → IsKeyOf laws.cmp peer.rows k
  of_tree k d e = by (get laws.cmp peer.rows k) refl
    where
      by : (x : Option V) → get laws.cmp peer.rows k ≡ x → IsKeyOf laws.cmp peer.rows k
      by None f = let never : None ≡ Some d = ap (option_map (laws.value_digest peer.hasher)) (sym f) ∙ sym (get_digests laws.cmp o (laws.value_digest peer.hasher) peer.rows k) ∙ e in absurd (cc)
      by (Some v) f = (v, f)

-- what can be read of some keys can be read of those that they are
module _ {K : Type 0} (P Q : K → Type 0) (to : (k : K) → P k → Q k) where
  bound_read : (b : Option K) → IsOption P b → IsOption Q b
  bound_read None p = tt
  bound_read (Some b) p = to b p

  gaps_read : (gaps : List (OwnedGap K)) → AllByRecursion (λ g. HasKeyBounds P (owned_gap g)) gaps → AllByRecursion (λ g. HasKeyBounds Q (owned_gap g)) gaps
  gaps_read gaps = each-with (λ g. HasKeyBounds P (owned_gap g)) (λ g. HasKeyBounds Q (owned_gap g)) gaps (λ g p. (bound_read g.after p.0, bound_read g.before p.1))

  pub question_read : (question : Question K) → IsQuestion P question → IsQuestion Q question
  question_read (Root settings) p = (p.0, sample settings.sample p.1)
    where
      sample : {D : Type 0} (s : Option (K × D)) → IsOption (λ x. P x.0) s → IsOption (λ x. Q x.0) s
      sample None p = tt
      sample (Some x) p = to x.0 p
  question_read (Outlines most gaps) p = (p.0, gaps_read gaps.items p.1)
  question_read (Nodes most gaps) p = (p.0, gaps_read gaps.items p.1)
  question_read (RowsAt keys) p = each-with (λ w. P w.key) (λ w. Q w.key) keys.items (λ w q. to w.key q) p
  question_read (RowsIn gaps) p = gaps_read gaps.items p

module _ {K V H : Type 0} (laws : Laws K V H) (local peer : Side K V H) where
  -- a catch-up that begins asks about keys of its own side alone
  pub begun_at_keys : (begun : Underway K V) → IsQuestion (IsKeyOf laws.cmp local.rows) begun.asked → begun.found ≡ nothing → HasKeysOfSides laws local peer begun
  begun_at_keys begun asked found = record {
    asked = question_read (IsKeyOf laws.cmp local.rows) (IsKeyOfSides laws local peer) (λ k own. inl own) begun.asked asked;
    found = subst (AreKeysOf (IsKeyOfSides laws local peer)) (sym found) (record { below = tt; nodes = tt; wanted = tt; whole = tt });
  }

  -- the message of a catch-up at keys of sides whose rows can be told asks something
  pub asks_something : (is_key : K → Type 0) (is_value : V → Type 0) (encoding : K → List ℕ) (u : Underway K V) (message : List ℕ) → HasKeysOfSides laws local peer u
      → CanBeTold laws is_key is_value local → CanBeTold laws is_key is_value peer
      → message ≡ question_bytes encoding u.asked → AsksNothing encoding is_key message → ⊥
  asks_something is_key is_value encoding u message keys own theirs is none =
      none u.asked (question_read (IsKeyOfSides laws local peer) is_key to u.asked keys.asked) is
    where
      to : (k : K) → IsKeyOfSides laws local peer k → is_key k
      to k (inl (v, there)) = (own.read k v there).0
      to k (inr (v, there)) = (theirs.read k v there).0

module _ {K V H : Type 0} (laws : Laws K V H) (o : IsTotalOrder laws.cmp) (eqv : IsEquivalence laws.eq) (encoding : K → List ℕ) (values : V → List ℕ) (tell : Tell laws encoding values) (n : ℕ)
    (local : Side K V H) (peer : Contents K V H) (root : Tree K (List ℕ)) (sides : AreSides laws local (side peer) root peer.tree.root)
    (small : AllByRecursion (λ p. length p.1 ≡ n) (tree_map laws (side peer))) where
  abbrev IsKey : K → Type 0
  IsKey = IsKeyOfSides laws local (side peer)

  abbrev Keys : Found K V → Type 0
  Keys = AreKeysOf IsKey

  abbrev Gaps : List (OwnedGap K) → Type 0
  Gaps = AllByRecursion (λ g. HasKeyBounds IsKey (owned_gap g))

  abbrev IsAgain : Option (Question K) → Type 0
  IsAgain None = ⊤
  IsAgain (Some question) = IsQuestion IsKey question

  same : (j k : K) → Same laws.cmp j k → IsKey j → IsKey k
  same = sides_alike laws o local (side peer)

  nodes_keys : (g : OwnedGap K) → AllByRecursion (λ m. IsKey m.0) (nodes_among (items_over laws.cmp laws.bytes_of peer.tree g))
  nodes_keys g =
      each-with (λ m. get laws.cmp (tree_map laws (side peer)) m.0 ≡ Some m.1) (λ m. IsKey m.0) (nodes_among (items_over laws.cmp laws.bytes_of peer.tree g))
      (λ m e. inr (of_tree laws o local (side peer) m.0 m.1 e))
      (nodes_peers laws o eqv local (side peer) root peer.tree.root sides (owned_gap g))

  again_keys : {X : Type 0} (ask : Vec X → Question K) (F : X → Type 0) (left : List X) (again : Option (Question K))
      → ((xs : Vec X) → AllByRecursion F xs.items → IsQuestion IsKey (ask xs)) → AsksAgain ask left again → AllByRecursion F left → IsAgain again
  again_keys ask F left again reads (inl (none, e)) a = subst IsAgain (sym e) tt
  again_keys ask F left again reads (inr (rest, is, some, e)) a = subst IsAgain (sym e) (reads rest (subst (AllByRecursion F) (sym is) a))

  outlines_next : (with_pages : Bool) (kind : Kind) (ask : Vec (OwnedGap K) → Question K) (gaps gaps' left : List (OwnedGap K)) (reply : List ℕ)
      (before after : Found K V) (again : Option (Question K)) (told' : List (OwnedGap K × Outline K V))
      → ((xs : Vec (OwnedGap K)) → Gaps xs.items → IsQuestion IsKey (ask xs)) → Gaps gaps → Keys before → AllZip (SameGapTold laws.cmp encoding) gaps gaps'
      → TellsFirst (λ g. IsTold laws.cmp peer.rows with_pages (items_over laws.cmp laws.bytes_of peer.tree g)) gaps' told' → reply ≡ front kind ++ flat_map (outline_over_bytes encoding values) told'
      → OutlinesCome laws.cmp encoding values n kind (λ told. AreTaken laws local told before after) gaps reply left → AsksAgain ask left again → IsAgain again × Keys after
  outlines_next with_pages kind ask gaps gaps' left reply before after again told' reads a keys alike answers sent (told, read, some, are, lies, taken) asks =
      let bytes = (join_tells (front kind) (front kind) (flat_map (outline_over_bytes encoding values) told) (flat_map (outline_over_bytes encoding values) told') refl (sym read ∙ sent)).1 in
      let lists = outlines_tell laws.cmp laws.eq encoding values tell.keys tell.value (SameGapTold laws.cmp encoding) (λ g h e. e.1) n told told' left answers.0
      (same_begin laws o eqv encoding values tell n local peer root sides small
      (SameGapTold laws.cmp encoding) gaps gaps' told told' left answers.0 alike are answers.1) (fits_read laws local n told before after lies taken)
      (sent_fits laws o eqv encoding values tell n local peer root sides small with_pages told' answers.3) bytes in
      let all = subst Gaps are a in (
        again_keys ask (λ g. HasKeyBounds IsKey (owned_gap g)) left again reads asks (each-behind (λ g. HasKeyBounds IsKey (owned_gap g)) (map (λ t. t.0) told) left all),
        outlines_keys laws o IsKey same local peer.rows (SameGapTold laws.cmp encoding) with_pages (λ g. items_over laws.cmp laws.bytes_of peer.tree g) nodes_keys told told' before after
            (each-before (λ g. HasKeyBounds IsKey (owned_gap g)) (map (λ t. t.0) told) left all) lists answers.3 taken keys,
      )

  parts_next : (gaps gaps' left : List (OwnedGap K)) (reply : List ℕ) (before after : Found K V) (again : Option (Question K)) (told' : List (OwnedGap K × Part K V))
      → Gaps gaps → Keys before → AllZip (SameGapTold laws.cmp encoding) gaps gaps'
      → TellsFirst (IsPartOf laws.cmp peer.rows) gaps' told' → reply ≡ front rows_in_kind ++ flat_map (part_in_bytes encoding values) told'
      → PartsCome laws.cmp encoding values (λ rows. AddsRows laws local rows before after) gaps reply left → AsksAgain RowsIn left again → IsAgain again × Keys after
  parts_next gaps gaps' left reply before after again told' a keys alike answers sent (behind, rest, is_left, (told, read, some, are, up, (are_behind, taken))) asks =
      let bytes = (join_tells (front rows_in_kind) (front rows_in_kind) (flat_map (part_in_bytes encoding values) told) (flat_map (part_in_bytes encoding values) told') refl (sym read ∙ sent)).1 in
      let lists = parts_tell laws.cmp laws.eq encoding values tell.keys tell.value (SameGapTold laws.cmp encoding) (λ g h e. e.1) told told' rest answers.0
      (same_begin laws o eqv encoding values tell n local peer root sides small
      (SameGapTold laws.cmp encoding) gaps gaps' told told' rest answers.0 alike are answers.1) (each-all (λ t. ⊤) told (λ t. tt)) (each-all (λ t. ⊤) told' (λ t. tt)) bytes in
      let rows = flat_map (λ (t : OwnedGap K × Part K V). t.1.rows) told in
      let theirs = parts_theirs laws o eqv local (side peer) root peer.tree.root sides (SameGapTold laws.cmp encoding) (λ g h e. e.0) told told' lists answers.3 in
      let row_keys = each-with (IsRowOfPeer laws local (side peer)) (λ r. IsKey r.0) rows (λ r (v, there, e). inr (v, there)) theirs in
      let all = subst Gaps are a in
      let In : OwnedGap K → Type 0 = λ g. HasKeyBounds IsKey (owned_gap g) in
      let behind_keys = parts_keys laws o IsKey same local told behind (each-before In (map (λ t. t.0) told) rest all) row_keys are_behind in (
        again_keys RowsIn In left again (λ xs g. g) asks (subst Gaps (sym is_left) (each-append In behind rest behind_keys (each-behind In (map (λ t. t.0) told) rest all))),
        rows_keys laws o IsKey same local before after (new_rows laws local rows) taken keys,
      )

  taken_next : (asked question : Question K) (reply : List ℕ) (before after : Found K V) (again : Option (Question K)) → IsQuestion IsKey asked
      → Keys before → SameQuestion laws.cmp encoding asked question
      → IsReply laws n encoding values peer.rows peer.tree question reply
      → HasTakenReply laws n encoding values local asked reply before after again → IsAgain again × Keys after
  taken_next (Root a) (Root b) reply before after again q keys alike is (count, digest, read, taken, none) =
      (subst IsAgain (sym none) tt, root_keys laws o IsKey same local digest before after taken keys)
  taken_next (Outlines m gs) (Outlines m' hs) reply before after again q keys alike (told', answers, sent) (left, has, asks) =
      outlines_next _ outlines_kind (Outlines m) gs.items hs.items left reply before after again told' (λ xs a. (q.0, a)) q.1 keys alike answers sent has asks
  taken_next (Nodes m gs) (Nodes m' hs) reply before after again q keys alike (told', answers, sent) (left, has, asks) =
      outlines_next _ nodes_kind (Nodes m) gs.items hs.items left reply before after again told' (λ xs a. (q.0, a)) q.1 keys alike answers sent has asks
  taken_next (RowsAt ws) (RowsAt xs) reply before after again q keys alike is (left, (told, read, some, are, any, taken), asks) = (
    again_keys RowsAt (λ w. IsKey w.key) left again (λ ys a. a) asks (each-behind (λ w. IsKey w.key) (map (λ t. t.0) told) left (subst (AllByRecursion (λ w. IsKey w.key)) are q)),
    rows_keys laws o IsKey same local before after (new_rows laws local (flat_map value_row told)) taken keys,
  )
  taken_next (RowsIn gs) (RowsIn hs) reply before after again q keys alike (told', answers, sent) (left, has, asks) =
      parts_next gs.items hs.items left reply before after again told' q keys alike answers sent has asks
  taken_next asked question reply before after again q keys alike is taken = absurd alike

  goes_on_keys : (again : Option (Question K)) (rounds : ℕ) (found : Found K V) (next : Next K V) → IsAgain again → Keys found
      → AsksOrGoesOn laws.cmp encoding again rounds found next → IfAsks (HasKeysOfSides laws local (side peer)) next
  goes_on_keys again rounds found (Came rows) a keys goes = tt
  goes_on_keys None rounds found (Ask session message) a keys (asked, is, more) = by asked.1
    where
      by : IsTakenFrom session.asked found session.found ⊎ IsTakenFrom session.asked (all_whole found) session.found → HasKeysOfSides laws local (side peer) session
      by (inl t) = let (q, f) = taken_keys laws o IsKey same local session.asked found session.found asked.0 keys t in record { asked = q; found = f }
      by (inr t) = let (q, f) = taken_keys laws o IsKey same local session.asked (all_whole found) session.found asked.0
          (whole_keys laws o IsKey same local found keys) t in record { asked = q; found = f }
  goes_on_keys (Some question) rounds found (Ask session message) a keys (is, e) = subst (HasKeysOfSides laws local (side peer)) (sym e) (record { asked = a; found = keys })

  -- what comes next has keys of the two sides alone
  pub next_keys : (before : Underway K V) (question : Question K) (reply : List ℕ) (next : Next K V)
      → HasKeysOfSides laws local (side peer) before → SameQuestion laws.cmp encoding before.asked question
      → IsReply laws n encoding values peer.rows peer.tree question reply → IsNext laws n encoding values local before reply next
      → IfAsks (HasKeysOfSides laws local (side peer)) next
  next_keys before question reply next keys alike is (found, again, taken, goes) =
      let (a, f) = taken_next before.asked question reply before.found found again keys.asked keys.found alike is taken in
      goes_on_keys again before.rounds found next a f goes
