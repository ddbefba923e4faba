-- Sides that are set alike don't refuse each other's settings.
use Rattle.std.specs.Prelude.{⊤}
use Rattle.std.proofs.Common.{◌≡◌, ℕ, Bool, true, List, [], ◌∷◌, ◌++◌, append_assoc, append-nil, Option, Some, None, refl, sym, ap, subst, ◌∙◌, inl, inr, arith}
use Rattle.std.specs.Global.{Vec}
use Rattle.merkle_bytes.specs.Counts.{count_bytes, count_told}
use Rattle.merkle_bytes.specs.Encodings.{string_encoding}
use Rattle.merkle_bytes.specs.Telling.{string_told}
use Rattle.merkle_replica.specs.Contents.{Side}
use Rattle.merkle_replica.specs.Faithful.{AreSetAlike}
use Rattle.merkle_replica.specs.Laws.{Laws}
use Rattle.merkle_tree_theory.specs.State.{State}
use Rattle.merkle_tree_theory.specs.declared.page_format.PageFormat.{PageFormat}
use Rattle.merkle_tree_theory.specs.declared.page_format.PageFormat.TheVariants.{V1, V2}
use Rattle.merkle_wire.specs.Underway.{IsAskedOf, IsTakenFrom, Found, Underway}
use Rattle.merkle_wire.specs.Next.{IsNext, IfAsks}
use Rattle.merkle_wire.specs.Questions.{question_bytes}
use Rattle.merkle_bytes.specs.Options.{IsOption}
use Rattle.merkle_wire.specs.Settings.{format_byte, settings_bytes}
use Rattle.merkle_wire.specs.Taking.{AsksAgain, HasTakenReply}
use Rattle.merkle_wire.specs.declared.catching_up.Next.{Next}
use Rattle.merkle_wire.specs.declared.catching_up.Next.TheVariants.{Ask, Came}
use Rattle.merkle_wire.specs.declared.question.Question.{Question}
use Rattle.merkle_wire.specs.declared.question.Question.TheVariants.{Root, Outlines, Nodes, RowsAt, RowsIn}
use Rattle.merkle_wire.specs.declared.settings.Settings.{Settings}
use Rattle.merkle_wire.proofs.NoSettings.{pair_bytes, sample_bytes, same_behind, settings_behind}
use Rattle.merkle_wire.specs.Replies.{TellsSettings}
use Rattle.merkle_wire.proofs.Covering.{TellsOwn}
use Rattle.merkle_wire.proofs.Lacking.{all_whole}

same_format : (a b : PageFormat) → format_byte a ≡ format_byte b → a ≡ b
same_format V1 V1 e = refl
same_format V1 V2 e = absurd (omega (arith, e))
same_format V2 V1 e = absurd (omega (arith, e))
same_format V2 V2 e = refl

module _ {K : Type 0} (encoding : K → List ℕ) (eq : K → K → Bool) (told : (x y : K) (r s : List ℕ) → encoding x ++ r ≡ encoding y ++ s → (eq x y ≡ true) × (r ≡ s)) where
  -- the same key with the same digest, or none on both sides
  abbrev SameSample : Option (K × Vec ℕ) → Option (K × Vec ℕ) → Type 0
  SameSample None None = ⊤
  SameSample None (Some q) = ⊥
  SameSample (Some p) None = ⊥
  SameSample (Some p) (Some q) = (eq p.0 q.0 ≡ true) × (p.1.items ≡ q.1.items)

  sample_told : (p q : Option (K × Vec ℕ)) (r s : List ℕ) → sample_bytes encoding p ++ r ≡ sample_bytes encoding q ++ s → SameSample p q
  sample_told None None r s e = tt
  sample_told None (Some q) r s e = absurd (let flat : 0 ∷ r ≡ 1 ∷ (pair_bytes encoding q ++ s) = e in cc)
  sample_told (Some p) None r s e = absurd (let flat : 1 ∷ (pair_bytes encoding p ++ r) ≡ 0 ∷ s = e in cc)
  sample_told (Some p) (Some q) r s e =
      let flat : 1 ∷ (pair_bytes encoding p ++ r) ≡ 1 ∷ (pair_bytes encoding q ++ s) = e in
      let a = string_encoding p.1.items in
      let b = string_encoding q.1.items in
      let behind : pair_bytes encoding p ++ r ≡ pair_bytes encoding q ++ s = cc in
      let keys = told p.0 q.0 (a ++ r) (b ++ s) (sym (append_assoc (encoding p.0) a r) ∙ behind ∙ append_assoc (encoding q.0) b s) in
      (keys.0, (string_told p.1.items q.1.items r s keys.1).0)

  -- settings with the same bytes
  record AreSame (s t : Settings K) : Type 0 where
    pub base : s.level_base ≡ t.level_base
    pub format : s.page_format ≡ t.page_format
    pub digests : s.digest_bytes ≡ t.digest_bytes
    pub sample : SameSample s.sample t.sample

  settings_told : (s t : Settings K) → settings_bytes encoding s ≡ settings_bytes encoding t → AreSame s t
  settings_told s t e =
      let a = sample_bytes encoding s.sample in
      let b = sample_bytes encoding t.sample in
      let behind = settings_behind encoding s t s.level_base (format_byte s.page_format) (count_bytes s.digest_bytes ++ a) [] (e ∙ sym (append-nil (settings_bytes encoding t))) in
      let counts = count_told s.digest_bytes t.digest_bytes a (b ++ []) behind.1 in
      let flat : s.level_base ∷ format_byte s.page_format ∷ (count_bytes s.digest_bytes ++ a) ≡ t.level_base ∷ format_byte t.page_format ∷ (count_bytes t.digest_bytes ++ b) = e in
      record { base = cc; format = same_format s.page_format t.page_format behind.0; digests = counts.0; sample = sample_told s.sample t.sample [] [] (append-nil a ∙ counts.1) }

  -- the second byte of a message, that of its kind
  abbrev second : List ℕ → ℕ
  second [] = 0
  second (a ∷ []) = 0
  second (a ∷ b ∷ bs) = b

  module _ {V H : Type 0} (laws : Laws K V H) (respects : (h : H) (a b : K) → eq a b ≡ true → laws.key_digest h a ≡ laws.key_digest h b) (n : ℕ) (local peer : Side K V H)
      (alike : AreSetAlike laws local peer)
      (tree : State K H) (hasher : tree.hasher ≡ peer.hasher) (base : tree.base ≡ peer.base) (format : tree.format ≡ peer.format) where
    abbrev IsDigested : H → Option (K × Vec ℕ) → Type 0
    IsDigested hasher = IsOption (λ p. p.1.items ≡ laws.key_digest hasher p.0)

    digested : (p q : Option (K × Vec ℕ)) → SameSample p q → IsDigested local.hasher p → IsDigested tree.hasher q
    digested None None same is = tt
    digested None (Some q) same is = absurd same
    digested (Some p) None same is = absurd same
    digested (Some p) (Some q) same is =
        sym same.1 ∙ is ∙ alike.keys p.0 ∙ respects peer.hasher p.0 q.0 same.0 ∙ ap (λ h. laws.key_digest h q.0) (sym hasher)

    -- a question with own settings is not one with others
    pub own_are_not_others : (asked question : Question K) → question_bytes encoding asked ≡ question_bytes encoding question → TellsOwn laws n local asked → ¬ TellsSettings laws n tree question → ⊥
    own_are_not_others asked (Outlines most gaps) e own others = others tt
    own_are_not_others asked (Nodes most gaps) e own others = others tt
    own_are_not_others asked (RowsAt keys) e own others = others tt
    own_are_not_others asked (RowsIn gaps) e own others = others tt
    own_are_not_others (Root s) (Root t) e own others =
        let same = settings_told s t (same_behind 1 1 1 1 (settings_bytes encoding s) (settings_bytes encoding t) e).1 in
        others (sym same.base ∙ own.0 ∙ alike.base ∙ sym base, sym same.format ∙ own.1 ∙ alike.format ∙ sym format, sym same.digests ∙ own.2, digested s.sample t.sample same.sample own.3)
    own_are_not_others (Outlines most gaps) (Root t) e own others = absurd (omega (arith, ap second e))
    own_are_not_others (Nodes most gaps) (Root t) e own others = absurd (omega (arith, ap second e))
    own_are_not_others (RowsAt keys) (Root t) e own others = absurd (omega (arith, ap second e))
    own_are_not_others (RowsIn gaps) (Root t) e own others = absurd (omega (arith, ap second e))

module _ {K V H : Type 0} (laws : Laws K V H) (n : ℕ) (encoding : K → List ℕ) (values : V → List ℕ) (local : Side K V H) where
  -- what is asked again is not the root
  again_own : {X : Type 0} (ask : Vec X → Question K) → ((xs : Vec X) → TellsOwn laws n local (ask xs)) → (left : List X) (question : Question K)
      → AsksAgain ask left (Some question) → TellsOwn laws n local question
  again_own ask own left question (inl (none, e)) = absurd (cc)
  again_own ask own left question (inr (rest, is, some, e)) = let same : question ≡ ask rest = cc in subst (TellsOwn laws n local) (sym same) (own rest)

  answered_own : (asked : Question K) (reply : List ℕ) (before after : Found K V) (question : Question K)
      → HasTakenReply laws n encoding values local asked reply before after (Some question) → TellsOwn laws n local question
  answered_own (Root s) reply before after question (count, digest, read, root, again) = absurd (cc)
  answered_own (Outlines most gaps) reply before after question (left, has, again) = again_own (Outlines most) (λ xs. tt) left question again
  answered_own (Nodes most gaps) reply before after question (left, has, again) = again_own (Nodes most) (λ xs. tt) left question again
  answered_own (RowsAt keys) reply before after question (left, has, again) = again_own RowsAt (λ xs. tt) left question again
  answered_own (RowsIn gaps) reply before after question (left, has, again) = again_own RowsIn (λ xs. tt) left question again

  -- nor is what is asked of what was found
  found_own : (question : Question K) (before after : Found K V) → IsTakenFrom question before after → TellsOwn laws n local question
  found_own (Root s) before after t = absurd t
  found_own (Outlines most gaps) before after t = tt
  found_own (Nodes most gaps) before after t = tt
  found_own (RowsAt keys) before after t = tt
  found_own (RowsIn gaps) before after t = tt

  asked_own : (question : Question K) (before after : Found K V) → IsAskedOf (Some question) before after → TellsOwn laws n local question
  asked_own question before after (some, inl t) = found_own question before after t
  asked_own question before after (some, inr t) = found_own question (all_whole before) after t

  -- what comes after a reply tells own settings
  pub next_own : (before : Underway K V) (reply : List ℕ) (next : Next K V) → IsNext laws n encoding values local before reply next → IfAsks (λ session. TellsOwn laws n local session.asked) next
  next_own before reply (Came rows) comes = tt
  next_own before reply (Ask session message) (found, None, taken, goes) = asked_own session.asked found session.found goes.0
  next_own before reply (Ask session message) (found, Some question, taken, goes) =
      subst (TellsOwn laws n local) (sym (ap (λ s. s.asked) goes.1)) (answered_own before.asked reply before.found found question taken)
