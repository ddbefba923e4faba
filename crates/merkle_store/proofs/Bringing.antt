-- The messages of a catch-up, each of which a peer replied to, are a plain session.
use Rattle.std.proofs.Common.{refl, ◌≡◌, ℕ, List, [], ◌∷◌, Option, Some, None, sym, ap, subst, ◌∙◌, arith}
use Rattle.std.specs.Global.{Vec}
use Rattle.merkle_replica.specs.Contents.{Contents, Side, side, tree_map}
use Rattle.merkle_replica.specs.Laws.{Laws}
use Rattle.merkle_replica.proofs.SideLaws.{same_side}
use Rattle.merkle_tree_theory.specs.Canonical.{IsTreeOf}
use Rattle.merkle_tree_theory.specs.State.{SameSettings}
use Rattle.merkle_wire.specs.Underway.{Found, Underway}
use Rattle.merkle_wire.specs.Next.{AsksOrGoesOn, IsNext}
use Rattle.merkle_wire.specs.Questions.{question_bytes}
use Rattle.merkle_wire.specs.declared.catching_up.Next.{Next}
use Rattle.merkle_wire.specs.declared.catching_up.Next.TheVariants.{Ask, Came}
use Rattle.merkle_wire.specs.declared.question.Question.{Question}
use Rattle.merkle_wire.specs.declared.question.Question.TheVariants.{Root, Outlines, Nodes, RowsAt, RowsIn}
use Rattle.merkle_delta.specs.Hearing.{IsHeard, IsSafe, IsSentFor, ToldIsHeard}
use Rattle.merkle_delta.specs.Messages.{IsPlain}
use Rattle.merkle_delta.specs.declared.hearing.Heard.{Heard}
use Rattle.merkle_delta.specs.declared.hearing.Heard.TheVariants.{Reply, Again}
use Rattle.merkle_store.specs.Exchanges.{AreRepliesBy, Exchange, HeardLeads, IsToldReply, LeadTo, NextLeads, NoneCollides, RepliesBring, on_wire}
use Rattle.merkle_wire.specs.SessionLaws.{SessionsBring, IsPeerReply, IsExchange, AreExchangesTo}
use Rattle.merkle_wire.specs.Sessions.{AreBrought}

-- the second byte, that of the kind
abbrev second : List ℕ → ℕ
second [] = 0
second (a ∷ []) = 0
second (a ∷ b ∷ bs) = b

module _ {K V H : Type 0} (laws : Laws K V H) (n : ℕ) (encoding : K → List ℕ) (values : V → List ℕ) where
  -- no question has the front of a message with checksums
  is_plain : (question : Question K) (bytes : List ℕ) → bytes ≡ question_bytes encoding question → IsPlain bytes
  is_plain (Root s) bytes asks rest e = absurd (omega (arith, ap second (sym e ∙ asks)))
  is_plain (Outlines most gaps) bytes asks rest e = absurd (omega (arith, ap second (sym e ∙ asks)))
  is_plain (Nodes most gaps) bytes asks rest e = absurd (omega (arith, ap second (sym e ∙ asks)))
  is_plain (RowsAt keys) bytes asks rest e = absurd (omega (arith, ap second (sym e ∙ asks)))
  is_plain (RowsIn gaps) bytes asks rest e = absurd (omega (arith, ap second (sym e ∙ asks)))

  -- a catch-up asks by the bytes of its question
  asks_next : (again : Option (Question K)) (rounds : ℕ) (found : Found K V) (session : Underway K V) (question : Vec ℕ)
      → AsksOrGoesOn laws.cmp encoding again rounds found (Ask session question) → question.items ≡ question_bytes encoding session.asked
  asks_next None rounds found session question goes = goes.1
  asks_next (Some asked) rounds found session question goes = goes.0 ∙ ap (λ s. question_bytes encoding s.asked) (sym goes.1)

  module _ (told_is_heard : ToldIsHeard) (local : Side K V H) (peer : Contents K V H) (rows : List (K × V)) where
    -- exchanges of plain messages lead from a catch-up to the rows
    abbrev HasPlain : Underway K V → Type 0
    HasPlain session = (more : List (Underway K V)) × (last : Underway K V) × (came : Vec (K × V)) × (rows ≡ came.items)
        × AreExchangesTo laws n encoding values local (side peer) session more last × IsExchange laws n encoding values local (side peer) last (Came came)

    -- the plain reply of the peer answers what the catch-up asks
    answers : (session : Underway K V) (question message reply : List ℕ) (by : IsToldReply laws n encoding values peer message reply)
        → question ≡ question_bytes encoding session.asked → by.answer.question ≡ question → IsPeerReply laws n encoding values local (side peer) session by.answer.plain.items
    answers session question message reply by asks is =
        let same = same_side peer by.before by.rows.0 by.settings.0 in
        let settings : SameSettings by.before.tree by.after.tree = (by.settings.1.0 ∙ sym by.settings.0.0, by.settings.1.1 ∙ sym by.settings.0.1, by.settings.1.2 ∙ sym by.settings.0.2) in
        let (read, reads, is_reply) = by.answer.answered in
        subst (λ s. IsPeerReply laws n encoding values local s session by.answer.plain.items) same (record {
          question = read;
          tree = by.after.tree;
          reads = sym (is ∙ asks) ∙ reads;
          settings = settings;
          of_peer = subst (λ s. IsTreeOf laws.cmp (laws.key_digest s.hasher) s.base by.after.tree.root (tree_map laws s)) (sym same) by.of_rows;
          answers = is_reply;
        })

    module _ (e : Exchange) (others : List Exchange) (session : Underway K V) (question : List ℕ) (asks : question ≡ question_bytes encoding session.asked)
        (sent : IsSentFor question e.told e.message) (by : IsToldReply laws n encoding values peer e.message e.reply) (safe : IsSafe e.told e.reply by.answer.plain.items)
        (rest : (next : Underway K V) (asked : List ℕ) → asked ≡ question_bytes encoding next.asked → LeadTo laws n encoding values local rows others next asked → HasPlain next) where
      heard_as : (by.answer.question ≡ question) × ((heard : Vec ℕ) → IsHeard e.told e.reply (Reply heard) → heard.items ≡ by.answer.plain.items)
      heard_as = told_is_heard e.told question e.message by.answer.question by.answer.plain.items e.reply by.answer.checksums
          (is_plain session.asked question asks) sent by.answer.asked by.answer.told safe

      -- one exchange more is a plain one
      exchanged : (plain : Vec ℕ) (next : Next K V) → IsHeard e.told e.reply (Reply plain) → IsNext laws n encoding values local session plain.items next
          → IsExchange laws n encoding values local (side peer) session next
      exchanged plain next hears takes = record {
        reply = by.answer.plain.items;
        answer = answers session question e.message e.reply by asks heard_as.0;
        takes = subst (λ r. IsNext laws n encoding values local session r next) (heard_as.1 plain hears) takes;
      }

      goes_on : (plain : Vec ℕ) (next : Next K V) → IsHeard e.told e.reply (Reply plain) → IsNext laws n encoding values local session plain.items next
          → NextLeads laws n encoding values local rows others (LeadTo laws n encoding values local rows others) next → HasPlain session
      goes_on plain (Came came) hears takes (none, same) = ([], session, came, sym same, refl, exchanged plain (Came came) hears takes)
      goes_on plain (Ask next asked) hears (found, again, taken, more) leads =
          let (others_plain, last, came, same, all, end) = rest next asked.items (asks_next again session.rounds found next asked more) leads in
          (next ∷ others_plain, last, came, same, (asked, exchanged plain (Ask next asked) hears (found, again, taken, more), all), end)

      -- or none
      one_more : (heard : Heard) → IsHeard e.told e.reply heard → HeardLeads laws n encoding values local rows others
          (LeadTo laws n encoding values local rows others) session question heard → HasPlain session
      one_more (Reply plain) hears (next, takes, leads) = goes_on plain next hears takes leads
      one_more (Again again) hears (alone, leads) = rest session question asks leads

    are_plain : (exchanges : List Exchange) (session : Underway K V) (question : List ℕ) → question ≡ question_bytes encoding session.asked
        → LeadTo laws n encoding values local rows exchanges session question → (replies : AreRepliesBy laws n encoding values peer (on_wire exchanges))
        → NoneCollides laws n encoding values peer exchanges replies → HasPlain session
    are_plain [] session question asks leads replies none = absurd leads
    are_plain (e ∷ others) session question asks (sent, heard, hears, leads) (by, replies) (safe, none) =
        one_more e others session question asks sent by safe (λ next asked is more. are_plain others next asked is more replies none) heard hears leads

  pub replies_bring : ToldIsHeard → SessionsBring laws n encoding values → RepliesBring laws n encoding values
  replies_bring heard bring local peer session question exchanges rows up up_peer small begins leads replies none =
      let (more, last, came, same, all, end) = are_plain heard (side local) peer rows exchanges session question begins.asks leads replies none in
      subst (AreBrought laws (side local) (side peer)) (sym same)
      (bring (side local) (side peer) up up_peer small session last begins.settings.0 more came begins.settings.1 begins.nothing_found all end)
