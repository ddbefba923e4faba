-- A catch-up over two streams, exchange by exchange, and what a peer answers.
use Rattle.std.proofs.Common.{◌≡◌, ℕ, ◌≤◌, List, [], ◌∷◌, ◌++◌, length, Option, None, Some, refl, sym, subst, append_assoc, ◌∙◌}
use Rattle.std.specs.Global.{Vec}
use Rattle.std.specs.Io.KnownBytes.{Appends, Consumes}
use Rattle.std.specs.List.{AllByRecursion, flat_map}
use Rattle.std.proofs.KnownBytes.{Appends-nil, Appends-trans, Consumes-nil, Consumes-trans}
use Rattle.std.proofs.lemmas.List.{flat_map_more, map-append}
use Rattle.key_order.specs.Text.{Text}
use Rattle.key_order.proofs.ListParts.{each-append}
use Rattle.merkle_replica.specs.Contents.{side}
use Rattle.merkle_wire.specs.Next.{IsNext}
use Rattle.merkle_wire.specs.Underway.{Underway}
use Rattle.merkle_wire.specs.declared.catching_up.Next.TheVariants.{Ask, Came}
use Rattle.merkle_delta.specs.Hearing.{IsHeard, IsSentFor, Told}
use Rattle.merkle_delta.specs.declared.hearing.Heard.TheVariants.{Reply, Again}
use Rattle.store_file.specs.WireRegisters.{register_encoding}
use Rattle.store_file.specs.declared.register.Register.{Register}
use Rattle.merkle_store.specs.Exchanges.{BeginsCatchUp, Exchange, IsToldReply, LeadTo, Wire, on_wire}
use Rattle.merkle_store.specs.Framing.{Streams, frame_of}
use Rattle.merkle_store.specs.Sessions.{EntryContents, entry_laws, text_key_encoding, all_asked, all_told, CatchesUp, HasServed}

-- bytes that were read before one more exchange, and with it
all_read : (f : List ℕ × List ℕ → List ℕ) (a b c : Option (List ℕ)) (exchanges : Wire) (one : List ℕ × List ℕ)
    → Consumes a b (flat_map f exchanges) → Consumes b c (f one) → Consumes a c (flat_map f (exchanges ++ one ∷ []))
all_read f a b c exchanges one p q = subst (Consumes a c) (flat_map_more f [] exchanges one) (Consumes-trans a b c _ _ p q)

-- likewise those that were written
all_written : (f : List ℕ × List ℕ → List ℕ) (a b c : Option (List ℕ)) (exchanges : Wire) (one : List ℕ × List ℕ)
    → Appends a b (flat_map f exchanges) → Appends b c (f one) → Appends a c (flat_map f (exchanges ++ one ∷ []))
all_written f a b c exchanges one p q = subst (Appends a c) (flat_map_more f [] exchanges one) (Appends-trans a b c _ _ p q)

-- what goes over the wire, with one exchange more
wire_more : (exchanges : List Exchange) (one : Exchange) → on_wire (exchanges ++ one ∷ []) ≡ on_wire exchanges ++ (one.message, one.reply) ∷ []
wire_more exchanges one = map-append _ exchanges (one ∷ [])

-- a question that is asked again is the one that was asked
asks_again : (told : Option Told) (question : List ℕ) (message : List ℕ) (reply : List ℕ) (again : Vec ℕ) → IsSentFor question told message → IsHeard told reply (Again again) → again.items ≡ question
asks_again None question message reply again sent hears = absurd hears
asks_again (Some told) question message reply again sent hears = hears.0 ∙ sent.0

module _ (replica : EntryContents) (most : ℕ) (before : Streams) where
  abbrev Leads : List (Text × Register) → List Exchange → Underway Text Register → List ℕ → Type 0
  Leads = LeadTo entry_laws 16 text_key_encoding register_encoding (side replica)

  -- exchanges led from the beginning of a catch-up to one that is under way, which sends this message for its question and tells this with it
  pub record HasComeTo (after : Streams) (session : Underway Text Register) (told : Option Told) (message : Vec ℕ) : Type 0 where
    pub first : Underway Text Register
    pub opening : Vec ℕ
    pub begins : BeginsCatchUp entry_laws 16 text_key_encoding replica first opening.items
    pub exchanges : List Exchange
    pub question : List ℕ
    pub sent : IsSentFor question told message.items
    pub leads : (entries : List (Text × Register)) (e : Exchange) (others : List Exchange) → e.told ≡ told → Leads entries (e ∷ others) session question
        → Leads entries (exchanges ++ e ∷ others) first opening.items
    pub fits : AllByRecursion (λ e. length e.1 ≤ most) (on_wire exchanges)
    pub asked : Appends before.0 after.0 (all_asked (on_wire exchanges))
    pub came : Consumes before.1 after.1 (all_told (on_wire exchanges))

  -- none did yet
  pub has_begun : (session : Underway Text Register) (question : Vec ℕ) → BeginsCatchUp entry_laws 16 text_key_encoding replica session question.items → HasComeTo before session None question
  has_begun session question begins = record {
    first = session;
    opening = question;
    begins = begins;
    exchanges = [];
    question = question.items;
    sent = refl;
    leads = λ entries e others same leads. leads;
    fits = tt;
    asked = Appends-nil before.0;
    came = Consumes-nil before.1;
  }

  module _ (mid after : Streams) (session : Underway Text Register) (told : Option Told) (message : Vec ℕ) (reply : List ℕ) (come : HasComeTo mid session told message)
      (sent : Appends mid.0 after.0 (frame_of message.items)) (came : Consumes mid.1 after.1 (frame_of reply)) (fits : length reply ≤ most) where
    abbrev one : Exchange
    one = record { message = message.items; told = told; reply = reply }

    abbrev all : List Exchange
    all = come.exchanges ++ one ∷ []

    all_fit : AllByRecursion (λ e. length e.1 ≤ most) (on_wire all)
    all_fit = subst (AllByRecursion (λ e. length e.1 ≤ most)) (sym (wire_more come.exchanges one))
        (each-append (λ e. length e.1 ≤ most) (on_wire come.exchanges) ((message.items, reply) ∷ []) come.fits (fits, tt))

    all_sent : Appends before.0 after.0 (all_asked (on_wire all))
    all_sent = subst (λ w. Appends before.0 after.0 (all_asked w)) (sym (wire_more come.exchanges one))
        (all_written (λ e. frame_of e.0) before.0 mid.0 after.0 (on_wire come.exchanges) (message.items, reply) come.asked sent)

    all_came : Consumes before.1 after.1 (all_told (on_wire all))
    all_came = subst (λ w. Consumes before.1 after.1 (all_told w)) (sym (wire_more come.exchanges one))
        (all_read (λ e. frame_of e.1) before.1 mid.1 after.1 (on_wire come.exchanges) (message.items, reply) come.came came)

    -- a plain reply was heard, and a question comes next
    pub goes_on : (plain : Vec ℕ) (next : Underway Text Register) (question : Vec ℕ) (tells : Option Told) (asks : Vec ℕ) → IsHeard told reply (Reply plain)
        → IsNext entry_laws 16 text_key_encoding register_encoding (side replica) session plain.items (Ask next question) → IsSentFor question.items tells asks.items
        → HasComeTo after next tells asks
    goes_on plain next question tells asks hears is goes = record {
      first = come.first;
      opening = come.opening;
      begins = come.begins;
      exchanges = all;
      question = question.items;
      sent = goes;
      leads = λ entries e others same leads. subst (λ es. Leads entries es come.first come.opening.items) (sym (append_assoc come.exchanges (one ∷ []) (e ∷ others)))
          (come.leads entries one (e ∷ others) refl (come.sent, Reply plain, hears, (Ask next question, is, leads)));
      fits = all_fit;
      asked = all_sent;
      came = all_came;
    }

    -- none was, and the question is asked again, alone
    pub asks_alone : (again : Vec ℕ) (tells : Option Told) → IsHeard told reply (Again again) → tells ≡ None → HasComeTo after session tells again
    asks_alone again tells hears alone = record {
      first = come.first;
      opening = come.opening;
      begins = come.begins;
      exchanges = all;
      question = come.question;
      sent = subst (λ t. IsSentFor come.question t again.items) (sym alone) (asks_again told come.question message.items reply again come.sent hears);
      leads = λ entries e others same leads. subst (λ es. Leads entries es come.first come.opening.items) (sym (append_assoc come.exchanges (one ∷ []) (e ∷ others)))
          (come.leads entries one (e ∷ others) refl (come.sent, Again again, hears, (same ∙ alone, leads)));
      fits = all_fit;
      asked = all_sent;
      came = all_came;
    }

    -- a plain reply was heard, and it was the last
    pub comes_to : (plain : Vec ℕ) (entries : Vec (Text × Register)) → IsHeard told reply (Reply plain)
        → IsNext entry_laws 16 text_key_encoding register_encoding (side replica) session plain.items (Came entries) → CatchesUp replica most before after entries.items
    comes_to plain entries hears is = record {
      session = come.first;
      question = come.opening;
      begins = come.begins;
      exchanges = all;
      leads = come.leads entries.items one [] refl (come.sent, Reply plain, hears, (Came entries, is, (refl, refl)));
      fits = all_fit;
      asked = all_sent;
      told = all_came;
    }

  -- one more was
  pub has_served_more : (mid after : Streams) (message reply : List ℕ) → HasServed replica most before mid → IsToldReply entry_laws 16 text_key_encoding register_encoding replica message reply
      → length message ≤ most → Consumes mid.1 after.1 (frame_of message) → Appends mid.0 after.0 (frame_of reply) → HasServed replica most before after
  has_served_more mid after message reply (wire, served) is fits came sent = (
    wire ++ (message, reply) ∷ [],
    record {
      replies = each-append (λ e. IsToldReply entry_laws 16 text_key_encoding register_encoding replica e.0 e.1) wire ((message, reply) ∷ []) served.replies (is, tt);
      fits = each-append (λ e. length e.0 ≤ most) wire ((message, reply) ∷ []) served.fits (fits, tt);
      asked = all_read (λ e. frame_of e.0) before.1 mid.1 after.1 wire (message, reply) served.asked came;
      told = all_written (λ e. frame_of e.1) before.0 mid.0 after.0 wire (message, reply) served.told sent;
    },
  )
