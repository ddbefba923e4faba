-- The front of a message tells its kind, and a reply that is not read is none.
use Rattle.std.proofs.Common.{◌≡◌, ℕ, ◌==◌, cond, List, ◌++◌, refl, sym, ap, ◌∙◌}
use Rattle.merkle_bytes.specs.Refusals.{IsMalformed, unread}
use Rattle.merkle_bytes.specs.declared.error.ReadError.{ReadError}
use Rattle.merkle_bytes.specs.declared.error.ReadError.TheVariants as read
use Rattle.merkle_wire.specs.Faults.{IsRefusedFor}
use Rattle.merkle_wire.specs.Messages.{front, kind_byte}
use Rattle.merkle_wire.specs.declared.message.Kind.{Kind}
use Rattle.merkle_wire.specs.declared.message.Kind.TheVariants.{AskRoot, AskOutlines, AskNodes, AskRowsAt, AskRowsIn, Root, Outlines, Nodes, RowsAt, RowsIn, Refusal}
use Rattle.merkle_wire.specs.declared.session_error.SessionError.{SessionError}
use Rattle.merkle_wire.specs.declared.session_error.SessionError.TheVariants as session
use Rattle.merkle_wire.proofs.NoSettings.{same_behind}

-- a reply that is not read is refused for a reason why it is malformed
pub refused_unread : (reason : Type 0) (error : ReadError) → (IsMalformed error → reason) → IsRefusedFor reason (unread session.Memory session.Malformed error)
refused_unread reason read.Memory why = tt
refused_unread reason (read.Unexpected offset expected) why = why tt

-- what is refused for one reason is for another that follows
pub refused_for : (reason other : Type 0) (error : SessionError) → (reason → other) → IsRefusedFor reason error → IsRefusedFor other error
refused_for reason other session.Memory why r = tt
refused_for reason other (session.Malformed e) why r = why r
refused_for reason other session.OtherKind why r = why r
refused_for reason other session.Refused why r = why r
refused_for reason other session.NothingCame why r = why r
refused_for reason other session.NotInGap why r = why r
refused_for reason other session.NoNode why r = why r
refused_for reason other session.TooManyRounds why r = r
refused_for reason other (session.Limit limit) why r = r
refused_for reason other session.Twice why r = r

-- the kind of a byte
abbrev kind_of : ℕ → Kind
kind_of b =
    cond (b == 1) AskRoot (cond (b == 2) AskOutlines (cond (b == 3) AskNodes (cond (b == 4) AskRowsAt (cond (b == 5) AskRowsIn
    (cond (b == 129) Root (cond (b == 130) Outlines (cond (b == 131) Nodes (cond (b == 132) RowsAt (cond (b == 133) RowsIn Refusal)))))))))

kind_back : (kind : Kind) → kind_of (kind_byte kind) ≡ kind
kind_back AskRoot = refl
kind_back AskOutlines = refl
kind_back AskNodes = refl
kind_back AskRowsAt = refl
kind_back AskRowsIn = refl
kind_back Root = refl
kind_back Outlines = refl
kind_back Nodes = refl
kind_back RowsAt = refl
kind_back RowsIn = refl
kind_back Refusal = refl

-- a front tells the kind, and what is after it
pub front_told : (a b : Kind) (r s : List ℕ) → front a ++ r ≡ front b ++ s → (a ≡ b) × (r ≡ s)
front_told a b r s e =
    let both = same_behind 1 (kind_byte a) 1 (kind_byte b) r s e in
    (sym (kind_back a) ∙ ap kind_of both.0 ∙ kind_back b, both.1)
