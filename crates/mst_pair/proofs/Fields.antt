-- Fields with a space between them.
use Rattle.std.proofs.Common.{◌≡◌, ◌≢◌, ℕ, ◌<◌, List, [], ◌∷◌, ◌++◌, length, get_or, refl, sym, ap, subst, ◌∙◌, false, nat_eq, arith, codes, ◌⊎◌, inl, inr, Option, None, Some, IfNone, MatchOption}
use Rattle.std.proofs.lemmas.List.Folds.{list_any_none}
use Rattle.std.proofs.lemmas.List.Elements.{All-weaker}
use Rattle.std.proofs.lemmas.Bool.Decides.{nat_tests}
use Rattle.mst_pair.specs.Requests.{Request, put, del, keys, root, pages, diff, pull, same, turns, set_format, IsSpelled, IsBad, space, fields, IsKey, IsKeyByte, name_text}
use Rattle.mst_pair.specs.Parsing.{HasNoSpace, IsRowText, IsSpelledBy}
use Rattle.mst_pair.specs.declared.engine.ReplicaName.{ReplicaName}
use Rattle.mst_pair.specs.declared.engine.ReplicaName.TheVariants.{A, B}

no_space_head : (b : ℕ) (xs : List ℕ) → HasNoSpace (b ∷ xs) → b ≢ space
no_space_head b xs none = grind (arith, nat_tests)

no_space_tail : (b : ℕ) (xs : List ℕ) → HasNoSpace (b ∷ xs) → HasNoSpace xs
no_space_tail b xs none = grind (arith, nat_tests)

-- there is one way to cut at the first space
pub first_unique : (f g x y : List ℕ) → HasNoSpace f → HasNoSpace g → f ++ space ∷ x ≡ g ++ space ∷ y → (f ≡ g) × (x ≡ y)
first_unique [] [] x y nf ng e = (refl, cc)
first_unique [] (c ∷ g) x y nf ng e = absurd (no_space_head c g ng (cc))
first_unique (b ∷ f) [] x y nf ng e = absurd (no_space_head b f nf (cc))
first_unique (b ∷ f) (c ∷ g) x y nf ng e =
    let tails : f ++ space ∷ x ≡ g ++ space ∷ y = cc in
    let same = first_unique f g x y (no_space_tail b f nf) (no_space_tail c g ng) tails in
    let heads : b ≡ c = cc in
    (ap (λ h. h ∷ f) heads ∙ ap (λ t. c ∷ t) same.0, same.1)

-- a text without a space is none with one
has_space : {X : Type 0} (front rest text : List ℕ) → HasNoSpace text → text ≡ front ++ space ∷ rest → X
has_space [] rest [] none e = absurd (cc)
has_space [] rest (b ∷ bs) none e = let here : b ≡ space = cc in absurd (no_space_head b bs none here)
has_space (c ∷ front) rest [] none e = absurd (cc)
has_space (c ∷ front) rest (b ∷ bs) none e = let tails : bs ≡ front ++ space ∷ rest = cc in has_space front rest bs (no_space_tail b bs none) tails

pub no_space_key : (key : List ℕ) → IsKey key → HasNoSpace key
no_space_key key k = list_any_none (λ c. nat_eq c space) key (All-weaker IsKeyByte (λ c. nat_eq c space ≡ false) (λ c byte. not_space c byte) key k.visible)
  where
    not_space : (c : ℕ) → IsKeyByte c → nat_eq c space ≡ false
    not_space c byte = let above : 32 < c = byte.0 in grind (arith, nat_tests)

pub no_space_name : (name : ReplicaName) → HasNoSpace (name_text name)
no_space_name A = refl
no_space_name B = refl

-- a line of two fields or more is spelled by its first field and what follows it
by_fields : (first rest word arguments line : List ℕ) → HasNoSpace word → HasNoSpace first → line ≡ word ++ space ∷ arguments → line ≡ first ++ space ∷ rest → (word ≡ first) × (arguments ≡ rest)
by_fields first rest word arguments line w f e g = first_unique word first arguments rest w f (sym e ∙ g)

-- what spells a request at the first space of a line
pub spelled_by : (q : Request) (word arguments line : List ℕ) → HasNoSpace word → line ≡ word ++ space ∷ arguments → IsSpelled q line → IsSpelledBy q word arguments
spelled_by (put name key n) word arguments line w e (digits, k, number, g) = let at = by_fields (codes "put") _ word arguments line w refl e g in (at.0, (digits, k, number, at.1))
spelled_by (del name key) word arguments line w e (k, g) = let at = by_fields (codes "del") _ word arguments line w refl e g in (at.0, (k, at.1))
spelled_by (keys name) word arguments line w e g = by_fields (codes "keys") _ word arguments line w refl e g
spelled_by (root name) word arguments line w e g = by_fields (codes "root") _ word arguments line w refl e g
spelled_by (pages name) word arguments line w e g = by_fields (codes "pages") _ word arguments line w refl e g
spelled_by (diff name) word arguments line w e g = by_fields (codes "diff") _ word arguments line w refl e g
spelled_by (pull name) word arguments line w e g = by_fields (codes "pull") _ word arguments line w refl e g
spelled_by same word arguments line w e g = has_space word arguments (codes "same") refl (sym g ∙ e)
spelled_by (turns d) word arguments line w e (small, g) = let at = by_fields (codes "turns") _ word arguments line w refl e g in (at.0, small, at.1)
spelled_by (set_format format) word arguments line w e g = by_fields (codes "format") _ word arguments line w refl e g

-- what is no request by its word and arguments is none by its line
pub bad_command : {C : Type 0} (Found : C → Type 0) (r : Option C) (word arguments line : List ℕ) → HasNoSpace word → line ≡ word ++ space ∷ arguments
    → MatchOption r ((q : Request) → IsSpelledBy q word arguments → ⊥) Found → IfNone r (IsBad line)
bad_command Found None word arguments line w e refuted = λ q spelled. refuted q (spelled_by q word arguments line w e spelled)
bad_command Found (Some c) word arguments line w e found = tt

-- what stands after the name of a replica in the arguments of `put` or `del`: a row or a key
Follows : List ℕ → List ℕ → Type 0
Follows word rest = ((word ≡ codes "put") × ((key : List ℕ) × (n : ℕ) × IsRowText rest key n)) ⊎ ((word ≡ codes "del") × IsKey rest)

-- `put` and `del` are the words of three letters
named : (word arguments : List ℕ) → length word ≡ 3
    → ((name : ReplicaName) (rest : List ℕ) → Follows word rest → arguments ≡ name_text name ++ space ∷ rest → ⊥) → (q : Request) → IsSpelledBy q word arguments → ⊥
unfolding Follows
named word arguments short refuted (put name key n) (w, (digits, k, number, a)) = refuted name (fields (key ∷ digits ∷ [])) (inl (w, (key, n, (digits, k, number, refl)))) a
named word arguments short refuted (del name key) (w, (k, a)) = refuted name key (inr (w, k)) a
named word arguments short refuted (keys name) (w, a) = absurd (omega (arith, short, ap length w))
named word arguments short refuted (root name) (w, a) = absurd (omega (arith, short, ap length w))
named word arguments short refuted (pages name) (w, a) = absurd (omega (arith, short, ap length w))
named word arguments short refuted (diff name) (w, a) = absurd (omega (arith, short, ap length w))
named word arguments short refuted (pull name) (w, a) = absurd (omega (arith, short, ap length w))
named word arguments short refuted same spelled = absurd spelled
named word arguments short refuted (turns d) (w, small, a) = absurd (omega (arith, short, ap length w))
named word arguments short refuted (set_format format) (w, a) = absurd (omega (arith, short, ap length w))

-- arguments whose first field names no replica
pub bad_name : (word name rest arguments : List ℕ) → length word ≡ 3 → HasNoSpace name → arguments ≡ name ++ space ∷ rest
    → ((n : ReplicaName) → name ≢ name_text n) → (q : Request) → IsSpelledBy q word arguments → ⊥
bad_name word name rest arguments short none e no_name =
    named word arguments short (λ other follows behind a. no_name other (first_unique name (name_text other) rest follows none (no_space_name other) (sym e ∙ a)).0)

-- arguments that name a replica, and what is after it may not follow
bad_rest : (word : List ℕ) (name : ReplicaName) (rest arguments : List ℕ) → length word ≡ 3 → arguments ≡ name_text name ++ space ∷ rest
    → (Follows word rest → ⊥) → (q : Request) → IsSpelledBy q word arguments → ⊥
bad_rest word name rest arguments short e no_rest =
    named word arguments short (λ other follows behind a. no_rest
    (subst (Follows word) (sym (first_unique (name_text name) (name_text other) rest follows (no_space_name name) (no_space_name other) (sym e ∙ a)).1) behind))

-- arguments of `put` that name a replica and have no row
pub bad_row : (name : ReplicaName) (rest arguments : List ℕ) → arguments ≡ name_text name ++ space ∷ rest → ((key : List ℕ) (n : ℕ) → IsRowText rest key n → ⊥)
    → (q : Request) → IsSpelledBy q (codes "put") arguments → ⊥
unfolding Follows
bad_row name rest arguments e no_row =
    bad_rest (codes "put") name rest arguments refl e (elim [ inl row ↦ no_row row.1.0 row.1.1 row.1.2 | inr key ↦ absurd (omega (arith, ap (λ xs. get_or xs 0 0) key.0)) ])

-- arguments of `del` that name a replica and have no key
pub bad_key : (name : ReplicaName) (rest arguments : List ℕ) → arguments ≡ name_text name ++ space ∷ rest → (IsKey rest → ⊥) → (q : Request) → IsSpelledBy q (codes "del") arguments → ⊥
unfolding Follows
bad_key name rest arguments e no_key =
    bad_rest (codes "del") name rest arguments refl e (elim [ inl row ↦ absurd (omega (arith, ap (λ xs. get_or xs 0 0) row.0)) | inr key ↦ no_key key.1 ])
