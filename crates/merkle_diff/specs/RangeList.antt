-- Spans that are inserted into a list.
use Rattle.std.specs.Prelude.{◌≡◌, ◌++◌, List, [], ◌∷◌}
use Rattle.std.specs.Coded.{Coded, coded×, code_by}
use Rattle.std.proofs.Common.{refl}
use Rattle.key_order.specs.Interval.{Span}

-- the code of spans, by which a proof tells them apart
abbrev pub span_code : {K : Type 0} → Coded K → Coded (Span K)
span_code {K} k = code_by (K × K) (coded× k k) (λ s. (s.first, s.last)) (λ p. record { first = p.0; last = p.1 }) (λ _. refl)

-- after the spans that were there stands the one from `first` to `last`
abbrev pub Inserts : {K : Type 0} → List (Span K) → K → K → List (Span K) → Type 0
Inserts old first last new = new ≡ old ++ record { first = first; last = last } ∷ []
