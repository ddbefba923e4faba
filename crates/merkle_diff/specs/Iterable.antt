-- What an iterable gives.
use Rattle.std.specs.Prelude.{List, [], ◌∷◌, Option, Some, None}
use Rattle.std.specs.Iterator.{Drains, Yields}

module _ {V I X : Type 0} (becomes : V → I → Type 0) (steps : I → Option X → I → Type 0) where
  -- the iterable v became an iterator that gave the items xs and then ended
  abbrev pub Gives : V → List X → Type 0
  Gives v xs = (it : I) × becomes v it × Drains steps it xs

  -- it gave the items xs, and maybe more later
  abbrev pub Begins : V → List X → Type 0
  Begins v xs = (it : I) × (rest : I) × becomes v it × Yields steps it xs rest

  -- its first item was this, or it gave none
  abbrev pub GivesFirst : V → Option X → Type 0
  GivesFirst v None = Gives v []
  GivesFirst v (Some x) = Begins v (x ∷ [])
