-- Words on lists.
use Rattle.std.specs.Prelude.{List, [], ◌∷◌}

-- each of a list has the property
abbrev pub Each : {X : Type 0} → (X → Type 0) → List X → Type 0
Each P [] = Unit {0}
Each P (x ∷ xs) = P x × Each P xs
