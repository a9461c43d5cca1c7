-- HOW FAR A TEXT IS WRITTEN: all of it, or a first part if a write fails (profile).
use Rattle.std.specs.Prelude.{◌≡◌, ℕ, List, ◌++◌, Option}
use Rattle.std.specs.Io.KnownBytes.{Appends}

-- a first part of the text was appended, and this is left
pub record Wrote (old now : Option (List ℕ)) (left text : List ℕ) : Type 0 where
  pub written : List ℕ
  pub appends : Appends old now written
  pub whole : written ++ left ≡ text

-- a first part of the text was appended: none of it, some or all
abbrev pub AppendsPart : Option (List ℕ) → Option (List ℕ) → List ℕ → Type 0
AppendsPart old now text = (left : List ℕ) × Wrote old now left text
