-- What is read from a reader into a buffer.
use Rattle.std.specs.Prelude.{ℕ, ◌<◌, ◌≤◌, List, Option, length, take}
use Rattle.std.specs.Io.KnownBytes.{Consumes, IsAtEnd}

-- A BUFFER IS FILLED as far as the reader has bytes: `count` of them
pub record Fills (old new : Option (List ℕ)) (buffer : List ℕ) (count : ℕ) : Type 0 where
  pub consumed : Consumes old new (take count buffer)
  pub within : count ≤ length buffer
  pub end : count < length buffer → IsAtEnd new
