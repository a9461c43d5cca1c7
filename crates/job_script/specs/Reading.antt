-- HOW FAR A READER IS READ, and why a script is not read whole.
use Rattle.std.specs.Prelude.{ℕ, ◌<◌, ◌≤◌, List, Option, length}
use Rattle.std.specs.Io.KnownBytes.{Consumes, IsAtEnd}
use Rattle.job_script.specs.declared.fault.JobError.{JobError}
use Rattle.job_script.specs.declared.fault.JobError.TheVariants as faults

-- at most n bytes were read
abbrev pub ReadsAtMost : ℕ → Option (List ℕ) → Option (List ℕ) → Type 0
ReadsAtMost n old new = (bytes : List ℕ) × Consumes old new bytes × (length bytes ≤ n)

-- more than n bytes were read
abbrev pub ReadsMore : ℕ → Option (List ℕ) → Option (List ℕ) → Type 0
ReadsMore n old new = (bytes : List ℕ) × Consumes old new bytes × (n < length bytes)

-- these are all the bytes that the reader had, and they are at most n
pub record ReadsAll (n : ℕ) (old new : Option (List ℕ)) (bytes : List ℕ) : Type 0 where
  pub consumed : Consumes old new bytes
  pub end : IsAtEnd new
  pub few : length bytes ≤ n

-- why a script of at most n bytes was not read whole: it has more; a read failed before that; or memory ran out
abbrev pub ReadFault : ℕ → Option (List ℕ) → Option (List ℕ) → JobError → Type 0
ReadFault n old new faults.TooLong = ReadsMore n old new
ReadFault n old new faults.Unreadable = ReadsAtMost n old new
ReadFault n old new faults.NoMemory = Unit {0}
ReadFault n old new (faults.Line _ _) = ⊥
ReadFault n old new faults.NotWritten = ⊥
ReadFault n old new faults.Unmatched = ⊥
ReadFault n old new faults.NoThread = ⊥
