-- WHAT IS LEFT OF A RUN that was not brought to its end (profile).
use Rattle.std.specs.Prelude.{◌≡◌, ◌≢◌, ◌≤◌, ℕ, List, length, Option, Some, None, Vec, slice_get, ⊤}
use Rattle.std.specs.List.{All}
use Rattle.request_piece.specs.PostedState.{PostedState}
use Rattle.unit_book.specs.Book.{Book}
use Rattle.excp_system.specs.Drained.{ArePlaced}
use Rattle.excp_system.specs.States.{Locked, TaskState}
use Rattle.post_ledger.specs.declared.unfinished.Units.{Units}
use Rattle.post_ledger.specs.declared.unfinished.Units.TheVariants.{Locked as LockedUnits, Free}
use Rattle.post_ledger.specs.declared.cause.Cause.{Cause}
use Rattle.post_ledger.specs.declared.cause.Cause.TheVariants.{NoMemory, Mixed}
use Rattle.post_ledger.specs.Parting.{Paired}
use Rattle.post_ledger.specs.Work.{Grew, Works}

-- why; the states of the units, once they were taken from under their locks; the tasks; and for each task a list
-- for each unit, of what was collected for the report, or none yet
pub record Left (D : Type 0) : Type 0 where
  pub cause : Cause
  pub units : Option (List (Locked D))
  pub tasks : List TaskState
  pub lists : List (List (List PostedState))

-- the states of the units of a run, if they are free
abbrev pub free_states : {L X A : Type 0} → Units L (Vec X A) → Option (List X)
free_states (LockedUnits system) = None
free_states (Free units) = Some units.items

-- for some of `tasks` tasks, each of them from the first on, a list for each unit
pub record AreLists (units tasks : ℕ) (lists : List (List (List PostedState))) : Type 0 where
  pub few : length lists ≤ tasks
  pub each : All (λ of_units. length of_units ≡ units) lists

-- some unit's state is not at the index of its number
abbrev pub AreMixed : {D : Type 0} → List (Locked D) → Type 0
AreMixed {D} units = (k : ℕ) × (v : Locked D) × (slice_get units k ≡ Some v) × (v.unit ≢ k)

-- the cause is that units are mixed up, if they are, and else that memory ran out
abbrev pub IsCause : {D : Type 0} → ℕ → Cause → Option (List (Locked D)) → Type 0
IsCause count Mixed None = ⊥
IsCause count Mixed (Some units) = AreMixed units
IsCause count NoMemory None = ⊤
IsCause count NoMemory (Some units) = ArePlaced (λ v. v.unit) count units

-- units that were free have worked, and stay free; nothing is known of what a lock protects
abbrev pub WorkOn : {D : Type 0} → Option (List (Locked D)) → Option (List (Locked D)) → Type 0
WorkOn None new = ⊤
WorkOn (Some old) None = ⊥
WorkOn (Some old) (Some new) = Paired Works old new

-- the books of units that were free have grown into these
abbrev pub GrewInto : {D : Type 0} → Option (List (Locked D)) → List (Book D) → Type 0
GrewInto None books = ⊤
GrewInto (Some old) books = Paired (λ v b. Grew v.book b) old books
