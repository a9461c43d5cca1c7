-- WHAT THE FIELDS OF A REPLAY SAY: they are those of what was replayed.
use Rattle.std.specs.Prelude.{◌≡◌, ◌≤◌, ◌<◌, ℕ, zero, suc, Option, Some, None, List, length, slice_get}
use Rattle.device_port.specs.Meaning.{Meaning}
use Rattle.unit_book.specs.declared.entry.Entry.{Entry}
use Rattle.unit_book.specs.declared.entry.Entry.TheVariants.{Arrive, Ran}
use Rattle.request_piece.specs.declared.piece.Name.{Name}
use Rattle.request_piece.specs.declared.piece.Piece.{Piece}
use Rattle.unit_book.specs.Trace.{active, request_named}
use Rattle.unit_book.specs.Media.{current, device}
use Rattle.unit_history.specs.declared.attempt.Attempt.{Attempt}
use Rattle.unit_history.specs.Replayed.{replayed}

-- this request has the name, and arrived at an index among entries
abbrev pub ArrivesAt : List Entry → Name → ℕ → Piece → Type 0
ArrivesAt entries name place r = (slice_get entries place ≡ Some (Arrive r)) × (r.name ≡ name)

-- commands of an entry were done, but not all of them
abbrev pub IsWithin : ℕ → Option Entry → Type 0
IsWithin zero next = Unit {0}
IsWithin (suc k) (Some (Ran n j)) = suc k < j
IsWithin (suc k) _ = ⊥

module _ {D : Type 0} (meaning : Meaning D) (mounted : D) where
  -- the attempt is the newest one of the trace, of its active request
  pub record AttemptTies (H : List Entry) (a : Attempt) : Type 0 where
    pub is : active H ≡ Some a.issued.now.name
    pub request : a.issued.now ≡ request_named a.issued.now.name H
    pub area : a.area ≡ (current meaning mounted H).area
    pub place : a.context ≡ (current meaning mounted H).place

  -- the attempt of the replay is that of the active request
  abbrev pub ReplayActiveTies : List Entry → Option Attempt → Type 0
  ReplayActiveTies H None = active H ≡ None
  ReplayActiveTies H (Some a) = AttemptTies H a

  -- the fields of a replay are those that the entries so far determine
  pub record ReplayTies (entries : List Entry) (done ran : ℕ) (device_now : D) (attempt : Option Attempt) : Type 0 where
    pub few : done ≤ length entries
    pub within : IsWithin ran (slice_get entries done)
    pub device_is : device_now ≡ device meaning mounted (replayed entries done ran)
    pub attempt_is : ReplayActiveTies (replayed entries done ran) attempt
