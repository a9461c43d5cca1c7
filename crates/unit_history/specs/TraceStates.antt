-- THE STATE OF A UNIT at a position of its trace, derived from the entries before it.
use Rattle.std.specs.Prelude.{◌≡◌, ◌≤◌, ℕ, Bool, true, false, ◌||◌, ◌&&◌, Option, Some, None, List, length, reverse}
use Rattle.request_piece.specs.declared.piece.Piece.{Piece}
use Rattle.request_piece.specs.declared.piece.Name.{Name}
use Rattle.unit_book.specs.Trace.{active, has_arrived, is_covered, is_halt, is_halted, request_named, same, starts_of}
use Rattle.request_piece.specs.Scope.{covers}
use Rattle.request_piece.specs.declared.scope.Scope.{Scope}
use Rattle.unit_book.specs.Dcbs.{doomed}
use Rattle.unit_book.specs.Lists.{Each}
use Rattle.unit_history.specs.declared.event.PostCause.{PostCause}
use Rattle.unit_book.specs.declared.entry.Entry.{Entry}
use Rattle.unit_book.specs.declared.entry.Mode.{Mode}
use Rattle.unit_history.specs.Causes.{IsDoom, IsHalting, is_doom}
use Rattle.unit_history.specs.Dcbs.{KnowsDcbs, room_of}
use Rattle.unit_history.specs.Events.{entries_so_far}
use Rattle.unit_history.specs.Orderly.{Orderly}
use Rattle.unit_history.specs.declared.trace_state.StartedRequest.{StartedRequest}
use Rattle.unit_history.specs.declared.trace_state.TraceState.{TraceState}

-- the halting purge of a request, if there is one
abbrev pub HaltingIs : Piece → List Entry → Option ℕ → Type 0
HaltingIs r H None = is_covered r H ≡ false
HaltingIs r H (Some number) = IsHalting r H number

-- the active request
pub record IsActive (H : List Entry) (a : StartedRequest) : Type 0 where
  pub is : active H ≡ Some a.name
  pub arrived : has_arrived a.name H ≡ true
  pub request : a.issued.now ≡ request_named a.name H
  pub named : a.issued.now.name ≡ a.name
  pub starts : a.starts ≡ starts_of a.name H
  pub halted : a.is_halted ≡ is_halted a.name H
  pub halting : HaltingIs a.issued.now H a.halting

-- the active request, if there is one, is known
abbrev pub ActiveIs : List Entry → Option StartedRequest → Type 0
ActiveIs H None = active H ≡ None
ActiveIs H (Some a) = IsActive H a

-- the active request after a halt of this name
abbrev pub active_halted : Name → StartedRequest → StartedRequest
active_halted n a = record a { is_halted = a.is_halted || same a.name n }

-- the number of the first purge that halted the request, after one more purge: `true` if that one halts it
abbrev pub halting_after : Option ℕ → Bool → ℕ → Option ℕ
halting_after None true number = Some number
halting_after None false number = None
halting_after (Some first) halts number = Some first

-- the active request after a purge with this number
abbrev pub purged_by : Scope → Mode → ℕ → StartedRequest → StartedRequest
purged_by scope mode number a =
    record a { halting = halting_after a.halting (covers scope a.issued.now && is_halt mode) number }

-- the active request, if it has the name
abbrev pub IfNamed : Name → Option StartedRequest → Option StartedRequest → Type 0
IfNamed n o (Some a) = (o ≡ Some a) × (a.name ≡ n)
IfNamed n None None = Unit {0}
IfNamed n (Some a) None = same a.name n ≡ false

-- the active request, unless it has the name
abbrev pub UnlessNamed : Name → Option StartedRequest → Option StartedRequest → Type 0
UnlessNamed n o (Some a) = (o ≡ Some a) × (same a.name n ≡ false)
UnlessNamed n None None = Unit {0}
UnlessNamed n (Some a) None = a.name ≡ n

-- the entries before, newest first
abbrev pub before : TraceState → List Entry
before state = entries_so_far state.trace.now state.done

-- each request that is doomed is so by this cause
abbrev pub DoomsBy : ℕ → List Entry → PostCause → Type 0
DoomsBy room H cause = Each (λ r. IsDoom room H r cause) (doomed H)

-- how many DCBs the table of the state has room for
abbrev pub room_of_state : TraceState → ℕ
room_of_state state = room_of state.dcbs.now

-- a state is the one that the entries before it determine
pub record Knows (state : TraceState) : Type 0 where
  pub orderly : Orderly (reverse state.trace.now)
  pub few : state.done ≤ length state.trace.now
  pub active_is : ActiveIs (before state) state.active
  pub doom : is_doom state.cause ≡ true
  pub dooms : DoomsBy (room_of_state state) (before state) state.cause
  pub dcbs : KnowsDcbs (before state) state.dcbs.now
