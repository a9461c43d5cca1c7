-- THE EVENTS OF A TRACE: what each entry says (profile).
use Rattle.std.specs.Prelude.{◌≡◌, ◌≤◌, ◌-◌, ◌^◌, ℕ, ◌+◌, if◌then◌else◌, Option, Some, None, List, [], ◌∷◌, length, min, sum, MatchOption}
use Rattle.std.specs.Prelude.{drop, reverse, take}
use Rattle.request_piece.specs.declared.piece.Name.{Name}
use Rattle.unit_book.specs.Trace.{active, same, starts_of}
use Rattle.unit_book.specs.declared.entry.Entry.{Entry}
use Rattle.unit_book.specs.declared.entry.Entry.TheVariants.{Opened, Arrive, Start, Ran, Halted, Purge, Close, Reset, Post}
use Rattle.unit_history.specs.Causes.{IsCauseOfPost, sets_flag}
use Rattle.unit_history.specs.declared.event.UnitEvent.{UnitEvent}
use Rattle.unit_history.specs.declared.event.EventKind.{EventKind}
use Rattle.unit_history.specs.declared.event.EventKind.TheVariants.{Opened as WasOpened, Arrived, Started, Ran as HasRun, Halted as WasHalted}
use Rattle.unit_history.specs.declared.event.EventKind.TheVariants.{Purged, Closed, Reset as WasReset, Posted}

-- THE PLACE of events in a trace, whose entries are the oldest first: how many entries the events so far are of. Their table has
-- room for this many DCBs.
pub record EventsPlace : Type 0 where
  pub entries : List Entry
  pub done : ℕ
  pub room : ℕ

-- the entries before a position, newest first
abbrev pub entries_so_far : List Entry → ℕ → List Entry
entries_so_far es done = reverse (take done es)

-- THE TURNS of a program that follow one another

-- the commands of a turn of this request
abbrev pub turn : Name → Entry → Option ℕ
turn n (Ran m j) = if same m n then Some j else None
turn n _ = None

-- the commands of each turn of this request that these entries begin with
abbrev pub turns_by : Option ℕ → List ℕ → List ℕ
turns_by None others = []
turns_by (Some j) others = j ∷ others

-- the commands of each turn of a program, as long as its turns follow one another
unfoldable pub turns : Name → List Entry → List ℕ
turns n [] = []
turns n (e ∷ es) = turns_by (turn n e) (turns n es)

-- the largest number of 64 bits
abbrev pub most_commands : ℕ
most_commands = 2 ^ 64 - 1

-- WHAT AN ENTRY SAYS, with the entries before it, newest first, and those from it on, oldest first, by a table with room for
-- this many DCBs
abbrev pub TellsEntry : ℕ → List Entry → Entry → List Entry → EventKind → Type 0
TellsEntry room H (Opened d m x) es (WasOpened dcb method extents) = (dcb ≡ d) × (method ≡ m) × (extents.now ≡ x)
TellsEntry room H (Arrive r) es (Arrived issued) = issued.now ≡ r
TellsEntry room H (Start n) es (Started name attempt) = (name ≡ n) × (attempt ≡ starts_of n H + 1)
TellsEntry room H (Ran n j) es (HasRun name commands count) =
    (name ≡ n) × (commands ≡ min most_commands (sum (turns n es))) × (count ≡ length (turns n es))
TellsEntry room H (Halted n) es (WasHalted name) = name ≡ n
TellsEntry room H (Purge s m) es (Purged scope mode busy) = (scope ≡ s) × (mode ≡ m) × (busy ≡ active H)
TellsEntry room H (Close d) es (Closed dcb) = dcb ≡ d
TellsEntry room H (Reset d) es (WasReset dcb) = dcb ≡ d
TellsEntry room H (Post n csw sense code) es (Posted name end cause sets) =
    (name ≡ n) × (end ≡ record { code = code; csw = csw; sense = sense }) × IsCauseOfPost room H n code cause × (sets ≡ sets_flag H n code)
TellsEntry room H _ es _ = ⊥

-- the event of the first of these entries
abbrev pub TellsFirst : ℕ → List Entry → List Entry → EventKind → Type 0
TellsFirst room H [] kind = ⊥
TellsFirst room H (e ∷ es) kind = TellsEntry room H e (e ∷ es) kind

-- how many entries an event is of: each turn, or one
abbrev pub entries_of : EventKind → ℕ
entries_of (HasRun name commands count) = count
entries_of _ = 1

-- A CALL OF NEXT gives the event of the next entries, with the number of the first from 1, and goes on after them. At the
-- end it gives none.
abbrev pub GivesEvent : EventsPlace → Option UnitEvent → EventsPlace → Type 0
GivesEvent p given q =
    MatchOption given ((length p.entries ≤ p.done) × (q ≡ p))
    (λ event. (event.entry ≡ p.done + 1) × TellsFirst p.room (entries_so_far p.entries p.done) (drop p.done p.entries) event.kind
    × (q ≡ record p { done = p.done + entries_of event.kind }))
