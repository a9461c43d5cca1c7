-- THE PLACE OF A REPLAY in the trace of a book, and what was replayed up to there (profile).
use Rattle.std.specs.Prelude.{◌≡◌, ◌⊎◌, false, IsSome, ℕ, zero, suc, ◌+◌, ◌==◌, if◌then◌else◌, Option, Some, None, List, ◌∷◌, reverse}
use Rattle.std.specs.Prelude.{slice_get, take}
use Rattle.device_port.specs.Meaning.{Meaning}
use Rattle.device_port.specs.declared.chain.Segment.{Segment}
use Rattle.device_port.specs.declared.kind.Flow.{Flow}
use Rattle.ccw_programs.specs.declared.fetch.Link.{Link}
use Rattle.ccw_programs.specs.declared.rule.FailedCcw.{FailedCcw}
use Rattle.ccw_programs.specs.Listings.{Lists}
use Rattle.ccw_programs.specs.Place.{Place as Standing}
use Rattle.ccw_programs.specs.Step.{is_running}
use Rattle.io_area.specs.Storage.{Storage}
use Rattle.request_piece.specs.declared.piece.Name.{Name}
use Rattle.unit_history.specs.declared.replay.ReplayStep.{ReplayStep}
use Rattle.unit_history.specs.declared.replay.ReplayStep.TheVariants.{Command, Entry as Whole, End}
use Rattle.unit_book.specs.Book.{Book}
use Rattle.unit_book.specs.Media.{area, current, device}
use Rattle.unit_book.specs.Trace.{active, request_named}
use Rattle.unit_book.specs.declared.entry.Entry.{Entry}
use Rattle.unit_book.specs.declared.entry.Entry.TheVariants.{Post, Ran, Start}

-- the book, how many of its entries were replayed, oldest first, and how many commands of the next one
pub record ReplayPlace (D : Type 0) : Type 0 where
  pub book : Book D
  pub done : ℕ
  pub ran : ℕ

-- a trace, newest entry first, with a number of commands of the entry that comes next
abbrev pub partly : ℕ → Option Entry → List Entry → List Entry
partly zero next H = H
partly (suc k) (Some (Ran n j)) H = Ran n (suc k) ∷ H
partly (suc k) _ H = H

-- what was replayed of these entries, oldest first; newest first
abbrev pub replayed : List Entry → ℕ → ℕ → List Entry
replayed entries done ran = partly ran (slice_get entries done) (reverse (take done entries))

-- WHAT WAS REPLAYED, a trace
abbrev pub so_far : {D : Type 0} → ReplayPlace D → List Entry
so_far p = replayed (reverse p.book.trace) p.done p.ran

-- the position after one more of the commands of an entry
abbrev pub behind_command : {D : Type 0} → ℕ → ReplayPlace D → ReplayPlace D
behind_command commands p = if p.ran + 1 == commands then record p { done = p.done + 1; ran = 0 } else record p { ran = p.ran + 1 }

-- THE NEXT POSITION: after the next entry, or after the next command of an entry of commands; at the end, the same position
abbrev pub place_after : {D : Type 0} → Option Entry → ReplayPlace D → ReplayPlace D
place_after None p = p
place_after (Some (Ran n j)) p = behind_command j p
place_after _ p = record p { done = p.done + 1; ran = 0 }

-- the position after the next entry or command
abbrev pub next_place : {D : Type 0} → ReplayPlace D → ReplayPlace D
next_place p = place_after (slice_get (reverse p.book.trace) p.done) p

-- an entry says that this many commands ran
abbrev pub IsRan : ℕ → Option Entry → Type 0
IsRan j (Some (Ran n k)) = k ≡ j
IsRan j _ = ⊥

-- a post of this name
abbrev pub IsPost : Name → Option Entry → Type 0
IsPost n (Some (Post m csw sense code)) = m ≡ n
IsPost n _ = ⊥

-- this is the storage of the active request, if there is one
abbrev pub ShowsArea : {D : Type 0} → Meaning D → ReplayPlace D → Option Storage → Type 0
ShowsArea meaning p None = active (so_far p) ≡ None
ShowsArea meaning p (Some m) = (n : Name) × (active (so_far p) ≡ Some n)
    × (m ≡ area meaning p.book.mounted (request_named n (so_far p)) (so_far p))

-- this is the position of the active request's program, if there is one
abbrev pub ShowsContext : {D : Type 0} → Meaning D → ReplayPlace D → Option Standing → Type 0
ShowsContext meaning p None = active (so_far p) ≡ None
ShowsContext meaning p (Some c) = IsSome (active (so_far p)) × (c ≡ (current meaning p.book.mounted (so_far p)).place)

-- no request is active, or its program has ended
abbrev pub IsBetweenPrograms : {D : Type 0} → Meaning D → ReplayPlace D → Type 0
IsBetweenPrograms meaning p = (active (so_far p) ≡ None) ⊎ (is_running (current meaning p.book.mounted (so_far p)).place.state ≡ false)

-- this is what the program of the active request is to do next
abbrev pub ListsNext : {D : Type 0} → Meaning D → ReplayPlace D → List Link → Option Flow → List Segment → Option FailedCcw → Type 0
ListsNext meaning p =
    let now = current meaning p.book.mounted (so_far p) in
    Lists meaning (device meaning p.book.mounted (so_far p)) now.area now.place

-- a start, after a trace in which nothing is active: the first one of its request
abbrev pub IsFirstStart : List Entry → Option Entry → Type 0
IsFirstStart H (Some (Start n)) = active H ≡ None
IsFirstStart H _ = ⊥

-- what a step is that goes on to this entry
abbrev pub step_to : Option Entry → ReplayStep
step_to None = End
step_to (Some (Ran n j)) = Command
step_to _ = Whole
