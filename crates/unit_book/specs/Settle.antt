-- WHAT SETTLING A BOOK DOES: starts, runs and interruptions, until nothing waits and nothing is active
-- (profile).
use Rattle.std.specs.Prelude.{◌≡◌, ◌≤◌, ◌<◌, ℕ, ◌+◌, ◌-◌, ◌*◌, Bool, true, false, if◌then◌else◌, Option, Some, None, List, [], ◌++◌, length}
use Rattle.std.specs.List.{list_all}
use Rattle.device_port.specs.Meaning.{Meaning}
use Rattle.request_piece.specs.declared.piece.Name.{Name}
use Rattle.unit_book.specs.declared.answer.Starting.{Starting}
use Rattle.unit_book.specs.declared.answer.Running.{Running}
use Rattle.unit_book.specs.declared.answer.Interruption.{Interruption}
use Rattle.unit_book.specs.declared.entry.Entry.{Entry}
use Rattle.unit_book.specs.declared.entry.Entry.TheVariants.{Start, Ran, Post}
use Rattle.unit_book.specs.Trace.{active, waiting, starts_of}
use Rattle.unit_book.specs.Book.{Book, active_count}
use Rattle.unit_book.specs.Answers.{StartsBook, RunsBook, InterruptsBook}

-- the entry tells what became of a request: its program was started, ran, or it was posted
abbrev pub is_service : Entry → Bool
is_service (Start n) = true
is_service (Ran n j) = true
is_service (Post n csw sense code) = true
is_service _ = false

-- the trace has grown by Starts, Rans and Posts alone
pub record AddsService (old new : List Entry) : Type 0 where
  pub later : List Entry
  pub is : new ≡ later ++ old
  pub only : list_all is_service later ≡ true

module _ {D : Type 0} (meaning : Meaning D) where
  -- ONE STEP: what `start`, `run` or `interrupt` does, with some answer
  pub data Steps (old new : Book D) : Type 0 where
    ByStart : (answer : Starting) → StartsBook meaning old answer new → Steps old new
    ByRun : (max : ℕ) (answer : Running) → 1 ≤ max → RunsBook meaning old max answer new → Steps old new
    ByInterrupt : (answer : Interruption) → InterruptsBook meaning old answer new → Steps old new

  -- A LIST OF STEPS, one after another
  pub data Settles (old : Book D) : Book D → Type 0 where
    Stays : Settles old old
    Then : {mid new : Book D} → Settles old mid → Steps mid new → Settles old new

-- HOW FAR A BOOK IS from having nothing to do

-- the requests that are to be posted
abbrev pub unposted : List Entry → ℕ
unposted H = length (waiting H) + active_count (active H)

-- the starts that the active request may have before its post: at most ten more where it awaits one
abbrev pub starts_left : List Entry → Bool → Option Name → ℕ
starts_left H awaits None = 12
starts_left H awaits (Some n) = if awaits then 11 - starts_of n H else 12

abbrev pub distance : {D : Type 0} → Book D → ℕ
distance b = 13 * unposted b.trace + starts_left b.trace b.awaits (active b.trace)

-- nothing waits and nothing is active
pub record IsIdle (H : List Entry) : Type 0 where
  pub none_waits : waiting H ≡ []
  pub none_active : active H ≡ None

-- an attempt of a request brings the book nearer to its end; there is none if it is idle
abbrev pub Attempts : {D : Type 0} → Book D → Bool → Book D → Type 0
Attempts old true new = distance new < distance old
Attempts old false new = IsIdle new.trace
