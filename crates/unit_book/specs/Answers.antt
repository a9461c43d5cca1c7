-- WHAT THE CALLS OF A BOOK ADD AND ANSWER (profile).
use Rattle.std.specs.Prelude.{◌≡◌, ◌<◌, ◌≤◌, ℕ, ◌+◌, min, Bool, true, false, not, Option, Some, None, IsSome, List, [], ◌∷◌, ◌++◌, length}
use Rattle.io_images.specs.declared.extent.Extent.{Extent}
use Rattle.io_images.specs.declared.code.Code.{Code}
use Rattle.io_images.specs.declared.code.Code.TheVariants.{ExtentViolated}
use Rattle.device_port.specs.Meaning.{Meaning}
use Rattle.ccw_programs.specs.Step.{length_of}
use Rattle.io_images.specs.Images.{no_status}
use Rattle.subchannel.specs.declared.Status.{Status}
use Rattle.subchannel.specs.Subchannel.{empty_status}
use Rattle.request_piece.specs.declared.piece.Name.{Name}
use Rattle.unit_queue.specs.declared.selection.Selection.{Selection}
use Rattle.unit_book.specs.declared.answer.ArriveError.{ArriveError}
use Rattle.unit_book.specs.declared.answer.ArriveError.TheVariants as arriving
use Rattle.unit_book.specs.declared.answer.OpenError.{OpenError}
use Rattle.unit_book.specs.declared.answer.OpenError.TheVariants as opening
use Rattle.unit_book.specs.declared.answer.Starting.{Starting}
use Rattle.unit_book.specs.declared.answer.Starting.TheVariants as starting
use Rattle.unit_book.specs.declared.answer.Running.{Running}
use Rattle.unit_book.specs.declared.answer.Running.TheVariants as running
use Rattle.unit_book.specs.declared.answer.Interruption.{Interruption}
use Rattle.unit_book.specs.declared.answer.Interruption.TheVariants as interrupting
use Rattle.unit_book.specs.declared.decision.Taken.{Taken}
use Rattle.unit_book.specs.declared.decision.Taken.TheVariants as taking
use Rattle.unit_book.specs.declared.decision.Begun.{Begun}
use Rattle.unit_book.specs.declared.decision.Begun.TheVariants as beginning
use Rattle.unit_book.specs.declared.dcb.ProcessingMethod.{ProcessingMethod}
use Rattle.unit_book.specs.declared.entry.Entry.{Entry}
use Rattle.unit_book.specs.declared.entry.Entry.TheVariants.{Opened, Start, Ran, Post}
use Rattle.unit_book.specs.Trace.{active, waiting, request_named}
use Rattle.unit_book.specs.Extents.{takes_extents}
use Rattle.unit_book.specs.Dcbs.{opened_count, doomed}
use Rattle.unit_book.specs.Media.{still_runs, active_phase, current, area}
use Rattle.unit_book.specs.Legal.{OpenFits, StartsFirst, StartsAgain, FailsCheck, PostsActive}
use Rattle.unit_book.specs.Dooms.{after_dooms}
use Rattle.unit_book.specs.Selected.{DoomedBy}
use Rattle.unit_book.specs.Posts.{posted_value, posted_since}
use Rattle.unit_book.specs.Book.{Book, occupancy, running_name, is_pending}

-- when a request is not taken, the first reason in this order
abbrev pub ArriveRefused : {D : Type 0} → Book D → ArriveError → Type 0
ArriveRefused b arriving.Held = occupancy b ≡ b.capacity
ArriveRefused b arriving.NoMemory = (occupancy b < b.capacity) × (b.spare < 2)

-- the book with one more entry, which posts nothing
abbrev pub Adds : {D : Type 0} → Book D → Entry → Book D → Type 0
Adds old e new = new ≡ record old { trace = e ∷ old.trace; spare = new.spare }

-- the book with one more Start
abbrev pub StartsOne : {D : Type 0} → Book D → Name → Book D → Type 0
StartsOne old n new = new ≡ record old { trace = Start n ∷ old.trace; awaits = false; spare = new.spare }

-- whether a status is pending after a run
abbrev pub pending_after : Bool → Running → Bool
pending_after before running.Quiet = before
pending_after before (running.Ran commands pending) = pending

module _ {D : Type 0} (meaning : Meaning D) where
  -- the book with a longer trace: what was posted since comes after what was out
  abbrev pub Extends : Book D → List Entry → Bool → Book D → Type 0
  Extends old H awaits new = new ≡ record old {
    trace = H;
    awaits = awaits;
    out = old.out ++ posted_since meaning old.mounted old.trace H;
    spare = new.spare;
  }

  -- the book with one more entry, which posts this value, and room for the posts that this dooms
  pub record PostsOne (old : Book D) (n : Name) (status : Status) (code : Code) (doom : Option Selection) (new : Book D) : Type 0 where
    pub extends : new ≡ record old {
      trace = Post n status.csw status.sense code ∷ old.trace;
      awaits = false;
      out = old.out ++ posted_value (request_named n old.trace) status.csw status.sense code
          (area meaning old.mounted (request_named n old.trace) old.trace) ∷ [];
      spare = new.spare;
    }
    pub room : length (doomed new.trace) ≤ new.spare
    pub dooms : DoomedBy doom new.trace

  -- a DCB was opened
  pub record OpensBook (old : Book D) (dcb : ℕ) (method : ProcessingMethod) (extents : List Extent) (new : Book D) : Type 0 where
    pub fits : OpenFits meaning old.mounted dcb extents old.trace
    pub adds : Adds old (Opened dcb method extents) new

  -- extents that may be opened at this book
  abbrev pub takes : Book D → List Extent → Bool
  takes b extents = takes_extents (meaning.kind b.mounted) (meaning.cylinders b.mounted) (meaning.heads b.mounted) extents

  -- when a DCB is not opened, the first reason in this order
  abbrev pub OpenRefused : Book D → List Extent → OpenError → Type 0
  OpenRefused b extents opening.TooManyDcbs = opened_count b.trace ≡ 65535
  OpenRefused b extents opening.BadExtent = (opened_count b.trace < 65535) × (takes b extents ≡ false)
  OpenRefused b extents opening.NoMemory = OpenFits meaning b.mounted (opened_count b.trace + 1) extents b.trace

  -- the status of the active request was taken: it is posted
  pub record TakesByPost (old : Book D) (n : Name) (code : Code) (doom : Option Selection) (new : Book D) : Type 0 where
    pub status : Status
    pub fits : PostsActive meaning old.mounted n status code old.trace
    pub posts : PostsOne old n status code doom new

  -- what taking a status does: nothing if none is pending; else the active request awaits its restart, or is posted
  abbrev pub TakesStatus : Book D → Taken → Book D → Type 0
  TakesStatus old taking.Quiet new = (is_pending meaning old ≡ false) × (new ≡ old)
  TakesStatus old (taking.Again n) new =
      (is_pending meaning old ≡ true) × StartsAgain meaning old.mounted n old.trace × (new ≡ record old { awaits = true })
  TakesStatus old (taking.Posted n code doom) new = (is_pending meaning old ≡ true) × TakesByPost old n code doom new

  -- `start`: a first Start if nothing is active, a further one of what awaits its restart
  pub data MayStart (old : Book D) (n : Name) : Type 0 where
    MayFirst : StartsFirst meaning old.mounted n old.trace → MayStart old n
    MayAgain : old.awaits ≡ true → StartsAgain meaning old.mounted n old.trace → MayStart old n

  abbrev pub StartsBook : Book D → Starting → Book D → Type 0
  StartsBook old starting.Busy new = IsSome (active old.trace) × (old.awaits ≡ false) × (new ≡ old)
  StartsBook old starting.Idle new = (active old.trace ≡ None) × (waiting old.trace ≡ []) × (new ≡ old)
  StartsBook old (starting.Started n) new = MayStart old n × StartsOne old n new
  StartsBook old (starting.Violated n) new = FailsCheck meaning old.mounted n old.trace
      × Extends old (after_dooms (Post n no_status 0 ExtentViolated ∷ old.trace)) false new

  -- a start, before what its post dooms is posted
  abbrev pub IsBegun : Book D → Begun → Book D → Type 0
  IsBegun old beginning.Busy new = StartsBook old starting.Busy new
  IsBegun old beginning.Idle new = StartsBook old starting.Idle new
  IsBegun old (beginning.Started n) new = StartsBook old (starting.Started n) new
  IsBegun old (beginning.Violated n doom) new = FailsCheck meaning old.mounted n old.trace
      × PostsOne old n empty_status ExtentViolated doom new

  -- `run` of a program that runs: as many commands as were asked for, or as are left
  pub record RunsOn (old : Book D) (max commands : ℕ) (pending : Bool) (new : Book D) : Type 0 where
    pub name : Name
    pub running : running_name meaning old ≡ Some name
    pub count : commands ≡ min max (length_of meaning (current meaning old.mounted old.trace))
    pub adds : Adds old (Ran name commands) new
    pub pending_is : pending ≡ not (still_runs (active_phase meaning old.mounted name new.trace))

  abbrev pub RunsBook : Book D → ℕ → Running → Book D → Type 0
  RunsBook old max running.Quiet new = (running_name meaning old ≡ None) × (new ≡ old)
  RunsBook old max (running.Ran commands pending) new = RunsOn old max commands pending new

  -- `interrupt` that posts the active request
  pub record EndsBook (old : Book D) (name : Name) (code : Code) (new : Book D) : Type 0 where
    pub status : Status
    pub fits : PostsActive meaning old.mounted name status code old.trace
    pub extends : Extends old (after_dooms (Post name status.csw status.sense code ∷ old.trace)) false new

  abbrev pub InterruptsBook : Book D → Interruption → Book D → Type 0
  InterruptsBook old interrupting.Quiet new = (is_pending meaning old ≡ false) × (new ≡ old)
  InterruptsBook old (interrupting.Again name) new =
      (is_pending meaning old ≡ true) × StartsAgain meaning old.mounted name old.trace
      × (new ≡ record old { awaits = true; spare = new.spare })
  InterruptsBook old (interrupting.Ended name code) new = (is_pending meaning old ≡ true) × EndsBook old name code new
