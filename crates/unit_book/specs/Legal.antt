-- LEGAL TRACES: each entry fits the entries before it (profile).
use Rattle.std.specs.Prelude.{◌≡◌, ◌≤◌, ℕ, ◌+◌, Bool, true, false, ◌&&◌, if◌then◌else◌, Option, Some, None, List, [], ◌∷◌, slice_get}
use Rattle.io_images.specs.declared.extent.Extent.{Extent}
use Rattle.io_images.specs.declared.code.Code.{Code}
use Rattle.io_images.specs.declared.code.Code.TheVariants.{ExtentViolated, Purged}
use Rattle.device_port.specs.Meaning.{Meaning}
use Rattle.ccw_programs.specs.Step.{length_of}
use Rattle.io_images.specs.Images.{no_status}
use Rattle.subchannel.specs.declared.Status.{Status}
use Rattle.recovery.specs.declared.answer.Verdict.{Verdict}
use Rattle.recovery.specs.declared.answer.Verdict.TheVariants.{Retry, Final}
use Rattle.recovery.specs.Verdict.{verdict}
use Rattle.request_piece.specs.declared.piece.Name.{Name}
use Rattle.request_piece.specs.declared.piece.Piece.{Piece}
use Rattle.request_piece.specs.Scope.{covers}
use Rattle.request_piece.specs.declared.scope.Scope.{Scope}
use Rattle.request_piece.specs.declared.scope.Scope.TheVariants.{Dcb, Task}
use Rattle.unit_book.specs.declared.entry.Mode.TheVariants.{Halt}
use Rattle.unit_book.specs.declared.entry.Entry.{Entry}
use Rattle.unit_book.specs.declared.entry.Entry.TheVariants.{Opened, Arrive, Start, Ran, Halted, Purge, Close, Reset, Post}
use Rattle.unit_book.specs.Trace.{waiting, active, request_named, arrived_of, starts_of, is_covered}
use Rattle.unit_book.specs.Extents.{takes_extents, passes_check}
use Rattle.unit_book.specs.Dcbs.{is_opened, is_open, opened_count, extents_of, doomed}
use Rattle.unit_book.specs.Media.{StillRunning, WasHalted, HasEnded, still_runs, current, active_phase}

-- WHAT IS DUE: the Halted of a name, the post of a doomed name, or nothing, so that the next entry is free
pub data Due : Type 0 where
  ToHalt : Name → Due
  ToPost : Name → Due
  Free : Due

abbrev pub doomed_first : List Piece → Due
doomed_first [] = Free
doomed_first (r ∷ rs) = ToPost r.name

module _ {D : Type 0} (meaning : Meaning D) (mounted : D) where
  -- the newest entry is a purge with Halt that covers the active request, whose program runs
  abbrev pub is_to_halt : List Entry → Name → Bool
  is_to_halt (Purge scope Halt ∷ H) n = covers scope (request_named n H)
      && still_runs (active_phase meaning mounted n (Purge scope Halt ∷ H))
  is_to_halt _ n = false

  abbrev pub due_by : List Entry → Option Name → Due
  due_by H None = doomed_first (doomed H)
  due_by H (Some n) = if is_to_halt H n then ToHalt n else doomed_first (doomed H)

  unfoldable pub due : List Entry → Due
  due H = due_by H (active H)

  -- the request passes the extent check of its DCB
  abbrev pub passes : Piece → List Entry → Bool
  passes r H = passes_check (meaning.kind mounted) (meaning.heads mounted) (extents_of r.dcb H) r.seek

  -- the verdict on a status of the active request
  abbrev pub verdict_of : Name → Status → List Entry → Verdict
  verdict_of n status H = verdict (meaning.kind mounted) status.csw status.sense (starts_of n H)

  -- THE FIRST START of n: nothing is active, and n is the first that waits and passes the extent check
  pub record StartsFirst (n : Name) (H : List Entry) : Type 0 where
    pub none : active H ≡ None
    pub request : Piece
    pub first : slice_get (waiting H) 0 ≡ Some request
    pub name : request.name ≡ n
    pub passes : passes request H ≡ true

  -- A FURTHER START of n: it is active and has ended, the verdict is to try again, and it is not covered
  pub record StartsAgain (n : Name) (H : List Entry) : Type 0 where
    pub active : active H ≡ Some n
    pub status : Status
    pub ended : active_phase meaning mounted n H ≡ HasEnded status
    pub retry : verdict_of n status H ≡ Retry
    pub free : is_covered (request_named n H) H ≡ false

  pub data StartFits (n : Name) (H : List Entry) : Type 0 where
    First : StartsFirst n H → StartFits n H
    Again : StartsAgain n H → StartFits n H

  -- n is active, its program runs and has at least `j` commands left
  pub record RanFits (n : Name) (j : ℕ) (H : List Entry) : Type 0 where
    pub active : active H ≡ Some n
    pub running : active_phase meaning mounted n H ≡ StillRunning
    pub some : 1 ≤ j
    pub left : j ≤ length_of meaning (current meaning mounted H)

  -- WHAT BECAME of the active request n, by which it is posted with this status and code: it has ended and the
  -- verdict is final; it has ended and would be tried again, but is covered, or was halted, and so is purged
  pub data PostsAs (n : Name) (status : Status) (code : Code) (H : List Entry) : Type 0 where
    WithVerdict : active_phase meaning mounted n H ≡ HasEnded status → verdict_of n status H ≡ Final code → PostsAs n status code H
    WhileCovered : active_phase meaning mounted n H ≡ HasEnded status → verdict_of n status H ≡ Retry →
        is_covered (request_named n H) H ≡ true →
        code ≡ Purged → PostsAs n status code H
    AfterHalt : active_phase meaning mounted n H ≡ WasHalted status → code ≡ Purged → PostsAs n status code H

  -- THE POST of the active request
  pub record PostsActive (n : Name) (status : Status) (code : Code) (H : List Entry) : Type 0 where
    pub active : active H ≡ Some n
    pub as_ended : PostsAs n status code H

  -- THE POST of the first that waits, if nothing is active and it fails the extent check
  pub record FailsCheck (n : Name) (H : List Entry) : Type 0 where
    pub none : active H ≡ None
    pub request : Piece
    pub first : slice_get (waiting H) 0 ≡ Some request
    pub name : request.name ≡ n
    pub fails : passes request H ≡ false

  pub record PostsFirst (n : Name) (status : Status) (code : Code) (H : List Entry) : Type 0 where
    pub fails : FailsCheck n H
    pub code_is : code ≡ ExtentViolated
    pub csw_is : status.csw ≡ no_status
    pub sense_is : status.sense ≡ 0

  pub data PostFits (n : Name) (status : Status) (code : Code) (H : List Entry) : Type 0 where
    OfActive : PostsActive n status code H → PostFits n status code H
    OfFirst : PostsFirst n status code H → PostFits n status code H

  -- the next number, at most 65,535, and extents that may be opened
  pub record OpenFits (d : ℕ) (extents : List Extent) (H : List Entry) : Type 0 where
    pub next : d ≡ opened_count H + 1
    pub few : d ≤ 65535
    pub taken : takes_extents (meaning.kind mounted) (meaning.cylinders mounted) (meaning.heads mounted) extents ≡ true

  -- a purge of a DCB needs the DCB
  abbrev pub CanPurge : Scope → List Entry → Type 0
  CanPurge (Dcb d) H = is_opened d H ≡ true
  CanPurge (Task t) H = Unit {0}

  -- what fits if nothing is due
  abbrev pub FitsFree : Entry → List Entry → Type 0
  FitsFree (Opened d method extents) H = OpenFits d extents H
  FitsFree (Arrive r) H = r.name.seq ≡ arrived_of r.name.task H + 1
  FitsFree (Start n) H = StartFits n H
  FitsFree (Ran n j) H = RanFits n j H
  FitsFree (Halted n) H = ⊥
  FitsFree (Purge scope mode) H = CanPurge scope H
  FitsFree (Close d) H = is_open d H ≡ true
  FitsFree (Reset d) H = is_open d H ≡ true
  FitsFree (Post n csw sense code) H = PostFits n (record { csw = csw; sense = sense }) code H

  -- what is due comes next, and nothing else
  abbrev pub FitsBy : Due → Entry → List Entry → Type 0
  FitsBy (ToHalt n) e H = e ≡ Halted n
  FitsBy (ToPost n) e H = e ≡ Post n no_status 0 Purged
  FitsBy Free e H = FitsFree e H

  -- AN ENTRY FITS the entries before it
  abbrev pub Fits : Entry → List Entry → Type 0
  Fits e H = FitsBy (due H) e H

  -- A LEGAL TRACE
  unfoldable pub Legal : List Entry → Type 0
  Legal [] = Unit {0}
  Legal (e ∷ H) = Fits e H × Legal H

  -- SETTLED: nothing is due
  abbrev pub Settled : List Entry → Type 0
  Settled H = due H ≡ Free
