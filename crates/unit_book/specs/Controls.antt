-- WHAT PURGES, CLOSES AND RESETS ADD AND ANSWER (DFSMSdfp Advanced Services, "Purging and Restoring I/O
-- Requests (PURGE and RESTORE macros)", and profile).
use Rattle.std.specs.Prelude.{◌≡◌, ℕ, Bool, true, false, ◌&&◌, if◌then◌else◌, Option, Some, None, is_some, List, ◌∷◌}
use Rattle.io_images.specs.declared.code.Code.TheVariants.{Purged}
use Rattle.device_port.specs.Meaning.{Meaning}
use Rattle.subchannel.specs.declared.Status.{Status}
use Rattle.request_piece.specs.declared.piece.Name.{Name}
use Rattle.request_piece.specs.declared.piece.Piece.{Piece}
use Rattle.request_piece.specs.Scope.{covers}
use Rattle.request_piece.specs.declared.scope.Scope.{Scope}
use Rattle.request_piece.specs.declared.scope.Scope.TheVariants.{Dcb}
use Rattle.unit_book.specs.declared.answer.Closing.{Closing}
use Rattle.unit_book.specs.declared.answer.Closing.TheVariants as closing_answer
use Rattle.unit_book.specs.declared.answer.DcbError.{DcbError}
use Rattle.unit_book.specs.declared.answer.DcbError.TheVariants.{NoSuchDcb, NoMemory}
use Rattle.unit_book.specs.declared.answer.Purging.{Purging}
use Rattle.unit_book.specs.declared.answer.Purging.TheVariants.{Quiet, Active}
use Rattle.unit_book.specs.declared.entry.Mode.{Mode}
use Rattle.unit_book.specs.declared.entry.Entry.{Entry}
use Rattle.unit_book.specs.declared.entry.Entry.TheVariants.{Halted, Purge, Close, Post}
use Rattle.unit_book.specs.Trace.{is_halt, active, request_named}
use Rattle.unit_book.specs.Dcbs.{doomed, is_opened, is_open}
use Rattle.unit_book.specs.Legal.{Due, ToHalt, ToPost, Free, due, doomed_first, PostsActive}
use Rattle.unit_book.specs.Dooms.{after_dooms}
use Rattle.unit_book.specs.Book.{Book, running_name}
use Rattle.unit_book.specs.Answers.{Extends}

-- THE ACTIVE REQUEST, if it is of the scope
abbrev pub covered_by : Scope → List Entry → Option Name → Option Name
covered_by scope H None = None
covered_by scope H (Some n) = if covers scope (request_named n H) then Some n else None

abbrev pub active_of : Scope → List Entry → Option Name
active_of scope H = covered_by scope H (active H)

-- what a purge and a close answer, by the request of their scope that is active then
abbrev pub purging : Option Name → Purging
purging None = Quiet
purging (Some n) = Active n

abbrev pub closing : Option Name → Closing
closing None = closing_answer.Closed
closing (Some n) = closing_answer.Closing n

-- the trace with the Halted that is due, if one is
abbrev pub halted_by : Due → List Entry → List Entry
halted_by (ToHalt n) H = Halted n ∷ H
halted_by (ToPost n) H = H
halted_by Free H = H

-- what is due, where this one is to be halted or nobody is
abbrev pub due_after : Option Name → List Piece → Due
due_after None rs = doomed_first rs
due_after (Some n) rs = ToHalt n

-- whom a purge halts: its Halted is due, or nobody's
abbrev pub PurgeHalts : {D : Type 0} → Meaning D → D → Scope → Mode → List Entry → Option Name → Type 0
PurgeHalts meaning mounted scope mode H name = due meaning mounted (Purge scope mode ∷ H) ≡ due_after name (doomed (Purge scope mode ∷ H))

-- a purge with Halt covers the active request, which awaits its restart
abbrev pub covers_awaiting : {D : Type 0} → Book D → Scope → Mode → Bool
covers_awaiting b scope mode = is_halt mode && b.awaits && is_some (active_of scope b.trace)

-- when a purge or a close is refused, the first reason in this order
abbrev pub DcbRefused : {D : Type 0} → Book D → ℕ → DcbError → Type 0
DcbRefused b dcb NoSuchDcb = is_opened dcb b.trace ≡ false
DcbRefused b dcb NoMemory = is_opened dcb b.trace ≡ true

-- when a reset is
abbrev pub ResetRefused : {D : Type 0} → Book D → ℕ → DcbError → Type 0
ResetRefused b dcb NoSuchDcb = is_open dcb b.trace ≡ false
ResetRefused b dcb NoMemory = is_open dcb b.trace ≡ true

module _ {D : Type 0} (meaning : Meaning D) where
  -- THE TRACE AFTER A PURGE, what it halts and what it dooms
  abbrev pub after_halt : D → List Entry → List Entry
  after_halt mounted G = halted_by (due meaning mounted G) G

  abbrev pub after_purge : D → Scope → Mode → List Entry → List Entry
  after_purge mounted scope mode H = after_dooms (after_halt mounted (Purge scope mode ∷ H))

  -- a purge with Halt covers the active request, whose program runs: it is halted, and its status is pending
  abbrev pub halts_program : Book D → Scope → Mode → Bool
  halts_program b scope mode = is_halt mode && is_some (covered_by scope b.trace (running_name meaning b))

  -- the active request awaited its restart, and is purged after those that waited
  pub record PurgesAwaiting (old : Book D) (scope : Scope) (mode : Mode) (new : Book D) : Type 0 where
    pub name : Name
    pub status : Status
    pub fits : PostsActive meaning old.mounted name status Purged (after_purge old.mounted scope mode old.trace)
    pub extends : Extends meaning old (Post name status.csw status.sense Purged ∷ after_purge old.mounted scope mode old.trace) false new

  abbrev pub PurgesBy : Bool → Book D → Scope → Mode → Book D → Type 0
  PurgesBy false old scope mode new = Extends meaning old (after_purge old.mounted scope mode old.trace) old.awaits new
  PurgesBy true old scope mode new = PurgesAwaiting old scope mode new

  -- a purge
  pub record PurgesBook (old : Book D) (scope : Scope) (mode : Mode) (answer : Purging) (new : Book D) : Type 0 where
    pub purges : PurgesBy (covers_awaiting old scope mode) old scope mode new
    pub answer_is : answer ≡ purging (active_of scope new.trace)

  -- a close; of a DCB that was closed before it changes nothing
  abbrev pub ClosesBy : Bool → Book D → ℕ → Book D → Type 0
  ClosesBy true old dcb new = Extends meaning old (after_dooms (Close dcb ∷ old.trace)) old.awaits new
  ClosesBy false old dcb new = new ≡ old

  pub record ClosesBook (old : Book D) (dcb : ℕ) (answer : Closing) (new : Book D) : Type 0 where
    pub opened : is_opened dcb old.trace ≡ true
    pub closes : ClosesBy (is_open dcb old.trace) old dcb new
    pub answer_is : answer ≡ closing (active_of (Dcb dcb) new.trace)
