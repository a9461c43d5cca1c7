-- NOTICES of a pending status, which a unit sends to the handler of its subclass (profile). A unit owes one where none
-- was sent of a status that is pending; what it owes it sends at its next `run`.
use Rattle.std.specs.Prelude.{◌≡◌, Bool, true, false, not, ◌&&◌, ◌||◌, [], ◌∷◌, ◌++◌}
use Rattle.device_port.specs.Meaning.{Meaning}
use Rattle.unit_book.specs.declared.answer.Running.{Running}
use Rattle.unit_book.specs.declared.answer.Running.TheVariants.{Quiet, Ran}
use Rattle.unit_book.specs.Book.{Book, is_pending}
use Rattle.fifo_row.specs.Steps.{WasFull}
use Rattle.excp_system.specs.declared.item.Notice.{Notice}
use Rattle.excp_system.specs.Sites.{SiteRows, NoFact, notice_rows, notifier_of, end_of}
use Rattle.excp_system.specs.States.{Locked}

-- the notice of a unit
abbrev pub notice_of : {D : Type 0} → Locked D → Notice
notice_of v = record { unit = v.unit }

-- only the book changes
abbrev pub InBook : {D : Type 0} → Locked D → Locked D → Type 0
InBook old new = new ≡ record old { book = new.book }

module _ {D : Type 0} (s : SiteRows) where
  -- a notice is sent; or it is owed, and the row of the subclass was full at one moment
  abbrev pub SendsNotice : Bool → Locked D → Locked D → Type 0
  SendsNotice false old new = new ≡ record old { book = new.book; notified = old.notified ++ notice_of old ∷ []; owes = false }
  SendsNotice true old new =
      (new ≡ record old { book = new.book; owes = true })
      × WasFull notifier_of NoFact (end_of (notice_rows s) old.unit old.book.isc old.notified)

  -- a call that has a notice to send, or none
  abbrev pub Notifies : Bool → Locked D → Locked D → Type 0
  Notifies false old new = InBook old new
  Notifies true old new = SendsNotice new.owes old new

-- a notice is owed from now on where a call stopped with a status pending
abbrev pub OwesIf : {D : Type 0} → Bool → Locked D → Locked D → Type 0
OwesIf stopped old new = new ≡ record old { book = new.book; owes = old.owes || stopped }

-- the answer of `run` says that a status is pending now
abbrev pub leaves_pending : Running → Bool
leaves_pending Quiet = false
leaves_pending (Ran commands pending) = pending

-- a status is pending that was not
abbrev pub became_pending : {D : Type 0} → Meaning D → Book D → Book D → Bool
became_pending meaning old new = not (is_pending meaning old) && is_pending meaning new
