-- THE CALLS OF A TASK AND OF A HANDLER on their ends of the rows (profile).
use Rattle.std.specs.Prelude.{◌≡◌, ℕ, ◌+◌, [], ◌∷◌, ◌++◌, length, slice_set, Result}
use Rattle.unit_book.specs.declared.answer.DcbError.{DcbError}
use Rattle.request_piece.specs.PostedState.{PostedState}
use Rattle.request_piece.specs.declared.piece.Name.{Name}
use Rattle.request_piece.specs.declared.piece.Piece.{Piece}
use Rattle.fifo_row.specs.Steps.{WasEmpty, WasFull}
use Rattle.excp_system.specs.Sites.{SiteRows, RequestFact, NoFact, intake_rows, post_rows, notice_rows, task_of, unit_of, notifier_of}
use Rattle.excp_system.specs.Sites.{end_of, taker_of}
use Rattle.unit_book.specs.declared.control.Control.{Control}
use Rattle.excp_system.specs.Controls.{asks, is_asked}
use Rattle.excp_system.specs.States.{HandlerState, TaskState, sent_by}

-- the name of the next request of a task to a unit
abbrev pub next_name : TaskState → ℕ → Name
next_name t unit = record { task = t.number; seq = length (sent_by t unit) + 1 }

-- the task has sent one more request to the request's unit
abbrev pub Issues : TaskState → Piece → TaskState → Type 0
Issues old r new = new ≡ record old { sent = slice_set old.sent r.unit (sent_by old r.unit ++ r ∷ []) }

-- the task has asked one control more of a unit, if memory did not run out
abbrev pub Asks : {A : Type 0} → Result A DcbError → TaskState → ℕ → Control → TaskState → Type 0
Asks answer old unit c new = new ≡ record old { asked = asks (is_asked answer) unit c old.asked }

-- the task has collected one more posted value
abbrev pub TaskCollects : TaskState → PostedState → TaskState → Type 0
TaskCollects old value new = new ≡ record old { got = old.got ++ value ∷ [] }

-- the handler has taken the notice of one more unit
abbrev pub TakesNotice : HandlerState → ℕ → HandlerState → Type 0
TakesNotice old unit new = new ≡ record old { taken = old.taken ++ record { unit = unit } ∷ [] }

module _ (s : SiteRows) where
  -- the intake row of the unit was full at one moment, when the task had sent what it has
  abbrev pub IntakeWasFull : TaskState → ℕ → Type 0
  IntakeWasFull t unit = WasFull task_of RequestFact (end_of (intake_rows s) t.number unit (sent_by t unit))

  -- the post row of the task was empty at one moment, when the task had collected what it has
  abbrev pub PostRowWasEmpty : TaskState → Type 0
  PostRowWasEmpty t = WasEmpty unit_of NoFact (taker_of (post_rows s) s.units t.number t.got)

  -- the notice row of the handler's subclass was empty at one moment, when the handler had taken what it has
  abbrev pub NoticeRowWasEmpty : HandlerState → Type 0
  NoticeRowWasEmpty h = WasEmpty notifier_of NoFact (taker_of (notice_rows s) s.units h.isc h.taken)
