-- WHAT A UNIT'S LOCK KEEPS, and what a task has (profile).
use Rattle.std.specs.Prelude.{◌≡◌, ◌<◌, ◌≤◌, ◌-◌, ◌^◌, ℕ, Bool, false, List, [], slice_index_or, length}
use Rattle.std.specs.List.{All, sum_by}
use Rattle.device_port.specs.Meaning.{Meaning}
use Rattle.request_piece.specs.PostedState.{PostedState}
use Rattle.request_piece.specs.declared.piece.Piece.{Piece}
use Rattle.unit_book.specs.Lists.{Each}
use Rattle.unit_book.specs.Trace.{arrivals}
use Rattle.unit_book.specs.Book.{Book, given}
use Rattle.fifo_row.specs.Ends.{Sending, Taking}
use Rattle.fifo_row.specs.Lists.{of_sender}
use Rattle.excp_system.specs.declared.item.Notice.{Notice}
use Rattle.excp_system.specs.Sites.{SiteRows, intake_rows, post_rows, notice_rows, for_task, taker_of, end_of}
use Rattle.unit_book.specs.declared.control.Control.{Control}
use Rattle.excp_system.specs.Controls.{PensState}
use Rattle.excp_system.specs.Fans.{FanState, sent_to}

-- the number of a unit, its book, the notices that it sent to the handler of its subclass, and whether it owes one
pub record Locked (D : Type 0) : Type 0 where
  pub unit : ℕ
  pub book : Book D
  pub notified : List Notice
  pub owes : Bool

-- a unit that owes no notice
abbrev pub owing_nothing : {D : Type 0} → ℕ → Book D → List Notice → Locked D
owing_nothing unit book notified = record { unit = unit; book = book; notified = notified; owes = false }

-- each of these requests is of one of the tasks, and for this unit
abbrev pub AreOf : SiteRows → ℕ → List Piece → Type 0
AreOf s unit requests = Each (λ r. (r.name.task < s.tasks) × (r.unit ≡ unit)) requests

-- what a lock keeps: its unit is of the site; its intake has taken what arrived at the book; each task was sent what the
-- book gave of its posted values; and its ends are of the rows that the site has for this unit
pub record IsUnit {D : Type 0} (meaning : Meaning D) (s : SiteRows) (v : Locked D) (intake : Taking Piece) (back : FanState PostedState)
    (notice : Sending Notice) : Type 0 where
  pub of_site : v.unit < s.units
  pub intake_is : intake ≡ taker_of (intake_rows s) s.tasks v.unit (arrivals v.book.trace)
  pub back_is : back.number ≡ v.unit
  pub count : length back.sent ≡ s.tasks
  pub sent : (task : ℕ) → task < s.tasks → sent_to back task ≡ of_sender for_task task (given meaning v.book)
  pub notice_is : notice ≡ end_of (notice_rows s) v.unit v.book.isc v.notified
  pub of_unit : AreOf s v.unit (arrivals v.book.trace)

-- the number of a task, what it sent to each unit, what it collected, and the controls that it asked of each unit
pub record TaskState : Type 0 where
  pub number : ℕ
  pub sent : List (List Piece)
  pub got : List PostedState
  pub asked : List (List Control)

-- what a task sent to a unit
abbrev pub sent_by : TaskState → ℕ → List Piece
sent_by t unit = slice_index_or t.sent unit []

-- how many requests a task sent, to all units together
abbrev pub sent_count : TaskState → ℕ
sent_count t = sum_by length t.sent

-- how many posted values it has yet to collect, if each that it collected is of a request of its own
abbrev pub awaited_count : TaskState → ℕ
awaited_count t = sent_count t - length t.got

-- a task is of the site, and sends each unit no more requests than there are numbers; units have 16-bit numbers; and
-- its ends are of the rows that the site has for it
pub record IsTask (s : SiteRows) (v : TaskState) (out : FanState Piece) (collected : Taking PostedState) (pens : PensState) : Type 0 where
  pub of_site : v.number < s.tasks
  pub out_is : out ≡ record { number = v.number; sent = v.sent }
  pub collected_is : collected ≡ taker_of (post_rows s) s.units v.number v.got
  pub pens_are : pens ≡ record { number = v.number; asked = v.asked }
  pub count : length v.sent ≡ s.units
  pub pen_count : length v.asked ≡ s.units
  pub few_units : s.units < 2 ^ 16
  pub few : All (λ requests. length requests ≤ 2 ^ 32 - 1) v.sent

-- the interruption subclass of a handler, and the notices that it took
pub record HandlerState : Type 0 where
  pub isc : ℕ
  pub taken : List Notice

-- a handler is of one of the eight subclasses, and its end is of the notice row that the site has for it
pub record IsHandler (s : SiteRows) (v : HandlerState) (end : Taking Notice) : Type 0 where
  pub isc_fits : v.isc ≤ 7
  pub end_is : end ≡ taker_of (notice_rows s) s.units v.isc v.taken
