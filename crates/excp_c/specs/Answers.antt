-- WHAT C SEES OF AN ANSWER: `excp_answer` of c/excp.h.
use Rattle.std.specs.Prelude.{ℕ, Bool, true, false, Option, Some, None}
use Rattle.io_images.specs.Codes.{code_byte}
use Rattle.request_piece.specs.declared.piece.Name.{Name}
use Rattle.unit_book.specs.declared.answer.Closing.TheVariants as closing
use Rattle.unit_book.specs.declared.answer.Delivery.{Delivery}
use Rattle.unit_book.specs.declared.answer.Delivery.TheVariants as delivery
use Rattle.unit_book.specs.declared.answer.Intake.{Intake}
use Rattle.unit_book.specs.declared.answer.Intake.TheVariants as intake
use Rattle.unit_book.specs.declared.answer.Interruption.{Interruption}
use Rattle.unit_book.specs.declared.answer.Interruption.TheVariants as interruption
use Rattle.unit_book.specs.declared.answer.Purging.TheVariants as purging
use Rattle.unit_book.specs.declared.answer.Running.{Running}
use Rattle.unit_book.specs.declared.answer.Running.TheVariants as running
use Rattle.unit_book.specs.declared.answer.Starting.{Starting}
use Rattle.unit_book.specs.declared.answer.Starting.TheVariants as starting
use Rattle.unit_book.specs.declared.control.Controlling.{Controlling}
use Rattle.unit_book.specs.declared.control.Controlling.TheVariants as controlling
use Rattle.unit_book.specs.declared.step.UnitAnswer.{UnitAnswer}
use Rattle.unit_book.specs.declared.step.UnitAnswer.TheVariants as answer
use Rattle.excp_site.specs.Sites.{SiteView, number_of}
use Rattle.excp_c.specs.declared.answer.Answer.{Answer}
use Rattle.excp_c.specs.declared.answer.Event.{Event}

-- an event of this kind that names no request
abbrev pub plain_event : ℕ → Event
plain_event kind = record { kind = kind; name = None; commands = 0; code = 0 }

-- one that names this request
abbrev pub naming : ℕ → Name → Event
naming kind name = record { kind = kind; name = Some name; commands = 0; code = 0 }

abbrev pub of_intake : Intake → Event
of_intake intake.Quiet = plain_event 0
of_intake intake.Held = plain_event 1
of_intake (intake.Took name) = naming 2 name

abbrev pub of_starting : Starting → Event
of_starting starting.Busy = plain_event 3
of_starting starting.Idle = plain_event 4
of_starting (starting.Started name) = naming 5 name
of_starting (starting.Violated name) = naming 6 name

-- the kind of a run, by whether a status is pending
abbrev pub ran_kind : Bool → ℕ
ran_kind false = 7
ran_kind true = 8

abbrev pub of_running : Running → Event
of_running running.Quiet = plain_event 0
of_running (running.Ran commands pending) = record { kind = ran_kind pending; name = None; commands = commands; code = 0 }

abbrev pub of_interruption : Interruption → Event
of_interruption interruption.Quiet = plain_event 0
of_interruption (interruption.Again name) = naming 9 name
of_interruption (interruption.Ended name code) = record { kind = 10; name = Some name; commands = 0; code = code_byte code }

abbrev pub of_delivery : Delivery → Event
of_delivery delivery.Quiet = plain_event 0
of_delivery (delivery.Delivered name) = naming 11 name
of_delivery (delivery.Full name) = naming 12 name

-- C is not shown what a reset did
abbrev pub of_controlling : Controlling → Event
of_controlling (controlling.Purged purging.Quiet) = plain_event 0
of_controlling (controlling.Purged (purging.Active name)) = naming 13 name
of_controlling (controlling.Closed closing.Closed) = plain_event 14
of_controlling (controlling.Closed (closing.Closing name)) = naming 15 name
of_controlling controlling.Reset = plain_event 0

-- what a step did
abbrev pub of_answer : UnitAnswer → Event
of_answer (answer.Started a) = of_starting a
of_answer (answer.Ran a) = of_running a
of_answer (answer.Interrupted a) = of_interruption a
of_answer (answer.Controlled a) = of_controlling a

-- the number and the task of the request that an event of a unit names, or 0
abbrev pub number_named : SiteView → ℕ → Option Name → ℕ
number_named s unit None = 0
number_named s unit (Some name) = number_of s unit name

abbrev pub task_named : Option Name → ℕ
task_named None = 0
task_named (Some name) = name.task

-- THE ANSWER for an event of a unit
abbrev pub answer_in_c : SiteView → ℕ → Event → Answer
answer_in_c s unit e = record { number = number_named s unit e.name; commands = e.commands; task = task_named e.name; kind = e.kind; code = e.code }
