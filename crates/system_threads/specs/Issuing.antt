-- WHY A REQUEST IS NOT ISSUED (profile).
use Rattle.std.specs.Prelude.{◌≤◌, ◌-◌, ◌^◌, ℕ, length}
use Rattle.io_area.specs.Storage.{Storage}
use Rattle.request_piece.specs.Requests.{RequestFault}
use Rattle.excp_system.specs.Calls.{IntakeWasFull}
use Rattle.excp_system.specs.Sites.{SiteRows}
use Rattle.excp_system.specs.States.{TaskState, sent_by}
use Rattle.system_threads.specs.declared.client.IssueError.{IssueError}
use Rattle.system_threads.specs.declared.client.IssueError.TheVariants.{NoName, Request, Full}

-- the last number is used, the area describes no request, or the unit's row was full at one moment
abbrev pub IssueRefused : SiteRows → TaskState → ℕ → ℕ → ℕ → Storage → IssueError → Type 0
IssueRefused s t unit dcb iob area NoName = 2 ^ 32 - 1 ≤ length (sent_by t unit)
IssueRefused s t unit dcb iob area (Request error) = RequestFault dcb iob area error
IssueRefused s t unit dcb iob area Full = IntakeWasFull s t unit
