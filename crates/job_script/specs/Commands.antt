-- WHAT A COMMAND NAMES, and which requests it issues (profile).
use Rattle.std.specs.Prelude.{◌≡◌, ◌<◌, ◌==◌, ◌&&◌, ℕ, zero, suc, Bool, true, false, List, Option, Some, None, length, max}
use Rattle.std.specs.List.{filter}
use Rattle.std.specs.Option.{ForSome}
use Rattle.job_script.specs.declared.command.DcbName.{DcbName}
use Rattle.job_script.specs.declared.command.Excp.{Excp as OneExcp}
use Rattle.job_script.specs.declared.command.Action.{Action}
use Rattle.job_script.specs.declared.command.Action.TheVariants.{Excp, Purge, PurgeTask, Close, Reset, Wait}
use Rattle.job_script.specs.declared.command.ScriptCommand.{ScriptCommand}

-- the DCB that a command names, if it names one
abbrev pub named_dcb : Action → Option DcbName
named_dcb (Excp e) = Some e.dcb
named_dcb (Purge dcb mode) = Some dcb
named_dcb (PurgeTask task mode) = None
named_dcb (Close dcb) = Some dcb
named_dcb (Reset dcb) = Some dcb
named_dcb Wait = None

-- the DCB that it names, if it names one, is of a unit below the number
abbrev pub NamesUnits : ℕ → ScriptCommand → Type 0
NamesUnits units c = ForSome (named_dcb c.action) (λ dcb. dcb.unit < units)

-- the command is an EXCP
abbrev pub is_excp : Action → Bool
is_excp (Excp e) = true
is_excp (Purge dcb mode) = false
is_excp (PurgeTask task mode) = false
is_excp (Close dcb) = false
is_excp (Reset dcb) = false
is_excp Wait = false

-- the unit of an EXCP is this one
abbrev pub excp_is_to : ℕ → Action → Bool
excp_is_to unit (Excp e) = e.dcb.unit == unit
excp_is_to unit (Purge dcb mode) = false
excp_is_to unit (PurgeTask task mode) = false
excp_is_to unit (Close dcb) = false
excp_is_to unit (Reset dcb) = false
excp_is_to unit Wait = false

-- it issues a request to the unit
abbrev pub issues_to : ℕ → ScriptCommand → Bool
issues_to unit c = excp_is_to unit c.action

-- the task issues a request by it
abbrev pub issues_of : ℕ → ScriptCommand → Bool
issues_of task c = is_excp c.action && (c.task == task)

-- how many requests they issue to the unit, and how many the task issues
abbrev pub request_count_to : List ScriptCommand → ℕ → ℕ
request_count_to commands unit = length (filter (issues_to unit) commands)

-- how many requests a task issues
abbrev pub request_count_of : List ScriptCommand → ℕ → ℕ
request_count_of commands task = length (filter (issues_of task) commands)

-- the largest of the numbers at the indices below a limit, and 0 if there is none
unfoldable pub most : (ℕ → ℕ) → ℕ → ℕ
most numbers zero = 0
most numbers (suc n) = max (most numbers n) (numbers n)
