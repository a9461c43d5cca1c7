-- WHICH REQUESTS CAN BE MADE (profile).
use Rattle.std.specs.Prelude.{◌≡◌, ◌==◌, ◌&&◌, Bool, true, Option, Some, None}
use Rattle.std.specs.Arc.{arc_value}
use Rattle.std.specs.Option.{ForSome}
use Rattle.io_area.specs.Storage.{lies_in}
use Rattle.request_piece.specs.Places.{is_ecb_place, is_iob_place, is_program_place}
use Rattle.request_piece.specs.Requests.{NoFault, iob_at}
use Rattle.job_script.specs.declared.command.Action.{Action}
use Rattle.job_script.specs.declared.command.Action.TheVariants as actions
use Rattle.job_script.specs.declared.command.ScriptCommand.{ScriptCommand}
use Rattle.job_script.specs.declared.command.Excp.{Excp}
use Rattle.job_script.specs.Said.{ActionSaid, ExcpSaid, close, excp, purge, purge_task, reset, wait}

-- the IOB, the ECB and the channel program are at valid addresses in the area, and the IOB names the DCB
abbrev pub is_request : ExcpSaid → Bool
is_request e =
    is_iob_place e.area e.iob && is_ecb_place e.area e.iob (iob_at e.area e.iob).ecb
    && is_program_place e.area (iob_at e.area e.iob).start && ((iob_at e.area e.iob).dcb == e.dcb.number)

-- a request can be made of the area of an EXCP, and the bytes that are shown lie in it
abbrev pub is_issuable : ExcpSaid → Bool
is_issuable e = is_request e && lies_in e.area e.show e.len

-- if an action is an EXCP, its request can be made
abbrev pub is_doable : ActionSaid → Bool
is_doable (excp e) = is_issuable e
is_doable (purge dcb mode) = true
is_doable (purge_task task mode) = true
is_doable (close dcb) = true
is_doable (reset dcb) = true
is_doable wait = true

-- a request can be made of the area of an EXCP, in which the bytes that are shown lie
pub record CanIssue (e : Excp) : Type 0 where
  pub request : NoFault e.dcb.number e.iob (arc_value e.area)
  pub shown : lies_in (arc_value e.area) e.show e.len ≡ true

-- the EXCP of a command, if it is one
abbrev pub excp_of : Action → Option Excp
excp_of (actions.Excp e) = Some e
excp_of (actions.Purge dcb mode) = None
excp_of (actions.PurgeTask task mode) = None
excp_of (actions.Close dcb) = None
excp_of (actions.Reset dcb) = None
excp_of actions.Wait = None

-- if the command issues a request, it can be made
abbrev pub CanBeDone : ScriptCommand → Type 0
CanBeDone c = ForSome (excp_of c.action) CanIssue
