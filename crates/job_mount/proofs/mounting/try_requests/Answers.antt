use Rattle.std.proofs.Common.{◌≡◌, ◌≤◌, true, false, length, rules, arith}
use Rattle.std.proofs.lemmas.List.Elements.{All-from_all_within, AllWithin-more, AllWithin-upto, at_read}
use Rattle.job_script.specs.Views.{action_said}
use Rattle.job_mount.specs.Requests.{CanBeDone, is_doable}
use Rattle.job_mount.proofs.Openings.{command_tried, command_untried, commands_tried}
use Rattle.job_mount.proofs.mounting.try_requests.Goals as goal

pub returns-then-not-can_be_done-clause-exact : goal.returns-then-not-can_be_done-clause-exact
returns-then-not-can_be_done-clause-exact c =
    let cannot : is_doable (action_said c.command-item.result.action) ≡ false = search rules in
    command_untried c.args.commands.now c.loop-command.command-index c.command-item.result _ c.loop-command-test.true c.command-item.is
    cannot
    c.loop-command.invariant.exact

pub loop-command-preserved : goal.loop-command-preserved
loop-command-preserved c =
    let commands = c.args.commands.now in
    let index = c.loop-command.command-index in
    let can : is_doable (action_said c.command-item.result.action) ≡ true = search rules in
    let done : CanBeDone c.command-item.result = search rules in
    record {
      exact = command_tried commands index c.command-item.result _ c.loop-command-test.true c.command-item.is can
          c.loop-command.invariant.exact;
      each = AllWithin-more CanBeDone commands 0 index c.loop-command.invariant.each
          (at_read commands CanBeDone index c.command-item.result c.loop-command-test.true c.command-item.is done);
    }

pub returns-clause-exact : goal.returns-clause-exact
returns-clause-exact c =
    commands_tried c.args.commands.now c.loop-command.command-index _ (omega (arith, c.loop-command-test.false))
    c.loop-command.invariant.exact

pub returns-clause-each : goal.returns-clause-each
returns-clause-each c =
    let commands = c.args.commands.now in
    let all : length commands ≤ c.loop-command.command-index = omega (arith, c.loop-command-test.false) in
    All-from_all_within CanBeDone commands
    (AllWithin-upto CanBeDone commands 0 c.loop-command.command-index (length commands) all c.loop-command.invariant.each)
