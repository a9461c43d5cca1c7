use Rattle.std.proofs.Common.{◌≡◌, arith, length, sum, ◌+◌, min, sym, ◌∙◌, drop}
use Rattle.unit_history.specs.Events.{most_commands, turns}
use Rattle.unit_history.proofs.TurnLaws.{least-end, least-more, sum-cons, turns-at, turns-at_end, turns-past}
use Rattle.unit_history.proofs.events.ran.Goals as goal
use Rattle.unit_history.proofs.events.ran.Goals.{else-loop-entry-test, then-loop-entry-test+in_default}

pub loop-entry-preserved : goal.loop-entry-preserved
loop-entry-preserved c =
    let k = turns-at c.args.name c.args.entries.now c.loop-entry.entry-index c.entry-item.result c.in-Some.count c.loop-entry-test.true
    c.entry-item.is (sym c.turn.ensures ∙ c.in-Some.is) in
    let i = c.loop-entry.invariant in
    let t = rw k at i.all_turns in
    let s = rw (k, sum-cons) at i.all_commands in
    record {
      count = omega arith;
      all_turns = omega (arith, t);
      all_commands = least-more most_commands c.loop-entry.commands c.in-Some.count
          (sum (turns c.args.name (drop (c.loop-entry.entry-index + 1) c.args.entries.now))) (sum (turns c.args.name c.args.entries.now))
          c.with_turn-commands.result c.with_turn-commands.ensures s;
      most = omega arith;
    }

pub returns : goal.returns
returns c =
    let i = c.loop-entry.invariant in
    elim c.loop-entry-test.branch [
      | else-loop-entry-test w ↦
          let k = turns-past c.args.name c.args.entries.now c.loop-entry.entry-index (omega (arith, w.loop-entry-test.false)) in
          let t : c.loop-entry.turns ≡ length (turns c.args.name c.args.entries.now) = omega (arith, rw k at i.all_turns) in
          let s : c.loop-entry.commands ≡ min most_commands (sum (turns c.args.name c.args.entries.now)) = least-end most_commands c.loop-entry.commands (sum (turns c.args.name c.args.entries.now)) i.most (rw k at i.all_commands) in
          cc
      | then-loop-entry-test+in_default w ↦
          let k = turns-at_end c.args.name c.args.entries.now c.loop-entry.entry-index w.entry-item.result w.loop-entry-test.true
          w.entry-item.is (sym w.turn.ensures ∙ w.in_default.is) in
          let t : c.loop-entry.turns ≡ length (turns c.args.name c.args.entries.now) = omega (arith, rw k at i.all_turns) in
          let s : c.loop-entry.commands ≡ min most_commands (sum (turns c.args.name c.args.entries.now)) = least-end most_commands c.loop-entry.commands (sum (turns c.args.name c.args.entries.now)) i.most (rw k at i.all_commands) in
          cc
    ]
