use Rattle.std.proofs.Common.{◌<◌, length, arith, rules}
use Rattle.post_ledger.proofs.Works.{placed_set}
use Rattle.test_locked_steps.proofs.Placed.{number_kept}
use Rattle.test_locked_steps.proofs.locked.Locked.push.Goals as goal

pub invariant_of-self-2 : goal.invariant_of-self-2
invariant_of-self-2 g c =
    let tasks = c.args.self.now.tasks.items in
    let placed = c.args.self.now.placed in
    let at = c.from-place.result in
    let old = c.index_mut-task.result.now in
    let within : at < length tasks = search rules in
    let kept = number_kept c.excp.result old c.excp.new.self _ c.excp.ensures.accepted c.excp.ensures.unchanged in
    record {
      units_are = c.args.self.now.units_are;
      own = c.args.self.now.own;
      placed = placed_set g.S.Site.rows.tasks tasks at old c.excp.new.self within c.index_mut-task.ensures.value kept placed;
    }
