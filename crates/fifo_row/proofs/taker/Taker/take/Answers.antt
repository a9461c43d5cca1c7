use Rattle.std.proofs.Common.{ap, ◌∙◌}
use Rattle.fifo_row.specs.Views.{known, taker_view}
use Rattle.fifo_row.proofs.Taking.{takes_as, was_empty, all_ended}
use Rattle.fifo_row.proofs.Fitting.{is_state}
use Rattle.fifo_row.proofs.taker.Taker.take.Goals as goal

pub pop_as-requires-clause-rule : goal.pop_as-requires-clause-rule
pop_as-requires-clause-rule g c =
    (takes_as g.I.RowItem.from g.I.RowItem.fact _ _ _ _ c.self.invariant.1, is_state g.I.RowItem.from g.I.RowItem.fact _ _)

pub returns-in-None-clause-was_empty : goal.returns-in-None-clause-was_empty
returns-in-None-clause-was_empty g c =
    let is = c.self.invariant.1 ∙ ap (λ t. taker_view t.tag t.senders t.taken t.met) c.self.view_is in
    was_empty g.I.RowItem.from g.I.RowItem.fact (known c.self.inside.pass) c.args.self.now is c.in-None.ensures.rule.1

pub returns-in-None-clause-all_ended : goal.returns-in-None-clause-all_ended
returns-in-None-clause-all_ended g c = all_ended g.I.RowItem.from g.I.RowItem.fact c.args.self.now (returns-in-None-clause-was_empty g c)
