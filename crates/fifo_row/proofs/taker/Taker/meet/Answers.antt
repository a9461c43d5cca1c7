use Rattle.std.proofs.Common.{◌∷◌, refl, ap, ◌∙◌}
use Rattle.fifo_row.specs.Views.{known, taker_view}
use Rattle.fifo_row.proofs.Meeting.{meets_as}
use Rattle.fifo_row.proofs.Taking.{begins_as}
use Rattle.fifo_row.proofs.Fitting.{is_state}
use Rattle.fifo_row.proofs.taker.Taker.meet.Goals as goal

pub absorb-requires-clause-rule : goal.absorb-requires-clause-rule
absorb-requires-clause-rule g c = meets_as g.I.RowItem.from g.I.RowItem.fact _ _ _ _ _ _ _ _ _ c.self.invariant.1 c.into_pass.ensures.known

pub learn_as-requires-clause-rule : goal.learn_as-requires-clause-rule
learn_as-requires-clause-rule g c = is_state g.I.RowItem.from g.I.RowItem.fact _ _

pub returns-clause-begins : goal.returns-clause-begins
returns-clause-begins g c =
    let before = known c.self.inside.pass in
    let ended = c.into_pass.ensures.known in
    let taken = ap (λ t. t.taken) c.self.view_is in
    let after_meeting = c.absorb.ensures.rule
    ∙ (λ i. taker_view before.tag before.made (taken i) (((ended i).number, (ended i).sent) ∷ before.met)) in
    begins_as g.I.RowItem.from g.I.RowItem.fact (known c.absorb.new.pass) before.tag before.made c.args.self.now.taken
    ((c.args.sender.number, c.args.sender.sent) ∷ before.met) c.args.sender.number c.args.sender.sent after_meeting
    c.learn_as.ensures.rule (0, refl)
