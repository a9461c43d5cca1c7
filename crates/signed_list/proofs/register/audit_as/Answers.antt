use Rattle.std.proofs.Common.{◌∙◌, refl}
use Rattle.signed_list.specs.Views.{known}
use Rattle.signed_list.proofs.Keeping.{takes_up_as, agrees_as, puts_down_as, is_both}
use Rattle.signed_list.proofs.register.audit_as.Goals as goal

pub absorb-requires-clause-rule : goal.absorb-requires-clause-rule
absorb-requires-clause-rule g c = takes_up_as _ (known c.args.pass.now) _ (known c.args.theirs) c.requires.list.1 c.requires.pen.1

pub learn_as-requires-clause-rule : goal.learn_as-requires-clause-rule
learn_as-requires-clause-rule g c = agrees_as _ (known c.absorb.new.pass) (is_both _ _ _ _ _ c.absorb.ensures.rule)

pub another-requires-clause-rule : goal.another-requires-clause-rule
another-requires-clause-rule g c =
    let v = known c.learn_as.new.pass in
    puts_down_as _ v v.all v.mine (is_both _ _ _ _ _ (c.learn_as.ensures.queue.1 ∙ c.absorb.ensures.rule)) (λ e. e) (λ k ne. refl)
