use Rattle.std.proofs.Common.{subst, ◌≡◌}
use Rattle.any_device.specs.Devices.{any_device}
use Rattle.unit_book.specs.Steps.{StepLacks, StepRefused}
use Rattle.unit_book.specs.declared.answer.DcbError.TheVariants as dcbs
use Rattle.unit_world.specs.Sites.{OnPart}
use Rattle.excp_site.specs.Sites.{SiteView}
use Rattle.excp_site.proofs.Refused.{numbers-refuse, step-refuses}
use Rattle.excp_site.proofs.site.Site.step.Goals as goal

pub returns-in_err-has_numbers_of-clause-refused : goal.returns-in_err-has_numbers_of-clause-refused
returns-in_err-has_numbers_of-clause-refused c =
    numbers-refuse c.from_residual-in_err-has_numbers_of.result c.in_err-has_numbers_of.field-0.0 c.args.self.now.plain c.args.unit
    c.args.step c.from_residual-in_err-has_numbers_of.ensures.1 c.in_ok-has_unit.ensures.there c.in_err-has_numbers_of.ensures.refused

pub returns-in_err-step-clause-refused : goal.returns-in_err-step-clause-refused
returns-in_err-step-clause-refused c =
    let error = c.in_err-step.field-0.0 in
    step-refuses c.from_residual-in_err-step.result error c.args.self.now.plain c.args.unit c.args.step
    c.from_residual-in_err-step.ensures.1 (c.in_ok-has_numbers_of.ensures.step, c.in_ok-has_numbers_of.ensures.task)
    c.in_ok-has_unit.ensures.there
    (subst (λ (s : SiteView). OnPart s.plain c.args.unit (λ p. StepRefused p.book c.args.step error)) c.self.view_is
    c.in_err-step.ensures.refused)
    (subst (λ (s : SiteView). OnPart s.plain c.args.unit (λ p. error ≡ dcbs.NoMemory → StepLacks any_device p.book c.args.step))
    c.self.view_is c.in_err-step.ensures.full)
