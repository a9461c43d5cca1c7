use Rattle.std.proofs.Common.{◌≡◌, ◌∙◌, Option, None, Some, refl, subst, sym}
use Rattle.unit_book.specs.declared.step.UnitStep.{UnitStep}
use Rattle.excp_site.specs.Sites.{SiteView}
use Rattle.excp_site.specs.declared.refusal.Refusal.{Refusal}
use Rattle.excp_site.specs.declared.refusal.Refusal.TheVariants.{BadNumber}
use Rattle.excp_c.specs.Done.{DidOn, NumberedRefused}
use Rattle.excp_c.specs.Numbers.{step_from_c}
use Rattle.excp_c.specs.Statuses.{status_in_c}
use Rattle.excp_c.proofs.events.excp_call_step.Goals as goal

-- the numbers are of no step
pub returns-in-None-clause-why : goal.returns-in-None-clause-why
returns-in-None-clause-why c = λ not_ok not_site.
    let status = c.status_in_c-in-None.result in
    let unit = c.args.unit in
    let step = step_from_c c.args.kind c.args.number c.args.mode in
    let site = c.in-Some.site.now in
    let none : step ≡ None = sym c.step_from_c.ensures ∙ c.in-None.is in
    let why = subst (λ (o : Option UnitStep). NumberedRefused site.plain unit o BadNumber) (sym none) refl in
    subst
    (λ (o : Option SiteView). DidOn o (Some site)
    (λ s t. (e : Refusal) × (status ≡ status_in_c e) × NumberedRefused s.plain unit step e))
    (sym c.in-Some.ensures.value)
    (BadNumber, c.status_in_c-in-None.ensures.number, why)
