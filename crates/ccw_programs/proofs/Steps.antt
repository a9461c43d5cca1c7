-- What one command step is, by what was fetched.
use Rattle.std.proofs.Common.{◌≡◌, ℕ, List, ap, ◌∙◌, sym}
use Rattle.device_port.specs.Meaning.{Meaning, effect}
use Rattle.device_port.specs.declared.chain.Segment.{Segment}
use Rattle.ccw_programs.specs.declared.fetch.Link.{Link}
use Rattle.ccw_programs.specs.declared.context.State.TheVariants.{Running}
use Rattle.ccw_programs.specs.declared.rule.FailedCcw.{FailedCcw}
use Rattle.ccw_programs.specs.Links.{Whole, Broken, chain}
use Rattle.ccw_programs.specs.Areas.{Parts, Bad, areas}
use Rattle.ccw_programs.specs.Place.{checked_place}
use Rattle.ccw_programs.specs.Step.{Program, program, step, step_from, step_on_chain, step_on_areas, first_of, acted_place}

module _ {D : Type 0} (meaning : Meaning D) (p : Program D) (running : p.place.state ≡ Running) where
  pub step-running : step meaning p ≡ step_on_chain meaning p (chain p.area p.place.next p.place.fetched)
  unfolding step
  step-running = ap (step_from meaning p) running

  pub step-broken : (before : List Link) (refusal : FailedCcw) → chain p.area p.place.next p.place.fetched ≡ Broken before refusal →
      step meaning p ≡ program (checked_place p.place refusal.at) p.device p.area
  step-broken before refusal h = step-running ∙ ap (step_on_chain meaning p) h

  module _ (links : List Link) (fetches code : ℕ) (is_chain : chain p.area p.place.next p.place.fetched ≡ Whole links fetches)
      (is_first : code ≡ (first_of links).ccw.command) where
    step-whole : step meaning p ≡ step_on_areas meaning p links fetches (areas (meaning.flow p.device code) p.area links)
    step-whole = step-running ∙ ap (step_on_chain meaning p) is_chain
        ∙ ap (λ k. step_on_areas meaning p links fetches (areas (meaning.flow p.device k) p.area links)) (sym is_first)

    pub step-bad : (refusal : FailedCcw) → areas (meaning.flow p.device code) p.area links ≡ Bad refusal →
        step meaning p ≡ program (checked_place p.place refusal.at) p.device p.area
    step-bad refusal h = step-whole ∙ ap (step_on_areas meaning p links fetches) h

    pub step-acted : (parts : List Segment) → areas (meaning.flow p.device code) p.area links ≡ Parts parts →
        step meaning p ≡ program
        (acted_place p.place (meaning.flow p.device code) links fetches (effect meaning p.device code parts p.area).acted)
        (effect meaning p.device code parts p.area).device (effect meaning p.device code parts p.area).area
    step-acted parts h = step-whole ∙ ap (step_on_areas meaning p links fetches) h
        ∙ ap (λ k. program (acted_place p.place (meaning.flow p.device k) links fetches (effect meaning p.device k parts p.area).acted)
        (effect meaning p.device k parts p.area).device (effect meaning p.device k parts p.area).area) (sym is_first)
