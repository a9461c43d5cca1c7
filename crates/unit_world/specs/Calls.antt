-- WHICH STEP EACH CALL OF A SITE MAKES in the world of one unit; it changes no other unit's world (profile).
use Rattle.std.specs.Prelude.{◌≡◌, ℕ, Some, List, slice_get}
use Rattle.device_port.specs.Meaning.{Meaning}
use Rattle.io_images.specs.declared.extent.Extent.{Extent}
use Rattle.request_piece.specs.PostedState.{PostedState}
use Rattle.request_piece.specs.declared.piece.Name.{Name}
use Rattle.request_piece.specs.declared.piece.Piece.{Piece}
use Rattle.unit_book.specs.declared.dcb.ProcessingMethod.{ProcessingMethod}
use Rattle.unit_book.specs.declared.step.UnitAnswer.{UnitAnswer}
use Rattle.unit_book.specs.declared.step.UnitStep.{UnitStep}
use Rattle.unit_book.specs.Answers.{OpensBook}
use Rattle.unit_book.specs.Steps.{StepsBook}
use Rattle.unit_world.specs.Parts.{PartAccepts, PartTakesOne}
use Rattle.unit_world.specs.PostLists.{list_of}
use Rattle.unit_world.specs.Sites.{SiteState, CollectsPost, DeliversPost, IsSite, OnBook, OnUnit, SettlesBook, StepsOfUnit, StepsUnit}
use Rattle.unit_world.specs.States.{AcceptStep, TakeStep, OpenStep, CallStep, DeliverStep, CollectStep}

-- what the clause `ok` of a call says is the step of its name
pub record CallsMakeSteps {D : Type 0} (meaning : Meaning D) : Type 0 where
  pub accepts : (old new : SiteState D) (r : Piece) → OnUnit old r.unit (λ p q. PartAccepts p r q) new →
      StepsUnit meaning (AcceptStep r) old r.unit new
  pub takes : (old new : SiteState D) (unit : ℕ) (name : Name) → OnUnit old unit (λ p q. PartTakesOne meaning p name q) new →
      StepsUnit meaning (TakeStep name) old unit new
  pub opens : (old new : SiteState D) (unit dcb : ℕ) (method : ProcessingMethod) (extents : List Extent) →
      OnBook old unit (λ b c. OpensBook meaning b dcb method extents c) new →
      StepsUnit meaning (OpenStep dcb method extents) old unit new
  pub steps : (old new : SiteState D) (unit : ℕ) (step : UnitStep) (answer : UnitAnswer) →
      OnBook old unit (λ b c. StepsBook meaning b step answer c) new → StepsUnit meaning (CallStep step answer) old unit new
  pub delivers : (old new : SiteState D) (unit : ℕ) (name : Name) → IsSite meaning old → DeliversPost old unit name new →
      StepsUnit meaning (DeliverStep name) old unit new
  -- of whatever unit the first post of the row is
  pub collects : (old new : SiteState D) (task : ℕ) (value : PostedState) → IsSite meaning old →
      slice_get (list_of old.rows task) 0 ≡ Some value → CollectsPost old task new →
      StepsUnit meaning (CollectStep task value.name) old value.unit new
  -- `settle` is a list of steps
  pub settles : (old new : SiteState D) (unit : ℕ) → OnBook old unit (λ b c. SettlesBook meaning b c) new →
      StepsOfUnit meaning old unit new
