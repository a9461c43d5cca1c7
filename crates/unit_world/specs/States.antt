-- THE STATE OF A UNIT'S WORLD as contracts see it, and the steps that a call makes (profile).
use Rattle.std.specs.Prelude.{◌≡◌, ℕ, List, length}
use Rattle.device_port.specs.Meaning.{Meaning}
use Rattle.request_piece.specs.PostedState.{PostedState}
use Rattle.io_images.specs.declared.extent.Extent.{Extent}
use Rattle.request_piece.specs.declared.piece.Name.{Name}
use Rattle.request_piece.specs.declared.piece.Piece.{Piece}
use Rattle.unit_book.specs.declared.dcb.ProcessingMethod.{ProcessingMethod}
use Rattle.unit_book.specs.declared.step.UnitAnswer.{UnitAnswer}
use Rattle.unit_book.specs.declared.step.UnitStep.{UnitStep}
use Rattle.unit_book.specs.Book.{Book}
use Rattle.unit_book.specs.World.{World, IsOpening, Reaches, Step, Accept, Take, Open, Call, Deliver, Collect}
use Rattle.unit_book.specs.WorldLaws.{KeepsRequests}
use Rattle.unit_world.specs.Parts.{UnitPart, issued_by}
use Rattle.unit_world.specs.PostLists.{list_of}

-- the number of the unit; the unit; how many posted values may be on the way back to a task; and those values for each
-- task
pub record WorldState (D : Type 0) : Type 0 where
  pub unit : ℕ
  pub part : UnitPart D
  pub post_room : ℕ
  pub back : List (List PostedState)

-- the book with room for this many entries
abbrev pub with_spare : {D : Type 0} → ℕ → Book D → Book D
with_spare spare b = record b { spare = spare }

-- A WORLD LOOKS SO: it has this unit, these rooms, this in flight and on the way back, this book but for the room for
-- entries, and each task sent this many requests
pub record Shows {D : Type 0} (w : World D) (v : WorldState D) : Type 0 where
  pub unit : w.unit ≡ v.unit
  pub intake_room : w.intake_room ≡ v.part.intake_room
  pub post_room : w.post_room ≡ v.post_room
  pub flight : w.flight ≡ v.part.flight
  pub book : w.book ≡ with_spare w.book.spare v.part.book
  pub back : (task : ℕ) → w.back task ≡ list_of v.back task
  pub sent : (task : ℕ) → length (w.sent task) ≡ issued_by v.part.issued task

-- WHICH STEP: the call, with its arguments and its answer. A value that is taken, delivered or collected has the name of its
-- request
pub data StepName : Type 0 where
  AcceptStep : Piece → StepName
  TakeStep : Name → StepName
  OpenStep : ℕ → ProcessingMethod → List Extent → StepName
  CallStep : UnitStep → UnitAnswer → StepName
  DeliverStep : Name → StepName
  CollectStep : ℕ → Name → StepName

module _ {D : Type 0} (meaning : Meaning D) where
  abbrev pub step_name : {old new : World D} → Step meaning old new → StepName
  step_name (Accept r h) = AcceptStep r
  step_name (Take h) = TakeStep h.request.name
  step_name (Open dcb method extents h same) = OpenStep dcb method extents
  step_name (Call step answer h same) = CallStep step answer
  step_name (Deliver h) = DeliverStep h.value.name
  step_name (Collect task h) = CollectStep task h.value.name

  -- the step of this name leads from the world to a world that looks so
  pub record StepFrom (name : StepName) (w : World D) (v : WorldState D) : Type 0 where
    pub after : World D
    pub step : Step meaning w after
    pub named : step_name step ≡ name
    pub shows : Shows after v

  -- A CALL MAKES THIS STEP of every world that looks as the state did
  abbrev pub MakesStep : StepName → WorldState D → WorldState D → Type 0
  MakesStep name old new = (w : World D) → Shows w old → StepFrom name w new

  -- a list of steps leads from the world to a world that looks so
  pub record StepsFrom (w : World D) (v : WorldState D) : Type 0 where
    pub after : World D
    pub steps : Reaches meaning w after
    pub shows : Shows after v

  -- A CALL MAKES A LIST OF STEPS
  abbrev pub MakesSteps : WorldState D → WorldState D → Type 0
  MakesSteps old new = (w : World D) → Shows w old → StepsFrom w new

  -- A REACHED STATE: a list of steps leads from an opening world to a world that looks so
  pub record IsReached (v : WorldState D) : Type 0 where
    pub opening : World D
    pub world : World D
    pub opens : IsOpening meaning opening
    pub reaches : Reaches meaning opening world
    pub shows : Shows world v

  -- A world that looks so keeps its requests
  pub record KeepsLaws (v : WorldState D) : Type 0 where
    pub world : World D
    pub shows : Shows world v
    pub keeps : KeepsRequests meaning world

  -- WHAT HOLDS OF EVERY STATE: it is reached, and has both lists for each task
  pub record IsWorldState (v : WorldState D) : Type 0 where
    pub reached : IsReached v
    pub tasks : length v.back ≡ length v.part.issued
