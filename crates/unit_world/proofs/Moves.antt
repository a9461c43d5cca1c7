-- What calls do to the state of a unit's world.
use Rattle.std.proofs.Common.{◌≡◌, ◌<◌, ℕ, Some, length, drop}
use Rattle.std.specs.Prelude.{slice_get}
use Rattle.request_piece.specs.PostedState.{PostedState}
use Rattle.request_piece.specs.declared.piece.Name.{Name}
use Rattle.unit_book.specs.Book.{Book}
use Rattle.unit_world.specs.PostLists.{list_of, with_value, without_value}
use Rattle.unit_world.specs.States.{WorldState}

-- the state with another book
abbrev pub with_book : {D : Type 0} → WorldState D → Book D → WorldState D
with_book v book = record v { part = record v.part { book = book } }

-- a task collects the first value on its way back to it
abbrev pub CollectsValue : {D : Type 0} → WorldState D → ℕ → WorldState D → Type 0
CollectsValue old task new = new ≡ record old { back = without_value old.back task }

-- the first posted value that is out goes on its way back to its task
pub record DeliversValue {D : Type 0} (old : WorldState D) (value : PostedState) (name : Name) (new : WorldState D) : Type 0 where
  pub first : slice_get old.part.book.out 0 ≡ Some value
  pub named : value.name ≡ name
  pub of_task : name.task < length old.back
  pub room : length (list_of old.back name.task) < old.post_room
  pub is : new ≡ record (with_book old (record old.part.book { out = drop 1 old.part.book.out })) {
    back = with_value old.back name.task value;
  }
