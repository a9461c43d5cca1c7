-- A SITE WITHOUT LOCKS AND THREADS: units, and a post row for each task, into which each unit's posts go in the order of
-- their delivery (profile).
use Rattle.std.specs.Prelude.{◌≡◌, ◌≢◌, ◌≤◌, ◌<◌, ◌==◌, ℕ, Bool, true, not, Some, List, [], length, drop, map, slice_get, slice_set}
use Rattle.std.specs.List.{filter, list_all}
use Rattle.device_port.specs.Meaning.{Meaning}
use Rattle.request_piece.specs.PostedState.{PostedState}
use Rattle.request_piece.specs.declared.piece.Name.{Name}
use Rattle.unit_book.specs.declared.answer.Delivery.{Delivery}
use Rattle.unit_book.specs.declared.answer.Delivery.TheVariants as delivery
use Rattle.unit_book.specs.Book.{Book}
use Rattle.unit_book.specs.Lists.{Each}
use Rattle.unit_book.specs.Settle.{AddsService, Settles}
use Rattle.unit_world.specs.Parts.{UnitPart, IsFinishedPart}
use Rattle.unit_world.specs.PostLists.{list_of, with_value, without_value}
use Rattle.unit_world.specs.States.{WorldState, IsWorldState, KeepsLaws, MakesStep, MakesSteps, StepName}

-- the units, each at the place of its number; how many posts may be in a row; and the posts in the row of each task, in
-- the order of their delivery
pub record SiteState (D : Type 0) : Type 0 where
  pub units : List (UnitPart D)
  pub post_room : ℕ
  pub rows : List (List PostedState)

-- the posts of a unit, in order
abbrev pub from_unit : ℕ → List PostedState → List PostedState
from_unit unit posts = filter (λ v. v.unit == unit) posts

-- THE WORLD OF A UNIT: on the way back to a task are the unit's posts in the task's row
abbrev pub world_at : {D : Type 0} → SiteState D → ℕ → UnitPart D → WorldState D
world_at s unit part = record {
  unit = unit;
  part = part;
  post_room = s.post_room;
  back = map (from_unit unit) s.rows;
}

-- no post of a unit waits for its task to collect it
abbrev pub is_collected : {D : Type 0} → SiteState D → ℕ → Bool
is_collected s unit = list_all (list_all (λ v. not (v.unit == unit))) s.rows

-- what holds of the unit with this number
abbrev pub OnPart : {D : Type 0} → SiteState D → ℕ → (UnitPart D → Type 0) → Type 0
OnPart {D} s unit P = (part : UnitPart D) → slice_get s.units unit ≡ Some part → P part

-- a call does this to a unit, and changes nothing else
pub record OnUnit {D : Type 0} (old : SiteState D) (unit : ℕ) (Does : UnitPart D → UnitPart D → Type 0) (new : SiteState D) : Type 0 where
  pub before : UnitPart D
  pub after : UnitPart D
  pub at : slice_get old.units unit ≡ Some before
  pub does : Does before after
  pub is : new ≡ record old { units = slice_set old.units unit after }

-- a call does this to the book of a unit, and changes nothing else
abbrev pub OnBook : {D : Type 0} → SiteState D → ℕ → (Book D → Book D → Type 0) → SiteState D → Type 0
OnBook old unit Does new = OnUnit old unit (λ p q. Does p.book q.book × (q ≡ record p { book = q.book })) new

-- the first posted value that is out at a unit
pub record IsFirstOut {D : Type 0} (s : SiteState D) (unit : ℕ) (name : Name) : Type 0 where
  pub part : UnitPart D
  pub at : slice_get s.units unit ≡ Some part
  pub value : PostedState
  pub first : slice_get part.book.out 0 ≡ Some value
  pub named : value.name ≡ name
  pub of_unit : value.unit ≡ unit
  pub of_task : name.task < length s.rows

-- the first value that is out at a unit goes into the row of its task, after all others
pub record DeliversPost {D : Type 0} (old : SiteState D) (unit : ℕ) (name : Name) (new : SiteState D) : Type 0 where
  pub out : IsFirstOut old unit name
  pub room : length (list_of old.rows name.task) < old.post_room
  pub is : new ≡ record old {
    units = slice_set old.units unit (record out.part { book = record out.part.book { out = drop 1 out.part.book.out } });
    rows = with_value old.rows name.task out.value;
  }

-- the first value that is out at a unit stays there, since the row of its task is full
pub record HoldsPost {D : Type 0} (old : SiteState D) (unit : ℕ) (name : Name) (new : SiteState D) : Type 0 where
  pub out : IsFirstOut old unit name
  pub full : old.post_room ≤ length (list_of old.rows name.task)
  pub is : new ≡ old

-- NOTHING OF A UNIT IS WITH ANYBODY: no request is in flight, waits or is active, and no post is out or waits for its task
pub record IsAtRest {D : Type 0} (s : SiteState D) (unit : ℕ) : Type 0 where
  pub finished : OnPart s unit IsFinishedPart
  pub out : OnPart s unit (λ p. p.book.out ≡ [])
  pub collected : is_collected s unit ≡ true

-- what `deliver` answers: quiet if nothing is out at the unit, full if the row of the task is
abbrev pub DeliversAs : {D : Type 0} → SiteState D → ℕ → Delivery → SiteState D → Type 0
DeliversAs old unit delivery.Quiet new = OnPart old unit (λ p. p.book.out ≡ []) × (new ≡ old)
DeliversAs old unit (delivery.Delivered name) new = DeliversPost old unit name new
DeliversAs old unit (delivery.Full name) new = HoldsPost old unit name new

-- a task collects the first post of its row
abbrev pub CollectsPost : {D : Type 0} → SiteState D → ℕ → SiteState D → Type 0
CollectsPost old task new = new ≡ record old { rows = without_value old.rows task }

module _ {D : Type 0} (meaning : Meaning D) where
  -- nothing changes in the worlds of the other units
  pub record KeepsOthers (old : SiteState D) (unit : ℕ) (new : SiteState D) : Type 0 where
    pub count : length new.units ≡ length old.units
    pub same : (other : ℕ) (part : UnitPart D) → other ≢ unit → slice_get old.units other ≡ Some part →
        (slice_get new.units other ≡ Some part) × (world_at new other part ≡ world_at old other part)

  -- A CALL MAKES THE STEP OF THIS NAME in the world of a unit, and changes no other unit's world
  pub record StepsUnit (name : StepName) (old : SiteState D) (unit : ℕ) (new : SiteState D) : Type 0 where
    pub others : KeepsOthers old unit new
    pub step : (before after : UnitPart D) → slice_get old.units unit ≡ Some before → slice_get new.units unit ≡ Some after →
        MakesStep meaning name (world_at old unit before) (world_at new unit after)

  -- A CALL MAKES A LIST OF STEPS of the world of a unit, and changes no other unit's world
  pub record StepsOfUnit (old : SiteState D) (unit : ℕ) (new : SiteState D) : Type 0 where
    pub others : KeepsOthers old unit new
    pub steps : (before after : UnitPart D) → slice_get old.units unit ≡ Some before → slice_get new.units unit ≡ Some after →
        MakesSteps meaning (world_at old unit before) (world_at new unit after)

  -- a book is settled: on the same device, by starts, runs and interruptions
  pub record SettlesBook (old new : Book D) : Type 0 where
    pub settles : Settles meaning old new
    pub adds : AddsService old.trace new.trace
    pub mounted : new.mounted ≡ old.mounted
    pub isc : new.isc ≡ old.isc
    pub capacity : new.capacity ≡ old.capacity

  -- THE LAWS HOLD OF EACH UNIT'S WORLD
  abbrev pub KeepsSiteLaws : SiteState D → Type 0
  KeepsSiteLaws s = (unit : ℕ) → OnPart s unit (λ part. KeepsLaws meaning (world_at s unit part))

  -- WHAT HOLDS OF EVERY SITE: a list of steps led to each unit's world, and each post in a row is of one of the units
  pub record IsSite (s : SiteState D) : Type 0 where
    pub worlds : (unit : ℕ) → OnPart s unit (λ part. IsWorldState meaning (world_at s unit part))
    pub of_units : (task : ℕ) → Each (λ v. v.unit < length s.units) (list_of s.rows task)
