-- The size of a tape never changes: the bytes of its reel, and the faults of its script.
use Rattle.std.specs.Prelude.{◌≡◌, ℕ, Bool, true, false, List, [], ◌∷◌, Option, Some, None, length, take, refl, if◌then◌else◌}
use Rattle.std.specs.List.{position}
use Rattle.device_port.specs.declared.faults.Fault.{Fault}
use Rattle.device_port.specs.Faults.{fault_met, counted}
use Rattle.device_port.specs.FixedSize.{KeepsSize}
use Rattle.device_port.specs.Meaning.{Outcome}
use Rattle.tape_unit.specs.declared.command.Command.{Command}
use Rattle.tape_unit.specs.declared.command.Command.TheVariants.{Control, Sense, Read, ReadBackward, Write}
use Rattle.tape_unit.specs.declared.command.ControlCommand.TheVariants as control
use Rattle.tape_unit.specs.Item.{Item, is_mark}
use Rattle.tape_unit.specs.Reel.{has_room_at}
use Rattle.tape_unit.specs.Command.{command_of}
use Rattle.tape_unit.specs.Tape.{TapeState, tape, ahead, items_after, read_first, read_backward_first, forward_space_first}
use Rattle.tape_unit.specs.Tape.{backspace_first, forward_space_over, backspace_over, command_on, act_by}

-- THE SIZE OF A TAPE: the faults of its script, and the bytes of its reel
abbrev pub tape_size : TapeState → List ℕ
tape_size t = length t.ordinals.script ∷ t.reel.size ∷ []

-- a command that meets no item, or the first of some
first_keeps : (t : TapeState) (on : List Item → Outcome TapeState) (items : List Item) → tape_size (on []).device ≡ tape_size t →
    ((x : Item) (rest : List Item) → tape_size (on (x ∷ rest)).device ≡ tape_size t) → tape_size (on items).device ≡ tape_size t
first_keeps t on [] none some = none
first_keeps t on (x ∷ items) none some = some x items

-- a command that finds no tape mark, or one after some blocks
mark_keeps : (t : TapeState) (over : Option ℕ → Outcome TapeState) (blocks : Option ℕ) → tape_size (over None).device ≡ tape_size t →
    ((n : ℕ) → tape_size (over (Some n)).device ≡ tape_size t) → tape_size (over blocks).device ≡ tape_size t
mark_keeps t over None none some = none
mark_keeps t over (Some n) none some = some n

either_keeps : (fits : Bool) (t : TapeState) (x y : Outcome TapeState) → tape_size x.device ≡ tape_size t →
    tape_size y.device ≡ tape_size t → tape_size (if fits then x else y).device ≡ tape_size t
either_keeps true t x y a b = a
either_keeps false t x y a b = b

command_keeps : (t : TapeState) (command : Option Command) (given : List ℕ) → tape_size (command_on t command given).device ≡ tape_size t
command_keeps t None given = refl
command_keeps t (Some (Control control.NoOperation)) given = refl
command_keeps t (Some (Control control.Rewind)) given = refl
command_keeps t (Some (Control control.WriteTapeMark)) given = either_keeps (has_room_at t.reel t.place 0) t _ _ refl refl
command_keeps t (Some (Control control.BackspaceBlock)) given =
    first_keeps t (backspace_first t) (items_after t) refl (λ x rest. refl)
command_keeps t (Some (Control control.BackspaceFile)) given =
    mark_keeps t (backspace_over t) (position is_mark (items_after t)) refl (λ n. refl)
command_keeps t (Some (Control control.ForwardSpaceBlock)) given =
    first_keeps t (forward_space_first t) (ahead t) refl (λ x rest. refl)
command_keeps t (Some (Control control.ForwardSpaceFile)) given =
    mark_keeps t (forward_space_over t) (position is_mark (ahead t)) refl (λ n. refl)
command_keeps t (Some Sense) given = refl
command_keeps t (Some Read) given = first_keeps t (read_first t) (ahead t) refl (λ x rest. refl)
command_keeps t (Some ReadBackward) given = first_keeps t (read_backward_first t) (items_after t) refl (λ x rest. refl)
command_keeps t (Some Write) given = either_keeps (has_room_at t.reel t.place (length (take 65_535 given))) t _ _ refl refl

keeps_by : (fault : Option Fault) (t : TapeState) (code : ℕ) (given : List ℕ) → tape_size (act_by fault t code given).device ≡ tape_size t
keeps_by None t code given = command_keeps t (command_of code) given
keeps_by (Some fault) t code given = refl

-- THE SIZE STAYS
pub tape_keeps_size : KeepsSize tape tape_size
tape_keeps_size = record {
  after_act = λ t code given. keeps_by (fault_met t.ordinals) (record t { ordinals = counted t.ordinals }) code given;
  after_prefix = λ t seek mask. refl;
}
