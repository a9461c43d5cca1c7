-- The tape keeps the laws of a device.
use Rattle.std.specs.Prelude.{◌≡◌, ℕ, List, [], ◌∷◌, Option, Some, None, length, refl}
use Rattle.std.proofs.lemmas.List.{length-reverse}
use Rattle.std.specs.List.{position}
use Rattle.std.proofs.Common.{◌∙◌}
use Rattle.std.specs.Prelude.{Bool, true, false, if◌then◌else◌}
use Rattle.device_port.specs.declared.faults.Fault.{Fault}
use Rattle.device_port.specs.Faults.{fault_met, counted}
use Rattle.device_port.specs.Meaning.{Outcome, Lawful, GivesWhatItWants}
use Rattle.device_port.specs.MeaningLaws.{gives_nothing}
use Rattle.tape_unit.specs.declared.command.Command.{Command}
use Rattle.tape_unit.specs.declared.command.Command.TheVariants.{Control, Sense, Read, ReadBackward, Write}
use Rattle.tape_unit.specs.declared.command.ControlCommand.TheVariants as control
use Rattle.tape_unit.specs.Item.{Item, tape_mark, block, is_mark, content_of}
use Rattle.tape_unit.specs.Reel.{has_room_at}
use Rattle.tape_unit.specs.Command.{command_of, flow_of}
use Rattle.tape_unit.specs.Tape.{TapeState, tape, ahead, items_after, read_ended, read_first, read_backward_first, forward_space_first}
use Rattle.tape_unit.specs.Tape.{backspace_first, forward_space_over, backspace_over, command_on, act_by}

-- a read gives the bytes that it wants
want-read : (x : Item) → length (content_of x) ≡ (read_ended x).want
want-read tape_mark = refl
want-read (block bytes) = refl

read_gives : (t : TapeState) (items : List Item) → length (read_first t items).bytes ≡ (read_first t items).acted.want
read_gives t [] = refl
read_gives t (x ∷ items) = want-read x

read_backward_gives : (t : TapeState) (items : List Item) →
    length (read_backward_first t items).bytes ≡ (read_backward_first t items).acted.want
read_backward_gives t [] = refl
read_backward_gives t (x ∷ items) = length-reverse (content_of x) ∙ want-read x

-- a command without data wants none
forward_space_wants : (t : TapeState) (items : List Item) → (forward_space_first t items).acted.want ≡ 0
forward_space_wants t [] = refl
forward_space_wants t (tape_mark ∷ items) = refl
forward_space_wants t (block bytes ∷ items) = refl

backspace_wants : (t : TapeState) (items : List Item) → (backspace_first t items).acted.want ≡ 0
backspace_wants t [] = refl
backspace_wants t (tape_mark ∷ items) = refl
backspace_wants t (block bytes ∷ items) = refl

forward_file_wants : (t : TapeState) (blocks : Option ℕ) → (forward_space_over t blocks).acted.want ≡ 0
forward_file_wants t None = refl
forward_file_wants t (Some blocks) = refl

backspace_file_wants : (t : TapeState) (blocks : Option ℕ) → (backspace_over t blocks).acted.want ≡ 0
backspace_file_wants t None = refl
backspace_file_wants t (Some blocks) = refl

either_wants : (fits : Bool) (x y : Outcome TapeState) → x.acted.want ≡ 0 → y.acted.want ≡ 0 → (if fits then x else y).acted.want ≡ 0
either_wants true x y a b = a
either_wants false x y a b = b

command_gives : (t : TapeState) (command : Option Command) (given : List ℕ) →
    GivesWhatItWants (flow_of command) (command_on t command given)
command_gives t None given = refl
command_gives t (Some (Control control.NoOperation)) given = refl
command_gives t (Some (Control control.Rewind)) given = refl
command_gives t (Some (Control control.WriteTapeMark)) given = either_wants (has_room_at t.reel t.place 0) _ _ refl refl
command_gives t (Some (Control control.BackspaceBlock)) given = backspace_wants t (items_after t)
command_gives t (Some (Control control.BackspaceFile)) given = backspace_file_wants t (position is_mark (items_after t))
command_gives t (Some (Control control.ForwardSpaceBlock)) given = forward_space_wants t (ahead t)
command_gives t (Some (Control control.ForwardSpaceFile)) given = forward_file_wants t (position is_mark (ahead t))
command_gives t (Some Sense) given = refl
command_gives t (Some Read) given = read_gives t (ahead t)
command_gives t (Some ReadBackward) given = read_backward_gives t (items_after t)
command_gives t (Some Write) given = tt

gives_by : (fault : Option Fault) (t : TapeState) (code : ℕ) (given : List ℕ)
    → GivesWhatItWants (flow_of (command_of code)) (act_by fault t code given)
gives_by None t code given = command_gives t (command_of code) given
gives_by (Some fault) t code given = gives_nothing (flow_of (command_of code)) (act_by (Some fault) t code given) refl refl

-- THE LAWS
pub tape_lawful : Lawful tape
tape_lawful = record {
  kind_after_act = λ t code given. refl;
  cylinders_after_act = λ t code given. refl;
  heads_after_act = λ t code given. refl;
  kind_after_prefix = λ t seek mask. refl;
  cylinders_after_prefix = λ t seek mask. refl;
  heads_after_prefix = λ t seek mask. refl;
  cylinders_off_disk = λ d off. refl;
  heads_off_disk = λ d off. refl;
  prefix_off_disk = λ d seek mask off. refl;
  gives = λ t code given. gives_by (fault_met t.ordinals) (record t { ordinals = counted t.ordinals }) code given;
}
