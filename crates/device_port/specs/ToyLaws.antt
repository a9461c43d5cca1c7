-- The toy device keeps the laws of a device.
use Rattle.std.specs.Prelude.{◌≡◌, ◌≢◌, ℕ, ◌==◌, List, Bool, true, false, Option, Some, None}
use Rattle.std.proofs.Common.{refl, ap}
use Rattle.std.proofs.lemmas.List.{length-reverse}
use Rattle.device_port.specs.declared.kind.Kind.{Kind}
use Rattle.device_port.specs.declared.kind.Kind.TheVariants.{Disk, Tape, Printer}
use Rattle.device_port.specs.declared.faults.Fault.{Fault}
use Rattle.device_port.specs.Faults.{fault_met, counted}
use Rattle.device_port.specs.Meaning.{Lawful, GivesWhatItWants}
use Rattle.device_port.specs.MeaningLaws.{gives_nothing}
use Rattle.device_port.specs.Toy.{ToyBlock, toy, toy_act, toy_act_by, toy_flow, tracks_of, flow_by, command_by, write_code, read_code}
use Rattle.device_port.specs.Toy.{no_operation_code, read_backward_code}

gives_by : (is_write is_read is_backward is_nothing : Bool) (d : ToyBlock) (given : List ℕ) →
    GivesWhatItWants (flow_by is_write is_read is_backward) (command_by is_write is_read is_backward is_nothing d given)
gives_by true is_read is_backward is_nothing d given = tt
gives_by false true is_backward is_nothing d given = refl
gives_by false false true is_nothing d given = length-reverse d.block
gives_by false false false true d given = refl
gives_by false false false false d given = refl

toy_gives : (fault : Option Fault) (d : ToyBlock) (command : ℕ) (given : List ℕ) →
    GivesWhatItWants (toy_flow command) (toy_act_by fault d command given)
toy_gives (Some fault) d command given = gives_nothing (toy_flow command) (toy_act_by (Some fault) d command given) refl refl
toy_gives None d command given =
    gives_by (command == write_code) (command == read_code) (command == read_backward_code) (command == no_operation_code) d given

-- no command changes the kind
kind_by : (is_write is_read is_backward is_nothing : Bool) (d : ToyBlock) (given : List ℕ) →
    (command_by is_write is_read is_backward is_nothing d given).device.kind ≡ d.kind
kind_by true is_read is_backward is_nothing d given = refl
kind_by false true is_backward is_nothing d given = refl
kind_by false false true is_nothing d given = refl
kind_by false false false true d given = refl
kind_by false false false false d given = refl

toy_kind : (fault : Option Fault) (d : ToyBlock) (command : ℕ) (given : List ℕ) → (toy_act_by fault d command given).device.kind ≡ d.kind
toy_kind (Some fault) d command given = refl
toy_kind None d command given =
    kind_by (command == write_code) (command == read_code) (command == read_backward_code) (command == no_operation_code) d given

toy_stays : (d : ToyBlock) (command : ℕ) (given : List ℕ) → (toy_act d command given).device.kind ≡ d.kind
toy_stays d command given = toy_kind (fault_met d.ordinals) (record d { ordinals = counted d.ordinals }) command given

-- it has a track only if it stands in for a disk
off_disk : (kind : Kind) → kind ≢ Disk → tracks_of kind ≡ 0
off_disk Disk off = absurd (off refl)
off_disk Tape off = refl
off_disk Printer off = refl

pub toy_lawful : Lawful toy
toy_lawful = record {
  kind_after_act = toy_stays;
  cylinders_after_act = λ d command given. ap tracks_of (toy_stays d command given);
  heads_after_act = λ d command given. ap tracks_of (toy_stays d command given);
  kind_after_prefix = λ d seek mask. refl;
  cylinders_after_prefix = λ d seek mask. refl;
  heads_after_prefix = λ d seek mask. refl;
  cylinders_off_disk = λ d off. off_disk d.kind off;
  heads_off_disk = λ d off. off_disk d.kind off;
  prefix_off_disk = λ d seek mask off. refl;
  gives = λ d command given. toy_gives (fault_met d.ordinals) (record d { ordinals = counted d.ordinals }) command given;
}
