-- What a device means: every call of the trait `Device`, as a function of the device.
use Rattle.std.specs.Prelude.{◌≡◌, ◌≢◌, ℕ, ◌==◌, nat_lt, ◌&&◌, Bool, true, List, length}
use Rattle.io_images.specs.declared.seek.Seek.{Seek}
use Rattle.io_area.specs.Storage.{Storage}
use Rattle.device_port.specs.Moves.{offered, received}
use Rattle.device_port.specs.declared.kind.Kind.{Kind}
use Rattle.device_port.specs.declared.kind.Kind.TheVariants.{Disk, Tape, Printer}
use Rattle.device_port.specs.declared.kind.Flow.{Flow}
use Rattle.device_port.specs.declared.kind.Flow.TheVariants.{None as NoFlow, Out, Input, Back}
use Rattle.device_port.specs.declared.answer.Acted.{Acted}
use Rattle.device_port.specs.declared.chain.Segment.{Segment}

-- what a device makes of a command: its answer, the device after it, and the bytes that it gives to the
-- program, in the order in which they are moved
pub record Outcome (D : Type 0) : Type 0 where
  pub acted : Acted
  pub device : D
  pub bytes : List ℕ

-- THE MEANING of a kind of device. A device knows bytes and nothing of storage: `act` is a function of the
-- device, the command code and the bytes that the program gives (none unless data flows out)
pub record Meaning (D : Type 0) : Type 0 where
  pub kind : D → Kind
  pub cylinders : D → ℕ
  pub heads : D → ℕ
  pub flow : D → ℕ → Flow
  pub prefix : D → Seek → ℕ → D
  pub act : D → ℕ → List ℕ → Outcome D

-- a seek address is one of the device: on a disk bin 0 and a track of its geometry, elsewhere any
-- (DFSMSdfp Advanced Services, IOBSEEK)
abbrev pub fits_seek : Kind → ℕ → ℕ → Seek → Bool
fits_seek Disk cylinders heads seek = (seek.bin == 0) && nat_lt seek.cylinder cylinders && nat_lt seek.head heads
fits_seek Tape cylinders heads seek = true
fits_seek Printer cylinders heads seek = true

abbrev pub fits : {D : Type 0} → Meaning D → D → Seek → Bool
fits meaning d seek = fits_seek (meaning.kind d) (meaning.cylinders d) (meaning.heads d) seek

-- what a command does to a device and to the storage of a program
pub record Effect (D : Type 0) : Type 0 where
  pub acted : Acted
  pub device : D
  pub area : Storage

-- THE EFFECT of a command on this chain: the device acts on the bytes that the chain gives, and the chain
-- takes the bytes that it gives back
abbrev pub effect : {D : Type 0} → Meaning D → D → ℕ → List Segment → Storage → Effect D
effect meaning d command chain m =
    let flow = meaning.flow d command in
    let outcome = meaning.act d command (offered flow m chain) in
    record { acted = outcome.acted; device = outcome.device; area = received flow chain outcome.bytes m }

-- a command that gives bytes gives those that it wants to move, and one without data wants none
abbrev pub GivesWhatItWants : {D : Type 0} → Flow → Outcome D → Type 0
GivesWhatItWants NoFlow outcome = outcome.acted.want ≡ 0
GivesWhatItWants Out outcome = Unit {0}
GivesWhatItWants Input outcome = length outcome.bytes ≡ outcome.acted.want
GivesWhatItWants Back outcome = length outcome.bytes ≡ outcome.acted.want

-- THE LAWS of a device: kind and geometry never change, only a disk has tracks or is moved by a prefix, and
-- the bytes given are those wanted
pub record Lawful {D : Type 0} (meaning : Meaning D) : Type 0 where
  pub kind_after_act : (d : D) (command : ℕ) (bytes : List ℕ) → meaning.kind (meaning.act d command bytes).device ≡ meaning.kind d
  pub cylinders_after_act : (d : D) (command : ℕ) (bytes : List ℕ) →
      meaning.cylinders (meaning.act d command bytes).device ≡ meaning.cylinders d
  pub heads_after_act : (d : D) (command : ℕ) (bytes : List ℕ) → meaning.heads (meaning.act d command bytes).device ≡ meaning.heads d
  pub kind_after_prefix : (d : D) (seek : Seek) (mask : ℕ) → meaning.kind (meaning.prefix d seek mask) ≡ meaning.kind d
  pub cylinders_after_prefix : (d : D) (seek : Seek) (mask : ℕ) → meaning.cylinders (meaning.prefix d seek mask) ≡ meaning.cylinders d
  pub heads_after_prefix : (d : D) (seek : Seek) (mask : ℕ) → meaning.heads (meaning.prefix d seek mask) ≡ meaning.heads d
  pub cylinders_off_disk : (d : D) → meaning.kind d ≢ Disk → meaning.cylinders d ≡ 0
  pub heads_off_disk : (d : D) → meaning.kind d ≢ Disk → meaning.heads d ≡ 0
  pub prefix_off_disk : (d : D) (seek : Seek) (mask : ℕ) → meaning.kind d ≢ Disk → meaning.prefix d seek mask ≡ d
  pub gives : (d : D) (command : ℕ) (bytes : List ℕ) → GivesWhatItWants (meaning.flow d command) (meaning.act d command bytes)
