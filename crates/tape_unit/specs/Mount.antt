-- Which tapes can be mounted, and what is on them then (profile).
use Rattle.std.specs.Prelude.{◌≡◌, ℕ, Bool, true, false, nat_le, ◌&&◌, List, Result, Ok, Err, map}
use Rattle.std.specs.List.{list_all}
use Rattle.device_port.specs.declared.device.MountError.{MountError}
use Rattle.device_port.specs.declared.device.MountError.TheVariants.{BadGeometry, BadMedium, NoMemory}
use Rattle.device_port.specs.declared.faults.Fault.{Fault}
use Rattle.device_port.specs.Faults.{is_script}
use Rattle.tape_unit.specs.declared.mount.InitialItem.{InitialItem}
use Rattle.tape_unit.specs.declared.mount.InitialItem.TheVariants as initially
use Rattle.tape_unit.specs.declared.recording.Unmounted.{Unmounted}
use Rattle.tape_unit.specs.Item.{Item, tape_mark, block, is_item}
use Rattle.tape_unit.specs.Reel.{ReelState, bytes_of}
use Rattle.tape_unit.specs.Tape.{TapeState}

-- A SIZE: 4 to 16,777,216 bytes
abbrev pub is_size : ℕ → Bool
is_size bytes = nat_le 4 bytes && nat_le bytes 16_777_216

-- an item that is handed in, as it is on the tape
abbrev pub initial : InitialItem → Item
initial initially.Mark = tape_mark
initial (initially.Block bytes) = block bytes.items

-- whether it may lie there
abbrev pub is_initial : InitialItem → Bool
is_initial r = is_item (initial r)

-- the items just after mounting
abbrev pub opening_items : List InitialItem → List Item
opening_items items = map initial items

-- A MEDIUM: blocks of 1 to 65,535 bytes and tape marks that fit the size, and a fault script
abbrev pub is_medium : ℕ → List InitialItem → List Fault → Bool
is_medium bytes items faults =
    is_script faults && list_all is_initial items && nat_le (bytes_of (opening_items items)) bytes

-- THE OPENING STATE of a tape with this reel: it is at the load point
abbrev pub wound : ReelState → List Fault → TapeState
wound reel faults = record { reel = reel; place = 0; ordinals = record { script = faults; done = 0 } }

-- the tape just after mounting: its head is at the load point
abbrev pub opening : ℕ → List InitialItem → List Fault → TapeState
opening bytes items faults = wound (record { size = bytes; items = opening_items items }) faults

-- WHAT MOUNTING ANSWERS: the tape, or the first reason that holds
abbrev pub Mounts : ℕ → List InitialItem → List Fault → Result TapeState MountError → Type 0
Mounts bytes items faults (Ok tape) = (is_size bytes ≡ true) × (is_medium bytes items faults ≡ true) × (tape ≡ opening bytes items faults)
Mounts bytes items faults (Err BadGeometry) = is_size bytes ≡ false
Mounts bytes items faults (Err BadMedium) = (is_size bytes ≡ true) × (is_medium bytes items faults ≡ false)
Mounts bytes items faults (Err NoMemory) = (is_size bytes ≡ true) × (is_medium bytes items faults ≡ true)

-- WHAT MOUNTING A RECORDED TAPE ANSWERS: the tape, or the first reason that holds and the reel as it was
abbrev pub Unmounts : List Fault → MountError → Type 0
Unmounts faults BadGeometry = ⊥
Unmounts faults BadMedium = is_script faults ≡ false
Unmounts faults NoMemory = is_script faults ≡ true

-- the result of mounting a reel: the tape at its load point, or the reel handed back with the reason
abbrev pub MountsReel : ReelState → List Fault → Result TapeState Unmounted → Type 0
MountsReel reel faults (Ok tape) = (is_script faults ≡ true) × (tape ≡ wound reel faults)
MountsReel reel faults (Err e) = Unmounts faults e.reason × (e.recording ≡ reel)
