-- A tape that is recorded item by item from its load point on, as from an image of a tape.
use Rattle.std.specs.Prelude.{◌≡◌, ℕ, ◌≤◌, Bool, true, false, nat_le, List, [], ◌∷◌, ◌++◌, length, Result, Ok, Err}
use Rattle.device_port.specs.Packed.{HoldsItems}
use Rattle.tape_unit.specs.declared.recording.RecordingError.{RecordingError}
use Rattle.tape_unit.specs.declared.recording.RecordingError.TheVariants as recording
use Rattle.tape_unit.specs.Item.{Item, content_of, is_item, on_tape}
use Rattle.tape_unit.specs.Reel.{ReelState, longest_reel, has_room_at, bytes_of}

-- A SIZE of a tape that is recorded: up to 4 GiB
abbrev pub is_recordable : ℕ → Bool
is_recordable bytes = nat_le bytes longest_reel

-- WHAT BEGINNING ANSWERS: a reel without items
abbrev pub BeginsRecording : ℕ → Result ReelState RecordingError → Type 0
BeginsRecording bytes (Ok reel) = (is_recordable bytes ≡ true) × (reel ≡ record { size = bytes; items = [] })
BeginsRecording bytes (Err recording.BadSize) = is_recordable bytes ≡ false
BeginsRecording bytes (Err recording.BadBlock) = ⊥
BeginsRecording bytes (Err recording.Full) = ⊥
BeginsRecording bytes (Err recording.NoMemory) = ⊥

-- the reel with one more item
abbrev pub with_item : ReelState → Item → ReelState
with_item reel x = record { size = reel.size; items = reel.items ++ x ∷ [] }

-- whether it fits after those there
abbrev pub takes_item : ReelState → Item → Bool
takes_item reel x = has_room_at reel (length reel.items) (length (content_of x))

-- THE RESULT OF RECORDING AN ITEM: `Ok`, or the first reason that holds
abbrev pub Records : ReelState → Item → {A : Type 0} → Result A RecordingError → Type 0
Records reel x (Ok done) = (is_item x ≡ true) × (takes_item reel x ≡ true)
Records reel x (Err recording.BadSize) = ⊥
Records reel x (Err recording.BadBlock) = is_item x ≡ false
Records reel x (Err recording.Full) = (is_item x ≡ true) × (takes_item reel x ≡ false)
Records reel x (Err recording.NoMemory) = (is_item x ≡ true) × (takes_item reel x ≡ true)

-- the reel with another size
abbrev pub resized : ReelState → ℕ → ReelState
resized reel bytes = record { size = bytes; items = reel.items }

-- THE RESULT OF CHANGING THE SIZE: `Ok`, or the first reason that holds
abbrev pub Resizes : ReelState → ℕ → {A : Type 0} → Result A RecordingError → Type 0
Resizes reel bytes (Ok done) = (is_recordable bytes ≡ true) × (nat_le (bytes_of reel.items) bytes ≡ true)
Resizes reel bytes (Err recording.BadSize) = is_recordable bytes ≡ false
Resizes reel bytes (Err recording.BadBlock) = ⊥
Resizes reel bytes (Err recording.Full) = (is_recordable bytes ≡ true) × (nat_le (bytes_of reel.items) bytes ≡ false)
Resizes reel bytes (Err recording.NoMemory) = ⊥

-- a reel cut after its last item
abbrev pub cut : ReelState → ReelState
cut reel = resized reel (bytes_of reel.items)

-- what the code keeps of it: the bytes of the items alone, and the size that the tape has in the end
pub record HoldsRecording (bytes : List ℕ) (count size : ℕ) : Type 0 where
  pub holds : HoldsItems on_tape bytes (length bytes) count
  pub within : length bytes ≤ size
  pub small : size ≤ longest_reel
