-- WHAT A SITE TELLS of a unit, in the numbers of c/excp.h (profile).
use Rattle.std.specs.Prelude.{◌≡◌, ◌≢◌, ◌≤◌, ◌<◌, ◌-◌, ◌/◌, ◌%◌, ◌↔◌, Bool, ℕ, None, List, Option, Some, false, length, min, option_map, reverse, slice_get, true}
use Rattle.any_device.specs.Devices.{any_device}
use Rattle.any_device.specs.declared.device.AnyDevice.{AnyDevice}
use Rattle.any_device.specs.declared.device.AnyDevice.TheVariants.{Disk, Printer, Tape}
use Rattle.ckd_disk.specs.Disk.{DiskState, records_of}
use Rattle.ckd_disk.specs.Record.{Record}
use Rattle.line_printer.specs.Paper.{Line}
use Rattle.request_piece.specs.declared.piece.Name.{Name}
use Rattle.request_piece.specs.declared.piece.Piece.{Piece}
use Rattle.tape_unit.specs.Item.{Item}
use Rattle.unit_book.specs.Activity.{IsActivity}
use Rattle.unit_book.specs.Book.{Book, occupancy}
use Rattle.unit_book.specs.Dcbs.{dcb_state, flag, mask_of}
use Rattle.unit_book.specs.Media.{device}
use Rattle.unit_book.specs.Trace.{active, waiting}
use Rattle.unit_book.specs.declared.activity.ActivityPhase.{ActivityPhase}
use Rattle.unit_book.specs.declared.activity.ActivityPhase.TheVariants as phases
use Rattle.unit_book.specs.declared.dcb.DcbState.TheVariants.{Unknown}
use Rattle.unit_book.specs.declared.entry.Entry.{Entry}
use Rattle.unit_world.specs.Parts.{UnitPart, active_state}
use Rattle.unit_world.specs.Sites.{SiteState}
use Rattle.unit_world.specs.declared.active.ActiveState.{ActiveState}
use Rattle.excp_site.specs.Numbers.{active_number, as_bit, count_of, dcb_number, kind_number}
use Rattle.excp_site.specs.Sites.{HasPart, SiteView, number_of}
use Rattle.excp_site.specs.declared.refusal.Refusal.{Refusal}
use Rattle.excp_site.specs.declared.refusal.Refusal.TheVariants.{BadMedium, NoUnit, NoDcb, NothingThere}
use Rattle.excp_site.specs.declared.state.ActiveRequest.{ActiveRequest}
use Rattle.excp_site.specs.declared.state.DcbState.{DcbState}
use Rattle.excp_site.specs.declared.state.Place.{Place}
use Rattle.excp_site.specs.declared.state.UnitState.{UnitState}

-- the device of a book as it is
abbrev pub device_now : Book AnyDevice → AnyDevice
device_now b = device any_device b.mounted b.trace

-- how many lines a printer printed
abbrev pub printed_by : AnyDevice → ℕ
printed_by (Printer printer) = length printer.printed
printed_by _ = 0

-- the active request, and what it waits for: its number, its task and the number of its state, or 0
abbrev pub active_shown : Book AnyDevice → Option (Name × ActiveState)
active_shown b = option_map (λ name. (name, active_state any_device b)) (active b.trace)

abbrev pub number_active : SiteView → ℕ → Option (Name × ActiveState) → ℕ
number_active s unit None = 0
number_active s unit (Some active) = number_of s unit active.0

abbrev pub task_active : Option (Name × ActiveState) → ℕ
task_active None = 0
task_active (Some active) = active.0.task

abbrev pub state_active : Option (Name × ActiveState) → ℕ
state_active None = 0
state_active (Some active) = active_number active.1

-- A UNIT AS IT IS
pub record ShowsUnit (s : SiteView) (unit : ℕ) (p : UnitPart AnyDevice) (u : UnitState) : Type 0 where
  pub kind : u.kind ≡ kind_number (any_device.kind (device_now p.book))
  pub active_number_is : u.active_number ≡ number_active s unit (active_shown p.book)
  pub active_task : u.active_task ≡ task_active (active_shown p.book)
  pub active_is : u.active ≡ state_active (active_shown p.book)
  pub in_flight : u.in_flight ≡ count_of (length p.flight)
  pub in_flight_room : u.in_flight_room ≡ count_of (p.intake_room - length p.flight)
  pub waiting_is : u.waiting ≡ count_of (length (waiting p.book.trace))
  pub out : u.out ≡ count_of (length p.book.out)
  pub has_room : (u.has_room ≡ 1) ↔ (occupancy p.book < p.book.capacity)
  pub has_room_bit : u.has_room ≤ 1
  pub printed : u.printed ≡ count_of (printed_by (device_now p.book))

abbrev pub LookRefused : SiteState AnyDevice → ℕ → Refusal → Type 0
LookRefused s unit NoUnit = length s.units ≤ unit
LookRefused s unit _ = ⊥

-- THE ACTIVE REQUEST: its number, how often it was started, and the address of its next CCW if its program runs, or 0
abbrev pub next_ccw : ActivityPhase → ℕ
next_ccw (phases.Running place) = place.next
next_ccw (phases.Pending status) = 0
next_ccw (phases.AwaitsRestart status) = 0

abbrev pub active_request : SiteView → ℕ → Piece → ℕ → ActivityPhase → ActiveRequest
active_request s unit piece starts phase =
    record { number = number_of s unit piece.name; next = next_ccw phase; attempt = starts; task = piece.name.task; dcb = piece.dcb }

pub record ShowsActive (s : SiteView) (unit : ℕ) (p : UnitPart AnyDevice) (a : ActiveRequest) : Type 0 where
  pub piece : Piece
  pub starts : ℕ
  pub halted : Bool
  pub covered : Bool
  pub phase : ActivityPhase
  pub is : IsActivity any_device p.book piece starts halted covered phase
  pub shown : a ≡ active_request s unit piece starts phase

abbrev pub ActiveRefused : SiteState AnyDevice → ℕ → Refusal → Type 0
ActiveRefused s unit NoUnit = length s.units ≤ unit
ActiveRefused s unit NothingThere = HasPart s unit (λ p. active p.book.trace ≡ None)
ActiveRefused s unit _ = ⊥

-- WHERE A DEVICE IS on its medium: the track under the heads of a disk
pub record IsTrackUnder (disk : DiskState) (cylinder head : ℕ) : Type 0 where
  pub cylinder_is : 1 ≤ disk.heads → cylinder ≡ min (disk.track / disk.heads) 65_535
  pub head_is : 1 ≤ disk.heads → head ≡ min (disk.track % disk.heads) 65_535

-- the item at the head of a tape, and where the next line of a printer goes
abbrev pub IsPlace : AnyDevice → Place → Type 0
IsPlace (Disk disk) at =
    IsTrackUnder disk at.cylinder at.head × (at ≡ record { items = 0; passed = 0; cylinder = at.cylinder; head = at.head; page = 0; line = 0 })
IsPlace (Tape tape) at =
    at ≡ record { items = count_of (length tape.reel.items); passed = count_of tape.place; cylinder = 0; head = 0; page = 0; line = 0 }
IsPlace (Printer printer) at = at ≡ record { items = 0; passed = 0; cylinder = 0; head = 0; page = printer.at.page; line = printer.at.line }

-- A DCB AS IT IS
pub record ShowsDcb (p : UnitPart AnyDevice) (dcb : ℕ) (d : DcbState) : Type 0 where
  pub known : dcb_state dcb p.book.trace ≢ Unknown
  pub state : d.state ≡ dcb_number (dcb_state dcb p.book.trace)
  pub in_error : d.in_error ≡ as_bit (flag dcb p.book.trace)
  pub file_mask : d.file_mask ≡ mask_of dcb p.book.trace

abbrev pub DcbLookRefused : SiteState AnyDevice → ℕ → ℕ → Refusal → Type 0
DcbLookRefused s unit dcb NoUnit = length s.units ≤ unit
DcbLookRefused s unit dcb NoDcb = HasPart s unit (λ p. dcb_state dcb p.book.trace ≡ Unknown)
DcbLookRefused s unit dcb _ = ⊥

-- WHAT WAITS AT A PLACE
abbrev pub WaitsAt : UnitPart AnyDevice → ℕ → Name → Type 0
WaitsAt p place name = option_map (λ r. r.name) (slice_get (waiting p.book.trace) place) ≡ Some name

abbrev pub WaitingRefused : SiteState AnyDevice → ℕ → ℕ → Refusal → Type 0
WaitingRefused s unit place NoUnit = length s.units ≤ unit
WaitingRefused s unit place NothingThere = HasPart s unit (λ p. option_map (λ r. r.name) (slice_get (waiting p.book.trace) place) ≡ None)
WaitingRefused s unit place _ = ⊥

-- THE ENTRY AT A PLACE of a trace, whose definitions have the newest first
abbrev pub oldest_first : Book AnyDevice → List Entry
oldest_first b = reverse b.trace

abbrev pub TraceAt : UnitPart AnyDevice → ℕ → Option Entry → Type 0
TraceAt p place entry = slice_get (oldest_first p.book) place ≡ entry

abbrev pub EntryRefused : SiteState AnyDevice → ℕ → ℕ → Refusal → Type 0
EntryRefused s unit place NoUnit = length s.units ≤ unit
EntryRefused s unit place NothingThere = HasPart s unit (λ p. TraceAt p place None)
EntryRefused s unit place _ = ⊥

-- THE RECORD AT A PLACE of a track of a disk
abbrev pub RecordAt : AnyDevice → ℕ → ℕ → ℕ → Option Record → Type 0
RecordAt (Disk disk) cylinder head place r = slice_get (records_of disk cylinder head) place ≡ r
RecordAt _ cylinder head place r = ⊥

abbrev pub has_disk : AnyDevice → Bool
has_disk (Disk disk) = true
has_disk _ = false

abbrev pub RecordRefused : SiteState AnyDevice → ℕ → ℕ → ℕ → ℕ → Refusal → Type 0
RecordRefused s unit cylinder head place NoUnit = length s.units ≤ unit
RecordRefused s unit cylinder head place BadMedium = HasPart s unit (λ p. has_disk (device_now p.book) ≡ false)
RecordRefused s unit cylinder head place NothingThere = HasPart s unit (λ p. RecordAt (device_now p.book) cylinder head place None)
RecordRefused s unit cylinder head place _ = ⊥

-- THE ITEM AT A PLACE of a tape
abbrev pub ItemAt : AnyDevice → ℕ → Option Item → Type 0
ItemAt (Tape tape) place i = slice_get tape.reel.items place ≡ i
ItemAt _ place i = ⊥

abbrev pub has_tape : AnyDevice → Bool
has_tape (Tape tape) = true
has_tape _ = false

abbrev pub ItemRefused : SiteState AnyDevice → ℕ → ℕ → Refusal → Type 0
ItemRefused s unit place NoUnit = length s.units ≤ unit
ItemRefused s unit place BadMedium = HasPart s unit (λ p. has_tape (device_now p.book) ≡ false)
ItemRefused s unit place NothingThere = HasPart s unit (λ p. ItemAt (device_now p.book) place None)
ItemRefused s unit place _ = ⊥

-- THE LINE AT A PLACE of what a printer printed
abbrev pub LineAt : AnyDevice → ℕ → Option Line → Type 0
LineAt (Printer printer) place l = slice_get printer.printed place ≡ l
LineAt _ place l = ⊥

abbrev pub has_printer : AnyDevice → Bool
has_printer (Printer printer) = true
has_printer _ = false

abbrev pub LineRefused : SiteState AnyDevice → ℕ → ℕ → Refusal → Type 0
LineRefused s unit place NoUnit = length s.units ≤ unit
LineRefused s unit place BadMedium = HasPart s unit (λ p. has_printer (device_now p.book) ≡ false)
LineRefused s unit place NothingThere = HasPart s unit (λ p. LineAt (device_now p.book) place None)
LineRefused s unit place _ = ⊥
