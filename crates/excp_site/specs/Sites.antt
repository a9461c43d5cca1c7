-- WHAT CONTRACTS SEE OF A SITE, and what its calls do (profile).
use Rattle.std.specs.Prelude.{◌≡◌, ◌≤◌, ◌<◌, ◌⊎◌, ◌+◌, ◌^◌, ◌-◌, ◌&&◌, Bool, IsSome, ℕ, None, Option, Some, List, [], ◌∷◌, ◌++◌, length, min, nat_le, replicate, slice_index_or, true}
use Rattle.io_area.specs.Storage.{Storage}
use Rattle.io_area.specs.AreaFault.{AreaFault, NoAreaFault}
use Rattle.io_area.specs.declared.error.AreaError.TheVariants as areas
use Rattle.any_device.specs.declared.device.AnyDevice.{AnyDevice}
use Rattle.medium_image.specs.declared.image.Kept.{Kept}
use Rattle.request_piece.specs.Requests.{RequestFault, NoFault, request_of}
use Rattle.request_piece.specs.declared.error.RequestError.TheVariants as requests
use Rattle.request_piece.specs.declared.piece.Name.{Name}
use Rattle.unit_book.specs.Book.{opening}
use Rattle.unit_world.specs.Parts.{UnitPart, PartAccepts, next_name_of, opening_part}
use Rattle.unit_world.specs.Sites.{SiteState, OnPart, OnUnit}
use Rattle.excp_site.specs.Media.{IsEmpty}
use Rattle.excp_site.specs.declared.channel.OwnChannel.{OwnChannel}
use Rattle.excp_site.specs.declared.medium.Medium.{Medium}
use Rattle.excp_site.specs.declared.refusal.Refusal.{Refusal}
use Rattle.excp_site.specs.declared.refusal.Refusal.TheVariants.{NoMemory, BadNumber, NoUnit, NoTask, AreaMisaligned, AreaTooLong}
use Rattle.excp_site.specs.declared.refusal.Refusal.TheVariants.{AreaPastTop, BadIob, BadEcb, BadProgram, WrongDcb, Full, NoNumber}

-- the units and tasks; what the medium of the next unit has; how many requests of each task each unit had before its last
-- checkpoint; what the image that a unit came from has beside its medium; the bytes that were made last; and the channels alone,
-- those that were freed as None
pub record SiteView : Type 0 where
  pub plain : SiteState AnyDevice
  pub medium : Medium
  pub earlier : List (List ℕ)
  pub beside : List (Option Kept)
  pub made : List ℕ
  pub channels : List (Option OwnChannel)

-- how many requests a task issued to a unit before its last checkpoint
abbrev pub earlier_of : SiteView → ℕ → ℕ → ℕ
earlier_of s unit task = slice_index_or (slice_index_or s.earlier unit []) task 0

abbrev pub beside_of : SiteView → ℕ → Option Kept
beside_of s unit = slice_index_or s.beside unit None

-- THE NUMBER OF A REQUEST as the caller sees it: numbers go on after a checkpoint, up to 2^64 - 1
abbrev pub number_of : SiteView → ℕ → Name → ℕ
number_of s unit name = min (earlier_of s unit name.task + name.seq) (2 ^ 64 - 1)

-- the unit is there, and this holds of it
abbrev pub HasPart : SiteState AnyDevice → ℕ → (UnitPart AnyDevice → Type 0) → Type 0
HasPart s unit P = (unit < length s.units) × OnPart s unit P

-- WHY A SITE IS NOT MADE: it has no task, or no room for a post
abbrev pub NewRefused : ℕ → ℕ → Refusal → Type 0
NewRefused tasks post_room BadNumber = (tasks ≡ 0) ⊎ (post_room ≡ 0)
NewRefused tasks post_room NoMemory = (1 ≤ tasks) × (1 ≤ post_room)
NewRefused tasks post_room _ = ⊥

-- A SITE IS MADE: it has no units, and nothing was put or made
pub record MakesSite (tasks post_room : ℕ) (s : SiteView) : Type 0 where
  pub some : (1 ≤ tasks) × (1 ≤ post_room)
  pub plain : s.plain ≡ record { units = []; post_room = post_room; rows = replicate tasks [] }
  pub medium : IsEmpty s.medium
  pub earlier : s.earlier ≡ []
  pub beside : s.beside ≡ []
  pub made : s.made ≡ []
  pub channels : s.channels ≡ []

-- how many requests may be in flight to a unit, and how many its book holds
abbrev pub is_room : ℕ → ℕ → Bool
is_room in_flight held = nat_le 1 in_flight && nat_le in_flight 65_536 && nat_le 1 held && nat_le held 65_536

-- A UNIT IS ADDED: one more, with this device and what its image has beside the medium, to which nothing was sent
pub record AddsUnit (old : SiteView) (device : AnyDevice) (beside : Option Kept) (in_flight held unit : ℕ) (new : SiteView) : Type 0 where
  pub number : unit ≡ length old.plain.units
  pub room : is_room in_flight held ≡ true
  pub spare : ℕ
  pub plain : new.plain ≡ record old.plain {
    units = old.plain.units ++ opening_part (record (opening device 0 held) { spare = spare }) (length old.plain.rows) in_flight ∷ [];
  }
  pub earlier : new.earlier ≡ old.earlier ++ replicate (length old.plain.rows) 0 ∷ []
  pub beside_is : new.beside ≡ old.beside ++ beside ∷ []
  pub made : new.made ≡ old.made
  pub channels : new.channels ≡ old.channels

-- A REQUEST IS ISSUED: it is the next of its task at the unit, on this storage, and in flight
pub record IssuesRequest (old : SiteState AnyDevice) (task unit dcb iob : ℕ) (area : Storage) (name : Name) (new : SiteState AnyDevice) : Type 0 where
  pub next : OnPart old unit (λ p. next_name_of p.issued task ≡ Some name)
  pub storage : NoAreaFault area.base (length area.bytes)
  pub request : NoFault dcb iob area
  pub accepts : OnUnit old unit (λ p q. PartAccepts p (request_of name unit dcb iob area) q) new

-- the unit and the task are there; and the storage is one; and the task has a number for the request
abbrev pub HasIssuer : SiteState AnyDevice → ℕ → ℕ → Type 0
HasIssuer s task unit = (unit < length s.units) × (task < length s.rows)

abbrev pub HasStorage : SiteState AnyDevice → ℕ → ℕ → Storage → Type 0
HasStorage s task unit area = HasIssuer s task unit × NoAreaFault area.base (length area.bytes)

abbrev pub HasNumber : SiteState AnyDevice → ℕ → ℕ → Storage → Type 0
HasNumber s task unit area = HasStorage s task unit area × OnPart s unit (λ p. IsSome (next_name_of p.issued task))

-- WHY IT IS NOT, the first reason that applies
abbrev pub IssueCallRefused : SiteState AnyDevice → ℕ → ℕ → ℕ → ℕ → Storage → Refusal → Type 0
IssueCallRefused s task unit dcb iob area NoUnit = length s.units ≤ unit
IssueCallRefused s task unit dcb iob area NoTask = (unit < length s.units) × (length s.rows ≤ task)
IssueCallRefused s task unit dcb iob area AreaMisaligned = HasIssuer s task unit × AreaFault area.base (length area.bytes) areas.Misaligned
IssueCallRefused s task unit dcb iob area AreaTooLong = HasIssuer s task unit × AreaFault area.base (length area.bytes) areas.TooLong
IssueCallRefused s task unit dcb iob area AreaPastTop = HasIssuer s task unit × AreaFault area.base (length area.bytes) areas.PastTop
IssueCallRefused s task unit dcb iob area NoNumber = HasStorage s task unit area × OnPart s unit (λ p. next_name_of p.issued task ≡ None)
IssueCallRefused s task unit dcb iob area BadIob = HasNumber s task unit area × RequestFault dcb iob area requests.IobPlace
IssueCallRefused s task unit dcb iob area BadEcb = HasNumber s task unit area × RequestFault dcb iob area requests.EcbPlace
IssueCallRefused s task unit dcb iob area BadProgram = HasNumber s task unit area × RequestFault dcb iob area requests.ProgramPlace
IssueCallRefused s task unit dcb iob area WrongDcb = HasNumber s task unit area × RequestFault dcb iob area requests.DcbMismatch
IssueCallRefused s task unit dcb iob area Full =
    HasNumber s task unit area × NoFault dcb iob area × OnPart s unit (λ p. p.intake_room ≤ length p.flight)
IssueCallRefused s task unit dcb iob area NoMemory = HasStorage s task unit area
IssueCallRefused s task unit dcb iob area _ = ⊥
