-- WHEN A CALL OF A SITE IS REFUSED (profile).
use Rattle.std.specs.Prelude.{◌≡◌, ◌≢◌, ◌≤◌, ◌<◌, ◌%◌, ℕ, List, [], length}
use Rattle.io_images.specs.declared.extent.Extent.{Extent}
use Rattle.device_port.specs.declared.device.MountError.{MountError}
use Rattle.device_port.specs.declared.device.MountError.TheVariants as mounting
use Rattle.io_area.specs.declared.error.AreaError.{AreaError}
use Rattle.io_area.specs.declared.error.AreaError.TheVariants as areas
use Rattle.request_piece.specs.declared.error.RequestError.{RequestError}
use Rattle.request_piece.specs.declared.error.RequestError.TheVariants as requests
use Rattle.request_piece.specs.declared.scope.Scope.TheVariants.{Task}
use Rattle.unit_book.specs.declared.answer.OpenError.{OpenError}
use Rattle.unit_book.specs.declared.answer.OpenError.TheVariants as openings
use Rattle.unit_book.specs.declared.answer.DcbError.{DcbError}
use Rattle.unit_book.specs.declared.answer.DcbError.TheVariants as dcbs
use Rattle.any_device.specs.declared.device.AnyDevice.{AnyDevice}
use Rattle.any_device.specs.Devices.{any_device}
use Rattle.unit_book.specs.Answers.{OpenRefused}
use Rattle.unit_book.specs.Book.{Book}
use Rattle.unit_book.specs.Steps.{IsStep, StepLacks, StepRefused}
use Rattle.unit_book.specs.declared.control.Control.TheVariants as control
use Rattle.unit_book.specs.declared.step.UnitStep.{UnitStep}
use Rattle.unit_book.specs.declared.step.UnitStep.TheVariants as step
use Rattle.unit_world.specs.PostLists.{list_of}
use Rattle.unit_world.specs.Parts.{GrowsSpare}
use Rattle.unit_world.specs.Sites.{SiteState, OnBook}
use Rattle.excp_site.specs.Sites.{HasPart}
use Rattle.excp_site.specs.declared.refusal.Refusal.{Refusal}
use Rattle.excp_site.specs.declared.refusal.Refusal.TheVariants.{NoMemory, BadNumber, NoUnit, NoTask, NoDcb, NoPost, NoRoom, TooManyDcbs, BadGeometry, BadMedium, BadExtent, AreaMisaligned, AreaTooLong, AreaPastTop}
use Rattle.excp_site.specs.declared.refusal.Refusal.TheVariants.{BadIob, BadEcb, BadProgram, WrongDcb}

-- THE REFUSALS OF THE CRATES BELOW
abbrev pub of_area : AreaError → Refusal
of_area areas.Misaligned = AreaMisaligned
of_area areas.TooLong = AreaTooLong
of_area areas.PastTop = AreaPastTop
of_area areas.NoMemory = NoMemory

abbrev pub of_request : RequestError → Refusal
of_request requests.IobPlace = BadIob
of_request requests.EcbPlace = BadEcb
of_request requests.ProgramPlace = BadProgram
of_request requests.DcbMismatch = WrongDcb
of_request requests.NoMemory = NoMemory

abbrev pub of_mount : MountError → Refusal
of_mount mounting.BadGeometry = BadGeometry
of_mount mounting.BadMedium = BadMedium
of_mount mounting.NoMemory = NoMemory

abbrev pub of_open : OpenError → Refusal
of_open openings.TooManyDcbs = TooManyDcbs
of_open openings.BadExtent = BadExtent
of_open openings.NoMemory = NoMemory

abbrev pub of_dcb : DcbError → Refusal
of_dcb dcbs.NoSuchDcb = NoDcb
of_dcb dcbs.NoMemory = NoMemory

-- A CALL OF A UNIT: there is no such unit, or memory ran out, which can be only if it lacks as much
abbrev pub UnitRefused : SiteState AnyDevice → ℕ → (Book AnyDevice → Type 0) → Refusal → Type 0
UnitRefused s unit Lacks NoUnit = length s.units ≤ unit
UnitRefused s unit Lacks NoMemory = HasPart s unit (λ p. Lacks p.book)
UnitRefused s unit Lacks _ = ⊥

-- the task of a step is there, if it is a purge of one
abbrev pub HasTaskOf : SiteState AnyDevice → UnitStep → Type 0
HasTaskOf s (step.Control (control.Purge (Task task) mode)) = task < length s.rows
HasTaskOf s _ = Unit {0}

-- a step whose numbers are in range
abbrev pub HasNumbersOf : SiteState AnyDevice → UnitStep → Type 0
HasNumbersOf s t = IsStep t × HasTaskOf s t

-- a run of no command, or a purge of a task that is not there
abbrev pub NumbersRefused : SiteState AnyDevice → UnitStep → Refusal → Type 0
NumbersRefused s (step.Run max) e = (e ≡ BadNumber) × (max ≡ 0)
NumbersRefused s (step.Control (control.Purge (Task task) mode)) e = (e ≡ NoTask) × (length s.rows ≤ task)
NumbersRefused s t e = ⊥

-- A STEP: there is no such unit, or a number of the step is wrong, or the book refuses it
abbrev pub StepCallRefused : SiteState AnyDevice → ℕ → UnitStep → Refusal → Type 0
StepCallRefused s unit t NoUnit = length s.units ≤ unit
StepCallRefused s unit t BadNumber = (unit < length s.units) × NumbersRefused s t BadNumber
StepCallRefused s unit t NoTask = (unit < length s.units) × NumbersRefused s t NoTask
StepCallRefused s unit t NoDcb = HasNumbersOf s t × HasPart s unit (λ p. StepRefused p.book t dcbs.NoSuchDcb)
StepCallRefused s unit t NoMemory =
    HasNumbersOf s t × HasPart s unit (λ p. StepRefused p.book t dcbs.NoMemory × StepLacks any_device p.book t)
StepCallRefused s unit t _ = ⊥

-- A POST THAT IS NOT GIVEN: there is no such task, or none was delivered to it
abbrev pub PostRefused : SiteState AnyDevice → ℕ → Refusal → Type 0
PostRefused s task NoTask = length s.rows ≤ task
PostRefused s task NoPost = (task < length s.rows) × (list_of s.rows task ≡ [])
PostRefused s task _ = ⊥

-- AN OPEN: or it is refused as the book of the unit says
abbrev pub OpenCallRefused : SiteState AnyDevice → ℕ → List Extent → Refusal → Type 0
OpenCallRefused s unit extents NoUnit = length s.units ≤ unit
OpenCallRefused s unit extents TooManyDcbs = HasPart s unit (λ p. OpenRefused any_device p.book extents openings.TooManyDcbs)
OpenCallRefused s unit extents BadExtent = HasPart s unit (λ p. OpenRefused any_device p.book extents openings.BadExtent)
OpenCallRefused s unit extents NoMemory = HasPart s unit (λ p. OpenRefused any_device p.book extents openings.NoMemory)
OpenCallRefused s unit extents _ = ⊥

-- what it leaves: more room for entries, if there is such a unit
abbrev pub OpenCallLeaves : SiteState AnyDevice → ℕ → SiteState AnyDevice → Refusal → Type 0
OpenCallLeaves old unit new NoUnit = new ≡ old
OpenCallLeaves old unit new _ = OnBook old unit (λ b c. GrowsSpare b c) new

-- BYTES THAT ARE NO EXTENTS
abbrev pub ExtentsRefused : List ℕ → Refusal → Type 0
ExtentsRefused bytes BadExtent = length bytes % 16 ≢ 0
ExtentsRefused bytes NoMemory = length bytes % 16 ≡ 0
ExtentsRefused bytes _ = ⊥

-- A RECORD THAT IS NOT MADE
abbrev pub MakeRefused : SiteState AnyDevice → ℕ → Refusal → Type 0
MakeRefused s unit NoUnit = length s.units ≤ unit
MakeRefused s unit NoMemory = unit < length s.units
MakeRefused s unit _ = ⊥

-- BYTES THAT ARE NOT THERE
abbrev pub NoRoomFor : ℕ → ℕ → Refusal → Type 0
NoRoomFor wanted there NoRoom = there < wanted
NoRoomFor wanted there _ = ⊥
