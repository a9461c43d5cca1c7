-- WHAT A CALL DID: what the call of the site does (excp_site), or why the site refused it.
use Rattle.std.specs.Prelude.{◌≡◌, ◌<◌, ◌⊎◌, ℕ, false, MatchOption, Option, Some, None, List, length, slice_get}
use Rattle.io_area.specs.Storage.{Storage}
use Rattle.io_images.specs.declared.extent.Extent.{Extent}
use Rattle.any_device.specs.Devices.{any_device}
use Rattle.any_device.specs.declared.device.AnyDevice.{AnyDevice}
use Rattle.request_piece.specs.PostedState.{PostedState}
use Rattle.request_piece.specs.declared.piece.Name.{Name}
use Rattle.unit_book.specs.Answers.{OpensBook}
use Rattle.unit_book.specs.Steps.{StepsBook}
use Rattle.unit_book.specs.declared.step.UnitAnswer.{UnitAnswer}
use Rattle.unit_book.specs.declared.step.UnitStep.{UnitStep}
use Rattle.unit_book.specs.declared.answer.Delivery.{Delivery}
use Rattle.unit_book.specs.declared.answer.Intake.{Intake}
use Rattle.unit_book.specs.declared.dcb.ProcessingMethod.{ProcessingMethod}
use Rattle.unit_book.specs.Settle.{IsIdle}
use Rattle.unit_world.specs.Parts.{PartTakes}
use Rattle.unit_world.specs.PostLists.{list_of}
use Rattle.unit_world.specs.Sites.{SiteState, CollectsPost, DeliversAs, OnBook, OnUnit}
use Rattle.excp_site.specs.Media.{IsEmpty}
use Rattle.excp_site.specs.declared.refusal.Refusal.{Refusal}
use Rattle.excp_site.specs.declared.refusal.Refusal.TheVariants.{BadNumber, NoMemory}
use Rattle.excp_site.specs.Serving.{HasSettled}
use Rattle.excp_site.specs.Extents.{extents_in}
use Rattle.excp_site.specs.Reasons.{LeavesReason, has_reason}
use Rattle.excp_site.specs.Refusals.{ExtentsRefused, HasTaskOf, OpenCallLeaves, OpenCallRefused, StepCallRefused}
use Rattle.excp_site.specs.Sites.{AddsUnit, HasPart, IssuesRequest, MakesSite, NewRefused, SiteView, number_of}
use Rattle.excp_c.specs.Answers.{answer_in_c}
use Rattle.excp_c.specs.Statuses.{status_in_c}
use Rattle.excp_c.specs.declared.answer.Answer.{Answer}
use Rattle.excp_c.specs.declared.answer.Event.{Event}
use Rattle.excp_c.specs.declared.handle.Handle.{Handle}
use Rattle.excp_c.specs.declared.handle.TheConstants.{MARK}

-- the site of the handle was s, is t now, and this holds of s and t
abbrev pub DidOn : Option SiteView → Option SiteView → (SiteView → SiteView → Type 0) → Type 0
DidOn (Some s) (Some t) Does = Does s t
DidOn (Some s) None Does = ⊥
DidOn None t Does = ⊥

abbrev pub Did : Handle → Handle → (SiteView → SiteView → Type 0) → Type 0
Did h k Does = DidOn h.slot.value k.slot.value Does

-- the site refused it: its status is that of a reason of which this holds
abbrev pub Refused : Handle → Handle → ℕ → (SiteView → SiteView → Refusal → Type 0) → Type 0
Refused h k status Why = Did h k (λ s t. (e : Refusal) × (status ≡ status_in_c e) × Why s t e)

-- A SITE was made, and it is the handle's
abbrev pub MadeSite : Handle → ℕ → ℕ → Type 0
MadeSite h tasks post_room = (h.mark ≡ MARK) × MatchOption h.slot.value ⊥ (MakesSite tasks post_room)

-- why it was not
abbrev pub NotMade : ℕ → ℕ → ℕ → Type 0
NotMade status tasks post_room = (e : Refusal) × (status ≡ status_in_c e) × NewRefused tasks post_room e

-- an event of the unit was made, and its answer was written out
abbrev pub Made : {A : Type 0} → (A → Event) → ℕ → (SiteView → A → SiteView → Type 0) → Handle → Handle → Answer → Type 0
Made {A} event_of unit Does h k answer = Did h k (λ s t. (a : A) × Does s a t × (answer ≡ answer_in_c t unit (event_of a)))

-- only units and tasks differ
abbrev pub OnlyPlain : SiteView → SiteView → Type 0
OnlyPlain s t = t ≡ record s { plain = t.plain }

-- only the medium of the next unit differs
abbrev pub OnlyMedium : SiteView → SiteView → Type 0
OnlyMedium s t = t ≡ record s { medium = t.medium }

-- only its records differ, or its items, or its faults
abbrev pub OnlyRecords : SiteView → SiteView → Type 0
OnlyRecords s t = (t.medium ≡ record s.medium { records = t.medium.records }) × OnlyMedium s t

abbrev pub OnlyItems : SiteView → SiteView → Type 0
OnlyItems s t = (t.medium ≡ record s.medium { items = t.medium.items }) × OnlyMedium s t

abbrev pub OnlyFaults : SiteView → SiteView → Type 0
OnlyFaults s t = (t.medium ≡ record s.medium { faults = t.medium.faults }) × OnlyMedium s t

-- nothing was put, since there was no memory
abbrev pub PutsNoRecord : SiteView → SiteView → Refusal → Type 0
PutsNoRecord s t e = (e ≡ NoMemory) × (t.medium.records.items ≡ s.medium.records.items) × OnlyRecords s t

abbrev pub PutsNoItem : SiteView → SiteView → Refusal → Type 0
PutsNoItem s t e = (e ≡ NoMemory) × (t.medium.items.items ≡ s.medium.items.items) × OnlyItems s t

abbrev pub PutsNoFault : SiteView → SiteView → Refusal → Type 0
PutsNoFault s t e = (e ≡ NoMemory) × (t.medium.faults.items ≡ s.medium.faults.items) × OnlyFaults s t

-- units and tasks differ, and the bytes that were made last, if the refusal has a reason
abbrev pub LeavesOpened : SiteView → SiteView → Refusal → Type 0
LeavesOpened s t e = (t ≡ record s { plain = t.plain; made = t.made }) × (has_reason e ≡ false → t.made ≡ s.made)

-- a DCB is not opened: its extents are none, or the site says why, and what it leaves; the reason is kept in words
abbrev pub NotOpened : SiteView → SiteView → ℕ → List ℕ → Refusal → Type 0
NotOpened s t unit bytes e = (ExtentsRefused bytes e × LeavesReason s t e)
    ⊎ (OpenCallRefused s.plain unit (extents_in bytes) e × OpenCallLeaves s.plain unit t.plain e × LeavesOpened s t e)

-- THE EVENTS of a unit
abbrev pub SiteTakes : ℕ → SiteView → Intake → SiteView → Type 0
SiteTakes unit s a t = OnUnit s.plain unit (λ p q. PartTakes any_device p a q) t.plain × OnlyPlain s t

-- a step by its numbers
abbrev pub SiteSteps : ℕ → Option UnitStep → SiteView → UnitAnswer → SiteView → Type 0
SiteSteps unit None s a t = ⊥
SiteSteps unit (Some step) s a t =
    OnBook s.plain unit (λ b c. StepsBook any_device b step a c) t.plain × HasTaskOf s.plain step × OnlyPlain s t

-- why it is refused: the numbers are of no step, or the site refuses it
abbrev pub NumberedRefused : SiteState AnyDevice → ℕ → Option UnitStep → Refusal → Type 0
NumberedRefused s unit None e = e ≡ BadNumber
NumberedRefused s unit (Some step) e = StepCallRefused s unit step e

abbrev pub SiteDelivers : ℕ → SiteView → Delivery → SiteView → Type 0
SiteDelivers unit s a t = (unit < length s.plain.units) × DeliversAs s.plain unit a t.plain × OnlyPlain s t

-- A DCB was opened
abbrev pub SiteOpens : ℕ → Option ProcessingMethod → List Extent → ℕ → SiteView → SiteView → Type 0
SiteOpens unit None extents dcb s t = ⊥
SiteOpens unit (Some method) extents dcb s t = OnBook s.plain unit (λ b c. OpensBook any_device b dcb method extents c) t.plain × OnlyPlain s t

-- A UNIT was added, and what was put was used up
abbrev pub Mounts : AnyDevice → ℕ → ℕ → ℕ → SiteView → SiteView → Type 0
Mounts device in_flight held unit s t = AddsUnit s device None in_flight held unit t × IsEmpty t.medium

-- a call was refused, for a reason of which this holds, and which is kept in words
abbrev pub RefusedAs : Handle → Handle → ℕ → (SiteView → Refusal → Type 0) → Type 0
RefusedAs h k status Why = Refused h k status (λ s t e. Why s e × LeavesReason s t e)

-- A REQUEST was issued, and its number was written out
abbrev pub IssuesAs : ℕ → ℕ → ℕ → ℕ → Storage → ℕ → SiteView → SiteView → Type 0
IssuesAs task unit dcb iob area number s t =
    (name : Name) × IssuesRequest s.plain task unit dcb iob area name t.plain × OnlyPlain s t × (number ≡ number_of t unit name)

-- the first post that was delivered to a task
abbrev pub IsFirstPost : SiteView → ℕ → PostedState → Type 0
IsFirstPost s task post = slice_get (list_of s.plain.rows task) 0 ≡ Some post

-- its storage does not fit into this buffer
abbrev pub StorageIsLonger : SiteView → ℕ → ℕ → Type 0
StorageIsLonger s task room = (post : PostedState) × IsFirstPost s task post × (room < length post.area.bytes)

-- A POST was collected
abbrev pub SiteCollects : ℕ → SiteView → SiteView → Type 0
SiteCollects task s t = CollectsPost s.plain task t.plain × OnlyPlain s t

-- A UNIT WAS SETTLED
abbrev pub SiteSettles : ℕ → SiteView → SiteView → Type 0
SiteSettles unit s t = HasSettled s.plain unit t.plain × HasPart t.plain unit (λ p. IsIdle p.book.trace) × OnlyPlain s t
