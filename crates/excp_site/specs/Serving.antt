-- WHAT SERVING A UNIT LEAVES (profile).
use Rattle.std.specs.Prelude.{◌≡◌, ◌≢◌, ◌≤◌, ◌<◌, ◌⊎◌, ◌+◌, ◌-◌, ℕ, Bool, true, false, [], length}
use Rattle.any_device.specs.Devices.{any_device}
use Rattle.any_device.specs.declared.device.AnyDevice.{AnyDevice}
use Rattle.request_piece.specs.declared.piece.Name.{Name}
use Rattle.unit_book.specs.Steps.{StepsBook}
use Rattle.unit_book.specs.declared.step.UnitAnswer.{UnitAnswer}
use Rattle.unit_book.specs.declared.step.UnitAnswer.TheVariants as answer
use Rattle.unit_book.specs.declared.step.UnitStep.{UnitStep}
use Rattle.unit_book.specs.declared.step.UnitStep.TheVariants as step
use Rattle.unit_book.specs.Book.{occupancy}
use Rattle.unit_book.specs.Refusals.{SettleLacks}
use Rattle.unit_book.specs.Settle.{IsIdle}
use Rattle.unit_book.specs.declared.answer.Delivery.{Delivery}
use Rattle.unit_book.specs.declared.answer.Delivery.TheVariants as delivery
use Rattle.unit_book.specs.declared.answer.Intake.{Intake}
use Rattle.unit_book.specs.declared.answer.Intake.TheVariants as intake
use Rattle.unit_book.specs.declared.answer.Interruption.TheVariants as interruption
use Rattle.unit_book.specs.declared.answer.Running.TheVariants as running
use Rattle.unit_book.specs.declared.answer.Starting.TheVariants as starting
use Rattle.unit_world.specs.Parts.{UnitPart, IsFinishedPart, PartTakes}
use Rattle.unit_world.specs.PostLists.{list_of}
use Rattle.unit_world.specs.Sites.{SiteState, DeliversAs, IsFirstOut, OnBook, OnPart, OnUnit, SettlesBook}
use Rattle.excp_site.specs.Numbers.{end_number}
use Rattle.excp_site.specs.Sites.{HasPart}
use Rattle.excp_site.specs.declared.refusal.Refusal.{Refusal}
use Rattle.excp_site.specs.declared.refusal.Refusal.TheVariants.{NoMemory, BadNumber, NoUnit}
use Rattle.excp_site.specs.declared.served.Served.{Served}
use Rattle.excp_site.specs.declared.served.ServedEnd.{ServedEnd}
use Rattle.excp_site.specs.declared.served.ServedEnd.TheVariants as ended

-- the first post that is out cannot be delivered, since the row of its task is full
pub record IsHeldUp (s : SiteState AnyDevice) (unit : ℕ) : Type 0 where
  pub name : Name
  pub out : IsFirstOut s unit name
  pub full : s.post_room ≤ length (list_of s.rows name.task)

-- A UNIT STANDS STILL: nothing waits or is active, and what is in flight finds no room
pub record IsStill (p : UnitPart AnyDevice) : Type 0 where
  pub idle : IsIdle p.book.trace
  pub flight : (p.flight ≡ []) ⊎ (p.book.capacity ≤ occupancy p.book)

-- NOTHING IS LEFT TO DO at a unit: nothing is in flight, waits, is active or is out
pub record IsServed (s : SiteState AnyDevice) (unit : ℕ) : Type 0 where
  pub finished : OnPart s unit IsFinishedPart
  pub out : OnPart s unit (λ p. p.book.out ≡ [])

-- how many posts a delivery sends back, and how many commands a step does
abbrev pub posts_sent : Delivery → ℕ
posts_sent (delivery.Delivered name) = 1
posts_sent _ = 0

abbrev pub commands_done : UnitAnswer → ℕ
commands_done (answer.Ran (running.Ran commands pending)) = commands
commands_done _ = 0

-- a step that serving makes
abbrev pub is_of_serving : UnitStep → Bool
is_of_serving (step.Control c) = false
is_of_serving _ = true

-- the answer of a step of serving that changed nothing
abbrev pub changed_nothing : UnitAnswer → Bool
changed_nothing (answer.Started starting.Busy) = true
changed_nothing (answer.Started starting.Idle) = true
changed_nothing (answer.Ran running.Quiet) = true
changed_nothing (answer.Interrupted interruption.Quiet) = true
changed_nothing _ = false

-- WHAT SERVING DOES: takes, starts, runs, interruptions and deliveries of a unit, one after another, with the sums of the posts that
-- they sent back and of the commands that they did
pub data Serves (old : SiteState AnyDevice) (unit : ℕ) : ℕ → ℕ → SiteState AnyDevice → Type 0 where
  Begins : Serves old unit 0 0 old
  Takes : {posts commands : ℕ} {mid new : SiteState AnyDevice} → Serves old unit posts commands mid →
      (answer : Intake) → OnUnit mid unit (λ p q. PartTakes any_device p answer q) new → Serves old unit posts commands new
  Steps : {posts commands : ℕ} {mid new : SiteState AnyDevice} → Serves old unit posts commands mid → (t : UnitStep) (a : UnitAnswer) →
      is_of_serving t ≡ true → OnBook mid unit (λ b c. StepsBook any_device b t a c) new → Serves old unit posts (commands + commands_done a) new
  Delivers : {posts commands : ℕ} {mid new : SiteState AnyDevice} → Serves old unit posts commands mid →
      (answer : Delivery) → DeliversAs mid unit answer new → Serves old unit (posts + posts_sent answer) commands new

-- WHY IT ENDS: nothing is left, nothing can be done but for a row that is full, or as many commands were done as may be
abbrev pub EndsServe : SiteState AnyDevice → ℕ → ℕ → ServedEnd → Type 0
EndsServe s unit left ended.All = IsServed s unit
EndsServe s unit left ended.RowFull = IsHeldUp s unit × OnPart s unit IsStill
EndsServe s unit left ended.Commands = left ≡ 0

-- A UNIT IS SERVED, for at most `max` commands
pub record IsServedFor (old : SiteState AnyDevice) (unit max : ℕ) (served : Served) (new : SiteState AnyDevice) : Type 0 where
  pub there : unit < length old.units
  pub some : 1 ≤ max
  pub serves : Serves old unit served.posts served.commands new
  pub most : served.commands ≤ max
  pub end : ServedEnd
  pub ended_is : served.ended ≡ end_number end
  pub ends : EndsServe new unit (max - served.commands) end

-- memory ran out in the midst
pub record StopsServing (old : SiteState AnyDevice) (unit max : ℕ) (new : SiteState AnyDevice) : Type 0 where
  pub posts : ℕ
  pub commands : ℕ
  pub serves : Serves old unit posts commands new
  pub most : commands ≤ max

-- WHY IT IS REFUSED
abbrev pub ServeRefused : SiteState AnyDevice → ℕ → ℕ → SiteState AnyDevice → Refusal → Type 0
ServeRefused old unit max new NoUnit = (length old.units ≤ unit) × (new ≡ old)
ServeRefused old unit max new BadNumber = (unit < length old.units) × (max ≡ 0) × (new ≡ old)
ServeRefused old unit max new NoMemory = (unit < length old.units) × (1 ≤ max) × StopsServing old unit max new
ServeRefused old unit max new _ = ⊥

-- A unit is settled, if there is one
abbrev pub HasSettled : SiteState AnyDevice → ℕ → SiteState AnyDevice → Type 0
HasSettled old unit new = unit < length old.units → OnBook old unit (λ b c. SettlesBook any_device b c) new

abbrev pub SettleRefused : SiteState AnyDevice → ℕ → SiteState AnyDevice → Refusal → Type 0
SettleRefused old unit new NoUnit = (length old.units ≤ unit) × (new ≡ old)
SettleRefused old unit new NoMemory = HasPart new unit (λ p. SettleLacks any_device p.book)
SettleRefused old unit new _ = ⊥

-- what a delivery left
abbrev pub OnDelivery : SiteState AnyDevice → ℕ → Delivery → Type 0
OnDelivery s unit delivery.Quiet = OnPart s unit (λ p. p.book.out ≡ [])
OnDelivery s unit (delivery.Delivered name) = Unit {0}
OnDelivery s unit (delivery.Full name) = IsHeldUp s unit

-- these events changed nothing
pub record IsQuiet (taken : Intake) (started ran interrupted : UnitAnswer) (delivered : Delivery) : Type 0 where
  pub takes_none : (name : Name) → taken ≢ intake.Took name
  pub starts_none : changed_nothing started ≡ true
  pub runs_none : changed_nothing ran ≡ true
  pub interrupts_none : changed_nothing interrupted ≡ true
  pub delivers_none : (name : Name) → delivered ≢ delivery.Delivered name
