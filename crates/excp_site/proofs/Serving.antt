-- Serving a unit, turn after turn.
use Rattle.std.proofs.Common.{◌≡◌, ◌+◌, ◌-◌, ◌≤◌, ℕ, arith, refl, subst, sym}
use Rattle.any_device.specs.Devices.{any_device}
use Rattle.any_device.specs.declared.device.AnyDevice.{AnyDevice}
use Rattle.unit_book.specs.Book.{Book}
use Rattle.unit_book.specs.Steps.{StepsBook}
use Rattle.unit_book.specs.declared.answer.Delivery.{Delivery}
use Rattle.unit_book.specs.declared.answer.Running.TheVariants as running
use Rattle.unit_book.specs.declared.step.UnitAnswer.{UnitAnswer}
use Rattle.unit_book.specs.declared.step.UnitAnswer.TheVariants as answer
use Rattle.unit_book.specs.declared.step.UnitStep.TheVariants as step
use Rattle.unit_world.specs.Sites.{SiteState, OnBook}
use Rattle.excp_site.specs.Serving.{Serves, Begins, Takes, Steps, Delivers, StopsServing, commands_done, posts_sent}

pub counted : (old : SiteState AnyDevice) (unit posts commands posts' commands' : ℕ) (new : SiteState AnyDevice) → posts ≡ posts' → commands ≡ commands'
    → Serves old unit posts commands new → Serves old unit posts' commands' new
counted old unit posts commands posts' commands' new p c s =
    subst (λ (n : ℕ). Serves old unit posts' n new) c (subst (λ (n : ℕ). Serves old unit n commands new) p s)

-- what is done after what was done
pub and-then : {old mid : SiteState AnyDevice} {unit posts commands : ℕ} → Serves old unit posts commands mid
    → (more also : ℕ) (new : SiteState AnyDevice) → Serves mid unit more also new → Serves old unit (posts + more) (commands + also) new
and-then {old} {mid} {unit} {posts} {commands} s more also new Begins =
    counted old unit posts commands (posts + 0) (commands + 0) mid (omega arith) (omega arith) s
and-then s more also new (Takes {mid = m} t answer did) = Takes (and-then s more also m t) answer did
and-then {old} {mid} {unit} {posts} {commands} s more also new (Steps {commands = n} {mid = m} t u answer serves did) =
    counted old unit (posts + more) (commands + n + commands_done answer) (posts + more) (commands + (n + commands_done answer)) new
    (omega arith) (omega arith) (Steps (and-then s more n m t) u answer serves did)
and-then {old} {mid} {unit} {posts} {commands} s more also new (Delivers {posts = n} {mid = m} t answer did) =
    counted old unit (posts + n + posts_sent answer) (commands + also) (posts + (n + posts_sent answer)) (commands + also) new
    (omega arith) (omega arith) (Delivers (and-then s n also m t) answer did)

-- a run does at most as many commands as it may
of-run : (max : ℕ) (a : UnitAnswer) (b c : Book AnyDevice) → StepsBook any_device b (step.Run max) a c → commands_done a ≤ max
of-run max (answer.Ran running.Quiet) b c did = omega arith
of-run max (answer.Ran (running.Ran commands pending)) b c did = omega (arith, (did.1).count)
of-run max (answer.Started a) b c did = elim did [ ]
of-run max (answer.Interrupted a) b c did = elim did [ ]
of-run max (answer.Controlled a) b c did = elim did [ ]

pub few-commands : (old : SiteState AnyDevice) (unit max : ℕ) (a : UnitAnswer) (new : SiteState AnyDevice)
    → OnBook old unit (λ b c. StepsBook any_device b (step.Run max) a c) new → commands_done a ≤ max
few-commands old unit max a new did = of-run max a did.before.book did.after.book did.does.0

-- no other step of a turn does one
of-start : (a : UnitAnswer) (b c : Book AnyDevice) → StepsBook any_device b step.Start a c → commands_done a ≡ 0
of-start (answer.Started a) b c did = refl
of-start (answer.Ran a) b c did = elim did [ ]
of-start (answer.Interrupted a) b c did = elim did [ ]
of-start (answer.Controlled a) b c did = elim did [ ]

of-interrupt : (a : UnitAnswer) (b c : Book AnyDevice) → StepsBook any_device b step.Interrupt a c → commands_done a ≡ 0
of-interrupt (answer.Interrupted a) b c did = refl
of-interrupt (answer.Started a) b c did = elim did [ ]
of-interrupt (answer.Ran a) b c did = elim did [ ]
of-interrupt (answer.Controlled a) b c did = elim did [ ]

-- a start, a run and an interruption after what was done
pub then-start : {old mid : SiteState AnyDevice} {unit posts commands : ℕ} (a : UnitAnswer) (new : SiteState AnyDevice) →
    Serves old unit posts commands mid → OnBook mid unit (λ b c. StepsBook any_device b step.Start a c) new → Serves old unit posts commands new
then-start {old} {mid} {unit} {posts} {commands} a new s did =
    let none = of-start a did.before.book did.after.book did.does.0 in
    counted old unit posts (commands + commands_done a) posts commands new refl (omega (arith, none)) (Steps s step.Start a refl did)

pub then-run : {old mid : SiteState AnyDevice} {unit posts : ℕ} (max : ℕ) (a : UnitAnswer) (new : SiteState AnyDevice) →
    Serves old unit posts 0 mid → OnBook mid unit (λ b c. StepsBook any_device b (step.Run max) a c) new →
    Serves old unit posts (commands_done a) new
then-run {old} {mid} {unit} {posts} max a new s did =
    counted old unit posts (0 + commands_done a) posts (commands_done a) new refl (omega arith) (Steps s (step.Run max) a refl did)

pub then-interrupt : {old mid : SiteState AnyDevice} {unit posts commands : ℕ} (a : UnitAnswer) (new : SiteState AnyDevice) →
    Serves old unit posts commands mid → OnBook mid unit (λ b c. StepsBook any_device b step.Interrupt a c) new →
    Serves old unit posts commands new
then-interrupt {old} {mid} {unit} {posts} {commands} a new s did =
    let none = of-interrupt a did.before.book did.after.book did.does.0 in
    counted old unit posts (commands + commands_done a) posts commands new refl (omega (arith, none)) (Steps s step.Interrupt a refl did)

-- memory ran out after what was done, and that changed nothing
pub stops : (old : SiteState AnyDevice) (unit max posts commands : ℕ) (mid new : SiteState AnyDevice) → Serves old unit posts commands mid
    → new ≡ mid → commands ≤ max → StopsServing old unit max new
stops old unit max posts commands mid new s same most = record {
  posts = posts;
  commands = commands;
  serves = subst (λ (x : SiteState AnyDevice). Serves old unit posts commands x) (sym same) s;
  most = most;
}

-- what was done, and then a turn
pub turned : (old mid new : SiteState AnyDevice) (unit max left posts more commands : ℕ) (delivery : Delivery) → left ≤ max → commands ≤ left
    → more ≡ posts_sent delivery → Serves old unit posts (max - left) mid → Serves mid unit (posts_sent delivery) commands new
    → Serves old unit (posts + more) (max - (left - commands)) new
turned old mid new unit max left posts more commands delivery most few more-is s t =
    counted old unit (posts + posts_sent delivery) (max - left + commands) (posts + more) (max - (left - commands)) new
    (omega (arith, more-is)) (omega (arith, most, few)) (and-then s (posts_sent delivery) commands new t)

-- and then a turn in which memory ran out
pub stopped : (old mid new : SiteState AnyDevice) (unit max left posts : ℕ) → left ≤ max → Serves old unit posts (max - left) mid
    → StopsServing mid unit left new → StopsServing old unit max new
stopped old mid new unit max left posts most s t = record {
  posts = posts + t.posts;
  commands = max - left + t.commands;
  serves = and-then s t.posts t.commands new t.serves;
  most = omega (arith, most, t.most);
}
