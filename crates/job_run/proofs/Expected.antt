-- The slots of a task at a unit are those of its EXCPs to the unit, in order.
use Rattle.std.proofs.Common.{◌≡◌, ◌≢◌, ◌<◌, ◌==◌, ℕ, Bool, true, false, if◌then◌else◌, List, [], ◌∷◌, ◌++◌, length, map, refl, sym, ap, ◌∙◌, arith, append_assoc, append-nil}
use Rattle.std.proofs.lemmas.Bool.{eqb-true}
use Rattle.std.proofs.lemmas.Bool.Decides.{nat_tests}
use Rattle.job_script.specs.declared.command.Action.{Action}
use Rattle.job_script.specs.declared.command.Action.TheVariants.{Excp, Purge, PurgeTask, Close, Reset, Wait}
use Rattle.job_script.specs.declared.command.ScriptCommand.{ScriptCommand}
use Rattle.job_script.specs.declared.command.Excp.{Excp as OneExcp}
use Rattle.job_script.specs.Said.{ExcpSaid}
use Rattle.job_script.specs.Views.{action_said, command_said, excp_said}
use Rattle.post_lines.specs.Slots.{SlotState, expected}
use Rattle.job_run.specs.Filling.{expects}
use Rattle.job_run.specs.Requests.{excp_to, excps}
use Rattle.job_run.specs.Sending.{does_all}
use Rattle.job_run.proofs.Held.{slot_for}
use Rattle.job_run.proofs.Places.{at, changed_in, changed_length, changed_other}

-- the slots of these EXCPs come after those that are there
abbrev grown : List SlotState → List ExcpSaid → List SlotState
grown before es = before ++ map slot_for es

excp_by : (u : ℕ) (e : OneExcp) (slots : List (List SlotState)) (rest : List ExcpSaid) → u < length slots →
    (b : Bool) → (e.dcb.unit == u) ≡ b →
    grown (at (expected e.dcb.unit e.show e.len slots) u) rest ≡ grown (at slots u) ((if b then excp_said e ∷ [] else []) ++ rest)
excp_by u e slots rest within true same =
    let is : e.dcb.unit ≡ u = eqb-true e.dcb.unit u same in
    let one : List SlotState = slot_for (excp_said e) ∷ [] in
    ap (λ (k : ℕ). grown (at (expected k e.show e.len slots) u) rest) is
    ∙ ap (λ (l : List SlotState). grown l rest) (changed_in (λ (l : List SlotState). l ++ one) u slots within)
    ∙ append_assoc (at slots u) one (map slot_for rest)
excp_by u e slots rest within false other =
    let apart : u ≢ e.dcb.unit = grind (arith, nat_tests, other) in
    ap (λ (l : List SlotState). grown l rest)
    (changed_other (λ (l : List SlotState). l ++ slot_for (excp_said e) ∷ []) e.dcb.unit u slots apart)

expects_to : (u : ℕ) (a : Action) (slots : List (List SlotState)) (rest : List ExcpSaid) → u < length slots →
    grown (at (expects a slots) u) rest ≡ grown (at slots u) (excp_to u (action_said a) ++ rest)
expects_to u (Excp e) slots rest within = excp_by u e slots rest within (e.dcb.unit == u) refl
expects_to u (Purge dcb mode) slots rest within = refl
expects_to u (PurgeTask n mode) slots rest within = refl
expects_to u (Close dcb) slots rest within = refl
expects_to u (Reset dcb) slots rest within = refl
expects_to u Wait slots rest within = refl

expects_keep : (a : Action) (slots : List (List SlotState)) → length (expects a slots) ≡ length slots
expects_keep (Excp e) slots = changed_length (λ (l : List SlotState). l ++ slot_for (excp_said e) ∷ []) e.dcb.unit slots
expects_keep (Purge dcb mode) slots = refl
expects_keep (PurgeTask n mode) slots = refl
expects_keep (Close dcb) slots = refl
expects_keep (Reset dcb) slots = refl
expects_keep Wait slots = refl

one_by : (u : ℕ) (b : Bool) (c : ScriptCommand) (slots : List (List SlotState)) (rest : List ExcpSaid) → u < length slots →
    grown (at (if b then expects c.action slots else slots) u) rest ≡ grown (at slots u) ((if b then excp_to u (action_said c.action) else []) ++ rest)
one_by u true c slots rest within = expects_to u c.action slots rest within
one_by u false c slots rest within = refl

keep_by : (b : Bool) (c : ScriptCommand) (slots : List (List SlotState)) →
    length (if b then expects c.action slots else slots) ≡ length slots
keep_by true c slots = expects_keep c.action slots
keep_by false c slots = refl

pub expects_at : (task u : ℕ) (commands : List ScriptCommand) (slots : List (List SlotState)) → u < length slots →
    at (does_all expects task commands slots) u ≡ grown (at slots u) (excps task u (map command_said commands))
unfolding does_all excps
expects_at task u [] slots within = sym (append-nil (at slots u))
expects_at task u (c ∷ others) slots within =
    let b : Bool = c.task == task in
    let next : List (List SlotState) = if b then expects c.action slots else slots in
    let size : length next ≡ length slots = keep_by b c slots in
    expects_at task u others next (omega (arith, size, within)) ∙ one_by u b c slots (excps task u (map command_said others)) within

pub expects_length : (task : ℕ) (commands : List ScriptCommand) (slots : List (List SlotState)) →
    length (does_all expects task commands slots) ≡ length slots
unfolding does_all
expects_length task [] slots = refl
expects_length task (c ∷ others) slots =
    let b : Bool = c.task == task in
    expects_length task others (if b then expects c.action slots else slots) ∙ keep_by b c slots
