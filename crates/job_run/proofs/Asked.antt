-- What a task has asked of a unit are the controls of its commands there, in order.
use Rattle.std.proofs.Common.{◌≡◌, ◌≢◌, ◌<◌, ◌+◌, ◌==◌, ℕ, zero, suc, Bool, true, false, if◌then◌else◌, ◌≤◌, ◌⊎◌, inl, inr, Result, Ok, Err, OnErr, OnOk, List, [], ◌∷◌, ◌++◌, length, map, refl, sym, subst, ap, ◌∙◌, arith, add-one, append_assoc, append-nil}
use Rattle.std.specs.Result.{result_and}
use Rattle.std.proofs.lemmas.Bool.{eqb-true}
use Rattle.std.proofs.lemmas.Bool.Decides.{nat_tests}
use Rattle.std.proofs.lemmas.List.{get_or-map, get_or-set_other, length-map, length-set}
use Rattle.std.proofs.lemmas.Grind.{get_or-set_at}
use Rattle.std.proofs.lemmas.Result.{on_ok_weaker}
use Rattle.excp_system.specs.Controls.{asked_of, asks}
use Rattle.unit_book.specs.declared.control.Control.{Control}
use Rattle.job_script.specs.declared.command.Action.{Action}
use Rattle.job_script.specs.declared.command.Action.TheVariants.{Excp, Purge, PurgeTask, Close, Reset, Wait}
use Rattle.job_script.specs.declared.command.ScriptCommand.{ScriptCommand}
use Rattle.job_script.specs.Views.{action_said, command_said}
use Rattle.job_run.specs.Controls.{asked_controls, control_to}
use Rattle.job_run.specs.Sending.{AsksSome, asks_each, asks_of, does_all}
use Rattle.job_run.proofs.Sent.{asks_all}
use mathlib.Core.Logic.{dite}
use native.Mathlib.Decide.{ℕ_discrete}

-- what is asked of one unit
one_by : (unit at : ℕ) (c : Control) (asked : List (List Control)) → unit < length asked → (b : Bool) → (at == unit) ≡ b →
    asked_of (asks true at c asked) unit ≡ asked_of asked unit ++ (if b then c ∷ [] else [])
one_by unit at c asked within true same =
    let is : at ≡ unit = eqb-true at unit same in
    get_or-set_at asked at unit (asked_of asked at ++ c ∷ []) [] (sym is) (omega (arith, is, within))
    ∙ ap (λ (k : ℕ). asked_of asked k ++ c ∷ []) is
one_by unit at c asked within false other =
    let apart : unit ≢ at = grind (arith, nat_tests, other) in
    get_or-set_other asked at unit (asked_of asked at ++ c ∷ []) [] apart ∙ sym (append-nil (asked_of asked unit))

-- what an action asks of the unit
asks_to : (unit : ℕ) (a : Action) (asked : List (List Control)) → unit < length asked →
    asked_of (asks_of a asked) unit ≡ asked_of asked unit ++ control_to unit (action_said a)
asks_to unit (Excp e) asked within = sym (append-nil (asked_of asked unit))
asks_to unit (Purge dcb mode) asked within = one_by unit dcb.unit _ asked within (dcb.unit == unit) refl
asks_to unit (PurgeTask n mode) asked within = get_or-map (λ (l : List Control). l ++ _ ∷ []) asked unit [] [] within
asks_to unit (Close dcb) asked within = one_by unit dcb.unit _ asked within (dcb.unit == unit) refl
asks_to unit (Reset dcb) asked within = one_by unit dcb.unit _ asked within (dcb.unit == unit) refl
asks_to unit Wait asked within = sym (append-nil (asked_of asked unit))

asks_keep : (a : Action) (asked : List (List Control)) → length (asks_of a asked) ≡ length asked
asks_keep (Excp e) asked = refl
asks_keep (Purge dcb mode) asked = length-set asked dcb.unit _
asks_keep (PurgeTask n mode) asked = length-map asked _
asks_keep (Close dcb) asked = length-set asked dcb.unit _
asks_keep (Reset dcb) asked = length-set asked dcb.unit _
asks_keep Wait asked = refl

own_by : (unit : ℕ) (b : Bool) (c : ScriptCommand) (asked : List (List Control)) → unit < length asked →
    asked_of (if b then asks_of c.action asked else asked) unit
    ≡ asked_of asked unit ++ (if b then control_to unit (action_said c.action) else [])
own_by unit true c asked within = asks_to unit c.action asked within
own_by unit false c asked within = sym (append-nil (asked_of asked unit))

keep_by : (b : Bool) (c : ScriptCommand) (asked : List (List Control)) → length (if b then asks_of c.action asked else asked) ≡ length asked
keep_by true c asked = asks_keep c.action asked
keep_by false c asked = refl

-- WHAT A TASK ASKS of a unit: the controls of its commands there, after what it had asked
pub asks_controls : (task unit : ℕ) (commands : List ScriptCommand) (asked : List (List Control)) → unit < length asked →
    asked_of (asks_all task commands asked) unit ≡ asked_of asked unit ++ asked_controls task unit (map command_said commands)
unfolding does_all asked_controls
asks_controls task unit [] asked within = sym (append-nil (asked_of asked unit))
asks_controls task unit (c ∷ others) asked within =
    let b : Bool = c.task == task in
    let next : List (List Control) = if b then asks_of c.action asked else asked in
    let size : length next ≡ length asked = keep_by b c asked in
    let own : List Control = if b then control_to unit (action_said c.action) else [] in
    let rest : List Control = asked_controls task unit (map command_said others) in
    asks_controls task unit others next (omega (arith, size, within))
    ∙ ap (λ (l : List Control). l ++ rest) (own_by unit b c asked within) ∙ append_assoc (asked_of asked unit) own rest

-- the first n units were asked a control
abbrev pub asks_first : ℕ → Control → List (List Control) → List (List Control)
asks_first zero c asked = asked
asks_first (suc n) c [] = []
asks_first (suc n) c (l ∷ ls) = (l ++ c ∷ []) ∷ asks_first n c ls

-- one unit more
pub first_more : (n : ℕ) (c : Control) (asked : List (List Control)) → n < length asked →
    asks true n c (asks_first n c asked) ≡ asks_first (suc n) c asked
first_more n c [] within = absurd (omega (arith, within))
first_more zero c (l ∷ ls) within = refl
first_more (suc n) c (l ∷ ls) within = ap (λ (x : List (List Control)). (l ++ c ∷ []) ∷ x) (first_more n c ls (omega (arith, within)))

-- all units
pub first_all : (n : ℕ) (c : Control) (asked : List (List Control)) → length asked ≡ n → asks_first n c asked ≡ asks_each c asked
first_all zero c [] all = refl
first_all zero c (l ∷ ls) all = absurd (omega (arith, all))
first_all (suc n) c [] all = refl
first_all (suc n) c (l ∷ ls) all = ap (λ (x : List (List Control)). (l ++ c ∷ []) ∷ x) (first_all n c ls (omega (arith, all)))

-- one unit more, if memory ran out neither before nor now
pub first_and : {A B E : Type 0} (n : ℕ) (c : Control) (old now new : List (List Control)) (before : Result A E) (here after : Result B E) →
    after ≡ result_and before here → n < length old → OnOk before (now ≡ asks_first n c old) → OnOk here (new ≡ asks true n c now) →
    OnOk after (new ≡ asks_first (n + 1) c old)
first_and n c old now new (Ok x) here after is within first one =
    subst (λ r. OnOk r (new ≡ asks_first (n + 1) c old)) (sym is)
    (on_ok_weaker here
    (λ (e : new ≡ asks true n c now). e ∙ ap (asks true n c) first ∙ first_more n c old within
    ∙ ap (λ (k : ℕ). asks_first k c old) (sym (add-one n))) one)
first_and n c old now new (Err x) here after is within first one = subst (λ r. OnOk r (new ≡ asks_first (n + 1) c old)) (sym is) tt

-- SOME OF THE FIRST n UNITS were asked a control, of each once at most, and no other unit
pub record AsksSomeFirst (n : ℕ) (c : Control) (old new : List (List Control)) : Type 0 where
  pub some : AsksSome c old new
  pub others : (unit : ℕ) → n ≤ unit → asked_of new unit ≡ asked_of old unit

pub some_none : (c : Control) (asked : List (List Control)) → AsksSomeFirst 0 c asked asked
some_none c asked = record { some = record { count = refl; each = λ unit. inl refl }; others = λ unit after. refl }

-- the unit n is not asked
some_stays : (n : ℕ) (c : Control) (old new : List (List Control)) → AsksSomeFirst n c old new → AsksSomeFirst (n + 1) c old new
some_stays n c old new s = record { some = s.some; others = λ unit after. s.others unit (omega (arith, after)) }

-- or it is
some_more : (n : ℕ) (c : Control) (old now : List (List Control)) → n < length old → AsksSomeFirst n c old now →
    AsksSomeFirst (n + 1) c old (asks true n c now)
some_more n c old now within s =
    let here : n < length now = omega (arith, within, s.some.count) in
    let apart : (unit : ℕ) → unit ≢ n → asked_of (asks true n c now) unit ≡ asked_of now unit =
    λ unit ne. get_or-set_other now n unit (asked_of now n ++ c ∷ []) [] ne in
    record {
      some = record {
        count = length-set now n (asked_of now n ++ c ∷ []) ∙ s.some.count;
        each = λ unit. dite (ℕ_discrete unit n)
            (λ e. inr (get_or-set_at now n unit (asked_of now n ++ c ∷ []) [] e here
            ∙ ap (λ (l : List Control). l ++ c ∷ []) (s.others n (omega arith) ∙ ap (asked_of old) (sym e))))
            (λ ne. subst (λ (l : List Control). (l ≡ asked_of old unit) ⊎ (l ≡ asked_of old unit ++ c ∷ [])) (sym (apart unit ne)) (s.some.each unit));
      };
      others = λ unit after. apart unit (λ e. absurd (omega (arith, after, e))) ∙ s.others unit (omega (arith, after));
    }

pub some_and : {A E : Type 0} (n : ℕ) (c : Control) (old now new : List (List Control)) (here : Result A E) → n < length old →
    AsksSomeFirst n c old now → OnOk here (new ≡ asks true n c now) → OnErr here (new ≡ now) → AsksSomeFirst (n + 1) c old new
some_and n c old now new (Ok x) within s is unasked = subst (AsksSomeFirst (n + 1) c old) (sym is) (some_more n c old now within s)
some_and n c old now new (Err e) within s is unasked = subst (AsksSomeFirst (n + 1) c old) (sym unasked) (some_stays n c old now s)

-- what holds in any case holds of an error
pub of_error : {A E : Type 0} {X : Type 0} (r : Result A E) → X → OnErr r X
of_error (Ok x) holds = tt
of_error (Err e) holds = holds
