-- The places of the commands of each task, and how many requests the script issues.
use Rattle.std.proofs.Common.{◌≡◌, ◌<◌, ◌≤◌, ◌+◌, ◌==◌, ℕ, Bool, true, false, zero, suc, List, [], ◌∷◌, ◌++◌, length, take, get_or, set}
use Rattle.std.proofs.Common.{refl, sym, subst, ap, ◌⊎◌, inl, inr, ◌∙◌, rules, arith, cond}
use Rattle.std.proofs.Math.Dec.{eqb-suc-zero, eqb-zero-suc, eqb-suc-suc}
use Rattle.std.proofs.lemmas.List.Filters.{length-filter_more}
use Rattle.std.proofs.lemmas.List.Elements.{Contains-push_cases}
use Rattle.std.specs.List.{Contains, filter}
use Rattle.std.specs.Global.{Vec}
use Rattle.job_script.specs.Commands.{excp_is_to, is_excp}
use Rattle.job_script.specs.declared.command.Action.{Action}
use Rattle.job_script.specs.declared.command.Action.TheVariants as actions
use Rattle.job_script.specs.declared.command.Excp.{Excp}
use Rattle.job_script.specs.declared.command.ScriptCommand.{ScriptCommand}
use Rattle.job_script.specs.Tasks.{list_of, places_from, places_of}

-- one more empty list changes no list
pub list_of-more : (lists : List (Vec ℕ)) (list : Vec ℕ) (n : ℕ) → list.items ≡ [] → list_of (lists ++ list ∷ []) n ≡ list_of lists n
unfolding list_of
list_of-more [] list zero e = e
list_of-more [] list (suc n) e = refl
list_of-more (l ∷ ls) list zero e = refl
list_of-more (l ∷ ls) list (suc n) e = list_of-more ls list n e

-- the list with a number
pub list_of-at : (lists : List (Vec ℕ)) (n : ℕ) (d : Vec ℕ) → n < length lists → list_of lists n ≡ (get_or lists n d).items
unfolding list_of
list_of-at [] n d h = absurd (omega arith)
list_of-at (l ∷ ls) zero d h = refl
list_of-at (l ∷ ls) (suc n) d h = list_of-at ls n d (omega arith)

pub list_of-past : (lists : List (Vec ℕ)) (n : ℕ) → length lists ≤ n → list_of lists n ≡ []
unfolding list_of
list_of-past [] n h = refl
list_of-past (l ∷ ls) zero h = absurd (omega arith)
list_of-past (l ∷ ls) (suc n) h = list_of-past ls n (omega arith)

-- one list changed
list_of-set : (lists : List (Vec ℕ)) (n k : ℕ) (list : Vec ℕ) → n < length lists
    → list_of (set lists n list) k ≡ cond (n == k) list.items (list_of lists k)
unfolding list_of
list_of-set [] n k list h = absurd (omega arith)
list_of-set (l ∷ ls) zero zero list h = refl
list_of-set (l ∷ ls) zero (suc k) list h = rw (eqb-zero-suc k) refl
list_of-set (l ∷ ls) (suc n) zero list h = rw (eqb-suc-zero n) refl
list_of-set (l ∷ ls) (suc n) (suc k) list h = rw (eqb-suc-suc n k) (list_of-set ls n k list (omega arith))

-- one more command
more : (is : Bool) (at : ℕ) (rest added : List ℕ) → cond is (at ∷ (rest ++ added)) (rest ++ added) ≡ cond is (at ∷ rest) rest ++ added
more true at rest added = refl
more false at rest added = refl

places_from-more : (task at p : ℕ) (cs : List ScriptCommand) (c : ScriptCommand) → p ≡ at + length cs
    → places_from task at (cs ++ c ∷ []) ≡ places_from task at cs ++ cond (c.task == task) (p ∷ []) []
unfolding places_from
places_from-more task at p [] c e =
    let same : p ≡ at = omega (arith, e) in
    rw same refl
places_from-more task at p (x ∷ xs) c e =
    rw (places_from-more task (at + 1) p xs c (omega (arith, e)))
    (more (x.task == task) at (places_from task (at + 1) xs) (cond (c.task == task) (p ∷ []) []))

-- a place that is added to the list of its task
picked : (is : Bool) (a b added : List ℕ) → (is ≡ true → a ≡ b ++ added) → cond is a b ≡ b ++ cond is added []
picked true a b added h = h refl
picked false a b added h = search rules

pub list_of-add : (lists : List (Vec ℕ)) (n place : ℕ) (list d : Vec ℕ) → n < length lists →
    list.items ≡ (get_or lists n d).items ++ place ∷ []
    → (k : ℕ) → list_of (set lists n list) k ≡ list_of lists k ++ cond (n == k) (place ∷ []) []
list_of-add lists n place list d within is k =
    let at = list_of-at lists n d within in
    let same : (n == k) ≡ true → list.items ≡ list_of lists k ++ place ∷ [] = λ e.
    let one : n ≡ k = search (rules, e) in
    rw (sym one, at) is in
    list_of-set lists n k list within ∙ picked (n == k) list.items (list_of lists k) (place ∷ []) same

-- the same list
kept : (is : Bool) (a b : List ℕ) → (is ≡ true → a ≡ b) → cond is a b ≡ b
kept true a b h = h refl
kept false a b h = refl

pub list_of-keep : (lists : List (Vec ℕ)) (n : ℕ) (list d : Vec ℕ) → n < length lists → list.items ≡ (get_or lists n d).items
    → (k : ℕ) → list_of (set lists n list) k ≡ list_of lists k
list_of-keep lists n list d within is k =
    let at = list_of-at lists n d within in
    let same : (n == k) ≡ true → list.items ≡ list_of lists k = λ e.
    let one : n ≡ k = search (rules, e) in
    rw (sym one, at) is in
    list_of-set lists n k list within ∙ kept (n == k) list.items (list_of lists k) same

-- one more command, whose place is added to the list of its task
pub grouped-more : (lists new : List (Vec ℕ)) (commands : List ScriptCommand) (c : ScriptCommand) (n place : ℕ) → n ≡ c.task →
    place ≡ length commands
    → ((task : ℕ) → list_of lists task ≡ places_of task commands)
    → ((k : ℕ) → list_of new k ≡ list_of lists k ++ cond (n == k) (place ∷ []) [])
    → (task : ℕ) → list_of new task ≡ places_of task (commands ++ c ∷ [])
grouped-more lists new commands c n place is at all added task =
    added task ∙ rw (all task, is, at) (sym (places_from-more task 0 (length commands) commands c (omega arith)))

-- the places are those of commands
inside-step : (is : Bool) (at n : ℕ) (rest : List ℕ) (k d : ℕ) → ((j : ℕ) → j < length rest → get_or rest j d < at + 1 + n)
    → k < length (cond is (at ∷ rest) rest) → get_or (cond is (at ∷ rest) rest) k d < at + suc n
inside-step true at n rest zero d all h = omega arith
inside-step true at n rest (suc k) d all h =
    let one : get_or rest k d < at + 1 + n = all k (omega (arith, h)) in
    omega (arith, one)
inside-step false at n rest k d all h =
    let one : get_or rest k d < at + 1 + n = all k h in
    omega (arith, one)

pub places_from-inside : (task at : ℕ) (cs : List ScriptCommand) (k d : ℕ) → k < length (places_from task at cs)
    → get_or (places_from task at cs) k d < at + length cs
unfolding places_from
places_from-inside task at [] k d h = absurd (omega arith)
places_from-inside task at (c ∷ cs) k d h =
    inside-step (c.task == task) at (length cs) (places_from task (at + 1) cs) k d (λ j i. places_from-inside task (at + 1) cs j d i) h

-- one more request of a number
pub counted-more : (counts : List ℕ) (n k : ℕ) → n < length counts
    → get_or (set counts n (get_or counts n 0 + 1)) k 0 ≡ get_or counts k 0 + cond (n == k) 1 0
counted-more [] n k h = absurd (omega arith)
counted-more (x ∷ xs) zero zero h = refl
counted-more (x ∷ xs) zero (suc k) h = rw (eqb-zero-suc k) (omega arith)
counted-more (x ∷ xs) (suc n) zero h = rw (eqb-suc-zero n) (omega arith)
counted-more (x ∷ xs) (suc n) (suc k) h = rw (eqb-suc-suc n k) (counted-more xs n k (omega arith))

-- one more command is counted, or not
pub counts_one : (counts new : List ℕ) (test : ℕ → ScriptCommand → Bool) (commands : List ScriptCommand) (i n : ℕ) (item : ScriptCommand) →
    i < length commands
    → item ≡ get_or commands i item → n < length counts →
    ((k : ℕ) → k < 64 → get_or counts k 0 ≡ length (filter (test k) (take i commands)))
    → ((k : ℕ) → test k item ≡ (n == k)) → new ≡ set counts n (get_or counts n 0 + 1)
    → (k : ℕ) → k < 64 → get_or new k 0 ≡ length (filter (test k) (take (i + 1) commands))
counts_one counts new test commands i n item inside at within all is changed k h =
    let step = length-filter_more (test k) commands i item inside in
    let here : test k (get_or commands i item) ≡ (n == k) = ap (test k) (sym at) ∙ is k in
    rw (changed, step, here, counted-more counts n k within, all k h) refl

pub counts_none : (counts new : List ℕ) (test : ℕ → ScriptCommand → Bool) (commands : List ScriptCommand) (i : ℕ) (item : ScriptCommand) →
    i < length commands
    → item ≡ get_or commands i item → ((k : ℕ) → k < 64 → get_or counts k 0 ≡ length (filter (test k) (take i commands)))
    → ((k : ℕ) → test k item ≡ false) → new ≡ counts
    → (k : ℕ) → k < 64 → get_or new k 0 ≡ length (filter (test k) (take (i + 1) commands))
counts_none counts new test commands i item inside at all is same k h =
    let step = length-filter_more (test k) commands i item inside in
    let here : test k (get_or commands i item) ≡ false = ap (test k) (sym at) ∙ is k in
    rw (same, step, here, all k h) (omega arith)

-- a command that is no EXCP
pub to_no_unit : (action : Action) → ((e : Excp) → action ≡ actions.Excp e → ⊥) → (unit : ℕ) → excp_is_to unit action ≡ false
to_no_unit (actions.Excp e) other unit = absurd (other e refl)
to_no_unit (actions.Purge dcb mode) other unit = refl
to_no_unit (actions.PurgeTask task mode) other unit = refl
to_no_unit (actions.Close dcb) other unit = refl
to_no_unit (actions.Reset dcb) other unit = refl
to_no_unit actions.Wait other unit = refl

pub of_no_task : (action : Action) → ((e : Excp) → action ≡ actions.Excp e → ⊥) → is_excp action ≡ false
of_no_task (actions.Excp e) other = absurd (other e refl)
of_no_task (actions.Purge dcb mode) other = refl
of_no_task (actions.PurgeTask task mode) other = refl
of_no_task (actions.Close dcb) other = refl
of_no_task (actions.Reset dcb) other = refl
of_no_task actions.Wait other = refl

-- what holds of the commands that are there and of one more
pub pushed : (P : ScriptCommand → Type 0) (cs : List ScriptCommand) (c : ScriptCommand) → ((x : ScriptCommand) → Contains cs x → P x) → P c
    → (x : ScriptCommand) → Contains (cs ++ c ∷ []) x → P x
pushed P cs c all one x h = by_case (Contains-push_cases cs c x h) where
  by_case : Contains cs x ⊎ (c ≡ x) → P x
  by_case (inl there) = all x there
  by_case (inr same) = subst P same one

-- no command
pub no_command : (P : ScriptCommand → Type 0) (x : ScriptCommand) → Contains [] x → P x
no_command P x h =
    let few : h.0 < 0 = h.1 in
    absurd (omega (arith, few))

pub grouped_none : (task : ℕ) → list_of [] task ≡ places_of task []
unfolding list_of places_from
grouped_none task = refl
