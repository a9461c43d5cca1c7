-- What a task's own commands make of something, from one place of them to the next.
use Rattle.std.proofs.Common.{◌≡◌, ◌<◌, ◌≤◌, ◌+◌, suc, drop, drop-cons, ◌==◌, ℕ, Bool, true, false}
use Rattle.std.proofs.Common.{List, [], ◌∷◌, ◌++◌, length, get_or, cond, refl, sym, subst, ap, ◌∙◌, arith, append_assoc, length-append}
use Rattle.std.proofs.lemmas.List.{drop_all}
use Rattle.std.proofs.Math.Seq.{get_or-append_seam}
use Rattle.std.proofs.lemmas.Bool.{eq-eqb, eqb-true}
use Rattle.job_script.specs.declared.command.Action.{Action}
use Rattle.job_script.specs.declared.command.ScriptCommand.{ScriptCommand}
use Rattle.job_script.specs.Tasks.{places_from, places_of}
use Rattle.job_run.specs.Sending.{does_all}

-- the commands before are done, and these places of the task are left
pub record Reached {S : Type 0} (does : Action → S → S) (task : ℕ) (commands : List ScriptCommand) (old : S) (places : List ℕ) (now : S) :
    Type 0 where
  pub before : List ScriptCommand
  pub others : List ScriptCommand
  pub split : commands ≡ before ++ others
  pub left : places ≡ places_from task (length before) others
  pub now_is : now ≡ does_all does task before old

-- the command at the first of these places is next
pub record IsNext {S : Type 0} (does : Action → S → S) (task : ℕ) (commands : List ScriptCommand) (old : S) (command : ScriptCommand)
    (places : List ℕ) (now : S) : Type 0 where
  pub before : List ScriptCommand
  pub others : List ScriptCommand
  pub split : commands ≡ before ++ command ∷ others
  pub own : command.task ≡ task
  pub left : places ≡ places_from task (length before + 1) others
  pub now_is : now ≡ does_all does task before old

-- the first command of the task among some, of which the first has the place `at`
record First {S : Type 0} (does : Action → S → S) (task at : ℕ) (cs : List ScriptCommand) (place : ℕ) (places : List ℕ)
    (now : S) : Type 0 where
  before : List ScriptCommand
  command : ScriptCommand
  others : List ScriptCommand
  split : cs ≡ before ++ command ∷ others
  place_is : place ≡ at + length before
  own : command.task ≡ task
  silent : does_all does task before now ≡ now
  left : places ≡ places_from task (place + 1) others

module _ {S : Type 0} (does : Action → S → S) (task : ℕ) where
  -- some commands after others
  does_all-append : (xs ys : List ScriptCommand) (now : S) →
      does_all does task (xs ++ ys) now ≡ does_all does task ys (does_all does task xs now)
  unfolding does_all
  does_all-append [] ys now = refl
  does_all-append (x ∷ xs) ys now = does_all-append xs ys (cond (x.task == task) (does x.action now) now)

  -- a command of the task
  does_all-own : (c : ScriptCommand) (now : S) → c.task ≡ task → does_all does task (c ∷ []) now ≡ does c.action now
  unfolding does_all
  does_all-own c now own = rw (eq-eqb c.task task own) refl

  -- commands among which no place of the task is left do nothing
  idle-step : (is : Bool) (at : ℕ) (rest : List ℕ) (after : S → S) (own now : S) → cond is (at ∷ rest) rest ≡ [] →
      (rest ≡ [] → after now ≡ now) → after (cond is own now) ≡ now
  idle-step true at rest after own now e h = absurd (cc)
  idle-step false at rest after own now e h = h e

  idle : (at : ℕ) (cs : List ScriptCommand) (now : S) → places_from task at cs ≡ [] → does_all does task cs now ≡ now
  unfolding does_all places_from
  idle at [] now e = refl
  idle at (c ∷ cs) now e =
      idle-step (c.task == task) at (places_from task (at + 1) cs) (does_all does task cs) (does c.action now) now e
      (λ none. idle (at + 1) cs now none)

  first-step : (at place : ℕ) (c : ScriptCommand) (cs : List ScriptCommand) (places : List ℕ) (now : S) (is : Bool) →
      (c.task == task) ≡ is →
      cond is (at ∷ places_from task (at + 1) cs) (places_from task (at + 1) cs) ≡ place ∷ places →
      (places_from task (at + 1) cs ≡ place ∷ places → First does task (at + 1) cs place places now) →
      First does task at (c ∷ cs) place places now
  unfolding does_all
  first-step at place c cs places now true is e h =
      let same : at ≡ place = cc in
      let rest : places_from task (at + 1) cs ≡ places = cc in
      record {
        before = [];
        command = c;
        others = cs;
        split = refl;
        place_is = omega arith;
        own = eqb-true c.task task is;
        silent = refl;
        left = sym rest ∙ ap (λ n. places_from task (n + 1) cs) same;
      }
  first-step at place c cs places now false is e h =
      let n = h e in
      record {
        before = c ∷ n.before;
        command = n.command;
        others = n.others;
        split = ap (λ l. c ∷ l) n.split;
        place_is = omega (arith, n.place_is);
        own = n.own;
        silent = rw is n.silent;
        left = n.left;
      }

  first : (at place : ℕ) (cs : List ScriptCommand) (places : List ℕ) (now : S) → places_from task at cs ≡ place ∷ places →
      First does task at cs place places now
  unfolding places_from
  first at place [] places now e = absurd (cc)
  first at place (c ∷ cs) places now e =
      first-step at place c cs places now (c.task == task) refl e (λ rest. first (at + 1) place cs places now rest)

  pub begins : (commands : List ScriptCommand) (now : S) → Reached does task commands now (places_of task commands) now
  unfolding does_all
  begins commands now = record { before = []; others = commands; split = refl; left = refl; now_is = refl }

  next : (commands : List ScriptCommand) (old : S) (place : ℕ) (places : List ℕ) (now : S) (command : ScriptCommand) →
      Reached does task commands old (place ∷ places) now → command ≡ get_or commands place command →
      IsNext does task commands old command places now
  next commands old place places now command r at =
      let n = first (length r.before) place r.others places now (sym r.left) in
      let before = r.before ++ n.before in
      let whole : commands ≡ before ++ n.command ∷ n.others = r.split ∙ ap (λ l. r.before ++ l) n.split
      ∙ sym (append_assoc r.before n.before (n.command ∷ n.others)) in
      let place_is : place ≡ length before = n.place_is ∙ sym (length-append r.before n.before) in
      let same : command ≡ n.command = at ∙ ap (λ (l : List ScriptCommand). get_or l place command) whole
      ∙ ap (λ (k : ℕ). get_or (before ++ n.command ∷ n.others) k command) place_is ∙ get_or-append_seam before n.command n.others command in
      record {
        before = before;
        others = n.others;
        split = whole ∙ ap (λ c. before ++ c ∷ n.others) (sym same);
        own = ap (λ c. c.task) same ∙ n.own;
        left = n.left ∙ ap (λ k. places_from task (k + 1) n.others) place_is;
        now_is = sym n.silent ∙ ap (does_all does task n.before) r.now_is ∙ sym (does_all-append r.before n.before old);
      }

  -- the command at the place with this number among those of the task
  pub at_place : (number : ℕ) (commands : List ScriptCommand) (old now : S) (places : List ℕ) (i : ℕ) (command : ScriptCommand) →
      places ≡ places_of number commands → number ≡ task → i < length places →
      Reached does task commands old (drop i (places_of task commands)) now → command ≡ get_or commands (get_or places i 0) command →
      IsNext does task commands old command (drop (i + 1) (places_of task commands)) now
  at_place number commands old now places i command value same within reached at =
      let all = places_of task commands in
      let is : places ≡ all = value ∙ ap (λ (n : ℕ). places_of n commands) same in
      let inside : i < length all = subst (λ (l : List ℕ). i < length l) is within in
      let here : command ≡ get_or commands (get_or all i 0) command = at ∙ ap (λ (l : List ℕ). get_or commands (get_or l i 0) command) is in
      let plus : suc i ≡ i + 1 = omega arith in
      let step : drop i all ≡ get_or all i 0 ∷ drop (i + 1) all = drop-cons all i 0 inside
      ∙ ap (λ (k : ℕ). get_or all i 0 ∷ drop k all) plus in
      next commands old (get_or all i 0) (drop (i + 1) all) now command
      (subst (λ (l : List ℕ). Reached does task commands old l now) step reached) here

  -- the command is done
  pub goes_on : (commands : List ScriptCommand) (old : S) (command : ScriptCommand) (places : List ℕ) (now new : S) →
      IsNext does task commands old command places now → new ≡ does command.action now → Reached does task commands old places new
  goes_on commands old command places now new n done_is =
      let done = n.before ++ command ∷ [] in
      record {
        before = done;
        others = n.others;
        split = n.split ∙ sym (append_assoc n.before (command ∷ []) n.others);
        left = n.left ∙ ap (λ k. places_from task k n.others) (sym (length-append n.before (command ∷ [])));
        now_is = done_is ∙ ap (does command.action) n.now_is ∙ sym (does_all-own command (does_all does task n.before old) n.own)
            ∙ sym (does_all-append n.before (command ∷ []) old);
      }

  -- no place is left
  none_left : (commands : List ScriptCommand) (old now : S) → Reached does task commands old [] now → now ≡ does_all does task commands old
  none_left commands old now r =
      rw r.split (sym (does_all-append r.before r.others old ∙ idle (length r.before) r.others (does_all does task r.before old)
      (sym r.left) ∙ sym r.now_is))

  pub ends : (number : ℕ) (commands : List ScriptCommand) (old now : S) (places : List ℕ) (i : ℕ) → places ≡ places_of number commands →
      number ≡ task → length places ≤ i → Reached does task commands old (drop i (places_of task commands)) now →
      now ≡ does_all does task commands old
  ends number commands old now places i value same past reached =
      let all = places_of task commands in
      let is : places ≡ all = value ∙ ap (λ (n : ℕ). places_of n commands) same in
      let over : length all ≤ i = subst (λ (l : List ℕ). length l ≤ i) is past in
      none_left commands old now (subst (λ (l : List ℕ). Reached does task commands old l now) (drop_all i all over) reached)
