-- What a place in a fault script tells of the faults of a command.
use Rattle.std.proofs.Common.{◌≡◌, ◌<◌, ◌≤◌, ℕ, ◌+◌, ◌-◌, ◌^◌, ◌==◌, nat_lt, if◌then◌else◌, Bool, true, false, ◌&&◌, List, [], ◌∷◌, length}
use Rattle.std.proofs.Common.{take, drop, get_or, Option, Some, None, refl, arith, ◌∙◌, suc, zero, subst, sym, inl, inr, add-one}
use Rattle.std.proofs.Math.Seq.{drop-cons}
use Rattle.std.specs.List.{AllByRecursion}
use Rattle.std.specs.Option.{is_some}
use Rattle.std.proofs.lemmas.Bool.{cases_lt}
use Rattle.std.proofs.lemmas.List.{drop_all, drop-drop}
use Rattle.std.proofs.lemmas.Bool.Decides.{nat_tests}
use Rattle.device_port.specs.declared.faults.Fault.{Fault}
use Rattle.device_port.specs.Faults.{Follows, IsClear, fault_of, fault_met, are_faults_after, is_fault, next_ordinal}

no_fault : Fault
no_fault = record { ordinal = 0; unit = record { 0 = 0 }; sub = record { 0 = 0 }; sense = 0 }

-- the faults that are ahead have larger numbers
pub fault_of-ahead : (last n : ℕ) (fs : List Fault) → are_faults_after last fs ≡ true → n ≤ last → fault_of fs n ≡ None
fault_of-ahead last n [] h le = refl
fault_of-ahead last n (f ∷ fs) h le =
    let above : last < f.ordinal = grind (arith, nat_tests, h) in
    let rest : are_faults_after f.ordinal fs ≡ true = grind (arith, nat_tests, h) in
    let ih = fault_of-ahead f.ordinal n fs rest (omega arith) in
    grind (arith, nat_tests, ih)

-- those that were passed have smaller ones
pub fault_of-passed : (fs : List Fault) (next done n : ℕ) → AllByRecursion (λ (f : Fault). f.ordinal ≤ done) (take next fs) → done < n →
    fault_of fs n ≡ fault_of (drop next fs) n
fault_of-passed [] zero done n h lt = refl
fault_of-passed [] (suc next) done n h lt = refl
fault_of-passed (f ∷ fs) zero done n h lt = refl
fault_of-passed (f ∷ fs) (suc next) done n h lt =
    let ih = fault_of-passed fs next done n h.1 lt in
    let other : f.ordinal < n = omega (arith, h.0) in
    grind (arith, nat_tests, ih)

-- the fault of the next command where these are ahead
abbrev pub first_met : ℕ → List Fault → Option Fault
first_met n [] = None
first_met n (f ∷ fs) = if f.ordinal == n then Some f else None

first_met-is : (done : ℕ) (fs : List Fault) → are_faults_after done fs ≡ true → fault_of fs (done + 1) ≡ first_met (done + 1) fs
first_met-is done [] h = refl
first_met-is done (f ∷ fs) h =
    let above : done < f.ordinal = grind (arith, nat_tests, h) in
    let rest : are_faults_after f.ordinal fs ≡ true = grind (arith, nat_tests, h) in
    let none = fault_of-ahead f.ordinal (done + 1) fs rest (omega arith) in
    grind (arith, nat_tests, none)

pub met-ahead : (script : List Fault) (next done : ℕ) → Follows script next done → done < 2 ^ 64 - 1 →
    fault_of script (done + 1) ≡ first_met (done + 1) (drop next script)
met-ahead script next done f lt = fault_of-passed script next done (done + 1) f.passed (omega arith)
    ∙ first_met-is done (drop next script) (f.ahead lt)

nat_lt-true : (a b : ℕ) → a < b → nat_lt a b ≡ true
nat_lt-true a b h = grind (arith, nat_tests)

nat_lt-false : (a b : ℕ) → b ≤ a → nat_lt a b ≡ false
nat_lt-false a b h = grind (arith, nat_tests)

-- once the number stays nothing is met
pub met-late : (script : List Fault) (done : ℕ) → 2 ^ 64 - 1 ≤ done + 1 → fault_met (record { script = script; done = done }) ≡ None
met-late script done le = rw (nat_lt-false (done + 1) (2 ^ 64 - 1) le) refl

-- before that, it is the first of the faults ahead or none
pub met-first : (script : List Fault) (next done : ℕ) → Follows script next done → done + 1 < 2 ^ 64 - 1 →
    fault_met (record { script = script; done = done }) ≡ first_met (done + 1) (drop next script)
met-first script next done f lt = rw (nat_lt-true (done + 1) (2 ^ 64 - 1) lt) (met-ahead script next done f (omega arith))

-- at the end of a script nothing is met
pub met-end : (script : List Fault) (next done : ℕ) → Follows script next done → length script ≤ next →
    fault_met (record { script = script; done = done }) ≡ None
met-end script next done f le =
    elim (cases_lt (done + 1) (2 ^ 64 - 1)) [
      | inl lt ↦ met-first script next done f lt ∙ rw (drop_all next script le) refl
      | inr late ↦ met-late script done late
    ]

pub met-there : (script : List Fault) (next done : ℕ) (f : Fault) → Follows script next done → done + 1 < 2 ^ 64 - 1 →
    next < length script → f ≡ get_or script next f →
    fault_met (record { script = script; done = done }) ≡ (if f.ordinal == done + 1 then Some f else None)
met-there script next done f h lt within is =
    let cut : drop next script ≡ f ∷ drop (next + 1) script = drop-cons script next f within ∙ rw (← is, add-one) refl in
    met-first script next done h lt ∙ rw cut refl

passed-later : (fs : List Fault) (next done later : ℕ) → done ≤ later → AllByRecursion (λ (f : Fault). f.ordinal ≤ done) (take next fs) →
    AllByRecursion (λ (f : Fault). f.ordinal ≤ later) (take next fs)
passed-later [] zero done later le h = tt
passed-later [] (suc next) done later le h = tt
passed-later (f ∷ fs) zero done later le h = tt
passed-later (f ∷ fs) (suc next) done later le h = (omega (arith, h.0), passed-later fs next done later le h.1)

passed-more : (fs : List Fault) (next later : ℕ) (f : Fault) (rest : List Fault) →
    AllByRecursion (λ (f : Fault). f.ordinal ≤ later) (take next fs) → drop next fs ≡ f ∷ rest → f.ordinal ≤ later →
    AllByRecursion (λ (f : Fault). f.ordinal ≤ later) (take (suc next) fs)
passed-more [] zero later f rest h is at = absurd cc
passed-more [] (suc next) later f rest h is at = absurd cc
passed-more (g ∷ fs) zero later f rest h is at =
    let e : g ≡ f = cc in
    (rw e at, tt)
passed-more (g ∷ fs) (suc next) later f rest h is at = (h.0, passed-more fs next later f rest h.1 is at)

within_more : (fs : List Fault) (next : ℕ) (f : Fault) (rest : List Fault) → drop next fs ≡ f ∷ rest → next < length fs
within_more [] zero f rest is = absurd cc
within_more [] (suc next) f rest is = absurd cc
within_more (g ∷ fs) zero f rest is = omega arith
within_more (g ∷ fs) (suc next) f rest is = omega (arith, within_more fs next f rest is)

met_none : (b : Bool) (f : Fault) → (if b then Some f else None) ≡ None → b ≡ false
met_none true f e = absurd cc
met_none false f e = refl

both_from : (a b c d : Bool) → b ≡ true → (a && c && d) ≡ true → (b && c && d) ≡ true
both_from true true c d h k = k
both_from false b c d h k = absurd cc
both_from true false c d h k = absurd cc

-- what is ahead after a fault was met or not
module _ (script : List Fault) (next done : ℕ) (h : Follows script next done) (lt : done + 1 < 2 ^ 64 - 1) where
  met-next : (ahead : List Fault) (f : Fault) → drop next script ≡ ahead → first_met (done + 1) ahead ≡ Some f →
      are_faults_after done ahead ≡ true → Follows script (suc next) (done + 1)
  met-next [] f is met ok = absurd cc
  met-next (g ∷ rest) f is met ok =
      let same : g.ordinal ≡ done + 1 = grind (arith, nat_tests, met) in
      let later : are_faults_after g.ordinal rest ≡ true = grind (arith, nat_tests, ok) in
      let more : drop (suc next) script ≡ rest = rw (← add-one) (sym (drop-drop 1 next script) ∙ rw is refl) in
      record {
        within = omega (arith, within_more script next g rest is);
        passed = passed-more script next (done + 1) g rest (passed-later script next done (done + 1) (omega arith) h.passed) is
            (omega arith);
        ahead = λ late. rw (more, ← same) later;
      }

  missed-next : (ahead : List Fault) → drop next script ≡ ahead → first_met (done + 1) ahead ≡ None → are_faults_after done ahead ≡ true →
      are_faults_after (done + 1) ahead ≡ true
  missed-next [] is met ok = refl
  missed-next (g ∷ rest) is met ok =
      let above : done < g.ordinal = grind (arith, nat_tests, ok) in
      let other : (g.ordinal == done + 1) ≡ false = met_none (g.ordinal == done + 1) g met in
      let later : nat_lt (done + 1) g.ordinal ≡ true = grind (arith, nat_tests) in
      both_from (nat_lt done g.ordinal) (nat_lt (done + 1) g.ordinal) (is_fault g) (are_faults_after g.ordinal rest) later ok

-- a fault that is met is passed
pub follows-met : (script : List Fault) (next done : ℕ) (f : Fault) → Follows script next done →
    fault_met (record { script = script; done = done }) ≡ Some f → Follows script (next + 1) (next_ordinal done)
follows-met script next done f h met =
    elim (cases_lt (done + 1) (2 ^ 64 - 1)) [
      | inl lt ↦
          let e : next_ordinal done ≡ done + 1 = omega arith in
          rw e (subst (λ (n : ℕ). Follows script n (done + 1)) (sym (add-one next))
          (met-next script next done h lt (drop next script) f refl (sym (met-first script next done h lt) ∙ met)
          (h.ahead (omega arith))))
      | inr late ↦ absurd (let none = met-late script done late in cc)
    ]

-- one that is not met stays ahead
pub follows-missed : (script : List Fault) (next done : ℕ) → done < 2 ^ 64 → Follows script next done →
    fault_met (record { script = script; done = done }) ≡ None → Follows script next (next_ordinal done)
follows-missed script next done fits h met =
    record {
      within = h.within;
      passed = passed-later script next done (next_ordinal done) (omega arith) h.passed;
      ahead = λ late.
          let lt : done + 1 < 2 ^ 64 - 1 = omega arith in
          let e : next_ordinal done ≡ done + 1 = omega arith in
          rw e (missed-next script next done h lt (drop next script) refl (sym (met-first script next done h lt) ∙ met)
          (h.ahead (omega arith)));
    }

-- the place in the script after a command, whether a fault was met
pub follows-some : (script : List Fault) (next done : ℕ) (fault : Option Fault) → Follows script next done →
    fault ≡ fault_met (record { script = script; done = done }) → is_some fault ≡ true → Follows script (next + 1) (next_ordinal done)
follows-some script next done None h is some = absurd cc
follows-some script next done (Some f) h is some = follows-met script next done f h (sym is)

pub follows-none : (script : List Fault) (next done : ℕ) (fault : Option Fault) → done < 2 ^ 64 → Follows script next done →
    fault ≡ fault_met (record { script = script; done = done }) → is_some fault ≡ false → Follows script next (next_ordinal done)
follows-none script next done None fits h is none = follows-missed script next done fits h (sym is)
follows-none script next done (Some f) fits h is none = absurd cc

-- where a later number is met by none of the script, none is met there
clear-at : (script : List Fault) (k : ℕ) → fault_of script (k + 1) ≡ None → fault_met (record { script = script; done = k }) ≡ None
clear-at script k none =
    elim (cases_lt (k + 1) (2 ^ 64 - 1)) [
      | inl lt ↦ rw (nat_lt-true (k + 1) (2 ^ 64 - 1) lt) none
      | inr late ↦ met-late script k late
    ]

-- behind the last fault all commands are clear
pub clear-end : (script : List Fault) (next done : ℕ) → Follows script next done → length script ≤ next → IsClear script done (2 ^ 64 - 1)
clear-end script next done f end = record {
  none = λ k from until. clear-at script k (fault_of-passed script next done (k + 1) f.passed (omega (arith, from))
      ∙ rw (drop_all next script end) refl);
}

none-below : (k : ℕ) (f : Fault) (rest : List Fault) (done : ℕ) → are_faults_after done (f ∷ rest) ≡ true → k + 1 < f.ordinal →
    fault_of (f ∷ rest) (k + 1) ≡ None
none-below k f rest done h below =
    let later : are_faults_after f.ordinal rest ≡ true = grind (arith, nat_tests, h) in
    let none = fault_of-ahead f.ordinal (k + 1) rest later (omega arith) in
    grind (arith, nat_tests, none)

-- commands below the number of the next fault are clear
pub clear-below : (script : List Fault) (next done : ℕ) (f : Fault) → Follows script next done → next < length script →
    f ≡ get_or script next f → f.ordinal < 2 ^ 64 → IsClear script done (f.ordinal - 1)
clear-below script next done f h within is fits =
    let cut : drop next script ≡ f ∷ drop (next + 1) script = drop-cons script next f within ∙ rw (← is, add-one) refl in
    record {
      none = λ k from until.
          let ahead : are_faults_after done (f ∷ drop (next + 1) script) ≡ true =
          subst (λ (fs : List Fault). are_faults_after done fs ≡ true) cut (h.ahead (omega (arith, from, until, fits))) in
          clear-at script k (fault_of-passed script next done (k + 1) h.passed (omega (arith, from))
          ∙ rw cut (none-below k f (drop (next + 1) script) done ahead (omega (arith, until))));
    }

-- a command that is clear meets nothing, and those behind it stay clear
pub clear-here : (script : List Fault) (done clear : ℕ) → IsClear script done clear → done < clear →
    fault_met (record { script = script; done = done }) ≡ None
clear-here script done clear h lt = h.none done (omega arith) lt

pub clear-later : (script : List Fault) (done later clear : ℕ) → IsClear script done clear → done ≤ later → IsClear script later clear
clear-later script done later clear h le = record { none = λ k from until. h.none k (omega (arith, le, from)) until }
