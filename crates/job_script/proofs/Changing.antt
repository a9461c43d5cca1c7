-- A change of one unit, and what has a number.
use Rattle.std.proofs.Common.{◌≡◌, ◌<◌, ◌≤◌, ℕ, zero, suc, List, [], ◌∷◌, length, map, get_or, set, refl, sym, ap, ◌∙◌, arith, leb, cond}
use Rattle.std.proofs.Common.{Ok, Err, OnErr, Result}
use Rattle.std.proofs.lemmas.List.{length-map, map-set}
use Rattle.job_script.specs.declared.command.DcbName.{DcbName}
use Rattle.job_script.specs.declared.refusal.LineError.{LineError}
use Rattle.job_script.specs.declared.refusal.LineError.TheVariants.{Fault, NoMemory}
use Rattle.job_script.specs.declared.fault.FaultName.{FaultName}
use Rattle.job_script.specs.declared.fault.FaultName.TheVariants as names
use Rattle.job_script.specs.declared.set_up.UnitSetup.{UnitSetup}
use Rattle.job_script.specs.Adding.{change_unit, is_dcb, numbered}
use Rattle.job_script.specs.Outcomes.{Leads}
use Rattle.job_script.specs.Said.{SetUpSaid, UnitSaid}
use Rattle.job_script.specs.Views.{opening_said, unit_said}

-- what has a number, seen by a view
pub numbered_map : {X Y : Type 0} (view : X → Y) (xs : List X) (n : ℕ) (d : X) → n < length xs →
    numbered n (map view xs) ≡ Ok (view (get_or xs n d))
unfolding numbered
numbered_map view [] n d h = absurd (omega arith)
numbered_map view (x ∷ xs) zero d h = refl
numbered_map view (x ∷ xs) (suc n) d h = numbered_map view xs n d (omega arith)

pub unnumbered_map : {X Y : Type 0} (view : X → Y) (xs : List X) (n : ℕ) → length xs ≤ n → numbered n (map view xs) ≡ Err names.Name
unfolding numbered
unnumbered_map view [] n h = refl
unnumbered_map view (x ∷ xs) zero h = absurd (omega arith)
unnumbered_map view (x ∷ xs) (suc n) h = unnumbered_map view xs n (omega arith)

-- the set-up with one unit changed
changed : (change : UnitSaid → Result UnitSaid FaultName) (s : SetUpSaid) (units : List UnitSetup) (n : ℕ) (d new : UnitSetup)
    → s.units ≡ map unit_said units → n < length units → change (unit_said (get_or units n d)) ≡ Ok (unit_said new)
    → change_unit n change s ≡ Ok (record s { units = map unit_said (set units n new) })
unfolding change_unit
changed change s units n d new e within one = rw (e, numbered_map unit_said units n d within, one, map-set unit_said units n new) refl

failed : (change : UnitSaid → Result UnitSaid FaultName) (s : SetUpSaid) (units : List UnitSetup) (n : ℕ) (d : UnitSetup) (e : FaultName)
    → s.units ≡ map unit_said units → n < length units → change (unit_said (get_or units n d)) ≡ Err e → change_unit n change s ≡ Err e
unfolding change_unit
failed change s units n d e is within one = rw (is, numbered_map unit_said units n d within, one) refl

-- no unit has the number
pub unchanged : (change : UnitSaid → Result UnitSaid FaultName) (s : SetUpSaid) (units : List UnitSetup) (n : ℕ) →
    s.units ≡ map unit_said units
    → length units ≤ n → change_unit n change s ≡ Err names.Name
unfolding change_unit
unchanged change s units n e past = rw (e, unnumbered_map unit_said units n past) refl

-- a call that changes one unit
pub changes : (r : Result (Unit {0}) LineError) (change : UnitSaid → Result UnitSaid FaultName) (s : SetUpSaid) (units : List UnitSetup)
    (n : ℕ)
    (old new : UnitSetup) → s.units ≡ map unit_said units → n < length units → old ≡ get_or units n old
    → Leads r (unit_said new) (change (unit_said old)) → Leads r (record s { units = map unit_said (set units n new) })
    (change_unit n change s)
changes (Ok x) change s units n old new e within is leads = changed change s units n old new e within (rw (sym is) leads)
changes (Err (Fault fault)) change s units n old new e within is leads =
    failed change s units n old fault e within (rw (sym is) leads)
changes (Err NoMemory) change s units n old new e within is leads = tt

-- a unit that says what it said before
said_again : (units : List UnitSetup) (n : ℕ) (old new : UnitSetup) → n < length units → unit_said new ≡ unit_said (get_or units n old)
    → map unit_said (set units n new) ≡ map unit_said units
said_again [] n old new within same = absurd (omega arith)
said_again (x ∷ xs) zero old new within same = ap (λ said. said ∷ map unit_said xs) same
said_again (x ∷ xs) (suc n) old new within same = ap (λ others. unit_said x ∷ others) (said_again xs n old new (omega arith) same)

-- a call that changes one unit, and keeps what it says after an error
pub keeps : (r : Result (Unit {0}) LineError) (s : SetUpSaid) (units : List UnitSetup) (n : ℕ) (old new : UnitSetup) →
    s.units ≡ map unit_said units
    → n < length units → old ≡ get_or units n old → OnErr r (unit_said new ≡ unit_said old)
    → OnErr r (record s { units = map unit_said (set units n new) } ≡ s)
keeps (Ok x) s units n old new e within is kept = kept
keeps (Err refusal) s units n old new e within is kept =
    ap (λ said. record s { units = said }) (said_again units n old new within (kept ∙ ap unit_said is) ∙ sym e)

-- the DCBs of one unit
pub dcb_past : (dcb : DcbName) (s : SetUpSaid) (units : List UnitSetup) → s.units ≡ map unit_said units → length units ≤ dcb.unit
    → is_dcb dcb s ≡ Err names.Name
unfolding is_dcb
dcb_past dcb s units e past = rw (e, unnumbered_map unit_said units dcb.unit past) refl

pub dcb_at : (dcb : DcbName) (s : SetUpSaid) (units : List UnitSetup) (unit : UnitSetup) → s.units ≡ map unit_said units →
    dcb.unit < length units
    → unit ≡ get_or units dcb.unit unit
    → is_dcb dcb s ≡ cond (leb dcb.number (length unit.openings.items)) (Ok tt) (Err names.Name)
unfolding is_dcb
dcb_at dcb s units unit e within is =
    rw (e, numbered_map unit_said units dcb.unit unit within, sym is, length-map unit.openings.items opening_said) refl
