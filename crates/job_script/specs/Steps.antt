-- STEPS, each of which may have a fault.
use Rattle.std.specs.Prelude.{Result, Ok, Err}
use Rattle.job_script.specs.declared.fault.FaultName.{FaultName}

-- what one step gives goes into the next one; the first fault ends the steps
infixl 10 ◌>>=◌
abbrev pub ◌>>=◌ : {A B : Type 0} → Result A FaultName → (A → Result B FaultName) → Result B FaultName
(Ok x) >>= f = f x
(Err e) >>= f = Err e
