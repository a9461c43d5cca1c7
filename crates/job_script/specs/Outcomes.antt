-- WHAT A CALL RETURNS OR LEAVES, by the grammar. A call that runs out of memory may return nothing else.
use Rattle.std.specs.Prelude.{◌≡◌, List, ℕ, Result, Ok, Err}
use Rattle.script_words.specs.Text.{words}
use Rattle.script_words.specs.declared.words.LineWords.{LineWords}
use Rattle.io_area.specs.Storage.{Storage}
use Rattle.job_script.specs.Adding.{is_area}
use Rattle.job_script.specs.declared.refusal.LineError.{LineError}
use Rattle.job_script.specs.declared.refusal.LineError.TheVariants.{Fault, NoMemory}
use Rattle.job_script.specs.Grammar.{FaultAt}
use Rattle.job_script.specs.declared.fault.JobError.{JobError}
use Rattle.job_script.specs.declared.fault.JobError.TheVariants as faults
use Rattle.job_script.specs.declared.fault.FaultName.{FaultName}
use Rattle.job_script.specs.declared.fault.FaultName.TheVariants as names
use Rattle.script_words.specs.declared.forms.FormError.{FormError}
use Rattle.script_words.specs.declared.forms.FormError.TheVariants.{NotOfForm, OutOfMemory}

-- the words of a line that was scanned
abbrev pub words_in : LineWords → List (List ℕ)
words_in line = words line.line.now

-- a call that takes no memory returned what was to be read
abbrev pub Reads : {X : Type 0} → Result X FaultName → Result X FaultName → Type 0
Reads result read = read ≡ result

-- a call that takes no memory returned a value, and what this value says was to be read
abbrev pub ReadsAs : {X Y : Type 0} → (X → Y) → Result X FaultName → Result Y FaultName → Type 0
ReadsAs view (Ok x) read = read ≡ Ok (view x)
ReadsAs view (Err fault) read = read ≡ Err fault

-- a call returned a value that says what was to be read, out of memory apart
abbrev pub Returns : {X Y : Type 0} → (X → Y) → Result X LineError → Result Y FaultName → Type 0
Returns view (Ok x) read = read ≡ Ok (view x)
Returns view (Err (Fault fault)) read = read ≡ Err fault
Returns view (Err NoMemory) read = Unit {0}

-- a call left what was to be read, out of memory apart
abbrev pub Leads : {X S : Type 0} → Result X LineError → S → Result S FaultName → Type 0
Leads (Ok x) new read = read ≡ Ok new
Leads (Err (Fault fault)) new read = read ≡ Err fault
Leads (Err NoMemory) new read = Unit {0}

-- why a word gives no bytes
abbrev pub IsNoBytes : FormError → LineError → Type 0
IsNoBytes NotOfForm (Fault fault) = fault ≡ names.Number
IsNoBytes NotOfForm NoMemory = ⊥
IsNoBytes OutOfMemory refusal = refusal ≡ NoMemory

-- a call returned this storage as an area, if it is one, out of memory apart
abbrev pub MakesArea : Storage → Result Storage LineError → Type 0
MakesArea storage (Ok area) = (is_area storage ≡ Ok tt) × (area ≡ storage)
MakesArea storage (Err (Fault fault)) = is_area storage ≡ Err fault
MakesArea storage (Err NoMemory) = Unit {0}

-- a call reported the fault of the line with this number, out of memory apart
abbrev pub ReportsAt : {S : Type 0} → ℕ → JobError → Result S FaultName → Type 0
ReportsAt line (faults.Line at n) read = (at ≡ line) × (read ≡ Err n)
ReportsAt line faults.NoMemory read = Unit {0}
ReportsAt line faults.TooLong read = ⊥
ReportsAt line faults.Unreadable read = ⊥
ReportsAt line faults.NotWritten read = ⊥
ReportsAt line faults.Unmatched read = ⊥
ReportsAt line faults.NoThread read = ⊥

-- a call left what the line with this number says, or reported its fault, out of memory apart
abbrev pub LeadsAt : {X S : Type 0} → ℕ → Result X JobError → S → Result S FaultName → Type 0
LeadsAt line (Ok x) new read = read ≡ Ok new
LeadsAt line (Err fault) new read = ReportsAt line fault read

-- a call returned a value that says what the grammar gives, or its first fault with its line, out of memory apart
abbrev pub Gives : {X S : Type 0} → (X → S) → Result X JobError → Result S FaultAt → Type 0
Gives view (Ok x) read = read ≡ Ok (view x)
Gives view (Err (faults.Line line n)) read = read ≡ Err (record { line = line; name = n })
Gives view (Err faults.NoMemory) read = Unit {0}
Gives view (Err faults.TooLong) read = ⊥
Gives view (Err faults.Unreadable) read = ⊥
Gives view (Err faults.NotWritten) read = ⊥
Gives view (Err faults.Unmatched) read = ⊥
Gives view (Err faults.NoThread) read = ⊥
