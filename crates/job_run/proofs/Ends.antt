-- By what a run of a script ends, from what its parts return.
use Rattle.std.proofs.Common.{◌≡◌, ℕ, Option, Result, Ok, Err, IfErr, List, [], subst, sym, ap, ◌∙◌, inl, inr}
use Rattle.std.specs.Result.{IsErrAnd}
use Rattle.unit_book.specs.Book.{Book}
use Rattle.any_device.specs.declared.device.AnyDevice.{AnyDevice}
use Rattle.job_script.specs.declared.fault.JobError.{JobError}
use Rattle.job_script.specs.declared.fault.JobError.TheVariants as faults
use Rattle.job_script.specs.Grammar.{script_of}
use Rattle.job_script.specs.Outcomes.{Gives}
use Rattle.job_script.specs.Reading.{ReadsAll}
use Rattle.job_script.specs.Said.{Said}
use Rattle.job_mount.specs.Mounting.{◌>>=◌, books_of, books_with}
use Rattle.job_run.specs.Ending.{EndsBy, EndsParsed, IsFaultless, IsFaultlessWith, IsLate}

-- a script that was parsed, and then has no fault, is a script without a fault
pub faultless : (text : List ℕ) (said : Said) → script_of text ≡ Ok said → IsFaultlessWith [] said → IsFaultless text
faultless text said parsed (capacity, books, made) = (capacity, books, (ap (λ r. r >>= books_of capacity) parsed ∙ made))

-- what ends the run of a script that was read and parsed
pub ends_parsed : (n : ℕ) (old new : Option (List ℕ)) (text : List ℕ) (said : Said) (fault : JobError)
    → ReadsAll n old new text → script_of text ≡ Ok said → EndsParsed [] said fault → EndsBy n old new fault
ends_parsed n old new text said (faults.Line _ _) whole parsed (inl (capacity, rejected)) =
    inl (record { text = text; whole = whole; rejected = (capacity, (ap (λ r. r >>= books_of capacity) parsed ∙ rejected)) })
ends_parsed n old new text said (faults.Line _ _) whole parsed (inr (runs, stops)) =
    inr (record {
      runs = record { text = text; whole = whole; faultless = faultless text said parsed runs };
      says = said;
      parsed = parsed;
      stops = stops;
    })
ends_parsed n old new text said faults.Unmatched whole parsed ends = absurd ends
ends_parsed n old new text said faults.NoMemory whole parsed ends = tt
ends_parsed n old new text said faults.NoThread whole parsed ends = tt
ends_parsed n old new text said faults.TooLong whole parsed ends = absurd ends
ends_parsed n old new text said faults.Unreadable whole parsed ends = absurd ends
ends_parsed n old new text said faults.NotWritten whole parsed ends = absurd ends

-- a script that cannot be mounted has this fault
pub not_mounted : {X : Type 0} (view : X → List (Book AnyDevice)) (given : List (Option AnyDevice)) (said : Said) (capacity : ℕ)
    (fault : JobError) → Gives view (Err fault) (books_with given capacity said) → EndsParsed given said fault
not_mounted view given said capacity (faults.Line _ _) rejected = inl (capacity, rejected)
not_mounted view given said capacity faults.NoMemory rejected = tt
not_mounted view given said capacity faults.NoThread rejected = tt
not_mounted view given said capacity faults.TooLong rejected = absurd rejected
not_mounted view given said capacity faults.Unreadable rejected = absurd rejected
not_mounted view given said capacity faults.NotWritten rejected = absurd rejected
not_mounted view given said capacity faults.Unmatched rejected = absurd rejected

-- what ends a run after its script was mounted
pub ends_late : (given : List (Option AnyDevice)) (said : Said) (fault : JobError)
    → IsFaultlessWith given said → IsLate said fault → EndsParsed given said fault
ends_late given said (faults.Line _ _) runs late = inr (runs, late)
ends_late given said faults.NoMemory runs late = tt
ends_late given said faults.NoThread runs late = tt
ends_late given said faults.Unmatched runs late = absurd late
ends_late given said faults.NotWritten runs late = absurd late
ends_late given said faults.TooLong runs late = absurd late
ends_late given said faults.Unreadable runs late = absurd late

-- what holds of each late fault holds of the fault of a late result
pub late_result : {A : Type 0} (r : Result A JobError) (given : List (Option AnyDevice)) (said : Said)
    → IsFaultlessWith given said → IfErr r (IsLate said) → IfErr r (EndsParsed given said)
late_result (Ok x) given said runs late = tt
late_result (Err fault) given said runs late = ends_late given said fault runs late

-- what holds of a fault holds of a result that is this fault
pub ends_with : {A E : Type 0} (r : Result A E) (fault : E) (P : E → Type 0) → IsErrAnd r (λ e. e ≡ fault) → P fault → IfErr r P
ends_with (Ok x) fault P same p = tt
ends_with (Err e) fault P same p = subst P (sym same) p
