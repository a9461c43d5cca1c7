-- Lines that are read one after the other.
use Rattle.std.proofs.Common.{◌≡◌, ◌+◌, ℕ, List, ◌∷◌, Option, Some, None, Result, Ok, Err, refl, sym, ◌∙◌}
use Rattle.script_words.specs.Text.{lines, lines_left}
use Rattle.job_script.specs.declared.fault.JobError.{JobError}
use Rattle.job_script.specs.declared.fault.JobError.TheVariants as faults
use Rattle.job_script.specs.Grammar.{FaultAt, at_end, lines_from, script_of, script_with_line}
use Rattle.job_script.specs.Outcomes.{Gives, ReportsAt}
use Rattle.job_script.specs.Said.{Said, nothing}
use Rattle.job_script.specs.Views.{said}

-- one line more
pub goes_on : (n : ℕ) (s next : Said) (left after : Option (List ℕ)) (text line : List ℕ) (whole : Result Said FaultAt) → left ≡ Some text
    → lines text ≡ line ∷ lines_left after → script_with_line n line s ≡ Ok next → lines_from n s (lines_left left) ≡ whole
    → lines_from (n + 1) next (lines_left after) ≡ whole
unfolding lines_from
goes_on n s next left after text line whole is parts one so_far =
    let step : lines_from n s (lines_left left) ≡ lines_from (n + 1) next (lines_left after) = rw (is, parts, one) refl in
    sym step ∙ so_far

-- a line with a fault ends the lines
stop_at : (n at : ℕ) (s : Said) (left : Option (List ℕ)) (text line : List ℕ) (more : List (List ℕ)) (whole : List ℕ) (fault : FaultAt)
    → left ≡ Some text → lines text ≡ line ∷ more → fault.line ≡ n → script_with_line n line s ≡ Err fault.name
    → lines_from n s (lines_left left) ≡ lines_from 1 nothing (lines whole) → script_of whole ≡ Err fault
unfolding lines_from script_of
stop_at n at s left text line more whole fault is parts same_line one so_far =
    let step : lines_from n s (lines_left left) ≡ Err (record { line = n; name = fault.name }) = rw (is, parts, one) refl in
    let same : lines_from 1 nothing (lines whole) ≡ Err fault = sym so_far ∙ step ∙ rw (sym same_line) refl in
    rw same refl

pub stops : (e : JobError) (n : ℕ) (s : Said) (left : Option (List ℕ)) (text line : List ℕ) (more : List (List ℕ)) (whole : List ℕ)
    → left ≡ Some text → lines text ≡ line ∷ more → ReportsAt n e (script_with_line n line s)
    → lines_from n s (lines_left left) ≡ lines_from 1 nothing (lines whole) → Gives said (Err e) (script_of whole)
stops (faults.Line at f) n s left text line more whole is parts one so_far =
    stop_at n at s left text line more whole (record { line = at; name = f }) is parts one.0 one.1 so_far
stops faults.NoMemory n s left text line more whole is parts one so_far = tt
stops faults.TooLong n s left text line more whole is parts one so_far = absurd one
stops faults.Unreadable n s left text line more whole is parts one so_far = absurd one
stops faults.NotWritten n s left text line more whole is parts one so_far = absurd one
stops faults.Unmatched n s left text line more whole is parts one so_far = absurd one
stops faults.NoThread n s left text line more whole is parts one so_far = absurd one

-- after the last line
pub ends : (n : ℕ) (s : Said) (left : Option (List ℕ)) (whole : List ℕ) → left ≡ None
    → lines_from n s (lines_left left) ≡ lines_from 1 nothing (lines whole) → script_of whole ≡ at_end (Ok s)
unfolding lines_from script_of
ends n s left whole is so_far =
    let step : lines_from n s (lines_left left) ≡ Ok s = rw is refl in
    let same : lines_from 1 nothing (lines whole) ≡ Ok s = sym so_far ∙ step in
    rw same refl
