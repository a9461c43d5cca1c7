-- Words that are joined, or read one by one.
use Rattle.std.proofs.Common.{◌≡◌, ℕ, List, ◌∷◌, sym, ap, rules, Option, Err}
use Rattle.script_words.specs.Forms.{Leaves, put_after, hex_bytes, joined}
use Rattle.script_words.specs.declared.forms.FormError.{FormError}
use Rattle.script_words.specs.declared.forms.FormError.TheVariants.{NotOfForm, OutOfMemory}
use Rattle.script_words.proofs.Joining.{joined_stops}
use Rattle.job_script.specs.declared.refusal.LineError.{LineError}
use Rattle.job_script.specs.declared.refusal.LineError.TheVariants.{Fault, NoMemory}
use Rattle.job_script.specs.declared.fault.FaultName.{FaultName}
use Rattle.job_script.specs.Forms.{formed}
use Rattle.job_script.specs.Outcomes.{IsNoBytes, Returns}

-- a word that gives no bytes
pub joined_fails : (error : FormError) (refusal : LineError) (front new word : List ℕ) (ws rest : List (List ℕ))
    (whole : Option (List ℕ)) → ws ≡ word ∷ rest → Leaves (Err error) new (put_after front (hex_bytes word)) →
    put_after front (joined ws) ≡ whole
    → IsNoBytes error refusal → Returns (λ (bytes : List ℕ). bytes) (Err refusal) (formed whole)
joined_fails NotOfForm (Fault fault) front new word ws rest whole e one so_far is =
    rw (joined_stops front word ws rest whole e one so_far) (ap (λ (n : FaultName). Err n) (sym is))
joined_fails NotOfForm NoMemory front new word ws rest whole e one so_far is = absurd is
joined_fails OutOfMemory (Fault fault) front new word ws rest whole e one so_far is = absurd (search rules)
joined_fails OutOfMemory NoMemory front new word ws rest whole e one so_far is = tt
