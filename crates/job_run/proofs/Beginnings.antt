-- What the units of a script began with, from what their run returns.
use Rattle.std.proofs.Common.{◌≡◌, ℕ, Result, Ok, Err, IfOk, List, map}
use Rattle.std.specs.Prelude.{Option, Vec}
use Rattle.std.specs.declared.alloc.Global.{Global}
use Rattle.any_device.specs.declared.device.AnyDevice.{AnyDevice}
use Rattle.unit_book.specs.Book.{Book}
use Rattle.excp_system.specs.Begun.{AreBegun}
use Rattle.post_ledger.proofs.Pairs.{map_get}
use Rattle.job_mount.specs.Mounting.{books_with}
use Rattle.job_mount.specs.Outcomes.{all_without_spare, without_spare}
use Rattle.job_script.specs.Said.{Said}
use Rattle.job_script.specs.declared.fault.JobError.{JobError}
use Rattle.job_run.specs.declared.run.Finished.{Finished}
use Rattle.job_run.specs.Beginning.{AreBegunWith}
use Rattle.job_run.specs.Controls.{AreControlledAs}

-- the room that a trace has does not matter
apart_from_spare : (first books : List (Book AnyDevice)) → AreBegun first books → AreBegun (map without_spare first) books
apart_from_spare first books began unit b at =
    let h = began unit b at in
    record {
      first = without_spare h.first;
      is = map_get without_spare first unit h.first h.is;
      continues = record {
        mounted = h.continues.mounted;
        isc = h.continues.isc;
        capacity = h.continues.capacity;
        later = h.continues.later;
        grew = h.continues.grew;
      };
    }

controlled_apart : (s : Said) (first books : List (Book AnyDevice)) → AreControlledAs s first books →
    AreControlledAs s (map without_spare first) books
controlled_apart s first books known unit b at =
    let h = known unit b at in
    record {
      first = without_spare h.first;
      is = map_get without_spare first unit h.first h.is;
      asked = h.asked;
      controlled = h.controlled;
      by_tasks = h.by_tasks;
      no_other = h.no_other;
    }

-- what holds of a result by two facts
both : {A E : Type 0} (r : Result A E) (P Q R : A → Type 0) → ((x : A) → P x → Q x → R x) → IfOk r P → IfOk r Q → IfOk r R
both (Ok x) P Q R f p q = f x p q
both (Err e) P Q R f p q = tt

pub begun_with : {N : Type 0} (r : Result (Finished N) JobError) (given : List (Option AnyDevice)) (s : Said) (capacity : ℕ)
    (first : Vec (Book AnyDevice) Global) → books_with given capacity s ≡ Ok (all_without_spare first) →
    IfOk r (λ (f : Finished N). AreBegun first.items f.report.books) → IfOk r (λ (f : Finished N). AreControlledAs s first.items f.report.books) →
    IfOk r (λ (f : Finished N). AreBegunWith given s f.report.books)
begun_with {N} r given s capacity first mounted =
    both r (λ (f : Finished N). AreBegun first.items f.report.books) (λ (f : Finished N). AreControlledAs s first.items f.report.books)
    (λ (f : Finished N). AreBegunWith given s f.report.books)
    (λ f began controlled. record {
      capacity = capacity;
      first_books = all_without_spare first;
      mounted = mounted;
      began = apart_from_spare first.items f.report.books began;
      controlled = controlled_apart s first.items f.report.books controlled;
    })
