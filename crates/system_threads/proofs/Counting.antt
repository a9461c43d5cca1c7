-- How many requests a task sent, and how many posts it awaits.
use Rattle.std.proofs.Common.{◌≡◌, ◌<◌, ◌≤◌, ◌+◌, ◌-◌, ◌*◌, ◌^◌, ℕ, List, [], ◌∷◌, ◌++◌, length, set, sym, ap, arith}
use Rattle.std.proofs.Common.{length-append, get_or}
use Rattle.std.specs.Prelude.{min}
use Rattle.std.specs.List.{All, sum_by}
use Rattle.std.proofs.lemmas.List.Sums.{sum_by-le, sum_by-set}
use Rattle.std.proofs.lemmas.List.Folds.{sum_by-replicate}
use Rattle.request_piece.specs.declared.piece.Piece.{Piece}
use Rattle.excp_system.specs.Calls.{Issues}
use Rattle.excp_system.specs.Opening.{fresh_task}
use Rattle.excp_system.specs.States.{TaskState, awaited_count, sent_count}
use Rattle.system_threads.specs.Counting.{HasCounted}

-- one more request
pub one_more : (t new : TaskState) (r : Piece) → r.unit < length t.sent → Issues t r new → sent_count new ≡ sent_count t + 1
one_more t new r lt is =
    let before : List Piece = get_or t.sent r.unit [] in
    let after : List Piece = before ++ r ∷ [] in
    let same : sent_count new ≡ sum_by length (set t.sent r.unit after) = ap sent_count is in
    omega (arith, same, sum_by-set length t.sent r.unit after [] lt, length-append before (r ∷ []))

-- a task sends no more requests than a count of 64 bits can count
pub few_requests : (t : TaskState) (units : ℕ) → length t.sent ≡ units → units < 2 ^ 16 →
    All (λ requests. length requests ≤ 2 ^ 32 - 1) t.sent → sent_count t < 2 ^ 48
few_requests t units count few_units few =
    omega (arith, sum_by-le length (2 ^ 32 - 1) t.sent few, count, few_units)

-- what it awaits is counted
pub awaits : (t : TaskState) (issued collected : ℕ) → HasCounted t issued collected → sent_count t < 2 ^ 48 →
    issued - collected ≡ awaited_count t
awaits t issued collected counted few = omega (arith, counted.issued_is, counted.collected_is, few)

-- a task that has sent nothing
pub fresh_counted : (t : TaskState) (units number : ℕ) → t ≡ fresh_task units number → HasCounted t 0 0
fresh_counted t units number is = record {
  issued_is = omega (arith, ap sent_count is, sum_by-replicate (λ (l : List Piece). length l) units []);
  collected_is = sym (ap (λ (w : TaskState). min (length w.got) (2 ^ 64 - 1)) is);
}
