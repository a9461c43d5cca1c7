-- The tasks of a system stay at their places when one of them issues or collects.
use Rattle.std.proofs.Common.{◌≡◌, Result, Ok, Err, OnOk, OnErr, ap}
use Rattle.request_piece.specs.declared.piece.Piece.{Piece}
use Rattle.excp_system.specs.Calls.{Issues}
use Rattle.excp_system.specs.States.{TaskState}

-- a task that issues a request, or finds no room for it, keeps its number
pub number_kept : {E : Type 0} (r : Result (Unit {0}) E) (old new : TaskState) (request : Piece) → OnOk r (Issues old request new) →
    OnErr r (new ≡ old)
    → new.number ≡ old.number
number_kept (Ok x) old new request issues same = ap (λ (t : TaskState). t.number) issues
number_kept (Err e) old new request issues same = ap (λ (t : TaskState). t.number) same
