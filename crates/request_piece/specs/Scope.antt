-- Whose requests a purge speaks of.
use Rattle.std.specs.Prelude.{◌==◌, Bool}
use Rattle.request_piece.specs.declared.piece.Piece.{Piece}
use Rattle.request_piece.specs.declared.scope.Scope.{Scope}
use Rattle.request_piece.specs.declared.scope.Scope.TheVariants.{Dcb, Task}

-- a request is of the scope: it has the DCB, or is of the task
abbrev pub covers : Scope → Piece → Bool
covers (Dcb dcb) r = dcb == r.dcb
covers (Task task) r = task == r.name.task
