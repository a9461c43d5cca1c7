-- THE REQUESTS OF A TASK TO A UNIT, by the commands of a script (profile).
use Rattle.std.specs.Prelude.{◌==◌, ◌+◌, ℕ, List, [], ◌∷◌, ◌++◌, if◌then◌else◌}
use Rattle.request_piece.specs.Requests.{request_of}
use Rattle.request_piece.specs.declared.piece.Piece.{Piece}
use Rattle.job_script.specs.Said.{ActionSaid, CommandSaid, ExcpSaid, close, excp, purge, purge_task, reset, wait}

-- the EXCP to a unit that an action is, if it is one
abbrev pub excp_to : ℕ → ActionSaid → List ExcpSaid
excp_to unit (excp e) = if e.dcb.unit == unit then e ∷ [] else []
excp_to unit (purge dcb mode) = []
excp_to unit (purge_task other mode) = []
excp_to unit (close dcb) = []
excp_to unit (reset dcb) = []
excp_to unit wait = []

-- the EXCPs of a task to a unit, in order
unfoldable pub excps : ℕ → ℕ → List CommandSaid → List ExcpSaid
excps task unit [] = []
excps task unit (c ∷ others) = (if c.task == task then excp_to unit c.action else []) ++ excps task unit others

-- the request of an EXCP, under a number
abbrev pub excp_piece : ℕ → ℕ → ExcpSaid → Piece
excp_piece task k e = request_of (record { task = task; seq = k }) e.dcb.unit e.dcb.number e.iob e.area

-- their requests, numbered from k
unfoldable pub requests_from : ℕ → ℕ → List ExcpSaid → List Piece
requests_from task k [] = []
requests_from task k (e ∷ es) = excp_piece task k e ∷ requests_from task (k + 1) es
