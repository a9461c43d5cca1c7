-- What a task has sent to a unit are the requests of its EXCPs to the unit, in order.
use Rattle.std.proofs.Common.{◌≡◌, ℕ, zero, suc, ◌+◌, ◌<◌, ◌≤◌, ◌==◌, Bool, true, false, if◌then◌else◌, List, [], ◌∷◌, ◌++◌, length, map, replicate, refl, sym, ap, ◌∙◌, arith, append_assoc, append-nil, length-append, ◌≢◌}
use Rattle.std.specs.Prelude.{slice_index_or}
use Rattle.std.proofs.lemmas.Bool.{eqb-true}
use Rattle.std.proofs.lemmas.Bool.Decides.{nat_tests}
use Rattle.std.proofs.lemmas.List.{get_or-set_other, length-set}
use Rattle.std.proofs.lemmas.Grind.{get_or-set_at}
use Rattle.excp_system.proofs.Places.{index_replicate}
use Rattle.request_piece.specs.declared.piece.Piece.{Piece}
use Rattle.job_script.specs.declared.command.Action.{Action}
use Rattle.job_script.specs.declared.command.Action.TheVariants.{Excp, Purge, PurgeTask, Close, Reset, Wait}
use Rattle.job_script.specs.declared.command.ScriptCommand.{ScriptCommand}
use Rattle.job_script.specs.declared.command.Excp.{Excp as OneExcp}
use Rattle.job_script.specs.Said.{ExcpSaid}
use Rattle.job_script.specs.Views.{action_said, command_said, excp_said}
use Rattle.job_run.specs.Requests.{excp_to, excps, excp_piece, requests_from}
use Rattle.job_run.specs.Sending.{does_all, sends, sends_excp}
use Rattle.job_run.proofs.Sent.{sends_all}

-- what stands at a unit
abbrev at : List (List Piece) → ℕ → List Piece
at sent unit = slice_index_or sent unit []

-- the requests of these EXCPs come behind
abbrev grown : ℕ → List Piece → List ExcpSaid → List Piece
grown task before es = before ++ requests_from task (length before + 1) es

grown_none : (task : ℕ) (before : List Piece) → grown task before [] ≡ before
unfolding requests_from
grown_none task before = append-nil before

grown_one : (task : ℕ) (before : List Piece) (e : ExcpSaid) (es : List ExcpSaid) →
    grown task before (e ∷ es) ≡ grown task (before ++ excp_piece task (length before + 1) e ∷ []) es
unfolding requests_from
grown_one task before e es =
    let r : Piece = excp_piece task (length before + 1) e in
    let size : length (before ++ r ∷ []) ≡ length before + 1 = length-append before (r ∷ []) in
    sym (append_assoc before (r ∷ []) (requests_from task (length before + 1 + 1) es))
    ∙ ap (λ (n : ℕ). (before ++ r ∷ []) ++ requests_from task (n + 1) es) (sym size)

-- what an EXCP sends to the unit
excp_by : (task unit : ℕ) (e : OneExcp) (sent : List (List Piece)) (rest : List ExcpSaid) → unit < length sent →
    (b : Bool) → (e.dcb.unit == unit) ≡ b →
    grown task (at (sends_excp task e sent) unit) rest ≡ grown task (at sent unit) ((if b then excp_said e ∷ [] else []) ++ rest)
excp_by task unit e sent rest within true same =
    let is : e.dcb.unit ≡ unit = eqb-true e.dcb.unit unit same in
    let before : List Piece = at sent e.dcb.unit in
    let all : List Piece = before ++ excp_piece task (length before + 1) (excp_said e) ∷ [] in
    let inside : e.dcb.unit < length sent = omega (arith, is, within) in
    let put : at (sends_excp task e sent) unit ≡ at sent unit ++ excp_piece task (length (at sent unit) + 1) (excp_said e) ∷ [] =
    get_or-set_at sent e.dcb.unit unit all [] (sym is) inside
    ∙ ap (λ (i : ℕ). at sent i ++ excp_piece task (length (at sent i) + 1) (excp_said e) ∷ []) is in
    ap (λ (l : List Piece). grown task l rest) put ∙ sym (grown_one task (at sent unit) (excp_said e) rest)
excp_by task unit e sent rest within false other =
    let before : List Piece = at sent e.dcb.unit in
    let apart : unit ≢ e.dcb.unit = grind (arith, nat_tests, other) in
    ap (λ (l : List Piece). grown task l rest)
    (get_or-set_other sent e.dcb.unit unit (before ++ excp_piece task (length before + 1) (excp_said e) ∷ []) [] apart)

-- what an action sends to the unit
sends_to : (task unit : ℕ) (a : Action) (sent : List (List Piece)) (rest : List ExcpSaid) → unit < length sent →
    grown task (at (sends task a sent) unit) rest ≡ grown task (at sent unit) (excp_to unit (action_said a) ++ rest)
sends_to task unit (Excp e) sent rest within = excp_by task unit e sent rest within (e.dcb.unit == unit) refl
sends_to task unit (Purge dcb mode) sent rest within = refl
sends_to task unit (PurgeTask n mode) sent rest within = refl
sends_to task unit (Close dcb) sent rest within = refl
sends_to task unit (Reset dcb) sent rest within = refl
sends_to task unit Wait sent rest within = refl

sends_keep : (task : ℕ) (a : Action) (sent : List (List Piece)) → length (sends task a sent) ≡ length sent
sends_keep task (Excp e) sent =
    let before : List Piece = at sent e.dcb.unit in
    length-set sent e.dcb.unit (before ++ excp_piece task (length before + 1) (excp_said e) ∷ [])
sends_keep task (Purge dcb mode) sent = refl
sends_keep task (PurgeTask n mode) sent = refl
sends_keep task (Close dcb) sent = refl
sends_keep task (Reset dcb) sent = refl
sends_keep task Wait sent = refl

one_by : (task unit : ℕ) (b : Bool) (c : ScriptCommand) (sent : List (List Piece)) (rest : List ExcpSaid) → unit < length sent →
    grown task (at (if b then sends task c.action sent else sent) unit) rest
    ≡ grown task (at sent unit) ((if b then excp_to unit (action_said c.action) else []) ++ rest)
one_by task unit true c sent rest within = sends_to task unit c.action sent rest within
one_by task unit false c sent rest within = refl

keep_by : (task : ℕ) (b : Bool) (c : ScriptCommand) (sent : List (List Piece)) →
    length (if b then sends task c.action sent else sent) ≡ length sent
keep_by task true c sent = sends_keep task c.action sent
keep_by task false c sent = refl

length_requests : (task k : ℕ) (es : List ExcpSaid) → length (requests_from task k es) ≡ length es
unfolding requests_from
length_requests task k [] = refl
length_requests task k (e ∷ es) = ap suc (length_requests task (k + 1) es)

sends_length : (task : ℕ) (commands : List ScriptCommand) (sent : List (List Piece)) → length (sends_all task commands sent) ≡ length sent
unfolding does_all
sends_length task [] sent = refl
sends_length task (c ∷ others) sent =
    let b : Bool = c.task == task in
    sends_length task others (if b then sends task c.action sent else sent) ∙ keep_by task b c sent

inside : (sent : List (List Piece)) (unit : ℕ) → 1 ≤ length (at sent unit) → unit < length sent
inside [] unit some = absurd (omega (arith, some))
inside (x ∷ xs) zero some = omega arith
inside (x ∷ xs) (suc k) some = let less = inside xs k some in omega (arith, less)

-- WHAT A TASK SENDS to a unit: the requests of its EXCPs to the unit, behind what it had sent
pub sends_requests : (task unit : ℕ) (commands : List ScriptCommand) (sent : List (List Piece)) → unit < length sent →
    at (sends_all task commands sent) unit ≡ grown task (at sent unit) (excps task unit (map command_said commands))
unfolding does_all excps
sends_requests task unit [] sent within = sym (grown_none task (at sent unit))
sends_requests task unit (c ∷ others) sent within =
    let b : Bool = c.task == task in
    let next : List (List Piece) = if b then sends task c.action sent else sent in
    let size : length next ≡ length sent = keep_by task b c sent in
    sends_requests task unit others next (omega (arith, size, within))
    ∙ one_by task unit b c sent (excps task unit (map command_said others)) within

-- a task that had sent nothing has sent as many requests to a unit as it has EXCPs there
pub sends_count : (task units unit : ℕ) (commands : List ScriptCommand) →
    1 ≤ length (at (sends_all task commands (replicate units [])) unit) →
    length (at (sends_all task commands (replicate units [])) unit) ≡ length (excps task unit (map command_said commands))
sends_count task units unit commands some =
    let none : List (List Piece) = replicate units [] in
    let within : unit < length none = omega (arith, inside (sends_all task commands none) unit some, sends_length task commands none) in
    ap (λ (l : List Piece). length l) (sends_requests task unit commands none within
    ∙ ap (λ (l : List Piece). grown task l (excps task unit (map command_said commands))) (index_replicate units unit []))
    ∙ length_requests task 1 (excps task unit (map command_said commands))
