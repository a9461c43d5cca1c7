use Rattle.std.proofs.Common.{◌≡◌, ◌<◌, ◌+◌, ◌^◌, List, [], ◌∷◌, ◌++◌, length, rules, ap, ◌∙◌, arith, length-append}
use Rattle.request_piece.specs.declared.piece.Name.{Name}
use Rattle.request_piece.specs.declared.piece.Piece.{Piece}
use Rattle.excp_system.specs.Fans.{sent_to}
use Rattle.excp_system.specs.States.{TaskState, sent_by}
use Rattle.excp_system.proofs.Makes.{task_sends}
use Rattle.excp_system.proofs.task.Task.excp.Goals as goal

pub invariant_of-self : goal.invariant_of-self
invariant_of-self g c =
    let out = c.self.inside.out in
    let unit = c.args.request.unit in
    let before : List Piece = sent_to out c.unit-unit.result in
    let number : c.args.request.name.seq ≡ length (sent_by c.args.self.now unit) + 1 = ap (λ (n : Name). n.seq) c.requires.name in
    let sent : length before ≡ length (sent_by c.args.self.now unit) =
    ap (λ u. length (sent_to out u)) c.unit-unit.ensures ∙ ap (λ (t : TaskState). length (sent_by t unit)) c.self.view_is in
    let same : c.name-name.result.seq ≡ c.args.request.name.seq = ap (λ (n : Name). n.seq) c.name-name.ensures in
    let fits : c.name-name.result.seq < 2 ^ 32 = search rules in
    task_sends g.S.Site.rows c.self.inside.number c.unit-unit.result out c.send.new.self c.self.inside.collected c.self.inside.pens
    (before ++ c.new.result ∷ []) c.send.result c.self.invariant c.send.ensures.sent c.send.ensures.unchanged
    (omega (arith, number, sent, same, fits, length-append before (c.new.result ∷ [])))
