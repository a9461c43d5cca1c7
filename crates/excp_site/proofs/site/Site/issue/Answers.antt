use Rattle.std.proofs.Common.{◌≡◌, ◌∙◌, Some, subst, sym}
use Rattle.request_piece.specs.declared.piece.Piece.{Piece}
use Rattle.unit_world.specs.Parts.{next_name_of}
use Rattle.unit_world.specs.Sites.{OnPart}
use Rattle.excp_site.proofs.Refused.{next-of-task}
use Rattle.excp_site.proofs.site.Site.issue.Goals as goal

pub accept-requires-clause-next : goal.accept-requires-clause-next
accept-requires-clause-next c =
    subst (λ (r : Piece). OnPart c.self.inside.plain r.unit (λ p. next_name_of p.issued r.name.task ≡ Some r.name)) (sym c.in-Ok.ensures.request)
    (λ part at. next-of-task part.issued c.args.task c.in-Some.name (sym (c.next_name.ensures part at) ∙ c.in-Some.is))
