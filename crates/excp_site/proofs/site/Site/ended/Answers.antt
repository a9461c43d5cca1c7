use Rattle.std.proofs.Common.{subst}
use Rattle.unit_book.specs.declared.answer.Delivery.{Delivery}
use Rattle.unit_world.specs.Parts.{IsFinishedPart}
use Rattle.unit_world.specs.Sites.{OnPart}
use Rattle.excp_site.specs.Serving.{OnDelivery}
use Rattle.excp_site.specs.Sites.{SiteView}
use Rattle.excp_site.proofs.site.Site.ended.Goals as goal

pub returns-in-Quiet-clause-why : goal.returns-in-Quiet-clause-why
returns-in-Quiet-clause-why c = record {
  finished = subst (λ (v : SiteView). OnPart v.plain c.args.unit IsFinishedPart) c.self.view_is
      (λ p at. (c.is_finished.ensures p at).0 c.if-is_finished.true);
  out = subst (λ (d : Delivery). OnDelivery c.args.self.now.plain c.args.unit d) c.in-Quiet.is c.requires.delivery;
}
