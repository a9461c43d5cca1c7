use Rattle.std.proofs.Common.{◌≡◌, ◌∙◌, [], ap, subst, sym}
use Rattle.std.specs.Option.{option_copied}
use Rattle.unit_world.specs.PostLists.{list_of}
use Rattle.excp_site.specs.Sites.{SiteView}
use Rattle.excp_site.proofs.Refused.{no-first}
use Rattle.excp_site.proofs.site.Site.post.Goals as goal

pub returns-in-None-clause-refused : goal.returns-in-None-clause-refused
returns-in-None-clause-refused c = (
  c.in_ok-has_task.ensures.there,
  subst (λ (s : SiteView). list_of s.plain.rows c.args.task ≡ []) c.self.view_is
      (no-first (list_of c.self.inside.plain.rows c.args.task) (sym c.post.ensures ∙ ap option_copied c.in-None.is)),
)
