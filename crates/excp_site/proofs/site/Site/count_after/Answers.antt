use Rattle.std.proofs.Common.{◌≡◌, ◌+◌, ◌^◌, ◌-◌, ◌∙◌, Some, ap, min, subst, sym}
use Rattle.std.specs.Prelude.{slice_get}
use Rattle.excp_site.specs.Sites.{SiteView, earlier_of}
use Rattle.excp_site.proofs.site.Site.count_after.Goals as goal

pub returns : goal.returns
returns c = λ part at.
    let here = subst (λ (v : SiteView). slice_get v.plain.units c.args.unit ≡ Some part) (sym c.self.view_is) at in
    c.saturating_add.ensures ∙ ap (λ n. min (n + c.from.result) (2 ^ 64 - 1)) c.earlier_of.ensures
    ∙ ap (λ n. min (earlier_of c.args.self.now c.args.unit c.args.task + n) (2 ^ 64 - 1)) (c.from.ensures ∙ c.issued_by.ensures part here)
