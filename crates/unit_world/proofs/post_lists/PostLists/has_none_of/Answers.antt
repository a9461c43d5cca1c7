use Rattle.std.proofs.Common.{◌==◌, ◌∙◌, ap, not, sym}
use Rattle.std.specs.List.{list_all}
use Rattle.std.proofs.lemmas.List.Folds.{list_all-map}
use Rattle.unit_world.specs.PostLists.{PostLists}
use Rattle.unit_world.proofs.post_lists.PostLists.has_none_of.Goals as goal

pub returns : goal.returns
returns c =
    c.rings_have_none_of.ensures
    ∙ ap (list_all (λ r. list_all (λ v. not (v.unit == c.args.unit)) r.items)) c.deref.ensures.value
    ∙ sym (list_all-map (list_all (λ v. not (v.unit == c.args.unit))) (λ r. r.items) c.self.inside.rings.items)
    ∙ ap (λ (p : PostLists). list_all (list_all (λ v. not (v.unit == c.args.unit))) p.lists) c.self.view_is
