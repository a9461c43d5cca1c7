use Rattle.std.proofs.Common.{◌≡◌, ◌<◌, length, subst, sym}
use Rattle.std.specs.Prelude.{IfSome, IfNone}
use Rattle.unit_world.specs.PostLists.{PostLists, list_of}
use Rattle.unit_world.specs.Sites.{SiteState, IsSite}
use Rattle.unit_world.proofs.Deliveries.{collect-keeps, collect-none, collect-unit}
use Rattle.unit_world.proofs.Sites.{view_of}
use Rattle.unit_world.proofs.States.{on-none, on-some-value}
use Rattle.unit_world.proofs.site.PlainSite.collect.Goals as goal

pub invariant_of-self : goal.invariant_of-self
invariant_of-self g c =
    let meaning = g.D.Device.meaning in
    let i = c.self.inside in
    let items = i.units.items in
    let old = view_of items i.rows in
    subst (λ (l : PostLists). IsSite meaning (view_of items l)) (sym c.pop.ensures.rest)
    (collect-keeps meaning old c.args.task c.self.invariant)

pub returns-clause-of_unit : goal.returns-clause-of_unit
returns-clause-of_unit g c =
    let meaning = g.D.Device.meaning in
    let i = c.self.inside in
    let items = i.units.items in
    let old = view_of items i.rows in
    subst (λ (s : SiteState _). IfSome c.pop.result (λ v. v.unit < length s.units)) c.self.view_is
    (on-some-value c.pop.result (list_of i.rows.lists c.args.task) c.pop.ensures.first
    (λ value first. collect-unit meaning old c.args.task c.self.invariant value first))

pub returns-clause-none : goal.returns-clause-none
returns-clause-none g c =
    let meaning = g.D.Device.meaning in
    let i = c.self.inside in
    let items = i.units.items in
    let old = view_of items i.rows in
    subst (λ (s : SiteState _). IfNone c.pop.result (view_of items c.pop.new.self ≡ s)) c.self.view_is
    (on-none c.pop.result (list_of i.rows.lists c.args.task) c.pop.ensures.first
    (λ none. subst (λ (l : PostLists). view_of items l ≡ old) (sym c.pop.ensures.rest)
    (collect-none meaning old c.args.task c.self.invariant none)))
