use Rattle.std.proofs.Common.{◌≡◌, ◌∙◌, ◌-◌, ℕ, ap, arith, length, refl, subst}
use Rattle.any_device.specs.declared.device.AnyDevice.{AnyDevice}
use Rattle.unit_world.specs.Sites.{SiteState}
use Rattle.excp_site.specs.Serving.{Begins, EndsServe, ServeRefused, Serves, StopsServing, posts_sent}
use Rattle.excp_site.specs.Sites.{SiteView}
use Rattle.excp_site.specs.declared.refusal.Refusal.TheVariants.{NoMemory}
use Rattle.excp_site.proofs.Refused.{refuses}
use Rattle.excp_site.proofs.Serving.{counted, stopped, turned}
use Rattle.excp_site.proofs.site.Site.serve.Goals as goal

pub loop-init : goal.loop-init
loop-init c =
    let s = c.args.self.now.plain in
    let max = c.args.max in
    record {
      some = omega (arith, c.if-max-eq0.false);
      most = omega arith;
      few = omega arith;
      there = c.in_ok-has_unit.ensures.there;
      serves = counted s c.args.unit 0 0 0 (max - max) s refl (omega arith) Begins;
      rest = refl;
    }

pub returns-in_err-turn-clause-refused : goal.returns-in_err-turn-clause-refused
returns-in_err-turn-clause-refused c =
    let s = c.args.self.now.plain in
    let unit = c.args.unit in
    let max = c.args.max in
    let new = c.take_turn.new.plain in
    let i = c.loop.invariant in
    let plain_is : c.self.inside.plain ≡ c.loop.self.plain = ap (λ (v : SiteView). v.plain) c.self.view_is in
    let stops = subst (λ (p : SiteState AnyDevice). StopsServing p unit c.loop.left new) plain_is c.in_err-turn.ensures.stops in
    refuses c.from_residual-in_err-turn.result NoMemory (ServeRefused s unit max new) c.from_residual-in_err-turn.ensures.1
    (c.in_ok-has_unit.ensures.there, omega (arith, i.some, i.most), stopped s c.loop.self.plain new unit max c.loop.left c.loop.posts i.most i.serves stops)

pub returns-in-Some-clause-ok : goal.returns-in-Some-clause-ok
returns-in-Some-clause-ok c =
    let s = c.args.self.now.plain in
    let unit = c.args.unit in
    let max = c.args.max in
    let new = c.take_turn.new.plain in
    let turn = c.in_ok-turn.turn in
    let i = c.loop.invariant in
    let left = c.loop.left - turn.commands in
    let plain_is : c.self.inside.plain ≡ c.loop.self.plain = ap (λ (v : SiteView). v.plain) c.self.view_is in
    let did = subst (λ (p : SiteState AnyDevice). Serves p unit (posts_sent turn.delivery) turn.commands new) plain_is c.in_ok-turn.ensures.serves in
    let left_is : left ≡ max - (max - left) = omega (arith, i.most) in
    record {
      there = c.in_ok-has_unit.ensures.there;
      some = omega (arith, i.some, i.most);
      serves = turned s c.loop.self.plain new unit max c.loop.left c.loop.posts c.posts_sent-posts.result turn.commands turn.delivery i.most
          c.in_ok-turn.ensures.most c.posts_sent-posts.ensures.value i.serves did;
      most = omega arith;
      end = c.in-Some.ended;
      ended_is = c.end_number.ensures;
      ends = subst (λ (n : ℕ). EndsServe new unit n c.in-Some.ended) left_is c.in-Some.ensures.why;
    }

pub loop-preserved : goal.loop-preserved
loop-preserved c =
    let s = c.args.self.now.plain in
    let unit = c.args.unit in
    let max = c.args.max in
    let new = c.take_turn.new.plain in
    let turn = c.in_ok-turn.turn in
    let i = c.loop.invariant in
    let plain_is : c.self.inside.plain ≡ c.loop.self.plain = ap (λ (v : SiteView). v.plain) c.self.view_is in
    let did = subst (λ (p : SiteState AnyDevice). Serves p unit (posts_sent turn.delivery) turn.commands new) plain_is c.in_ok-turn.ensures.serves in
    record {
      some = c.in_default.ensures.none;
      most = omega (arith, i.most);
      few = omega (arith, i.few, c.posts_sent-posts.ensures.few);
      there = omega (arith, c.in_ok-turn.ensures.units, i.there, ap (λ (p : SiteState AnyDevice). length p.units) plain_is);
      serves = turned s c.loop.self.plain new unit max c.loop.left c.loop.posts c.posts_sent-posts.result turn.commands turn.delivery i.most
          c.in_ok-turn.ensures.most c.posts_sent-posts.ensures.value i.serves did;
      rest = ap (λ (v : SiteView). record v { plain = new }) (c.self.view_is ∙ i.rest);
    }
