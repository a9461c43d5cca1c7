use Rattle.std.proofs.Common.{◌<◌, ◌∙◌, ap, length, subst, sym}
use Rattle.any_device.specs.declared.device.AnyDevice.{AnyDevice}
use Rattle.unit_book.specs.Book.{Book}
use Rattle.unit_world.specs.Parts.{IsFinishedPart}
use Rattle.unit_world.specs.Sites.{IsAtRest}
use Rattle.excp_site.specs.Sites.{SiteView}
use Rattle.excp_site.proofs.Resting.{nil-of, not-both, on-true, part-there}
use Rattle.excp_site.proofs.site.Site.is_at_rest.Goals as goal

pub returns-then-not-is_finished-clause-busy : goal.returns-then-not-is_finished-clause-busy
returns-then-not-is_finished-clause-busy c =
    subst (λ (v : SiteView). c.args.unit < length v.plain.units → IsAtRest v.plain c.args.unit → ⊥) c.self.view_is
    (λ within rest. part-there c.self.inside.plain c.args.unit within rest.finished
    (λ p at is. not-both c.is_finished.result (IsFinishedPart p) (c.is_finished.ensures p at) c.if-not-is_finished.true is)) c.requires.unit

pub returns-then-out_len-ne0-clause-busy : goal.returns-then-out_len-ne0-clause-busy
returns-then-out_len-ne0-clause-busy c =
    subst (λ (v : SiteView). c.args.unit < length v.plain.units → IsAtRest v.plain c.args.unit → ⊥) c.self.view_is
    (λ within rest. part-there c.self.inside.plain c.args.unit within rest.out
    (λ p at is. c.if-out_len-ne0.true (c.out_len.ensures ∙ ap (λ (b : Book AnyDevice). length b.out) (c.book.ensures p at) ∙ ap length is))) c.requires.unit

pub returns-clause-rest : goal.returns-clause-rest
returns-clause-rest c =
    on-true c.is_collected.result
    (λ y. subst (λ (v : SiteView). IsAtRest v.plain c.args.unit) c.self.view_is
    (record {
      finished = λ p at. (c.is_finished.ensures p at).0 c.if-not-is_finished.false;
      out = λ p at. nil-of p.book.out (sym (ap (λ (b : Book AnyDevice). length b.out) (c.book.ensures p at)) ∙ sym c.out_len.ensures ∙ c.if-out_len-ne0.false);
      collected = sym c.is_collected.ensures ∙ y;
    }))
