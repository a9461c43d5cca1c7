use Rattle.std.proofs.Common.{◌≡◌, ◌∙◌, ℕ, List, Option, Some, None, ap, map, refl, set, slice_index_or, subst, sym}
use Rattle.std.specs.List.{slice_get}
use Rattle.std.specs.Prelude.{slice_set}
use Rattle.std.specs.Vec.{with_item}
use Rattle.std.proofs.lemmas.List.{map-set}
use Rattle.any_device.specs.declared.device.AnyDevice.{AnyDevice}
use Rattle.medium_image.specs.declared.image.Kept.{Kept}
use Rattle.unit_book.specs.Book.{Book}
use Rattle.unit_world.specs.Sites.{IsAtRest, OnPart, SiteState}
use Rattle.excp_site.specs.Checkpoints.{CheckpointRefused, Checkpoints, BesideAfter, IsFlagged, counts_after}
use Rattle.excp_site.specs.Looks.{device_now}
use Rattle.excp_site.specs.Sites.{SiteView, beside_of}
use Rattle.excp_site.specs.contracts.site.Site.{the_view}
use Rattle.excp_site.specs.declared.refusal.Refusal.TheVariants.{NoMemory}
use Rattle.excp_site.proofs.Refused.{refuses}
use Rattle.excp_site.proofs.site.Site.checkpoint.Goals as goal

pub returns-clause-ok : goal.returns-clause-ok
returns-clause-ok c =
    let s = c.args.self.now in
    let unit = c.args.unit in
    let pruned = c.forget_written.new.self in
    let i = c.self-2.inside in
    let r = c.renew.ensures in
    let now : SiteView = the_view i in
    let is : now ≡ record s { beside = pruned.beside } = c.self-2.view_is ∙ c.forget_written.ensures.rest in
    let old : SiteView = record now { beside = s.beside } in
    let same : old ≡ s = ap (λ (v : SiteView). record v { beside = s.beside }) is in
    let plain_is : i.plain ≡ c.self.inside.plain = ap (λ (v : SiteView). v.plain) is ∙ sym (ap (λ (v : SiteView). v.plain) c.self.view_is) in
    let counts = subst (λ (v : SiteView). OnPart v.plain unit (λ p. c.in_ok-counts.counts.items ≡ counts_after v unit p)) (sym same)
    c.in_ok-counts.ensures in
    let beside_is : i.beside.items ≡ pruned.beside = ap (λ (v : SiteView). v.beside) c.self-2.view_is in
    let image = subst (λ (v : SiteView). OnPart v.plain unit (λ p. BesideAfter (beside_of v unit) p.book.mounted (device_now p.book) (beside_of pruned unit)))
    (sym same) c.forget_written.ensures.image in
    let new : SiteView = record now { plain = c.renew.new.self; earlier = map (λ e. e.items) (with_item i.earlier c.from.result c.in_ok-counts.counts).items } in
    subst (λ (v : SiteView). Checkpoints v unit new) same
    (record {
      at_rest = subst (λ (v : SiteView). IsAtRest v.plain unit) (sym same) c.if-not-is_at_rest.ensures.rest;
      no_error = λ p here. subst (λ (b : Book AnyDevice). IsFlagged b → ⊥)
          (c.book.ensures p (subst (λ (x : SiteState AnyDevice). slice_get x.units unit ≡ Some p) plain_is here)) c.if-has_error.ensures.none;
      unit_is = record { before = r.before; after = r.after; at = r.at; does = r.does; is = r.is };
      earlier = λ p here. map-set (λ e. e.items) i.earlier.items c.from.result c.in_ok-counts.counts
          ∙ ap (λ (u : ℕ). set (map (λ e. e.items) i.earlier.items) u c.in_ok-counts.counts.items) c.from.ensures
          ∙ ap (λ (xs : List ℕ). set (map (λ e. e.items) i.earlier.items) unit xs) (counts p here);
      image = subst (λ (l : List (Option Kept)). OnPart i.plain unit (λ p. BesideAfter (beside_of old unit) p.book.mounted (device_now p.book) (slice_index_or l unit None)))
          (sym beside_is) image;
      beside = subst (λ (l : List (Option Kept)). l ≡ slice_set s.beside unit (slice_index_or l unit None)) (sym beside_is)
          c.forget_written.ensures.beside;
      rest = refl;
    })

pub returns-in_err-counts-clause-refused : goal.returns-in_err-counts-clause-refused
returns-in_err-counts-clause-refused c =
    let unit = c.args.unit in
    let none = subst (λ (v : SiteView). OnPart v.plain unit (λ p. IsFlagged p.book → ⊥)) c.self.view_is
    (λ p at. subst (λ (b : Book AnyDevice). IsFlagged b → ⊥) (c.book.ensures p at) c.if-has_error.ensures.none) in
    refuses c.from_residual-in_err-counts.result NoMemory (CheckpointRefused c.args.self.now unit)
    c.from_residual-in_err-counts.ensures.1 (c.if-not-is_at_rest.ensures.rest, (c.in_ok-has_unit.ensures.there, none))
