use Rattle.std.proofs.Common.{◌≡◌, refl, reverse, subst, sym, ap, ◌∙◌, Some}
use Rattle.std.specs.Prelude.{slice_get}
use Rattle.unit_book.specs.declared.entry.Entry.TheVariants.{Start, Post}
use Rattle.unit_history.specs.Replayed.{ReplayPlace}
use Rattle.unit_history.specs.Ties.{IsWithin}
use Rattle.unit_history.proofs.ReplayNext.{behind-whole, entry-at, silent-is, step-whole}
use Rattle.unit_history.proofs.Steps.{legal-reversed, ties-silent, whole-none}
use Rattle.unit_history.proofs.replay.Replay.step.Goals as goal

pub invariant_of-self : goal.invariant_of-self
invariant_of-self g c =
    let m = g.D.Device.meaning in
    let i = c.self.inside in
    let here = entry-at c.trace-entries.result.now i.book.now.trace i.done c.index-entries-self.result c.trace-entries.ensures
    c.if-self-entries.false c.index-entries-self.is in
    let q = silent-is m i.book.now.mounted c.index-entries-self.result c.in_default.not-Start c.in_default.not-Ran c.in_default.not-Post in
    ties-silent m i.book.now.mounted (reverse i.book.now.trace) i.done c.index-entries-self.result here
    (legal-reversed m i.book.now.mounted i.book.now.trace c.holds.ensures.legal) q.0 q.1 c.self.invariant

pub returns-in_ok-start-in-Start-clause-ok : goal.returns-in_ok-start-in-Start-clause-ok
returns-in_ok-start-in-Start-clause-ok g c =
    let i = c.self.inside in
    let here = entry-at c.trace-entries.result.now i.book.now.trace i.done c.index-entries-self.result c.trace-entries.ensures
    c.if-self-entries.false c.index-entries-self.is in
    let k : slice_get (reverse c.args.self.now.book.trace) c.args.self.now.done ≡ Some (Start c.in-Start.name) =
    subst (λ (x : ReplayPlace g.row.D.Denot). slice_get (reverse x.book.trace) x.done ≡ Some (Start c.in-Start.name)) c.self.view_is
    (here ∙ ap Some c.in-Start.is) in
    c.in_ok-start-in-Start.ensures.ok ∙ rw k refl

pub returns-in-Post-clause-ok : goal.returns-in-Post-clause-ok
returns-in-Post-clause-ok g c =
    let i = c.self.inside in
    let e = Post c.in-Post.name c.in-Post.field-1 c.in-Post.field-2 c.in-Post.field-3 in
    let here = entry-at c.trace-entries.result.now i.book.now.trace i.done c.index-entries-self.result c.trace-entries.ensures
    c.if-self-entries.false c.index-entries-self.is in
    let k : slice_get (reverse c.args.self.now.book.trace) c.args.self.now.done ≡ Some e =
    subst (λ (x : ReplayPlace g.row.D.Denot). slice_get (reverse x.book.trace) x.done ≡ Some e) c.self.view_is
    (here ∙ ap Some c.in-Post.is) in
    c.post.ensures ∙ rw k refl

pub returns-in_default : goal.returns-in_default
returns-in_default g c =
    let i = c.self.inside in
    let e = c.index-entries-self.result in
    let here = entry-at c.trace-entries.result.now i.book.now.trace i.done e c.trace-entries.ensures c.if-self-entries.false
    c.index-entries-self.is in
    let q = silent-is g.D.Device.meaning i.book.now.mounted e c.in_default.not-Start c.in_default.not-Ran c.in_default.not-Post in
    let none = whole-none i.ran e q.1 (subst (IsWithin i.ran) here c.self.invariant.within) in
    let p : ReplayPlace g.row.D.Denot = record { book = i.book.now; done = i.done; ran = i.ran } in
    record {
      ok = rw (← c.self.view_is, here, behind-whole e p q.1, none) refl;
      kind = rw (← c.self.view_is, here) (sym (step-whole e q.1));
      err = tt;
      full = tt;
    }
