use Rattle.unit_book.proofs.Names.{◌≡◌, Option, length, length-append, reverse, arith, refl, sym, ap, ◌∙◌, subst, append-nil, filter, Queue}
use Rattle.unit_book.proofs.Names.{DoomedBy, waiting, doomed, doomed_first}
use Rattle.unit_queue.specs.Selection.{selects}
use Rattle.unit_queue.specs.declared.selection.Selection.{Selection}
use Rattle.unit_book.proofs.Facts.{Each-filter}
use Rattle.unit_book.proofs.Dooms.{filter-never, length-filters, ties-dooms, since-same, dooms-none}
use Rattle.std.proofs.lemmas.List.{length-map}
use Rattle.unit_book.proofs.Room.{length-posted}
use Rattle.unit_book.proofs.Same.{swept-found}
use Rattle.unit_book.proofs.entries.Entries.sweep.Goals as goal
use Rattle.std.proofs.lemmas.Grind.{common_steps}

pub returns-in_default-clause-book : goal.returns-in_default-clause-book
returns-in_default-clause-book g c =
    let b = c.args.self.now in
    let d = subst (λ (x : Option Selection). DoomedBy x b.trace) c.in_default.is c.requires.doomed in
    let same = dooms-none b.trace (d ∙ filter-never (waiting b.trace)) in
    let since = since-same g.D.Device.meaning b.mounted b.trace in
    rw (same, since, append-nil b.out) refl

pub returns-in_default-clause-settled : goal.returns-in_default-clause-settled
returns-in_default-clause-settled g c =
    let b = c.args.self.now in
    let d = subst (λ (x : Option Selection). DoomedBy x b.trace) c.in_default.is c.requires.doomed in
    c.requires.due ∙ ap doomed_first (d ∙ filter-never (waiting b.trace))

pub post_all-requires : goal.post_all-requires
post_all-requires g c =
    let i = c.self.inside in
    let p = selects c.in-Some.selection in
    let d = subst (λ (x : Option Selection). DoomedBy x (reverse i.trace.items)) c.in-Some.is (rw (← c.self.view_is) at c.requires.doomed)
    in
    let t = c.self.invariant.0 in
    let e : doomed (reverse i.trace.items) ≡ filter p i.waiting.pieces = d ∙ ap (filter p) (sym t.queue) in
    let few = length-filters p i.waiting.pieces in
    let count = ap length e in
    grind (arith, common_steps, Each-filter)

pub invariant_of-self : goal.invariant_of-self
invariant_of-self g c =
    let m = g.D.Device.meaning in
    let i = c.self.inside in
    let p = selects c.in-Some.selection in
    let d = subst (λ (x : Option Selection). DoomedBy x (reverse i.trace.items)) c.in-Some.is (rw (← c.self.view_is) at c.requires.doomed)
    in
    let u = rw (← c.self.view_is) at c.requires.due in
    let room = c.self.invariant.1 in
    let sw = swept-found c.sweep.ensures.swept room.swept_is in
    let k = ties-dooms m i.mounted p d u c.self.invariant.0 in
    let items_is = ap (λ (x : Queue). x.pieces) sw in
    let out_is = rw items_is at c.post_all.ensures.out in
    grind (arith, common_steps, length-filters, length-append, length-map)

pub returns : goal.returns
returns g c =
    let m = g.D.Device.meaning in
    let i = c.self.inside in
    let p = selects c.in-Some.selection in
    let d = subst (λ (x : Option Selection). DoomedBy x (reverse i.trace.items)) c.in-Some.is (rw (← c.self.view_is) at c.requires.doomed)
    in
    let u = rw (← c.self.view_is) at c.requires.due in
    let sw = swept-found c.sweep.ensures.swept c.self.invariant.1.swept_is in
    let k = ties-dooms m i.mounted p d u c.self.invariant.0 in
    let items_is = ap (λ (x : Queue). x.pieces) sw in
    let out_is = rw items_is at c.post_all.ensures.out in
    grind (arith, common_steps, length-posted)
