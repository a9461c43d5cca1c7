use Rattle.unit_book.proofs.Names.{◌≡◌, ◌∷◌, Some, None, reverse, arith, refl, sym, ap, subst, ◌∙◌, is_some, Name, ToHalt, due, doomed}
use Rattle.unit_book.proofs.Names.{Purge, DoomedBy, halted_by, after_halt, running_name_by, active, waiting, arrivals, flag}
use Rattle.unit_queue.specs.declared.selection.Selection.TheVariants as selection
use Rattle.unit_book.specs.Controls.{due_after}
use Rattle.unit_book.proofs.Controls.{doomed-purge, doomed-some, ties-purge, ties-purge_none, halts-none, ties-halt}
use Rattle.unit_book.proofs.Dooms.{due-doomed, due-no_halt, halted-first}
use Rattle.unit_book.proofs.Facts.{due-halt}
use Rattle.unit_book.proofs.Same.{ties-found, name-found, rooms-found}
use Rattle.unit_book.proofs.entries.Entries.purge.Given.{Over}
use Rattle.unit_book.proofs.entries.Entries.purge.Goals.{After-take}
use Rattle.unit_book.proofs.entries.Entries.purge.Goals as goal
use Rattle.std.proofs.lemmas.Grind.{common_steps}

-- what the purge dooms
dooms : (g : Over) (c : After-take g) →
    DoomedBy (Some (selection.Scope c.args.scope)) (Purge c.args.scope c.args.mode ∷ reverse c.self.inside.trace.items)
dooms g c =
    let i = c.self.inside in
    let settled = rw (← c.self.view_is) at c.requires.settled in
    doomed-purge c.args.scope c.args.mode (reverse i.trace.items) (due-doomed g.D.Device.meaning i.mounted (reverse i.trace.items) settled)

pub invariant_of-self : goal.invariant_of-self
invariant_of-self g c =
    let settled = rw (← c.self.view_is) at c.requires.settled in
    let can = rw (← c.self.view_is) at c.requires.can in
    let o : c.self.inside.active ≡ None = sym c.take.ensures.value ∙ c.in_default.is in
    let k = ties-purge_none c.args.scope c.args.mode settled can (ties-found o c.self.invariant.0) in
    grind (arith, common_steps)

-- where nothing is active, nobody is halted
pub returns-in_default : goal.returns-in_default
unfolding waiting arrivals
returns-in_default g c =
    let m = g.D.Device.meaning in
    let i = c.self.inside in
    let H = reverse i.trace.items in
    let P = Purge c.args.scope c.args.mode ∷ H in
    let o : i.active ≡ None = sym c.take.ensures.value ∙ c.in_default.is in
    let e : active H ≡ None = (ties-found o c.self.invariant.0).activity.0 in
    let d = halts-none m i.mounted c.args.scope c.args.mode H (ap (λ x. is_some (running_name_by m i.mounted H x)) e) in
    let after : after_halt m i.mounted P ≡ P = ap (λ x. halted_by x P) d ∙ halted-first (doomed P) P in
    let w = c.write.ensures.items in
    record {
      book = rw (← c.self.view_is) (rw (after, w, c.take.ensures.after, o) refl);
      spare = rw (← c.self.view_is) (omega (arith, c.write.ensures.spare));
      room = rw (← c.self.view_is) (rw w (omega (arith, c.write.ensures.spare)));
      due = rw w d;
      dooms = rw w (dooms g (goal.at.returns-in_default g c).After-take);
      few = rw (← c.self.view_is, w) (doomed-some P);
    }

pub invariant_of-self-in_default-halted : goal.invariant_of-self-in_default-halted
invariant_of-self-in_default-halted g c =
    let settled = rw (← c.self.view_is) at c.requires.settled in
    let can = rw (← c.self.view_is) at c.requires.can in
    let uncovered = rw (← c.self.view_is) at c.requires.uncovered in
    let o : c.self.inside.active ≡ Some c.in-Some.active = sym c.take.ensures.value ∙ c.in-Some.is in
    let u = rw o at uncovered in
    let k = ties-purge c.args.scope c.args.mode settled can u (ties-found o c.self.invariant.0) in
    grind (arith, common_steps)

pub returns-in_default-halted-clause-dooms : goal.returns-in_default-halted-clause-dooms
returns-in_default-halted-clause-dooms g c =
    let w = c.write.ensures.items in rw w (dooms g (goal.at.returns-in_default-halted-clause-dooms g c).After-take)

pub returns-in_default-halted-clause-few : goal.returns-in_default-halted-clause-few
unfolding waiting arrivals
returns-in_default-halted-clause-few g c = grind (arith, common_steps, doomed-some)

pub invariant_of-self-2 : goal.invariant_of-self-2
invariant_of-self-2 g c =
    let m = g.D.Device.meaning in
    let i = c.self.inside in
    let P = Purge c.args.scope c.args.mode ∷ reverse i.trace.items in
    let settled = rw (← c.self.view_is) at c.requires.settled in
    let can = rw (← c.self.view_is) at c.requires.can in
    let uncovered = rw (← c.self.view_is) at c.requires.uncovered in
    let halts = rw (← c.self.view_is) at c.to_halt-halted.ensures in
    let o : i.active ≡ Some c.in-Some.active = sym c.take.ensures.value ∙ c.in-Some.is in
    let u = rw o at uncovered in
    let k = ties-purge c.args.scope c.args.mode settled can u (ties-found o c.self.invariant.0) in
    let d : due m i.mounted P ≡ ToHalt c.in-Some-halted.name = halts ∙ ap (λ x. due_after x (doomed P)) c.in-Some-halted.is in
    let n = name-found ((due-halt m i.mounted P c.in-Some-halted.name d).0) k in
    let h = ties-halt m i.mounted (subst (λ (x : Name). due m i.mounted P ≡ ToHalt x) n d) k in
    let v = c.purged-active.ensures in
    let x = c.once_halted.ensures in
    let room = rooms-found o c.self.invariant.1 in (
      rw (c.halt.ensures.items, c.write.ensures.items, c.halt.ensures.state, x, v, n) h,
      rw (x, v) (record { occupancy = room.occupancy; waiting_room = room.waiting_room; swept_is = room.swept_is }),
    )

pub returns-clause-due : goal.returns-clause-due
returns-clause-due g c = grind (arith, common_steps, due-no_halt)

pub returns-clause-dooms : goal.returns-clause-dooms
unfolding waiting arrivals flag
returns-clause-dooms g c = rw (c.halt.ensures.items, c.write.ensures.items) (dooms g (goal.at.returns-clause-dooms g c).After-take)

pub returns-clause-few : goal.returns-clause-few
unfolding waiting arrivals
returns-clause-few g c = grind (arith, common_steps, doomed-some)
