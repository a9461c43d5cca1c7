use Rattle.unit_book.proofs.Names.{◌≡◌, Some, Option, not, reverse, refl, sym, ap, subst, ◌∙◌, Channel, Active, Ties, active, None}
use Rattle.unit_book.proofs.Names.{running_name_by}
use Rattle.ccw_programs.specs.declared.context.Burst.{Burst}
use Rattle.subchannel.specs.Subchannel.{RunsAs, running_program}
use Rattle.unit_book.proofs.Runs.{Bursts, ties-ran, told, runs-quiet}
use Rattle.unit_book.proofs.Same.{ties-found, rooms-found}
use Rattle.unit_book.proofs.entries.Entries.run.Given.{Over}
use Rattle.unit_book.proofs.entries.Entries.run.Goals.{In-Some-run, In_default-run, After-run}
use Rattle.unit_book.specs.Fields.{with_area, fields_of}
use Rattle.unit_book.proofs.entries.Entries.run.Goals as goal

-- what was found: the active request
found : (g : Over) (c : After-run g) → let i = c.self.inside in
    (i.active ≡ Some c.in-Some.active)
    × Ties g.D.Device.meaning i.mounted (fields_of (reverse i.trace.items) i.channel i.waiting.pieces i.dcbs i.out.items)
    (Some c.in-Some.active)
found g c =
    let o : c.self.inside.active ≡ Some c.in-Some.active = sym c.take.ensures.value ∙ c.in-Some.is in
    (o, ties-found o c.self.invariant.0)

-- and the burst of its program
abbrev burst : (g : Over) (c : In-Some-run g) → Bursts g.D.Device.meaning c.self.inside.channel c.in-Some.active
burst g c = record {
  new = c.run.new.channel;
  max = c.args.max;
  burst = c.in-Some-run.burst;
  area = c.run.new.self.piece.value.area;
  asked = c.requires.some;
  runs = subst (λ (x : Option Burst). RunsAs g.D.Device.meaning c.self.inside.channel c.in-Some.active.piece.value.area c.args.max
      (running_program c.self.inside.channel.device c.self.inside.channel.phase c.in-Some.active.piece.value.area) x
      c.run.new.channel c.run.new.self.piece.value.area) c.in-Some-run.is c.run.ensures.ran;
}

-- no burst was made: no program runs, and nothing changed
quiet : (g : Over) (c : In_default-run g) → let i = c.self.inside in
    (running_name_by g.D.Device.meaning i.mounted (reverse i.trace.items) (active (reverse i.trace.items)) ≡ None)
    × (c.run.new.channel ≡ i.channel) × (c.run.new.self ≡ c.in-Some.active)
quiet g c =
    let i = c.self.inside in
    let a = c.in-Some.active in
    let t = ties-found (sym c.take.ensures.value ∙ c.in-Some.is) c.self.invariant.0 in
    let q = runs-quiet g.D.Device.meaning i.mounted c.args.max t (subst (λ (x : Option Burst). RunsAs g.D.Device.meaning i.channel
    a.piece.value.area c.args.max (running_program i.channel.device i.channel.phase a.piece.value.area) x
    c.run.new.channel c.run.new.self.piece.value.area) c.in_default-run.is c.run.ensures.ran) in
    (q.0, q.1, c.run.ensures.same ∙ ap (with_area a) q.2)

pub invariant_of-self-in_default-run : goal.invariant_of-self-in_default-run
invariant_of-self-in_default-run g c =
    let q = quiet g (goal.at.invariant_of-self-in_default-run g c).In_default-run in
    let o : c.self.inside.active ≡ Some c.in-Some.active = sym c.take.ensures.value ∙ c.in-Some.is in
    rw (q.2, q.1) (ties-found o c.self.invariant.0, rooms-found o c.self.invariant.1)

pub invariant_of-self-2 : goal.invariant_of-self-2
invariant_of-self-2 g c =
    let m = g.D.Device.meaning in
    let i = c.self.inside in
    let f = found g (goal.at.invariant_of-self-2 g c).After-run in
    let settled = rw (← c.self.view_is) at c.requires.settled in
    let k = ties-ran m i.mounted (burst g (goal.at.invariant_of-self-2 g c).In-Some-run) f.1 settled c.run.ensures.place in
    let s = c.run.ensures.same in
    let room = rooms-found f.0 c.self.invariant.1 in
    let n = c.name.ensures ∙ ap (λ (x : Active). x.piece.value.name) s in
    let whole = subst (λ (x : Active). Ties m i.mounted (fields_of (reverse c.write.new.trace.items) c.run.new.channel i.waiting.pieces
    i.dcbs i.out.items) (Some x)) (sym s) (rw (c.write.ensures.items, n) k) in
    assumption

pub returns-clause-book : goal.returns-clause-book
returns-clause-book g c =
    let f = found g (goal.at.returns-clause-book g c).After-run in
    let k = told g.D.Device.meaning c.self.inside.mounted (burst g (goal.at.returns-clause-book g c).In-Some-run) f.1 in
    let e = c.write.ensures.items in
    let s = c.run.ensures.same in
    let n = c.name.ensures ∙ ap (λ (x : Active). x.piece.value.name) s in
    let isc_is = ap (λ (x : Channel g.row.D.Denot). x.isc) k.channel_is in
    rw (← c.self.view_is) (record {
      name = c.in-Some.active.piece.value.name;
      running = rw k.active (rw k.running refl);
      count = k.commands;
      adds = rw (e, n, s, f.0, isc_is) refl;
      pending_is = c.has_ended-pending.ensures ∙ ap not (sym (rw (e, n) k.ended));
    })
