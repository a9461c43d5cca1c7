use Rattle.unit_book.proofs.Names.{◌≡◌, Some, reverse, arith, refl, sym, ap, ◌∙◌, slice_get, waiting, StartsFirst, MayFirst}
use Rattle.std.specs.Option.{option_copied}
use Rattle.unit_book.specs.Refusals.{ForStart}
use Rattle.unit_book.specs.Legal.{passes}
use Rattle.unit_book.proofs.Seeks.{first-fits, fits-device}
use Rattle.unit_book.proofs.Starts.{no-first, first-told, ties-first}
use Rattle.unit_book.proofs.Same.{on-err}
use Rattle.unit_book.proofs.entries.Entries.start_waiting.Given.{Over}
use Rattle.unit_book.proofs.entries.Entries.start_waiting.Goals.{After-passes_check}
use Rattle.unit_book.proofs.entries.Entries.start_waiting.Goals as goal
use Rattle.std.proofs.lemmas.Grind.{common_steps}

-- what was found: the request that waits first, and whether it passes the check
found : (g : Over) (c : After-passes_check g) → let i = c.self.inside in let r = c.in-Some.piece.now in
    (slice_get (waiting (reverse i.trace.items)) 0 ≡ Some r)
    × (passes g.D.Device.meaning i.mounted r (reverse i.trace.items) ≡ c.passes_check.result)
    × (slice_get i.waiting.pieces 0 ≡ Some r)
found g c =
    let there = sym c.front.ensures ∙ ap option_copied c.in-Some.is in
    let k = first-told g.D.Device.meaning c.self.inside.mounted c.self.invariant.0 there in
    let p = rw (c.kind-kind.ensures, c.heads.ensures, c.extents-extents.ensures) at c.passes_check.ensures in
    (k.0, k.1 ∙ sym p, there)

pub returns-in_default-clause-ok : goal.returns-in_default-clause-ok
returns-in_default-clause-ok g c = grind (arith, common_steps, no-first)

pub post_violated-requires-clause-first : goal.post_violated-requires-clause-first
post_violated-requires-clause-first g c =
    let f = found g (goal.at.post_violated-requires-clause-first g c).After-passes_check in
    let none = rw (← c.self.view_is) at c.requires.none in
    let r = c.in-Some.piece.now in
    rw (← c.self.view_is)
    (r.name, record { none = none; request = r; first = f.0; name = refl; fails = f.1 ∙ c.if-not-passes_check.true })

pub returns-in_err-reserve-clause-full : goal.returns-in_err-reserve-clause-full
returns-in_err-reserve-clause-full g c =
    let f = found g (goal.at.returns-in_err-reserve-clause-full g c).After-passes_check in
    let none = rw (← c.self.view_is) at c.requires.none in
    let r = c.in-Some.piece.now in
    on-err c.from_residual.result _ (rw (← c.self.view_is) (ForStart r.name
    (MayFirst (record { none = none; request = r; first = f.0; name = refl; passes = f.1 ∙ c.if-not-passes_check.false }))
    (omega (arith, c.in_err-reserve.ensures.full))))

pub launch-requires : goal.launch-requires
launch-requires g c =
    let m = g.D.Device.meaning in
    let i = c.self.inside in
    let f = found g (goal.at.launch-requires g c).After-passes_check in
    let t = c.self.invariant.0 in
    let settled = rw (← c.self.view_is) at c.requires.settled in
    let none = rw (← c.self.view_is) at c.requires.none in
    let r = c.in-Some.piece.now in
    let starts : StartsFirst m i.mounted r.name (reverse i.trace.items) =
    record { none = none; request = r; first = f.0; name = refl; passes = f.1 ∙ c.if-not-passes_check.false } in
    let fits = first-fits m i.mounted starts (record { legal = t.legal; settled = settled }) in
    rw t.device (fits-device m i.mounted g.met.D.Device.lawful (reverse i.trace.items) c.in-Some.piece.now.seek fits)

pub invariant_of-self-2 : goal.invariant_of-self-2
invariant_of-self-2 g c =
    let m = g.D.Device.meaning in
    let i = c.self.inside in
    let H = reverse i.trace.items in
    let f = found g (goal.at.invariant_of-self-2 g c).After-passes_check in
    let t = c.self.invariant.0 in
    let settled = rw (← c.self.view_is) at c.requires.settled in
    let none = rw (← c.self.view_is) at c.requires.none in
    let starts : StartsFirst m i.mounted c.in-Some.piece.now.name H = record {
      none = none;
      request = c.in-Some.piece.now;
      first = f.0;
      name = refl;
      passes = f.1 ∙ c.if-not-passes_check.false;
    } in
    let k = ties-first c.pop.result c.map.result t (record {
      first = f.0;
      settled = settled;
      starts = starts;
      mask_is =
          c.mask-mask.ensures;
    }) (c.pop.ensures.first ∙ f.2) c.map.ensures.cases in
    grind (arith, common_steps)
