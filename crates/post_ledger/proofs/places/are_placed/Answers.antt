use Rattle.std.proofs.Common.{◌≡◌, ◌∙◌, Some, ap, sym, arith}
use Rattle.std.specs.Prelude.{slice_get}
use Rattle.std.proofs.lemmas.Option.{slice_get-get_or, slice_get_within}
use Rattle.excp_system.specs.States.{Locked}
use Rattle.post_ledger.proofs.Pairs.{before_more}
use Rattle.post_ledger.proofs.places.are_placed.Goals as goal

pub returns-then-from-place-clause-mixed : goal.returns-then-from-place-clause-mixed
returns-then-from-place-clause-mixed g c =
    let v = c.index-units-place.result in
    let at : slice_get c.args.units.now c.loop-place.place ≡ Some v =
    slice_get-get_or c.args.units.now c.loop-place.place v c.loop-place-test.true ∙ ap Some (sym c.index-units-place.is) in
    λ _. (c.loop-place.place, v, at, λ same. omega (arith, same, c.unit.ensures.is, c.from.ensures, c.if-from-place.true))

pub loop-place-preserved : goal.loop-place-preserved
loop-place-preserved g c =
    let v = c.index-units-place.result in
    let at : slice_get c.args.units.now c.loop-place.place ≡ Some v =
    slice_get-get_or c.args.units.now c.loop-place.place v c.loop-place-test.true ∙ ap Some (sym c.index-units-place.is) in
    before_more (λ k (u : Locked _). u.unit ≡ k) c.args.units.now c.loop-place.place v at c.loop-place.invariant
    (omega (arith, c.unit.ensures.is, c.from.ensures, c.if-from-place.false))

pub returns-clause-placed : goal.returns-clause-placed
returns-clause-placed g c =
    λ _. record {
      count_is = c.requires;
      each = λ k v e. c.loop-place.invariant k v
          (omega (arith, c.loop-place-test.false, slice_get_within c.args.units.now k v e)) e;
    }
