use Rattle.std.proofs.Common.{◌≡◌, ◌<◌, arith, get_or, length, subst, sym}
use Rattle.ckd_disk.proofs.Onto.{copied-next, same-at, sizes-next}
use Rattle.ckd_disk.proofs.disk.copy_onto.Goals as goal

pub copy_from-requires : goal.copy_from-requires
copy_from-requires c =
    let n = c.loop-number.number in
    let from = c.args.from.now.items in
    let within : n < length from = omega (arith, c.loop-number-test.true, c.len-number-end.ensures) in
    same-at (λ t. t.size) c.loop-number.tracks.items from c.loop-number.invariant.sizes n c.index_mut.result.now c.index.result.now within
    c.index_mut.ensures.value c.index.ensures

pub loop-number-preserved : goal.loop-number-preserved
loop-number-preserved c =
    let n = c.loop-number.number in
    let xs = c.loop-number.tracks.items in
    let from = c.args.from.now.items in
    let within : n < length from = omega (arith, c.loop-number-test.true, c.len-number-end.ensures) in
    let new = c.copy_from.new.self in
    let here : new ≡ get_or from n new = subst (λ x. x ≡ get_or from n x) (sym c.copy_from.ensures) c.index.ensures in
    record {
      sizes = sizes-next (λ t. t.size) xs from c.loop-number.invariant.sizes n new within here;
      copied = copied-next (λ t. t.size) xs from c.loop-number.invariant.sizes n new within here c.loop-number.invariant.copied;
    }
