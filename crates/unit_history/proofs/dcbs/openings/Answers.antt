use Rattle.std.proofs.Common.{arith, take}
use Rattle.std.proofs.lemmas.List.{length-take}
use Rattle.unit_book.proofs.Dooms.{length-filter_le}
use Rattle.unit_book.specs.Trace.{is_opening}
use Rattle.unit_history.proofs.dcbs.openings.Goals as goal

pub overflow_add-count : goal.overflow_add-count
overflow_add-count c =
    let es = c.args.trace.now in
    let i = c.loop-entry.entry-index in
    let few = length-filter_le is_opening (take i es) in
    let all = length-take i es in
    omega (arith, few, all, c.loop-entry.invariant)
