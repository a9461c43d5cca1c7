use Rattle.std.proofs.Common.{sym, ◌∙◌, take}
use Rattle.std.specs.List.{list_any}
use Rattle.unit_book.specs.Trace.{arrives}
use Rattle.unit_book.proofs.Lists.{no_both}
use Rattle.unit_history.proofs.OrderlyLaws.{any-reverse, arrival-is}
use Rattle.unit_history.proofs.trace_state.TraceState.arrival.Goals as goal

pub unreachable-requires : goal.unreachable-requires
unreachable-requires c =
    let es = take c.args.self.now.done c.args.self.now.trace.now in
    no_both (list_any (arrives c.args.name) es) (sym (any-reverse (arrives c.args.name) es) ∙ c.requires.arrived)
    (rw c.in_default.is at c.find_arrival.ensures)

pub returns : goal.returns
returns c =
    arrival-is c.args.self.now.trace.now c.args.self.now.done c.in-Some.found.0 c.args.name c.in-Some.found.1.now
    c.requires.knows.orderly (rw c.in-Some.is at c.find_arrival.ensures)
