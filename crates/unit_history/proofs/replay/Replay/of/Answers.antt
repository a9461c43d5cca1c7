use Rattle.std.proofs.Common.{◌∙◌, reverse}
use Rattle.unit_history.proofs.Steps.{ties-none}
use Rattle.unit_history.proofs.replay.Replay.of.Goals as goal

pub invariant_of-result : goal.invariant_of-result
invariant_of-result g c = ties-none g.D.Device.meaning c.args.book.now.mounted (reverse c.args.book.now.trace) _
    (c.in_ok-copy.ensures ∙ c.mounted.ensures)
