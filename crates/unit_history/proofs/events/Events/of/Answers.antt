use Rattle.std.proofs.Common.{subst, sym}
use Rattle.unit_history.specs.Orderly.{Orderly}
use Rattle.unit_history.proofs.OrderlyLaws.{orderly}
use Rattle.unit_history.proofs.events.Events.of.Goals as goal

pub new-requires : goal.new-requires
new-requires g c =
    record {
      orderly = subst Orderly (sym c.trace.ensures)
          (orderly g.D.Device.meaning c.args.book.now.mounted c.args.book.now.trace c.holds.ensures.legal);
    }
