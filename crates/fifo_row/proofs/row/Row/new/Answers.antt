use Rattle.fifo_row.proofs.Fitting.{opens}
use Rattle.fifo_row.proofs.row.Row.new.Goals as goal

pub ruled-requires-clause-rule : goal.ruled-requires-clause-rule
ruled-requires-clause-rule g c = opens g.I.RowItem.from g.I.RowItem.fact
