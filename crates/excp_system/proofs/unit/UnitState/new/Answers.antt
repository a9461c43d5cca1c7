use Rattle.excp_system.proofs.Begins.{began_first}
use Rattle.excp_system.proofs.unit.UnitState.new.Goals as goal

pub invariant_of-result : goal.invariant_of-result
invariant_of-result g c = (c.requires.ends, began_first g.S.Opened.opened c.args.unit c.args.book c.requires.opened, c.requires.log)
