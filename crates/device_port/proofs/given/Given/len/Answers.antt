use Rattle.std.proofs.Common.{◌∙◌, sym}
use Rattle.device_port.proofs.Gathering.{length-gathered}
use Rattle.device_port.proofs.given.Given.len.Goals as goal

pub returns : goal.returns
returns c = rw (← c.self.view_is) (c.total.ensures ∙ rw c.of.ensures (sym (length-gathered _ _ c.self.invariant.0)))
