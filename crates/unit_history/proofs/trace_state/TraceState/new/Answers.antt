use Rattle.std.proofs.Common.{arith, refl}
use Rattle.unit_history.specs.declared.event.PostCause.TheVariants.{Unknown}
use Rattle.unit_history.specs.Dcbs.{room_of}
use Rattle.unit_history.proofs.DcbLaws.{knows-before}
use Rattle.unit_history.proofs.DoomCauses.{dooms-before}
use Rattle.unit_history.proofs.TraceStateLaws.{none-before}
use Rattle.unit_history.proofs.trace_state.TraceState.new.Goals as goal

pub returns-clause-knows : goal.returns-clause-knows
returns-clause-knows c =
    let es = c.args.trace.now in
    record {
      orderly = c.requires.orderly;
      few = omega arith;
      active_is = none-before es;
      doom = refl;
      dooms = dooms-before (room_of c.clear.new.self) es Unknown;
      dcbs = knows-before es c.clear.new.self c.clear.ensures.opened;
    }
