use Rattle.std.proofs.Common.{arith}
use Rattle.tape_unit.proofs.Loading.{le-true}
use Rattle.tape_unit.proofs.Recordings.{blank_kept}
use Rattle.tape_unit.proofs.recording.Recording.new.Goals as goal

pub invariant_of-result : goal.invariant_of-result
invariant_of-result c = (blank_kept c.new.result.items c.args.bytes c.new.ensures.items (omega arith)).holds

pub returns : goal.returns
returns c = (
  le-true c.args.bytes 4_294_967_296 (omega arith),
  (blank_kept c.new.result.items c.args.bytes c.new.ensures.items (omega arith)).view,
)
