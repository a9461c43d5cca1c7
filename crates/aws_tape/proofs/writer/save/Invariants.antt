use Rattle.std.proofs.Common.{◌≡◌}
use Rattle.std.specs.List.{list_all}
use Rattle.tape_unit.specs.Item.{is_item}
use Rattle.aws_tape.specs.Writing.{items_image, saved}
use Rattle.aws_tape.proofs.Written.{Wrote}
use Rattle.aws_tape.proofs.writer.save.Given as goal

abbrev pub invariant-loop-place : goal.invariant-loop-place
invariant-loop-place g l = record {
  wrote : Wrote (g.W.Write.contents l.fn.writer) (g.W.Write.contents l.writer)
      (items_image l.parts l.place-iterator.count l.previous l.place-iterator.iter)
      (saved l.fn.layout l.fn.mounted.reel.items l.fn.now.reel.items);
  fits : list_all is_item l.fn.now.reel.items ≡ list_all is_item l.place-iterator.iter;
}
