use Rattle.unit_book.specs.Room.{KeepsRoom}
use Rattle.unit_book.specs.Settle.{Settles, distance}
use Rattle.unit_book.proofs.book.UnitBook.settle.Given as goal

abbrev pub invariant-loop : goal.invariant-loop
invariant-loop g l = Settles g.D.Device.meaning l.initial.self l.self × KeepsRoom l.initial.self l.self

abbrev pub decreases-loop : goal.decreases-loop
decreases-loop g l = distance l.self
