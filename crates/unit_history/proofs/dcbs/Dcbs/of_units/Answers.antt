use Rattle.std.proofs.Common.{◌≡◌, arith, take}
use Rattle.std.proofs.lemmas.List.{take_all}
use Rattle.unit_history.proofs.DcbLaws.{rooms-made, rooms-more}
use Rattle.unit_history.proofs.dcbs.Dcbs.of_units.Goals as goal

pub loop-book-preserved : goal.loop-book-preserved
loop-book-preserved g c =
    rooms-more c.args.books.now c.loop-book.book-index c.book-item.result c.trace.result.now c.loop-book.most c.openings.result c.max-most.result
    c.loop-book-test.true c.book-item.is c.trace.ensures c.openings.ensures (omega (arith, c.max-most.ensures)) (omega (arith, c.max-most.ensures))
    c.loop-book.invariant

pub returns : goal.returns
returns g c =
    let all : take c.loop-book.book-index c.args.books.now ≡ c.args.books.now = take_all _ _ c.loop-book-test.false in
    rooms-made c.args.books.now c.loop-book.most c.new.result c.new.ensures (rw all at c.loop-book.invariant)
