use Rattle.std.proofs.Common.{arith}
use Rattle.script_words.proofs.Fronts.{decimal_in_front}
use Rattle.script_words.proofs.front.decimal_in_until.Goals as goal

pub returns-then-number-from-clause-front : goal.returns-then-number-from-clause-front
returns-then-number-from-clause-front c =
    decimal_in_front c.args.least c.args.most c.args.end c.in_ok-number.number c.args.text.now c.in_ok-number.rest.now
    (omega (arith, c.if-from-number.true, c.from.ensures)) (omega (arith, c.if-number-from.true, c.from-then-from-number.ensures))
    c.in_ok-number.ensures
