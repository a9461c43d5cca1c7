use Rattle.std.proofs.Common.{◌≤◌, length, arith, rules}
use Rattle.std.specs.Fmt.{decimal}
use Rattle.std.proofs.lemmas.Fmt.{length-decimal-le}
use Rattle.post_lines.proofs.writing.put_decimal.Goals as goal

pub write_digits-requires : goal.write_digits-requires
write_digits-requires c = search (rules, length-decimal-le 20)

pub returns-clause-few : goal.returns-clause-few
returns-clause-few c =
    let short : length (decimal c.args.number) ≤ 20 = search (rules, length-decimal-le 20) in
    omega (arith, short, c.write_digits.ensures.start)
