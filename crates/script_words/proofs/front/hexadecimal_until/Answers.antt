use Rattle.script_words.proofs.Fronts.{hexadecimal_front}
use Rattle.script_words.proofs.front.hexadecimal_until.Goals as goal

pub returns-clause-front : goal.returns-clause-front
returns-clause-front c =
    hexadecimal_front c.args.text.now c.split_at.result.0.now c.split_at-2.result.1.now c.args.digits c.args.end c.in_ok-value.value
    c.requires.some c.if-text-digits.false c.if-text-digits-2.false c.split_at.ensures.front c.split_at-2.ensures.back
    c.in_ok-value.ensures.value
