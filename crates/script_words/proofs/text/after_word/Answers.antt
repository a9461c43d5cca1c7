use Rattle.script_words.proofs.Scanning.{no_word}
use Rattle.script_words.proofs.text.after_word.Goals as goal

pub returns-in-None : goal.returns-in-None
returns-in-None c = no_word c.args.line.now c.in-None.ensures
