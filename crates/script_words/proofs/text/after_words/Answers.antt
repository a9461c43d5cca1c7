use Rattle.std.proofs.Common.{drop, ◌∙◌, ap}
use Rattle.std.proofs.lemmas.List.{drop-drop}
use Rattle.script_words.specs.Text.{words}
use Rattle.script_words.proofs.text.after_words.Goals as goal

pub loop-preserved : goal.loop-preserved
loop-preserved c = c.after_word-rest.ensures ∙ ap (drop 1) c.loop.invariant ∙ drop-drop 1 c.loop.counter (words c.args.line.now)
