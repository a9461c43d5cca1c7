use Rattle.std.proofs.Common.{refl}
use Rattle.script_words.proofs.Scans.{nothing_closed}
use Rattle.script_words.proofs.words.LineWords.new.Goals as goal

pub invariant_of-result : goal.invariant_of-result
invariant_of-result c = record { closed = nothing_closed _ _ refl refl; bytes = refl }
