-- THE COMMANDS OF EACH TASK, by their indices among the commands of a script (profile).
use Rattle.std.specs.Prelude.{ℕ, zero, suc, ◌+◌, ◌==◌, List, [], ◌∷◌, if◌then◌else◌}
use Rattle.std.specs.Global.{Vec}
use Rattle.job_script.specs.declared.command.ScriptCommand.{ScriptCommand}

-- the indices of the commands of a task, in the order of lines; the first of all these commands has the index `at`
unfoldable pub places_from : ℕ → ℕ → List ScriptCommand → List ℕ
places_from task at [] = []
places_from task at (c ∷ cs) = if c.task == task then at ∷ places_from task (at + 1) cs else places_from task (at + 1) cs

-- the indices of the commands of a task among those of a script
abbrev pub places_of : ℕ → List ScriptCommand → List ℕ
places_of task commands = places_from task 0 commands

-- the list with this number; after the last list they are empty
unfoldable pub list_of : List (Vec ℕ) → ℕ → List ℕ
list_of [] n = []
list_of (list ∷ lists) zero = list.items
list_of (list ∷ lists) (suc n) = list_of lists n
