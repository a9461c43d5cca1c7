use Rattle.std.proofs.Common.{rules, ◌≡◌, ◌<◌, ◌≤◌, arith, ℕ, length, get_or, ap, sym, ◌∙◌}
use Rattle.std.specs.Global.{Vec}
use Rattle.job_script.specs.Tasks.{places_of}
use Rattle.job_script.proofs.Grouping.{list_of-at, list_of-past, places_from-inside}
use Rattle.job_script.proofs.script.Script.places_of.Goals as goal

pub returns-then-task-len-clause-value : goal.returns-then-task-len-clause-value
returns-then-task-len-clause-value c =
    let past : length c.args.self.now.places.items ≤ c.args.task = search rules in
    sym (list_of-past c.args.self.now.places.items c.args.task past) ∙ c.args.self.now.grouped c.args.task

value : (c : goal.After-deref) → c.deref.result.now ≡ places_of c.args.task c.args.self.now.commands.items
value c =
    let lists = c.args.self.now.places.items in
    let list = c.index-places.result.now in
    let within : c.args.task < length lists = search rules in
    let is : list ≡ get_or lists c.args.task list = rw (sym c.from-task.ensures) c.index-places.ensures in
    c.deref.ensures.value ∙ ap (λ (v : Vec ℕ). v.items) is ∙ sym (list_of-at lists c.args.task list within)
    ∙ c.args.self.now.grouped c.args.task

pub returns-clause-value : goal.returns-clause-value
returns-clause-value c = value c

pub returns-clause-inside : goal.returns-clause-inside
returns-clause-inside c =
    rw (value c)
    (λ k d h.
    let one = places_from-inside c.args.task 0 c.args.self.now.commands.items k d h in
    omega (arith, one))
