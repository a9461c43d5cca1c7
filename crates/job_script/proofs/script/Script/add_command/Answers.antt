use Rattle.std.proofs.Common.{rules, ◌≡◌, ◌<◌, ◌++◌, ◌∷◌, [], List, length, ap, ◌∙◌}
use Rattle.std.specs.Prelude.{vec_len}
use Rattle.job_script.specs.Commands.{NamesUnits}
use Rattle.job_script.specs.declared.command.ScriptCommand.{ScriptCommand}
use Rattle.job_script.proofs.Grouping.{grouped-more, pushed}
use Rattle.job_script.proofs.script.Script.add_command.Goals as goal

pub invariant_of-self : goal.invariant_of-self
invariant_of-self c = record {
  declared = rw c.reserve.ensures.items c.args.self.now.declared;
  of_tasks = rw c.reserve.ensures.items c.args.self.now.of_tasks;
  grouped = rw c.reserve.ensures.items c.args.self.now.grouped;
}

pub invariant_of-self-in-Break-branch-3 : goal.invariant_of-self-in-Break-branch-3
invariant_of-self-in-Break-branch-3 c = record {
  declared = rw c.reserve.ensures.items c.args.self.now.declared;
  of_tasks = rw c.reserve.ensures.items c.args.self.now.of_tasks;
  grouped = rw c.reserve.ensures.items (λ k. c.in_err-add_place.ensures.same k ∙ c.args.self.now.grouped k);
}

pub invariant_of-self-2 : goal.invariant_of-self-2
invariant_of-self-2 c =
    let commands = c.args.self.now.commands.items in
    let command = c.args.command in
    let set_up = c.args.self.now.set_up in
    let is : c.push_reserved.new.self.items ≡ commands ++ command ∷ [] =
    c.push_reserved.ensures.items ∙ ap (λ (l : List ScriptCommand). l ++ command ∷ []) c.reserve.ensures.items in
    let place : c.len-place.result ≡ length commands = search rules in
    record {
      declared = rw is (pushed (NamesUnits (vec_len set_up.units)) commands command c.args.self.now.declared c.in_ok-names.ensures.units);
      of_tasks = rw is (pushed (λ x. x.task < set_up.tasks) commands command c.args.self.now.of_tasks c.in_ok-names.ensures.task);
      grouped = rw is (grouped-more c.args.self.now.places.items c.add_place.new.lists.items commands command c.from.result
          c.len-place.result
          c.from.ensures place c.args.self.now.grouped c.in_ok-add_place.ensures.added);
    }
