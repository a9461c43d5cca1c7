use Rattle.std.proofs.Common.{rules, ◌≡◌, ◌<◌, ◌==◌, ℕ, arith, length, get_or, take, sym, subst, ◌∙◌, ap, refl}
use Rattle.std.specs.List.{Contains}
use Rattle.std.proofs.lemmas.List.{get_or-replicate, length-take}
use Rattle.std.proofs.lemmas.List.Elements.{Contains-get_or}
use Rattle.unit_book.proofs.Dooms.{length-filter_le}
use Rattle.job_script.specs.Commands.{named_dcb, excp_is_to, issues_to}
use Rattle.job_script.proofs.Grouping.{counts_none, counts_one, to_no_unit}
use Rattle.job_script.proofs.script.Script.requests_to_units.Goals as goal
use Rattle.job_script.proofs.script.Script.requests_to_units.Goals.{in-Excp, in_default}

pub loop-command-init : goal.loop-command-init
loop-command-init c = record { room = refl; counted = λ unit h. get_or-replicate 64 unit 0 0 h }

below : (c : goal.After-from) → c.from.result < 64
below c =
    let commands = c.args.self.now.commands.items in
    let index = c.loop-command.command-index in
    let within : index < length commands = omega (arith, c.loop-command-test.true, c.deref-command-items.ensures.len) in
    let item = c.command-item.result in
    let at : item ≡ get_or commands index item = c.command-item.is ∙ ap (λ l. get_or l index item) c.deref-command-items.ensures.value in
    let is : Contains commands item = subst (Contains commands) (sym at) (Contains-get_or commands index item within) in
    let unit = c.args.self.now.declared item is c.in-Excp.excp.dcb (ap named_dcb c.in-Excp.is) in
    omega (arith, unit, c.args.self.now.set_up.few_units, c.from.ensures)

pub bounds-counts-from : goal.bounds-counts-from
bounds-counts-from c = below c

pub overflow_add-counts : goal.overflow_add-counts
overflow_add-counts c =
    let before = take c.loop-command.command-index c.args.self.now.commands.items in
    let counted = c.loop-command.invariant.counted c.from.result (below c) in
    let few = length-filter_le (issues_to c.from.result) before in
    let all = length-take c.loop-command.command-index c.args.self.now.commands.items in
    omega (arith, counted, few, all, c.loop-command-test.true, c.loop-command.auto.command-index-end)

pub bounds-counts-from-in-Excp : goal.bounds-counts-from-in-Excp
bounds-counts-from-in-Excp c = below c

pub loop-command-preserved : goal.loop-command-preserved
loop-command-preserved c =
    let commands = c.args.self.now.commands.items in
    let index = c.loop-command.command-index in
    let counts = c.loop-command.counts in
    let item = c.command-item.result in
    let within : index < length commands = omega (arith, c.loop-command-test.true, c.deref-command-items.ensures.len) in
    let at : item ≡ get_or commands index item = c.command-item.is ∙ ap (λ l. get_or l index item) c.deref-command-items.ensures.value in
    let all = c.loop-command.invariant.counted in
    elim c.match-command.branch [
      | in-Excp w ↦
          let is : Contains commands item = subst (Contains commands) (sym at) (Contains-get_or commands index item within) in
          let unit = c.args.self.now.declared item is w.in-Excp.excp.dcb (ap named_dcb w.in-Excp.is) in
          let few : w.from.result < length counts =
          omega (arith, unit, c.args.self.now.set_up.few_units, w.from.ensures, c.loop-command.invariant.room) in
          let tests : (k : ℕ) → issues_to k item ≡ (w.from.result == k) = λ k. ap (excp_is_to k) w.in-Excp.is
          ∙ ap (λ (n : ℕ). n == k) (sym w.from.ensures) in
          record {
            room = rw w.counts-is (search rules);
            counted = counts_one counts c.match-command.counts issues_to commands index w.from.result item within at few all tests
                w.counts-is;
          }
      | in_default w ↦ record {
        room = rw w.counts-is c.loop-command.invariant.room;
        counted = counts_none counts c.match-command.counts issues_to commands index item within at all
            (to_no_unit item.action w.in_default.not-Excp) w.counts-is;
      }
    ]
