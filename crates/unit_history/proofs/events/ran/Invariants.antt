use Rattle.std.proofs.Common.{◌≡◌, ◌≤◌, ◌+◌, length, min, sum, drop}
use Rattle.unit_history.specs.Events.{most_commands, turns}
use Rattle.unit_history.proofs.events.ran.Given as goal

abbrev pub invariant-loop-entry : goal.invariant-loop-entry
invariant-loop-entry l = record {
  count : l.turns ≡ l.entry-index;
  all_turns : l.turns + length (turns l.name (drop l.entry-index l.entries)) ≡ length (turns l.name l.entries);
  most : l.commands ≤ most_commands;
  all_commands : min most_commands (l.commands + sum (turns l.name (drop l.entry-index l.entries))) ≡ min most_commands (sum (turns l.name l.entries));
}
