use Rattle.std.proofs.Common.{◌≡◌}
use Rattle.system_threads.specs.Counting.{HasCounted}
use Rattle.system_threads.proofs.client.Client.next_of.Given as goal

abbrev pub invariant-loop : goal.invariant-loop
invariant-loop g l = record {
  same : l.self-inside.task ≡ l.fn.self;
  counted : HasCounted l.self-inside.task l.self-inside.issued l.self-inside.collected;
}
