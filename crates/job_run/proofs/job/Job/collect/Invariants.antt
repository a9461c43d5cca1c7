use Rattle.std.proofs.Common.{◌≡◌}
use Rattle.post_lines.specs.Slots.{slots_of}
use Rattle.job_run.specs.Filling.{FillsSlots}
use Rattle.job_run.proofs.job.Job.collect.Given as goal

abbrev pub invariant-loop : goal.invariant-loop
invariant-loop g l = record {
  number : l.client.number ≡ l.fn.client.number;
  sent : l.client.sent ≡ l.fn.client.sent;
  asked : l.client.asked ≡ l.fn.client.asked;
  noted : FillsSlots l.fn.client.got (slots_of l.fn.slots) l.client.got (slots_of l.slots);
}
