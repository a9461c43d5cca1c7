use Rattle.std.proofs.Common.{◌≡◌, drop}
use Rattle.job_script.specs.Tasks.{places_of}
use Rattle.post_lines.specs.Slots.{slots_of}
use Rattle.job_run.specs.Filling.{FillsSlots}
use Rattle.job_run.proofs.Sent.{Done}
use Rattle.job_run.proofs.job.Job.commands.Given as goal

abbrev pub invariant-loop-place : goal.invariant-loop-place
invariant-loop-place g l = record {
  number : l.client.number ≡ l.fn.client.number;
  noted : FillsSlots l.fn.client.got (slots_of l.fn.slots) l.client.got (slots_of l.slots);
  done : (let commands = l.self.script.now.commands.items in
      Done commands l.fn.client (drop l.place-index (places_of l.fn.client.number commands)) l.client);
}
