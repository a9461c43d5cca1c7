use Rattle.system_threads.specs.Shares.{AreSharedSoFar, below}
use Rattle.system_threads.proofs.crew.channel_workers.Given as goal

abbrev pub invariant-loop-number : goal.invariant-loop-number
invariant-loop-number g l = AreSharedSoFar (λ channel. channel.units.items) (λ unit. unit) l.count l.number (below l.units) l.channels.items
