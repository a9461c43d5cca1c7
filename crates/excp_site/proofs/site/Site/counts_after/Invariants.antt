use Rattle.std.proofs.Common.{◌≡◌, map}
use Rattle.std.specs.List.{range_with_len}
use Rattle.unit_world.specs.Sites.{OnPart}
use Rattle.excp_site.specs.Checkpoints.{count_after}
use Rattle.excp_site.proofs.site.Site.counts_after.Given as goal

abbrev pub invariant-loop-task : goal.invariant-loop-task
invariant-loop-task l =
    OnPart l.self.plain l.unit (λ p. l.counts.items ≡ map (count_after l.self l.unit p) (range_with_len 0 l.task))
