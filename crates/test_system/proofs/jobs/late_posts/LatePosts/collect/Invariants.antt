use Rattle.std.proofs.Common.{◌≡◌}
use Rattle.test_system.proofs.jobs.late_posts.LatePosts.collect.Given as goal

abbrev pub invariant-loop : goal.invariant-loop
invariant-loop g l = l.client.number ≡ l.fn.client.number
