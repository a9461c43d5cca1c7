use Rattle.std.proofs.Common.{◌≡◌, [], ap, ◌∙◌, arith, replicate}
use Rattle.unit_world.proofs.Rings.{lists_of, lists-replicate}
use Rattle.unit_world.proofs.post_lists.PostLists.new.Goals as goal

pub returns : goal.returns
returns c =
    let room = c.args.room in
    let all : c.loop.counter ≡ c.args.tasks = omega (arith, c.loop-test.false, c.loop.auto.counter-end) in
    ap (λ l. record { lists = l; room = room })
    (ap lists_of c.loop.invariant ∙ lists-replicate c.loop.counter room ∙ ap (λ n. replicate n []) all)
