use Rattle.std.proofs.Common.{◌≡◌, ◌<◌, length, drop, ap, ◌∙◌, sym, subst, arith}
use Rattle.std.specs.Prelude.{slice_set}
use Rattle.circular_buffer.specs.Buffer.{Buffer}
use Rattle.request_piece.specs.PostedState.{PostedState}
use Rattle.unit_world.specs.PostLists.{PostLists, list_of, without_value}
use Rattle.unit_world.proofs.Rings.{list-is, lists_of, put-is}
use Rattle.unit_world.proofs.post_lists.PostLists.pop.Goals as goal

pub returns-clause-rest : goal.returns-clause-rest
returns-clause-rest c =
    let lists = c.self.inside.rings.items in
    let ring = c.index_mut-ring.result.now in
    let here : c.from-task.result ≡ c.args.task = c.from-task.ensures in
    let lt : c.args.task < length lists = omega (arith, c.if-task-len.false, c.len.ensures, c.from-task.ensures) in
    let now = slice_set lists c.from-task.result c.pop_front.new.self in
    subst (λ (v : PostLists). record { lists = lists_of now; room = c.self.inside.room } ≡ record v
    { lists = without_value v.lists c.args.task }) c.self.view_is
    (ap (λ l. record { lists = l; room = c.self.inside.room })
    (put-is lists c.from-task.result c.args.task here lt ring c.index_mut-ring.ensures.value c.pop_front.new.self
    (drop 1 (list_of (lists_of lists) c.args.task))
    (ap (λ (r : Buffer PostedState). r.items) c.pop_front.ensures.items
    ∙ ap (drop 1) (sym (list-is lists c.from-task.result c.args.task here lt ring c.index_mut-ring.ensures.value)))))
