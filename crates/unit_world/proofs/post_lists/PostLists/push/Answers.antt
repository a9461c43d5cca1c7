use Rattle.std.proofs.Common.{◌≡◌, ◌<◌, ◌≤◌, ◌++◌, ◌∷◌, [], length, ap, ◌∙◌, sym, subst, arith}
use Rattle.std.specs.Prelude.{OnErr, OnOk, slice_set}
use Rattle.std.proofs.lemmas.List.{length-map}
use Rattle.std.proofs.lemmas.Result.{on_ok_weaker}
use Rattle.circular_buffer.specs.Buffer.{Buffer}
use Rattle.request_piece.specs.PostedState.{PostedState}
use Rattle.request_piece.specs.declared.piece.Name.{Name}
use Rattle.unit_world.specs.PostLists.{PostLists, list_of, with_value}
use Rattle.unit_world.proofs.Rings.{list-is, lists_of, put-is, room-is, refused}
use Rattle.unit_world.proofs.post_lists.PostLists.push.Goals as goal

pub returns-clause-ok : goal.returns-clause-ok
returns-clause-ok c =
    let lists = c.self.inside.rings.items in
    let ring = c.index_mut-ring.result.now in
    let here : c.from-task.result ≡ c.args.value.name.task = c.from-task.ensures ∙ ap (λ (n : Name). n.task) c.name.ensures in
    let lt : c.args.value.name.task < length lists =
    omega (
      arith,
      c.requires,
      ap (λ (v : PostLists). length v.lists) c.self.view_is,
      length-map lists (λ (r : Buffer PostedState). r.items),
    ) in
    let now = slice_set lists c.from-task.result c.try_push_back.new.self in
    let value = c.args.value in
    subst (λ (v : PostLists). OnOk c.try_push_back.result
    (record { lists = lists_of now; room = c.self.inside.room } ≡ record v { lists = with_value v.lists value.name.task value }))
    c.self.view_is
    (on_ok_weaker c.try_push_back.result
    (λ same. ap (λ l. record { lists = l; room = c.self.inside.room })
    (put-is lists c.from-task.result value.name.task here lt ring c.index_mut-ring.ensures.value c.try_push_back.new.self
    (list_of (lists_of lists) value.name.task ++ value ∷ [])
    (ap (λ (r : Buffer PostedState). r.items) same
    ∙ ap (λ l. l ++ value ∷ []) (sym (list-is lists c.from-task.result value.name.task here lt ring c.index_mut-ring.ensures.value)))))
    c.try_push_back.ensures.ok)

pub returns-clause-full : goal.returns-clause-full
returns-clause-full c =
    let lists = c.self.inside.rings.items in
    let ring = c.index_mut-ring.result.now in
    let here : c.from-task.result ≡ c.args.value.name.task = c.from-task.ensures ∙ ap (λ (n : Name). n.task) c.name.ensures in
    let lt : c.args.value.name.task < length lists =
    omega (
      arith,
      c.requires,
      ap (λ (v : PostLists). length v.lists) c.self.view_is,
      length-map lists (λ (r : Buffer PostedState). r.items),
    ) in
    let is = list-is lists c.from-task.result c.args.value.name.task here lt ring c.index_mut-ring.ensures.value in
    let room = room-is lists c.from-task.result c.args.value.name.task here lt ring c.index_mut-ring.ensures.value c.self.inside.room
    c.self.invariant in
    subst (λ (v : PostLists). OnErr c.try_push_back.result (v.room ≤ length (list_of v.lists c.args.value.name.task))) c.self.view_is
    (refused c.try_push_back.result (length ring.items) ring.capacity c.self.inside.room
    (length (list_of (lists_of lists) c.args.value.name.task))
    c.try_push_back.ensures.variant room (ap length is))
