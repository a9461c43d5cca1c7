use Rattle.std.proofs.Common.{◌<◌, [], ◌∷◌, ◌++◌, length, ap, ◌∙◌, subst, arith}
use Rattle.std.proofs.lemmas.List.{length-map}
use Rattle.std.specs.Prelude.{slice_set}
use Rattle.std.proofs.lemmas.Result.{on_ok_weaker, on_err_weaker}
use Rattle.fifo_row.specs.Ends.{Sending}
use Rattle.fifo_row.specs.Steps.{WasFull}
use Rattle.excp_system.specs.Sites.{end_of}
use Rattle.excp_system.specs.Fans.{FanState, sent_to}
use Rattle.excp_system.proofs.Fans.{fan_ok, fan_full}
use Rattle.excp_system.proofs.fan.Fan.send.Goals as goal

pub returns-clause-sent : goal.returns-clause-sent
returns-clause-sent g c =
    let is = c.self.view_is in
    let k = c.args.k in
    let number = c.self.inside.number in
    let ends = c.self.inside.ends.items in
    let e = c.index_mut-end.result.now in
    let lt : k < length ends =
    omega (arith, c.requires.row, ap (λ (v : FanState _). length v.sent) is, length-map ends (λ (s : Sending _). s.sent)) in
    on_ok_weaker c.send.result
    (λ same. (λ j. record {
      number = number;
      sent = fan_ok g.F.Reach.reached number ends c.self.invariant c.from.result k c.from.ensures lt e
          c.index_mut-end.ensures.value c.send.new.self c.args.item same j;
    })
    ∙ ap (λ (v : FanState _). record { number = v.number; sent = slice_set v.sent k (sent_to v k ++ c.args.item ∷ []) }) is)
    c.send.ensures.sent

pub returns-clause-was_full : goal.returns-clause-was_full
returns-clause-was_full g c =
    let is = c.self.view_is in
    let r = g.F.Reach.reached in
    let k = c.args.k in
    let number = c.self.inside.number in
    let ends = c.self.inside.ends.items in
    let e = c.index_mut-end.result.now in
    let lt : k < length ends =
    omega (arith, c.requires.row, ap (λ (v : FanState _). length v.sent) is, length-map ends (λ (s : Sending _). s.sent)) in
    on_err_weaker c.send.result
    (λ full. subst (λ (v : FanState _). WasFull g.I.RowItem.from g.I.RowItem.fact (end_of r v.number k (sent_to v k))) is
    (fan_full r number ends c.self.invariant c.from.result k c.from.ensures lt e c.index_mut-end.ensures.value
    g.I.RowItem.from g.I.RowItem.fact full))
    c.send.ensures.was_full
