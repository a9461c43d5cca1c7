use Rattle.std.proofs.Common.{◌≡◌, suc, length, sym, subst, arith}
use Rattle.fifo_row.specs.Ends.{Sending}
use Rattle.fifo_row.proofs.Sending.{sends_as}
use Rattle.fifo_row.proofs.Fitting.{is_state}
use Rattle.fifo_row.proofs.sender.Sender.send.Goals as goal

pub push_as-requires-clause-rule : goal.push_as-requires-clause-rule
push_as-requires-clause-rule g c =
    let i = c.self.invariant in
    let is = c.self.view_is in
    let from_is = subst (λ (s : Sending _). g.I.RowItem.from c.args.item ≡ s.number) (sym is) c.requires.number in
    let it = subst (λ (s : Sending _). g.I.RowItem.fact c.args.item s.number (suc (length s.sent)) s.tag) (sym is) c.requires.fact in (
      sends_as g.I.RowItem.from g.I.RowItem.fact _ _ _ _ _ _ i.1 from_is it (omega (arith, i.2)),
      is_state g.I.RowItem.from g.I.RowItem.fact _ _,
    )
