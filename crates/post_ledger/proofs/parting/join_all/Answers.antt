use Rattle.std.proofs.Common.{List, sym, subst}
use Rattle.request_piece.specs.PostedState.{PostedState}
use Rattle.request_piece.specs.declared.piece.Piece.{Piece}
use Rattle.fifo_row.specs.Ends.{Taking}
use Rattle.excp_system.specs.Sites.{intake_rows, post_rows, task_of, unit_of}
use Rattle.excp_system.specs.Fans.{FanState}
use Rattle.post_ledger.specs.Rows.{AreEnds, AllTaken}
use Rattle.post_ledger.proofs.Parts.{intake_ends, post_ends, requests_settled, posts_settled}
use Rattle.post_ledger.proofs.Audits.{controlled_by, hands_are, log_registers}
use Rattle.post_ledger.proofs.parting.join_all.Goals as goal

pub join_rows-requires : goal.join_rows-requires
join_rows-requires g c =
    let a = c.split_units-books.ensures in
    let b = c.split_tasks-outs.ensures in
    subst (λ (q : List (Taking Piece) × List (FanState Piece)). AreEnds task_of (intake_rows g.S.Site.rows) q.0 q.1)
    (λ i. (sym a.intakes i, sym b.outs i))
    (intake_ends g.D.Device.meaning g.S.Site.rows c.args.units.items c.args.tasks.items c.requires.units c.requires.tasks
    c.requires.drained b.counts)

pub join_rows-requires-2 : goal.join_rows-requires-2
join_rows-requires-2 g c =
    let a = c.split_units-books.ensures in
    let b = c.split_tasks-outs.ensures in
    subst (λ (l : List (Taking PostedState)). AreEnds unit_of (post_rows g.S.Site.rows) l c.split_units-books.result.backs.items)
    (sym b.collected)
    (post_ends g.D.Device.meaning g.S.Site.rows c.args.units.items c.args.tasks.items c.requires.units c.requires.tasks c.requires.drained
    c.split_units-books.result.backs.items a.backs)

pub returns-clause-settled : goal.returns-clause-settled
returns-clause-settled g c =
    let s = g.S.Site.rows in
    let a = c.split_units-books.ensures in
    let b = c.split_tasks-outs.ensures in
    let first = subst (λ (q : List (Taking Piece) × List (FanState Piece)). AllTaken task_of q.0 q.1)
    (λ i. (a.intakes i, b.outs i)) c.join_rows.ensures in
    let second = subst (λ (l : List (Taking PostedState)). AllTaken unit_of l c.split_units-books.result.backs.items) b.collected
    c.join_rows-2.ensures in
    λ u t v w e e'. (
      requests_settled g.D.Device.meaning s c.args.units.items c.args.tasks.items c.requires.units c.requires.tasks c.requires.drained
          first u t v w e e',
      posts_settled g.D.Device.meaning s c.args.units.items c.args.tasks.items c.requires.units c.requires.tasks c.requires.drained
          c.split_units-books.result.backs.items a.backs second u t v w e e',
    )

pub audit_all-requires-clause-logs : goal.audit_all-requires-clause-logs
audit_all-requires-clause-logs g c =
    log_registers g.S.Site.rows g.S.Site.own_calls g.S.Opened.opened c.args.units.items c.split_units-books.result.logs.items c.requires.units c.split_units-books.ensures.logs

pub audit_all-requires-clause-hands : goal.audit_all-requires-clause-hands
audit_all-requires-clause-hands g c =
    hands_are g.S.Site.rows g.S.Site.own_calls g.S.Opened.opened c.args.units.items c.args.tasks.items c.split_units-books.result.logs.items
    c.split_tasks-outs.result.hands.items c.requires.units c.requires.tasks c.split_units-books.ensures.logs
    c.split_tasks-outs.ensures.hands c.split_tasks-outs.ensures.pens

pub returns-clause-controlled : goal.returns-clause-controlled
returns-clause-controlled g c =
    controlled_by g.S.Site.rows g.S.Site.own_calls g.S.Opened.opened c.args.units.items c.args.tasks.items c.split_units-books.result.logs.items
    c.split_tasks-outs.result.hands.items c.requires.units c.requires.tasks c.split_units-books.ensures.logs
    c.split_tasks-outs.ensures.hands c.audit_all.ensures
