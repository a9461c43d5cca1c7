use Rattle.excp_system.specs.Fans.{sent_to}
use Rattle.std.proofs.Common.{◌≡◌, Some, List, [], ◌∷◌, ◌++◌, length, ap, ◌∙◌, subst, arith}
use Rattle.fifo_row.specs.Ends.{Taking}
use Rattle.post_ledger.specs.Rows.{AreDrained, shorter}
use Rattle.post_ledger.proofs.Joins.{Rest, rest_init, taker_row, rest_drained, rest_next}
use Rattle.post_ledger.proofs.join.join_rows.Goals as goal

pub loop-taker-init : goal.loop-taker-init
loop-taker-init g c = rest_init g.I.RowItem.from g.F.Reach.reached c.args.takers.items c.args.fans.now.items c.requires

pub join_row-requires-clause-row : goal.join_row-requires-clause-row
join_row-requires-clause-row g c =
    let from = g.I.RowItem.from in
    let before = c.pop.new.self.items in
    let rest : Rest from c.args.takers.items (before ++ c.in-Some.taker ∷ []) c.args.fans.now.items c.loop-taker.fans.items =
    subst (λ (l : List (Taking _)). Rest from c.args.takers.items l c.args.fans.now.items c.loop-taker.fans.items) c.in-Some.ensures.items
    c.loop-taker.invariant in
    let k : length before ≡ c.len-k.result = omega (arith, c.len-k.ensures, c.pop.new.self.ok.0) in
    taker_row from g.F.Reach.reached c.args.takers.items c.args.fans.now.items c.requires before c.in-Some.taker c.loop-taker.fans.items
    rest ∙ ap g.F.Reach.reached.row k

pub join_row-requires-clause-drained : goal.join_row-requires-clause-drained
join_row-requires-clause-drained g c =
    let from = g.I.RowItem.from in
    let before = c.pop.new.self.items in
    let rest : Rest from c.args.takers.items (before ++ c.in-Some.taker ∷ []) c.args.fans.now.items c.loop-taker.fans.items =
    subst (λ (l : List (Taking _)). Rest from c.args.takers.items l c.args.fans.now.items c.loop-taker.fans.items) c.in-Some.ensures.items
    c.loop-taker.invariant in
    let k : length before ≡ c.len-k.result = omega (arith, c.len-k.ensures, c.pop.new.self.ok.0) in
    subst (λ j. AreDrained from c.in-Some.taker.taken j c.loop-taker.fans.items) k
    (rest_drained from g.F.Reach.reached c.args.takers.items c.args.fans.now.items c.requires before c.in-Some.taker
    c.loop-taker.fans.items rest)

pub loop-taker-preserved : goal.loop-taker-preserved
loop-taker-preserved g c =
    let from = g.I.RowItem.from in
    let before = c.pop.new.self.items in
    let rest : Rest from c.args.takers.items (before ++ c.in-Some.taker ∷ []) c.args.fans.now.items c.loop-taker.fans.items =
    subst (λ (l : List (Taking _)). Rest from c.args.takers.items l c.args.fans.now.items c.loop-taker.fans.items) c.in-Some.ensures.items
    c.loop-taker.invariant in
    let k : c.len-k.result ≡ length before = omega (arith, c.len-k.ensures, c.pop.new.self.ok.0) in
    rest_next from g.F.Reach.reached c.args.takers.items c.args.fans.now.items c.requires before c.in-Some.taker c.loop-taker.fans.items
    rest c.join_row.new.fans.items
    (λ t f e. c.join_row.ensures.all t f e ∙ ap (sent_to f) k)
    (λ t f e. c.join_row.ensures.fans t f e ∙ ap (λ j. Some (shorter j f)) k)
    c.join_row.ensures.count
