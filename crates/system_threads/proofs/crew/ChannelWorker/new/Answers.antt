use Rattle.std.proofs.Common.{◌≡◌, ◌≢◌, ◌<◌, ◌%◌, [], ◌∷◌, ◌++◌, rules, ap, sym, ◌∙◌, arith}
use Rattle.std.proofs.lemmas.List.Elements.{All-nil, All-push, All-same}
use Rattle.system_threads.specs.Shares.{below}
use Rattle.system_threads.proofs.Sharing.{share_next, share_stays}
use Rattle.system_threads.proofs.crew.ChannelWorker.new.Goals as goal
use Rattle.system_threads.proofs.crew.ChannelWorker.new.Goals.{then-unit-count+in_ok-push, else-unit-count}

pub loop-unit-init : goal.loop-unit-init
unfolding below
loop-unit-init g c = record {
  of_the_site = All-same (λ unit. unit < g.S.Site.rows.units) _ [] c.new-served.ensures.items
      (All-nil (λ unit. unit < g.S.Site.rows.units));
  share = c.new-served.ensures.items;
}

pub loop-unit-preserved : goal.loop-unit-preserved
loop-unit-preserved g c =
    let unit = c.loop-unit.unit in
    elim c.if-unit-count.branch [
      | then-unit-count+in_ok-push w ↦
          let here : unit < g.S.Site.rows.units = omega (arith, c.loop-unit-test.true, c.loop-unit.auto.unit-end, c.requires.units) in
          let is : unit % c.args.count ≡ c.args.number = search rules in
          let grown : c.if-unit-count.served.items ≡ c.loop-unit.served.items ++ unit ∷ [] =
          ap (λ v. v.items) w.served-is ∙ w.in_ok-push.ensures.items in
          record {
            of_the_site = All-same (λ n. n < g.S.Site.rows.units) c.if-unit-count.served.items
                (c.loop-unit.served.items ++ unit ∷ []) grown
                (All-push (λ n. n < g.S.Site.rows.units) c.loop-unit.served.items unit c.loop-unit.invariant.of_the_site here);
            share = grown ∙ ap (λ l. l ++ unit ∷ []) c.loop-unit.invariant.share ∙ sym (share_next c.args.count c.args.number unit is);
          }
      | else-unit-count w ↦
          let is_not : unit % c.args.count ≢ c.args.number = search rules in
          let same : c.if-unit-count.served.items ≡ c.loop-unit.served.items = ap (λ v. v.items) w.served-is in
          record {
            of_the_site = All-same (λ n. n < g.S.Site.rows.units) c.if-unit-count.served.items c.loop-unit.served.items same
                c.loop-unit.invariant.of_the_site;
            share = same ∙ c.loop-unit.invariant.share ∙ sym (share_stays c.args.count c.args.number unit is_not);
          }
    ]
