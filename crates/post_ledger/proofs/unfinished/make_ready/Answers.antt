use Rattle.post_ledger.proofs.Works.{collects_from}
use Rattle.post_ledger.proofs.unfinished.make_ready.Goals as goal

pub returns-in_err-drain-clause-collects : goal.returns-in_err-drain-clause-collects
returns-in_err-drain-clause-collects g c =
    collects_from g.S.Site.rows.units c.args.tasks.now.items c.drain.new.tasks.items c.args.posts.now.items c.make_lists.new.posts.items
    c.drain.new.posts.items c.make_lists.ensures.values c.drain.ensures.collects

pub returns-clause-collects : goal.returns-clause-collects
returns-clause-collects g c =
    collects_from g.S.Site.rows.units c.args.tasks.now.items c.drain.new.tasks.items c.args.posts.now.items c.make_lists.new.posts.items
    c.drain.new.posts.items c.make_lists.ensures.values c.drain.ensures.collects
