use Rattle.std.proofs.Common.{◌∙◌, ap}
use Rattle.post_ledger.specs.Report.{ReportState}
use Rattle.post_ledger.proofs.Closing.{are_begun, are_idle, are_legal, are_of_tasks, controls, posted_once, received, returned_rest}
use Rattle.post_ledger.proofs.unfinished.close.Goals as goal

pub returns-clause-began : goal.returns-clause-began
returns-clause-began g c = are_begun g.D.Device.meaning c.args.units.items c.args.tasks.items c.new.result
    (ap (λ (r : ReportState _). r.books) c.new.ensures ∙ c.join_all-books.ensures.books) c.requires.units c.join_all-books.ensures.began

pub returns-clause-legal : goal.returns-clause-legal
returns-clause-legal g c = are_legal g.D.Device.meaning c.args.units.items c.args.tasks.items c.new.result
    (ap (λ (r : ReportState _). r.books) c.new.ensures ∙ c.join_all-books.ensures.books) c.join_all-books.ensures.sound

pub returns-clause-idle : goal.returns-clause-idle
returns-clause-idle g c = are_idle g.D.Device.meaning c.args.units.items c.args.tasks.items c.new.result
    (ap (λ (r : ReportState _). r.books) c.new.ensures ∙ c.join_all-books.ensures.books) c.requires.idle

pub returns-clause-of_tasks : goal.returns-clause-of_tasks
returns-clause-of_tasks g c = are_of_tasks g.D.Device.meaning c.args.units.items c.args.tasks.items c.new.result
    (ap (λ (r : ReportState _). r.books) c.new.ensures ∙ c.join_all-books.ensures.books) g.S.Site.rows c.join_all-books.ensures.of_unit

pub returns-clause-received : goal.returns-clause-received
returns-clause-received g c = received g.D.Device.meaning c.args.units.items c.args.tasks.items c.new.result
    (ap (λ (r : ReportState _). r.books) c.new.ensures ∙ c.join_all-books.ensures.books) c.join_all-books.ensures.settled

pub returns-clause-controlled : goal.returns-clause-controlled
returns-clause-controlled g c = controls g.D.Device.meaning c.args.units.items c.args.tasks.items c.new.result
    (ap (λ (r : ReportState _). r.books) c.new.ensures ∙ c.join_all-books.ensures.books) g.S.Site.own_calls g.S.Opened.opened
    c.join_all-books.ensures.controlled

pub returns-clause-posted_once : goal.returns-clause-posted_once
returns-clause-posted_once g c =
    let meaning = g.D.Device.meaning in
    let joined = c.join_all-books.ensures in
    posted_once meaning c.args.units.items c.args.tasks.items c.new.result
    (ap (λ (r : ReportState _). r.books) c.new.ensures ∙ joined.books) joined.settled c.finished_posts_once.ensures
    (are_legal meaning c.args.units.items c.args.tasks.items c.new.result
    (ap (λ (r : ReportState _). r.books) c.new.ensures ∙ joined.books) joined.sound)
    (are_idle meaning c.args.units.items c.args.tasks.items c.new.result (ap (λ (r : ReportState _). r.books) c.new.ensures ∙ joined.books)
    c.requires.idle)

pub returns-clause-returned : goal.returns-clause-returned
returns-clause-returned g c =
    let joined = c.join_all-books.ensures in
    returned_rest g.D.Device.meaning c.args.units.items c.args.tasks.items c.new.result
    (ap (λ (r : ReportState _). r.books) c.new.ensures ∙ joined.books) joined.settled c.args.posts.items
    (ap (λ (r : ReportState _). r.lists) c.new.ensures) joined.sound c.requires.drained
