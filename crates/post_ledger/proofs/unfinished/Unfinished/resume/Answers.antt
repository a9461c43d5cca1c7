use Rattle.std.proofs.Common.{◌≡◌, ◌∙◌, None, Option, List, ap, subst, sym}
use Rattle.std.specs.Prelude.{IfErr, IfOk, ⊤}
use Rattle.std.proofs.lemmas.Result.{IfErr-weaker, IfOk-weaker}
use Rattle.excp_system.specs.States.{Locked}
use Rattle.post_ledger.specs.Left.{GrewInto, IsCause, Left, WorkOn, free_states}
use Rattle.post_ledger.specs.Report.{Controls, IsFor, PostedOnce, Received, ReturnedRest}
use Rattle.post_ledger.specs.Work.{CollectsAll}
use Rattle.post_ledger.proofs.Works.{collects_none}
use Rattle.post_ledger.proofs.unfinished.Unfinished.resume.Goals as goal

pub returns-in-Free-clause-posted_once : goal.returns-in-Free-clause-posted_once
returns-in-Free-clause-posted_once g c =
    let seen = c.self.view_is in
    subst (λ (l : Left _). IfOk c.go_on.result (λ report. PostedOnce report l.tasks)) seen c.go_on.ensures.posted_once

pub returns-in-Ok-clause-received : goal.returns-in-Ok-clause-received
returns-in-Ok-clause-received g c = subst (λ (l : Left _). IfOk c.go_on-in-Ok.result (λ report. Received report l.tasks)) c.self.view_is
    c.go_on-in-Ok.ensures.received

pub returns-in-Ok-clause-controlled : goal.returns-in-Ok-clause-controlled
returns-in-Ok-clause-controlled g c =
    subst (λ (l : Left _). IfOk c.go_on-in-Ok.result (λ report. Controls g.S.Site.own_calls g.S.Opened.opened report l.tasks)) c.self.view_is
    c.go_on-in-Ok.ensures.controlled

pub returns-in-Ok-clause-posted_once : goal.returns-in-Ok-clause-posted_once
returns-in-Ok-clause-posted_once g c = subst (λ (l : Left _). IfOk c.go_on-in-Ok.result (λ report. PostedOnce report l.tasks))
    c.self.view_is c.go_on-in-Ok.ensures.posted_once

pub returns-in-Ok-clause-returned : goal.returns-in-Ok-clause-returned
returns-in-Ok-clause-returned g c =
    subst (λ (l : Left _). IfOk c.go_on-in-Ok.result (λ report. ReturnedRest g.D.Device.meaning l.lists report l.tasks)) c.self.view_is
    c.go_on-in-Ok.ensures.returned

pub returns-in-Ok-clause-grew : goal.returns-in-Ok-clause-grew
returns-in-Ok-clause-grew g c =
    let locked : c.args.self.units ≡ None = sym (ap (λ (l : Left _). l.units) c.self.view_is) ∙ ap free_states c.in-Locked.is in
    subst (λ (units : Option (List (Locked _))). IfOk c.go_on-in-Ok.result (λ report. GrewInto units report.books)) (sym locked)
    (IfOk-weaker c.go_on-in-Ok.result (λ report. IsFor g.S.Site.rows.units g.S.Site.rows.tasks report) (λ report. ⊤)
    (λ report done. tt) c.go_on-in-Ok.ensures.complete)

pub returns-in-Ok-clause-collects : goal.returns-in-Ok-clause-collects
returns-in-Ok-clause-collects g c =
    subst (λ (l : Left _). IfErr c.go_on-in-Ok.result (λ left. CollectsAll g.S.Site.rows.units l.tasks left.tasks l.lists left.lists))
    c.self.view_is c.go_on-in-Ok.ensures.collects

pub returns-in-Ok-clause-works : goal.returns-in-Ok-clause-works
returns-in-Ok-clause-works g c =
    let locked : c.args.self.units ≡ None = sym (ap (λ (l : Left _). l.units) c.self.view_is) ∙ ap free_states c.in-Locked.is in
    subst (λ (units : Option (List (Locked _))). IfErr c.go_on-in-Ok.result (λ left. WorkOn units left.units)) (sym locked)
    (IfErr-weaker c.go_on-in-Ok.result (λ left. IsCause g.S.Site.rows.units left.cause left.units) (λ left. ⊤)
    (λ left why. tt) c.go_on-in-Ok.ensures.cause)

pub returns-in-Err-clause-collects : goal.returns-in-Err-clause-collects
returns-in-Err-clause-collects g c =
    subst (λ (l : Left _). CollectsAll g.S.Site.rows.units l.tasks c.self.inside.tasks.items l.lists c.self.inside.posts.items)
    c.self.view_is (collects_none g.S.Site.rows.units c.self.inside.tasks.items c.self.inside.posts.items)
