use Rattle.std.proofs.Common.{◌≡◌, ◌<◌, length, set, Some, sym, ap, ◌∙◌, arith}
use Rattle.std.specs.Prelude.{slice_get}
use Rattle.std.proofs.lemmas.List.{set-get_or}
use Rattle.std.proofs.lemmas.Option.{slice_get-get_or, slice_get_within}
use Rattle.signed_list.specs.Signed.{signed_by}
use Rattle.excp_system.specs.Controls.{LogState, PensState, asked_of}
use Rattle.post_ledger.proofs.Pairs.{before_more}
use Rattle.post_ledger.proofs.audit.audit_unit.Goals as goal

pub loop-task-preserved : goal.loop-task-preserved
loop-task-preserved g c =
    let i = c.loop-task.invariant in
    let task = c.loop-task.task in
    let hands = c.loop-task.hands.items in
    let first = c.args.hands.now.items in
    let unit = c.args.unit in
    let log = c.args.log in
    let p = c.index_mut.result.now in
    let lt : task < length hands =
    omega (arith, c.loop-task-test.true, c.len-task-end.ensures, c.args.hands.now.ok.0, ap length i.hands) in
    let here : slice_get first task ≡ Some p = ap (λ l. slice_get l task) (sym i.hands)
    ∙ (slice_get-get_or hands task p lt ∙ ap Some (sym c.index_mut.ensures.value)) in
    let agrees : signed_by task log.asked ≡ asked_of p.asked unit =
    ap (λ n. signed_by n log.asked) (sym (c.requires.hands task p here).0)
    ∙ (ap (λ (l : LogState). signed_by p.number l.asked) (sym i.log) ∙ c.audit.ensures.agrees) in
    record {
      log = c.audit.ensures.log ∙ i.log;
      hands = ap (set hands task) (c.audit.ensures.pens ∙ c.index_mut.ensures.value) ∙ (set-get_or hands task p ∙ i.hands);
      audited = λ t q below e. before_more (λ k (x : PensState). signed_by k log.asked ≡ asked_of x.asked unit) first task p here
          (λ k y lower at. i.audited k y lower at) agrees t q below e;
    }

pub returns-clause-audited : goal.returns-clause-audited
returns-clause-audited g c =
    let i = c.loop-task.invariant in
    record {
      of_tasks = λ t p e. i.audited t p (omega (
        arith,
        c.loop-task-test.false,
        c.len-task-end.ensures,
        c.args.hands.now.ok.0,
        slice_get_within c.args.hands.now.items t p e,
      )) e;
      no_other = c.holds.ensures.no_other;
      no_own = c.holds.ensures.no_own;
    }
