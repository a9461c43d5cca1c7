use Rattle.std.proofs.Common.{◌<◌, length, ap, sym, ◌∙◌, arith, refl}
use Rattle.std.proofs.lemmas.List.{length-map}
use Rattle.signed_list.specs.Signed.{Signing, signed_by}
use Rattle.excp_system.specs.Controls.{PensState, asked_of}
use Rattle.excp_system.proofs.Hands.{audits_one, same_pens}
use Rattle.excp_system.proofs.pens.Pens.audit.Goals as goal

pub returns-clause-pens : goal.returns-clause-pens
returns-clause-pens g c =
    let pens = c.self.inside.pens.items in
    let k = c.args.unit in
    let lt : k < length pens = omega (
      arith,
      c.requires.unit,
      ap (λ (v : PensState). length v.asked) c.self.view_is,
      length-map pens (λ (p : Signing _). p.signed),
    ) in
    (λ j. record {
      number = c.self.inside.number;
      asked = same_pens g.S.Site.rows c.self.inside.number pens c.self.invariant k k refl lt c.index_mut-pen.result.now
          c.index_mut-pen.ensures.value c.audit.new.pen c.audit.ensures.pen j;
    })
    ∙ c.self.view_is

pub returns-clause-agrees : goal.returns-clause-agrees
returns-clause-agrees g c =
    let pens = c.self.inside.pens.items in
    let k = c.args.unit in
    let lt : k < length pens = omega (
      arith,
      c.requires.unit,
      ap (λ (v : PensState). length v.asked) c.self.view_is,
      length-map pens (λ (p : Signing _). p.signed),
    ) in
    ap (λ (v : PensState). signed_by v.number c.args.log.now.asked) (sym c.self.view_is)
    ∙ audits_one g.S.Site.rows c.self.inside.number pens c.self.invariant k k refl lt c.index_mut-pen.result.now
    c.index_mut-pen.ensures.value c.args.log.now.asked c.audit.ensures.agrees
    ∙ ap (λ (v : PensState). asked_of v.asked k) c.self.view_is
