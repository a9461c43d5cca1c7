use Rattle.std.proofs.Common.{◌<◌, length, ap, sym, ◌∙◌, arith}
use Rattle.std.specs.Prelude.{true}
use Rattle.std.proofs.lemmas.List.{length-map}
use Rattle.signed_list.specs.Signed.{Signing}
use Rattle.excp_system.specs.Controls.{PensState, asks}
use Rattle.excp_system.proofs.Hands.{signs_one}
use Rattle.excp_system.proofs.pens.Pens.note.Goals as goal

pub returns-then-is_asked-clause-pens : goal.returns-then-is_asked-clause-pens
returns-then-is_asked-clause-pens g c =
    let is = c.self.view_is in
    let number = c.self.inside.number in
    let pens = c.self.inside.pens.items in
    let k = c.args.unit in
    let control = c.args.control in
    let lt : k < length pens =
    omega (arith, c.requires.unit, ap (λ (v : PensState). length v.asked) is, length-map pens (λ (p : Signing _). p.signed)) in
    (λ j. record {
      number = number;
      asked = signs_one g.S.Site.rows number pens c.self.invariant c.from.result k c.from.ensures lt c.index_mut-pen.result.now
          c.index_mut-pen.ensures.value c.sign.new.pen control c.sign.ensures.pen j;
    })
    ∙ ap (λ (v : PensState). record { number = v.number; asked = asks true k control v.asked }) is
    ∙ ap (λ made. record { number = c.args.self.now.number; asked = asks made k control c.args.self.now.asked }) (sym c.if-is_asked.true)
