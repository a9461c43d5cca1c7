use Rattle.std.proofs.Common.{arith, ap, ◌∙◌, ◌≡◌, drop}
use Rattle.std.proofs.lemmas.List.{append-nil}
use Rattle.std.proofs.Math.ListN.{drop_of_length-le}
use Rattle.ccw_programs.specs.Areas.{Parts, areas, preceded}
use Rattle.ccw_programs.proofs.Can.{areas-can}
use Rattle.ccw_programs.proofs.areas.data_areas.Goals as goal

pub returns-clause-can : goal.returns-clause-can
returns-clause-can c =
    let none : drop c.loop-link.link-index c.args.links.now ≡ _ = drop_of_length-le c.args.links.now (omega arith) in
    areas-can c.args.flow c.args.area.now c.args.links.now _ c.requires.some c.requires.sound
    (c.loop-link.invariant.told ∙ ap (λ ls. preceded c.loop-link.chain.items (areas c.args.flow c.args.area.now ls)) none
    ∙ ap Parts (append-nil _))
