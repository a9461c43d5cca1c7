use Rattle.std.proofs.Common.{arith, ap, sym, ◌∙◌, nat_eq, ◌-◌, Ok, Err, refl, length, length-append, [], ◌∷◌}
use Rattle.std.proofs.lemmas.List.{append-nil}
use Rattle.ccw_programs.specs.Areas.{parts_after}
use Rattle.ccw_programs.proofs.Parts.{no_part, part_more, parts_from-none}
use Rattle.ccw_programs.proofs.areas.push_words.Goals as goal

pub returns-in-Err-clause-parts : goal.returns-in-Err-clause-parts
returns-in-Err-clause-parts c =
    no_part c.args.area.now c.args.skip (nat_eq c.loop-place.place 0) c.loop-place.chain.items _ c.loop-place.at c.args.words c.loop-place.place
    c.loop-place.count (omega arith) c.loop-place.invariant.told c.in-Err.ensures.answer
    ∙ ap Err (sym c.in-Err.ensures.rule)

pub loop-place-preserved : goal.loop-place-preserved
loop-place-preserved c = record {
  room = omega (arith, ap length c.push.ensures.items, length-append c.loop-place.chain.items (c.in-Ok.part ∷ []));
  told = part_more c.args.area.now c.args.skip (nat_eq c.loop-place.place 0) c.loop-place.chain.items _ c.loop-place.at c.args.words
      c.loop-place.place c.loop-place.count (omega arith) c.loop-place.invariant.told
      c.in-Ok.part c.in-Ok.ensures.answer.0 c.in-Ok.ensures.answer.1 c.in-Ok.ensures.bound.2 ∙ rw c.push.ensures.items refl;
}

pub returns-clause-parts : goal.returns-clause-parts
returns-clause-parts c =
    c.loop-place.invariant.told
    ∙ ap (parts_after c.loop-place.chain.items) (parts_from-none _ _ _ _ (c.args.words - c.loop-place.place) _ (omega arith))
    ∙ ap Ok (append-nil _)
