use Rattle.std.proofs.Common.{◌≡◌, ◌+◌, ◌-◌, ◌<◌, true, length, get_or, drop, sym, ap, ◌∙◌, arith, inl, inr, ℕ}
use Rattle.std.proofs.lemmas.Bool.{cases_lt}
use Rattle.std.proofs.lemmas.List.{get_or-drop, length-drop}
use Rattle.tape_unit.specs.Item.{tape_mark, is_mark}
use Rattle.tape_unit.proofs.Marks.{mark_found, no_mark}
use Rattle.tape_unit.proofs.reel.Reel.mark_ahead.Goals as goal

pub returns-then-is_mark : goal.returns-then-is_mark
returns-then-is_mark c =
    let items = c.args.self.now.items in
    let place = c.args.at.place in
    let here = c.loop-here.here.place in
    let n = here - place in
    let i = c.loop-here.invariant in
    let lt : here < length items = omega (arith, c.loop-here-test.true, c.len.ensures) in
    let same : place + n ≡ here = omega (arith, i.ahead) in
    let is : is_mark (get_or (drop place items) n tape_mark) ≡ true =
    ap is_mark (get_or-drop place items n tape_mark) ∙ ap (λ (k : ℕ). is_mark (get_or items k tape_mark)) same
    ∙ ap is_mark (sym c.item.ensures.item) ∙ sym c.is_mark.ensures ∙ c.if-is_mark.true in
    record {
      on = i.on;
      within = lt;
      ahead = i.ahead;
      first = mark_found (drop place items) n (omega (arith, length-drop place items, lt, i.ahead)) i.no_mark is;
    }

pub loop-here-preserved : goal.loop-here-preserved
loop-here-preserved c =
    let items = c.args.self.now.items in
    let place = c.args.at.place in
    let here = c.loop-here.here.place in
    let i = c.loop-here.invariant in
    record {
      on = c.next-here.ensures.on;
      ahead = omega (arith, i.ahead, c.next-here.ensures.next);
      no_mark = λ k lt. elim (cases_lt k (here - place)) [
        | inl before ↦ i.no_mark k before
        | inr past ↦
            let is : place + k ≡ here = omega (arith, i.ahead, lt, c.next-here.ensures.next) in
            ap is_mark (get_or-drop place items k tape_mark) ∙ ap (λ (j : ℕ). is_mark (get_or items j tape_mark)) is
            ∙ ap is_mark (sym c.item.ensures.item) ∙ sym c.is_mark.ensures ∙ c.if-is_mark.false
      ];
    }

pub returns : goal.returns
returns c =
    let ahead = drop c.args.at.place c.args.self.now.items in
    let i = c.loop-here.invariant in
    record {
      on = tt;
      within = tt;
      ahead = tt;
      first = no_mark ahead (c.loop-here.here.place - c.args.at.place)
          (omega (arith, length-drop c.args.at.place c.args.self.now.items, c.len.ensures, c.loop-here-test.false, i.on.within, i.ahead))
          i.no_mark;
    }
