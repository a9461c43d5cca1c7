use Rattle.std.proofs.Common.{◌≡◌, ◌-◌, ◌<◌, ◌≤◌, ℕ, List, true, length, get_or, reverse, take, sym, ap, ◌∙◌, arith, inl, inr}
use Rattle.std.proofs.lemmas.Bool.{cases_lt}
use Rattle.std.proofs.lemmas.List.{get_or-reverse, get_or-take, length-reverse, length-take-le}
use Rattle.tape_unit.specs.Item.{Item, tape_mark, is_mark}
use Rattle.tape_unit.proofs.Marks.{mark_found, no_mark}
use Rattle.tape_unit.proofs.reel.Reel.mark_behind.Goals as goal

-- the item that goes by backward as the n-th
nth_behind : (items : List Item) (place n : ℕ) → place ≤ length items → n < place →
    get_or (reverse (take place items)) n tape_mark ≡ get_or items (place - 1 - n) tape_mark
nth_behind items place n le lt =
    let len = length-take-le place items le in
    get_or-reverse (take place items) n tape_mark (omega (arith, len))
    ∙ ap (λ (k : ℕ). get_or (take place items) (k - 1 - n) tape_mark) len
    ∙ get_or-take place items (place - 1 - n) tape_mark (omega arith)

length-behind : (items : List Item) (place : ℕ) → place ≤ length items → length (reverse (take place items)) ≡ place
length-behind items place le = length-reverse (take place items) ∙ length-take-le place items le

pub returns-then-is_mark : goal.returns-then-is_mark
returns-then-is_mark c =
    let items = c.args.self.now.items in
    let place = c.args.at.place in
    let i = c.loop-here.invariant in
    let here = c.previous-here.result.place in
    let n = place - 1 - here in
    let le = c.requires.within in
    let lt : here < place = omega (arith, i.behind, c.loop-here-test.true, c.previous-here.ensures.previous) in
    let same : place - 1 - n ≡ here = omega (arith, lt) in
    let before : n ≡ place - c.loop-here.here.place = omega (arith, i.behind, c.loop-here-test.true, c.previous-here.ensures.previous) in
    let is : is_mark (get_or (reverse (take place items)) n tape_mark) ≡ true =
    ap is_mark (nth_behind items place n le (omega (arith, lt))) ∙ ap (λ (k : ℕ). is_mark (get_or items k tape_mark)) same
    ∙ ap is_mark (sym c.item.ensures.item) ∙ sym c.is_mark.ensures ∙ c.if-is_mark.true in
    record {
      on = c.previous-here.ensures.on;
      behind = lt;
      first = mark_found (reverse (take place items)) n (omega (arith, length-behind items place le, lt))
          (λ k below. i.no_mark k (omega (arith, below, before))) is;
    }

pub loop-here-preserved : goal.loop-here-preserved
loop-here-preserved c =
    let items = c.args.self.now.items in
    let place = c.args.at.place in
    let i = c.loop-here.invariant in
    let old = c.loop-here.here.place in
    let here = c.previous-here.result.place in
    let le = c.requires.within in
    record {
      on = c.previous-here.ensures.on;
      behind = omega (arith, i.behind, c.previous-here.ensures.previous);
      no_mark = λ k lt. elim (cases_lt k (place - old)) [
        | inl before ↦ i.no_mark k before
        | inr past ↦
            let is : place - 1 - k ≡ here = omega (arith, i.behind, lt, c.loop-here-test.true, c.previous-here.ensures.previous) in
            ap is_mark (nth_behind items place k le (omega (arith, i.behind, lt, c.loop-here-test.true, c.previous-here.ensures.previous)))
            ∙ ap (λ (j : ℕ). is_mark (get_or items j tape_mark)) is
            ∙ ap is_mark (sym c.item.ensures.item) ∙ sym c.is_mark.ensures ∙ c.if-is_mark.false
      ];
    }

pub returns : goal.returns
returns c =
    let items = c.args.self.now.items in
    let place = c.args.at.place in
    let i = c.loop-here.invariant in
    record {
      on = tt;
      behind = tt;
      first = no_mark (reverse (take place items)) (place - c.loop-here.here.place)
          (omega (arith, length-behind items place c.requires.within, c.loop-here-test.false)) i.no_mark;
    }
