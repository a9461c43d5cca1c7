-- A layout of items, and the image of the items in it.
use Rattle.std.proofs.Common.{◌≡◌, ℕ, ◌+◌, ◌<◌, ◌≤◌, Bool, true, false, cond, nat_eq, nat_lt}
use Rattle.std.proofs.Common.{List, [], ◌∷◌, ◌++◌, length, take, drop}
use Rattle.std.proofs.Common.{refl, sym, ap, subst, ◌∙◌, append_assoc, append-nil, arith}
use Rattle.std.proofs.lemmas.Bool.Decides.{nat_tests}
use Rattle.std.proofs.lemmas.List.{length-append, take_at, drop_at}
use Rattle.std.proofs.lemmas.List.Folds.{prefix_len-append}
use Rattle.tape_unit.specs.Item.{Item}
use Rattle.aws_tape.specs.declared.layout.Part.{Part}
use Rattle.aws_tape.specs.Layout.{count_before, own_count}
use Rattle.aws_tape.specs.Writing.{item_image, items_image, last_len}
use Rattle.aws_tape.proofs.Written.{items_step, items_end}

-- ---- a layout of items

-- chunks of one block
unfoldable pub AllAt : ℕ → List Part → Type 0
AllAt place [] = Unit {0}
AllAt place (part ∷ parts) = (part.item ≡ place) × AllAt place parts

-- chunks of items from a place on: of each item those at its place, one item after the other
unfoldable pub Laid : ℕ → List Part → List Item → Type 0
Laid place parts [] = parts ≡ []
Laid place parts (x ∷ items) =
    (own : List Part) × (others : List Part) × (parts ≡ own ++ others) × AllAt place own × Laid (place + 1) others items

own_before : (own others : List Part) (place at : ℕ) → at < place → AllAt place own → own_count at others ≡ 0
    → own_count at (own ++ others) ≡ 0
unfolding AllAt
own_before [] others place at before here none = none
own_before (part ∷ own) others place at before here none =
    let other : nat_eq part.item at ≡ false = grind (arith, nat_tests, here.0, before) in
    ap (λ (b : Bool). cond b (1 + own_count at (own ++ others)) 0) other

-- no chunk of these items is at a place before them
none_before : (items : List Item) (place at : ℕ) (parts : List Part) → at < place → Laid place parts items → own_count at parts ≡ 0
unfolding Laid AllAt
none_before [] place at parts before laid = ap (own_count at) laid
none_before (x ∷ items) place at parts before laid =
    ap (own_count at) laid.2 ∙ own_before laid.0 laid.1 place at before laid.3
    (none_before items (place + 1) at laid.1 (omega (arith, before)) laid.4)

own_first : (own others : List Part) (place : ℕ) → AllAt place own → own_count place others ≡ 0
    → own_count place (own ++ others) ≡ length own
unfolding AllAt
own_first [] others place here none = none
own_first (part ∷ own) others place here none =
    let same : nat_eq part.item place ≡ true = grind (arith, nat_tests, here.0) in
    ap (λ (b : Bool). cond b (1 + own_count place (own ++ others)) 0) same ∙ omega (arith, own_first own others place here.1 none)

-- the chunks of an item, and then those of the others
pub laid_step : (own others : List Part) (place previous : ℕ) (x : Item) (items : List Item) → AllAt place own
    → Laid (place + 1) others items
    → items_image (own ++ others) place previous (x ∷ items)
    ≡ item_image previous own x ++ items_image others (place + 1) (last_len previous own x) items
laid_step own others place previous x items here laid =
    let n = own_count place (own ++ others) in
    let count : n ≡ length own = own_first own others place here (none_before items (place + 1) place others (omega arith) laid) in
    let mine : take n (own ++ others) ≡ own = take_at own others n (sym count) in
    let rest : drop n (own ++ others) ≡ others = drop_at own others n (sym count) in
    items_step (own ++ others) place previous x items
    ∙ ap (λ (l : List Part). item_image previous l x ++ items_image (drop n (own ++ others)) (place + 1) (last_len previous l x) items) mine
    ∙ ap (λ (l : List Part). item_image previous own x ++ items_image l (place + 1) (last_len previous own x) items) rest

-- all chunks of an item are before the place after it
own_passed : (own others : List Part) (place at : ℕ) → place < at → AllAt place own
    → count_before at (own ++ others) ≡ length own + count_before at others
unfolding AllAt
own_passed [] others place at before here = omega arith
own_passed (part ∷ own) others place at before here =
    let less : nat_lt part.item at ≡ true = grind (arith, nat_tests, here.0, before) in
    ap (λ (b : Bool). cond b (1 + count_before at (own ++ others)) 0) less ∙ omega (arith, own_passed own others place at before here.1)

pub laid_within : (items : List Item) (place : ℕ) (parts : List Part) → Laid place parts items
    → count_before (place + length items) parts ≡ length parts
unfolding Laid
laid_within [] place parts laid = ap (count_before (place + 0)) laid ∙ sym (ap length laid)
laid_within (x ∷ items) place parts laid =
    let at = place + length (x ∷ items) in
    let own = laid.0 in
    let others = laid.1 in
    let rest : count_before at others ≡ length others =
    ap (λ (n : ℕ). count_before n others) (omega arith) ∙ laid_within items (place + 1) others laid.4 in
    ap (count_before at) laid.2 ∙ own_passed own others place at (omega arith) laid.3
    ∙ omega (arith, rest, ap length laid.2, length-append own others)

-- ---- the first items of a tape

laid_none : (items : List Item) (place : ℕ) → Laid place [] items
unfolding Laid AllAt
laid_none [] place = refl
laid_none (x ∷ items) place = ([], [], refl, tt, laid_none items (place + 1))

laid_join : (items others : List Item) (place : ℕ) (parts rest : List Part) → Laid place parts items
    → Laid (place + length items) rest others
    → Laid place (parts ++ rest) (items ++ others)
unfolding Laid
laid_join [] others place parts rest laid after =
    subst (λ (l : List Part). Laid place (l ++ rest) others) (sym laid) (subst (λ (n : ℕ). Laid n rest others) (omega arith) after)
laid_join (x ∷ items) others place parts rest laid after = (
  laid.0,
  laid.1 ++ rest,
  ap (λ (l : List Part). l ++ rest) laid.2 ∙ append_assoc laid.0 laid.1 rest,
  laid.3,
  laid_join items others (place + 1) laid.1 rest laid.4 (subst (λ (n : ℕ). Laid n rest others) (omega arith) after),
)

-- the chunks of the first items, and those of the others
pub record Split (place : ℕ) (parts : List Part) (items others : List Item) : Type 0 where
  pub front : List Part
  pub rest : List Part
  pub whole : parts ≡ front ++ rest
  pub before : Laid place front items
  pub after : Laid (place + length items) rest others

pub split : (items others : List Item) (place : ℕ) (parts : List Part) → Laid place parts (items ++ others) → Split place parts items others
unfolding Laid
split [] others place parts laid = record {
  front = [];
  rest = parts;
  whole = refl;
  before = refl;
  after = subst (λ (n : ℕ). Laid n parts others) (omega arith) laid;
}
split (x ∷ items) others place parts laid =
    let s = split items others (place + 1) laid.1 laid.4 in
    record {
      front = laid.0 ++ s.front;
      rest = s.rest;
      whole = laid.2 ∙ ap (λ (l : List Part). laid.0 ++ l) s.whole ∙ sym (append_assoc laid.0 s.front s.rest);
      before = (laid.0, s.front, refl, laid.3, s.before);
      after = subst (λ (n : ℕ). Laid n s.rest others) (omega arith) s.after;
    }

-- no chunk of these items is of one before them
below_own : (own others : List Part) (place at : ℕ) → at ≤ place → AllAt place own → count_before at others ≡ 0
    → count_before at (own ++ others) ≡ 0
unfolding AllAt
below_own [] others place at most here none = none
below_own (part ∷ own) others place at most here none =
    let other : nat_lt part.item at ≡ false = grind (arith, nat_tests, here.0, most) in
    ap (λ (b : Bool). cond b (1 + count_before at (own ++ others)) 0) other

none_below : (items : List Item) (place at : ℕ) (parts : List Part) → at ≤ place → Laid place parts items → count_before at parts ≡ 0
unfolding Laid
none_below [] place at parts most laid = ap (count_before at) laid
none_below (x ∷ items) place at parts most laid =
    ap (count_before at) laid.2 ∙ below_own laid.0 laid.1 place at most laid.3
    (none_below items (place + 1) at laid.1 (omega (arith, most)) laid.4)

-- the chunks of the first items are as many as are of items before the others
pub split_count : (items others : List Item) (place : ℕ) (parts : List Part) (s : Split place parts items others)
    → count_before (place + length items) parts ≡ length s.front
split_count items others place parts s =
    let at = place + length items in
    let mine : count_before at s.front ≡ length s.front = laid_within items place s.front s.before in
    let same : nat_eq (count_before at s.front) (length s.front) ≡ true = grind (arith, nat_tests, mine) in
    let sum = length s.front + count_before at s.rest in
    ap (count_before at) s.whole
    ∙ prefix_len-append (λ (p : Part). nat_lt p.item at) s.front s.rest
    ∙ ap (λ (b : Bool). cond b sum (count_before at s.front)) same
    ∙ omega (arith, none_below others at at s.rest (omega arith) s.after)

-- the image of items begins with that of the first
pub begins : (items others : List Item) (place previous : ℕ) (parts rest : List Part) → Laid place parts items
    → Laid (place + length items) rest others
    → (back : List ℕ) × (items_image (parts ++ rest) place previous (items ++ others) ≡ items_image parts place previous items ++ back)
unfolding Laid
begins [] others place previous parts rest laid after = (
  items_image rest place previous others,
  ap (λ (l : List Part). items_image (l ++ rest) place previous others) laid
      ∙ ap (λ (l : List ℕ). l ++ items_image rest place previous others) (sym (items_end parts place previous [] refl)),
)
begins (x ∷ items) others place previous parts rest laid after =
    let own = laid.0 in
    let more = laid.1 in
    let last = last_len previous own x in
    let next : Laid (place + 1 + length items) rest others = subst (λ (n : ℕ). Laid n rest others) (omega arith) after in
    let b = begins items others (place + 1) last more rest laid.4 next in
    let whole : parts ++ rest ≡ own ++ (more ++ rest) = ap (λ (l : List Part). l ++ rest) laid.2 ∙ append_assoc own more rest in (
      b.0,
      ap (λ (l : List Part). items_image l place previous (x ∷ items ++ others)) whole
          ∙ laid_step own (more ++ rest) place previous x (items ++ others) laid.3
          (laid_join items others (place + 1) more rest laid.4 next)
          ∙ ap (λ (l : List ℕ). item_image previous own x ++ l) b.1
          ∙ sym (append_assoc (item_image previous own x) (items_image more (place + 1) last items) b.0)
          ∙ ap (λ (l : List ℕ). l ++ b.0) (sym (laid_step own more place previous x items laid.3 laid.4))
          ∙ ap (λ (l : List Part). items_image l place previous (x ∷ items) ++ b.0) (sym laid.2),
    )

-- where only the first items have chunks of their own
pub begins_plain : (items others : List Item) (place previous : ℕ) (parts : List Part) → Laid place parts items
    → (back : List ℕ) × (items_image parts place previous (items ++ others) ≡ items_image parts place previous items ++ back)
begins_plain items others place previous parts laid =
    let b = begins items others place previous parts [] laid (laid_none others (place + length items)) in
    (b.0, ap (λ (l : List Part). items_image l place previous (items ++ others)) (sym (append-nil parts)) ∙ b.1)
