-- Which states are reached, and what holds of them.
use Rattle.std.proofs.Common.{◌≡◌, ◌≤◌, ◌<◌, ℕ, ◌+◌, eqb, true, Option, Some, None, List, [], ◌∷◌, ◌++◌, length, drop, replicate, refl, sym}
use Rattle.std.proofs.Common.{ap, ◌∙◌, subst, inl, inr, arith}
use Rattle.std.specs.Prelude.{slice_get, slice_index_or, IfNone, IfSome, IfOk, OnErr, OnOk}
use Rattle.std.specs.List.{list_all}
use Rattle.std.specs.declared.result.Result.{Result}
use Rattle.std.specs.declared.result.Result.TheVariants.{Ok, Err}
use Rattle.std.proofs.lemmas.Bool.{cases_Bool, eq-eqb}
use Rattle.std.proofs.lemmas.List.{get_or_past, get_or-replicate, length-replicate}
use mathlib.Core.Logic.{dite}
use native.Mathlib.Decide.{dec_lt}
use Rattle.circular_buffer.proofs.Places.{slice_get-append_right}
use Rattle.device_port.specs.Meaning.{Meaning}
use Rattle.request_piece.specs.PostedState.{PostedState}
use Rattle.request_piece.specs.declared.piece.Name.{Name}
use Rattle.request_piece.specs.declared.piece.Piece.{Piece}
use Rattle.unit_book.specs.Book.{Book, given}
use Rattle.unit_book.specs.Legal.{Legal}
use Rattle.unit_book.specs.Lists.{Each}
use Rattle.unit_book.specs.Posts.{posted, posted_value}
use Rattle.unit_book.specs.Trace.{arrivals, arrived_of, is_opening}
use Rattle.unit_book.specs.World.{World, Reaches, Stay, Go, requests_of}
use Rattle.unit_book.proofs.Kept.{Inherits, out-of}
use Rattle.unit_book.proofs.WorldTraces.{opened-only}
use Rattle.unit_book.proofs.Worlds.{world-laws}
use Rattle.unit_world.specs.Parts.{issued_by}
use Rattle.unit_world.specs.PostLists.{list_of}
use Rattle.unit_world.specs.States.{WorldState, MakesStep, MakesSteps, IsReached, IsWorldState, KeepsLaws, StepName, with_spare}
use Rattle.unit_world.proofs.Moves.{with_book}
use Rattle.unit_world.proofs.Steps.{world_of}

-- what follows of a call that was done, and of one that was refused
pub either : {A E Refused Then : Type 0} (r : Result A E) {Done : A → Type 0} → IfOk r Done → OnErr r Refused →
    ((a : A) → Done a → Then) → (Refused → Then) → Then
either (Ok a) done refused f g = f a done
either (Err e) done refused f g = g refused

pub either-on : {A E Done Refused Then : Type 0} (r : Result A E) → OnOk r Done → OnErr r Refused → (Done → Then) → (Refused → Then) → Then
either-on (Ok a) done refused f g = f done
either-on (Err e) done refused f g = g refused

-- what follows of the first item, and of that there is none
pub on-some-value : {X : Type 0} {T : X → Type 0} (r : Option X) (xs : List X) → r ≡ slice_get xs 0 →
    ((x : X) → slice_get xs 0 ≡ Some x → T x) → IfSome r T
on-some-value None xs e f = tt
on-some-value (Some x) xs e f = f x (sym e)

pub on-none : {X T : Type 0} (r : Option X) (xs : List X) → r ≡ slice_get xs 0 → (slice_get xs 0 ≡ None → T) → IfNone r T
on-none None xs e f = f (sym e)
on-none (Some x) xs e f = tt

-- a list without a first item has no rest
pub no-rest : {X : Type 0} (xs : List X) → slice_get xs 0 ≡ None → drop 1 xs ≡ xs
no-rest [] h = refl
no-rest (x ∷ xs) h = absurd cc

then-all : {D : Type 0} (meaning : Meaning D) {first mid last : World D} → Reaches meaning first mid → Reaches meaning mid last →
    Reaches meaning first last
then-all meaning before Stay = before
then-all meaning before (Go rest step) = Go (then-all meaning before rest) step

-- a list with no item of these tasks has only items of the others
pub first-rest : {X : Type 0} (xs : List X) (x : X) → slice_get xs 0 ≡ Some x → xs ≡ x ∷ drop 1 xs
first-rest [] x h = absurd cc
first-rest (y ∷ xs) x h = let e : y ≡ x = cc in ap (λ z. z ∷ xs) e

no-more : {X : Type 0} (xs ys : List X) → length (xs ++ ys) ≡ 0 → xs ≡ []
no-more [] ys h = refl
no-more (x ∷ xs) ys h = absurd (omega (arith, h))

none-after : {X : Type 0} (xs ys : List X) → xs ++ ys ≡ [] → ys ≡ []
none-after [] ys h = h
none-after (x ∷ xs) ys h = absurd cc

of-tasks : (n : ℕ) (rs : List Piece) → ((t : ℕ) → n ≤ t → requests_of t rs ≡ []) → Each (λ r. r.name.task < n) rs
of-tasks n [] h = tt
of-tasks n (r ∷ rs) h = (head, of-tasks n rs (λ t le. rest t (h t le))) where
  head : r.name.task < n
  head = dite (dec_lt r.name.task n) (λ lt. lt) (λ no.
      let e = eq-eqb r.name.task r.name.task refl in
      let f = h r.name.task (omega (arith, no)) in
      let g : r ∷ requests_of r.name.task rs ≡ [] = rw e at f in absurd cc)

  rest : (t : ℕ) → requests_of t (r ∷ rs) ≡ [] → requests_of t rs ≡ []
  rest t f = elim (cases_Bool (eqb r.name.task t)) [
    | inl e ↦ let g : r ∷ requests_of t rs ≡ [] = rw e at f in absurd cc
    | inr e ↦ rw e at f
  ]

-- what holds of the requests of each task
of-each-task : (P : Piece → Type 0) (rs : List Piece) → ((t : ℕ) → Each P (requests_of t rs)) → Each P rs
of-each-task P [] h = tt
of-each-task P (r ∷ rs) h = (head, of-each-task P rs (λ t. rest t (h t))) where
  head : P r
  head =
      let e = eq-eqb r.name.task r.name.task refl in
      let f = h r.name.task in
      let g : Each P (r ∷ requests_of r.name.task rs) = rw e at f in g.0

  rest : (t : ℕ) → Each P (requests_of t (r ∷ rs)) → Each P (requests_of t rs)
  rest t f = elim (cases_Bool (eqb r.name.task t)) [
    | inl e ↦ let g : Each P (r ∷ requests_of t rs) = rw e at f in g.1
    | inr e ↦ rw e at f
  ]

Each-left : {X : Type 0} (P : X → Type 0) (xs ys : List X) → Each P (xs ++ ys) → Each P xs
Each-left P [] ys h = tt
Each-left P (x ∷ xs) ys h = (h.0, Each-left P xs ys h.1)

-- each item of a list of one item is that item, and so is what is past its end
pub all-same : {X : Type 0} (n i : ℕ) (x : X) → slice_index_or (replicate n x) i x ≡ x
all-same n i x = dite (dec_lt i n) (get_or-replicate n i x x)
    (λ no. get_or_past (replicate n x) i x (omega (arith, length-replicate n x, no)))

pub Each-first : {X : Type 0} (P : X → Type 0) (xs : List X) (x : X) → Each P xs → slice_get xs 0 ≡ Some x → P x
Each-first P [] x h e = absurd cc
Each-first P (y ∷ xs) x h e = let i : y ≡ x = cc in subst P i h.0

module _ {D : Type 0} (meaning : Meaning D) where
  pub keeps-laws : (v : WorldState D) → IsReached meaning v → KeepsLaws meaning v
  keeps-laws v r =
      record { world = r.world; shows = r.shows; keeps = (world-laws meaning).keeps r.opening r.world r.opens r.reaches }

  -- WHAT KEEPS A STATE
  pub state-step : (old new : WorldState D) {name : StepName} → IsWorldState meaning old →
      length new.back ≡ length new.part.issued → MakesStep meaning name old new →
      IsWorldState meaning new
  state-step old new is tasks f =
      let r = is.reached in
      let next = f r.world r.shows in
      record {
        reached = record { opening = r.opening; world = next.after; opens = r.opens; reaches = Go r.reaches next.step; shows = next.shows };
        tasks = tasks;
      }

  pub state-steps : (old new : WorldState D) → IsWorldState meaning old → length new.back ≡ length new.part.issued →
      MakesSteps meaning old new → IsWorldState meaning new
  state-steps old new is tasks f =
      let r = is.reached in
      let next = f r.world r.shows in
      record {
        reached = record {
          opening = r.opening;
          world = next.after;
          opens = r.opens;
          reaches = then-all meaning r.reaches next.steps;
          shows = next.shows;
        };
        tasks = tasks;
      }

  -- with other room for entries
  pub state-spare : (v : WorldState D) (book : Book D) → IsWorldState meaning v → book ≡ record v.part.book { spare = book.spare } →
      IsWorldState meaning (with_book v book)
  state-spare v book is same =
      let r = is.reached in
      let h = r.shows in
      record {
        reached = record {
          opening = r.opening;
          world = r.world;
          opens = r.opens;
          reaches = r.reaches;
          shows = record {
            unit = h.unit;
            intake_room = h.intake_room;
            post_room = h.post_room;
            flight = h.flight;
            book = h.book ∙ sym (ap (with_spare r.world.book.spare) same);
            back = h.back;
            sent = h.sent;
          };
        };
        tasks = is.tasks;
      }

  -- of a book that has only opened DCBs, nothing is out
  pub opened-out : (b : Book D) → list_all is_opening b.trace ≡ true → given meaning b ++ b.out ≡ posted meaning b.mounted b.trace →
      b.out ≡ []
  opened-out b opened all = none-after (given meaning b) b.out (all ∙ (opened-only meaning b.mounted b.trace opened).1)

  -- the state in which nothing was sent
  pub state-opening : (v : WorldState D) → Legal meaning v.part.book.mounted v.part.book.trace →
      list_all is_opening v.part.book.trace ≡ true → v.part.book.out ≡ [] → v.part.flight ≡ [] →
      ((task : ℕ) → list_of v.back task ≡ []) → ((task : ℕ) → issued_by v.part.issued task ≡ 0) →
      length v.back ≡ length v.part.issued → IsWorldState meaning v
  state-opening v legal opened out flight back issued tasks =
      let w = world_of v v.part.book.spare (λ task. []) (λ task. []) (λ task. []) in
      record {
        reached = record {
          opening = w;
          world = w;
          opens = record {
            legal = legal;
            opened = opened;
            out = out;
            sent = λ task. refl;
            flight = flight;
            back = λ task. refl;
            got = λ task. refl;
          };
          reaches = Stay;
          shows = record {
            unit = refl;
            intake_room = refl;
            post_room = refl;
            flight = refl;
            book = refl;
            back = λ task. sym (back task);
            sent = λ task. sym (issued task);
          };
        };
        tasks = tasks;
      }

  -- THE NEXT NUMBER: the first request in flight has it
  pub next-number : (v : WorldState D) (r : Piece) → IsWorldState meaning v → slice_get v.part.flight 0 ≡ Some r →
      r.name.seq ≡ arrived_of r.name.task v.part.book.trace + 1
  next-number v r is first =
      let k = keeps-laws v is.reached in
      let w = k.world in
      let task = r.name.task in
      let A = requests_of task (arrivals w.book.trace) in
      let rest = drop 1 w.flight in
      let e : w.flight ≡ r ∷ rest = first-rest w.flight r (ap (λ x. slice_get x 0) k.shows.flight ∙ first) in
      let t : eqb r.name.task task ≡ true = eq-eqb task task refl in
      let f : requests_of task w.flight ≡ r ∷ requests_of task rest = ap (requests_of task) e ∙ rw t refl in
      let p : slice_get (w.sent task) (length A) ≡ Some r
      = ap (λ x. slice_get x (length A)) (sym (k.keeps.received task) ∙ ap (λ x. A ++ x) f)
      ∙ slice_get-append_right A (r ∷ requests_of task rest) (length A) 0 (omega arith) in
      ap (λ (n : Name). n.seq) (k.keeps.numbered task (length A) r p) ∙ ap (λ (b : Book D). arrived_of task b.trace + 1) k.shows.book

  -- THE FIRST VALUE THAT IS OUT is for one of the tasks
  pub first-of-task : (v : WorldState D) (value : PostedState) → IsWorldState meaning v →
      Legal meaning v.part.book.mounted v.part.book.trace →
      given meaning v.part.book ++ v.part.book.out ≡ posted meaning v.part.book.mounted v.part.book.trace →
      slice_get v.part.book.out 0 ≡ Some value →
      value.name.task < length v.back
  unfolding posted_value
  first-of-task v value is legal all first =
      let k = keeps-laws v is.reached in
      let w = k.world in
      let n = length v.part.issued in
      let none : (t : ℕ) → n ≤ t → requests_of t (arrivals v.part.book.trace) ≡ [] = λ t le.
      no-more (requests_of t (arrivals v.part.book.trace)) (requests_of t w.flight)
      (ap (λ (b : Book D). length (requests_of t (arrivals b.trace) ++ requests_of t w.flight)) (sym k.shows.book)
      ∙ ap length (k.keeps.received t) ∙ k.shows.sent t ∙ get_or_past v.part.issued t 0 le) in
      let arrived = of-tasks n (arrivals v.part.book.trace) none in
      let inherits : Inherits (λ r. r.name.task < n) (λ x. x.name.task < n) = record { posts = λ r csw sense code m h. h } in
      let outs = out-of meaning inherits v.part.book legal all arrived in
      let lt : value.name.task < n = Each-first (λ x. x.name.task < n) v.part.book.out value outs first in
      omega (arith, lt, is.tasks)

  -- and of this unit
  pub first-of-unit : (v : WorldState D) (value : PostedState) → IsWorldState meaning v →
      Legal meaning v.part.book.mounted v.part.book.trace →
      given meaning v.part.book ++ v.part.book.out ≡ posted meaning v.part.book.mounted v.part.book.trace →
      slice_get v.part.book.out 0 ≡ Some value →
      value.unit ≡ v.unit
  unfolding posted_value
  first-of-unit v value is legal all first =
      let k = keeps-laws v is.reached in
      let w = k.world in
      let of_task : (t : ℕ) → Each (λ (r : Piece). r.unit ≡ w.unit) (requests_of t (arrivals v.part.book.trace)) = λ t.
      Each-left (λ (r : Piece). r.unit ≡ w.unit) (requests_of t (arrivals v.part.book.trace)) (requests_of t w.flight)
      (subst (Each (λ (r : Piece). r.unit ≡ w.unit))
      (sym (ap (λ (b : Book D). requests_of t (arrivals b.trace) ++ requests_of t w.flight) (sym k.shows.book) ∙ k.keeps.received t))
      (k.keeps.for_unit t)) in
      let arrived = of-each-task (λ (r : Piece). r.unit ≡ w.unit) (arrivals v.part.book.trace) of_task in
      let inherits : Inherits (λ r. r.unit ≡ w.unit) (λ x. x.unit ≡ w.unit) = record { posts = λ r csw sense code m h. h } in
      let outs = out-of meaning inherits v.part.book legal all arrived in
      let e : value.unit ≡ w.unit = Each-first (λ x. x.unit ≡ w.unit) v.part.book.out value outs first in
      e ∙ k.shows.unit
