-- What the calls of a book keep, one after another: nothing that was given is taken back, and what is posted is of
-- what arrived.
use Rattle.unit_book.proofs.Names.{◌≡◌, ℕ, true, List, [], ◌∷◌, ◌++◌, refl, sym, inl, inr, subst, OnOk, OnErr, cases_Bool}
use Rattle.unit_book.proofs.Names.{Csw, Code, Meaning, Storage, PostedState, Name, Piece, Entry, Arrive, Post, same, arrivals, has_arrived}
use Rattle.unit_book.proofs.Names.{request_named, area, Legal, posted, posted_value, Book, Each, arith}
use Rattle.std.specs.Prelude.{IfOk}
use Rattle.std.specs.declared.result.Result.{Result}
use Rattle.unit_book.specs.Book.{given}
use Rattle.unit_book.specs.Settle.{Steps, Settles, Stays, Then}
use Rattle.unit_book.proofs.Facts.{Each-behind}
use Rattle.unit_book.proofs.LegalFacts.{facts}
use Rattle.unit_book.proofs.Lists.{same-refl}
use Rattle.unit_book.proofs.WorldBooks.{Keeps, Sound, keeps-same, keeps-start, keeps-run, keeps-interrupt}
use Rattle.std.proofs.lemmas.Grind.{common_steps}

-- what follows where a call was done and where it was refused follows of it
pub either_way : {A E : Type 0} {Refused Then : Type 0} (r : Result A E) {Done : A → Type 0} → IfOk r Done → OnErr r Refused →
    ((a : A) → Done a → Then) → (Refused → Then) → Then
either_way v0 done refused f g = grind (arith, common_steps)

-- two facts of a call that was done
pub done_and : {A E : Type 0} (Done : A → Type 0) (Also : Type 0) (r : Result A E) → IfOk r Done → OnOk r Also → IfOk r (λ a. Done a × Also)
done_and v0 v1 v2 done also = grind (arith, common_steps)

module _ {D : Type 0} (meaning : Meaning D) where
  -- what was given stays given
  pub given-keeps : {old new : Book D} {more : List Piece} → given meaning old ++ old.out ≡ posted meaning old.mounted old.trace →
      Keeps meaning old more new → given meaning new ≡ given meaning old
  given-keeps {old} {new} all k = grind (arith, common_steps)

  pub sound-kept : {old new : Book D} {more : List Piece} → Keeps meaning old more new → Sound meaning new
  sound-kept {old} {new} k = grind (arith, common_steps)

  -- two calls
  pub keeps-then : {old mid new : Book D} {first more : List Piece} → Keeps meaning old first mid → Keeps meaning mid more new →
      Keeps meaning old (first ++ more) new
  keeps-then {old} {mid} {new} {first} {more} a b = grind (arith, common_steps)

  keeps-step : {old new : Book D} → Sound meaning old → Steps meaning old new → Keeps meaning old [] new
  keeps-step s v1 = grind (arith, common_steps, keeps-start, keeps-run, keeps-interrupt)

  -- a list of starts, runs and interruptions
  pub keeps-settles : {old new : Book D} → Sound meaning old → Settles meaning old new → Keeps meaning old [] new
  keeps-settles s Stays = keeps-same meaning s refl
  keeps-settles s (Then before step) = let a = keeps-settles s before in keeps-then a (keeps-step (sound-kept a) step)

-- WHAT IS POSTED IS OF WHAT ARRIVED

Each-front : {X : Type 0} (P : X → Type 0) (xs ys : List X) → Each P (xs ++ ys) → Each P xs
Each-front P [] ys h = tt
Each-front P (x ∷ xs) ys h = (h.0, Each-front P xs ys h.1)

Each-back : {X : Type 0} (P : X → Type 0) (xs ys : List X) → Each P (xs ++ ys) → Each P ys
Each-back P [] ys h = h
Each-back P (x ∷ xs) ys h = Each-back P xs ys h.1

-- the request of a name that arrived is one of the arrivals
request-among : (P : Piece → Type 0) (n : Name) (H : List Entry) → has_arrived n H ≡ true → Each P (arrivals H) → P (request_named n H)
unfolding arrivals request_named
request-among P n [] a h = absurd cc
request-among P n (Arrive r ∷ H) a h =
    elim (cases_Bool (same r.name n)) [
      | inl s ↦ rw s (Each-back P (arrivals H) (r ∷ []) h).0
      | inr s ↦ let a' : has_arrived n H ≡ true = rw s at a in rw s (request-among P n H a' (Each-front P (arrivals H) (r ∷ []) h))
    ]
request-among P n (_ ∷ H) a h = request-among P n H a h

-- what is said of a request is said of each value that its post hands out
pub record Inherits (P : Piece → Type 0) (Q : PostedState → Type 0) : Type 0 where
  pub posts : (r : Piece) (csw : Csw) (sense : ℕ) (code : Code) (m : Storage) → P r → Q (posted_value r csw sense code m)

module _ {D : Type 0} (meaning : Meaning D) {P : Piece → Type 0} {Q : PostedState → Type 0} (inherits : Inherits P Q) where
  posted-of : (mounted : D) (H : List Entry) → Legal meaning mounted H → Each P (arrivals H) → Each Q (posted meaning mounted H)
  unfolding Legal arrivals posted
  posted-of mounted [] l h = tt
  posted-of mounted (Arrive r ∷ H) l h = posted-of mounted H l.1 (Each-front P (arrivals H) (r ∷ []) h)
  posted-of mounted (Post n csw sense code ∷ H) l h =
      let v = posted_value (request_named n H) csw sense code (area meaning mounted (request_named n H) H) in
      let arrived : has_arrived n H ≡ true = (facts meaning mounted (Post n csw sense code ∷ H) l).1 n (rw (same-refl n) refl) in
      Each-behind Q (posted meaning mounted H) v (posted-of mounted H l.1 h)
      (inherits.posts _ csw sense code _ (request-among P n H arrived h))
  posted-of mounted (_ ∷ H) l h = posted-of mounted H l.1 h

  -- what is out is of what arrived
  pub out-of : (b : Book D) → Legal meaning b.mounted b.trace → given meaning b ++ b.out ≡ posted meaning b.mounted b.trace →
      Each P (arrivals b.trace) → Each Q b.out
  out-of b l all h = Each-back Q (given meaning b) b.out (subst (Each Q) (sym all) (posted-of b.mounted b.trace l h))
