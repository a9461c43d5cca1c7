-- The posted values of a legal trace: as many of each name as posts.
use Rattle.unit_book.proofs.Names.{◌≡◌, ℕ, ◌+◌, Bool, true, false, List, [], ◌∷◌, length, refl, sym, ap, ◌∙◌, arith, inl, inr, cases_Bool, Meaning}
use Rattle.unit_book.proofs.Names.{same, has_arrived, is_posted, area, filter, filter-append, length-append, if◌then◌else◌, or_left}
use Rattle.io_images.specs.declared.code.Code.{Code}
use Rattle.io_images.specs.declared.csw.Csw.{Csw}
use Rattle.request_piece.specs.PostedState.{PostedState}
use Rattle.request_piece.specs.declared.piece.Name.{Name}
use Rattle.unit_book.specs.declared.entry.Entry.{Entry}
use Rattle.unit_book.specs.declared.entry.Entry.TheVariants.{Post}
use Rattle.unit_book.specs.Legal.{Legal}
use Rattle.unit_book.specs.Posts.{posted, posted_value}
use Rattle.unit_book.specs.Trace.{request_named}
use Rattle.unit_book.proofs.Facts.{fresh-post}
use Rattle.unit_book.proofs.LegalFacts.{facts, request-named}
use Rattle.unit_book.specs.WorldLaws.{HaveValues, posts_of, values_named}
use Rattle.unit_book.proofs.Lists.{same-refl}

module _ {D : Type 0} (meaning : Meaning D) (mounted : D) where
  -- a name that is posted arrived
  arrived : (m : Name) (csw : Csw) (sense : ℕ) (code : Code) (H : List Entry) → Legal meaning mounted (Post m csw sense code ∷ H) →
      has_arrived m H ≡ true
  arrived m csw sense code H l =
      let G : List Entry = Post m csw sense code ∷ H in
      let posted_is : is_posted m G ≡ true = or_left (same m m) (is_posted m H) (same-refl m) in
      elim (cases_Bool (has_arrived m H)) [
        | inl a ↦ a
        | inr a ↦ absurd (cc (fresh-post m G (facts meaning mounted G l) a, posted_is))
      ]

  one-post : (n m : Name) (csw : Csw) (sense : ℕ) (code : Code) (H : List Entry) (b : Bool) → same m n ≡ b →
      posts_of n (Post m csw sense code ∷ H) ≡ posts_of n H + (if b then 1 else 0)
  one-post n m csw sense code H true e = rw e (omega arith)
  one-post n m csw sense code H false e = rw e (omega arith)

  one-value : (n : Name) (p : PostedState) (b : Bool) → same p.name n ≡ b → values_named n (p ∷ []) ≡ (if b then 1 else 0)
  one-value n p true e = rw e refl
  one-value n p false e = rw e refl

  value-name : (m : Name) (csw : Csw) (sense : ℕ) (code : Code) (H : List Entry) →
      (posted_value (request_named m H) csw sense code (area meaning mounted (request_named m H) H)).name ≡ (request_named m H).name
  unfolding posted_value
  value-name m csw sense code H = refl

  values-counted : (n : Name) (H : List Entry) → Legal meaning mounted H → values_named n (posted meaning mounted H) ≡ posts_of n H
  unfolding Legal posted
  values-counted n [] l = refl
  values-counted n (Post m csw sense code ∷ H) l =
      let ih : values_named n (posted meaning mounted H) ≡ posts_of n H = values-counted n H l.1 in
      let v : PostedState = posted_value (request_named m H) csw sense code (area meaning mounted (request_named m H) H) in
      let named : v.name ≡ m = value-name m csw sense code H ∙ request-named m H (arrived m csw sense code H l) in
      let own : same v.name n ≡ same m n = ap (λ (x : Name). same x n) named in
      ap length (filter-append (λ (p : PostedState). same p.name n) (posted meaning mounted H) (v ∷ []))
      ∙ length-append (filter (λ (p : PostedState). same p.name n) (posted meaning mounted H))
      (filter (λ (p : PostedState). same p.name n) (v ∷ []))
      ∙ ap (λ (k : ℕ). k + values_named n (v ∷ [])) ih
      ∙ ap (λ (k : ℕ). posts_of n H + k) (one-value n v (same m n) own)
      ∙ sym (one-post n m csw sense code H (same m n) refl)
  values-counted n (_ ∷ H) l = values-counted n H l.1

-- as the law states it
pub have-values : {D : Type 0} (meaning : Meaning D) → HaveValues meaning
have-values meaning mounted n H l = values-counted meaning mounted n H l
