-- The posted value of a name, as posts are added.
use Rattle.unit_book.proofs.Names.{◌≡◌, ℕ, true, false, Some, None, List, [], ◌∷◌, ◌++◌, refl, ◌∙◌}
use Rattle.unit_book.proofs.Names.{inl, inr, cases_Bool, or_left, or_parts, Csw, Code, Meaning, Name, Piece, same}
use Rattle.unit_book.proofs.Names.{is_posted, has_arrived, request_named, area, Legal, posted, posted_value, PostedState, Storage}
use Rattle.unit_book.specs.declared.entry.Entry.{Entry}
use Rattle.unit_book.specs.declared.entry.Entry.TheVariants.{Post}
use Rattle.std.proofs.lemmas.List.Folds.{find-append}
use Rattle.unit_book.proofs.Lists.{same-refl}
use Rattle.unit_book.proofs.Facts.{fresh-post}
use Rattle.unit_book.proofs.LegalFacts.{facts, request-named}
use Rattle.serial_order.specs.Laws.{value_of}

pub value-name : (r : Piece) (csw : Csw) (sense : ℕ) (code : Code) (m : Storage) → (posted_value r csw sense code m).name ≡ r.name
unfolding posted_value
value-name r csw sense code m = refl

pub value-code : (r : Piece) (csw : Csw) (sense : ℕ) (code : Code) (m : Storage) → (posted_value r csw sense code m).code ≡ code
unfolding posted_value
value-code r csw sense code m = refl

-- a value that was found is found again
pub value-kept : (n : Name) (vs : List PostedState) (v w : PostedState) → value_of n vs ≡ Some v → value_of n (vs ++ w ∷ []) ≡ Some v
value-kept n vs v w h = find-append (λ v. same v.name n) vs (w ∷ []) ∙ rw h refl

-- if none has the name, the added value of this name is found
pub value-added : (n : Name) (vs : List PostedState) (w : PostedState) → value_of n vs ≡ None → w.name ≡ n →
    value_of n (vs ++ w ∷ []) ≡ Some w
value-added n vs w h e = let s : same w.name n ≡ true = rw e (same-refl n) in find-append (λ v. same v.name n) vs (w ∷ []) ∙ rw (h, s) refl

-- a value of another name is not found
value-other : (n : Name) (vs : List PostedState) (w : PostedState) → value_of n vs ≡ None → same w.name n ≡ false →
    value_of n (vs ++ w ∷ []) ≡ None
value-other n vs w h s = find-append (λ v. same v.name n) vs (w ∷ []) ∙ rw (h, s) refl

module _ {D : Type 0} (meaning : Meaning D) (mounted : D) where
  -- a name that is posted arrived
  arrived : (m : Name) (csw : Csw) (sense : ℕ) (code : Code) (H : List Entry) → Legal meaning mounted (Post m csw sense code ∷ H) →
      has_arrived m H ≡ true
  arrived m csw sense code H l =
      let G : List Entry = Post m csw sense code ∷ H in
      let posted_is : is_posted m G ≡ true = or_left (same m m) (is_posted m H) (same-refl m) in
      elim (cases_Bool (has_arrived m H)) [
        | inl a ↦ a
        | inr a ↦ absurd (cc (fresh-post m G (facts meaning mounted G l) a, posted_is))
      ]

  -- the value that a post hands out
  abbrev pub value_at : Name → Csw → ℕ → Code → List Entry → PostedState
  value_at n csw sense code H =
      posted_value (request_named n H) csw sense code (area meaning mounted (request_named n H) H)

  -- a name that was not posted has no value
  pub value-none : (n : Name) (H : List Entry) → Legal meaning mounted H → is_posted n H ≡ false →
      value_of n (posted meaning mounted H) ≡ None
  unfolding Legal posted
  value-none n [] l h = refl
  value-none n (Post m csw sense code ∷ H) l h =
      let p = or_parts (same m n) (is_posted n H) h in
      let v : PostedState = value_at m csw sense code H in
      let named : v.name ≡ m = value-name (request_named m H) csw sense code (area meaning mounted (request_named m H) H)
      ∙ request-named m H (arrived m csw sense code H l) in
      let s : same v.name n ≡ false = rw named (p.0) in
      value-other n (posted meaning mounted H) v (value-none n H l.1 p.1) s
  value-none n (_ ∷ H) l h = value-none n H l.1 h

  -- a name that is posted has the value of its post
  pub value-post : (n : Name) (csw : Csw) (sense : ℕ) (code : Code) (H : List Entry) → Legal meaning mounted (Post n csw sense code ∷ H) →
      is_posted n H ≡ false → value_of n (posted meaning mounted (Post n csw sense code ∷ H)) ≡ Some (value_at n csw sense code H)
  unfolding Legal posted
  value-post n csw sense code H l h =
      value-added n (posted meaning mounted H) (value_at n csw sense code H) (value-none n H l.1 h)
      (value-name (request_named n H) csw sense code (area meaning mounted (request_named n H) H)
      ∙ request-named n H (arrived n csw sense code H l))

  -- a post keeps the values of other names
  pub value-stays : (m : Name) (v : PostedState) (n : Name) (csw : Csw) (sense : ℕ) (code : Code) (H : List Entry) →
      value_of m (posted meaning mounted H) ≡ Some v → value_of m (posted meaning mounted (Post n csw sense code ∷ H)) ≡ Some v
  unfolding posted
  value-stays m v n csw sense code H h = value-kept m (posted meaning mounted H) v (value_at n csw sense code H) h
