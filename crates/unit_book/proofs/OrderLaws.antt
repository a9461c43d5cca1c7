-- The first Starts are a subsequence of the arrivals.
use Rattle.unit_book.proofs.Names.{◌≡◌, Bool, true, false, not, ◌&&◌, ◌||◌, Some, List, [], ◌∷◌, ◌++◌, append_assoc, map, refl, sym, ap}
use Rattle.unit_book.proofs.Names.{◌∙◌, inl, inr, subst, cases_Bool, or_right, append-nil, filter-append, filter, list_all}
use Rattle.unit_book.proofs.Names.{slice_get, drop, Status, Code, Meaning, Name, Piece, Entry, Arrive, Start, Post, same, arrivals}
use Rattle.unit_book.proofs.Names.{has_arrived, has_started, is_posted, waiting, Legal, StartFits, First, Again, Each, arith}
use Rattle.unit_book.specs.Laws.{first_starts, StartsInOrder}
use Rattle.unit_book.proofs.Lists.{same-true, same-refl, filter-filter, filter-all, without, none_named, Apart, without-first, first-rest}
use Rattle.unit_book.proofs.Facts.{Facts, active-is, fits-freely, fresh, fresh-start, fresh-post, post-whom, PostOf, waiting-arrive}
use Rattle.unit_book.proofs.Facts.{waiting-start, waiting-post, waiting-apart, waits, WaitsAmong, without-started}
use Rattle.unit_book.proofs.LegalFacts.{facts, first-waits}
use Rattle.std.proofs.lemmas.Grind.{common_steps}

-- the arrivals that were started, and those that were started or are not posted
abbrev begun : List Entry → List Piece
begun H = filter (λ r. has_started r.name H) (arrivals H)

abbrev in_play : List Entry → List Piece
in_play H = filter (λ r. has_started r.name H || not (is_posted r.name H)) (arrivals H)

-- what was started stands before what waits
abbrev Ordered : List Entry → Type 0
Ordered H = in_play H ≡ begun H ++ waiting H

-- those of the arrivals that were started are in play
begun-is : (H : List Entry) → begun H ≡ filter (λ r. has_started r.name H) (in_play H)
begun-is H = grind (arith, common_steps, filter-filter)

-- none of the name, if it was not started
begun-none : (n : Name) (H : List Entry) → has_started n H ≡ false → (rs : List Piece) →
    none_named n (filter (λ r. has_started r.name H) rs) ≡ true
begun-none n H u [] = refl
begun-none n H u (r ∷ rs) = grind (arith, common_steps, begun-none n H u rs)

-- a name that has a Start already
started-same : (n : Name) (H : List Entry) → has_started n H ≡ true → (m : Name) → (same n m || has_started m H) ≡ has_started m H
started-same n H s m = grind (arith, common_steps)

filter-same : {X : Type 0} (p q : X → Bool) → ((x : X) → p x ≡ q x) → (xs : List X) → filter p xs ≡ filter q xs
filter-same p q h [] = refl
filter-same p q h (x ∷ xs) = grind (arith, common_steps, filter-same p q h xs)

-- the tail of what waits has no Start, whatever name but its first gets one
rest-unstarted : (n : Name) (H : List Entry) (rs : List Piece) → none_named n rs ≡ true → Each (WaitsAmong H) rs →
    filter (λ (r : Piece). same n r.name || has_started r.name H) rs ≡ []
rest-unstarted n H [] a e = refl
rest-unstarted n H (r ∷ rs) a e = grind (arith, common_steps, rest-unstarted n H rs)

-- both together, by induction
abbrev InOrder : List Entry → Type 0
InOrder H = Ordered H × (first_starts H ≡ map (λ (r : Piece). r.name) (begun H))

ordered-arrive : (r : Piece) (H : List Entry) → Facts H → has_arrived r.name H ≡ false → Ordered H → Ordered (Arrive r ∷ H)
unfolding arrivals
ordered-arrive r H f new o =
    let s = fresh-start r.name H f new in
    let p = fresh-post r.name H f new in
    let waits_is = waiting-arrive r H f new in
    grind (arith, common_steps, append_assoc, begun)

ordered-again : (n : Name) (H : List Entry) → Facts H → has_started n H ≡ true → Ordered H →
    Ordered (Start n ∷ H) × (begun (Start n ∷ H) ≡ begun H)
unfolding arrivals
ordered-again n H f s o =
    let play = filter-same (λ (r : Piece). (same n r.name || has_started r.name H) || not (is_posted r.name H))
    (λ r. has_started r.name H || not (is_posted r.name H))
    (λ r. ap (λ b. b || not (is_posted r.name H)) (started-same n H s r.name)) (arrivals H) in
    let begun_is = filter-same (λ (r : Piece). same n r.name || has_started r.name H) (λ r. has_started r.name H)
    (λ r. started-same n H s r.name) (arrivals H) in
    let waits_is = waiting-start n H ∙ without-started n H f s in
    (play ∙ o ∙ ap (λ x. begun H ++ x) (sym waits_is) ∙ ap (λ x. x ++ waiting (Start n ∷ H)) (sym begun_is), begun_is)

ordered-first : (r : Piece) (H : List Entry) → Facts H → slice_get (waiting H) 0 ≡ Some r → Ordered H →
    Ordered (Start r.name ∷ H) × (begun (Start r.name ∷ H) ≡ begun H ++ r ∷ [])
unfolding arrivals Apart
ordered-first r H f first o =
    let n = r.name in
    let G = Start n ∷ H in
    let w = first-waits r H f first in
    let z = first-rest (waiting H) r first in
    let rest = drop 1 (waiting H) in
    let apart = subst Apart z (waiting-apart H f) in
    let each = (subst (Each (WaitsAmong H)) z (waits H f)).1 in
    let self = same-refl n in
    let play : in_play G ≡ in_play H = filter-same (λ (q : Piece). (same n q.name || has_started q.name H) || not (is_posted q.name H))
    (λ q. has_started q.name H || not (is_posted q.name H))
    (λ q. play_at q.name w.unposted) (arrivals H) in
    let whole : in_play G ≡ begun H ++ r ∷ rest = play ∙ o ∙ ap (λ x. begun H ++ x) z in
    let old : filter (λ (q : Piece). same n q.name || has_started q.name H) (begun H)
    ≡ begun H = filter-all (λ (q : Piece). same n q.name || has_started q.name H) (begun H) (all-more n H (arrivals H)) in
    let begun_is : begun G ≡ begun H ++ r ∷ [] =
    begun-is G ∙ ap (filter (λ (q : Piece). same n q.name || has_started q.name H)) whole
    ∙ filter-append (λ (q : Piece). same n q.name || has_started q.name H) (begun H) (r ∷ rest)
    ∙ ap (λ x. x ++ filter (λ (q : Piece). same n q.name || has_started q.name H) (r ∷ rest)) old
    ∙ ap (λ x. begun H ++ x) (rw self (ap (λ x. r ∷ x) (rest-unstarted n H rest apart.0 each))) in
    let waits_is : waiting G ≡ rest = waiting-start n H ∙ ap (without n) z ∙ without-first r rest apart in (
      whole ∙ sym (append_assoc (begun H) (r ∷ []) rest) ∙ ap (λ x. (begun H ++ r ∷ []) ++ x) (sym waits_is)
          ∙ ap (λ x. x ++ waiting G) (sym begun_is),
      begun_is,
    ) where
      play_at : (m : Name) → is_posted r.name H ≡ false → ((same r.name m || has_started m H) || not (is_posted m H))
          ≡ (has_started m H || not (is_posted m H))
      play_at m u = elim (cases_Bool (same r.name m)) [
        | inl s ↦ let p : is_posted m H ≡ false = subst (λ (x : Name). is_posted x H ≡ false) (same-true r.name m s) u in rw (s, p)
            (by_bool (has_started m H))
        | inr s ↦ rw s refl
      ] where
        by_bool : (b : Bool) → true ≡ (b || true)
        by_bool v0 = grind (arith, common_steps)

      all-more : (n : Name) (H : List Entry) (rs : List Piece) →
          list_all (λ (q : Piece). same n q.name || has_started q.name H) (filter (λ q. has_started q.name H) rs) ≡ true
      all-more n H [] = refl
      all-more n H (q ∷ rs) = grind (arith, common_steps, or_right, all-more n H rs)

ordered-post : {n : Name} {H : List Entry} (status : Status) (code : Code) → Facts H → PostOf n H → Ordered H →
    Ordered (Post n status.csw status.sense code ∷ H)
unfolding arrivals without
ordered-post {n} {H} status code f (inl a) o =
    let s = (active-is n H a).0 in
    let play = filter-same (λ (r : Piece). has_started r.name H || not (same n r.name || is_posted r.name H))
    (λ r. has_started r.name H || not (is_posted r.name H)) (at s) (arrivals H) in
    let waits_is = waiting-post n status.csw status.sense code H ∙ without-started n H f s in
    play ∙ o ∙ ap (λ x. begun H ++ x) (sym waits_is) where
      at : has_started n H ≡ true → (r : Piece) → (has_started r.name H || not (same n r.name || is_posted r.name H))
          ≡ (has_started r.name H || not (is_posted r.name H))
      at s r = grind (arith, common_steps, same-true)
ordered-post {n} {H} status code f (inr w) o =
    let play = filter-filter (λ (r : Piece). has_started r.name H || not (is_posted r.name H)) (λ r. not (same n r.name))
    (λ r. has_started r.name H || not (same n r.name || is_posted r.name H)) at (arrivals H) in
    let split = filter-append (λ (r : Piece). not (same n r.name)) (begun H) (waiting H) in
    let none = filter-all (λ (r : Piece). not (same n r.name)) (begun H) (begun-none n H w.unstarted (arrivals H)) in
    play ∙ ap (filter (λ (r : Piece). not (same n r.name))) o ∙ split ∙ ap (λ x. x ++ without n (waiting H)) none
    ∙ ap (λ x. begun H ++ x) (sym (waiting-post n status.csw status.sense code H)) where
      at : (r : Piece) → (has_started r.name H || not (same n r.name || is_posted r.name H))
          ≡ (not (same n r.name) && (has_started r.name H || not (is_posted r.name H)))
      at r = grind (arith, common_steps, same-true)

module _ {D : Type 0} (meaning : Meaning D) (mounted : D) where
  order-start : {n : Name} {H : List Entry} → Facts H → StartFits meaning mounted n H → InOrder H → InOrder (Start n ∷ H)
  unfolding first_starts
  order-start {n} {H} f (First s) o =
      grind (arith, common_steps, first-waits s.request H f s.first, ordered-first s.request H f s.first o.0, begun)
  order-start {n} {H} f (Again s) o =
      grind (arith, common_steps, (active-is n H s.active).0, ordered-again n H f ((active-is n H s.active).0) o.0)

  in-order : (H : List Entry) → Legal meaning mounted H → InOrder H
  unfolding Legal waiting arrivals first_starts
  in-order [] l = (refl, refl)
  in-order (Arrive r ∷ H) l =
      let f = facts meaning mounted H l.1 in
      let new = fresh r H f (fits-freely meaning mounted (Arrive r) H refl l.0).1 in
      let o = in-order H l.1 in
      let s = fresh-start r.name H f new in
      let begun_is : begun (Arrive r ∷ H) ≡ begun H = filter-append (λ (q : Piece). has_started q.name H) (arrivals H) (r ∷ [])
      ∙ rw s (append-nil (begun H)) in
      (ordered-arrive r H f new o.0, o.1 ∙ ap (map (λ (q : Piece). q.name)) (sym begun_is))
  in-order (Start n ∷ H) l = order-start (facts meaning mounted H l.1) (fits-freely meaning mounted (Start n) H refl l.0).1 (in-order H l.1)
  in-order (Post n csw sense code ∷ H) l =
      let o = in-order H l.1 in
      let f = facts meaning mounted H l.1 in
      let status : Status = record { csw = csw; sense = sense } in
      (ordered-post status code f (post-whom meaning mounted status code f l.0) o.0, o.1)
  in-order (_ ∷ H) l = in-order H l.1

pub starts-in-order : {D : Type 0} (meaning : Meaning D) → StartsInOrder meaning
starts-in-order meaning mounted H l = (in-order meaning mounted H l).1
