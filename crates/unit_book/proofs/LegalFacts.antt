-- The facts hold of every legal trace.
use Rattle.unit_book.proofs.Names.{sym, ◌≡◌, ℕ, ◌+◌, true, false, Some, List, [], ◌∷◌, ◌++◌, refl, ap, ◌∙◌, arith, inl, inr, subst}
use Rattle.unit_book.proofs.Names.{eq-eqb, or_parts, or_left, or_right, cases_Bool, slice_get, Meaning, Name, Piece, Code, Entry, Arrive}
use Rattle.unit_book.proofs.Names.{Start, Ran, Post, same, arrivals, arrived_of, has_arrived, is_posted, waiting, started, active}
use Rattle.unit_book.proofs.Names.{request_named, Each, attempts, due, Legal, StartFits, First, Again, Status, Free, Fits}
use Rattle.unit_book.proofs.Counting.{arrived_of-arrive}
use Rattle.unit_book.proofs.Lists.{same-true, same-refl, same-is, no_both, none_named, Apart, Apart-push}
use Rattle.unit_book.proofs.Facts.{ArrivedPost, ArrivedStart, Each-behind, Each-weaker, Facts, Known, Newest, NewestIs, Numbered, One}
use Rattle.unit_book.proofs.Facts.{WaitsAmong, active-is, active-post, active-post_waiting, active-start, fits-freely, fresh, new-name}
use Rattle.unit_book.proofs.Facts.{post-whom, waits, Each-at, NameWaits, name-waits, PostOf}
use Rattle.std.proofs.lemmas.Grind.{common_steps}

pub newest-ran : (n : Name) (j : ℕ) (H : List Entry) → active H ≡ Some n → NewestIs n H → NewestIs n (Ran n j ∷ H)
unfolding attempts request_named
newest-ran n j H a w =
    let s : same w.0.request.name n ≡ true = same-is w.0.request.name n (ap (λ (r : Piece). r.name) w.3 ∙ w.4) in
    (record { request = w.0.request; mask = w.0.mask; commands = w.0.commands + j }, w.1, rw w.2 (rw s refl), w.3, w.4)

pub none-named : (n : Name) (H : List Entry) → has_arrived n H ≡ false → (rs : List Piece) → Each (Known H) rs → none_named n rs ≡ true
none-named n H h [] k = refl
none-named n H h (r ∷ rs) k = grind (arith, common_steps, none-named n H h rs k.1)

facts-arrive : (r : Piece) (H : List Entry) → Facts H → r.name.seq ≡ arrived_of r.name.task H + 1 → Facts (Arrive r ∷ H)
unfolding arrivals active started attempts request_named
facts-arrive r H f e = (starts', posts', numbers, f.3, newest', apart', known') where
  new : has_arrived r.name H ≡ false
  new = fresh r H f e

  starts' : ArrivedStart (Arrive r ∷ H)
  starts' n h = or_right (same r.name n) (has_arrived n H) (f.0 n h)

  posts' : ArrivedPost (Arrive r ∷ H)
  posts' n h = or_right (same r.name n) (has_arrived n H) (f.1 n h)

  numbers : Numbered (Arrive r ∷ H)
  numbers n h = grind (arith, common_steps, same-true, arrived_of-arrive, eq-eqb)

  newest' : Newest (Arrive r ∷ H)
  newest' n a =
      let w = f.4 n a in
      let s = new-name r n H new (f.0 n (active-is n H a).0) in
      (w.0, w.1, w.2, rw s w.3, rw s w.4)

  apart' : Apart (arrivals H ++ r ∷ [])
  apart' = Apart-push (arrivals H) r f.5 (none-named r.name H new (arrivals H) f.6)

  still : (q : Piece) → Known H q → Known (Arrive r ∷ H) q
  still q k = let s = new-name r q.name H new k.1 in (rw s k.0, or_right (same r.name q.name) (has_arrived q.name H) k.1)

  known' : Each (Known (Arrive r ∷ H)) (arrivals H ++ r ∷ [])
  known' = grind (arith, common_steps, same-refl, Each-behind, Each-weaker, still, or_left)

-- the request of a name that arrived has the name
pub request-named : (n : Name) (H : List Entry) → has_arrived n H ≡ true → (request_named n H).name ≡ n
unfolding request_named
request-named n [] h = absurd cc
request-named n (Arrive r ∷ H) h = grind (arith, common_steps, request-named n H)
request-named n (_ ∷ H) h = request-named n H h

-- a Start of a name that arrived, has no Post, and is active or nothing is
facts-start : (n : Name) (H : List Entry) → Facts H → has_arrived n H ≡ true → is_posted n H ≡ false →
    ((m : Name) → active H ≡ Some m → m ≡ n) → Facts (Start n ∷ H)
unfolding arrivals attempts request_named
facts-start n H f here p only = (starts', f.1, f.2, one', newest', f.5, f.6) where
  starts' : ArrivedStart (Start n ∷ H)
  starts' m h =
      elim (cases_Bool (same n m)) [
        | inl s ↦ subst (λ (x : Name). has_arrived x H ≡ true) (same-true n m s) here
        | inr s ↦ f.0 m (rw s at h)
      ]

  one' : One (Start n ∷ H)
  one' m h q =
      let a = active-start n H p in
      elim (cases_Bool (same n m)) [ inl s ↦ a ∙ ap Some (same-true n m s) | inr s ↦ a ∙ ap Some (sym (only m (f.3 m (rw s at h) q))) ]

  newest' : Newest (Start n ∷ H)
  newest' m h = let a = active-start n H p in let i : n ≡ m = cc in subst (λ (x : Name). NewestIs x (Start n ∷ H)) i
      (_, attempts H, refl, refl, request-named n H here)

facts-post : {n : Name} {H : List Entry} (status : Status) (code : Code) → Facts H → PostOf n H →
    Facts (Post n status.csw status.sense code ∷ H)
unfolding arrivals attempts request_named
facts-post {n} {H} status code f whom = (f.0, posts', f.2, one_by whom, newest_by whom, f.5, f.6) where
  G : List Entry
  G = Post n status.csw status.sense code ∷ H

  arrived : PostOf n H → has_arrived n H ≡ true
  arrived (inl a) = f.0 n (active-is n H a).0
  arrived (inr w) = w.arrived

  posts' : ArrivedPost G
  posts' m h = elim (cases_Bool (same n m))
      [ inl s ↦ subst (λ (x : Name). has_arrived x H ≡ true) (same-true n m s) (arrived whom) | inr s ↦ f.1 m (rw s at h) ]

  one_by : PostOf n H → One G
  one_by (inl a) m h q =
      let b = or_parts (same n m) (is_posted m H) q in
      let c = f.3 m h b.1 in
      let i : n ≡ m = cc in
      no_both (same n m) (same-is n m i) b.0
  one_by (inr w) m h q =
      let b = or_parts (same n m) (is_posted m H) q in
      active-post_waiting n status code H w.unstarted ∙ f.3 m h b.1

  newest_by : PostOf n H → Newest G
  newest_by v0 m h = grind (arith, common_steps, active-post, active-post_waiting)

-- who waits at a place
pub waits-at : (r : Piece) (at : ℕ) (H : List Entry) → Facts H → slice_get (waiting H) at ≡ Some r → WaitsAmong H r
waits-at r at H f h = Each-at (WaitsAmong H) (waiting H) at r (waits H f) h

pub first-waits : (r : Piece) (H : List Entry) → Facts H → slice_get (waiting H) 0 ≡ Some r → WaitsAmong H r
first-waits r H f h = waits-at r 0 H f h

pub first-named : {n : Name} {r : Piece} (H : List Entry) → Facts H → slice_get (waiting H) 0 ≡ Some r → r.name ≡ n → NameWaits n H
first-named {r = r} H f h e = name-waits (first-waits r H f h) e

-- the request of the name of the first that waits
pub first-request : {r : Piece} {n : Name} (H : List Entry) → Facts H → slice_get (waiting H) 0 ≡ Some r → r.name ≡ n →
    request_named n H ≡ r
first-request {r} H f h e = subst (λ (x : Name). request_named x H ≡ r) e (first-waits r H f h).known.0

facts-ran : (n : Name) (j : ℕ) (H : List Entry) → Facts H → active H ≡ Some n → Facts (Ran n j ∷ H)
unfolding arrivals active started request_named attempts
facts-ran n j H f a = (f.0, f.1, f.2, f.3, newest', f.5, f.6) where
  newest' : Newest (Ran n j ∷ H)
  newest' m b = let i : n ≡ m = cc in subst (λ (x : Name). NewestIs x (Ran n j ∷ H)) i (newest-ran n j H a (f.4 n a))

no-facts : Facts []
unfolding arrivals active started Apart
no-facts = ((λ n h. absurd cc), (λ n h. absurd cc), (λ n h. absurd cc), (λ n h. absurd cc), (λ n h. absurd cc), tt, tt)

module _ {D : Type 0} (meaning : Meaning D) (mounted : D) where
  facts-start_by : (n : Name) (H : List Entry) → Facts H → StartFits meaning mounted n H → Facts (Start n ∷ H)
  facts-start_by n H f (First s) =
      let w = first-named H f s.first s.name in
      facts-start n H f w.arrived w.unposted (λ m a. let k = sym s.none ∙ a in absurd cc)
  facts-start_by n H f (Again s) =
      let b = active-is n H s.active in
      facts-start n H f (f.0 n b.0) b.1
      (λ m a. some-is (sym a ∙ s.active)) where
        some-is : {o p : Name} → Some o ≡ Some p → o ≡ p
        some-is k = cc

  -- THE FACTS HOLD of every legal trace
  pub facts : (H : List Entry) → Legal meaning mounted H → Facts H
  unfolding Legal arrivals active started attempts request_named
  facts [] l = no-facts
  facts (Arrive r ∷ H) l = facts-arrive r H (facts H l.1) (fits-freely meaning mounted (Arrive r) H refl l.0).1
  facts (Start n ∷ H) l = facts-start_by n H (facts H l.1) (fits-freely meaning mounted (Start n) H refl l.0).1
  facts (Ran n j ∷ H) l = facts-ran n j H (facts H l.1) (fits-freely meaning mounted (Ran n j) H refl l.0).1.active
  facts (Post n csw sense code ∷ H) l =
      let f = facts H l.1 in
      let status : Status = record { csw = csw; sense = sense } in facts-post status code f (post-whom meaning mounted status code f l.0)
  facts (_ ∷ H) l = facts H l.1

  -- a legal trace with nothing due
  pub record SoundTrace (H : List Entry) : Type 0 where
    pub legal : Legal meaning mounted H
    pub settled : due meaning mounted H ≡ Free

  pub legal-tail : (later earlier : List Entry) → Legal meaning mounted (later ++ earlier) → Legal meaning mounted earlier
  unfolding Legal
  legal-tail [] earlier l = l
  legal-tail (e ∷ later) earlier l = legal-tail later earlier l.1

  -- an entry that fits comes after a legal trace
  pub record Comes (e : Entry) (H : List Entry) : Type 0 where
    pub earlier : Legal meaning mounted H
    pub fits : Fits meaning mounted e H
