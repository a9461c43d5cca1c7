-- What a legal trace keeps, and what follows from it.
use Rattle.unit_book.proofs.Names.{◌≡◌, ℕ, zero, suc, ◌+◌, ◌≤◌, ◌⊎◌, Bool, true, false, not, ◌||◌, Option, Some, None, List, [], ◌∷◌}
use Rattle.unit_book.proofs.Names.{◌++◌, refl, sym, ap, ◌∙◌, arith, inl, inr, subst, and_from, or_parts, or_left, or_right, cases_Bool}
use Rattle.unit_book.proofs.Names.{filter-append, filter, list_any, list_all, slice_get, Csw, Meaning, Name, Piece, Code, Entry, Arrive}
use Rattle.unit_book.proofs.Names.{Start, Post, same, arrivals, arrived_of, has_arrived, has_started, is_posted, waiting, started}
use Rattle.unit_book.proofs.Names.{active, request_named, Each, Attempt, attempts, doomed, is_doomed, Due, ToHalt, ToPost, Free, due}
use Rattle.unit_book.proofs.Names.{due_by, doomed_first, is_to_halt, Fits, FitsBy, PostFits, OfActive, OfFirst, Status, Halted}
use Rattle.unit_book.specs.Legal.{FitsFree}
use Rattle.unit_book.proofs.Lists.{same-refl, same-true, same-is, filter-all, same-not-sym, filter-filter, all-weaker, find-passes}
use Rattle.unit_book.proofs.Lists.{find-any, find-agree, find-none, without, Apart, Apart-filter, not-so}
use Rattle.std.proofs.lemmas.Grind.{common_steps}

-- THE FACTS
abbrev pub ArrivedStart : List Entry → Type 0
ArrivedStart H = (n : Name) → has_started n H ≡ true → has_arrived n H ≡ true

abbrev pub ArrivedPost : List Entry → Type 0
ArrivedPost H = (n : Name) → is_posted n H ≡ true → has_arrived n H ≡ true

abbrev pub Numbered : List Entry → Type 0
Numbered H = (n : Name) → has_arrived n H ≡ true → n.seq ≤ arrived_of n.task H

abbrev pub One : List Entry → Type 0
One H = (n : Name) → has_started n H ≡ true → is_posted n H ≡ false → active H ≡ Some n

abbrev pub NewestIs : Name → List Entry → Type 0
NewestIs n H = (a : Attempt) × (rest : List Attempt) × (attempts H ≡ a ∷ rest) × (a.request ≡ request_named n H)
    × ((request_named n H).name ≡ n)

abbrev pub Newest : List Entry → Type 0
Newest H = (n : Name) → active H ≡ Some n → NewestIs n H

abbrev pub Known : List Entry → Piece → Type 0
Known H r = (request_named r.name H ≡ r) × (has_arrived r.name H ≡ true)

abbrev pub Facts : List Entry → Type 0
Facts H = ArrivedStart H × ArrivedPost H × Numbered H × One H × Newest H × Apart (arrivals H) × Each (Known H) (arrivals H)

pub Each-behind : {X : Type 0} (P : X → Type 0) (xs : List X) (x : X) → Each P xs → P x → Each P (xs ++ x ∷ [])
Each-behind P [] x h k = (k, tt)
Each-behind P (y ∷ xs) x h k = (h.0, Each-behind P xs x h.1 k)

pub Each-weaker : (P Q : Piece → Type 0) → ((r : Piece) → P r → Q r) → (rs : List Piece) → Each P rs → Each Q rs
Each-weaker P Q w [] h = tt
Each-weaker P Q w (r ∷ rs) h = (w r h.0, Each-weaker P Q w rs h.1)

pub Each-filter : (P : Piece → Type 0) (p : Piece → Bool) (rs : List Piece) → Each P rs → Each P (filter p rs)
Each-filter P p [] h = tt
Each-filter P p (r ∷ rs) h = grind (arith, common_steps, Each-filter P p rs h.1)

pub Each-at : {X : Type 0} (P : X → Type 0) (xs : List X) (k : ℕ) (x : X) → Each P xs → slice_get xs k ≡ Some x → P x
Each-at P [] k x e s = absurd cc
Each-at P (y ∷ xs) zero x e s = let i : y ≡ x = cc in subst P i e.0
Each-at P (y ∷ xs) (suc k) x e s = Each-at P xs k x e.1 s

-- WORDS ON STARTS
pub started-any : (n : Name) (H : List Entry) → list_any (λ k. same k n) (started H) ≡ has_started n H
unfolding started
started-any n [] = refl
started-any n (Start m ∷ H) = ap (λ b. same m n || b) (started-any n H)
started-any n (_ ∷ H) = started-any n H

any-none : {X : Type 0} (p : X → Bool) (xs : List X) → list_any p xs ≡ false → list_all (λ x. not (p x)) xs ≡ true
any-none p [] h = refl
any-none p (x ∷ xs) h = grind (arith, common_steps, any-none p xs)

-- each element passes what every equal of one does
all-self : (H : List Entry) → list_all (λ k. has_started k H) (started H) ≡ true
all-self H = by_list (started H) (λ k h. sym (started-any k H) ∙ h) where
  by_list : (ns : List Name) → ((k : Name) → list_any (λ m. same m k) ns ≡ true → has_started k H ≡ true) →
      list_all (λ k. has_started k H) ns ≡ true
  by_list [] h = refl
  by_list (n ∷ ns) h =
      and_from (has_started n H) _ (h n (or_left (same n n) (list_any (λ m. same m n) ns) (same-refl n)))
      (by_list ns (λ k e. h k (or_right (same n k) (list_any (λ m. same m k) ns) e)))

pub not-true : (b : Bool) → not b ≡ true → b ≡ false
not-true v0 h = grind (arith, common_steps)

-- the active name has a Start and no Post
pub active-is : (n : Name) (H : List Entry) → active H ≡ Some n → (has_started n H ≡ true) × (is_posted n H ≡ false)
unfolding active
active-is n H h = (
  sym (started-any n H) ∙ find-any (λ k. not (is_posted k H)) (λ k. same k n) (started H) n h (same-refl n),
  not-true (is_posted n H) (find-passes (λ k. not (is_posted k H)) (started H) n h),
)

-- what waits first among some that wait
pub record WaitsAmong (H : List Entry) (r : Piece) : Type 0 where
  pub known : Known H r
  pub unstarted : has_started r.name H ≡ false
  pub unposted : is_posted r.name H ≡ false

pub waits : (H : List Entry) → Facts H → Each (WaitsAmong H) (waiting H)
unfolding waiting
waits H f = by_list (arrivals H) f.6 where
  by_list : (rs : List Piece) → Each (Known H) rs → Each (WaitsAmong H) (filter (λ r. not (has_started r.name H || is_posted r.name H)) rs)
  by_list [] h = tt
  by_list (r ∷ rs) h = grind (arith, common_steps, or_parts, by_list rs h.1)

-- a request of this name waits
pub record NameWaits (n : Name) (H : List Entry) : Type 0 where
  pub arrived : has_arrived n H ≡ true
  pub unstarted : has_started n H ≡ false
  pub unposted : is_posted n H ≡ false

pub name-waits : {n : Name} {r : Piece} {H : List Entry} → WaitsAmong H r → r.name ≡ n → NameWaits n H
name-waits {n} {r} {H} w e = grind (arith, common_steps)

-- whom a Post is of: the active request, or one that waits
abbrev pub PostOf : Name → List Entry → Type 0
PostOf n H = (active H ≡ Some n) ⊎ NameWaits n H

doomed-first-post : (ds : List Piece) (n : Name) → doomed_first ds ≡ ToPost n → (r : Piece) × (rest : List Piece) × (ds ≡ r ∷ rest)
    × (r.name ≡ n)
doomed-first-post v0 n h = grind (arith, common_steps)

-- a new name is in no entry
pub fresh : (r : Piece) (H : List Entry) → Facts H → r.name.seq ≡ arrived_of r.name.task H + 1 → has_arrived r.name H ≡ false
fresh r H f e = grind (arith, common_steps)

-- so it is none of those that arrived
pub new-name : (r : Piece) (n : Name) (H : List Entry) → has_arrived r.name H ≡ false → has_arrived n H ≡ true → same r.name n ≡ false
new-name r n H new a = grind (arith, common_steps)

pub fresh-start : (n : Name) (H : List Entry) → Facts H → has_arrived n H ≡ false → has_started n H ≡ false
fresh-start n H f h = not-so (has_started n H) (has_arrived n H) (f.0 n) h

pub fresh-post : (n : Name) (H : List Entry) → Facts H → has_arrived n H ≡ false → is_posted n H ≡ false
fresh-post n H f h = not-so (is_posted n H) (has_arrived n H) (f.1 n) h

-- ACTIVE, entry by entry
pub active-start : (n : Name) (H : List Entry) → is_posted n H ≡ false → active (Start n ∷ H) ≡ Some n
unfolding active started
active-start n H h = rw h refl

pub active-post : {n : Name} (status : Status) (code : Code) (H : List Entry) → Facts H → active H ≡ Some n →
    active (Post n status.csw status.sense code ∷ H) ≡ None
unfolding active started
active-post {n} status code H f h =
    find-none (λ k. not (same n k || is_posted k H)) (started H)
    (all-weaker (λ k. has_started k H) (λ k. not (not (same n k || is_posted k H))) only (started H) (all-self H)) where
      only : (k : Name) → has_started k H ≡ true → not (not (same n k || is_posted k H)) ≡ true
      only k s =
          elim (cases_Bool (is_posted k H)) [
            | inl p ↦ let q = or_right (same n k) (is_posted k H) p in rw q refl
            | inr p ↦
                let a = f.3 k s p in
                let e : n ≡ k = cc in
                let q = or_left (same n k) (is_posted k H) (same-is n k e) in rw q refl
          ]

pub active-post_waiting : (n : Name) (status : Status) (code : Code) (H : List Entry) → has_started n H ≡ false →
    active (Post n status.csw status.sense code ∷ H) ≡ active H
unfolding active started
active-post_waiting n status code H h =
    find-agree (λ k. not (same n k || is_posted k H)) (λ k. not (is_posted k H)) (λ k. not (same k n)) other (started H)
    (any-none (λ k. same k n) (started H) (started-any n H ∙ h)) where
      other : (k : Name) → not (same k n) ≡ true → not (same n k || is_posted k H) ≡ not (is_posted k H)
      other k e = let s = same-not-sym k n (not-true (same k n) e) in rw s refl

-- WAITING, entry by entry
pub waiting-arrive : (r : Piece) (H : List Entry) → Facts H → has_arrived r.name H ≡ false → waiting (Arrive r ∷ H) ≡ waiting H ++ r ∷ []
unfolding waiting arrivals
waiting-arrive r H f h = grind (arith, common_steps, fresh-start r.name H f h, fresh-post r.name H f h, filter-append)

pub waiting-start : (n : Name) (H : List Entry) → waiting (Start n ∷ H) ≡ without n (waiting H)
unfolding waiting arrivals without
waiting-start n H = grind (arith, common_steps, filter-filter)

pub waiting-post : (n : Name) (csw : Csw) (sense : ℕ) (code : Code) (H : List Entry) →
    waiting (Post n csw sense code ∷ H) ≡ without n (waiting H)
unfolding waiting arrivals without
waiting-post n csw sense code H = grind (arith, common_steps, filter-filter)

pub waiting-apart : (H : List Entry) → Facts H → Apart (waiting H)
unfolding waiting
waiting-apart H f = Apart-filter (λ r. not (has_started r.name H || is_posted r.name H)) (arrivals H) f.5

-- what was started does not wait
pub without-started : (n : Name) (H : List Entry) → Facts H → has_started n H ≡ true → without n (waiting H) ≡ waiting H
unfolding without
without-started n H f s = filter-all (λ (r : Piece). not (same n r.name)) (waiting H) (none (waiting H) (waits H f)) where
  none : (rs : List Piece) → Each (WaitsAmong H) rs → list_all (λ (r : Piece). not (same n r.name)) rs ≡ true
  none [] e = refl
  none (r ∷ rs) e = grind (arith, common_steps, same-true, none rs e.1)

abbrev pub may_be_due : Entry → Bool
may_be_due (Halted n) = true
may_be_due (Post n csw sense code) = true
may_be_due _ = false

module _ {D : Type 0} (meaning : Meaning D) (mounted : D) where
  -- an entry that is never due fits where nothing is, and freely
  pub fits-freely : (e : Entry) (H : List Entry) → may_be_due e ≡ false → Fits meaning mounted e H →
      (due meaning mounted H ≡ Free) × FitsFree meaning mounted e H
  fits-freely e H never h = grind (arith, common_steps)

  -- what is due: a Halted of the active request, or a doom
  pub data DueIs (H : List Entry) : Type 0 where
    Halts : (n : Name) → due meaning mounted H ≡ ToHalt n → active H ≡ Some n → is_to_halt meaning mounted H n ≡ true → DueIs H
    Dooms : due meaning mounted H ≡ doomed_first (doomed H) → DueIs H

  pub due-is : (H : List Entry) → DueIs H
  unfolding due
  due-is H = by_active (active H) refl where
    by_active : (o : Option Name) → active H ≡ o → DueIs H
    by_active None e = Dooms (ap (due_by meaning mounted H) e)
    by_active (Some n) e =
        let d = ap (due_by meaning mounted H) e in
        elim (cases_Bool (is_to_halt meaning mounted H n)) [ inl b ↦ Halts n (d ∙ rw b refl) e b | inr b ↦ Dooms (d ∙ rw b refl) ]

  -- what must be posted is the first of the doomed
  pub due-post : (H : List Entry) (n : Name) → due meaning mounted H ≡ ToPost n → (r : Piece) × (rest : List Piece) × (doomed H ≡ r ∷ rest)
      × (r.name ≡ n)
  due-post H n h = elim (due-is H) [ Halts m d a b ↦ let k = sym d ∙ h in absurd cc | Dooms d ↦ doomed-first-post (doomed H) n (sym d ∙ h) ]

  -- who must be halted is active, and is to be
  pub due-halt : (H : List Entry) (n : Name) → due meaning mounted H ≡ ToHalt n →
      (active H ≡ Some n) × (is_to_halt meaning mounted H n ≡ true)
  due-halt H n h = grind (arith, common_steps, due-is)

  pub post-whom : {n : Name} {H : List Entry} (status : Status) (code : Code) → Facts H →
      Fits meaning mounted (Post n status.csw status.sense code) H → PostOf n H
  post-whom {n} {H} status code f h = by_due (due meaning mounted H) refl h where
    free_post : PostFits meaning mounted n status code H → PostOf n H
    free_post (OfActive p) = inl p.active
    free_post (OfFirst p) = inr (name-waits (Each-at (WaitsAmong H) (waiting H) 0 p.fails.request (waits H f) p.fails.first) p.fails.name)

    by_due : (d : Due) → d ≡ due meaning mounted H → FitsBy meaning mounted d (Post n status.csw status.sense code) H → PostOf n H
    by_due (ToHalt m) e k = absurd cc
    by_due (ToPost m) e k =
        let p = due-post H m (sym e) in
        let q : m ≡ n = cc in
        let w : Each (WaitsAmong H) (doomed H) = Each-filter (WaitsAmong H) (is_doomed H) (waiting H) (waits H f) in
        let w' = rw p.2 at w in
        inr (name-waits w'.0 (p.3 ∙ q))
    by_due Free e k = free_post k
