-- What is doomed, entry by entry, and that the dooms settle a trace.
use Rattle.unit_book.proofs.Names.{BookFields, ◌≡◌, ◌≤◌, ℕ, Bool, true, false, not, ◌&&◌, ◌||◌, Some, List, [], ◌∷◌, length, arith, refl}
use Rattle.unit_book.proofs.Names.{sym, ap, ◌∙◌, empty_status, eqb, subst, if◌then◌else◌, filter, list_all, is_error, Csw}
use Rattle.unit_book.proofs.Names.{Status, Code, Purged, Meaning, no_status, Name, Piece, Entry, Opened, Start, Ran, Post, same, waiting}
use Rattle.unit_book.proofs.Names.{arrivals, active, started, request_named, doomed, is_doomed, flag, Free}
use Rattle.unit_book.proofs.Names.{due, doomed_first, is_to_halt, Fits, FitsBy, Legal, all_posted, after_dooms, doomed_by_post, DoomedBy}
use Rattle.unit_book.proofs.Names.{halted_by, ◌+◌, Option, ◌++◌, append_assoc, map, append-nil, drop, PostedState, Active, Arrive}
use Rattle.unit_book.proofs.Names.{extents_of, attempts, area, purged, posted, posted_since, posted_value, Ties, Each}
use Rattle.unit_book.specs.Trace.{is_opening}
use Rattle.unit_book.specs.Selected.{is_selected}
use Rattle.std.proofs.Math.Seq.{drop-append_seam, drop-length}
use Rattle.unit_book.proofs.Lists.{filter-filter, all-kept, without, without-first, Apart, Apart-filter, no_both, none_named}
use Rattle.unit_book.proofs.Facts.{waiting-start, waiting-post, waiting-apart, Halts, Dooms, due-is, Each-filter, waits, WaitsAmong}
use Rattle.unit_book.proofs.Facts.{active-post_waiting}
use Rattle.unit_book.proofs.LegalFacts.{facts}
use Rattle.unit_book.proofs.Same.{activity-same}
use Rattle.unit_book.proofs.Starts.{as-issued}
use Rattle.std.proofs.lemmas.List.Filters.{length-filter_both}
use Rattle.std.proofs.lemmas.Grind.{common_steps}

module _ {X : Type 0} where
  -- what is never picked leaves nothing
  pub filter-never : (xs : List X) → filter (λ x. false) xs ≡ []
  filter-never [] = refl
  filter-never (x ∷ xs) = filter-never xs

  pub length-filter_le : (p : X → Bool) (xs : List X) → length (filter p xs) ≤ length xs
  length-filter_le p [] = omega arith
  length-filter_le p (x ∷ xs) = grind (arith, common_steps, length-filter_le p xs)

  pub filters-commute : (p q : X → Bool) (xs : List X) → filter p (filter q xs) ≡ filter q (filter p xs)
  filters-commute p q xs =
      sym (filter-filter q p (λ x. q x && p x) (λ x. by_bools (q x) (p x)) xs) ∙ filter-filter p q (λ x. q x && p x) (λ x. refl) xs where
        by_bools : (a b : Bool) → (a && b) ≡ (b && a)
        by_bools v0 v1 = grind (arith, common_steps)

  -- nothing passes a filter that is empty
  pub none-pass : (p : X → Bool) (xs : List X) → filter p xs ≡ [] → list_all (λ x. not (p x)) xs ≡ true
  none-pass p [] h = refl
  none-pass p (x ∷ xs) h = grind (arith, common_steps, none-pass p xs)

  -- tests that agree on the elements keep the same
  pub filter-agree : (p q m : X → Bool) → ((x : X) → m x ≡ true → p x ≡ q x) → (xs : List X) → list_all m xs ≡ true →
      filter p xs ≡ filter q xs
  filter-agree p q m a [] h = refl
  filter-agree p q m a (x ∷ xs) h = grind (arith, common_steps, filter-agree p q m a xs)

-- where only dooms are due nothing is halted
pub halted-first : (rs : List Piece) (H : List Entry) → halted_by (doomed_first rs) H ≡ H
halted-first v0 v1 = grind (arith, common_steps)

-- a Start takes its name away, a post as purged likewise
pub doomed-start : (n : Name) (H : List Entry) → doomed (Start n ∷ H) ≡ without n (doomed H)
unfolding without flag
doomed-start n H = grind (arith, common_steps, waiting-start, filters-commute)

pub doomed-purged : (n : Name) (csw : Csw) (sense : ℕ) (H : List Entry) → doomed (Post n csw sense Purged ∷ H) ≡ without n (doomed H)
unfolding without flag
doomed-purged n csw sense H = grind (arith, common_steps, waiting-post, filters-commute)

-- a post dooms the related requests of its DCB, if it is of a related request and has an error
doomed-by : (q r : Piece) (code : Code) (gone f : Bool) → not (gone || (r.related && f)) ≡ true →
    (gone || (r.related && (if is_error code && q.related && eqb q.dcb r.dcb then true else f)))
    ≡ is_selected (doomed_by_post q code) r
doomed-by q r code v3 f h = grind (arith, common_steps)

pub doomed-post : (n : Name) (csw : Csw) (sense : ℕ) (code : Code) (H : List Entry) → doomed H ≡ [] →
    DoomedBy (doomed_by_post (request_named n H) code) (Post n csw sense code ∷ H)
unfolding flag without
doomed-post n csw sense code H e =
    let all = all-kept (λ r. not (is_doomed H r)) (λ r. not (same n r.name)) (waiting H) (none-pass (is_doomed H) (waiting H) e) in
    let there = subst (λ ws. list_all (λ r. not (is_doomed H r)) ws ≡ true) (sym (waiting-post n csw sense code H)) all in
    grind (arith, common_steps, filter-agree, doomed-by)

-- a post dooms at most what waited
pub doomed-few : (n : Name) (csw : Csw) (sense : ℕ) (code : Code) (H : List Entry) →
    length (doomed (Post n csw sense code ∷ H)) ≤ length (waiting H)
unfolding without
doomed-few n csw sense code H = grind (arith, common_steps, waiting-post, length-filter_le)

module _ {D : Type 0} (meaning : Meaning D) (mounted : D) where
  -- no Halted is due
  abbrev pub NoHalt : List Entry → Type 0
  NoHalt H = (n : Name) → active H ≡ Some n → is_to_halt meaning mounted H n ≡ false

  pub due-no_halt : (H : List Entry) → NoHalt H → due meaning mounted H ≡ doomed_first (doomed H)
  due-no_halt H h = elim (due-is meaning mounted H) [ Halts n d a b ↦ no_both (is_to_halt meaning mounted H n) b (h n a) | Dooms d ↦ d ]

  -- THE DOOMS are legal and leave nothing due
  dooms-by : (rs : List Piece) (H : List Entry) → doomed H ≡ rs → due meaning mounted H ≡ doomed_first rs → Legal meaning mounted H →
      Legal meaning mounted (all_posted rs H) × (due meaning mounted (all_posted rs H) ≡ Free)
  unfolding Legal
  dooms-by [] H e d l = (l, d)
  dooms-by (r ∷ rs) H e d l =
      grind (arith, common_steps, facts, Apart-filter, waiting-apart, doomed-purged, without-first, due-no_halt, dooms-by rs)

  pub dooms-settle : (H : List Entry) → due meaning mounted H ≡ doomed_first (doomed H) → Legal meaning mounted H →
      Legal meaning mounted (after_dooms H) × (due meaning mounted (after_dooms H) ≡ Free)
  dooms-settle H d l = dooms-by (doomed H) H refl d l

  -- nothing is doomed where nothing is due
  pub due-doomed : (H : List Entry) → due meaning mounted H ≡ Free → doomed H ≡ []
  due-doomed H h = grind (arith, common_steps, due-is)

  -- a Ran and a Start leave a settled trace settled
  pub settled-ran : (n : Name) (j : ℕ) (H : List Entry) → due meaning mounted H ≡ Free → due meaning mounted (Ran n j ∷ H) ≡ Free
  unfolding waiting arrivals flag
  settled-ran n j H h = due-no_halt (Ran n j ∷ H) (λ m a. refl) ∙ ap doomed_first (due-doomed H h)

  pub settled-start : (n : Name) (H : List Entry) → due meaning mounted H ≡ Free → due meaning mounted (Start n ∷ H) ≡ Free
  unfolding without
  settled-start n H h = due-no_halt (Start n ∷ H) (λ m a. refl) ∙ ap doomed_first (doomed-start n H ∙ ap (without n) (due-doomed H h))

  pub settled-open : (e : Entry) (H : List Entry) → is_opening e ≡ true → due meaning mounted H ≡ Free → due meaning mounted (e ∷ H) ≡ Free
  unfolding waiting arrivals flag
  settled-open (Opened d method x) H o h =
      let G = Opened d method x ∷ H in
      let all = none-pass (is_doomed H) (waiting H) (due-doomed H h) in
      let same = filter-agree (is_doomed G) (λ r. false) (λ r. not (is_doomed H r))
      (λ r h. grind (arith, common_steps))
      (waiting H) all in
      due-no_halt G (λ n a. refl) ∙ ap doomed_first (same ∙ filter-never (waiting H))
  settled-open _ H o h = absurd cc

  -- nothing is due in a trace without entries
  pub settled-new : due meaning mounted [] ≡ Free
  unfolding due waiting arrivals active started
  settled-new = refl

-- The posts of the doomed requests: the fields stay those of the trace.

-- a queue without these
abbrev pub without_all : List Piece → List Piece → List Piece
without_all [] ws = ws
without_all (r ∷ rs) ws = without_all rs (without r.name ws)

without-other : (rs : List Piece) (w : Piece) (ws : List Piece) → none_named w.name rs ≡ true →
    without_all rs (w ∷ ws) ≡ w ∷ without_all rs ws
unfolding without
without-other [] w ws h = refl
without-other (r ∷ rs) w ws h = grind (arith, common_steps, without-other rs w)

-- without those that pass, those that do not are left
pub without-picked : (p : Piece → Bool) (ws : List Piece) → Apart ws → without_all (filter p ws) ws ≡ filter (λ r. not (p r)) ws
unfolding Apart
without-picked p [] a = refl
without-picked p (w ∷ ws) a = grind (arith, common_steps, without-picked p ws a.1, without-first, all-kept, without-other)

-- one more at the end of those that are posted
pub all_posted-push : (rs : List Piece) (r : Piece) (H : List Entry) →
    all_posted (rs ++ r ∷ []) H ≡ Post r.name no_status 0 Purged ∷ all_posted rs H
all_posted-push [] r H = refl
all_posted-push (q ∷ rs) r H = all_posted-push rs r (Post q.name no_status 0 Purged ∷ H)

module _ {D : Type 0} (meaning : Meaning D) (mounted : D) where
  module _ {r : Piece} {held : BookFields D} {o : Option Active}
      (fits : Fits meaning mounted (Post r.name no_status 0 Purged) held.trace) (t : Ties meaning mounted held o)
      (w : WaitsAmong held.trace r) where
    posted-one : posted meaning mounted (Post r.name no_status 0 Purged ∷ held.trace) ≡ posted meaning mounted held.trace ++ purged r ∷ []
    unfolding posted
    posted-one = grind (arith, common_steps, as-issued meaning mounted r held.trace t.legal w.unstarted)

    ties-purged : Ties meaning mounted (record held {
      trace = Post r.name no_status 0 Purged ∷ held.trace;
      waiting = without r.name held.waiting;
      out = held.out ++ purged r ∷ [];
    }) o
    unfolding Legal attempts flag extents_of request_named without
    ties-purged =
        let a = active-post_waiting r.name empty_status Purged held.trace w.unstarted in
        grind (arith, common_steps, waiting-post, Each-filter, activity-same, append_assoc, posted-one)

  -- the posts of all that are doomed
  pub record Swept (rs : List Piece) (held : BookFields D) (o : Option Active) : Type 0 where
    pub ties : Ties meaning mounted (record held {
      trace = all_posted rs held.trace;
      waiting = without_all rs held.waiting;
      out = held.out ++ map purged rs;
    }) o
    pub posted_is : posted meaning mounted (all_posted rs held.trace) ≡ posted meaning mounted held.trace ++ map purged rs
    pub settled : due meaning mounted (all_posted rs held.trace) ≡ doomed_first []

  pub ties-dooms_by : (rs : List Piece) {held : BookFields D} {o : Option Active} →
      doomed held.trace ≡ rs → due meaning mounted held.trace ≡ doomed_first rs → Ties meaning mounted held o →
      Swept rs held o
  ties-dooms_by [] {held} {o} e d t = grind (arith, common_steps)
  ties-dooms_by (r ∷ rs) {held} {o} e d t =
      let f = facts meaning mounted held.trace t.legal in
      let G = Post r.name no_status 0 Purged ∷ held.trace in
      let all : Each (WaitsAmong held.trace) (doomed held.trace) =
      Each-filter (WaitsAmong held.trace) (is_doomed held.trace) (waiting held.trace) (waits held.trace f) in
      let w = (subst (Each (WaitsAmong held.trace)) e all).0 in
      let fits : Fits meaning mounted
      (Post r.name no_status 0 Purged) held.trace = subst (λ x. FitsBy meaning mounted x (Post r.name no_status 0 Purged) held.trace)
      (sym d) refl in
      let apart = subst Apart e (Apart-filter (is_doomed held.trace) (waiting held.trace) (waiting-apart held.trace f)) in
      let next : doomed G ≡ rs = doomed-purged r.name no_status 0 held.trace ∙ ap (without r.name) e ∙ without-first r rs apart in
      let k = ties-purged fits t w in
      let s = ties-dooms_by rs next (due-no_halt meaning mounted G (λ n a. refl) ∙ ap doomed_first next) k in
      grind (arith, common_steps, append_assoc, posted-one)

  -- THE SWEEP of a queue by a test that picks what is doomed
  pub ties-dooms : (p : Piece → Bool) {held : BookFields D} {o : Option Active} →
      doomed held.trace ≡ filter p (waiting held.trace) → due meaning mounted held.trace ≡ doomed_first (doomed held.trace) →
      Ties meaning mounted held o →
      Swept (filter p held.waiting) held o × (without_all (filter p held.waiting) held.waiting ≡ filter (λ r. not (p r)) held.waiting)
      × (all_posted (filter p held.waiting) held.trace ≡ after_dooms held.trace)
  ties-dooms p {held} e d t =
      let q : doomed held.trace ≡ filter p held.waiting = e ∙ ap (filter p) (sym t.queue) in
      let apart = subst Apart (sym t.queue) (waiting-apart held.trace (facts meaning mounted held.trace t.legal)) in (
        ties-dooms_by (filter p held.waiting) q (d ∙ ap doomed_first q) t,
        without-picked p held.waiting apart,
        ap (λ x. all_posted x held.trace) (sym q),
      )

  -- what was posted since, where it is known what was
  pub since-is : (H G : List Entry) (vs : List PostedState) → posted meaning mounted G ≡ posted meaning mounted H ++ vs →
      posted_since meaning mounted H G ≡ vs
  since-is H G vs e = ap (drop (length (posted meaning mounted H))) e ∙ drop-append_seam (posted meaning mounted H) vs

  -- nothing was posted since the same trace
  pub since-same : (H : List Entry) → posted_since meaning mounted H H ≡ []
  since-same H = drop-length (posted meaning mounted H)

-- WHAT WAS POSTED SINCE a trace, entry by entry
module _ {D : Type 0} (meaning : Meaning D) (mounted : D) where
  -- an arrival posts nothing
  pub since-arrive : (r : Piece) (H : List Entry) → posted_since meaning mounted H (Arrive r ∷ H) ≡ []
  unfolding posted
  since-arrive r H = drop-length (posted meaning mounted H)

  pub posted-more : (rs : List Piece) (G : List Entry) →
      (vs : List PostedState) × (posted meaning mounted (all_posted rs G) ≡ posted meaning mounted G ++ vs)
  unfolding posted
  posted-more [] G = ([], sym (append-nil (posted meaning mounted G)))
  posted-more (r ∷ rs) G = grind (arith, common_steps, posted-more rs (Post r.name no_status 0 Purged ∷ G), append_assoc)

  -- a post and what it dooms
  pub since-post : (n : Name) (status : Status) (code : Code) (H : List Entry) →
      let G = Post n status.csw status.sense code ∷ H in
      posted_since meaning mounted H (after_dooms G) ≡ posted_value (request_named n H) status.csw status.sense code
      (area meaning mounted (request_named n H) H) ∷ posted_since meaning mounted G (after_dooms G)
  unfolding posted
  since-post n status code H =
      let G = Post n status.csw status.sense code ∷ H in
      let v = posted_value (request_named n H) status.csw status.sense code (area meaning mounted (request_named n H) H) in
      let m = posted-more (doomed G) G in
      let own = since-is meaning mounted G (after_dooms G) m.0 m.1 in
      let all = since-is meaning mounted H (after_dooms G) (v ∷ m.0) (m.1 ∙ append_assoc (posted meaning mounted H) (v ∷ []) m.0) in
      all ∙ ap (λ x. v ∷ x) (sym own)

-- those that are picked and those that are not are all
pub length-filters : {X : Type 0} (p : X → Bool) (xs : List X) → length (filter p xs) + length (filter (λ x. not (p x)) xs) ≡ length xs
length-filters p xs = length-filter_both p (λ x. not (p x)) (λ x. refl) xs

-- where nothing is doomed there are no dooms
pub dooms-none : (H : List Entry) → doomed H ≡ [] → after_dooms H ≡ H
dooms-none H e = ap (λ x. all_posted x H) e
