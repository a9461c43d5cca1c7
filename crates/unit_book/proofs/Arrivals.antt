-- A request arrives: the fields stay those of the trace.
use Rattle.unit_book.proofs.Names.{BookFields, ◌≡◌, true, false, Option, List, [], ◌∷◌, ◌++◌, refl, ap, ◌∙◌, sym, Meaning, Placed, Name}
use Rattle.unit_book.proofs.Names.{Piece, Active, Entry, Arrive, same, has_arrived, active, started, request_named, attempts, extents_of}
use Rattle.unit_book.proofs.Names.{flag, Fits, Legal, due, posted, Ties, Bool, not, ◌&&◌, ◌||◌, if◌then◌else◌, filter-append}
use Rattle.unit_book.proofs.Names.{filter, Purged, no_status, Post, waiting, doomed, is_doomed, is_open, Free, doomed_first, after_dooms}
use Rattle.unit_book.proofs.Names.{purged, posted_since, arith}
use Rattle.unit_book.specs.Dcbs.{is_refused}
use Rattle.unit_book.proofs.Lists.{same-refl, without, none_named, filter-all}
use Rattle.unit_book.proofs.Facts.{Each-behind, Each-weaker, fresh, fits-freely, waiting-arrive, active-is, Facts, waits}
use Rattle.unit_book.proofs.Facts.{WaitsAmong, Known, not-true}
use Rattle.unit_book.proofs.LegalFacts.{SoundTrace, facts, none-named}
use Rattle.unit_book.proofs.Same.{Silent, activity-same}
use Rattle.unit_book.proofs.Dooms.{filter-agree, due-no_halt, due-doomed, Swept, ties-dooms_by, since-is}
use Rattle.std.proofs.lemmas.Grind.{common_steps}

silent : (r : Piece) (n : Name) (H : List Entry) → has_arrived r.name H ≡ false → has_arrived n H ≡ true →
    Silent H (Arrive r ∷ H) n
unfolding active started request_named attempts
silent r n H new a = grind (arith, common_steps)

module _ {D : Type 0} (meaning : Meaning D) (mounted : D) where
  pub ties-arrive : {r : Piece} {held : BookFields D} {o : Option Active} →
      Fits meaning mounted (Arrive r) held.trace → Placed r → Ties meaning mounted held o →
      Ties meaning mounted (record held { trace = Arrive r ∷ held.trace; waiting = held.waiting ++ r ∷ [] }) o
  unfolding Legal active started request_named attempts extents_of flag posted
  ties-arrive {r} {held} {o} h p t =
      let f = facts meaning mounted held.trace t.legal in
      let new = fresh r held.trace f (fits-freely meaning mounted (Arrive r) held.trace refl h).1 in
      let queue' = ap (λ q. q ++ r ∷ []) t.queue ∙ sym (waiting-arrive r held.trace f new) in
      let placed' = Each-behind Placed held.waiting r t.placed p in
      let activity' = activity-same meaning mounted (Arrive r ∷ held.trace) t refl (λ n a. silent r n held.trace new (f.0 n (active-is n
      held.trace a).0)) in
      assumption

-- A request that is doomed where it arrives.

-- a new name is not among those that wait
none-waiting : (r : Piece) (H : List Entry) → Facts H → has_arrived r.name H ≡ false → none_named r.name (waiting H) ≡ true
none-waiting r H f h = none-named r.name H h (waiting H)
    (Each-weaker (WaitsAmong H) (Known H) (λ q w. w.known) (waiting H) (waits H f))

-- WHAT AN ARRIVAL DOOMS: itself at most
doomed-arrive : (r : Piece) (H : List Entry) → Facts H → has_arrived r.name H ≡ false → doomed H ≡ [] →
    doomed (Arrive r ∷ H) ≡ (if is_refused r H then r ∷ [] else [])
unfolding flag
doomed-arrive r H f h e =
    let G = Arrive r ∷ H in
    let agree = filter-agree (is_doomed G) (is_doomed H) (λ q. not (same r.name q.name))
    (λ q k. let s = not-true (same r.name q.name) k in rw s refl) (waiting H) (none-waiting r H f h) in
    let self = same-refl r.name in
    ap (filter (is_doomed G)) (waiting-arrive r H f h)
    ∙ filter-append (is_doomed G) (waiting H) (r ∷ [])
    ∙ ap (λ x. x ++ filter (is_doomed G) (r ∷ [])) (agree ∙ e)
    ∙ rw self (by_bools (not (is_open r.dcb H)) (r.related && flag r.dcb H)) where
      by_bools : (a b : Bool) → (if (a || false) || b then r ∷ [] else []) ≡ (if a || b then r ∷ [] else [])
      by_bools v0 b = grind (arith, common_steps)

module _ {D : Type 0} (meaning : Meaning D) (mounted : D) where
  -- an arrival that is not refused leaves a trace settled
  pub settled-arrive : (r : Piece) {H : List Entry} → SoundTrace meaning mounted H → Fits meaning mounted (Arrive r) H →
      is_refused r H ≡ false → (doomed (Arrive r ∷ H) ≡ []) × (due meaning mounted (Arrive r ∷ H) ≡ Free)
  settled-arrive r {H} s h n = grind (arith, common_steps, facts, doomed-arrive, due-doomed, due-no_halt)

-- one that is refused is posted at once
module _ {D : Type 0} {meaning : Meaning D} {mounted : D} {r : Piece} {held : BookFields D} {o : Option Active}
    (fits : Fits meaning mounted (Arrive r) held.trace) (placed : Placed r) (settled : due meaning mounted held.trace ≡ Free)
    (refused : is_refused r held.trace ≡ true) (t : Ties meaning mounted held o) where
  abbrev G : List Entry
  G = Arrive r ∷ held.trace

  doomed-is : doomed G ≡ r ∷ []
  doomed-is = grind (arith, common_steps, facts, doomed-arrive, due-doomed)

  swept : Swept meaning mounted (r ∷ []) (record held { trace = G; waiting = held.waiting ++ r ∷ [] }) o
  swept = ties-dooms_by meaning mounted (r ∷ []) doomed-is (due-no_halt meaning mounted G (λ n a. refl) ∙ ap doomed_first doomed-is)
      (ties-arrive meaning mounted fits placed t)

  pub after-refusal : Post r.name no_status 0 Purged ∷ G ≡ after_dooms G
  after-refusal = let e = doomed-is in rw e refl

  queue-is : without r.name (held.waiting ++ r ∷ []) ≡ held.waiting
  unfolding without
  queue-is = grind (arith, common_steps, facts, none-waiting, filter-all)

  pub ties-refused : Ties meaning mounted (record held { trace = Post r.name no_status 0 Purged ∷ G; out = held.out ++ purged r ∷ [] }) o
  ties-refused = grind (arith, common_steps, queue-is, swept)

  pub since-refused : posted_since meaning mounted held.trace (Post r.name no_status 0 Purged ∷ G) ≡ purged r ∷ []
  unfolding posted
  since-refused = since-is meaning mounted held.trace (Post r.name no_status 0 Purged ∷ G) (purged r ∷ []) swept.posted_is

  pub settled-refused : due meaning mounted (Post r.name no_status 0 Purged ∷ G) ≡ Free
  settled-refused = swept.settled
