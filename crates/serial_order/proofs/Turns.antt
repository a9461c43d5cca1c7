-- From turn to turn: requests that are turned away change nothing, and an entry changes the turn of one request alone.
use Rattle.unit_book.proofs.Names.{◌≡◌, Bool, true, false, not, ◌&&◌, ◌||◌, if◌then◌else◌, Some, None, List, [], ◌∷◌, refl}
use Rattle.unit_book.proofs.Names.{sym, ap, ◌∙◌, arith, inl, inr, subst, filter, slice_get, Purged, Meaning, Name, Piece, has_started}
use Rattle.unit_book.proofs.Names.{is_posted, active, Each, PostedState, posted_value}
use Rattle.unit_book.specs.declared.entry.Entry.{Entry}
use Rattle.unit_book.proofs.Lists.{none_named, Apart}
use Rattle.serial_order.specs.OneAtATime.{IdleUnit, without_start, is_turned_away, serve, unit_after}
use Rattle.serial_order.proofs.Agrees.{Rests, Waits, WasPosted, Away, Later, Runs, Was, Is, Will, Agrees}
use Rattle.std.proofs.lemmas.Grind.{common_steps}

-- a fact on each of a list, from two facts on each
pub each-both : {P Q R : Piece → Type 0} → ((r : Piece) → P r → Q r → R r) → (rs : List Piece) → Each P rs → Each Q rs → Each R rs
each-both f [] p q = tt
each-both f (r ∷ rs) p q = (f r p.0 q.0, each-both f rs p.1 q.1)

-- those of a list that wait
abbrev pub that_wait : List Entry → List Piece → List Piece
that_wait H rs = filter (λ r. not (has_started r.name H || is_posted r.name H)) rs

first-dropped : (H : List Entry) (q r : Piece) (rs : List Piece) → is_posted r.name H ≡ true →
    slice_get (that_wait H (r ∷ rs)) 0 ≡ Some q → slice_get (that_wait H rs) 0 ≡ Some q
first-dropped H q r rs p h = grind (arith, common_steps)

first-kept : (H : List Entry) (q r : Piece) (rs : List Piece) → has_started r.name H ≡ false → is_posted r.name H ≡ false →
    slice_get (that_wait H (r ∷ rs)) 0 ≡ Some q → q ≡ r
first-kept H q r rs s p h = grind (arith, common_steps)

turned-later : (a related f c : Bool) → (a || (related && f)) ≡ true → (a || (related && (if c then true else f))) ≡ true
turned-later v0 v1 v2 v3 h = grind (arith, common_steps)

module _ {D : Type 0} (meaning : Meaning D) (mounted : D) (openings : List Entry) where
  -- a request that is turned away changes nothing
  pub serve-away : (u : IdleUnit D) (r : Piece) → is_turned_away openings u r ≡ true →
      serve meaning mounted openings u r ≡ without_start u r Purged
  serve-away u r h = rw h refl

  pub next-away : (u : IdleUnit D) (r : Piece) → is_turned_away openings u r ≡ true → unit_after meaning mounted openings u r ≡ u
  unfolding posted_value
  next-away u r h = rw h refl

  -- a request that is turned away is turned away in each later turn
  pub away-next : (u : IdleUnit D) (q r : Piece) → is_turned_away openings u r ≡ true →
      is_turned_away openings (unit_after meaning mounted openings u q) r ≡ true
  away-next u q r h = turned-later _ r.related (u.in_error r.dcb) _ h

  was-away : {H : List Entry} {u : IdleUnit D} {r : Piece} → Away meaning mounted openings H u r →
      WasPosted meaning mounted H r (serve meaning mounted openings u r).value
  was-away {u = u} {r = r} a = record {
    done = a.was.done;
    value = a.was.value ∙ ap (λ s. Some s.value) (sym (serve-away u r a.away));
  }

  -- if nothing is active, the turns of those that were posted 48 before their turn are past
  pub absorb : {H : List Entry} {u : IdleUnit D} (rs : List Piece) → Rests meaning mounted H u → Each (Later meaning mounted openings H u) rs →
      Agrees meaning mounted openings H u rs
  absorb [] s l = s
  absorb {H} {u} (r ∷ rs) s l = elim (l.0) [
    | inl w ↦ Will s w l.1
    | inr a ↦ Was (was-away a)
        (subst (λ (x : IdleUnit D). Agrees meaning mounted openings H x rs) (sym (next-away u r a.away)) (absorb rs s l.1))
  ]

  module _ {H G : List Entry}
      (stays : (r : Piece) (v : PostedState) → WasPosted meaning mounted H r v → WasPosted meaning mounted G r v) where
    -- THE TURN OF THE FIRST that waits, if nothing is active
    pub first-turn : {q : Piece} →
        ((u : IdleUnit D) (rs : List Piece) → Rests meaning mounted H u → Waits H q → none_named q.name rs ≡ true →
        Each (Later meaning mounted openings H u) rs → Agrees meaning mounted openings G u (q ∷ rs)) →
        active H ≡ None → (u : IdleUnit D) (rs : List Piece) → slice_get (that_wait H rs) 0 ≡ Some q → Apart rs →
        Agrees meaning mounted openings H u rs → Agrees meaning mounted openings G u rs
    unfolding Apart
    first-turn will idle u [] h apart a = absurd cc
    first-turn {q} will idle u (r ∷ rs) h apart (Was p a) =
        Was (stays r _ p) (first-turn will idle (unit_after meaning mounted openings u r) rs (first-dropped H q r rs p.done h) apart.1 a)
    first-turn will idle u (r ∷ rs) h apart (Is p l) = let k = sym idle ∙ p.active in absurd cc
    first-turn {q} will idle u (r ∷ rs) h apart (Will s w l) =
        let e : q ≡ r = first-kept H q r rs w.unstarted w.unposted h in
        let n : none_named q.name rs ≡ true = rw e apart.0 in
        let w' : Waits H q = rw e w in
        rw (← e) (will u rs s w' n l)

    -- THE TURN OF THE ACTIVE REQUEST
    pub active-turn : {n : Name} (K : Piece → Type 0) →
        ((u : IdleUnit D) (r : Piece) (rs : List Piece) → r.name ≡ n → K r → Runs meaning mounted openings H u r →
        Each (Later meaning mounted openings H u) rs → Agrees meaning mounted openings G u (r ∷ rs)) →
        active H ≡ Some n → (u : IdleUnit D) (rs : List Piece) → Each K rs →
        Agrees meaning mounted openings H u rs → Agrees meaning mounted openings G u rs
    active-turn K is busy u [] k s = let e = sym busy ∙ s.idle in absurd cc
    active-turn K is busy u (r ∷ rs) k (Was p a) =
        Was (stays r _ p) (active-turn K is busy (unit_after meaning mounted openings u r) rs k.1 a)
    active-turn {n} K is busy u (r ∷ rs) k (Is p l) =
        let e = sym busy ∙ p.active in
        let i : r.name ≡ n = cc in is u r rs i k.0 p l
    active-turn K is busy u (r ∷ rs) k (Will s w l) = let e = sym busy ∙ s.idle in absurd cc
