-- What a trace without controls does not have, and what its openings say of its DCBs.
use Rattle.unit_book.proofs.Names.{◌≡◌, ℕ, Bool, true, false, not, ◌&&◌, ◌||◌, List, [], ◌∷◌, refl, ap, arith, ◌==◌}
use Rattle.unit_book.proofs.Names.{list_any, list_all, Name, Piece, is_opened, is_closed, is_halted, is_covered}
use Rattle.unit_book.proofs.Names.{extents_of, mask_of, is_doomed, flag}
use Rattle.unit_book.specs.declared.entry.Entry.{Entry}
use Rattle.unit_book.specs.declared.entry.Entry.TheVariants.{Opened, Arrive, Start, Ran, Halted, Purge, Close, Reset, Post}
use Rattle.unit_book.specs.Trace.{since, closes, is_purged, opens_for_input, purges, purges_halting, halts, starts, arrives}
use Rattle.serial_order.specs.Laws.{is_controlling}
use Rattle.unit_book.proofs.Names.{Each, Extent, and_parts, ◌++◌, sym, Meaning, Legal, Due, ToHalt, ToPost, Free, due, FitsBy, is_to_halt}
use Rattle.unit_book.specs.declared.dcb.ProcessingMethod.{ProcessingMethod}
use Rattle.unit_book.proofs.Facts.{Known, due-halt, not-true}
use Rattle.unit_book.specs.Dcbs.{openings}
use Rattle.std.proofs.lemmas.Grind.{common_steps}

-- the entry is a control, or the halt that a purge makes
abbrev pub is_control_or_halt : Entry → Bool
is_control_or_halt (Halted n) = true
is_control_or_halt e = is_controlling e

abbrev pub Uncontrolled : List Entry → Type 0
Uncontrolled H = list_all (λ e. not (is_control_or_halt e)) H ≡ true

-- no entry is of a kind that only controls have
none-of : (p : Entry → Bool) → ((e : Entry) → p e ≡ true → is_control_or_halt e ≡ true) → (H : List Entry) → Uncontrolled H →
    list_any p H ≡ false
none-of p h [] u = refl
none-of p h (e ∷ H) u = grind (arith, common_steps, none-of p h H, h e)

none-since : (p q : Entry → Bool) (H : List Entry) → list_any p H ≡ false → list_any p (since q H) ≡ false
none-since p q [] h = refl
none-since p q (e ∷ H) h = grind (arith, common_steps, none-since p q H)

control-closes : (d : ℕ) (e : Entry) → closes d e ≡ true → is_control_or_halt e ≡ true
control-closes d v1 h = grind (arith, common_steps)

control-purges : (r : Piece) (e : Entry) → purges r e ≡ true → is_control_or_halt e ≡ true
control-purges r v1 h = grind (arith, common_steps)

control-halting : (r : Piece) (e : Entry) → purges_halting r e ≡ true → is_control_or_halt e ≡ true
control-halting r v1 h = grind (arith, common_steps)

control-halts : (n : Name) (e : Entry) → halts n e ≡ true → is_control_or_halt e ≡ true
control-halts n v1 h = grind (arith, common_steps)

pub not-closed : (d : ℕ) (H : List Entry) → Uncontrolled H → is_closed d H ≡ false
not-closed d H u = none-of _ (control-closes d) H u

pub not-purged : (r : Piece) (H : List Entry) → Uncontrolled H → is_purged r H ≡ false
not-purged r H u = none-since (purges r) (arrives r.name) H (none-of (purges r) (control-purges r) H u)

pub not-covered : (r : Piece) (H : List Entry) → Uncontrolled H → is_covered r H ≡ false
not-covered r H u = none-since (purges_halting r) (starts r.name) H (none-of (purges_halting r) (control-halting r) H u)

pub not-halted : (n : Name) (H : List Entry) → Uncontrolled H → is_halted n H ≡ false
not-halted n H u = none-since (halts n) (starts n) H (none-of (halts n) (control-halts n) H u)

-- THE OPENINGS of a trace say of a DCB what the trace says
pub opened-is : (d : ℕ) (H : List Entry) → is_opened d (openings H) ≡ is_opened d H
opened-is d [] = refl
opened-is d (Opened c method x ∷ H) = ap (λ b. (c == d) || b) (opened-is d H)
opened-is d (_ ∷ H) = opened-is d H

input-is : (d : ℕ) (H : List Entry) → list_any (opens_for_input d) (openings H) ≡ list_any (opens_for_input d) H
input-is d [] = refl
input-is d (Opened c method x ∷ H) = ap (λ b. opens_for_input d (Opened c method x) || b) (input-is d H)
input-is d (_ ∷ H) = input-is d H

pub mask-is : (d : ℕ) (H : List Entry) → mask_of d (openings H) ≡ mask_of d H
mask-is d H = rw (input-is d H) refl

pub extents-is : (d : ℕ) (H : List Entry) → extents_of d (openings H) ≡ extents_of d H
unfolding extents_of
extents-is d [] = refl
extents-is d (Opened c method x ∷ H) = let e = extents-is d H in rw e refl
extents-is d (_ ∷ H) = extents-is d H

-- these openings say of the DCB of a request what the trace says
abbrev pub Tells : List Entry → List Entry → Piece → Type 0
Tells O H r = (is_opened r.dcb O ≡ is_opened r.dcb H) × (mask_of r.dcb O ≡ mask_of r.dcb H)
    × (extents_of r.dcb O ≡ extents_of r.dcb H)

-- a request that arrived, and what these openings say of its DCB
abbrev pub Told : List Entry → List Entry → Piece → Type 0
Told O H r = Known H r × Tells O H r

pub tells-own : (H : List Entry) (r : Piece) → Tells (openings H) H r
tells-own H r = (opened-is r.dcb H, mask-is r.dcb H, extents-is r.dcb H)

-- an opening after these arrivals is of none of their DCBs
pub tells-before : (O H : List Entry) (d : ℕ) (method : ProcessingMethod) (extents : List Extent) (rs : List Piece) →
    list_all (λ r. not (d == r.dcb)) rs ≡ true → Each (Tells O (Opened d method extents ∷ H)) rs → Each (Tells O H) rs
unfolding extents_of
tells-before O H d method extents [] a ts = tt
tells-before O H d method extents (r ∷ rs) a ts =
    let b = and_parts (not (d == r.dcb)) (list_all (λ r. not (d == r.dcb)) rs) a in
    let s : (d == r.dcb) ≡ false = not-true (d == r.dcb) b.0 in
    ((rw s at ts.0.0, rw s at ts.0.1, rw s at ts.0.2), tells-before O H d method extents rs b.1 ts.1)

-- a request is doomed exactly if it is turned away
pub doomed-is : (O : List Entry) (r : Piece) (H : List Entry) → Tells O H r → Uncontrolled H →
    is_doomed H r ≡ (not (is_opened r.dcb O) || (r.related && flag r.dcb H))
doomed-is O r H t u =
    let c = not-closed r.dcb H u in
    let p = not-purged r H u in
    let o = t.0 in grind (arith, common_steps)

-- the first part of a list
pub each-front : (P : Piece → Type 0) (rs qs : List Piece) → Each P (rs ++ qs) → Each P rs
each-front P [] qs e = tt
each-front P (r ∷ rs) qs e = (e.0, each-front P rs qs e.1)

pub each-all : {P : Piece → Type 0} → ((r : Piece) → P r) → (rs : List Piece) → Each P rs
each-all f [] = tt
each-all f (r ∷ rs) = (f r, each-all f rs)

-- A LEGAL TRACE WITHOUT CONTROLS HALTS NOTHING
to-halt : {D : Type 0} (meaning : Meaning D) (mounted : D) (H : List Entry) (m : Name) → is_to_halt meaning mounted H m ≡ true →
    list_all (λ e. not (is_controlling e)) H ≡ true → ⊥
to-halt meaning mounted H m h u = grind (arith, common_steps)

module _ {D : Type 0} (meaning : Meaning D) (mounted : D) where
  halts-none : (n : Name) (H : List Entry) (d : Due) → d ≡ due meaning mounted H → FitsBy meaning mounted d (Halted n) H →
      list_all (λ e. not (is_controlling e)) H ≡ true → ⊥
  halts-none n H (ToHalt m) is fits u = to-halt meaning mounted H m (due-halt meaning mounted H m (sym is)).1 u
  halts-none n H (ToPost m) is fits u = absurd cc
  halts-none n H Free is fits u = elim fits [ ]

  pub halts-nothing : (H : List Entry) → Legal meaning mounted H → list_all (λ e. not (is_controlling e)) H ≡ true → Uncontrolled H
  unfolding Legal
  halts-nothing [] l u = refl
  halts-nothing (Halted n ∷ H) l u = elim (halts-none n H (due meaning mounted H) refl l.0 u) [ ]
  halts-nothing (Opened d m x ∷ H) l u = halts-nothing H l.1 u
  halts-nothing (Arrive r ∷ H) l u = halts-nothing H l.1 u
  halts-nothing (Start n ∷ H) l u = halts-nothing H l.1 u
  halts-nothing (Ran n j ∷ H) l u = halts-nothing H l.1 u
  halts-nothing (Post n csw sense code ∷ H) l u = halts-nothing H l.1 u
  halts-nothing (Purge scope mode ∷ H) l u = absurd cc
  halts-nothing (Close d ∷ H) l u = absurd cc
  halts-nothing (Reset d ∷ H) l u = absurd cc
