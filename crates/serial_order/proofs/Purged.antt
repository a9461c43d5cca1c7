-- Which requests a unit that serves one at a time posts 48.
use Rattle.unit_book.proofs.Names.{◌≡◌, ℕ, zero, suc, ◌+◌, ◌==◌, Bool, true, not, ◌&&◌, ◌||◌, if◌then◌else◌, Some, None, List, [], ◌∷◌}
use Rattle.unit_book.proofs.Names.{refl, sym, ap, ◌∙◌, arith, inl, inr, and_parts, cases_Bool, slice_get, Code, Purged, ExtentViolated, Csw, Meaning}
use Rattle.unit_book.proofs.Names.{Retry, Final, Piece, PostedState, posted_value, is_opened, Program}
use Rattle.io_images.specs.Codes.{is_error}
use Rattle.io_images.specs.declared.code.Code.TheVariants.{PermanentError, Ended}
use Rattle.device_port.specs.declared.kind.Kind.{Kind}
use Rattle.recovery.specs.declared.answer.Verdict.{Verdict}
use Rattle.recovery.specs.Verdict.{verdict, is_success, is_disk, is_passing_error, is_channel_error}
use Rattle.std.specs.Prelude.{◌⊎◌, nat_le}
use Rattle.unit_book.specs.declared.entry.Entry.{Entry}
use Rattle.serial_order.specs.OneAtATime.{IdleUnit, attempt, attempts_from, fresh_unit, is_turned_away, one_at_a_time, passes_extents}
use Rattle.serial_order.specs.OneAtATime.{unit_after, serve, serve_all, status_at, to_end, verdict_on, with_program}
use Rattle.serial_order.specs.Laws.{FollowsError}
use Rattle.serial_order.proofs.Programs.{attempts-again, attempts-final}
use Rattle.std.proofs.lemmas.Bool.{eqb-true}
use Rattle.std.proofs.lemmas.Grind.{common_steps}

some-is : {A : Type 0} (a b : A) → Some a ≡ Some b → a ≡ b
some-is a b e = ap (λ o. elim o [ Some x ↦ x | None ↦ a ]) e

by-tests : (a b : Bool) (code : Code) → (if a then Final Ended else if b then Retry else Final PermanentError) ≡ Final code →
    code ≡ Purged → ⊥
by-tests v0 v1 code e p = grind (arith, common_steps)

-- no verdict is 48
verdict-code : (kind : Kind) (csw : Csw) (sense number : ℕ) (code : Code) → verdict kind csw sense number ≡ Final code → code ≡ Purged → ⊥
verdict-code kind csw sense number code e = by-tests (is_success csw)
    (is_disk kind && nat_le number 10 && (is_passing_error csw sense || is_channel_error csw)) code e

module _ {D : Type 0} (meaning : Meaning D) (mounted : D) (openings : List Entry) where
  attempts-last : (number : ℕ) (r : Piece) (p : Program D) → verdict_on (meaning.kind mounted) number (to_end meaning p) ≡ Retry →
      attempts_from meaning mounted openings zero number r p ≡ with_program r (to_end meaning p) PermanentError
  unfolding attempts_from
  attempts-last number r p e = rw (e, attempts_from) refl

  final-code : (left number : ℕ) (r : Piece) (p : Program D) (code : Code) →
      verdict_on (meaning.kind mounted) number (to_end meaning p) ≡ Final code →
      (attempts_from meaning mounted openings left number r p).value.code ≡ Purged → ⊥
  unfolding posted_value
  final-code left number r p code e h = verdict-code (meaning.kind mounted) (status_at (to_end meaning p).place.state).csw
      (status_at (to_end meaning p).place.state).sense number code e
      (ap (λ s. s.value.code) (sym (attempts-final meaning mounted openings left number r p code e)) ∙ h)

  -- a request that is started is never posted 48
  attempts-code : (left number : ℕ) (r : Piece) (p : Program D) →
      (attempts_from meaning mounted openings left number r p).value.code ≡ Purged → ⊥
  unfolding posted_value
  attempts-code zero number r p h = by (verdict_on (meaning.kind mounted) number (to_end meaning p)) refl where
    by : (v : Verdict) → verdict_on (meaning.kind mounted) number (to_end meaning p) ≡ v → ⊥
    by Retry e = let is : PermanentError ≡ Purged = ap (λ s. s.value.code) (sym (attempts-last number r p e)) ∙ h in absurd cc
    by (Final code) e = final-code zero number r p code e h
  attempts-code (suc left) number r p h = by (verdict_on (meaning.kind mounted) number (to_end meaning p)) refl
      (attempts-code left (number + 1) r (attempt meaning openings r (to_end meaning p).device (to_end meaning p).area)) where
        by : (v : Verdict) → verdict_on (meaning.kind mounted) number (to_end meaning p) ≡ v →
            ((attempts_from meaning mounted openings left (number + 1) r
            (attempt meaning openings r (to_end meaning p).device (to_end meaning p).area)).value.code ≡ Purged → ⊥) → ⊥
        by Retry e later = later (ap (λ s. s.value.code) (sym (attempts-again meaning mounted openings left number r p e)) ∙ h)
        by (Final code) e later = final-code (suc left) number r p code e h

  -- a request that is served 48 is turned away
  served-away : (u : IdleUnit D) (r : Piece) → (serve meaning mounted openings u r).value.code ≡ Purged → is_turned_away openings u r ≡ true
  unfolding posted_value
  served-away u r h = elim (cases_Bool (is_turned_away openings u r)) [
    | inl away ↦ away
    | inr kept ↦ elim (cases_Bool (passes_extents meaning mounted openings r)) [
      | inl passes ↦ absurd (attempts-code 10 1 r (attempt meaning openings r u.device r.area) (rw (kept, passes) at h))
      | inr fails ↦ let k : ExtentViolated ≡ Purged = rw (kept, fails) at h in absurd cc
    ]
  ]

  related-away : (opened related flagged : Bool) → (not opened || (related && flagged)) ≡ true → opened ≡ true →
      (related ≡ true) × (flagged ≡ true)
  related-away v0 v1 v2 h o = grind (arith, common_steps)

  -- the cause of a flag: it was set before these requests, or by one of them
  abbrev Caused : IdleUnit D → List Piece → ℕ → Piece → Type 0
  Caused u rs at r = (u.in_error r.dcb ≡ true) ⊎ FollowsError rs (serve_all meaning mounted openings u rs) at r

  flagged-by : (u : IdleUnit D) (q r : Piece) (rs : List Piece) (at : ℕ) → (unit_after meaning mounted openings u q).in_error r.dcb ≡ true →
      Caused u (q ∷ rs) (suc at) r
  unfolding serve_all
  flagged-by u q r rs at h =
      let code = (serve meaning mounted openings u q).value.code in
      elim (cases_Bool (is_error code && q.related && (q.dcb == r.dcb))) [
        | inl sets ↦
            let a = and_parts (is_error code && q.related) (q.dcb == r.dcb) sets in
            let b = and_parts (is_error code) q.related a.0 in
            inr (record {
              earlier = 0;
              before = omega arith;
              cause = q;
              arrived = refl;
              related = b.1;
              same_dcb = eqb-true q.dcb r.dcb a.1;
              value = (serve meaning mounted openings u q).value;
              posted = refl;
              in_error = b.0;
            })
        | inr kept ↦ inl (rw kept at h)
      ]

  -- A REQUEST THAT IS POSTED 48 is related, and its DCB has the flag
  caused : (u : IdleUnit D) (rs : List Piece) (at : ℕ) (r : Piece) (v : PostedState) → slice_get rs at ≡ Some r →
      slice_get (serve_all meaning mounted openings u rs) at ≡ Some v → v.code ≡ Purged → is_opened r.dcb openings ≡ true →
      (r.related ≡ true) × Caused u rs at r
  unfolding serve_all
  caused u [] at r v e e' code opened = absurd cc
  caused u (q ∷ rs) zero r v e e' code opened =
      let same : q ≡ r = some-is q r e in
      let value : (serve meaning mounted openings u q).value ≡ v = some-is _ v e' in
      let away = served-away u r (ap (λ x. (serve meaning mounted openings u x).value.code) (sym same) ∙ (ap (λ x. x.code) value ∙ code)) in
      let why = related-away (is_opened r.dcb openings) r.related (u.in_error r.dcb) away opened in
      (why.0, inl why.1)
  caused u (q ∷ rs) (suc at) r v e e' code opened =
      let known = caused (unit_after meaning mounted openings u q) rs at r v e e' code opened in (
        known.0,
        elim (known.1) [
          | inl flagged ↦ flagged-by u q r rs at flagged
          | inr f ↦ inr (record {
            earlier = suc f.earlier;
            before = omega (arith, f.before);
            cause = f.cause;
            arrived = f.arrived;
            related = f.related;
            same_dcb = f.same_dcb;
            value = f.value;
            posted = f.posted;
            in_error = f.in_error;
          })
        ],
      )

  pub follows-error : (rs : List Piece) (at : ℕ) (r : Piece) (v : PostedState) → slice_get rs at ≡ Some r →
      slice_get (one_at_a_time meaning mounted openings rs) at ≡ Some v → v.code ≡ Purged → is_opened r.dcb openings ≡ true →
      (r.related ≡ true) × FollowsError rs (one_at_a_time meaning mounted openings rs) at r
  follows-error rs at r v e e' code opened =
      let known = caused (fresh_unit meaning mounted openings) rs at r v e e' code opened in
      (known.0, elim (known.1) [ inl flagged ↦ absurd cc | inr f ↦ f ])
