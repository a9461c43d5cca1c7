-- The seek of a request that was started is one of the device.
use Rattle.unit_book.proofs.Names.{StartsFirst, ◌≡◌, ℕ, Bool, true, false, not, ◌&&◌, Option, Some, List, [], ◌∷◌}
use Rattle.unit_book.proofs.Names.{length, refl, ◌∙◌, arith, eqb, inl, inr, subst, cases_Bool, and_parts, and_from, or_parts, list_all}
use Rattle.unit_book.proofs.Names.{slice_get, Extent, Meaning, Kind, Name, Piece, Entry, Opened, Arrive, Start, passes_check, same}
use Rattle.unit_book.proofs.Names.{has_started, waiting, request_named, is_opened, is_closed, is_open, extents_of, doomed}
use Rattle.unit_book.proofs.Names.{is_doomed, Attempt, attempts, stand, device, beginning, Legal, StartFits, First, Again}
use Rattle.std.specs.Prelude.{nat_lt, nat_le}
use Rattle.io_images.specs.declared.seek.Seek.{Seek}
use Rattle.device_port.specs.Meaning.{Lawful, fits, fits_seek}
use Rattle.device_port.specs.declared.kind.Kind.TheVariants.{Disk}
use Rattle.ccw_programs.proofs.StepLaws.{device-stays}
use Rattle.unit_book.specs.Extents.{is_extent, takes_extents, lies_within}
use Rattle.unit_book.proofs.Lists.{same-true, all-at}
use Rattle.unit_book.proofs.Facts.{fits-freely, fresh, new-name, active-is, not-true}
use Rattle.unit_book.proofs.LegalFacts.{SoundTrace, facts, first-request}
use Rattle.unit_book.proofs.Dooms.{none-pass, due-doomed}
use Rattle.std.proofs.lemmas.Grind.{common_steps}

within-fits : (cylinders heads : ℕ) (seek : Seek) (o : Option Extent) →
    ((e : Extent) → o ≡ Some e → is_extent cylinders heads e ≡ true) → lies_within heads seek o ≡ true →
    nat_lt seek.cylinder cylinders ≡ true
within-fits cylinders heads seek v3 is w = grind (arith, common_steps)

-- a seek that passes the extent check fits the device
check-fits : (cylinders heads : ℕ) (extents : List Extent) (seek : Seek) → takes_extents Disk cylinders heads extents ≡ true →
    passes_check Disk heads extents seek ≡ true → fits_seek Disk cylinders heads seek ≡ true
check-fits cylinders heads extents seek t p =
    let all = (and_parts (nat_le 1 (length extents) && nat_le (length extents) 16) (list_all (is_extent cylinders heads) extents) t).1 in
    let a = and_parts ((eqb seek.bin 0) && nat_lt seek.head heads) (lies_within heads seek (slice_get extents seek.extent)) p in
    let b = and_parts (eqb seek.bin 0) (nat_lt seek.head heads) a.0 in
    let c = within-fits cylinders heads seek (slice_get extents seek.extent)
    (λ e s. all-at (is_extent cylinders heads) extents seek.extent e all s) a.1 in grind (arith, common_steps, and_from)

not-false : (b : Bool) → not b ≡ false → b ≡ true
not-false v0 h = grind (arith, common_steps)

-- what waits where nothing is doomed is of an open DCB
pub waits-open : (r : Piece) (H : List Entry) → doomed H ≡ [] → slice_get (waiting H) 0 ≡ Some r → is_open r.dcb H ≡ true
waits-open r H d s =
    let n = not-true (is_doomed H r) (all-at (λ q. not (is_doomed H q)) (waiting H) 0 r (none-pass (is_doomed H) (waiting H) d) s) in
    not-false (is_open r.dcb H) (or_parts _ _ (or_parts _ _ n).0).0

module _ {D : Type 0} (meaning : Meaning D) (mounted : D) where
  abbrev pub SeekFits : Piece → Type 0
  SeekFits r = fits meaning mounted r.seek ≡ true

  -- the extents of a DCB are such as may be opened
  opened-takes : (d : ℕ) (H : List Entry) → Legal meaning mounted H → is_opened d H ≡ true →
      takes_extents (meaning.kind mounted) (meaning.cylinders mounted) (meaning.heads mounted) (extents_of d H) ≡ true
  unfolding Legal extents_of
  opened-takes d [] l h = absurd cc
  opened-takes d (Opened c method x ∷ H) l h = grind (arith, common_steps, opened-takes d H l.1)
  opened-takes d (_ ∷ H) l h = opened-takes d H l.1 h

  -- the first start of a request that passes the check
  pub first-fits : {n : Name} {H : List Entry} (s : StartsFirst meaning mounted n H) → SoundTrace meaning mounted H → SeekFits s.request
  first-fits {H = H} s sound =
      let r = s.request in
      let still = waits-open r H (due-doomed meaning mounted H sound.settled) s.first in
      let o = (and_parts (is_opened r.dcb H) (not (is_closed r.dcb H)) still).0 in
      by_kind (meaning.kind mounted) (opened-takes r.dcb H sound.legal o) s.passes where
        x : List Extent
        x = extents_of s.request.dcb H

        by_kind : (kind : Kind) → takes_extents kind (meaning.cylinders mounted) (meaning.heads mounted) x ≡ true →
            passes_check kind (meaning.heads mounted) x s.request.seek ≡ true →
            fits_seek kind (meaning.cylinders mounted) (meaning.heads mounted) s.request.seek ≡ true
        by_kind v0 k q = grind (arith, common_steps, check-fits, x)

  start-fits : {n : Name} {H : List Entry} → StartFits meaning mounted n H → SoundTrace meaning mounted H →
      (has_started n H ≡ true → SeekFits (request_named n H)) → SeekFits (request_named n H)
  start-fits {H = H} (First s) sound ih =
      let q = first-request H (facts meaning mounted H sound.legal) s.first s.name in rw q (first-fits s sound)
  start-fits {n} {H} (Again s) sound ih = ih (active-is n H s.active).0

  -- THE SEEK of a request that was started fits the device
  pub seeks : (H : List Entry) → Legal meaning mounted H → (n : Name) → has_started n H ≡ true → SeekFits (request_named n H)
  unfolding Legal request_named
  seeks [] l n h = absurd cc
  seeks (Arrive r ∷ H) l n h =
      let f = facts meaning mounted H l.1 in
      let new = fresh r H f (fits-freely meaning mounted (Arrive r) H refl l.0).1 in
      let s = new-name r n H new (f.0 n h) in rw s (seeks H l.1 n h)
  seeks (Start m ∷ H) l n h =
      let free = fits-freely meaning mounted (Start m) H refl l.0 in
      let ih : has_started n H ≡ true → SeekFits (request_named n H) = λ k. seeks H l.1 n k in
      let own : has_started m H ≡ true → SeekFits (request_named m H) = λ k. seeks H l.1 m k in
      elim (cases_Bool (same m n)) [
        | inl s ↦ subst (λ (x : Name). SeekFits (request_named x H)) (same-true m n s)
            (start-fits free.1 (record { legal = l.1; settled = free.0 }) own)
        | inr s ↦ ih (rw s at h)
      ]
  seeks (_ ∷ H) l n h = seeks H l.1 n h

  -- what no command and no prefix changes is as it was mounted
  pub kept-stand : {X : Type 0} (f : D → X) → ((d : D) (command : ℕ) (bytes : List ℕ) → f (meaning.act d command bytes).device ≡ f d) →
      ((d : D) (seek : Seek) (mask : ℕ) → f (meaning.prefix d seek mask) ≡ f d) → (rest : List Attempt) →
      f (stand meaning mounted rest).device ≡ f mounted
  unfolding stand
  kept-stand f act prefix [] = refl
  kept-stand f act prefix (a ∷ rest) =
      device-stays meaning f act a.commands (beginning meaning mounted (stand meaning mounted rest) a)
      ∙ prefix (stand meaning mounted rest).device a.request.seek a.mask ∙ kept-stand f act prefix rest

  -- a seek fits the device of a trace if it fitted the one that was mounted
  pub fits-device : Lawful meaning → (H : List Entry) (seek : Seek) → fits meaning mounted seek ≡ true →
      fits meaning (device meaning mounted H) seek ≡ true
  fits-device law H seek h =
      let kind = kept-stand meaning.kind law.kind_after_act law.kind_after_prefix (attempts H) in
      let cylinders = kept-stand meaning.cylinders law.cylinders_after_act law.cylinders_after_prefix (attempts H) in
      let heads = kept-stand meaning.heads law.heads_after_act law.heads_after_prefix (attempts H) in
      rw (kind, cylinders, heads) h
