-- A book begins again: the openings and closes of a trace say of the DCBs what it says, but for their flags, and nothing else.
use Rattle.unit_book.proofs.Names.{BookFields, ◌≡◌, ℕ, suc, ◌+◌, ◌||◌, true, false, not, Option, Some, None, List, [], ◌∷◌, length, refl}
use Rattle.unit_book.proofs.Names.{sym, ap, ◌∙◌, eqb, inl, inr, if◌then◌else◌, cases_Bool, filter, list_any, Meaning, Phase}
use Rattle.unit_book.proofs.Names.{Active, Dcb, Entry, Opened, Close, has_started, is_posted, waiting, arrivals, active, started}
use Rattle.unit_book.proofs.Names.{is_opened, is_closed, opened_count, extents_of, flag, is_doomed, attempts, stand, device}
use Rattle.unit_book.proofs.Names.{doomed_first, Free, due, Legal, posted, ActivityTies, Ties, dcb_at, dcb_of}
use Rattle.std.specs.List.{find}
use Rattle.device_port.specs.FixedSize.{KeepsSize}
use Rattle.device_port.specs.Meaning.{Lawful}
use Rattle.unit_book.specs.Trace.{opens_for_input}
use Rattle.unit_book.specs.Fields.{unflagged}
use Rattle.unit_book.specs.Renewal.{openings_and_closes}
use Rattle.unit_book.proofs.Dooms.{due-no_halt}
use Rattle.unit_book.proofs.Facts.{fits-freely}
use Rattle.unit_book.proofs.Same.{fits-free}
use Rattle.unit_book.proofs.Seeks.{kept-stand}

pub some-is : {X : Type 0} (x y : X) → Some x ≡ Some y → x ≡ y
some-is x y e = cc

opened-kept : (d : ℕ) (H : List Entry) → is_opened d (openings_and_closes H) ≡ is_opened d H
opened-kept d [] = refl
opened-kept d (Opened c method x ∷ H) = ap (λ b. eqb c d || b) (opened-kept d H)
opened-kept d (Close c ∷ H) = opened-kept d H
opened-kept d (_ ∷ H) = opened-kept d H

closed-kept : (d : ℕ) (H : List Entry) → is_closed d (openings_and_closes H) ≡ is_closed d H
closed-kept d [] = refl
closed-kept d (Opened c method x ∷ H) = closed-kept d H
closed-kept d (Close c ∷ H) = ap (λ b. eqb c d || b) (closed-kept d H)
closed-kept d (_ ∷ H) = closed-kept d H

count-kept : (H : List Entry) → opened_count (openings_and_closes H) ≡ opened_count H
count-kept [] = refl
count-kept (Opened c method x ∷ H) = ap suc (count-kept H)
count-kept (Close c ∷ H) = count-kept H
count-kept (_ ∷ H) = count-kept H

input-kept : (d : ℕ) (H : List Entry) → list_any (opens_for_input d) (openings_and_closes H) ≡ list_any (opens_for_input d) H
input-kept d [] = refl
input-kept d (Opened c method x ∷ H) = ap (λ b. opens_for_input d (Opened c method x) || b) (input-kept d H)
input-kept d (Close c ∷ H) = input-kept d H
input-kept d (_ ∷ H) = input-kept d H

extents-kept : (d : ℕ) (H : List Entry) → extents_of d (openings_and_closes H) ≡ extents_of d H
unfolding extents_of
extents-kept d [] = refl
extents-kept d (Opened c method x ∷ H) = ap (λ y. if eqb c d then x else y) (extents-kept d H)
extents-kept d (Close c ∷ H) = extents-kept d H
extents-kept d (_ ∷ H) = extents-kept d H

no-flags : (d : ℕ) (H : List Entry) → flag d (openings_and_closes H) ≡ false
unfolding flag
no-flags d [] = refl
no-flags d (Opened c method x ∷ H) = no-flags d H
no-flags d (Close c ∷ H) = no-flags d H
no-flags d (_ ∷ H) = no-flags d H

none-arrived : (H : List Entry) → arrivals (openings_and_closes H) ≡ []
unfolding arrivals
none-arrived [] = refl
none-arrived (Opened c method x ∷ H) = none-arrived H
none-arrived (Close c ∷ H) = none-arrived H
none-arrived (_ ∷ H) = none-arrived H

none-started : (H : List Entry) → started (openings_and_closes H) ≡ []
unfolding started
none-started [] = refl
none-started (Opened c method x ∷ H) = none-started H
none-started (Close c ∷ H) = none-started H
none-started (_ ∷ H) = none-started H

none-attempted : (H : List Entry) → attempts (openings_and_closes H) ≡ []
unfolding attempts
none-attempted [] = refl
none-attempted (Opened c method x ∷ H) = none-attempted H
none-attempted (Close c ∷ H) = none-attempted H
none-attempted (_ ∷ H) = none-attempted H

pub none-waits : (H : List Entry) → waiting (openings_and_closes H) ≡ []
unfolding waiting
none-waits H =
    ap (filter (λ r. not (has_started r.name (openings_and_closes H) || is_posted r.name (openings_and_closes H)))) (none-arrived H)

pub none-active : (H : List Entry) → active (openings_and_closes H) ≡ None
unfolding active
none-active H = ap (find (λ n. not (is_posted n (openings_and_closes H)))) (none-started H)

dcb-kept : (d : ℕ) (H : List Entry) → dcb_of d (openings_and_closes H) ≡ unflagged true (dcb_of d H)
dcb-kept d H = elim (cases_Bool (is_opened d H)) [
  | inl o ↦ rw (opened-kept d H, closed-kept d H, input-kept d H, extents-kept d H, no-flags d H, o) refl
  | inr o ↦ rw (opened-kept d H, o) refl
]

module _ {D : Type 0} (meaning : Meaning D) (mounted : D) where
  pub none-posted : (H : List Entry) → posted meaning mounted (openings_and_closes H) ≡ []
  unfolding posted
  none-posted [] = refl
  none-posted (Opened c method x ∷ H) = none-posted H
  none-posted (Close c ∷ H) = none-posted H
  none-posted (_ ∷ H) = none-posted H

  pub nothing-due : (H : List Entry) → due meaning mounted (openings_and_closes H) ≡ Free
  nothing-due H =
      let G = openings_and_closes H in
      due-no_halt meaning mounted G (λ n a. let k = sym (none-active H) ∙ a in absurd cc)
      ∙ ap (λ rs. doomed_first (filter (is_doomed G) rs)) (none-waits H)

  device-mounted : (H : List Entry) → device meaning mounted (openings_and_closes H) ≡ mounted
  unfolding stand
  device-mounted H = ap (λ a. (stand meaning mounted a).device) (none-attempted H)

module _ {D : Type 0} (meaning : Meaning D) (lawful : Lawful meaning) (mounted : D) where
  -- THE OPENINGS AND CLOSES are legal on the device of any trace
  legal-kept : (G H : List Entry) → Legal meaning mounted H → Legal meaning (device meaning mounted G) (openings_and_closes H)
  unfolding Legal
  legal-kept G [] l = tt
  legal-kept G (Opened c method x ∷ H) l =
      let f = (fits-freely meaning mounted (Opened c method x) H refl l.0).1 in
      let kind = kept-stand meaning mounted meaning.kind lawful.kind_after_act lawful.kind_after_prefix (attempts G) in
      let cylinders = kept-stand meaning mounted meaning.cylinders lawful.cylinders_after_act lawful.cylinders_after_prefix (attempts G) in
      let heads = kept-stand meaning mounted meaning.heads lawful.heads_after_act lawful.heads_after_prefix (attempts G) in
      let now = device meaning mounted G in (
        fits-free meaning now (Opened c method x) (openings_and_closes H) (nothing-due meaning now H)
            (record { next = f.next ∙ ap (λ n. n + 1) (sym (count-kept H)); few = f.few; taken = rw (kind, cylinders, heads) f.taken }),
        legal-kept G H l.1,
      )
  legal-kept G (Close c ∷ H) l =
      let f = (fits-freely meaning mounted (Close c) H refl l.0).1 in
      let now = device meaning mounted G in (
        fits-free meaning now (Close c) (openings_and_closes H) (nothing-due meaning now H) (rw (opened-kept c H, closed-kept c H) f),
        legal-kept G H l.1,
      )
  legal-kept G (_ ∷ H) l = legal-kept G H l.1

  -- the subchannel and the place of the active request, if nothing is active
  activity-kept : (H : List Entry) (phase : Phase) (o : Option Active) → active H ≡ None → ActivityTies meaning mounted H phase o →
      ActivityTies meaning (device meaning mounted H) (openings_and_closes H) phase o
  activity-kept H phase None none t = (none-active H, t.1)
  activity-kept H phase (Some a) none t = let k = sym none ∙ t.is in absurd cc

  -- THE FIELDS are those of the openings and closes
  pub ties-renewed : {held : BookFields D} {o : Option Active} {rows : List Dcb} → waiting held.trace ≡ [] → active held.trace ≡ None →
      held.out ≡ [] → ((d : ℕ) → dcb_at rows d ≡ unflagged true (dcb_at held.dcbs d)) → length rows ≡ length held.dcbs →
      Ties meaning mounted held o →
      Ties meaning (device meaning mounted held.trace) (record held { trace = openings_and_closes held.trace; dcbs = rows }) o
  ties-renewed {held} {o} {rows} waits idle out same count t =
      let now = device meaning mounted held.trace in
      record {
        legal = legal-kept held.trace held.trace t.legal;
        queue = t.queue ∙ waits ∙ sym (none-waits held.trace);
        placed = t.placed;
        device = t.device ∙ ap Some (sym (device-mounted meaning now held.trace));
        activity = activity-kept held.trace held.channel.phase o idle t.activity;
        count = count ∙ t.count ∙ sym (count-kept held.trace);
        dcbs = λ d. same d ∙ ap (unflagged true) (t.dcbs d) ∙ sym (dcb-kept d held.trace);
        out = ([], out ∙ sym (none-posted meaning now held.trace));
      }

module _ {D : Type 0} (meaning : Meaning D) (mounted : D) where
  -- THE SIZE of the device stays
  pub size-kept : {size : D → List ℕ} → KeepsSize meaning size → (H : List Entry) → size mounted ≡ size (device meaning mounted H)
  size-kept {size} keeps H = sym (kept-stand meaning mounted size keeps.after_act keeps.after_prefix (attempts H))
