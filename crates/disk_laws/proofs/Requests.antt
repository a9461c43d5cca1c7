-- What no request of a legal trace does to a disk.
use Rattle.std.proofs.Common.{◌≡◌, ◌≢◌, ℕ, zero, suc, ◌+◌, Bool, true, false, ◌&&◌, Option, Some, None, List, [], ◌∷◌, refl}
use Rattle.std.proofs.Common.{sym, ap, ◌∙◌, subst, eqb, inl, inr}
use Rattle.std.specs.Prelude.{nat_le, nat_lt, slice_get}
use Rattle.std.specs.List.{list_any}
use Rattle.std.proofs.lemmas.Bool.{cases_Bool, or_parts, and_parts}
use Rattle.io_area.specs.Storage.{Storage}
use Rattle.io_images.specs.declared.extent.Extent.{Extent}
use Rattle.io_images.specs.declared.seek.Seek.{Seek}
use Rattle.device_port.specs.Meaning.{Meaning, Lawful}
use Rattle.device_port.specs.declared.kind.Kind.TheVariants.{Disk}
use Rattle.ckd_disk.specs.Track.{TrackState}
use Rattle.ckd_disk.specs.Disk.{track_of, disk}
use Rattle.ckd_disk.specs.DiskLaws.{disk_lawful}
use Rattle.any_device.specs.Devices.{any_device, any_device_lawful}
use Rattle.ccw_programs.specs.Step.{begun, after}
use Rattle.request_piece.specs.declared.piece.Name.{Name}
use Rattle.request_piece.specs.declared.piece.Piece.{Piece}
use Rattle.unit_book.specs.declared.dcb.ProcessingMethod.{ProcessingMethod}
use Rattle.unit_book.specs.declared.dcb.ProcessingMethod.TheVariants.{Input, Output}
use Rattle.unit_book.specs.declared.entry.Entry.{Entry}
use Rattle.unit_book.specs.declared.entry.Entry.TheVariants.{Opened, Start, Ran}
use Rattle.unit_book.specs.Trace.{same, active, request_named}
use Rattle.unit_book.specs.Extents.{track, first_track, last_track, passes_check, lies_within}
use Rattle.unit_book.specs.Dcbs.{extents_of, opened_for, mask_of}
use Rattle.unit_book.specs.Legal.{Legal, passes}
use Rattle.unit_book.specs.Media.{Attempt, attempts, lengthened, stand, device}
use Rattle.unit_book.proofs.Lists.{same-is}
use Rattle.unit_book.proofs.Facts.{fits-freely}
use Rattle.unit_book.proofs.Starts.{device-start}
use Rattle.disk_laws.specs.Views.{View, disk_view, unit_view}
use Rattle.disk_laws.specs.Laws.{lies_in_any, opens_over, is_run, seek_track, device_left, ConfinesPrograms, ConfinesRequests}
use Rattle.disk_laws.proofs.Attempts.{admitted, newest-admits, kept-stand}
use Rattle.disk_laws.proofs.Programs.{disk-confined, unit-confined, prefix-tracks}

-- ---- extents

abbrev within : ℕ → ℕ → Extent → Bool
within heads number e = nat_le (first_track heads e) number && nat_le number (last_track heads e)

any-at : (p : Extent → Bool) (xs : List Extent) (k : ℕ) (e : Extent) → slice_get xs k ≡ Some e → list_any p xs ≡ false → p e ≡ false
any-at p [] k e s h = absurd cc
any-at p (x ∷ xs) zero e s h =
    let i : x ≡ e = cc in subst (λ y. p y ≡ false) i (or_parts (p x) (list_any p xs) h).0
any-at p (x ∷ xs) (suc k) e s h = any-at p xs k e s (or_parts (p x) (list_any p xs) h).1

-- the track of a seek address that passes the check is in an extent
apart : (heads : ℕ) (extents : List Extent) (seek : Seek) (number : ℕ) → passes_check Disk heads extents seek ≡ true →
    lies_in_any heads extents number ≡ false → number ≢ track heads seek.cylinder seek.head
apart heads extents seek number passed out is = by_extent (slice_get extents seek.extent) refl in_extent where
  in_extent : lies_within heads seek (slice_get extents seek.extent) ≡ true
  in_extent = (and_parts ((eqb seek.bin 0) && nat_lt seek.head heads) (lies_within heads seek (slice_get extents seek.extent)) passed).1

  by_extent : (o : Option Extent) → slice_get extents seek.extent ≡ o → lies_within heads seek o ≡ true → ⊥
  by_extent None e h = absurd cc
  by_extent (Some x) e h =
      let k : within heads number x ≡ true = rw is h in
      let n = any-at (within heads number) extents seek.extent x e out in
      absurd cc

-- no extent of a DCB that was opened for output is one of these
none-over : (heads number d : ℕ) (H : List Entry) → list_any (opens_over heads number) H ≡ false → opened_for d H ≡ Output →
    lies_in_any heads (extents_of d H) number ≡ false
unfolding extents_of
none-over heads number d [] h o = refl
none-over heads number d (Opened c Input x ∷ H) h o =
    elim (cases_Bool (eqb c d)) [
      | inl e ↦ let o' = rw e at o in absurd cc
      | inr e ↦ let o' = rw e at o in rw e (none-over heads number d H h o')
    ]
none-over heads number d (Opened c Output x ∷ H) h o =
    let p = or_parts (lies_in_any heads x number) (list_any (opens_over heads number) H) h in
    elim (cases_Bool (eqb c d)) [
      | inl e ↦ rw e p.0
      | inr e ↦ let o' = rw e at o in rw e (none-over heads number d H p.1 o')
    ]
none-over heads number d (_ ∷ H) h o = none-over heads number d H h o

module _ {D : Type 0} (meaning : Meaning D) (view : View D) (law : Lawful meaning) (programs : ConfinesPrograms meaning view)
    (tracks : (d : D) (seek : Seek) (mask : ℕ) → view.tracks (meaning.prefix d seek mask) ≡ view.tracks d) (mounted : D) where
  -- the device before the newest attempt of the active request, and the device of the trace, before and after more commands
  record Reached (n : Name) (H : List Entry) : Type 0 where
    method : ProcessingMethod
    method_is : method ≡ opened_for (request_named n H).dcb H
    before : D
    start : ℕ
    area : Storage
    commands : ℕ
    kind : meaning.kind before ≡ meaning.kind mounted
    heads : meaning.heads before ≡ meaning.heads mounted
    now : device meaning mounted H ≡ device_left meaning method before (request_named n H).seek start area commands
    later : (j : ℕ) → device meaning mounted (Ran n j ∷ H) ≡
        device_left meaning method before (request_named n H).seek start area (commands + j)

  reached : (n : Name) (H : List Entry) → Legal meaning mounted H → active H ≡ Some n → Reached n H
  unfolding stand attempts
  reached n H l h =
      let w = newest-admits meaning mounted n H l h in
      let a = w.newest in
      let s = stand meaning mounted w.rest in
      let to = (request_named n H).seek in
      let mask = mask_of (request_named n H).dcb H in
      let seek : a.request.seek ≡ to = ap (λ (r : Piece). r.seek) w.request in
      let own : same a.request.name n ≡ true = same-is a.request.name n (ap (λ (r : Piece). r.name) w.request ∙ w.name) in
      let left : Seek → ℕ → ℕ → D =
      λ x m c. (after meaning c (begun a.request.start (meaning.prefix s.device x m) (s.area a.request))).device in
      let left_is : (c : ℕ) → left a.request.seek a.mask c ≡ left to mask c =
      λ c. ap (λ x. left x a.mask c) seek ∙ ap (λ m. left to m c) w.admits.1 in
      let longer : (j : ℕ) →
      lengthened n j (a ∷ w.rest) ≡ record { request = a.request; mask = a.mask; commands = a.commands + j } ∷ w.rest = λ j. rw own refl in
      let look : List Attempt → D = λ ts. (stand meaning mounted ts).device in
      record {
        method = opened_for (request_named n H).dcb H;
        method_is = refl;
        before = s.device;
        start = a.request.start;
        area = s.area a.request;
        commands = a.commands;
        kind = kept-stand meaning mounted meaning.kind law.kind_after_act law.kind_after_prefix w.rest;
        heads = kept-stand meaning mounted meaning.heads law.heads_after_act law.heads_after_prefix w.rest;
        now = ap look w.is ∙ left_is a.commands;
        later = λ j. ap look (ap (lengthened n j) w.is ∙ longer j) ∙ left_is (a.commands + j);
      }

  ran : (n : Name) (j : ℕ) (H : List Entry) → Legal meaning mounted (Ran n j ∷ H) → Reached n H
  unfolding Legal
  ran n j H l = reached n H l.1 (fits-freely meaning mounted (Ran n j) H refl l.0).1.active

  keeps-position : (n : Name) (H : List Entry) → meaning.kind mounted ≡ Disk → Legal meaning mounted H → active H ≡ Some n →
      view.position (device meaning mounted H) ≡ seek_track meaning mounted (request_named n H).seek
  keeps-position n H k l h =
      let r = reached n H l h in
      let s = (request_named n H).seek in
      ap view.position r.now ∙ programs.stays r.method r.before s r.start r.area r.commands (r.kind ∙ k)
      ∙ ap (λ heads. track heads s.cylinder s.head) r.heads

  keeps-others : (n : Name) (j : ℕ) (H : List Entry) → Legal meaning mounted (Ran n j ∷ H) → (number : ℕ) →
      number ≢ seek_track meaning mounted (request_named n H).seek →
      track_of (view.tracks (device meaning mounted (Ran n j ∷ H))) number ≡ track_of (view.tracks (device meaning mounted H)) number
  keeps-others n j H l number off =
      let r = ran n j H l in
      let s = (request_named n H).seek in
      let off' : number ≢ seek_track meaning r.before s = rw r.heads off in
      let look : D → TrackState = λ d. track_of (view.tracks d) number in
      ap look (r.later j) ∙ programs.others r.method r.before s r.start r.area (r.commands + j) number off'
      ∙ sym (ap look r.now ∙ programs.others r.method r.before s r.start r.area r.commands number off')

  keeps-input : (n : Name) (j : ℕ) (H : List Entry) → Legal meaning mounted (Ran n j ∷ H) → opened_for (request_named n H).dcb H ≡ Input →
      view.tracks (device meaning mounted (Ran n j ∷ H)) ≡ view.tracks (device meaning mounted H)
  keeps-input n j H l o =
      let r = ran n j H l in
      let s = (request_named n H).seek in
      let m : r.method ≡ Input = r.method_is ∙ o in
      let after : (c : ℕ) → view.tracks (device_left meaning r.method r.before s r.start r.area c) ≡ view.tracks r.before =
      λ c. rw m (programs.input r.before s r.start r.area c) in
      ap view.tracks (r.later j) ∙ after (r.commands + j) ∙ sym (ap view.tracks r.now ∙ after r.commands)

  passed : (n : Name) (H : List Entry) → Legal meaning mounted (Start n ∷ H) → passes meaning mounted (request_named n H) H ≡ true
  unfolding attempts extents_of request_named
  passed n H l = (admitted meaning mounted (Start n ∷ H) l).0.2

  ran-passed : (n : Name) (j : ℕ) (H : List Entry) → Legal meaning mounted (Ran n j ∷ H) →
      passes meaning mounted (request_named n H) H ≡ true
  unfolding Legal
  ran-passed n j H l =
      (newest-admits meaning mounted n H l.1 (fits-freely meaning mounted (Ran n j) H refl l.0).1.active).admits.2

  keeps-outside : (n : Name) (j : ℕ) (H : List Entry) → meaning.kind mounted ≡ Disk → Legal meaning mounted (Ran n j ∷ H) → (number : ℕ) →
      lies_in_any (meaning.heads mounted) (extents_of (request_named n H).dcb H) number ≡ false →
      track_of (view.tracks (device meaning mounted (Ran n j ∷ H))) number ≡ track_of (view.tracks (device meaning mounted H)) number
  keeps-outside n j H k l number out =
      let r = request_named n H in
      keeps-others n j H l number
      (apart (meaning.heads mounted) (extents_of r.dcb H) r.seek number (rw k at (ran-passed n j H l)) out)

  keeps-unrun : (e : Entry) (H : List Entry) → is_run e ≡ false →
      view.tracks (device meaning mounted (e ∷ H)) ≡ view.tracks (device meaning mounted H)
  unfolding attempts
  keeps-unrun (Ran n j) H h = absurd cc
  keeps-unrun (Start n) H h = ap view.tracks (device-start meaning mounted n H) ∙ tracks _ _ _
  keeps-unrun _ H h = refl

  untouched : (H : List Entry) → meaning.kind mounted ≡ Disk → Legal meaning mounted H → (number : ℕ) →
      list_any (opens_over (meaning.heads mounted) number) H ≡ false →
      track_of (view.tracks (device meaning mounted H)) number ≡ track_of (view.tracks mounted) number
  unfolding Legal attempts stand
  untouched [] k l number none = refl
  untouched (Ran n j ∷ H) k l number none = by_method (opened_for (request_named n H).dcb H) refl ∙ untouched H k l.1 number none where
    by_method : (method : ProcessingMethod) → opened_for (request_named n H).dcb H ≡ method →
        track_of (view.tracks (device meaning mounted (Ran n j ∷ H))) number ≡ track_of (view.tracks (device meaning mounted H)) number
    by_method Input o = ap (λ t. track_of t number) (keeps-input n j H l o)
    by_method Output o = keeps-outside n j H k l number (none-over (meaning.heads mounted) number (request_named n H).dcb H none o)
  untouched (e ∷ H) k l number none =
      ap (λ t. track_of t number) (keeps-unrun e H refl)
      ∙ untouched H k l.1 number (or_parts (opens_over (meaning.heads mounted) number e) _ none).1

module _ {D : Type 0} (meaning : Meaning D) (view : View D) (law : Lawful meaning) (programs : ConfinesPrograms meaning view)
    (tracks : (d : D) (seek : Seek) (mask : ℕ) → view.tracks (meaning.prefix d seek mask) ≡ view.tracks d) where
  confined : ConfinesRequests meaning view
  confined = record {
    checked = passed meaning view law programs tracks;
    stays = keeps-position meaning view law programs tracks;
    unrun = keeps-unrun meaning view law programs tracks;
    others = keeps-others meaning view law programs tracks;
    outside = keeps-outside meaning view law programs tracks;
    input = keeps-input meaning view law programs tracks;
    untouched = untouched meaning view law programs tracks;
  }

pub disk-requests_confined : ConfinesRequests disk disk_view
disk-requests_confined = confined disk disk_view disk_lawful disk-confined (λ d seek mask. refl)

pub unit-requests_confined : ConfinesRequests any_device unit_view
unit-requests_confined = confined any_device unit_view any_device_lawful unit-confined prefix-tracks
