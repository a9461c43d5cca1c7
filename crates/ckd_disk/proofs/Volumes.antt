-- The walk over the records of a track, and the tracks of a volume.
use Rattle.std.proofs.Common.{◌≡◌, ℕ, ◌+◌, ◌*◌, ◌<◌, ◌≤◌, Bool, true, false, List, [], ◌∷◌, ◌++◌, length, get_or, take, drop, replicate, ◌-◌}
use Rattle.std.proofs.Common.{refl, sym, ap, subst, ◌∙◌, append_assoc, arith, inl, inr, Err}
use Rattle.std.specs.List.{AllByRecursion}
use Rattle.std.proofs.lemmas.Bool.{cases_lt}
use Rattle.std.proofs.lemmas.Bool.Decides.{Decides-eqb}
use Rattle.std.proofs.lemmas.List.{length-append, length-take-le, take-append-drop, take_at, get_or-take, get_or_past, get_or-append_right, append-nil, take_all, length-replicate}
use Rattle.std.proofs.lemmas.Slice.Eq.{starts_is}
use Rattle.device_port.specs.Packed.{image_of, items_at, HoldsItems}
use Rattle.device_port.proofs.Items.{Packs, held-packs, packs-held, image_of-push, image_of-wide}
use Rattle.ckd_disk.specs.Record.{Record, ckd, packed, size_at, record_at, IsRecord, FitsCountArea}
use Rattle.ckd_disk.specs.Track.{bytes_of}
use Rattle.ckd_disk.specs.Volume.{VolumeState, end_mark, is_end, record_room, IsTrack, Stops, RecordsTrack, has_room}
use Rattle.ckd_disk.specs.VolumeFacts.{IsExtent}
use Rattle.ckd_disk.specs.declared.volume.VolumeError.{VolumeError}
use Rattle.ckd_disk.specs.declared.volume.VolumeError.TheVariants as volume
use Rattle.ckd_disk.proofs.Tracks.{Kept, kept, packed-wide}
use Rattle.ckd_disk.proofs.Packing.{IsBytes, reads, Fits-record_at, packed-record_at}

pushed : (l : List Record) (r : Record) → AllByRecursion FitsCountArea l → FitsCountArea r → AllByRecursion FitsCountArea (l ++ r ∷ [])
pushed [] r all fit = (fit, tt)
pushed (x ∷ l) r all fit = (all.0, pushed l r all.1 fit)

-- how far a walk has come: `count` records take the first `used` bytes, and `rest` follows them
pub record Walked (size : ℕ) (bytes rest : List ℕ) (used count : ℕ) : Type 0 where
  pub records : List Record
  pub fits : AllByRecursion FitsCountArea records
  pub parts : bytes ≡ image_of ckd records ++ rest
  pub taken : used ≡ bytes_of records
  pub counted : count ≡ length records
  pub within : used ≤ record_room size bytes

pub walk_start : (size : ℕ) (bytes rest : List ℕ) → rest ≡ bytes → Walked size bytes rest 0 0
walk_start size bytes rest e =
    record { records = []; fits = tt; parts = sym e; taken = refl; counted = refl; within = omega arith }

-- the record that bytes begin with
is_bytes-take : (n : ℕ) (bytes : List ℕ) → IsBytes bytes → n ≤ length bytes → IsBytes (take n bytes)
is_bytes-take n bytes fits le i = elim (cases_lt i n) [
  | inl lt ↦ omega (arith, get_or-take n bytes i 0 lt, fits i)
  | inr ge ↦ omega (arith, get_or_past (take n bytes) i 0 (omega (arith, length-take-le n bytes le, ge)))
]

is_bytes-rest : (front rest bytes : List ℕ) → bytes ≡ front ++ rest → IsBytes bytes → IsBytes rest
is_bytes-rest front rest bytes e fits i =
    let here : get_or bytes (length front + i) 0 ≡ get_or rest i 0 =
    ap (λ (l : List ℕ). get_or l (length front + i) 0) e
    ∙ get_or-append_right front rest (length front) (length front + i) 0 refl (omega arith)
    ∙ ap (λ (n : ℕ). get_or rest n 0) (omega arith) in
    omega (arith, here, fits (length front + i))

size_at-take : (n : ℕ) (bytes : List ℕ) → 8 ≤ n → size_at (take n bytes) ≡ size_at bytes
size_at-take n bytes wide =
    omega (arith, get_or-take n bytes 5 0 (omega arith), get_or-take n bytes 6 0 (omega arith), get_or-take n bytes 7 0 (omega arith))

pub walk_more : (size : ℕ) (bytes rest behind : List ℕ) (used count len : ℕ) → Walked size bytes rest used count → IsBytes bytes
    → len ≡ size_at rest → used + len ≤ record_room size bytes → behind ≡ drop len rest →
    Walked size bytes behind (used + len) (count + 1)
walk_more size bytes rest behind used count len w all-fit len-is room behind-is =
    let fits : IsBytes rest = is_bytes-rest (image_of ckd w.records) rest bytes w.parts all-fit in
    let whole : used + length rest ≡ length bytes =
    omega (arith, ap length w.parts, length-append (image_of ckd w.records) rest, w.taken) in
    let long : len ≤ length rest = omega arith in
    let first = take len rest in
    let first-len : length first ≡ len = length-take-le len rest long in
    let first-fits = is_bytes-take len rest fits long in
    let is-record : IsRecord first = first-len ∙ len-is ∙ sym (size_at-take len rest (omega arith)) in
    let r = record_at first in
    let packed-is : packed r ≡ first = packed-record_at first first-fits is-record in
    let push : image_of ckd (w.records ++ r ∷ []) ≡ image_of ckd w.records ++ first =
    image_of-push ckd w.records r ∙ ap (λ (l : List ℕ). image_of ckd w.records ++ l) packed-is in
    record {
      records = w.records ++ r ∷ [];
      fits = pushed w.records r w.fits (Fits-record_at first first-fits is-record);
      parts = w.parts ∙ ap (λ (l : List ℕ). image_of ckd w.records ++ l) (sym (take-append-drop len rest))
          ∙ sym (append_assoc (image_of ckd w.records) first (drop len rest))
          ∙ ap (λ (l : List ℕ). l ++ drop len rest) (sym push)
          ∙ ap (λ (l : List ℕ). image_of ckd (w.records ++ r ∷ []) ++ l) (sym behind-is);
      taken = omega (arith, w.taken, ap length push, length-append (image_of ckd w.records) first, first-len);
      counted = omega (arith, w.counted, length-append w.records (r ∷ []));
      within = room;
    }

-- how many records there are at most
pub walk_few : (size : ℕ) (bytes rest : List ℕ) (used count : ℕ) → Walked size bytes rest used count → count * 8 ≤ used
walk_few size bytes rest used count w = omega (arith, w.taken, w.counted, image_of-wide ckd 8 w.records packed-wide w.fits)

-- a record that does not fit
pub walk_past : (size : ℕ) (bytes rest : List ℕ) (used count : ℕ) (ends : Bool) → Walked size bytes rest used count →
    ends ≡ is_end rest → ends ≡ false → used + 8 ≤ record_room size bytes → record_room size bytes < used + size_at rest →
    Stops size bytes (volume.PastTrack used)
walk_past size bytes rest used count ends w is not-yet wide past = (
  record {
    records = w.records;
    rest = rest;
    fits = w.fits;
    parts = w.parts;
    taken = w.taken;
    within = w.within;
    unended = sym is ∙ not-yet;
  },
  wide,
  past,
)

-- a walk that ends
pub walk_ended : (size : ℕ) (bytes rest : List ℕ) (used count : ℕ) (ends : Bool) → Walked size bytes rest used count →
    ends ≡ is_end rest → ends ≡ true → 0 < count → IsExtent size bytes used count
walk_ended size bytes rest used count ends w is ended some =
    let image = image_of ckd w.records in
    let rest-is : rest ≡ end_mark ++ drop 8 rest = (starts_is Decides-eqb rest end_mark ends is).0 ended in
    let front : take used bytes ≡ image = ap (take used) w.parts ∙ take_at image rest used (sym w.taken) in
    let whole : used + length rest ≡ length bytes = omega (arith, ap length w.parts, length-append image rest, w.taken) in
    let packs : Packs ckd w.records (take used bytes) used count = record {
      unused = [];
      parts = front ∙ sym (append-nil image);
      fits = w.fits;
      taken = w.taken;
      counted = w.counted;
    } in
    let held = held-packs ckd reads w.records (take used bytes) used count packs in
    let track : IsTrack size bytes w.records = record {
      fits = w.fits;
      some = omega (arith, w.counted, some);
      within = omega (arith, w.taken, w.within);
      rest = drop 8 rest;
      parts = w.parts ∙ ap (λ (l : List ℕ). image ++ l) rest-is;
    } in
    record {
      track = subst (λ (l : List Record). IsTrack size bytes l) (sym held.1) track;
      held = held.0;
      short = omega (arith, w.within);
      within = omega arith;
    }

-- ---- a track made of packed records

pub recorded_kept : (bytes image : List ℕ) (size count : ℕ) → HoldsItems ckd bytes (length bytes) count → length bytes ≤ size →
    image ≡ take size bytes ++ replicate (size - length bytes) 0
    → Kept (record { size = size; records = items_at ckd count bytes }) image (length bytes) count
recorded_kept bytes image size count h le image-is =
    let zeros : List ℕ = replicate (size - length bytes) 0 in
    let many : length zeros ≡ size - length bytes = length-replicate (size - length bytes) 0 in
    let whole : image ≡ bytes ++ zeros = image-is ∙ ap (λ (l : List ℕ). l ++ zeros) (take_all size bytes le) in
    let p = packs-held ckd bytes (length bytes) count h in
    kept (record { size = size; records = items_at ckd count bytes }) image (length bytes) count (record {
      packs = record {
        unused = p.unused ++ zeros;
        parts = whole ∙ ap (λ (l : List ℕ). l ++ zeros) p.parts ∙ append_assoc (image_of ckd (items_at ckd count bytes)) p.unused zeros;
        fits = p.fits;
        taken = p.taken;
        counted = p.counted;
      };
      size = omega (arith, ap length whole, length-append bytes zeros, many);
    })

-- why a track is not recorded
pub stopped : (v after : VolumeState) (bytes : List ℕ) (error : VolumeError) → has_room v ≡ true → Stops v.track_bytes bytes error →
    RecordsTrack v bytes after (Err error)
stopped v after bytes volume.BadHeads room never = absurd never
stopped v after bytes volume.BadTrackBytes room never = absurd never
stopped v after bytes volume.TooManyTracks room never = absurd never
stopped v after bytes volume.NoRecord room why = (room, why)
stopped v after bytes (volume.NoEndMark at) room why = (room, why)
stopped v after bytes (volume.PastTrack at) room why = (room, why)
stopped v after bytes volume.NoMemory room never = absurd never
