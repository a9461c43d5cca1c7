-- The bytes of a disk that are written.
use Rattle.std.proofs.Common.{◌≡◌, ℕ, zero, suc, ◌+◌, ◌-◌, ◌%◌, ◌<◌, ◌≤◌, Bool, true, ◌&&◌, cond, nat_lt, List, [], ◌∷◌, ◌++◌, length, take, map, replicate, min, Ok}
use Rattle.std.proofs.KnownBytes.{Appends-trans}
use Rattle.std.proofs.Common.{Option, Result, refl, sym, ap, subst, ◌∙◌, append_assoc, arith, inl, inr}
use Rattle.std.specs.Io.KnownBytes.{Appends}
use Rattle.std.specs.List.{AllByRecursion, range_with_len}
use Rattle.std.specs.Str.{bytes_eq}
use Rattle.std.proofs.lemmas.Bool.{cases_lt}
use Rattle.std.proofs.lemmas.Bool.Decides.{nat_tests}
use Rattle.std.proofs.lemmas.Slice.Eq.{bytes_eq-Decides}
use Rattle.std.proofs.lemmas.List.{append-nil, take_all, take_at, take-replicate, length-take, take_more}
use Rattle.std.proofs.lemmas.List.FromFn.{get_or-map-range_with_len, length-map-range_with_len}
use Rattle.device_port.specs.Packed.{image_of}
use Rattle.ckd_disk.specs.Record.{ckd}
use Rattle.ckd_disk.specs.Track.{TrackState}
use Rattle.ckd_disk.specs.Disk.{DiskState, no_track, track_of}
use Rattle.ckd_disk.specs.Volume.{VolumeState, is_whole, end_mark}
use Rattle.ckd_image.specs.declared.fault.CkdError.{CkdError}
use Rattle.ckd_image.specs.declared.format.Format.{Format}
use Rattle.ckd_image.specs.Image.{KeptState, plain, kept_at, tracks_file, track_file, file_of, IsRecorded, IsImage}
use Rattle.ckd_image.specs.Header.{format_of}
use Rattle.ckd_image.specs.Saving.{format_on, track_bytes_with, kept_now, image_on, volume_on, IsAsRead}
use Rattle.ckd_image.proofs.Files.{same_files, files_push, all_pushed, small_track}

-- ---- the buffer of a track

cut_tail : (n : ℕ) (tail : List ℕ) → take (min (length tail) n) tail ≡ take n tail
cut_tail n tail = elim (cases_lt (length tail) n) [
  | inl lt ↦ take_all (min (length tail) n) tail (omega arith) ∙ sym (take_all n tail (omega arith))
  | inr ge ↦ let e : min (length tail) n ≡ n = omega arith in ap (λ (k : ℕ). take k tail) e
]

pub put_together : (bytes flag m : ℕ) (address records tail zeros start : List ℕ) → start ≡ [] → zeros ≡ replicate bytes 0 →
    m ≡ min (length tail) (bytes - 13 - length records) →
    (((((start ++ flag ∷ []) ++ address) ++ records) ++ end_mark) ++ take m tail)
    ++ take (bytes - 13 - length records - length (take m tail)) zeros
    ≡ track_bytes_with bytes flag address records tail
put_together bytes flag m address records tail zeros start none blank m-is =
    let n = bytes - 13 - length records in
    let first = take m tail in
    let cut : first ≡ take n tail = ap (λ (k : ℕ). take k tail) m-is ∙ cut_tail n tail in
    let left = n - length first in
    let few : left ≤ bytes = omega arith in
    let size : left ≡ n - length tail = omega (arith, ap length cut, length-take n tail) in
    let last : take left zeros ≡ replicate (n - length tail) 0 =
    ap (take left) blank ∙ take-replicate left bytes 0 few ∙ ap (λ (k : ℕ). replicate k 0) size in
    let rest : List ℕ = take n tail ++ replicate (n - length tail) 0 in
    let head : List ℕ → List ℕ = λ l. (((l ++ flag ∷ []) ++ address) ++ records) ++ end_mark in
    append_assoc (head start) first (take left zeros)
    ∙ ap (λ (l : List ℕ). head start ++ (first ++ l)) last
    ∙ ap (λ (l : List ℕ). head start ++ (l ++ replicate (n - length tail) 0)) cut
    ∙ ap (λ (l : List ℕ). head l ++ rest) none
    ∙ grouped flag address records rest
  where
    grouped : (flag : ℕ) (address records rest : List ℕ) →
        (((([] ++ flag ∷ []) ++ address) ++ records) ++ end_mark) ++ rest ≡ flag ∷ (address ++ (records ++ (end_mark ++ rest)))
    grouped flag address records rest = simp append_assoc

-- ---- what a writer holds

-- the header and the first tracks of an image
abbrev pub first_tracks : KeptState → DiskState → DiskState → ℕ → List ℕ
first_tracks kept mounted disk n =
    kept.header ++ tracks_file (format_on disk) (kept_now kept mounted.tracks disk.tracks) 0 (take n disk.tracks)

pub first_none : (kept : KeptState) (mounted disk : DiskState) → kept.header ≡ first_tracks kept mounted disk 0
unfolding tracks_file
first_none kept mounted disk = sym (append-nil kept.header)

pub first_more : (kept : KeptState) (mounted disk : DiskState) (n : ℕ) (old now next : Option (List ℕ)) (track : List ℕ) →
    n < length disk.tracks → Appends old now (first_tracks kept mounted disk n) → Appends now next track
    → track ≡ track_file (format_on disk) n (kept_now kept mounted.tracks disk.tracks n) (track_of disk.tracks n).records
    → Appends old next (first_tracks kept mounted disk (n + 1))
first_more kept mounted disk n old now next track lt so_far put track-is =
    let f = format_on disk in
    let k = kept_now kept mounted.tracks disk.tracks in
    let ts = take n disk.tracks in
    let t = track_of disk.tracks n in
    let len : 0 + length ts ≡ n = omega (arith, length-take n disk.tracks) in
    let here : track_file f (0 + length ts) (k (0 + length ts)) t.records ≡ track =
    ap (λ (i : ℕ). track_file f i (k i) t.records) len ∙ sym track-is in
    let more : tracks_file f k 0 (take (n + 1) disk.tracks) ≡ tracks_file f k 0 ts ++ track =
    ap (tracks_file f k 0) (take_more disk.tracks n no_track lt) ∙ files_push f k 0 ts t
    ∙ ap (λ (l : List ℕ). tracks_file f k 0 ts ++ l) here in
    let whole : first_tracks kept mounted disk n ++ track ≡ first_tracks kept mounted disk (n + 1) =
    append_assoc kept.header (tracks_file f k 0 ts) track ∙ ap (λ (l : List ℕ). kept.header ++ l) (sym more) in
    subst (λ (l : List ℕ). Appends old next l) whole (Appends-trans old now next (first_tracks kept mounted disk n) track so_far put)

pub first_all : (kept : KeptState) (mounted disk : DiskState) (n : ℕ) (old now : Option (List ℕ)) → length disk.tracks ≤ n →
    Appends old now (first_tracks kept mounted disk n) → Appends old now (image_on kept mounted disk)
first_all kept mounted disk n old now le so_far =
    let f = format_on disk in
    let k = kept_now kept mounted.tracks disk.tracks in
    subst (λ (l : List TrackState). Appends old now (kept.header ++ tracks_file f k 0 l)) (take_all n disk.tracks le) so_far

-- what a header says
abbrev pub said : ℕ → ℕ → Result Format CkdError
said heads bytes = Ok (record { heads = heads; bytes = bytes })

-- one more track that an image can have
pub recorded_more : (size n : ℕ) (ts : List TrackState) → n < length ts → AllByRecursion (IsRecorded size) (take n ts)
    → IsRecorded size (track_of ts n) → AllByRecursion (IsRecorded size) (take (n + 1) ts)
recorded_more size n ts lt all one =
    subst (λ (l : List TrackState). AllByRecursion (IsRecorded size) l) (sym (take_more ts n no_track lt))
    (all_pushed (IsRecorded size) (take n ts) (track_of ts n) all one)

-- ---- THE LAW: what is written is an image

pub says_format : (disk : DiskState) (heads size : ℕ) → heads ≡ disk.heads → size ≡ (track_of disk.tracks 0).size →
    said heads (size + 14) ≡ Ok (format_on disk)
says_format disk heads size heads-is size-is =
    ap (λ (h : ℕ). said h (size + 14)) heads-is ∙ ap (λ (n : ℕ). said disk.heads (n + 14)) size-is

pub whole_disk : (disk : DiskState) (count heads : ℕ) → count ≡ length disk.tracks → heads ≡ disk.heads → 1 ≤ count → count % heads ≡ 0 →
    is_whole (volume_on disk) ≡ true
whole_disk disk count heads count-is heads-is some whole =
    let same : length disk.tracks % disk.heads ≡ 0 = ap (λ (n : ℕ). length disk.tracks % n) (sym heads-is)
    ∙ ap (λ (n : ℕ). n % heads) (sym count-is) ∙ whole in
    let there : 0 < length disk.tracks = omega (arith, some, count-is) in
    grind (arith, nat_tests, same, there)

pub is_image : (kept : KeptState) (mounted disk : DiskState) (n : ℕ) → format_of kept.header ≡ Ok (format_on disk)
    → length kept.header ≡ 512
    → length disk.tracks ≤ 65_535 → is_whole (volume_on disk) ≡ true → length disk.tracks ≤ n
    → AllByRecursion (IsRecorded (track_of disk.tracks 0).size) (take n disk.tracks) → IsImage (image_on kept mounted disk) (volume_on disk)
is_image kept mounted disk n says long few whole le each =
    let f = format_on disk in
    let k = kept_now kept mounted.tracks disk.tracks in
    let count = length disk.tracks in
    let listed = map k (range_with_len 0 count) in
    let same : (i : ℕ) → 0 ≤ i → i < 0 + count → k i ≡ kept_at listed i =
    λ i least lt. sym (get_or-map-range_with_len k 0 count i i plain (omega arith) (omega arith)) in
    record {
      format = f;
      kept = record { header = kept.header; tracks = listed };
      valid = record {
        begun = record {
          header = says;
          long = long;
          heads = refl;
          bytes = refl;
          each = length-map-range_with_len k 0 count;
          tracks = subst (λ (l : List TrackState). AllByRecursion (IsRecorded (track_of disk.tracks 0).size) l)
              (take_all n disk.tracks le) each;
        };
        few = few;
        whole = whole;
      };
      file = ap (λ (l : List ℕ). kept.header ++ l) (same_files f k (kept_at listed) 0 disk.tracks same);
    }

-- ---- THE LAW: a disk whose image would be one is not refused

-- what the image of a disk says of the disk
pub record IsSavable (kept : KeptState) (disk : DiskState) : Type 0 where
  pub says : format_of kept.header ≡ Ok (format_on disk)
  pub small : (track_of disk.tracks 0).size ≤ 65_535
  pub few : length disk.tracks ≤ 65_535
  pub whole : length disk.tracks % disk.heads ≡ 0
  pub each : AllByRecursion (IsRecorded (track_of disk.tracks 0).size) disk.tracks

pub savable : (kept : KeptState) (mounted disk : DiskState) → length kept.header ≡ 512
    → IsImage (image_on kept mounted disk) (volume_on disk)
    → IsSavable kept disk
savable kept mounted disk long is =
    let b = is.valid.begun in
    let left = tracks_file (format_on disk) (kept_now kept mounted.tracks disk.tracks) 0 disk.tracks in
    let right = tracks_file is.format (kept_at is.kept.tracks) 0 disk.tracks in
    let header : kept.header ≡ is.kept.header =
    sym (take_at kept.header left 512 long) ∙ ap (take 512) is.file ∙ take_at is.kept.header right 512 b.long in
    let whole = is.valid.whole in
    record {
      says = ap format_of header ∙ b.header ∙ ap (λ (h : ℕ). said h is.format.bytes) (sym b.heads) ∙ ap (said disk.heads) (sym b.bytes);
      small = omega (arith, b.bytes, small_track is.kept.header is.format b.header);
      few = is.valid.few;
      whole = grind (arith, nat_tests, whole);
      each = b.tracks;
    }

pub size_of_each : (size : ℕ) (ts : List TrackState) (n : ℕ) → AllByRecursion (IsRecorded size) ts → n < length ts
    → (track_of ts n).size ≡ size
size_of_each size [] n each lt = absurd (omega arith)
size_of_each size (t ∷ ts) zero each lt = each.0.size
size_of_each size (t ∷ ts) (suc n) each lt = size_of_each size ts n each.1 (omega arith)

-- ---- THE LAW: what was read and not written on is saved as it was

pub kept_same : (kept : KeptState) (mounted tracks : List TrackState) (i : ℕ) → mounted ≡ tracks → i < length tracks →
    kept_now kept mounted tracks i ≡ kept_at kept.tracks i
kept_same kept mounted tracks i same lt =
    let there : nat_lt i (length tracks) ≡ true = grind (arith, nat_tests, lt) in
    let image = image_of ckd (track_of tracks i).records in
    let equal : bytes_eq image image ≡ true = (bytes_eq-Decides image image).1 refl in
    ap (λ (l : List TrackState). kept_now kept l tracks i) same
    ∙ ap (λ (b : Bool). cond (b && bytes_eq image image) (kept_at kept.tracks i) plain) there
    ∙ ap (λ (b : Bool). cond b (kept_at kept.tracks i) plain) equal

some_tracks : (v : VolumeState) → is_whole v ≡ true → 0 < length v.tracks
some_tracks v whole = grind (arith, nat_tests, whole)

pub as_read : (f : Format) (kept : KeptState) (v : VolumeState) (mounted disk : DiskState) → IsAsRead f kept v mounted disk →
    image_on kept mounted disk ≡ file_of f kept v.tracks
as_read f kept v mounted disk is =
    let size : (track_of disk.tracks 0).size ≡ v.track_bytes = ap (λ (l : List TrackState). (track_of l 0).size) is.tracks
    ∙ size_of_each v.track_bytes v.tracks 0 is.begun.tracks (some_tracks v is.whole) in
    let heads : disk.heads ≡ f.heads = is.heads ∙ is.begun.heads in
    let bytes : (track_of disk.tracks 0).size + 14 ≡ f.bytes = ap (λ (n : ℕ). n + 14) size ∙ is.begun.bytes in
    let made : ℕ → ℕ → Format = λ h b. record { heads = h; bytes = b } in
    let format : format_on disk ≡ f = ap (λ (h : ℕ). made h ((track_of disk.tracks 0).size + 14)) heads
    ∙ ap (λ (b : ℕ). made f.heads b) bytes in
    let k = kept_now kept mounted.tracks disk.tracks in
    let same : (i : ℕ) → 0 ≤ i → i < 0 + length disk.tracks → k i ≡ kept_at kept.tracks i =
    λ i le lt. kept_same kept mounted.tracks disk.tracks i (is.mounted ∙ sym is.tracks) (omega arith) in
    ap (λ (x : Format). kept.header ++ tracks_file x k 0 disk.tracks) format
    ∙ ap (λ (l : List ℕ). kept.header ++ l) (same_files f k (kept_at kept.tracks) 0 disk.tracks same)
    ∙ ap (λ (l : List TrackState). kept.header ++ tracks_file f (kept_at kept.tracks) 0 l) is.tracks
