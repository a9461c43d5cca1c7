-- The bytes of tracks, one after the other.
use Rattle.std.proofs.Common.{◌≡◌, ℕ, suc, ◌+◌, ◌-◌, ◌<◌, ◌≤◌, List, [], ◌∷◌, ◌++◌, length, take, replicate, get_or, Ok}
use Rattle.std.proofs.Common.{refl, sym, ap, subst, ◌∙◌, append_assoc, arith}
use Rattle.std.specs.List.{AllByRecursion}
use Rattle.std.proofs.lemmas.Bool.Decides.{nat_tests}
use Rattle.std.proofs.lemmas.List.{length-append, append-nil, take_all, get_or_append_left, get_or-append_right, take-replicate}
use Rattle.device_port.specs.Moves.{padded}
use Rattle.ckd_disk.specs.Track.{TrackState}
use Rattle.ckd_disk.specs.Volume.{VolumeState, with_track}
use Rattle.ckd_image.specs.declared.format.Format.{Format}
use Rattle.ckd_image.specs.Header.{format_of}
use Rattle.ckd_image.specs.Image.{KeptTrackState, plain, kept_at, track_file, tracks_file, IsRecorded, IsImageBegun}
use Rattle.ckd_image.specs.Loading.{TakesTrack, IsLoader}

-- how long the tracks of a format are
pub small_track : (header : List ℕ) (f : Format) → format_of header ≡ Ok f → f.bytes ≤ 65_549
small_track header f says = grind (arith, nat_tests, says)

pub all_pushed : (P : TrackState → Type 0) (l : List TrackState) (t : TrackState) → AllByRecursion P l → P t
    → AllByRecursion P (l ++ t ∷ [])
all_pushed P [] t all p = (p, tt)
all_pushed P (x ∷ l) t all p = (all.0, all_pushed P l t all.1 p)

module _ (f : Format) where
  -- tracks of which the same is kept
  pub same_files : (k l : ℕ → KeptTrackState) (n : ℕ) (ts : List TrackState) → ((i : ℕ) → n ≤ i → i < n + length ts → k i ≡ l i) →
      tracks_file f k n ts ≡ tracks_file f l n ts
  unfolding tracks_file
  same_files k l n [] same = refl
  same_files k l n (t ∷ ts) same =
      ap (λ (x : KeptTrackState). track_file f n x t.records ++ tracks_file f k (n + 1) ts) (same n (omega arith) (omega arith))
      ∙ ap (λ (x : List ℕ). track_file f n (l n) t.records ++ x)
      (same_files k l (n + 1) ts (λ i le lt. same i (omega arith) (omega arith)))

  -- no track
  pub no_files : (k : ℕ → KeptTrackState) (n : ℕ) (ts : List TrackState) → ts ≡ [] → tracks_file f k n ts ≡ []
  unfolding tracks_file
  no_files k n ts e = ap (tracks_file f k n) e

  -- one more track
  pub files_push : (k : ℕ → KeptTrackState) (n : ℕ) (ts : List TrackState) (t : TrackState) →
      tracks_file f k n (ts ++ t ∷ []) ≡ tracks_file f k n ts ++ track_file f (n + length ts) (k (n + length ts)) t.records
  unfolding tracks_file
  files_push k n [] t =
      let e : n ≡ n + 0 = omega arith in
      append-nil (track_file f n (k n) t.records) ∙ ap (λ (i : ℕ). track_file f i (k i) t.records) e
  files_push k n (u ∷ ts) t =
      let first = track_file f n (k n) u.records in
      let e : n + 1 + length ts ≡ n + suc (length ts) = omega arith in
      ap (λ (x : List ℕ). first ++ x) (files_push k (n + 1) ts t)
      ∙ sym (append_assoc first (tracks_file f k (n + 1) ts) (track_file f (n + 1 + length ts) (k (n + 1 + length ts)) t.records))
      ∙ ap (λ (i : ℕ). (first ++ tracks_file f k (n + 1) ts) ++ track_file f i (k i) t.records) e

  -- a track that was read after those there
  pub file_more : (track : List ℕ) (v after : VolumeState) (kept more : List KeptTrackState) → length kept ≡ length v.tracks →
      TakesTrack f track v after kept more →
      tracks_file f (kept_at more) 0 after.tracks ≡ tracks_file f (kept_at kept) 0 v.tracks ++ track
  file_more track v after kept more each takes =
      let t : TrackState = record { size = v.track_bytes; records = takes.records } in
      let n = length v.tracks in
      let all = kept ++ takes.kept ∷ [] in
      let same-n : 0 + n ≡ n = omega arith in
      let none : 0 + n - n ≡ 0 = omega arith in
      let before : (i : ℕ) → 0 ≤ i → i < 0 + n → kept_at all i ≡ kept_at kept i =
      λ i le lt. get_or_append_left kept (takes.kept ∷ []) plain i (omega arith) in
      let here : kept_at all (0 + n) ≡ takes.kept =
      get_or-append_right kept (takes.kept ∷ []) n (0 + n) plain each (omega arith)
      ∙ ap (λ (i : ℕ). get_or (takes.kept ∷ []) i plain) none in
      let last : track_file f (0 + n) (kept_at all (0 + n)) takes.records ≡ track =
      ap (λ (x : KeptTrackState). track_file f (0 + n) x takes.records) here
      ∙ ap (λ (i : ℕ). track_file f i takes.kept takes.records) same-n ∙ sym takes.file in
      ap (λ (l : List KeptTrackState). tracks_file f (kept_at l) 0 after.tracks) takes.tracks
      ∙ ap (λ (x : VolumeState). tracks_file f (kept_at all) 0 x.tracks) takes.volume
      ∙ files_push (kept_at all) 0 v.tracks t
      ∙ ap (λ (l : List ℕ). l ++ track_file f (0 + n) (kept_at all (0 + n)) takes.records) (same_files (kept_at all)
      (kept_at kept) 0 v.tracks before)
      ∙ ap (λ (l : List ℕ). tracks_file f (kept_at kept) 0 v.tracks ++ l) last

  pub loader_more : (track : List ℕ) (v after : VolumeState) (kept more : List KeptTrackState) (zeros : List ℕ) → IsLoader f v kept zeros →
      TakesTrack f track v after kept more → IsLoader f after more zeros
  loader_more track v after kept more zeros is takes =
      let t : TrackState = record { size = v.track_bytes; records = takes.records } in
      let grown : IsLoader f (with_track v takes.records) (kept ++ takes.kept ∷ []) zeros = record {
        some = is.some;
        heads = is.heads;
        bytes = is.bytes;
        large = is.large;
        each = omega (arith, is.each, length-append kept (takes.kept ∷ []), length-append v.tracks (t ∷ []));
        tracks = all_pushed (IsRecorded v.track_bytes) v.tracks t is.tracks takes.recorded;
        blank = is.blank;
      } in
      subst (λ (x : VolumeState). IsLoader f x more zeros) (sym takes.volume)
      (subst (λ (l : List KeptTrackState). IsLoader f (with_track v takes.records) l zeros) (sym takes.tracks) grown)

  pub begun : (header : List ℕ) (v : VolumeState) (kept : List KeptTrackState) (zeros : List ℕ) → IsLoader f v kept zeros →
      format_of header ≡ Ok f → length header ≡ 512 → IsImageBegun f (record { header = header; tracks = kept }) v
  begun header v kept zeros is says long = record {
    header = says;
    long = long;
    heads = is.heads;
    bytes = is.bytes;
    each = is.each;
    tracks = is.tracks;
  }

-- zeros, or all bytes given
pub padded-zeros : (n m : ℕ) (tail given zeros : List ℕ) → length tail ≡ n → given ≡ [] → zeros ≡ replicate m 0 → n ≤ m
    → tail ≡ take n zeros →
    padded n given ≡ tail
padded-zeros n m tail given zeros len none blank le is =
    let all : n - 0 ≡ n = omega arith in
    ap (padded n) none ∙ ap (λ (k : ℕ). take n [] ++ replicate k 0) all
    ∙ ap (λ (l : List ℕ). l ++ replicate n 0) (take_all n [] (omega arith))
    ∙ sym (take-replicate n m 0 le) ∙ ap (take n) (sym blank) ∙ sym is

pub padded-whole : (n : ℕ) (tail given : List ℕ) → length tail ≡ n → given ≡ tail → padded n given ≡ tail
padded-whole n tail given len is =
    let none : n - length tail ≡ 0 = omega arith in
    ap (padded n) is ∙ ap (λ (l : List ℕ). l ++ replicate (n - length tail) 0) (take_all n tail (omega arith))
    ∙ ap (λ (k : ℕ). tail ++ replicate k 0) none ∙ append-nil tail
