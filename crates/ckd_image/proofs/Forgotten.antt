-- What a disk has on its tracks, and had not when it was mounted, is forgotten.
use Rattle.std.proofs.Common.{◌≡◌, ◌≢◌, ℕ, ◌+◌, ◌<◌, ◌≤◌, Bool, true, false, cond, List, ◌++◌, length, set, slice_index_or, min}
use Rattle.std.proofs.Common.{refl, sym, ap, subst, ◌∙◌, arith, inl, inr}
use Rattle.std.proofs.lemmas.Bool.{cases_lt}
use Rattle.std.proofs.lemmas.List.{get_or-set_same, get_or-set_other, length-set}
use Rattle.std.proofs.Math.ListN.{get_or-eq_default}
use Rattle.device_port.specs.Packed.{image_of}
use Rattle.ckd_disk.specs.Record.{ckd}
use Rattle.ckd_disk.specs.Track.{TrackState}
use Rattle.ckd_disk.specs.Disk.{DiskState, track_of}
use Rattle.ckd_image.specs.Image.{KeptState, KeptTrackState, plain, kept_at}
use Rattle.ckd_image.specs.Saving.{format_on, is_as_mounted, kept_now, ForgetsWritten}
use Rattle.ckd_image.proofs.Files.{same_files}
use Rattle.ckd_image.proofs.Writing.{kept_same}

-- so much is kept of the tracks before `n`, and all of the others
pub record Forgotten (old : KeptState) (mounted tracks : List TrackState) (n : ℕ) (kept : List KeptTrackState) : Type 0 where
  pub count : length kept ≡ length old.tracks
  pub done : (i : ℕ) → i < n → kept_at kept i ≡ kept_now old mounted tracks i
  pub left : (i : ℕ) → n ≤ i → kept_at kept i ≡ kept_at old.tracks i

pub none : (old : KeptState) (mounted tracks : List TrackState) → Forgotten old mounted tracks 0 old.tracks
none old mounted tracks = record { count = refl; done = λ i lt. absurd (omega (arith, lt)); left = λ i le. refl }

-- whether the track is as it was when the disk was mounted
abbrev pub is_same : List TrackState → List TrackState → ℕ → Bool
is_same mounted tracks n = is_as_mounted mounted (image_of ckd (track_of tracks n).records) n

now_is : (old : KeptState) (mounted tracks : List TrackState) (n : ℕ) (b : Bool) → is_same mounted tracks n ≡ b
    → kept_now old mounted tracks n ≡ cond b (kept_at old.tracks n) plain
now_is old mounted tracks n b test = ap (λ (x : Bool). cond x (kept_at old.tracks n) plain) test

-- one more track
with_done : (old : KeptState) (mounted tracks : List TrackState) (n : ℕ) (kept : List KeptTrackState)
    → ((i : ℕ) → i < n → kept_at kept i ≡ kept_now old mounted tracks i) → kept_at kept n ≡ kept_now old mounted tracks n
    → (i : ℕ) → i < n + 1 → kept_at kept i ≡ kept_now old mounted tracks i
with_done old mounted tracks n kept done here i lt = elim (cases_lt i n) [
  | inl less ↦ done i less
  | inr ge ↦ let e : n ≡ i = omega (arith, ge, lt) in subst (λ (j : ℕ). kept_at kept j ≡ kept_now old mounted tracks j) e here
]

pub cut : (old : KeptState) (mounted tracks : List TrackState) (n : ℕ) (kept : List KeptTrackState) → Forgotten old mounted tracks n kept
    → n < length kept → is_same mounted tracks n ≡ false → Forgotten old mounted tracks (n + 1) (set kept n plain)
cut old mounted tracks n kept f lt test =
    let other : (i : ℕ) → i ≢ n → kept_at (set kept n plain) i ≡ kept_at kept i = λ i ne. get_or-set_other kept n i plain plain ne in
    record {
      count = length-set kept n plain ∙ f.count;
      done = with_done old mounted tracks n (set kept n plain) (λ i less. other i (λ e. absurd (omega (arith, less, e))) ∙ f.done i less)
          (get_or-set_same kept n plain plain lt ∙ sym (now_is old mounted tracks n false test));
      left = λ i le. other i (λ e. absurd (omega (arith, le, e))) ∙ f.left i (omega (arith, le));
    }

pub keep : (old : KeptState) (mounted tracks : List TrackState) (n : ℕ) (kept : List KeptTrackState) → Forgotten old mounted tracks n kept
    → is_same mounted tracks n ≡ true → Forgotten old mounted tracks (n + 1) kept
keep old mounted tracks n kept f test = record {
  count = f.count;
  done = with_done old mounted tracks n kept f.done (f.left n (omega arith) ∙ sym (now_is old mounted tracks n true test));
  left = λ i le. f.left i (omega (arith, le));
}

-- nothing is kept of what the image has no track for
past : (old : KeptState) (mounted tracks : List TrackState) (kept : List KeptTrackState) (i : ℕ) (b : Bool) → is_same mounted tracks i ≡ b
    → length kept ≡ length old.tracks → length old.tracks ≤ i → kept_at kept i ≡ kept_now old mounted tracks i
past old mounted tracks kept i false test count le =
    get_or-eq_default kept plain (omega (arith, count, le)) ∙ sym (now_is old mounted tracks i false test)
past old mounted tracks kept i true test count le =
    get_or-eq_default kept plain (omega (arith, count, le)) ∙ sym (get_or-eq_default old.tracks plain le)
    ∙ sym (now_is old mounted tracks i true test)

-- THE LAW: the image of the disk stays the same
pub forgets : (old : KeptState) (mounted disk : DiskState) (n : ℕ) (kept : List KeptTrackState)
    → min (length old.tracks) (length disk.tracks) ≤ n → Forgotten old mounted.tracks disk.tracks n kept
    → ForgetsWritten old mounted disk (record { header = old.header; tracks = kept })
forgets old mounted disk n kept end f =
    let new : KeptState = record { header = old.header; tracks = kept } in
    let each : (i : ℕ) → i < length disk.tracks → kept_at kept i ≡ kept_now old mounted.tracks disk.tracks i =
    λ i lt. elim (cases_lt i n) [
      | inl less ↦ f.done i less
      | inr ge ↦ past old mounted.tracks disk.tracks kept i (is_same mounted.tracks disk.tracks i) refl f.count (omega (arith, ge, lt, end))
    ] in
    let same : (i : ℕ) → 0 ≤ i → i < 0 + length disk.tracks
    → kept_now new disk.tracks disk.tracks i ≡ kept_now old mounted.tracks disk.tracks i =
    λ i le lt. kept_same new disk.tracks disk.tracks i refl (omega (arith, lt)) ∙ each i (omega (arith, lt)) in
    record {
      header = refl;
      count = f.count;
      each = each;
      image = ap (λ (l : List ℕ). old.header ++ l) (same_files (format_on disk) (kept_now new disk.tracks disk.tracks)
          (kept_now old mounted.tracks disk.tracks) 0 disk.tracks same);
    }
