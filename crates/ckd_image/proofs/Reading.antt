-- How far the tracks of an image were read, and what a loader answers in the end.
use Rattle.std.proofs.Common.{◌≡◌, ℕ, ◌+◌, ◌*◌, ◌<◌, ◌≤◌, ◌⊎◌, false, List, [], ◌∷◌, ◌++◌, length, take, Option, Ok, Err, Result, IfOk}
use Rattle.std.proofs.KnownBytes.{Consumes-nil, Consumes-trans}
use Rattle.std.proofs.Common.{refl, sym, ap, subst, ◌∙◌, append_assoc, arith, inl, inr}
use Rattle.std.specs.Prelude.{IfErr}
use Rattle.std.proofs.lemmas.List.{length-append, append-nil, length-take-le}
use Rattle.std.specs.Io.KnownBytes.{Consumes}
use Rattle.ckd_disk.specs.Volume.{VolumeState, is_whole}
use Rattle.ckd_image.specs.declared.fault.CkdError.{CkdError}
use Rattle.ckd_image.specs.declared.fault.CkdFault.{CkdFault}
use Rattle.ckd_image.specs.declared.format.Format.{Format}
use Rattle.ckd_image.specs.declared.kept.DiskImage.{DiskImage}
use Rattle.image_source.specs.Filled.{Fills}
use Rattle.ckd_image.specs.Header.{format_of}
use Rattle.ckd_image.specs.Image.{KeptTrackState, KeptState, kept_at, tracks_file, file_of, IsWholeImage}
use Rattle.ckd_image.specs.Loading.{TakesTrack, IsLoader, FailsTrack, FailsAfter, FailsImage, ReadsTracks, Loaded, EndsImage, IsFault}
use Rattle.ckd_image.proofs.Files.{no_files, file_more, loader_more, begun}

abbrev tracks_of : Format → VolumeState → List KeptTrackState → List ℕ
tracks_of f v kept = tracks_file f (kept_at kept) 0 v.tracks

-- a reader was read from `old` to `now`, and its bytes are these tracks, which follow a header
pub record Far (f : Format) (header : List ℕ) (old now : Option (List ℕ)) (v : VolumeState) (kept : List KeptTrackState) (zeros : List ℕ)
    (offset : ℕ) : Type 0 where
  pub loader : IsLoader f v kept zeros
  pub says : format_of header ≡ Ok f
  pub wide : length header ≡ 512
  pub few : length v.tracks ≤ 65_535
  pub read : Consumes old now (tracks_of f v kept)
  pub place : offset ≡ 512 + length (tracks_of f v kept)
  pub bound : offset ≤ 512 + length v.tracks * 65_549

pub far_start : (f : Format) (header : List ℕ) (now : Option (List ℕ)) (v : VolumeState) (kept : List KeptTrackState) (zeros : List ℕ) →
    IsLoader f v kept zeros → format_of header ≡ Ok f → length header ≡ 512 → v.tracks ≡ [] → Far f header now now v kept zeros 512
far_start f header now v kept zeros is says wide empty =
    let none : tracks_of f v kept ≡ [] = no_files f (kept_at kept) 0 v.tracks empty in
    record {
      loader = is;
      says = says;
      wide = wide;
      few = omega (arith, ap length empty);
      read = subst (λ (l : List ℕ). Consumes now now l) (sym none) (Consumes-nil now);
      place = omega (arith, ap length none);
      bound = omega arith;
    }

pub far_more : (f : Format) (header : List ℕ) (old now next : Option (List ℕ)) (v after : VolumeState) (kept more : List KeptTrackState)
    (zeros track : List ℕ) (offset : ℕ) → Far f header old now v kept zeros offset → Consumes now next track → length track ≡ f.bytes →
    TakesTrack f track v after kept more → Far f header old next after more zeros (offset + f.bytes)
far_more f header old now next v after kept more zeros track offset far read long takes =
    let file = file_more f track v after kept more far.loader.each takes in
    let grown : length after.tracks ≡ length v.tracks + 1 =
    ap (λ (x : VolumeState). length x.tracks) takes.volume
    ∙ length-append v.tracks (record { size = v.track_bytes; records = takes.records } ∷ []) in
    record {
      loader = loader_more f track v after kept more zeros far.loader takes;
      says = far.says;
      wide = far.wide;
      few = takes.few;
      read = subst (λ (l : List ℕ). Consumes old next l) (sym file) (Consumes-trans old now next (tracks_of f v kept) track far.read read);
      place = omega (arith, far.place, ap length file, length-append (tracks_of f v kept) track, long);
      bound = omega (arith, far.bound, grown, far.loader.large);
    }

-- the whole buffer was filled
pub fails_track : (f : Format) (header : List ℕ) (old now next : Option (List ℕ)) (v : VolumeState) (kept : List KeptTrackState)
    (zeros track : List ℕ) (offset : ℕ) (fault : CkdFault) (at : ℕ) → Far f header old now v kept zeros offset → Consumes now next track
    → length track ≡ f.bytes → FailsTrack f v track fault at → FailsAfter header old next (record { fault = fault; offset = offset + at })
fails_track f header old now next v kept zeros track offset fault at far read long why =
    let tracks = tracks_of f v kept in (
      tracks ++ track,
      Consumes-trans old now next tracks track far.read read,
      inr (inr (inl (record {
        start = offset;
        at = at;
        well = record {
          format = f;
          kept = record { header = header; tracks = kept };
          volume = v;
          rest = track;
          begun = begun f header v kept zeros far.loader far.says far.wide;
          parts = sym (append_assoc header tracks track);
          place = omega (arith, far.place, length-append header tracks, far.wide);
        };
        fails = why;
        long = long;
        offset = refl;
      }))),
    )

-- what the loader answers behind the last whole track
pub record Ends (header : List ℕ) (old next : Option (List ℕ)) (result : Result DiskImage CkdError) : Type 0 where
  pub loaded : IfOk result (ReadsTracks header old next)
  pub fault : IfErr result (λ e. IsFault e.fault → FailsAfter header old next e)

pub ends : (f : Format) (header : List ℕ) (old now next : Option (List ℕ)) (v : VolumeState) (kept : List KeptTrackState)
    (zeros buffer : List ℕ) (offset count : ℕ) (result : Result DiskImage CkdError) → Far f header old now v kept zeros offset →
    Fills now next buffer count → count < length buffer → length buffer ≡ f.bytes
    → EndsImage v (record { header = header; tracks = kept }) (offset + count) count result → Ends header old next result
ends f header old now next v kept zeros buffer offset count (Ok image) far fills short long answer =
    let tracks = tracks_of f v kept in
    let k : KeptState = record { header = header; tracks = kept } in
    let none : take count buffer ≡ [] = ap (λ (n : ℕ). take n buffer) answer.0 in
    let last : Consumes now next [] = subst (λ (l : List ℕ). Consumes now next l) none fills.consumed in
    let all : Consumes old next tracks = subst (λ (l : List ℕ). Consumes old next l) (append-nil tracks)
    (Consumes-trans old now next tracks [] far.read last) in
    let is : IsWholeImage f k v = record {
      begun = begun f header v kept zeros far.loader far.says far.wide;
      few = far.few;
      whole = answer.1;
    } in
    record {
      loaded = record {
        format = f;
        valid = subst (λ (x : KeptState). IsWholeImage f x image.volume) (sym answer.3)
            (subst (λ (x : VolumeState). IsWholeImage f k x) (sym answer.2) is);
        read = (
          tracks,
          all,
          ap (λ (x : VolumeState). file_of f k x.tracks) (sym answer.2)
              ∙ ap (λ (x : KeptState). file_of f x image.volume.tracks) (sym answer.3),
        );
        end = fills.end short;
      };
      fault = tt;
    }
ends f header old now next v kept zeros buffer offset count (Err e) far fills short long answer =
    let tracks = tracks_of f v kept in
    let rest = take count buffer in
    let size : length rest ≡ count = length-take-le count buffer fills.within in
    let place : offset ≡ length (header ++ tracks) = omega (arith, far.place, length-append header tracks, far.wide) in
    let cut : (0 < length rest) ⊎ (is_whole v ≡ false) = subst (λ (n : ℕ). (0 < n) ⊎ (is_whole v ≡ false)) (sym size) answer.0 in
    let some : length rest < f.bytes = omega (arith, size, short, long) in
    record {
      loaded = tt;
      fault = λ (known : IsFault e.fault). (
        tracks ++ rest,
        Consumes-trans old now next tracks rest far.read fills.consumed,
        inr (inr (inr (record {
          start = offset;
          well = record {
            format = f;
            kept = record { header = header; tracks = kept };
            volume = v;
            rest = rest;
            begun = begun f header v kept zeros far.loader far.says far.wide;
            parts = sym (append_assoc header tracks rest);
            place = place;
          };
          fault = ap (λ (x : CkdError). x.fault) answer.1;
          short = some;
          cut = cut;
          offset = ap (λ (x : CkdError). x.offset) answer.1
              ∙ omega (arith, place, size, length-append header tracks, length-append tracks rest, length-append header (tracks ++ rest));
          end = fills.end short;
        }))),
      );
    }

-- the header breaks a rule
pub fails_header : (header : List ℕ) (old new : Option (List ℕ)) (e : CkdError) (result : Result Format CkdError)
    → Consumes old new header →
    length header ≡ 512 → result ≡ format_of header → result ≡ Err e → FailsImage old new e
fails_header header old new e result read long says is = (header, read, inr (inl (record { long = long; fails = sym says ∙ is })))

-- the header was read before
pub loaded : (header : List ℕ) (old mid new : Option (List ℕ)) (result : Result DiskImage CkdError) → Consumes old mid header →
    IfOk result (ReadsTracks header mid new) → IfOk result (Loaded old new)
loaded header old mid new (Err e) read h = tt
loaded header old mid new (Ok image) read h =
    let bytes = h.read.0 in
    record {
      format = h.format;
      valid = h.valid;
      read = subst (λ (l : List ℕ). Consumes old new l) h.read.2 (Consumes-trans old mid new header bytes read h.read.1);
      end = h.end;
    }

pub failed : (header : List ℕ) (old mid new : Option (List ℕ)) (result : Result DiskImage CkdError) → Consumes old mid header →
    IfErr result (λ e. IsFault e.fault → FailsAfter header mid new e) → IfErr result (λ e. IsFault e.fault → FailsImage old new e)
failed header old mid new (Ok image) read h = tt
failed header old mid new (Err e) read h = λ (known : IsFault e.fault).
    let after = h known in
    (header ++ after.0, Consumes-trans old mid new header after.0 read after.1, after.2)
