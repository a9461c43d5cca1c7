-- The bytes of one track.
use Rattle.std.proofs.Common.{◌≡◌, ℕ, ◌+◌, ◌-◌, ◌≤◌, List, [], ◌∷◌, ◌++◌, length, take, drop, get_or, Ok, Err, true}
use Rattle.std.proofs.Common.{refl, sym, ap, subst, ◌∙◌, arith}
use Rattle.std.proofs.lemmas.Bool.Decides.{nat_tests}
use Rattle.std.proofs.lemmas.List.{length-append, length-drop, drop-drop, drop_at, drop_more, take-append-drop}
use Rattle.device_port.specs.Moves.{padded}
use Rattle.device_port.specs.Packed.{image_of}
use Rattle.ckd_disk.specs.declared.volume.VolumeError.{VolumeError}
use Rattle.ckd_disk.specs.declared.volume.VolumeError.TheVariants as volume
use Rattle.ckd_disk.specs.Record.{ckd}
use Rattle.ckd_disk.specs.Track.{bytes_of}
use Rattle.ckd_disk.specs.Volume.{VolumeState, RecordsTrack, Stops, end_mark}
use Rattle.ckd_image.specs.declared.format.Format.{Format}
use Rattle.ckd_image.specs.Image.{KeptTrackState, home_of, after_home}
use Rattle.ckd_image.specs.Loading.{IsLoader, TakesTrack, FailsTrack, track_fault, is_home}

-- a track is its home address and what follows it
home_and_rest : (track : List ℕ) → 5 ≤ length track → track ≡ get_or track 0 0 ∷ (take 4 (drop 1 track) ++ drop 5 track)
home_and_rest track le =
    drop_more track 0 0 (omega arith)
    ∙ ap (λ (l : List ℕ). get_or track 0 0 ∷ l) (sym (take-append-drop 4 (drop 1 track)))
    ∙ ap (λ (l : List ℕ). get_or track 0 0 ∷ (take 4 (drop 1 track) ++ l)) (drop-drop 4 1 track)

pub taken : (f : Format) (v after : VolumeState) (track body tail given : List ℕ) (kept more : List KeptTrackState) (zeros : List ℕ)
    (used : ℕ) → IsLoader f v kept zeros → length track ≡ f.bytes
    → take 4 (drop 1 track) ≡ home_of f.heads (length v.tracks) → body ≡ drop 5 track → RecordsTrack v body after (Ok used)
    → tail ≡ drop (used + 8) body → padded (length tail) given ≡ tail
    → more ≡ kept ++ record { flag = get_or track 0 0; tail = given } ∷ [] → TakesTrack f track v after kept more
taken f v after track body tail given kept more zeros used is long home body-is answer tail-is padded-is more-is =
    let r = answer.1 in
    let image = image_of ckd r.records in
    let rest = r.track.rest in
    let k : KeptTrackState = record { flag = get_or track 0 0; tail = given } in
    let behind : drop used body ≡ end_mark ++ rest = ap (drop used) r.track.parts ∙ drop_at image (end_mark ++ rest) used (sym r.taken) in
    let tail-rest : tail ≡ rest = tail-is ∙ sym (drop-drop 8 used body) ∙ ap (drop 8) behind ∙ drop_at end_mark rest 8 refl in
    let body-len : length body ≡ f.bytes - 5 = ap length body-is ∙ length-drop 5 track ∙ ap (λ (n : ℕ). n - 5) long in
    let parts-len : length body ≡ bytes_of r.records + (8 + length rest) =
    ap length r.track.parts ∙ length-append image (end_mark ++ rest)
    ∙ ap (λ (n : ℕ). bytes_of r.records + n) (length-append end_mark rest) in
    let left : f.bytes - 13 - bytes_of r.records ≡ length tail = omega (arith, body-len, parts-len, ap length tail-rest) in
    let filled : padded (f.bytes - 13 - bytes_of r.records) given ≡ rest =
    ap (λ (n : ℕ). padded n given) left ∙ padded-is ∙ tail-rest in
    let body-file : drop 5 track ≡ after_home f.bytes k r.records =
    sym body-is ∙ r.track.parts ∙ ap (λ (l : List ℕ). image ++ (end_mark ++ l)) (sym filled) in
    let five : 5 ≤ length track = omega (arith, body-len, parts-len, long, ap length body-is, length-drop 5 track) in
    let room = answer.0 in
    let few : length v.tracks + 1 ≤ 65_535 = grind (arith, nat_tests, room) in
    record {
      kept = k;
      records = r.records;
      file = home_and_rest track five
          ∙ ap (λ (l : List ℕ). get_or track 0 0 ∷ (l ++ drop 5 track)) home
          ∙ ap (λ (l : List ℕ). get_or track 0 0 ∷ (home_of f.heads (length v.tracks) ++ l)) body-file;
      recorded = record {
        size = refl;
        fits = r.track.fits;
        some = r.track.some;
        within = omega (arith, r.track.within);
      };
      volume = r.volume;
      tracks = more-is;
      few = omega (
        arith,
        few,
        ap (λ (x : VolumeState). length x.tracks) r.volume,
        length-append v.tracks (record { size = v.track_bytes; records = r.records } ∷ []),
      );
    }

pub refused : (f : Format) (v after : VolumeState) (track body : List ℕ) (error : VolumeError)
    → is_home f.heads (length v.tracks) track ≡ true
    → body ≡ drop 5 track → RecordsTrack v body after (Err error)
    → FailsTrack f v track (track_fault error).fault (track_fault error).offset
refused f v after track body volume.BadHeads home e h = absurd h.1
refused f v after track body volume.BadTrackBytes home e h = absurd h.1
refused f v after track body volume.TooManyTracks home e h = (h, refl)
refused f v after track body volume.NoRecord home e h =
    ((h.0, home), subst (λ (l : List ℕ). Stops v.track_bytes l volume.NoRecord) e h.1, refl)
refused f v after track body (volume.NoEndMark at) home e h =
    ((h.0, home), (at, subst (λ (l : List ℕ). Stops v.track_bytes l (volume.NoEndMark at)) e h.1, refl))
refused f v after track body (volume.PastTrack at) home e h =
    ((h.0, home), (at, subst (λ (l : List ℕ). Stops v.track_bytes l (volume.PastTrack at)) e h.1, refl))
refused f v after track body volume.NoMemory home e h = tt
