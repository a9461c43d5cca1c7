-- The bytes of an image are those of one volume, and no loader refuses them.
use Rattle.std.proofs.Common.{◌≡◌, ℕ, suc, ◌+◌, ◌-◌, ◌<◌, ◌≤◌, ◌⊎◌, Bool, true, false, List, [], ◌∷◌, ◌++◌, length, take, drop, Option, Some, None, Ok, Err, Result}
use Rattle.std.proofs.Common.{refl, sym, ap, subst, ◌∙◌, append_assoc, arith, inl, inr, IfOk}
use Rattle.std.specs.Prelude.{IfErr}
use Rattle.std.specs.List.{AllByRecursion}
use Rattle.std.specs.Io.KnownBytes.{Consumes, IsAtEnd}
use Rattle.std.proofs.lemmas.Bool.{true≢false}
use Rattle.std.proofs.lemmas.Bool.Decides.{nat_tests, Decides-eqb}
use Rattle.std.proofs.lemmas.List.{length-append, append-nil, take_at, drop_at}
use Rattle.std.proofs.lemmas.Slice.Eq.{slice_eq-Decides}
use Rattle.device_port.specs.Moves.{padded}
use Rattle.device_port.specs.Packed.{image_of}
use Rattle.device_port.proofs.Items.{length-padded}
use Rattle.ckd_disk.specs.declared.volume.VolumeError.{VolumeError}
use Rattle.ckd_disk.specs.declared.volume.VolumeError.TheVariants as volume
use Rattle.ckd_disk.specs.Record.{Record, ckd}
use Rattle.ckd_disk.specs.Track.{TrackState, bytes_of}
use Rattle.ckd_disk.specs.Volume.{VolumeState, Stops, end_mark, is_whole}
use Rattle.ckd_image.specs.declared.fault.CkdError.{CkdError}
use Rattle.ckd_image.specs.declared.fault.CkdFault.{CkdFault}
use Rattle.ckd_image.specs.declared.fault.CkdFault.TheVariants as fault
use Rattle.ckd_image.specs.declared.format.Format.{Format}
use Rattle.ckd_image.specs.declared.kept.DiskImage.{DiskImage}
use Rattle.ckd_image.specs.Header.{format_of}
use Rattle.ckd_image.specs.Image.{KeptTrackState, KeptState, kept_at, home_of, after_home, track_file, tracks_file, file_of, IsRecorded}
use Rattle.ckd_image.specs.Image.{IsImageBegun, IsImage}
use Rattle.ckd_image.specs.Loading.{IsFault, Loaded, FailsTrack, FailsImage, FailsIn, LoadsVolume, is_home}
use Rattle.ckd_image.proofs.Files.{no_files, small_track}
use Rattle.ckd_image.proofs.Records.{same_records, unstopped}

-- ---- one track

records_from : (f : Format) (n : ℕ) (k : KeptTrackState) (records : List Record) →
    drop 5 (track_file f n k records) ≡ after_home f.bytes k records
records_from f n k records = drop_at (k.flag ∷ home_of f.heads n) (after_home f.bytes k records) 5 refl

track_long : (f : Format) (n : ℕ) (k : KeptTrackState) (records : List Record) → bytes_of records + 14 ≤ f.bytes →
    length (track_file f n k records) ≡ f.bytes
track_long f n k records room =
    let image = image_of ckd records in
    let rest = padded (f.bytes - 13 - bytes_of records) k.tail in
    omega (
      arith,
      room,
      length-append (k.flag ∷ home_of f.heads n) (after_home f.bytes k records),
      length-append image (end_mark ++ rest),
      length-append end_mark rest,
      length-padded (f.bytes - 13 - bytes_of records) k.tail,
    )

same_track : (f : Format) (n size : ℕ) (k l : KeptTrackState) (t u : TrackState) → size ≤ 65_535 → IsRecorded size t → IsRecorded size u
    → track_file f n k t.records ≡ track_file f n l u.records → t ≡ u
same_track f n size k l t u small is are e =
    let same : after_home f.bytes k t.records ≡ after_home f.bytes l u.records =
    sym (records_from f n k t.records) ∙ ap (drop 5) e ∙ records_from f n l u.records in
    let records : t.records ≡ u.records = same_records t.records u.records _ _ is.fits are.fits (omega (arith, is.within, small))
    (omega (arith, are.within, small)) same in
    let made : ℕ → List Record → TrackState = λ s r. record { size = s; records = r } in
    ap (λ (s : ℕ). made s t.records) (is.size ∙ sym are.size) ∙ ap (made u.size) records

-- ---- tracks that the same bytes begin with

record Continues (f : Format) (kept : ℕ → KeptTrackState) (size number : ℕ) (all first : List TrackState) (rest : List ℕ) : Type 0 where
  more : List TrackState
  tracks : all ≡ first ++ more
  each : AllByRecursion (IsRecorded size) more
  bytes : rest ≡ tracks_file f kept (number + length first) more

continues : (f : Format) (k l : ℕ → KeptTrackState) (size n : ℕ) (all first : List TrackState) (rest : List ℕ) → size + 14 ≡ f.bytes
    → size ≤ 65_535 → AllByRecursion (IsRecorded size) all → AllByRecursion (IsRecorded size) first
    → tracks_file f k n all ≡ tracks_file f l n first ++ rest → Continues f k size n all first rest
unfolding tracks_file
continues f k l size n all [] rest wide small each well e =
    let same : n ≡ n + 0 = omega arith in
    record {
      more = all;
      tracks = refl;
      each = each;
      bytes = sym e ∙ ap (λ (i : ℕ). tracks_file f k i all) same;
    }
continues f k l size n [] (u ∷ first) rest wide small each well e =
    let long = track_long f n (l n) u.records (omega (arith, wide, well.0.within)) in
    absurd (omega (
      arith,
      wide,
      long,
      ap length e,
      length-append (track_file f n (l n) u.records ++ tracks_file f l (n + 1) first) rest,
      length-append (track_file f n (l n) u.records) (tracks_file f l (n + 1) first),
    ))
continues f k l size n (t ∷ all) (u ∷ first) rest wide small each well e =
    let one = track_file f n (k n) t.records in
    let two = track_file f n (l n) u.records in
    let left = tracks_file f k (n + 1) all in
    let right = tracks_file f l (n + 1) first ++ rest in
    let one-long : length one ≡ f.bytes = track_long f n (k n) t.records (omega (arith, wide, each.0.within)) in
    let two-long : length two ≡ f.bytes = track_long f n (l n) u.records (omega (arith, wide, well.0.within)) in
    let grouped : one ++ left ≡ two ++ right = e ∙ append_assoc two (tracks_file f l (n + 1) first) rest in
    let here : one ≡ two = sym (take_at one left f.bytes one-long) ∙ ap (take f.bytes) grouped ∙ take_at two right f.bytes two-long in
    let behind : left ≡ right = sym (drop_at one left f.bytes one-long) ∙ ap (drop f.bytes) grouped ∙ drop_at two right f.bytes two-long in
    let same : t ≡ u = same_track f n size (k n) (l n) t u small each.0 well.0 here in
    let c = continues f k l size (n + 1) all first rest wide small each.1 well.1 behind in
    let place : n + 1 + length first ≡ n + suc (length first) = omega arith in
    record {
      more = c.more;
      tracks = ap (λ (x : TrackState). x ∷ all) same ∙ ap (λ (ts : List TrackState). u ∷ ts) c.tracks;
      each = c.each;
      bytes = c.bytes ∙ ap (λ (i : ℕ). tracks_file f k i c.more) place;
    }

-- ---- images that begin with the same bytes

-- a volume has the first tracks of another, and `rest` are the others
record Begins (f g : Format) (kept : KeptState) (all first : VolumeState) (rest : List ℕ) : Type 0 where
  format : f ≡ g
  heads : all.heads ≡ first.heads
  bytes : all.track_bytes ≡ first.track_bytes
  small : all.track_bytes ≤ 65_535
  wide : all.track_bytes + 14 ≡ f.bytes
  tracks : Continues f (kept_at kept.tracks) all.track_bytes 0 all.tracks first.tracks rest

ok_same : (f g : Format) (a b : Result Format CkdError) → a ≡ Ok f → b ≡ Ok g → a ≡ b → f ≡ g
ok_same f g a b is are e = grind (arith, is, are, e)

begins : (f g : Format) (kept given : KeptState) (v u : VolumeState) (rest : List ℕ) → IsImageBegun f kept v → IsImageBegun g given u →
    file_of f kept v.tracks ≡ file_of g given u.tracks ++ rest → Begins f g kept v u rest
begins f g kept given v u rest is are e =
    let k = kept_at kept.tracks in
    let l = kept_at given.tracks in
    let left = tracks_file f k 0 v.tracks in
    let right = tracks_file g l 0 u.tracks ++ rest in
    let grouped : kept.header ++ left ≡ given.header ++ right = e ∙ append_assoc given.header (tracks_file g l 0 u.tracks) rest in
    let header : kept.header ≡ given.header = sym (take_at kept.header left 512 is.long) ∙ ap (take 512) grouped
    ∙ take_at given.header right 512 are.long in
    let behind : left ≡ right = sym (drop_at kept.header left 512 is.long) ∙ ap (drop 512) grouped
    ∙ drop_at given.header right 512 are.long in
    let same : f ≡ g = ok_same f g _ _ is.header are.header (ap format_of header) in
    let files : left ≡ tracks_file f l 0 u.tracks ++ rest = behind ∙ ap (λ (x : Format). tracks_file x l 0 u.tracks ++ rest) (sym same) in
    let bytes : v.track_bytes ≡ u.track_bytes = omega (arith, is.bytes, are.bytes, ap (λ (x : Format). x.bytes) same) in
    let small : v.track_bytes ≤ 65_535 = omega (arith, is.bytes, small_track kept.header f is.header) in
    let first = subst (λ (n : ℕ). AllByRecursion (IsRecorded n) u.tracks) (sym bytes) are.tracks in
    record {
      format = same;
      heads = is.heads ∙ ap (λ (x : Format). x.heads) same ∙ sym are.heads;
      bytes = bytes;
      small = small;
      wide = is.bytes;
      tracks = continues f k l v.track_bytes 0 v.tracks u.tracks rest is.bytes small is.tracks first files;
    }

-- no track in fewer bytes than one
no_more : (f : Format) (k : ℕ → KeptTrackState) (size n : ℕ) (more : List TrackState) (rest : List ℕ) → size + 14 ≡ f.bytes
    → AllByRecursion (IsRecorded size) more → rest ≡ tracks_file f k n more → length rest < f.bytes → more ≡ []
unfolding tracks_file
no_more f k size n [] rest wide each e short = refl
no_more f k size n (t ∷ more) rest wide each e short =
    absurd (omega (
      arith,
      ap length e,
      short,
      track_long f n (k n) t.records (omega (arith, wide, each.0.within)),
      length-append (track_file f n (k n) t.records) (tracks_file f k (n + 1) more),
    ))

nothing_more : (f g : Format) (kept : KeptState) (v u : VolumeState) (rest : List ℕ) (b : Begins f g kept v u rest)
    → length rest < f.bytes →
    b.tracks.more ≡ []
nothing_more f g kept v u rest b short =
    no_more f (kept_at kept.tracks) v.track_bytes (0 + length u.tracks) b.tracks.more rest b.wide b.tracks.each b.tracks.bytes short

same_volume : (f g : Format) (kept : KeptState) (v u : VolumeState) (rest : List ℕ) → Begins f g kept v u rest
    → length rest < f.bytes → u ≡ v
same_volume f g kept v u rest b short =
    let none = nothing_more f g kept v u rest b short in
    let tracks : v.tracks ≡ u.tracks = b.tracks.tracks ∙ ap (λ (l : List TrackState). u.tracks ++ l) none ∙ append-nil u.tracks in
    let made : ℕ → ℕ → List TrackState → VolumeState = λ h n ts. record { heads = h; track_bytes = n; tracks = ts } in
    sym (ap (λ (h : ℕ). made h v.track_bytes v.tracks) b.heads ∙ ap (λ (n : ℕ). made u.heads n v.tracks) b.bytes
    ∙ ap (made u.heads u.track_bytes) tracks)

-- ---- THE LAW: what was read from the bytes of an image is its volume

-- what a reader of these bytes has left
record Left (bytes read : List ℕ) (new : Option (List ℕ)) : Type 0 where
  left : List ℕ
  parts : bytes ≡ read ++ left
  end : IsAtEnd new → left ≡ []

left_by : (bytes read : List ℕ) (new : Option (List ℕ)) → Consumes (Some bytes) new read → Left bytes read new
left_by bytes read None h = absurd h
left_by bytes read (Some left) h = record { left = left; parts = h; end = λ e. e }

left_of : (bytes read : List ℕ) (old new : Option (List ℕ)) → old ≡ Some bytes → Consumes old new read → Left bytes read new
left_of bytes read old new e h = left_by bytes read new (subst (λ (o : Option (List ℕ)). Consumes o new read) e h)

loaded_same : (bytes : List ℕ) (v : VolumeState) (old new : Option (List ℕ)) (image : DiskImage) → old ≡ Some bytes → IsImage bytes v →
    Loaded old new image → image.volume ≡ v
loaded_same bytes v old new image old-is is l =
    let r = left_of bytes _ old new old-is l.read in
    let b = begins is.format l.format is.kept image.kept v image.volume r.left is.valid.begun l.valid.begun (sym is.file ∙ r.parts) in
    same_volume is.format l.format is.kept v image.volume r.left b (omega (arith, ap length (r.end l.end), b.wide))

-- ---- THE LAW: no rule refuses the bytes of an image

records_unstopped : (f : Format) (v : VolumeState) (k : KeptTrackState) (t : TrackState) (track : List ℕ) (error : VolumeError)
    → v.track_bytes ≤ 65_535 → IsRecorded v.track_bytes t → track ≡ track_file f (length v.tracks) k t.records →
    Stops v.track_bytes (drop 5 track) error → ⊥
records_unstopped f v k t track error small is e why =
    let rest = padded (f.bytes - 13 - bytes_of t.records) k.tail in
    unstopped v.track_bytes (drop 5 track) t.records rest error is.fits is.some is.within small
    (ap (drop 5) e ∙ records_from f (length v.tracks) k t.records) why

track_fails : (f : Format) (v : VolumeState) (k : KeptTrackState) (t : TrackState) (track : List ℕ) (fault : CkdFault) (at : ℕ)
    → IsFault fault → v.track_bytes ≤ 65_535 → IsRecorded v.track_bytes t → length v.tracks + 1 ≤ 65_535
    → track ≡ track_file f (length v.tracks) k t.records → FailsTrack f v track fault at → ⊥
track_fails f v k t track fault.HeaderCutShort at known small is few e never = never
track_fails f v k t track fault.Compressed at known small is few e never = never
track_fails f v k t track fault.BadEyeCatcher at known small is few e never = never
track_fails f v k t track fault.SplitVolume at known small is few e never = never
track_fails f v k t track fault.BadHeads at known small is few e never = never
track_fails f v k t track fault.BadTrackBytes at known small is few e never = never
track_fails f v k t track fault.CutShort at known small is few e never = never
track_fails f v k t track fault.TooManyTracks at known small is few e why = grind (arith, nat_tests, few, why)
track_fails f v k t track fault.BadHomeAddress at known small is few e why =
    let n = length v.tracks in
    let home : take 4 (drop 1 track) ≡ home_of f.heads n = ap (λ (l : List ℕ). take 4 (drop 1 l)) e
    ∙ take_at (home_of f.heads n) (after_home f.bytes k t.records) 4 refl in
    let same : is_home f.heads n track ≡ true = (slice_eq-Decides Decides-eqb _ _ (is_home f.heads n track) refl).1 home in
    true≢false (sym same ∙ why.1)
track_fails f v k t track fault.NoRecord at known small is few e why =
    records_unstopped f v k t track volume.NoRecord small is e why.1
track_fails f v k t track fault.NoEndMark at known small is few e why =
    records_unstopped f v k t track (volume.NoEndMark why.1.0) small is e why.1.1
track_fails f v k t track fault.PastTrack at known small is few e why =
    records_unstopped f v k t track (volume.PastTrack why.1.0) small is e why.1.1
track_fails f v k t track fault.Unreadable at known small is few e never = never
track_fails f v k t track fault.NoMemory at known small is few e why = known.memory refl

-- the next track is there, or nothing follows
record Next (f : Format) (u : VolumeState) (track : List ℕ) : Type 0 where
  kept : KeptTrackState
  there : TrackState
  recorded : IsRecorded u.track_bytes there
  file : track ≡ track_file f (length u.tracks) kept there.records

next_by : (f : Format) (k : ℕ → KeptTrackState) (size n : ℕ) (u : VolumeState) (more : List TrackState) (track rest : List ℕ)
    → size + 14 ≡ f.bytes → size ≡ u.track_bytes → n ≡ length u.tracks → AllByRecursion (IsRecorded size) more → length track ≡ f.bytes
    → track ++ rest ≡ tracks_file f k n more → Next f u track × (1 ≤ length more)
unfolding tracks_file
next_by f k size n u [] track rest wide size-is n-is each long e =
    absurd (omega (arith, ap length e, long, wide, length-append track rest))
next_by f k size n u (t ∷ more) track rest wide size-is n-is each long e =
    let one = track_file f n (k n) t.records in
    let others = tracks_file f k (n + 1) more in
    let one-long : length one ≡ f.bytes = track_long f n (k n) t.records (omega (arith, wide, each.0.within)) in (
      record {
        kept = k n;
        there = t;
        recorded = subst (λ (m : ℕ). IsRecorded m t) size-is each.0;
        file = sym (take_at track rest f.bytes long) ∙ ap (take f.bytes) e ∙ take_at one others f.bytes one-long
            ∙ ap (λ (i : ℕ). track_file f i (k n) t.records) n-is;
      },
      omega arith,
    )

fails : (bytes read left : List ℕ) (v : VolumeState) (new : Option (List ℕ)) (e : CkdError) → IsImage bytes v → bytes ≡ read ++ left →
    (IsAtEnd new → left ≡ []) → IsFault e.fault → FailsIn new read e → ⊥
fails bytes read left v new e is parts end known (inl h) =
    let tracks = tracks_file is.format (kept_at is.kept.tracks) 0 v.tracks in
    omega (
      arith,
      ap length parts,
      ap length (end h.end),
      length-append read left,
      h.short,
      ap length is.file,
      length-append is.kept.header tracks,
      is.valid.begun.long,
    )
fails bytes read left v new e is parts end known (inr (inl h)) =
    let b = is.valid.begun in
    let tracks = tracks_file is.format (kept_at is.kept.tracks) 0 v.tracks in
    let header : is.kept.header ≡ read = sym (take_at is.kept.header tracks 512 b.long) ∙ ap (take 512) (sym is.file ∙ parts)
    ∙ take_at read left 512 h.long in
    ok_err is.format e _ (sym (ap format_of header) ∙ b.header) h.fails
  where
    ok_err : (f : Format) (e : CkdError) (r : Result Format CkdError) → r ≡ Ok f → r ≡ Err e → ⊥
    ok_err f e r is are = grind (arith, is, are)
fails bytes read left v new e is parts end known (inr (inr (inl h))) =
    let w = h.well in
    let u = w.volume in
    let whole : file_of is.format is.kept v.tracks ≡ file_of w.format w.kept u.tracks ++ (w.rest ++ left) =
    sym is.file ∙ parts ∙ ap (λ (l : List ℕ). l ++ left) w.parts ∙ append_assoc (file_of w.format w.kept u.tracks) w.rest left in
    let b = begins is.format w.format is.kept w.kept v u (w.rest ++ left) is.valid.begun w.begun whole in
    let c = b.tracks in
    let same : w.format.bytes ≡ is.format.bytes = sym (ap (λ (x : Format). x.bytes) b.format) in
    let n = next_by is.format (kept_at is.kept.tracks) v.track_bytes (0 + length u.tracks) u c.more w.rest left b.wide b.bytes (omega arith)
    c.each (h.long ∙ same) c.bytes in
    let few : length u.tracks + 1 ≤ 65_535 = omega (arith, is.valid.few, ap length c.tracks, length-append u.tracks c.more, n.1) in
    let file = n.0.file ∙ ap (λ (x : Format). track_file x (length u.tracks) n.0.kept n.0.there.records) b.format in
    track_fails w.format u n.0.kept n.0.there w.rest e.fault h.at known (omega (arith, b.small, b.bytes)) n.0.recorded few file h.fails
fails bytes read left v new e is parts end known (inr (inr (inr h))) =
    let w = h.well in
    let u = w.volume in
    let nothing : left ≡ [] = end h.end in
    let whole : file_of is.format is.kept v.tracks ≡ file_of w.format w.kept u.tracks ++ w.rest =
    sym is.file ∙ parts ∙ ap (λ (l : List ℕ). read ++ l) nothing ∙ append-nil read ∙ w.parts in
    let b = begins is.format w.format is.kept w.kept v u w.rest is.valid.begun w.begun whole in
    let same : w.format.bytes ≡ is.format.bytes = sym (ap (λ (x : Format). x.bytes) b.format) in
    let short : length w.rest < is.format.bytes = omega (arith, h.short, same) in
    let more = b.tracks.more in
    let k = kept_at is.kept.tracks in
    let rest : w.rest ≡ [] = b.tracks.bytes
    ∙ no_files is.format k (0 + length u.tracks) more (nothing_more is.format w.format is.kept v u w.rest b short) in
    let u-is : u ≡ v = same_volume is.format w.format is.kept v u w.rest b short in
    elim h.cut [
      | inl some ↦ omega (arith, some, ap length rest)
      | inr not_whole ↦ true≢false (sym is.valid.whole ∙ ap is_whole (sym u-is) ∙ not_whole)
    ]

-- ---- THE LAW: the bytes of an image are read back

-- a rule of the format, or not
abbrev is_rule : CkdFault → Bool
is_rule fault.Unreadable = false
is_rule fault.NoMemory = false
is_rule c = true

rule : (c : CkdFault) → is_rule c ≡ true → IsFault c
rule c is = record {
  readable = λ (e : c ≡ fault.Unreadable). true≢false (sym is ∙ ap is_rule e);
  memory = λ (e : c ≡ fault.NoMemory). true≢false (sym is ∙ ap is_rule e);
}

other : (c : CkdFault) → (IsFault c → ⊥) → (c ≡ fault.Unreadable) ⊎ (c ≡ fault.NoMemory)
other fault.HeaderCutShort never = absurd (never (rule fault.HeaderCutShort refl))
other fault.Compressed never = absurd (never (rule fault.Compressed refl))
other fault.BadEyeCatcher never = absurd (never (rule fault.BadEyeCatcher refl))
other fault.SplitVolume never = absurd (never (rule fault.SplitVolume refl))
other fault.BadHeads never = absurd (never (rule fault.BadHeads refl))
other fault.BadTrackBytes never = absurd (never (rule fault.BadTrackBytes refl))
other fault.CutShort never = absurd (never (rule fault.CutShort refl))
other fault.TooManyTracks never = absurd (never (rule fault.TooManyTracks refl))
other fault.BadHomeAddress never = absurd (never (rule fault.BadHomeAddress refl))
other fault.NoRecord never = absurd (never (rule fault.NoRecord refl))
other fault.NoEndMark never = absurd (never (rule fault.NoEndMark refl))
other fault.PastTrack never = absurd (never (rule fault.PastTrack refl))
other fault.Unreadable never = inl refl
other fault.NoMemory never = inr refl

pub reads_back : (old new : Option (List ℕ)) (result : Result DiskImage CkdError) → IfOk result (Loaded old new)
    → IfErr result (λ e. IsFault e.fault → FailsImage old new e) → (bytes : List ℕ) (v : VolumeState) → old ≡ Some bytes → IsImage bytes v →
    LoadsVolume v result
reads_back old new (Ok image) loaded failed bytes v old-is is = loaded_same bytes v old new image old-is is loaded
reads_back old new (Err e) loaded failed bytes v old-is is = other e.fault (λ (known : IsFault e.fault).
    let f = failed known in
    let r = left_of bytes f.0 old new old-is f.1 in
    fails bytes f.0 r.left v new e is r.parts r.end known f.2)
