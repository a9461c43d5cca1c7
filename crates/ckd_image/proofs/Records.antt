-- The records that the bytes of a track begin with are the only ones.
use Rattle.std.proofs.Common.{◌≡◌, ℕ, ◌+◌, ◌<◌, ◌≤◌, true, false, List, [], ◌∷◌, ◌++◌, length, drop, refl, sym, ap, ◌∙◌, append_assoc, arith}
use Rattle.std.specs.List.{AllByRecursion}
use Rattle.std.proofs.lemmas.Bool.{true≢false}
use Rattle.std.proofs.lemmas.Bool.Decides.{Decides-eqb}
use Rattle.std.proofs.lemmas.List.{length-append, append-nil, append_cancel_left}
use Rattle.std.proofs.lemmas.Slice.Eq.{starts_is}
use Rattle.device_port.specs.Packed.{image_of}
use Rattle.ckd_disk.specs.declared.volume.VolumeError.{VolumeError}
use Rattle.ckd_disk.specs.declared.volume.VolumeError.TheVariants as volume
use Rattle.ckd_disk.specs.Record.{Record, ckd, packed, record_at, size_at, FitsCountArea}
use Rattle.ckd_disk.specs.Track.{bytes_of}
use Rattle.ckd_disk.specs.Volume.{end_mark, is_end, Stops}
use Rattle.ckd_disk.proofs.Packing.{reads}

-- ---- the end mark is no record that fits a track

end_size : (bytes : List ℕ) → is_end bytes ≡ true → size_at bytes ≡ 65_798
end_size bytes e =
    let parts : bytes ≡ end_mark ++ drop 8 bytes = (starts_is Decides-eqb bytes end_mark (is_end bytes) refl).0 e in
    ap size_at parts

ends : (bytes after : List ℕ) → bytes ≡ end_mark ++ after → is_end bytes ≡ true
ends bytes after e = (starts_is Decides-eqb bytes end_mark (is_end bytes) refl).1 after e

-- the first record
first_size : (r : Record) (l : List Record) (rest : List ℕ) → FitsCountArea r → size_at (image_of ckd (r ∷ l) ++ rest) ≡ length (packed r)
first_size r l rest fits = ap size_at (append_assoc (packed r) (image_of ckd l) rest) ∙ reads.size r (image_of ckd l ++ rest) fits

first_within : (l : List Record) (bytes rest : List ℕ) → AllByRecursion FitsCountArea l → 0 < length l → bytes ≡ image_of ckd l ++ rest →
    size_at bytes ≤ bytes_of l
first_within [] bytes rest fits some e = absurd (omega arith)
first_within (r ∷ l) bytes rest fits some e =
    omega (arith, ap size_at e, first_size r l rest fits.0, length-append (packed r) (image_of ckd l))

-- ---- records that the same bytes begin with

record Follows (all first : List Record) (rest after : List ℕ) : Type 0 where
  more : List Record
  records : all ≡ first ++ more
  fits : AllByRecursion FitsCountArea more
  bytes : rest ≡ image_of ckd more ++ after

follows : (all first : List Record) (rest after : List ℕ) → AllByRecursion FitsCountArea all → AllByRecursion FitsCountArea first
    → bytes_of first ≤ 65_535 → image_of ckd all ++ (end_mark ++ after) ≡ image_of ckd first ++ rest
    → Follows all first rest (end_mark ++ after)
follows all [] rest after fits well few e = record { more = all; records = refl; fits = fits; bytes = sym e }
follows [] (g ∷ first) rest after fits well few e =
    absurd (omega (
      arith,
      few,
      end_size (end_mark ++ after) (ends (end_mark ++ after) after refl),
      first_within (g ∷ first) (end_mark ++ after) rest well (omega arith) e,
    ))
follows (r ∷ all) (g ∷ first) rest after fits well few e =
    let left = image_of ckd all ++ (end_mark ++ after) in
    let right = image_of ckd first ++ rest in
    let grouped : packed r ++ left ≡ packed g ++ right =
    sym (append_assoc (packed r) (image_of ckd all) (end_mark ++ after)) ∙ e ∙ append_assoc (packed g) (image_of ckd first) rest in
    let same : r ≡ g = sym (reads.item r left fits.0) ∙ ap record_at grouped ∙ reads.item g right well.0 in
    let behind : left ≡ right = append_cancel_left (packed g) left right (ap (λ (x : Record). packed x ++ left) (sym same) ∙ grouped) in
    let f = follows all first rest after fits.1 well.1 (omega (arith, few, length-append (packed g) (image_of ckd first))) behind in
    record {
      more = f.more;
      records = ap (λ (x : Record). x ∷ all) same ∙ ap (λ (l : List Record). g ∷ l) f.records;
      fits = f.fits;
      bytes = f.bytes;
    }

-- what follows is not the end mark: another record follows, which lies in the track
record Lies (all first : List Record) (rest : List ℕ) : Type 0 where
  size : bytes_of first + size_at rest ≤ bytes_of all

lies_by : (more all first : List Record) (rest after : List ℕ) → AllByRecursion FitsCountArea more
    → rest ≡ image_of ckd more ++ (end_mark ++ after)
    → image_of ckd all ++ (end_mark ++ after) ≡ image_of ckd first ++ rest → is_end rest ≡ false → Lies all first rest
lies_by [] all first rest after fits is e unended = absurd (true≢false (sym (ends rest after is) ∙ unended))
lies_by (x ∷ more) all first rest after fits is e unended = record {
  size = omega (
    arith,
    first_within (x ∷ more) rest (end_mark ++ after) fits (omega arith) is,
    ap length is,
    ap length e,
    length-append (image_of ckd (x ∷ more)) (end_mark ++ after),
    length-append (image_of ckd all) (end_mark ++ after),
    length-append (image_of ckd first) rest,
  );
}

lies : (all first : List Record) (rest after : List ℕ) → AllByRecursion FitsCountArea all → AllByRecursion FitsCountArea first
    → bytes_of first ≤ 65_535 → image_of ckd all ++ (end_mark ++ after) ≡ image_of ckd first ++ rest → is_end rest ≡ false
    → Lies all first rest
lies all first rest after fits well few e unended =
    let f = follows all first rest after fits well few e in
    lies_by f.more all first rest after f.fits f.bytes e unended

-- ---- THE LAWS: records that end in the end mark are the only ones, and bytes that have them are not refused

same_by : (more all first : List Record) (after next : List ℕ) → AllByRecursion FitsCountArea more → all ≡ first ++ more
    → end_mark ++ next ≡ image_of ckd more ++ (end_mark ++ after) → bytes_of more ≤ 65_535 → all ≡ first
same_by [] all first after next fits is e few = is ∙ append-nil first
same_by (x ∷ more) all first after next fits is e few =
    absurd (omega (
      arith,
      few,
      end_size (end_mark ++ next) (ends (end_mark ++ next) next refl),
      first_within (x ∷ more) (end_mark ++ next) (end_mark ++ after) fits (omega arith) e,
    ))

pub same_records : (all first : List Record) (after next : List ℕ) → AllByRecursion FitsCountArea all → AllByRecursion FitsCountArea first
    → bytes_of all ≤ 65_535 → bytes_of first ≤ 65_535
    → image_of ckd all ++ (end_mark ++ after) ≡ image_of ckd first ++ (end_mark ++ next) → all ≡ first
same_records all first after next fits well few short e =
    let f = follows all first (end_mark ++ next) after fits well short e in
    let size : bytes_of f.more ≤ 65_535 = omega (
      arith,
      few,
      ap length f.bytes,
      ap length e,
      length-append (image_of ckd f.more) (end_mark ++ after),
      length-append (image_of ckd all) (end_mark ++ after),
      length-append (image_of ckd first) (end_mark ++ next),
    ) in
    same_by f.more all first after next f.fits f.records f.bytes size

pub unstopped : (size : ℕ) (bytes : List ℕ) (records : List Record) (after : List ℕ) (error : VolumeError)
    → AllByRecursion FitsCountArea records
    → 0 < length records → bytes_of records ≤ size → size ≤ 65_535 → bytes ≡ image_of ckd records ++ (end_mark ++ after) →
    Stops size bytes error → ⊥
unstopped size bytes records after volume.BadHeads fits some within small is never = never
unstopped size bytes records after volume.BadTrackBytes fits some within small is never = never
unstopped size bytes records after volume.TooManyTracks fits some within small is never = never
unstopped size bytes records after volume.NoRecord fits some within small is ended =
    omega (arith, within, small, end_size bytes ended, first_within records bytes (end_mark ++ after) fits some is)
unstopped size bytes records after (volume.NoEndMark at) fits some within small is why =
    let g = why.0 in
    let l = lies records g.records g.rest after fits g.fits (omega (arith, g.taken, g.within, small)) (sym is ∙ g.parts) g.unended in
    omega (arith, why.1, l.size, g.taken, within, ap length is, length-append (image_of ckd records) (end_mark ++ after))
unstopped size bytes records after (volume.PastTrack at) fits some within small is why =
    let g = why.0 in
    let l = lies records g.records g.rest after fits g.fits (omega (arith, g.taken, g.within, small)) (sym is ∙ g.parts) g.unended in
    omega (arith, why.2, l.size, g.taken, within, ap length is, length-append (image_of ckd records) (end_mark ++ after))
unstopped size bytes records after volume.NoMemory fits some within small is never = never
