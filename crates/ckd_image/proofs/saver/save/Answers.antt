use Rattle.std.proofs.Common.{◌≡◌, ◌+◌, ◌%◌, ◌<◌, ◌≤◌, ℕ, List, length, take, Ok, ap, subst, sym, ◌∙◌, arith}
use Rattle.std.specs.Io.KnownBytes.{Appends}
use Rattle.std.proofs.KnownBytes.{Keeps-refl}
use Rattle.std.specs.List.{AllByRecursion}
use Rattle.std.proofs.lemmas.Bool.{true≢false}
use Rattle.device_port.specs.Packed.{image_of}
use Rattle.ckd_disk.specs.Record.{ckd}
use Rattle.ckd_disk.specs.Disk.{track_of}
use Rattle.ckd_disk.specs.Volume.{VolumeState}
use Rattle.ckd_image.specs.declared.format.Format.{Format}
use Rattle.ckd_image.specs.Header.{format_of}
use Rattle.ckd_image.specs.Image.{home_of, IsRecorded}
use Rattle.ckd_image.specs.Saving.{track_bytes_with, kept_with, format_on, IsAsRead}
use Rattle.ckd_image.proofs.Writing.{first_none, first_more, first_all, recorded_more, whole_disk, is_image, says_format, savable, size_of_each, as_read}
use Rattle.ckd_image.proofs.saver.save.Goals as goal
use Rattle.ckd_image.proofs.saver.save.Goals.{then-size-gt65535-via-then-size-gt65535}
use Rattle.ckd_image.proofs.saver.save.Goals.{then-size-gt65535-via-else-size-gt65535+then-not-is_of}
use Rattle.ckd_image.proofs.saver.save.Goals.{then-size-gt65535-via-else-size-gt65535+else-not-is_of+then-count-gt65535}
use Rattle.ckd_image.proofs.saver.save.Goals.{then-size-gt65535-via-else-size-gt65535+else-not-is_of+else-count-gt65535+then-count-from-ne0}

pub loop-number-init : goal.loop-number-init
loop-number-init g c = record {
  written = subst (λ (l : List ℕ). Appends (g.W.Write.contents c.args.writer.now) (g.W.Write.contents c.write_all.new.self) l)
      (c.header-header.ensures.header ∙ first_none c.args.kept.now c.args.mounted.now c.args.disk.now) ((c.in-Ok.ensures {u = tt}).bytes);
  each = tt;
}

pub loop-number-preserved : goal.loop-number-preserved
loop-number-preserved g c =
    let kept = c.args.kept.now in
    let mounted = c.args.mounted.now in
    let disk = c.args.disk.now in
    let n = c.loop-number.number in
    let now = g.W.Write.contents c.loop-number.writer in
    let next = g.W.Write.contents c.write_all-in-loop-number.new.self in
    let lt : n < length disk.tracks = omega (arith, c.loop-number-test.true, c.tracks-count.ensures.tracks) in
    let bytes = c.track_bytes-size.result + 14 in
    let flag = c.kept_with-flag.result.0 in
    let tail = c.kept_with-flag.result.1.now in
    let home = c.address-home.result in
    let records = c.track_image-records.result.now in
    let image = image_of ckd (track_of disk.tracks n).records in
    let same : records ≡ image = c.track_image-records.ensures.image in
    let wide = (track_of disk.tracks 0).size + 14 in
    let k = kept_with kept mounted.tracks image n in
    let flag-is : flag ≡ k.flag = c.kept_with-flag.ensures.flag
    ∙ ap (λ (l : List ℕ). (kept_with kept mounted.tracks l n).flag) same in
    let tail-is : tail ≡ k.tail = c.kept_with-flag.ensures.tail
    ∙ ap (λ (l : List ℕ). (kept_with kept mounted.tracks l n).tail) same in
    let home-is : home ≡ home_of disk.heads n = c.address-home.ensures ∙ ap (λ (h : ℕ). home_of h n) c.heads-heads.ensures in
    let track-is = (c.in_ok-put_track.ensures {u = tt}).put
    ∙ ap (λ (b : ℕ). track_bytes_with (b + 14) flag home records tail) c.track_bytes-size.ensures
    ∙ ap (λ (x : ℕ). track_bytes_with wide x home records tail) flag-is
    ∙ ap (λ (l : List ℕ). track_bytes_with wide k.flag l records tail) home-is
    ∙ ap (λ (l : List ℕ). track_bytes_with wide k.flag (home_of disk.heads n) l tail) same
    ∙ ap (λ (l : List ℕ). track_bytes_with wide k.flag (home_of disk.heads n) image l) tail-is in
    let put = subst (λ (l : List ℕ). Appends now next l) c.deref-in-loop-number.ensures.value
    ((c.in-Ok-write_all.ensures {u = tt}).bytes) in
    let size-is : (track_of disk.tracks n).size ≡ c.track_bytes-size.result =
    omega (arith, c.track_bytes.ensures, c.if-track_bytes-size.false) in
    record {
      written = first_more kept mounted disk n (g.W.Write.contents c.args.writer.now) now next c.put_track.new.track.items lt
          c.loop-number.invariant.written put track-is;
      each = recorded_more c.track_bytes-size.result n disk.tracks lt c.loop-number.invariant.each (record {
        size = size-is;
        fits = c.track_image-records.ensures.fits;
        some = c.track_image-records.ensures.some;
        within = omega (arith, ap length same, c.track_image-records.ensures.within, size-is);
      });
    }

pub returns-clause-saved : goal.returns-clause-saved
returns-clause-saved g c =
    first_all c.args.kept.now c.args.mounted.now c.args.disk.now c.loop-number.number (g.W.Write.contents c.args.writer.now)
    (g.W.Write.contents c.loop-number.writer) (omega (arith, c.loop-number-test.false, c.tracks-count.ensures.tracks))
    c.loop-number.invariant.written

pub returns-clause-read_back : goal.returns-clause-read_back
returns-clause-read_back g c =
    let kept = c.args.kept.now in
    let mounted = c.args.mounted.now in
    let disk = c.args.disk.now in
    let size = c.track_bytes-size.result in
    let says : format_of kept.header ≡ Ok (format_on disk) = c.is_of.ensures.format.0 c.if-not-is_of.false
    ∙ says_format disk c.heads-heads.result size c.heads-heads.ensures c.track_bytes-size.ensures in
    let long : length kept.header ≡ 512 = sym (ap length c.header-header.ensures.header) ∙ c.header-header.ensures.long in
    let few : length disk.tracks ≤ 65_535 = omega (arith, c.tracks-count.ensures.tracks, c.if-count-gt65535.false) in
    let end : length disk.tracks ≤ c.loop-number.number = omega (arith, c.loop-number-test.false, c.tracks-count.ensures.tracks) in
    let whole = whole_disk disk c.tracks-count.result c.from.result c.tracks-count.ensures.tracks (c.from.ensures ∙ c.heads-heads.ensures)
    c.tracks-count.ensures.some (omega (arith, c.if-count-from-ne0.false)) in
    is_image kept mounted disk c.loop-number.number says long few whole end
    (subst (λ (n : ℕ). AllByRecursion (IsRecorded n) (take c.loop-number.number disk.tracks))
    c.track_bytes-size.ensures c.loop-number.invariant.each)

pub returns-clause-same : goal.returns-clause-same
returns-clause-same g c = λ (f : Format) (v : VolumeState) (is : IsAsRead f c.args.kept.now v c.args.mounted.now c.args.disk.now).
    subst (λ (l : List ℕ). Appends (g.W.Write.contents c.args.writer.now) (g.W.Write.contents c.loop-number.writer) l)
    (as_read f c.args.kept.now v c.args.mounted.now c.args.disk.now is) (returns-clause-saved g c)

pub returns-then-size-gt65535-clause-refused : goal.returns-then-size-gt65535-clause-refused
returns-then-size-gt65535-clause-refused g c = (
  λ (is : _).
      let kept = c.args.kept.now in
      let disk = c.args.disk.now in
      let s = savable kept c.args.mounted.now disk (sym (ap length c.header-header.ensures.header) ∙ c.header-header.ensures.long) is in
      let says = s.says
      ∙ sym (says_format disk c.heads-heads.result c.track_bytes-size.result c.heads-heads.ensures c.track_bytes-size.ensures) in
      elim c.then-size-gt65535.branch [
        | then-size-gt65535-via-then-size-gt65535 w ↦ omega (arith, s.small, w.if-size-gt65535.true, c.track_bytes-size.ensures)
        | then-size-gt65535-via-else-size-gt65535+then-not-is_of w ↦ true≢false (sym (w.is_of.ensures.format.1 says) ∙ w.if-not-is_of.true)
        | then-size-gt65535-via-else-size-gt65535+else-not-is_of+then-count-gt65535 w ↦
            omega (arith, s.few, w.if-count-gt65535.true, c.tracks-count.ensures.tracks)
        | then-size-gt65535-via-else-size-gt65535+else-not-is_of+else-count-gt65535+then-count-from-ne0 w ↦
            w.if-count-from-ne0.true (ap (λ (n : ℕ). n % w.from.result) c.tracks-count.ensures.tracks
            ∙ ap (λ (n : ℕ). length disk.tracks % n) (w.from.ensures ∙ c.heads-heads.ensures) ∙ s.whole)
      ],
  λ (other : _). Keeps-refl (g.W.Write.contents c.args.writer.now),
)

pub returns-then-track_bytes-size-clause-refused : goal.returns-then-track_bytes-size-clause-refused
returns-then-track_bytes-size-clause-refused g c = (
  λ (is : _).
      let kept = c.args.kept.now in
      let disk = c.args.disk.now in
      let n = c.loop-number.number in
      let s = savable kept c.args.mounted.now disk (sym (ap length c.header-header.ensures.header) ∙ c.header-header.ensures.long) is in
      let lt : n < length disk.tracks = omega (arith, c.loop-number-test.true, c.tracks-count.ensures.tracks) in
      c.if-track_bytes-size.true (c.track_bytes.ensures ∙ size_of_each (track_of disk.tracks 0).size disk.tracks n s.each lt
      ∙ sym c.track_bytes-size.ensures),
  λ (other : _). absurd (other (c.is_of.ensures.format.0 c.if-not-is_of.false
      ∙ says_format c.args.disk.now c.heads-heads.result c.track_bytes-size.result c.heads-heads.ensures c.track_bytes-size.ensures)),
)
