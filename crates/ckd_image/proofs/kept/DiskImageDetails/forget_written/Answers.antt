use Rattle.std.proofs.Common.{◌≡◌, ◌∙◌, ◌+◌, ◌<◌, ◌≤◌, ℕ, List, true, false, ap, arith, length, min, set, subst, sym}
use Rattle.device_port.specs.Packed.{image_of}
use Rattle.ckd_disk.specs.Record.{ckd}
use Rattle.ckd_disk.specs.Disk.{track_of}
use Rattle.ckd_image.specs.Image.{KeptState, KeptTrackState}
use Rattle.ckd_image.specs.Saving.{ForgetsWritten, is_as_mounted}
use Rattle.ckd_image.proofs.Forgotten.{Forgotten, is_same, none, cut, keep, forgets}
use Rattle.ckd_image.proofs.kept.DiskImageDetails.forget_written.Goals as goal
use Rattle.ckd_image.proofs.kept.DiskImageDetails.forget_written.Goals.{then-not-is_as_mounted, else-not-is_as_mounted}

pub loop-number-init : goal.loop-number-init
loop-number-init c =
    let i = c.self.inside in
    let old : KeptState = record { header = i.header; tracks = i.tracks.items } in
    let m = c.args.mounted.now.tracks in
    let t = c.args.disk.now.tracks in
    record {
      header = ap (λ (k : KeptState). k.header) c.self.view_is;
      so_far = subst (λ (k : KeptState). Forgotten k m t 0 i.tracks.items) c.self.view_is (none old m t);
    }

pub loop-number-preserved : goal.loop-number-preserved
loop-number-preserved c =
    let old = c.args.self.now in
    let m = c.args.mounted.now.tracks in
    let t = c.args.disk.now.tracks in
    let n = c.loop-number.number in
    let items = c.loop-number.self-inside.tracks.items in
    let f = c.loop-number.invariant.so_far in
    let image = ap (λ (l : List ℕ). is_as_mounted m l n) (sym c.track_image.ensures.image) in
    elim c.if-not-is_as_mounted.branch [
      | then-not-is_as_mounted w ↦
          let test : is_same m t n ≡ false = image ∙ sym (w.if-not-is_as_mounted.ensures {u = tt}) in
          let there : n < length items =
          omega (arith, c.loop-number-test.true, c.min-count.ensures, c.len.ensures, f.count, ap (λ (k : KeptState). length k.tracks) c.self.view_is) in
          let now : c.if-not-is_as_mounted.self-inside.tracks.items ≡ set items n w.forget.new.self = ap (λ x. x.tracks.items) w.self-inside-is in
          record {
            header = ap (λ x. x.header) w.self-inside-is ∙ c.loop-number.invariant.header;
            so_far = subst (λ (l : List KeptTrackState). Forgotten old m t (n + 1) l)
                (sym (now ∙ ap (λ (k : KeptTrackState). set items n k) w.forget.ensures)) (cut old m t n items f there test);
          }
      | else-not-is_as_mounted w ↦
          let test : is_same m t n ≡ true = image ∙ sym (w.if-not-is_as_mounted.ensures {u = tt}) in
          record {
            header = ap (λ x. x.header) w.self-inside-is ∙ c.loop-number.invariant.header;
            so_far = subst (λ (l : List KeptTrackState). Forgotten old m t (n + 1) l) (sym (ap (λ x. x.tracks.items) w.self-inside-is))
                (keep old m t n items f test);
          }
    ]

pub returns : goal.returns
returns c =
    let old = c.args.self.now in
    let mounted = c.args.mounted.now in
    let disk = c.args.disk.now in
    let items = c.loop-number.self-inside.tracks.items in
    let f = c.loop-number.invariant.so_far in
    let end : min (length old.tracks) (length disk.tracks) ≤ c.loop-number.number =
    omega (arith, c.loop-number-test.false, c.min-count.ensures, c.len.ensures, c.tracks.ensures.tracks, ap (λ (k : KeptState). length k.tracks) c.self.view_is) in
    subst (λ (h : List ℕ). ForgetsWritten old mounted disk (record { header = h; tracks = items })) (sym c.loop-number.invariant.header)
    (forgets old mounted disk c.loop-number.number items end f)
