use Rattle.std.proofs.Common.{List, ℕ, length, drop, ap, subst, sym, ◌∙◌, arith}
use Rattle.std.proofs.lemmas.List.{length-drop}
use Rattle.device_port.specs.Packed.{Begins}
use Rattle.ckd_disk.specs.Record.{ckd}
use Rattle.ckd_disk.specs.Track.{record_of}
use Rattle.ckd_disk.proofs.Tracks.{bounds, spot_begins, spot_ends}
use Rattle.ckd_disk.proofs.track.Track.from.Goals as goal

pub split_at-requires : goal.split_at-requires
split_at-requires c =
    let e = spot_ends c.args.self.now c.self.inside.bytes.items c.self.inside.used c.self.inside.count c.args.spot c.self.invariant
    c.self.view_is c.requires in
    omega (arith, e.offset, ap length c.as_slice.ensures.value)

pub returns : goal.returns
returns c =
    let t = c.args.self.now in
    let v = c.self.inside.bytes.items in
    let b = bounds t v c.self.inside.used c.self.inside.count c.self.invariant c.self.view_is in
    let e = spot_ends t v c.self.inside.used c.self.inside.count c.args.spot c.self.invariant c.self.view_is c.requires in
    let rest = c.split_at.ensures.back ∙ ap (drop c.args.spot.offset) c.as_slice.ensures.value in
    record {
      found = subst (λ (l : List ℕ). Begins ckd l (record_of t.records c.args.spot.place)) (sym rest)
          (spot_begins t v c.self.inside.used c.self.inside.count c.args.spot c.self.invariant c.self.view_is c.requires);
      start = omega (arith, ap length rest, length-drop c.args.spot.offset v, b.size, e.offset);
      small = omega (arith, b.size, ap length c.as_slice.ensures.value);
    }
