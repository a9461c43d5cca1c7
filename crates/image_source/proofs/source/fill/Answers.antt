use Rattle.std.proofs.Common.{◌-◌, ◌≤◌, ◌++◌, ℕ, List, length, take, drop, subst, sym, length-append, arith}
use Rattle.std.proofs.KnownBytes.{Consumes-trans}
use Rattle.std.proofs.lemmas.List.{length-take-le}
use Rattle.std.specs.Io.KnownBytes.{Consumes}
use Rattle.image_source.proofs.Sources.{filled_more}
use Rattle.image_source.proofs.source.fill.Goals as goal

pub loop-count-preserved : goal.loop-count-preserved
loop-count-preserved g c =
    let n = c.loop-count.count in
    let old = c.loop-count.buffer in
    let new = c.read.new.buf in
    let after = drop (length old - n) (drop n old) in
    let few : c.in_ok-more.more ≤ length new = omega (arith, c.in_ok-more.ensures.bound) in
    let i = c.loop-count.invariant in
    let taken = filled_more n c.in_ok-more.more old new after i.within few in
    record {
      read = subst (λ (l : List ℕ). Consumes (g.R.Read.remaining c.args.source.now) (g.R.Read.remaining c.read.new.self) l) (sym taken)
          (Consumes-trans _ _ _ (take n old) (take c.in_ok-more.more new) i.read c.in_ok-more.ensures.bytes.0);
      within = omega (arith, length-append (take n old) (new ++ after), length-append new after, length-take-le n old i.within, few);
    }
