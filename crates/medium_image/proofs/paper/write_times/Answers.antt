use Rattle.std.proofs.Common.{List, ℕ, subst}
use Rattle.std.proofs.KnownBytes.{Appends-nil, Appends-trans}
use Rattle.std.proofs.lemmas.List.{replicate_more}
use Rattle.std.specs.Io.KnownBytes.{Appends}
use Rattle.medium_image.proofs.paper.write_times.Goals as goal

pub loop-init : goal.loop-init
loop-init g c = Appends-nil (g.W.Write.contents c.args.out.now)

pub loop-preserved : goal.loop-preserved
loop-preserved g c =
    subst (λ (l : List ℕ). Appends (g.W.Write.contents c.args.out.now) (g.W.Write.contents c.write_all.new.self) l)
    (replicate_more c.loop.counter c.args.byte)
    (Appends-trans _ _ _ _ _ c.loop.invariant (c.in_ok-write_all.ensures {u = tt}).bytes)
