use Rattle.std.proofs.Common.{◌≡◌, length, take, refl}
use Rattle.std.proofs.lemmas.Bool.Decides.{Decides-eqb}
use Rattle.std.proofs.lemmas.Slice.Eq.{slice_eq-Decides}
use Rattle.ckd_image.proofs.Files.{padded-zeros}
use Rattle.ckd_image.proofs.loader.kept_tail.Goals as goal

pub returns-then-eq : goal.returns-then-eq
returns-then-eq c =
    let tail = c.args.tail.now in
    let same : tail ≡ take (length tail) c.args.zeros.now = (slice_eq-Decides Decides-eqb _ _ _ c.eq.ensures).0 c.if-eq.true in
    padded-zeros (length tail) (length c.args.zeros.now) tail c.new.result.items c.args.zeros.now refl c.new.ensures.items c.requires.zeros
    c.requires.few same
