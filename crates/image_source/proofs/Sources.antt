-- Bytes that are read one piece after another.
use Rattle.std.proofs.Common.{◌≡◌, ℕ, ◌+◌, ◌≤◌, List, ◌++◌, length, take, Option, sym, ap, ◌∙◌, subst}
use Rattle.std.proofs.lemmas.List.{length-take-le, take-append-le, take_all}
use Rattle.std.proofs.Math.Seq.{take-append-add}
use Rattle.std.specs.Io.KnownBytes.{Consumes}
use Rattle.image_source.specs.Filled.{Fills}

-- the part of a buffer from n on was written, with m bytes
pub filled_more : (n m : ℕ) (old new after : List ℕ) → n ≤ length old → m ≤ length new →
    take (n + m) (take n old ++ (new ++ after)) ≡ take n old ++ take m new
filled_more n m old new after le few =
    let len : length (take n old) ≡ n = length-take-le n old le in
    ap (λ (k : ℕ). take (k + m) (take n old ++ (new ++ after))) (sym len)
    ∙ take-append-add (take n old) (new ++ after) m
    ∙ ap (λ (l : List ℕ). take n old ++ l) (take-append-le m new after few)

-- a buffer that was filled to its end
pub whole_read : (old new : Option (List ℕ)) (buffer : List ℕ) (count : ℕ) → Fills old new buffer count → length buffer ≤ count → Consumes old new buffer
whole_read old new buffer count f le =
    subst (λ (l : List ℕ). Consumes old new l) (take_all count buffer le) f.consumed
