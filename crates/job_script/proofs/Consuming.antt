-- Bytes that are read one piece after another.
use Rattle.std.proofs.Common.{ℕ, List, [], ◌++◌, Option, Some, None, refl, ap, sym, ◌∙◌, append_assoc}
use Rattle.std.specs.Io.KnownBytes.{Consumes}

pub consumes-nothing : (a : Option (List ℕ)) → Consumes a a []
consumes-nothing None = tt
consumes-nothing (Some xs) = refl

pub consumes-more : (a b c : Option (List ℕ)) (xs ys : List ℕ) → Consumes a b xs → Consumes b c ys → Consumes a c (xs ++ ys)
consumes-more None b c xs ys h k = tt
consumes-more (Some old) None c xs ys h k = absurd h
consumes-more (Some old) (Some bs) None xs ys h k = absurd k
consumes-more (Some old) (Some bs) (Some cs) xs ys h k = h ∙ ap (λ (l : List ℕ). xs ++ l) k ∙ sym (append_assoc xs ys cs)
