use Rattle.std.proofs.Common.{◌≡◌, ◌+◌, ◌<◌, ◌++◌, ℕ, List, length, map, take, get_or, sym, ap, subst, ◌∙◌, arith}
use Rattle.std.proofs.KnownBytes.{Appends-trans}
use Rattle.std.proofs.lemmas.List.{take_more}
use Rattle.std.specs.Char.{encode_utf8}
use Rattle.std.specs.Io.KnownBytes.{Appends}
use Rattle.std.specs.Str.{encode_utf8_all}
use Rattle.medium_image.specs.Paper.{character}
use Rattle.medium_image.proofs.Papers.{text_more}
use Rattle.medium_image.proofs.paper.write_line.Goals as goal

pub loop-byte-preserved : goal.loop-byte-preserved
loop-byte-preserved g c =
    let line = c.without_blanks-byte-items.result.now in
    let k = c.loop-byte.byte-index in
    let sofar : List ℕ = encode_utf8_all (map character (take k line)) in
    let within : k < length line = omega arith in
    let is : encode_utf8_all (map character (take (k + 1) line)) ≡ sofar ++ encode_utf8 c.character.result =
    ap (λ (l : List ℕ). encode_utf8_all (map character l)) (take_more line k 0 within)
    ∙ text_more (take k line) (get_or line k 0)
    ∙ ap (λ (ch : ℕ). sofar ++ encode_utf8 ch) (sym c.character.ensures) in
    subst (λ (l : List ℕ). Appends (g.W.Write.contents c.args.out.now) (g.W.Write.contents c.write.new.self) l) (sym is)
    (Appends-trans _ _ _ _ _ c.loop-byte.invariant (c.in_ok-write.ensures {u = tt}).bytes)
