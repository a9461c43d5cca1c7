-- The parts of a data area put together one after another.
use Rattle.std.proofs.Common.{◌≡◌, ℕ, suc, ◌+◌, ◌-◌, ◌<◌, min, List, [], ◌∷◌, ◌++◌, refl, ap, arith, ◌∙◌, Bool, true, false, sym}
use Rattle.std.proofs.Common.{append_assoc, Result, Ok, Err, nat_eq}
use Rattle.io_area.specs.Storage.{Storage}
use Rattle.device_port.specs.declared.chain.Segment.{Segment}
use Rattle.device_port.specs.declared.kind.Flow.{Flow}
use Rattle.ccw_programs.specs.declared.fetch.Link.{Link}
use Rattle.ccw_programs.specs.declared.rule.Rule.{Rule}
use Rattle.ccw_programs.specs.Areas.{Areas, Parts, Bad, areas, areas_joined, parts_of, preceded, parts_after, with_part, only_if}
use Rattle.ccw_programs.specs.Areas.{parts_from, is_usable, word_at, word_rule, room_after}

pub prefixed-with_part : (xs : List Segment) (p : Segment) (o : Result (List Segment) Rule) →
    parts_after xs (with_part p o) ≡ parts_after (xs ++ p ∷ []) o
prefixed-with_part xs p (Err rule) = refl
prefixed-with_part xs p (Ok ps) = ap Ok (sym (append_assoc xs (p ∷ []) ps))

pub parts_from-next : (m : Storage) (skip is_first : Bool) (at words place count : ℕ) → place < words →
    parts_from m skip is_first at (words - place) count ≡
    only_if (is_usable m is_first at count) (word_rule m is_first at)
    (with_part (record { address = word_at m at; count = min count (room_after (word_at m at)); skip = skip })
    (parts_from m skip false (at + 4) (words - (place + 1)) (count - room_after (word_at m at))))
unfolding parts_from
parts_from-next m skip is_first at words place count h =
    let e : words - place ≡ suc (words - (place + 1)) = omega arith in rw e refl

pub parts_from-none : (m : Storage) (skip is_first : Bool) (at words count : ℕ) → words ≡ 0 →
    parts_from m skip is_first at words count ≡ Ok []
unfolding parts_from
parts_from-none m skip is_first at words count h = rw h refl

module _ (m : Storage) (skip is_first : Bool) (old : List Segment) (whole : Result (List Segment) Rule) (at words place count : ℕ)
    (more : place < words)
    (so_far : whole ≡ parts_after old (parts_from m skip is_first at (words - place) count)) where
  pub no_part : is_usable m is_first at count ≡ false → whole ≡ Err (word_rule m is_first at)
  no_part h =
      let e : parts_from m skip is_first at (words - place) count ≡ Err (word_rule m is_first at) =
      parts_from-next m skip is_first at words place count more ∙ rw h refl in
      so_far ∙ ap (parts_after old) e

  pub part_more : (s : Segment) → is_usable m is_first at count ≡ true →
      s ≡ record { address = word_at m at; count = min count (room_after (word_at m at)); skip = skip } →
      count - s.count ≡ count - room_after (word_at m at) →
      whole ≡ parts_after (old ++ s ∷ []) (parts_from m skip (nat_eq (place + 1) 0) (at + 4) (words - (place + 1)) (count - s.count))
  part_more s h is rest =
      let never : nat_eq (place + 1) 0 ≡ false = grind arith in
      let e : parts_from m skip is_first at (words - place) count ≡ with_part s
      (parts_from m skip (nat_eq (place + 1) 0) (at + 4) (words - (place + 1)) (count - s.count)) =
      parts_from-next m skip is_first at words place count more ∙ rw (h, never, rest, is) refl in
      so_far ∙ ap (parts_after old) e ∙ prefixed-with_part old s _

preceded-joined : (xs : List Segment) (at : ℕ) (ps : List Segment) (rest : Areas) →
    preceded xs (areas_joined at (Ok ps) rest) ≡ preceded (xs ++ ps) rest
preceded-joined xs at ps (Parts more) = ap Parts (sym (append_assoc xs ps more))
preceded-joined xs at ps (Bad other) = refl

-- what a CCW's parts do to the areas of what is left
module _ (flow : Flow) (m : Storage) (old new : List Segment) (whole : Areas) (l : Link) (ls : List Link) (rule : Rule)
    (so_far : whole ≡ preceded old (areas flow m (l ∷ ls))) where
  bad_part : (o : Result (List Segment) Rule) → o ≡ parts_of flow m l.ccw → parts_after old o ≡ Err rule →
      whole ≡ Bad (record { at = l.at; rule = rule })
  bad_part (Err broken) e h =
      let same : broken ≡ rule = cc in
      so_far ∙ ap (λ k. preceded old (areas_joined l.at k (areas flow m ls))) (sym e) ∙ ap (λ k. Bad (record { at = l.at; rule = k })) same
  bad_part (Ok ps) e h = absurd (cc)

  pub no_parts : parts_after old (parts_of flow m l.ccw) ≡ Err rule → whole ≡ Bad (record { at = l.at; rule = rule })
  no_parts h = bad_part (parts_of flow m l.ccw) refl h

  good_part : (o : Result (List Segment) Rule) → o ≡ parts_of flow m l.ccw → parts_after old o ≡ Ok new →
      whole ≡ preceded new (areas flow m ls)
  good_part (Err broken) e h = absurd (cc)
  good_part (Ok ps) e h =
      let same : old ++ ps ≡ new = cc in
      so_far ∙ ap (λ k. preceded old (areas_joined l.at k (areas flow m ls))) (sym e) ∙ preceded-joined old l.at ps (areas flow m ls)
      ∙ ap (λ k. preceded k (areas flow m ls)) same

  pub more_parts : parts_after old (parts_of flow m l.ccw) ≡ Ok new → whole ≡ preceded new (areas flow m ls)
  more_parts h = good_part (parts_of flow m l.ccw) refl h
