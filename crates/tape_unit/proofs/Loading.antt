-- Items that are put on a reel when it is mounted.
use Rattle.std.proofs.Common.{◌≡◌, ℕ, ◌+◌, ◌<◌, ◌≤◌, true, false, nat_le, List, [], ◌∷◌, ◌++◌, length, get_or, take, sym, ap, subst, ◌∙◌}
use Rattle.std.proofs.Common.{arith}
use Rattle.std.specs.List.{list_all}
use Rattle.std.proofs.lemmas.List.{get_or-map, length-map, take-take, take_more}
use Rattle.std.proofs.lemmas.Bool.Decides.{nat_tests}
use Rattle.std.proofs.lemmas.List.Sums.{AllPass-from_list_all}
use Rattle.device_port.specs.Packed.{image_of}
use Rattle.device_port.proofs.Items.{offset_of-more, offset_of-within}
use Rattle.tape_unit.specs.declared.mount.InitialItem.{InitialItem}
use Rattle.tape_unit.specs.Item.{Item, tape_mark, is_item, content_of, item_with, size_of, packed, on_tape}
use Rattle.tape_unit.specs.Reel.{bytes_of, bytes_before}
use Rattle.tape_unit.specs.Mount.{initial, is_initial, opening_items}
use Rattle.tape_unit.proofs.Spelled.{length-packed, item_with-content}

-- one of the items handed in
pub handed : (items : List InitialItem) (k : ℕ) (r : InitialItem) → k < length items → r ≡ get_or items k r →
    get_or (opening_items items) k tape_mark ≡ initial r
handed items k r lt is = get_or-map initial items k r tape_mark lt ∙ ap initial (sym is)

pub handed_fits : (items : List InitialItem) (k : ℕ) (r : InitialItem) → k < length items → r ≡ get_or items k r →
    list_all is_initial items ≡ true → is_item (initial r) ≡ true
handed_fits items k r lt is all = subst (λ (x : InitialItem). is_initial x ≡ true) (sym is)
    (AllPass-from_list_all is_initial items all k r lt)

pub bytes_more : (items : List InitialItem) (k : ℕ) (r : InitialItem) → k < length items → r ≡ get_or items k r
    → bytes_before (opening_items items) (k + 1) ≡ bytes_before (opening_items items) k + size_of (initial r)
bytes_more items k r lt is =
    let xs = opening_items items in
    offset_of-more on_tape xs k tape_mark (omega (arith, length-map items initial))
    ∙ ap (λ (x : Item). bytes_before xs k + length (packed x)) (handed items k r lt is)
    ∙ ap (λ (n : ℕ). bytes_before xs k + n) (length-packed (initial r))

pub length-opening : (items : List InitialItem) → length (opening_items items) ≡ length items
length-opening items = length-map items initial

pub le-true : (a b : ℕ) → a ≤ b → nat_le a b ≡ true
le-true a b h = grind (arith, nat_tests)

pub le-false : (a b : ℕ) → b < a → nat_le a b ≡ false
le-false a b h = grind (arith, nat_tests)

-- ---- one item more on the reel

-- the items that are on it, and those behind
pub record More (handed : List InitialItem) (bytes k : ℕ) (r : InitialItem) : Type 0 where
  pub room : bytes_before (take k (opening_items handed)) k + (4 + length (content_of (initial r))) ≤ bytes
  pub items : take k (take k (opening_items handed)) ++ item_with (content_of (initial r)) ∷ [] ≡ take (k + 1) (opening_items handed)

pub more : (items : List InitialItem) (bytes k : ℕ) (r : InitialItem) → k < length items → r ≡ get_or items k r →
    list_all is_initial items ≡ true → bytes_of (opening_items items) ≤ bytes → More items bytes k r
more items bytes k r lt is all fit =
    let xs = opening_items items in
    let same : take k (take k xs) ≡ take k xs = take-take k k xs (omega arith) in
    record {
      room = omega (
        arith,
        ap (λ (l : List Item). length (image_of on_tape l)) same,
        bytes_more items k r lt is,
        offset_of-within on_tape xs (k + 1),
        fit,
      );
      items = ap (λ (l : List Item). l ++ item_with (content_of (initial r)) ∷ []) same
          ∙ ap (λ (x : Item). take k xs ++ x ∷ [])
          (item_with-content (initial r) (handed_fits items k r lt is all) ∙ sym (handed items k r lt is))
          ∙ sym (take_more xs k tape_mark (omega (arith, length-opening items)));
    }
