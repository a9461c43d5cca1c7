-- What was loaded is written as it was.
use Rattle.std.proofs.Common.{◌≡◌, ℕ, zero, suc, ◌+◌, ◌≤◌, Bool, true, false, cond, ◌&&◌, not, nat_eq, nat_lt, nat_le}
use Rattle.std.proofs.Common.{List, [], ◌∷◌, ◌++◌, length, take, drop, Ok, Err, Result}
use Rattle.std.proofs.Common.{refl, sym, ap, subst, ◌∙◌, append_assoc, append-nil, arith}
use Rattle.std.proofs.lemmas.Bool.Decides.{nat_tests}
use Rattle.std.proofs.lemmas.List.{length-append, length-drop, take_at, drop_at, take_all, nil_from_length}
use Rattle.std.specs.List.{list_all}
use Rattle.std.specs.Str.{bytes_eq}
use Rattle.std.proofs.lemmas.Slice.Eq.{bytes_eq-Decides}
use Rattle.tape_unit.specs.Item.{Item, tape_mark, block, is_item, content_of}
use Rattle.tape_unit.specs.Reel.{ReelState}
use Rattle.tape_unit.specs.Recording.{with_item, takes_item}
use Rattle.aws_tape.specs.declared.layout.Part.{Part}
use Rattle.aws_tape.specs.declared.image.TapeImage.{TapeImage}
use Rattle.aws_tape.specs.declared.chunk.Header.{Header}
use Rattle.aws_tape.specs.declared.chunk.ChunkKind.{ChunkKind}
use Rattle.aws_tape.specs.declared.chunk.ChunkKind.TheVariants.{Mark, Whole, First, Middle, Last}
use Rattle.aws_tape.specs.declared.fault.AwsError.{AwsError}
use Rattle.aws_tape.specs.declared.fault.AwsFault.{AwsFault}
use Rattle.aws_tape.specs.declared.fault.AwsFault.TheVariants as fault
use Rattle.aws_tape.specs.Chunk.{len_of}
use Rattle.aws_tape.specs.Between.{Between}
use Rattle.aws_tape.specs.Reading.{joins, in_place, with_data, with_chunk_part, block_ended, recorded, after_data, first_after}
use Rattle.aws_tape.specs.Reading.{read_from, image_end, at_offset, start, is_fake_tape}
use Rattle.aws_tape.specs.Layout.{count_before, bytes_in}
use Rattle.aws_tape.specs.Writing.{header_of, chunks_of, is_split, item_image, items_image, last_length, last_len, common, saved}
use Rattle.aws_tape.specs.Writing.{IsBytes, IsLoaded}
use Rattle.aws_tape.proofs.ReadBack.{between, flags-more}
use Rattle.aws_tape.proofs.Written.{bytes_in-cons, items_end, chunks_step, chunks_end, last_step, last_end, common_step}
use Rattle.aws_tape.proofs.FirstChunk.{passed, same_value, step_passed, given, placed_at, byte_of, is_bytes-drop, IsChunk, first_is}
use Rattle.aws_tape.proofs.Layouts.{AllAt, Laid, laid_step, laid_within}

-- ---- what an image has from a place on

abbrev at_chunk : Bool → ReelState → List Part → List ℕ → ℕ → Between
at_chunk is_open reel layout bytes previous =
    record { reel = reel; is_open = is_open; block = bytes; layout = layout; previous = previous }

abbrev part_of : ReelState → List ℕ → Part
part_of reel content = record { item = length reel.items; len = length content }

abbrev and_part : ReelState → List Part → List ℕ → List Part
and_part reel layout content = layout ++ part_of reel content ∷ []

-- between two items: items with a layout, whose image the bytes are
pub record Closed (reel : ReelState) (layout : List Part) (previous : ℕ) (rest : List ℕ) (image : TapeImage) : Type 0 where
  pub items : List Item
  pub parts : List Part
  pub recorded : image.tape.items ≡ reel.items ++ items
  pub noted : image.layout ≡ layout ++ parts
  pub laid : Laid (length reel.items) parts items
  pub fits : list_all is_item items ≡ true
  pub spelled : rest ≡ items_image parts (length reel.items) previous items

-- in a block: the chunks to its end, and then the same
pub record Opened (reel : ReelState) (layout : List Part) (bytes : List ℕ) (previous : ℕ) (rest : List ℕ) (image : TapeImage) : Type 0 where
  pub content : List ℕ
  pub part : Part
  pub own : List Part
  pub left : List ℕ
  pub here : AllAt (length reel.items) (part ∷ own)
  pub sum : bytes_in (part ∷ own) ≡ length content
  pub item : is_item (block (bytes ++ content)) ≡ true
  pub spelled : rest ≡ chunks_of previous 0 (part ∷ own) content ++ left
  pub others : Closed (with_item reel (block (bytes ++ content))) (layout ++ (part ∷ own)) (last_length previous (part ∷ own)) left image

-- what is left leads to the image: its bytes are those of a layout
abbrev pub Kept : Between → List ℕ → TapeImage → Type 0
Kept at rest image = elim at.is_open [
  | true ↦ Opened at.reel at.layout at.block at.previous rest image
  | false ↦ Closed at.reel at.layout at.previous rest image
]

-- ---- an item that ends

recorded_is : (at next : Between) (x : Item) → recorded at x ≡ Ok next → next ≡ between (with_item at.reel x) at.layout at.previous
recorded_is at next x is =
    let after = between (with_item at.reel x) at.layout at.previous in
    sym (same_value after next (passed (not (takes_item at.reel x)) fault.TapeFull (given AwsFault after) next is).1)

ended : (at next : Between) → block_ended at ≡ Ok next
    → (1 ≤ length at.block) × (next ≡ between (with_item at.reel (block at.block)) at.layout at.previous)
ended at next is =
    let p = passed (nat_eq (length at.block) 0) fault.EmptyBlock (recorded at (block at.block)) next is in (
      grind (arith, nat_tests, p.0),
      recorded_is at next (block at.block) p.1,
    )

-- the items after one more
after_item : (x : Item) (own : List Part) (reel : ReelState) (layout : List Part) (previous : ℕ) (bytes left rest : List ℕ)
    (image : TapeImage)
    → AllAt (length reel.items) own → is_item x ≡ true → bytes ≡ item_image previous own x → rest ≡ bytes ++ left
    → Closed (with_item reel x) (layout ++ own) (last_len previous own x) left image → Closed reel layout previous rest image
unfolding Laid
after_item x own reel layout previous bytes left rest image here item is whole k =
    let place = length reel.items in
    let more : length (reel.items ++ x ∷ []) ≡ place + 1 = length-append reel.items (x ∷ []) in
    let laid : Laid (place + 1) k.parts k.items = subst (λ (n : ℕ). Laid n k.parts k.items) more k.laid in
    record {
      items = x ∷ k.items;
      parts = own ++ k.parts;
      recorded = k.recorded ∙ append_assoc reel.items (x ∷ []) k.items;
      noted = k.noted ∙ append_assoc layout own k.parts;
      laid = (own, k.parts, refl, here, laid);
      fits = ap (λ (b : Bool). b && list_all is_item k.items) item ∙ k.fits;
      spelled = whole ∙ ap (λ (l : List ℕ). l ++ left) is
          ∙ ap (λ (l : List ℕ). item_image previous own x ++ l) (k.spelled
          ∙ ap (λ (n : ℕ). items_image k.parts n (last_len previous own x) k.items) more)
          ∙ sym (laid_step own k.parts place previous x k.items here laid);
    }

after_one : (x : Item) (reel : ReelState) (layout : List Part) (previous : ℕ) (bytes left rest : List ℕ) (image : TapeImage)
    → is_item x ≡ true → bytes ≡ item_image previous [] x → rest ≡ bytes ++ left
    → Closed (with_item reel x) layout (last_len previous [] x) left image → Closed reel layout previous rest image
unfolding AllAt
after_one x reel layout previous bytes left rest image item is whole k =
    after_item x [] reel layout previous bytes left rest image tt item is whole
    (subst (λ (l : List Part). Closed (with_item reel x) l (last_len previous [] x) left image) (sym (append-nil layout)) k)

fits_item : (bytes : List ℕ) → 1 ≤ length bytes → length bytes ≤ 65_535 → is_item (block bytes) ≡ true
fits_item bytes least most =
    let some : nat_le 1 (length bytes) ≡ true = grind (arith, nat_tests, least) in
    let few : nat_le (length bytes) 65_535 ≡ true = grind (arith, nat_tests, most) in
    ap (λ (b : Bool). b && nat_le (length bytes) 65_535) some ∙ few

joined_few : (kind : ChunkKind) (len so_far : ℕ) (h : Header) → joins kind len so_far ≡ Ok h → so_far + len ≤ 65_535
joined_few kind len so_far h is =
    let few = (passed (nat_lt 65_535 (so_far + len)) fault.LongBlock (Ok (placed_at kind len)) h is).0 in
    grind (arith, nat_tests, few)

no_mark : (b : Bool) (r : Result Header AwsFault) (h : Header) → cond b r (Err fault.MarkWithData) ≡ Ok h → b ≡ true
no_mark true r h is = refl
no_mark false r h is = absurd (cc)

-- ---- one chunk, and those after it

-- a chunk that is not the last of its block, and the others of the block
more_chunks : (first previous place : ℕ) (part : Part) (own : List Part) (content more left after rest : List ℕ)
    → rest ≡ (header_of (length content) previous first ++ content) ++ left → left ≡ chunks_of (length content) 0 (part ∷ own) more ++ after
    → rest ≡ chunks_of previous first (record { item = place; len = length content } ∷ part ∷ own) (content ++ more) ++ after
more_chunks first previous place part own content more left after rest whole others =
    let n = length content in
    let all = content ++ more in
    let own-chunks : List ℕ → List ℕ = λ (l : List ℕ). chunks_of n 0 (part ∷ own) l in
    let chunks : chunks_of previous first (record { item = place; len = n } ∷ part ∷ own) all
    ≡ (header_of n previous first ++ content) ++ own-chunks more =
    chunks_step previous first (record { item = place; len = n }) (part ∷ own) all
    ∙ ap (λ (flags : ℕ). (header_of n previous flags ++ take n all) ++ own-chunks (drop n all)) (flags-more first part own)
    ∙ ap (λ (l : List ℕ). (header_of n previous first ++ l) ++ own-chunks (drop n all)) (take_at content more n refl)
    ∙ ap (λ (l : List ℕ). (header_of n previous first ++ content) ++ own-chunks l) (drop_at content more n refl) in
    whole ∙ ap (λ (l : List ℕ). (header_of n previous first ++ content) ++ l) others
    ∙ sym (append_assoc (header_of n previous first ++ content) (own-chunks more) after)
    ∙ ap (λ (l : List ℕ). l ++ after) (sym chunks)

closed_chunk : (kind : ChunkKind) (reel : ReelState) (layout : List Part) (previous : ℕ) (next : Between) (content left rest : List ℕ)
    (image : TapeImage)
    → rest ≡ (header_of (length content) previous (byte_of kind) ++ content) ++ left
    → in_place kind (length content) 0 false ≡ Ok (placed_at kind (length content))
    → after_data (with_data (between reel layout previous) content) kind ≡ Ok next
    → Kept next left image → Closed reel layout previous rest image
unfolding AllAt
closed_chunk Mark reel layout previous next content left rest image whole placed done k =
    let none : length content ≡ 0 = grind (arith, nat_tests, no_mark (nat_eq (length content) 0) _ _ placed) in
    let empty : content ≡ [] = nil_from_length content none in
    let is = recorded_is (with_data (between reel layout previous) content) next tape_mark done in
    let others : Closed (with_item reel tape_mark) layout (length content) left image = subst (λ (n : Between). Kept n left image) is k in
    after_one tape_mark reel layout previous (header_of 0 previous 0x40) left rest image refl refl
    (whole ∙ ap (λ (l : List ℕ). (header_of (length l) previous 0x40 ++ l) ++ left) empty)
    (subst (λ (n : ℕ). Closed (with_item reel tape_mark) layout n left image) none others)
closed_chunk Whole reel layout previous next content left rest image whole placed done k =
    let e = ended (with_data (between reel layout previous) content) next done in
    after_one (block content) reel layout previous (header_of (length content) previous 0xA0 ++ content) left rest image
    (fits_item content e.0 (omega (arith, joined_few Whole (length content) 0 _ placed))) refl whole
    (subst (λ (n : Between). Kept n left image) e.1 k)
closed_chunk First reel layout previous next content left rest image whole placed done k =
    let is = same_value (with_chunk_part (with_data (between reel layout previous) content)) next done in
    let o : Opened reel (and_part reel layout content) content (length content) left image =
    subst (λ (n : Between). Kept n left image) (sym is) k in
    let n = length content in
    let p = part_of reel content in
    let own = p ∷ o.part ∷ o.own in
    let bytes = content ++ o.content in
    let x = block bytes in
    let sum-is : bytes_in own ≡ length bytes = omega (arith, bytes_in-cons p (o.part ∷ o.own), o.sum, length-append content o.content) in
    let split : is_split own bytes ≡ true = grind (arith, nat_tests, sum-is) in
    let written : chunks_of previous 0x80 own bytes ≡ item_image previous own x =
    sym (ap (λ (b : Bool). cond b (chunks_of previous 0x80 own bytes) (header_of (length bytes) previous 0xA0 ++ bytes)) split) in
    let last : last_length n (o.part ∷ o.own) ≡ last_len previous own x =
    sym (last_step previous p (o.part ∷ o.own))
    ∙ sym (ap (λ (b : Bool). cond b (last_length previous own) (length bytes)) split) in
    after_item x own reel layout previous (chunks_of previous 0x80 own bytes) o.left rest image (refl, o.here) o.item written
    (more_chunks 0x80 previous (length reel.items) o.part o.own content o.content left o.left rest whole o.spelled)
    (subst (λ (m : ℕ). Closed (with_item reel x) (layout ++ own) m o.left image) last
    (subst (λ (l : List Part). Closed (with_item reel x) l (last_length n (o.part ∷ o.own)) o.left image)
    (append_assoc layout (p ∷ []) (o.part ∷ o.own)) o.others))
closed_chunk Middle reel layout previous next content left rest image whole placed done k = absurd (cc)
closed_chunk Last reel layout previous next content left rest image whole placed done k = absurd (cc)

opened_chunk : (kind : ChunkKind) (reel : ReelState) (layout : List Part) (bytes : List ℕ) (previous : ℕ) (next : Between)
    (content left rest : List ℕ) (image : TapeImage)
    → rest ≡ (header_of (length content) previous (byte_of kind) ++ content) ++ left
    → in_place kind (length content) (length bytes) true ≡ Ok (placed_at kind (length content))
    → after_data (with_data (at_chunk true reel layout bytes previous) content) kind ≡ Ok next
    → Kept next left image → Opened reel layout bytes previous rest image
unfolding AllAt
opened_chunk Mark reel layout bytes previous next content left rest image whole placed done k = absurd (cc)
opened_chunk Whole reel layout bytes previous next content left rest image whole placed done k = absurd (cc)
opened_chunk First reel layout bytes previous next content left rest image whole placed done k = absurd (cc)
opened_chunk Middle reel layout bytes previous next content left rest image whole placed done k =
    let is = same_value (with_chunk_part (with_data (at_chunk true reel layout bytes previous) content)) next done in
    let o : Opened reel (and_part reel layout content) (bytes ++ content) (length content) left image =
    subst (λ (n : Between). Kept n left image) (sym is) k in
    let n = length content in
    let p = part_of reel content in
    let all = content ++ o.content in
    let joined : (bytes ++ content) ++ o.content ≡ bytes ++ all = append_assoc bytes content o.content in
    let item = block (bytes ++ all) in
    let last = last_length n (o.part ∷ o.own) in
    let others : Closed (with_item reel item) (and_part reel layout content ++ (o.part ∷ o.own)) last o.left image =
    subst (λ (l : List ℕ). Closed (with_item reel (block l)) (and_part reel layout content ++ (o.part ∷ o.own)) last o.left image)
    joined o.others in
    record {
      content = all;
      part = p;
      own = o.part ∷ o.own;
      left = o.left;
      here = (refl, o.here);
      sum = omega (arith, bytes_in-cons p (o.part ∷ o.own), o.sum, length-append content o.content);
      item = ap (λ (l : List ℕ). is_item (block l)) (sym joined) ∙ o.item;
      spelled = more_chunks 0 previous (length reel.items) o.part o.own content o.content left o.left rest whole o.spelled;
      others = subst (λ (m : ℕ). Closed (with_item reel item) (layout ++ (p ∷ o.part ∷ o.own)) m o.left image)
          (sym (last_step previous p (o.part ∷ o.own)))
          (subst (λ (l : List Part). Closed (with_item reel item) l last o.left image)
          (append_assoc layout (p ∷ []) (o.part ∷ o.own)) others);
    }
opened_chunk Last reel layout bytes previous next content left rest image whole placed done k =
    let e = ended (with_chunk_part (with_data (at_chunk true reel layout bytes previous) content)) next done in
    let n = length content in
    let p = part_of reel content in
    let few = joined_few Last n (length bytes) _ placed in
    let others : Closed (with_item reel (block (bytes ++ content))) (layout ++ p ∷ []) n left image =
    subst (λ (n : Between). Kept n left image) e.1 k in
    let chunks : chunks_of previous 0 (p ∷ []) content ≡ header_of n previous 0x20 ++ content =
    chunks_step previous 0 p [] content
    ∙ ap (λ (l : List ℕ). (header_of n previous 0x20 ++ take n content) ++ l) (chunks_end n 0 [] (drop n content) refl)
    ∙ append-nil (header_of n previous 0x20 ++ take n content)
    ∙ ap (λ (l : List ℕ). header_of n previous 0x20 ++ l) (take_all n content (omega arith)) in
    record {
      content = content;
      part = p;
      own = [];
      left = left;
      here = (refl, tt);
      sum = omega (arith, bytes_in-cons p []);
      item = fits_item (bytes ++ content) e.0 (omega (arith, length-append bytes content, few));
      spelled = whole ∙ ap (λ (l : List ℕ). l ++ left) (sym chunks);
      others = subst (λ (m : ℕ). Closed (with_item reel (block (bytes ++ content))) (layout ++ p ∷ []) m left image)
          (sym (last_step previous p [] ∙ last_end n [] refl)) others;
    }

any_chunk : (is_open : Bool) (reel : ReelState) (layout : List Part) (bytes : List ℕ) (previous : ℕ) (next : Between) (rest : List ℕ)
    (image : TapeImage) → (is_open ≡ false → bytes ≡ []) → (c : IsChunk (at_chunk is_open reel layout bytes previous) next rest)
    → Kept next c.left image → Kept (at_chunk is_open reel layout bytes previous) rest image
any_chunk true reel layout bytes previous next rest image clean c k =
    opened_chunk c.kind reel layout bytes previous next c.content c.left rest image c.spelled c.placed c.done k
any_chunk false reel layout bytes previous next rest image clean c k =
    let none : bytes ≡ [] = clean refl in
    let len = length c.content in
    closed_chunk c.kind reel layout previous next c.content c.left rest image c.spelled
    (subst (λ (l : List ℕ). in_place c.kind len (length l) false ≡ Ok (placed_at c.kind len)) none c.placed)
    (subst (λ (l : List ℕ). after_data (with_data (at_chunk false reel layout l previous) c.content) c.kind ≡ Ok next) none c.done) k

-- ---- all chunks

no_chunk : (is_open : Bool) (reel : ReelState) (layout : List Part) (bytes : List ℕ) (previous : ℕ) (image : TapeImage)
    → image_end (at_chunk is_open reel layout bytes previous) ≡ Ok image → Kept (at_chunk is_open reel layout bytes previous) [] image
unfolding Laid
no_chunk true reel layout bytes previous image is = absurd (cc)
no_chunk false reel layout bytes previous image is =
    let same : image ≡ record { tape = reel; layout = layout } = sym (same_value (record { tape = reel; layout = layout }) image is) in
    record {
      items = [];
      parts = [];
      recorded = ap (λ (i : TapeImage). i.tape.items) same ∙ sym (append-nil reel.items);
      noted = ap (λ (i : TapeImage). i.layout) same ∙ sym (append-nil layout);
      laid = refl;
      fits = refl;
      spelled = sym (items_end [] (length reel.items) previous [] refl);
    }

-- after a chunk that ends an item no bytes are open
clean_after : (kind : ChunkKind) (at next : Between) → after_data at kind ≡ Ok next → next.is_open ≡ false → next.block ≡ []
clean_after Mark at next done shut = ap (λ (n : Between). n.block) (recorded_is at next tape_mark done)
clean_after Whole at next done shut = ap (λ (n : Between). n.block) (ended at next done).1
clean_after First at next done shut =
    let open_still = ap (λ (n : Between). n.is_open) (same_value (with_chunk_part at) next done) in
    absurd (cc)
clean_after Middle at next done shut =
    let open_still = ap (λ (n : Between). n.is_open) (same_value (with_chunk_part at) next done) in
    absurd (cc)
clean_after Last at next done shut = ap (λ (n : Between). n.block) (ended (with_chunk_part at) next done).1

without_offset : {A : Type 0} (offset : ℕ) (r : Result A AwsFault) (x : A) → at_offset offset r ≡ Ok x → r ≡ Ok x
without_offset offset (Ok y) x is = ap (λ (z : _). given AwsFault z) (same_value y x is)
without_offset offset (Err e) x is = absurd (cc)

kept : (n offset : ℕ) (at : Between) (rest : List ℕ) (image : TapeImage) → (at.is_open ≡ false → at.block ≡ []) → IsBytes rest
    → length rest ≤ n → read_from n offset at rest ≡ Ok image → Kept at rest image
unfolding read_from
kept zero offset at [] image clean fits most is =
    no_chunk at.is_open at.reel at.layout at.block at.previous image (without_offset offset (image_end at) image is)
kept zero offset at (byte ∷ rest) image clean fits most is = absurd (omega arith)
kept (suc n) offset at [] image clean fits most is =
    no_chunk at.is_open at.reel at.layout at.block at.previous image (without_offset offset (image_end at) image is)
kept (suc n) offset at (byte ∷ rest) image clean fits most is =
    let all = byte ∷ rest in
    let len = 6 + len_of all in
    let after = drop len all in
    let s = step_passed (at_offset offset (first_after at all)) (λ (next : Between). read_from n (offset + len) next after) image is in
    let next = s.0 in
    let c = first_is at next all fits (without_offset offset (first_after at all) next s.1) in
    let fewer : length after ≤ n = omega (arith, length-drop len all, most) in
    let others = kept n (offset + len) next after image (clean_after c.kind (with_data at c.content) next c.done)
    (is_bytes-drop len all fits) fewer s.2 in
    any_chunk at.is_open at.reel at.layout at.block at.previous next all image clean c
    (subst (λ (l : List ℕ). Kept next l image) (sym c.follows) others)

-- AN IMAGE THAT WAS LOADED is that of the items in the chunks of the layout
pub record IsImage (layout : List Part) (items : List Item) (image : List ℕ) : Type 0 where
  pub laid : Laid 0 layout items
  pub fits : list_all is_item items ≡ true
  pub spelled : image ≡ items_image layout 0 0 items

pub is_image : (layout : List Part) (items : List Item) (image : List ℕ) → IsLoaded layout items image → IsImage layout items image
is_image layout items image l =
    let at = start (record { size = l.size; items = [] }) in
    let loaded : TapeImage = record { tape = l.tape; layout = layout } in
    let fake : AwsError = record { fault = fault.FakeTape; offset = 0 } in
    let p = passed (is_fake_tape image) fake (read_from (length image) 0 at image) loaded l.loads in
    let k = kept (length image) 0 at image loaded (λ _. refl) l.bytes (omega arith) p.1 in
    let items-is : k.items ≡ items = sym k.recorded ∙ l.recorded in
    let parts-is : k.parts ≡ layout = sym k.noted in
    record {
      laid = subst (λ (xs : List Item). Laid 0 layout xs) items-is (subst (λ (ps : List Part). Laid 0 ps k.items) parts-is k.laid);
      fits = ap (list_all is_item) (sym items-is) ∙ k.fits;
      spelled = k.spelled ∙ ap (λ (ps : List Part). items_image ps 0 0 k.items) parts-is
          ∙ ap (λ (xs : List Item). items_image layout 0 0 xs) items-is;
    }

-- ---- a tape that was not written

pub all_common : (items : List Item) → common items items ≡ length items
unfolding common
all_common [] = refl
all_common (x ∷ items) =
    let same : bytes_eq (content_of x) (content_of x) ≡ true = (bytes_eq-Decides (content_of x) (content_of x)).1 refl in
    common_step x x items items same ∙ omega (arith, all_common items)

pub saved_itself : (parts : List Part) (items : List Item) → Laid 0 parts items → saved parts items items ≡ items_image parts 0 0 items
saved_itself parts items laid =
    let n = count_before (common items items) parts in
    let all : n ≡ length parts =
    ap (λ (k : ℕ). count_before k parts) (omega (arith, all_common items)) ∙ laid_within items 0 parts laid in
    ap (λ (ps : List Part). items_image ps 0 0 items) (take_all n parts (omega (arith, all)))

-- THE LAW of a tape that was not written
pub saved_as_loaded : (layout : List Part) (mounted now : List Item) (image : List ℕ) → IsLoaded layout mounted image → now ≡ mounted
    → saved layout mounted now ≡ image
saved_as_loaded layout mounted now image l same =
    let w = is_image layout mounted image l in
    ap (saved layout mounted) same ∙ saved_itself layout mounted w.laid ∙ sym w.spelled
