-- What a recording shows, and what an item more leaves of it.
use Rattle.std.proofs.Common.{◌≡◌, ℕ, ◌+◌, ◌-◌, ◌*◌, ◌≤◌, true, List, [], ◌∷◌, ◌++◌, length, take, replicate, refl, ap, ◌∙◌}
use Rattle.std.proofs.Common.{append_assoc, arith}
use Rattle.std.proofs.lemmas.List.{length-append, length-replicate, take_all}
use Rattle.device_port.specs.Moves.{written}
use Rattle.device_port.specs.Packed.{items_at, image_of}
use Rattle.device_port.proofs.Items.{Packs, packs-held, held-packs, length-written, item_pushed}
use Rattle.tape_unit.specs.Item.{Item, is_item, size_of, packed, on_tape}
use Rattle.tape_unit.specs.Reel.{ReelState, HoldsReel, longest_reel}
use Rattle.tape_unit.specs.Recording.{HoldsRecording, with_item}
use Rattle.tape_unit.proofs.Spelled.{reads, wide, length-packed}

-- the reel that a recording is seen as
abbrev pub shows : List ℕ → ℕ → ℕ → ReelState
shows bytes count size = record { size = size; items = items_at on_tape count bytes }

-- what a recording keeps true of its fields
pub record Kept (reel : ReelState) (bytes : List ℕ) (count size : ℕ) : Type 0 where
  pub holds : HoldsRecording bytes count size
  pub view : shows bytes count size ≡ reel

pub blank_kept : (bytes : List ℕ) (size : ℕ) → bytes ≡ [] → size ≤ longest_reel →
    Kept (record { size = size; items = [] }) bytes 0 size
blank_kept bytes size none small =
    let packs : Packs on_tape [] bytes (length bytes) 0 =
    record { unused = []; parts = none; fits = tt; taken = ap length none; counted = refl } in
    let h = held-packs on_tape reads [] bytes (length bytes) 0 packs in
    record {
      holds = record { holds = h.0; within = omega (arith, ap length none); small = small };
      view = ap (λ (l : List Item). record { size = size; items = l }) h.1;
    }

-- how many items there are at most
pub few : (bytes : List ℕ) (count size : ℕ) → HoldsRecording bytes count size → 4 * count ≤ longest_reel
few bytes count size h =
    let p = packs-held on_tape bytes (length bytes) count h.holds in
    omega (arith, wide (items_at on_tape count bytes), p.taken, p.counted, h.within, h.small)

-- a buffer that was filled up with zeros to a length
pub record Grown (bytes grown : List ℕ) (count end : ℕ) : Type 0 where
  pub packs : Packs on_tape (items_at on_tape count bytes) grown (length bytes) count
  pub long : length grown ≡ end

pub grown_from : (bytes grown : List ℕ) (count size end : ℕ) → HoldsRecording bytes count size → length bytes ≤ end →
    grown ≡ take end bytes ++ replicate (end - length bytes) 0 → Grown bytes grown count end
grown_from bytes grown count size end h le is =
    let items = items_at on_tape count bytes in
    let zeros : List ℕ = replicate (end - length bytes) 0 in
    let p = packs-held on_tape bytes (length bytes) count h.holds in
    let whole : grown ≡ bytes ++ zeros = is ∙ ap (λ (l : List ℕ). l ++ zeros) (take_all end bytes le) in
    let many : length zeros ≡ end - length bytes = length-replicate (end - length bytes) 0 in
    record {
      packs = record {
        unused = p.unused ++ zeros;
        parts = whole ∙ ap (λ (l : List ℕ). l ++ zeros) p.parts ∙ append_assoc (image_of on_tape items) p.unused zeros;
        fits = p.fits;
        taken = p.taken;
        counted = p.counted;
      };
      long = omega (arith, ap length whole, length-append bytes zeros, many);
    }

pub recorded : (reel : ReelState) (bytes grown after : List ℕ) (count size end : ℕ) (x : Item) → HoldsRecording bytes count size →
    shows bytes count size ≡ reel → is_item x ≡ true → end ≡ length bytes + size_of x → end ≤ size
    → grown ≡ take end bytes ++ replicate (end - length bytes) 0 → after ≡ written grown (length bytes) (packed x)
    → Kept (with_item reel x) after (count + 1) size
recorded reel bytes grown after count size end x h e fit end-is fits grown-is after-is =
    let items = items_at on_tape count bytes in
    let g = grown_from bytes grown count size end h (omega arith) grown-is in
    let long : length after ≡ end = ap length after-is
    ∙ length-written grown (length bytes) (packed x) (omega (arith, length-packed x, g.long)) ∙ g.long in
    let pushed = item_pushed on_tape items grown (length bytes) count x g.packs fit in
    let packs : Packs on_tape (items ++ x ∷ []) after (length after) (count + 1) = record {
      unused = pushed.unused;
      parts = after-is ∙ pushed.parts;
      fits = pushed.fits;
      taken = omega (arith, pushed.taken, long, length-packed x);
      counted = pushed.counted;
    } in
    let done = held-packs on_tape reads (items ++ x ∷ []) after (length after) (count + 1) packs in
    record {
      holds = record { holds = done.0; within = omega (arith, long); small = h.small };
      view = ap (λ (l : List Item). record { size = size; items = l }) done.1 ∙ ap (λ (r : ReelState). with_item r x) e;
    }

-- the reel that it becomes
pub record Wound (reel : ReelState) (bytes : List ℕ) (used count : ℕ) : Type 0 where
  pub holds : HoldsReel bytes used count
  pub view : record { size = length bytes; items = items_at on_tape count bytes } ≡ reel

pub wound : (reel : ReelState) (bytes grown : List ℕ) (count size : ℕ) → HoldsRecording bytes count size →
    shows bytes count size ≡ reel → grown ≡ take size bytes ++ replicate (size - length bytes) 0
    → Wound reel grown (length bytes) count
wound reel bytes grown count size h e grown-is =
    let items = items_at on_tape count bytes in
    let g = grown_from bytes grown count size size h h.within grown-is in
    let done = held-packs on_tape reads items grown (length bytes) count g.packs in
    record {
      holds = record { holds = done.0; small = omega (arith, g.long, h.small) };
      view = ap (λ (l : List Item). record { size = length grown; items = l }) done.1
          ∙ ap (λ (n : ℕ). record { size = n; items = items }) g.long ∙ e;
    }
