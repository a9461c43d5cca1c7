-- What writes and reads come to, case by case.
use Rattle.std.proofs.Common.{◌≡◌, ℕ, ◌+◌, ◌≤◌, Bool, true, false, cond, List, [], length, take, min, sym, ap, ◌∙◌, arith}
use Rattle.std.proofs.lemmas.List.{drop_all, length-take, take_min}
use Rattle.device_port.specs.Answers.{normal_end}
use Rattle.device_port.specs.Common.{unchanged, checked}
use Rattle.tape_unit.specs.Item.{Item, block}
use Rattle.tape_unit.specs.Reel.{has_room_at, with_item_at}
use Rattle.tape_unit.specs.Tape.{TapeState, moved_to, read, read_first, read_backward, write}

abbrev pub longest : ℕ
longest = 65_535

-- the tape with a block of the first n bytes given
abbrev pub with_block : TapeState → List ℕ → ℕ → TapeState
with_block t given n = record t { reel = with_item_at t.reel t.place (block (take n given)); place = t.place + 1 }

block_len : (given : List ℕ) (len : ℕ) → len ≡ min (length given) longest → length (take longest given) ≡ len
block_len given len is = length-take longest given ∙ omega arith

pub write_full : (t : TapeState) (given : List ℕ) (len : ℕ) → len ≡ min (length given) longest → has_room_at t.reel t.place len ≡ false →
    write t given ≡ checked t 0x1000
write_full t given len is full =
    let bytes = take longest given in
    let fits : has_room_at t.reel t.place (length bytes) ≡ false = ap (has_room_at t.reel t.place) (block_len given len is) ∙ full in
    ap (λ (b : Bool). cond b (unchanged (with_block t given longest) (normal_end (length bytes))) (checked t 0x1000)) fits

pub write_fits : (t : TapeState) (given : List ℕ) (len : ℕ) → len ≡ min (length given) longest → has_room_at t.reel t.place len ≡ true →
    write t given ≡ unchanged (with_block t given len) (normal_end len)
write_fits t given len is room =
    let bytes = take longest given in
    let long = block_len given len is in
    let fits : has_room_at t.reel t.place (length bytes) ≡ true = ap (has_room_at t.reel t.place) long ∙ room in
    let swapped : len ≡ min longest (length given) = omega arith in
    let same : bytes ≡ take len given = sym (ap (λ (n : ℕ). take n given) swapped ∙ take_min longest given) in
    ap (λ (b : Bool). cond b (unchanged (with_block t given longest) (normal_end (length bytes))) (checked t 0x1000)) fits
    ∙ ap (λ (n : ℕ). unchanged (with_block t given longest) (normal_end n)) long
    ∙ ap (λ (l : List ℕ). unchanged (record t { reel = with_item_at t.reel t.place (block l); place = t.place + 1 }) (normal_end len)) same

pub read_at_end : (t : TapeState) → length t.reel.items ≤ t.place → (read t).bytes ≡ []
read_at_end t end = ap (λ (l : List Item). (read_first t l).bytes) (drop_all t.place t.reel.items end)

pub read_at_load_point : (t : TapeState) → t.place ≡ 0 → (read_backward t).bytes ≡ []
read_at_load_point t e = ap (λ (n : ℕ). (read_backward (moved_to t n)).bytes) e
