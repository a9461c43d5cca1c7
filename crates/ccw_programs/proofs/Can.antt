-- The parts of a chain lie in storage and have room for a byte, so the device may act.
use Rattle.std.proofs.Common.{◌≡◌, ℕ, zero, suc, ◌+◌, ◌-◌, ◌≤◌, ◌%◌, min, List, [], ◌∷◌, ◌++◌, refl, arith, Bool, true, false, sym, length}
use Rattle.std.proofs.Common.{Result, Ok, Err, ◌==◌, if◌then◌else◌}
use Rattle.std.proofs.lemmas.Bool.{and_parts}
use Rattle.std.specs.List.{All}
use Rattle.std.proofs.lemmas.List.Elements.{All-nil, All-cons, All-append, All-head, All-tail}
use Rattle.std.proofs.lemmas.List.Sums.{sum_by-append, sum_by-cons}
use Rattle.io_area.specs.Storage.{Storage, lies_in}
use Rattle.io_images.specs.declared.ccw.Ccw.{Ccw}
use Rattle.device_port.specs.Moves.{AllLie, CanAct, segment_lies, total}
use Rattle.device_port.specs.declared.chain.Segment.{Segment}
use Rattle.device_port.specs.declared.kind.Flow.{Flow}
use Rattle.device_port.specs.declared.kind.Flow.TheVariants.{None as NoFlow, Out, Input, Back}
use Rattle.ccw_programs.specs.declared.fetch.Link.{Link}
use Rattle.ccw_programs.specs.declared.rule.Rule.{Rule}
use Rattle.ccw_programs.specs.declared.rule.Rule.TheVariants.{DataOutside, ListBackward, ListMisaligned, WordOutside}
use Rattle.ccw_programs.specs.Links.{Sound, is_indirect, skips}
use Rattle.ccw_programs.specs.Areas.{Areas, Parts, Bad, areas, areas_joined, parts_of, direct_parts, indirect_parts, parts_from, part_of}
use Rattle.ccw_programs.specs.Areas.{only_if, with_part, is_usable, word_at, word_rule, room_after, words_needed}

-- each part lies in storage, read upward
abbrev pub LieUp : Storage → List Segment → Type 0
LieUp m ps = All (λ s. lies_in m s.address s.count ≡ true) ps

-- the parts lie there, and have room for a byte
pub record Good (flow : Flow) (m : Storage) (ps : List Segment) : Type 0 where
  pub lie : AllLie flow m ps
  pub room : 1 ≤ total ps

usable-lies : (m : Storage) (is_first : Bool) (at count : ℕ) → is_usable m is_first at count ≡ true →
    lies_in m (word_at m at) (min count (room_after (word_at m at))) ≡ true
usable-lies m is_first at count h = (and_parts _ _ h).1

-- one more part in front
module _ (m : Storage) (s : Segment) (ps : List Segment) (rule : Rule) where
  up-step : (b : Bool) (rest : Result (List Segment) Rule) → (b ≡ true → lies_in m s.address s.count ≡ true) →
      ((qs : List Segment) → rest ≡ Ok qs → LieUp m qs) → only_if b rule (with_part s rest) ≡ Ok ps → LieUp m ps
  up-step false rest here more h = absurd cc
  up-step true (Err broken) here more h = absurd cc
  up-step true (Ok qs) here more h =
      let e : s ∷ qs ≡ ps = cc in
      rw (← e) (All-cons (λ s. lies_in m s.address s.count ≡ true) s qs (here refl) (more qs refl))

  room-step : (b : Bool) (rest : Result (List Segment) Rule) → 1 ≤ s.count → only_if b rule (with_part s rest) ≡ Ok ps → 1 ≤ total ps
  room-step false rest some h = absurd cc
  room-step true (Err broken) some h = absurd cc
  room-step true (Ok qs) some h =
      let e : s ∷ qs ≡ ps = cc in
      rw (← e, sum_by-cons (λ (s : Segment). s.count) s qs) (omega arith)

parts_from-up : (m : Storage) (skip is_first : Bool) (at words count : ℕ) (ps : List Segment) →
    parts_from m skip is_first at words count ≡ Ok ps → LieUp m ps
unfolding parts_from
parts_from-up m skip is_first at zero count ps h =
    let e : [] ≡ ps = cc in rw (← e) (All-nil (λ (s : Segment). lies_in m s.address s.count ≡ true))
parts_from-up m skip is_first at (suc words) count ps h =
    up-step m _ ps (word_rule m is_first at) (is_usable m is_first at count)
    (parts_from m skip false (at + 4) words (count - room_after (word_at m at)))
    (usable-lies m is_first at count) (λ qs e. parts_from-up m skip false (at + 4) words (count - room_after (word_at m at)) qs e) h

parts_from-room : (m : Storage) (skip is_first : Bool) (at words count : ℕ) (ps : List Segment) → 1 ≤ words → 1 ≤ count →
    parts_from m skip is_first at words count ≡ Ok ps → 1 ≤ total ps
unfolding parts_from
parts_from-room m skip is_first at zero count ps w c h = absurd (omega arith)
parts_from-room m skip is_first at (suc words) count ps w c h =
    room-step m _ ps (word_rule m is_first at) (is_usable m is_first at count)
    (parts_from m skip false (at + 4) words (count - room_after (word_at m at))) (omega arith) h

-- the parts of a list of words lie in storage and have room
indirect-good : (m : Storage) (ccw : Ccw) (ps : List Segment) → 1 ≤ ccw.count → indirect_parts m ccw ≡ Ok ps → LieUp m ps × (1 ≤ total ps)
indirect-good m ccw ps c h = by_tests (ccw.address % 4 == 0) (lies_in m ccw.address 4) h where
  by_tests : (a b : Bool) →
      only_if a ListMisaligned
      (only_if b (WordOutside ccw.address)
      (parts_from m (skips ccw) true ccw.address (words_needed (word_at m ccw.address) ccw.count) ccw.count)) ≡ Ok ps →
      LieUp m ps × (1 ≤ total ps)
  by_tests false b e = absurd cc
  by_tests true false e = absurd cc
  by_tests true true e = (
    parts_from-up m (skips ccw) true ccw.address _ ccw.count ps e,
    parts_from-room m (skips ccw) true ccw.address _ ccw.count ps
        (omega arith) c e,
  )

direct-good : (flow : Flow) (m : Storage) (ccw : Ccw) (ps : List Segment) → 1 ≤ ccw.count → direct_parts flow m ccw ≡ Ok ps → Good flow m ps
direct-good flow m ccw ps c h = by_test (segment_lies flow m (part_of ccw)) refl h where
  by_test : (b : Bool) → b ≡ segment_lies flow m (part_of ccw) → only_if b DataOutside (Ok (part_of ccw ∷ [])) ≡ Ok ps → Good flow m ps
  by_test false t e = absurd cc
  by_test true t e =
      let same : part_of ccw ∷ [] ≡ ps = cc in
      record {
        lie = rw (← same) (All-cons (λ s. segment_lies flow m s ≡ true) (part_of ccw) [] (sym t)
            (All-nil (λ s. segment_lies flow m s ≡ true)));
        room = rw (← same, sum_by-cons (λ (s : Segment). s.count) (part_of ccw) []) (omega arith);
      }

cases : {X : Type 0} (b : Bool) (p q r : X) (G : Type 0) → (if b then p else q) ≡ r → (p ≡ r → G) → (q ≡ r → G) → G
cases true p q r G h l g = l h
cases false p q r G h l g = g h

-- data flows
abbrev pub Flows : Flow → Type 0
Flows NoFlow = ⊥
Flows Out = Unit {0}
Flows Input = Unit {0}
Flows Back = Unit {0}

parts_of-good : (flow : Flow) (m : Storage) (ccw : Ccw) (ps : List Segment) → Flows flow → 1 ≤ ccw.count → parts_of flow m ccw ≡ Ok ps →
    Good flow m ps
parts_of-good NoFlow m ccw ps f c h = absurd f
parts_of-good Out m ccw ps f c h = cases (is_indirect ccw) (indirect_parts m ccw) (direct_parts Out m ccw) (Ok ps) (Good Out m ps) h
    (λ e. let g = indirect-good m ccw ps c e in record { lie = g.0; room = g.1 }) (λ e. direct-good Out m ccw ps c e)
parts_of-good Input m ccw ps f c h = cases (is_indirect ccw) (indirect_parts m ccw) (direct_parts Input m ccw) (Ok ps) (Good Input m ps) h
    (λ e. let g = indirect-good m ccw ps c e in record { lie = g.0; room = g.1 }) (λ e. direct-good Input m ccw ps c e)
parts_of-good Back m ccw ps f c h = cases (is_indirect ccw) (Err ListBackward) (direct_parts Back m ccw) (Ok ps) (Good Back m ps) h
    (λ e. absurd cc) (λ e. direct-good Back m ccw ps c e)

joined-good : (flow : Flow) (m : Storage) (at : ℕ) (ps : List Segment) (o : Result (List Segment) Rule) (rest : Areas) →
    ((qs : List Segment) → o ≡ Ok qs → Good flow m qs) → ((rs : List Segment) → rest ≡ Parts rs → AllLie flow m rs) →
    areas_joined at o rest ≡ Parts ps → Good flow m ps
joined-good flow m at ps (Err rule) rest g a h = absurd cc
joined-good flow m at ps (Ok qs) (Bad b) g a h = absurd cc
joined-good flow m at ps (Ok qs) (Parts rs) g a h =
    let e : qs ++ rs ≡ ps = cc in
    let good = g qs refl in
    let more : 1 ≤ total qs = good.room in
    record {
      lie = rw (← e) (All-append (λ s. segment_lies flow m s ≡ true) qs rs good.lie (a rs refl));
      room = rw (← e, sum_by-append (λ (s : Segment). s.count) qs rs) (omega arith);
    }

areas-lie : (flow : Flow) (m : Storage) (links : List Link) (ps : List Segment) → Flows flow → All Sound links →
    areas flow m links ≡ Parts ps → AllLie flow m ps
areas-lie flow m [] ps f sound h = let e : [] ≡ ps = cc in rw (← e) (All-nil (λ s. segment_lies flow m s ≡ true))
areas-lie flow m (l ∷ ls) ps f sound h =
    (joined-good flow m l.at ps (parts_of flow m l.ccw) (areas flow m ls)
    (λ qs e. parts_of-good flow m l.ccw qs f (All-head Sound l ls sound).counted e)
    (λ rs e. areas-lie flow m ls rs f (All-tail Sound l ls sound) e) h).lie

areas-good : (flow : Flow) (m : Storage) (links : List Link) (ps : List Segment) → Flows flow → 1 ≤ length links → All Sound links →
    areas flow m links ≡ Parts ps → Good flow m ps
areas-good flow m [] ps f some sound h = absurd (omega arith)
areas-good flow m (l ∷ ls) ps f some sound h =
    joined-good flow m l.at ps (parts_of flow m l.ccw) (areas flow m ls)
    (λ qs e. parts_of-good flow m l.ccw qs f (All-head Sound l ls sound).counted e)
    (λ rs e. areas-lie flow m ls rs f (All-tail Sound l ls sound) e) h

pub areas-can : (flow : Flow) (m : Storage) (links : List Link) (ps : List Segment) → 1 ≤ length links → All Sound links →
    areas flow m links ≡ Parts ps → CanAct flow m ps
areas-can NoFlow m links ps some sound h = tt
areas-can Out m links ps some sound h = let g = areas-good Out m links ps tt some sound h in (g.lie, g.room)
areas-can Input m links ps some sound h = let g = areas-good Input m links ps tt some sound h in (g.lie, g.room)
areas-can Back m links ps some sound h = let g = areas-good Back m links ps tt some sound h in (g.lie, g.room)
