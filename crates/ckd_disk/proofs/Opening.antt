-- What stands on a track as more records are handed in.
use Rattle.std.proofs.Common.{◌≡◌, ◌≢◌, ℕ, zero, suc, ◌+◌, ◌*◌, ◌/◌, ◌%◌, ◌<◌, ◌≤◌, Bool, true, false, nat_le, cond, List, [], ◌∷◌, ◌++◌}
use Rattle.std.proofs.Common.{length, map, get_or, set, take, drop, All, suc-mul, add-zero, refl, sym, ap, subst, ◌∙◌, arith, inl, inr}
use Rattle.std.specs.List.{filter, range_with_len, list_all, AllByRecursion}
use Rattle.std.proofs.lemmas.Bool.{cases_eq, eq-eqb, ne_eqb}
use Rattle.std.proofs.lemmas.Bool.Decides.{nat_tests}
use Rattle.std.proofs.lemmas.List.{same_lists, take-append-drop, take_more, take_all, length-append, length-set, get_or-set_same}
use Rattle.std.proofs.lemmas.List.{get_or-set_other, map-append, append-nil}
use Rattle.std.proofs.lemmas.List.Concat.{flat_map-append}
use Rattle.std.proofs.lemmas.List.Elements.{filter-append}
use Rattle.std.proofs.lemmas.List.Folds.{list_all_at}
use Rattle.std.proofs.lemmas.List.FromFn.{length-map-range_with_len, get_or-map-range_with_len}
use Rattle.device_port.specs.Packed.{image_of}
use Rattle.device_port.proofs.Items.{image_of-push}
use Rattle.ckd_disk.specs.declared.mount.Geometry.{Geometry}
use Rattle.ckd_disk.specs.declared.mount.InitialRecord.{InitialRecord}
use Rattle.ckd_disk.specs.declared.access.Access.{Access}
use Rattle.ckd_disk.specs.declared.access.Orientation.TheVariants as at
use Rattle.ckd_disk.specs.declared.access.Armed.TheVariants as by
use Rattle.device_port.specs.Faults.{Ordinals}
use Rattle.ckd_disk.specs.Access.{access_of, IsPlaced}
use Rattle.ckd_disk.specs.Disk.{no_track, IsDisk}
use Rattle.ckd_disk.specs.Record.{Record, ckd, packed, size_of, FitsCountArea}
use Rattle.ckd_disk.specs.Track.{TrackState, bytes_of, with_last}
use Rattle.ckd_disk.specs.Mount.{track_count, track_descriptor, initial, track_of_initial, stands_on, bytes_on, opening_records, has_room}
use Rattle.ckd_disk.specs.Mount.{opening_track, opening_tracks}
use Rattle.ckd_disk.specs.MountFacts.{IsGeometry, IsInitial}
use Rattle.ckd_disk.proofs.Packing.{length-packed}

-- the records handed in for one track
others : Geometry → List InitialRecord → ℕ → List Record
others g records track = map initial (filter (stands_on g track) records)

others-append : (g : Geometry) (xs ys : List InitialRecord) (track : ℕ) → others g (xs ++ ys) track ≡ others g xs track ++ others g ys track
unfolding others
others-append g xs ys track = ap (map initial) (filter-append (stands_on g track) xs ys)
    ∙ map-append initial (filter (stands_on g track) xs) (filter (stands_on g track) ys)

opening-append : (g : Geometry) (xs ys : List InitialRecord) (track : ℕ) → opening_records g (xs ++ ys) track ≡ opening_records g xs track
    ++ others g ys track
unfolding others
opening-append g xs ys track = ap (λ (l : List Record). track_descriptor (track / g.heads) (track % g.heads) ∷ l)
    (others-append g xs ys track)

-- one more is handed in: on its own track, and on another
one_here : (g : Geometry) (xs : List InitialRecord) (r : InitialRecord) (track : ℕ) → track_of_initial g r ≡ track →
    opening_records g (xs ++ r ∷ []) track ≡ opening_records g xs track ++ initial r ∷ []
unfolding others
one_here g xs r track e =
    opening-append g xs (r ∷ []) track ∙ ap (λ (b : Bool). opening_records g xs track ++ map initial (cond b (r ∷ []) []))
    (eq-eqb (track_of_initial g r) track e)

one_elsewhere : (g : Geometry) (xs : List InitialRecord) (r : InitialRecord) (track : ℕ) → track_of_initial g r ≢ track →
    opening_records g (xs ++ r ∷ []) track ≡ opening_records g xs track
unfolding others
one_elsewhere g xs r track e =
    opening-append g xs (r ∷ []) track ∙ ap (λ (b : Bool). opening_records g xs track ++ map initial (cond b (r ∷ []) []))
    (ne_eqb (track_of_initial g r) track e) ∙ append-nil (opening_records g xs track)

Fits-initial : (g : Geometry) (r : InitialRecord) → IsInitial g r → FitsCountArea (initial r)
Fits-initial g r ok = record { id = refl; key = omega (arith, ok.key); content = omega (arith, ok.content) }

-- how many bytes stand on a track
pub opening_bytes : Geometry → List InitialRecord → ℕ → ℕ
opening_bytes g records track = bytes_of (opening_records g records track)

pub opening_bytes-is : (g : Geometry) (records : List InitialRecord) (track : ℕ) →
    opening_bytes g records track ≡ bytes_of (opening_records g records track)
unfolding opening_bytes
opening_bytes-is g records track = refl

pub bytes_start : (g : Geometry) (track : ℕ) → opening_bytes g [] track ≡ 16
unfolding opening_bytes
bytes_start g track = refl

bytes_here : (g : Geometry) (xs : List InitialRecord) (r : InitialRecord) (track : ℕ) → IsInitial g r → track_of_initial g r ≡ track →
    opening_bytes g (xs ++ r ∷ []) track ≡ opening_bytes g xs track + size_of (initial r)
unfolding opening_bytes
bytes_here g xs r track ok e =
    let records = opening_records g xs track in
    ap bytes_of (one_here g xs r track e) ∙ ap length (image_of-push ckd records (initial r))
    ∙ length-append (image_of ckd records) (packed (initial r))
    ∙ ap (λ (n : ℕ). bytes_of records + n) (length-packed (initial r) (Fits-initial g r ok))

bytes_elsewhere : (g : Geometry) (xs : List InitialRecord) (r : InitialRecord) (track : ℕ) → track_of_initial g r ≢ track →
    opening_bytes g (xs ++ r ∷ []) track ≡ opening_bytes g xs track
unfolding opening_bytes
bytes_elsewhere g xs r track e = ap bytes_of (one_elsewhere g xs r track e)

-- fewer records take no more bytes
pub bytes_grow : (g : Geometry) (records : List InitialRecord) (k track : ℕ) →
    opening_bytes g (take k records) track ≤ opening_bytes g records track
unfolding opening_bytes
bytes_grow g records k track =
    let front = opening_records g (take k records) track in
    let back = others g (drop k records) track in
    let whole : opening_records g records track ≡ front ++ back =
    ap (λ (l : List InitialRecord). opening_records g l track) (sym (take-append-drop k records))
    ∙ opening-append g (take k records) (drop k records) track in
    omega (arith, ap bytes_of whole, ap length (flat_map-append packed front back), length-append (image_of ckd front) (image_of ckd back))

-- ---- the steps of a loop over the records

taken_more : (records : List InitialRecord) (k : ℕ) (r : InitialRecord) → k < length records → r ≡ get_or records k r →
    take (k + 1) records ≡ take k records ++ r ∷ []
taken_more records k r lt is = take_more records k r lt ∙ ap (λ (x : InitialRecord). take k records ++ x ∷ []) (sym is)

pub bytes_more_here : (g : Geometry) (records : List InitialRecord) (k : ℕ) (r : InitialRecord) (track : ℕ) → k < length records →
    r ≡ get_or records k r → IsInitial g r → track_of_initial g r ≡ track
    → opening_bytes g (take (k + 1) records) track ≡ opening_bytes g (take k records) track + size_of (initial r)
bytes_more_here g records k r track lt is ok e = ap (λ (l : List InitialRecord). opening_bytes g l track) (taken_more records k r lt is)
    ∙ bytes_here g (take k records) r track ok e

bytes_more_elsewhere : (g : Geometry) (records : List InitialRecord) (k : ℕ) (r : InitialRecord) (track : ℕ) → k < length records →
    r ≡ get_or records k r → track_of_initial g r ≢ track
    → opening_bytes g (take (k + 1) records) track ≡ opening_bytes g (take k records) track
bytes_more_elsewhere g records k r track lt is ne = ap (λ (l : List InitialRecord). opening_bytes g l track) (taken_more records k r lt is)
    ∙ bytes_elsewhere g (take k records) r track ne

-- either way
pub bytes_more : (g : Geometry) (records : List InitialRecord) (k : ℕ) (r : InitialRecord) (track : ℕ) → k < length records →
    r ≡ get_or records k r → IsInitial g r
    → opening_bytes g (take (k + 1) records) track ≡ opening_bytes g (take k records) track + bytes_on g track r
bytes_more g records k r track lt is ok = elim (cases_eq (track_of_initial g r) track) [
  | inl e ↦ rw (eq-eqb (track_of_initial g r) track e) (bytes_more_here g records k r track lt is ok e)
  | inr ne ↦ rw (ne_eqb (track_of_initial g r) track ne)
      (bytes_more_elsewhere g records k r track lt is ne ∙ sym (add-zero (opening_bytes g (take k records) track)))
]

pub item_ok : (g : Geometry) (records : List InitialRecord) (k : ℕ) (r : InitialRecord) → All (IsInitial g) records → k < length records →
    r ≡ get_or records k r → IsInitial g r
item_ok g records k r each lt is = subst (λ (x : InitialRecord). IsInitial g x) (sym is) (each k r lt)

-- ---- room

nat_le-true : (a b : ℕ) → a ≤ b → nat_le a b ≡ true
nat_le-true a b h = grind (arith, nat_tests)

nat_le-false : (a b : ℕ) → b < a → nat_le a b ≡ false
nat_le-false a b h = grind (arith, nat_tests)

-- a track that is too full for the first records is so for all
pub too_full : (g : Geometry) (records : List InitialRecord) (k track : ℕ) → g.track_bytes < opening_bytes g (take k records) track →
    nat_le (bytes_of (opening_records g records track)) g.track_bytes ≡ false
unfolding opening_bytes
too_full g records k track over = nat_le-false (bytes_of (opening_records g records track)) g.track_bytes
    (omega (arith, over, bytes_grow g records k track))

-- so no medium holds a record that does not fit
pub no_room : (g : Geometry) (records : List InitialRecord) (k : ℕ) (r : InitialRecord) → k < length records → r ≡ get_or records k r →
    g.track_bytes < opening_bytes g (take (k + 1) records) (track_of_initial g r) → list_all (has_room g records) records ≡ false
no_room g records k r lt is over =
    list_all_at (has_room g records) records k r lt
    (subst (λ (x : InitialRecord). has_room g records x ≡ false) is (too_full g records (k + 1) (track_of_initial g r) over))

-- where every track has room, each record's has
pub all_room : (g : Geometry) (records : List InitialRecord) → ((track : ℕ) → bytes_of (opening_records g records track) ≤ g.track_bytes) →
    list_all (has_room g records) records ≡ true
all_room g records room = go records
  where
    go : (some : List InitialRecord) → list_all (has_room g records) some ≡ true
    go [] = refl
    go (r ∷ some) = rw (nat_le-true (bytes_of (opening_records g records (track_of_initial g r))) g.track_bytes
        (room (track_of_initial g r))) (go some)

-- ---- a list made from a function of the index, written at one index

set-made : {X : Type 0} (f g : ℕ → X) (n at : ℕ) → at < n → ((j : ℕ) → j ≢ at → g j ≡ f j) →
    set (map f (range_with_len 0 n)) at (g at) ≡ map g (range_with_len 0 n)
set-made f g n at lt same =
    let fs = map f (range_with_len 0 n) in
    same_lists (set fs at (g at)) (map g (range_with_len 0 n))
    (length-set fs at (g at) ∙ length-map-range_with_len f 0 n ∙ sym (length-map-range_with_len g 0 n)) (λ k d below.
    let in_range : k < n = omega (arith, length-set fs at (g at), length-map-range_with_len f 0 n) in
    let there : at < length fs = omega (arith, length-map-range_with_len f 0 n) in
    elim (cases_eq k at) [
      | inl e ↦ ap (λ (i : ℕ). get_or (set fs at (g at)) i d) e ∙ get_or-set_same fs at (g at) d there
          ∙ sym (get_or-map-range_with_len g 0 n k at d in_range (omega arith))
      | inr ne ↦ get_or-set_other fs at k (g at) d ne ∙ get_or-map-range_with_len f 0 n k k d in_range (omega arith) ∙ sym (same k ne)
          ∙ sym (get_or-map-range_with_len g 0 n k k d in_range (omega arith))
    ])

-- the tracks with one more record
tracks_more : (g : Geometry) (records : List InitialRecord) (r : InitialRecord) (track : ℕ) → track_of_initial g r ≡ track →
    track < track_count g
    → set (opening_tracks g records) track (with_last (opening_track g records track) (initial r)) ≡ opening_tracks g (records ++ r ∷ [])
tracks_more g records r track e lt =
    ap (λ (l : List Record). set (opening_tracks g records) track (record { size = g.track_bytes; records = l }))
    (sym (one_here g records r track e))
    ∙ set-made (opening_track g records) (opening_track g (records ++ r ∷ [])) (track_count g) track lt
    (λ j ne. ap (λ (l : List Record). record { size = g.track_bytes; records = l })
    (one_elsewhere g records r j (λ same. ne (sym same ∙ e))))

pub track_among : (g : Geometry) (records : List InitialRecord) (tracks : List TrackState) (track : ℕ) (d : TrackState) →
    tracks ≡ opening_tracks g records → track < track_count g → get_or tracks track d ≡ opening_track g records track
track_among g records tracks track d e there = ap (λ (l : List TrackState). get_or l track d) e
    ∙ get_or-map-range_with_len (opening_track g records) 0 (track_count g) track track d there (omega arith)

pub length-tracks : (g : Geometry) (records : List InitialRecord) (tracks : List TrackState) → tracks ≡ opening_tracks g records →
    length tracks ≡ track_count g
length-tracks g records tracks e = ap length e ∙ length-map-range_with_len (opening_track g records) 0 (track_count g)

pub placed_more : (g : Geometry) (records : List InitialRecord) (k : ℕ) (r : InitialRecord) (track : ℕ) (tracks : List TrackState)
    (d made : TrackState) (x : Record)
    → k < length records → r ≡ get_or records k r → track_of_initial g r ≡ track → track < track_count g
    → tracks ≡ opening_tracks g (take k records) → made ≡ with_last (get_or tracks track d) x → x ≡ initial r →
    set tracks track made ≡ opening_tracks g (take (k + 1) records)
placed_more g records k r track tracks d made x lt is e there so_far made-is x-is =
    let before = opening_track g (take k records) track in
    let made-here : made ≡ with_last before (initial r) =
    made-is ∙ ap (λ (t : TrackState). with_last t x) (track_among g (take k records) tracks track d so_far there)
    ∙ ap (with_last before) x-is in
    ap (set tracks track) made-here ∙ ap (λ (l : List TrackState). set l track (with_last before (initial r))) so_far
    ∙ tracks_more g (take k records) r track e there ∙ ap (opening_tracks g) (sym (taken_more records k r lt is))

-- where a track has room for one more record, every track has
pub room_more : (g : Geometry) (records : List InitialRecord) (k : ℕ) (r : InitialRecord) → k < length records → r ≡ get_or records k r →
    IsInitial g r
    → ((track : ℕ) → opening_bytes g (take k records) track ≤ g.track_bytes) →
    opening_bytes g (take k records) (track_of_initial g r) + size_of (initial r) ≤ g.track_bytes
    → (track : ℕ) → opening_bytes g (take (k + 1) records) track ≤ g.track_bytes
room_more g records k r lt is ok so_far here track = elim (cases_eq (track_of_initial g r) track) [
  | inl e ↦ omega (arith, bytes_more_here g records k r track lt is ok e, here, ap (opening_bytes g (take k records)) e)
  | inr ne ↦ omega (arith, bytes_more_elsewhere g records k r track lt is ne, so_far track)
]

-- how many bytes stand on a track that is made
pub bytes_made : (g : Geometry) (records : List InitialRecord) (tracks : List TrackState) (track : ℕ) (t : TrackState) →
    tracks ≡ opening_tracks g records → track < track_count g → t ≡ get_or tracks track t
    → (bytes_of t.records ≡ opening_bytes g records track) × (t.size ≡ g.track_bytes)
unfolding opening_bytes
bytes_made g records tracks track t e there t-is =
    let is = t-is ∙ track_among g records tracks track t e there in
    (ap (λ (x : TrackState). bytes_of x.records) is, ap (λ (x : TrackState). x.size) is)

-- all records were gone over
pub room_of_all : (g : Geometry) (records : List InitialRecord) (n track : ℕ) → length records ≤ n →
    opening_bytes g (take n records) track ≤ g.track_bytes → nat_le (bytes_of (opening_records g records track)) g.track_bytes ≡ true
unfolding opening_bytes
room_of_all g records n track all room =
    nat_le-true (bytes_of (opening_records g records track)) g.track_bytes
    (subst (λ (l : List InitialRecord). bytes_of (opening_records g l track) ≤ g.track_bytes) (take_all n records all) room)

pub all_placed : (g : Geometry) (records : List InitialRecord) (n : ℕ) → length records ≤ n →
    ((track : ℕ) → opening_bytes g (take n records) track ≤ g.track_bytes) → list_all (has_room g records) records ≡ true
unfolding opening_bytes
all_placed g records n all room =
    all_room g records (λ track. subst (λ (l : List InitialRecord). bytes_of (opening_records g l track) ≤ g.track_bytes)
    (take_all n records all) (room track))

-- ---- the whole disk

each_filled : (g : Geometry) (records : List InitialRecord) (numbers : List ℕ) →
    AllByRecursion (λ t. 0 < length t.records) (map (opening_track g records) numbers)
each_filled g records [] = tt
each_filled g records (n ∷ numbers) = (omega arith, each_filled g records numbers)

some_track : (a b : ℕ) → 1 ≤ a → 1 ≤ b → 0 < a * b
some_track zero b p q = absurd (omega arith)
some_track (suc a) b p q = omega (arith, suc-mul a b)

-- the opening disk as the code has it
pub IsDisk-opening : (g : Geometry) (records : List InitialRecord) (tracks : List TrackState) (access : Access) (ordinals : Ordinals) →
    IsGeometry g → tracks ≡ opening_tracks g records
    → access ≡ record { mask = record { 0 = 0 }; orientation = at.Index; passes = 0; armed = by.No }
    → IsDisk (record {
      cylinders = g.cylinders;
      heads = g.heads;
      tracks = tracks;
      track = 0;
      access = access_of access;
      ordinals = ordinals;
    }) access
IsDisk-opening g records tracks access ordinals ok e access-is =
    let start : Access = record { mask = record { 0 = 0 }; orientation = at.Index; passes = 0; armed = by.No } in
    let there : 0 < track_count g = some_track g.cylinders g.heads ok.cylinders ok.heads in
    let all = opening_tracks g records in
    let opened : IsDisk (record {
      cylinders = g.cylinders;
      heads = g.heads;
      tracks = all;
      track = 0;
      access = access_of start;
      ordinals = ordinals;
    }) start = record {
      all = length-map-range_with_len (opening_track g records) 0 (track_count g);
      here = omega (arith, there, length-tracks g records all refl);
      placed = subst (λ (t : TrackState). IsPlaced start t) (sym (track_among g records all 0 no_track refl there))
          (record { some = omega arith; oriented = tt; armed = tt });
      filled = each_filled g records (range_with_len 0 (track_count g));
    } in
    subst (λ (a : Access). IsDisk
    (record { cylinders = g.cylinders; heads = g.heads; tracks = tracks; track = 0; access = access_of a; ordinals = ordinals }) a)
    (sym access-is)
    (subst (λ (l : List TrackState). IsDisk
    (record { cylinders = g.cylinders; heads = g.heads; tracks = l; track = 0; access = access_of start; ordinals = ordinals }) start)
    (sym e) opened)
