-- What an image of a track shows, and what a write leaves of it.
use Rattle.std.proofs.Common.{◌≡◌, ℕ, ◌+◌, ◌*◌, ◌≤◌, List, [], ◌∷◌, ◌++◌, length, take, drop, refl, sym, ap, subst, ◌∙◌, append_assoc}
use Rattle.std.proofs.Common.{arith}
use Rattle.std.specs.Int.{w16, to_be_bytes}
use Rattle.std.proofs.lemmas.List.{length-append, length-take, length-take-le, length-drop, length-set, take-append-drop, take_at, take-set}
use Rattle.device_port.specs.Moves.{padded, written}
use Rattle.device_port.specs.Packed.{HoldsItems, items_at, image_of, Begins}
use Rattle.device_port.proofs.Items.{Packs, packs-held, held-packs, length-padded, length-written, begins_at, Fits-at, offset_of-more}
use Rattle.device_port.proofs.Items.{offset_of-within, used-within, image_of-wide, item_put, item_pushed, item_patched}
use Rattle.ckd_disk.specs.declared.track.spot.Spot.{Spot}
use Rattle.ckd_disk.specs.Record.{Record, blank, ckd, count_area, packed, size_of, size_at, FitsCountArea, record_written}
use Rattle.ckd_disk.specs.Track.{TrackState, record_of, bytes_of, bytes_before, IsSpot, with_record, with_content, with_key_and_content}
use Rattle.ckd_disk.specs.Track.{with_record_behind, with_last}
use Rattle.ckd_disk.proofs.Packing.{IsBytes, reads, length-packed, Fits-record_at, packed-record_at, written_whole}

-- the track that an image is seen as
abbrev pub seen : List ℕ → ℕ → TrackState
seen bytes count = record { size = length bytes; records = items_at ckd count bytes }

-- an image of a track
pub record Shown (t : TrackState) (bytes : List ℕ) (used count : ℕ) : Type 0 where
  pub packs : Packs ckd t.records bytes used count
  pub size : length bytes ≡ t.size

pub shown : (t : TrackState) (bytes : List ℕ) (used count : ℕ) → HoldsItems ckd bytes used count → seen bytes count ≡ t →
    Shown t bytes used count
shown t bytes used count h e =
    let here : Shown (seen bytes count) bytes used count = record { packs = packs-held ckd bytes used count h; size = refl } in
    subst (λ (x : TrackState). Shown x bytes used count) e here

-- what a track keeps true of its image
pub record Kept (t : TrackState) (bytes : List ℕ) (used count : ℕ) : Type 0 where
  pub holds : HoldsItems ckd bytes used count
  pub view : seen bytes count ≡ t

pub kept : (t : TrackState) (bytes : List ℕ) (used count : ℕ) → Shown t bytes used count → Kept t bytes used count
kept t bytes used count s =
    let h = held-packs ckd reads t.records bytes used count s.packs in
    record {
      holds = h.0;
      view = ap (λ (l : List Record). record { size = length bytes; records = l }) h.1
          ∙ ap (λ (n : ℕ). record { size = n; records = t.records }) s.size;
    }

pub packed-wide : (r : Record) → FitsCountArea r → 8 ≤ length (packed r)
packed-wide r fits = omega (arith, length-packed r fits)

-- the image is as long as the track, and its records take at least eight bytes each
pub record Bounds (t : TrackState) (bytes : List ℕ) (used count : ℕ) : Type 0 where
  pub size : length bytes ≡ t.size
  pub taken : used ≡ bytes_of t.records
  pub counted : count ≡ length t.records
  pub within : used ≤ length bytes
  pub wide : count * 8 ≤ used

pub bounds : (t : TrackState) (bytes : List ℕ) (used count : ℕ) → HoldsItems ckd bytes used count → seen bytes count ≡ t →
    Bounds t bytes used count
bounds t bytes used count h e =
    let s = shown t bytes used count h e in
    record {
      size = s.size;
      taken = s.packs.taken;
      counted = s.packs.counted;
      within = used-within ckd t.records bytes used count s.packs;
      wide = omega (arith, s.packs.taken, s.packs.counted, image_of-wide ckd 8 t.records packed-wide s.packs.fits);
    }

-- ---- spots

pub spot_begins : (t : TrackState) (bytes : List ℕ) (used count : ℕ) (spot : Spot) → HoldsItems ckd bytes used count →
    seen bytes count ≡ t → IsSpot t.records spot → Begins ckd (drop spot.offset bytes) (record_of t.records spot.place)
spot_begins t bytes used count spot h e at =
    let s = shown t bytes used count h e in
    subst (λ (n : ℕ). Begins ckd (drop n bytes) (record_of t.records spot.place)) (sym at.offset)
    (begins_at ckd t.records bytes used count spot.place blank s.packs at.there)

-- where the record of a spot ends
pub record Ends (t : TrackState) (bytes : List ℕ) (spot : Spot) : Type 0 where
  pub end : bytes_before t.records (spot.place + 1) ≡ spot.offset + size_of (record_of t.records spot.place)
  pub within : bytes_before t.records (spot.place + 1) ≤ length bytes
  pub offset : spot.offset ≤ length bytes
  pub fits : FitsCountArea (record_of t.records spot.place)

pub spot_ends : (t : TrackState) (bytes : List ℕ) (used count : ℕ) (spot : Spot) → HoldsItems ckd bytes used count → seen bytes count ≡ t →
    IsSpot t.records spot → Ends t bytes spot
spot_ends t bytes used count spot h e at =
    let s = shown t bytes used count h e in
    let r = record_of t.records spot.place in
    let fits : FitsCountArea r = Fits-at ckd t.records spot.place blank s.packs.fits at.there in
    let end : bytes_before t.records (spot.place + 1) ≡ spot.offset + size_of r =
    omega (arith, offset_of-more ckd t.records spot.place blank at.there, length-packed r fits, at.offset) in
    let within : bytes_before t.records (spot.place + 1) ≤ length bytes =
    omega (
      arith,
      offset_of-within ckd t.records (spot.place + 1),
      s.packs.taken,
      used-within ckd t.records bytes used count s.packs,
    ) in
    record { end = end; within = within; offset = omega (arith, end, within); fits = fits }

-- ---- writes

pub blank_kept : (size : ℕ) (bytes : List ℕ) → length bytes ≡ size → Kept (record { size = size; records = [] }) bytes 0 0
blank_kept size bytes e = kept (record { size = size; records = [] }) bytes 0 0
    (record { packs = record { unused = bytes; parts = refl; fits = tt; taken = refl; counted = refl }; size = e })

pub appended : (t : TrackState) (bytes after : List ℕ) (used count : ℕ) (r : Record) → HoldsItems ckd bytes used count →
    seen bytes count ≡ t → FitsCountArea r
    → bytes_of t.records + size_of r ≤ t.size → after ≡ written bytes used (packed r) →
    Kept (with_last t r) after (used + size_of r) (count + 1)
appended t bytes after used count r h e fit room after-is =
    let s = shown t bytes used count h e in
    let len = length-packed r fit in
    let p = item_pushed ckd t.records bytes used count r s.packs fit in
    let whole : Shown (with_last t r) (written bytes used (packed r)) (used + length (packed r)) (count + 1) =
    record { packs = p; size = length-written bytes used (packed r) (omega (arith, s.packs.taken, s.size, room, len)) ∙ s.size } in
    let k = kept (with_last t r) (written bytes used (packed r)) (used + length (packed r)) (count + 1) whole in
    subst (λ (n : ℕ). Kept (with_last t r) after (used + n) (count + 1)) len
    (subst (λ (l : List ℕ). Kept (with_last t r) l (used + length (packed r)) (count + 1)) (sym after-is) k)

-- a spot stays where it is when the record there is replaced
spot_kept : (t : TrackState) (spot : Spot) (r : Record) → IsSpot t.records spot → IsSpot (with_record t spot.place r).records spot
spot_kept t spot r at = record {
  there = omega (arith, at.there, length-set t.records spot.place r);
  offset = at.offset ∙ sym (ap (λ (l : List Record). length (image_of ckd l)) (take-set t.records spot.place r));
}

-- what a write to the data area or to the key and data area leaves
pub record Rewritten (t : TrackState) (bytes : List ℕ) (used count : ℕ) (spot : Spot) : Type 0 where
  pub kept : Kept t bytes used count
  pub stands : IsSpot (items_at ckd count bytes) spot

patched : (t : TrackState) (bytes after : List ℕ) (used count : ℕ) (spot : Spot) (r : Record) (at : ℕ) (head old new : List ℕ)
    → HoldsItems ckd bytes used count → seen bytes count ≡ t → IsSpot t.records spot → FitsCountArea r
    → packed (record_of t.records spot.place) ≡ head ++ old → packed r ≡ head ++ new → length new ≡ length old →
    at + length old ≡ bytes_before t.records (spot.place + 1)
    → after ≡ written bytes at new → Rewritten (with_record t spot.place r) after used count spot
patched t bytes after used count spot r at head old new h e here fit old-is new-is len end after-is =
    let s = shown t bytes used count h e in
    let ends = spot_ends t bytes used count spot h e here in
    let size = length-packed (record_of t.records spot.place) ends.fits in
    let start : at ≡ bytes_before t.records spot.place + length head =
    omega (arith, end, ends.end, here.offset, size, ap length old-is, length-append head old) in
    let p = item_patched ckd t.records bytes used count spot.place at blank r head old new s.packs here.there fit old-is new-is len start in
    let whole : Shown (with_record t spot.place r) (written bytes at new) used count = record {
      packs = p;
      size = length-written bytes at new (omega (arith, len, end, ends.within)) ∙ s.size;
    } in
    let k = subst (λ (l : List ℕ). Kept (with_record t spot.place r) l used count) (sym after-is)
    (kept (with_record t spot.place r) (written bytes at new) used count whole) in
    record { kept = k; stands = subst (λ (x : TrackState). IsSpot x.records spot) (sym k.view) (spot_kept t spot r here) }

-- the bytes of a record whose data area, or key and data area, is another of the same length
packed-content : (r : Record) (new : List ℕ) → length new ≡ length r.content →
    packed (record r { content = new }) ≡ (count_area r ++ r.key) ++ new
packed-content r new e = ap (λ (n : ℕ). (r.id ++ length r.key ∷ to_be_bytes w16 n) ++ (r.key ++ new)) e
    ∙ sym (append_assoc (count_area r) r.key new)

packed-parts : (r : Record) (key content : List ℕ) → length key ≡ length r.key → length content ≡ length r.content →
    packed (record r { key = key; content = content }) ≡ count_area r ++ (key ++ content)
packed-parts r key content k c = ap (λ (n : ℕ). (r.id ++ n ∷ to_be_bytes w16 (length content)) ++ (key ++ content)) k
    ∙ ap (λ (n : ℕ). (r.id ++ length r.key ∷ to_be_bytes w16 n) ++ (key ++ content)) c

pub content_written : (t : TrackState) (bytes after : List ℕ) (used count : ℕ) (spot : Spot) (given : List ℕ) (at len : ℕ)
    → HoldsItems ckd bytes used count → seen bytes count ≡ t → IsSpot t.records spot
    → len ≡ length (record_of t.records spot.place).content → at + len ≡ bytes_before t.records (spot.place + 1) →
    after ≡ written bytes at (padded len given)
    → Rewritten (with_content t spot.place given) after used count spot
content_written t bytes after used count spot given at len h e here len-is end after-is =
    let r = record_of t.records spot.place in
    let new = padded (length r.content) given in
    let new-len = length-padded (length r.content) given in
    let fit = (spot_ends t bytes used count spot h e here).fits in
    let fit' : FitsCountArea (record r { content = new }) =
    record { id = fit.id; key = fit.key; content = omega (arith, fit.content, new-len) } in
    patched t bytes after used count spot (record r { content = new }) at (count_area r ++ r.key) r.content new h e here fit'
    (sym (append_assoc (count_area r) r.key r.content)) (packed-content r new new-len) new-len (omega (arith, len-is, end))
    (after-is ∙ ap (λ (n : ℕ). written bytes at (padded n given)) len-is)

pub parts_written : (t : TrackState) (bytes after : List ℕ) (used count : ℕ) (spot : Spot) (given : List ℕ) (at len : ℕ)
    → HoldsItems ckd bytes used count → seen bytes count ≡ t → IsSpot t.records spot
    → len ≡ length (record_of t.records spot.place).key + length (record_of t.records spot.place).content →
    at + len ≡ bytes_before t.records (spot.place + 1) → after ≡ written bytes at (padded len given)
    → Rewritten (with_key_and_content t spot.place given) after used count spot
parts_written t bytes after used count spot given at len h e here len-is end after-is =
    let r = record_of t.records spot.place in
    let k = length r.key in
    let new = padded (k + length r.content) given in
    let new-len = length-padded (k + length r.content) given in
    let key = take k new in
    let content = drop k new in
    let key-len : length key ≡ k = length-take k new ∙ omega (arith, new-len) in
    let content-len : length content ≡ length r.content = length-drop k new ∙ omega (arith, new-len) in
    let fit = (spot_ends t bytes used count spot h e here).fits in
    let fit' : FitsCountArea (record r { key = key; content = content }) =
    record { id = fit.id; key = omega (arith, fit.key, key-len); content = omega (arith, fit.content, content-len) } in
    let joined : packed (record r { key = key; content = content }) ≡ count_area r ++ new =
    packed-parts r key content key-len content-len ∙ ap (λ (l : List ℕ). count_area r ++ l) (take-append-drop k new) in
    patched t bytes after used count spot (record r { key = key; content = content }) at (count_area r)
    (r.key ++ r.content) new h e here fit'
    refl joined (new-len ∙ sym (length-append r.key r.content)) (omega (arith, len-is, end, length-append r.key r.content))
    (after-is ∙ ap (λ (n : ℕ). written bytes at (padded n given)) len-is)

-- what a record put behind another leaves
pub record Formatted (t : TrackState) (bytes : List ℕ) (used count : ℕ) (spot : Spot) : Type 0 where
  pub kept : Kept t bytes used count
  pub stands : IsSpot (items_at ckd count bytes) spot

pub record_put : (t : TrackState) (bytes after : List ℕ) (used count : ℕ) (spot : Spot) (given : List ℕ) (end len : ℕ)
    → HoldsItems ckd bytes used count → seen bytes count ≡ t → IsSpot t.records spot
    → IsBytes (padded len given) → 8 ≤ length given → end ≡ bytes_before t.records (spot.place + 1) → len ≡ size_at given →
    end + len ≤ t.size
    → after ≡ written bytes end (padded len given)
    → Formatted (with_record_behind t spot.place (record_written given)) after (end + len) (spot.place + 2)
    (record { place = spot.place + 1; offset = end })
record_put t bytes after used count spot given end len h e here fits long end-is len-is room after-is =
    let s = shown t bytes used count h e in
    let made = padded (size_at given) given in
    let r = record_written given in
    let whole = written_whole given long in
    let made-fits : IsBytes made = subst (λ (n : ℕ). IsBytes (padded n given)) len-is fits in
    let fit = Fits-record_at made made-fits whole in
    let packed-is : packed r ≡ padded len given = packed-record_at made made-fits whole ∙ ap (λ (n : ℕ). padded n given) (sym len-is) in
    let size : length (packed r) ≡ len = ap length packed-is ∙ length-padded len given in
    let kept' = take (spot.place + 1) t.records in
    let some : length kept' ≡ spot.place + 1 = length-take-le (spot.place + 1) t.records (omega (arith, here.there)) in
    let p = item_put ckd t.records bytes used count (spot.place + 1) end r s.packs (omega (arith, here.there)) fit end-is in
    let all : Shown (with_record_behind t spot.place r) (written bytes end (packed r)) (end + length (packed r)) (spot.place + 1 + 1) =
    record { packs = p; size = length-written bytes end (packed r) (omega (arith, size, room, s.size)) ∙ s.size } in
    let k = kept (with_record_behind t spot.place r) (written bytes end (packed r)) (end + length (packed r)) (spot.place + 1 + 1) all in
    let two : spot.place + 1 + 1 ≡ spot.place + 2 = omega arith in
    let k2 = subst (λ (n : ℕ). Kept (with_record_behind t spot.place r) (written bytes end (packed r)) (end + length (packed r)) n) two k in
    let k3 = subst (λ (n : ℕ). Kept (with_record_behind t spot.place r) (written bytes end (packed r)) (end + n) (spot.place + 2)) size
    k2 in
    let after-is' : after ≡ written bytes end (packed r) = after-is ∙ ap (written bytes end) (sym packed-is) in
    let last = subst (λ (l : List ℕ). Kept (with_record_behind t spot.place r) l (end + len) (spot.place + 2)) (sym after-is') k3 in
    let stands : IsSpot (with_record_behind t spot.place r).records (record { place = spot.place + 1; offset = end }) = record {
      there = omega (arith, some, length-append kept' (r ∷ []));
      offset = end-is ∙ sym (ap (λ (l : List Record). length (image_of ckd l)) (take_at kept' (r ∷ []) (spot.place + 1) some));
    } in
    record {
      kept = last;
      stands = subst (λ (x : TrackState). IsSpot x.records (record { place = spot.place + 1; offset = end }))
          (sym last.view) stands;
    }
