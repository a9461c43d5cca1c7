-- What an entry that says nothing of the active request leaves as it is.
use Rattle.unit_book.proofs.Names.{BookFields, ◌≡◌, ℕ, ◌+◌, ◌<◌, Option, Some, List, length, sym, ap, ◌∙◌, arith, subst, Meaning}
use Rattle.unit_book.proofs.Names.{PostedState, Name, Piece, Active, Entry, waiting, active, request_named, starts_of}
use Rattle.unit_book.proofs.Names.{is_halted, is_covered, attempts, active_phase, Fits, FitsBy, due, Free, ActivityTies}
use Rattle.unit_book.proofs.Names.{Ties, ◌++◌, [], Buffer, Queue, queue, OnErr, Storage, Placed}
use Rattle.unit_book.specs.Legal.{FitsFree}
use Rattle.unit_book.specs.Book.{active_count}
use Rattle.unit_book.specs.Fields.{active_field_count, Rooms}
use Rattle.std.proofs.Common.{Result}
use Rattle.io_area.specs.Storage.{SamePlace}
use Rattle.std.proofs.lemmas.Grind.{common_steps}

-- the later trace says of this name what the earlier one does
pub record Silent (H G : List Entry) (n : Name) : Type 0 where
  pub active : active G ≡ active H
  pub request : request_named n G ≡ request_named n H
  pub starts : starts_of n G ≡ starts_of n H
  pub attempts : attempts G ≡ attempts H
  pub halted : is_halted n G ≡ is_halted n H
  pub covered : is_covered (request_named n G) G ≡ is_covered (request_named n H) H

module _ {D : Type 0} (meaning : Meaning D) (mounted : D) where
  pub phase-same : (H G : List Entry) (n : Name) → (attempts G ≡ attempts H) × (is_halted n G ≡ is_halted n H) →
      active_phase meaning mounted n G ≡ active_phase meaning mounted n H
  phase-same H G n same = grind (arith, common_steps)

  module _ (H G : List Entry) (a : Active) (s : Silent H G a.piece.value.name) where
    phase-is : active_phase meaning mounted a.piece.value.name G ≡ active_phase meaning mounted a.piece.value.name H
    phase-is = phase-same H G a.piece.value.name (s.attempts, s.halted)

  -- a later trace that is silent on the active request
  pub activity-same : (G : List Entry) {held : BookFields D} {o : Option Active} → Ties meaning mounted held o →
      active G ≡ active held.trace → ((n : Name) → active held.trace ≡ Some n → Silent held.trace G n) →
      ActivityTies meaning mounted G held.channel.phase o
  activity-same G {held} {o} t e s = grind (arith, common_steps)

  -- there is room in the queue
  pub room-of : {held : BookFields D} {o : Option Active} {capacity : ℕ} →
      Ties meaning mounted held o → length (waiting held.trace) + active_count (active held.trace) + length held.out < capacity →
      length held.waiting + active_field_count o + length held.out < capacity
  room-of {held} {o} t h = grind (arith, common_steps)

  -- what fits freely fits where nothing is due
  pub fits-free : (e : Entry) (H : List Entry) → due meaning mounted H ≡ Free → FitsFree meaning mounted e H → Fits meaning mounted e H
  fits-free e H h f = subst (λ d. FitsBy meaning mounted d e H) (sym h) f

-- What the fields of a book say once it is known what a place of them has.

module _ {D : Type 0} {meaning : Meaning D} {mounted : D} {held : BookFields D} where
  -- the active place has this
  pub ties-found : {busy found : Option Active} → busy ≡ found → Ties meaning mounted held busy →
      Ties meaning mounted held found
  ties-found o t = subst (λ (x : Option Active). Ties meaning mounted held x) o t

  -- the name that is active is that of the request in the active place
  pub name-found : {a : Active} {n : Name} → active held.trace ≡ Some n → Ties meaning mounted held (Some a) →
      n ≡ a.piece.value.name
  name-found {a = a} {n = n} e t = let s : Some n ≡ Some a.piece.value.name = sym e ∙ t.activity.is in cc

-- the active place has this
pub rooms-found : {busy found : Option Active} {waiters swept : Queue} {outs : Buffer PostedState} → busy ≡ found →
    Rooms busy waiters swept outs → Rooms found waiters swept outs
rooms-found {waiters = waiters} {swept = swept} {outs = outs} o room = subst (λ (x : Option Active). Rooms x waiters swept outs) o room

-- what a sweep took was put into a queue that was empty
pub swept-found : {swept empty : Queue} {capacity : ℕ} {taken : List Piece} → swept ≡ queue (empty.pieces ++ taken) empty.capacity →
    empty ≡ queue [] capacity → swept ≡ queue taken capacity
swept-found {taken = taken} e o = e ∙ ap (λ (x : Queue). queue (x.pieces ++ taken) x.capacity) o

-- what holds of every error
pub on-err : {X E : Type 0} (r : Result X E) (P : Type 0) → P → OnErr r P
on-err v0 v1 p = grind (arith, common_steps)

-- Control blocks stay in storage that keeps its place.

pub placed-moved : (p : Piece) (m : Storage) → Placed p → SamePlace p.area m → Placed (record p { area = m })
placed-moved p m h s = grind (arith, common_steps)
