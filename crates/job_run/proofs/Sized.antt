-- The books of a script differ only in their room, if they are made for another number of requests at a time.
use Rattle.std.proofs.Common.{◌≡◌, ℕ, Bool, true, false, if◌then◌else◌, Option, Result, Ok, Err, List, [], ◌∷◌, map, refl, ap, ◌∙◌}
use Rattle.request_piece.specs.PostedState.{PostedState}
use Rattle.request_piece.specs.declared.piece.Piece.{Piece}
use Rattle.any_device.specs.declared.device.AnyDevice.{AnyDevice}
use Rattle.unit_book.specs.Book.{Book, opening}
use Rattle.job_script.specs.Grammar.{FaultAt}
use Rattle.job_script.specs.Said.{OpeningSaid, Said, UnitSaid}
use Rattle.job_mount.specs.Mounting.{◌>>=◌, at_extent, books_with, devices_with, opened, tried, units_with}
use Rattle.job_mount.specs.Openings.{beside, can_open, open_all, with_dcb}
use Rattle.job_run.specs.Serial.{all_serial_posts, serial_posts}

-- the book with room for this many requests
abbrev pub sized : ℕ → Book AnyDevice → Book AnyDevice
sized capacity b = record b { capacity = capacity }

-- a book, or books, with room for this many, if there is no fault
one_sized : ℕ → Result (Book AnyDevice) ℕ → Result (Book AnyDevice) ℕ
one_sized n (Ok b) = Ok (sized n b)
one_sized n (Err line) = Err line

all_sized : {E : Type 0} → ℕ → Result (List (Book AnyDevice)) E → Result (List (Book AnyDevice)) E
all_sized n (Ok books) = Ok (map (sized n) books)
all_sized n (Err e) = Err e

opens_by : (n : ℕ) (b : Bool) (r q : Result (Book AnyDevice) ℕ) (line : ℕ) → q ≡ one_sized n r →
    (if b then q else Err line) ≡ one_sized n (if b then r else Err line)
unfolding one_sized
opens_by n true r q line same = same
opens_by n false r q line same = refl

open_sized : (n : ℕ) (b : Book AnyDevice) (os : List OpeningSaid) → open_all (sized n b) os ≡ one_sized n (open_all b os)
unfolding open_all one_sized
open_sized n b [] = refl
open_sized n b (o ∷ os) =
    opens_by n (can_open b o) (open_all (with_dcb b o) os) (open_all (sized n (with_dcb b o)) os) o.line (open_sized n (with_dcb b o) os)

beside_sized : (n : ℕ) (r : Result (Book AnyDevice) ℕ) (q : Result (List (Book AnyDevice)) ℕ) →
    beside (one_sized n r) (all_sized n q) ≡ all_sized n (beside r q)
unfolding one_sized all_sized
beside_sized n (Ok b) (Ok books) = refl
beside_sized n (Ok b) (Err line) = refl
beside_sized n (Err line) (Ok books) = refl
beside_sized n (Err line) (Err other) = refl

opened_sized : (n capacity : ℕ) (units : List UnitSaid) (devices : List AnyDevice) →
    opened n units devices ≡ all_sized n (opened capacity units devices)
unfolding opened all_sized
opened_sized n capacity [] devices = refl
opened_sized n capacity (unit ∷ others) [] = refl
opened_sized n capacity (unit ∷ others) (device ∷ devices) =
    ap (λ (r : Result (Book AnyDevice) ℕ). beside r (opened n others devices))
    (open_sized n (opening device unit.isc capacity) unit.openings)
    ∙ ap (beside (one_sized n (open_all (opening device unit.isc capacity) unit.openings))) (opened_sized n capacity others devices)
    ∙ beside_sized n (open_all (opening device unit.isc capacity) unit.openings) (opened capacity others devices)

extent_sized : (n : ℕ) (r : Result (List (Book AnyDevice)) ℕ) → at_extent (all_sized n r) ≡ all_sized n (at_extent r)
unfolding all_sized
extent_sized n (Ok books) = refl
extent_sized n (Err line) = refl

units_by : (n capacity : ℕ) (units : List UnitSaid) (r : Result (List AnyDevice) FaultAt) →
    (r >>= λ devices. at_extent (opened n units devices)) ≡ all_sized n (r >>= λ devices. at_extent (opened capacity units devices))
unfolding all_sized
units_by n capacity units (Ok devices) =
    ap at_extent (opened_sized n capacity units devices) ∙ extent_sized n (opened capacity units devices)
units_by n capacity units (Err fault) = refl

tried_by : (n : ℕ) (r : Result (List (Book AnyDevice)) FaultAt) (q : Result (Unit {0}) FaultAt) →
    (all_sized n r >>= λ books. q >>= λ done. Ok books) ≡ all_sized n (r >>= λ books. q >>= λ done. Ok books)
unfolding all_sized
tried_by n (Ok books) (Ok done) = refl
tried_by n (Ok books) (Err fault) = refl
tried_by n (Err fault) q = refl

books_sized : (given : List (Option AnyDevice)) (n capacity : ℕ) (s : Said) →
    books_with given n s ≡ all_sized n (books_with given capacity s)
unfolding books_with units_with
books_sized given n capacity s =
    ap (λ (r : Result (List (Book AnyDevice)) FaultAt). r >>= λ books. tried s.commands >>= λ done. Ok books)
    (units_by n capacity s.set_up.units (devices_with given s.set_up.units))
    ∙ tried_by n (units_with capacity given s.set_up.units) (tried s.commands)

-- THE BOOKS OF A SCRIPT, if they are made for n requests at a time
pub books_for : (given : List (Option AnyDevice)) (n capacity : ℕ) (s : Said) (first : List (Book AnyDevice)) →
    books_with given capacity s ≡ Ok first → books_with given n s ≡ Ok (map (sized n) first)
unfolding all_sized
books_for given n capacity s first made = books_sized given n capacity s ∙ ap (all_sized n) made

-- the room does not matter if requests are served one at a time
pub posts_sized : (n : ℕ) (first : List (Book AnyDevice)) (orders : List (List Piece)) →
    all_serial_posts (map (sized n) first) orders ≡ all_serial_posts first orders
posts_sized n [] orders = refl
posts_sized n (f ∷ first) [] = refl
posts_sized n (f ∷ first) (order ∷ orders) =
    ap (λ (l : List (List PostedState)). serial_posts f order ∷ l) (posts_sized n first orders)
