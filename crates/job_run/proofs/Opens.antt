-- The books of a script have the DCBs of its units open, numbered from 1.
use Rattle.std.proofs.Common.{◌≡◌, ◌≢◌, ◌≤◌, ◌+◌, ◌==◌, ℕ, zero, suc, Bool, true, false, ◌||◌, if◌then◌else◌, Option, Some, Result, Ok, Err}
use Rattle.std.proofs.Common.{List, [], ◌∷◌, length, refl, sym, subst, ap, ◌∙◌, arith, inl, inr}
use Rattle.std.specs.Prelude.{slice_get}
use Rattle.std.proofs.lemmas.Bool.{eq-eqb}
use Rattle.std.proofs.lemmas.Bool.Decides.{eqb_tells}
use Rattle.any_device.specs.declared.device.AnyDevice.{AnyDevice}
use Rattle.unit_book.specs.Book.{Book, opening}
use Rattle.unit_book.specs.Dcbs.{is_opened, opened_count}
use Rattle.unit_book.specs.declared.entry.Entry.{Entry}
use Rattle.job_script.specs.Grammar.{FaultAt}
use Rattle.job_script.specs.Said.{OpeningSaid, Said, UnitSaid}
use Rattle.job_mount.specs.Mounting.{◌>>=◌, at_extent, books_with, devices_with, opened, tried, units_with}
use Rattle.job_mount.specs.Openings.{beside, can_open, open_all, with_dcb}

-- the DCBs from 1 to this number are open, and there are no more
pub record HasDcbs (count : ℕ) (H : List Entry) : Type 0 where
  pub are_open : (d : ℕ) → 1 ≤ d → d ≤ count → is_opened d H ≡ true
  pub no_more : opened_count H ≡ count

or_true : (b : Bool) → (b || true) ≡ true
or_true true = refl
or_true false = refl

one_dcb_more : (b : Book AnyDevice) (o : OpeningSaid) (count : ℕ) → HasDcbs count b.trace → HasDcbs (count + 1) (with_dcb b o).trace
one_dcb_more b o count has = record {
  are_open = λ d from to. elim (eqb_tells d (count + 1)) [
    | inl own ↦ ap (λ (x : Bool). x || is_opened d b.trace)
        (eq-eqb (opened_count b.trace + 1) d (omega (arith, own.1, has.no_more)))
    | inr other ↦
        let few : d ≤ count = below d to other.1 in
        ap (λ (x : Bool). (opened_count b.trace + 1 == d) || x) (has.are_open d from few) ∙ or_true (opened_count b.trace + 1 == d)
  ];
  no_more =
      let grew : opened_count (with_dcb b o).trace ≡ suc (opened_count b.trace) = refl in
      omega (arith, grew, has.no_more);
} where
  below : (d : ℕ) → d ≤ count + 1 → d ≢ count + 1 → d ≤ count
  below d to other = omega (arith, to, other)

if_opens : {A : Type 0} (b : Bool) (r : Result A ℕ) (line : ℕ) (x : A) → (if b then r else Err line) ≡ Ok x → r ≡ Ok x
if_opens true r line x is = is
if_opens false r line x is = absurd cc

all_open : (b : Book AnyDevice) (os : List OpeningSaid) (f : Book AnyDevice) (count : ℕ) → HasDcbs count b.trace →
    open_all b os ≡ Ok f → HasDcbs (count + length os) f.trace
unfolding open_all
all_open b [] f count has is =
    let same : b ≡ f = cc is in
    let none : count + 0 ≡ count = omega arith in
    subst2 none same has
  where
    subst2 : count + 0 ≡ count → b ≡ f → HasDcbs count b.trace → HasDcbs (count + 0) f.trace
    subst2 none same x = subst (λ (n : ℕ). HasDcbs n f.trace) (sym none) (subst (λ (c : Book AnyDevice). HasDcbs count c.trace) same x)
all_open b (o ∷ os) f count has is =
    let next : count + 1 + length os ≡ count + length (o ∷ os) = omega arith in
    subst (λ (n : ℕ). HasDcbs n f.trace) next
    (all_open (with_dcb b o) os f (count + 1) (one_dcb_more b o count has)
    (if_opens (can_open b o) (open_all (with_dcb b o) os) o.line f is))

-- the unit with this number is declared, and its book has its DCBs open
pub record OpensDcbs (units : List UnitSaid) (unit : ℕ) (f : Book AnyDevice) : Type 0 where
  pub declared : UnitSaid
  pub is : slice_get units unit ≡ Some declared
  pub has : HasDcbs (length declared.openings) f.trace

beside_parts : (r : Result (Book AnyDevice) ℕ) (q : Result (List (Book AnyDevice)) ℕ) (books : List (Book AnyDevice)) →
    beside r q ≡ Ok books → (b : Book AnyDevice) × (bs : List (Book AnyDevice)) × (r ≡ Ok b) × (q ≡ Ok bs) × (books ≡ b ∷ bs)
beside_parts (Ok b) (Ok bs) books is = (b, bs, refl, refl, cc is)
beside_parts (Ok b) (Err line) books is = absurd cc
beside_parts (Err line) (Ok bs) books is = absurd cc
beside_parts (Err line) (Err other) books is = absurd cc

fresh_dcbs : (device : AnyDevice) (isc capacity : ℕ) → HasDcbs 0 (opening device isc capacity).trace
fresh_dcbs device isc capacity = record { are_open = λ d from to. absurd (omega (arith, from, to)); no_more = refl }

units_open : (capacity : ℕ) (units : List UnitSaid) (devices : List AnyDevice) (books : List (Book AnyDevice)) →
    opened capacity units devices ≡ Ok books → (unit : ℕ) (f : Book AnyDevice) → slice_get books unit ≡ Some f → OpensDcbs units unit f
unfolding opened
units_open capacity [] devices books is unit f at =
    let none : [] ≡ books = cc is in
    let empty : slice_get [] unit ≡ Some f = subst (λ (l : List (Book AnyDevice)). slice_get l unit ≡ Some f) (sym none) at in
    absurd (cc empty)
units_open capacity (u ∷ units) [] books is unit f at =
    let none : [] ≡ books = cc is in
    let empty : slice_get [] unit ≡ Some f = subst (λ (l : List (Book AnyDevice)). slice_get l unit ≡ Some f) (sym none) at in
    absurd (cc empty)
units_open capacity (u ∷ units) (device ∷ devices) books is unit f at =
    let p = beside_parts (open_all (opening device u.isc capacity) u.openings) (opened capacity units devices) books is in
    let there : slice_get (p.0 ∷ p.1) unit ≡ Some f = subst (λ (l : List (Book AnyDevice)). slice_get l unit ≡ Some f) p.4 at in
    by_number p.0 p.1 unit there p.2 (λ n at_n. units_open capacity units devices p.1 p.3 n f at_n)
  where
    by_number : (b : Book AnyDevice) (bs : List (Book AnyDevice)) (n : ℕ) → slice_get (b ∷ bs) n ≡ Some f →
        open_all (opening device u.isc capacity) u.openings ≡ Ok b →
        ((k : ℕ) → slice_get bs k ≡ Some f → OpensDcbs units k f) → OpensDcbs (u ∷ units) n f
    by_number b bs zero there first rest =
        let same : b ≡ f = cc there in
        let count : 0 + length u.openings ≡ length u.openings = omega arith in
        record {
          declared = u;
          is = refl;
          has = subst (λ (n : ℕ). HasDcbs n f.trace) count
              (subst (λ (x : Book AnyDevice). HasDcbs (0 + length u.openings) x.trace) same
              (all_open (opening device u.isc capacity) u.openings b 0 (fresh_dcbs device u.isc capacity) first));
        }
    by_number b bs (suc n) there first rest =
        let o = rest n there in
        record { declared = o.declared; is = o.is; has = o.has }

bound : {A B : Type 0} (r : Result A FaultAt) (f : A → Result B FaultAt) (y : B) → (r >>= f) ≡ Ok y → (x : A) × (r ≡ Ok x) × (f x ≡ Ok y)
bound (Ok x) f y is = (x, refl, is)
bound (Err e) f y is = absurd cc

extent_ok : {A : Type 0} (r : Result A ℕ) (x : A) → at_extent r ≡ Ok x → r ≡ Ok x
extent_ok (Ok y) x is = cc is
extent_ok (Err line) x is = absurd cc

-- THE BOOKS OF A SCRIPT have all DCBs of its units open
pub books_open : (given : List (Option AnyDevice)) (capacity : ℕ) (s : Said) (books : List (Book AnyDevice)) →
    books_with given capacity s ≡ Ok books → (unit : ℕ) (f : Book AnyDevice) → slice_get books unit ≡ Some f →
    OpensDcbs s.set_up.units unit f
unfolding books_with units_with
books_open given capacity s books mounted unit f at =
    let u = bound (units_with capacity given s.set_up.units) (λ bs. tried s.commands >>= λ done. Ok bs) books mounted in
    let t = bound (tried s.commands) (λ done. Ok u.0) books u.2 in
    let same : u.0 ≡ books = cc t.2 in
    let d = bound (devices_with given s.set_up.units) (λ devices. at_extent (opened capacity s.set_up.units devices)) u.0 u.1 in
    units_open capacity s.set_up.units d.0 books (extent_ok (opened capacity s.set_up.units d.0) u.0 d.2 ∙ ap Ok same) unit f at
