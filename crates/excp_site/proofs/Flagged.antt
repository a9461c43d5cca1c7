-- DCBs in error.
use Rattle.std.proofs.Common.{◌≡◌, ◌∙◌, ◌==◌, not, ℕ, Bool, true, false, if◌then◌else◌, List, ◌∷◌, ap, inl, inr, refl, subst, sym}
use Rattle.std.proofs.lemmas.Bool.{and_parts, cases_Bool, eqb-true}
use Rattle.io_images.specs.declared.extent.Extent.{Extent}
use Rattle.any_device.specs.declared.device.AnyDevice.{AnyDevice}
use Rattle.unit_book.specs.Book.{Book}
use Rattle.unit_book.specs.Dcbs.{dcb_state, flag, is_closed, is_of, is_open, is_opened}
use Rattle.unit_book.specs.Trace.{active, opens}
use Rattle.unit_book.specs.declared.dcb.DcbState.TheVariants.{Unknown, Open, Closing, Closed}
use Rattle.unit_book.specs.declared.dcb.ProcessingMethod.{ProcessingMethod}
use Rattle.unit_book.specs.declared.entry.Entry.{Entry}
use Rattle.unit_book.specs.declared.entry.Entry.TheVariants.{Opened}
use Rattle.excp_site.specs.Checkpoints.{IsFlagged}

-- a DCB in the state Open is open
state-open : (dcb : ℕ) (H : List Entry) → dcb_state dcb H ≡ Open → is_open dcb H ≡ true
state-open dcb H h = elim (cases_Bool (is_opened dcb H)) [
  | inl y ↦ elim (cases_Bool (is_closed dcb H)) [
    | inl z ↦ absurd (not-open (is_of dcb H (active H)) (let g = rw y at h in rw z at g))
    | inr n ↦ rw y (rw n refl)
  ]
  | inr n ↦ let g : Unknown ≡ Open = rw n at h in absurd cc
] where
  not-open : (b : Bool) → (if b then Closing else Closed) ≡ Open → ⊥
  not-open true e = absurd cc
  not-open false e = absurd cc

-- this DCB is not open, or not in error
abbrev pub Unflagged : Book AnyDevice → ℕ → Type 0
Unflagged b dcb = dcb_state dcb b.trace ≡ Open → flag dcb b.trace ≡ true → ⊥

-- nor is any that these entries open
abbrev pub AllUnflagged : Book AnyDevice → List Entry → Type 0
AllUnflagged b H = (dcb : ℕ) → is_opened dcb H ≡ true → Unflagged b dcb

pub one-more : (b : Book AnyDevice) (e : Entry) (H : List Entry) → ((dcb : ℕ) → opens dcb e ≡ true → Unflagged b dcb) → AllUnflagged b H
    → AllUnflagged b (e ∷ H)
one-more b e H one others dcb is = elim (cases_Bool (opens dcb e)) [
  | inl y ↦ one dcb y
  | inr n ↦ let g : is_opened dcb H ≡ true = rw n at is in others dcb g
]

pub none-flagged : (b : Book AnyDevice) → AllUnflagged b b.trace → IsFlagged b → ⊥
none-flagged b all is =
    all is.dcb (and_parts (is_opened is.dcb b.trace) (not (is_closed is.dcb b.trace)) (state-open is.dcb b.trace is.open_is)).0 is.open_is is.flagged

-- a DCB that an entry opens
pub opened-is : (b : Book AnyDevice) (e : Entry) (n : ℕ) (method : ProcessingMethod) (extents : List Extent) → e ≡ Opened n method extents
    → Unflagged b n → (dcb : ℕ) → opens dcb e ≡ true → Unflagged b dcb
opened-is b e n method extents is not dcb opens-it =
    let same : (n == dcb) ≡ true = sym (ap (opens dcb) is) ∙ opens-it in
    subst (λ (d : ℕ). Unflagged b d) (eqb-true n dcb same) not

-- an entry that opens none
pub opens-none : (b : Book AnyDevice) (e : Entry)
    → ((n : ℕ) (method : ProcessingMethod) (extents : List Extent) → e ≡ Opened n method extents → ⊥)
    → (dcb : ℕ) → opens dcb e ≡ true → Unflagged b dcb
opens-none b (Opened n method extents) not dcb opens-it = absurd (not n method extents refl)
opens-none b (_) not dcb opens-it = absurd cc
