-- What each attempt of a legal trace has: an opened DCB, its file mask, and a seek address that passed the check.
use Rattle.std.proofs.Common.{◌≡◌, ℕ, ◌+◌, Bool, true, false, if◌then◌else◌, Some, List, [], ◌∷◌, refl, ◌∙◌, subst, arith, eqb, inl, inr}
use Rattle.std.proofs.lemmas.Bool.{cases_Bool, or_right, eqb-true}
use Rattle.io_images.specs.declared.extent.Extent.{Extent}
use Rattle.io_images.specs.declared.seek.Seek.{Seek}
use Rattle.device_port.specs.Meaning.{Meaning}
use Rattle.ccw_programs.proofs.StepLaws.{device-stays}
use Rattle.request_piece.specs.declared.piece.Name.{Name}
use Rattle.request_piece.specs.declared.piece.Piece.{Piece}
use Rattle.unit_book.specs.declared.dcb.ProcessingMethod.{ProcessingMethod}
use Rattle.unit_book.specs.declared.entry.Entry.{Entry}
use Rattle.unit_book.specs.declared.entry.Entry.TheVariants.{Opened, Start, Ran}
use Rattle.unit_book.specs.Lists.{Each}
use Rattle.unit_book.specs.Trace.{same, active, request_named}
use Rattle.unit_book.specs.Dcbs.{is_opened, mask_of, extents_of}
use Rattle.unit_book.specs.Legal.{Legal, StartFits, First, Again, passes}
use Rattle.unit_book.specs.Media.{Attempt, attempts, lengthened, stand, beginning}
use Rattle.unit_book.proofs.Lists.{same-refl}
use Rattle.unit_book.proofs.Facts.{fits-freely}
use Rattle.unit_book.proofs.LegalFacts.{facts, first-request}
use Rattle.unit_book.proofs.Opens.{opened-few, started-opened}

each-weaker : (P Q : Attempt → Type 0) → ((a : Attempt) → P a → Q a) → (ts : List Attempt) → Each P ts → Each Q ts
each-weaker P Q w [] h = tt
each-weaker P Q w (a ∷ ts) h = (w a h.0, each-weaker P Q w ts h.1)

module _ {D : Type 0} (meaning : Meaning D) (mounted : D) where
  -- the DCB of a request was opened, the file mask is its, and the request passes the extent check
  abbrev pub Admits : List Entry → Piece → ℕ → Type 0
  Admits H r mask = (is_opened r.dcb H ≡ true) × (mask ≡ mask_of r.dcb H) × (passes meaning mounted r H ≡ true)

  abbrev pub Admitted : List Entry → Attempt → Type 0
  Admitted H a = Admits H a.request a.mask

  -- more commands
  lengthened-admitted : (H : List Entry) (n : Name) (j : ℕ) (ts : List Attempt) → Each (Admitted H) ts →
      Each (Admitted H) (lengthened n j ts)
  lengthened-admitted H n j [] h = tt
  lengthened-admitted H n j (a ∷ ts) h = by_name (same a.request.name n) (lengthened-admitted H n j ts h.1) where
    by_name : (b : Bool) → Each (Admitted H) (lengthened n j ts) → Each (Admitted H)
        (if b then record { request = a.request; mask = a.mask; commands = a.commands + j } ∷ ts else a ∷ lengthened n j ts)
    by_name true rest = (h.0, h.1)
    by_name false rest = (h.0, rest)

  -- a DCB that is opened has a new number, so that what was said of another one stays
  opened-admitted : (c : ℕ) (method : ProcessingMethod) (x : List Extent) (H : List Entry) → Legal meaning mounted (Opened c method x ∷ H) →
      (a : Attempt) → Admitted H a → Admitted (Opened c method x ∷ H) a
  unfolding Legal extents_of
  opened-admitted c method x H l a h =
      let few = opened-few meaning mounted a.request.dcb H l.1 h.0 in
      let next = (fits-freely meaning mounted (Opened c method x) H refl l.0).1.next in
      let apart : eqb c a.request.dcb ≡ false = elim (cases_Bool (eqb c a.request.dcb)) [
        | inl e ↦ absurd (omega (arith, few.1, next, eqb-true c a.request.dcb e))
        | inr e ↦ e
      ] in
      (or_right (eqb c a.request.dcb) (is_opened a.request.dcb H) h.0, rw apart h.1, rw apart h.2)

  -- the newest attempt is that of the active request
  pub record NewestAdmits (n : Name) (H : List Entry) : Type 0 where
    pub newest : Attempt
    pub rest : List Attempt
    pub is : attempts H ≡ newest ∷ rest
    pub request : newest.request ≡ request_named n H
    pub name : (request_named n H).name ≡ n
    pub admits : Admits H (request_named n H) newest.mask

  newest-by : (n : Name) (H : List Entry) → Legal meaning mounted H → Each (Admitted H) (attempts H) → active H ≡ Some n → NewestAdmits n H
  newest-by n H l each h =
      let w = (facts meaning mounted H l).4 n h in
      let k = (subst (λ ts. Each (Admitted H) ts) w.2 each).0 in
      record {
        newest = w.0;
        rest = w.1;
        is = w.2;
        request = w.3;
        name = w.4;
        admits = subst (λ (r : Piece). Admits H r w.0.mask) w.3 k;
      }

  -- a request that starts
  start-admits : (n : Name) (H : List Entry) → Legal meaning mounted (Start n ∷ H) → Each (Admitted H) (attempts H) →
      passes meaning mounted (request_named n H) H ≡ true
  unfolding Legal
  start-admits n H l each = by_start (fits-freely meaning mounted (Start n) H refl l.0).1 where
    by_start : StartFits meaning mounted n H → passes meaning mounted (request_named n H) H ≡ true
    by_start (First s) = rw (first-request H (facts meaning mounted H l.1) s.first s.name) s.passes
    by_start (Again s) = (newest-by n H l.1 each s.active).admits.2

  -- EACH ATTEMPT of a legal trace
  pub admitted : (H : List Entry) → Legal meaning mounted H → Each (Admitted H) (attempts H)
  unfolding Legal attempts extents_of request_named
  admitted [] l = tt
  admitted (Opened c method x ∷ H) l =
      each-weaker (Admitted H) (Admitted (Opened c method x ∷ H)) (opened-admitted c method x H l) (attempts H) (admitted H l.1)
  admitted (Start n ∷ H) l =
      let each = admitted H l.1 in
      let o : is_opened (request_named n H).dcb H ≡ true = started-opened meaning mounted n (Start n ∷ H) l (rw (same-refl n) refl) in
      ((o, refl, start-admits n H l each), each)
  admitted (Ran n j ∷ H) l = lengthened-admitted H n j (attempts H) (admitted H l.1)
  admitted (_ ∷ H) l = admitted H l.1

  pub newest-admits : (n : Name) (H : List Entry) → Legal meaning mounted H → active H ≡ Some n → NewestAdmits n H
  newest-admits n H l h = newest-by n H l (admitted H l) h

  -- what no command and no prefix changes is as it was mounted
  pub kept-stand : {X : Type 0} (f : D → X) → ((d : D) (command : ℕ) (bytes : List ℕ) → f (meaning.act d command bytes).device ≡ f d) →
      ((d : D) (seek : Seek) (mask : ℕ) → f (meaning.prefix d seek mask) ≡ f d) → (rest : List Attempt) →
      f (stand meaning mounted rest).device ≡ f mounted
  unfolding stand
  kept-stand f act prefix [] = refl
  kept-stand f act prefix (a ∷ rest) =
      device-stays meaning f act a.commands (beginning meaning mounted (stand meaning mounted rest) a)
      ∙ prefix (stand meaning mounted rest).device a.request.seek a.mask ∙ kept-stand f act prefix rest
