-- A unit begins again: its book is one that opened and closed DCBs alone.
use Rattle.std.proofs.Common.{◌≡◌, ◌∙◌, ◌∷◌, [], ℕ, List, ap, length, map, not, refl, subst, sym, true}
use Rattle.std.specs.List.{filter}
use Rattle.std.proofs.lemmas.Bool.{and_parts}
use Rattle.device_port.specs.Meaning.{Meaning}
use Rattle.unit_book.specs.Book.{Book, opening}
use Rattle.unit_book.specs.Controls.{ClosesBook, ClosesBy, active_of, closing}
use Rattle.request_piece.specs.declared.scope.Scope.TheVariants.{Dcb}
use Rattle.unit_book.specs.Dcbs.{is_closed, is_doomed, is_open, is_opened}
use Rattle.unit_book.specs.Dooms.{after_dooms}
use Rattle.unit_book.specs.Legal.{Legal}
use Rattle.unit_book.specs.Posts.{posted, posted_since}
use Rattle.unit_book.specs.Renewal.{Renews, openings_and_closes}
use Rattle.unit_book.specs.declared.entry.Entry.{Entry}
use Rattle.unit_book.specs.declared.entry.Entry.TheVariants.{Opened, Close}
use Rattle.unit_book.proofs.Dooms.{dooms-none, since-same}
use Rattle.unit_book.proofs.Facts.{fits-freely}
use Rattle.unit_book.proofs.Renewals.{none-waits}
use Rattle.unit_world.specs.Parts.{UnitPart, opening_part}
use Rattle.unit_world.specs.Sites.{SiteState, from_unit, is_collected, world_at}
use Rattle.unit_world.specs.States.{IsWorldState}
use Rattle.unit_world.proofs.Deliveries.{MayBegin, closed-begins, none-waits as none-back, opened-also, opened-begins}
use Rattle.unit_world.proofs.Sites.{from-row}

-- a close dooms nothing, if nothing waits
closed-alone : (d : ℕ) (H : List Entry) → after_dooms (Close d ∷ openings_and_closes H) ≡ Close d ∷ openings_and_closes H
closed-alone d H =
    let G = Close d ∷ openings_and_closes H in dooms-none G (ap (filter (is_doomed G)) (none-waits (Close d ∷ H)))

module _ {D : Type 0} (meaning : Meaning D) where
  since-closed : (device : D) (d : ℕ) (H : List Entry) → posted_since meaning device H (Close d ∷ H) ≡ []
  unfolding posted
  since-closed device d H = since-same meaning device H

  module _ (device : D) (isc capacity spare : ℕ) where
    -- the book of a device that was just mounted, at which DCBs were opened and closed
    abbrev book : List Entry → Book D
    book H = record (opening device isc capacity) { trace = openings_and_closes H; spare = spare }

    closes : (d : ℕ) (H : List Entry) → is_open d (openings_and_closes H) ≡ true →
        ClosesBook meaning (book H) d (closing (active_of (Dcb d) (Close d ∷ openings_and_closes H))) (book (Close d ∷ H))
    closes d H is_open_now =
        let G = openings_and_closes H in
        record {
          opened = (and_parts (is_opened d G) (not (is_closed d G)) is_open_now).0;
          closes = subst (λ o. ClosesBy meaning o (book H) d (book (Close d ∷ H))) (sym is_open_now)
              (rw (closed-alone d H, since-closed device d G) refl);
          answer_is = refl;
        }

    begins-by : (H : List Entry) → Legal meaning device (openings_and_closes H) → MayBegin meaning (book H)
    unfolding Legal posted
    begins-by [] l = opened-begins meaning (book []) l refl refl
    begins-by (Opened d method x ∷ H) l =
        opened-also meaning (book H) (book (Opened d method x ∷ H)) d method x
        (record { fits = (fits-freely meaning device (Opened d method x) (openings_and_closes H) refl l.0).1; adds = refl })
        (begins-by H l.1)
    begins-by (Close d ∷ H) l =
        closed-begins meaning (book H) (book (Close d ∷ H)) d (closing (active_of (Dcb d) (Close d ∷ openings_and_closes H)))
        (closes d H (fits-freely meaning device (Close d) (openings_and_closes H) refl l.0).1) (begins-by H l.1)
    begins-by (_ ∷ H) l = begins-by H l

  renewed-begins : (old new : Book D) → Renews meaning old new → Legal meaning new.mounted new.trace → MayBegin meaning new
  renewed-begins old new is legal =
      subst (MayBegin meaning) (sym is)
      (begins-by _ old.isc old.capacity new.spare old.trace (subst (λ (b : Book D). Legal meaning b.mounted b.trace) is legal))

  -- A UNIT BEGINS AGAIN
  pub renewed-unit : (old : SiteState D) (unit : ℕ) (before : UnitPart D) (book : Book D) (intake : ℕ) →
      IsWorldState meaning (world_at old unit before) → is_collected old unit ≡ true → Renews meaning before.book book →
      Legal meaning book.mounted book.trace → IsWorldState meaning (world_at old unit (opening_part book (length before.issued) intake))
  renewed-unit old unit before book intake world collected renews legal =
      subst (λ n. IsWorldState meaning (world_at old unit (opening_part book n intake))) world.tasks
      (renewed-begins before.book book renews legal unit old.post_room intake (map (from_unit unit) old.rows)
      (λ task. from-row unit task old.rows ∙ none-back unit task old.rows collected))
