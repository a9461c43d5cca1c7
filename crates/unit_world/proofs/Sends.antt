-- A posted value that is out at a unit goes into the row of its task.
use Rattle.std.proofs.Common.{◌≡◌, ◌<◌, ◌≤◌, Some, [], ◌++◌, length, set, drop, sym, ap, ◌∙◌, subst, arith}
use Rattle.std.specs.Prelude.{slice_get}
use Rattle.std.proofs.lemmas.List.{length-map}
use Rattle.device_port.specs.Meaning.{Meaning}
use Rattle.request_piece.specs.PostedState.{PostedState}
use Rattle.request_piece.specs.declared.piece.Name.{Name}
use Rattle.unit_book.specs.declared.answer.Delivery.{Delivery}
use Rattle.unit_book.specs.declared.answer.Delivery.TheVariants as delivery
use Rattle.unit_book.specs.Book.{Book, given}
use Rattle.unit_book.specs.Legal.{Legal}
use Rattle.unit_book.specs.Posts.{posted}
use Rattle.unit_world.specs.Parts.{unit_part}
use Rattle.unit_world.specs.PostLists.{PostLists, list_of, with_value}
use Rattle.unit_world.specs.Sending.{IsForRows, SendsBack, SendsOne}
use Rattle.unit_world.specs.Sites.{SiteState, DeliversAs, DeliversPost, IsFirstOut, IsSite, from_unit}
use Rattle.unit_world.proofs.Deliveries.{deliver-keeps}
use Rattle.unit_world.proofs.Sites.{UnitPlace, on-old, part-at, put-side, side_with, site-before, stays, view_of, world-before}
use Rattle.unit_world.proofs.Sites.{world_before}
use Rattle.unit_world.proofs.States.{first-of-task, first-of-unit}

-- A DELIVERY at a unit: what the book and the rows became, and the answer
pub record SendCall {D : Type 0} (meaning : Meaning D) : Type 0 where
  pub at : UnitPlace meaning
  pub legal : Legal meaning at.side.book.mounted at.side.book.trace
  pub all : given meaning at.side.book ++ at.side.book.out ≡ posted meaning at.side.book.mounted at.side.book.trace
  pub book : Book D
  pub rows : PostLists
  pub answer : Delivery
  pub sends : SendsBack at.side.book at.rows answer book rows

module _ {D : Type 0} (meaning : Meaning D) where
  -- the first value is of a task that has a row
  pub for-rows : (k : UnitPlace meaning) → Legal meaning k.side.book.mounted k.side.book.trace →
      given meaning k.side.book ++ k.side.book.out ≡ posted meaning k.side.book.mounted k.side.book.trace → IsForRows k.side.book.out k.rows
  for-rows k legal all value first =
      let t = first-of-task meaning (world_before meaning k) value (world-before meaning k) legal all first in
      omega (arith, t, length-map k.old.rows (from_unit k.unit), ap (λ (s : SiteState D). length s.rows) k.view_is)

  module _ (c : SendCall meaning) where
    abbrev pub sent_site : SiteState D
    sent_site = view_of (set c.at.items c.at.place (side_with c.at.side c.book)) c.rows

    -- if nothing changes
    unchanged : c.book ≡ c.at.side.book → c.rows ≡ c.at.rows → sent_site ≡ c.at.old
    unchanged b r = ap (λ (l : PostLists). view_of (set c.at.items c.at.place (side_with c.at.side c.book)) l) r
        ∙ stays meaning c.at (side_with c.at.side c.book) (ap (side_with c.at.side) b)

    -- the first value is of this unit
    abbrev first-out : (name : Name) (value : PostedState) → slice_get c.at.side.book.out 0 ≡ Some value → value.name ≡ name →
        IsFirstOut c.at.old c.at.unit name
    first-out name value first named = record {
      part = unit_part c.at.side;
      at = part-at meaning c.at;
      value = value;
      first = first;
      named = named;
      of_unit = first-of-unit meaning (world_before meaning c.at) value (world-before meaning c.at) c.legal c.all first;
      of_task = subst (λ (n : Name). n.task < length c.at.old.rows) named
          (omega (arith, for-rows c.at c.legal c.all value first, ap (λ (s : SiteState D). length s.rows) c.at.view_is));
    }

    delivered : (name : Name) → SendsOne c.at.side.book c.at.rows name c.book c.rows → DeliversPost c.at.old c.at.unit name sent_site
    delivered name h = record {
      out = first-out name h.value h.first h.named;
      room = subst (λ (n : Name). length (list_of c.at.old.rows n.task) < c.at.old.post_room) h.named
          (subst (λ (s : SiteState D). length (list_of s.rows h.value.name.task) < s.post_room) c.at.view_is h.room);
      is = (λ j. view_of (set c.at.items c.at.place (side_with c.at.side (h.book_is j))) (h.rows_are j))
          ∙ ap (λ (s : SiteState D). record s { rows = with_value c.at.rows.lists h.value.name.task h.value })
          (put-side meaning c.at (side_with c.at.side (record c.at.side.book { out = drop 1 c.at.side.book.out })))
          ∙ ap (λ rows. record c.at.old {
            units = set c.at.old.units c.at.unit
                (record (unit_part c.at.side) { book = record c.at.side.book { out = drop 1 c.at.side.book.out } });
            rows = rows;
          })
          (ap (λ (s : SiteState D). with_value s.rows h.value.name.task h.value) c.at.view_is
          ∙ ap (λ (n : Name). with_value c.at.old.rows n.task h.value) h.named);
    }

    pub sends-answer : DeliversAs c.at.old c.at.unit c.answer sent_site
    sends-answer = by_answer c.answer c.sends where
      by_answer : (answer : Delivery) → SendsBack c.at.side.book c.at.rows answer c.book c.rows →
          DeliversAs c.at.old c.at.unit answer sent_site
      by_answer delivery.Quiet h = (on-old meaning c.at (λ p. p.book.out ≡ []) h.0, unchanged h.1 h.2)
      by_answer (delivery.Full name) h = record {
        out = first-out name h.value h.first h.named;
        full = subst (λ (n : Name). c.at.old.post_room ≤ length (list_of c.at.old.rows n.task)) h.named
            (subst (λ (s : SiteState D). s.post_room ≤ length (list_of s.rows h.value.name.task)) c.at.view_is h.full);
        is = unchanged h.book_is h.rows_are;
      }
      by_answer (delivery.Delivered name) h = delivered name h

    pub sends-keeps : IsSite meaning sent_site
    sends-keeps = by_answer c.answer sends-answer where
      by_answer : (answer : Delivery) → DeliversAs c.at.old c.at.unit answer sent_site → IsSite meaning sent_site
      by_answer delivery.Quiet h = subst (IsSite meaning) (sym h.1) (site-before meaning c.at)
      by_answer (delivery.Full name) h = subst (IsSite meaning) (sym h.is) (site-before meaning c.at)
      by_answer (delivery.Delivered name) h = subst (IsSite meaning) (sym h.is)
          (deliver-keeps meaning c.at.old c.at.unit name h.out h.room (site-before meaning c.at))
