use Rattle.std.proofs.Common.{◌≡◌, ◌≤◌, ◌++◌, map}
use Rattle.std.specs.Prelude.{vec_len, vec_capacity}
use Rattle.std.specs.Vec.Iter.{into_iter_items}
use Rattle.std.specs.List.{All}
use Rattle.unit_book.specs.Trace.{arrivals}
use Rattle.excp_system.specs.Begun.{Began}
use Rattle.excp_system.specs.States.{AreOf, Locked}
use Rattle.post_ledger.specs.Parting.{IsBack, IsLogOf, BookKeeps, Paired, book_of, intake_end}
use Rattle.post_ledger.proofs.parting.split_units.Given as goal

abbrev pub invariant-loop-unit : goal.invariant-loop-unit
invariant-loop-unit g l = record {
  all : l.fn.units.items ≡ l.yielded ++ into_iter_items l.unit-iterator;
  books : l.books.items ≡ map book_of l.yielded;
  intakes : l.intakes.items ≡ map (intake_end g.S.Site.rows) l.yielded;
  backs : Paired (IsBack g.D.Device.meaning g.S.Site.rows) l.yielded l.backs.items;
  logs : Paired (IsLogOf g.S.Site.rows g.S.Site.own_calls g.S.Opened.opened) l.yielded l.logs.items;
  sound : All (λ (v : Locked _). BookKeeps g.D.Device.meaning v.book) l.yielded;
  began : All (λ (v : Locked _). Began g.S.Opened.opened v.unit v.book) l.yielded;
  of_unit : All (λ (v : Locked _). AreOf g.S.Site.rows v.unit (arrivals v.book.trace)) l.yielded;
  room : (vec_len l.fn.units ≤ vec_capacity l.books) × (vec_len l.fn.units ≤ vec_capacity l.intakes)
      × (vec_len l.fn.units ≤ vec_capacity l.backs) × (vec_len l.fn.units ≤ vec_capacity l.logs);
}
