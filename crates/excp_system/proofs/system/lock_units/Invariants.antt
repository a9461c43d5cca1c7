use Rattle.std.proofs.Common.{◌≡◌, ◌≤◌, length, drop}
use Rattle.std.specs.Iterator.Adapters.{zip_first, zip_second}
use Rattle.std.specs.Prelude.{vec_len, vec_capacity}
use Rattle.std.specs.Vec.Iter.{into_iter_items}
use Rattle.excp_system.proofs.system.lock_units.Given as goal

abbrev pub invariant-loop-book : goal.invariant-loop-book
invariant-loop-book g l = record {
  here : vec_len l.locks ≡ length l.yielded;
  few : length l.yielded ≤ g.S.Site.rows.units;
  room : g.S.Site.rows.units ≤ vec_capacity l.locks;
  books : into_iter_items (zip_first l.book-iterator) ≡ drop (length l.yielded) l.fn.books.items;
  intakes : into_iter_items (zip_first (zip_first (zip_first (zip_second l.book-iterator)))) ≡ drop (length l.yielded) l.fn.ends.intake.items;
  backs : into_iter_items (zip_second (zip_first (zip_first (zip_second l.book-iterator)))) ≡ drop (length l.yielded) l.fn.ends.back.items;
  notices : into_iter_items (zip_second (zip_first (zip_second l.book-iterator))) ≡ drop (length l.yielded) l.fn.ends.notice.items;
  logs : into_iter_items (zip_second (zip_second l.book-iterator)) ≡ drop (length l.yielded) l.fn.ends.logs.items;
}
