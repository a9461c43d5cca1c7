-- The books of a script are those of a system that begins.
use Rattle.std.proofs.Common.{◌≡◌, ℕ, List, length}
use Rattle.std.specs.List.{All}
use Rattle.unit_book.specs.Book.{Book}
use Rattle.job_mount.specs.Books.{IsFresh}
use Rattle.excp_system.specs.Opening.{AreBooks}
use Rattle.post_ledger.proofs.Pairs.{all_get}

pub fresh_books : {D : Type 0} (units : ℕ) (books : List (Book D)) → length books ≡ units → All IsFresh books → AreBooks units books
fresh_books units books count all = record {
  count_is = count;
  opened = λ unit b at. (all_get IsFresh books unit b all at).opened;
}
