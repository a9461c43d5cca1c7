-- HOW A POSTED VALUE GETS INTO A ROW (profile).
use Rattle.std.specs.Prelude.{◌≡◌, ◌≤◌, ◌<◌, Some, List, [], length, drop, slice_get}
use Rattle.request_piece.specs.PostedState.{PostedState}
use Rattle.request_piece.specs.declared.piece.Name.{Name}
use Rattle.unit_book.specs.Book.{Book}
use Rattle.unit_book.specs.declared.answer.Delivery.{Delivery}
use Rattle.unit_book.specs.declared.answer.Delivery.TheVariants as delivery
use Rattle.unit_world.specs.PostLists.{PostLists, list_of, with_value}

-- the first of these values is of a task that has a row
abbrev pub IsForRows : List PostedState → PostLists → Type 0
IsForRows out rows = (value : PostedState) → slice_get out 0 ≡ Some value → value.name.task < length rows.lists

-- the first value that is out at a book goes into the row of its task
pub record SendsOne {D : Type 0} (book : Book D) (rows : PostLists) (name : Name) (book_after : Book D)
    (rows_after : PostLists) : Type 0 where
  pub value : PostedState
  pub first : slice_get book.out 0 ≡ Some value
  pub named : value.name ≡ name
  pub room : length (list_of rows.lists value.name.task) < rows.room
  pub book_is : book_after ≡ record book { out = drop 1 book.out }
  pub rows_are : rows_after ≡ record rows { lists = with_value rows.lists value.name.task value }

-- the first value that is out at a book stays there, since the row of its task is full
pub record SendsNone {D : Type 0} (book : Book D) (rows : PostLists) (name : Name) (book_after : Book D)
    (rows_after : PostLists) : Type 0 where
  pub value : PostedState
  pub first : slice_get book.out 0 ≡ Some value
  pub named : value.name ≡ name
  pub full : rows.room ≤ length (list_of rows.lists value.name.task)
  pub book_is : book_after ≡ book
  pub rows_are : rows_after ≡ rows

abbrev pub SendsBack : {D : Type 0} → Book D → PostLists → Delivery → Book D → PostLists → Type 0
SendsBack book rows delivery.Quiet book_after rows_after = (book.out ≡ []) × (book_after ≡ book) × (rows_after ≡ rows)
SendsBack book rows (delivery.Delivered name) book_after rows_after = SendsOne book rows name book_after rows_after
SendsBack book rows (delivery.Full name) book_after rows_after = SendsNone book rows name book_after rows_after
