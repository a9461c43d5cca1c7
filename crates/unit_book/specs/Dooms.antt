-- THE DOOMS: the posts of what is doomed, in order, as purged, with CSW and sense of zeros (profile).
use Rattle.std.specs.Prelude.{List, [], ◌∷◌}
use Rattle.io_images.specs.declared.code.Code.TheVariants.{Purged}
use Rattle.io_images.specs.Images.{no_status}
use Rattle.request_piece.specs.PostedState.{PostedState}
use Rattle.request_piece.specs.declared.piece.Piece.{Piece}
use Rattle.unit_book.specs.declared.entry.Entry.{Entry}
use Rattle.unit_book.specs.declared.entry.Entry.TheVariants.{Post}
use Rattle.unit_book.specs.Posts.{posted_value}
use Rattle.unit_book.specs.Dcbs.{doomed}

-- the value of a request that is purged without a Start
abbrev pub purged : Piece → PostedState
purged r = posted_value r no_status 0 Purged r.area

-- the trace after these requests were posted, one after another
abbrev pub all_posted : List Piece → List Entry → List Entry
all_posted [] H = H
all_posted (r ∷ rs) H = all_posted rs (Post r.name no_status 0 Purged ∷ H)

-- the trace after all that are doomed were posted
abbrev pub after_dooms : List Entry → List Entry
after_dooms H = all_posted (doomed H) H
