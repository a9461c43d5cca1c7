-- The room of a trace, as entries are added.
use Rattle.unit_book.proofs.Names.{◌≡◌, ◌+◌, ◌∷◌, [], List, length, arith, no_status, Purged, Entry, Piece, Post, all_posted}

-- each post is one entry
pub length-posted : (rs : List Piece) (H : List Entry) → length (all_posted rs H) ≡ length rs + length H
length-posted [] H = omega arith
length-posted (r ∷ rs) H = omega (arith, length-posted rs (Post r.name no_status 0 Purged ∷ H))
