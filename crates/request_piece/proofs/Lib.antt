-- The lemmas of request_piece.
pub mod PlaceLaws
