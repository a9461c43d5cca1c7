-- The definitions of unit_book: the trace of a unit and what it says, which traces are legal, what each call of its
-- book adds and answers, and the laws.
pub mod Trace
pub mod Extents
pub mod Dcbs
pub mod Media
pub mod Legal
pub mod Posts
pub mod Dooms
pub mod Selected
pub mod Book
pub mod Room
pub mod Answers
pub mod Refusals
pub mod Lists
pub mod Fields
pub mod Activity
pub mod Laws
pub mod Controls
pub mod Steps
pub mod World
pub mod WorldLaws
pub mod Settle
pub mod Renewal
