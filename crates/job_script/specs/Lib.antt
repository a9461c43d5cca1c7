-- The grammar of a script, how far a script is read, what its commands name, and the statuses of faults.
pub mod Adding
pub mod Commands
pub mod Forms
pub mod Grammar
pub mod LineViews
pub mod Lines
pub mod Outcomes
pub mod Reading
pub mod Runs
pub mod Said
pub mod Statuses
pub mod Steps
pub mod Tasks
pub mod Verbs
pub mod Views
