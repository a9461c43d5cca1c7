-- What is kept of the requests of a task.
pub mod Record
