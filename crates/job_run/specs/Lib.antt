-- How large rows and books are, what a task sends, asks and collects, and which faults come when.
pub mod Ending
pub mod Faults
pub mod Rooms
pub mod Sending
pub mod Filling
pub mod Requests
pub mod Controls
pub mod Ran
pub mod Beginning
pub mod Printing
pub mod Orders
pub mod Serial
pub mod OneTask
pub mod Serving
pub mod Laws
