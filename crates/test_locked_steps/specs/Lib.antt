-- What one line of a scenario says, and the sizes that its lines set.
pub mod EventVerbs
pub mod ScenarioLines
pub mod ScenarioSaid
pub mod Rooms
