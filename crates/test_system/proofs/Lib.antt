-- Faults at the last numbers of commands.
pub mod Ordinals
-- Worked channel programs and runs.
pub mod Programs
pub mod Runs
