-- Lemmas on mounting, on opening DCBs, and on requests.
pub mod Devices
pub mod Openings
pub mod Trying
