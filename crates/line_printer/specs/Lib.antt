-- The definitions of line_printer: paper, the commands of a printer, what it means as a device, and when it is
-- mounted.
pub mod Paper
pub mod Command
pub mod Printer
pub mod PrinterLaws
pub mod PrinterSize
pub mod Mount
pub mod Refusals
