-- The lemmas of line_printer.
mod Worked
