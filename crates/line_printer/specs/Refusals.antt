-- What is wrong with a printer that is not mounted.
use Rattle.std.specs.Prelude.{◌≡◌, ℕ, ◌<◌, ◌⊎◌}
use Rattle.line_printer.specs.declared.printer.refusal.PaperRefusal.{PaperRefusal}
use Rattle.line_printer.specs.declared.printer.refusal.PaperRefusal.TheVariants.{Lines, Pages}

-- this number is outside its range
abbrev pub PaperFails : ℕ → ℕ → PaperRefusal → Type 0
PaperFails lines pages Lines = (lines ≡ 0) ⊎ (100_000 < lines)
PaperFails lines pages Pages = (pages ≡ 0) ⊎ (10_000 < pages)
