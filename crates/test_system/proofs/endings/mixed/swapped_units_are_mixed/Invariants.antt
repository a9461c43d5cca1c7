use Rattle.std.specs.Prelude.{true}
use Rattle.excp_system.specs.Opening.{site_of}
use Rattle.test_system.proofs.endings.mixed.swapped_units_are_mixed.Given as goal

-- the site of these rows, whose units begin with these books
abbrev pub ghosts-left_of-S-Site : goal.ghosts-left_of-S-Site
ghosts-left_of-S-Site g a = record { rows = site_of a.rows.now; own_calls = true }

abbrev pub ghosts-left_of-S-Opened : goal.ghosts-left_of-S-Opened
ghosts-left_of-S-Opened g a = record { opened = a.books.items }
