use Rattle.std.specs.Prelude.{true}
use Rattle.excp_system.specs.Opening.{site_of}
use Rattle.test_system.proofs.units.side_by_side.units_run_side_by_side.Given as goal

-- the site of these rows, whose units begin with these books
abbrev pub ghosts-ended-S-Site : goal.ghosts-ended-S-Site
ghosts-ended-S-Site g a = record { rows = site_of a.rows.now; own_calls = true }

abbrev pub ghosts-ended-S-Opened : goal.ghosts-ended-S-Opened
ghosts-ended-S-Opened g a = record { opened = a.books.items }
