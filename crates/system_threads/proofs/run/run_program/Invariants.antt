use Rattle.std.specs.Prelude.{false}
use Rattle.excp_system.specs.Opening.{site_of}
use Rattle.system_threads.proofs.run.run_program.Given as goal

-- the site of these rows, whose units begin with these books and which makes no calls of a unit's own
abbrev pub ghosts-run_at-S-Site : goal.ghosts-run_at-S-Site
ghosts-run_at-S-Site g a = record { rows = site_of a.rows.now; own_calls = false }

abbrev pub ghosts-run_at-S-Opened : goal.ghosts-run_at-S-Opened
ghosts-run_at-S-Opened g a = record { opened = a.books.items }
