use Rattle.std.specs.Prelude.{true}
use Rattle.excp_system.specs.Opening.{site_of}
use Rattle.test_system.proofs.jobs.run.Given as goal

-- the site of these rows, whose units begin with these books
abbrev pub ghosts-tasks_alone-S-Site : goal.ghosts-tasks_alone-S-Site
ghosts-tasks_alone-S-Site g a = record { rows = site_of a.rows.now; own_calls = true }

abbrev pub ghosts-tasks_alone-S-Opened : goal.ghosts-tasks_alone-S-Opened
ghosts-tasks_alone-S-Opened g a = record { opened = a.books.items }
