use Rattle.std.specs.Prelude.{true}
use Rattle.excp_system.specs.Opening.{site_of}
use Rattle.test_locked_steps.proofs.scenario.with_rows.Given as goal

-- the site of these rows, whose units begin with these books
abbrev pub ghosts-on_site-S-Site : goal.ghosts-on_site-S-Site
ghosts-on_site-S-Site g a = record { rows = site_of a.rows.now; own_calls = true }

abbrev pub ghosts-on_site-S-Opened : goal.ghosts-on_site-S-Opened
ghosts-on_site-S-Opened g a = record { opened = a.books.items }
