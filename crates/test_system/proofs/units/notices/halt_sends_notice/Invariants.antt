use Rattle.std.specs.Prelude.{true}
use Rattle.excp_system.specs.Opening.{site_of}
use Rattle.test_system.proofs.units.notices.halt_sends_notice.Given as goal

-- the site of these rows, whose units begin with these books
abbrev pub ghosts-steps-S-Site : goal.ghosts-steps-S-Site
ghosts-steps-S-Site g a = record { rows = site_of a.rows.now; own_calls = true }

abbrev pub ghosts-steps-S-Opened : goal.ghosts-steps-S-Opened
ghosts-steps-S-Opened g a = record { opened = a.books.items }
