use Rattle.std.specs.Prelude.{true}
use Rattle.excp_system.specs.Opening.{site_of}
use Rattle.test_system.proofs.units.turns.turns_have_a_number_of_commands.Given as goal

-- the site of these rows, whose units begin with these books
abbrev pub ghosts-turn-S-Site : goal.ghosts-turn-S-Site
ghosts-turn-S-Site g a = record { rows = site_of a.rows.now; own_calls = true }

abbrev pub ghosts-turn-S-Opened : goal.ghosts-turn-S-Opened
ghosts-turn-S-Opened g a = record { opened = a.books.items }
