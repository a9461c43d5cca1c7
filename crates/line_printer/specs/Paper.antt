-- The paper of a line printer: pages of 66 lines, with channel 1 of the carriage control tape at line 1 (profile).
use Rattle.std.specs.Prelude.{ℕ, ◌+◌, ◌-◌, ◌≤◌, nat_le, List, if◌then◌else◌}
use Rattle.line_printer.specs.declared.paper.Motion.{Motion}
use Rattle.line_printer.specs.declared.paper.Motion.TheVariants as motion
use Rattle.line_printer.specs.declared.paper.PaperPosition.{PaperPosition}

-- A PRINTED LINE: its position and its bytes
pub record Line : Type 0 where
  pub at : PaperPosition
  pub bytes : List ℕ

-- SPACE: `count` lines down, over the end of the page to the next one
abbrev pub spaced : ℕ → PaperPosition → PaperPosition
spaced lines at =
    if nat_le (at.line + lines) 66 then record { page = at.page; line = at.line + lines }
    else record { page = at.page + 1; line = at.line + lines - 66 }

-- SKIP TO CHANNEL 1: line 1 of the next page, from every line
abbrev pub skipped : PaperPosition → PaperPosition
skipped at = record { page = at.page + 1; line = 1 }

-- WHERE A MOTION LEADS
abbrev pub after_motion : Motion → PaperPosition → PaperPosition
after_motion motion.Suppress at = at
after_motion motion.SpaceOne at = spaced 1 at
after_motion motion.SpaceTwo at = spaced 2 at
after_motion motion.SpaceThree at = spaced 3 at
after_motion motion.SkipToChannelOne at = skipped at

-- the position of the paper when it is put in
abbrev pub first_line : PaperPosition
first_line = record { page = 1; line = 1 }

-- a position is on a page
pub record IsOnPage (at : PaperPosition) : Type 0 where
  pub page : 1 ≤ at.page
  pub first : 1 ≤ at.line
  pub last : at.line ≤ 66

-- what the code keeps of the printed lines: the list, and for how many it has room
pub record Listing : Type 0 where
  pub room : ℕ
  pub lines : List Line
