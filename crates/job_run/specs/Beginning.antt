-- WHAT THE UNITS OF A SCRIPT BEGAN WITH, and whose their controls are (profile).
use Rattle.std.specs.Prelude.{◌≡◌, ℕ, List, Option, Ok}
use Rattle.any_device.specs.declared.device.AnyDevice.{AnyDevice}
use Rattle.unit_book.specs.Book.{Book}
use Rattle.excp_system.specs.Begun.{AreBegun}
use Rattle.job_mount.specs.Mounting.{books_with}
use Rattle.job_script.specs.Said.{Said}
use Rattle.job_run.specs.Controls.{AreControlledAs}

-- each of these books continues that of the script for its unit, if the units are given these devices. The purges, closes and
-- resets of each book are those of the script's commands at its unit, each task's in order, but for those that made no entry
pub record AreBegunWith (given : List (Option AnyDevice)) (s : Said) (books : List (Book AnyDevice)) : Type 0 where
  pub capacity : ℕ
  pub first_books : List (Book AnyDevice)
  pub mounted : books_with given capacity s ≡ Ok first_books
  pub began : AreBegun first_books books
  pub controlled : AreControlledAs s first_books books
