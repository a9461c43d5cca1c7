-- A LAW OF SCRIPTS WITHOUT CONTROLS: what code 48 means (profile).
use Rattle.std.specs.Prelude.{◌≡◌, ℕ, true, List, Option, Some, Ok, slice_get}
use Rattle.io_images.specs.declared.code.Code.TheVariants.{Purged}
use Rattle.request_piece.specs.PostedState.{PostedState}
use Rattle.request_piece.specs.declared.piece.Piece.{Piece}
use Rattle.any_device.specs.declared.device.AnyDevice.{AnyDevice}
use Rattle.unit_book.specs.Book.{Book}
use Rattle.serial_order.specs.Laws.{FollowsError}
use Rattle.job_script.specs.Grammar.{script_of}
use Rattle.job_script.specs.Said.{Said}
use Rattle.job_mount.specs.Mounting.{books_with}
use Rattle.job_run.specs.Orders.{IsOrder}
use Rattle.job_run.specs.Serial.{serial_posts}

-- a unit of a script that was read serves an order of its requests one at a time, and this one is posted with this value
pub record HasPostOf (unit : ℕ) (order : List Piece) (posts : List PostedState) (at : ℕ) (r : Piece) (v : PostedState) : Type 0 where
  pub script : List ℕ
  pub s : Said
  pub parsed : script_of script ≡ Ok s
  pub given : List (Option AnyDevice)
  pub capacity : ℕ
  pub books : List (Book AnyDevice)
  pub mounted : books_with given capacity s ≡ Ok books
  pub first : Book AnyDevice
  pub is_first : slice_get books unit ≡ Some first
  pub is_order : IsOrder s unit order
  pub posts_are : posts ≡ serial_posts first order
  pub request : slice_get order at ≡ Some r
  pub posted : slice_get posts at ≡ Some v

-- WITHOUT CONTROLS, code 48 is of a related request after one to its DCB that ended in error, and of no other
abbrev pub PurgesAfterErrors : Type 0
PurgesAfterErrors = (unit : ℕ) (order : List Piece) (posts : List PostedState) (at : ℕ) (r : Piece) (v : PostedState) →
    HasPostOf unit order posts at r v → v.code ≡ Purged → (r.related ≡ true) × FollowsError order posts at r
