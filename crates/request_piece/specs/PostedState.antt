-- What is given back of a request that has ended.
use Rattle.std.specs.Prelude.{ℕ}
use Rattle.io_area.specs.Storage.{Storage}
use Rattle.io_images.specs.declared.code.Code.{Code}
use Rattle.io_images.specs.declared.csw.Csw.{Csw}
use Rattle.request_piece.specs.declared.piece.Name.{Name}

-- a posted value: whose it is, how it ended, and its storage
pub record PostedState : Type 0 where
  pub name : Name
  pub unit : ℕ
  pub dcb : ℕ
  pub code : Code
  pub csw : Csw
  pub sense : ℕ
  pub area : Storage
