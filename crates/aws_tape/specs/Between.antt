-- What is known of an image between two chunks.
use Rattle.std.specs.Prelude.{ℕ, Bool, List}
use Rattle.tape_unit.specs.Reel.{ReelState}
use Rattle.aws_tape.specs.declared.layout.Part.{Part}

-- BETWEEN TWO CHUNKS: the tape so far; whether a block is open, and its bytes so far; the chunks so far of blocks that
-- have several; and the length of the chunk before
pub record Between : Type 0 where
  pub reel : ReelState
  pub is_open : Bool
  pub block : List ℕ
  pub layout : List Part
  pub previous : ℕ
