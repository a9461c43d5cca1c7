-- The size of a device: how much each of its parts holds. It never changes (profile).
use Rattle.std.specs.Prelude.{◌≡◌, ℕ, List}
use Rattle.io_images.specs.declared.seek.Seek.{Seek}
use Rattle.device_port.specs.Meaning.{Meaning}

-- NO COMMAND AND NO PREFIX changes the size
pub record KeepsSize {D : Type 0} (meaning : Meaning D) (size : D → List ℕ) : Type 0 where
  pub after_act : (d : D) (command : ℕ) (bytes : List ℕ) → size (meaning.act d command bytes).device ≡ size d
  pub after_prefix : (d : D) (seek : Seek) (mask : ℕ) → size (meaning.prefix d seek mask) ≡ size d
