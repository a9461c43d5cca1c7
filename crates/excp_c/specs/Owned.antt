-- What a `Slot` owns: nothing if it has no site, and else what a `Box` owns.
use Rattle.std.specs.Prelude.{Option, Some, None}
use mir.Syntax.{Ty}
use base.Fml.{Fml, ftrue}
use denote.RattleType.{RattleType}
use denote.RawPtr.{Ptr}
use Rattle.std.specs.Box.Ownership.{box_owns}

abbrev pub slot_owns : (Ty → Ptr → Fml) → (R : RattleType) → Ptr → Option R.Denot → Fml
slot_owns frees R at None = ftrue
slot_owns frees R at (Some site) = box_owns frees R at site
