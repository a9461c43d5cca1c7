-- Commands that keep the laws of a device.
use Rattle.std.specs.Prelude.{◌≡◌, []}
use Rattle.std.proofs.Common.{refl}
use Rattle.device_port.specs.declared.kind.Flow.{Flow}
use Rattle.device_port.specs.declared.kind.Flow.TheVariants.{None as NoFlow, Out, Input, Back}
use Rattle.device_port.specs.Meaning.{Outcome, GivesWhatItWants}

-- a command that gives no byte and wants none keeps the law, whatever the direction of its data
pub gives_nothing : {D : Type 0} (flow : Flow) (o : Outcome D) → o.bytes ≡ [] → o.acted.want ≡ 0 → GivesWhatItWants flow o
gives_nothing NoFlow o bytes want = want
gives_nothing Out o bytes want = tt
gives_nothing Input o bytes want = rw (bytes, want) refl
gives_nothing Back o bytes want = rw (bytes, want) refl
