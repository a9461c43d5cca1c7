use Rattle.ccw_programs.proofs.StepLaws.{device-stays}
use Rattle.ccw_programs.proofs.laws.device_stays.Goals as goal

pub returns : goal.returns
returns g c = let m = g.D.Device.meaning in let lawful = g.met.D.Device.lawful in record {
  kind = device-stays m m.kind lawful.kind_after_act;
  cylinders = device-stays m m.cylinders lawful.cylinders_after_act;
  heads = device-stays m m.heads lawful.heads_after_act;
}
