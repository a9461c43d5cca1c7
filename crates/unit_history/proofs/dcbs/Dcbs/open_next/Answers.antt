use Rattle.std.proofs.Common.{refl}
use Rattle.unit_history.proofs.DcbLaws.{opens-next}
use Rattle.unit_history.proofs.dcbs.Dcbs.open_next.Goals as goal

pub returns-then-self-len : goal.returns-then-self-len
returns-then-self-len c =
    let t = c.args.self.now in
    record {
      room = refl;
      opened = λ b. refl;
      dcbs = λ b d. opens-next t.rows.items t.rows.len t.opened d t.rows.ok.0 b;
    }
