use Rattle.std.proofs.Common.{List, sym, subst, Err}
use Rattle.device_port.specs.declared.faults.Fault.{Fault}
use Rattle.ckd_disk.specs.declared.mount.InitialRecord.{InitialRecord}
use Rattle.ckd_disk.specs.Mount.{Mounts as MountsDisk}
use Rattle.tape_unit.specs.declared.mount.InitialItem.{InitialItem}
use Rattle.tape_unit.specs.Mount.{Mounts as MountsTape}
use Rattle.job_script.specs.declared.set_up.InitialMedium.{InitialMedium}
use Rattle.job_script.specs.Views.{medium_said}
use Rattle.job_mount.specs.Devices.{mounted}
use Rattle.job_mount.specs.Outcomes.{MountsDevice}
use Rattle.job_mount.proofs.Devices.{disk_mounted, disk_refused, tape_mounted, tape_refused}
use Rattle.job_mount.proofs.device.mounted.Goals as goal

pub returns-in-Ok : goal.returns-in-Ok
returns-in-Ok c =
    rw c.in-Disk.is
    (disk_mounted c.in-Disk.geometry c.in-Disk.records.items c.args.unit.now.faults.items c.in-Ok.disk
    (rw (sym c.deref.ensures.value, sym c.deref-in-Disk.ensures.value) c.in-Ok.ensures))

pub returns-in-Err : goal.returns-in-Err
returns-in-Err c =
    subst (λ (m : InitialMedium). MountsDevice (mounted (medium_said m) c.args.unit.now.faults.items) (Err c.in-Err.error))
    (sym c.in-Disk.is)
    (disk_refused c.in-Disk.geometry c.in-Disk.records.items c.args.unit.now.faults.items c.in-Err.error
    (subst (λ (on : List InitialRecord). MountsDisk c.in-Disk.geometry on c.args.unit.now.faults.items (Err c.in-Err.error))
    c.deref.ensures.value
    (subst (λ (faults : List Fault). MountsDisk c.in-Disk.geometry c.deref.result.now faults (Err c.in-Err.error))
    c.deref-in-Disk.ensures.value c.in-Err.ensures)))

pub returns-in-Ok-mount : goal.returns-in-Ok-mount
returns-in-Ok-mount c =
    rw c.in-Tape.is
    (tape_mounted c.in-Tape.bytes c.in-Tape.items.items c.args.unit.now.faults.items c.in-Ok-mount.tape
    (rw (sym c.deref-in-Tape.ensures.value, sym c.deref-in-Tape-2.ensures.value) c.in-Ok-mount.ensures))

pub returns-in-Err-mount : goal.returns-in-Err-mount
returns-in-Err-mount c =
    subst (λ (m : InitialMedium). MountsDevice (mounted (medium_said m) c.args.unit.now.faults.items) (Err c.in-Err-mount.error))
    (sym c.in-Tape.is)
    (tape_refused c.in-Tape.bytes c.in-Tape.items.items c.args.unit.now.faults.items c.in-Err-mount.error
    (subst (λ (on : List InitialItem). MountsTape c.in-Tape.bytes on c.args.unit.now.faults.items (Err c.in-Err-mount.error))
    c.deref-in-Tape.ensures.value
    (subst (λ (faults : List Fault). MountsTape c.in-Tape.bytes c.deref-in-Tape.result.now faults (Err c.in-Err-mount.error))
    c.deref-in-Tape-2.ensures.value c.in-Err-mount.ensures)))
