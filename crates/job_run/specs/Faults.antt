-- WHICH FAULT of a line the fault of its command is, and which faults leave the output as it was (profile).
use Rattle.std.specs.Prelude.{◌≡◌, ℕ}
use Rattle.job_script.specs.declared.fault.JobError.{JobError}
use Rattle.job_script.specs.declared.fault.JobError.TheVariants as faults
use Rattle.job_script.specs.declared.fault.FaultName.TheVariants as names
use Rattle.job_run.specs.declared.task_error.TaskError.{TaskError}
use Rattle.job_run.specs.declared.task_error.TaskError.TheVariants as errors
use Rattle.job_run.specs.declared.command_fault.CommandFault.{CommandFault}
use Rattle.job_run.specs.declared.command_fault.CommandFault.TheVariants.{NoNumber, NoMemory}

-- what ends the task, by the line of the command
abbrev pub fault_at : CommandFault → ℕ → TaskError
fault_at NoNumber line = errors.Line line names.Request
fault_at NoMemory line = errors.NoMemory

-- what ends the run, if a task ends by this
abbrev pub job_error : TaskError → JobError
job_error (errors.Line line name) = faults.Line line name
job_error errors.NoMemory = faults.NoMemory

-- every fault but that of a write leaves the writer as it was
abbrev pub LeavesWriter : {W : Type 0} → JobError → W → W → Type 0
LeavesWriter faults.NotWritten old new = Unit {0}
LeavesWriter (faults.Line _ _) old new = new ≡ old
LeavesWriter faults.TooLong old new = new ≡ old
LeavesWriter faults.Unreadable old new = new ≡ old
LeavesWriter faults.Unmatched old new = new ≡ old
LeavesWriter faults.NoMemory old new = new ≡ old
LeavesWriter faults.NoThread old new = new ≡ old
