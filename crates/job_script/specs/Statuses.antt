-- THE EXIT STATUS of the program if a fault ends its run (profile).
use Rattle.std.specs.Prelude.{ℕ}
use Rattle.job_script.specs.declared.fault.JobError.{JobError}
use Rattle.job_script.specs.declared.fault.JobError.TheVariants as faults

-- 3 if memory or a thread is lacking, else 1
abbrev pub exit_status : JobError → ℕ
exit_status (faults.Line _ _) = 1
exit_status faults.TooLong = 1
exit_status faults.Unreadable = 1
exit_status faults.NotWritten = 1
exit_status faults.Unmatched = 1
exit_status faults.NoMemory = 3
exit_status faults.NoThread = 3
