-- WHOSE CONTROLS a unit's log has at the end of a run (profile).
use Rattle.std.specs.Prelude.{◌≡◌, ◌<◌, ℕ, Bool, false, List, [], Some, slice_get}
use Rattle.signed_list.specs.Signed.{signed_by}
use Rattle.excp_system.specs.Controls.{LogState, PensState, asked_of}

-- the log of a unit has of each task just what the task asked of the unit, in order. What else it has, the unit's own
-- calls asked, under the number after those of the tasks: nothing, if these may not be used
pub record IsAudited (own_calls : Bool) (tasks unit : ℕ) (l : LogState) (hands : List PensState) : Type 0 where
  pub of_tasks : (t : ℕ) (p : PensState) → slice_get hands t ≡ Some p → signed_by t l.asked ≡ asked_of p.asked unit
  pub no_other : (k : ℕ) → tasks < k → signed_by k l.asked ≡ []
  pub no_own : own_calls ≡ false → signed_by tasks l.asked ≡ []

-- so it is with the log of each unit
abbrev pub AllAudited : Bool → ℕ → List LogState → List PensState → Type 0
AllAudited own_calls tasks logs hands =
    (unit : ℕ) (l : LogState) → slice_get logs unit ≡ Some l → IsAudited own_calls tasks unit l hands
