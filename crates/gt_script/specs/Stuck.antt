-- Which flags are raised in a run, and where a domain waits for ever.
use Rattle.std.specs.Prelude.{◌≡◌, ◌<◌, ℕ, Bool, List, take, Option, Some, None, slice_get, All, IsTrue}
use Rattle.gt_types.specs.declared.DomId.{DomId}
use Rattle.gt_types.specs.declared.config.DomainConfig.{DomainConfig}
use Rattle.gt_script.specs.Lists.{RunAction, RunTask}
use Rattle.gt_script.specs.declared.tasks.RunAction.TheVariants.{Do, Tell, Await}

-- the flag of an action is below this number
abbrev pub IsBelow : ℕ → RunAction → Type 0
IsBelow count (Do call) = Unit {0}
IsBelow count (Tell flag) = flag < count
IsBelow count (Await flag) = flag < count

-- the flags of these tasks are below this number
abbrev pub AreNumbered : ℕ → List RunTask → Type 0
AreNumbered count tasks = All (λ t. IsBelow count t.run_action) tasks

-- A domain gets beyond a task if these flags are raised: it waits only at a
-- task that awaits another flag.
abbrev pub IsPassed : (ℕ → Type 0) → RunAction → Type 0
IsPassed Told (Do call) = Unit {0}
IsPassed Told (Tell flag) = Unit {0}
IsPassed Told (Await flag) = Told flag

-- a domain gets beyond all its own tasks among these
abbrev pub PassesAll : (ℕ → Type 0) → DomId → List RunTask → Type 0
PassesAll Told dom tasks = All (λ t. t.dom.0 ≡ dom.0 → IsPassed Told t.run_action) tasks

-- A set of flags is closed: it has each flag that a task raises, if the
-- domain gets beyond all its tasks before that one.
abbrev pub IsClosedFlagSet : List RunTask → (ℕ → Bool) → Type 0
IsClosedFlagSet tasks set = (at : ℕ) (task : RunTask) (flag : ℕ) → slice_get tasks at ≡ Some task
    → task.run_action ≡ Tell flag → PassesAll (λ f. IsTrue (set f)) task.dom (take at tasks) → IsTrue (set flag)

-- a flag comes to be raised: it is in each closed set, so in the least one
abbrev pub IsRaisable : List RunTask → ℕ → Type 0
IsRaisable tasks flag = (set : ℕ → Bool) → IsClosedFlagSet tasks set → IsTrue (set flag)

-- a domain comes to the end of its list, if these flags are raised
abbrev pub CanEnd : (ℕ → Type 0) → List RunTask → DomId → Type 0
CanEnd Told tasks dom = PassesAll Told dom tasks

-- a domain moves up to the line with this number, where it waits for a flag that is not raised
pub record WaitsAt (Told : ℕ → Type 0) (tasks : List RunTask) (dom : DomId) (line : ℕ) : Type 0 where
  pub at : ℕ
  pub task : RunTask
  pub flag : ℕ
  pub there : slice_get tasks at ≡ Some task
  pub own : task.dom.0 ≡ dom.0
  pub number : task.line ≡ line
  pub awaits : task.run_action ≡ Await flag
  pub before : PassesAll Told dom (take at tasks)
  pub unraised : ¬ Told flag

-- each of the domains comes to the end of its list
abbrev pub AllEnd : (ℕ → Type 0) → List RunTask → List DomainConfig → Type 0
AllEnd Told tasks domains = All (λ d. CanEnd Told tasks d.id) domains

-- the first of the domains that does not come to its end waits at this line
pub record IsStuckAt (Told : ℕ → Type 0) (tasks : List RunTask) (domains : List DomainConfig) (line : ℕ) : Type 0 where
  pub place : ℕ
  pub domain : DomainConfig
  pub there : slice_get domains place ≡ Some domain
  pub others : AllEnd Told tasks (take place domains)
  pub waits : WaitsAt Told tasks domain.id line

-- the line at which the first domain waits that does not come to its end; none if each comes there
abbrev pub IsJudged : (ℕ → Type 0) → List RunTask → List DomainConfig → Option ℕ → Type 0
IsJudged Told tasks domains None = AllEnd Told tasks domains
IsJudged Told tasks domains (Some line) = IsStuckAt Told tasks domains line
