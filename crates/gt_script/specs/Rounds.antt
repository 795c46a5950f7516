-- How domains move in turn, while flags are raised.
use Rattle.std.specs.Prelude.{◌≡◌, ◌≤◌, ◌<◌, ℕ, Bool, true, false, not, List, length, take, Option, Some, None}
use Rattle.std.specs.Prelude.{slice_get, slice_set, get_or, All, IsTrue}
use Rattle.std.specs.List.{sum_by}
use Rattle.gt_types.specs.declared.DomId.{DomId}
use Rattle.gt_types.specs.declared.config.DomainConfig.{DomainConfig}
use Rattle.gt_script.specs.Stuck.{IsClosedFlagSet, PassesAll, WaitsAt}
use Rattle.gt_script.specs.Lists.{RunAction, RunTask}
use Rattle.gt_script.specs.declared.tasks.RunAction.TheVariants.{Do, Tell, Await}

-- whether a flag is raised
abbrev pub flag_holds : List Bool → ℕ → Bool
flag_holds told flag = get_or told flag false

-- a flag is raised
abbrev pub HasFlag : List Bool → ℕ → Type 0
HasFlag told flag = IsTrue (flag_holds told flag)

-- each raised flag is in this set
abbrev pub Within : List Bool → (ℕ → Bool) → Type 0
Within told set = (flag : ℕ) → HasFlag told flag → IsTrue (set flag)

-- 1 for a flag that is not raised
abbrev pub is_unraised : Bool → ℕ
is_unraised true = 0
is_unraised false = 1

-- the number of flags that are not raised
abbrev pub unraised_count : List Bool → ℕ
unraised_count told = sum_by is_unraised told

-- the flag of an action is raised
abbrev pub IsDone : List Bool → RunAction → Type 0
IsDone told (Do call) = Unit {0}
IsDone told (Tell flag) = HasFlag told flag
IsDone told (Await flag) = HasFlag told flag

-- a domain waits at this action
unfoldable pub is_waiting : List Bool → RunAction → Bool
is_waiting told (Do call) = false
is_waiting told (Tell flag) = false
is_waiting told (Await flag) = not (flag_holds told flag)

-- the raised flags after this action
unfoldable pub raised_after : List Bool → RunAction → List Bool
raised_after told (Do call) = told
raised_after told (Tell flag) = slice_set told flag true
raised_after told (Await flag) = told

-- this action raises a flag that is not raised yet
unfoldable pub is_new : List Bool → RunAction → Bool
is_new told (Do call) = false
is_new told (Tell flag) = not (flag_holds told flag)
is_new told (Await flag) = false

-- the domain has come to this position: the flags of its tasks before it are raised
abbrev pub Comes : List RunTask → DomId → ℕ → List Bool → Type 0
Comes tasks dom place told = All (λ t. t.dom.0 ≡ dom.0 → IsDone told t.run_action) (take place tasks)

-- a domain moved to this position and raised the flags of its tasks there; `is_news`: one was new
pub record WayTo (tasks : List RunTask) (dom : DomId) (old new : List Bool) (place : ℕ) (is_news : Bool) : Type 0 where
  pub comes : Comes tasks dom place new
  pub grown : (flag : ℕ) → HasFlag old flag → HasFlag new flag
  pub sound : (set : ℕ → Bool) → IsClosedFlagSet tasks set → Within old set → Within new set
  pub many : length new ≡ length old
  pub quiet : is_news ≡ false → new ≡ old
  pub loud : is_news ≡ true → unraised_count new < unraised_count old

-- a domain at this position waits for a flag that is not raised, unless it is at the end of the tasks
abbrev pub WaitsFor : List RunTask → DomId → ℕ → List Bool → Type 0
WaitsFor tasks dom place told = (task : RunTask) → slice_get tasks place ≡ Some task
    → (flag : ℕ) × (task.run_action ≡ Await flag) × (task.dom.0 ≡ dom.0) × (flag_holds told flag ≡ false)

-- a domain moved as far as the raised flags let it
abbrev pub TurnGoesOn : List RunTask → DomId → List Bool → List Bool → ℕ → Bool → Type 0
TurnGoesOn tasks dom old new place is_news =
    (place ≤ length tasks) × WayTo tasks dom old new place is_news × WaitsFor tasks dom place new

-- each domain has come to its position
abbrev pub HaveCome : List RunTask → List DomainConfig → List ℕ → List Bool → Type 0
HaveCome tasks domains places told = (i : ℕ) (d : DomainConfig) → slice_get domains i ≡ Some d
    → (get_or places i 0 ≤ length tasks) × Comes tasks d.id (get_or places i 0) told

-- the first `upto` domains moved in turn
pub record Turning (tasks : List RunTask) (domains : List DomainConfig) (places : List ℕ) (old new : List Bool) (upto : ℕ)
    (is_news : Bool) : Type 0 where
  pub have : HaveCome tasks domains places new
  pub sound : (set : ℕ → Bool) → IsClosedFlagSet tasks set → Within old set → Within new set
  pub many : length new ≡ length old
  pub quiet : is_news ≡ false → new ≡ old
  pub loud : is_news ≡ true → unraised_count new < unraised_count old
  pub rest : is_news ≡ false → (i : ℕ) (d : DomainConfig) → i < upto → slice_get domains i ≡ Some d
      → WaitsFor tasks d.id (get_or places i 0) new

-- the line where a domain waits, if these flags are raised; none if it comes to its end
abbrev pub WaitsOrEnds : List Bool → List RunTask → DomId → Option ℕ → Type 0
WaitsOrEnds told tasks dom None = PassesAll (HasFlag told) dom tasks
WaitsOrEnds told tasks dom (Some line) = WaitsAt (HasFlag told) tasks dom line
