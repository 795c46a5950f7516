-- Where the calls of precedences are in the lists of their domains.
use Rattle.std.specs.Prelude.{◌≡◌, ◌⊎◌, ◌==◌, ◌&&◌, ℕ, Bool, true, List, map, length, take, Option, Some, None}
use Rattle.std.specs.Prelude.{slice_get}
use Rattle.std.specs.Borrow.{Bor}
use Rattle.std.specs.Global.{Vec}
use Rattle.std.specs.List.{position_from}
use Rattle.gt_precedence.specs.Precedence.{calls_of}
use Rattle.gt_script.specs.Lists.{RunTask}
use Rattle.gt_script.specs.Preceding.{is_call}
use Rattle.gt_script.specs.declared.precedence.Precedence.{Precedence}
use Rattle.gt_explore_ordered.specs.declared.places.CallOrder.{CallOrder}
use Rattle.gt_explore_ordered.specs.declared.places.CallPlace.{CallPlace}

-- the task is a call of this line
abbrev pub is_call_of : ℕ → RunTask → Bool
is_call_of line t = is_call t.run_action && (t.line == line)

-- the lists of tasks
abbrev pub task_lists : List (Vec (Bor RunTask)) → List (List RunTask)
task_lists lists = map (λ list. map (λ t. t.now) list.items) lists

-- the place is that of the first call of this line in this list, which is that of the domain at this position
pub record IsFirstIn (line place : ℕ) (tasks : List RunTask) (p : CallPlace) : Type 0 where
  pub at : p.place ≡ place
  pub task : RunTask
  pub first : position_from (is_call_of line) 0 tasks ≡ Some p.index
  pub there : slice_get tasks p.index ≡ Some task
  pub dom : p.dom ≡ task.dom
  pub before : p.before ≡ length (calls_of (take p.index tasks))

-- the call was found in the list, or the list has none
abbrev pub IsCallFoundIn : ℕ → ℕ → List RunTask → Option CallPlace → Type 0
IsCallFoundIn line place tasks (Some p) = IsFirstIn line place tasks p
IsCallFoundIn line place tasks None = position_from (is_call_of line) 0 tasks ≡ None

-- the place is that of the first call of this line in one of these lists
pub record IsFirstCall (line : ℕ) (lists : List (List RunTask)) (p : CallPlace) : Type 0 where
  pub tasks : List RunTask
  pub listed : slice_get lists p.place ≡ Some tasks
  pub found : IsFirstIn line p.place tasks p

-- none of these lists has a call of this line
abbrev pub HasNoCall : ℕ → List (List RunTask) → Type 0
HasNoCall line lists =
    (place : ℕ) (tasks : List RunTask) → slice_get lists place ≡ Some tasks
    → position_from (is_call_of line) 0 tasks ≡ None

-- the call of this line was found, or the lists have none
abbrev pub IsFoundAs : ℕ → List (List RunTask) → Option CallPlace → Type 0
IsFoundAs line lists (Some p) = IsFirstCall line lists p
IsFoundAs line lists None = HasNoCall line lists

-- both calls of a precedence were found, or the lists have not both
abbrev pub OrderIsFound : List (List RunTask) → Precedence → Option CallOrder → Type 0
OrderIsFound lists lines (Some o) = IsFirstCall lines.first lists o.first × IsFirstCall lines.second lists o.second
OrderIsFound lists lines None = HasNoCall lines.first lists ⊎ HasNoCall lines.second lists
