-- A move of a domain: the event of the core, what that did, and the domain afterwards.
use Rattle.std.specs.Prelude.{◌≡◌, ◌++◌, ◌+◌, ℕ, suc, List, take, drop, Option, Some, slice_get, IsSome}
use Rattle.gt_explore_replay.specs.Prelude.{Handle, Request, Release, Setting, DoesEvent, CoreState, Begin, Tick, RunTask}
use Rattle.gt_explore_replay.specs.Prelude.{begun_element, ticked_element, Begun, Ticked}
use Rattle.gt_explore_replay.specs.Prelude.{ScriptCall, AreNamed, Named}
use Rattle.gt_explore_replay.specs.Prelude.{MakesRequest, Moved, Line, GivesBack, Walker}
use Rattle.std.specs.Borrow.{Bor}
use Rattle.gt_core.specs.declared.core_state.Begun.TheVariants as beginnings
use Rattle.gt_core.specs.declared.core_state.Ticked.TheVariants as ticked
use Rattle.gt_explore_replay.specs.Orders.{given_up}
use Rattle.gt_explore_replay.specs.Walking.{AnswersLine, ClosesCall}

-- the call of a line makes this request, whatever handles the labels name
abbrev pub AsksFor : Walker → ScriptCall → Request → Type 0
AsksFor v call request = (named : List Named) → AreNamed v.labels named → MakesRequest named v.dom call request

-- the call of a line, which drops the mapping of this handle, began: it is open, or it has its answer
abbrev pub IsBegunFrom : List (List ℕ) → RunTask → Bor ScriptCall → Option Handle → Walker → Begun → Option Moved
    → Walker → Type 0
IsBegunFrom types task call lost v beginnings.Open m w =
    IsSome m × (w ≡ record v { next = v.next + 1; doing = Line task.line call lost })
IsBegunFrom types task call lost v (beginnings.Done answer) m w =
    IsSome m × AnswersLine types task.line call.now lost answer (record v { next = v.next + 1 }) w
IsBegunFrom types task call lost v beginnings.Busy m w = Unit {0}
IsBegunFrom types task call lost v beginnings.NoDomain m w = Unit {0}

-- the core began the call of a line for a domain
abbrev pub BeginsLine : Setting → List (List ℕ) → CoreState → Walker → RunTask → Bor ScriptCall → Option Moved
    → CoreState → Walker → Type 0
BeginsLine s types old v task call m new w =
    (request : Request) × (b : Begun) × AsksFor v call.now request
    × DoesEvent s old (Begin v.dom request) (begun_element v.dom request b) new
    × IsBegunFrom types task call (given_up request) v b m w

-- the open call of a domain made a step: it is still open, or it has its answer
abbrev pub IsTickedFrom : List (List ℕ) → Walker → Ticked → Option Moved → Walker → Type 0
IsTickedFrom types v (ticked.Step step seen) m w = IsSome m × (w ≡ v)
IsTickedFrom types v (ticked.Done step seen answer) m w = IsSome m × ClosesCall types answer v w
IsTickedFrom types v ticked.Idle m w = Unit {0}
IsTickedFrom types v ticked.NoDomain m w = Unit {0}

-- the core made a step of the open call of a domain
abbrev pub TicksOpen : Setting → List (List ℕ) → CoreState → Walker → Option Moved → CoreState → Walker → Type 0
TicksOpen s types old v m new w =
    (t : Ticked) × DoesEvent s old (Tick v.dom) (ticked_element v.dom t) new × IsTickedFrom types v t m w

-- the release of the mapping at this index began: it is open, or it has its answer
abbrev pub IsGivenFrom : ℕ → Walker → Begun → Option Moved → Walker → Type 0
IsGivenFrom choice v beginnings.Open m w =
    IsSome m × (w ≡ record v { doing = GivesBack; held = w.held })
    × (w.held.items ≡ take choice v.held.items ++ drop (suc choice) v.held.items)
IsGivenFrom choice v (beginnings.Done answer) m w =
    IsSome m × (w ≡ record v { held = w.held })
    × (w.held.items ≡ take choice v.held.items ++ drop (suc choice) v.held.items)
IsGivenFrom choice v beginnings.Busy m w = Unit {0}
IsGivenFrom choice v beginnings.NoDomain m w = Unit {0}

-- the core began the release of the mapping at this index, if there is one
abbrev pub GivesBackAt : Setting → CoreState → Walker → ℕ → Option Moved → CoreState → Walker → Type 0
GivesBackAt s old v choice m new w =
    (handle : Handle) → slice_get v.held.items choice ≡ Some handle
    → (b : Begun) × DoesEvent s old (Begin v.dom (Release handle)) (begun_element v.dom (Release handle) b) new
    × IsGivenFrom choice v b m w
