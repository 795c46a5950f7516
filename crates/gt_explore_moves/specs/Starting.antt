-- The call of a line begins in a state as in the run.
use Rattle.std.specs.Prelude.{◌≡◌, ◌++◌, ◌+◌, ℕ, suc, take, drop, List, ◌∷◌, Option, Some, None, slice_set}
use Rattle.gt_explore_moves.specs.Prelude.{DomId, Handle, Step, Call, Request, asked, begun_of, History, Setting}
use Rattle.gt_explore_moves.specs.Prelude.{known_at, ScriptCall, Course, resting, RunTask, Do, TurnResult, Answered}
use Rattle.gt_explore_moves.specs.Prelude.{Nowhere, On}
use Rattle.gt_model.specs.declared.request.Request.TheVariants.{Release}
use Rattle.gt_explore_moves.specs.Beginnings.{OpensAsRun}
use Rattle.gt_explore_moves.specs.Calls.{AsksByPlace, ShowsCalls, handles_at, known_by_place}
use Rattle.gt_explore_moves.specs.Renaming.{asked_under}
use Rattle.gt_explore_moves.specs.declared.actor.Actor.{Actor}
use Rattle.gt_explore_moves.specs.declared.calls.CallOpening.{CallOpening}
use Rattle.gt_explore_moves.specs.declared.calls.CallOpening.TheVariants.{Open, Done}
use Rattle.gt_explore_moves.specs.declared.scene.SearchState.{SearchState}

-- a call began in a state as this request begins in the run: over, with the same verdict; or open, with the same
-- request except for the handle, which has the index of the mapping as its serial
abbrev pub BeginsAsRun : Setting → History → DomId → Request → CallOpening → Type 0
BeginsAsRun s h d q (Done verdict) = begun_of (known_at s h d) d q ≡ Some verdict
BeginsAsRun s h d q (Open call step) =
    (begun_of (known_at s h d) d q ≡ None)
    × ((p : Request) × (place : Handle) × (asked p ≡ asked_under place (asked q))
    × AsksByPlace (handles_at h d) place (asked q) × OpensAsRun (known_by_place s h d) d p call step)

-- the release of the mapping at this index began in a state as that of this handle begins in the run: it is open, with
-- this call and first step, by a handle whose serial is the index
abbrev pub GivesAsRun : Setting → History → DomId → Handle → ℕ → Option (Call × Step) → Type 0
GivesAsRun s h d handle choice None = ⊥
GivesAsRun s h d handle choice (Some o) =
    (begun_of (known_at s h d) d (Release handle) ≡ None)
    × ((place : Handle) × (place.serial ≡ choice) × OpensAsRun (known_by_place s h d) d (Release place) o.0 o.1)

-- a domain whose next task began with this call, whose first step is this
abbrev pub opened_actor : Actor → Call → Step → Actor
opened_actor a call step =
    record a { next = a.next + 1; «open» = Some (record { task = Some a.next; call = call; step = step }) }

-- a domain that has skipped its next task
abbrev pub passed_actor : Actor → Actor
passed_actor a = record a { next = a.next + 1 }

-- a domain that releases a mapping at the end of its list, with this first step
abbrev pub giving_actor : Actor → Call → Step → Actor
giving_actor a call step = record a { «open» = Some (record { task = None; call = call; step = step }) }

-- a course without its mapping at this index
abbrev pub held_but : Course → ℕ → Course
held_but k choice = record k { held = take choice k.held ++ drop (suc choice) k.held }

-- a move prints exactly this line
abbrev pub PrintsLine : TurnResult → List ℕ → Type 0
PrintsLine Nowhere line = ⊥
PrintsLine On line = ⊥
PrintsLine (Answered text) line = text.items ≡ line

-- what a move prints is what the text of a course grows by
abbrev pub Grows : TurnResult → List ℕ → List ℕ → Type 0
Grows Nowhere old new = ⊥
Grows On old new = new ≡ old
Grows (Answered line) old new = new ≡ old ++ line.items

-- a domain at rest whose next line begins this call
pub record IsNextCall (k : Course) (t : RunTask) (ts : List RunTask) (call : ScriptCall) : Type 0 where
  pub rest : k.opened ≡ resting
  pub next : k.tasks ≡ t ∷ ts
  pub dom : t.dom ≡ k.dom
  pub run_action : t.run_action ≡ Do call

-- by a move of the domain at this position the state reaches the point to which this history brings the domain on its
-- course, and its table is unchanged
pub record MovesAsRun (s : Setting) (h : History) (tasks : List RunTask) (a : Actor) (k j : Course) (old new : SearchState)
    (at : ℕ) (led : TurnResult) : Type 0 where
  pub grows : Grows led k.text j.text
  pub actor : Actor
  pub becomes : new.actors.items ≡ slice_set old.actors.items at actor
  pub shows : ShowsCalls s h tasks j actor
  pub ground : new.ground ≡ old.ground
  pub told : new.told ≡ old.told

-- the domain at this position skips its next line, which begins no call, and its table is unchanged
pub record PassesTo (s : Setting) (h : History) (tasks : List RunTask) (a : Actor) (j : Course) (old new : SearchState) (at : ℕ)
    : Type 0 where
  pub actor : Actor
  pub becomes : new.actors.items ≡ slice_set old.actors.items at actor
  pub shows : ShowsCalls s h tasks j actor
  pub ground : new.ground ≡ old.ground
