-- When a domain of a state is at the point to which a run has brought it on its course. Its handles are other ones: in
-- a state their serials are the indices of mappings.
use Rattle.std.specs.Prelude.{◌≡◌, ◌≤◌, ◌+◌, ◌↔◌, ℕ, suc, List, [], ◌∷◌, length, map, drop, Option, Some, None}
use Rattle.std.specs.Prelude.{slice_get}
use Rattle.gt_explore_moves.specs.Prelude.{DomId, HandleMap, Handle, HeldPin, OpenRequest, Load, Store, Request, asked}
use Rattle.gt_explore_moves.specs.Prelude.{bytes_given_by, path, CallerKnowledge, knowledge_of}
use Rattle.gt_explore_moves.specs.Prelude.{IsAt, History, Setting, Underway, entry_at, generation_at}
use Rattle.gt_explore_moves.specs.Prelude.{known_at, mappings_at, maps_answered_at, open_call, table_at, values, may_by}
use Rattle.gt_explore_moves.specs.Prelude.{Named, MakesRequest, handle_labelled, ScriptCall, Course, resting, calling}
use Rattle.gt_explore_moves.specs.Prelude.{giving, given_up, handles_without, RunTask, Do, SparseTable}
use Rattle.gt_model.specs.declared.action.Action.TheVariants as actions
use Rattle.gt_model.specs.declared.request.OpenRequest.TheVariants.{Unmap, Release}
use Rattle.gt_explore_replay.specs.Courses.{Opened}
use Rattle.gt_explore_moves.specs.Mappings.{labels_of, mapping_pins}
use Rattle.gt_explore_state.specs.Rows.{kept_entry, kept_generation}
use Rattle.gt_explore_moves.specs.Placing.{pin_by_place}
use Rattle.gt_explore_moves.specs.Renaming.{asked_under}
use Rattle.gt_explore_moves.specs.declared.actor.Actor.{Actor}
use Rattle.gt_explore_moves.specs.declared.actor.ActorCall.{ActorCall}
use Rattle.gt_explore_moves.specs.declared.scene.SearchContext.{SearchContext}

-- what a domain of a state knows, if these are its mappings by their handles
abbrev pub known_in : SearchContext → SparseTable → HandleMap HeldPin → CallerKnowledge
known_in s t mappings =
    record (knowledge_of s.roster.domains.items s.roster.first_gen (may_by s.rights) [] t.header mappings) {
      entry = kept_entry t.own.items;
      generation = kept_generation s.roster.first_gen t.own.items;
    }

-- what a domain of a state knows of its own table, and what the policy allows, are as the history has them
pub record KnowsTable (s : Setting) (h : History) (d : DomId) (scene : SearchContext) (t : SparseTable) : Type 0 where
  pub domains : scene.roster.domains.items ≡ s.domains
  pub may : may_by scene.rights ≡ s.may
  pub entries : kept_entry t.own.items ≡ (λ r. entry_at h d.0 r)
  pub generations : kept_generation scene.roster.first_gen t.own.items ≡ (λ r. generation_at s h d.0 r)
  pub header : t.header ≡ table_at s h d

-- no mappings
abbrev pub no_mappings : HandleMap HeldPin
no_mappings = record { slots = []; given = 0; room = 0 }

-- mappings

-- the mappings of a domain by the history, the oldest first: their handles, and their pins
abbrev pub handles_at : History → DomId → List Handle
handles_at h d = map (λ (m : Handle × HeldPin). m.0) (mappings_at h d.0)

abbrev pub pins_mapped_at : History → DomId → List HeldPin
pins_mapped_at h d = map (λ (m : Handle × HeldPin). m.1) (mappings_at h d.0)

-- the serials rise, starting at this number and staying below that one
abbrev pub SerialsRise : ℕ → List Handle → ℕ → Type 0
SerialsRise low [] high = low ≤ high
SerialsRise low (handle ∷ more) high = (low ≤ handle.serial) × SerialsRise (suc handle.serial) more high

-- each mapping has exactly the labels that name its handle
abbrev pub LabelsShow : List Named → DomId → List Handle → List (Option (List ℕ)) → Type 0
LabelsShow named d handles labels =
    (at : ℕ) (handle : Handle) (given : Option (List ℕ)) (label : List ℕ) → slice_get handles at ≡ Some handle
    → slice_get labels at ≡ Some given → (given ≡ Some label) ↔ (handle_labelled named d.0 label ≡ Some handle)

-- calls

-- what a domain knows by the history, with the indices of its mappings as the serials of their handles
abbrev pub known_by_place : Setting → History → DomId → CallerKnowledge
known_by_place s h d = record (known_at s h d) { mapping = pin_by_place (pins_mapped_at h d); maps_answered = 0 }

-- the request uses the handle whose serial is the index of the run's mapping
abbrev pub AsksByPlace : List Handle → Handle → OpenRequest → Type 0
AsksByPlace handles place (Unmap handle) = slice_get handles place.serial ≡ Some handle
AsksByPlace handles place (Release handle) = slice_get handles place.serial ≡ Some handle
AsksByPlace handles place (Load handle off len) = slice_get handles place.serial ≡ Some handle
AsksByPlace handles place (Store handle off len) = slice_get handles place.serial ≡ Some handle
AsksByPlace handles place request = Unit {0}

-- the open call of a state has the request of the run's call, has seen the same, and is about to make the same step;
-- only the handles differ
pub record GoesAlong (s : Setting) (h : History) (d : DomId) (c : Underway) (o : ActorCall) : Type 0 where
  pub caller : o.call.caller ≡ d
  pub place : Handle
  pub asks : o.call.request ≡ asked_under place c.request
  pub by_place : AsksByPlace (handles_at h d) place c.request
  pub at : IsAt (known_by_place s h d) o.call (values c)
  pub follows : path (known_by_place s h d) d o.call.request (values c) ≡ Some (actions.Step o.step)

-- the open call is that of the last task begun
pub record IsOfTask (tasks : List RunTask) (next : ℕ) (d : DomId) (line : ℕ) (call : ScriptCall) (task : Option ℕ)
    : Type 0 where
  pub place : ℕ
  pub task_is : task ≡ Some place
  pub last : suc place ≡ next
  pub of_task : RunTask
  pub there : slice_get tasks place ≡ Some of_task
  pub dom_is : of_task.dom ≡ d
  pub line_is : of_task.line ≡ line
  pub action_is : of_task.run_action ≡ Do call

-- the call in progress is the one that a line asks for, by what its labels named when it began, and this is the handle
-- of the mapping that it drops
pub record IsOfLine (d : DomId) (call : ScriptCall) (lost : Option Handle) (c : Underway) : Type 0 where
  pub named : List Named
  pub request : Request
  pub makes : MakesRequest named d call request
  pub asks : c.request ≡ asked request
  pub given : c.given ≡ bytes_given_by request
  pub lost_is : lost ≡ given_up request

-- the open call of a domain in a state is the one on its course and by the history, and the domain has the handles of
-- its mappings: all of them, except for the one that it releases at the end of its list
abbrev pub ShowsOpen : Setting → History → List RunTask → Course → ℕ → Opened → Option Underway → Option ActorCall → Type 0
ShowsOpen s h tasks k next resting None None = k.held ≡ handles_at h k.dom
ShowsOpen s h tasks k next (calling line call lost) (Some c) (Some o) =
    GoesAlong s h k.dom c o × IsOfTask tasks next k.dom line call o.task × IsOfLine k.dom call lost c
    × (k.held ≡ handles_at h k.dom)
ShowsOpen s h tasks k next giving (Some c) (Some o) =
    GoesAlong s h k.dom c o × (o.task ≡ None)
    × ((handle : Handle) × (c.request ≡ Release handle) × (k.held ≡ handles_without handle (handles_at h k.dom)))
ShowsOpen s h tasks k next opened c o = ⊥

-- the number of its open calls: one while it is calling
abbrev pub tasks_open : Opened → ℕ
tasks_open resting = 0
tasks_open (calling line call lost) = 1
tasks_open giving = 0

-- a domain of a state is at the point to which this history has brought it on this course through these tasks
pub record ShowsCalls (s : Setting) (h : History) (tasks : List RunTask) (k : Course) (a : Actor) : Type 0 where
  pub left : k.tasks ≡ drop a.next tasks
  pub begun : a.next ≤ length tasks
  pub few : maps_answered_at h k.dom.0 + tasks_open k.opened ≤ a.next
  pub rising : SerialsRise 0 (handles_at h k.dom) (maps_answered_at h k.dom.0)
  pub pins : mapping_pins a.mappings.items ≡ pins_mapped_at h k.dom
  pub labels : LabelsShow k.named k.dom (handles_at h k.dom) (labels_of a.mappings.items)
  pub opens : ShowsOpen s h tasks k a.next k.opened (open_call h k.dom.0) a.«open»
