-- The open call of a domain makes its next step in a state as in the run.
use Rattle.std.specs.Prelude.{◌≡◌, ◌+◌, ◌≤◌, ◌++◌, ℕ, List, [], ◌∷◌, take, drop, Option, Some, None}
use Rattle.std.specs.Prelude.{slice_get, slice_set}
use Rattle.gt_explore_moves.specs.Prelude.{DomainConfig, FRAME_SIZE, Observation, Step, Unpin, CallResult, Granted}
use Rattle.gt_explore_moves.specs.Prelude.{answer_of, History, Setting, contents_at, seen_by, IsItemOf, IsRight, Answer}
use Rattle.gt_explore_moves.specs.Prelude.{Bytes, Tick, Item, answer_line, may_by, call_bytes, label_given}
use Rattle.gt_explore_moves.specs.Prelude.{HaveAnswered, Course, back_after, calling, course_after, giving, resting}
use Rattle.gt_explore_moves.specs.Prelude.{RunAction, RunTask, Do, TurnResult, On, IsLikeReached, IsSettingOf}
use Rattle.gt_explore_moves.specs.Prelude.{PagesShow, TablesShow, SparsePage, SparseTable}
use Rattle.gt_model.specs.declared.trace.Answer.TheVariants as answers
use Rattle.gt_model.specs.declared.action.Step.TheVariants as call_steps
use Rattle.gt_model.specs.declared.action.CallResult.TheVariants as results
use Rattle.gt_explore_replay.specs.Courses.{Opened}
use Rattle.gt_explore_moves.specs.Calls.{ShowsCalls}
use Rattle.gt_explore_moves.specs.Ends.{tasks_at}
use Rattle.gt_explore_moves.specs.Mappings.{apart_from, given_back, labels_of, mapping_pins}
use Rattle.gt_explore_moves.specs.Starting.{Grows, PrintsLine}
use Rattle.gt_explore_moves.specs.declared.actor.Actor.{Actor}
use Rattle.gt_explore_moves.specs.declared.actor.LabelledMapping.{LabelledMapping}
use Rattle.gt_explore_moves.specs.declared.actor.ActorCall.{ActorCall}
use Rattle.gt_explore_moves.specs.declared.scene.SearchContext.{SearchContext}
use Rattle.gt_explore_moves.specs.declared.scene.SearchState.{SearchState}

-- the state shows this history, and the domain at this position is at the point to which the history has brought it on
-- this course
pub record ShowsAt (s : Setting) (h : History) (scene : SearchContext) (w : SearchState) (at : ℕ) (k : Course) (a : Actor)
    : Type 0 where
  pub setting : IsSettingOf scene.roster s
  pub may : may_by scene.rights ≡ s.may
  pub tables : TablesShow s h w.ground.tables.items
  pub pages : PagesShow h w.ground.pages.items
  pub like : IsLikeReached s h
  pub domain : DomainConfig
  pub placed : slice_get scene.roster.domains.items at ≡ Some domain
  pub number : domain.id ≡ k.dom
  pub there : slice_get w.actors.items at ≡ Some a
  pub named : HaveAnswered h k.named
  pub shows : ShowsCalls s h (tasks_at scene at) k a

-- by this step of its open call a domain moves from one point of its course to the next
abbrev pub TickLeads : List (List ℕ) → Course → Opened → Item → Course → Type 0
TickLeads types k resting i j = ⊥
TickLeads types k (calling line call lost) i j = j ≡ course_after types line call lost k i.answer
TickLeads types k giving i j = j ≡ back_after k i.answer

-- by a step of the domain at this position the state reaches the point to which this history brings the domain on its
-- course
pub record TicksAsRun (s : Setting) (h : History) (tasks : List RunTask) (k j : Course) (old new : SearchState) (at : ℕ) (led : TurnResult)
    : Type 0 where
  pub grows : Grows led k.text j.text
  pub actor : Actor
  pub becomes : new.actors.items ≡ slice_set old.actors.items at actor
  pub shows : ShowsCalls s h tasks j actor
  pub tables : TablesShow s h new.ground.tables.items
  pub pages : PagesShow h new.ground.pages.items
  pub told : new.told ≡ old.told

-- the data of an open call's task

-- the bytes in a call, if the action is one
abbrev pub bytes_in : RunAction → List ℕ
bytes_in (Do call) = call_bytes call
bytes_in run_action = []

abbrev pub bytes_by : Option RunTask → List ℕ
bytes_by None = []
bytes_by (Some t) = bytes_in t.run_action

-- the task at an index of a list, if there is an index
abbrev pub task_in : List RunTask → Option ℕ → Option RunTask
task_in tasks None = None
task_in tasks (Some place) = slice_get tasks place

-- the label to which a task gives its mapping
abbrev pub label_given_by : RunAction → Option (List ℕ)
label_given_by (Do call) = label_given call
label_given_by run_action = None

-- the step

-- the mappings of a domain after its step: without the one that the step drops
abbrev pub mappings_after : Step → List LabelledMapping → List LabelledMapping
mappings_after (Unpin p holder) ms = given_back holder ms
mappings_after step ms = ms

-- the domain at this position is about to make the step of this item, by its open call
pub record IsTick (s : Setting) (h : History) (scene : SearchContext) (before : SearchState) (at : ℕ) (k : Course) (a : Actor)
    (o : ActorCall) (i : Item) : Type 0 where
  pub shows : ShowsAt s h scene before at k a
  pub has : a.«open» ≡ Some o
  pub event : IsItemOf (Tick k.dom) i
  pub right : IsRight s h i

-- the step saw this, and these tables and pages show the history with it
pub record HasStepped (s : Setting) (h : History) (k : Course) (i : Item) (o : ActorCall) (seen : Observation) (tables : List SparseTable)
    (pages : List SparsePage) : Type 0 where
  pub saw : seen ≡ seen_by s h k.dom o.step
  pub tables_show : TablesShow s (i ∷ h) tables
  pub pages_show : PagesShow (i ∷ h) pages

-- the end of a call

-- a step that reads does so inside a frame
abbrev pub ReadsInFrame : Step → Type 0
ReadsInFrame (call_steps.Read dom frame off len) = off + len ≤ FRAME_SIZE
ReadsInFrame step = Unit {0}

-- the answer of a call that ends after this step with this verdict, except for a handle: a read returns the bytes that
-- the frame holds
abbrev pub AnswersEnd : History → Step → CallResult → Answer → Type 0
AnswersEnd h (call_steps.Read dom frame off len) Granted answer =
    (b : Bytes) × (answer ≡ answers.Bytes b) × (b.bytes.items ≡ take len (drop off (contents_at h dom.0 frame)))
AnswersEnd h step verdict answer = answer ≡ answer_of verdict

-- after this verdict a domain has these mappings: one more after a map that is Ok, whose label names no other one
abbrev pub MapsSo : Option (List ℕ) → CallResult → List LabelledMapping → List LabelledMapping → Type 0
MapsSo label (results.Mapped held) old new =
    (mapping_pins new ≡ mapping_pins old ++ held ∷ []) × (labels_of new ≡ apart_from label (labels_of old) ++ label ∷ [])
MapsSo label verdict old new = new ≡ old

-- the call of a domain is over with this verdict
pub record CallIsOver (label : Option (List ℕ)) (verdict : CallResult) (a b : Actor) : Type 0 where
  pub next : b.next ≡ a.next
  pub none : b.«open» ≡ None
  pub maps : MapsSo label verdict a.mappings.items b.mappings.items

-- the call of this task is over with this verdict, and printed its answer
pub record EndsCallOfTask (h : History) (types : List (List ℕ)) (t : RunTask) (last : Step) (verdict : CallResult)
    (a : Actor) (old new : SearchState) (at : ℕ) (led : TurnResult) : Type 0 where
  pub answer : Answer
  pub answers : AnswersEnd h last verdict answer
  pub prints : PrintsLine led (answer_line types t.line t.dom answer)
  pub actor : Actor
  pub becomes : new.actors.items ≡ slice_set old.actors.items at actor
  pub closed : CallIsOver (label_given_by t.run_action) verdict a actor
  pub ground : new.ground ≡ old.ground
  pub told : new.told ≡ old.told

-- the release of a mapping at the end of a list is over
pub record ClosesBack (a : Actor) (old new : SearchState) (at : ℕ) (led : TurnResult) : Type 0 where
  pub on : led ≡ On
  pub actor : Actor
  pub becomes : new.actors.items ≡ slice_set old.actors.items at actor
  pub closed : CallIsOver None Granted a actor
  pub ground : new.ground ≡ old.ground
  pub told : new.told ≡ old.told
