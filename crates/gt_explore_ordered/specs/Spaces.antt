-- The runs of a script, of which notes are printed: the letters of answers, and the marks of precedences that hold.
use Rattle.std.specs.Prelude.{◌≡◌, ◌⊎◌, ◌++◌, ◌+◌, ◌<◌, ℕ, true, List, [], ◌∷◌, length, map, take, All, Option}
use Rattle.std.specs.Prelude.{Some, None}
use Rattle.std.specs.Prelude.{slice_get}
use mathlib.Core.Path.{ap}
use Rattle.gt_explore_moves.specs.Spaces.{BeginsAt, Point, RunComesTo, printed_by, scene_ways}
use Rattle.gt_explore_moves.specs.declared.scene.SearchContext.{SearchContext}
use Rattle.gt_explore_moves.specs.declared.scene.SearchState.{SearchState}
use Rattle.gt_explore_replay.specs.Courses.{AllCoursesEnd, Course, Opened, calling, giving, resting}
use Rattle.gt_explore_replay.specs.Orders.{Happening}
use Rattle.gt_explore_search.specs.Ways.{Ways, only_at}
use Rattle.gt_explore_search.specs.declared.spaces.Turn.{Turn}
use Rattle.gt_explore_search.specs.declared.spaces.TurnResult.{TurnResult}
use Rattle.gt_explore_search.specs.declared.spaces.TurnResult.TheVariants.{Answered, Nowhere, On}
use Rattle.gt_precedence.specs.Precedence.{calls_answered, calls_begun, calls_of}
use Rattle.gt_script.specs.Lists.{RunTask}
use Rattle.gt_script.specs.Preceding.{is_call}
use Rattle.gt_script.specs.RunContents.{RunContents}
use Rattle.gt_script.specs.RunScripts.{list_of}
use Rattle.gt_types.specs.declared.config.DomainConfig.{DomainConfig}
use Rattle.gt_explore_ordered.specs.Holding.{is_completed_if}
use Rattle.gt_explore_ordered.specs.Notes.{Note, bytes_of_letters, bytes_of_notes, letter}
use Rattle.gt_explore_ordered.specs.States.{marks_of_orders}
use Rattle.gt_explore_ordered.specs.declared.places.CallOrder.{CallOrder}
use Rattle.gt_explore_ordered.specs.declared.places.CallPlace.{CallPlace}

-- the places of calls

-- the place is that of a call of the script
pub record IsCallPlace (c : RunContents) (p : CallPlace) : Type 0 where
  pub domain : DomainConfig
  pub placed : slice_get c.head.domains p.place ≡ Some domain
  pub named : domain.id ≡ p.dom
  pub task : RunTask
  pub there : slice_get (list_of c.tasks p.dom) p.index ≡ Some task
  pub calls : is_call task.run_action ≡ true
  pub before : p.before ≡ length (calls_of (take p.index (list_of c.tasks p.dom)))

-- both places are those of calls of the script
abbrev pub IsCallOrder : RunContents → Option CallOrder → Type 0
IsCallOrder c None = Unit {0}
IsCallOrder c (Some o) = IsCallPlace c o.first × IsCallPlace c o.second

abbrev pub AreCallOrders : RunContents → List (Option CallOrder) → Type 0
AreCallOrders c [] = Unit {0}
AreCallOrders c (o ∷ os) = IsCallOrder c o × AreCallOrders c os

-- counts of calls

-- the number of its open calls and releases
abbrev pub opened_count : Opened → ℕ
opened_count resting = 0
opened_count (calling line call lost) = 1
opened_count giving = 1

-- a domain begins releases only when no calls are left
abbrev pub AreLate : Opened → ℕ → List RunTask → Type 0
AreLate resting releases tasks = (releases ≡ 0) ⊎ (tasks ≡ [])
AreLate (calling line call lost) releases tasks = releases ≡ 0
AreLate giving releases tasks = (0 < releases) × (tasks ≡ [])

-- the domain at this point of its course has begun the calls of its list that are not left, and then this number of
-- releases; all of them but the open one have their answers
pub record CallsAreCounted (c : RunContents) (hs : List Happening) (k : Course) : Type 0 where
  pub releases : ℕ
  pub begun : calls_begun k.dom hs + length (calls_of k.tasks) ≡ length (calls_of (list_of c.tasks k.dom)) + releases
  pub answered : calls_answered k.dom hs + opened_count k.opened ≡ calls_begun k.dom hs
  pub late : AreLate k.opened releases k.tasks

-- the space

-- the point of a run, and the notes of each domain
pub record OrderedPoint : Type 0 where
  pub run : Point
  pub notes : ℕ → List Note

abbrev pub BeginsOrdered : SearchContext → List (Option CallOrder) → OrderedPoint → Type 0
BeginsOrdered scene orders p =
    BeginsAt scene p.run × AreCallOrders p.run.script orders × ((at : ℕ) → p.notes at ≡ [])

-- a run moves, and its domain adds the marks of the precedences that are met, and the letters that it prints
pub record ComesOrdered (orders : List (Option CallOrder)) (p : OrderedPoint) (turn : Turn) (q : OrderedPoint)
    : Type 0 where
  pub run : RunComesTo p.run turn q.run
  pub line : List ℕ
  pub prints : (at : ℕ) → printed_by q.run.courses at ≡ printed_by p.run.courses at ++ only_at turn.place line at
  pub more : List Note
  pub is_more : more ≡ marks_of_orders (is_completed_if p.run.happened run.x) 0 orders ++ map letter line
  pub here : q.notes turn.place ≡ p.notes turn.place ++ more
  pub others : (at : ℕ) → (turn.place ≡ at → ⊥) → q.notes at ≡ p.notes at

-- the calls of each domain are counted so
abbrev pub AreAllCounted : Point → Type 0
AreAllCounted p = (at : ℕ) (k : Course) → slice_get p.courses at ≡ Some k → CallsAreCounted p.script p.happened k

-- the runs of a context, with the notes of precedences
abbrev pub ordered_ways : SearchContext → List (Option CallOrder) → Ways SearchState
ordered_ways scene orders = record {
  Point = OrderedPoint;
  domains = length scene.roster.domains.items;
  begins = BeginsOrdered scene orders;
  next = ComesOrdered orders;
  ends = λ p. AllCoursesEnd p.run.courses;
  printed = λ p at. bytes_of_notes (p.notes at);
  shows = λ w p. (scene_ways scene).shows w p.run × AreCallOrders p.run.script orders × AreAllCounted p.run;
  blank = λ p begins at. ap bytes_of_notes (begins.2 at);
}

-- results of moves

-- a move prints these notes
abbrev pub NotesPrinted : TurnResult → List ℕ → Type 0
NotesPrinted Nowhere bytes = ⊥
NotesPrinted On bytes = bytes ≡ []
NotesPrinted (Answered line) bytes = line.items ≡ bytes

-- the second result is that of the same move, with these marks, and letters in place of its line
abbrev pub IsNoted : List ℕ → TurnResult → TurnResult → Type 0
IsNoted marks Nowhere made = made ≡ Nowhere
IsNoted marks On made = NotesPrinted made marks
IsNoted marks (Answered line) made = NotesPrinted made (marks ++ bytes_of_letters line.items)
