-- The turns of an order: whose move is next, and which mapping a domain releases at the end of its list. By its turns
-- the domains of an order move from the first lines of their lists to the ends.
use Rattle.std.specs.Prelude.{◌≡◌, ◌++◌, ℕ, suc, List, [], ◌∷◌, map, take, drop, Option, Some, None, slice_get}
use Rattle.std.specs.Prelude.{slice_set}
use Rattle.std.specs.List.{flat_map}
use Rattle.gt_explore_replay.specs.Prelude.{DomId, Handle, Request, Release, Answer, Element, Begin, Tick}
use Rattle.gt_explore_replay.specs.Prelude.{type_names, RunContents, list_of, RunAction, Do, Tell, Await, RunTask, answer_line, Named}
use Rattle.gt_explore_replay.specs.Prelude.{MakesRequest, handle_given, label_given, with_name, ScriptCall, answer_in}
use Rattle.gt_explore_search.specs.declared.spaces.Turn.{Turn}
use Rattle.gt_explore_replay.specs.Orders.{Happening, did, raised, passed, given_up, held_after, IsOrderOf}

-- what a domain has open on its course: nothing; the call of a line, which drops the mapping of this handle if it is
-- answered Ok; or the release of a mapping at the end of its list
pub data Opened : Type 0 where
  resting : Opened
  calling : ℕ → ScriptCall → Option Handle → Opened
  giving : Opened

-- the point of a domain on its course: the tasks that it has still to begin, what it has open, what its labels name,
-- its handles, and what it has printed
pub record Course : Type 0 where
  pub dom : DomId
  pub tasks : List RunTask
  pub opened : Opened
  pub named : List Named
  pub held : List Handle
  pub text : List ℕ

-- the course after this answer of the call of a line
abbrev pub course_answered : List (List ℕ) → ℕ → ScriptCall → Option Handle → Course → Answer → Course
course_answered types line call lost k answer =
    record {
      dom = k.dom;
      tasks = k.tasks;
      opened = resting;
      named = with_name k.named k.dom (label_given call) (handle_given answer);
      held = held_after k.held lost answer;
      text = k.text ++ answer_line types line k.dom answer;
    }

-- the course after the call of a line began or continued: with this answer, or it is open
abbrev pub course_after : List (List ℕ) → ℕ → ScriptCall → Option Handle → Course → Option Answer → Course
course_after types line call lost k None = record k { opened = calling line call lost }
course_after types line call lost k (Some answer) = course_answered types line call lost k answer

-- the course after a release at the end of the list began or continued: with this answer, or it is open
abbrev pub back_after : Course → Option Answer → Course
back_after k None = record k { opened = giving }
back_after k (Some answer) = record k { opened = resting }

-- by this happening a domain takes the action of its next line, and these tasks are left
abbrev pub ActionLeads : List (List ℕ) → Course → ℕ → List RunTask → RunAction → Happening → Course → Type 0
ActionLeads types k line left (Tell flag) x j = (x ≡ raised k.dom flag) × (j ≡ record k { tasks = left })
ActionLeads types k line left (Await flag) x j = (x ≡ passed k.dom flag) × (j ≡ record k { tasks = left })
ActionLeads types k line left (Do call) x j =
    (request : Request) × (e : Element) × MakesRequest k.named k.dom call request
    × (x ≡ did (Begin k.dom request) e)
    × (j ≡ course_after types line call (given_up request) (record k { tasks = left }) (answer_in e))

-- by this happening a domain at the end of its list begins to release its mapping at this index
abbrev pub GivesAt : Course → ℕ → Happening → Course → Type 0
GivesAt k choice x j =
    (handle : Handle) × (e : Element) × (slice_get k.held choice ≡ Some handle)
    × (x ≡ did (Begin k.dom (Release handle)) e)
    × (j ≡ back_after (record k { held = take choice k.held ++ drop (suc choice) k.held }) (answer_in e))

-- by this happening a domain at rest moves
abbrev pub RestLeads : List (List ℕ) → Course → List RunTask → ℕ → Happening → Course → Type 0
RestLeads types k [] choice x j = GivesAt k choice x j
RestLeads types k (t ∷ ts) choice x j = (choice ≡ 0) × ActionLeads types k t.line ts t.run_action x j

-- by this happening a domain with this open moves
abbrev pub OpenLeads : List (List ℕ) → Course → Opened → ℕ → Happening → Course → Type 0
OpenLeads types k resting choice x j = RestLeads types k k.tasks choice x j
OpenLeads types k (calling line call lost) choice x j =
    (choice ≡ 0) × (e : Element) × (x ≡ did (Tick k.dom) e) × (j ≡ course_after types line call lost k (answer_in e))
OpenLeads types k giving choice x j =
    (choice ≡ 0) × (e : Element) × (x ≡ did (Tick k.dom) e) × (j ≡ back_after k (answer_in e))

-- by this happening a domain moves from one point of its course to the next
abbrev pub CourseLeads : List (List ℕ) → Course → ℕ → Happening → Course → Type 0
CourseLeads types k choice x j = OpenLeads types k k.opened choice x j

-- a domain is at its end, with nothing open and no mapping
pub record CourseEnds (k : Course) : Type 0 where
  pub tasks : k.tasks ≡ []
  pub opened : k.opened ≡ resting
  pub held : k.held ≡ []

-- by these turns, one for each happening, the domains move from these points of their courses to those
abbrev pub TurnsLead : List (List ℕ) → List Course → List Happening → List Turn → List Course → Type 0
TurnsLead types ks [] [] ls = ks ≡ ls
TurnsLead types ks (x ∷ hs) (t ∷ ts) ls =
    (k : Course) × (j : Course) × (slice_get ks t.place ≡ Some k) × CourseLeads types k t.choice x j
    × TurnsLead types (slice_set ks t.place j) hs ts ls
TurnsLead types ks [] (t ∷ ts) ls = ⊥
TurnsLead types ks (x ∷ hs) [] ls = ⊥

-- each of them is at its end
abbrev pub AllCoursesEnd : List Course → Type 0
AllCoursesEnd [] = Unit {0}
AllCoursesEnd (k ∷ ks) = CourseEnds k × AllCoursesEnd ks

-- what they have printed, the first domain's lines first
abbrev pub courses_text : List Course → List ℕ
courses_text ks = flat_map (λ k. k.text) ks

-- the domains of a script before the first lines of their lists
abbrev pub first_courses : RunContents → List Course
first_courses c =
    map (λ d. record { dom = d.id; tasks = list_of c.tasks d.id; opened = resting; named = []; held = []; text = [] })
    c.head.domains

-- these are the turns of an order of the script, which gives this text
pub record IsTurnedBy (c : RunContents) (hs : List Happening) (turns : List Turn) (text : List ℕ) : Type 0 where
  pub order : IsOrderOf c hs text
  pub ends : List Course
  pub leads : TurnsLead (type_names c.head) (first_courses c) hs turns ends
  pub over : AllCoursesEnd ends
  pub printed : text ≡ courses_text ends
