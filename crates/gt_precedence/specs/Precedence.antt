-- When the call of one line precedes that of another in an order of a script's run, and the laws on the script that
-- gives exactly such orders.
use Rattle.std.specs.Prelude.{◌≡◌, ◌≢◌, ◌<◌, ◌≤◌, ◌==◌, ◌++◌, ℕ, suc, Bool, true, false, List, [], ◌∷◌, length, filter}
use Rattle.std.specs.Prelude.{take, All, AllPairs, Some, None, Ok, slice_get, if◌then◌else◌}
use Rattle.std.specs.Option.{is_some}
use Rattle.gt_precedence.specs.Prelude.{domain_of, DomId, Request, Answer, Element, Event, Begin, Tick, type_names}
use Rattle.gt_precedence.specs.Prelude.{RunTask, is_call, preceding, preceding_all, RunContents, RunKept, run_contents}
use Rattle.gt_precedence.specs.Prelude.{list_of, ReadsAsRun, AreNumbered, Precedence, Do, ScriptCall, answer_line}
use Rattle.gt_precedence.specs.Prelude.{MakesRequest, Named, answer_in, Happening, did, raised, passed, doer}
use Rattle.gt_precedence.specs.Prelude.{own_happenings, IsOrderOf, MayGive}

-- orders

-- by this a domain begins a call
abbrev pub begins_call : Happening → Bool
begins_call (did (Begin dom request) element) = true
begins_call (did (Tick dom) element) = false
begins_call (raised dom flag) = false
begins_call (passed dom flag) = false

-- by this a call of a domain has its answer
abbrev pub answers_call : Happening → Bool
answers_call (did event element) = is_some (answer_in element)
answers_call (raised dom flag) = false
answers_call (passed dom flag) = false

-- the number of calls that a domain has begun
abbrev pub calls_begun : DomId → List Happening → ℕ
calls_begun dom hs = length (filter begins_call (own_happenings dom hs))

-- the number of its calls that have their answers
abbrev pub calls_answered : DomId → List Happening → ℕ
calls_answered dom hs = length (filter answers_call (own_happenings dom hs))

-- lines

-- the calls among these tasks
abbrev pub calls_of : List RunTask → List RunTask
calls_of tasks = filter (λ t. is_call t.run_action) tasks

-- the number of calls before that of this line
abbrev pub calls_up_to : ℕ → List RunTask → ℕ
calls_up_to line [] = 0
calls_up_to line (t ∷ ts) =
    if is_call t.run_action
    then (if t.line == line then 0 else suc (calls_up_to line ts))
    else calls_up_to line ts

-- the number of calls that the domain of this task makes before it
abbrev pub calls_before : RunContents → RunTask → ℕ
calls_before c t = calls_up_to t.line (list_of c.tasks t.dom)

-- the task is the call of this line
pub record IsCallOfLine (c : RunContents) (line : ℕ) (t : RunTask) : Type 0 where
  pub place : ℕ
  pub there : slice_get c.tasks place ≡ Some t
  pub number : t.line ≡ line
  pub calls : is_call t.run_action ≡ true

-- precedence

-- At this index of an order the call of this task gets its answer. A domain makes the calls of its list one after the
-- other. So it is the answer before which as many calls of the domain have theirs as come before the task.
pub record CallIsAnsweredAt (c : RunContents) (hs : List Happening) (place : ℕ) (t : RunTask) : Type 0 where
  pub happening : Happening
  pub there : slice_get hs place ≡ Some happening
  pub own : doer happening ≡ t.dom
  pub answers : answers_call happening ≡ true
  pub earlier : calls_answered t.dom (take place hs) ≡ calls_before c t

-- at this index of an order the call of this task begins
pub record CallBeginsAt (c : RunContents) (hs : List Happening) (place : ℕ) (t : RunTask) : Type 0 where
  pub happening : Happening
  pub there : slice_get hs place ≡ Some happening
  pub own : doer happening ≡ t.dom
  pub begins : begins_call happening ≡ true
  pub earlier : calls_begun t.dom (take place hs) ≡ calls_before c t

-- in this order the call of the first line precedes that of the second: it has its answer before the other begins
pub record Precedes (c : RunContents) (lines : Precedence) (hs : List Happening) : Type 0 where
  pub first : RunTask
  pub second : RunTask
  pub first_call : IsCallOfLine c lines.first first
  pub second_call : IsCallOfLine c lines.second second
  pub answered : ℕ
  pub begun : ℕ
  pub answers : CallIsAnsweredAt c hs answered first
  pub begins : CallBeginsAt c hs begun second
  pub earlier : answered < begun

-- no two calls of the script are on the same line, each flag has a number below that of its flags, and each task is
-- one of a domain that it configures
pub record IsOrderly (c : RunContents) : Type 0 where
  pub lines : AllPairs (λ t u. t.line ≢ u.line) (calls_of c.tasks)
  pub numbered : AreNumbered c.flags c.tasks
  pub known : All (λ t. domain_of c.head.domains t.dom ≢ None) c.tasks

-- this line has a call
abbrev pub LineHasCall : RunContents → ℕ → Type 0
LineHasCall c line = (t : RunTask) × IsCallOfLine c line t

-- by this a domain begins a call that asks what the line of this task asks
abbrev pub AsksItsLine : RunTask → Happening → Type 0
AsksItsLine t x =
    (named : List Named) × (call : ScriptCall) × (request : Request) × (element : Element)
    × (t.run_action ≡ Do call) × MakesRequest named t.dom call request
    × (x ≡ did (Begin t.dom request) element)

-- this has an answer, which the text has on the line of this task
abbrev pub IsOnItsLine : List (List ℕ) → RunTask → Happening → List ℕ → Type 0
IsOnItsLine types t x text =
    (event : Event) × (element : Element) × (answer : Answer) × (before : List ℕ) × (after : List ℕ)
    × (x ≡ did event element) × (answer_in element ≡ Some answer)
    × (text ≡ before ++ (answer_line types t.line t.dom answer ++ after))

-- the call of this task begins at one index of an order, and has its answer there or at a later one: it asks what its
-- line asks, and its answer is on its line of the text
pub record CallHasPlaces (c : RunContents) (hs : List Happening) (text : List ℕ) (t : RunTask) : Type 0 where
  pub begun : ℕ
  pub answered : ℕ
  pub begins : CallBeginsAt c hs begun t
  pub answers : CallIsAnsweredAt c hs answered t
  pub in_order : begun ≤ answered
  pub asks : AsksItsLine t begins.happening
  pub shown : IsOnItsLine (type_names c.head) t answers.happening text

-- laws

-- What is found by counting is the call of the line: in each order each call has its two places.
abbrev pub EachCallHasPlaces : Type 0
EachCallHasPlaces =
    (c : RunContents) (hs : List Happening) (text : List ℕ) (line : ℕ) (t : RunTask)
    → IsOrderly c → IsOrderOf c hs text → IsCallOfLine c line t → CallHasPlaces c hs text t

-- And it has no others.
abbrev pub PlacesAreUnique : Type 0
PlacesAreUnique =
    (c : RunContents) (hs : List Happening) (t : RunTask) (one other : ℕ)
    → (CallBeginsAt c hs one t → CallBeginsAt c hs other t → one ≡ other)
    × (CallIsAnsweredAt c hs one t → CallIsAnsweredAt c hs other t → one ≡ other)

-- the script may give this text in an order with each of these precedences
abbrev pub MayGiveWithAll : RunContents → List Precedence → List ℕ → Type 0
MayGiveWithAll c all text = (hs : List Happening) × IsOrderOf c hs text × All (λ lines. Precedes c lines hs) all

-- Each text of the script with the flag of a precedence is one of an order in which that holds. So the flag lets no
-- other order through.
abbrev pub PrecedenceIsSound : Type 0
PrecedenceIsSound =
    (c : RunContents) (lines : Precedence) (text : List ℕ)
    → IsOrderly c → LineHasCall c lines.second → MayGive (preceding lines c) text
    → (hs : List Happening) × IsOrderOf c hs text × Precedes c lines hs

-- Each text of such an order is one of the script with the flag. So the flag shuts none of them out, and no domain
-- waits for it in vain.
abbrev pub PrecedenceIsComplete : Type 0
PrecedenceIsComplete =
    (c : RunContents) (lines : Precedence) (text : List ℕ) (hs : List Happening)
    → IsOrderly c → IsOrderOf c hs text → Precedes c lines hs → MayGive (preceding lines c) text

-- the same of several precedences: each text of the script with their flags is one of an order in which all of them
-- hold
abbrev pub PrecedencesAreSound : Type 0
PrecedencesAreSound =
    (c : RunContents) (all : List Precedence) (text : List ℕ)
    → IsOrderly c → All (λ lines. LineHasCall c lines.second) all → MayGive (preceding_all all c) text
    → MayGiveWithAll c all text

-- and each text of such an order is one of that script
abbrev pub PrecedencesAreComplete : Type 0
PrecedencesAreComplete =
    (c : RunContents) (all : List Precedence) (text : List ℕ)
    → IsOrderly c → MayGiveWithAll c all text → MayGive (preceding_all all c) text

-- each script for `run` that bytes mean is orderly
abbrev pub ParsedScriptsAreOrderly : Type 0
ParsedScriptsAreOrderly =
    (bytes : List ℕ) (s : RunKept) → ReadsAsRun bytes (Ok (run_contents s)) → IsOrderly (run_contents s)
