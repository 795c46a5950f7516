-- The point of a domain on its list, and the result of its moves.
use Rattle.std.specs.Prelude.{◌≡◌, ◌≢◌, ◌++◌, ◌≤◌, ℕ, true, false, List, [], ◌∷◌, length, drop, map, All, AllPairs}
use Rattle.std.specs.Prelude.{Option, Some, None, slice_get, get_or}
use Rattle.std.specs.Option.{option_map}
use Rattle.gt_explore_replay.specs.Prelude.{domain_of, DomainConfig, Handle, History, Setting, Legal, MayDo, grown}
use Rattle.gt_explore_replay.specs.Prelude.{history_after, CoreStands, setting_in, CoreState, Answer, Element, Event}
use Rattle.gt_explore_replay.specs.Prelude.{ScriptCall, type_names, RunContents, list_of, RunTask, AreNamed}
use Rattle.gt_explore_replay.specs.Prelude.{setting_of_script, answer_line, may_by, Named, handle_given, label_given}
use Rattle.gt_explore_replay.specs.Prelude.{with_name, Replay, OpenTask, Nothing, Line, GivesBack, Walker, Begin}
use Rattle.gt_explore_replay.specs.Prelude.{DomId, Moved, Request, Tick}
use Rattle.gt_model.specs.declared.trace.Element.TheVariants as elements
use Rattle.gt_model.specs.declared.trace.ItemEvent.TheVariants as item_events
use Rattle.gt_explore_replay.specs.declared.replay.Moved.TheVariants.{Began, Passed, Raised, Stepped}
use Rattle.gt_explore_replay.specs.Orders.{Happening, did, doer, own_happenings, events_in, trace_in, IsRaisedBefore}
use Rattle.gt_explore_replay.specs.Orders.{passed, raised, FlagsAreRaised, CallGoesOn, Prints, FollowsList}
use Rattle.gt_explore_replay.specs.Orders.{held_after}

-- a domain's list
abbrev pub tasks_left_of : Walker → List RunTask
tasks_left_of w = map (λ t. t.now) w.tasks.items

-- the tasks that it has still to begin
abbrev pub tasks_left : Walker → List RunTask
tasks_left w = drop w.next (tasks_left_of w)

-- what a domain does from here on, and what it then prints, if it has this open and its labels name these handles
unfoldable pub Continues : List (List ℕ) → Walker → List Named → OpenTask → List Happening → List ℕ → Type 0
Continues types w named Nothing hs text = FollowsList types w.dom named w.held.items (tasks_left w) hs text
Continues types w named (Line line call lost) hs text =
    CallGoesOn w.dom (λ answer more.
    Prints (answer_line types line w.dom answer)
    (FollowsList types w.dom (with_name named w.dom (label_given call.now) (handle_given answer))
    (held_after w.held.items lost answer) (tasks_left w) more)
    text) hs
Continues types w named GivesBack hs text =
    CallGoesOn w.dom (λ answer more. FollowsList types w.dom named w.held.items (tasks_left w) more text) hs

-- by this happening a domain moves from one point of its list to another: what it does from there on, with this before
-- it, is what it does from here on, and it has printed what comes between
pub record Moves (types : List (List ℕ)) (v : Walker) (x : Happening) (w : Walker) : Type 0 where
  pub own_move : doer x ≡ v.dom
  pub dom : w.dom ≡ v.dom
  pub leads : (named : List Named) → AreNamed v.labels named → (names : List Named) × AreNamed w.labels names
      × ((more : List Happening) (rest : List ℕ) → Continues types w names w.doing more rest
      → (before : List ℕ) × Continues types v named v.doing (x ∷ more) before
      × (v.text.items ++ before ≡ w.text.items ++ rest))

-- the move shows this happening: a flag that was raised or passed, the beginning of a call, or its step, with what the
-- step saw; and the answer of the call, if it has one
abbrev pub IsShownBy : Moved → Happening → Type 0
IsShownBy Raised x = (dom : DomId) × (flag : ℕ) × (x ≡ raised dom flag)
IsShownBy Passed x = (dom : DomId) × (flag : ℕ) × (x ≡ passed dom flag)
IsShownBy (Began answer) x = (dom : DomId) × (request : Request)
    × (x ≡ did (Begin dom request)
    (elements.Item (record { actor = dom; happened = item_events.Began request; answer = answer })))
IsShownBy (Stepped step seen answer) x = (dom : DomId)
    × (x ≡ did (Tick dom)
    (elements.Item (record { actor = dom; happened = item_events.Stepped step seen; answer = answer })))

-- an event of the core did what it may, as this move shows, the core's state represents the history with it, and by it
-- the domain moved
abbrev pub WalksTo : Setting → List (List ℕ) → CoreState → Walker → Moved → CoreState → Walker → Type 0
WalksTo s types old v moved new w = (h : History) → CoreStands s h old
    → (e : Event) × (x : Element) × MayDo s h e x × CoreStands s (grown h x) new × IsShownBy moved (did e x)
    × Moves types v (did e x) w

-- the call of a line has its answer, which is printed, and its label and the handles follow it
pub record AnswersLine (types : List (List ℕ)) (line : ℕ) (call : ScriptCall) (lost : Option Handle) (answer : Answer)
    (v w : Walker) : Type 0 where
  pub named : (named : List Named) → AreNamed v.labels named
      → AreNamed w.labels (with_name named v.dom (label_given call) (handle_given answer))
  pub dom : w.dom ≡ v.dom
  pub tasks : w.tasks.items ≡ v.tasks.items
  pub next : w.next ≡ v.next
  pub doing : w.doing ≡ Nothing
  pub held : w.held.items ≡ held_after v.held.items lost answer
  pub text : w.text.items ≡ v.text.items ++ answer_line types line v.dom answer

-- the open task of a domain has this answer
unfoldable pub IsClosedFrom : List (List ℕ) → OpenTask → Answer → Walker → Walker → Type 0
IsClosedFrom types Nothing answer v w = ⊥
IsClosedFrom types (Line line call lost) answer v w = AnswersLine types line call.now lost answer v w
IsClosedFrom types GivesBack answer v w = w ≡ record v { doing = Nothing }

abbrev pub ClosesCall : List (List ℕ) → Answer → Walker → Walker → Type 0
ClosesCall types answer v w = IsClosedFrom types v.doing answer v w

-- a domain is before the first line of its list
pub record StartsWalk (tasks : List RunTask) (w : Walker) : Type 0 where
  pub list : tasks_left_of w ≡ list_of tasks w.dom
  pub next : w.next ≡ 0
  pub doing : w.doing ≡ Nothing
  pub labels : AreNamed w.labels []
  pub held : w.held.items ≡ []
  pub text : w.text.items ≡ []

-- a domain is at the end of its list, with nothing open and no mapping
pub record IsAtEnd (w : Walker) : Type 0 where
  pub left : length (tasks_left_of w) ≤ w.next
  pub doing : w.doing ≡ Nothing
  pub held : w.held.items ≡ []

-- no two of the domains have the same number
abbrev pub HaveOwnIds : List DomainConfig → Type 0
HaveOwnIds domains = AllPairs (λ d e. d.id.0 ≢ e.id.0) domains

-- a domain is at this point: what it did so far, and what it does from here on, follow its list
abbrev pub HasFollowed : RunContents → List Happening → Walker → Type 0
HasFollowed c hs w = (named : List Named) × AreNamed w.labels named
    × ((more : List Happening) (rest : List ℕ) → Continues (type_names c.head) w named w.doing more rest
    → FollowsList (type_names c.head) w.dom [] [] (list_of c.tasks w.dom)
    (own_happenings w.dom hs ++ more) (w.text.items ++ rest))

-- the run has reached this point by this history
pub record HasWalked (c : RunContents) (hs : List Happening) (r : Replay) : Type 0 where
  pub setting : setting_in may_by r.core ≡ setting_of_script c.head
  pub types : r.types.items ≡ type_names c.head
  pub legal : Legal (setting_of_script c.head) (events_in hs) (trace_in hs)
  pub stands : CoreStands (setting_of_script c.head) (history_after [] (trace_in hs)) r.core.state
  pub known : All (λ x. domain_of c.head.domains (doer x) ≢ None) hs
  pub flags : FlagsAreRaised hs
  pub told : (flag : ℕ) → get_or r.told.items flag false ≡ true → IsRaisedBefore (length hs) flag hs
  pub domains : map (λ w. w.dom) r.walkers.items ≡ map (λ d. d.id) c.head.domains
  pub apart : HaveOwnIds c.head.domains
  pub followed : (at : ℕ) (w : Walker) → slice_get r.walkers.items at ≡ Some w → HasFollowed c hs w

-- one more thing has happened, by the domain at this position, and this move shows it
pub record ComesOn (c : RunContents) (hs : List Happening) (place : ℕ) (moved : Moved) (r : Replay) : Type 0 where
  pub happened : Happening
  pub shown : IsShownBy moved happened
  pub own_move : option_map (λ d. d.id) (slice_get c.head.domains place) ≡ Some (doer happened)
  pub walked : HasWalked c (hs ++ happened ∷ []) r
