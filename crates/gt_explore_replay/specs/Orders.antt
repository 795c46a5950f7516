-- The texts that a script for `run` may give.
use Rattle.std.specs.Prelude.{◌≡◌, ◌≢◌, ◌<◌, ◌++◌, ◌==◌, not, ℕ, List, [], ◌∷◌, map, filter, All, Option, Some, None}
use Rattle.std.specs.Prelude.{slice_get}
use Rattle.gt_explore_replay.specs.Prelude.{domain_of, DomId, DomainConfig, Handle, Request, Unmap, Release, Legal, actor_of}
use Rattle.gt_explore_replay.specs.Prelude.{Answer, Done, Mapped, Element, Event, Begin, Tick, type_names, RunContents}
use Rattle.gt_explore_replay.specs.Prelude.{list_of, RunAction}
use Rattle.gt_explore_replay.specs.Prelude.{Do, Tell, Await, RunTask, setting_of_script, answer_line, Named}
use Rattle.gt_explore_replay.specs.Prelude.{MakesRequest, EndsWith}
use Rattle.gt_explore_replay.specs.Prelude.{handle_given, label_given, with_name}

-- orders

-- one thing that happens in a run: an event of the core, and what it did; a domain raises a flag; or a domain that
-- awaits a flag passes it
pub data Happening : Type 0 where
  did : Event → Element → Happening
  raised : DomId → ℕ → Happening
  passed : DomId → ℕ → Happening

-- the domain that does it
abbrev pub doer : Happening → DomId
doer (did e x) = actor_of e
doer (raised d flag) = d
doer (passed d flag) = d

-- what one domain does, in its order
abbrev pub own_happenings : DomId → List Happening → List Happening
own_happenings dom hs = filter (λ x. (doer x).0 == dom.0) hs

-- the events of an order, as the core gets them
abbrev pub events_in : List Happening → List Event
events_in [] = []
events_in (did e x ∷ hs) = e ∷ events_in hs
events_in (raised d flag ∷ hs) = events_in hs
events_in (passed d flag ∷ hs) = events_in hs

-- what each of them did
abbrev pub trace_in : List Happening → List Element
trace_in [] = []
trace_in (did e x ∷ hs) = x ∷ trace_in hs
trace_in (raised d flag ∷ hs) = trace_in hs
trace_in (passed d flag ∷ hs) = trace_in hs

-- some domain raises this flag at an earlier index
abbrev pub IsRaisedBefore : ℕ → ℕ → List Happening → Type 0
IsRaisedBefore place flag hs = (at : ℕ) × (d : DomId) × (at < place) × (slice_get hs at ≡ Some (raised d flag))

-- a domain passes a flag only after some domain has raised it
abbrev pub FlagsAreRaised : List Happening → Type 0
FlagsAreRaised hs = (at : ℕ) (d : DomId) (flag : ℕ) → slice_get hs at ≡ Some (passed d flag)
    → IsRaisedBefore at flag hs

-- what one domain does

-- the ticks of a domain with this trace
abbrev pub ticks_of : DomId → List Element → List Happening
ticks_of dom trace = map (λ x. did (Tick dom) x) trace

-- an open call continues to its answer, by ticks of its domain, and then the rest follows
abbrev pub CallGoesOn : DomId → (Answer → List Happening → Type 0) → List Happening → Type 0
CallGoesOn dom After hs =
    (trace : List Element) × (answer : Answer) × (more : List Happening)
    × (hs ≡ ticks_of dom trace ++ more) × EndsWith trace answer × After answer more

-- a domain makes this call, from its beginning to its answer, and then the rest follows
abbrev pub CallHappens : DomId → Request → (Answer → List Happening → Type 0) → List Happening → Type 0
CallHappens dom request After hs =
    (first : Element) × (trace : List Element) × (answer : Answer) × (more : List Happening)
    × (hs ≡ did (Begin dom request) first ∷ (ticks_of dom trace ++ more))
    × EndsWith (first ∷ trace) answer × After answer more

-- the handle of the mapping that a request drops, if it is answered Ok
abbrev pub given_up : Request → Option Handle
given_up (Unmap handle) = Some handle
given_up (Release handle) = Some handle
given_up request = None

-- all handles except the one with the serial of this one
abbrev pub handles_without : Handle → List Handle → List Handle
handles_without handle held = filter (λ h. not (h.serial == handle.serial)) held

-- the handles of a domain after this answer: a map answered Ok gives it a handle, and a call that drops a mapping takes
-- one if it is answered Ok
abbrev pub held_after : List Handle → Option Handle → Answer → List Handle
held_after held (Some handle) Done = handles_without handle held
held_after held lost (Mapped handle) = held ++ handle ∷ []
held_after held lost answer = held

-- A domain at the end of its list releases all its mappings, in this order. (The running monitor does this when the
-- domain leaves.) A release asks no policy.
abbrev pub GivesMappingsBack : DomId → List Handle → List Handle → List Happening → Type 0
GivesMappingsBack dom [] held hs = (held ≡ []) × (hs ≡ [])
GivesMappingsBack dom (handle ∷ order) held hs =
    (before : List Handle) × (after : List Handle) × (held ≡ before ++ handle ∷ after)
    × CallHappens dom (Release handle) (λ answer more. GivesMappingsBack dom order (before ++ after) more) hs

-- after a call of this line the text continues with its answer
abbrev pub Prints : List ℕ → (List ℕ → Type 0) → List ℕ → Type 0
Prints line Rest text = (rest : List ℕ) × (text ≡ line ++ rest) × Rest rest

-- a domain takes the action of a line, and the rest follows with what its labels then name, the handles that it then
-- has, and what it prints after that
abbrev pub ActionHappens : List (List ℕ) → DomId → List Named → List Handle → ℕ → RunAction
    → (List Named → List Handle → List Happening → List ℕ → Type 0) → List Happening → List ℕ → Type 0
ActionHappens types dom named held line (Tell flag) Next hs text =
    (more : List Happening) × (hs ≡ raised dom flag ∷ more) × Next named held more text
ActionHappens types dom named held line (Await flag) Next hs text =
    (more : List Happening) × (hs ≡ passed dom flag ∷ more) × Next named held more text
ActionHappens types dom named held line (Do call) Next hs text =
    (request : Request) × MakesRequest named dom call request
    × CallHappens dom request (λ answer more.
    Prints (answer_line types line dom answer)
    (Next (with_name named dom (label_given call) (handle_given answer)) (held_after held (given_up request) answer) more)
    text) hs

-- a domain serves its list, line by line, and then releases all its mappings; this is what it prints
abbrev pub FollowsList : List (List ℕ) → DomId → List Named → List Handle → List RunTask → List Happening → List ℕ → Type 0
FollowsList types dom named held [] hs text = (order : List Handle) × GivesMappingsBack dom order held hs × (text ≡ [])
FollowsList types dom named held (t ∷ ts) hs text =
    ActionHappens types dom named held t.line t.run_action
    (λ names holds more rest. FollowsList types dom names holds ts more rest) hs text

-- scripts

-- each of the domains follows its list, and prints its part of the text, in their order
abbrev pub AllFollow : RunContents → List Happening → List DomainConfig → List ℕ → Type 0
AllFollow c hs [] text = text ≡ []
AllFollow c hs (d ∷ ds) text =
    (part : List ℕ) × Prints part (AllFollow c hs ds) text
    × FollowsList (type_names c.head) d.id [] [] (list_of c.tasks d.id) (own_happenings d.id hs) part

-- one order of a script's run, and its text: what the core did is a legal trace, each domain follows its list, no other
-- domain does anything, and no flag is passed that was not raised before
pub record IsOrderOf (c : RunContents) (hs : List Happening) (text : List ℕ) : Type 0 where
  pub legal : Legal (setting_of_script c.head) (events_in hs) (trace_in hs)
  pub follow : AllFollow c hs c.head.domains text
  pub known : All (λ x. domain_of c.head.domains (doer x) ≢ None) hs
  pub flags : FlagsAreRaised hs

-- the script may give this text: it is the text of some order of its run
abbrev pub MayGive : RunContents → List ℕ → Type 0
MayGive c text = (hs : List Happening) × IsOrderOf c hs text
