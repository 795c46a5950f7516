-- What a run of a script does and prints.
use Rattle.std.specs.Prelude.{◌≡◌, ◌≤◌, ℕ, ◌+◌, ◌-◌, ◌^◌, ◌==◌, ◌&&◌, List, [], ◌∷◌, ◌++◌, length, replicate, Option}
use Rattle.std.specs.Prelude.{Some, None, unwrap_or, is_some, if◌then◌else◌}
use Rattle.gt_script_runs.specs.Prelude.{Bor, bytes_eq, DomId, GrantRef, DomainConfig, hex_bytes, ScriptCall}
use Rattle.gt_script_runs.specs.Prelude.{ScriptAction, ScriptStep, Handle, Request, Answer, Mapped, Event, Begin}
use Rattle.gt_script_runs.specs.Prelude.{Tick, Item, Element, History, Setting, open_call, history_after, shown_at}
use Rattle.gt_script_lines.specs.declared.calls.ScriptCall.TheVariants as script_calls
use Rattle.gt_script.specs.declared.actions.ScriptAction.TheVariants as script_actions
use Rattle.gt_model.specs.declared.request.Request.TheVariants as requests
use Rattle.gt_model.specs.declared.trace.Element.TheVariants as elements
use Rattle.gt_script_runs.specs.Printing.{answer_line, busy_line, idle_line, open_line}
use Rattle.gt_script_runs.specs.Showing.{show_line}

-- labels

-- a label of a domain, and the handle that a map of that label returned
pub record Named : Type 0 where
  pub dom : DomId
  pub label : List ℕ
  pub handle : Handle

-- the handle of a domain's label: that of its last map that was answered Ok, which is first in the list
abbrev pub handle_labelled : List Named → ℕ → List ℕ → Option Handle
handle_labelled [] dom label = None
handle_labelled (n ∷ more) dom label =
    if (n.dom.0 == dom) && bytes_eq n.label label then Some n.handle else handle_labelled more dom label

-- the handle that no map returns
abbrev pub never_given : Handle
never_given = record { serial = 2 ^ 64 - 1; key = 0 }

-- the handle of a label; if it has none, the one that no map returns
abbrev pub handle_of : List Named → DomId → List ℕ → Handle
handle_of named dom label = unwrap_or (handle_labelled named dom.0 label) never_given

-- calls

-- the hexadecimal text of a call: that of an entry, or of the bytes that it writes
abbrev pub hex_of_call : ScriptCall → Option (List ℕ)
hex_of_call (script_calls.Grant gref entry) = None
hex_of_call (script_calls.GrantBytes gref hex) = Some hex
hex_of_call (script_calls.Revoke gref) = None
hex_of_call (script_calls.Withdraw gref) = None
hex_of_call (script_calls.Demote gref) = None
hex_of_call (script_calls.Promote gref) = None
hex_of_call (script_calls.Map label to gref flags) = None
hex_of_call (script_calls.Unmap label) = None
hex_of_call (script_calls.Load label off len) = None
hex_of_call (script_calls.Store label off hex) = Some hex
hex_of_call (script_calls.Peek frame off len) = None
hex_of_call (script_calls.Poke frame off hex) = Some hex
hex_of_call (script_calls.Copy c) = None
hex_of_call (script_calls.SetVersion version) = None
hex_of_call (script_calls.SetupTable frames) = None
hex_of_call (script_calls.QuerySize to) = None
hex_of_call (script_calls.GetVersion to) = None

-- the bytes of such a text, none if there is none
abbrev pub bytes_or_none : Option (List ℕ) → List ℕ
bytes_or_none None = []
bytes_or_none (Some hex) = hex_bytes hex

-- the bytes of a call of a script
abbrev pub call_bytes : ScriptCall → List ℕ
call_bytes call = bytes_or_none (hex_of_call call)

-- the request of a call of a script, if its labels have these handles and these are its bytes
unfoldable pub request_of : List Named → DomId → Bor (List ℕ) → ScriptCall → Request
request_of named dom bytes (script_calls.Grant gref entry) = requests.Grant gref entry
request_of named dom bytes (script_calls.GrantBytes gref hex) = requests.GrantBytes gref bytes
request_of named dom bytes (script_calls.Revoke gref) = requests.Revoke gref
request_of named dom bytes (script_calls.Withdraw gref) = requests.Withdraw gref
request_of named dom bytes (script_calls.Demote gref) = requests.Demote gref
request_of named dom bytes (script_calls.Promote gref) = requests.Promote gref
request_of named dom bytes (script_calls.Map label to gref flags) = requests.Map to gref flags
request_of named dom bytes (script_calls.Unmap label) = requests.Unmap (handle_of named dom label)
request_of named dom bytes (script_calls.Load label off len) = requests.Load (handle_of named dom label) off len
request_of named dom bytes (script_calls.Store label off hex) = requests.Store (handle_of named dom label) off bytes
request_of named dom bytes (script_calls.Peek frame off len) = requests.Peek frame off len
request_of named dom bytes (script_calls.Poke frame off hex) = requests.Poke frame off bytes
request_of named dom bytes (script_calls.Copy c) = requests.Copy c
request_of named dom bytes (script_calls.SetVersion version) = requests.SetVersion version
request_of named dom bytes (script_calls.SetupTable frames) = requests.SetupTable frames
request_of named dom bytes (script_calls.QuerySize to) = requests.QuerySize to
request_of named dom bytes (script_calls.GetVersion to) = requests.GetVersion to

-- this is the request of a call of a script, if its labels have these handles
abbrev pub MakesRequest : List Named → DomId → ScriptCall → Request → Type 0
MakesRequest named dom call request =
    (bytes : Bor (List ℕ)) × (bytes.now ≡ call_bytes call) × (request ≡ request_of named dom bytes call)

-- the label to which a call gives its handle: that of a map
abbrev pub label_given : ScriptCall → Option (List ℕ)
label_given (script_calls.Grant gref entry) = None
label_given (script_calls.GrantBytes gref hex) = None
label_given (script_calls.Revoke gref) = None
label_given (script_calls.Withdraw gref) = None
label_given (script_calls.Demote gref) = None
label_given (script_calls.Promote gref) = None
label_given (script_calls.Map label to gref flags) = Some label
label_given (script_calls.Unmap label) = None
label_given (script_calls.Load label off len) = None
label_given (script_calls.Store label off hex) = None
label_given (script_calls.Peek frame off len) = None
label_given (script_calls.Poke frame off hex) = None
label_given (script_calls.Copy c) = None
label_given (script_calls.SetVersion version) = None
label_given (script_calls.SetupTable frames) = None
label_given (script_calls.QuerySize to) = None
label_given (script_calls.GetVersion to) = None

-- the label to which the call of a line gives its handle
abbrev pub label_said : ScriptAction → Option (List ℕ)
label_said (script_actions.Do call) = label_given call
label_said (script_actions.Begin call) = label_given call
label_said (script_actions.Tick most) = None
label_said (script_actions.Show gref) = None

-- the handle that an answer returns: that of a map answered Ok
abbrev pub handle_given : Answer → Option Handle
handle_given (Mapped handle) = Some handle
handle_given answer = None

-- the labels with one more, if there is one and a handle for it
abbrev pub with_name : List Named → DomId → Option (List ℕ) → Option Handle → List Named
with_name named dom (Some label) (Some handle) = record { dom = dom; label = label; handle = handle } ∷ named
with_name named dom (Some label) None = named
with_name named dom None given = named

-- the labels after the domain's call of this line has its answer: a
-- map answered Ok gives its handle to its label
abbrev pub named_after : List Named → DomId → ScriptStep → Answer → List Named
named_after named dom s answer = with_name named dom (label_said s.action) (handle_given answer)

-- answers

-- the answer that an element of a trace carries
abbrev pub answer_in : Element → Option Answer
answer_in (elements.Item item) = item.answer
answer_in elements.Busy = None
answer_in elements.Idle = None
answer_in elements.NoDomain = None

-- elements of a trace without an answer
abbrev pub AnswerNothing : List Element → Type 0
AnswerNothing [] = Unit {0}
AnswerNothing (element ∷ more) = (answer_in element ≡ None) × AnswerNothing more

-- the last of the elements has the answer, and no earlier one has any
pub record EndsWith (trace : List Element) (answer : Answer) : Type 0 where
  pub before : List Element
  pub last : Element
  pub order : trace ≡ before ++ last ∷ []
  pub quiet : AnswerNothing before
  pub answers : answer_in last ≡ Some answer

-- What comes of a call, by the elements of its beginning and its ticks: it begins, and continues up to its
-- answer; one that its domain can't begin, since another is open, has no tick and no answer.
abbrev pub EndsAsCall : List Element → Option Answer → Type 0
EndsAsCall trace (Some answer) =
    (first : Item) × (more : List Element) × (trace ≡ elements.Item first ∷ more) × EndsWith trace answer
EndsAsCall trace None = trace ≡ elements.Busy ∷ []

-- the outcome of at most `most` ticks of a domain: the last one answers its call, or all `most` are made without an
-- answer
abbrev pub TicksComeTo : ℕ → List Element → Option Answer → Type 0
TicksComeTo most trace (Some answer) = EndsWith trace answer × (length trace ≤ most)
TicksComeTo most trace None = AnswerNothing trace × (length trace ≡ most)

-- the events of a call: its beginning, and ticks
abbrev pub call_events : DomId → Request → ℕ → List Event
call_events dom request ticks = Begin dom request ∷ replicate ticks (Tick dom)

-- runs

-- the progress of a run: the events so far, what each of them did, the handles of labels,
-- the lines whose calls the domains have open, and the text
pub record Progress : Type 0 where
  pub events : List Event
  pub trace : List Element
  pub named : List Named
  pub open_steps : ℕ → Option ScriptStep
  pub text : List ℕ

-- before the first line: nothing has happened, no label has a
-- handle, no call is open, and nothing is printed
abbrev pub at_start : Progress
at_start = record { events = []; trace = []; named = []; open_steps = λ dom. None; text = [] }

-- the history so far
abbrev pub history_of : Progress → History
history_of p = history_after [] p.trace

-- the progress after more events, and what each of them did
abbrev pub with_events : Progress → List Event → List Element → Progress
with_events p events trace = record p { events = p.events ++ events; trace = p.trace ++ trace }

-- the progress after one more line
abbrev pub with_line : Progress → List ℕ → Progress
with_line p line = record p { text = p.text ++ line }

-- the progress with the call of this line as the domain's open call, or none
abbrev pub with_step_of : Progress → DomId → Option ScriptStep → Progress
with_step_of p dom step = record p { open_steps = λ d. if d == dom.0 then step else p.open_steps d }

-- the progress after the domain's call of this line has its answer
abbrev pub answered : List (List ℕ) → Progress → DomId → ScriptStep → Answer → Progress
answered types p dom s answer =
    record p { named = named_after p.named dom s answer; text = p.text ++ answer_line types s.line dom answer }

-- the progress after a call with this answer, or after one that its domain can't begin
abbrev pub progress_after : List (List ℕ) → Progress → ScriptStep → Option Answer → Progress
progress_after types p s (Some answer) = answered types p s.dom s answer
progress_after types p s None = with_line p (busy_line s.line s.dom)

-- the progress after a call began, and was not answered or answered at once
abbrev pub after_item : List (List ℕ) → Progress → ScriptStep → Option Answer → Progress
after_item types p s None = with_step_of p s.dom (Some s)
after_item types p s (Some answer) = answered types p s.dom s answer

-- the progress after the beginning of a call did this; a domain of the run is not idle then
abbrev pub progress_begun : List (List ℕ) → Progress → ScriptStep → Element → Progress
progress_begun types p s (elements.Item item) = after_item types p s item.answer
progress_begun types p s elements.Busy = with_line p (busy_line s.line s.dom)
progress_begun types p s elements.Idle = p
progress_begun types p s elements.NoDomain = p

-- the progress after ticks of the domain's call, which this line began, with their outcome
abbrev pub after_ticks : List (List ℕ) → Progress → DomId → ScriptStep → Option Answer → Progress
after_ticks types p dom begun (Some answer) = answered types (with_step_of p dom None) dom begun answer
after_ticks types p dom begun None = p

-- the line `do ID CALL`
abbrev pub DoLine : List (List ℕ) → ScriptStep → ScriptCall → Progress → Progress → Type 0
DoLine types s call p q =
    (request : Request) × MakesRequest p.named s.dom call request
    × (ticks : ℕ) × (trace : List Element) × (answer : Option Answer) × (length trace ≡ 1 + ticks)
    × EndsAsCall trace answer
    × (q ≡ progress_after types (with_events p (call_events s.dom request ticks) trace) s answer)

-- the line `begin ID CALL`
abbrev pub BeginLine : List (List ℕ) → ScriptStep → ScriptCall → Progress → Progress → Type 0
BeginLine types s call p q =
    (request : Request) × MakesRequest p.named s.dom call request
    × (x : Element) × (q ≡ progress_begun types (with_events p (Begin s.dom request ∷ []) (x ∷ [])) s x)

-- the line `tick ID N`; if the domain has no call open, it prints idle, and nothing happens
abbrev pub TickLine : List (List ℕ) → ScriptStep → ℕ → Option ScriptStep → Progress → Progress → Type 0
TickLine types s most None p q = (open_call (history_of p) s.dom.0 ≡ None) × (q ≡ with_line p (idle_line s.line s.dom))
TickLine types s most (Some begun) p q =
    (ticks : ℕ) × (trace : List Element) × (answer : Option Answer) × (length trace ≡ ticks)
    × TicksComeTo most trace answer
    × (q ≡ after_ticks types (with_events p (replicate ticks (Tick s.dom)) trace) s.dom begun answer)

-- the line `show ID REF`: the entry after what happened so far
abbrev pub ShowLine : Setting → ScriptStep → GrantRef → Progress → Progress → Type 0
ShowLine t s gref p q = q ≡ with_line p (show_line s.line s.dom gref (shown_at t (history_of p) s.dom gref.0))

-- a line of the body leads from one point of a run to the next
abbrev pub RunsLine : Setting → List (List ℕ) → ScriptStep → ScriptAction → Progress → Progress → Type 0
RunsLine t types s (script_actions.Do call) p q = DoLine types s call p q
RunsLine t types s (script_actions.Begin call) p q = BeginLine types s call p q
RunsLine t types s (script_actions.Tick count) p q = TickLine types s count (p.open_steps s.dom.0) p q
RunsLine t types s (script_actions.Show gref) p q = ShowLine t s gref p q

-- the steps, one after the other, lead from one point of a run to another
abbrev pub PlayLeadsTo : Setting → List (List ℕ) → Progress → List ScriptStep → Progress → Type 0
PlayLeadsTo t types p [] q = p ≡ q
PlayLeadsTo t types p (s ∷ steps) q = (r : Progress) × RunsLine t types s s.action p r × PlayLeadsTo t types r steps q

-- the steps of a script lead here
abbrev pub ScriptLeadsTo : Setting → List (List ℕ) → List ScriptStep → Progress → Type 0
ScriptLeadsTo t types steps p = PlayLeadsTo t types at_start steps p

-- a domain has a line's call open exactly if it has one open by the history
abbrev pub KnowsOpen : Progress → Type 0
KnowsOpen p = (dom : ℕ) → is_some (p.open_steps dom) ≡ is_some (open_call (history_of p) dom)

-- the end

-- the line of a call that is open at the end of the script
abbrev pub open_text : DomId → Option ScriptStep → List ℕ
open_text dom None = []
open_text dom (Some s) = open_line s.line dom

-- the lines of the open calls, in the order of the domains
abbrev pub open_lines : List DomainConfig → (ℕ → Option ScriptStep) → List ℕ
open_lines [] steps = []
open_lines (d ∷ ds) steps = open_text d.id (steps d.id.0) ++ open_lines ds steps
