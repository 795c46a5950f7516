-- The run of a domain's list: a call for each of its lines, one after the other.
use Rattle.std.specs.Prelude.{◌≡◌, ◌⊎◌, ◌++◌, ◌+◌, ◌==◌, ◌^◌, ◌-◌, ℕ, Bool, true, false, List, [], ◌∷◌, length, map}
use Rattle.std.specs.Prelude.{min, take, codes, IsTrue, Option, None, Some, is_some, slice_get}
use Rattle.gt_run.specs.Prelude.{AllZip, flat_map, sum_by, DomId, type_text, line_text, TrailState, Record, asked}
use Rattle.gt_run.specs.Prelude.{Request, Answer, hypercall_of_request, encoded_record, AreNamed, answer_line}
use Rattle.gt_run.specs.Prelude.{call_text, Named, handle_given, label_given, with_name, MakesRequest, Labels}
use Rattle.gt_run.specs.Prelude.{ScriptCall, AllowRelation, subject_of, HasLeft, IsNewDomain, Departed, Domain}
use Rattle.gt_run.specs.Prelude.{Monitor, RunAction, Do, Tell, Await, RunTask, ThreadJob, DomainPart, Passed}
use Rattle.gt_run.specs.Prelude.{TrailLogger}
use Rattle.gt_run.specs.Asking.{Asks, MakesFlagStep, RaisesFlag, Stand}
use Rattle.gt_model.specs.Entries.{IsEntry}
use Rattle.gt_script_lines.specs.declared.calls.ScriptCall.TheVariants as script_calls
use Rattle.gt_live.specs.Parts.{config_of, rights_of, seat_of, trail_of, words_of}

-- calls

-- the outcome of the call of a line: its answer; its record, if that went into the log; and the number of its records
-- that were lost
pub record ListOutcome : Type 0 where
  pub line : ℕ
  pub answer : Answer
  pub recorded : List Record
  pub lost : ℕ

-- the progress of a list: its domain, what the labels name, and the outcomes of its calls so far, in order
pub record ListProgress : Type 0 where
  pub domain : Domain
  pub named : List Named
  pub outcomes : List ListOutcome

-- before its first line no label names a handle, and no call was made
abbrev pub list_start : Domain → ListProgress
list_start d = record { domain = d; named = []; outcomes = [] }

-- the fate of the record that a call makes, if it makes one: it went into the log, or it was lost; without a log
-- neither
abbrev pub Records : Bool → Option Record → List Record → ℕ → Type 0
Records true (Some r) recorded lost = ((recorded ≡ r ∷ []) × (lost ≡ 0)) ⊎ ((recorded ≡ []) × (lost ≡ 1))
Records true None recorded lost = (recorded ≡ []) × (lost ≡ 0)
Records false made recorded lost = (recorded ≡ []) × (lost ≡ 0)

-- the record of a request of this domain with this answer, if such calls are audited
abbrev pub record_made : DomId → Domain → Request → Answer → Option Record
record_made dom d request answer = encoded_record dom (hypercall_of_request (subject_of d) (asked request)) answer

-- the calls of the job are recorded
abbrev pub is_logged : {P : Type 0} → ThreadJob P → Bool
is_logged job = is_some job.log

-- the numbers of the entry that a line grants are in the range of their types
abbrev pub FitsEntry : ScriptCall → Type 0
FitsEntry (script_calls.Grant gref entry) = IsEntry entry
FitsEntry call = Unit {0}

-- The call of a line was made. The domain got the request that the line makes, by what its labels named then, and gave
-- its answer. Its outcome is appended, and a map answered Ok gives its handle to its label.
pub record MakesCall {P : Type 0} (may : P → AllowRelation) (job : ThreadJob P) (line : ℕ) (call : ScriptCall)
    (p q : ListProgress) : Type 0 where
  pub request : Request
  pub answer : Answer
  pub recorded : List Record
  pub lost : ℕ
  pub fits : FitsEntry call
  pub makes : MakesRequest p.named job.part.dom call request
  pub asks : Asks may job.monitor.now p.domain request answer q.domain
  pub records : Records (is_logged job) (record_made job.part.dom p.domain request answer) recorded lost
  pub named : q.named ≡ with_name p.named job.part.dom (label_given call) (handle_given answer)
  pub outcomes : q.outcomes
      ≡ p.outcomes ++ record { line = line; answer = answer; recorded = recorded; lost = lost } ∷ []

-- the effect of a line's action: a call is made, or a flag is raised or passed by a step of the domain
unfoldable pub DoesAction : {P : Type 0} → (P → AllowRelation) → ThreadJob P → ℕ → RunAction → ListProgress → ListProgress → Type 0
DoesAction may job line (Do call) p q = MakesCall may job line call p q
DoesAction may job line (Tell flag) p q =
    (q ≡ record p { domain = q.domain }) × RaisesFlag may job.monitor.now flag p.domain q.domain
DoesAction may job line (Await flag) p q =
    (q ≡ record p { domain = q.domain }) × MakesFlagStep may job.monitor.now flag Passed p.domain q.domain

-- the effect of a line that is the domain's, or is not: another's changes nothing
abbrev pub DoesWhere : {P : Type 0} → Bool → (P → AllowRelation) → ThreadJob P → RunTask → ListProgress → ListProgress → Type 0
DoesWhere true may job task p q = DoesAction may job task.line task.run_action p q
DoesWhere false may job task p q = q ≡ p

-- these lines, one after the other, lead from one point of a list to another
abbrev pub ListLeadsTo : {P : Type 0} → (P → AllowRelation) → ThreadJob P → ListProgress → List RunTask → ListProgress → Type 0
ListLeadsTo may job p [] q = q ≡ p
ListLeadsTo may job p (task ∷ tasks) q =
    (r : ListProgress) × DoesWhere (task.dom.0 == job.part.dom.0) may job task p r × ListLeadsTo may job r tasks q

-- the texts of outcomes

-- the lines of these answers, in order
abbrev pub answer_lines : List (List ℕ) → DomId → List ListOutcome → List ℕ
answer_lines names dom outcomes = flat_map (λ o. answer_line names o.line dom o.answer) outcomes

-- the records of these calls that the log has, in order
abbrev pub logged_records : List ListOutcome → List Record
logged_records outcomes = flat_map (λ o. o.recorded) outcomes

-- the audit lines of these calls, in order
abbrev pub audit_lines : List (List ℕ) → List ListOutcome → List ℕ
audit_lines names outcomes = flat_map (line_text (type_text (λ name. name) names)) (logged_records outcomes)

-- how many records of these calls were lost
abbrev pub lost_in : List ListOutcome → ℕ
lost_in outcomes = sum_by (λ o. o.lost) outcomes

-- a count of 64 bits, which saturates at its largest value
abbrev pub counted : ℕ → ℕ
counted count = min count (2 ^ 64 - 1)

-- lists

-- this is the monitor's domain of that number, which has done nothing
pub record IsFirst {P : Type 0} (may : P → AllowRelation) (m : Monitor P) (dom : DomId) (d : Domain) : Type 0 where
  pub position : ℕ
  pub fresh : IsNewDomain (words_of m) (config_of m) (may (rights_of m)) position d
  pub own : (seat_of d).dom ≡ dom

-- such a domain is on this monitor
abbrev pub IsReady : {P : Type 0} → (P → AllowRelation) → Monitor P → DomId → Stand P → Type 0
IsReady may m dom s = (s.monitor ≡ m) × IsFirst may m dom s.domain

-- the domains are ready for these parts, each for its own
abbrev pub AreReady : {P : Type 0} → (P → AllowRelation) → Monitor P → List (Stand P) → List DomainPart → Type 0
AreReady may m stands parts = AllZip (λ s p. IsReady may m p.dom s) stands parts

-- the gate refuses no flag: it stops no list
abbrev pub RefusesNone : (ℕ → Bool) → Type 0
RefusesNone refuses = (flag : ℕ) → refuses flag ≡ false

-- the line awaits a flag, which the gate may refuse
unfoldable pub AwaitsRefusedFlag : (ℕ → Bool) → RunAction → Type 0
AwaitsRefusedFlag refuses (Do call) = ⊥
AwaitsRefusedFlag refuses (Tell flag) = ⊥
AwaitsRefusedFlag refuses (Await flag) = IsTrue (refuses flag)

-- `LINE ID gate`: the gate answered false at that line
abbrev pub gate_line : ℕ → DomId → List ℕ
gate_line line dom = call_text line dom ++ codes "gate\n"

-- a list stops at this line, which awaits a flag that its gate may refuse, if its gate answers false; this is then its
-- last line
pub record Stops (refuses : ℕ → Bool) (dom : DomId) (tasks : List RunTask) (number : ℕ) (last : List ℕ)
    : Type 0 where
  pub at : RunTask
  pub own : (at.dom.0 == dom.0) ≡ true
  pub stands : slice_get tasks number ≡ Some at
  pub refused : AwaitsRefusedFlag refuses at.run_action
  pub last_is : last ≡ gate_line at.line dom

-- a list ends after this number of lines: they are all, and nothing more is printed; or it stops there
abbrev pub EndsList : (ℕ → Bool) → DomId → List RunTask → ℕ → List ℕ → Type 0
EndsList refuses dom tasks number last =
    ((number ≡ length tasks) × (last ≡ [])) ⊎ Stops refuses dom tasks number last

-- The list of the job was served to its end, from a domain that had done nothing. Its calls had these outcomes. It
-- printed the lines of their answers, and the line of its gate if that ended it. Then the domain left.
pub record IsServed {P : Type 0} (may : P → AllowRelation) (refuses : ℕ → Bool) (job : ThreadJob P)
    (outcomes : List ListOutcome) (text : List ℕ) (departed : Departed) : Type 0 where
  pub domain : Domain
  pub first : IsFirst may job.monitor.now job.part.dom domain
  pub number : ℕ
  pub left : ListProgress
  pub leads : ListLeadsTo may job (list_start domain) (take number job.part.tasks.now) left
  pub came : left.outcomes ≡ outcomes
  pub last : List ℕ
  pub ends : EndsList refuses job.part.dom job.part.tasks.now number last
  pub prints : text ≡ answer_lines job.part.types.now job.part.dom outcomes ++ last
  pub leaves : HasLeft (words_of job.monitor.now).layout left.domain departed

-- some first lines of the job's list were served from a domain that had done nothing, and this is what their calls
-- printed
pub record IsBegun {P : Type 0} (may : P → AllowRelation) (job : ThreadJob P) (text : List ℕ) : Type 0 where
  pub domain : Domain
  pub first : IsFirst may job.monitor.now job.part.dom domain
  pub number : ℕ
  pub left : ListProgress
  pub leads : ListLeadsTo may job (list_start domain) (take number job.part.tasks.now) left
  pub prints : text ≡ answer_lines job.part.types.now job.part.dom left.outcomes

-- what is kept with a list

-- the records that went into the log, or were lost, are those of these calls: each record of the domain's trail was
-- pushed
abbrev pub LogsOutcomes : TrailState → Option TrailLogger → List ListOutcome → Type 0
LogsOutcomes trail None outcomes = (logged_records outcomes ≡ []) × (lost_in outcomes ≡ 0)
LogsOutcomes trail (Some t) outcomes =
    (t.next ≡ length trail.records) × (map (λ e. e.1) t.log.recorded ≡ logged_records outcomes)
    × (counted (trail.lost + t.log.lost) ≡ counted (lost_in outcomes))

-- the domain, its labels and its logger are at this point of the list
pub record IsKeptAt {P : Type 0} (job : ThreadJob P) (p : ListProgress) (d : Domain) (labels : Labels)
    (logger : Option TrailLogger) : Type 0 where
  pub domain : p.domain ≡ d
  pub own : (seat_of d).dom ≡ job.part.dom
  pub names : AreNamed labels p.named
  pub asked : is_some logger ≡ is_logged job
  pub recorded : LogsOutcomes (trail_of d) logger p.outcomes

-- from each point with such a state, the call of this line leads to a next one, and prints this
abbrev pub ServesCall : {P : Type 0} → (P → AllowRelation) → ThreadJob P → ℕ → ScriptCall → Domain → Domain → Labels
    → Labels → Option TrailLogger → Option TrailLogger → List ℕ → Type 0
ServesCall may job line call d e before after t u text =
    (p : ListProgress) → IsKeptAt job p d before t
    → (q : ListProgress) × MakesCall may job line call p q × IsKeptAt job q e after u
    × (answer_lines job.part.types.now job.part.dom q.outcomes
    ≡ answer_lines job.part.types.now job.part.dom p.outcomes ++ text)

-- the domain made the call of a line: it got the request that the line makes, by what the labels named before, gave
-- this answer, and afterwards the labels name what they then should
abbrev pub MakesScriptCall : {P : Type 0} → (P → AllowRelation) → ThreadJob P → ScriptCall → Domain → Domain → Labels → Labels → Answer
    → Type 0
MakesScriptCall may job call d e before after answer =
    FitsEntry call
    × ((named : List Named) → AreNamed before named
    → (request : Request) × MakesRequest named job.part.dom call request × Asks may job.monitor.now d request answer e
    × AreNamed after (with_name named job.part.dom (label_given call) (handle_given answer)))

-- nothing was pushed for the calls of this domain, which has made none
abbrev pub StartsLogged : {P : Type 0} → ThreadJob P → Domain → Option TrailLogger → Type 0
StartsLogged job d logger =
    ((seat_of d).dom ≡ job.part.dom) × (is_some logger ≡ is_logged job) × LogsOutcomes (trail_of d) logger []

-- a list was served to its end, starting at this domain; the logger and the text are those of its calls
pub record ServesAll {P : Type 0} (may : P → AllowRelation) (refuses : ℕ → Bool) (job : ThreadJob P) (d : Domain)
    (text : List ℕ) (e : Domain) (logger : Option TrailLogger) : Type 0 where
  pub left : ListProgress
  pub domain : left.domain ≡ e
  pub number : ℕ
  pub leads : ListLeadsTo may job (list_start d) (take number job.part.tasks.now) left
  pub last : List ℕ
  pub ends : EndsList refuses job.part.dom job.part.tasks.now number last
  pub prints : text ≡ answer_lines job.part.types.now job.part.dom left.outcomes ++ last
  pub asked : is_some logger ≡ is_logged job
  pub recorded : LogsOutcomes (trail_of e) logger left.outcomes

-- some first lines of it were served, and the text is what their calls printed
pub record ServesSome {P : Type 0} (may : P → AllowRelation) (job : ThreadJob P) (d : Domain) (text : List ℕ) : Type 0 where
  pub left : ListProgress
  pub number : ℕ
  pub leads : ListLeadsTo may job (list_start d) (take number job.part.tasks.now) left
  pub prints : text ≡ answer_lines job.part.types.now job.part.dom left.outcomes

-- a list that printed all, or did not, was served
abbrev pub Serves : {P : Type 0} → (P → AllowRelation) → (ℕ → Bool) → ThreadJob P → Domain → Bool → List ℕ → Domain
    → Option TrailLogger → Type 0
Serves may refuses job d true text e logger = ServesAll may refuses job d text e logger
Serves may refuses job d false text e logger = ServesSome may job d text

-- the result of this number of first lines of a list, if their text is whole or is not: with its labels and its logger,
-- or only some first ones of them
abbrev pub HasCome : {P : Type 0} → (P → AllowRelation) → ThreadJob P → Domain → Bool → ℕ → List ℕ → Domain → Labels
    → Option TrailLogger → Type 0
HasCome may job d true count text e labels logger =
    (q : ListProgress) × ListLeadsTo may job (list_start d) (take count job.part.tasks.now) q
    × IsKeptAt job q e labels logger
    × (text ≡ answer_lines job.part.types.now job.part.dom q.outcomes)
HasCome may job d false count text e labels logger = ServesSome may job d text
