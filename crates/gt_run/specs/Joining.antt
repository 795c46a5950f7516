-- The results of the threads of a run as they are joined, one after the other.
use Rattle.std.specs.Prelude.{◌≡◌, ◌≢◌, ◌⊎◌, ℕ, Bool, List, [], ◌∷◌, map, All, Option, Some, None, Result, Ok, Err}
use Rattle.std.specs.Prelude.{IsTrue}
use Rattle.std.specs.Io.KnownBytes.{Appends, Keeps}
use Rattle.gt_word_history.specs.Joining.{GatheredOf, StandTogether}
use Rattle.gt_word_history.specs.Rule.{Layout}
use Rattle.gt_word_history.specs.Views.{IsAmong}
use Rattle.gt_word_history.specs.declared.view.View.{View}
use Rattle.gt_words.specs.Conditions.{Board, IsSeatOf, position_at}
use Rattle.gt_live.specs.Domains.{AllowRelation}
use Rattle.gt_live.specs.declared.domain.Departed.{Departed}
use Rattle.gt_live.specs.declared.monitor.Monitor.{Monitor}
use Rattle.gt_text.specs.Streams.{AppendsBeginning}
use Rattle.gt_run.specs.declared.fault.RunFault.{RunFault}
use Rattle.gt_run.specs.declared.fault.RunFault.TheVariants.{Thread}
use Rattle.gt_run.specs.declared.lists.DomainPart.{DomainPart}
use Rattle.gt_run.specs.declared.lists.ThreadJob.{ThreadJob}
use Rattle.gt_run.specs.declared.threads.ThreadRefusal.{ThreadRefusal}
use Rattle.gt_run.specs.declared.threads.ThreadRefusal.TheVariants as refusals
use Rattle.gt_run.specs.Faults.{not_written, run_out_of_memory}
use Rattle.gt_run.specs.Printing.{BeginsLists, Served, WritesLists, all_lost, audits_in}
use Rattle.gt_run.specs.Runs.{WroteLists}
use Rattle.gt_run.specs.Serving.{counted}
use Rattle.gt_live.specs.Parts.{seat_left, words_of}

-- the fault of a run that had begun to write: an allocation failed, or a write failed
abbrev pub IsLate : RunFault → Type 0
IsLate fault = (fault ≡ run_out_of_memory) ⊎ (fault ≡ not_written)

-- a text, whole or not, is written if all went well before: it went out, or a prefix of it; after a fault nothing goes
-- out, and the fault stays
abbrev pub WritesNext : Result (Unit {0}) RunFault → Bool → List ℕ → Option (List ℕ) → Option (List ℕ)
    → Result (Unit {0}) RunFault → Type 0
WritesNext (Err before) whole text old new r = (r ≡ Err before) × Keeps old new
WritesNext (Ok well) whole text old new (Ok done) = IsTrue whole × Appends old new text
WritesNext (Ok well) whole text old new (Err fault) = IsLate fault × AppendsBeginning old new text

-- The result of what was joined so far, with these audit lines and this number of lost records: the lines of the lists
-- went out, the audit lines are of the same calls, and Q holds of the lists. Or, after a fault, a prefix of the lines.
abbrev pub JoinsWhere : {P : Type 0} → (List (Served P) → Type 0) → (P → AllowRelation) → (ℕ → Bool)
    → List (ThreadJob P) → List ℕ → ℕ → Option (List ℕ) → Option (List ℕ) → Result (Unit {0}) RunFault → Type 0
JoinsWhere {P} Q may refuses jobs audit lost old new (Ok done) =
    (all : List (Served P)) × WritesLists may refuses jobs all old new × (audit ≡ audits_in all)
    × (lost ≡ counted (all_lost all)) × Q all
JoinsWhere Q may refuses jobs audit lost old new (Err fault) =
    IsLate fault × BeginsLists may refuses jobs old new

-- the views that were gathered
abbrev pub views_in : Option GatheredOf → List View
views_in None = []
views_in (Some g) = g.views

-- the domain of each of these lists left one of these views
abbrev pub AreGathered : {P : Type 0} → List View → List (Served P) → Type 0
AreGathered views all = All (λ x. IsAmong (seat_left x.departed).view views) all

-- these views are none, or words and views showed one state with all of them
abbrev pub ShowTogether : Layout → List View → Type 0
ShowTogether k us = (us ≡ []) ⊎ StandTogether k us

-- what was gathered is of this run, and something was
abbrev pub IsOfThisRun : Board → GatheredOf → Type 0
IsOfThisRun b g = (g.table ≡ b.table) × (g.views ≢ [])

abbrev pub AreOfThisRun : Board → Option GatheredOf → Type 0
AreOfThisRun b None = Unit {0}
AreOfThisRun b (Some g) = IsOfThisRun b g

-- what a domain left may be taken in: the first domain's comes first
abbrev pub MayTakeIn : Board → Option GatheredOf → Departed → Type 0
MayTakeIn b None l = IsSeatOf b (seat_left l) × ((seat_left l).view.position ≡ 0)
MayTakeIn b (Some g) l = IsSeatOf b (seat_left l) × IsOfThisRun b g

-- what a domain left was taken in, and all that was gathered before is still there
abbrev pub IsTakenIn : Board → Option GatheredOf → Departed → GatheredOf → Type 0
IsTakenIn b old l g =
    IsOfThisRun b g × IsAmong (seat_left l).view g.views × ((v : View) → IsAmong v (views_in old) → IsAmong v g.views)

-- the part of the domain at the first position comes first
abbrev pub BeginsFirst : Board → List DomainPart → Type 0
BeginsFirst b [] = Unit {0}
BeginsFirst b (part ∷ parts) = position_at b part.dom ≡ 0

-- the jobs are of this monitor, that of the first domain first
abbrev pub AreOnRun : {P : Type 0} → Monitor P → List (ThreadJob P) → Type 0
AreOnRun m jobs = All (λ d. d.monitor.now ≡ m) jobs × BeginsFirst (words_of m) (map (λ d. d.part) jobs)

-- the fault of a run in which some domain has no thread
abbrev pub run_fault_of : ThreadRefusal → RunFault
run_fault_of refusals.Thread = Thread
run_fault_of refusals.Memory = run_out_of_memory

-- the result of the jobs that were started: if something was refused, nothing was written, and the refusal is the
-- fault; otherwise all were started, and it is the result of their lists
abbrev pub WroteStarted : {P : Type 0} → (P → AllowRelation) → (ℕ → Bool) → Option ThreadRefusal
    → List (ThreadJob P) → Option (List ℕ) → Option (List ℕ) → Result (Unit {0}) RunFault → Type 0
WroteStarted may refuses None jobs old new r = WroteLists may refuses jobs old new r
WroteStarted may refuses (Some refusal) jobs old new r = (r ≡ Err (run_fault_of refusal)) × Keeps old new
