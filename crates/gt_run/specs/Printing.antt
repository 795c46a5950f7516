-- The output of all lists of a run.
use Rattle.std.specs.Prelude.{◌≡◌, ◌⊎◌, ◌++◌, ℕ, Bool, true, false, List, [], ◌∷◌, map, All, Option, IfOk, is_some}
use mathlib.Core.Option.{some}
use lib.ListN.{get_elem?}
use Rattle.std.specs.List.{flat_map, sum_by}
use Rattle.std.specs.Io.KnownBytes.{Appends}
use Rattle.std.specs.declared.thread.PromisedHandle.{PromisedHandle}
use Rattle.gt_audit.specs.Lines.{lost_text}
use Rattle.gt_word_history.specs.Prelude.{State}
use Rattle.gt_word_history.specs.Rule.{Shows}
use Rattle.gt_word_history.specs.declared.view.View.{View}
use Rattle.gt_words.specs.Conditions.{IsSeatOf}
use Rattle.gt_live.specs.Domains.{AllowRelation}
use Rattle.gt_live.specs.declared.domain.Departed.{Departed}
use Rattle.gt_live.specs.declared.monitor.Monitor.{Monitor}
use Rattle.gt_text.specs.Streams.{AppendsBeginning}
use Rattle.gt_run.specs.declared.lists.JobAtGate.{JobAtGate}
use Rattle.gt_run.specs.declared.lists.ThreadJob.{ThreadJob}
use Rattle.gt_run.specs.declared.lists.DomainPart.{DomainPart}
use Rattle.gt_run.specs.declared.serving.Output.{Output}
use Rattle.gt_run.specs.Serving.{IsBegun, IsServed, ListOutcome, audit_lines, counted, lost_in}
use Rattle.gt_live.specs.Parts.{seat_left, words_of}

-- a list that was served, the outcomes of its calls, what it printed, and what its domain left behind
pub record Served (P : Type 0) : Type 0 where
  pub job : ThreadJob P
  pub outcomes : List ListOutcome
  pub text : List ℕ
  pub departed : Departed

-- the list was served
abbrev pub WasServed : {P : Type 0} → (P → AllowRelation) → (ℕ → Bool) → Served P → Type 0
WasServed may refuses s = IsServed may refuses s.job s.outcomes s.text s.departed

-- each of these lists was served
abbrev pub AreServed : {P : Type 0} → (P → AllowRelation) → (ℕ → Bool) → List (Served P) → Type 0
AreServed may refuses all = All (WasServed may refuses) all

-- the domain of the list has in this state the view with which it left
abbrev pub HasViewIn : {P : Type 0} → State (Unit {0}) View → Served P → Type 0
HasViewIn s x = get_elem? s.views (seat_left x.departed).view.position ≡ some (seat_left x.departed).view

-- words and views show one state, in which the domain of each of these lists has the view with which it left: so the
-- steps of all of them have one order
abbrev pub ShowOneState : {P : Type 0} → List (Served P) → Type 0
ShowOneState [] = Unit {0}
ShowOneState (x ∷ xs) =
    (s : State (Unit {0}) View) × Shows (words_of x.job.monitor.now).layout s × All (HasViewIn s) (x ∷ xs)

-- the jobs of these lists
abbrev pub jobs_in : {P : Type 0} → List (Served P) → List (ThreadJob P)
jobs_in all = map (λ s. s.job) all

-- what they printed, in their order
abbrev pub texts_in : {P : Type 0} → List (Served P) → List ℕ
texts_in all = flat_map (λ s. s.text) all

-- the audit lines of their calls, in their order
abbrev pub audits_in : {P : Type 0} → List (Served P) → List ℕ
audits_in all = flat_map (λ s. audit_lines s.job.part.types.now s.outcomes) all

-- the number of lost records of their calls
abbrev pub all_lost : {P : Type 0} → List (Served P) → ℕ
all_lost all = sum_by (λ s. lost_in s.outcomes) all

-- the whole text of a run: what the lists printed, then their audit lines, then the number of lost records
abbrev pub run_text : {P : Type 0} → List (Served P) → List ℕ
run_text all = texts_in all ++ (audits_in all ++ lost_text (counted (all_lost all)))

-- the output of a job whose list printed all or did not: its text, its audit lines and its number of lost records are
-- those of the outcomes of its calls; or its text is that of some first lines
abbrev pub IsOutputOfJob : {P : Type 0} → Bool → (P → AllowRelation) → (ℕ → Bool) → ThreadJob P → Output → Type 0
IsOutputOfJob true may refuses job o =
    (outcomes : List ListOutcome) × IsServed may refuses job outcomes o.text.items o.left
    × IfOk o.audit (λ audit. audit.items ≡ audit_lines job.part.types.now outcomes)
    × (o.lost ≡ counted (lost_in outcomes))
IsOutputOfJob false may refuses job o = IsBegun may job o.text.items

-- the job's domain left this seat
abbrev pub LeavesSeat : {P : Type 0} → ThreadJob P → Departed → Type 0
LeavesSeat job l = IsSeatOf (words_of job.monitor.now) (seat_left l) × ((seat_left l).dom ≡ job.part.dom)

abbrev pub IsOutputOf : {P : Type 0} → (P → AllowRelation) → (ℕ → Bool) → ThreadJob P → Output → Type 0
IsOutputOf may refuses job o = IsOutputOfJob o.whole may refuses job o × LeavesSeat job o.left

-- the jobs of these parts, in their order, all over this monitor, and with a log or without
abbrev pub AreJobsOf : {P : Type 0} → Monitor P → Bool → List DomainPart → List (ThreadJob P) → Type 0
AreJobsOf m logged parts jobs =
    (map (λ d. d.part) jobs ≡ parts) × All (λ d. (d.monitor.now ≡ m) × (is_some d.log ≡ logged)) jobs

-- the lists of these jobs were served, and what they printed went out
abbrev pub WritesLists : {P : Type 0} → (P → AllowRelation) → (ℕ → Bool) → List (ThreadJob P) → List (Served P)
    → Option (List ℕ) → Option (List ℕ) → Type 0
WritesLists may refuses jobs all old new =
    (jobs_in all ≡ jobs) × AreServed may refuses all × Appends old new (texts_in all)

-- the lists of these jobs were served, their whole text went out, and words and views show one state of all domains
abbrev pub WritesAll : {P : Type 0} → (P → AllowRelation) → (ℕ → Bool) → List (ThreadJob P) → Option (List ℕ)
    → Option (List ℕ) → Type 0
WritesAll {P} may refuses jobs old new =
    (all : List (Served P)) × (jobs_in all ≡ jobs) × AreServed may refuses all × ShowOneState all
    × Appends old new (run_text all)

-- what follows those lists that printed all: nothing, or what some first lines of the next list printed
abbrev pub PrintsOn : {P : Type 0} → (P → AllowRelation) → List (ThreadJob P) → List ℕ → Type 0
PrintsOn may [] text = text ≡ []
PrintsOn may (next ∷ rest) text = (text ≡ []) ⊎ IsBegun may next text

-- a prefix of what these lists print went out: the first ones were served, and after what they printed comes nothing,
-- or a prefix of the next one
abbrev pub BeginsLists : {P : Type 0} → (P → AllowRelation) → (ℕ → Bool) → List (ThreadJob P) → Option (List ℕ)
    → Option (List ℕ) → Type 0
BeginsLists {P} may refuses jobs old new =
    (all : List (Served P)) × (rest : List (ThreadJob P)) × (text : List ℕ)
    × (jobs_in all ++ rest ≡ jobs) × AreServed may refuses all × PrintsOn may rest text
    × AppendsBeginning old new (texts_in all ++ text)

-- a prefix of the whole text of these lists went out
abbrev pub BeginsRunText : {P : Type 0} → (P → AllowRelation) → (ℕ → Bool) → List (ThreadJob P) → Option (List ℕ)
    → Option (List ℕ) → Type 0
BeginsRunText {P} may refuses jobs old new =
    (all : List (Served P)) × (jobs_in all ≡ jobs) × AreServed may refuses all × AppendsBeginning old new (run_text all)

-- a prefix of a whole text that these lists may print went out, as far as they were served
abbrev pub BeginsAll : {P : Type 0} → (P → AllowRelation) → (ℕ → Bool) → List (ThreadJob P) → Option (List ℕ)
    → Option (List ℕ) → Type 0
BeginsAll may refuses jobs old new = BeginsLists may refuses jobs old new ⊎ BeginsRunText may refuses jobs old new

-- the jobs that were promised
abbrev pub promised : {P G : Type 0} → List (PromisedHandle Output (JobAtGate P G)) → List (ThreadJob P)
promised handles = map (λ h. h.promise.job) handles

-- all of them at this gate
abbrev pub AreAtGate : {P G : Type 0} → G → List (PromisedHandle Output (JobAtGate P G)) → Type 0
AreAtGate gate handles = All (λ h. h.promise.gate.now ≡ gate) handles
