-- What a run writes without a log is what its lists printed.
use Rattle.std.proofs.Common.{◌≡◌, ◌++◌, ◌+◌, ℕ, Bool, true, false, List, [], ◌∷◌, All, Option, fold, refl, sym, ap}
use Rattle.std.proofs.Common.{◌∙◌, subst, arith}
use Rattle.std.specs.Prelude.{is_some, take}
use Rattle.std.specs.List.{flat_map}
use Rattle.std.specs.Io.KnownBytes.{Appends}
use Rattle.std.proofs.lemmas.Grind.{flat_map-append}
use Rattle.std.proofs.lemmas.List.{append-nil}
use Rattle.std.proofs.lemmas.List.Elements.{All-head, All-tail, All-weaker}
use Rattle.std.proofs.lemmas.List.Sums.{sum_by-append}
use Rattle.gt_run.specs.Prelude.{line_text, type_text}
use Rattle.gt_audit.specs.Lines.{lost_text}
use Rattle.gt_audit.specs.declared.record.Record.{Record}
use Rattle.gt_script_runs.specs.Rights.{may_by}
use Rattle.gt_script_runs.specs.declared.rights.ScriptPolicy.{ScriptPolicy}
use Rattle.gt_script.specs.Lists.{RunAction, RunTask}
use Rattle.gt_script.specs.declared.tasks.RunAction.TheVariants.{Await, Do, Tell}
use Rattle.gt_live.specs.Domains.{AllowRelation}
use Rattle.gt_run.specs.Printing.{AreServed, Served, WasServed, all_lost, audits_in, jobs_in, run_text, texts_in}
use Rattle.gt_run.specs.Serving.{DoesAction, DoesWhere, ListLeadsTo, ListOutcome, ListProgress, Records}
use Rattle.gt_run.specs.Serving.{audit_lines, counted, list_start, lost_in, record_made, logged_records}
use Rattle.gt_run.specs.declared.lists.ThreadJob.{ThreadJob}
use Rattle.gt_script.specs.RunContents.{RunContents}
use Rattle.gt_run.specs.Runs.{WritesScript}
use Rattle.gt_linearization.proofs.Explored.{runs-printed}
use Rattle.gt_linearization.specs.Printed.{UnloggedRunsPrint}

-- no record of these calls is in a log, and none was lost
abbrev IsQuiet : List ListOutcome → Type 0
IsQuiet outcomes = (logged_records outcomes ≡ []) × (lost_in outcomes ≡ 0)

quiet-more : (os : List ListOutcome) (o : ListOutcome) → IsQuiet os → o.recorded ≡ [] → o.lost ≡ 0 → IsQuiet (os ++ o ∷ [])
quiet-more os o quiet told lost = (
  flat_map-append (λ (x : ListOutcome). x.recorded) os (o ∷ []) ∙ (ap (λ (l : List Record). l ++ (o.recorded ++ [])) quiet.0 ∙ (append-nil o.recorded ∙ told)),
  sum_by-append (λ (x : ListOutcome). x.lost) os (o ∷ []) ∙ (let before = quiet.1 in omega (arith, before, lost)),
)

module _ {P : Type 0} (may : P → AllowRelation) (job : ThreadJob P) (unlogged : is_some job.log ≡ false) where
  quiet-run_action : (line : ℕ) (run_action : RunAction) (p q : ListProgress) → DoesAction may job line run_action p q → IsQuiet p.outcomes → IsQuiet q.outcomes
  unfolding DoesAction
  quiet-run_action line (Do call) p q does quiet =
      let r : Records false (record_made job.part.dom p.domain does.request does.answer) does.recorded does.lost = subst (λ (b : Bool). Records b (record_made job.part.dom p.domain does.request does.answer) does.recorded does.lost) unlogged does.records in
      subst IsQuiet (sym does.outcomes) (quiet-more p.outcomes (record { line = line; answer = does.answer; recorded = does.recorded; lost = does.lost }) quiet r.0 r.1)
  quiet-run_action line (Tell flag) p q does quiet = subst IsQuiet (ap (λ (r : ListProgress). r.outcomes) (sym does.0)) quiet
  quiet-run_action line (Await flag) p q does quiet = subst IsQuiet (ap (λ (r : ListProgress). r.outcomes) (sym does.0)) quiet

  quiet-line : (task : RunTask) (b : Bool) (p q : ListProgress) → DoesWhere b may job task p q → IsQuiet p.outcomes → IsQuiet q.outcomes
  quiet-line task true p q does quiet = quiet-run_action task.line task.run_action p q does quiet
  quiet-line task false p q does quiet = subst IsQuiet (ap (λ (r : ListProgress). r.outcomes) (sym does)) quiet

  quiet-list : (tasks : List RunTask) (p q : ListProgress) → ListLeadsTo may job p tasks q → IsQuiet p.outcomes → IsQuiet q.outcomes
  quiet-list [] p q leads quiet = subst IsQuiet (ap (λ (r : ListProgress). r.outcomes) (sym leads)) quiet
  quiet-list (task ∷ tasks) p q leads quiet = quiet-list tasks leads.0 q leads.2 (quiet-line task _ p leads.0 leads.1 quiet)

served-quiet : (refuses : ℕ → Bool) (s : Served ScriptPolicy) → WasServed may_by refuses s → is_some s.job.log ≡ false → IsQuiet s.outcomes
served-quiet refuses s was unlogged = subst IsQuiet was.came (quiet-list may_by s.job unlogged (take was.number s.job.part.tasks.now) (list_start was.domain) was.left was.leads (refl, refl))

-- no audit line, and no lost record
quiet-run : (refuses : ℕ → Bool) (all : List (Served ScriptPolicy)) → AreServed may_by refuses all → All (λ (d : ThreadJob ScriptPolicy). is_some d.log ≡ false) (jobs_in all) → (audits_in all ≡ []) × (all_lost all ≡ 0)
quiet-run refuses [] are unlogged = (refl, refl)
quiet-run refuses (s ∷ all) are unlogged =
    let mine = served-quiet refuses s (All-head (WasServed may_by refuses) s all are) (All-head (λ (d : ThreadJob ScriptPolicy). is_some d.log ≡ false) s.job (jobs_in all) unlogged) in
    let rest = quiet-run refuses all (All-tail (WasServed may_by refuses) s all are) (All-tail (λ (d : ThreadJob ScriptPolicy). is_some d.log ≡ false) s.job (jobs_in all) unlogged) in
    let none : audit_lines s.job.part.types.now s.outcomes ≡ [] = ap (λ (rs : List Record). flat_map (line_text (type_text (λ (name : List ℕ). name) s.job.part.types.now)) rs) mine.0 in
    (ap (λ (l : List ℕ). l ++ audits_in all) none ∙ rest.0, ap (λ (n : ℕ). fold (λ (a : ℕ) (x : Served ScriptPolicy). a + lost_in x.outcomes) n all) (let lost = mine.1 in omega (arith, lost)) ∙ rest.1)

run-text : (all : List (Served ScriptPolicy)) → (audits_in all ≡ []) × (all_lost all ≡ 0) → run_text all ≡ texts_in all
run-text all quiet = (λ j. texts_in all ++ (quiet.0 j ++ lost_text (counted (quiet.1 j)))) ∙ append-nil (texts_in all)

-- what is appended is the text of the lists
pub unlogged-text : (refuses : ℕ → Bool) (c : RunContents) (old new : Option (List ℕ)) (wrote : WritesScript refuses c false old new) → Appends old new (texts_in wrote.2.0)
unlogged-text refuses c old new wrote =
    let all = wrote.2.0 in
    let same : jobs_in all ≡ wrote.0 = wrote.2.1 in
    let unlogged : All (λ (d : ThreadJob ScriptPolicy). is_some d.log ≡ false) (jobs_in all) =
    subst (All (λ (d : ThreadJob ScriptPolicy). is_some d.log ≡ false)) (sym same)
    (All-weaker (λ (d : ThreadJob ScriptPolicy). (d.monitor.now ≡ wrote.1.monitor) × (is_some d.log ≡ false)) (λ (d : ThreadJob ScriptPolicy). is_some d.log ≡ false) (λ d both. both.1) wrote.0 wrote.1.jobs_are.1) in
    subst (Appends old new) (run-text all (quiet-run refuses all wrote.2.2 unlogged)) wrote.2.4

pub unlogged-print : UnloggedRunsPrint
unlogged-print refuses c old new wrote =
    (texts_in wrote.2.0, runs-printed refuses c false wrote.0 old new wrote.1 wrote.2, unlogged-text refuses c old new wrote)
