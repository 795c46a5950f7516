-- What the lines of a list come to, one after the other.
use Rattle.std.proofs.Common.{◌≡◌, ◌++◌, ◌==◌, ℕ, ◌+◌, ◌<◌, Bool, true, false, List, [], ◌∷◌, take, length}
use Rattle.std.proofs.Common.{get_or, Option, None, Some, Result, Ok, Err, IfOk, IsTrue, refl, sym, subst, ap, ◌∙◌}
use Rattle.std.proofs.Common.{add-one, inl, inr}
use Rattle.std.specs.Prelude.{IsOk, MatchBool, is_some, nat_lt}
use Rattle.std.specs.Option.{option_map}
use Rattle.gt_script_runs.specs.Naming.{AreNamed}
use Rattle.std.proofs.Math.Seq.{take-suc}
use Rattle.std.proofs.lemmas.List.{append-nil}
use Rattle.std.proofs.lemmas.Option.{slice_get_read}
use Rattle.gt_audit.specs.Trails.{TrailState, empty_account, silent}
use Rattle.gt_types.specs.declared.DomId.{DomId}
use Rattle.gt_script_runs.specs.declared.labels.Labels.{Labels}
use Rattle.gt_script_lines.specs.declared.calls.ScriptCall.{ScriptCall}
use Rattle.gt_live.specs.Domains.{AllowRelation}
use Rattle.gt_live.specs.Flags.{FlagStepped}
use Rattle.gt_live.specs.declared.domain.Domain.{Domain}
use Rattle.gt_word_history.specs.Rule.{Layout}
use Rattle.gt_word_history.specs.declared.view.FlagStep.{FlagStep}
use Rattle.gt_word_history.specs.declared.view.FlagStep.TheVariants.{Passed, Raised}
use Rattle.gt_script.specs.Lists.{RunAction, RunTask}
use Rattle.gt_script.specs.declared.tasks.RunAction.TheVariants.{Do, Tell, Await}
use Rattle.gt_run.specs.Serving.{ServesCall, DoesAction, DoesWhere, HasCome, IsKeptAt, IsReady, LogsOutcomes}
use Rattle.gt_run.specs.Serving.{ListLeadsTo}
use Rattle.gt_run.specs.Serving.{ListProgress, Serves, ServesSome, StartsLogged, answer_lines, list_start, counted}
use Rattle.gt_run.specs.Serving.{AwaitsRefusedFlag, gate_line}
use Rattle.gt_run.specs.Asking.{MakesFlagStep, RaisesFlag, Stand}
use Rattle.gt_run.specs.declared.lists.ThreadJob.{ThreadJob}
use Rattle.gt_run.specs.declared.logging.TrailLogger.{TrailLogger}

-- one line more leads on
leads_behind : {P : Type 0} (may : P → AllowRelation) (job : ThreadJob P) (p : ListProgress) (tasks : List RunTask) (task : RunTask) (q r : ListProgress)
    → ListLeadsTo may job p tasks q → DoesWhere (task.dom.0 == job.part.dom.0) may job task q r → ListLeadsTo may job p (tasks ++ task ∷ []) r
leads_behind may job p [] task q r leads does =
    (r, subst (λ (x : ListProgress). DoesWhere (task.dom.0 == job.part.dom.0) may job task x r) leads does, refl)
leads_behind may job p (first ∷ tasks) task q r leads does = (leads.0, leads.1, leads_behind may job leads.0 tasks task q r leads.2 does)

take_more : (list : List RunTask) (i : ℕ) (l : RunTask) → i < length list → l ≡ get_or list i l → take (i + 1) list ≡ take i list ++ l ∷ []
take_more list i l within is = rw add-one (take-suc list i l within ∙ ap (λ (x : RunTask). take i list ++ x ∷ []) (sym is))

leads_more : {P : Type 0} (may : P → AllowRelation) (job : ThreadJob P) (p : ListProgress) (list : List RunTask) (i : ℕ) (l : RunTask) (q r : ListProgress) → i < length list → l ≡ get_or list i l
    → ListLeadsTo may job p (take i list) q → DoesWhere (l.dom.0 == job.part.dom.0) may job l q r → ListLeadsTo may job p (take (i + 1) list) r
leads_more may job p list i l q r within is leads does =
    subst (λ (ls : List RunTask). ListLeadsTo may job p ls r) (sym (take_more list i l within is)) (leads_behind may job p (take i list) l q r leads does)

-- a line after which all is as it was
quiet_more : {P : Type 0} (may : P → AllowRelation) (job : ThreadJob P) (d : Domain) (whole : Bool) (i : ℕ) (l : RunTask) (text : List ℕ) (e : Domain) (labels : Labels) (t : Option TrailLogger)
    → i < length job.part.tasks.now → l ≡ get_or job.part.tasks.now i l → ((q : ListProgress) → DoesWhere (l.dom.0 == job.part.dom.0) may job l q q)
    → HasCome may job d whole i text e labels t → HasCome may job d whole (i + 1) text e labels t
quiet_more may job d true i l text e labels t within is does (q, leads, kept, prints) =
    (q, leads_more may job (list_start d) job.part.tasks.now i l q q within is leads (does q), kept, prints)
quiet_more may job d false i l text e labels t within is does come = come

-- what a line of the domain does
own_does : {P : Type 0} (may : P → AllowRelation) (job : ThreadJob P) (l : RunTask) (run_action : RunAction) (q r : ListProgress) → (l.dom.0 == job.part.dom.0) ≡ true → l.run_action ≡ run_action
    → DoesAction may job l.line run_action q r → DoesWhere (l.dom.0 == job.part.dom.0) may job l q r
own_does may job l run_action q r own is does =
    subst (λ (b : Bool). DoesWhere b may job l q r) (sym own) (subst (λ (x : RunAction). DoesAction may job l.line x q r) (sym is) does)

-- a line of another domain
pub other_more : {P : Type 0} (may : P → AllowRelation) (job : ThreadJob P) (d : Domain) (whole : Bool) (i : ℕ) (l : RunTask) (text : List ℕ) (e : Domain) (labels : Labels) (t : Option TrailLogger)
    → i < length job.part.tasks.now → l ≡ get_or job.part.tasks.now i l → (l.dom.0 == job.part.dom.0) ≡ false
    → HasCome may job d whole i text e labels t → HasCome may job d whole (i + 1) text e labels t
other_more may job d whole i l text e labels t within is other come =
    quiet_more may job d whole i l text e labels t within is (λ q. subst (λ (b : Bool). DoesWhere b may job l q q) (sym other) refl) come

-- a step on a flag keeps the place in the list
flag_kept : {P : Type 0} (k : Layout) (job : ThreadJob P) (flag : ℕ) (m : FlagStep) (q : ListProgress) (d e : Domain) (labels : Labels) (t : Option TrailLogger) → FlagStepped k flag m d e → IsKeptAt job q d labels t
    → IsKeptAt job (record q { domain = e }) e labels t
flag_kept k job flag m q d e labels t stepped kept = record {
  domain = refl;
  own = stepped.kept.seat.dom ∙ kept.own;
  names = kept.names;
  asked = kept.asked;
  recorded = subst (λ (x : TrailState). LogsOutcomes x t q.outcomes) (sym stepped.kept.trail) kept.recorded;
}

flag_more : {P : Type 0} (may : P → AllowRelation) (k : Layout) (job : ThreadJob P) (d : Domain) (i : ℕ) (l : RunTask) (text : List ℕ) (e f : Domain) (labels : Labels) (t : Option TrailLogger) (flag : ℕ) (m : FlagStep)
    → i < length job.part.tasks.now → l ≡ get_or job.part.tasks.now i l → FlagStepped k flag m e f
    → ((q : ListProgress) → q.domain ≡ e → DoesWhere (l.dom.0 == job.part.dom.0) may job l q (record q { domain = f }))
    → HasCome may job d true i text e labels t → HasCome may job d true (i + 1) text f labels t
flag_more may k job d i l text e f labels t flag m within is stepped does (q, leads, kept, prints) =
    (record q { domain = f }, leads_more may job (list_start d) job.part.tasks.now i l q (record q { domain = f }) within is leads (does q kept.domain), flag_kept k job flag m q e f labels t stepped kept, prints)

-- a line that tells a flag
pub tell_more : {P : Type 0} (may : P → AllowRelation) (job : ThreadJob P) (d : Domain) (whole : Bool) (i : ℕ) (l : RunTask) (text : List ℕ) (e f : Domain) (labels : Labels) (t : Option TrailLogger) (flag : ℕ)
    → i < length job.part.tasks.now → l ≡ get_or job.part.tasks.now i l → (l.dom.0 == job.part.dom.0) ≡ true → l.run_action ≡ Tell flag → RaisesFlag may job.monitor.now flag e f
    → HasCome may job d whole i text e labels t → HasCome may job d whole (i + 1) text f labels t
unfolding DoesAction
tell_more may job d false i l text e f labels t flag within is own tells raises come = come
tell_more {P} may job d true i l text e f labels t flag within is own tells raises come = by (nat_lt flag job.monitor.now.words.flags) refl raises
  where
    by : (b : Bool) → nat_lt flag job.monitor.now.words.flags ≡ b → MatchBool b (MakesFlagStep may job.monitor.now flag Raised e f) (f ≡ e) → HasCome may job d true (i + 1) text f labels t
    by true has step = flag_more may job.monitor.now.words.layout job d i l text e f labels t flag Raised within is step.0
        (λ q at. own_does may job l (Tell flag) q (record q { domain = f }) own tells (refl, subst (λ (x : Domain). RaisesFlag may job.monitor.now flag x f) (sym at) raises)) come
    by false has same = subst (λ (x : Domain). HasCome may job d true (i + 1) text x labels t) (sym same)
        (quiet_more may job d true i l text e labels t within is (λ q. own_does may job l (Tell flag) q q own tells (refl, subst (λ (b : Bool). MatchBool b (MakesFlagStep may job.monitor.now flag Raised q.domain q.domain) (q.domain ≡ q.domain)) (sym has) refl)) come)

-- a line that awaits a flag
pub await_more : {P : Type 0} (may : P → AllowRelation) (job : ThreadJob P) (d : Domain) (whole : Bool) (i : ℕ) (l : RunTask) (text : List ℕ) (e f : Domain) (labels : Labels) (t : Option TrailLogger) (flag : ℕ)
    → i < length job.part.tasks.now → l ≡ get_or job.part.tasks.now i l → (l.dom.0 == job.part.dom.0) ≡ true → l.run_action ≡ Await flag → MakesFlagStep may job.monitor.now flag Passed e f
    → HasCome may job d whole i text e labels t → HasCome may job d whole (i + 1) text f labels t
unfolding DoesAction
await_more may job d false i l text e f labels t flag within is own awaits step come = come
await_more may job d true i l text e f labels t flag within is own awaits step come = flag_more may job.monitor.now.words.layout job d i l text e f labels t flag Passed within is step.0
    (λ q at. own_does may job l (Await flag) q (record q { domain = f }) own awaits (refl, subst (λ (x : Domain). MakesFlagStep may job.monitor.now flag Passed x f) (sym at) step)) come

-- a text that breaks off
breaks_off : {P : Type 0} (may : P → AllowRelation) (job : ThreadJob P) (d : Domain) (whole : Bool) (i : ℕ) (old new : List ℕ) (e : Domain) (labels : Labels) (t : Option TrailLogger)
    → HasCome may job d whole i old e labels t → new ≡ old → ServesSome may job d new
breaks_off may job d true i old new e labels t (q, leads, kept, prints) same = record { left = q; number = i; leads = leads; prints = same ∙ prints }
breaks_off may job d false i old new e labels t come same = subst (λ (l : List ℕ). ServesSome may job d l) (sym same) come

-- a line that makes a call
pub do_more : {P V E : Type 0} (may : P → AllowRelation) (items : V → List ℕ) (job : ThreadJob P) (d : Domain) (whole r : Bool) (i : ℕ) (l : RunTask) (line : Result V E) (old new : List ℕ) (e f : Domain)
    (before after : Labels) (t u : Option TrailLogger) (call : ScriptCall)
    → i < length job.part.tasks.now → l ≡ get_or job.part.tasks.now i l → (l.dom.0 == job.part.dom.0) ≡ true → l.run_action ≡ Do call
    → IfOk line (λ v. ServesCall may job l.line call e f before after t u (items v)) → HasCome may job d whole i old e before t
    → (IsTrue r → IsTrue whole × IsOk line × IfOk line (λ v. new ≡ old ++ items v)) → (r ≡ false → new ≡ old) → HasCome may job d r (i + 1) new f after u
unfolding DoesAction
do_more may items job d true true i l (Ok v) old new e f before after t u call within is own does calls (q, leads, kept, prints) more same =
    let next = calls q kept in (
      next.0,
      leads_more may job (list_start d) job.part.tasks.now i l q next.0 within is leads (own_does may job l (Do call) q next.0 own does next.1),
      next.2,
      (more refl).2 ∙ ap (λ (x : List ℕ). x ++ items v) prints ∙ sym next.3,
    )
do_more may items job d true true i l (Err x) old new e f before after t u call within is own does calls come more same = let m = more refl in cc
do_more may items job d false true i l line old new e f before after t u call within is own does calls come more same = let m = more refl in cc
do_more may items job d whole false i l line old new e f before after t u call within is own does calls come more same =
    breaks_off may job d whole i old new e before t come (same refl)

-- the gate answers false at a line
pub gate_stops : {P V E : Type 0} (may : P → AllowRelation) (refuses : ℕ → Bool) (items : V → List ℕ) (job : ThreadJob P) (d : Domain) (whole r : Bool) (i : ℕ) (l : RunTask) (line : Result V E) (old new : List ℕ) (e : Domain)
    (labels : Labels) (t : Option TrailLogger) (flag : ℕ)
    → i < length job.part.tasks.now → l ≡ get_or job.part.tasks.now i l → (l.dom.0 == job.part.dom.0) ≡ true → l.run_action ≡ Await flag → IsTrue (refuses flag)
    → IfOk line (λ v. items v ≡ gate_line l.line job.part.dom) → HasCome may job d whole i old e labels t
    → (IsTrue r → IsTrue whole × IsOk line × IfOk line (λ v. new ≡ old ++ items v)) → (r ≡ false → new ≡ old) → Serves may refuses job d r new e t
unfolding AwaitsRefusedFlag
gate_stops may refuses items job d true true i l (Ok v) old new e labels t flag within is own awaits refused line_is (q, leads, kept, prints) more same =
    record {
      left = q;
      domain = kept.domain;
      number = i;
      leads = leads;
      last = gate_line l.line job.part.dom;
      ends = inr (record {
        at = l;
        own = own;
        stands = slice_get_read job.part.tasks.now (length job.part.tasks.now) i l refl within is;
        refused = subst (AwaitsRefusedFlag refuses) (sym awaits) refused;
        last_is = refl;
      });
      prints = (more refl).2 ∙ cc (prints, line_is);
      asked = kept.asked;
      recorded = kept.recorded;
    }
gate_stops may refuses items job d true true i l (Err x) old new e labels t flag within is own awaits refused line_is come more same = let m = more refl in cc
gate_stops may refuses items job d false true i l line old new e labels t flag within is own awaits refused line_is come more same = let m = more refl in cc
gate_stops may refuses items job d whole false i l line old new e labels t flag within is own awaits refused line_is come more same =
    breaks_off may job d whole i old new e labels t come (same refl)

-- all lines were served
pub list_ends : {P : Type 0} (may : P → AllowRelation) (refuses : ℕ → Bool) (job : ThreadJob P) (d : Domain) (whole : Bool) (i : ℕ) (text : List ℕ) (e : Domain) (labels : Labels) (t : Option TrailLogger)
    → i ≡ length job.part.tasks.now → HasCome may job d whole i text e labels t → Serves may refuses job d whole text e t
list_ends may refuses job d true i text e labels t all (q, leads, kept, prints) =
    record {
      left = q;
      domain = kept.domain;
      number = i;
      leads = leads;
      last = [];
      ends = inl (all, refl);
      prints = prints ∙ sym (append-nil (answer_lines job.part.types.now job.part.dom q.outcomes));
      asked = kept.asked;
      recorded = kept.recorded;
    }
list_ends may refuses job d false i text e labels t all come = come

-- before the first line
pub come_none : {P : Type 0} (may : P → AllowRelation) (job : ThreadJob P) (d : Domain) (text : List ℕ) (labels : Labels) (t : Option TrailLogger) → text ≡ [] → StartsLogged job d t → AreNamed labels []
    → HasCome may job d true 0 text d labels t
come_none may job d text labels t none starts names =
    (list_start d, refl, record { domain = refl; own = starts.0; names = names; asked = starts.1; recorded = starts.2 }, none)

told_none : {A : Type 0} (dom : DomId) (log : Option A) (t : Option TrailLogger) (trail : TrailState) → trail ≡ silent → t ≡ option_map (λ l. record { log = empty_account dom; next = 0 }) log
    → (is_some t ≡ is_some log) × LogsOutcomes trail t []
told_none dom None t trail fresh is = (ap is_some is, subst (λ (x : Option TrailLogger). LogsOutcomes trail x []) (sym is) (refl, refl))
told_none dom (Some log) t trail fresh is =
    (ap is_some is, subst (λ (x : Option TrailLogger). LogsOutcomes trail x []) (sym is) (sym (ap (λ (x : TrailState). length x.records) fresh), refl, ap (λ (x : TrailState). counted (x.lost + 0)) fresh))

-- nothing was pushed for a domain that has made no call
pub starts_told : {P : Type 0} (may : P → AllowRelation) (job : ThreadJob P) (s : Stand P) (t : Option TrailLogger) → IsReady may job.monitor.now job.part.dom s
    → t ≡ option_map (λ l. record { log = empty_account job.part.dom; next = 0 }) job.log → StartsLogged job s.domain t
starts_told may job s t ready is =
    let recorded = told_none job.part.dom job.log t s.domain.trail ready.1.fresh.trail is in
    (ready.1.own, recorded.0, recorded.1)
