-- What the threads of a run come to, one after the other.
use Rattle.std.proofs.Common.{◌≡◌, ◌≢◌, ◌⊎◌, ◌++◌, ◌+◌, ◌-◌, ◌^◌, ℕ, ◌<◌, Bool, true, false, List, [], ◌∷◌, get_or, drop}
use Rattle.std.proofs.Common.{length, map, min, suc, take, Option, None, Some, Result, Ok, Err, OnOk, IfOk, IfErr}
use Rattle.std.proofs.Common.{IsTrue, refl, sym, subst, ap, ◌∙◌, append_assoc, add-one, drop-cons, inl, inr, arith, All}
use Rattle.std.proofs.lemmas.Bool.{false≢true}
use Rattle.std.specs.Prelude.{IsOk, is_err, is_ok, is_some, if◌then◌else◌}
use Rattle.std.specs.declared.thread.PromisedHandle.{PromisedHandle}
use Rattle.std.specs.List.{AllZip, HoldsAt, flat_map}
use Rattle.std.specs.Io.KnownBytes.{Appends, Keeps}
use Rattle.std.proofs.Math.Seq.{take-length, take-suc}
use Rattle.std.proofs.lemmas.Grind.{flat_map-append}
use Rattle.std.proofs.lemmas.List.{append-nil, get_or-map, length-map, map-append}
use Rattle.std.proofs.lemmas.List.Elements.{All-append, All-cons, All-head, All-nil, All-push, All-tail, All-weaker}
use Rattle.std.specs.Iterator.{Yields}
use Rattle.std.specs.Vec.Iter.{into_iter_items, into_iter_steps}
use Rattle.std.specs.declared.vec.IntoIter.{IntoIter}
use Rattle.std.proofs.lemmas.List.Sums.{sum_by-append}
use Rattle.gt_types.specs.declared.DomId.{DomId}
use Rattle.gt_types.specs.declared.config.Config.{Config}
use Rattle.gt_types.specs.declared.config.DomainConfig.{DomainConfig}
use mathlib.Core.Option.{some}
use lib.ListN.{get_elem?}
use Rattle.gt_word_history.specs.Prelude.{State}
use Rattle.gt_word_history.specs.Joining.{AreIn, GatheredOf, StandTogether, with_view}
use Rattle.gt_word_history.specs.Rule.{Layout, Shows, id_at}
use Rattle.gt_word_history.specs.Views.{IsAmong}
use Rattle.gt_word_history.specs.declared.view.View.{View}
use Rattle.gt_words.specs.Conditions.{Board, IsSeatOf, position_at}
use Rattle.gt_words.specs.Laws.{own_position, seat_at}
use Rattle.gt_audit.specs.Lines.{line_text, lost_text}
use Rattle.gt_audit.specs.Trails.{TrailState}
use Rattle.gt_text.specs.Printing.{type_text}
use Rattle.gt_live.specs.Domains.{AllowRelation, HasLeft}
use Rattle.gt_live.specs.declared.domain.Departed.{Departed}
use Rattle.gt_live.specs.Starting.{IsNewDomain}
use Rattle.gt_live.specs.declared.domain.Domain.{Domain}
use Rattle.gt_live.specs.declared.monitor.Monitor.{Monitor}
use Rattle.gt_text.specs.Laws.{appends_both, begins_after, keeps_same}
use Rattle.gt_text.specs.Streams.{AppendsBeginning}
use Rattle.gt_script_runs.specs.declared.fault.PlayFault.TheVariants as play_faults
use Rattle.gt_run.specs.Asking.{Stand}
use Rattle.gt_run.specs.Faults.{run_out_of_memory}
use Rattle.gt_run.specs.Joining.{AreGathered, AreOfThisRun, AreOnRun, BeginsFirst, IsLate, IsOfThisRun, IsTakenIn}
use Rattle.gt_run.specs.Joining.{JoinsWhere, MayTakeIn, ShowTogether, WritesNext, WroteStarted, views_in}
use Rattle.gt_run.specs.Printing.{AreAtGate, AreJobsOf, BeginsLists, BeginsRunText, IsOutputOfJob, HasViewIn, LeavesSeat, PrintsOn, Served}
use Rattle.gt_run.specs.Printing.{ShowOneState, WasServed, WritesLists}
use Rattle.gt_run.specs.Printing.{all_lost, audits_in, jobs_in, promised, texts_in}
use Rattle.gt_run.specs.Runs.{Wrote, WroteLists}
use Rattle.gt_run.specs.Serving.{AreReady, IsBegun, IsFirst, IsReady, IsServed, Serves, ServesAll, ServesSome}
use Rattle.gt_run.specs.Serving.{list_start, audit_lines, counted, lost_in}
use Rattle.gt_run.specs.declared.fault.RunFault.{RunFault}
use Rattle.gt_run.specs.declared.fault.RunFault.TheVariants.{Play, Thread}
use Rattle.gt_run.specs.declared.lists.JobAtGate.{JobAtGate}
use Rattle.gt_run.specs.declared.lists.ThreadJob.{ThreadJob}
use Rattle.gt_run.specs.declared.lists.DomainPart.{DomainPart}
use Rattle.gt_run.specs.declared.serving.Output.{Output}
use Rattle.gt_run.specs.declared.logging.TrailLogger.{TrailLogger}
use Rattle.gt_run.specs.declared.threads.ThreadRefusal.{ThreadRefusal}
use Rattle.gt_run.specs.declared.threads.ThreadRefusal.TheVariants as refusals

-- what comes of a job

-- no line was served yet
pub begun_not : {P : Type 0} (may : P → AllowRelation) (job : ThreadJob P) (s : Stand P) (text : List ℕ) → text ≡ [] → IsReady may job.monitor.now job.part.dom s → IsBegun may job text
begun_not may job s text none ready =
    record { domain = s.domain; first = ready.1; number = 0; left = list_start s.domain; leads = refl; prints = none }

begun : {P : Type 0} (may : P → AllowRelation) (job : ThreadJob P) (d : Domain) (text : List ℕ) → IsFirst may job.monitor.now job.part.dom d → ServesSome may job d text → IsBegun may job text
begun may job d text first s = record { domain = d; first = first; number = s.number; left = s.left; leads = s.leads; prints = s.prints }

served : {P : Type 0} (may : P → AllowRelation) (refuses : ℕ → Bool) (job : ThreadJob P) (d e : Domain) (text : List ℕ) (t : Option TrailLogger) (l : Departed) → IsFirst may job.monitor.now job.part.dom d
    → HasLeft job.monitor.now.words.layout e l → (s : ServesAll may refuses job d text e t) → IsServed may refuses job s.left.outcomes text l
served may refuses job d e text t l first leaves s = record {
  domain = d;
  first = first;
  number = s.number;
  left = s.left;
  leads = s.leads;
  came = refl;
  last = s.last;
  ends = s.ends;
  prints = s.prints;
  leaves = subst (λ (x : Domain). HasLeft job.monitor.now.words.layout x l) (sym s.domain) leaves;
}

if_ok_as : {V E : Type 0} (r : Result V E) (P Q : V → Type 0) → ((v : V) → P v → Q v) → IfOk r P → IfOk r Q
if_ok_as (Ok v) P Q f p = f v p
if_ok_as (Err e) P Q f p = tt

-- a list was served without a log
pub came_plain : {P : Type 0} (may : P → AllowRelation) (refuses : ℕ → Bool) (job : ThreadJob P) (s : Stand P) (e : Domain) (whole : Bool) (t : Option TrailLogger) (o : Output) → IsReady may job.monitor.now job.part.dom s
    → t ≡ None → HasLeft job.monitor.now.words.layout e o.left → Serves may refuses job s.domain whole o.text.items e t → IfOk o.audit (λ a. a.items ≡ []) → o.lost ≡ 0 → IsOutputOfJob whole may refuses job o
came_plain may refuses job s e false t o ready none leaves serves audit lost = begun may job s.domain o.text.items ready.1 serves
came_plain may refuses job s e true (Some t) o ready none leaves serves audit lost = let e : Some t ≡ None = none in cc
came_plain may refuses job s e true None o ready none leaves serves audit lost = (
  serves.left.outcomes,
  served may refuses job s.domain e o.text.items None o.left ready.1 leaves serves,
  if_ok_as o.audit _ _ (λ a is. is ∙ sym (ap (flat_map (line_text (type_text (λ name. name) job.part.types.now))) serves.recorded.0)) audit,
  lost ∙ sym (ap counted serves.recorded.1),
)

-- a list was served with one
pub came_told : {P : Type 0} (may : P → AllowRelation) (refuses : ℕ → Bool) (job : ThreadJob P) (s : Stand P) (e : Domain) (trail : TrailState) (whole : Bool) (t : Option TrailLogger) (u : TrailLogger) (o : Output)
    → IsReady may job.monitor.now job.part.dom s → t ≡ Some u → trail ≡ e.trail → HasLeft job.monitor.now.words.layout e o.left → Serves may refuses job s.domain whole o.text.items e t
    → IfOk o.audit (λ a. a.items ≡ flat_map (line_text (type_text (λ name. name) job.part.types.now)) (map (λ x. x.1) u.log.recorded))
    → o.lost ≡ counted (trail.lost + u.log.lost) → IsOutputOfJob whole may refuses job o
came_told may refuses job s e trail false t u o ready given same leaves serves audit lost = begun may job s.domain o.text.items ready.1 serves
came_told may refuses job s e trail true None u o ready given same leaves serves audit lost = let e : None ≡ Some u = given in cc
came_told may refuses job s e trail true (Some t) u o ready given same leaves serves audit lost =
    let is : t ≡ u = cc given in (
      serves.left.outcomes,
      served may refuses job s.domain e o.text.items (Some t) o.left ready.1 leaves serves,
      if_ok_as o.audit _ _ (λ a of_u. of_u ∙ ap (λ (x : TrailLogger). flat_map (line_text (type_text (λ name. name) job.part.types.now)) (map (λ y. y.1) x.log.recorded)) (sym is)
          ∙ ap (flat_map (line_text (type_text (λ name. name) job.part.types.now))) serves.recorded.1) audit,
      lost ∙ ap (λ (x : TrailLogger). counted (trail.lost + x.log.lost)) (sym is) ∙ ap (λ (x : TrailState). counted (x.lost + t.log.lost)) same ∙ serves.recorded.2,
    )

-- starting

-- one job more
pub jobs_more : {P : Type 0} (m : Monitor P) (logged : Bool) (parts : List DomainPart) (i : ℕ) (p : DomainPart) (ds : List (ThreadJob P)) (d : ThreadJob P) → i < length parts → p ≡ get_or parts i p → d.part ≡ p
    → d.monitor.now ≡ m → is_some d.log ≡ logged → AreJobsOf m logged (take i parts) ds → AreJobsOf m logged (take (i + 1) parts) (ds ++ d ∷ [])
jobs_more {P} m logged parts i p ds d within is of_part over log (same, all) = (
  map-append (λ (x : ThreadJob _). x.part) ds (d ∷ []) ∙ ap (λ l. l ++ d.part ∷ []) same ∙ ap (λ (x : DomainPart). take i parts ++ x ∷ []) (of_part ∙ is)
      ∙ sym (rw add-one (take-suc parts i p within)),
  All-append (λ (x : ThreadJob P). (x.monitor.now ≡ m) × (is_some x.log ≡ logged)) ds (d ∷ []) all
      (All-cons (λ (x : ThreadJob P). (x.monitor.now ≡ m) × (is_some x.log ≡ logged)) d [] (over, log) (All-nil (λ (x : ThreadJob P). (x.monitor.now ≡ m) × (is_some x.log ≡ logged)))),
)

-- a push that did not fail
pub pushed_items : {A V E : Type 0} (r : Result V E) (old more new : List A) (failed : Bool) → new ≡ (if is_ok r then more else old) → failed ≡ false → failed ≡ is_err r → new ≡ more
pushed_items (Ok v) old more new failed items well same = items
pushed_items (Err x) old more new failed items well same = absurd (false≢true (sym well ∙ same))

promised_more : {P G : Type 0} (hs : List (PromisedHandle Output (JobAtGate P G))) (h : PromisedHandle Output (JobAtGate P G)) → promised (hs ++ h ∷ []) ≡ promised hs ++ h.promise.job ∷ []
promised_more {P} {G} hs h = map-append (λ (x : PromisedHandle Output (JobAtGate P G)). x.promise.job) hs (h ∷ [])

-- the thread of one job more was kept
pub jobs_pushed : {P G : Type 0} (m : Monitor P) (parts : List DomainPart) (i : ℕ) (p : DomainPart) (logged : Bool) (hs new : List (PromisedHandle Output (JobAtGate P G))) (h : PromisedHandle Output (JobAtGate P G)) (d : ThreadJob P)
    → i < length parts → p ≡ get_or parts i p → h.promise.job ≡ d → d.part ≡ p → d.monitor.now ≡ m → is_some d.log ≡ logged → new ≡ hs ++ h ∷ []
    → AreJobsOf m logged (take i parts) (promised hs) → AreJobsOf m logged (take (i + 1) parts) (promised new)
jobs_pushed {P} m parts i p logged hs new h d within is kept part over log items are =
    let grown : promised new ≡ promised hs ++ d ∷ [] = ap promised items ∙ promised_more hs h ∙ ap (λ (x : ThreadJob P). promised hs ++ x ∷ []) kept in
    subst (λ (l : List (ThreadJob P)). AreJobsOf m logged (take (i + 1) parts) l) (sym grown) (jobs_more m logged parts i p (promised hs) d within is part over log are)

-- and its gate is that of the others
pub gate_pushed : {P G : Type 0} (gate : G) (hs new : List (PromisedHandle Output (JobAtGate P G))) (h : PromisedHandle Output (JobAtGate P G)) → h.promise.gate.now ≡ gate → new ≡ hs ++ h ∷ [] → AreAtGate gate hs → AreAtGate gate new
gate_pushed {P} {G} gate hs new h is items are =
    subst (AreAtGate gate) (sym items) (All-push (λ (x : PromisedHandle Output (JobAtGate P G)). x.promise.gate.now ≡ gate) hs h are is)

-- the gate of a handle among them
pub gate_at : {P G : Type 0} (gate : G) (all xs rest : List (PromisedHandle Output (JobAtGate P G))) (h : PromisedHandle Output (JobAtGate P G)) → AreAtGate gate all → all ≡ xs ++ h ∷ rest → h.promise.gate.now ≡ gate
gate_at {P} {G} gate all xs rest h are is = by xs (subst (AreAtGate gate) is are)
  where
    by : (ys : List (PromisedHandle Output (JobAtGate P G))) → AreAtGate gate (ys ++ h ∷ rest) → h.promise.gate.now ≡ gate
    by [] all = All-head (λ (x : PromisedHandle Output (JobAtGate P G)). x.promise.gate.now ≡ gate) h rest all
    by (y ∷ ys) all = by ys (All-tail (λ (x : PromisedHandle Output (JobAtGate P G)). x.promise.gate.now ≡ gate) y (ys ++ h ∷ rest) all)

-- the next domain is ready for the next part, and the others for the others
ready_step : {P : Type 0} (may : P → AllowRelation) (m : Monitor P) (stands rest : List (Stand P)) (s : Stand P) (parts : List DomainPart) (i : ℕ) (p : DomainPart) → i < length parts → p ≡ get_or parts i p
    → stands ≡ s ∷ rest → AreReady may m stands (drop i parts) → IsReady may m p.dom s × AreReady may m rest (drop (i + 1) parts)
ready_step may m stands rest s parts i p within is next ready =
    let at : drop i parts ≡ p ∷ drop (i + 1) parts = rw add-one (drop-cons parts i p within ∙ ap (λ (x : DomainPart). x ∷ drop (suc i) parts) (sym is)) in
    subst (λ (l : List DomainPart). AllZip (λ x y. IsReady may m y.dom x) (s ∷ rest) l) at (subst (λ (l : List (Stand _)). AreReady may m l (drop i parts)) next ready)

pub ready_next : {P : Type 0} (may : P → AllowRelation) (m : Monitor P) (stands rest : List (Stand P)) (s : Stand P) (parts : List DomainPart) (i : ℕ) (p : DomainPart) → i < length parts → p ≡ get_or parts i p
    → stands ≡ s ∷ rest → AreReady may m stands (drop i parts) → IsReady may m p.dom s
ready_next may m stands rest s parts i p within is next ready = (ready_step may m stands rest s parts i p within is next ready).0

pub ready_rest : {P : Type 0} (may : P → AllowRelation) (m : Monitor P) (stands rest : List (Stand P)) (s : Stand P) (parts : List DomainPart) (i : ℕ) (p : DomainPart) → i < length parts → p ≡ get_or parts i p
    → stands ≡ s ∷ rest → AreReady may m stands (drop i parts) → AreReady may m rest (drop (i + 1) parts)
ready_rest may m stands rest s parts i p within is next ready = (ready_step may m stands rest s parts i p within is next ready).1

-- joining

-- where nothing goes out, a beginning stays one
keeps_nothing : (a b : Option (List ℕ)) → Keeps a b → Appends a b []
keeps_nothing None b k = tt
keeps_nothing (Some x) None k = absurd k
keeps_nothing (Some x) (Some y) k = k ∙ sym (append-nil x)

begins_kept : (a b c : Option (List ℕ)) (text : List ℕ) → AppendsBeginning a b text → Keeps b c → AppendsBeginning a c text
begins_kept a b c text (n, few, out) k =
    (n, few, subst (λ (l : List ℕ). Appends a c l) (append-nil (take n text)) (appends_both a b c (take n text) [] out (keeps_nothing b c k)))

begins_whole : (a b : Option (List ℕ)) (text : List ℕ) → Appends a b text → AppendsBeginning a b text
begins_whole a b text out = (length text, omega arith, subst (λ (l : List ℕ). Appends a b l) (sym (take-length text)) out)

-- a fault of a run that had begun to write
late_after : (before : Result (Unit {0}) RunFault) (e f : RunFault) → IsLate e → before ≡ Err e → (before ≡ Err f) ⊎ (f ≡ run_out_of_memory) → IsLate f
late_after before e f late is (inl same) = let q : e ≡ f = cc in subst IsLate q late
late_after before e f late is (inr memory) = inl memory

late_now : (r : Result (Unit {0}) RunFault) (well : Unit {0}) (f : RunFault) → r ≡ Ok well → (r ≡ Err f) ⊎ (f ≡ run_out_of_memory) → IsLate f
late_now r well f was (inl same) = cc
late_now r well f was (inr memory) = inl memory

-- one list more
goes_on : {P : Type 0} (may : P → AllowRelation) (rest : List (ThreadJob P)) (d : ThreadJob P) (text : List ℕ) → PrintsOn may rest text → PrintsOn may (rest ++ d ∷ []) text
goes_on may [] d text none = inl none
goes_on may (next ∷ rest) d text on = on

begins_more : {P : Type 0} (may : P → AllowRelation) (refuses : ℕ → Bool) (ds : List (ThreadJob P)) (d : ThreadJob P) (old now new : Option (List ℕ)) → BeginsLists may refuses ds old now → Keeps now new → BeginsLists may refuses (ds ++ d ∷ []) old new
begins_more may refuses ds d old now new (all, rest, text, same, are, on, out) kept = (
  all,
  rest ++ d ∷ [],
  text,
  sym (append_assoc (jobs_in all) rest (d ∷ [])) ∙ ap (λ l. l ++ d ∷ []) same,
  are,
  goes_on may rest d text on,
  begins_kept old now new (texts_in all ++ text) out kept,
)

texts_behind : {P : Type 0} (all : List (Served P)) (s : Served P) → texts_in (all ++ s ∷ []) ≡ texts_in all ++ s.text
texts_behind all s = flat_map-append (λ (x : Served _). x.text) all (s ∷ []) ∙ ap (λ (l : List ℕ). texts_in all ++ l) (append-nil s.text)

audits_behind : {P : Type 0} (all : List (Served P)) (s : Served P) → audits_in (all ++ s ∷ []) ≡ audits_in all ++ audit_lines s.job.part.types.now s.outcomes
audits_behind all s =
    flat_map-append (λ (x : Served _). audit_lines x.job.part.types.now x.outcomes) all (s ∷ [])
    ∙ ap (λ (l : List ℕ). audits_in all ++ l) (append-nil (audit_lines s.job.part.types.now s.outcomes))

all_lost_behind : {P : Type 0} (all : List (Served P)) (s : Served P) → all_lost (all ++ s ∷ []) ≡ all_lost all + lost_in s.outcomes
all_lost_behind all s = sum_by-append (λ (x : Served _). lost_in x.outcomes) all (s ∷ []) ∙ ap (λ (n : ℕ). all_lost all + n) (omega arith)

jobs_behind : {P : Type 0} (all : List (Served P)) (s : Served P) (ds : List (ThreadJob P)) → jobs_in all ≡ ds → jobs_in (all ++ s ∷ []) ≡ ds ++ s.job ∷ []
jobs_behind all s ds same = map-append (λ (x : Served _). x.job) all (s ∷ []) ∙ ap (λ l. l ++ s.job ∷ []) same

both_ok : {V E : Type 0} (r : Result V E) (P Q : V → Type 0) → IsOk r → IfOk r P → IfOk r Q → (v : V) × P v × Q v
both_ok (Ok v) P Q ok p q = (v, p, q)
both_ok (Err e) P Q ok p q = let o : false ≡ true = ok in cc

-- the lists that were served, and one more
lists_more : {P : Type 0} (may : P → AllowRelation) (refuses : ℕ → Bool) (all : List (Served P)) (s : Served P) (ds : List (ThreadJob P)) (old now new : Option (List ℕ)) → WritesLists may refuses ds all old now
    → WasServed may refuses s → Appends now new s.text → WritesLists may refuses (ds ++ s.job ∷ []) (all ++ s ∷ []) old new
lists_more {P} may refuses all s ds old now new (same, are, out) is more = (
  jobs_behind all s ds same,
  All-append (WasServed may refuses) all (s ∷ []) are (All-cons (WasServed may refuses) s [] is (All-nil (WasServed may refuses))),
  subst (λ (l : List ℕ). Appends old new l) (sym (texts_behind all s)) (appends_both old now new (texts_in all) s.text out more),
)

-- the same, of which a beginning went out
begins_served : {P : Type 0} (may : P → AllowRelation) (refuses : ℕ → Bool) (all : List (Served P)) (s : Served P) (ds : List (ThreadJob P)) (old now new : Option (List ℕ)) → WritesLists may refuses ds all old now
    → WasServed may refuses s → AppendsBeginning now new s.text → BeginsLists may refuses (ds ++ s.job ∷ []) old new
begins_served {P} may refuses all s ds old now new (same, are, out) is more = (
  all ++ s ∷ [],
  [],
  [],
  append-nil (jobs_in (all ++ s ∷ [])) ∙ jobs_behind all s ds same,
  All-append (WasServed may refuses) all (s ∷ []) are (All-cons (WasServed may refuses) s [] is (All-nil (WasServed may refuses))),
  refl,
  subst (λ (l : List ℕ). AppendsBeginning old new l) (sym (append-nil (texts_in (all ++ s ∷ [])) ∙ texts_behind all s))
      (begins_after old now new (texts_in all) s.text out more),
)

begins_next : {P : Type 0} (may : P → AllowRelation) (refuses : ℕ → Bool) (all : List (Served P)) (d : ThreadJob P) (text : List ℕ) (ds : List (ThreadJob P)) (old now new : Option (List ℕ)) → WritesLists may refuses ds all old now
    → IsBegun may d text → AppendsBeginning now new text → BeginsLists may refuses (ds ++ d ∷ []) old new
begins_next may refuses all d text ds old now new (same, are, out) is more = (
  all,
  d ∷ [],
  text,
  ap (λ l. l ++ d ∷ []) same,
  are,
  inr is,
  begins_after old now new (texts_in all) text out more,
)

-- a list that was joined, of which a beginning went out
begins_one : {P : Type 0} (may : P → AllowRelation) (refuses : ℕ → Bool) (all : List (Served P)) (d : ThreadJob P) (whole : Bool) (o : Output) (ds : List (ThreadJob P)) (old now new : Option (List ℕ)) → WritesLists may refuses ds all old now
    → IsOutputOfJob whole may refuses d o → AppendsBeginning now new o.text.items → BeginsLists may refuses (ds ++ d ∷ []) old new
begins_one may refuses all d true o ds old now new lists came out =
    begins_served may refuses all (record { job = d; outcomes = came.0; text = o.text.items; departed = o.left }) ds old now new lists came.1 out
begins_one may refuses all d false o ds old now new lists came out = begins_next may refuses all d o.text.items ds old now new lists came out

not_ok : {E : Type 0} (e : E) → IsOk {T = Unit {0}} (Err e) → ⊥
not_ok e ok = let o : false ≡ true = ok in cc

ok_not_err : {V E : Type 0} (v : V) (e : E) → Ok v ≡ Err e → ⊥
ok_not_err v e same = cc

not_true : IsTrue false → ⊥
not_true is = let o : false ≡ true = is in cc

count_more : (most a b l0 lost l1 : ℕ) → l1 ≡ min (l0 + lost) most → l0 ≡ min a most → lost ≡ min b most → l1 ≡ min (a + b) most
count_more most a b l0 lost l1 is before more = omega (arith, is, before, more)

-- a list was joined, and all went well
joins_well : {P : Type 0} (Q Q' : List (Served P) → Type 0) (may : P → AllowRelation) (refuses : ℕ → Bool) (ds : List (ThreadJob P)) (d : ThreadJob P) (o : Output) (a0 a1 : List ℕ) (l0 l1 : ℕ) (old now new : Option (List ℕ))
    → ((all : List (Served P)) (s : Served P) → s.departed ≡ o.left → Q all → Q' (all ++ s ∷ []))
    → JoinsWhere Q may refuses ds a0 l0 old now (Ok tt) → Appends now new o.text.items → IfOk o.audit (λ more. a1 ≡ a0 ++ more.items) → IsOk o.audit
    → l1 ≡ counted (l0 + o.lost) → IsOutputOfJob true may refuses d o → JoinsWhere Q' may refuses (ds ++ d ∷ []) a1 l1 old new (Ok tt)
joins_well {P} Q Q' may refuses ds d o a0 a1 l0 l1 old now new grows (all, lists, audit, count, q) out more ok lost came =
    let s : Served P = record { job = d; outcomes = came.0; text = o.text.items; departed = o.left } in
    let both = both_ok o.audit (λ a. a1 ≡ a0 ++ a.items) (λ a. a.items ≡ audit_lines d.part.types.now came.0) ok more came.2 in (
      all ++ s ∷ [],
      lists_more may refuses all s ds old now new lists came.1 out,
      both.1 ∙ ap (λ (l : List ℕ). l ++ both.0.items) audit ∙ ap (λ (l : List ℕ). audits_in all ++ l) both.2 ∙ sym (audits_behind all s),
      count_more (2 ^ 64 - 1) (all_lost all) (lost_in came.0) l0 o.lost l1 lost count came.3 ∙ sym (ap counted (all_lost_behind all s)),
      grows all s refl q,
    )

-- what is known of all threads that were joined, where one more is
joins_on : {P : Type 0} (Q Q' : List (Served P) → Type 0) (may : P → AllowRelation) (refuses : ℕ → Bool) (ds : List (ThreadJob P)) (d : ThreadJob P) (whole : Bool) (o : Output) (a0 a1 : List ℕ) (l0 l1 : ℕ) (r0 r1 r2 : Result (Unit {0}) RunFault)
    (old now new : Option (List ℕ))
    → ((all : List (Served P)) (s : Served P) → s.departed ≡ o.left → Q all → Q' (all ++ s ∷ []))
    → JoinsWhere Q may refuses ds a0 l0 old now r0
    → WritesNext r0 whole o.text.items now new r1
    → OnOk r2 (IsOk r1 × IfOk o.audit (λ more. a1 ≡ a0 ++ more.items) × IsOk o.audit)
    → IfErr r2 (λ e. (r1 ≡ Err e) ⊎ (e ≡ run_out_of_memory))
    → l1 ≡ counted (l0 + o.lost) → IsOutputOfJob whole may refuses d o
    → JoinsWhere Q' may refuses (ds ++ d ∷ []) a1 l1 old new r2
joins_on Q Q' may refuses ds d whole o a0 a1 l0 l1 r0 (Err f) (Ok x) old now new grows i w k e lost came = absurd (not_ok f k.0)
joins_on Q Q' may refuses ds d whole o a0 a1 l0 l1 (Err f) (Ok c) (Ok x) old now new grows i w k e lost came = absurd (ok_not_err c f w.0)
joins_on Q Q' may refuses ds d false o a0 a1 l0 l1 (Ok b) (Ok c) (Ok x) old now new grows i w k e lost came = absurd (not_true w.0)
joins_on Q Q' may refuses ds d true o a0 a1 l0 l1 (Ok b) (Ok c) (Ok x) old now new grows i w k e lost came =
    joins_well Q Q' may refuses ds d o a0 a1 l0 l1 old now new grows i w.1 k.1 k.2 lost came
joins_on Q Q' may refuses ds d whole o a0 a1 l0 l1 (Err f) r1 (Err g) old now new grows i w k e lost came = (late_after r1 f g i.0 w.0 e, begins_more may refuses ds d old now new i.1 w.1)
joins_on Q Q' may refuses ds d whole o a0 a1 l0 l1 (Ok b) (Ok c) (Err g) old now new grows (all, lists, audit, count, q) w k e lost came =
    (late_now (Ok c) c g refl e, begins_one may refuses all d whole o ds old now new lists came (begins_whole now new o.text.items w.1))
joins_on Q Q' may refuses ds d whole o a0 a1 l0 l1 (Ok b) (Err f) (Err g) old now new grows (all, lists, audit, count, q) w k e lost came =
    (late_after (Err f) f g w.0 refl e, begins_one may refuses all d whole o ds old now new lists came w.1)

-- gathering

-- what one domain more left is among what was gathered
pub gathered_more : {P : Type 0} (b : Board) (old : Option GatheredOf) (l : Departed) (g : GatheredOf) (all : List (Served P)) (s : Served P) → IsTakenIn b old l g → s.departed ≡ l → AreGathered (views_in old) all
    → AreGathered g.views (all ++ s ∷ [])
gathered_more {P} b old l g all s taken is are =
    All-push (λ (x : Served P). IsAmong x.departed.seat.view g.views) all s
    (All-weaker (λ (x : Served P). IsAmong x.departed.seat.view (views_in old)) (λ (x : Served P). IsAmong x.departed.seat.view g.views) (λ x. taken.2 x.departed.seat.view) all are)
    (subst (λ (x : Departed). IsAmong x.seat.view g.views) (sym is) taken.1)

-- before the first view, and behind it
in-with : (v w : View) (us : List View) → us ≢ [] → ((w ≡ v) ⊎ IsAmong w us) → IsAmong w (with_view v us)
in-with v w [] more is = absurd (more refl)
in-with v w (u ∷ us) more (inl is) = inr (inl is)
in-with v w (u ∷ us) more (inr (inl is)) = inl is
in-with v w (u ∷ us) more (inr (inr is)) = inr (inr is)

still-some : (v : View) (us : List View) → us ≢ [] → with_view v us ≢ []
still-some v [] more e = absurd (more refl)
still-some v (u ∷ us) more e = cc

pub taken_first : (b : Board) (l : Departed) (g : GatheredOf) → g.table ≡ b.table → g.views ≡ l.seat.view ∷ [] → IsTakenIn b None l g
taken_first b l g table views = ((table, λ e. no-views l.seat.view (sym views ∙ e)), subst (IsAmong l.seat.view) (sym views) (inl refl), λ v is. absurd is)
  where
    no-views : (v : View) → v ∷ [] ≡ [] → ⊥
    no-views v e = cc

pub taken_more : (b : Board) (old g : GatheredOf) (l : Departed) → IsOfThisRun b old → g.table ≡ old.table → g.views ≡ with_view l.seat.view old.views → IsTakenIn b (Some old) l g
taken_more b old g l of table views = (
  (table ∙ of.0, λ e. still-some l.seat.view old.views of.1 (sym views ∙ e)),
  subst (IsAmong l.seat.view) (sym views) (in-with l.seat.view l.seat.view old.views of.1 (inl refl)),
  λ v is. subst (IsAmong v) (sym views) (in-with l.seat.view v old.views of.1 (inr is)),
)

in-state : (s : State (Unit {0}) View) (us : List View) (v : View) → AreIn s.views us → IsAmong v us → get_elem? s.views v.position ≡ some v
in-state s [] v are is = absurd is
in-state s (u ∷ us) v are (inl is) = subst (λ (x : View). get_elem? s.views x.position ≡ some x) (sym is) are.0
in-state s (u ∷ us) v are (inr is) = in-state s us v are.1 is

-- the words and the views that were gathered show one state
one-state : {P : Type 0} (m : Monitor P) (us : List View) (all : List (Served P)) → StandTogether m.words.layout us → All (λ d. d.monitor.now ≡ m) (jobs_in all) → AreGathered us all → ShowOneState all
one-state m us [] together on are = tt
one-state {P} m us (x ∷ xs) together on are =
    let same : x.job.monitor.now ≡ m = All-head (λ (d : ThreadJob P). d.monitor.now ≡ m) x.job (jobs_in xs) on in (
      together.0,
      subst (λ (n : Monitor P). Shows n.words.layout together.0) (sym same) together.1,
      All-weaker (λ (y : Served P). IsAmong y.departed.seat.view us) (HasViewIn together.0) (λ y. in-state together.0 us y.departed.seat.view together.2) (x ∷ xs) are,
    )

-- nothing was gathered, so no list was served
no-state : {P : Type 0} (all : List (Served P)) → AreGathered [] all → ShowOneState all
no-state [] are = tt
no-state {P} (x ∷ xs) are = absurd (All-head (λ (y : Served P). IsAmong y.departed.seat.view []) x xs are)

pub joined_together : {P : Type 0} (may : P → AllowRelation) (refuses : ℕ → Bool) (m : Monitor P) (ds : List (ThreadJob P)) (us : List View) (audit : List ℕ) (lost : ℕ) (old new : Option (List ℕ)) (r : Result (Unit {0}) RunFault)
    → All (λ d. d.monitor.now ≡ m) ds → ShowTogether m.words.layout us → JoinsWhere (AreGathered us) may refuses ds audit lost old new r → JoinsWhere ShowOneState may refuses ds audit lost old new r
joined_together {P} may refuses m ds us audit lost old new (Ok done) on (inr together) (all, lists, a, l, q) =
    (all, lists, a, l, one-state m us all together (subst (All (λ (d : ThreadJob P). d.monitor.now ≡ m)) (sym lists.0) on) q)
joined_together {P} may refuses m ds us audit lost old new (Ok done) on (inl none) (all, lists, a, l, q) =
    (all, lists, a, l, no-state all (subst (λ (vs : List View). AreGathered vs all) none q))
joined_together may refuses m ds us audit lost old new (Err e) on together j = j

-- the seat that gathered the others may learn of all, since what a domain left may be taken in
yields_front : {X Z : Type 0} (s : IntoIter X Z) (xs : List X) (t : IntoIter X Z) → Yields into_iter_steps s xs t → into_iter_items s ≡ xs ++ into_iter_items t
yields_front s [] t y = ap into_iter_items y
yields_front s (x ∷ xs) t y = y.1.0 ∙ ap (λ ys. x ∷ ys) (yields_front y.0 xs t y.2)

-- the next handle, and those before and after it
pub next_handle : {X Z : Type 0} (all : List X) (s : IntoIter X Z) (xs : List X) (t u : IntoIter X Z) (x : X) → into_iter_items s ≡ all → Yields into_iter_steps s xs t → into_iter_steps t (Some x) u → all ≡ xs ++ x ∷ into_iter_items u
next_handle all s xs t u x is y step = sym is ∙ yields_front s xs t y ∙ ap (λ l. xs ++ l) step.0

on_run_at : {P : Type 0} (m : Monitor P) (before rest : List (ThreadJob P)) (d : ThreadJob P) → All (λ x. x.monitor.now ≡ m) (before ++ d ∷ rest) → d.monitor.now ≡ m
on_run_at {P} m [] rest d all = All-head (λ (x : ThreadJob P). x.monitor.now ≡ m) d rest all
on_run_at {P} m (x ∷ before) rest d all = on_run_at m before rest d (All-tail (λ (y : ThreadJob P). y.monitor.now ≡ m) x (before ++ d ∷ rest) all)

may_take : {P : Type 0} (m : Monitor P) (gathered : Option GatheredOf) (l : Departed) (before rest : List (ThreadJob P)) (d : ThreadJob P) → AreOnRun m (before ++ d ∷ rest) → AreOfThisRun m.words gathered
    → (gathered ≡ None → before ≡ []) → LeavesSeat d l → MayTakeIn m.words gathered l
may_take {P} m (Some g) l before rest d on of none left =
    (subst (λ (n : Monitor P). IsSeatOf n.words l.seat) (on_run_at m before rest d on.0) left.0, of)
may_take {P} m None l before rest d on of none left =
    let first = subst (λ (ds : List (ThreadJob P)). BeginsFirst m.words (map (λ x. x.part) (ds ++ d ∷ rest))) (none refl) on.1 in
    let seat : IsSeatOf m.words l.seat = subst (λ (n : Monitor P). IsSeatOf n.words l.seat) (on_run_at m before rest d on.0) left.0 in
    (seat, seat_at m.config m.words l.seat m.limits.distinct m.same_run seat ∙ ap (position_at m.words) left.1 ∙ first)

pub may_take_next : {P G : Type 0} (m : Monitor P) (gathered : Option GatheredOf) (l : Departed) (all xs rest : List (PromisedHandle Output (JobAtGate P G))) (h : PromisedHandle Output (JobAtGate P G)) → AreOnRun m (promised all) → all ≡ xs ++ h ∷ rest
    → AreOfThisRun m.words gathered → (gathered ≡ None → xs ≡ []) → LeavesSeat h.promise.job l → MayTakeIn m.words gathered l
may_take_next {P} {G} m gathered l all xs rest h on is of none left =
    may_take m gathered l (promised xs) (promised rest) h.promise.job
    (subst (AreOnRun m) (ap promised is ∙ map-append (λ (x : PromisedHandle Output (JobAtGate P G)). x.promise.job) xs (h ∷ rest)) on) of (λ e. ap promised (none e)) left

-- one thread more was joined
pub joins_next : {P G : Type 0} (may : P → AllowRelation) (refuses : G → ℕ → Bool) (gate : G) (b : Board) (hs : List (PromisedHandle Output (JobAtGate P G))) (h : PromisedHandle Output (JobAtGate P G)) (o : Output) (a0 a1 : List ℕ) (l0 l1 : ℕ) (r0 r1 r2 : Result (Unit {0}) RunFault)
    (old now new : Option (List ℕ)) (g0 : Option GatheredOf) (g1 : GatheredOf)
    → h.promise.gate.now ≡ gate
    → IsTakenIn b g0 o.left g1
    → JoinsWhere (AreGathered (views_in g0)) may (refuses gate) (promised hs) a0 l0 old now r0
    → WritesNext r0 o.whole o.text.items now new r1
    → OnOk r2 (IsOk r1 × IfOk o.audit (λ more. a1 ≡ a0 ++ more.items) × IsOk o.audit)
    → IfErr r2 (λ e. (r1 ≡ Err e) ⊎ (e ≡ run_out_of_memory))
    → l1 ≡ counted (l0 + o.lost) → IsOutputOfJob o.whole may (refuses h.promise.gate.now) h.promise.job o
    → JoinsWhere (AreGathered g1.views) may (refuses gate) (promised (hs ++ h ∷ [])) a1 l1 old new r2
joins_next {P} {G} may refuses gate b hs h o a0 a1 l0 l1 r0 r1 r2 old now new g0 g1 here taken i w k e lost came =
    subst (λ l. JoinsWhere (AreGathered g1.views) may (refuses gate) l a1 l1 old new r2) (sym (promised_more hs h))
    (joins_on (AreGathered (views_in g0)) (AreGathered g1.views) may (refuses gate) (promised hs) h.promise.job o.whole o a0 a1 l0 l1 r0 r1 r2 old now new
    (λ all s is are. gathered_more b g0 o.left g1 all s taken is are) i w k e lost (subst (λ (x : G). IsOutputOfJob o.whole may (refuses x) h.promise.job o) here came))

-- before the first thread is joined
pub joins_none : {P : Type 0} (may : P → AllowRelation) (refuses : ℕ → Bool) (old : Option (List ℕ)) (audit : List ℕ) → audit ≡ [] → JoinsWhere (AreGathered []) may refuses [] audit 0 old old (Ok tt)
joins_none may refuses None audit none = ([], (refl, All-nil _, tt), none, refl, All-nil _)
joins_none may refuses (Some xs) audit none = ([], (refl, All-nil _, sym (append-nil xs)), none, refl, All-nil _)

-- a fault that came late
late_wrote : {P : Type 0} (may : P → AllowRelation) (refuses : ℕ → Bool) (ds : List (ThreadJob P)) (e : RunFault) (old new : Option (List ℕ)) → IsLate e → BeginsLists may refuses ds old new ⊎ BeginsRunText may refuses ds old new
    → WroteLists may refuses ds old new (Err e)
late_wrote may refuses ds e old new (inl memory) begun = subst (λ (f : RunFault). WroteLists may refuses ds old new (Err f)) (sym memory) begun
late_wrote may refuses ds e old new (inr write) begun = subst (λ (f : RunFault). WroteLists may refuses ds old new (Err f)) (sym write) begun

-- a fault stopped the threads' lines
pub wrote_lines : {P : Type 0} (Q : List (Served P) → Type 0) (may : P → AllowRelation) (refuses : ℕ → Bool) (ds : List (ThreadJob P)) (all : Option ThreadRefusal) (r : Result (Unit {0}) RunFault) (e : RunFault) (audit : List ℕ) (lost : ℕ) (old new : Option (List ℕ))
    → r ≡ Err e → all ≡ None → JoinsWhere Q may refuses ds audit lost old new r → WroteStarted may refuses all ds old new (Err e)
wrote_lines Q may refuses ds all r e audit lost old new is given joined =
    let j = subst (λ (q : Result (Unit {0}) RunFault). JoinsWhere Q may refuses ds audit lost old new q) is joined in
    subst (λ (b : Option ThreadRefusal). WroteStarted may refuses b ds old new (Err e)) (sym given) (late_wrote may refuses ds e old new j.0 (inl j.1))

-- the audit lines went out too, or a beginning of them
wrote_end : {P : Type 0} (may : P → AllowRelation) (refuses : ℕ → Bool) (ds : List (ThreadJob P)) (all : List (Served P)) (r : Result (Unit {0}) RunFault) (audit : List ℕ) (lost : ℕ) (old now new : Option (List ℕ))
    → WritesLists may refuses ds all old now → audit ≡ audits_in all → lost ≡ counted (all_lost all) → ShowOneState all
    → OnOk r (Appends now new (audit ++ lost_text lost)) → AppendsBeginning now new (audit ++ lost_text lost) → IfErr r IsLate → WroteLists may refuses ds old new r
wrote_end may refuses ds all (Ok done) audit lost old now new (same, are, out) a l one end begun late =
    let tail : audit ++ lost_text lost ≡ audits_in all ++ lost_text (counted (all_lost all)) = ap (λ (x : List ℕ). x ++ lost_text lost) a ∙ ap (λ (n : ℕ). audits_in all ++ lost_text n) l in
    (all, same, are, one, appends_both old now new (texts_in all) _ out (subst (λ (x : List ℕ). Appends now new x) tail end))
wrote_end may refuses ds all (Err e) audit lost old now new (same, are, out) a l one end begun late =
    let tail : audit ++ lost_text lost ≡ audits_in all ++ lost_text (counted (all_lost all)) = ap (λ (x : List ℕ). x ++ lost_text lost) a ∙ ap (λ (n : ℕ). audits_in all ++ lost_text n) l in
    late_wrote may refuses ds e old new late (inr (all, same, are, begins_after old now new (texts_in all) _ out (subst (λ (x : List ℕ). AppendsBeginning now new x) tail begun)))

pub wrote_all : {P : Type 0} (may : P → AllowRelation) (refuses : ℕ → Bool) (ds : List (ThreadJob P)) (all : Option ThreadRefusal) (r0 r : Result (Unit {0}) RunFault) (d : Unit {0}) (audit : List ℕ) (lost : ℕ) (old now new : Option (List ℕ))
    → r0 ≡ Ok d → all ≡ None → JoinsWhere ShowOneState may refuses ds audit lost old now r0 → OnOk r (Appends now new (audit ++ lost_text lost)) → AppendsBeginning now new (audit ++ lost_text lost)
    → IfErr r IsLate → WroteStarted may refuses all ds old new r
wrote_all may refuses ds all r0 r d audit lost old now new was given joined out begun late =
    let j = subst (λ (q : Result (Unit {0}) RunFault). JoinsWhere ShowOneState may refuses ds audit lost old now q) was joined in
    subst (λ (b : Option ThreadRefusal). WroteStarted may refuses b ds old new r) (sym given) (wrote_end may refuses ds j.0 r audit lost old now new j.1 j.2 j.3 j.4 out begun late)

-- what jobs wrote of which this is known
wrote_of : {P : Type 0} (may : P → AllowRelation) (refuses : ℕ → Bool) (Are : List (ThreadJob P) → Type 0) (ds : List (ThreadJob P)) (r : Result (Unit {0}) RunFault) (old new : Option (List ℕ)) → Are ds → WroteLists may refuses ds old new r
    → Wrote may refuses Are old new r
wrote_of may refuses Are ds (Ok done) old new are wrote = (ds, are, wrote)
wrote_of may refuses Are ds (Err Thread) old new are wrote = wrote
wrote_of may refuses Are ds (Err (Play play_faults.Memory)) old new are wrote = inr (ds, are, wrote)
wrote_of may refuses Are ds (Err (Play play_faults.Write)) old new are wrote = (ds, are, wrote)
wrote_of may refuses Are ds (Err (Play play_faults.Read)) old new are wrote = absurd wrote
wrote_of may refuses Are ds (Err (Play (play_faults.Script fault))) old new are wrote = absurd wrote
wrote_of may refuses Are ds (Err (Play (play_faults.Policy fault))) old new are wrote = absurd wrote

-- the threads that were started are those of these jobs, where all were
pub wrote_started : {P : Type 0} (may : P → AllowRelation) (refuses : ℕ → Bool) (Are : List (ThreadJob P) → Type 0) (all : Option ThreadRefusal) (hs : List (ThreadJob P)) (r : Result (Unit {0}) RunFault) (old new : Option (List ℕ))
    → (all ≡ None → Are hs) → WroteStarted may refuses all hs old new r → Wrote may refuses Are old new r
wrote_started may refuses Are None hs r old new are wrote = wrote_of may refuses Are hs r old new (are refl) wrote
wrote_started may refuses Are (Some refusals.Memory) hs r old new are wrote = subst (λ (q : Result (Unit {0}) RunFault). Wrote may refuses Are old new q) (sym wrote.0) (inl wrote.1)
wrote_started may refuses Are (Some refusals.Thread) hs r old new are wrote = subst (λ (q : Result (Unit {0}) RunFault). Wrote may refuses Are old new q) (sym wrote.0) wrote.1

-- more is known of the jobs
pub wrote_as : {P : Type 0} (may : P → AllowRelation) (refuses : ℕ → Bool) (Are Be : List (ThreadJob P) → Type 0) (r : Result (Unit {0}) RunFault) (old new : Option (List ℕ)) → ((ds : List (ThreadJob P)) → Are ds → Be ds)
    → Wrote may refuses Are old new r → Wrote may refuses Be old new r
wrote_as may refuses Are Be (Ok done) old new f (ds, are, wrote) = (ds, f ds are, wrote)
wrote_as may refuses Are Be (Err Thread) old new f wrote = wrote
wrote_as may refuses Are Be (Err (Play play_faults.Memory)) old new f (inl kept) = inl kept
wrote_as may refuses Are Be (Err (Play play_faults.Memory)) old new f (inr (ds, are, wrote)) = inr (ds, f ds are, wrote)
wrote_as may refuses Are Be (Err (Play play_faults.Write)) old new f (ds, are, wrote) = (ds, f ds are, wrote)
wrote_as may refuses Are Be (Err (Play play_faults.Read)) old new f wrote = absurd wrote
wrote_as may refuses Are Be (Err (Play (play_faults.Script fault))) old new f wrote = absurd wrote
wrote_as may refuses Are Be (Err (Play (play_faults.Policy fault))) old new f wrote = absurd wrote

-- no memory, and nothing was written yet
pub wrote_none : {P : Type 0} (may : P → AllowRelation) (refuses : ℕ → Bool) (Are : List (ThreadJob P) → Type 0) (e : RunFault) (old : Option (List ℕ)) → e ≡ run_out_of_memory → Wrote may refuses Are old old (Err e)
wrote_none may refuses Are e old is = subst (λ (f : RunFault). Wrote may refuses Are old old (Err f)) (sym is) (inl (keeps_same old))

-- one domain more stands beside its monitor
pub stands_on : {P : Type 0} (m : Monitor P) (before after whole : List (Stand P)) (d : Domain) (s : Stand P) (more rest : List Domain) → after ≡ before ++ s ∷ [] → s ≡ record { monitor = m; domain = d }
    → more ≡ d ∷ rest → before ++ map (λ x. record { monitor = m; domain = x }) more ≡ whole → after ++ map (λ x. record { monitor = m; domain = x }) rest ≡ whole
stands_on {P} m before after whole d s more rest is of_d next all =
    ap (λ (l : List (Stand P)). l ++ map (λ x. record { monitor = m; domain = x }) rest) (is ∙ ap (λ (x : Stand P). before ++ x ∷ []) of_d)
    ∙ append_assoc before (record { monitor = m; domain = d } ∷ []) (map (λ x. record { monitor = m; domain = x }) rest)
    ∙ ap (λ (l : List Domain). before ++ map (λ x. record { monitor = m; domain = x }) l) (sym next) ∙ all

-- the domains of a new monitor are ready for the parts of its configuration
stand_at : {P : Type 0} (may : P → AllowRelation) (m : Monitor P) (ds : List Domain) (parts : List DomainPart) → length ds ≡ length parts
    → ((i : ℕ) → i < length ds → (d : Domain) (p : DomainPart) → IsFirst may m (get_or parts i p).dom (get_or ds i d))
    → AreReady may m (map (λ d. record { monitor = m; domain = d }) ds) parts
stand_at may m [] [] same at = tt
stand_at may m [] (p ∷ parts) same at = absurd (omega (arith, same))
stand_at may m (d ∷ ds) [] same at = absurd (omega (arith, same))
stand_at may m (d ∷ ds) (p ∷ parts) same at = (
  (refl, at 0 (omega arith) d p),
  stand_at may m ds parts (omega (arith, same)) (λ i within e q. at (suc i) (omega (arith, within)) e q),
)

-- a domain at its position has the number of the part there
first_at : {P : Type 0} (may : P → AllowRelation) (m : Monitor P) (domains : List DomainConfig) (parts : List DomainPart) (i : ℕ) (d : Domain) (p : DomainPart) → map (λ (x : DomainPart). x.dom) parts ≡ map (λ (x : DomainConfig). x.id) domains
    → m.words.layout.ids ≡ map (λ (x : DomainConfig). x.id) domains → i < length parts → IsNewDomain m.words m.config (may m.rights) i d → IsFirst may m (get_or parts i p).dom d
first_at may m domains parts i d p same ids within new =
    record {
      position = i;
      fresh = new;
      own = sym new.domain.seat.named ∙ ap (λ (n : ℕ). id_at m.words.layout.ids n) new.seat.position ∙ ap (λ (l : List DomId). id_at l i) (ids ∙ sym same)
          ∙ get_or-map (λ (x : DomainPart). x.dom) parts i p (record { 0 = 0 }) within;
    }

pub ready_all : {P : Type 0} (may : P → AllowRelation) (m : Monitor P) (config : Config) (rights : P) (domains : List Domain) (stands : List (Stand P)) (parts : List DomainPart)
    → map (λ (x : DomainPart). x.dom) parts ≡ map (λ (x : DomainConfig). x.id) config.domains.items → m.config ≡ config → m.rights ≡ rights → length domains ≡ length config.domains.items
    → ((i : ℕ) → i < length config.domains.items → HoldsAt (λ d. IsNewDomain m.words config (may rights) i d) domains i)
    → stands ≡ map (λ d. record { monitor = m; domain = d }) domains → AreReady may m stands parts
ready_all {P} may m config rights domains stands parts same is allows count new are =
    let many : length parts ≡ length config.domains.items = sym (length-map parts (λ (x : DomainPart). x.dom)) ∙ ap length same ∙ length-map config.domains.items (λ (x : DomainConfig). x.id) in
    subst (λ l. AreReady may m l parts) (sym are) (stand_at may m domains parts (count ∙ sym many) (λ i within d p.
    first_at may m config.domains.items parts i (get_or domains i d) p same
    (ap (λ (k : Layout). k.ids) m.same_run ∙ ap (λ (x : Config). map (λ (y : DomainConfig). y.id) x.domains.items) is) (omega (arith, within, count, many))
    (subst (λ (x : Config). IsNewDomain m.words x (may m.rights) i (get_or domains i d)) (sym is)
    (subst (λ (x : P). IsNewDomain m.words config (may x) i (get_or domains i d)) (sym allows) (new i (omega (arith, within, count)) d)))))

-- the first part is that of the domain at the first position
pub begins_first : {P : Type 0} (m : Monitor P) (config : Config) (parts : List DomainPart) → map (λ (x : DomainPart). x.dom) parts ≡ map (λ (x : DomainConfig). x.id) config.domains.items → m.config ≡ config → BeginsFirst m.words parts
begins_first m config [] same is = tt
begins_first m config (p ∷ parts) same is =
    let ids : m.words.layout.ids ≡ p.dom ∷ map (λ (x : DomainPart). x.dom) parts =
    ap (λ (k : Layout). k.ids) m.same_run ∙ ap (λ (x : Config). map (λ (y : DomainConfig). y.id) x.domains.items) is ∙ sym same in
    sym (own_position m.config m.words.layout m.words.layout.ids 0 p.dom (sym m.same_run) m.limits.distinct (ap (λ (k : Layout). k.ids) m.same_run) (omega (arith, ap length ids)) (ap (λ (l : List DomId). id_at l 0) ids))
