-- A domain of a state whose next line's call was answered at its beginning.
use Rattle.std.proofs.Common.{◌≡◌, ◌+◌, ◌≤◌, ℕ, refl, Bool, false, List, [], ◌∷◌, map, Option, Some, None, sym, ap}
use Rattle.std.proofs.Common.{◌∙◌, arith, subst}
use Rattle.gt_types.specs.declared.DomId.{DomId}
use Rattle.gt_types.specs.declared.denial.Denial.{Denial}
use Rattle.gt_types.specs.declared.denial.Field.{Field}
use Rattle.gt_types.specs.declared.denial.Rule.TheVariants.{N20, N22, N9}
use Rattle.gt_model.specs.Bytes.{first_refused}
use Rattle.gt_types.specs.declared.TypeId.{TypeId}
use Rattle.gt_types.specs.declared.perms.Perms.{Perms}
use Rattle.gt_types.specs.declared.rights.Triple.{Triple}
use Rattle.gt_model.specs.declared.header.Header.{Header}
use Rattle.gt_model.specs.declared.handle.Handle.{Handle}
use Rattle.gt_model.specs.declared.action.CallValue.TheVariants.{Frames}
use Rattle.gt_model.specs.declared.action.CallResult.{CallResult}
use Rattle.gt_model.specs.declared.action.CallResult.TheVariants.{Given, Granted, Refused}
use Rattle.gt_model.specs.declared.held.HeldPin.{HeldPin}
use Rattle.gt_model.specs.declared.request.OpenRequest.{OpenRequest}
use Rattle.gt_model.specs.declared.request.OpenRequest.TheVariants.{Copy, GetVersion, Load, Map, Peek, QuerySize}
use Rattle.gt_model.specs.declared.request.OpenRequest.TheVariants.{SetupTable, Probe, Release, Store, Unmap}
use Rattle.gt_model.specs.declared.request.Request.{Request}
use Rattle.gt_model.specs.declared.request.Request.TheVariants as requests
use Rattle.gt_model.specs.Asking.{asked, begun_of, bytes_begun, field_refused}
use Rattle.gt_model.specs.Rules.{CallerKnowledge, begun, denied, first, refused_when}
use Rattle.gt_core.specs.Acting.{answer_of}
use Rattle.gt_model.specs.History.{History, Pin, Setting, Underway, gather, known_at, mapping_named, maps_answered_at}
use Rattle.gt_model.specs.History.{one_if_mapped, open_call, table_at}
use Rattle.gt_model.specs.Legal.{AnsweredBy}
use Rattle.gt_model.specs.declared.trace.Answer.{Answer}
use Rattle.gt_model.specs.declared.trace.ItemEvent.TheVariants.{Began}
use Rattle.gt_model.specs.declared.trace.Item.{Item}
use Rattle.gt_model.proofs.Observers.{KeepsKnown, answered-stays, kept-known, kept-live}
use Rattle.gt_core.proofs.AgreementKept.{open_call-own}
use Rattle.gt_script_runs.specs.Runs.{Named, handle_given, label_given, with_name}
use Rattle.gt_script_lines.specs.declared.calls.ScriptCall.{ScriptCall}
use Rattle.gt_explore_replay.specs.Courses.{Course, Opened, course_answered, resting}
use Rattle.gt_explore_replay.specs.Orders.{given_up, held_after}
use Rattle.gt_script.specs.Lists.{RunTask}
use Rattle.gt_explore_moves.specs.Calls.{LabelsShow, SerialsRise, ShowsCalls, ShowsOpen, handles_at, tasks_open}
use Rattle.gt_explore_moves.specs.Mappings.{labels_of}
use Rattle.gt_explore_moves.specs.declared.actor.Actor.{Actor}
use Rattle.gt_explore_moves.specs.declared.actor.ActorCall.{ActorCall}
use Rattle.gt_explore_moves.proofs.CallOpened.{next-task}
use Rattle.gt_explore_moves.specs.Continuing.{SameKnown}
use Rattle.gt_explore_moves.proofs.OthersStay.{same-handles}
use Rattle.std.proofs.lemmas.Option.{none-some}

-- how a beginning can end

-- a beginning can end so: refused, or Ok if there is nothing to do
abbrev BeginsWith : OpenRequest → Header → CallResult → Type 0
BeginsWith r header (Refused denial) = Unit {0}
BeginsWith (SetupTable frames) header (Given value) = value ≡ Frames header.frames
BeginsWith (SetupTable frames) header verdict = ⊥
BeginsWith (Map dom gref flags) header verdict = ⊥
BeginsWith (Unmap handle) header verdict = ⊥
BeginsWith (Release handle) header verdict = ⊥
BeginsWith (Load handle off len) header verdict = ⊥
BeginsWith (Store handle off len) header verdict = ⊥
BeginsWith (Peek frame off len) header verdict = ⊥
BeginsWith (QuerySize dom) header verdict = ⊥
BeginsWith (GetVersion dom) header verdict = ⊥
BeginsWith r header Granted = Unit {0}
BeginsWith r header verdict = ⊥

abbrev IsRefused : CallResult → Type 0
IsRefused (Refused denial) = Unit {0}
IsRefused verdict = ⊥

denied-so : (may : TypeId → TypeId → Perms → Bool) (ts : List Triple) (v : CallResult) → denied may ts ≡ Some v → IsRefused v
denied-so may [] v e = absurd (none-some v e)
denied-so may (t ∷ ts) v e = grind (arith, denied-so may ts)

begins-with : (k : CallerKnowledge) (d : DomId) (r : OpenRequest) (v : CallResult) → begun k d r ≡ Some v → BeginsWith r k.header v
begins-with k d (SetupTable frames) v e = grind (arith, denied-so)
begins-with k d (Map dom gref flags) v e = grind (arith, denied-so)
begins-with k d (Unmap handle) v e = grind (arith, denied-so)
begins-with k d (QuerySize dom) v e = grind (arith, denied-so)
begins-with k d (GetVersion dom) v e = grind (arith, denied-so)
begins-with k d (Copy c) v e = grind (arith, denied-so)
begins-with k d (Probe c) v e = grind (arith, denied-so)
begins-with k d r v e = grind arith

refused-so : (b c e : Bool) (f : Option Field) (v : CallResult) → first (refused_when b N9 ∷ refused_when c N20 ∷ refused_when e N22 ∷ field_refused f ∷ []) ≡ Some v → IsRefused v
refused-so b c e f v is = grind arith

bytes-refused : (header : Header) (k : CallerKnowledge) (r : ℕ) (bytes : List ℕ) (v : CallResult) → bytes_begun header (k.entry r) (k.generation r) r bytes ≡ Some v → IsRefused v
bytes-refused header k r bytes v e = refused-so _ _ _ (first_refused header.version bytes) v e

refused-with : (r : OpenRequest) (header : Header) (v : CallResult) → IsRefused v → BeginsWith r header v
refused-with r header (Refused denial) is = tt
refused-with r header v is = absurd is

pub begins-of : (k : CallerKnowledge) (d : DomId) (q : Request) (v : CallResult) → begun_of k d q ≡ Some v → BeginsWith (asked q) k.header v
begins-of k d (requests.GrantBytes gref bytes) v e = refused-with (asked (requests.GrantBytes gref bytes)) k.header v (bytes-refused k.header k gref.0 bytes.now v e)
begins-of k d q v e = begins-with k d (asked q) v e

-- its answer

pub answer-is : (s : Setting) (h : History) (d : DomId) (r : OpenRequest) (v : CallResult) (answer : Answer) (against : Option Denial) → BeginsWith r (table_at s h d) v → AnsweredBy s h d r None false (Some v) (Some answer) against → answer ≡ answer_of v
answer-is s h d r v answer against begins by = grind arith

gives-none : (v : CallResult) → handle_given (answer_of v) ≡ None
gives-none v = grind arith

-- a call that is answered at its beginning drops no mapping
keeps-all : (held : List Handle) (q : Request) (header : Header) (v : CallResult) → BeginsWith (asked q) header v → held_after held (given_up q) (answer_of v) ≡ held
keeps-all held (requests.Unmap handle) header (Refused denial) begins = refl
keeps-all held (requests.Unmap handle) header v begins = absurd begins
keeps-all held (requests.Release handle) header (Refused denial) begins = refl
keeps-all held (requests.Release handle) header v begins = absurd begins
keeps-all held q header v begins = grind arith

-- the beginning of a call that is answered at once
abbrev pub began_so : DomId → Request → Answer → Item
began_so d q answer = record { actor = d; happened = Began q; answer = Some answer }

begun-same : (s : Setting) (h : History) (d : DomId) (q : Request) (v : CallResult) → SameKnown s h (began_so d q (answer_of v) ∷ h) d
begun-same s h d q v = let i = began_so d q (answer_of v) in
    let none : one_if_mapped (Some (answer_of v)) ≡ 0 = grind arith in
    let keeps : KeepsKnown i = record { changes = λ r. refl; pins = λ before ps. refl; unpins = λ pins. refl; maps = none } in record {
      mappings = ap (λ (ps : List Pin). gather mapping_named d.0 ps) (kept-live i h keeps);
      answered = answered-stays h i d.0 none;
      known = kept-known s i h d keeps refl;
    }

-- at rest a domain has nothing open, and holds the handles of all its mappings
at-rest : (s : Setting) (h : History) (tasks : List RunTask) (k : Course) (next : ℕ) (opened : Opened) (c : Option Underway) (o : Option ActorCall) → opened ≡ resting → ShowsOpen s h tasks k next opened c o → (o ≡ None) × (k.held ≡ handles_at h k.dom)
at-rest s h tasks k next opened c o rest show = by c o (subst (λ (z : Opened). ShowsOpen s h tasks k next z c o) rest show) where
  by : (c : Option Underway) (o : Option ActorCall) → ShowsOpen s h tasks k next resting c o → (o ≡ None) × (k.held ≡ handles_at h k.dom)
  by None None show = (refl, show)
  by None (Some o) show = absurd show
  by (Some c) None show = absurd show
  by (Some c) (Some o) show = absurd show

-- what the domain is then
abbrev pub answered_course : List (List ℕ) → Course → List RunTask → RunTask → ScriptCall → Request → Answer → Course
answered_course types k ts t call q answer = course_answered types t.line call (given_up q) (record k { tasks = ts }) answer

named-same : (k : Course) (call : ScriptCall) (v : CallResult) → with_name k.named k.dom (label_given call) (handle_given (answer_of v)) ≡ k.named
named-same k call v = ap (with_name k.named k.dom (label_given call)) (gives-none v) ∙ by (label_given call) where
  by : (l : Option (List ℕ)) → with_name k.named k.dom l None ≡ k.named
  by None = refl
  by (Some label) = refl

-- it is where the run has brought it
pub shows-answered : (s : Setting) (h : History) (types : List (List ℕ)) (tasks ts : List RunTask) (k : Course) (a : Actor) (t : RunTask) (call : ScriptCall) (q : Request) (v : CallResult) → ShowsCalls s h tasks k a → k.opened ≡ resting → k.tasks ≡ t ∷ ts
    → begun_of (known_at s h k.dom) k.dom q ≡ Some v → ShowsCalls s (began_so k.dom q (answer_of v) ∷ h) tasks (answered_course types k ts t call q (answer_of v)) (record a { next = a.next + 1 })
shows-answered s h types tasks ts k a t call q v show rest left begins =
    let d = k.dom in let g : History = began_so d q (answer_of v) ∷ h in let same = begun-same s h d q v in
    let n = next-task a.next tasks t ts (sym left ∙ show.left) in
    let r = at-rest s h tasks k a.next k.opened (open_call h d.0) a.«open» rest show.opens in
    let few : maps_answered_at h d.0 + 0 ≤ a.next = subst (λ (z : Opened). maps_answered_at h d.0 + tasks_open z ≤ a.next) rest show.few in
    record {
      left = n.1;
      begun = n.2;
      few = subst (λ (m : ℕ). m + 0 ≤ a.next + 1) (sym same.answered) (omega arith);
      rising = subst (λ (m : ℕ). SerialsRise 0 (handles_at g d) m) (sym same.answered) (subst (λ (hs : List Handle). SerialsRise 0 hs (maps_answered_at h d.0)) (sym (same-handles s h g d same)) show.rising);
      pins = show.pins ∙ ap (λ (ms : List (Handle × HeldPin)). map (λ (m : Handle × HeldPin). m.1) ms) (sym same.mappings);
      labels = subst (λ (named : List Named). LabelsShow named d (handles_at g d) (labels_of a.mappings.items)) (sym (named-same k call v))
          (subst (λ (hs : List Handle). LabelsShow k.named d hs (labels_of a.mappings.items)) (sym (same-handles s h g d same)) show.labels);
      opens = subst (λ (o : Option ActorCall). ShowsOpen s g tasks (answered_course types k ts t call q (answer_of v)) (a.next + 1) resting (open_call g d.0) o) (sym r.0)
          (subst (λ (c : Option Underway). ShowsOpen s g tasks (answered_course types k ts t call q (answer_of v)) (a.next + 1) resting c None) (sym (open_call-own (began_so d q (answer_of v)) h))
          (keeps-all k.held q (table_at s h d) v (begins-of (known_at s h d) d q v begins) ∙ r.1 ∙ sym (same-handles s h g d same)));
    }
