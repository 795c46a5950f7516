-- Where a domain of a state comes to by the step of its open call.
use Rattle.std.proofs.Common.{inl, inr, ◌≡◌, ◌+◌, ◌≤◌, ◌++◌, ℕ, zero, suc, refl, List, [], ◌∷◌, length, take, drop}
use Rattle.std.proofs.Common.{Option, Some, None, sym, ap, ◌∙◌, arith, subst, Result}
use Rattle.std.specs.Prelude.{IfOk, codes, slice_get, slice_set}
use Rattle.std.proofs.lemmas.List.{append-nil, map-append}
use Rattle.std.proofs.lemmas.Option.{none-some}
use Rattle.std.proofs.lemmas.Result.{IfOk-weaker}
use Rattle.gt_types.specs.declared.DomId.{DomId}
use Rattle.gt_types.specs.declared.GrantRef.{GrantRef}
use Rattle.gt_types.specs.declared.denial.Denial.{Denial}
use Rattle.gt_model.specs.declared.change.EntryChange.{EntryChange}
use Rattle.gt_model.specs.declared.handle.Handle.{Handle}
use Rattle.gt_model.specs.declared.action.Action.TheVariants.{Done}
use Rattle.gt_model.specs.declared.action.Action.TheVariants as actions
use Rattle.gt_model.specs.declared.action.Observation.{Observation}
use Rattle.gt_model.specs.declared.action.Observation.TheVariants.{Taken}
use Rattle.gt_model.specs.declared.action.Step.{Step}
use Rattle.gt_model.specs.declared.action.Step.TheVariants.{Exchange, Unpin}
use Rattle.gt_model.specs.declared.action.Step.TheVariants as call_steps
use Rattle.gt_model.specs.declared.action.CallResult.{CallResult}
use Rattle.gt_model.specs.declared.action.CallResult.TheVariants.{Given, Granted, Refused}
use Rattle.gt_model.specs.declared.action.CallResult.TheVariants as results
use Rattle.gt_calls.specs.declared.call.Call.{Call}
use Rattle.gt_model.specs.declared.held.HeldPin.{HeldPin}
use Rattle.gt_model.specs.declared.request.OpenRequest.{OpenRequest}
use Rattle.gt_model.specs.declared.request.OpenRequest.TheVariants.{Unmap, Release}
use Rattle.gt_model.specs.declared.request.PinHolder.TheVariants as holders
use Rattle.gt_model.specs.declared.request.Request.{Request}
use Rattle.gt_model.specs.declared.request.Request.TheVariants as requests
use Rattle.gt_model.specs.Asking.{asked, GivesUp}
use Rattle.gt_model.specs.Path.{after_beginning, by_mapping, path}
use Rattle.gt_model.specs.Rules.{CallerKnowledge, begun}
use Rattle.gt_core.specs.Acting.{answer_of}
use Rattle.gt_model.specs.History.{History, Setting, Underway, contents_at, known_at, maps_answered_at, one_if_mapped}
use Rattle.gt_model.specs.History.{open_call, patches_at, seen_by, values}
use Rattle.gt_model.specs.Justified.{Justified}
use Rattle.gt_model.specs.Legal.{next_in}
use Rattle.gt_model.specs.declared.trace.Answer.{Answer}
use Rattle.gt_model.specs.declared.trace.Answer.TheVariants as answers
use Rattle.gt_model.specs.declared.trace.Item.{Item}
use Rattle.gt_core.specs.Prelude.{written}
use Rattle.gt_core.proofs.Outcomes.{IsSingle}
use Rattle.gt_model.proofs.Observers.{stepped}
use Rattle.gt_script_runs.specs.Printing.{answer_line, answer_text, bytes_text, call_text}
use Rattle.gt_script_runs.specs.Runs.{Named, MakesRequest, handle_given, label_given, request_of, with_name}
use Rattle.gt_script_lines.specs.declared.calls.ScriptCall.{ScriptCall}
use Rattle.gt_script_lines.specs.declared.calls.ScriptCall.TheVariants as script_calls
use Rattle.gt_explore_replay.specs.Courses.{Course, Opened, back_after, calling, course_after, course_answered}
use Rattle.gt_explore_replay.specs.Courses.{giving, resting}
use Rattle.gt_explore_replay.specs.Orders.{given_up, handles_without, held_after}
use Rattle.gt_script.specs.Lists.{RunTask}
use Rattle.gt_script.specs.declared.tasks.RunAction.TheVariants.{Do}
use Rattle.gt_explore_state.specs.Shows.{PagesShow, TablesShow}
use Rattle.gt_explore_state.specs.declared.ground.SparseState.{SparseState}
use Rattle.gt_explore_moves.specs.Calls.{AsksByPlace, GoesAlong, IsOfLine, IsOfTask, LabelsShow, ShowsCalls}
use Rattle.gt_explore_moves.specs.Calls.{ShowsOpen, handles_at, known_by_place, tasks_open}
use Rattle.gt_explore_moves.specs.Continuing.{GoesOnAsRun, SameKnown, stepped_call}
use Rattle.gt_explore_moves.specs.Ends.{tasks_at}
use Rattle.gt_explore_moves.specs.Mappings.{apart_from, labels_of, mapping_pins}
use Rattle.gt_explore_moves.specs.Renaming.{asked_under, step_under}
use Rattle.gt_explore_moves.specs.Starting.{Grows}
use Rattle.gt_explore_moves.specs.Ticking.{EndsCallOfTask, ClosesBack, CallIsOver, HasStepped, IsTick, MapsSo}
use Rattle.gt_explore_moves.specs.Ticking.{AnswersEnd}
use Rattle.gt_explore_moves.specs.Ticking.{TickLeads, TicksAsRun, label_given_by, mappings_after}
use Rattle.gt_explore_moves.specs.declared.actor.Actor.{Actor}
use Rattle.gt_explore_moves.specs.declared.actor.LabelledMapping.{LabelledMapping}
use Rattle.gt_explore_moves.specs.declared.actor.ActorCall.{ActorCall}
use Rattle.gt_explore_search.specs.declared.fault.SearchFault.{SearchFault}
use Rattle.gt_explore_search.specs.declared.spaces.TurnResult.{TurnResult}
use Rattle.gt_explore_search.specs.declared.spaces.TurnResult.TheVariants.{On}
use Rattle.gt_explore_moves.specs.declared.scene.SearchContext.{SearchContext}
use Rattle.gt_explore_moves.specs.declared.scene.SearchState.{SearchState}
use Rattle.gt_explore_moves.proofs.SameStep.{TickIs, along, below, in-run, no-handle, rising, same-step, tick-is}
use Rattle.gt_explore_moves.proofs.OpenAlong.{run-at}
use Rattle.gt_explore_moves.proofs.GoingOn.{goes-known, shows-going, went_on}
use Rattle.gt_explore_moves.proofs.LikeCore.{EndsAs, AsksMapping}
use Rattle.gt_explore_moves.proofs.LineBegins.{grows-by}
use Rattle.gt_explore_moves.proofs.CallEnds.{GivesNone, over_course, shows-kept, shows-less, shows-more}
use Rattle.gt_explore_moves.proofs.OneLess.{but}

-- an actor is where another one is that is the same

shows-same-actor : (s : Setting) (h : History) (tasks : List RunTask) (k : Course) (a b : Actor) → b.next ≡ a.next → b.mappings.items ≡ a.mappings.items → b.«open» ≡ a.«open» → ShowsCalls s h tasks k a → ShowsCalls s h tasks k b
shows-same-actor s h tasks k a b next maps opened show = record {
  left = show.left ∙ ap (λ (n : ℕ). drop n tasks) (sym next);
  begun = subst (λ (n : ℕ). n ≤ length tasks) (sym next) show.begun;
  few = subst (λ (n : ℕ). maps_answered_at h k.dom.0 + tasks_open k.opened ≤ n) (sym next) show.few;
  rising = show.rising;
  pins = ap mapping_pins maps ∙ show.pins;
  labels = subst (λ (ms : List LabelledMapping). LabelsShow k.named k.dom (handles_at h k.dom) (labels_of ms)) (sym maps) show.labels;
  opens = subst (λ (n : ℕ). ShowsOpen s h tasks k n k.opened (open_call h k.dom.0) b.«open») (sym next)
      (subst (ShowsOpen s h tasks k a.next k.opened (open_call h k.dom.0)) (sym opened) show.opens);
}

-- a step that gives up no mapping leaves them

no-single : (z : Step) → (IsSingle z → ⊥) → GivesNone z
no-single (Unpin p (holders.Mapping a)) n = n tt
no-single z n = tt

under-none : (b : Handle) (y z : Step) → GivesNone z → step_under b y ≡ step_under b z → GivesNone y
under-none b y z n e = subst GivesNone (sym (no-handle b z y n (sym e))) n

maps-left : (y : Step) (ms : List LabelledMapping) → GivesNone y → mappings_after y ms ≡ ms
maps-left (Unpin p (holders.Mapping a)) ms n = absurd n
maps-left (Unpin p (holders.Leg place)) ms n = refl
maps-left y ms n = refl

-- the path of a call that drops a mapping

drop-step : (b : Option CallResult) (m : Option HeldPin) (handle : Handle) (vs : List Observation) (z : Step) → after_beginning b (by_mapping m (λ q. Unpin q (holders.Mapping handle))) vs ≡ Some (actions.Step z) → (p : HeldPin) × (z ≡ Unpin p (holders.Mapping handle))
drop-step None (Some q) handle [] z e = (q, grind arith)
drop-step b m handle vs z e = absurd (grind arith)

drop-over : (b : Option CallResult) (m : Option HeldPin) (handle : Handle) (vs : List Observation) (z : Step) (seen : Observation) (v : CallResult) → after_beginning b (by_mapping m (λ q. Unpin q (holders.Mapping handle))) vs ≡ Some (actions.Step z)
    → after_beginning b (by_mapping m (λ q. Unpin q (holders.Mapping handle))) (vs ++ seen ∷ []) ≡ Some (Done v) → v ≡ Granted
drop-over None (Some q) handle [] z seen v e f = grind arith
drop-over b m handle vs z seen v e f = absurd (grind arith)

drop-makes : (k : CallerKnowledge) (d : DomId) (r : OpenRequest) (handle : Handle) (vs : List Observation) (z : Step) → GivesUp r handle → path k d r vs ≡ Some (actions.Step z) → (p : HeldPin) × (z ≡ Unpin p (holders.Mapping handle))
drop-makes k d r handle vs z (inl is) e = drop-step (begun k d (Unmap handle)) (k.mapping handle) handle vs z (ap (λ (q : OpenRequest). path k d q vs) (sym is) ∙ e)
drop-makes k d r handle vs z (inr is) e = drop-step (begun k d (Release handle)) (k.mapping handle) handle vs z (ap (λ (q : OpenRequest). path k d q vs) (sym is) ∙ e)

drop-ends : (k : CallerKnowledge) (d : DomId) (r : OpenRequest) (handle : Handle) (vs : List Observation) (z : Step) (seen : Observation) (v : CallResult) → GivesUp r handle → path k d r vs ≡ Some (actions.Step z) → path k d r (vs ++ seen ∷ []) ≡ Some (Done v) → v ≡ Granted
drop-ends k d r handle vs z seen v (inl is) e f =
    let from : (ws : List Observation) → path k d (Unmap handle) ws ≡ path k d r ws = λ ws. ap (λ (q : OpenRequest). path k d q ws) (sym is) in
    drop-over (begun k d (Unmap handle)) (k.mapping handle) handle vs z seen v (from vs ∙ e) (from (vs ++ seen ∷ []) ∙ f)
drop-ends k d r handle vs z seen v (inr is) e f =
    let from : (ws : List Observation) → path k d (Release handle) ws ≡ path k d r ws = λ ws. ap (λ (q : OpenRequest). path k d q ws) (sym is) in
    drop-over (begun k d (Release handle)) (k.mapping handle) handle vs z seen v (from vs ∙ e) (from (vs ++ seen ∷ []) ∙ f)

-- under another handle a call drops the mapping of that one
drops-under : (b x : Handle) (r : OpenRequest) → GivesUp r x → GivesUp (asked_under b r) b
drops-under b x r (inl is) = inl (ap (asked_under b) is)
drops-under b x r (inr is) = inr (ap (asked_under b) is)

asks-there : (hs : List Handle) (place x : Handle) (r : OpenRequest) → GivesUp r x → AsksByPlace hs place r → slice_get hs place.serial ≡ Some x
asks-there hs place x r (inl is) asks = subst (AsksByPlace hs place) is asks
asks-there hs place x r (inr is) asks = subst (AsksByPlace hs place) is asks

-- what a call asks, and gives up

gives-up : (q : Request) (handle : Handle) → GivesUp (asked q) handle → given_up q ≡ Some handle
gives-up q handle (inl e) = grind arith
gives-up q handle (inr e) = grind arith

keeps-each : (q : Request) → ((handle : Handle) → GivesUp (asked q) handle → ⊥) → given_up q ≡ None
keeps-each (requests.Unmap handle) n = absurd (n handle (inl refl))
keeps-each (requests.Release handle) n = absurd (n handle (inr refl))
keeps-each q n = refl

map-labelled : (named : List Named) (d : DomId) (call : ScriptCall) (q : Request) → MakesRequest named d call q → AsksMapping (asked q) → (given : List ℕ) × (label_given call ≡ Some given)
unfolding request_of
map-labelled named d call q (bytes, hex, is) maps = by call (subst (λ (r : Request). AsksMapping (asked r)) is maps) where
  by : (c : ScriptCall) → AsksMapping (asked (request_of named d bytes c)) → (given : List ℕ) × (label_given c ≡ Some given)
  by (script_calls.Map label to gref flags) m = (label, refl)
  by c m = absurd m

-- what a domain holds and its labels name, if its answer gives no handle

held-kept : (held : List Handle) (lost : Option Handle) (answer : Answer) → lost ≡ None → handle_given answer ≡ None → held_after held lost answer ≡ held
held-kept held lost answer none gives = grind arith

held-denied : (held : List Handle) (lost : Option Handle) (denial : Denial) → held_after held lost (answers.Denied denial) ≡ held
held-denied held lost denial = grind arith

held-more : (held : List Handle) (lost : Option Handle) (handle : Handle) → held_after held lost (answers.Mapped handle) ≡ held ++ handle ∷ []
held-more held lost handle = grind arith

named-kept : (named : List Named) (d : DomId) (label : Option (List ℕ)) → with_name named d label None ≡ named
named-kept named d label = grind arith

-- answers

-- an answer that gives no handle
abbrev GivesNoHandle : Answer → Type 0
GivesNoHandle (answers.Mapped handle) = ⊥
GivesNoHandle answer = Unit {0}

no-handle-given : (answer : Answer) → GivesNoHandle answer → handle_given answer ≡ None
no-handle-given answer n = grind arith

none-mapped : (answer : Answer) → GivesNoHandle answer → one_if_mapped (Some answer) ≡ 0
none-mapped answer n = grind arith

told-plain : (h : History) (z : Step) (v : CallResult) (answer : Answer) → AnswersEnd h z v answer → GivesNoHandle answer
told-plain h z v answer is = grind arith

-- so ends a call that gives no mapping
abbrev IsNoMap : CallResult → Type 0
IsNoMap (results.Mapped m) = ⊥
IsNoMap v = Unit {0}

tells-as : (h : History) (d : DomId) (r : OpenRequest) (z : Step) (seen : Observation) (v : CallResult) (answer : Answer) → IsNoMap v → EndsAs h d r z seen v answer → AnswersEnd h z v answer
tells-as h d r z seen (results.Mapped m) answer n ends = absurd n
tells-as h d r z seen Granted answer n ends = ends
tells-as h d r z seen (Given value) answer n ends = ends
tells-as h d r z seen (Refused denial) answer n ends = ends

maps-none : (label : Option (List ℕ)) (v : CallResult) (old new : List LabelledMapping) → IsNoMap v → MapsSo label v old new → new ≡ old
maps-none label (results.Mapped m) old new n maps = absurd n
maps-none label Granted old new n maps = maps
maps-none label (Given value) old new n maps = maps
maps-none label (Refused denial) old new n maps = maps

-- lines

tells-under : (h : History) (b : Handle) (y : Step) (v : CallResult) (answer : Answer) → AnswersEnd h (step_under b y) v answer → AnswersEnd h y v answer
tells-under h b (Unpin p (holders.Mapping a)) v answer is = is
tells-under h b y v answer is = is

to-under : (h : History) (b : Handle) (y : Step) (v : CallResult) (answer : Answer) → AnswersEnd h y v answer → AnswersEnd h (step_under b y) v answer
to-under h b (Unpin p (holders.Mapping a)) v answer is = is
to-under h b y v answer is = is

read-same : (h : History) (d : DomId) (dom : DomId) (frame off len : ℕ) (seen : Observation) (answer : Option Answer) (t f : ℕ) → contents_at (stepped d (call_steps.Read dom frame off len) seen answer ∷ h) t f ≡ contents_at h t f
unfolding patches_at
read-same h d dom frame off len seen answer t f = ap written (append-nil (patches_at h t f))

-- what is printed is what the run prints
same-text : (types : List (List ℕ)) (h : History) (d : DomId) (r : OpenRequest) (z : Step) (seen : Observation) (v : CallResult) (answer told : Answer) → EndsAs h d r z seen v answer → AnswersEnd (stepped d z seen (Some answer) ∷ h) z v told → answer_text types told ≡ answer_text types answer
same-text types h d r z seen (results.Mapped m) answer told ends tells = ap (answer_text types) (plain z tells) ∙ sym (ap (answer_text types) ends.1) where
  plain : (y : Step) → AnswersEnd (stepped d z seen (Some answer) ∷ h) y (results.Mapped m) told → told ≡ answers.Done
  plain y t = grind arith
same-text types h d r (call_steps.Read dom frame off len) seen Granted answer told ends tells =
    let same : tells.0.bytes.items ≡ ends.0.bytes.items = tells.2 ∙ ap (λ (l : List ℕ). take len (drop off l)) (read-same h d dom frame off len seen (Some answer) dom.0 frame) ∙ sym ends.2 in
    ap (answer_text types) tells.1 ∙ ap read-text same ∙ sym (ap (answer_text types) ends.1)
  where
    read-text : List ℕ → List ℕ
    read-text l = codes "ok" ++ bytes_text l
same-text types h d r z seen Granted answer told ends tells = ap (answer_text types) (tells ∙ sym ends)
same-text types h d r z seen (Given value) answer told ends tells = ap (answer_text types) (tells-so (stepped d z seen (Some answer) ∷ h) z told tells ∙ sym (tells-so h z answer ends)) where
  tells-so : (g : History) (y : Step) (w : Answer) → AnswersEnd g y (Given value) w → w ≡ answer_of (Given value)
  tells-so g y w t = grind arith
same-text types h d r z seen (Refused denial) answer told ends tells = ap (answer_text types) (tells-so (stepped d z seen (Some answer) ∷ h) z told tells ∙ sym (tells-so h z answer ends)) where
  tells-so : (g : History) (y : Step) (w : Answer) → AnswersEnd g y (Refused denial) w → w ≡ answer_of (Refused denial)
  tells-so g y w t = grind arith

-- a place of a list that is set twice
set-again : {A : Type 0} (xs : List A) (at : ℕ) (x y : A) → slice_set (slice_set xs at x) at y ≡ slice_set xs at y
set-again [] zero x y = refl
set-again [] (suc at) x y = refl
set-again (z ∷ xs) zero x y = refl
set-again (z ∷ xs) (suc at) x y = ap (λ (l : List _). z ∷ l) (set-again xs at x y)

pub get-set : {A : Type 0} (xs : List A) (at : ℕ) (x y : A) → slice_get xs at ≡ Some x → slice_get (slice_set xs at y) at ≡ Some y
get-set [] at x y e = absurd (none-some x e)
get-set (z ∷ xs) zero x y e = refl
get-set (z ∷ xs) (suc at) x y e = get-set xs at x y e

-- what a call of a course leads to

leads-on : (types : List (List ℕ)) (k : Course) (opened : Opened) (i : Item) (j : Course) → k.opened ≡ opened → TickLeads types k opened i j → i.answer ≡ None → j ≡ k
leads-on types k resting i j e leads none = absurd leads
leads-on types k (calling line call lost) i j e leads none = leads ∙ ap (course_after types line call lost k) none ∙ ap (λ (x : Opened). record k { opened = x }) (sym e)
leads-on types k giving i j e leads none = leads ∙ ap (back_after k) none ∙ ap (λ (x : Opened). record k { opened = x }) (sym e)

same-known : (s : Setting) (h : History) (d : DomId) → SameKnown s h h d
same-known s h d = record { mappings = refl; answered = refl; known = refl }

module _ (s : Setting) (h : History) (scene : SearchContext) (before : SearchState) (at : ℕ) (k : Course) (a : Actor) (o : ActorCall) (i : Item) (tick : IsTick s h scene before at k a o i) where
  abbrev tasks : List RunTask
  tasks = tasks_at scene at

  abbrev here : TickIs s h tasks k a o i
  here = tick-is s h scene before at k a o i tick

  abbrev way : GoesAlong s h k.dom (tick-is s h scene before at k a o i tick).call o
  way = along s h scene before at k a o i tick

  abbrev c : Underway
  c = (tick-is s h scene before at k a o i tick).call

  abbrev z : Step
  z = (tick-is s h scene before at k a o i tick).step

  abbrev saw : Observation
  saw = seen_by s h k.dom (tick-is s h scene before at k a o i tick).step

  show : ShowsCalls s h tasks k a
  show = tick.shows.shows

  same : step_under way.place o.step ≡ step_under way.place z
  same = same-step s h scene before at k a o i tick

  -- it goes on
  module _ (types : List (List ℕ)) (j : Course) (leads : TickLeads types k k.opened i j) (call : Call) (y : Step) (goes : GoesOnAsRun s h k.dom c z o.task call (actions.Step y)) where
    abbrev now : ActorCall
    now = record { task = o.task; call = call; step = y }

    on : (x : Step) × (next_in s h k.dom c saw ≡ Some (actions.Step x))
    on = let r = run-at s h k.dom (stepped_call s h k.dom c z) now (goes h (same-known s h k.dom)) (below s h scene before at k a o i tick) (maps_answered_at h k.dom.0) (rising s h scene before at k a o i tick) in
        (r.0, ap (λ (vs : List Observation). path (known_at s h k.dom) k.dom c.request vs) (sym (map-append (λ (q : Step × Observation). q.1) c.steps ((z, saw) ∷ []))) ∙ r.1)

    going : (i.answer ≡ None) × (IsSingle z → ⊥) × ((gref : GrantRef) (looked : ℕ) (change : EntryChange) → z ≡ Exchange gref looked change → saw ≡ Taken → ⊥)
    going = (in-run s h scene before at k a o i tick).going on.0 on.1

    known : SameKnown s h (went_on k.dom z saw ∷ h) k.dom
    known = goes-known s h k.dom z saw going.1 going.2

    item-is : i ≡ went_on k.dom z saw
    item-is = here.item ∙ ap (stepped k.dom z saw) going.0

    keeps-maps : mappings_after o.step a.mappings.items ≡ a.mappings.items
    keeps-maps = maps-left o.step a.mappings.items (under-none way.place o.step z (no-single z going.1) same)

    shows-on : (b : Actor) → b.next ≡ a.next → b.mappings.items ≡ mappings_after o.step a.mappings.items → b.«open» ≡ Some now → ShowsCalls s (i ∷ h) tasks j b
    shows-on b next maps opened =
        subst (λ (x : Course). ShowsCalls s (i ∷ h) tasks x b) (sym (leads-on types k k.opened i j refl leads going.0))
        (subst (λ (x : Item). ShowsCalls s (x ∷ h) tasks k b) (sym item-is)
        (shows-same-actor s (went_on k.dom z saw ∷ h) tasks k (record a { «open» = Some now }) b next (maps ∙ keeps-maps) opened
        (shows-going s h tasks k a c z o now show here.opened tick.has known (goes (went_on k.dom z saw ∷ h) known) refl)))

    pub goes-on : (seen : Observation) (old new : SearchState) (b : Actor) → HasStepped s h k i o seen old.ground.tables.items old.ground.pages.items → new.actors.items ≡ slice_set old.actors.items at b → new.ground ≡ old.ground → new.told ≡ old.told
        → b.next ≡ a.next → b.mappings.items ≡ mappings_after o.step a.mappings.items → b.«open» ≡ Some now → TicksAsRun s (i ∷ h) tasks k j old new at On
    goes-on seen old new b made becomes ground told next maps opened = record {
      grows = ap (λ (x : Course). x.text) (leads-on types k k.opened i j refl leads going.0);
      actor = b;
      becomes = becomes;
      shows = shows-on b next maps opened;
      tables = subst (λ (g : SparseState). TablesShow s (i ∷ h) g.tables.items) (sym ground) made.tables_show;
      pages = subst (λ (g : SparseState). PagesShow (i ∷ h) g.pages.items) (sym ground) made.pages_show;
      told = told;
    }

  -- it ends
  module _ (v : CallResult) (ends : next_in s h k.dom c saw ≡ Some (Done v)) (m : Actor) (next_m : m.next ≡ a.next) (maps_m : m.mappings.items ≡ mappings_after o.step a.mappings.items) where
    asks-drop : (p : HeldPin) (x : Handle) → z ≡ Unpin p (holders.Mapping x) → GivesUp c.request x
    asks-drop p x is = subst (λ (y : Step). Justified s h k.dom c.request y) is here.right.justified

    is-granted : (x : Handle) → GivesUp c.request x → v ≡ Granted
    is-granted x drops = drop-ends (known_at s h k.dom) k.dom c.request x (values c) z saw v drops here.right.continues ends

    takes : (x : Handle) → GivesUp c.request x → m.mappings.items ≡ but way.place.serial a.mappings.items
    takes x drops =
        let made = drop-makes (known_by_place s h k.dom) k.dom o.call.request way.place (values c) o.step
        (subst (λ (q : OpenRequest). GivesUp q way.place) (sym way.asks) (drops-under way.place x c.request drops)) way.follows in
        maps_m ∙ ap (λ (y : Step). mappings_after y a.mappings.items) made.1

    at-place : (x : Handle) → GivesUp c.request x → slice_get (handles_at h k.dom) way.place.serial ≡ Some x
    at-place x drops = asks-there (handles_at h k.dom) way.place x c.request drops way.by_place

    keeps : GivesNone z → m.mappings.items ≡ a.mappings.items
    keeps n = maps_m ∙ maps-left o.step a.mappings.items (under-none way.place o.step z n same)

    no-drop : GivesNone z → (x : Handle) → GivesUp c.request x → ⊥
    no-drop n x drops = subst GivesNone (drop-makes (known_at s h k.dom) k.dom c.request x (values c) z drops here.right.continues).1 n

    -- the call of a line
    module _ (types : List (List ℕ)) (line : ℕ) (call : ScriptCall) (lost : Option Handle) (said : IsOfLine k.dom call lost c) (all : k.held ≡ handles_at h k.dom) (few : maps_answered_at h k.dom.0 + 1 ≤ a.next)
        (answer : Answer) (told : EndsAs h k.dom c.request z saw v answer) (b : Actor) (closed : CallIsOver (label_given call) v m b) where
      abbrev text : List ℕ
      text = k.text ++ answer_line types line k.dom answer

      abbrev Goal : Step → Observation → Answer → Option (List ℕ) → Type 0
      Goal y seen x label = ShowsCalls s (stepped k.dom y seen (Some x) ∷ h) tasks
          (over_course k (with_name k.named k.dom label (handle_given x)) (held_after k.held lost x) (k.text ++ answer_line types line k.dom x)) b

      next_b : b.next ≡ a.next
      next_b = closed.next ∙ next_m

      line-mapped : (p : HeldPin) → v ≡ results.Mapped p → Goal z saw answer (label_given call)
      line-mapped p is =
          let t = subst (λ (w : CallResult). EndsAs h k.dom c.request z saw w answer) is told in let handle : Handle = t.0 in
          let label = map-labelled said.named k.dom call said.request said.makes (subst AsksMapping said.asks t.6) in
          let kept : m.mappings.items ≡ a.mappings.items = keeps (subst GivesNone (sym t.3) tt) in
          let maps : MapsSo (Some label.0) (results.Mapped p) m.mappings.items b.mappings.items = subst (λ (l : Option (List ℕ)). MapsSo l (results.Mapped p) m.mappings.items b.mappings.items) label.1
          (subst (λ (w : CallResult). MapsSo (label_given call) w m.mappings.items b.mappings.items) is closed.maps) in
          subst (λ (y : Step). Goal y saw answer (label_given call)) (sym t.3)
          (subst (λ (seen : Observation). Goal (call_steps.Pin p) seen answer (label_given call)) (sym t.4)
          (subst (λ (x : Answer). Goal (call_steps.Pin p) Taken x (label_given call)) (sym t.1)
          (subst (λ (l : Option (List ℕ)). Goal (call_steps.Pin p) Taken (answers.Mapped handle) l) (sym label.1)
          (subst (λ (hs : List Handle). ShowsCalls s (stepped k.dom (call_steps.Pin p) Taken (Some (answers.Mapped handle)) ∷ h) tasks
          (over_course k (with_name k.named k.dom (Some label.0) (Some handle)) hs (k.text ++ answer_line types line k.dom (answers.Mapped handle))) b) (sym (held-more k.held lost handle))
          (shows-more s h tasks k a b p handle label.0 (k.text ++ answer_line types line k.dom (answers.Mapped handle)) show all tick.shows.like.1.first tick.shows.named t.2 t.5 few next_b closed.none
          (maps.0 ∙ ap (λ (ms : List LabelledMapping). mapping_pins ms ++ p ∷ []) kept)
          (maps.1 ∙ ap (λ (ms : List LabelledMapping). apart_from (Some label.0) (labels_of ms) ++ Some label.0 ∷ []) kept))))))

      line-unmapped : IsNoMap v → (p : HeldPin) (x : Handle) → z ≡ Unpin p (holders.Mapping x) → Goal z saw answer (label_given call)
      line-unmapped n p x is =
          let drops : GivesUp c.request x = asks-drop p x is in
          let tells : AnswersEnd h z v answer = tells-as h k.dom c.request z saw v answer n told in
          let done : answer ≡ answers.Done = subst (λ (w : CallResult). AnswersEnd h (Unpin p (holders.Mapping x)) w answer) (is-granted x drops) (subst (λ (y : Step). AnswersEnd h y v answer) is tells) in
          let gone : lost ≡ Some x = said.lost_is ∙ gives-up said.request x (subst (λ (r : OpenRequest). GivesUp r x) said.asks drops) in
          subst (λ (y : Step). Goal y saw answer (label_given call)) (sym is)
          (subst (λ (w : Answer). Goal (Unpin p (holders.Mapping x)) saw w (label_given call)) (sym done)
          (subst (λ (names : List Named). ShowsCalls s (stepped k.dom (Unpin p (holders.Mapping x)) saw (Some answers.Done) ∷ h) tasks
          (over_course k names (held_after k.held lost answers.Done) (k.text ++ answer_line types line k.dom answers.Done)) b) (sym (named-kept k.named k.dom (label_given call)))
          (shows-less s h tasks k a b p x way.place saw (held_after k.held lost answers.Done) (k.text ++ answer_line types line k.dom answers.Done) answers.Done show
          (ap (λ (l : Option Handle). held_after k.held l answers.Done) gone ∙ ap (handles_without x) all) (at-place x drops) refl next_b closed.none
          (maps-none (label_given call) v m.mappings.items b.mappings.items n closed.maps ∙ takes x drops))))

      line-kept : IsNoMap v → GivesNone z → Goal z saw answer (label_given call)
      line-kept n gives =
          let tells : AnswersEnd h z v answer = tells-as h k.dom c.request z saw v answer n told in
          let plain : GivesNoHandle answer = told-plain h z v answer tells in
          let gone : lost ≡ None = said.lost_is ∙ keeps-each said.request (λ x e. no-drop gives x (subst (λ (r : OpenRequest). GivesUp r x) (sym said.asks) e)) in
          subst (λ (names : List Named). ShowsCalls s (stepped k.dom z saw (Some answer) ∷ h) tasks (over_course k names (held_after k.held lost answer) (k.text ++ answer_line types line k.dom answer)) b)
          (sym (ap (with_name k.named k.dom (label_given call)) (no-handle-given answer plain) ∙ named-kept k.named k.dom (label_given call)))
          (subst (λ (hs : List Handle). ShowsCalls s (stepped k.dom z saw (Some answer) ∷ h) tasks (over_course k k.named hs (k.text ++ answer_line types line k.dom answer)) b)
          (sym (held-kept k.held lost answer gone (no-handle-given answer plain)))
          (shows-kept s h tasks k a b z saw (k.text ++ answer_line types line k.dom answer) answer show all gives (none-mapped answer plain) next_b closed.none
          (maps-none (label_given call) v m.mappings.items b.mappings.items n closed.maps ∙ keeps gives)))

      line-plain : IsNoMap v → Goal z saw answer (label_given call)
      line-plain n = by z refl where
        by : (y : Step) → z ≡ y → Goal z saw answer (label_given call)
        by (Unpin p (holders.Mapping x)) is = line-unmapped n p x is
        by y is = line-kept n (subst GivesNone (sym is) tt)

      line-shows : Goal z saw answer (label_given call)
      line-shows = by v refl where
        by : (w : CallResult) → v ≡ w → Goal z saw answer (label_given call)
        by (results.Mapped p) is = line-mapped p is
        by Granted is = line-plain (subst IsNoMap (sym is) tt)
        by (Given value) is = line-plain (subst IsNoMap (sym is) tt)
        by (Refused denial) is = line-plain (subst IsNoMap (sym is) tt)

    -- the release of a mapping at the end of a list
    back-shows : (x : Handle) (answer : Answer) (b : Actor) → c.request ≡ Release x → k.held ≡ handles_without x (handles_at h k.dom) → EndsAs h k.dom c.request z saw v answer → CallIsOver None Granted m b
        → ShowsCalls s (stepped k.dom z saw (Some answer) ∷ h) tasks (record k { opened = resting }) b
    back-shows x answer b asks held told closed =
        let made = drop-makes (known_at s h k.dom) k.dom c.request x (values c) z (inr asks) here.right.continues in
        let granted : v ≡ Granted = is-granted x (inr asks) in
        let n : IsNoMap v = subst IsNoMap (sym granted) tt in
        let tells : AnswersEnd h z v answer = tells-as h k.dom c.request z saw v answer n told in
        let done : answer ≡ answers.Done = subst (λ (w : CallResult). AnswersEnd h (Unpin made.0 (holders.Mapping x)) w answer) granted (subst (λ (y : Step). AnswersEnd h y v answer) made.1 tells) in
        subst (λ (y : Step). ShowsCalls s (stepped k.dom y saw (Some answer) ∷ h) tasks (record k { opened = resting }) b) (sym made.1)
        (subst (λ (w : Answer). ShowsCalls s (stepped k.dom (Unpin made.0 (holders.Mapping x)) saw (Some w) ∷ h) tasks (record k { opened = resting }) b) (sym done)
        (shows-less s h tasks k a b made.0 x way.place saw k.held k.text answers.Done show held (at-place x (inr asks)) refl (closed.next ∙ next_m) closed.none
        (closed.maps ∙ takes x (inr asks))))

    ended : (x : Answer) × (i.answer ≡ Some x) × EndsAs h k.dom c.request z saw v x
    ended = (in-run s h scene before at k a o i tick).ending v ends

    item-over : i ≡ stepped k.dom z saw (Some ended.0)
    item-over = here.item ∙ ap (stepped k.dom z saw) ended.1

    module _ (types : List (List ℕ)) (j : Course) (seen : Observation) (old mid new : SearchState) (led : TurnResult) (made : HasStepped s h k i o seen old.ground.tables.items old.ground.pages.items)
        (set : mid.actors.items ≡ slice_set old.actors.items at m) (ground : mid.ground ≡ old.ground) (told : mid.told ≡ old.told) where
      tables-then : new.ground ≡ mid.ground → TablesShow s (i ∷ h) new.ground.tables.items
      tables-then e = subst (λ (g : SparseState). TablesShow s (i ∷ h) g.tables.items) (sym (e ∙ ground)) made.tables_show

      pages-then : new.ground ≡ mid.ground → PagesShow (i ∷ h) new.ground.pages.items
      pages-then e = subst (λ (g : SparseState). PagesShow (i ∷ h) g.pages.items) (sym (e ∙ ground)) made.pages_show

      becomes-then : (b : Actor) → new.actors.items ≡ slice_set mid.actors.items at b → new.actors.items ≡ slice_set old.actors.items at b
      becomes-then b e = e ∙ ap (λ (xs : List Actor). slice_set xs at b) set ∙ set-again old.actors.items at m b

      line-ends : (line : ℕ) (call : ScriptCall) (lost : Option Handle) → IsOfTask tasks a.next k.dom line call o.task → IsOfLine k.dom call lost c → k.held ≡ handles_at h k.dom → maps_answered_at h k.dom.0 + 1 ≤ a.next
          → j ≡ course_after types line call lost k i.answer → (t : RunTask) → t.dom ≡ k.dom → t.line ≡ line → t.run_action ≡ Do call → EndsCallOfTask (i ∷ h) types t o.step v m mid new at led → TicksAsRun s (i ∷ h) tasks k j old new at led
      line-ends line call lost task said all few leads t dom line-is run_action x =
          let j-is : j ≡ course_answered types line call lost k ended.0 = leads ∙ ap (course_after types line call lost k) ended.1 in
          let tells : AnswersEnd (stepped k.dom z saw (Some ended.0) ∷ h) z v x.answer = subst (λ (y : Item). AnswersEnd (y ∷ h) z v x.answer) item-over
          (tells-under (i ∷ h) way.place z v x.answer (subst (λ (y : Step). AnswersEnd (i ∷ h) y v x.answer) same (to-under (i ∷ h) way.place o.step v x.answer x.answers))) in
          let line-same : answer_line types t.line t.dom x.answer ≡ answer_line types line k.dom ended.0 =
          ap (λ (n : ℕ). answer_line types n t.dom x.answer) line-is ∙ ap (λ (d : DomId). answer_line types line d x.answer) dom
          ∙ ap (λ (l : List ℕ). call_text line k.dom ++ l ++ codes "\n") (same-text types h k.dom c.request z saw v ended.0 x.answer ended.2 tells) in
          record {
            grows = grows-by led (answer_line types t.line t.dom x.answer) k.text j.text x.prints (ap (λ (y : Course). y.text) j-is ∙ ap (λ (l : List ℕ). k.text ++ l) (sym line-same));
            actor = x.actor;
            becomes = becomes-then x.actor x.becomes;
            shows = subst (λ (y : Course). ShowsCalls s (i ∷ h) tasks y x.actor) (sym j-is) (subst (λ (y : Item). ShowsCalls s (y ∷ h) tasks (course_answered types line call lost k ended.0) x.actor) (sym item-over)
                (line-shows types line call lost said all few ended.0 ended.2 x.actor (subst (λ (l : Option (List ℕ)). CallIsOver l v m x.actor) (ap label_given_by run_action) x.closed)));
            tables = tables-then x.ground;
            pages = pages-then x.ground;
            told = x.told ∙ told;
          }

      back-ends : (x : Handle) → c.request ≡ Release x → k.held ≡ handles_without x (handles_at h k.dom) → j ≡ back_after k i.answer → ClosesBack m mid new at led → TicksAsRun s (i ∷ h) tasks k j old new at led
      back-ends x asks held leads y =
          let j-is : j ≡ record k { opened = resting } = leads ∙ ap (back_after k) ended.1 in
          record {
            grows = subst (λ (l : TurnResult). Grows l k.text j.text) (sym y.on) (ap (λ (q : Course). q.text) j-is);
            actor = y.actor;
            becomes = becomes-then y.actor y.becomes;
            shows = subst (λ (q : Course). ShowsCalls s (i ∷ h) tasks q y.actor) (sym j-is) (subst (λ (q : Item). ShowsCalls s (q ∷ h) tasks (record k { opened = resting }) y.actor) (sym item-over)
                (back-shows x ended.0 y.actor asks held ended.2 y.closed));
            tables = tables-then y.ground;
            pages = pages-then y.ground;
            told = y.told ∙ told;
          }

  -- by whatever is open
  pub call-over : (types : List (List ℕ)) (j : Course) (seen : Observation) (old mid new : SearchState) (result : Result TurnResult SearchFault) (v : CallResult) (m : Actor) → next_in s h k.dom c saw ≡ Some (Done v) → m.next ≡ a.next → m.mappings.items ≡ mappings_after o.step a.mappings.items
      → HasStepped s h k i o seen old.ground.tables.items old.ground.pages.items → mid.actors.items ≡ slice_set old.actors.items at m → mid.ground ≡ old.ground → mid.told ≡ old.told → TickLeads types k k.opened i j
      → ((place : ℕ) (t : RunTask) → o.task ≡ Some place → slice_get tasks place ≡ Some t → IfOk result (EndsCallOfTask (i ∷ h) types t o.step v m mid new at))
      → (o.task ≡ None → IfOk result (ClosesBack m mid new at)) → IfOk result (TicksAsRun s (i ∷ h) tasks k j old new at)
  call-over types j seen old mid new result v m ends next_m maps_m made set ground told leads line back = by k.opened refl here.shows leads where
    by : (opened : Opened) → k.opened ≡ opened → ShowsOpen s h tasks k a.next opened (Some c) (Some o) → TickLeads types k opened i j → IfOk result (TicksAsRun s (i ∷ h) tasks k j old new at)
    by resting e shown led = absurd shown
    by (calling number call lost) e shown led = let task = shown.1 in
        IfOk-weaker result _ _ (λ x closes. line-ends v ends m next_m maps_m types j seen old mid new x made set ground told number call lost shown.1 shown.2 shown.3
        (subst (λ (z : Opened). maps_answered_at h k.dom.0 + tasks_open z ≤ a.next) e show.few) led task.of_task task.dom_is task.line_is task.action_is closes)
        (line task.place task.of_task task.task_is task.there)
    by giving e shown led = IfOk-weaker result _ _ (λ x closes. back-ends v ends m next_m maps_m types j seen old mid new x made set ground told shown.2.0 shown.2.1 shown.2.2 led closes) (back shown.1)
