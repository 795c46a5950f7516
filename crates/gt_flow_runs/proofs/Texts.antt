-- Each text that a script may give has another one for each choice of the bytes that high domains store.
use Rattle.std.proofs.Common.{◌≡◌, ◌≢◌, ℕ, Bool, true, false, cond, List, [], ◌∷◌, ◌++◌, Some, None, refl, ap, sym}
use Rattle.std.proofs.Common.{◌∙◌, subst, zero, suc}
use Rattle.std.specs.Prelude.{◌==◌, slice_get, All}
use Rattle.std.proofs.lemmas.List.Elements.{All-from_recursion, recursion_from_All}
use Rattle.std.specs.List.{AllByRecursion}
use Rattle.std.proofs.lemmas.Option.{same_Some}
use Rattle.gt_types.specs.Names.{domain_of}
use Rattle.gt_types.specs.declared.DomId.{DomId}
use Rattle.gt_types.specs.declared.TypeId.{TypeId}
use Rattle.gt_types.specs.declared.config.DomainConfig.{DomainConfig}
use Rattle.gt_core.proofs.Words.{eqb-true}
use Rattle.gt_model.specs.History.{Setting}
use Rattle.gt_model.specs.Legal.{Legal, actor_of}
use Rattle.gt_model.specs.declared.trace.Element.{Element}
use Rattle.gt_model.specs.declared.trace.Event.{Event}
use Rattle.gt_script.specs.Contents.{Contents, type_names}
use Rattle.gt_script.specs.Lists.{RunTask, RunAction}
use Rattle.gt_script.specs.RunContents.{RunContents}
use Rattle.gt_script.specs.RunScripts.{list_of}
use Rattle.gt_script_runs.specs.Playing.{setting_of_script}
use Rattle.gt_explore_replay.specs.Orders.{Happening, did, raised, passed, doer, own_happenings, events_in, trace_in}
use Rattle.gt_explore_replay.specs.Orders.{AllFollow, FlagsAreRaised, FollowsList, MayGive}
use Rattle.gt_flow.specs.Flow.{IsClosed}
use Rattle.gt_flow.specs.Low.{is_high}
use Rattle.gt_flow.proofs.OtherBytes.{each-has-others}
use Rattle.gt_script.specs.declared.tasks.RunAction.TheVariants.{Await, Do, Tell}
use Rattle.gt_script_lines.specs.declared.calls.ScriptCall.{ScriptCall}
use Rattle.gt_script_lines.specs.declared.calls.ScriptCall.TheVariants as script_calls
use Rattle.gt_flow_runs.specs.Secrets.{SameAction, SameButHigh, SameButStored, SameForLow, SameTasks}
use Rattle.gt_flow_runs.proofs.Redone.{IsRedone, done-again, lists_after, redone_events, same-passed}
use Rattle.gt_flow_runs.proofs.Followed.{IsOwn, SameList, follows-too, own-redone, same-doer}

module _ (s : Setting) (high : TypeId → Bool) where
  -- the lists of a domain

  pub same-lists : (types : List (List ℕ)) (dom : DomId) (ts us : List RunTask) → SameTasks s high ts us → SameList s high types dom (is_high s high dom) (list_of ts dom) (list_of us dom)
  same-lists types dom [] [] same = tt
  same-lists types dom (t ∷ ts) (u ∷ us) same =
      subst (λ (d : DomId). SameList s high types dom (is_high s high dom) (cond (t.dom.0 == dom.0) (t ∷ list_of ts dom) (list_of ts dom)) (cond (d.0 == dom.0) (u ∷ list_of us dom) (list_of us dom))) same.1
      (by (same-lists types dom ts us same.3) (t.dom.0 == dom.0) refl) where
        by : SameList s high types dom (is_high s high dom) (list_of ts dom) (list_of us dom) → (c : Bool) → (t.dom.0 == dom.0) ≡ c → SameList s high types dom (is_high s high dom) (cond c (t ∷ list_of ts dom) (list_of ts dom)) (cond c (u ∷ list_of us dom) (list_of us dom))
        by rest true own = (same.0, subst (λ (d : DomId). SameAction (is_high s high d) t.run_action u.run_action) (ap {B = DomId} (λ (n : ℕ). record { 0 = n }) (eqb-true t.dom.0 dom.0 own)) same.2, rest)
        by rest false own = rest
  same-lists types dom [] (u ∷ us) same = absurd same
  same-lists types dom (t ∷ ts) [] same = absurd same

  -- who does it, and flags

  pub known-too : (ds : List DomainConfig) (l : ℕ → List RunTask) (hs ks : List Happening) → IsRedone s high l hs ks → AllByRecursion (λ x. domain_of ds (doer x) ≢ None) hs → AllByRecursion (λ x. domain_of ds (doer x) ≢ None) ks
  known-too ds l [] [] r known = known
  known-too ds l (did e x ∷ hs) (did f y ∷ ks) r known =
      (subst (λ (d : DomId). domain_of ds d ≢ None) (sym (ap actor_of r.0 ∙ same-doer s high (is_high s high (actor_of e)) (l (actor_of e).0) e)) known.0, known-too ds (lists_after l (did e x)) hs ks r.2 known.1)
  known-too ds l (raised d flag ∷ hs) (raised k other ∷ ks) r known = (subst (λ (z : Happening). domain_of ds (doer z) ≢ None) r.0 known.0, known-too ds (lists_after l (raised d flag)) hs ks r.1 known.1)
  known-too ds l (passed d flag ∷ hs) (passed k other ∷ ks) r known = (subst (λ (z : Happening). domain_of ds (doer z) ≢ None) r.0 known.0, known-too ds (lists_after l (passed d flag)) hs ks r.1 known.1)
  known-too ds l [] (y ∷ ks) r known = absurd r
  known-too ds l (did e x ∷ hs) [] r known = absurd r
  known-too ds l (raised d flag ∷ hs) [] r known = absurd r
  known-too ds l (passed d flag ∷ hs) [] r known = absurd r
  known-too ds l (did e x ∷ hs) (raised k other ∷ ks) r known = absurd r
  known-too ds l (did e x ∷ hs) (passed k other ∷ ks) r known = absurd r
  known-too ds l (raised d flag ∷ hs) (did f y ∷ ks) r known = absurd r
  known-too ds l (raised d flag ∷ hs) (passed k other ∷ ks) r known = absurd r
  known-too ds l (passed d flag ∷ hs) (did f y ∷ ks) r known = absurd r
  known-too ds l (passed d flag ∷ hs) (raised k other ∷ ks) r known = absurd r

  -- a flag is raised or passed where it was
  abbrev SameFlags : List Happening → List Happening → Type 0
  SameFlags hs ks = (at : ℕ) (d : DomId) (flag : ℕ) → (slice_get ks at ≡ Some (passed d flag) → slice_get hs at ≡ Some (passed d flag))
      × (slice_get hs at ≡ Some (raised d flag) → slice_get ks at ≡ Some (raised d flag))

  more-flags : (x y : Happening) (hs ks : List Happening) → ((d : DomId) (flag : ℕ) → (y ≡ passed d flag → x ≡ passed d flag) × (x ≡ raised d flag → y ≡ raised d flag)) → SameFlags hs ks → SameFlags (x ∷ hs) (y ∷ ks)
  more-flags x y hs ks here rest zero d flag =
      (λ e. ap (λ (z : Happening). Some z) ((here d flag).0 (same_Some y (passed d flag) e)), λ e. ap (λ (z : Happening). Some z) ((here d flag).1 (same_Some x (raised d flag) e)))
  more-flags x y hs ks here rest (suc at) d flag = rest at d flag

  no-flag : (d : DomId) (flag : ℕ) (e f : Event) (x y : Element) → (did f y ≡ passed d flag → did e x ≡ passed d flag) × (did e x ≡ raised d flag → did f y ≡ raised d flag)
  no-flag d flag e f x y = (λ z. absurd (let w = z in cc), λ z. absurd (let w = z in cc))

  pub flags-same : (l : ℕ → List RunTask) (hs ks : List Happening) → IsRedone s high l hs ks → SameFlags hs ks
  flags-same l [] [] r = λ at d flag. (λ e. e, λ e. e)
  flags-same l (did e x ∷ hs) (did f y ∷ ks) r = more-flags (did e x) (did f y) hs ks (λ d flag. no-flag d flag e f x y) (flags-same (lists_after l (did e x)) hs ks r.2)
  flags-same l (raised k flag ∷ hs) (raised n other ∷ ks) r = more-flags (raised k flag) (raised n other) hs ks (λ d g. (λ e. r.0 ∙ e, λ e. sym r.0 ∙ e)) (flags-same (lists_after l (raised k flag)) hs ks r.1)
  flags-same l (passed k flag ∷ hs) (passed n other ∷ ks) r = more-flags (passed k flag) (passed n other) hs ks (λ d g. (λ e. r.0 ∙ e, λ e. sym r.0 ∙ e)) (flags-same (lists_after l (passed k flag)) hs ks r.1)
  flags-same l [] (y ∷ ks) r = absurd r
  flags-same l (did e x ∷ hs) [] r = absurd r
  flags-same l (raised d flag ∷ hs) [] r = absurd r
  flags-same l (passed d flag ∷ hs) [] r = absurd r
  flags-same l (did e x ∷ hs) (raised k other ∷ ks) r = absurd r
  flags-same l (did e x ∷ hs) (passed k other ∷ ks) r = absurd r
  flags-same l (raised d flag ∷ hs) (did f y ∷ ks) r = absurd r
  flags-same l (raised d flag ∷ hs) (passed k other ∷ ks) r = absurd r
  flags-same l (passed d flag ∷ hs) (did f y ∷ ks) r = absurd r
  flags-same l (passed d flag ∷ hs) (raised k other ∷ ks) r = absurd r

  pub flags-too : (hs ks : List Happening) → SameFlags hs ks → FlagsAreRaised hs → FlagsAreRaised ks
  flags-too hs ks same are at d flag e = let (place, k, before, is) = are at d flag ((same at d flag).0 e) in (place, k, before, (same place k flag).1 is)

  -- all domains

  all-too : (types : List (List ℕ)) (l : ℕ → List RunTask) (hs ks : List Happening) (one other : RunContents) (ds : List DomainConfig) (text : List ℕ) → ((d : ℕ) → l d ≡ list_of other.tasks (record { 0 = d })) → IsRedone s high l hs ks
      → SameTasks s high one.tasks other.tasks → types ≡ type_names one.head → types ≡ type_names other.head → AllFollow one hs ds text → (new : List ℕ) × AllFollow other ks ds new × SameForLow s high types ds text new
  all-too types l hs ks one other [] text lists r same mine theirs is = ([], refl, (is, refl))
  all-too types l hs ks one other (d ∷ ds) text lists r same mine theirs (part, (rest, is, more), follows) =
      let (after, all, low) = all-too types l hs ks one other ds rest lists r same mine theirs more in
      let own = subst (λ (ts : List RunTask). IsOwn s high (is_high s high d.id) ts (own_happenings d.id hs) (own_happenings d.id ks)) (lists d.id.0) (own-redone s high d.id l hs ks r) in
      let (new, again, same-part) = follows-too s high types d.id (is_high s high d.id) (list_of one.tasks d.id) (list_of other.tasks d.id) [] [] (own_happenings d.id hs) (own_happenings d.id ks) part
      (same-lists types d.id one.tasks other.tasks same) (subst (λ (t : List (List ℕ)). FollowsList t d.id [] [] (list_of one.tasks d.id) (own_happenings d.id hs) part) (sym mine) follows) own in
      (new ++ after, (new, (after, refl, all), subst (λ (t : List (List ℕ)). FollowsList t d.id [] [] (list_of other.tasks d.id) (own_happenings d.id ks) new) theirs again), (part, rest, new, after, is, refl, same-part, low))

pub texts-have-others : (high : TypeId → Bool) (one other : RunContents) (text : List ℕ) → IsClosed (setting_of_script one.head).may high → SameButHigh high one other → MayGive one text
    → (new : List ℕ) × MayGive other new × SameForLow (setting_of_script one.head) high (type_names one.head) one.head.domains text new
texts-have-others high one other text closed same (hs, order) =
    let s : Setting = setting_of_script one.head in
    let l : ℕ → List RunTask = λ d. list_of other.tasks (record { 0 = d }) in
    let (ys, legal, alike, low) = each-has-others s high (events_in hs) (redone_events s high l hs) (trace_in hs) closed (same-passed s high l hs) order.legal in
    let (ks, redone, events, trace) = done-again s high [] l hs ys order.legal alike in
    let (new, all, for-low) = all-too s high (type_names one.head) l hs ks one other one.head.domains text (λ d. refl) redone same.tasks refl (ap type_names (sym same.head)) order.follow in (
      new,
      (
        ks,
        record {
          legal = subst (λ (h : Contents). Legal (setting_of_script h) (events_in ks) (trace_in ks)) (sym same.head)
              (subst (λ (es : List Event). Legal s es (trace_in ks)) (sym events) (subst (λ (xs : List Element). Legal s (redone_events s high l hs) xs) (sym trace) legal));
          follow = subst (λ (h : Contents). AllFollow other ks h.domains new) (sym same.head) all;
          known = subst (λ (h : Contents). All (λ x. domain_of h.domains (doer x) ≢ None) ks) (sym same.head)
              (All-from_recursion (λ x. domain_of one.head.domains (doer x) ≢ None) ks (known-too s high one.head.domains l hs ks redone (recursion_from_All (λ x. domain_of one.head.domains (doer x) ≢ None) hs order.known)));
          flags = flags-too s high hs ks (flags-same s high l hs ks redone) order.flags;
        },
      ),
      for-low,
    )

-- each of two scripts that are the same so is so by the other

stored-back : (call other : ScriptCall) → SameButStored call other → SameButStored other call
stored-back (script_calls.Store label off hex) (script_calls.Store name at new) (e, f, n) = (sym e, sym f, sym n)
stored-back (script_calls.Poke frame off hex) (script_calls.Poke number at new) (e, f, n) = (sym e, sym f, sym n)
stored-back (script_calls.Store label off hex) other same = absurd (let f = same in cc)
stored-back (script_calls.Poke frame off hex) other same = absurd (let f = same in cc)
stored-back call other same = subst (λ (c : ScriptCall). SameButStored c call) same (plain call same) where
  plain : (call : ScriptCall) → call ≡ other → SameButStored call call
  plain (script_calls.Store label off hex) same = (refl, refl, refl)
  plain (script_calls.Poke frame off hex) same = (refl, refl, refl)
  plain call same = refl

action-back : (b : Bool) (run_action other : RunAction) → SameAction b run_action other → SameAction b other run_action
action-back true (Do call) (Do other) same = stored-back call other same
action-back true (Do call) (Tell flag) same = absurd (let f = same in cc)
action-back true (Do call) (Await flag) same = absurd (let f = same in cc)
action-back true (Tell flag) other same = subst (λ (z : RunAction). SameAction true z (Tell flag)) same refl
action-back true (Await flag) other same = subst (λ (z : RunAction). SameAction true z (Await flag)) same refl
action-back false run_action other same = sym same

tasks-back : (s : Setting) (high : TypeId → Bool) (ts us : List RunTask) → SameTasks s high ts us → SameTasks s high us ts
tasks-back s high [] [] same = tt
tasks-back s high (t ∷ ts) (u ∷ us) same =
    (sym same.0, sym same.1, action-back (is_high s high u.dom) t.run_action u.run_action (subst (λ (d : DomId). SameAction (is_high s high d) t.run_action u.run_action) same.1 same.2), tasks-back s high ts us same.3)
tasks-back s high [] (u ∷ us) same = absurd same
tasks-back s high (t ∷ ts) [] same = absurd same

pub others-alike : (high : TypeId → Bool) (one other : RunContents) → SameButHigh high one other → SameButHigh high other one
others-alike high one other same = record {
  head = sym same.head;
  tasks = subst (λ (h : Contents). SameTasks (setting_of_script h) high other.tasks one.tasks) (sym same.head) (tasks-back (setting_of_script one.head) high one.tasks other.tasks same.tasks);
}
