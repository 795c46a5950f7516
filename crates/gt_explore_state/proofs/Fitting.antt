-- A step that is right after a history that a core stands for fits.
use Rattle.gt_core.proofs.Words.{◌≡◌, ◌≢◌, ◌≤◌, ◌+◌, ℕ, refl, Bool, true, List, [], ◌∷◌, ◌++◌, length, Option, Some}
use Rattle.gt_core.proofs.Words.{None, cond, sym, ap, ◌∙◌, arith, subst, ◌==◌, eqb-true, none-some, same_Some}
use Rattle.gt_core.proofs.Words.{cond_both, reverse, length-reverse, reverse_onto, domain_of, DomId, HeldPin}
use Rattle.gt_core.proofs.Words.{Observation, Taken, Missed, Step, LookHeader, LookControl, LookBody, Unpin}
use Rattle.gt_core.proofs.Words.{StoreHeader, Exchange, State, state_of, History, Setting, Underway, live, open_call}
use Rattle.gt_core.proofs.Words.{values, word_at, seen_by, legs_at, numbered, without, DomainsStand, StateAgrees}
use Rattle.gt_core.proofs.Words.{OpenAgrees, CallAgrees, IsLegalHistory, IsRight, StepsRightIn, zero, suc, false}
use Rattle.gt_core.proofs.Words.{eq-eqb, false≢true, slice_get, DomainConfig, OpenRequest, Copy, Spot, FRAME_SIZE}
use Rattle.gt_core.proofs.Words.{CopyIsJustified, Justified}
use Rattle.gt_model.specs.declared.action.Step.TheVariants as call_steps
use Rattle.gt_model.specs.declared.request.PinHolder.TheVariants as holders
use Rattle.gt_core.proofs.{Phases.IsHere, Phases.makes-same, EachStep.each-step, Steps.See.IsWithin}
use Rattle.gt_core.proofs.{Steps.See.state-there, Steps.Pin.can-pin, Steps.Exchange.can-change, Steps.Unpin.loses-leg}
use Rattle.gt_core.proofs.{Steps.Unpin.loses-mapping, Steps.Unpin.Loses, Steps.Store.header-fits}
use Rattle.gt_core.specs.GoingOn.{CanBeReached}
use Rattle.gt_model.proofs.Observers.{stepped}
use Rattle.gt_core.specs.declared.underway.OpenCall.{OpenCall}
use Rattle.gt_model.specs.declared.trace.ItemEvent.{ItemEvent}
use Rattle.gt_model.specs.declared.trace.ItemEvent.TheVariants.{Began, Stepped}
use Rattle.gt_model.specs.declared.trace.Item.{Item}
use Rattle.gt_explore_state.specs.Shows.{IsInRun, LooksInRun, StepFits, PagesShow, TablesShow, unheld, RightStepsFit}
use Rattle.gt_explore_state.specs.Shows.{BeginningsChangeNothing}
use Rattle.gt_explore_state.proofs.Showing.{item-is, tables-begun}
use Rattle.gt_explore_state.proofs.Writings.{pages-begun}

-- a domain with a state is one of the run
of-state : (s : Setting) (h : History) (xs : List State) (dom : DomId) → DomainsStand s h xs → state_of xs dom.0 ≢ None → IsInRun s dom
of-state s h xs dom st some = by (state_of xs dom.0) refl (st.each dom) where
  by : (o : Option State) → state_of xs dom.0 ≡ o → StateAgrees s h dom o → IsInRun s dom
  by None e a = absurd (some e)
  by (Some x) e a = a.0

pub copy-frames : (s : Setting) (h : History) (d : DomId) (r : OpenRequest) (from to : Spot) (len : ℕ) → CopyIsJustified s h d r from to len → (from.off + len ≤ FRAME_SIZE) × (to.off + len ≤ FRAME_SIZE)
copy-frames s h d (Copy c) from to len j = (j.0.1, j.1.1)
copy-frames s h d r from to len j = absurd j

module _ (s : Setting) (h : History) (xs : List State) (x : State) (o : OpenCall) (c : Underway) (legal : IsLegalHistory s h) (st : DomainsStand s h xs) (here : state_of xs x.id.0 ≡ Some x) (a : OpenAgrees s h x.id o c) where
  stands : IsHere s h xs x.id c.request (values c) (reverse c.steps) a.phase o.step
  stands = record { legal = legal; st = st; own = λ e. none-some x (sym e ∙ here); at = a.at; acts = a.acts; place = a.place; held = a.held; rests = a.rests; fits = a.fits }

  of : (z : Step) → o.step ≡ z → IsHere s h xs x.id c.request (values c) (reverse c.steps) a.phase z
  of z e = subst (IsHere s h xs x.id c.request (values c) (reverse c.steps) a.phase) e stands

  within : (z : Step) → o.step ≡ z → IsWithin xs x.id z
  within z e = (each-step s h xs x.id c.request (values c) (reverse c.steps) a.phase z (of z e)).0

  pub looks : (z : Step) → o.step ≡ z → LooksInRun s x.id z
  looks (LookHeader dom) e = of-state s h xs dom st (within (LookHeader dom) e)
  looks (LookControl dom gref) e = of-state s h xs dom st (within (LookControl dom gref) e).0
  looks (LookBody dom gref body_word) e = of-state s h xs dom st (within (LookBody dom gref body_word) e).0
  looks (call_steps.Pin p) e = of-state s h xs p.dom st (within (call_steps.Pin p) e).0
  looks (Exchange gref looked change) e = of-state s h xs x.id st (within (Exchange gref looked change) e).0
  looks z e = tt

  -- a pin that its call gives back is the call's last one
  pub own-legs : (p : HeldPin) (place : ℕ) → o.step ≡ Unpin p (holders.Leg place) → (ps : List HeldPin) × (place ≡ length ps) × (legs_at h x.id.0 ≡ numbered 0 (ps ++ p ∷ []))
  own-legs p place e = let r = (of (Unpin p (holders.Leg place)) e).rests.1 in
      (reverse r.others, r.place_is ∙ sym (length-reverse r.others), a.held ∙ ap (λ (z : List HeldPin). numbered 0 (reverse z)) r.held ∙ ap (numbered 0) (reverse_onto r.others p []))

  pub fits : (z : Step) → o.step ≡ z → Justified s h x.id c.request z → StepFits s h x.id z (seen_by s h x.id z)
  fits (call_steps.Pin p) e justified = let w = word_at s h p.dom.0 p.gref.0 in
      cond_both (w == p.word) Taken (Missed w) (StepFits s h x.id (call_steps.Pin p)) (λ is. (can-pin s h xs x.id c.request (values c) (reverse c.steps) a.phase p (of (call_steps.Pin p) e) (eqb-true w p.word is)).few) (λ is. tt)
  fits (Exchange gref looked change) e justified = let w = word_at s h x.id.0 gref.0 in
      cond_both (w == looked) Taken (Missed w) (StepFits s h x.id (Exchange gref looked change))
      (λ is. (can-change s h xs x.id c.request (values c) (reverse c.steps) a.phase gref looked change (of (Exchange gref looked change) e) (eqb-true w looked is)).room) (λ is. tt)
  fits (Unpin p (holders.Mapping handle)) e justified = loses-mapping h x.id handle p (of (Unpin p (holders.Mapping handle)) e).rests.1.1
  fits (Unpin p (holders.Leg place)) e justified = let r = (of (Unpin p (holders.Leg place)) e).rests.1 in
      let legs : legs_at h x.id.0 ≡ numbered 0 (reverse r.others ++ p ∷ []) = a.held ∙ ap (λ (z : List HeldPin). numbered 0 (reverse z)) r.held ∙ ap (numbered 0) (reverse_onto r.others p []) in
      subst (λ (n : ℕ). Loses p (live h) (without x.id.0 (holders.Leg n) (live h))) (length-reverse r.others ∙ sym r.place_is) (loses-leg h x.id (reverse r.others) p legs)
  fits (StoreHeader version frames) e justified = let i = of (StoreHeader version frames) e in let f = header-fits s h xs x.id c.request version frames st i.rests.0 i.rests.1 in let v = f.version in let n = f.frames in (omega arith, omega arith)
  fits (call_steps.Read dom frame off len) e justified = justified.0.1
  fits (call_steps.Write dom frame off len) e justified = justified.0.1
  fits (call_steps.Copy from to len) e justified = copy-frames s h x.id c.request from to len justified
  fits z e justified = tt

-- a step that is right is the one at which its call stands
same-step : (s : Setting) (h : History) (xs : List State) (x : State) (i : Item) (step : Step) (seen : Observation) → IsLegalHistory s h → DomainsStand s h xs → state_of xs x.id.0 ≡ Some x
    → (o : Option OpenCall) (u : Option Underway) → CallAgrees s h x.id o u → StepsRightIn s h (stepped x.id step seen i.answer) step seen u → LooksInRun s x.id step × StepFits s h x.id step seen
same-step s h xs x i step seen legal st here None None a right = absurd right
same-step s h xs x i step seen legal st here None (Some c) a right = absurd a
same-step s h xs x i step seen legal st here (Some o) None a right = absurd a
same-step s h xs x i step seen legal st here (Some o) (Some c) a right =
    let same : o.step ≡ step = makes-same o.step step (same_Some _ _ (sym a.follows ∙ right.continues)) in
    (looks s h xs x o c legal st here a step same, subst (StepFits s h x.id step) (sym right.sees) (fits s h xs x o c legal st here a step same right.justified))

pub right-fits : (s : Setting) (h : History) (i : Item) (step : Step) (seen : Observation) → CanBeReached s h → IsInRun s i.actor → IsRight s h i → i.happened ≡ Stepped step seen → LooksInRun s i.actor step × StepFits s h i.actor step seen
right-fits s h i step seen (core, stands) run right is =
    let st = stands.domains in let xs = core.domains in
    let some : state_of xs i.actor.0 ≢ None = λ e. run (subst (StateAgrees s h i.actor) e (st.each i.actor)) in
    let t = state-there s h xs i.actor st some in let x = t.0 in
    let here : state_of xs x.id.0 ≡ Some x = ap (λ (d : DomId). state_of xs d.0) t.2 ∙ t.1 in
    let made : IsRight s h (stepped x.id step seen i.answer) = subst (IsRight s h) (item-is i x.id step seen (sym t.2) is) right in
    subst (λ (d : DomId). LooksInRun s d step × StepFits s h d step seen) t.2
    (same-step s h xs x i step seen stands.legal st here x.underway (open_call h x.id.0) t.3.call made)

-- looks at words are no unpins
pub from-looks : (s : Setting) (d : DomId) (z : Step) → LooksInRun s d (unheld z) → LooksInRun s d z
from-looks s d (Unpin p holder) run = run
from-looks s d z run = run

pub to-looks : (s : Setting) (d : DomId) (z : Step) → LooksInRun s d z → LooksInRun s d (unheld z)
to-looks s d (Unpin p holder) run = run
to-looks s d z run = run

pub of-place : (ds : List DomainConfig) (at : ℕ) (c : DomainConfig) → slice_get ds at ≡ Some c → domain_of ds c.id ≢ None
of-place [] at c e = λ n. none-some c e
of-place (x ∷ xs) zero c e = λ n. by (x.id.0 == c.id.0) (eq-eqb x.id.0 c.id.0 (ap (λ (z : DomainConfig). z.id.0) (same_Some x c e))) n where
  by : (b : Bool) → b ≡ true → cond b (Some x) (domain_of xs c.id) ≡ None → ⊥
  by true is n = none-some x (sym n)
  by false is n = false≢true is
of-place (x ∷ xs) (suc at) c e = by (x.id.0 == c.id.0) (of-place xs at c e) where
  by : (b : Bool) → domain_of xs c.id ≢ None → cond b (Some x) (domain_of xs c.id) ≢ None
  by true some = λ n. none-some x (sym n)
  by false some = some

pub right-steps-fit : RightStepsFit
right-steps-fit s h i at d made step seen reached right is placed actor same =
    let run : IsInRun s i.actor = subst (IsInRun s) (sym actor) (of-place s.domains at d placed) in
    let f = right-fits s h i made seen reached run right is in (
      record { domain = d; placed = placed; actor = actor; made = made; happened = is; same = same; fits = f.1 },
      from-looks s i.actor step (subst (LooksInRun s i.actor) same (to-looks s i.actor made f.0)),
    )

pub beginnings-change-nothing : BeginningsChangeNothing
beginnings-change-nothing s h i request ts pages apart is =
    let same : record { actor = i.actor; happened = Began request; answer = i.answer } ≡ i = ap (λ (x : ItemEvent). record { actor = i.actor; happened = x; answer = i.answer }) (sym is) in (
      (λ shows. subst (λ (x : Item). TablesShow s (x ∷ h) ts) same (tables-begun s h i.actor request i.answer ts apart shows)),
      (λ shows. subst (λ (x : Item). PagesShow (x ∷ h) pages) same (pages-begun h i.actor request i.answer pages shows)),
    )
