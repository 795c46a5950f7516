-- Each run of the monitor has a legal order: by its history, from the newest step back.
use Rattle.std.proofs.Common.{◌≡◌, ◌≢◌, ℕ, zero, suc, ◌<◌, ◌≤◌, Bool, cond, List, [], ◌∷◌, length, Some, sym, refl}
use Rattle.std.proofs.Common.{ap, ◌∙◌, subst, arith, ◌⊎◌, inl, inr, eq-eqb}
use Rattle.std.proofs.lemmas.Bool.{cases_eq, cases_lt}
use Rattle.gt_types.specs.Config.{IsWithinLimits}
use Rattle.gt_types.specs.declared.config.Config.{Config}
use Rattle.gt_word_history.proofs.Order.{part_else, part_here, up_else}
use Rattle.gt_words.specs.Conditions.{Board, SeatOf}
use Rattle.gt_word_history.specs.History.{StepHistory, Layout, Moment, part_of, up_to}
use Rattle.gt_word_history.specs.Rule.{layout_of, position_in}
use Rattle.gt_word_history.specs.Steps.{StoodWith}
use Rattle.gt_word_history.specs.Views.{with_step}
use Rattle.gt_word_history.specs.declared.view.FrameStep.TheVariants as frame_steps
use Rattle.gt_word_history.specs.declared.view.SeatStep.TheVariants.{Flag, Frame}
use Rattle.gt_word_history.specs.declared.view.SeatStep.{SeatStep}
use Rattle.gt_word_history.specs.declared.view.View.{View}
use Rattle.gt_model.specs.Asking.{bytes_given_by}
use Rattle.gt_model.specs.declared.action.Action.TheVariants as actions
use Rattle.gt_model.specs.declared.action.CallResult.{CallResult}
use Rattle.gt_model.specs.declared.action.CallResult.TheVariants as results
use Rattle.gt_model.specs.declared.action.Step.{Step}
use Rattle.gt_model.specs.declared.action.Step.TheVariants as call_steps
use Rattle.gt_core.specs.GoingOn.{CanBeReached}
use Rattle.gt_model.specs.History.{History, setting_of}
use Rattle.gt_model.specs.Legal.{Legal}
use Rattle.gt_live.proofs.Walking.{after-position}
use Rattle.gt_live.specs.Domains.{AllowRelation}
use Rattle.gt_live.specs.Starting.{IsNewDomain}
use Rattle.gt_live.specs.Walks.{IsWalk, view_after, all_shown}
use Rattle.gt_live.specs.declared.domain.Domain.{Domain}
use Rattle.gt_linearization.proofs.Accesses.{AccessedAs, read-as}
use Rattle.gt_linearization.proofs.Stages.{Fits, Ordered, Stage}
use Rattle.gt_linearization.proofs.Stages.Stage.{Going, Resting}
use Rattle.gt_linearization.proofs.Start.{ordered-first}
use Rattle.gt_linearization.proofs.Walks.{as-walk}
use Rattle.gt_linearization.specs.Agreeing.{WritesAgree}
use Rattle.gt_linearization.specs.Laws.{RunsHaveLegalOrders}
use Rattle.gt_linearization.specs.Ordering.{IsLegalOrder, RunOrder, events_of, trace_of, way_of}
use Rattle.gt_linearization.specs.Runs.{AreDeeds, CallMade, CallOutcome, DomainAct, FlagMade, IsAnswered, IsAtRest, IsCall}
use Rattle.gt_linearization.specs.Runs.{IsCallWalk, LookMade, TookSteps, domain_after}
use Rattle.gt_linearization.specs.Runs.DomainAct.{Call, Look, OnFlag}
use Rattle.gt_linearization.specs.Runs.CallOutcome.{Judged, MadeMapping, NoMemory, Read, Written}
use Rattle.gt_linearization.proofs.NextStage.{begin-call, end-call, go-on, head-same, named, no-head, placed, put, put-else}
use Rattle.gt_linearization.proofs.NextStage.{put-here, LastIs, LastNext, quiet-call, same-view, step-on-flag, step-on-look}
use Rattle.gt_linearization.proofs.NextStage.{step_of_look, stood-of, tail-same}

module _ (b : Board) (c : Config) (may : AllowRelation) (limits : IsWithinLimits c) (is : b.layout ≡ layout_of c) (firsts : ℕ → Domain) (new : (i : ℕ) → i < b.layout.domains → IsNewDomain b c may i (firsts i)) where
  abbrev k : Layout
  k = b.layout

  abbrev FitAll : StepHistory → (ℕ → Stage) → Type 0
  FitAll h stages = (i : ℕ) → i < k.domains → Fits b c may h i (firsts i) (stages i)

  -- one stage is another
  refit : (h' h : StepHistory) (stages : ℕ → Stage) (i : ℕ) (y : Stage) → FitAll h stages → ((j : ℕ) → i ≢ j → (part_of j h' ≡ part_of j h) × (up_to j h' ≡ up_to j h)) → Fits b c may h' i (firsts i) y → FitAll h' (put i y stages)
  refit h' h stages i y fits same here j l = elim (cases_eq i j) [
    | inl e ↦ subst (λ (z : ℕ). Fits b c may h' z (firsts z) (put i y stages z)) e (subst (Fits b c may h' i (firsts i)) (sym (put-here i y stages)) here)
    | inr n ↦ let f = fits j l in let p = same j n in subst (Fits b c may h' j (firsts j)) (sym (put-else i y stages j n)) (record { is = f.is; steps = f.steps ∙ sym p.0; past = f.past ∙ sym p.1 })
  ]

  -- the moment of a step is its place in the history
  at-moment : (h : StepHistory) (x : Moment) (i : ℕ) (p : ℕ × SeatStep) (v : View) → v.position ≡ i → p.0 ≡ i → (with_step x.0 x.1 v).past ≡ up_to i (p ∷ h) → (x.0 ≡ h) × (x.1 ≡ p.1)
  at-moment h x i p v at here e =
      let top : up_to i (p ∷ h) ≡ p ∷ h = ap (λ (z : Bool). cond z (p ∷ h) (up_to i h)) (eq-eqb p.0 i here) in
      let all : (v.position, x.1) ∷ x.0 ≡ p ∷ h = e ∙ top in
      (tail-same _ _ _ _ all, ap (λ (q : ℕ × SeatStep). q.1) (head-same _ _ _ _ all))

  -- the call goes back by one step
  back : (h : StepHistory) (p : ℕ × SeatStep) (i : ℕ) (ms : List DomainAct) (m : CallMade) (xs : List Moment) (x : Moment) → p.0 ≡ i → AreDeeds b c may (firsts i) ms → IsAtRest (domain_after (firsts i) ms) m.old → IsCall b c may m → m.old.seat.view.position ≡ i
      → (z : Step) × (way_of c may m (all_shown xs) ≡ Some (actions.Step z)) × StoodWith (Unit {0}) k x.0 (view_after xs m.old.seat.view) → IsCallWalk k (bytes_given_by m.request) (way_of c may m) m.old.seat.view xs
      → (view_after (x ∷ xs) m.old.seat.view).steps ≡ part_of i (p ∷ h) → (view_after (x ∷ xs) m.old.seat.view).past ≡ up_to i (p ∷ h)
      → ((x.0 ≡ h) × (x.1 ≡ p.1)) × Fits b c may h i (firsts i) (Going ms m xs)
  back h p i ms m xs x here calls rest call at newest walk steps past =
      let v = view_after xs m.old.seat.view in let at-v : v.position ≡ i = after-position xs m.old.seat.view ∙ at in
      let same = at-moment h x i p v at-v here past in
      let top : part_of i (p ∷ h) ≡ p.1 ∷ part_of i h = ap (λ (z : Bool). cond z (p.1 ∷ part_of i h) (part_of i h)) (eq-eqb p.0 i here) in
      let before : v.steps ≡ part_of i h = tail-same _ _ _ _ (steps ∙ top) in let stood = newest.2 in (
        same,
        record {
          is = record { run_actions = calls; rests = rest; call = call; walked = walk; step = newest.0; next = newest.1 };
          steps = before;
          past = (stood.1.led_here.parts v.position v stood.2).1 ∙ (λ j. up_to (at-v j) (same.0 j));
        },
      )

  -- back over the calls without a step

  strip : (h : StepHistory) (i : ℕ) (l : i < k.domains) (orig : ℕ → Stage)
      → ((ms : List DomainAct) (m : CallMade) (xs : List Moment) (x : Moment) (stages : ℕ → Stage) → stages i ≡ Resting (Call m ∷ ms) → m.steps ≡ x ∷ xs → FitAll h stages → Ordered b c may h firsts stages)
      → ((ms : List DomainAct) (x : FlagMade) (stages : ℕ → Stage) → stages i ≡ Resting (OnFlag x ∷ ms) → FitAll h stages → Ordered b c may h firsts stages)
      → ((ms : List DomainAct) (x : LookMade) (stages : ℕ → Stage) → stages i ≡ Resting (Look x ∷ ms) → FitAll h stages → Ordered b c may h firsts stages)
      → ((stages : ℕ → Stage) → stages i ≡ Resting [] → ((j : ℕ) → i ≢ j → stages j ≡ orig j) → FitAll h stages → Ordered b c may h firsts stages)
      → (ms : List DomainAct) (stages : ℕ → Stage) → stages i ≡ Resting ms → ((j : ℕ) → i ≢ j → stages j ≡ orig j) → FitAll h stages → Ordered b c may h firsts stages
  strip h i l orig on-step on-flag on-look on-empty [] stages e same fits = on-empty stages e same fits
  strip h i l orig on-step on-flag on-look on-empty (OnFlag x ∷ ms) stages e same fits = on-flag ms x stages e fits
  strip h i l orig on-step on-flag on-look on-empty (Look x ∷ ms) stages e same fits = on-look ms x stages e fits
  strip h i l orig on-step on-flag on-look on-empty (Call m ∷ ms) stages e same fits =
      by m.steps refl (λ more. strip h i l orig on-step on-flag on-look on-empty ms (put i (Resting ms) stages) (put-here i (Resting ms) stages) (λ j n. put-else i (Resting ms) stages j n ∙ same j n) more)
    where
      fit : Fits b c may h i (firsts i) (Resting (Call m ∷ ms))
      fit = subst (Fits b c may h i (firsts i)) e (fits i l)

      by : (z : List Moment) → m.steps ≡ z → (FitAll h (put i (Resting ms) stages) → Ordered b c may h firsts (put i (Resting ms) stages)) → Ordered b c may h firsts stages
      by [] none rec =
          let view : (domain_after (firsts i) ms).seat.view ≡ m.new.seat.view = sym (same-view b c may limits is firsts new m.request m.outcome m.steps m.old m.new fit.is.0.answered none ∙ ap (λ (q : SeatOf). q.view) fit.is.1.seat) in
          let steps : (domain_after (firsts i) ms).seat.view.steps ≡ part_of i h = ap (λ (q : View). q.steps) view ∙ fit.steps in
          quiet-call b c may limits is firsts new h i l m ms stages e none fit.is steps
          (rec (refit h h stages i (Resting ms) fits (λ j n. (refl, refl)) (record { is = fit.is.2; steps = steps; past = ap (λ (q : View). q.past) view ∙ fit.past })))
      by (x ∷ xs) made rec = on-step ms m xs x stages e made fits

  -- before the first step

  flush : (n : ℕ) → n ≤ k.domains → (stages : ℕ → Stage) → ((j : ℕ) → n ≤ j → j < k.domains → stages j ≡ Resting []) → FitAll [] stages → Ordered b c may [] firsts stages
  flush zero le stages rest fits = ordered-first b c may limits is firsts stages new (named b c may limits is firsts new) (λ j l. rest j (omega arith) l)
  flush (suc n) le stages rest fits = by (λ st r f. flush n (omega arith) st r f) (stages n) refl
    where
      l : n < k.domains
      l = omega arith

      no-steps : (ms : List DomainAct) (m : CallMade) (xs : List Moment) (x : Moment) (st : ℕ → Stage) → st n ≡ Resting (Call m ∷ ms) → m.steps ≡ x ∷ xs → FitAll [] st → Ordered b c may [] firsts st
      no-steps ms m xs x st e made f =
          let fit = subst (Fits b c may [] n (firsts n)) e (f n l) in
          absurd (some-steps m.outcome fit.is.0.answered)
        where
          view-then : (verdict : CallResult) → TookSteps b c may m.request verdict m.steps m.old m.new → m.new.seat.view.steps ≡ [] → ⊥
          view-then verdict t none = no-head x.1 _ (ap (λ (q : View). q.steps) (sym (t.0.view ∙ ap (λ (z : List Moment). view_after z m.old.seat.view) (t.1 ∙ made))) ∙ none)

          some-steps : (o : CallOutcome) → IsAnswered b c may m.request o m.steps m.old m.new → ⊥
          some-steps NoMemory a = no-head x xs (sym made ∙ a.0)
          some-steps (Read bytes) a = no-head _ _ (ap (λ (q : View). q.steps) (sym a.0.made.view) ∙ (subst (Fits b c may [] n (firsts n)) e (f n l)).steps)
          some-steps Written a = no-head x.1 _ (ap (λ (q : View). q.steps) (sym (a.0.view ∙ ap (λ (z : List Moment). view_after z m.old.seat.view) made)) ∙ (subst (Fits b c may [] n (firsts n)) e (f n l)).steps)
          some-steps (Judged verdict) a = view-then verdict a.1 ((subst (Fits b c may [] n (firsts n)) e (f n l)).steps)
          some-steps (MadeMapping handle p) a = view-then (results.Mapped p) a.1 ((subst (Fits b c may [] n (firsts n)) e (f n l)).steps)

      no-flags : (ms : List DomainAct) (x : FlagMade) (st : ℕ → Stage) → st n ≡ Resting (OnFlag x ∷ ms) → FitAll [] st → Ordered b c may [] firsts st
      no-flags ms x st e f =
          let fit = subst (Fits b c may [] n (firsts n)) e (f n l) in
          absurd (no-head _ _ (ap (λ (q : View). q.steps) (sym fit.is.0.step.view) ∙ fit.steps))

      no-looks : (ms : List DomainAct) (x : LookMade) (st : ℕ → Stage) → st n ≡ Resting (Look x ∷ ms) → FitAll [] st → Ordered b c may [] firsts st
      no-looks ms x st e f =
          let fit = subst (Fits b c may [] n (firsts n)) e (f n l) in
          absurd (no-head _ _ (ap (λ (q : View). q.steps) (sym fit.is.0.found.0.steps.adds.view) ∙ fit.steps))

      on : ((st : ℕ → Stage) → ((j : ℕ) → n ≤ j → j < k.domains → st j ≡ Resting []) → FitAll [] st → Ordered b c may [] firsts st)
          → (st : ℕ → Stage) → st n ≡ Resting [] → ((j : ℕ) → n ≢ j → st j ≡ stages j) → FitAll [] st → Ordered b c may [] firsts st
      on rec st e same f = rec st (λ j a lj. elim (cases_eq n j) [ inl z ↦ subst (λ (q : ℕ). st q ≡ Resting []) z e | inr z ↦ same j z ∙ rest j (omega arith) lj ]) f

      by : ((st : ℕ → Stage) → ((j : ℕ) → n ≤ j → j < k.domains → st j ≡ Resting []) → FitAll [] st → Ordered b c may [] firsts st) → (st : Stage) → stages n ≡ st → Ordered b c may [] firsts stages
      by rec (Resting ms) e = strip [] n l stages no-steps no-flags no-looks (on rec) ms stages e (λ j z. refl) fits
      by rec (Going ms m []) e =
          let fit = subst (Fits b c may [] n (firsts n)) e (fits n l) in
          let seat : (domain_after (firsts n) ms).seat.view ≡ m.old.seat.view = sym (ap (λ (q : SeatOf). q.view) fit.is.rests.seat) in
          begin-call b c may limits is firsts new [] n l m ms stages e fit.is
          (strip [] n l stages no-steps no-flags no-looks (on rec) ms (put n (Resting ms) stages) (put-here n (Resting ms) stages) (λ j z. put-else n (Resting ms) stages j z)
          (refit [] [] stages n (Resting ms) fits (λ j z. (refl, refl)) (record { is = fit.is.run_actions; steps = ap (λ (q : View). q.steps) seat ∙ fit.steps; past = ap (λ (q : View). q.past) seat ∙ fit.past })))
      by rec (Going ms m (x ∷ xs)) e = absurd (no-head x.1 _ (subst (Fits b c may [] n (firsts n)) e (fits n l)).steps)

  -- the history from its newest step back

  build : (h : StepHistory) (stages : ℕ → Stage) → FitAll h stages → ((j : ℕ) → k.domains ≤ j → part_of j h ≡ []) → Ordered b c may h firsts stages
  build [] stages fits none = flush k.domains (omega arith) stages (λ j a lj. absurd (omega arith)) fits
  build (p ∷ h) stages fits none = at (λ st f. build h st f (λ j le. sym (other j le) ∙ none j le)) (cases_lt p.0 k.domains)
    where
      i : ℕ
      i = p.0

      top : part_of i (p ∷ h) ≡ p.1 ∷ part_of i h
      top = part_here p.0 p.1 h

      other : (j : ℕ) → k.domains ≤ j → part_of j (p ∷ h) ≡ part_of j h
      other j le = elim (cases_eq p.0 j) [
        | inl e ↦ absurd (no-head p.1 (part_of j h) (sym (subst (λ (q : ℕ). part_of q (p ∷ h) ≡ p.1 ∷ part_of q h) e top) ∙ none j le))
        | inr n ↦ part_else p.0 p.1 h j n
      ]

      others : (j : ℕ) → i ≢ j → (part_of j h ≡ part_of j (p ∷ h)) × (up_to j h ≡ up_to j (p ∷ h))
      others j n = (sym (part_else p.0 p.1 h j n), sym (up_else p.0 p.1 h j n))

      to-here : (x : Moment) (st : ℕ → Stage) → x.0 ≡ h → x.1 ≡ p.1 → Ordered b c may ((i, x.1) ∷ x.0) firsts st → Ordered b c may (p ∷ h) firsts st
      to-here x st a e o = subst (λ (q : StepHistory). Ordered b c may q firsts st) (λ j. (i, e j) ∷ a j) o

      module-step : (i < k.domains) → ((st : ℕ → Stage) → FitAll h st → Ordered b c may h firsts st) → (ms : List DomainAct) (m : CallMade) (xs : List Moment) (x : Moment) (st : ℕ → Stage) → st i ≡ Resting (Call m ∷ ms) → m.steps ≡ x ∷ xs → FitAll (p ∷ h) st → Ordered b c may (p ∷ h) firsts st
      module-step l rec ms m xs x st e made f = go m.outcome fit.is.0.answered
        where
          fit : Fits b c may (p ∷ h) i (firsts i) (Resting (Call m ∷ ms))
          fit = subst (Fits b c may (p ∷ h) i (firsts i)) e (f i l)

          at-old : m.old.seat.view.position ≡ i
          at-old = ap (λ (z : SeatOf). z.view.position) fit.is.1.seat ∙ (placed b c may limits is firsts new i l ms fit.is.2).0

          goes : (z : Step) × (way_of c may m (all_shown xs) ≡ Some (actions.Step z)) × StoodWith (Unit {0}) k x.0 (view_after xs m.old.seat.view) → IsCallWalk k (bytes_given_by m.request) (way_of c may m) m.old.seat.view xs → m.new.seat.view ≡ view_after (x ∷ xs) m.old.seat.view
              → Ordered b c may (p ∷ h) firsts st
          goes newest walk view =
              let bk = back h p i ms m xs x refl fit.is.2 fit.is.1 fit.is.0 at-old newest walk
              (ap (λ (q : View). q.steps) (sym view) ∙ fit.steps) (ap (λ (q : View). q.past) (sym view) ∙ fit.past) in
              let o = rec (put i (Going ms m xs) st) (refit h (p ∷ h) st i (Going ms m xs) f others bk.1) in
              to-here x st bk.0.0 bk.0.1 (end-call b c may limits is firsts new i l ms m xs x st e made fit.is
              (fit.steps ∙ (λ j. part_of i ((i, sym bk.0.1 j) ∷ sym bk.0.0 j)))
              (subst (λ (q : StepHistory). Ordered b c may q firsts (put i (Going ms m xs) st)) (sym bk.0.0) o))

          walks : IsCallWalk k (bytes_given_by m.request) (way_of c may m) m.old.seat.view (x ∷ xs) → m.new.seat.view ≡ view_after (x ∷ xs) m.old.seat.view → Ordered b c may (p ∷ h) firsts st
          walks walk view = goes (stood-of k i (bytes_given_by m.request) (way_of c may m) xs x m.old.seat.view (after-position xs m.old.seat.view ∙ at-old) walk.0) walk.1 view

          took : (verdict : CallResult) → TookSteps b c may m.request verdict m.steps m.old m.new → Ordered b c may (p ∷ h) firsts st
          took verdict t = walks (as-walk k (bytes_given_by m.request) (way_of c may m) m.old.seat.view (x ∷ xs) (subst (IsWalk k (way_of c may m) m.old.seat.view) (t.1 ∙ made) t.0.walked))
              (t.0.view ∙ ap (λ (z : List Moment). view_after z m.old.seat.view) (t.1 ∙ made))

          go : (o : CallOutcome) → IsAnswered b c may m.request o m.steps m.old m.new → Ordered b c may (p ∷ h) firsts st
          go NoMemory a = absurd (no-head x xs (sym made ∙ a.0))
          go (Read bytes) a =
              let t = a.0 in let given = bytes_given_by m.request in let z : Step = call_steps.Read t.dom t.frame t.off t.len in
              let last : Moment = (t.made.past, Frame (position_in k.ids t.dom) t.frame (frame_steps.Read t.off bytes.bytes.items)) in
              let all : last ∷ [] ≡ x ∷ xs = sym t.step ∙ made in
              let so : AccessedAs k i given z (view_after xs m.old.seat.view) (view_after (x ∷ xs) m.old.seat.view) x =
              subst (LastIs k i given z m.old.seat.view) all (read-as k i given t.dom t.frame t.off t.len bytes.bytes.items m.old.seat.view m.new.seat.view (view_after (last ∷ []) m.old.seat.view) t.made refl t.length_is) in
              goes (z, subst (LastNext (way_of c may m) z) all t.next, so.stood)
              (subst (IsCallWalk k given (way_of c may m) m.old.seat.view) (tail-same _ _ _ _ all) tt)
              (t.made.view ∙ ap (λ (q : List Moment). view_after q m.old.seat.view) all)
          go Written a = walks (subst (IsCallWalk k (bytes_given_by m.request) (way_of c may m) m.old.seat.view) made a.0.walked) (a.0.view ∙ ap (λ (z : List Moment). view_after z m.old.seat.view) made)
          go (Judged verdict) a = took verdict a.1
          go (MadeMapping handle q) a = took (results.Mapped q) a.1

      flag-step : (i < k.domains) → ((st : ℕ → Stage) → FitAll h st → Ordered b c may h firsts st) → (ms : List DomainAct) (x : FlagMade) (st : ℕ → Stage) → st i ≡ Resting (OnFlag x ∷ ms) → FitAll (p ∷ h) st → Ordered b c may (p ∷ h) firsts st
      flag-step l rec ms x st e f =
          let fit = subst (Fits b c may (p ∷ h) i (firsts i)) e (f i l) in
          let made = fit.is.0.step in let v = x.old.seat.view in
          let at-v : v.position ≡ i = ap (λ (z : SeatOf). z.view.position) fit.is.1.seat ∙ (placed b c may limits is firsts new i l ms fit.is.2).0 in
          let moment : Moment = (made.past, Flag x.flag x.step) in
          let same = at-moment h moment i p v at-v refl (ap (λ (q : View). q.past) (sym made.view) ∙ fit.past) in
          let before : v.steps ≡ part_of i h = tail-same _ _ _ _ (ap (λ (q : View). q.steps) (sym made.view) ∙ (fit.steps ∙ top)) in
          let stood = made.access.stood in
          let past : v.past ≡ up_to i h = (stood.1.led_here.parts v.position v stood.2).1 ∙ (λ j. up_to (at-v j) (same.0 j)) in
          let seat : (domain_after (firsts i) ms).seat.view ≡ v = sym (ap (λ (q : SeatOf). q.view) fit.is.1.seat) in
          let o = rec (put i (Resting ms) st) (refit h (p ∷ h) st i (Resting ms) f others (record { is = fit.is.2; steps = ap (λ (q : View). q.steps) seat ∙ before; past = ap (λ (q : View). q.past) seat ∙ past })) in
          to-here moment st same.0 same.1 (step-on-flag b c may limits is firsts new made.past i l ms x st e fit.is made.access.recorded (subst (λ (q : StepHistory). Ordered b c may q firsts (put i (Resting ms) st)) (sym same.0) o))

      look-step : (i < k.domains) → ((st : ℕ → Stage) → FitAll h st → Ordered b c may h firsts st) → (ms : List DomainAct) (x : LookMade) (st : ℕ → Stage) → st i ≡ Resting (Look x ∷ ms) → FitAll (p ∷ h) st → Ordered b c may (p ∷ h) firsts st
      look-step l rec ms x st e f =
          let fit = subst (Fits b c may (p ∷ h) i (firsts i)) e (f i l) in
          let found = fit.is.0.found.0.steps in let v = x.old.seat.view in
          let at-v : v.position ≡ i = ap (λ (z : SeatOf). z.view.position) fit.is.1.seat ∙ (placed b c may limits is firsts new i l ms fit.is.2).0 in
          let moment : Moment = (found.past, step_of_look b c may limits is firsts new x) in
          let same = at-moment h moment i p v at-v refl (ap (λ (q : View). q.past) (sym found.adds.view) ∙ fit.past) in
          let before : v.steps ≡ part_of i h = tail-same _ _ _ _ (ap (λ (q : View). q.steps) (sym found.adds.view) ∙ (fit.steps ∙ top)) in
          let stood = found.step.stood in
          let past : v.past ≡ up_to i h = (stood.1.led_here.parts v.position v stood.2).1 ∙ (λ j. up_to (at-v j) (same.0 j)) in
          let seat : (domain_after (firsts i) ms).seat.view ≡ v = sym (ap (λ (q : SeatOf). q.view) fit.is.1.seat) in
          let o = rec (put i (Resting ms) st) (refit h (p ∷ h) st i (Resting ms) f others (record { is = fit.is.2; steps = ap (λ (q : View). q.steps) seat ∙ before; past = ap (λ (q : View). q.past) seat ∙ past })) in
          to-here moment st same.0 same.1 (step-on-look b c may limits is firsts new found.past i l ms x st e fit.is found.step.found_is (subst (λ (q : StepHistory). Ordered b c may q firsts (put i (Resting ms) st)) (sym same.0) o))

      on : (i < k.domains) → (orig : ℕ → Stage) → (st : ℕ → Stage) → st i ≡ Resting [] → ((j : ℕ) → i ≢ j → st j ≡ orig j) → FitAll (p ∷ h) st → Ordered b c may (p ∷ h) firsts st
      on l orig st e same f = let fit = subst (Fits b c may (p ∷ h) i (firsts i)) e (f i l) in
          absurd (no-head p.1 (part_of i h) (sym top ∙ (sym fit.steps ∙ (new i l).seat.steps)))

      at : ((st : ℕ → Stage) → FitAll h st → Ordered b c may h firsts st) → (i < k.domains) ⊎ (k.domains ≤ i) → Ordered b c may (p ∷ h) firsts stages
      at rec (inr le) = absurd (no-head p.1 (part_of i h) (sym top ∙ none i le))
      at rec (inl l) = by (stages i) refl
        where
          by : (st : Stage) → stages i ≡ st → Ordered b c may (p ∷ h) firsts stages
          by (Resting ms) e = strip (p ∷ h) i l stages (module-step l rec) (flag-step l rec) (look-step l rec) (on l stages) ms stages e (λ j z. refl) fits
          by (Going ms m []) e =
              let fit = subst (Fits b c may (p ∷ h) i (firsts i)) e (fits i l) in
              let seat : (domain_after (firsts i) ms).seat.view ≡ m.old.seat.view = sym (ap (λ (q : SeatOf). q.view) fit.is.rests.seat) in
              begin-call b c may limits is firsts new (p ∷ h) i l m ms stages e fit.is
              (strip (p ∷ h) i l stages (module-step l rec) (flag-step l rec) (look-step l rec) (on l stages) ms (put i (Resting ms) stages) (put-here i (Resting ms) stages) (λ j z. put-else i (Resting ms) stages j z)
              (refit (p ∷ h) (p ∷ h) stages i (Resting ms) fits (λ j z. (refl, refl)) (record { is = fit.is.run_actions; steps = ap (λ (q : View). q.steps) seat ∙ fit.steps; past = ap (λ (q : View). q.past) seat ∙ fit.past })))
          by (Going ms m (x ∷ xs)) e =
              let fit = subst (Fits b c may (p ∷ h) i (firsts i)) e (fits i l) in
              let at-old : m.old.seat.view.position ≡ i = ap (λ (z : SeatOf). z.view.position) fit.is.rests.seat ∙ (placed b c may limits is firsts new i l ms fit.is.run_actions).0 in
              let newest = stood-of k i (bytes_given_by m.request) (way_of c may m) xs x m.old.seat.view (after-position xs m.old.seat.view ∙ at-old) fit.is.walked.0 in
              let bk = back h p i ms m xs x refl fit.is.run_actions fit.is.rests fit.is.call at-old newest fit.is.walked.1 fit.steps fit.past in
              let o = rec (put i (Going ms m xs) stages) (refit h (p ∷ h) stages i (Going ms m xs) fits others bk.1) in
              to-here x stages bk.0.0 bk.0.1 (go-on b c may limits is firsts new i l ms m xs x stages e fit.is (subst (λ (q : StepHistory). Ordered b c may q firsts (put i (Going ms m xs) stages)) (sym bk.0.0) o))

-- each run of the monitor has a legal order
pub runs-have-legal-orders : RunsHaveLegalOrders
runs-have-legal-orders b c may s seats run = by ordered
  where
    k : Layout
    k = b.layout

    inside : (i : ℕ) → i < k.domains → i < length c.domains.items
    inside i l = subst (λ (z : Layout). i < z.domains) run.layout l

    firsts : ℕ → Domain
    firsts i = (seats i).first

    stages : ℕ → Stage
    stages i = Resting (seats i).run_actions

    ordered : Ordered b c may run.shown.history firsts stages
    ordered = build b c may run.limits run.layout firsts (λ i l. (run.each i (inside i l)).starts) run.shown.history stages
        (λ i l. let e = run.each i (inside i l) in let p = run.shown.now.led_here.parts i _ e.now in record { is = e.run_actions; steps = p.0; past = p.1 })
        (λ j le. run.shown.now.led_here.no_other j (let n = run.shown.now.dealt.1 in omega arith))

    by : Ordered b c may run.shown.history firsts stages → (o : RunOrder) × IsLegalOrder c may k run.shown.history seats o
    by o = (
      o.order,
      record {
        reached = subst (CanBeReached (setting_of c may)) (sym o.items) o.reached;
        legal = subst (λ (g : History). Legal (setting_of c may) (events_of g) (trace_of g)) (sym o.items) o.legal;
        steps = o.steps;
        writes = subst (λ (g : History). WritesAgree k g run.shown.history) (sym o.items) o.writes;
        flags = o.flags;
        looks = o.looks;
        run_actions = o.own;
      },
    )
