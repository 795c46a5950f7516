-- The next stage of a domain: a call begins, makes a step or ends, or the domain makes a step on a flag or a look.
use Rattle.std.proofs.Common.{◌≡◌, ◌≢◌, ℕ, ◌<◌, Bool, cond, ◌==◌, List, [], ◌∷◌, ◌++◌, length, Option, Some, None}
use Rattle.std.proofs.Common.{sym, refl, ap, ◌∙◌, subst, ◌⊎◌, inl, inr, eq-eqb, ne_eqb, ⊎_elim, ◌+◌}
use Rattle.std.proofs.lemmas.Bool.{cases_eq}
use Rattle.std.specs.Prelude.{IsSome, slice_range}
use Rattle.gt_types.specs.Config.{IsWithinLimits}
use Rattle.gt_types.specs.Names.{domain_of}
use Rattle.gt_types.specs.declared.DomId.{DomId}
use Rattle.gt_types.specs.declared.config.Config.{Config}
use Rattle.gt_types.specs.declared.config.DomainConfig.{DomainConfig}
use Rattle.gt_words.specs.Conditions.{Board, HasDomain, SeatOf}
use Rattle.gt_word_history.specs.History.{StepHistory, Layout, Moment, part_of, word_after}
use Rattle.gt_words.specs.Laws.{domain_of_run, seat_at}
use Rattle.gt_word_history.specs.Rule.{layout_of, place, position_in}
use Rattle.gt_word_history.specs.Steps.{StoodWith}
use Rattle.gt_word_history.specs.declared.view.FrameStep.TheVariants as frame_steps
use Rattle.gt_word_history.specs.declared.view.FlagStep.{FlagStep}
use Rattle.gt_word_history.specs.declared.view.FlagStep.TheVariants.{Passed, Raised}
use Rattle.gt_word_history.specs.declared.view.EntryStep.TheVariants.{Looked}
use Rattle.gt_word_history.specs.declared.view.SeatStep.TheVariants.{Entry, Flag, Frame}
use Rattle.gt_word_history.specs.declared.view.SeatStep.{SeatStep}
use Rattle.gt_word_history.specs.declared.view.View.{View}
use Rattle.gt_model.specs.Asking.{SpellsItsEntry, asked, begun_of, bytes_given_by}
use Rattle.gt_model.specs.Path.{Continuation, path, steps_of}
use Rattle.gt_model.specs.Rules.{CallerKnowledge}
use Rattle.gt_model.specs.declared.action.Action.{Action}
use Rattle.gt_model.specs.declared.action.Action.TheVariants.{Done}
use Rattle.gt_model.specs.declared.action.Action.TheVariants as actions
use Rattle.gt_model.specs.declared.action.CallResult.{CallResult}
use Rattle.gt_model.specs.declared.action.CallResult.TheVariants.{Granted, Given, Refused}
use Rattle.gt_model.specs.declared.action.CallResult.TheVariants as results
use Rattle.gt_model.specs.declared.request.Request.{Request}
use Rattle.gt_model.specs.declared.action.Observation.{Observation}
use Rattle.gt_model.specs.declared.action.Observation.TheVariants.{Word}
use Rattle.gt_model.specs.declared.action.Step.{Step}
use Rattle.gt_model.specs.declared.action.Step.TheVariants.{LookControl}
use Rattle.gt_model.specs.declared.action.Step.TheVariants as call_steps
use Rattle.gt_core.proofs.GoingOn.{calls-can-begin}
use Rattle.gt_live.specs.Mappings.{KeepsMappings}
use Rattle.gt_model.proofs.Observers.{stepped}
use Rattle.gt_core.specs.GoingOn.{AnsweredSo, CanBeReached, MayBeGiven, AnswersAccess, begin_answer, beginning}
use Rattle.gt_model.specs.History.{History, Setting, contents_at, known_at, one_if_mapped, seen_by, table_at, values}
use Rattle.gt_model.specs.History.{setting_of}
use Rattle.gt_model.specs.Legal.{IsRight}
use Rattle.gt_core.specs.Acting.{answer_of}
use Rattle.gt_model.specs.declared.trace.Answer.{Answer}
use Rattle.gt_model.specs.declared.trace.Item.{Item}
use Rattle.gt_shared_table.specs.Bytes.{IsTrueStep}
use Rattle.gt_model.specs.declared.trace.Answer.TheVariants.{Mapped}
use Rattle.gt_model.specs.declared.trace.Answer.TheVariants as answers
use Rattle.gt_live.proofs.Walking.{after-position}
use Rattle.gt_live.specs.Domains.{AllowRelation, knowledge}
use Rattle.gt_live.specs.Starting.{IsNewDomain}
use Rattle.gt_live.specs.Walks.{IsWalk, MakesStep, view_after, all_shown, shown_by, seen_in_step}
use Rattle.gt_live.specs.declared.domain.Domain.{Domain}
use Rattle.gt_linearization.proofs.Accesses.{AccessedAs, accessed-as, read-as, read-bytes, writes-by-none, writes-by-words}
use Rattle.gt_linearization.proofs.Bytes.{said}
use Rattle.gt_linearization.proofs.Called.{leaves}
use Rattle.gt_linearization.proofs.Ending.{RefusesOnly, answered-at-once, answers-at-beginning, asked-refuses, begins, core-adds}
use Rattle.gt_linearization.proofs.Ending.{ends-kept, ends-accessed, after-flag, after-look, ends-told, going-on}
use Rattle.gt_linearization.proofs.Ending.{going-on-accessed, grows-last, grows-on, keeps-at-once, known-alike}
use Rattle.gt_linearization.proofs.Ending.{no-pin-at-once, starves}
use Rattle.gt_linearization.proofs.NextAccess.{accesses-so}
use Rattle.gt_linearization.proofs.NextItem.{goes-so, on-way, unanswered}
use Rattle.gt_linearization.proofs.Making.{made-as, one-moment}
use Rattle.gt_linearization.proofs.DomainsAtRest.{can-be-answered, keeps-agreement}
use Rattle.gt_linearization.proofs.FlagSteps.{agree-on-flag, agree-on-look, raised-in}
use Rattle.gt_linearization.proofs.Stages.{IsGoing, Ordered, SeatNow, Stage, one-more, order_now, own-more}
use Rattle.gt_linearization.proofs.Stages.Stage.{Going, Resting}
use Rattle.gt_linearization.proofs.Stepping.{bounded-quiet, bounded-step}
use Rattle.gt_linearization.specs.Agreeing.{IsThe, WritesAgree, dom_at}
use Rattle.gt_linearization.specs.Ordering.{AreStepsOf, IsNewest, Occurrence, RunOrder, WasRaised, item_of_beginning}
use Rattle.gt_linearization.specs.Ordering.{items_by_outcome, items_of_call, of_core, order_of_actions, way_of}
use Rattle.gt_linearization.specs.Ordering.Occurrence.{OfCore, OfFlag, OfLook}
use Rattle.gt_linearization.specs.Runs.{AreDeeds, CallMade, CallOutcome, DomainAct, FlagMade, IsAnswered, IsAtRest, IsCall}
use Rattle.gt_linearization.specs.Runs.{IsCallWalk, KeepsNoPin, LeavesMappings, LookMade, MakesAccess, MakesTurn, TookSteps}
use Rattle.gt_linearization.specs.Runs.{domain_after}
use Rattle.gt_linearization.specs.Runs.DomainAct.{Call, Look, OnFlag}
use Rattle.gt_linearization.specs.Runs.CallOutcome.{Judged, MadeMapping, NoMemory, Read, Written}

-- a stage in the place of another
abbrev pub put : ℕ → Stage → (ℕ → Stage) → ℕ → Stage
put i y f j = cond (i == j) y (f j)

pub put-here : (i : ℕ) (y : Stage) (f : ℕ → Stage) → put i y f i ≡ y
put-here i y f = ap (λ (b : Bool). cond b y (f i)) (eq-eqb i i refl)

pub put-else : (i : ℕ) (y : Stage) (f : ℕ → Stage) (j : ℕ) → i ≢ j → put i y f j ≡ f j
put-else i y f j n = ap (λ (b : Bool). cond b y (f j)) (ne_eqb i j n)

-- what its stage before and the one after it are in an order
grows-by : (c : Config) (may : AllowRelation) (d : DomId) (i : ℕ) (x : Occurrence) (stages : ℕ → Stage) (was is : Stage) → stages i ≡ is → x ∷ order_now c may d was ≡ order_now c may d is → x ∷ order_now c may d (put i was stages i) ≡ order_now c may d (stages i)
grows-by c may d i x stages was is e grows = ap (λ (st : Stage). x ∷ order_now c may d st) (put-here i was stages) ∙ (grows ∙ ap (order_now c may d) (sym e))

-- how a call is answered that ends so without a pin
answered-so : (g : History) (d : DomId) (v : CallResult) → KeepsNoPin v → AnsweredSo g d (Done v) (Some (answer_of v))
answered-so g d Granted n = refl
answered-so g d (Given value) n = refl
answered-so g d (Refused denial) n = refl
answered-so g d (results.Mapped p) n = absurd n

-- the last part of a step and of what was before it
module _ {A : Type 0} where
  pub head-same : (x y : A) (xs ys : List A) → x ∷ xs ≡ y ∷ ys → x ≡ y
  head-same x y xs ys e = cc

  pub tail-same : (x y : A) (xs ys : List A) → x ∷ xs ≡ y ∷ ys → xs ≡ ys
  tail-same x y xs ys e = cc

  pub no-head : (x : A) (xs : List A) → x ∷ xs ≡ [] → ⊥
  no-head x xs e = cc

-- a step is the newest one
then-more : (k : Layout) (d : DomId) (i : ℕ) (step : Step) (seen : Observation) (x : SeatStep) (rest : StepHistory → Type 0) (h : StepHistory) → d ≡ dom_at k i → IsThe k i step x → seen ≡ seen_in_step x → rest h → IsNewest k d step seen rest ((i, x) ∷ h)
then-more k d i step seen x rest h own the shows r = (own, the, shows, r)

-- an access of a call, which comes next on its path
abbrev IsNextAccess : Layout → ℕ → List ℕ → Continuation → List Moment → Moment → View → View → Type 0
IsNextAccess k i given way xs x v w = (z : Step) × (way (all_shown xs) ≡ Some (actions.Step z)) × AccessedAs k i given z v w x × MakesAccess k given z v w

-- the newest step of a call was made on the words, or is its access
turn-of : (k : Layout) (i : ℕ) (given : List ℕ) (way : Continuation) (xs : List Moment) (x : Moment) (u : View) → MakesTurn k given (way (all_shown xs)) (shown_by x) (view_after xs u) (view_after (x ∷ xs) u)
    → MakesStep k (way (all_shown xs)) (shown_by x) (view_after xs u) (view_after (x ∷ xs) u) ⊎ IsNextAccess k i given way xs x (view_after xs u) (view_after (x ∷ xs) u)
turn-of k i given way xs x u turn = by (way (all_shown xs)) refl turn
  where
    v : View
    v = view_after xs u

    w : View
    w = view_after (x ∷ xs) u

    by : (o : Option Action) → way (all_shown xs) ≡ o → MakesTurn k given o (shown_by x) v w → MakesStep k (way (all_shown xs)) (shown_by x) v w ⊎ IsNextAccess k i given way xs x v w
    by (Some (actions.Step z)) e (inl m) = inl (subst (λ (q : Option Action). MakesStep k q (shown_by x) v w) (sym e) m)
    by (Some (actions.Step z)) e (inr m) =
        let y = accessed-as k i given z v w m.1 in let same : x ≡ y.0 = one-moment x y.0 v y.1.view in
        inr (z, e, subst (AccessedAs k i given z v w) (sym same) y.1, m.1)
    by (Some (Done r)) e m = absurd m
    by None e m = absurd m

-- it was taken after the steps of its moment
pub stood-of : (k : Layout) (i : ℕ) (given : List ℕ) (way : Continuation) (xs : List Moment) (x : Moment) (u : View) → (view_after xs u).position ≡ i → MakesTurn k given (way (all_shown xs)) (shown_by x) (view_after xs u) (view_after (x ∷ xs) u)
    → (z : Step) × (way (all_shown xs) ≡ Some (actions.Step z)) × StoodWith (Unit {0}) k x.0 (view_after xs u)
stood-of k i given way xs x u at turn = ⊎_elim (words (way (all_shown xs)) refl) (λ (q : IsNextAccess k i given way xs x v w). (q.0, q.1, q.2.stood)) (turn-of k i given way xs x u turn)
  where
    v : View
    v = view_after xs u

    w : View
    w = view_after (x ∷ xs) u

    words : (o : Option Action) → way (all_shown xs) ≡ o → MakesStep k (way (all_shown xs)) (shown_by x) v w → (z : Step) × (way (all_shown xs) ≡ Some (actions.Step z)) × StoodWith (Unit {0}) k x.0 v
    words (Some (actions.Step z)) e m =
        let y = made-as k i v w at z (shown_by x) (subst (λ (q : Option Action). MakesStep k q (shown_by x) v w) e m) in
        let same : x ≡ y.0 = one-moment x y.0 v y.1.view in
        (z, e, subst (λ (q : Moment). StoodWith (Unit {0}) k q.0 v) (sym same) y.1.stood)
    words (Some (Done r)) e m = absurd (subst (λ (q : Option Action). MakesStep k q (shown_by x) v w) e m)
    words None e m = absurd (subst (λ (q : Option Action). MakesStep k q (shown_by x) v w) e m)

-- a write or a copy answers no bytes
tells-done : (g : History) (k : Layout) (given : List ℕ) (z : Step) (v w : View) → MakesAccess k given z v w → AnswersAccess g z answers.Done
tells-done g k given (call_steps.Write dom frame off len) v w m = refl
tells-done g k given (call_steps.Copy from to len) v w m = refl
tells-done g k given z v w m = absurd m

-- the newest of these steps is this access
abbrev pub LastIs : Layout → ℕ → List ℕ → Step → View → List Moment → Type 0
LastIs k i given z u [] = ⊥
LastIs k i given z u (y ∷ ys) = AccessedAs k i given z (view_after ys u) (view_after (y ∷ ys) u) y

abbrev pub LastNext : Continuation → Step → List Moment → Type 0
LastNext way z [] = ⊥
LastNext way z (y ∷ ys) = way (all_shown ys) ≡ Some (actions.Step z)

module _ (b : Board) (c : Config) (may : AllowRelation) (limits : IsWithinLimits c) (is : b.layout ≡ layout_of c) (firsts : ℕ → Domain) (new : (i : ℕ) → i < b.layout.domains → IsNewDomain b c may i (firsts i)) where
  abbrev k : Layout
  k = b.layout

  abbrev s : Setting
  s = setting_of c may

  -- the seat of each domain stays at its place

  abbrev pub IsPlaced : ℕ → Domain → Type 0
  IsPlaced i D = (D.seat.view.position ≡ i) × (D.seat.view.first ≡ k.first)

  pub placed : (i : ℕ) → i < k.domains → (ms : List DomainAct) → AreDeeds b c may (firsts i) ms → IsPlaced i (domain_after (firsts i) ms)
  placed i l [] calls = ((new i l).seat.position, (new i l).seat.first)
  placed i l (Call m ∷ ms) calls =
      let p = placed i l ms calls.2 in
      (calls.0.seat.position ∙ (ap (λ (z : SeatOf). z.view.position) calls.1.seat ∙ p.0), calls.0.seat.first ∙ (ap (λ (z : SeatOf). z.view.first) calls.1.seat ∙ p.1))
  placed i l (OnFlag x ∷ ms) calls =
      let p = placed i l ms calls.2 in let kept = calls.0.kept.seat in
      (kept.position ∙ (ap (λ (z : SeatOf). z.view.position) calls.1.seat ∙ p.0), kept.first ∙ (ap (λ (z : SeatOf). z.view.first) calls.1.seat ∙ p.1))
  placed i l (Look x ∷ ms) calls =
      let p = placed i l ms calls.2 in let kept = calls.0.kept.seat in
      (kept.position ∙ (ap (λ (z : SeatOf). z.view.position) calls.1.seat ∙ p.0), kept.first ∙ (ap (λ (z : SeatOf). z.view.first) calls.1.seat ∙ p.1))

  -- and is that of the domain there
  same-dom : (i : ℕ) → i < k.domains → (ms : List DomainAct) → AreDeeds b c may (firsts i) ms → (domain_after (firsts i) ms).seat.dom ≡ dom_at k i
  same-dom i l [] calls = let n = new i l in sym (ap (dom_at k) (sym n.seat.position) ∙ n.domain.seat.named)
  same-dom i l (Call m ∷ ms) calls = calls.0.seat.dom ∙ (ap (λ (z : SeatOf). z.dom) calls.1.seat ∙ same-dom i l ms calls.2)
  same-dom i l (OnFlag x ∷ ms) calls = calls.0.kept.seat.dom ∙ (ap (λ (z : SeatOf). z.dom) calls.1.seat ∙ same-dom i l ms calls.2)
  same-dom i l (Look x ∷ ms) calls = calls.0.kept.seat.dom ∙ (ap (λ (z : SeatOf). z.dom) calls.1.seat ∙ same-dom i l ms calls.2)

  pub named : (i : ℕ) → i < k.domains → domain_of c.domains.items (dom_at k i) ≢ None
  named i l =
      let n = new i l in let D = firsts i in
      let dom : dom_at k i ≡ D.seat.dom = ap (dom_at k) (sym n.seat.position) ∙ n.domain.seat.named in
      let at : D.seat.view.position ≡ position_in k.ids D.seat.dom = seat_at c b D.seat limits.distinct is n.domain.seat in
      let inside : D.seat.view.position < length k.ids = n.domain.seat.inside in
      let has : HasDomain k D.seat.dom = subst (λ (z : ℕ). z < length k.ids) at inside in
      let there : IsSome (domain_of c.domains.items D.seat.dom) = (domain_of_run c D.seat.dom).1 (subst (λ (z : Layout). HasDomain z D.seat.dom) is has) in
      λ e. some-there (domain_of c.domains.items D.seat.dom) there (ap (domain_of c.domains.items) (sym dom) ∙ e)
    where
      some-there : (o : Option DomainConfig) → IsSome o → o ≡ None → ⊥
      some-there None a e = cc
      some-there (Some x) a e = cc

  -- a call that made no step kept its view

  took-none : (request : Request) (verdict : CallResult) (steps : List Moment) (D E : Domain) → TookSteps b c may request verdict steps D E → steps ≡ [] → E.seat.view ≡ D.seat.view
  took-none request verdict steps D E t none = t.0.view ∙ ap (λ (xs : List Moment). view_after xs D.seat.view) (t.1 ∙ none)

  pub same-view : (request : Request) (o : CallOutcome) (steps : List Moment) (D E : Domain) → IsAnswered b c may request o steps D E → steps ≡ [] → E.seat.view ≡ D.seat.view
  same-view request (Judged verdict) steps D E a none = took-none request verdict steps D E a.1 none
  same-view request (MadeMapping handle p) steps D E a none = took-none request (results.Mapped p) steps D E a.1 none
  same-view request NoMemory steps D E a none = a.1
  same-view request (Read bytes) steps D E a none = absurd (no-head _ _ (sym a.0.step ∙ none))
  same-view request Written steps D E a none = absurd (no-head _ _ (sym a.0.all ∙ none))

  -- the beginning of a call that is to make a step

  pub begin-call : (h : StepHistory) (i : ℕ) (l : i < k.domains) (m : CallMade) (ms : List DomainAct) (stages : ℕ → Stage) → stages i ≡ Going ms m [] → IsGoing b c may (firsts i) ms m [] → Ordered b c may h firsts (put i (Resting ms) stages) → Ordered b c may h firsts stages
  begin-call h i l m ms stages e going o =
      let d = dom_at k i in let call = going.call in let rest = going.rests in let at = placed i l ms going.run_actions in
      let seat = subst (SeatNow c may o.g d (firsts i)) (put-here i (Resting ms) stages) (o.each i l) in
      let known : known_at s o.g d ≡ knowledge c may m.old = seat.known ∙ sym (known-alike b c may limits is i l (firsts i) (named i l) (domain_after (firsts i) ms) m.old rest) in
      let own : m.old.seat.dom ≡ d = sym call.before.seat.named ∙ ap (dom_at k) (ap (λ (z : SeatOf). z.view.position) rest.seat ∙ at.0) in
      let none : begun_of (knowledge c may m.old) m.old.seat.dom m.request ≡ None = unanswered (begun_of (knowledge c may m.old) m.old.seat.dom m.request) (steps_of (knowledge c may m.old) m.old.seat.dom (asked m.request)) [] going.step going.next in
      let here : begun_of (known_at s o.g d) d m.request ≡ None = (λ j. begun_of (known j) (sym own j) m.request) ∙ none in
      let spelled : SpellsItsEntry (table_at s o.g d) m.request = subst (λ (z : CallerKnowledge). SpellsItsEntry z.header m.request) (sym known) (said (knowledge c may m.old) m.old.seat.dom m.request call.fits.1 none) in
      let begun = calls-can-begin s o.g d m.request o.reached (named i l) seat.call call.fits.0 spelled in
      let item = item_of_beginning d m.request None in
      let right : IsRight s o.g item = subst (λ (z : Option CallResult). IsRight s o.g (beginning d m.request (begin_answer z))) here begun.0 in
      let reached : CanBeReached s (item ∷ o.g) = subst (λ (z : Option CallResult). CanBeReached s (beginning d m.request (begin_answer z) ∷ o.g)) here begun.1 in
      one-more b c may limits is h h firsts (put i (Resting ms) stages) stages i item o l refl (named i l) right reached
      (keeps-agreement s k o.g h item (record { changes = λ z. refl; pins = λ before ps. refl; unpins = λ ps. refl }) refl (λ z body_word. refl) o.agree) o.steps (writes-by-none k o.g h item (λ given contents. refl) o.writes) (bounded-quiet k o.g item (record { changes = λ z. refl; pins = λ before ps. refl; unpins = λ ps. refl }) o.bounded)
      (λ j n. sym (put-else i (Resting ms) stages j n)) (grows-by c may d i (OfCore item) stages (Resting ms) (Going ms m []) e refl)
      (subst (SeatNow c may (item ∷ o.g) d (firsts i)) (sym e) (begins b c may limits is i l (firsts i) (named i l) o.g ms m rest seat))

  -- a call without a step, after those before it

  pub quiet-call : (h : StepHistory) (i : ℕ) (l : i < k.domains) (m : CallMade) (ms : List DomainAct) (stages : ℕ → Stage) → stages i ≡ Resting (Call m ∷ ms) → m.steps ≡ [] → AreDeeds b c may (firsts i) (Call m ∷ ms)
      → (domain_after (firsts i) ms).seat.view.steps ≡ part_of i h → Ordered b c may h firsts (put i (Resting ms) stages) → Ordered b c may h firsts stages
  quiet-call h i l m ms stages e none calls steps o = by m.outcome refl calls.0.answered
    where
      d : DomId
      d = dom_at k i

      call : IsCall b c may m
      call = calls.0

      rest : IsAtRest (domain_after (firsts i) ms) m.old
      rest = calls.1

      at : IsPlaced i (domain_after (firsts i) ms)
      at = placed i l ms calls.2

      seat : SeatNow c may o.g d (firsts i) (Resting ms)
      seat = subst (SeatNow c may o.g d (firsts i)) (put-here i (Resting ms) stages) (o.each i l)

      view : m.new.seat.view ≡ m.old.seat.view
      view = same-view m.request m.outcome m.steps m.old m.new call.answered none

      known : known_at s o.g d ≡ knowledge c may m.old
      known = seat.known ∙ sym (known-alike b c may limits is i l (firsts i) (named i l) (domain_after (firsts i) ms) m.old rest)

      own : m.old.seat.dom ≡ d
      own = sym call.before.seat.named ∙ ap (dom_at k) (ap (λ (z : SeatOf). z.view.position) rest.seat ∙ at.0)

      -- what answers it at once
      at-once : (v : CallResult) → TookSteps b c may m.request v m.steps m.old m.new → begun_of (knowledge c may m.old) m.old.seat.dom m.request ≡ Some v
      at-once v t = answered-at-once (knowledge c may m.old) m.old.seat.dom m.request v (said (knowledge c may m.old) m.old.seat.dom m.request call.fits.1) (ap (λ (xs : List Moment). way_of c may m (all_shown xs)) (sym (t.1 ∙ none)) ∙ t.0.answered)

      same : (j : ℕ) → i ≢ j → stages j ≡ put i (Resting ms) stages j
      same j n = sym (put-else i (Resting ms) stages j n)

      by : (out : CallOutcome) → m.outcome ≡ out → IsAnswered b c may m.request out m.steps m.old m.new → Ordered b c may h firsts stages
      by NoMemory out a = record {
        g = o.g;
        order = o.order;
        items = o.items;
        reached = o.reached;
        agree = o.agree;
        legal = o.legal;
        steps = o.steps;
        writes = o.writes;
        flags = o.flags;
        looks = o.looks;
        bounded = o.bounded;
        own = λ j lj. o.own j lj ∙ elim (cases_eq i j) [
          | inl f ↦ subst (λ (z : ℕ). order_now c may (dom_at k z) (put i (Resting ms) stages z) ≡ order_now c may (dom_at k z) (stages z)) f
              (ap (order_now c may d) (put-here i (Resting ms) stages) ∙ ((λ j. of_core (items_by_outcome d (way_of c may m) m.request (sym out j) m.steps) ++ order_of_actions c may d ms) ∙ ap (order_now c may d) (sym e)))
          | inr n ↦ ap (order_now c may (dom_at k j)) (sym (same j n))
        ];
        each = λ j lj. elim (cases_eq i j) [
          | inl f ↦ subst (λ (z : ℕ). SeatNow c may o.g (dom_at k z) (firsts z) (stages z)) f (subst (SeatNow c may o.g d (firsts i)) (sym e)
              (starves b c may limits is i l (firsts i) (named i l) o.g h ms m o.reached o.agree call rest a.1 a.2 at.0 at.1 steps seat))
          | inr n ↦ subst (SeatNow c may o.g (dom_at k j) (firsts j)) (sym (same j n)) (o.each j lj)
        ];
      }
      by (Read bytes) out a = absurd (no-head _ _ (sym a.0.step ∙ none))
      by Written out a = absurd (no-head _ _ (sym a.0.all ∙ none))
      by (MadeMapping handle p) out a = absurd (no-pin-at-once (asked m.request) p a.0 (subst (RefusesOnly (asked m.request)) (at-once (results.Mapped p) a.1) (asked-refuses (knowledge c may m.old) m.old.seat.dom m.request)))
      by (Judged verdict) out a =
          let op = at-once verdict a.1 in
          let here : begun_of (known_at s o.g d) d m.request ≡ Some verdict = (λ j. begun_of (known j) (sym own j) m.request) ∙ op in
          let answered = can-be-answered s o.g d m.request verdict o.reached (named i l) seat.call here in
          let item = item_of_beginning d m.request (Some (answer_of verdict)) in
          let agree = keeps-agreement s k o.g h item (record { changes = λ z. refl; pins = λ before ps. refl; unpins = λ ps. refl }) refl (λ z body_word. refl) o.agree in
          let keeps = keeps-at-once (asked m.request) verdict m.old.mappings m.new.mappings (subst (RefusesOnly (asked m.request)) op (asked-refuses (knowledge c may m.old) m.old.seat.dom m.request)) a.2 in
          one-more b c may limits is h h firsts (put i (Resting ms) stages) stages i item o l refl (named i l) answered.0 answered.1 agree o.steps (writes-by-none k o.g h item (λ given contents. refl) o.writes) (bounded-quiet k o.g item (record { changes = λ z. refl; pins = λ before ps. refl; unpins = λ ps. refl }) o.bounded) same
          (grows-by c may d i (OfCore item) stages (Resting ms) (Resting (Call m ∷ ms)) e (λ j. of_core (items_by_outcome d (way_of c may m) m.request (sym out j) (sym none j)) ++ order_of_actions c may d ms))
          (subst (SeatNow c may (item ∷ o.g) d (firsts i)) (sym e) (answers-at-beginning b c may limits is i l (firsts i) (named i l) o.g h ms m verdict answered.1 agree call rest view keeps at.0 at.1 steps seat))

  -- a step of a call that goes on

  pub go-on : (i : ℕ) (l : i < k.domains) (ms : List DomainAct) (m : CallMade) (xs : List Moment) (x : Moment) (stages : ℕ → Stage) → stages i ≡ Going ms m (x ∷ xs) → IsGoing b c may (firsts i) ms m (x ∷ xs) → Ordered b c may x.0 firsts (put i (Going ms m xs) stages)
      → Ordered b c may ((i, x.1) ∷ x.0) firsts stages
  go-on i l ms m xs x stages e going o =
      let d = dom_at k i in let call = going.call in let at = placed i l ms going.run_actions in
      let at-old : m.old.seat.view.position ≡ i = ap (λ (z : SeatOf). z.view.position) going.rests.seat ∙ at.0 in
      let seat = subst (SeatNow c may o.g d (firsts i)) (put-here i (Going ms m xs) stages) (o.each i l) in
      ⊎_elim (words d call at-old seat) (access d call at-old seat) (turn-of k i (bytes_given_by m.request) (way_of c may m) xs x m.old.seat.view going.walked.0)
    where
      v : View
      v = view_after xs m.old.seat.view

      w : View
      w = view_after (x ∷ xs) m.old.seat.view

      words : (d : DomId) → IsCall b c may m → m.old.seat.view.position ≡ i → SeatNow c may o.g (dom_at k i) (firsts i) (Going ms m xs) → MakesStep k (way_of c may m (all_shown xs)) (shown_by x) v w → Ordered b c may ((i, x.1) ∷ x.0) firsts stages
      words _ call at-old seat walk =
          let d = dom_at k i in let r = goes-so b c may limits is o.g i l m ms (firsts i) xs x call at-old (named i l) o.reached o.agree seat o.bounded walk (actions.Step going.step) None going.next refl in
          one-more b c may limits is x.0 ((i, x.1) ∷ x.0) firsts (put i (Going ms m xs) stages) stages i (stepped d r.step (seen_in_step x.1) None) o l refl (named i l) r.right r.reached r.agree (then-more k d i r.step (seen_in_step x.1) x.1 (AreStepsOf k o.order) x.0 refl r.the refl o.steps)
          (writes-by-words k o.g x.0 i d r.step x.1 (seen_in_step x.1) None r.quiet r.the o.writes) (bounded-step k o.g d r.step (seen_in_step x.1) None r.inner o.bounded)
          (λ j n. sym (put-else i (Going ms m xs) stages j n))
          (grows-by c may d i (OfCore (stepped d r.step (seen_in_step x.1) None)) stages (Going ms m xs) (Going ms m (x ∷ xs)) e (grows-on b c may limits is i l (firsts i) (named i l) ms m xs x r.step r.next))
          (subst (SeatNow c may (stepped d r.step (seen_in_step x.1) None ∷ o.g) d (firsts i)) (sym e) (going-on b c may limits is i l (firsts i) (named i l) o.g ms m xs x v w call seat r))

      access : (d : DomId) → IsCall b c may m → m.old.seat.view.position ≡ i → SeatNow c may o.g (dom_at k i) (firsts i) (Going ms m xs) → IsNextAccess k i (bytes_given_by m.request) (way_of c may m) xs x v w → Ordered b c may ((i, x.1) ∷ x.0) firsts stages
      access _ call at-old seat q =
          let d = dom_at k i in let r = accesses-so b c may limits is o.g i l m ms (firsts i) xs x call at-old (named i l) o.reached o.agree o.writes seat o.bounded v w q.0 q.1 q.2 (actions.Step going.step) None going.next refl refl in
          one-more b c may limits is x.0 ((i, x.1) ∷ x.0) firsts (put i (Going ms m xs) stages) stages i (stepped d r.step (seen_in_step x.1) None) o l refl (named i l) r.right r.reached r.agree (then-more k d i r.step (seen_in_step x.1) x.1 (AreStepsOf k o.order) x.0 refl r.the refl o.steps)
          r.writes r.bounded
          (λ j n. sym (put-else i (Going ms m xs) stages j n))
          (grows-by c may d i (OfCore (stepped d r.step (seen_in_step x.1) None)) stages (Going ms m xs) (Going ms m (x ∷ xs)) e (grows-on b c may limits is i l (firsts i) (named i l) ms m xs x r.step r.next))
          (subst (SeatNow c may (stepped d r.step (seen_in_step x.1) None ∷ o.g) d (firsts i)) (sym e) (going-on-accessed b c may limits is i l (firsts i) (named i l) o.g ms m xs x v w seat r))

  -- the last step of a call

  pub end-call : (i : ℕ) (l : i < k.domains) (ms : List DomainAct) (m : CallMade) (xs : List Moment) (x : Moment) (stages : ℕ → Stage) → stages i ≡ Resting (Call m ∷ ms) → m.steps ≡ x ∷ xs → AreDeeds b c may (firsts i) (Call m ∷ ms) → m.new.seat.view.steps ≡ part_of i ((i, x.1) ∷ x.0)
      → Ordered b c may x.0 firsts (put i (Going ms m xs) stages) → Ordered b c may ((i, x.1) ∷ x.0) firsts stages
  end-call i l ms m xs x stages e made calls steps o = by m.outcome refl calls.0.answered
    where
      d : DomId
      d = dom_at k i

      call : IsCall b c may m
      call = calls.0

      at-old : m.old.seat.view.position ≡ i
      at-old = ap (λ (z : SeatOf). z.view.position) calls.1.seat ∙ (placed i l ms calls.2).0

      v : View
      v = view_after xs m.old.seat.view

      w : View
      w = view_after (x ∷ xs) m.old.seat.view

      at-v : v.position ≡ i
      at-v = after-position xs m.old.seat.view ∙ at-old

      at-w : w.position ≡ i
      at-w = after-position (x ∷ xs) m.old.seat.view ∙ at-old

      seat : SeatNow c may o.g d (firsts i) (Going ms m xs)
      seat = subst (SeatNow c may o.g d (firsts i)) (put-here i (Going ms m xs) stages) (o.each i l)

      same : (j : ℕ) → i ≢ j → stages j ≡ put i (Going ms m xs) stages j
      same j n = sym (put-else i (Going ms m xs) stages j n)

      grows : (item : Item) → OfCore item ∷ order_now c may d (Going ms m xs) ≡ order_now c may d (Resting (Call m ∷ ms)) → OfCore item ∷ order_now c may d (put i (Going ms m xs) stages i) ≡ order_now c may d (stages i)
      grows item more = grows-by c may d i (OfCore item) stages (Going ms m xs) (Resting (Call m ∷ ms)) e more

      walk-of : (verdict : CallResult) → (t : TookSteps b c may m.request verdict m.steps m.old m.new) → IsWalk k (way_of c may m) m.old.seat.view (x ∷ xs)
      walk-of verdict t = subst (IsWalk k (way_of c may m) m.old.seat.view) (t.1 ∙ made) t.0.walked

      done-of : (verdict : CallResult) → (t : TookSteps b c may m.request verdict m.steps m.old m.new) → way_of c may m (all_shown (x ∷ xs)) ≡ Some (Done verdict)
      done-of verdict t = ap (λ (z : List Moment). way_of c may m (all_shown z)) (sym (t.1 ∙ made)) ∙ t.0.answered

      view-of : (verdict : CallResult) → (t : TookSteps b c may m.request verdict m.steps m.old m.new) → m.new.seat.view ≡ w
      view-of verdict t = t.0.view ∙ ap (λ (z : List Moment). view_after z m.old.seat.view) (t.1 ∙ made)

      -- its last step is on words
      told : (verdict : CallResult) → KeepsNoPin verdict → MakesStep k (way_of c may m (all_shown xs)) (shown_by x) v w → way_of c may m (all_shown (x ∷ xs)) ≡ Some (Done verdict)
          → items_by_outcome d (way_of c may m) m.request m.outcome m.steps ≡ items_of_call d (way_of c may m) m.request (Some (answer_of verdict)) (x ∷ xs) → LeavesMappings (asked m.request) verdict m.old.mappings m.new.mappings → m.new.seat.view ≡ w
          → Ordered b c may ((i, x.1) ∷ x.0) firsts stages
      told verdict plain step then items leave view =
          let r = goes-so b c may limits is o.g i l m ms (firsts i) xs x call at-old (named i l) o.reached o.agree seat o.bounded step (Done verdict) (Some (answer_of verdict)) then (answered-so o.g d verdict plain) in
          one-more b c may limits is x.0 ((i, x.1) ∷ x.0) firsts (put i (Going ms m xs) stages) stages i (stepped d r.step (seen_in_step x.1) (Some (answer_of verdict))) o l refl (named i l) r.right r.reached r.agree (then-more k d i r.step (seen_in_step x.1) x.1 (AreStepsOf k o.order) x.0 refl r.the refl o.steps)
          (writes-by-words k o.g x.0 i d r.step x.1 (seen_in_step x.1) (Some (answer_of verdict)) r.quiet r.the o.writes) (bounded-step k o.g d r.step (seen_in_step x.1) (Some (answer_of verdict)) r.inner o.bounded) same
          (grows (stepped d r.step (seen_in_step x.1) (Some (answer_of verdict))) (grows-last b c may limits is i l (firsts i) (named i l) ms m xs x r.step (Some (answer_of verdict)) r.next items))
          (subst (SeatNow c may (stepped d r.step (seen_in_step x.1) (Some (answer_of verdict)) ∷ o.g) d (firsts i)) (sym e)
          (ends-told b c may limits is i l (firsts i) (named i l) o.g ms m xs x v w verdict call seat r leave at-v at-w view steps))

      -- its last step is its access
      ends : (answer : Answer) (z : Step) → way_of c may m (all_shown xs) ≡ Some (actions.Step z) → AccessedAs k i (bytes_given_by m.request) z v w x → way_of c may m (all_shown (x ∷ xs)) ≡ Some (Done Granted) → AnswersAccess o.g z answer → one_if_mapped (Some answer) ≡ 0
          → items_by_outcome d (way_of c may m) m.request m.outcome m.steps ≡ items_of_call d (way_of c may m) m.request (Some answer) (x ∷ xs) → KeepsMappings m.old.mappings m.new.mappings → m.new.seat.view ≡ w
          → Ordered b c may ((i, x.1) ∷ x.0) firsts stages
      ends answer z next so then tells plain items keeps view =
          let r = accesses-so b c may limits is o.g i l m ms (firsts i) xs x call at-old (named i l) o.reached o.agree o.writes seat o.bounded v w z next so (Done Granted) (Some answer) then (answer, refl, tells) plain in
          one-more b c may limits is x.0 ((i, x.1) ∷ x.0) firsts (put i (Going ms m xs) stages) stages i (stepped d r.step (seen_in_step x.1) (Some answer)) o l refl (named i l) r.right r.reached r.agree (then-more k d i r.step (seen_in_step x.1) x.1 (AreStepsOf k o.order) x.0 refl r.the refl o.steps)
          r.writes r.bounded same
          (grows (stepped d r.step (seen_in_step x.1) (Some answer)) (grows-last b c may limits is i l (firsts i) (named i l) ms m xs x r.step (Some answer) r.next items))
          (subst (SeatNow c may (stepped d r.step (seen_in_step x.1) (Some answer) ∷ o.g) d (firsts i)) (sym e)
          (ends-accessed b c may limits is i l (firsts i) (named i l) o.g ms m xs x v w answer call seat r keeps at-v at-w view steps))

      by : (out : CallOutcome) → m.outcome ≡ out → IsAnswered b c may m.request out m.steps m.old m.new → Ordered b c may ((i, x.1) ∷ x.0) firsts stages
      by NoMemory out a = absurd (no-head x xs (sym made ∙ a.0))
      by (Read bytes) out a =
          let t = a.0 in let given = bytes_given_by m.request in let z : Step = call_steps.Read t.dom t.frame t.off t.len in
          let last : Moment = (t.made.past, Frame (position_in k.ids t.dom) t.frame (frame_steps.Read t.off bytes.bytes.items)) in
          let all : last ∷ [] ≡ x ∷ xs = sym t.step ∙ made in
          let so : AccessedAs k i given z v w x = subst (LastIs k i given z m.old.seat.view) all (read-as k i given t.dom t.frame t.off t.len bytes.bytes.items m.old.seat.view m.new.seat.view (view_after (last ∷ []) m.old.seat.view) t.made refl t.length_is) in
          let next : way_of c may m (all_shown xs) ≡ Some (actions.Step z) = subst (LastNext (way_of c may m) z) all t.next in
          let then : way_of c may m (all_shown (x ∷ xs)) ≡ Some (Done Granted) = ap (λ (q : List Moment). way_of c may m (all_shown q)) (sym all) ∙ t.done in
          let agree : WritesAgree k o.g t.made.past = subst (WritesAgree k o.g) (ap (λ (q : Moment). q.0) (sym (head-same _ _ _ _ all))) o.writes in
          let had = read-bytes c k is limits o.g t.made.past t.dom t.frame t.off bytes.bytes.items t.made.inside t.made.access.recorded agree in
          let tells : AnswersAccess o.g z (answers.Bytes bytes) = (bytes, refl, had ∙ ap (λ (n : ℕ). slice_range (contents_at o.g t.dom.0 t.frame) t.off (t.off + n)) t.length_is) in
          ends (answers.Bytes bytes) z next so then tells refl (λ j. items_by_outcome d (way_of c may m) m.request (out j) (made j)) a.1
          (t.made.view ∙ ap (λ (q : List Moment). view_after q m.old.seat.view) all)
      by Written out a =
          let t = a.0 in let given = bytes_given_by m.request in
          let walk : IsCallWalk k given (way_of c may m) m.old.seat.view (x ∷ xs) = subst (IsCallWalk k given (way_of c may m) m.old.seat.view) made t.walked in
          let then : way_of c may m (all_shown (x ∷ xs)) ≡ Some (Done Granted) = ap (λ (q : List Moment). way_of c may m (all_shown q)) (sym made) ∙ t.done in
          let view : m.new.seat.view ≡ w = t.view ∙ ap (λ (q : List Moment). view_after q m.old.seat.view) made in
          let items : items_by_outcome d (way_of c may m) m.request m.outcome m.steps ≡ items_by_outcome d (way_of c may m) m.request Written (x ∷ xs) = λ j. items_by_outcome d (way_of c may m) m.request (out j) (made j) in
          ⊎_elim (λ (step : MakesStep k (way_of c may m (all_shown xs)) (shown_by x) v w).
          told Granted tt step then items (leaves (asked m.request) Granted m.old.mappings m.new.mappings t.other a.1) view)
          (λ (q : IsNextAccess k i given (way_of c may m) xs x v w).
          ends answers.Done q.0 q.1 q.2 then (tells-done o.g k given q.0 v w q.3) refl items a.1 view)
          (turn-of k i given (way_of c may m) xs x m.old.seat.view walk.0)
      by (Judged verdict) out a =
          let t = a.1 in told verdict a.0 (walk-of verdict t).0 (done-of verdict t) (λ j. items_by_outcome d (way_of c may m) m.request (out j) (made j)) a.2 (view-of verdict t)
      by (MadeMapping handle p) out a =
          let t = a.1 in
          let given : MayBeGiven o.g d handle p = record { old = m.old.mappings; new = m.new.mappings; agrees = seat.maps; adds = core-adds b c may limits is i l (firsts i) (named i l) m.old.mappings m.new.mappings handle p a.2 } in
          let r = goes-so b c may limits is o.g i l m ms (firsts i) xs x call at-old (named i l) o.reached o.agree seat o.bounded (walk-of (results.Mapped p) t).0 (Done (results.Mapped p)) (Some (Mapped handle)) (done-of (results.Mapped p) t) (handle, refl, given) in
          let last : path (known_at s o.g d) d seat.call.0.request (values seat.call.0 ++ seen_by s o.g d r.step ∷ []) ≡ Some (Done (results.Mapped p)) =
          on-way b c may limits is o.g i l m ms (firsts i) xs x call at-old (named i l) o.reached o.agree seat o.bounded (walk-of (results.Mapped p) t).0 r.step r.next (values seat.call.0 ++ seen_by s o.g d r.step ∷ [])
          ∙ ((λ j. way_of c may m (seat.call.3 j ++ r.sees j ∷ [])) ∙ done-of (results.Mapped p) t) in
          one-more b c may limits is x.0 ((i, x.1) ∷ x.0) firsts (put i (Going ms m xs) stages) stages i (stepped d r.step (seen_in_step x.1) (Some (Mapped handle))) o l refl (named i l) r.right r.reached r.agree (then-more k d i r.step (seen_in_step x.1) x.1 (AreStepsOf k o.order) x.0 refl r.the refl o.steps)
          (writes-by-words k o.g x.0 i d r.step x.1 (seen_in_step x.1) (Some (Mapped handle)) r.quiet r.the o.writes) (bounded-step k o.g d r.step (seen_in_step x.1) (Some (Mapped handle)) r.inner o.bounded) same
          (grows (stepped d r.step (seen_in_step x.1) (Some (Mapped handle))) (grows-last b c may limits is i l (firsts i) (named i l) ms m xs x r.step (Some (Mapped handle)) r.next
          (λ j. items_by_outcome d (way_of c may m) m.request (out j) (made j))))
          (subst (SeatNow c may (stepped d r.step (seen_in_step x.1) (Some (Mapped handle)) ∷ o.g) d (firsts i)) (sym e)
          (ends-kept b c may limits is i l (firsts i) (named i l) o.g ms m xs x v w handle p call seat r last a.2 at-v at-w (view-of (results.Mapped p) t) steps))

  -- a step on a flag

  was-raised : (h : StepHistory) (order : RunOrder) (flag : ℕ) (step : FlagStep) → AreStepsOf k order h → IsTrueStep k h (Flag flag step) → WasRaised flag step order
  was-raised h order flag Raised steps says = tt
  was-raised h order flag Passed steps says = raised-in k order h flag steps says

  pub step-on-flag : (h : StepHistory) (i : ℕ) (l : i < k.domains) (ms : List DomainAct) (x : FlagMade) (stages : ℕ → Stage) → stages i ≡ Resting (OnFlag x ∷ ms) → AreDeeds b c may (firsts i) (OnFlag x ∷ ms) → IsTrueStep k h (Flag x.flag x.step) → Ordered b c may h firsts (put i (Resting ms) stages)
      → Ordered b c may ((i, Flag x.flag x.step) ∷ h) firsts stages
  step-on-flag h i l ms x stages e run_actions says o =
      let d = dom_at k i in let y : Occurrence = OfFlag d x.flag x.step in
      let same : (j : ℕ) → i ≢ j → stages j ≡ put i (Resting ms) stages j = λ j n. sym (put-else i (Resting ms) stages j n) in
      let seat = subst (SeatNow c may o.g d (firsts i)) (put-here i (Resting ms) stages) (o.each i l) in record {
        g = o.g;
        order = y ∷ o.order;
        items = o.items;
        reached = o.reached;
        agree = agree-on-flag s k o.g h i x.flag x.step o.agree;
        legal = o.legal;
        steps = (refl, refl, o.steps);
        writes = λ t f lt. o.writes t f lt;
        flags = (named i l, was-raised h o.order x.flag x.step o.steps says, o.flags);
        looks = o.looks;
        bounded = o.bounded;
        own = own-more b c may limits is o.order (put i (Resting ms) stages) stages i y l refl same (grows-by c may d i y stages (Resting ms) (Resting (OnFlag x ∷ ms)) e refl) o.own;
        each = λ j lj. elim (cases_eq i j) [
          | inl f ↦ subst (λ (z : ℕ). SeatNow c may o.g (dom_at k z) (firsts z) (stages z)) f (subst (SeatNow c may o.g d (firsts i)) (sym e) (after-flag b c may limits is i l (firsts i) (named i l) o.g ms x run_actions.0 run_actions.1 seat))
          | inr n ↦ subst (SeatNow c may o.g (dom_at k j) (firsts j)) (sym (same j n)) (o.each j lj)
        ];
      }

  -- a look

  -- the step of a look
  abbrev pub step_of_look : LookMade → SeatStep
  step_of_look x = Entry (position_in k.ids x.old.seat.dom) x.gref.0 (Looked x.word)

  pub step-on-look : (h : StepHistory) (i : ℕ) (l : i < k.domains) (ms : List DomainAct) (x : LookMade) (stages : ℕ → Stage) → stages i ≡ Resting (Look x ∷ ms) → AreDeeds b c may (firsts i) (Look x ∷ ms) → word_after k h (place (position_in k.ids x.old.seat.dom) x.gref.0 0) ≡ x.word
      → Ordered b c may h firsts (put i (Resting ms) stages) → Ordered b c may ((i, step_of_look x) ∷ h) firsts stages
  step-on-look h i l ms x stages e run_actions there o =
      let d = dom_at k i in let y : Occurrence = OfLook d x.gref x.word in let n = new i l in
      let same : (j : ℕ) → i ≢ j → stages j ≡ put i (Resting ms) stages j = λ j n. sym (put-else i (Resting ms) stages j n) in
      let dom : x.old.seat.dom ≡ d = ap (λ (z : SeatOf). z.dom) run_actions.1.seat ∙ same-dom i l ms run_actions.2 in
      let first-dom : (firsts i).seat.dom ≡ d = same-dom i l [] tt in
      let at : i ≡ position_in k.ids x.old.seat.dom = sym n.seat.position ∙ (seat_at c b (firsts i).seat limits.distinct is n.domain.seat ∙ ap (position_in k.ids) (first-dom ∙ sym dom)) in
      let word = o.agree.words i x.gref.0 l run_actions.0.entry ∙ (ap (λ (t : ℕ). word_after k h (place t x.gref.0 0)) at ∙ there) in
      let seat = subst (SeatNow c may o.g d (firsts i)) (put-here i (Resting ms) stages) (o.each i l) in record {
        g = o.g;
        order = y ∷ o.order;
        items = o.items;
        reached = o.reached;
        agree = agree-on-look s k o.g h i (position_in k.ids x.old.seat.dom) x.gref.0 x.word o.agree;
        legal = o.legal;
        steps = (refl, (ap (position_in k.ids) dom, refl), refl, o.steps);
        writes = λ t f lt. o.writes t f lt;
        flags = o.flags;
        looks = (ap (λ (g : History). seen_by s g d (LookControl d x.gref)) o.items ∙ ap (λ (w : ℕ). Word w) word, o.looks);
        bounded = o.bounded;
        own = own-more b c may limits is o.order (put i (Resting ms) stages) stages i y l refl same (grows-by c may d i y stages (Resting ms) (Resting (Look x ∷ ms)) e refl) o.own;
        each = λ j lj. elim (cases_eq i j) [
          | inl f ↦ subst (λ (z : ℕ). SeatNow c may o.g (dom_at k z) (firsts z) (stages z)) f (subst (SeatNow c may o.g d (firsts i)) (sym e) (after-look b c may limits is i l (firsts i) (named i l) o.g ms x run_actions.0 run_actions.1 seat))
          | inr n ↦ subst (SeatNow c may o.g (dom_at k j) (firsts j)) (sym (same j n)) (o.each j lj)
        ];
      }
