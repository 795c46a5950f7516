-- Each step of a call was taken at its moment, and none of them is an access to bytes.
use Rattle.std.proofs.Common.{◌≡◌, ◌⊎◌, inl, inr, ⊎_elim, ℕ, refl, sym, ap, ◌∙◌, subst, List, [], ◌∷◌, ◌++◌, Option}
use Rattle.std.proofs.Common.{Some, None, append_assoc}
use Rattle.gt_word_history.specs.Events.{TookPlace}
use Rattle.gt_word_history.specs.History.{StepHistory, Moment, part_of}
use Rattle.gt_word_history.specs.Rule.{Layout}
use Rattle.gt_word_history.specs.Views.{with_step}
use Rattle.gt_word_history.specs.declared.view.SeatStep.{SeatStep}
use Rattle.gt_word_history.specs.declared.view.View.{View}
use Rattle.gt_handles.specs.Handles.{HandleMap}
use Rattle.gt_model.specs.declared.handle.Handle.{Handle}
use Rattle.gt_model.specs.declared.action.Action.{Action}
use Rattle.gt_model.specs.declared.action.Action.TheVariants.{Done}
use Rattle.gt_model.specs.declared.action.Action.TheVariants as actions
use Rattle.gt_model.specs.declared.action.Observation.{Observation}
use Rattle.gt_model.specs.declared.action.Observation.TheVariants.{Missed, Nothing, Taken, Word}
use Rattle.gt_model.specs.declared.action.Step.{Step}
use Rattle.gt_model.specs.declared.action.Step.TheVariants.{Exchange, LookBody, LookControl, LookHeader, Pin, StoreBody}
use Rattle.gt_model.specs.declared.action.Step.TheVariants.{StoreHeader, Unpin}
use Rattle.gt_model.specs.declared.action.Step.TheVariants as call_steps
use Rattle.gt_model.specs.declared.action.CallResult.TheVariants.{Granted}
use Rattle.gt_model.specs.declared.held.HeldPin.{HeldPin}
use Rattle.gt_model.specs.Path.{Continuation}
use Rattle.gt_live.specs.Accesses.{ComesTo, IsAccess, IsOnlyAccess, onward}
use Rattle.gt_live.specs.Domains.{Released}
use Rattle.gt_live.specs.Walks.{AreMoments, Called, IsWalk, Made, MakesStep, view_after, all_shown, shown_by}
use Rattle.gt_live.proofs.Making.{Gains, gained, made-gains}
use Rattle.gt_live.proofs.Walking.{after-position, snoc-inj, unsnoc}

-- a step and what came before it are known by the view after it

abbrev first_or : SeatStep → StepHistory → SeatStep
first_or x [] = x
first_or x (p ∷ h) = p.1

abbrev rest_of : StepHistory → StepHistory
rest_of [] = []
rest_of (p ∷ h) = h

one_moment : (x y : Moment) (u : View) → with_step x.0 x.1 u ≡ with_step y.0 y.1 u → x ≡ y
one_moment x y u e =
    let same = ap (λ (w : View). w.past) e in let rest = ap rest_of same in let head = ap (first_or x.1) same in
    λ i. (rest i, head i)

-- a step of the seat after others, by the view that those leave
later : (k : Layout) (v : View) (xs : List Moment) (seen : Observation) (w : View) (g : Gains k seen (view_after xs v) w) → TookPlace k v.position g.step × (part_of v.position g.step.0 ≡ (view_after xs v).steps)
later k v xs seen w g =
    subst (λ (p : ℕ). TookPlace k p g.step × (part_of p g.step.0 ≡ (view_after xs v).steps)) (after-position xs v) (g.took, g.mine)

pub walk-moments : (k : Layout) (way : Continuation) (v : View) (steps : List Moment) → IsWalk k way v steps → AreMoments k v steps
walk-moments k way v [] walk = tt
walk-moments k way v (x ∷ xs) walk = let t = by (way (all_shown xs)) walk.0 in (t.0, t.1, walk-moments k way v xs walk.1)
  where
    by : (o : Option Action) → MakesStep k o (shown_by x) (view_after xs v) (view_after (x ∷ xs) v) → TookPlace k v.position x × (part_of v.position x.0 ≡ (view_after xs v).steps)
    by (Some (actions.Step s)) m =
        let g = made-gains k s (shown_by x) (view_after xs v) (view_after (x ∷ xs) v) m in
        subst (λ (y : Moment). TookPlace k v.position y × (part_of v.position y.0 ≡ (view_after xs v).steps)) (sym (one_moment x g.step (view_after xs v) g.view))
        (later k v xs (shown_by x) (view_after (x ∷ xs) v) g)
    by (Some (Done verdict)) m = absurd m
    by None m = absurd m

-- the pins that a domain gives back as it leaves
pub released-moments : (k : Layout) (hs : List Handle) (old : HandleMap HeldPin) (v : View) (new : HandleMap HeldPin) (w : View) → Released k hs old v new w → (steps : List Moment) × (w ≡ view_after steps v) × AreMoments k v steps
released-moments k [] old v new w r = ([], r.1, tt)
released-moments k (h ∷ hs) old v new w r =
    let u = r.2 in let rest = released-moments k hs old v r.1 u r.3 in let z = r.5.steps in
    let g : Gains k Nothing u w = gained k Nothing u w _ _ _ _ z.adds.view z.step refl in
    let g' : Gains k Nothing (view_after rest.0 v) w = subst (λ (y : View). Gains k Nothing y w) rest.1 g in
    let t = later k v rest.0 Nothing w g' in (g'.step ∷ rest.0, g'.view, (t.0, t.1, rest.2))

-- no step on the words is an access

no_access : (k : Layout) (s : Step) (seen : Observation) (v w : View) → Made k s seen v w → IsAccess s → ⊥
no_access k (LookHeader d) seen v w m is = absurd is
no_access k (LookControl d q) seen v w m is = absurd is
no_access k (LookBody d q body_word) seen v w m is = absurd is
no_access k (Pin p) seen v w m is = absurd is
no_access k (Unpin p holder) seen v w m is = absurd is
no_access k (StoreBody q body_word n) seen v w m is = absurd is
no_access k (StoreHeader version frames) seen v w m is = absurd is
no_access k (Exchange q looked change) seen v w m is = absurd is
no_access k (call_steps.Read dom frame off len) (Word n) v w m is = absurd m
no_access k (call_steps.Read dom frame off len) Taken v w m is = absurd m
no_access k (call_steps.Read dom frame off len) (Missed n) v w m is = absurd m
no_access k (call_steps.Read dom frame off len) Nothing v w m is = absurd m
no_access k (call_steps.Write dom frame off len) (Word n) v w m is = absurd m
no_access k (call_steps.Write dom frame off len) Taken v w m is = absurd m
no_access k (call_steps.Write dom frame off len) (Missed n) v w m is = absurd m
no_access k (call_steps.Write dom frame off len) Nothing v w m is = absurd m
no_access k (call_steps.Copy from to len) (Word n) v w m is = absurd m
no_access k (call_steps.Copy from to len) Taken v w m is = absurd m
no_access k (call_steps.Copy from to len) (Missed n) v w m is = absurd m
no_access k (call_steps.Copy from to len) Nothing v w m is = absurd m

module _ {A : Type 0} where
  nothing_before : (xs ys : List A) → [] ≡ xs ++ ys → xs ≡ []
  nothing_before [] ys e = refl
  nothing_before (x ∷ xs) ys e = cc

  append_none : (xs : List A) → xs ++ [] ≡ xs
  append_none [] = refl
  append_none (x ∷ xs) = ap (λ (zs : List A). x ∷ zs) (append_none xs)

  -- what begins a list of two parts ends within the first, or has it whole
  within_parts : (xs ys vs rest : List A) → xs ++ ys ≡ vs ++ rest → ((a : A) × (m : List A) × (xs ≡ vs ++ a ∷ m)) ⊎ ((ws : List A) × (vs ≡ xs ++ ws) × (ys ≡ ws ++ rest))
  within_parts [] ys vs rest e = inr (vs, refl, e)
  within_parts (x ∷ xs) ys [] rest e = inl (x, xs, refl)
  within_parts (x ∷ xs) ys (v ∷ vs) rest e =
      let head : x ≡ v = cc in let tail : xs ++ ys ≡ vs ++ rest = cc in
      ⊎_elim (λ (q : (a : A) × (m : List A) × (xs ≡ vs ++ a ∷ m)). inl (q.0, q.1, λ i. head i ∷ q.2 i))
      (λ (q : (ws : List A) × (vs ≡ xs ++ ws) × (ys ≡ ws ++ rest)). inr (q.0, (λ i. sym head i ∷ q.1 i), q.2)) (within_parts xs ys vs rest tail)

-- where a walk comes to an access, it is at its end
at_its_end : (k : Layout) (way : Continuation) (v : View) (steps : List Moment) → IsWalk k way v steps → (vs rest : List Observation) (s : Step) → all_shown steps ≡ vs ++ rest → way vs ≡ Some (actions.Step s) → IsAccess s → vs ≡ all_shown steps
at_its_end k way v [] walk vs rest s e next is = nothing_before vs rest e
at_its_end k way v (y ∷ ys) walk vs [] s e next is = sym (e ∙ append_none vs)
at_its_end k way v (y ∷ ys) walk vs (a ∷ bs) s e next is =
    let u = unsnoc a bs in
    let split : vs ++ (a ∷ bs) ≡ (vs ++ u.0) ++ u.1 ∷ [] = ap (λ (zs : List Observation). vs ++ zs) u.2 ∙ sym (append_assoc vs u.0 (u.1 ∷ [])) in
    let here = at_its_end k way v ys walk.1 vs u.0 s (snoc-inj (all_shown ys) (vs ++ u.0) (shown_by y) u.1 (e ∙ split)).0 next is in
    let made : MakesStep k (Some (actions.Step s)) (shown_by y) (view_after ys v) (view_after (y ∷ ys) v) =
    subst (λ (o : Option Action). MakesStep k o (shown_by y) (view_after ys v) (view_after (y ∷ ys) v)) (ap way (sym here) ∙ next) walk.0 in
    absurd (no_access k s (shown_by y) (view_after ys v) (view_after (y ∷ ys) v) made is)

-- a call that came to its access and went on to its end makes no other
pub only-access : (k : Layout) (way : Continuation) (access : Step) (v at mid w : View) (comes : ComesTo k way access v at) (ends : Called k (onward way (all_shown comes.steps ++ Nothing ∷ [])) Granted mid w)
    → IsOnlyAccess way (all_shown comes.steps) ((all_shown comes.steps ++ Nothing ∷ []) ++ all_shown ends.steps)
only-access k way access v at mid w comes ends vs rest s e next is = ⊎_elim before behind (within_parts (all_shown comes.steps ++ Nothing ∷ []) (all_shown ends.steps) vs rest e)
  where
    before : (a : Observation) × (m : List Observation) × ((all_shown comes.steps ++ Nothing ∷ []) ≡ vs ++ a ∷ m) → vs ≡ all_shown comes.steps
    before q =
        let u = unsnoc q.0 q.1 in
        let split : vs ++ (q.0 ∷ q.1) ≡ (vs ++ u.0) ++ u.1 ∷ [] = ap (λ (zs : List Observation). vs ++ zs) u.2 ∙ sym (append_assoc vs u.0 (u.1 ∷ [])) in
        at_its_end k way v comes.steps comes.walked vs u.0 s (snoc-inj (all_shown comes.steps) (vs ++ u.0) Nothing u.1 (q.2 ∙ split)).0 next is

    behind : (ws : List Observation) × (vs ≡ (all_shown comes.steps ++ Nothing ∷ []) ++ ws) × (all_shown ends.steps ≡ ws ++ rest) → vs ≡ all_shown comes.steps
    behind q =
        let there = at_its_end k (onward way (all_shown comes.steps ++ Nothing ∷ [])) mid ends.steps ends.walked q.0 rest s q.2 (ap way (sym q.1) ∙ next) is in
        let done : Some (actions.Step s) ≡ Some (Done Granted) = sym next ∙ (ap way q.1 ∙ (ap (onward way (all_shown comes.steps ++ Nothing ∷ [])) there ∙ ends.answered)) in absurd (cc)
