-- The release of a mapping is answered Ok.
use Rattle.std.proofs.Common.{◌≡◌, ◌≢◌, ◌++◌, false, List, [], ◌∷◌, Option, Some, None, refl, ap, sym, ◌∙◌, subst}
use Rattle.std.proofs.Common.{arith}
use Rattle.std.specs.Prelude.{is_none}
use Rattle.std.proofs.lemmas.Option.{none-some, same_Some}
use Rattle.gt_types.specs.declared.DomId.{DomId}
use Rattle.gt_types.specs.declared.denial.Denial.{Denial}
use Rattle.gt_types.specs.declared.denial.Rule.TheVariants.{N6}
use Rattle.gt_model.specs.declared.handle.Handle.{Handle}
use Rattle.gt_model.specs.Path.{after_beginning, by_mapping, path}
use Rattle.gt_model.specs.Rules.{CallerKnowledge, begun, refused_when}
use Rattle.gt_model.specs.declared.action.Action.{Action}
use Rattle.gt_model.specs.declared.action.Action.TheVariants as actions
use Rattle.gt_model.specs.declared.action.CallResult.{CallResult}
use Rattle.gt_model.specs.declared.action.CallResult.TheVariants.{Granted}
use Rattle.gt_model.specs.declared.action.Observation.{Observation}
use Rattle.gt_model.specs.declared.action.Observation.TheVariants.{Nothing}
use Rattle.gt_model.specs.declared.action.Step.{Step}
use Rattle.gt_model.specs.declared.action.Step.TheVariants.{Unpin}
use Rattle.gt_model.specs.declared.held.HeldPin.{HeldPin}
use Rattle.gt_model.specs.declared.request.OpenRequest.{OpenRequest}
use Rattle.gt_model.specs.declared.request.OpenRequest.TheVariants.{Release}
use Rattle.gt_model.specs.declared.request.PinHolder.TheVariants as holders
use Rattle.gt_model.specs.declared.request.Request.{Request}
use Rattle.gt_model.specs.declared.request.Request.TheVariants as requests
use Rattle.gt_model.specs.History.{History, Setting, Underway, known_at, mapping_of, mappings_at, open_call, seen_by}
use Rattle.gt_model.specs.History.{values}
use Rattle.gt_model.specs.Legal.{AnsweredBy, GivesValue, IsRight, StepsRightIn, gives_back, next_in, refusal_of}
use Rattle.gt_model.specs.Legal.{verdict_in}
use Rattle.gt_model.specs.declared.trace.Answer.{Answer}
use Rattle.gt_model.specs.declared.trace.Answer.TheVariants as answers
use Rattle.gt_model.specs.declared.trace.ItemEvent.{ItemEvent}
use Rattle.gt_model.specs.declared.trace.ItemEvent.TheVariants.{Began, Stepped}
use Rattle.gt_explore_replay.specs.Releasing.{OpenReleasesAreOk, RefusedWithoutMapping, ReleasesAreOk}

-- at its beginning

unmapped : (s : Setting) (h : History) (d : DomId) (r : OpenRequest) (m : Option HeldPin) (given : Option Answer) (against : Option Denial)
    → AnsweredBy s h d r None false (refused_when (is_none m) N6) given against → given ≢ None → m ≡ None
unmapped s h d r None given against by some = refl
unmapped s h d r (Some m) None against by some = absurd (some refl)
unmapped s h d r (Some m) (Some answer) against by some = absurd by

begins-mapped : RefusedWithoutMapping
begins-mapped s h i handle right is some = by i.actor i.happened i.answer is right some
  where
    by : (actor : DomId) (x : ItemEvent) (given : Option Answer) → x ≡ Began (requests.Release handle) → IsRight s h (record { actor = actor; happened = x; answer = given }) → given ≢ None
        → mapping_of (mappings_at h actor.0) handle ≡ None
    by actor (Stepped step seen) given e right some = absurd (cc)
    by actor (Began request) given e right some =
        let own : request ≡ requests.Release handle = cc in
        let begins = subst (λ (q : Request). IsRight s h (record { actor = actor; happened = Began q; answer = given })) own right in
        unmapped s h actor (Release handle) (mapping_of (mappings_at h actor.0) handle) given _ begins.1 some

-- at its step

-- its one step drops the mapping, and then it is over
over : (b : Option CallResult) (m : Option HeldPin) (handle : Handle) (vs : List Observation) (z : Step) → after_beginning b (by_mapping m (λ q. Unpin q (holders.Mapping handle))) vs ≡ Some (actions.Step z)
    → ((p : HeldPin) × (z ≡ Unpin p (holders.Mapping handle))) × (after_beginning b (by_mapping m (λ q. Unpin q (holders.Mapping handle))) (vs ++ Nothing ∷ []) ≡ Some (actions.Done Granted))
over None (Some q) handle [] z e = ((q, grind arith), refl)
over b m handle vs z e = absurd (grind arith)

release-over : (k : CallerKnowledge) (d : DomId) (r : OpenRequest) (handle : Handle) (vs : List Observation) (z : Step) → r ≡ Release handle → path k d r vs ≡ Some (actions.Step z)
    → ((p : HeldPin) × (z ≡ Unpin p (holders.Mapping handle))) × (path k d r (vs ++ Nothing ∷ []) ≡ Some (actions.Done Granted))
release-over k d r handle vs z is e =
    let from : (ws : List Observation) → path k d r ws ≡ path k d (Release handle) ws = λ ws. ap (λ (q : OpenRequest). path k d q ws) is in
    let o = over (begun k d (Release handle)) (k.mapping handle) handle vs z (sym (from vs) ∙ e) in
    (o.0, from (vs ++ Nothing ∷ []) ∙ o.1)

answered-ok : (s : Setting) (h : History) (d : DomId) (r : OpenRequest) (handle : Handle) (z : Step) (next : Option Action) (given : Option Answer) (against : Option Denial)
    → r ≡ Release handle → next ≡ Some (actions.Done Granted) → AnsweredBy s h d r (Some z) (gives_back next) (verdict_in next) given against → given ≡ Some answers.Done
answered-ok s h d r handle z next given against is ends by =
    plain given (subst (λ (q : OpenRequest). AnsweredBy s h d q (Some z) false (Some Granted) given against) is
    (subst (λ (a : Option Action). AnsweredBy s h d r (Some z) (gives_back a) (verdict_in a) given against) ends by))
  where
    value : (a : Answer) → refusal_of a ≡ None → GivesValue s h d (Release handle) (Some z) a → a ≡ answers.Done
    value (answers.Denied denial) refused told = absurd (none-some denial (sym refused))
    value a refused told = told

    plain : (o : Option Answer) → AnsweredBy s h d (Release handle) (Some z) false (Some Granted) o against → o ≡ Some answers.Done
    plain None so = absurd so
    plain (Some answer) so = ap (λ (a : Answer). Some a) (value answer so.0 so.2)

ends-ok : OpenReleasesAreOk
ends-ok s h i step seen c handle right is opened asks = by i.actor i.happened i.answer is right opened
  where
    in-call : (actor : DomId) (given : Option Answer) (z : Step) (v : Observation) (o : Option Underway) → o ≡ Some c → StepsRightIn s h (record { actor = actor; happened = Stepped z v; answer = given }) z v o → given ≡ Some answers.Done
    in-call actor given z v None e right = absurd (none-some c e)
    in-call actor given z v (Some u) e right =
        let request : u.request ≡ Release handle = ap (λ (x : Underway). x.request) (same_Some u c e) ∙ asks in
        let o = release-over (known_at s h actor) actor u.request handle (values u) z request right.continues in
        let nothing : v ≡ Nothing = right.sees ∙ ap (seen_by s h actor) o.0.1 in
        let ends : next_in s h actor u v ≡ Some (actions.Done Granted) = ap (λ (w : Observation). path (known_at s h actor) actor u.request (values u ++ w ∷ [])) nothing ∙ o.1 in
        answered-ok s h actor u.request handle z (next_in s h actor u v) given _ request ends right.answered

    by : (actor : DomId) (x : ItemEvent) (given : Option Answer) → x ≡ Stepped step seen → IsRight s h (record { actor = actor; happened = x; answer = given }) → open_call h actor.0 ≡ Some c → given ≡ Some answers.Done
    by actor (Began request) given e right opened = absurd (cc)
    by actor (Stepped z v) given e right opened = in-call actor given z v (open_call h actor.0) opened right

pub releases-are-ok : ReleasesAreOk
releases-are-ok = (begins-mapped, ends-ok)
