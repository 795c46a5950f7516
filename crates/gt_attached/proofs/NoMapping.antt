-- An unmap of a handle under which the domain has no mapping is refused by N6, and a release of one that has is Ok.
use Rattle.std.proofs.Common.{◌≡◌, ◌∙◌, ap, refl, sym, List, [], ◌∷◌, Option, Some, None, IsSome, Result, Ok, Err}
use Rattle.std.specs.Prelude.{is_none}
use Rattle.gt_types.specs.Denial.{denial_of}
use Rattle.gt_types.specs.declared.DomId.{DomId}
use Rattle.gt_types.specs.declared.denial.Denial.{Denial}
use Rattle.gt_types.specs.declared.denial.Facts.TheVariants as facts
use Rattle.gt_types.specs.declared.denial.Rule.TheVariants.{N6}
use Rattle.gt_model.specs.declared.handle.Handle.{Handle}
use mathlib.Core.Bool.{true≢false}
use Rattle.gt_model.specs.Path.{Continuation, after_beginning, by_mapping, ended, makes, path_of, steps_of}
use Rattle.gt_model.specs.Asking.{asked, begun_of}
use Rattle.gt_model.specs.Rules.{CallerKnowledge, first, refused_when, unmap_denied}
use Rattle.gt_model.specs.declared.action.Action.TheVariants.{Done}
use Rattle.gt_model.specs.declared.action.CallResult.{CallResult}
use Rattle.gt_model.specs.declared.action.CallResult.TheVariants.{Granted, Refused}
use Rattle.gt_model.specs.declared.action.Observation.{Observation}
use Rattle.gt_model.specs.declared.action.Observation.TheVariants.{Nothing, Word, Taken, Missed}
use Rattle.gt_model.specs.declared.action.Step.{Step}
use Rattle.gt_model.specs.declared.action.Step.TheVariants.{Unpin}
use Rattle.gt_model.specs.declared.held.HeldPin.{HeldPin}
use Rattle.gt_model.specs.declared.request.PinHolder.TheVariants as holders
use Rattle.gt_model.specs.declared.request.Request.TheVariants as requests
use Rattle.gt_live.specs.Domains.{outcome_of}
use Rattle.gt_live.specs.Prelude.{Layout, View}
use Rattle.gt_live.specs.Walks.{Called, all_shown}

abbrev n6 : Denial
n6 = denial_of N6 facts.None

-- the result of a call that is answered at its beginning
ends-with : (verdict said : CallResult) (seen : List Observation) → ended verdict seen ≡ Some (Done said) → said ≡ verdict
ends-with verdict said [] e = cc
ends-with verdict said (x ∷ xs) e = absurd cc

begins : (n : CallerKnowledge) (caller : DomId) (h : Handle) → n.mapping h ≡ None
    → begun_of n caller (requests.Unmap h) ≡ Some (Refused n6)
begins n caller h e =
    ap (λ (o : Option HeldPin). first (refused_when (is_none o) N6 ∷ unmap_denied n caller o ∷ [])) e

-- no mapping is under this handle: the call is refused by N6
no-mapping : (k : Layout) (n : CallerKnowledge) (caller : DomId) (h : Handle) (said : CallResult) (v w : View)
    → n.mapping h ≡ None → Called k (path_of n caller (requests.Unmap h)) said v w → said ≡ Refused n6
no-mapping k n caller h said v w e called =
    let request = requests.Unmap h in
    ends-with (Refused n6) said (all_shown called.steps)
    (sym (ap (λ (o : Option CallResult). after_beginning o (steps_of n caller (asked request)) (all_shown called.steps))
    (begins n caller h e)) ∙ called.answered)

is-refused : {R : Type 0} (result : Result R Denial) → outcome_of result ≡ Refused n6 → result ≡ Err n6
is-refused (Ok done) e = absurd cc
is-refused (Err denial) e = cc

pub refused-by-n6 : {R : Type 0} (k : Layout) (n : CallerKnowledge) (caller : DomId) (h : Handle) (result : Result R Denial) (v w : View)
    → n.mapping h ≡ None → Called k (path_of n caller (requests.Unmap h)) (outcome_of result) v w
    → result ≡ Err (denial_of N6 facts.None)
refused-by-n6 k n caller h result v w e called =
    is-refused result (no-mapping k n caller h (outcome_of result) v w e called)

-- a release ends Ok after its one step
never-refused : (step : Step) (denial : Denial) (seen : List Observation)
    → makes step (ended Granted) seen ≡ Some (Done (Refused denial)) → ⊥
never-refused step denial [] e = absurd cc
never-refused step denial (Nothing ∷ vs) e = absurd (let f = ends-with Granted (Refused denial) vs e in cc)
never-refused step denial (Word w ∷ vs) e = absurd cc
never-refused step denial (Taken ∷ vs) e = absurd cc
never-refused step denial (Missed w ∷ vs) e = absurd cc

-- the path of a release of a mapping
abbrev way-of : Handle → Option HeldPin → Continuation
way-of h o = after_beginning (refused_when (is_none o) N6) (by_mapping o (λ m. Unpin m (holders.Mapping h)))

pub released : (k : Layout) (n : CallerKnowledge) (caller : DomId) (h : Handle) (result : Result (Unit {0}) Denial) (v w : View)
    → IsSome (n.mapping h) → Called k (path_of n caller (requests.Release h)) (outcome_of result) v w → result ≡ Ok tt
released k n caller h (Ok done) v w some called = refl
released k n caller h (Err denial) v w some called = absurd (by (n.mapping h) refl some)
  where
    by : (o : Option HeldPin) → n.mapping h ≡ o → IsSome o → ⊥
    by (Some p) e is =
        never-refused (Unpin p (holders.Mapping h)) denial (all_shown called.steps)
        (ap (λ (o : Option HeldPin). way-of h o (all_shown called.steps)) (sym e) ∙ called.answered)
    by None e is = true≢false (sym is)
