-- A call before its first step: what holds for each request.
use Rattle.gt_calls.proofs.Words.{◌≡◌, ◌≤◌, ℕ, refl, false, inl, inr, List, Observation, [], Option, Some, None, sym}
use Rattle.gt_calls.proofs.Words.{ap, ◌∙◌, subst, arith, DomId, GrantRef, Request, bytes_of, OpenRequest, Copy}
use Rattle.gt_calls.proofs.Words.{CopyArgs, CallResult, Phase, Ending, CallerKnowledge, begun, opens, Continuation}
use Rattle.gt_calls.proofs.Words.{path, after_beginning, steps_of, first_phase, at_source, action_at, HasShown}
use Rattle.gt_calls.proofs.Words.{held_in, steps_left, IsStepAction}
use Rattle.gt_model.specs.Path.{most_steps}
use Rattle.gt_calls.{proofs.Calls.at-source, proofs.Shown.shown-source, proofs.Holds.held-source}
use Rattle.gt_calls.{proofs.Counts.at-source-left}
use Rattle.gt_calls.proofs.Probing.{is-settled, last-quiet, settled-held, settled-left, settled-shown}
use Rattle.gt_calls.proofs.Probing.{unaccessed-left, wants}
use Rattle.gt_calls.specs.Machine.{remains_of, settled, unaccessed}
use Rattle.gt_model.specs.Rules.{has_own_ends}
use Rattle.gt_calls.specs.Standing.{IsSettled}
use Rattle.gt_model.specs.declared.request.OpenRequest.TheVariants.{Probe}
unfoldable use Rattle.gt_model.specs.Path.{without_access}
use Rattle.gt_model.specs.declared.request.Request.TheVariants as requests

-- the phase makes a step, whatever pins are held
abbrev pub IsMoving : Phase → Type 0
IsMoving (Ending pins verdict) = ⊥
IsMoving phase = Unit {0}

-- a call in this phase has this left, has shown nothing and holds nothing, and makes a step, with at most this many
-- steps left
pub record Begins (k : CallerKnowledge) (grammar : Continuation) (caller : DomId) (request : OpenRequest) (steps : Continuation) (phase : Phase) (most : ℕ) : Type 0 where
  pub same : (vs : List Observation) → remains_of k caller request phase vs ≡ steps vs
  pub shown : HasShown k grammar caller request [] phase
  pub none_held : held_in phase ≡ []
  pub bounded : steps_left phase ≤ most
  pub moves : IsMoving phase

copy-moves : (k : CallerKnowledge) (caller : DomId) (c : CopyArgs) → IsMoving (at_source k caller c)
copy-moves k caller c = grind arith

probe-moves : (k : CallerKnowledge) (caller : DomId) (c : CopyArgs) → has_own_ends c ≡ false → IsMoving (unaccessed (at_source k caller c))
probe-moves k caller c pinned = grind arith

-- each call that no rule answers at its beginning
pub begins : (k : CallerKnowledge) (grammar : Continuation) (caller : DomId) (r : OpenRequest) → begun k caller r ≡ None → Begins k grammar caller r (steps_of k caller r) (first_phase k caller r) (most_steps r)
begins k grammar caller (Copy c) none = record {
  same = λ vs. ap (λ (t : Continuation). t vs) (at-source k caller c);
  shown = shown-source k grammar caller (Copy c) [] none c (inl refl);
  none_held = held-source k caller c;
  bounded = let h = at-source-left k caller c in let g : steps_left (at_source k caller c) ≤ most_steps (Copy c) = omega arith in g;
  moves = copy-moves k caller c;
}
begins k grammar caller (Probe c) none = record {
  same = λ vs. unaccessed-left k caller (at_source k caller c) vs ∙ ap (λ (t : Continuation). without_access t vs) (at-source k caller c);
  shown = settled-shown k grammar caller (Probe c) [] (at_source k caller c) (shown-source k grammar caller (Probe c) [] none c (inr refl));
  none_held = settled-held (Probe c) (at_source k caller c) ∙ held-source k caller c;
  bounded = let h = at-source-left k caller c in let f = settled-left (Probe c) (at_source k caller c) in
      let g : steps_left (settled (Probe c) (at_source k caller c)) ≤ most_steps (Probe c) = omega arith in g;
  moves = probe-moves k caller c (opens k caller (Probe c) none).pinned;
}
begins k grammar caller r none = grind (arith, opens)

pub first-settled : (k : CallerKnowledge) (caller : DomId) (request : OpenRequest) → IsSettled request (first_phase k caller request)
first-settled k caller (Probe c) = is-settled (Probe c) (at_source k caller c)
first-settled k caller request = tt

-- a call makes a step unless it only releases its pins
moving-step : (caller : DomId) (phase : Phase) → IsMoving phase → IsStepAction (Some (action_at caller phase))
moving-step caller phase m = grind arith

pub makes-step : (k : CallerKnowledge) (caller : DomId) (r : OpenRequest) → begun k caller r ≡ None → IsStepAction (path k caller r [])
makes-step k caller r none = let b = begins k (path k caller r) caller r none in
    let steps : steps_of k caller r [] ≡ Some (action_at caller (first_phase k caller r)) =
    sym (b.same []) ∙ wants k caller r (first_phase k caller r) (first-settled k caller r) (last-quiet k (path k caller r) caller r [] (first_phase k caller r) b.shown) in
    subst IsStepAction (sym (ap (λ (o : Option CallResult). after_beginning o (steps_of k caller r) []) none ∙ steps)) (moving-step caller (first_phase k caller r) b.moves)

-- a request that grants by bytes differs from all others
abbrev pub HasNoBytes : Request → Type 0
HasNoBytes request = (gref : GrantRef) (bytes : _) → request ≡ requests.GrantBytes gref bytes → ⊥

pub no-bytes : (request : Request) → HasNoBytes request → bytes_of request ≡ None
no-bytes request n = grind arith
