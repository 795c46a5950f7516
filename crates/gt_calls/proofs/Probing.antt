-- A probe follows the path of its copy without the access.
use Rattle.gt_calls.proofs.Words.{◌≡◌, ◌≤◌, refl, Bool, true, false, List, [], ◌∷◌, Option, Some, None, cond, sym, ap}
use Rattle.gt_calls.proofs.Words.{◌∙◌, subst, inl, inr, arith, DomId, OpenRequest, Copy, CopyArgs, CallResult, Action}
use Rattle.gt_calls.proofs.Words.{Observation, Nothing, HeldPin, AccessPath, Phase, Accessing, CallerKnowledge}
use Rattle.gt_calls.proofs.Words.{Continuation, accesses, give_back, remains, phase_after, action_at, FitsAction}
use Rattle.gt_calls.proofs.Words.{HoldsNext, HasShown, held_in, steps_left, last_first}
use Rattle.gt_model.specs.declared.request.OpenRequest.TheVariants.{Probe}
use Rattle.gt_model.specs.declared.action.CallResult.TheVariants.{Granted}
use Rattle.gt_model.specs.Path.{is_copy_access}
use Rattle.gt_calls.specs.Machine.{remains_of, settled, unaccessed}
use Rattle.gt_calls.specs.Resting.{IsCopyOf}
use Rattle.gt_calls.specs.Standing.{IsSettled}
unfoldable use Rattle.gt_model.specs.Path.{without_access}
use Rattle.gt_calls.proofs.{Calls.IsLastQuiet, Calls.goes-on, Calls.wants-action}

-- a path without its access

-- its next action is no access
pub here : (f : Continuation) → is_copy_access (f []) ≡ false → without_access f [] ≡ f []
unfolding without_access
here f e = ap (λ (b : Bool). cond b (f (Nothing ∷ [])) (f [])) e

-- and then the same holds of what follows
pub on : (f : Continuation) (v : Observation) (vs : List Observation) → is_copy_access (f []) ≡ false
    → without_access f (v ∷ vs) ≡ without_access (λ (later : List Observation). f (v ∷ later)) vs
unfolding without_access
on f v vs e = ap (λ (b : Bool). cond b (f (Nothing ∷ v ∷ vs)) (without_access (λ (later : List Observation). f (v ∷ later)) vs)) e

-- its next action is the access
pub past : (f : Continuation) (vs : List Observation) → is_copy_access (f []) ≡ true → without_access f vs ≡ f (Nothing ∷ vs)
unfolding without_access
past f [] e = ap (λ (b : Bool). cond b (f (Nothing ∷ [])) (f [])) e
past f (v ∷ vs) e = ap (λ (b : Bool). cond b (f (Nothing ∷ v ∷ vs)) (without_access (λ (later : List Observation). f (v ∷ later)) vs)) e

cond-same : (a b x y z w : Option Action) → a ≡ b → x ≡ y → z ≡ w → cond (is_copy_access a) x z ≡ cond (is_copy_access b) y w
cond-same a b x y z w e f g = grind arith

-- paths that are the same are so without their access
pub same : (f g : Continuation) → ((vs : List Observation) → f vs ≡ g vs) → (vs : List Observation) → without_access f vs ≡ without_access g vs
unfolding without_access
same f g e [] = cond-same (f []) (g []) (f (Nothing ∷ [])) (g (Nothing ∷ [])) (f []) (g []) (e []) (e (Nothing ∷ [])) (e [])
same f g e (v ∷ vs) = cond-same (f []) (g []) (f (Nothing ∷ v ∷ vs)) (g (Nothing ∷ v ∷ vs))
    (without_access (λ (later : List Observation). f (v ∷ later)) vs) (without_access (λ (later : List Observation). g (v ∷ later)) vs)
    (e []) (e (Nothing ∷ v ∷ vs)) (same (λ (later : List Observation). f (v ∷ later)) (λ (later : List Observation). g (v ∷ later)) (λ later. e (v ∷ later)) vs)

-- nothing is left of a path that is over
over : (vs : List Observation) → without_access (λ (later : List Observation). None) vs ≡ None
unfolding without_access
over [] = refl
over (v ∷ vs) = over vs

-- the release of pins has no access
gives : (ps : List HeldPin) (verdict : CallResult) (vs : List Observation) → without_access (give_back ps verdict) vs ≡ give_back ps verdict vs
unfolding without_access
gives [] verdict [] = refl
gives [] verdict (v ∷ vs) = over vs
gives (p ∷ ps) verdict [] = refl
gives (p ∷ ps) verdict (Nothing ∷ vs) = gives ps verdict vs
gives (p ∷ ps) verdict (v ∷ vs) = over vs

-- in the machine

-- a last step sees nothing
pub last-quiet : (k : CallerKnowledge) (grammar : Continuation) (caller : DomId) (request : OpenRequest) (shown : List Observation) (phase : Phase) → HasShown k grammar caller request shown phase → IsLastQuiet phase
last-quiet k grammar caller request shown phase h = grind arith

-- what is left in a phase without the access is what is left without it
pub unaccessed-left : (k : CallerKnowledge) (caller : DomId) (phase : Phase) (vs : List Observation)
    → without_access (remains k caller (unaccessed phase)) vs ≡ without_access (remains k caller phase) vs
unaccessed-left k caller (Accessing c source dest) vs =
    gives (last_first (record { source = source; dest = dest })) Granted vs ∙ sym (past (accesses caller c source dest) vs refl)
unaccessed-left k caller phase vs = refl

-- a settled phase of a probe makes no access
no-access : (caller : DomId) (c : CopyArgs) (phase : Phase) → IsSettled (Probe c) phase → IsLastQuiet phase → is_copy_access (Some (action_at caller phase)) ≡ false
no-access caller c phase s q = grind arith

none-left : (k : CallerKnowledge) (caller : DomId) (c : CopyArgs) (phase : Phase) → IsSettled (Probe c) phase → IsLastQuiet phase → is_copy_access (remains k caller phase []) ≡ false
none-left k caller c phase s q = ap is_copy_access (wants-action k caller phase) ∙ no-access caller c phase s q

-- the next action of a call is the one of its path
pub wants : (k : CallerKnowledge) (caller : DomId) (request : OpenRequest) (phase : Phase) → IsSettled request phase → IsLastQuiet phase
    → remains_of k caller request phase [] ≡ Some (action_at caller phase)
wants k caller (Probe c) phase s q = here (remains k caller phase) (none-left k caller c phase s q) ∙ wants-action k caller phase
wants k caller request phase s q = wants-action k caller phase

-- the phase after a step has what the path has after what the step saw
pub goes-so : (k : CallerKnowledge) (caller : DomId) (request : OpenRequest) (phase : Phase) (seen : Observation) → IsSettled request phase → IsLastQuiet phase
    → FitsAction (action_at caller phase) seen → (vs : List Observation)
    → remains_of k caller request (settled request (phase_after k caller phase seen)) vs ≡ remains_of k caller request phase (seen ∷ vs)
goes-so k caller (Probe c) phase seen s q fits vs =
    unaccessed-left k caller (phase_after k caller phase seen) vs
    ∙ same (remains k caller (phase_after k caller phase seen)) (λ (later : List Observation). remains k caller phase (seen ∷ later)) (goes-on k caller phase seen q fits) vs
    ∙ sym (on (remains k caller phase) seen vs (none-left k caller c phase s q))
goes-so k caller request phase seen s q fits vs = goes-on k caller phase seen q fits vs

pub is-settled : (request : OpenRequest) (phase : Phase) → IsSettled request (settled request phase)
is-settled request phase = grind arith

pub settled-shown : (k : CallerKnowledge) (grammar : Continuation) (caller : DomId) (request : OpenRequest) (shown : List Observation) (phase : Phase)
    → HasShown k grammar caller request shown phase → HasShown k grammar caller request shown (settled request phase)
settled-shown k grammar caller (Probe c) shown (Accessing a source dest) h = tt
settled-shown k grammar caller (Probe c) shown phase h = h
settled-shown k grammar caller request shown phase h = h

pub settled-held : (request : OpenRequest) (phase : Phase) → held_in (settled request phase) ≡ held_in phase
settled-held request phase = grind arith

pub settled-left : (request : OpenRequest) (phase : Phase) → steps_left (settled request phase) ≤ steps_left phase
settled-left request phase = grind arith

-- the pins held after a step
holds-unaccessed : (last : Action) (seen : Observation) (old : List HeldPin) (phase : Phase) (caller : DomId) → HoldsNext last seen old (held_in phase) (action_at caller phase)
    → HoldsNext last seen old (held_in (unaccessed phase)) (action_at caller (unaccessed phase))
holds-unaccessed last seen old phase caller h = grind arith

pub settled-holds : (request : OpenRequest) (last : Action) (seen : Observation) (old : List HeldPin) (phase : Phase) (caller : DomId)
    → HoldsNext last seen old (held_in phase) (action_at caller phase)
    → HoldsNext last seen old (held_in (settled request phase)) (action_at caller (settled request phase))
settled-holds (Probe c) last seen old phase caller h = holds-unaccessed last seen old phase caller h
settled-holds request last seen old phase caller h = h

-- only a copy makes an access
pub copy-alone : (request : OpenRequest) (c a : CopyArgs) (source dest : AccessPath) → IsCopyOf request c → IsSettled request (Accessing a source dest) → request ≡ Copy c
copy-alone request c a source dest (inl is) s = is
copy-alone request c a source dest (inr is) s = absurd (subst (λ (r : OpenRequest). IsSettled r (Accessing a source dest)) is s)
