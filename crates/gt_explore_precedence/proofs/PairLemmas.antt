-- The calls that terms of order name.
use Rattle.std.proofs.Common.{◌≡◌, ◌<◌, ◌∙◌, ℕ, List, [], ◌∷◌, ◌++◌, Some, Bor, ap, get_or, inl, inr, length, map, refl, slice_get, subst, sym, take}
use Rattle.std.specs.List.{take-map}
use Rattle.std.specs.Option.{option_map}
use Rattle.std.proofs.lemmas.Option.{slice_get-get_or, slice_get-map}
use Rattle.gt_explore_faults.specs.declared.claims.ClaimsFault.{ClaimsFault}
use Rattle.gt_script.specs.Lists.{RunTask}
use Rattle.gt_script.specs.Preceding.{preceding, preceding_all}
use Rattle.gt_script.specs.RunContents.{RunContents}
use Rattle.gt_script.specs.declared.precedence.Precedence.{Precedence}
use Rattle.gt_explore_precedence.specs.Pairs.{ArePairs, IsFirstOrderFault, IsPairsFault, IsPartFault}

-- one pair more
pub one-more : (pairs : List Precedence) (pair : Precedence) (c : RunContents) → preceding_all (pairs ++ pair ∷ []) c ≡ preceding pair (preceding_all pairs c)
one-more [] pair c = refl
one-more (p ∷ pairs) pair c = one-more pairs pair (preceding p c)

-- the fault of a part is that of the first term of order that does not name two calls
pub part-fault : (lines : List (List ℕ)) (tasks : List RunTask) (parts : List (List ℕ)) (at : ℕ) (part : List ℕ) (pairs : List Precedence) (fault : ClaimsFault) → slice_get parts at ≡ Some part
    → ArePairs lines tasks (take at parts) pairs → IsPartFault lines tasks part fault → IsPairsFault lines tasks parts fault
part-fault lines tasks parts at part pairs fault there before (order, inl none) = inl none
part-fault lines tasks parts at part pairs fault there before (order, inr wrong) =
    let first : IsFirstOrderFault lines tasks parts fault = record { at = at; part = part; there = there; order = order; wrong = wrong; pairs = pairs; before = before } in
    inr first

pub part-fault-at : (lines : List (List ℕ)) (tasks : List RunTask) (parts : List (Bor (List ℕ))) (at : ℕ) (d : Bor (List ℕ)) (pairs : List Precedence) (fault : ClaimsFault) → at < length parts
    → ArePairs lines tasks (map (λ part. part.now) (take at parts)) pairs → IsPartFault lines tasks (get_or parts at d).now fault → IsPairsFault lines tasks (map (λ part. part.now) parts) fault
part-fault-at lines tasks parts at d pairs fault within before is =
    let there : slice_get (map (λ (part : Bor (List ℕ)). part.now) parts) at ≡ Some (get_or parts at d).now =
    slice_get-map (λ (part : Bor (List ℕ)). part.now) parts at ∙ ap (option_map (λ (part : Bor (List ℕ)). part.now)) (slice_get-get_or parts at d within) in
    part-fault lines tasks (map (λ (part : Bor (List ℕ)). part.now) parts) at (get_or parts at d).now pairs fault there (subst (λ (ps : List (List ℕ)). ArePairs lines tasks ps pairs) (sym (take-map (λ (part : Bor (List ℕ)). part.now) at parts)) before) is
