-- Lists without the element at a place, and a domain's mappings without the one that it gives up.
use Rattle.std.proofs.Common.{◌≡◌, ◌≤◌, ℕ, zero, suc, refl, Bool, cond, List, [], ◌∷◌, ◌++◌, map, take, drop, Option}
use Rattle.std.proofs.Common.{Some, sym, ap, ◌∙◌, arith}
use Rattle.std.specs.Prelude.{slice_get}
use Rattle.std.proofs.lemmas.Option.{none-some, same_Some}
use Rattle.gt_types.specs.declared.DomId.{DomId}
use Rattle.gt_model.specs.declared.handle.Handle.{Handle}
use Rattle.gt_model.specs.declared.action.Observation.{Observation}
use Rattle.gt_model.specs.declared.held.HeldPin.{HeldPin}
use Rattle.gt_model.specs.declared.request.PinHolder.TheVariants as holders
use Rattle.gt_model.specs.History.{History, Pin, gather, live, mapping_named, mappings_at, same_handle, without}
use Rattle.gt_model.specs.declared.trace.Answer.{Answer}
use Rattle.gt_core.proofs.Mappings.{less}
use Rattle.gt_model.proofs.Observers.{unpinned-live, unpins}
use Rattle.gt_script_runs.specs.Runs.{Named}
use Rattle.gt_explore_moves.specs.Calls.{LabelsShow, SerialsRise}
use Rattle.gt_explore_moves.proofs.MappingFound.{apart-serials, rise-from, same-self}

abbrev pub but : {A : Type 0} → ℕ → List A → List A
but n xs = take n xs ++ drop (suc n) xs

-- the place, in the whole list, of the element at this place
skip : ℕ → ℕ → ℕ
skip zero at = suc at
skip (suc n) zero = zero
skip (suc n) (suc at) = suc (skip n at)

get-but : {A : Type 0} (n : ℕ) (xs : List A) (at : ℕ) → slice_get (but n xs) at ≡ slice_get xs (skip n at)
unfolding skip
get-but zero [] at = refl
get-but zero (x ∷ xs) at = refl
get-but (suc n) [] at = refl
get-but (suc n) (x ∷ xs) zero = refl
get-but (suc n) (x ∷ xs) (suc at) = get-but n xs at

pub map-but : {A B : Type 0} (f : A → B) (n : ℕ) (xs : List A) → map f (but n xs) ≡ but n (map f xs)
map-but f zero [] = refl
map-but f zero (x ∷ xs) = refl
map-but f (suc n) [] = refl
map-but f (suc n) (x ∷ xs) = ap (λ l. f x ∷ l) (map-but f n xs)

rise-lower : (m low : ℕ) (hs : List Handle) (high : ℕ) → m ≤ low → SerialsRise low hs high → SerialsRise m hs high
rise-lower m low [] high le r = omega arith
rise-lower m low (x ∷ hs) high le r = (let from : low ≤ x.serial = r.0 in omega arith, r.1)

pub rise-but : (n low : ℕ) (hs : List Handle) (high : ℕ) → SerialsRise low hs high → SerialsRise low (but n hs) high
rise-but zero low [] high r = r
rise-but zero low (x ∷ hs) high r = rise-lower low (suc x.serial) hs high (let from : low ≤ x.serial = r.0 in omega arith) r.1
rise-but (suc n) low [] high r = r
rise-but (suc n) low (x ∷ hs) high r = (r.0, rise-but n (suc x.serial) hs high r.1)

pub labels-but : (named : List Named) (d : DomId) (n : ℕ) (handles : List Handle) (labels : List (Option (List ℕ))) → LabelsShow named d handles labels → LabelsShow named d (but n handles) (but n labels)
labels-but named d n handles labels show at handle given label there has =
    show (skip n at) handle given label (sym (get-but n handles at) ∙ there) (sym (get-but n labels at) ∙ has)

-- without the mapping under a handle, that is without the one at its place
pub less-is : (n low : ℕ) (ms : List (Handle × HeldPin)) (high : ℕ) (handle : Handle) → SerialsRise low (map (λ (m : Handle × HeldPin). m.0) ms) high → slice_get (map (λ (m : Handle × HeldPin). m.0) ms) n ≡ Some handle → less handle ms ≡ but n ms
less-is n low [] high handle r there = absurd (none-some handle there)
less-is zero low (m ∷ ms) high handle r there =
    ap (λ (b : Bool). cond b ms (m ∷ less handle ms)) (ap (same_handle m.0) (sym (same_Some m.0 handle there)) ∙ same-self m.0)
less-is (suc n) low (m ∷ ms) high handle r there =
    let le : suc m.0.serial ≤ handle.serial = rise-from (suc m.0.serial) (map (λ (m : Handle × HeldPin). m.0) ms) high n handle r.1 there in
    ap (λ (b : Bool). cond b ms (m ∷ less handle ms)) (apart-serials m.0 handle (omega arith)) ∙ ap (λ (l : List (Handle × HeldPin)). m ∷ l) (less-is n (suc m.0.serial) ms high handle r.1 there)

gather-less : (d : ℕ) (handle : Handle) (ps : List Pin) → gather mapping_named d (without d (holders.Mapping handle) ps) ≡ less handle (gather mapping_named d ps)
unfolding gather without
gather-less d handle [] = refl
gather-less d handle (p ∷ ps) = grind (arith, gather-less d handle ps)

-- the mappings of a domain that gives one up
pub mappings-less : (h : History) (d : DomId) (p : HeldPin) (handle : Handle) (seen : Observation) (answer : Option Answer) → mappings_at (unpins d p (holders.Mapping handle) seen answer ∷ h) d.0 ≡ less handle (mappings_at h d.0)
mappings-less h d p handle seen answer = ap (gather mapping_named d.0) (unpinned-live h d p (holders.Mapping handle) seen answer) ∙ gather-less d.0 handle (live h)
