-- What was read so far, before what is read of the rest.
use Rattle.std.proofs.Common.{◌≡◌, ◌+◌, ◌≤◌, ℕ, cond, true, false, List, [], ◌∷◌, ◌++◌, Result, Ok, Err, ap, append_assoc, arith, length}
use Rattle.std.proofs.Common.{refl, sym}
use Rattle.std.proofs.lemmas.List.{append-nil}
use Rattle.std.proofs.lemmas.List.Splits.{length-slice_split}
use Rattle.std.specs.List.{onto_first}
use Rattle.std.specs.Prelude.{◌==◌}
use Rattle.gt_state_claims.specs.Claims.{ClaimAsked}
use Rattle.gt_state_claims.specs.Reading.{after_choice, after_term, parts_at, terms_in, claim_read, IsFaultOfClaim, IsReadFault}
use Rattle.gt_state_claims.specs.declared.fault.StateClaimFault.{StateClaimFault}
use Rattle.gt_state_claims.specs.declared.fault.StateClaimFault.TheVariants as claim_faults
use Rattle.gt_state_claims.specs.declared.fault.StateTermFault.{StateTermFault}
use Rattle.gt_state_claims.specs.declared.terms.StateTerm.{StateTerm}

-- these, and then what is read
abbrev pub before_read : {A : Type 0} → List A → Result (List A) (ℕ × StateTermFault) → Result (List A) (ℕ × StateTermFault)
before_read xs (Err fault) = Err fault
before_read xs (Ok ys) = Ok (xs ++ ys)

pub none_before : {A : Type 0} (r : Result (List A) (ℕ × StateTermFault)) → before_read [] r ≡ r
none_before (Err fault) = refl
none_before (Ok ys) = refl

-- one more term, and one more choice
pub one_term : (ts : List StateTerm) (number : ℕ) (t : StateTerm) (r : Result (List StateTerm) (ℕ × StateTermFault)) → before_read ts (after_term number (Ok t) r) ≡ before_read (ts ++ t ∷ []) r
one_term ts number t (Err fault) = refl
one_term ts number t (Ok us) = ap Ok (sym (append_assoc ts (t ∷ []) us))

pub one_choice : (cs : ClaimAsked) (ts : List StateTerm) (r : Result ClaimAsked (ℕ × StateTermFault)) → before_read cs (after_choice (Ok ts) r) ≡ before_read (cs ++ ts ∷ []) r
one_choice cs ts (Err fault) = refl
one_choice cs ts (Ok ds) = ap Ok (sym (append_assoc cs (ts ∷ []) ds))

-- all was read
pub all_read : {A : Type 0} (xs : List A) → before_read xs (Ok []) ≡ Ok xs
all_read xs = ap Ok (append-nil xs)

-- a text has no more terms than bytes, and one
one_byte : (x : ℕ) (p : List ℕ) → length (parts_at 38 (x ∷ p)) ≤ 1 + length (parts_at 38 p)
one_byte x p = let a = length-slice_split (λ b. b == 38) (x ∷ p) in let b = length-slice_split (λ b. b == 38) p in grind (arith, a, b)

onto_terms : (x : ℕ) (ps : List (List ℕ)) → 1 ≤ length ps → terms_in (onto_first x ps) ≤ 1 + terms_in ps
onto_terms x [] some = absurd (omega arith)
onto_terms x (p ∷ ps) some = let h = one_byte x p in omega (arith, h)

some_part : (text : List ℕ) → 1 ≤ length (parts_at 124 text)
some_part text = let h = length-slice_split (λ b. b == 124) text in omega (arith, h)

pub few_terms : (text : List ℕ) → terms_in (parts_at 124 text) ≤ length text + 1
few_terms [] = omega arith
few_terms (x ∷ xs) =
    elim (x == 124) as (λ v. terms_in (cond v ([] ∷ parts_at 124 xs) (onto_first x (parts_at 124 xs))) ≤ length (x ∷ xs) + 1) [
      | true ↦ (let h = few_terms xs in omega (arith, h))
      | false ↦ (let h = few_terms xs in let k = onto_terms x (parts_at 124 xs) (some_part xs) in omega (arith, h, k))
    ]

-- the fault of what a text has is that of the text
pub as_read_fault : (text : List ℕ) (fault : StateClaimFault) → IsFaultOfClaim (claim_read text) fault → IsReadFault text fault
as_read_fault text claim_faults.Memory is = tt
as_read_fault text (claim_faults.Term number fault) is = is
as_read_fault text claim_faults.Long is = absurd is
as_read_fault text (claim_faults.Domain number) is = absurd is
