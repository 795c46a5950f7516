-- The parts of an expression, one after the other.
use Rattle.std.proofs.Common.{◌≡◌, ◌∙◌, ◌+◌, ◌<◌, ap, ap₂, refl, subst, ℕ, zero, suc, List, [], ◌∷◌, Option}
use Rattle.std.proofs.Common.{Result, Ok, Err, drop, slice_get, add-one, map, Bor, length, drop-cons, get_or}
use Rattle.gt_explore_verdict.specs.Expressions.{words_in}
use Rattle.gt_explore_verdict.specs.Reading.{IsFaultOfTerms, ReaderAsked, first_mark, later_marks, part_read}
use Rattle.gt_explore_verdict.specs.Reading.{parts_read}
use Rattle.gt_explore_verdict.specs.declared.fault.ConditionFault.{ConditionFault}
use Rattle.gt_explore_verdict.specs.declared.fault.ExpressionFault.{ExpressionFault}
use Rattle.gt_explore_verdict.specs.declared.fault.ExpressionFault.TheVariants.{Memory, Term}

first_at : (marks : List ℕ) (at : ℕ) → first_mark (drop at marks) ≡ slice_get marks at
first_at [] zero = refl
first_at [] (suc at) = refl
first_at (m ∷ marks) zero = refl
first_at (m ∷ marks) (suc at) = first_at marks at

later_at : (marks : List ℕ) (at : ℕ) → later_marks (drop at marks) ≡ drop (suc at) marks
later_at [] zero = refl
later_at [] (suc at) = refl
later_at (m ∷ marks) zero = refl
later_at (m ∷ marks) (suc at) = later_at marks at

-- one part and the rest, by the result of the part
pub part_and_rest : (r : ReaderAsked) (segment : List ℕ) (rest : List (List ℕ)) (marks : List ℕ) (at : ℕ)
    (to : Result ReaderAsked (ℕ × ConditionFault)) → part_read r (words_in segment) (slice_get marks at) ≡ to
    → parts_read (Ok r) (segment ∷ rest) (drop at marks) ≡ parts_read to rest (drop (suc at) marks)
part_and_rest r segment rest marks at to is =
    ap₂ (λ (x : Result ReaderAsked (ℕ × ConditionFault)) (ms : List ℕ). parts_read x rest ms)
    (ap (λ (o : Option ℕ). part_read r (words_in segment) o) (first_at marks at) ∙ is) (later_at marks at)

-- the parts from an index on, by the result of the first
pub parts_from : (r : ReaderAsked) (segments : List (Bor (List ℕ))) (i : ℕ) (d : Bor (List ℕ)) (marks : List ℕ) (at : ℕ)
    (to : Result ReaderAsked (ℕ × ConditionFault)) → i ≡ at → i < length segments
    → part_read r (words_in (get_or segments i d).now) (slice_get marks at) ≡ to
    → parts_read (Ok r) (map (λ s. s.now) (drop at segments)) (drop at marks)
    ≡ parts_read to (map (λ s. s.now) (drop (at + 1) segments)) (drop (at + 1) marks)
parts_from r segments i d marks at to same here is =
    subst (λ (k : ℕ). parts_read (Ok r) (map (λ s. s.now) (drop k segments)) (drop at marks)
    ≡ parts_read to (map (λ s. s.now) (drop (at + 1) segments)) (drop (at + 1) marks)) same
    (ap (λ (l : List (Bor (List ℕ))). parts_read (Ok r) (map (λ s. s.now) l) (drop at marks))
    (drop-cons segments i d here)
    ∙ (part_and_rest r (get_or segments i d).now (map (λ s. s.now) (drop (suc i) segments)) marks at to is
    ∙ rw (same, add-one) refl))

-- the fault of a part is that of all parts
pub parts_fault : (x : Result ReaderAsked (ℕ × ConditionFault)) (r : ReaderAsked) (segments : List (Bor (List ℕ)))
    (i : ℕ) (d : Bor (List ℕ)) (marks : List ℕ) (at : ℕ) (fault : ExpressionFault)
    → x ≡ parts_read (Ok r) (map (λ s. s.now) (drop at segments)) (drop at marks) → i ≡ at → i < length segments
    → IsFaultOfTerms (part_read r (words_in (get_or segments i d).now) (slice_get marks at)) fault
    → IsFaultOfTerms x fault
parts_fault x r segments i d marks at Memory e same here is = tt
parts_fault x r segments i d marks at (Term number f) e same here is =
    e ∙ parts_from r segments i d marks at (Err (number, f)) same here is
