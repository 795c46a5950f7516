-- Texts with the same marks meet the same terms, and satisfy the same formulas.
use Rattle.std.proofs.Common.{◌≡◌, ◌∙◌, ap, refl, sym, Bool, true, false, ℕ, List, [], ◌∷◌, ◌++◌, ◌+◌, ◌<◌, ◌≤◌, map, arith}
use Rattle.std.proofs.lemmas.Bool.{eq-eqb, ne_eqb}
use Rattle.std.proofs.lemmas.List.Elements.{All-cons, All-nil}
use Rattle.std.specs.Global.{Vec}
use Rattle.std.specs.List.{flat_map}
use Rattle.std.specs.Prelude.{◌==◌, ◌||◌, if◌then◌else◌}
use Rattle.gt_explore_verdict.proofs.Values.{value_of_formula}
use Rattle.gt_explore_verdict.specs.Formulas.{Formula, Op, all_values, formula_asked, formula_of, last_value, op_and, op_not, op_or}
use Rattle.gt_explore_verdict.specs.Formulas.{op_term, operation_asked, satisfies, values_after}
use Rattle.gt_explore_verdict.specs.Satisfying.{is_met_by, is_met_in, line_words, lines_in}
use Rattle.gt_explore_verdict.specs.declared.operations.Operation.{Operation}
use Rattle.gt_explore_kinds.specs.Kinds.{AreOfOneKind, formulas_asked}
use Rattle.gt_explore_kinds.specs.Marks.{all_operations, is_met_term, marks_from, text_marks}
use Rattle.gt_explore_kinds.proofs.Cutting.{AreLines, are_lines}

-- numbers in lists

has : ℕ → List ℕ → Bool
has k [] = false
has k (n ∷ ns) = (n == k) || has k ns

or_assoc : (a b c : Bool) → (a || (b || c)) ≡ ((a || b) || c)
or_assoc true b c = refl
or_assoc false b c = refl

or_none : (b : Bool) → (b || false) ≡ b
or_none true = refl
or_none false = refl

has_append : (k : ℕ) (ns ms : List ℕ) → has k (ns ++ ms) ≡ (has k ns || has k ms)
unfolding has
has_append k [] ms = refl
has_append k (n ∷ ns) ms = ap (λ (b : Bool). (n == k) || b) (has_append k ns ms) ∙ or_assoc (n == k) (has k ns) (has k ms)

-- if this number is not looked for
has_other : (k n : ℕ) (b : Bool) (ns : List ℕ) → n < k → has k ((if b then n ∷ [] else []) ++ ns) ≡ has k ns
unfolding has
has_other k n true ns lt = ap (λ (b : Bool). b || has k ns) (ne_eqb n k (λ is. omega (arith, is, lt)))
has_other k n false ns lt = refl

-- if it is looked for, and not among the others
has_this : (n : ℕ) (b : Bool) (ns : List ℕ) → has n ns ≡ false → has n ((if b then n ∷ [] else []) ++ ns) ≡ b
unfolding has
has_this n true ns none = ap (λ (b : Bool). b || has n ns) (eq-eqb n n refl)
has_this n false ns none = none

-- a number below that of the first operation is no mark
below : (k n : ℕ) (ops : List Op) (lines : List (List ℕ)) → k < n → has k (marks_from n ops lines) ≡ false
unfolding has
below k n [] lines lt = refl
below k n (op ∷ ops) lines lt = skip (is_met_term lines op) (below k (n + 1) ops lines (omega (arith, lt)))
  where
    skip : (b : Bool) → has k (marks_from (n + 1) ops lines) ≡ false → has k ((if b then n ∷ [] else []) ++ marks_from (n + 1) ops lines) ≡ false
    skip true rest = ap (λ (b : Bool). b || has k (marks_from (n + 1) ops lines)) (ne_eqb n k (λ is. omega (arith, is, lt))) ∙ rest
    skip false rest = rest

-- terms that the lines of a text meet

met_none : (op : Op) → is_met_term [] op ≡ false
met_none (op_term asked) = refl
met_none op_not = refl
met_none op_and = refl
met_none op_or = refl

met_cons : (op : Op) (line : List ℕ) (lines : List (List ℕ)) → (is_met_term (line ∷ []) op || is_met_term lines op) ≡ is_met_term (line ∷ lines) op
met_cons (op_term asked) line lines = ap (λ (b : Bool). b || is_met_in asked lines) (or_none (is_met_by asked (line_words line)))
met_cons op_not line lines = refl
met_cons op_and line lines = refl
met_cons op_or line lines = refl

-- the marks of these lines, line by line; the first operation has this number
marks_of : ℕ → List Op → List (List ℕ) → List ℕ
marks_of n ops lines = flat_map (λ l. marks_from n ops (lines_in l)) lines

marks_here : (n : ℕ) (op : Op) (ops : List Op) (lines : List (List ℕ)) → AreLines lines → has n (marks_of n (op ∷ ops) lines) ≡ is_met_term lines op
unfolding has marks_of
marks_here n op ops [] are = sym (met_none op)
marks_here n op ops (l ∷ ls) are =
    has_append n (marks_from n (op ∷ ops) (lines_in l)) (marks_of n (op ∷ ops) ls)
    ∙ ap (λ (b : Bool). b || has n (marks_of n (op ∷ ops) ls)) (has_this n (is_met_term (lines_in l) op) (marks_from (n + 1) ops (lines_in l)) (below n (n + 1) ops (lines_in l) (omega arith)))
    ∙ ap (λ (b : Bool). is_met_term (lines_in l) op || b) (marks_here n op ops ls are.1)
    ∙ ap (λ (m : List (List ℕ)). is_met_term m op || is_met_term ls op) are.0
    ∙ met_cons op l ls

marks_later : (k n : ℕ) (op : Op) (ops : List Op) (lines : List (List ℕ)) → n < k → has k (marks_of n (op ∷ ops) lines) ≡ has k (marks_of (n + 1) ops lines)
unfolding has marks_of
marks_later k n op ops [] lt = refl
marks_later k n op ops (l ∷ ls) lt =
    has_append k (marks_from n (op ∷ ops) (lines_in l)) (marks_of n (op ∷ ops) ls)
    ∙ ap (λ (b : Bool). b || has k (marks_of n (op ∷ ops) ls)) (has_other k n (is_met_term (lines_in l) op) (marks_from (n + 1) ops (lines_in l)) lt)
    ∙ ap (λ (b : Bool). has k (marks_from (n + 1) ops (lines_in l)) || b) (marks_later k n op ops ls lt)
    ∙ sym (has_append k (marks_from (n + 1) ops (lines_in l)) (marks_of (n + 1) ops ls))

-- texts that meet the same terms

abbrev pub MeetSame : List (List ℕ) → List (List ℕ) → List Op → Type 0
MeetSame lines others [] = Unit {0}
MeetSame lines others (op ∷ ops) = (is_met_term lines op ≡ is_met_term others op) × MeetSame lines others ops

same_from : (n : ℕ) (ops : List Op) (lines others : List (List ℕ)) → AreLines lines → AreLines others
    → ((k : ℕ) → n ≤ k → has k (marks_of n ops lines) ≡ has k (marks_of n ops others)) → MeetSame lines others ops
same_from n [] lines others are too same = tt
same_from n (op ∷ ops) lines others are too same = (
  sym (marks_here n op ops lines are) ∙ same n (omega arith) ∙ marks_here n op ops others too,
  same_from (n + 1) ops lines others are too (λ k le.
      let lt : n < k = omega (arith, le) in
      sym (marks_later k n op ops lines lt) ∙ same k (omega (arith, le)) ∙ marks_later k n op ops others lt),
)

meet_same : (ops : List Op) (one other : List ℕ) → text_marks ops one ≡ text_marks ops other → MeetSame (lines_in one) (lines_in other) ops
unfolding marks_of
meet_same ops one other same =
    same_from 0 ops (lines_in one) (lines_in other) (are_lines one) (are_lines other) (λ k le. ap (has k) same)

-- formulas

values_same : (lines others : List (List ℕ)) (ops : List Op) (bs : List Bool) → MeetSame lines others ops → all_values lines bs ops ≡ all_values others bs ops
values_same lines others [] bs same = refl
values_same lines others (op_term asked ∷ ops) bs (first, more) =
    ap (λ (b : Bool). all_values lines (b ∷ bs) ops) first ∙ values_same lines others ops (is_met_in asked others ∷ bs) more
values_same lines others (op_not ∷ ops) bs (first, more) = values_same lines others ops (values_after others bs op_not) more
values_same lines others (op_and ∷ ops) bs (first, more) = values_same lines others ops (values_after others bs op_and) more
values_same lines others (op_or ∷ ops) bs (first, more) = values_same lines others ops (values_after others bs op_or) more

satisfies_same : (ops : List Op) (one other : List ℕ) → MeetSame (lines_in one) (lines_in other) ops → satisfies (formula_of ops) one ≡ satisfies (formula_of ops) other
satisfies_same ops one other same =
    sym (value_of_formula (lines_in one) ops) ∙ ap last_value (values_same (lines_in one) (lines_in other) ops [] same) ∙ value_of_formula (lines_in other) ops

same_left : (lines others : List (List ℕ)) (ops more : List Op) → MeetSame lines others (ops ++ more) → MeetSame lines others ops
same_left lines others [] more same = tt
same_left lines others (op ∷ ops) more (first, rest) = (first, same_left lines others ops more rest)

same_right : (lines others : List (List ℕ)) (ops more : List Op) → MeetSame lines others (ops ++ more) → MeetSame lines others more
same_right lines others [] more same = same
same_right lines others (op ∷ ops) more (first, rest) = same_right lines others ops more rest

one_kind : (expressions : List (Vec Operation)) (one other : List ℕ) → MeetSame (lines_in one) (lines_in other) (all_operations expressions) → AreOfOneKind (formulas_asked expressions) one other
one_kind [] one other same = All-nil _
one_kind (e ∷ es) one other same =
    All-cons (λ (f : Formula). satisfies f one ≡ satisfies f other) (formula_asked e.items) (formulas_asked es)
    (satisfies_same (map operation_asked e.items) one other (same_left (lines_in one) (lines_in other) (map operation_asked e.items) (all_operations es) same))
    (one_kind es one other (same_right (lines_in one) (lines_in other) (map operation_asked e.items) (all_operations es) same))

-- texts with the same marks are of one kind
pub same_kind : (expressions : List (Vec Operation)) (one other : List ℕ) → text_marks (all_operations expressions) one ≡ text_marks (all_operations expressions) other
    → AreOfOneKind (formulas_asked expressions) one other
same_kind expressions one other same = one_kind expressions one other (meet_same (all_operations expressions) one other same)
