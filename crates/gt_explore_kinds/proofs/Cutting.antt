-- Texts that are cut at their line ends.
use Rattle.std.proofs.Common.{◌≡◌, ◌∙◌, ap, refl, sym, subst, Bool, true, false, ℕ, List, [], ◌∷◌, ◌++◌, append-nil, append_assoc, inl, inr}
use Rattle.std.proofs.lemmas.Grind.{flat_map-append}
use Rattle.std.proofs.Math.Bool.{cond}
use Rattle.std.specs.List.{flat_map, onto_first}
use Rattle.std.specs.Prelude.{◌==◌, if◌then◌else◌}
use Rattle.gt_explore_verdict.specs.Formulas.{Op}
use Rattle.gt_explore_verdict.specs.Satisfying.{lines_in}
use Rattle.gt_explore_kinds.specs.Marks.{line_marks, no_marks, text_marks}
use Rattle.gt_explore_kinds.specs.Spaces.{HasWholeLines}

-- a list has an item
abbrev HasFirst : List (List ℕ) → Type 0
HasFirst ls = (first : List ℕ) × (more : List (List ℕ)) × (ls ≡ first ∷ more)

first_onto : (b : Bool) (x : ℕ) (ls : List (List ℕ)) → HasFirst ls → HasFirst (cond b ([] ∷ ls) (onto_first x ls))
first_onto true x ls has = ([], ls, refl)
first_onto false x ls (first, more, is) = (x ∷ first, more, ap (onto_first x) is)

has_first : (text : List ℕ) → HasFirst (lines_in text)
has_first [] = ([], [], refl)
has_first (x ∷ text) = first_onto (x == 10) x (lines_in text) (has_first text)

onto_append : (x : ℕ) (ls ms : List (List ℕ)) → HasFirst ls → onto_first x (ls ++ ms) ≡ onto_first x ls ++ ms
onto_append x ls ms (first, more, is) =
    subst (λ (l : List (List ℕ)). onto_first x (l ++ ms) ≡ onto_first x l ++ ms) (sym is) refl

cut_more : (b : Bool) (x : ℕ) (all ls ms : List (List ℕ)) → HasFirst ls → all ≡ ls ++ ms
    → cond b ([] ∷ all) (onto_first x all) ≡ cond b ([] ∷ ls) (onto_first x ls) ++ ms
cut_more true x all ls ms has is = ap (λ (l : List (List ℕ)). [] ∷ l) is
cut_more false x all ls ms has is = ap (onto_first x) is ∙ onto_append x ls ms has

-- at a line end
lines_cut : (before after : List ℕ) → lines_in (before ++ 10 ∷ after) ≡ lines_in before ++ lines_in after
lines_cut [] after = refl
lines_cut (x ∷ before) after =
    cut_more (x == 10) x (lines_in (before ++ 10 ∷ after)) (lines_in before) (lines_in after) (has_first before)
    (lines_cut before after)

marks_cut : (ops : List Op) (before after : List ℕ) → text_marks ops (before ++ 10 ∷ after) ≡ text_marks ops before ++ text_marks ops after
marks_cut ops before after =
    ap (flat_map (line_marks ops)) (lines_cut before after) ∙ flat_map-append (line_marks ops) (lines_in before) (lines_in after)

pub no_text_marks : (ops : List Op) → text_marks ops [] ≡ []
no_text_marks ops = ap (λ (marks : List ℕ). marks ++ []) (no_marks 0 ops)

-- a text has the marks of its whole lines, and then those of what comes after them
pub marks_after : (ops : List Op) (text more : List ℕ) → HasWholeLines text → text_marks ops (text ++ more) ≡ text_marks ops text ++ text_marks ops more
marks_after ops text more (inl none) =
    subst (λ (t : List ℕ). text_marks ops (t ++ more) ≡ text_marks ops t ++ text_marks ops more) (sym none)
    (ap (λ (marks : List ℕ). marks ++ text_marks ops more) (sym (no_text_marks ops)))
marks_after ops text more (inr (before, is)) =
    subst (λ (t : List ℕ). text_marks ops (t ++ more) ≡ text_marks ops t ++ text_marks ops more) (sym is)
    (ap (text_marks ops) (append_assoc before (10 ∷ []) more) ∙ marks_cut ops before more
    ∙ ap (λ (marks : List ℕ). marks ++ text_marks ops more) (sym (marks_cut ops before [] ∙ ap (λ (marks : List ℕ). text_marks ops before ++ marks) (no_text_marks ops) ∙ append-nil (text_marks ops before))))

-- the same if it is added only where a test holds
pub marks_if : (ops : List Op) (b : Bool) (text more : List ℕ) → HasWholeLines text
    → text_marks ops (text ++ (if b then more else [])) ≡ text_marks ops text ++ (if b then text_marks ops more else [])
marks_if ops true text more whole = marks_after ops text more whole
marks_if ops false text more whole = ap (text_marks ops) (append-nil text) ∙ sym (append-nil (text_marks ops text))

-- pieces

-- each of these lines is one line
abbrev pub AreLines : List (List ℕ) → Type 0
AreLines [] = Unit {0}
AreLines (l ∷ ls) = (lines_in l ≡ l ∷ []) × AreLines ls

lines_onto : (x : ℕ) (ls : List (List ℕ)) → (x == 10) ≡ false → HasFirst ls → AreLines ls → AreLines (onto_first x ls)
lines_onto x [] other (first, more, is) are = absurd (cc is)
lines_onto x (l ∷ ls) other has are = (
  ap (λ (b : Bool). cond b ([] ∷ lines_in l) (onto_first x (lines_in l))) other ∙ ap (onto_first x) are.0,
  are.1,
)

one_more : (b : Bool) (x : ℕ) (ls : List (List ℕ)) → (x == 10) ≡ b → HasFirst ls → AreLines ls → AreLines (cond b ([] ∷ ls) (onto_first x ls))
one_more true x ls is has are = (refl, are)
one_more false x ls is has are = lines_onto x ls is has are

pub are_lines : (text : List ℕ) → AreLines (lines_in text)
are_lines [] = (refl, tt)
are_lines (x ∷ text) = one_more (x == 10) x (lines_in text) refl (has_first text) (are_lines text)
