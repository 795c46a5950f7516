-- A condition that no answer can meet is met by no line of a text of answers.
use Rattle.std.proofs.Common.{◌≡◌, ◌∙◌, ◌==◌, ℕ, zero, suc, ◌+◌, Option, None, Bool, not, true, false, ◌&&◌, ◌||◌}
use Rattle.std.proofs.Common.{List, [], ◌∷◌, Some, refl, subst, sym}
use Rattle.std.proofs.Common.{slice_get}
use Rattle.std.proofs.lemmas.Bool.{eqb-true}
use Rattle.std.proofs.lemmas.Option.{none-some, same_Some}
use Rattle.std.proofs.lemmas.Slice.Eq.{bytes_eq-Decides}
use Rattle.std.specs.List.{list_any}
use Rattle.std.specs.Str.{bytes_eq}
use Rattle.gt_explore_verdict.specs.Calls.{forms_of, may_answer}
use Rattle.gt_explore_verdict.specs.Placing.{is_answered, is_call_at}
use Rattle.gt_explore_verdict.specs.Expressions.{Asked, ConditionScope, agree, excludes, excludes_at, may_be, of_all}
use Rattle.gt_explore_verdict.specs.Expressions.{of_domain, of_line}
use Rattle.gt_explore_verdict.specs.Forms.{begins_form, fits, fits_from, has_place, is_of_some, kind_at, may_begin}
use Rattle.gt_explore_verdict.specs.Forms.{may_have}
use Rattle.gt_explore_verdict.specs.Refusing.{AnswerOneLine, AreNeverBothMet, AreNeverBothSatisfied}
use Rattle.gt_explore_verdict.specs.Refusing.{HasAnswer, HasAnswerOf, HasItsWords, IsAnswerToCall}
use Rattle.gt_explore_verdict.specs.Refusing.{IsForm}
use Rattle.gt_explore_verdict.specs.Refusing.{IsFormOfCall, IsNeverAnswered, IsNeverMet, IsOfPlace}
use Rattle.gt_explore_verdict.specs.Satisfying.{begins, is_asked_answer, is_met_by, is_met_in, line_words, lines_in}
use Rattle.gt_explore_verdict.specs.declared.calls.CallName.{CallName}
use Rattle.gt_explore_verdict.specs.declared.calls.PlacedCall.{PlacedCall}
use Rattle.gt_explore_verdict.specs.declared.forms.AnswerForm.{AnswerForm}
use Rattle.gt_explore_verdict.specs.declared.forms.TheConstants.{EVERY_FORM}
use Rattle.gt_explore_verdict.specs.declared.forms.WordKind.{WordKind}

clash : false ≡ true → ⊥
clash e = cc

is_false : (b : Bool) → (b ≡ true → ⊥) → b ≡ false
is_false true isnt = absurd (isnt refl)
is_false false isnt = refl

both : (a b : Bool) → (a && b) ≡ true → (a ≡ true) × (b ≡ true)
both true b is = (refl, is)
both false b is = absurd (clash is)

two : (a b : Bool) → a ≡ true → b ≡ true → (a && b) ≡ true
two a b p q = rw p (rw q refl)

second_false : (a b : Bool) → b ≡ false → (a && b) ≡ false
second_false true b is = is
second_false false b is = refl

left : (a b : Bool) → a ≡ true → (a || b) ≡ true
left a b is = rw is refl

right : (a b : Bool) → b ≡ true → (a || b) ≡ true
right true b is = refl
right false b is = is

neither : (a b : Bool) → a ≡ false → b ≡ false → (a || b) ≡ false
neither a b p q = rw p (rw q refl)

-- one of the list passes the test
any_at : {X : Type 0} (p : X → Bool) (forms : List X) (at : ℕ) (form : X) → slice_get forms at ≡ Some form
    → p form ≡ true → list_any p forms ≡ true
any_at p [] at form there is = absurd (none-some form there)
any_at {X = X} p (f ∷ fs) zero form there is =
    left (p f) (list_any p fs) (subst (λ (g : X). p g ≡ true) (sym (same_Some f form there)) is)
any_at p (f ∷ fs) (suc at) form there is = right (p f) (list_any p fs) (any_at p fs at form there is)

-- if the test passes no form, it passes none of them
no_form : (p : AnswerForm → Bool) (form : AnswerForm) → IsForm form → list_any p EVERY_FORM ≡ false → p form ≡ true → ⊥
no_form p form one none is = clash (sym none ∙ any_at p EVERY_FORM one.0 form one.1 is)

-- what an answer of a form begins with fits the form
begins_fits : (form : AnswerForm) (at : ℕ) (answer words : List (List ℕ)) → fits_from form at answer ≡ true
    → begins answer words ≡ true → fits_from form at words ≡ true
begins_fits form at answer [] fit is = refl
begins_fits form at [] (w ∷ ws) fit is = absurd (clash is)
begins_fits form at (a ∷ answer) (w ∷ ws) fit is =
    let f = both (fits form at a) (fits_from form (at + 1) answer) fit in
    let s = both (bytes_eq a w) (begins answer ws) is in
    two (fits form at w) (fits_from form (at + 1) ws)
    (subst (λ (v : List ℕ). fits form at v ≡ true) ((bytes_eq-Decides a w).0 s.0) f.0)
    (begins_fits form (at + 1) answer ws f.1 s.1)

-- the first word of these is the one that is looked for, or one of the others is
somewhere : (form : AnswerForm) (at : ℕ) (a w : List ℕ) → fits form at a ≡ true → (b others : Bool)
    → (others ≡ true → (i : ℕ) × (fits form i w ≡ true)) → bytes_eq a w ≡ b → (b || others) ≡ true → (i : ℕ) × (fits form i w ≡ true)
somewhere form at a w fit true others rest same is =
    (at, subst (λ (v : List ℕ). fits form at v ≡ true) ((bytes_eq-Decides a w).0 same) fit)
somewhere form at a w fit false others rest other is = rest is

-- a word of an answer of a form fits it at its index
fits_somewhere : (form : AnswerForm) (at : ℕ) (answer : List (List ℕ)) (w : List ℕ) → fits_from form at answer ≡ true
    → list_any (λ word. bytes_eq word w) answer ≡ true → (i : ℕ) × (fits form i w ≡ true)
fits_somewhere form at [] w fit is = absurd (clash is)
fits_somewhere form at (a ∷ answer) w fit is =
    let halves = both (fits form at a) (fits_from form (at + 1) answer) fit in
    somewhere form at a w halves.0 (bytes_eq a w) (list_any (λ word. bytes_eq word w) answer)
    (fits_somewhere form (at + 1) answer w halves.1) refl is

-- the kind of a word past the fifth one
no_kind : (form : AnswerForm) (k : ℕ) → (k == 0) ≡ false → (k == 1) ≡ false → (k == 2) ≡ false → (k == 3) ≡ false
    → (k == 4) ≡ false → kind_at form k ≡ None
no_kind form k a b c d e = rw a (rw b (rw c (rw d (rw e refl))))

not_past : (form : AnswerForm) (k : ℕ) (w : List ℕ) → fits form k w ≡ true → kind_at form k ≡ None → ⊥
unfolding fits
not_past form k w is none = clash (subst (λ (o : Option WordKind). is_of_some o w ≡ true) none is)

-- a word that fits a form at some index has a place in it
fitting_place : (form : AnswerForm) (k : ℕ) (w : List ℕ) → fits form k w ≡ true → has_place form w ≡ true
fitting_place form k w is = at_0 (k == 0) refl
  where
    here : (n : ℕ) → (k == n) ≡ true → fits form n w ≡ true
    here n e = subst (λ (m : ℕ). fits form m w ≡ true) (eqb-true k n e) is

    at_4 : (k == 0) ≡ false → (k == 1) ≡ false → (k == 2) ≡ false → (k == 3) ≡ false → (b : Bool) → (k == 4) ≡ b → has_place form w ≡ true
    at_4 a b c d true e = right (fits form 0 w || fits form 1 w || fits form 2 w || fits form 3 w) (fits form 4 w) (here 4 e)
    at_4 a b c d false e = absurd (not_past form k w is (no_kind form k a b c d e))

    at_3 : (k == 0) ≡ false → (k == 1) ≡ false → (k == 2) ≡ false → (b : Bool) → (k == 3) ≡ b → has_place form w ≡ true
    at_3 a b c true e =
        left (fits form 0 w || fits form 1 w || fits form 2 w || fits form 3 w) (fits form 4 w)
        (right (fits form 0 w || fits form 1 w || fits form 2 w) (fits form 3 w) (here 3 e))
    at_3 a b c false e = at_4 a b c e (k == 4) refl

    at_2 : (k == 0) ≡ false → (k == 1) ≡ false → (b : Bool) → (k == 2) ≡ b → has_place form w ≡ true
    at_2 a b true e =
        left (fits form 0 w || fits form 1 w || fits form 2 w || fits form 3 w) (fits form 4 w)
        (left (fits form 0 w || fits form 1 w || fits form 2 w) (fits form 3 w)
        (right (fits form 0 w || fits form 1 w) (fits form 2 w) (here 2 e)))
    at_2 a b false e = at_3 a b e (k == 3) refl

    at_1 : (k == 0) ≡ false → (b : Bool) → (k == 1) ≡ b → has_place form w ≡ true
    at_1 a true e =
        left (fits form 0 w || fits form 1 w || fits form 2 w || fits form 3 w) (fits form 4 w)
        (left (fits form 0 w || fits form 1 w || fits form 2 w) (fits form 3 w)
        (left (fits form 0 w || fits form 1 w) (fits form 2 w)
        (right (fits form 0 w) (fits form 1 w) (here 1 e))))
    at_1 a false e = at_2 a e (k == 2) refl

    at_0 : (b : Bool) → (k == 0) ≡ b → has_place form w ≡ true
    at_0 true e =
        left (fits form 0 w || fits form 1 w || fits form 2 w || fits form 3 w) (fits form 4 w)
        (left (fits form 0 w || fits form 1 w || fits form 2 w) (fits form 3 w)
        (left (fits form 0 w || fits form 1 w) (fits form 2 w)
        (left (fits form 0 w) (fits form 1 w) (here 0 e))))
    at_0 false e = at_1 e (k == 1) refl

-- a line with an answer of a form does not meet the condition
fails : (place : ConditionScope) (asked_words : List (List ℕ)) (line dom : List ℕ) (answer : List (List ℕ)) (form : AnswerForm)
    → IsForm form → HasItsWords place asked_words → may_be place asked_words ≡ false → begins_form form answer ≡ true
    → is_asked_answer place asked_words line dom answer ≡ false
unfolding may_begin may_have
fails place [] line dom answer form listed one never fit = absurd one
fails of_all (word ∷ other ∷ more) line dom answer form listed one never fit = absurd one
fails of_all (word ∷ []) line dom answer form listed one never fit =
    is_false (list_any (λ w. bytes_eq w word) answer) (λ is.
    let place = fits_somewhere form 0 answer word fit is in
    no_form (λ f. has_place f word) form listed never (fitting_place form place.0 word place.1))
fails (of_line number) (w ∷ ws) line dom answer form listed one never fit =
    second_false (bytes_eq line number) (begins answer (w ∷ ws)) (is_false (begins answer (w ∷ ws)) (λ is.
    no_form (λ f. begins_form f (w ∷ ws)) form listed never (begins_fits form 0 answer (w ∷ ws) fit is)))
fails (of_domain number) (w ∷ ws) line dom answer form listed one never fit =
    second_false (bytes_eq dom number) (begins answer (w ∷ ws)) (is_false (begins answer (w ∷ ws)) (λ is.
    no_form (λ f. begins_form f (w ∷ ws)) form listed never (begins_fits form 0 answer (w ∷ ws) fit is)))

-- no line with an answer meets the condition
line_fails : (place : ConditionScope) (asked_words : List (List ℕ)) (words : List (List ℕ)) → HasItsWords place asked_words
    → may_be place asked_words ≡ false → HasAnswer words
    → is_met_by (record { place = place; words = asked_words }) words ≡ false
unfolding is_met_by HasAnswer
line_fails place asked_words [] one never answered = refl
line_fails place asked_words (line ∷ []) one never answered = refl
line_fails place asked_words (line ∷ dom ∷ answer) one never answered =
    fails place asked_words line dom answer answered.0 answered.1 one never answered.2

lines_fail : (asked : Asked) (lines : List (List ℕ)) → HasItsWords asked.place asked.words → may_be asked.place asked.words ≡ false
    → ((at : ℕ) (line : List ℕ) → slice_get lines at ≡ Some line → HasAnswer (line_words line)) → is_met_in asked lines ≡ false
lines_fail asked [] one never each = refl
lines_fail asked (line ∷ lines) one never each =
    neither (is_met_by asked (line_words line)) (is_met_in asked lines)
    (line_fails asked.place asked.words (line_words line) one never (each zero line refl))
    (lines_fail asked lines one never (λ at l is. each (suc at) l is))

pub never_met : (asked : Asked) → IsNeverMet asked
never_met asked one never text each = lines_fail asked (lines_in text) one never each

-- two lists of words with which one answer begins agree
begins_agree : (answer words others : List (List ℕ)) → begins answer words ≡ true → begins answer others ≡ true
    → agree words others ≡ true
begins_agree answer [] others p q = refl
begins_agree answer (w ∷ ws) [] p q = refl
begins_agree [] (w ∷ ws) (o ∷ os) p q = absurd (clash p)
begins_agree (a ∷ answer) (w ∷ ws) (o ∷ os) p q =
    let f = both (bytes_eq a w) (begins answer ws) p in
    let s = both (bytes_eq a o) (begins answer os) q in
    let same : w ≡ o = sym ((bytes_eq-Decides a w).0 f.0) ∙ (bytes_eq-Decides a o).0 s.0 in
    two (bytes_eq w o) (agree ws os) ((bytes_eq-Decides w o).1 same) (begins_agree answer ws os f.1 s.1)

not_agreed : (b : Bool) → not b ≡ true → b ≡ true → ⊥
not_agreed true p q = clash p
not_agreed false p q = clash q

-- one answer meets both only if they agree
both_asked : (one other : ConditionScope) (words others : List (List ℕ)) (line dom : List ℕ) (answer : List (List ℕ))
    → excludes_at one other words others ≡ true → is_asked_answer one words line dom answer ≡ true
    → is_asked_answer other others line dom answer ≡ true → ⊥
both_asked (of_line n) (of_line m) words others line dom answer e p q =
    not_agreed (agree words others) (both (bytes_eq n m) (not (agree words others)) e).1
    (begins_agree answer words others (both (bytes_eq line n) (begins answer words) p).1
    (both (bytes_eq line m) (begins answer others) q).1)
both_asked of_all other words others line dom answer e p q = clash e
both_asked (of_domain n) other words others line dom answer e p q = clash e
both_asked (of_line n) of_all words others line dom answer e p q = clash e
both_asked (of_line n) (of_domain m) words others line dom answer e p q = clash e

pub never_both : (one other : Asked) → AreNeverBothMet one other
unfolding is_met_by
never_both one other e [] p = absurd (clash p)
never_both one other e (line ∷ []) p = absurd (clash p)
never_both one other e (line ∷ dom ∷ answer) p =
    is_false (is_asked_answer other.place other.words line dom answer)
    (λ q. both_asked one.place other.place one.words other.words line dom answer e p q)

-- a line that meets a condition
record MetAt (asked : Asked) (lines : List (List ℕ)) : Type 0 where
  at : ℕ
  line : List ℕ
  there : slice_get lines at ≡ Some line
  meets : is_met_by asked (line_words line) ≡ true

met_at : (asked : Asked) (lines : List (List ℕ)) → is_met_in asked lines ≡ true → MetAt asked lines
met_at asked [] is = absurd (clash is)
met_at asked (line ∷ lines) is = by (met_at asked lines) (is_met_by asked (line_words line)) refl is
  where
    by : (is_met_in asked lines ≡ true → MetAt asked lines) → (b : Bool) → is_met_by asked (line_words line) ≡ b
        → (b || is_met_in asked lines) ≡ true → MetAt asked (line ∷ lines)
    by rest true here is = record { at = 0; line = line; there = refl; meets = here }
    by rest false here is =
        let m = rest is in record { at = suc m.at; line = m.line; there = m.there; meets = m.meets }

-- lines that meet two conditions of which one excludes the other answer the same line
one_line : (one other : ConditionScope) (words others : List (List ℕ)) (line dom line' dom' : List ℕ)
    (answer answer' : List (List ℕ)) → excludes_at one other words others ≡ true
    → is_asked_answer one words line dom answer ≡ true → is_asked_answer other others line' dom' answer' ≡ true
    → line ≡ line'
one_line (of_line n) (of_line m) words others line dom line' dom' answer answer' e p q =
    (bytes_eq-Decides line n).0 (both (bytes_eq line n) (begins answer words) p).0
    ∙ ((bytes_eq-Decides n m).0 (both (bytes_eq n m) (not (agree words others)) e).0
    ∙ sym ((bytes_eq-Decides line' m).0 (both (bytes_eq line' m) (begins answer' others) q).0))
one_line of_all other words others line dom line' dom' answer answer' e p q = absurd (clash e)
one_line (of_domain n) other words others line dom line' dom' answer answer' e p q = absurd (clash e)
one_line (of_line n) of_all words others line dom line' dom' answer answer' e p q = absurd (clash e)
one_line (of_line n) (of_domain m) words others line dom line' dom' answer answer' e p q = absurd (clash e)

answer_one_line : (one other : Asked) (words others : List (List ℕ)) → excludes one other ≡ true
    → is_met_by one words ≡ true → is_met_by other others ≡ true → AnswerOneLine words others
unfolding is_met_by
answer_one_line one other [] others e p q = absurd (clash p)
answer_one_line one other (line ∷ []) others e p q = absurd (clash p)
answer_one_line one other (line ∷ dom ∷ answer) [] e p q = absurd (clash q)
answer_one_line one other (line ∷ dom ∷ answer) (line' ∷ []) e p q = absurd (clash q)
answer_one_line one other (line ∷ dom ∷ answer) (line' ∷ dom' ∷ answer') e p q =
    one_line one.place other.place one.words other.words line dom line' dom' answer answer' e p q

pub never_both_satisfied : (one other : Asked) → AreNeverBothSatisfied one other
never_both_satisfied one other e text each p = is_false (is_met_in other (lines_in text)) (λ q.
    let m = met_at one (lines_in text) p in
    let n = met_at other (lines_in text) q in
    let same = each m.at n.at m.line n.line m.there n.there
    (answer_one_line one other (line_words m.line) (line_words n.line) e m.meets n.meets) in
    clash (sym (never_both one other e (line_words m.line) m.meets)
    ∙ subst (λ (l : List ℕ). is_met_by other (line_words l) ≡ true) (sym same) n.meets))

-- a call can answer with words with which one of its answers begins
may_answer_so : (call : CallName) (form : AnswerForm) (answer words : List (List ℕ)) → IsFormOfCall call form
    → begins_form form answer ≡ true → begins answer words ≡ true → may_answer call words ≡ true
unfolding may_answer
may_answer_so call form answer words one fit is =
    any_at (λ f. begins_form f words) (forms_of call) one.0 form one.1 (begins_fits form 0 answer words fit is)

-- an answer to a call that a condition is about begins with its words only if one of these calls can answer so
answered_so : (calls : List PlacedCall) (place : ConditionScope) (words : List (List ℕ)) (at : ℕ) (p : PlacedCall)
    (line dom : List ℕ) (answer : List (List ℕ)) → slice_get calls at ≡ Some p → IsAnswerToCall p line dom answer
    → is_answered place words calls ≡ false → is_call_at place p ≡ true → begins answer words ≡ true → ⊥
answered_so calls place words at p line dom answer there to none here is =
    clash (sym none ∙ any_at (λ q. is_call_at place q && may_answer q.call words) calls at p there
    (two (is_call_at place p) (may_answer p.call words) here (may_answer_so p.call to.form answer words to.possible to.fits is)))

-- no answer to these calls meets the condition
unmet : (calls : List PlacedCall) (place : ConditionScope) (words : List (List ℕ)) (at : ℕ) (p : PlacedCall)
    (line dom : List ℕ) (answer : List (List ℕ)) → slice_get calls at ≡ Some p → IsAnswerToCall p line dom answer
    → IsOfPlace place → is_answered place words calls ≡ false → is_asked_answer place words line dom answer ≡ false
unmet calls of_all words at p line dom answer there to placed none = absurd placed
unmet calls (of_line number) words at p line dom answer there to placed none =
    is_false (bytes_eq line number && begins answer words) (λ is.
    let b = both (bytes_eq line number) (begins answer words) is in
    answered_so calls (of_line number) words at p line dom answer there to none
    (subst (λ (l : List ℕ). bytes_eq l number ≡ true) to.on_line b.0) b.1)
unmet calls (of_domain number) words at p line dom answer there to placed none =
    is_false (bytes_eq dom number && begins answer words) (λ is.
    let b = both (bytes_eq dom number) (begins answer words) is in
    answered_so calls (of_domain number) words at p line dom answer there to none
    (subst (λ (l : List ℕ). bytes_eq l number ≡ true) to.by_dom b.0) b.1)

line_unmet : (calls : List PlacedCall) (place : ConditionScope) (asked_words : List (List ℕ)) (words : List (List ℕ))
    → IsOfPlace place → is_answered place asked_words calls ≡ false → HasAnswerOf calls words
    → is_met_by (record { place = place; words = asked_words }) words ≡ false
unfolding is_met_by HasAnswerOf
line_unmet calls place asked_words [] placed none answered = refl
line_unmet calls place asked_words (line ∷ []) placed none answered = refl
line_unmet calls place asked_words (line ∷ dom ∷ answer) placed none answered =
    unmet calls place asked_words answered.0 answered.1 line dom answer answered.2 answered.3 placed none

lines_unmet : (calls : List PlacedCall) (asked : Asked) (lines : List (List ℕ)) → IsOfPlace asked.place
    → is_answered asked.place asked.words calls ≡ false
    → ((at : ℕ) (line : List ℕ) → slice_get lines at ≡ Some line → HasAnswerOf calls (line_words line))
    → is_met_in asked lines ≡ false
lines_unmet calls asked [] placed none each = refl
lines_unmet calls asked (line ∷ lines) placed none each =
    neither (is_met_by asked (line_words line)) (is_met_in asked lines)
    (line_unmet calls asked.place asked.words (line_words line) placed none (each zero line refl))
    (lines_unmet calls asked lines placed none (λ at l is. each (suc at) l is))

pub never_answered : (calls : List PlacedCall) (asked : Asked) → IsNeverAnswered calls asked
never_answered calls asked placed none text each = lines_unmet calls asked (lines_in text) placed none each
