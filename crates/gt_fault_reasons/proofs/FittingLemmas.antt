-- How far the words of a line fit.
use Rattle.std.proofs.Common.{◌≡◌, ◌<◌, ◌≤◌, ◌+◌, ℕ, zero, suc, List, [], ◌∷◌, ◌++◌, map, take, length, max, get_or}
use Rattle.std.proofs.Common.{drop, refl, ap, sym, subst, ◌∙◌, arith, Bool, true, false, ◌&&◌, ◌⊎◌, inl, inr, Some, slice_get}
use Rattle.std.specs.List.{list_all}
use Rattle.std.specs.Prelude.{is_some}
use Rattle.std.proofs.lemmas.Bool.{cases_lt}
use Rattle.std.proofs.lemmas.List.{map-append, take_more}
use Rattle.std.proofs.lemmas.Option.{none-some, same_Some}
use Rattle.gt_types.specs.Names.{permission_of}
use Rattle.gt_script_lines.specs.Lines.{line_of, triple_of, wear_of, domain_line_of, body_of}
use Rattle.gt_script_lines.specs.CallNames.{as_name}
use Rattle.gt_script_lines.specs.Body.{body_line_of, flag_line_of, flag_of, tick_of}
use Rattle.gt_script_lines.specs.Calls.{access_of, call_line_of, copy_end_of, copy_of, entry_of_kind, grant_bytes_of, grant_flag}
use Rattle.gt_script_lines.specs.Calls.{grant_of, load_of, map_of, only_domain, only_number, only_reference, page_of, peek_of, poke_of}
use Rattle.gt_script_lines.specs.Calls.{store_of, sub_of, table_of, unmap_of, via_of}
use Rattle.gt_script_lines.specs.Fields.{at_colon, domain_word, flags_word, generation_word, label_word, mode_word, name_word}
use Rattle.gt_script_lines.specs.Fields.{reference_word, tick_word, type_word, u16_word, u32_word, u64_word}
use Rattle.gt_script_lines.specs.Hexadecimal.{hex_word}
use Rattle.gt_script_lines.specs.Numbers.{decimal_number}
use Rattle.gt_script_lines.specs.Words.{words as words_in}
use Rattle.gt_fault_reasons.specs.declared.forms.TheConstants.{FORMS}
use Rattle.gt_fault_reasons.specs.Fitting.{example_of, example_word, examples, fits_example, FitMost, IsFitting, IsMisfit}

clash : (b : Bool) → b ≡ true → b ≡ false → ⊥
clash b is isnt = cc

-- no two counts fit the same example
further : (words example : List (List ℕ)) (one other : ℕ) → IsFitting words example one → IsFitting words example other → other < one → ⊥
further words example one other p q more =
    clash (fits_example words example (other + 1)) (p.fit other more) (q.no_more (omega (arith, p.within.0, more)) (omega (arith, p.within.1, more)))

unique : (words example : List (List ℕ)) (one other : ℕ) → IsFitting words example one → IsFitting words example other → one ≤ other
unique words example one other p q = by (cases_lt other one)
  where
    by : (other < one) ⊎ (one ≤ other) → one ≤ other
    by (inl more) = absurd (further words example one other p q more)
    by (inr few) = few

-- this many words fit one of these
abbrev FitSome : List (List (List ℕ)) → List (List ℕ) → ℕ → Type 0
FitSome among words most = (at : ℕ) × (example : List (List ℕ)) × (slice_get among at ≡ Some example) × IsFitting words example most

pub begun : (words : List (List ℕ)) → FitMost [] words 0
begun words = record { found = inl (refl, refl); furthest = λ at other more there fit. absurd (none-some other there) }

larger : (among : List (List (List ℕ))) (words : List (List ℕ)) (most count now : ℕ) → now ≡ max most count → FitSome among words most → FitSome among words count → FitSome among words now
larger among words most count now is one other = by (cases_lt most count)
  where
    by : (most < count) ⊎ (count ≤ most) → FitSome among words now
    by (inl more) = let same : count ≡ now = omega arith in subst (FitSome among words) same other
    by (inr few) = let same : most ≡ now = omega arith in subst (FitSome among words) same one

at_end : (among : List (List (List ℕ))) (example : List (List ℕ)) → slice_get (among ++ example ∷ []) (length among) ≡ Some example
at_end [] example = refl
at_end (one ∷ more) example = at_end more example

before_end : (among : List (List (List ℕ))) (example other : List (List ℕ)) (at : ℕ) → slice_get among at ≡ Some other → slice_get (among ++ example ∷ []) at ≡ Some other
before_end [] example other at there = absurd (none-some other there)
before_end (one ∷ more) example other zero there = there
before_end (one ∷ more) example other (suc at) there = before_end more example other at there

-- an example of a longer list is one of the shorter list, or the last one
which : (among : List (List (List ℕ))) (example other : List (List ℕ)) (at : ℕ) → slice_get (among ++ example ∷ []) at ≡ Some other → (slice_get among at ≡ Some other) ⊎ (other ≡ example)
which [] example other zero there = inr (sym (same_Some example other there))
which [] example other (suc at) there = absurd (none-some other there)
which (one ∷ more) example other zero there = inl there
which (one ∷ more) example other (suc at) there = which more example other at there

found_next : (among : List (List (List ℕ))) (words example : List (List ℕ)) (most count now : ℕ) → now ≡ max most count → ((among ≡ []) × (most ≡ 0)) ⊎ FitSome among words most → IsFitting words example count
    → FitSome (among ++ example ∷ []) words now
found_next among words example most count now is (inl (_, none)) fit =
    let same : count ≡ now = omega (arith, none, is) in
    subst (FitSome (among ++ example ∷ []) words) same (length among, example, at_end among example, fit)
found_next among words example most count now is (inr (at, other, there, fitting)) fit =
    larger (among ++ example ∷ []) words most count now is (at, other, before_end among example other at there, fitting) (length among, example, at_end among example, fit)

-- with one more example
more_tried : (among : List (List (List ℕ))) (words example : List (List ℕ)) (most count now : ℕ) → now ≡ max most count → FitMost among words most → IsFitting words example count → FitMost (among ++ example ∷ []) words now
more_tried among words example most count now is tried fit = record {
  found = inr (found_next among words example most count now is tried.found fit);
  furthest = λ at other more there further. by at other more further (which among example other at there);
}
  where
    by : (at : ℕ) (other : List (List ℕ)) (more : ℕ) → IsFitting words other more → (slice_get among at ≡ Some other) ⊎ (other ≡ example) → more ≤ now
    by at other more further (inl there) = let few : more ≤ most = tried.furthest at other more there further in omega (arith, few, is)
    by at other more further (inr same) =
        let few : more ≤ count = unique words example more count (subst (λ (e : List (List ℕ)). IsFitting words e more) same further) fit in
        omega (arith, few, is)

-- the same for the next of a list of forms
pub fitted_next : {X : Type 0} (text : X → List ℕ) (forms : List X) (index : ℕ) (words : List (List ℕ)) (form : X) (most count now : ℕ) → now ≡ max most count → index < length forms
    → FitMost (map example_of (map text (take index forms))) words most → IsFitting words (example_of (text (get_or forms index form))) count → FitMost (map example_of (map text (take (index + 1) forms))) words now
fitted_next {X = X} text forms index words form most count now is below tried fit =
    let more : map example_of (map text (take (index + 1) forms)) ≡ map example_of (map text (take index forms)) ++ example_of (text (get_or forms index form)) ∷ [] =
    ap (λ (l : List X). map example_of (map text l)) (take_more forms index form below)
    ∙ ap (map example_of) (map-append text (take index forms) (get_or forms index form ∷ []))
    ∙ map-append example_of (map text (take index forms)) (text (get_or forms index form) ∷ []) in
    subst (λ (l : List (List (List ℕ))). FitMost l words now) (sym more) (more_tried _ words _ most count now is tried fit)

both : (a b : Bool) → (a && b) ≡ true → (a ≡ true) × (b ≡ true)
both true b is = (refl, is)
both false b is = absurd (cc is)

all_at : (p : List (List ℕ) → Bool) (xs : List (List (List ℕ))) (at : ℕ) (x : List (List ℕ)) → list_all p xs ≡ true → slice_get xs at ≡ Some x → p x ≡ true
all_at p [] at x all there = absurd (none-some x there)
all_at p (y ∷ ys) zero x all there = subst (λ (z : List (List ℕ)). p z ≡ true) (same_Some y x there) (both (p y) (list_all p ys) all).0
all_at p (y ∷ ys) (suc at) x all there = all_at p ys at x (both (p y) (list_all p ys) all).1 there

-- each form has an example that can be read
can_be_read : list_all (λ e. is_some (line_of e)) examples ≡ true
unfolding examples example_of as_name permission_of triple_of wear_of domain_line_of body_of body_line_of flag_line_of flag_of tick_of access_of call_line_of copy_end_of copy_of entry_of_kind grant_bytes_of grant_flag grant_of load_of map_of only_domain only_number only_reference page_of peek_of poke_of store_of sub_of table_of unmap_of via_of at_colon domain_word flags_word generation_word label_word mode_word name_word reference_word tick_word type_word u16_word u32_word u64_word hex_word decimal_number
can_be_read = refl

no_examples : examples ≡ [] → ⊥
unfolding examples
no_examples none = absurd (cc none)

-- a line of the words of a form is an example of it
pub of_form : (words example : List (List ℕ)) (form : List ℕ) (forms : List (List ℕ)) (count : ℕ) → forms ≡ words_in form → example ≡ map example_word forms → IsFitting words example count → IsFitting words (example_of form) count
unfolding example_of
of_form words example form forms count of made fit =
    subst (λ (e : List (List ℕ)). IsFitting words e count) (made ∙ ap (map example_word) of) fit

-- after all examples
misfit : (words : List (List ℕ)) (most : ℕ) → FitMost examples words most → IsMisfit words most
misfit words most tried = by tried.found
  where
    by : ((examples ≡ []) × (most ≡ 0)) ⊎ FitSome examples words most → IsMisfit words most
    by (inl (none, _)) = absurd (no_examples none)
    by (inr (at, example, there, fit)) = record {
      example = example;
      of_form = (at, there);
      readable = all_at (λ e. is_some (line_of e)) examples at example can_be_read there;
      fitting = fit;
      furthest = λ other more one further. tried.furthest one.0 other more one.1 further;
    }

pub misfit_of : (words : List (List ℕ)) (most : ℕ) → FitMost (map example_of (map (λ form. form.now) FORMS)) words most → IsMisfit words most
unfolding examples
misfit_of words most tried = misfit words most tried

-- what a line of words says, and what is seen of its words

map_take : {X : Type 0} (now : X → List ℕ) (n : ℕ) (xs : List X) → map now (take n xs) ≡ take n (map now xs)
map_take now zero xs = refl
map_take now (suc n) [] = refl
map_take now (suc n) (x ∷ xs) = ap (λ (l : List (List ℕ)). now x ∷ l) (map_take now n xs)

map_drop : {X : Type 0} (now : X → List ℕ) (n : ℕ) (xs : List X) → map now (drop n xs) ≡ drop n (map now xs)
map_drop now zero xs = refl
map_drop now (suc n) [] = refl
map_drop now (suc n) (x ∷ xs) = map_drop now n xs

pub fitted : {X : Type 0} (now : X → List ℕ) (line words example : List X) (n : ℕ) → line ≡ take n words ++ drop n example
    → is_some (line_of (map now line)) ≡ fits_example (map now words) (map now example) n
fitted {X = X} now line words example n is =
    let front : map now (take n words) ++ map now (drop n example) ≡ take n (map now words) ++ map now (drop n example) =
    ap (λ (l : List (List ℕ)). l ++ map now (drop n example)) (map_take now n words) in
    let back : take n (map now words) ++ map now (drop n example) ≡ take n (map now words) ++ drop n (map now example) =
    ap (λ (l : List (List ℕ)). take n (map now words) ++ l) (map_drop now n example) in
    ap (λ (l : List X). is_some (line_of (map now l))) is
    ∙ ap (λ (l : List (List ℕ)). is_some (line_of l)) (map-append now (take n words) (drop n example) ∙ front ∙ back)
