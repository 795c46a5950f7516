-- From the texts of each choice to those of all.
use Rattle.std.proofs.Common.{◌≡◌, ◌∙◌, ◌⊎◌, ◌++◌, ◌<◌, ◌+◌, ℕ, zero, suc, Bool, true, false, List, [], ◌∷◌, All, Option, Some, Ok}
use Rattle.std.proofs.Common.{Err, Global, IfNone, IfOk, None, Result, Vec}
use Rattle.std.proofs.Common.{ap, arith, below_more, length, map, refl, slice_get, subst, sym, inl, inr}
use Rattle.std.specs.Option.{option_map}
use Rattle.std.specs.List.Sorted.{IsPermutation}
use Rattle.std.proofs.lemmas.List.{map-append}
use Rattle.std.proofs.lemmas.List.Elements.{All-append, All-nil, All-weaker}
use Rattle.std.proofs.lemmas.List.Sorted.{IsPermutation-sym}
use Rattle.std.proofs.lemmas.Option.{get_or_from_slice_get, none-some, same_Some, slice_get-map, slice_get_within}
use Rattle.gt_explore.proofs.Added.{ascending_apart, moved}
use Rattle.gt_explore_answers.specs.Exploring.{AreTextsOf}
use Rattle.gt_explore_answers.specs.Outputs.{Found}
use Rattle.gt_explore_answers.specs.Texts.{AreAscending, IsTextAmong, texts_of_orders}
use Rattle.gt_explore_choices.specs.Choices.{IsOneOf, IsChoiceOf}
use Rattle.gt_explore_replay.specs.Orders.{MayGive}
use Rattle.gt_explore_search.specs.declared.exploring.FoundText.{FoundText}
use Rattle.gt_explore_by_choice.specs.Gathering.{AreFoundFor, AreGatheredTexts, AreUnited, HasTextsOf, IsNoScript, IsScriptAt, is_stuck}
use Rattle.gt_explore_by_choice.specs.Possible.{IsScriptByChoice, MayGiveAmong, MayGiveByChoice}
use Rattle.gt_script.specs.RunContents.{RunContents}
use Rattle.gt_script.specs.RunScripts.{ReadsAsRun, RunAnswers}
use Rattle.gt_script.specs.Script.{Wrong, in_script}
use Rattle.gt_script.specs.declared.faults.ScriptError.{ScriptError}
use Rattle.gt_script.specs.declared.faults.ScriptError.TheVariants as script_errors

-- ---- lists

-- what holds of each holds of one
pub given : {X : Type 0} (P : X → Type 0) (xs : List X) (at : ℕ) (x : X) → All P xs → slice_get xs at ≡ Some x → P x
given P xs at x all is = subst P (get_or_from_slice_get xs at x x is) (all at x (slice_get_within xs at x is))

among_front : (t : List ℕ) (ts us : List (List ℕ)) → IsTextAmong t ts → IsTextAmong t (ts ++ us)
among_front t [] us (at, is) = absurd (none-some t is)
among_front t (v ∷ ts) us (zero, is) = (zero, is)
among_front t (v ∷ ts) us (suc at, is) = let r = among_front t ts us (at, is) in (suc r.0, r.1)

among_back : (t : List ℕ) (ts us : List (List ℕ)) → IsTextAmong t us → IsTextAmong t (ts ++ us)
among_back t [] us there = there
among_back t (v ∷ ts) us there = let r = among_back t ts us there in (suc r.0, r.1)

texts_append : (old more : List FoundText) → texts_of_orders (old ++ more) ≡ texts_of_orders old ++ texts_of_orders more
texts_append old more = map-append (λ (q : FoundText). q.text.items) old more

-- the text of an order among these is among their texts
pub text_among : (os : List FoundText) (at : ℕ) (o : FoundText) → slice_get os at ≡ Some o → IsTextAmong o.text.items (texts_of_orders os)
text_among os at o is =
    (at, slice_get-map (λ (q : FoundText). q.text.items) os at ∙ ap (option_map (λ (q : FoundText). q.text.items)) is)

-- and a text among theirs is that of an order
pub order_among : (os : List FoundText) (t : List ℕ) → IsTextAmong t (texts_of_orders os) → (at : ℕ) × (o : FoundText) × (slice_get os at ≡ Some o) × (o.text.items ≡ t)
order_among [] t (at, is) = absurd (none-some t is)
order_among (o ∷ os) t (zero, is) = (zero, o, refl, same_Some o.text.items t is)
order_among (o ∷ os) t (suc at, is) = let r = order_among os t (at, is) in (suc r.0, r.1, r.2, r.3)

-- texts in another order
pub among_moved : (xs ys : List FoundText) (t : List ℕ) → IsPermutation xs ys → IsTextAmong t (texts_of_orders xs) → IsTextAmong t (texts_of_orders ys)
among_moved xs ys t moves there =
    let o = order_among xs t there in
    let m = moved xs ys o.0 o.1 moves o.2 in
    subst (λ (u : List ℕ). IsTextAmong u (texts_of_orders ys)) o.3 (text_among ys m.0 o.1 m.1)

-- the texts of orders that were sorted
pub moved_among : {E : Type 0} (r : Result (Vec FoundText Global) E) (orders sorted : List FoundText) → IsPermutation orders sorted
    → IfOk r (λ texts. All (λ t. IsTextAmong t (texts_of_orders sorted)) (texts_of_orders texts.items))
    → IfOk r (λ texts. All (λ t. IsTextAmong t (texts_of_orders orders)) (texts_of_orders texts.items))
moved_among (Err e) orders sorted moves all = tt
moved_among (Ok texts) orders sorted moves all =
    All-weaker (λ t. IsTextAmong t (texts_of_orders sorted)) (λ t. IsTextAmong t (texts_of_orders orders)) (λ t m. among_moved sorted orders t (IsPermutation-sym orders sorted moves) m) (texts_of_orders texts.items) all

pub moved_whole : {E : Type 0} (r : Result (Vec FoundText Global) E) (orders sorted : List FoundText) (text : List ℕ) → IsPermutation orders sorted
    → ((at : ℕ) (o : FoundText) → slice_get sorted at ≡ Some o → IfOk r (λ texts. IsTextAmong o.text.items (texts_of_orders texts.items)))
    → IsTextAmong text (texts_of_orders orders) → IfOk r (λ texts. IsTextAmong text (texts_of_orders texts.items))
moved_whole r orders sorted text moves each there =
    let o = order_among sorted text (among_moved orders sorted text moves there) in
    subst (λ (u : List ℕ). IfOk r (λ texts. IsTextAmong u (texts_of_orders texts.items))) o.3 (each o.0 o.1 o.2)

-- ---- one choice

same_script : (c d : RunContents) (one other : Result RunContents Wrong) → one ≡ other → one ≡ Ok d → other ≡ Ok c → d ≡ c
same_script c d one other e f g = cc

-- these texts were found for the one script that a text is
pub found_for : (text : List ℕ) (c : RunContents) (f : Found) → ((bytes : List ℕ) (one other : Result RunContents Wrong) → ReadsAsRun bytes one → ReadsAsRun bytes other → one ≡ other)
    → ReadsAsRun text (Ok c) → AreTextsOf c f → AreFoundFor text f
found_for text c f once reads are = (c, reads, are, λ d r. same_script c d (Ok d) (Ok c) (once text (Ok d) (Ok c) r reads) refl refl)

-- a text in which a domain waits for ever is no script
pub stuck_none : (text : List ℕ) (error : ScriptError) → ((bytes : List ℕ) (one other : Result RunContents Wrong) → ReadsAsRun bytes one → ReadsAsRun bytes other → one ≡ other)
    → is_stuck error ≡ true → RunAnswers (Err error) (ReadsAsRun text) → IsNoScript text
stuck_none text script_errors.Memory once stuck told = absurd (cc)
stuck_none text (script_errors.Policy f) once stuck told = absurd (cc)
stuck_none text (script_errors.Fault f) once stuck told = λ c r. let clash = once text (Ok c) (Err (in_script f)) r told in absurd (cc)

-- what holds if an option has nothing
pub none_holds : {X : Type 0} (P : Type 0) (o : Option X) → IfNone o P → o ≡ None → P
none_holds P o holds is = subst (λ p. IfNone p P) is holds

-- ---- one choice more

-- nothing is found for no choice
pub gathered_none : (choices : List (List ℕ)) → AreGatheredTexts choices 0 [] true 0
gathered_none choices = record {
  possible = All-nil (MayGiveAmong choices);
  each = λ whole at lt. absurd (omega arith);
  scripts = λ whole none at lt. absurd (omega arith);
}

-- what was found until a search ended is found for all choices, and is not all
pub gathered_partly : (choices : List (List ℕ)) (upto all : ℕ) (orders : List FoundText) (whole : Bool) (waiting : ℕ) → whole ≡ false
    → AreGatheredTexts choices upto orders whole waiting → AreGatheredTexts choices all orders whole waiting
gathered_partly choices upto all orders whole waiting part g = record {
  possible = g.possible;
  each = λ is at lt. absurd (cc);
  scripts = λ is none at lt. absurd (cc);
}

-- the searches met all states
pub gathered_upto : (choices : List (List ℕ)) (upto all : ℕ) (orders : List FoundText) (whole : Bool) (waiting : ℕ) → upto ≡ all
    → AreGatheredTexts choices upto orders whole waiting → AreGatheredTexts choices all orders whole waiting
gathered_upto choices upto all orders whole waiting is g = subst (λ (n : ℕ). AreGatheredTexts choices n orders whole waiting) is g

may_among : (choices : List (List ℕ)) (at : ℕ) (choice : List ℕ) (c : RunContents) (texts : List (List ℕ)) → slice_get choices at ≡ Some choice → ReadsAsRun choice (Ok c)
    → All (MayGive c) texts → All (MayGiveAmong choices) texts
may_among choices at choice c texts is reads may =
    All-weaker (MayGive c) (MayGiveAmong choices) (λ t m. (at, choice, c, is, reads, m)) texts may

-- the texts of one more choice
pub gathered_found : (choices : List (List ℕ)) (at : ℕ) (choice : List ℕ) (f : Found) (old more new : List FoundText) (whole : Bool) (waiting before : ℕ) (was : Bool)
    → was ≡ true → AreGatheredTexts choices at old was before → slice_get choices at ≡ Some choice → AreFoundFor choice f → f.texts ≡ texts_of_orders more → new ≡ old ++ more → whole ≡ f.whole → waiting ≡ before
    → AreGatheredTexts choices (at + 1) new whole waiting
gathered_found choices at choice f old more new whole waiting before was all g is (c, reads, are, only) texts joins w same = record {
  possible = subst (All (MayGiveAmong choices)) (sym joined) (All-append (MayGiveAmong choices) (texts_of_orders old) (texts_of_orders more) g.possible (subst (All (MayGiveAmong choices)) texts (may_among choices at choice c f.texts is reads are.possible)));
  each = λ v. below_more (HasTextsOf choices new) at (λ k lt. before_it k (g.each all k lt)) (here (sym w ∙ v));
  scripts = λ v none. below_more (IsScriptAt choices) at (g.scripts all (sym same ∙ none)) (λ other e. (c, subst (λ (t : List ℕ). ReadsAsRun t (Ok c)) (same_Some choice other (sym is ∙ e)) reads));
}
  where
    joined : texts_of_orders new ≡ texts_of_orders old ++ texts_of_orders more
    joined = ap texts_of_orders joins ∙ texts_append old more

    before_it : (k : ℕ) → HasTextsOf choices old k → HasTextsOf choices new k
    before_it k h other text d e r m =
        subst (IsTextAmong text) (sym joined) (among_front text (texts_of_orders old) (texts_of_orders more) (h other text d e r m))

    here : f.whole ≡ true → HasTextsOf choices new at
    here v other text d e r m =
        let d_is : d ≡ c = only d (subst (λ (t : List ℕ). ReadsAsRun t (Ok d)) (sym (same_Some choice other (sym is ∙ e))) r) in
        let there : IsTextAmong text f.texts = are.whole v text (subst (λ (b : RunContents). MayGive b text) d_is m) in
        subst (IsTextAmong text) (sym joined) (among_back text (texts_of_orders old) (texts_of_orders more) (subst (IsTextAmong text) texts there))

-- a choice more in which a domain waits for ever
pub gathered_stuck : (choices : List (List ℕ)) (at : ℕ) (choice : List ℕ) (orders : List FoundText) (whole : Bool) (waiting before : ℕ) → whole ≡ true → AreGatheredTexts choices at orders true before
    → slice_get choices at ≡ Some choice → IsNoScript choice → 0 < waiting → AreGatheredTexts choices (at + 1) orders whole waiting
gathered_stuck choices at choice orders whole waiting before all g is never some = record {
  possible = g.possible;
  each = λ v. below_more (HasTextsOf choices orders) at (g.each refl) (λ other text d e r m. absurd (never d (subst (λ (t : List ℕ). ReadsAsRun t (Ok d)) (sym (same_Some choice other (sym is ∙ e))) r)));
  scripts = λ v none. absurd (omega arith);
}

-- ---- all choices

-- the texts of all choices, each once
pub all_united : (source : List ℕ) (choices : List (List ℕ)) (orders : List FoundText) (f : Found) (whole : Bool) (waiting given_waiting : ℕ)
    → AreGatheredTexts choices (length choices) orders whole given_waiting → All (λ t. IsTextAmong t (texts_of_orders orders)) f.texts
    → ((text : List ℕ) → IsTextAmong text (texts_of_orders orders) → IsTextAmong text f.texts) → AreAscending f.texts → f.whole ≡ whole → waiting ≡ given_waiting
    → All (IsChoiceOf source) choices → ((text : List ℕ) → IsChoiceOf source text → IsOneOf text choices) → AreUnited source f waiting
all_united source choices orders f whole waiting given_waiting g among every ascending w same each all = record {
  texts = record {
    possible = All-weaker (λ t. IsTextAmong t (texts_of_orders orders)) (MayGiveByChoice source) possible f.texts among;
    whole = λ v text may. every text (there v text may);
    apart = ascending_apart f.texts ascending;
    ascending = ascending;
  };
  scripts = λ v none choice is. let a = all choice is in g.scripts (sym w ∙ v) (sym same ∙ none) a.0 (slice_get_within choices a.0 choice a.1) choice a.1;
}
  where
    by_choice : (text : List ℕ) → MayGiveAmong choices text → MayGiveByChoice source text
    by_choice text (at, choice, c, is, reads, may) = (c, (choice, given (IsChoiceOf source) choices at choice each is, reads), may)

    possible : (text : List ℕ) → IsTextAmong text (texts_of_orders orders) → MayGiveByChoice source text
    possible text (at, is) = by_choice text (given (MayGiveAmong choices) (texts_of_orders orders) at text g.possible is)

    there : f.whole ≡ true → (text : List ℕ) → MayGiveByChoice source text → IsTextAmong text (texts_of_orders orders)
    there v text (c, (choice, is, reads), may) =
        let a = all choice is in
        g.each (sym w ∙ v) a.0 (slice_get_within choices a.0 choice a.1) choice text c a.1 reads may
