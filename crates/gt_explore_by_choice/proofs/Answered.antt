-- The answers to requests about a script with choices.
use Rattle.std.proofs.Common.{◌≡◌, ◌≢◌, ◌∙◌, ◌⊎◌, ◌+◌, ◌++◌, ℕ, zero, suc, Bool, true, false, List, [], ◌∷◌, All, Option, Some, None, ap}
use Rattle.std.proofs.Common.{Global, IfSome, Vec}
use Rattle.std.proofs.Common.{arith, IfOk, Result, Ok, Err, refl, slice_get, subst, sym, inl, inr}
use Rattle.std.proofs.Math.Bool.{cond}
use Rattle.std.specs.Prelude.{is_some}
use Rattle.std.specs.List.{position_from}
use Rattle.std.specs.Str.{bytes_eq}
use Rattle.std.proofs.lemmas.Iterator.Adapters.{position_from-zero}
use Rattle.std.proofs.lemmas.List.Elements.{All-cons, All-nil}
use Rattle.std.specs.Option.{option_map}
use Rattle.std.proofs.lemmas.Option.{none-some, same_Some, slice_get-map}
use Rattle.std.proofs.lemmas.Slice.Eq.{bytes_eq-Decides}
use Rattle.gt_explore_answers.specs.Exploring.{AreTextsOf, index_of_text, satisfied}
use Rattle.gt_explore.proofs.Added.{some_holds}
use Rattle.gt_explore_answers.specs.Outputs.{Found, counterexample_comment, found_from}
use Rattle.gt_explore_answers.specs.Texts.{AreAscending, AreDifferentTexts, IsTextAmong}
use Rattle.gt_explore_answers.specs.Witness.{IsWitness, ShowsAfter}
use Rattle.gt_explore_replay.specs.Orders.{MayGive}
use Rattle.gt_explore_by_choice.specs.Answering.{AnswersByChoices, IsClaimByChoices, IsVerdictByChoices, MeansGivenByChoice, ShowsByChoice}
use Rattle.gt_explore_answers.specs.declared.answering.ExploreOutput.{ExploreOutput}
use Rattle.gt_explore_answers.specs.declared.asking.ExploreRequest.{ExploreRequest}
use Rattle.gt_explore_answers.specs.declared.found.FoundTexts.{FoundTexts}
use Rattle.gt_explore_choices.specs.Choices.{IsChoiceOf}
use Rattle.gt_explore_search.specs.declared.exploring.FoundText.{FoundText}
use Rattle.gt_explore_verdict.specs.declared.judging.Verdict.{Verdict}
use Rattle.gt_script.specs.RunScripts.{ReadsAsRun}
use Rattle.gt_explore_by_choice.specs.Possible.{AreTextsOfChoices, MayGiveByChoice}
use Rattle.gt_explore_by_choice.proofs.United.{given}
use Rattle.gt_explore_verdict.specs.Formulas.{Op}
use Rattle.gt_explore_verdict.specs.Judging.{judged, verdict_at}
use Rattle.gt_explore_verdict.specs.declared.judging.Claim.{Claim}
use Rattle.gt_explore_verdict.specs.declared.judging.Claim.TheVariants.{Find}
use Rattle.gt_explore_verdict.specs.declared.judging.Judgement.{Judgement}
use Rattle.gt_script.specs.Contents.{Contents}
use Rattle.gt_script.specs.RunContents.{RunContents}

-- ---- a text that is given

none_step : (b : Bool) (i : ℕ) (rest : Option ℕ) → cond b (Some i) rest ≡ None → (b ≡ false) × (rest ≡ None)
none_step true i rest is = absurd (none-some i (sym is))
none_step false i rest is = (refl, is)

some_step : (b : Bool) (i : ℕ) (rest : Option ℕ) (k : ℕ) → cond b (Some i) rest ≡ Some k → (b ≡ true) ⊎ (rest ≡ Some k)
some_step true i rest k is = inl refl
some_step false i rest k is = inr is

not_there : (text : List ℕ) (ts : List (List ℕ)) (i : ℕ) → position_from (λ t. bytes_eq t text) i ts ≡ None → IsTextAmong text ts → ⊥
not_there text [] i is (at, there) = none-some text there
not_there text (t ∷ ts) i is (zero, there) =
    let same : t ≡ text = same_Some t text there in
    let no = (none_step (bytes_eq t text) i (position_from (λ u. bytes_eq u text) (i + 1) ts) is).0 in
    let clash : true ≡ false = sym ((bytes_eq-Decides t text).1 same) ∙ no in absurd (cc)
not_there text (t ∷ ts) i is (suc at, there) =
    not_there text ts (i + 1) (none_step (bytes_eq t text) i (position_from (λ u. bytes_eq u text) (i + 1) ts) is).1 (at, there)

there_found : (text : List ℕ) (ts : List (List ℕ)) (i k : ℕ) → position_from (λ t. bytes_eq t text) i ts ≡ Some k → IsTextAmong text ts
there_found text [] i k is = absurd (none-some k is)
there_found text (t ∷ ts) i k is =
    by (there_found text ts (i + 1) k) (some_step (bytes_eq t text) i (position_from (λ u. bytes_eq u text) (i + 1) ts) k is)
  where
    by : (position_from (λ u. bytes_eq u text) (i + 1) ts ≡ Some k → IsTextAmong text ts)
        → (bytes_eq t text ≡ true) ⊎ (position_from (λ u. bytes_eq u text) (i + 1) ts ≡ Some k) → IsTextAmong text (t ∷ ts)
    by rest (inl here) = (0, ap Some ((bytes_eq-Decides t text).0 here))
    by rest (inr later) = let q = rest later in (suc q.0, q.1)

among_may : (source : List ℕ) (f : Found) (text : List ℕ) → AreTextsOfChoices source f → IsTextAmong text f.texts → MayGiveByChoice source text
among_may source f text are (at, there) = given (MayGiveByChoice source) f.texts at text are.possible there

-- the verdict on a text means that some choice may give it, or that none may
pub means_given : (source : List ℕ) (f : Found) (text : List ℕ) → AreTextsOfChoices source f
    → MeansGivenByChoice source text (verdict_at Find (is_some (index_of_text text f.texts)) f.whole)
means_given source f text are =
    by (index_of_text text f.texts) f.whole (sym (position_from-zero (λ t. bytes_eq t text) f.texts)) refl
  where
    by : (o : Option ℕ) (w : Bool) → position_from (λ t. bytes_eq t text) 0 f.texts ≡ o → f.whole ≡ w → MeansGivenByChoice source text (verdict_at Find (is_some o) w)
    by (Some k) w is whole = among_may source f text are (there_found text f.texts 0 k is)
    by None true is whole = λ may. not_there text f.texts 0 is (are.whole whole text may)
    by None false is whole = tt

-- ---- a claim

-- the output is that for the judgement on the conditions
pub tells_by : (source : List ℕ) (claim : Claim) (cs : List Op) (f : Found) (met other : List Bool) (j : Judgement) (text : List ℕ) → met ≡ satisfied cs f → other ≡ satisfied cs f
    → j ≡ judged claim other f.whole → IsClaimByChoices source claim f met j text → IsClaimByChoices source claim f (satisfied cs f) (judged claim (satisfied cs f) f.whole) text
tells_by source claim cs f met other j text is also judges told =
    subst (λ (k : Judgement). IsClaimByChoices source claim f (satisfied cs f) k text) (judges ∙ ap (λ (m : List Bool). judged claim m f.whole) also)
    (subst (λ (m : List Bool). IsClaimByChoices source claim f m j text) is told)

-- ---- one text alone

-- a text that a script may give, alone
pub texts_alone : (c : RunContents) (f : Found) (text : List ℕ) → f.texts ≡ text ∷ [] → f.whole ≡ false → MayGive c text → AreTextsOf c f
texts_alone c f text is part may = record {
  possible = subst (All (MayGive c)) (sym is) (All-cons (MayGive c) text [] may (All-nil (MayGive c)));
  whole = λ whole. absurd (cc);
  apart = subst AreDifferentTexts (sym is) (All-nil (λ other. other ≢ text), tt);
  ascending = subst AreAscending (sym is) tt;
}

-- a script for the first text of one alone
pub witness_alone : (c : Contents) (texts : List (List ℕ)) (text lines : List ℕ) → texts ≡ text ∷ [] → IsWitness c texts 1 lines → ShowsAfter c [] lines text
witness_alone c texts text lines is w = by w.numbered.0 w.numbered.1 w.numbered.2
  where
    by : (at : ℕ) → 1 ≡ at + 1 → slice_get texts at ≡ Some w.text → ShowsAfter c [] lines text
    by zero one there =
        subst (λ (t : List ℕ). ShowsAfter c [] lines t) (sym (same_Some text w.text (ap (λ (l : List (List ℕ)). slice_get l 0) (sym is) ∙ there))) w.gives
    by (suc at) one there = absurd (omega arith)

-- ---- outputs

-- a script for one of the choices
pub shows_choice : (source : List ℕ) (choices : List (List ℕ)) (at : ℕ) (choice : List ℕ) (o : Option (Vec ℕ Global)) (lines : Vec ℕ Global) (text : List ℕ)
    → All (IsChoiceOf source) choices → slice_get choices at ≡ Some choice
    → IfSome o (λ l. (c : RunContents) × ReadsAsRun choice (Ok c) × ShowsAfter c.head [] l.items text) → o ≡ Some lines → ShowsByChoice source lines.items text
shows_choice source choices at choice o lines text each is some there =
    let shows = some_holds (λ (l : Vec ℕ Global). (c : RunContents) × ReadsAsRun choice (Ok c) × ShowsAfter c.head [] l.items text) o lines some there in
    (shows.0, (choice, given (IsChoiceOf source) choices at choice each is, shows.1), shows.2)

-- a text shows that a claim does not hold
pub shows_counter : (source : List ℕ) (f : FoundTexts) (at number : ℕ) (o : FoundText) (comment lines out text : List ℕ) → number ≡ at + 1 → Some o ≡ slice_get f.texts.items at → text ≡ o.text.items
    → comment ≡ counterexample_comment (found_from f) number text → out ≡ comment ++ lines → ShowsByChoice source lines o.text.items → (v : Verdict) → IsVerdictByChoices source (found_from f) v (Some at) out
shows_counter source f at number o comment lines out text many there same is joins shows v = (
  o.text.items,
  lines,
  slice_get-map (λ (p : FoundText). p.text.items) f.texts.items at ∙ ap (option_map (λ (p : FoundText). p.text.items)) (sym there),
  joins ∙ ap (λ (l : List ℕ). l ++ lines) (is ∙ ap (λ (n : ℕ). counterexample_comment (found_from f) n text) many ∙ ap (λ (t : List ℕ). counterexample_comment (found_from f) (at + 1) t) same),
  shows,
)

-- the verdict is told by the text that shows it
pub told_by : {E : Type 0} (source : List ℕ) (f : Found) (v : Verdict) (shown : Option ℕ) (at : ℕ) (r : Result (Vec ℕ Global) E) → shown ≡ Some at
    → IfOk r (λ out. IsVerdictByChoices source f v (Some at) out.items) → IfOk r (λ out. IsVerdictByChoices source f v shown out.items)
told_by source f v shown at (Err fault) is told = tt
told_by source f v shown at (Ok out) is told = subst (λ (s : Option ℕ). IsVerdictByChoices source f v s out.items) (sym is) told

-- the claim is this one
pub claim_by : {E : Type 0} (source : List ℕ) (claim kind : Claim) (f : Found) (met : List Bool) (j : Judgement) (r : Result (Vec ℕ Global) E) → claim ≡ kind
    → IfOk r (λ out. IsClaimByChoices source kind f met j out.items) → IfOk r (λ out. IsClaimByChoices source claim f met j out.items)
claim_by source claim kind f met j r is made = subst (λ (k : Claim). IfOk r (λ out. IsClaimByChoices source k f met j out.items)) (sym is) made

-- what was made answers the request
pub made_so : {E : Type 0} (source : List ℕ) (conditions : List Op) (f : Found) (asked request : ExploreRequest) (r : Result ExploreOutput E) → asked ≡ request
    → IfOk r (λ made. AnswersByChoices source request conditions f made.text.items made.verdict) → IfOk r (λ made. AnswersByChoices source asked conditions f made.text.items made.verdict)
made_so source conditions f asked request r is made = subst (λ (q : ExploreRequest). IfOk r (λ m. AnswersByChoices source q conditions f m.text.items m.verdict)) (sym is) made
