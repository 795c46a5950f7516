-- The answers to requests.
use Rattle.std.proofs.Common.{◌≡◌, ◌∙◌, ◌⊎◌, ◌+◌, ◌++◌, ℕ, zero, suc, Bool, true, false, List, [], ◌∷◌, Option, Some, None, ap, refl, subst}
use Rattle.std.proofs.Common.{sym, slice_get, length, map, inl, inr, drop, get_or, ◌<◌, ◌≤◌, append_assoc, IfOk, Result, Ok, Err, Vec, Global}
use Rattle.std.proofs.Math.Bool.{cond}
use Rattle.std.specs.Prelude.{is_some}
use Rattle.std.specs.List.{position, position_from}
use Rattle.std.specs.Str.{bytes_eq}
use Rattle.std.proofs.lemmas.Iterator.Adapters.{position_from-zero}
use Rattle.std.proofs.lemmas.List.{drop_all, drop_more, length-map}
use Rattle.std.specs.Option.{option_map}
use Rattle.std.proofs.lemmas.Option.{none-some, same_Some, get_or_from_slice_get, slice_get-map, slice_get_within}
use Rattle.std.proofs.lemmas.Slice.Eq.{bytes_eq-Decides}
use Rattle.gt_explore_replay.specs.Orders.{MayGive}
use Rattle.gt_explore_search.specs.declared.exploring.FoundText.{FoundText}
use Rattle.gt_explore_verdict.specs.Formulas.{Op}
use Rattle.gt_explore_verdict.specs.Judging.{judged, verdict_at}
use Rattle.gt_explore_verdict.specs.declared.judging.Claim.{Claim}
use Rattle.gt_explore_verdict.specs.declared.judging.Judgement.{Judgement}
use Rattle.gt_explore_verdict.specs.declared.judging.Verdict.{Verdict}
use Rattle.gt_explore_verdict.specs.declared.judging.Claim.TheVariants.{Find}
use Rattle.gt_script.specs.RunContents.{RunContents}
use Rattle.gt_explore_answers.specs.Texts.{IsTextAmong, texts_of_orders}
use Rattle.gt_explore_answers.specs.Exploring.{AreTextsOf, MeansGiven, IsOutputBy, IsClaimOutput, IsClaimOutputBy, IsVerdictOutput}
use Rattle.gt_explore_answers.specs.Exploring.{AreWitnessOutputs, index_of_text, satisfied}
use Rattle.gt_explore_answers.specs.Outputs.{Found, counterexample_comment, found_from, witness_comment}
use Rattle.gt_explore_answers.specs.Witness.{ShowsAfter}
use Rattle.gt_explore_answers.specs.declared.answering.ExploreOutput.{ExploreOutput}
use Rattle.gt_explore_answers.specs.declared.asking.ExploreRequest.{ExploreRequest}
use Rattle.gt_explore_faults.specs.declared.fault.TextsFault.{TextsFault}
use Rattle.gt_explore_answers.specs.declared.found.FoundTexts.{FoundTexts}

-- a list of one value for each text is as long as the texts
pub as_many : (test : List ℕ → Bool) (orders : List FoundText) (met : List Bool) → met ≡ map test (texts_of_orders orders) → length met ≡ length orders
as_many test orders met is =
    ap length is ∙ length-map (texts_of_orders orders) test ∙ length-map orders (λ (o : FoundText). o.text.items)

-- a search through a list of values of elements is one through the elements
from_map : {X Y : Type 0} (p : Y → Bool) (f : X → Y) (xs : List X) (i : ℕ) → position_from (λ x. p (f x)) i xs ≡ position_from p i (map f xs)
from_map p f [] i = refl
from_map p f (x ∷ xs) i = ap (cond (p (f x)) (Some i)) (from_map p f xs (i + 1))

pub position_map : {X Y : Type 0} (p : Y → Bool) (f : X → Y) (xs : List X) → position (λ x. p (f x)) xs ≡ position p (map f xs)
position_map p f xs = position_from-zero (λ x. p (f x)) xs ∙ from_map p f xs 0 ∙ sym (position_from-zero p (map f xs))

none_step : (b : Bool) (i : ℕ) (rest : Option ℕ) → cond b (Some i) rest ≡ None → (b ≡ false) × (rest ≡ None)
none_step true i rest is = absurd (none-some i (sym is))
none_step false i rest is = (refl, is)

some_step : (b : Bool) (i : ℕ) (rest : Option ℕ) (k : ℕ) → cond b (Some i) rest ≡ Some k → (b ≡ true) ⊎ (rest ≡ Some k)
some_step true i rest k is = inl refl
some_step false i rest k is = inr is

not_there : (given : List ℕ) (ts : List (List ℕ)) (i : ℕ) → position_from (λ t. bytes_eq t given) i ts ≡ None → IsTextAmong given ts → ⊥
not_there given [] i is (at, there) = none-some given there
not_there given (t ∷ ts) i is (zero, there) =
    let same : t ≡ given = same_Some t given there in
    let no = (none_step (bytes_eq t given) i (position_from (λ u. bytes_eq u given) (i + 1) ts) is).0 in
    let clash : true ≡ false = sym ((bytes_eq-Decides t given).1 same) ∙ no in absurd (cc)
not_there given (t ∷ ts) i is (suc at, there) =
    not_there given ts (i + 1) (none_step (bytes_eq t given) i (position_from (λ u. bytes_eq u given) (i + 1) ts) is).1 (at, there)

there_found : (given : List ℕ) (ts : List (List ℕ)) (i k : ℕ) → position_from (λ t. bytes_eq t given) i ts ≡ Some k → IsTextAmong given ts
there_found given [] i k is = absurd (none-some k is)
there_found given (t ∷ ts) i k is =
    by (there_found given ts (i + 1) k) (some_step (bytes_eq t given) i (position_from (λ u. bytes_eq u given) (i + 1) ts) k is)
  where
    by : (position_from (λ u. bytes_eq u given) (i + 1) ts ≡ Some k → IsTextAmong given ts)
        → (bytes_eq t given ≡ true) ⊎ (position_from (λ u. bytes_eq u given) (i + 1) ts ≡ Some k) → IsTextAmong given (t ∷ ts)
    by rest (inl here) = (0, ap Some ((bytes_eq-Decides t given).0 here))
    by rest (inr later) = let q = rest later in (suc q.0, q.1)

among_may : (c : RunContents) (f : Found) (given : List ℕ) → AreTextsOf c f → IsTextAmong given f.texts → MayGive c given
among_may c f given are (at, there) =
    subst (MayGive c) (get_or_from_slice_get f.texts at given given there) (are.possible at given (slice_get_within f.texts at given there))

-- the verdict on a text means that the script may give it, or that it may not
pub means_given : (c : RunContents) (f : Found) (given : List ℕ) → AreTextsOf c f → MeansGiven c given (verdict_at Find (is_some (index_of_text given f.texts)) f.whole)
means_given c f given are =
    by (index_of_text given f.texts) f.whole (sym (position_from-zero (λ t. bytes_eq t given) f.texts)) refl
  where
    by : (o : Option ℕ) (w : Bool) → position_from (λ t. bytes_eq t given) 0 f.texts ≡ o → f.whole ≡ w → MeansGiven c given (verdict_at Find (is_some o) w)
    by (Some k) w is whole = among_may c f given are (there_found given f.texts 0 k is)
    by None true is whole = λ may. not_there given f.texts 0 is (are.whole whole given may)
    by None false is whole = tt

-- one more script is written
pub witness_more : (c : RunContents) (f : Found) (os : List FoundText) (i number : ℕ) (o : FoundText) (script rest : List ℕ) → i < length os → o ≡ get_or os i o
    → ShowsAfter c.head [] script o.text.items → AreWitnessOutputs c f (number + 1) (texts_of_orders (drop (i + 1) os)) rest
    → AreWitnessOutputs c f number (texts_of_orders (drop i os)) (witness_comment f (number + 1) ++ (script ++ rest))
witness_more c f os i number o script rest lt is gives told =
    let P : List FoundText → Type 0 = λ ps. AreWitnessOutputs c f number (texts_of_orders ps) (witness_comment f (number + 1) ++ (script ++ rest)) in
    subst P (ap (λ (q : FoundText). q ∷ drop (i + 1) os) is ∙ sym (drop_more os i o lt)) (script, rest, refl, gives, told)

-- lines one after the other
pub joined : (out comment script rest pushed whole : List ℕ) → pushed ≡ out ++ comment → whole ≡ pushed ++ script → whole ++ rest ≡ out ++ (comment ++ (script ++ rest))
joined out comment script rest pushed whole p w = ap (λ (l : List ℕ). l ++ rest) (w ∙ ap (λ (l : List ℕ). l ++ script) p) ∙ simp append_assoc

-- no script is left to write
pub none_left : (c : RunContents) (f : Found) (number i : ℕ) (os : List FoundText) → length os ≤ i → AreWitnessOutputs c f number (texts_of_orders (drop i os)) []
none_left c f number i os end = let P : List FoundText → Type 0 = λ ps. AreWitnessOutputs c f number (texts_of_orders ps) [] in subst P (sym (drop_all i os end)) refl

-- a text shows that a claim does not hold
pub shows_text : (c : RunContents) (f : FoundTexts) (at number : ℕ) (o : FoundText) (comment : List ℕ) (r : Result (Vec ℕ Global) TextsFault) → number ≡ at + 1 → Some o ≡ slice_get f.texts.items at
    → comment ≡ counterexample_comment (found_from f) number o.text.items → IfOk r (λ text. ShowsAfter c.head comment text.items o.text.items)
    → IfOk r (λ text. (v : Verdict) → IsVerdictOutput c (found_from f) v (Some at) text.items)
shows_text c f at number o comment (Err fault) many there is after = tt
shows_text c f at number o comment (Ok text) many there is after = λ v. (
  o.text.items,
  slice_get-map (λ (p : FoundText). p.text.items) f.texts.items at ∙ ap (option_map (λ (p : FoundText). p.text.items)) (sym there),
  subst (λ (l : List ℕ). ShowsAfter c.head l text.items o.text.items) (is ∙ ap (λ (n : ℕ). counterexample_comment (found_from f) n o.text.items) many) after,
)

-- the verdict is told by the text that shows it
pub told_by : (c : RunContents) (f : Found) (v : Verdict) (shown : Option ℕ) (at : ℕ) (r : Result (Vec ℕ Global) TextsFault) → shown ≡ Some at
    → IfOk r (λ text. (w : Verdict) → IsVerdictOutput c f w (Some at) text.items) → IfOk r (λ text. IsVerdictOutput c f v shown text.items)
told_by c f v shown at (Err fault) is told = tt
told_by c f v shown at (Ok text) is told = subst (λ (s : Option ℕ). IsVerdictOutput c f v s text.items) (sym is) (told v)

-- the output is that for the judgement on the conditions
pub tells_by : (c : RunContents) (claim : Claim) (cs : List Op) (f : Found) (met other : List Bool) (j : Judgement) (text : List ℕ) → met ≡ satisfied cs f → other ≡ satisfied cs f
    → j ≡ judged claim other f.whole → IsClaimOutputBy c claim f met j text → IsClaimOutput c claim cs f text
tells_by c claim cs f met other j text is also judges told =
    subst (λ (k : Judgement). IsClaimOutputBy c claim f (satisfied cs f) k text) (judges ∙ ap (λ (m : List Bool). judged claim m f.whole) also)
    (subst (λ (m : List Bool). IsClaimOutputBy c claim f m j text) is told)

-- what was made answers the request
pub made_so : (c : RunContents) (conditions : List Op) (f : Found) (asked request : ExploreRequest) (r : Result ExploreOutput TextsFault) → asked ≡ request
    → IfOk r (λ made. IsOutputBy c request conditions f made.text.items made.verdict) → IfOk r (λ made. IsOutputBy c asked conditions f made.text.items made.verdict)
made_so c conditions f asked request r is made = subst (λ (q : ExploreRequest). IfOk r (λ m. IsOutputBy c q conditions f m.text.items m.verdict)) (sym is) made
