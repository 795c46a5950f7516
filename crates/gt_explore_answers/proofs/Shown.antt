-- The objects of an output as JSON.
use Rattle.std.proofs.Common.{◌≡◌, ◌∙◌, ◌++◌, ◌<◌, ◌≤◌, ◌+◌, ℕ, Bool, List, [], ◌∷◌, length, get_or, drop, refl}
use Rattle.std.proofs.Common.{ap, append_assoc, subst, sym, IfOk, OnOk, Result, Ok, Err}
use Rattle.std.proofs.lemmas.List.{drop_all, drop_more}
use Rattle.gt_explore_search.specs.declared.exploring.FoundText.{FoundText}
use Rattle.gt_explore_verdict.specs.declared.judging.Verdict.{Verdict}
use Rattle.gt_explore_verdict.specs.Formulas.{Op}
use Rattle.gt_script.specs.Contents.{Contents}
use Rattle.gt_script.specs.RunContents.{RunContents}
use Rattle.gt_explore_answers.specs.Texts.{texts_of_orders}
use Rattle.gt_explore_answers.specs.AsObjects.{Showing, ShowsBy, ShowsObjects}
use Rattle.gt_explore_answers.specs.Objects.{IsObjectIf, ShowsTexts, summary}
use Rattle.gt_explore_answers.specs.Outputs.{Found}
use Rattle.gt_explore_answers.specs.declared.answering.ExploreOutput.{ExploreOutput}
use Rattle.gt_explore_answers.specs.declared.asking.ExploreRequest.{ExploreRequest}
use Rattle.gt_explore_faults.specs.declared.fault.TextsFault.{TextsFault}

-- the object of one text more
pub objects_more : (c : Contents) (f : Found) (scripts : Bool) (os : List FoundText) (wanted : List Bool) (i j : ℕ) (o : FoundText) (w : Bool) (object rest : List ℕ)
    → i < length os → o ≡ get_or os i o → j < length wanted → w ≡ get_or wanted j w
    → IsObjectIf c f scripts w (j + 1) o.text.items object → ShowsTexts c f scripts (j + 1) (texts_of_orders (drop (i + 1) os)) (drop (j + 1) wanted) rest
    → ShowsTexts c f scripts j (texts_of_orders (drop i os)) (drop j wanted) (object ++ rest)
objects_more c f scripts os wanted i j o w object rest lt is less same shows more =
    let P : List FoundText → List Bool → Type 0 = λ ps ws. ShowsTexts c f scripts j (texts_of_orders ps) ws (object ++ rest) in
    subst (λ (ps : List FoundText). P ps (drop j wanted)) (ap (λ (q : FoundText). q ∷ drop (i + 1) os) is ∙ sym (drop_more os i o lt))
    (subst (λ (ws : List Bool). P (o ∷ drop (i + 1) os) ws) (ap (λ (b : Bool). b ∷ drop (j + 1) wanted) same ∙ sym (drop_more wanted j w less))
    (object, rest, refl, shows, more))

-- no text is left
pub no_objects : (c : Contents) (f : Found) (scripts : Bool) (os : List FoundText) (wanted : List Bool) (i j : ℕ) → length os ≤ i → ShowsTexts c f scripts j (texts_of_orders (drop i os)) (drop j wanted) []
no_objects c f scripts os wanted i j end = subst (λ (ps : List FoundText). ShowsTexts c f scripts j (texts_of_orders ps) (drop j wanted) []) (sym (drop_all i os end)) refl

-- the last object ends the output
pub shows_all : (limit : ℕ) (Objects : Showing) (f : Found) (objects text : List ℕ) (v w : Verdict) → Objects f v objects → w ≡ v → text ≡ objects ++ summary f limit v
    → ShowsObjects limit Objects f text w
shows_all limit Objects f objects text v w shown same told = subst (λ (u : Verdict). ShowsObjects limit Objects f text u) (sym same) (record { objects = objects; shown = shown; ended = told })

-- the same of an output that was made
pub ended_so : (limit : ℕ) (Objects : Showing) (f : Found) (r : Result ExploreOutput TextsFault) (first objects text : List ℕ) (v : Verdict) → first ≡ [] → text ≡ first ++ objects → Objects f v objects
    → IfOk r (λ made. (made.verdict ≡ v) × (made.text.items ≡ text ++ summary f limit v)) → IfOk r (λ made. ShowsObjects limit Objects f made.text.items made.verdict)
ended_so limit Objects f (Err fault) first objects text v none told shown is = tt
ended_so limit Objects f (Ok made) first objects text v none told shown is =
    shows_all limit Objects f objects made.text.items v made.verdict shown is.0 (is.1 ∙ ap (λ (l : List ℕ). l ++ summary f limit v) (told ∙ ap (λ (l : List ℕ). l ++ objects) none))

-- two texts one after the other
pub two_joined : {E : Type 0} (r : Result (Unit {0}) E) (out a b first second : List ℕ) → first ≡ out ++ a → OnOk r (second ≡ first ++ b) → OnOk r (second ≡ out ++ (a ++ b))
two_joined (Err fault) out a b first second f s = tt
two_joined (Ok done) out a b first second f s = s ∙ ap (λ (l : List ℕ). l ++ b) f ∙ append_assoc out a b

-- three texts one after the other
pub three_joined : {E : Type 0} (r : Result (Unit {0}) E) (out a b c first second third : List ℕ) → first ≡ out ++ a → second ≡ first ++ b → OnOk r (third ≡ second ++ c)
    → OnOk r (third ≡ out ++ (a ++ (b ++ c)))
three_joined (Err fault) out a b c first second third f s t = tt
three_joined (Ok done) out a b c first second third f s t =
    t ∙ ap (λ (l : List ℕ). l ++ c) (s ∙ ap (λ (l : List ℕ). l ++ b) f) ∙ append_assoc (out ++ a) b c ∙ append_assoc out a (b ++ c)

-- an object, and then the rest
pub object_first : (out object rest pushed : List ℕ) → pushed ≡ out ++ object → pushed ++ rest ≡ out ++ (object ++ rest)
object_first out object rest pushed is = ap (λ (l : List ℕ). l ++ rest) is ∙ append_assoc out object rest

-- what was shown answers the request
pub shown_so : (c : RunContents) (limit : ℕ) (conditions : List Op) (f : Found) (asked request : ExploreRequest) (r : Result ExploreOutput TextsFault) → asked ≡ request
    → IfOk r (λ made. ShowsBy c limit request conditions f made.text.items made.verdict) → IfOk r (λ made. ShowsBy c limit asked conditions f made.text.items made.verdict)
shown_so c limit conditions f asked request r is shown = subst (λ (q : ExploreRequest). IfOk r (λ m. ShowsBy c limit q conditions f m.text.items m.verdict)) (sym is) shown
