-- Texts that grow.
use Rattle.std.proofs.Common.{◌≡◌, ◌<◌, ◌+◌, false, List, [], ◌∷◌, ◌++◌, ℕ, Result, Ok, Err, OnOk, Vec, Global, take}
use Rattle.std.proofs.Common.{length, get_or, ap, subst, sym, ◌∙◌, append_assoc}
use Rattle.std.proofs.lemmas.Bool.{true≢false}
use Rattle.std.proofs.lemmas.Grind.{flat_map-append}
use Rattle.std.proofs.lemmas.List.{append-nil, take_more}
use Rattle.std.specs.List.{flat_map}
use Rattle.std.specs.Result.{is_err}
use Rattle.gt_policy_questions.specs.Format.{TextGrows}
use Rattle.gt_policy_questions.specs.declared.flows.format.FlowText.{FlowText}

pub grows-none : (old : FlowText) → TextGrows old old []
grows-none old = record { whole = λ w. w; bytes = λ w. sym (append-nil old.bytes.items) }

pub grows-more : (old mid new : FlowText) (one two : List ℕ) → TextGrows old mid one → TextGrows mid new two
    → TextGrows old new (one ++ two)
grows-more old mid new one two first next = record {
  whole = λ w. first.whole (next.whole w);
  bytes = λ w. next.bytes w ∙ ap (λ (l : List ℕ). l ++ two) (first.bytes (next.whole w))
      ∙ append_assoc old.bytes.items one two;
}

pub grows-as : (old new : FlowText) (one two : List ℕ) → one ≡ two → TextGrows old new one → TextGrows old new two
grows-as old new one two same grows = subst (λ (l : List ℕ). TextGrows old new l) same grows

-- after a failed allocation
pub lost : (old new : FlowText) (text : List ℕ) → new.is_whole ≡ false → TextGrows old new text
lost old new text h = record {
  whole = λ w. absurd (true≢false (sym w ∙ h));
  bytes = λ w. absurd (true≢false (sym w ∙ h));
}

one-more : {A : Type 0} (f : A → List ℕ) (ps : List A) (i : ℕ) (d : A) → i < length ps
    → flat_map f (take (i + 1) ps) ≡ flat_map f (take i ps) ++ f (get_or ps i d)
one-more f ps i d h = ap (λ l. flat_map f l) (take_more ps i d h) ∙ flat_map-append f (take i ps) (get_or ps i d ∷ [])
    ∙ ap (λ (l : List ℕ). flat_map f (take i ps) ++ l) (append-nil (f (get_or ps i d)))

-- with one more part
pub grows-part : {A E : Type 0} (f : A → List ℕ) (ps : List A) (i : ℕ) (d : A) (old mid : FlowText) (v : Vec ℕ Global)
    (r : Result (Unit {0}) E) → i < length ps → TextGrows old mid (flat_map f (take i ps)) → is_err r ≡ false
    → OnOk r (v.items ≡ mid.bytes.items ++ f (get_or ps i d))
    → TextGrows old (record { bytes = v; is_whole = mid.is_whole }) (flat_map f (take (i + 1) ps))
grows-part f ps i d old mid v (Err e) h grows ok is = absurd (true≢false ok)
grows-part f ps i d old mid v (Ok u) h grows ok is = record {
  whole = grows.whole;
  bytes = λ w. is ∙ ap (λ (l : List ℕ). l ++ f (get_or ps i d)) (grows.bytes w)
      ∙ append_assoc old.bytes.items (flat_map f (take i ps)) (f (get_or ps i d))
      ∙ ap (λ (l : List ℕ). old.bytes.items ++ l) (sym (one-more f ps i d h));
}
