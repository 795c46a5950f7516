-- The labels of mappings, those at the first places without one that is given to another mapping.
use Rattle.std.proofs.Common.{◌≡◌, ◌+◌, ◌<◌, ◌≤◌, ℕ, zero, suc, refl, List, [], ◌∷◌, length, set, get_or, Option, sym}
use Rattle.std.proofs.Common.{ap, ◌∙◌, arith, take, drop, ◌++◌}
use Rattle.std.proofs.lemmas.List.{map-set, get_or-map, length-map, take_at}
use Rattle.std.proofs.Math.Seq.{map-set_same}
use Rattle.gt_model.specs.declared.held.HeldPin.{HeldPin}
use Rattle.gt_explore_moves.specs.declared.actor.LabelledMapping.{LabelledMapping}
use Rattle.gt_explore_moves.specs.Mappings.{labels_of, mapping_pins, apart_from, label_bytes, unless_given}

-- the labels, those at so many first places apart from the one given
unfoldable pub apart_up_to : ℕ → Option (List ℕ) → List (Option (List ℕ)) → List (Option (List ℕ))
apart_up_to zero given labels = labels
apart_up_to (suc n) given [] = []
apart_up_to (suc n) given (l ∷ labels) = unless_given given l ∷ apart_up_to n given labels

one-more : (n : ℕ) (given : Option (List ℕ)) (labels : List (Option (List ℕ))) (d : Option (List ℕ))
    → set (apart_up_to n given labels) n (unless_given given (get_or (apart_up_to n given labels) n d)) ≡ apart_up_to (suc n) given labels
unfolding apart_up_to
one-more zero given [] d = refl
one-more zero given (l ∷ labels) d = refl
one-more (suc n) given [] d = refl
one-more (suc n) given (l ∷ labels) d = ap (λ (ls : List (Option (List ℕ))). unless_given given l ∷ ls) (one-more n given labels d)

all-of : (n : ℕ) (given : Option (List ℕ)) (labels : List (Option (List ℕ))) → length labels ≤ n → apart_up_to n given labels ≡ apart_from given labels
unfolding apart_up_to
all-of zero given [] le = refl
all-of zero given (l ∷ labels) le = absurd (omega arith)
all-of (suc n) given [] le = refl
all-of (suc n) given (l ∷ labels) le = ap (λ (ls : List (Option (List ℕ))). unless_given given l ∷ ls) (all-of n given labels (omega arith))

pub none-yet : (given : Option (List ℕ)) (labels : List (Option (List ℕ))) → labels ≡ apart_up_to 0 given labels
unfolding apart_up_to
none-yet given labels = refl

-- one more mapping is apart
pub labels-step : (given : Option (List ℕ)) (n : ℕ) (all orig : List LabelledMapping) (d y : LabelledMapping) → n < length all → label_bytes y.label ≡ unless_given given (label_bytes (get_or all n d).label)
    → labels_of all ≡ apart_up_to n given (labels_of orig) → labels_of (set all n y) ≡ apart_up_to (n + 1) given (labels_of orig)
labels-step given n all orig d y lt e h =
    map-set (λ (m : LabelledMapping). label_bytes m.label) all n y
    ∙ ap (λ (v : Option (List ℕ)). set (labels_of all) n v) (e ∙ ap (unless_given given) (sym (get_or-map (λ (m : LabelledMapping). label_bytes m.label) all n d (label_bytes d.label) lt)))
    ∙ ap (λ (ls : List (Option (List ℕ))). set ls n (unless_given given (get_or ls n (label_bytes d.label)))) h
    ∙ one-more n given (labels_of orig) (label_bytes d.label)
    ∙ ap (λ (k : ℕ). apart_up_to k given (labels_of orig)) (let e : suc n ≡ n + 1 = omega arith in e)

pub pins-step : (n : ℕ) (all orig : List LabelledMapping) (d y : LabelledMapping) → y.held ≡ (get_or all n d).held → mapping_pins all ≡ mapping_pins orig → mapping_pins (set all n y) ≡ mapping_pins orig
pins-step n all orig d y e h = map-set_same (λ (m : LabelledMapping). m.held) all n y d e ∙ h

same-length : (all orig : List LabelledMapping) → mapping_pins all ≡ mapping_pins orig → length all ≡ length orig
same-length all orig h = sym (length-map all (λ (m : LabelledMapping). m.held)) ∙ ap (λ (l : List HeldPin). length l) h ∙ length-map orig (λ (m : LabelledMapping). m.held)

-- all of them are
pub labels-all : (given : Option (List ℕ)) (n : ℕ) (all orig : List LabelledMapping) → length all ≤ n → mapping_pins all ≡ mapping_pins orig → labels_of all ≡ apart_up_to n given (labels_of orig) → labels_of all ≡ apart_from given (labels_of orig)
labels-all given n all orig le pins h =
    h ∙ all-of n given (labels_of orig) (let a = same-length all orig pins in let b = length-map orig (λ (m : LabelledMapping). label_bytes m.label) in omega arith)

-- a list written back whole
pub whole : {A : Type 0} (n : ℕ) (xs ys : List A) → length xs ≡ n → take n (xs ++ drop (length xs) ys) ≡ xs
whole n xs ys e = take_at xs (drop (length xs) ys) n e
