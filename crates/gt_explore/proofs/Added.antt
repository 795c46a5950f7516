-- What an order that is added does to the texts.
use Rattle.std.proofs.Common.{◌≡◌, ◌≢◌, ◌++◌, ◌+◌, ℕ, zero, suc, refl, List, [], ◌∷◌, All, Option, Some}
use Rattle.std.proofs.Common.{IfSome, ap, ◌∙◌, sym, subst, inl, inr, ◌⊎◌, length, get_or, arith, slice_get}
use Rattle.std.proofs.lemmas.Cmp.{nat_list_cmp_total, tied_itself}
use Rattle.std.proofs.lemmas.List.Elements.{All-cons, All-nil, All-push}
use Rattle.std.proofs.lemmas.List.{map-append}
use Rattle.std.proofs.lemmas.List.Sorted.{Contains-permutation}
use Rattle.std.proofs.lemmas.Map.Text.{is_eq-slice_cmp}
use Rattle.std.proofs.lemmas.Option.{none-some, same_Some, get_or_from_slice_get, slice_get-get_or, slice_get_within}
use Rattle.std.proofs.lemmas.Slice.Eq.{bytes_eq-Decides}
use Rattle.std.specs.Ordering.{is_eq}
use Rattle.std.specs.List.Sorted.{IsPermutation}
use Rattle.std.specs.declared.cmp.Ordering.TheVariants.{Less, Equal}
use Rattle.gt_explore_search.specs.declared.exploring.FoundText.{FoundText}
use Rattle.gt_explore.specs.Adding.{AddsOrder, IsAdded, last_compared}
use Rattle.gt_explore_answers.specs.Texts.{AreAscending, AreDifferentTexts, IsApart, IsTextAmong, compared, texts_of_orders}

-- what holds of what an option has
pub some_holds : {X : Type 0} (P : X → Type 0) (o : Option X) (x : X) → IfSome o P → o ≡ Some x → P x
some_holds P o x holds is = subst (λ p. IfSome p P) is holds

-- the order of texts

below_next : (t u : List ℕ) (ts : List (List ℕ)) → compared t u ≡ Less → All (λ o. compared u o ≡ Less) ts → All (λ o. compared t o ≡ Less) ts
below_next t u ts lt all = λ k d there. nat_list_cmp_total.trans t u (get_or ts k d) lt (all k d there)

-- a text that comes before the first of these comes before each of them
below_all : (t : List ℕ) (ts : List (List ℕ)) → AreAscending (t ∷ ts) → All (λ o. compared t o ≡ Less) ts
below_all t [] all = All-nil (λ o. compared t o ≡ Less)
below_all t (u ∷ ts) all =
    All-cons (λ o. compared t o ≡ Less) u ts all.0 (below_next t u ts all.0 (below_all u ts all.1))

rest_ascending : (t : List ℕ) (ts : List (List ℕ)) → AreAscending (t ∷ ts) → AreAscending ts
rest_ascending t [] all = tt
rest_ascending t (u ∷ ts) all = all.1

-- a text does not come before itself
not_below : (t o : List ℕ) → compared t o ≡ Less → o ≢ t
not_below t o lt same =
    let itself : compared t t ≡ Equal = tied_itself nat_list_cmp_total t in
    let less : compared t t ≡ Less = subst (λ (u : List ℕ). compared t u ≡ Less) same lt in
    let clash : Equal ≡ Less = sym itself ∙ less in absurd (cc)

apart_above : (t : List ℕ) (ts : List (List ℕ)) → All (λ o. compared t o ≡ Less) ts → IsApart t ts
apart_above t ts all = λ k d there. not_below t (get_or ts k d) (all k d there)

-- texts of which each comes before the next one are all different
pub ascending_apart : (ts : List (List ℕ)) → AreAscending ts → AreDifferentTexts ts
ascending_apart [] all = tt
ascending_apart (t ∷ ts) all = (apart_above t ts (below_all t ts all), ascending_apart ts (rest_ascending t ts all))

-- they ascend with a text that comes after the last
ascending_push : (ts : List (List ℕ)) (t : List ℕ) → AreAscending ts → last_compared ts t ≡ Less → AreAscending (ts ++ t ∷ [])
ascending_push [] t all lt = tt
ascending_push (u ∷ []) t all lt = (lt, tt)
ascending_push (u ∷ v ∷ ts) t all lt = (all.0, ascending_push (v ∷ ts) t all.1 lt)

same_text : (t u : List ℕ) → compared t u ≡ Equal → t ≡ u
same_text t u is = (bytes_eq-Decides t u).0 (sym (is_eq-slice_cmp t u) ∙ ap is_eq is)

-- a text that is the same as the last is there
there_last : (ts : List (List ℕ)) (t : List ℕ) → last_compared ts t ≡ Equal → IsTextAmong t ts
there_last [] t is = absurd (cc)
there_last (u ∷ []) t is = (0, ap Some (same_text u t is))
there_last (u ∷ v ∷ ts) t is = let there = there_last (v ∷ ts) t is in (suc there.0, there.1)

there_pushed : (ts : List (List ℕ)) (t : List ℕ) → IsTextAmong t (ts ++ t ∷ [])
there_pushed [] t = (0, refl)
there_pushed (u ∷ ts) t = let there = there_pushed ts t in (suc there.0, there.1)

among_pushed : (ts : List (List ℕ)) (t u : List ℕ) → IsTextAmong u ts → IsTextAmong u (ts ++ t ∷ [])
among_pushed [] t u (k, is) = absurd (none-some u is)
among_pushed (v ∷ ts) t u (zero, is) = (0, is)
among_pushed (v ∷ ts) t u (suc k, is) = let there = among_pushed ts t u (k, is) in (suc there.0, there.1)

-- orders

texts_pushed : (os : List FoundText) (o : FoundText) → texts_of_orders (os ++ o ∷ []) ≡ texts_of_orders os ++ o.text.items ∷ []
texts_pushed os o = map-append (λ (q : FoundText). q.text.items) os (o ∷ [])

-- the last of these orders decides the comparison
pub compared_last : (os : List FoundText) (at : ℕ) (o : FoundText) (text : List ℕ) → length os ≡ at + 1 → o ≡ get_or os at o
    → compared o.text.items text ≡ last_compared (texts_of_orders os) text
compared_last [] at o text many is = absurd (omega arith)
compared_last (p ∷ []) zero o text many is = ap (λ (q : FoundText). compared q.text.items text) is
compared_last (p ∷ []) (suc at) o text many is = absurd (omega arith)
compared_last (p ∷ q ∷ os) zero o text many is = absurd (omega arith)
compared_last (p ∷ q ∷ os) (suc at) o text many is = compared_last (q ∷ os) at o text (omega arith) is

-- it was added at the end
pub adds_new : (old : List FoundText) (o : FoundText) (new : List FoundText) → new ≡ old ++ o ∷ [] → last_compared (texts_of_orders old) o.text.items ≡ Less → AddsOrder old o new
adds_new old o new is after =
    let texts : texts_of_orders new ≡ texts_of_orders old ++ o.text.items ∷ [] = ap texts_of_orders is ∙ texts_pushed old o in record {
      added = inr is;
      there = subst (IsTextAmong o.text.items) (sym texts) (there_pushed (texts_of_orders old) o.text.items);
      ascending = λ all. subst AreAscending (sym texts) (ascending_push (texts_of_orders old) o.text.items all after);
    }

-- its text was there
pub adds_none : (old : List FoundText) (o : FoundText) (new : List FoundText) → new ≡ old → last_compared (texts_of_orders old) o.text.items ≡ Equal → AddsOrder old o new
adds_none old o new is last = record {
  added = inl is;
  there = subst (λ os. IsTextAmong o.text.items (texts_of_orders os)) (sym is) (there_last (texts_of_orders old) o.text.items last);
  ascending = λ all. subst (λ os. AreAscending (texts_of_orders os)) (sym is) all;
}

-- what was among the texts still is
pub among_added : (old : List FoundText) (o : FoundText) (new : List FoundText) (t : List ℕ) → IsAdded old o new → IsTextAmong t (texts_of_orders old) → IsTextAmong t (texts_of_orders new)
among_added old o new t (inl is) there = subst (λ os. IsTextAmong t (texts_of_orders os)) (sym is) there
among_added old o new t (inr is) there =
    subst (IsTextAmong t) (sym (ap texts_of_orders is ∙ texts_pushed old o)) (among_pushed (texts_of_orders old) o.text.items t there)

-- what holds of texts holds with that of an order that was added
pub texts_hold : (P : List ℕ → Type 0) (old : List FoundText) (o : FoundText) (new : List FoundText) → All P (texts_of_orders old) → P o.text.items → IsAdded old o new → All P (texts_of_orders new)
texts_hold P old o new all holds (inl is) = subst (λ (ps : List FoundText). All P (texts_of_orders ps)) (sym is) all
texts_hold P old o new all holds (inr is) =
    subst (All P) (sym (ap texts_of_orders is ∙ texts_pushed old o)) (All-push P (texts_of_orders old) o.text.items all holds)

-- the text of this order is there, or the order is still to come
abbrev pub IsThere : FoundText → List FoundText → List FoundText → Type 0
IsThere o texts rest = IsTextAmong o.text.items (texts_of_orders texts) ⊎ ((j : ℕ) × (slice_get rest j ≡ Some o))

pub there_more : (old new : List FoundText) (p : FoundText) (rest : List FoundText) (o : FoundText) → AddsOrder old p new → IsThere o old (p ∷ rest) → IsThere o new rest
there_more old new p rest o adds (inl there) = inl (among_added old p new o.text.items adds.added there)
there_more old new p rest o adds (inr (zero, is)) = inl (subst (λ (q : FoundText). IsTextAmong q.text.items (texts_of_orders new)) (same_Some p o is) adds.there)
there_more old new p rest o adds (inr (suc j, is)) = inr (j, is)

pub there_all : (texts : List FoundText) (o : FoundText) → IsThere o texts [] → IsTextAmong o.text.items (texts_of_orders texts)
there_all texts o (inl there) = there
there_all texts o (inr (j, is)) = absurd (none-some o is)

-- what is among orders is among them in another order
pub moved : (xs ys : List FoundText) (at : ℕ) (x : FoundText) → IsPermutation xs ys → slice_get xs at ≡ Some x → (to : ℕ) × (slice_get ys to ≡ Some x)
moved xs ys at x moves is =
    let there = Contains-permutation xs ys x moves (at, slice_get_within xs at x is, get_or_from_slice_get xs at x x is) in
    (there.0, slice_get-get_or ys there.0 x there.1 ∙ ap Some there.2)
