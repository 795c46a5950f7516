-- States as lists of numbers of their parts.
use Rattle.std.proofs.Common.{◌≡◌, ◌<◌, ◌≤◌, ◌+◌, ℕ, zero, suc, Option, None, List, [], ◌∷◌, ◌++◌, length, take, get_or, ap, sym, ◌∙◌, refl}
use Rattle.std.proofs.Common.{arith, subst, inl, inr, Result, Ok, Err, OnOk, IfOk, Some, slice_get, append_assoc}
use Rattle.std.proofs.lemmas.List.{append-nil, take_more}
use Rattle.std.proofs.lemmas.Option.{same_Some, slice_get_within}
use Rattle.gt_explore_search.specs.declared.spaces.Turn.{Turn}
use Rattle.gt_explore_search.specs.Exploring.{IsNumbered}
use Rattle.gt_explore_search.specs.Parts.{Extends, HandHolds, HasNumber, HasNumberAt, HasNumbers, HasPart, RepeatsPart, IsJoined, IsStateAt}
use Rattle.gt_explore_search.specs.Parts.{Pairwise, Splitting, by_numbers}
use Rattle.gt_explore_search.specs.Ways.{Ways, HasEnoughTurns, IsShownSo, LedFits, MayEnd, MovesTo, ShowsFirst}
use Rattle.gt_explore_search.specs.declared.spaces.TurnResult.{TurnResult}
use Rattle.gt_explore_search.specs.declared.states.StateIndex.{StateIndex}
use Rattle.gt_explore_search.specs.declared.states.WholeState.{WholeState}
use Rattle.gt_explore_search.specs.declared.spaces.TurnResult.TheVariants as turn_results
use Rattle.gt_explore_search.specs.Numbers.{IsKeptAs}
use Rattle.gt_explore_search.proofs.Keeping.{at_last, get_grown}

-- lists that grow

pub extends-self : {X : Type 0} (xs : List X) → Extends xs xs
extends-self xs = ([], sym (append-nil xs))

pub extends-on : {X : Type 0} (xs ys zs : List X) → Extends xs ys → Extends ys zs → Extends xs zs
extends-on xs ys zs (a, first) (b, second) = (a ++ b, second ∙ ap (λ l. l ++ b) first ∙ append_assoc xs a b)

-- the parts of an index that grew, between two that are the same
pub grown-between : {P : Type 0} (a b d e : StateIndex P) → b ≡ a → Extends b.parts.kept.items d.parts.kept.items → e ≡ d → Extends a.parts.kept.items e.parts.kept.items
grown-between a b d e first grows last = subst (λ s. Extends s.parts.kept.items e.parts.kept.items) first (subst (λ s. Extends b.parts.kept.items s.parts.kept.items) (sym last) grows)

pub run-grows : {P : Type 0} (a b d : StateIndex P) (all : List P) → b ≡ a → Extends b.parts.kept.items d.parts.kept.items → Extends d.parts.kept.items all → Extends a.parts.kept.items all
run-grows a b d all same grows more = extends-on a.parts.kept.items d.parts.kept.items all (subst (λ s. Extends s.parts.kept.items d.parts.kept.items) same grows) more

-- pairs

pair-more : {X Y : Type 0} (R : X → Y → Type 0) (xs : List X) (ys : List Y) (x : X) (y : Y) → Pairwise R xs ys → R x y → Pairwise R (xs ++ x ∷ []) (ys ++ y ∷ [])
pair-more R [] [] x y a b = (b, tt)
pair-more R (v ∷ xs) (w ∷ ys) x y a b = (a.0, pair-more R xs ys x y a.1 b)
pair-more R [] (w ∷ ys) x y a b = absurd a
pair-more R (v ∷ xs) [] x y a b = absurd a

-- a loop's step
pub pair-step : {X Y : Type 0} (R : X → Y → Type 0) (xs : List X) (ys new : List Y) (i : ℕ) (x d : X) (y : Y) → i < length xs → Pairwise R (take i xs) ys → x ≡ get_or xs i d → R x y → new ≡ ys ++ y ∷ [] → Pairwise R (take (i + 1) xs) new
pair-step {X} {Y} R xs ys new i x d y within a is b e = subst (Pairwise R (take (i + 1) xs)) (sym e)
    (subst (λ (l : List X). Pairwise R l (ys ++ y ∷ [])) (sym (take_more xs i d within)) (pair-more R (take i xs) ys (get_or xs i d) y a (subst (λ (z : X). R z y) is b)))

pair-on : {X Y : Type 0} (R S : X → Y → Type 0) → ((x : X) (y : Y) → R x y → S x y) → (xs : List X) (ys : List Y) → Pairwise R xs ys → Pairwise S xs ys
pair-on R S so [] [] a = tt
pair-on R S so (x ∷ xs) (y ∷ ys) a = (so x y a.0, pair-on R S so xs ys a.1)
pair-on R S so [] (y ∷ ys) a = absurd a
pair-on R S so (x ∷ xs) [] a = absurd a

-- parts

pub number-grown : {W P : Type 0} (parts : Splitting W P) (old new : List P) (p : P) (n : ℕ) → Extends old new → HasNumber parts old p n → HasNumber parts new p n
number-grown parts old new p n more (q, there, same) = (q, get_grown old new n q more there, same)

pub numbers-grown : {W P : Type 0} (parts : Splitting W P) (old new : List P) (ps : List P) (ns : List ℕ) → Extends old new → Pairwise (HasNumber parts old) ps ns → Pairwise (HasNumber parts new) ps ns
numbers-grown parts old new ps ns more a = pair-on (HasNumber parts old) (HasNumber parts new) (λ p n has. number-grown parts old new p n more has) ps ns a

got : {X : Type 0} (xs : List X) (i : ℕ) (x : X) → slice_get xs i ≡ Some x → x ≡ get_or xs i x
got [] i x is = refl
got (y ∷ xs) zero x is = sym (same_Some y x is)
got (y ∷ xs) (suc i) x is = got xs i x is

-- a loop's step
pub number-step : {W P : Type 0} (parts : Splitting W P) (old new : List P) (w : W) (ns more : List ℕ) (i n : ℕ) → Pairwise (HasNumber parts old) (take i (parts.of w)) ns → HasNumberAt parts new w i n → Extends old new → more ≡ ns ++ n ∷ [] → Pairwise (HasNumber parts new) (take (i + 1) (parts.of w)) more
number-step parts old new w ns more i n each (p, there, has) grows e = pair-step (HasNumber parts new) (parts.of w) ns more i p p n (slice_get_within (parts.of w) i p there) (numbers-grown parts old new (take i (parts.of w)) ns grows each) (got (parts.of w) i p there) has e

-- its end
pub numbers-all : {W P : Type 0} (parts : Splitting W P) (kept : List P) (w : W) (ns : List ℕ) (i : ℕ) → length (parts.of w) ≤ i → Pairwise (HasNumber parts kept) (take i (parts.of w)) ns → HasNumbers parts kept w ns
numbers-all parts kept w ns i all each = subst (λ l. Pairwise (HasNumber parts kept) l ns) (whole (parts.of w) i all) each
  where
    whole : {X : Type 0} (xs : List X) (n : ℕ) → length xs ≤ n → take n xs ≡ xs
    whole [] zero le = refl
    whole [] (suc n) le = refl
    whole (x ∷ xs) zero le = absurd (omega (arith, le))
    whole (x ∷ xs) (suc n) le = ap (λ l. x ∷ l) (whole xs n (omega (arith, le)))

-- a copy of the part with a number is the same as each part with this number
one-copied : {W P : Type 0} (parts : Splitting W P) (old all : List P) (p : P) (n : ℕ) (s : P) → Extends old all → HasNumber parts all p n → RepeatsPart parts old n s → parts.same p s
one-copied parts old all p n s more (q, there, same) (r, here, like) =
    let is : q ≡ r = same_Some q r (sym there ∙ get_grown old all n r more here) in
    parts.same_on p q s same (subst (λ x. parts.same x s) (sym is) like)

copied : {W P : Type 0} (parts : Splitting W P) (old all ps : List P) (ns : List ℕ) (qs : List P) → Extends old all → Pairwise (HasNumber parts all) ps ns → Pairwise (RepeatsPart parts old) ns qs → Pairwise parts.same ps qs
copied parts old all [] [] [] more a b = tt
copied parts old all (p ∷ ps) (n ∷ ns) (q ∷ qs) more a b = (one-copied parts old all p n q more a.0 b.0, copied parts old all ps ns qs more a.1 b.1)
copied parts old all [] [] (q ∷ qs) more a b = absurd b
copied parts old all (p ∷ ps) (n ∷ ns) [] more a b = absurd b
copied parts old all [] (n ∷ ns) qs more a b = absurd a
copied parts old all (p ∷ ps) [] qs more a b = absurd a

-- a part that is appended
pub kept-more : {X : Type 0} (xs new : List X) (x : X) → new ≡ xs ++ x ∷ [] → Extends xs new
kept-more xs new x is = (x ∷ [], is)

pub kept-last : {W P : Type 0} (parts : Splitting W P) (old new : List P) (w : W) (at : ℕ) (q : P) (n : ℕ) → n ≡ length old → new ≡ old ++ q ∷ [] → HasPart parts w at q → HasNumberAt parts new w at n
kept-last parts old new w at q n last is (p, here, same) = (
  p,
  here,
  (q, ap (λ (i : ℕ). slice_get new i) last ∙ ap (λ l. slice_get l (length old)) is ∙ at_last old q, same),
)

-- states

-- the state with this number is made of copies of its parts
pub state-at : {W P : Type 0} (ways : Ways W) (parts : Splitting W P) (old all : List P) (states : List (List ℕ)) (n : ℕ) (k : List ℕ) (made : List P) (v : W) → slice_get states n ≡ Some k → Extends old all
    → Pairwise (RepeatsPart parts old) k made → ((w : W) → Pairwise parts.same (parts.of w) made → IsShownSo ways w v) → IsStateAt ways parts all states n v
state-at ways parts old all states n k made v at more copies joins = (
  k,
  at,
  λ p shows. joins shows.0 (copied parts old all (parts.of shows.0) k made more shows.1 copies) p shows.2,
)

-- parts with the same number are the same
one-same : {W P : Type 0} (parts : Splitting W P) (all : List P) (p q : P) (n : ℕ) → HasNumber parts all p n → HasNumber parts all q n → parts.same p q
one-same parts all p q n (a, there, first) (b, here, second) =
    let is : a ≡ b = same_Some a b (sym there ∙ here) in
    parts.same_on p b q (subst (λ x. parts.same p x) is first) (parts.same_back q b second)

all-same : {W P : Type 0} (parts : Splitting W P) (all ps qs : List P) (ns : List ℕ) → Pairwise (HasNumber parts all) ps ns → Pairwise (HasNumber parts all) qs ns → Pairwise parts.same ps qs
all-same parts all [] [] [] a b = tt
all-same parts all (p ∷ ps) (q ∷ qs) (n ∷ ns) a b = (one-same parts all p q n a.0 b.0, all-same parts all ps qs ns a.1 b.1)
all-same parts all [] [] (n ∷ ns) a b = absurd a
all-same parts all [] (q ∷ qs) [] a b = absurd b
all-same parts all [] (q ∷ qs) (n ∷ ns) a b = absurd a
all-same parts all (p ∷ ps) qs [] a b = absurd a
all-same parts all (p ∷ ps) [] (n ∷ ns) a b = absurd b

-- a state shows all that its numbers show
pub joined-alike : {W P : Type 0} (ways : Ways W) (parts : Splitting W P) (all : List P) (k : List ℕ) (v : W) → ((w u : W) → Pairwise parts.same (parts.of w) (parts.of u) → IsShownSo ways w u) → HasNumbers parts all v k → IsJoined ways parts all k v
joined-alike ways parts all k v alike has = λ p shows. alike shows.0 v (all-same parts all (parts.of shows.0) (parts.of v) k shows.1 has) p shows.2

-- the state at hand, when more states were met
pub hand-grown : {W P : Type 0} (ways : Ways W) (parts : Splitting W P) (all : List P) (old new : List (List ℕ)) (hand : Option (WholeState W)) → (more : List (List ℕ)) × (new ≡ old ++ more) → HandHolds ways parts all old hand → HandHolds ways parts all new hand
hand-grown ways parts all old new None grew holds = tt
hand-grown ways parts all old new (Some whole) grew (k, there, joined) = (k, get_grown old new whole.number k grew there, joined)

-- the state at hand has this number
pub hand-here : {W P : Type 0} (ways : Ways W) (parts : Splitting W P) (all : List P) (states : List (List ℕ)) (hand : Option (WholeState W)) (whole : WholeState W) (number : ℕ) → hand ≡ Some whole → whole.number ≡ number → HandHolds ways parts all states hand → IsStateAt ways parts all states number whole.state
hand-here ways parts all states hand whole number is same holds = subst (λ (n : ℕ). IsStateAt ways parts all states n whole.state) same (subst (HandHolds ways parts all states) is holds)

-- none is at hand
pub hand-none : {W P : Type 0} (ways : Ways W) (parts : Splitting W P) (all : List P) (states : List (List ℕ)) (hand : Option (WholeState W)) → hand ≡ None → HandHolds ways parts all states hand
hand-none ways parts all states hand none = subst (HandHolds ways parts all states) (sym none) tt

-- numbers that are kept
pub is-numbered : {W P : Type 0} (ways : Ways W) (parts : Splitting W P) (all : List P) (old : List (List ℕ)) (k : List ℕ) (n : ℕ) (new : List (List ℕ)) → IsKeptAs old k n new → IsNumbered (by_numbers ways parts all) old k n new
is-numbered ways parts all old k n new (inl (same, there)) = inl (same, (k, there, λ p shows. shows))
is-numbered ways parts all old k n new (inr next) = inr next

-- the space of numbers

module _ {W P : Type 0} (ways : Ways W) (parts : Splitting W P) (all : List P) where
  pub enough : (k : List ℕ) (w : W) (turns : List Turn) → IsJoined ways parts all k w → HasEnoughTurns ways w turns → HasEnoughTurns (by_numbers ways parts all) k turns
  enough k w turns joined each p turn m more q shows next goes = each p turn m more q (joined p shows) next goes

  pub may-end : (k : List ℕ) (w : W) → IsJoined ways parts all k w → MayEnd (by_numbers ways parts all) k → MayEnd ways w
  may-end k w joined (p, shows, over) = (p, joined p shows, over)

  pub moves : (k l : List ℕ) (w v : W) (turn : Turn) (led : TurnResult) → IsJoined ways parts all k w → MovesTo ways w turn led v → HasNumbers parts all v l → MovesTo (by_numbers ways parts all) k turn led l
  moves k l w v turn led joined led_so has p q shows next = let moved = led_so p q (joined p shows) next in (moved.0, (v, has, moved.1))

  -- a move that leads nowhere
  pub moves-nowhere : (k : List ℕ) (w v : W) (turn : Turn) (led : TurnResult) (l : List ℕ) → IsJoined ways parts all k w → MovesTo ways w turn led v → led ≡ turn_results.Nowhere → MovesTo (by_numbers ways parts all) k turn led l
  moves-nowhere k w v turn led l joined led_so nowhere p q shows next = absurd (subst (λ (r : TurnResult). LedFits ways r turn.place p q) nowhere (led_so p q (joined p shows) next).0)

  pub first : (k : List ℕ) (w : W) → ShowsFirst ways w → HasNumbers parts all w k → ShowsFirst (by_numbers ways parts all) k
  first k w shows has p begins = (w, has, shows p begins)

-- results

pub if_ok_so : {A E P : Type 0} (Q : A → Type 0) (r : Result A E) → OnOk r P → (P → IfOk r Q) → IfOk r Q
if_ok_so Q (Ok x) holds so = so holds
if_ok_so Q (Err e) holds so = holds
