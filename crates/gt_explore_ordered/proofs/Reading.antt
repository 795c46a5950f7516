-- Moves and happenings, one by one.
use Rattle.std.proofs.Common.{◌≡◌, ◌∙◌, ◌+◌, ◌<◌, ◌≤◌, ap, refl, sym, subst, arith, ℕ, zero, suc, Bool, true, false, List, [], ◌∷◌, ◌++◌, map, length, take, drop, Option, Some, None, add-one}
use Rattle.std.proofs.lemmas.List.{map-append}
use Rattle.std.proofs.lemmas.Option.{none-some, same_Some, slice_get-map}
use Rattle.std.proofs.Math.Bool.{cond}
use Rattle.std.specs.Prelude.{◌==◌, ◌&&◌, ◌||◌, if◌then◌else◌, slice_get}
use Rattle.gt_types.specs.declared.DomId.{DomId}
use Rattle.gt_explore_replay.proofs.Coming.{mapped_back}
use Rattle.gt_explore_replay.specs.Orders.{Happening, doer, own_happenings}
use Rattle.gt_precedence.proofs.Happenings.{same-dom}
use Rattle.gt_precedence.proofs.Lists.{count}
use Rattle.gt_precedence.specs.Precedence.{answers_call, begins_call, calls_answered, calls_begun}
use Rattle.gt_explore_ordered.specs.Holding.{calls_answered_by, calls_begun_by, held_from, is_completed, is_completed_by, move_shown}
use Rattle.gt_explore_ordered.specs.declared.following.CallMove.{CallMove}
use Rattle.gt_explore_ordered.specs.declared.places.CallOrder.{CallOrder}
use Rattle.gt_explore_ordered.proofs.Counts.{counted-no, counted-other, counted-yes}

abbrev made : DomId → Bool → Bool → CallMove
made d b a = record { dom = d; begins = b; answers = a }

pub same-move : (d : DomId) (b a : Bool) (x : Happening) → d ≡ doer x → b ≡ begins_call x → a ≡ answers_call x → made d b a ≡ move_shown x
same-move d b a x own begins answers =
    ap (λ (k : DomId). made k b a) own ∙ ap (λ (q : Bool). made (doer x) q a) begins ∙ ap (λ (q : Bool). made (doer x) (begins_call x) q) answers

-- one more move
pub moves-more : (old new : List CallMove) (m : CallMove) (hs : List Happening) (x : Happening) → old ≡ map move_shown hs → new ≡ old ++ m ∷ [] → m ≡ move_shown x → new ≡ map move_shown (hs ++ x ∷ [])
moves-more old new m hs x before more is =
    more ∙ ap (λ (l : List CallMove). l ++ m ∷ []) before ∙ ap (λ (z : CallMove). map move_shown hs ++ z ∷ []) is ∙ sym (map-append move_shown hs (x ∷ []))

pub take-next : {X : Type 0} (hs : List X) (i : ℕ) (x : X) → slice_get hs i ≡ Some x → take (suc i) hs ≡ take i hs ++ x ∷ []
take-next [] i x there = absurd (none-some x there)
take-next {X} (y ∷ hs) zero x there = ap (λ (z : X). z ∷ []) (same_Some y x there)
take-next {X} (y ∷ hs) (suc i) x there = ap (λ (l : List X). y ∷ l) (take-next hs i x there)

pub drop-next : {X : Type 0} (hs : List X) (i : ℕ) (x : X) → slice_get hs i ≡ Some x → drop i hs ≡ x ∷ drop (suc i) hs
drop-next [] i x there = absurd (none-some x there)
drop-next {X} (y ∷ hs) zero x there = ap (λ (z : X). z ∷ hs) (same_Some y x there)
drop-next (y ∷ hs) (suc i) x there = drop-next hs i x there

counted : (p : Happening → Bool) (d : DomId) (hs : List Happening) (x : Happening) → count p (own_happenings d (hs ++ x ∷ [])) ≡ (if p x && ((doer x).0 == d.0) then 1 else 0) + count p (own_happenings d hs)
counted p d hs x = by (p x) ((doer x).0 == d.0) refl refl
  where
    by : (a b : Bool) → p x ≡ a → ((doer x).0 == d.0) ≡ b → count p (own_happenings d (hs ++ x ∷ [])) ≡ (if p x && ((doer x).0 == d.0) then 1 else 0) + count p (own_happenings d hs)
    by true true ea eb = let more = counted-yes p d hs x (same-dom (doer x) d eb) ea in rw (ea, eb) (omega (arith, more))
    by false true ea eb = let more = counted-no p d hs x (same-dom (doer x) d eb) ea in rw ea (omega (arith, more))
    by true false ea eb = let more = counted-other p d hs x eb in rw (ea, eb) (omega (arith, more))
    by false false ea eb = let more = counted-other p d hs x eb in rw ea (omega (arith, more))

one-most : (b : Bool) → (if b then 1 else 0) ≤ 1
one-most true = omega arith
one-most false = omega arith

pub begun-few : (d : DomId) (m : CallMove) → calls_begun_by d m ≤ 1
begun-few d m = one-most (m.begins && (m.dom.0 == d.0))

pub answered-few : (d : DomId) (m : CallMove) → calls_answered_by d m ≤ 1
answered-few d m = one-most (m.answers && (m.dom.0 == d.0))

-- the moves so far show what has happened so far
pub record ReadSoFar (o : CallOrder) (at begun answered : ℕ) (hs : List Happening) : Type 0 where
  pub begun_is : begun ≡ calls_begun o.second.dom (take at hs)
  pub answered_is : answered ≡ calls_answered o.first.dom (take at hs)
  pub left : held_from o [] hs ≡ held_from o (take at hs) (drop at hs)

module _ (o : CallOrder) (moves : List CallMove) (at begun answered : ℕ) (m : CallMove) (there : slice_get moves at ≡ Some m) (hs : List Happening) (are : moves ≡ map move_shown hs) (read : ReadSoFar o at begun answered hs) where
  shown : (x : Happening) × (slice_get hs at ≡ Some x) × (move_shown x ≡ m)
  shown = mapped_back move_shown (slice_get hs at) m (sym (slice_get-map move_shown hs at) ∙ ap (λ (l : List CallMove). slice_get l at) (sym are) ∙ there)

  met : is_completed_by o begun answered m ≡ is_completed o (take at hs) shown.0
  met =
      ap (λ (n : ℕ). is_completed_by o n answered m) read.begun_is ∙ ap (λ (n : ℕ). is_completed_by o (calls_begun o.second.dom (take at hs)) n m) read.answered_is
      ∙ ap (λ (z : CallMove). is_completed_by o (calls_begun o.second.dom (take at hs)) (calls_answered o.first.dom (take at hs)) z) (sym shown.2)

  later : held_from o [] hs ≡ (is_completed_by o begun answered m || held_from o (take (suc at) hs) (drop (suc at) hs))
  later =
      read.left ∙ ap (held_from o (take at hs)) (drop-next hs at shown.0 shown.1)
      ∙ ap (λ (b : Bool). b || held_from o (take at hs ++ shown.0 ∷ []) (drop (suc at) hs)) (sym met)
      ∙ ap (λ (l : List Happening). is_completed_by o begun answered m || held_from o l (drop (suc at) hs)) (sym (take-next hs at shown.0 shown.1))

  pub held-here : is_completed_by o begun answered m ≡ true → true ≡ held_from o [] hs
  held-here holds = sym (later ∙ ap (λ (b : Bool). b || held_from o (take (suc at) hs) (drop (suc at) hs)) holds)

  pub read-more : is_completed_by o begun answered m ≡ false → (next more told : ℕ) → next ≡ at + 1 → more ≡ begun + calls_begun_by o.second.dom m → told ≡ answered + calls_answered_by o.first.dom m → ReadSoFar o next more told hs
  read-more fails next more told n b a =
      let e : next ≡ suc at = omega (arith, n) in
      let x = shown.0 in
      let one : calls_begun_by o.second.dom m ≡ calls_begun_by o.second.dom (move_shown x) = ap (calls_begun_by o.second.dom) (sym shown.2) in
      let two : calls_answered_by o.first.dom m ≡ calls_answered_by o.first.dom (move_shown x) = ap (calls_answered_by o.first.dom) (sym shown.2) in
      let begun-here = counted begins_call o.second.dom (take at hs) x in
      let answered-here = counted answers_call o.first.dom (take at hs) x in
      let r = read.begun_is in let s = read.answered_is in
      record {
        begun_is = let total : more ≡ calls_begun o.second.dom (take at hs ++ x ∷ []) = omega (arith, b, one, begun-here, r) in
            total ∙ ap (calls_begun o.second.dom) (sym (take-next hs at x shown.1)) ∙ ap (λ (i : ℕ). calls_begun o.second.dom (take i hs)) (sym e);
        answered_is = let total : told ≡ calls_answered o.first.dom (take at hs ++ x ∷ []) = omega (arith, a, two, answered-here, s) in
            total ∙ ap (calls_answered o.first.dom) (sym (take-next hs at x shown.1)) ∙ ap (λ (i : ℕ). calls_answered o.first.dom (take i hs)) (sym e);
        left = later ∙ ap (λ (q : Bool). q || held_from o (take (suc at) hs) (drop (suc at) hs)) fails ∙ ap (λ (i : ℕ). held_from o (take i hs) (drop i hs)) (sym e);
      }

drop-all : (hs : List Happening) (at : ℕ) → length hs ≤ at → drop at hs ≡ []
drop-all [] zero le = refl
drop-all [] (suc at) le = refl
drop-all (x ∷ hs) zero le = absurd (omega (arith, le))
drop-all (x ∷ hs) (suc at) le = drop-all hs at (omega (arith, le))

-- at the end nothing was met
pub none-held : (o : CallOrder) (at begun answered : ℕ) (hs : List Happening) → ReadSoFar o at begun answered hs → length hs ≤ at → false ≡ held_from o [] hs
none-held o at begun answered hs read le = sym (read.left ∙ ap (held_from o (take at hs)) (drop-all hs at le))
