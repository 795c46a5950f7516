-- The handles of a domain in the order of its maps, by its mappings.
use Rattle.std.proofs.Common.{◌≡◌, ◌<◌, ◌==◌, ℕ, Bool, true, false, cond, not, List, [], ◌∷◌, ◌++◌, map, Option, Some}
use Rattle.std.proofs.Common.{None, refl, sym, ap, ◌∙◌, subst, inl, inr, arith, ◌⊎◌, ⊎_elim, slice_index_or, ◌&&◌}
use Rattle.std.specs.Prelude.{count_by, is_some}
use Rattle.std.proofs.lemmas.Bool.{eq-eqb, ne_eqb}
use Rattle.std.proofs.lemmas.List.{map-append}
use Rattle.std.proofs.lemmas.Option.{none-some}
use Rattle.gt_handles.specs.Handles.{HandleMap, under, value_of}
use Rattle.gt_model.specs.Asking.{same_handle}
use Rattle.gt_handles.specs.Laws.{inserted-listed, nothing-listed, same-handle, taken-listed}
use Rattle.gt_handles.specs.Listing.{HasJust, listed, unlisted}
use Rattle.gt_model.specs.declared.handle.Handle.{Handle}
use Rattle.gt_handles.specs.declared.handles.HandleSlot.{HandleSlot}
use Rattle.gt_model.specs.declared.held.HeldPin.{HeldPin}
use Rattle.gt_live.specs.Mappings.{AddsMapping, KeepsMappings, Removes}
use Rattle.gt_word_history.specs.Views.{IsAmong}
use Rattle.gt_explore_replay.specs.Orders.{handles_without}

abbrev names : List (Handle × HeldPin) → List Handle
names xs = map (λ (m : Handle × HeldPin). m.0) xs

-- no two of them have the same serial
abbrev Differ : List Handle → Type 0
Differ [] = Unit {0}
Differ (h ∷ hs) = ((k : Handle) → IsAmong k hs → k.serial ≡ h.serial → ⊥) × Differ hs

-- the map has its values under exactly these handles, in the order in which they were given
pub record Keeps (kept : HandleMap HeldPin) (held : List Handle) : Type 0 where
  xs : List (Handle × HeldPin)
  just : HasJust kept xs kept.given
  named : held ≡ names xs
  differ : Differ (names xs)
  below : (h : Handle) → IsAmong h (names xs) → h.serial < kept.given

pub keeps-new : (kept : HandleMap HeldPin) → kept ≡ record { slots = []; given = 0; room = 0 } → Keeps kept []
keeps-new kept e = subst (λ (k : HandleMap HeldPin). Keeps k []) (sym e) (record { xs = []; just = nothing-listed; named = refl; differ = tt; below = λ h is. absurd is })

pub keeps-same : (old new : HandleMap HeldPin) (held : List Handle) → KeepsMappings old new → Keeps old held → Keeps new held
keeps-same old new held same k = record {
  xs = k.xs;
  just = record {
    named = ap (λ (ss : List (Option (HandleSlot HeldPin))). λ (h : Handle). under h.serial (slice_index_or ss h.key None)) same.slots ∙ k.just.named;
    count = ap (λ (ss : List (Option (HandleSlot HeldPin))). count_by is_some ss) same.slots ∙ k.just.count;
    given_is = refl;
    apart = k.just.apart;
  };
  named = k.named;
  differ = k.differ;
  below = λ h is. subst (λ (n : ℕ). h.serial < n) (sym same.given) (k.below h is);
}

among-last : (h k : Handle) (hs : List Handle) → IsAmong k (hs ++ h ∷ []) → IsAmong k hs ⊎ (k ≡ h)
among-last h k [] (inl e) = inr e
among-last h k [] (inr is) = absurd is
among-last h k (x ∷ hs) (inl e) = inl (inl e)
among-last h k (x ∷ hs) (inr is) = ⊎_elim (λ a. inl (inr a)) (λ e. inr e) (among-last h k hs is)

differ-push : (h : Handle) (hs : List Handle) (n : ℕ) → h.serial ≡ n → ((k : Handle) → IsAmong k hs → k.serial < n) → Differ hs → Differ (hs ++ h ∷ [])
differ-push h [] n e below d = (λ k is. absurd is, tt)
differ-push h (x ∷ hs) n e below d = (
  λ k is same. ⊎_elim (λ a. d.0 k a same) (λ f. (let b = below x (inl refl) in let s = ap (λ (y : Handle). y.serial) f in omega (arith, b, s, e, same))) (among-last h k hs is),
  differ-push h hs n e (λ k is. below k (inr is)) d.1,
)

pub keeps-more : (old new : HandleMap HeldPin) (h : Handle) (p : HeldPin) (held : List Handle) → AddsMapping old new h p → Keeps old held → Keeps new (held ++ h ∷ [])
keeps-more old new h p held adds k =
    let more : names (k.xs ++ (h, p) ∷ []) ≡ names k.xs ++ h ∷ [] = map-append (λ (m : Handle × HeldPin). m.0) k.xs ((h, p) ∷ []) in record {
      xs = k.xs ++ (h, p) ∷ [];
      just = subst (HasJust new (k.xs ++ (h, p) ∷ [])) (sym adds.inserted.given) (inserted-listed old new h p k.xs old.given adds.inserted k.just);
      named = ap (λ l. l ++ h ∷ []) k.named ∙ sym more;
      differ = subst Differ (sym more) (differ-push h (names k.xs) old.given adds.serial k.below k.differ);
      below = λ g is. ⊎_elim (λ a. (let b = k.below g a in let n = adds.inserted.given in omega (arith, b, n))) (λ e. (let s = ap (λ (y : Handle). y.serial) e in let t = adds.serial in let n = adds.inserted.given in omega (arith, s, t, n)))
          (among-last h g (names k.xs) (subst (IsAmong g) more is));
    }

-- one handle less

all-others : (h : Handle) (hs : List Handle) → ((k : Handle) → IsAmong k hs → k.serial ≡ h.serial → ⊥) → handles_without h hs ≡ hs
all-others h [] apart = refl
all-others h (x ∷ hs) apart =
    ap (λ (b : Bool). cond (not b) (x ∷ handles_without h hs) (handles_without h hs)) (ne_eqb x.serial h.serial (apart x (inl refl)))
    ∙ ap (λ l. x ∷ l) (all-others h hs (λ k is. apart k (inr is)))

is-listed : (xs : List (Handle × HeldPin)) (h : Handle) (p : HeldPin) → listed xs h ≡ Some p → IsAmong h (names xs)
is-listed [] h p e = absurd (none-some p e)
is-listed (x ∷ xs) h p e = by (is-listed xs h p) (same_handle x.0 h) refl e
  where
    by : (listed xs h ≡ Some p → IsAmong h (names xs)) → (b : Bool) → same_handle x.0 h ≡ b → cond b (Some x.1) (listed xs h) ≡ Some p → IsAmong h (names (x ∷ xs))
    by rest true is f = inl (sym (same-handle x.0 h is))
    by rest false is f = inr (rest f)

-- without the first of its name
record Without (h : Handle) (xs : List (Handle × HeldPin)) : Type 0 where
  before : List Handle
  after : List Handle
  whole : names xs ≡ before ++ h ∷ after
  left : names (unlisted h xs) ≡ before ++ after
  same : handles_without h (names xs) ≡ names (unlisted h xs)

without : (h : Handle) (xs : List (Handle × HeldPin)) (p : HeldPin) → Differ (names xs) → listed xs h ≡ Some p → Without h xs
without h [] p d e = absurd (none-some p e)
without h (x ∷ xs) p d e = by (without h xs p d.1) (same_handle x.0 h) refl e
  where
    by : (listed xs h ≡ Some p → Without h xs) → (b : Bool) → same_handle x.0 h ≡ b → cond b (Some x.1) (listed xs h) ≡ Some p → Without h (x ∷ xs)
    by rest-of true is f =
        let same : x.0 ≡ h = same-handle x.0 h is in
        let rest : unlisted h (x ∷ xs) ≡ xs = ap (λ (b : Bool). cond b xs (x ∷ unlisted h xs)) is in record {
          before = [];
          after = names xs;
          whole = ap (λ (k : Handle). k ∷ names xs) same;
          left = ap names rest;
          same = ap (λ (b : Bool). cond (not b) (x.0 ∷ handles_without h (names xs)) (handles_without h (names xs))) (eq-eqb x.0.serial h.serial (ap (λ (k : Handle). k.serial) same))
              ∙ (all-others h (names xs) (λ k a s. d.0 k a (s ∙ ap (λ (q : Handle). q.serial) (sym same))) ∙ sym (ap names rest));
        }
    by rest-of false is f =
        let w = rest-of f in
        let rest : unlisted h (x ∷ xs) ≡ x ∷ unlisted h xs = ap (λ (b : Bool). cond b xs (x ∷ unlisted h xs)) is in
        let other : x.0.serial ≡ h.serial → ⊥ = λ s. d.0 h (is-listed xs h p f) (sym s) in record {
          before = x.0 ∷ w.before;
          after = w.after;
          whole = ap (λ l. x.0 ∷ l) w.whole;
          left = ap names rest ∙ ap (λ l. x.0 ∷ l) w.left;
          same = ap (λ (b : Bool). cond (not b) (x.0 ∷ handles_without h (names xs)) (handles_without h (names xs))) (ne_eqb x.0.serial h.serial other)
              ∙ (ap (λ l. x.0 ∷ l) w.same ∙ sym (ap names rest));
        }

still-among : (h k : Handle) (xs : List (Handle × HeldPin)) → IsAmong k (names (unlisted h xs)) → IsAmong k (names xs)
still-among h k [] is = is
still-among h k (x ∷ xs) is = by (still-among h k xs) (same_handle x.0 h) is
  where
    by : (IsAmong k (names (unlisted h xs)) → IsAmong k (names xs)) → (b : Bool) → IsAmong k (names (cond b xs (x ∷ unlisted h xs))) → IsAmong k (names (x ∷ xs))
    by rest true a = inr a
    by rest false (inl e) = inl e
    by rest false (inr a) = inr (rest a)

differ-less : (h : Handle) (xs : List (Handle × HeldPin)) → Differ (names xs) → Differ (names (unlisted h xs))
differ-less h [] d = tt
differ-less h (x ∷ xs) d = by (differ-less h xs d.1) (same_handle x.0 h)
  where
    by : Differ (names (unlisted h xs)) → (b : Bool) → Differ (names (cond b xs (x ∷ unlisted h xs)))
    by rest true = d.1
    by rest false = (λ k is s. d.0 k (still-among h k xs is) s, rest)

-- what an unmap leaves
pub record Less (new : HandleMap HeldPin) (h : Handle) (held : List Handle) : Type 0 where
  pub keeps : Keeps new (handles_without h held)
  pub before : List Handle
  pub after : List Handle
  pub whole : held ≡ before ++ h ∷ after
  pub left : handles_without h held ≡ before ++ after

pub keeps-less : (old new : HandleMap HeldPin) (h : Handle) (p : HeldPin) (held : List Handle) → Removes old new h p → Keeps old held → Less new h held
keeps-less old new h p held removes k =
    let found : listed k.xs h ≡ Some p = ap (λ (f : Handle → Option HeldPin). f h) (sym k.just.named) ∙ removes.taken.value in
    let w = without h k.xs p k.differ found in
    let same : handles_without h held ≡ names (unlisted h k.xs) = ap (handles_without h) k.named ∙ w.same in record {
      keeps = record {
        xs = unlisted h k.xs;
        just = subst (HasJust new (unlisted h k.xs)) (sym removes.taken.given) (taken-listed old new h p k.xs old.given removes.taken k.just);
        named = same;
        differ = differ-less h k.xs k.differ;
        below = λ g is. subst (λ (n : ℕ). g.serial < n) (sym removes.taken.given) (k.below g (still-among h g k.xs is));
      };
      before = w.before;
      after = w.after;
      whole = k.named ∙ w.whole;
      left = same ∙ w.left;
    }

-- a map without values has no handles
pub keeps-none : (kept : HandleMap HeldPin) (held : List Handle) → ((h : Handle) → value_of kept h ≡ None) → Keeps kept held → held ≡ []
keeps-none kept held none k = k.named ∙ by k.xs (λ h. ap (λ (f : Handle → Option HeldPin). f h) (sym k.just.named) ∙ none h)
  where
    same : (x : Handle) → same_handle x x ≡ true
    same x = (λ j. eq-eqb x.serial x.serial refl j && x.key == x.key) ∙ eq-eqb x.key x.key refl

    by : (xs : List (Handle × HeldPin)) → ((h : Handle) → listed xs h ≡ None) → names xs ≡ []
    by [] e = refl
    by (x ∷ xs) e = absurd (none-some x.1 (sym (e x.0) ∙ ap (λ (b : Bool). cond b (Some x.1) (listed xs x.0)) (same x.0)))
