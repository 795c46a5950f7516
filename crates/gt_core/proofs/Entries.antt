-- What a legal history leaves of each entry: its body words encode it.
use Rattle.gt_core.proofs.Words.{ℕ, Bool, None, Option, Some, [], arith, cond, refl, subst, sym, ◌∷◌, ◌≡◌, eqb-true}
use Rattle.gt_core.proofs.Words.{◌==◌, DomId, GrantRef, EntryChange, Publish, BodyWord, Entry, Invalid, first}
use Rattle.gt_core.proofs.Words.{Observation, Taken, Step, Exchange, StoreBody, History, Setting, Underway}
use Rattle.gt_core.proofs.Words.{changed_entry_of, IsRight, IsSafe, IsSafeChange, IsSpelled, StepsRightIn, Answer}
use Rattle.gt_core.proofs.Words.{ItemEvent, Stepped, Item, body_at, entry_at, open_call, IsLegalHistory}
use Rattle.gt_model.specs.declared.change.BodyWord.TheVariants as body_words
use Rattle.gt_model.specs.declared.change.EntryChange.TheVariants as changes
use Rattle.gt_model.specs.History.{with_ro, changed_entry}
use Rattle.gt_model.proofs.Observers.{unstored, kept-entry, stepped, exchanged}
use Rattle.gt_core.proofs.{CallsStand.spelled-stays}

-- what holds for a step that was right in its call

pub of-safe : (s : Setting) (h : History) (i : Item) (step : Step) (seen : Observation) (o : Option Underway) → StepsRightIn s h i step seen o → IsSafe s h i
of-safe s h i step seen None a = absurd a
of-safe s h i step seen (Some c) a = a.safe

-- what holds for each entry after a change of one
pub at-change : (P : ℕ → ℕ → Option EntryChange → Type 0) (u g : ℕ) (change : EntryChange) (t r : ℕ) → P u g (Some change) → P t r None → P t r (cond (u == t) (cond (g == r) (Some change) None) None)
at-change P u g change t r here other = grind (arith, eqb-true)

-- body words

abbrev Spells : History → ℕ → ℕ → Entry → Type 0
Spells h t r e = IsSpelled e (body_at h t r body_words.First) (body_at h t r body_words.Second)

ro-spelled : (ro : Bool) (e : Entry) (first second : ℕ) → IsSpelled e first second → IsSpelled (with_ro ro e) first second
ro-spelled ro e first second a = grind arith

change-spells : (h : History) (u g : ℕ) (change : EntryChange) → IsSafeChange h u g change → Spells h u g (entry_at h u g) → Spells h u g (changed_entry change (entry_at h u g))
change-spells h u g (Publish entry) safe was = safe.1
change-spells h u g changes.Revoke safe was = tt
change-spells h u g changes.Withdraw safe was = tt
change-spells h u g change safe was = ro-spelled _ (entry_at h u g) _ _ was

-- a body word is stored on an invalid entry
store-spells : (d : DomId) (gref : GrantRef) (body_word : BodyWord) (word : ℕ) (seen : Observation) (a : Option Answer) (h : History) (t r : ℕ) (e : Entry) → entry_at h d.0 gref.0 ≡ Invalid → entry_at h t r ≡ e → Spells h t r e
    → Spells (stepped d (StoreBody gref body_word word) seen a ∷ h) t r e
unfolding body_at
store-spells d gref body_word word seen a h t r e invalid is was = grind (arith, eqb-true)

spelled-after : (s : Setting) (h : History) (d : DomId) (x : ItemEvent) (a : Option Answer) (t r : ℕ) → let i : Item = record { actor = d; happened = x; answer = a } in IsRight s h i
    → ((u g : ℕ) → Spells h u g (entry_at h u g)) → Spells (i ∷ h) t r (entry_at (i ∷ h) t r)
unfolding entry_at
spelled-after s h d (Stepped (Exchange gref looked change) Taken) a t r right was = let i = exchanged d gref looked change a in let safe = of-safe s h i _ _ (open_call h d.0) right in
    spelled-stays i h t r (entry_at (i ∷ h) t r) (λ r which. unstored i h t r which refl)
    (at-change (λ (u g : ℕ) (c : Option EntryChange). Spells h u g (changed_entry_of c (entry_at h u g))) d.0 gref.0 change t r (change-spells h d.0 gref.0 change safe (was d.0 gref.0)) (was t r))
spelled-after s h d (Stepped (StoreBody gref body_word word) seen) a t r right was = let i = stepped d (StoreBody gref body_word word) seen a in
    subst (Spells (i ∷ h) t r) (sym (kept-entry i h t r (λ r. refl)))
    (store-spells d gref body_word word seen a h t r (entry_at h t r) (of-safe s h i _ _ (open_call h d.0) right) refl (was t r))
spelled-after s h d x a t r right was = let i : Item = record { actor = d; happened = x; answer = a } in
    subst (Spells (i ∷ h) t r) (sym (kept-entry i h t r (λ r. refl))) (spelled-stays i h t r (entry_at h t r) (λ r which. unstored i h t r which refl) (was t r))

-- the body words of an entry encode it
pub spelled : (s : Setting) (h : History) (t r : ℕ) → IsLegalHistory s h → IsSpelled (entry_at h t r) (body_at h t r body_words.First) (body_at h t r body_words.Second)
unfolding IsLegalHistory entry_at
spelled s [] t r legal = tt
spelled s (i ∷ h) t r legal = spelled-after s h i.actor i.happened i.answer t r legal.0 (λ u g. spelled s h u g legal.1)
