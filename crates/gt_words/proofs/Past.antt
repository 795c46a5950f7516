-- What the rule says of words by views, and of pins of records that the owner's list has gone on from.
use Rattle.std.proofs.Common.{◌≡◌, ◌≢◌, inl, inr, ℕ, zero, suc, ◌+◌, ◌<◌, ◌≤◌, Bool, true, false, cond, nat_le, List}
use Rattle.std.proofs.Common.{[], ◌∷◌, map, get_or, sym, refl, ap, ◌∙◌, subst, arith}
use Rattle.std.proofs.lemmas.Bool.Decides.{nat_tests}
use mathlib.Core.Option.{some, some-injective, some-ne-none}
use lib.ListN.{get_elem?}
use Rattle.atomic_table.proofs.Lists.{at_map}
use Rattle.gt_types.specs.declared.Dir.{Dir}
use Rattle.gt_types.specs.declared.Dir.TheVariants.{Read, Write}
use Rattle.gt_types.specs.declared.limits.TheConstants.{TABLE_ENTRIES}
use Rattle.gt_model.specs.declared.entry.Entry.TheVariants.{Invalid}
use Rattle.gt_words.proofs.Lifts.{owner_made}
use Rattle.gt_word_history.proofs.Moments.{taken_then}
use Rattle.gt_word_history.specs.Steps.{on_entry}
use Rattle.gt_word_history.specs.Controls.{generation_of}
use Rattle.gt_words.specs.Laws.{PastPinsAreRefused, PinsLeftAreCounted, WordsFollowViews}
use Rattle.gt_word_history.specs.Rule.{ShowsEntry, header_now, owner_steps, place, total_until}
use Rattle.gt_word_history.specs.Views.{IsAmong, LivePin, last_record, live_pins, pins_until, steps_on}
use Rattle.gt_word_history.specs.Views.{steps_on_header, weight}
use Rattle.gt_word_history.specs.declared.view.EntryRecord.{EntryRecord}
use Rattle.gt_word_history.specs.declared.view.EntryStep.{EntryStep}
use Rattle.gt_word_history.specs.declared.view.EntryStep.TheVariants.{Pinned}
use Rattle.gt_word_history.specs.declared.view.View.{View}

weight_same : (d : Dir) → weight d d ≡ 1
weight_same Read = refl
weight_same Write = refl

-- a pin of such a record is one more of them
until_here : (d : Dir) (g : ℕ) (y : EntryRecord) (ps : List LivePin) → y.generation ≤ g → pins_until d g ((d, y) ∷ ps) ≡ suc (pins_until d g ps)
until_here d g y ps old = by (nat_le y.generation g) (let is : nat_le y.generation g ≡ true = grind (arith, nat_tests) in is) (weight_same d)
  where
    by : (b : Bool) → b ≡ true → weight d d ≡ 1 → cond b (weight d d) 0 + pins_until d g ps ≡ suc (pins_until d g ps)
    by true e w = omega arith
    by false e w = cc

until_in : (g : ℕ) (p : LivePin) (ps : List LivePin) → IsAmong p ps → p.1.generation ≤ g → 1 ≤ pins_until p.0 g ps
until_in g p [] is old = absurd is
until_in g p (q ∷ qs) (inl same) old = let e = until_here p.0 g p.1 qs old in subst (λ (z : LivePin). 1 ≤ pins_until p.0 g (z ∷ qs)) same (omega arith)
until_in g p (q ∷ qs) (inr is) old = let l = until_in g p qs is old in omega arith

until_at : (d : Dir) (g : ℕ) (hs : List (List EntryStep)) (i : ℕ) (h : List EntryStep) → get_elem? hs i ≡ some h → pins_until d g (live_pins h) ≤ total_until d g hs
until_at d g [] i h e = absurd (some-ne-none h (sym e))
until_at d g (x ∷ xs) zero h e = let p : pins_until d g (live_pins x) ≡ pins_until d g (live_pins h) = ap (λ (z : List EntryStep). pins_until d g (live_pins z)) (some-injective x h e) in omega arith
until_at d g (x ∷ xs) (suc i) h e = let l = until_at d g xs i h e in omega arith

-- a pin that is left of a record is counted by each word that the owner exchanged from
pub pins_left : PinsLeftAreCounted
pins_left k s i v t r e p shown at tn rn held past old = let hs : List (List EntryStep) = map (steps_on t r) s.views in let l = ((shown.now.entries t r tn rn).gone_on e past).left p.0 in
    let a = until_at p.0 (generation_of e) hs i (steps_on t r v) (at_map (steps_on t r) s.views i v at) in let b = until_in (generation_of e) p (live_pins (steps_on t r v)) held old in omega arith

-- no pin is taken of a record that the owner's list has gone on from
pub past_pins : PastPinsAreRefused
past_pins k s i v t r e at expected left d y past shown here tn rn gone old after =
    let step = taken_then k s i v (on_entry t r (Pinned d expected y)) past at left shown after here in let last = step.3 in
    let hs : List (List EntryStep) = map (steps_on t r) s.views in
    let same : y ≡ last_record k.first (owner_steps t hs) = last.0 ∙ ap (last_record k.first) (owner_made k shown.history s shown.now.led_here t r t tn) in
    let later = ((shown.now.entries t r tn rn).gone_on e gone).earlier (subst (λ (x : EntryRecord). x.entry ≢ Invalid) same last.1) in
    let g = ap (λ (x : EntryRecord). x.generation) same in omega arith

-- the words of an entry are those that its steps say
one_entry : (g t word a b word' a' b' : ℕ) (hs : List (List EntryStep)) → ShowsEntry g t word a b hs → ShowsEntry g t word' a' b' hs → (word ≡ word') × (a ≡ a') × (b ≡ b')
one_entry g t word a b word' a' b' hs k l = (k.record_shown.spelled ∙ sym l.record_shown.spelled, k.first ∙ sym l.first, k.second ∙ sym l.second)

-- the words are those that the views say
pub words_follow : WordsFollowViews
words_follow k s z shown also same = (λ t r j tn rn jn. at j jn t r (entry t r tn rn), λ t tn. (shown.now.headers t tn).0 ∙ ap (λ (vs : List View). header_now k t (map (steps_on_header t) vs)) same ∙ sym (also.now.headers t tn).0)
  where
    entry : (t r : ℕ) → t < k.domains → r < TABLE_ENTRIES → (get_or s.words (place t r 0) 0 ≡ get_or z.words (place t r 0) 0) × (get_or s.words (place t r 1) 0 ≡ get_or z.words (place t r 1) 0) × (get_or s.words (place t r 2) 0 ≡ get_or z.words (place t r 2) 0)
    entry t r tn rn = one_entry k.first t _ _ _ _ _ _ (map (steps_on t r) s.views) (shown.now.entries t r tn rn)
        (subst (λ (vs : List View). ShowsEntry k.first t (get_or z.words (place t r 0) 0) (get_or z.words (place t r 1) 0) (get_or z.words (place t r 2) 0) (map (steps_on t r) vs)) (sym same) (also.now.entries t r tn rn))

    at : (j : ℕ) → j < 3 → (t r : ℕ) → (get_or s.words (place t r 0) 0 ≡ get_or z.words (place t r 0) 0) × (get_or s.words (place t r 1) 0 ≡ get_or z.words (place t r 1) 0) × (get_or s.words (place t r 2) 0 ≡ get_or z.words (place t r 2) 0)
        → get_or s.words (place t r j) 0 ≡ get_or z.words (place t r j) 0
    at zero jn t r e = e.0
    at (suc zero) jn t r e = e.1
    at (suc (suc zero)) jn t r e = e.2
    at (suc (suc (suc j))) jn t r e = absurd (omega arith)
