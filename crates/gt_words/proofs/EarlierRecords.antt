-- The words that an owner exchanged from, and the pins that are left of the records before.
use Rattle.std.proofs.Common.{◌≡◌, ⊎_elim, ℕ, zero, suc, ◌+◌, ◌<◌, ◌≤◌, Bool, true, false, cond, ◌==◌, ◌&&◌, nat_le}
use Rattle.std.proofs.Common.{List, [], ◌∷◌, set, sym, ap, ◌∙◌, arith}
use Rattle.std.proofs.lemmas.Bool.Decides.{nat_tests}
use mathlib.Core.Option.{some, some-injective, some-ne-none}
use lib.ListN.{get_elem?}
use Rattle.gt_types.specs.declared.Dir.{Dir}
use Rattle.gt_types.specs.declared.Dir.TheVariants.{Read, Write}
use Rattle.gt_words.proofs.Records.{legal_record, spelled_parts}
use Rattle.gt_word_history.specs.Controls.{generation_of, pins_in}
use Rattle.gt_word_history.specs.Rule.{HasGoneOn, IsNextEntry, IsRevocation, MayFollow, ShowsRecord, total_pins}
use Rattle.gt_word_history.specs.Rule.{total_until}
use Rattle.gt_word_history.specs.Views.{LivePin, is_same_dir, pin_count, live_pins, pins_until, weight, without_pin}
use Rattle.gt_word_history.specs.declared.view.EntryStep.{EntryStep}
use Rattle.gt_word_history.specs.declared.view.EntryRecord.{EntryRecord}

-- the pins of a generation and of those before it, among all pins
until_most : (d : Dir) (g : ℕ) (ps : List LivePin) → pins_until d g ps ≤ pin_count d ps
until_most d g [] = omega arith
until_most d g (p ∷ ps) = let l = until_most d g ps in by (nat_le p.1.generation g) l
  where
    by : (b : Bool) → pins_until d g ps ≤ pin_count d ps → cond b (weight d p.0) 0 + pins_until d g ps ≤ weight d p.0 + pin_count d ps
    by true l = omega arith
    by false l = omega arith

total_until-most : (d : Dir) (g : ℕ) (hs : List (List EntryStep)) → total_until d g hs ≤ total_pins d hs
total_until-most d g [] = omega arith
total_until-most d g (h ∷ hs) = let l = total_until-most d g hs in let f = until_most d g (live_pins h) in omega arith

-- a pin fewer
pub until_fewer : (d c : Dir) (g n : ℕ) (ps : List LivePin) → pins_until d g (without_pin c n ps) ≤ pins_until d g ps
until_fewer d c g n [] = omega arith
until_fewer d c g n (p ∷ ps) = go (until_fewer d c g n ps) (is_same_dir c p.0 && (n == p.1.generation))
  where
    go : pins_until d g (without_pin c n ps) ≤ pins_until d g ps → (b : Bool) → pins_until d g (cond b ps (p ∷ without_pin c n ps)) ≤ cond (nat_le p.1.generation g) (weight d p.0) 0 + pins_until d g ps
    go l true = omega arith
    go l false = omega arith

-- a pin of a later generation
pub until_later : (d c : Dir) (g : ℕ) (x : EntryRecord) (ps : List LivePin) → g < x.generation → pins_until d g ((c, x) ∷ ps) ≤ pins_until d g ps
until_later d c g x ps later = by (nat_le x.generation g) (let is : nat_le x.generation g ≡ false = grind (arith, nat_tests) in is)
  where
    by : (b : Bool) → b ≡ false → cond b (weight d c) 0 + pins_until d g ps ≤ pins_until d g ps
    by true e = cc
    by false e = omega arith

module _ (hs : List (List EntryStep)) (i : ℕ) (h : List EntryStep) (m : EntryStep) (at : get_elem? hs i ≡ some h) where
  -- a step after which no more of them are left
  pub still_gone : (x : EntryRecord) (e : ℕ) → HasGoneOn x hs e → ((d : Dir) → pins_until d (generation_of e) (live_pins (m ∷ h)) ≤ pins_until d (generation_of e) (live_pins h)) → HasGoneOn x (set hs i (m ∷ h)) e
  still_gone x e k fewer = record {
    not_later = k.not_later;
    earlier = k.earlier;
    left = λ d. let l = k.left d in let s = until_set d (generation_of e) hs i at (fewer d) in omega arith;
  }
    where
      until_set : (d : Dir) (g : ℕ) (hs : List (List EntryStep)) (i : ℕ) → get_elem? hs i ≡ some h → pins_until d g (live_pins (m ∷ h)) ≤ pins_until d g (live_pins h) → total_until d g (set hs i (m ∷ h)) ≤ total_until d g hs
      until_set d g [] i e l = absurd (some-ne-none h (sym e))
      until_set d g (y ∷ ys) zero e l = let p : pins_until d g (live_pins y) ≡ pins_until d g (live_pins h) = ap (λ (z : List EntryStep). pins_until d g (live_pins z)) (some-injective y h e) in omega arith
      until_set d g (y ∷ ys) (suc i) e l = let r = until_set d g ys i e l in omega arith

-- the owner's list goes on from x to y
pub goes_on : (x y : EntryRecord) (hs : List (List EntryStep)) (e : ℕ) → MayFollow y x → HasGoneOn x hs e → HasGoneOn y hs e
goes_on x y hs e may k = let l = k.not_later in record {
  not_later = ⊎_elim (λ (t : IsRevocation y x). let g = t.1 in omega arith) (λ (t : IsNextEntry y x). let g = t.0 in omega arith) may;
  earlier = λ n. ⊎_elim (λ (t : IsRevocation y x). absurd (n t.0)) (λ (t : IsNextEntry y x). let g = t.0 in omega arith) may;
  left = k.left;
}

-- it goes on from the word of x, which counts all pins
pub goes_on_here : (x : EntryRecord) (xs : List EntryRecord) (y : EntryRecord) (word a b : ℕ) (hs : List (List EntryStep)) → MayFollow y x → ShowsRecord x xs word a b hs → HasGoneOn y hs word
goes_on_here x xs y word a b hs may k = let p = spelled_parts x.entry x.generation (total_pins Read hs) (total_pins Write hs) (legal_record x xs k.lawful).0 k.in_range in
    let g : generation_of word ≡ x.generation = ap generation_of k.spelled ∙ p.generation in record {
      not_later = ⊎_elim (λ (t : IsRevocation y x). let l = t.1 in omega arith) (λ (t : IsNextEntry y x). let l = t.0 in omega arith) may;
      earlier = λ n. ⊎_elim (λ (t : IsRevocation y x). absurd (n t.0)) (λ (t : IsNextEntry y x). let l = t.0 in omega arith) may;
      left = λ d. let c = counts d in let l = total_until-most d (generation_of word) hs in omega arith;
    }
  where
    counts : (d : Dir) → pins_in d word ≡ total_pins d hs
    counts Read = ap (pins_in Read) k.spelled ∙ (spelled_parts x.entry x.generation (total_pins Read hs) (total_pins Write hs) (legal_record x xs k.lawful).0 k.in_range).reads
    counts Write = ap (pins_in Write) k.spelled ∙ (spelled_parts x.entry x.generation (total_pins Read hs) (total_pins Write hs) (legal_record x xs k.lawful).0 k.in_range).writes
