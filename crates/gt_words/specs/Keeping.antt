-- What a call keeps of what its seat knew.
use Rattle.std.specs.Prelude.{◌≡◌, ◌≢◌, ℕ, ◌+◌, ◌≤◌, ◌<◌, cond, ◌==◌, ◌&&◌, Bool, Option, Some, None}
use Rattle.gt_model.specs.declared.change.BodyWord.{BodyWord}
use Rattle.gt_types.specs.declared.Dir.{Dir}
use Rattle.gt_word_history.specs.Controls.{generation_of}
use Rattle.gt_word_history.specs.Views.{IsAmong, LivePin, Seen, is_same_dir, last_of, own_body, own_header, own_list}
use Rattle.gt_word_history.specs.Views.{live_pins, pins_like, seen, steps_on}
use Rattle.gt_word_history.specs.declared.view.View.{View}

-- the number of pins of this kind and generation that the view has of the entry r of the domain t
abbrev pub held : ℕ → ℕ → Dir → ℕ → View → ℕ
held t r d g v = pins_like d g (live_pins (steps_on t r v))

-- the seat holds a pin of this kind and generation of the entry r of the domain t
abbrev pub Holds : ℕ → ℕ → Dir → ℕ → View → Type 0
Holds t r d g v = 0 < held t r d g v

-- both pins have the same kind, generation and entry
abbrev pub is_pin_of : ℕ → ℕ → Dir → ℕ → ℕ → ℕ → Dir → ℕ → Bool
is_pin_of t r d g t' r' d' g' = (t == t') && ((r == r') && (is_same_dir d' d && (g' == g)))

-- the view w has one more pin of this kind and generation of this entry than the view v, and the same number of any
-- other
abbrev pub HoldsOneMore : ℕ → ℕ → Dir → ℕ → View → View → Type 0
HoldsOneMore t r d g v w =
    (t' r' : ℕ) (d' : Dir) (g' : ℕ) → held t' r' d' g' w ≡ held t' r' d' g' v + cond (is_pin_of t r d g t' r' d' g') 1 0

-- each pin that the view v had is one of the view w, with its record, if w still has a pin of its kind and generation
abbrev pub KeepsRecords : View → View → Type 0
KeepsRecords v w =
    (t r : ℕ) (p : LivePin) → IsAmong p (live_pins (steps_on t r v)) → Holds t r p.0 p.1.generation w
    → IsAmong p (live_pins (steps_on t r w))

-- the seat has the same pins as before
abbrev pub KeepsPins : View → View → Type 0
KeepsPins v w = (t r : ℕ) → live_pins (steps_on t r w) ≡ live_pins (steps_on t r v)

-- the generation in what was seen of an entry, 0 if nothing was seen
abbrev pub generation_in : Option Seen → ℕ
generation_in None = 0
generation_in (Some s) = generation_of s.word

-- the generation that the view saw last of the entry r of the domain t, 0 if it saw none
abbrev pub seen_generation : ℕ → ℕ → View → ℕ
seen_generation t r v = generation_in (seen (steps_on t r v))

-- what was seen last of each entry is of no earlier generation than before
abbrev pub SeesNoEarlier : View → View → Type 0
SeesNoEarlier v w = (t r : ℕ) → seen_generation t r v ≤ seen_generation t r w

-- the owner's entries are unchanged: the list of each, its last record and its body words
pub record KeepsRows (v w : View) : Type 0 where
  pub lists : (q : ℕ) → own_list q w ≡ own_list q v
  pub last : (q : ℕ) → last_of q w ≡ last_of q v
  pub bodies : (q : ℕ) (h : BodyWord) → own_body q h w ≡ own_body q h v

-- the owner's entries other than r are unchanged
pub record KeepsOtherRows (r : ℕ) (v w : View) : Type 0 where
  pub lists : (q : ℕ) → r ≢ q → own_list q w ≡ own_list q v
  pub last : (q : ℕ) → r ≢ q → last_of q w ≡ last_of q v
  pub bodies : (q : ℕ) (h : BodyWord) → r ≢ q → own_body q h w ≡ own_body q h v

-- the seat knows the same of its own entries, its header and its pins as before, and has seen nothing earlier
pub record Keeps (v w : View) : Type 0 where
  pub rows : KeepsRows v w
  pub header : own_header w ≡ own_header v
  pub pins : KeepsPins v w
  pub seen : SeesNoEarlier v w
