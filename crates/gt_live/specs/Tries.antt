-- The number of tries that a call makes.
use Rattle.std.specs.Prelude.{◌≡◌, ◌≢◌, ◌⊎◌, ℕ, List, [], ◌∷◌, ◌++◌}
use Rattle.gt_live.specs.Prelude.{DomId, GrantRef, N18, Denial, Dir, EntryChange, BodyWord, Moment, Layout}
use Rattle.gt_live.specs.Prelude.{position_in, on_entry, on_header, EntryStep, ChangeMissed, Looked, PinMissed}
use Rattle.gt_live.specs.Prelude.{ReadBody, SeatStep, View, Refused, Request, Leg, MORE_TRIES, AfterPin, AfterRefusal}
use Rattle.gt_live.specs.Prelude.{entry_refusal, path_of, refused_at, tries, try_pin, turn, turns, CallerKnowledge}
use Rattle.gt_word_history.specs.declared.view.EntryStep.TheVariants.{Unpinned}
use Rattle.gt_word_history.specs.declared.view.HeaderStep.TheVariants as header
use Rattle.gt_live.specs.Walks.{Called}
use Rattle.gt_model.specs.Asking.{asked}
use Rattle.gt_calls.specs.Probing.{IsProbe}

-- a leg makes at most four tries: a missed one leads to the next, and the fourth to N18 with the word that it found
abbrev pub LegsMakeFourTries : Type 0
LegsMakeFourTries =
    (l : Leg) (refused : AfterRefusal) (pinned : AfterPin)
    → tries l MORE_TRIES refused pinned
    ≡ try_pin l refused (λ first. try_pin l refused (λ second. try_pin l refused (λ third. try_pin l refused
    (λ found. refused (entry_refusal l.dom l.gref N18 found)) pinned) pinned) pinned) pinned

-- a demote, a promote and a withdraw make at most four exchanges: a missed one leads to the next, and the fourth to N18
-- with the word that it found
abbrev pub ChangesMakeFourTries : Type 0
ChangesMakeFourTries =
    (change : EntryChange) (caller : DomId) (gref : GrantRef)
    → turns change caller gref MORE_TRIES
    ≡ turn change caller gref (λ first. turn change caller gref (λ second. turn change caller gref (λ third.
    turn change caller gref (refused_at caller gref N18))))

-- the steps of a call in their order, which are listed with the last first
abbrev pub in_order : List Moment → List SeatStep
in_order [] = []
in_order (x ∷ xs) = in_order xs ++ x.1 ∷ []

-- the last step of a try found this word, which is not the one looked at: it is a missed exchange or a second look
abbrev pub FoundAnother : EntryStep → ℕ → ℕ → Type 0
FoundAnother (PinMissed d expected desired n) looked found = (expected ≡ looked) × (n ≡ found) × (found ≢ looked)
FoundAnother (ChangeMissed c expected desired n) looked found = (expected ≡ looked) × (n ≡ found) × (found ≢ looked)
FoundAnother (Looked n) looked found = (n ≡ found) × (found ≢ looked)
FoundAnother step looked found = ⊥

-- each of these steps read a body word of the entry r of the domain at t
abbrev pub AreReads : ℕ → ℕ → List SeatStep → Type 0
AreReads t r [] = Unit {0}
AreReads t r (x ∷ xs) = ((h : BodyWord) × (n : ℕ) × (x ≡ on_entry t r (ReadBody h n))) × AreReads t r xs

-- these steps are one missed try on the entry r of the domain at t: a look at its control word, reads of its body
-- words, and a last step that found another word than that look
pub record IsMissedTry (t r : ℕ) (steps : List SeatStep) (found : ℕ) : Type 0 where
  pub looked : ℕ
  pub reads : List SeatStep
  pub last : EntryStep
  pub made : steps ≡ on_entry t r (Looked looked) ∷ (reads ++ on_entry t r last ∷ [])
  pub bodies : AreReads t r reads
  pub another : FoundAnother last looked found

-- these steps are tries on that entry, one for each listed word and one after another: each was missed and found its
-- word
abbrev pub MissedTries : ℕ → ℕ → List ℕ → List SeatStep → Type 0
MissedTries t r [] steps = steps ≡ []
MissedTries t r (w ∷ ws) steps =
    (one : List SeatStep) × (rest : List SeatStep) × (steps ≡ one ++ rest) × IsMissedTry t r one w
    × MissedTries t r ws rest

-- each of these steps released a pin
abbrev pub AreUnpins : List SeatStep → Type 0
AreUnpins [] = Unit {0}
AreUnpins (x ∷ xs) = ((t r g : ℕ) × (d : Dir) × (x ≡ on_entry t r (Unpinned d g))) × AreUnpins xs

-- the tries begin after these steps: there are none, or the last one is the look at the header that begins a leg
abbrev pub BeginsTries : List SeatStep → Type 0
BeginsTries before =
    (before ≡ []) ⊎ ((way : List SeatStep) × (t n : ℕ) × (before ≡ way ++ on_header t (header.Looked n) ∷ []))

-- these steps of a call, in their order, end with exactly four tries, those of its last leg or of its change, and then
-- the release of the pins that it held; each try was missed, the fourth by this word
pub record GaveUp (k : Layout) (dom : DomId) (gref : GrantRef) (word : ℕ) (steps : List SeatStep) : Type 0 where
  pub before : List SeatStep
  pub tries : List SeatStep
  pub back : List SeatStep
  pub all : steps ≡ before ++ (tries ++ back)
  pub begins : BeginsTries before
  pub first : ℕ
  pub second : ℕ
  pub third : ℕ
  pub missed : MissedTries (position_in k.ids dom) gref.0 (first ∷ second ∷ third ∷ word ∷ []) tries
  pub given_back : AreUnpins back

-- a call of a domain that is refused by N18 made exactly four tries at the end, each of which was missed, and carries
-- the word that the fourth found
abbrev pub FourTriesWereMissed : Type 0
FourTriesWereMissed =
    (k : Layout) (c : CallerKnowledge) (caller : DomId) (request : Request) (denial : Denial) (v w : View)
    → (IsProbe (asked request) → ⊥) → v.position ≡ position_in k.ids caller
    → (called : Called k (path_of c caller request) (Refused denial) v w) → denial.rule ≡ N18
    → (dom : DomId) × (gref : GrantRef) × (word : ℕ) × (denial ≡ entry_refusal dom gref N18 word)
    × GaveUp k dom gref word (in_order called.steps)
