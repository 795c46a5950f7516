-- What a call adds to the steps of its seat: the actions of its path, one after another.
use Rattle.std.specs.Prelude.{◌≡◌, ℕ, Bool, true, false, List, [], ◌∷◌, ◌++◌, map, Option, Some, None}
use Rattle.gt_live.specs.Prelude.{generation_of, IsNotEarlier, IsWordOf, LooksAtHeader, LooksAtControl, LooksAtBody}
use Rattle.gt_live.specs.Prelude.{MissesPin, Unpins, StoresBody, StoresHeader, Changes, MissesChange, MissesBusy}
use Rattle.gt_live.specs.Prelude.{Publishes, Revokes, Demotes, Layout, id_at, position_in, on_entry, on_header}
use Rattle.gt_live.specs.Prelude.{TookPlace, Moment, part_of, IsAmong, last_of, with_step, EntryStep, DomId, GrantRef}
use Rattle.gt_live.specs.Prelude.{Facts, Looked, ReadBody, PinMissed, StoredBody, ChangeMissed, SeatStep, Entry, View}
use Rattle.gt_live.specs.Prelude.{Action, Done, control_of, is_kind, Publish, Revoke, Withdraw, Demote, Promote, Sub}
use Rattle.gt_live.specs.Prelude.{Leg, Observation, Nothing, Word, Taken, Missed, Step, LookHeader, LookControl}
use Rattle.gt_live.specs.Prelude.{LookBody, Pin, Unpin, StoreBody, StoreHeader, Exchange, CallResult, Refused}
use Rattle.gt_live.specs.Prelude.{Continuation}
use Rattle.gt_model.specs.declared.action.Action.TheVariants as actions
use Rattle.gt_model.specs.declared.change.BodyWord.TheVariants as body_words
use Rattle.gt_words.specs.Answers.{Pins}
use Rattle.gt_types.specs.declared.denial.Facts.TheVariants as facts
use Rattle.gt_word_history.specs.declared.view.EntryStep.TheVariants.{Pinned, Unpinned, Changed}
use Rattle.gt_word_history.specs.declared.view.HeaderStep.TheVariants as header
use Rattle.gt_word_history.specs.declared.view.SeatStep.TheVariants.{Flag, Frame, Header}

-- the observation of a call at a step of its seat
abbrev pub seen_in_step : SeatStep → Observation
seen_in_step (Entry t r (Looked n)) = Word n
seen_in_step (Entry t r (ReadBody h n)) = Word n
seen_in_step (Entry t r (Pinned d e y)) = Taken
seen_in_step (Entry t r (PinMissed d e y n)) = Missed n
seen_in_step (Entry t r (Unpinned d g)) = Nothing
seen_in_step (Entry t r (StoredBody h n)) = Nothing
seen_in_step (Entry t r (Changed c e n y)) = Taken
seen_in_step (Entry t r (ChangeMissed c e y n)) = Missed n
seen_in_step (Header t (header.Looked n)) = Word n
seen_in_step (Header t (header.Stored n)) = Nothing
seen_in_step (Frame t f m) = Nothing
seen_in_step (Flag f m) = Nothing

-- the same for a step with its moment
abbrev pub shown_by : Moment → Observation
shown_by x = seen_in_step x.1

-- the observations of steps in their order; the steps are listed with the last first
abbrev pub all_shown : List Moment → List Observation
all_shown [] = []
all_shown (x ∷ xs) = all_shown xs ++ shown_by x ∷ []

-- the view after these steps, the last first
abbrev pub view_after : List Moment → View → View
view_after [] v = v
view_after (x ∷ xs) v = with_step x.0 x.1 (view_after xs v)

-- a step of a call was made on the words, took its seat's view from v to w, and gave this observation: each case is the
-- promise of a call of the words
abbrev pub Made : Layout → Step → Observation → View → View → Type 0
Made k (LookHeader d) (Word n) v w = LooksAtHeader k (position_in k.ids d) n v w
Made k (LookControl d q) (Word n) v w =
    LooksAtControl k (position_in k.ids d) q.0 n v w × (d ≡ id_at k.ids v.position → IsWordOf (last_of q.0 w) n)
Made k (LookBody d q body_word) (Word n) v w = LooksAtBody k (position_in k.ids d) q.0 body_word n v w
Made k (Pin p) Taken v w = Pins k (position_in k.ids p.dom) p.gref.0 p.dir p.word v w
Made k (Pin p) (Missed n) v w = MissesPin k (position_in k.ids p.dom) p.gref.0 p.dir p.word n v w
Made k (Unpin p holder) Nothing v w = Unpins k (position_in k.ids p.dom) p.gref.0 p.dir (generation_of p.word) v w
Made k (StoreBody q body_word n) Nothing v w = StoresBody k q.0 body_word n v w
Made k (StoreHeader version frames) Nothing v w = StoresHeader k (record { version = version; frames = frames }) v w
Made k (Exchange q looked (Publish e)) Taken v w = Publishes k q.0 e looked v w
Made k (Exchange q looked (Publish e)) (Missed n) v w = MissesBusy k q.0 (Publish e) looked n v w
Made k (Exchange q looked Revoke) Taken v w = Revokes k q.0 looked v w
Made k (Exchange q looked Revoke) (Missed n) v w = MissesBusy k q.0 Revoke looked n v w
Made k (Exchange q looked Withdraw) Taken v w = Changes k q.0 Withdraw looked v w
Made k (Exchange q looked Withdraw) (Missed n) v w = MissesChange k q.0 Withdraw looked n v w
Made k (Exchange q looked Demote) Taken v w = Demotes k q.0 looked v w
Made k (Exchange q looked Demote) (Missed n) v w = MissesChange k q.0 Demote looked n v w
Made k (Exchange q looked Promote) Taken v w = Changes k q.0 Promote looked v w
Made k (Exchange q looked Promote) (Missed n) v w = MissesChange k q.0 Promote looked n v w
Made k _ _ v w = ⊥

-- the second body word of the leg's entry was read if the entry is a sub-page; otherwise it counts as 0
abbrev pub ReadsSecond : Bool → Layout → Leg → ℕ → View → View → Type 0
ReadsSecond true k l second v w = Made k (LookBody l.dom l.gref body_words.Second) (Word second) v w
ReadsSecond false k l second v w = (second ≡ 0) × (w ≡ v)

-- the body words of the leg's entry, which has this control word, were read
abbrev pub ReadsBody : Layout → Leg → ℕ → ℕ → ℕ → View → View → Type 0
ReadsBody k l word first second v w =
    (u : View) × Made k (LookBody l.dom l.gref body_words.First) (Word first) v u
    × ReadsSecond (is_kind (control_of word).kind Sub) k l second u w

-- the action is a step, which was made and gave this observation
abbrev pub MakesStep : Layout → Option Action → Observation → View → View → Type 0
MakesStep k (Some (actions.Step s)) seen v w = Made k s seen v w
MakesStep k _ seen v w = ⊥

-- each of these steps, the last first, was taken at its moment by the seat with the view v, which had then taken those
-- before it and no others
abbrev pub AreMoments : Layout → View → List Moment → Type 0
AreMoments k v [] = Unit {0}
AreMoments k v (x ∷ xs) =
    TookPlace k v.position x × (part_of v.position x.0 ≡ (view_after xs v).steps) × AreMoments k v xs

-- each of these steps after the view v, the last first, is what comes next on this path after the observations of the
-- steps before it
abbrev pub IsWalk : Layout → Continuation → View → List Moment → Type 0
IsWalk k way v [] = Unit {0}
IsWalk k way v (x ∷ xs) =
    MakesStep k (way (all_shown xs)) (shown_by x) (view_after xs v) (view_after (x ∷ xs) v) × IsWalk k way v xs

-- what a step on an entry found in the control word
abbrev pub found_by : EntryStep → Option ℕ
found_by (Looked n) = Some n
found_by (PinMissed d e y n) = Some n
found_by (ChangeMissed c e y n) = Some n
found_by m = None

-- one of these steps found this word in this entry, and the word is no earlier than what the view v had seen of the
-- entry
pub record FindsWord (k : Layout) (v : View) (steps : List Moment) (dom : DomId) (gref : GrantRef)
    (word : ℕ) : Type 0 where
  pub step : EntryStep
  pub taken : IsAmong (on_entry (position_in k.ids dom) gref.0 step) (map (λ x. x.1) steps)
  pub found : found_by step ≡ Some word
  pub not_earlier : IsNotEarlier (position_in k.ids dom) gref.0 v word

-- the word that a refusal carries, if it carries one, was found by one of these steps
abbrev pub CarriesFound : Layout → View → List Moment → Facts → Type 0
CarriesFound k v steps (facts.Entry dom gref word) = FindsWord k v steps dom gref word
CarriesFound k v steps (facts.Header dom word) =
    IsAmong (on_header (position_in k.ids dom) (header.Looked word)) (map (λ x. x.1) steps)
CarriesFound k v steps other = Unit {0}

-- the same for a result
abbrev pub CarriesSteps : Layout → View → List Moment → CallResult → Type 0
CarriesSteps k v steps (Refused denial) = CarriesFound k v steps denial.facts
CarriesSteps k v steps verdict = Unit {0}

-- a call took its seat's view from v to w: it added the steps of its path, one after another, each taken at its moment;
-- after their observations the path ends with this result, and a word that the result carries is one that they found
pub record Called (k : Layout) (way : Continuation) (verdict : CallResult) (v w : View) : Type 0 where
  pub steps : List Moment
  pub view : w ≡ view_after steps v
  pub walked : IsWalk k way v steps
  pub moments : AreMoments k v steps
  pub answered : way (all_shown steps) ≡ Some (Done verdict)
  pub carried : CarriesSteps k v steps verdict
