-- What the steps of an open call have shown in each of its phases.
use Rattle.std.specs.Prelude.{◌≡◌, ◌≢◌, ◌<◌, ◌≤◌, ◌+◌, ◌⊎◌, ℕ, true, false, List, [], ◌∷◌, Option, Some, None, All}
use Rattle.gt_core.specs.Prelude.{domain_of, resolved, DomId, Denial, TABLE_ENTRIES, CopyArgs, OpenRequest, CallResult}
use Rattle.gt_core.specs.Prelude.{Granted, Given, Refused, Frames, Publish, Observation, Step, StoreHeader, HeldPin}
use Rattle.gt_core.specs.Prelude.{first_look, first_body, is_kind, control_with, rule_of_try, MORE_TRIES, entry_of}
use Rattle.gt_core.specs.Prelude.{Rule, Entry, Invalid, Control, control_of, SetVersion, SetupTable, QuerySize}
use Rattle.gt_core.specs.Prelude.{GetVersion, last_first, HeaderQuery, Leg, LegPhase, Look, Body, Second, Pinning}
use Rattle.gt_core.specs.Prelude.{Relook, Phase, Storing, StoringSecond, Exchanging, Looking, Changing, Walking}
use Rattle.gt_core.specs.Prelude.{Accessing, Asking, Last, Ending}
use Rattle.gt_model.specs.declared.change.BodyWord.TheVariants as body_words
use Rattle.gt_model.specs.declared.change.EntryChange.TheVariants as changes
use Rattle.gt_model.specs.declared.control.EntryKind.TheVariants as kinds
use Rattle.gt_calls.specs.declared.leg.LegPhase.TheVariants as leg_phases
use Rattle.gt_model.specs.declared.action.HeaderQuery.TheVariants as queries
use Rattle.gt_model.specs.History.{History, Setting, entry_at, generation_at, body_at}
use Rattle.gt_model.specs.Legal.{LeavesAll, IsSpelled}
use Rattle.gt_calls.specs.Resting.{IsCopyOf}
use Rattle.gt_model.specs.FirstRule.{StepsSoFar, misses, looked_at, is_in_body, refusal_in}

-- if the leg's entry still has the generation that was looked at and is valid, this holds for it
abbrev pub WhileSame : Setting → History → Leg → ℕ → (Entry → Type 0) → Type 0
WhileSame s h l word Holds =
    generation_at s h l.dom.0 l.gref.0 ≡ (control_of word).generation → entry_at h l.dom.0 l.gref.0 ≢ Invalid
    → Holds (entry_at h l.dom.0 l.gref.0)

-- the entry is the one that this word shows
abbrev pub IsShown : Control → Entry → Type 0
IsShown c entry = c ≡ control_with entry c.generation c.reads c.writes

-- this try looked at a control word of the leg's entry, to which no rule on the entry applied, and whose generation
-- the entry has reached
pub record LegHasLooked (s : Setting) (h : History) (l : Leg) (so_far : StepsSoFar) (more word : ℕ) : Type 0 where
  pub within : l.gref.0 < TABLE_ENTRIES
  pub turn : misses so_far + more ≡ MORE_TRIES
  pub looked : looked_at so_far ≡ Some word
  pub passed : first_look l (control_of word) ≡ None
  pub reached : (control_of word).generation ≤ generation_at s h l.dom.0 l.gref.0
  pub shown : WhileSame s h l word (IsShown (control_of word))

-- the try read the body words too, and this is the rule that applies to them
pub record LegHasRead (s : Setting) (h : History) (l : Leg) (so_far : StepsSoFar) (word body second : ℕ)
    (rule : Option Rule) : Type 0 where
  pub in_body : is_in_body so_far ≡ true
  pub judged : rule_of_try l word body second ≡ rule
  pub spelled : WhileSame s h l word (λ entry. entry_of (control_of word) body second ≡ entry)

-- the steps so far agree with this phase of the leg
abbrev pub LegStands : Setting → History → Leg → StepsSoFar → LegPhase → Type 0
LegStands s h l so_far leg_phases.Header = Unit {0}
LegStands s h l so_far (Look more) =
    (l.gref.0 < TABLE_ENTRIES) × (misses so_far + more ≡ MORE_TRIES) × (is_in_body so_far ≡ false)
LegStands s h l so_far (Body more word) = LegHasLooked s h l so_far more word
LegStands s h l so_far (Second more word body) =
    LegHasLooked s h l so_far more word × WhileSame s h l word (λ entry. first_body entry ≡ body)
    × (is_kind (control_of word).kind kinds.Sub ≡ true)
LegStands s h l so_far (Pinning more word body second) =
    LegHasLooked s h l so_far more word × LegHasRead s h l so_far word body second None
LegStands s h l so_far (Relook more word rule) =
    LegHasLooked s h l so_far more word
    × ((body : ℕ) × (second : ℕ) × LegHasRead s h l so_far word body second (Some rule))

-- the call is a query that asks this about the header of this domain
abbrev pub AsksTable : DomId → OpenRequest → DomId → HeaderQuery → Type 0
AsksTable d request dom queries.Size = (named : DomId) × (request ≡ QuerySize named) × (dom ≡ resolved d named)
AsksTable d request dom queries.Version = (named : DomId) × (request ≡ GetVersion named) × (dom ≡ resolved d named)

-- the result of the call after its one step: for a setup the number of frames that it stored, for all others no value
abbrev pub EndsAfter : OpenRequest → Step → CallResult → Type 0
EndsAfter request (StoreHeader version frames) verdict =
    ((request ≡ SetVersion version) × (verdict ≡ Granted))
    ⊎ ((request ≡ SetupTable frames) × (verdict ≡ Given (Frames frames)))
EndsAfter request step verdict = verdict ≡ Granted

-- a copy ends with Ok, or with a refusal
abbrev pub EndsCopy : CallResult → Type 0
EndsCopy Granted = Unit {0}
EndsCopy (Refused denial) = Unit {0}
EndsCopy verdict = ⊥

-- the steps so far, the newest first, agree with this phase of the call
abbrev pub PhaseStands : Setting → History → DomId → OpenRequest → StepsSoFar → Phase → Type 0
PhaseStands s h d request so_far (Storing gref entry) = Unit {0}
PhaseStands s h d request so_far (StoringSecond gref entry) = body_at h d.0 gref.0 body_words.First ≡ first_body entry
PhaseStands s h d request so_far (Exchanging gref looked (Publish entry)) =
    IsSpelled entry (body_at h d.0 gref.0 body_words.First) (body_at h d.0 gref.0 body_words.Second)
PhaseStands s h d request so_far (Exchanging gref looked changes.Revoke) = Unit {0}
PhaseStands s h d request so_far (Exchanging gref looked change) = ⊥
PhaseStands s h d request so_far (Looking gref change more) =
    (misses so_far + more ≡ MORE_TRIES) × (is_in_body so_far ≡ false)
PhaseStands s h d request so_far (Changing gref change more looked) =
    (misses so_far + more ≡ MORE_TRIES) × (looked_at so_far ≡ Some looked)
PhaseStands s h d request so_far (Walking pin_purpose l at) = (domain_of s.domains l.dom ≢ None) × LegStands s h l so_far at
PhaseStands s h d request so_far (Accessing copy source dest) = Unit {0}
PhaseStands s h d request so_far (Asking dom question) = AsksTable d request dom question
PhaseStands s h d request so_far (Last step verdict) = EndsAfter request step verdict
PhaseStands s h d request so_far (Ending pins verdict) =
    (last_first pins ≡ []) ⊎ ((copy : CopyArgs) × IsCopyOf request copy × EndsCopy verdict)

-- the refusal that a call ends with, if it has come to its end
abbrev pub phase_refusal : Phase → Option Denial
phase_refusal (Ending pins verdict) = refusal_in (Some verdict)
phase_refusal phase = None

-- the steps so far have left everything unchanged, unless the call is to end with Ok
abbrev pub IsClean : Phase → List (Step × Observation) → Type 0
IsClean (Ending pins verdict) steps = (refusal_in (Some verdict) ≡ None) ⊎ All LeavesAll steps
IsClean phase steps = All LeavesAll steps

-- these pins, each with its number, starting at n
abbrev pub numbered : ℕ → List HeldPin → List (ℕ × HeldPin)
numbered n [] = []
numbered n (p ∷ ps) = (n, p) ∷ numbered (n + 1) ps
