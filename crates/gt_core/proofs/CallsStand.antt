-- A call keeps its phase after an item of another domain, and after one that leaves its body words unchanged.
use Rattle.gt_core.proofs.Words.{ℕ, None, Option, Some, arith, refl, subst, sym, ◌+◌, ◌∙◌, ◌∷◌, ◌≡◌, ◌≢◌, ◌≤◌, DomId}
use Rattle.gt_core.proofs.Words.{Rule, entry_of, first_body, control_of, EntryChange, Publish, BodyWord, Entry, Invalid}
use Rattle.gt_core.proofs.Words.{first, Phase, Accessing, Exchanging, Storing, StoringSecond, Walking, Leg, LegPhase}
use Rattle.gt_core.proofs.Words.{Body, Look, Pinning, Relook, Second, OpenRequest, History, Setting, change_of}
use Rattle.gt_core.proofs.Words.{changed_entry_of, generation_at, raise_after, IsSpelled, StepsSoFar, LegHasLooked}
use Rattle.gt_core.proofs.Words.{LegHasRead, IsShown, LegStands, PhaseStands, WhileSame, Item, body_at, entry_at}
use Rattle.gt_core.proofs.Words.{raises_at}
use Rattle.gt_model.specs.declared.change.BodyWord.TheVariants as body_words
use Rattle.gt_model.specs.declared.change.EntryChange.TheVariants as changes
use Rattle.gt_calls.specs.declared.leg.LegPhase.TheVariants as leg_phases

same-after : (before first generation : ℕ) (Holds : Entry → Type 0) (entry : Entry) (c : Option EntryChange) → generation ≤ first + before
    → (first + before ≡ generation → entry ≢ Invalid → Holds entry)
    → first + (before + raise_after c) ≡ generation → changed_entry_of c entry ≢ Invalid → Holds (changed_entry_of c entry)
same-after before first generation Holds entry None le was e valid = was (omega arith) valid
same-after before first generation Holds entry (Some changes.Revoke) le was e valid = absurd (valid refl)
same-after before first generation Holds entry (Some changes.Withdraw) le was e valid = absurd (valid refl)
same-after before first generation Holds entry c le was e valid = absurd (omega arith)

-- each item keeps what a call saw
pub same-keeps : (s : Setting) (i : Item) (h : History) (l : Leg) (word : ℕ) (Holds : Entry → Type 0) → (control_of word).generation ≤ generation_at s h l.dom.0 l.gref.0
    → WhileSame s h l word Holds → WhileSame s (i ∷ h) l word Holds
unfolding entry_at raises_at
same-keeps s i h l word Holds le a =
    same-after (raises_at h l.dom.0 l.gref.0) s.first_generation (control_of word).generation Holds (entry_at h l.dom.0 l.gref.0) (change_of i l.dom.0 l.gref.0) le a

pub reached-keeps : (s : Setting) (i : Item) (h : History) (t r generation : ℕ) → generation ≤ generation_at s h t r → generation ≤ generation_at s (i ∷ h) t r
unfolding raises_at
reached-keeps s i h t r generation le = omega arith

looked-keeps : (s : Setting) (i : Item) (h : History) (l : Leg) (so_far : StepsSoFar) (more word : ℕ) → LegHasLooked s h l so_far more word → LegHasLooked s (i ∷ h) l so_far more word
looked-keeps s i h l so_far more word a = let reached = reached-keeps s i h l.dom.0 l.gref.0 (control_of word).generation a.reached in
    let shown = same-keeps s i h l word (IsShown (control_of word)) a.reached a.shown in
    record { within = a.within; turn = a.turn; looked = a.looked; passed = a.passed; reached = reached; shown = shown }

read-keeps : (s : Setting) (i : Item) (h : History) (l : Leg) (so_far : StepsSoFar) (word body second : ℕ) (rule : Option Rule) → (control_of word).generation ≤ generation_at s h l.dom.0 l.gref.0
    → LegHasRead s h l so_far word body second rule → LegHasRead s (i ∷ h) l so_far word body second rule
read-keeps s i h l so_far word body second rule le a =
    record { in_body = a.in_body; judged = a.judged; spelled = same-keeps s i h l word (λ (e : Entry). entry_of (control_of word) body second ≡ e) le a.spelled }

-- a leg keeps its phase after each item of another domain
pub leg-keeps : (s : Setting) (i : Item) (h : History) (l : Leg) (so_far : StepsSoFar) (phase : LegPhase) → LegStands s h l so_far phase → LegStands s (i ∷ h) l so_far phase
leg-keeps s i h l so_far leg_phases.Header a = tt
leg-keeps s i h l so_far (Look more) a = a
leg-keeps s i h l so_far (Body more word) a = looked-keeps s i h l so_far more word a
leg-keeps s i h l so_far (Second more word body) a = (looked-keeps s i h l so_far more word a.0, same-keeps s i h l word (λ (e : Entry). first_body e ≡ body) a.0.reached a.1, a.2)
leg-keeps s i h l so_far (Pinning more word body second) a =
    (looked-keeps s i h l so_far more word a.0, read-keeps s i h l so_far word body second None a.0.reached a.1)
leg-keeps s i h l so_far (Relook more word rule) a =
    (looked-keeps s i h l so_far more word a.0, (a.1.0, a.1.1, read-keeps s i h l so_far word a.1.0 a.1.1 (Some rule) a.0.reached a.1.2))

-- the domain's own body words are unchanged
abbrev pub BodyStays : Item → History → ℕ → Type 0
BodyStays i h d = (r : ℕ) (which : BodyWord) → body_at (i ∷ h) d r which ≡ body_at h d r which

pub spelled-stays : (i : Item) (h : History) (t r : ℕ) (entry : Entry) → BodyStays i h t → IsSpelled entry (body_at h t r body_words.First) (body_at h t r body_words.Second)
    → IsSpelled entry (body_at (i ∷ h) t r body_words.First) (body_at (i ∷ h) t r body_words.Second)
spelled-stays i h t r entry b a =
    subst (λ (n : ℕ). IsSpelled entry n (body_at (i ∷ h) t r body_words.Second)) (sym (b r body_words.First))
    (subst (λ (n : ℕ). IsSpelled entry (body_at h t r body_words.First) n) (sym (b r body_words.Second)) a)

-- a call keeps its phase after an item that leaves its domain's body words unchanged
pub place-stays : (s : Setting) (i : Item) (h : History) (d : DomId) (r : OpenRequest) (so_far : StepsSoFar) (phase : Phase) → BodyStays i h d.0 → PhaseStands s h d r so_far phase → PhaseStands s (i ∷ h) d r so_far phase
place-stays s i h d r so_far (Storing gref entry) b a = tt
place-stays s i h d r so_far (StoringSecond gref entry) b a = b gref.0 body_words.First ∙ a
place-stays s i h d r so_far (Exchanging gref looked (Publish entry)) b a = spelled-stays i h d.0 gref.0 entry b a
place-stays s i h d r so_far (Exchanging gref looked changes.Revoke) b a = tt
place-stays s i h d r so_far (Walking pin_purpose l at) b a = (a.0, leg-keeps s i h l so_far at a.1)
place-stays s i h d r so_far (Accessing c source dest) b a = tt
place-stays s i h d r so_far phase b a = a
