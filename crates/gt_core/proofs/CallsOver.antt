-- The end of a call that no rule refused, and the number of states after a step.
use Rattle.gt_core.proofs.Words.{◌≡◌, ◌++◌, ℕ, refl, List, length, take, ap, ◌∙◌, DomId, Step, Unpin, StoreBody}
use Rattle.gt_core.proofs.Words.{StoreHeader, Exchange, Observation, Taken, Unpinned, Stored, State, changed_in}
use Rattle.gt_core.proofs.Words.{applied, with_slot, with_own, with_header, without_holder, take_more, map-append, ◌<◌}
use Rattle.gt_core.proofs.Words.{◌+◌, ◌%◌, map, get_or, [], ◌∷◌, Some, None, sym, set, replicate, min, HandleMap}
use Rattle.gt_core.proofs.Words.{DomainConfig, Invalid, ENTRIES, LAST_GENERATION, OwnerEntry, HeldPin, PinCounts}
use Rattle.gt_core.proofs.Words.{OpenRequest, Load, Peek, first_state, IsLoading, with_underway, Closed, IsLoadOf}
use Rattle.gt_core.proofs.Words.{FrameSet, Answer, Call, CallResult, Granted, Given, Refused, answer_of, Settled}
use Rattle.gt_model.specs.declared.action.Action.TheVariants as actions
use Rattle.gt_model.specs.declared.trace.Answer.TheVariants as answers
use Rattle.gt_model.specs.declared.action.Step.TheVariants as call_steps
use Rattle.gt_model.specs.declared.action.CallResult.TheVariants as results
use Rattle.gt_core.{specs.declared.pin_counts.CountsChange.TheVariants.Pinned, proofs.Rows.length-changed_in}

pub length-applied : (d : DomId) (step : Step) (seen : Observation) (xs : List State) → length (applied d step seen xs) ≡ length xs
length-applied d (call_steps.Pin p) Taken xs = length-changed_in xs p.dom.0 (with_slot p.gref.0 (Pinned p.dir))
length-applied d (Exchange gref looked change) Taken xs = length-changed_in xs d.0 (with_own gref.0 change)
length-applied d (Unpin p holder) seen xs =
    length-changed_in (changed_in p.dom.0 (with_slot p.gref.0 (Unpinned p.dir)) xs) d.0 (without_holder holder) ∙ length-changed_in xs p.dom.0 (with_slot p.gref.0 (Unpinned p.dir))
length-applied d (StoreBody gref body_word word) seen xs = length-changed_in xs d.0 (with_slot gref.0 (Stored body_word word))
length-applied d (StoreHeader version frames) seen xs = length-changed_in xs d.0 (with_header version frames)
length-applied d step seen xs = refl

-- the room of a load is as long as its request
pub loaded : (r : OpenRequest) (m n : ℕ) → IsLoading (Some r) m → IsLoadOf r n → m ≡ n
loaded (Load handle off len) m n a b = a ∙ b
loaded (Peek frame off len) m n a b = a ∙ b
loaded r m n a b = absurd b

-- a domain with no open call, by its parts
pub at-rest : (d : DomainConfig) (first_gen n : ℕ) (own : List OwnerEntry) (slots : List PinCounts) (mappings : HandleMap HeldPin) (given : List ℕ)
    → n ≡ ENTRIES → own ≡ replicate n (record { entry = Invalid; generation = min first_gen LAST_GENERATION })
    → slots ≡ replicate n (record { reads = 0; writes = 0; first = 0; second = 0 }) → mappings ≡ record { slots = []; given = 0; room = 0 } → given ≡ []
    → ◌≡◌ {A = State} (record { id = d.id; header = record { version = d.version % 4; frames = d.table_frames % 256 }; own = own; slots = slots; mappings = mappings; underway = None; given = given }) (first_state first_gen d)
at-rest d first_gen n own slots mappings given en eo es ep eg = rw (eg, eo, es, ep, en)

-- one more domain with no open call
pub rest-more : (first_gen : ℕ) (items : List DomainConfig) (i : ℕ) (d : DomainConfig) (old new : List State) (x : State) → i < length items
    → old ≡ map (first_state first_gen) (take i items) → x ≡ first_state first_gen (get_or items i d) → new ≡ old ++ x ∷ [] → new ≡ map (first_state first_gen) (take (i + 1) items)
rest-more first_gen items i d old new x within so_far made pushed =
    pushed ∙ ap (λ (l : List State). l ++ x ∷ []) so_far ∙ ap (λ (y : State). map (first_state first_gen) (take i items) ++ y ∷ []) made
    ∙ sym (map-append (first_state first_gen) (take i items) (get_or items i d ∷ [])) ∙ ap (λ (l : List DomainConfig). map (first_state first_gen) l) (sym (take_more items i d within))

-- the end of a call that reads no bytes
pub closed-plain : (fs : FrameSet) (xs new : List State) (at : ℕ) (d : State) (step : Step)
    → ((dom : DomId) (frame off len : ℕ) → step ≡ call_steps.Read dom frame off len → ⊥)
    → new ≡ set xs at (with_underway None d) → Closed fs xs at d step answers.Done new
closed-plain fs xs new at d (call_steps.Read dom frame off len) r e = absurd (r dom frame off len refl)
closed-plain fs xs new at d step r e = (refl, e)

-- the end of a call that gives no bytes and no mapping
pub ended-plain : (fs : FrameSet) (xs new : List State) (at : ℕ) (d : State) (step : Step) (call : Call) (v : CallResult) (a : Answer)
    → (v ≡ Granted → ⊥) → ((p : HeldPin) → v ≡ results.Mapped p → ⊥) → a ≡ answer_of v
    → new ≡ set xs at (with_underway None d) → Settled fs xs at d step call (actions.Done v) (Some a) new
ended-plain fs xs new at d step call Granted a r k e after = absurd (r refl)
ended-plain fs xs new at d step call (results.Mapped p) a r k e after = absurd (k p refl)
ended-plain fs xs new at d step call (Given value) a r k e after = (a, refl, (e, after))
ended-plain fs xs new at d step call (Refused denial) a r k e after = (a, refl, (e, after))
