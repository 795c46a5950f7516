-- What is left to do of an open call does not depend on its domain's mappings.
use Rattle.std.proofs.Common.{◌≡◌, ℕ, refl, Option, ap, ◌∙◌, arith}
use Rattle.gt_model.specs.declared.handle.Handle.{Handle}
use Rattle.gt_types.specs.declared.DomId.{DomId}
use Rattle.gt_model.specs.declared.held.HeldPin.{HeldPin}
use Rattle.gt_calls.specs.declared.call.Phase.{Phase}
use Rattle.gt_calls.specs.declared.call.Phase.TheVariants.{Storing, StoringSecond}
use Rattle.gt_model.specs.declared.action.Observation.{Observation}
use Rattle.gt_model.specs.declared.header.Header.{Header}
use Rattle.gt_model.specs.declared.entry.Entry.{Entry}
use Rattle.gt_model.specs.Rules.{CallerKnowledge}
use Rattle.gt_calls.specs.Machine.{phase_after}
use Rattle.gt_explore_moves.specs.Continuing.{IsGranting}

abbrev with_own : CallerKnowledge → (ℕ → Entry) → (ℕ → ℕ) → Header → (Handle → Option HeldPin) → ℕ → ℕ → CallerKnowledge
with_own k entry generation header mapping in_use answered =
    record k { entry = entry; generation = generation; header = header; mapping = mapping; in_use = in_use; maps_answered = answered }

left-with : (k : CallerKnowledge) (d : DomId) (entry : ℕ → Entry) (generation : ℕ → ℕ) (header : Header) (mapping : Handle → Option HeldPin) (in_use answered : ℕ) (p : Phase) (seen : Observation)
    → (IsGranting p → (entry ≡ k.entry) × (generation ≡ k.generation))
    → phase_after (with_own k entry generation header mapping in_use answered) d p seen ≡ phase_after k d p seen
left-with k d entry generation header mapping in_use answered (Storing gref e) seen same = let s = same tt in rw (s.0) (rw (s.1) refl)
left-with k d entry generation header mapping in_use answered (StoringSecond gref e) seen same = let s = same tt in rw (s.0) (rw (s.1) refl)
left-with k d entry generation header mapping in_use answered p seen same = refl

same-domains : (k l : CallerKnowledge) → l.domains ≡ k.domains → l.may ≡ k.may → l ≡ with_own k l.entry l.generation l.header l.mapping l.in_use l.maps_answered
same-domains k l domains may = grind arith

pub left-alike : (k l : CallerKnowledge) (d : DomId) (p : Phase) (seen : Observation) → l.domains ≡ k.domains → l.may ≡ k.may
    → (IsGranting p → (l.entry ≡ k.entry) × (l.generation ≡ k.generation)) → phase_after l d p seen ≡ phase_after k d p seen
left-alike k l d p seen domains may own =
    ap (λ (z : CallerKnowledge). phase_after z d p seen) (same-domains k l domains may)
    ∙ left-with k d l.entry l.generation l.header l.mapping l.in_use l.maps_answered p seen own
