-- An owner's change of one of its entries: the request for it, and how it ends. The code's own representation. It is in
-- specs/ because contracts cite it.
use Rattle.std.specs.Prelude.{◌≡◌, ℕ, Result, Ok, Err}
use Rattle.gt_types.specs.declared.DomId.{DomId}
use Rattle.gt_types.specs.declared.GrantRef.{GrantRef}
use Rattle.gt_types.specs.declared.denial.Denial.{Denial}
use Rattle.gt_types.specs.declared.denial.Rule.TheVariants.{N19}
use Rattle.gt_model.specs.declared.change.EntryChange.{EntryChange}
use Rattle.gt_model.specs.declared.change.EntryChange.TheVariants.{Publish, Revoke, Withdraw, Demote, Promote}
use Rattle.gt_word_history.specs.Rule.{Layout}
use Rattle.gt_word_history.specs.declared.view.View.{View}
use Rattle.gt_model.specs.Path.{entry_refusal}
use Rattle.gt_model.specs.Rules.{CallerKnowledge}
use Rattle.gt_calls.specs.declared.known.OwnerEntry.{OwnerEntry}
use Rattle.gt_model.specs.declared.action.Observation.TheVariants.{Taken, Missed}
use Rattle.gt_model.specs.declared.action.Step.TheVariants.{Exchange}
use Rattle.gt_model.specs.declared.request.OpenRequest.{OpenRequest}
use Rattle.gt_model.specs.declared.request.OpenRequest.TheVariants as asks
use Rattle.gt_live.specs.declared.driving.Effect.{Effect}
use Rattle.gt_live.specs.declared.driving.Effect.TheVariants.{Nothing, Changed}
use Rattle.gt_live.specs.Walks.{Made}

-- the request for this change of this entry
abbrev pub asks_change : GrantRef → EntryChange → OpenRequest
asks_change gref (Publish entry) = asks.Grant gref entry
asks_change gref Revoke = asks.Revoke gref
asks_change gref Withdraw = asks.Withdraw gref
asks_change gref Demote = asks.Demote gref
asks_change gref Promote = asks.Promote gref

-- what a change with this result did
abbrev pub change_effect : GrantRef → EntryChange → Result (Unit {0}) Denial → Effect
change_effect gref change (Ok u) = Changed gref change
change_effect gref change (Err denial) = Nothing

-- the change is tried in turns
abbrev pub IsInTurns : EntryChange → Type 0
IsInTurns (Publish entry) = ⊥
IsInTurns Revoke = ⊥
IsInTurns change = Unit {0}

-- one exchange from this word was made; if it was missed, the result is N19 with the word found
abbrev pub ChangesOnce : Layout → DomId → GrantRef → ℕ → EntryChange → Result (Unit {0}) Denial → View → View → Type 0
ChangesOnce k caller gref looked change (Ok u) v w = Made k (Exchange gref looked change) Taken v w
ChangesOnce k caller gref looked change (Err denial) v w =
    (n : ℕ) × (denial ≡ entry_refusal caller gref N19 n) × Made k (Exchange gref looked change) (Missed n) v w

-- the row is what is known of this entry
pub record IsRowOf (c : CallerKnowledge) (gref : GrantRef) (own : OwnerEntry) : Type 0 where
  pub entry : own.entry ≡ c.entry gref.0
  pub generation : own.generation ≡ c.generation gref.0
