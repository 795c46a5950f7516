-- An open call of a state continues as in the run.
use Rattle.std.specs.Prelude.{◌≡◌, ◌++◌, ℕ, [], ◌∷◌, Option, Some}
use Rattle.gt_types.specs.declared.DomId.{DomId}
use Rattle.gt_model.specs.declared.action.Action.{Action}
use Rattle.gt_model.specs.declared.action.Action.TheVariants.{Done}
use Rattle.gt_model.specs.declared.action.Action.TheVariants as actions
use Rattle.gt_model.specs.declared.action.Step.{Step}
use Rattle.gt_calls.specs.declared.call.Call.{Call}
use Rattle.gt_calls.specs.declared.call.Phase.{Phase}
use Rattle.gt_calls.specs.declared.call.Phase.TheVariants.{Storing, StoringSecond}
use Rattle.gt_model.specs.Path.{path}
use Rattle.gt_model.specs.History.{History, Setting, Underway, entry_at, generation_at, known_at, mappings_at}
use Rattle.gt_model.specs.History.{maps_answered_at, seen_by, values}
use Rattle.gt_script_runs.specs.Rights.{may_by}
use Rattle.gt_explore_moves.specs.Calls.{GoesAlong}
use Rattle.gt_explore_moves.specs.declared.scene.SearchContext.{SearchContext}
use Rattle.gt_explore_state.specs.Rows.{kept_entry, kept_generation}
use Rattle.gt_explore_state.specs.declared.table.SparseTable.{SparseTable}

-- a domain knows the same by both histories
pub record SameKnown (s : Setting) (h g : History) (d : DomId) : Type 0 where
  pub mappings : mappings_at g d.0 ≡ mappings_at h d.0
  pub answered : maps_answered_at g d.0 ≡ maps_answered_at h d.0
  pub known : known_at s g d ≡ known_at s h d

-- the entry is being granted
abbrev pub IsGranting : Phase → Type 0
IsGranting (Storing gref entry) = Unit {0}
IsGranting (StoringSecond gref entry) = Unit {0}
IsGranting phase = ⊥

-- as far as the rest of this call needs it, the domain knows in the state what it knows by the history: its own entries
-- only while one is being granted
pub record StillKnows (s : Setting) (h : History) (d : DomId) (scene : SearchContext) (t : SparseTable) (call : Call) : Type 0 where
  pub domains : scene.roster.domains.items ≡ s.domains
  pub may : may_by scene.rights ≡ s.may
  pub entries : (p : Phase) → call.phase ≡ Some p → IsGranting p → kept_entry t.own.items ≡ (λ r. entry_at h d.0 r)
  pub generations : (p : Phase) → call.phase ≡ Some p → IsGranting p
      → kept_generation scene.roster.first_gen t.own.items ≡ (λ r. generation_at s h d.0 r)

-- the call of the run, with this step appended
abbrev pub stepped_call : Setting → History → DomId → Underway → Step → Underway
stepped_call s h d c z = record c { steps = c.steps ++ (z, seen_by s h d z) ∷ [] }

-- after this step of the run the call continues as there: it is open along it, if the domain then knows the same; or it
-- ends with the same verdict
abbrev pub GoesOnAsRun : Setting → History → DomId → Underway → Step → Option ℕ → Call → Action → Type 0
GoesOnAsRun s h d c z task call (actions.Step y) =
    (g : History) → SameKnown s h g d
    → GoesAlong s g d (stepped_call s h d c z) (record { task = task; call = call; step = y })
GoesOnAsRun s h d c z task call (Done verdict) =
    path (known_at s h d) d c.request (values c ++ seen_by s h d z ∷ []) ≡ Some (Done verdict)
