-- The entries that the lines of a script may grant, and the calls that begin in its runs.
use Rattle.std.specs.Prelude.{◌≡◌, ℕ, false, List, [], ◌∷◌, None, Some, slice_get}
use Rattle.gt_types.specs.declared.DomId.{DomId}
use Rattle.gt_types.specs.declared.GrantRef.{GrantRef}
use Rattle.gt_model.specs.Asking.{FitsAsked, asked}
use Rattle.gt_model.specs.Bytes.{Spells}
use Rattle.gt_model.specs.Entries.{with_ro}
use Rattle.gt_model.specs.declared.entry.Entry.{Entry}
use Rattle.gt_model.specs.declared.request.OpenRequest.{OpenRequest}
use Rattle.gt_model.specs.declared.request.OpenRequest.TheVariants.{Grant, Probe}
use Rattle.gt_model.specs.declared.request.Request.{Request}
use Rattle.gt_model.specs.History.{History, Setting}
use Rattle.gt_model.specs.declared.trace.Item.{Item}
use Rattle.gt_model.specs.declared.trace.ItemEvent.{ItemEvent}
use Rattle.gt_model.specs.declared.trace.ItemEvent.TheVariants.{Began, Stepped}
use Rattle.gt_explore_state.specs.Likeness.{AsksFit}
use Rattle.gt_explore_state.specs.Shows.{IsInRun}
use Rattle.gt_script_lines.specs.Hexadecimal.{hex_bytes}
use Rattle.gt_script_lines.specs.declared.calls.ScriptCall.{ScriptCall}
use Rattle.gt_script_lines.specs.declared.calls.ScriptCall.TheVariants as script_calls
use Rattle.gt_script_runs.specs.Runs.{Named, MakesRequest}
use Rattle.gt_script.specs.Lists.{RunTask, RunAction}
use Rattle.gt_script.specs.declared.tasks.RunAction.TheVariants.{Do}
use Rattle.gt_explore_moves.specs.declared.granted.GrantedEntry.{GrantedEntry}

-- lines

-- the call may grant this entry under this reference: it names it, or has bytes that encode it
abbrev pub CallMayGrant : ScriptCall → GrantRef → Entry → Type 0
CallMayGrant (script_calls.Grant gref entry) r e = (gref ≡ r) × (entry ≡ e)
CallMayGrant (script_calls.GrantBytes gref hex) r e = (gref ≡ r) × ((version : ℕ) × Spells version (hex_bytes hex) e)
CallMayGrant call r e = ⊥

abbrev pub ActionMayGrant : RunAction → GrantRef → Entry → Type 0
ActionMayGrant (Do call) r e = CallMayGrant call r e
ActionMayGrant run_action r e = ⊥

-- among these entries is one that the domain with this number grants under this reference, and that is this entry but
-- for the right to write
abbrev pub IsGranted : List GrantedEntry → ℕ → ℕ → Entry → Type 0
IsGranted grants t r e =
    (n : ℕ) × (g : GrantedEntry) × (slice_get grants n ≡ Some g) × (g.owner.0 ≡ t) × (g.gref.0 ≡ r)
    × (with_ro false g.entry ≡ with_ro false e)

-- each entry that a line of this domain may grant is among these
abbrev pub ListsGrants : List GrantedEntry → DomId → RunAction → Type 0
ListsGrants grants d run_action =
    (r : GrantRef) (e : Entry) → ActionMayGrant run_action r e → IsGranted grants d.0 r.0 e

-- what a line asks fits its types
abbrev pub AsksOnlyFitting : RunAction → Type 0
AsksOnlyFitting (Do call) = (named : List Named) (dom : DomId) (request : Request) → MakesRequest named dom call request
    → FitsAsked (asked request)
AsksOnlyFitting run_action = Unit {0}

-- each entry that a task may grant is among these, and what it asks fits its types
pub record IsListed (grants : List GrantedEntry) (t : RunTask) : Type 0 where
  pub lists : ListsGrants grants t.dom t.run_action
  pub fits : AsksOnlyFitting t.run_action

-- calls

-- a request of a script: it is no probe, and the entry that it grants is among these
abbrev pub IsOfScript : List GrantedEntry → DomId → OpenRequest → Type 0
IsOfScript grants d (Grant gref entry) = IsGranted grants d.0 gref.0 entry
IsOfScript grants d (Probe c) = ⊥
IsOfScript grants d request = Unit {0}

-- if a call begins and is not answered at once, its request is such
abbrev pub BeginsOfScript : List GrantedEntry → Item → Type 0
BeginsOfScript grants i = begins i.happened
  where
    begins : ItemEvent → Type 0
    begins (Began request) = i.answer ≡ None → IsOfScript grants i.actor (asked request)
    begins (Stepped step seen) = Unit {0}

-- an item of a domain of the run, whose call is such and fits its types
pub record IsItemOfScript (s : Setting) (grants : List GrantedEntry) (i : Item) : Type 0 where
  pub in_run : IsInRun s i.actor
  pub fits : AsksFit i.happened
  pub begins : BeginsOfScript grants i

-- each item is such
abbrev pub AllOfScript : Setting → List GrantedEntry → History → Type 0
AllOfScript s grants [] = Unit {0}
AllOfScript s grants (i ∷ before) = IsItemOfScript s grants i × AllOfScript s grants before
