-- What the searches of choices found.
use Rattle.std.specs.Prelude.{◌≡◌, ◌<◌, ◌++◌, ℕ, Bool, true, false, List, All, Option, Some, None, Result, Ok, Err, slice_get}
use Rattle.gt_policy.specs.declared.fault.TokenFault as policy
use Rattle.gt_script.specs.Blocks.{block_fault_shown}
use Rattle.gt_script.specs.RunContents.{RunContents}
use Rattle.gt_script.specs.RunScripts.{ReadsAsRun}
use Rattle.gt_script.specs.Script.{in_policy, in_script}
use Rattle.gt_script.specs.declared.faults.ScriptError.{ScriptError}
use Rattle.gt_script.specs.declared.faults.ScriptError.TheVariants as script_errors
use Rattle.gt_script.specs.declared.faults.ScriptFaultKind.{ScriptFaultKind}
use Rattle.gt_script.specs.declared.faults.ScriptFaultKind.TheVariants.{Limit, Utf8, Syntax, Config, Mode, Stuck}
use Rattle.gt_script_runs.specs.declared.fault.PlayFault.TheVariants as play_faults
use Rattle.gt_explore_answers.specs.Exploring.{AreTextsOf}
use Rattle.gt_explore_answers.specs.Outputs.{Found}
use Rattle.gt_explore_answers.specs.Texts.{IsTextAmong, texts_of_orders}
use Rattle.gt_explore_faults.specs.declared.fault.ExploreFault.{ExploreFault}
use Rattle.gt_explore_faults.specs.declared.fault.ExploreFault.TheVariants.{Play, Term, Text, Number, Unfound, Texts}
use Rattle.gt_explore_replay.specs.Orders.{MayGive}
use Rattle.gt_explore_search.specs.declared.exploring.FoundText.{FoundText}
use Rattle.gt_explore_by_choice.specs.Possible.{AreAllScripts, AreTextsOfChoices, MayGiveAmong}

-- a fault is that a domain waits for ever
abbrev pub is_stuck_kind : ScriptFaultKind → Bool
is_stuck_kind Limit = false
is_stuck_kind Utf8 = false
is_stuck_kind Syntax = false
is_stuck_kind Config = false
is_stuck_kind Mode = false
is_stuck_kind Stuck = true

abbrev pub is_stuck : ScriptError → Bool
is_stuck script_errors.Memory = false
is_stuck (script_errors.Fault fault) = is_stuck_kind fault.kind
is_stuck (script_errors.Policy fault) = false

-- these were found for a text: it is a script for `run`, and only this one, and they are texts of it
abbrev pub AreFoundFor : List ℕ → Found → Type 0
AreFoundFor text f =
    (c : RunContents) × ReadsAsRun text (Ok c) × AreTextsOf c f × ((d : RunContents) → ReadsAsRun text (Ok d) → d ≡ c)

-- the text is no script for `run`
abbrev pub IsNoScript : List ℕ → Type 0
IsNoScript text = (c : RunContents) → ReadsAsRun text (Ok c) → ⊥

-- the fault of a text: its first as a script, or one of the search
abbrev pub IsFaultOfText : List ℕ → ExploreFault → Type 0
IsFaultOfText text (Play (play_faults.Script fault)) = ReadsAsRun text (Err (in_script fault))
IsFaultOfText text (Play (play_faults.Policy fault)) =
    (g : policy.TokenFault) × (block_fault_shown fault ≡ Some g) × ReadsAsRun text (Err (in_policy g))
IsFaultOfText text (Play play_faults.Memory) = Unit {0}
IsFaultOfText text (Play play_faults.Read) = ⊥
IsFaultOfText text (Play play_faults.Write) = ⊥
IsFaultOfText text (Texts fault) = Unit {0}
IsFaultOfText text (Term number fault) = ⊥
IsFaultOfText text Number = ⊥
IsFaultOfText text Unfound = ⊥
IsFaultOfText text (Text line fault) = ⊥

-- the fault of one of these choices, or one of the search
abbrev pub IsFaultAmong : List (List ℕ) → ExploreFault → Type 0
IsFaultAmong choices (Texts fault) = Unit {0}
IsFaultAmong choices fault =
    (at : ℕ) × (choice : List ℕ) × (slice_get choices at ≡ Some choice) × IsFaultOfText choice fault

-- each text that the choice at this index may give is one of an order
abbrev pub HasTextsOf : List (List ℕ) → List FoundText → ℕ → Type 0
HasTextsOf choices orders at =
    (choice text : List ℕ) (c : RunContents) → slice_get choices at ≡ Some choice → ReadsAsRun choice (Ok c)
    → MayGive c text → IsTextAmong text (texts_of_orders orders)

-- the choice at this index is a script for `run`
abbrev pub IsScriptAt : List (List ℕ) → ℕ → Type 0
IsScriptAt choices at =
    (choice : List ℕ) → slice_get choices at ≡ Some choice → (c : RunContents) × ReadsAsRun choice (Ok c)

-- these orders were found for the choices before an index: all of theirs, if the searches met all states; and each of
-- these choices is a script, if in none a domain waits for ever
pub record AreGatheredTexts (choices : List (List ℕ)) (upto : ℕ) (orders : List FoundText) (whole : Bool) (waiting : ℕ)
    : Type 0 where
  pub possible : All (MayGiveAmong choices) (texts_of_orders orders)
  pub each : whole ≡ true → (at : ℕ) → at < upto → HasTextsOf choices orders at
  pub scripts : whole ≡ true → waiting ≡ 0 → (at : ℕ) → at < upto → IsScriptAt choices at

-- the texts of all choices are united: the texts are theirs, and none of them waits for ever, if that number is 0
pub record AreUnited (source : List ℕ) (f : Found) (waiting : ℕ) : Type 0 where
  pub texts : AreTextsOfChoices source f
  pub scripts : f.whole ≡ true → waiting ≡ 0 → AreAllScripts source
