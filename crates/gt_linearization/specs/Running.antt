-- What `run` appends: a text that a run of the script may print, and one that `explore` lists.
use Rattle.std.specs.Prelude.{◌++◌, ℕ, Bool, true, false, List, Option, Result, Ok, Err}
use Rattle.std.specs.Io.KnownBytes.{Appends}
use Rattle.gt_script.specs.Contents.{type_names}
use Rattle.gt_script.specs.RunContents.{RunContents}
use Rattle.gt_script.specs.Script.{Wrong}
use Rattle.gt_run.specs.Runs.{OfScript, Ran}
use Rattle.gt_run.specs.declared.fault.RunFault.{RunFault}
use Rattle.gt_explore_replay.specs.Orders.{MayGive}
use Rattle.gt_linearization.specs.Printed.{IsUndisturbed, MayPrint}

-- without a log the text was appended, and with one the text, the audit lines and the number of lost records
abbrev pub AppendsText : Bool → Option (List ℕ) → Option (List ℕ) → List ℕ → Type 0
AppendsText false old new text = Appends old new text
AppendsText true old new text = (audit : List ℕ) × Appends old new (text ++ audit)

-- a run of the script, at a gate that may refuse these flags, wrote its text: one that a run of it may print; and one
-- that the script may give, so one that `explore` lists, if it has no line with N26, and if it has no line of a gate or
-- the gate refuses no flag
pub record WroteText (refuses : ℕ → Bool) (c : RunContents) (logged : Bool) (old new : Option (List ℕ)) : Type 0 where
  pub text : List ℕ
  pub appends : AppendsText logged old new text
  pub printed : MayPrint refuses c text
  pub given : IsUndisturbed refuses (type_names c.head) text → MayGive c text

-- the same of the script that these bytes mean, if the run is Ok
abbrev pub WroteIfOk : (ℕ → Bool) → Bool → (Result RunContents Wrong → Type 0) → Option (List ℕ) → Option (List ℕ)
    → Result (Unit {0}) RunFault → Type 0
WroteIfOk refuses logged Told old new (Ok done) = OfScript Told (λ c. WroteText refuses c logged old new)
WroteIfOk refuses logged Told old new (Err fault) = Unit {0}

-- the output of `run`, by its result, with what its text is
abbrev pub RanInOrder : (ℕ → Bool) → Bool → (Result RunContents Wrong → Type 0) → Option (List ℕ) → Option (List ℕ)
    → Result (Unit {0}) RunFault → Type 0
RanInOrder refuses logged Told old new r =
    Ran refuses logged Told old new r × WroteIfOk refuses logged Told old new r
