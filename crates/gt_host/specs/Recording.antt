-- The records that a run keeps for its audit.
use Rattle.std.specs.Prelude.{◌≡◌, ℕ, Bool, true, List, [], Option, None}
use Rattle.gt_types.specs.declared.DomId.{DomId}
use Rattle.gt_model.specs.Asking.{asked}
use Rattle.gt_model.specs.declared.request.Request.{Request}
use Rattle.gt_audit.specs.declared.record.Hypercall.{Hypercall}
use Rattle.gt_model.specs.History.{History, Setting}
use Rattle.gt_model.specs.Legal.{history_after}
use Rattle.gt_core.specs.Standing.{CoreStands}
use Rattle.gt_core.specs.States.{CoreState}
use Rattle.gt_core.specs.Subject.{subject_at}
use Rattle.gt_model.specs.declared.trace.Element.{Element}
use Rattle.gt_host.specs.declared.kept.PlayState.{PlayState}
use Rattle.gt_host.specs.OpenCalls.{recorded_in}
use Rattle.gt_script_runs.specs.Auditing.{hypercall_of_request, open_hypercall, records_of}

-- the hypercall in the record of the domain's request, after each history that the core represents
abbrev pub IsAbout : Setting → CoreState → DomId → Request → Option Hypercall → Type 0
IsAbout s domains dom request hypercall =
    (h : History) → CoreStands s h domains → hypercall ≡ hypercall_of_request (subject_at s h dom) (asked request)

-- nothing is recorded, and no open call has a record
pub record RecordsNothing (kept : PlayState) : Type 0 where
  pub records : kept.audit.records.items ≡ []
  pub calls : (d : ℕ) → recorded_in kept.calls d ≡ None

-- the records are those of the trace, and those of the open calls too
pub record IsRecorded (s : Setting) (trace : List Element) (kept : PlayState) : Type 0 where
  pub records : kept.audit.records.items ≡ records_of s [] trace
  pub calls : (d : ℕ) → recorded_in kept.calls d ≡ open_hypercall s (history_after [] trace) (record { 0 = d })

-- a trace is recorded, if the audit is on
pub record IsAudited (s : Setting) (audit : Bool) (trace : List Element) (kept : PlayState) : Type 0 where
  pub is_on : kept.audit.is_on ≡ audit
  pub recorded : audit ≡ true → IsRecorded s trace kept
