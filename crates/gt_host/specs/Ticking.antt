-- What the parts of a run do, after a history.
use Rattle.std.specs.Prelude.{◌≡◌, ◌≢◌, ℕ, ◌+◌, Bool, List, ◌++◌, length, replicate, Option, None}
use Rattle.gt_types.specs.Names.{domain_of}
use Rattle.gt_types.specs.declared.DomId.{DomId}
use Rattle.gt_model.specs.History.{History, Setting}
use Rattle.gt_model.specs.Legal.{Legal, LegalAfter, history_after}
use Rattle.gt_core.specs.Standing.{CoreStands}
use Rattle.gt_core.specs.States.{CoreState}
use Rattle.gt_model.specs.declared.request.Request.{Request}
use Rattle.gt_model.specs.declared.trace.Answer.{Answer}
use Rattle.gt_model.specs.declared.trace.Event.{Event}
use Rattle.gt_model.specs.declared.trace.Event.TheVariants.{Tick}
use Rattle.gt_model.specs.declared.trace.Element.{Element}
use Rattle.gt_host.specs.declared.kept.PlayState.{PlayState}
use Rattle.gt_script_runs.specs.Naming.{AreNamed}
use Rattle.gt_host.specs.OpenCalls.{call_in}
use Rattle.gt_host.specs.Recording.{IsAudited}
use Rattle.gt_script_runs.specs.Runs.{Progress, EndsAsCall, TicksComeTo, KnowsOpen, call_events, history_of}

-- the events did what they may after the history, and the core represents the result
pub record HasHappened (s : Setting) (h : History) (events : List Event) (trace : List Element)
    (core : CoreState) : Type 0 where
  pub legal : LegalAfter s h events trace
  pub stands : CoreStands s (history_after h trace) core

-- a call has this answer, by its beginning and some ticks; or none, if its domain has another one open
pub record HasCalled (s : Setting) (h : History) (dom : DomId) (request : Request) (core : CoreState)
    (answer : Option Answer) : Type 0 where
  pub ticks : ℕ
  pub trace : List Element
  pub length_of : length trace ≡ 1 + ticks
  pub comes : EndsAsCall trace answer
  pub happens : HasHappened s h (call_events dom request ticks) trace core

-- at most `most` ticks of a domain have this outcome
pub record TicksTo (s : Setting) (h : History) (dom : DomId) (most : ℕ) (core : CoreState)
    (answer : Option Answer) : Type 0 where
  pub ticks : ℕ
  pub trace : List Element
  pub length_of : length trace ≡ ticks
  pub comes : TicksComeTo most trace answer
  pub happens : HasHappened s h (replicate ticks (Tick dom)) trace core

-- the core represents a history, and the domain is one of the run
pub record IsReadyToCall (s : Setting) (dom : DomId) (core : CoreState) : Type 0 where
  pub history : History
  pub stands : CoreStands s history core
  pub known : domain_of s.domains dom ≢ None

-- the labels and the open calls that are kept are those of the progress
pub record KeepsProgress (kept : PlayState) (p : Progress) : Type 0 where
  pub names : AreNamed kept.labels p.named
  pub calls : (dom : ℕ) → call_in kept.calls dom ≡ p.open_steps dom

-- The run has come to this point: what it did is legal, and the core and the kept
-- state stand for it; it is recorded, if the audit is on.
pub record HasPlayed (s : Setting) (audit : Bool) (p : Progress) (core : CoreState) (kept : PlayState) : Type 0 where
  pub legal : Legal s p.events p.trace
  pub stands : CoreStands s (history_of p) core
  pub keeps : KeepsProgress kept p
  pub knows : KnowsOpen p
  pub audited : IsAudited s audit p.trace kept

-- one text was appended, in the run as in the code
abbrev pub IsAppended : List ℕ → List ℕ → List ℕ → List ℕ → Type 0
IsAppended was is before after = (text : List ℕ) × (is ≡ was ++ text) × (after ≡ before ++ text)

-- this leads from each point to which the run may have come to a next one
abbrev pub Leads : Setting → (Progress → Progress → Type 0) → CoreState → CoreState → PlayState → PlayState → List ℕ → List ℕ
    → Type 0
Leads s ToNext old_core new_core old_kept new_kept before after =
    (p : Progress) (audit : Bool) → HasPlayed s audit p old_core old_kept
    → (q : Progress) × ToNext p q × HasPlayed s audit q new_core new_kept × IsAppended p.text q.text before after
