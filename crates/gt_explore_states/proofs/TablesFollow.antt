-- The tables follow the moves of a run.
use Rattle.std.proofs.Common.{◌≡◌, ℕ, List, [], ◌∷◌, ◌++◌, Option, Some, None, refl, sym, ap, ◌∙◌, subst}
use Rattle.std.specs.Option.{option_map}
use Rattle.std.specs.Prelude.{slice_get, IfSome, IsSome}
use Rattle.gt_types.specs.declared.config.Config.{Config}
use Rattle.gt_types.specs.declared.config.DomainConfig.{DomainConfig}
use Rattle.gt_explore_replay.proofs.Coming.{IsQuiet, mapped_back, tells, waits}
use Rattle.gt_explore_replay.proofs.Whole.{history_did, history_quiet}
use Rattle.gt_explore_replay.specs.Abreast.{history_in}
use Rattle.gt_explore_replay.specs.Orders.{Happening, did, raised, passed, doer, events_in, trace_in}
use Rattle.gt_explore_replay.specs.Walking.{ComesOn, HasWalked}
use Rattle.gt_explore_replay.specs.declared.replay.Moved.{Moved}
use Rattle.gt_explore_replay.specs.declared.replay.Moved.TheVariants.{Began, Passed, Raised, Stepped}
use Rattle.gt_explore_replay.specs.declared.replay.Replay.{Replay}
use Rattle.gt_explore_search.specs.declared.spaces.Turn.{Turn}
use Rattle.gt_explore_state.specs.Shows.{BeginningsChangeNothing, IsItemOfStep, IsSettingOf, RightStepsFit, TablesShow}
use Rattle.gt_explore_state.specs.declared.table.SparseTable.{SparseTable}
use Rattle.gt_model.specs.History.{History, Setting}
use Rattle.gt_model.specs.Legal.{LegalAfter, MayDo, grown, history_after}
use Rattle.gt_model.specs.declared.action.Observation.{Observation}
use Rattle.gt_model.specs.declared.action.Step.{Step}
use Rattle.gt_model.specs.declared.trace.Answer.{Answer}
use Rattle.gt_model.specs.declared.trace.Element.{Element}
use Rattle.gt_model.specs.declared.trace.Event.{Event}
use Rattle.gt_model.specs.declared.trace.Item.{Item}
use Rattle.gt_model.specs.declared.trace.ItemEvent.TheVariants as item_events
use Rattle.gt_script.specs.RunContents.{RunContents}
use Rattle.gt_script_runs.specs.Playing.{setting_of_script}
use Rattle.gt_explore_states.specs.Moments.{AreTurnsOf}
use Rattle.gt_explore_states.specs.Moves.{ComesNext, MayHappen}

-- what comes next

-- the next event did what it may
legal-at : (s : Setting) (g : History) (before : List Happening) (e : Event) (y : Element) (more : List Happening)
    → LegalAfter s g (events_in (before ++ did e y ∷ more)) (trace_in (before ++ did e y ∷ more)) → MayDo s (history_after g (trace_in before)) e y
legal-at s g [] e y more p = p.0
legal-at s g (did f z ∷ hs) e y more p = legal-at s (grown g z) hs e y more p.1
legal-at s g (raised d flag ∷ hs) e y more p = legal-at s g hs e y more p
legal-at s g (passed d flag ∷ hs) e y more p = legal-at s g hs e y more p

may-happen : (s : Setting) (hs : List Happening) (x : Happening) → LegalAfter s [] (events_in (hs ++ x ∷ [])) (trace_in (hs ++ x ∷ [])) → MayHappen s (history_in hs) x
may-happen s hs (did e y) legal = legal-at s [] hs e y [] legal
may-happen s hs (raised d flag) legal = tt
may-happen s hs (passed d flag) legal = tt

pub comes-next : (c : RunContents) (hs : List Happening) (r q : Replay) (place : ℕ) (moved : Moved) → HasWalked c hs r → (on : ComesOn c hs place moved q) → ComesNext (setting_of_script c.head) hs place moved on.happened
comes-next c hs r q place moved walked on = record {
  reached = (r.core.state, walked.stands);
  right = may-happen (setting_of_script c.head) hs on.happened on.walked.legal;
  shown = on.shown;
  own_move = on.own_move;
}

-- a move was made
pub walked-more : (c : RunContents) (hs : List Happening) (r : Replay) (place : ℕ) (m : Option Moved) → IfSome m (λ moved. ComesOn c hs place moved r) → IsSome m → (x : Happening) × HasWalked c (hs ++ x ∷ []) r
walked-more c hs r place None on some = absurd (cc some)
walked-more c hs r place (Some moved) on some = (on.happened, on.walked)

-- tables

module _ (s : Setting) (hs : List Happening) (place : ℕ) (x : Happening) (ts : List SparseTable) where
  quiet : IsQuiet x → TablesShow s (history_in hs) ts → TablesShow s (history_in (hs ++ x ∷ [])) ts
  quiet is shows = subst (λ (h : History). TablesShow s h ts) (sym (history_quiet hs x is)) shows

  pub raised-left : ComesNext s hs place Raised x → TablesShow s (history_in hs) ts → TablesShow s (history_in (hs ++ x ∷ [])) ts
  raised-left next shows = let (dom, flag, is) = next.shown in quiet (subst IsQuiet (sym is) (tells dom flag)) shows

  pub passed-left : ComesNext s hs place Passed x → TablesShow s (history_in hs) ts → TablesShow s (history_in (hs ++ x ∷ [])) ts
  passed-left next shows = let (dom, flag, is) = next.shown in quiet (subst IsQuiet (sym is) (waits dom flag)) shows

-- a call that begins changes no table
pub began-left : (s : Setting) (c : Config) (hs : List Happening) (place : ℕ) (answer : Option Answer) (x : Happening) (ts : List SparseTable) → BeginningsChangeNothing → IsSettingOf c s → ComesNext s hs place (Began answer) x
    → TablesShow s (history_in hs) ts → TablesShow s (history_in (hs ++ x ∷ [])) ts
began-left s c hs place answer x ts law set next shows =
    let (dom, request, is) = next.shown in
    let i : Item = record { actor = dom; happened = item_events.Began request; answer = answer } in
    subst (λ (z : Happening). TablesShow s (history_in (hs ++ z ∷ [])) ts) (sym is) (subst (λ (h : History). TablesShow s h ts) (sym (history_did hs _ _)) ((law s (history_in hs) i request ts [] set.apart refl).0 shows))

-- the item of a step
pub record StepItem (s : Setting) (hs : List Happening) (place : ℕ) (step : Step) (seen : Observation) (x : Happening) : Type 0 where
  pub item : Item
  pub of_step : IsItemOfStep s (history_in hs) item place step seen
  pub history : history_in (hs ++ x ∷ []) ≡ item ∷ history_in hs

pub step-item : (s : Setting) (hs : List Happening) (place : ℕ) (step : Step) (seen : Observation) (answer : Option Answer) (x : Happening) → RightStepsFit → ComesNext s hs place (Stepped step seen answer) x → StepItem s hs place step seen x
step-item s hs place step seen answer x law next =
    let (dom, is) = next.shown in
    let i : Item = record { actor = dom; happened = item_events.Stepped step seen; answer = answer } in
    let d = mapped_back (λ (e : DomainConfig). e.id) (slice_get s.domains place) dom (next.own_move ∙ ap (λ (z : Happening). Some (doer z)) is) in
    let right = subst (λ (z : Happening). MayHappen s (history_in hs) z) is next.right in
    record {
      item = i;
      of_step = (law s (history_in hs) i place d.0 step step seen next.reached right.2 refl d.1 (sym d.2) refl).0;
      history = ap (λ (z : Happening). history_in (hs ++ z ∷ [])) is ∙ history_did hs _ _;
    }

-- turns

pub turns-more : (c : RunContents) (ts : List Turn) (hs : List Happening) (t : Turn) (x : Happening) → AreTurnsOf c ts hs → option_map (λ (d : DomainConfig). d.id) (slice_get c.head.domains t.place) ≡ Some (doer x) → AreTurnsOf c (ts ++ t ∷ []) (hs ++ x ∷ [])
turns-more c [] [] t x are own = (own, tt)
turns-more c [] (y ∷ hs) t x are own = absurd are
turns-more c (u ∷ ts) [] t x are own = absurd are
turns-more c (u ∷ ts) (y ∷ hs) t x (first, rest) own = (first, turns-more c ts hs t x rest own)
