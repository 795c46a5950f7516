-- Laws about runs, and about the words' steps and the core's items.
use Rattle.std.specs.Prelude.{◌≡◌, ◌≢◌, ℕ, ◌<◌, ◌∷◌, Option, Some, None}
use Rattle.gt_linearization.specs.Prelude.{State, IsWithinLimits, domain_of, Config, Board, StepHistory, Layout, RecordsWord}
use Rattle.gt_linearization.specs.Prelude.{word_place_of, word_after, layout_of, SeatStep, View, path, Step, CanBeReached}
use Rattle.gt_linearization.specs.Prelude.{History, Underway, known_at, open_call, seen_by, values, IsRight, setting_of, Answer}
use Rattle.gt_linearization.specs.Prelude.{Stepped, Item, AllowRelation, seen_in_step}
use Rattle.gt_model.specs.declared.action.Action.TheVariants as actions
use Rattle.gt_linearization.specs.Agreeing.{Agree, IsThe, IsWithin, StoresChange, dom_at}
use Rattle.gt_linearization.specs.Ordering.{IsLegalOrder, RunOrder}
use Rattle.gt_linearization.specs.Runs.{IsMonitorRun, SeatRun}

-- if items and history agree, and the words' step records the word that is there, the core's step sees what that step
-- shows
abbrev pub CoreSeesTheWords : Type 0
CoreSeesTheWords =
    (c : Config) (may : AllowRelation) (k : Layout) (g : History) (h : StepHistory) (i : ℕ) (step : Step) (x : SeatStep)
    → k ≡ layout_of c → Agree (setting_of c may) k g h → i < k.domains → IsWithin k step → IsThe k i step x
    → RecordsWord x (word_after k h (word_place_of x)) → seen_by (setting_of c may) g (dom_at k i) step ≡ seen_in_step x

-- if items and history agree, and the seat of an open call made its next step, they agree after it
abbrev pub StepsKeepAgreement : Type 0
StepsKeepAgreement =
    (c : Config) (may : AllowRelation) (k : Layout) (g : History) (h : StepHistory) (i : ℕ) (call : Underway)
    (step : Step)
    (x : SeatStep) (answer : Option Answer) → k ≡ layout_of c → IsWithinLimits c → i < k.domains
    → let s = setting_of c may in let d = dom_at k i in
    let item : Item = record { actor = d; happened = Stepped step (seen_in_step x); answer = answer } in
    CanBeReached s g → Agree s k g h → domain_of s.domains d ≢ None → open_call g d.0 ≡ Some call
    → path (known_at s g d) d call.request (values call) ≡ Some (actions.Step step)
    → IsWithin k step → IsThe k i step x → StoresChange k h x → RecordsWord x (word_after k h (word_place_of x))
    → IsRight s g item → Agree s k (item ∷ g) ((i, x) ∷ h)

-- each run of the monitor has a legal order
abbrev pub RunsHaveLegalOrders : Type 0
RunsHaveLegalOrders =
    (b : Board) (c : Config) (may : AllowRelation) (s : State (Unit {0}) View) (seats : ℕ → SeatRun)
    (run : IsMonitorRun b c may s seats) → (o : RunOrder) × IsLegalOrder c may b.layout run.shown.history seats o
