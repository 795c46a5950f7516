-- How seats of this table are dealt and taken in.
use Rattle.std.specs.Prelude.{◌≡◌, ℕ, ◌<◌, [], true, false}
use Rattle.atomic_table.specs.Table.{Joins, Me, Splits, Step as TableStep}
use Rattle.gt_word_history.specs.Joining.{Learns, gone_outlook, took}
use Rattle.gt_word_history.specs.Places.{dealing, dealt_outlook}
use Rattle.gt_shared_table.specs.declared.rule.FrameHolder.{FrameHolder}
use Rattle.gt_word_history.specs.Steps.{StepKind}
use Rattle.gt_shared_table.specs.Rule.{Cell, HoldsAll, Places, newcomer}

-- the first seat after it dealt a seat
abbrev pub dealer : FrameHolder → FrameHolder
dealer v = record v { own = dealing v.own }

-- the first seat may deal another one, while the run has a domain without a seat
abbrev pub SeatsAreDealt : Type 0
SeatsAreDealt =
    (b : Places) (id : ℕ) (v : FrameHolder) → v.own.gone ≡ false → v.own.taken ≡ [] → v.own.own.position ≡ 0
    → v.own.own.dealt < b.layout.domains → Splits (HoldsAll b) id v (dealer v) (newcomer (dealt_outlook v.own))

-- the first seat may take in another one that holds no frame
abbrev pub SeatsAreTakenIn : Type 0
SeatsAreTakenIn =
    (b : Places) (id other : ℕ) (v w gone : FrameHolder) → v.own.own.position ≡ 0 → v.own.gone ≡ false
    → w.own.gone ≡ false → w.held ≡ [] → gone.own.gone ≡ true → gone.held ≡ []
    → Joins (HoldsAll b) id v other w (record v { own = took v.own w.own }) gone

-- the seat that it deals
abbrev pub dealt_by : FrameHolder → FrameHolder
dealt_by v = newcomer (dealt_outlook v.own)

-- the first seat after it took another one in
abbrev pub taker : FrameHolder → FrameHolder → FrameHolder
taker v w = record v { own = took v.own w.own }

-- what a seat knows that was taken in: nothing
abbrev pub gone_holder : FrameHolder
gone_holder = record { own = gone_outlook; held = []; locks = [] }

-- what the first seat's look promises: nothing changed, and there is one state with all the views that it took in
abbrev pub learns_all_of : StepKind → TableStep Cell → Me Cell FrameHolder → ℕ → Me Cell FrameHolder → Type 0
learns_all_of d st m n m' = (m' ≡ m) × Learns d.layout m.0.own
