-- Seats that the first one takes in: the rule of the table then, and what the first seat's holder learns.
use Rattle.std.specs.Prelude.{◌≡◌, ℕ, true, false, List, [], ◌∷◌, map, slice_set}
use Rattle.gt_word_history.specs.Prelude.{some, get_elem?, State, Me, Allows, View}
use Rattle.atomic_table.specs.Table.{Joins}
use Rattle.gt_word_history.specs.Prelude.{TableId}
use Rattle.atomic_table.specs.Table.{Step as TableStep}
use Rattle.gt_word_history.specs.declared.view.Outlook.{Outlook}
use Rattle.gt_word_history.specs.Rule.{Layout, Shows}
use Rattle.gt_word_history.specs.Steps.{StepKind, promises_step, promises_stored}

-- the knowledge of a seat that took no other in
abbrev pub outlook_of : View → Outlook
outlook_of v = record { own = v; taken = []; gone = false }

-- the view of a seat, with the slots that it carries
abbrev pub own_part : Me (Unit {0}) Outlook → Me (Unit {0}) View
own_part m = (m.0.own, m.1)

-- a view without knowledge
abbrev pub blank_view : View
blank_view =
    record { position = 0; first = 0; headers = []; ids = []; dealt = 0; steps = []; past = [] }

-- the knowledge of a seat that was taken in: none
abbrev pub gone_outlook : Outlook
gone_outlook = record { own = blank_view; taken = []; gone = true }

-- the views, with each of these put at its position
abbrev pub put : List View → List View → List View
put [] us = us
put (t ∷ ts) us = slice_set (put ts us) t.position t

abbrev pub owns : List Outlook → List View
owns xs = map (λ x. x.own) xs

-- the views that the first seat took in
abbrev pub taken_by : List Outlook → List View
taken_by [] = []
taken_by (x ∷ xs) = x.taken

-- the view of each seat, whether it still steps or was taken in
abbrev pub whole_views : List Outlook → List View
whole_views xs = put (taken_by xs) (owns xs)

abbrev pub whole : State (Unit {0}) Outlook → State (Unit {0}) View
whole s = record { words = s.words; homes = s.homes; views = whole_views s.views }

abbrev pub IsGoneAt : List Outlook → ℕ → Type 0
IsGoneAt xs j = (x : Outlook) × (get_elem? xs j ≡ some x) × (x.gone ≡ true)

-- each of these was taken in, and is still the view at its position
abbrev pub AreTaken : List Outlook → List View → List View → Type 0
AreTaken xs us [] = Unit {0}
AreTaken xs us (t ∷ ts) = IsGoneAt xs t.position × (get_elem? us t.position ≡ some t) × AreTaken xs us ts

-- the rule of the table if seats may be taken in
pub record TableHolds (k : Layout) (s : State (Unit {0}) Outlook) : Type 0 where
  pub shown : Shows k (whole s)
  pub taken : AreTaken s.views (whole_views s.views) (taken_by s.views)

-- the knowledge of a seat after it took another in
abbrev pub took : Outlook → Outlook → Outlook
took v w = record v { taken = w.own ∷ v.taken }

-- each of these views is the one at its position
abbrev pub AreIn : List View → List View → Type 0
AreIn us [] = Unit {0}
AreIn us (t ∷ ts) = (get_elem? us t.position ≡ some t) × AreIn us ts

abbrev pub Learns : Layout → Outlook → Type 0
Learns k v = (s : State (Unit {0}) View) × Shows k s × (get_elem? s.views 0 ≡ some v.own) × AreIn s.views v.taken

-- every step that the rule `Shows` allows is allowed by the rule of the table, and promises the same
abbrev pub StepsLift : Type 0
StepsLift =
    (k : Layout) (slots id : ℕ) (me : Me (Unit {0}) Outlook) (at : ℕ) (f : ℕ → ℕ) (d : StepKind)
    (st : TableStep (Unit {0}))
    → me.0.gone ≡ false → Allows (Shows k) slots id (own_part me) at f (promises_step d st (own_part me))
    → Allows (TableHolds k) slots id me at f
    (λ n m. promises_step d st (own_part me) n (own_part m) × (m.0.taken ≡ me.0.taken) × (m.0.gone ≡ false))

-- what a seat's step promises, and that it took no seat in
abbrev pub promises_own : StepKind → TableStep (Unit {0}) → Me (Unit {0}) Outlook → ℕ → Me (Unit {0}) Outlook → Type 0
promises_own d st m n m' =
    promises_step d st (own_part m) n (own_part m') × (m'.0.taken ≡ m.0.taken) × (m'.0.gone ≡ false)

abbrev pub promises_own_stored : StepKind → TableStep (Unit {0}) → Me (Unit {0}) Outlook → Me (Unit {0}) Outlook → Type 0
promises_own_stored d st m m' =
    promises_stored d st (own_part m) (own_part m') × (m'.0.taken ≡ m.0.taken) × (m'.0.gone ≡ false)

-- the first seat may take in each seat that is not taken in yet
abbrev pub SeatsJoin : Type 0
SeatsJoin =
    (k : Layout) (other : ℕ) (v w gone : Outlook) → v.gone ≡ false → w.gone ≡ false → gone.gone ≡ true
    → Joins (TableHolds k) 0 v other w (took v w) gone

-- the holder of the first seat learns of one state with all these views
abbrev pub HoldersLearn : Type 0
HoldersLearn =
    (k : Layout) (s : State (Unit {0}) Outlook) (v : Outlook) → TableHolds k s → get_elem? s.views 0 ≡ some v
    → v.gone ≡ false
    → Learns k v

-- what the first seat's look promises: nothing changed, and there is one state with all these views
abbrev pub learns_all : StepKind → TableStep (Unit {0}) → Me (Unit {0}) Outlook → ℕ → Me (Unit {0}) Outlook → Type 0
learns_all d st m n m' = (m' ≡ m) × Learns d.layout m.0

-- what clauses see of gathered seats: their table, and their views, the first seat's first
pub record GatheredOf : Type 0 where
  pub table : TableId
  pub views : List View

-- the views with one more, after the first one
abbrev pub with_view : View → List View → List View
with_view v [] = []
with_view v (u ∷ us) = u ∷ v ∷ us

-- words and views showed one state, in which each of these views is that of the seat at its position
abbrev pub StandTogether : Layout → List View → Type 0
StandTogether k us = (s : State (Unit {0}) View) × Shows k s × AreIn s.views us
