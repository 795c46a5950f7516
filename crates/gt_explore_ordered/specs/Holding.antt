-- Which precedences hold in an order, by what happens in it.
use Rattle.std.specs.Prelude.{◌≡◌, ◌<◌, ◌==◌, ◌&&◌, ◌||◌, nat_lt, ℕ, Bool, false, List, [], ◌∷◌, ◌++◌, map, length}
use Rattle.std.specs.Prelude.{Option, Some, None, if◌then◌else◌, slice_get}
use Rattle.gt_types.specs.declared.DomId.{DomId}
use Rattle.gt_explore_replay.specs.Orders.{Happening, IsOrderOf, doer}
use Rattle.gt_precedence.specs.Precedence.{answers_call, begins_call, calls_answered, calls_begun}
use Rattle.gt_script.specs.RunContents.{RunContents}
use Rattle.gt_explore_ordered.specs.Notes.{has_mark, letters_in}
use Rattle.gt_explore_ordered.specs.declared.following.CallMove.{CallMove}
use Rattle.gt_explore_ordered.specs.declared.following.ReplayedOrder.{ReplayedOrder}
use Rattle.gt_explore_ordered.specs.declared.ordered.OrderedText.{OrderedText}
use Rattle.gt_explore_ordered.specs.declared.places.CallOrder.{CallOrder}

-- a happening as a move
abbrev pub move_shown : Happening → CallMove
move_shown x = record { dom = doer x; begins = begins_call x; answers = answers_call x }

-- by this move the second call begins, and the first has its answer, if this number of calls of the second domain has
-- begun before it, and that of the first has its answers
abbrev pub is_completed_by : CallOrder → ℕ → ℕ → CallMove → Bool
is_completed_by o begun answered m =
    (m.begins && (m.dom.0 == o.second.dom.0)) && ((begun == o.second.before) && nat_lt o.first.before answered)

-- 1 if a call of this domain begins by the move, 0 otherwise; and the same of an answer
abbrev pub calls_begun_by : DomId → CallMove → ℕ
calls_begun_by d m = if m.begins && (m.dom.0 == d.0) then 1 else 0

abbrev pub calls_answered_by : DomId → CallMove → ℕ
calls_answered_by d m = if m.answers && (m.dom.0 == d.0) then 1 else 0

-- this happening, after those, begins the second call, and the first one has its answer
abbrev pub is_completed : CallOrder → List Happening → Happening → Bool
is_completed o before x =
    (begins_call x && ((doer x).0 == o.second.dom.0))
    && ((calls_begun o.second.dom before == o.second.before)
    && nat_lt o.first.before (calls_answered o.first.dom before))

-- the same, if both lines have calls
abbrev pub is_completed_if : List Happening → Happening → Option CallOrder → Bool
is_completed_if before x None = false
is_completed_if before x (Some o) = is_completed o before x

-- one of the later happenings does so, after these
abbrev pub held_from : CallOrder → List Happening → List Happening → Bool
held_from o before [] = false
held_from o before (x ∷ hs) = is_completed o before x || held_from o (before ++ x ∷ []) hs

-- a precedence holds in an order, if both lines have calls
abbrev pub held_if : List Happening → Option CallOrder → Bool
held_if hs None = false
held_if hs (Some o) = held_from o [] hs

-- the order that was made again is one of the script
abbrev pub IsReplayOf : RunContents → ReplayedOrder → Type 0
IsReplayOf c r = (hs : List Happening) × IsOrderOf c hs r.text.items × (r.moves.items ≡ map move_shown hs)

-- the text is that of an order in which exactly these precedences hold
abbrev pub HoldsAs : RunContents → List (Option CallOrder) → OrderedText → Type 0
HoldsAs c orders t =
    (hs : List Happening) × IsOrderOf c hs t.text.items × (t.held.items ≡ map (held_if hs) orders)

-- these notes have the letters of the text, and the marks of the precedences that hold
abbrev pub IsNotedBy : List ℕ → OrderedText → Type 0
IsNotedBy bytes t =
    (letters_in None bytes ≡ t.text.items)
    × ((k : ℕ) → k < length t.held.items → slice_get t.held.items k ≡ Some (has_mark k None bytes))
