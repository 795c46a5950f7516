-- Which domains of a state are at the ends of their lists, and which moves the domains have.
use Rattle.std.specs.Prelude.{◌≡◌, ◌++◌, ◌&&◌, ◌==◌, not, nat_le, Bool, if◌then◌else◌, ℕ, suc, List, [], ◌∷◌, length}
use Rattle.std.specs.Prelude.{map}
use Rattle.std.specs.Prelude.{is_some, true, false, Some, slice_get, get_or}
use Rattle.std.specs.List.{range_with_len}
use Rattle.gt_explore_search.specs.declared.spaces.Turn.{Turn}
use Rattle.gt_script.specs.Lists.{RunTask}
use Rattle.gt_explore_moves.specs.declared.actor.Actor.{Actor}
use Rattle.gt_explore_moves.specs.declared.scene.SearchContext.{SearchContext}

-- the list of the domain at this position
abbrev pub tasks_at : SearchContext → ℕ → List RunTask
tasks_at s place = get_or (map (λ list. map (λ t. t.now) list.items) s.lists.items) place []

-- the domain has no call open, and has begun all tasks of its list
abbrev pub is_ended : SearchContext → ℕ → Actor → Bool
is_ended s place a = not (is_some a.«open») && nat_le (length (tasks_at s place)) a.next

-- it has no mapping either
abbrev pub is_done : SearchContext → ℕ → Actor → Bool
is_done s place a = is_ended s place a && (length a.mappings.items == 0)

-- each of them is done
abbrev pub AreDone : SearchContext → List Actor → Type 0
AreDone s actors = (at : ℕ) (a : Actor) → slice_get actors at ≡ Some a → is_done s at a ≡ true

-- this number of moves of the domain at this position, each with its own choice
abbrev pub choices : ℕ → ℕ → List Turn
choices place n = map (λ choice. record { place = place; choice = choice }) (range_with_len 0 n)

-- the number of its moves: at the end of its list it can release each of its mappings; otherwise it has one
abbrev pub choices_at : SearchContext → ℕ → Actor → ℕ
choices_at s place a = if is_ended s place a then length a.mappings.items else 1

-- the moves of these domains, of which the first is at this position, if each has this number of them
abbrev pub turns_by : (ℕ → Actor → ℕ) → ℕ → List Actor → List Turn
turns_by count place [] = []
turns_by count place (a ∷ more) = choices place (count place a) ++ turns_by count (suc place) more

-- the moves of all of them
abbrev pub turns_from : SearchContext → ℕ → List Actor → List Turn
turns_from s place actors = turns_by (choices_at s) place actors

-- the number of moves of a domain in a set: none of a domain outside
abbrev pub choices_in : SearchContext → List Bool → ℕ → Actor → ℕ
choices_in s inside place a = if get_or inside place false then choices_at s place a else 0
