-- A state whose moves were all tried is done: its ways on are found.
use Rattle.std.proofs.Common.{◌≡◌, ◌⊎◌, ◌<◌, ◌≤◌, ℕ, zero, suc, List, [], ◌∷◌, ◌++◌, length, ap, sym, ◌∙◌, refl}
use Rattle.std.proofs.Common.{subst, arith, inl, inr}
use Rattle.std.proofs.Common.{Option, Some, slice_get, slice_set}
use Rattle.std.proofs.lemmas.Option.{none-some, same_Some, slice_get_within}
use Rattle.gt_explore_search.specs.Lists.{HasListAt, AreWhole, GrowsInto, IsEmptyList}
use Rattle.gt_explore_search.specs.Numbers.{IsKeptAs}
use Rattle.gt_explore_search.specs.Ways.{Ways, GoesTo, HasEachTurn, HasEnoughTurns, PrintsSame}
use Rattle.gt_explore_search.specs.Exploring.{HasEnd, IsAmongEnds, AllHaveLists, NodeHolds, SearchHolds, Grew, VisitHolds, Notes}
use Rattle.gt_explore_search.specs.declared.exploring.Explorer.{Explorer}
use Rattle.gt_explore_search.specs.declared.exploring.Node.{Node}
use Rattle.gt_explore_search.specs.declared.exploring.OpenNode.{OpenNode}
use Rattle.gt_explore_search.specs.declared.spaces.Turn.{Turn}
use Rattle.gt_explore_search.specs.declared.suffixes.AnswerLists.{AnswerLists}
use Rattle.std.specs.Global.{Vec}
use Rattle.gt_explore_search.proofs.Growing.{among_grown, lists_grown, node_on}
use Rattle.gt_explore_search.proofs.Keeping.{at_last, get_grown, get_kept, kept_more, kept_there, no_more}
use Rattle.gt_explore_search.proofs.Listing.{grows_same}

-- lists

pub last_or : {X : Type 0} (xs : List X) (e x : X) (at : ℕ) → slice_get (xs ++ e ∷ []) at ≡ Some x → ((slice_get xs at ≡ Some x) ⊎ ((x ≡ e) × (at ≡ length xs)))
last_or [] e x zero is = inr (sym (same_Some e x is), refl)
last_or [] e x (suc at) is = absurd (none-some x is)
last_or (y ∷ xs) e x zero is = inl is
last_or (y ∷ xs) e x (suc at) is = by (last_or xs e x at is)
  where
    by : (slice_get xs at ≡ Some x) ⊎ ((x ≡ e) × (at ≡ length xs)) → (slice_get xs at ≡ Some x) ⊎ ((x ≡ e) × (suc at ≡ suc (length xs)))
    by (inl there) = inl there
    by (inr (one, place)) = inr (one, ap suc place)

pub done_set : (xs : List (Option ℕ)) (s n state i : ℕ) → slice_get (slice_set xs s (Some n)) state ≡ Some (Some i) → ((slice_get xs state ≡ Some (Some i)) ⊎ ((state ≡ s) × (i ≡ n)))
done_set [] s n state i is = inl is
done_set (x ∷ xs) zero n zero i is = inr (refl, sym (same_Some n i (same_Some (Some n) (Some i) is)))
done_set (x ∷ xs) zero n (suc state) i is = inl is
done_set (x ∷ xs) (suc s) n zero i is = inl is
done_set (x ∷ xs) (suc s) n (suc state) i is = by (done_set xs s n state i is)
  where
    by : (slice_get xs state ≡ Some (Some i)) ⊎ ((state ≡ s) × (i ≡ n)) → (slice_get xs state ≡ Some (Some i)) ⊎ ((suc state ≡ suc s) × (i ≡ n))
    by (inl there) = inl there
    by (inr (one, other)) = inr (ap suc one, other)

-- notes

pub notes_new : (v : OpenNode) (list : ℕ) (w : OpenNode) → w.state ≡ v.state → w.turns ≡ v.turns → w.next ≡ v.next → w.made ≡ v.made → w.ends.items ≡ v.ends.items ++ list ∷ [] → Notes v list w
notes_new v list w state turns next made ends = record {
  state = state;
  turns = turns;
  next = next;
  made = made;
  ends = inr ends;
  has = (length v.ends.items, ap (λ (l : List ℕ). slice_get l (length v.ends.items)) ends ∙ at_last v.ends.items list);
}

pub notes_old : (v : OpenNode) (list : ℕ) → HasEnd v.ends.items list → Notes v list v
notes_old v list has = record {
  state = refl;
  turns = refl;
  next = refl;
  made = refl;
  ends = inl refl;
  has = has;
}

pub end_more : (v : OpenNode) (list : ℕ) (w : OpenNode) (other : ℕ) → ((w.ends.items ≡ v.ends.items) ⊎ (w.ends.items ≡ v.ends.items ++ list ∷ [])) → HasEnd v.ends.items other → HasEnd w.ends.items other
end_more v list w other (inl same) (at, there) = (at, ap (λ (l : List ℕ). slice_get l at) same ∙ there)
end_more v list w other (inr more) (at, there) = (at, ap (λ (l : List ℕ). slice_get l at) more ∙ get_kept v.ends.items (list ∷ []) at other there)

pub among_noted : {W : Type 0} (ways : Ways W) (s : AnswerLists) (v : OpenNode) (e : ℕ) (w : OpenNode) (p q : ways.Point) → Notes v e w → IsAmongEnds ways s v.ends.items p q → IsAmongEnds ways s w.ends.items p q
among_noted ways s v e w p q notes (list, end, has, prints) = (list, end_more v e w list notes.ends end, has, prints)

-- a list that there is was noted
pub visit_noted : {P : Type 0} (ways : Ways (List ℕ)) (ex : Explorer P) (v : OpenNode) (e : ℕ) (w : OpenNode) → Notes v e w → HasListAt ex.suffixes e → VisitHolds ways ex v → VisitHolds ways ex w
visit_noted ways ex v e w notes has holds = record {
  world = holds.world;
  there = ap (λ (n : ℕ). slice_get ex.states.met n) notes.state ∙ holds.there;
  turns = subst (λ (t : Vec Turn). HasEnoughTurns ways holds.world t.items) (sym notes.turns) holds.turns;
  tried = λ at turn lt there p m turns q shows next goes.
      among_noted ways ex.suffixes v e w p q notes
      (holds.tried at turn (subst (λ (n : ℕ). at < n) notes.next lt) (ap (λ (l : List Turn). slice_get l at) (ap (λ t. t.items) (sym notes.turns)) ∙ there) p m turns q shows next goes);
  made = λ turn m at is.
      holds.made turn m
      (ap (λ (n : ℕ). slice_get v.turns.items n) (sym notes.next) ∙ ap (λ (l : List Turn). slice_get l w.next) (ap (λ t. t.items) (sym notes.turns)) ∙ at)
      (sym notes.made ∙ is);
  over = λ p shows ended. among_noted ways ex.suffixes v e w p p notes (holds.over p shows ended);
  lists = by notes.ends;
}
  where
    either : (at d : ℕ) → (slice_get v.ends.items at ≡ Some d) ⊎ ((d ≡ e) × (at ≡ length v.ends.items)) → HasListAt ex.suffixes d
    either at d (inl was) = holds.lists at d was
    either at d (inr (one, place)) = subst (λ (i : ℕ). HasListAt ex.suffixes i) (sym one) has

    by : ((w.ends.items ≡ v.ends.items) ⊎ (w.ends.items ≡ v.ends.items ++ e ∷ [])) → AllHaveLists ex.suffixes w.ends.items
    by (inl same) = λ at d there. holds.lists at d (ap (λ (l : List ℕ). slice_get l at) (sym same) ∙ there)
    by (inr more) = λ at d there. either at d (last_or v.ends.items e d at (ap (λ (l : List ℕ). slice_get l at) (sym more) ∙ there))

-- done

-- what leads to one end leads to another one at which the same was printed
among_same : {W : Type 0} (ways : Ways W) (s : AnswerLists) (ends : List ℕ) (p r q : ways.Point) → PrintsSame ways q r → IsAmongEnds ways s ends p r → IsAmongEnds ways s ends p q
among_same ways s ends p r q same (list, end, has, prints) = (list, end, has, λ at. sym (same at) ∙ prints at)

all_found : {P : Type 0} (ways : Ways (List ℕ)) (ex : Explorer P) (v : OpenNode) (holds : VisitHolds ways ex v) → length v.turns.items ≤ v.next
    → (p : ways.Point) (turns : List Turn) (q : ways.Point) → ways.shows holds.world p → GoesTo ways p turns q → IsAmongEnds ways ex.suffixes v.ends.items p q
all_found ways ex v holds all p [] q shows goes = subst (λ (l : ways.Point). IsAmongEnds ways ex.suffixes v.ends.items p l) goes.0 (holds.over p shows goes.1)
all_found ways ex v holds all p (turn ∷ turns) q shows goes =
    let (first, n, rest, r, at, next, on, same) = holds.turns p turn goes.0 turns q shows goes.1 goes.2 in
    let within = slice_get_within v.turns.items at.0 first at.1 in
    among_same ways ex.suffixes v.ends.items p r q same (holds.tried at.0 first (omega (arith, within, all)) at.1 p n rest r shows next on)

-- a state that is done

grew_done : {P : Type 0} (old new : Explorer P) (n : Node) (ends : List ℕ) → new.states ≡ old.states → new.suffixes ≡ old.suffixes → new.nodes.items ≡ old.nodes.items ++ n ∷ [] → IsKeptAs old.sets ends n.set new.sets → Grew old new
grew_done old new n ends states suffixes nodes kept = record {
  worlds = no_more old.states.met new.states.met (ap (λ s. s.met) states);
  nodes = (n ∷ [], nodes);
  suffixes = subst (λ (s : AnswerLists). GrowsInto old.suffixes s) (sym suffixes) (grows_same old.suffixes);
  sets = kept_more old.sets ends n.set new.sets kept;
}

pub holds_done : {P : Type 0} (ways : Ways (List ℕ)) (old new : Explorer P) (v : OpenNode) (made : Node) → made.state ≡ v.state → IsKeptAs old.sets v.ends.items made.set new.sets → SearchHolds ways old → VisitHolds ways old v → length v.turns.items ≤ v.next → new.states ≡ old.states
    → new.suffixes ≡ old.suffixes → new.nodes.items ≡ old.nodes.items ++ made ∷ []
    → ((state i : ℕ) → slice_get new.done.items state ≡ Some (Some i) → (slice_get old.done.items state ≡ Some (Some i)) ⊎ ((state ≡ v.state) × (i ≡ length old.nodes.items)))
    → SearchHolds ways new × Grew old new
holds_done ways old new v made of_state kept holds visit all states suffixes nodes done = (
  record {
    whole = subst AreWhole (sym suffixes) holds.whole;
    empty = subst (λ (s : AnswerLists). IsEmptyList s 0) (sym suffixes) holds.empty;
    nodes = λ i n there. each i n (last_or old.nodes.items made n i (ap (λ (l : List Node). slice_get l i) (sym nodes) ∙ there));
    done = λ state i is. numbered state i (done state i is);
  },
  grew,
)
  where
    grew : Grew old new
    grew = grew_done old new made v.ends.items states suffixes nodes kept

    own : NodeHolds ways new made
    own = record {
      world = visit.world;
      there = get_grown old.states.met new.states.met made.state visit.world grew.worlds (ap (λ (n : ℕ). slice_get old.states.met n) of_state ∙ visit.there);
      ends = v.ends.items;
      has = kept_there old.sets v.ends.items made.set new.sets kept;
      finds = λ p turns q shows goes. among_grown ways old.suffixes new.suffixes v.ends.items p q holds.whole grew.suffixes (all_found ways old v visit all p turns q shows goes);
      lists = lists_grown old.suffixes new.suffixes v.ends.items grew.suffixes visit.lists;
    }

    each : (i : ℕ) (n : Node) → (slice_get old.nodes.items i ≡ Some n) ⊎ ((n ≡ made) × (i ≡ length old.nodes.items)) → NodeHolds ways new n
    each i n (inl was) = node_on ways old new n holds.whole grew (holds.nodes i n was)
    each i n (inr (one, place)) = subst (λ (m : Node). NodeHolds ways new m) (sym one) own

    numbered : (state i : ℕ) → (slice_get old.done.items state ≡ Some (Some i)) ⊎ ((state ≡ v.state) × (i ≡ length old.nodes.items))
        → (n : Node) × (slice_get new.nodes.items i ≡ Some n) × (n.state ≡ state)
    numbered state i (inl was) =
        let it = holds.done state i was in
        (it.0, ap (λ (l : List Node). slice_get l i) nodes ∙ get_kept old.nodes.items (made ∷ []) i it.0 it.1, it.2)
    numbered state i (inr (one, place)) =
        (made, ap (λ (l : List Node). slice_get l i) nodes ∙ ap (λ (j : ℕ). slice_get (old.nodes.items ++ made ∷ []) j) place ∙ at_last old.nodes.items made, of_state ∙ sym one)

-- turns

-- each turn is enough
pub each_enough : {W : Type 0} (ways : Ways W) (w : W) (turns : List Turn) → HasEachTurn ways w turns → HasEnoughTurns ways w turns
each_enough ways w turns each p turn m more q shows next goes = (turn, m, more, q, each p turn m shows next, next, goes, λ at. refl)
