-- The states whose moves are being tried.
use Rattle.std.proofs.Common.{◌≡◌, ◌⊎◌, ◌<◌, ◌≤◌, ℕ, zero, suc, ◌+◌, List, [], ◌∷◌, ◌++◌, length, ap, sym, ◌∙◌}
use Rattle.std.proofs.Common.{refl, subst, arith, inl, inr}
use Rattle.std.proofs.Common.{length-append, Option, Some, None, slice_get, Bool, true, false}
use Rattle.std.proofs.Common.{◌==◌, if◌then◌else◌}
use Rattle.std.proofs.lemmas.List.{append-nil}
use Rattle.std.proofs.lemmas.Option.{none-some, same_Some, slice_get_within}
use Rattle.std.specs.List.{flat_map, range_with_len}
use Rattle.gt_explore_search.specs.Lists.{HasItsLine, HasListAt, AreWhole, rest_by}
use Rattle.gt_explore_search.specs.Ways.{Ways, HasEnoughTurns, IsShownSo, LedFits, MayEnd, MovesTo, PrintsTo, ShowsFirst, only_at}
use Rattle.gt_explore_search.specs.Ways.{text_at, text_led}
use Rattle.gt_explore_search.specs.Exploring.{AllHaveLists, AllByTurn, AllTextsFound, EachVisitHolds, IsNumbered, IsLineOf}
use Rattle.gt_explore_search.specs.Exploring.{SearchHolds}
use Rattle.gt_explore_search.specs.Exploring.{LeadsOn, Grew, VisitHolds, Notes, TurnLeads, Gathered, Stepped, SearchStarts, SearchFinishes}
use Rattle.gt_explore_search.specs.declared.exploring.Explorer.{Explorer}
use Rattle.gt_explore_search.specs.declared.exploring.SearchResult.{SearchResult}
use Rattle.gt_explore_search.specs.declared.sharing.TriedTurn.{TriedTurn}
use Rattle.gt_explore_search.specs.declared.exploring.Node.{Node}
use Rattle.gt_explore_search.specs.declared.exploring.FoundText.{FoundText}
use Rattle.gt_explore_search.specs.declared.exploring.MadeTurn.{MadeTurn}
use Rattle.gt_explore_search.specs.declared.marks.Marks.{Marks}
use Rattle.gt_explore_search.specs.declared.exploring.OpenNode.{OpenNode}
use Rattle.gt_explore_search.specs.declared.spaces.TurnResult.{TurnResult}
use Rattle.gt_explore_search.specs.declared.spaces.TurnResult.TheVariants as turn_results
use Rattle.gt_explore_search.specs.declared.spaces.Turn.{Turn}
use Rattle.gt_explore_search.specs.declared.states.StateIndex.{StateIndex}
use Rattle.gt_explore_search.specs.declared.suffixes.AnswerLine.{AnswerLine}
use Rattle.gt_explore_search.specs.declared.suffixes.AnswerLists.{AnswerLists}
use Rattle.std.specs.Global.{Vec}
use Rattle.gt_explore_search.proofs.Listing.{grows_same}
use Rattle.gt_explore_search.proofs.Finding.{last_or}
use Rattle.gt_explore_search.proofs.Gathering.{less_or}
use Rattle.gt_explore_search.proofs.Growing.{grew_same, grew_on, holds_on, visit_on}
use Rattle.gt_explore_search.proofs.Keeping.{at_last, get_grown, get_kept, no_more}

-- stacks

pub each_on : {P : Type 0} (ways : Ways (List ℕ)) (old new : Explorer P) (stack : List OpenNode) → AreWhole old.suffixes → Grew old new → EachVisitHolds ways old stack → EachVisitHolds ways new stack
each_on ways old new stack whole grew each = λ i v there. visit_on ways old new v whole grew (each i v there)

pub each_push : {P : Type 0} (ways : Ways (List ℕ)) (ex : Explorer P) (stack new : List OpenNode) (v : OpenNode) → new ≡ stack ++ v ∷ [] → EachVisitHolds ways ex stack → VisitHolds ways ex v → EachVisitHolds ways ex new
each_push ways ex stack new v is each holds = λ i w there. by i w (last_or stack v w i (ap (λ (l : List OpenNode). slice_get l i) (sym is) ∙ there))
  where
    by : (i : ℕ) (w : OpenNode) → (slice_get stack i ≡ Some w) ⊎ ((w ≡ v) × (i ≡ length stack)) → VisitHolds ways ex w
    by i w (inl was) = each i w was
    by i w (inr (one, place)) = subst (λ (u : OpenNode). VisitHolds ways ex u) (sym one) holds

pub each_pop : {P : Type 0} (ways : Ways (List ℕ)) (ex : Explorer P) (old new : List OpenNode) (v : OpenNode) → old ≡ new ++ v ∷ [] → EachVisitHolds ways ex old → EachVisitHolds ways ex new × VisitHolds ways ex v
each_pop ways ex old new v is each = (
  λ i w there. each i w (ap (λ (l : List OpenNode). slice_get l i) is ∙ get_kept new (v ∷ []) i w there),
  each (length new) v (ap (λ (l : List OpenNode). slice_get l (length new)) is ∙ at_last new v),
)

-- a turn more was tried
pub tries_more : {P : Type 0} (ways : Ways (List ℕ)) (ex : Explorer P) (v : OpenNode) (turn : Turn) (tried : Vec TriedTurn) (next : ℕ) (holds : VisitHolds ways ex v) → next ≤ v.next + 1 → slice_get v.turns.items v.next ≡ Some turn
    → AllByTurn ways ex.suffixes holds.world v.ends.items turn → VisitHolds ways ex (record v { made = None; tried = tried; next = next })
tries_more ways ex v turn tried next holds le there found = record {
  world = holds.world;
  there = holds.there;
  turns = holds.turns;
  tried = λ at one lt is. by at one (less_or at v.next (omega (arith, lt, le))) is;
  made = λ other m at is. absurd (none-some m is);
  over = holds.over;
  lists = holds.lists;
}
  where
    by : (at : ℕ) (one : Turn) → (at < v.next) ⊎ (at ≡ v.next) → slice_get v.turns.items at ≡ Some one → AllByTurn ways ex.suffixes holds.world v.ends.items one
    by at one (inl less) is = holds.tried at one less is
    by at one (inr same) is =
        subst (λ (t : Turn). AllByTurn ways ex.suffixes holds.world v.ends.items t)
        (same_Some turn one (sym there ∙ ap (λ (n : ℕ). slice_get v.turns.items n) (sym same) ∙ is)) found

-- a move

-- it leads nowhere, so the domain has no move
pub steps_nowhere : {P : Type 0} (ways : Ways (List ℕ)) (ex : Explorer P) (v : OpenNode) (turn : Turn) (here copied moved : List ℕ) (led : TurnResult) (next : ℕ) → SearchHolds ways ex → VisitHolds ways ex v
    → slice_get v.turns.items v.next ≡ Some turn → slice_get ex.states.met v.state ≡ Some here → IsShownSo ways here copied → MovesTo ways copied turn led moved → led ≡ turn_results.Nowhere
    → next ≤ v.next + 1 → Stepped ways ex (record v { made = None; next = next }) None ex
steps_nowhere ways ex v turn here copied moved led next holds visit at there copies moves nowhere le = record {
  holds = holds;
  grew = grew_same ex;
  visit = tries_more ways ex v turn v.tried next visit le at (λ p m turns q shows comes goes.
      let same : visit.world ≡ here = same_Some visit.world here (sym visit.there ∙ there) in
      absurd (subst (λ (l : TurnResult). LedFits ways l turn.place p m) nowhere (moves p m (copies p (subst (λ i. ways.shows i p) same shows)) comes).0));
  deeper = tt;
}

-- the search after the line of a move was numbered
line_on : {P : Type 0} (ways : Ways (List ℕ)) (old new : Explorer P) (place : ℕ) (led : TurnResult) (line : Option AnswerLine) → IsLineOf old place led line new → SearchHolds ways old → SearchHolds ways new × Grew old new
line_on ways old new place led line is holds = (holds_on ways old new grew (ap (λ n. n.items) is.nodes) (λ state i so. ap (λ d. slice_get d.items state) (sym is.done) ∙ so) holds, grew)
  where
    grew : Grew old new
    grew = record {
      worlds = no_more old.states.met new.states.met (ap (λ s. s.met) is.states);
      nodes = no_more old.nodes.items new.nodes.items (ap (λ n. n.items) is.nodes);
      suffixes = is.suffixes;
      sets = no_more old.sets new.sets is.sets;
    }

-- the search after a state was numbered
abbrev pub with_states : {P : Type 0} → Explorer P → StateIndex P → Explorer P
with_states ex states = record ex { states = states }

numbered_more : {W : Type 0} (ways : Ways W) (old : List W) (w : W) (n : ℕ) (new : List W) → IsNumbered ways old w n new → (more : List W) × (new ≡ old ++ more)
numbered_more ways old w n new (inl was) = no_more old new was.0
numbered_more ways old w n new (inr next) = (w ∷ [], next.1)

numbered_on : {P : Type 0} (ways : Ways (List ℕ)) (old : Explorer P) (states : StateIndex P) (w : List ℕ) (n : ℕ) → IsNumbered ways old.states.met w n states.met → SearchHolds ways old
    → SearchHolds ways (with_states old states) × Grew old (with_states old states)
numbered_on ways old states w n is holds = (holds_on ways old (with_states old states) grew refl (λ state i so. so) holds, grew)
  where
    grew : Grew old (with_states old states)
    grew = record {
      worlds = numbered_more ways old.states.met w n states.met is;
      nodes = no_more old.nodes.items _ refl;
      suffixes = grows_same old.suffixes;
      sets = no_more old.sets _ refl;
    }

-- the state with the number shows what the state shows that was numbered
shown_at : {W : Type 0} (ways : Ways W) (old : List W) (w : W) (n : ℕ) (new : List W) (u : W) → IsNumbered ways old w n new → slice_get new n ≡ Some u → IsShownSo ways w u
shown_at ways old w n new u (inl (same, (v, at, shows))) there = λ p so.
    subst (λ i. ways.shows i p) (same_Some v u (sym at ∙ ap (λ l. slice_get l n) (sym same) ∙ there)) (shows p so)
shown_at ways old w n new u (inr (next, more)) there = λ p so.
    subst (λ i. ways.shows i p) (same_Some w u (sym (at_last old w) ∙ ap (λ (m : ℕ). slice_get (old ++ w ∷ []) m) (sym next) ∙ ap (λ l. slice_get l n) (sym more) ∙ there)) so

nothing_at : (place at : ℕ) → ◌≡◌ {A = List ℕ} [] (only_at place [] at)
nothing_at place at = by (place == at)
  where
    by : (b : Bool) → ◌≡◌ {A = List ℕ} [] (if b then [] else [])
    by true = refl
    by false = refl

fits_prints : {W : Type 0} (ways : Ways W) (led : TurnResult) (place : ℕ) (p q : ways.Point) → LedFits ways led place p q → PrintsTo ways (only_at place (text_led led)) p q
fits_prints ways turn_results.Nowhere place p q fits = absurd fits
fits_prints ways turn_results.On place p q fits = λ at. fits at ∙ ap (λ (l : List ℕ). ways.printed p at ++ l) (nothing_at place at)
fits_prints ways (turn_results.Answered line) place p q fits = fits

-- the number has a state
numbered_there : {W : Type 0} (ways : Ways W) (old : List W) (w : W) (n : ℕ) (new : List W) → IsNumbered ways old w n new → (u : W) × (slice_get new n ≡ Some u)
numbered_there ways old w n new (inl (same, (v, at, shows))) = (v, ap (λ l. slice_get l n) same ∙ at)
numbered_there ways old w n new (inr (next, more)) = (w, ap (λ l. slice_get l n) more ∙ ap (λ (m : ℕ). slice_get (old ++ w ∷ []) m) next ∙ at_last old w)

-- a state that is new has its number
pub new_there : {W : Type 0} (ways : Ways W) (old : List W) (w : W) (n : ℕ) (new : List W) → IsNumbered ways old w n new → n ≡ length old → slice_get new n ≡ Some w
new_there ways old w n new (inl (same, (v, at, shows))) last = let within = slice_get_within old n v at in absurd (omega (arith, within, last))
new_there ways old w n new (inr (next, more)) last = ap (λ l. slice_get l n) more ∙ ap (λ (m : ℕ). slice_get (old ++ w ∷ []) m) next ∙ at_last old w

abbrev pub made_of : ℕ → Option AnswerLine → MadeTurn
made_of state line = record { state = state; line = line }

-- the turn was made, and its state has a number
pub made_on : {P : Type 0} (ways : Ways (List ℕ)) (old mid : Explorer P) (states : StateIndex P) (v : OpenNode) (turn : Turn) (here moved : List ℕ) (led : TurnResult) (line : Option AnswerLine) (state : ℕ)
    → SearchHolds ways old → VisitHolds ways old v → slice_get v.turns.items v.next ≡ Some turn → slice_get old.states.met v.state ≡ Some here
    → MovesTo ways here turn led moved → IsLineOf old turn.place led line mid → IsNumbered ways mid.states.met moved state states.met
    → Stepped ways old (record v { made = Some (made_of state line) }) None (with_states mid states)
made_on ways old mid states v turn here moved led line state holds visit at there moves lines numbers =
    record {
      holds = second.0;
      grew = both;
      visit = record {
        world = now.world;
        there = now.there;
        turns = now.turns;
        tried = now.tried;
        made = λ other m is same. subst (λ (t : Turn). LeadsOn ways (with_states mid states) now.world t m) (same_Some turn other (sym at ∙ is))
            (subst (λ (n : MadeTurn). LeadsOn ways (with_states mid states) now.world turn n) (same_Some (made_of state line) m same) leads);
        over = now.over;
        lists = now.lists;
      };
      deeper = tt;
    }
  where
    first : SearchHolds ways mid × Grew old mid
    first = line_on ways old mid turn.place led line lines holds

    second : SearchHolds ways (with_states mid states) × Grew mid (with_states mid states)
    second = numbered_on ways mid states moved state numbers first.0

    both : Grew old (with_states mid states)
    both = grew_on old mid (with_states mid states) first.1 second.1

    now : VisitHolds ways (with_states mid states) v
    now = visit_on ways old (with_states mid states) v holds.whole both visit

    leads : LeadsOn ways (with_states mid states) now.world turn (made_of state line)
    leads =
        let other = numbered_there ways mid.states.met moved state states.met numbers in
        record {
          line = lines.line;
          other = other.0;
          there = other.1;
          leads = λ p m shows comes.
              let same : now.world ≡ here = same_Some now.world here (sym now.there ∙ get_grown old.states.met states.met v.state here both.worlds there) in
              let moved_so = moves p m (subst (λ i. ways.shows i p) same shows) comes in (
                shown_at ways mid.states.met moved state states.met other.0 numbers other.1 m moved_so.1,
                λ at. fits_prints ways led turn.place p m moved_so.0 at ∙ ap (λ (l : List ℕ). ways.printed p at ++ l) (sym (lines.printed at)),
              );
        }

-- its state is new
pub made_new : {P : Type 0} (ways : Ways (List ℕ)) (old mid new : Explorer P) (v deeper : OpenNode) → SearchHolds ways old → Stepped ways old v None mid → SearchHolds ways new × Grew mid new × VisitHolds ways new deeper
    → Stepped ways old v (Some deeper) new
made_new ways old mid new v deeper holds step opened = record {
  holds = opened.0;
  grew = grew_on old mid new step.grew opened.1;
  visit = visit_on ways mid new v step.holds.whole opened.1 step.visit;
  deeper = opened.2;
}

-- the state that the turn led to is done
pub leads_done : {P : Type 0} (ways : Ways (List ℕ)) (ex : Explorer P) (v : OpenNode) (turn : Turn) (made : MadeTurn) (node : ℕ) → SearchHolds ways ex → VisitHolds ways ex v → slice_get v.turns.items v.next ≡ Some turn
    → v.made ≡ Some made → slice_get ex.done.items made.state ≡ Some (Some node) → HasItsLine ex.suffixes made.line × TurnLeads ways ex v turn node made.line
leads_done ways ex v turn made node holds visit at is done = (
  leads.line,
  record {
    done = it.0;
    there = it.1;
    leads = λ w u here there p m shows comes.
        let own : w ≡ visit.world = same_Some w visit.world (sym here ∙ visit.there) in
        let other : leads.other ≡ u = same_Some leads.other u (sym leads.there ∙ ap (λ (n : ℕ). slice_get ex.states.met n) (sym it.2) ∙ there) in
        let led = leads.leads p m (subst (λ i. ways.shows i p) own shows) comes in
        (subst (λ i. ways.shows i m) other led.0, led.1);
  },
)
  where
    leads : LeadsOn ways ex visit.world turn made
    leads = visit.made turn made at is

    it : (n : Node) × (slice_get ex.nodes.items node ≡ Some n) × (n.state ≡ made.state)
    it = holds.done made.state node done

-- what it leads to was gathered
pub back_on : {P : Type 0} (ways : Ways (List ℕ)) (old new : Explorer P) (v w : OpenNode) (turn : Turn) (tried : Vec TriedTurn) (next : ℕ) → slice_get v.turns.items v.next ≡ Some turn → Gathered ways old v turn new w → next ≤ w.next + 1
    → Stepped ways old (record w { made = None; tried = tried; next = next }) None new
back_on ways old new v w turn tried next at all le = record {
  holds = all.holds;
  grew = all.grew;
  visit =
      tries_more ways new w turn tried next all.visit le
      (ap (λ (n : ℕ). slice_get w.turns.items n) all.next ∙ ap (λ t. slice_get t.items v.next) all.turns ∙ at) all.found;
  deeper = tt;
}

-- a new state

-- the search after one more state is not done
abbrev pub with_done : {P : Type 0} → Explorer P → Vec (Option ℕ) → Marks → Explorer P
with_done ex done marks = record ex { done = done; marks = marks }

done_on : {P : Type 0} (ways : Ways (List ℕ)) (old : Explorer P) (done : Vec (Option ℕ)) (marks : Marks) → done.items ≡ old.done.items ++ None ∷ [] → SearchHolds ways old
    → SearchHolds ways (with_done old done marks) × Grew old (with_done old done marks)
done_on ways old done marks is holds = (holds_on ways old (with_done old done marks) grew refl (λ state i so. by state i (last_or old.done.items None (Some i) state (ap (λ (l : List (Option ℕ)). slice_get l state) (sym is) ∙ so))) holds, grew)
  where
    grew : Grew old (with_done old done marks)
    grew = record {
      worlds = no_more old.states.met _ refl;
      nodes = no_more old.nodes.items _ refl;
      suffixes = grows_same old.suffixes;
      sets = no_more old.sets _ refl;
    }

    by : (state i : ℕ) → (slice_get old.done.items state ≡ Some (Some i)) ⊎ ((Some i ≡ None) × (state ≡ length old.done.items)) → slice_get old.done.items state ≡ Some (Some i)
    by state i (inl was) = was
    by state i (inr (none, place)) = absurd (none-some i (sym none))

none_there : {X : Type 0} (xs : List X) (at : ℕ) (x : X) → xs ≡ [] → slice_get xs at ≡ Some x → ⊥
none_there xs at x none is = none-some x (ap (λ l. slice_get l at) (sym none) ∙ is)

below_none : (at next : ℕ) → next ≡ 0 → at < next → ⊥
below_none at next is lt = omega (arith, is, lt)

-- no domain ends there
pub visits_on : {P : Type 0} (ways : Ways (List ℕ)) (old : Explorer P) (done : Vec (Option ℕ)) (marks : Marks) (v : OpenNode) (world : List ℕ) → done.items ≡ old.done.items ++ None ∷ [] → slice_get old.states.met v.state ≡ Some world
    → HasEnoughTurns ways world v.turns.items → v.next ≡ 0 → v.made ≡ None → v.ends.items ≡ []
    → (MayEnd ways world → ⊥)
    → SearchHolds ways old → SearchHolds ways (with_done old done marks) × Grew old (with_done old done marks) × VisitHolds ways (with_done old done marks) v
visits_on ways old done marks v world more there turns none unmade ends goes holds =
    let it = done_on ways old done marks more holds in (
      it.0,
      it.1,
      record {
        world = world;
        there = there;
        turns = turns;
        tried = λ at turn lt is p m more q shows comes on. absurd (below_none at v.next none lt);
        made = λ other m at is. absurd (none-some m (sym unmade ∙ is));
        over = λ p shows over. absurd (goes (p, shows, over));
        lists = λ at e is. absurd (none_there v.ends.items at e ends is);
      },
    )

prints_none : {W : Type 0} (ways : Ways W) (rest : ℕ → List ℕ) (p : ways.Point) → ((at : ℕ) → rest at ≡ []) → PrintsTo ways rest p p
prints_none ways rest p none = λ at. sym (append-nil (ways.printed p at)) ∙ ap (λ (i : List ℕ). ways.printed p at ++ i) (sym (none at))

-- they may end there: the empty list was noted
pub visits_end : {P : Type 0} (ways : Ways (List ℕ)) (old : Explorer P) (done : Vec (Option ℕ)) (marks : Marks) (v w : OpenNode) (world : List ℕ) → done.items ≡ old.done.items ++ None ∷ []
    → slice_get old.states.met v.state ≡ Some world → HasEnoughTurns ways world v.turns.items → v.next ≡ 0 → v.made ≡ None → v.ends.items ≡ []
    → Notes v 0 w → SearchHolds ways old → SearchHolds ways (with_done old done marks) × Grew old (with_done old done marks) × VisitHolds ways (with_done old done marks) w
visits_end ways old done marks v w world more there turns none unmade ends notes holds =
    let it = done_on ways old done marks more holds in (
      it.0,
      it.1,
      record {
        world = world;
        there = ap (λ (n : ℕ). slice_get old.states.met n) notes.state ∙ there;
        turns = subst (λ (t : Vec Turn). HasEnoughTurns ways world t.items) (sym notes.turns) turns;
        tried = λ at turn lt is p m more q shows comes on. absurd (below_none at w.next (notes.next ∙ none) lt);
        made = λ other m at is. absurd (none-some m (sym unmade ∙ sym notes.made ∙ is));
        over = λ p shows over. (0, notes.has, holds.empty.0, prints_none ways (rest_by old.suffixes 0) p holds.empty.1);
        lists = by notes.ends;
      },
    )
  where
    either : (at e : ℕ) → (slice_get v.ends.items at ≡ Some e) ⊎ ((e ≡ 0) × (at ≡ length v.ends.items)) → HasListAt old.suffixes e
    either at e (inl was) = absurd (none_there v.ends.items at e ends was)
    either at e (inr (one, place)) = subst (λ (i : ℕ). HasListAt old.suffixes i) (sym one) holds.empty.0

    by : ((w.ends.items ≡ v.ends.items) ⊎ (w.ends.items ≡ v.ends.items ++ 0 ∷ [])) → AllHaveLists old.suffixes w.ends.items
    by (inl same) = λ at e is. absurd (none_there v.ends.items at e ends (ap (λ (l : List ℕ). slice_get l at) (sym same) ∙ is))
    by (inr one) = λ at e is. either at e (last_or v.ends.items 0 e at (ap (λ (l : List ℕ). slice_get l at) (sym one) ∙ is))

pub not_both : (b : Bool) → b ≡ true → b ≡ false → ⊥
not_both b is isnt = let same : true ≡ false = sym is ∙ isnt in absurd (cc)

pub each_first : {P : Type 0} (ways : Ways (List ℕ)) (ex : Explorer P) (stack new : List OpenNode) (v : OpenNode) → stack ≡ [] → new ≡ stack ++ v ∷ [] → VisitHolds ways ex v → EachVisitHolds ways ex new
each_first ways ex stack new v none is holds = each_push ways ex stack new v is (λ i w there. absurd (none_there stack i w none there)) holds

-- the beginning of the search

first_there : {W : Type 0} (ways : Ways W) (old : List W) (w : W) (n : ℕ) (new : List W) → old ≡ [] → IsNumbered ways old w n new → slice_get new 0 ≡ Some w
first_there ways old w n new none (inl (same, (v, at, shows))) = absurd (none_there old n v none at)
first_there ways old w n new none (inr (next, more)) = ap (λ l. slice_get l 0) (more ∙ ap (λ l. l ++ w ∷ []) none)

pub starts_on : {P : Type 0} (ways : Ways (List ℕ)) (old : Explorer P) (states : StateIndex P) (w : List ℕ) (n : ℕ) → SearchStarts ways old → IsNumbered ways old.states.met w n states.met
    → SearchHolds ways (with_states old states) × (slice_get states.met 0 ≡ Some w)
starts_on ways old states w n starts numbers =
    ((numbered_on ways old states w n numbers starts.holds).0, first_there ways old.states.met w n states.met starts.none numbers)

-- the first state has the number 0
pub started-at : {P : Type 0} (ways : Ways (List ℕ)) (old : Explorer P) (states : StateIndex P) (w : List ℕ) (n : ℕ) → SearchStarts ways old → IsNumbered ways old.states.met w n states.met → n ≡ length old.states.met
started-at ways old states w n starts (inl (same, (v, at, shows))) = absurd (none_there old.states.met n v starts.none at)
started-at ways old states w n starts (inr (next, more)) = next

pub finishes_on : {P : Type 0} (ways : Ways (List ℕ)) (old mid new : Explorer P) (w : List ℕ) → slice_get old.states.met 0 ≡ Some w → ShowsFirst ways w → Grew old mid → SearchHolds ways new × Grew mid new
    → SearchFinishes ways new
finishes_on ways old mid new w there shows grew on = record {
  holds = on.0;
  first = w;
  there = get_grown old.states.met new.states.met 0 w (grew_on old mid new grew on.1).worlds there;
  shows = shows;
}

-- the end of the search

same_texts : (f g : ℕ → List ℕ) (a n : ℕ) → ((at : ℕ) → f at ≡ g at) → flat_map f (range_with_len a n) ≡ flat_map g (range_with_len a n)
same_texts f g a zero same = refl
same_texts f g a (suc n) same = ap (λ (i : List ℕ). i ++ flat_map f (range_with_len (a + 1) n)) (same a) ∙ ap (λ (i : List ℕ). g a ++ i) (same_texts f g (a + 1) n same)

-- what is printed from the beginning on is the whole text
whole_text : {W : Type 0} (ways : Ways W) (rest : ℕ → List ℕ) (p q : ways.Point) → ways.begins p → PrintsTo ways rest p q → text_at ways q ≡ flat_map rest (range_with_len 0 ways.domains)
whole_text ways rest p q begins prints =
    same_texts (ways.printed q) rest 0 ways.domains (λ at. prints at ∙ ap (λ (i : List ℕ). i ++ rest at) (ways.blank p begins at))

pub text_found : {P : Type 0} (ways : Ways (List ℕ)) (ex : Explorer P) (over : SearchFinishes ways ex) (node : ℕ) (found : SearchResult) → slice_get ex.done.items 0 ≡ Some (Some node)
    → ((n : Node) (ends : List ℕ) (at e : ℕ) → slice_get ex.nodes.items node ≡ Some n → slice_get ex.sets n.set ≡ Some ends → slice_get ends at ≡ Some e → HasListAt ex.suffixes e
    → (o : FoundText) × (slice_get found.orders.items at ≡ Some o) × (o.text.items ≡ flat_map (rest_by ex.suffixes e) (range_with_len 0 ways.domains)))
    → AllTextsFound ways found
text_found ways ex over node found first orders = λ p turns q begins goes.
    let it = over.holds.done 0 node first in
    let n = it.0 in
    let holds = over.holds.nodes node n it.1 in
    let same : holds.world ≡ over.first = same_Some holds.world over.first (sym holds.there ∙ ap (λ (i : ℕ). slice_get ex.states.met i) it.2 ∙ over.there) in
    let (list, (at, there), has, prints) = holds.finds p turns q (subst (λ i. ways.shows i p) (sym same) (over.shows p begins)) goes in
    let o = orders n holds.ends at list it.1 holds.has there (holds.lists at list there) in (
      at,
      o.0,
      o.1,
      o.2 ∙ sym (whole_text ways (rest_by ex.suffixes list) p q begins prints),
    )

-- one order more

-- each of the first ends has its text among these orders
abbrev pub HaveTexts : AnswerLists → ℕ → List ℕ → List FoundText → ℕ → Type 0
HaveTexts s domains ends orders i =
    (at e : ℕ) → at < i → slice_get ends at ≡ Some e → HasListAt s e
    → (o : FoundText) × (slice_get orders at ≡ Some o) × (o.text.items ≡ flat_map (rest_by s e) (range_with_len 0 domains))

pub texts_more : (s : AnswerLists) (domains i : ℕ) (ends : List ℕ) (e : ℕ) (old new : List FoundText) (o : FoundText) → length old ≡ i → slice_get ends i ≡ Some e → new ≡ old ++ o ∷ []
    → (HasListAt s e → o.text.items ≡ flat_map (rest_by s e) (range_with_len 0 domains)) → HaveTexts s domains ends old i → HaveTexts s domains ends new (i + 1)
texts_more s domains i ends e old new o many there more text each = λ at d lt is has. by at d (less_or at i lt) is has
  where
    by : (at d : ℕ) → (at < i) ⊎ (at ≡ i) → slice_get ends at ≡ Some d → HasListAt s d
        → (p : FoundText) × (slice_get new at ≡ Some p) × (p.text.items ≡ flat_map (rest_by s d) (range_with_len 0 domains))
    by at d (inl less) is has =
        let was = each at d less is has in
        (was.0, ap (λ (l : List FoundText). slice_get l at) more ∙ get_kept old (o ∷ []) at was.0 was.1, was.2)
    by at d (inr same) is has =
        let one : d ≡ e = same_Some d e (sym is ∙ ap (λ (n : ℕ). slice_get ends n) same ∙ there) in (
          o,
          ap (λ (l : List FoundText). slice_get l at) more ∙ ap (λ (n : ℕ). slice_get (old ++ o ∷ []) n) (same ∙ sym many) ∙ at_last old o,
          text (subst (λ (f : ℕ). HasListAt s f) one has) ∙ ap (λ (f : ℕ). flat_map (rest_by s f) (range_with_len 0 domains)) (sym one),
        )

pub length_more : (old new : List FoundText) (o : FoundText) (i : ℕ) → length old ≡ i → new ≡ old ++ o ∷ [] → length new ≡ i + 1
length_more old new o i many more = let len : length new ≡ length old + 1 = ap length more ∙ length-append old (o ∷ []) in omega (arith, many, len)
