-- What holds in a search holds when it has come on.
use Rattle.std.proofs.Common.{◌≡◌, ℕ, List, ◌++◌, ap, sym, ◌∙◌, refl}
use Rattle.std.proofs.Common.{Some, slice_get}
use Rattle.gt_explore_search.specs.Lists.{HasListAt, AreWhole, GrowsInto, rest_by}
use Rattle.gt_explore_search.specs.Ways.{Ways, PrintsTo}
use Rattle.gt_explore_search.specs.Exploring.{IsAmongEnds, AllHaveLists, LeadsOn, NodeHolds, SearchHolds, Grew, VisitHolds}
use Rattle.gt_explore_search.specs.declared.exploring.Explorer.{Explorer}
use Rattle.gt_explore_search.specs.declared.exploring.Node.{Node}
use Rattle.gt_explore_search.specs.declared.exploring.MadeTurn.{MadeTurn}
use Rattle.gt_explore_search.specs.declared.exploring.OpenNode.{OpenNode}
use Rattle.gt_explore_search.specs.declared.spaces.Turn.{Turn}
use Rattle.gt_explore_search.specs.declared.suffixes.AnswerLists.{AnswerLists}
use Rattle.gt_explore_search.proofs.Keeping.{both_more, get_grown, no_more}
use Rattle.gt_explore_search.proofs.Listing.{rest_kept, line_grown, line_kept, list_grown, grows_same, grows_on}

-- lists of answers

prints_grown : {W : Type 0} (ways : Ways W) (s t : AnswerLists) (n : ℕ) (p q : ways.Point) → AreWhole s → GrowsInto s t → HasListAt s n → PrintsTo ways (rest_by s n) p q → PrintsTo ways (rest_by t n) p q
prints_grown ways s t n p q whole grows has prints = λ at. prints at ∙ ap (λ w. ways.printed p at ++ w) (sym (rest_kept s t n at whole grows has))

pub among_grown : {W : Type 0} (ways : Ways W) (s t : AnswerLists) (ends : List ℕ) (p q : ways.Point) → AreWhole s → GrowsInto s t → IsAmongEnds ways s ends p q → IsAmongEnds ways t ends p q
among_grown ways s t ends p q whole grows (list, end, has, prints) = (list, end, list_grown s t list grows has, prints_grown ways s t list p q whole grows has prints)

pub lists_grown : (s t : AnswerLists) (ends : List ℕ) → GrowsInto s t → AllHaveLists s ends → AllHaveLists t ends
lists_grown s t ends grows lists = λ at list there. list_grown s t list grows (lists at list there)

-- searches

pub grew_same : {P : Type 0} (ex : Explorer P) → Grew ex ex
grew_same ex = record {
  worlds = no_more ex.states.met _ refl;
  nodes = no_more ex.nodes.items _ refl;
  suffixes = grows_same ex.suffixes;
  sets = no_more ex.sets _ refl;
}

pub grew_on : {P : Type 0} (a b d : Explorer P) → Grew a b → Grew b d → Grew a d
grew_on a b d first second = record {
  worlds = both_more a.states.met b.states.met d.states.met first.worlds second.worlds;
  nodes = both_more a.nodes.items b.nodes.items d.nodes.items first.nodes second.nodes;
  suffixes = grows_on a.suffixes b.suffixes d.suffixes first.suffixes second.suffixes;
  sets = both_more a.sets b.sets d.sets first.sets second.sets;
}

pub node_on : {P : Type 0} (ways : Ways (List ℕ)) (old new : Explorer P) (n : Node) → AreWhole old.suffixes → Grew old new → NodeHolds ways old n → NodeHolds ways new n
node_on ways old new n whole grew holds = record {
  world = holds.world;
  there = get_grown old.states.met new.states.met n.state holds.world grew.worlds holds.there;
  ends = holds.ends;
  has = get_grown old.sets new.sets n.set holds.ends grew.sets holds.has;
  finds = λ p turns q shows goes. among_grown ways old.suffixes new.suffixes holds.ends p q whole grew.suffixes (holds.finds p turns q shows goes);
  lists = lists_grown old.suffixes new.suffixes holds.ends grew.suffixes holds.lists;
}

leads_grown : {P : Type 0} (ways : Ways (List ℕ)) (old new : Explorer P) (w : List ℕ) (turn : Turn) (m : MadeTurn) → Grew old new → LeadsOn ways old w turn m → LeadsOn ways new w turn m
leads_grown ways old new w turn m grew leads = record {
  line = line_grown old.suffixes new.suffixes m.line grew.suffixes leads.line;
  other = leads.other;
  there = get_grown old.states.met new.states.met m.state leads.other grew.worlds leads.there;
  leads = λ p q shows next.
      let led = leads.leads p q shows next in (
        led.0,
        λ at. led.1 at ∙ ap (λ (i : List ℕ). ways.printed p at ++ i) (sym (line_kept old.suffixes new.suffixes m.line at grew.suffixes leads.line)),
      );
}

pub visit_on : {P : Type 0} (ways : Ways (List ℕ)) (old new : Explorer P) (v : OpenNode) → AreWhole old.suffixes → Grew old new → VisitHolds ways old v → VisitHolds ways new v
visit_on ways old new v whole grew holds = record {
  world = holds.world;
  there = get_grown old.states.met new.states.met v.state holds.world grew.worlds holds.there;
  turns = holds.turns;
  tried = λ at turn lt there p m turns q shows next goes.
      among_grown ways old.suffixes new.suffixes v.ends.items p q whole grew.suffixes (holds.tried at turn lt there p m turns q shows next goes);
  made = λ turn m at is. leads_grown ways old new holds.world turn m grew (holds.made turn m at is);
  over = λ p shows ended. among_grown ways old.suffixes new.suffixes v.ends.items p p whole grew.suffixes (holds.over p shows ended);
  lists = lists_grown old.suffixes new.suffixes v.ends.items grew.suffixes holds.lists;
}

-- a search that has done no more states
pub holds_on : {P : Type 0} (ways : Ways (List ℕ)) (old new : Explorer P) → Grew old new → new.nodes.items ≡ old.nodes.items
    → ((state i : ℕ) → slice_get new.done.items state ≡ Some (Some i) → slice_get old.done.items state ≡ Some (Some i)) → SearchHolds ways old → SearchHolds ways new
holds_on ways old new grew same done holds = record {
  whole = grew.suffixes.whole holds.whole;
  empty = (list_grown old.suffixes new.suffixes 0 grew.suffixes holds.empty.0, λ at. rest_kept old.suffixes new.suffixes 0 at holds.whole grew.suffixes holds.empty.0 ∙ holds.empty.1 at);
  nodes = λ i n there. node_on ways old new n holds.whole grew (holds.nodes i n (ap (λ l. slice_get l i) (sym same) ∙ there));
  done = λ state i is.
      let was = holds.done state i (done state i is) in
      (was.0, ap (λ l. slice_get l i) same ∙ was.1, was.2);
}
