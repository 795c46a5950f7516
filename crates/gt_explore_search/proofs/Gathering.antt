-- The ways on by a turn are gathered from the state that it leads to.
use Rattle.std.proofs.Common.{◌≡◌, ◌⊎◌, ◌<◌, ◌≤◌, ℕ, zero, suc, ◌+◌, List, ◌++◌, length, ap, sym, ◌∙◌, refl, subst}
use Rattle.std.proofs.Common.{arith, inl, inr}
use Rattle.std.proofs.Common.{Option, Some, slice_get, append_assoc}
use Rattle.std.proofs.lemmas.Option.{same_Some, slice_get_within}
use Rattle.gt_explore_search.specs.Lists.{HasListAt, AreWhole, GrowsInto, HasItsLine, IsLonger, line_by, rest_by}
use Rattle.gt_explore_search.specs.Ways.{Ways, PrintsTo}
use Rattle.gt_explore_search.specs.Exploring.{AllHaveLists, HasEnd, AllByTurn, NodeHolds, SearchHolds, Grew, VisitHolds, Notes, TurnLeads}
use Rattle.gt_explore_search.specs.Exploring.{Gathered}
use Rattle.gt_explore_search.specs.declared.exploring.Explorer.{Explorer}
use Rattle.gt_explore_search.specs.declared.exploring.Node.{Node}
use Rattle.gt_explore_search.specs.declared.marks.Marks.{Marks}
use Rattle.gt_explore_search.specs.declared.exploring.OpenNode.{OpenNode}
use Rattle.gt_explore_search.specs.declared.spaces.Turn.{Turn}
use Rattle.gt_explore_search.specs.declared.suffixes.AnswerLine.{AnswerLine}
use Rattle.gt_explore_search.specs.declared.suffixes.AnswerLists.{AnswerLists}
use Rattle.gt_explore_search.proofs.Listing.{grows_same, rest_kept, list_grown, line_kept}
use Rattle.gt_explore_search.proofs.Growing.{grew_on, visit_on, holds_on}
use Rattle.gt_explore_search.proofs.Keeping.{get_grown, no_more}
use Rattle.gt_explore_search.proofs.Finding.{end_more, visit_noted}

-- the ways on to the first of the lists that the other state leads to are gathered
pub record IsGathering {P : Type 0} (ways : Ways (List ℕ)) (old : Explorer P) (v : OpenNode) (turn : Turn) (line : Option AnswerLine) (ends : List ℕ) (ex : Explorer P) (w : OpenNode) (i : ℕ) : Type 0 where
  pub holds : SearchHolds ways ex
  pub grew : Grew old ex
  pub visit : VisitHolds ways ex w
  pub next : w.next ≡ v.next
  pub turns : w.turns ≡ v.turns
  pub state : w.state ≡ v.state
  pub found : (at e : ℕ) → at < i → slice_get ends at ≡ Some e
      → (list : ℕ) × HasEnd w.ends.items list × HasListAt ex.suffixes list × IsLonger ex.suffixes line e list

-- the search after a list was numbered and noted
abbrev pub with_suffixes : {P : Type 0} → Explorer P → AnswerLists → Marks → Explorer P
with_suffixes ex t marks = record ex { suffixes = t; marks = marks }

grew_so : {P : Type 0} (ex : Explorer P) (t : AnswerLists) (marks : Marks) → GrowsInto ex.suffixes t → Grew ex (with_suffixes ex t marks)
grew_so ex t marks grows = record {
  worlds = no_more ex.states.met _ refl;
  nodes = no_more ex.nodes.items _ refl;
  suffixes = grows;
  sets = no_more ex.sets _ refl;
}

holds_so : {P : Type 0} (ways : Ways (List ℕ)) (ex : Explorer P) (t : AnswerLists) (marks : Marks) → GrowsInto ex.suffixes t → SearchHolds ways ex → SearchHolds ways (with_suffixes ex t marks)
holds_so ways ex t marks grows holds = holds_on ways ex (with_suffixes ex t marks) (grew_so ex t marks grows) refl (λ state j so. so) holds

pub gathers_first : {P : Type 0} (ways : Ways (List ℕ)) (old : Explorer P) (marks : Marks) (v : OpenNode) (turn : Turn) (line : Option AnswerLine) (ends : List ℕ) → SearchHolds ways old → VisitHolds ways old v
    → IsGathering ways old v turn line ends (with_suffixes old old.suffixes marks) v 0
gathers_first ways old marks v turn line ends holds visit = record {
  holds = holds_so ways old old.suffixes marks (grows_same old.suffixes) holds;
  grew = grew_so old old.suffixes marks (grows_same old.suffixes);
  visit = visit_on ways old (with_suffixes old old.suffixes marks) v holds.whole (grew_so old old.suffixes marks (grows_same old.suffixes)) visit;
  next = refl;
  turns = refl;
  state = refl;
  found = λ at e lt is. absurd (omega (arith, lt));
}

-- what the turn leads to, when the search has come on
leads_on : {P : Type 0} (ways : Ways (List ℕ)) (old : Explorer P) (v : OpenNode) (turn : Turn) (node : ℕ) (line : Option AnswerLine) (done : Node) (ex : Explorer P) → SearchHolds ways old → VisitHolds ways old v
    → TurnLeads ways old v turn node line → slice_get old.nodes.items node ≡ Some done → Grew old ex → HasItsLine old.suffixes line
    → (w u : List ℕ) → slice_get ex.states.met v.state ≡ Some w → slice_get ex.states.met done.state ≡ Some u
    → (p m : ways.Point) → ways.shows w p → ways.next p turn m
    → ways.shows u m × PrintsTo ways (line_by ex.suffixes line) p m
leads_on ways old v turn node line done ex holds visit leads is grew has w u here there p m shows next =
    let one : leads.done ≡ done = same_Some leads.done done (sym leads.there ∙ is) in
    let it = holds.nodes node done is in
    let same : visit.world ≡ w = same_Some visit.world w (sym (get_grown old.states.met ex.states.met v.state visit.world grew.worlds visit.there) ∙ here) in
    let other : it.world ≡ u = same_Some it.world u (sym (get_grown old.states.met ex.states.met done.state it.world grew.worlds it.there) ∙ there) in
    let led = leads.leads visit.world it.world visit.there (ap (λ (n : Node). slice_get old.states.met n.state) one ∙ it.there) p m
    (subst (λ i. ways.shows i p) (sym same) shows) next in (
      subst (λ i. ways.shows i m) other led.0,
      λ at. led.1 at ∙ ap (λ (i : List ℕ). ways.printed p at ++ i) (sym (line_kept old.suffixes ex.suffixes line at grew.suffixes has)),
    )

longer_on : (s t : AnswerLists) (line : Option AnswerLine) (list n : ℕ) → AreWhole s → GrowsInto s t → HasItsLine s line → HasListAt s list → HasListAt s n → IsLonger s line list n → IsLonger t line list n
longer_on s t line list n whole grows is has also longer = λ at.
    rest_kept s t n at whole grows also ∙ longer at
    ∙ ap (λ (i : List ℕ). i ++ rest_by s list at) (sym (line_kept s t line at grows is))
    ∙ ap (λ (i : List ℕ). line_by t line at ++ i) (sym (rest_kept s t list at whole grows has))

-- each of the ends of a node has a list
ends_there : {P : Type 0} (ways : Ways (List ℕ)) (ex : Explorer P) (node : ℕ) (done : Node) (ends : List ℕ) → SearchHolds ways ex → slice_get ex.nodes.items node ≡ Some done → slice_get ex.sets done.set ≡ Some ends
    → AllHaveLists ex.suffixes ends
ends_there ways ex node done ends holds is are = let it = holds.nodes node done is in subst (AllHaveLists ex.suffixes) (same_Some it.ends ends (sym it.has ∙ are)) it.lists

pub less_or : (at i : ℕ) → at < i + 1 → (at < i) ⊎ (at ≡ i)
less_or zero zero lt = inr refl
less_or zero (suc i) lt = inl (omega arith)
less_or (suc at) zero lt = absurd (omega (arith, lt))
less_or (suc at) (suc i) lt = by (less_or at i (omega (arith, lt)))
  where
    by : (at < i) ⊎ (at ≡ i) → (suc at < suc i) ⊎ (suc at ≡ suc i)
    by (inl less) = inl (omega (arith, less))
    by (inr same) = inr (ap suc same)

-- the next list was gathered
pub gathers_more : {P : Type 0} (ways : Ways (List ℕ)) (old : Explorer P) (v : OpenNode) (turn : Turn) (node : ℕ) (line : Option AnswerLine) (done : Node) (ends : List ℕ) (ex : Explorer P) (w : OpenNode) (i e : ℕ)
    (t : AnswerLists) (marks : Marks) (list : ℕ) (u : OpenNode)
    → SearchHolds ways old → slice_get old.nodes.items node ≡ Some done → slice_get old.sets done.set ≡ Some ends → HasItsLine ex.suffixes line → IsGathering ways old v turn line ends ex w i → slice_get ends i ≡ Some e
    → GrowsInto ex.suffixes t → (HasListAt ex.suffixes e → HasListAt t list)
    → (AreWhole ex.suffixes → HasListAt ex.suffixes e → IsLonger t line e list)
    → Notes w list u
    → IsGathering ways old v turn line ends (with_suffixes ex t marks) u (i + 1)
gathers_more ways old v turn node line done ends ex w i e t marks list u first is are line_on gathers there grows lists longers notes = record {
  holds = holds;
  grew = grew;
  visit = visit_noted ways (with_suffixes ex t marks) w list u notes has now;
  next = notes.next ∙ gathers.next;
  turns = notes.turns ∙ gathers.turns;
  state = notes.state ∙ gathers.state;
  found = found;
}
  where
    on : Grew ex (with_suffixes ex t marks)
    on = grew_so ex t marks grows

    grew : Grew old (with_suffixes ex t marks)
    grew = grew_on old ex (with_suffixes ex t marks) gathers.grew on

    holds : SearchHolds ways (with_suffixes ex t marks)
    holds = holds_so ways ex t marks grows gathers.holds

    now : VisitHolds ways (with_suffixes ex t marks) w
    now = visit_on ways ex (with_suffixes ex t marks) w gathers.holds.whole on gathers.visit

    each : (at d : ℕ) → slice_get ends at ≡ Some d → HasListAt ex.suffixes d
    each at d so = list_grown old.suffixes ex.suffixes d gathers.grew.suffixes (ends_there ways old node done ends first is are at d so)

    was : HasListAt ex.suffixes e
    was = each i e there

    has : HasListAt t list
    has = lists was

    longer : IsLonger t line e list
    longer = longers gathers.holds.whole was

    found : (at d : ℕ) → at < i + 1 → slice_get ends at ≡ Some d
        → (n : ℕ) × HasEnd u.ends.items n × HasListAt t n × IsLonger t line d n
    found at d lt so = by (less_or at i lt)
      where
        by : (at < i) ⊎ (at ≡ i) → (n : ℕ) × HasEnd u.ends.items n × HasListAt t n × IsLonger t line d n
        by (inl less) =
            let f = gathers.found at d less so in (
              f.0,
              end_more w list u f.0 notes.ends f.1,
              list_grown ex.suffixes t f.0 grows f.2,
              longer_on ex.suffixes t line d f.0 gathers.holds.whole grows line_on (each at d so) f.2 f.3,
            )
        by (inr same) =
            let one : d ≡ e = same_Some d e (sym so ∙ ap (λ (n : ℕ). slice_get ends n) same ∙ there) in (
              list,
              notes.has,
              has,
              subst (λ (b : ℕ). IsLonger t line b list) (sym one) longer,
            )

-- all were gathered
pub gathers_all : {P : Type 0} (ways : Ways (List ℕ)) (old : Explorer P) (v : OpenNode) (turn : Turn) (node : ℕ) (line : Option AnswerLine) (done : Node) (ends : List ℕ) (ex : Explorer P) (w : OpenNode) (i : ℕ)
    → SearchHolds ways old → VisitHolds ways old v → TurnLeads ways old v turn node line → slice_get old.nodes.items node ≡ Some done → slice_get old.sets done.set ≡ Some ends → HasItsLine old.suffixes line
    → length ends ≤ i → IsGathering ways old v turn line ends ex w i → Gathered ways old v turn ex w
gathers_all ways old v turn node line done ends ex w i first visit leads is are line_is all gathers = record {
  holds = gathers.holds;
  grew = gathers.grew;
  visit = gathers.visit;
  next = gathers.next;
  turns = gathers.turns;
  found = found;
}
  where
    it : NodeHolds ways ex done
    it = gathers.holds.nodes node done (get_grown old.nodes.items ex.nodes.items node done gathers.grew.nodes is)

    own : it.ends ≡ ends
    own = same_Some it.ends ends (sym it.has ∙ get_grown old.sets ex.sets done.set ends gathers.grew.sets are)

    found : AllByTurn ways ex.suffixes gathers.visit.world w.ends.items turn
    found = λ p m turns q shows next goes.
        let led = leads_on ways old v turn node line done ex first visit leads is gathers.grew line_is gathers.visit.world it.world
        (ap (λ (n : ℕ). slice_get ex.states.met n) (sym gathers.state) ∙ gathers.visit.there) it.there p m shows next in
        let (old_list, (at, there), has, prints) = it.finds m turns q led.0 goes in
        let now : slice_get ends at ≡ Some old_list = ap (λ (l : List ℕ). slice_get l at) (sym own) ∙ there in
        let within = slice_get_within ends at old_list now in
        let (list, end, also, longer) = gathers.found at old_list (omega (arith, within, all)) now in (
          list,
          end,
          also,
          λ i.
              prints i ∙ ap (λ (b : List ℕ). b ++ rest_by ex.suffixes old_list i) (led.1 i)
              ∙ append_assoc (ways.printed p i) (line_by ex.suffixes line i) (rest_by ex.suffixes old_list i)
              ∙ ap (λ (b : List ℕ). ways.printed p i ++ b) (sym (longer i)),
        )
