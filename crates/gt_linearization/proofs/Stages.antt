-- Where each domain of a run is, after some steps of the history, and the order so far.
use Rattle.std.proofs.Common.{◌≡◌, ◌≢◌, ℕ, ◌<◌, Bool, false, cond, ◌==◌, List, [], ◌∷◌, ◌++◌, Option, Some, None, sym}
use Rattle.std.proofs.Common.{refl, ap, ◌∙◌, subst, eq-eqb, inl, inr}
use Rattle.std.proofs.lemmas.Bool.{cases_eq}
use Rattle.gt_types.specs.Config.{IsWithinLimits}
use Rattle.gt_types.specs.Names.{domain_of}
use Rattle.gt_types.specs.declared.DomId.{DomId}
use Rattle.gt_types.specs.declared.config.Config.{Config}
use Rattle.gt_words.specs.Conditions.{Board}
use Rattle.gt_word_history.specs.History.{StepHistory, Layout, Moment, part_of, up_to}
use Rattle.gt_word_history.specs.Rule.{layout_of}
use Rattle.gt_word_history.specs.declared.view.View.{View}
use Rattle.gt_model.specs.Asking.{asked, bytes_given_by}
use Rattle.gt_model.specs.declared.action.Action.TheVariants as actions
use Rattle.gt_model.specs.declared.action.Step.{Step}
use Rattle.gt_core.proofs.AgreementKept.{open_call-other}
use Rattle.gt_core.proofs.Mappings.{mappings-same}
use Rattle.gt_core.proofs.Playing.{history-more, legal-more}
use Rattle.gt_model.proofs.Observers.{other-known, other-maps, other-pins}
use Rattle.gt_core.specs.GoingOn.{CanBeReached}
use Rattle.gt_model.specs.History.{History, Setting, Underway, mapping_named, known_at, maps_answered_at, mappings_at}
use Rattle.gt_model.specs.History.{open_call, values, setting_of}
use Rattle.gt_model.specs.Legal.{IsRight, Legal, MayDo, history_after}
use Rattle.gt_core.specs.Standing.{MappingsAgree}
use Rattle.gt_model.specs.declared.trace.Answer.{Answer}
use Rattle.gt_model.specs.declared.trace.Element.TheVariants as elements
use Rattle.gt_model.specs.declared.trace.ItemEvent.{ItemEvent}
use Rattle.gt_model.specs.declared.trace.ItemEvent.TheVariants.{Began, Stepped}
use Rattle.gt_model.specs.declared.trace.Item.{Item}
use Rattle.gt_live.specs.Domains.{AllowRelation, knowledge}
use Rattle.gt_live.specs.Walks.{view_after, all_shown}
use Rattle.gt_live.specs.declared.domain.Domain.{Domain}
use Rattle.gt_linearization.proofs.Places.{test-apart}
use Rattle.gt_linearization.proofs.Stepping.{AreBounded}
use Rattle.gt_linearization.specs.Agreeing.{Agree, WritesAgree, dom_at}
use Rattle.gt_linearization.specs.Ordering.{AreOnRaisedFlags, AreStepsOf, AreTrueLooks, Occurrence, RunOrder, actor_in}
use Rattle.gt_linearization.specs.Ordering.{event_in, events_of, item_of_beginning, items_in, items_of_steps, of_core}
use Rattle.gt_linearization.specs.Ordering.{order_of_actions, own_in, trace_of, way_of}
use Rattle.gt_linearization.specs.Ordering.Occurrence.{OfCore}
use Rattle.gt_linearization.specs.Runs.{AreDeeds, CallMade, DomainAct, IsAtRest, IsCall, IsCallWalk, domain_after}

-- where a domain is: between two deeds, after these; or after these in a call that has made these steps
pub data Stage : Type 0 where
  Resting : List DomainAct → Stage
  Going : List DomainAct → CallMade → List Moment → Stage

-- the domain as it was at rest last, and its view now
abbrev pub domain_now : Domain → Stage → Domain
domain_now first (Resting ms) = domain_after first ms
domain_now first (Going ms m xs) = m.old

abbrev pub view_now : Domain → Stage → View
view_now first (Resting ms) = (domain_after first ms).seat.view
view_now first (Going ms m xs) = view_after xs m.old.seat.view

-- what it did, in an order
abbrev pub order_now : Config → AllowRelation → DomId → Stage → RunOrder
order_now c may d (Resting ms) = order_of_actions c may d ms
order_now c may d (Going ms m xs) = of_core (items_of_steps d (way_of c may m) None xs) ++ OfCore (item_of_beginning d m.request None) ∷ order_of_actions c may d ms

-- the call was begun, made these steps and is to make one more
pub record IsGoing (b : Board) (c : Config) (may : AllowRelation) (first : Domain) (ms : List DomainAct) (m : CallMade) (xs : List Moment) : Type 0 where
  pub run_actions : AreDeeds b c may first ms
  pub rests : IsAtRest (domain_after first ms) m.old
  pub call : IsCall b c may m
  pub walked : IsCallWalk b.layout (bytes_given_by m.request) (way_of c may m) m.old.seat.view xs
  pub step : Step
  pub next : way_of c may m (all_shown xs) ≡ Some (actions.Step step)

abbrev pub IsStage : Board → Config → AllowRelation → Domain → Stage → Type 0
IsStage b c may first (Resting ms) = AreDeeds b c may first ms
IsStage b c may first (Going ms m xs) = IsGoing b c may first ms m xs

-- the seat at the position i has made just its part of the history by then
pub record Fits (b : Board) (c : Config) (may : AllowRelation) (h : StepHistory) (i : ℕ) (first : Domain) (stage : Stage) : Type 0 where
  pub is : IsStage b c may first stage
  pub steps : (view_now first stage).steps ≡ part_of i h
  pub past : (view_now first stage).past ≡ up_to i h

-- the open call of a domain
abbrev pub CallNow : History → DomId → Stage → Type 0
CallNow g d (Resting ms) = open_call g d.0 ≡ None
CallNow g d (Going ms m xs) = (cl : Underway) × (open_call g d.0 ≡ Some cl) × (cl.request ≡ asked m.request) × (values cl ≡ all_shown xs) × (cl.given ≡ bytes_given_by m.request)

-- what the items have made of a domain
pub record SeatNow (c : Config) (may : AllowRelation) (g : History) (d : DomId) (first : Domain) (stage : Stage) : Type 0 where
  pub maps : MappingsAgree (domain_now first stage).mappings (mappings_at g d.0) (maps_answered_at g d.0)
  pub known : known_at (setting_of c may) g d ≡ knowledge c may (domain_now first stage)
  pub call : CallNow g d stage

-- an order of what all domains did by then
pub record Ordered (b : Board) (c : Config) (may : AllowRelation) (h : StepHistory) (firsts : ℕ → Domain) (stages : ℕ → Stage) : Type 0 where
  pub g : History
  pub order : RunOrder
  pub items : items_in order ≡ g
  pub reached : CanBeReached (setting_of c may) g
  pub agree : Agree (setting_of c may) b.layout g h
  pub legal : Legal (setting_of c may) (events_of g) (trace_of g)
  pub steps : AreStepsOf b.layout order h
  pub writes : WritesAgree b.layout g h
  pub flags : AreOnRaisedFlags c order
  pub looks : AreTrueLooks (setting_of c may) order
  pub bounded : AreBounded b.layout g
  pub own : (i : ℕ) → i < b.layout.domains → own_in (dom_at b.layout i) order ≡ order_now c may (dom_at b.layout i) (stages i)
  pub each : (i : ℕ) → i < b.layout.domains → SeatNow c may g (dom_at b.layout i) (firsts i) (stages i)

-- a domain that does nothing is where it was

module _ (b : Board) (c : Config) (may : AllowRelation) (limits : IsWithinLimits c) (is : b.layout ≡ layout_of c) where
  abbrev k : Layout
  k = b.layout

  abbrev s : Setting
  s = setting_of c may

  pub other-seat : (g : History) (item : Item) (i j : ℕ) (first : Domain) (stage : Stage) → item.actor ≡ dom_at k i → i < k.domains → j < k.domains → i ≢ j → SeatNow c may g (dom_at k j) first stage
      → SeatNow c may (item ∷ g) (dom_at k j) first stage
  other-seat g item i j first stage own a b' n seat = record {
    maps = mappings-same _ _ _ _ _ (sym (other-pins mapping_named item g d.0 apart)) (sym (other-maps item g d.0 apart)) seat.maps;
    known = other-known s item g d apart ∙ seat.known;
    call = call stage seat.call;
  }
    where
      d : DomId
      d = dom_at k j

      apart : (item.actor.0 == d.0) ≡ false
      apart = ap (λ (z : DomId). z.0 == d.0) own ∙ test-apart c k i j is limits a b' n

      call : (st : Stage) → CallNow g d st → CallNow (item ∷ g) d st
      call (Resting ms) e = open_call-other item g d.0 apart ∙ e
      call (Going ms m xs) e = (e.0, open_call-other item g d.0 apart ∙ e.1, e.2, e.3, e.4)

  -- the trace of the items is one element longer

  trace-back : (g : History) → history_after [] (trace_of g) ≡ g
  trace-back [] = refl
  trace-back (i ∷ g) = history-more [] (trace_of g) (elements.Item i) ∙ ap (λ (z : History). i ∷ z) (trace-back g)

  may-do : (g : History) (d : DomId) (x : ItemEvent) (a : Option Answer) → let item : Item = record { actor = d; happened = x; answer = a } in domain_of c.domains.items d ≢ None → IsRight s g item → MayDo s g (event_in d x) (elements.Item item)
  may-do g d (Began request) a named right = (named, (refl, refl), right)
  may-do g d (Stepped step seen) a named right = (named, (refl, tt), right)

  pub legal-longer : (g : History) (item : Item) → domain_of c.domains.items item.actor ≢ None → IsRight s g item → Legal s (events_of g) (trace_of g) → Legal s (events_of (item ∷ g)) (trace_of (item ∷ g))
  legal-longer g item named right legal = legal-more s [] (events_of g) (trace_of g) (event_in item.actor item.happened) (elements.Item item) legal
      (subst (λ (z : History). MayDo s z (event_in item.actor item.happened) (elements.Item item)) (sym (trace-back g)) (may-do g item.actor item.happened item.answer named right))

  -- one thing more happens, by one domain

  own-here : (d : DomId) (x : Occurrence) (order : RunOrder) → actor_in x ≡ d → own_in d (x ∷ order) ≡ x ∷ own_in d order
  own-here d x order e = ap (λ (z : Bool). cond z (x ∷ own_in d order) (own_in d order)) (eq-eqb (actor_in x).0 d.0 (ap (λ (z : DomId). z.0) e))

  own-else : (i j : ℕ) (x : Occurrence) (order : RunOrder) → i < k.domains → j < k.domains → i ≢ j → actor_in x ≡ dom_at k i → own_in (dom_at k j) (x ∷ order) ≡ own_in (dom_at k j) order
  own-else i j x order a l n e = ap (λ (z : Bool). cond z (x ∷ own_in (dom_at k j) order) (own_in (dom_at k j) order)) (ap (λ (z : DomId). z.0 == (dom_at k j).0) e ∙ test-apart c k i j is limits a l n)

  pub own-more : (order : RunOrder) (old new : ℕ → Stage) (i : ℕ) (x : Occurrence) → i < k.domains → actor_in x ≡ dom_at k i → ((j : ℕ) → i ≢ j → new j ≡ old j) → x ∷ order_now c may (dom_at k i) (old i) ≡ order_now c may (dom_at k i) (new i)
      → ((j : ℕ) → j < k.domains → own_in (dom_at k j) order ≡ order_now c may (dom_at k j) (old j)) → (j : ℕ) → j < k.domains → own_in (dom_at k j) (x ∷ order) ≡ order_now c may (dom_at k j) (new j)
  own-more order old new i x inside by same grows own j l = elim (cases_eq i j) [
    | inl e ↦ subst (λ (z : ℕ). own_in (dom_at k z) (x ∷ order) ≡ order_now c may (dom_at k z) (new z)) e (own-here (dom_at k i) x order by ∙ (ap (λ (z : RunOrder). x ∷ z) (own i inside) ∙ grows))
    | inr n ↦ own-else i j x order inside l n by ∙ (own j l ∙ ap (order_now c may (dom_at k j)) (sym (same j n)))
  ]

  -- an item
  pub one-more : (h' h : StepHistory) (firsts : ℕ → Domain) (old new : ℕ → Stage) (i : ℕ) (item : Item) (o : Ordered b c may h' firsts old) → i < k.domains → item.actor ≡ dom_at k i → domain_of c.domains.items (dom_at k i) ≢ None → IsRight s o.g item → CanBeReached s (item ∷ o.g)
      → Agree s k (item ∷ o.g) h → AreStepsOf k (OfCore item ∷ o.order) h → WritesAgree k (item ∷ o.g) h → AreBounded k (item ∷ o.g) → ((j : ℕ) → i ≢ j → new j ≡ old j) → OfCore item ∷ order_now c may (dom_at k i) (old i) ≡ order_now c may (dom_at k i) (new i)
      → SeatNow c may (item ∷ o.g) (dom_at k i) (firsts i) (new i) → Ordered b c may h firsts new
  one-more h' h firsts old new i item o inside own named right reached agree steps writes bounded same grows seat = record {
    g = item ∷ o.g;
    order = OfCore item ∷ o.order;
    items = ap (λ (z : History). item ∷ z) o.items;
    reached = reached;
    agree = agree;
    legal = legal-longer o.g item (subst (λ (z : DomId). domain_of c.domains.items z ≢ None) (sym own) named) right o.legal;
    steps = steps;
    writes = writes;
    flags = o.flags;
    looks = o.looks;
    bounded = bounded;
    own = own-more o.order old new i (OfCore item) inside own same grows o.own;
    each = λ j l. elim (cases_eq i j) [
      | inl e ↦ subst (λ (z : ℕ). SeatNow c may (item ∷ o.g) (dom_at k z) (firsts z) (new z)) e seat
      | inr n ↦ subst (SeatNow c may (item ∷ o.g) (dom_at k j) (firsts j)) (sym (same j n)) (other-seat o.g item i j (firsts j) (old j) own inside l n (o.each j l))
    ];
  }
