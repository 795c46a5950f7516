-- What the items make of a domain by its own next item: a call begins, goes on, or ends.
use Rattle.std.proofs.Common.{◌≡◌, ◌≢◌, ℕ, ◌<◌, Bool, true, false, cond, ◌==◌, List, [], ◌∷◌, ◌++◌, Option, Some}
use Rattle.std.proofs.Common.{None, sym, refl, ap, ◌∙◌, subst, append_assoc}
use Rattle.std.proofs.lemmas.List.{map-append}
use Rattle.std.proofs.lemmas.Option.{none-some}
use Rattle.gt_types.specs.Config.{IsWithinLimits}
use Rattle.std.specs.Prelude.{is_none, nat_le, not, ◌||◌}
use Rattle.gt_types.specs.declared.limits.TheConstants.{MAX_MAPPINGS}
use Rattle.gt_core.proofs.Words.{SERIAL_LIMIT}
use Rattle.gt_types.specs.Names.{domain_of, resolved}
use Rattle.gt_types.specs.declared.DomId.{DomId}
use Rattle.gt_types.specs.declared.TypeId.{TypeId}
use Rattle.gt_types.specs.declared.perms.Perms.{Perms}
use Rattle.gt_types.specs.declared.rights.Triple.{Triple}
use Rattle.gt_types.specs.Denial.{denial_of}
use Rattle.gt_types.specs.declared.GrantRef.{GrantRef}
use Rattle.gt_types.specs.declared.denial.Facts.TheVariants.{Policy}
use Rattle.gt_types.specs.declared.denial.Rule.{Rule}
use Rattle.gt_types.specs.declared.denial.Rule.TheVariants.{N1, N2, N5, N6, N8}
use Rattle.gt_types.specs.declared.config.Config.{Config}
use Rattle.gt_model.specs.Words.{header_of, header_word}
use Rattle.gt_handles.specs.Handles.{HandleMap}
use Rattle.gt_model.specs.declared.handle.Handle.{Handle}
use Rattle.gt_words.specs.Conditions.{Board, SeatOf}
use Rattle.gt_word_history.specs.History.{StepHistory, Layout, Moment, part_of, word_after}
use Rattle.gt_word_history.specs.Rule.{header_place, layout_of}
use Rattle.gt_word_history.specs.Steps.{StoodWith}
use Rattle.gt_word_history.specs.Views.{own_header, own_table}
use Rattle.gt_word_history.specs.declared.view.View.{View}
use Rattle.gt_calls.proofs.Advancing.{opens as starts-open}
use Rattle.gt_calls.proofs.Saying.{plain-asked, plain-begun}
use Rattle.gt_model.specs.Asking.{SpellsItsEntry, asked, asked_by, begun_of, bytes_of, bytes_given_by, plainly_asked}
use Rattle.gt_calls.specs.Asking.{judged_as}
use Rattle.gt_calls.specs.Following.{IsStepAction as MakesFirst}
use Rattle.gt_model.specs.Path.{FitsStep, after_beginning, path, path_of, steps_of}
use Rattle.gt_calls.specs.Standing.{pins_at}
use Rattle.gt_model.specs.Rules.{CallerKnowledge, begun, denied, first, map_begun, map_dir, refused_when}
use Rattle.gt_model.specs.Rules.{rights_to_map, rights_to_unmap, unmap_begun, unmap_denied}
use Rattle.gt_calls.specs.Known.{knowledge_of}
use Rattle.gt_model.specs.declared.action.Action.TheVariants.{Done}
use Rattle.gt_model.specs.declared.action.Action.TheVariants as actions
use Rattle.gt_model.specs.declared.action.Observation.{Observation}
use Rattle.gt_model.specs.declared.action.Step.{Step}
use Rattle.gt_model.specs.declared.action.CallResult.{CallResult}
use Rattle.gt_model.specs.declared.action.CallResult.TheVariants.{Refused}
use Rattle.gt_model.specs.declared.action.CallResult.TheVariants as results
use Rattle.gt_model.specs.declared.held.HeldPin.{HeldPin}
use Rattle.gt_model.specs.declared.request.OpenRequest.{OpenRequest}
use Rattle.gt_model.specs.declared.request.OpenRequest.TheVariants.{Map, Release, Unmap}
use Rattle.gt_model.specs.declared.request.Request.{Request}
use Rattle.gt_core.proofs.Beginning.{plain-unmapped}
use Rattle.gt_core.proofs.AgreementKept.{open_call-own}
use Rattle.gt_core.proofs.Mappings.{mappings-same}
use Rattle.gt_model.proofs.Observers.{kept-table, stepped}
use Rattle.gt_core.proofs.Steps.See.{table-fits}
use Rattle.gt_core.specs.Effects.{Adds}
use Rattle.gt_core.specs.GoingOn.{CanBeReached}
use Rattle.gt_model.specs.History.{History, Setting, Underway, known_at, maps_answered_at, mappings_at, one_if_mapped}
use Rattle.gt_model.specs.History.{open_call, seen_by, table_at, underway_after, values, setting_of}
use Rattle.gt_core.specs.Standing.{MappingsAgree}
use Rattle.gt_core.specs.Acting.{answer_of}
use Rattle.gt_model.specs.declared.trace.Answer.{Answer}
use Rattle.gt_model.specs.declared.trace.Answer.TheVariants.{Mapped}
use Rattle.gt_model.specs.declared.trace.ItemEvent.TheVariants.{Stepped}
use Rattle.gt_model.specs.declared.trace.Item.{Item}
use Rattle.gt_live.specs.Domains.{AllowRelation, IsDomainOf, IsUnsettled, knowledge}
use Rattle.gt_live.specs.Flags.{FlagStepped}
use Rattle.gt_live.specs.Ending.{IsMap}
use Rattle.gt_live.specs.Mappings.{AddsMapping as KeepsOneMore, KeepsMappings}
use Rattle.gt_live.specs.Walks.{all_shown, shown_by, seen_in_step}
use Rattle.gt_live.specs.declared.domain.Domain.{Domain}
use Rattle.gt_linearization.proofs.Ends.{KeepsOwn, clean-steps, handles-kept, keeps-own, kept-maps, last-leaves, leaves-known}
use Rattle.gt_linearization.proofs.Ends.{leaves-of, maps-quiet, stands-open, told-maps}
use Rattle.gt_linearization.proofs.NextAccess.{AccessesSo}
use Rattle.gt_linearization.proofs.NextItem.{GoesSo, same-way}
use Rattle.gt_linearization.proofs.Making.{header-is}
use Rattle.gt_linearization.proofs.DomainsAtRest.{rest-known}
use Rattle.gt_linearization.proofs.Stages.{SeatNow, order_now}
use Rattle.gt_linearization.proofs.Stages.Stage.{Going, Resting}
use Rattle.gt_linearization.proofs.Stepping.{state-there}
use Rattle.gt_linearization.specs.Agreeing.{Agree, dom_at}
use Rattle.gt_linearization.specs.Ordering.{RunOrder, item_of, item_of_beginning, items_by_outcome, items_of_call}
use Rattle.gt_linearization.specs.Ordering.{items_of_steps, of_core, order_of_actions, step_in, way_of}
use Rattle.gt_linearization.specs.Ordering.Occurrence.{OfCore}
use Rattle.gt_linearization.specs.Runs.{CallMade, DomainAct, FlagMade, IsAtRest, IsCall, IsLook, LeavesMappings, LookMade}
use Rattle.gt_linearization.specs.Runs.{domain_after}
use Rattle.gt_linearization.specs.Runs.DomainAct.{Call, Look, OnFlag}

-- what answers a call at its beginning

-- the verdict, if it is one, is a refusal
abbrev pub Refuses : Option CallResult → Type 0
Refuses None = Unit {0}
Refuses (Some (Refused denial)) = Unit {0}
Refuses (Some verdict) = ⊥

refused-when : (b : Bool) (rule : Rule) → Refuses (refused_when b rule)
refused-when true rule = tt
refused-when false rule = tt

denied-refuses : (may : TypeId → TypeId → Perms → Bool) (ts : List Triple) → Refuses (denied may ts)
denied-refuses may [] = tt
denied-refuses may (t ∷ ts) = by (may t.source t.target t.perm) (denied-refuses may ts)
  where
    by : (z : Bool) → Refuses (denied may ts) → Refuses (cond z (denied may ts) (Some (Refused (denial_of N5 (Policy t.source t.target t.perm)))))
    by true r = r
    by false r = tt

first-of : (a b : Option CallResult) (more : List (Option CallResult)) → Refuses a → Refuses (first (b ∷ more)) → Refuses (first (a ∷ b ∷ more))
first-of None b more r q = q
first-of (Some (Refused denial)) b more r q = tt
first-of (Some verdict) b more r q = absurd r

last-of-all : (a : Option CallResult) → Refuses a → Refuses (first (a ∷ []))
last-of-all None r = tt
last-of-all (Some (Refused denial)) r = tt
last-of-all (Some verdict) r = absurd r

unmap-refuses : (k : CallerKnowledge) (d : DomId) (handle : Handle) → Refuses (unmap_begun k d handle)
unmap-refuses k d handle = first-of (refused_when (is_none (k.mapping handle)) N6) (unmap_denied k d (k.mapping handle)) [] (refused-when (is_none (k.mapping handle)) N6) (last-of-all (unmap_denied k d (k.mapping handle)) (by (k.mapping handle)))
  where
    by : (o : Option HeldPin) → Refuses (unmap_denied k d o)
    by None = tt
    by (Some m) = denied-refuses k.may (rights_to_unmap k d m.dom)

map-list : (a b e : Bool) (o : Option CallResult) → Refuses o → Refuses (first (refused_when a N1 ∷ refused_when b N2 ∷ o ∷ refused_when e N8 ∷ []))
map-list a b e o r = first-of (refused_when a N1) (refused_when b N2) (o ∷ refused_when e N8 ∷ []) (refused-when a N1)
    (first-of (refused_when b N2) o (refused_when e N8 ∷ []) (refused-when b N2) (first-of o (refused_when e N8) [] r (last-of-all (refused_when e N8) (refused-when e N8))))

map-refuses : (k : CallerKnowledge) (d dom : DomId) (flags : ℕ) → Refuses (map_begun k d dom flags)
map-refuses k d dom flags = map-list (is_none (domain_of k.domains (resolved d dom))) (not ((flags == 2) || (flags == 6))) (nat_le MAX_MAPPINGS k.in_use || nat_le SERIAL_LIMIT k.maps_answered)
    (denied k.may (rights_to_map k d (resolved d dom) (map_dir flags))) (denied-refuses k.may (rights_to_map k d (resolved d dom) (map_dir flags)))

-- by what a request asks
abbrev pub RefusesOnly : OpenRequest → Option CallResult → Type 0
RefusesOnly (Unmap handle) o = Refuses o
RefusesOnly (Release handle) o = Refuses o
RefusesOnly (Map dom gref flags) o = Refuses o
RefusesOnly request o = Unit {0}

begun-refuses : (k : CallerKnowledge) (d : DomId) (r : OpenRequest) → RefusesOnly r (begun k d r)
begun-refuses k d (Unmap handle) = unmap-refuses k d handle
begun-refuses k d (Release handle) = refused-when (is_none (k.mapping handle)) N6
begun-refuses k d (Map dom gref flags) = map-refuses k d dom flags
begun-refuses k d r = tt

pub asked-refuses : (k : CallerKnowledge) (d : DomId) (request : Request) → RefusesOnly (asked request) (begun_of k d request)
asked-refuses k d request = by (bytes_of request) refl
  where
    by : (o : Option (GrantRef × List ℕ)) → bytes_of request ≡ o → RefusesOnly (asked request) (begun_of k d request)
    by None e = subst (λ (z : Option CallResult). RefusesOnly (asked request) z) (sym (plain-begun k d request e))
        (subst (λ (z : OpenRequest). RefusesOnly z (begun k d (plainly_asked request))) (plain-asked k.header request e).0 (begun-refuses k d (plainly_asked request)))
    by (Some bs) e = subst (λ (z : OpenRequest). RefusesOnly z (begun_of k d request)) (sym (ap (asked_by request) e)) tt

-- a call that no rule answers makes a step
first-step : (k : CallerKnowledge) (d : DomId) (request : Request) (v : CallResult) → begun_of k d request ≡ None → (begun_of k d request ≡ None → SpellsItsEntry k.header request) → path_of k d request [] ≡ Some (Done v) → ⊥
first-step k d request v none said e =
    let starts = starts-open k d request (asked request) said (sym (ap (judged_as (asked request)) none)) in
    let f : path k d (asked request) [] ≡ Some (Done v) = same-way k d request none said [] ∙ e in
    subst MakesFirst f starts.6

-- so a call without a step was answered at its beginning
pub answered-at-once : (k : CallerKnowledge) (d : DomId) (request : Request) (v : CallResult) → (begun_of k d request ≡ None → SpellsItsEntry k.header request) → path_of k d request [] ≡ Some (Done v) → begun_of k d request ≡ Some v
answered-at-once k d request v said e = by (begun_of k d request) refl
  where
    by : (o : Option CallResult) → begun_of k d request ≡ o → begun_of k d request ≡ Some v
    by None f = absurd (first-step k d request v f said e)
    by (Some u) f =
        let g : Some (Done u) ≡ Some (Done v) = sym (ap (λ (o : Option CallResult). after_beginning o (steps_of k d (asked request)) []) f) ∙ e in
        let same : u ≡ v = cc in f ∙ ap (λ (z : CallResult). Some z) same

pub keeps-at-once : (request : OpenRequest) (v : CallResult) (old new : HandleMap HeldPin) → RefusesOnly request (Some v) → LeavesMappings request v old new → KeepsMappings old new
keeps-at-once (Unmap handle) (Refused denial) old new r l = l
keeps-at-once (Unmap handle) v old new r l = absurd r
keeps-at-once (Release handle) (Refused denial) old new r l = l
keeps-at-once (Release handle) v old new r l = absurd r
keeps-at-once request v old new r l = l

pub no-pin-at-once : (request : OpenRequest) (p : HeldPin) → IsMap request → RefusesOnly request (Some (results.Mapped p)) → ⊥
no-pin-at-once (Map dom gref flags) p m r = r
no-pin-at-once request p m r = absurd m

module _ (b : Board) (c : Config) (may : AllowRelation) (limits : IsWithinLimits c) (is : b.layout ≡ layout_of c) (i : ℕ) (inside : i < b.layout.domains) (first : Domain) (named : domain_of c.domains.items (dom_at b.layout i) ≢ None) where
  abbrev k : Layout
  k = b.layout

  abbrev s : Setting
  s = setting_of c may

  abbrev d : DomId
  d = dom_at k i

  -- two states of a domain that differ in its records alone
  pub known-alike : (D E : Domain) → IsAtRest D E → knowledge c may E ≡ knowledge c may D
  known-alike D E r = λ j. knowledge_of c.domains.items c.first_gen may (r.own j) (own_table (r.seat j).view) (r.mappings j)

  -- the step goes on
  pub going-on : (g : History) (ms : List DomainAct) (m : CallMade) (xs : List Moment) (x : Moment) (v w : View) (call : IsCall b c may m) (seat : SeatNow c may g d first (Going ms m xs))
      → (r : GoesSo c may k g i seat.call.0 (all_shown xs) (way_of c may m) x v w None) → SeatNow c may (stepped d r.step (seen_in_step x.1) None ∷ g) d first (Going ms m (x ∷ xs))
  going-on g ms m xs x v w call seat r = record {
    maps = mappings-same m.old.mappings _ _ _ _ (sym keeps.mappings) (sym keeps.answered) seat.maps;
    known = keeps.known ∙ seat.known;
    call = (then, open-then, seat.call.2, map-append (λ (p : Step × Observation). p.1) cl.steps ((r.step, seen_in_step x.1) ∷ []) ∙ ap (λ (z : List Observation). z ++ shown_by x ∷ []) seat.call.3, seat.call.4);
  }
    where
      cl : Underway
      cl = seat.call.0

      item : Item
      item = stepped d r.step (seen_in_step x.1) None

      then : Underway
      then = record { request = cl.request; given = cl.given; steps = cl.steps ++ (r.step, seen_in_step x.1) ∷ [] }

      open-then : open_call (item ∷ g) d.0 ≡ Some then
      open-then = open_call-own item g ∙ ap (underway_after item) seat.call.1

      keeps : KeepsOwn s g d item
      keeps = let o = stands-open s (item ∷ g) d then r.reached named open-then in
          leaves-known s g d r.step (seen_in_step x.1) (leaves-of (known_at s g d) d cl.request (pins_at r.here.phase) (values cl) r.step (seen_in_step x.1) r.quiet r.here.here.rests
          (λ waits. last-leaves cl.steps (r.step, seen_in_step x.1) (clean-steps s (item ∷ g) d then o.0 o.1 waits)))

  -- what a domain knows after its call's last step

  ends-known : (g : History) (m : CallMade) (x : Moment) (v w : View) (item : Item) → IsCall b c may m → CanBeReached s (item ∷ g) → Agree s k (item ∷ g) ((i, x.1) ∷ x.0) → StoodWith (Unit {0}) k ((v.position, x.1) ∷ x.0) w → v.position ≡ i → w.position ≡ i → m.new.seat.view ≡ w
      → m.new.seat.view.steps ≡ part_of i ((i, x.1) ∷ x.0) → MappingsAgree m.new.mappings (mappings_at (item ∷ g) d.0) (maps_answered_at (item ∷ g) d.0) → known_at s (item ∷ g) d ≡ knowledge c may m.new
  ends-known g m x v w item call reached agree stands at-v at-w view steps maps =
      let st : StoodWith (Unit {0}) k ((i, x.1) ∷ x.0) w = subst (λ (n : ℕ). StoodWith (Unit {0}) k ((n, x.1) ∷ x.0) w) at-v stands in
      let seats = st.1.seats w.position w st.2 in
      let first-is : m.new.seat.view.first ≡ k.first = ap (λ (z : View). z.first) view ∙ seats.1 in
      let at : m.new.seat.view.position ≡ i = ap (λ (z : View). z.position) view ∙ at-w in
      let t = state-there s (item ∷ g) reached.0.domains d reached.1.domains named in
      let below : w.position < k.domains = subst (λ (n : ℕ). n < k.domains) (sym at-w) inside in
      let word : header_word (table_at s (item ∷ g) d) ≡ own_header w = agree.headers i inside ∙ (ap (λ (n : ℕ). word_after k ((i, x.1) ∷ x.0) (header_place n)) (sym at-w) ∙ header-is k ((i, x.1) ∷ x.0) w st below) in
      let head : table_at s (item ∷ g) d ≡ own_table m.new.seat.view = sym (table-fits _ (reached.1.domains.tables d)).1 ∙ (ap header_of word ∙ ap (λ (z : View). own_table z) (sym view)) in
      rest-known b c may k (item ∷ g) ((i, x.1) ∷ x.0) i m.new agree inside call.afterwards at first-is steps t.0 t.3 t.2 head maps

  closed : (g : History) (item : Item) (answer : Answer) → item.actor ≡ d → item.answer ≡ Some answer → open_call (item ∷ g) d.0 ≡ None
  closed g item answer own e = ap (λ (z : DomId). open_call (item ∷ g) z.0) (sym own) ∙ (open_call-own item g ∙ by item.answer e)
    where
      by : (a : Option Answer) → a ≡ Some answer → underway_after (record item { answer = a }) (open_call g item.actor.0) ≡ None
      by None f = absurd (none-some answer f)
      by (Some y) f = refl

  -- its order with one item more

  one-call : (m : CallMade) (xs : List Moment) (x : Moment) (a : Option Answer) (rest : RunOrder)
      → OfCore (item_of d (way_of c may m) (all_shown xs) x a) ∷ (of_core (items_of_steps d (way_of c may m) None xs) ++ OfCore (item_of_beginning d m.request None) ∷ rest) ≡ of_core (items_of_call d (way_of c may m) m.request a (x ∷ xs)) ++ rest
  one-call m xs x a rest = let before = items_of_steps d (way_of c may m) None xs in let begins = item_of_beginning d m.request None in
      ap (λ (z : RunOrder). OfCore (item_of d (way_of c may m) (all_shown xs) x a) ∷ z)
      (sym (ap (λ (z : RunOrder). z ++ rest) (map-append (λ (i : Item). OfCore i) before (begins ∷ [])) ∙ append_assoc (of_core before) (OfCore begins ∷ []) rest))

  item-same : (m : CallMade) (xs : List Moment) (x : Moment) (step : Step) (a : Option Answer) → way_of c may m (all_shown xs) ≡ Some (actions.Step step) → stepped d step (seen_in_step x.1) a ≡ item_of d (way_of c may m) (all_shown xs) x a
  item-same m xs x step a e = λ j. record { actor = d; happened = Stepped (step_in (sym e j)) (shown_by x); answer = a }

  pub grows-on : (ms : List DomainAct) (m : CallMade) (xs : List Moment) (x : Moment) (step : Step) → way_of c may m (all_shown xs) ≡ Some (actions.Step step)
      → OfCore (stepped d step (seen_in_step x.1) None) ∷ order_now c may d (Going ms m xs) ≡ order_now c may d (Going ms m (x ∷ xs))
  grows-on ms m xs x step e = ap (λ (z : Item). OfCore z ∷ order_now c may d (Going ms m xs)) (item-same m xs x step None e)

  pub grows-last : (ms : List DomainAct) (m : CallMade) (xs : List Moment) (x : Moment) (step : Step) (a : Option Answer) → way_of c may m (all_shown xs) ≡ Some (actions.Step step) → items_by_outcome d (way_of c may m) m.request m.outcome m.steps ≡ items_of_call d (way_of c may m) m.request a (x ∷ xs)
      → OfCore (stepped d step (seen_in_step x.1) a) ∷ order_now c may d (Going ms m xs) ≡ order_now c may d (Resting (Call m ∷ ms))
  grows-last ms m xs x step a e out = ap (λ (z : Item). OfCore z ∷ order_now c may d (Going ms m xs)) (item-same m xs x step a e)
      ∙ (one-call m xs x a (order_of_actions c may d ms) ∙ ap (λ (z : List Item). of_core z ++ order_of_actions c may d ms) (sym out))

  -- the step ends the call

  pub ends-told : (g : History) (ms : List DomainAct) (m : CallMade) (xs : List Moment) (x : Moment) (v w : View) (verdict : CallResult) (call : IsCall b c may m) (seat : SeatNow c may g d first (Going ms m xs))
      → (r : GoesSo c may k g i seat.call.0 (all_shown xs) (way_of c may m) x v w (Some (answer_of verdict))) → LeavesMappings (asked m.request) verdict m.old.mappings m.new.mappings
      → v.position ≡ i → w.position ≡ i → m.new.seat.view ≡ w → m.new.seat.view.steps ≡ part_of i ((i, x.1) ∷ x.0) → SeatNow c may (stepped d r.step (seen_in_step x.1) (Some (answer_of verdict)) ∷ g) d first (Resting (Call m ∷ ms))
  ends-told g ms m xs x v w verdict call seat r leaves at-v at-w view steps = record {
    maps = maps;
    known = ends-known g m x v w item call r.reached r.agree r.stands at-v at-w view steps maps;
    call = closed g item (answer_of verdict) refl refl;
  }
    where
      cl : Underway
      cl = seat.call.0

      item : Item
      item = stepped d r.step (seen_in_step x.1) (Some (answer_of verdict))

      maps : MappingsAgree m.new.mappings (mappings_at (item ∷ g) d.0) (maps_answered_at (item ∷ g) d.0)
      maps = told-maps s g d cl (values cl) (seen_in_step x.1) verdict m.old.mappings m.new.mappings seat.call.1 seat.maps
          (subst (λ (z : OpenRequest). LeavesMappings z verdict m.old.mappings m.new.mappings) (sym seat.call.2) leaves) r.here.core.domains r.here.phase r.step r.here.here r.quiet r.on_path r.right

  pub core-adds : (old new : HandleMap HeldPin) (handle : Handle) (p : HeldPin) → KeepsOneMore old new handle p → Adds old new handle p
  core-adds old new handle p a = record { serial = a.serial; fresh = a.inserted.fresh; given = a.inserted.given; updates = a.inserted.updates; count = a.inserted.count }

  pub ends-kept : (g : History) (ms : List DomainAct) (m : CallMade) (xs : List Moment) (x : Moment) (v w : View) (handle : Handle) (p : HeldPin) (call : IsCall b c may m) (seat : SeatNow c may g d first (Going ms m xs))
      → (r : GoesSo c may k g i seat.call.0 (all_shown xs) (way_of c may m) x v w (Some (Mapped handle))) → path (known_at s g d) d seat.call.0.request (values seat.call.0 ++ seen_by s g d r.step ∷ []) ≡ Some (Done (results.Mapped p)) → KeepsOneMore m.old.mappings m.new.mappings handle p
      → v.position ≡ i → w.position ≡ i → m.new.seat.view ≡ w → m.new.seat.view.steps ≡ part_of i ((i, x.1) ∷ x.0) → SeatNow c may (stepped d r.step (seen_in_step x.1) (Some (Mapped handle)) ∷ g) d first (Resting (Call m ∷ ms))
  ends-kept g ms m xs x v w handle p call seat r last adds at-v at-w view steps = record {
    maps = maps;
    known = ends-known g m x v w item call r.reached r.agree r.stands at-v at-w view steps maps;
    call = closed g item (Mapped handle) refl refl;
  }
    where
      cl : Underway
      cl = seat.call.0

      item : Item
      item = stepped d r.step (seen_in_step x.1) (Some (Mapped handle))

      maps : MappingsAgree m.new.mappings (mappings_at (item ∷ g) d.0) (maps_answered_at (item ∷ g) d.0)
      maps = subst (λ (z : Observation). let it = stepped d r.step z (Some (Mapped handle)) in MappingsAgree m.new.mappings (mappings_at (it ∷ g) d.0) (maps_answered_at (it ∷ g) d.0)) r.sees
          (kept-maps s g d cl r.step p handle m.old.mappings m.new.mappings r.here (subst (FitsStep r.step) (sym r.sees) r.fits) r.on_path last (core-adds m.old.mappings m.new.mappings handle p adds) seat.maps)

  -- a beginning

  began-keeps : (g : History) (request : Request) (a : Option Answer) → one_if_mapped a ≡ 0 → KeepsOwn s g d (item_of_beginning d request a)
  began-keeps g request a e = keeps-own s g d (item_of_beginning d request a) (λ r. refl) refl e (maps-quiet g d _ (record { changes = λ z. refl; pins = λ before ps. refl; unpins = λ ps. refl }))

  pub begins : (g : History) (ms : List DomainAct) (m : CallMade) → IsAtRest (domain_after first ms) m.old → SeatNow c may g d first (Resting ms) → SeatNow c may (item_of_beginning d m.request None ∷ g) d first (Going ms m [])
  begins g ms m rest seat =
      let keeps = began-keeps g m.request None refl in record {
        maps = subst (λ (z : HandleMap HeldPin). MappingsAgree z (mappings_at (item_of_beginning d m.request None ∷ g) d.0) (maps_answered_at (item_of_beginning d m.request None ∷ g) d.0)) (sym rest.mappings)
            (mappings-same _ _ _ _ _ (sym keeps.mappings) (sym keeps.answered) seat.maps);
        known = keeps.known ∙ (seat.known ∙ sym (known-alike (domain_after first ms) m.old rest));
        call = (record { request = asked m.request; given = bytes_given_by m.request; steps = [] }, open_call-own (item_of_beginning d m.request None) g, refl, refl, refl);
      }

  -- a call without a step

  -- what the domain knows after it, where it has the view that it had
  stays-known : (g new : History) (h : StepHistory) (D E : Domain) → CanBeReached s new → Agree s k new h → IsDomainOf b c may E → E.seat.view ≡ D.seat.view → D.seat.view.position ≡ i → D.seat.view.first ≡ k.first → D.seat.view.steps ≡ part_of i h
      → known_at s g d ≡ knowledge c may D → table_at s new d ≡ table_at s g d → MappingsAgree E.mappings (mappings_at new d.0) (maps_answered_at new d.0) → known_at s new d ≡ knowledge c may E
  stays-known g new h D E reached agree of-run view at first-is steps known table maps =
      let t = state-there s new reached.0.domains d reached.1.domains named in
      rest-known b c may k new h i E agree inside of-run (ap (λ (z : View). z.position) view ∙ at) (ap (λ (z : View). z.first) view ∙ first-is) (ap (λ (z : View). z.steps) view ∙ steps) t.0 t.3 t.2
      (table ∙ (ap (λ (z : CallerKnowledge). z.header) known ∙ ap (λ (z : View). own_table z) (sym view))) maps

  -- it was refused for want of memory, and is no item
  pub starves : (g : History) (h : StepHistory) (ms : List DomainAct) (m : CallMade) → CanBeReached s g → Agree s k g h → IsCall b c may m → IsAtRest (domain_after first ms) m.old → m.new.seat.view ≡ m.old.seat.view → KeepsMappings m.old.mappings m.new.mappings
      → (domain_after first ms).seat.view.position ≡ i → (domain_after first ms).seat.view.first ≡ k.first → (domain_after first ms).seat.view.steps ≡ part_of i h → SeatNow c may g d first (Resting ms) → SeatNow c may g d first (Resting (Call m ∷ ms))
  starves g h ms m reached agree call rest view keeps at first-is steps seat =
      let D = domain_after first ms in
      let maps = handles-kept m.old.mappings m.new.mappings _ _ keeps (subst (λ (z : HandleMap HeldPin). MappingsAgree z (mappings_at g d.0) (maps_answered_at g d.0)) (sym rest.mappings) seat.maps) in record {
        maps = maps;
        known = stays-known g g h D m.new reached agree call.afterwards (view ∙ ap (λ (z : SeatOf). z.view) rest.seat) at first-is steps seat.known refl maps;
        call = seat.call;
      }

  -- it was answered at its beginning
  pub answers-at-beginning : (g : History) (h : StepHistory) (ms : List DomainAct) (m : CallMade) (verdict : CallResult) → CanBeReached s (item_of_beginning d m.request (Some (answer_of verdict)) ∷ g) → Agree s k (item_of_beginning d m.request (Some (answer_of verdict)) ∷ g) h
      → IsCall b c may m → IsAtRest (domain_after first ms) m.old → m.new.seat.view ≡ m.old.seat.view → KeepsMappings m.old.mappings m.new.mappings
      → (domain_after first ms).seat.view.position ≡ i → (domain_after first ms).seat.view.first ≡ k.first → (domain_after first ms).seat.view.steps ≡ part_of i h → SeatNow c may g d first (Resting ms)
      → SeatNow c may (item_of_beginning d m.request (Some (answer_of verdict)) ∷ g) d first (Resting (Call m ∷ ms))
  answers-at-beginning g h ms m verdict reached agree call rest view keeps at first-is steps seat =
      let D = domain_after first ms in let item = item_of_beginning d m.request (Some (answer_of verdict)) in
      let own = began-keeps g m.request (Some (answer_of verdict)) (plain-unmapped verdict) in
      let maps = handles-kept m.old.mappings m.new.mappings _ _ keeps (subst (λ (z : HandleMap HeldPin). MappingsAgree z (mappings_at (item ∷ g) d.0) (maps_answered_at (item ∷ g) d.0)) (sym rest.mappings)
      (mappings-same _ _ _ _ _ (sym own.mappings) (sym own.answered) seat.maps)) in record {
        maps = maps;
        known = stays-known g (item ∷ g) h D m.new reached agree call.afterwards (view ∙ ap (λ (z : SeatOf). z.view) rest.seat) at first-is steps seat.known (kept-table s item g d refl) maps;
        call = closed g item (answer_of verdict) refl refl;
      }

  -- a step of its seat that leaves all that the domain knows, and is no item
  after-quiet : (g : History) (ms : List DomainAct) (D E : Domain) → IsUnsettled D E → own_header E.seat.view ≡ own_header D.seat.view → IsAtRest (domain_after first ms) D → SeatNow c may g d first (Resting ms)
      → MappingsAgree E.mappings (mappings_at g d.0) (maps_answered_at g d.0) × (known_at s g d ≡ knowledge c may E)
  after-quiet g ms D E kept header rest seat =
      let maps : E.mappings ≡ (domain_after first ms).mappings = kept.mappings ∙ rest.mappings in
      let knows : knowledge c may E ≡ knowledge c may D =
      λ j. knowledge_of c.domains.items c.first_gen may (kept.own j).items (header_of (header j)) (kept.mappings j) in (
        subst (λ (z : HandleMap HeldPin). MappingsAgree z (mappings_at g d.0) (maps_answered_at g d.0)) (sym maps) seat.maps,
        seat.known ∙ sym (knows ∙ known-alike (domain_after first ms) D rest),
      )

  -- on a flag
  pub after-flag : (g : History) (ms : List DomainAct) (x : FlagMade) → FlagStepped k x.flag x.step x.old x.new → IsAtRest (domain_after first ms) x.old → SeatNow c may g d first (Resting ms) → SeatNow c may g d first (Resting (OnFlag x ∷ ms))
  after-flag g ms x stepped rest seat = let y = after-quiet g ms x.old x.new stepped.kept stepped.step.keeps.header rest seat in record { maps = y.0; known = y.1; call = seat.call }

  -- a look
  pub after-look : (g : History) (ms : List DomainAct) (x : LookMade) → IsLook k x → IsAtRest (domain_after first ms) x.old → SeatNow c may g d first (Resting ms) → SeatNow c may g d first (Resting (Look x ∷ ms))
  after-look g ms x look rest seat = let y = after-quiet g ms x.old x.new look.kept look.found.0.keeps.header rest seat in record { maps = y.0; known = y.1; call = seat.call }

  -- an access

  -- the call goes on after it
  pub going-on-accessed : (g : History) (ms : List DomainAct) (m : CallMade) (xs : List Moment) (x : Moment) (v w : View) (seat : SeatNow c may g d first (Going ms m xs))
      → (r : AccessesSo c may k g i (all_shown xs) (way_of c may m) x v w None) → SeatNow c may (stepped d r.step (seen_in_step x.1) None ∷ g) d first (Going ms m (x ∷ xs))
  going-on-accessed g ms m xs x v w seat r = record {
    maps = mappings-same m.old.mappings _ _ _ _ (sym r.keeps.mappings) (sym r.keeps.answered) seat.maps;
    known = r.keeps.known ∙ seat.known;
    call = (then, open-then, seat.call.2, map-append (λ (p : Step × Observation). p.1) cl.steps ((r.step, seen_in_step x.1) ∷ []) ∙ ap (λ (z : List Observation). z ++ shown_by x ∷ []) seat.call.3, seat.call.4);
  }
    where
      cl : Underway
      cl = seat.call.0

      item : Item
      item = stepped d r.step (seen_in_step x.1) None

      then : Underway
      then = record { request = cl.request; given = cl.given; steps = cl.steps ++ (r.step, seen_in_step x.1) ∷ [] }

      open-then : open_call (item ∷ g) d.0 ≡ Some then
      open-then = open_call-own item g ∙ ap (underway_after item) seat.call.1

  -- it ends the call
  pub ends-accessed : (g : History) (ms : List DomainAct) (m : CallMade) (xs : List Moment) (x : Moment) (v w : View) (answer : Answer) (call : IsCall b c may m) (seat : SeatNow c may g d first (Going ms m xs))
      → (r : AccessesSo c may k g i (all_shown xs) (way_of c may m) x v w (Some answer))
      → KeepsMappings m.old.mappings m.new.mappings → v.position ≡ i → w.position ≡ i → m.new.seat.view ≡ w → m.new.seat.view.steps ≡ part_of i ((i, x.1) ∷ x.0)
      → SeatNow c may (stepped d r.step (seen_in_step x.1) (Some answer) ∷ g) d first (Resting (Call m ∷ ms))
  ends-accessed g ms m xs x v w answer call seat r keeps at-v at-w view steps = record {
    maps = maps;
    known = ends-known g m x v w item call r.reached r.agree r.stands at-v at-w view steps maps;
    call = closed g item answer refl refl;
  }
    where
      item : Item
      item = stepped d r.step (seen_in_step x.1) (Some answer)

      maps : MappingsAgree m.new.mappings (mappings_at (item ∷ g) d.0) (maps_answered_at (item ∷ g) d.0)
      maps = handles-kept m.old.mappings m.new.mappings _ _ keeps (mappings-same _ _ _ _ _ (sym r.keeps.mappings) (sym r.keeps.answered) seat.maps)
