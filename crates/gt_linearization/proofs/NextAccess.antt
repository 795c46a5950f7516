-- The next item of an open call whose next step is an access to bytes.
use Rattle.std.proofs.Common.{◌≡◌, ◌≢◌, ℕ, ◌<◌, List, [], ◌∷◌, ◌++◌, Option, Some, None, sym, refl, ap, ◌∙◌, subst}
use Rattle.gt_types.specs.Config.{IsWithinLimits}
use Rattle.gt_types.specs.Names.{domain_of}
use Rattle.gt_types.specs.declared.DomId.{DomId}
use Rattle.gt_types.specs.declared.config.Config.{Config}
use Rattle.gt_words.specs.Conditions.{Board}
use Rattle.gt_word_history.specs.History.{Layout, Moment, StepHistory}
use Rattle.gt_word_history.specs.Rule.{layout_of}
use Rattle.gt_word_history.specs.Steps.{StoodWith}
use Rattle.gt_word_history.specs.declared.view.FrameStep.TheVariants as frame_steps
use Rattle.gt_word_history.specs.declared.view.SeatStep.{SeatStep}
use Rattle.gt_word_history.specs.declared.view.SeatStep.TheVariants.{Frame}
use Rattle.gt_word_history.specs.declared.view.View.{View}
use Rattle.gt_model.specs.Asking.{asked, begun_of, bytes_given_by}
use Rattle.gt_model.specs.Path.{Continuation, path, steps_of}
use Rattle.gt_model.specs.Rules.{CallerKnowledge}
use Rattle.gt_model.specs.declared.action.Action.{Action}
use Rattle.gt_model.specs.declared.action.Action.TheVariants as actions
use Rattle.gt_model.specs.declared.action.Observation.{Observation}
use Rattle.gt_model.specs.declared.action.Step.{Step}
use Rattle.gt_model.specs.declared.action.Observation.TheVariants.{Nothing}
use Rattle.gt_model.specs.declared.action.Step.TheVariants as call_steps
use Rattle.gt_core.proofs.GoingOn.{open-calls-can-access}
use Rattle.gt_model.proofs.Observers.{kept-table, stepped}
use Rattle.gt_core.specs.GoingOn.{AccessAnsweredSo, IsAccess, CanBeReached}
use Rattle.gt_model.specs.History.{History, Setting, Underway, known_at, seen_by, given_in, one_if_mapped, table_at}
use Rattle.gt_model.specs.History.{values, setting_of}
use Rattle.gt_model.specs.Legal.{IsRight}
use Rattle.gt_model.specs.declared.trace.Answer.{Answer}
use Rattle.gt_live.specs.Domains.{AllowRelation, knowledge}
use Rattle.gt_live.specs.Walks.{all_shown, seen_in_step}
use Rattle.gt_live.specs.declared.domain.Domain.{Domain}
use Rattle.gt_linearization.proofs.Accesses.{AccessedAs, sees-nothing, writes-by-access}
use Rattle.gt_linearization.proofs.AgreementKept.{quiet}
use Rattle.gt_linearization.proofs.Bytes.{said}
use Rattle.gt_linearization.proofs.Ends.{KeepsOwn, accesses-known}
use Rattle.gt_linearization.proofs.Stages.{SeatNow}
use Rattle.gt_linearization.proofs.Stages.Stage.{Going}
use Rattle.gt_linearization.proofs.Stepping.{AreBounded, bounded-quiet}
use Rattle.gt_linearization.specs.Agreeing.{Agree, IsThe, WritesAgree, dom_at}
use Rattle.gt_linearization.specs.Ordering.{way_of}
use Rattle.gt_linearization.specs.Runs.{CallMade, DomainAct, IsCall}
use Rattle.gt_linearization.proofs.NextItem.{same-way, unanswered}

-- an access of a call, and its item
pub record AccessesSo (c : Config) (may : AllowRelation) (k : Layout) (g : History) (i : ℕ) (before : List Observation) (way : Continuation) (x : Moment) (v w : View) (answer : Option Answer) : Type 0 where
  pub step : Step
  pub next : way before ≡ Some (actions.Step step)
  pub the : IsThe k i step x.1
  pub right : IsRight (setting_of c may) g (stepped (dom_at k i) step (seen_in_step x.1) answer)
  pub reached : CanBeReached (setting_of c may) (stepped (dom_at k i) step (seen_in_step x.1) answer ∷ g)
  pub agree : Agree (setting_of c may) k (stepped (dom_at k i) step (seen_in_step x.1) answer ∷ g) ((i, x.1) ∷ x.0)
  pub writes : WritesAgree k (stepped (dom_at k i) step (seen_in_step x.1) answer ∷ g) ((i, x.1) ∷ x.0)
  pub bounded : AreBounded k (stepped (dom_at k i) step (seen_in_step x.1) answer ∷ g)
  pub keeps : KeepsOwn (setting_of c may) g (dom_at k i) (stepped (dom_at k i) step (seen_in_step x.1) answer)
  pub table : table_at (setting_of c may) (stepped (dom_at k i) step (seen_in_step x.1) answer ∷ g) (dom_at k i) ≡ table_at (setting_of c may) g (dom_at k i)
  pub stands : StoodWith (Unit {0}) k ((v.position, x.1) ∷ x.0) w

-- an access leaves words, records, headers and pins
module _ (c : Config) (s : Setting) (k : Layout) (g : History) (h : StepHistory) (i : ℕ) (is : k ≡ layout_of c) (limits : IsWithinLimits c) (agree : Agree s k g h) (inside : i < k.domains) where
  access-agrees : (step : Step) (x : SeatStep) (answer : Option Answer) → IsAccess step → IsThe k i step x → Agree s k (stepped (dom_at k i) step (seen_in_step x) answer ∷ g) ((i, x) ∷ h)
  access-agrees (call_steps.Read dom frame off len) (Frame t q (frame_steps.Read o bytes)) answer a the =
      quiet c s k g h i is limits agree inside (stepped (dom_at k i) (call_steps.Read dom frame off len) Nothing answer) (Frame t q (frame_steps.Read o bytes)) (record { changes = λ z. refl; pins = λ before ps. refl; unpins = λ ps. refl }) refl (λ z body_word. refl) (λ z. refl) tt
  access-agrees (call_steps.Write dom frame off len) (Frame t q (frame_steps.Wrote r)) answer a the =
      quiet c s k g h i is limits agree inside (stepped (dom_at k i) (call_steps.Write dom frame off len) Nothing answer) (Frame t q (frame_steps.Wrote r)) (record { changes = λ z. refl; pins = λ before ps. refl; unpins = λ ps. refl }) refl (λ z body_word. refl) (λ z. refl) tt
  access-agrees (call_steps.Copy from to len) (Frame t q (frame_steps.Copied u f o r)) answer a the =
      quiet c s k g h i is limits agree inside (stepped (dom_at k i) (call_steps.Copy from to len) Nothing answer) (Frame t q (frame_steps.Copied u f o r)) (record { changes = λ z. refl; pins = λ before ps. refl; unpins = λ ps. refl }) refl (λ z body_word. refl) (λ z. refl) tt
  access-agrees (call_steps.Read dom frame off len) x answer a the = absurd the
  access-agrees (call_steps.Write dom frame off len) x answer a the = absurd the
  access-agrees (call_steps.Copy from to len) x answer a the = absurd the
  access-agrees step x answer a the = absurd a

access-bounded : (k : Layout) (g : History) (d : DomId) (step : Step) (seen : Observation) (answer : Option Answer) → IsAccess step → AreBounded k g → AreBounded k (stepped d step seen answer ∷ g)
access-bounded k g d (call_steps.Read dom frame off len) seen answer a b = bounded-quiet k g _ (record { changes = λ z. refl; pins = λ before ps. refl; unpins = λ ps. refl }) b
access-bounded k g d (call_steps.Write dom frame off len) seen answer a b = bounded-quiet k g _ (record { changes = λ z. refl; pins = λ before ps. refl; unpins = λ ps. refl }) b
access-bounded k g d (call_steps.Copy from to len) seen answer a b = bounded-quiet k g _ (record { changes = λ z. refl; pins = λ before ps. refl; unpins = λ ps. refl }) b
access-bounded k g d step seen answer a b = absurd a

access-table : (s : Setting) (g : History) (d : DomId) (step : Step) (seen : Observation) (answer : Option Answer) → IsAccess step → table_at s (stepped d step seen answer ∷ g) d ≡ table_at s g d
access-table s g d (call_steps.Read dom frame off len) seen answer a = kept-table s _ g d refl
access-table s g d (call_steps.Write dom frame off len) seen answer a = kept-table s _ g d refl
access-table s g d (call_steps.Copy from to len) seen answer a = kept-table s _ g d refl
access-table s g d step seen answer a = absurd a

module _ (b : Board) (c : Config) (may : AllowRelation) (limits : IsWithinLimits c) (is : b.layout ≡ layout_of c) (g : History) (i : ℕ) (inside : i < b.layout.domains) (m : CallMade) (ms : List DomainAct) (first : Domain)
    (xs : List Moment) (x : Moment) (call : IsCall b c may m) (at : m.old.seat.view.position ≡ i) (named : domain_of c.domains.items (dom_at b.layout i) ≢ None) (reached : CanBeReached (setting_of c may) g)
    (agree : Agree (setting_of c may) b.layout g x.0) (writes : WritesAgree b.layout g x.0) (seat : SeatNow c may g (dom_at b.layout i) first (Going ms m xs))
    (bounded : AreBounded b.layout g) where
  abbrev k : Layout
  k = b.layout

  abbrev s : Setting
  s = setting_of c may

  abbrev d : DomId
  d = dom_at k i

  abbrev know : CallerKnowledge
  know = knowledge c may m.old

  abbrev way : Continuation
  way = way_of c may m

  abbrev cl : Underway
  cl = seat.call.0

  pub accesses-so : (v w : View) (step : Step) → way (all_shown xs) ≡ Some (actions.Step step) → AccessedAs k i (bytes_given_by m.request) step v w x → (action : Action) (answer : Option Answer) → way (all_shown (x ∷ xs)) ≡ Some action
      → AccessAnsweredSo g step action answer → one_if_mapped answer ≡ 0 → AccessesSo c may k g i (all_shown xs) way x v w answer
  accesses-so v w step next so action answer then answered plain =
      let own : m.old.seat.dom ≡ d = sym call.before.seat.named ∙ ap (dom_at k) at in
      let none : begun_of know m.old.seat.dom m.request ≡ None = unanswered (begun_of know m.old.seat.dom m.request) (steps_of know m.old.seat.dom (asked m.request)) (all_shown xs) step next in
      let along : (vs : List Observation) → path (known_at s g d) d cl.request vs ≡ way vs =
      λ vs. (λ j. path (seat.known j) (sym own j) (seat.call.2 j) vs) ∙ same-way know m.old.seat.dom m.request none (said know m.old.seat.dom m.request call.fits.1) vs in
      let comes : path (known_at s g d) d cl.request (values cl) ≡ Some (actions.Step step) = ap (path (known_at s g d) d cl.request) seat.call.3 ∙ (along (all_shown xs) ∙ next) in
      let goes : path (known_at s g d) d cl.request (values cl ++ Nothing ∷ []) ≡ Some action =
      along (values cl ++ Nothing ∷ []) ∙ ((λ j. way (seat.call.3 j ++ sym so.shows j ∷ [])) ∙ then) in
      let made = open-calls-can-access s g d cl step action answer reached named seat.call.1 comes so.is goes answered in
      let seen : seen_by s g d step ≡ seen_in_step x.1 = sees-nothing s g d step so.is ∙ sym so.shows in
      record {
        step = step;
        next = next;
        the = so.the;
        right = subst (λ (z : Observation). IsRight s g (stepped d step z answer)) seen made.0;
        reached = subst (λ (z : Observation). CanBeReached s (stepped d step z answer ∷ g)) seen made.1;
        agree = access-agrees c s k g x.0 i is limits agree inside step x.1 answer so.is so.the;
        writes = writes-by-access c k is limits g x.0 i d (bytes_given_by m.request) step x.1 (seen_in_step x.1) answer (ap given_in seat.call.1 ∙ seat.call.4) so.of_run so.the so.writes writes;
        bounded = access-bounded k g d step (seen_in_step x.1) answer so.is bounded;
        keeps = accesses-known s g d step (seen_in_step x.1) answer so.is plain;
        table = access-table s g d step (seen_in_step x.1) answer so.is;
        stands = so.stands;
      }
