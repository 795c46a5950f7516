-- A run on the core to a race.
use Rattle.std.proofs.Common.{◌≡◌, ◌≢◌, ◌+◌, ◌-◌, ◌<◌, ◌≤◌, ℕ, zero, suc, length, map, get_or, Bool, true, List, [], ◌∷◌, ◌++◌, Option, Some, None, refl, sym, ap, ◌∙◌, subst, inl, inr, arith, append_assoc}
use Rattle.std.proofs.lemmas.Option.{same_Some, slice_get-map, slice_get_read}
use Rattle.std.specs.Option.{option_map}
use Rattle.std.specs.Prelude.{Err, IfOk, IfSome, IsSome, IsTrue, Ok, Result, slice_get}
use Rattle.gt_explore_replay.proofs.Coming.{apart_at, less_or, mapped_back}
use Rattle.gt_explore_replay.specs.Orders.{Happening, IsOrderOf, did, doer, passed, raised}
use Rattle.gt_explore_replay.specs.Walking.{ComesOn, HasWalked, HaveOwnIds, IsShownBy}
use Rattle.gt_explore_replay.specs.declared.replay.Moved.{Moved}
use Rattle.gt_explore_replay.specs.declared.replay.Moved.TheVariants.{Began, Passed, Raised, Stepped}
use Rattle.gt_explore_replay.specs.declared.replay.Replay.{Replay}
use Rattle.gt_model.specs.declared.action.Observation.{Observation}
use Rattle.gt_model.specs.declared.action.Step.{Step}
use Rattle.gt_model.specs.declared.trace.Answer.{Answer}
use Rattle.gt_script.specs.Lists.{RunTask}
use Rattle.gt_script.specs.RunContents.{RunContents}
use Rattle.gt_script.specs.RunScripts.{list_of}
use Rattle.gt_types.specs.declared.DomId.{DomId}
use Rattle.gt_types.specs.declared.config.DomainConfig.{DomainConfig}
use Rattle.gt_explore_races.proofs.Beginning.{begins-for, begun-one, begun-same, not-begun}
use Rattle.gt_explore_races.proofs.Orders.{one-next, other-next}
use Rattle.gt_explore_races.specs.Accesses.{Conflict}
use Rattle.gt_explore_races.specs.Paths.{LeadsToRace, event_kind, event_kinds_in}
use Rattle.gt_explore_races.specs.Races.{IsRaceOf, begins_task, last_line, step_by, tasks_begun}
use Rattle.gt_explore_races.specs.Replays.{BeginsOrder, ConflictNext, HasApproached, HasBegun, HasMade}
use Rattle.gt_explore_races.specs.declared.events.EventKind.{EventKind}
use Rattle.gt_explore_races.specs.declared.events.EventKind.TheVariants as event_kinds
use Rattle.gt_explore_races.specs.declared.racing.Race.{Race}
use Rattle.gt_explore_races.specs.declared.replaying.Approach.{Approach}

-- a move was made
pub walked-more : (c : RunContents) (hs : List Happening) (r : Replay) (place : ℕ) (m : Option Moved) → IfSome m (λ moved. ComesOn c hs place moved r) → IsSome m → (x : Happening) × HasWalked c (hs ++ x ∷ []) r
walked-more c hs r place None on some = absurd (cc some)
walked-more c hs r place (Some moved) on some = (on.happened, on.walked)

-- two domains at different positions are different
pub own-ids : (ds : List DomainConfig) → HaveOwnIds ds → (i j : ℕ) (d e : DomainConfig) → i ≢ j → slice_get ds i ≡ Some d → slice_get ds j ≡ Some e → d.id.0 ≢ e.id.0
own-ids ds apart i j d e other here there = λ same. elim (less_or i j other) [
  | inl lt ↦ apart_at ds i j d e apart here there lt same
  | inr gt ↦ apart_at ds j i e d apart there here gt (sym same)
]

-- tasks

module _ (c : RunContents) (hs : List Happening) (place mover : ℕ) (moved : Moved) (r : Replay) (n : ℕ) (has : HasBegun c hs place n) (on : ComesOn c hs mover moved r) where
  mover-at : (d : DomainConfig) × (slice_get c.head.domains mover ≡ Some d) × (d.id ≡ doer on.happened)
  mover-at = mapped_back (λ (d : DomainConfig). d.id) (slice_get c.head.domains mover) (doer on.happened) on.own_move

  pub others-begin : mover ≢ place → HasBegun c (hs ++ on.happened ∷ []) place n
  others-begin other d there =
      let e = mover-at in
      let apart = own-ids c.head.domains on.walked.apart mover place e.0 d other e.1 there in
      has d there ∙ sym (begun-same d.id hs on.happened (not-begun d.id on.happened (λ same. apart (ap (λ (z : DomId). z.0) e.2 ∙ same))))

  own-domain : mover ≡ place → (d : DomainConfig) → slice_get c.head.domains place ≡ Some d → d.id ≡ doer on.happened
  own-domain same d there =
      let e = mover-at in
      ap (λ (z : DomainConfig). z.id) (same_Some d e.0 (sym there ∙ ap (slice_get c.head.domains) (sym same) ∙ e.1)) ∙ e.2

  -- a step begins no task
  pub steps-begin : (step : Step) (seen : Observation) (answer : Option Answer) → moved ≡ Stepped step seen answer → HasBegun c (hs ++ on.happened ∷ []) place n
  steps-begin step seen answer is d there =
      let (dom, x) = subst (λ (m : Moved). IsShownBy m on.happened) is on.shown in
      has d there ∙ sym (begun-same d.id hs on.happened (ap (begins_task d.id) x))

  one-more : (d : DomainConfig) → slice_get c.head.domains place ≡ Some d → begins_task d.id on.happened ≡ true → n + 1 ≡ tasks_begun d.id (hs ++ on.happened ∷ [])
  one-more d there begins = let e : n + 1 ≡ suc n = omega arith in e ∙ ap suc (has d there) ∙ sym (begun-one d.id hs on.happened begins)

  pub calls-begin : (answer : Option Answer) → mover ≡ place → moved ≡ Began answer → HasBegun c (hs ++ on.happened ∷ []) place (n + 1)
  calls-begin answer same is d there =
      let (dom, request, x) = subst (λ (m : Moved). IsShownBy m on.happened) is on.shown in
      let own : d.id ≡ dom = own-domain same d there ∙ ap doer x in
      one-more d there (ap (begins_task d.id) x ∙ begins-for d.id dom own)

  pub tells-begin : mover ≡ place → moved ≡ Raised → HasBegun c (hs ++ on.happened ∷ []) place (n + 1)
  tells-begin same is d there =
      let (dom, flag, x) = subst (λ (m : Moved). IsShownBy m on.happened) is on.shown in
      let own : d.id ≡ dom = own-domain same d there ∙ ap doer x in
      one-more d there (ap (begins_task d.id) x ∙ begins-for d.id dom own)

  pub awaits-begin : mover ≡ place → moved ≡ Passed → HasBegun c (hs ++ on.happened ∷ []) place (n + 1)
  awaits-begin same is d there =
      let (dom, flag, x) = subst (λ (m : Moved). IsShownBy m on.happened) is on.shown in
      let own : d.id ≡ dom = own-domain same d there ∙ ap doer x in
      one-more d there (ap (begins_task d.id) x ∙ begins-for d.id dom own)

-- events

events-append : (xs ys : List Happening) → event_kinds_in (xs ++ ys) ≡ event_kinds_in xs ++ event_kinds_in ys
events-append [] ys = refl
events-append (did e x ∷ xs) ys = ap (λ (l : List EventKind). event_kind e ∷ l) (events-append xs ys)
events-append (raised d flag ∷ xs) ys = events-append xs ys
events-append (passed d flag ∷ xs) ys = events-append xs ys

-- a happening more
pub events-more : (hs : List Happening) (x : Happening) (es fs : List EventKind) → es ≡ event_kinds_in hs → fs ≡ es ++ event_kinds_in (x ∷ []) → fs ≡ event_kinds_in (hs ++ x ∷ [])
events-more hs x es fs before more = more ∙ ap (λ (l : List EventKind). l ++ event_kinds_in (x ∷ [])) before ∙ sym (events-append hs (x ∷ []))

-- steps

pub has-made : (c : RunContents) (hs : List Happening) (place : ℕ) (step : Step) (seen : Observation) (answer : Option Answer) (r : Replay) → ComesOn c hs place (Stepped step seen answer) r → HasMade c hs place step r
has-made c hs place step seen answer r on =
    let (dom, x) = on.shown in
    let d = mapped_back (λ (e : DomainConfig). e.id) (slice_get c.head.domains place) (doer on.happened) on.own_move in
    let own : d.0.id ≡ dom = d.2 ∙ ap doer x in
    record {
      domain = d.0;
      there = d.1;
      seen = seen;
      answer = answer;
      walked = subst (λ (i : DomId). HasWalked c (hs ++ step_by i step seen answer ∷ []) r) (sym own) (subst (λ (z : Happening). HasWalked c (hs ++ z ∷ []) r) x on.walked);
    }

-- the race
pub race-of : (c : RunContents) (one other : ℕ) (a : Approach) (k l : ℕ) → one ≢ other → (at : HasApproached c one other a) → ConflictNext c at.happened one other
    → ((d : DomainConfig) → slice_get c.head.domains one ≡ Some d → last_line (list_of c.tasks d.id) a.first_begun ≡ Some k)
    → ((d : DomainConfig) → slice_get c.head.domains other ≡ Some d → last_line (list_of c.tasks d.id) a.second_begun ≡ Some l)
    → IsRaceOf c k l
race-of c one other a k l apart at next first second =
    let (after, text, order) = next.begins in
    let x = step_by next.domain.id next.first next.seen next.answer in
    let y = step_by next.domain_next.id next.second next.seen_next next.answer_next in
    record {
      before = at.happened;
      after = after;
      text = text;
      one = next.domain.id;
      first = next.first;
      seen = next.seen;
      answer = next.answer;
      other = next.domain_next.id;
      second = next.second;
      seen_next = next.seen_next;
      answer_next = next.answer_next;
      order = subst (λ (hs : List Happening). IsOrderOf c hs text) (append_assoc (at.happened ++ x ∷ []) (y ∷ []) after ∙ append_assoc at.happened (x ∷ []) (y ∷ after)) order;
      apart = own-ids c.head.domains at.walked.apart one other next.domain next.domain_next apart next.there next.there_next;
      conflict = next.conflict;
      first_line = ap (last_line (list_of c.tasks next.domain.id)) (sym (at.first next.domain next.there)) ∙ first next.domain next.there;
      second_line = ap (last_line (list_of c.tasks next.domain_next.id)) (sym (at.second next.domain_next next.there_next)) ∙ second next.domain_next next.there_next;
    }

-- the path to the race
pub leads-to : (c : RunContents) (r : Race) (one other : ℕ) (a : Approach) → one ≢ other → (at : HasApproached c one other a) → (next : ConflictNext c at.happened one other)
    → ((d : DomainConfig) → slice_get c.head.domains one ≡ Some d → last_line (list_of c.tasks d.id) a.first_begun ≡ Some r.first)
    → ((d : DomainConfig) → slice_get c.head.domains other ≡ Some d → last_line (list_of c.tasks d.id) a.second_begun ≡ Some r.second)
    → (es : List EventKind) → es ≡ (a.events.items ++ event_kinds.Tick next.domain.id ∷ []) ++ event_kinds.Tick next.domain_next.id ∷ [] → LeadsToRace c r es
unfolding race-of
leads-to c r one other a apart at next first second es is =
    let race : IsRaceOf c r.first r.second = race-of c one other a r.first r.second apart at next first second in
    let x = event_kinds.Tick next.domain.id in
    let y = event_kinds.Tick next.domain_next.id in
    record {
      race = race;
      made = is ∙ append_assoc a.events.items (x ∷ []) (y ∷ []) ∙ ap (λ (l : List EventKind). l ++ x ∷ y ∷ []) at.events;
      first_next = one-next c r.first r.second race;
      second_next = other-next c r.first r.second race;
    }

-- two conflicting steps, one directly after the other
pub conflict-next : (c : RunContents) (hs : List Happening) (one other : ℕ) (y z : Step) (r q : Replay) → (a : HasMade c hs one y r) → (b : HasMade c (hs ++ step_by a.domain.id y a.seen a.answer ∷ []) other z q) → Conflict y z
    → BeginsOrder c ((hs ++ step_by a.domain.id y a.seen a.answer ∷ []) ++ step_by b.domain.id z b.seen b.answer ∷ []) → ConflictNext c hs one other
conflict-next c hs one other y z r q a b conflict begins = record {
  domain = a.domain;
  there = a.there;
  first = y;
  seen = a.seen;
  answer = a.answer;
  domain_next = b.domain;
  there_next = b.there;
  second = z;
  seen_next = b.seen;
  answer_next = b.answer;
  conflict = conflict;
  begins = begins;
}

both-made : (c : RunContents) (hs : List Happening) (one other : ℕ) (o p : Option Step) (y z : Step) (r q : Replay) → o ≡ Some y → p ≡ Some z → IfSome o (λ v. HasMade c hs one v r)
    → ((h : List Happening) → HasWalked c h r → IfSome p (λ v. HasMade c h other v q)) → Conflict y z → ((h : List Happening) → HasWalked c h q → BeginsOrder c h) → ConflictNext c hs one other
both-made c hs one other o p y z r q e f first second conflict order =
    let a : HasMade c hs one y r = subst (λ (v : Option Step). IfSome v (λ w. HasMade c hs one w r)) e first in
    let h : List Happening = hs ++ step_by a.domain.id y a.seen a.answer ∷ [] in
    let b : HasMade c h other z q = subst (λ (v : Option Step). IfSome v (λ w. HasMade c h other w q)) f (second h a.walked) in
    conflict-next c hs one other y z r q a b conflict (order (h ++ step_by b.domain.id z b.seen b.answer ∷ []) b.walked)

-- the same if the run then came to its end
pub ends-made : {E : Type 0} (c : RunContents) (hs : List Happening) (one other : ℕ) (o p : Option Step) (y z : Step) (r q : Replay) → o ≡ Some y → p ≡ Some z → IfSome o (λ v. HasMade c hs one v r)
    → ((h : List Happening) → HasWalked c h r → IfSome p (λ v. HasMade c h other v q)) → Conflict y z
    → (res : Result Bool E) → ((h : List Happening) → HasWalked c h q → IfOk res (λ b. IsTrue b → BeginsOrder c h)) → IfOk res (λ b. IsTrue b → ConflictNext c hs one other)
ends-made c hs one other o p y z r q e f first second conflict (Err fault) ends = tt
ends-made c hs one other o p y z r q e f first second conflict (Ok b) ends = λ yes. both-made c hs one other o p y z r q e f first second conflict (λ h walked. ends h walked yes)

-- lines

pub last-of : {X : Type 0} (f : X → RunTask) (xs : List X) (n : ℕ) (x : X) → n ≢ 0 → n ≤ length xs → x ≡ get_or xs (n - 1) x → last_line (map f xs) n ≡ Some (f x).line
last-of f xs zero x some le is = absurd (some refl)
last-of f xs (suc n) x some le is =
    let before : suc n - 1 ≡ n = omega arith in let within : n < length xs = omega arith in
    ap (option_map (λ (t : RunTask). t.line)) (slice_get-map f xs n ∙ ap (option_map f) (slice_get_read xs (length xs) n x refl within (is ∙ ap (λ (m : ℕ). get_or xs m x) before)))
