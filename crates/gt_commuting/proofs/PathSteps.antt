-- What holds for each action of a call's path, by the pins that the call holds there.
use Rattle.std.proofs.Common.{◌≡◌, ℕ, zero, suc, refl, Bool, true, false, cond, List, [], ◌∷◌, ◌++◌, length, Option}
use Rattle.std.proofs.Common.{Some, None, sym, subst}
use Rattle.std.specs.Prelude.{◌==◌, nat_lt}
use Rattle.std.proofs.lemmas.Option.{none-some, same_Some}
use Rattle.gt_types.specs.declared.DomId.{DomId}
use Rattle.gt_types.specs.declared.GrantRef.{GrantRef}
use Rattle.gt_types.specs.declared.denial.Denial.{Denial}
use Rattle.gt_types.specs.declared.denial.Rule.{Rule}
use Rattle.gt_model.specs.declared.change.BodyWord.{BodyWord}
use Rattle.gt_model.specs.declared.change.BodyWord.TheVariants as body_words
use Rattle.gt_model.specs.declared.change.EntryChange.{EntryChange}
use Rattle.gt_model.specs.declared.change.EntryChange.TheVariants.{Publish}
use Rattle.gt_model.specs.declared.entry.Entry.TheVariants as entries
use Rattle.gt_model.specs.declared.entry.Entry.{Entry}
use Rattle.gt_model.specs.Words.{control_of, header_of}
use Rattle.gt_model.specs.declared.control.EntryKind.TheVariants as kinds
use Rattle.gt_model.specs.Path.{AfterPin, AfterRefusal, Continuation, after_first, beyond, at_first_look, by_mapping}
use Rattle.gt_model.specs.Path.{ended, exchanges, exchanges_once, give_back, grant_path, held_of, is_stopped}
use Rattle.gt_model.specs.Path.{last_step, leg, looks, makes, reaches, reads_body, refused_holding, second_leg}
use Rattle.gt_model.specs.Path.{rule_of_try, tries, try_pin, turn, turns, unless_refused}
use Rattle.gt_model.specs.Rules.{CallerKnowledge, first_body, first_look, is_kind, size_of, via_judged}
use Rattle.gt_model.specs.declared.action.Action.{Action}
use Rattle.gt_model.specs.declared.action.Action.TheVariants.{Done}
use Rattle.gt_model.specs.declared.action.Action.TheVariants as actions
use Rattle.gt_model.specs.declared.action.CallResult.{CallResult}
use Rattle.gt_model.specs.declared.action.CallResult.TheVariants.{Granted, Refused}
use Rattle.gt_model.specs.declared.action.Observation.{Observation}
use Rattle.gt_model.specs.declared.action.Observation.TheVariants.{Missed, Nothing, Taken, Word}
use Rattle.gt_model.specs.declared.action.Step.{Step}
use Rattle.gt_model.specs.declared.action.Step.TheVariants.{Exchange, LookBody, LookControl, LookHeader, StoreBody}
use Rattle.gt_model.specs.declared.action.Step.TheVariants.{Unpin}
use Rattle.gt_model.specs.declared.action.Step.TheVariants as call_steps
use Rattle.gt_model.specs.declared.held.AccessPath.{AccessPath}
use Rattle.gt_model.specs.declared.held.AccessPath.TheVariants.{Own, Direct, Through}
use Rattle.gt_model.specs.declared.held.HeldPin.{HeldPin}
use Rattle.gt_model.specs.declared.leg.Leg.{Leg}
use Rattle.gt_model.specs.declared.bounds.TheConstants.{MORE_TRIES}
use Rattle.gt_model.specs.declared.request.PinHolder.TheVariants as holders

-- the pins of a call

-- the pins that a call holds after a step, the last one first
abbrev pub after_step : Step → Observation → List HeldPin → List HeldPin
after_step (call_steps.Pin p) Taken held = p ∷ held
after_step (Unpin p (holders.Leg number)) seen (q ∷ held) = held
after_step step seen held = held

abbrev pub after_action : Option Action → Observation → List HeldPin → List HeldPin
after_action (Some (actions.Step step)) seen held = after_step step seen held
after_action action seen held = held

-- the pins that it holds after it has been shown these values, if it held these before
abbrev pub held_along : Continuation → List HeldPin → List Observation → List HeldPin
held_along cont held [] = held
held_along cont held (v ∷ vs) = held_along (λ us. cont (v ∷ us)) (after_action (cont []) v held) vs

pub held-more : (cont : Continuation) (held : List HeldPin) (vs : List Observation) (v : Observation)
    → held_along cont held (vs ++ v ∷ []) ≡ after_action (cont vs) v (held_along cont held vs)
held-more cont held [] v = refl
held-more cont held (u ∷ vs) v = held-more (λ us. cont (u ∷ us)) (after_action (cont []) u held) vs v

-- if the action takes a pin, it is such
abbrev pub TakesOf : (HeldPin → Type 0) → Option Action → Observation → Type 0
TakesOf L (Some (actions.Step (call_steps.Pin p))) Taken = L p
TakesOf L action seen = Unit {0}

-- each pin that was taken, while the path has shown these values, is such
abbrev pub TookOf : (HeldPin → Type 0) → Continuation → List Observation → Type 0
TookOf L cont [] = Unit {0}
TookOf L cont (v ∷ vs) = TakesOf L (cont []) v × TookOf L (λ us. cont (v ∷ us)) vs

pub took-more : (L : HeldPin → Type 0) (cont : Continuation) (vs : List Observation) (v : Observation)
    → TookOf L cont vs → TakesOf L (cont vs) v → TookOf L cont (vs ++ v ∷ [])
took-more L cont [] v took takes = (takes, tt)
took-more L cont (u ∷ vs) v took takes = (took.0, took-more L (λ us. cont (u ∷ us)) vs v took.1 takes)

takes-any : (action : Option Action) (seen : Observation) → TakesOf (λ p. Unit {0}) action seen
takes-any (Some (actions.Step (call_steps.Pin p))) Taken = tt
takes-any action seen = tt

pub took-any : (cont : Continuation) (vs : List Observation) → TookOf (λ p. Unit {0}) cont vs
took-any cont [] = tt
took-any cont (v ∷ vs) = (takes-any (cont []) v, took-any (λ us. cont (v ∷ us)) vs)

-- the pin is one of the leg
abbrev pub IsPinOf : Leg → HeldPin → Type 0
IsPinOf l p = (body : ℕ) × (second : ℕ) × (p ≡ held_of l p.word body second)

-- the entry is not transitive
abbrev pub IsNoVia : Entry → Type 0
IsNoVia (entries.Via dom ro dom2 gref) = ⊥
IsNoVia entry = Unit {0}

-- the actions of a path

module _ (L : HeldPin → Type 0) (G : List HeldPin → Action → Type 0) where
  -- each action of the path is such, if the call held these pins before it, and each pin that it took was such
  abbrev pub Each : List HeldPin → Continuation → Type 0
  Each held cont = (vs : List Observation) (action : Action) → TookOf L cont vs → cont vs ≡ Some action
      → G (held_along cont held vs) action

  one-action : (held : List HeldPin) (one action : Action) → G held one → Some one ≡ Some action → G held action
  one-action held one action good e = subst (G held) (same_Some one action e) good

  pub each-ended : (held : List HeldPin) (verdict : CallResult) → G held (Done verdict) → Each held (ended verdict)
  each-ended held verdict good [] action took e = one-action held (Done verdict) action good e
  each-ended held verdict good (v ∷ vs) action took e = absurd (none-some action e)

  pub each-makes : (held : List HeldPin) (one : Step) (follows : Continuation) → G held (actions.Step one)
      → Each (after_step one Nothing held) follows → Each held (makes one follows)
  each-makes held one follows good more [] action took e = one-action held (actions.Step one) action good e
  each-makes held one follows good more (Nothing ∷ vs) action took e = more vs action took.1 e
  each-makes held one follows good more (v ∷ vs) action took e = absurd (none-some action e)

  pub each-looks : (held : List HeldPin) (one : Step) (follows : ℕ → Continuation) → G held (actions.Step one)
      → ((w : ℕ) → Each (after_step one (Word w) held) (follows w)) → Each held (looks one follows)
  each-looks held one follows good more [] action took e = one-action held (actions.Step one) action good e
  each-looks held one follows good more (Word w ∷ vs) action took e = more w vs action took.1 e
  each-looks held one follows good more (v ∷ vs) action took e = absurd (none-some action e)

  pub each-if : (held : List HeldPin) (b : Bool) (one other : Continuation) → Each held one → Each held other
      → Each held (cond b one other)
  each-if held true one other first second = first
  each-if held false one other first second = second

  pub each-exchanges : (held : List HeldPin) (one : Step) (looked : ℕ) (taken : Continuation)
      (missed : ℕ → Continuation) → G held (actions.Step one)
      → (TakesOf L (Some (actions.Step one)) Taken → Each (after_step one Taken held) taken)
      → ((w : ℕ) → Each (after_step one (Missed w) held) (missed w)) → Each held (exchanges one looked taken missed)
  each-exchanges held one looked taken missed good first second [] action took e =
      one-action held (actions.Step one) action good e
  each-exchanges held one looked taken missed good first second (Taken ∷ vs) action took e =
      first took.0 vs action took.1 e
  each-exchanges held one looked taken missed good first second (Missed w ∷ vs) action took e =
      by (w == looked) took.1 e
    where
      by : (b : Bool) → TookOf L (λ us. cond b None (missed w us)) vs → cond b None (missed w vs) ≡ Some action
          → G (held_along (λ us. cond b None (missed w us)) (after_step one (Missed w) held) vs) action
      by true f g = absurd (none-some action g)
      by false f g = second w vs action f g
  each-exchanges held one looked taken missed good first second (v ∷ vs) action took e = absurd (none-some action e)

  -- the steps of a leg
  pub record LegIs (held : List HeldPin) (l : Leg) : Type 0 where
    pub header : G held (actions.Step (LookHeader l.dom))
    pub control : G held (actions.Step (LookControl l.dom l.gref))
    pub body : (body_word : BodyWord) → G held (actions.Step (LookBody l.dom l.gref body_word))
    pub pin : (p : HeldPin) → IsPinOf l p → G held (actions.Step (call_steps.Pin p))

  module _ (held : List HeldPin) (l : Leg) (is : LegIs held l) (refused : AfterRefusal) (pinned : AfterPin)
      (no : (denial : Denial) → Each held (refused denial))
      (yes : (p : HeldPin) → IsPinOf l p → L p → Each (p ∷ held) (pinned p)) where
    each-last : (p : HeldPin) (rule : Option Rule) (missed : ℕ → Continuation) → IsPinOf l p
        → ((w : ℕ) → Each held (missed w)) → Each held (last_step l p rule refused missed pinned)
    each-last p None missed of more =
        each-exchanges held (call_steps.Pin p) p.word (pinned p) missed (is.pin p of) (yes p of) more
    each-last p (Some rule) missed of more = each-looks held (LookControl l.dom l.gref) _ is.control (λ found.
        each-if held (found == p.word) _ _ (no _) (more found))

    each-body : (word : ℕ) (missed : ℕ → Continuation) → ((w : ℕ) → Each held (missed w))
        → Each held (reads_body l word refused missed pinned)
    each-body word missed more = each-looks held (LookBody l.dom l.gref body_words.First) _ (is.body body_words.First) (λ body.
        each-if held (is_kind (control_of word).kind kinds.Sub) _ _
        (each-looks held (LookBody l.dom l.gref body_words.Second) _ (is.body body_words.Second) (λ second.
        each-last (held_of l word body second) (rule_of_try l word body second) missed (body, second, refl) more))
        (each-last (held_of l word body 0) (rule_of_try l word body 0) missed (body, 0, refl) more))

    each-first : (word : ℕ) (rule : Option Rule) (missed : ℕ → Continuation) → ((w : ℕ) → Each held (missed w))
        → Each held (at_first_look l word rule refused (reads_body l word refused missed pinned))
    each-first word None missed more = each-body word missed more
    each-first word (Some rule) missed more = no _

    each-try : (missed : ℕ → Continuation) → ((w : ℕ) → Each held (missed w))
        → Each held (try_pin l refused missed pinned)
    each-try missed more = each-looks held (LookControl l.dom l.gref) _ is.control (λ word.
        each-first word (first_look l (control_of word)) missed more)

    each-tries : (more : ℕ) → Each held (tries l more refused pinned)
    unfolding tries
    each-tries zero = each-try _ (λ found. no _)
    each-tries (suc more) = each-try _ (λ found. each-tries more)

    pub each-leg : Each held (leg l refused pinned)
    each-leg = each-looks held (LookHeader l.dom) _ is.header (λ word.
        each-if held (nat_lt l.gref.0 (size_of (header_of word))) _ _ (each-tries MORE_TRIES) (no _))

  -- the pins held are released

  abbrev pub GivesWell : List HeldPin → CallResult → Type 0
  GivesWell [] verdict = G [] (Done verdict)
  GivesWell (p ∷ ps) verdict = G (p ∷ ps) (actions.Step (Unpin p (holders.Leg (length ps)))) × GivesWell ps verdict

  pub each-given : (held : List HeldPin) (verdict : CallResult) → GivesWell held verdict
      → Each held (give_back held verdict)
  each-given [] verdict good = each-ended [] verdict good
  each-given (p ∷ ps) verdict good =
      each-makes (p ∷ ps) (Unpin p (holders.Leg (length ps))) (give_back ps verdict) good.0 (each-given ps verdict good.1)

  -- what is needed of the second leg to an end, after the pin of a transitive entry
  pub record SecondIs (k : CallerKnowledge) (l : Leg) (held : List HeldPin) (p : HeldPin) (dom2 : DomId)
      (gref : GrantRef) (reached : AccessPath → Continuation) : Type 0 where
    pub leg_is : LegIs (p ∷ held) (second_leg k l dom2 gref)
    pub gives : (verdict : CallResult) → GivesWell (p ∷ held) verdict
    pub on : (q : HeldPin) → IsPinOf (second_leg k l dom2 gref) q → L q
        → Each (q ∷ p ∷ held) (reached (Through p q))

  -- an end of a copy is reached
  module _ (k : CallerKnowledge) (l : Leg) (pair : DomId → DomId × DomId) (held : List HeldPin)
      (reached : AccessPath → Continuation) where
    each-beyond : (p : HeldPin) (entry : Entry) → (IsNoVia entry → Each (p ∷ held) (reached (Direct p)))
        → ((dom : DomId) (ro : Bool) (dom2 : DomId) (gref : GrantRef) → entry ≡ entries.Via dom ro dom2 gref
        → SecondIs k l held p dom2 gref reached) → Each (p ∷ held) (beyond k l pair held reached p entry)
    each-beyond p (entries.Via dom ro dom2 gref) direct second = by (via_judged k (pair dom2) dom2) where
      is : SecondIs k l held p dom2 gref reached
      is = second dom ro dom2 gref refl

      by : (verdict : Option CallResult) → Each (p ∷ held) (unless_refused verdict (p ∷ held)
          (leg (second_leg k l dom2 gref) (refused_holding (p ∷ held)) (λ q. reached (Through p q))))
      by None = each-leg (p ∷ held) (second_leg k l dom2 gref) is.leg_is (refused_holding (p ∷ held))
          (λ q. reached (Through p q))
          (λ denial. each-given (p ∷ held) (Refused denial) (is.gives (Refused denial))) is.on
      by (Some verdict) = each-given (p ∷ held) verdict (is.gives verdict)
    each-beyond p entries.Invalid direct second = direct tt
    each-beyond p (entries.Page dom ro frame) direct second = direct tt
    each-beyond p (entries.Sub dom ro frame off len) direct second = direct tt

    pub each-reached : (granted : Bool) → (granted ≡ true → LegIs held l)
        → ((verdict : CallResult) → GivesWell held verdict)
        → (granted ≡ false → Each held (reached Own))
        → (granted ≡ true → (p : HeldPin) → IsPinOf l p → L p → IsNoVia p.entry → Each (p ∷ held) (reached (Direct p)))
        → (granted ≡ true → (p : HeldPin) → IsPinOf l p → L p
        → (dom : DomId) (ro : Bool) (dom2 : DomId) (gref : GrantRef)
        → p.entry ≡ entries.Via dom ro dom2 gref → SecondIs k l held p dom2 gref reached)
        → Each held (reaches k granted l pair held reached)
    each-reached false is gives own direct second = own refl
    each-reached true is gives own direct second = each-leg held l (is refl) (refused_holding held)
        (λ p. beyond k l pair held reached p p.entry)
        (λ denial. each-given held (Refused denial) (gives (Refused denial)))
        (λ p of take. each-beyond p p.entry (direct refl p of take) (second refl p of take))

  -- an owner's changes
  module _ (held : List HeldPin) (ends : (verdict : CallResult) → G held (Done verdict)) (d : DomId) (gref : GrantRef)
      (change : EntryChange) (exchange : (looked : ℕ) → G held (actions.Step (Exchange gref looked change))) where
    pub each-once : (looked : ℕ) → Each held (exchanges_once d gref looked change)
    each-once looked = each-exchanges held (Exchange gref looked change) looked _ _ (exchange looked)
        (λ taken. each-ended held Granted (ends Granted)) (λ found. each-ended held _ (ends _))

    module _ (control : G held (actions.Step (LookControl d gref))) where
      each-turn : (missed : ℕ → Continuation) → ((w : ℕ) → Each held (missed w))
          → Each held (turn change d gref missed)
      each-turn missed more = each-looks held (LookControl d gref) _ control (λ word.
          each-if held (is_stopped change (control_of word)) _ _ (each-ended held _ (ends _))
          (each-exchanges held (Exchange gref word change) word _ missed (exchange word)
          (λ taken. each-ended held Granted (ends Granted)) more))

      pub each-turns : (more : ℕ) → Each held (turns change d gref more)
      unfolding turns
      each-turns zero = each-turn _ (λ found. each-ended held _ (ends _))
      each-turns (suc more) = each-turn _ (λ found. each-turns more)

  pub each-grant : (held : List HeldPin) → ((verdict : CallResult) → G held (Done verdict)) → (k : CallerKnowledge)
      (d : DomId) (gref : GrantRef) (entry : Entry)
      → ((body_word : BodyWord) (w : ℕ) → G held (actions.Step (StoreBody gref body_word w)))
      → ((looked : ℕ) → G held (actions.Step (Exchange gref looked (Publish entry)))) → Each held (grant_path k d gref entry)
  each-grant held ends k d gref entry store exchange =
      each-makes held (StoreBody gref body_words.First (first_body entry)) _ (store body_words.First _) (by entry exchange)
    where
      by : (e : Entry) → ((looked : ℕ) → G held (actions.Step (Exchange gref looked (Publish e))))
          → Each held (after_first k d gref e)
      by (entries.Sub dom ro frame off len) x = each-makes held (StoreBody gref body_words.Second _) _ (store body_words.Second _)
          (each-once held ends d gref (Publish (entries.Sub dom ro frame off len)) x _)
      by entries.Invalid x = each-once held ends d gref (Publish entries.Invalid) x _
      by (entries.Page dom ro frame) x = each-once held ends d gref (Publish (entries.Page dom ro frame)) x _
      by (entries.Via dom ro dom2 r) x = each-once held ends d gref (Publish (entries.Via dom ro dom2 r)) x _

  pub each-mapped : (found : Option HeldPin) (step : HeldPin → Step)
      (ends : (verdict : CallResult) → G [] (Done verdict))
      → ((m : HeldPin) → found ≡ Some m → G [] (actions.Step (step m)))
      → ((m : HeldPin) → after_step (step m) Nothing [] ≡ []) → Each [] (by_mapping found step)
  each-mapped None step ends good kept = each-ended [] _ (ends _)
  each-mapped (Some m) step ends good kept = each-makes [] (step m) _ (good m refl)
      (subst (λ held. Each held (ended Granted)) (sym (kept m)) (each-ended [] Granted (ends Granted)))
