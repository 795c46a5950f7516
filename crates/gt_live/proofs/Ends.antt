-- What follows the steps of a call that waits for nobody, by the grammar of its path.
use Rattle.std.proofs.Common.{◌≡◌, ℕ, ◌==◌, nat_lt, Bool, true, false, cond, refl, sym, subst, List, [], ◌∷◌, ◌++◌}
use Rattle.std.proofs.Common.{Option, Some, None, zero, suc}
use Rattle.std.proofs.lemmas.Bool.{eqb-true}
use Rattle.gt_types.specs.declared.DomId.{DomId}
use Rattle.gt_types.specs.declared.GrantRef.{GrantRef}
use Rattle.gt_types.specs.declared.denial.Denial.{Denial}
use Rattle.gt_types.specs.declared.denial.Rule.{Rule}
use Rattle.gt_types.specs.declared.denial.Rule.TheVariants.{N6, N9, N18, N19}
use Rattle.gt_types.specs.declared.denial.Facts.TheVariants as facts
use Rattle.gt_types.specs.Denial.{denial_of}
use Rattle.gt_types.specs.Names.{resolved}
use Rattle.gt_model.specs.declared.entry.Entry.{Entry}
use Rattle.gt_model.specs.declared.entry.Entry.TheVariants.{Invalid, Page, Sub, Via}
use Rattle.gt_model.specs.declared.control.EntryKind.TheVariants as kinds
use Rattle.gt_model.specs.Words.{control_of, header_of, size_of}
use Rattle.gt_model.specs.declared.action.Action.{Action}
use Rattle.gt_model.specs.declared.action.Action.TheVariants.{Done}
use Rattle.gt_model.specs.declared.action.Action.TheVariants as actions
use Rattle.gt_model.specs.declared.change.EntryChange.{EntryChange}
use Rattle.gt_model.specs.declared.change.EntryChange.TheVariants.{Publish}
use Rattle.gt_model.specs.declared.change.EntryChange.TheVariants as changes
use Rattle.gt_model.specs.declared.change.BodyWord.{BodyWord}
use Rattle.gt_model.specs.declared.change.BodyWord.TheVariants.{First, Second}
use Rattle.gt_model.specs.declared.action.Observation.{Observation}
use Rattle.gt_model.specs.declared.action.Observation.TheVariants.{Nothing, Word, Taken, Missed}
use Rattle.gt_model.specs.declared.action.Step.{Step}
use Rattle.gt_model.specs.declared.action.Step.TheVariants.{LookHeader, LookControl, LookBody, Pin, Unpin, StoreBody}
use Rattle.gt_model.specs.declared.action.Step.TheVariants.{StoreHeader, Exchange}
use Rattle.gt_model.specs.declared.action.CallResult.{CallResult}
use Rattle.gt_model.specs.declared.action.CallResult.TheVariants.{Granted, Given, Mapped, Refused}
use Rattle.gt_model.specs.declared.action.CallValue.TheVariants.{Frames}
use Rattle.gt_model.specs.declared.request.OpenRequest.{OpenRequest}
use Rattle.gt_model.specs.declared.request.OpenRequest.TheVariants as asks
use Rattle.gt_model.specs.declared.action.HeaderQuery.TheVariants.{Size, Version}
use Rattle.gt_model.specs.declared.held.HeldPin.{HeldPin}
use Rattle.gt_model.specs.declared.handle.Handle.{Handle}
use Rattle.gt_model.specs.declared.leg.Leg.{Leg}
use Rattle.gt_model.specs.declared.request.PinHolder.TheVariants as holders
use Rattle.gt_model.specs.Rules.{CallerKnowledge, begun, first_look, is_kind, first_body, second_body}
use Rattle.gt_model.specs.Path.{Continuation, AfterRefusal, AfterPin, after_beginning, at_first_look, by_mapping}
use Rattle.gt_model.specs.Path.{ended, entry_refusal, exchanges, exchanges_once, grant_path, held_of, idle_word}
use Rattle.gt_model.specs.Path.{is_stopped, last_step, leg, looks, looks_again, makes, map_leg, path, pins, publishes}
use Rattle.gt_model.specs.Path.{reads_body, reads_second, refused_at, refused_holding, rule_of_try, steps_of}
use Rattle.gt_model.specs.Path.{stores_second, header_value_of, tries, try_pin, turn, turns}
use Rattle.gt_live.specs.declared.driving.Effect.{Effect}
use Rattle.gt_live.specs.declared.driving.Effect.TheVariants as effects
use Rattle.gt_live.specs.Effects.{Answers, EndsSo, IsFound, IsFoundAt, effect_of}
use Rattle.gt_live.specs.Ending.{IsAnswerTo, WaitsForNobody}

module _ (caller : DomId) where
  -- what comes first on this way is what follows such a step
  abbrev pub Opens : Step → Observation → Continuation → Type 0
  Opens s x way = (a : Action) → way [] ≡ Some a → EndsSo caller s x a

  -- each step of the way is followed as it should be, and the way's answers are these
  pub record Sound (P : CallResult → Type 0) (way : Continuation) : Type 0 where
    pub ends : (vs : List Observation) (s : Step) (x : Observation) (a : Action) → way vs ≡ Some (actions.Step s) → way (vs ++ x ∷ []) ≡ Some a → EndsSo caller s x a
    pub answers : (vs : List Observation) (verdict : CallResult) → way vs ≡ Some (Done verdict) → P verdict

  module _ (P : CallResult → Type 0) where
    ended-sound : (verdict : CallResult) → P verdict → Sound P (ended verdict)
    ended-sound verdict p = record { ends = ends; answers = answers }
      where
        ends : (vs : List Observation) (s : Step) (x : Observation) (a : Action) → ended verdict vs ≡ Some (actions.Step s) → ended verdict (vs ++ x ∷ []) ≡ Some a → EndsSo caller s x a
        ends [] s x a e f = absurd (cc)
        ends (v ∷ vs) s x a e f = absurd (cc)

        answers : (vs : List Observation) (other : CallResult) → ended verdict vs ≡ Some (Done other) → P other
        answers [] other e = let same : verdict ≡ other = cc in subst P same p
        answers (v ∷ vs) other e = absurd (cc)

    makes-sound : (step : Step) (follows : Continuation) → Opens step Nothing follows → Sound P follows → Sound P (makes step follows)
    makes-sound step follows opens sound = record { ends = ends; answers = answers }
      where
        opened : (s : Step) (x : Observation) (a : Action) → s ≡ step → makes step follows (x ∷ []) ≡ Some a → EndsSo caller s x a
        opened s Nothing a same f = subst (λ (t : Step). EndsSo caller t Nothing a) (sym same) (opens a f)
        opened s (Word w) a same f = absurd (cc)
        opened s Taken a same f = absurd (cc)
        opened s (Missed w) a same f = absurd (cc)

        ends : (vs : List Observation) (s : Step) (x : Observation) (a : Action) → makes step follows vs ≡ Some (actions.Step s) → makes step follows (vs ++ x ∷ []) ≡ Some a → EndsSo caller s x a
        ends [] s x a e f = let same : s ≡ step = cc in opened s x a same f
        ends (Nothing ∷ vs) s x a e f = sound.ends vs s x a e f
        ends (Word w ∷ vs) s x a e f = absurd (cc)
        ends (Taken ∷ vs) s x a e f = absurd (cc)
        ends (Missed w ∷ vs) s x a e f = absurd (cc)

        answers : (vs : List Observation) (verdict : CallResult) → makes step follows vs ≡ Some (Done verdict) → P verdict
        answers [] verdict e = absurd (cc)
        answers (Nothing ∷ vs) verdict e = sound.answers vs verdict e
        answers (Word w ∷ vs) verdict e = absurd (cc)
        answers (Taken ∷ vs) verdict e = absurd (cc)
        answers (Missed w ∷ vs) verdict e = absurd (cc)

    looks-sound : (step : Step) (follows : ℕ → Continuation) → ((w : ℕ) → Opens step (Word w) (follows w)) → ((w : ℕ) → Sound P (follows w)) → Sound P (looks step follows)
    looks-sound step follows opens sound = record { ends = ends; answers = answers }
      where
        opened : (s : Step) (x : Observation) (a : Action) → s ≡ step → looks step follows (x ∷ []) ≡ Some a → EndsSo caller s x a
        opened s (Word w) a same f = subst (λ (t : Step). EndsSo caller t (Word w) a) (sym same) (opens w a f)
        opened s Nothing a same f = absurd (cc)
        opened s Taken a same f = absurd (cc)
        opened s (Missed w) a same f = absurd (cc)

        ends : (vs : List Observation) (s : Step) (x : Observation) (a : Action) → looks step follows vs ≡ Some (actions.Step s) → looks step follows (vs ++ x ∷ []) ≡ Some a → EndsSo caller s x a
        ends [] s x a e f = let same : s ≡ step = cc in opened s x a same f
        ends (Word w ∷ vs) s x a e f = (sound w).ends vs s x a e f
        ends (Nothing ∷ vs) s x a e f = absurd (cc)
        ends (Taken ∷ vs) s x a e f = absurd (cc)
        ends (Missed w ∷ vs) s x a e f = absurd (cc)

        answers : (vs : List Observation) (verdict : CallResult) → looks step follows vs ≡ Some (Done verdict) → P verdict
        answers [] verdict e = absurd (cc)
        answers (Word w ∷ vs) verdict e = (sound w).answers vs verdict e
        answers (Nothing ∷ vs) verdict e = absurd (cc)
        answers (Taken ∷ vs) verdict e = absurd (cc)
        answers (Missed w ∷ vs) verdict e = absurd (cc)

    exchanges-sound : (step : Step) (looked : ℕ) (taken : Continuation) (missed : ℕ → Continuation) → Opens step Taken taken → ((w : ℕ) → Opens step (Missed w) (missed w)) → Sound P taken → ((w : ℕ) → Sound P (missed w))
        → Sound P (exchanges step looked taken missed)
    exchanges-sound step looked taken missed opens misses sound others = record { ends = ends; answers = answers }
      where
        opened_else : (b : Bool) (s : Step) (w : ℕ) (a : Action) → s ≡ step → (cond b None (missed w [])) ≡ Some a → EndsSo caller s (Missed w) a
        opened_else true s w a same f = absurd (cc)
        opened_else false s w a same f = subst (λ (t : Step). EndsSo caller t (Missed w) a) (sym same) (misses w a f)

        opened : (s : Step) (x : Observation) (a : Action) → s ≡ step → exchanges step looked taken missed (x ∷ []) ≡ Some a → EndsSo caller s x a
        opened s Taken a same f = subst (λ (t : Step). EndsSo caller t Taken a) (sym same) (opens a f)
        opened s (Missed w) a same f = opened_else (w == looked) s w a same f
        opened s Nothing a same f = absurd (cc)
        opened s (Word w) a same f = absurd (cc)

        ends_else : (b : Bool) (w : ℕ) (vs : List Observation) (s : Step) (x : Observation) (a : Action) → cond b None (missed w vs) ≡ Some (actions.Step s) → cond b None (missed w (vs ++ x ∷ [])) ≡ Some a → EndsSo caller s x a
        ends_else true w vs s x a e f = absurd (cc)
        ends_else false w vs s x a e f = (others w).ends vs s x a e f

        ends : (vs : List Observation) (s : Step) (x : Observation) (a : Action) → exchanges step looked taken missed vs ≡ Some (actions.Step s) → exchanges step looked taken missed (vs ++ x ∷ []) ≡ Some a → EndsSo caller s x a
        ends [] s x a e f = let same : s ≡ step = cc in opened s x a same f
        ends (Taken ∷ vs) s x a e f = sound.ends vs s x a e f
        ends (Missed w ∷ vs) s x a e f = ends_else (w == looked) w vs s x a e f
        ends (Nothing ∷ vs) s x a e f = absurd (cc)
        ends (Word w ∷ vs) s x a e f = absurd (cc)

        answers_else : (b : Bool) (w : ℕ) (vs : List Observation) (verdict : CallResult) → cond b None (missed w vs) ≡ Some (Done verdict) → P verdict
        answers_else true w vs verdict e = absurd (cc)
        answers_else false w vs verdict e = (others w).answers vs verdict e

        answers : (vs : List Observation) (verdict : CallResult) → exchanges step looked taken missed vs ≡ Some (Done verdict) → P verdict
        answers [] verdict e = absurd (cc)
        answers (Taken ∷ vs) verdict e = sound.answers vs verdict e
        answers (Missed w ∷ vs) verdict e = answers_else (w == looked) w vs verdict e
        answers (Nothing ∷ vs) verdict e = absurd (cc)
        answers (Word w ∷ vs) verdict e = absurd (cc)

  -- a way that comes first with this
  first-is : (s : Step) (x : Observation) (way : Continuation) (b : Action) → way [] ≡ Some b → EndsSo caller s x b → Opens s x way
  first-is s x way b e h a f = let same : b ≡ a = cc in subst (λ (y : Action). EndsSo caller s x y) same h

  -- a step of a leg that only looked, or missed
  abbrev pub IsIdle : Step → Observation → Type 0
  IsIdle s x = effect_of s x ≡ effects.Nothing

  then-step : (s : Step) (x : Observation) (way : Continuation) (t : Step) → IsIdle s x → way [] ≡ Some (actions.Step t) → Opens s x way
  then-step s x way t idle e = first-is s x way (actions.Step t) e idle

  then-refused : (s : Step) (x : Observation) (denial : Denial) → IsIdle s x → IsFound caller s x denial.facts → Opens s x (ended (Refused denial))
  then-refused s x denial idle found = first-is s x (ended (Refused denial)) (Done (Refused denial)) refl (subst (λ (y : Effect). Answers y (Refused denial)) (sym idle) tt, found)

  -- a map

  abbrev pub MapAnswer : CallResult → Type 0
  MapAnswer (Mapped p) = Unit {0}
  MapAnswer (Refused denial) = Unit {0}
  MapAnswer Granted = ⊥
  MapAnswer (Given value) = ⊥

  abbrev pub refuse : AfterRefusal
  refuse = refused_holding []

  abbrev pub keep : AfterPin
  keep p = ended (Mapped p)

  refuse-sound : (denial : Denial) → Sound MapAnswer (refuse denial)
  refuse-sound denial = ended-sound MapAnswer (Refused denial) tt

  module _ (l : Leg) (missed : ℕ → Continuation) (others : (w : ℕ) → Sound MapAnswer (missed w)) (opens : (s : Step) (x : Observation) → IsIdle s x → (w : ℕ) → IsFoundAt caller s x l.dom l.gref w → Opens s x (missed w)) where
    pins-sound : (p : HeldPin) → p.dom ≡ l.dom → p.gref ≡ l.gref → Sound MapAnswer (pins p missed keep)
    pins-sound p dom gref =
        exchanges-sound MapAnswer (Pin p) p.word (keep p) missed (first-is (Pin p) Taken (keep p) (Done (Mapped p)) refl (refl, tt)) (λ w. opens (Pin p) (Missed w) refl w (dom, gref, refl))
        (ended-sound MapAnswer (Mapped p) tt) others

    again-sound : (word : ℕ) (rule : Rule) → Sound MapAnswer (looks_again l word rule refuse missed)
    again-sound word rule =
        looks-sound MapAnswer (LookControl l.dom l.gref) (λ found. cond (found == word) (refuse (entry_refusal l.dom l.gref rule word)) (missed found)) (λ w. opened w (w == word) refl) (λ w. sound w (w == word))
      where
        opened : (w : ℕ) (b : Bool) → (w == word) ≡ b → Opens (LookControl l.dom l.gref) (Word w) (cond b (refuse (entry_refusal l.dom l.gref rule word)) (missed w))
        opened w true e = then-refused (LookControl l.dom l.gref) (Word w) (entry_refusal l.dom l.gref rule word) refl (refl, refl, eqb-true w word e)
        opened w false e = opens (LookControl l.dom l.gref) (Word w) refl w (refl, refl, refl)

        sound : (w : ℕ) (b : Bool) → Sound MapAnswer (cond b (refuse (entry_refusal l.dom l.gref rule word)) (missed w))
        sound w true = refuse-sound (entry_refusal l.dom l.gref rule word)
        sound w false = others w

    last-sound : (p : HeldPin) (o : Option Rule) → p.dom ≡ l.dom → p.gref ≡ l.gref → Sound MapAnswer (last_step l p o refuse missed keep)
    last-sound p None dom gref = pins-sound p dom gref
    last-sound p (Some rule) dom gref = again-sound p.word rule

    last-opens : (s : Step) (x : Observation) → IsIdle s x → (p : HeldPin) (o : Option Rule) → Opens s x (last_step l p o refuse missed keep)
    last-opens s x idle p None = then-step s x (pins p missed keep) (Pin p) idle refl
    last-opens s x idle p (Some rule) = then-step s x (looks_again l p.word rule refuse missed) (LookControl l.dom l.gref) idle refl

    second-sound : (word body : ℕ) → Sound MapAnswer (reads_second l word body refuse missed keep)
    second-sound word body =
        looks-sound MapAnswer (LookBody l.dom l.gref Second) (λ second. last_step l (held_of l word body second) (rule_of_try l word body second) refuse missed keep)
        (λ w. last-opens (LookBody l.dom l.gref Second) (Word w) refl (held_of l word body w) (rule_of_try l word body w))
        (λ w. last-sound (held_of l word body w) (rule_of_try l word body w) refl refl)

    body-sound : (word : ℕ) → Sound MapAnswer (reads_body l word refuse missed keep)
    body-sound word =
        looks-sound MapAnswer (LookBody l.dom l.gref First)
        (λ body. cond (is_kind (control_of word).kind kinds.Sub) (reads_second l word body refuse missed keep) (last_step l (held_of l word body 0) (rule_of_try l word body 0) refuse missed keep))
        (λ w. opened w (is_kind (control_of word).kind kinds.Sub)) (λ w. sound w (is_kind (control_of word).kind kinds.Sub))
      where
        opened : (w : ℕ) (b : Bool) → Opens (LookBody l.dom l.gref First) (Word w) (cond b (reads_second l word w refuse missed keep) (last_step l (held_of l word w 0) (rule_of_try l word w 0) refuse missed keep))
        opened w true = then-step (LookBody l.dom l.gref First) (Word w) (reads_second l word w refuse missed keep) (LookBody l.dom l.gref Second) refl refl
        opened w false = last-opens (LookBody l.dom l.gref First) (Word w) refl (held_of l word w 0) (rule_of_try l word w 0)

        sound : (w : ℕ) (b : Bool) → Sound MapAnswer (cond b (reads_second l word w refuse missed keep) (last_step l (held_of l word w 0) (rule_of_try l word w 0) refuse missed keep))
        sound w true = second-sound word w
        sound w false = last-sound (held_of l word w 0) (rule_of_try l word w 0) refl refl

    try-sound : Sound MapAnswer (try_pin l refuse missed keep)
    try-sound =
        looks-sound MapAnswer (LookControl l.dom l.gref) (λ word. at_first_look l word (first_look l (control_of word)) refuse (reads_body l word refuse missed keep))
        (λ w. opened w (first_look l (control_of w))) (λ w. sound w (first_look l (control_of w)))
      where
        opened : (w : ℕ) (o : Option Rule) → Opens (LookControl l.dom l.gref) (Word w) (at_first_look l w o refuse (reads_body l w refuse missed keep))
        opened w None = then-step (LookControl l.dom l.gref) (Word w) (reads_body l w refuse missed keep) (LookBody l.dom l.gref First) refl refl
        opened w (Some rule) = then-refused (LookControl l.dom l.gref) (Word w) (entry_refusal l.dom l.gref rule w) refl (refl, refl, refl)

        sound : (w : ℕ) (o : Option Rule) → Sound MapAnswer (at_first_look l w o refuse (reads_body l w refuse missed keep))
        sound w None = body-sound w
        sound w (Some rule) = refuse-sound (entry_refusal l.dom l.gref rule w)

  tries-opens : (l : Leg) (more : ℕ) (s : Step) (x : Observation) → IsIdle s x → Opens s x (tries l more refuse keep)
  unfolding tries
  tries-opens l zero s x idle = then-step s x (tries l zero refuse keep) (LookControl l.dom l.gref) idle refl
  tries-opens l (suc more) s x idle = then-step s x (tries l (suc more) refuse keep) (LookControl l.dom l.gref) idle refl

  tries-sound : (l : Leg) (more : ℕ) → Sound MapAnswer (tries l more refuse keep)
  unfolding tries
  tries-sound l zero =
      try-sound l (λ found. refuse (entry_refusal l.dom l.gref N18 found)) (λ w. refuse-sound (entry_refusal l.dom l.gref N18 w))
      (λ s x idle w found. then-refused s x (entry_refusal l.dom l.gref N18 w) idle found)
  tries-sound l (suc more) =
      try-sound l (λ found. tries l more refuse keep) (λ w. tries-sound l more) (λ s x idle w found. tries-opens l more s x idle)

  leg-sound : (l : Leg) → Sound MapAnswer (leg l refuse keep)
  leg-sound l =
      looks-sound MapAnswer (LookHeader l.dom) (λ word. cond (nat_lt l.gref.0 (size_of (header_of word))) (tries l 3 refuse keep) (refuse (denial_of N9 (facts.Header l.dom word))))
      (λ w. opened w (nat_lt l.gref.0 (size_of (header_of w)))) (λ w. sound w (nat_lt l.gref.0 (size_of (header_of w))))
    where
      opened : (w : ℕ) (b : Bool) → Opens (LookHeader l.dom) (Word w) (cond b (tries l 3 refuse keep) (refuse (denial_of N9 (facts.Header l.dom w))))
      opened w true = tries-opens l 3 (LookHeader l.dom) (Word w) refl
      opened w false = then-refused (LookHeader l.dom) (Word w) (denial_of N9 (facts.Header l.dom w)) refl (refl, refl)

      sound : (w : ℕ) (b : Bool) → Sound MapAnswer (cond b (tries l 3 refuse keep) (refuse (denial_of N9 (facts.Header l.dom w))))
      sound w true = tries-sound l 3
      sound w false = refuse-sound (denial_of N9 (facts.Header l.dom w))

  -- an owner's exchanges

  abbrev pub OkOrRefused : CallResult → Type 0
  OkOrRefused Granted = Unit {0}
  OkOrRefused (Refused denial) = Unit {0}
  OkOrRefused (Mapped p) = ⊥
  OkOrRefused (Given value) = ⊥

  granted : Sound OkOrRefused (ended Granted)
  granted = ended-sound OkOrRefused Granted tt

  refused : (denial : Denial) → Sound OkOrRefused (ended (Refused denial))
  refused denial = ended-sound OkOrRefused (Refused denial) tt

  exchange-taken : (gref : GrantRef) (looked : ℕ) (change : EntryChange) → Opens (Exchange gref looked change) Taken (ended Granted)
  exchange-taken gref looked change = first-is (Exchange gref looked change) Taken (ended Granted) (Done Granted) refl (tt, tt)

  once-sound : (gref : GrantRef) (looked : ℕ) (change : EntryChange) → Sound OkOrRefused (exchanges_once caller gref looked change)
  once-sound gref looked change =
      exchanges-sound OkOrRefused (Exchange gref looked change) looked (ended Granted) (refused_at caller gref N19) (exchange-taken gref looked change)
      (λ w. then-refused (Exchange gref looked change) (Missed w) (entry_refusal caller gref N19 w) refl (refl, refl, refl)) granted (λ w. refused (entry_refusal caller gref N19 w))

  turn-sound : (change : EntryChange) (gref : GrantRef) (missed : ℕ → Continuation) → ((w : ℕ) → Sound OkOrRefused (missed w)) → ((s : Step) (x : Observation) → IsIdle s x → (w : ℕ) → IsFoundAt caller s x caller gref w → Opens s x (missed w)) → Sound OkOrRefused (turn change caller gref missed)
  turn-sound change gref missed others opens =
      looks-sound OkOrRefused (LookControl caller gref)
      (λ word. cond (is_stopped change (control_of word)) (refused_at caller gref N19 word) (exchanges (Exchange gref word change) word (ended Granted) missed))
      (λ w. opened w (is_stopped change (control_of w))) (λ w. sound w (is_stopped change (control_of w)))
    where
      opened : (w : ℕ) (b : Bool) → Opens (LookControl caller gref) (Word w) (cond b (refused_at caller gref N19 w) (exchanges (Exchange gref w change) w (ended Granted) missed))
      opened w true = then-refused (LookControl caller gref) (Word w) (entry_refusal caller gref N19 w) refl (refl, refl, refl)
      opened w false = then-step (LookControl caller gref) (Word w) (exchanges (Exchange gref w change) w (ended Granted) missed) (Exchange gref w change) refl refl

      sound : (w : ℕ) (b : Bool) → Sound OkOrRefused (cond b (refused_at caller gref N19 w) (exchanges (Exchange gref w change) w (ended Granted) missed))
      sound w true = refused (entry_refusal caller gref N19 w)
      sound w false =
          exchanges-sound OkOrRefused (Exchange gref w change) w (ended Granted) missed (exchange-taken gref w change) (λ found. opens (Exchange gref w change) (Missed found) refl found (refl, refl, refl)) granted others

  turns-opens : (change : EntryChange) (gref : GrantRef) (more : ℕ) (s : Step) (x : Observation) → IsIdle s x → Opens s x (turns change caller gref more)
  unfolding turns
  turns-opens change gref zero s x idle = then-step s x (turns change caller gref zero) (LookControl caller gref) idle refl
  turns-opens change gref (suc more) s x idle = then-step s x (turns change caller gref (suc more)) (LookControl caller gref) idle refl

  turns-sound : (change : EntryChange) (gref : GrantRef) (more : ℕ) → Sound OkOrRefused (turns change caller gref more)
  unfolding turns
  turns-sound change gref zero =
      turn-sound change gref (refused_at caller gref N18) (λ w. refused (entry_refusal caller gref N18 w)) (λ s x idle w found. then-refused s x (entry_refusal caller gref N18 w) idle found)
  turns-sound change gref (suc more) =
      turn-sound change gref (λ found. turns change caller gref more) (λ w. turns-sound change gref more) (λ s x idle w found. turns-opens change gref more s x idle)

  store-sound : (k : CallerKnowledge) (gref : GrantRef) (entry : Entry) (body_word : BodyWord) (word : ℕ) → Sound OkOrRefused (makes (StoreBody gref body_word word) (publishes k caller gref entry))
  store-sound k gref entry body_word word =
      makes-sound OkOrRefused (StoreBody gref body_word word) (publishes k caller gref entry)
      (then-step (StoreBody gref body_word word) Nothing (publishes k caller gref entry) (Exchange gref (idle_word k gref) (Publish entry)) refl refl) (once-sound gref (idle_word k gref) (Publish entry))

  grants-sound : (k : CallerKnowledge) (gref : GrantRef) (entry : Entry) → Sound OkOrRefused (grant_path k caller gref entry)
  grants-sound k gref Invalid = store-sound k gref Invalid First (first_body Invalid)
  grants-sound k gref (Page dom ro frame) = store-sound k gref (Page dom ro frame) First (first_body (Page dom ro frame))
  grants-sound k gref (Via dom ro dom2 r) = store-sound k gref (Via dom ro dom2 r) First (first_body (Via dom ro dom2 r))
  grants-sound k gref (Sub dom ro frame off len) =
      let entry = Sub dom ro frame off len in
      makes-sound OkOrRefused (StoreBody gref First (first_body entry)) (stores_second k caller gref entry)
      (then-step (StoreBody gref First (first_body entry)) Nothing (stores_second k caller gref entry) (StoreBody gref Second (second_body entry)) refl refl) (store-sound k gref entry Second (second_body entry))

  -- calls of one step

  unmaps-sound : (k : CallerKnowledge) (o : Option HeldPin) (handle : Handle) → Sound OkOrRefused (by_mapping o (λ m. Unpin m (holders.Mapping handle)))
  unmaps-sound k None handle = refused (denial_of N6 facts.None)
  unmaps-sound k (Some m) handle =
      makes-sound OkOrRefused (Unpin m (holders.Mapping handle)) (ended Granted) (first-is (Unpin m (holders.Mapping handle)) Nothing (ended Granted) (Done Granted) refl (tt, tt)) granted

  -- the answers of each call

  module _ (k : CallerKnowledge) where
    steps-sound : (request : OpenRequest) → WaitsForNobody request → Sound (IsAnswerTo request) (steps_of k caller request)
    steps-sound (asks.Grant gref entry) w = let s = grants-sound k gref entry in record { ends = s.ends; answers = λ vs v e. ok v (s.answers vs v e) }
      where
        ok : (v : CallResult) → OkOrRefused v → IsAnswerTo (asks.Grant gref entry) v
        ok Granted h = tt
        ok (Refused d) h = tt
        ok (Mapped p) h = absurd h
        ok (Given x) h = absurd h
    steps-sound (asks.Revoke gref) w = let s = once-sound gref (idle_word k gref) changes.Revoke in record { ends = s.ends; answers = λ vs v e. ok v (s.answers vs v e) }
      where
        ok : (v : CallResult) → OkOrRefused v → IsAnswerTo (asks.Revoke gref) v
        ok Granted h = tt
        ok (Refused d) h = tt
        ok (Mapped p) h = absurd h
        ok (Given x) h = absurd h
    steps-sound (asks.Withdraw gref) w = let s = turns-sound changes.Withdraw gref 3 in record { ends = s.ends; answers = λ vs v e. ok v (s.answers vs v e) }
      where
        ok : (v : CallResult) → OkOrRefused v → IsAnswerTo (asks.Withdraw gref) v
        ok Granted h = tt
        ok (Refused d) h = tt
        ok (Mapped p) h = absurd h
        ok (Given x) h = absurd h
    steps-sound (asks.Demote gref) w = let s = turns-sound changes.Demote gref 3 in record { ends = s.ends; answers = λ vs v e. ok v (s.answers vs v e) }
      where
        ok : (v : CallResult) → OkOrRefused v → IsAnswerTo (asks.Demote gref) v
        ok Granted h = tt
        ok (Refused d) h = tt
        ok (Mapped p) h = absurd h
        ok (Given x) h = absurd h
    steps-sound (asks.Promote gref) w = let s = turns-sound changes.Promote gref 3 in record { ends = s.ends; answers = λ vs v e. ok v (s.answers vs v e) }
      where
        ok : (v : CallResult) → OkOrRefused v → IsAnswerTo (asks.Promote gref) v
        ok Granted h = tt
        ok (Refused d) h = tt
        ok (Mapped p) h = absurd h
        ok (Given x) h = absurd h
    steps-sound (asks.Unmap handle) w = let s = unmaps-sound k (k.mapping handle) handle in record { ends = s.ends; answers = λ vs v e. ok v (s.answers vs v e) }
      where
        ok : (v : CallResult) → OkOrRefused v → IsAnswerTo (asks.Unmap handle) v
        ok Granted h = tt
        ok (Refused d) h = tt
        ok (Mapped p) h = absurd h
        ok (Given x) h = absurd h
    steps-sound (asks.Release handle) w = let s = unmaps-sound k (k.mapping handle) handle in record { ends = s.ends; answers = λ vs v e. ok v (s.answers vs v e) }
      where
        ok : (v : CallResult) → OkOrRefused v → IsAnswerTo (asks.Release handle) v
        ok Granted h = tt
        ok (Refused d) h = tt
        ok (Mapped p) h = absurd h
        ok (Given x) h = absurd h
    steps-sound (asks.Map dom gref flags) w = let s = leg-sound (map_leg k caller dom gref flags) in record { ends = s.ends; answers = λ vs v e. ok v (s.answers vs v e) }
      where
        ok : (v : CallResult) → MapAnswer v → IsAnswerTo (asks.Map dom gref flags) v
        ok Granted h = absurd h
        ok (Refused d) h = tt
        ok (Mapped p) h = tt
        ok (Given x) h = absurd h
    steps-sound (asks.SetVersion version) w =
        let step = StoreHeader version k.header.frames in
        makes-sound (IsAnswerTo (asks.SetVersion version)) step (ended Granted) (first-is step Nothing (ended Granted) (Done Granted) refl (tt, tt)) (ended-sound (IsAnswerTo (asks.SetVersion version)) Granted tt)
    steps-sound (asks.SetupTable frames) w =
        let step = StoreHeader k.header.version frames in let answer = Given (Frames frames) in
        makes-sound (IsAnswerTo (asks.SetupTable frames)) step (ended answer) (first-is step Nothing (ended answer) (Done answer) refl (tt, tt)) (ended-sound (IsAnswerTo (asks.SetupTable frames)) answer tt)
    steps-sound (asks.QuerySize dom) w =
        let step = LookHeader (resolved caller dom) in
        looks-sound (IsAnswerTo (asks.QuerySize dom)) step (λ word. ended (header_value_of Size word)) (λ n. first-is step (Word n) (ended (header_value_of Size n)) (Done (header_value_of Size n)) refl (tt, tt)) (λ n. ended-sound (IsAnswerTo (asks.QuerySize dom)) (header_value_of Size n) tt)
    steps-sound (asks.GetVersion dom) w =
        let step = LookHeader (resolved caller dom) in
        looks-sound (IsAnswerTo (asks.GetVersion dom)) step (λ word. ended (header_value_of Version word)) (λ n. first-is step (Word n) (ended (header_value_of Version n)) (Done (header_value_of Version n)) refl (tt, tt)) (λ n. ended-sound (IsAnswerTo (asks.GetVersion dom)) (header_value_of Version n) tt)
    steps-sound (asks.Load handle off len) w = absurd w
    steps-sound (asks.Store handle off len) w = absurd w
    steps-sound (asks.Peek frame off len) w = absurd w
    steps-sound (asks.Poke frame off len) w = absurd w
    steps-sound (asks.Copy c) w = absurd w
    steps-sound (asks.Probe c) w = absurd w

    -- a call that was not answered at its beginning
    pub path-sound : (request : OpenRequest) → WaitsForNobody request → begun k caller request ≡ None → Sound (IsAnswerTo request) (path k caller request)
    path-sound request w none = subst (λ (o : Option CallResult). Sound (IsAnswerTo request) (after_beginning o (steps_of k caller request))) (sym none) (steps-sound request w)
