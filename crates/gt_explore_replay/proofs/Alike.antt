-- Two runs that are the same but for keys: names, handles that are held, and what is open.
use Rattle.std.proofs.Common.{◌≡◌, ◌≢◌, ◌⊎◌, ℕ, zero, suc, Bool, true, false, cond, List, [], ◌∷◌, ◌++◌, map, take}
use Rattle.std.proofs.Common.{drop, Option, Some, None, refl, ap, sym, ◌∙◌, subst, inl, inr}
use Rattle.std.proofs.lemmas.Bool.{eq-eqb, ne_eqb}
use Rattle.std.proofs.lemmas.List.{map-append, take-map, drop-map}
use Rattle.std.proofs.lemmas.Option.{none-some, same_Some, slice_get-map}
use Rattle.std.specs.Option.{option_map}
use Rattle.std.specs.Prelude.{◌==◌, not, filter, slice_get}
use Rattle.gt_types.specs.declared.DomId.{DomId}
use Rattle.gt_model.specs.declared.handle.Handle.{Handle}
use Rattle.gt_model.specs.Asking.{asked}
use Rattle.gt_model.specs.declared.request.Request.{Request}
use Rattle.gt_core.specs.Alike.{bare_handle, bare_request, keyless_answer, AreAlike, AsksKnown, IsGiven, SameElement}
use Rattle.gt_model.specs.History.{History, Setting, Underway, open_call, underway_after, underway_with}
use Rattle.gt_model.specs.Legal.{MayDo, grown}
use Rattle.gt_model.specs.declared.trace.Answer.{Answer}
use Rattle.gt_model.specs.declared.trace.Answer.TheVariants as answers
use Rattle.gt_model.specs.declared.trace.Element.{Element}
use Rattle.gt_model.specs.declared.trace.Element.TheVariants as elements
use Rattle.gt_model.specs.declared.trace.Event.TheVariants.{Begin, Tick}
use Rattle.gt_model.specs.declared.trace.ItemEvent.{ItemEvent}
use Rattle.gt_model.specs.declared.trace.ItemEvent.TheVariants.{Began, Stepped}
use Rattle.gt_model.specs.declared.trace.Item.{Item}
use Rattle.gt_core.proofs.AlikeRuns.{does-alike, alike-grows}
use Rattle.gt_script_lines.specs.declared.calls.ScriptCall.{ScriptCall}
use Rattle.gt_script.specs.declared.actions.ScriptAction.TheVariants as script_actions
use Rattle.gt_script_runs.specs.Runs.{Named, MakesRequest, answer_in, handle_given, label_given, with_name}
use Rattle.gt_script_runs.proofs.AlikeLemmas.{bare_names, NamesGiven, AnswerGiven, asks-same, asks-known, named-same}
use Rattle.gt_script_runs.proofs.AlikeLemmas.{named-given, names-after, answers-same, done-given}
use Rattle.gt_types.specs.Names.{domain_of}
use Rattle.gt_explore_replay.specs.Orders.{held_after, handles_without}
use Rattle.gt_explore_replay.specs.Abreast.{bare_name, SameNames, SameHandles, HaveAnswered, WereAnswered}

-- names

names_bare : (names : List Named) → bare_names names ≡ map bare_name names
names_bare [] = refl
names_bare (n ∷ more) = ap (λ (l : List Named). bare_name n ∷ l) (names_bare more)

names_same : (one other : List Named) → SameNames one other → bare_names one ≡ bare_names other
names_same one other same = names_bare one ∙ same ∙ sym (names_bare other)

names_given : (h : History) (names : List Named) → HaveAnswered h names → NamesGiven h names
names_given h [] g = tt
names_given h (n ∷ more) g = (g.0, names_given h more g.1)

names_answered : (h : History) (names : List Named) → NamesGiven h names → HaveAnswered h names
names_answered h [] g = tt
names_answered h (n ∷ more) g = (g.0, names_answered h more g.1)

pub asks_alike : (one other : List Named) (dom : DomId) (call : ScriptCall) (q r : Request) → SameNames one other → MakesRequest one dom call q → MakesRequest other dom call r → bare_request q ≡ bare_request r
asks_alike one other dom call q r same x y = asks-same one other dom call q r (names_same one other same) x y

pub asks_answered : (h : History) (names : List Named) (dom : DomId) (call : ScriptCall) (q : Request) → HaveAnswered h names → MakesRequest names dom call q → AsksKnown h dom.0 (asked q)
asks_answered h names dom call q g x = asks-known h names dom call q (names_given h names g) x

pub names_alike : (one other : List Named) (dom : DomId) (call : ScriptCall) (a b : Answer) → SameNames one other → keyless_answer a ≡ keyless_answer b
    → SameNames (with_name one dom (label_given call) (handle_given a)) (with_name other dom (label_given call) (handle_given b))
names_alike one other dom call a b same told =
    sym (names_bare (with_name one dom (label_given call) (handle_given a)))
    ∙ named-same one other dom (record { line = 0; dom = dom; action = script_actions.Do call }) a b (names_same one other same) told
    ∙ names_bare (with_name other dom (label_given call) (handle_given b))

pub names_more : (h : History) (names : List Named) (dom : DomId) (call : ScriptCall) (a : Answer) → HaveAnswered h names → AnswerGiven h dom.0 a → HaveAnswered h (with_name names dom (label_given call) (handle_given a))
names_more h names dom call a g given =
    names_answered h (with_name names dom (label_given call) (handle_given a))
    (named-given h names dom (record { line = 0; dom = dom; action = script_actions.Do call }) a (names_given h names g) given)

pub names_grown : (h : History) (x : Element) (names : List Named) → HaveAnswered h names → HaveAnswered (grown h x) names
names_grown h x names g = names_answered (grown h x) names (names-after h (x ∷ []) names (names_given h names g))

-- handles that are held

without_bare : (handle : Handle) (held : List Handle) → map bare_handle (handles_without handle held) ≡ handles_without (bare_handle handle) (map bare_handle held)
without_bare handle [] = refl
without_bare handle (x ∷ xs) = by (not (x.serial == handle.serial)) (without_bare handle xs)
  where
    by : (b : Bool) → map bare_handle (handles_without handle xs) ≡ handles_without (bare_handle handle) (map bare_handle xs)
        → map bare_handle (cond b (x ∷ handles_without handle xs) (handles_without handle xs)) ≡ cond b (bare_handle x ∷ handles_without (bare_handle handle) (map bare_handle xs)) (handles_without (bare_handle handle) (map bare_handle xs))
    by true rest = ap (λ (l : List Handle). bare_handle x ∷ l) rest
    by false rest = rest

abbrev held_told : List Handle → Option Handle → Answer ⊎ List ℕ → List Handle
held_told held lost (inl answer) = held_after held lost answer
held_told held lost (inr bytes) = held

held_bare : (held : List Handle) (lost : Option Handle) (a : Answer) → map bare_handle (held_after held lost a) ≡ held_told (map bare_handle held) (option_map bare_handle lost) (keyless_answer a)
held_bare held (Some x) answers.Done = without_bare x held
held_bare held (Some x) (answers.Mapped y) = map-append bare_handle held (y ∷ [])
held_bare held (Some x) a = refl
held_bare held None (answers.Mapped y) = map-append bare_handle held (y ∷ [])
held_bare held None a = refl

pub held_alike : (one other : List Handle) (lost freed : Option Handle) (a b : Answer) → SameHandles one other → option_map bare_handle lost ≡ option_map bare_handle freed → keyless_answer a ≡ keyless_answer b
    → SameHandles (held_after one lost a) (held_after other freed b)
held_alike one other lost freed a b same loses told =
    held_bare one lost a
    ∙ ap (λ (l : List Handle). held_told l (option_map bare_handle lost) (keyless_answer a)) same
    ∙ ap (λ (o : Option Handle). held_told (map bare_handle other) o (keyless_answer a)) loses
    ∙ ap (λ (t : Answer ⊎ List ℕ). held_told (map bare_handle other) (option_map bare_handle freed) t) told
    ∙ sym (held_bare other freed b)

pub left_alike : (one other : List Handle) (choice : ℕ) → SameHandles one other → SameHandles (take choice one ++ drop (suc choice) one) (take choice other ++ drop (suc choice) other)
left_alike one other choice same =
    left_bare one ∙ ap (λ (l : List Handle). take choice l ++ drop (suc choice) l) same ∙ sym (left_bare other)
  where
    left_bare : (held : List Handle) → map bare_handle (take choice held ++ drop (suc choice) held) ≡ take choice (map bare_handle held) ++ drop (suc choice) (map bare_handle held)
    left_bare held =
        map-append bare_handle (take choice held) (drop (suc choice) held)
        ∙ ap (λ (l : List Handle). l ++ map bare_handle (drop (suc choice) held)) (sym (take-map bare_handle choice held))
        ∙ ap (λ (l : List Handle). take choice (map bare_handle held) ++ l) (sym (drop-map bare_handle (suc choice) held))

mapped_from : (o : Option Handle) (y : Handle) → option_map bare_handle o ≡ Some y → (x : Handle) × (o ≡ Some x) × (bare_handle x ≡ y)
mapped_from None y e = absurd (none-some y e)
mapped_from (Some x) y e = (x, refl, same_Some (bare_handle x) y e)

-- at a place where one list has a handle, the other one has it but for the key
pub held_at : (one other : List Handle) (choice : ℕ) (handle : Handle) → SameHandles one other → slice_get one choice ≡ Some handle
    → (x : Handle) × (slice_get other choice ≡ Some x) × (bare_handle x ≡ bare_handle handle)
held_at one other choice handle same at =
    mapped_from (slice_get other choice) (bare_handle handle)
    (sym (slice_get-map bare_handle other choice) ∙ ap (λ (l : List Handle). slice_get l choice) (sym same) ∙ slice_get-map bare_handle one choice ∙ ap (option_map bare_handle) at)

-- handles that were answered

given_grown : (h : History) (x : Element) (d : ℕ) (handle : Handle) → IsGiven h d handle → IsGiven (grown h x) d handle
unfolding IsGiven
given_grown h (elements.Item i) d handle g = inr g
given_grown h elements.Busy d handle g = g
given_grown h elements.Idle d handle g = g
given_grown h elements.NoDomain d handle g = g

pub held_grown : (h : History) (x : Element) (d : ℕ) (held : List Handle) → WereAnswered h d held → WereAnswered (grown h x) d held
held_grown h x d [] g = tt
held_grown h x d (handle ∷ more) g = (given_grown h x d handle g.0, held_grown h x d more g.1)

held_filter : (h : History) (d : ℕ) (p : Handle → Bool) (held : List Handle) → WereAnswered h d held → WereAnswered h d (filter p held)
held_filter h d p [] g = tt
held_filter h d p (handle ∷ more) g = by (p handle) (held_filter h d p more g.1)
  where
    by : (b : Bool) → WereAnswered h d (filter p more) → WereAnswered h d (cond b (handle ∷ filter p more) (filter p more))
    by true rest = (g.0, rest)
    by false rest = rest

held_more : (h : History) (d : ℕ) (held : List Handle) (handle : Handle) → WereAnswered h d held → IsGiven h d handle → WereAnswered h d (held ++ handle ∷ [])
held_more h d [] handle g here = (here, tt)
held_more h d (x ∷ xs) handle g here = (g.0, held_more h d xs handle g.1 here)

pub held_answered : (h : History) (d : ℕ) (held : List Handle) (lost : Option Handle) (a : Answer) → WereAnswered h d held → AnswerGiven h d a → WereAnswered h d (held_after held lost a)
held_answered h d held (Some x) answers.Done g given = held_filter h d (λ (y : Handle). not (y.serial == x.serial)) held g
held_answered h d held (Some x) (answers.Mapped y) g given = held_more h d held y g (given y refl)
held_answered h d held (Some x) a g given = g
held_answered h d held None (answers.Mapped y) g given = held_more h d held y g (given y refl)
held_answered h d held None a g given = g

held_both : (h : History) (d : ℕ) (one other : List Handle) → WereAnswered h d one → WereAnswered h d other → WereAnswered h d (one ++ other)
held_both h d [] other f g = g
held_both h d (x ∷ xs) other f g = (f.0, held_both h d xs other f.1 g)

pub held_left : (h : History) (d : ℕ) (choice : ℕ) (held : List Handle) → WereAnswered h d held → WereAnswered h d (take choice held ++ drop (suc choice) held)
held_left h d zero [] g = tt
held_left h d zero (x ∷ xs) g = g.1
held_left h d (suc n) [] g = tt
held_left h d (suc n) (x ∷ xs) g = (g.0, held_left h d n xs g.1)

pub held_here : (h : History) (d : ℕ) (choice : ℕ) (held : List Handle) (handle : Handle) → slice_get held choice ≡ Some handle → WereAnswered h d held → IsGiven h d handle
held_here h d choice [] handle at g = absurd (none-some handle at)
held_here h d zero (x ∷ xs) handle at g = subst (λ (y : Handle). IsGiven h d y) (same_Some x handle at) g.0
held_here h d (suc n) (x ∷ xs) handle at g = held_here h d n xs handle at g.1

-- calls that are open

after_none : (actor : DomId) (x : ItemEvent) (a : Option Answer) (c : Option Underway) → a ≡ None → underway_after (record { actor = actor; happened = x; answer = a }) c ≡ underway_with x c
after_none actor x None c e = refl
after_none actor x (Some a) c e = absurd (none-some a (sym e))

after_some : (actor : DomId) (x : ItemEvent) (a : Option Answer) (b : Answer) (c : Option Underway) → a ≡ Some b → underway_after (record { actor = actor; happened = x; answer = a }) c ≡ None
after_some actor x None b c e = absurd (none-some b e)
after_some actor x (Some a) b c e = refl

own_call : (h : History) (i : Item) (d : ℕ) → i.actor.0 ≡ d → open_call (i ∷ h) d ≡ underway_after i (open_call h d)
unfolding open_call
own_call h i d own = ap (λ (b : Bool). cond b (underway_after i (open_call h d)) (open_call h d)) (eq-eqb i.actor.0 d own)

other_call : (h : History) (i : Item) (d : ℕ) → i.actor.0 ≢ d → open_call (i ∷ h) d ≡ open_call h d
unfolding open_call
other_call h i d other = ap (λ (b : Bool). cond b (underway_after i (open_call h d)) (open_call h d)) (ne_eqb i.actor.0 d other)

some_none : {A : Type 0} (x : A) (o : Option A) → o ≡ Some x → o ≢ None
some_none x o is = λ none. none-some x (sym none ∙ is)

with_some : (x : ItemEvent) (c : Option Underway) → c ≢ None → underway_with x c ≢ None
with_some (Began q) c some = λ e. none-some _ (sym e)
with_some (Stepped step seen) None some = absurd (some refl)
with_some (Stepped step seen) (Some c) some = λ e. none-some _ (sym e)

began_some : (x : ItemEvent) (q : Request) (c : Option Underway) → x ≡ Began q → underway_with x c ≢ None
began_some (Began r) q c e = λ f. none-some _ (sym f)
began_some (Stepped step seen) q c e = absurd (cc)

-- one event

-- an event did the same on both sides, but for keys: the call is open after it, or has its answer
pub record DoAlike (s : Setting) (g h : History) (d : ℕ) (x y : Element) : Type 0 where
  pub alike : AreAlike s (grown g x) (grown h y)
  pub told : option_map keyless_answer (answer_in x) ≡ option_map keyless_answer (answer_in y)
  pub goes : answer_in x ≡ None → open_call (grown g x) d ≢ None
  pub over : (a : Answer) → answer_in x ≡ Some a → open_call (grown g x) d ≡ None
  pub mine : (a : Answer) → answer_in x ≡ Some a → AnswerGiven (grown g x) d a
  pub theirs : (a : Answer) → answer_in y ≡ Some a → AnswerGiven (grown h y) d a
  pub item : Item
  pub done : y ≡ elements.Item item
  pub others : (e : ℕ) → e ≢ d → open_call (grown g x) e ≡ open_call g e

did_both : (i : Item) (y : Element) → SameElement (elements.Item i) y → (j : Item) × (y ≡ elements.Item j)
did_both i (elements.Item j) same = (j, refl)
did_both i elements.Busy same = absurd (cc)
did_both i elements.Idle same = absurd (cc)
did_both i elements.NoDomain same = absurd (cc)

pub begins_alike : (s : Setting) (g h : History) (d : DomId) (q r : Request) (x y : Element) → AreAlike s g h → bare_request q ≡ bare_request r → AsksKnown g d.0 (asked q) → AsksKnown h d.0 (asked r)
    → domain_of s.domains d ≢ None → open_call g d.0 ≡ None → MayDo s g (Begin d q) x → MayDo s h (Begin d r) y → DoAlike s g h d.0 x y
begins_alike s g h d q r elements.NoDomain y alike same known knows there idle m n = absurd (there m)
begins_alike s g h d q r elements.Busy y alike same known knows there idle m n = absurd (m.1 idle)
begins_alike s g h d q r elements.Idle y alike same known knows there idle m n = absurd m
begins_alike s g h d q r (elements.Item i) y alike same known knows there idle m n =
    let one = does-alike s g h (Begin d q) (Begin d r) (elements.Item i) y alike (ap (λ (z : Request). Begin d z) same) known knows m n in
    let both = did_both i y one in
    let own : i.actor.0 ≡ d.0 = ap (λ (z : DomId). z.0) m.1.0 in
    record {
      alike = alike-grows s g h (Begin d q) (Begin d r) (elements.Item i) y alike known knows m n one;
      told = answers-same (elements.Item i) y one;
      goes = λ none. λ over. began_some i.happened q (open_call g d.0) m.1.1 (sym (after_none i.actor i.happened i.answer (open_call g d.0) none) ∙ sym (own_call g i d.0 own) ∙ over);
      over = λ a is. own_call g i d.0 own ∙ after_some i.actor i.happened i.answer a (open_call g d.0) is;
      mine = λ a is. done-given s g d (Begin d q) (elements.Item i) a m refl is;
      theirs = λ a is. done-given s h d (Begin d r) y a n refl is;
      item = both.0;
      done = both.1;
      others = λ e other. other_call g i e (λ f. other (sym f ∙ own));
    }

pub ticks_alike : (s : Setting) (g h : History) (d : DomId) (x y : Element) → AreAlike s g h → domain_of s.domains d ≢ None → open_call g d.0 ≢ None → MayDo s g (Tick d) x → MayDo s h (Tick d) y → DoAlike s g h d.0 x y
ticks_alike s g h d elements.NoDomain y alike there busy m n = absurd (there m)
ticks_alike s g h d elements.Busy y alike there busy m n = absurd m
ticks_alike s g h d elements.Idle y alike there busy m n = absurd (busy m.1)
ticks_alike s g h d (elements.Item i) y alike there busy m n =
    let one = does-alike s g h (Tick d) (Tick d) (elements.Item i) y alike refl tt tt m n in
    let both = did_both i y one in
    let own : i.actor.0 ≡ d.0 = ap (λ (z : DomId). z.0) m.1.0 in
    record {
      alike = alike-grows s g h (Tick d) (Tick d) (elements.Item i) y alike tt tt m n one;
      told = answers-same (elements.Item i) y one;
      goes = λ none. λ over. with_some i.happened (open_call g d.0) busy (sym (after_none i.actor i.happened i.answer (open_call g d.0) none) ∙ sym (own_call g i d.0 own) ∙ over);
      over = λ a is. own_call g i d.0 own ∙ after_some i.actor i.happened i.answer a (open_call g d.0) is;
      mine = λ a is. done-given s g d (Tick d) (elements.Item i) a m refl is;
      theirs = λ a is. done-given s h d (Tick d) y a n refl is;
      item = both.0;
      done = both.1;
      others = λ e other. other_call g i e (λ f. other (sym f ∙ own));
    }
