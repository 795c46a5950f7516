use Rattle.std.proofs.Common.{◌≡◌, ◌≢◌, ◌⊎◌, inl, inr, ◌<◌, ◌≤◌, ℕ, ◌+◌, List, [], ◌∷◌, ◌++◌, length, replicate}
use Rattle.std.proofs.Common.{Option, None, Some, refl, ap, sym, subst, ◌∙◌, arith, length-append}
use Rattle.std.proofs.lemmas.Grind.{replicate_next}
use Rattle.gt_types.specs.declared.DomId.{DomId}
use Rattle.gt_model.specs.History.{History, Setting}
use Rattle.gt_model.specs.Legal.{MayDo, grown, LegalAfter, history_after}
use Rattle.gt_core.specs.Standing.{CoreStands}
use Rattle.gt_core.specs.Acting.{begun_element, ticked_element}
use Rattle.gt_core.specs.States.{CoreState}
use Rattle.gt_model.specs.declared.request.Request.{Request}
use Rattle.gt_model.specs.declared.trace.Answer.{Answer}
use Rattle.gt_model.specs.declared.trace.Event.{Event}
use Rattle.gt_model.specs.declared.trace.Event.TheVariants.{Begin, Tick}
use Rattle.gt_model.specs.declared.trace.Element.{Element}
use Rattle.gt_model.specs.declared.trace.Element.TheVariants as elements
use Rattle.gt_model.specs.declared.trace.Item.{Item}
use Rattle.gt_model.specs.declared.trace.ItemEvent.TheVariants.{Began}
use Rattle.gt_types.specs.Names.{domain_of}
use Rattle.gt_model.specs.declared.action.Observation.{Observation}
use Rattle.gt_model.specs.declared.action.Step.{Step}
use Rattle.gt_core.specs.declared.core_state.Begun.{Begun}
use Rattle.gt_core.specs.declared.core_state.Begun.TheVariants as beginnings
use Rattle.gt_core.specs.declared.core_state.Ticked.{Ticked}
use Rattle.gt_core.specs.declared.core_state.Ticked.TheVariants as ticked
use Rattle.gt_script_runs.specs.Runs.{answer_in, AnswerNothing, EndsWith, EndsAsCall}
use Rattle.gt_host.specs.Ticking.{HasHappened, HasCalled, TicksTo}

-- histories

pub history_after-append : (h : History) (xs ys : List Element) → history_after h (xs ++ ys) ≡ history_after (history_after h xs) ys
history_after-append h [] ys = refl
history_after-append h (x ∷ xs) ys = history_after-append (grown h x) xs ys

pub LegalAfter-append : (s : Setting) (h : History) (es : List Event) (xs : List Element) (more : List Event) (ys : List Element)
    → LegalAfter s h es xs → LegalAfter s (history_after h xs) more ys → LegalAfter s h (es ++ more) (xs ++ ys)
LegalAfter-append s h [] [] more ys p q = q
LegalAfter-append s h (e ∷ es) (x ∷ xs) more ys p q = (p.0, LegalAfter-append s (grown h x) es xs more ys p.1 q)
LegalAfter-append s h [] (x ∷ xs) more ys p q = absurd p
LegalAfter-append s h (e ∷ es) [] more ys p q = absurd p

-- events, and then others
pub Happens-append : (s : Setting) (h : History) (es : List Event) (xs : List Element) (more : List Event) (ys : List Element) (mid new : CoreState)
    → HasHappened s h es xs mid → HasHappened s (history_after h xs) more ys new → HasHappened s h (es ++ more) (xs ++ ys) new
Happens-append s h es xs more ys mid new p q = record {
  legal = LegalAfter-append s h es xs more ys p.legal q.legal;
  stands = subst (λ (after : History). CoreStands s after new) (sym (history_after-append h xs ys)) q.stands;
}

-- one event
pub happens_one : (s : Setting) (h : History) (e : Event) (x : Element) (new : CoreState) → MayDo s h e x × CoreStands s (grown h x) new → HasHappened s h (e ∷ []) (x ∷ []) new
happens_one s h e x new p = record { legal = (p.0, tt); stands = p.1 }

-- elements that answer nothing, and one more
pub AnswerNothing-append : (trace : List Element) (e : Element) → AnswerNothing trace → answer_in e ≡ None → AnswerNothing (trace ++ e ∷ [])
AnswerNothing-append [] e quiet none = (none, tt)
AnswerNothing-append (x ∷ trace) e quiet none = (quiet.0, AnswerNothing-append trace e quiet.1 none)

-- a tick that answers nothing
quiet_tick : (dom : DomId) (t : Ticked) → ((a : _) (b : _) (c : _) → t ≡ ticked.Done a b c → ⊥) → answer_in (ticked_element dom t) ≡ None
quiet_tick dom (ticked.Step step seen) other = refl
quiet_tick dom (ticked.Done step seen answer) other = absurd (other step seen answer refl)
quiet_tick dom ticked.Idle other = refl
quiet_tick dom ticked.NoDomain other = refl

-- so many ticks of an open call were made, and none answered
pub record IsTicking (s : Setting) (h : History) (dom : DomId) (count : ℕ) (domains : CoreState) : Type 0 where
  pub trace : List Element
  pub quiet : AnswerNothing trace
  pub length_of : length trace ≡ count
  pub happens : HasHappened s h (replicate count (Tick dom)) trace domains

pub no_tick : (s : Setting) (h : History) (dom : DomId) (domains : CoreState) → CoreStands s h domains → IsTicking s h dom 0 domains
no_tick s h dom domains stands = record { trace = []; quiet = tt; length_of = refl; happens = record { legal = tt; stands = stands } }

-- a tick more
ticked_more : (s : Setting) (h : History) (dom : DomId) (count : ℕ) (mid new : CoreState) (x : Element) → (u : IsTicking s h dom count mid)
    → MayDo s (history_after h u.trace) (Tick dom) x × CoreStands s (grown (history_after h u.trace) x) new → HasHappened s h (replicate (count + 1) (Tick dom)) (u.trace ++ x ∷ []) new
ticked_more s h dom count mid new x u told =
    subst (λ (events : List Event). HasHappened s h events (u.trace ++ x ∷ []) new) (sym (replicate_next count (Tick dom)))
    (Happens-append s h (replicate count (Tick dom)) u.trace (Tick dom ∷ []) (x ∷ []) mid new u.happens (happens_one s (history_after h u.trace) (Tick dom) x new told))

one_more : (count : ℕ) (trace : List Element) (x : Element) → length trace ≡ count → length (trace ++ x ∷ []) ≡ count + 1
one_more count trace x e = length-append trace (x ∷ []) ∙ ap (λ (n : ℕ). n + 1) e

pub tick_more : (s t : Setting) (h : History) (dom : DomId) (count : ℕ) (mid new : CoreState) (said : Ticked) → t ≡ s → ((a : _) (b : _) (c : _) → said ≡ ticked.Done a b c → ⊥)
    → ((g : History) → CoreStands t g mid → MayDo t g (Tick dom) (ticked_element dom said) × CoreStands t (grown g (ticked_element dom said)) new)
    → IsTicking s h dom count mid → IsTicking s h dom (count + 1) new
tick_more s t h dom count mid new said same other told u =
    let known = subst (λ (q : Setting). (g : History) → CoreStands q g mid → MayDo q g (Tick dom) (ticked_element dom said) × CoreStands q (grown g (ticked_element dom said)) new) same told in
    record {
      trace = u.trace ++ ticked_element dom said ∷ [];
      quiet = AnswerNothing-append u.trace (ticked_element dom said) u.quiet (quiet_tick dom said other);
      length_of = one_more count u.trace (ticked_element dom said) u.length_of;
      happens = ticked_more s h dom count mid new (ticked_element dom said) u (known (history_after h u.trace) u.happens.stands);
    }

-- the tick that answers
pub tick_last : (s t : Setting) (h : History) (dom : DomId) (most count : ℕ) (mid new : CoreState) (said : Ticked) (step : Step) (seen : Observation) (answer : Answer) → t ≡ s → count < most → said ≡ ticked.Done step seen answer
    → ((g : History) → CoreStands t g mid → MayDo t g (Tick dom) (ticked_element dom said) × CoreStands t (grown g (ticked_element dom said)) new)
    → IsTicking s h dom count mid → TicksTo s h dom most new (Some answer)
tick_last s t h dom most count mid new said step seen answer same few is told u =
    let known = subst (λ (q : Setting). (g : History) → CoreStands q g mid → MayDo q g (Tick dom) (ticked_element dom said) × CoreStands q (grown g (ticked_element dom said)) new) same told in
    let long : length (u.trace ++ ticked_element dom said ∷ []) ≡ count + 1 = one_more count u.trace (ticked_element dom said) u.length_of in
    record {
      ticks = count + 1;
      trace = u.trace ++ ticked_element dom said ∷ [];
      length_of = long;
      comes = (
        record { before = u.trace; last = ticked_element dom said; order = refl; quiet = u.quiet; answers = ap (λ (q : Ticked). answer_in (ticked_element dom q)) is },
        subst (λ (n : ℕ). n ≤ most) (sym long) (omega arith),
      );
      happens = ticked_more s h dom count mid new (ticked_element dom said) u (known (history_after h u.trace) u.happens.stands);
    }

-- no tick answered
pub tick_none : (s : Setting) (h : History) (dom : DomId) (most count : ℕ) (new : CoreState) → count ≡ most → IsTicking s h dom count new → TicksTo s h dom most new None
tick_none s h dom most count new all u = record {
  ticks = count;
  trace = u.trace;
  length_of = u.length_of;
  comes = (u.quiet, u.length_of ∙ all);
  happens = u.happens;
}

-- calls

-- a call that is answered at once
pub call_done : (s : Setting) (h : History) (dom : DomId) (request : Request) (said : Begun) (answer : Answer) (new : CoreState) → said ≡ beginnings.Done answer
    → MayDo s h (Begin dom request) (begun_element dom request said) × CoreStands s (grown h (begun_element dom request said)) new → HasCalled s h dom request new (Some answer)
call_done s h dom request said answer new is told = record {
  ticks = 0;
  trace = begun_element dom request said ∷ [];
  length_of = refl;
  comes = (
    record { actor = dom; happened = Began request; answer = Some answer },
    [],
    ap (λ (q : Begun). begun_element dom request q ∷ []) is,
    record { before = []; last = begun_element dom request said; order = refl; quiet = tt; answers = ap (λ (q : Begun). answer_in (begun_element dom request q)) is },
  );
  happens = happens_one s h (Begin dom request) (begun_element dom request said) new told;
}

-- a call that does not begin
pub call_busy : (s : Setting) (h : History) (dom : DomId) (request : Request) (said : Begun) (new : CoreState) → said ≡ beginnings.Busy
    → MayDo s h (Begin dom request) (begun_element dom request said) × CoreStands s (grown h (begun_element dom request said)) new → HasCalled s h dom request new None
call_busy s h dom request said new is told = record {
  ticks = 0;
  trace = begun_element dom request said ∷ [];
  length_of = refl;
  comes = ap (λ (q : Begun). begun_element dom request q ∷ []) is;
  happens = happens_one s h (Begin dom request) (begun_element dom request said) new told;
}

comes_after : (i : Item) (trace : List Element) (answer : Answer) → i.answer ≡ None → EndsWith trace answer → EndsAsCall (elements.Item i ∷ trace) (Some answer)
comes_after i trace answer none ends = (
  i,
  trace,
  refl,
  record {
    before = elements.Item i ∷ ends.before;
    last = ends.last;
    order = ap (λ (xs : List Element). elements.Item i ∷ xs) ends.order;
    quiet = (none, ends.quiet);
    answers = ends.answers;
  },
)

-- a call that began, and then its ticks
call_with_ticks : (s : Setting) (h : History) (dom : DomId) (most : ℕ) (request : Request) (i : Item) (mid new : CoreState) (answer : Answer) → i.answer ≡ None
    → MayDo s h (Begin dom request) (elements.Item i) × CoreStands s (i ∷ h) mid → TicksTo s (i ∷ h) dom most new (Some answer) → HasCalled s h dom request new (Some answer)
call_with_ticks s h dom most request i mid new answer none told t = record {
  ticks = t.ticks;
  trace = elements.Item i ∷ t.trace;
  length_of = let long = t.length_of in omega arith;
  comes = comes_after i t.trace answer none t.comes.0;
  happens = Happens-append s h (Begin dom request ∷ []) (elements.Item i ∷ []) (replicate t.ticks (Tick dom)) t.trace mid new (happens_one s h (Begin dom request) (elements.Item i) mid told) t.happens;
}

pub call_ticked : (s t : Setting) (h : History) (dom : DomId) (most : ℕ) (request : Request) (began : Begun) (mid new : CoreState) (answer : Answer) (said : Option Answer) → t ≡ s → domain_of s.domains dom ≢ None → (began ≡ beginnings.Open) ⊎ (began ≡ beginnings.NoDomain)
    → MayDo s h (Begin dom request) (begun_element dom request began) × CoreStands s (grown h (begun_element dom request began)) mid → ((g : History) → CoreStands t g mid → TicksTo t g dom most new said) → said ≡ Some answer → HasCalled s h dom request new (Some answer)
call_ticked s t h dom most request began mid new answer said same configured (inl open_now) told ticks is =
    let known = subst (λ (q : Setting). (g : History) → CoreStands q g mid → TicksTo q g dom most new said) same ticks in
    let told_so = subst (λ (b : Begun). MayDo s h (Begin dom request) (begun_element dom request b) × CoreStands s (grown h (begun_element dom request b)) mid) open_now told in
    call_with_ticks s h dom most request (record { actor = dom; happened = Began request; answer = None }) mid new answer refl told_so
    (subst (λ (o : Option Answer). TicksTo s (record { actor = dom; happened = Began request; answer = None } ∷ h) dom most new o) is (known _ told_so.1))
call_ticked s t h dom most request began mid new answer said same configured (inr nowhere) told ticks is =
    absurd (configured (subst (λ (b : Begun). MayDo s h (Begin dom request) (begun_element dom request b)) nowhere told.0))
