-- One more event, and what the core represents after each event.
use Rattle.gt_core.proofs.Words.{◌≡◌, ◌<◌, ◌+◌, ℕ, refl, length, get_or, take, List, [], ◌∷◌, ◌++◌, sym, ap, ◌∙◌, subst}
use Rattle.gt_core.proofs.Words.{take_more, Event, Element, Result, OnErr, DomId, TypeId, Perms, Config, Request}
use Rattle.gt_core.proofs.Words.{frame_counts, FrameSet, all_zeros, AreKept, Begin, Tick, Begun, State, DomainsStand}
use Rattle.gt_core.proofs.Words.{CoreStands, DoesEvent, setting_of, begun_element, ticked_element, History, Setting}
use Rattle.gt_core.proofs.Words.{LegalAfter, MayDo, grown, history_after, IfOk, Ok, Err, Ticked, CoreState}
use Rattle.gt_core.proofs.Words.{StandsForSome, DomainsDo, Memory, Bool, zeros, stands, IsLegalHistory}
use Rattle.gt_model.specs.declared.trace.Element.TheVariants as elements
use Rattle.gt_core.proofs.{Steps.Write.frames-begun, Steps.Write.frames-start}
use Rattle.gt_core.specs.States.{core_of}

-- one more event
pub legal-more : (s : Setting) (h : History) (es : List Event) (xs : List Element) (e : Event) (x : Element) → LegalAfter s h es xs → MayDo s (history_after h xs) e x
    → LegalAfter s h (es ++ e ∷ []) (xs ++ x ∷ [])
legal-more s h [] [] e x a m = (m, tt)
legal-more s h (f ∷ es) (y ∷ xs) e x a m = (a.0, legal-more s (grown h y) es xs e x a.1 m)
legal-more s h es xs e x a m = absurd a

pub history-more : (h : History) (xs : List Element) (x : Element) → history_after h (xs ++ x ∷ []) ≡ grown (history_after h xs) x
history-more h [] x = refl
history-more h (y ∷ xs) x = history-more (grown h y) xs x

pub record PlaysOn (s : Setting) (es : List Event) (i : ℕ) (trace : List Element) (core : CoreState) : Type 0 where
  pub legal : LegalAfter s [] (take i es) trace
  pub stands : CoreStands s (history_after [] trace) core

-- an iteration of the loop
pub plays-on : (s s' : Setting) (es : List Event) (i : ℕ) (e : Event) (trace trace' : List Element) (old new : CoreState) (x : Element)
    → PlaysOn s es i trace old → i < length es → e ≡ get_or es i e → trace' ≡ trace ++ x ∷ [] → s' ≡ s
    → DoesEvent s' old e x new → PlaysOn s es (i + 1) trace' new
plays-on s s' es i e trace trace' old new x was within at pushed same turn =
    let t = subst (λ (z : Setting). DoesEvent z old e x new) same turn (history_after [] trace) was.stands in
    let front : take (i + 1) es ≡ take i es ++ e ∷ [] = take_more es i e within ∙ ap (λ (y : Event). take i es ++ y ∷ []) (sym at) in
    record {
      legal = subst (λ (fs : List Event). LegalAfter s [] fs trace') (sym front)
          (subst (λ (xs : List Element). LegalAfter s [] (take i es ++ e ∷ []) xs) (sym pushed) (legal-more s [] (take i es) trace e x was.legal t.0));
      stands = subst (λ (h : History). CoreStands s h new) (sym (ap (history_after []) pushed ∙ history-more [] trace x)) t.1;
    }

-- a legal history grows by what an event may do
pub legal-grows : (s : Setting) (h : History) (e : Event) (x : Element) → MayDo s h e x → IsLegalHistory s h → IsLegalHistory s (grown h x)
unfolding IsLegalHistory
legal-grows s h (Begin d request) (elements.Item i) m legal = (m.2, legal)
legal-grows s h (Tick d) (elements.Item i) m legal = (m.2, legal)
legal-grows s h e x m legal = legal

-- a new core represents the empty history
pub core-starts : (config : Config) (may : TypeId → TypeId → Perms → Bool) (xs : List State) (fs : FrameSet) → DomainsStand (setting_of config may) [] xs → fs ≡ all_zeros (frame_counts config.domains.items) → AreKept fs
    → CoreStands (setting_of config may) [] (core_of xs fs)
unfolding IsLegalHistory
core-starts config may xs fs domains zeros kept = record { legal = tt; domains = domains; frames = frames-start (setting_of config may) fs zeros kept }

-- a beginning changes no frame
begun-stands : (s : Setting) (xs ys : List State) (fs : FrameSet) (dom : DomId) (request : Request) (b : Begun)
    → DomainsDo s xs (Begin dom request) (begun_element dom request b) ys
    → DoesEvent s (core_of xs fs) (Begin dom request) (begun_element dom request b) (core_of ys fs)
begun-stands s xs ys fs dom request b stands h st = let r = stands h st.domains in
    (r.0, record { legal = legal-grows s h (Begin dom request) (begun_element dom request b) r.0 st.legal; domains = r.1; frames = frames-begun s h fs dom request b st.frames })

pub begin-does : (s : Setting) (xs ys : List State) (fs : FrameSet) (dom : DomId) (request : Request) (r : Result Begun Memory)
    → IfOk r (λ b. DomainsDo s xs (Begin dom request) (begun_element dom request b) ys)
    → IfOk r (λ b. DoesEvent s (core_of xs fs) (Begin dom request) (begun_element dom request b) (core_of ys fs))
begin-does s xs ys fs dom request (Ok b) stands = begun-stands s xs ys fs dom request b stands
begin-does s xs ys fs dom request (Err e) stands = tt

-- after a beginning the core represents a history, whether or not it failed with Memory
pub begun-all : (s : Setting) (xs ys : List State) (fs : FrameSet) (dom : DomId) (request : Request) (r : Result Begun Memory) → StandsForSome s (core_of xs fs)
    → IfOk r (λ b. DomainsDo s xs (Begin dom request) (begun_element dom request b) ys)
    → OnErr r (ys ≡ xs) → StandsForSome s (core_of ys fs)
begun-all s xs ys fs dom request (Ok b) (h, st) stands err =
    (grown h (begun_element dom request b), (begun-stands s xs ys fs dom request b stands h st).1)
begun-all s xs ys fs dom request (Err e) some stands err = subst (λ (zs : List State). StandsForSome s (core_of zs fs)) (sym err) some

-- and so it does after a tick
pub ticked-all : (s : Setting) (old : CoreState) (ys : List State) (gs : FrameSet) (dom : DomId) (r : Result Ticked Memory) → StandsForSome s old
    → IfOk r (λ t. DoesEvent s old (Tick dom) (ticked_element dom t) (core_of ys gs)) → OnErr r (ys ≡ old.domains) → OnErr r (gs ≡ old.frames) → StandsForSome s (core_of ys gs)
ticked-all s old ys gs dom (Ok t) (h, st) does domains frames = (grown h (ticked_element dom t), (does h st).1)
ticked-all s old ys gs dom (Err e) some does domains frames =
    subst (λ (zs : List State). StandsForSome s (core_of zs gs)) (sym domains) (subst (λ (fs : FrameSet). StandsForSome s (core_of old.domains fs)) (sym frames) some)
