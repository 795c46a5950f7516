-- Runs of one script that are the same but for the keys of handles: their names, requests and answers.
use Rattle.std.proofs.Common.{◌≡◌, ◌⊎◌, inl, inr, ℕ, Bool, true, false, List, [], ◌∷◌, ◌++◌, Option, None, Some, refl}
use Rattle.std.proofs.Common.{cond, ap, sym, subst, ◌∙◌, arith}
use Rattle.std.specs.Prelude.{◌==◌, ◌&&◌, unwrap_or, codes}
use Rattle.std.specs.Str.{bytes_eq}
use Rattle.std.specs.Option.{option_map}
use Rattle.std.specs.Borrow.{Bor}
use Rattle.std.proofs.lemmas.Bool.{eqb-true}
use Rattle.std.proofs.lemmas.Option.{none-some, same_Some}
use Rattle.gt_types.specs.declared.DomId.{DomId}
use Rattle.gt_script_lines.specs.declared.calls.ScriptCall.{ScriptCall}
use Rattle.gt_script_lines.specs.declared.calls.ScriptCall.TheVariants as script_calls
use Rattle.gt_script.specs.declared.script.ScriptStep.{ScriptStep}
use Rattle.gt_model.specs.declared.handle.Handle.{Handle}
use Rattle.gt_model.specs.Asking.{asked}
use Rattle.gt_model.specs.declared.request.Request.{Request}
use Rattle.gt_model.specs.declared.request.Request.TheVariants as requests
use Rattle.gt_model.specs.declared.trace.Answer.{Answer}
use Rattle.gt_model.specs.declared.trace.Answer.TheVariants as answers
use Rattle.gt_model.specs.declared.trace.Element.{Element}
use Rattle.gt_model.specs.declared.trace.Element.TheVariants as elements
use Rattle.gt_model.specs.declared.trace.Item.{Item}
use Rattle.gt_model.specs.declared.trace.Event.{Event}
use Rattle.gt_model.specs.declared.trace.Event.TheVariants.{Begin, Tick}
use Rattle.gt_model.specs.History.{History, Setting}
use Rattle.gt_model.specs.Legal.{MayDo, actor_of, grown, history_after}
use Rattle.gt_core.specs.Alike.{bare_handle, bare_bytes, bare_request, keyless_answer, KeylessItem, SameElement}
use Rattle.gt_core.specs.Alike.{IsGiven, IsKnown, AsksKnown}
use Rattle.gt_script_runs.specs.Printing.{answer_text, bytes_text}
use Rattle.gt_script_runs.specs.Runs.{Named, handle_labelled, handle_of, never_given, with_name, named_after}
use Rattle.gt_script_runs.specs.Runs.{handle_given, label_said, request_of, MakesRequest, answer_in}

-- names

abbrev pub bare_names : List Named → List Named
bare_names [] = []
bare_names (n ∷ more) = record { dom = n.dom; label = n.label; handle = bare_handle n.handle } ∷ bare_names more

-- each label stands for a handle that its domain was answered
abbrev pub NamesGiven : History → List Named → Type 0
NamesGiven h [] = Unit {0}
NamesGiven h (n ∷ more) = IsGiven h n.dom.0 n.handle × NamesGiven h more

named-bare : (named : List Named) (d : ℕ) (label : List ℕ) → handle_labelled (bare_names named) d label ≡ option_map bare_handle (handle_labelled named d label)
named-bare [] d label = refl
named-bare (n ∷ more) d label = by ((n.dom.0 == d) && bytes_eq n.label label) (named-bare more d label)
  where
    by : (b : Bool) → handle_labelled (bare_names more) d label ≡ option_map bare_handle (handle_labelled more d label)
        → cond b (Some (bare_handle n.handle)) (handle_labelled (bare_names more) d label) ≡ option_map bare_handle (cond b (Some n.handle) (handle_labelled more d label))
    by true rest = refl
    by false rest = rest

or-never : (o : Option Handle) → bare_handle (unwrap_or o never_given) ≡ unwrap_or (option_map bare_handle o) never_given
or-never None = refl
or-never (Some handle) = refl

pub handle-same : (one other : List Named) (dom : DomId) (label : List ℕ) → bare_names one ≡ bare_names other → bare_handle (handle_of one dom label) ≡ bare_handle (handle_of other dom label)
handle-same one other dom label same =
    or-never (handle_labelled one dom.0 label)
    ∙ ap (λ (o : Option Handle). unwrap_or o never_given)
    (sym (named-bare one dom.0 label) ∙ ap (λ (l : List Named). handle_labelled l dom.0 label) same ∙ named-bare other dom.0 label)
    ∙ sym (or-never (handle_labelled other dom.0 label))

found-given : (h : History) (named : List Named) (d : ℕ) (label : List ℕ) → NamesGiven h named → IsKnown h d (unwrap_or (handle_labelled named d label) never_given)
found-given h [] d label g = inr (omega arith)
found-given h (n ∷ more) d label g = by (n.dom.0 == d) (bytes_eq n.label label) refl (found-given h more d label g.1)
  where
    by : (b e : Bool) → (n.dom.0 == d) ≡ b → IsKnown h d (unwrap_or (handle_labelled more d label) never_given) → IsKnown h d (unwrap_or (cond (b && e) (Some n.handle) (handle_labelled more d label)) never_given)
    by true true own rest = inl (subst (λ (m : ℕ). IsGiven h m n.handle) (eqb-true n.dom.0 d own) g.0)
    by true false own rest = rest
    by false e own rest = rest

-- requests

bytes-same : (a b : Bor (List ℕ)) → a.now ≡ b.now → bare_bytes a ≡ bare_bytes b
bytes-same a b e = ap (λ (l : List ℕ). record { ref_ptr = (0, 0); now = l }) e

request-same : (one other : List Named) (dom : DomId) (a b : Bor (List ℕ)) (call : ScriptCall) → bare_names one ≡ bare_names other → a.now ≡ b.now → bare_request (request_of one dom a call) ≡ bare_request (request_of other dom b call)
unfolding request_of
request-same one other dom a b (script_calls.GrantBytes gref hex) same e = ap (λ (l : Bor (List ℕ)). requests.GrantBytes gref l) (bytes-same a b e)
request-same one other dom a b (script_calls.Unmap label) same e = ap (λ (x : Handle). requests.Unmap x) (handle-same one other dom label same)
request-same one other dom a b (script_calls.Load label off len) same e = ap (λ (x : Handle). requests.Load x off len) (handle-same one other dom label same)
request-same one other dom a b (script_calls.Store label off hex) same e =
    ap (λ (x : Handle). requests.Store x off (bare_bytes a)) (handle-same one other dom label same)
    ∙ ap (λ (l : Bor (List ℕ)). requests.Store (bare_handle (handle_of other dom label)) off l) (bytes-same a b e)
request-same one other dom a b (script_calls.Poke frame off hex) same e = ap (λ (l : Bor (List ℕ)). requests.Poke frame off l) (bytes-same a b e)
request-same one other dom a b call same e = refl

pub asks-same : (one other : List Named) (dom : DomId) (call : ScriptCall) (q r : Request) → bare_names one ≡ bare_names other → MakesRequest one dom call q → MakesRequest other dom call r → bare_request q ≡ bare_request r
asks-same one other dom call q r same x y =
    ap bare_request x.2 ∙ request-same one other dom x.0 y.0 call same (x.1 ∙ sym y.1) ∙ ap bare_request (sym y.2)

request-known : (h : History) (named : List Named) (dom : DomId) (a : Bor (List ℕ)) (call : ScriptCall) → NamesGiven h named → AsksKnown h dom.0 (asked (request_of named dom a call))
unfolding request_of
request-known h named dom a (script_calls.GrantBytes gref hex) g = tt
request-known h named dom a (script_calls.Unmap label) g = found-given h named dom.0 label g
request-known h named dom a (script_calls.Load label off len) g = found-given h named dom.0 label g
request-known h named dom a (script_calls.Store label off hex) g = found-given h named dom.0 label g
request-known h named dom a call g = tt

pub asks-known : (h : History) (named : List Named) (dom : DomId) (call : ScriptCall) (q : Request) → NamesGiven h named → MakesRequest named dom call q → AsksKnown h dom.0 (asked q)
asks-known h named dom call q g x = subst (λ (z : Request). AsksKnown h dom.0 (asked z)) (sym x.2) (request-known h named dom x.0 call g)

-- answers

abbrev told_text : List (List ℕ) → Answer ⊎ List ℕ → List ℕ
told_text names (inl answer) = answer_text names answer
told_text names (inr bytes) = codes "ok" ++ bytes_text bytes

text-told : (names : List (List ℕ)) (a : Answer) → answer_text names a ≡ told_text names (keyless_answer a)
text-told names (answers.Mapped handle) = refl
text-told names (answers.Bytes b) = refl
text-told names a = refl

pub text-same : (names : List (List ℕ)) (a b : Answer) → keyless_answer a ≡ keyless_answer b → answer_text names a ≡ answer_text names b
text-same names a b e = text-told names a ∙ ap (told_text names) e ∙ sym (text-told names b)

abbrev told_handle : Answer ⊎ List ℕ → Option Handle
told_handle (inl answer) = handle_given answer
told_handle (inr bytes) = None

handle-told : (a : Answer) → option_map bare_handle (handle_given a) ≡ told_handle (keyless_answer a)
handle-told (answers.Mapped handle) = refl
handle-told (answers.Bytes b) = refl
handle-told a = refl

with-name-bare : (named : List Named) (dom : DomId) (label : Option (List ℕ)) (o : Option Handle) → bare_names (with_name named dom label o) ≡ with_name (bare_names named) dom label (option_map bare_handle o)
with-name-bare named dom (Some label) (Some handle) = refl
with-name-bare named dom (Some label) None = refl
with-name-bare named dom None o = refl

pub named-same : (one other : List Named) (dom : DomId) (s : ScriptStep) (a b : Answer) → bare_names one ≡ bare_names other → keyless_answer a ≡ keyless_answer b → bare_names (named_after one dom s a) ≡ bare_names (named_after other dom s b)
named-same one other dom s a b same e =
    with-name-bare one dom (label_said s.action) (handle_given a)
    ∙ ap (λ (l : List Named). with_name l dom (label_said s.action) (option_map bare_handle (handle_given a))) same
    ∙ ap (λ (o : Option Handle). with_name (bare_names other) dom (label_said s.action) o) (handle-told a ∙ ap told_handle e ∙ sym (handle-told b))
    ∙ sym (with-name-bare other dom (label_said s.action) (handle_given b))

-- a handle that the answer gives is one that the domain was answered
abbrev pub AnswerGiven : History → ℕ → Answer → Type 0
AnswerGiven h d a = (handle : Handle) → a ≡ answers.Mapped handle → IsGiven h d handle

with-name-given : (h : History) (named : List Named) (dom : DomId) (label : Option (List ℕ)) (o : Option Handle) → NamesGiven h named → ((handle : Handle) → o ≡ Some handle → IsGiven h dom.0 handle) → NamesGiven h (with_name named dom label o)
with-name-given h named dom (Some label) (Some handle) g k = (k handle refl, g)
with-name-given h named dom (Some label) None g k = g
with-name-given h named dom None o g k = g

mapped-of : (a : Answer) (handle : Handle) → handle_given a ≡ Some handle → a ≡ answers.Mapped handle
mapped-of (answers.Mapped x) handle e = ap (λ (z : Handle). answers.Mapped z) (same_Some x handle e)
mapped-of a handle e = absurd (none-some handle e)

pub named-given : (h : History) (named : List Named) (dom : DomId) (s : ScriptStep) (a : Answer) → NamesGiven h named → AnswerGiven h dom.0 a → NamesGiven h (named_after named dom s a)
named-given h named dom s a g k = with-name-given h named dom (label_said s.action) (handle_given a) g (λ handle e. k handle (mapped-of a handle e))

-- what was answered stays so

grown-given : (h : History) (x : Element) (d : ℕ) (a : Handle) → IsGiven h d a → IsGiven (grown h x) d a
unfolding IsGiven
grown-given h (elements.Item i) d a g = inr g
grown-given h x d a g = g

given-after : (h : History) (xs : List Element) (d : ℕ) (a : Handle) → IsGiven h d a → IsGiven (history_after h xs) d a
given-after h [] d a g = g
given-after h (x ∷ xs) d a g = given-after (grown h x) xs d a (grown-given h x d a g)

pub names-after : (h : History) (xs : List Element) (named : List Named) → NamesGiven h named → NamesGiven (history_after h xs) named
names-after h xs [] g = tt
names-after h xs (n ∷ more) g = (given-after h xs n.dom.0 n.handle g.0, names-after h xs more g.1)

-- elements

pub answers-same : (x y : Element) → SameElement x y → option_map keyless_answer (answer_in x) ≡ option_map keyless_answer (answer_in y)
answers-same (elements.Item i) (elements.Item j) e = ap (λ (t : KeylessItem). t.answer) e
answers-same (elements.Item i) y e = absurd (cc)
answers-same x (elements.Item j) e = absurd (cc)
answers-same x y e = refl

given-of : (d actor : DomId) (h : History) (i : Item) (a : Answer) → i.actor ≡ d → i.answer ≡ Some a → AnswerGiven (i ∷ h) d.0 a
unfolding IsGiven
given-of d actor h i a own e handle is = inl (ap (λ (z : DomId). z.0) own, e ∙ ap (λ (z : Answer). Some z) is)

-- an answer's handle is one that its domain was answered
pub done-given : (t : Setting) (h : History) (d : DomId) (e : Event) (x : Element) (a : Answer) → MayDo t h e x → actor_of e ≡ d → answer_in x ≡ Some a → AnswerGiven (grown h x) d.0 a
done-given t h d (Begin actor q) (elements.Item i) a m own e = given-of d actor h i a (m.1.0 ∙ own) e
done-given t h d (Tick actor) (elements.Item i) a m own e = given-of d actor h i a (m.1.0 ∙ own) e
done-given t h d event x a m own e = absurd (none-some a e)
