-- Two legal runs of a script print one text.
use Rattle.std.proofs.Common.{◌≡◌, ◌≤◌, ◌+◌, inl, inr, ℕ, zero, suc, Bool, List, [], ◌∷◌, ◌++◌, length, replicate}
use Rattle.std.proofs.Common.{take, drop, Option, None, Some, Result, Ok, refl, cond, ap, sym, subst, ◌∙◌}
use Rattle.std.proofs.Common.{append_assoc, length-append, arith}
use Rattle.std.specs.Prelude.{◌==◌, codes}
use Rattle.std.specs.Option.{option_map}
use Rattle.std.proofs.lemmas.Option.{none-some, same_Some}
use Rattle.std.proofs.lemmas.List.{append-nil, length-replicate}
use Rattle.gt_types.specs.declared.DomId.{DomId}
use Rattle.gt_types.specs.declared.GrantRef.{GrantRef}
use Rattle.gt_script_lines.specs.declared.calls.ScriptCall.{ScriptCall}
use Rattle.gt_script.specs.declared.actions.ScriptAction.{ScriptAction}
use Rattle.gt_script.specs.declared.actions.ScriptAction.TheVariants as script_actions
use Rattle.gt_script.specs.Contents.{Contents, type_names}
use Rattle.gt_script.specs.Script.{ReadsAsScript, Wrong}
use Rattle.gt_script.specs.declared.script.ScriptStep.{ScriptStep}
use Rattle.gt_model.specs.declared.request.Request.{Request}
use Rattle.gt_model.specs.declared.trace.Answer.{Answer}
use Rattle.gt_model.specs.declared.trace.Item.{Item}
use Rattle.gt_model.specs.declared.trace.Element.{Element}
use Rattle.gt_model.specs.declared.trace.Element.TheVariants as elements
use Rattle.gt_model.specs.declared.trace.Event.{Event}
use Rattle.gt_model.specs.declared.trace.Event.TheVariants.{Begin, Tick}
use Rattle.gt_model.specs.History.{History, Setting}
use Rattle.gt_model.specs.Legal.{Legal, LegalAfter, grown, history_after}
use Rattle.gt_core.specs.Shown.{shown_at}
use Rattle.gt_core.specs.declared.core_state.EntryView.{EntryView}
use Rattle.gt_core.specs.Alike.{keyless_answer, SameEvent, SameElement, IsOfKnown, IsRun, AreAlike}
use Rattle.gt_text.specs.Streams.{AppendsBeginning}
use Rattle.gt_text.specs.Laws.{begins_longer}
use Rattle.gt_script_runs.specs.Printing.{answer_text, answer_line, call_text, busy_line, idle_line}
use Rattle.gt_script_runs.specs.Showing.{show_line}
use Rattle.gt_script_runs.specs.Playing.{IsLegalRunOf, setting_of_script, play_text, audited_text, BeginsRun}
use Rattle.gt_script_runs.specs.Playing.{BeginsEvery, Played}
use Rattle.gt_script_runs.specs.Runs.{Progress, AnswerNothing, EndsWith, EndsAsCall, TicksComeTo, answer_in}
use Rattle.gt_script_runs.specs.Runs.{call_events, at_start, history_of, with_events, with_line, with_step_of}
use Rattle.gt_script_runs.specs.Runs.{answered, progress_after, after_item, progress_begun, after_ticks, DoLine}
use Rattle.gt_script_runs.specs.Runs.{BeginLine, TickLine, ShowLine, RunsLine, PlayLeadsTo, open_lines}
use Rattle.gt_script_runs.specs.Auditing.{audit_text}
use Rattle.gt_host.proofs.RecordLemmas.{HasOneSubject, audit-same}
use Rattle.gt_host.proofs.RunLemmas.{history_after-append}
use Rattle.gt_script_runs.proofs.AlikeLemmas.{bare_names, NamesGiven, AnswerGiven, asks-same, asks-known, text-same}
use Rattle.gt_script_runs.proofs.AlikeLemmas.{named-same, named-given, names-after, answers-same, done-given}
use Rattle.gt_host.proofs.TickLemmas.{StaysAlike, swapped, answers-alike, call-given, ticks-alike, ticks-apart}
use Rattle.gt_host.proofs.TickLemmas.{ticks-answered}

abbrev pub ShowsAlike : Type 0
ShowsAlike = (s : Setting) (g h : History) (dom : DomId) (r : ℕ) → AreAlike s g h → shown_at s g dom r ≡ shown_at s h dom r

-- legal traces in parts

legal-length : (s : Setting) (h : History) (es : List Event) (xs : List Element) → LegalAfter s h es xs → length es ≡ length xs
legal-length s h [] [] p = refl
legal-length s h [] (x ∷ xs) p = absurd p
legal-length s h (e ∷ es) [] p = absurd p
legal-length s h (e ∷ es) (x ∷ xs) p = ap (λ (n : ℕ). suc n) (legal-length s (grown h x) es xs p.1)

legal-split : (s : Setting) (h : History) (es : List Event) (xs : List Element) (more : List Event) (ys : List Element) → length es ≡ length xs → LegalAfter s h (es ++ more) (xs ++ ys)
    → LegalAfter s h es xs × LegalAfter s (history_after h xs) more ys
legal-split s h [] [] more ys e p = (tt, p)
legal-split s h [] (x ∷ xs) more ys e p = absurd (omega arith)
legal-split s h (e ∷ es) [] more ys same p = absurd (omega arith)
legal-split s h (e ∷ es) (x ∷ xs) more ys same p =
    let rest = legal-split s (grown h x) es xs more ys (omega arith) p.1 in
    ((p.0, rest.0), rest.1)

legal-front : (s : Setting) (h : History) (es : List Event) (xs : List Element) (more : List Event) (ys : List Element) → length more ≡ length ys → LegalAfter s h (es ++ more) (xs ++ ys) → LegalAfter s h es xs
legal-front s h es xs more ys e p =
    let all : length es + length more ≡ length xs + length ys = sym (length-append es more) ∙ legal-length s h (es ++ more) (xs ++ ys) p ∙ length-append xs ys in
    (legal-split s h es xs more ys (omega arith) p).0

-- the two points of runs that are the same but for keys
record Together (t : Setting) (p q : Progress) : Type 0 where
  pub legal : Legal t p.events p.trace
  pub lawful : Legal t q.events q.trace
  pub alike : AreAlike t (history_of p) (history_of q)
  pub named : bare_names p.named ≡ bare_names q.named
  pub given : NamesGiven (history_of p) p.named
  pub known : NamesGiven (history_of q) q.named
  pub opens : p.open_steps ≡ q.open_steps
  pub text : p.text ≡ q.text

start-together : (t : Setting) → Together t at_start at_start
unfolding IsRun
start-together t = record { legal = tt; lawful = tt; alike = record { first = tt; second = tt; same = refl }; named = refl; given = tt; known = tt; opens = refl; text = refl }

-- what the events of a line did
piece : (t : Setting) (p : Progress) (es : List Event) (xs : List Element) → Legal t p.events p.trace → Legal t (p.events ++ es) (p.trace ++ xs) → LegalAfter t (history_of p) es xs
piece t p es xs legal more = (legal-split t [] p.events p.trace es xs (legal-length t [] p.events p.trace legal) more).1

with-events : (t : Setting) (p q : Progress) (es fs : List Event) (xs ys : List Element) → Together t p q → Legal t (p.events ++ es) (p.trace ++ xs) → Legal t (q.events ++ fs) (q.trace ++ ys)
    → AreAlike t (history_after (history_of p) xs) (history_after (history_of q) ys) → Together t (with_events p es xs) (with_events q fs ys)
with-events t p q es fs xs ys w legal lawful alike =
    let one = sym (history_after-append [] p.trace xs) in
    let other = sym (history_after-append [] q.trace ys) in
    record {
      legal = legal;
      lawful = lawful;
      alike = subst (λ (l : History). AreAlike t l (history_of (with_events q fs ys))) one (subst (λ (l : History). AreAlike t (history_after (history_of p) xs) l) other alike);
      named = w.named;
      given = subst (λ (l : History). NamesGiven l p.named) one (names-after (history_of p) xs p.named w.given);
      known = subst (λ (l : History). NamesGiven l q.named) other (names-after (history_of q) ys q.named w.known);
      opens = w.opens;
      text = w.text;
    }

with-line : (t : Setting) (p q : Progress) (one other : List ℕ) → one ≡ other → Together t p q → Together t (with_line p one) (with_line q other)
with-line t p q one other e w =
    record {
      legal = w.legal;
      lawful = w.lawful;
      alike = w.alike;
      named = w.named;
      given = w.given;
      known = w.known;
      opens = w.opens;
      text = ap (λ (l : List ℕ). p.text ++ l) e ∙ ap (λ (l : List ℕ). l ++ other) w.text;
    }

with-call : (t : Setting) (p q : Progress) (dom : DomId) (s : Option ScriptStep) → Together t p q → Together t (with_step_of p dom s) (with_step_of q dom s)
with-call t p q dom s w =
    record {
      legal = w.legal;
      lawful = w.lawful;
      alike = w.alike;
      named = w.named;
      given = w.given;
      known = w.known;
      text = w.text;
      opens = ap (λ (f : ℕ → Option ScriptStep). λ (d : ℕ). cond (d == dom.0) s (f d)) w.opens;
    }

line-same : (types : List (List ℕ)) (line : ℕ) (dom : DomId) (a b : Answer) → answer_text types a ≡ answer_text types b → answer_line types line dom a ≡ answer_line types line dom b
line-same types line dom a b e = ap (λ (l : List ℕ). call_text line dom ++ l ++ codes "\n") e

with-answer : (t : Setting) (types : List (List ℕ)) (p q : Progress) (dom : DomId) (s : ScriptStep) (a b : Answer) → keyless_answer a ≡ keyless_answer b → AnswerGiven (history_of p) dom.0 a → AnswerGiven (history_of q) dom.0 b → Together t p q
    → Together t (answered types p dom s a) (answered types q dom s b)
with-answer t types p q dom s a b e one other w =
    record {
      legal = w.legal;
      lawful = w.lawful;
      alike = w.alike;
      opens = w.opens;
      named = named-same p.named q.named dom s a b w.named e;
      given = named-given (history_of p) p.named dom s a w.given one;
      known = named-given (history_of q) q.named dom s b w.known other;
      text = ap (λ (l : List ℕ). p.text ++ l) (line-same types s.line dom a b (text-same types a b e)) ∙ ap (λ (l : List ℕ). l ++ answer_line types s.line dom b) w.text;
    }

-- a whole call

call-legal : (t : Setting) (types : List (List ℕ)) (p : Progress) (s : ScriptStep) (o : Option Answer) → Legal t (progress_after types p s o).events (progress_after types p s o).trace → Legal t p.events p.trace
call-legal t types p s (Some a) legal = legal
call-legal t types p s None legal = legal

-- the domains' calls of one line, in runs that have come to these points
record Calls (t : Setting) (p q : Progress) (d : DomId) (one other : Request) (n m : ℕ) (xs ys : List Element) : Type 0 where
  pub together : Together t p q
  pub asked : SameEvent (Begin d one) (Begin d other)
  pub first : IsOfKnown (history_of p) (Begin d one)
  pub second : IsOfKnown (history_of q) (Begin d other)
  pub legal : Legal t (p.events ++ call_events d one n) (p.trace ++ xs)
  pub lawful : Legal t (q.events ++ call_events d other m) (q.trace ++ ys)

busy-first : StaysAlike → (t : Setting) (p q : Progress) (d : DomId) (one other : Request) (n m : ℕ) (xs ys more : List Element) (i : Item) → Calls t p q d one other n m xs ys
    → xs ≡ elements.Item i ∷ more → ys ≡ elements.Busy ∷ [] → ⊥
busy-first law t p q d one other n m xs ys more i c e f =
    let j = subst (λ (l : List Element). LegalAfter t (history_of p) (call_events d one n) l) e (piece t p (call_events d one n) xs c.together.legal c.legal) in
    let k = subst (λ (l : List Element). LegalAfter t (history_of q) (call_events d other m) l) f (piece t q (call_events d other m) ys c.together.lawful c.lawful) in
    item-busy i (law t (history_of p) (history_of q) (Begin d one) (Begin d other) (elements.Item i) elements.Busy c.together.alike c.asked c.first c.second j.0 k.0).0
  where
    item-busy : (i : Item) → SameElement (elements.Item i) elements.Busy → ⊥
    item-busy i e = cc

swapped-calls : (t : Setting) (p q : Progress) (d : DomId) (one other : Request) (n m : ℕ) (xs ys : List Element) → Calls t p q d one other n m xs ys → Calls t q p d other one m n ys xs
swapped-calls t p q d one other n m xs ys c =
    let w = c.together in
    record {
      together = record { legal = w.lawful; lawful = w.legal; alike = swapped t (history_of p) (history_of q) w.alike; named = sym w.named; given = w.known; known = w.given; opens = sym w.opens; text = sym w.text };
      asked = sym c.asked;
      first = c.second;
      second = c.first;
      legal = c.lawful;
      lawful = c.legal;
    }

calls-together : StaysAlike → (t : Setting) (types : List (List ℕ)) (s : ScriptStep) (p q : Progress) (one other : Request) (n m : ℕ) (xs ys : List Element) (o r : Option Answer) → Calls t p q s.dom one other n m xs ys
    → EndsAsCall xs o → EndsAsCall ys r → Together t (progress_after types (with_events p (call_events s.dom one n) xs) s o) (progress_after types (with_events q (call_events s.dom other m) ys) s r)
calls-together law t types s p q one other n m xs ys (Some a) (Some b) c (i, more, first, x) (j, rest, second, y) =
    let d = s.dom in
    let j1 = subst (λ (l : List Element). LegalAfter t (history_of p) (call_events d one n) l) x.order (piece t p (call_events d one n) xs c.together.legal c.legal) in
    let j2 = subst (λ (l : List Element). LegalAfter t (history_of q) (call_events d other m) l) y.order (piece t q (call_events d other m) ys c.together.lawful c.lawful) in
    let same = answers-alike law t d (history_of p) (history_of q) (Begin d one) (Begin d other) n m x.before y.before x.last y.last a b c.together.alike c.asked c.first c.second j1 j2 x.quiet y.quiet x.answers y.answers in
    let g1 = ap (history_after (history_of p)) (sym x.order) ∙ sym (history_after-append [] p.trace xs) in
    let g2 = ap (history_after (history_of q)) (sym y.order) ∙ sym (history_after-append [] q.trace ys) in
    with-answer t types (with_events p (call_events d one n) xs) (with_events q (call_events d other m) ys) d s a b same.0
    (subst (λ (l : History). AnswerGiven l d.0 a) g1 (call-given t d (history_of p) (Begin d one) n x.before x.last a refl j1 x.answers))
    (subst (λ (l : History). AnswerGiven l d.0 b) g2 (call-given t d (history_of q) (Begin d other) m y.before y.last b refl j2 y.answers))
    (with-events t p q (call_events d one n) (call_events d other m) xs ys c.together c.legal c.lawful
    (subst (λ (l : List Element). AreAlike t (history_after (history_of p) l) (history_after (history_of q) ys)) (sym x.order)
    (subst (λ (l : List Element). AreAlike t (history_after (history_of p) (x.before ++ x.last ∷ [])) (history_after (history_of q) l)) (sym y.order) same.1)))
calls-together law t types s p q one other n m xs ys (Some a) None c (i, more, first, x) y = absurd (busy-first law t p q s.dom one other n m xs ys more i c first y)
calls-together law t types s p q one other n m xs ys None (Some b) c x (j, rest, second, y) =
    absurd (busy-first law t q p s.dom other one m n ys xs rest j (swapped-calls t p q s.dom one other n m xs ys c) second x)
calls-together law t types s p q one other n m xs ys None None c x y =
    with-line t (with_events p (call_events s.dom one n) xs) (with_events q (call_events s.dom other m) ys) (busy_line s.line s.dom) (busy_line s.line s.dom) refl
    (with-events t p q (call_events s.dom one n) (call_events s.dom other m) xs ys c.together c.legal c.lawful
    (subst (λ (l : List Element). AreAlike t (history_after (history_of p) l) (history_after (history_of q) ys)) (sym x)
    (subst (λ (l : List Element). AreAlike t (history_of p) (history_after (history_of q) l)) (sym y) c.together.alike)))

do-together : StaysAlike → (t : Setting) (types : List (List ℕ)) (s : ScriptStep) (call : ScriptCall) (p q one other : Progress) → Together t p q → DoLine types s call p one → DoLine types s call q other → Legal t one.events one.trace → Legal t other.events other.trace → Together t one other
do-together law t types s call p q one other w (request, asks, n, xs, o, len, comes, is) (demand, seeks, m, ys, r, size, becomes, so) legal lawful =
    let l1 = call-legal t types (with_events p (call_events s.dom request n) xs) s o (subst (λ (z : Progress). Legal t z.events z.trace) is legal) in
    let l2 = call-legal t types (with_events q (call_events s.dom demand m) ys) s r (subst (λ (z : Progress). Legal t z.events z.trace) so lawful) in
    let c : Calls t p q s.dom request demand n m xs ys = record {
      together = w;
      asked = ap (λ (z : Request). Begin s.dom z) (asks-same p.named q.named s.dom call request demand w.named asks seeks);
      first = asks-known (history_of p) p.named s.dom call request w.given asks;
      second = asks-known (history_of q) q.named s.dom call demand w.known seeks;
      legal = l1;
      lawful = l2;
    } in
    subst (λ (z : Progress). Together t z other) (sym is)
    (subst (λ (z : Progress). Together t (progress_after types (with_events p (call_events s.dom request n) xs) s o) z) (sym so)
    (calls-together law t types s p q request demand n m xs ys o r c comes becomes))

-- a beginning

item-legal : (t : Setting) (types : List (List ℕ)) (p : Progress) (s : ScriptStep) (a : Option Answer) → Legal t (after_item types p s a).events (after_item types p s a).trace → Legal t p.events p.trace
item-legal t types p s None legal = legal
item-legal t types p s (Some a) legal = legal

begin-legal : (t : Setting) (types : List (List ℕ)) (p : Progress) (s : ScriptStep) (x : Element) → Legal t (progress_begun types p s x).events (progress_begun types p s x).trace → Legal t p.events p.trace
begin-legal t types p s (elements.Item i) legal = item-legal t types p s i.answer legal
begin-legal t types p s elements.Busy legal = legal
begin-legal t types p s elements.Idle legal = legal
begin-legal t types p s elements.NoDomain legal = legal

item-together : (t : Setting) (types : List (List ℕ)) (s : ScriptStep) (p q : Progress) (a b : Option Answer) → option_map keyless_answer a ≡ option_map keyless_answer b → ((x : Answer) → a ≡ Some x → AnswerGiven (history_of p) s.dom.0 x) → ((x : Answer) → b ≡ Some x → AnswerGiven (history_of q) s.dom.0 x)
    → Together t p q → Together t (after_item types p s a) (after_item types q s b)
item-together t types s p q None None e one other w = with-call t p q s.dom (Some s) w
item-together t types s p q None (Some b) e one other w = absurd (none-some (keyless_answer b) e)
item-together t types s p q (Some a) None e one other w = absurd (none-some (keyless_answer a) (sym e))
item-together t types s p q (Some a) (Some b) e one other w = with-answer t types p q s.dom s a b (same_Some (keyless_answer a) (keyless_answer b) e) (one a refl) (other b refl) w

begun-together : (t : Setting) (types : List (List ℕ)) (s : ScriptStep) (p q : Progress) (x y : Element) → SameElement x y → ((a : Answer) → answer_in x ≡ Some a → AnswerGiven (history_of p) s.dom.0 a) → ((a : Answer) → answer_in y ≡ Some a → AnswerGiven (history_of q) s.dom.0 a)
    → Together t p q → Together t (progress_begun types p s x) (progress_begun types q s y)
begun-together t types s p q (elements.Item i) (elements.Item j) e one other w = item-together t types s p q i.answer j.answer (answers-same (elements.Item i) (elements.Item j) e) one other w
begun-together t types s p q (elements.Item i) y e one other w = absurd (cc)
begun-together t types s p q x (elements.Item j) e one other w = absurd (cc)
begun-together t types s p q elements.Busy elements.Busy e one other w = with-line t p q (busy_line s.line s.dom) (busy_line s.line s.dom) refl w
begun-together t types s p q elements.Busy y e one other w = absurd (cc)
begun-together t types s p q x elements.Busy e one other w = absurd (cc)
begun-together t types s p q x y e one other w = w

begin-together : StaysAlike → (t : Setting) (types : List (List ℕ)) (s : ScriptStep) (call : ScriptCall) (p q one other : Progress) → Together t p q → BeginLine types s call p one → BeginLine types s call q other → Legal t one.events one.trace → Legal t other.events other.trace → Together t one other
begin-together law t types s call p q one other w (request, asks, x, is) (demand, seeks, y, so) legal lawful =
    let d = s.dom in
    let l1 = begin-legal t types (with_events p (Begin d request ∷ []) (x ∷ [])) s x (subst (λ (z : Progress). Legal t z.events z.trace) is legal) in
    let l2 = begin-legal t types (with_events q (Begin d demand ∷ []) (y ∷ [])) s y (subst (λ (z : Progress). Legal t z.events z.trace) so lawful) in
    let m1 = (piece t p (Begin d request ∷ []) (x ∷ []) w.legal l1).0 in
    let m2 = (piece t q (Begin d demand ∷ []) (y ∷ []) w.lawful l2).0 in
    let same = law t (history_of p) (history_of q) (Begin d request) (Begin d demand) x y w.alike
    (ap (λ (z : Request). Begin d z) (asks-same p.named q.named d call request demand w.named asks seeks))
    (asks-known (history_of p) p.named d call request w.given asks) (asks-known (history_of q) q.named d call demand w.known seeks) m1 m2 in
    subst (λ (z : Progress). Together t z other) (sym is)
    (subst (λ (z : Progress). Together t (progress_begun types (with_events p (Begin d request ∷ []) (x ∷ [])) s x) z) (sym so)
    (begun-together t types s (with_events p (Begin d request ∷ []) (x ∷ [])) (with_events q (Begin d demand ∷ []) (y ∷ [])) x y same.0
    (λ a e. subst (λ (l : History). AnswerGiven l d.0 a) (sym (history_after-append [] p.trace (x ∷ []))) (done-given t (history_of p) d (Begin d request) x a m1 refl e))
    (λ a e. subst (λ (l : History). AnswerGiven l d.0 a) (sym (history_after-append [] q.trace (y ∷ []))) (done-given t (history_of q) d (Begin d demand) y a m2 refl e))
    (with-events t p q (Begin d request ∷ []) (Begin d demand ∷ []) (x ∷ []) (y ∷ []) w l1 l2 same.1)))

-- ticks

tick-legal : (t : Setting) (types : List (List ℕ)) (p : Progress) (d : DomId) (s : ScriptStep) (a : Option Answer) → Legal t (after_ticks types p d s a).events (after_ticks types p d s a).trace → Legal t p.events p.trace
tick-legal t types p d s None legal = legal
tick-legal t types p d s (Some a) legal = legal

-- ticks of one line, in runs that have come to these points
record Ticks (t : Setting) (p q : Progress) (d : DomId) (n m : ℕ) (xs ys : List Element) : Type 0 where
  pub together : Together t p q
  pub legal : Legal t (p.events ++ replicate n (Tick d)) (p.trace ++ xs)
  pub lawful : Legal t (q.events ++ replicate m (Tick d)) (q.trace ++ ys)

ended-together : StaysAlike → (t : Setting) (types : List (List ℕ)) (d : DomId) (s : ScriptStep) (p q : Progress) (n m : ℕ) (xs ys : List Element) (a b : Answer) → Ticks t p q d n m xs ys → EndsWith xs a → EndsWith ys b
    → Together t (after_ticks types (with_events p (replicate n (Tick d)) xs) d s (Some a)) (after_ticks types (with_events q (replicate m (Tick d)) ys) d s (Some b))
ended-together law t types d s p q n m xs ys a b c x y =
    let j1 = subst (λ (l : List Element). LegalAfter t (history_of p) (replicate n (Tick d)) l) x.order (piece t p (replicate n (Tick d)) xs c.together.legal c.legal) in
    let j2 = subst (λ (l : List Element). LegalAfter t (history_of q) (replicate m (Tick d)) l) y.order (piece t q (replicate m (Tick d)) ys c.together.lawful c.lawful) in
    let n1 = ticks-answered t d (history_of p) n x.before x.last j1 in
    let n2 = ticks-answered t d (history_of q) m y.before y.last j2 in
    let k1 = subst (λ (z : ℕ). LegalAfter t (history_of p) (replicate z (Tick d)) (x.before ++ x.last ∷ [])) n1.1 j1 in
    let k2 = subst (λ (z : ℕ). LegalAfter t (history_of q) (replicate z (Tick d)) (y.before ++ y.last ∷ [])) n2.1 j2 in
    let same = answers-alike law t d (history_of p) (history_of q) (Tick d) (Tick d) n1.0 n2.0 x.before y.before x.last y.last a b c.together.alike refl tt tt k1 k2 x.quiet y.quiet x.answers y.answers in
    let g1 = ap (history_after (history_of p)) (sym x.order) ∙ sym (history_after-append [] p.trace xs) in
    let g2 = ap (history_after (history_of q)) (sym y.order) ∙ sym (history_after-append [] q.trace ys) in
    with-answer t types (with_step_of (with_events p (replicate n (Tick d)) xs) d None) (with_step_of (with_events q (replicate m (Tick d)) ys) d None) d s a b same.0
    (subst (λ (l : History). AnswerGiven l d.0 a) g1 (call-given t d (history_of p) (Tick d) n1.0 x.before x.last a refl k1 x.answers))
    (subst (λ (l : History). AnswerGiven l d.0 b) g2 (call-given t d (history_of q) (Tick d) n2.0 y.before y.last b refl k2 y.answers))
    (with-call t (with_events p (replicate n (Tick d)) xs) (with_events q (replicate m (Tick d)) ys) d None
    (with-events t p q (replicate n (Tick d)) (replicate m (Tick d)) xs ys c.together c.legal c.lawful
    (subst (λ (l : List Element). AreAlike t (history_after (history_of p) l) (history_after (history_of q) ys)) (sym x.order)
    (subst (λ (l : List Element). AreAlike t (history_after (history_of p) (x.before ++ x.last ∷ [])) (history_after (history_of q) l)) (sym y.order) same.1))))

ended-alone : StaysAlike → (t : Setting) (d : DomId) (p q : Progress) (n m most : ℕ) (xs ys : List Element) (a : Answer) → AreAlike t (history_of p) (history_of q)
    → LegalAfter t (history_of p) (replicate n (Tick d)) xs → LegalAfter t (history_of q) (replicate m (Tick d)) ys → EndsWith xs a → length xs ≤ most → AnswerNothing ys → length ys ≡ most → ⊥
ended-alone law t d p q n m most xs ys a alike j k x few quiet all =
    ticks-apart law t d (history_of p) (history_of q) n m x.before ys x.last a alike (subst (λ (l : List Element). LegalAfter t (history_of p) (replicate n (Tick d)) l) x.order j) k x.answers quiet
    (subst (λ (l : List Element). length l ≤ length ys) x.order (omega arith))

ticks-together : StaysAlike → (t : Setting) (types : List (List ℕ)) (d : DomId) (s : ScriptStep) (most : ℕ) (p q : Progress) (n m : ℕ) (xs ys : List Element) (a b : Option Answer) → Ticks t p q d n m xs ys → TicksComeTo most xs a → TicksComeTo most ys b
    → Together t (after_ticks types (with_events p (replicate n (Tick d)) xs) d s a) (after_ticks types (with_events q (replicate m (Tick d)) ys) d s b)
ticks-together law t types d s most p q n m xs ys (Some a) (Some b) c x y = ended-together law t types d s p q n m xs ys a b c x.0 y.0
ticks-together law t types d s most p q n m xs ys (Some a) None c x y =
    absurd (ended-alone law t d p q n m most xs ys a c.together.alike (piece t p (replicate n (Tick d)) xs c.together.legal c.legal) (piece t q (replicate m (Tick d)) ys c.together.lawful c.lawful) x.0 x.1 y.0 y.1)
ticks-together law t types d s most p q n m xs ys None (Some b) c x y =
    absurd (ended-alone law t d q p m n most ys xs b (swapped t (history_of p) (history_of q) c.together.alike) (piece t q (replicate m (Tick d)) ys c.together.lawful c.lawful) (piece t p (replicate n (Tick d)) xs c.together.legal c.legal) y.0 y.1 x.0 x.1)
ticks-together law t types d s most p q n m xs ys None None c x y =
    with-events t p q (replicate n (Tick d)) (replicate m (Tick d)) xs ys c.together c.legal c.lawful
    (ticks-alike law t d (history_of p) (history_of q) n m xs ys c.together.alike (piece t p (replicate n (Tick d)) xs c.together.legal c.legal) (piece t q (replicate m (Tick d)) ys c.together.lawful c.lawful) (x.1 ∙ sym y.1))

tick-together : StaysAlike → (t : Setting) (types : List (List ℕ)) (s : ScriptStep) (most : ℕ) (begun : Option ScriptStep) (p q one other : Progress) → Together t p q → TickLine types s most begun p one → TickLine types s most begun q other → Legal t one.events one.trace → Legal t other.events other.trace → Together t one other
tick-together law t types s most None p q one other w x y legal lawful =
    subst (λ (z : Progress). Together t z other) (sym x.1)
    (subst (λ (z : Progress). Together t (with_line p (idle_line s.line s.dom)) z) (sym y.1) (with-line t p q (idle_line s.line s.dom) (idle_line s.line s.dom) refl w))
tick-together law t types s most (Some begun) p q one other w (n, xs, a, len, comes, is) (m, ys, b, size, becomes, so) legal lawful =
    let d = s.dom in
    let l1 = tick-legal t types (with_events p (replicate n (Tick d)) xs) d begun a (subst (λ (z : Progress). Legal t z.events z.trace) is legal) in
    let l2 = tick-legal t types (with_events q (replicate m (Tick d)) ys) d begun b (subst (λ (z : Progress). Legal t z.events z.trace) so lawful) in
    let c : Ticks t p q d n m xs ys = record { together = w; legal = l1; lawful = l2 } in
    subst (λ (z : Progress). Together t z other) (sym is)
    (subst (λ (z : Progress). Together t (after_ticks types (with_events p (replicate n (Tick d)) xs) d begun a) z) (sym so)
    (ticks-together law t types d begun most p q n m xs ys a b c comes becomes))

-- lines

show-together : ShowsAlike → (t : Setting) (s : ScriptStep) (gref : GrantRef) (p q one other : Progress) → Together t p q → ShowLine t s gref p one → ShowLine t s gref q other → Together t one other
show-together shows t s gref p q one other w is so =
    let x = shown_at t (history_of p) s.dom gref.0 in
    let y = shown_at t (history_of q) s.dom gref.0 in
    subst (λ (z : Progress). Together t z other) (sym is)
    (subst (λ (z : Progress). Together t (with_line p (show_line s.line s.dom gref x)) z) (sym so)
    (with-line t p q (show_line s.line s.dom gref x) (show_line s.line s.dom gref y) (ap (λ (o : Option EntryView). show_line s.line s.dom gref o) (shows t (history_of p) (history_of q) s.dom gref.0 w.alike)) w))

line-together : StaysAlike → ShowsAlike → (t : Setting) (types : List (List ℕ)) (s : ScriptStep) (action : ScriptAction) (p q one other : Progress) → Together t p q → RunsLine t types s action p one → RunsLine t types s action q other
    → Legal t one.events one.trace → Legal t other.events other.trace → Together t one other
line-together law shows t types s (script_actions.Do call) p q one other w x y legal lawful = do-together law t types s call p q one other w x y legal lawful
line-together law shows t types s (script_actions.Begin call) p q one other w x y legal lawful = begin-together law t types s call p q one other w x y legal lawful
line-together law shows t types s (script_actions.Tick most) p q one other w x y legal lawful =
    tick-together law t types s most (q.open_steps s.dom.0) p q one other w
    (subst (λ (f : ℕ → Option ScriptStep). TickLine types s most (f s.dom.0) p one) w.opens x) y legal lawful
line-together law shows t types s (script_actions.Show gref) p q one other w x y legal lawful = show-together shows t s gref p q one other w x y

-- the front of a legal run is legal

calls-length : (d : DomId) (request : Request) (n : ℕ) (xs : List Element) → length xs ≡ 1 + n → length (call_events d request n) ≡ length xs
calls-length d request n xs e =
    let all : length (replicate n (Tick d)) ≡ n = length-replicate n (Tick d) in
    let whole : length (call_events d request n) ≡ suc (length (replicate n (Tick d))) = refl in
    omega arith

line-legal : (t : Setting) (types : List (List ℕ)) (s : ScriptStep) (action : ScriptAction) (p q : Progress) → RunsLine t types s action p q → Legal t q.events q.trace → Legal t p.events p.trace
line-legal t types s (script_actions.Do call) p q (request, asks, n, xs, o, len, comes, is) legal =
    legal-front t [] p.events p.trace (call_events s.dom request n) xs (calls-length s.dom request n xs len)
    (call-legal t types (with_events p (call_events s.dom request n) xs) s o (subst (λ (z : Progress). Legal t z.events z.trace) is legal))
line-legal t types s (script_actions.Begin call) p q (request, asks, x, is) legal =
    legal-front t [] p.events p.trace (Begin s.dom request ∷ []) (x ∷ []) refl
    (begin-legal t types (with_events p (Begin s.dom request ∷ []) (x ∷ [])) s x (subst (λ (z : Progress). Legal t z.events z.trace) is legal))
line-legal t types s (script_actions.Tick most) p q x legal = by (p.open_steps s.dom.0) x
  where
    by : (o : Option ScriptStep) → TickLine types s most o p q → Legal t p.events p.trace
    by None x = subst (λ (z : Progress). Legal t z.events z.trace) x.1 legal
    by (Some begun) (n, xs, a, len, comes, is) =
        legal-front t [] p.events p.trace (replicate n (Tick s.dom)) xs (length-replicate n (Tick s.dom) ∙ sym len)
        (tick-legal t types (with_events p (replicate n (Tick s.dom)) xs) s.dom begun a (subst (λ (z : Progress). Legal t z.events z.trace) is legal))
line-legal t types s (script_actions.Show gref) p q is legal = subst (λ (z : Progress). Legal t z.events z.trace) is legal

leads-legal : (t : Setting) (types : List (List ℕ)) (steps : List ScriptStep) (p q : Progress) → PlayLeadsTo t types p steps q → Legal t q.events q.trace → Legal t p.events p.trace
leads-legal t types [] p q e legal = subst (λ (z : Progress). Legal t z.events z.trace) (sym e) legal
leads-legal t types (s ∷ steps) p q (r, line, rest) legal = line-legal t types s s.action p r line (leads-legal t types steps r q rest legal)

-- runs

leads-together : StaysAlike → ShowsAlike → (t : Setting) (types : List (List ℕ)) (steps : List ScriptStep) (p q one other : Progress) → Together t p q → PlayLeadsTo t types p steps one → PlayLeadsTo t types q steps other
    → Legal t one.events one.trace → Legal t other.events other.trace → Together t one other
leads-together law shows t types [] p q one other w e f legal lawful =
    subst (λ (z : Progress). Together t z other) e (subst (λ (z : Progress). Together t p z) f w)
leads-together law shows t types (s ∷ steps) p q one other w (r, line, rest) (u, row, more) legal lawful =
    leads-together law shows t types steps r u one other
    (line-together law shows t types s s.action p q r u w line row (leads-legal t types steps r one rest legal) (leads-legal t types steps u other more lawful)) rest more legal lawful

runs-together : StaysAlike → ShowsAlike → (c : Contents) (steps : List ScriptStep) (p q : Progress) → IsLegalRunOf c steps p → IsLegalRunOf c steps q → Together (setting_of_script c) p q
runs-together law shows c steps p q x y = leads-together law shows (setting_of_script c) (type_names c) steps at_start at_start p q (start-together (setting_of_script c)) x.0 y.0 x.1 y.1

-- two runs of a script that have come to its end print one text
pub one-text : StaysAlike → ShowsAlike → (c : Contents) (p q : Progress) → IsLegalRunOf c c.steps p → IsLegalRunOf c c.steps q → play_text c p ≡ play_text c q
one-text law shows c p q x y =
    let w = runs-together law shows c c.steps p q x y in
    ap (λ (l : List ℕ). l ++ open_lines c.domains p.open_steps) w.text ∙ ap (λ (f : ℕ → Option ScriptStep). q.text ++ open_lines c.domains f) w.opens

-- with their audit too
pub audited-same : StaysAlike → ShowsAlike → HasOneSubject → (c : Contents) (audit : Bool) (p q : Progress) → IsLegalRunOf c c.steps p → IsLegalRunOf c c.steps q → audited_text c audit p ≡ audited_text c audit q
audited-same law shows tells c audit p q x y =
    let t = setting_of_script c in
    let w = runs-together law shows c c.steps p q x y in
    ap (λ (l : List ℕ). l ++ audit_text audit t (type_names c) p.trace) (one-text law shows c p q x y)
    ∙ ap (λ (l : List ℕ). play_text c q ++ l) (audit-same tells audit t (type_names c) p.trace q.trace w.alike)

-- beginnings

-- a run goes on from the point to which its first steps led
record Goes (t : Setting) (types : List (List ℕ)) (steps : List ScriptStep) (n : ℕ) (p q : Progress) : Type 0 where
  pub mid : Progress
  pub front : PlayLeadsTo t types p (take n steps) mid
  pub back : PlayLeadsTo t types mid (drop n steps) q

goes-on : (t : Setting) (types : List (List ℕ)) (steps : List ScriptStep) (n : ℕ) (p q : Progress) → PlayLeadsTo t types p steps q → Goes t types steps n p q
goes-on t types steps zero p q run = record { mid = p; front = refl; back = run }
goes-on t types [] (suc n) p q run = record { mid = p; front = refl; back = run }
goes-on t types (s ∷ steps) (suc n) p q (r, line, rest) =
    let g = goes-on t types steps n r q rest in
    record { mid = g.mid; front = (r, line, g.front); back = g.back }

-- text is appended
abbrev Grows : List ℕ → List ℕ → Type 0
Grows before after = (more : List ℕ) × (after ≡ before ++ more)

grows-none : (text : List ℕ) → Grows text text
grows-none text = ([], sym (append-nil text))

grows-both : (a b c : List ℕ) → Grows a b → Grows b c → Grows a c
grows-both a b c (x, e) (y, f) = (x ++ y, f ∙ ap (λ (l : List ℕ). l ++ y) e ∙ append_assoc a x y)

call-grows : (types : List (List ℕ)) (p : Progress) (s : ScriptStep) (o : Option Answer) → Grows p.text (progress_after types p s o).text
call-grows types p s (Some a) = (answer_line types s.line s.dom a, refl)
call-grows types p s None = (busy_line s.line s.dom, refl)

item-grows : (types : List (List ℕ)) (p : Progress) (s : ScriptStep) (a : Option Answer) → Grows p.text (after_item types p s a).text
item-grows types p s None = grows-none p.text
item-grows types p s (Some a) = (answer_line types s.line s.dom a, refl)

begin-grows : (types : List (List ℕ)) (p : Progress) (s : ScriptStep) (x : Element) → Grows p.text (progress_begun types p s x).text
begin-grows types p s (elements.Item i) = item-grows types p s i.answer
begin-grows types p s elements.Busy = (busy_line s.line s.dom, refl)
begin-grows types p s elements.Idle = grows-none p.text
begin-grows types p s elements.NoDomain = grows-none p.text

ticks-grow : (types : List (List ℕ)) (p : Progress) (d : DomId) (s : ScriptStep) (a : Option Answer) → Grows p.text (after_ticks types p d s a).text
ticks-grow types p d s None = grows-none p.text
ticks-grow types p d s (Some a) = (answer_line types s.line d a, refl)

tick-grows : (types : List (List ℕ)) (s : ScriptStep) (most : ℕ) (o : Option ScriptStep) (p q : Progress) → TickLine types s most o p q → Grows p.text q.text
tick-grows types s most None p q x = (idle_line s.line s.dom, ap (λ (z : Progress). z.text) x.1)
tick-grows types s most (Some begun) p q (n, xs, a, len, comes, is) =
    subst (λ (z : Progress). Grows p.text z.text) (sym is) (ticks-grow types (with_events p (replicate n (Tick s.dom)) xs) s.dom begun a)

line-grows : (t : Setting) (types : List (List ℕ)) (s : ScriptStep) (action : ScriptAction) (p q : Progress) → RunsLine t types s action p q → Grows p.text q.text
line-grows t types s (script_actions.Do call) p q (request, asks, n, xs, o, len, comes, is) =
    subst (λ (z : Progress). Grows p.text z.text) (sym is) (call-grows types (with_events p (call_events s.dom request n) xs) s o)
line-grows t types s (script_actions.Begin call) p q (request, asks, x, is) =
    subst (λ (z : Progress). Grows p.text z.text) (sym is) (begin-grows types (with_events p (Begin s.dom request ∷ []) (x ∷ [])) s x)
line-grows t types s (script_actions.Tick most) p q x = tick-grows types s most (p.open_steps s.dom.0) p q x
line-grows t types s (script_actions.Show gref) p q is = (show_line s.line s.dom gref (shown_at t (history_of p) s.dom gref.0), ap (λ (z : Progress). z.text) is)

leads-grow : (t : Setting) (types : List (List ℕ)) (steps : List ScriptStep) (p q : Progress) → PlayLeadsTo t types p steps q → Grows p.text q.text
leads-grow t types [] p q e = subst (λ (z : Progress). Grows p.text z.text) e (grows-none p.text)
leads-grow t types (s ∷ steps) p q (r, line, rest) = grows-both p.text r.text q.text (line-grows t types s s.action p r line) (leads-grow t types steps r q rest)

-- what a run printed that came some way is a beginning of what each one prints that comes to the end
front-text : StaysAlike → ShowsAlike → (c : Contents) (n : ℕ) (p q : Progress) → IsLegalRunOf c (take n c.steps) p → IsLegalRunOf c c.steps q → Grows p.text (play_text c q)
front-text law shows c n p q x y =
    let t = setting_of_script c in
    let types = type_names c in
    let g = goes-on t types c.steps n at_start q y.0 in
    let w = leads-together law shows t types (take n c.steps) at_start at_start p g.mid (start-together t) x.0 g.front x.1 (leads-legal t types (drop n c.steps) g.mid q g.back y.1) in
    subst (λ (l : List ℕ). Grows l (play_text c q)) (sym w.text)
    (grows-both g.mid.text q.text (play_text c q) (leads-grow t types (drop n c.steps) g.mid q g.back) (open_lines c.domains q.open_steps, refl))

pub begins-every : StaysAlike → ShowsAlike → HasOneSubject → (c : Contents) (audit : Bool) (old new : Option (List ℕ)) → BeginsRun c audit old new → BeginsEvery c audit old new
begins-every law shows tells c audit old new (inl (n, p, run, some)) q whole =
    let g = grows-both p.text (play_text c q) (audited_text c audit q) (front-text law shows c n p q run whole) (audit_text audit (setting_of_script c) (type_names c) q.trace, refl) in
    subst (λ (l : List ℕ). AppendsBeginning old new l) (sym g.1) (begins_longer old new p.text g.0 some)
begins-every law shows tells c audit old new (inr (p, run, all)) q whole =
    subst (λ (l : List ℕ). AppendsBeginning old new l) (audited-same law shows tells c audit p q run whole) all

-- bytes that are played twice to the end

abbrev TellsOnce : Type 0
TellsOnce = (bytes : List ℕ) (one other : Result Contents Wrong) → ReadsAsScript bytes one → ReadsAsScript bytes other → one ≡ other

same-contents : (c e : Contents) → ◌≡◌ {A = Result Contents Wrong} (Ok c) (Ok e) → c ≡ e
same-contents c e is = cc

pub played-once : StaysAlike → ShowsAlike → HasOneSubject → TellsOnce → (input : List ℕ) (audit : Bool) (old one other : List ℕ) → Played (ReadsAsScript input) audit (Some old) (Some one) (Ok tt) → Played (ReadsAsScript input) audit (Some old) (Some other) (Ok tt) → one ≡ other
played-once law shows tells once input audit old one other (c, said, (p, run, went)) (e, says, (q, way, gone)) =
    let same = same-contents e c (once input (Ok e) (Ok c) says said) in
    let way_of = subst (λ (z : Contents). IsLegalRunOf z z.steps q) same way in
    let gone_of = subst (λ (z : Contents). other ≡ old ++ audited_text z audit q) same gone in
    went ∙ ap (λ (l : List ℕ). old ++ l) (audited-same law shows tells c audit p q run way_of) ∙ sym gone_of
