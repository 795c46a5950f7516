-- A domain that prints its list in an order, with N26 and gates, prints the changed list in the order done again.
use Rattle.std.proofs.Common.{◌≡◌, ◌≢◌, ◌⊎◌, inl, inr, ℕ, suc, Bool, true, false, cond, List, [], ◌∷◌, ◌++◌}
use Rattle.std.proofs.Common.{Option, None, refl, ap, sym, ◌∙◌, subst, append_assoc, arith}
use Rattle.std.specs.Prelude.{◌==◌, All}
use Rattle.std.proofs.lemmas.Bool.{eq-eqb}
use Rattle.std.proofs.lemmas.List.Elements.{All-from_recursion, All-head, All-tail, recursion_from_All}
use Rattle.gt_core.proofs.Words.{eqb-true}
use Rattle.gt_types.specs.Names.{domain_of}
use Rattle.gt_types.specs.declared.DomId.{DomId}
use Rattle.gt_types.specs.declared.TypeId.{TypeId}
use Rattle.gt_types.specs.declared.config.DomainConfig.{DomainConfig}
use Rattle.gt_types.specs.declared.copies.CopyArgs.{CopyArgs}
use Rattle.gt_model.specs.History.{Setting}
use Rattle.gt_model.specs.Legal.{Legal}
use Rattle.gt_model.specs.declared.handle.Handle.{Handle}
use Rattle.gt_model.specs.declared.request.Request.{Request}
use Rattle.gt_model.specs.declared.request.Request.TheVariants as requests
use Rattle.gt_model.specs.declared.trace.Answer.{Answer}
use Rattle.gt_model.specs.declared.trace.Answer.TheVariants as answers
use Rattle.gt_model.specs.declared.trace.Element.{Element}
use Rattle.gt_model.specs.declared.trace.Event.{Event}
use Rattle.gt_script.specs.Contents.{Contents, type_names}
use Rattle.gt_script.specs.Lists.{RunAction, RunTask}
use Rattle.gt_script.specs.RunContents.{RunContents}
use Rattle.gt_script.specs.RunScripts.{list_of}
use Rattle.gt_script.specs.declared.tasks.RunAction.TheVariants.{Await, Do, Tell}
use Rattle.gt_script_lines.specs.declared.calls.ScriptCall.{ScriptCall}
use Rattle.gt_script_lines.specs.declared.calls.ScriptCall.TheVariants as script_calls
use Rattle.gt_script_runs.specs.Playing.{setting_of_script}
use Rattle.gt_script_runs.specs.Printing.{answer_line}
use Rattle.gt_script_runs.specs.Runs.{MakesRequest, Named, handle_given, label_given, with_name}
use Rattle.gt_explore_replay.specs.Orders.{ActionHappens, CallHappens, Happening, Prints, did, doer, events_in}
use Rattle.gt_explore_replay.specs.Orders.{given_up, held_after, own_happenings, passed, raised, trace_in}
use Rattle.gt_explore_replay.specs.Walking.{HaveOwnIds}
use Rattle.gt_run.specs.Serving.{AwaitsRefusedFlag, gate_line}
use Rattle.gt_linearization.specs.Printed.{AllPrint, GetsNoMemory, IsAllocating, IsRunOf, PrintsList}
use Rattle.gt_linearization.specs.Printed.{ReleasesMappings, Starves}
use Rattle.gt_linearization.specs.Printed.{StopsAtGate, no_memory_answer}
use Rattle.gt_flow.specs.Low.{is_high}
use Rattle.gt_flow.proofs.OtherBytes.{each-has-others}
use Rattle.gt_flow_runs.specs.Secrets.{IsListEnd, SameAction, SamePrintedForLow, SamePrintedLines, SameTasks}
use Rattle.gt_flow_runs.specs.Secrets.{RunTextsHaveOthers, SameButHigh, lines_of_answers}
use Rattle.gt_flow_runs.proofs.Redone.{IsRedone, done-again, redone_events, redone_request, same-passed, with_action}
use Rattle.gt_flow_runs.proofs.Redone.{with_stored}
use Rattle.gt_flow_runs.proofs.Followed.{Asks, IsOwn, SameAnswer, SameCall, SameList, asks-redone, await-same, back-too}
use Rattle.gt_flow_runs.proofs.Followed.{call-too, do-same, no-answers, pull, same-cons, same-given, same-held}
use Rattle.gt_flow_runs.proofs.Followed.{own-redone, tell-same}
use Rattle.gt_flow_runs.proofs.Texts.{flags-same, flags-too, known-too, same-lists}

-- requests with other bytes

alloc-stored : (call : ScriptCall) (q : Request) → IsAllocating q → IsAllocating (with_stored call q)
alloc-stored (script_calls.Store label at hex) (requests.Store handle off bytes) is = tt
alloc-stored (script_calls.Poke number at hex) (requests.Poke frame off bytes) is = tt
alloc-stored call q is = is

alloc-action : (run_action : RunAction) (q : Request) → IsAllocating q → IsAllocating (with_action run_action q)
alloc-action (Do call) q is = alloc-stored call q is
alloc-action (Tell flag) q is = is
alloc-action (Await flag) q is = is

alloc-redone : (b : Bool) (ts : List RunTask) (q : Request) → IsAllocating q → IsAllocating (redone_request b ts q)
alloc-redone true [] q is = is
alloc-redone true (t ∷ ts) q is = alloc-action t.run_action q is
alloc-redone false ts q is = is

-- a request without bytes of its own
abbrev IsCopying : Request → Type 0
IsCopying (requests.Copy c) = Unit {0}
IsCopying (requests.Probe c) = Unit {0}
IsCopying q = ⊥

copy-stored : (call : ScriptCall) (q : Request) → IsCopying q → with_stored call q ≡ q
copy-stored (script_calls.Store label at hex) (requests.Copy c) is = refl
copy-stored (script_calls.Poke number at hex) (requests.Copy c) is = refl
copy-stored call (requests.Copy c) is = refl
copy-stored (script_calls.Store label at hex) (requests.Probe c) is = refl
copy-stored (script_calls.Poke number at hex) (requests.Probe c) is = refl
copy-stored call (requests.Probe c) is = refl
copy-stored call q is = absurd is

copy-redone : (b : Bool) (ts : List RunTask) (q : Request) → IsCopying q → redone_request b ts q ≡ q
copy-redone true [] q is = refl
copy-redone true (t ∷ ts) q is = by t.run_action
  where
    by : (run_action : RunAction) → with_action run_action q ≡ q
    by (Do call) = copy-stored call q is
    by (Tell flag) = refl
    by (Await flag) = refl
copy-redone false ts q is = refl

starves-so : (dom : DomId) (q : Request) (Rest : List Happening → Type 0) (hs : List Happening) → IsAllocating q
    → Rest hs → Starves dom q Rest hs
starves-so dom (requests.Copy c) Rest hs is rest = absurd is
starves-so dom q Rest hs is rest = (is, rest)

module _ (s : Setting) (high : TypeId → Bool) (refuses : ℕ → Bool) (types : List (List ℕ)) (dom : DomId)
    (b : Bool) where
  abbrev Lines : List ℕ → List ℕ → Type 0
  Lines one other = SamePrintedLines b types dom one other

  -- the list us can be done again: with the lines of it at which something happened
  abbrev Again : List RunTask → List Named → List Handle → List Happening → List ℕ → Type 0
  Again us named held hs text =
      (served : List RunTask) × ((ks : List Happening) → IsOwn s high b served hs ks
      → (new : List ℕ) × PrintsList refuses types dom named held us ks new × Lines text new)

  -- what follows a line
  abbrev Next : List RunTask → List Named → List Handle → List Happening → List ℕ → Type 0
  Next us names holds more rest = PrintsList refuses types dom names holds us more rest

  -- this line, and what follows it
  abbrev Line : List Named → List Handle → RunTask → List RunTask → ℕ → List Happening → List ℕ → Type 0
  Line named held u us line ks new =
      ActionHappens types dom named held line u.run_action (Next us) ks new
      ⊎ (GetsNoMemory types dom named held line u.run_action (Next us) ks new
      ⊎ (AwaitsRefusedFlag refuses u.run_action × ReleasesMappings dom held ks × (new ≡ gate_line line dom)))

  abbrev LineAgain : List Named → List Handle → RunTask → List RunTask → ℕ → List Happening → List ℕ → Type 0
  LineAgain named held u us line hs text =
      (served : List RunTask) × ((ks : List Happening) → IsOwn s high b served hs ks
      → (new : List ℕ) × Line named held u us line ks new × Lines text new)

  -- ---- texts

  same-ended : (end : List ℕ) → IsListEnd dom end → Lines end end
  same-ended end is = ([], [], end, refl, refl, is, no-answers s high types dom b b)

  same-more : (line : ℕ) (a c : Answer) (text tail new : List ℕ) → SameAnswer s high b a c
      → text ≡ answer_line types line dom a ++ tail → Lines tail new → Lines text (answer_line types line dom c ++ new)
  same-more line a c text tail new so told (ls, ks, end, one, other, is, same) = (
    (line, a) ∷ ls,
    (line, c) ∷ ks,
    end,
    told ∙ ap (λ (l : List ℕ). answer_line types line dom a ++ l) one
        ∙ sym (append_assoc (answer_line types line dom a) (lines_of_answers types dom ls) end),
    ap (λ (l : List ℕ). answer_line types line dom c ++ l) other
        ∙ sym (append_assoc (answer_line types line dom c) (lines_of_answers types dom ks) end),
    is,
    same-cons s high b line a c ls ks so same,
  )

  same-answer : (a : Answer) → SameAnswer s high b a a
  same-answer a = by b
    where
      by : (e : Bool) → SameAnswer s high e a a
      by true = refl
      by false = refl

  done-same : (c : Answer) → SameAnswer s high b answers.Done c → c ≡ answers.Done
  done-same c so = by b c so
    where
      by : (e : Bool) (c : Answer) → SameAnswer s high e answers.Done c → c ≡ answers.Done
      by true (answers.Bytes x) so = absurd (let e = so in cc)
      by true c so = let e = so in cc
      by false c so = sym so

  -- ---- lines

  tell-again : (flag line : ℕ) (u : RunTask) (us : List RunTask) (named : List Named) (held : List Handle)
      (hs more : List Happening) (text : List ℕ) → SameAction b (Tell flag) u.run_action → hs ≡ raised dom flag ∷ more
      → Again us named held more text → LineAgain named held u us line hs text
  tell-again flag line u us named held hs more text same is (served, again) =
      (u ∷ served, λ ks own. by ks (subst (λ (l : List Happening). IsOwn s high b (u ∷ served) l ks) is own))
    where
      by : (ks : List Happening) → IsOwn s high b (u ∷ served) (raised dom flag ∷ more) ks
          → (new : List ℕ) × Line named held u us line ks new × Lines text new
      by [] own = absurd own
      by (did f y ∷ ks) own = absurd own
      by (passed k other ∷ ks) own = absurd own
      by (raised k other ∷ ks) own =
          let (new, prints, lines) = again ks own.1 in (
            new,
            inl (subst (λ (z : RunAction).
                ActionHappens types dom named held line z (Next us) (raised k other ∷ ks) new)
                (tell-same s high b flag u.run_action same)
                (ks, ap (λ (z : Happening). z ∷ ks) (sym own.0), prints)),
            lines,
          )

  await-again : (flag line : ℕ) (u : RunTask) (us : List RunTask) (named : List Named) (held : List Handle)
      (hs more : List Happening) (text : List ℕ) → SameAction b (Await flag) u.run_action
      → hs ≡ passed dom flag ∷ more → Again us named held more text → LineAgain named held u us line hs text
  await-again flag line u us named held hs more text same is (served, again) =
      (u ∷ served, λ ks own. by ks (subst (λ (l : List Happening). IsOwn s high b (u ∷ served) l ks) is own))
    where
      by : (ks : List Happening) → IsOwn s high b (u ∷ served) (passed dom flag ∷ more) ks
          → (new : List ℕ) × Line named held u us line ks new × Lines text new
      by [] own = absurd own
      by (did f y ∷ ks) own = absurd own
      by (raised k other ∷ ks) own = absurd own
      by (passed k other ∷ ks) own =
          let (new, prints, lines) = again ks own.1 in (
            new,
            inl (subst (λ (z : RunAction).
                ActionHappens types dom named held line z (Next us) (passed k other ∷ ks) new)
                (await-same s high b flag u.run_action same)
                (ks, ap (λ (z : Happening). z ∷ ks) (sym own.0), prints)),
            lines,
          )

  -- a call, whose answer and rest are these
  the-call : (q : Request) (u : RunTask) (served : List RunTask) (New : Answer → List Happening → Type 0)
      (hs ks more : List Happening) (a : Answer) → CallHappens dom q (λ z m. (z ≡ a) × (m ≡ more)) hs
      → IsOwn s high b (u ∷ served) hs ks
      → ((c : Answer) (less : List Happening) → SameAnswer s high b a c → IsOwn s high b served more less → New c less)
      → CallHappens dom (redone_request b (u ∷ served) q) New ks
  the-call q u served New hs ks more a happens own goes =
      call-too s high b (u ∷ served) dom q (λ z m. (z ≡ a) × (m ≡ more)) New hs ks happens own
      (λ z c m less so rest is. goes c less (subst (λ (x : Answer). SameAnswer s high b x c) is.0 so)
      (subst (λ (l : List Happening). IsOwn s high b served l less) is.1 rest))

  do-again : (call : ScriptCall) (line : ℕ) (u : RunTask) (us : List RunTask) (named : List Named) (held : List Handle)
      (hs more : List Happening) (text tail : List ℕ) (q : Request) (a : Answer) → SameAction b (Do call) u.run_action
      → MakesRequest named dom call q → CallHappens dom q (λ z m. (z ≡ a) × (m ≡ more)) hs
      → text ≡ answer_line types line dom a ++ tail
      → Again us (with_name named dom (label_given call) (handle_given a)) (held_after held (given_up q) a) more tail
      → LineAgain named held u us line hs text
  do-again call line u us named held hs more text tail q a same makes happens told (served, again) =
      (u ∷ served, λ ks own. by ks own (do-same s high b call u.run_action same))
    where
      r : Request
      r = redone_request b (u ∷ served) q

      answered : (other : ScriptCall) → Asks s high named dom q call other r → (c : Answer) (less : List Happening)
          → SameAnswer s high b a c → IsOwn s high b served more less
          → (new : List ℕ) × Prints (answer_line types line dom c)
          (Next us (with_name named dom (label_given other) (handle_given c)) (held_after held (given_up r) c) less) new
          × Lines text new
      answered other asks c less so rest =
          let names : with_name named dom (label_given call) (handle_given a)
          ≡ with_name named dom (label_given other) (handle_given c) =
          ap (λ (l : Option (List ℕ)). with_name named dom l (handle_given a)) (sym asks.labels)
          ∙ ap (with_name named dom (label_given other)) (same-given s high b a c so) in
          let holds : held_after held (given_up q) a ≡ held_after held (given_up r) c =
          ap (λ (o : Option Handle). held_after held o a) (sym asks.gives)
          ∙ same-held s high b held (given_up r) a c so in
          let (new, prints, lines) = again less rest in (
            answer_line types line dom c ++ new,
            (
              new,
              refl,
              subst (λ (n : List Named). Next us n (held_after held (given_up r) c) less new) names
                  (subst (λ (h : List Handle).
                  Next us (with_name named dom (label_given call) (handle_given a)) h less new)
                  holds prints),
            ),
            same-more line a c text tail new so told lines,
          )

      by : (ks : List Happening) → IsOwn s high b (u ∷ served) hs ks
          → (other : ScriptCall) × (u.run_action ≡ Do other) × SameCall s high b call other
          → (new : List ℕ) × Line named held u us line ks new × Lines text new
      by ks own (other, is, same-call) =
          let asks = asks-redone s high b u served named dom q call other is same-call makes in
          let P : List ℕ → Answer → List Happening → Type 0 = λ new c less. Prints (answer_line types line dom c)
          (Next us (with_name named dom (label_given other) (handle_given c)) (held_after held (given_up r) c) less)
          new in
          let made = the-call q u served (λ c less. (new : List ℕ) × P new c less × Lines text new) hs ks more a happens
          own
          (answered other asks) in
          let (new, call-again, lines) = pull s high types dom b r P (Lines text) ks made in (
            new,
            inl (subst (λ (z : RunAction). ActionHappens types dom named held line z (Next us) ks new) (sym is)
                (r, asks.makes, call-again)),
            lines,
          )

  -- a copy that got no memory: its probe happened
  probe-again : (call : ScriptCall) (line : ℕ) (u : RunTask) (us : List RunTask) (named : List Named)
      (held : List Handle) (hs more : List Happening) (text tail : List ℕ)
      (c : CopyArgs) → SameAction b (Do call) u.run_action
      → MakesRequest named dom call (requests.Copy c)
      → CallHappens dom (requests.Probe c) (λ z m. (z ≡ answers.Done) × (m ≡ more)) hs
      → text ≡ answer_line types line dom no_memory_answer ++ tail → Again us named held more tail
      → LineAgain named held u us line hs text
  probe-again call line u us named held hs more text tail c same makes happens told (served, again) =
      (u ∷ served, λ ks own. by ks own (do-same s high b call u.run_action same))
    where
      by : (ks : List Happening) → IsOwn s high b (u ∷ served) hs ks
          → (other : ScriptCall) × (u.run_action ≡ Do other) × SameCall s high b call other
          → (new : List ℕ) × Line named held u us line ks new × Lines text new
      by ks own (other, is, same-call) =
          let asks = asks-redone s high b u served named dom (requests.Copy c) call other is same-call makes in
          let asked : MakesRequest named dom other (requests.Copy c) =
          subst (MakesRequest named dom other) (copy-redone b (u ∷ served) (requests.Copy c) tt) asks.makes in
          let P : List ℕ → Answer → List Happening → Type 0 = λ new z less. (z ≡ answers.Done)
          × Prints (answer_line types line dom no_memory_answer) (Next us named held less) new in
          let made = the-call (requests.Probe c) u served (λ z less. (new : List ℕ) × P new z less × Lines text new) hs
          ks
          more answers.Done happens own (λ z less so rest. let (new, prints, lines) = again less rest in (
            answer_line types line dom no_memory_answer ++ new,
            (done-same z so, (new, refl, prints)),
            same-more line no_memory_answer no_memory_answer text tail new (same-answer no_memory_answer) told lines,
          )) in
          let (new, call-again, lines) =
          pull s high types dom b (redone_request b (u ∷ served) (requests.Probe c)) P (Lines text) ks made in
          let probed : CallHappens dom (requests.Probe c) (P new) ks =
          subst (λ (z : Request). CallHappens dom z (P new) ks) (copy-redone b (u ∷ served) (requests.Probe c) tt)
          call-again in (
            new,
            inr (inl (subst (λ (z : RunAction). GetsNoMemory types dom named held line z (Next us) ks new) (sym is)
                (requests.Copy c, asked, probed))),
            lines,
          )

  -- any other call that got no memory: nothing happened
  starved-again : (call : ScriptCall) (line : ℕ) (u : RunTask) (us : List RunTask) (named : List Named)
      (held : List Handle) (hs : List Happening) (text tail : List ℕ) (q : Request)
      → SameAction b (Do call) u.run_action → MakesRequest named dom call q → IsAllocating q
      → text ≡ answer_line types line dom no_memory_answer ++ tail → Again us named held hs tail
      → LineAgain named held u us line hs text
  starved-again call line u us named held hs text tail q same makes allocates told (served, again) =
      (served, λ ks own. by ks own (do-same s high b call u.run_action same))
    where
      by : (ks : List Happening) → IsOwn s high b served hs ks
          → (other : ScriptCall) × (u.run_action ≡ Do other) × SameCall s high b call other
          → (new : List ℕ) × Line named held u us line ks new × Lines text new
      by ks own (other, is, same-call) =
          let r = redone_request b (u ∷ []) q in
          let asks = asks-redone s high b u [] named dom q call other is same-call makes in
          let (new, prints, lines) = again ks own in
          let whole = answer_line types line dom no_memory_answer ++ new in
          let starves = starves-so dom r
          (λ more. Prints (answer_line types line dom no_memory_answer) (Next us named held more) whole) ks
          (alloc-redone b (u ∷ []) q allocates) (new, refl, prints) in (
            whole,
            inr (inl (subst (λ (z : RunAction). GetsNoMemory types dom named held line z (Next us) ks whole) (sym is)
                (r, asks.makes, starves))),
            same-more line no_memory_answer no_memory_answer text tail new (same-answer no_memory_answer) told lines,
          )

  gate-again : (run_action : RunAction) (line : ℕ) (u : RunTask) (us : List RunTask) (named : List Named)
      (held : List Handle) (hs : List Happening) (text : List ℕ) → SameAction b run_action u.run_action
      → AwaitsRefusedFlag refuses run_action → ReleasesMappings dom held hs → text ≡ gate_line line dom
      → LineAgain named held u us line hs text
  unfolding AwaitsRefusedFlag
  gate-again (Do call) line u us named held hs text same awaits releases is = absurd awaits
  gate-again (Tell flag) line u us named held hs text same awaits releases is = absurd awaits
  gate-again (Await flag) line u us named held hs text same awaits (order, gives) is = (
    [],
    λ ks own. (
      text,
      inr (inr (
        subst (AwaitsRefusedFlag refuses) (await-same s high b flag u.run_action same) awaits,
        (order, back-too s high b dom order held hs ks gives own),
        is,
      )),
      same-ended text (inr (line, is)),
    ),
  )

  -- ---- a list

  line-again : (t u : RunTask) (us : List RunTask) (named : List Named) (held : List Handle) (hs : List Happening)
      (text : List ℕ) (Then : List Named → List Handle → List Happening → List ℕ → Type 0)
      → SameAction b t.run_action u.run_action
      → ActionHappens types dom named held t.line t.run_action Then hs text
      ⊎ (GetsNoMemory types dom named held t.line t.run_action Then hs text ⊎ StopsAtGate refuses dom held t hs text)
      → ((n : List Named) (h : List Handle) (more : List Happening) (tail : List ℕ) → Then n h more tail
      → Again us n h more tail)
      → LineAgain named held u us t.line hs text
  line-again t u us named held hs text Then same does rest = by t.run_action same does
    where
      other : (call : ScriptCall) (q : Request) → SameAction b (Do call) u.run_action → MakesRequest named dom call q
          → IsAllocating q → Prints (answer_line types t.line dom no_memory_answer) (Then named held hs) text
          → LineAgain named held u us t.line hs text
      other call q same makes allocates (tail, told, next) =
          starved-again call t.line u us named held hs text tail q same makes allocates told
          (rest named held hs tail next)

      starve : (call : ScriptCall) (q : Request) → SameAction b (Do call) u.run_action → MakesRequest named dom call q
          → Starves dom q
          (λ more. Prints (answer_line types t.line dom no_memory_answer) (Then named held more) text) hs
          → LineAgain named held u us t.line hs text
      starve call (requests.Copy c) same makes (first, trace, a, more, is, ends, (done, (tail, told, next))) =
          probe-again call t.line u us named held hs more text tail c same makes
          (first, trace, a, more, is, ends, (done, refl)) told (rest named held more tail next)
      starve call q same makes starves = other call q same makes starves.0 starves.1

      by : (run_action : RunAction) → SameAction b run_action u.run_action
          → ActionHappens types dom named held t.line run_action Then hs text
          ⊎ (GetsNoMemory types dom named held t.line run_action Then hs text
          ⊎ (AwaitsRefusedFlag refuses run_action × ReleasesMappings dom held hs × (text ≡ gate_line t.line dom)))
          → LineAgain named held u us t.line hs text
      by (Tell flag) same (inl (more, is, next)) =
          tell-again flag t.line u us named held hs more text same is (rest named held more text next)
      by (Await flag) same (inl (more, is, next)) =
          await-again flag t.line u us named held hs more text same is (rest named held more text next)
      by (Do call) same (inl (q, makes, (first, trace, a, more, is, ends, (tail, told, next)))) =
          do-again call t.line u us named held hs more text tail q a same makes
          (first, trace, a, more, is, ends, (refl, refl)) told
          (rest (with_name named dom (label_given call) (handle_given a)) (held_after held (given_up q) a) more tail next)
      by (Do call) same (inr (inl (q, makes, starves))) = starve call q same makes starves
      by (Tell flag) same (inr (inl none)) = absurd none
      by (Await flag) same (inr (inl none)) = absurd none
      by run_action same (inr (inr (awaits, releases, is))) =
          gate-again run_action t.line u us named held hs text same awaits releases is

  pub prints-again : (ts us : List RunTask) (named : List Named) (held : List Handle) (hs : List Happening)
      (text : List ℕ) → SameList s high types dom b ts us → PrintsList refuses types dom named held ts hs text
      → Again us named held hs text
  prints-again [] [] named held hs text same ((order, gives), is) = (
    [],
    λ ks own. (
      text,
      ((order, back-too s high b dom order held hs ks gives own), is),
      same-ended text (inl is),
    ),
  )
  prints-again (t ∷ ts) (u ∷ us) named held hs text same prints =
      let (served, again) = line-again t u us named held hs text
      (λ names holds more rest. PrintsList refuses types dom names holds ts more rest) same.1 prints
      (λ n h more tail next. prints-again ts us n h more tail same.2 next) in (
        served,
        λ ks own. let (new, line, lines) = again ks own in
            (new, subst (λ (n : ℕ). Line named held u us n ks new) same.0 line, lines),
      )
  prints-again [] (u ∷ us) named held hs text same prints = absurd same
  prints-again (t ∷ ts) [] named held hs text same prints = absurd same

module _ (s : Setting) (high : TypeId → Bool) where
  -- each of the domains did in the second order what it did in the first, with these lines
  abbrev AllOwn : (ℕ → List RunTask) → List Happening → List Happening → List DomainConfig → Type 0
  AllOwn l hs ks [] = Unit {0}
  AllOwn l hs ks (d ∷ ds) =
      IsOwn s high (is_high s high d.id) (l d.id.0) (own_happenings d.id hs) (own_happenings d.id ks)
      × AllOwn l hs ks ds

  all-own : (l : ℕ → List RunTask) (hs ks : List Happening) → IsRedone s high l hs ks → (ds : List DomainConfig)
      → AllOwn l hs ks ds
  all-own l hs ks redone [] = tt
  all-own l hs ks redone (d ∷ ds) = (own-redone s high d.id l hs ks redone, all-own l hs ks redone ds)

  -- the lines of a domain with another number
  other-lines : (l : ℕ → List RunTask) (served : List RunTask) (d e : ℕ) → d ≢ e → cond (e == d) served (l e) ≡ l e
  other-lines l served d e apart = by (e == d) refl
    where
      by : (c : Bool) → (e == d) ≡ c → cond c served (l e) ≡ l e
      by true is = absurd (apart (sym (eqb-true e d is)))
      by false is = refl

  own-rest : (l : ℕ → List RunTask) (served : List RunTask) (d : DomainConfig) (hs ks : List Happening)
      (es : List DomainConfig) → All (λ e. d.id.0 ≢ e.id.0) es
      → AllOwn (λ n. cond (n == d.id.0) served (l n)) hs ks es → AllOwn l hs ks es
  own-rest l served d hs ks [] apart own = tt
  own-rest l served d hs ks (e ∷ es) apart own = (
    subst (λ (ts : List RunTask).
        IsOwn s high (is_high s high e.id) ts (own_happenings e.id hs) (own_happenings e.id ks))
        (other-lines l served d.id.0 e.id.0 (All-head (λ e. d.id.0 ≢ e.id.0) e es apart)) own.0,
    own-rest l served d hs ks es (All-tail (λ e. d.id.0 ≢ e.id.0) e es apart) own.1,
  )

  head-apart : (d : DomainConfig) (ds : List DomainConfig) → HaveOwnIds (d ∷ ds) → All (λ e. d.id.0 ≢ e.id.0) ds
  head-apart d ds apart k e below = apart 0 (suc k) e (omega arith) (omega arith)

  tail-apart : (d : DomainConfig) (ds : List DomainConfig) → HaveOwnIds (d ∷ ds) → HaveOwnIds ds
  tail-apart d ds apart i j e before below = apart (suc i) (suc j) e (omega arith) (omega arith)

  pub all-again : (refuses : ℕ → Bool) (types : List (List ℕ)) (one other : RunContents) (hs : List Happening)
      (ds : List DomainConfig) (text : List ℕ) → SameTasks s high one.tasks other.tasks → types ≡ type_names one.head
      → types ≡ type_names other.head → HaveOwnIds ds → AllPrint refuses one hs ds text
      → (l : ℕ → List RunTask) × ((ks : List Happening) → AllOwn l hs ks ds
      → (new : List ℕ) × AllPrint refuses other ks ds new × SamePrintedForLow s high types ds text new)
  all-again refuses types one other hs [] text same mine theirs apart is =
      ((λ n. []), λ ks own. ([], refl, (is, refl)))
  all-again refuses types one other hs (d ∷ ds) text same mine theirs apart (part, (rest, is, more), prints) =
      let (l, again) = all-again refuses types one other hs ds rest same mine theirs (tail-apart d ds apart) more in
      let (served, first) = prints-again s high refuses types d.id (is_high s high d.id) (list_of one.tasks d.id)
      (list_of other.tasks d.id) [] [] (own_happenings d.id hs) part
      (same-lists s high types d.id one.tasks other.tasks same)
      (subst (λ (t : List (List ℕ)). PrintsList refuses t d.id [] [] (list_of one.tasks d.id) (own_happenings d.id hs)
      part) (sym mine) prints) in (
        (λ n. cond (n == d.id.0) served (l n)),
        λ ks own.
            let (new, printed, lines) = first (own_happenings d.id ks) (subst (λ (c : Bool).
            IsOwn s high (is_high s high d.id) (cond c served (l d.id.0)) (own_happenings d.id hs)
            (own_happenings d.id ks)) (eq-eqb d.id.0 d.id.0 refl) own.0) in
            let (after, all, low) = again ks (own-rest l served d hs ks ds (head-apart d ds apart) own.1) in (
              new ++ after,
              (
                new,
                (after, refl, all),
                subst (λ (t : List (List ℕ)). PrintsList refuses t d.id [] [] (list_of other.tasks d.id)
                    (own_happenings d.id ks) new) theirs printed,
              ),
              (part, rest, new, after, is, refl, lines, low),
            ),
      )

-- the other order, with what it prints, is one of a run of the other script
run-again : (refuses : ℕ → Bool) (high : TypeId → Bool) (one other : RunContents) (l : ℕ → List RunTask)
    (hs ks : List Happening) (ys : List Element) (text new : List ℕ) → SameButHigh high one other
    → IsRunOf refuses one hs text → IsRedone (setting_of_script one.head) high l hs ks
    → Legal (setting_of_script one.head) (redone_events (setting_of_script one.head) high l hs) ys
    → events_in ks ≡ redone_events (setting_of_script one.head) high l hs → trace_in ks ≡ ys
    → AllPrint refuses other ks one.head.domains new → IsRunOf refuses other ks new
run-again refuses high one other l hs ks ys text new same run redone legal events trace all =
    let s : Setting = setting_of_script one.head in
    let known = known-too s high one.head.domains l hs ks redone
    (recursion_from_All (λ x. domain_of one.head.domains (doer x) ≢ None) hs run.known) in record {
      legal = subst (λ (h : Contents). Legal (setting_of_script h) (events_in ks) (trace_in ks)) (sym same.head)
          (subst (λ (es : List Event). Legal s es (trace_in ks)) (sym events)
          (subst (λ (xs : List Element). Legal s (redone_events s high l hs) xs) (sym trace) legal));
      print = subst (λ (h : Contents). AllPrint refuses other ks h.domains new) (sym same.head) all;
      known = subst (λ (h : Contents). All (λ x. domain_of h.domains (doer x) ≢ None) ks) (sym same.head)
          (All-from_recursion (λ x. domain_of one.head.domains (doer x) ≢ None) ks known);
      flags = flags-too s high hs ks (flags-same s high l hs ks redone) run.flags;
    }

pub run-texts-have-others : RunTextsHaveOthers
run-texts-have-others refuses high one other text closed same apart (hs, run) =
    let s : Setting = setting_of_script one.head in
    let (l, again) = all-again s high refuses (type_names one.head) one other hs one.head.domains text same.tasks refl
    (ap type_names (sym same.head)) apart run.print in
    let (ys, legal, alike, low) = each-has-others s high (events_in hs) (redone_events s high l hs) (trace_in hs) closed
    (same-passed s high l hs) run.legal in
    let (ks, redone, events, trace) = done-again s high [] l hs ys run.legal alike in
    let (new, all, for-low) = again ks (all-own s high l hs ks redone one.head.domains) in
    (new, (ks, run-again refuses high one other l hs ks ys text new same run redone legal events trace all), for-low)
