-- The deeds of a list are deeds of a run, and the run of all lists has a legal order.
use Rattle.std.proofs.Common.{◌≡◌, inl, inr, ◌<◌, ◌==◌, nat_lt, ℕ, zero, suc, Bool, true, false, List, [], ◌∷◌, ◌++◌}
use Rattle.std.proofs.Common.{All, None, Some, append_assoc, cond, get_or, length, map, refl, sym, ap, ◌∙◌, subst}
use Rattle.std.proofs.Common.{arith, ◌⊎◌}
use Rattle.std.proofs.Math.Seq.{take-length}
use Rattle.std.proofs.lemmas.Grind.{flat_map-append}
use Rattle.std.proofs.lemmas.List.{append-nil, get_or-map, length-map}
use Rattle.std.proofs.lemmas.List.Elements.{All-get_or, All-head}
use Rattle.std.specs.Prelude.{MatchBool, slice_get, take}
use Rattle.std.proofs.lemmas.Bool.Decides.{nat_tests}
use mathlib.Core.Option.{some}
use lib.ListN.{get_elem?}
use Rattle.atomic_table.specs.Table.{State}
use Rattle.gt_types.specs.declared.DomId.{DomId}
use Rattle.gt_types.specs.declared.config.Config.{Config}
use Rattle.gt_types.specs.declared.config.DomainConfig.{DomainConfig}
use Rattle.gt_word_history.specs.History.{Layout, Moment}
use Rattle.gt_words.specs.Conditions.{Board, SeatOf}
use Rattle.gt_words.specs.Laws.{length-ids, own_position}
use Rattle.gt_word_history.specs.Rule.{Shows, id_at}
use Rattle.gt_word_history.specs.Views.{IsAmong}
use Rattle.gt_word_history.specs.declared.view.FlagStep.{FlagStep}
use Rattle.gt_word_history.specs.declared.view.FlagStep.TheVariants.{Passed, Raised}
use Rattle.gt_word_history.specs.declared.view.View.{View}
use Rattle.gt_handles.specs.Handles.{HandleMap, value_of}
use Rattle.gt_model.specs.declared.held.HeldPin.{HeldPin}
use Rattle.gt_model.specs.declared.handle.Handle.{Handle}
use Rattle.gt_model.specs.declared.request.Request.{Request}
use Rattle.gt_model.specs.History.{setting_of}
use Rattle.gt_model.specs.Legal.{Legal}
use Rattle.gt_live.specs.Domains.{AllowRelation, HasLeft, BelongsTo}
use Rattle.gt_live.specs.Starting.{IsNewDomain}
use Rattle.gt_live.specs.declared.domain.Domain.{Domain}
use Rattle.gt_live.specs.declared.monitor.Monitor.{Monitor}
use Rattle.gt_linearization.proofs.Following.{Follows, answered-keeps, run_actions-both, follows-flag, follows-lost, follows-more}
use Rattle.gt_linearization.proofs.Following.{follows-none, gives-back, lost-memory}
use Rattle.gt_linearization.proofs.RunActions.{at-rest, run_actions-on}
use Rattle.gt_linearization.proofs.Happenings.{happenings, happenings-both, on_flag}
use Rattle.gt_linearization.proofs.Held.{Keeps, keeps-new, keeps-none}
use Rattle.gt_linearization.proofs.Leaving.{leaving}
use Rattle.gt_linearization.proofs.Order.{runs-have-legal-orders}
use Rattle.gt_linearization.proofs.Said.{said-fits}
use Rattle.gt_linearization.proofs.Served.{Serves, gate-split}
use Rattle.gt_linearization.specs.Explored.{IsLackOfMemory}
use Rattle.gt_linearization.specs.Printed.{ReleasesMappings, no_memory_answer}
use Rattle.gt_linearization.specs.Leaving.{AreReleases}
use Rattle.gt_linearization.specs.Ordering.{AreOnRaisedFlags, IsLegalOrder, RunOrder, events_of, items_in, order_of_actions}
use Rattle.gt_linearization.specs.Ordering.{own_in, trace_of}
use Rattle.gt_linearization.specs.Runs.{AreDeeds, CallMade, DomainAct, FlagMade, IsAtRest, IsMonitorRun, IsSeatRun, SeatRun}
use Rattle.gt_linearization.specs.Runs.{domain_after, CallOutcome}
use Rattle.gt_linearization.specs.Runs.DomainAct.{Call, Look, OnFlag}
use Rattle.gt_script_lines.specs.declared.calls.ScriptCall.{ScriptCall}
use Rattle.gt_script_runs.specs.Printing.{answer_line}
use Rattle.gt_script_runs.specs.Runs.{Named, MakesRequest, handle_given, label_given, with_name}
use Rattle.gt_script.specs.RunScripts.{list_of}
use Rattle.gt_explore_replay.specs.Orders.{ActionHappens, Happening, given_up, held_after, passed, raised}
use Rattle.gt_script.specs.Lists.{RunAction, RunTask}
use Rattle.gt_script.specs.Stuck.{IsBelow}
use Rattle.gt_script.specs.declared.tasks.RunAction.TheVariants.{Await, Do, Tell}
use Rattle.gt_run.specs.Asking.{Asks, MakesFlagStep, RaisesFlag}
use Rattle.gt_run.specs.Printing.{AreServed, HasViewIn, Served, ShowOneState, WasServed, jobs_in}
use Rattle.gt_run.specs.Serving.{DoesAction, DoesWhere, EndsList, ListLeadsTo, MakesCall, ListOutcome, ListProgress}
use Rattle.gt_run.specs.Serving.{AwaitsRefusedFlag, answer_lines, gate_line, list_start}
use Rattle.gt_run.specs.declared.lists.ThreadJob.{ThreadJob}
use Rattle.gt_linearization.specs.Texts.{AreDeedsOf, IsDoneFor, IsFlagStepOf, AreDeedsOfList, AreOfALegalOrder, HasList}
use Rattle.gt_linearization.specs.Texts.{AreOfOneOrder, HasAllFrames, IsViewOf, RunsWriteALegalOrder, TextsAreOfALegalOrder}
use Rattle.gt_types.specs.Config.{IsWithinLimits}
use Rattle.gt_linearization.proofs.Answering.{IsLostAs, IsMade, is-made}
use Rattle.gt_linearization.specs.Calling.{WasMade}
use Rattle.gt_linearization.specs.Runs.CallOutcome.{Judged}
use Rattle.gt_model.specs.declared.action.CallResult.TheVariants.{Granted}
use Rattle.gt_model.specs.declared.request.Request.TheVariants as requests
use Rattle.gt_model.specs.declared.trace.Answer.{Answer}
use Rattle.gt_types.specs.declared.copies.CopyArgs.{CopyArgs}

module _ {A : Type 0} where
  in-left : (x : A) (xs ys : List A) → IsAmong x xs → IsAmong x (xs ++ ys)
  in-left x [] ys is = absurd is
  in-left x (z ∷ zs) ys (inl e) = inl e
  in-left x (z ∷ zs) ys (inr is) = inr (in-left x zs ys is)

  in-last : (x : A) (xs : List A) → IsAmong x (xs ++ x ∷ [])
  in-last x [] = inl refl
  in-last x (z ∷ zs) = inr (in-last x zs)

-- the flags of these lines are the run's
abbrev pub AreFlagsOf : {P : Type 0} → Monitor P → List RunTask → Type 0
AreFlagsOf m tasks = (task : RunTask) → IsAmong task tasks → IsBelow m.words.flags task.run_action

-- a call of these outcomes got no memory
abbrev pub LacksMemory : List ListOutcome → Type 0
LacksMemory outcomes = (o : ListOutcome) × IsAmong o outcomes × IsLackOfMemory o

-- the list was stopped by its gate, which may refuse the flag of this line
abbrev pub IsStopped : {P : Type 0} → (ℕ → Bool) → Served P → RunAction → Type 0
IsStopped refuses s run_action = AwaitsRefusedFlag refuses run_action × ((before : List ℕ) × (line : ℕ) × (s.text ≡ before ++ gate_line line s.job.part.dom))

not-below : (i n : ℕ) → nat_lt i n ≡ false → i < n → ⊥
not-below i n e l = grind (arith, nat_tests)

module _ {P : Type 0} (may : P → AllowRelation) (refuses : ℕ → Bool) (m : Monitor P) where
  -- a list, as far as it has come
  module _ (job : ThreadJob P) (over : job.monitor.now ≡ m) (final : List ListOutcome) (first : Domain) (Stopped : RunAction → Type 0) where
    -- the outcomes so far stay among those at the end
    abbrev AreFinal : ListProgress → Type 0
    AreFinal p = (o : ListOutcome) → IsAmong o p.outcomes → IsAmong o final

    same-outcomes : (p q : ListProgress) → q ≡ record p { domain = q.domain } → AreFinal q → AreFinal p
    same-outcomes p q same all = λ o is. all o (subst (IsAmong o) (ap (λ (r : ListProgress). r.outcomes) (sym same)) is)

    run_action-grows : (line : ℕ) (run_action : RunAction) (p q : ListProgress) → DoesAction may job line run_action p q → AreFinal q → AreFinal p
    unfolding DoesAction
    run_action-grows line (Do call) p q does all = λ o is. all o (subst (IsAmong o) (sym does.outcomes) (in-left o p.outcomes _ is))
    run_action-grows line (Tell flag) p q does all = same-outcomes p q does.0 all
    run_action-grows line (Await flag) p q does all = same-outcomes p q does.0 all

    line-grows : (task : RunTask) (b : Bool) (p q : ListProgress) → DoesWhere b may job task p q → AreFinal q → AreFinal p
    line-grows task true p q does all = run_action-grows task.line task.run_action p q does all
    line-grows task false p q does all = subst AreFinal does all

    grows : (tasks : List RunTask) (p q : ListProgress) → ListLeadsTo may job p tasks q → AreFinal q → AreFinal p
    grows [] p q leads all = subst AreFinal leads all
    grows (task ∷ tasks) p q leads all = line-grows task (task.dom.0 == job.part.dom.0) p leads.0 leads.1 (grows tasks leads.0 q leads.2 all)

    -- the flags of the list are the run's, and its table has all frames
    abbrev IsFollowed : Type 0
    IsFollowed = AreFlagsOf m job.part.tasks.now × HasAllFrames m

    record Come (done : List RunTask) (p : ListProgress) : Type 0 where
      made : List DomainAct
      deeds_are : AreDeeds m.words m.config (may m.rights) first made
      now : domain_after first made ≡ p.domain
      lines : AreDeedsOf may job made p
      mine : BelongsTo may m p.domain
      held : List Handle
      keeps : Keeps p.domain.mappings held
      follows : IsFollowed → Follows (LacksMemory final) Stopped m.config (may m.rights) job.part.types.now job.part.dom p.named held done made (answer_lines job.part.types.now job.part.dom p.outcomes)

    -- one more call of the list, which is this one of the run
    call-comes : (task : RunTask) → IsAmong task job.part.tasks.now → (call : ScriptCall) → task.run_action ≡ Do call → (done : List RunTask) (p q : ListProgress) (x : MakesCall may job task.line call p q) (come : Come done p) (request : Request) (outcome : CallOutcome) (steps : List Moment)
        → WasMade may m request outcome steps p.domain q.domain → IsDoneFor m (record { request = request; outcome = outcome; steps = steps; old = p.domain; new = q.domain }) x.request x.answer
        → (IsFollowed → Follows (LacksMemory final) Stopped m.config (may m.rights) job.part.types.now job.part.dom (with_name p.named job.part.dom (label_given call) (handle_given x.answer)) (held_after come.held (given_up x.request) x.answer) (done ++ task ∷ [])
        (Call (record { request = request; outcome = outcome; steps = steps; old = p.domain; new = q.domain }) ∷ come.made) (answer_lines job.part.types.now job.part.dom p.outcomes ++ answer_line job.part.types.now task.line job.part.dom x.answer))
        → Come (done ++ task ∷ []) q
    call-comes task is-in call run_action done p q x come request outcome steps made for follows =
        let asks : Asks may m p.domain x.request x.answer q.domain = subst (λ (y : Monitor P). Asks may y p.domain x.request x.answer q.domain) over x.asks in
        let m' : CallMade = record { request = request; outcome = outcome; steps = steps; old = p.domain; new = q.domain } in
        let o : ListOutcome = record { line = task.line; answer = x.answer; recorded = x.recorded; lost = x.lost } in
        let types = job.part.types.now in let dom = job.part.dom in
        let printed : answer_lines types dom q.outcomes ≡ answer_lines types dom p.outcomes ++ answer_line types task.line dom x.answer =
        ap (answer_lines types dom) x.outcomes ∙ (flat_map-append (λ (y : ListOutcome). answer_line types y.line dom y.answer) p.outcomes (o ∷ [])
        ∙ ap (λ (l : List ℕ). answer_lines types dom p.outcomes ++ l) (append-nil (answer_line types task.line dom x.answer))) in
        let later : List Handle = held_after come.held (given_up x.request) x.answer in
        record {
          made = Call m' ∷ come.made;
          deeds_are = (made, subst (λ (y : Domain). IsAtRest y p.domain) (sym come.now) (record { seat = refl; own = refl; mappings = refl }), come.deeds_are);
          now = refl;
          lines = (p, record { task = task; listed = is-in; call = call; run_action = run_action; made = x; old = refl; new = refl; done_for = subst (λ (y : Monitor P). IsDoneFor y m' x.request x.answer) (sym over) for }, come.lines);
          mine = asks.2.0;
          held = later;
          keeps = answered-keeps may m p.domain q.domain come.held come.keeps x.request x.answer asks.1;
          follows = λ followed.
              subst (Follows (LacksMemory final) Stopped m.config (may m.rights) types dom q.named later (done ++ task ∷ []) (Call m' ∷ come.made)) (sym printed)
              (subst (λ (named : List Named). Follows (LacksMemory final) Stopped m.config (may m.rights) types dom named later (done ++ task ∷ []) (Call m' ∷ come.made) (answer_lines types dom p.outcomes ++ answer_line types task.line dom x.answer)) (sym x.named) (follows followed));
        }

    one-call : (task : RunTask) → IsAmong task job.part.tasks.now → (call : ScriptCall) (done : List RunTask) (p q : ListProgress) → task.run_action ≡ Do call
        → (x : MakesCall may job task.line call p q) → (x.answer ≡ no_memory_answer → LacksMemory final) → Come done p → Come (done ++ task ∷ []) q
    one-call task is-in call done p q run_action x starves come = by (is-made may m p.domain q.domain (record { before = come.mine; afterwards = asks.2.0; seat = asks.2.1 }) x.request x.answer (said-fits call p.named job.part.dom x.request x.fits x.makes) asks.1)
      where
        asks : Asks may m p.domain x.request x.answer q.domain
        asks = subst (λ (y : Monitor P). Asks may y p.domain x.request x.answer q.domain) over x.asks

        types : List (List ℕ)
        types = job.part.types.now

        dom : DomId
        dom = job.part.dom

        -- the handles and the line of an answer without memory
        without : (answer : Answer) (request : Request) (args : CopyArgs) (m' : CallMade) → answer ≡ no_memory_answer → request ≡ requests.Copy args
            → Follows (LacksMemory final) Stopped m.config (may m.rights) types dom (with_name p.named dom (label_given call) None) come.held (done ++ task ∷ []) (Call m' ∷ come.made) (answer_lines types dom p.outcomes ++ answer_line types task.line dom no_memory_answer)
            → Follows (LacksMemory final) Stopped m.config (may m.rights) types dom (with_name p.named dom (label_given call) (handle_given answer)) (held_after come.held (given_up request) answer) (done ++ task ∷ []) (Call m' ∷ come.made) (answer_lines types dom p.outcomes ++ answer_line types task.line dom answer)
        without answer request args m' is copy f =
            subst (λ (q : Answer × Request). Follows (LacksMemory final) Stopped m.config (may m.rights) types dom (with_name p.named dom (label_given call) (handle_given q.0)) (held_after come.held (given_up q.1) q.0) (done ++ task ∷ []) (Call m' ∷ come.made) (answer_lines types dom p.outcomes ++ answer_line types task.line dom q.0))
            (λ j. (sym is j, sym copy j)) f

        by : IsMade may m x.request x.answer p.domain q.domain ⊎ IsLostAs may m x.request x.answer p.domain q.domain → Come (done ++ task ∷ []) q
        by (inl z) =
            call-comes task is-in call run_action done p q x come x.request z.0 z.1 z.3 (inl (refl, z.2))
            (λ followed. follows-more (LacksMemory final) Stopped m.config (may m.rights) types dom m followed.1 p.named come.held done come.made (answer_lines types dom p.outcomes) task call (record { request = x.request; outcome = z.0; steps = z.1; old = p.domain; new = q.domain }) x.answer
            (come.follows followed) run_action x.makes z.2 z.4 starves)
        by (inr (args, copy, denial, refused, lost, (steps, made))) =
            let m' : CallMade = record { request = requests.Probe args; outcome = Judged Granted; steps = steps; old = p.domain; new = q.domain } in
            call-comes task is-in call run_action done p q x come (requests.Probe args) (Judged Granted) steps made
            (inr (record { args = args; copy = copy; probe = refl; outcome = refl; denial = denial; refused = refused; lost = lost }))
            (λ followed.
            let none : x.answer ≡ no_memory_answer = lost-memory m followed.1 x.answer denial refused lost in
            without x.answer x.request args m' none copy
            (follows-lost (LacksMemory final) Stopped m.config (may m.rights) types dom p.named come.held done come.made (answer_lines types dom p.outcomes) task call m' args
            (come.follows followed) run_action (subst (MakesRequest p.named dom call) copy x.makes) refl refl (starves none)))

    -- a line that made a step on a flag
    one-flag : (task : RunTask) → IsAmong task job.part.tasks.now → (flag : ℕ) (step : FlagStep) → IsFlagStepOf task.run_action flag step → (done : List RunTask) (p q : ListProgress) → q ≡ record p { domain = q.domain } → MakesFlagStep may job.monitor.now flag step p.domain q.domain
        → ((types : List (List ℕ)) (dom : DomId) (named : List Named) (held : List Handle) (Next : List Named → List Handle → List Happening → List ℕ → Type 0) (more : List Happening) (text : List ℕ) → Next named held more text
        → ActionHappens types dom named held task.line task.run_action Next (on_flag dom flag step ∷ more) text)
        → Come done p → Come (done ++ task ∷ []) q
    one-flag task is-in flag step asks done p q same makes happens come =
        let made : MakesFlagStep may m flag step p.domain q.domain = subst (λ (y : Monitor P). MakesFlagStep may y flag step p.domain q.domain) over makes in
        let x : FlagMade = record { flag = flag; step = step; old = p.domain; new = q.domain } in
        let types = job.part.types.now in let dom = job.part.dom in
        let outcomes : p.outcomes ≡ q.outcomes = ap (λ (r : ListProgress). r.outcomes) (sym same) in
        record {
          made = OnFlag x ∷ come.made;
          deeds_are = (made.0, subst (λ (y : Domain). IsAtRest y p.domain) (sym come.now) (record { seat = refl; own = refl; mappings = refl }), come.deeds_are);
          now = refl;
          lines = ((task, is-in, asks), (p, same, come.lines));
          mine = made.1.0;
          held = come.held;
          keeps = subst (λ (y : HandleMap HeldPin). Keeps y come.held) (sym made.0.kept.mappings) come.keeps;
          follows = λ followed.
              subst (λ (os : List ListOutcome). Follows (LacksMemory final) Stopped m.config (may m.rights) types dom q.named come.held (done ++ task ∷ []) (OnFlag x ∷ come.made) (answer_lines types dom os)) outcomes
              (subst (λ (named : List Named). Follows (LacksMemory final) Stopped m.config (may m.rights) types dom named come.held (done ++ task ∷ []) (OnFlag x ∷ come.made) (answer_lines types dom p.outcomes)) (ap (λ (r : ListProgress). r.named) (sym same))
              (follows-flag (LacksMemory final) Stopped m.config (may m.rights) types dom p.named come.held done come.made (answer_lines types dom p.outcomes) task x (come.follows followed) (happens types dom p.named come.held)));
        }

    -- a flag that the run doesn't have, so that the list is not followed
    no-flag : (task : RunTask) (done : List RunTask) (p q : ListProgress) → (IsFollowed → ⊥) → q ≡ record p { domain = q.domain } → q.domain ≡ p.domain → Come done p → Come (done ++ task ∷ []) q
    no-flag task done p q none same still come = subst (Come (done ++ task ∷ [])) (sym (same ∙ ap (λ (d : Domain). record p { domain = d }) still)) (record {
      made = come.made;
      deeds_are = come.deeds_are;
      now = come.now;
      lines = come.lines;
      mine = come.mine;
      held = come.held;
      keeps = come.keeps;
      follows = λ followed. absurd (none followed);
    })

    -- a line that raises a flag, if the run has it
    raising : (task : RunTask) → IsAmong task job.part.tasks.now → (flag : ℕ) → task.run_action ≡ Tell flag → (done : List RunTask) (p q : ListProgress) → q ≡ record p { domain = q.domain } → RaisesFlag may job.monitor.now flag p.domain q.domain → Come done p → Come (done ++ task ∷ []) q
    raising task is-in flag is done p q same raises come = by (nat_lt flag job.monitor.now.words.flags) refl raises
      where
        by : (b : Bool) → nat_lt flag job.monitor.now.words.flags ≡ b → MatchBool b (MakesFlagStep may job.monitor.now flag Raised p.domain q.domain) (q.domain ≡ p.domain) → Come (done ++ task ∷ []) q
        by true has makes = one-flag task is-in flag Raised (subst (λ (a : RunAction). IsFlagStepOf a flag Raised) (sym is) refl) done p q same makes (λ types dom named held Next more text f. subst (λ (a : RunAction). ActionHappens types dom named held task.line a Next (raised dom flag ∷ more) text) (sym is) (more, refl, f)) come
        by false has still = no-flag task done p q (λ followed. not-below flag m.words.flags (ap (λ (y : Monitor P). nat_lt flag y.words.flags) (sym over) ∙ has) (subst (IsBelow m.words.flags) is (followed.0 task is-in))) same still come

    one-run_action : (task : RunTask) → IsAmong task job.part.tasks.now → (task.dom.0 == job.part.dom.0) ≡ true → (run_action : RunAction) → task.run_action ≡ run_action → (done : List RunTask) (p q : ListProgress) → DoesAction may job task.line run_action p q → AreFinal q → Come done p → Come (done ++ task ∷ []) q
    unfolding DoesAction
    one-run_action task is-in own (Do call) is done p q does all come =
        let o : ListOutcome = record { line = task.line; answer = does.answer; recorded = does.recorded; lost = does.lost } in
        let there = all o (subst (IsAmong o) (sym does.outcomes) (in-last o p.outcomes)) in
        one-call task is-in call done p q is does (λ none. (o, there, none)) come
    one-run_action task is-in own (Tell flag) is done p q does all come = raising task is-in flag is done p q does.0 does.1 come
    one-run_action task is-in own (Await flag) is done p q does all come =
        one-flag task is-in flag Passed (subst (λ (a : RunAction). IsFlagStepOf a flag Passed) (sym is) refl) done p q does.0 does.1 (λ types dom named held Next more text f. subst (λ (a : RunAction). ActionHappens types dom named held task.line a Next (passed dom flag ∷ more) text) (sym is) (more, refl, f)) come

    one-line : (task : RunTask) → IsAmong task job.part.tasks.now → (b : Bool) → (task.dom.0 == job.part.dom.0) ≡ b → (done : List RunTask) (p q : ListProgress) → DoesWhere b may job task p q → AreFinal q → Come done p → Come (done ++ cond b (task ∷ []) []) q
    one-line task is-in true own done p q does all come = one-run_action task is-in own task.run_action refl done p q does all come
    one-line task is-in false own done p q does all come = subst (λ (ts : List RunTask). Come ts q) (sym (append-nil done)) (subst (Come done) (sym does) come)

    then-rest : (b : Bool) (done : List RunTask) (task : RunTask) (rest : List RunTask) → (done ++ cond b (task ∷ []) []) ++ rest ≡ done ++ cond b (task ∷ rest) rest
    then-rest true done task rest = append_assoc done (task ∷ []) rest
    then-rest false done task rest = ap (λ (l : List RunTask). l ++ rest) (append-nil done)

    comes : (tasks : List RunTask) → ((task : RunTask) → IsAmong task tasks → IsAmong task job.part.tasks.now) → (done : List RunTask) (p q : ListProgress) → ListLeadsTo may job p tasks q → AreFinal q → Come done p → Come (done ++ list_of tasks job.part.dom) q
    comes [] each done p q leads all come = subst (λ (ts : List RunTask). Come ts q) (sym (append-nil done)) (subst (Come done) (sym leads) come)
    comes (task ∷ tasks) each done p q leads all come =
        subst (λ (ts : List RunTask). Come ts q) (then-rest (task.dom.0 == job.part.dom.0) done task (list_of tasks job.part.dom))
        (comes tasks (λ t is. each t (inr is)) (done ++ cond (task.dom.0 == job.part.dom.0) (task ∷ []) []) leads.0 q leads.2 all
        (one-line task (each task (inl refl)) (task.dom.0 == job.part.dom.0) refl done p leads.0 leads.1 (grows tasks leads.0 q leads.2 all) come))

  take-in : {A : Type 0} (n : ℕ) (xs : List A) (x : A) → IsAmong x (take n xs) → IsAmong x xs
  take-in zero xs x is = absurd is
  take-in (suc n) [] x is = absurd is
  take-in (suc n) (y ∷ ys) x (inl e) = inl e
  take-in (suc n) (y ∷ ys) x (inr is) = inr (take-in n ys x is)

  -- unmaps behind the calls of a list
  module _ (first d : Domain) (ms : List DomainAct) (now : domain_after first ms ≡ d) where
    after-on : (us : List DomainAct) → domain_after first (us ++ ms) ≡ domain_after d us
    after-on [] = now
    after-on (Call u ∷ us) = refl
    after-on (OnFlag x ∷ us) = refl
    after-on (Look x ∷ us) = refl

  -- the domain left after its list
  abbrev IsGone : (d : Domain) (v : View) → IsViewOf m.words m.config (may m.rights) d v → Type 0
  IsGone d v (inl e) = ⊥
  IsGone d v (inr g) = Unit {0}

  -- what these deeds did follows the list
  abbrev DidFollow : Served P → List DomainAct → Type 0
  DidFollow s made = AreFlagsOf m s.job.part.tasks.now → HasAllFrames m
      → Serves (LacksMemory s.outcomes) (IsStopped refuses s) s.job.part.types.now s.job.part.dom [] [] (list_of s.job.part.tasks.now s.job.part.dom) (happenings (order_of_actions m.config (may m.rights) s.job.part.dom made)) s.text

  -- a list that was served, up to its last view
  record Finished (i : ℕ) (s : Served P) (v : View) (gone : Type 0) : Type 0 where
    first : Domain
    starts : IsNewDomain m.words m.config (may m.rights) i first
    made : List DomainAct
    deeds_are : AreDeeds m.words m.config (may m.rights) first made
    view : (domain_after first made).seat.view ≡ v
    of_list : AreDeedsOfList may s made
    follows : gone → DidFollow s made

  -- a domain of this number is at that position
  stands-at : (i p : ℕ) (d : Domain) → i < length m.config.domains.items → IsNewDomain m.words m.config (may m.rights) p d → d.seat.dom ≡ id_at m.words.layout.ids i → p ≡ i
  stands-at i p d inside fresh own =
      let k : Layout = m.words.layout in let seat = fresh.seat.seat in
      let long : length k.ids ≡ length m.config.domains.items = ap (λ (l : Layout). length l.ids) m.same_run ∙ length-ids m.config.domains.items in
      let here = own_position m.config k k.ids d.seat.view.position d.seat.dom (sym m.same_run) m.limits.distinct (ap (λ (l : Layout). l.ids) m.same_run) seat.inside seat.named in
      let there = own_position m.config k k.ids i d.seat.dom (sym m.same_run) m.limits.distinct (ap (λ (l : Layout). l.ids) m.same_run) (omega arith) (sym own) in
      sym fresh.seat.position ∙ (here ∙ sym there)

  module _ (i : ℕ) (s : Served P) (inside : i < length m.config.domains.items) (l : HasList may refuses m i s) where
    fresh : IsNewDomain m.words m.config (may m.rights) l.served.first.position l.served.domain
    fresh = subst (λ (y : Monitor P). IsNewDomain y.words y.config (may y.rights) l.served.first.position l.served.domain) l.monitor l.served.first.fresh

    starts : IsNewDomain m.words m.config (may m.rights) i l.served.domain
    starts = subst (λ (p : ℕ). IsNewDomain m.words m.config (may m.rights) p l.served.domain) (stands-at i l.served.first.position l.served.domain inside fresh (l.served.first.own ∙ l.dom)) fresh

    come : Come s.job l.monitor s.outcomes l.served.domain (IsStopped refuses s) (list_of (take l.served.number s.job.part.tasks.now) s.job.part.dom) l.served.left
    come = comes s.job l.monitor s.outcomes l.served.domain (IsStopped refuses s) (take l.served.number s.job.part.tasks.now) (λ t is. take-in l.served.number s.job.part.tasks.now t is) [] (list_start l.served.domain) l.served.left l.served.leads (λ o is. subst (IsAmong o) l.served.came is)
        (record {
          made = [];
          deeds_are = tt;
          now = refl;
          lines = (refl, refl);
          mine = fresh.domain;
          held = [];
          keeps = keeps-new l.served.domain.mappings fresh.mappings;
          follows = λ followed. follows-none (LacksMemory s.outcomes) (IsStopped refuses s) m.config (may m.rights) s.job.part.types.now s.job.part.dom;
        })

    -- the calls and the releases behind them follow the list
    followed : (us : List DomainAct) → AreDeeds m.words m.config (may m.rights) l.served.left.domain us → AreReleases us → ((h : Handle) → value_of (domain_after l.served.left.domain us).mappings h ≡ None) → DidFollow s (us ++ come.made)
    followed us calls unmaps none numbered all = by l.served.ends
      where
        types : List (List ℕ)
        types = s.job.part.types.now

        dom : DomId
        dom = s.job.part.dom

        tasks : List RunTask
        tasks = s.job.part.tasks.now

        left : RunOrder
        left = order_of_actions m.config (may m.rights) dom us

        listed : RunOrder
        listed = order_of_actions m.config (may m.rights) dom come.made

        leaves : ReleasesMappings dom come.held (happenings left ++ [])
        leaves =
            let behind = gives-back m.config (may m.rights) types dom m.words l.served.left.domain us come.held calls unmaps come.keeps in
            let empty : behind.held' ≡ [] = keeps-none (domain_after l.served.left.domain us).mappings behind.held' none behind.keeps in
            (behind.order ++ [], behind.back [] [] (empty, refl))

        -- with the lines that were not served, and what was printed at the end
        ends-so : (rest : List RunTask) (last : List ℕ) → list_of (take l.served.number tasks) dom ++ rest ≡ list_of tasks dom → l.served.last ≡ last → Serves (LacksMemory s.outcomes) (IsStopped refuses s) types dom l.served.left.named come.held rest (happenings left ++ []) last
            → Serves (LacksMemory s.outcomes) (IsStopped refuses s) types dom [] [] (list_of tasks dom) (happenings (order_of_actions m.config (may m.rights) dom (us ++ come.made))) s.text
        ends-so rest last e1 printed serves =
            let f = come.follows (numbered, all) rest (happenings left ++ []) last serves in
            let e2 : happenings listed ++ (happenings left ++ []) ≡ happenings (order_of_actions m.config (may m.rights) dom (us ++ come.made)) =
            ap (λ (hs : List Happening). happenings listed ++ hs) (append-nil (happenings left)) ∙ (sym (happenings-both left listed) ∙ ap happenings (sym (run_actions-both m.config (may m.rights) types dom us come.made))) in
            let e3 : answer_lines types dom l.served.left.outcomes ++ last ≡ s.text = sym (l.served.prints ∙ (λ j. answer_lines types dom (sym l.served.came j) ++ printed j)) in
            subst (λ (ts : List RunTask). Serves (LacksMemory s.outcomes) (IsStopped refuses s) types dom [] [] ts (happenings (order_of_actions m.config (may m.rights) dom (us ++ come.made))) s.text) e1
            (subst (λ (hs : List Happening). Serves (LacksMemory s.outcomes) (IsStopped refuses s) types dom [] [] (list_of (take l.served.number tasks) dom ++ rest) hs s.text) e2
            (subst (λ (text : List ℕ). Serves (LacksMemory s.outcomes) (IsStopped refuses s) types dom [] [] (list_of (take l.served.number tasks) dom ++ rest) (happenings listed ++ (happenings left ++ [])) text) e3 f))

        by : EndsList refuses dom tasks l.served.number l.served.last → Serves (LacksMemory s.outcomes) (IsStopped refuses s) types dom [] [] (list_of tasks dom) (happenings (order_of_actions m.config (may m.rights) dom (us ++ come.made))) s.text
        by (inl e) =
            ends-so [] [] (append-nil (list_of (take l.served.number tasks) dom) ∙ ap (λ (ts : List RunTask). list_of ts dom) (ap (λ (n : ℕ). take n tasks) e.0 ∙ take-length tasks)) e.1 (leaves, refl)
        by (inr stops) =
            let split = gate-split tasks l.served.number stops.at dom stops.stands stops.own in
            let stopped : IsStopped refuses s stops.at.run_action = (stops.refused, (answer_lines types dom s.outcomes, stops.at.line, l.served.prints ∙ ap (λ (t : List ℕ). answer_lines types dom s.outcomes ++ t) stops.last_is)) in
            ends-so (stops.at ∷ split.0) (gate_line stops.at.line dom) (sym split.1) stops.last_is (inr (inr (stopped, leaves, refl)))

    finished : (v : View) (ends : IsViewOf m.words m.config (may m.rights) l.served.left.domain v) → Finished i s v (IsGone l.served.left.domain v ends)
    finished v (inl e) = record {
      first = l.served.domain;
      starts = starts;
      made = come.made;
      deeds_are = come.deeds_are;
      view = ap (λ (d : Domain). d.seat.view) come.now ∙ sym e;
      of_list = record { leaving = []; listed = come.made; all = refl; releases = tt; left = l.served.left; lines = come.lines; outcomes = l.served.came };
      follows = λ gone. absurd gone;
    }
    finished v (inr g) = let u = leaving m.words m.config (may m.rights) l.served.left.domain g.0 come.mine g.1 in record {
      first = l.served.domain;
      starts = starts;
      made = u.0 ++ come.made;
      deeds_are = run_actions-on l.served.domain l.served.left.domain come.made (at-rest l.served.left.domain (domain_after l.served.domain come.made) come.now) m.words m.config (may m.rights) u.0 come.deeds_are u.1;
      view = ap (λ (d : Domain). d.seat.view) (after-on l.served.domain l.served.left.domain come.made come.now u.0) ∙ (u.3 ∙ sym g.2);
      of_list = record { leaving = u.0; listed = come.made; all = refl; releases = u.2; left = l.served.left; lines = come.lines; outcomes = l.served.came };
      follows = λ gone. followed u.0 u.1 u.2 u.4;
    }

  below : (i n : ℕ) → nat_lt i n ≡ true → i < n
  below i n e = grind (arith, nat_tests)

  -- all lists
  module _ (lists : ℕ → Served P) (s : State (Unit {0}) View) (ends : ℕ → View)
      (each : (i : ℕ) → i < length m.config.domains.items → (l : HasList may refuses m i (lists i)) × IsViewOf m.words m.config (may m.rights) l.served.left.domain (ends i) × (get_elem? s.views i ≡ some (ends i))) where
    abbrev Gone : (i : ℕ) → i < length m.config.domains.items → Type 0
    Gone i inside = IsGone (each i inside).0.served.left.domain (ends i) (each i inside).1

    done : (i : ℕ) (inside : i < length m.config.domains.items) → Finished i (lists i) (ends i) (Gone i inside)
    done i inside = let l = each i inside in finished i (lists i) inside l.0 (ends i) l.1

    abbrev run-of : (i : ℕ) → i < length m.config.domains.items → SeatRun
    run-of i inside = record { first = (done i inside).first; run_actions = (done i inside).made }

    -- beyond the domains any run will do
    abbrev pick : (i : ℕ) (b : Bool) → nat_lt i (length m.config.domains.items) ≡ b → SeatRun
    pick i true e = run-of i (below i (length m.config.domains.items) e)
    pick i false e = run-of 0 (let some = m.limits.some in omega arith)

    abbrev seats : ℕ → SeatRun
    seats i = pick i (nat_lt i (length m.config.domains.items)) refl

    runs-so : (i : ℕ) → i < length m.config.domains.items → (b : Bool) (e : nat_lt i (length m.config.domains.items) ≡ b)
        → IsSeatRun m.words m.config (may m.rights) i (pick i b e) s.views × AreDeedsOfList may (lists i) (pick i b e).run_actions
        × ((inside : i < length m.config.domains.items) × (Gone i inside → DidFollow (lists i) (pick i b e).run_actions))
    runs-so i inside true e = let l : i < length m.config.domains.items = below i (length m.config.domains.items) e in let f = done i l in
        (record { starts = f.starts; run_actions = f.deeds_are; now = (each i l).2 ∙ ap (λ (v : View). some v) (sym f.view) }, f.of_list, (l, f.follows))
    runs-so i inside false e = absurd (not-below i (length m.config.domains.items) e inside)

    -- the order of a run, with what each list's calls are
    text-order : IsWithinLimits m.config → (shown : Shows m.words.layout s)
        → (o : RunOrder) × IsLegalOrder m.config (may m.rights) m.words.layout shown.history seats o × ((i : ℕ) → i < length m.config.domains.items → AreDeedsOfList may (lists i) (seats i).run_actions
        × ((inside : i < length m.config.domains.items) × (Gone i inside → DidFollow (lists i) (seats i).run_actions)))
    text-order limits shown =
        let run : IsMonitorRun m.words m.config (may m.rights) s seats =
        record { limits = limits; layout = m.same_run; shown = shown; each = λ i inside. (runs-so i inside (nat_lt i (length m.config.domains.items)) refl).0 } in
        let order = runs-have-legal-orders m.words m.config (may m.rights) s seats run in
        (order.0, order.1, λ i inside. let r = runs-so i inside (nat_lt i (length m.config.domains.items)) refl in (r.1, r.2))

    text-legal : IsWithinLimits m.config → (shown : Shows m.words.layout s) → AreOfALegalOrder may m shown.history lists
    text-legal limits shown = let o = text-order limits shown in record { order = o.0; seats = seats; legal = o.1; each = λ i inside. (o.2 i inside).0 }

pub texts-legal : {P : Type 0} (may : P → AllowRelation) (m : Monitor P) → TextsAreOfALegalOrder may m
texts-legal may m refuses lists s ends limits each shown = text-legal may refuses m lists s ends each limits shown

found : {A : Type 0} (xs : List A) (i : ℕ) (x d : A) → slice_get xs i ≡ Some x → get_or xs i d ≡ x
found [] i x d e = cc
found (y ∷ ys) zero x d e = cc
found (y ∷ ys) (suc i) x d e = found ys i x d e

stays-at : (b : Board) (c : Config) (may : AllowRelation) (i : ℕ) (first : Domain) (ms : List DomainAct) → first.seat.view.position ≡ i → AreDeeds b c may first ms → (domain_after first ms).seat.view.position ≡ i
stays-at b c may i first [] at calls = at
stays-at b c may i first (Call u ∷ us) at calls = calls.0.seat.position ∙ (ap (λ (z : SeatOf). z.view.position) calls.1.seat ∙ stays-at b c may i first us at calls.2)
stays-at b c may i first (OnFlag x ∷ us) at calls = calls.0.kept.seat.position ∙ (ap (λ (z : SeatOf). z.view.position) calls.1.seat ∙ stays-at b c may i first us at calls.2)
stays-at b c may i first (Look x ∷ us) at calls = calls.0.kept.seat.position ∙ (ap (λ (z : SeatOf). z.view.position) calls.1.seat ∙ stays-at b c may i first us at calls.2)

-- what a run wrote is the text of a legal order
module _ {P : Type 0} (may : P → AllowRelation) (refuses : ℕ → Bool) (m : Monitor P) (x : Served P) (xs : List (Served P)) (on : All (λ (d : ThreadJob P). d.monitor.now ≡ m) (jobs_in (x ∷ xs)))
    (ids : map (λ (d : ThreadJob P). d.part.dom) (jobs_in (x ∷ xs)) ≡ map (λ (d : DomainConfig). d.id) m.config.domains.items) (are : AreServed may refuses (x ∷ xs)) (one : ShowOneState (x ∷ xs)) where
  abbrev lists : ℕ → Served P
  lists i = get_or (x ∷ xs) i x

  many : length (jobs_in (x ∷ xs)) ≡ length m.config.domains.items
  many = sym (length-map (jobs_in (x ∷ xs)) (λ (d : ThreadJob P). d.part.dom)) ∙ ap length ids ∙ length-map m.config.domains.items (λ (d : DomainConfig). d.id)

  within : (i : ℕ) → i < length m.config.domains.items → i < length (x ∷ xs)
  within i l = let e = length-map (x ∷ xs) (λ (s : Served P). s.job) in omega (arith, e, many)

  job-at : (i : ℕ) → i < length m.config.domains.items → get_or (jobs_in (x ∷ xs)) i x.job ≡ (lists i).job
  job-at i l = get_or-map (λ (s : Served P). s.job) (x ∷ xs) i x x.job (within i l)

  list-at : (i : ℕ) → i < length m.config.domains.items → HasList may refuses m i (lists i)
  list-at i l =
      let inside : i < length (jobs_in (x ∷ xs)) = omega (arith, many) in record {
        monitor = subst (λ (d : ThreadJob P). d.monitor.now ≡ m) (job-at i l) (All-get_or (λ (d : ThreadJob P). d.monitor.now ≡ m) (jobs_in (x ∷ xs)) i x.job inside on);
        dom = ap (λ (d : ThreadJob P). d.part.dom) (sym (job-at i l)) ∙ sym (get_or-map (λ (d : ThreadJob P). d.part.dom) (jobs_in (x ∷ xs)) i x.job (record { 0 = 0 }) inside)
            ∙ ap (λ (ys : List DomId). id_at ys i) (ids ∙ sym (ap (λ (k : Layout). k.ids) m.same_run));
        served = All-get_or (WasServed may refuses) (x ∷ xs) i x (within i l) are;
      }

  left-at : (i : ℕ) (l : i < length m.config.domains.items) → IsViewOf m.words m.config (may m.rights) (list-at i l).served.left.domain (lists i).departed.seat.view
  left-at i l =
      let h = list-at i l in
      inr ((lists i).departed, subst (λ (n : Monitor P). HasLeft n.words.layout h.served.left.domain (lists i).departed) h.monitor h.served.leaves, refl)

  view-at : (i : ℕ) (l : i < length m.config.domains.items) → get_elem? one.0.views i ≡ some (lists i).departed.seat.view
  view-at i l =
      let f = finished may refuses m i (lists i) l (list-at i l) (lists i).departed.seat.view (left-at i l) in
      let here : (lists i).departed.seat.view.position ≡ i = ap (λ (v : View). v.position) (sym f.view) ∙ stays-at m.words m.config (may m.rights) i f.first f.made f.starts.seat.position f.deeds_are in
      subst (λ (p : ℕ). get_elem? one.0.views p ≡ some (lists i).departed.seat.view) here (All-get_or (HasViewIn one.0) (x ∷ xs) i x (within i l) one.2)

  shows : Shows m.words.layout one.0
  shows = subst (λ (n : Monitor P). Shows n.words.layout one.0) (All-head (λ (d : ThreadJob P). d.monitor.now ≡ m) x.job (jobs_in xs) on) one.1

  one-order : IsWithinLimits m.config → AreOfOneOrder may m (x ∷ xs)
  one-order limits =
      (lists, λ i s e. found (x ∷ xs) i s x e, (shows.history, texts-legal may m refuses lists one.0 (λ i. (lists i).departed.seat.view) limits (λ i l. (list-at i l, left-at i l, view-at i l)) shows))

  -- the order of a run, in which what each domain did follows its list
  pub record FollowsAll : Type 0 where
    pub order : RunOrder
    pub legal : Legal (setting_of m.config (may m.rights)) (events_of (items_in order)) (trace_of (items_in order))
    pub flags : AreOnRaisedFlags m.config order
    pub follow : (i : ℕ) → i < length m.config.domains.items → AreFlagsOf m (lists i).job.part.tasks.now → HasAllFrames m
        → Serves (LacksMemory (lists i).outcomes) (IsStopped refuses (lists i)) (lists i).job.part.types.now (lists i).job.part.dom [] [] (list_of (lists i).job.part.tasks.now (lists i).job.part.dom) (happenings (own_in (lists i).job.part.dom order)) (lists i).text

  pub follows-all : IsWithinLimits m.config → FollowsAll
  unfolding left-at
  follows-all limits =
      let o = text-order may refuses m lists one.0 (λ i. (lists i).departed.seat.view) (λ i l. (list-at i l, left-at i l, view-at i l)) limits shows in record {
        order = o.0;
        legal = o.1.legal;
        flags = o.1.flags;
        follow = λ i l numbered all.
            let dom : (lists i).job.part.dom ≡ id_at m.words.layout.ids i = (list-at i l).dom in
            let seats-at = seats may refuses m lists one.0 (λ i. (lists i).departed.seat.view) (λ i l. (list-at i l, left-at i l, view-at i l)) i in
            let inside : i < m.words.layout.domains = subst (λ (n : ℕ). i < n) (sym (ap (λ (k : Layout). k.domains) m.same_run)) l in
            let mine : own_in (lists i).job.part.dom o.0 ≡ order_of_actions m.config (may m.rights) (lists i).job.part.dom seats-at.run_actions =
            subst (λ (d : DomId). own_in d o.0 ≡ order_of_actions m.config (may m.rights) d seats-at.run_actions) (sym dom) (o.1.run_actions i inside) in
            subst (λ (g : RunOrder). Serves (LacksMemory (lists i).outcomes) (IsStopped refuses (lists i)) (lists i).job.part.types.now (lists i).job.part.dom [] [] (list_of (lists i).job.part.tasks.now (lists i).job.part.dom) (happenings g) (lists i).text) (sym mine)
            ((o.2 i l).1.1 tt numbered all);
      }

pub runs-legal : {P : Type 0} (may : P → AllowRelation) (m : Monitor P) → RunsWriteALegalOrder may m
runs-legal {P} may m refuses jobs old new limits of wrote = by wrote.0 wrote.1 wrote.2 wrote.3
  where
    by : (all : List (Served P)) → jobs_in all ≡ jobs → AreServed may refuses all → ShowOneState all → AreOfOneOrder may m all
    by [] same are one =
        absurd (none (ap length (ap (map (λ (d : ThreadJob P). d.part.dom)) same ∙ of.1)))
      where
        none : 0 ≡ length (map (λ (d : DomainConfig). d.id) m.config.domains.items) → ⊥
        none e = let l = length-map m.config.domains.items (λ (d : DomainConfig). d.id) in let some = limits.some in omega (arith, e, l, some)
    by (x ∷ xs) same are one =
        one-order may refuses m x xs (subst (All (λ (d : ThreadJob P). d.monitor.now ≡ m)) (sym same) of.0) (ap (map (λ (d : ThreadJob P). d.part.dom)) same ∙ of.1) are one limits
