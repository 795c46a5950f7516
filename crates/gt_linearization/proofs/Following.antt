-- The deeds of a list are those with which its domain follows the list in an order of the script.
use Rattle.std.proofs.Common.{◌≡◌, ℕ, List, [], ◌∷◌, ◌++◌, Option, Some, None, inl, inr, Result, Ok, Err}
use Rattle.std.proofs.Common.{append_assoc, refl, sym, ap, ◌∙◌, subst}
use Rattle.gt_types.specs.declared.DomId.{DomId}
use Rattle.gt_types.specs.declared.Size.{Size}
use Rattle.gt_types.specs.declared.config.Config.{Config}
use Rattle.gt_types.specs.declared.denial.Denial.{Denial}
use Rattle.gt_handles.specs.Handles.{HandleMap}
use Rattle.gt_model.specs.declared.handle.Handle.{Handle}
use Rattle.gt_model.specs.declared.action.CallResult.TheVariants.{Granted}
use Rattle.gt_model.specs.declared.held.HeldPin.{HeldPin}
use Rattle.gt_model.specs.declared.request.Request.{Request}
use Rattle.gt_model.specs.declared.request.Request.TheVariants as requests
use Rattle.gt_model.specs.declared.trace.Answer.{Answer}
use Rattle.gt_model.specs.declared.trace.Answer.TheVariants as answers
use Rattle.gt_script_runs.specs.Printing.{answer_line}
use Rattle.gt_script_runs.specs.Runs.{MakesRequest, Named, handle_given, label_given, with_name}
use Rattle.gt_script.specs.Lists.{RunAction, RunTask}
use Rattle.gt_script.specs.declared.tasks.RunAction.TheVariants.{Do}
use Rattle.gt_script_lines.specs.declared.calls.ScriptCall.{ScriptCall}
use Rattle.gt_explore_replay.specs.Orders.{CallHappens, ActionHappens, GivesMappingsBack, Happening, Prints, given_up}
use Rattle.gt_explore_replay.specs.Orders.{handles_without, held_after}
use Rattle.gt_frames.specs.Receipts.{Reading}
use Rattle.gt_words.specs.Conditions.{Board}
use Rattle.gt_live.specs.Domains.{AllowRelation}
use Rattle.gt_live.specs.Mappings.{KeepsMappings}
use Rattle.gt_live.specs.declared.domain.Domain.{Domain}
use Rattle.gt_live.specs.declared.monitor.Monitor.{Monitor}
use Rattle.gt_run.specs.Asking.{AnswersCall, HasBytes, IsReadAnswer, frames_answer, plain_answer, size_answer}
use Rattle.gt_run.specs.Asking.{version_answer}
use Rattle.gt_linearization.proofs.Happenings.{call-happens, happenings, happenings-both, on_flag}
use Rattle.gt_linearization.proofs.Held.{Keeps, keeps-less, keeps-more, keeps-same}
use Rattle.gt_linearization.proofs.Answering.{LacksMemoryOnly}
use Rattle.gt_linearization.proofs.Served.{Serves}
use Rattle.gt_types.specs.declared.copies.CopyArgs.{CopyArgs}
use Rattle.gt_linearization.specs.Printed.{GetsNoMemory, IsAllocating, Starves, no_memory_answer}
use Rattle.gt_linearization.specs.Texts.{HasAllFrames, IsMemoryRefusal, OutcomeGivesAnswer}
use Rattle.gt_types.specs.Denial.{denial_of}
use Rattle.gt_types.specs.declared.denial.Facts.TheVariants as facts
use Rattle.gt_types.specs.declared.denial.Rule.TheVariants.{N26}
use Rattle.gt_linearization.specs.Leaving.{AreReleases}
use Rattle.gt_linearization.specs.Ordering.{RunOrder, items_by_outcome, items_of_call, of_core, order_of_actions, way_of}
use Rattle.gt_linearization.specs.Ordering.Occurrence.{OfFlag, OfLook}
use Rattle.gt_linearization.specs.Runs.{AreDeeds, CallMade, CallOutcome, DomainAct, FlagMade, IsAnswered, domain_after}
use Rattle.gt_linearization.specs.Runs.DomainAct.{Call, Look, OnFlag}
use Rattle.gt_linearization.specs.Runs.CallOutcome.{Judged, MadeMapping, NoMemory, Read, Written}

-- the handles after an answer

plain-held : {R : Type 0} (held : List Handle) (r : Result R Denial) → held_after held None (plain_answer r) ≡ held
plain-held held (Ok done) = refl
plain-held held (Err denial) = refl

frames-held : (held : List Handle) (r : Result ℕ Denial) → held_after held None (frames_answer r) ≡ held
frames-held held (Ok n) = refl
frames-held held (Err denial) = refl

size-held : (held : List Handle) (r : Result Size Denial) → held_after held None (size_answer r) ≡ held
size-held held (Ok s) = refl
size-held held (Err denial) = refl

version-held : (held : List Handle) (r : Result ℕ Denial) → held_after held None (version_answer r) ≡ held
version-held held (Ok n) = refl
version-held held (Err denial) = refl

bytes-held : (held : List Handle) (ys : List ℕ) (answer : Answer) → HasBytes ys answer → held_after held None answer ≡ held
bytes-held held ys (answers.Bytes b) h = refl
bytes-held held ys answer h = absurd h

read-held : (held : List Handle) (r : Result Reading Denial) (answer : Answer) → IsReadAnswer r answer → held_after held None answer ≡ held
read-held held (Ok r) answer told = bytes-held held r.bytes answer told
read-held held (Err denial) answer told = ap (held_after held None) told

module _ {P : Type 0} (may : P → AllowRelation) (m : Monitor P) (d e : Domain) (held : List Handle) (k : Keeps d.mappings held) where
  kept-so : (answer : Answer) → held_after held None answer ≡ held → KeepsMappings d.mappings e.mappings → Keeps e.mappings (held_after held None answer)
  kept-so answer same keeps = subst (Keeps e.mappings) (sym same) (keeps-same d.mappings e.mappings held keeps k)

  told-so : (answer told : Answer) → answer ≡ told → held_after held None told ≡ held → KeepsMappings d.mappings e.mappings → Keeps e.mappings (held_after held None answer)
  told-so answer told is same keeps = kept-so answer (ap (held_after held None) is ∙ same) keeps

  -- after an answered call the domain has the handles that its list gives it
  pub answered-keeps : (request : Request) (answer : Answer) → AnswersCall may m d request answer e → Keeps e.mappings (held_after held (given_up request) answer)
  answered-keeps (requests.Map dom gref flags) answer (Ok handle, is, (p, called, adds), told) =
      subst (λ (a : Answer). Keeps e.mappings (held_after held None a)) (sym is) (keeps-more d.mappings e.mappings handle p held adds k)
  answered-keeps (requests.Map dom gref flags) answer (Err denial, is, (called, kept), told) = told-so answer (answers.Denied denial) is refl kept.0
  answered-keeps (requests.Unmap handle) answer (Ok done, is, answered, removed, refused, told) =
      subst (λ (a : Answer). Keeps e.mappings (held_after held (Some handle) a)) (sym is) (keeps-less d.mappings e.mappings handle removed.0 held removed.1 k).keeps
  answered-keeps (requests.Unmap handle) answer (Err denial, is, answered, removed, refused, told) =
      subst (λ (a : Answer). Keeps e.mappings (held_after held (Some handle) a)) (sym is) (keeps-same d.mappings e.mappings held refused.0 k)
  answered-keeps (requests.Release handle) answer (Ok done, is, answered, removed, refused, silent) =
      subst (λ (a : Answer). Keeps e.mappings (held_after held (Some handle) a)) (sym is) (keeps-less d.mappings e.mappings handle removed.0 held removed.1 k).keeps
  answered-keeps (requests.Release handle) answer (Err denial, is, answered, removed, refused, silent) =
      subst (λ (a : Answer). Keeps e.mappings (held_after held (Some handle) a)) (sym is) (keeps-same d.mappings e.mappings held refused.0 k)
  answered-keeps (requests.SetVersion version) answer (r, is, (answered, kept, told)) = told-so answer (plain_answer r) is (plain-held held r) kept.0
  answered-keeps (requests.SetupTable frames) answer (r, is, (answered, kept, told)) = told-so answer (frames_answer r) is (frames-held held r) kept.0
  answered-keeps (requests.QuerySize dom) answer (r, is, (answered, kept, told)) = told-so answer (size_answer r) is (size-held held r) kept.0
  answered-keeps (requests.GetVersion dom) answer (r, is, (answered, kept, told)) = told-so answer (version_answer r) is (version-held held r) kept.0
  answered-keeps (requests.Load handle off len) answer (r, is, (accessed, kept, silent)) = kept-so answer (read-held held r answer is) kept.0
  answered-keeps (requests.Peek frame off len) answer (r, is, (accessed, kept, silent)) = kept-so answer (read-held held r answer is) kept.0
  answered-keeps (requests.Store handle off bytes) answer (r, is, (accessed, kept, silent)) = told-so answer (plain_answer r) is (plain-held held r) kept.0
  answered-keeps (requests.Poke frame off bytes) answer (r, is, (accessed, kept, silent)) = told-so answer (plain_answer r) is (plain-held held r) kept.0
  answered-keeps (requests.Copy args) answer (r, is, accessed, kept, told) = told-so answer (plain_answer r) is (plain-held held r) kept.0
  answered-keeps (requests.Probe args) answer (r, is, (answered, kept, silent)) = told-so answer (plain_answer r) is (plain-held held r) kept.0
  answered-keeps (requests.Grant gref entry) answer (r, is, (answered, kept, silent)) = told-so answer (plain_answer r) is (plain-held held r) kept.0
  answered-keeps (requests.GrantBytes gref bytes) answer (r, is, (answered, kept, silent)) = told-so answer (plain_answer r) is (plain-held held r) kept.0
  answered-keeps (requests.Revoke gref) answer (r, is, (answered, kept, silent)) = told-so answer (plain_answer r) is (plain-held held r) kept.0
  answered-keeps (requests.Withdraw gref) answer (r, is, (answered, kept, silent)) = told-so answer (plain_answer r) is (plain-held held r) kept.0
  answered-keeps (requests.Demote gref) answer (r, is, (answered, kept, silent)) = told-so answer (plain_answer r) is (plain-held held r) kept.0
  answered-keeps (requests.Promote gref) answer (r, is, (answered, kept, silent)) = told-so answer (plain_answer r) is (plain-held held r) kept.0

-- an answer without memory names no label and leaves the handles

named-none : (named : List Named) (dom : DomId) (label : Option (List ℕ)) → with_name named dom label None ≡ named
named-none named dom None = refl
named-none named dom (Some label) = refl

held-none : (held : List Handle) (lost : Option Handle) (denial : Denial) → held_after held lost (answers.Denied denial) ≡ held
held-none held None denial = refl
held-none held (Some handle) denial = refl

-- a call that makes no step before it has its memory
starves-plainly : (dom : DomId) (request : Request) (Rest : List Happening → Type 0) (hs : List Happening) → IsAllocating request → Rest hs → Starves dom request Rest hs
starves-plainly dom (requests.Copy args) Rest hs is rest = absurd is
starves-plainly dom request Rest hs is rest = (is, rest)

module _ {P : Type 0} (m : Monitor P) (all : HasAllFrames m) where
  -- what was lost was refused with N26
  pub lost-memory : (answer : Answer) (denial : Denial) → answer ≡ answers.Denied denial → IsMemoryRefusal m denial → answer ≡ no_memory_answer
  lost-memory answer denial is (inl e) = is ∙ ap (λ (d : Denial). answers.Denied d) e
  lost-memory answer denial is (inr e) = absurd (e.1 all)

  -- a call without memory answered N26
  pub starved-answer : (answer : Answer) → OutcomeGivesAnswer m NoMemory answer → answer ≡ no_memory_answer
  starved-answer answer (denial, is, lost) = lost-memory answer denial is lost

module _ (Lost : Type 0) (Stopped : RunAction → Type 0) (c : Config) (may : AllowRelation) (types : List (List ℕ)) (dom : DomId) where
  -- whatever follows these deeds follows the lines of the list that did them
  abbrev pub Follows : List Named → List Handle → List RunTask → List DomainAct → List ℕ → Type 0
  Follows named held done made printed =
      (rest : List RunTask) (more : List Happening) (text : List ℕ) → Serves Lost Stopped types dom named held rest more text
      → Serves Lost Stopped types dom [] [] (done ++ rest) (happenings (order_of_actions c may dom made) ++ more) (printed ++ text)

  pub follows-none : Follows [] [] [] [] []
  follows-none rest more text f = f

  -- the items of one more deed, and its line
  follows-on : (done : List RunTask) (made : List DomainAct) (printed : List ℕ) (task : RunTask) (mine : RunOrder) (line : List ℕ) (rest : List RunTask) (more : List Happening) (text : List ℕ)
      → Serves Lost Stopped types dom [] [] (done ++ task ∷ rest) (happenings (order_of_actions c may dom made) ++ (happenings mine ++ more)) (printed ++ (line ++ text))
      → Serves Lost Stopped types dom [] [] ((done ++ task ∷ []) ++ rest) (happenings (mine ++ order_of_actions c may dom made) ++ more) ((printed ++ line) ++ text)
  follows-on done made printed task mine line rest more text f =
      subst (λ (ts : List RunTask). Serves Lost Stopped types dom [] [] ts (happenings (mine ++ order_of_actions c may dom made) ++ more) ((printed ++ line) ++ text)) (sym (append_assoc done (task ∷ []) rest))
      (subst (λ (hs : List Happening). Serves Lost Stopped types dom [] [] (done ++ task ∷ rest) hs ((printed ++ line) ++ text))
      (sym (ap (λ (hs : List Happening). hs ++ more) (happenings-both mine (order_of_actions c may dom made)) ∙ append_assoc (happenings (order_of_actions c may dom made)) (happenings mine) more))
      (subst (λ (t : List ℕ). Serves Lost Stopped types dom [] [] (done ++ task ∷ rest) (happenings (order_of_actions c may dom made) ++ (happenings mine ++ more)) t) (sym (append_assoc printed line text)) f))

  -- the items of a call with this answer
  abbrev HasItems : CallMade → CallOutcome → Answer → Type 0
  HasItems m out answer = items_by_outcome dom (way_of c may m) m.request out m.steps ≡ items_of_call dom (way_of c may m) m.request (Some answer) m.steps

  -- a call that had memory
  follows-answered : (named : List Named) (held : List Handle) (done : List RunTask) (made : List DomainAct) (printed : List ℕ) (task : RunTask) (call : ScriptCall) (m : CallMade) (out : CallOutcome) (answer : Answer)
      → Follows named held done made printed → task.run_action ≡ Do call → MakesRequest named dom call m.request → HasItems m out answer
      → (rest : List RunTask) (more : List Happening) (text : List ℕ) → Serves Lost Stopped types dom (with_name named dom (label_given call) (handle_given answer)) (held_after held (given_up m.request) answer) rest more text
      → Serves Lost Stopped types dom [] [] ((done ++ task ∷ []) ++ rest) (happenings (of_core (items_by_outcome dom (way_of c may m) m.request out m.steps) ++ order_of_actions c may dom made) ++ more) ((printed ++ answer_line types task.line dom answer) ++ text)
  follows-answered named held done made printed task call m out answer before is says items rest more text f =
      follows-on done made printed task mine line rest more text (before (task ∷ rest) (happenings mine ++ more) (line ++ text) (inl run_action))
    where
      mine : RunOrder
      mine = of_core (items_by_outcome dom (way_of c may m) m.request out m.steps)

      line : List ℕ
      line = answer_line types task.line dom answer

      NextOf : List Named → List Handle → List Happening → List ℕ → Type 0
      NextOf names holds hs left = Serves Lost Stopped types dom names holds rest hs left

      After : Answer → List Happening → Type 0
      After a hs = Prints (answer_line types task.line dom a) (NextOf (with_name named dom (label_given call) (handle_given a)) (held_after held (given_up m.request) a) hs) (line ++ text)

      happens : CallHappens dom m.request After (happenings mine ++ more)
      happens = subst (λ g. CallHappens dom m.request After (happenings (of_core g) ++ more)) (sym items) (call-happens dom (way_of c may m) m.request answer m.steps After more (text, refl, f))

      run_action : ActionHappens types dom named held task.line task.run_action NextOf (happenings mine ++ more) (line ++ text)
      run_action = subst (λ (x : RunAction). ActionHappens types dom named held task.line x NextOf (happenings mine ++ more) (line ++ text)) (sym is) (m.request, says, happens)

  -- a call that got no memory
  follows-starved : (named : List Named) (held : List Handle) (done : List RunTask) (made : List DomainAct) (printed : List ℕ) (task : RunTask) (call : ScriptCall) (m : CallMade)
      → Follows named held done made printed → task.run_action ≡ Do call → MakesRequest named dom call m.request → IsAllocating m.request → Lost
      → (rest : List RunTask) (more : List Happening) (text : List ℕ) → Serves Lost Stopped types dom (with_name named dom (label_given call) None) (held_after held (given_up m.request) no_memory_answer) rest more text
      → Serves Lost Stopped types dom [] [] ((done ++ task ∷ []) ++ rest) (happenings (order_of_actions c may dom made) ++ more) ((printed ++ answer_line types task.line dom no_memory_answer) ++ text)
  follows-starved named held done made printed task call m before is says allocates lost rest more text f =
      follows-on done made printed task [] line rest more text (before (task ∷ rest) more (line ++ text) (inr (inl (lost, gets))))
    where
      line : List ℕ
      line = answer_line types task.line dom no_memory_answer

      NextOf : List Named → List Handle → List Happening → List ℕ → Type 0
      NextOf names holds hs left = Serves Lost Stopped types dom names holds rest hs left

      then : NextOf named held more text
      then = subst (λ (q : List Named × List Handle). NextOf q.0 q.1 more text) (λ j. (named-none named dom (label_given call) j, held-none held (given_up m.request) (denial_of N26 facts.None) j)) f

      gets : GetsNoMemory types dom named held task.line task.run_action NextOf more (line ++ text)
      gets = subst (λ (x : RunAction). GetsNoMemory types dom named held task.line x NextOf more (line ++ text)) (sym is) (m.request, says, starves-plainly dom m.request (λ hs. Prints line (NextOf named held hs) (line ++ text)) more allocates (text, refl, then))

  -- a copy that got no memory at its access
  pub follows-lost : (named : List Named) (held : List Handle) (done : List RunTask) (made : List DomainAct) (printed : List ℕ) (task : RunTask) (call : ScriptCall) (m : CallMade) (args : CopyArgs)
      → Follows named held done made printed → task.run_action ≡ Do call → MakesRequest named dom call (requests.Copy args) → m.request ≡ requests.Probe args → m.outcome ≡ Judged Granted → Lost
      → Follows (with_name named dom (label_given call) None) held (done ++ task ∷ []) (Call m ∷ made) (printed ++ answer_line types task.line dom no_memory_answer)
  follows-lost named held done made printed task call m args before is says probe outcome lost rest more text f =
      follows-on done made printed task mine line rest more text (before (task ∷ rest) (happenings mine ++ more) (line ++ text) (inr (inl (lost, gets))))
    where
      mine : RunOrder
      mine = of_core (items_by_outcome dom (way_of c may m) m.request m.outcome m.steps)

      line : List ℕ
      line = answer_line types task.line dom no_memory_answer

      NextOf : List Named → List Handle → List Happening → List ℕ → Type 0
      NextOf names holds hs left = Serves Lost Stopped types dom names holds rest hs left

      then : NextOf named held more text
      then = subst (λ (names : List Named). NextOf names held more text) (named-none named dom (label_given call)) f

      After : Answer → List Happening → Type 0
      After a hs = (a ≡ answers.Done) × Prints line (NextOf named held hs) (line ++ text)

      same : items_by_outcome dom (way_of c may m) m.request m.outcome m.steps ≡ items_of_call dom (way_of c may m) (requests.Probe args) (Some answers.Done) m.steps
      same = λ j. items_by_outcome dom (way_of c may m) (probe j) (outcome j) m.steps

      happens : CallHappens dom (requests.Probe args) After (happenings mine ++ more)
      happens = subst (λ g. CallHappens dom (requests.Probe args) After (happenings (of_core g) ++ more)) (sym same)
          (call-happens dom (way_of c may m) (requests.Probe args) answers.Done m.steps After more (refl, (text, refl, then)))

      gets : GetsNoMemory types dom named held task.line task.run_action NextOf (happenings mine ++ more) (line ++ text)
      gets = subst (λ (x : RunAction). GetsNoMemory types dom named held task.line x NextOf (happenings mine ++ more) (line ++ text)) (sym is) (requests.Copy args, says, happens)

  module _ {P : Type 0} (mon : Monitor P) (all : HasAllFrames mon) where
    pub follows-more : (named : List Named) (held : List Handle) (done : List RunTask) (made : List DomainAct) (printed : List ℕ) (task : RunTask) (call : ScriptCall) (m : CallMade) (answer : Answer)
        → Follows named held done made printed → task.run_action ≡ Do call → MakesRequest named dom call m.request → OutcomeGivesAnswer mon m.outcome answer → LacksMemoryOnly m.outcome m.request → (answer ≡ no_memory_answer → Lost)
        → Follows (with_name named dom (label_given call) (handle_given answer)) (held_after held (given_up m.request) answer) (done ++ task ∷ []) (Call m ∷ made) (printed ++ answer_line types task.line dom answer)
    follows-more named held done made printed task call m answer before is says gives only lost rest more text f = by m.outcome gives only
      where
        by : (out : CallOutcome) → OutcomeGivesAnswer mon out answer → LacksMemoryOnly out m.request
            → Serves Lost Stopped types dom [] [] ((done ++ task ∷ []) ++ rest) (happenings (of_core (items_by_outcome dom (way_of c may m) m.request out m.steps) ++ order_of_actions c may dom made) ++ more) ((printed ++ answer_line types task.line dom answer) ++ text)
        by NoMemory g o =
            let e : answer ≡ no_memory_answer = starved-answer mon all answer g in
            subst (λ (a : Answer). Serves Lost Stopped types dom [] [] ((done ++ task ∷ []) ++ rest) (happenings (order_of_actions c may dom made) ++ more) ((printed ++ answer_line types task.line dom a) ++ text)) (sym e)
            (follows-starved named held done made printed task call m before is says o (lost e) rest more text
            (subst (λ (a : Answer). Serves Lost Stopped types dom (with_name named dom (label_given call) (handle_given a)) (held_after held (given_up m.request) a) rest more text) e f))
        by (Judged verdict) g o = follows-answered named held done made printed task call m (Judged verdict) answer before is says (ap (λ (a : Answer). items_of_call dom (way_of c may m) m.request (Some a) m.steps) (sym g)) rest more text f
        by (MadeMapping handle p) g o = follows-answered named held done made printed task call m (MadeMapping handle p) answer before is says (ap (λ (a : Answer). items_of_call dom (way_of c may m) m.request (Some a) m.steps) (sym g)) rest more text f
        by (Read bytes) g o = follows-answered named held done made printed task call m (Read bytes) answer before is says (ap (λ (a : Answer). items_of_call dom (way_of c may m) m.request (Some a) m.steps) (sym g)) rest more text f
        by Written g o = follows-answered named held done made printed task call m Written answer before is says (ap (λ (a : Answer). items_of_call dom (way_of c may m) m.request (Some a) m.steps) (sym g)) rest more text f

  -- a line that raises or awaits a flag
  pub follows-flag : (named : List Named) (held : List Handle) (done : List RunTask) (made : List DomainAct) (printed : List ℕ) (task : RunTask) (x : FlagMade) → Follows named held done made printed
      → ((Next : List Named → List Handle → List Happening → List ℕ → Type 0) (more : List Happening) (text : List ℕ) → Next named held more text → ActionHappens types dom named held task.line task.run_action Next (on_flag dom x.flag x.step ∷ more) text)
      → Follows named held (done ++ task ∷ []) (OnFlag x ∷ made) printed
  follows-flag named held done made printed task x before happens rest more text f =
      let mine = on_flag dom x.flag x.step in
      subst (λ (ts : List RunTask). Serves Lost Stopped types dom [] [] ts ((happenings (order_of_actions c may dom made) ++ mine ∷ []) ++ more) (printed ++ text)) (sym (append_assoc done (task ∷ []) rest))
      (subst (λ (hs : List Happening). Serves Lost Stopped types dom [] [] (done ++ task ∷ rest) hs (printed ++ text)) (sym (append_assoc (happenings (order_of_actions c may dom made)) (mine ∷ []) more))
      (before (task ∷ rest) (mine ∷ more) text (inl (happens (λ names holds hs left. Serves Lost Stopped types dom names holds rest hs left) more text f))))

module _ (c : Config) (may : AllowRelation) (types : List (List ℕ)) (dom : DomId) where
  -- the releases with which a domain leaves
  pub record GivesBack (held : List Handle) (us : List DomainAct) (after : Domain) : Type 0 where
    pub order : List Handle
    pub held' : List Handle
    pub keeps : Keeps after.mappings held'
    pub back : (last : List Handle) (more : List Happening) → GivesMappingsBack dom last held' more → GivesMappingsBack dom (order ++ last) held (happenings (order_of_actions c may dom us) ++ more)

  pub gives-back : (b : Board) (d : Domain) (us : List DomainAct) (held : List Handle) → AreDeeds b c may d us → AreReleases us → Keeps d.mappings held → GivesBack held us (domain_after d us)
  gives-back b d [] held calls releases k = record { order = []; held' = held; keeps = k; back = λ last more g. g }
  gives-back b d (OnFlag x ∷ us) held calls releases k = absurd releases
  gives-back b d (Look x ∷ us) held calls releases k = absurd releases
  gives-back b d (Call u ∷ us) held calls releases k =
      let was = gives-back b d us held calls.2 releases.1 k in
      let old : Keeps u.old.mappings was.held' = subst (λ (x : HandleMap HeldPin). Keeps x was.held') (sym calls.1.mappings) was.keeps in
      let answered : IsAnswered b c may (requests.Release releases.0.0) (Judged Granted) u.steps u.old u.new = subst (λ (r : Request). IsAnswered b c may r (Judged Granted) u.steps u.old u.new) releases.0.1
      (subst (λ (o : CallOutcome). IsAnswered b c may u.request o u.steps u.old u.new) releases.0.2 calls.0.answered) in
      let less = keeps-less u.old.mappings u.new.mappings releases.0.0 answered.2.0 was.held' answered.2.1 old in
      let mine = items_by_outcome dom (way_of c may u) u.request u.outcome u.steps in
      let same : mine ≡ items_of_call dom (way_of c may u) (requests.Release releases.0.0) (Some answers.Done) u.steps = λ j. items_by_outcome dom (way_of c may u) (releases.0.1 j) (releases.0.2 j) u.steps in record {
        order = was.order ++ releases.0.0 ∷ [];
        held' = handles_without releases.0.0 was.held';
        keeps = less.keeps;
        back = λ last more g.
            let one : GivesMappingsBack dom (releases.0.0 ∷ last) was.held' (happenings (of_core mine) ++ more) = (
              less.before,
              less.after,
              less.whole,
              subst (λ g. CallHappens dom (requests.Release releases.0.0) (λ answer more. GivesMappingsBack dom last (less.before ++ less.after) more) (happenings (of_core g) ++ more)) (sym same)
                  (call-happens dom (way_of c may u) (requests.Release releases.0.0) answers.Done u.steps (λ answer more. GivesMappingsBack dom last (less.before ++ less.after) more) more (subst (λ (l : List Handle). GivesMappingsBack dom last l more) less.left g)),
            ) in
            subst (λ (l : List Handle). GivesMappingsBack dom l held (happenings (of_core mine ++ order_of_actions c may dom us) ++ more)) (sym (append_assoc was.order (releases.0.0 ∷ []) last))
            (subst (GivesMappingsBack dom (was.order ++ releases.0.0 ∷ last) held)
            (sym (ap (λ (hs : List Happening). hs ++ more) (happenings-both (of_core mine) (order_of_actions c may dom us)) ∙ append_assoc (happenings (order_of_actions c may dom us)) (happenings (of_core mine)) more))
            (was.back (releases.0.0 ∷ last) (happenings (of_core mine) ++ more) one));
      }

  -- the deeds of a list, and the releases behind them
  pub run_actions-both : (us ms : List DomainAct) → order_of_actions c may dom (us ++ ms) ≡ order_of_actions c may dom us ++ order_of_actions c may dom ms
  run_actions-both [] ms = refl
  run_actions-both (Call u ∷ us) ms =
      let mine = of_core (items_by_outcome dom (way_of c may u) u.request u.outcome u.steps) in
      ap (λ l. mine ++ l) (run_actions-both us ms) ∙ sym (append_assoc mine (order_of_actions c may dom us) (order_of_actions c may dom ms))
  run_actions-both (OnFlag x ∷ us) ms = ap (λ l. OfFlag dom x.flag x.step ∷ l) (run_actions-both us ms)
  run_actions-both (Look x ∷ us) ms = ap (λ l. OfLook dom x.gref x.word ∷ l) (run_actions-both us ms)
