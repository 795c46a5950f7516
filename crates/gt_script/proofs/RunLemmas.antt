-- What a script for `run` says.
use Rattle.std.proofs.Common.{◌≡◌, inl, inr, ℕ, List, length, Result, Ok, Err, refl, sym, ap, ◌∙◌}
use Rattle.std.proofs.Common.{subst, All, IsTrue, IfOk, ◌+◌, ◌<◌, ◌==◌, ◌++◌, ◌∷◌, [], Bool, true, false, Bor, map, take, get_or, add-one}
use Rattle.std.proofs.Math.Seq.{take-suc}
use Rattle.std.proofs.lemmas.List.{append-nil, map-append}
use Rattle.std.proofs.lemmas.List.Elements.{filter-append}
use Rattle.gt_types.specs.Config.{is_taken}
use Rattle.gt_types.specs.declared.DomId.{DomId}
use Rattle.gt_types.specs.declared.config.DomainConfig.{DomainConfig}
use Rattle.gt_script.specs.Contents.{Contents, contents_of, head_in}
use Rattle.gt_script.specs.Laws.{IsScriptFor}
use Rattle.gt_script.specs.Outcomes.{AnswersScript}
use Rattle.gt_script.specs.RunContents.{RunContents}
use Rattle.gt_script.specs.RunScripts.{CanConfigure, list_of, ContentsReadAs, ReadsAsRun, RunAnswers}
use Rattle.gt_script.specs.Script.{Wrong, ReadsFor}
use Rattle.gt_script.specs.Stuck.{AreNumbered}
use Rattle.gt_script.specs.declared.command.ScriptCommand.TheVariants.{Run}
use Rattle.gt_script.specs.declared.faults.ScriptError.{ScriptError}
use Rattle.gt_script.specs.declared.faults.ScriptError.TheVariants as script_errors
use Rattle.gt_script.specs.Lists.{RunTask}
use Rattle.gt_script.specs.declared.run_script.RunScript.{RunScript}

-- what the bytes tell

run-weaker : (r : Result RunScript ScriptError) (P Q : Result RunContents Wrong → Type 0) → ((w : Result RunContents Wrong) → P w → Q w) → RunAnswers r P → RunAnswers r Q
run-weaker (Ok s) P Q f h = f _ h
run-weaker (Err script_errors.Memory) P Q f h = tt
run-weaker (Err (script_errors.Fault fault)) P Q f h = f _ h
run-weaker (Err (script_errors.Policy fault)) P Q f (g, shown, h) = (g, shown, f _ h)

says-tells : (bytes : List ℕ) (c : Contents) → ReadsFor Run bytes (Ok c) → (w : Result RunContents Wrong) → ContentsReadAs c w → ReadsAsRun bytes w
says-tells bytes c t (Ok run) h = (c, t, h)
says-tells bytes c t (Err wrong) h = inr (c, t, h)

pub run-tells : (bytes : List ℕ) (c : Contents) (r : Result RunScript ScriptError) → ReadsFor Run bytes (Ok c) → RunAnswers r (ContentsReadAs c) → RunAnswers r (ReadsAsRun bytes)
run-tells bytes c r t h = run-weaker r (ContentsReadAs c) (ReadsAsRun bytes) (says-tells bytes c t) h

pub fault-tells : (bytes : List ℕ) (error : ScriptError) → AnswersScript (Err error) (ReadsFor Run bytes) → RunAnswers (Err error) (ReadsAsRun bytes)
fault-tells bytes script_errors.Memory h = tt
fault-tells bytes (script_errors.Fault fault) h = inl h
fault-tells bytes (script_errors.Policy fault) (g, shown, h) = (g, shown, inl h)

can-configure : (lines : List (List ℕ)) (c : Contents) → IsScriptFor Run lines c → CanConfigure c
can-configure lines c (inl s) = (s.parts.faultless, s.parts.some_domain, s.parts.generation)
can-configure lines c (inr s) = (s.parts.faultless, s.parts.some_domain, s.parts.generation)

pub head-configures : (lines : List (List ℕ)) (c : Contents) (r : Result RunScript ScriptError) → IsScriptFor Run lines c → RunAnswers r (ContentsReadAs c) → IfOk r (λ s. CanConfigure (contents_of s.head))
head-configures lines c (Ok s) of h =
    let head : contents_of s.head ≡ head_in c = ap (λ (k : RunContents). k.head) h.1 in
    subst (λ (k : Contents). CanConfigure k) (sym head) (can-configure lines c of)
head-configures lines c (Err e) of h = tt

-- the tasks of a script are those of its domains
pub tasks-known : (lines : List (List ℕ)) (c : Contents) → IsScriptFor Run lines c → All (λ (t : RunTask). IsTrue (is_taken c.domains t.dom)) c.tasks
tasks-known lines c (inl s) = s.parts.ordered
tasks-known lines c (inr s) = s.parts.ordered

pub known-in : (domains ds : List DomainConfig) (tasks ts : List RunTask) → domains ≡ ds → tasks ≡ ts → All (λ (t : RunTask). IsTrue (is_taken ds t.dom)) ts → All (λ (t : RunTask). IsTrue (is_taken domains t.dom)) tasks
known-in domains ds tasks ts d t h =
    subst (λ (xs : List DomainConfig). All (λ (t : RunTask). IsTrue (is_taken xs t.dom)) tasks) (sym d) (subst (λ (xs : List RunTask). All (λ (t : RunTask). IsTrue (is_taken ds t.dom)) xs) (sym t) h)

-- each flag that a task of a script names is one of the script's
pub tasks-numbered : (lines : List (List ℕ)) (c : Contents) → IsScriptFor Run lines c → AreNumbered (length c.flags) c.tasks
tasks-numbered lines c (inl s) = s.parts.numbered
tasks-numbered lines c (inr s) = s.parts.numbered

-- the same of the script for `run`
pub flags-numbered : (lines : List (List ℕ)) (c : Contents) (r : Result RunScript ScriptError) → IsScriptFor Run lines c → RunAnswers r (ContentsReadAs c) → IfOk r (λ s. AreNumbered s.flags s.tasks)
flags-numbered lines c (Ok s) of h = subst (λ (k : RunContents). AreNumbered k.flags k.tasks) (sym h.1) (tasks-numbered lines c of)
flags-numbered lines c (Err e) of h = tt

-- the list of a domain after one task more

list-more : (tasks : List RunTask) (dom : DomId) (i : ℕ) (x : RunTask) → i < length tasks → x ≡ get_or tasks i x → list_of (take (i + 1) tasks) dom ≡ list_of (take i tasks) dom ++ list_of (x ∷ []) dom
list-more tasks dom i x within here =
    let front : take (i + 1) tasks ≡ take i tasks ++ get_or tasks i x ∷ [] = rw add-one (take-suc tasks i x within) in
    ap (λ (ts : List RunTask). list_of ts dom) (front ∙ ap (λ (t : RunTask). take i tasks ++ t ∷ []) (sym here))
    ∙ filter-append (λ (t : RunTask). t.dom.0 == dom.0) (take i tasks) (x ∷ [])

pub list-own : (tasks : List RunTask) (dom : DomId) (i : ℕ) (x : RunTask) (refs new : List (Bor RunTask)) (ref : Bor RunTask) (b : Bool) → i < length tasks → x ≡ get_or tasks i x → b ≡ (x.dom.0 == dom.0) → b ≡ true
    → map (λ t. t.now) refs ≡ list_of (take i tasks) dom → new ≡ refs ++ ref ∷ [] → ref.now ≡ x → map (λ t. t.now) new ≡ list_of (take (i + 1) tasks) dom
list-own tasks dom i x refs new ref b within here asked holds so_far push same =
    let own : list_of (x ∷ []) dom ≡ x ∷ [] = rw (sym asked ∙ holds) refl in
    ap (map (λ (t : Bor RunTask). t.now)) push ∙ map-append (λ (t : Bor RunTask). t.now) refs (ref ∷ [])
    ∙ ap (λ (ts : List RunTask). ts ++ ref.now ∷ []) so_far ∙ ap (λ (t : RunTask). list_of (take i tasks) dom ++ t ∷ []) same
    ∙ ap (λ (ts : List RunTask). list_of (take i tasks) dom ++ ts) (sym own) ∙ sym (list-more tasks dom i x within here)

pub list-other : (tasks : List RunTask) (dom : DomId) (i : ℕ) (x : RunTask) (refs : List (Bor RunTask)) (b : Bool) → i < length tasks → x ≡ get_or tasks i x → b ≡ (x.dom.0 == dom.0) → b ≡ false
    → map (λ t. t.now) refs ≡ list_of (take i tasks) dom → map (λ t. t.now) refs ≡ list_of (take (i + 1) tasks) dom
list-other tasks dom i x refs b within here asked fails so_far =
    let none : list_of (x ∷ []) dom ≡ [] = rw (sym asked ∙ fails) refl in
    so_far ∙ sym (append-nil (list_of (take i tasks) dom)) ∙ ap (λ (ts : List RunTask). list_of (take i tasks) dom ++ ts) (sym none) ∙ sym (list-more tasks dom i x within here)
