-- Parsed scripts are orderly.
use Rattle.std.proofs.Common.{◌≡◌, ◌≢◌, ◌<◌, ◌≤◌, ◌+◌, ◌^◌, ℕ, Bool, true, false, cond, List, [], ◌∷◌, map}
use Rattle.std.proofs.Common.{Option, Some, None, Ok, inl, inr, refl, ap, sym, subst, arith, All, IsTrue}
use Rattle.std.proofs.lemmas.List.Elements.{All-from_recursion, All-weaker}
use Rattle.std.proofs.lemmas.List.Kept.{AllPairs-cons, AllPairs-filter}
use Rattle.std.proofs.lemmas.Option.{none-some, same_Some}
use Rattle.std.specs.List.{AllByRecursion, cons_option, filter_map}
use Rattle.std.specs.Option.{option_map}
use Rattle.std.specs.Prelude.{◌==◌, AllPairs}
use Rattle.std.specs.Str.Lines.{lines as lines_in}
use Rattle.gt_types.specs.Config.{is_taken}
use Rattle.gt_script.specs.Contents.{Contents, KeptContents, contents_of, head_in}
use Rattle.gt_script.specs.Laws.{GiveParts, IsScriptFor, lines_said, task_on}
use Rattle.gt_script.specs.Lists.{RunAction}
use Rattle.gt_script.specs.declared.command.ScriptCommand.{ScriptCommand}
use Rattle.gt_script.specs.declared.command.ScriptCommand.TheVariants.{Play, Run}
use Rattle.gt_script_lines.specs.Fields.{◌>>=◌}
use Rattle.gt_script_lines.specs.Lines.{line_of}
use Rattle.gt_script_lines.specs.Numbers.{number_below}
use Rattle.gt_script_lines.specs.Words.{words}
use Rattle.gt_script_lines.specs.declared.lines.ScriptLine.{ScriptLine}
use Rattle.gt_script.specs.RunContents.{RunKept, run_contents}
use Rattle.gt_script.specs.RunScripts.{ReadsAsRun}
use Rattle.gt_script.specs.Stuck.{AreNumbered}
use Rattle.gt_script.specs.Script.{ReadsFor, run_action_in}
use Rattle.gt_script_lines.specs.declared.lines.ScriptLine.TheVariants as script_lines
use Rattle.gt_script.proofs.FaultLemmas.{answers-script}
use Rattle.gt_script.proofs.RunLemmas.{tasks-known, tasks-numbered}
use Rattle.gt_precedence.specs.Prelude.{DomId, DomainConfig, RunContents, RunTask, domain_of, is_call}
use Rattle.gt_precedence.specs.Precedence.{IsOrderly}

-- numbers that rise from this one on
abbrev Rising : ℕ → List ℕ → Type 0
Rising n [] = Unit {0}
Rising n (m ∷ ms) = (n ≤ m) × Rising (m + 1) ms

rising-later : (n k : ℕ) (ms : List ℕ) → n ≤ k → Rising k ms → Rising n ms
rising-later n k [] le rising = tt
rising-later n k (m ∷ ms) le rising = let first = rising.0 in (omega (arith, le, first), rising.1)

differs-from : (n k : ℕ) (ts : List RunTask) → n < k → Rising k (map (λ t. t.line) ts) → AllByRecursion (λ u. n ≢ u.line) ts
differs-from n k [] lt rising = tt
differs-from n k (t ∷ ts) lt rising = let first = rising.0 in ((λ same. omega (arith, lt, first, same)), differs-from n (t.line + 1) ts (omega (arith, lt, first)) rising.1)

rising-apart : (n : ℕ) (ts : List RunTask) → Rising n (map (λ t. t.line) ts) → AllPairs (λ t u. t.line ≢ u.line) ts
rising-apart n [] rising = λ i j d lt in-range. absurd (omega (arith, in-range))
rising-apart n (t ∷ ts) rising =
    AllPairs-cons (λ t u. t.line ≢ u.line) t ts (All-from_recursion (λ u. t.line ≢ u.line) ts (differs-from t.line (t.line + 1) ts (omega arith) rising.1)) (rising-apart (t.line + 1) ts rising.1)

-- the task of a line has its number

task-by : (n : ℕ) (id : Option ℕ) (a : Option RunAction) (t : RunTask) → (id >>= λ k. a >>= λ run_action. Some (record { line = n; dom = record { 0 = k }; run_action = run_action })) ≡ Some t → t.line ≡ n
task-by n None a t is = absurd (none-some _ is)
task-by n (Some k) None t is = absurd (none-some _ is)
task-by n (Some k) (Some a) t is = sym (ap (λ (u : RunTask). u.line) (same_Some _ t is))

line-of-task : (command : ScriptCommand) (flags : List (List ℕ)) (n : ℕ) (l : ScriptLine) (t : RunTask) → task_on command flags n l ≡ Some t → t.line ≡ n
line-of-task command flags n (script_lines.Triple x) t is = absurd (none-some _ is)
line-of-task command flags n (script_lines.Wear x) t is = absurd (none-some _ is)
line-of-task command flags n (script_lines.Domain x) t is = absurd (none-some _ is)
line-of-task Play flags n (script_lines.Body number asks) t is = absurd (none-some _ is)
line-of-task Run flags n (script_lines.Body number asks) t is = task-by n (number_below (2 ^ 16) number) (run_action_in flags asks) t is

tasks-rise : (command : ScriptCommand) (flags : List (List ℕ)) (n : ℕ) (ls : List (List ℕ)) → Rising n (map (λ t. t.line) (filter_map (λ l. task_on command flags l.0 l.1) (lines_said n ls)))
tasks-rise command flags n [] = tt
tasks-rise command flags n (l ∷ ls) = by (line_of (words l)) (tasks-rise command flags (n + 1) ls) where
  rest : List RunTask
  rest = filter_map (λ l. task_on command flags l.0 l.1) (lines_said (n + 1) ls)

  task : (o : Option RunTask) → ((t : RunTask) → o ≡ Some t → t.line ≡ n) → Rising (n + 1) (map (λ t. t.line) rest) → Rising n (map (λ t. t.line) (cons_option o rest))
  task None is more = rising-later n (n + 1) (map (λ t. t.line) rest) (omega arith) more
  task (Some t) is more = let same = is t refl in (omega (arith, same), subst (λ (k : ℕ). Rising (k + 1) (map (λ u. u.line) rest)) (sym same) more)

  by : (o : Option ScriptLine) → Rising (n + 1) (map (λ t. t.line) rest) → Rising n (map (λ t. t.line) (filter_map (λ l. task_on command flags l.0 l.1) (cons_option (option_map (λ x. (n, x)) o) (lines_said (n + 1) ls))))
  by None more = rising-later n (n + 1) (map (λ t. t.line) rest) (omega arith) more
  by (Some x) more = task (task_on command flags n x) (line-of-task command flags n x) more

-- the numbers of the lines of tasks rise
parts-rise : (n : ℕ) (ls : List (List ℕ)) (c : Contents) → GiveParts n ls c → Rising n (map (λ t. t.line) c.tasks)
parts-rise n ls c parts = subst (λ (ts : List RunTask). Rising n (map (λ t. t.line) ts)) (sym parts.tasks) (tasks-rise c.command c.flags n ls)

script-apart : (ls : List (List ℕ)) (c : Contents) → IsScriptFor Run ls c → AllPairs (λ t u. t.line ≢ u.line) c.tasks
script-apart ls c (inl script) = rising-apart _ c.tasks (parts-rise _ ls c script.parts)
script-apart ls c (inr script) = rising-apart _ c.tasks (parts-rise _ script.rest c script.parts)

-- domains

taken-known : (ds : List DomainConfig) (dom : DomId) → IsTrue (is_taken ds dom) → domain_of ds dom ≢ None
taken-known [] dom taken = absurd (cc)
taken-known (d ∷ ds) dom taken = by (d.id.0 == dom.0) refl (taken-known ds dom) where
  by : (b : Bool) → (d.id.0 == dom.0) ≡ b → (IsTrue (is_taken ds dom) → domain_of ds dom ≢ None) → cond b (Some d) (domain_of ds dom) ≢ None
  by true e rest = λ none. none-some d (sym none)
  by false e rest = rest (rw e at taken)

pub parsed-orderly : (bytes : List ℕ) (s : RunKept) → ReadsAsRun bytes (Ok (run_contents s)) → IsOrderly (run_contents s)
parsed-orderly bytes s (c, reads, (ends, is)) =
    let head : contents_of s.head ≡ head_in c = ap (λ (k : RunContents). k.head) is in
    let kept : KeptContents = record s.head { steps = c.steps; tasks = c.tasks; flags = c.flags } in
    let whole : contents_of kept ≡ c = ap (λ (k : Contents). record k { steps = c.steps; tasks = c.tasks; flags = c.flags }) head in
    let script : IsScriptFor Run (lines_in bytes) c = subst (IsScriptFor Run (lines_in bytes)) whole (answers-script Run bytes (Ok kept) (subst (λ (k : Contents). ReadsFor Run bytes (Ok k)) (sym whole) reads)) in
    let tasks : s.tasks ≡ c.tasks = ap (λ (k : RunContents). k.tasks) is in record {
      lines = AllPairs-filter (λ t u. t.line ≢ u.line) (λ t. is_call t.run_action) s.tasks (subst (AllPairs (λ t u. t.line ≢ u.line)) (sym tasks) (script-apart (lines_in bytes) c script));
      numbered = subst (λ (k : RunContents). AreNumbered k.flags k.tasks) (sym is) (tasks-numbered (lines_in bytes) c script);
      known = All-weaker (λ t. IsTrue (is_taken s.head.domains t.dom)) (λ t. domain_of s.head.domains t.dom ≢ None) (λ t taken. taken-known s.head.domains t.dom taken) s.tasks
          (subst (λ (k : RunContents). All (λ t. IsTrue (is_taken k.head.domains t.dom)) k.tasks) (sym is) (tasks-known (lines_in bytes) c script));
    }
