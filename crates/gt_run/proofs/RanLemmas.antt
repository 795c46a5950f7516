-- From what was read to what was written.
use Rattle.std.proofs.Common.{◌≡◌, ◌++◌, ◌+◌, ◌<◌, ℕ, Bool, List, [], ◌∷◌, get_or, length, map, take, Option, Result}
use Rattle.std.proofs.Common.{Ok, Err, sym, subst, ap, ◌∙◌, inl, inr}
use Rattle.std.proofs.lemmas.List.{map-append, map_more}
use Rattle.std.proofs.lemmas.List.Elements.{All-append, All-cons, All-nil}
use Rattle.gt_types.specs.Config.{IsWithinLimits}
use Rattle.gt_types.specs.declared.config.Config.{Config}
use Rattle.gt_types.specs.declared.config.DomainConfig.{DomainConfig}
use Rattle.gt_script_runs.specs.Faults.{fault_of, read_fault}
use Rattle.gt_script_runs.specs.Rights.{may_by, may_in}
use Rattle.gt_script_runs.specs.declared.rights.ScriptPolicy.{ScriptPolicy}
use Rattle.gt_script_runs.specs.declared.fault.PlayFault.{PlayFault}
use Rattle.gt_script_runs.specs.declared.fault.PlayFault.TheVariants as play_faults
use Rattle.gt_script.specs.Contents.{first_gen, type_names}
use Rattle.gt_script.specs.RunContents.{RunContents}
use Rattle.gt_script.specs.RunScripts.{RunAnswers, ReadsAsRun}
use Rattle.gt_script.specs.Script.{Wrong}
use Rattle.gt_script.specs.declared.faults.ScriptError.{ScriptError}
use Rattle.gt_script.specs.declared.faults.ScriptError.TheVariants as script_errors
use Rattle.gt_script.specs.Lists.{RunTask}
use Rattle.gt_script.specs.Stuck.{AreNumbered}
use Rattle.gt_text.specs.Laws.{keeps_same, of_any_input}
use Rattle.gt_text.specs.Streams.{OfInput}
use Rattle.gt_text.specs.declared.fault.ReadFault.{ReadFault}
use Rattle.gt_text.specs.declared.fault.ReadFault.TheVariants as read_faults
use Rattle.gt_shared_table.specs.Words.{frames_kept}
use Rattle.gt_run.specs.Faults.{run_out_of_memory}
use Rattle.gt_run.specs.Runs.{AreOf, AreParts, AreListsOf, AreUnder, IsOver, Ran, Wrote, WroteScript}
use Rattle.gt_run.specs.declared.fault.RunFault.{RunFault}
use Rattle.gt_run.specs.declared.fault.RunFault.TheVariants.{Play, Thread}
use Rattle.gt_run.specs.declared.lists.ThreadJob.{ThreadJob}
use Rattle.gt_run.specs.declared.lists.DomainPart.{DomainPart}
use Rattle.gt_run.proofs.JobLemmas.{wrote_as, wrote_none}

-- the part of one domain more
pub parts_more : (domains : List DomainConfig) (i : ℕ) (d : DomainConfig) (tasks : List RunTask) (names : List (List ℕ)) (parts : List DomainPart) (p : DomainPart) → i < length domains → d ≡ get_or domains i d
    → p.dom ≡ d.id → IsOver tasks names p → AreParts (take i domains) tasks names parts → AreParts (take (i + 1) domains) tasks names (parts ++ p ∷ [])
parts_more domains i d tasks names parts p within is same over (doms, all) = (
  map-append (λ (x : DomainPart). x.dom) parts (p ∷ []) ∙ ap (λ l. l ++ p.dom ∷ []) doms
      ∙ ap (λ x. map (λ (y : DomainConfig). y.id) (take i domains) ++ x ∷ []) (same ∙ ap (λ (x : DomainConfig). x.id) is)
      ∙ sym (map_more (λ (y : DomainConfig). y.id) domains i d within),
  All-append (IsOver tasks names) parts (p ∷ []) all (All-cons (IsOver tasks names) p [] over (All-nil (IsOver tasks names))),
)

-- the jobs are those of the script
are_of : (c : RunContents) (logged : Bool) (config : Config) (rights : ScriptPolicy) (flags : ℕ) (parts : List DomainPart) → AreListsOf c parts → config.domains.items ≡ c.head.domains
    → config.first_gen ≡ first_gen c.head → may_by rights ≡ may_in c.head → AreNumbered flags c.tasks → (ds : List (ThreadJob ScriptPolicy)) → AreUnder config rights flags logged parts ds → AreOf c logged ds
are_of c logged config rights flags parts are domains generation may numbered ds (m, of_config, within, of_rights, of_flags, of_frames, jobs) = record {
  parts = parts;
  of_script = are;
  monitor = m;
  domains = ap (λ (x : Config). x.domains.items) of_config ∙ domains;
  limits = subst IsWithinLimits (sym of_config) within;
  generation = ap (λ (x : Config). x.first_gen) of_config ∙ generation;
  rights = ap may_by of_rights ∙ may;
  flags = subst (λ (n : ℕ). AreNumbered n c.tasks) (sym of_flags) numbered;
  frames = of_frames ∙ ap frames_kept (sym of_config);
  jobs_are = jobs;
}

-- the parts over what the script's head and tasks are kept as, under its rights, wrote
pub wrote_script : (refuses : ℕ → Bool) (c : RunContents) (logged : Bool) (config : Config) (rights : ScriptPolicy) (flags : ℕ) (parts shown : List DomainPart) (r : Result (Unit {0}) RunFault) (old new : Option (List ℕ))
    (domains : List DomainConfig) (tasks : List RunTask) (names : List (List ℕ))
    → AreParts domains tasks names parts → (domains ≡ c.head.domains) → (tasks ≡ c.tasks) → (names ≡ type_names c.head) → shown ≡ parts
    → config.domains.items ≡ c.head.domains → config.first_gen ≡ first_gen c.head → may_by rights ≡ may_in c.head → AreNumbered flags c.tasks
    → Wrote may_by refuses (AreUnder config rights flags logged shown) old new r → WroteScript refuses c logged old new r
wrote_script refuses c logged config rights flags parts shown r old new domains tasks names are d t n is of_domains generation may numbered wrote =
    let named = subst (λ l. AreParts domains tasks l parts) n are in
    let tasked = subst (λ l. AreParts domains l (type_names c.head) parts) t named in
    let all = subst (λ l. AreParts l c.tasks (type_names c.head) parts) d tasked in
    wrote_as may_by refuses (AreUnder config rights flags logged shown) (AreOf c logged) r old new
    (are_of c logged config rights flags shown (subst (λ l. AreListsOf c l) (sym is) all) of_domains generation may numbered) wrote

-- no memory, and nothing was written
pub wrote_nothing : (refuses : ℕ → Bool) (c : RunContents) (logged : Bool) (fault : RunFault) (old : Option (List ℕ)) → fault ≡ run_out_of_memory → WroteScript refuses c logged old old (Err fault)
wrote_nothing refuses c logged fault old is = wrote_none may_by refuses (AreOf c logged) fault old is

-- a script was run
pub ran_script : (refuses : ℕ → Bool) (logged : Bool) (Told : Result RunContents Wrong → Type 0) (c : RunContents) (r : Result (Unit {0}) RunFault) (old new : Option (List ℕ)) → Told (Ok c)
    → WroteScript refuses c logged old new r → Ran refuses logged Told old new r
ran_script refuses logged Told c (Ok done) old new recorded wrote = (c, recorded, wrote)
ran_script refuses logged Told c (Err Thread) old new recorded wrote = (c, recorded, wrote)
ran_script refuses logged Told c (Err (Play play_faults.Memory)) old new recorded (inl kept) = inl kept
ran_script refuses logged Told c (Err (Play play_faults.Memory)) old new recorded (inr begun) = inr (c, recorded, begun)
ran_script refuses logged Told c (Err (Play play_faults.Write)) old new recorded wrote = (c, recorded, wrote)
ran_script refuses logged Told c (Err (Play play_faults.Read)) old new recorded wrote = absurd wrote
ran_script refuses logged Told c (Err (Play (play_faults.Script fault))) old new recorded wrote = absurd wrote
ran_script refuses logged Told c (Err (Play (play_faults.Policy fault))) old new recorded wrote = absurd wrote

-- there is no script, and nothing went out
no_script : (refuses : ℕ → Bool) (logged : Bool) (Told : Result RunContents Wrong → Type 0) (error : ScriptError) (old : Option (List ℕ)) → RunAnswers (Err error) Told → Ran refuses logged Told old old (Err (Play (fault_of error)))
no_script refuses logged Told script_errors.Memory old recorded = inl (keeps_same old)
no_script refuses logged Told (script_errors.Fault f) old recorded = (recorded, keeps_same old)
no_script refuses logged Told (script_errors.Policy f) old (g, shown, recorded) = (g, shown, recorded, keeps_same old)

pub ran_nothing : (refuses : ℕ → Bool) (logged : Bool) (Told : Result RunContents Wrong → Type 0) (error : ScriptError) (fault : PlayFault) (old : Option (List ℕ)) → RunAnswers (Err error) Told → fault ≡ fault_of error → Ran refuses logged Told old old (Err (Play fault))
ran_nothing refuses logged Told error fault old recorded is = subst (λ (f : PlayFault). Ran refuses logged Told old old (Err (Play f))) (sym is) (no_script refuses logged Told error old recorded)

-- nothing could be read
unread : (refuses : ℕ → Bool) (logged : Bool) (Told : Result RunContents Wrong → Type 0) (old : Option (List ℕ)) (error : ReadFault) → Ran refuses logged Told old old (Err (Play (read_fault error)))
unread refuses logged Told old read_faults.Memory = inl (keeps_same old)
unread refuses logged Told old read_faults.Read = keeps_same old

pub ran_unread : (refuses : ℕ → Bool) (logged : Bool) (known old : Option (List ℕ)) (error : ReadFault) (fault : PlayFault) → fault ≡ read_fault error → OfInput known (λ input. Ran refuses logged (ReadsAsRun input) old old (Err (Play fault)))
ran_unread refuses logged known old error fault is =
    of_any_input known (λ (input : List ℕ). Ran refuses logged (ReadsAsRun input) old old (Err (Play fault))) (λ (input : List ℕ). subst (λ (f : PlayFault). Ran refuses logged (ReadsAsRun input) old old (Err (Play f))) (sym is) (unread refuses logged (ReadsAsRun input) old error))
