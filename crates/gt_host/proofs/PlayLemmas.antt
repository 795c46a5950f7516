use Rattle.std.proofs.Common.{◌≡◌, ℕ, Bool, true, false, ◌+◌, ◌<◌, List, [], ◌∷◌, ◌++◌, length, take, get_or, Option}
use Rattle.std.proofs.Common.{None, Some, refl, ap, sym, subst, ◌∙◌, append_assoc, add-one, inl, inr, arith}
use Rattle.std.proofs.Math.Seq.{take-suc, take-length}
use Rattle.std.proofs.lemmas.List.{append-nil}
use Rattle.std.proofs.lemmas.List.Elements.{All-get_or}
use Rattle.std.specs.Io.KnownBytes.{Appends, Keeps}
use Rattle.std.specs.Prelude.{All, IsTrue}
use Rattle.gt_script.specs.declared.script.ScriptStep.{ScriptStep}
use Rattle.gt_script.specs.Contents.{Contents, type_names, first_gen, KeptContents, contents_of, kept_head_in}
use Rattle.gt_types.specs.Config.{is_taken}
use Rattle.gt_types.specs.declared.TypeId.{TypeId}
use Rattle.gt_types.specs.declared.perms.Perms.{Perms}
use Rattle.gt_types.specs.declared.config.DomainConfig.{DomainConfig}
use Rattle.gt_model.specs.History.{Setting, open_call, setting_of}
use Rattle.gt_core.specs.Standing.{CoreModel, CoreStands}
use Rattle.gt_core.specs.States.{CoreState}
use Rattle.gt_host.specs.declared.kept.PlayState.{PlayState}
use Rattle.gt_script_runs.specs.declared.rights.ScriptPolicy.{ScriptPolicy}
use Rattle.gt_script_runs.specs.Rights.{may_by}
use Rattle.gt_host.specs.OpenCalls.{call_in}
use Rattle.gt_script_runs.specs.Auditing.{asked_lines, audit_text, before_call, record_lines}
use Rattle.gt_script_runs.specs.Playing.{StartsFor, BeginsRun, WritesRun, IsLegalRunOf, setting_of_script, play_text}
use Rattle.gt_script_runs.specs.Playing.{audited_text}
use Rattle.gt_host.specs.Recording.{IsAudited, RecordsNothing}
use Rattle.gt_model.specs.declared.trace.Element.{Element}
use Rattle.gt_script_runs.specs.Runs.{Progress, PlayLeadsTo, ScriptLeadsTo, RunsLine, at_start, history_of, open_text}
use Rattle.gt_script_runs.specs.Runs.{open_lines}
use Rattle.gt_text.specs.Laws.{appends_both, appends_nothing, begins_after}
use Rattle.gt_text.specs.Streams.{AppendsBeginning, Sends}
use Rattle.gt_host.specs.Ticking.{IsReadyToCall, KeepsProgress, HasPlayed, Leads}
use Rattle.gt_script_runs.proofs.StartLemmas.{taken_known}

-- how far a run has come: it stands where these steps led, and of its text some went out and the rest waits
pub record IsUnderway (c : Contents) (audit : Bool) (steps : List ScriptStep) (domains : CoreState) (kept : PlayState) (waiting : List ℕ) (old now : Option (List ℕ)) : Type 0 where
  pub progress : Progress
  pub run : ScriptLeadsTo (setting_of_script c) (type_names c) steps progress
  pub come : HasPlayed (setting_of_script c) audit progress domains kept
  pub sent : List ℕ
  pub parts : progress.text ≡ sent ++ waiting
  pub went : Appends old now sent

-- nothing waits yet
pub few_wait : (waiting : List ℕ) → waiting ≡ [] → length waiting < 65536
few_wait waiting none = rw none (omega arith)

-- the setting of a core that starts with a script
pub same_setting_of_script : (c : Contents) (core : CoreModel ScriptPolicy) → StartsFor c core → setting_of core.config (may_by core.rights) ≡ setting_of_script c
same_setting_of_script c core starts =
    ap (λ (ds : List DomainConfig). record { domains = ds; first_generation = core.config.first_gen; may = may_by core.rights }) starts.domains
    ∙ ap (λ (n : ℕ). record { domains = c.domains; first_generation = n; may = may_by core.rights }) starts.generation
    ∙ ap (λ (may : TypeId → TypeId → Perms → Bool). record { domains = c.domains; first_generation = first_gen c; may = may }) starts.rights

-- a core that starts with the head of a script starts with the script
pub starts_whole : (k : KeptContents) (core : CoreModel ScriptPolicy) → StartsFor (contents_of (kept_head_in k)) core → StartsFor (contents_of k) core
starts_whole k core starts = record { domains = starts.domains; generation = starts.generation; rights = starts.rights; stands = starts.stands }

-- nothing has happened yet
pub starts_underway : (c : Contents) (audit : Bool) (core : CoreModel ScriptPolicy) (kept : PlayState) (waiting : List ℕ) (old : Option (List ℕ)) → StartsFor c core → KeepsProgress kept at_start → kept.audit.is_on ≡ audit → RecordsNothing kept → waiting ≡ []
    → IsUnderway c audit [] core.state kept waiting old old
unfolding open_call before_call
starts_underway c audit core kept waiting old starts keeps on nothing none = record {
  progress = at_start;
  run = refl;
  come = record {
    legal = tt;
    stands = subst (λ (s : Setting). CoreStands s [] core.state) (same_setting_of_script c core starts) starts.stands;
    keeps = keeps;
    knows = λ dom. refl;
    audited = record { is_on = on; recorded = λ asked_for. record { records = nothing.records; calls = λ d. nothing.calls d } };
  };
  sent = [];
  parts = sym none;
  went = appends_nothing old;
}

-- a step after the others
LeadsTo-append : (t : Setting) (types : List (List ℕ)) (p q r : Progress) (steps : List ScriptStep) (s : ScriptStep) → PlayLeadsTo t types p steps q → RunsLine t types s s.action q r → PlayLeadsTo t types p (steps ++ s ∷ []) r
LeadsTo-append t types p q r [] s led runs = (r, subst (λ (o : Progress). RunsLine t types s s.action o r) (sym led) runs, refl)
LeadsTo-append t types p q r (x ∷ steps) s led runs = (led.0, led.1, LeadsTo-append t types led.0 q r steps s led.2 runs)

-- nothing went out
pub Keeps-begins : (a b : Option (List ℕ)) (xs : List ℕ) → Keeps a b → AppendsBeginning a b xs
Keeps-begins None b xs h = (0, omega arith, tt)
Keeps-begins (Some x) None xs h = absurd h
Keeps-begins (Some x) (Some y) xs h = (0, omega arith, h ∙ sym (append-nil x))

-- nothing was done, and nothing went out
pub not_begun : (c : Contents) (audit : Bool) (old new : Option (List ℕ)) → Keeps old new → BeginsRun c audit old new
unfolding open_call
not_begun c audit old new kept = inl (0, at_start, (refl, tt, λ dom. refl), Keeps-begins old new [] kept)

-- a run that has come some way has written a beginning, and goes on to do so
pub begins : (c : Contents) (audit : Bool) (steps : List ScriptStep) (n : ℕ) (domains : CoreState) (kept : PlayState) (waiting : List ℕ) (old mid new : Option (List ℕ))
    → steps ≡ c.steps → IsUnderway c audit (take n steps) domains kept waiting old mid → AppendsBeginning mid new waiting → BeginsRun c audit old new
begins c audit steps n domains kept waiting old mid new all u h =
    inl (
      n,
      u.progress,
      (subst (λ (l : List ScriptStep). ScriptLeadsTo (setting_of_script c) (type_names c) (take n l) u.progress) all u.run, u.come.legal, u.come.knows),
      subst (λ (l : List ℕ). AppendsBeginning old new l) (sym u.parts) (begins_after old mid new u.sent waiting u.went h),
    )

-- it has written a beginning already
pub has_begun : (c : Contents) (audit : Bool) (steps : List ScriptStep) (n : ℕ) (domains : CoreState) (kept : PlayState) (waiting : List ℕ) (old mid : Option (List ℕ))
    → steps ≡ c.steps → IsUnderway c audit (take n steps) domains kept waiting old mid → BeginsRun c audit old mid
has_begun c audit steps n domains kept waiting old mid all u =
    begins c audit steps n domains kept waiting old mid mid all u (0, omega arith, appends_nothing mid)

-- a step more, of whose line some goes out
pub goes_on : (c : Contents) (audit : Bool) (t : Setting) (known : List (List ℕ)) (steps : List ScriptStep) (i : ℕ) (s : ScriptStep) (domains next : CoreState) (kept later : PlayState) (w more rest : List ℕ) (old mid now : Option (List ℕ))
    → t ≡ setting_of_script c → IsUnderway c audit (take i steps) domains kept w old mid → i < length steps → s ≡ get_or steps i s → known ≡ (type_names c)
    → Leads t (λ p q. RunsLine t known s s.action p q) domains next kept later w more → Sends mid now more rest → IsUnderway c audit (take (i + 1) steps) next later rest old now
goes_on c audit t known steps i s domains next kept later w more rest old mid now setting u within is same leads (sent, split, went) =
    let told = subst (λ (l : List (List ℕ)). Leads t (λ p q. RunsLine t l s s.action p q) domains next kept later w more) same leads in
    let here = subst (λ (x : Setting). Leads x (λ p q. RunsLine x (type_names c) s s.action p q) domains next kept later w more) setting told in
    let step = here u.progress audit u.come in
    let first : take (i + 1) steps ≡ take i steps ++ s ∷ [] = rw add-one (take-suc steps i s within ∙ ap (λ (x : ScriptStep). take i steps ++ x ∷ []) (sym is)) in
    record {
      progress = step.0;
      run = subst (λ (l : List ScriptStep). ScriptLeadsTo (setting_of_script c) (type_names c) l step.0) (sym first) (LeadsTo-append (setting_of_script c) (type_names c) at_start u.progress step.0 (take i steps) s u.run step.1);
      come = step.2;
      sent = u.sent ++ sent;
      parts = step.3.1 ∙ ap (λ (l : List ℕ). l ++ step.3.0) u.parts ∙ append_assoc u.sent w step.3.0 ∙ ap (λ (l : List ℕ). u.sent ++ l) (sym step.3.2 ∙ split) ∙ sym (append_assoc u.sent sent rest);
      went = appends_both old mid now u.sent sent u.went went;
    }

-- a step more, whose line waits with the others, of which a beginning goes out
pub begins_step : (c : Contents) (audit : Bool) (t : Setting) (known : List (List ℕ)) (steps : List ScriptStep) (i : ℕ) (s : ScriptStep) (domains next : CoreState) (kept later : PlayState) (w more : List ℕ) (old mid new : Option (List ℕ))
    → t ≡ setting_of_script c → steps ≡ c.steps → IsUnderway c audit (take i steps) domains kept w old mid → i < length steps → s ≡ get_or steps i s → known ≡ (type_names c)
    → Leads t (λ p q. RunsLine t known s s.action p q) domains next kept later w more → AppendsBeginning mid new more → BeginsRun c audit old new
begins_step c audit t known steps i s domains next kept later w more old mid new setting all u within is same leads h =
    begins c audit steps (i + 1) next later more old mid new all
    (goes_on c audit t known steps i s domains next kept later w more more old mid mid setting u within is same leads ([], refl, appends_nothing mid)) h

-- the next step finds a core that stands for what was done, and is one of a domain of the run
pub ready : (c : Contents) (audit : Bool) (t : Setting) (steps : List ScriptStep) (i : ℕ) (s : ScriptStep) (domains : CoreState) (kept : PlayState) (w : List ℕ) (old mid : Option (List ℕ))
    → t ≡ setting_of_script c → steps ≡ c.steps → All (λ (x : ScriptStep). IsTrue (is_taken c.domains x.dom)) c.steps → IsUnderway c audit (take i steps) domains kept w old mid → i < length steps → s ≡ get_or steps i s → IsReadyToCall t s.dom domains
ready c audit t steps i s domains kept w old mid setting all configured u within is =
    let every : All (λ (x : ScriptStep). IsTrue (is_taken c.domains x.dom)) steps = subst (λ (l : List ScriptStep). All (λ (x : ScriptStep). IsTrue (is_taken c.domains x.dom)) l) (sym all) configured in
    let taken : IsTrue (is_taken c.domains s.dom) = subst (λ (x : ScriptStep). IsTrue (is_taken c.domains x.dom)) (sym is) (All-get_or (λ (x : ScriptStep). IsTrue (is_taken c.domains x.dom)) steps i s within every) in
    subst (λ (q : Setting). IsReadyToCall q s.dom domains) (sym setting) (record {
      history = history_of u.progress;
      stands = u.come.stands;
      known = taken_known c.domains s.dom taken;
    })

-- the end

open_lines-same : (ds : List DomainConfig) (calls known : ℕ → Option ScriptStep) → ((n : ℕ) → calls n ≡ known n) → open_lines ds calls ≡ open_lines ds known
open_lines-same [] calls known same = refl
open_lines-same (d ∷ ds) calls known same = ap (λ (o : Option ScriptStep). open_text d.id o ++ open_lines ds calls) (same d.id.0) ∙ ap (λ (l : List ℕ). open_text d.id (known d.id.0) ++ l) (open_lines-same ds calls known same)

-- the lines of the records are those of the trace
audit_lines : (s : Setting) (audit : Bool) (trace : List Element) (kept : PlayState) (names : List (List ℕ)) → IsAudited s audit trace kept → asked_lines kept.audit.is_on names kept.audit.records.items ≡ audit_text audit s names trace
audit_lines s false trace kept names is = ap (λ (b : Bool). asked_lines b names kept.audit.records.items) is.is_on
audit_lines s true trace kept names is = ap (λ (b : Bool). asked_lines b names kept.audit.records.items) is.is_on ∙ ap (record_lines names) (is.recorded refl).records

-- the lines of the open calls, and then those of the records, wait with the others
last_lines : (c : Contents) (audit : Bool) (domains : CoreState) (kept : PlayState) (ds : List DomainConfig) (names : List (List ℕ)) (steps : List ScriptStep) (waiting more last : List ℕ) (old mid : Option (List ℕ)) → ds ≡ c.domains → names ≡ type_names c
    → more ≡ waiting ++ open_lines ds (call_in kept.calls) → last ≡ more ++ asked_lines kept.audit.is_on names kept.audit.records.items
    → (u : IsUnderway c audit steps domains kept waiting old mid) → u.sent ++ last ≡ audited_text c audit u.progress
last_lines c audit domains kept ds names steps waiting more last old mid all called appended added u =
    let lines : List ℕ = audit_text audit (setting_of_script c) (type_names c) u.progress.trace in
    let whole : u.sent ++ more ≡ play_text c u.progress =
    ap (λ (l : List ℕ). u.sent ++ l) (appended ∙ ap (λ (l : List DomainConfig). waiting ++ open_lines l (call_in kept.calls)) all ∙ ap (λ (l : List ℕ). waiting ++ l) (open_lines-same c.domains (call_in kept.calls) u.progress.open_steps u.come.keeps.calls))
    ∙ sym (append_assoc u.sent waiting (open_lines c.domains u.progress.open_steps)) ∙ ap (λ (l : List ℕ). l ++ open_lines c.domains u.progress.open_steps) (sym u.parts) in
    let told : last ≡ more ++ lines =
    added ∙ ap (λ (l : List (List ℕ)). more ++ asked_lines kept.audit.is_on l kept.audit.records.items) called
    ∙ ap (λ (l : List ℕ). more ++ l) (audit_lines (setting_of_script c) audit u.progress.trace kept (type_names c) u.come.audited) in
    ap (λ (l : List ℕ). u.sent ++ l) told ∙ sym (append_assoc u.sent more lines) ∙ ap (λ (l : List ℕ). l ++ lines) whole

-- all steps were made: the run stands where they lead
is_run : (c : Contents) (audit : Bool) (steps : List ScriptStep) (n : ℕ) (domains : CoreState) (kept : PlayState) (waiting : List ℕ) (old mid : Option (List ℕ))
    → steps ≡ c.steps → n ≡ length steps → (u : IsUnderway c audit (take n steps) domains kept waiting old mid) → IsLegalRunOf c c.steps u.progress
is_run c audit steps n domains kept waiting old mid all made u =
    let whole : take n steps ≡ c.steps = ap (λ (k : ℕ). take k steps) made ∙ take-length steps ∙ all in
    (subst (λ (l : List ScriptStep). ScriptLeadsTo (setting_of_script c) (type_names c) l u.progress) whole u.run, u.come.legal, u.come.knows)

-- the last lines went out
pub ends : (c : Contents) (audit : Bool) (steps : List ScriptStep) (n : ℕ) (domains : CoreState) (kept : PlayState) (ds : List DomainConfig) (names : List (List ℕ)) (waiting more last : List ℕ) (old mid new : Option (List ℕ))
    → steps ≡ c.steps → n ≡ length steps → ds ≡ c.domains → names ≡ type_names c → more ≡ waiting ++ open_lines ds (call_in kept.calls) → last ≡ more ++ asked_lines kept.audit.is_on names kept.audit.records.items
    → IsUnderway c audit (take n steps) domains kept waiting old mid → Appends mid new last → WritesRun c audit old new
ends c audit steps n domains kept ds names waiting more last old mid new all made configured called appended added u went = (
  u.progress,
  is_run c audit steps n domains kept waiting old mid all made u,
  subst (λ (l : List ℕ). Appends old new l) (last_lines c audit domains kept ds names (take n steps) waiting more last old mid configured called appended added u) (appends_both old mid new u.sent last u.went went),
)

-- of the last lines a beginning went out
pub begins_end : (c : Contents) (audit : Bool) (steps : List ScriptStep) (n : ℕ) (domains : CoreState) (kept : PlayState) (ds : List DomainConfig) (names : List (List ℕ)) (waiting more last : List ℕ) (old mid new : Option (List ℕ))
    → steps ≡ c.steps → n ≡ length steps → ds ≡ c.domains → names ≡ type_names c → more ≡ waiting ++ open_lines ds (call_in kept.calls) → last ≡ more ++ asked_lines kept.audit.is_on names kept.audit.records.items
    → IsUnderway c audit (take n steps) domains kept waiting old mid → AppendsBeginning mid new last → BeginsRun c audit old new
begins_end c audit steps n domains kept ds names waiting more last old mid new all made configured called appended added u went =
    inr (
      u.progress,
      is_run c audit steps n domains kept waiting old mid all made u,
      subst (λ (l : List ℕ). AppendsBeginning old new l) (last_lines c audit domains kept ds names (take n steps) waiting more last old mid configured called appended added u) (begins_after old mid new u.sent last u.went went),
    )

-- the lines of the open calls, one after the other

open_lines-append : (ds : List DomainConfig) (d : DomainConfig) (calls : ℕ → Option ScriptStep) → open_lines (ds ++ d ∷ []) calls ≡ open_lines ds calls ++ open_text d.id (calls d.id.0)
open_lines-append [] d calls = append-nil (open_text d.id (calls d.id.0))
open_lines-append (x ∷ ds) d calls = ap (λ (l : List ℕ). open_text x.id (calls x.id.0) ++ l) (open_lines-append ds d calls) ∙ sym (append_assoc (open_text x.id (calls x.id.0)) (open_lines ds calls) (open_text d.id (calls d.id.0)))

pub no_line : (xs : List ℕ) → xs ≡ xs ++ []
no_line xs = sym (append-nil xs)

-- a domain more
pub line_more : (ds : List DomainConfig) (i : ℕ) (e : DomainConfig) (calls : ℕ → Option ScriptStep) (o : Option ScriptStep) (start before after : List ℕ) → i < length ds → before ≡ start ++ open_lines (take i ds) calls → o ≡ calls (get_or ds i e).id.0
    → after ≡ before ++ open_text (get_or ds i e).id o → after ≡ start ++ open_lines (take (i + 1) ds) calls
line_more ds i e calls o start before after within so_far known line =
    let d : DomainConfig = get_or ds i e in
    let first : take (i + 1) ds ≡ take i ds ++ d ∷ [] = rw add-one (take-suc ds i e within) in
    line ∙ ap (λ (l : List ℕ). l ++ open_text d.id o) so_far ∙ ap (λ (q : Option ScriptStep). (start ++ open_lines (take i ds) calls) ++ open_text d.id q) known ∙ append_assoc start (open_lines (take i ds) calls) (open_text d.id (calls d.id.0))
    ∙ ap (λ (l : List ℕ). start ++ l) (sym (ap (λ (l : List DomainConfig). open_lines l calls) first ∙ open_lines-append (take i ds) d calls))

-- all of them
pub all_lines : (ds : List DomainConfig) (i : ℕ) (calls : ℕ → Option ScriptStep) (start after : List ℕ) → i ≡ length ds → after ≡ start ++ open_lines (take i ds) calls → after ≡ start ++ open_lines ds calls
all_lines ds i calls start after all so_far = so_far ∙ ap (λ (l : List DomainConfig). start ++ open_lines l calls) (ap (λ (k : ℕ). take k ds) all ∙ take-length ds)
