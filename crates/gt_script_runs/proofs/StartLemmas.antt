use Rattle.std.proofs.Common.{◌≡◌, ◌≢◌, ◌≤◌, Bool, true, false, cond, List, [], ◌∷◌, length, None, Some, ap, sym, ◌∙◌}
use Rattle.std.proofs.Common.{inl, inr, arith, subst, Option}
use Rattle.std.specs.Prelude.{◌==◌, ◌||◌, AllPairs, IsTrue}
use Rattle.gt_types.specs.Config.{AreFaultless, IsFirstFault, IsWithinLimits, is_taken}
use Rattle.gt_types.specs.Names.{domain_of}
use Rattle.gt_types.specs.declared.DomId.{DomId}
use Rattle.gt_types.specs.declared.TypeId.{TypeId}
use Rattle.gt_types.specs.declared.perms.Perms.{Perms}
use Rattle.gt_types.specs.declared.config.DomainConfig.{DomainConfig}
use Rattle.gt_types.specs.declared.config.Config.{Config}
use Rattle.gt_types.specs.declared.config.ConfigFault.{ConfigFault}
use Rattle.gt_script.specs.Contents.{Contents, first_gen}
use Rattle.gt_types.specs.declared.limits.TheConstants.{LAST_GENERATION}
use Rattle.gt_model.specs.History.{Setting, setting_of}
use Rattle.gt_core.specs.Standing.{CoreModel, CoreStands}
use Rattle.gt_script_runs.specs.declared.rights.ScriptPolicy.{ScriptPolicy}
use Rattle.gt_script_runs.specs.Rights.{may_by, may_in}
use Rattle.gt_script_runs.specs.Playing.{StartsFor}

-- the setting of a core is that of one with the same domains and rights
pub same_setting : {R : Type 0} (may : R → TypeId → TypeId → Perms → Bool) (a b : Config) (x y : R) → a ≡ b → x ≡ y → setting_of a (may x) ≡ setting_of b (may y)
same_setting {R} may a b x y e f = ap (λ (c : Config). setting_of c (may x)) e ∙ ap (λ (r : R). setting_of b (may r)) f

None-Some : {X : Type 0} (o : Option X) (x : X) → o ≡ None → o ≡ Some x → ⊥
None-Some o x p q = cc

-- domains without a fault, at least one of them, and a generation within the limit
pub no_fault : (c : Config) (f : ConfigFault) → AreFaultless c.domains.items → 1 ≤ length c.domains.items → c.first_gen ≤ LAST_GENERATION → IsFirstFault c f → ⊥
no_fault c f faultless some first (inl (is, none)) = let e = ap length none in omega arith
no_fault c f faultless some first (inr (inl d)) = None-Some _ f (faultless.each d.at d.domain d.there) d.here
no_fault c f faultless some first (inr (inr (is, nonempty, all, late))) = omega arith

-- a core that was made with the domains and the rights of a script
pub starts_for : (c : Contents) (core : CoreModel ScriptPolicy) (config : Config) (rights : ScriptPolicy) → core.config ≡ config → core.rights ≡ rights → CoreStands (setting_of config (may_by rights)) [] core.state
    → config.domains.items ≡ c.domains → config.first_gen ≡ first_gen c → may_by rights ≡ may_in c → StartsFor c core
starts_for c core config rights same_config same_rights stands domains generation may = record {
  domains = ap (λ (k : Config). k.domains.items) same_config ∙ domains;
  generation = ap (λ (k : Config). k.first_gen) same_config ∙ generation;
  rights = ap may_by same_rights ∙ may;
  stands = subst (λ (s : Setting). CoreStands s [] core.state) (sym (same_setting may_by core.config config core.rights rights same_config same_rights)) stands;
}

-- no two domains of such a core have one number
pub apart_in : (c : Contents) (config : Config) → IsWithinLimits config → config.domains.items ≡ c.domains → AllPairs (λ d e. d.id.0 ≢ e.id.0) c.domains
apart_in c config fits domains = subst (λ (ds : List DomainConfig). AllPairs (λ d e. d.id.0 ≢ e.id.0) ds) domains fits.distinct

known_here : (b rest : Bool) (d : DomainConfig) (more : Option DomainConfig) → (rest ≡ true → more ≢ None) → (b || rest) ≡ true → cond {A = Option DomainConfig} b (Some d) more ≢ None
known_here true rest d more known taken = λ e. cc
known_here false rest d more known taken = known taken

-- a number that one of the domains has is that of a domain
pub taken_known : (ds : List DomainConfig) (dom : DomId) → IsTrue (is_taken ds dom) → domain_of ds dom ≢ None
taken_known [] dom taken = cc
taken_known (d ∷ ds) dom taken = known_here (d.id.0 == dom.0) (is_taken ds dom) d (domain_of ds dom) (taken_known ds dom) taken
