-- What tables show of entries is what the history left.
use Rattle.std.proofs.Common.{◌≡◌, ◌≢◌, ◌<◌, ℕ, Bool, true, cond, ltb, List, length, Option, Some, None}
use Rattle.std.proofs.Common.{refl, sym, ap, subst, arith, slice_get}
use Rattle.std.specs.List.{position_or_len}
use Rattle.std.specs.Option.{option_and_then}
use Rattle.std.specs.Prelude.{◌==◌, ◌&&◌, is_some, nat_lt}
use Rattle.std.proofs.lemmas.Bool.{cond_both}
use Rattle.std.proofs.lemmas.Bool.Decides.{nat_tests}
use Rattle.std.proofs.lemmas.Option.{none-some, same_Some}
use Rattle.gt_types.specs.Names.{domain_of}
use Rattle.gt_types.specs.declared.DomId.{DomId}
use Rattle.gt_types.specs.declared.config.Config.{Config}
use Rattle.gt_types.specs.declared.config.DomainConfig.{DomainConfig}
use Rattle.gt_roster.proofs.Numbered.{domain-nowhere}
use Rattle.gt_core.specs.Shown.{entry_shown, shown_at}
use Rattle.gt_explore_replay.proofs.Coming.{domain_known}
use Rattle.gt_explore_replay.proofs.Following.{there_is}
use Rattle.gt_explore_state.proofs.Becoming.{numbered}
use Rattle.gt_explore_state.specs.Shows.{IsSettingOf, TableShows, TablesShow}
use Rattle.gt_explore_state.specs.Tables.{place_of_domain, table_in}
use Rattle.gt_explore_state.specs.declared.table.SparseTable.{SparseTable}
use Rattle.gt_model.specs.History.{History, Setting, table_at}
use Rattle.gt_model.specs.Rules.{size_of}
use Rattle.gt_explore_states.specs.Tables.{ShowsTableOf, shown_in_table}

-- tables

place-within : (n m k : ℕ) → cond (ltb n m) (Some n) None ≡ Some k → k < m
place-within n m k e = cond_both (ltb n m) (Some n) None (λ o. o ≡ Some k → k < m)
    (λ b f. let same = same_Some n k f in let below : n < m = grind (arith, nat_tests) in omega arith) (λ b f. absurd (none-some k f)) e

module _ (s : Setting) (h : History) (c : Config) (ts : List SparseTable) (dom : DomId) (set : IsSettingOf c s) (shows : TablesShow s h ts) where
  at-place : (o : Option ℕ) → place_of_domain s.domains dom.0 ≡ o → ShowsTableOf s h dom (option_and_then (slice_get ts) o)
  at-place None e = domain-nowhere s.domains dom e
  at-place (Some k) e =
      let within : k < length s.domains = place-within (position_or_len (λ x. x.id.0 == dom.0) s.domains) (length s.domains) k e in
      let d : (x : DomainConfig) × (slice_get s.domains k ≡ Some x) = there_is s.domains k within in
      let many : length ts ≡ length s.domains = shows.many in
      let t : (x : SparseTable) × (slice_get ts k ≡ Some x) = there_is ts k (omega arith) in
      let id : d.0.id ≡ dom = ap (λ (n : ℕ). record { 0 = n }) (numbered s.domains dom.0 k d.0 e d.1) in
      subst (λ (o : Option SparseTable). ShowsTableOf s h dom o) (sym t.1) (
        subst (λ (i : DomId). domain_of s.domains i ≢ None) id (domain_known s.domains k d.0 d.1),
        subst (λ (i : DomId). TableShows s h i t.0) id (shows.each k d.0 t.0 d.1 t.1),
      )

  -- the table of a domain, if the run has the domain
  pub has-table : ShowsTableOf s h dom (table_in c.domains.items ts dom.0)
  has-table = subst (λ (ds : List DomainConfig). ShowsTableOf s h dom (table_in ds ts dom.0)) (sym set.domains) (at-place (place_of_domain s.domains dom.0) refl)

-- entries

-- no domain has the number
pub nowhere-shown : (s : Setting) (h : History) (dom : DomId) (r : ℕ) → domain_of s.domains dom ≡ None → None ≡ shown_at s h dom r
nowhere-shown s h dom r none = sym (ap (λ (o : Option DomainConfig). cond (is_some o && nat_lt r (size_of (table_at s h dom))) (Some (entry_shown s h dom r)) None) none)

some-domain : (o : Option DomainConfig) → o ≢ None → is_some o ≡ true
some-domain None some = absurd (some refl)
some-domain (Some d) some = refl

-- a domain of the run
pub table-shown : (s : Setting) (h : History) (dom : DomId) (r : ℕ) → domain_of s.domains dom ≢ None → shown_in_table s h dom r ≡ shown_at s h dom r
table-shown s h dom r some = sym (ap (λ (b : Bool). cond (b && nat_lt r (size_of (table_at s h dom))) (Some (entry_shown s h dom r)) None) (some-domain (domain_of s.domains dom) some))
