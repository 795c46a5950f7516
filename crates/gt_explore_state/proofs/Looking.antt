-- What steps see in tables is what the history left.
use Rattle.std.proofs.Common.{◌≡◌, ◌≢◌, ℕ, zero, suc, ◌<◌, ◌==◌, Bool, true, false, cond, List, [], ◌∷◌, length}
use Rattle.std.proofs.Common.{slice_get, Option, Some, None, refl, sym, ap, ◌∙◌, subst, arith}
use Rattle.std.proofs.lemmas.Bool.{eqb-true}
use Rattle.std.proofs.lemmas.Option.{slice_get_within}
use Rattle.std.specs.Option.{option_and_then}
use Rattle.gt_types.specs.Names.{domain_of}
use Rattle.gt_types.specs.declared.DomId.{DomId}
use Rattle.gt_types.specs.declared.config.Config.{Config}
use Rattle.gt_types.specs.declared.config.DomainConfig.{DomainConfig}
use Rattle.gt_model.specs.declared.entry.Entry.{Entry}
use Rattle.gt_model.specs.declared.change.BodyWord.{BodyWord}
use Rattle.gt_model.specs.declared.change.BodyWord.TheVariants as body_words
use Rattle.gt_model.specs.Words.{control_word, header_word}
use Rattle.gt_model.specs.Spelling.{control_with}
use Rattle.gt_model.specs.declared.action.Step.{Step}
use Rattle.gt_model.specs.declared.action.Step.TheVariants.{LookHeader, LookControl, LookBody, Exchange}
use Rattle.gt_model.specs.declared.action.Step.TheVariants as call_steps
use Rattle.gt_model.specs.declared.action.Observation.TheVariants.{Word}
use Rattle.gt_model.specs.History.{History, Setting, entry_at, generation_at, reads_at, body_at, word_at, seen_by}
use Rattle.gt_model.specs.History.{exchange_sees}
use Rattle.gt_explore_state.specs.Rows.{counts_in, word_in, kept_entry, kept_generation}
use Rattle.gt_explore_state.specs.Shows.{IsSettingOf, IsInRun, LooksInRun, TableShows, TablesShow}
use Rattle.gt_explore_state.specs.Tables.{place_of_domain, table_in, header_in_table, word_seen, body_in_table}
use Rattle.gt_explore_state.specs.Tables.{step_sees}
use Rattle.gt_explore_state.specs.declared.table.SparseTable.{SparseTable}
use Rattle.gt_explore_state.proofs.Becoming.{placed}

-- a domain of the run has a place
found : (ds : List DomainConfig) (d : DomId) → domain_of ds d ≢ None → (k : ℕ) × (c : DomainConfig) × (slice_get ds k ≡ Some c) × (c.id.0 ≡ d.0)
found [] d some = absurd (some refl)
found (c ∷ ds) d some = by (c.id.0 == d.0) refl some (found ds d) where
  by : (b : Bool) → (c.id.0 == d.0) ≡ b → cond b (Some c) (domain_of ds d) ≢ None → (domain_of ds d ≢ None → (k : ℕ) × (e : DomainConfig) × (slice_get ds k ≡ Some e) × (e.id.0 ≡ d.0))
      → (k : ℕ) × (e : DomainConfig) × (slice_get (c ∷ ds) k ≡ Some e) × (e.id.0 ≡ d.0)
  by true e s more = (0, c, refl, eqb-true c.id.0 d.0 e)
  by false e s more = let r = more s in (suc r.0, r.1, r.2, r.3)

some-there : (ts : List SparseTable) (k : ℕ) → k < length ts → (t : SparseTable) × (slice_get ts k ≡ Some t)
some-there [] k within = absurd (omega arith)
some-there (t ∷ ts) zero within = (t, refl)
some-there (t ∷ ts) (suc k) within = some-there ts k (omega arith)

module _ (s : Setting) (h : History) (c : Config) (ts : List SparseTable) (set : IsSettingOf c s) (shows : TablesShow s h ts) where
  -- its table is the one at that place
  there : (d : DomId) → IsInRun s d → (t : SparseTable) × (table_in c.domains.items ts d.0 ≡ Some t) × TableShows s h d t
  there d some = let f = found s.domains d some in let many = shows.many in let within = slice_get_within s.domains f.0 f.1 f.2 in
      let t = some-there ts f.0 (omega arith) in
      let id : f.1.id ≡ d = ap (λ (n : ℕ). record { 0 = n }) f.3 in
      let place : place_of_domain s.domains d.0 ≡ Some f.0 = ap (place_of_domain s.domains) (sym f.3) ∙ placed s.domains set.apart f.0 f.1 f.2 in (
        t.0,
        ap (λ (ds : List DomainConfig). table_in ds ts d.0) set.domains ∙ ap (option_and_then (slice_get ts)) place ∙ t.1,
        subst (λ (n : DomId). TableShows s h n t.0) id (shows.each f.0 f.1 t.0 f.2 t.1),
      )

  word-is : (d : DomId) (r : ℕ) → IsInRun s d → word_seen c.first_gen (table_in c.domains.items ts d.0) r ≡ word_at s h d.0 r
  word-is d r some = let t = there d some in let z = t.2.counts r in
      ap (λ (o : Option SparseTable). word_seen c.first_gen o r) t.1
      ∙ ap (λ (n : ℕ). word_in n t.0.own.items t.0.counts.items r) set.first
      ∙ ap (λ (e : Entry). control_word (control_with e (kept_generation s.first_generation t.0.own.items r) (counts_in t.0.counts.items r).reads (counts_in t.0.counts.items r).writes)) (t.2.entries r)
      ∙ ap (λ (n : ℕ). control_word (control_with (entry_at h d.0 r) n (counts_in t.0.counts.items r).reads (counts_in t.0.counts.items r).writes)) (t.2.generations r)
      ∙ ap (λ (n : ℕ). control_word (control_with (entry_at h d.0 r) (generation_at s h d.0 r) n (counts_in t.0.counts.items r).writes)) z.reads
      ∙ ap (λ (n : ℕ). control_word (control_with (entry_at h d.0 r) (generation_at s h d.0 r) (reads_at h d.0 r) n)) z.writes

  body-is : (d : DomId) (r : ℕ) (body_word : BodyWord) → IsInRun s d → body_in_table (table_in c.domains.items ts d.0) r body_word ≡ body_at h d.0 r body_word
  body-is d r body_words.First some = let t = there d some in ap (λ (o : Option SparseTable). body_in_table o r body_words.First) t.1 ∙ (t.2.counts r).first
  body-is d r body_words.Second some = let t = there d some in ap (λ (o : Option SparseTable). body_in_table o r body_words.Second) t.1 ∙ (t.2.counts r).second

  pub saw : (d : DomId) (step : Step) → LooksInRun s d step → step_sees c.domains.items c.first_gen ts d step ≡ seen_by s h d step
  saw d (LookHeader dom) run = let t = there dom run in ap (λ (n : ℕ). Word n) (ap header_in_table t.1 ∙ ap header_word t.2.header)
  saw d (LookControl dom gref) run = ap (λ (n : ℕ). Word n) (word-is dom gref.0 run)
  saw d (LookBody dom gref body_word) run = ap (λ (n : ℕ). Word n) (body-is dom gref.0 body_word run)
  saw d (call_steps.Pin p) run = ap (λ (n : ℕ). exchange_sees n p.word) (word-is p.dom p.gref.0 run)
  saw d (Exchange gref looked change) run = ap (λ (n : ℕ). exchange_sees n looked) (word-is d gref.0 run)
  saw d step run = refl
