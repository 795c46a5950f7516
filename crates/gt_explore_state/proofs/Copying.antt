-- Tables and pages once more, and those at the start.
use Rattle.std.proofs.Common.{◌≡◌, ◌≢◌, ℕ, zero, suc, ◌+◌, ◌≤◌, ◌%◌, ◌==◌, ◌&&◌, Bool, cond, List, [], ◌∷◌, ◌++◌}
use Rattle.std.proofs.Common.{length, slice_get, Some, refl, sym, ap, ◌∙◌, subst, arith, ◌<◌, ◌-◌, true, false}
use Rattle.std.proofs.Common.{get_or, replicate, take}
use Rattle.std.proofs.lemmas.List.{take_more}
use Rattle.std.specs.Prelude.{All, AllPairs}
use Rattle.std.proofs.lemmas.Bool.{eqb-true, eq-eqb}
use Rattle.std.proofs.lemmas.Option.{none-some, same_Some, slice_get_within, get_or_from_slice_get}
use Rattle.gt_types.specs.declared.DomId.{DomId}
use Rattle.gt_types.specs.declared.config.DomainConfig.{DomainConfig}
use Rattle.gt_types.specs.Names.{domain_of}
use Rattle.gt_types.specs.Config.{IsWithinLimits}
use Rattle.gt_types.specs.declared.config.Config.{Config}
use Rattle.gt_types.specs.declared.limits.TheConstants.{FRAME_SIZE, LAST_GENERATION, LAST_VERSION, MAX_TABLE_FRAMES}
use Rattle.gt_model.specs.declared.header.Header.{Header}
use Rattle.gt_model.specs.Written.{zeros, written}
use Rattle.gt_model.specs.History.{History, Setting, header_from, table_at, entry_at, raises_at, generation_at, live}
use Rattle.gt_model.specs.History.{body_at, patches_at}
use Rattle.gt_explore_state.specs.Pages.{kept_bytes, padded}
use Rattle.gt_explore_state.specs.Rows.{counts_in, kept_entry, kept_generation}
use Rattle.gt_explore_state.specs.Copies.{AreTablesOf, IsTableOf, SamePage, SamePages, SameTables}
use Rattle.gt_explore_state.specs.Shows.{CountsShow, IsSettingOf, PagesShow, TableShows, TablesShow}
use Rattle.gt_explore_state.specs.Tables.{SameTable}
use Rattle.gt_explore_state.specs.declared.pages.SparsePage.{SparsePage}
use Rattle.gt_explore_state.specs.declared.table.SparseTable.{SparseTable}

-- one more of each

pub first-more : (ds : List DomainConfig) (ts : List SparseTable) (d : DomainConfig) (t : SparseTable) → AreTablesOf ds ts → IsTableOf d t → AreTablesOf (ds ++ d ∷ []) (ts ++ t ∷ [])
first-more [] [] d t a b = (b, tt)
first-more (c ∷ ds) (u ∷ ts) d t a b = (a.0, first-more ds ts d t a.1 b)
first-more [] (u ∷ ts) d t a b = absurd a
first-more (c ∷ ds) [] d t a b = absurd a

pub tables-more : (ts us : List SparseTable) (t u : SparseTable) → SameTables ts us → SameTable t u → SameTables (ts ++ t ∷ []) (us ++ u ∷ [])
tables-more [] [] t u a b = (b, tt)
tables-more (v ∷ ts) (w ∷ us) t u a b = (a.0, tables-more ts us t u a.1 b)
tables-more [] (w ∷ us) t u a b = absurd a
tables-more (v ∷ ts) [] t u a b = absurd a

pub pages-more : (ps qs : List SparsePage) (p q : SparsePage) → SamePages ps qs → SamePage p q → SamePages (ps ++ p ∷ []) (qs ++ q ∷ [])
pages-more [] [] p q a b = (b, tt)
pages-more (v ∷ ps) (w ∷ qs) p q a b = (a.0, pages-more ps qs p q a.1 b)
pages-more [] (w ∷ qs) p q a b = absurd a
pages-more (v ∷ ps) [] p q a b = absurd a

-- a loop's step

pub first-step : (ds : List DomainConfig) (ts new : List SparseTable) (i : ℕ) (d : DomainConfig) (t : SparseTable) → i < length ds → AreTablesOf (take i ds) ts → IsTableOf (get_or ds i d) t → new ≡ ts ++ t ∷ [] → AreTablesOf (take (i + 1) ds) new
first-step ds ts new i d t within a b e = subst (AreTablesOf (take (i + 1) ds)) (sym e) (subst (λ (l : List DomainConfig). AreTablesOf l (ts ++ t ∷ [])) (sym (take_more ds i d within)) (first-more (take i ds) ts (get_or ds i d) t a b))

-- what copies show

same-many : (ts us : List SparseTable) → SameTables ts us → length us ≡ length ts
same-many [] [] a = refl
same-many (t ∷ ts) (u ∷ us) a = ap suc (same-many ts us a.1)
same-many [] (u ∷ us) a = absurd a
same-many (t ∷ ts) [] a = absurd a

same-at : (ts us : List SparseTable) (k : ℕ) (u : SparseTable) → SameTables ts us → slice_get us k ≡ Some u → (t : SparseTable) × (slice_get ts k ≡ Some t) × SameTable t u
same-at [] [] k u a e = absurd (none-some u e)
same-at (t ∷ ts) (v ∷ us) zero u a e = (t, refl, subst (SameTable t) (same_Some v u e) a.0)
same-at (t ∷ ts) (v ∷ us) (suc k) u a e = same-at ts us k u a.1 e
same-at [] (v ∷ us) k u a e = absurd a
same-at (t ∷ ts) [] k u a e = absurd a

same-shows : (s : Setting) (h : History) (d : DomId) (t u : SparseTable) → SameTable t u → TableShows s h d t → TableShows s h d u
same-shows s h d t u same a = record {
  header = same.header ∙ a.header;
  entries = λ r. ap (λ l. kept_entry l r) same.own ∙ a.entries r;
  generations = λ r. ap (λ l. kept_generation s.first_generation l r) same.own ∙ a.generations r;
  counts = λ r. subst (CountsShow h d.0 r) (ap (λ l. counts_in l r) (sym same.counts)) (a.counts r);
}

pub tables-shown-again : (s : Setting) (h : History) (ts us : List SparseTable) → SameTables ts us → TablesShow s h ts → TablesShow s h us
tables-shown-again s h ts us same shows = record {
  many = same-many ts us same ∙ shows.many;
  each = λ k d u at here. let t = same-at ts us k u same here in same-shows s h d.id t.0 u t.2 (shows.each k d t.0 at t.1);
}

same-kept : (ps qs : List SparsePage) (t f : ℕ) → SamePages ps qs → kept_bytes qs t f ≡ kept_bytes ps t f
same-kept [] [] t f a = refl
same-kept (p ∷ ps) (q ∷ qs) t f a =
    ap (λ (d : DomId). cond ((d.0 == t) && (q.frame == f)) q.bytes.items (kept_bytes qs t f)) a.0.owner
    ∙ ap (λ (n : ℕ). cond ((p.owner.0 == t) && (n == f)) q.bytes.items (kept_bytes qs t f)) a.0.frame
    ∙ ap (λ (l : List ℕ). cond ((p.owner.0 == t) && (p.frame == f)) l (kept_bytes qs t f)) a.0.bytes
    ∙ ap (λ (l : List ℕ). cond ((p.owner.0 == t) && (p.frame == f)) p.bytes.items l) (same-kept ps qs t f a.1)
same-kept [] (q ∷ qs) t f a = absurd a
same-kept (p ∷ ps) [] t f a = absurd a

pub pages-shown-again : (h : History) (ps qs : List SparsePage) → SamePages ps qs → PagesShow h ps → PagesShow h qs
pages-shown-again h ps qs same shows = λ t f. ap padded (same-kept ps qs t f same) ∙ shows t f

-- before anything happened

table-there : (ds : List DomainConfig) (ts : List SparseTable) (k : ℕ) (d : DomainConfig) (t : SparseTable) → AreTablesOf ds ts → slice_get ds k ≡ Some d → slice_get ts k ≡ Some t → IsTableOf d t
table-there [] [] k d t a e f = absurd (none-some d e)
table-there (c ∷ ds) (u ∷ ts) zero d t a e f = subst (λ (x : DomainConfig). IsTableOf x t) (same_Some c d e) (subst (IsTableOf c) (same_Some u t f) a.0)
table-there (c ∷ ds) (u ∷ ts) (suc k) d t a e f = table-there ds ts k d t a.1 e f
table-there [] (u ∷ ts) k d t a e f = absurd a
table-there (c ∷ ds) [] k d t a e f = absurd a

first-many : (ds : List DomainConfig) (ts : List SparseTable) → AreTablesOf ds ts → length ts ≡ length ds
first-many [] [] a = refl
first-many (d ∷ ds) (t ∷ ts) a = ap suc (first-many ds ts a.1)
first-many [] (t ∷ ts) a = absurd a
first-many (d ∷ ds) [] a = absurd a

own-config : (ds : List DomainConfig) (k : ℕ) (d : DomainConfig) → AllPairs (λ c e. c.id.0 ≢ e.id.0) ds → slice_get ds k ≡ Some d → domain_of ds d.id ≡ Some d
own-config [] k d apart e = absurd (none-some d e)
own-config (c ∷ ds) zero d apart e = ap (λ (b : Bool). cond b (Some c) (domain_of ds d.id)) (eq-eqb c.id.0 d.id.0 (ap (λ (x : DomainConfig). x.id.0) (same_Some c d e))) ∙ e
own-config (c ∷ ds) (suc k) d apart e = by (c.id.0 == d.id.0) refl (own-config ds k d (λ i j x below within. apart (suc i) (suc j) x (omega arith) (omega arith)) e) where
  within : k < length ds
  within = slice_get_within ds k d e

  by : (b : Bool) → (c.id.0 == d.id.0) ≡ b → domain_of ds d.id ≡ Some d → cond b (Some c) (domain_of ds d.id) ≡ Some d
  by false f r = r
  by true f r = absurd (apart 0 (suc k) d (omega arith) (let w : k < length ds = within in omega arith) (eqb-true c.id.0 d.id.0 f ∙ ap (λ (x : DomainConfig). x.id.0) (sym (get_or_from_slice_get ds k d d e))))

fits-word : (d : DomainConfig) → d.version ≤ LAST_VERSION → d.table_frames ≤ MAX_TABLE_FRAMES → ◌≡◌ {A = Header} (record { version = d.version % 4; frames = d.table_frames % 256 }) (record { version = d.version; frames = d.table_frames })
fits-word d v f = let a : d.version % 4 ≡ d.version = omega arith in let b : d.table_frames % 256 ≡ d.table_frames = omega arith in cc

first-header : (s : Setting) (d : DomainConfig) → domain_of s.domains d.id ≡ Some d → table_at s [] d.id ≡ record { version = d.version; frames = d.table_frames }
unfolding table_at
first-header s d e = ap header_from e

first-entries : (s : Setting) (t r : ℕ) → s.first_generation ≤ LAST_GENERATION → (kept_entry [] r ≡ entry_at [] t r) × (kept_generation s.first_generation [] r ≡ generation_at s [] t r)
unfolding entry_at raises_at
first-entries s t r few = (refl, (omega arith))

first-counts : (t r : ℕ) → CountsShow [] t r (counts_in [] r)
unfolding live body_at
first-counts t r = record { reads = refl; writes = refl; first = refl; second = refl }

All-at : (P : DomainConfig → Type 0) (ds : List DomainConfig) (k : ℕ) (d : DomainConfig) → All P ds → slice_get ds k ≡ Some d → P d
All-at P ds k d all e = subst P (get_or_from_slice_get ds k d d e) (all k d (slice_get_within ds k d e))

pub first-shown : (c : Config) (s : Setting) (ds : List DomainConfig) (ts : List SparseTable) → IsSettingOf c s → IsWithinLimits c → c.domains.items ≡ ds → AreTablesOf ds ts → TablesShow s [] ts
first-shown c s ds ts set limits same tables = record { many = first-many ds ts tables ∙ ap length (sym same ∙ set.domains); each = λ k d t at here. by k d t at (table-there ds ts k d t tables (ap (λ l. slice_get l k) (sym same ∙ set.domains) ∙ at) here) } where
  few : s.first_generation ≤ LAST_GENERATION
  few = subst (λ (n : ℕ). n ≤ LAST_GENERATION) set.first limits.generation

  by : (k : ℕ) (d : DomainConfig) (t : SparseTable) → slice_get s.domains k ≡ Some d → IsTableOf d t → TableShows s [] d.id t
  by k d t at is = record {
    header = is.header ∙ fits-word d (limit (λ (x : DomainConfig). (1 ≤ x.version) × (x.version ≤ LAST_VERSION)) limits.versions).1 (limit (λ (x : DomainConfig). (1 ≤ x.table_frames) × (x.table_frames ≤ MAX_TABLE_FRAMES)) limits.table_frames).1
        ∙ sym (first-header s d (own-config s.domains k d set.apart at));
    entries = λ r. ap (λ l. kept_entry l r) is.own ∙ (first-entries s d.id.0 r few).0;
    generations = λ r. ap (λ l. kept_generation s.first_generation l r) is.own ∙ (first-entries s d.id.0 r few).1;
    counts = λ r. subst (CountsShow [] d.id.0 r) (ap (λ l. counts_in l r) (sym is.counts)) (first-counts d.id.0 r);
  } where
    limit : (P : DomainConfig → Type 0) → All P c.domains.items → P d
    limit P all = All-at P c.domains.items k d all (ap (λ l. slice_get l k) set.domains ∙ at)

all-zeros : (n m : ℕ) → m ≡ n → ◌≡◌ {A = List ℕ} ([] ++ replicate m 0) (replicate n 0)
all-zeros n m e = ap (λ (k : ℕ). replicate k 0) e

none-kept : padded [] ≡ written []
unfolding padded zeros
none-kept = all-zeros FRAME_SIZE (FRAME_SIZE - 0) (omega arith)

pub nothing-written : PagesShow [] []
unfolding patches_at
nothing-written = λ t f. none-kept
