-- A configuration with at most one frame a domain.
use Rattle.std.proofs.Common.{◌≡◌, ◌≢◌, ℕ, zero, suc, ◌<◌, ◌≤◌, ◌==◌, Bool, true, false, cond, List, [], ◌∷◌, map, length, get_or, sym, refl, ap, ◌∙◌, subst, arith, All, AllPairs}
use Rattle.std.proofs.lemmas.Bool.Decides.{nat_tests}
use Rattle.gt_types.specs.Config.{IsWithinLimits}
use Rattle.gt_types.specs.declared.config.Config.{Config}
use Rattle.gt_types.specs.declared.config.DomainConfig.{DomainConfig}
use Rattle.gt_types.specs.declared.limits.TheConstants.{DOMID_SELF, LAST_VERSION, MAX_FRAMES, MAX_TABLE_FRAMES}
use Rattle.gt_roster.specs.Frameless.{HasOneFrameEach, IsRunnable, LimitsAreRunnable, OneFrameIsEnough, with_one_frame}

len_same : (ds : List DomainConfig) → length (map with_one_frame ds) ≡ length ds
len_same [] = refl
len_same (d ∷ ds) = ap suc (len_same ds)

pub ids_same : (ds : List DomainConfig) → map (λ (d : DomainConfig). d.id) (map with_one_frame ds) ≡ map (λ (d : DomainConfig). d.id) ds
ids_same [] = refl
ids_same (d ∷ ds) = ap (λ l. d.id ∷ l) (ids_same ds)

-- what holds of each domain of the one holds of each of the other
all_to : (P Q : DomainConfig → Type 0) → ((d : DomainConfig) → P d → Q (with_one_frame d)) → (ds : List DomainConfig) → All P ds → All Q (map with_one_frame ds)
all_to P Q so [] all i d l = absurd (omega arith)
all_to P Q so (x ∷ xs) all zero d l = so x (all 0 d (omega arith))
all_to P Q so (x ∷ xs) all (suc i) d l = all_to P Q so xs (λ j e m. all (suc j) e (omega arith)) i d (omega arith)

all_from : (P Q : DomainConfig → Type 0) → ((d : DomainConfig) → P (with_one_frame d) → Q d) → (ds : List DomainConfig) → All P (map with_one_frame ds) → All Q ds
all_from P Q so [] all i d l = absurd (omega arith)
all_from P Q so (x ∷ xs) all zero d l = so x (all 0 d (omega arith))
all_from P Q so (x ∷ xs) all (suc i) d l = all_from P Q so xs (λ j e m. all (suc j) e (omega arith)) i d (omega arith)

id_at_same : (ds : List DomainConfig) (i : ℕ) (d : DomainConfig) → i < length ds → (get_or (map with_one_frame ds) i d).id ≡ (get_or ds i d).id
id_at_same [] i d l = absurd (omega arith)
id_at_same (x ∷ xs) zero d l = refl
id_at_same (x ∷ xs) (suc i) d l = id_at_same xs i d (omega arith)

one_of : (n : ℕ) → 1 ≤ n → (1 ≤ cond (n == 0) 0 1) × (cond (n == 0) 0 1 ≤ MAX_FRAMES)
one_of n l = (grind (arith, nat_tests), grind (arith, nat_tests))

some_of : (n : ℕ) → 1 ≤ cond (n == 0) 0 1 → 1 ≤ n
some_of zero l = absurd (omega arith)
some_of (suc n) l = omega arith

pub runnable : LimitsAreRunnable
runnable c is = record {
  some = is.some;
  few = is.few;
  ids = is.ids;
  distinct = is.distinct;
  frames = λ i d l. (is.frames i d l).0;
  table_frames = is.table_frames;
  versions = is.versions;
  generation = is.generation;
}

within : (c e : Config) → HasOneFrameEach c e → IsRunnable c → IsWithinLimits e
within c e less is = let ds : List DomainConfig = c.domains.items in let len : length e.domains.items ≡ length ds = ap length less.0 ∙ len_same ds in let some = is.some in let few = is.few in let last = is.generation in let first = less.1 in record {
  some = omega arith;
  few = omega arith;
  ids = subst (λ (l : List DomainConfig). All (λ d. d.id.0 < DOMID_SELF) l) (sym less.0) (all_to (λ d. d.id.0 < DOMID_SELF) (λ d. d.id.0 < DOMID_SELF) (λ d p. p) ds is.ids);
  distinct = subst (λ (l : List DomainConfig). AllPairs (λ d f. d.id.0 ≢ f.id.0) l) (sym less.0)
      (λ i j d below inside same. let l = len_same ds in is.distinct i j d below (omega arith)
      (ap (λ x. x.0) (sym (id_at_same ds i d (omega arith))) ∙ same ∙ ap (λ x. x.0) (id_at_same ds j d (omega arith))));
  frames = subst (λ (l : List DomainConfig). All (λ d. (1 ≤ d.frames) × (d.frames ≤ MAX_FRAMES)) l) (sym less.0) (all_to (λ d. 1 ≤ d.frames) (λ d. (1 ≤ d.frames) × (d.frames ≤ MAX_FRAMES)) (λ d p. one_of d.frames p) ds is.frames);
  table_frames = subst (λ (l : List DomainConfig). All (λ d. (1 ≤ d.table_frames) × (d.table_frames ≤ MAX_TABLE_FRAMES)) l) (sym less.0) (all_to (λ d. (1 ≤ d.table_frames) × (d.table_frames ≤ MAX_TABLE_FRAMES)) (λ d. (1 ≤ d.table_frames) × (d.table_frames ≤ MAX_TABLE_FRAMES)) (λ d p. p) ds is.table_frames);
  versions = subst (λ (l : List DomainConfig). All (λ d. (1 ≤ d.version) × (d.version ≤ LAST_VERSION)) l) (sym less.0) (all_to (λ d. (1 ≤ d.version) × (d.version ≤ LAST_VERSION)) (λ d. (1 ≤ d.version) × (d.version ≤ LAST_VERSION)) (λ d p. p) ds is.versions);
  generation = omega arith;
}

runs : (c e : Config) → HasOneFrameEach c e → IsWithinLimits e → IsRunnable c
runs c e less is = let ds : List DomainConfig = c.domains.items in let len : length e.domains.items ≡ length ds = ap length less.0 ∙ len_same ds in let some = is.some in let few = is.few in let last = is.generation in let first = less.1 in record {
  some = omega arith;
  few = omega arith;
  ids = all_from (λ d. d.id.0 < DOMID_SELF) (λ d. d.id.0 < DOMID_SELF) (λ d p. p) ds (subst (λ (l : List DomainConfig). All (λ d. d.id.0 < DOMID_SELF) l) less.0 is.ids);
  distinct = λ i j d below inside same. let l = len_same ds in let apart = subst (λ (l : List DomainConfig). AllPairs (λ d f. d.id.0 ≢ f.id.0) l) less.0 is.distinct in
      apart i j d below (omega arith) (ap (λ x. x.0) (id_at_same ds i d (omega arith)) ∙ same ∙ ap (λ x. x.0) (sym (id_at_same ds j d inside)));
  frames = all_from (λ d. (1 ≤ d.frames) × (d.frames ≤ MAX_FRAMES)) (λ d. 1 ≤ d.frames) (λ d p. some_of d.frames p.0) ds (subst (λ (l : List DomainConfig). All (λ d. (1 ≤ d.frames) × (d.frames ≤ MAX_FRAMES)) l) less.0 is.frames);
  table_frames = all_from (λ d. (1 ≤ d.table_frames) × (d.table_frames ≤ MAX_TABLE_FRAMES)) (λ d. (1 ≤ d.table_frames) × (d.table_frames ≤ MAX_TABLE_FRAMES)) (λ d p. p) ds (subst (λ (l : List DomainConfig). All (λ d. (1 ≤ d.table_frames) × (d.table_frames ≤ MAX_TABLE_FRAMES)) l) less.0 is.table_frames);
  versions = all_from (λ d. (1 ≤ d.version) × (d.version ≤ LAST_VERSION)) (λ d. (1 ≤ d.version) × (d.version ≤ LAST_VERSION)) (λ d p. p) ds (subst (λ (l : List DomainConfig). All (λ d. (1 ≤ d.version) × (d.version ≤ LAST_VERSION)) l) less.0 is.versions);
  generation = omega arith;
}

pub one_frame : OneFrameIsEnough
one_frame c e less = (runs c e less, within c e less)
