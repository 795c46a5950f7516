-- A table of words alone serves the same run.
use Rattle.std.proofs.Common.{◌≡◌, ℕ, zero, suc, ◌<◌, ◌≤◌, List, [], ◌∷◌, map, length, sym, refl, ap, ◌∙◌, subst}
use Rattle.std.proofs.Common.{arith, All, get_or}
use Rattle.gt_types.specs.Config.{IsWithinLimits}
use Rattle.gt_model.specs.Words.{header_word}
use Rattle.gt_types.specs.declared.limits.TheConstants.{LAST_VERSION, MAX_FRAMES, MAX_TABLE_FRAMES}
use Rattle.gt_types.specs.declared.config.Config.{Config}
use Rattle.gt_types.specs.declared.config.DomainConfig.{DomainConfig}
use Rattle.gt_word_history.specs.Rule.{first_header, layout_of, Layout, id_at, position_in}
use Rattle.std.specs.Prelude.{IfOk, Result, Ok, Err}
use Rattle.gt_types.specs.declared.places.FrameName.{FrameName}
use Rattle.gt_word_history.specs.Places.{Board}
use Rattle.std.proofs.lemmas.List.{length-map}
use Rattle.gt_types.specs.declared.DomId.{DomId}
use Rattle.gt_words.specs.Laws.{domain_at}
use Rattle.gt_words.specs.Conditions.{IsLayoutWithinLimits, position_at}
use Rattle.gt_words.specs.Frames.{KeepsFrame}
use Rattle.gt_shared_table.specs.Words.{HasTable, frames_kept}
use Rattle.gt_words.specs.Frameless.{IsFrameless, frameless}

all_frameless : (P Q : DomainConfig → Type 0) → ((d : DomainConfig) → P d → Q (frameless d)) → (ds : List DomainConfig) → All P ds → All Q (map frameless ds)
all_frameless P Q so [] all i d l = absurd (omega arith)
all_frameless P Q so (x ∷ xs) all zero d l = so x (all 0 d (omega arith))
all_frameless P Q so (x ∷ xs) all (suc i) d l = all_frameless P Q so xs (λ j e m. all (suc j) e (omega arith)) i d (omega arith)

len_same : (ds : List DomainConfig) → length (map frameless ds) ≡ length ds
len_same [] = refl
len_same (d ∷ ds) = ap suc (len_same ds)

seen_same : {B : Type 0} (f : DomainConfig → B) → ((d : DomainConfig) → f (frameless d) ≡ f d) → (ds : List DomainConfig) → map f (map frameless ds) ≡ map f ds
seen_same f so [] = refl
seen_same f so (d ∷ ds) = λ i. so d i ∷ seen_same f so ds i

pub has_table : (c e : Config) → IsWithinLimits c → IsFrameless c e → HasTable e
has_table c e is less = let len : length e.domains.items ≡ length c.domains.items = ap length less.0 ∙ len_same c.domains.items in let some = is.some in let few = is.few in let last = is.generation in let first = less.1 in record {
  some = omega arith;
  few = omega arith;
  frames = subst (λ (l : List DomainConfig). All (λ d. d.frames ≤ MAX_FRAMES) l) (sym less.0) (all_frameless (λ d. (1 ≤ d.frames) × (d.frames ≤ MAX_FRAMES)) (λ d. d.frames ≤ MAX_FRAMES) (λ d p. omega arith) c.domains.items is.frames);
  table_frames = subst (λ (l : List DomainConfig). All (λ d. (1 ≤ d.table_frames) × (d.table_frames ≤ MAX_TABLE_FRAMES)) l) (sym less.0) (all_frameless (λ d. (1 ≤ d.table_frames) × (d.table_frames ≤ MAX_TABLE_FRAMES)) (λ d. (1 ≤ d.table_frames) × (d.table_frames ≤ MAX_TABLE_FRAMES)) (λ d p. p) c.domains.items is.table_frames);
  versions = subst (λ (l : List DomainConfig). All (λ d. (1 ≤ d.version) × (d.version ≤ LAST_VERSION)) l) (sym less.0) (all_frameless (λ d. (1 ≤ d.version) × (d.version ≤ LAST_VERSION)) (λ d. (1 ≤ d.version) × (d.version ≤ LAST_VERSION)) (λ d p. p) c.domains.items is.versions);
  generation = omega arith;
}

pub same_layout : (c e : Config) → IsFrameless c e → layout_of e ≡ layout_of c
same_layout c e less = λ i. record {
  ids = (ap (map (λ (d : DomainConfig). d.id)) less.0 ∙ seen_same (λ d. d.id) (λ d. refl) c.domains.items) i;
  domains = (ap length less.0 ∙ len_same c.domains.items) i;
  first = less.1 i;
  headers = (ap (map (λ (d : DomainConfig). header_word (first_header d))) less.0 ∙ seen_same (λ d. header_word (first_header d)) (λ d. refl) c.domains.items) i;
}

-- a table without frames keeps none
no_frame : (ds : List DomainConfig) (n t : ℕ) → n < get_or (map (λ (d : DomainConfig). d.frames) (map frameless ds)) t 0 → ⊥
no_frame [] n t l = omega arith
no_frame (d ∷ ds) n zero l = omega arith
no_frame (d ∷ ds) n (suc t) l = no_frame ds n t l

pub keeps_none : {S E : Type 0} (c e : Config) → IsFrameless c e → (result : Result (Board × S) E) → IfOk result (λ r. r.0.frames ≡ frames_kept e) → IfOk result (λ r. (name : FrameName) → KeepsFrame r.0 name → ⊥)
keeps_none c e less (Ok r) same = λ (name : FrameName) (there : KeepsFrame r.0 name). no_frame c.domains.items name.number (position_at r.0 name.owner)
    (subst (λ (l : List ℕ). name.number < get_or l (position_at r.0 name.owner) 0) (same ∙ ap (map (λ (d : DomainConfig). d.frames)) less.0) there.1)
keeps_none c e less (Err x) same = same

-- a domain whose position is one of the run is the one there
pub named_there : (k : Layout) (d : DomId) → IsLayoutWithinLimits k → position_in k.ids d < k.domains → id_at k.ids (position_in k.ids d) ≡ d
named_there k d is inside = domain_at k d (let c = is.0 in let e : length k.ids ≡ k.domains = ap (λ (j : Layout). length j.ids) is.2 ∙ (length-map c.domains.items (λ (x : DomainConfig). x.id) ∙ sym (ap (λ (j : Layout). j.domains) is.2)) in omega arith)

-- the table of a configuration within the limits
pub whole_table : (c : Config) → IsWithinLimits c → HasTable c
whole_table c is = let some = is.some in let few = is.few in let last = is.generation in record {
  some = omega arith;
  few = omega arith;
  frames = λ i d l. (is.frames i d l).1;
  table_frames = is.table_frames;
  versions = is.versions;
  generation = omega arith;
}
