-- The handles of labels.
use Rattle.std.specs.Borrow.{Bor}
use Rattle.std.specs.Prelude.{◌≡◌, ◌≢◌, ◌⊎◌, ℕ, Bool, List, Option}
use Rattle.std.specs.Ordering.{nat_cmp, ordering_then, is_eq}
use Rattle.std.specs.Cmp.Lexicographic.{slice_cmp}
use Rattle.std.specs.Map.{lookup}
use Rattle.gt_script_runs.specs.declared.labels.Labels.{Labels}
use Rattle.gt_model.specs.declared.handle.Handle.{Handle}

-- a key is this label of this domain
abbrev pub is_label : ℕ → List ℕ → (ℕ × Bor (List ℕ)) → Bool
is_label dom label key = is_eq (ordering_then (nat_cmp dom key.0) (slice_cmp nat_cmp label key.1.now))

-- the handle of a domain's label, if it has one
abbrev pub handle_in : Labels → ℕ → List ℕ → Option Handle
handle_in labels dom label = lookup (is_label dom label) labels.handles.entries

-- all other labels, of this domain and of others, keep their handles
abbrev pub RenamesOnly : Labels → Labels → ℕ → List ℕ → Type 0
RenamesOnly old new dom label = (d : ℕ) (l : List ℕ) → (d ≢ dom) ⊎ (l ≢ label) → handle_in new d l ≡ handle_in old d l
