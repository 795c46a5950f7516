-- What a domain knows of its own entries, from the list of them.
use Rattle.std.proofs.Common.{◌≡◌, ℕ, List, sym, ap, ◌∙◌}
use mathlib.Core.Path.{fun_ext}
use Rattle.gt_calls.specs.Known.{knowledge_of}
use Rattle.gt_calls.specs.declared.known.OwnerEntry.{OwnerEntry}
use Rattle.gt_explore_moves.specs.Prelude.{HandleMap, HeldPin, SparseTable, may_by}
use Rattle.gt_model.specs.declared.entry.Entry.{Entry}
use Rattle.gt_model.specs.declared.header.Header.{Header}
use Rattle.gt_explore_state.specs.Rows.{ListsEntries, kept_entry}
use Rattle.gt_explore_moves.specs.Calls.{known_in}
use Rattle.gt_explore_moves.specs.declared.scene.SearchContext.{SearchContext}

pub known-same : (s : SearchContext) (t : SparseTable) (own : List OwnerEntry) (header : Header) (mappings : HandleMap HeldPin) → ListsEntries s.roster.first_gen t.own.items own → t.header ≡ header
    → knowledge_of s.roster.domains.items s.roster.first_gen (may_by s.rights) own header mappings ≡ known_in s t mappings
known-same s t own header mappings lists same =
    ap (λ (h : Header). knowledge_of s.roster.domains.items s.roster.first_gen (may_by s.rights) own h mappings) (sym same)
    ∙ ap (λ (e : ℕ → Entry). record (knowledge_of s.roster.domains.items s.roster.first_gen (may_by s.rights) own t.header mappings) { entry = e }) (fun_ext lists.entries)
    ∙ ap (λ (g : ℕ → ℕ). record (knowledge_of s.roster.domains.items s.roster.first_gen (may_by s.rights) own t.header mappings) { entry = kept_entry t.own.items; generation = g }) (fun_ext lists.generations)
