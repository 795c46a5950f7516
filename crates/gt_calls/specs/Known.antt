-- What a caller knows by itself, from the rows and handles that it keeps.
use Rattle.std.specs.Prelude.{ℕ, Bool, List, Option, Some, None, ◌+◌, slice_get, min}
use Rattle.gt_calls.specs.Prelude.{TypeId, Perms, LAST_GENERATION, DomainConfig, Entry, Invalid, EntryChange}
use Rattle.gt_calls.specs.Prelude.{HandleMap, value_of, count_of, HeldPin, CallerState}
use Rattle.gt_model.specs.declared.header.Header.{Header}
use Rattle.gt_calls.specs.declared.known.OwnerEntry.{OwnerEntry}
use Rattle.gt_model.specs.Rules.{CallerKnowledge, first}
use Rattle.gt_model.specs.Entries.{changed_entry, raise_of}

-- the entry in an owner's row, Invalid if there is no row
abbrev pub row_entry : Option OwnerEntry → Entry
row_entry None = Invalid
row_entry (Some o) = o.entry

-- the generation in an owner's row, the first generation if there is no row
abbrev pub row_generation : ℕ → Option OwnerEntry → ℕ
row_generation first None = min first LAST_GENERATION
row_generation first (Some o) = o.generation

-- the entry in row r of an owner's rows
abbrev pub entry_in : List OwnerEntry → ℕ → Entry
entry_in own r = row_entry (slice_get own r)

-- the generation in row r of an owner's rows
abbrev pub own_generation : ℕ → List OwnerEntry → ℕ → ℕ
own_generation first own r = row_generation first (slice_get own r)

-- what a caller knows by itself, from its rows and handles: its rows as functions of the reference, its mappings as a
-- function of the handle
abbrev pub knowledge_of : List DomainConfig → ℕ → (TypeId → TypeId → Perms → Bool) → List OwnerEntry → Header → HandleMap HeldPin
    → CallerKnowledge
knowledge_of domains first may own header mappings =
    record {
      domains = domains;
      may = may;
      entry = entry_in own;
      generation = own_generation first own;
      header = header;
      mapping = value_of mappings;
      in_use = count_of mappings;
      maps_answered = mappings.given;
    }

-- what a `CallerState` gives, if `may` is what its rights allow
abbrev pub knows : {P : Type 0} → (P → TypeId → TypeId → Perms → Bool) → CallerState P → CallerKnowledge
knows may n =
    knowledge_of n.config.now.domains.items n.config.now.first_gen (may n.rights.now) n.own.now n.header n.mappings.now

-- what an owner knows of its entry after a change
abbrev pub own_after : EntryChange → OwnerEntry → OwnerEntry
own_after change own =
    record {
      entry = changed_entry change own.entry;
      generation = min (own.generation + raise_of change) LAST_GENERATION;
    }
