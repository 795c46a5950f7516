-- The domains at the start of a run.
use Rattle.std.specs.Prelude.{◌≡◌, ℕ, Bool, List, [], replicate}
use Rattle.gt_model.specs.declared.entry.Entry.TheVariants.{Invalid}
use Rattle.gt_types.specs.declared.TypeId.{TypeId}
use Rattle.gt_types.specs.declared.perms.Perms.{Perms}
use Rattle.gt_types.specs.declared.config.Config.{Config}
use Rattle.gt_types.specs.declared.limits.TheConstants.{TABLE_ENTRIES}
use Rattle.gt_words.specs.Conditions.{Board}
use Rattle.gt_words.specs.Answers.{IsNewSeat}
use Rattle.gt_audit.specs.Trails.{silent}
use Rattle.gt_calls.specs.declared.known.OwnerEntry.{OwnerEntry}
use Rattle.gt_live.specs.Domains.{IsDomainOf}
use Rattle.gt_live.specs.declared.domain.Domain.{Domain}

-- an owner's rows at the start: each entry invalid, at the first generation
unfoldable pub first_rows : ℕ → List OwnerEntry
first_rows first = replicate TABLE_ENTRIES (record { entry = Invalid; generation = first })

-- the domain at the position i, which has made no call: no step, no mapping, no handle given and no record
pub record IsNewDomain (b : Board) (c : Config) (may : TypeId → TypeId → Perms → Bool) (i : ℕ)
    (d : Domain) : Type 0 where
  pub domain : IsDomainOf b c may d
  pub seat : IsNewSeat b i d.seat
  pub mappings : d.mappings ≡ record { slots = []; given = 0; room = 0 }
  pub trail : d.trail ≡ silent
