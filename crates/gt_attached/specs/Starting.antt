-- The attached domains of a run at its start.
use Rattle.std.specs.Prelude.{◌≡◌, ℕ, ◌<◌, List, length, map, HoldsAt, None}
use Rattle.gt_types.specs.declared.config.Config.{Config}
use Rattle.gt_types.specs.declared.places.FrameName.{FrameName}
use Rattle.gt_words.specs.Frames.{KeepsFrame}
use Rattle.gt_live.specs.Domains.{AllowRelation}
use Rattle.gt_live.specs.Parts.{config_of, rights_of, words_of}
use Rattle.gt_live.specs.Starting.{IsNewDomain}
use Rattle.gt_live.specs.declared.domain.Domain.{Domain}
use Rattle.gt_live.specs.declared.monitor.Monitor.{Monitor}
use Rattle.gt_attached.specs.Seated.{Seated, unrecorded}

-- a domain attached to a monitor, in no copy, which records no call
abbrev pub attached_to : {P : Type 0} → Monitor P → Domain → Seated P
attached_to m d = record { monitor = m; domain = unrecorded d; copying = None }

-- the attached domains of a new run: they share one monitor, which has this configuration and these rights and keeps no
-- frame, and each is the new domain at its position in the configuration, but records no call
pub record AreNewGuests {P : Type 0} (may : P → AllowRelation) (c : Config) (rights : P) (guests : List (Seated P))
    : Type 0 where
  pub monitor : Monitor P
  pub config : config_of monitor ≡ c
  pub rights_are : rights_of monitor ≡ rights
  pub no_frames : (name : FrameName) → KeepsFrame (words_of monitor) name → ⊥
  pub domains : List Domain
  pub guests_are : guests ≡ map (attached_to monitor) domains
  pub count : length domains ≡ length c.domains.items
  pub new : (i : ℕ) → i < length c.domains.items
      → HoldsAt (λ d. IsNewDomain (words_of monitor) c (may rights) i d) domains i
