-- What the steps on words promise in a table that has frames too.
use Rattle.std.specs.Prelude.{◌≡◌, ℕ, ◌+◌, ◌^◌, ◌<◌, ◌≤◌, List, [], ◌∷◌, map, length, slice_index, All, false}
use mathlib.Core.Option.{none}
use Rattle.atomic_table.specs.Seated.{TableId}
use Rattle.atomic_table.specs.Table.{Me, Step as TableStep}
use Rattle.gt_types.specs.declared.config.Config.{Config}
use Rattle.gt_types.specs.declared.config.DomainConfig.{DomainConfig}
use Rattle.gt_types.specs.declared.limits.TheConstants.{LAST_GENERATION, LAST_VERSION, MAX_DOMAINS, MAX_FRAMES}
use Rattle.gt_types.specs.declared.limits.TheConstants.{MAX_TABLE_FRAMES}
use Rattle.gt_word_history.specs.Joining.{promises_own}
use Rattle.gt_word_history.specs.Places.{Board}
use Rattle.gt_word_history.specs.Steps.{StepKind}
use Rattle.gt_shared_table.specs.declared.rule.FrameHolder.{FrameHolder}
use Rattle.gt_shared_table.specs.declared.table.FrameIndex.{FrameIndex}
use Rattle.gt_shared_table.specs.Rule.{Cell, FrameAt, Places, flag_place}

-- the step as one of a table that has only words
abbrev pub on_words : TableStep Cell → TableStep (Unit {0})
on_words st = record { slots = st.slots; word = st.word; first = st.first; second = st.second; said = none }

-- what a step on a word promises: what the rule of the words promises, and that the seat holds the frames that it held,
-- and took no lock
abbrev pub promises_word : StepKind → TableStep Cell → Me Cell FrameHolder → ℕ → Me Cell FrameHolder → Type 0
promises_word d st m n m' =
    promises_own d (on_words st) (m.0.own, []) n (m'.0.own, []) × (m'.0.held ≡ m.0.held) × (m'.1 ≡ m.1)
    × (m'.0.locks ≡ m.0.locks)

-- the same for a store, which does not report what it found
abbrev pub promises_word_stored : StepKind → TableStep Cell → Me Cell FrameHolder → Me Cell FrameHolder → Type 0
promises_word_stored d st m m' = (found : ℕ) × promises_word d st m found m'

-- the seat holds no frame, took no other seat in, and was not taken in
abbrev pub IsAlone : Me Cell FrameHolder → Type 0
IsAlone m = (m.1 ≡ []) × (m.0.held ≡ []) × (m.0.own.taken ≡ []) × (m.0.own.gone ≡ false)

-- a configuration that a table can be made of: the limits of IsWithinLimits, except that a domain may have no frame
pub record HasTable (c : Config) : Type 0 where
  pub some : 1 ≤ length c.domains.items
  pub few : length c.domains.items ≤ MAX_DOMAINS
  pub frames : All (λ d. d.frames ≤ MAX_FRAMES) c.domains.items
  pub table_frames : All (λ d. (1 ≤ d.table_frames) × (d.table_frames ≤ MAX_TABLE_FRAMES)) c.domains.items
  pub versions : All (λ d. (1 ≤ d.version) × (d.version ≤ LAST_VERSION)) c.domains.items
  pub generation : c.first_gen ≤ LAST_GENERATION

-- the number of frames of each domain
abbrev pub frames_kept : Config → List ℕ
frames_kept c = map (λ d. d.frames) c.domains.items

-- the slot of the first frame of each domain, if the slots of these domains begin at this index
abbrev pub first_slots : ℕ → List DomainConfig → List ℕ
first_slots at [] = []
first_slots at (d ∷ ds) = at ∷ first_slots (at + d.frames) ds

-- the table has the words and locks of this run, and then this number of flags
abbrev pub HasWordsAndFlags : TableId → Places → ℕ → Type 0
HasWordsAndFlags z b flags =
    (flag_place b 0 ≤ z.words) × (z.words ≡ flag_place b 0 + flags) × (flags < 2 ^ 32)
    × (b.layout.domains ≤ MAX_DOMAINS)

-- the table has this frame
abbrev pub HasFrame : Board → FrameIndex → Type 0
HasFrame b f = (f.position < b.layout.domains) × (f.number < slice_index b.frames f.position)

-- the frame by its position and its number
abbrev pub named_at : FrameIndex → FrameAt
named_at f = (f.position, f.number)
