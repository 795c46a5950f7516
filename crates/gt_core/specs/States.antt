-- A domain's state, as the core keeps it: the code's own representation. It is in specs/ because private contracts
-- cite it.
use Rattle.std.specs.Prelude.{Bool, true, false, ℕ, List, [], ◌∷◌, Option, Some, None, ◌==◌, ◌≡◌, ◌<◌, ◌≤◌, ◌+◌, ◌^◌}
use Rattle.std.specs.Prelude.{◌%◌, min, map, replicate, if◌then◌else◌}
use Rattle.gt_types.specs.declared.config.DomainConfig.{DomainConfig}
use Rattle.gt_model.specs.declared.entry.Entry.TheVariants.{Invalid}
use Rattle.gt_calls.specs.declared.known.TheConstants.{ENTRIES}
use Rattle.gt_types.specs.declared.limits.TheConstants.{LAST_GENERATION}
use Rattle.gt_model.specs.declared.request.OpenRequest.{OpenRequest}
use Rattle.gt_model.specs.declared.request.OpenRequest.TheVariants.{Map, Load, Store, Peek, Poke}
use Rattle.gt_types.specs.declared.DomId.{DomId}
use Rattle.gt_model.specs.declared.header.Header.{Header}
use Rattle.gt_calls.specs.declared.known.OwnerEntry.{OwnerEntry}
use Rattle.gt_handles.specs.Handles.{HandleMap}
use Rattle.gt_model.specs.declared.held.HeldPin.{HeldPin}
use Rattle.gt_core.specs.declared.pin_counts.PinCounts.{PinCounts}
use Rattle.gt_core.specs.declared.underway.OpenCall.{OpenCall}
use Rattle.gt_frames.specs.Sets.{FrameSet}

-- what the core keeps of a domain: its header, what its owner knows of each entry, the pins and body words of each
-- entry, its mappings by handle, its open call, and the bytes passed to that call to be written
pub record State : Type 0 where
  pub id : DomId
  pub header : Header
  pub own : List OwnerEntry
  pub slots : List PinCounts
  pub mappings : HandleMap HeldPin
  pub underway : Option OpenCall
  pub given : List ℕ

-- what the core keeps of a run: its domains, and their frames
pub record CoreState : Type 0 where
  pub domains : List State
  pub frames : FrameSet

-- these domains and frames
abbrev pub core_of : List State → FrameSet → CoreState
core_of domains frames = record { domains = domains; frames = frames }

-- the request of the open call
abbrev pub asked_in : Option OpenCall → Option OpenRequest
asked_in None = None
asked_in (Some o) = Some o.call.request

-- the calls that may allocate when they begin: a map for its mapping, a load or peek for its answer, a store or poke
-- for the bytes passed to it
abbrev pub asks_memory : OpenRequest → Bool
asks_memory (Map dom gref flags) = true
asks_memory (Load handle off len) = true
asks_memory (Store handle off len) = true
asks_memory (Peek frame off len) = true
asks_memory (Poke frame off len) = true
asks_memory _ = false

-- the bytes that an open call keeps: those passed to a store or a poke
abbrev pub kept_by : OpenRequest → List ℕ → List ℕ
kept_by (Store handle off len) given = given
kept_by (Poke frame off len) given = given
kept_by request given = []

-- a map is open
abbrev pub IsMapping : Option OpenRequest → Type 0
IsMapping (Some (Map dom gref flags)) = Unit {0}
IsMapping _ = ⊥

-- a load or peek of n bytes is open, or another call, or none
abbrev pub IsLoading : Option OpenRequest → ℕ → Type 0
IsLoading (Some (Load handle off len)) n = n ≡ len
IsLoading (Some (Peek frame off len)) n = n ≡ len
IsLoading _ n = Unit {0}

-- the room that a call's answer needs was made when it began: for one more mapping, with a serial that is left, or
-- for the bytes of a load or peek
abbrev pub HasRoom : Option OpenRequest → HandleMap HeldPin → Option ℕ → Type 0
HasRoom (Some (Map dom gref flags)) mappings bytes = (1 ≤ mappings.room) × (mappings.given + 1 < 2 ^ 64)
HasRoom (Some (Load handle off len)) mappings bytes = bytes ≡ Some len
HasRoom (Some (Peek frame off len)) mappings bytes = bytes ≡ Some len
HasRoom _ mappings bytes = Unit {0}

-- the first state of a domain: no open call, no mapping, and all entries invalid
abbrev pub first_state : ℕ → DomainConfig → State
first_state first_gen d =
    record {
      id = d.id;
      header = record { version = d.version % 4; frames = d.table_frames % 256 };
      own = replicate ENTRIES (record { entry = Invalid; generation = min first_gen LAST_GENERATION });
      slots = replicate ENTRIES (record { reads = 0; writes = 0; first = 0; second = 0 });
      mappings = record { slots = []; given = 0; room = 0 };
      underway = None;
      given = [];
    }

-- the first state with this number
abbrev pub state_of : List State → ℕ → Option State
state_of [] d = None
state_of (x ∷ xs) d = if x.id.0 == d then Some x else state_of xs d

-- the states with a change of the first one with this number
abbrev pub changed_in : ℕ → (State → State) → List State → List State
changed_in d f [] = []
changed_in d f (x ∷ xs) = if x.id.0 == d then f x ∷ xs else x ∷ changed_in d f xs

-- these are the states of the domains of a configuration, in order
abbrev pub IsPlaced : List DomainConfig → List State → Type 0
IsPlaced configured domains = map (λ d. d.id) domains ≡ map (λ d. d.id) configured
