-- Sequence diagrams of mermaid: domains and tables are participants, and a step is a message to a table.
use Rattle.std.specs.Prelude.{ℕ, ◌==◌, Bool, false, if◌then◌else◌, List, [], ◌++◌, codes, decimal}
use Rattle.std.specs.List.{flat_map, list_any}
use Rattle.gt_types.specs.declared.DomId.{DomId}
use Rattle.gt_types.specs.declared.config.DomainConfig.{DomainConfig}
use Rattle.gt_model.specs.declared.action.Step.{Step}
use Rattle.gt_model.specs.declared.action.Step.TheVariants as call_steps
use Rattle.gt_explore_replay.specs.declared.replay.Moved.{Moved}
use Rattle.gt_explore_replay.specs.declared.replay.Moved.TheVariants.{Began, Passed, Raised, Stepped}
use Rattle.gt_explore_trace.specs.declared.moves.TracedMove.{TracedMove}

-- the domain whose table or frame a step of this domain touches; for a copy, the one whose frame it writes
abbrev pub owner_of : DomId → Step → DomId
owner_of dom (call_steps.LookHeader owner) = owner
owner_of dom (call_steps.LookControl owner gref) = owner
owner_of dom (call_steps.LookBody owner gref body_word) = owner
owner_of dom (call_steps.Pin p) = p.dom
owner_of dom (call_steps.Unpin p holder) = p.dom
owner_of dom (call_steps.StoreBody gref body_word word) = dom
owner_of dom (call_steps.Exchange gref looked change) = dom
owner_of dom (call_steps.StoreHeader version frames) = dom
owner_of dom (call_steps.Read owner frame off len) = owner
owner_of dom (call_steps.Write owner frame off len) = owner
owner_of dom (call_steps.Copy from to len) = to.frame.owner

-- a note over this domain
unfoldable pub diagram_note : DomId → List ℕ
diagram_note dom = codes "    Note over D" ++ decimal dom.0 ++ codes ": "

-- a message of this domain to the table of that one
unfoldable pub message_text : DomId → DomId → List ℕ
message_text dom owner = codes "    D" ++ decimal dom.0 ++ codes "->>T" ++ decimal owner.0 ++ codes ": "

-- what is before the words of a move of this domain
abbrev pub arrow_text : DomId → Moved → List ℕ
arrow_text dom Raised = diagram_note dom
arrow_text dom Passed = diagram_note dom
arrow_text dom (Began answer) = diagram_note dom
arrow_text dom (Stepped step seen answer) = message_text dom (owner_of dom step)

-- the name of the participant of this letter and this domain, and what it is
unfoldable pub participant_name : List ℕ → DomId → List ℕ
participant_name letter dom = codes "    participant " ++ letter ++ decimal dom.0

unfoldable pub participant_kind : List ℕ → DomId → List ℕ
participant_kind kind dom = codes " as " ++ kind ++ codes " " ++ decimal dom.0 ++ codes "\n"

unfoldable pub one_participant : List ℕ → List ℕ → DomId → List ℕ
one_participant letter kind dom = participant_name letter dom ++ participant_kind kind dom

-- a move of a domain touches the table or a frame of this owner
abbrev pub moves_on : DomId → DomId → Moved → Bool
moves_on owner dom Raised = false
moves_on owner dom Passed = false
moves_on owner dom (Began answer) = false
moves_on owner dom (Stepped step seen answer) = (owner_of dom step).0 == owner.0

abbrev pub touches_table : DomId → TracedMove → Bool
touches_table owner m = moves_on owner m.dom m.moved

-- the table of a domain as a participant, if it is touched
abbrev pub table_text : Bool → DomId → List ℕ
table_text is_touched dom = if is_touched then one_participant (codes "T") (codes "table") dom else []

-- a domain as a participant, and its table if one of these moves touches it
unfoldable pub participant_text : List TracedMove → DomainConfig → List ℕ
participant_text moves d =
    one_participant (codes "D") (codes "domain") d.id ++ table_text (list_any (touches_table d.id) moves) d.id

-- the participants of a diagram of these moves
abbrev pub participants_text : List TracedMove → List DomainConfig → List ℕ
participants_text moves domains = flat_map (participant_text moves) domains
