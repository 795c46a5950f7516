-- Scripts that are the same except for the bytes that high domains write, and texts that are the same for low domains.
use Rattle.std.specs.Prelude.{◌≡◌, ◌⊎◌, ℕ, Bool, true, false, List, [], ◌∷◌, ◌++◌, length, map}
use Rattle.gt_types.specs.declared.DomId.{DomId}
use Rattle.gt_types.specs.declared.TypeId.{TypeId}
use Rattle.gt_types.specs.declared.config.DomainConfig.{DomainConfig}
use Rattle.gt_model.specs.History.{Setting}
use Rattle.gt_model.specs.declared.trace.Answer.{Answer}
use Rattle.gt_script_lines.specs.Hexadecimal.{hex_bytes}
use Rattle.gt_script_lines.specs.declared.calls.ScriptCall.{ScriptCall}
use Rattle.gt_script_lines.specs.declared.calls.ScriptCall.TheVariants.{Poke, Store}
use Rattle.gt_script.specs.Contents.{type_names}
use Rattle.gt_script.specs.Lists.{RunAction, RunTask}
use Rattle.gt_script.specs.RunContents.{RunContents}
use Rattle.gt_script.specs.declared.tasks.RunAction.TheVariants.{Do}
use Rattle.gt_script_runs.specs.Playing.{setting_of_script}
use Rattle.gt_script_runs.specs.Printing.{answer_line}
use Rattle.gt_explore_replay.specs.Orders.{MayGive}
use Rattle.gt_explore_replay.specs.Walking.{HaveOwnIds}
use Rattle.gt_linearization.specs.Printed.{IsUndisturbed, MayPrint}
use Rattle.gt_run.specs.Serving.{gate_line}
use Rattle.gt_flow.specs.Flow.{IsClosed}
use Rattle.gt_flow.specs.Low.{is_high}
use Rattle.gt_flow.specs.OtherBytes.{unread}

-- scripts

-- the calls are the same, except for the bytes, as many, that a store or a poke writes
abbrev pub SameButStored : ScriptCall → ScriptCall → Type 0
SameButStored (Store label off hex) (Store name at other) =
    (label ≡ name) × (off ≡ at) × (length (hex_bytes hex) ≡ length (hex_bytes other))
SameButStored (Poke frame off hex) (Poke number at other) =
    (frame ≡ number) × (off ≡ at) × (length (hex_bytes hex) ≡ length (hex_bytes other))
SameButStored one other = one ≡ other

-- the actions of a line are the same; if its domain is high, except for such bytes
abbrev pub SameAction : Bool → RunAction → RunAction → Type 0
SameAction true (Do one) (Do other) = SameButStored one other
SameAction high one other = one ≡ other

-- the lines are the same one by one, except for the bytes that high domains store and poke
abbrev pub SameTasks : Setting → (TypeId → Bool) → List RunTask → List RunTask → Type 0
SameTasks s high [] [] = Unit {0}
SameTasks s high (t ∷ ts) (u ∷ us) =
    (t.line ≡ u.line) × (t.dom ≡ u.dom) × SameAction (is_high s high t.dom) t.run_action u.run_action
    × SameTasks s high ts us
SameTasks s high _ _ = ⊥

-- the scripts are the same, except for the bytes that high domains store and poke
pub record SameButHigh (high : TypeId → Bool) (one other : RunContents) : Type 0 where
  pub head : other.head ≡ one.head
  pub tasks : SameTasks (setting_of_script one.head) high one.tasks other.tasks

-- texts

-- the lines of these answers, each with the number of its line
abbrev pub lines_of_answers : List (List ℕ) → DomId → List (ℕ × Answer) → List ℕ
lines_of_answers types dom [] = []
lines_of_answers types dom (l ∷ ls) = answer_line types l.0 dom l.1 ++ lines_of_answers types dom ls

-- the answer of a line without the bytes that were read
abbrev pub unread_line : ℕ × Answer → ℕ × (Answer ⊎ List ℕ)
unread_line l = (l.0, unread l.1)

-- the answers are the same; if their domain is high, except for the bytes that were read
abbrev pub SameAnswers : Bool → List (ℕ × Answer) → List (ℕ × Answer) → Type 0
SameAnswers true ls ks = map unread_line ls ≡ map unread_line ks
SameAnswers false ls ks = ls ≡ ks

-- both are lines of answers of the domain: the same if it is low, and otherwise the same except for bytes that were
-- read
abbrev pub SameAnswerLines : Bool → List (List ℕ) → DomId → List ℕ → List ℕ → Type 0
SameAnswerLines high types dom one other =
    (ls : List (ℕ × Answer)) × (ks : List (ℕ × Answer))
    × (one ≡ lines_of_answers types dom ls) × (other ≡ lines_of_answers types dom ks) × SameAnswers high ls ks

-- both texts have a part of each of the domains, in their order, which are the same so
abbrev pub SameForLow : Setting → (TypeId → Bool) → List (List ℕ) → List DomainConfig → List ℕ → List ℕ → Type 0
SameForLow s high types [] one other = (one ≡ []) × (other ≡ [])
SameForLow s high types (d ∷ ds) one other =
    (part : List ℕ) × (rest : List ℕ) × (piece : List ℕ) × (more : List ℕ)
    × (one ≡ part ++ rest) × (other ≡ piece ++ more)
    × SameAnswerLines (is_high s high d.id) types d.id part piece × SameForLow s high types ds rest more

-- Noninterference of scripts. By the policy of the script no access brings bytes from high types to others. Then for
-- each text that the script may give, a script that is the same except for the bytes that high domains store and poke
-- may give a text in which each line of a low domain is the same, and each line of a high domain is the same except
-- for bytes that it read.
abbrev pub TextsHaveOthers : Type 0
TextsHaveOthers =
    (high : TypeId → Bool) (one other : RunContents) (text : List ℕ)
    → IsClosed (setting_of_script one.head).may high → SameButHigh high one other → MayGive one text
    → (new : List ℕ) × MayGive other new
    × SameForLow (setting_of_script one.head) high (type_names one.head) one.head.domains text new

-- both scripts differ from each other so. By the law above each of them then has the low lines of the other: what low
-- domains may be answered is the same
abbrev pub OthersAreAlike : Type 0
OthersAreAlike =
    (high : TypeId → Bool) (one other : RunContents) → SameButHigh high one other → SameButHigh high other one

-- The same of what `run` prints, at a gate that may refuse these flags: for each text of a run of the one script
-- without a line of N26 and of a gate, a run of the other may print one that is the same for low domains.
abbrev pub PrintedTextsHaveOthers : Type 0
PrintedTextsHaveOthers =
    (refuses : ℕ → Bool) (high : TypeId → Bool) (one other : RunContents) (text : List ℕ)
    → IsClosed (setting_of_script one.head).may high → SameButHigh high one other
    → MayPrint refuses one text → IsUndisturbed refuses (type_names one.head) text
    → (new : List ℕ) × MayPrint refuses other new
    × SameForLow (setting_of_script one.head) high (type_names one.head) one.head.domains text new

-- the text is that of a domain's list after its answers: nothing, or the line of a gate that stopped the list
abbrev pub IsListEnd : DomId → List ℕ → Type 0
IsListEnd dom text = (text ≡ []) ⊎ ((line : ℕ) × (text ≡ gate_line line dom))

-- both are lines of answers of the domain, which are the same so, and then the same end
abbrev pub SamePrintedLines : Bool → List (List ℕ) → DomId → List ℕ → List ℕ → Type 0
SamePrintedLines high types dom one other =
    (ls : List (ℕ × Answer)) × (ks : List (ℕ × Answer)) × (end : List ℕ)
    × (one ≡ lines_of_answers types dom ls ++ end) × (other ≡ lines_of_answers types dom ks ++ end)
    × IsListEnd dom end × SameAnswers high ls ks

-- both texts have a part of each of the domains, in their order, which are the same so
abbrev pub SamePrintedForLow : Setting → (TypeId → Bool) → List (List ℕ) → List DomainConfig → List ℕ → List ℕ → Type 0
SamePrintedForLow s high types [] one other = (one ≡ []) × (other ≡ [])
SamePrintedForLow s high types (d ∷ ds) one other =
    (part : List ℕ) × (rest : List ℕ) × (piece : List ℕ) × (more : List ℕ)
    × (one ≡ part ++ rest) × (other ≡ piece ++ more)
    × SamePrintedLines (is_high s high d.id) types d.id part piece × SamePrintedForLow s high types ds rest more

-- Noninterference of what `run` prints, with lines of N26 and of gates. For each text that a run of the one script may
-- print, a run of the other may print one in which each line of a low domain is the same, and each line of a high
-- domain is the same except for bytes that it read: N26 and the lines of gates are where they were.
abbrev pub RunTextsHaveOthers : Type 0
RunTextsHaveOthers =
    (refuses : ℕ → Bool) (high : TypeId → Bool) (one other : RunContents) (text : List ℕ)
    → IsClosed (setting_of_script one.head).may high → SameButHigh high one other → HaveOwnIds one.head.domains
    → MayPrint refuses one text
    → (new : List ℕ) × MayPrint refuses other new
    × SamePrintedForLow (setting_of_script one.head) high (type_names one.head) one.head.domains text new
