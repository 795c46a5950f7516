-- One move more.
use Rattle.std.proofs.Common.{◌≡◌, ◌∙◌, ◌++◌, ◌<◌, ◌≤◌, ◌+◌, ℕ, zero, suc, List, [], ◌∷◌, length, get_or, take, drop, ap}
use Rattle.std.proofs.Common.{sym, Some, option_map, append_assoc, arith, OnOk, Result, Ok, Err}
use Rattle.std.specs.Prelude.{slice_get}
use Rattle.std.proofs.lemmas.List.{append-nil, drop_all, drop_more, length-take-le, take_more}
use Rattle.std.proofs.lemmas.Option.{none-some, same_Some}
use Rattle.gt_types.specs.declared.DomId.{DomId}
use Rattle.gt_types.specs.declared.config.DomainConfig.{DomainConfig}
use Rattle.gt_script.specs.Contents.{type_names}
use Rattle.gt_script.specs.RunContents.{RunContents}
use Rattle.gt_explore_replay.specs.Orders.{Happening}
use Rattle.gt_explore_trace.specs.Lines.{move_line, trace_lines}
use Rattle.gt_explore_search.specs.declared.spaces.Turn.{Turn}
use Rattle.gt_explore_trace.specs.Moves.{AreByTurns, AreMovesOf, IsMoveOf}
use Rattle.gt_explore_trace.specs.Places.{task_of_move}
use Rattle.gt_explore_trace.specs.declared.facts.TraceForm.{TraceForm}
use Rattle.gt_explore_trace.specs.declared.moves.TracedMove.{TracedMove}

pub moves_more : (ms : List TracedMove) (hs : List Happening) (m : TracedMove) (x : Happening) → AreMovesOf ms hs → IsMoveOf m x → AreMovesOf (ms ++ m ∷ []) (hs ++ x ∷ [])
moves_more [] [] m x are is = (is, tt)
moves_more [] (y ∷ hs) m x are is = absurd are
moves_more (n ∷ ms) [] m x are is = absurd are
moves_more (n ∷ ms) (y ∷ hs) m x (first, rest) is = (first, moves_more ms hs m x rest is)

pub turns_more : (ds : List DomainConfig) (ts : List Turn) (ms : List TracedMove) (t : Turn) (m : TracedMove) → AreByTurns ds ts ms → option_map (λ (d : DomainConfig). d.id) (slice_get ds t.place) ≡ Some m.dom → AreByTurns ds (ts ++ t ∷ []) (ms ++ m ∷ [])
turns_more ds [] [] t m are own = (own, tt)
turns_more ds [] (n ∷ ms) t m are own = absurd are
turns_more ds (u ∷ ts) [] t m are own = absurd are
turns_more ds (u ∷ ts) (n ∷ ms) t m (first, rest) own = (first, turns_more ds ts ms t m rest own)

-- the domain at a position has the number of the one that moved
pub mover : (ds : List DomainConfig) (k : ℕ) (d : DomainConfig) (x : DomId) → d ≡ get_or ds k d → option_map (λ (e : DomainConfig). e.id) (slice_get ds k) ≡ Some x → d.id ≡ x
mover [] k d x is own = absurd (none-some x own)
mover (e ∷ ds) zero d x is own = ap (λ (q : DomainConfig). q.id) is ∙ same_Some e.id x own
mover (e ∷ ds) (suc k) d x is own = mover ds k d x is own

-- the lines that are left begin with that of the next move
pub line_more : (c : RunContents) (form : TraceForm) (ms : List TracedMove) (i : ℕ) (m : TracedMove) → i < length ms → m ≡ get_or ms i m
    → trace_lines c form (take i ms) (drop i ms) ≡ move_line form (type_names c.head) (i + 1) (task_of_move c (take i ms) m) m ++ trace_lines c form (take (i + 1) ms) (drop (i + 1) ms)
line_more c form ms i m lt is =
    let left : drop i ms ≡ m ∷ drop (i + 1) ms = drop_more ms i m lt ∙ ap (λ (q : TracedMove). q ∷ drop (i + 1) ms) (sym is) in
    let come : take i ms ++ m ∷ [] ≡ take (i + 1) ms = ap (λ (q : TracedMove). take i ms ++ q ∷ []) is ∙ sym (take_more ms i m lt) in
    let many : length (take i ms) ≡ i = length-take-le i ms (omega arith) in
    ap (trace_lines c form (take i ms)) left
    ∙ ap (λ (n : ℕ). move_line form (type_names c.head) (n + 1) (task_of_move c (take i ms) m) m ++ trace_lines c form (take i ms ++ m ∷ []) (drop (i + 1) ms)) many
    ∙ ap (λ (before : List TracedMove). move_line form (type_names c.head) (i + 1) (task_of_move c (take i ms) m) m ++ trace_lines c form before (drop (i + 1) ms)) come

-- one line more is written
pub told_more : (c : RunContents) (form : TraceForm) (ms : List TracedMove) (i : ℕ) (m : TracedMove) (out pushed all : List ℕ) → i < length ms → m ≡ get_or ms i m
    → pushed ≡ out ++ move_line form (type_names c.head) (i + 1) (task_of_move c (take i ms) m) m
    → out ++ trace_lines c form (take i ms) (drop i ms) ≡ all → pushed ++ trace_lines c form (take (i + 1) ms) (drop (i + 1) ms) ≡ all
told_more c form ms i m out pushed all lt is so was =
    let line = move_line form (type_names c.head) (i + 1) (task_of_move c (take i ms) m) m in
    let rest = trace_lines c form (take (i + 1) ms) (drop (i + 1) ms) in
    ap (λ (l : List ℕ). l ++ rest) so ∙ append_assoc out line rest ∙ ap (λ (l : List ℕ). out ++ l) (sym (line_more c form ms i m lt is)) ∙ was

-- no line is left
pub told_over : (c : RunContents) (form : TraceForm) (ms : List TracedMove) (i : ℕ) (out all : List ℕ) → length ms ≤ i → out ++ trace_lines c form (take i ms) (drop i ms) ≡ all → out ≡ all
told_over c form ms i out all end was = sym (append-nil out) ∙ ap (λ (l : List TracedMove). out ++ trace_lines c form (take i ms) l) (sym (drop_all i ms end)) ∙ was

-- three texts one after the other
pub three_joined : {E : Type 0} (r : Result (Unit {0}) E) (out a b c first second third : List ℕ) → first ≡ out ++ a → second ≡ first ++ b → OnOk r (third ≡ second ++ c)
    → OnOk r (third ≡ out ++ (a ++ (b ++ c)))
three_joined (Err fault) out a b c first second third f s t = tt
three_joined (Ok done) out a b c first second third f s t =
    t ∙ ap (λ (l : List ℕ). l ++ c) (s ∙ ap (λ (l : List ℕ). l ++ b) f) ∙ append_assoc (out ++ a) b c ∙ append_assoc out a (b ++ c)
