-- The moves that lead to a text and the verdict, for the texts that were found.
use Rattle.std.specs.Prelude.{◌≡◌, ◌&&◌, ℕ, Bool, List, nat_le, nat_lt}
use Rattle.gt_script.specs.RunContents.{RunContents}
use Rattle.gt_explore_verdict.specs.declared.judging.Verdict.{Verdict}
use Rattle.gt_explore_answers.specs.AsObjects.{Showing, ShowsObjects}
use Rattle.gt_explore_answers.specs.Exploring.{verdict_of_all}
use Rattle.gt_explore_answers.specs.Outputs.{Found}
use Rattle.gt_explore_answers.specs.declared.asking.ExploreFormat.{ExploreFormat}
use Rattle.gt_explore_answers.specs.declared.asking.ExploreFormat.TheVariants as explore_formats
use Rattle.gt_explore_trace.specs.declared.facts.TraceForm.{TraceForm}
use Rattle.gt_explore_tracing.specs.Tracing.{IsDiagram, IsTrace, ShowsMoves, TracesText}
use Rattle.gt_explore_tracing.specs.declared.asking.TraceRequest.{TraceRequest}
use Rattle.gt_explore_tracing.specs.declared.asking.TraceRequest.TheVariants.{Trace, Diagram}

-- if there are `count` texts, one has the number that a request names
abbrev pub has_its_moves : TraceRequest → ℕ → Bool
has_its_moves (Trace number) count = nat_lt 0 number && nat_le number count
has_its_moves (Diagram number) count = nat_lt 0 number && nat_le number count

-- the moves of an order that gives the text of a number, by the form
abbrev pub GivesMoves : RunContents → TraceForm → ℕ → Found → List ℕ → Verdict → Type 0
GivesMoves c form number f text verdict = ShowsMoves c f number form text × (verdict ≡ verdict_of_all f.whole)

-- a line for each of these moves
abbrev pub GivesTrace : RunContents → ℕ → Found → List ℕ → Verdict → Type 0
GivesTrace c number f text verdict = IsTrace c f number text × (verdict ≡ verdict_of_all f.whole)

-- the moves as a sequence diagram
abbrev pub GivesDiagram : RunContents → ℕ → Found → List ℕ → Verdict → Type 0
GivesDiagram c number f text verdict = IsDiagram c f number text × (verdict ≡ verdict_of_all f.whole)

-- the object of the text, and one for each move
abbrev pub ShowsTrace : RunContents → ℕ → Showing
ShowsTrace c number f verdict objects = TracesText c f number objects × (verdict ≡ verdict_of_all f.whole)

-- the moves by the format: a line for each, or an object
abbrev pub IsTraceBy : RunContents → ℕ → ℕ → ExploreFormat → Found → List ℕ → Verdict → Type 0
IsTraceBy c limit number explore_formats.Text = GivesTrace c number
IsTraceBy c limit number explore_formats.Json = ShowsObjects limit (ShowsTrace c number)

-- the output and the verdict, by the format and the request
abbrev pub TracedAs : RunContents → ExploreFormat → ℕ → TraceRequest → Found → List ℕ → Verdict → Type 0
TracedAs c format limit (Trace number) = IsTraceBy c limit number format
TracedAs c format limit (Diagram number) = GivesDiagram c number
