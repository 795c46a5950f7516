-- The answers for pairs of types.
use Rattle.std.specs.Prelude.{◌≡◌, ℕ, ◌==◌, ◌||◌, Bool, true, false, List, [], ◌∷◌, ◌++◌, length}
use Rattle.std.specs.Prelude.{Option, Some, None, is_some}
use Rattle.gt_types.specs.declared.TypeId.{TypeId}
use Rattle.gt_flow.specs.Flow.{FlowPolicy}
use Rattle.gt_flow.specs.Paths.{HasPath}
use Rattle.gt_policy.specs.declared.lined.LinedStatement.{LinedStatement}
use Rattle.gt_policy_statements.specs.declared.members.Member.{Member}
use Rattle.gt_policy_questions.specs.Steps.{accesses_text, no_path_text, path_text, type_pair_text}
use Rattle.gt_policy_questions.specs.declared.flows.format.FlowFormat.{FlowFormat}
use Rattle.gt_policy_questions.specs.declared.flows.pairs.PairForm.{PairForm}
use Rattle.gt_policy_questions.specs.declared.flows.pairs.PairForm.TheVariants.{Steps, Pairs, Reached}

-- a pair is left out: a type and itself, unless it is the only pair
abbrev pub leaves_out : PairForm → TypeId → TypeId → Bool
leaves_out Steps source target = false
leaves_out Pairs source target = source.0 == target.0
leaves_out Reached source target = source.0 == target.0

module _ (format : FlowFormat) (may : FlowPolicy) (trusted : TypeId → Bool) (xs : List LinedStatement)
    (members : List Member) where
  -- the steps of a path, in the form that has them
  abbrev pub steps_text : PairForm → TypeId → List TypeId → List ℕ
  steps_text Steps source path = path_text format may trusted xs members source path
  steps_text Pairs source path = []
  steps_text Reached source path = []

  -- the answer for a pair with no path
  abbrev pub none_text : PairForm → TypeId → TypeId → List ℕ
  none_text Steps source target = type_pair_text format members source target ++ no_path_text format
  none_text Pairs source target = type_pair_text format members source target ++ no_path_text format
  none_text Reached source target = []

  -- the answer for a pair, by its path
  abbrev pub pair_answer_text : PairForm → TypeId → TypeId → Option (List TypeId) → List ℕ
  pair_answer_text form source target None = none_text form source target
  pair_answer_text form source target (Some path) =
      type_pair_text format members source target ++ accesses_text format (length path) ++ steps_text form source path

  -- a pair was answered: by a shortest path, or since there is none; or it is left out
  pub data AnswersPair (form : PairForm) (source target : TypeId) : List ℕ → Bool → Type 0 where
    left_out : leaves_out form source target ≡ true → AnswersPair form source target [] false
    answered : leaves_out form source target ≡ false → (path : Option (List TypeId))
        → HasPath may trusted source target path
        → AnswersPair form source target (pair_answer_text form source target path) (is_some path)

  -- the answers for a source and these targets, one after another, and whether there is a path to one of them
  pub data AnswersEach (form : PairForm) (source : TypeId) : List TypeId → List ℕ → Bool → Type 0 where
    no_target : AnswersEach form source [] [] false
    more_targets : (target : TypeId) (targets : List TypeId) (text rest : List ℕ) (first others : Bool)
        → AnswersPair form source target text first → AnswersEach form source targets rest others
        → AnswersEach form source (target ∷ targets) (text ++ rest) (first || others)

  -- the same for these sources
  pub data AnswersAll (form : PairForm) (targets : List TypeId) : List TypeId → List ℕ → Bool → Type 0 where
    no_source : AnswersAll form targets [] [] false
    more_sources : (source : TypeId) (sources : List TypeId) (text rest : List ℕ) (first others : Bool)
        → AnswersEach form source targets text first → AnswersAll form targets sources rest others
        → AnswersAll form targets (source ∷ sources) (text ++ rest) (first || others)
