-- A question of a table on the words.
use Rattle.std.proofs.Common.{◌≡◌, ℕ, refl, None}
use Rattle.gt_types.specs.Names.{resolved}
use Rattle.gt_types.specs.declared.DomId.{DomId}
use Rattle.gt_word_history.specs.Rule.{Layout}
use Rattle.gt_word_history.specs.declared.view.View.{View}
use Rattle.gt_model.specs.Path.{header_value_of}
use Rattle.gt_model.specs.Rules.{CallerKnowledge, query_begun}
use Rattle.gt_model.specs.declared.action.Observation.TheVariants.{Word}
use Rattle.gt_model.specs.declared.action.Step.TheVariants.{LookHeader}
use Rattle.gt_calls.specs.declared.call.Phase.TheVariants.{Asking}
use Rattle.gt_model.specs.declared.action.HeaderQuery.{HeaderQuery}
use Rattle.gt_model.specs.declared.action.HeaderQuery.TheVariants.{Size, Version}
use Rattle.gt_live.specs.declared.driving.Effect.TheVariants.{Nothing}
use Rattle.gt_live.specs.Driving.{Knows}
use Rattle.gt_live.specs.Questions.{asks_question}
use Rattle.gt_live.specs.Walks.{Made}
use Rattle.gt_live.proofs.Advancing.{Ended}
use Rattle.gt_live.proofs.Stepping.{PhaseLaw, only}

-- each question is answered by the word of the header that its look shows
pub asked-so : (c : CallerKnowledge) (law : PhaseLaw c) (k : Layout) (v : View) (caller dom : DomId) (word : ℕ) (w : View)
    → Knows c k caller v → query_begun c caller dom ≡ None → Made k (LookHeader (resolved caller dom)) (Word word) v w
    → (question : HeaderQuery) → Ended c k caller (asks_question dom question) Nothing (header_value_of question word) v w
asked-so c law k v caller dom word w knows none made Size =
    only c law k v caller (asks_question dom Size) (Asking (resolved caller dom) Size) (LookHeader (resolved caller dom))
    (Word word) (header_value_of Size word) w knows tt none refl refl made refl
asked-so c law k v caller dom word w knows none made Version =
    only c law k v caller (asks_question dom Version) (Asking (resolved caller dom) Version)
    (LookHeader (resolved caller dom)) (Word word) (header_value_of Version word) w knows tt none refl refl made refl
