-- What is printed of several claims.
use Rattle.std.specs.Prelude.{◌++◌, ℕ, List, [], length, Option, Some, None, codes, decimal}
use Rattle.gt_json.specs.Strings.{quoted}
use Rattle.gt_explore_answers.specs.Outputs.{Found, heading}
use Rattle.gt_explore_answers.specs.declared.asking.ExploreFormat.{ExploreFormat}
use Rattle.gt_explore_answers.specs.declared.asking.ExploreFormat.TheVariants as explore_formats
use Rattle.gt_explore_verdict.specs.declared.judging.Verdict.{Verdict}
use Rattle.gt_explore_verdict.specs.declared.judging.Verdict.TheVariants.{Holds, Fails, Undecided}
use Rattle.gt_explore_claims.specs.Stating.{Stated, claim_name}
use Rattle.gt_explore_claims.specs.declared.answers.ClaimAnswer.{ClaimAnswer}

-- a verdict in words
abbrev pub verdict_text : Verdict → List ℕ
verdict_text Holds = codes "holds: "
verdict_text Fails = codes "does not hold: "
verdict_text Undecided = codes "not decided: "

-- a verdict as JSON has it
abbrev pub verdict_word : Verdict → List ℕ
verdict_word Holds = codes "holds"
verdict_word Fails = codes "fails"
verdict_word Undecided = codes "undecided"

-- the number of the text that shows a verdict
abbrev pub place_shown : Found → Option ℕ → List ℕ
place_shown f None = []
place_shown f (Some number) = codes " (" ++ heading f.whole (length f.texts) number ++ codes ")"

-- the line of a claim
unfoldable pub claim_line : Found → Stated → ClaimAnswer → List ℕ
claim_line f s answer =
    verdict_text answer.verdict ++ claim_name s.claim ++ codes " " ++ s.expression ++ place_shown f answer.number
    ++ codes "\n"

abbrev pub place_member : Option ℕ → List ℕ
place_member None = []
place_member (Some number) = codes ",\"text\":" ++ decimal number

-- the object of a claim: its members, and those of the answer
unfoldable pub claim_members : Stated → List ℕ
claim_members s =
    codes "{\"claim\":\"" ++ claim_name s.claim ++ codes "\",\"expression\":" ++ quoted s.expression

unfoldable pub verdict_member : Verdict → List ℕ
verdict_member verdict = codes ",\"verdict\":\"" ++ verdict_word verdict ++ codes "\"}\n"

abbrev pub answer_members : ClaimAnswer → List ℕ
answer_members answer = place_member answer.number ++ verdict_member answer.verdict

abbrev pub claim_object : Stated → ClaimAnswer → List ℕ
claim_object s answer = claim_members s ++ answer_members answer

-- what is printed of a claim in a format
abbrev pub answer_shown : ExploreFormat → Found → Stated → ClaimAnswer → List ℕ
answer_shown explore_formats.Text f s answer = claim_line f s answer
answer_shown explore_formats.Json f s answer = claim_object s answer
