-- The answers that each call of a script can have.
use Rattle.std.specs.Prelude.{ℕ, Bool, List, [], ◌∷◌, ◌++◌, map, codes, find, unwrap_or}
use Rattle.std.specs.List.{list_any}
use Rattle.gt_types.specs.declared.denial.Rule.{Rule}
use Rattle.gt_types.specs.declared.denial.Rule.TheVariants.{N1, N2, N3, N4, N5, N6, N7, N8, N9, N10, N11, N12, N13, N14}
use Rattle.gt_types.specs.declared.denial.Rule.TheVariants.{N15, N16, N17, N18, N19, N20, N21, N22, N23, N24, N25}
use Rattle.gt_explore_verdict.specs.Forms.{begins_form}
use Rattle.gt_explore_verdict.specs.declared.calls.CallName.{CallName}
use Rattle.gt_explore_verdict.specs.declared.calls.CallName.TheVariants as call_names
use Rattle.gt_explore_verdict.specs.declared.forms.AnswerForm.{AnswerForm}
use Rattle.gt_explore_verdict.specs.declared.forms.AnswerForm.TheVariants as answer_forms
use Rattle.gt_explore_verdict.specs.declared.forms.TheConstants.{EVERY_FORM}

-- the rules that can refuse a call
abbrev pub rules_of_call : CallName → List Rule
rules_of_call call_names.Grant = N9 ∷ N19 ∷ N20 ∷ N21 ∷ N22 ∷ []
rules_of_call call_names.GrantBytes = N9 ∷ N19 ∷ N20 ∷ N22 ∷ N25 ∷ []
rules_of_call call_names.Revoke = N9 ∷ N10 ∷ N19 ∷ []
rules_of_call call_names.Withdraw = N9 ∷ N10 ∷ N18 ∷ []
rules_of_call call_names.Demote = N9 ∷ N10 ∷ N18 ∷ N19 ∷ N22 ∷ []
rules_of_call call_names.Promote = N9 ∷ N10 ∷ N18 ∷ N22 ∷ []
rules_of_call call_names.Map = N1 ∷ N2 ∷ N5 ∷ N8 ∷ N9 ∷ N10 ∷ N11 ∷ N12 ∷ N13 ∷ N16 ∷ N17 ∷ N18 ∷ []
rules_of_call call_names.Unmap = N5 ∷ N6 ∷ []
rules_of_call call_names.Load = N3 ∷ N6 ∷ []
rules_of_call call_names.Store = N3 ∷ N6 ∷ N7 ∷ []
rules_of_call call_names.Peek = N3 ∷ N16 ∷ []
rules_of_call call_names.Poke = N3 ∷ N16 ∷ []
rules_of_call call_names.Copy =
    N1 ∷ N2 ∷ N3 ∷ N4 ∷ N5 ∷ N9 ∷ N10 ∷ N11 ∷ N13 ∷ N14 ∷ N15 ∷ N16 ∷ N17 ∷ N18 ∷ []
rules_of_call call_names.SetVersion = N2 ∷ N24 ∷ []
rules_of_call call_names.SetupTable = N5 ∷ N23 ∷ []
rules_of_call call_names.QuerySize = N1 ∷ N5 ∷ []
rules_of_call call_names.GetVersion = N1 ∷ N5 ∷ []

-- the forms of its answers that are ok: a load and a peek of no bytes give none
abbrev pub values_of_call : CallName → List AnswerForm
values_of_call call_names.Load = answer_forms.Done ∷ answer_forms.Bytes ∷ []
values_of_call call_names.Peek = answer_forms.Done ∷ answer_forms.Bytes ∷ []
values_of_call call_names.SetupTable = answer_forms.Frames ∷ []
values_of_call call_names.QuerySize = answer_forms.Size ∷ []
values_of_call call_names.GetVersion = answer_forms.Version ∷ []
values_of_call _ = answer_forms.Done ∷ []

-- the forms of all its answers
abbrev pub forms_of : CallName → List AnswerForm
forms_of call = values_of_call call ++ map answer_forms.Refused (rules_of_call call)

-- some answer to such a call can begin with these words
unfoldable pub may_answer : CallName → List (List ℕ) → Bool
may_answer call words = list_any (λ form. begins_form form words) (forms_of call)

-- the first form of an answer that can begin with these words, `Done` if none can
abbrev pub form_begun_in : List AnswerForm → List (List ℕ) → AnswerForm
form_begun_in forms words = unwrap_or (find (λ form. begins_form form words) forms) answer_forms.Done

abbrev pub form_begun : List (List ℕ) → AnswerForm
form_begun words = form_begun_in EVERY_FORM words

-- the name of such a call in a script, with its article
abbrev pub call_words : CallName → List ℕ
call_words call_names.Grant = codes "a grant"
call_words call_names.GrantBytes = codes "a bytes"
call_words call_names.Revoke = codes "a revoke"
call_words call_names.Withdraw = codes "a withdraw"
call_words call_names.Demote = codes "a demote"
call_words call_names.Promote = codes "a promote"
call_words call_names.Map = codes "a map"
call_words call_names.Unmap = codes "an unmap"
call_words call_names.Load = codes "a load"
call_words call_names.Store = codes "a store"
call_words call_names.Peek = codes "a peek"
call_words call_names.Poke = codes "a poke"
call_words call_names.Copy = codes "a copy"
call_words call_names.SetVersion = codes "a version"
call_words call_names.SetupTable = codes "a setup"
call_words call_names.QuerySize = codes "a size"
call_words call_names.GetVersion = codes "a getversion"
