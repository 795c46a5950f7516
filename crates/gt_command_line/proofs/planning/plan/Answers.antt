use Rattle.std.proofs.Common.{◌≡◌, ◌∙◌, ap, subst, sym, map, drop, List, [], true}
use Rattle.std.specs.Prelude.{string_bytes}
use Rattle.clap.specs.Kinds.{HasKind}
use Rattle.clap.specs.Faults.{fault_of, is_simple_and_free}
use Rattle.clap.specs.Words.{Text, App, app_of, found_of, is_simple, rows_of, subcommand_of, subcommand_rows_of}
use Rattle.clap.specs.declared.error.Error.{Error}
use Rattle.clap.proofs.FaultLemmas.{failed_up}
use Rattle.gt_command_line.specs.Commands.{request_in_words, asked_by_plan, gthost_app, refusals}
use Rattle.gt_command_line.proofs.Planned.{answers, found_sub, plan_of, refusal}
use Rattle.gt_command_line.proofs.Top.{gthost_is_simple}
use Rattle.gt_command_line.proofs.planning.plan.Goals as goal

pub returns-in_err-matches-clause-answers : goal.returns-in_err-matches-clause-answers
returns-in_err-matches-clause-answers c =
    let words : List Text = map string_bytes c.args.words.now in
    let error : Error = c.in_err-matches.field-0.0 in
    let app : app_of c.in_ok-command.command ≡ gthost_app = c.in_ok-command.ensures in
    let has : HasKind (fault_of gthost_app words) error =
    subst (λ (a : App). HasKind (fault_of a words) error) app (c.in_err-matches.ensures.kinds (ap is_simple_and_free app ∙ gthost_is_simple)) in
    failed_up c.from_residual-in_err-matches.result error (λ p. asked_by_plan p ≡ request_in_words (drop 1 words)) (refusals (request_in_words (drop 1 words))) c.from_residual-in_err-matches.ensures.1
    (refusal words error has)

passes_by : (app : App) (words : List Text) → app ≡ gthost_app → (is_simple_and_free app ≡ true → fault_of app words ≡ []) → fault_of gthost_app words ≡ []
passes_by app words is passes = ap (λ (a : App). fault_of a words) (sym is) ∙ passes (ap is_simple_and_free is ∙ gthost_is_simple)

pub returns-clause-answers : goal.returns-clause-answers
returns-clause-answers c =
    let words : List Text = map string_bytes c.args.words.now in
    let app : app_of c.in_ok-command.command ≡ gthost_app = c.in_ok-command.ensures in
    let rows : subcommand_rows_of c.in_ok-matches.matches ≡ subcommand_of gthost_app words =
    (c.in_ok-matches.ensures.matches (ap is_simple app)).1 ∙ ap (λ (a : App). subcommand_of a words) app in
    answers words c.in-Some.name.now (rows_of (found_of c.in-Some.matches.now)) c.planned.result (passes_by _ _ app c.in_ok-matches.ensures.kinds)
    (found_sub c.in_ok-matches.matches words _ _ rows c.in-Some.ensures.name c.in-Some.ensures.rows) c.planned.ensures

pub returns-clause-matches : goal.returns-clause-matches
returns-clause-matches c =
    let words : List Text = map string_bytes c.args.words.now in
    let app : app_of c.in_ok-command.command ≡ gthost_app = c.in_ok-command.ensures in
    let rows : subcommand_rows_of c.in_ok-matches.matches ≡ subcommand_of gthost_app words =
    (c.in_ok-matches.ensures.matches (ap is_simple app)).1 ∙ ap (λ (a : App). subcommand_of a words) app in
    plan_of words c.in-Some.name.now (rows_of (found_of c.in-Some.matches.now)) c.planned.result
    (found_sub c.in_ok-matches.matches words _ _ rows c.in-Some.ensures.name c.in-Some.ensures.rows) c.planned.ensures
