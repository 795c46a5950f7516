use Rattle.std.proofs.Common.{subst}
use Rattle.std.specs.Option.{option_map}
use Rattle.gt_policy_questions.specs.declared.flows.format.FlowFormat.{FlowFormat}
use Rattle.gt_file_commands.specs.Working.{AnswersFlow, Works, known_text}
use Rattle.gt_file_commands.specs.declared.outcome.Outcome.TheVariants.{Unknown}
use Rattle.gt_program.proofs.Obeyed.{as_planned}
use Rattle.gt_program.proofs.following.follow.Goals as goal

pub returns-in-Play : goal.returns-in-Play
returns-in-Play g c = λ failed. as_planned _ _ failed _ _ _ _ _ _ c.in-Play.is c.play.ensures

pub returns-in-Run : goal.returns-in-Run
returns-in-Run g c = λ failed. as_planned _ _ failed _ _ _ _ _ _ c.in-Run.is c.run_asked.ensures

pub returns-in-Explore : goal.returns-in-Explore
returns-in-Explore g c = λ failed. as_planned _ _ failed _ _ _ _ _ _ c.in-Explore.is c.explore.ensures

pub returns-in-ExploreHas : goal.returns-in-ExploreHas
returns-in-ExploreHas g c = λ failed. as_planned _ _ failed _ _ _ _ _ _ c.in-ExploreHas.is c.find_text.ensures

pub returns-in-Policy : goal.returns-in-Policy
returns-in-Policy g c = λ failed. as_planned _ _ failed _ _ _ _ _ _ c.in-Policy.is c.list.ensures

pub returns-in-Rules : goal.returns-in-Rules
returns-in-Rules g c = λ failed. as_planned _ _ failed _ _ _ _ _ _ c.in-Rules.is c.print_rules.ensures

pub returns-in-Check : goal.returns-in-Check
returns-in-Check g c = λ failed. as_planned _ _ failed _ _ _ _ _ _ c.in-Check.is c.check_files.ensures

pub returns-in-CheckNever : goal.returns-in-CheckNever
returns-in-CheckNever g c = λ failed. as_planned _ _ failed _ _ _ _ _ _ c.in-CheckNever.is c.check_never_files.ensures

pub returns-in-Why : goal.returns-in-Why
returns-in-Why g c = λ failed. as_planned _ _ failed _ _ _ _ _ _ c.in-Why.is c.answer.ensures

pub returns-in-WhyLines : goal.returns-in-WhyLines
returns-in-WhyLines g c = λ failed. as_planned _ _ failed _ _ _ _ _ _ c.in-WhyLines.is c.answer_lines.ensures

pub returns-in-Flow : goal.returns-in-Flow
returns-in-Flow g c = λ failed. as_planned _ _ failed _ _ _ _ _ _ c.in-Flow.is
    (subst (λ (f : FlowFormat). Works (AnswersFlow c.in-Flow.options.script f (option_map (λ a. a.now) c.in-Flow.source) (option_map (λ a. a.now) c.in-Flow.target)
    (option_map (λ a. a.now) c.in-Flow.options.trusted)) Unknown (option_map (λ a. a.now) c.in-Flow.file)
    (known_text (g.T.TextSource.file c.args.context.now.texts.now) (g.T.TextSource.input c.args.context.now.texts.now) (option_map (λ a. a.now) c.in-Flow.file))
    (g.W.Write.contents c.args.out.now) (g.W.Write.contents c.show_flow.new.out) c.show_flow.result) c.flow_format.ensures c.show_flow.ensures)

pub returns-in-Entries : goal.returns-in-Entries
returns-in-Entries g c = λ failed. as_planned _ _ failed _ _ _ _ _ _ c.in-Entries.is c.show_entries.ensures
