pub mod FlowAnswers
pub mod FormatLemmas
pub mod GivenLemmas
pub mod JsonLemmas
pub mod QuestionLemmas
pub mod RuleLemmas
pub mod WholeTexts
pub mod Worked
