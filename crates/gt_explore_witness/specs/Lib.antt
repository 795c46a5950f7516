pub mod GivingAnswers
