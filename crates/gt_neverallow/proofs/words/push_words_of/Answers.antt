use Rattle.gt_neverallow.proofs.words.push_words_of.Goals as goal

pub returns-in-Flow-clause-columns : goal.returns-in-Flow-clause-columns
returns-in-Flow-clause-columns c = record { kept = λ h. h }
