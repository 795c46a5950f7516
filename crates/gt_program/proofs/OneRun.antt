-- The script of a run is the one that is explored, so the run's text is one of those found.
use Rattle.std.proofs.Common.{◌≡◌, ℕ, List, Result, Ok, Err, ap, subst, sym}
use Rattle.gt_script.specs.RunContents.{RunContents}
use Rattle.gt_script.specs.RunScripts.{ReadsAsRun}
use Rattle.gt_script.specs.Script.{Wrong}
use Rattle.gt_explore_answers.specs.Exploring.{AreTextsOf}
use Rattle.gt_program.specs.Laws.{RunsAreAmongTheExplored, RunsAreAmongTheTraced, texts_explored, texts_traced}

-- bytes have one meaning as a script for `run`
abbrev OneRun : Type 0
OneRun = (bytes : List ℕ) (one other : Result RunContents Wrong) → ReadsAsRun bytes one → ReadsAsRun bytes other → one ≡ other

-- the script, or another one where there is a fault
abbrev script_or : RunContents → Result RunContents Wrong → RunContents
script_or other (Ok c) = c
script_or other (Err wrong) = other

pub among-explored : OneRun → RunsAreAmongTheExplored
among-explored one input refuses logged old new asked before after verdict ran explored calm whole =
    let wrote = ran.1.2 in let found = texts_explored asked input before after verdict explored in
    let same : ran.1.0 ≡ explored.0 = ap (script_or ran.1.0) (one input (Ok ran.1.0) (Ok explored.0) ran.1.1 explored.1) in
    let texts : AreTextsOf ran.1.0 found =
    subst (λ (c : RunContents). AreTextsOf c found) (sym same) explored.2.1.texts in
    texts.whole whole wrote.text (wrote.given calm)

pub among-traced : OneRun → RunsAreAmongTheTraced
among-traced one input refuses logged old new asked before after verdict ran traced calm whole =
    let wrote = ran.1.2 in let found = texts_traced asked input before after verdict traced in
    let same : ran.1.0 ≡ traced.0 = ap (script_or ran.1.0) (one input (Ok ran.1.0) (Ok traced.0) ran.1.1 traced.1) in
    let texts : AreTextsOf ran.1.0 found =
    subst (λ (c : RunContents). AreTextsOf c found) (sym same) traced.2.1.texts in
    texts.whole whole wrote.text (wrote.given calm)
