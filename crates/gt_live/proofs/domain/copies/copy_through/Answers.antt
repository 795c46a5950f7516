use Rattle.std.proofs.Common.{◌≡◌, ◌∙◌, ap, sym}
use Rattle.gt_types.specs.declared.denial.Denial.{Denial}
use Rattle.gt_types.specs.declared.places.FrameName.{FrameName}
use Rattle.gt_words.specs.Conditions.{Board}
use Rattle.gt_words.specs.Frames.{IsCopyFault}
use Rattle.gt_words.specs.declared.frames.AccessFault.{AccessFault}
use Rattle.gt_words.specs.declared.frames.AccessFault.TheVariants.{Gone, Memory}
use Rattle.gt_live.specs.Accesses.{IsIfOneMissing}
use Rattle.gt_live.specs.Domains.{not_made}
use Rattle.gt_live.specs.Prelude.{N16, N26}
use Rattle.gt_live.proofs.domain.copies.copy_through.Goals as goal

-- the refusal of a copy that was not made has its cause
caused : (b : Board) (from to : FrameName) (fault : AccessFault) (denial : Denial) → denial ≡ not_made fault → IsCopyFault b from to fault → IsIfOneMissing b from to denial
caused b from to Gone denial is missing = λ same. missing
caused b from to Memory denial is missing = λ same. absurd (let e : N26 ≡ N16 = ap (λ (d : Denial). d.rule) (sym is ∙ same) in cc)

pub returns-in-Err-clause-cause : goal.returns-in-Err-clause-cause
returns-in-Err-clause-cause g c = let a = c.args.access.now in
    caused c.args.monitor.now.words a.from.frame a.to.frame c.in-Err.refused c.not_made.result c.not_made.ensures c.in-Err.ensures.fault
