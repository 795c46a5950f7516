use Rattle.std.proofs.Common.{take}
use Rattle.std.specs.HashMap.{get_by}
use Rattle.std.specs.Str.{bytes_eq}
use Rattle.gt_findings.proofs.LineLemmas.{AreFound}
use Rattle.gt_findings.proofs.words.places_of.Given as goal

abbrev pub invariant-tokens : goal.invariant-tokens
invariant-tokens l = AreFound l.row (take l.token-index l.tokens) (λ word. get_by (λ k. bytes_eq word k.now) l.places)
