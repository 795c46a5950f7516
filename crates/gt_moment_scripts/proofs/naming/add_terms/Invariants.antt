use Rattle.std.proofs.Common.{◌≡◌, drop}
use Rattle.gt_moment_scripts.specs.Naming.{terms_added}
use Rattle.gt_moment_scripts.proofs.naming.add_terms.Given as goal

abbrev pub invariant-terms : goal.invariant-terms
invariant-terms l =
    terms_added l.initial.entries.items l.terms ≡ terms_added l.entries.items (drop l.term-index l.terms)
