-- The errors among findings.
use Rattle.std.proofs.Common.{◌≡◌, ℕ, Bool, false, List, [], ◌∷◌, ◌++◌, refl, ap, ◌∙◌}
use Rattle.std.specs.Prelude.{if◌then◌else◌}
use Rattle.std.proofs.lemmas.List.{append-nil}
use Rattle.std.proofs.lemmas.List.Concat.{flat_map-append}
use Rattle.gt_findings.specs.Findings.{error_lines, is_error}
use Rattle.gt_findings.specs.declared.findings.Finding.{Finding}

no_line : (b : Bool) (n : ℕ) → b ≡ false → (if b then n ∷ [] else []) ≡ []
no_line b n e = rw e refl

-- one more finding, which is not an error
pub warned : (old new : List Finding) (x : Finding) → is_error x.kind ≡ false → new ≡ old ++ x ∷ [] → error_lines new ≡ error_lines old
warned old new x fine is =
    ap error_lines is ∙ flat_map-append (λ y. if is_error y.kind then y.line ∷ [] else []) old (x ∷ [])
    ∙ ap (λ (l : List ℕ). error_lines old ++ l) (append-nil (if is_error x.kind then x.line ∷ [] else []) ∙ no_line (is_error x.kind) x.line fine) ∙ append-nil (error_lines old)
