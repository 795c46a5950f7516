use Rattle.std.proofs.Common.{subst, sym}
use Rattle.std.specs.Prelude.{slice_index_or}
use Rattle.std.specs.Str.{IsUtf8}
use Rattle.std.proofs.lemmas.Bool.{false≢true}
use Rattle.std.proofs.lemmas.Str.{IsUtf8-nil, IsUtf8-string_bytes}
use Rattle.gt_audit.proofs.lines.line.Goals as goal

pub unreachable-requires : goal.unreachable-requires
unreachable-requires c =
    let names = c.args.names.now in
    let whole = c.in_ok-push_line.ensures.stays (λ k name inside. IsUtf8-string_bytes (slice_index_or names k name)) in
    false≢true (c.in-Err.ensures.succeeds (whole (subst IsUtf8 (sym c.new-out.ensures.items) IsUtf8-nil)))
