-- What a line asks fits its types.
use Rattle.std.proofs.Common.{◌≡◌, ◌<◌, ℕ, List, All, sym, subst, Bor}
use Rattle.std.proofs.lemmas.List.Elements.{All-from_get_or}
use Rattle.hex.specs.Hex.{IsBytes}
use Rattle.gt_types.specs.declared.DomId.{DomId}
use Rattle.gt_model.specs.declared.request.Request.{Request}
use Rattle.gt_script_runs.specs.Runs.{Named, MakesRequest, call_bytes, request_of}
use Rattle.gt_script_lines.specs.declared.calls.ScriptCall.{ScriptCall}
use Rattle.gt_script_lines.specs.declared.calls.ScriptCall.TheVariants as script_calls
use Rattle.gt_run.specs.Serving.{FitsEntry}
use Rattle.gt_explore_replay.proofs.EntryFits.{entry-fits, hex-bytes}
use Rattle.gt_linearization.specs.Runs.{FitsTypes}

all-bytes : (bytes : List ℕ) → IsBytes bytes → All (λ (b : ℕ). b < 256) bytes
all-bytes bytes is = All-from_get_or (λ (b : ℕ). b < 256) bytes 0 (λ i l. is i)

said-so : (named : List Named) (dom : DomId) (bytes : Bor (List ℕ)) (call : ScriptCall) → FitsEntry call → bytes.now ≡ call_bytes call → FitsTypes (request_of named dom bytes call)
unfolding request_of
said-so named dom bytes (script_calls.Grant gref entry) fits e = (fits, tt)
said-so named dom bytes (script_calls.GrantBytes gref hex) fits e = let are : IsBytes bytes.now = subst IsBytes (sym e) (hex-bytes hex) in (entry-fits bytes.now are, all-bytes bytes.now are)
said-so named dom bytes (script_calls.Revoke gref) fits e = (tt, tt)
said-so named dom bytes (script_calls.Withdraw gref) fits e = (tt, tt)
said-so named dom bytes (script_calls.Demote gref) fits e = (tt, tt)
said-so named dom bytes (script_calls.Promote gref) fits e = (tt, tt)
said-so named dom bytes (script_calls.Map label to gref flags) fits e = (tt, tt)
said-so named dom bytes (script_calls.Unmap label) fits e = (tt, tt)
said-so named dom bytes (script_calls.Load label off len) fits e = (tt, tt)
said-so named dom bytes (script_calls.Store label off hex) fits e = (tt, tt)
said-so named dom bytes (script_calls.Peek frame off len) fits e = (tt, tt)
said-so named dom bytes (script_calls.Poke frame off hex) fits e = (tt, tt)
said-so named dom bytes (script_calls.Copy c) fits e = (tt, tt)
said-so named dom bytes (script_calls.SetVersion version) fits e = (tt, tt)
said-so named dom bytes (script_calls.SetupTable frames) fits e = (tt, tt)
said-so named dom bytes (script_calls.QuerySize to) fits e = (tt, tt)
said-so named dom bytes (script_calls.GetVersion to) fits e = (tt, tt)

-- what a line asks fits its types, since the entry that it grants does
pub said-fits : (call : ScriptCall) (named : List Named) (dom : DomId) (request : Request) → FitsEntry call → MakesRequest named dom call request → FitsTypes request
said-fits call named dom request fits (bytes, e, is) = subst FitsTypes (sym is) (said-so named dom bytes call fits e)
