-- The results of calls that don't wait.
use Rattle.gt_types.specs.declared.denial.Facts.{Facts}
use Rattle.gt_types.specs.declared.denial.Facts.TheVariants as facts
use Rattle.gt_model.specs.declared.request.OpenRequest.{OpenRequest}
use Rattle.gt_model.specs.declared.request.OpenRequest.TheVariants as asks
use Rattle.gt_model.specs.declared.action.CallValue.TheVariants as call_values
use Rattle.gt_model.specs.declared.action.CallResult.{CallResult}
use Rattle.gt_model.specs.declared.action.CallResult.TheVariants.{Granted, Given, Mapped, Refused}

-- a domain of the running monitor makes the request, and all its steps are on the words
abbrev pub WaitsForNobody : OpenRequest → Type 0
WaitsForNobody (asks.Load handle off len) = ⊥
WaitsForNobody (asks.Store handle off len) = ⊥
WaitsForNobody (asks.Peek frame off len) = ⊥
WaitsForNobody (asks.Poke frame off len) = ⊥
WaitsForNobody (asks.Copy c) = ⊥
WaitsForNobody (asks.Probe c) = ⊥
WaitsForNobody request = Unit {0}

-- one of the steps of the request is an access to bytes
abbrev pub IsAccessing : OpenRequest → Type 0
IsAccessing (asks.Load handle off len) = Unit {0}
IsAccessing (asks.Store handle off len) = Unit {0}
IsAccessing (asks.Peek frame off len) = Unit {0}
IsAccessing (asks.Poke frame off len) = Unit {0}
IsAccessing (asks.Copy c) = Unit {0}
IsAccessing request = ⊥

-- the result fits this request: a refusal, a mapping for a map, a value for a call that asks for one, else Ok
abbrev pub IsAnswerTo : OpenRequest → CallResult → Type 0
IsAnswerTo request (Refused denial) = Unit {0}
IsAnswerTo (asks.Map dom gref flags) (Mapped p) = Unit {0}
IsAnswerTo (asks.SetupTable frames) (Given (call_values.Frames n)) = Unit {0}
IsAnswerTo (asks.QuerySize dom) (Given (call_values.Size size)) = Unit {0}
IsAnswerTo (asks.GetVersion dom) (Given (call_values.Version version)) = Unit {0}
IsAnswerTo (asks.Grant gref entry) Granted = Unit {0}
IsAnswerTo (asks.Revoke gref) Granted = Unit {0}
IsAnswerTo (asks.Withdraw gref) Granted = Unit {0}
IsAnswerTo (asks.Demote gref) Granted = Unit {0}
IsAnswerTo (asks.Promote gref) Granted = Unit {0}
IsAnswerTo (asks.Unmap handle) Granted = Unit {0}
IsAnswerTo (asks.Release handle) Granted = Unit {0}
IsAnswerTo (asks.SetVersion version) Granted = Unit {0}
IsAnswerTo request verdict = ⊥

-- the request is a map
abbrev pub IsMap : OpenRequest → Type 0
IsMap (asks.Map dom gref flags) = Unit {0}
IsMap request = ⊥

-- the request makes or drops a mapping
abbrev pub IsOfMapping : OpenRequest → Type 0
IsOfMapping (asks.Map dom gref flags) = Unit {0}
IsOfMapping (asks.Unmap handle) = Unit {0}
IsOfMapping (asks.Release handle) = Unit {0}
IsOfMapping request = ⊥

-- the request changes one of the caller's entries
abbrev pub IsOwnChange : OpenRequest → Type 0
IsOwnChange (asks.Grant gref entry) = Unit {0}
IsOwnChange (asks.Revoke gref) = Unit {0}
IsOwnChange (asks.Withdraw gref) = Unit {0}
IsOwnChange (asks.Demote gref) = Unit {0}
IsOwnChange (asks.Promote gref) = Unit {0}
IsOwnChange request = ⊥

-- the request changes the caller's header
abbrev pub IsHeaderChange : OpenRequest → Type 0
IsHeaderChange (asks.SetVersion version) = Unit {0}
IsHeaderChange (asks.SetupTable frames) = Unit {0}
IsHeaderChange request = ⊥

-- the facts of a refusal carry no word
abbrev pub IsWordless : Facts → Type 0
IsWordless (facts.Entry dom gref word) = ⊥
IsWordless (facts.Header dom word) = ⊥
IsWordless other = Unit {0}

-- the request may have this result at its beginning: a refusal without a word, or Ok if there is nothing to do
abbrev pub IsAtOnce : OpenRequest → CallResult → Type 0
IsAtOnce request (Refused denial) = IsWordless denial.facts
IsAtOnce (asks.Demote gref) Granted = Unit {0}
IsAtOnce (asks.Promote gref) Granted = Unit {0}
IsAtOnce (asks.SetVersion version) Granted = Unit {0}
IsAtOnce (asks.SetupTable frames) (Given (call_values.Frames n)) = Unit {0}
IsAtOnce request verdict = ⊥
