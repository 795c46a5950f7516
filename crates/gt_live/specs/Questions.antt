-- The result of a question about a table.
use Rattle.std.specs.Prelude.{ℕ, Result, Ok, Err}
use Rattle.gt_types.specs.declared.DomId.{DomId}
use Rattle.gt_types.specs.declared.denial.Denial.{Denial}
use Rattle.gt_model.specs.Path.{header_value_of}
use Rattle.gt_model.specs.declared.action.CallResult.{CallResult}
use Rattle.gt_model.specs.declared.action.CallResult.TheVariants.{Refused}
use Rattle.gt_model.specs.declared.action.HeaderQuery.{HeaderQuery}
use Rattle.gt_model.specs.declared.action.HeaderQuery.TheVariants.{Size, Version}
use Rattle.gt_model.specs.declared.request.OpenRequest.{OpenRequest}
use Rattle.gt_model.specs.declared.request.OpenRequest.TheVariants.{QuerySize, GetVersion}

-- the request for this question about this domain's table
abbrev pub asks_question : DomId → HeaderQuery → OpenRequest
asks_question dom Size = QuerySize dom
asks_question dom Version = GetVersion dom

-- the result of this question by the header's word, if it was not refused
abbrev pub answer_by : HeaderQuery → Result ℕ Denial → CallResult
answer_by question (Ok word) = header_value_of question word
answer_by question (Err denial) = Refused denial
