-- The forms of an answer.
use Rattle.std.specs.Prelude.{◌≡◌, ℕ, true, List, ◌++◌}
use Rattle.gt_json.specs.Strings.{quoted}
use Rattle.gt_policy_questions.specs.declared.flows.format.FlowFormat.{FlowFormat}
use Rattle.gt_policy_questions.specs.declared.flows.format.FlowFormat.TheVariants as flow_formats
use Rattle.gt_policy_questions.specs.declared.flows.format.FlowText.{FlowText}

-- the first of two marks as text, and the second as JSON
abbrev pub by_format : FlowFormat → List ℕ → List ℕ → List ℕ
by_format flow_formats.Text text json = text
by_format flow_formats.Json text json = json

-- a name: as JSON it is a string
abbrev pub name_text : FlowFormat → List ℕ → List ℕ
name_text flow_formats.Text name = name
name_text flow_formats.Json name = quoted name

-- a text has grown by this: if it is whole now, it was so before
pub record TextGrows (old new : FlowText) (text : List ℕ) : Type 0 where
  pub whole : new.is_whole ≡ true → old.is_whole ≡ true
  pub bytes : new.is_whole ≡ true → new.bytes.items ≡ old.bytes.items ++ text

-- a text has grown by one of these
pub record GrowsBy (Are : List ℕ → Type 0) (old new : FlowText) : Type 0 where
  pub whole : new.is_whole ≡ true → old.is_whole ≡ true
  pub bytes : new.is_whole ≡ true → (text : List ℕ) × Are text × (new.bytes.items ≡ old.bytes.items ++ text)
