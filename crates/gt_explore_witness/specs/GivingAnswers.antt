-- A script for `play` that gives the answers of a text.
use Rattle.std.specs.Prelude.{◌≡◌, ◌++◌, ◌==◌, ◌&&◌, not, ℕ, Bool, false, List, [], All, filter, map, take}
use Rattle.std.specs.Prelude.{length, Some, Ok, codes, decimal}
use Rattle.std.specs.List.{after_first, list_any, slice_split}
use Rattle.std.specs.Str.{bytes_eq}
use Rattle.gt_types.specs.Names.{unmap}
use Rattle.gt_types.specs.declared.DomId.{DomId}
use Rattle.gt_types.specs.declared.TypeId.{TypeId}
use Rattle.gt_types.specs.declared.config.DomainConfig.{DomainConfig}
use Rattle.gt_types.specs.declared.perms.Perms.{Perms}
use Rattle.gt_script.specs.Script.{ReadsAsScript}
use Rattle.gt_script_runs.specs.Playing.{Played}

-- a line without its number: what comes after its first space
abbrev pub without_number : List ℕ → List ℕ
without_number line = after_first (λ b. b == 32) line

-- the word with which the answers of a domain begin, after the number of the line
abbrev pub domain_prefix : ℕ → List ℕ
domain_prefix dom = decimal dom ++ codes " "

-- a line begins with this word
abbrev pub begins_with : List ℕ → List ℕ → Bool
begins_with word line = bytes_eq word (take (length word) line)

-- the end of a line
abbrev pub is_end : ℕ → Bool
is_end b = b == 10

-- the answers of a domain in a text, in their order, without the numbers of their lines
abbrev pub answers_of : ℕ → List ℕ → List (List ℕ)
answers_of dom text = filter (begins_with (domain_prefix dom)) (map without_number (slice_split is_end text))

-- the answer of a domain to an unmap, without the number of a line
abbrev pub ok_line : ℕ → List ℕ
ok_line dom = domain_prefix dom ++ codes "ok"

-- these lines, and after them only such lines
pub record ContinuesWithLines (with : List ℕ) (lines all : List (List ℕ)) : Type 0 where
  pub more : List (List ℕ)
  pub is : all ≡ lines ++ more
  pub rest : All (λ line. line ≡ with) more

-- a domain has the answers of the text, and after them `ok` for each mapping that it unmaps at the end of its list
abbrev pub HasAnswers : ℕ → List ℕ → List ℕ → Type 0
HasAnswers dom text out = ContinuesWithLines (ok_line dom) (answers_of dom text) (answers_of dom out)

-- so has each of these domains
abbrev pub DomainsHaveAnswers : List DomainConfig → List ℕ → List ℕ → Type 0
DomainsHaveAnswers domains text out = All (λ domain. HasAnswers domain.id.0 text out) domains

-- the script is one for `play` that prints the answers of the text
pub record GivesAnswers (domains : List DomainConfig) (script text : List ℕ) : Type 0 where
  pub out : List ℕ
  pub played : Played (ReadsAsScript script) false (Some []) (Some out) (Ok tt)
  pub answers : DomainsHaveAnswers domains text out

-- the policy does not let a domain of this type unmap the entries of one of these domains
abbrev pub is_forbidden : (TypeId → TypeId → Perms → Bool) → List DomainConfig → TypeId → Bool
is_forbidden may domains source = list_any (λ (d : DomainConfig). not (may source d.label unmap)) domains

-- the policy does not let this domain unmap the entries of one of these
abbrev pub may_not_unmap : (TypeId → TypeId → Perms → Bool) → List DomainConfig → DomId → Bool
may_not_unmap may domains dom =
    list_any (λ (d : DomainConfig). (d.id.0 == dom.0) && is_forbidden may domains d.label) domains
