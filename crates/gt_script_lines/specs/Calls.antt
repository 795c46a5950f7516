-- The meaning of the words of a call; REF, DOM and the others are as in Fields.
use Rattle.std.specs.Prelude.{ℕ, ◌+◌, List, [], ◌∷◌, Option, Some, None, if◌then◌else◌, codes}
use Rattle.std.specs.Option.{option_map, option_or}
use Rattle.std.specs.Str.{bytes_eq}
use Rattle.gt_types.specs.declared.copies.End.{End}
use Rattle.gt_types.specs.declared.DomId.{DomId}
use Rattle.gt_types.specs.declared.GrantRef.{GrantRef}
use Rattle.gt_model.specs.declared.entry.Entry.{Entry}
use Rattle.gt_model.specs.declared.entry.Entry.TheVariants as entries
use Rattle.gt_script_lines.specs.Fields.{◌>>=◌, u16_word, u32_word, u64_word, reference_word, domain_word, mode_word}
use Rattle.gt_script_lines.specs.Fields.{flags_word, label_word, text_where}
use Rattle.gt_script_lines.specs.Hexadecimal.{hex_word}
use Rattle.gt_script_lines.specs.declared.calls.ScriptCall.{ScriptCall}
use Rattle.gt_script_lines.specs.declared.calls.ScriptCall.TheVariants as script_calls

-- a page: DOM MODE FRAME
unfoldable pub page_of : List (List ℕ) → Option Entry
page_of (dom ∷ mode ∷ frame ∷ []) = do
  d ← domain_word dom
  m ← mode_word mode
  f ← u64_word frame
  Some (entries.Page d m f)
page_of _ = None

-- a sub-page: DOM MODE FRAME OFF LEN
unfoldable pub sub_of : List (List ℕ) → Option Entry
sub_of (dom ∷ mode ∷ frame ∷ off ∷ len ∷ []) = do
  d ← domain_word dom
  m ← mode_word mode
  f ← u64_word frame
  o ← u16_word off
  n ← u16_word len
  Some (entries.Sub d m f o n)
sub_of _ = None

-- a transitive entry: DOM MODE DOM2 REF2
unfoldable pub via_of : List (List ℕ) → Option Entry
via_of (dom ∷ mode ∷ to ∷ gref ∷ []) = do
  d ← domain_word dom
  m ← mode_word mode
  t ← domain_word to
  r ← reference_word gref
  Some (entries.Via d m t r)
via_of _ = None

-- the entry of a grant, by its kind
unfoldable pub entry_of_kind : List ℕ → List (List ℕ) → Option Entry
entry_of_kind kind args = if bytes_eq kind (codes "page") then page_of args
    else (if bytes_eq kind (codes "sub") then sub_of args
    else (if bytes_eq kind (codes "via") then via_of args else None))

-- the words after `grant`: REF and an entry
unfoldable pub grant_of : List (List ℕ) → Option ScriptCall
grant_of (gref ∷ kind ∷ args) = do
  r ← reference_word gref
  e ← entry_of_kind kind args
  Some (script_calls.Grant r e)
grant_of _ = None

-- the words after `bytes`: REF HEX
unfoldable pub grant_bytes_of : List (List ℕ) → Option ScriptCall
grant_bytes_of (gref ∷ digits ∷ []) = do
  r ← reference_word gref
  h ← text_where hex_word digits
  Some (script_calls.GrantBytes r h)
grant_bytes_of _ = None

-- the words after `map`: LABEL DOM REF FLAGS
unfoldable pub map_of : List (List ℕ) → Option ScriptCall
map_of (label ∷ dom ∷ gref ∷ flags ∷ []) = do
  l ← text_where label_word label
  d ← domain_word dom
  r ← reference_word gref
  f ← flags_word flags
  Some (script_calls.Map l d r f)
map_of _ = None

-- the word after `unmap`: LABEL
unfoldable pub unmap_of : List (List ℕ) → Option ScriptCall
unmap_of (label ∷ []) = do
  l ← text_where label_word label
  Some (script_calls.Unmap l)
unmap_of _ = None

-- the words after `load`: LABEL OFF LEN
unfoldable pub load_of : List (List ℕ) → Option ScriptCall
load_of (label ∷ off ∷ len ∷ []) = do
  l ← text_where label_word label
  o ← u16_word off
  n ← u16_word len
  Some (script_calls.Load l o n)
load_of _ = None

-- the words after `store`: LABEL OFF HEX
unfoldable pub store_of : List (List ℕ) → Option ScriptCall
store_of (label ∷ off ∷ digits ∷ []) = do
  l ← text_where label_word label
  o ← u16_word off
  h ← text_where hex_word digits
  Some (script_calls.Store l o h)
store_of _ = None

-- the words after `peek`: FRAME OFF LEN
unfoldable pub peek_of : List (List ℕ) → Option ScriptCall
peek_of (frame ∷ off ∷ len ∷ []) = do
  f ← u64_word frame
  o ← u16_word off
  n ← u16_word len
  Some (script_calls.Peek f o n)
peek_of _ = None

-- the words after `poke`: FRAME OFF HEX
unfoldable pub poke_of : List (List ℕ) → Option ScriptCall
poke_of (frame ∷ off ∷ digits ∷ []) = do
  f ← u64_word frame
  o ← u16_word off
  h ← text_where hex_word digits
  Some (script_calls.Poke f o h)
poke_of _ = None

-- an end of a copy: `gref` DOM REF OFF, or `frame` DOM FRAME OFF; its number is the reference, or the frame's
-- (grant_table.h)
unfoldable pub copy_end_of : List ℕ → List ℕ → List ℕ → List ℕ → Option End
copy_end_of kind dom place off = if bytes_eq kind (codes "gref") then (do
  d ← domain_word dom
  r ← reference_word place
  o ← u16_word off
  Some (record { ptr = r.0; domid = d; offset = o })) else (if bytes_eq kind (codes "frame") then (do
    d ← domain_word dom
    f ← u64_word place
    o ← u16_word off
    Some (record { ptr = f; domid = d; offset = o })) else None)

-- the flag if the end is a grant reference, and 0 if it is a frame (grant_table.h)
unfoldable pub grant_flag : List ℕ → ℕ → ℕ
grant_flag kind flag = if bytes_eq kind (codes "gref") then flag else 0

-- the words after `copy`: END END LEN, the source first; flag 1 means that the source is a reference, flag 2 that the
-- destination is one (grant_table.h)
unfoldable pub copy_of : List (List ℕ) → Option ScriptCall
copy_of (from_kind ∷ from_dom ∷ from ∷ from_off ∷ to_kind ∷ to_dom ∷ to ∷ to_off ∷ len ∷ []) = do
  s ← copy_end_of from_kind from_dom from from_off
  d ← copy_end_of to_kind to_dom to to_off
  n ← u16_word len
  Some (script_calls.Copy
      (record { source = s; dest = d; len = n; flags = grant_flag from_kind 1 + grant_flag to_kind 2 }))
copy_of _ = None

-- the word after `revoke`, `withdraw`, `demote`, `promote`, and after `show` and its domain: REF
unfoldable pub only_reference : List (List ℕ) → Option GrantRef
only_reference (gref ∷ []) = reference_word gref
only_reference _ = None

-- the word after `version` and `setup`: V and N, of 32 bits (grant_table.h)
unfoldable pub only_number : List (List ℕ) → Option ℕ
only_number (number ∷ []) = u32_word number
only_number _ = None

-- the word after `size` and `getversion`: DOM
unfoldable pub only_domain : List (List ℕ) → Option DomId
only_domain (dom ∷ []) = domain_word dom
only_domain _ = None

-- a call on a table, by its word
unfoldable pub table_of : List ℕ → List (List ℕ) → Option ScriptCall
table_of word args = if bytes_eq word (codes "grant") then grant_of args
    else (if bytes_eq word (codes "bytes") then grant_bytes_of args
    else (if bytes_eq word (codes "revoke") then option_map script_calls.Revoke (only_reference args)
    else (if bytes_eq word (codes "withdraw") then option_map script_calls.Withdraw (only_reference args)
    else (if bytes_eq word (codes "demote") then option_map script_calls.Demote (only_reference args)
    else (if bytes_eq word (codes "promote") then option_map script_calls.Promote (only_reference args)
    else (if bytes_eq word (codes "version") then option_map script_calls.SetVersion (only_number args)
    else (if bytes_eq word (codes "setup") then option_map script_calls.SetupTable (only_number args)
    else (if bytes_eq word (codes "size") then option_map script_calls.QuerySize (only_domain args)
    else (if bytes_eq word (codes "getversion") then option_map script_calls.GetVersion (only_domain args)
    else None)))))))))

-- a call on a mapping, or one that reads or writes bytes, by its word
unfoldable pub access_of : List ℕ → List (List ℕ) → Option ScriptCall
access_of word args = if bytes_eq word (codes "map") then map_of args
    else (if bytes_eq word (codes "unmap") then unmap_of args
    else (if bytes_eq word (codes "load") then load_of args
    else (if bytes_eq word (codes "store") then store_of args
    else (if bytes_eq word (codes "peek") then peek_of args
    else (if bytes_eq word (codes "poke") then poke_of args
    else (if bytes_eq word (codes "copy") then copy_of args else None))))))

-- a call, by its word and its arguments
unfoldable pub call_line_of : List (List ℕ) → Option ScriptCall
call_line_of [] = None
call_line_of (word ∷ args) = option_or (table_of word args) (access_of word args)
