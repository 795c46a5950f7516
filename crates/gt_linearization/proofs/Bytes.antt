-- Bytes that no rule refuses spell the entry that is asked by them.
use Rattle.std.proofs.Common.{◌≡◌, ℕ, ◌%◌, ◌<◌, Bool, true, false, cond, ◌==◌, ◌&&◌, List, length, Option, Some, None}
use Rattle.std.proofs.Common.{sym, refl, ap, ◌∙◌, subst, arith, eq-eqb, ne_eqb}
use Rattle.std.proofs.lemmas.Bool.{eqb-true, eqb-false}
use Rattle.std.specs.Prelude.{All, MatchBool, find, not, ◌||◌}
use Rattle.gt_types.specs.declared.DomId.{DomId}
use Rattle.gt_types.specs.declared.GrantRef.{GrantRef}
use Rattle.gt_types.specs.declared.denial.Field.{Field}
use Rattle.gt_types.specs.declared.denial.Field.TheVariants.{Length}
use Rattle.gt_model.proofs.Decoding.{v1-read, v2-page, v2-sub, v2-via}
use Rattle.gt_model.specs.Bytes.{Spells, SpellsV1, SpellsV2, entry_size, field, first_refused, flag_fields, flags_of}
use Rattle.gt_model.specs.Bytes.{is_refused, is_set, is_table_version}
use Rattle.gt_model.specs.declared.entry.Entry.{Entry}
use Rattle.gt_model.specs.declared.entry.Entry.TheVariants.{Page, Sub, Via}
use Rattle.gt_model.specs.declared.header.Header.{Header}
use Rattle.gt_model.specs.Asking.{SpellsItsEntry, SpellsEntryBy, begun_by, begun_of, bytes_begun, bytes_of}
use Rattle.gt_model.specs.Asking.{entry_spelled, said_in_v1, said_in_v2}
use Rattle.gt_model.specs.Rules.{CallerKnowledge}
use Rattle.gt_model.specs.declared.request.Request.{Request}
use Rattle.gt_linearization.specs.Runs.{AreBytesOf}

-- no field is found, so the first one is not, and none of the others
none-found : (b : Bool) (x : Field) (o : Option Field) → cond b (Some x) o ≡ None → (b ≡ false) × (o ≡ None)
none-found true x o e = absurd (cc)
none-found false x o e = (refl, e)

right-length : (v : Bool) (s : Bool) → not (v && s) ≡ false → (v ≡ true) × (s ≡ true)
right-length true true e = (refl, refl)
right-length true false e = absurd (cc)
right-length false s e = absurd (cc)

-- the three that there are in version 2

abbrev via_said : List ℕ → Entry
via_said bytes = Via (record { 0 = field bytes 2 2 }) (is_set (flags_of bytes) 4) (record { 0 = field bytes 4 2 }) (record { 0 = field bytes 8 4 })

abbrev sub_said : List ℕ → Entry
sub_said bytes = Sub (record { 0 = field bytes 2 2 }) (is_set (flags_of bytes) 4) (field bytes 8 8) (field bytes 4 2) (field bytes 6 2)

abbrev page_said : List ℕ → Entry
page_said bytes = Page (record { 0 = field bytes 2 2 }) (is_set (flags_of bytes) 4) (field bytes 8 8)

-- in version 2
spells-v2 : (bytes : List ℕ) → length bytes ≡ 16 → All (λ byte. byte < 256) bytes → find (is_refused 2 16 (flags_of bytes)) flag_fields ≡ None → SpellsV2 bytes (said_in_v2 bytes)
spells-v2 bytes len all e = by (flags_of bytes % 4 == 3) refl (is_set (flags_of bytes) 256) refl
  where
    by : (a : Bool) → (flags_of bytes % 4 == 3) ≡ a → (s : Bool) → is_set (flags_of bytes) 256 ≡ s → SpellsV2 bytes (said_in_v2 bytes)
    by true a s f = subst (SpellsV2 bytes) (sym (ap (λ (z : Bool). cond z (via_said bytes) (cond (is_set (flags_of bytes) 256) (sub_said bytes) (page_said bytes))) a))
        (v2-via bytes (len, all) e (eqb-true (flags_of bytes % 4) 3 a))
    by false a true f = subst (SpellsV2 bytes) (sym (ap (λ (z : Bool). cond z (via_said bytes) (cond (is_set (flags_of bytes) 256) (sub_said bytes) (page_said bytes))) a ∙ ap (λ (z : Bool). cond z (sub_said bytes) (page_said bytes)) f))
        (v2-sub bytes (len, all) e (eqb-false (flags_of bytes % 4) 3 a) f)
    by false a false f = subst (SpellsV2 bytes) (sym (ap (λ (z : Bool). cond z (via_said bytes) (cond (is_set (flags_of bytes) 256) (sub_said bytes) (page_said bytes))) a ∙ ap (λ (z : Bool). cond z (sub_said bytes) (page_said bytes)) f))
        (v2-page bytes (len, all) e (eqb-false (flags_of bytes % 4) 3 a) f)

-- in either version
pub spells : (version : ℕ) (bytes : List ℕ) → All (λ byte. byte < 256) bytes → first_refused version bytes ≡ None → Spells version bytes (entry_spelled bytes)
spells version bytes all e =
    let n = none-found (is_refused version (length bytes) (flags_of bytes) Length) Length (find (is_refused version (length bytes) (flags_of bytes)) flag_fields) e in
    let r = right-length (is_table_version version) (length bytes == entry_size version) n.0 in
    by (version == 2) refl r.0 (eqb-true (length bytes) (entry_size version) r.1) n.1
  where
    one : (a b : Bool) → b ≡ false → (a || b) ≡ true → a ≡ true
    one true b f g = refl
    one false true f g = absurd (cc)
    one false false f g = g

    by : (b : Bool) → (version == 2) ≡ b → is_table_version version ≡ true → length bytes ≡ entry_size version → find (is_refused version (length bytes) (flags_of bytes)) flag_fields ≡ None → Spells version bytes (entry_spelled bytes)
    by true two table len none =
        let v : version ≡ 2 = eqb-true version 2 two in
        let size : length bytes ≡ 16 = len ∙ ap entry_size v in
        let clean : find (is_refused 2 16 (flags_of bytes)) flag_fields ≡ None = sym (λ j. find (is_refused (v j) (size j) (flags_of bytes)) flag_fields) ∙ none in
        let said : entry_spelled bytes ≡ said_in_v2 bytes = ap (λ (z : Bool). cond z (said_in_v2 bytes) (said_in_v1 bytes)) (eq-eqb (length bytes) 16 size) in
        subst (λ (z : Bool). MatchBool z (SpellsV2 bytes (entry_spelled bytes)) ((version ≡ 1) × SpellsV1 bytes (entry_spelled bytes))) (sym two) (subst (SpellsV2 bytes) (sym said) (spells-v2 bytes size all clean))
    by false other table len none =
        let v : version ≡ 1 = eqb-true version 1 (one (version == 1) (version == 2) other table) in
        let size : length bytes ≡ 8 = len ∙ ap entry_size v in
        let clean : find (is_refused 1 8 (flags_of bytes)) flag_fields ≡ None = sym (λ j. find (is_refused (v j) (size j) (flags_of bytes)) flag_fields) ∙ none in
        let short : (length bytes == 16) ≡ false = ne_eqb (length bytes) 16 (λ f. let z : 8 ≡ 16 = sym size ∙ f in absurd (omega arith)) in
        let said : entry_spelled bytes ≡ said_in_v1 bytes = ap (λ (z : Bool). cond z (said_in_v2 bytes) (said_in_v1 bytes)) short in
        subst (λ (z : Bool). MatchBool z (SpellsV2 bytes (entry_spelled bytes)) ((version ≡ 1) × SpellsV1 bytes (entry_spelled bytes))) (sym other) (v, subst (SpellsV1 bytes) (sym said) (v1-read bytes (size, all) clean))

clean-bytes : (header : Header) (old : Entry) (generation r : ℕ) (bytes : List ℕ) → bytes_begun header old generation r bytes ≡ None → first_refused header.version bytes ≡ None
clean-bytes header old generation r bytes e = grind arith

-- what is asked is said
pub said : (k : CallerKnowledge) (d : DomId) (request : Request) → AreBytesOf (bytes_of request) → begun_of k d request ≡ None → SpellsItsEntry k.header request
said k d request are none = by (bytes_of request) refl are
  where
    by : (o : Option (GrantRef × List ℕ)) → bytes_of request ≡ o → AreBytesOf o → SpellsItsEntry k.header request
    by None e a = subst (SpellsEntryBy k.header) (sym e) tt
    by (Some b) e a = subst (SpellsEntryBy k.header) (sym e)
        (spells k.header.version b.1 a (clean-bytes k.header (k.entry b.0.0) (k.generation b.0.0) b.0.0 b.1 (ap (begun_by k d request) (sym e) ∙ none)))
