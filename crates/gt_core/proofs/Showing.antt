-- What the core shows of an entry, and of a mapping, is what the history left.
use Rattle.gt_core.proofs.Words.{◌≡◌, ℕ, Bool, List, Option, Some, None, cond, sym, ap, ◌∙◌, get_or, position}
use Rattle.gt_core.proofs.Words.{domain_of, DomId, DomainConfig, Handle, value_of, HeldPin, State, History, Setting}
use Rattle.gt_core.proofs.Words.{mapping_of, mappings_at, DomainsStand, entry_place_of, subject_at, ◌<◌, ◌≤◌, refl}
use Rattle.gt_core.proofs.Words.{true}
use Rattle.gt_core.proofs.Words.{false, length, arith, subst, lt-ltb, nat_lt, ◌&&◌, is_some, slice_get, TABLE_ENTRIES}
use Rattle.gt_core.proofs.Words.{Entry, Header, OwnerEntry, PinCounts, size_of, row_entry, row_generation, entry_at}
use Rattle.gt_core.proofs.Words.{generation_at, table_at, shown_at, StateStands, shown_in, le-ltb, entry_shown}
use Rattle.std.{specs.Prelude.option_map}
use Rattle.gt_core.proofs.{Beginning.begin-nowhere, Beginning.agrees-found, Rows.has_id, Steps.See.table-fits}
use Rattle.gt_core.proofs.{Steps.See.some-at}

some-domain : (o : Option DomainConfig) → (o ≡ None → ⊥) → is_some o ≡ true
some-domain None n = absurd (n refl)
some-domain (Some d) n = refl

-- no domain has the number
pub subject-nowhere : (s : Setting) (h : History) (xs : List State) (dom : DomId) (handle : Handle) → position (has_id dom.0) xs ≡ None → DomainsStand s h xs → None ≡ subject_at s h dom handle
subject-nowhere s h xs dom handle p st =
    sym (ap (λ (o : Option DomainConfig). cond (is_some o) (option_map entry_place_of (mapping_of (mappings_at h dom.0) handle)) None) (begin-nowhere s h xs dom p st))

-- a domain of the run
pub subject-there : (s : Setting) (h : History) (xs : List State) (dom : DomId) (handle : Handle) (at : ℕ) (x : State) → position (has_id dom.0) xs ≡ Some at → x ≡ get_or xs at x → DomainsStand s h xs
    → option_map entry_place_of (value_of x.mappings handle) ≡ subject_at s h dom handle
subject-there s h xs dom handle at x p here st = let a = agrees-found s h xs dom at x p here st in
    ap (λ (f : Handle → Option HeldPin). option_map entry_place_of (f handle)) a.2.mappings.named
    ∙ ap (λ (d : DomId). option_map entry_place_of (mapping_of (mappings_at h d.0) handle)) a.1
    ∙ sym (ap (λ (b : Bool). cond b (option_map entry_place_of (mapping_of (mappings_at h dom.0) handle)) None) (some-domain (domain_of s.domains dom) a.0))

-- no domain has the number
pub shown-nowhere : (s : Setting) (h : History) (xs : List State) (dom : DomId) (r : ℕ) → position (has_id dom.0) xs ≡ None → DomainsStand s h xs → None ≡ shown_at s h dom r
shown-nowhere s h xs dom r p st = sym (ap (λ (o : Option DomainConfig). cond (is_some o && nat_lt r (size_of (table_at s h dom))) (Some (entry_shown s h dom r)) None) (begin-nowhere s h xs dom p st))

shown-in-range : (s : Setting) (h : History) (dom : DomId) (r : ℕ) (b : Bool) → (domain_of s.domains dom ≡ None → ⊥) → nat_lt r (size_of (table_at s h dom)) ≡ b → shown_at s h dom r ≡ cond b (Some (entry_shown s h dom r)) None
shown-in-range s h dom r b some e = ap (λ (c : Bool). cond (c && nat_lt r (size_of (table_at s h dom))) (Some (entry_shown s h dom r)) None) (some-domain (domain_of s.domains dom) some)
    ∙ ap (λ (c : Bool). cond c (Some (entry_shown s h dom r)) None) e

-- the reference is beyond the table
pub shown-past : (s : Setting) (h : History) (xs : List State) (dom : DomId) (r at : ℕ) (x : State) → position (has_id dom.0) xs ≡ Some at → x ≡ get_or xs at x → size_of x.header ≤ r → DomainsStand s h xs → None ≡ shown_at s h dom r
shown-past s h xs dom r at x p here past st = let a = agrees-found s h xs dom at x p here st in
    let size : size_of (table_at s h dom) ≤ r = subst (λ (d : DomId). size_of (table_at s h d) ≤ r) a.1 (subst (λ (z : Header). size_of z ≤ r) a.2.header past) in
    sym (shown-in-range s h dom r false a.0 (le-ltb r (size_of (table_at s h dom)) size))

rows-show : (s : Setting) (h : History) (x : State) (r : ℕ) → StateStands s h x → r < TABLE_ENTRIES → shown_in (slice_get x.own r) (slice_get x.slots r) ≡ Some (entry_shown s h x.id r)
rows-show s h x r a within = let own = some-at x.own r (let n : length x.own ≡ TABLE_ENTRIES = a.rows in omega arith) in
    let slot = some-at x.slots r (let n : length x.slots ≡ TABLE_ENTRIES = a.room in omega arith) in
    let reads = (a.slots r slot.0 slot.1).reads in let writes = (a.slots r slot.0 slot.1).writes in
    let entry : own.0.entry ≡ entry_at h x.id.0 r = sym (ap row_entry own.1) ∙ ap (λ (f : ℕ → Entry). f r) a.entries in
    let generation : own.0.generation ≡ generation_at s h x.id.0 r =
    sym (ap (row_generation s.first_generation) own.1) ∙ ap (λ (f : ℕ → ℕ). f r) a.generations in
    ap (λ (o : Option OwnerEntry). shown_in o (slice_get x.slots r)) own.1 ∙ ap (λ (o : Option PinCounts). shown_in (Some own.0) o) slot.1 ∙ (cc)

-- an entry of the table
pub shown-there : (s : Setting) (h : History) (xs : List State) (dom : DomId) (r at : ℕ) (x : State) → position (has_id dom.0) xs ≡ Some at → x ≡ get_or xs at x → r < size_of x.header → DomainsStand s h xs
    → shown_in (slice_get x.own r) (slice_get x.slots r) ≡ shown_at s h dom r
shown-there s h xs dom r at x p here within st = let a = agrees-found s h xs dom at x p here st in
    let size : r < size_of (table_at s h dom) = subst (λ (d : DomId). r < size_of (table_at s h d)) a.1 (subst (λ (z : Header). r < size_of z) a.2.header within) in
    let most : size_of (table_at s h dom) ≤ TABLE_ENTRIES = (table-fits _ (st.tables dom)).0 in
    rows-show s h x r a.2 (omega arith)
    ∙ ap (λ (d : DomId). Some (entry_shown s h d r)) a.1
    ∙ sym (shown-in-range s h dom r true a.0 (lt-ltb r (size_of (table_at s h dom)) size))
