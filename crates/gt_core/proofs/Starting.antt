-- A new core represents the empty history.
use Rattle.gt_core.proofs.Words.{◌≡◌, ◌<◌, ◌≤◌, ◌+◌, ℕ, refl, Bool, true, false, List, [], ◌∷◌, Option, Some, None}
use Rattle.gt_core.proofs.Words.{cond, ltb, sym, ap, ◌∙◌, arith, subst, map, replicate, min, get_or, eqb-true}
use Rattle.gt_core.proofs.Words.{ltb-false, ltb-true, none-some, same_Some, slice_get-get_or, slice_get_past}
use Rattle.gt_core.proofs.Words.{length-replicate, All-tail, fun_ext, ◌==◌, slice_get, All, option_map, domain_of}
use Rattle.gt_core.proofs.Words.{DomId, TypeId, Perms, Config, DomainConfig, Invalid, OwnerEntry, PinCounts, ENTRIES}
use Rattle.gt_core.proofs.Words.{row_entry, row_generation, State, state_of, first_state, Setting, entry_at, raises_at}
use Rattle.gt_core.proofs.Words.{body_at, live, maps_answered_at, open_call, table_at, control_at, setting_of}
use Rattle.gt_core.proofs.Words.{StateStands}
use Rattle.gt_core.proofs.Words.{StateAgrees, SlotAgrees, FitsTable, FitsWord, IsLawfulPin, DomainsStand}
use Rattle.gt_core.proofs.Words.{LAST_GENERATION}
use Rattle.gt_core.proofs.Words.{gather, get_or-replicate, header_from, LAST_VERSION, MAX_TABLE_FRAMES, cond_both}
use Rattle.gt_core.proofs.Words.{All-nil, IsWithinLimits}
use Rattle.gt_core.proofs.{AgreementKept.given-none, Mappings.no-handles, Steps.Store.room-there}

state-of-map : (g : ℕ) (ds : List DomainConfig) (dom : DomId) → state_of (map (first_state g) ds) dom.0 ≡ option_map (first_state g) (domain_of ds dom)
state-of-map g [] dom = refl
state-of-map g (d ∷ ds) dom = by (d.id.0 == dom.0) (state-of-map g ds dom) where
  by : (b : Bool) → state_of (map (first_state g) ds) dom.0 ≡ option_map (first_state g) (domain_of ds dom)
      → cond b (Some (first_state g d)) (state_of (map (first_state g) ds) dom.0) ≡ option_map (first_state g) (cond b (Some d) (domain_of ds dom))
  by true e = refl
  by false e = e

-- the domain found has the number, and the property of all domains
domain-found : (P : DomainConfig → Type 0) (ds : List DomainConfig) (dom : DomId) (d : DomainConfig) → All P ds → domain_of ds dom ≡ Some d → (d.id ≡ dom) × P d
domain-found P [] dom d a e = absurd (none-some d e)
domain-found P (x ∷ xs) dom d a e = cond_both (x.id.0 == dom.0) (Some x) (domain_of xs dom) (λ o. o ≡ Some d → (d.id ≡ dom) × P d)
    (λ t k. let same : x ≡ d = same_Some x d k in
    (ap (λ (z : DomainConfig). z.id) (sym same) ∙ ap (λ (n : ℕ). record { 0 = n }) (eqb-true x.id.0 dom.0 t), subst P same (a 0 x (omega arith))))
    (λ t k. domain-found P xs dom d (All-tail P x xs a) k) e

-- the element at an index of a list of one
pub get-replicate : {A : Type 0} (n r : ℕ) (a : A) → slice_get (replicate n a) r ≡ cond (ltb r n) (Some a) None
get-replicate {A} n r a = cond_both (ltb r n) (Some a) None (λ o. slice_get (replicate n a) r ≡ o)
    (λ e. let within : r < n = ltb-true r n e in
    slice_get-get_or (replicate n a) r a (subst (λ (k : ℕ). r < k) (sym (length-replicate n a)) within) ∙ ap (λ (x : A). Some x) (get_or-replicate n r a a within))
    (λ e. let past : n ≤ r = ltb-false r n e in slice_get_past (replicate n a) r (subst (λ (k : ℕ). k ≤ r) (sym (length-replicate n a)) past))

-- rows of entries that are all alike

row-of : {A : Type 0} (of : Option OwnerEntry → A) (row : OwnerEntry) (a : A) (r : ℕ) → of (Some row) ≡ a → of None ≡ a → of (slice_get (replicate ENTRIES row) r) ≡ a
row-of of row a r some none = ap of (get-replicate ENTRIES r row) ∙ cond_both (ltb r ENTRIES) (Some row) None (λ o. of o ≡ a) (λ e. some) (λ e. none)

-- each domain with no open call

abbrev Fine : DomainConfig → Type 0
Fine d = (d.version ≤ LAST_VERSION) × (d.table_frames ≤ MAX_TABLE_FRAMES)

slot-starts : (t n r : ℕ) (slot : PinCounts) → slice_get (replicate n (record { reads = 0; writes = 0; first = 0; second = 0 })) r ≡ Some slot → SlotAgrees [] t r slot
unfolding live body_at
slot-starts t n r slot e =
    cond_both (ltb r n) (Some (record { reads = 0; writes = 0; first = 0; second = 0 })) None (λ o. o ≡ Some slot → SlotAgrees [] t r slot) (λ z k. let same = same_Some (record { reads = 0; writes = 0; first = 0; second = 0 }) slot k in
    subst (SlotAgrees [] t r) same (record { reads = refl; writes = refl; first = refl; second = refl })) (λ z k. absurd (none-some slot k))
    (sym (get-replicate n r (record { reads = 0; writes = 0; first = 0; second = 0 })) ∙ e)

rest-agrees : (s : Setting) (d : DomainConfig) → domain_of s.domains d.id ≡ Some d → Fine d → s.first_generation ≤ LAST_GENERATION → StateStands s [] (first_state s.first_generation d)
unfolding entry_at raises_at live gather maps_answered_at open_call table_at
rest-agrees s d is f le = let g : min s.first_generation LAST_GENERATION ≡ s.first_generation = omega arith in record {
  header = room-there d.version d.table_frames (record { version = f.0; frames = f.1 }) ∙ sym (ap header_from is);
  rows = length-replicate {A = OwnerEntry} ENTRIES (record { entry = Invalid; generation = min s.first_generation LAST_GENERATION });
  entries = fun_ext (λ r. row-of row_entry (record { entry = Invalid; generation = min s.first_generation LAST_GENERATION }) Invalid r refl refl);
  generations = fun_ext (λ r. row-of (row_generation s.first_generation) (record { entry = Invalid; generation = min s.first_generation LAST_GENERATION }) (min s.first_generation LAST_GENERATION) r refl refl ∙ g ∙ (let z : s.first_generation ≡ s.first_generation + 0 = omega arith in z));
  room = length-replicate {A = PinCounts} ENTRIES (record { reads = 0; writes = 0; first = 0; second = 0 });
  slots = λ r slot e. slot-starts d.id.0 ENTRIES r slot e;
  mappings = no-handles;
  call = refl;
  given = given-none [] d.id.0 [] refl;
}

state-starts : (s : Setting) (dom : DomId) (o : Option DomainConfig) → domain_of s.domains dom ≡ o → All Fine s.domains → s.first_generation ≤ LAST_GENERATION
    → StateAgrees s [] dom (option_map (first_state s.first_generation) o)
state-starts s dom None e a le = e
state-starts s dom (Some d) e a le = let f = domain-found Fine s.domains dom d a e in
    (λ none. none-some d (sym none ∙ e), f.0, rest-agrees s d (ap (domain_of s.domains) f.0 ∙ e) f.1 le)

table-starts : (o : Option DomainConfig) → ((d : DomainConfig) → o ≡ Some d → Fine d) → FitsTable (header_from o)
table-starts None f = record { version = omega arith; frames = omega arith }
table-starts (Some d) f = record { version = (f d refl).0; frames = (f d refl).1 }

fine-all : (ds : List DomainConfig) → All (λ d. (1 ≤ d.table_frames) × (d.table_frames ≤ MAX_TABLE_FRAMES)) ds → All (λ d. (1 ≤ d.version) × (d.version ≤ LAST_VERSION)) ds → All Fine ds
fine-all ds a b = λ i d within. (let v = b i d within in (let h : (get_or ds i d).version ≤ LAST_VERSION = v.1 in omega arith), (a i d within).1)

rest-word : (s : Setting) (t r : ℕ) → s.first_generation ≤ LAST_GENERATION → FitsWord (control_at s [] t r)
unfolding entry_at raises_at live
rest-word s t r le = record { in_range = record { reads = omega arith; writes = omega arith; generation = omega arith }; domain = omega arith }

-- a new core represents the empty history
pub starts : (config : Config) (may : TypeId → TypeId → Perms → Bool) → IsWithinLimits config
    → DomainsStand (setting_of config may) [] (map (first_state config.first_gen) config.domains.items)
unfolding entry_at live table_at
starts config may l = let s = setting_of config may in
    let fine : All Fine s.domains = fine-all config.domains.items l.table_frames l.versions in record {
      each = λ dom. subst (λ (o : Option State). StateAgrees s [] dom o) (sym (state-of-map config.first_gen config.domains.items dom)) (state-starts s dom (domain_of s.domains dom) refl fine l.generation);
      tables = λ dom. (table-starts (domain_of s.domains dom) (λ d e. (domain-found Fine s.domains dom d fine e).1));
      words = λ t r within. rest-word s t r l.generation;
      entries = λ t r. tt;
      lawful = All-nil (IsLawfulPin s);
    }
