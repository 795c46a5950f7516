-- The rule at the start, and when a seat is dealt.
use Rattle.gt_word_history.specs.declared.rule.TheConstants.{DOMAIN_WORDS, ENTRY_WORDS}
use Rattle.std.proofs.Common.{◌≡◌, ◌≢◌, ◌⊎◌, inl, inr, ⊎_elim, ℕ, zero, suc, ◌+◌, ◌*◌, ◌/◌, ◌%◌, ◌<◌, ◌≤◌, Bool}
use Rattle.std.proofs.Common.{false, cond, ◌==◌, List, [], ◌∷◌, ◌++◌, map, length, get_or, set, sym, refl, ap, ◌∙◌}
use Rattle.std.proofs.Common.{subst, arith, length-append, eq-eqb, ne_eqb, All, length-set}
use mathlib.Core.Option.{some, some-injective, some-ne-none}
use mathlib.Core.List.{map-append}
use lib.ListN.{get_elem?}
use lib.Seq.{map-set}
use Rattle.atomic_table.specs.Table.{opening, Splits}
use Rattle.atomic_table.proofs.Lists.{at_set, at_snoc, set_again, at_map}
use Rattle.gt_model.specs.Spelling.{word_of}
use Rattle.gt_model.specs.Words.{header_word}
use Rattle.gt_types.specs.declared.Dir.{Dir}
use Rattle.gt_types.specs.declared.Dir.TheVariants.{Read, Write}
use Rattle.gt_types.specs.declared.config.DomainConfig.{DomainConfig}
use Rattle.gt_types.specs.declared.limits.TheConstants.{LAST_VERSION, MAX_TABLE_FRAMES, TABLE_ENTRIES}
use Rattle.gt_word_history.proofs.Order.{leads_from, leads_to_more, new_index}
use Rattle.gt_word_history.specs.History.{initial}
use Rattle.gt_word_history.specs.Controls.{generation_of}
use Rattle.gt_word_history.specs.Places.{dealer_after, dealt_to, new_view}
use Rattle.gt_word_history.specs.Rule.{HasGoneOn, IsHeader, Layout, Shows, ShowsEntry, ShowsRecord, first_header}
use Rattle.gt_word_history.specs.Rule.{header_now, header_place, owner_steps, place, total_pins, total_until}
use Rattle.gt_word_history.specs.Views.{IsAmong, earlier_records, exchanged, last_record, own, pin_count, live_pins}
use Rattle.gt_word_history.specs.Views.{pins_until, steps_on, steps_on_header, stored_body, stored_header}
use Rattle.gt_word_history.specs.declared.view.EntryStep.{EntryStep}
use Rattle.gt_model.specs.declared.change.BodyWord.TheVariants.{First, Second}
use Rattle.gt_word_history.specs.declared.view.HeaderStep.{HeaderStep}
use Rattle.gt_word_history.specs.declared.view.EntryRecord.{EntryRecord}
use Rattle.gt_word_history.specs.declared.view.View.{View}

nothing_at : {A : Type 0} (t : ℕ) → get_or {A = List A} ([] ∷ []) t [] ≡ []
nothing_at zero = refl
nothing_at (suc t) = refl

alone_at : {A : Type 0} (i : ℕ) (h : List A) → get_elem? ([] ∷ []) i ≡ some h → h ≡ []
alone_at zero h e = sym (some-injective [] h e)
alone_at (suc i) h e = absurd (some-ne-none h (sym e))

-- an entry at the start
entry_opens : (g t : ℕ) → g < 1048576 → (word a b : ℕ) → word ≡ 17592186044416 * g → a ≡ 0 → b ≡ 0 → ShowsEntry g t word a b ([] ∷ [])
entry_opens g t small word a b w p q = subst (λ (ms : List EntryStep). ShowsRecord (last_record g ms) (earlier_records g ms) word a b ([] ∷ []) → a ≡ stored_body First ms → b ≡ stored_body Second ms → ((e : ℕ) → IsAmong e (exchanged ms) → HasGoneOn (last_record g ms) ([] ∷ []) e) → ShowsEntry g t word a b ([] ∷ [])) (nothing_at t) (λ k f s u. record { record_shown = k; first = f; second = s; gone_on = u }) record {
  spelled = omega arith;
  in_range = (omega arith, omega arith);
  body = tt;
  lawful = ((tt, small), refl);
  unwritten = λ _. refl;
  pinned = λ i h at z y. absurd (subst (λ (ms : List EntryStep). IsAmong z (live_pins ms)) (alone_at i h at) y);
} p q (λ e is. absurd is)

initial_here : (k : Layout) (t r j : ℕ) → r < TABLE_ENTRIES → j < 3 → initial k (place t r j) ≡ cond (j == 0) (17592186044416 * k.first) 0
initial_here k t r j rn jn = let p : place t r j % DOMAIN_WORDS ≡ ENTRY_WORDS * r + (ENTRY_WORDS + j) = omega arith in let q : (place t r j % DOMAIN_WORDS == 0) ≡ false = ne_eqb _ 0 (λ e. omega arith) in
    ap (λ (c : Bool). cond c (get_or k.headers (place t r j / DOMAIN_WORDS) 0) (cond (place t r j % DOMAIN_WORDS % ENTRY_WORDS == 0) (17592186044416 * k.first) 0)) q ∙ ap (λ (c : Bool). cond c (17592186044416 * k.first) 0) (turn j jn (place t r j % DOMAIN_WORDS) p)
  where
    turn : (j : ℕ) → j < 3 → (n : ℕ) → n ≡ ENTRY_WORDS * r + (ENTRY_WORDS + j) → (n % ENTRY_WORDS == 0) ≡ (j == 0)
    turn zero h n e = eq-eqb (n % ENTRY_WORDS) 0 (omega arith)
    turn (suc zero) h n e = ne_eqb (n % ENTRY_WORDS) 0 (λ f. omega arith)
    turn (suc (suc zero)) h n e = ne_eqb (n % ENTRY_WORDS) 0 (λ f. omega arith)
    turn (suc (suc (suc m))) h n e = absurd (omega arith)

initial_header : (k : Layout) (t : ℕ) → initial k (header_place t) ≡ get_or k.headers t 0
initial_header k t = let p : header_place t % DOMAIN_WORDS ≡ 0 = omega arith in let q : header_place t / DOMAIN_WORDS ≡ t = omega arith in
    ap (λ (c : Bool). cond c (get_or k.headers (header_place t / DOMAIN_WORDS) 0) (cond (header_place t % DOMAIN_WORDS % ENTRY_WORDS == 0) (17592186044416 * k.first) 0)) (eq-eqb _ 0 p) ∙ ap (λ (i : ℕ). get_or k.headers i 0) q

pub opens : {S : Type 0} (k : Layout) (ws : List ℕ) → length ws ≡ k.domains * DOMAIN_WORDS → 0 < k.domains → k.first < 1048576 → ((t : ℕ) → t < k.domains → IsHeader (get_or k.headers t 0)) → ((i : ℕ) → i < k.domains * DOMAIN_WORDS → get_or ws i 0 ≡ initial k i)
    → Shows {S = S} k (opening ws [] (new_view k.first k.headers k.ids 0))
opens k ws wide some_domain small headers is = record {
  history = [];
  stood = tt;
  now = record {
    wide = wide;
    dealt = ((λ v e. ap (λ (z : View). z.dealt) (sym (some-injective _ v e))), omega arith, omega arith);
    seats = one;
    entries = λ t r tn rn. entry_opens k.first t small _ _ _ (is (place t r 0) (omega arith) ∙ initial_here k t r 0 rn (omega arith)) (is (place t r 1) (omega arith) ∙ initial_here k t r 1 rn (omega arith)) (is (place t r 2) (omega arith) ∙ initial_here k t r 2 rn (omega arith));
    headers = λ t tn. let e : get_or ws (header_place t) 0 ≡ get_or k.headers t 0 = is (header_place t) (omega arith) ∙ initial_header k t in
        (e ∙ ap (stored_header (get_or k.headers t 0)) (sym (nothing_at t)), subst IsHeader (sym e) (headers t tn));
    led_here = leads_from k ws is;
  };
}
  where
    one : (j : ℕ) (v : View) → get_elem? (new_view k.first k.headers k.ids 0 ∷ []) j ≡ some v → (v.position ≡ j) × (v.first ≡ k.first) × (v.headers ≡ k.headers)
    one zero v e = (ap (λ (z : View). z.position) (sym (some-injective _ v e)), ap (λ (z : View). z.first) (sym (some-injective _ v e)), ap (λ (z : View). z.headers) (sym (some-injective _ v e)))
    one (suc j) v e = absurd (some-ne-none v (sym e))

-- the history is empty then
pub opens_empty : (S : Type 0) (k : Layout) (ws : List ℕ) (wide : length ws ≡ k.domains * DOMAIN_WORDS) (some_domain : 0 < k.domains) (small : k.first < 1048576) (headers : (t : ℕ) → t < k.domains → IsHeader (get_or k.headers t 0))
    (is : (i : ℕ) → i < k.domains * DOMAIN_WORDS → get_or ws i 0 ≡ initial k i) → (opens {S = S} k ws wide some_domain small headers is).history ≡ []
unfolding opens
opens_empty S k ws wide some_domain small headers is = refl

-- a seat is dealt

nothing_more : {A : Type 0} (hs : List (List A)) (t : ℕ) → get_or (hs ++ [] ∷ []) t [] ≡ get_or hs t []
nothing_more [] zero = refl
nothing_more [] (suc t) = refl
nothing_more (x ∷ xs) zero = refl
nothing_more (x ∷ xs) (suc t) = nothing_more xs t

held_more : (d : Dir) (hs : List (List EntryStep)) → total_pins d (hs ++ [] ∷ []) ≡ total_pins d hs
held_more d [] = refl
held_more d (h ∷ hs) = ap (λ (n : ℕ). pin_count d (live_pins h) + n) (held_more d hs)

until_more : (d : Dir) (g : ℕ) (hs : List (List EntryStep)) → total_until d g (hs ++ [] ∷ []) ≡ total_until d g hs
until_more d g [] = refl
until_more d g (h ∷ hs) = ap (λ (n : ℕ). pins_until d g (live_pins h) + n) (until_more d g hs)

gone_more : (x : EntryRecord) (hs : List (List EntryStep)) (e : ℕ) → HasGoneOn x hs e → HasGoneOn x (hs ++ [] ∷ []) e
gone_more x hs e k = record {
  not_later = k.not_later;
  earlier = k.earlier;
  left = λ d. let l = k.left d in let s = until_more d (generation_of e) hs in omega arith;
}

entry_more : (g t word a b : ℕ) (hs : List (List EntryStep)) → ShowsEntry g t word a b hs → ShowsEntry g t word a b (hs ++ [] ∷ [])
entry_more g t word a b hs k = let same = nothing_more hs t in
    subst (λ (ms : List EntryStep). ShowsRecord (last_record g ms) (earlier_records g ms) word a b (hs ++ [] ∷ []) → a ≡ stored_body First ms → b ≡ stored_body Second ms → ((e : ℕ) → IsAmong e (exchanged ms) → HasGoneOn (last_record g ms) (hs ++ [] ∷ []) e) → ShowsEntry g t word a b (hs ++ [] ∷ [])) same (λ x f s u. record { record_shown = x; first = f; second = s; gone_on = u })
    record {
      spelled = k.record_shown.spelled ∙ sym (λ i. word_of (last_record g (owner_steps t hs)).entry (last_record g (owner_steps t hs)).generation (held_more Read hs i) (held_more Write hs i));
      in_range = (let r = held_more Read hs in let f = k.record_shown.in_range.0 in omega arith, let w = held_more Write hs in let f = k.record_shown.in_range.1 in omega arith);
      body = k.record_shown.body;
      lawful = k.record_shown.lawful;
      unwritten = λ n. held_more Write hs ∙ k.record_shown.unwritten n;
      pinned = λ i h at p y. ⊎_elim (λ (e : get_elem? hs i ≡ some h). k.record_shown.pinned i h e p y) (λ (e : [] ≡ h). absurd (subst (λ (ms : List EntryStep). IsAmong p (live_pins ms)) (sym e) y)) (at_snoc hs [] h i at);
    } k.first k.second (λ e is. gone_more (last_record g (owner_steps t hs)) hs e (k.gone_on e is))

in_front : {A : Type 0} (l m : List A) (b : A) → 0 < length l → get_elem? (l ++ m) 0 ≡ some b → get_elem? l 0 ≡ some b
in_front [] m b h e = absurd (omega arith)
in_front (x ∷ xs) m b h e = e

pub deals : {S : Type 0} (k : Layout) (id : ℕ) (v : View) → v.position ≡ 0 → v.dealt < k.domains → Splits (Shows {S = S} k) id v (dealer_after v) (dealt_to v)
deals k id v own room s shown at = let is = shown.now.seats id v at in let zero_is : id ≡ 0 = sym is.0 ∙ own in let u : View = dealer_after v in let vs : List View = set s.views id u in
    let front : get_elem? s.views 0 ≡ some v = subst (λ (i : ℕ). get_elem? s.views i ≡ some v) zero_is at in let n : v.dealt ≡ length s.views = shown.now.dealt.0 v front in let len : length vs ≡ length s.views = length-set s.views id u in
    let long : length (vs ++ dealt_to v ∷ []) ≡ length vs + 1 = length-append vs (dealt_to v ∷ []) in
    record {
      history = shown.history;
      stood = shown.stood;
      now = record {
        wide = shown.now.wide;
        dealt = (
          (λ w e. ⊎_elim (λ (q : (0 ≡ id) × (u ≡ w)). ap (λ (z : View). z.dealt) (sym q.1) ∙ (let d : v.dealt + 1 ≡ length (vs ++ dealt_to v ∷ []) = omega arith in d)) (λ (q : (0 ≢ id) × (get_elem? s.views 0 ≡ some w)). absurd (q.0 (sym zero_is)))
              (at_set s.views id 0 u w (in_front vs (dealt_to v ∷ []) w (let p = shown.now.dealt.2 in omega arith) e))),
          omega arith,
          omega arith,
        );
        seats = λ j w e. ⊎_elim (λ (f : get_elem? vs j ≡ some w). ⊎_elim (λ (q : (j ≡ id) × (u ≡ w)). (ap (λ (z : View). z.position) (sym q.1) ∙ (is.0 ∙ sym q.0), ap (λ (z : View). z.first) (sym q.1) ∙ is.1, ap (λ (z : View). z.headers) (sym q.1) ∙ is.2)) (λ (q : (j ≢ id) × (get_elem? s.views j ≡ some w)). shown.now.seats j w q.1) (at_set s.views id j u w f))
            (λ (f : (dealt_to v ≡ w) × (j ≡ length vs)). (ap (λ (z : View). z.position) (sym f.0) ∙ (n ∙ (sym len ∙ sym f.1)), ap (λ (z : View). z.first) (sym f.0) ∙ is.1, ap (λ (z : View). z.headers) (sym f.0) ∙ is.2)) (new_index vs (dealt_to v) w j e);
        entries = λ t r tn rn. let hs : List (List EntryStep) = map (steps_on t r) s.views in
            let q : map (steps_on t r) (vs ++ dealt_to v ∷ []) ≡ hs ++ [] ∷ [] = map-append (steps_on t r) vs (dealt_to v ∷ []) ∙ ap (λ (l : List (List EntryStep)). l ++ [] ∷ []) (map-set (steps_on t r) s.views id u ∙ set_again hs id (steps_on t r v) (at_map (steps_on t r) s.views id v at)) in
            subst (ShowsEntry k.first t (get_or s.words (place t r 0) 0) (get_or s.words (place t r 1) 0) (get_or s.words (place t r 2) 0)) (sym q) (entry_more k.first t _ _ _ hs (shown.now.entries t r tn rn));
        headers = λ t tn. let hs : List (List HeaderStep) = map (steps_on_header t) s.views in let h = shown.now.headers t tn in
            let q : map (steps_on_header t) (vs ++ dealt_to v ∷ []) ≡ hs ++ [] ∷ [] = map-append (steps_on_header t) vs (dealt_to v ∷ []) ∙ ap (λ (l : List (List HeaderStep)). l ++ [] ∷ []) (map-set (steps_on_header t) s.views id u ∙ set_again hs id (steps_on_header t v) (at_map (steps_on_header t) s.views id v at)) in
            (h.0 ∙ sym (ap (header_now k t) q ∙ ap (stored_header (get_or k.headers t 0)) (nothing_more hs t)), h.1);
        led_here = leads_to_more k s id v shown.history at shown.now.led_here;
      };
    }

-- the first headers are headers
pub headers_ok : (ds : List DomainConfig) → All (λ d. (1 ≤ d.table_frames) × (d.table_frames ≤ MAX_TABLE_FRAMES)) ds → All (λ d. (1 ≤ d.version) × (d.version ≤ LAST_VERSION)) ds → (t : ℕ) → t < length ds
    → IsHeader (get_or (map (λ d. header_word (first_header d)) ds) t 0)
headers_ok [] f h t l = absurd (omega arith)
headers_ok (d ∷ ds) f h zero l = let x = h 0 d (omega arith) in let y = f 0 d (omega arith) in let a = x.0 in let b = x.1 in (first_header d, record { version = version d.version a (omega arith); some = y.0; few = y.1 }, refl)
  where
    version : (n : ℕ) → 0 < n → n ≤ 2 → (n ≡ 1) ⊎ (n ≡ 2)
    version zero a b = absurd (omega arith)
    version (suc zero) a b = inl refl
    version (suc (suc zero)) a b = inr refl
    version (suc (suc (suc n))) a b = absurd (omega arith)
headers_ok (d ∷ ds) f h (suc t) l = headers_ok ds (λ k e m. f (suc k) e (omega arith)) (λ k e m. h (suc k) e (omega arith)) t (omega arith)
