-- What the first fault of a configuration has to do with its limits.
use Rattle.std.proofs.Common.{◌≡◌, ◌≢◌, ⊎_elim, inl, inr, ℕ, zero, suc, ◌+◌, ◌<◌, ◌≤◌, Bool, true, false, nat_le, ◌==◌}
use Rattle.std.proofs.Common.{List, [], ◌∷◌, ◌++◌, length, take, Option, Some, None, AllPairs, get_or, refl, sym, ap}
use Rattle.std.proofs.Common.{◌∙◌, subst, arith}
use Rattle.std.specs.List.{slice_get}
use Rattle.std.specs.Option.{option_or}
use Rattle.std.proofs.lemmas.Bool.{cases_lt}
use Rattle.std.proofs.lemmas.Bool.Decides.{nat_tests}
use Rattle.std.proofs.Math.Nat.{eq-or-lt_of_le}
use Rattle.std.proofs.Math.Seq.{take-append_seam, get_or-append_seam}
use Rattle.std.proofs.lemmas.List.{length-append, length-take, length-take-le, get_or-take, take_all}
use Rattle.std.proofs.lemmas.List.Folds.{list_any_none, list_any_at}
use Rattle.std.proofs.lemmas.Option.{slice_get-get_or, slice_get_within, get_or_from_slice_get, none-some, same_Some}
use Rattle.gt_types.specs.declared.config.Config.{Config}
use Rattle.gt_types.specs.declared.config.DomainConfig.{DomainConfig}
use Rattle.gt_types.specs.declared.config.ConfigFault.{ConfigFault}
use Rattle.gt_types.specs.declared.config.ConfigFault.TheVariants.{NoDomains, TooMany, Id, Repeated, Frames}
use Rattle.gt_types.specs.declared.config.ConfigFault.TheVariants.{TableFrames, Version, Generation}
use Rattle.gt_types.specs.declared.limits.TheConstants.{DOMID_SELF, MAX_DOMAINS, MAX_FRAMES, MAX_TABLE_FRAMES}
use Rattle.gt_types.specs.declared.limits.TheConstants.{LAST_VERSION, LAST_GENERATION}
use Rattle.gt_types.specs.Config.{IsWithinLimits, fault_when, is_out_of_range, is_taken, domain_fault, AreFaultless}
use Rattle.gt_types.specs.Config.{IsFirstDomainFault, IsFirstFault}

-- the domain keeps every limit, given those before it
record Fits (before : List DomainConfig) (d : DomainConfig) : Type 0 where
  room : length before < MAX_DOMAINS
  id : d.id.0 < DOMID_SELF
  fresh : is_taken before d.id ≡ false
  frames : (1 ≤ d.frames) × (d.frames ≤ MAX_FRAMES)
  table_frames : (1 ≤ d.table_frames) × (d.table_frames ≤ MAX_TABLE_FRAMES)
  version : (1 ≤ d.version) × (d.version ≤ LAST_VERSION)

-- six tests in their order

abbrev chain : Bool → ConfigFault → Bool → ConfigFault → Bool → ConfigFault → Bool → ConfigFault → Bool → ConfigFault → Bool → ConfigFault → Option ConfigFault
chain a fa b fb c fc d fd e fe f ff =
    option_or (fault_when a fa) (option_or (fault_when b fb) (option_or (fault_when c fc) (option_or (fault_when d fd) (option_or (fault_when e fe) (fault_when f ff)))))

record AllFalse (a b c d e f : Bool) : Type 0 where
  first : a ≡ false
  second : b ≡ false
  third : c ≡ false
  fourth : d ≡ false
  fifth : e ≡ false
  sixth : f ≡ false

chain-none : (a : Bool) (fa : ConfigFault) (b : Bool) (fb : ConfigFault) (c : Bool) (fc : ConfigFault) (d : Bool) (fd : ConfigFault) (e : Bool) (fe : ConfigFault) (f : Bool) (ff : ConfigFault)
    → chain a fa b fb c fc d fd e fe f ff ≡ None → AllFalse a b c d e f
chain-none true fa b fb c fc d fd e fe f ff is = absurd (none-some fa (sym is))
chain-none false fa true fb c fc d fd e fe f ff is = absurd (none-some fb (sym is))
chain-none false fa false fb true fc d fd e fe f ff is = absurd (none-some fc (sym is))
chain-none false fa false fb false fc true fd e fe f ff is = absurd (none-some fd (sym is))
chain-none false fa false fb false fc false fd true fe f ff is = absurd (none-some fe (sym is))
chain-none false fa false fb false fc false fd false fe true ff is = absurd (none-some ff (sym is))
chain-none false fa false fb false fc false fd false fe false ff is =
    record { first = refl; second = refl; third = refl; fourth = refl; fifth = refl; sixth = refl }

inside : (last n : ℕ) → is_out_of_range last n ≡ false → (1 ≤ n) × (n ≤ last)
inside last n e = (grind (arith, nat_tests), grind (arith, nat_tests))

not-outside : (last n : ℕ) → 1 ≤ n → n ≤ last → is_out_of_range last n ≡ false
not-outside last n a b = grind (arith, nat_tests)

fits : (before : List DomainConfig) (d : DomainConfig) → domain_fault before d ≡ None → Fits before d
unfolding domain_fault
fits before d is =
    let t = chain-none (nat_le MAX_DOMAINS (length before)) (TooMany d.id) (nat_le DOMID_SELF d.id.0) (Id d.id) (is_taken before d.id) (Repeated d.id)
    (is_out_of_range MAX_FRAMES d.frames) (Frames d.id) (is_out_of_range MAX_TABLE_FRAMES d.table_frames) (TableFrames d.id) (is_out_of_range LAST_VERSION d.version) (Version d.id) is in
    let few : nat_le MAX_DOMAINS (length before) ≡ false = t.first in
    let low : nat_le DOMID_SELF d.id.0 ≡ false = t.second in
    record {
      room = grind (arith, nat_tests);
      id = grind (arith, nat_tests);
      fresh = t.third;
      frames = inside MAX_FRAMES d.frames t.fourth;
      table_frames = inside MAX_TABLE_FRAMES d.table_frames t.fifth;
      version = inside LAST_VERSION d.version t.sixth;
    }

skip : (b : Bool) (fault : ConfigFault) (more : Option ConfigFault) → b ≡ false → more ≡ None → option_or (fault_when b fault) more ≡ None
skip true fault more e h = absurd cc
skip false fault more e h = h

skip-last : (b : Bool) (fault : ConfigFault) → b ≡ false → fault_when b fault ≡ None
skip-last true fault e = absurd cc
skip-last false fault e = refl

faultless : (before : List DomainConfig) (d : DomainConfig) → Fits before d → domain_fault before d ≡ None
unfolding domain_fault
faultless before d f =
    let room = f.room in
    let id = f.id in
    skip _ _ _ (let e : nat_le MAX_DOMAINS (length before) ≡ false = grind (arith, nat_tests) in e)
    (skip _ _ _ (let e : nat_le DOMID_SELF d.id.0 ≡ false = grind (arith, nat_tests) in e)
    (skip _ _ _ f.fresh
    (skip _ _ _ (not-outside MAX_FRAMES d.frames f.frames.0 f.frames.1)
    (skip _ _ _ (not-outside MAX_TABLE_FRAMES d.table_frames f.table_frames.0 f.table_frames.1)
    (skip-last _ _ (not-outside LAST_VERSION d.version f.version.0 f.version.1))))))

fits-at : (ds : List DomainConfig) → AreFaultless ds → (k : ℕ) (d : DomainConfig) → k < length ds → Fits (take k ds) (get_or ds k d)
fits-at ds f k d h = fits (take k ds) (get_or ds k d) (f.each k (get_or ds k d) (slice_get-get_or ds k d h))

-- an earlier domain's number is taken
taken : (ds : List DomainConfig) (i j : ℕ) (d : DomainConfig) → i < j → j < length ds → is_taken (take j ds) (get_or ds j d).id ≡ false
    → (get_or ds i d).id.0 ≢ (get_or ds j d).id.0
taken ds i j d i_below j_below fresh same =
    let there : i < length (take j ds) = omega (arith, length-take-le j ds) in
    let here : get_or (take j ds) i d ≡ get_or ds i d = get_or-take j ds i d i_below in
    let p : ((get_or (take j ds) i d).id.0 == (get_or ds j d).id.0) ≡ true = grind (arith, nat_tests, ap (λ (e : DomainConfig). e.id.0) here) in
    let yes : is_taken (take j ds) (get_or ds j d).id ≡ true = list_any_at (λ (e : DomainConfig). e.id.0 == (get_or ds j d).id.0) (take j ds) i d there p in
    cc

few : (ds : List DomainConfig) → AreFaultless ds → length ds ≤ MAX_DOMAINS
few [] f = omega arith
few (d ∷ ds) f =
    let n = length ds in
    let a = (fits-at (d ∷ ds) f n d (omega arith)).room in
    omega (arith, length-take-le n (d ∷ ds))

-- domains without a fault keep the limits
pub within : (c : Config) → 1 ≤ length c.domains.items → AreFaultless c.domains.items → c.first_gen ≤ LAST_GENERATION → IsWithinLimits c
within c some f generation =
    record {
      some = some;
      few = few c.domains.items f;
      ids = λ k d h. (fits-at c.domains.items f k d h).id;
      distinct = λ i j d a b. taken c.domains.items i j d a b (fits-at c.domains.items f j d b).fresh;
      frames = λ k d h. (fits-at c.domains.items f k d h).frames;
      table_frames = λ k d h. (fits-at c.domains.items f k d h).table_frames;
      versions = λ k d h. (fits-at c.domains.items f k d h).version;
      generation = generation;
    }

fresh-within : (ds : List DomainConfig) (at : ℕ) (d : DomainConfig) → AllPairs (λ (a b : DomainConfig). a.id.0 ≢ b.id.0) ds → slice_get ds at ≡ Some d → is_taken (take at ds) d.id ≡ false
fresh-within ds at d distinct there =
    let at_below = slice_get_within ds at d there in
    let here : get_or ds at d ≡ d = get_or_from_slice_get ds at d d there in
    list_any_none (λ (e : DomainConfig). e.id.0 == d.id.0) (take at ds)
    (λ k e h. let k_below : k < at = omega (arith, length-take-le at ds (omega arith)) in
    let same : get_or (take at ds) k e ≡ get_or ds k e = get_or-take at ds k e k_below in
    let other : (get_or ds k e).id.0 ≢ (get_or ds at e).id.0 = distinct k at e k_below at_below in
    let same_id : (get_or (take at ds) k e).id.0 ≡ (get_or ds k e).id.0 = ap (λ (x : DomainConfig). x.id.0) same in
    let at_id : (get_or ds at e).id.0 ≡ d.id.0 = ap (λ (x : DomainConfig). x.id.0) (get_or_from_slice_get ds at d e there) in
    grind (arith, nat_tests))

-- within the limits no domain has a fault
fits-within : (c : Config) → IsWithinLimits c → (at : ℕ) (d : DomainConfig) → slice_get c.domains.items at ≡ Some d → Fits (take at c.domains.items) d
fits-within c w at d there =
    let ds = c.domains.items in
    let below = slice_get_within c.domains.items at d there in
    let here : get_or c.domains.items at d ≡ d = get_or_from_slice_get c.domains.items at d d there in
    let most = w.few in
    record {
      room = omega (arith, length-take-le at c.domains.items);
      id = subst (λ (e : DomainConfig). e.id.0 < DOMID_SELF) here (w.ids at d below);
      fresh = fresh-within c.domains.items at d w.distinct there;
      frames = subst (λ (e : DomainConfig). (1 ≤ e.frames) × (e.frames ≤ MAX_FRAMES)) here (w.frames at d below);
      table_frames = subst (λ (e : DomainConfig). (1 ≤ e.table_frames) × (e.table_frames ≤ MAX_TABLE_FRAMES)) here (w.table_frames at d below);
      version = subst (λ (e : DomainConfig). (1 ≤ e.version) × (e.version ≤ LAST_VERSION)) here (w.versions at d below);
    }

-- a configuration with a fault is not within the limits
pub not-within : (c : Config) (fault : ConfigFault) → IsFirstFault c fault → IsWithinLimits c → ⊥
not-within c fault f w =
    ⊎_elim
    (λ (a : (fault ≡ NoDomains) × (c.domains.items ≡ [])).
    let some = w.some in let none : length c.domains.items ≡ 0 = ap (λ (ds : List DomainConfig). length ds) a.1 in absurd (omega arith))
    (⊎_elim
    (λ (a : IsFirstDomainFault c.domains.items fault).
    none-some fault (sym (faultless (take a.at c.domains.items) a.domain (fits-within c w a.at a.domain a.there)) ∙ a.here))
    (λ (a : (fault ≡ Generation) × (c.domains.items ≢ []) × AreFaultless c.domains.items × (LAST_GENERATION < c.first_gen)).
    let past = a.3 in let most = w.generation in absurd (omega arith)))
    f

-- longer and shorter lists

pub none-yet : AreFaultless []
none-yet = record { each = λ at domain e. absurd (none-some domain e) }

-- a prefix of a prefix
get-take : (ds : List DomainConfig) (n k : ℕ) (e : DomainConfig) → slice_get (take n ds) k ≡ Some e → (k < n) × (k < length ds) × (slice_get ds k ≡ Some e)
get-take ds n k e h =
    let short = slice_get_within (take n ds) k e h in
    let here : get_or (take n ds) k e ≡ e = get_or_from_slice_get (take n ds) k e e h in
    let k_n : k < n = omega (arith, length-take n ds) in
    let k_ds : k < length ds = omega (arith, length-take n ds) in
    (k_n, k_ds, slice_get-get_or ds k e k_ds ∙ ap Some (sym (get_or-take n ds k e k_n) ∙ here))

take-take : (k n : ℕ) (ds : List DomainConfig) → k ≤ n → take k (take n ds) ≡ take k ds
take-take zero n ds h = refl
take-take (suc k) zero ds h = absurd (omega arith)
take-take (suc k) (suc n) [] h = refl
take-take (suc k) (suc n) (d ∷ ds) h = ap (λ (xs : List DomainConfig). d ∷ xs) (take-take k n ds (omega arith))

get-earlier : (ds : List DomainConfig) (n k : ℕ) (e : DomainConfig) → k < n → k < length ds → slice_get ds k ≡ Some e → slice_get (take n ds) k ≡ Some e
get-earlier ds n k e k_n k_ds h =
    slice_get-get_or (take n ds) k e (omega (arith, length-take n ds)) ∙ ap Some (get_or-take n ds k e k_n ∙ get_or_from_slice_get ds k e e h)

-- one more domain without a fault
one-more : (ds : List DomainConfig) (at : ℕ) (d : DomainConfig) → slice_get ds at ≡ Some d → AreFaultless (take at ds) → domain_fault (take at ds) d ≡ None → AreFaultless (take (at + 1) ds)
one-more ds at d there f here = record { each = λ k e h. go k e (get-take ds (at + 1) k e h) }
  where
    go : (k : ℕ) (e : DomainConfig) → (k < at + 1) × (k < length ds) × (slice_get ds k ≡ Some e) → domain_fault (take k (take (at + 1) ds)) e ≡ None
    go k e h =
        let most : k ≤ at + 1 = omega (arith, h.0) in
        ⊎_elim
        (λ (same : k ≡ at).
        let es : e ≡ d = same_Some e d (sym h.2 ∙ ap (slice_get ds) same ∙ there) in
        let t : take k (take (at + 1) ds) ≡ take at ds = take-take k (at + 1) ds most ∙ ap (λ (n : ℕ). take n ds) same in
        ap (λ (xs : List DomainConfig). domain_fault xs e) t ∙ ap (domain_fault (take at ds)) es ∙ here)
        (λ (below : k < at).
        let t : take k (take (at + 1) ds) ≡ take k (take at ds) = take-take k (at + 1) ds most ∙ sym (take-take k at ds (omega arith)) in
        ap (λ (xs : List DomainConfig). domain_fault xs e) t ∙ f.each k e (get-earlier ds at k e below h.1 h.2))
        (eq-or-lt_of_le (let fits : k ≤ at = omega (arith, h.0) in fits))

shown-at : (ds shown : List DomainConfig) (at : ℕ) (other : DomainConfig) → shown ≡ ds → at < length shown → slice_get ds at ≡ Some (get_or shown at other)
shown-at ds shown at other same below = ap (λ (xs : List DomainConfig). slice_get xs at) (sym same) ∙ slice_get-get_or shown at other below

-- the loop stops at the first domain with a fault
pub stops : (c : Config) (at : ℕ) (shown front : List DomainConfig) (other : DomainConfig) (fault : ConfigFault) → shown ≡ c.domains.items → front ≡ c.domains.items → at < length shown
    → AreFaultless (take at c.domains.items) → domain_fault (take at front) (get_or shown at other) ≡ Some fault → IsFirstFault c fault
stops c at shown front other fault s f below so_far here =
    inr (inl (record {
      at = at;
      domain = get_or shown at other;
      there = shown-at c.domains.items shown at other s below;
      earlier = so_far;
      here = ap (λ (xs : List DomainConfig). domain_fault (take at xs) (get_or shown at other)) (sym f) ∙ here;
    }))

-- and otherwise continues
pub goes-on : (c : Config) (at : ℕ) (shown front : List DomainConfig) (other : DomainConfig) → shown ≡ c.domains.items → front ≡ c.domains.items → at < length shown
    → AreFaultless (take at c.domains.items) → domain_fault (take at front) (get_or shown at other) ≡ None → AreFaultless (take (at + 1) c.domains.items)
goes-on c at shown front other s f below so_far here =
    one-more c.domains.items at (get_or shown at other) (shown-at c.domains.items shown at other s below) so_far
    (ap (λ (xs : List DomainConfig). domain_fault (take at xs) (get_or shown at other)) (sym f) ∙ here)

-- the loop has checked all domains
pub ends : (ds : List DomainConfig) (at : ℕ) → length ds ≤ at → AreFaultless (take at ds) → AreFaultless ds
ends ds at past f = subst AreFaultless (take_all at ds past) f

-- one more domain at the end
pub grows : (ds : List DomainConfig) (d : DomainConfig) → AreFaultless ds → domain_fault ds d ≡ None → AreFaultless (ds ++ d ∷ [])
grows ds d f here =
    let n = length ds in
    let whole : take n (ds ++ d ∷ []) ≡ ds = take-append_seam ds (d ∷ []) in
    let there : slice_get (ds ++ d ∷ []) n ≡ Some d =
    slice_get-get_or (ds ++ d ∷ []) n d (omega (arith, length-append ds (d ∷ []))) ∙ ap Some (get_or-append_seam ds d [] d) in
    let more : AreFaultless (take (n + 1) (ds ++ d ∷ [])) =
    one-more (ds ++ d ∷ []) n d there (subst AreFaultless (sym whole) f) (ap (λ (xs : List DomainConfig). domain_fault xs d) whole ∙ here) in
    ends (ds ++ d ∷ []) (n + 1) (omega (arith, length-append ds (d ∷ []))) more

-- there is one first fault

one-place : (ds : List DomainConfig) (f g : ConfigFault) (a : IsFirstDomainFault ds f) (b : IsFirstDomainFault ds g) → a.at < b.at → ⊥
one-place ds f g a b below =
    none-some f (sym (b.earlier.each a.at a.domain (get-earlier ds b.at a.at a.domain below (slice_get_within ds a.at a.domain a.there) a.there))
    ∙ (ap (λ (xs : List DomainConfig). domain_fault xs a.domain) (take-take a.at b.at ds (omega arith)) ∙ a.here))

one-domain-fault : (ds : List DomainConfig) (f g : ConfigFault) → IsFirstDomainFault ds f → IsFirstDomainFault ds g → f ≡ g
one-domain-fault ds f g a b =
    ⊎_elim
    (λ (above : b.at < a.at). absurd (one-place ds g f b a above))
    (λ (le : a.at ≤ b.at). ⊎_elim
    (λ (same : a.at ≡ b.at).
    let d : a.domain ≡ b.domain = same_Some a.domain b.domain (sym a.there ∙ ap (slice_get ds) same ∙ b.there) in
    same_Some f g (sym a.here ∙ ap (λ (n : ℕ). domain_fault (take n ds) a.domain) same ∙ ap (domain_fault (take b.at ds)) d ∙ b.here))
    (λ (below : a.at < b.at). absurd (one-place ds f g a b below))
    (eq-or-lt_of_le le))
    (cases_lt b.at a.at)

none-there : (ds : List DomainConfig) (f : ConfigFault) → ds ≡ [] → IsFirstDomainFault ds f → ⊥
none-there ds f none a = none-some a.domain (ap (λ (xs : List DomainConfig). slice_get xs a.at) (sym none) ∙ a.there)

pub one-fault : (c : Config) (f g : ConfigFault) → IsFirstFault c f → IsFirstFault c g → f ≡ g
one-fault c f g (inl a) (inl b) = a.0 ∙ sym b.0
one-fault c f g (inl a) (inr (inl b)) = absurd (none-there c.domains.items g a.1 b)
one-fault c f g (inl a) (inr (inr b)) = absurd (b.1 a.1)
one-fault c f g (inr (inl a)) (inl b) = absurd (none-there c.domains.items f b.1 a)
one-fault c f g (inr (inl a)) (inr (inl b)) = one-domain-fault c.domains.items f g a b
one-fault c f g (inr (inl a)) (inr (inr b)) = absurd (none-some f (sym (b.2.each a.at a.domain a.there) ∙ a.here))
one-fault c f g (inr (inr a)) (inl b) = absurd (a.1 b.1)
one-fault c f g (inr (inr a)) (inr (inl b)) = absurd (none-some g (sym (a.2.each b.at b.domain b.there) ∙ b.here))
one-fault c f g (inr (inr a)) (inr (inr b)) = a.0 ∙ sym b.0
