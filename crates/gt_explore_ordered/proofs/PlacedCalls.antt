-- The place that was found of a line's call is that of the call.
use Rattle.std.proofs.Common.{◌≡◌, ◌∙◌, ◌+◌, ◌<◌, ap, refl, sym, subst, arith, ℕ, zero, suc, Bool, true, false, List, [], ◌∷◌, ◌++◌, map, length, take, Option, Some, None}
use Rattle.std.proofs.lemmas.Bool.{eq-eqb, eqb-true, false≢true}
use Rattle.std.proofs.lemmas.Option.{none-some, same_Some, slice_get-map}
use Rattle.std.proofs.Math.Bool.{cond}
use Rattle.std.specs.List.{position_from}
use Rattle.std.specs.Option.{option_map}
use Rattle.std.specs.Prelude.{◌==◌, ◌≢◌, ◌&&◌, filter, slice_get}
use Rattle.gt_types.specs.Names.{domain_of}
use Rattle.gt_types.specs.declared.DomId.{DomId}
use Rattle.gt_types.specs.declared.config.DomainConfig.{DomainConfig}
use Rattle.gt_script.specs.Lists.{RunTask}
use Rattle.gt_script.specs.Preceding.{is_call}
use Rattle.gt_script.specs.RunContents.{RunContents}
use Rattle.gt_script.specs.RunScripts.{list_of}
use Rattle.gt_explore_replay.proofs.Coming.{mapped_back}
use Rattle.gt_precedence.proofs.Complete.{its-domain}
use Rattle.gt_precedence.proofs.Happenings.{same-dom}
use Rattle.gt_precedence.specs.Precedence.{IsCallOfLine, IsOrderly, calls_before, calls_of, calls_up_to}
use Rattle.gt_explore_ordered.specs.Places.{HasNoCall, IsFirstCall, is_call_of}
use Rattle.gt_explore_ordered.specs.Spaces.{IsCallPlace}
use Rattle.gt_explore_ordered.specs.declared.places.CallPlace.{CallPlace}

-- filtered lists

pub filtered-there : {X : Type 0} (f : X → Bool) (xs : List X) (at : ℕ) (x : X) → slice_get (filter f xs) at ≡ Some x → (f x ≡ true) × ((q : ℕ) × (slice_get xs q ≡ Some x))
filtered-there f [] at x there = absurd (none-some x there)
filtered-there {X} f (y ∷ xs) at x there = by (f y) refl (λ n here. filtered-there f xs n x here) at there
  where
    later : (f x ≡ true) × ((q : ℕ) × (slice_get xs q ≡ Some x)) → (f x ≡ true) × ((q : ℕ) × (slice_get (y ∷ xs) q ≡ Some x))
    later (passes, (q, is)) = (passes, (suc q, is))

    by : (b : Bool) → f y ≡ b → ((n : ℕ) → slice_get (filter f xs) n ≡ Some x → (f x ≡ true) × ((q : ℕ) × (slice_get xs q ≡ Some x))) → (at : ℕ) → slice_get (cond (f y) (y ∷ filter f xs) (filter f xs)) at ≡ Some x → (f x ≡ true) × ((q : ℕ) × (slice_get (y ∷ xs) q ≡ Some x))
    by true e rest zero there =
        let same : y ≡ x = same_Some y x (subst (λ (b : Bool). slice_get (cond b (y ∷ filter f xs) (filter f xs)) 0 ≡ Some x) e there) in
        (ap f (sym same) ∙ e, (0, ap (λ (z : X). Some z) same))
    by true e rest (suc at) there = later (rest at (subst (λ (b : Bool). slice_get (cond b (y ∷ filter f xs) (filter f xs)) (suc at) ≡ Some x) e there))
    by false e rest at there = later (rest at (subst (λ (b : Bool). slice_get (cond b (y ∷ filter f xs) (filter f xs)) at ≡ Some x) e there))

pub filtered-has : {X : Type 0} (f : X → Bool) (xs : List X) (at : ℕ) (x : X) → slice_get xs at ≡ Some x → f x ≡ true → (j : ℕ) × (slice_get (filter f xs) j ≡ Some x)
filtered-has f [] at x there passes = absurd (none-some x there)
filtered-has f (y ∷ xs) zero x there passes =
    let e = subst (λ z. f z ≡ true) (sym (same_Some y x there)) passes in
    (0, subst (λ (b : Bool). slice_get (cond b (y ∷ filter f xs) (filter f xs)) 0 ≡ Some x) (sym e) there)
filtered-has {X} f (y ∷ xs) (suc at) x there passes = by (f y) refl (filtered-has f xs at x there passes)
  where
    by : (b : Bool) → f y ≡ b → (j : ℕ) × (slice_get (filter f xs) j ≡ Some x) → (j : ℕ) × (slice_get (filter f (y ∷ xs)) j ≡ Some x)
    by true e (j, is) = (suc j, subst (λ (b : Bool). slice_get (cond b (y ∷ filter f xs) (filter f xs)) (suc j) ≡ Some x) (sym e) is)
    by false e (j, is) = (j, subst (λ (b : Bool). slice_get (cond b (y ∷ filter f xs) (filter f xs)) j ≡ Some x) (sym e) is)

-- the first call of a line in a list

record FirstCall (line base i : ℕ) (ts : List RunTask) : Type 0 where
  pub n : ℕ
  pub index : i ≡ base + n
  pub task : RunTask
  pub there : slice_get ts n ≡ Some task
  pub number : task.line ≡ line
  pub calls : is_call task.run_action ≡ true
  pub before : calls_up_to line ts ≡ length (calls_of (take n ts))

first-call : (line base i : ℕ) (ts : List RunTask) → position_from (is_call_of line) base ts ≡ Some i → FirstCall line base i ts
first-call line base i [] found = absurd (none-some i found)
first-call line base i (t ∷ ts) found = by (is_call t.run_action) (t.line == line) refl refl found (first-call line (base + 1) i ts)
  where
    skip : (a b : Bool) → is_call t.run_action ≡ a → (t.line == line) ≡ b → (a && b) ≡ false → FirstCall line (base + 1) i ts → FirstCall line base i (t ∷ ts)
    skip a b ea eb none rest = record {
      n = suc rest.n;
      index = let e = rest.index in omega (arith, e);
      task = rest.task;
      there = rest.there;
      number = rest.number;
      calls = rest.calls;
      before = counts a b ea eb none;
    }
      where
        counts : (a b : Bool) → is_call t.run_action ≡ a → (t.line == line) ≡ b → (a && b) ≡ false → calls_up_to line (t ∷ ts) ≡ length (calls_of (t ∷ take rest.n ts))
        counts true true ea eb none = absurd (false≢true (sym none))
        counts true false ea eb none = rw (ea, eb) (ap suc rest.before)
        counts false b ea eb none = rw ea rest.before

    by : (a b : Bool) → is_call t.run_action ≡ a → (t.line == line) ≡ b → position_from (is_call_of line) base (t ∷ ts) ≡ Some i → (position_from (is_call_of line) (base + 1) ts ≡ Some i → FirstCall line (base + 1) i ts) → FirstCall line base i (t ∷ ts)
    by true true ea eb found rest =
        let at : base ≡ i = same_Some base i (rw (ea, eb) at found) in record {
          n = 0;
          index = omega (arith, at);
          task = t;
          there = refl;
          number = eqb-true t.line line eb;
          calls = ea;
          before = rw (ea, eb) refl;
        }
    by true false ea eb found rest = skip true false ea eb refl (rest (rw (ea, eb) at found))
    by false b ea eb found rest = skip false b ea eb refl (rest (rw ea at found))

no-call : (line base : ℕ) (ts : List RunTask) (at : ℕ) (t : RunTask) → position_from (is_call_of line) base ts ≡ None → slice_get ts at ≡ Some t → is_call t.run_action ≡ true → t.line ≡ line → ⊥
no-call line base [] at t none there calls number = none-some t there
no-call line base (u ∷ ts) zero t none there calls number =
    let same : u ≡ t = same_Some u t there in
    let ea : is_call u.run_action ≡ true = ap (λ (z : RunTask). is_call z.run_action) same ∙ calls in
    let eb : (u.line == line) ≡ true = eq-eqb u.line line (ap (λ (z : RunTask). z.line) same ∙ number) in
    none-some base (sym (rw (ea, eb) at none))
no-call line base (u ∷ ts) (suc at) t none there calls number = by (is_call_of line u) refl (λ here. no-call line (base + 1) ts at t here there calls number)
  where
    by : (b : Bool) → is_call_of line u ≡ b → (position_from (is_call_of line) (base + 1) ts ≡ None → ⊥) → ⊥
    by true e rest = none-some base (sym (subst (λ (b : Bool). cond b (Some base) (position_from (is_call_of line) (base + 1) ts) ≡ None) e none))
    by false e rest = rest (subst (λ (b : Bool). cond b (Some base) (position_from (is_call_of line) (base + 1) ts) ≡ None) e none)

-- its place in the script

domain-at : (ds : List DomainConfig) (dom : DomId) → domain_of ds dom ≢ None → (q : ℕ) × (d : DomainConfig) × (slice_get ds q ≡ Some d) × ((d.id.0 == dom.0) ≡ true)
domain-at [] dom known = absurd (known refl)
domain-at (d ∷ ds) dom known = by (d.id.0 == dom.0) refl known (λ here. domain-at ds dom here)
  where
    by : (b : Bool) → (d.id.0 == dom.0) ≡ b → cond b (Some d) (domain_of ds dom) ≢ None → (domain_of ds dom ≢ None → (q : ℕ) × (e : DomainConfig) × (slice_get ds q ≡ Some e) × ((e.id.0 == dom.0) ≡ true)) → (q : ℕ) × (e : DomainConfig) × (slice_get (d ∷ ds) q ≡ Some e) × ((e.id.0 == dom.0) ≡ true)
    by true e known rest = (0, d, refl, e)
    by false e known rest = let (q, f, there, own) = rest known in (suc q, f, there, own)

-- the place is that of the call of this line
pub record IsPlaceOfLine (c : RunContents) (line : ℕ) (p : CallPlace) : Type 0 where
  pub task : RunTask
  pub call : IsCallOfLine c line task
  pub dom : p.dom ≡ task.dom
  pub before : p.before ≡ calls_before c task

module _ (c : RunContents) (line : ℕ) (lists : List (List RunTask)) (are : lists ≡ map (λ (d : DomainConfig). list_of c.tasks d.id) c.head.domains) where
  list-at : (place : ℕ) (tasks : List RunTask) → slice_get lists place ≡ Some tasks → (d : DomainConfig) × (slice_get c.head.domains place ≡ Some d) × (list_of c.tasks d.id ≡ tasks)
  list-at place tasks there = mapped_back (λ (d : DomainConfig). list_of c.tasks d.id) (slice_get c.head.domains place) tasks
      (sym (slice_get-map (λ (d : DomainConfig). list_of c.tasks d.id) c.head.domains place) ∙ ap (λ (l : List (List RunTask)). slice_get l place) (sym are) ∙ there)

  pub placed : (p : CallPlace) → IsFirstCall line lists p → IsCallPlace c p × IsPlaceOfLine c line p
  placed p given =
      let first = given.found in
      let (d, at, list) = list-at p.place given.tasks given.listed in
      let found = first-call line 0 p.index given.tasks first.first in
      let index : p.index ≡ found.n = let e = found.index in omega (arith, e) in
      let task : found.task ≡ first.task = same_Some found.task first.task (sym found.there ∙ ap (slice_get given.tasks) (sym index) ∙ first.there) in
      let own = filtered-there (λ (t : RunTask). t.dom.0 == d.id.0) c.tasks p.index first.task (ap (λ (l : List RunTask). slice_get l p.index) list ∙ first.there) in
      let dom : first.task.dom ≡ d.id = same-dom first.task.dom d.id own.0 in
      let named : d.id ≡ p.dom = sym (first.dom ∙ dom) in
      let mine : list_of c.tasks p.dom ≡ given.tasks = ap (list_of c.tasks) (sym named) ∙ list in
      let calls : is_call first.task.run_action ≡ true = ap (λ (t : RunTask). is_call t.run_action) (sym task) ∙ found.calls in
      let number : first.task.line ≡ line = ap (λ (t : RunTask). t.line) (sym task) ∙ found.number in (
        record {
          domain = d;
          placed = at;
          named = named;
          task = first.task;
          there = ap (λ (l : List RunTask). slice_get l p.index) mine ∙ first.there;
          calls = calls;
          before = first.before ∙ ap (λ (l : List RunTask). length (calls_of (take p.index l))) (sym mine);
        },
        record {
          task = first.task;
          call = record { place = own.1.0; there = own.1.1; number = number; calls = calls };
          dom = first.dom;
          before = first.before ∙ ap (λ (n : ℕ). length (calls_of (take n given.tasks))) index ∙ sym found.before
              ∙ ap (calls_up_to line) (sym mine) ∙ ap (λ (k : DomId). calls_up_to line (list_of c.tasks k)) first.dom ∙ ap (λ (n : ℕ). calls_up_to n (list_of c.tasks first.task.dom)) (sym number);
        },
      )

  pub not-placed : IsOrderly c → HasNoCall line lists → (t : RunTask) → IsCallOfLine c line t → ⊥
  not-placed orderly none t call =
      let (q, d, at, own) = domain-at c.head.domains t.dom (its-domain c orderly line t call) in
      let same : d.id ≡ t.dom = same-dom d.id t.dom own in
      let mine = filtered-has (λ (u : RunTask). u.dom.0 == d.id.0) c.tasks call.place t call.there (eq-eqb t.dom.0 d.id.0 (ap (λ (k : DomId). k.0) (sym same))) in
      let listed : slice_get lists q ≡ Some (list_of c.tasks d.id) =
      ap (λ (l : List (List RunTask)). slice_get l q) are ∙ slice_get-map (λ (e : DomainConfig). list_of c.tasks e.id) c.head.domains q ∙ ap (option_map (λ (e : DomainConfig). list_of c.tasks e.id)) at in
      no-call line 0 (list_of c.tasks d.id) mine.0 t (none q (list_of c.tasks d.id) listed) mine.1 call.calls call.number
