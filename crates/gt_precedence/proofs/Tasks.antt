-- The tasks of a script with one more flag: what a domain's list then is, and which calls come before the new tasks.
use Rattle.std.proofs.Common.{◌≡◌, ◌≢◌, ◌<◌, ℕ, zero, suc, Bool, true, false, cond, List, [], ◌∷◌, ◌++◌, length}
use Rattle.std.proofs.Common.{Some, inl, inr, refl, ap, sym, ◌∙◌, subst, arith, append_assoc}
use Rattle.std.proofs.lemmas.Bool.{eq-eqb, ne_eqb, eqb-true}
use Rattle.std.proofs.lemmas.List.Concat.{flat_map-append}
use Rattle.std.proofs.lemmas.List.Elements.{filter-append, recursion_from_All}
use Rattle.std.proofs.lemmas.Option.{none-some, same_Some}
use Rattle.std.specs.List.{AllByRecursion, flat_map}
use Rattle.std.specs.Prelude.{◌==◌, AllPairs, slice_get}
use Rattle.gt_precedence.specs.Prelude.{DomId, RunAction, RunTask, Do, Tell, Await, is_call, beside_call, list_of}
use Rattle.gt_precedence.specs.Prelude.{IsBelow, Precedence, around, with_precedence}
use Rattle.gt_precedence.specs.Precedence.{calls_of, calls_up_to}
use Rattle.gt_precedence.proofs.Happenings.{filters-swap, same-dom}
use Rattle.gt_precedence.proofs.Following.{Raises, names_flag, without_flag}

-- the task that raises a flag behind a call, and the one that awaits it before a call
abbrev pub tell_behind : ℕ → RunTask → RunTask
tell_behind F t = record { line = t.line; dom = t.dom; run_action = Tell F }

abbrev pub await_before : ℕ → RunTask → RunTask
await_before F t = record { line = t.line; dom = t.dom; run_action = Await F }

abbrev pub one_if : Bool → RunTask → List RunTask
one_if b t = cond b (t ∷ []) []

-- the script without the new flag

unflagged-more : (F : ℕ) (t : RunTask) (rest : List RunTask) → names_flag F t.run_action ≡ false → without_flag F (t ∷ rest) ≡ t ∷ without_flag F rest
unflagged-more F t rest e = rw e refl

unflagged-new : (F : ℕ) (t : RunTask) (rest : List RunTask) → t.run_action ≡ Tell F → without_flag F (t ∷ rest) ≡ without_flag F rest
unflagged-new F t rest e = rw (e, eq-eqb F F refl) refl

unflagged-wait : (F : ℕ) (t : RunTask) (rest : List RunTask) → t.run_action ≡ Await F → without_flag F (t ∷ rest) ≡ without_flag F rest
unflagged-wait F t rest e = rw (e, eq-eqb F F refl) refl

unflagged-one : (F : ℕ) (p : Precedence) (line : ℕ) (k : DomId) (a : RunAction) (rest : List RunTask) → IsBelow F a
    → without_flag F (around F p (record { line = line; dom = k; run_action = a }) ++ rest) ≡ record { line = line; dom = k; run_action = a } ∷ without_flag F rest
unflagged-one F p line k (Tell flag) rest below = unflagged-more F (record { line = line; dom = k; run_action = Tell flag }) rest (ne_eqb flag F (λ e. omega (arith, below, e)))
unflagged-one F p line k (Await flag) rest below = unflagged-more F (record { line = line; dom = k; run_action = Await flag }) rest (ne_eqb flag F (λ e. omega (arith, below, e)))
unflagged-one F p line k (Do call) rest below = by (line == p.second) (line == p.first) where
  by : (s f : Bool) → without_flag F ((one_if s (await_before F (record { line = line; dom = k; run_action = Do call })) ++ record { line = line; dom = k; run_action = Do call } ∷ one_if f (tell_behind F (record { line = line; dom = k; run_action = Do call }))) ++ rest)
      ≡ record { line = line; dom = k; run_action = Do call } ∷ without_flag F rest
  by true true = unflagged-wait F (await_before F (record { line = line; dom = k; run_action = Do call })) (record { line = line; dom = k; run_action = Do call } ∷ (tell_behind F (record { line = line; dom = k; run_action = Do call }) ∷ rest)) refl
      ∙ ap (λ (l : List RunTask). record { line = line; dom = k; run_action = Do call } ∷ l) (unflagged-new F (tell_behind F (record { line = line; dom = k; run_action = Do call })) rest refl)
  by true false = unflagged-wait F (await_before F (record { line = line; dom = k; run_action = Do call })) (record { line = line; dom = k; run_action = Do call } ∷ rest) refl
  by false true = ap (λ (l : List RunTask). record { line = line; dom = k; run_action = Do call } ∷ l) (unflagged-new F (tell_behind F (record { line = line; dom = k; run_action = Do call })) rest refl)
  by false false = refl

pub unflagged : (F : ℕ) (p : Precedence) (ts : List RunTask) → AllByRecursion (λ t. IsBelow F t.run_action) ts → without_flag F (with_precedence F p ts) ≡ ts
unflagged F p [] numbered = refl
unflagged F p (t ∷ ts) numbered = unflagged-one F p t.line t.dom t.run_action (with_precedence F p ts) numbered.0 ∙ ap (λ (l : List RunTask). t ∷ l) (unflagged F p ts numbered.1)

-- calls

-- the tasks that come from one have its call and no other
abbrev pub KeepsCalls : (RunTask → List RunTask) → Type 0
KeepsCalls g = (t : RunTask) → calls_of (g t) ≡ calls_of (t ∷ [])

pub calls-kept : (g : RunTask → List RunTask) (ts : List RunTask) → KeepsCalls g → calls_of (flat_map g ts) ≡ calls_of ts
calls-kept g [] keeps = refl
calls-kept g (t ∷ ts) keeps =
    filter-append (λ (u : RunTask). is_call u.run_action) (g t) (flat_map g ts) ∙ ap (λ (l : List RunTask). l ++ calls_of (flat_map g ts)) (keeps t) ∙ ap (λ (l : List RunTask). calls_of (t ∷ []) ++ l) (calls-kept g ts keeps)
    ∙ sym (filter-append (λ (u : RunTask). is_call u.run_action) (t ∷ []) ts)

pub own-calls-kept : (g : RunTask → List RunTask) (ts : List RunTask) (d : DomId) → KeepsCalls g → calls_of (list_of (flat_map g ts) d) ≡ calls_of (list_of ts d)
own-calls-kept g ts d keeps =
    filters-swap (λ (t : RunTask). is_call t.run_action) (λ (t : RunTask). t.dom.0 == d.0) (flat_map g ts) ∙ ap (λ (l : List RunTask). list_of l d) (calls-kept g ts keeps)
    ∙ filters-swap (λ (t : RunTask). t.dom.0 == d.0) (λ (t : RunTask). is_call t.run_action) ts

-- tasks with the one new task, and with the other
abbrev pub with_tell : ℕ → ℕ → RunTask → List RunTask
with_tell F line t = t ∷ beside_call line (Tell F) t

abbrev pub with_await : ℕ → ℕ → RunTask → List RunTask
with_await F line t = beside_call line (Await F) t ++ t ∷ []

tell-keeps-by : (F line n : ℕ) (k : DomId) (a : RunAction) → calls_of (with_tell F line (record { line = n; dom = k; run_action = a })) ≡ calls_of (record { line = n; dom = k; run_action = a } ∷ [])
tell-keeps-by F line n k (Tell flag) = refl
tell-keeps-by F line n k (Await flag) = refl
tell-keeps-by F line n k (Do call) = by (n == line) where
  by : (b : Bool) → calls_of (record { line = n; dom = k; run_action = Do call } ∷ one_if b (record { line = n; dom = k; run_action = Tell F })) ≡ record { line = n; dom = k; run_action = Do call } ∷ []
  by true = refl
  by false = refl

pub tell-keeps : (F line : ℕ) → KeepsCalls (with_tell F line)
tell-keeps F line = λ t. tell-keeps-by F line t.line t.dom t.run_action

around-keeps-by : (F : ℕ) (p : Precedence) (n : ℕ) (k : DomId) (a : RunAction) → calls_of (around F p (record { line = n; dom = k; run_action = a })) ≡ calls_of (record { line = n; dom = k; run_action = a } ∷ [])
around-keeps-by F p n k (Tell flag) = refl
around-keeps-by F p n k (Await flag) = refl
around-keeps-by F p n k (Do call) = by (n == p.second) (n == p.first) where
  by : (s f : Bool) → calls_of (one_if s (record { line = n; dom = k; run_action = Await F }) ++ record { line = n; dom = k; run_action = Do call } ∷ one_if f (record { line = n; dom = k; run_action = Tell F })) ≡ record { line = n; dom = k; run_action = Do call } ∷ []
  by true true = refl
  by true false = refl
  by false true = refl
  by false false = refl

pub around-keeps : (F : ℕ) (p : Precedence) → KeepsCalls (around F p)
around-keeps F p = λ t. around-keeps-by F p t.line t.dom t.run_action

-- the new task that awaits comes right before the call
around-by : (F : ℕ) (p : Precedence) (n : ℕ) (k : DomId) (a : RunAction) → is_call a ≡ true → n ≡ p.second
    → around F p (record { line = n; dom = k; run_action = a }) ≡ record { line = n; dom = k; run_action = Await F } ∷ (record { line = n; dom = k; run_action = a } ∷ beside_call p.first (Tell F) (record { line = n; dom = k; run_action = a }))
around-by F p n k (Tell flag) calls same = absurd (cc)
around-by F p n k (Await flag) calls same = absurd (cc)
around-by F p n k (Do call) calls same = rw (eq-eqb n p.second same) refl

pub around-second : (F : ℕ) (p : Precedence) (t : RunTask) → is_call t.run_action ≡ true → t.line ≡ p.second → around F p t ≡ await_before F t ∷ (t ∷ beside_call p.first (Tell F) t)
around-second F p t calls same = around-by F p t.line t.dom t.run_action calls same

-- both new tasks, one after the other
twice-by : (F : ℕ) (p : Precedence) (n : ℕ) (k : DomId) (a : RunAction) (rest : List RunTask)
    → around F p (record { line = n; dom = k; run_action = a }) ++ flat_map (with_await F p.second) rest ≡ flat_map (with_await F p.second) (with_tell F p.first (record { line = n; dom = k; run_action = a }) ++ rest)
twice-by F p n k (Tell flag) rest = refl
twice-by F p n k (Await flag) rest = refl
twice-by F p n k (Do call) rest = by (n == p.first) where
  by : (f : Bool) → (one_if (n == p.second) (record { line = n; dom = k; run_action = Await F }) ++ record { line = n; dom = k; run_action = Do call } ∷ one_if f (record { line = n; dom = k; run_action = Tell F })) ++ flat_map (with_await F p.second) rest
      ≡ flat_map (with_await F p.second) ((record { line = n; dom = k; run_action = Do call } ∷ one_if f (record { line = n; dom = k; run_action = Tell F })) ++ rest)
  by true = append_assoc (one_if (n == p.second) (record { line = n; dom = k; run_action = Await F })) _ _ ∙ sym (append_assoc (one_if (n == p.second) (record { line = n; dom = k; run_action = Await F })) _ _)
  by false = refl

pub both-new : (F : ℕ) (p : Precedence) (ts : List RunTask) → with_precedence F p ts ≡ flat_map (with_await F p.second) (flat_map (with_tell F p.first) ts)
both-new F p [] = refl
both-new F p (t ∷ ts) = ap (λ (l : List RunTask). around F p t ++ l) (both-new F p ts) ∙ twice-by F p t.line t.dom t.run_action (flat_map (with_tell F p.first) ts)

-- the call of a line

-- none of the tasks is a call of this line
abbrev pub Free : ℕ → List RunTask → Type 0
Free line [] = Unit {0}
Free line (t ∷ ts) = (is_call t.run_action ≡ true → t.line ≢ line) × Free line ts

-- the one call of a line among these tasks: none before it and none behind it is on that line
pub record OnlyCall (tasks : List RunTask) (line : ℕ) (t : RunTask) : Type 0 where
  pub front : List RunTask
  pub back : List RunTask
  pub parts : tasks ≡ front ++ t ∷ back
  pub before : Free line front
  pub behind : Free line back

abbrev pub ApartByRecursion : List RunTask → Type 0
ApartByRecursion [] = Unit {0}
ApartByRecursion (t ∷ ts) = AllByRecursion (λ u. t.line ≢ u.line) ts × ApartByRecursion ts

pub apart : (ts : List RunTask) → AllPairs (λ t u. t.line ≢ u.line) ts → ApartByRecursion ts
apart [] pairs = tt
apart (t ∷ ts) pairs = (
  recursion_from_All (λ u. t.line ≢ u.line) ts (λ k d lt. pairs zero (suc k) d (omega arith) (omega (arith, lt))),
  apart ts (λ i j d lt in-range. pairs (suc i) (suc j) d (omega (arith, lt)) (omega (arith, in-range))),
)

-- what holds of all calls holds of this one
of-call : (P : RunTask → Type 0) (ts : List RunTask) (place : ℕ) (t : RunTask) → AllByRecursion P (calls_of ts) → slice_get ts place ≡ Some t → is_call t.run_action ≡ true → P t
of-call P [] place t all there calls = absurd (none-some _ there)
of-call P (w ∷ ts) zero t all there calls = let same : w ≡ t = same_Some w t there in let yes' : is_call w.run_action ≡ true = ap (λ (z : RunTask). is_call z.run_action) same ∙ calls in
    subst P same (let more : AllByRecursion P (w ∷ calls_of ts) = rw yes' at all in more.0)
of-call P (w ∷ ts) (suc place) t all there calls = by (is_call w.run_action) all (λ rest. of-call P ts place t rest there calls) where
  by : (b : Bool) → AllByRecursion P (cond b (w ∷ calls_of ts) (calls_of ts)) → (AllByRecursion P (calls_of ts) → P t) → P t
  by true all rest = rest all.1
  by false all rest = rest all

free-by : (line : ℕ) (ts : List RunTask) → AllByRecursion (λ u. line ≢ u.line) (calls_of ts) → Free line ts
free-by line [] all = tt
free-by line (w ∷ ts) all = by (is_call w.run_action) all (λ rest. free-by line ts rest) where
  by : (b : Bool) → AllByRecursion (λ u. line ≢ u.line) (cond b (w ∷ calls_of ts) (calls_of ts)) → (AllByRecursion (λ u. line ≢ u.line) (calls_of ts) → Free line ts) → (b ≡ true → w.line ≢ line) × Free line ts
  by true all rest = (λ is same. all.0 (sym same), rest all.1)
  by false all rest = (λ is. absurd (cc), rest all)

pub only-call : (ts : List RunTask) (place line : ℕ) (t : RunTask) → ApartByRecursion (calls_of ts) → slice_get ts place ≡ Some t → t.line ≡ line → is_call t.run_action ≡ true → OnlyCall ts line t
only-call [] place line t apart there number calls = absurd (none-some _ there)
only-call (w ∷ ts) zero line t apart there number calls =
    let same : w ≡ t = same_Some w t there in let yes' : is_call w.run_action ≡ true = ap (λ (z : RunTask). is_call z.run_action) same ∙ calls in
    let all : ApartByRecursion (w ∷ calls_of ts) = rw yes' at apart in record {
      front = [];
      back = ts;
      parts = ap (λ (z : RunTask). z ∷ ts) same;
      before = tt;
      behind = subst (λ (n : ℕ). Free n ts) (ap (λ (z : RunTask). z.line) same ∙ number) (free-by w.line ts all.0);
    }
only-call (w ∷ ts) (suc place) line t apart there number calls = by (is_call w.run_action) refl apart (λ rest. only-call ts place line t rest there number calls) where
  more : (is_call w.run_action ≡ true → w.line ≢ line) → OnlyCall ts line t → OnlyCall (w ∷ ts) line t
  more differs only = record { front = w ∷ only.front; back = only.back; parts = ap (λ (l : List RunTask). w ∷ l) only.parts; before = (differs, only.before); behind = only.behind }

  by : (b : Bool) → is_call w.run_action ≡ b → ApartByRecursion (cond b (w ∷ calls_of ts) (calls_of ts)) → (ApartByRecursion (calls_of ts) → OnlyCall ts line t) → OnlyCall (w ∷ ts) line t
  by true e apart rest = more (λ is same. of-call (λ u. w.line ≢ u.line) ts place t apart.0 there calls (same ∙ sym number)) (rest apart.1)
  by false e apart rest = more (λ is. absurd (let z : false ≡ true = sym e ∙ is in cc)) (rest apart)

-- one call gets a new task, and all others stay as they are

tell-free-by : (F line n : ℕ) (k : DomId) (a : RunAction) → (is_call a ≡ true → n ≢ line) → with_tell F line (record { line = n; dom = k; run_action = a }) ≡ record { line = n; dom = k; run_action = a } ∷ []
tell-free-by F line n k (Tell flag) differs = refl
tell-free-by F line n k (Await flag) differs = refl
tell-free-by F line n k (Do call) differs = rw (ne_eqb n line (differs refl)) refl

await-free-by : (F line n : ℕ) (k : DomId) (a : RunAction) → (is_call a ≡ true → n ≢ line) → with_await F line (record { line = n; dom = k; run_action = a }) ≡ record { line = n; dom = k; run_action = a } ∷ []
await-free-by F line n k (Tell flag) differs = refl
await-free-by F line n k (Await flag) differs = refl
await-free-by F line n k (Do call) differs = rw (ne_eqb n line (differs refl)) refl

tells-free : (F line : ℕ) (ts : List RunTask) → Free line ts → flat_map (with_tell F line) ts ≡ ts
tells-free F line [] free = refl
tells-free F line (t ∷ ts) free = ap (λ (l : List RunTask). l ++ flat_map (with_tell F line) ts) (tell-free-by F line t.line t.dom t.run_action free.0) ∙ ap (λ (l : List RunTask). t ∷ l) (tells-free F line ts free.1)

awaits-free : (F line : ℕ) (ts : List RunTask) → Free line ts → flat_map (with_await F line) ts ≡ ts
awaits-free F line [] free = refl
awaits-free F line (t ∷ ts) free = ap (λ (l : List RunTask). l ++ flat_map (with_await F line) ts) (await-free-by F line t.line t.dom t.run_action free.0) ∙ ap (λ (l : List RunTask). t ∷ l) (awaits-free F line ts free.1)

tell-here-by : (F line n : ℕ) (k : DomId) (a : RunAction) → is_call a ≡ true → n ≡ line → with_tell F line (record { line = n; dom = k; run_action = a }) ≡ record { line = n; dom = k; run_action = a } ∷ (record { line = n; dom = k; run_action = Tell F } ∷ [])
tell-here-by F line n k (Tell flag) calls same = absurd (cc)
tell-here-by F line n k (Await flag) calls same = absurd (cc)
tell-here-by F line n k (Do call) calls same = rw (eq-eqb n line same) refl

await-here-by : (F line n : ℕ) (k : DomId) (a : RunAction) → is_call a ≡ true → n ≡ line → with_await F line (record { line = n; dom = k; run_action = a }) ≡ record { line = n; dom = k; run_action = Await F } ∷ (record { line = n; dom = k; run_action = a } ∷ [])
await-here-by F line n k (Tell flag) calls same = absurd (cc)
await-here-by F line n k (Await flag) calls same = absurd (cc)
await-here-by F line n k (Do call) calls same = rw (eq-eqb n line same) refl

pub tells-at : (F line : ℕ) (front back : List RunTask) (t : RunTask) → Free line front → Free line back → is_call t.run_action ≡ true → t.line ≡ line → flat_map (with_tell F line) (front ++ t ∷ back) ≡ front ++ t ∷ (tell_behind F t ∷ back)
tells-at F line front back t before behind calls same =
    flat_map-append (with_tell F line) front (t ∷ back) ∙ ap (λ (l : List RunTask). l ++ flat_map (with_tell F line) (t ∷ back)) (tells-free F line front before)
    ∙ ap (λ (l : List RunTask). front ++ (l ++ flat_map (with_tell F line) back)) (tell-here-by F line t.line t.dom t.run_action calls same)
    ∙ ap (λ (l : List RunTask). front ++ t ∷ (tell_behind F t ∷ l)) (tells-free F line back behind)

pub awaits-at : (F line : ℕ) (front back : List RunTask) (t : RunTask) → Free line front → Free line back → is_call t.run_action ≡ true → t.line ≡ line → flat_map (with_await F line) (front ++ t ∷ back) ≡ front ++ await_before F t ∷ (t ∷ back)
awaits-at F line front back t before behind calls same =
    flat_map-append (with_await F line) front (t ∷ back) ∙ ap (λ (l : List RunTask). l ++ flat_map (with_await F line) (t ∷ back)) (awaits-free F line front before)
    ∙ ap (λ (l : List RunTask). front ++ (l ++ flat_map (with_await F line) back)) (await-here-by F line t.line t.dom t.run_action calls same)
    ∙ ap (λ (l : List RunTask). front ++ await_before F t ∷ (t ∷ l)) (awaits-free F line back behind)

free-append : (line : ℕ) (ts us : List RunTask) → Free line ts → Free line us → Free line (ts ++ us)
free-append line [] us one other = other
free-append line (t ∷ ts) us one other = (one.0, free-append line ts us one.1 other)

-- a new task is no call, so a list that has none of a line has none with it either
tell-stays-free : (F other line n : ℕ) (k : DomId) (a : RunAction) → (is_call a ≡ true → n ≢ line) → Free line (with_tell F other (record { line = n; dom = k; run_action = a }))
tell-stays-free F other line n k (Tell flag) differs = (λ is. absurd (cc), tt)
tell-stays-free F other line n k (Await flag) differs = (λ is. absurd (cc), tt)
tell-stays-free F other line n k (Do call) differs = (differs, by (n == other)) where
  by : (b : Bool) → Free line (one_if b (record { line = n; dom = k; run_action = Tell F }))
  by true = (λ is. absurd (cc), tt)
  by false = tt

pub tells-stay-free : (F other line : ℕ) (ts : List RunTask) → Free line ts → Free line (flat_map (with_tell F other) ts)
tells-stay-free F other line [] free = tt
tells-stay-free F other line (t ∷ ts) free = free-append line (with_tell F other t) (flat_map (with_tell F other) ts) (tell-stays-free F other line t.line t.dom t.run_action free.0) (tells-stay-free F other line ts free.1)

beside-free : (F other line n : ℕ) (k : DomId) (a : RunAction) → Free line (beside_call other (Tell F) (record { line = n; dom = k; run_action = a }))
beside-free F other line n k (Tell flag) = tt
beside-free F other line n k (Await flag) = tt
beside-free F other line n k (Do call) = by (n == other) where
  by : (b : Bool) → Free line (one_if b (record { line = n; dom = k; run_action = Tell F }))
  by true = (λ is. absurd (cc), tt)
  by false = tt

-- the second call in the tasks with the first new one
pub second-call : (F other line : ℕ) (ts : List RunTask) (u : RunTask) → (only : OnlyCall ts line u) → (back : List RunTask) × (flat_map (with_tell F other) ts ≡ flat_map (with_tell F other) only.front ++ u ∷ back) × Free line back
second-call F other line ts u only = (
  beside_call other (Tell F) u ++ flat_map (with_tell F other) only.back,
  ap (flat_map (with_tell F other)) only.parts ∙ flat_map-append (with_tell F other) only.front (u ∷ only.back),
  free-append line (beside_call other (Tell F) u) (flat_map (with_tell F other) only.back) (beside-free F other line u.line u.dom u.run_action) (tells-stay-free F other line only.back only.behind),
)

-- the calls before that of a line

up-to-more : (line n : ℕ) (k : DomId) (a : RunAction) (ts us : List RunTask) → (is_call a ≡ true → n ≢ line) → calls_up_to line ts ≡ length (calls_of us)
    → calls_up_to line (record { line = n; dom = k; run_action = a } ∷ ts) ≡ length (calls_of (record { line = n; dom = k; run_action = a } ∷ us))
up-to-more line n k (Tell flag) ts us differs e = e
up-to-more line n k (Await flag) ts us differs e = e
up-to-more line n k (Do call) ts us differs e = rw (ne_eqb n line (differs refl)) (ap suc e)

up-to-here : (line n : ℕ) (k : DomId) (a : RunAction) (ts : List RunTask) → is_call a ≡ true → n ≡ line → calls_up_to line (record { line = n; dom = k; run_action = a } ∷ ts) ≡ 0
up-to-here line n k (Tell flag) ts calls same = absurd (cc)
up-to-here line n k (Await flag) ts calls same = absurd (cc)
up-to-here line n k (Do call) ts calls same = rw (eq-eqb n line same) refl

pub up-to : (line : ℕ) (d : DomId) (front back : List RunTask) (t : RunTask) → Free line front → is_call t.run_action ≡ true → t.line ≡ line → (t.dom.0 == d.0) ≡ true
    → calls_up_to line (list_of (front ++ t ∷ back) d) ≡ length (calls_of (list_of front d))
up-to line d [] back t free calls same own = rw own (up-to-here line t.line t.dom t.run_action (list_of back d) calls same)
up-to line d (w ∷ front) back t free calls same own = by (w.dom.0 == d.0) (up-to line d front back t free.1 calls same own) where
  by : (b : Bool) → calls_up_to line (list_of (front ++ t ∷ back) d) ≡ length (calls_of (list_of front d))
      → calls_up_to line (cond b (w ∷ list_of (front ++ t ∷ back) d) (list_of (front ++ t ∷ back) d)) ≡ length (calls_of (cond b (w ∷ list_of front d) (list_of front d)))
  by true rest = up-to-more line w.line w.dom w.run_action (list_of (front ++ t ∷ back) d) (list_of front d) free.0 rest
  by false rest = rest

-- where the new flag is raised

own-all : (d : DomId) (k : DomId) (F : ℕ) (p : Precedence) (n : ℕ) (a : RunAction) → (k.0 == d.0) ≡ true → list_of (around F p (record { line = n; dom = k; run_action = a })) d ≡ around F p (record { line = n; dom = k; run_action = a })
own-all d k F p n (Tell flag) own = rw own refl
own-all d k F p n (Await flag) own = rw own refl
own-all d k F p n (Do call) own = by (n == p.second) (n == p.first) where
  by : (s f : Bool) → list_of (one_if s (record { line = n; dom = k; run_action = Await F }) ++ record { line = n; dom = k; run_action = Do call } ∷ one_if f (record { line = n; dom = k; run_action = Tell F })) d
      ≡ one_if s (record { line = n; dom = k; run_action = Await F }) ++ record { line = n; dom = k; run_action = Do call } ∷ one_if f (record { line = n; dom = k; run_action = Tell F })
  by true true = rw own refl
  by true false = rw own refl
  by false true = rw own refl
  by false false = rw own refl

own-none : (d : DomId) (k : DomId) (F : ℕ) (p : Precedence) (n : ℕ) (a : RunAction) → (k.0 == d.0) ≡ false → list_of (around F p (record { line = n; dom = k; run_action = a })) d ≡ []
own-none d k F p n (Tell flag) other = rw other refl
own-none d k F p n (Await flag) other = rw other refl
own-none d k F p n (Do call) other = by (n == p.second) (n == p.first) where
  by : (s f : Bool) → list_of (one_if s (record { line = n; dom = k; run_action = Await F }) ++ record { line = n; dom = k; run_action = Do call } ∷ one_if f (record { line = n; dom = k; run_action = Tell F })) d ≡ []
  by true true = rw other refl
  by true false = rw other refl
  by false true = rw other refl
  by false false = rw other refl

-- the call of the line is one of this domain, with fewer calls before it than this number
pub record CallBehind (line : ℕ) (d : DomId) (ts : List RunTask) (n : ℕ) : Type 0 where
  pub place : ℕ
  pub task : RunTask
  pub there : slice_get ts place ≡ Some task
  pub number : task.line ≡ line
  pub calls : is_call task.run_action ≡ true
  pub own : task.dom ≡ d
  pub fewer : calls_up_to line (list_of ts d) < n

module _ (F : ℕ) (p : Precedence) (d : DomId) where
  behind-more : (t : RunTask) (ts : List RunTask) (m n : ℕ) → calls_up_to p.first (list_of (t ∷ ts) d) < n → CallBehind p.first d ts m → CallBehind p.first d (t ∷ ts) n
  behind-more t ts m n fewer call = record { place = suc call.place; task = call.task; there = call.there; number = call.number; calls = call.calls; own = call.own; fewer = fewer }

  behind-by : (line : ℕ) (k : DomId) (a : RunAction) (ts rest : List RunTask) (n : ℕ) → IsBelow F a → (k.0 == d.0) ≡ true → ((m : ℕ) → Raises F rest m → CallBehind p.first d ts m)
      → Raises F (around F p (record { line = line; dom = k; run_action = a }) ++ rest) n → CallBehind p.first d (record { line = line; dom = k; run_action = a } ∷ ts) n
  behind-by line k (Tell flag) ts rest n below own next (inl (same, none)) = absurd (omega (arith, below, same))
  behind-by line k (Tell flag) ts rest n below own next (inr later) = let call = next n later in
      behind-more (record { line = line; dom = k; run_action = Tell flag }) ts n n (rw own call.fewer) call
  behind-by line k (Await flag) ts rest n below own next later = let call = next n later in
      behind-more (record { line = line; dom = k; run_action = Await flag }) ts n n (rw own call.fewer) call
  behind-by line k (Do call) ts rest n below own next raised-later = by (line == p.second) (line == p.first) refl raised-later where
    here : (line == p.first) ≡ true → (m : ℕ) → n ≡ suc m → CallBehind p.first d (record { line = line; dom = k; run_action = Do call } ∷ ts) n
    here e m is = let zero-calls = up-to-here p.first line k (Do call) (list_of ts d) refl (eqb-true line p.first e) in record {
      place = zero;
      task = record { line = line; dom = k; run_action = Do call };
      there = refl;
      number = eqb-true line p.first e;
      calls = refl;
      own = same-dom k d own;
      fewer = rw own (omega (arith, zero-calls, is));
    }

    there : (line == p.first) ≡ false → (m : ℕ) → n ≡ suc m → CallBehind p.first d ts m → CallBehind p.first d (record { line = line; dom = k; run_action = Do call } ∷ ts) n
    there e m is found = let fewer = found.fewer in behind-more (record { line = line; dom = k; run_action = Do call }) ts m n (rw own (rw e (omega (arith, fewer, is)))) found

    with-new : (f : Bool) → (line == p.first) ≡ f → (m : ℕ) → n ≡ suc m → Raises F (one_if f (record { line = line; dom = k; run_action = Tell F }) ++ rest) m → CallBehind p.first d (record { line = line; dom = k; run_action = Do call } ∷ ts) n
    with-new true e m is later = here e m is
    with-new false e m is later = there e m is (next m later)

    by : (s f : Bool) → (line == p.first) ≡ f → Raises F ((one_if s (record { line = line; dom = k; run_action = Await F }) ++ record { line = line; dom = k; run_action = Do call } ∷ one_if f (record { line = line; dom = k; run_action = Tell F })) ++ rest) n
        → CallBehind p.first d (record { line = line; dom = k; run_action = Do call } ∷ ts) n
    by true f e (m, is, later) = with-new f e m is later
    by false f e (m, is, later) = with-new f e m is later

  pub behind : (ts : List RunTask) (n : ℕ) → AllByRecursion (λ t. IsBelow F t.run_action) ts → Raises F (list_of (with_precedence F p ts) d) n → CallBehind p.first d ts n
  behind [] n below raises = absurd raises
  behind (t ∷ ts) n below raises = by (t.dom.0 == d.0) refl (λ m. behind ts m below.1) (rw (filter-append (λ (u : RunTask). u.dom.0 == d.0) (around F p t) (with_precedence F p ts)) at raises) where
    by : (b : Bool) → (t.dom.0 == d.0) ≡ b → ((m : ℕ) → Raises F (list_of (with_precedence F p ts) d) m → CallBehind p.first d ts m) → Raises F (list_of (around F p t) d ++ list_of (with_precedence F p ts) d) n → CallBehind p.first d (t ∷ ts) n
    by true own next raises = behind-by t.line t.dom t.run_action ts (list_of (with_precedence F p ts) d) n below.0 own next
        (subst (λ (l : List RunTask). Raises F (l ++ list_of (with_precedence F p ts) d) n) (own-all d t.dom F p t.line t.run_action own) raises)
    by false other next raises =
        let call = next n (subst (λ (l : List RunTask). Raises F (l ++ list_of (with_precedence F p ts) d) n) (own-none d t.dom F p t.line t.run_action other) raises) in
        behind-more t ts n n (rw other call.fewer) call
