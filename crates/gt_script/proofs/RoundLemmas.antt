-- How domains go on in turn, while flags are told.
use Rattle.std.proofs.Common.{◌≡◌, ◌⊎◌, ◌↔◌, length-take, inl, inr, IsTrue, ℕ, ◌+◌, ◌<◌, ◌≤◌, ◌||◌, not, Bool}
use Rattle.std.proofs.Common.{true, false, List, length, take, Option, Some, None, refl, sym, ap, ◌∙◌, subst, arith}
use Rattle.std.proofs.Common.{All, get_or, set, replicate, add-one, ◌==◌}
use Rattle.std.specs.List.{slice_get}
use Rattle.std.proofs.lemmas.Grind.{get_or_default_zero}
use Rattle.std.proofs.lemmas.Bool.{cases_eq, cases_lt, eqb-true}
use Rattle.std.proofs.lemmas.List.Folds.{Any-from_list_any}
use Rattle.std.proofs.lemmas.Bool.{or_parts}
use Rattle.gt_types.specs.Config.{is_taken}
use Rattle.std.specs.Option.{is_some}
use Rattle.std.proofs.Math.Seq.{take-suc}
use Rattle.std.proofs.lemmas.List.{set-get_or, get_or-set_same, get_or-set_other, get_or-replicate, get_or-take}
use Rattle.std.proofs.lemmas.List.{get_or_past, length-replicate, length-set, take_all}
use Rattle.std.proofs.lemmas.List.Elements.{All-nil, All-push, All-weaker}
use Rattle.std.proofs.lemmas.List.Sums.{sum_by-set}
use Rattle.std.proofs.lemmas.Option.{slice_get_within, slice_get-get_or, get_or_from_slice_get}
use Rattle.gt_types.specs.declared.DomId.{DomId}
use Rattle.gt_types.specs.declared.config.DomainConfig.{DomainConfig}
use Rattle.gt_script.specs.Stuck.{IsBelow, AreNumbered, IsPassed, PassesAll, IsClosedFlagSet, IsRaisable, WaitsAt}
use Rattle.gt_script.specs.Stuck.{AllEnd}
use Rattle.gt_script.specs.Stuck.{IsJudged}
use Rattle.gt_script.specs.Rounds.{flag_holds, HasFlag, Within, is_unraised, unraised_count, IsDone, is_waiting, raised_after}
use Rattle.gt_script.specs.Rounds.{is_new}
use Rattle.gt_script.specs.Rounds.{Comes, WayTo, WaitsFor, TurnGoesOn, HaveCome, Turning, WaitsOrEnds}
use Rattle.gt_script.specs.Lists.{RunAction, RunTask}
use Rattle.gt_script.specs.declared.tasks.RunAction.TheVariants.{Do, Tell, Await}

-- a place further on

comes-more : (tasks : List RunTask) (dom : DomId) (place : ℕ) (told : List Bool) (x : RunTask) → place < length tasks → Comes tasks dom place told
    → ((get_or tasks place x).dom.0 ≡ dom.0 → IsDone told (get_or tasks place x).run_action) → Comes tasks dom (place + 1) told
comes-more tasks dom place told x within so_far here =
    subst (λ (l : List RunTask). All (λ t. t.dom.0 ≡ dom.0 → IsDone told t.run_action) l) (sym (rw add-one (take-suc tasks place x within)))
    (All-push (λ (t : RunTask). t.dom.0 ≡ dom.0 → IsDone told t.run_action) (take place tasks) (get_or tasks place x) so_far here)

done-grown : (old new : List Bool) → ((flag : ℕ) → HasFlag old flag → HasFlag new flag) → (d : RunAction) → IsDone old d → IsDone new d
done-grown old new grown (Do call) h = tt
done-grown old new grown (Tell flag) h = grown flag h
done-grown old new grown (Await flag) h = grown flag h

comes-grown : (tasks : List RunTask) (dom : DomId) (place : ℕ) (old new : List Bool) → ((flag : ℕ) → HasFlag old flag → HasFlag new flag) → Comes tasks dom place old → Comes tasks dom place new
comes-grown tasks dom place old new grown come =
    All-weaker (λ (t : RunTask). t.dom.0 ≡ dom.0 → IsDone old t.run_action) (λ (t : RunTask). t.dom.0 ≡ dom.0 → IsDone new t.run_action) (λ t h own. done-grown old new grown t.run_action (h own)) (take place tasks) come

pub way-start : (tasks : List RunTask) (dom : DomId) (told : List Bool) (place : ℕ) → Comes tasks dom place told → WayTo tasks dom told told place false
way-start tasks dom told place come = record {
  comes = come;
  grown = λ flag h. h;
  sound = λ set closed within. within;
  many = refl;
  quiet = λ e. refl;
  loud = λ e. absurd cc;
}

-- past a task of another domain, or one whose flag is told
pub way-past : (tasks : List RunTask) (dom : DomId) (old new : List Bool) (place : ℕ) (news : Bool) (x : RunTask) → WayTo tasks dom old new place news → place < length tasks
    → ((get_or tasks place x).dom.0 ≡ dom.0 → IsDone new (get_or tasks place x).run_action) → WayTo tasks dom old new (place + 1) news
way-past tasks dom old new place news x w within here = record {
  comes = comes-more tasks dom place new x within w.comes here;
  grown = w.grown;
  sound = w.sound;
  many = w.many;
  quiet = w.quiet;
  loud = w.loud;
}

pub done-await : (told : List Bool) (d : RunAction) (flag : ℕ) → d ≡ Await flag → HasFlag told flag → IsDone told d
done-await told d flag e h = subst (λ (k : RunAction). IsDone told k) (sym e) h

-- telling a flag

told-more : (told : List Bool) (flag f : ℕ) → flag < length told → HasFlag told f → HasFlag (set told flag true) f
told-more told flag f within h = elim (cases_eq f flag) [
  | inl e ↦ subst (λ (k : ℕ). HasFlag (set told flag true) k) (sym e) (get_or-set_same told flag true false within)
  | inr n ↦ get_or-set_other told flag f true false n ∙ h
]

told-before : (told : List Bool) (flag f : ℕ) → HasFlag (set told flag true) f → (f ≡ flag) ⊎ HasFlag told f
told-before told flag f h = elim (cases_eq f flag) [
  | inl e ↦ inl e
  | inr n ↦ inr (sym (get_or-set_other told flag f true false n) ∙ h)
]

no_fewer : (old new : List Bool) (news : Bool) → (news ≡ false → new ≡ old) → (news ≡ true → unraised_count new < unraised_count old) → unraised_count new ≤ unraised_count old
no_fewer old new true quiet loud = let less = loud refl in omega arith
no_fewer old new false quiet loud = let same : unraised_count new ≡ unraised_count old = ap unraised_count (quiet refl) in omega arith

fewer-by : (told : List Bool) (flag : ℕ) → flag < length told → flag_holds told flag ≡ false → unraised_count (set told flag true) < unraised_count told
fewer-by told flag within h =
    let sums = sum_by-set is_unraised told flag true false within in
    let was : is_unraised (get_or told flag false) ≡ 1 = ap is_unraised h in
    omega (arith, sums, was)

same-told : (told : List Bool) (flag : ℕ) → HasFlag told flag → set told flag true ≡ told
same-told told flag h = ap (λ (b : Bool). set told flag b) (sym h) ∙ set-get_or told flag false

quiet-tell : (old new : List Bool) (flag : ℕ) (news b : Bool) → (news ≡ false → new ≡ old) → flag_holds new flag ≡ b → (news || not b) ≡ false → set new flag true ≡ old
quiet-tell old new flag false true quiet h e = same-told new flag h ∙ quiet refl
quiet-tell old new flag false false quiet h e = absurd cc
quiet-tell old new flag true b quiet h e = absurd cc

loud-tell : (old new : List Bool) (flag : ℕ) (news b : Bool) → flag < length new → (news ≡ false → new ≡ old) → (news ≡ true → unraised_count new < unraised_count old) → flag_holds new flag ≡ b → (news || not b) ≡ true
    → unraised_count (set new flag true) < unraised_count old
loud-tell old new flag news false within quiet loud h e = let some = no_fewer old new news quiet loud in let less = fewer-by new flag within h in omega (arith, some, less)
loud-tell old new flag true true within quiet loud h e = subst (λ (k : ℕ). k < unraised_count old) (sym (ap unraised_count (same-told new flag h))) (loud refl)
loud-tell old new flag false true within quiet loud h e = absurd cc

passes : (told : List Bool) (set : ℕ → Bool) → Within told set → (d : RunAction) → IsDone told d → IsPassed (λ f. IsTrue (set f)) d
passes told set within (Do call) h = tt
passes told set within (Tell flag) h = tt
passes told set within (Await flag) h = within flag h

passes-all : (tasks : List RunTask) (dom own : DomId) (place : ℕ) (told : List Bool) (set : ℕ → Bool) → Within told set → own.0 ≡ dom.0 → Comes tasks dom place told
    → PassesAll (λ f. IsTrue (set f)) own (take place tasks)
passes-all tasks dom own place told set within same come =
    All-weaker (λ (t : RunTask). t.dom.0 ≡ dom.0 → IsDone told t.run_action) (λ (t : RunTask). t.dom.0 ≡ own.0 → IsPassed (λ f. IsTrue (set f)) t.run_action)
    (λ t h e. passes told set within t.run_action (h (e ∙ same))) (take place tasks) come

pub way-tell : (tasks : List RunTask) (dom : DomId) (old new : List Bool) (place flag : ℕ) (news : Bool) (x : RunTask) → WayTo tasks dom old new place news → place < length tasks
    → (get_or tasks place x).run_action ≡ Tell flag → (get_or tasks place x).dom.0 ≡ dom.0 → flag < length new → WayTo tasks dom old (set new flag true) (place + 1) (news || not (flag_holds new flag))
way-tell tasks dom old new place flag news x w within run_action own below =
    let grown : (f : ℕ) → HasFlag new f → HasFlag (set new flag true) f = λ f h. told-more new flag f below h in
    record {
      comes = comes-more tasks dom place (set new flag true) x within (comes-grown tasks dom place new (set new flag true) grown w.comes)
          (λ e. subst (λ (d : RunAction). IsDone (set new flag true) d) (sym run_action) (get_or-set_same new flag true false below));
      grown = λ f h. grown f (w.grown f h);
      sound = λ all closed inside f h. elim (told-before new flag f h) [
        | inl e ↦ subst (λ (k : ℕ). IsTrue (all k)) (sym e)
            (closed place (get_or tasks place x) flag (slice_get-get_or tasks place x within) run_action (passes-all tasks dom (get_or tasks place x).dom place new all (w.sound all closed inside) own w.comes))
        | inr k ↦ w.sound all closed inside f k
      ];
      many = length-set new flag true ∙ w.many;
      quiet = λ e. quiet-tell old new flag news (flag_holds new flag) w.quiet refl e;
      loud = λ e. loud-tell old new flag news (flag_holds new flag) below w.quiet w.loud refl e;
    }

-- past one of its own tasks, at which it does not wait

not-true : (b : Bool) → not b ≡ false → b ≡ true
not-true true e = refl
not-true false e = absurd cc

or-false : (b : Bool) → (b || false) ≡ b
or-false true = refl
or-false false = refl

way-by : (tasks : List RunTask) (dom : DomId) (old new : List Bool) (place : ℕ) (news : Bool) (x : RunTask) (d : RunAction) → WayTo tasks dom old new place news → place < length tasks → (get_or tasks place x).run_action ≡ d
    → (get_or tasks place x).dom.0 ≡ dom.0 → IsBelow (length new) d → is_waiting new d ≡ false → WayTo tasks dom old (raised_after new d) (place + 1) (news || is_new new d)
unfolding is_waiting raised_after is_new
way-by tasks dom old new place news x (Do call) w within run_action own below waits =
    subst (λ (b : Bool). WayTo tasks dom old new (place + 1) b) (sym (or-false news))
    (way-past tasks dom old new place news x w within (λ e. subst (λ (k : RunAction). IsDone new k) (sym run_action) tt))
way-by tasks dom old new place news x (Tell flag) w within run_action own below waits = way-tell tasks dom old new place flag news x w within run_action own below
way-by tasks dom old new place news x (Await flag) w within run_action own below waits =
    subst (λ (b : Bool). WayTo tasks dom old new (place + 1) b) (sym (or-false news))
    (way-past tasks dom old new place news x w within (λ e. done-await new _ flag run_action (not-true (flag_holds new flag) waits)))

pub below-at : (tasks : List RunTask) (old new : List Bool) (dom : DomId) (place : ℕ) (news : Bool) (x : RunTask) → AreNumbered (length old) tasks → WayTo tasks dom old new place news → place < length tasks → x ≡ get_or tasks place x
    → IsBelow (length new) x.run_action
below-at tasks old new dom place news x numbered w within is =
    subst (λ (k : ℕ). IsBelow k x.run_action) (sym w.many) (subst (λ (t : RunTask). IsBelow (length old) t.run_action) (sym is) (numbered place x within))

pub way-own : (tasks : List RunTask) (dom : DomId) (old new newer : List Bool) (place : ℕ) (news more : Bool) (x : RunTask) → WayTo tasks dom old new place news → place < length tasks → x ≡ get_or tasks place x
    → x.dom.0 ≡ dom.0 → IsBelow (length new) x.run_action → is_waiting new x.run_action ≡ false → newer ≡ raised_after new x.run_action → more ≡ is_new new x.run_action → WayTo tasks dom old newer (place + 1) (news || more)
way-own tasks dom old new newer place news more x w within is own below waits told new_one =
    subst (λ (l : List Bool). WayTo tasks dom old l (place + 1) (news || more)) (sym told)
    (subst (λ (b : Bool). WayTo tasks dom old (raised_after new x.run_action) (place + 1) (news || b)) (sym new_one)
    (way-by tasks dom old new place news x x.run_action w within (ap (λ (t : RunTask). t.run_action) (sym is)) (ap (λ (t : RunTask). t.dom.0) (sym is) ∙ own) below waits))

pub way-other : (tasks : List RunTask) (dom : DomId) (old new : List Bool) (place : ℕ) (news : Bool) (x : RunTask) → WayTo tasks dom old new place news → place < length tasks → x ≡ get_or tasks place x
    → (x.dom.0 ≡ dom.0 → ⊥) → WayTo tasks dom old new (place + 1) news
way-other tasks dom old new place news x w within is other = way-past tasks dom old new place news x w within (λ e. absurd (other (ap (λ (t : RunTask). t.dom.0) is ∙ e)))

-- where a domain stops

pub goes-on : (tasks : List RunTask) (dom : DomId) (old new : List Bool) (place flag : ℕ) (news : Bool) (x : RunTask) → WayTo tasks dom old new place news → place < length tasks
    → (get_or tasks place x).run_action ≡ Await flag → (get_or tasks place x).dom.0 ≡ dom.0 → flag_holds new flag ≡ false → TurnGoesOn tasks dom old new place news
goes-on tasks dom old new place flag news x w within run_action own unraised = (
  let le : place ≤ length tasks = omega arith in le,
  w,
  λ task there.
      let is : get_or tasks place x ≡ task = get_or_from_slice_get tasks place task x there in
      (flag, subst (λ (t : RunTask). t.run_action ≡ Await flag) is run_action, subst (λ (t : RunTask). t.dom.0 ≡ dom.0) is own, unraised),
)

waits-at : (told : List Bool) (d : RunAction) → is_waiting told d ≡ true → (flag : ℕ) × (d ≡ Await flag) × (flag_holds told flag ≡ false)
unfolding is_waiting
waits-at told (Do call) e = absurd cc
waits-at told (Tell flag) e = absurd cc
waits-at told (Await flag) e = (flag, refl, not-false (flag_holds told flag) e)
  where
    not-false : (b : Bool) → not b ≡ true → b ≡ false
    not-false true e = absurd cc
    not-false false e = refl

pub stops-at : (tasks : List RunTask) (dom : DomId) (old new : List Bool) (place : ℕ) (news : Bool) (x : RunTask) → WayTo tasks dom old new place news → place < length tasks → x ≡ get_or tasks place x
    → x.dom.0 ≡ dom.0 → is_waiting new x.run_action ≡ true → TurnGoesOn tasks dom old new place news
stops-at tasks dom old new place news x w within is own waits =
    let f = waits-at new x.run_action waits in
    goes-on tasks dom old new place f.0 news x w within (ap (λ (t : RunTask). t.run_action) (sym is) ∙ f.1) (ap (λ (t : RunTask). t.dom.0) (sym is) ∙ own) f.2

pub goes-to-end : (tasks : List RunTask) (dom : DomId) (old new : List Bool) (place : ℕ) (news : Bool) → WayTo tasks dom old new place news → place ≡ length tasks → TurnGoesOn tasks dom old new (length tasks) news
goes-to-end tasks dom old new place news w e =
    (omega arith, subst (λ (k : ℕ). WayTo tasks dom old new k news) e w, λ task there. absurd (omega (arith, slice_get_within tasks (length tasks) task there)))

-- one domain more in its turn

pub turn-start : (tasks : List RunTask) (domains : List DomainConfig) (places : List ℕ) (told : List Bool) → HaveCome tasks domains places told → Turning tasks domains places told told 0 false
turn-start tasks domains places told have = record {
  have = have;
  sound = λ set closed within. within;
  many = refl;
  quiet = λ e. refl;
  loud = λ e. absurd cc;
  rest = λ e i d below there. absurd (omega arith);
}

loud-turn : (old new newer : List Bool) (news more : Bool) → (news ≡ false → new ≡ old) → (news ≡ true → unraised_count new < unraised_count old) → (more ≡ false → newer ≡ new) → (more ≡ true → unraised_count newer < unraised_count new)
    → (news || more) ≡ true → unraised_count newer < unraised_count old
loud-turn old new newer news true quiet loud calm strong e = let some = no_fewer old new news quiet loud in let less = strong refl in omega (arith, some, less)
loud-turn old new newer true false quiet loud calm strong e = subst (λ (l : List Bool). unraised_count l < unraised_count old) (sym (calm refl)) (loud refl)
loud-turn old new newer false false quiet loud calm strong e = absurd cc

pub turn-more : (tasks : List RunTask) (domains : List DomainConfig) (places : List ℕ) (old new newer : List Bool) (i p : ℕ) (news more : Bool) (x : DomainConfig) → Turning tasks domains places old new i news
    → i < length domains → length places ≡ length domains → TurnGoesOn tasks (get_or domains i x).id new newer p more → Turning tasks domains (set places i p) old newer (i + 1) (news || more)
turn-more tasks domains places old new newer i p news more x t within many (short, way, waits) =
    let room : i < length places = omega arith in
    let here : get_or (set places i p) i 0 ≡ p = get_or-set_same places i p 0 room in
    record {
      have = λ j d there. elim (cases_eq j i) [
        | inl e ↦
            let is : get_or domains i x ≡ d = get_or_from_slice_get domains i d x (subst (λ (k : ℕ). slice_get domains k ≡ Some d) e there) in
            let place : get_or (set places i p) j 0 ≡ p = ap (λ (k : ℕ). get_or (set places i p) k 0) e ∙ here in (
              subst (λ (k : ℕ). k ≤ length tasks) (sym place) short,
              subst (λ (k : ℕ). Comes tasks d.id k newer) (sym place) (subst (λ (y : DomainConfig). Comes tasks y.id p newer) is way.comes),
            )
        | inr n ↦
            let place : get_or (set places i p) j 0 ≡ get_or places j 0 = get_or-set_other places i j p 0 n in (
              subst (λ (k : ℕ). k ≤ length tasks) (sym place) (t.have j d there).0,
              subst (λ (k : ℕ). Comes tasks d.id k newer) (sym place) (comes-grown tasks d.id (get_or places j 0) new newer way.grown (t.have j d there).1),
            )
      ];
      sound = λ set closed inside. way.sound set closed (t.sound set closed inside);
      many = way.many ∙ t.many;
      quiet = λ e. way.quiet (or_parts news more e).1 ∙ t.quiet (or_parts news more e).0;
      loud = λ e. loud-turn old new newer news more t.quiet t.loud way.quiet way.loud e;
      rest = λ e j d below there. elim (cases_eq j i) [
        | inl k ↦
            let is : get_or domains i x ≡ d = get_or_from_slice_get domains i d x (subst (λ (k : ℕ). slice_get domains k ≡ Some d) k there) in
            let place : get_or (set places i p) j 0 ≡ p = ap (λ (k : ℕ). get_or (set places i p) k 0) k ∙ here in
            subst (λ (k : ℕ). WaitsFor tasks d.id k newer) (sym place) (subst (λ (y : DomainConfig). WaitsFor tasks y.id p newer) is waits)
        | inr n ↦
            let place : get_or (set places i p) j 0 ≡ get_or places j 0 = get_or-set_other places i j p 0 n in
            let less : j < i = omega (arith, n) in
            subst (λ (k : ℕ). WaitsFor tasks d.id k newer) (sym place)
            (subst (λ (l : List Bool). WaitsFor tasks d.id (get_or places j 0) l) (sym (way.quiet (or_parts news more e).1)) (t.rest (or_parts news more e).0 j d less there))
      ];
    }

pub come-here : (tasks : List RunTask) (domains : List DomainConfig) (places : List ℕ) (told : List Bool) (i from : ℕ) (x : DomainConfig) → HaveCome tasks domains places told → i < length domains
    → length places ≡ length domains → from ≡ get_or places i from → (from ≤ length tasks) × Comes tasks (get_or domains i x).id from told
come-here tasks domains places told i from x have within many is =
    let room : i < length places = omega arith in
    let here : from ≡ get_or places i 0 = is ∙ get_or_default_zero places i from room in
    let come = have i (get_or domains i x) (slice_get-get_or domains i x within) in
    (subst (λ (k : ℕ). k ≤ length tasks) (sym here) come.0, subst (λ (k : ℕ). Comes tasks (get_or domains i x).id k told) (sym here) come.1)

pub numbered-more : (tasks : List RunTask) (old new : List Bool) → AreNumbered (length old) tasks → length new ≡ length old → AreNumbered (length new) tasks
numbered-more tasks old new numbered same = subst (λ (k : ℕ). AreNumbered k tasks) (sym same) numbered

-- a turn leads from told flags that each closed set has to such flags
pub sound-more : (tasks : List RunTask) (old new : List Bool) → ((set : ℕ → Bool) → IsClosedFlagSet tasks set → Within old set → Within new set) → ((set : ℕ → Bool) → IsClosedFlagSet tasks set → Within old set)
    → (set : ℕ → Bool) → IsClosedFlagSet tasks set → Within new set
sound-more tasks old new step so_far set closed = step set closed (so_far set closed)

-- before the first turn

none-told : (n f : ℕ) → flag_holds (replicate n false) f ≡ false
none-told n f = elim (cases_lt f n) [
  | inl below ↦ get_or-replicate n f false false below
  | inr past ↦ get_or_past (replicate n false) f false (omega (arith, length-replicate n false))
]

pub nothing-told : (n : ℕ) (set : ℕ → Bool) → Within (replicate n false) set
nothing-told n set flag h = absurd (cc (h, none-told n flag))

none-passed : (n i : ℕ) → ◌≡◌ {A = ℕ} (get_or (replicate n 0) i 0) 0
none-passed n i = elim (cases_lt i n) [
  | inl below ↦ get_or-replicate n i 0 0 below
  | inr past ↦ get_or_past (replicate n 0) i 0 (omega (arith, length-replicate {A = ℕ} n 0))
]

pub nobody-went : (tasks : List RunTask) (domains : List DomainConfig) (n : ℕ) (told : List Bool) → HaveCome tasks domains (replicate n 0) told
nobody-went tasks domains n told i d there = (
  subst (λ (k : ℕ). k ≤ length tasks) (sym (none-passed n i)) (omega arith),
  subst (λ (k : ℕ). Comes tasks d.id k told) (sym (none-passed n i)) (All-nil (λ (t : RunTask). t.dom.0 ≡ d.id.0 → IsDone told t.run_action)),
)

-- after a turn without news the told flags are closed

at-tell : (told : List Bool) (d : RunAction) (flag : ℕ) → d ≡ Tell flag → IsDone told d → HasFlag told flag
at-tell told d flag e h = subst (λ (k : RunAction). IsDone told k) e h

at-await : (told : List Bool) (d : RunAction) (flag : ℕ) → d ≡ Await flag → IsPassed (HasFlag told) d → HasFlag told flag
at-await told d flag e h = subst (λ (k : RunAction). IsPassed (HasFlag told) k) e h

tell-or-await : (d : RunAction) (f g : ℕ) → d ≡ Tell f → d ≡ Await g → ⊥
tell-or-await d f g e h = cc

-- the task at this place tells its flag, where the domain has come further
behind : (tasks : List RunTask) (dom : DomId) (place at : ℕ) (task : RunTask) (flag : ℕ) (told : List Bool) → Comes tasks dom place told → slice_get tasks at ≡ Some task → task.dom.0 ≡ dom.0 → task.run_action ≡ Tell flag
    → at < place → HasFlag told flag
behind tasks dom place at task flag told come there own run_action less =
    let within : at < length tasks = slice_get_within tasks at task there in
    let inside : at < length (take place tasks) = rw length-take (omega arith) in
    let is : get_or (take place tasks) at task ≡ task = get_or-take place tasks at task less ∙ get_or_from_slice_get tasks at task task there in
    at-tell told task.run_action flag run_action (subst (λ (t : RunTask). t.dom.0 ≡ dom.0 → IsDone told t.run_action) is (come at task inside) own)

-- it can't stand where the domain waits, nor behind that place, past which the domain would have gone
ahead : (tasks : List RunTask) (dom : DomId) (place at : ℕ) (task : RunTask) (flag : ℕ) (told : List Bool) → WaitsFor tasks dom place told → slice_get tasks at ≡ Some task → task.dom.0 ≡ dom.0 → task.run_action ≡ Tell flag
    → PassesAll (HasFlag told) task.dom (take at tasks) → place ≤ at → ⊥
ahead tasks dom place at task flag told waits there own run_action before le =
    let within : at < length tasks = slice_get_within tasks at task there in
    let w = waits (get_or tasks place task) (slice_get-get_or tasks place task (omega arith)) in
    elim (cases_eq place at) [
      | inl e ↦
          let is : get_or tasks place task ≡ task = ap (λ (k : ℕ). get_or tasks k task) e ∙ get_or_from_slice_get tasks at task task there in
          tell-or-await task.run_action flag w.0 run_action (ap (λ (t : RunTask). t.run_action) (sym is) ∙ w.1)
      | inr n ↦
          let less : place < at = omega (arith, n) in
          let inside : place < length (take at tasks) = rw length-take (omega arith) in
          let is : get_or (take at tasks) place task ≡ get_or tasks place task = get_or-take at tasks place task less in
          let passed = subst (λ (t : RunTask). t.dom.0 ≡ task.dom.0 → IsPassed (HasFlag told) t.run_action) is (before place task inside) (w.2 ∙ sym own) in
          cc (at-await told _ w.0 w.1 passed, w.3)
    ]

closed-at : (tasks : List RunTask) (domains : List DomainConfig) (places : List ℕ) (told : List Bool) → HaveCome tasks domains places told
    → ((i : ℕ) (d : DomainConfig) → i < length domains → slice_get domains i ≡ Some d → WaitsFor tasks d.id (get_or places i 0) told)
    → (i at : ℕ) (d : DomainConfig) (task : RunTask) (flag : ℕ) → slice_get domains i ≡ Some d → task.dom.0 ≡ d.id.0 → slice_get tasks at ≡ Some task → task.run_action ≡ Tell flag
    → PassesAll (HasFlag told) task.dom (take at tasks) → HasFlag told flag
closed-at tasks domains places told have rest i at d task flag known own there run_action before = elim (cases_lt at (get_or places i 0)) [
  | inl less ↦ behind tasks d.id (get_or places i 0) at task flag told (have i d known).1 there own run_action less
  | inr past ↦ absurd (ahead tasks d.id (get_or places i 0) at task flag told (rest i d (slice_get_within domains i d known) known) there own run_action before past)
]

pub closed-told : (tasks : List RunTask) (domains : List DomainConfig) (places : List ℕ) (old told : List Bool) (news : Bool) → All (λ (t : RunTask). IsTrue (is_taken domains t.dom)) tasks
    → Turning tasks domains places old told (length domains) news → news ≡ false → IsClosedFlagSet tasks (flag_holds told)
closed-told tasks domains places old told news known t e at task flag there run_action before =
    let within : at < length tasks = slice_get_within tasks at task there in
    let is : get_or tasks at task ≡ task = get_or_from_slice_get tasks at task task there in
    let taken : is_taken domains task.dom ≡ true = subst (λ (x : RunTask). is_taken domains x.dom ≡ true) is (known at task within) in
    let (i, d, below, same, own) = Any-from_list_any (λ (y : DomainConfig). y.id.0 == task.dom.0) domains taken in
    let here : slice_get domains i ≡ Some d = slice_get-get_or domains i d below ∙ ap Some same in
    closed-at tasks domains places told t.have (t.rest e) i at d task flag here (sym (eqb-true d.id.0 task.dom.0 own)) there run_action before

-- flags that are told in the least closed set

pub told-is : (tasks : List RunTask) (told : List Bool) → IsClosedFlagSet tasks (flag_holds told) → ((set : ℕ → Bool) → IsClosedFlagSet tasks set → Within told set) → (flag : ℕ) → HasFlag told flag ↔ IsRaisable tasks flag
told-is tasks told closed least flag = (λ h set c. least set c flag h, λ h. h (flag_holds told) closed)

passed-as : (A B : ℕ → Type 0) → ((f : ℕ) → A f → B f) → (d : RunAction) → IsPassed A d → IsPassed B d
passed-as A B to (Do call) h = tt
passed-as A B to (Tell flag) h = tt
passed-as A B to (Await flag) h = to flag h

all-passed-as : (A B : ℕ → Type 0) → ((f : ℕ) → A f → B f) → (dom : DomId) (tasks : List RunTask) → PassesAll A dom tasks → PassesAll B dom tasks
all-passed-as A B to dom tasks h =
    All-weaker (λ (t : RunTask). t.dom.0 ≡ dom.0 → IsPassed A t.run_action) (λ (t : RunTask). t.dom.0 ≡ dom.0 → IsPassed B t.run_action) (λ t p own. passed-as A B to t.run_action (p own)) tasks h

all-end-as : (A B : ℕ → Type 0) → ((f : ℕ) → A f → B f) → (tasks : List RunTask) (domains : List DomainConfig) → AllEnd A tasks domains → AllEnd B tasks domains
all-end-as A B to tasks domains h =
    All-weaker (λ (d : DomainConfig). PassesAll A d.id tasks) (λ (d : DomainConfig). PassesAll B d.id tasks) (λ d p. all-passed-as A B to d.id tasks p) domains h

waits-as : (A B : ℕ → Type 0) → ((f : ℕ) → A f → B f) → ((f : ℕ) → B f → A f) → (tasks : List RunTask) (dom : DomId) (line : ℕ) → WaitsAt A tasks dom line → WaitsAt B tasks dom line
waits-as A B to back tasks dom line w = record {
  at = w.at;
  task = w.task;
  flag = w.flag;
  there = w.there;
  own = w.own;
  number = w.number;
  awaits = w.awaits;
  before = all-passed-as A B to dom (take w.at tasks) w.before;
  unraised = λ b. w.unraised (back w.flag b);
}

pub judged-as : (A B : ℕ → Type 0) → ((f : ℕ) → A f ↔ B f) → (tasks : List RunTask) (domains : List DomainConfig) (o : Option ℕ) → IsJudged A tasks domains o → IsJudged B tasks domains o
judged-as A B to tasks domains None h = all-end-as A B (λ f. (to f).0) tasks domains h
judged-as A B to tasks domains (Some line) h = record {
  place = h.place;
  domain = h.domain;
  there = h.there;
  others = all-end-as A B (λ f. (to f).0) tasks (take h.place domains) h.others;
  waits = waits-as A B (λ f. (to f).0) (λ f. (to f).1) tasks h.domain.id line h.waits;
}

-- domain by domain

all-end-more : (told : List Bool) (tasks : List RunTask) (domains : List DomainConfig) (i : ℕ) (x : DomainConfig) → AllEnd (HasFlag told) tasks (take i domains) → i < length domains
    → PassesAll (HasFlag told) (get_or domains i x).id tasks → AllEnd (HasFlag told) tasks (take (i + 1) domains)
all-end-more told tasks domains i x so_far within here =
    subst (λ (l : List DomainConfig). AllEnd (HasFlag told) tasks l) (sym (rw add-one (take-suc domains i x within)))
    (All-push (λ (d : DomainConfig). PassesAll (HasFlag told) d.id tasks) (take i domains) (get_or domains i x) so_far here)

none-by : (told : List Bool) (tasks : List RunTask) (domains : List DomainConfig) (i : ℕ) (x : DomainConfig) (o : Option ℕ) → AllEnd (HasFlag told) tasks (take i domains) → i < length domains
    → WaitsOrEnds told tasks (get_or domains i x).id o → is_some o ≡ false → AllEnd (HasFlag told) tasks (take (i + 1) domains)
none-by told tasks domains i x None so_far within here e = all-end-more told tasks domains i x so_far within here
none-by told tasks domains i x (Some line) so_far within here e = absurd cc

one-by : (told : List Bool) (tasks : List RunTask) (domains : List DomainConfig) (i : ℕ) (x : DomainConfig) (o : Option ℕ) → ((f : ℕ) → HasFlag told f ↔ IsRaisable tasks f) → AllEnd (HasFlag told) tasks (take i domains)
    → i < length domains → WaitsOrEnds told tasks (get_or domains i x).id o → is_some o ≡ true → IsJudged (IsRaisable tasks) tasks domains o
one-by told tasks domains i x None to so_far within here e = absurd cc
one-by told tasks domains i x (Some line) to so_far within here e =
    judged-as (HasFlag told) (IsRaisable tasks) to tasks domains (Some line)
    (record { place = i; domain = get_or domains i x; there = slice_get-get_or domains i x within; others = so_far; waits = here })

pub none-waits : (told now : List Bool) (tasks : List RunTask) (domains : List DomainConfig) (i : ℕ) (x : DomainConfig) (o : Option ℕ) → AllEnd (HasFlag told) tasks (take i domains) → i < length domains → now ≡ told
    → WaitsOrEnds now tasks (get_or domains i x).id o → is_some o ≡ false → AllEnd (HasFlag told) tasks (take (i + 1) domains)
none-waits told now tasks domains i x o so_far within same here e =
    none-by told tasks domains i x o so_far within (subst (λ (l : List Bool). WaitsOrEnds l tasks (get_or domains i x).id o) same here) e

pub one-waits : (told now : List Bool) (tasks : List RunTask) (domains : List DomainConfig) (i : ℕ) (x : DomainConfig) (o : Option ℕ) → ((f : ℕ) → HasFlag told f ↔ IsRaisable tasks f)
    → AllEnd (HasFlag told) tasks (take i domains) → i < length domains → now ≡ told → WaitsOrEnds now tasks (get_or domains i x).id o → is_some o ≡ true → IsJudged (IsRaisable tasks) tasks domains o
one-waits told now tasks domains i x o to so_far within same here e =
    one-by told tasks domains i x o to so_far within (subst (λ (l : List Bool). WaitsOrEnds l tasks (get_or domains i x).id o) same here) e

pub nobody-waits : (told : List Bool) (tasks : List RunTask) (domains : List DomainConfig) (i : ℕ) → ((f : ℕ) → HasFlag told f ↔ IsRaisable tasks f) → AllEnd (HasFlag told) tasks (take i domains) → length domains ≤ i
    → IsJudged (IsRaisable tasks) tasks domains None
nobody-waits told tasks domains i to so_far all =
    judged-as (HasFlag told) (IsRaisable tasks) to tasks domains None (subst (λ (l : List DomainConfig). AllEnd (HasFlag told) tasks l) (take_all i domains all) so_far)
