-- Bytes tell one thing as a script for `run`.
use Rattle.std.proofs.Common.{◌≡◌, length-take, inl, inr, ℕ, ◌<◌, List, length, take, Some, Result, Ok, Err}
use Rattle.std.proofs.Common.{sym, ap, ◌∙◌, subst, arith, get_or}
use Rattle.std.specs.List.{slice_get}
use Rattle.std.proofs.lemmas.Bool.{cases_lt}
use Rattle.std.proofs.lemmas.List.{get_or-take}
use Rattle.std.proofs.lemmas.Option.{slice_get_within, get_or_from_slice_get}
use Rattle.gt_types.specs.declared.DomId.{DomId}
use Rattle.gt_types.specs.declared.config.DomainConfig.{DomainConfig}
use Rattle.gt_script.specs.Contents.{Contents}
use Rattle.gt_script.specs.Lists.{RunAction, RunTask}
use Rattle.gt_script.specs.RunContents.{RunContents}
use Rattle.gt_script.specs.RunScripts.{ContentsReadAs, ReadsAsRun}
use Rattle.gt_script.specs.Script.{Wrong, in_script, in_policy}
use Rattle.gt_script.specs.Stuck.{AllEnd, CanEnd, IsPassed, IsRaisable, IsStuckAt, PassesAll, WaitsAt}
use Rattle.gt_script.specs.declared.command.ScriptCommand.TheVariants.{Run}
use Rattle.gt_script.specs.declared.faults.ScriptFault.{ScriptFault}
use Rattle.gt_script.specs.declared.faults.ScriptFaultKind.TheVariants.{Stuck}
use Rattle.gt_script.specs.declared.tasks.RunAction.TheVariants.{Await}
use Rattle.gt_script.proofs.OneLemmas.{OneMeaning, tells_one}

module _ (Told : ℕ → Type 0) (tasks : List RunTask) where
  passed : (d : RunAction) (flag : ℕ) → d ≡ Await flag → IsPassed Told d → Told flag
  passed d flag e h = subst (λ (k : RunAction). IsPassed Told k) e h

  -- a domain that gets beyond all tasks waits at none of them
  waits-not : (dom : DomId) (line : ℕ) → PassesAll Told dom tasks → WaitsAt Told tasks dom line → ⊥
  waits-not dom line all w =
      let within : w.at < length tasks = slice_get_within tasks w.at w.task w.there in
      let is : get_or tasks w.at w.task ≡ w.task = get_or_from_slice_get tasks w.at w.task w.task w.there in
      w.unraised (passed w.task.run_action w.flag w.awaits
      (subst (λ (t : RunTask). t.dom.0 ≡ dom.0 → IsPassed Told t.run_action) is (all w.at w.task within) w.own))

  -- nor at one of those that it got beyond
  waits-later : (dom : DomId) (one other : ℕ) (v : WaitsAt Told tasks dom one) (w : WaitsAt Told tasks dom other) → v.at < w.at → ⊥
  waits-later dom one other v w less =
      let within : w.at < length tasks = slice_get_within tasks w.at w.task w.there in
      let inside : v.at < length (take w.at tasks) = rw length-take (omega arith) in
      let is : get_or (take w.at tasks) v.at v.task ≡ v.task = get_or-take w.at tasks v.at v.task less ∙ get_or_from_slice_get tasks v.at v.task v.task v.there in
      v.unraised (passed v.task.run_action v.flag v.awaits
      (subst (λ (t : RunTask). t.dom.0 ≡ dom.0 → IsPassed Told t.run_action) is (w.before v.at v.task inside) v.own))

  same-task : (at : ℕ) (one other : RunTask) → slice_get tasks at ≡ Some one → slice_get tasks at ≡ Some other → one ≡ other
  same-task at one other there also =
      sym (get_or_from_slice_get tasks at one one there) ∙ get_or_from_slice_get tasks at other one also

  waits-once : (dom : DomId) (one other : ℕ) → WaitsAt Told tasks dom one → WaitsAt Told tasks dom other → one ≡ other
  waits-once dom one other v w = elim (cases_lt v.at w.at) [
    | inl less ↦ absurd (waits-later dom one other v w less)
    | inr more ↦ elim (cases_lt w.at v.at) [
      | inl less ↦ absurd (waits-later dom other one w v less)
      | inr also ↦
          let e : w.at ≡ v.at = omega (arith, more, also) in
          sym v.number ∙ ap (λ (t : RunTask). t.line)
          (same-task v.at v.task w.task v.there (subst (λ (k : ℕ). slice_get tasks k ≡ Some w.task) e w.there)) ∙ w.number
    ]
  ]

  module _ (domains : List DomainConfig) where
    -- a domain among these comes to its end
    ends-at : (ds : List DomainConfig) (place : ℕ) (d : DomainConfig) → AllEnd Told tasks ds → slice_get ds place ≡ Some d → CanEnd Told tasks d.id
    ends-at ds place d all there =
        subst (λ (x : DomainConfig). CanEnd Told tasks x.id) (get_or_from_slice_get ds place d d there)
        (all place d (slice_get_within ds place d there))

    stuck-not : (line : ℕ) → AllEnd Told tasks domains → IsStuckAt Told tasks domains line → ⊥
    stuck-not line all s = waits-not s.domain.id line (ends-at domains s.place s.domain all s.there) s.waits

    stuck-later : (one other : ℕ) (s : IsStuckAt Told tasks domains one) (t : IsStuckAt Told tasks domains other) → s.place < t.place → ⊥
    stuck-later one other s t less =
        let within : t.place < length domains = slice_get_within domains t.place t.domain t.there in
        let inside : s.place < length (take t.place domains) = rw length-take (omega arith) in
        let is : get_or (take t.place domains) s.place s.domain ≡ s.domain = get_or-take t.place domains s.place s.domain less ∙ get_or_from_slice_get domains s.place s.domain s.domain s.there in
        waits-not s.domain.id one (subst (λ (x : DomainConfig). CanEnd Told tasks x.id) is (t.others s.place s.domain inside)) s.waits

    same-domain : (at : ℕ) (one other : DomainConfig) → slice_get domains at ≡ Some one → slice_get domains at ≡ Some other → one ≡ other
    same-domain at one other there also =
        sym (get_or_from_slice_get domains at one one there) ∙ get_or_from_slice_get domains at other one also

    stuck-once : (one other : ℕ) → IsStuckAt Told tasks domains one → IsStuckAt Told tasks domains other → one ≡ other
    stuck-once one other s t = elim (cases_lt s.place t.place) [
      | inl less ↦ absurd (stuck-later one other s t less)
      | inr more ↦ elim (cases_lt t.place s.place) [
        | inl less ↦ absurd (stuck-later other one t s less)
        | inr also ↦
            let e : t.place ≡ s.place = omega (arith, more, also) in
            let is : t.domain ≡ s.domain = same-domain s.place t.domain s.domain (subst (λ (k : ℕ). slice_get domains k ≡ Some t.domain) e t.there) s.there in
            waits-once s.domain.id one other s.waits (subst (λ (x : DomainConfig). WaitsAt Told tasks x.id other) is t.waits)
      ]
    ]

same-fault : (f g : ScriptFault) → f.line ≡ g.line → f.kind ≡ Stuck → g.kind ≡ Stuck → f ≡ g
same-fault f g line kind other = λ i. record { line = line i; kind = (kind ∙ sym other) i }

-- contents say one thing
contents-one : (c : Contents) (x y : Result RunContents Wrong) → ContentsReadAs c x → ContentsReadAs c y → x ≡ y
contents-one c (Ok a) (Ok b) (ends, is) (also, other) = ap (λ (r : RunContents). Ok r) (is ∙ sym other)
contents-one c (Ok a) (Err (in_script f)) (ends, is) (stuck, kind) =
    absurd (stuck-not (IsRaisable c.tasks) c.tasks c.domains f.line ends stuck)
contents-one c (Ok a) (Err (in_policy g)) x y = absurd y
contents-one c (Err (in_script f)) (Ok a) (stuck, kind) (ends, is) =
    absurd (stuck-not (IsRaisable c.tasks) c.tasks c.domains f.line ends stuck)
contents-one c (Err (in_script f)) (Err (in_script g)) (stuck, kind) (also, other) =
    ap (λ (k : ScriptFault). Err (in_script k))
    (same-fault f g (stuck-once (IsRaisable c.tasks) c.tasks c.domains f.line g.line stuck also) kind other)
contents-one c (Err (in_script f)) (Err (in_policy g)) x y = absurd y
contents-one c (Err (in_policy g)) y a b = absurd a

same-contents : (a b : Contents) → (let x : Result Contents Wrong = Ok a in x ≡ Ok b) → a ≡ b
same-contents a b e = cc

never-both : (a : Contents) (w : Wrong) → (let x : Result Contents Wrong = Ok a in x ≡ Err w) → ⊥
never-both a w e = cc

same-wrong : (v w : Wrong) → (let x : Result Contents Wrong = Err v in x ≡ Err w) → v ≡ w
same-wrong v w e = cc

-- bytes tell one script for `run`, or one fault
pub run-one : OneMeaning → (bytes : List ℕ) (x y : Result RunContents Wrong) → ReadsAsRun bytes x → ReadsAsRun bytes y → x ≡ y
run-one one bytes (Ok a) (Ok b) (c, says, is) (d, said, other) =
    contents-one d (Ok a) (Ok b) (subst (λ (k : Contents). ContentsReadAs k (Ok a)) (same-contents c d (tells_one Run one bytes (Ok c) (Ok d) says said)) is) other
run-one one bytes (Ok a) (Err w) (c, says, is) (inl said) = absurd (never-both c w (tells_one Run one bytes (Ok c) (Err w) says said))
run-one one bytes (Ok a) (Err w) (c, says, is) (inr (d, said, other)) =
    contents-one d (Ok a) (Err w) (subst (λ (k : Contents). ContentsReadAs k (Ok a)) (same-contents c d (tells_one Run one bytes (Ok c) (Ok d) says said)) is) other
run-one one bytes (Err w) (Ok b) (inl says) (d, said, other) = absurd (never-both d w (tells_one Run one bytes (Ok d) (Err w) said says))
run-one one bytes (Err w) (Ok b) (inr (c, says, is)) (d, said, other) =
    contents-one d (Err w) (Ok b) (subst (λ (k : Contents). ContentsReadAs k (Err w)) (same-contents c d (tells_one Run one bytes (Ok c) (Ok d) says said)) is) other
run-one one bytes (Err v) (Err w) (inl says) (inl said) = ap (λ (k : Wrong). Err k) (same-wrong v w (tells_one Run one bytes (Err v) (Err w) says said))
run-one one bytes (Err v) (Err w) (inl says) (inr (d, said, other)) = absurd (never-both d v (tells_one Run one bytes (Ok d) (Err v) said says))
run-one one bytes (Err v) (Err w) (inr (c, says, is)) (inl said) = absurd (never-both c w (tells_one Run one bytes (Ok c) (Err w) says said))
run-one one bytes (Err v) (Err w) (inr (c, says, is)) (inr (d, said, other)) =
    contents-one d (Err v) (Err w) (subst (λ (k : Contents). ContentsReadAs k (Err v)) (same-contents c d (tells_one Run one bytes (Ok c) (Ok d) says said)) is) other
