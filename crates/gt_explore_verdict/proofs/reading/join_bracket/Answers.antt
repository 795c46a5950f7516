use Rattle.std.proofs.Common.{◌≡◌, ◌∙◌, ◌++◌, ◌||◌, ap, arith, false, map, map-id, refl, sym, Bool, List}
use Rattle.std.specs.Prelude.{if◌then◌else◌}
use Rattle.std.proofs.iter.Yields.{gives_Drains}
use Rattle.std.proofs.lemmas.Iterator.Adapters.{YieldsList-from_vec}
use Rattle.std.proofs.lemmas.List.{map-append}
use Rattle.std.proofs.lemmas.Result.{MatchResult-weaker}
use Rattle.gt_explore_verdict.specs.Expressions.{Asked, condition_asked}
use Rattle.gt_explore_verdict.specs.Reading.{LevelAsked}
use Rattle.gt_explore_verdict.specs.declared.conditions.Condition.{Condition}
use Rattle.std.specs.Vec.Iter.{into_iter_steps}
use Rattle.std.specs.Global.{Global}
use Rattle.gt_explore_verdict.proofs.reading.join_bracket.Goals as goal

neither : (a b : Bool) (x y : List Asked) → a ≡ false → b ≡ false → y ≡ (if a || b then x else y)
neither a b x y p q = rw p (rw q refl)

pub returns : goal.returns
returns c =
    let level = c.args.level.now in
    let more = c.args.inner.joined in
    let ran = c.extend.ensures.ran in
    MatchResult-weaker c.extend.result ran.4
    (λ u d.
    let taken : ran.1 ≡ more.items =
    sym (map-id ran.1)
    ∙ gives_Drains (into_iter_steps {X = Condition} {Z = Global}) (λ x. x) ran.1 more.items ran.0
    (YieldsList-from_vec {s = ran.0} more.items ran.2.0 (ran.2.1 ∙ omega arith)).runs d in
    let asked : map condition_asked c.extend.new.self.items
    ≡ map condition_asked level.joined.items ++ map condition_asked more.items =
    ap (λ (cs : List Condition). map condition_asked cs) ran.3.0
    ∙ (map-append condition_asked level.joined.items ran.1
    ∙ ap (λ (cs : List Condition). map condition_asked level.joined.items ++ map condition_asked cs) taken) in
    ap (λ (ts : List Asked). let l : LevelAsked = record {
      has_any = level.has_any;
      has_all = level.has_all;
      wants = level.wants;
      negated = level.negated;
      joined = ts;
    } in l) (asked ∙ neither level.negated c.args.inner.has_any _ _ c.if-level.false c.if-inner.false))
    (λ _ _. tt)
