use Rattle.std.proofs.Common.{◌≡◌, Result, Ok, Err, ap, refl}
use Rattle.std.specs.Prelude.{OnErr}
use Rattle.gt_audit.specs.Trails.{TrailState}
use Rattle.gt_live.specs.declared.domain.Domain.{Domain}
use Rattle.gt_live.proofs.DomainKept.{retold}
use Rattle.gt_live.proofs.domain.Domain.reserve_records.Goals as goal

pub returns-clause-mine : goal.returns-clause-mine
returns-clause-mine c = λ b s may is. retold b s may c.args.self.now (record c.args.self.now { trail = c.reserve.new.self }) is refl refl refl

unchanged : {A E : Type 0} (r : Result A E) (d : Domain) (t : TrailState) → OnErr r (t ≡ d.trail) → OnErr r (record d { trail = t } ≡ d)
unchanged (Ok done) d t same = same
unchanged (Err fault) d t same = ap (λ (x : TrailState). record d { trail = x }) same

pub returns-clause-refused : goal.returns-clause-refused
returns-clause-refused c = unchanged c.reserve.result c.args.self.now c.reserve.new.self c.reserve.ensures.refused
