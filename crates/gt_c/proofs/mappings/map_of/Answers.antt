use Rattle.std.proofs.Common.{◌≡◌}
use Rattle.gt_attached.specs.Encoding.{encoded}
use Rattle.gt_model.specs.declared.request.Request.TheVariants as requests
use Rattle.gt_audit.specs.declared.record.Hypercall.TheVariants as hypercalls
use Rattle.gt_c.specs.Calling.{EncodesMapped, outcome_mapped, ref_at, dom_of}
use Rattle.gt_c.proofs.Made.{idle-there, made}
use Rattle.gt_c.proofs.mappings.map_of.Goals as goal

pub map_at-answered-requires : goal.map_at-answered-requires
map_at-answered-requires g c = record { idle = idle-there c.args.domain.now.held.value (c.is_turned_away.ensures.may c.if-is_turned_away.false) c.lent_mut-lent.ensures.value }

pub returns : goal.returns
returns g c =
    let x = c.lent_mut-lent.result.now in let answer = c.store_mapped.new.answer in
    let said : answer ≡ encoded (outcome_mapped x.attached.domain.seat.dom x.run c.map_at-answered.result) = cc in
    made answer (EncodesMapped (requests.Map (dom_of c.args.dom) (ref_at c.args.gref) c.args.flags) (hypercalls.Map (dom_of c.args.dom) (ref_at c.args.gref) c.args.flags) answer) (c.is_turned_away.ensures.may c.if-is_turned_away.false) c.lent_mut-lent.ensures.value
    (record {
      result = c.map_at-answered.result;
      encodes = said;
      stays = c.map_at-answered.ensures.stays;
      holds = (c.map_at-answered.ensures.answered, c.map_at-answered.ensures.recorded);
    })
