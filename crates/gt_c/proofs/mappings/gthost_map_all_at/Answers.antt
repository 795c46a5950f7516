use Rattle.std.proofs.Common.{◌∙◌, ap, inl, inr, map, refl, Ok, Err}
use Rattle.gt_types.specs.declared.DomId.{DomId}
use Rattle.gt_c.specs.Several.{AreUnchanged, MapsNamed, Passed, named_each}
use Rattle.gt_c.proofs.Made.{idle-there, made-telling, unmade-telling}
use Rattle.gt_c.proofs.mappings.gthost_map_all_at.Goals as goal

pub returns-then-names-requests : goal.returns-then-names-requests
returns-then-names-requests c =
    let p : Passed =
    record {
      requests = c.args.requests.now;
      requests_left = c.args.requests.now;
      names = c.args.names.now;
      names_left = c.args.names.now;
    } in
    unmade-telling c.of.result (AreUnchanged p) (MapsNamed p c.of.result) (c.turned_away.ensures.may c.in_default.is)
    (λ d. inl (c.if-names-requests.true, (refl, refl), c.of.ensures, refl))

pub map_all-requires : goal.map_all-requires
map_all-requires c = record { idle = idle-there c.args.domain.now.held.value (c.turned_away.ensures.may c.in_default.is) c.lent_mut-lent.ensures.value }

pub returns-in-Ok : goal.returns-in-Ok
returns-in-Ok c =
    let x = c.lent_mut-lent.result.now in
    let p : Passed =
    record {
      requests = c.args.requests.now;
      requests_left = c.map_all.new.requests;
      names = c.args.names.now;
      names_left = c.name_each.new.names;
    } in
    made-telling c.of-in-Ok.result (AreUnchanged p) (MapsNamed p c.of-in-Ok.result) (c.turned_away.ensures.may c.in_default.is) c.lent_mut-lent.ensures.value
    (inr (record {
      result = Ok tt;
      encodes = c.of-in-Ok.ensures;
      stays = c.in-Ok.ensures.stays;
      maps = c.in-Ok.ensures.maps;
      names = c.name_each.ensures
          ∙ ap (λ (d : DomId). map (named_each d x.run) c.map_all.new.requests) (c.dom.ensures ∙ c.in-Ok.ensures.stays.2.dom);
      asked = c.in-Ok.ensures.asked;
    }))

pub returns-in-Err : goal.returns-in-Err
returns-in-Err c =
    let p : Passed =
    record {
      requests = c.args.requests.now;
      requests_left = c.map_all.new.requests;
      names = c.args.names.now;
      names_left = c.args.names.now;
    } in
    made-telling c.of-in-Err.result (AreUnchanged p) (MapsNamed p c.of-in-Err.result) (c.turned_away.ensures.may c.in_default.is) c.lent_mut-lent.ensures.value
    (inr (record {
      result = Err c.in-Err.refused;
      encodes = c.of-in-Err.ensures;
      stays = c.in-Err.ensures.stays;
      maps = c.in-Err.ensures.maps;
      names = refl;
      asked = c.in-Err.ensures.asked;
    }))
