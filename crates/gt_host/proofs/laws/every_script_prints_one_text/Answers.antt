use Rattle.gt_host.proofs.OneText.{audited-same, played-once}
use Rattle.gt_host.proofs.laws.every_script_prints_one_text.Goals as goal

pub returns-clause-run : goal.returns-clause-run
returns-clause-run c =
    audited-same c.every_alike_event_does_one_thing.ensures c.every_alike_run_shows_one_thing.ensures c.every_known_handle_has_one_subject.ensures

pub returns-clause-played : goal.returns-clause-played
returns-clause-played c =
    played-once c.every_alike_event_does_one_thing.ensures c.every_alike_run_shows_one_thing.ensures c.every_known_handle_has_one_subject.ensures
    c.every_text_has_one_meaning.ensures
