use Rattle.std.proofs.Common.{◌≡◌, List}
use Rattle.gt_model.specs.declared.handle.Handle.{Handle}
use Rattle.gt_handles.specs.Handles.{count_of}
use Rattle.gt_words.specs.Conditions.{IsSameSeat}
use Rattle.gt_live.specs.Domains.{BelongsTo, Released}
use Rattle.gt_live.proofs.domain.Domain.release_all.Given as goal

abbrev pub invariant-mappings : goal.invariant-mappings
invariant-mappings g l = record {
  mine : BelongsTo g.P.Allows.may l.monitor l.self;
  seat : IsSameSeat l.fn.self.seat l.self.seat;
  silent : l.self.trail ≡ l.fn.self.trail;
  released : (handles : List Handle) × Released l.monitor.words.layout handles l.fn.self.mappings l.fn.self.seat.view l.self.mappings l.self.seat.view;
}

abbrev pub decreases-mappings : goal.decreases-mappings
decreases-mappings g l = count_of l.self.mappings
