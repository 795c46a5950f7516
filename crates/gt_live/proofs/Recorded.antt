-- A call without a record, and then its record.
use Rattle.std.proofs.Common.{◌≡◌, ◌∙◌, refl, sym, ap, subst}
use Rattle.gt_types.specs.declared.DomId.{DomId}
use Rattle.gt_audit.specs.Trails.{AppendsRecord, TrailState}
use Rattle.gt_audit.specs.declared.record.Hypercall.{Hypercall}
use Rattle.gt_audit.specs.declared.record.Record.{Record}
use Rattle.gt_audit.specs.declared.record.Reply.{Reply}
use Rattle.gt_model.specs.declared.action.CallResult.{CallResult}
use Rattle.gt_model.specs.declared.request.Request.{Request}
use Rattle.gt_words.specs.Conditions.{Board, IsSameSeat, SeatOf}
use Rattle.gt_types.specs.declared.config.Config.{Config}
use Rattle.gt_live.specs.declared.domain.Domain.{Domain}
use Rattle.gt_live.specs.declared.monitor.Monitor.{Monitor}
use Rattle.gt_live.specs.Domains.{AllowRelation, Answered, AnswersQuietly, AnswersRecorded, IsDomainOf, KeepsPinned}
use Rattle.gt_live.specs.Domains.{StaysIn, StaysOfRun, reply_of, record_of_result}
use Rattle.gt_live.specs.Driving.{IsSame}
use Rattle.gt_live.proofs.DomainKept.{looked}
use Rattle.gt_live.proofs.Making.{still_seat}

-- a domain whose seat has only looked, or stored its header
pub still-mine : (b : Board) (c : Config) (may : AllowRelation) (d : Domain) (seat : SeatOf) → IsDomainOf b c may d
    → IsSameSeat d.seat seat → IsSame d.seat.view seat.view → IsDomainOf b c may (record d { seat = seat })
still-mine b c may d seat is same view =
    looked b c may d (record d { seat = seat }) is (still_seat b d.seat seat is.seat same) same.dom refl refl view

-- what a call without a record did and answered stays, and its record is recorded
pub recorded : {P : Type 0} (may : P → AllowRelation) (m : Monitor P) (d f e : Domain) (request : Request) (call : Hypercall)
    (reply : Reply) (verdict : CallResult) → StaysIn may m d f → AnswersQuietly may m d request verdict f
    → AppendsRecord f.trail (record { dom = f.seat.dom; call = call; reply = reply }) e.trail → reply ≡ reply_of verdict
    → e ≡ record f { trail = e.trail } → AnswersRecorded may m d request call verdict e
recorded may m d f e request call reply verdict stays quiet tells is same =
    let r : ◌≡◌ {A = Record} (record { dom = f.seat.dom; call = call; reply = reply }) (record_of_result d call verdict) =
    ap (λ (x : DomId). record { dom = x; call = call; reply = reply }) stays.1.dom
    ∙ ap (λ (x : Reply). record { dom = d.seat.dom; call = call; reply = x }) is in (
      subst (λ (x : Domain). Answered may m d request verdict x) (sym same) quiet.0,
      subst (λ (x : Domain). KeepsPinned d x) (sym same) quiet.1,
      subst (λ (t : TrailState). AppendsRecord t (record_of_result d call verdict) e.trail) quiet.2
          (subst (λ (x : Record). AppendsRecord f.trail x e.trail) r tells),
    )

pub recorded-stays : {P : Type 0} (may : P → AllowRelation) (m : Monitor P) (d f e : Domain) → StaysIn may m d f
    → StaysOfRun f e → e ≡ record f { trail = e.trail } → StaysIn may m d e
recorded-stays may m d f e stays mine same = (
  mine m.words m.config (may m.rights) stays.0,
  subst (λ (x : Domain). IsSameSeat d.seat x.seat) (sym same) stays.1,
)
