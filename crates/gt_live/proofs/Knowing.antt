-- What a domain knows by itself at a call's beginning, and calls that are answered there.
use Rattle.std.proofs.Common.{◌≡◌, ℕ, refl, sym, ap, ◌∙◌, subst, List, []}
use Rattle.std.specs.Prelude.{is_some}
use Rattle.gt_types.specs.declared.config.Config.{Config}
use Rattle.gt_model.specs.declared.header.Header.{Header}
use Rattle.gt_roster.specs.Frameless.{IsRunnable}
use Rattle.gt_words.specs.Conditions.{Board, HasDomain}
use Rattle.gt_words.specs.Laws.{domain_of_run, seat_at}
use Rattle.gt_word_history.specs.Rule.{IsKeptHeader, Layout, layout_of}
use Rattle.gt_word_history.specs.Views.{own_table}
use Rattle.gt_word_history.specs.declared.view.View.{View}
use Rattle.gt_model.specs.declared.handle.Handle.{Handle}
use Rattle.gt_handles.specs.Handles.{HandleMap}
use Rattle.gt_handles.specs.Listing.{IsInserted}
use Rattle.gt_model.specs.declared.action.CallValue.{CallValue}
use Rattle.gt_model.specs.declared.action.CallValue.TheVariants as call_values
use Rattle.gt_model.specs.declared.action.CallResult.{CallResult}
use Rattle.gt_model.specs.declared.action.CallResult.TheVariants.{Granted, Given, Mapped, Refused}
use Rattle.gt_model.specs.declared.held.HeldPin.{HeldPin}
use Rattle.gt_calls.specs.declared.known.OwnerEntry.{OwnerEntry}
use Rattle.gt_model.specs.declared.request.OpenRequest.{OpenRequest}
use Rattle.gt_model.specs.declared.request.OpenRequest.TheVariants as asks
use Rattle.gt_calls.specs.Known.{knowledge_of}
use Rattle.gt_live.specs.declared.domain.Domain.{Domain}
use Rattle.gt_live.specs.Domains.{IsDomainOf, AllowRelation, done_by, frames_granted, knowledge, verdict_of}
use Rattle.gt_live.specs.Domains.{verdict_of_frames}
use Rattle.gt_live.specs.Driving.{Knows}
use Rattle.gt_live.specs.Walks.{CarriesFound, CarriesSteps}
use Rattle.gt_types.specs.declared.denial.Facts.{Facts}
use Rattle.gt_types.specs.declared.denial.Facts.TheVariants as facts
use Rattle.gt_live.specs.Ending.{IsAnswerTo, IsAtOnce, IsWordless}

-- what is known by lent parts is what is known
pub same-knowledge : (c : Config) (may : AllowRelation) (d : Domain) (own : List OwnerEntry) (h : Header) → own ≡ d.own.items → h ≡ own_table d.seat.view
    → knowledge_of c.domains.items c.first_gen may own h d.mappings ≡ knowledge c may d
same-knowledge c may d own h e f =
    ap (λ (os : List OwnerEntry). knowledge_of c.domains.items c.first_gen may os h d.mappings) e ∙ ap (λ (x : Header). knowledge_of c.domains.items c.first_gen may d.own.items x d.mappings) f

-- a domain knows its own
pub knows-own : (b : Board) (c : Config) (may : AllowRelation) (d : Domain) → IsRunnable c → b.layout ≡ layout_of c → IsDomainOf b c may d → IsKeptHeader (own_table d.seat.view) → Knows (knowledge c may d) b.layout d.seat.dom d.seat.view
knows-own b c may d limits run is kept = record {
  named = is.seat.named;
  inside = is.seat.inside;
  stands = seat_at c b d.seat limits.distinct run is.seat;
  run = λ dm x e. subst (λ (k : Layout). HasDomain k dm) (sym run) ((domain_of_run c dm).0 (ap is_some e));
  header = kept;
  rows = is.rows;
  generations = is.generations;
  mapped = λ h m e. (is.mapped h m e).pin;
}

-- a call that is answered at its beginning

pub at-once-answer : (request : OpenRequest) (verdict : CallResult) → IsAtOnce request verdict → IsAnswerTo request verdict
at-once-answer request (Refused denial) is = tt
at-once-answer (asks.Demote gref) Granted is = tt
at-once-answer (asks.Promote gref) Granted is = tt
at-once-answer (asks.SetVersion version) Granted is = tt
at-once-answer (asks.SetupTable frames) (Given (call_values.Frames n)) is = tt
at-once-answer _ _ is = absurd is

-- an answer at once carries no word
wordless : (k : Layout) (v : View) (f : Facts) → IsWordless f → CarriesFound k v [] f
wordless k v (facts.Entry dom gref word) no_word = absurd no_word
wordless k v (facts.Header dom word) no_word = absurd no_word
wordless k v facts.None no_word = tt
wordless k v (facts.Policy source target perm) no_word = tt
wordless k v (facts.Field field) no_word = tt

pub once-tells : (k : Layout) (v : View) (request : OpenRequest) (verdict : CallResult) → IsAtOnce request verdict → CarriesSteps k v [] verdict
once-tells k v request (Refused denial) is = wordless k v denial.facts is
once-tells k v request Granted is = tt
once-tells k v request (Given value) is = tt
once-tells k v request (Mapped p) is = tt

-- the answers that verdicts give

-- the request is answered Ok without a value, or refused
abbrev pub IsPlain : OpenRequest → Type 0
IsPlain (asks.Grant gref entry) = Unit {0}
IsPlain (asks.Revoke gref) = Unit {0}
IsPlain (asks.Withdraw gref) = Unit {0}
IsPlain (asks.Demote gref) = Unit {0}
IsPlain (asks.Promote gref) = Unit {0}
IsPlain (asks.Unmap handle) = Unit {0}
IsPlain (asks.SetVersion version) = Unit {0}
IsPlain request = ⊥

plain-mapped : (request : OpenRequest) (p : HeldPin) → IsPlain request → IsAnswerTo request (Mapped p) → ⊥
plain-mapped (asks.Grant gref entry) p is a = a
plain-mapped (asks.Revoke gref) p is a = a
plain-mapped (asks.Withdraw gref) p is a = a
plain-mapped (asks.Demote gref) p is a = a
plain-mapped (asks.Promote gref) p is a = a
plain-mapped (asks.Unmap handle) p is a = a
plain-mapped (asks.SetVersion version) p is a = a
plain-mapped _ p is a = absurd is

plain-given : (request : OpenRequest) (value : CallValue) → IsPlain request → IsAnswerTo request (Given value) → ⊥
plain-given (asks.Grant gref entry) value is a = a
plain-given (asks.Revoke gref) value is a = a
plain-given (asks.Withdraw gref) value is a = a
plain-given (asks.Demote gref) value is a = a
plain-given (asks.Promote gref) value is a = a
plain-given (asks.Unmap handle) value is a = a
plain-given (asks.SetVersion version) value is a = a
plain-given _ value is a = absurd is

pub done-back : (request : OpenRequest) (verdict : CallResult) → IsPlain request → IsAnswerTo request verdict → verdict ≡ verdict_of (done_by verdict)
done-back request Granted is a = refl
done-back request (Refused denial) is a = refl
done-back request (Mapped p) is a = absurd (plain-mapped request p is a)
done-back request (Given value) is a = absurd (plain-given request value is a)

pub frames-back : (n : ℕ) (verdict : CallResult) → IsAnswerTo (asks.SetupTable n) verdict → verdict ≡ verdict_of_frames (frames_granted verdict)
frames-back n (Refused denial) a = refl
frames-back n (Given (call_values.Frames m)) a = refl
frames-back n _ a = absurd a

-- a map's answer

pub roomier-inserted : (old' old new : HandleMap HeldPin) (h : Handle) (p : HeldPin) → old' ≡ record old { room = old'.room } → IsInserted old' new h p → IsInserted old new h p
roomier-inserted old' old new h p room i =
    let j = subst (λ (z : HandleMap HeldPin). IsInserted z new h p) room i in record { fresh = j.fresh; updates = j.updates; count = j.count; given = j.given }
