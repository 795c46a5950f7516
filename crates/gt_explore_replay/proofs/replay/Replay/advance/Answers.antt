use Rattle.std.proofs.Common.{rules, ◌≡◌, ◌<◌, length, get_or, true, false, refl, ap, sym, subst, List, Bool}
use Rattle.std.proofs.Math.ListN.{set}
use Rattle.std.proofs.lemmas.Option.{slice_get_read}
use Rattle.gt_explore_replay.specs.Orders.{passed, raised}
use Rattle.gt_explore_replay.specs.Walking.{Moves}
use Rattle.gt_explore_replay.specs.declared.walker.Walker.{Walker}
use Rattle.gt_explore_replay.proofs.Coming.{comes_made, comes_passed, comes_raised}
use Rattle.gt_explore_replay.proofs.Following.{not_both}
use Rattle.gt_explore_replay.proofs.Moving.{awaits, tells}
use Rattle.gt_explore_replay.proofs.Whole.{await_comes, await_told, begin_comes, give_comes, tell_below, tell_comes, tick_comes}
use Rattle.gt_explore_replay.proofs.replay.Replay.advance.Goals as goal

pub tick-requires : goal.tick-requires
tick-requires c = c.is_calling.ensures.open c.if-is_calling.true

pub give_back-requires-clause-end : goal.give_back-requires-clause-end
give_back-requires-clause-end c = c.in_default.ensures.end

pub give_back-requires-clause-idle : goal.give_back-requires-clause-idle
give_back-requires-clause-idle c = c.is_calling.ensures.idle c.if-is_calling.false

pub begin_call-requires-clause-next : goal.begin_call-requires-clause-next
begin_call-requires-clause-next c = sym c.in-Some.ensures.task

pub begin_call-requires-clause-room : goal.begin_call-requires-clause-room
begin_call-requires-clause-room c = c.in-Some.ensures.room refl

pub begin_call-requires-clause-does : goal.begin_call-requires-clause-does
begin_call-requires-clause-does c = c.in-Do.is

pub begin_call-requires-clause-idle : goal.begin_call-requires-clause-idle
begin_call-requires-clause-idle c = c.is_calling.ensures.idle c.if-is_calling.false

pub skip-requires : goal.skip-requires
skip-requires c = c.in-Some.ensures.room refl

pub skip-requires-then-is_raised : goal.skip-requires-then-is_raised
skip-requires-then-is_raised c = c.in-Some.ensures.room refl

pub returns-then-is_calling-clause-walks : goal.returns-then-is_calling-clause-walks
returns-then-is_calling-clause-walks c = λ k hs come.
    let within : c.args.turn.place < length c.args.self.now.walkers.items = search rules in
    comes_made k hs c.args.self.now _ c.args.turn.place c.index_mut-walker.result.now c.tick.new.self c.as_slice-types.result.now c.tick.result come
    (slice_get_read c.args.self.now.walkers.items _ c.args.turn.place c.index_mut-walker.result.now refl within c.index_mut-walker.ensures.value) c.as_slice-types.ensures.value
    c.tick.ensures.config c.tick.ensures.rights refl refl refl c.tick.ensures.makes

pub returns-in_default-clause-walks : goal.returns-in_default-clause-walks
returns-in_default-clause-walks c = λ k hs come.
    let within : c.args.turn.place < length c.args.self.now.walkers.items = search rules in
    comes_made k hs c.args.self.now _ c.args.turn.place c.index_mut-walker.result.now c.give_back.new.self c.as_slice-types.result.now c.give_back.result come
    (slice_get_read c.args.self.now.walkers.items _ c.args.turn.place c.index_mut-walker.result.now refl within c.index_mut-walker.ensures.value) c.as_slice-types.ensures.value
    c.give_back.ensures.config c.give_back.ensures.rights refl refl refl (c.give_back.ensures.makes c.as_slice-types.result.now)

pub returns-in-Do-clause-walks : goal.returns-in-Do-clause-walks
returns-in-Do-clause-walks c = λ k hs come.
    let within : c.args.turn.place < length c.args.self.now.walkers.items = search rules in
    comes_made k hs c.args.self.now _ c.args.turn.place c.index_mut-walker.result.now c.begin_call.new.self c.as_slice-types.result.now c.begin_call.result come
    (slice_get_read c.args.self.now.walkers.items _ c.args.turn.place c.index_mut-walker.result.now refl within c.index_mut-walker.ensures.value) c.as_slice-types.ensures.value
    c.begin_call.ensures.config c.begin_call.ensures.rights refl refl refl c.begin_call.ensures.makes

pub returns-then-raise-clause-walks : goal.returns-then-raise-clause-walks
returns-then-raise-clause-walks c = λ k hs come.
    let within : c.args.turn.place < length c.args.self.now.walkers.items = search rules in
    let v : Walker = c.index_mut-walker.result.now in
    comes_raised k hs c.args.self.now _ c.args.turn.place c.in-Tell.flag v c.skip.new.self come
    (slice_get_read c.args.self.now.walkers.items _ c.args.turn.place v refl within c.index_mut-walker.ensures.value)
    (subst (λ (w : Walker). Moves c.args.self.now.types.items v (raised v.dom c.in-Tell.flag) w) (sym c.skip.ensures)
    (tells c.args.self.now.types.items v c.in-Some.task.now c.in-Tell.flag (sym c.in-Some.ensures.task) c.in-Tell.is (c.is_calling.ensures.idle c.if-is_calling.false)))
    refl refl refl (c.raise.ensures.raised c.if-raise.true)

pub returns-then-is_raised-clause-walks : goal.returns-then-is_raised-clause-walks
returns-then-is_raised-clause-walks c = λ k hs come.
    let within : c.args.turn.place < length c.args.self.now.walkers.items = search rules in
    let v : Walker = c.index_mut-walker.result.now in
    comes_passed k hs c.args.self.now _ c.args.turn.place c.in-Await.flag v c.skip-then-is_raised.new.self come
    (slice_get_read c.args.self.now.walkers.items _ c.args.turn.place v refl within c.index_mut-walker.ensures.value)
    (subst (λ (w : Walker). Moves c.args.self.now.types.items v (passed v.dom c.in-Await.flag) w) (sym c.skip-then-is_raised.ensures)
    (awaits c.args.self.now.types.items v c.in-Some.task.now c.in-Await.flag (sym c.in-Some.ensures.task) c.in-Await.is (c.is_calling.ensures.idle c.if-is_calling.false)))
    (subst (λ (l : List Bool). get_or l c.in-Await.flag false ≡ true) c.as_slice.ensures.value (c.is_raised.ensures.raised c.if-is_raised.true))
    refl refl refl refl

pub returns-then-is_calling-clause-abreast : goal.returns-then-is_calling-clause-abreast
returns-then-is_calling-clause-abreast c = λ k hs ks x u j abreast at leads may.
    let within : c.args.turn.place < length c.args.self.now.walkers.items = search rules in
    tick_comes k hs ks c.args.self.now _ x c.args.turn.place c.args.turn.choice u j c.index_mut-walker.result.now c.tick.new.self c.as_slice-types.result.now c.tick.result abreast at
    (slice_get_read c.args.self.now.walkers.items _ c.args.turn.place c.index_mut-walker.result.now refl within c.index_mut-walker.ensures.value) c.as_slice-types.ensures.value
    c.tick.ensures.config c.tick.ensures.rights refl refl refl (c.is_calling.ensures.open c.if-is_calling.true) leads may c.tick.ensures.does

pub returns-in_default-clause-abreast : goal.returns-in_default-clause-abreast
returns-in_default-clause-abreast c = λ k hs ks x u j abreast at leads may.
    let within : c.args.turn.place < length c.args.self.now.walkers.items = search rules in
    give_comes k hs ks c.args.self.now _ x c.args.turn.place c.args.turn.choice u j c.index_mut-walker.result.now c.give_back.new.self c.give_back.result abreast at
    (slice_get_read c.args.self.now.walkers.items _ c.args.turn.place c.index_mut-walker.result.now refl within c.index_mut-walker.ensures.value)
    c.give_back.ensures.config c.give_back.ensures.rights refl refl refl c.in_default.ensures.end (c.is_calling.ensures.idle c.if-is_calling.false) leads may c.give_back.ensures.does

pub returns-in-Do-clause-abreast : goal.returns-in-Do-clause-abreast
returns-in-Do-clause-abreast c = λ k hs ks x u j abreast at leads may.
    let within : c.args.turn.place < length c.args.self.now.walkers.items = search rules in
    begin_comes k hs ks c.args.self.now _ x c.args.turn.place c.args.turn.choice u j c.index_mut-walker.result.now c.begin_call.new.self c.in-Some.task.now _ c.as_slice-types.result.now c.begin_call.result abreast at
    (slice_get_read c.args.self.now.walkers.items _ c.args.turn.place c.index_mut-walker.result.now refl within c.index_mut-walker.ensures.value) c.as_slice-types.ensures.value
    c.begin_call.ensures.config c.begin_call.ensures.rights refl refl refl (sym c.in-Some.ensures.task) c.in-Do.is (c.is_calling.ensures.idle c.if-is_calling.false) leads may c.begin_call.ensures.does

pub returns-then-raise-clause-abreast : goal.returns-then-raise-clause-abreast
returns-then-raise-clause-abreast c = λ k hs ks x u j abreast at leads may.
    let within : c.args.turn.place < length c.args.self.now.walkers.items = search rules in
    let v : Walker = c.index_mut-walker.result.now in (
      refl,
      tell_comes k hs ks c.args.self.now _ x c.args.turn.place c.args.turn.choice u j v c.in-Some.task.now c.in-Tell.flag abreast at
          (slice_get_read c.args.self.now.walkers.items _ c.args.turn.place v refl within c.index_mut-walker.ensures.value)
          refl refl (ap (λ (w : Walker). set c.args.self.now.walkers.items c.args.turn.place w) c.skip.ensures) (c.raise.ensures.raised c.if-raise.true)
          (sym c.in-Some.ensures.task) c.in-Tell.is (c.is_calling.ensures.idle c.if-is_calling.false) leads,
    )

pub returns-then-is_raised-clause-abreast : goal.returns-then-is_raised-clause-abreast
returns-then-is_raised-clause-abreast c = λ k hs ks x u j abreast at leads may.
    let within : c.args.turn.place < length c.args.self.now.walkers.items = search rules in
    let v : Walker = c.index_mut-walker.result.now in (
      refl,
      await_comes k hs ks c.args.self.now _ x c.args.turn.place c.args.turn.choice u j v c.in-Some.task.now c.in-Await.flag abreast at
          (slice_get_read c.args.self.now.walkers.items _ c.args.turn.place v refl within c.index_mut-walker.ensures.value)
          refl refl (ap (λ (w : Walker). set c.args.self.now.walkers.items c.args.turn.place w) c.skip-then-is_raised.ensures) refl
          (sym c.in-Some.ensures.task) c.in-Await.is (c.is_calling.ensures.idle c.if-is_calling.false) leads,
    )

pub returns-else-raise-clause-abreast : goal.returns-else-raise-clause-abreast
returns-else-raise-clause-abreast c = λ k hs ks x u j abreast at leads may.
    let within : c.args.turn.place < length c.args.self.now.walkers.items = search rules in
    let v : Walker = c.index_mut-walker.result.now in
    let below = tell_below k hs ks c.args.self.now c.args.turn.place u v c.in-Some.task.now c.in-Tell.flag abreast at
    (slice_get_read c.args.self.now.walkers.items _ c.args.turn.place v refl within c.index_mut-walker.ensures.value) (sym c.in-Some.ensures.task) c.in-Tell.is in
    absurd (not_both c.raise.result (c.raise.ensures.place below) c.if-raise.false)

pub returns-else-is_raised-clause-abreast : goal.returns-else-is_raised-clause-abreast
returns-else-is_raised-clause-abreast c = λ k hs ks x u j abreast at leads may.
    let within : c.args.turn.place < length c.args.self.now.walkers.items = search rules in
    let v : Walker = c.index_mut-walker.result.now in
    let raised_so = await_told k hs ks c.args.self.now x c.args.turn.place c.args.turn.choice u j v c.in-Some.task.now c.in-Await.flag abreast at
    (slice_get_read c.args.self.now.walkers.items _ c.args.turn.place v refl within c.index_mut-walker.ensures.value) (sym c.in-Some.ensures.task) c.in-Await.is
    (c.is_calling.ensures.idle c.if-is_calling.false) leads may in
    absurd (not_both c.is_raised.result (c.is_raised.ensures.passes (subst (λ (l : List Bool). get_or l c.in-Await.flag false ≡ true) (sym c.as_slice.ensures.value) raised_so)) c.if-is_raised.false)
