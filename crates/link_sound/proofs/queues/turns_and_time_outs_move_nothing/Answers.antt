use Rattle.link_sound.proofs.Prelude.{refl, map, highest, waiting_in, expected_of, forward, backward}
use Rattle.link_sound.proofs.Freed.{turn_stays, time_out_stays}
use Rattle.link_sound.proofs.queues.turns_and_time_outs_move_nothing.Goals as goal

pub returns-clause-turn : goal.returns-clause-turn
returns-clause-turn c a b kept_a kept_b covers s =
    let stays =
    turn_stays a.tells a.output (highest (waiting_in a)) b.input a.queued (map forward kept_a)
    (map backward kept_b) covers s.a_to_b in
    (stays.0, stays.1, refl, refl)

pub returns-clause-time_out : goal.returns-clause-time_out
returns-clause-time_out c a b =
    let stays = time_out_stays a.output (expected_of b.input) a.queued in
    (stays.0, stays.1, refl, refl)
