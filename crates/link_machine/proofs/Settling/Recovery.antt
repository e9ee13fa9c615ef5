-- One side recovers: its direction comes to rest, and the other direction stays at rest if it was.
use Rattle.link_machine.proofs.Prelude.{◌≡◌, ℕ, ◌%◌, ◌&&◌, Bool, true, false, not, MatchBool, Option, List, [], ◌∷◌, length, refl, sym, ap, ◌∙◌, subst, if◌then◌else◌, arith, length-drop, map, and_parts, and_from, Input, Output, times_out, Outstanding, from_ack, at_rest, Report, InputOk, InputRetryStopped, InputErrorStopped, IsBetween, forward, backward, Side, A, B, LinkState, at_end, from_end, is_silent, has_none, timed_out_at, IsSoundLink, first_fires, NextOf, Act, Fire, Reached, At, FoundAt, goes, OnState, is_retry_stopped, has_failed, may_fire, is_none, is_done, is_ok, first_rests, TakesTurn, Restarts, TimesOut, Requests, Recovers, IsAtRest}
use Rattle.link_sound.specs.Marks.{Forward, Backward}
use Rattle.link_machine.proofs.Machine.{fired_keeps, none_failed, from_end_keeps}
use Rattle.link_machine.proofs.Settling.Lines.{goes_one}
use Rattle.link_machine.proofs.Settling.Drains.{goes_none, goes_found, goes-append, on_state, AreEmpty}
use Rattle.link_machine.proofs.Settling.Restarting.{Kept, IsAwake, restarted, Rested, requested}

-- ---- a time-out, where it may fire

record Stopped (near : Side) (s m : LinkState) : Type 0 where
  kept : Kept near s m
  window : Outstanding
  stopped : (from_end near m).a.output ≡ Output.ErrorStopped false window

empty_is_silent : (s : LinkState) → AreEmpty s → is_silent s ≡ true
empty_is_silent s none =
    and_from (has_none s.wire_a.chars) (has_none s.wire_b.chars) (ap has_none none.0)
    (ap has_none none.1)

fired_is : (near : Side) (s : LinkState) → AreEmpty s
    → timed_out_at near s ≡ at_end near first_fires s
fired_is near s none =
    ap (λ (b : Bool). if b then at_end near first_fires s else s) (empty_is_silent s none)

fired_output : (near : Side) (s : LinkState)
    → (from_end near (at_end near first_fires s)).a.output ≡ times_out (from_end near s).a.output
fired_output A s = refl
fired_output B s = refl

fired_none : (near : Side) (s : LinkState) → AreEmpty s → AreEmpty (at_end near first_fires s)
fired_none A s none = none
fired_none B s none = none

fired_other : (near : Side) (s : LinkState) → IsAtRest (from_end near s).b (from_end near s).a
    → IsAtRest (from_end near (at_end near first_fires s)).b
    (from_end near (at_end near first_fires s)).a
fired_other A s rests = record {
  ack = rests.ack;
  report = rests.report;
  sender_ok = rests.sender_ok;
  receiver_ok = rests.receiver_ok;
  place = rests.place;
}
fired_other B s rests = record {
  ack = rests.ack;
  report = rests.report;
  sender_ok = rests.sender_ok;
  receiver_ok = rests.receiver_ok;
  place = rests.place;
}

fires : (near : Side) (s : LinkState) (all : List Act) (w : Outstanding) → IsSoundLink s
    → AreEmpty s → times_out (from_end near s).a.output ≡ Output.ErrorStopped false w
    → all ≡ Fire near ∷ [] → OnState (Stopped near s) (goes (At s) all)
fires near s all w l none is fire =
    let next = at_end near first_fires s in
    let there : goes (At s) all ≡ At next =
    ap (goes (At s)) fire ∙ goes_one s (Fire near) ∙ ap At (fired_is near s none) in
    subst (λ (r : Reached). OnState (Stopped near s) r) (sym there) (record {
      kept = record {
        sound =
            subst (λ (m : LinkState). IsSoundLink m) (fired_is near s none) (fired_keeps near s l);
        none = fired_none near s none;
        other = fired_other near s;
      };
      window = w;
      stopped = fired_output near s ∙ is;
    })

fires_none : (near : Side) (s : LinkState) (all : List Act) (w : Outstanding) → IsSoundLink s
    → AreEmpty s → (from_end near s).a.output ≡ Output.ErrorStopped false w
    → all ≡ [] → OnState (Stopped near s) (goes (At s) all)
fires_none near s all w l none is nothing =
    subst (λ (r : Reached). OnState (Stopped near s) r)
    (sym (ap (goes (At s)) nothing ∙ goes_none (At s))) (record {
      kept = record { sound = l; none = none; other = λ rests. rests };
      window = w;
      stopped = is;
    })

times_out_by : (near : Side) (s : LinkState) (all : List Act) (o : Output)
    → (from_end near s).a.output ≡ o → is_retry_stopped o ≡ false → has_failed o ≡ false
    → IsSoundLink s → AreEmpty s → MatchBool (may_fire o) (all ≡ Fire near ∷ []) (all ≡ [])
    → OnState (Stopped near s) (goes (At s) all)
times_out_by near s all (Output.Ok w) is awake alive l none does =
    fires near s all w l none (ap times_out is) does
times_out_by near s all (Output.RetryStopped w) is awake alive l none does = absurd cc
times_out_by near s all (Output.ErrorStopped false w) is awake alive l none does =
    fires_none near s all w l none is does
times_out_by near s all (Output.ErrorStopped true w) is awake alive l none does =
    fires near s all w l none (ap times_out is) does
times_out_by near s all Output.Failed is awake alive l none does = absurd cc

-- ---- a direction at rest by the tests

done_output : (o : Output) → is_done o ≡ true
    → (ack : ℕ) × (report : Option Report) × (o ≡ Output.Ok (from_ack ack report))
done_output (Output.Ok w) done = (w.oldest, w.report, none_out w w.prios refl done)
  where
    none_out : (w : Outstanding) (prios : List ℕ) → w.prios ≡ prios → is_none prios ≡ true
        → Output.Ok w ≡ Output.Ok (from_ack w.oldest w.report)
    none_out w [] is none =
        λ i. Output.Ok (record { oldest = w.oldest; prios = is i; report = w.report })
    none_out w (prio ∷ prios) is none = absurd cc
done_output (Output.RetryStopped w) done = absurd cc
done_output (Output.ErrorStopped asked w) done = absurd cc
done_output Output.Failed done = absurd cc

ok_input : (i : Input) → is_ok i ≡ true → (ack : ℕ) × (i ≡ InputOk ack)
ok_input (InputOk e) ok = (e, refl)
ok_input (InputRetryStopped e) ok = absurd cc
ok_input (InputErrorStopped e) ok = absurd cc

same_ack : (x y : ℕ) (report : Option Report) (queued : List (List (List ℕ))) (ahead : List Forward)
    (back : List Backward)
    → IsBetween (Output.Ok (from_ack x report)) (InputOk y) queued ahead back → x ≡ y
same_ack x y report queued ahead back b =
    let rest = ap length b.outstanding ∙ length-drop b.freed b.sent in
    let same : b.held ≡ b.freed = omega (arith, b.is.held_first, b.is.sent_first) in
    b.oldest ∙ ap (λ (n : ℕ). n % 32) (sym same) ∙ sym b.expected

pub rests_is : (s : LinkState) → IsSoundLink s → first_rests s ≡ true → IsAtRest s.a s.b
rests_is s l rests =
    let first = and_parts (is_done s.a.output) (is_ok s.b.input && at_rest s.b.place) rests in
    let second = and_parts (is_ok s.b.input) (at_rest s.b.place) first.1 in
    let out = done_output s.a.output first.0 in
    let into = ok_input s.b.input second.0 in
    let ahead = map forward s.wire_a.kept in
    let back = map backward s.wire_b.kept in
    let window = from_ack out.0 out.1 in
    let between : IsBetween (Output.Ok window) (InputOk into.0) s.a.queued ahead back =
    subst (λ (o : Output). IsBetween o (InputOk into.0) s.a.queued ahead back) out.2
    (subst (λ (i : Input). IsBetween s.a.output i s.a.queued ahead back) into.1 l.sound.a_to_b) in
    record {
      ack = out.0;
      report = out.1;
      sender_ok = out.2;
      receiver_ok =
          into.1 ∙ ap InputOk (sym (same_ack out.0 into.0 out.1 s.a.queued ahead back between));
      place = second.1;
    }

pub rests_test : (s : LinkState) → IsAtRest s.a s.b → first_rests s ≡ true
rests_test s rests =
    and_from (is_done s.a.output) (is_ok s.b.input && at_rest s.b.place)
    (ap is_done rests.sender_ok)
    (and_from (is_ok s.b.input) (at_rest s.b.place) (ap is_ok rests.receiver_ok) rests.place)

-- ---- recovery

-- one thing after another that keep the link
then_kept : (near : Side) (s m n : LinkState) → Kept near s m → Kept near m n → Kept near s n
then_kept near s m n first next = record {
  sound = next.sound;
  none = next.none;
  other = λ rests. next.other (first.other rests);
}

alive : (o : Output) → (o ≡ Output.Failed → ⊥) → has_failed o ≡ false
alive (Output.Ok w) not_failed = refl
alive (Output.RetryStopped w) not_failed = refl
alive (Output.ErrorStopped asked w) not_failed = refl
alive Output.Failed not_failed = absurd (not_failed refl)

near_alive : (near : Side) (s : LinkState) → IsSoundLink s
    → has_failed (from_end near s).a.output ≡ false
near_alive near s l =
    alive (from_end near s).a.output (none_failed (from_end near s) (from_end_keeps near s l)).0

stays_awake : (near : Side) (s : LinkState) (all : List Act) → IsSoundLink s → AreEmpty s → all ≡ []
    → is_retry_stopped (from_end near s).a.output ≡ false
    → OnState (IsAwake near s) (goes (At s) all)
stays_awake near s all l none nothing awake =
    subst (λ (r : Reached). OnState (IsAwake near s) r)
    (sym (ap (goes (At s)) nothing ∙ goes_none (At s)))
    (record { kept = record { sound = l; none = none; other = λ rests. rests }; awake = awake })

restarts_by : (near : Side) (s : LinkState) (all : List Act) (o : Output)
    → (from_end near s).a.output ≡ o → IsSoundLink s → AreEmpty s
    → MatchBool (is_retry_stopped o) (TakesTurn near (At s) all) (all ≡ [])
    → OnState (IsAwake near s) (goes (At s) all)
restarts_by near s all (Output.Ok w) is l none does =
    stays_awake near s all l none does (ap is_retry_stopped is)
restarts_by near s all (Output.RetryStopped w) is l none does =
    restarted near s all w l none is does
restarts_by near s all (Output.ErrorStopped asked w) is l none does =
    stays_awake near s all l none does (ap is_retry_stopped is)
restarts_by near s all Output.Failed is l none does =
    absurd ((none_failed (from_end near s) (from_end_keeps near s l)).0 is)

-- a link-request, where the direction is not at rest
then_requested : (near : Side) (s : LinkState) (r : Reached) (rest : List Act)
    → OnState (Stopped near s) r → TakesTurn near r rest → OnState (Rested near s) (goes r rest)
then_requested near s (At m) rest h turn =
    on_state (goes (At m) rest)
    (λ n x. record { kept = then_kept near s m n h.kept x.kept; rests = x.rests })
    (requested near m rest h.window h.kept.sound h.kept.none h.stopped turn)
then_requested near s (FoundAt side e) rest h turn = rw (goes_found side e rest) tt

requests_by : (near : Side) (s : LinkState) (all : List Act) (b : Bool)
    → first_rests (from_end near s) ≡ b → is_retry_stopped (from_end near s).a.output ≡ false
    → IsSoundLink s → AreEmpty s
    → MatchBool (not b) (NextOf goes (TimesOut near) (TakesTurn near) (At s) all) (all ≡ [])
    → OnState (Rested near s) (goes (At s) all)
requests_by near s all true test awake l none nothing =
    subst (λ (r : Reached). OnState (Rested near s) r)
    (sym (ap (goes (At s)) nothing ∙ goes_none (At s)))
    (record {
      kept = record { sound = l; none = none; other = λ rests. rests };
      rests = rests_is (from_end near s) (from_end_keeps near s l) test;
    })
requests_by near s all false test awake l none (first, rest, split, times, turn) =
    subst (λ (r : Reached). OnState (Rested near s) r)
    (sym (ap (goes (At s)) split ∙ goes-append first rest (At s)))
    (then_requested near s (goes (At s) first) rest (times_out_by near s first
    (from_end near s).a.output refl awake (near_alive near s l) l none times) turn)

then_requests : (near : Side) (s : LinkState) (r : Reached) (rest : List Act)
    → OnState (IsAwake near s) r → Requests near r rest → OnState (Rested near s) (goes r rest)
then_requests near s (At m) rest h does =
    on_state (goes (At m) rest) (λ n x. record {
      kept = then_kept near s m n h.kept x.kept;
      rests = x.rests;
    })
    (requests_by near m rest (first_rests (from_end near m)) refl h.awake h.kept.sound h.kept.none
    does)
then_requests near s (FoundAt side e) rest h does = rw (goes_found side e rest) tt

recovers_by : (near : Side) (s : LinkState) (all : List Act) → IsSoundLink s → AreEmpty s
    → NextOf goes (Restarts near) (Requests near) (At s) all
    → OnState (Rested near s) (goes (At s) all)
recovers_by near s all l none (first, rest, split, restarts, requests) =
    subst (λ (r : Reached). OnState (Rested near s) r)
    (sym (ap (goes (At s)) split ∙ goes-append first rest (At s)))
    (then_requests near s (goes (At s) first) rest
    (restarts_by near s first (from_end near s).a.output refl l none restarts) requests)

-- A side recovers.
pub recovers : (near : Side) (s : LinkState) (all : List Act) → IsSoundLink s → AreEmpty s
    → Recovers near (At s) all → OnState (Rested near s) (goes (At s) all)
recovers near s all l none does =
    recovers_by near s all l none (subst (λ (b : Bool). MatchBool (not b)
    (NextOf goes (Restarts near) (Requests near) (At s) all) (all ≡ [])) (near_alive near s l) does)
