-- From every sound link there is a way to settle it.
use Rattle.link_machine.proofs.Prelude.{◌≡◌, inl, inr, ℕ, zero, suc, ◌<◌, ◌++◌, Bool, true, false, not, MatchBool, List, [], ◌∷◌, refl, sym, subst, if◌then◌else◌, arith, packet_count, Event, is_ready, other_side, Side, A, B, LinkState, from_end, pumped, told_from, has_chars, delivery_from, delivered_from, IsSoundLink, Delivered, Through, WentUndetected, NextOf, WhereOf, Is, LoopRests, LoopGoesOn, LoopLeaves, Act, Pump, Tell, Deliver, Fire, Reached, At, FoundAt, reached_by, after_act, goes, OnState, SchedulePart, is_retry_stopped, has_failed, may_fire, first_rests, of_end, Drains, TakesTurn, Restarts, TimesOut, Requests, Recovers, Tells, SendsAll, Settles, IsRound}
use Rattle.link_machine.proofs.Machine.{pump_keeps, told_keeps, delivery_keeps, fired_keeps}
use Rattle.link_machine.proofs.Settling.Lines.{goes_one}
use Rattle.link_machine.proofs.Settling.DrainCounts.{drain_exists}
use Rattle.link_machine.proofs.Settling.SendingRounds.{Quiet, AfterRound, round_goes}
use Rattle.link_machine.proofs.Settling.Sending.{Sending, goes_on}
use Rattle.link_machine.proofs.Settling.Rounds.{after_round}
use Rattle.link_machine.proofs.Settling.Settled.{Drained, FirstRests, BothRest, FirstTold, BothTold, FirstDone, FromSending, FromTelling, FromRecovering, go_on, drains_lead, first_recovers, second_recovers, first_tells, second_tells, first_sends, turned_quiet}

-- ---- whatever is done keeps a link sound

reached_keeps : (to : Side) (next : LinkState) (d : Delivered) → IsSoundLink next
    → OnState IsSoundLink (reached_by to next d)
reached_keeps to next (Through flow) l = l
reached_keeps to next (WentUndetected told e) l = tt

delivers_keep : (from : Side) (count : ℕ) (s : LinkState) (b : Bool) → IsSoundLink s
    → OnState IsSoundLink (if b
    then reached_by (other_side from) (delivered_from from count s) (delivery_from from count s)
    else At s)
delivers_keep from count s true l =
    reached_keeps (other_side from) (delivered_from from count s) (delivery_from from count s)
    (delivery_keeps from count s l)
delivers_keep from count s false l = l

act_keeps : (act : Act) (s : LinkState) → IsSoundLink s → OnState IsSoundLink (after_act act s)
act_keeps (Pump from turns) s l = pump_keeps from turns s l
act_keeps (Tell from) s l = told_keeps from s l
act_keeps (Deliver from count) s l = delivers_keep from count s (has_chars from count s) l
act_keeps (Fire side) s l = fired_keeps side s l

pub acts_keep : (acts : List Act) (r : Reached) → OnState IsSoundLink r
    → OnState IsSoundLink (goes r acts)
unfolding goes
acts_keep [] r l = l
acts_keep (act ∷ acts) (At s) l = acts_keep acts (after_act act s) (act_keeps act s l)
acts_keep (act ∷ acts) (FoundAt side e) l = tt

-- ---- parts

-- there is a way to do a part
abbrev pub Can : SchedulePart → Reached → Type 0
Can P r = (all : List Act) × P r all

pub where_can : (test : Reached → Bool) (P : SchedulePart) (r : Reached) → (test r ≡ true → Can P r)
    → Can (WhereOf test P) r
where_can test P r can = by (test r) refl
  where
    by : (b : Bool) → test r ≡ b → (all : List Act) × MatchBool b (P r all) (all ≡ [])
    by true is = can is
    by false is = ([], refl)

pub next_can : (First Then : SchedulePart) (r : Reached) (first : Can First r)
    → Can Then (goes r first.0)
    → Can (NextOf goes First Then) r
next_can First Then r first more = (first.0 ++ more.0, (first.0, more.0, refl, first.1, more.1))

pub found_none : (side : Side) (e : Event) → Drains (goes (FoundAt side e) []) []
unfolding goes
found_none side e = LoopRests refl refl

pub turn_can : (near : Side) (r : Reached) → OnState IsSoundLink r → Can (TakesTurn near) r
turn_can near (At s) l =
    let d = drain_exists (pumped near 1 s) (pump_keeps near 1 s l) in (
      Pump near 1
          ∷ d.0,
      (
        Pump near 1 ∷ [],
        d.0,
        refl,
        refl,
        subst (λ (r : Reached). Drains r d.0) (sym (goes_one s (Pump near 1))) d.1,
      ),
    )
turn_can near (FoundAt side e) l = ([], ([], [], refl, refl, found_none side e))

pub restarts_can : (near : Side) (r : Reached) → OnState IsSoundLink r → Can (Restarts near) r
restarts_can near r l =
    where_can (of_end near (λ link. is_retry_stopped link.a.output)) (TakesTurn near) r
    (λ is. turn_can near r l)

pub requests_can : (near : Side) (r : Reached) → OnState IsSoundLink r → Can (Requests near) r
requests_can near r l =
    where_can (of_end near (λ link. not (first_rests link)))
    (NextOf goes (TimesOut near) (TakesTurn near)) r (λ is.
    let fire : Can (TimesOut near) r =
    where_can (of_end near (λ link. may_fire link.a.output)) (Is (λ reached. Fire near ∷ [])) r
    (λ may. (Fire near ∷ [], refl)) in
    next_can (TimesOut near) (TakesTurn near) r fire
    (turn_can near (goes r fire.0) (acts_keep fire.0 r l)))

pub recovers_can : (near : Side) (r : Reached) → OnState IsSoundLink r → Can (Recovers near) r
recovers_can near r l =
    where_can (of_end near (λ link. not (has_failed link.a.output)))
    (NextOf goes (Restarts near) (Requests near)) r (λ is.
    let first = restarts_can near r l in
    next_can (Restarts near) (Requests near) r first
    (requests_can near (goes r first.0) (acts_keep first.0 r l)))

pub tells_can : (near : Side) (r : Reached) → OnState IsSoundLink r → Can (Tells near) r
tells_can near (At s) l =
    where_can (of_end near (λ link. link.a.tells))
    (NextOf goes (Is (λ reached. Tell near ∷ [])) Drains) (At s) (λ is.
    let d = drain_exists (told_from near s) (told_keeps near s l) in
    next_can (Is (λ reached. Tell near ∷ [])) Drains (At s) (Tell near ∷ [], refl)
    (d.0, subst (λ (r : Reached). Drains r d.0) (sym (goes_one s (Tell near))) d.1))
tells_can near (FoundAt side e) l = ([], refl)

-- ---- the loop, which has fewer packets to send after each round that goes on

abbrev pub left_at : Side → LinkState → ℕ
left_at near s = packet_count (from_end near s).a.queued

abbrev pub Fewer : Side → ℕ → LinkState → Type 0
Fewer near n s = Quiet near s × (left_at near s < n)

fewer_by : (near : Side) (s m : LinkState) (n : ℕ) → IsRound (from_end near s) (from_end near m)
    → is_retry_stopped (from_end near m).a.output ≡ false → left_at near s < suc n
    → left_at near m < n
fewer_by near s m n (inl (passed, so)) more less = let one = passed.less in omega arith
fewer_by near s m n (inr (blocked, stopped)) more less = absurd cc

pub fewer_after : (near : Side) (s : LinkState) (n : ℕ) (r : Reached) → Fewer near (suc n) s
    → OnState (AfterRound near s) r → of_end near (λ link. is_retry_stopped link.a.output) r ≡ false
    → OnState (Fewer near n) r
fewer_after near s n (At m) h round more =
    let on = goes_on near s (At m) h.0 round more in
    (on.0.quiet, fewer_by near s m n (after_round near s m h.0.sound round) more h.1)
fewer_after near s n (FoundAt side e) h round more = tt

pub sound_of : (near : Side) (s : LinkState) (r : Reached) → OnState (AfterRound near s) r
    → OnState IsSoundLink r
sound_of near s (At m) h = h.sound
sound_of near s (FoundAt side e) h = tt

sending_busy : (near : Side) (n : ℕ) (s : LinkState)
    → ((r : Reached) → OnState (Fewer near n) r → Can (Sending near) r) → Fewer near (suc n) s
    → of_end near (λ link. is_ready link.a) (At s) ≡ true
    → Can (Sending near) (At s)
sending_busy near n s more h busy =
    let first = turn_can near (At s) h.0.sound in
    let r = goes (At s) first.0 in
    let round = round_goes near s first.0 h.0 busy first.1 in
    elim (of_end near (λ link. is_retry_stopped link.a.output) r) as
    (λ b. of_end near (λ link. is_retry_stopped link.a.output) r ≡ b → Can (Sending near) (At s)) [
      | true ↦ λ (last : of_end near (λ link. is_retry_stopped link.a.output) r ≡ true).
          let again = turn_can near r (sound_of near s r round) in
          (first.0 ++ again.0, LoopLeaves first.0 again.0 busy first.1 refl last again.1)
      | false ↦ λ (on : of_end near (λ link. is_retry_stopped link.a.output) r ≡ false).
          let later = more r (fewer_after near s n r h round on) in
          (first.0 ++ later.0, LoopGoesOn first.0 later.0 busy first.1 refl on later.1)
    ] refl

pub sending_can : (near : Side) (n : ℕ) (r : Reached) → OnState (Fewer near n) r
    → Can (Sending near) r
sending_can near n (FoundAt side e) h = ([], LoopRests refl refl)
sending_can near zero (At s) h = absurd (let less = h.1 in omega arith)
sending_can near (suc n) (At s) h =
    elim (of_end near (λ link. is_ready link.a) (At s)) as
    (λ b. of_end near (λ link. is_ready link.a) (At s) ≡ b → Can (Sending near) (At s)) [
      | true ↦ λ (busy : of_end near (λ link. is_ready link.a) (At s) ≡ true). sending_busy near n s
          (sending_can near n) h busy
      | false ↦ λ (none : of_end near (λ link. is_ready link.a) (At s) ≡ false).
          ([], LoopRests none refl)
    ] refl

pub sends_can : (near : Side) (r : Reached) → OnState (Quiet near) r → Can (SendsAll near) r
sends_can near (At s) quiet =
    where_can (of_end near first_rests) (Sending near) (At s)
    (λ is. sending_can near (suc (left_at near s)) (At s) (quiet, omega arith))
sends_can near (FoundAt side e) quiet = ([], refl)

-- ---- the whole

pub sound_by : {P : LinkState → Type 0} → ((s : LinkState) → P s → IsSoundLink s) → (r : Reached)
    → OnState P r → OnState IsSoundLink r
sound_by sound (At s) h = sound s h
sound_by sound (FoundAt side e) h = tt

pub first_quiet : (r : Reached) → OnState BothTold r → OnState (Quiet A) r
first_quiet (At s) h = h.quiet
first_quiet (FoundAt side e) h = tt

pub second_quiet : (r : Reached) → OnState FirstDone r → OnState (Quiet B) r
second_quiet (At s) h = turned_quiet s h.0.quiet
second_quiet (FoundAt side e) h = tt

-- from where both sides have recovered
pub telling_can : (r : Reached) → OnState BothRest r → Can FromTelling r
telling_can r h =
    let one = tells_can A r (sound_by (λ s q. q.sound) r h) in
    let r1 = goes r one.0 in
    let h1 = go_on BothRest (Tells A) FirstTold first_tells r one.0 h one.1 in
    let two = tells_can B r1 (sound_by (λ s q. q.0.sound) r1 h1) in
    let r2 = goes r1 two.0 in
    let h2 = go_on FirstTold (Tells B) BothTold second_tells r1 two.0 h1 two.1 in
    let three = sends_can A r2 (first_quiet r2 h2) in
    let r3 = goes r2 three.0 in
    let h3 = go_on BothTold (SendsAll A) FirstDone first_sends r2 three.0 h2 three.1 in
    let four = sends_can B r3 (second_quiet r3 h3) in
    next_can (Tells A) (NextOf goes (Tells B) FromSending) r one
    (next_can (Tells B) FromSending r1 two
    (next_can (SendsAll A) (SendsAll B) r2 three four))

pub settling_can : (s : LinkState) → IsSoundLink s → (all : List Act) × Settles (At s) all
settling_can s l =
    let drain = drain_exists s l in
    let r1 = goes (At s) drain.0 in
    let h1 = drains_lead s drain.0 l drain.1 in
    let one = recovers_can A r1 (sound_by (λ m q. q.0) r1 h1) in
    let r2 = goes r1 one.0 in
    let h2 = go_on Drained (Recovers A) FirstRests first_recovers r1 one.0 h1 one.1 in
    let two = recovers_can B r2 (sound_by (λ m q. q.0.0) r2 h2) in
    let r3 = goes r2 two.0 in
    let h3 = go_on FirstRests (Recovers B) BothRest second_recovers r2 two.0 h2 two.1 in
    next_can Drains FromRecovering (At s) drain
    (next_can (Recovers A) (NextOf goes (Recovers B) FromTelling) r1 one
    (next_can (Recovers B) FromTelling r2 two (telling_can r3 h3)))
