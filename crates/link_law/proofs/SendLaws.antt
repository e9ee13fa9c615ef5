-- The loop in which what waits is sent, and what follows recovery.
use Rattle.link_law.proofs.Prelude.{◌≡◌, ◌↔◌, ℕ, ◌<◌, Bool, true, false, MatchBool, IsTrue, IsSome, List, [], ◌++◌, length, Option, Some, None, Result, Ok, Err, refl, sym, ap, ◌∙◌, subst, arith, IsWatch, packet_count-highest, Event, is_ready, Note, Side, LinkState, from_end, IsSoundLink, LinkEnd, NextOf, LoopRests, LoopGoesOn, LoopLeaves, Act, Reached, At, FoundAt, goes, acts_notes, OnState, SchedulePart, is_some, is_retry_stopped, first_rests, of_end, TakesTurn, SendsAll, IsQuiet, goes_none, quiet_at, Sending, left_at, fewer_after, sound_of, turn_can, sending_can, Comes, Ends, CallDid}
use Rattle.link_buffers.specs.Prelude.{packet_count, highest}
use Rattle.link_machine.proofs.Settling.Recovery.{rests_test}
use Rattle.link_machine.proofs.Settling.SendingRounds.{Quiet, AfterRound, round_goes}
use Rattle.link_law.proofs.DoesLaws.{Follows, comes_where, did_where, comes_next, ends_next, ends_early}
use Rattle.link_law.proofs.DrainLaws.{comes_map, ends_map, Open, open_none, open_comes, open_ends, open_on}

-- what follows a round: the last part, if the port is to restart, or more of the loop
abbrev pub Leaving : Side → Reached → Bool
Leaving near = of_end near (λ link. is_retry_stopped link.a.output)

abbrev pub After : Side → SchedulePart
After near r acts = MatchBool (Leaving near r) (TakesTurn near r acts) (Sending near r acts)

after_found : (near side : Side) (e : Event) → After near (FoundAt side e) []
after_found near side e = LoopRests refl refl

after_by : (near : Side) (r : Reached) (b : Bool)
    → ((b ≡ true) → (all : List Act) × TakesTurn near r all)
    → ((b ≡ false) → (all : List Act) × Sending near r all)
    → (all : List Act) × MatchBool b (TakesTurn near r all) (Sending near r all)
after_by near r true last more = last refl
after_by near r false last more = more refl

-- after a round there is a way to go on
after_can : (near : Side) (s : LinkState) (r : Reached) → Quiet near s
    → OnState (AfterRound near s) r → (all : List Act) × After near r all
after_can near s r quiet round =
    after_by near r (Leaving near r) (λ last. turn_can near r (sound_of near s r round))
    (λ on. sending_can near (left_at near s) r
    (fewer_after near s (left_at near s) r (quiet, omega arith) round on))

pub after_follows : (near : Side) (s : LinkState) → Quiet near s
    → of_end near (λ link. is_ready link.a) (At s) ≡ true → Follows (TakesTurn near) (After near) s
after_follows near s quiet busy = record {
  found = after_found near;
  can =
      λ acts part. after_can near s (goes (At s) acts) quiet
      (round_goes near s acts quiet busy part);
}

-- a round, and what follows it, are the loop
joined : (near : Side) (s : LinkState) (all first rest : List Act)
    → of_end near (λ link. is_ready link.a) (At s) ≡ true → TakesTurn near (At s) first
    → all ≡ first ++ rest
    → (b : Bool) → Leaving near (goes (At s) first) ≡ b
    → MatchBool b (TakesTurn near (goes (At s) first) rest)
    (Sending near (goes (At s) first) rest) → Sending near (At s) all
joined near s all first rest busy turn split true is last =
    LoopLeaves first rest busy turn split is last
joined near s all first rest busy turn split false is more =
    LoopGoesOn first rest busy turn split is more

pub loop_of : (near : Side) (s : LinkState) → of_end near (λ link. is_ready link.a) (At s) ≡ true
    → (all : List Act) → NextOf goes (TakesTurn near) (After near) (At s) all
    → Sending near (At s) all
loop_of near s busy all (first, rest, split, turn, more) =
    joined near s all first rest busy turn split (Leaving near (goes (At s) first)) refl more

-- ---- rounds of the loop, as calls

-- so far: a way from the beginning, and a link at rest
pub record Sent {W : Type 0} (grew : W → List Note → W → Type 0) (near : Side) (before : LinkState)
    (old : W) (now : LinkState) (w : W) : Type 0 where
  pub way : Comes grew (Open (Sending near)) before old (At now) w
  pub quiet : Quiet near now

pub sent_none : {W : Type 0} {grew : W → List Note → W → Type 0} {cut : W → Note → W → Type 0}
    → IsWatch grew cut → (near : Side) (before : LinkState) (old : W) → Quiet near before
    → Sent grew near before old before old
sent_none watch near before old quiet = record {
  way = open_none watch (Sending near) before old;
  quiet = quiet;
}

-- what a round that was done leads to
round_done : {W : Type 0} {grew : W → List Note → W → Type 0}
    → (near : Side) (now mid : LinkState) (w new : W) → Quiet near now
    → of_end near (λ link. is_ready link.a) (At now) ≡ true
    → Comes grew (TakesTurn near) now w (At mid) new → AfterRound near now mid
round_done near now mid w new quiet busy h =
    subst (λ (r : Reached). OnState (AfterRound near now) r) h.reached
    (round_goes near now h.acts quiet busy h.part)

pub sent_on : {W : Type 0} {grew : W → List Note → W → Type 0} {cut : W → Note → W → Type 0}
    → IsWatch grew cut → (near : Side) (before now mid : LinkState) (old w new : W)
    → of_end near (λ link. is_ready link.a) (At now) ≡ true → Leaving near (At mid) ≡ false
    → Sent grew near before old now w → Comes grew (TakesTurn near) now w (At mid) new
    → Sent grew near before old mid new × (left_at near mid < left_at near now)
sent_on watch near before now mid old w new busy on s h =
    let round = round_done near now mid w new s.quiet busy h in
    let fewer =
    fewer_after near now (left_at near now) (At mid) (s.quiet, omega arith) round on in (
      record {
        way = open_on watch (Sending near) (TakesTurn near) before now mid old w new
            (λ first rest there turn more. LoopGoesOn first rest busy turn refl
            (ap (Leaving near) there ∙ on) more) s.way h;
        quiet = fewer.0;
      },
      fewer.1,
    )

pub sent_over : {W : Type 0} {grew : W → List Note → W → Type 0} {cut : W → Note → W → Type 0}
    → IsWatch grew cut → (near : Side) (before now : LinkState) (old w : W)
    → of_end near (λ link. is_ready link.a) (At now) ≡ false → Sent grew near before old now w
    → Comes grew (Sending near) before old (At now) w
unfolding acts_notes
sent_over watch near before now old w none s =
    open_comes watch (Sending near) before now old w w (At now) s.way (record {
      acts = [];
      part = LoopRests none refl;
      reached = goes_none (At now);
      grown = watch.none w;
    })

-- the last part, after a packet that has no room
as_after : (near : Side) (mid : LinkState) → Leaving near (At mid) ≡ true → (all : List Act)
    → TakesTurn near (At mid) all → After near (At mid) all
as_after near mid is all turn =
    subst (λ (b : Bool). MatchBool b (TakesTurn near (At mid) all) (Sending near (At mid) all))
    (sym is) turn

last_comes : {W : Type 0} {grew : W → List Note → W → Type 0} {cut : W → Note → W → Type 0}
    → IsWatch grew cut → (near : Side) (before now mid next : LinkState) (old w v new : W)
    → of_end near (λ link. is_ready link.a) (At now) ≡ true → Leaving near (At mid) ≡ true
    → Sent grew near before old now w → Comes grew (TakesTurn near) now w (At mid) v
    → Comes grew (TakesTurn near) mid v (At next) new
    → Comes grew (Sending near) before old (At next) new
last_comes watch near before now mid next old w v new busy last s first again =
    open_comes watch (Sending near) before now old w new (At next) s.way
    (comes_map (NextOf goes (TakesTurn near) (After near)) (Sending near) now w new (At next)
    (loop_of near now busy)
    (comes_next watch (TakesTurn near) (After near) now mid w v new (At next) first
    (comes_map (TakesTurn near) (After near) mid v new (At next) (as_after near mid last) again)))

last_ends : {W : Type 0} (grew : W → List Note → W → Type 0) (cut : W → Note → W → Type 0)
    → IsWatch grew cut
    → (near : Side) (before now mid : LinkState) (old w v new : W) (end : LinkEnd)
    → of_end near (λ link. is_ready link.a) (At now) ≡ true → Leaving near (At mid) ≡ true
    → Sent grew near before old now w → Comes grew (TakesTurn near) now w (At mid) v
    → Ends grew cut (TakesTurn near) mid v end new
    → Ends grew cut (Sending near) before old end new
last_ends grew cut watch near before now mid old w v new end busy last s first again =
    open_ends grew cut watch (Sending near) before now old w new end s.way
    (ends_map grew cut (NextOf goes (TakesTurn near) (After near)) (Sending near) now w new end
    (loop_of near now busy)
    (ends_next grew cut watch (TakesTurn near) (After near) now mid w v new end first
    (ends_map grew cut (TakesTurn near) (After near) mid v new end (as_after near mid last) again)))

pub last_did : {W : Type 0} (grew : W → List Note → W → Type 0) (cut : W → Note → W → Type 0)
    → IsWatch grew cut → (near : Side) (before now mid : LinkState) (old w v new : W)
    (result : Result (Unit {0}) LinkEnd) (next : LinkState)
    → of_end near (λ link. is_ready link.a) (At now) ≡ true → Leaving near (At mid) ≡ true
    → Sent grew near before old now w → Comes grew (TakesTurn near) now w (At mid) v
    → CallDid grew cut (TakesTurn near) mid v result next new
    → CallDid grew cut (Sending near) before old result next new
last_did grew cut watch near before now mid old w v new (Ok done) next busy last s first again =
    last_comes watch near before now mid next old w v new busy last s first again
last_did grew cut watch near before now mid old w v new (Err end) next busy last s first again =
    last_ends grew cut watch near before now mid old w v new end busy last s first again

-- a round that ended
pub sent_ends : {W : Type 0} (grew : W → List Note → W → Type 0) (cut : W → Note → W → Type 0)
    → IsWatch grew cut → (near : Side) (before now : LinkState) (old w new : W) (end : LinkEnd)
    → of_end near (λ link. is_ready link.a) (At now) ≡ true → Sent grew near before old now w
    → Ends grew cut (TakesTurn near) now w end new
    → Ends grew cut (Sending near) before old end new
sent_ends grew cut watch near before now old w new end busy s h =
    open_ends grew cut watch (Sending near) before now old w new end s.way
    (ends_map grew cut (NextOf goes (TakesTurn near) (After near)) (Sending near) now w new end
    (loop_of near now busy)
    (ends_early grew cut watch (TakesTurn near) (After near) now w new end
    (after_follows near now s.quiet busy) h))

pub sound_round : {W : Type 0} {grew : W → List Note → W → Type 0}
    → (near : Side) (now mid : LinkState) (w new : W) → Quiet near now
    → of_end near (λ link. is_ready link.a) (At now) ≡ true
    → Comes grew (TakesTurn near) now w (At mid) new → IsSoundLink mid
sound_round near now mid w new quiet busy h = (round_done near now mid w new quiet busy h).sound

-- the loop of a side whose direction is at rest
pub all_comes : {W : Type 0} {grew : W → List Note → W → Type 0}
    → (near : Side) (before next : LinkState) (old new : W) → Quiet near before
    → Comes grew (Sending near) before old (At next) new
    → Comes grew (SendsAll near) before old (At next) new
all_comes near before next old new quiet h =
    comes_where (of_end near first_rests) (Sending near) before old new (At next)
    (rests_test (from_end near before) quiet.out) h

pub all_did : {W : Type 0} (grew : W → List Note → W → Type 0) (cut : W → Note → W → Type 0)
    (near : Side) (before : LinkState) (old new : W) (result : Result (Unit {0}) LinkEnd)
    (next : LinkState) → Quiet near before
    → CallDid grew cut (Sending near) before old result next new
    → CallDid grew cut (SendsAll near) before old result next new
all_did grew cut near before old new result next quiet h =
    did_where grew cut (of_end near first_rests) (Sending near) before old new result next
    (rests_test (from_end near before) quiet.out) h

-- ---- whether a packet waits, by the call that counts

pub waits_by : (lists : List (List (List ℕ))) (b : Bool) (o : Option ℕ) → length lists ≡ 4
    → highest lists ≡ o → (IsTrue b ↔ (0 < packet_count lists)) → b ≡ is_some o
waits_by lists true None four is exact =
    absurd (none_some
    (subst (λ (o : Option ℕ). IsSome o) is ((packet_count-highest lists four).0 (exact.0 refl))))
  where
    none_some : IsSome {T = ℕ} None → ⊥
    none_some h = cc
waits_by lists false None four is exact = refl
waits_by lists b (Some prio) four is exact =
    exact.1 ((packet_count-highest lists four).1 (subst (λ (o : Option ℕ). IsSome o) (sym is) refl))

pub quiet_first : (near : Side) (s : LinkState) → IsSoundLink s × IsQuiet s → Quiet near s
quiet_first near s h = quiet_at near s h.0 h.1
