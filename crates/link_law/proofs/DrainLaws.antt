-- Loops of the schedule, and a drain.
use Rattle.link_law.proofs.Prelude.{◌≡◌, ℕ, suc, ◌+◌, ◌-◌, ◌<◌, ◌≤◌, true, false, List, [], ◌++◌, refl, sym, ap, ◌∙◌, subst, append_assoc, arith, Event, Note, Side, A, B, NoteEnd, LinkState, pumped, pump_notes, told_from, tell_notes, timed_out_at, time_out_notes, IsSoundLink, Stopped, IsWatch, LinkEnd, Undetected, Failed, NoMemory, NextOf, LoopRests, LoopGoesOn, Act, Pump, Tell, Fire, Reached, At, FoundAt, goes, acts_notes, OnState, SchedulePart, Empties, Drains, TakesTurn, TimesOut, Requests, may_fire, of_end, is_busy, goes-append, goes_none, rounds, round_goes, rested_is_idle, three_rounds, acts_keep, found_none, turn_can, requests_can, Comes, Stops, Ends, TellsOnce, Pumps, end_of}
use Rattle.link_watch.specs.declared.watch.NoteEnd.TheVariants as Stop
use Rattle.link_machine.proofs.Settling.DrainCounts.{drain_exists}
use Rattle.link_law.proofs.DoesLaws.{Follows, comes_where, stops_where, notes-append, comes_next, ends_next, ends_early}
use Rattle.link_law.proofs.DeliverLaws.{Only, one_comes, one_stops}

-- ---- one part is another

pub comes_map : {W : Type 0} {grew : W → List Note → W → Type 0}
    → (P Q : SchedulePart) (before : LinkState) (old new : W) (to : Reached)
    → ((all : List Act) → P (At before) all → Q (At before) all)
    → Comes grew P before old to new → Comes grew Q before old to new
comes_map P Q before old new to so h = record {
  acts = h.acts;
  part = so h.acts h.part;
  reached = h.reached;
  grown = h.grown;
}

stops_map : {W : Type 0} {grew : W → List Note → W → Type 0} {cut : W → Note → W → Type 0}
    → (P Q : SchedulePart) (before : LinkState) (old new : W)
    → ((all : List Act) → P (At before) all → Q (At before) all)
    → Stops grew cut P before old new → Stops grew cut Q before old new
stops_map P Q before old new so h = record {
  acts = h.acts;
  part = so h.acts h.part;
  stopped = h.stopped;
}

pub ends_map : {W : Type 0} (grew : W → List Note → W → Type 0) (cut : W → Note → W → Type 0)
    (P Q : SchedulePart) (before : LinkState) (old new : W) (end : LinkEnd)
    → ((all : List Act) → P (At before) all → Q (At before) all)
    → Ends grew cut P before old end new → Ends grew cut Q before old end new
ends_map grew cut P Q before old new (Undetected side e) so h =
    comes_map P Q before old new (FoundAt side e) so h
ends_map grew cut P Q before old new _ so h = stops_map P Q before old new so h

-- ---- a loop, of which some rounds are done

-- whatever goes on from here is a way from the beginning
abbrev pub Open : SchedulePart → SchedulePart
Open P r acts = (rest : List Act) → P (goes r acts) rest → P r (acts ++ rest)

pub open_none : {W : Type 0} {grew : W → List Note → W → Type 0} {cut : W → Note → W → Type 0}
    → IsWatch grew cut → (P : SchedulePart) (before : LinkState) (old : W)
    → Comes grew (Open P) before old (At before) old
unfolding acts_notes
open_none watch P before old = record {
  acts = [];
  part = λ rest p. subst (λ (r : Reached). P r rest) (goes_none (At before)) p;
  reached = goes_none (At before);
  grown = watch.none old;
}

close : (P : SchedulePart) (r : Reached) (all : List Act) → NextOf goes (Open P) P r all → P r all
close P r all (first, rest, split, open_part, p) =
    subst (λ (acts : List Act). P r acts) (sym split) (open_part rest p)

pub open_comes : {W : Type 0} {grew : W → List Note → W → Type 0} {cut : W → Note → W → Type 0}
    → IsWatch grew cut → (P : SchedulePart) (before now : LinkState) (old w new : W) (to : Reached)
    → Comes grew (Open P) before old (At now) w → Comes grew P now w to new
    → Comes grew P before old to new
open_comes watch P before now old w new to way h =
    comes_map (NextOf goes (Open P) P) P before old new to (close P (At before))
    (comes_next watch (Open P) P before now old w new to way h)

pub open_ends : {W : Type 0} (grew : W → List Note → W → Type 0) (cut : W → Note → W → Type 0)
    → IsWatch grew cut → (P : SchedulePart) (before now : LinkState) (old w new : W) (end : LinkEnd)
    → Comes grew (Open P) before old (At now) w → Ends grew cut P now w end new
    → Ends grew cut P before old end new
open_ends grew cut watch P before now old w new end way h =
    ends_map grew cut (NextOf goes (Open P) P) P before old new end (close P (At before))
    (ends_next grew cut watch (Open P) P before now old w new end way h)

-- one round more
pub open_on : {W : Type 0} {grew : W → List Note → W → Type 0} {cut : W → Note → W → Type 0}
    → IsWatch grew cut → (P Round : SchedulePart) (before now mid : LinkState) (old w new : W)
    → ((first rest : List Act) → goes (At now) first ≡ At mid → Round (At now) first
    → P (goes (At now) first) rest → P (At now) (first ++ rest))
    → Comes grew (Open P) before old (At now) w → Comes grew Round now w (At mid) new
    → Comes grew (Open P) before old (At mid) new
open_on {W} {grew} watch P Round before now mid old w new goes_on way round_done =
    let there : goes (At before) way.acts ≡ At now = way.reached in
    let first = round_done.acts in
    let whole : goes (At before) (way.acts ++ first) ≡ goes (At now) first =
    goes-append way.acts first (At before) ∙ ap (λ (r : Reached). goes r first) there in
    record {
      acts = way.acts ++ first;
      part = λ rest p.
          subst (λ (acts : List Act). P (At before) acts) (sym (append_assoc way.acts first rest))
          (way.part (first ++ rest) (subst (λ (r : Reached). P r (first ++ rest)) (sym there)
          (goes_on first rest round_done.reached round_done.part
          (subst (λ (r : Reached). P r rest) whole p))));
      reached = whole ∙ round_done.reached;
      grown = subst (λ (l : List Note). grew old l new)
          (sym (notes-append way.acts first (At before)
          ∙ ap (λ (r : Reached). acts_notes (At before) way.acts ++ acts_notes r first) there))
          (watch.on old w new (acts_notes (At before) way.acts) (acts_notes (At now) first)
          way.grown round_done.grown);
    }

-- ---- a link that is sound stays so

pub sound_then : {W : Type 0} {grew : W → List Note → W → Type 0}
    → (P : SchedulePart) (before next : LinkState) (old new : W) → IsSoundLink before
    → Comes grew P before old (At next) new → IsSoundLink next
sound_then P before next old new l h =
    subst (λ (r : Reached). OnState IsSoundLink r) h.reached (acts_keep h.acts (At before) l)

-- ---- a drain

abbrev pub RoundPart : SchedulePart
RoundPart = NextOf goes (Empties A) (Empties B)

found_drained : (side : Side) (e : Event) → Drains (FoundAt side e) []
found_drained side e = LoopRests refl refl

drain_can : (r : Reached) → OnState IsSoundLink r → (all : List Act) × Drains r all
drain_can (At s) l = drain_exists s l
drain_can (FoundAt side e) l = ([], found_drained side e)

pub drain_follows : (P : SchedulePart) (before : LinkState) → IsSoundLink before
    → Follows P Drains before
drain_follows P before l = record {
  found = found_drained;
  can = λ acts part. drain_can (goes (At before) acts) (acts_keep acts (At before) l);
}

drain_on : (now : LinkState) → is_busy (At now) ≡ true → (first rest : List Act)
    → RoundPart (At now) first → Drains (goes (At now) first) rest → Drains (At now) (first ++ rest)
drain_on now busy first rest part more = LoopGoesOn first rest busy part refl refl more

pub drain_open : {W : Type 0} {grew : W → List Note → W → Type 0} {cut : W → Note → W → Type 0}
    → IsWatch grew cut → (before now mid : LinkState) (old w new : W) → is_busy (At now) ≡ true
    → Comes grew (Open Drains) before old (At now) w → Comes grew RoundPart now w (At mid) new
    → Comes grew (Open Drains) before old (At mid) new
drain_open watch before now mid old w new busy way h =
    open_on watch Drains RoundPart before now mid old w new
    (λ first rest there part more. drain_on now busy first rest part more) way h

-- a round that ended
pub round_ends : {W : Type 0} (grew : W → List Note → W → Type 0) (cut : W → Note → W → Type 0)
    → IsWatch grew cut → (before now : LinkState) (old w new : W) (end : LinkEnd) → IsSoundLink now
    → is_busy (At now) ≡ true
    → Comes grew (Open Drains) before old (At now) w → Ends grew cut RoundPart now w end new
    → Ends grew cut Drains before old end new
round_ends grew cut watch before now old w new end l busy way h =
    open_ends grew cut watch Drains before now old w new end way
    (ends_map grew cut (NextOf goes RoundPart Drains) Drains now w new end
    (λ all n. subst (λ (acts : List Act). Drains (At now) acts) (sym n.2)
    (drain_on now busy n.0 n.1 n.3 n.4))
    (ends_early grew cut watch RoundPart Drains now w new end (drain_follows RoundPart now l) h))

-- nothing stands on either wire
pub drain_over : {W : Type 0} {grew : W → List Note → W → Type 0} {cut : W → Note → W → Type 0}
    → IsWatch grew cut → (before now : LinkState) (old w : W) → is_busy (At now) ≡ false
    → Comes grew (Open Drains) before old (At now) w → Comes grew Drains before old (At now) w
unfolding acts_notes
drain_over watch before now old w idle way =
    open_comes watch Drains before now old w w (At now) way (record {
      acts = [];
      part = LoopRests idle refl;
      reached = goes_none (At now);
      grown = watch.none w;
    })

-- so many rounds are left, at most
pub fewer_rounds : {W : Type 0} {grew : W → List Note → W → Type 0}
    → (n : ℕ) (now mid : LinkState) (w new : W) → is_busy (rounds (suc n) (At now)) ≡ false
    → Comes grew RoundPart now w (At mid) new
    → is_busy (rounds n (At mid)) ≡ false
unfolding rounds
fewer_rounds n now mid w new idle h =
    subst (λ (r : Reached). is_busy (rounds n r) ≡ false)
    (sym (round_goes (At now) h.acts h.part) ∙ h.reached) idle

pub rounds_left : (now : LinkState) → IsSoundLink now → is_busy (rounds 3 (At now)) ≡ false
rounds_left now l = rested_is_idle (rounds 3 (At now)) (three_rounds now l)

pub none_left : (now : LinkState) → is_busy (rounds 0 (At now)) ≡ false → is_busy (At now) ≡ false
unfolding rounds
none_left now idle = idle

-- so many rounds of a drain are done
pub record Draining {W : Type 0} (grew : W → List Note → W → Type 0) (before : LinkState) (old : W)
    (now : LinkState) (w : W) (done : ℕ) : Type 0 where
  pub way : Comes grew (Open Drains) before old (At now) w
  pub sound : IsSoundLink now
  pub idle : is_busy (rounds (3 - done) (At now)) ≡ false

pub draining_begins : {W : Type 0} {grew : W → List Note → W → Type 0} {cut : W → Note → W → Type 0}
    → IsWatch grew cut → (before : LinkState) (old : W) → IsSoundLink before
    → Draining grew before old before old 0
draining_begins watch before old l = record {
  way = open_none watch Drains before old;
  sound = l;
  idle = rounds_left before l;
}

pub draining_on : {W : Type 0} {grew : W → List Note → W → Type 0} {cut : W → Note → W → Type 0}
    → IsWatch grew cut → (before now mid : LinkState) (old w new : W) (done : ℕ) → done < 3
    → is_busy (At now) ≡ true
    → Draining grew before old now w done → Comes grew RoundPart now w (At mid) new
    → Draining grew before old mid new (done + 1)
draining_on watch before now mid old w new done less busy d h =
    let more : 3 - done ≡ suc (3 - (done + 1)) = omega arith in
    record {
      way = drain_open watch before now mid old w new busy d.way h;
      sound = sound_then RoundPart now mid w new d.sound h;
      idle =
          fewer_rounds (3 - (done + 1)) now mid w new
          (subst (λ (n : ℕ). is_busy (rounds n (At now)) ≡ false) more d.idle) h;
    }

pub draining_ends : {W : Type 0} {grew : W → List Note → W → Type 0} (before now : LinkState)
    (old w : W) (done : ℕ) → 3 ≤ done → Draining grew before old now w done
    → is_busy (At now) ≡ false
draining_ends before now old w done all d =
    let none : 3 - done ≡ 0 = omega arith in
    none_left now (subst (λ (n : ℕ). is_busy (rounds n (At now)) ≡ false) none d.idle)

-- ---- a turn

pub pump_comes : {W : Type 0} (grew : W → List Note → W → Type 0) (side : Side)
    (before next : LinkState) (old new : W) → next ≡ pumped side 1 before
    → grew old (pump_notes side 1 before) new
    → Comes grew (Pumps side) before old (At next) new
pump_comes grew side before next old new is noted =
    comes_map (Only (Pump side 1)) (Pumps side) before old new (At next) (λ all part. part)
    (one_comes (Pump side 1) before old new (At next) (ap At (sym is)) noted)

pub pump_ends : {W : Type 0} (grew : W → List Note → W → Type 0) (cut : W → Note → W → Type 0)
    (side : Side) (before : LinkState) (old new : W) (end : NoteEnd)
    → Stopped grew cut old (pump_notes side 1 before) new
    → Ends grew cut (Pumps side) before old (end_of end) new
pump_ends grew cut side before old new Stop.Failed stopped =
    stops_map (Only (Pump side 1)) (Pumps side) before old new (λ all part. part)
    (one_stops (Pump side 1) before old new stopped)
pump_ends grew cut side before old new Stop.NoMemory stopped =
    stops_map (Only (Pump side 1)) (Pumps side) before old new (λ all part. part)
    (one_stops (Pump side 1) before old new stopped)

-- ---- a status

pub tell_comes : {W : Type 0} (grew : W → List Note → W → Type 0) (side : Side)
    (before next : LinkState) (old new : W) → next ≡ told_from side before
    → grew old (tell_notes side before) new
    → Comes grew (TellsOnce side) before old (At next) new
tell_comes grew side before next old new is noted =
    one_comes (Tell side) before old new (At next) (ap At (sym is)) noted

pub tell_ends : {W : Type 0} (grew : W → List Note → W → Type 0) (cut : W → Note → W → Type 0)
    (side : Side) (before : LinkState) (old new : W) (end : NoteEnd)
    → Stopped grew cut old (tell_notes side before) new
    → Ends grew cut (TellsOnce side) before old (end_of end) new
tell_ends grew cut side before old new Stop.Failed stopped =
    one_stops (Tell side) before old new stopped
tell_ends grew cut side before old new Stop.NoMemory stopped =
    one_stops (Tell side) before old new stopped

-- ---- what follows in the schedule

turn_found : (near side : Side) (e : Event) → TakesTurn near (FoundAt side e) []
turn_found near side e = ([], [], refl, refl, found_none side e)

pub turn_follows : (near : Side) (P : SchedulePart) (before : LinkState) → IsSoundLink before
    → Follows P (TakesTurn near) before
turn_follows near P before l = record {
  found = turn_found near;
  can = λ acts part. turn_can near (goes (At before) acts) (acts_keep acts (At before) l);
}

pub requests_follow : (near : Side) (P : SchedulePart) (before : LinkState) → IsSoundLink before
    → Follows P (Requests near) before
requests_follow near P before l = record {
  found = λ side e. refl;
  can = λ acts part. requests_can near (goes (At before) acts) (acts_keep acts (At before) l);
}

-- ---- a time-out

pub fire_comes : {W : Type 0} (grew : W → List Note → W → Type 0) (side : Side)
    (before next : LinkState) (old new : W)
    → of_end side (λ link. may_fire link.a.output) (At before) ≡ true
    → next ≡ timed_out_at side before → grew old (time_out_notes side before) new
    → Comes grew (TimesOut side) before old (At next) new
fire_comes grew side before next old new may is noted =
    comes_where (of_end side (λ link. may_fire link.a.output)) (Only (Fire side)) before old new
    (At next) may
    (one_comes (Fire side) before old new (At next) (ap At (sym is)) noted)

pub fire_ends : {W : Type 0} (grew : W → List Note → W → Type 0) (cut : W → Note → W → Type 0)
    (side : Side) (before : LinkState) (old new : W) (end : NoteEnd)
    → of_end side (λ link. may_fire link.a.output) (At before) ≡ true
    → Stopped grew cut old (time_out_notes side before) new
    → Ends grew cut (TimesOut side) before old (end_of end) new
fire_ends grew cut side before old new Stop.Failed may stopped =
    stops_where (of_end side (λ link. may_fire link.a.output)) (Only (Fire side)) before old new may
    (one_stops (Fire side) before old new stopped)
fire_ends grew cut side before old new Stop.NoMemory may stopped =
    stops_where (of_end side (λ link. may_fire link.a.output)) (Only (Fire side)) before old new may
    (one_stops (Fire side) before old new stopped)
