-- A turn that waits changes no register, and the next one of that host changes nothing at all.
use Rattle.std.proofs.Common.{◌≡◌, ℕ, ◌<◌, Bool, true, false, List, [], ◌∷◌, Option, Some, None, Contains, arith, ◌⊎◌, inl, inr, subst, sym, refl, ap, ◌∙◌, ne_eqb, if◌then◌else◌}
use Rattle.std.proofs.lemmas.Bool.{le-ltb}
use Rattle.fabric_script.specs.declared.ports.PortRef.{PortRef}
use Rattle.fabric_map.specs.Topology.{entered}
use Rattle.fabric_map.specs.Routes.{AllRegisters}
use Rattle.fabric_map.proofs.Lists.{Contains-cases, not_in_empty}
use Rattle.host_enumerate.specs.declared.maint.Access.TheVariants.{Read}
use Rattle.host_enumerate.specs.Accesses.{after_access}
use Rattle.link_watch.specs.declared.side.Side.{Side}
use Rattle.link_watch.specs.declared.side.Side.TheVariants.{A, B}
use Rattle.contest_machine.specs.declared.stages.PendingWrite.{PendingWrite}
use Rattle.contest_machine.specs.declared.stages.Tried.{Tried}
use Rattle.contest_machine.specs.declared.stages.Stage.{Stage}
use Rattle.contest_machine.specs.declared.stages.Stage.TheVariants.{Ask, Claim, Check, Test, Features, Information, Status, Free, Done, Lost}
use Rattle.contest_machine.specs.declared.stages.Turn.{Turn}
use Rattle.contest_machine.specs.declared.stages.Turn.TheVariants.{Waiting}
use Rattle.contest_machine.specs.Machine.{Walker, State, asked, judged, told_at, reached, stepped}
use Rattle.contest_machine.specs.Turns.{is_locking, locked_on, walker_turned, Both, turn_of, after_turns}
use Rattle.contest_machine.specs.Locks.{walker_of, side_answer, lock_at, lock_next, state_of, locks_at_first, locks_in, locks_in_turn}
use Rattle.contest_machine.specs.Waiting.{HasLesser}
use Rattle.contest_machine.proofs.Keeping.Reading.{read-same, lock_told}
use Rattle.contest_machine.proofs.Turns.Lasting.{step_lasts}
use Rattle.contest_machine.proofs.Turns.Staying.{walkers_stay}
use Rattle.contest_machine.proofs.Turns.Steps.{status_reads_none}
use Rattle.contest_machine.proofs.Turns.WaitingTurns.{waiting_exactly}
use Rattle.host_contest.proofs.Machines.{choose}
use Rattle.host_contest.proofs.Stepping.{turned_later}
use Rattle.fabric_contest.specs.Contests.{both_of, CanTurn}
use Rattle.fabric_contest.specs.LastTurns.{lasts_of, lasts_after}
use Rattle.fabric_contest.specs.Waits.{HaveBegun, WaitsChangeNothing}
use Rattle.fabric_contest.specs.declared.contest.Contest.{Contest}
use Rattle.fabric_contest.specs.declared.contest.WhoWaits.{WhoWaits}
use Rattle.fabric_contest.proofs.Playing.{first_at, second_at}

-- ---- one access

module _ (w : Walker) (small : w.id < 0xff) (r : AllRegisters) where
  abbrev calm : Stage → Walker
  calm stage = record w { todo = []; stage = stage }

  judged_lesser : (stage : Stage) (lock : ℕ) → lock < w.id → judged (calm stage) lock ≡ calm Ask
  judged_lesser stage lock less =
      rw (
        ne_eqb lock 0xffff (λ e. omega (arith, e, less, small)),
        le-ltb w.id lock (omega (arith, less)),
      ) refl

  ask_lesser : (lock : ℕ) → lock < w.id → told_at (calm Ask) lock Ask ≡ calm Ask
  ask_lesser lock less =
      rw (ne_eqb lock w.id (λ e. omega (arith, e, less))) (judged_lesser Ask lock less)

  check_lesser : (lock : ℕ) → lock < w.id → told_at (calm Check) lock Check ≡ calm Ask
  check_lesser lock less =
      rw (ne_eqb lock w.id (λ e. omega (arith, e, less))) (judged_lesser Check lock less)

  lesser_of : (lock : ℕ) → HasLesser w.id (lock ∷ []) → lock < w.id
  lesser_of lock found = go (Contains-cases lock [] found.0 found.1)
    where
      go : (lock ≡ found.0) ⊎ Contains [] found.0 → lock < w.id
      go (inl same) = subst (λ n. n < w.id) (sym same) found.2
      go (inr empty) = absurd (not_in_empty found.0 empty)

  -- a lesser lock is read
  read_lesser : (stage : Stage)
      → ((lock : ℕ) → lock < w.id → told_at (calm stage) lock stage ≡ calm Ask)
      → (o : Option PortRef) → HasLesser w.id (lock_at r o)
      → reached (calm stage) r (asked w.path (Read 0x68)) o ≡ state_of (calm Ask) r
  read_lesser stage told None found = absurd (not_in_empty found.0 found.1)
  read_lesser stage told (Some at) found =
      ap (λ n. state_of (told_at (calm stage) n stage) (after_access r at (Read 0x68)))
      (lock_told (r at.node) at.port)
      ∙ (ap (λ v. state_of v (after_access r at (Read 0x68)))
      (told (r at.node).lock (lesser_of (r at.node).lock found))
      ∙ ap (λ s. state_of (calm Ask) s) (read-same r at 0x68))

  no_status : (tried : List Tried) → HasLesser w.id
      (lock_next (state_of (record w { todo = []; stage = Status; tried = tried }) r)) → ⊥
  no_status [] found = not_in_empty found.0 found.1
  no_status (top ∷ rest) found =
      let none = subst (HasLesser w.id) (status_reads_none w r top rest) found in
      not_in_empty none.0 none.1

  abbrev IsStill : Walker → Walker → Type 0
  IsStill old new = (stepped old r ≡ state_of new r) × (stepped new r ≡ state_of new r)

  stage_still : (stage : Stage) → HasLesser w.id (lock_next (state_of (calm stage) r))
      → IsStill (calm stage) (calm Ask)
  stage_still Ask found =
      let same = read_lesser Ask ask_lesser (entered w.view w.path) found in (same, same)
  stage_still Claim found = absurd (not_in_empty found.0 found.1)
  stage_still Check found = (
    read_lesser Check check_lesser (entered w.view w.path) found,
    read_lesser Ask ask_lesser (entered w.view w.path) found,
  )
  stage_still Test found = absurd (not_in_empty found.0 found.1)
  stage_still Features found = absurd (not_in_empty found.0 found.1)
  stage_still Information found = absurd (not_in_empty found.0 found.1)
  stage_still Status found = absurd (no_status w.tried found)
  stage_still Free found = absurd (not_in_empty found.0 found.1)
  stage_still Done found = absurd (not_in_empty found.0 found.1)
  stage_still Lost found = absurd (not_in_empty found.0 found.1)

-- the walker that waits asks for the lock again
abbrev waiting : Walker → Walker
waiting w = record w { stage = Ask }

-- ---- one turn of a walker

step_still : (w : Walker) (small : w.id < 0xff) (r : AllRegisters)
    → HasLesser w.id (lock_next (state_of w r)) → IsStill w small r w (waiting w)
step_still w small r found = go w.todo w.stage found
  where
    go : (todo : List PendingWrite) (stage : Stage)
        → HasLesser w.id (lock_next (state_of (record w { todo = todo; stage = stage }) r))
        → IsStill w small r (record w { todo = todo; stage = stage })
        (record w { todo = todo; stage = Ask })
    go [] stage found = stage_still w small r stage found
    go (p ∷ rest) stage found = absurd (not_in_empty found.0 found.1)

turn_still : (w : Walker) (r : AllRegisters) → w.id < 0xff → w.begun ≡ true
    → HasLesser w.id (locks_in w r)
    → (walker_turned w r ≡ state_of (waiting w) r)
    × (walker_turned (waiting w) r ≡ state_of (waiting w) r)
turn_still w r small begun found =
    let read = choose w.begun (lock_next (state_of w r))
    (locks_at_first (state_of (record w { begun = true }) r)) begun in
    let still = step_still w small r (subst (HasLesser w.id) (sym read) found) in (
      sym (turned_later w r begun) ∙ still.0,
      sym (turned_later (waiting w) r begun) ∙ still.1,
    )

-- ---- after a turn both have begun, if the other had

locked_begun : (state : State) → state.walker.begun ≡ true
    → (locked_on state).walker.begun ≡ true
locked_begun state is = go (is_locking state.walker.stage)
  where
    go : (b : Bool)
        → (if b then stepped state.walker state.registers else state).walker.begun ≡ true
    go true = (step_lasts state.walker state.registers).begun ∙ is
    go false = is

turned_begun : (w : Walker) (r : AllRegisters) → (walker_turned w r).walker.begun ≡ true
turned_begun w r = go w.begun refl
  where
    first : State
    first = stepped (record w { begun = true }) r

    go : (b : Bool) → w.begun ≡ b
        → (if b then stepped w r else locked_on (locked_on first)).walker.begun ≡ true
    go true is = (step_lasts w r).begun ∙ is
    go false is = locked_begun (locked_on first)
        (locked_begun first (step_lasts (record w { begun = true }) r).begun)

begun_after : (both : Both) (turn : Side) → HaveBegun both → HaveBegun (turn_of both turn)
begun_after both turn begun = λ side. go side turn (begun side)
  where
    go : (side turn : Side) → (walker_of both side).begun ≡ true
        → (walker_of (turn_of both turn) side).begun ≡ true
    go A A is = turned_begun both.first both.registers
    go A B is = is
    go B A is = is
    go B B is = turned_begun both.second both.registers

-- the first turn of each
pub both_begin : (s t u : Both) → t ≡ turn_of s A → u ≡ turn_of t B → HaveBegun u
both_begin s t u first second =
    subst HaveBegun (sym (second ∙ ap (λ b. turn_of b B) first)) (λ side. go side)
  where
    go : (side : Side) → (walker_of (turn_of (turn_of s A) B) side).begun ≡ true
    go A = turned_begun s.first s.registers
    go B = turned_begun s.second (turn_of s A).registers

pub none_waits : (both : Both) → HaveBegun both
    → WaitsChangeNothing both (record { first = false; second = false })
none_waits both begun = record {
  begun = begun;
  first = λ is. absurd (cc);
  second = λ is. absurd (cc);
}

-- ---- one turn of two walkers

abbrev with_first : Walker → Both → Both
with_first w both = record both { first = w }

abbrev with_second : Walker → Both → Both
with_second w both = record both { second = w }

module _ (contest : Contest) (can : CanTurn contest) (waits : WhoWaits)
    (old : WaitsChangeNothing (both_of contest) waits) where
  abbrev both : Both
  both = both_of contest

  small_id : (side : Side) → (walker_of both side).id < 0xff
  small_id side =
      subst (λ (b : Both). (walker_of b side).id < 0xff) (sym can.both_is)
      (subst (λ n. n < 0xff) (sym (walkers_stay can.begun can.turns side).1) (can.start.ids side))

  lesser_read : (side : Side) → side_answer both side ≡ Waiting
      → HasLesser (walker_of both side).id (locks_in_turn both side side)
  lesser_read side is =
      let start = can.start in
      let now = after_turns can.begun can.turns in
      let exactly = waiting_exactly can.begun can.turns side (start.new side) (start.ids side)
      (start.proper side) (start.shown side) in
      subst (λ (b : Both). HasLesser (walker_of b side).id (locks_in_turn b side side))
      (sym can.both_is)
      (subst (λ n. HasLesser n (locks_in_turn now side side))
      (sym (walkers_stay can.begun can.turns side).1)
      (exactly.0 (subst (λ (b : Both). side_answer b side ≡ Waiting) can.both_is is)))

  first_still : side_answer both A ≡ Waiting
      → (turn_of both A ≡ with_first (waiting both.first) both)
      × (turn_of (with_first (waiting both.first) both) A
      ≡ with_first (waiting both.first) both)
  first_still is =
      let still = turn_still both.first both.registers (small_id A) (old.begun A)
      (lesser_read A is) in (
        ap (λ (s : State). first_at s both.second) still.0,
        ap (λ (s : State). first_at s both.second) still.1,
      )

  second_still : side_answer both B ≡ Waiting
      → (turn_of both B ≡ with_second (waiting both.second) both)
      × (turn_of (with_second (waiting both.second) both) B
      ≡ with_second (waiting both.second) both)
  second_still is =
      let still = turn_still both.second both.registers (small_id B) (old.begun B)
      (lesser_read B is) in (
        ap (λ (s : State). second_at s both.first) still.0,
        ap (λ (s : State). second_at s both.first) still.1,
      )

  -- what is seen of a turn
  module _ (new : Contest) (side : Side) (turned : both_of new ≡ turn_of both side)
      (lasts : lasts_of new ≡ lasts_after both (lasts_of contest) side) where
    pub first_seen : side ≡ A → new.first.last ≡ Waiting
        → WaitsChangeNothing (both_of new) (record waits { first = true })
    first_seen is waited =
        let answer = subst (λ s. lasts_of new ≡ lasts_after both (lasts_of contest) s) is lasts in
        let still = first_still (sym (ap (λ (l : Turn × Turn). l.0) answer) ∙ waited) in
        subst (λ b. WaitsChangeNothing b (record waits { first = true }))
        (sym (turned ∙ ap (λ s. turn_of both s) is)) (record {
          begun = begun_after both A old.begun;
          first = λ yes. ap (λ b. turn_of b A) still.0 ∙ (still.1 ∙ sym still.0);
          second = λ other.
              ap (λ b. turn_of b B) still.0
              ∙ (ap (with_first (waiting both.first)) (old.second other) ∙ sym still.0);
        })

    pub second_seen : side ≡ B → new.second.last ≡ Waiting
        → WaitsChangeNothing (both_of new) (record waits { second = true })
    second_seen is waited =
        let answer = subst (λ s. lasts_of new ≡ lasts_after both (lasts_of contest) s) is lasts in
        let still = second_still (sym (ap (λ (l : Turn × Turn). l.1) answer) ∙ waited) in
        subst (λ b. WaitsChangeNothing b (record waits { second = true }))
        (sym (turned ∙ ap (λ s. turn_of both s) is)) (record {
          begun = begun_after both B old.begun;
          first = λ other.
              ap (λ b. turn_of b A) still.0
              ∙ (ap (with_second (waiting both.second)) (old.first other) ∙ sym still.0);
          second = λ yes. ap (λ b. turn_of b B) still.0 ∙ (still.1 ∙ sym still.0);
        })

    -- any other turn
    pub none_seen : WaitsChangeNothing (both_of new) (record { first = false; second = false })
    none_seen =
        none_waits (both_of new)
        (subst HaveBegun (sym turned) (begun_after both side old.begun))
