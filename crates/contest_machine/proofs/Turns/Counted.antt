-- Over all turns a host goes on no more often than it has turns left at first.
use Rattle.contest_machine.proofs.Prelude.{◌≡◌, ℕ, ◌+◌, ◌*◌, ◌≤◌, Bool, true, false, List, [], ◌∷◌, ◌++◌, length, Contains, arith, subst, sym, refl, ap, ◌∙◌, if◌then◌else◌, same_device, AllRegisters, paths_of, not_in_empty, Side, A, B, Stage, Ask, Claim, Check, Test, Features, Information, Status, Free, Done, Lost, Walker, State, kept, fresh, stepped, is_locking, locked_on, walker_turned, came_at, came_of, Both, turn_of, after_turns, IsNew, AreShort, IsBoundedAt, WalkerIsWithin, walker_of, going_one, going_in_turn, going_over, AreBegun, GoingIsBounded}
use Rattle.contest_machine.proofs.Keeping.Apart.{begun_holds, turned_by}
use Rattle.contest_machine.proofs.Turns.Led.{new_led}
use Rattle.contest_machine.proofs.Turns.WaitingTurns.{came_same}
use Rattle.contest_machine.proofs.Turns.Costing.{ports_left, room, turns_left_at, turns_left, claims_left_at, claims_left, going_most}
use Rattle.contest_machine.proofs.Turns.Fair.{IsFit, AreFair, swap_fair, step_fair, begun_fair, left_of, own_step, their_step}

-- ---- one turn

module _ (before : AllRegisters) (o : Walker) where
  abbrev FairTo : State → Type 0
  FairTo state = AreFair before state.walker o state.registers

  abbrev left_in : State → ℕ
  left_in state = left_of state.walker o state.registers

  -- an access that locks the host goes on, whatever it answers in the end
  locking_goes : (w after : Walker) (stage : Stage) → is_locking stage ≡ true
      → going_one (came_at w after stage) ≡ 1
  locking_goes w after Ask is = absurd (cc)
  locking_goes w after Claim is = refl
  locking_goes w after Check is = refl
  locking_goes w after Test is = refl
  locking_goes w after Features is = absurd (cc)
  locking_goes w after Information is = absurd (cc)
  locking_goes w after Status is = absurd (cc)
  locking_goes w after Free is = absurd (cc)
  locking_goes w after Done is = absurd (cc)
  locking_goes w after Lost is = absurd (cc)

  locked_fair : (state : State) → FairTo state → FairTo (locked_on state)
  locked_fair state fair = go (is_locking state.walker.stage)
    where
      go : (b : Bool) → FairTo (if b then stepped state.walker state.registers else state)
      go true = step_fair before state.walker o state.registers fair
      go false = fair

  locked_left : (w : Walker) (state : State) (most : ℕ) → FairTo state
      → left_in state + going_one (came_of w state.walker) ≤ most
      → left_in (locked_on state) + going_one (came_of w (locked_on state).walker) ≤ most
  locked_left w state most fair paid = go (is_locking state.walker.stage) refl
    where
      next : State
      next = stepped state.walker state.registers

      go : (b : Bool) → is_locking state.walker.stage ≡ b
          → left_in (if b then stepped state.walker state.registers else state)
          + going_one (came_of w (if b then stepped state.walker state.registers else state).walker)
          ≤ most
      go true is =
          let less = own_step before state.walker o state.registers fair in
          let one = locking_goes w state.walker state.walker.stage is in
          let most_one = going_most (came_of w (stepped state.walker state.registers).walker) in
          omega (arith, less, one, most_one, paid)
      go false is = paid

  -- that a walker has begun costs nothing
  begun_left : (w : Walker) (now : AllRegisters)
      → left_of (record w { begun = true }) o now ≡ left_of w o now
  begun_left w now = go w.stage
    where
      go : (stage : Stage) → turns_left_at (record w { begun = true }) now stage
          + 2 * claims_left o now ≡ turns_left_at w now stage + 2 * claims_left o now
      go Ask = refl
      go Claim = refl
      go Check = refl
      go Test = refl
      go Features = refl
      go Information = refl
      go Status = refl
      go Free = refl
      go Done = refl
      go Lost = refl

  own_turn : (w : Walker) (old : AllRegisters) → AreFair before w o old
      → left_in (walker_turned w old) + going_one (came_of w (walker_turned w old).walker)
      ≤ left_of w o old
  own_turn w old fair = go w.begun
    where
      begun : Walker
      begun = record w { begun = true }

      first : State
      first = stepped (record w { begun = true }) old

      last : State
      last = locked_on (locked_on (stepped (record w { begun = true }) old))

      once : AreFair before (record w { begun = true }) o old
      once = begun_fair before w o old fair

      fair_first : FairTo (stepped (record w { begun = true }) old)
      fair_first = step_fair before (record w { begun = true }) o old once

      paid : left_in (locked_on (locked_on (stepped (record w { begun = true }) old)))
          + going_one (came_of (record w { begun = true })
          (locked_on (locked_on (stepped (record w { begun = true }) old))).walker)
          ≤ left_of (record w { begun = true }) o old
      paid =
          locked_left (record w { begun = true })
          (locked_on (stepped (record w { begun = true }) old))
          (left_of (record w { begun = true }) o old)
          (locked_fair (stepped (record w { begun = true }) old) fair_first)
          (locked_left (record w { begun = true }) (stepped (record w { begun = true }) old)
          (left_of (record w { begun = true }) o old) fair_first
          (own_step before (record w { begun = true }) o old once))

      go : (b : Bool) → left_in (if b then stepped w old
          else locked_on (locked_on (stepped (record w { begun = true }) old)))
          + going_one (came_of w (if b then stepped w old
          else locked_on (locked_on (stepped (record w { begun = true }) old))).walker)
          ≤ left_of w o old
      go true = own_step before w o old fair
      go false =
          subst (λ n. left_in last + going_one (came_of w last.walker) ≤ n) (begun_left w old)
          (subst (λ c. left_in last + going_one c ≤ left_of (record w { begun = true }) o old)
          (came_same (record w { begun = true }) w last.walker last.walker.stage refl) paid)

  fair_turn : (w : Walker) (old : AllRegisters) → AreFair before w o old
      → FairTo (walker_turned w old)
  fair_turn w old fair =
      turned_by FairTo (λ v r f. step_fair before v o r f) w old fair
      (begun_fair before w o old fair)

  -- the other has no more left after a turn of the walker
  their_turn : (w : Walker) (old : AllRegisters) → AreFair before w o old
      → left_of o (walker_turned w old).walker (walker_turned w old).registers ≤ left_of o w old
  their_turn w old fair =
      (turned_by (λ (state : State). FairTo state
      × (left_of o state.walker state.registers ≤ left_of o w old))
      (λ v r both. (
        step_fair before v o r both.0,
        less v r both.0 both.1,
      ))
      w old (fair, omega arith) (begun_fair before w o old fair, begun w.stage)).1
    where
      less : (v : Walker) (r : AllRegisters) → AreFair before v o r
          → left_of o v r ≤ left_of o w old
          → left_of o (stepped v r).walker (stepped v r).registers ≤ left_of o w old
      less v r fair most =
          let step = their_step before v o r fair in
          omega (arith, step, most)

      begun : (stage : Stage) → turns_left o old
          + 2 * claims_left_at (record w { begun = true }) old stage
          ≤ turns_left o old + 2 * claims_left_at w old stage
      begun Ask = omega arith
      begun Claim = omega arith
      begun Check = omega arith
      begun Test = omega arith
      begun Features = omega arith
      begun Information = omega arith
      begun Status = omega arith
      begun Free = omega arith
      begun Done = omega arith
      begun Lost = omega arith

-- ---- all turns

-- what a host of the two has left
abbrev pub FairFor : AllRegisters → Both → Side → Type 0
FairFor before both A = AreFair before both.first both.second both.registers
FairFor before both B = AreFair before both.second both.first both.registers

abbrev pub left_for : Both → Side → ℕ
left_for both A = left_of both.first both.second both.registers
left_for both B = left_of both.second both.first both.registers

pub turn_fair : (before : AllRegisters) (both : Both) (side turn : Side) → FairFor before both side
    → FairFor before (turn_of both turn) side
turn_fair before both A A fair = fair_turn before both.second both.first both.registers fair
turn_fair before both A B fair =
    swap_fair before (walker_turned both.second both.registers).walker both.first _
    (fair_turn before both.first both.second both.registers
    (swap_fair before both.first both.second both.registers fair))
turn_fair before both B A fair =
    swap_fair before (walker_turned both.first both.registers).walker both.second _
    (fair_turn before both.second both.first both.registers
    (swap_fair before both.second both.first both.registers fair))
turn_fair before both B B fair = fair_turn before both.first both.second both.registers fair

pub turn_left : (before : AllRegisters) (both : Both) (side turn : Side) → FairFor before both side
    → left_for (turn_of both turn) side + going_in_turn both side turn ≤ left_for both side
turn_left before both A A fair = own_turn before both.second both.first both.registers fair
turn_left before both A B fair =
    let most = their_turn before both.first both.second both.registers
    (swap_fair before both.first both.second both.registers fair) in
    omega (arith, most)
turn_left before both B A fair =
    let most = their_turn before both.second both.first both.registers
    (swap_fair before both.second both.first both.registers fair) in
    omega (arith, most)
turn_left before both B B fair = own_turn before both.first both.second both.registers fair

pub turns_fair : (before : AllRegisters) (both : Both) (side : Side) (turns : List Side)
    → FairFor before both side → FairFor before (after_turns both turns) side
turns_fair before both side [] fair = fair
turns_fair before both side (turn ∷ turns) fair =
    turns_fair before (turn_of both turn) side turns (turn_fair before both side turn fair)

turns_counted : (before : AllRegisters) (both : Both) (side : Side) (turns : List Side)
    → FairFor before both side
    → left_for (after_turns both turns) side + going_over both side turns ≤ left_for both side
turns_counted before both side [] fair = omega arith
turns_counted before both side (turn ∷ turns) fair =
    let one = turn_left before both side turn fair in
    let rest = turns_counted before (turn_of both turn) side turns
    (turn_fair before both side turn fair) in
    omega (arith, one, rest)

-- ---- from the start

new_within : (both : Both) (side : Side) → AreBegun both → WalkerIsWithin (walker_of both side)
new_within both side begun = record {
  proper = begun.proper side;
  leading = λ path listed. absurd (not_in_empty path (subst (λ l. Contains l path) none listed));
  bounded = subst (λ s. IsBoundedAt s w.devices w.id w.next w.path w.tried) (sym new.stage)
      (record {
        path_is = omega (arith, length_is, devices_are);
        next_is = omega (arith, next_is);
        before = λ early. omega (arith, next_is);
        short = subst (AreShort (length w.devices)) (sym new.tried) tt;
      });
}
  where
    w : Walker
    w = walker_of both side

    new : IsNew (walker_of both side)
    new = begun.new side

    none : kept (walker_of both side) ≡ []
    none = ap (λ d. paths_of d ++ fresh w.stage w.path) new.devices
        ∙ ap (λ s. fresh s w.path) new.stage

    length_is : length (walker_of both side).path ≡ 0
    length_is = ap (λ l. length l) new.path

    devices_are : length (walker_of both side).devices ≡ 0
    devices_are = ap (λ l. length l) new.devices

    next_is : (walker_of both side).next ≡ 0
    next_is = begun.next side

new_fit : (both : Both) (side : Side) → AreBegun both
    → IsFit both.registers (walker_of both side) both.registers
new_fit both side begun = record {
  within = new_within both side begun;
  shown = begun.shown side;
  led = new_led (walker_of both side) (begun.new side);
  same = λ node. same_device (both.registers node);
}

begun_apart : (both : Both) → AreBegun both
    → AreFair both.registers both.first both.second both.registers
begun_apart both begun = record {
  contest = begun_holds both (begun.new A) (begun.new B) begun.differ (begun.ids A) (begun.ids B);
  first = new_fit both A begun;
  second = new_fit both B begun;
}

pub begun_for : (both : Both) (side : Side) → AreBegun both → FairFor both.registers both side
begun_for both A begun = begun_apart both begun
begun_for both B begun =
    swap_fair both.registers both.first both.second both.registers (begun_apart both begun)

new_turns : (w : Walker) (now : AllRegisters) → IsNew w → turns_left w now ≡ 27656
new_turns w now new =
    subst (λ s. turns_left_at w now s ≡ 27656) (sym new.stage)
    (ap (λ d. 8450 + 300 * room d + ports_left w.tried + length w.todo + 6) new.devices
    ∙ (ap (λ t. 8450 + 300 * 64 + ports_left t + length w.todo + 6) new.tried
    ∙ ap (λ t. 8450 + 300 * 64 + 0 + length t + 6) new.todo))

new_claims : (w : Walker) (now : AllRegisters) → IsNew w → claims_left w now ≡ 64
new_claims w now new =
    subst (λ s. claims_left_at w now s ≡ 64) (sym new.stage) (ap (λ d. room d) new.devices)

begun_left_for : (both : Both) (side : Side) → AreBegun both → left_for both side ≡ 27784
begun_left_for both A begun =
    let turns = new_turns both.first both.registers (begun.new A) in
    let claims = new_claims both.second both.registers (begun.new B) in
    omega (arith, turns, claims)
begun_left_for both B begun =
    let turns = new_turns both.second both.registers (begun.new B) in
    let claims = new_claims both.first both.registers (begun.new A) in
    omega (arith, turns, claims)

pub going_bounded : GoingIsBounded
going_bounded both turns side begun =
    let all = turns_counted both.registers both side turns (begun_for both side begun) in
    let most = begun_left_for both side begun in
    omega (arith, all, most)

pub left_at_most : (both : Both) (turns : List Side) (side : Side) → AreBegun both
    → left_for (after_turns both turns) side ≤ 27784
left_at_most both turns side begun =
    let all = turns_counted both.registers both side turns (begun_for both side begun) in
    let most = begun_left_for both side begun in
    omega (arith, all, most)
