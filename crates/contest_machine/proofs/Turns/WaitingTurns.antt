-- A turn waits exactly where it read the lock of a host with a lesser ID.
use Rattle.contest_machine.proofs.Prelude.{◌≡◌, ◌≢◌, ℕ, ◌<◌, ◌↔◌, Bool, true, false, List, [], ◌∷◌, ◌++◌, append-nil, Contains, ◌⊎◌, inl, inr, subst, sym, refl, ap, ◌∙◌, if◌then◌else◌, append_assoc, Contains-append_right, Contains-append_cases, Topology, IsTopology, AllRegisters, Fits, Side, A, B, Stage, Ask, Claim, Check, Test, Features, Information, Status, Free, Done, Lost, Walker, State, stepped, waits_or_goes, came_at, came_of, is_locking, locked_on, walker_turned, Both, turn_of, after_turns, IsNew, walker_of, side_answer, lock_next, lock_next_on, state_of, locks_at_first, locks_in, locks_in_turn, HasLesser, WaitingIsForALesser, same_device}
use Rattle.contest_machine.specs.declared.stages.Turn.TheVariants as Turns
use Rattle.contest_machine.proofs.Keeping.Apart.{turned_by}
use Rattle.contest_machine.proofs.Turns.Lasting.{AreSameDevices, step_lasts, step_same}
use Rattle.contest_machine.proofs.Turns.Led.{IsLedAt, IsLed, step_led, new_led, begun_led}
use Rattle.contest_machine.proofs.Turns.Waiting.{Waits, no_wait_at, step_waits}

-- ---- one turn

pub came_same : (w v after : Walker) (stage : Stage) → w.todo ≡ v.todo
    → came_at w after stage ≡ came_at v after stage
came_same w v after Ask same = ap (λ t. waits_or_goes t after.todo) same
came_same w v after _ same = refl

-- what stands of a walker and the registers between two accesses
pub record IsStanding (before : AllRegisters) (view : Topology) (id : ℕ)
    (state : State) : Type 0 where
  pub led : IsLed state.walker
  pub view_is : state.walker.view ≡ view
  pub id_is : state.walker.id ≡ id
  pub same : AreSameDevices before state.registers

module _ (before : AllRegisters) (view : Topology) (id : ℕ) (proper : IsTopology view)
    (shown : Fits view before) (fits : id < 0xff) where
  abbrev Stands : State → Type 0
  Stands = IsStanding before view id

  step_stands : (w : Walker) (old : AllRegisters) → Stands (state_of w old) → Stands (stepped w old)
  step_stands w old stands = record {
    led = step_led w before old (subst IsTopology (sym stands.view_is) proper)
        (subst (λ v. Fits v before) (sym stands.view_is) shown) stands.same stands.led;
    view_is = (step_lasts w old).view ∙ stands.view_is;
    id_is = (step_lasts w old).id ∙ stands.id_is;
    same = step_same before w old stands.same;
  }

  next_waits : (state : State) → Stands state
      → Waits id state.walker (stepped state.walker state.registers).walker (lock_next state)
  next_waits state stands =
      subst (λ n. Waits n state.walker (stepped state.walker state.registers).walker
      (lock_next state)) stands.id_is
      (step_waits state.walker state.registers
      (subst (λ n. n < 0xff) (sym stands.id_is) fits) stands.led)

  locking_clear : (w : Walker) (stage : Stage) → is_locking stage ≡ true → IsLedAt w stage
      → w.todo ≡ []
  locking_clear w Ask is led = absurd (cc)
  locking_clear w Claim is led = led.1
  locking_clear w Check is led = led.1
  locking_clear w Test is led = led.1
  locking_clear w Features is led = absurd (cc)
  locking_clear w Information is led = absurd (cc)
  locking_clear w Status is led = absurd (cc)
  locking_clear w Free is led = absurd (cc)
  locking_clear w Done is led = absurd (cc)
  locking_clear w Lost is led = absurd (cc)

  not_asking : (stage : Stage) → is_locking stage ≡ true → stage ≢ Ask
  not_asking stage is same = clash (sym (ap is_locking same) ∙ is)
    where
      clash : false ≡ true → ⊥
      clash e = absurd (cc)

  -- the further accesses of the first turn
  locked_waits : (w : Walker) (state : State) (locks : List ℕ) → w.todo ≡ [] → Stands state
      → Waits id w state.walker locks
      → Waits id w (locked_on state).walker (locks ++ lock_next_on state)
  locked_waits w state locks clear stands so = go (is_locking state.walker.stage) refl
    where
      after : Walker
      after = (stepped state.walker state.registers).walker

      more : is_locking state.walker.stage ≡ true → Waits id w after (locks ++ lock_next state)
      more is = (
        λ waits.
            let found = next.0 (sym same ∙ waits) in
            (found.0, Contains-append_right locks (lock_next state) found.0 found.1, found.2),
        λ found. at found (Contains-append_cases locks (lock_next state) found.0 found.1),
      )
        where
          next : Waits id state.walker after (lock_next state)
          next = next_waits state stands

          same : came_of w after ≡ came_of state.walker after
          same = came_same w state.walker after after.stage
              (clear ∙ sym (locking_clear state.walker state.walker.stage is stands.led.1))

          at : (found : HasLesser id (locks ++ lock_next state))
              → Contains locks found.0 ⊎ Contains (lock_next state) found.0
              → came_of w after ≡ Turns.Waiting
          at found (inl first) =
              absurd (no_wait_at w state.walker state.walker.stage
              (not_asking state.walker.stage is) (so.1 (found.0, first, found.2)))
          at found (inr last) = same ∙ next.1 (found.0, last, found.2)

      go : (b : Bool) → is_locking state.walker.stage ≡ b
          → Waits id w (if b then stepped state.walker state.registers else state).walker
          (locks ++ (if b then lock_next state else []))
      go true is = more is
      go false is = subst (λ l. Waits id w state.walker l) (sym (append-nil locks)) so

  locked_stands : (state : State) → Stands state → Stands (locked_on state)
  locked_stands state stands = go (is_locking state.walker.stage)
    where
      go : (b : Bool) → Stands (if b then stepped state.walker state.registers else state)
      go true = step_stands state.walker state.registers stands
      go false = stands

  first_waits : (w : Walker) (old : AllRegisters) → w.todo ≡ [] → Stands (state_of w old)
      → Waits id w (locked_on (locked_on (stepped w old))).walker (locks_at_first (state_of w old))
  first_waits w old clear stands =
      subst (λ l. Waits id w (locked_on two).walker l)
      (append_assoc (lock_next (state_of w old)) (lock_next_on one) (lock_next_on two))
      (locked_waits w two (lock_next (state_of w old) ++ lock_next_on one) clear
      (locked_stands one (step_stands w old stands))
      (locked_waits w one (lock_next (state_of w old)) clear (step_stands w old stands)
      (next_waits (state_of w old) stands)))
    where
      one : State
      one = stepped w old

      two : State
      two = locked_on one

  begun_stands : (w : Walker) (old : AllRegisters) → Stands (state_of w old)
      → Stands (state_of (record w { begun = true }) old)
  begun_stands w old stands = record {
    led = (stands.led.0, begun_led w w.stage stands.led.1);
    view_is = stands.view_is;
    id_is = stands.id_is;
    same = stands.same;
  }

  turned_waits : (w : Walker) (old : AllRegisters) → (w.begun ≡ false → w.todo ≡ [])
      → Stands (state_of w old) → Waits id w (walker_turned w old).walker (locks_in w old)
  turned_waits w old clear stands = go w.begun refl
    where
      begun : Walker
      begun = record w { begun = true }

      last : State
      last = locked_on (locked_on (stepped begun old))

      go : (b : Bool) → w.begun ≡ b → Waits id w (if b then stepped w old
          else locked_on (locked_on (stepped (record w { begun = true }) old))).walker
          (if b then lock_next (state_of w old)
          else locks_at_first (state_of (record w { begun = true }) old))
      go true is = next_waits (state_of w old) stands
      go false is =
          subst (λ c. (c ≡ Turns.Waiting)
          ↔ HasLesser id (locks_at_first (state_of (record w { begun = true }) old)))
          (came_same begun w last.walker last.walker.stage refl)
          (first_waits begun old (clear is) (begun_stands w old stands))

  -- ---- over all turns

  turned_begun : (w : Walker) (old : AllRegisters) → (walker_turned w old).walker.begun ≡ true
  turned_begun w old = go w.begun refl
    where
      begun : Walker
      begun = record w { begun = true }

      on : (state : State) → state.walker.begun ≡ true → (locked_on state).walker.begun ≡ true
      on state is = at (is_locking state.walker.stage)
        where
          at : (b : Bool) → (if b then stepped state.walker state.registers
              else state).walker.begun ≡ true
          at true = (step_lasts state.walker state.registers).begun ∙ is
          at false = is

      go : (b : Bool) → w.begun ≡ b → (if b then stepped w old
          else locked_on (locked_on (stepped (record w { begun = true }) old))).walker.begun ≡ true
      go true is = (step_lasts w old).begun ∙ is
      go false is = on (locked_on (stepped begun old)) (on (stepped begun old)
          (step_lasts begun old).begun)

  -- a walker between two turns has begun, or has nothing to write
  pub record IsBetweenTurns (w : Walker) (old : AllRegisters) : Type 0 where
    pub stands : Stands (state_of w old)
    pub clear : w.begun ≡ false → w.todo ≡ []

  own_turn : (w : Walker) (old : AllRegisters) → IsBetweenTurns w old
      → IsBetweenTurns (walker_turned w old).walker (walker_turned w old).registers
  own_turn w old between = record {
    stands = turned_by Stands step_stands w old between.stands (begun_stands w old between.stands);
    clear = λ not. absurd (clash (sym not ∙ turned_begun w old));
  }
    where
      clash : false ≡ true → ⊥
      clash e = absurd (cc)

  their_turn : (w o : Walker) (old : AllRegisters) → IsBetweenTurns w old
      → IsBetweenTurns w (walker_turned o old).registers
  their_turn w o old between = record {
    stands = record {
      led = between.stands.led;
      view_is = between.stands.view_is;
      id_is = between.stands.id_is;
      same = turned_by (λ (state : State). AreSameDevices before state.registers)
          (step_same before) o old between.stands.same between.stands.same;
    };
    clear = between.clear;
  }

  pub turns_stand : (both : Both) (side : Side) (turns : List Side)
      → IsBetweenTurns (walker_of both side) both.registers
      → IsBetweenTurns (walker_of (after_turns both turns) side) (after_turns both turns).registers
  turns_stand both side [] between = between
  turns_stand both side (turn ∷ turns) between =
      turns_stand (turn_of both turn) side turns (one side turn between)
    where
      one : (side turn : Side) → IsBetweenTurns (walker_of both side) both.registers
          → IsBetweenTurns (walker_of (turn_of both turn) side) (turn_of both turn).registers
      one A A between = own_turn both.first both.registers between
      one A B between = their_turn both.first both.second both.registers between
      one B A between = their_turn both.second both.first both.registers between
      one B B between = own_turn both.second both.registers between

  pub turn_waits : (both : Both) (side : Side)
      → IsBetweenTurns (walker_of both side) both.registers
      → (side_answer both side ≡ Turns.Waiting) ↔ HasLesser id (locks_in_turn both side side)
  turn_waits both A between = turned_waits both.first both.registers between.clear between.stands
  turn_waits both B between = turned_waits both.second both.registers between.clear between.stands

pub new_between : (before : AllRegisters) (view : Topology) (id : ℕ) (proper : IsTopology view)
    (shown : Fits view before) (fits : id < 0xff) (w : Walker) → w.view ≡ view → w.id ≡ id
    → IsNew w → IsBetweenTurns before view id proper shown fits w before
new_between before view id proper shown fits w view_is id_is new = record {
  stands = record {
    led = new_led w new;
    view_is = view_is;
    id_is = id_is;
    same = λ node. same_device (before node);
  };
  clear = λ not. new.todo;
}

pub waiting_exactly : WaitingIsForALesser
waiting_exactly both turns side new fits proper shown =
    let view = (walker_of both side).view in
    let id = (walker_of both side).id in
    turn_waits both.registers view id proper shown fits (after_turns both turns) side
    (turns_stand both.registers view id proper shown fits both side turns
    (new_between both.registers view id proper shown fits (walker_of both side) refl refl new))
