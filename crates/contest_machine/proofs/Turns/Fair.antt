-- Each turn that goes on leaves a host fewer turns, and no turn of the other gives it more than the
-- other pays for.
use Rattle.contest_machine.proofs.Prelude.{◌≡◌, ◌≢◌, ℕ, ◌+◌, ◌*◌, ◌≤◌, ◌<◌, Bool, true, false, Option, Some, None, arith, subst, sym, refl, ap, ◌∙◌, eq-eqb, eqb-true, eqb-false, PortRef, Registers, entered, AllRegisters, Fits, Stage, Ask, Claim, Check, Test, Features, Information, Status, Free, Done, Lost, Walker, stepped, came_of, IsMine, IsContest, WalkerIsWithin, going_one}
use Rattle.contest_machine.proofs.Keeping.Frame.{Does, Nothing, Writes, Takes, Frees, IsTurn, untouched}
use Rattle.contest_machine.proofs.Keeping.Apart.{swap, step_leaves, step_holds, begun_contest}
use Rattle.contest_machine.proofs.Keeping.Bounding.{stepped_within}
use Rattle.contest_machine.proofs.Turns.Lasting.{AreSameDevices, step_lasts, step_same}
use Rattle.contest_machine.proofs.Turns.Led.{IsLed, step_led, begun_led}
use Rattle.contest_machine.proofs.Turns.Costing.{lock_is, if_failed, turns_left_at, turns_left, if_won, claims_left_at, claims_left}
use Rattle.contest_machine.proofs.Turns.Spending.{Spends}
use Rattle.contest_machine.proofs.Turns.Paying.{step_spends}

-- ---- what stands of two walkers

pub record IsFit (before : AllRegisters) (w : Walker) (now : AllRegisters) : Type 0 where
  pub within : WalkerIsWithin w
  pub shown : Fits w.view before
  pub led : IsLed w
  pub same : AreSameDevices before now

pub record AreFair (before : AllRegisters) (w o : Walker) (now : AllRegisters) : Type 0 where
  pub contest : IsContest w o before now
  pub first : IsFit before w now
  pub second : IsFit before o now

pub swap_fair : (before : AllRegisters) (w o : Walker) (now : AllRegisters) → AreFair before w o now
    → AreFair before o w now
swap_fair before w o now fair = record {
  contest = swap w o before now fair.contest;
  first = fair.second;
  second = fair.first;
}

pub step_fair : (before : AllRegisters) (w o : Walker) (old : AllRegisters) → AreFair before w o old
    → AreFair before (stepped w old).walker o (stepped w old).registers
step_fair before w o old fair = record {
  contest = step_holds o before w old fair.contest;
  first = record {
    within = stepped_within w old fair.first.within;
    shown = subst (λ v. Fits v before) (sym (step_lasts w old).view) fair.first.shown;
    led = step_led w before old fair.first.within.proper fair.first.shown fair.first.same
        fair.first.led;
    same = step_same before w old fair.first.same;
  };
  second = record {
    within = fair.second.within;
    shown = fair.second.shown;
    led = fair.second.led;
    same = step_same before w old fair.second.same;
  };
}

pub begun_fair : (before : AllRegisters) (w o : Walker) (now : AllRegisters)
    → AreFair before w o now
    → AreFair before (record w { begun = true }) o now
begun_fair before w o now fair = record {
  contest = begun_contest w o before now fair.contest;
  first = record {
    within = record {
      proper = fair.first.within.proper;
      leading = fair.first.within.leading;
      bounded = fair.first.within.bounded;
    };
    shown = fair.first.shown;
    led = (fair.first.led.0, begun_led w w.stage fair.first.led.1);
    same = fair.first.same;
  };
  second = fair.second;
}

-- ---- what an access leaves the other walker

module _ (w after o : Walker) (old new : AllRegisters) (turn : IsTurn w after old new)
    (mine : IsMine w old) (differ : w.id ≢ o.id) (is_id : o.id < 0xff)
    (spends : Spends w old after new) where
  won_stays : (p : Option PortRef) → lock_is old o.id p ≡ true → lock_is new o.id p ≡ true
  won_stays None is = is
  won_stays (Some at) is =
      eq-eqb (new at.node).lock o.id
      (ap (λ (d : Registers). d.lock)
      (untouched w after old new turn mine o.id differ is_id at.node held) ∙ held)
    where
      held : (old at.node).lock ≡ o.id
      held = eqb-true (old at.node).lock o.id is

  pub other_claims : claims_left o new ≤ claims_left o old
  other_claims = go o.stage
    where
      at : (b : Bool) → lock_is old o.id (entered o.view o.path) ≡ b
          → claims_left_at o new Check ≤ claims_left_at o old Check
      at true is =
          let one : if_won (lock_is old o.id (entered o.view o.path)) ≡ 1 = ap if_won is in
          let also : if_won (lock_is new o.id (entered o.view o.path)) ≡ 1 =
          ap if_won (won_stays (entered o.view o.path) is) in
          omega (arith, one, also)
      at false is =
          let none : if_won (lock_is old o.id (entered o.view o.path)) ≡ 0 = ap if_won is in
          omega (arith, none)

      go : (stage : Stage) → claims_left_at o new stage ≤ claims_left_at o old stage
      go Ask = omega arith
      go Claim = omega arith
      go Check = at (lock_is old o.id (entered o.view o.path)) refl
      go Test = omega arith
      go Features = omega arith
      go Information = omega arith
      go Status = omega arith
      go Free = omega arith
      go Done = omega arith
      go Lost = omega arith

  failed_most : (b : Bool) → if_failed b ≤ 2
  failed_most true = omega arith
  failed_most false = omega arith

  -- a free lock that is free no more was taken
  shut : (p : Option PortRef) → lock_is old 0xffff p ≡ true → lock_is new 0xffff p ≡ false
      → claims_left after new + 1 ≤ claims_left w old
  shut None free taken = absurd (cc)
  shut (Some at) free taken = go (turn.does at.node)
    where
      was : (old at.node).lock ≡ 0xffff
      was = eqb-true (old at.node).lock 0xffff free

      is : (new at.node).lock ≢ 0xffff
      is = eqb-false (new at.node).lock 0xffff taken

      go : Does w after old new at.node → claims_left after new + 1 ≤ claims_left w old
      go (Nothing same) = absurd (is (ap (λ (d : Registers). d.lock) same ∙ was))
      go (Writes keeps same) = absurd (is (same ∙ was))
      go (Takes once claimed whole) = spends.takes at.node claimed was
      go (Frees keeps freed whole) = absurd (is freed)

  pub other_turns : turns_left o new + 2 * claims_left after new
      ≤ turns_left o old + 2 * claims_left w old
  other_turns = go o.stage
    where
      fewer : claims_left after new ≤ claims_left w old
      fewer = spends.claims

      claim : (b c : Bool) → lock_is old 0xffff (entered o.view o.path) ≡ b
          → lock_is new 0xffff (entered o.view o.path) ≡ c
          → turns_left_at o new Claim + 2 * claims_left after new
          ≤ turns_left_at o old Claim + 2 * claims_left w old
      claim true true was is =
          let none : if_failed (lock_is old 0xffff (entered o.view o.path)) ≡ 0 =
          ap if_failed was in
          let also : if_failed (lock_is new 0xffff (entered o.view o.path)) ≡ 0 =
          ap if_failed is in
          omega (arith, none, also, fewer)
      claim true false was is =
          let none : if_failed (lock_is old 0xffff (entered o.view o.path)) ≡ 0 =
          ap if_failed was in
          let two : if_failed (lock_is new 0xffff (entered o.view o.path)) ≡ 2 =
          ap if_failed is in
          let less = shut (entered o.view o.path) was is in
          omega (arith, none, two, less)
      claim false c was is =
          let two : if_failed (lock_is old 0xffff (entered o.view o.path)) ≡ 2 =
          ap if_failed was in
          let most = failed_most (lock_is new 0xffff (entered o.view o.path)) in
          omega (arith, two, most, fewer)

      check : (b : Bool) → lock_is old o.id (entered o.view o.path) ≡ b
          → turns_left_at o new Check + 2 * claims_left after new
          ≤ turns_left_at o old Check + 2 * claims_left w old
      check true was =
          let none : if_failed (lock_is old o.id (entered o.view o.path)) ≡ 0 =
          ap if_failed was in
          let also : if_failed (lock_is new o.id (entered o.view o.path)) ≡ 0 =
          ap if_failed (won_stays (entered o.view o.path) was) in
          omega (arith, none, also, fewer)
      check false was =
          let two : if_failed (lock_is old o.id (entered o.view o.path)) ≡ 2 =
          ap if_failed was in
          let most = failed_most (lock_is new o.id (entered o.view o.path)) in
          omega (arith, two, most, fewer)

      go : (stage : Stage) → turns_left_at o new stage + 2 * claims_left after new
          ≤ turns_left_at o old stage + 2 * claims_left w old
      go Ask = omega (arith, fewer)
      go Claim = claim (lock_is old 0xffff (entered o.view o.path))
          (lock_is new 0xffff (entered o.view o.path)) refl refl
      go Check = check (lock_is old o.id (entered o.view o.path)) refl
      go Test = omega (arith, fewer)
      go Features = omega (arith, fewer)
      go Information = omega (arith, fewer)
      go Status = omega (arith, fewer)
      go Free = omega (arith, fewer)
      go Done = omega (arith, fewer)
      go Lost = omega (arith, fewer)

-- ---- one access

-- what a walker has left, with what the other can cost it
abbrev pub left_of : Walker → Walker → AllRegisters → ℕ
left_of w o now = turns_left w now + 2 * claims_left o now

module _ (before : AllRegisters) (w o : Walker) (old : AllRegisters) (fair : AreFair before w o old)
  where
    spent : Spends w old (stepped w old).walker (stepped w old).registers
    spent = step_spends w before old fair.contest.first_id fair.first.shown fair.first.same
        fair.contest.first fair.first.within fair.first.led

    the_turn : IsTurn w (stepped w old).walker old (stepped w old).registers
    the_turn = (step_leaves w old fair.contest.first_id fair.contest.first).0

    pub own_step : left_of (stepped w old).walker o (stepped w old).registers
        + going_one (came_of w (stepped w old).walker) ≤ left_of w o old
    own_step =
        let turns = spent.turns in
        let claims = other_claims w (stepped w old).walker o old (stepped w old).registers the_turn
        fair.contest.first fair.contest.differ fair.contest.second_id spent in
        omega (arith, turns, claims)

    pub their_step : left_of o (stepped w old).walker (stepped w old).registers ≤ left_of o w old
    their_step = other_turns w (stepped w old).walker o old (stepped w old).registers the_turn
        fair.contest.first fair.contest.differ fair.contest.second_id spent
