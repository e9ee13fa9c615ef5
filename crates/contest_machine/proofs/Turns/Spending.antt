-- Each access that goes on leaves a walker fewer turns.
use Rattle.contest_machine.proofs.Prelude.{◌≡◌, ◌≢◌, ℕ, ◌+◌, ◌*◌, ◌/◌, ◌%◌, ◌≤◌, ◌<◌, ◌==◌, nat_lt, Bool, true, false, eqb, List, [], ◌∷◌, ◌++◌, length, Option, Some, arith, ◌⊎◌, inl, inr, subst, sym, refl, ap, ◌∙◌, if◌then◌else◌, length-append, eq-eqb, ne_eqb, cases_eq, eqb-true, eqb-false, length-map, PortRef, Registers, locked, Endpoint, Switch, Device, entered, node_at, AllRegisters, Fits, paths_of, Read, Write, answered, after_access, id_after, met_as, with_device-at, Asked, Tried, Stage, Ask, Claim, Check, Test, Features, Information, Status, Free, Walker, write, routes_to, kept, but_last, freeing, gone_on, taken, judged, numbered, switch_set_up, outward, walker_told, told_at, came_of, IsMine, HasClaimed, WalkerIsWithin, going_one}
use Rattle.contest_machine.proofs.Keeping.Few.{once_few}
use Rattle.contest_machine.proofs.Keeping.Reading.{read-same, lock_left, locked-free, locked-other}
use Rattle.contest_machine.proofs.Keeping.Stepped.{one_node}
use Rattle.contest_machine.proofs.Turns.Steps.{gone_by}
use Rattle.contest_machine.proofs.Turns.Lasting.{AreSameDevices}
use Rattle.contest_machine.proofs.Turns.Costing.{room, lock_is, if_failed, turns_left, if_won, claims_left, going_most, routes_most, home_most, own_most, fewer, gone_left, gone_claims, freeing_left, freeing_claims, room_less}

-- What an access leaves: fewer turns, if it goes on, and no more locks to take; if it takes one,
-- fewer.
pub record Spends (w : Walker) (old : AllRegisters) (after : Walker)
    (new : AllRegisters) : Type 0 where
  pub turns : turns_left after new + going_one (came_of w after) ≤ turns_left w old
  pub claims : claims_left after new ≤ claims_left w old
  pub takes : (node : ℕ) → HasClaimed after new node → (old node).lock ≡ 0xffff
      → claims_left after new + 1 ≤ claims_left w old

-- a read, which takes no lock
read_spends : (w after : Walker) (old : AllRegisters) (at : PortRef) (offset : ℕ) → after.id < 0xff
    → turns_left after old + going_one (came_of w after) ≤ turns_left w old
    → claims_left after old ≤ claims_left w old
    → Spends w old after (after_access old at (Read offset))
read_spends w after old at offset fits turns claims =
    subst (Spends w old after) (sym (read-same old at offset)) (record {
      turns = turns;
      claims = claims;
      takes = λ node claimed free. absurd (omega (arith, fits, sym free ∙ claimed.2));
    })

-- a turn that leaves one less, whatever it answers
pub one_less : (w after : Walker) (left before : ℕ) → left + 1 ≤ before
    → left + going_one (came_of w after) ≤ before
one_less w after left before less =
    let one = going_most (came_of w after) in
    omega (arith, less, one)

is_lock : (now : AllRegisters) (lock : ℕ) (at : PortRef) (o : Option PortRef) → o ≡ Some at
    → (now at.node).lock ≡ lock → lock_is now lock o ≡ true
is_lock now lock at o is held =
    ap (λ p. lock_is now lock p) is ∙ eq-eqb (now at.node).lock lock held

not_lock : (now : AllRegisters) (lock : ℕ) (at : PortRef) (o : Option PortRef) → o ≡ Some at
    → (now at.node).lock ≢ lock → lock_is now lock o ≡ false
not_lock now lock at o is other =
    ap (λ p. lock_is now lock p) is ∙ ne_eqb (now at.node).lock lock other

-- no more devices are kept than there are
pub few_kept : (w : Walker) (old : AllRegisters) → WalkerIsWithin w → IsMine w old
    → length (kept w) ≤ 64
few_kept w old within mine =
    let few = once_few w.view within.proper (kept w) within.leading mine.once in
    let most = within.proper.most in
    omega (arith, few, most)

pub few_devices : (devices : List Device) (last : List (List ℕ))
    → length (paths_of devices ++ last) ≤ 64 → length devices + length last ≤ 64
few_devices devices last few =
    let all = length-append (paths_of devices) last in
    let same = length-map devices (λ (d : Device). d.path) in
    omega (arith, few, all, same)

-- one access at one stage, once no write is left
module _ (w : Walker) (before old : AllRegisters) (fits : w.id < 0xff) (shown : Fits w.view before)
    (same : AreSameDevices before old) where
  abbrev between : Stage → Walker
  between stage = record w { todo = []; stage = stage }

  -- a lock was read that is not the walker's own; a claim of it failed
  judged_turns : (stage : Stage) (at : PortRef) → entered w.view w.path ≡ Some at
      → length w.devices ≤ 64 → turns_left (between stage) old ≡ turns_left (between Ask) old
      → turns_left (judged (between stage) (old at.node).lock) old
      + going_one (came_of (between stage) (judged (between stage) (old at.node).lock))
      ≤ turns_left (between stage) old
  judged_turns stage at enters few is =
      go (eqb (old at.node).lock 0xffff) refl (nat_lt w.id (old at.node).lock)
    where
      go : (b : Bool) → eqb (old at.node).lock 0xffff ≡ b → (c : Bool)
          → turns_left (if b then between Claim
          else (if c then freeing (between stage) w.devices else between Ask)) old
          + going_one (came_of (between stage) (if b then between Claim
          else (if c then freeing (between stage) w.devices else between Ask)))
          ≤ turns_left (between stage) old
      go true free c =
          let was_free : lock_is old 0xffff (entered w.view w.path) ≡ true =
          is_lock old 0xffff at (entered w.view w.path) enters (eqb-true (old at.node).lock 0xffff
          free) in
          let none : if_failed (lock_is old 0xffff (entered w.view w.path)) ≡ 0 =
          ap if_failed was_free in
          omega (arith, none, is)
      go false some true =
          let most = freeing_left (between stage) old w.devices in
          one_less (between stage) (freeing (between stage) w.devices)
          (turns_left (freeing (between stage) w.devices) old) (turns_left (between stage) old)
          (omega (arith, most, few, is))
      go false some false = omega (arith, is)

  judged_claims : (stage : Stage) (lock : ℕ)
      → room w.devices ≤ claims_left (between stage) old
      → claims_left (judged (between stage) lock) old ≤ claims_left (between stage) old
  judged_claims stage lock most = go (eqb lock 0xffff) (nat_lt w.id lock)
    where
      go : (b c : Bool) → claims_left (if b then between Claim
          else (if c then freeing (between stage) w.devices else between Ask)) old
          ≤ claims_left (between stage) old
      go true c = most
      go false true =
          let none = freeing_claims (between stage) old w.devices in
          omega (arith, none)
      go false false = most

  judged_id : (stage : Stage) (lock : ℕ) → (judged (between stage) lock).id < 0xff
  judged_id stage lock = go (eqb lock 0xffff) (nat_lt w.id lock)
    where
      frees : (devices : List Device) → (freeing (between stage) devices).id < 0xff
      frees [] = fits
      frees (device ∷ rest) = fits

      go : (b c : Bool) → (if b then between Claim
          else (if c then freeing (between stage) w.devices else between Ask)).id < 0xff
      go true c = fits
      go false true = frees w.devices
      go false false = fits

  gone_id : (w0 : Walker) (tried : List Tried) → w0.id < 0xff → (gone_on w0 tried).id < 0xff
  gone_id w0 tried small = gone_by (λ a. a.id < 0xff) w0 tried (λ t some. small) small

  abbrev Spent : Stage → PortRef → Asked → Type 0
  Spent stage at ask = Spends (between stage) old
      (walker_told (between stage) (answered (old at.node) at.port ask.access).answer.value)
      (after_access old at ask.access)

  -- the lock is read
  pub ask_spends : (at : PortRef) → entered w.view w.path ≡ Some at → length w.devices ≤ 64
      → Spends (between Ask) old (told_at (between Ask) (old at.node).lock Ask)
      (after_access old at (Read 0x68))
  ask_spends at enters few = go (eqb (old at.node).lock w.id)
    where
      go : (b : Bool) → Spends (between Ask) old
          (if b then between Test else judged (between Ask) (old at.node).lock)
          (after_access old at (Read 0x68))
      go true =
          read_spends (between Ask) (between Test) old at 0x68 fits (omega arith) (omega arith)
      go false =
          read_spends (between Ask) (judged (between Ask) (old at.node).lock) old at 0x68
          (judged_id Ask (old at.node).lock) (judged_turns Ask at enters few refl)
          (judged_claims Ask (old at.node).lock (omega arith))

  -- the lock is read again
  pub check_spends : (at : PortRef) → entered w.view w.path ≡ Some at → length w.devices ≤ 64
      → Spends (between Check) old (told_at (between Check) (old at.node).lock Check)
      (after_access old at (Read 0x68))
  check_spends at enters few = go (eqb (old at.node).lock w.id) refl
    where
      go : (b : Bool) → eqb (old at.node).lock w.id ≡ b → Spends (between Check) old
          (if b then taken (between Check) else judged (between Check) (old at.node).lock)
          (after_access old at (Read 0x68))
      go true own =
          let won : lock_is old w.id (entered w.view w.path) ≡ true =
          is_lock old w.id at (entered w.view w.path) enters
          (eqb-true (old at.node).lock w.id own) in
          let none : if_failed (lock_is old w.id (entered w.view w.path)) ≡ 0 = ap if_failed won in
          let one : if_won (lock_is old w.id (entered w.view w.path)) ≡ 1 = ap if_won won in
          let most = own_most (between Check) in
          read_spends (between Check) (taken (between Check)) old at 0x68 fits
          (omega (arith, none, most)) (omega (arith, one))
      go false other =
          let lost : lock_is old w.id (entered w.view w.path) ≡ false =
          not_lock old w.id at (entered w.view w.path) enters
          (eqb-false (old at.node).lock w.id other) in
          let two : if_failed (lock_is old w.id (entered w.view w.path)) ≡ 2 = ap if_failed lost in
          let none : if_won (lock_is old w.id (entered w.view w.path)) ≡ 0 = ap if_won lost in
          read_spends (between Check) (judged (between Check) (old at.node).lock) old at 0x68
          (judged_id Check (old at.node).lock)
          (judged_turns Check at enters few (omega (arith, two)))
          (judged_claims Check (old at.node).lock (omega (arith, none)))

  -- the ID is written to the lock
  pub claim_spends : (at : PortRef) → entered w.view w.path ≡ Some at → (old at.node).lock ≢ w.id
      → length w.devices + 1 ≤ 64
      → Spends (between Claim) old (between Check) (after_access old at (Write 0x68 w.id))
  claim_spends at enters other few = go (cases_eq (old at.node).lock 0xffff)
    where
      new : AllRegisters
      new = after_access old at (Write 0x68 w.id)

      left : (new at.node).lock ≡ locked (old at.node).lock
          (w.id % 0x10000)
      left = ap (λ (d : Registers). d.lock)
          (with_device-at old at.node _ ∙ lock_left (old at.node) at.port w.id)

      go : ((old at.node).lock ≡ 0xffff) ⊎ ((old at.node).lock ≢ 0xffff)
          → Spends (between Claim) old (between Check) (after_access old at (Write 0x68 w.id))
      go (inl free) =
          let won : lock_is (after_access old at (Write 0x68 w.id)) w.id (entered w.view w.path)
          ≡ true = is_lock (after_access old at (Write 0x68 w.id)) w.id at (entered w.view w.path)
          enters (left ∙ locked-free (old at.node).lock w.id free fits) in
          let was_free : lock_is old 0xffff (entered w.view w.path) ≡ true =
          is_lock old 0xffff at (entered w.view w.path) enters free in
          let none : if_failed (lock_is (after_access old at (Write 0x68 w.id)) w.id
          (entered w.view w.path)) ≡ 0 = ap if_failed won in
          let also : if_failed (lock_is old 0xffff (entered w.view w.path)) ≡ 0 =
          ap if_failed was_free in
          let one : if_won (lock_is (after_access old at (Write 0x68 w.id)) w.id
          (entered w.view w.path)) ≡ 1 = ap if_won won in
          record {
            turns = omega (arith, none, also);
            claims = omega (arith, one);
            takes = λ node claimed was. omega (arith, one, few);
          }
      go (inr taken) =
          let lost : lock_is (after_access old at (Write 0x68 w.id)) w.id (entered w.view w.path)
          ≡ false = not_lock (after_access old at (Write 0x68 w.id)) w.id at
          (entered w.view w.path) enters
          (λ held. other (sym (locked-other (old at.node).lock w.id taken other fits)
          ∙ (sym left ∙ held))) in
          let shut : lock_is old 0xffff (entered w.view w.path) ≡ false =
          not_lock old 0xffff at (entered w.view w.path) enters taken in
          let two : if_failed (lock_is (after_access old at (Write 0x68 w.id)) w.id
          (entered w.view w.path)) ≡ 2 = ap if_failed lost in
          let also : if_failed (lock_is old 0xffff (entered w.view w.path)) ≡ 2 =
          ap if_failed shut in
          let none : if_won (lock_is (after_access old at (Write 0x68 w.id)) w.id
          (entered w.view w.path)) ≡ 0 = ap if_won lost in
          record {
            turns = omega (arith, two, also);
            claims = omega (arith, none);
            takes = λ node claimed was. absurd (taken
                (ap (λ n. (old n).lock) (sym (here node claimed.1)) ∙ was));
          }
        where
          here : (node : ℕ) → node_at w.view w.path ≡ Some node → node ≡ at.node
          here node leads = one_node w.view w.path at node enters leads

  -- the tag is read
  pub test_spends : (at : PortRef) (value : ℕ)
      → Spends (between Test) old (told_at (between Test) value Test)
      (after_access old at (Read 0x6c))
  test_spends at value = go (eqb value 0)
    where
      go : (b : Bool) → Spends (between Test) old
          (if b then taken (between Test) else gone_on (between Test) w.tried)
          (after_access old at (Read 0x6c))
      go true =
          let most = own_most (between Test) in
          read_spends (between Test) (taken (between Test)) old at 0x6c fits (omega (arith, most))
          (omega arith)
      go false =
          let left = gone_left (between Test) old w.tried in
          read_spends (between Test) (gone_on (between Test) w.tried) old at 0x6c
          (gone_id (between Test) w.tried fits)
          (one_less (between Test) (gone_on (between Test) w.tried)
          (turns_left (gone_on (between Test) w.tried) old) (turns_left (between Test) old)
          (omega (arith, left)))
          (gone_claims (between Test) old w.tried)

  -- a device more in the list
  module _ (few : length w.devices + 1 ≤ 64) where
    -- the features of a device that is not the host are read
    pub features_spends : (at : PortRef) (value : ℕ) (path : List ℕ) → path ≢ []
        → Spends (between Features) old
        (if value / 0x10000000 % 2 == 1 then between Information
        else numbered (between Features) path) (after_access old at (Read 0x10))
    features_spends at value [] some = absurd (some refl)
    features_spends at value (first ∷ rest) some = go (eqb (value / 0x10000000 % 2) 1)
      where
        new : Device
        new = met_as w.devices (Endpoint (id_after w.id w.next)) w.path

        numbered_walker : Walker
        numbered_walker = record w {
          devices = w.devices ++ met_as w.devices (Endpoint (id_after w.id w.next)) w.path ∷ [];
          next = id_after w.id w.next + 1;
          todo = write w.path 0x60 (id_after w.id w.next * 0x10000)
              ∷ routes_to w.devices w.path (id_after w.id w.next);
          stage = Features;
        }

        go : (b : Bool) → Spends (between Features) old
            (if b then between Information else gone_on numbered_walker w.tried)
            (after_access old at (Read 0x10))
        go true =
            read_spends (between Features) (between Information) old at 0x10 fits (omega arith)
            (omega arith)
        go false =
            let left = gone_left numbered_walker old w.tried in
            let less = room_less w.devices new few in
            let most = routes_most w.devices w.path (id_after w.id w.next) in
            let claims = gone_claims numbered_walker old w.tried in
            read_spends (between Features) (gone_on numbered_walker w.tried) old at 0x10
            (gone_id numbered_walker w.tried fits)
            (one_less (between Features) (gone_on numbered_walker w.tried)
            (turns_left (gone_on numbered_walker w.tried) old) (turns_left (between Features) old)
            (omega (arith, left, less, most, few)))
            (omega (arith, claims, less))

    -- the ports of a switch are read
    pub information_spends : (at : PortRef) (ports entry : ℕ) → ports ≤ 16
        → Spends (between Information) old (switch_set_up (between Information) ports entry)
        (after_access old at (Read 0x14))
    information_spends at ports entry most =
        let less = room_less w.devices (met_as w.devices (Switch ports entry) w.path) few in
        let long = home_most w.path w.id entry in
        read_spends (between Information) (switch_set_up (between Information) ports entry) old at
        0x14
        fits
        (one_less (between Information) (switch_set_up (between Information) ports entry)
        (turns_left (switch_set_up (between Information) ports entry) old)
        (turns_left (between Information) old)
        (omega (arith, less, long, most)))
        (omega (arith, less))

  -- the status of a port is read
  pub status_spends : (at : PortRef) (value : ℕ) (top : Tried) (rest : List Tried)
      → Spends (record w { todo = []; stage = Status; tried = top ∷ rest }) old
      (told_at (record w { todo = []; stage = Status; tried = top ∷ rest }) value Status)
      (after_access old at (Read (0x158 + 0x20 * top.port)))
  status_spends at value top rest = go (eqb value 2)
    where
      w0 : Walker
      w0 = record w { todo = []; stage = Status; tried = top ∷ rest }

      go : (b : Bool) → Spends w0 old
          (if b then outward w0 (top ∷ rest) else gone_on w0 (top ∷ rest))
          (after_access old at (Read (0x158 + 0x20 * top.port)))
      go true =
          read_spends w0 (outward w0 (top ∷ rest)) old at (0x158 + 0x20 * top.port) fits
          (omega arith) (omega arith)
      go false =
          let left = gone_left w0 old (top ∷ rest) in
          read_spends w0 (gone_on w0 (top ∷ rest)) old at (0x158 + 0x20 * top.port)
          (gone_id w0 (top ∷ rest) fits)
          (one_less w0 (gone_on w0 (top ∷ rest)) (turns_left (gone_on w0 (top ∷ rest)) old)
          (turns_left w0 old) (omega (arith, left)))
          (gone_claims w0 old (top ∷ rest))

  -- the last device is freed
  pub free_spends : (new : AllRegisters) → w.devices ≢ [] → length w.devices ≤ 64
      → Spends (between Free) old (freeing (between Free) (but_last w.devices)) new
  free_spends new some few = record {
    turns =
        let left = freeing_left (between Free) new (but_last w.devices) in
        let less = fewer w.devices some in
        one_less (between Free) (freeing (between Free) (but_last w.devices))
        (turns_left (freeing (between Free) (but_last w.devices)) new)
        (turns_left (between Free) old) (omega (arith, left, less, few));
    claims =
        let none = freeing_claims (between Free) new (but_last w.devices) in
        omega (arith, none);
    takes = λ node claimed free. absurd (not_checking (but_last w.devices) claimed.0);
  }
    where
      not_checking : (devices : List Device) → (freeing (between Free) devices).stage ≢ Check
      not_checking [] = λ e. cc
      not_checking (device ∷ rest) = λ e. cc
