-- One access of a walker over a fabric, and its turns.
use Rattle.host_contest.proofs.Prelude.{◌≡◌, ◌<◌, ◌≤◌, Bool, true, false, length, Some, None, arith, refl, sym, ap, subst, ◌∙◌, length-append, if◌then◌else◌, PortRef, Device, Topology, entered, AllRegisters, paths_of, answered, after_access, Asked, Walker, State, kept, fresh, wants, walker_told, reached, reaches, stepped, is_locking, locked_on, walker_turned, came_of, WalkerIsWithin, Machine, machine_of, IsAtHost, AreLow, state_in, CanStep}
use Rattle.std.proofs.lemmas.List.{length-map}
use Rattle.host_enumerate.specs.declared.maint.Answer.{Answer}
use Rattle.contest_machine.specs.Contest.{IsMine}
use Rattle.contest_machine.specs.declared.stages.Turn.{Turn}
use Rattle.contest_machine.proofs.Keeping.Apart.{step_leaves}
use Rattle.contest_machine.proofs.Keeping.Bounding.{stepped_within}
use Rattle.contest_machine.proofs.Keeping.Few.{once_few}
use Rattle.host_contest.proofs.Machines.{choose, refuse}
use Rattle.host_contest.proofs.Lows.{low-stepped, stays_at_host}

abbrev state_of : Walker → AllRegisters → State
state_of w registers = record { walker = w; registers = registers }

-- ---- one access of the machine

pub idle : (w : Walker) (r : AllRegisters) → None ≡ wants w → state_of w r ≡ stepped w r
idle w r is = ap (λ o. reaches w r o) is

-- the device that is reached answers
abbrev of_value : Walker → Answer → Walker
of_value w answer = walker_told w answer.value

pub answered_so : (w after : Walker) (r new : AllRegisters) (ask : Asked) (at : PortRef)
    (answer : Answer) → Some ask ≡ wants w → entered w.view ask.path ≡ Some at
    → answer ≡ (answered (r at.node) at.port ask.access).answer
    → new ≡ after_access r at ask.access → after ≡ walker_told w answer.value
    → state_of after new ≡ stepped w r
answered_so w after r new ask at answer is leads some left heard =
    ap (λ v. state_of v new) (heard ∙ ap (of_value w) some)
    ∙ (ap (λ n. state_of (walker_told w (answered (r at.node) at.port ask.access).answer.value) n)
    left
    ∙ (ap (λ o. reached w r ask o) (sym leads) ∙ ap (λ o. reaches w r o) is))

module _ (view : Topology) (r new : AllRegisters) (before after : Machine)
    (can : CanStep view r before) where
  pub can_after : state_in view new after ≡ stepped (machine_of view before) r
      → CanStep view new after
  can_after is =
      let w = machine_of view before in
      let leaves = step_leaves w r can.id can.mine in
      let same_id : after.id ≡ before.id = ap (λ (s : State). s.walker.id) is ∙ leaves.0.id in
      record {
        topology = can.topology;
        id = subst (λ n. n < 0xff) (sym same_id) can.id;
        mine = subst (λ (s : State). IsMine s.walker s.registers) (sym is) leaves.1;
        within = subst (λ (s : State). WalkerIsWithin s.walker) (sym is)
            (stepped_within w r can.within);
        low = subst (λ (s : State). AreLow s.walker.todo) (sym is) (low-stepped w r can.low);
      }

-- no more devices are kept than there are
pub few : (view : Topology) (r : AllRegisters) (machine : Machine) → CanStep view r machine
    → length machine.map.devices.items ≤ 64
few view r machine can =
    let w = machine_of view machine in
    let most = once_few w.view can.topology (kept w) can.within.leading can.mine.once in
    let all = can.topology.most in
    let long = length-append (paths_of w.devices) (fresh w.stage w.path) in
    let same = length-map w.devices (λ (d : Device). d.path) in
    omega (arith, most, all, long, same)

-- ---- a turn

pub turned_later : (w : Walker) (r : AllRegisters) → w.begun ≡ true
    → stepped w r ≡ walker_turned w r
turned_later w r is =
    choose w.begun (stepped w r)
    (locked_on (locked_on (stepped (record w { begun = true }) r))) is

pub turned_first : (w : Walker) (r : AllRegisters) → w.begun ≡ false
    → locked_on (locked_on (stepped (record w { begun = true }) r)) ≡ walker_turned w r
turned_first w r is =
    refuse w.begun (stepped w r)
    (locked_on (locked_on (stepped (record w { begun = true }) r))) is

-- three states, each of the one before
pub chain : {A : Type 0} (f : A → A) (begin first second third end : A) → first ≡ begin
    → second ≡ f first → third ≡ f second → f (f begin) ≡ end → third ≡ end
chain f begin first second third end one two three last = three ∙ (ap f (two ∙ ap f one) ∙ last)

-- ---- the first turn

pub begun_at_host : (w : Walker) → IsAtHost w → IsAtHost (record w { begun = true })
begun_at_host w at = record { path = at.path; clear = at.clear; stage = at.stage }

-- the devices and links that are seen stay
module _ (view after : Topology) (r new : AllRegisters) where
  pub host_after : (w : Walker) (machine : Machine) → after ≡ view
      → state_in view new machine ≡ stepped w r → IsAtHost w
      → is_locking machine.stage ≡ true → IsAtHost (machine_of after machine)
  host_after w machine same is at locks =
      subst (λ v. IsAtHost (machine_of v machine)) (sym same)
      (subst (λ (s : State). IsAtHost s.walker) (sym is)
      (stays_at_host w r at (ap (λ (s : State). is_locking s.walker.stage) (sym is) ∙ locks)))

  pub locked_at_host : (one two : Machine) → after ≡ view
      → state_in view new two ≡ locked_on (state_in view r one)
      → (is_locking one.stage ≡ true → IsAtHost (machine_of view one))
      → is_locking two.stage ≡ true → IsAtHost (machine_of after two)
  locked_at_host one two same is before locks =
      subst (λ v. IsAtHost (machine_of v two)) (sym same)
      (subst (λ (s : State). IsAtHost s.walker) (sym is)
      (go (is_locking one.stage) refl
      (ap (λ (s : State). is_locking s.walker.stage) (sym is) ∙ locks)))
    where
      go : (b : Bool) → is_locking one.stage ≡ b
          → is_locking (if b then stepped (machine_of view one) r
          else state_in view r one).walker.stage ≡ true
          → IsAtHost (if b then stepped (machine_of view one) r
          else state_in view r one).walker
      go true on goes = stays_at_host (machine_of view one) r (before on) goes
      go false off goes = before goes

-- a state that another view names
pub same_views : (view mid : Topology) (r new : AllRegisters) (one two : Machine) → mid ≡ view
    → state_in mid new two ≡ locked_on (state_in mid r one)
    → state_in view new two ≡ locked_on (state_in view r one)
same_views view mid r new one two same is =
    subst (λ v. state_in v new two ≡ locked_on (state_in v r one)) same is

-- ---- a walker that lists its entries

abbrev pub with_walker : AllRegisters → Walker → State
with_walker r w = record { walker = w; registers = r }

abbrev pub came_from : Walker → Walker → Turn
came_from w after = came_of w after

pub can_same : (view : Topology) (r : AllRegisters) (one two : Machine)
    → machine_of view two ≡ machine_of view one → CanStep view r one → CanStep view r two
can_same view r one two is can = record {
  topology = can.topology;
  id = subst (λ n. n < 0xff) (ap (λ (w : Walker). w.id) (sym is)) can.id;
  mine = subst (λ w. IsMine w r) (sym is) can.mine;
  within = subst WalkerIsWithin (sym is) can.within;
  low = subst AreLow (ap (λ (w : Walker). w.todo) (sym is)) can.low;
}
