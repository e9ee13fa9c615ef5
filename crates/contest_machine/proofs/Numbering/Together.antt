-- What the two hosts together leave of the first registers.
use Rattle.contest_machine.proofs.Prelude.{◌≡◌, ◌≢◌, ℕ, ◌<◌, Bool, true, false, List, [], ◌∷◌, Contains, subst, sym, refl, ap, ◌∙◌, if◌then◌else◌, Registers, IsSameDevice, is_switch, entry_of, AllRegisters, node_at-entered, Contains-first, Contains-rest, AreOwnUntagged, Side, A, B, PendingWrite, Walker, State, kept, stepped, is_locking, locked_on, walker_turned, Both, turn_of, after_turns, AreOwnWrites, IsMine, IsNew, walker_of, state_of, AreBegun, TurnsLeaveOthers}
use Rattle.contest_machine.proofs.Keeping.Frame.{IsTurn, kept_stays}
use Rattle.contest_machine.proofs.Keeping.Apart.{step_leaves}
use Rattle.contest_machine.proofs.Turns.Lasting.{step_lasts}
use Rattle.contest_machine.proofs.Numbering.Pairing.{HeadOk}
use Rattle.contest_machine.proofs.Numbering.Careful.{IsCareful, LeavesEntry}
use Rattle.contest_machine.proofs.Numbering.Contested.{step_keeping}
use Rattle.contest_machine.proofs.Numbering.Leaving.{devices_left}
use Rattle.contest_machine.proofs.Numbering.Whole.{IsSound, IsReady, ReadyFor, sound_later, sound_first, step_sound, turn_ready, begun_ready}

module _ (dest : ℕ) (far : 62 < dest) (not_all : dest ≢ 255) (before : AllRegisters) where
  abbrev Careful : Walker → AllRegisters → Type 0
  Careful w now = IsCareful dest far not_all w now

  -- what the other is about to write does not change while the walker makes an access
  head_stays : (w after o : Walker) (old new : AllRegisters) → IsTurn w after old new
      → IsMine w old → IsMine o old → w.id ≢ o.id → o.id < 0xff → Careful o old → Careful o new
  head_stays w after o old new turn mine theirs differ small careful =
      (careful.0, go o.todo theirs.own careful.1)
    where
      go : (todo : List PendingWrite) → AreOwnWrites (kept o) todo → HeadOk dest o.view old todo
          → HeadOk dest o.view new todo
      go [] own head = tt
      go (p ∷ rest) own head = λ is at enters switch.
          let same = kept_stays w after o old new turn mine theirs differ small at.node
          (p.path, own.0.0, node_at-entered o.view p.path at enters) in
          subst (λ (d : Registers). dest ≢ d.select) (sym same)
          (head is at enters
          (subst (λ (d : Registers). is_switch d ≡ true) same switch))

  -- what stands at each access of a walker, beside another
  record IsAside (o : Walker) (state : State) : Type 0 where
    sound : IsSound before o state
    careful : Careful state.walker state.registers
    theirs : Careful o state.registers
    left : LeavesEntry dest far not_all before state.registers
    own : dest ≢ state.walker.id

  step_aside : (o : Walker) (state : State) → IsAside o state
      → IsAside o (stepped state.walker state.registers)
  step_aside o state aside =
      let w = state.walker in
      let old = state.registers in
      let fair = aside.sound.fair in
      let keeping = step_keeping dest far not_all w old fair.contest.first_id aside.own
      fair.first.within fair.contest.first fair.first.led aside.sound.coming aside.careful in
      let leaves = step_leaves w old fair.contest.first_id fair.contest.first in
      record {
        sound = step_sound before o state aside.sound;
        careful = keeping.careful;
        theirs = head_stays w (stepped w old).walker o old (stepped w old).registers leaves.0
            fair.contest.first fair.contest.second fair.contest.differ fair.contest.second_id
            aside.theirs;
        left = λ node. keeping.left node ∙ aside.left node;
        own = λ same. aside.own (same ∙ (step_lasts w old).id);
      }

  locked_aside : (o : Walker) (state : State) → IsAside o state → IsAside o (locked_on state)
  locked_aside o state aside = go (is_locking state.walker.stage)
    where
      go : (b : Bool) → IsAside o (if b then stepped state.walker state.registers else state)
      go true = step_aside o state aside
      go false = aside

  turned_aside : (w o : Walker) (old : AllRegisters) → IsReady before w o old → Careful w old
      → Careful o old → LeavesEntry dest far not_all before old → dest ≢ w.id
      → IsAside o (walker_turned w old)
  turned_aside w o old ready careful theirs left own = go w.begun refl
    where
      go : (b : Bool) → w.begun ≡ b → IsAside o (if b then stepped w old
          else locked_on (locked_on (stepped (record w { begun = true }) old)))
      go true is =
          step_aside o (state_of w old) (record {
            sound = sound_later before w o old ready is;
            careful = careful;
            theirs = theirs;
            left = left;
            own = own;
          })
      go false is =
          locked_aside o (locked_on (stepped (record w { begun = true }) old))
          (locked_aside o (stepped (record w { begun = true }) old)
          (step_aside o (state_of (record w { begun = true }) old) (record {
            sound = sound_first before w o old ready is;
            careful = careful;
            theirs = theirs;
            left = left;
            own = own;
          })))

  -- ---- both

  record AreAside (both : Both) : Type 0 where
    ready : (side : Side) → ReadyFor before both side
    first : Careful both.first both.registers
    second : Careful both.second both.registers
    left : LeavesEntry dest far not_all before both.registers
    own_first : dest ≢ both.first.id
    own_second : dest ≢ both.second.id

  turn_aside : (both : Both) (side : Side) → AreAside both → AreAside (turn_of both side)
  turn_aside both A aside =
      let turn = turned_aside both.first both.second both.registers (aside.ready A) aside.first
      aside.second aside.left aside.own_first in
      record {
        ready = λ side. turn_ready before both side A (aside.ready side);
        first = turn.careful;
        second = turn.theirs;
        left = turn.left;
        own_first = turn.own;
        own_second = aside.own_second;
      }
  turn_aside both B aside =
      let turn = turned_aside both.second both.first both.registers (aside.ready B) aside.second
      aside.first aside.left aside.own_second in
      record {
        ready = λ side. turn_ready before both side B (aside.ready side);
        first = turn.theirs;
        second = turn.careful;
        left = turn.left;
        own_first = aside.own_first;
        own_second = turn.own;
      }

  turns_aside : (both : Both) (turns : List Side) → AreAside both
      → AreAside (after_turns both turns)
  turns_aside both [] aside = aside
  turns_aside both (side ∷ turns) aside =
      turns_aside (turn_of both side) turns (turn_aside both side aside)

  new_careful : (w : Walker) (now : AllRegisters) → IsNew w → Careful w now
  new_careful w now new =
      subst (λ (t : List PendingWrite). Careful (record w { todo = t }) now) (sym new.todo) (tt, tt)

-- an entry that neither may change
entry_stays : (both : Both) (turns : List Side) (dest : ℕ) → AreBegun both
    → ((side : Side)
    → AreOwnUntagged (walker_of both side).view both.registers (walker_of both side).id)
    → 62 < dest → dest ≢ 255 → dest ≢ both.first.id → dest ≢ both.second.id → (node : ℕ)
    → entry_of ((after_turns both turns).registers node) dest
    ≡ entry_of (both.registers node) dest
entry_stays both turns dest begun untagged far not_all one two node =
    (turns_aside dest far not_all both.registers both turns (record {
      ready = λ side. begun_ready both side begun (untagged side);
      first = new_careful dest far not_all both.registers both.first both.registers
          (begun.new A);
      second = new_careful dest far not_all both.registers both.second both.registers
          (begun.new B);
      left = λ node. refl;
      own_first = one;
      own_second = two;
    })).left node

-- a device that is the same differs in the other registers alone
rest_only : (old new : Registers) → IsSameDevice old new → new ≡ record old {
  lock = new.lock;
  tag = new.tag;
  base_id = new.base_id;
  select = new.select;
  routes = new.routes;
  default_port = new.default_port;
}
rest_only old new same =
    ap (λ k. record new { kind = k }) same.kind
    ∙ (ap (λ n. record new { kind = old.kind; ports = n }) same.ports
    ∙ (ap (λ l. record new { kind = old.kind; ports = old.ports; linked = l }) same.linked
    ∙ (ap (λ n. record new {
      kind = old.kind;
      ports = old.ports;
      linked = old.linked;
      large_id = n;
    }) same.large_id
    ∙ ap (λ b. record new {
      kind = old.kind;
      ports = old.ports;
      linked = old.linked;
      large_id = old.large_id;
      standard = b;
    }) same.standard)))

pub turns_leave_others : TurnsLeaveOthers
turns_leave_others both turns begun untagged =
    let devices = devices_left both turns in
    record {
      outside = devices.outside;
      inside = λ node. record {
        rest = rest_only (both.registers node) ((after_turns both turns).registers node)
            (devices.inside node);
        routes = λ id far not_all none.
            entry_stays both turns id begun untagged far not_all
            (λ same. none (subst (Contains (both.first.id ∷ both.second.id ∷ [])) (sym same)
            (Contains-first both.first.id (both.second.id ∷ []))))
            (λ same. none (subst (Contains (both.first.id ∷ both.second.id ∷ [])) (sym same)
            (Contains-rest both.first.id (both.second.id ∷ []) both.second.id
            (Contains-first both.second.id [])))) node;
      };
    }
