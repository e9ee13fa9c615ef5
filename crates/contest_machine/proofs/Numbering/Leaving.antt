-- Whatever turns two hosts make, devices that neither reaches are as before.
use Rattle.contest_machine.proofs.Prelude.{◌≡◌, ℕ, List, [], ◌∷◌, Option, Some, None, subst, sym, refl, ap, ◌∙◌, PortRef, same_device, Topology, entered, IsReached, AllRegisters, node_at-entered, with_device-other, Side, A, B, Asked, Walker, State, wants, reached, reaches, stepped, walker_turned, Both, turn_of, after_turns, state_of}
use Rattle.contest_machine.proofs.Keeping.Apart.{turned_by}
use Rattle.contest_machine.proofs.Turns.Lasting.{AreSameDevices, step_lasts, step_same}

-- a device to which no path of a walker leads
step_outside : (w : Walker) (old : AllRegisters) (node : ℕ) → ¬ IsReached w.view node
    → (stepped w old).registers node ≡ old node
step_outside w old node apart = go (wants w)
  where
    at : (ask : Asked) (o : Option PortRef) → entered w.view ask.path ≡ o
        → (reached w old ask o).registers node ≡ old node
    at ask None is = refl
    at ask (Some port) is =
        with_device-other old port.node node _
        (λ same. apart (
          ask.path,
          node_at-entered w.view ask.path port is
              ∙ ap (λ n. Some n) (sym same),
        ))

    go : (o : Option Asked) → (reaches w old o).registers node ≡ old node
    go None = refl
    go (Some ask) = at ask (entered w.view ask.path) refl

-- what an access of a walker with this view leaves
record IsLeft (before : AllRegisters) (view : Topology) (state : State) : Type 0 where
  view_is : state.walker.view ≡ view
  outside : (node : ℕ) → ¬ IsReached view node → state.registers node ≡ before node
  same : AreSameDevices before state.registers

step_left : (before : AllRegisters) (view : Topology) (w : Walker) (old : AllRegisters)
    → IsLeft before view (state_of w old) → IsLeft before view (stepped w old)
step_left before view w old left = record {
  view_is = (step_lasts w old).view ∙ left.view_is;
  outside = λ node apart.
      step_outside w old node (subst (λ v. ¬ IsReached v node) (sym left.view_is) apart)
      ∙ left.outside node apart;
  same = step_same before w old left.same;
}

turned_left : (w : Walker) (old : AllRegisters) → IsLeft old w.view (walker_turned w old)
turned_left w old =
    turned_by (IsLeft old w.view) (step_left old w.view) w old start (record {
      view_is = refl;
      outside = λ node apart. refl;
      same = λ node. same_device (old node);
    })
  where
    start : IsLeft old w.view (state_of w old)
    start = record {
      view_is = refl;
      outside = λ node apart. refl;
      same = λ node. same_device (old node);
    }

-- devices that neither reaches are as before, and each is the same device
pub record LeavesDevices (both after : Both) : Type 0 where
  pub outside : (node : ℕ) → ¬ IsReached both.first.view node → ¬ IsReached both.second.view node
      → after.registers node ≡ both.registers node
  pub inside : AreSameDevices both.registers after.registers

-- two walkers with the views of these, which left the others' devices
record AreLeft (both after : Both) : Type 0 where
  first : after.first.view ≡ both.first.view
  second : after.second.view ≡ both.second.view
  leaves : LeavesDevices both after

more_left : (before middle after : AllRegisters) → AreSameDevices before middle
    → AreSameDevices middle after → AreSameDevices before after
more_left before middle after one two node = record {
  kind = (two node).kind ∙ (one node).kind;
  ports = (two node).ports ∙ (one node).ports;
  linked = (two node).linked ∙ (one node).linked;
  large_id = (two node).large_id ∙ (one node).large_id;
  standard = (two node).standard ∙ (one node).standard;
}

turn_left : (both after : Both) (side : Side) → AreLeft both after
    → AreLeft both (turn_of after side)
turn_left both after A left =
    let turn = turned_left after.first after.registers in
    record {
      first = turn.view_is ∙ left.first;
      second = left.second;
      leaves = record {
        outside = λ node one two.
            turn.outside node (subst (λ v. ¬ IsReached v node) (sym left.first) one)
            ∙ left.leaves.outside node one two;
        inside = more_left both.registers after.registers _ left.leaves.inside turn.same;
      };
    }
turn_left both after B left =
    let turn = turned_left after.second after.registers in
    record {
      first = left.first;
      second = turn.view_is ∙ left.second;
      leaves = record {
        outside = λ node one two.
            turn.outside node (subst (λ v. ¬ IsReached v node) (sym left.second) two)
            ∙ left.leaves.outside node one two;
        inside = more_left both.registers after.registers _ left.leaves.inside turn.same;
      };
    }

turns_left : (both after : Both) (turns : List Side) → AreLeft both after
    → AreLeft both (after_turns after turns)
turns_left both after [] left = left
turns_left both after (side ∷ turns) left =
    turns_left both (turn_of after side) turns (turn_left both after side left)

pub devices_left : (both : Both) (turns : List Side)
    → LeavesDevices both (after_turns both turns)
devices_left both turns =
    (turns_left both both turns (record {
      first = refl;
      second = refl;
      leaves = record {
        outside = λ node one two. refl;
        inside = λ node. same_device (both.registers node);
      };
    })).leaves
