-- What a call did that makes a step of a switch.
use Rattle.std.proofs.Common.{◌≡◌, ◌≢◌, ℕ, zero, suc, ◌+◌, ◌<◌, ◌≤◌, true, List, [], ◌∷◌, length, slice_get, slice_set, slice_index_or, Option, Some, None, option_map, refl, sym, ap, ◌∙◌, subst, arith}
use Rattle.std.proofs.lemmas.List.{length-set, with_items_is}
use Rattle.std.proofs.lemmas.Option.{same_Some}
use Rattle.std.specs.Vec.{with_items}
use Rattle.link_port.specs.Ports.{PortState, AreAlike}
use Rattle.maint_registers.specs.Devices.{Registers, is_switch}
use Rattle.switch_core.specs.Faces as faces
use Rattle.switch_core.specs.Faces.{face_at}
use Rattle.switch_core.specs.Goings.{going_of}
use Rattle.switch_core.specs.declared.going.Going.{Going}
use Rattle.switch_core.specs.SwitchSteps.{step_of, faces_after, switch_after}
use Rattle.switch_core.specs.declared.switch.Step as switch
use Rattle.switch_core.specs.declared.switch.Step.TheVariants.{Moved, Dropped, Answered, Nothing}
use Rattle.fabric_script.specs.declared.ports.PortRef.{PortRef}
use Rattle.fabric_model.specs.Laws.Priorities.{ByPriority}
use Rattle.fabric_model.specs.Network.{Network, IsSwitch}
use Rattle.fabric_trace.specs.Known.{Seen, port_seen}
use Rattle.trace_lines.specs.Lines.{TraceLine, NoStep, Lacked}
use Rattle.fabric_trace.specs.Served.{faces_from, faces_in, step_lines, ResponseHasForm, IsMove}
use Rattle.fabric_trace.proofs.Network.Faces.{face_is, StepNeeds, step_needs}
use Rattle.fabric_ports.specs.declared.fabric.Fabric.{Fabric}
use Rattle.fabric_ports.specs.declared.idle.Idle.{Idle}
use Rattle.fabric_ports.specs.Idling.{IsMarkedAt, KnowsIdle, Wakes, HasNumber, IsPassed, IsPassedAt}
use Rattle.fabric_ports.specs.Places.{place_of}
use Rattle.fabric_ports.specs.Showing.{ShowsFabric}
use Rattle.fabric_ports.specs.Switching.{faces_at, own_ports, AreForms, MadeStep}
use Rattle.fabric_ports.proofs.DeviceLaws.{one_written}
use Rattle.fabric_ports.proofs.FaceLaws.{port, AreFacesOf, face_of_port, port_faced, port_stays}
use Rattle.fabric_ports.proofs.IdleLaws.{with_switch_mark, switch_marked, move_stays, idle_ports}
use Rattle.fabric_ports.proofs.NodeLaws.{served_shows}
use Rattle.fabric_ports.proofs.RowLaws.{row_within, row_set, replaced, length-replaced, get-own, own-length}
use Rattle.fabric_ports.proofs.ShowLaws.{get_other}
use Rattle.fabric_ports.proofs.StepNets.{after_step, after_none, plans_stay, links_stay, step_faces, step_apart, step_others, step_registers}

has_form : (step : switch.Step) → AreForms step → ResponseHasForm step
has_form (Moved from to packet) forms = tt
has_form (Dropped from packet) forms = tt
has_form (Answered at request response) forms = forms.1
has_form Nothing forms = tt

-- ---- the ports of the switch

-- the lists of ports that are known
faces_known : (ports : List PortState) (s : Seen) (node from n : ℕ) → length ports ≡ n
    → ((j : ℕ) → j < n → slice_get ports j ≡ Some (port_seen s (port node (from + j))))
    → faces_at ports ≡ faces_from s.network node from n
faces_known [] s node from zero many known = refl
faces_known [] s node from (suc n) many known = absurd (omega (arith, many))
faces_known (x ∷ ports) s node from zero many known = absurd (omega (arith, many))
faces_known (x ∷ ports) s node from (suc n) many known =
    let first : x ≡ port_seen s (port node (from + 0)) = (let h = known 0 (omega arith) in cc) in
    let here : from + 0 ≡ from = omega arith in
    let rest = faces_known ports s node (suc from) n (omega (arith, many))
    (λ j below. known (suc j) (omega (arith, below))
    ∙ ap (λ k. Some (port_seen s (port node k))) (omega arith)) in
    λ i. face_of_port ((first ∙ ap (λ k. port_seen s (port node k)) here) i) ∷ rest i

-- a port that is alike to what it was
record IsLike (ports : List PortState) (j : ℕ) (x : PortState) : Type 0 where
  pub y : PortState
  pub there : slice_get ports j ≡ Some y
  pub alike : AreAlike x y
  pub face : face_at (faces_at ports) j ≡ face_of_port y

like_at : (old new : List PortState) (j : ℕ) (x : PortState) → faces.AllAlike AreAlike old new
    → slice_get old j ≡ Some x → IsLike new j x
like_at [] [] j x alike is = absurd cc
like_at (a ∷ old) (b ∷ new) zero x alike is =
    let same : a ≡ x = cc in
    record { y = b; there = refl; alike = subst (λ z. AreAlike z b) same alike.0; face = refl }
like_at (a ∷ old) (b ∷ new) (suc j) x alike is =
    let rest = like_at old new j x alike.1 is in
    record { y = rest.y; there = rest.there; alike = rest.alike; face = rest.face }
like_at [] (b ∷ new) j x alike is = absurd alike
like_at (a ∷ old) [] j x alike is = absurd alike

like_many : (old new : List PortState) → faces.AllAlike AreAlike old new → length new ≡ length old
like_many [] [] alike = refl
like_many (a ∷ old) (b ∷ new) alike = ap suc (like_many old new alike.1)
like_many [] (b ∷ new) alike = absurd alike
like_many (a ∷ old) [] alike = absurd alike

faces_many : (net : Network) (node from n : ℕ) → length (faces_from net node from n) ≡ n
faces_many net node from zero = refl
faces_many net node from (suc n) = ap suc (faces_many net node (suc from) n)

-- ---- afterwards

-- as many ports were returned as were lent
pub ports_are : (fabric : Fabric) {first : ℕ} {device next : Registers} {ports : List PortState}
    {step : switch.Step} → first + device.ports ≤ length fabric.ports.items
    → MadeStep first device next fabric.ports.items ports step
    → (with_items fabric.ports ports).items ≡ ports
ports_are fabric {first = first} {device = device} {ports = ports} within made =
    let many = like_many (own_ports fabric.ports.items first device.ports) made.own made.alike
    ∙ own-length fabric.ports.items first device.ports within in
    with_items_is fabric.ports ports (ap (λ (l : List PortState). length l) made.ports
    ∙ length-replaced fabric.ports.items made.own first device.ports within many
    ∙ sym fabric.ports.ok.0)

-- A switch of which a packet went was not marked, and the links of the ports that it passed were
-- woken. One of which none could go was marked.
abbrev pub IdleSteps : Fabric → ℕ → ℕ → Idle → Option Going → Type 0
IdleSteps old node first idle (Some going) =
    (¬ IsMarkedAt old.idle.switches.items node)
    × Wakes (HasNumber old.cable_at.items (IsPassedAt first going)) (λ n. ⊥) old.idle idle
IdleSteps old node first idle None = idle ≡ with_switch_mark old.idle node

-- the registers and the ports that a call returned
pub record HasStepped (old new : Fabric) (node first : ℕ) (device next : Registers)
    (step : switch.Step) : Type 0 where
  pub stands : slice_get old.devices.items node ≡ Some device
  pub place : first ≡ slice_index_or old.firsts.items node 0
  pub made : MadeStep first device next old.ports.items new.ports.items step
  pub devices : new.devices.items ≡ slice_set old.devices.items node next
  pub firsts : new.firsts.items ≡ old.firsts.items
  pub cables : new.cables.items ≡ old.cables.items
  pub cable_at : new.cable_at.items ≡ old.cable_at.items
  pub idle : IdleSteps old node first new.idle (going_of step)

module _ (s : Seen) (old new : Fabric) (node first : ℕ) (device next : Registers)
    (step : switch.Step)
    (shows : ShowsFabric old s) (by : ByPriority s.network) (switches : is_switch device ≡ true)
    (has : HasStepped old new node first device next step) (forms : AreForms step) where
  net : Network
  net = s.network

  known : slice_get s.network.registers node ≡ Some device
  known = ap (λ (l : List Registers). slice_get l node) shows.registers ∙ has.stands

  is_one : IsSwitch s.network node
  is_one = ap (option_map is_switch) known ∙ ap Some switches

  within : first + device.ports ≤ length old.ports.items
  within =
      let row = row_within 0 old.devices.items old.firsts.items node shows.firsts has.stands in
      let count = shows.count in
      let place = has.place in
      omega (arith, row, count, place)

  own_known : (j : ℕ) → j < device.ports
      → slice_get (own_ports old.ports.items first device.ports) j
      ≡ Some (port_seen s (port node j))
  own_known j below =
      get-own old.ports.items first device.ports j within below
      ∙ ap (λ n. slice_get old.ports.items (n + j)) has.place
      ∙ shows.ports (port node j) (rw has.stands below)

  lists_known : faces_at (own_ports old.ports.items first device.ports)
      ≡ faces_in s.network node device
  lists_known =
      faces_known (own_ports old.ports.items first device.ports) s node 0 device.ports
      (own-length old.ports.items first device.ports within)
      (λ j below. own_known j below ∙ ap (λ k. Some (port_seen s (port node k))) (omega arith))

  step_is : step ≡ step_of device (faces_in s.network node device)
  step_is = has.made.made ∙ ap (step_of device) lists_known

  later : AreFacesOf (after_step s.network node step) node device.ports (faces_at has.made.own)
  later =
      let needs = subst (StepNeeds s.network node) (sym step_is)
      (step_needs s.network node device by known is_one) in
      let lists : faces_at has.made.own ≡ faces_after (faces_in s.network node device) step =
      has.made.lists ∙ ap (λ l. faces_after l step) lists_known in
      rw lists (step_faces s.network node device.ports step (faces_in s.network node device)
      forms needs (
        faces_many s.network node 0 device.ports,
        λ j below. sym (face_is s.network node device j below),
      ))

  own_later : (j : ℕ) → j < device.ports → slice_get has.made.own j
      ≡ Some (port_seen (record s { network = after_step s.network node step }) (port node j))
  own_later j below =
      let like = like_at (own_ports old.ports.items first device.ports) has.made.own j
      (port_seen s (port node j)) has.made.alike (own_known j below) in
      like.there
      ∙ ap Some (sym (port_faced s (after_step s.network node step) (port node j) like.y
      (plans_stay s.network node step) like.alike (sym like.face ∙ sym (later.1 j below))))

  pub is_move : (block : List TraceLine) → block ≡ step_lines node step
      → IsMove s.network node block
  is_move block is = record {
    switch = is_one;
    device = device;
    stands = known;
    form = subst ResponseHasForm step_is (has_form step forms);
    lines = is ∙ ap (step_lines node) step_is;
  }

  -- a port that stands elsewhere is none that the packet passes
  elsewhere : (going : Going) (q : PortRef) → ¬ IsPassedAt first going (place_of old.firsts.items q)
      → q.node ≡ node → ¬ IsPassed going q.port
  elsewhere going q away same passed =
      away (
        q.port,
        passed,
        ap (λ n. slice_index_or old.firsts.items n 0 + q.port) same
            ∙ ap (λ n. n + q.port) (sym has.place),
      )

  registers_later : (after_step s.network node step).registers ≡ slice_set s.network.registers node
      (switch_after device step)
  registers_later = step_registers s.network node device step known

  -- what stays idle where a packet goes
  idle_goes : (going : Going) → going_of step ≡ Some going
      → ¬ IsMarkedAt old.idle.switches.items node
      → Wakes (HasNumber old.cable_at.items (IsPassedAt first going)) (λ n. ⊥) old.idle new.idle
      → KnowsIdle new.idle (record s { network = after_step s.network node step })
  idle_goes going goes unmarked woke =
      let next = after_step s.network node step in
      idle_ports old new.idle s (record s { network = next }) (IsPassedAt first going) shows woke
      refl (links_stay s.network node step)
      (ap (λ (l : List Registers). length l) registers_later
      ∙ length-set s.network.registers node (switch_after device step))
      (λ q away. port_stays s next q (plans_stay s.network node step)
      (step_apart s.network node step q (λ same other is. subst (λ g. ¬ IsPassed g q.port)
      (same_Some going other (sym goes ∙ is)) (elsewhere going q away same))))
      (λ n marked rests.
      let other : n ≢ node = λ same. unmarked
      (subst (IsMarkedAt old.idle.switches.items) same marked) in
      move_stays (ap (λ (l : List Registers). slice_get l n) registers_later
      ∙ get_other s.network.registers node n (switch_after device step) other)
      (λ j. step_others s.network node step (port n j) other) rests)

  -- and where none goes
  idle_rests : (other : switch.Step) → going_of other ≡ None → other ≡ step
      → new.idle ≡ with_switch_mark old.idle node
      → KnowsIdle new.idle (record s { network = after_step s.network node step })
  idle_rests (Moved from to packet) none same idle = absurd (cc none)
  idle_rests (Dropped from packet) none same idle = absurd (cc none)
  idle_rests (Answered at request response) none same idle = absurd (cc none)
  idle_rests Nothing none same idle =
      subst (λ (x : switch.Step). KnowsIdle new.idle
      (record s { network = after_step s.network node x })) same
      (subst (λ (n : Network). KnowsIdle new.idle (record s { network = n }))
      (sym (after_none s.network node)) (subst (λ i. KnowsIdle i s) (sym idle)
      (switch_marked old.idle node s shows.idle
      (is_move (Lacked NoStep ∷ []) (ap (step_lines node) same)))))

  idle_later : KnowsIdle new.idle (record s { network = after_step s.network node step })
  idle_later = by_going (going_of step) refl has.idle
    where
      by_going : (o : Option Going) → going_of step ≡ o → IdleSteps old node first new.idle o
          → KnowsIdle new.idle (record s { network = after_step s.network node step })
      by_going (Some going) is idle = idle_goes going is idle.0 idle.1
      by_going None is idle = idle_rests step is refl idle

  pub shows_later : ShowsFabric new (record s { network = after_step s.network node step })
  shows_later =
      let t : Seen = record s { network = after_step s.network node step } in
      let many = like_many (own_ports old.ports.items first device.ports) has.made.own
      has.made.alike ∙ own-length old.ports.items first device.ports within in
      let ports = row_set old.devices.items old.firsts.items old.ports.items has.made.own s t node
      device shows.firsts shows.count shows.ports has.stands many own_later
      (λ q apart. port_stays s (after_step s.network node step) q (plans_stay s.network node step)
      (step_others s.network node step q apart)) in
      let all : new.ports.items ≡ replaced old.ports.items has.made.own
      (slice_index_or old.firsts.items node 0) device.ports =
      has.made.ports ∙ ap (λ n. replaced old.ports.items has.made.own n device.ports) has.place in
      served_shows old new s t shows
      (record {
        devices = rw has.devices
            (one_written old.devices.items node device next has.stands has.made.same);
        firsts = has.firsts;
        count = ap (λ l. length l) has.made.ports
            ∙ length-replaced old.ports.items has.made.own first device.ports within many;
        cables = has.cables;
        cable_at = has.cable_at;
      })
      (rw all ports) refl (links_stay s.network node step)
      (step_registers s.network node device step known
      ∙ ap (slice_set s.network.registers node) (sym has.made.registers)
      ∙ ap (λ (l : List Registers). slice_set l node next) shows.registers ∙ sym has.devices)
      idle_later
