-- Every access that goes on leaves its walker fewer turns.
use Rattle.contest_machine.proofs.Prelude.{◌≡◌, ◌≢◌, ℕ, ◌+◌, ◌*◌, ◌/◌, ◌%◌, ◌≤◌, ◌<◌, true, List, [], ◌∷◌, ◌++◌, length, Option, Some, None, IsSome, option_map, Contains, arith, subst, sym, refl, ap, ◌∙◌, append-nil, unwrap_or, Contains-append_left, Contains-append_right, PortRef, is_switch, port_information-read, same_kind, Endpoint, Device, Topology, IsTopology, device_ports, entered, node_at, AllRegisters, Fits, paths_of, entered-inside, entered-port, node_at-entered, some_from_same, Contains-first, Read, Write, answered, after_access, met_as, Asked, PendingWrite, Tried, Stage, Ask, Claim, Check, Test, Features, Information, Status, Free, Done, Lost, Walker, asked, kept, last_path, but_last, numbered, settled, walker_told, told_at, reached, stepped, AreOnce, IsMine, came_of, going_one, WalkerIsWithin}
use Rattle.contest_machine.proofs.Keeping.Few.{once_few}
use Rattle.contest_machine.proofs.Keeping.Between.{with_fresh}
use Rattle.contest_machine.proofs.Keeping.Lists.{once-push, split_last}
use Rattle.contest_machine.proofs.Keeping.Reading.{lock_told}
use Rattle.contest_machine.proofs.Keeping.Stepped.{some_left}
use Rattle.contest_machine.proofs.Turns.Lasting.{AreSameDevices}
use Rattle.contest_machine.proofs.Turns.Telling.{IsAtSwitch}
use Rattle.contest_machine.proofs.Turns.Led.{AreAtSwitches, IsLedAt, IsLed}
use Rattle.contest_machine.proofs.Turns.Costing.{turns_left, room_less}
use Rattle.contest_machine.proofs.Turns.Spending.{Spends, few_kept, few_devices, one_less, ask_spends, check_spends, claim_spends, test_spends, features_spends, information_spends, status_spends, free_spends}

entered_some : (o : Option PortRef) → IsSome (option_map (λ (p : PortRef). p.node) o) → IsSome o
entered_some None some = absurd (cc)
entered_some (Some at) some = refl

node_some : (o : Option PortRef) → IsSome o → IsSome (option_map (λ (p : PortRef). p.node) o)
node_some None some = absurd (cc)
node_some (Some at) some = refl

same_port : (o : Option PortRef) (p q : PortRef) → o ≡ Some p → o ≡ Some q → p ≡ q
same_port o p q first second = cc

-- a switch tells how many ports it has
ports_few : (view : Topology) (before now : AllRegisters) → IsTopology view → Fits view before
    → AreSameDevices before now → (path : List ℕ) (at : PortRef) → entered view path ≡ Some at
    → IsAtSwitch view path
    → (answered (now at.node) at.port (Read 0x14)).answer.value / 0x100 % 0x100 ≤ 16
ports_few view before now proper shown same path at enters (there, ports, leads, switch) =
    omega (arith, value, few, small, most)
  where
    inside : at.node < view.nodes
    inside = entered-inside view path at proper enters

    is : is_switch (now at.node) ≡ true
    is = same_kind (before at.node) (now at.node) (same at.node)
        ∙ shown.switches at.node ports inside
        (subst (λ (p : PortRef). view.switch_ports p.node ≡ Some ports)
        (same_port (entered view path) there at leads enters) switch)

    value : (answered (now at.node) at.port (Read 0x14)).answer.value
        ≡ (now at.node).ports * 0x100 + at.port
    value = ap (λ o. unwrap_or o 0)
        (port_information-read (now at.node) at.port is)

    few : (now at.node).ports ≡ device_ports view at.node
    few = (same at.node).ports ∙ shown.ports at.node inside

    small : at.port < device_ports view at.node
    small = (entered-port view path at proper enters).port

    most : device_ports view at.node ≤ 16
    most = proper.most_ports at.node

module _ (w : Walker) (before old : AllRegisters) (fits : w.id < 0xff) (shown : Fits w.view before)
    (same : AreSameDevices before old) where
  abbrev between : Stage → Walker
  between stage = record w { todo = []; stage = stage }

  abbrev Pays : Walker → Type 0
  Pays w0 = Spends w0 old (stepped w0 old).walker (stepped w0 old).registers

  reached_spends : (w0 : Walker) (ask : Asked) → IsSome (entered w0.view ask.path)
      → ((at : PortRef) → entered w0.view ask.path ≡ Some at
      → Spends w0 old (walker_told w0 (answered (old at.node) at.port ask.access).answer.value)
      (after_access old at ask.access))
      → Spends w0 old (reached w0 old ask (entered w0.view ask.path)).walker
      (reached w0 old ask (entered w0.view ask.path)).registers
  reached_spends w0 ask leads some = go (entered w0.view ask.path) leads some
    where
      go : (o : Option PortRef) → IsSome o → ((at : PortRef) → o ≡ Some at
          → Spends w0 old (walker_told w0 (answered (old at.node) at.port ask.access).answer.value)
          (after_access old at ask.access))
          → Spends w0 old (reached w0 old ask o).walker (reached w0 old ask o).registers
      go None leads some = absurd (cc)
      go (Some at) leads some = some at refl

  few_listed : (stage : Stage) → kept (between stage) ≡ paths_of w.devices ++ []
      → WalkerIsWithin (between stage) → IsMine (between stage) old → length w.devices ≤ 64
  few_listed stage is within mine =
      let few = few_devices w.devices [] (subst (λ l. length l ≤ 64) is
      (few_kept (between stage) old within mine)) in
      omega (arith, few)

  -- the device that is claimed is one more
  few_claimed : WalkerIsWithin (between Claim) → IsMine (between Claim) old
      → IsSome (entered w.view w.path)
      → length w.devices + 1 ≤ 64
  few_claimed within mine leads =
      let few = once_few w.view within.proper (paths_of w.devices ++ w.path ∷ [])
      (with_fresh w.view (paths_of w.devices) w.path
      (λ path listed. within.leading path
      (Contains-append_left (paths_of w.devices) [] path listed))
      (node_some (entered w.view w.path) leads))
      (once-push w.view (paths_of w.devices) w.path
      (subst (AreOnce w.view) (append-nil (paths_of w.devices)) mine.once) other) in
      let most = within.proper.most in
      let all = few_devices w.devices (w.path ∷ []) (omega (arith, few, most)) in
      omega (arith, all)
    where
      at_path : (o : Option PortRef) → entered w.view w.path ≡ o → IsSome o
          → (at : PortRef) × (entered w.view w.path ≡ Some at)
      at_path None is some = absurd (cc)
      at_path (Some at) is some = (at, is)

      other : (path : List ℕ) → Contains (paths_of w.devices) path
          → node_at w.view path ≢ node_at w.view w.path
      other path listed is =
          let found = at_path (entered w.view w.path) refl leads in
          let here = node_at-entered w.view w.path found.0 found.1 in
          mine.knows.1 found.0.node here
          (mine.locks found.0.node
          (path, Contains-append_left (paths_of w.devices) [] path listed, is ∙ here))

  few_fresh : (stage : Stage) → kept (between stage) ≡ paths_of w.devices ++ w.path ∷ []
      → WalkerIsWithin (between stage) → IsMine (between stage) old → length w.devices + 1 ≤ 64
  few_fresh stage is within mine =
      let few = few_devices w.devices (w.path ∷ []) (subst (λ l. length l ≤ 64) is
      (few_kept (between stage) old within mine)) in
      omega (arith, few)

  status_pays : (tried : List Tried) → tried ≢ [] → AreAtSwitches w.view tried
      → Pays (record w { todo = []; stage = Status; tried = tried })
  status_pays [] some all = absurd (some refl)
  status_pays (top ∷ rest) some all =
      reached_spends (record w { todo = []; stage = Status; tried = top ∷ rest })
      (asked top.path (Read (0x158 + 0x20 * top.port)))
      (some_from_same (entered w.view top.path) all.0.0 all.0.2)
      (λ at enters. status_spends w before old fits shown same at
      (answered (old at.node) at.port (Read (0x158 + 0x20 * top.port))).answer.value top rest)

  last_leads : (devices : List Device) → devices ≢ []
      → ((path : List ℕ) → Contains (paths_of devices ++ []) path → IsSome (node_at w.view path))
      → IsSome (entered w.view (last_path devices))
  last_leads devices some leading =
      entered_some (entered w.view (last_path devices)) (leading (last_path devices)
      (Contains-append_left (paths_of devices) [] (last_path devices)
      (subst (λ l. Contains l (last_path devices)) (sym (split_last devices some))
      (Contains-append_right (paths_of (but_last devices)) (last_path devices ∷ [])
      (last_path devices) (Contains-first (last_path devices) [])))))

  stage_pays : (stage : Stage) → IsMine (between stage) old → WalkerIsWithin (between stage)
      → IsLed (between stage) → Pays (between stage)
  stage_pays Ask mine within led =
      reached_spends (between Ask) (asked w.path (Read 0x68)) led.1
      (λ at enters. subst (λ n. Spends (between Ask) old (told_at (between Ask) n Ask)
      (after_access old at (Read 0x68)))
      (sym (lock_told (old at.node) at.port))
      (ask_spends w before old fits shown same at enters (few_listed Ask refl within mine)))
  stage_pays Claim mine within led =
      reached_spends (between Claim) (asked w.path (Write 0x68 w.id)) led.1.0
      (λ at enters. claim_spends w before old fits shown same at enters
      (mine.knows.1 at.node (node_at-entered w.view w.path at enters))
      (few_claimed within mine led.1.0))
  stage_pays Check mine within led =
      reached_spends (between Check) (asked w.path (Read 0x68)) led.1.0
      (λ at enters. subst (λ n. Spends (between Check) old (told_at (between Check) n Check)
      (after_access old at (Read 0x68)))
      (sym (lock_told (old at.node) at.port))
      (check_spends w before old fits shown same at enters (few_listed Check refl within mine)))
  stage_pays Test mine within led =
      reached_spends (between Test) (asked w.path (Read 0x6c)) led.1.0
      (λ at enters. test_spends w before old fits shown same at
      (answered (old at.node) at.port (Read 0x6c)).answer.value)
  stage_pays Features mine within led =
      reached_spends (between Features) (asked w.path (Read 0x10)) led.1.0
      (λ at enters. features_spends w before old fits shown same
      (few_fresh Features refl within mine) at
      (answered (old at.node) at.port (Read 0x10)).answer.value w.path
      (λ is. led.1.1 is refl))
  stage_pays Information mine within led =
      reached_spends (between Information) (asked w.path (Read 0x14))
      (some_from_same (entered w.view w.path) led.1.0.0 led.1.0.2)
      (λ at enters. information_spends w before old fits shown same
      (few_fresh Information refl within mine) at
      ((answered (old at.node) at.port (Read 0x14)).answer.value / 0x100 % 0x100)
      ((answered (old at.node) at.port (Read 0x14)).answer.value % 0x100)
      (ports_few w.view before old within.proper shown same w.path at enters led.1.0))
  stage_pays Status mine within led = status_pays w.tried led.1 led.0
  stage_pays Free mine within led =
      reached_spends (between Free) (asked (last_path w.devices) (Write 0x68 w.id))
      (last_leads w.devices led.1 within.leading)
      (λ at enters. free_spends w before old fits shown same
      (after_access old at (Write 0x68 w.id)) led.1 (few_listed Free refl within mine))
  stage_pays Done mine within led = record {
    turns = omega arith;
    claims = omega arith;
    takes = λ node claimed free. absurd (cc);
  }
  stage_pays Lost mine within led = record {
    turns = omega arith;
    claims = omega arith;
    takes = λ node claimed free. absurd (cc);
  }

-- a write is left less
settled_spends : (w : Walker) (old new : AllRegisters) (p : PendingWrite) (rest : List PendingWrite)
    (stage : Stage) (path : List ℕ)
    → WalkerIsWithin (record w { todo = p ∷ rest; stage = stage; path = path })
    → IsMine (record w { todo = p ∷ rest; stage = stage; path = path }) old
    → IsLedAt (record w { todo = p ∷ rest; path = path }) stage
    → Spends (record w { todo = p ∷ rest; stage = stage; path = path }) old
    (settled (record w { todo = p ∷ rest; stage = stage; path = path }) rest stage path) new
settled_spends w old new p rest stage path within mine led = go rest stage path within mine led
  where
    one : (before after : Walker) → turns_left after new + 1 ≤ turns_left before old
        → turns_left after new + going_one
        (came_of before after) ≤ turns_left before old
    one before after less =
        one_less before after (turns_left after new) (turns_left before old) less

    go : (rest : List PendingWrite) (stage : Stage) (path : List ℕ)
        → WalkerIsWithin (record w { todo = p ∷ rest; stage = stage; path = path })
        → IsMine (record w { todo = p ∷ rest; stage = stage; path = path }) old
        → IsLedAt (record w { todo = p ∷ rest; path = path }) stage
        → Spends (record w { todo = p ∷ rest; stage = stage; path = path }) old
        (settled (record w { todo = p ∷ rest; stage = stage; path = path }) rest stage path) new
    go (q ∷ rest) Ask path within mine led = record {
      turns = one (record w { todo = p ∷ q ∷ rest; stage = Ask; path = path })
          (record w { todo = q ∷ rest; stage = Ask; path = path }) (omega arith);
      claims = omega arith;
      takes = λ node claimed free. absurd (cc);
    }
    go [] Ask path within mine led = record {
      turns = one (record w { todo = p ∷ []; stage = Ask; path = path })
          (record w { todo = []; stage = Ask; path = path }) (omega arith);
      claims = omega arith;
      takes = λ node claimed free. absurd (cc);
    }
    go rest Claim path within mine led = absurd (some_left p rest led.1)
    go rest Check path within mine led = absurd (some_left p rest led.1)
    go rest Test path within mine led = absurd (some_left p rest led.1)
    go (q ∷ rest) Features path within mine led = record {
      turns = one (record w { todo = p ∷ q ∷ rest; stage = Features; path = path })
          (record w { todo = q ∷ rest; stage = Features; path = path }) (omega arith);
      claims = omega arith;
      takes = λ node claimed free. absurd (cc);
    }
    go [] Features [] within mine led =
        let few = few_devices w.devices ([] ∷ [])
        (few_kept (record w { todo = p ∷ []; stage = Features; path = [] }) old within mine) in
        let less = room_less w.devices (met_as w.devices (Endpoint w.id) []) (omega (arith, few)) in
        record {
          turns = one (record w { todo = p ∷ []; stage = Features; path = [] })
              (numbered (record w { todo = []; stage = Features; path = [] }) [])
              (omega (arith, less));
          claims = omega (arith, less);
          takes = λ node claimed free. absurd (cc);
        }
    go [] Features (x ∷ path) within mine led = record {
      turns = one (record w { todo = p ∷ []; stage = Features; path = x ∷ path })
          (record w { todo = []; stage = Features; path = x ∷ path }) (omega arith);
      claims = omega arith;
      takes = λ node claimed free. absurd (cc);
    }
    go rest Information path within mine led = absurd (some_left p rest led.1)
    go (q ∷ rest) Status path within mine led = record {
      turns = one (record w { todo = p ∷ q ∷ rest; stage = Status; path = path })
          (record w { todo = q ∷ rest; stage = Status; path = path }) (omega arith);
      claims = omega arith;
      takes = λ node claimed free. absurd (cc);
    }
    go [] Status path within mine led = record {
      turns = one (record w { todo = p ∷ []; stage = Status; path = path })
          (record w { todo = []; stage = Status; path = path }) (omega arith);
      claims = omega arith;
      takes = λ node claimed free. absurd (cc);
    }
    go (q ∷ rest) Free path within mine led = record {
      turns = one (record w { todo = p ∷ q ∷ rest; stage = Free; path = path })
          (record w { todo = q ∷ rest; stage = Free; path = path }) (omega arith);
      claims = omega arith;
      takes = λ node claimed free. absurd (cc);
    }
    go [] Free path within mine led = record {
      turns = one (record w { todo = p ∷ []; stage = Free; path = path })
          (record w { todo = []; stage = Free; path = path }) (omega arith);
      claims = omega arith;
      takes = λ node claimed free. absurd (cc);
    }
    go (q ∷ rest) Done path within mine led = record {
      turns = one (record w { todo = p ∷ q ∷ rest; stage = Done; path = path })
          (record w { todo = q ∷ rest; stage = Done; path = path }) (omega arith);
      claims = omega arith;
      takes = λ node claimed free. absurd (cc);
    }
    go [] Done path within mine led = record {
      turns = one (record w { todo = p ∷ []; stage = Done; path = path })
          (record w { todo = []; stage = Done; path = path }) (omega arith);
      claims = omega arith;
      takes = λ node claimed free. absurd (cc);
    }
    go rest Lost path within mine led = absurd (some_left p rest led.0)

-- One access: fewer turns are left, if it goes on.
pub step_spends : (w : Walker) (before old : AllRegisters) → w.id < 0xff → Fits w.view before
    → AreSameDevices before old → IsMine w old → WalkerIsWithin w → IsLed w
    → Spends w old (stepped w old).walker (stepped w old).registers
step_spends w before old fits shown same mine within led = go w.todo w.stage w.path mine within led
  where
    go : (todo : List PendingWrite) (stage : Stage) (path : List ℕ)
        → IsMine (record w { todo = todo; stage = stage; path = path }) old
        → WalkerIsWithin (record w { todo = todo; stage = stage; path = path })
        → IsLed (record w { todo = todo; stage = stage; path = path })
        → Spends (record w { todo = todo; stage = stage; path = path }) old
        (stepped (record w { todo = todo; stage = stage; path = path }) old).walker
        (stepped (record w { todo = todo; stage = stage; path = path }) old).registers
    go [] stage path mine within led =
        stage_pays (record w { path = path }) before old fits shown same stage mine within led
    go (p ∷ rest) stage path mine within led =
        reached_spends w before old fits shown same
        (record w { todo = p ∷ rest; stage = stage; path = path })
        (asked p.path (Write p.offset p.value))
        (entered_some (entered w.view p.path) (within.leading p.path mine.own.0.0))
        (λ at enters. settled_spends w old (after_access old at (Write p.offset p.value)) p rest
        stage path within mine led.1)
