-- Each access of a walker leaves open what it asks next.
use Rattle.contest_machine.proofs.Prelude.{◌≡◌, ◌≢◌, ℕ, ◌+◌, ◌*◌, ◌/◌, ◌%◌, ◌≤◌, ◌<◌, nat_lt, Bool, true, false, eqb, List, [], ◌∷◌, ◌++◌, Option, Some, None, ◌⊎◌, inl, inr, subst, sym, refl, ap, ◌∙◌, if◌then◌else◌, unwrap_or, cases_eq, eqb-true, eqb-false, same_Some, PortRef, port_at, Registers, IsDevice, next_port, lock-written, same_device, IsTopology, device_ports, entered, AllRegisters, Fits, entered-inside, listed-switch, node_at-entered, Read, Write, answered, after_access, IsUnmet, IsUnderway, with_device-at, with_device-other, underway-same, next-home, Asked, PendingWrite, Tried, Stage, Ask, Claim, Check, Test, Features, Information, Status, Free, Done, Lost, Walker, asked, last_path, but_last, freeing, gone_on, taken, judged, numbered, switch_set_up, outward, settled, walker_told, told_at, reached, stepped}
use Rattle.contest_machine.proofs.Keeping.Reading.{read-same, lock_told}
use Rattle.contest_machine.proofs.Keeping.Stepped.{at_stage}
use Rattle.contest_machine.proofs.Turns.Led.{IsLed}
use Rattle.contest_machine.proofs.Turns.Telling.{is_linked}
use Rattle.contest_machine.proofs.Numbering.OnWay.{one_performed, performed, bound_at}
use Rattle.contest_machine.proofs.Numbering.Begins.{IsStarting}
use Rattle.contest_machine.proofs.Numbering.Along.{IsHere, IsAlong}
use Rattle.contest_machine.proofs.Numbering.Chained.{IsFrame}
use Rattle.contest_machine.proofs.Numbering.Coming.{IsComing}
use Rattle.contest_machine.proofs.Numbering.Moving.{lost_along}
use Rattle.contest_machine.proofs.Numbering.Sound.{fits_after}
use Rattle.contest_machine.proofs.Asking.Answering.{PassesOthers, listed_others, unmet_others}
use Rattle.contest_machine.proofs.Asking.Guided.{AreBehindHost, IsGuided, behind-but_last}
use Rattle.contest_machine.proofs.Asking.OpenWays.{IsWay, AreOpen, way-sends, lock_sends}
use Rattle.contest_machine.proofs.Asking.Trees.{AreHome, IsTree, paths-but_last, tree_of, home_of, base_of, tree-but_last}
use Rattle.contest_machine.proofs.Asking.Opened.{IsLeaving, IsOpenAt, IsOpening, nested, top_here, gone_opening, freeing_opening, taken_opening}
use Rattle.contest_machine.proofs.Asking.TakenOpen.{host_opening, endpoint_opening, switch_opening, outward_opening}

-- a lock that is written leaves each ID
lock_base : (now : AllRegisters) (at : PortRef) (value node : ℕ)
    → (after_access now at (Write 0x68 value) node).base_id ≡ (now node).base_id
lock_base now at value node = go (cases_eq node at.node)
  where
    go : (node ≡ at.node) ⊎ (node ≢ at.node)
        → (after_access now at (Write 0x68 value) node).base_id ≡ (now node).base_id
    go (inl same) =
        ap (λ n. (after_access now at (Write 0x68 value) n).base_id) same
        ∙ (ap (λ (d : Registers). d.base_id) (with_device-at now at.node _)
        ∙ (ap (λ o. (unwrap_or o (now at.node)).base_id)
        (lock-written (now at.node) value) ∙ ap (λ n. (now n).base_id) (sym same)))
    go (inr apart) =
        ap (λ (d : Registers). d.base_id) (with_device-other now at.node node _ apart)

module _ (w : Walker) (old : AllRegisters) (fits : w.id < 0xff) (proper : IsTopology w.view)
    (shown : Fits w.view old) where
  abbrev between : Stage → Walker
  between stage = record w { todo = []; stage = stage }

  abbrev After : Walker → Type 0
  After w0 = IsOpening (stepped w0 old).walker (stepped w0 old).registers

  reached_opening : (w0 : Walker) (ask : Asked) → IsOpening w0 old
      → ((at : PortRef) → entered w0.view ask.path ≡ Some at
      → IsOpening (walker_told w0 (answered (old at.node) at.port ask.access).answer.value)
      (after_access old at ask.access))
      → IsOpening (reached w0 old ask (entered w0.view ask.path)).walker
      (reached w0 old ask (entered w0.view ask.path)).registers
  reached_opening w0 ask opening some = go (entered w0.view ask.path) some
    where
      go : (o : Option PortRef) → ((at : PortRef) → o ≡ Some at
          → IsOpening (walker_told w0 (answered (old at.node) at.port ask.access).answer.value)
          (after_access old at ask.access))
          → IsOpening (reached w0 old ask o).walker (reached w0 old ask o).registers
      go None some = opening
      go (Some at) some = some at refl

  read_opening : (after : Walker) (at : PortRef) (offset : ℕ) → IsOpening after old
      → IsOpening after (after_access old at (Read offset))
  read_opening after at offset opening =
      subst (λ r. IsOpening after r) (sym (read-same old at offset)) opening

  -- it has taken in nothing, or is along its way
  abbrev HasAsked : Type 0
  HasAsked = (w.devices ≡ []) ⊎ IsAlong (between Ask) old

  underway_now : (along : IsAlong (between Ask) old)
      → IsUnderway w.view along.way.before old w.id w.devices w.next w.path
  underway_now along =
      underway-same w.view along.way.before along.way.seen w.id w.next w.devices w.path
      along.way.underway old (λ node. sym (along.way.seen_is node (λ a. a)))

  has_left : HasAsked → w.devices ≢ [] → IsTree w.view w.devices
      × AreHome w.view w.devices w.id old × ((old w.view.host).base_id ≡ w.id)
  has_left (inl none) some = absurd (some none)
  has_left (inr along) some =
      let under = underway_now along in (
        tree_of w.view along.way.before old w.id w.next w.devices w.path under along.host,
        home_of w.view along.way.before old w.id w.next w.devices w.path under along.host shown,
        base_of w.view along.way.before old w.id w.next w.devices w.path under along.host,
      )

  judged_opening : (stage : Stage) (lock : ℕ) → HasAsked → AreBehindHost w.devices
      → IsWay w.view w.devices w.id old w.path → IsOpening (judged (between stage) lock) old
  judged_opening stage lock has behind way = go (eqb lock 0xffff) (nat_lt w.id lock)
    where
      go : (b c : Bool) → IsOpening (if b then between Claim
          else (if c then freeing (between stage) w.devices else between Ask)) old
      go true c = record { writes = tt; stands = way }
      go false true =
          freeing_opening (between stage) old w.devices proper fits behind shown (has_left has)
      go false false = record { writes = tt; stands = way }

  starts_with : (stage : Stage) → IsStarting (between stage) old → w.devices ≡ []
  starts_with stage starting = ap (λ (v : Walker). v.devices) starting.is

  asked_so : IsComing (between Ask) old → HasAsked
  asked_so (inl over) = absurd over
  asked_so (inr (inl starting)) = inl (starts_with Ask starting)
  asked_so (inr (inr along)) = inr along

  checked_so : IsComing (between Check) old → (at : PortRef) → entered w.view w.path ≡ Some at
      → (old at.node).lock ≢ w.id → HasAsked
  checked_so (inl over) at enters other = absurd over
  checked_so (inr (inl starting)) at enters other = inl (starts_with Check starting)
  checked_so (inr (inr along)) at enters other = inr (lost_along w old fits at enters along other)

  tested : IsComing (between Test) old → IsWay w.view w.devices w.id old w.path
      → IsOpening (gone_on (between Test) w.tried) old
  tested (inl over) way = absurd over
  tested (inr (inl starting)) way =
      subst (λ l. IsOpening (gone_on (between Test) l) old)
      (ap (λ (v : Walker). v.tried) (sym starting.is)) (record { writes = tt; stands = tt })
  tested (inr (inr along)) way =
      gone_opening (between Test) old w.tried (nested w.view w.devices w.tried along.chained) tt
      (top_here w.view w.devices w.id old w.path w.tried along.here way)

  -- no switch that the path passes is the device on it
  new_others : (stage : Stage) (at : PortRef) → entered w.view w.path ≡ Some at
      → (along : IsAlong (between stage) old) → IsUnmet w.view w.devices at.node
      → IsWay w.view w.devices w.id old w.path → PassesOthers w.view w.path at.node
  new_others stage at enters along unmet way =
      unmet_others w.view w.devices (bound_at (between stage) stage) w.path at
      along.way.underway.walked way.passes unmet

  features_told : (path : List ℕ) → w.path ≡ path → (w.path ≢ []) → w.next ≤ 65
      → IsComing (between Features) old → AreBehindHost w.devices
      → IsWay w.view w.devices w.id old w.path → (at : PortRef) → entered w.view w.path ≡ Some at
      → IsOpening (numbered (between Features) w.path) old
  features_told [] is some few coming behind way at enters = absurd (some is)
  features_told (x ∷ rest) is some few (inl over) behind way at enters = absurd over
  features_told (x ∷ rest) is some few (inr (inl starting)) behind way at enters =
      absurd (some (ap (λ (v : Walker). v.path) starting.is))
  features_told (x ∷ rest) is some few (inr (inr along)) behind way at enters =
      subst Ends (sym is) (λ others here way enters.
      endpoint_opening w old x rest Features at enters others behind
      (nested w.view w.devices w.tried along.chained) here few way)
      (new_others Features at enters along
      (along.way.new at.node (node_at-entered w.view w.path at enters)) way) along.here way enters
    where
      Ends : List ℕ → Type 0
      Ends path = PassesOthers w.view path at.node → IsHere path w.tried
          → IsWay w.view w.devices w.id old path → entered w.view path ≡ Some at
          → IsOpening (numbered (at_stage (record w { path = path }) Features) path) old

  information_told : (ports entry : ℕ) → IsComing (between Information) old → (at : PortRef)
      → entered w.view w.path ≡ Some at → IsWay w.view w.devices w.id old w.path
      → IsOpening (switch_set_up (between Information) ports entry) old
  information_told ports entry (inl over) at enters way = absurd over
  information_told ports entry (inr (inl starting)) at enters way = absurd starting.knows
  information_told ports entry (inr (inr along)) at enters way =
      switch_opening w old ports entry at enters
      (new_others Information at enters along
      (along.way.new at.node (node_at-entered w.view w.path at enters)) way) way

  status_told : (top : Tried) (rest : List Tried)
      → IsAlong (record w { todo = []; stage = Status; tried = top ∷ rest }) old → (at : PortRef)
      → entered w.view top.path ≡ Some at → top.port < device_ports w.view at.node
      → IsWay w.view w.devices w.id old top.path
      → IsOpening (outward (record w { todo = []; stage = Status; tried = top ∷ rest })
      (top ∷ rest)) old
  status_told top rest along at enters below way =
      outward_opening w old top rest at enters
      (listed_others w.view w.devices _ top.path at along.way.underway.walked frame.listed enters)
      (subst (λ (p : PortRef). p.node ≢ w.view.host) same frame.other) frame.listed
      (shown.switches at.node top.ports inside switch) device.most_ports device.destinations
      (subst (λ n. top.port < n) (sym (shown.ports at.node inside)) below) fits home way
    where
      frame : IsFrame w.view w.devices top
      frame = along.chained.0

      same : frame.at ≡ at
      same = same_Some frame.at at (sym frame.leads ∙ enters)

      switch : w.view.switch_ports at.node ≡ Some top.ports
      switch =
          subst (λ (p : PortRef). w.view.switch_ports p.node ≡ Some top.ports) same frame.switch

      inside : at.node < w.view.nodes
      inside = entered-inside w.view top.path at proper enters

      device : IsDevice (old at.node)
      device = shown.devices at.node inside

      home : next_port (old at.node) w.id ≡ Some at.port
      home =
          let member = listed-switch w.view w.id w.devices top.path at top.ports
          along.way.underway.described frame.listed enters switch in
          next-home w.view along.way.before old w.id w.next w.devices _
          (underway-same w.view along.way.before along.way.seen w.id w.next w.devices _
          along.way.underway old (λ node. sym (along.way.seen_is node (λ a. a))))
          member.0 at top.ports at.port shown member.1 member.3
          (ap (λ l. entered w.view l) member.2 ∙ enters)

  status_opening : (tried : List Tried) → tried ≢ []
      → IsAlong (record w { todo = []; stage = Status; tried = tried }) old
      → IsOpening (record w { todo = []; stage = Status; tried = tried }) old
      → After (record w { todo = []; stage = Status; tried = tried })
  status_opening [] some along opening = absurd (some refl)
  status_opening (top ∷ rest) some along opening =
      reached_opening (record w { todo = []; stage = Status; tried = top ∷ rest })
      (asked top.path (Read (0x158 + 0x20 * top.port))) opening
      (λ at enters. read_opening _ at (0x158 + 0x20 * top.port) (go at enters
      (eqb (answered (old at.node) at.port (Read (0x158 + 0x20 * top.port))).answer.value 2) refl))
    where
      go : (at : PortRef) → entered w.view top.path ≡ Some at → (b : Bool)
          → eqb (answered (old at.node) at.port (Read (0x158 + 0x20 * top.port))).answer.value 2
          ≡ b
          → IsOpening (if b
          then outward (record w { todo = []; stage = Status; tried = top ∷ rest }) (top ∷ rest)
          else gone_on (record w { todo = []; stage = Status; tried = top ∷ rest }) (top ∷ rest))
          old
      go at enters true two =
          let next = is_linked w.view old old proper shown (λ node. same_device (old node)) top.path
          at enters top.port
          (eqb-true (answered (old at.node) at.port
          (Read (0x158 + 0x20 * top.port))).answer.value 2 two) in
          status_told top rest along at enters
          (proper.ports (port_at at.node top.port) next.0 next.1).port opening.stands
      go at enters false other =
          gone_opening (record w { todo = []; stage = Status; tried = top ∷ rest }) old (top ∷ rest)
          (nested w.view w.devices (top ∷ rest) along.chained) tt opening.stands

  -- the last device is freed
  free_opening : IsLeaving w.view w.devices w.id old → AreBehindHost w.devices → (at : PortRef)
      → IsOpening (freeing (between Free) (but_last w.devices))
      (after_access old at (Write 0x68 w.id))
  free_opening leaving behind at =
      freeing_opening (between Free) (after_access old at (Write 0x68 w.id)) (but_last w.devices)
      proper fits (behind-but_last w.devices behind)
      (fits_after w.view old at (Write 0x68 w.id) shown)
      (λ some. (
        tree-but_last w.view w.devices (λ none. some (ap but_last none)) leaving.tree,
        λ front rest port end listed more enters.
            (lock_sends w.view w.id old at w.id end.node).1
            ∙ leaving.home front rest port end
            (paths-but_last w.devices (front ++ port ∷ rest) listed) more enters,
        lock_base old at w.id w.view.host ∙ leaving.base,
      ))

  stage_opening : (stage : Stage) → (stage ≡ Features → w.next ≤ 65) → IsGuided (between stage)
      → IsLed (between stage) → IsComing (between stage) old → IsOpening (between stage) old
      → After (between stage)
  stage_opening Ask few guided led coming opening =
      reached_opening (between Ask) (asked w.path (Read 0x68)) opening
      (λ at enters. read_opening _ at 0x68
      (go at (eqb (answered (old at.node) at.port (Read 0x68)).answer.value w.id)))
    where
      go : (at : PortRef) (b : Bool) → IsOpening (if b then between Test
          else judged (between Ask) (answered (old at.node) at.port (Read 0x68)).answer.value) old
      go at true = record { writes = tt; stands = opening.stands }
      go at false =
          judged_opening Ask (answered (old at.node) at.port (Read 0x68)).answer.value
          (asked_so coming) guided.1 opening.stands
  stage_opening Claim few guided led coming opening =
      reached_opening (between Claim) (asked w.path (Write 0x68 w.id)) opening
      (λ at enters. record {
        writes = tt;
        stands = way-sends w.view w.id w.devices old (after_access old at (Write 0x68 w.id)) w.path
            (lock_sends w.view w.id old at w.id) opening.stands;
      })
  stage_opening Check few guided led coming opening =
      reached_opening (between Check) (asked w.path (Read 0x68)) opening
      (λ at enters. read_opening _ at 0x68
      (subst (λ n. IsOpening (told_at (between Check) n Check) old)
      (sym (lock_told (old at.node) at.port)) (go at enters (eqb (old at.node).lock w.id) refl)))
    where
      go : (at : PortRef) → entered w.view w.path ≡ Some at → (b : Bool)
          → eqb (old at.node).lock w.id ≡ b
          → IsOpening (if b then taken (between Check)
          else judged (between Check) (old at.node).lock) old
      go at enters true own = taken_opening w old w.path Check opening.stands
      go at enters false other =
          judged_opening Check (old at.node).lock
          (checked_so coming at enters (eqb-false (old at.node).lock w.id other)) guided.1
          opening.stands
  stage_opening Test few guided led coming opening =
      reached_opening (between Test) (asked w.path (Read 0x6c)) opening
      (λ at enters. read_opening _ at 0x6c
      (go (eqb (answered (old at.node) at.port (Read 0x6c)).answer.value 0)))
    where
      go : (b : Bool) → IsOpening (if b then taken (between Test)
          else gone_on (between Test) w.tried) old
      go true = taken_opening w old w.path Test opening.stands
      go false = tested coming opening.stands
  stage_opening Features few guided led coming opening =
      reached_opening (between Features) (asked w.path (Read 0x10)) opening
      (λ at enters. read_opening _ at 0x10 (go at enters
      (eqb ((answered (old at.node) at.port (Read 0x10)).answer.value / 0x10000000 % 2) 1)))
    where
      go : (at : PortRef) → entered w.view w.path ≡ Some at → (b : Bool)
          → IsOpening (if b then between Information else numbered (between Features) w.path) old
      go at enters true = record { writes = tt; stands = opening.stands }
      go at enters false =
          features_told w.path refl (λ none. guided.3 none refl) (few refl) coming guided.1
          opening.stands at enters
  stage_opening Information few guided led coming opening =
      reached_opening (between Information) (asked w.path (Read 0x14)) opening
      (λ at enters. read_opening _ at 0x14
      (information_told _ _ coming at enters opening.stands))
  stage_opening Status few guided led (inl over) opening = absurd over
  stage_opening Status few guided led (inr (inl starting)) opening = absurd starting.knows
  stage_opening Status few guided led (inr (inr along)) opening =
      status_opening w.tried led.1 along opening
  stage_opening Free few guided led coming opening =
      reached_opening (between Free) (asked (last_path w.devices) (Write 0x68 w.id)) opening
      (λ at enters. free_opening opening.stands guided.1 at)
  stage_opening Done few guided led coming opening = opening
  stage_opening Lost few guided led coming opening = opening

-- ---- a write

write_opening : (w : Walker) (p : PendingWrite) (old : AllRegisters) (at : PortRef)
    → entered w.view p.path ≡ Some at → (rest : List PendingWrite) (stage : Stage) (path : List ℕ)
    → IsOpening (record w { todo = p ∷ rest; stage = stage; path = path }) old
    → IsOpening (settled (record w { todo = p ∷ rest; stage = stage; path = path }) rest stage path)
    (after_access old at (Write p.offset p.value))
write_opening w p old at enters = go
  where
    one : (rest : List PendingWrite) (stage : Stage) (path : List ℕ)
        → IsOpening (record w { todo = p ∷ rest; stage = stage; path = path }) old
        → IsOpening (record w { todo = rest; stage = stage; path = path })
        (after_access old at (Write p.offset p.value))
    one rest stage path opening = record {
      writes = subst (λ o. AreOpen w.view w.devices w.id (one_performed old p o) rest) enters
          opening.writes.1;
      stands = subst (λ o. IsOpenAt w.view w.devices w.id path w.tried
          (performed w.view (one_performed old p o) rest) stage) enters opening.stands;
    }

    go : (rest : List PendingWrite) (stage : Stage) (path : List ℕ)
        → IsOpening (record w { todo = p ∷ rest; stage = stage; path = path }) old
        → IsOpening (settled (record w { todo = p ∷ rest; stage = stage; path = path }) rest stage
        path) (after_access old at (Write p.offset p.value))
    go (q ∷ rest) stage path opening = one (q ∷ rest) stage path opening
    go [] Ask path opening = one [] Ask path opening
    go [] Claim path opening = one [] Claim path opening
    go [] Check path opening = one [] Check path opening
    go [] Test path opening = one [] Test path opening
    go [] Features [] opening =
        host_opening w (after_access old at (Write p.offset p.value)) Features
    go [] Features (x ∷ path) opening = one [] Features (x ∷ path) opening
    go [] Information path opening = one [] Information path opening
    go [] Status path opening = one [] Status path opening
    go [] Free path opening = one [] Free path opening
    go [] Done path opening = one [] Done path opening
    go [] Lost path opening = one [] Lost path opening

-- one access
pub step_opening : (w : Walker) (old : AllRegisters) → w.id < 0xff → IsTopology w.view
    → Fits w.view old → (w.stage ≡ Features → w.next ≤ 65) → IsGuided w → IsLed w
    → IsComing w old → IsOpening w old
    → IsOpening (stepped w old).walker (stepped w old).registers
step_opening w old fits proper shown few guided led coming opening =
    go w.todo w.stage w.path few guided led coming opening
  where
    go : (todo : List PendingWrite) (stage : Stage) (path : List ℕ)
        → (stage ≡ Features → w.next ≤ 65)
        → IsGuided (record w { todo = todo; stage = stage; path = path })
        → IsLed (record w { todo = todo; stage = stage; path = path })
        → IsComing (record w { todo = todo; stage = stage; path = path }) old
        → IsOpening (record w { todo = todo; stage = stage; path = path }) old
        → IsOpening (stepped (record w { todo = todo; stage = stage; path = path }) old).walker
        (stepped (record w { todo = todo; stage = stage; path = path }) old).registers
    go [] stage path few guided led coming opening =
        stage_opening (record w { path = path }) old fits proper shown stage few guided led coming
        opening
    go (p ∷ rest) stage path few guided led coming opening =
        reached_opening w old fits proper shown
        (record w { todo = p ∷ rest; stage = stage; path = path })
        (asked p.path (Write p.offset p.value)) opening
        (λ at enters. write_opening w p old at enters rest stage path opening)
