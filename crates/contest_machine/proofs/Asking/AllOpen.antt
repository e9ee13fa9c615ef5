-- After all turns the path of the next access is open, and the access is carried.
use Rattle.contest_machine.proofs.Prelude.{◌≡◌, ◌≢◌, ℕ, ◌+◌, ◌*◌, ◌≤◌, length, Bool, true, false, List, [], ◌∷◌, ◌++◌, Some, None, Contains, arith, ◌⊎◌, inl, inr, subst, sym, refl, ap, ◌∙◌, if◌then◌else◌, Contains-append_left, Contains-append_cases, same_Some, PortRef, Registers, next_port, Device, Topology, IsTopology, entered, AllRegisters, paths_of, IsOpened, node_at-entered, Read, Write, AreOwnUntagged, Side, A, B, Asked, PendingWrite, Tried, Stage, Ask, Claim, Check, Test, Features, Information, Status, Free, Done, Lost, Walker, State, fresh, kept, asked, last_path, status_asked, wants_at, wants_with, wants, stepped, Keeps, AreOwnWrites, IsMine, IsContest, IsNew, is_locking, locked_on, walker_turned, Both, turn_of, after_turns, AreBegun, walker_of, state_of, WantsBehind, IsCarried, PathsAreOpened, AccessesAreCarried}
use Rattle.contest_machine.proofs.Keeping.Apart.{swap, turn_leaves_kept}
use Rattle.contest_machine.proofs.Keeping.Lists.{Leads}
use Rattle.contest_machine.proofs.Numbering.OnWay.{performed}
use Rattle.contest_machine.proofs.Numbering.Performing.{performed-agree}
use Rattle.contest_machine.proofs.Numbering.Whole.{IsSound, IsReady, ReadyFor, few_next, step_sound, sound_later, sound_first, turn_ready, begun_ready}
use Rattle.contest_machine.proofs.Asking.AllAsked.{ready_carried, turn_guided, new_guided}
use Rattle.contest_machine.proofs.Asking.Answering.{carried, open_after_write}
use Rattle.contest_machine.proofs.Asking.Guided.{AreOutside, IsPast, IsGuided, step_guided}
use Rattle.contest_machine.proofs.Asking.Hosted.{host_stays}
use Rattle.contest_machine.proofs.Asking.OpenWays.{IsWay, AreOpen, way-empty, way-stays, open-stays}
use Rattle.contest_machine.proofs.Asking.Trees.{last_listed, tree_others}
use Rattle.contest_machine.proofs.Asking.Opened.{IsLeaving, IsOpenTop, IsOpenAt, IsOpening}
use Rattle.contest_machine.proofs.Asking.StepsOpen.{step_opening}

-- ---- the other's turn

module _ (view : Topology) (devices : List Device) (id : ℕ) (old new : AllRegisters)
    (same : (node : ℕ) → Leads view (paths_of devices) node → new node ≡ old node) where
  way_stays : (path : List ℕ) → IsWay view devices id old path → IsWay view devices id new path
  way_stays path way = way-stays view id devices old new path same way

  stands_stay : (path : List ℕ) (tried : List Tried) (stage : Stage)
      → IsOpenAt view devices id path tried old stage
      → IsOpenAt view devices id path tried new stage
  stands_stay path tried Ask way = way_stays path way
  stands_stay path tried Claim way = way_stays path way
  stands_stay path tried Check way = way_stays path way
  stands_stay path tried Test way = way_stays path way
  stands_stay path tried Features way = way_stays path way
  stands_stay path tried Information way = way_stays path way
  stands_stay path [] Status way = tt
  stands_stay path (top ∷ rest) Status way = way_stays top.path way
  stands_stay path tried Free leaving = record {
    tree = leaving.tree;
    host = leaving.host;
    home = λ front rest port at listed some leads.
        ap (λ d. next_port d id) (same at.node (
          front,
          leaving.tree.fronts front (port ∷ rest) listed,
          node_at-entered view front at leads,
        ))
        ∙ leaving.home front rest port at listed some leads;
    base = ap (λ (d : Registers). d.base_id) (same view.host ([], leaving.host, refl))
        ∙ leaving.base;
    way = way_stays (last_path devices) leaving.way;
  }
  stands_stay path tried Done way = tt
  stands_stay path tried Lost way = tt

-- what a walker keeps stays
opening_stays : (w : Walker) (old new : AllRegisters) → IsMine w old
    → ((node : ℕ) → Keeps w node → new node ≡ old node) → IsOpening w old → IsOpening w new
opening_stays w old new mine same opening = record {
  writes = open-stays w.view w.id w.devices (kept w) old new w.todo mine.own on same
      opening.writes;
  stands = stands_stay w.view w.devices w.id (performed w.view old w.todo)
      (performed w.view new w.todo)
      (λ node leads. performed-agree w.view (kept w) w.todo old new mine.own same node
      (same node (leads.0, on leads.0 leads.1, leads.2))) w.path w.tried w.stage opening.stands;
}
  where
    on : (one : List ℕ) → Contains (paths_of w.devices) one → Contains (kept w) one
    on one listed = Contains-append_left (paths_of w.devices) _ one listed

their_opening : (w : Walker) (before old : AllRegisters) (o : Walker) → IsContest w o before old
    → IsOpening w old → IsOpening w (walker_turned o old).registers
their_opening w before old o contest opening =
    opening_stays w old (walker_turned o old).registers contest.first
    (turn_leaves_kept w before old o (swap w o before old contest)) opening

-- ---- the walker's own turn

module _ (before : AllRegisters) (o : Walker) where
  abbrev IsGoing : State → Type 0
  IsGoing state = IsSound before o state × IsGuided state.walker
      × IsOpening state.walker state.registers

  step_going : (state : State) → IsGoing state
      → IsGoing (stepped state.walker state.registers)
  step_going state going =
      let w = state.walker in
      let old = state.registers in
      let fair = going.0.fair in (
        step_sound before o state going.0,
        step_guided w old going.1,
        step_opening w old fair.contest.first_id fair.first.within.proper going.0.shown
            (few_next w old fair.first.within fair.contest.first) going.1 fair.first.led
            going.0.coming going.2,
      )

  locked_going : (state : State) → IsGoing state → IsGoing (locked_on state)
  locked_going state going = go (is_locking state.walker.stage)
    where
      go : (b : Bool) → IsGoing (if b then stepped state.walker state.registers else state)
      go true = step_going state going
      go false = going

module _ (before : AllRegisters) (w o : Walker) (old : AllRegisters)
    (ready : IsReady before w o old)
    (guided : IsGuided w) (opening : IsOpening w old) where
  own_opening : IsOpening (walker_turned w old).walker (walker_turned w old).registers
  own_opening = go w.begun refl
    where
      go : (b : Bool) → w.begun ≡ b
          → IsOpening (if b then stepped w old
          else locked_on (locked_on (stepped (record w { begun = true }) old))).walker
          (if b then stepped w old
          else locked_on (locked_on (stepped (record w { begun = true }) old))).registers
      go true is =
          (step_going before o (state_of w old)
          (sound_later before w o old ready is, guided, opening)).2
      go false is =
          (locked_going before o (locked_on (stepped (record w { begun = true }) old))
          (locked_going before o (stepped (record w { begun = true }) old)
          (step_going before o (state_of (record w { begun = true }) old) (
            sound_first before w o old ready is,
            guided,
            record { writes = opening.writes; stands = opening.stands },
          )))).2

-- ---- all turns

abbrev pub IsOpeningFor : AllRegisters → Both → Side → Type 0
IsOpeningFor before both side = ReadyFor before both side × IsGuided (walker_of both side)
    × IsOpening (walker_of both side) both.registers

pub turn_opening : (before : AllRegisters) (both : Both) (side turn : Side)
    → ReadyFor before both side
    → IsGuided (walker_of both side) → IsOpening (walker_of both side) both.registers
    → IsOpening (walker_of (turn_of both turn) side) (turn_of both turn).registers
turn_opening before both A A ready guided opening =
    own_opening before both.first both.second both.registers ready guided opening
turn_opening before both A B ready guided opening =
    their_opening both.first before both.registers both.second ready.fair.contest opening
turn_opening before both B A ready guided opening =
    their_opening both.second before both.registers both.first ready.fair.contest opening
turn_opening before both B B ready guided opening =
    own_opening before both.second both.first both.registers ready guided opening

turns_opening : (before : AllRegisters) (both : Both) (side : Side) (turns : List Side)
    → IsOpeningFor before both side → IsOpeningFor before (after_turns both turns) side
turns_opening before both side [] holds = holds
turns_opening before both side (turn ∷ turns) holds =
    turns_opening before (turn_of both turn) side turns (
      turn_ready before both side turn holds.0,
      turn_guided both side turn holds.1,
      turn_opening before both side turn holds.0 holds.1 holds.2,
    )

pub new_opening : (w : Walker) (now : AllRegisters) → IsNew w → IsOpening w now
new_opening w now new = record {
  writes = subst (AreOpen w.view w.devices w.id now) (sym new.todo) tt;
  stands = subst (λ stage. IsOpenAt w.view w.devices w.id w.path w.tried
      (performed w.view now w.todo) stage) (sym new.stage)
      (subst (IsWay w.view w.devices w.id (performed w.view now w.todo)) (sym new.path)
      (way-empty w.view w.id w.devices (performed w.view now w.todo)));
}

pub turns_open : (both : Both) (turns : List Side) (side : Side) → AreBegun both
    → AreOwnUntagged (walker_of both side).view both.registers (walker_of both side).id
    → IsOpeningFor both.registers (after_turns both turns) side
turns_open both turns side begun untagged =
    turns_opening both.registers both side turns (
      begun_ready both side begun untagged,
      new_guided (walker_of both side) (begun.new side),
      new_opening (walker_of both side) both.registers (begun.new side),
    )

-- ---- what is asked

module _ (w : Walker) (now : AllRegisters) (opening : IsOpening w now) where
  one_opened : (one ask : Asked) → Some one ≡ Some ask → IsOpened w.view now w.id one.path
      → IsOpened w.view now w.id ask.path
  one_opened one ask same opened =
      subst (λ (a : Asked). IsOpened w.view now w.id a.path) (same_Some one ask same) opened

  nothing : (ask : Asked) → None ≡ Some ask → IsOpened w.view now w.id ask.path
  nothing ask none = absurd (cc)

  stage_asked : (stage : Stage) → IsOpenAt w.view w.devices w.id w.path w.tried now stage
      → (ask : Asked) → wants_at w stage ≡ Some ask → IsOpened w.view now w.id ask.path
  stage_asked Ask way ask wanted = one_opened (asked w.path (Read 0x68)) ask wanted way.opened
  stage_asked Claim way ask wanted =
      one_opened (asked w.path (Write 0x68 w.id)) ask wanted way.opened
  stage_asked Check way ask wanted = one_opened (asked w.path (Read 0x68)) ask wanted way.opened
  stage_asked Test way ask wanted = one_opened (asked w.path (Read 0x6c)) ask wanted way.opened
  stage_asked Features way ask wanted = one_opened (asked w.path (Read 0x10)) ask wanted way.opened
  stage_asked Information way ask wanted =
      one_opened (asked w.path (Read 0x14)) ask wanted way.opened
  stage_asked Status way ask wanted = top w.tried way wanted
    where
      top : (tried : List Tried) → IsOpenTop w.view w.devices w.id now tried
          → status_asked tried ≡ Some ask → IsOpened w.view now w.id ask.path
      top [] way none = nothing ask none
      top (first ∷ rest) way some =
          one_opened (asked first.path (Read (0x158 + 0x20 * first.port))) ask some way.opened
  stage_asked Free leaving ask wanted =
      one_opened (asked (last_path w.devices) (Write 0x68 w.id)) ask wanted leaving.way.opened
  stage_asked Done way ask wanted = nothing ask wanted
  stage_asked Lost way ask wanted = nothing ask wanted

  pub asked_opened : (ask : Asked) → wants w ≡ Some ask → IsOpened w.view now w.id ask.path
  asked_opened ask wanted = go w.todo opening.writes opening.stands wanted
    where
      go : (todo : List PendingWrite) → AreOpen w.view w.devices w.id now todo
          → IsOpenAt w.view w.devices w.id w.path w.tried (performed w.view now todo) w.stage
          → wants_with w todo ≡ Some ask → IsOpened w.view now w.id ask.path
      go [] writes stands wanted = stage_asked w.stage stands ask wanted
      go (p ∷ rest) writes stands wanted =
          one_opened (asked p.path (Write p.offset p.value)) ask wanted writes.0.opened

-- ---- what a walker asks that gives up

module _ (w : Walker) (now : AllRegisters) (proper : IsTopology w.view) (mine : IsMine w now)
    (guided : IsGuided w) (opening : IsOpening w now) (is : w.stage ≡ Free) where
  leaving : IsLeaving w.view w.devices w.id (performed w.view now w.todo)
  leaving = subst (λ s. IsOpenAt w.view w.devices w.id w.path w.tried
      (performed w.view now w.todo) s) is opening.stands

  kept_listed : (path : List ℕ) → Contains (kept w) path → Contains (paths_of w.devices) path
  kept_listed path found =
      go (Contains-append_cases (paths_of w.devices) [] path
      (subst (λ s. Contains (paths_of w.devices ++ fresh s w.path) path) is found))
    where
      go : Contains (paths_of w.devices) path ⊎ Contains [] path
          → Contains (paths_of w.devices) path
      go (inl listed) = listed
      go (inr none) = absurd (omega (arith, none.1))

  some_kept : w.devices ≢ []
  some_kept none =
      let found = subst (λ l. Contains (paths_of l) []) none leaving.host in
      omega (arith, found.1)

  other : (path : List ℕ) (at : PortRef) → Contains (paths_of w.devices) path
      → entered w.view path ≡ Some at → path ≢ [] → at.node ≢ w.view.host
  other path at listed leads some same =
      some (leaving.tree.once path [] listed leaving.host
      (node_at-entered w.view path at leads ∙ ap (λ n. Some n) same))

  base : (now w.view.host).base_id ≡ w.id
  base =
      ap (λ (d : Registers). d.base_id)
      (sym (host_stays w.view (kept w) w.todo now
      (λ path at found leads some. other path at (kept_listed path found) leads some) mine.own
      (outside guided.2 guided.4)))
      ∙ leaving.base
    where
      outside : (w.path ≡ []) ⊎ AreOutside w.todo → IsPast w.devices w.path → AreOutside w.todo
      outside (inr all) past = all
      outside (inl empty) (inr some) = absurd (some empty)
      outside (inl empty) (inl none) = absurd (some_kept none)

  abbrev Carries : Asked → Type 0
  Carries ask = (at : PortRef) → ask.path ≢ [] → entered w.view ask.path ≡ Some at
      → IsOpened w.view now w.id ask.path → IsCarried w now ask at

  write_carried : (path : List ℕ) (offset value : ℕ) → Contains (paths_of w.devices) path
      → Carries (asked path (Write offset value))
  write_carried path offset value listed at some leads opened =
      carried w.view now w.id path at (Write offset value) proper base opened
      (open_after_write w.view now w.id path at offset value
      (tree_others w.view w.devices path at leaving.tree listed leads) opened)
      leads (other path at listed leads some) some (leaving.tree.short path listed)

  leaving_carried : (ask : Asked) → wants w ≡ Some ask → Carries ask
  leaving_carried ask wanted = go w.todo mine.own wanted
    where
      go : (todo : List PendingWrite) → AreOwnWrites (kept w) todo → wants_with w todo ≡ Some ask
          → Carries ask
      go [] own wanted =
          subst Carries (same_Some (asked (last_path w.devices) (Write 0x68 w.id)) ask
          (subst (λ s. wants_at w s ≡ Some ask) is wanted))
          (write_carried (last_path w.devices) 0x68 w.id (last_listed w.devices some_kept))
      go (p ∷ rest) own wanted =
          subst Carries (same_Some (asked p.path (Write p.offset p.value)) ask wanted)
          (write_carried p.path p.offset p.value (kept_listed p.path own.0.0))

  pub leaving_short : (ask : Asked) → wants w ≡ Some ask → length ask.path ≤ 64
  leaving_short ask wanted = go w.todo mine.own wanted
    where
      go : (todo : List PendingWrite) → AreOwnWrites (kept w) todo → wants_with w todo ≡ Some ask
          → length ask.path ≤ 64
      go [] own wanted =
          subst (λ (a : Asked). length a.path ≤ 64)
          (same_Some (asked (last_path w.devices) (Write 0x68 w.id)) ask
          (subst (λ s. wants_at w s ≡ Some ask) is wanted))
          (leaving.tree.short (last_path w.devices) (last_listed w.devices some_kept))
      go (p ∷ rest) own wanted =
          subst (λ (a : Asked). length a.path ≤ 64)
          (same_Some (asked p.path (Write p.offset p.value)) ask wanted)
          (leaving.tree.short p.path (kept_listed p.path own.0.0))

-- ---- the laws

pub free_or_not : (stage : Stage) → (stage ≡ Free) ⊎ (stage ≢ Free)
free_or_not Free = inl refl
free_or_not _ = inr (λ e. cc)

pub wanted_carried : (before : AllRegisters) (w o : Walker) (now : AllRegisters) (ask : Asked)
    (at : PortRef) → IsReady before w o now → IsGuided w → IsOpening w now → WantsBehind w ask at
    → IsCarried w now ask at
wanted_carried before w o now ask at ready guided opening asks = go (free_or_not w.stage)
  where
    opened : IsOpened w.view now w.id ask.path
    opened = asked_opened w now opening ask asks.wanted

    go : (w.stage ≡ Free) ⊎ (w.stage ≢ Free) → IsCarried w now ask at
    go (inl is) =
        leaving_carried w now ready.fair.first.within.proper ready.fair.contest.first guided
        opening is ask asks.wanted at asks.some asks.leads opened
    go (inr on) = ready_carried before w o now ask at ready guided (record {
      wanted = asks.wanted;
      keeps_on = on;
      some = asks.some;
      leads = asks.leads;
      opened = opened;
    })

carried_side : (before : AllRegisters) (both : Both) (side : Side) (ask : Asked) (at : PortRef)
    → IsOpeningFor before both side → WantsBehind (walker_of both side) ask at
    → IsCarried (walker_of both side) both.registers ask at
carried_side before both A ask at holds asks =
    wanted_carried before both.first both.second both.registers ask at holds.0 holds.1 holds.2 asks
carried_side before both B ask at holds asks =
    wanted_carried before both.second both.first both.registers ask at holds.0 holds.1 holds.2 asks

pub paths_are_opened : PathsAreOpened
paths_are_opened both turns side ask begun untagged wanted =
    asked_opened (walker_of (after_turns both turns) side) (after_turns both turns).registers
    (turns_open both turns side begun untagged).2 ask wanted

pub accesses_are_carried : AccessesAreCarried
accesses_are_carried both turns side ask at begun untagged asks =
    carried_side both.registers (after_turns both turns) side ask at
    (turns_open both turns side begun untagged) asks
