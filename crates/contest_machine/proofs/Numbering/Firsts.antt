-- A walker that has not taken in its host yet, and one that is over, after an access.
use Rattle.contest_machine.proofs.Prelude.{◌≡◌, ◌≢◌, ℕ, ◌≤◌, ◌<◌, nat_lt, Bool, true, false, eqb, List, [], ◌∷◌, Option, Some, None, ◌⊎◌, inl, inr, subst, sym, refl, ap, ◌∙◌, if◌then◌else◌, cases_eq, eqb-true, eqb-false, PortRef, port_at, Registers, Topology, IsTopology, along, entered, AllRegisters, Fits, Write, answered, after_access, IsTakable, PendingWrite, Stage, Ask, Claim, Check, Test, Features, Information, Status, Free, Done, Lost, Walker, gone_on, taken, IsMine, with_device-other, AreOwnUntagged, Asked, asked, last_path, but_last, freeing, judged, settled, walker_told, told_at, reached, stepped}
use Rattle.contest_machine.proofs.Numbering.OnWay.{IsOnWay}
use Rattle.contest_machine.proofs.Keeping.Reading.{lock_told, tag_told}
use Rattle.contest_machine.proofs.Keeping.Frame.{IsTurn, unchanged}
use Rattle.contest_machine.proofs.Turns.Led.{IsLed}
use Rattle.contest_machine.proofs.Numbering.OnWays.{theirs_on_way, write_on_way}
use Rattle.contest_machine.proofs.Numbering.Begins.{starter, AreOthersUntagged, StartKnows, IsStarting, start_way, host_along}
use Rattle.contest_machine.proofs.Numbering.Sound.{fits_after}
use Rattle.contest_machine.proofs.Numbering.Coming.{IsOver, IsComing, freeing_over, reached_coming, read_coming, step_along}

-- ---- a walker that is over

over_at : (w : Walker) (old : AllRegisters) (o : Option PortRef) (ask : Asked)
    → IsOver w.stage
    → ((at : PortRef) → IsOver (walker_told w
    (answered (old at.node) at.port ask.access).answer.value).stage)
    → IsOver (reached w old ask o).walker.stage
over_at w old None ask over some = over
over_at w old (Some at) ask over some = some at

settled_over : (w : Walker) (rest : List PendingWrite) (stage : Stage) (path : List ℕ)
    → IsOver stage
    → IsOver (settled (record w { stage = stage }) rest stage path).stage
settled_over w [] Free path over = tt
settled_over w [] Lost path over = tt
settled_over w (q ∷ rest) Free path over = tt
settled_over w (q ∷ rest) Lost path over = tt
settled_over w rest Ask path over = absurd over
settled_over w rest Claim path over = absurd over
settled_over w rest Check path over = absurd over
settled_over w rest Test path over = absurd over
settled_over w rest Features path over = absurd over
settled_over w rest Information path over = absurd over
settled_over w rest Status path over = absurd over
settled_over w rest Done path over = absurd over

step_over : (w : Walker) (old : AllRegisters) → IsOver w.stage → IsOver (stepped w old).walker.stage
step_over w old over = go w.todo w.stage over
  where
    stages : (stage : Stage) → IsOver stage
        → IsOver (stepped (record w { todo = []; stage = stage }) old).walker.stage
    stages Free over =
        over_at (record w { todo = []; stage = Free }) old (entered w.view (last_path w.devices))
        (asked (last_path w.devices) (Write 0x68 w.id)) tt
        (λ at. freeing_over (record w { todo = []; stage = Free }) (but_last w.devices))
    stages Lost over = tt
    stages Ask over = absurd over
    stages Claim over = absurd over
    stages Check over = absurd over
    stages Test over = absurd over
    stages Features over = absurd over
    stages Information over = absurd over
    stages Status over = absurd over
    stages Done over = absurd over

    go : (todo : List PendingWrite) (stage : Stage) → IsOver stage
        → IsOver (stepped (record w { todo = todo; stage = stage }) old).walker.stage
    go [] stage over = stages stage over
    go (p ∷ rest) stage over =
        over_at (record w { todo = p ∷ rest; stage = stage }) old (entered w.view p.path)
        (asked p.path (Write p.offset p.value)) over
        (λ at. settled_over (record w { todo = p ∷ rest }) rest stage w.path over)

-- ---- a walker that has its host to take in

module _ (view : Topology) (id : ℕ) (begun : Bool) (old : AllRegisters) (fits : id < 0xff)
    (proper : IsTopology view) (shown : Fits view old) where
  abbrev first : Stage → Walker
  first stage = starter view id begun stage []

  abbrev at : PortRef
  at = port_at view.host 0

  starts : (stage : Stage) (todo : List PendingWrite)
      → StartKnows (starter view id begun stage todo) old stage
      → IsComing (starter view id begun stage todo) old
  starts stage todo knows = inr (inl (record { is = refl; knows = knows }))

  judged_first : (stage : Stage) → (old view.host).lock ≢ id → AreOthersUntagged view old id
      → IsComing (judged (first stage) (old view.host).lock) old
  judged_first stage other untagged =
      go (eqb (old view.host).lock 0xffff) (nat_lt id (old view.host).lock)
    where
      whole : AreOwnUntagged view old id
      whole node inside own = here (cases_eq node view.host)
        where
          here : (node ≡ view.host) ⊎ (node ≢ view.host) → (old node).tag ≡ 0
          here (inl same) = absurd (other (ap (λ n. (old n).lock) (sym same) ∙ own))
          here (inr apart) = untagged node inside apart own

      go : (b c : Bool) → IsComing (if b then first Claim
          else (if c then freeing (first stage) [] else first Ask)) old
      go true c = starts Claim [] (refl, whole)
      go false true = inl tt
      go false false = starts Ask [] (refl, whole)

  but_host : AreOwnUntagged view old id → AreOthersUntagged view old id
  but_host untagged node inside apart own = untagged node inside own

  ask_first : AreOwnUntagged view old id
      → IsComing (told_at (first Ask) (old view.host).lock Ask) old
  ask_first untagged = go (eqb (old view.host).lock id) refl
    where
      go : (b : Bool) → eqb (old view.host).lock id ≡ b
          → IsComing (if b then first Test else judged (first Ask) (old view.host).lock) old
      go true own = starts Test [] (refl, untagged)
      go false other =
          judged_first Ask (eqb-false (old view.host).lock id other) (but_host untagged)

  taken_first : (stage : Stage) (lock : ℕ)
      → IsTakable id (record (old view.host) { base_id = id; lock = lock })
      → (old view.host).lock ≡ id → AreOthersUntagged view old id
      → IsComing (taken (first stage)) old
  taken_first stage lock takable held untagged =
      starts Features (taken (first stage)).todo
      (start_way view id begun old proper shown fits lock takable held untagged)

  check_first : AreOthersUntagged view old id
      → IsComing (told_at (first Check) (old view.host).lock Check) old
  check_first untagged = go (eqb (old view.host).lock id) refl
    where
      go : (b : Bool) → eqb (old view.host).lock id ≡ b
          → IsComing (if b then taken (first Check) else judged (first Check) (old view.host).lock)
          old
      go true own =
          taken_first Check 0xffff (inl refl) (eqb-true (old view.host).lock id own) untagged
      go false other = judged_first Check (eqb-false (old view.host).lock id other) untagged

  test_first : AreOwnUntagged view old id → (old view.host).lock ≡ id
      → IsComing (told_at (first Test) (old view.host).tag Test) old
  test_first untagged held = go (eqb (old view.host).tag 0) refl
    where
      none : (old view.host).tag ≡ 0
      none = untagged view.host proper.host held

      go : (b : Bool) → eqb (old view.host).tag 0 ≡ b
          → IsComing (if b then taken (first Test) else gone_on (first Test) []) old
      go true is = taken_first Test id (inr (refl, none)) held (but_host untagged)
      go false some = absurd (eqb-false (old view.host).tag 0 some none)

  -- its ID is written to the lock
  claim_first : AreOwnUntagged view old id
      → IsComing (first Check) (after_access old (port_at view.host 0) (Write 0x68 id))
  claim_first untagged = inr (inl (record { is = refl; knows = (refl, others) }))
    where
      others : AreOthersUntagged view (after_access old (port_at view.host 0) (Write 0x68 id)) id
      others node inside apart own =
          let same = with_device-other old view.host node
          (answered (old view.host) 0 (Write 0x68 id)).device apart in
          ap (λ (d : Registers). d.tag) same
          ∙ untagged node inside (ap (λ (d : Registers). d.lock) (sym same) ∙ own)

  -- a write of its marks
  mark_first : (p : PendingWrite) (rest : List PendingWrite) (to : PortRef)
      → entered view p.path ≡ Some to
      → IsMine (starter view id begun Features (p ∷ rest)) old
      → IsOnWay (starter view id begun Features (p ∷ rest)) old
      → IsComing (settled (starter view id begun Features (p ∷ rest)) rest Features [])
      (after_access old to (Write p.offset p.value))
  mark_first p rest to enters mine way = go rest mine way
    where
      one : (rest : List PendingWrite) → IsMine (starter view id begun Features (p ∷ rest)) old
          → IsOnWay (starter view id begun Features (p ∷ rest)) old
          → IsOnWay (starter view id begun Features rest)
          (after_access old to (Write p.offset p.value))
      one rest mine way =
          write_on_way (starter view id begun Features []) p rest old to mine enters way

      go : (rest : List PendingWrite) → IsMine (starter view id begun Features (p ∷ rest)) old
          → IsOnWay (starter view id begun Features (p ∷ rest)) old
          → IsComing (settled (starter view id begun Features (p ∷ rest)) rest Features [])
          (after_access old to (Write p.offset p.value))
      go (q ∷ rest) mine way =
          inr (inl (record { is = refl; knows = one (q ∷ rest) mine way }))
      go [] mine way =
          inr (inr (host_along view id begun (after_access old to (Write p.offset p.value)) proper
          (fits_after view old to (Write p.offset p.value)
          shown) fits (one [] mine way)))

  step_first : (stage : Stage) (todo : List PendingWrite)
      → StartKnows (starter view id begun stage todo) old stage
      → IsMine (starter view id begun stage todo) old
      → IsLed (starter view id begun stage todo)
      → IsComing (stepped (starter view id begun stage todo) old).walker
      (stepped (starter view id begun stage todo) old).registers
  step_first Ask [] knows mine led =
      read_coming (first Ask) old fits proper shown _ (port_at view.host 0) 0x68
      (subst (λ n. IsComing (told_at (first Ask) n Ask) old)
      (sym (lock_told (old view.host) 0)) (ask_first knows.1))
  step_first Claim [] knows mine led = claim_first knows.1
  step_first Check [] knows mine led =
      read_coming (first Check) old fits proper shown _ (port_at view.host 0) 0x68
      (subst (λ n. IsComing (told_at (first Check) n Check) old)
      (sym (lock_told (old view.host) 0)) (check_first knows.1))
  step_first Test [] knows mine led =
      read_coming (first Test) old fits proper shown _ (port_at view.host 0) 0x6c
      (subst (λ n. IsComing (told_at (first Test) n Test) old)
      (sym (tag_told (old view.host) 0))
      (test_first knows.1 (mine.knows.1 view.host refl)))
  step_first Features [] knows mine led = absurd (led.1.1 refl refl)
  step_first Features (p ∷ rest) knows mine led =
      reached_coming (starter view id begun Features (p ∷ rest)) old fits proper shown
      (starter view id begun Features (p ∷ rest)) (asked p.path (Write p.offset p.value))
      (starts Features (p ∷ rest) knows)
      (λ to enters. mark_first p rest to enters mine knows)
  step_first Ask (p ∷ rest) knows mine led = absurd (let e = knows.0 in cc)
  step_first Claim (p ∷ rest) knows mine led = absurd (let e = knows.0 in cc)
  step_first Check (p ∷ rest) knows mine led = absurd (let e = knows.0 in cc)
  step_first Test (p ∷ rest) knows mine led = absurd (let e = knows.0 in cc)
  step_first Information todo knows mine led = absurd knows
  step_first Status todo knows mine led = absurd knows
  step_first Free todo knows mine led = absurd knows
  step_first Done todo knows mine led = absurd knows
  step_first Lost todo knows mine led = absurd knows

-- one access of a walker that has its host to take in
pub step_starting : (w : Walker) (old : AllRegisters) → w.id < 0xff → IsTopology w.view
    → Fits w.view old → IsMine w old → IsLed w → IsStarting w old
    → IsComing (stepped w old).walker (stepped w old).registers
step_starting w old fits proper shown mine led starting =
    go w.stage w.todo
    (subst (λ v. StartKnows v old v.stage) starting.is starting.knows)
    (subst (λ v. IsMine v old) starting.is mine) (subst IsLed starting.is led)
    (λ done. subst (λ v. IsComing (stepped v old).walker (stepped v old).registers)
    (sym starting.is) done)
  where
    go : (stage : Stage) (todo : List PendingWrite)
        → StartKnows (starter w.view w.id w.begun stage todo) old stage
        → IsMine (starter w.view w.id w.begun stage todo) old
        → IsLed (starter w.view w.id w.begun stage todo)
        → (IsComing (stepped (starter w.view w.id w.begun stage todo) old).walker
        (stepped (starter w.view w.id w.begun stage todo) old).registers
        → IsComing (stepped w old).walker (stepped w old).registers)
        → IsComing (stepped w old).walker (stepped w old).registers
    go stage todo knows mine led back =
        back (step_first w.view w.id w.begun old fits proper shown stage todo knows mine led)

pub step_coming : (w : Walker) (old : AllRegisters) → w.id < 0xff → IsTopology w.view
    → Fits w.view old → (w.stage ≡ Features → w.next ≤ 65) → IsMine w old → IsLed w
    → IsComing w old
    → IsComing (stepped w old).walker (stepped w old).registers
step_coming w old fits proper shown few mine led (inl over) = inl (step_over w old over)
step_coming w old fits proper shown few mine led (inr (inl starting)) =
    step_starting w old fits proper shown mine led starting
step_coming w old fits proper shown few mine led (inr (inr along)) =
    step_along w old fits proper shown few mine led along

-- ---- a turn of the other

module _ (w o after : Walker) (old new : AllRegisters) (turn : IsTurn o after old new)
    (theirs : IsMine o old) (mine : IsMine w old) (differ : o.id ≢ w.id) (fits : w.id < 0xff)
  where
    same_of : (node : ℕ) → (new node).lock ≡ w.id → new node ≡ old node
    same_of node held = unchanged o after old new turn theirs w.id differ fits node held

    pub untagged_stays : AreOwnUntagged w.view old w.id → AreOwnUntagged w.view new w.id
    untagged_stays untagged node inside held =
        let same = same_of node held in
        ap (λ (d : Registers). d.tag) same
        ∙ untagged node inside (ap (λ (d : Registers). d.lock) (sym same) ∙ held)

    others_stay : AreOthersUntagged w.view old w.id → AreOthersUntagged w.view new w.id
    others_stay untagged node inside apart held =
        let same = same_of node held in
        ap (λ (d : Registers). d.tag) same
        ∙ untagged node inside apart (ap (λ (d : Registers). d.lock) (sym same) ∙ held)

    starting_stays : IsStarting w old → IsStarting w new
    starting_stays starting = record { is = starting.is; knows = go w.stage starting.knows }
      where
        go : (stage : Stage) → StartKnows w old stage → StartKnows w new stage
        go Ask knows = (knows.0, untagged_stays knows.1)
        go Claim knows = (knows.0, untagged_stays knows.1)
        go Check knows = (knows.0, others_stay knows.1)
        go Test knows = (knows.0, untagged_stays knows.1)
        go Features knows = theirs_on_way w o after old new turn theirs mine differ fits knows
        go Information knows = knows
        go Status knows = knows
        go Free knows = knows
        go Done knows = knows
        go Lost knows = knows

    pub theirs_coming : IsComing w old → IsComing w new
    theirs_coming (inl over) = inl over
    theirs_coming (inr (inl starting)) = inr (inl (starting_stays starting))
    theirs_coming (inr (inr along)) = inr (inr (record {
      way = theirs_on_way w o after old new turn theirs mine differ fits along.way;
      host = along.host;
      chained = along.chained;
      here = along.here;
    }))
