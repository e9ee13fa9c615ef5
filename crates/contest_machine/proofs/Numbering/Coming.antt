-- Each access of a walker leaves it as far as it has come, or further.
use Rattle.contest_machine.proofs.Prelude.{◌≡◌, ◌≢◌, ℕ, ◌+◌, ◌*◌, ◌/◌, ◌%◌, ◌≤◌, ◌<◌, nat_lt, Bool, true, false, eqb, List, [], ◌∷◌, Option, Some, None, arith, ◌⊎◌, inl, inr, subst, sym, refl, ap, ◌∙◌, if◌then◌else◌, eqb-true, eqb-false, same_Some, PortRef, port_at, Registers, is_switch, Device, IsTopology, along, entered, AllRegisters, Fits, node_at-entered, Read, Write, answered, after_access, PendingWrite, Tried, Stage, Ask, Claim, Check, Test, Features, Information, Status, Free, Done, Lost, Walker, gone_on, taken, numbered, outward, IsMine, same_device, Asked, asked, last_path, but_last, freeing, judged, settled, walker_told, told_at, reached, stepped}
use Rattle.contest_machine.proofs.Keeping.Stepped.{at_stage}
use Rattle.contest_machine.proofs.Turns.Telling.{features_told}
use Rattle.contest_machine.proofs.Numbering.Along.{IsHereAt, IsAlong, not_empty, front_of, port_of, here_is}
use Rattle.contest_machine.proofs.Keeping.Reading.{read-same, lock_told, tag_told}
use Rattle.contest_machine.proofs.Turns.Telling.{is_linked}
use Rattle.contest_machine.proofs.Turns.Led.{IsLed}
use Rattle.contest_machine.proofs.Numbering.OnWays.{write_on_way}
use Rattle.contest_machine.proofs.Numbering.Begins.{IsStarting}
use Rattle.contest_machine.proofs.Numbering.Moving.{ask_along, claim_along, lost_along, won_along, own_along, met_along, information_along}
use Rattle.contest_machine.proofs.Numbering.Taking.{endpoint_along}
use Rattle.contest_machine.proofs.Numbering.Finding.{told_along, unlinked_along, outward_along}

-- it gives up what it keeps, or is lost
abbrev pub IsOver : Stage → Type 0
IsOver Ask = ⊥
IsOver Claim = ⊥
IsOver Check = ⊥
IsOver Test = ⊥
IsOver Features = ⊥
IsOver Information = ⊥
IsOver Status = ⊥
IsOver Free = Unit {0}
IsOver Done = ⊥
IsOver Lost = Unit {0}

abbrev pub IsComing : Walker → AllRegisters → Type 0
IsComing w now = IsOver w.stage ⊎ (IsStarting w now ⊎ IsAlong w now)

pub freeing_over : (w : Walker) (devices : List Device) → IsOver (freeing w devices).stage
freeing_over w [] = tt
freeing_over w (device ∷ rest) = tt

same_lock : (lock : ℕ) (o : Option PortRef) (p q : PortRef) → o ≡ Some p → o ≡ Some q → p ≡ q
same_lock lock o p q one two = same_Some p q (sym one ∙ two)

endpoint_told : (device : Registers) (port : ℕ)
    → eqb ((answered device port (Read 0x10)).answer.value / 0x10000000 % 2) 1 ≡ false
    → is_switch device ≡ false
endpoint_told device port bit = go (is_switch device) refl
  where
    go : (b : Bool) → is_switch device ≡ b → is_switch device ≡ false
    go false is = is
    go true is =
        let value : (answered device port (Read 0x10)).answer.value ≡ 0x10000118 =
        features_told device port ∙ ap (λ b. if b then 0x10000118 else 0x18) is in
        absurd (eqb-false ((answered device port (Read 0x10)).answer.value / 0x10000000 % 2) 1 bit
        (ap (λ n. n / 0x10000000 % 2) value))

module _ (w : Walker) (old : AllRegisters) (fits : w.id < 0xff) (proper : IsTopology w.view)
    (shown : Fits w.view old) where
  abbrev between : Stage → Walker
  between stage = record w { todo = []; stage = stage }

  abbrev After : Walker → Type 0
  After w0 = IsComing (stepped w0 old).walker (stepped w0 old).registers

  pub reached_coming : (w0 : Walker) (ask : Asked) → IsComing w0 old
      → ((at : PortRef) → entered w0.view ask.path ≡ Some at
      → IsComing (walker_told w0 (answered (old at.node) at.port ask.access).answer.value)
      (after_access old at ask.access))
      → IsComing (reached w0 old ask (entered w0.view ask.path)).walker
      (reached w0 old ask (entered w0.view ask.path)).registers
  reached_coming w0 ask coming some = go (entered w0.view ask.path) some
    where
      go : (o : Option PortRef) → ((at : PortRef) → o ≡ Some at
          → IsComing (walker_told w0 (answered (old at.node) at.port ask.access).answer.value)
          (after_access old at ask.access))
          → IsComing (reached w0 old ask o).walker (reached w0 old ask o).registers
      go None some = coming
      go (Some at) some = some at refl

  pub read_coming : (after : Walker) (at : PortRef) (offset : ℕ) → IsComing after old
      → IsComing after (after_access old at (Read offset))
  read_coming after at offset coming =
      subst (λ r. IsComing after r) (sym (read-same old at offset)) coming

  judged_along : (stage : Stage) (lock : ℕ) → IsAlong (between Ask) old
      → IsComing (judged (between stage) lock) old
  judged_along stage lock along = go (eqb lock 0xffff) (nat_lt w.id lock)
    where
      go : (b c : Bool) → IsComing (if b then between Claim
          else (if c then freeing (between stage) w.devices else between Ask)) old
      go true c = inr (inr (ask_along w old fits along).1)
      go false true = inl (freeing_over (between stage) w.devices)
      go false false = inr (inr along)

  status_along : (tried : List Tried) → tried ≢ []
      → IsAlong (record w { todo = []; stage = Status; tried = tried }) old
      → After (record w { todo = []; stage = Status; tried = tried })
  status_along [] some along = absurd (some refl)
  status_along (top ∷ rest) some along =
      reached_coming (record w { todo = []; stage = Status; tried = top ∷ rest })
      (asked top.path (Read (0x158 + 0x20 * top.port))) (inr (inr along))
      (λ at enters. read_coming _ at (0x158 + 0x20 * top.port) (go at enters
      (eqb (answered (old at.node) at.port (Read (0x158 + 0x20 * top.port))).answer.value 2) refl))
    where
      go : (at : PortRef) → entered w.view top.path ≡ Some at → (b : Bool)
          → eqb (answered (old at.node) at.port (Read (0x158 + 0x20 * top.port))).answer.value 2
          ≡ b
          → IsComing (if b
          then outward (record w { todo = []; stage = Status; tried = top ∷ rest }) (top ∷ rest)
          else gone_on (record w { todo = []; stage = Status; tried = top ∷ rest }) (top ∷ rest))
          old
      go at enters true two =
          let next = is_linked w.view old old proper shown (λ node. same_device (old node)) top.path
          at enters top.port
          (eqb-true (answered (old at.node) at.port
          (Read (0x158 + 0x20 * top.port))).answer.value 2 two) in
          let below = (proper.ports (port_at at.node top.port) next.0 next.1).port in
          let most = proper.most_ports at.node in
          inr (inr (outward_along w old top rest at enters along shown
          (omega (arith, below, most))))
      go at enters false other =
          inr (inr (unlinked_along w old top rest at enters along shown
          (eqb-false (answered (old at.node) at.port
          (Read (0x158 + 0x20 * top.port))).answer.value 2 other)))

  features_along : (path : List ℕ) → w.path ≡ path → w.next ≤ 65
      → IsMine (between Features) old → IsAlong (between Features) old
      → (at : PortRef) → entered w.view w.path ≡ Some at
      → (b : Bool)
      → eqb ((answered (old at.node) at.port (Read 0x10)).answer.value / 0x10000000 % 2) 1 ≡ b
      → IsComing (if b then between Information else numbered (between Features) w.path) old
  features_along path is few mine along at enters true bit =
      inr (inr (information_along w old fits at enters along))
  features_along [] is few mine along at enters false bit =
      absurd (not_empty w.path (front_of w.tried)
      (port_of w.tried) (here_is w.path w.tried along.here) is)
  features_along (x ∷ rest) is few mine along at enters false bit =
      inr (inr (subst Ends (sym is) taken_so enters along mine))
    where
      Ends : List ℕ → Type 0
      Ends path = entered w.view path ≡ Some at
          → IsAlong (at_stage (record w { path = path }) Features) old
          → IsMine (at_stage (record w { path = path }) Features) old
          → IsAlong (numbered (at_stage (record w { path = path }) Features) path) old

      taken_so : Ends (x ∷ rest)
      taken_so enters along mine =
          endpoint_along w old x rest at enters along mine shown few
          (endpoint_told (old at.node) at.port bit)

  stage_along : (stage : Stage) → (stage ≡ Features → w.next ≤ 65) → IsMine (between stage) old
      → IsLed (between stage) → IsAlong (between stage) old → After (between stage)
  stage_along Ask few mine led along =
      reached_coming (between Ask) (asked w.path (Read 0x68)) (inr (inr along))
      (λ at enters. read_coming _ at 0x68
      (subst (λ n. IsComing (told_at (between Ask) n Ask) old)
      (sym (lock_told (old at.node) at.port)) (go at (eqb (old at.node).lock w.id))))
    where
      go : (at : PortRef) (b : Bool) → IsComing (if b then between Test
          else judged (between Ask) (old at.node).lock) old
      go at true = inr (inr (ask_along w old fits along).2)
      go at false = judged_along Ask (old at.node).lock along
  stage_along Claim few mine led along =
      reached_coming (between Claim) (asked w.path (Write 0x68 w.id)) (inr (inr along))
      (λ at enters. inr (inr (claim_along w old fits at enters mine along)))
  stage_along Check few mine led along =
      reached_coming (between Check) (asked w.path (Read 0x68)) (inr (inr along))
      (λ at enters. read_coming _ at 0x68
      (subst (λ n. IsComing (told_at (between Check) n Check) old)
      (sym (lock_told (old at.node) at.port)) (go at enters (eqb (old at.node).lock w.id) refl)))
    where
      go : (at : PortRef) → entered w.view w.path ≡ Some at → (b : Bool)
          → eqb (old at.node).lock w.id ≡ b
          → IsComing (if b then taken (between Check)
          else judged (between Check) (old at.node).lock) old
      go at enters true own =
          inr (inr (won_along w old fits at enters along (eqb-true (old at.node).lock w.id own)))
      go at enters false other =
          judged_along Check (old at.node).lock
          (lost_along w old fits at enters along (eqb-false (old at.node).lock w.id other))
  stage_along Test few mine led along =
      reached_coming (between Test) (asked w.path (Read 0x6c)) (inr (inr along))
      (λ at enters. read_coming _ at 0x6c
      (subst (λ n. IsComing (told_at (between Test) n Test) old)
      (sym (tag_told (old at.node) at.port)) (go at enters (eqb (old at.node).tag 0) refl)))
    where
      go : (at : PortRef) → entered w.view w.path ≡ Some at → (b : Bool)
          → eqb (old at.node).tag 0 ≡ b
          → IsComing (if b then taken (between Test) else gone_on (between Test) w.tried) old
      go at enters true none =
          inr (inr (own_along w old fits at enters along
          (mine.knows.1 at.node (node_at-entered w.view w.path at enters))
          (eqb-true (old at.node).tag 0 none)))
      go at enters false some =
          inr (inr (met_along w old fits at enters along
          (mine.knows.1 at.node (node_at-entered w.view w.path at enters))
          (eqb-false (old at.node).tag 0 some)))
  stage_along Features few mine led along =
      reached_coming (between Features) (asked w.path (Read 0x10)) (inr (inr along))
      (λ at enters. read_coming _ at 0x10
      (features_along w.path refl (few refl) mine along at enters
      (eqb ((answered (old at.node) at.port (Read 0x10)).answer.value / 0x10000000 % 2) 1) refl))
  stage_along Information few mine led along =
      reached_coming (between Information) (asked w.path (Read 0x14)) (inr (inr along))
      (λ at enters. read_coming _ at 0x14 (inr (inr (told_along w old at led.1.0.1 enters along
      shown (subst (λ (p : PortRef). w.view.switch_ports p.node ≡ Some led.1.0.1)
      (same_lock 0 (entered w.view w.path) led.1.0.0 at led.1.0.2 enters) led.1.0.3)))))
  stage_along Status few mine led along = status_along w.tried led.1 along
  stage_along Free few mine led along =
      reached_coming (between Free) (asked (last_path w.devices) (Write 0x68 w.id)) (inl tt)
      (λ at enters. inl (freeing_over (between Free) (but_last w.devices)))
  stage_along Done few mine led along = inr (inr along)
  stage_along Lost few mine led along = inl tt

-- a write of a walker that is along its way
write_along : (w : Walker) (p : PendingWrite) (rest : List PendingWrite) (old : AllRegisters)
    (at : PortRef)
    (stage : Stage) (path : List ℕ)
    → IsMine (record w { todo = p ∷ rest; stage = stage; path = path }) old
    → entered w.view p.path ≡ Some at
    → IsAlong (record w { todo = p ∷ rest; stage = stage; path = path }) old
    → IsAlong (settled (record w { todo = p ∷ rest; stage = stage; path = path }) rest stage path)
    (after_access old at (Write p.offset p.value))
write_along w p rest old at stage path mine enters along = go rest stage path mine along
  where
    one : (rest : List PendingWrite) (stage : Stage) (path : List ℕ)
        → IsMine (record w { todo = p ∷ rest; stage = stage; path = path }) old
        → IsAlong (record w { todo = p ∷ rest; stage = stage; path = path }) old
        → IsHereAt (record w { todo = rest; stage = stage; path = path }) stage
        → IsAlong (record w { todo = rest; stage = stage; path = path })
        (after_access old at (Write p.offset p.value))
    one rest stage path mine along here = record {
      way = write_on_way (record w { stage = stage; path = path }) p rest old at mine enters
          along.way;
      host = along.host;
      chained = along.chained;
      here = here;
    }

    go : (rest : List PendingWrite) (stage : Stage) (path : List ℕ)
        → IsMine (record w { todo = p ∷ rest; stage = stage; path = path }) old
        → IsAlong (record w { todo = p ∷ rest; stage = stage; path = path }) old
        → IsAlong (settled (record w { todo = p ∷ rest; stage = stage; path = path }) rest stage
        path) (after_access old at (Write p.offset p.value))
    go (q ∷ rest) Ask path mine along = one (q ∷ rest) Ask path mine along along.here
    go (q ∷ rest) Claim path mine along = one (q ∷ rest) Claim path mine along along.here
    go (q ∷ rest) Check path mine along = one (q ∷ rest) Check path mine along along.here
    go (q ∷ rest) Test path mine along = one (q ∷ rest) Test path mine along along.here
    go (q ∷ rest) Features path mine along = one (q ∷ rest) Features path mine along along.here
    go (q ∷ rest) Information path mine along =
        one (q ∷ rest) Information path mine along along.here
    go (q ∷ rest) Status path mine along = one (q ∷ rest) Status path mine along along.here
    go (q ∷ rest) Free path mine along = one (q ∷ rest) Free path mine along tt
    go (q ∷ rest) Done path mine along = one (q ∷ rest) Done path mine along tt
    go (q ∷ rest) Lost path mine along = one (q ∷ rest) Lost path mine along tt
    go [] Ask path mine along = one [] Ask path mine along along.here
    go [] Claim path mine along = one [] Claim path mine along along.here
    go [] Check path mine along = one [] Check path mine along along.here
    go [] Test path mine along = one [] Test path mine along along.here
    go [] Features [] mine along =
        absurd (not_empty [] (front_of w.tried)
        (port_of w.tried) (here_is [] w.tried along.here) refl)
    go [] Features (x ∷ path) mine along = one [] Features (x ∷ path) mine along along.here
    go [] Information path mine along = one [] Information path mine along along.here
    go [] Status path mine along = one [] Status path mine along along.here
    go [] Free path mine along = one [] Free path mine along tt
    go [] Done path mine along = one [] Done path mine along tt
    go [] Lost path mine along = one [] Lost path mine along tt

-- one access of such a walker
pub step_along : (w : Walker) (old : AllRegisters) → w.id < 0xff → IsTopology w.view
    → Fits w.view old
    → (w.stage ≡ Features → w.next ≤ 65) → IsMine w old → IsLed w → IsAlong w old
    → IsComing (stepped w old).walker (stepped w old).registers
step_along w old fits proper shown few mine led along = go w.todo w.stage w.path few mine led along
  where
    go : (todo : List PendingWrite) (stage : Stage) (path : List ℕ)
        → (stage ≡ Features → w.next ≤ 65)
        → IsMine (record w { todo = todo; stage = stage; path = path }) old
        → IsLed (record w { todo = todo; stage = stage; path = path })
        → IsAlong (record w { todo = todo; stage = stage; path = path }) old
        → IsComing (stepped (record w { todo = todo; stage = stage; path = path }) old).walker
        (stepped (record w { todo = todo; stage = stage; path = path }) old).registers
    go [] stage path few mine led along =
        stage_along (record w { path = path }) old fits proper shown stage few mine led along
    go (p ∷ rest) stage path few mine led along =
        reached_coming w old fits proper shown
        (record w { todo = p ∷ rest; stage = stage; path = path })
        (asked p.path (Write p.offset p.value)) (inr (inr along))
        (λ at enters. inr (inr (write_along w p rest old at stage path mine enters along)))
