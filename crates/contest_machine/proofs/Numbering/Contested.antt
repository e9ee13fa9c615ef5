-- Over all turns the two hosts change only what they may.
use Rattle.contest_machine.proofs.Prelude.{◌≡◌, ◌≢◌, ℕ, ◌+◌, ◌≤◌, ◌<◌, List, [], ◌∷◌, length, Option, Some, None, is_some, Contains, arith, inl, inr, subst, sym, refl, ap, ◌∙◌, same_Some, All-contains, PortRef, Kind, Endpoint, Switch, Device, along, entered, node_at, Before, Walked, AllRegisters, paths_of, device_on, described-listed, Contains-first, Write, after_access, id_after, PendingWrite, Tried, Stage, Ask, Claim, Check, Test, Features, Information, Status, Free, Done, Lost, Walker, AreOnce, IsMine, IsKindAt, Contains-rest, given_below, id_after-few, asked, settled, stepped, WalkerIsWithin}
use Rattle.contest_machine.proofs.Keeping.Lists.{once-front}
use Rattle.contest_machine.proofs.Keeping.Stepped.{at_stage}
use Rattle.contest_machine.proofs.Numbering.Chained.{AreChained}
use Rattle.contest_machine.proofs.Numbering.Along.{IsHere, IsAlong}
use Rattle.contest_machine.proofs.Turns.Led.{IsLed}
use Rattle.contest_machine.proofs.Turns.Spending.{few_kept, few_devices}
use Rattle.contest_machine.proofs.Numbering.Coming.{IsComing}
use Rattle.contest_machine.proofs.Numbering.Pairing.{AreLinked, HeadOk}
use Rattle.contest_machine.proofs.Numbering.Careful.{IsCareful, IsKeeping, left_by, stage_keeping, reached_keeping, head_after}

-- ---- the ID that is given is below 63

module _ (w : Walker) (now : AllRegisters) (along : IsAlong (at_stage w Features) now)
    (mine : IsMine (at_stage w Features) now) (few : length w.devices + 1 ≤ 64) where
  -- if the port is that of a switch, fewer IDs are given than devices are met
  below_switch : (tried : List Tried) → AreChained w.view w.devices tried → tried ≢ []
      → given_below w.id w.next < length w.devices
  below_switch [] chained some = absurd (some refl)
  below_switch (top ∷ rest) chained some =
      let found = device_on w.devices top.path chained.0.listed in
      let told = described-listed w.view w.id [] w.devices found.0
      along.way.underway.described found.1 in
      let same : told.1.at ≡ chained.0.at =
      same_Some told.1.at chained.0.at
      (sym told.1.path ∙ (ap (λ l. entered w.view l) found.2 ∙ chained.0.leads)) in
      kind found.0 found.1 told.0 told.1.at
      (ap (λ (p : PortRef). w.view.switch_ports p.node) same ∙ chained.0.switch)
      (w.view.switch_ports told.1.at.node) refl found.0.kind refl told.1.kind
    where
      kind : (device : Device) → Contains w.devices device → (earlier : List Device)
          → (at : PortRef) → w.view.switch_ports at.node ≡ Some top.ports
          → (o : Option ℕ) → w.view.switch_ports at.node ≡ o
          → (k : Kind) → device.kind ≡ k → IsKindAt w.id earlier at o k
          → given_below w.id w.next < length w.devices
      kind device listed earlier at some None none k is so =
          absurd (let e = sym none ∙ some in cc)
      kind device listed earlier at some (Some n) is_some (Endpoint id) is so = absurd so
      kind device listed earlier at some (Some n) is_some (Switch ports entry) is so =
          along.way.underway.counted.switches device ports entry listed is

  -- if it is the host's, the host alone is met
  alone : (devices : List Device) → Walked w.view (paths_of devices) w.path
      → w.path ≡ 0 ∷ [] → AreOnce w.view (paths_of devices) → length devices ≤ 1
  alone [] walked here once = omega arith
  alone (one ∷ []) walked here once = omega arith
  alone (one ∷ two ∷ rest) walked here once =
      absurd (once.0 two.path (Contains-first two.path (paths_of rest))
      (ap (λ l. node_at w.view l) (empty one.path (Contains-first one.path
      (paths_of (two ∷ rest)))
      ∙ sym (empty two.path (Contains-rest one.path (paths_of (two ∷ rest)) two.path
      (Contains-first two.path (paths_of rest)))))))
    where
      is_empty : (path : List ℕ) → Before path (0 ∷ []) → path ≡ []
      is_empty [] before = refl
      is_empty (x ∷ []) (inl less) = absurd (omega (arith, less))
      is_empty (x ∷ y ∷ path) (inl less) = absurd (omega (arith, less))
      is_empty (x ∷ []) (inr (same, before)) = absurd before
      is_empty (x ∷ y ∷ path) (inr (same, before)) = absurd before

      empty : (path : List ℕ) → Contains (paths_of (one ∷ two ∷ rest)) path → path ≡ []
      empty path listed =
          is_empty path (subst (Before path) here
          (All-contains (λ p. Before p w.path) (paths_of (one ∷ two ∷ rest)) path walked.before
          listed))

  small_id : id_after w.id w.next < 63
  small_id = go w.tried along.chained along.here
    where
      most : id_after w.id w.next ≤ given_below w.id w.next
      most = id_after-few w.id w.next

      go : (tried : List Tried) → AreChained w.view w.devices tried → IsHere w.path tried
          → id_after w.id w.next < 63
      go [] chained here =
          let one = alone w.devices along.way.underway.walked here
          (once-front w.view (paths_of w.devices) w.path mine.once) in
          let all = along.way.underway.counted.endpoints along.host.0 along.host.1 in
          omega (arith, most, one, all)
      go (top ∷ rest) chained here =
          let less = below_switch (top ∷ rest) chained (λ e. cc) in
          omega (arith, most, less, few)

small_at : (w : Walker) (now : AllRegisters) → WalkerIsWithin (at_stage w Features)
    → IsMine (at_stage w Features) now → IsLed (at_stage w Features)
    → IsComing (at_stage w Features) now → id_after w.id w.next < 63
small_at w now within mine led (inl over) = absurd over
small_at w now within mine led (inr (inl starting)) =
    absurd (led.1.1 (ap (λ (v : Walker). v.path) starting.is) refl)
small_at w now within mine led (inr (inr along)) =
    small_id w now along mine
    (let few = few_devices w.devices (w.path ∷ [])
    (few_kept (at_stage w Features) now within mine) in omega (arith, few))

-- ---- one access

module _ (dest : ℕ) (far : 62 < dest) (not_all : dest ≢ 255) where
  write_keeping : (w : Walker) (p : PendingWrite) (rest : List PendingWrite) (old : AllRegisters)
      (at : PortRef) (stage : Stage) (path : List ℕ) → entered w.view p.path ≡ Some at
      → IsCareful dest far not_all (record w { todo = p ∷ rest; stage = stage; path = path }) old
      → IsKeeping dest far not_all w old
      (settled (record w { todo = p ∷ rest; stage = stage; path = path }) rest stage path)
      (after_access old at (Write p.offset p.value))
  write_keeping w p rest old at stage path enters careful = record {
    careful = go rest stage path careful;
    left = left_by dest far not_all old at p.offset p.value
        (λ e switch. careful.1 e at enters switch);
  }
    where
      one : (rest : List PendingWrite) → AreLinked dest (p ∷ rest)
          → AreLinked dest rest
          × HeadOk dest w.view (after_access old at (Write p.offset p.value)) rest
      one rest linked = (
        linked.2,
        head_after dest far not_all w.view old p rest at enters linked,
      )

      go : (rest : List PendingWrite) (stage : Stage) (path : List ℕ)
          → IsCareful dest far not_all
          (record w { todo = p ∷ rest; stage = stage; path = path }) old
          → IsCareful dest far not_all
          (settled (record w { todo = p ∷ rest; stage = stage; path = path }) rest stage path)
          (after_access old at (Write p.offset p.value))
      go (q ∷ rest) stage path careful = one (q ∷ rest) careful.0
      go [] Features [] careful = (tt, tt)
      go [] Features (x ∷ path) careful = (tt, tt)
      go [] Ask path careful = (tt, tt)
      go [] Claim path careful = (tt, tt)
      go [] Check path careful = (tt, tt)
      go [] Test path careful = (tt, tt)
      go [] Information path careful = (tt, tt)
      go [] Status path careful = (tt, tt)
      go [] Free path careful = (tt, tt)
      go [] Done path careful = (tt, tt)
      go [] Lost path careful = (tt, tt)

  pub step_keeping : (w : Walker) (old : AllRegisters) → w.id < 0xff → dest ≢ w.id
      → WalkerIsWithin w
      → IsMine w old → IsLed w → IsComing w old → IsCareful dest far not_all w old
      → IsKeeping dest far not_all w old (stepped w old).walker (stepped w old).registers
  step_keeping w old fits own within mine led coming careful =
      go w.todo w.stage w.path within mine led coming careful
    where
      go : (todo : List PendingWrite) (stage : Stage) (path : List ℕ)
          → WalkerIsWithin (record w { todo = todo; stage = stage; path = path })
          → IsMine (record w { todo = todo; stage = stage; path = path }) old
          → IsLed (record w { todo = todo; stage = stage; path = path })
          → IsComing (record w { todo = todo; stage = stage; path = path }) old
          → IsCareful dest far not_all
          (record w { todo = todo; stage = stage; path = path }) old
          → IsKeeping dest far not_all w old
          (stepped (record w { todo = todo; stage = stage; path = path }) old).walker
          (stepped (record w { todo = todo; stage = stage; path = path }) old).registers
      go [] stage path within mine led coming careful =
          keeping (stage_keeping dest far not_all (record w { path = path }) old fits own stage
          (small stage within mine led coming))
        where
          keeping : {a : Walker} {n : AllRegisters}
              → IsKeeping dest far not_all (record w { path = path }) old a n
              → IsKeeping dest far not_all w old a n
          keeping k = record { careful = k.careful; left = k.left }

          small : (stage : Stage)
              → WalkerIsWithin (record w { todo = []; stage = stage; path = path })
              → IsMine (record w { todo = []; stage = stage; path = path }) old
              → IsLed (record w { todo = []; stage = stage; path = path })
              → IsComing (record w { todo = []; stage = stage; path = path }) old
              → stage ≡ Features → id_after w.id w.next < 63
          small Features within mine led coming is =
              small_at (record w { path = path }) old within mine led coming
          small Ask within mine led coming is = absurd (cc)
          small Claim within mine led coming is = absurd (cc)
          small Check within mine led coming is = absurd (cc)
          small Test within mine led coming is = absurd (cc)
          small Information within mine led coming is = absurd (cc)
          small Status within mine led coming is = absurd (cc)
          small Free within mine led coming is = absurd (cc)
          small Done within mine led coming is = absurd (cc)
          small Lost within mine led coming is = absurd (cc)
      go (p ∷ rest) stage path within mine led coming careful =
          reached_keeping dest far not_all w old fits own
          (record w { todo = p ∷ rest; stage = stage; path = path })
          (asked p.path (Write p.offset p.value)) careful
          (λ at enters. write_keeping w p rest old at stage path enters careful)
