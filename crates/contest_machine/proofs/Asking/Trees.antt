-- The devices that a walker has still to free: a tree of paths, whose switches send home.
use Rattle.contest_machine.proofs.Prelude.{◌≡◌, ◌≢◌, ℕ, ◌<◌, ◌≤◌, List, [], ◌∷◌, ◌++◌, length, AllPairs, Option, Some, None, Contains, unwrap_or, arith, ◌⊎◌, inl, inr, subst, sym, refl, ap, ◌∙◌, if◌then◌else◌, ne_eqb, option_and_then, All-contains, Contains-append_right, Contains-append_cases, same_Some, PortRef, port_at, next_port, Kind, Endpoint, Switch, Device, Topology, behind_port, along, ports_followed, entered, node_at, Before, AllRegisters, Fits, paths_of, IsKindAt, path_listed, device_on, described-listed, node_at-entered, along-append, further-not_less, Contains-first, Contains-rest, Contains-cases, AllPairs-first, AllPairs-rest, behind-link, followed-switch, IsUnderway, next-home, IsMember, last_path, but_last}
use Rattle.fabric_map.proofs.Fronts.{not_before_empty, front_listed}
use Rattle.host_enumerate.proofs.Asked.{host-keeps_id, most}
use Rattle.contest_machine.proofs.Keeping.Lists.{split_last}
use Rattle.contest_machine.proofs.Asking.Answering.{PassesOthers, not_longer}
use Rattle.contest_machine.proofs.Asking.Hosted.{host_listed}

-- each path stands before the later ones
abbrev pub AreLater : List (List ℕ) → Type 0
AreLater [] = Unit {0}
AreLater (path ∷ rest) = ((other : List ℕ) → Contains rest other → Before path other)
    × AreLater rest

-- the host is the first device, if there is one
abbrev pub IsFirst : List Device → Type 0
IsFirst [] = Unit {0}
IsFirst (device ∷ rest) = device.path ≡ []

-- what is known of a switch that a path of the list passes
pub record IsSwitchAt (view : Topology) (device : Device) (port : ℕ) (at : PortRef) : Type 0 where
  pub ports : ℕ
  pub kind : device.kind ≡ Switch ports at.port
  pub switch : view.switch_ports at.node ≡ Some ports
  pub below : port < ports
  pub other : at.node ≢ view.host

-- Each front of a path of the list is in the list, and is a switch. Each path leads to a device of
-- its own.
pub record IsTree (view : Topology) (devices : List Device) : Type 0 where
  pub first : IsFirst devices
  pub leads : (path : List ℕ) → Contains (paths_of devices) path
      → (at : PortRef) × (entered view path ≡ Some at)
  pub fronts : (front rest : List ℕ) → Contains (paths_of devices) (front ++ rest)
      → Contains (paths_of devices) front
  pub once : (p q : List ℕ) → Contains (paths_of devices) p → Contains (paths_of devices) q
      → node_at view p ≡ node_at view q → p ≡ q
  pub later : AreLater (paths_of devices)
  pub short : (path : List ℕ) → Contains (paths_of devices) path → length path ≤ 64
  pub passed : (device : Device) (rest : List ℕ) (port : ℕ) (at : PortRef)
      → Contains devices device → Contains (paths_of devices) (device.path ++ port ∷ rest)
      → device.path ≢ [] → entered view device.path ≡ Some at → IsSwitchAt view device port at

-- the switches that these paths pass send home
abbrev pub AreHome : Topology → List Device → ℕ → AllRegisters → Type 0
AreHome view devices id now = (front rest : List ℕ) (port : ℕ) (at : PortRef)
    → Contains (paths_of devices) (front ++ port ∷ rest) → front ≢ []
    → entered view front ≡ Some at → next_port (now at.node) id ≡ Some at.port

later-pairs : (paths : List (List ℕ)) → AllPairs Before paths → AreLater paths
later-pairs [] pairs = tt
later-pairs (path ∷ rest) pairs = (
  λ other found. All-contains (Before path) rest other
      (AllPairs-first Before path rest pairs) found,
  later-pairs rest (AllPairs-rest Before path rest pairs),
)

-- ---- a walker that begins to give up

module _ (view : Topology) (before now : AllRegisters) (id next : ℕ) (devices : List Device)
    (bound : List ℕ) (underway : IsUnderway view before now id devices next bound)
    (host : IsMember view devices view.host) where
  none_listed : Contains (paths_of devices) []
  none_listed = host_listed view before now id next devices bound underway host

  leads_at : (path : List ℕ) → Contains (paths_of devices) path
      → (at : PortRef) × (entered view path ≡ Some at)
  leads_at path listed =
      let found = device_on devices path listed in
      let told = described-listed view id [] devices found.0 underway.described found.1 in
      (told.1.at, ap (λ l. entered view l) (sym found.2) ∙ told.1.path)

  front_of_listed : (front rest : List ℕ) → Contains (paths_of devices) (front ++ rest)
      → Contains (paths_of devices) front
  front_of_listed front rest listed =
      front_listed view (paths_of devices) bound front (length rest) rest refl underway.walked
      listed

  -- a port by which a listed path goes on
  goes_on : (front rest : List ℕ) (port : ℕ) (at end : PortRef) → entered view front ≡ Some at
      → entered view (front ++ port ∷ rest) ≡ Some end → port < ports_followed view at.node
  goes_on front rest port at end leads ends =
      go (behind_port view at.node port) refl
      (sym (along-append view (port_at view.host 0) front (port ∷ rest) at leads) ∙ ends)
    where
      go : (o : Option PortRef) → behind_port view at.node port ≡ o
          → option_and_then (λ next. along view next rest) o ≡ Some end
          → port < ports_followed view at.node
      go None none reaches = absurd (cc)
      go (Some next) link reaches = (behind-link view at.node port next link).1

  kind_of : (device : Device) → Contains devices device → (at : PortRef)
      → entered view device.path ≡ Some at → (ports : ℕ) → view.switch_ports at.node ≡ Some ports
      → device.kind ≡ Switch ports at.port
  kind_of device listed at leads ports switch =
      let told = described-listed view id [] devices device underway.described listed in
      let same : told.1.at ≡ at = same_Some told.1.at at (sym told.1.path ∙ leads) in
      go told.0 device.kind refl
      (subst (λ o. IsKindAt id told.0 at o device.kind) switch
      (subst (λ (p : PortRef). IsKindAt id told.0 p (view.switch_ports p.node) device.kind) same
      told.1.kind))
    where
      go : (earlier : List Device) (kind : Kind) → device.kind ≡ kind
          → IsKindAt id earlier at (Some ports) kind → kind ≡ Switch ports at.port
      go earlier (Endpoint given) is shown = absurd shown
      go earlier (Switch n entry) is shown =
          ap (λ k. Switch k entry) shown.0 ∙ ap (λ k. Switch ports k) shown.1

  switch_passed : (device : Device) (rest : List ℕ) (port : ℕ) (at : PortRef)
      → Contains devices device → Contains (paths_of devices) (device.path ++ port ∷ rest)
      → device.path ≢ [] → entered view device.path ≡ Some at → IsSwitchAt view device port at
  switch_passed device rest port at listed further some leads =
      let there = leads_at (device.path ++ port ∷ rest) further in
      let below = goes_on device.path rest port at there.0 leads there.1 in
      let switch = followed-switch view at.node port other below in
      let ports : ports_followed view at.node ≡ switch.0 =
      ap (λ b. if b then 1 else unwrap_or (view.switch_ports at.node) 0)
      (ne_eqb at.node view.host other) ∙ ap (λ o. unwrap_or o 0) switch.1 in
      record {
        ports = switch.0;
        kind = kind_of device listed at leads switch.0 switch.1;
        switch = switch.1;
        below = omega (arith, below, ports);
        other = other;
      }
    where
      other : at.node ≢ view.host
      other same =
          some (underway.walked.once device.path [] (path_listed devices device listed)
          none_listed (node_at-entered view device.path at leads ∙ ap (λ n. Some n) same))

  first_is : (all : List Device) → Contains (paths_of all) [] → AreLater (paths_of all)
      → IsFirst all
  first_is [] found later = tt
  first_is (device ∷ rest) found later = go (Contains-cases device.path (paths_of rest) [] found)
    where
      go : (device.path ≡ []) ⊎ Contains (paths_of rest) [] → device.path ≡ []
      go (inl same) = same
      go (inr more) = absurd (not_before_empty device.path (later.0 [] more))

  pub tree_of : IsTree view devices
  tree_of =
      let later = later-pairs (paths_of devices) underway.walked.ordered in
      record {
        first = first_is devices none_listed later;
        leads = leads_at;
        fronts = front_of_listed;
        once = underway.walked.once;
        later = later;
        short = λ path listed.
            let found = device_on devices path listed in
            let less = underway.short found.0 found.1 in
            let same = ap (λ (l : List ℕ). length l) found.2 in
            let few = most view before now id next devices bound underway in
            omega (arith, less, same, few);
        passed = switch_passed;
      }

  pub home_of : Fits view now → AreHome view devices id now
  home_of shown front rest port at listed some leads =
      let found = device_on devices front (front_of_listed front (port ∷ rest) listed) in
      let there = ap (λ l. entered view l) found.2 ∙ leads in
      let switch = switch_passed found.0 rest port at found.1
      (subst (λ l. Contains (paths_of devices) (l ++ port ∷ rest)) (sym found.2) listed)
      (λ none. some (sym found.2 ∙ none)) there in
      next-home view before now id next devices bound underway found.0 at switch.ports at.port
      shown found.1 switch.kind there

  pub base_of : (now view.host).base_id ≡ id
  base_of = host-keeps_id view before now id next devices bound underway

-- ---- one device less

pub last_listed : (devices : List Device) → devices ≢ []
    → Contains (paths_of devices) (last_path devices)
last_listed devices some =
    subst (λ l. Contains l (last_path devices)) (sym (split_last devices some))
    (Contains-append_right (paths_of (but_last devices)) (last_path devices ∷ [])
    (last_path devices) (Contains-first (last_path devices) []))

listed-but_last : (devices : List Device) (device : Device) → Contains (but_last devices) device
    → Contains devices device
listed-but_last [] device found = absurd (omega (arith, found.1))
listed-but_last (first ∷ []) device found = absurd (omega (arith, found.1))
listed-but_last (first ∷ second ∷ rest) device found =
    go (Contains-cases first (but_last (second ∷ rest)) device found)
    (λ more. listed-but_last (second ∷ rest) device more)
  where
    go : (first ≡ device) ⊎ Contains (but_last (second ∷ rest)) device
        → (Contains (but_last (second ∷ rest)) device → Contains (second ∷ rest) device)
        → Contains (first ∷ second ∷ rest) device
    go (inl same) on =
        subst (λ d. Contains (first ∷ second ∷ rest) d) same (Contains-first first (second ∷ rest))
    go (inr more) on = Contains-rest first (second ∷ rest) device (on more)

pub paths-but_last : (devices : List Device) (path : List ℕ)
    → Contains (paths_of (but_last devices)) path → Contains (paths_of devices) path
paths-but_last devices path found =
    let there = device_on (but_last devices) path found in
    subst (Contains (paths_of devices)) there.2
    (path_listed devices there.0 (listed-but_last devices there.0 there.1))

later-but_last : (devices : List Device) → AreLater (paths_of devices)
    → AreLater (paths_of (but_last devices))
later-but_last [] later = tt
later-but_last (first ∷ []) later = tt
later-but_last (first ∷ second ∷ rest) later = (
  λ other found. later.0 other (paths-but_last (second ∷ rest) other found),
  later-but_last (second ∷ rest) later.1,
)

first-but_last : (devices : List Device) → IsFirst devices → IsFirst (but_last devices)
first-but_last [] first = tt
first-but_last (device ∷ []) first = tt
first-but_last (device ∷ second ∷ rest) first = first

-- the last path is in the list, behind all others
last_after : (devices : List Device) (path : List ℕ) → AreLater (paths_of devices)
    → Contains (paths_of (but_last devices)) path → Before path (last_path devices)
last_after [] path later found = absurd (omega (arith, found.1))
last_after (first ∷ []) path later found = absurd (omega (arith, found.1))
last_after (first ∷ second ∷ rest) path later found =
    go (Contains-cases first.path (paths_of (but_last (second ∷ rest))) path found)
    (λ more. last_after (second ∷ rest) path later.1 more)
  where
    go : (first.path ≡ path) ⊎ Contains (paths_of (but_last (second ∷ rest))) path
        → (Contains (paths_of (but_last (second ∷ rest))) path
        → Before path (last_path (second ∷ rest)))
        → Before path (last_path (second ∷ rest))
    go (inl same) on =
        subst (λ l. Before l (last_path (second ∷ rest))) same
        (later.0 (last_path (second ∷ rest)) (last_listed (second ∷ rest) (λ e. cc)))
    go (inr more) on = on more

-- without its last device it is a tree still
pub tree-but_last : (view : Topology) (devices : List Device) → devices ≢ [] → IsTree view devices
    → IsTree view (but_last devices)
tree-but_last view devices some tree = record {
  first = first-but_last devices tree.first;
  leads = λ path listed. tree.leads path (paths-but_last devices path listed);
  fronts = fronts;
  once = λ p q one other.
      tree.once p q (paths-but_last devices p one) (paths-but_last devices q other);
  later = later-but_last devices tree.later;
  short = λ path listed. tree.short path (paths-but_last devices path listed);
  passed = λ device rest port at listed further.
      tree.passed device rest port at (listed-but_last devices device listed)
      (paths-but_last devices (device.path ++ port ∷ rest) further);
}
  where
    fronts : (front rest : List ℕ) → Contains (paths_of (but_last devices)) (front ++ rest)
        → Contains (paths_of (but_last devices)) front
    fronts front rest listed =
        go (Contains-append_cases (paths_of (but_last devices)) (last_path devices ∷ []) front
        (subst (λ l. Contains l front) (split_last devices some)
        (tree.fronts front rest (paths-but_last devices (front ++ rest) listed))))
      where
        last : (last_path devices ≡ front) ⊎ Contains [] front
            → Contains (paths_of (but_last devices)) front
        last (inl same) =
            absurd (further-not_less front rest
            (subst (Before (front ++ rest)) same
            (last_after devices (front ++ rest) tree.later listed)))
        last (inr none) = absurd (omega (arith, none.1))

        go : Contains (paths_of (but_last devices)) front ⊎ Contains (last_path devices ∷ []) front
            → Contains (paths_of (but_last devices)) front
        go (inl there) = there
        go (inr there) = last (Contains-cases (last_path devices) [] front there)

-- no switch that a path of a tree passes is the device on it
pub tree_others : (view : Topology) (devices : List Device) (path : List ℕ) (at : PortRef)
    → IsTree view devices → Contains (paths_of devices) path → entered view path ≡ Some at
    → PassesOthers view path at.node
tree_others view devices path at tree listed leads first front rest port end is enters same =
    let shorter = tree.fronts (first ∷ front) (port ∷ rest)
    (subst (Contains (paths_of devices)) is listed) in
    not_longer (first ∷ front) port rest
    (sym is ∙ tree.once path (first ∷ front) listed shorter
    (node_at-entered view path at leads
    ∙ (ap (λ n. Some n) (sym same) ∙ sym (node_at-entered view (first ∷ front) end enters))))
