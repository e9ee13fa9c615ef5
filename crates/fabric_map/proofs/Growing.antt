-- Lists of devices as they grow, and the paths of their devices.
use Rattle.fabric_map.proofs.Prelude.{◌≡◌, ◌≢◌, ℕ, List, [], ◌∷◌, ◌++◌, Option, Some, None, option_map, Contains, arith, ◌⊎◌, inl, inr, subst, sym, refl, ap, ◌∙◌, append-nil, append_assoc, same_Some, PortRef, Kind, Endpoint, Switch, Device, Topology, entered, node_at, paths_of, IsKindAt, IsDescribed, AreDescribed}
use Rattle.fabric_map.proofs.Lists.{Contains-first, Contains-rest, Contains-cases}
use Rattle.fabric_map.proofs.EntryLaws.{map-push}

-- the path of a device of the list
pub path_listed : (devices : List Device) (device : Device) → Contains devices device
    → Contains (paths_of devices) device.path
path_listed [] device listed = absurd (omega (arith, listed.1))
path_listed (first ∷ devices) device listed =
    go (Contains-cases first devices device listed)
    (λ later. path_listed devices device later)
  where
    go : (first ≡ device) ⊎ Contains devices device
        → (Contains devices device → Contains (paths_of devices) device.path)
        → Contains (paths_of (first ∷ devices)) device.path
    go (inl same) on =
        subst (λ (d : Device). Contains (paths_of (first ∷ devices)) d.path) same
        (Contains-first first.path (paths_of devices))
    go (inr later) on = Contains-rest first.path (paths_of devices) device.path (on later)

-- and the device of a path
pub device_on : (devices : List Device) (path : List ℕ) → Contains (paths_of devices) path
    → (device : Device) × Contains devices device × (device.path ≡ path)
device_on [] path listed = absurd (omega (arith, listed.1))
device_on (first ∷ devices) path listed =
    go (Contains-cases first.path (paths_of devices) path listed)
    (λ later. device_on devices path later)
  where
    go : (first.path ≡ path) ⊎ Contains (paths_of devices) path
        → (Contains (paths_of devices) path
        → (device : Device) × Contains devices device × (device.path ≡ path))
        → (device : Device) × Contains (first ∷ devices) device × (device.path ≡ path)
    go (inl same) on = (first, Contains-first first devices, same)
    go (inr later) on =
        let found = on later in
        (found.0, Contains-rest first devices found.0 found.1, found.2)

pub paths_of-push : (devices : List Device) (device : Device)
    → paths_of (devices ++ device ∷ []) ≡ paths_of devices ++ device.path ∷ []
paths_of-push devices device = map-push (λ (d : Device). d.path) devices (device ∷ [])

-- one device more, described behind all others
pub described-push : (topology : Topology) (host_id : ℕ) (before devices : List Device)
    (device : Device)
    → AreDescribed topology host_id before devices
    → IsDescribed topology host_id (before ++ devices) device
    → AreDescribed topology host_id before (devices ++ device ∷ [])
described-push topology host_id before [] device described new =
    (subst (λ l. IsDescribed topology host_id l device) (append-nil before) new, tt)
described-push topology host_id before (first ∷ devices) device described new = (
  described.0,
  described-push topology host_id (before ++ first ∷ []) devices device
      described.1 (subst (λ l. IsDescribed topology host_id l device)
      (sym (append_assoc before (first ∷ []) devices)) new),
)

-- each device is described behind those in front of it
pub described-listed : (topology : Topology) (host_id : ℕ) (before devices : List Device)
    (device : Device)
    → AreDescribed topology host_id before devices → Contains devices device
    → (earlier : List Device) × IsDescribed topology host_id earlier device
described-listed topology host_id before [] device described listed =
    absurd (omega (arith, listed.1))
described-listed topology host_id before (first ∷ devices) device described listed =
    go (Contains-cases first devices device listed)
    (λ later. described-listed topology host_id (before ++ first ∷ []) devices device described.1
    later)
  where
    go : (first ≡ device) ⊎ Contains devices device
        → (Contains devices device
        → (earlier : List Device) × IsDescribed topology host_id earlier device)
        → (earlier : List Device) × IsDescribed topology host_id earlier device
    go (inl same) on = (before, subst (λ d. IsDescribed topology host_id before d) same described.0)
    go (inr later) on = on later

-- no device has the tag 0
pub tag-some : (topology : Topology) (host_id : ℕ) (devices : List Device) (device : Device)
    → AreDescribed topology host_id [] devices → Contains devices device → device.tag ≢ 0
tag-some topology host_id devices device described listed none =
    let found = described-listed topology host_id [] devices device described listed in
    let tag = found.1.tag in
    omega (arith, none, tag)

pub node_at-entered : (topology : Topology) (path : List ℕ) (at : PortRef)
    → entered topology path ≡ Some at → node_at topology path ≡ Some at.node
node_at-entered topology path at enters = ap (λ o. option_map (λ (p : PortRef). p.node) o) enters

-- a switch of the list has the ports of its device, and its entry is the port that its path enters
pub described-switch : (topology : Topology) (host_id ports entry : ℕ) (before : List Device)
    (device : Device)
    → IsDescribed topology host_id before device → device.kind ≡ Switch ports entry
    → (at : PortRef) × (entered topology device.path ≡ Some at)
    × (topology.switch_ports at.node ≡ Some ports) × (at.port ≡ entry)
described-switch topology host_id ports entry before device described is =
    go (topology.switch_ports described.at.node) refl
    (subst (λ k. IsKindAt host_id before described.at
    (topology.switch_ports described.at.node) k) is described.kind)
  where
    go : (kind : Option ℕ) → topology.switch_ports described.at.node ≡ kind
        → IsKindAt host_id before described.at kind (Switch ports entry)
        → (at : PortRef) × (entered topology device.path ≡ Some at)
        × (topology.switch_ports at.node ≡ Some ports) × (at.port ≡ entry)
    go None same shown = absurd shown
    go (Some n) same shown =
        (described.at, described.path, same ∙ ap (λ k. Some k) (sym shown.0), sym shown.1)

pub described-endpoint : (topology : Topology) (host_id id : ℕ) (before : List Device)
    (device : Device)
    → IsDescribed topology host_id before device → device.kind ≡ Endpoint id
    → (at : PortRef) × (entered topology device.path ≡ Some at)
    × (topology.switch_ports at.node ≡ None)
described-endpoint topology host_id id before device described is =
    go (topology.switch_ports described.at.node) refl
    (subst (λ k. IsKindAt host_id before described.at
    (topology.switch_ports described.at.node) k) is described.kind)
  where
    go : (kind : Option ℕ) → topology.switch_ports described.at.node ≡ kind
        → IsKindAt host_id before described.at kind (Endpoint id)
        → (at : PortRef) × (entered topology device.path ≡ Some at)
        × (topology.switch_ports at.node ≡ None)
    go None same shown = (described.at, described.path, same)
    go (Some n) same shown = absurd shown

-- the first device of a walk, if the host is met, is the host
pub host-first : (topology : Topology) (host_id : ℕ) (first : Device) (devices : List Device)
    → topology.switch_ports topology.host ≡ None
    → AreDescribed topology host_id [] (first ∷ devices) → first.path ≡ []
    → first.kind ≡ Endpoint host_id
host-first topology host_id first devices endpoint described is =
    go (topology.switch_ports described.0.at.node) first.kind
    (ap (λ n. topology.switch_ports n) at_host ∙ endpoint) refl described.0.kind
  where
    at_host : described.0.at.node ≡ topology.host
    at_host =
        let same : Some described.0.at.node ≡ Some topology.host =
        sym (node_at-entered topology first.path described.0.at described.0.path)
        ∙ ap (λ p. node_at topology p) is in
        cc

    go : (ports : Option ℕ) (kind : Kind) → ports ≡ None → first.kind ≡ kind
        → IsKindAt host_id [] described.0.at ports kind → kind ≡ Endpoint host_id
    go None (Endpoint id) none same shown = ap (λ n. Endpoint n) shown
    go None (Switch ports entry) none same shown = absurd shown
    go (Some n) kind none same shown = absurd (cc)

-- a device of the list that is a switch is listed as one
pub listed-switch : (topology : Topology) (host_id : ℕ) (devices : List Device) (path : List ℕ)
    (at : PortRef) (ports : ℕ)
    → AreDescribed topology host_id [] devices → Contains (paths_of devices) path
    → entered topology path ≡ Some at → topology.switch_ports at.node ≡ Some ports
    → (member : Device) × Contains devices member × (member.path ≡ path)
    × (member.kind ≡ Switch ports at.port)
listed-switch topology host_id devices path at ports described listed enters is =
    let found = device_on devices path listed in
    let earlier = described-listed topology host_id [] devices found.0 described found.1 in
    let same : earlier.1.at ≡ at =
    same_Some earlier.1.at at (sym earlier.1.path
    ∙ (ap (λ l. entered topology l) found.2 ∙ enters)) in (
      found.0,
      found.1,
      found.2,
      go earlier.0 found.0.kind
          (subst (λ (p : PortRef). IsKindAt host_id earlier.0 p (topology.switch_ports p.node)
          found.0.kind) same earlier.1.kind),
    )
  where
    with_ports : (earlier : List Device) (kind : Kind)
        → IsKindAt host_id earlier at (Some ports) kind → kind ≡ Switch ports at.port
    with_ports earlier (Endpoint id) shown = absurd shown
    with_ports earlier (Switch n entry) shown =
        ap (λ k. Switch k entry) shown.0 ∙ ap (λ k. Switch ports k) shown.1

    go : (earlier : List Device) (kind : Kind)
        → IsKindAt host_id earlier at (topology.switch_ports at.node) kind
        → kind ≡ Switch ports at.port
    go earlier kind shown = with_ports earlier kind
        (subst (λ o. IsKindAt host_id earlier at o kind) is shown)
