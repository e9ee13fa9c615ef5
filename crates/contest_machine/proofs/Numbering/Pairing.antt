-- Lists of writes in which an entry is written only where it was just selected.
use Rattle.contest_machine.proofs.Prelude.{◌≡◌, ◌≢◌, ℕ, zero, suc, ◌+◌, ◌*◌, ◌%◌, ◌≤◌, ◌<◌, ◌==◌, Bool, true, false, eqb, List, [], ◌∷◌, ◌++◌, length, Option, Some, None, arith, refl, if◌then◌else◌, PortRef, is_switch, Kind, Endpoint, Switch, Device, Topology, entered, AllRegisters, toward, PendingWrite, Walker, write, entry_set, route_of, route_pending, routes_to, cleared_below, home_set, own_id, taken}

-- the first write is not that of an entry
abbrev pub StartsOk : List PendingWrite → Type 0
StartsOk [] = Unit {0}
StartsOk (p ∷ rest) = p.offset ≢ 0x74

-- an entry is written behind its selection
abbrev pub Follows : PendingWrite → List PendingWrite → Type 0
Follows p [] = Unit {0}
Follows p (q ∷ rest) = q.offset ≡ 0x74 → (p.offset ≡ 0x70) × (p.path ≡ q.path)

-- and no entry of this destination is selected
abbrev pub AreLinked : ℕ → List PendingWrite → Type 0
AreLinked dest [] = Unit {0}
AreLinked dest (p ∷ rest) =
    (p.offset ≡ 0x70 → dest ≢ p.value % 0x400) × Follows p rest × AreLinked dest rest

-- the entry that is written first is another
abbrev pub HeadOk : ℕ → Topology → AllRegisters → List PendingWrite → Type 0
HeadOk dest view now [] = Unit {0}
HeadOk dest view now (p ∷ rest) = p.offset ≡ 0x74 → (at : PortRef) → entered view p.path ≡ Some at
    → is_switch (now at.node) ≡ true → dest ≢ (now at.node).select

pub starts_head : (dest : ℕ) (view : Topology) (now : AllRegisters) (todo : List PendingWrite)
    → StartsOk todo → HeadOk dest view now todo
starts_head dest view now [] ok = tt
starts_head dest view now (p ∷ rest) ok = λ is. absurd (ok is)

starts_append : (first second : List PendingWrite) → StartsOk first → StartsOk second
    → StartsOk (first ++ second)
starts_append [] second ok also = also
starts_append (p ∷ rest) second ok also = ok

linked_append : (dest : ℕ) (first second : List PendingWrite) → AreLinked dest first
    → AreLinked dest second → StartsOk second → AreLinked dest (first ++ second)
linked_append dest [] second linked more ok = more
linked_append dest (p ∷ []) second linked more ok = (linked.0, follows second ok, more)
  where
    follows : (second : List PendingWrite) → StartsOk second → Follows p second
    follows [] ok = tt
    follows (q ∷ rest) ok = λ is. absurd (ok is)
linked_append dest (p ∷ q ∷ rest) second linked more ok =
    (linked.0, linked.1, linked_append dest (q ∷ rest) second linked.2 more ok)

-- a list that starts so and is linked
abbrev pub IsOrderly : ℕ → List PendingWrite → Type 0
IsOrderly dest todo = AreLinked dest todo × StartsOk todo

pub orderly_append : (dest : ℕ) (first second : List PendingWrite) → IsOrderly dest first
    → IsOrderly dest second → IsOrderly dest (first ++ second)
orderly_append dest first second one two = (
  linked_append dest first second one.0 two.0 two.1,
  starts_append first second one.1 two.1,
)

pub entry_orderly : (dest : ℕ) (path : List ℕ) (id port : ℕ) → dest ≢ id % 0x400
    → IsOrderly dest (entry_set path id port)
entry_orderly dest path id port other = (
  (λ e. other, λ e. (refl, refl), (λ e. absurd (omega (arith, e)), tt, tt)),
  λ e. omega (arith, e),
)

pub one_orderly : (dest : ℕ) (path : List ℕ) (offset value : ℕ) → offset ≢ 0x70 → offset ≢ 0x74
    → IsOrderly dest (write path offset value ∷ [])
one_orderly dest path offset value select entry = ((λ e. absurd (select e), tt, tt), entry)

route_orderly : (dest : ℕ) (at : List ℕ) (id : ℕ) (kind : Kind) (port : Option ℕ)
    → dest ≢ id % 0x400 → IsOrderly dest (route_of at id kind port)
route_orderly dest at id (Endpoint given) port other = (tt, tt)
route_orderly dest at id (Switch ports entry) None other = (tt, tt)
route_orderly dest at id (Switch ports entry) (Some port) other =
    entry_orderly dest at id port other

pub routes_orderly : (dest : ℕ) (devices : List Device) (path : List ℕ) (id : ℕ)
    → dest ≢ id % 0x400 → IsOrderly dest (routes_to devices path id)
routes_orderly dest [] path id other = (tt, tt)
routes_orderly dest (device ∷ rest) path id other =
    orderly_append dest (route_pending path id device) (routes_to rest path id)
    (route_orderly dest device.path id device.kind (toward device.path path) other)
    (routes_orderly dest rest path id other)

cleared_orderly : (dest : ℕ) (path : List ℕ) (host_id n : ℕ) → n ≤ 63 → 62 < dest
    → IsOrderly dest (cleared_below path host_id n)
cleared_orderly dest path host_id zero most far = (tt, tt)
cleared_orderly dest path host_id (suc n) most far =
    orderly_append dest (cleared_below path host_id n)
    (if n == host_id then [] else entry_set path n 255)
    (cleared_orderly dest path host_id n (omega (arith, most)) far) (go (eqb n host_id))
  where
    go : (b : Bool) → IsOrderly dest (if b then [] else entry_set path n 255)
    go true = (tt, tt)
    go false = entry_orderly dest path n 255 (λ e. omega (arith, e, most, far))

pub home_orderly : (dest : ℕ) (path : List ℕ) (host_id entry : ℕ) → 62 < dest
    → dest ≢ host_id % 0x400 → IsOrderly dest (home_set path host_id entry)
home_orderly dest path host_id entry far other =
    orderly_append dest (write path 0x78 entry ∷ [])
    (cleared_below path host_id 63 ++ entry_set path host_id entry)
    (one_orderly dest path 0x78 entry (λ e. omega (arith, e)) (λ e. omega (arith, e)))
    (orderly_append dest (cleared_below path host_id 63) (entry_set path host_id entry)
    (cleared_orderly dest path host_id 63 (omega arith) far)
    (entry_orderly dest path host_id entry other))

pub taken_orderly : (dest : ℕ) (w : Walker) → IsOrderly dest (taken w).todo
taken_orderly dest w = go w.path
  where
    tag : IsOrderly dest (write w.path 0x6c (length w.devices + 1) ∷ [])
    tag = one_orderly dest w.path 0x6c (length w.devices + 1) (λ e. omega (arith, e))
        (λ e. omega (arith, e))

    go : (path : List ℕ)
        → IsOrderly dest (own_id w.id path ++ write w.path 0x6c (length w.devices + 1) ∷ [])
    go [] =
        orderly_append dest (write [] 0x60 (w.id * 0x10000) ∷ [])
        (write w.path 0x6c (length w.devices + 1) ∷ [])
        (one_orderly dest [] 0x60 (w.id * 0x10000) (λ e. omega (arith, e))
        (λ e. omega (arith, e))) tag
    go (x ∷ path) = tag
