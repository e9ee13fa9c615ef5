-- The ports of one device stand in a row, apart from those of all others; and lists of which such a
-- row was replaced.
use Rattle.std.proofs.Common.{◌≡◌, ◌≢◌, ◌⊎◌, inl, inr, ℕ, zero, suc, ◌+◌, ◌-◌, ◌<◌, ◌≤◌, Option, None, List, [], ◌∷◌, ◌++◌, length, take, drop, Some, slice_get, slice_index_or, refl, sym, ap, ◌∙◌, subst, arith, length-append, length-take, length-drop}
use Rattle.std.proofs.lemmas.Bool.{cases_lt, cases_eq}
use Rattle.std.proofs.lemmas.List.{take-append-drop, get_or_default}
use Rattle.std.proofs.lemmas.Option.{slice_get_within}
use Rattle.link_port.specs.Ports.{PortState}
use Rattle.maint_registers.specs.Devices.{Registers}
use Rattle.fabric_script.specs.declared.ports.PortRef.{PortRef}
use Rattle.fabric_trace.specs.Known.{Seen, port_seen}
use Rattle.fabric_ports.specs.Places.{AreFirsts, port_count, HasPort, IsPortOf, place_of}
use Rattle.fabric_ports.proofs.FaceLaws.{port}
use Rattle.fabric_ports.proofs.Rows.{get-append, placed}
use Rattle.fabric_ports.proofs.ShowLaws.{ArePorts}

-- ---- rows

first_from : (base : ℕ) (devices : List Registers) (firsts : List ℕ) (n : ℕ)
    → AreFirsts base devices firsts → n < length devices → base ≤ slice_index_or firsts n 0
first_from base [] [] n are within = absurd (omega (arith, within))
first_from base [] (f ∷ firsts) n are within = absurd are
first_from base (d ∷ devices) [] n are within = absurd are
first_from base (d ∷ devices) (f ∷ firsts) zero are within =
    let start = are.0 in omega (arith, start)
first_from base (d ∷ devices) (f ∷ firsts) (suc n) are within =
    let rest = first_from (base + d.ports) devices firsts n are.1 (omega (arith, within)) in
    omega (arith, rest)

-- a device's ports stand before those of later devices
rows_apart : (base : ℕ) (devices : List Registers) (firsts : List ℕ) (m n : ℕ) (device : Registers)
    → AreFirsts base devices firsts → slice_get devices m ≡ Some device → n < length devices
    → m < n → slice_index_or firsts m 0 + device.ports ≤ slice_index_or firsts n 0
rows_apart base [] [] m n device are stands within less = absurd (omega (arith, within))
rows_apart base [] (f ∷ firsts) m n device are stands within less = absurd are
rows_apart base (d ∷ devices) [] m n device are stands within less = absurd are
rows_apart base (d ∷ devices) (f ∷ firsts) m zero device are stands within less =
    absurd (omega (arith, less))
rows_apart base (d ∷ devices) (f ∷ firsts) zero (suc n) device are stands within less =
    let same : d ≡ device = cc in
    let many = ap (λ (x : Registers). x.ports) same in
    let start = are.0 in
    let rest = first_from (base + d.ports) devices firsts n are.1 (omega (arith, within)) in
    omega (arith, many, start, rest)
rows_apart base (d ∷ devices) (f ∷ firsts) (suc m) (suc n) device are stands within less =
    rows_apart (base + d.ports) devices firsts m n device are.1 stands (omega (arith, within))
    (omega (arith, less))

-- a device's ports stand before the end
pub row_within : (base : ℕ) (devices : List Registers) (firsts : List ℕ) (n : ℕ)
    {device : Registers}
    → AreFirsts base devices firsts → slice_get devices n ≡ Some device
    → slice_index_or firsts n 0 + device.ports ≤ base + port_count devices
row_within base [] firsts n are stands = absurd cc
row_within base (d ∷ devices) [] n are stands = absurd are
row_within base (d ∷ devices) (f ∷ firsts) zero {device = device} are stands =
    let same : d ≡ device = cc in
    let many = ap (λ (x : Registers). x.ports) same in
    let start = are.0 in
    omega (arith, many, start)
row_within base (d ∷ devices) (f ∷ firsts) (suc n) {device = device} are stands =
    let rest = row_within (base + d.ports) devices firsts n are.1 stands in
    omega (arith, rest)

-- where the first port stands, by the place that was read
pub first_read : (firsts : List ℕ) {node place first : ℕ} → node < length firsts → place ≡ node
    → first ≡ slice_index_or firsts place first → first ≡ slice_index_or firsts node 0
first_read firsts {place = place} {first = first} within same value =
    value ∙ get_or_default firsts place first 0 (omega (arith, within, same))
    ∙ ap (λ n. slice_index_or firsts n 0) same

-- ---- lists

get-behind : {X : Type 0} (xs ys : List X) (i j : ℕ) → i ≡ length xs + j
    → slice_get (xs ++ ys) i ≡ slice_get ys j
get-behind [] ys i j is = ap (slice_get ys) (omega (arith, is))
get-behind (x ∷ xs) ys zero j is = absurd (omega (arith, is))
get-behind (x ∷ xs) ys (suc i) j is = get-behind xs ys i j (omega (arith, is))

-- so many elements from a place on are replaced
abbrev pub replaced : {X : Type 0} → List X → List X → ℕ → ℕ → List X
replaced all own first count = take first all ++ (own ++ drop (first + count) all)

module _ {X : Type 0} (all own : List X) (first count : ℕ) (within : first + count ≤ length all)
    (many : length own ≡ count) where
  front_length : length (take first all) ≡ first
  front_length = let long = length-take first all in omega (arith, within, long)

  pub length-replaced : length (replaced all own first count) ≡ length all
  length-replaced =
      let front = front_length in
      let back = length-drop (first + count) all in
      let mid = length-append own (drop (first + count) all) in
      let whole = length-append (take first all) (own ++ drop (first + count) all) in
      omega (arith, within, many, front, back, mid, whole)

  pub get-replaced : (j : ℕ) → j < count → slice_get (replaced all own first count) (first + j)
      ≡ slice_get own j
  get-replaced j below =
      let front = front_length in
      get-behind (take first all) (own ++ drop (first + count) all) (first + j) j
      (omega (arith, front))
      ∙ get-append own (drop (first + count) all) j (omega (arith, below, many))

  pub get-before : (k : ℕ) → k < first → slice_get (replaced all own first count) k
      ≡ slice_get all k
  get-before k below =
      let front = front_length in
      get-append (take first all) (own ++ drop (first + count) all) k (omega (arith, below, front))
      ∙ sym (get-append (take first all) (drop first all) k (omega (arith, below, front)))
      ∙ ap (λ l. slice_get l k) (take-append-drop first all)

  pub get-past : (k i : ℕ) → k ≡ first + count + i → slice_get (replaced all own first count) k
      ≡ slice_get all k
  get-past k i is =
      let front = front_length in
      let cut = length-take (first + count) all in
      get-behind (take first all) (own ++ drop (first + count) all) k (count + i)
      (omega (arith, is, front))
      ∙ get-behind own (drop (first + count) all) (count + i) i (omega (arith, many))
      ∙ sym (get-behind (take (first + count) all) (drop (first + count) all) k i
      (omega (arith, is, cut, within)))
      ∙ ap (λ l. slice_get l k) (take-append-drop (first + count) all)

-- what stands in a row
pub get-own : {X : Type 0} (all : List X) (first count j : ℕ) → first + count ≤ length all
    → j < count → slice_get (take count (drop first all)) j ≡ slice_get all (first + j)
get-own all first count j within below =
    let long = length-drop first all in
    let cut = length-take count (drop first all) in
    let front = length-take first all in
    sym (get-append (take count (drop first all)) (drop count (drop first all)) j
    (omega (arith, below, cut, long, within)))
    ∙ ap (λ l. slice_get l j) (take-append-drop count (drop first all))
    ∙ sym (get-behind (take first all) (drop first all) (first + j) j
    (omega (arith, front, within)))
    ∙ ap (λ l. slice_get l (first + j)) (take-append-drop first all)

pub own-length : {X : Type 0} (all : List X) (first count : ℕ) → first + count ≤ length all
    → length (take count (drop first all)) ≡ count
own-length all first count within =
    let long = length-drop first all in
    let cut = length-take count (drop first all) in
    omega (arith, long, cut, within)

-- ---- ports

-- a port of another device stands before the row of this one, or behind it
apart_from_row : (devices : List Registers) (firsts : List ℕ) (node : ℕ) (device : Registers)
    (q : PortRef)
    → AreFirsts 0 devices firsts → slice_get devices node ≡ Some device → IsPortOf devices q
    → q.node ≢ node → (place_of firsts q < slice_index_or firsts node 0)
    ⊎ (slice_index_or firsts node 0 + device.ports ≤ place_of firsts q)
apart_from_row devices firsts node device q are stands has apart =
    elim (cases_lt q.node node) [
      | inl less ↦ inl (before (slice_get devices q.node) refl has less)
      | inr most ↦
          let less : node < q.node = omega (arith, most, apart) in
          let there = (placed devices firsts q are has).device in
          let row = rows_apart 0 devices firsts node q.node device are stands there less in
          inr (omega (arith, row))
    ]
  where
    before : (o : Option Registers) → slice_get devices q.node ≡ o → HasPort o q.port
        → q.node < node
        → place_of firsts q < slice_index_or firsts node 0
    before None is has less = absurd has
    before (Some d) is has less =
        let within = slice_get_within devices node device stands in
        let row = rows_apart 0 devices firsts q.node node d are is within less in
        omega (arith, row, has)

-- the ports of one device have changed
pub row_set : (devices : List Registers) (firsts : List ℕ) (ports own : List PortState) (s t : Seen)
    (node : ℕ) (device : Registers)
    → AreFirsts 0 devices firsts → length ports ≡ port_count devices
    → ArePorts devices firsts ports s → slice_get devices node ≡ Some device
    → length own ≡ device.ports
    → ((j : ℕ) → j < device.ports → slice_get own j ≡ Some (port_seen t (port node j)))
    → ((q : PortRef) → q.node ≢ node → port_seen t q ≡ port_seen s q)
    → ArePorts devices firsts (replaced ports own (slice_index_or firsts node 0) device.ports) t
row_set devices firsts ports own s t node device are count shown stands many becomes others q has =
    by_node (cases_eq q.node node)
  where
    within : slice_index_or firsts node 0 + device.ports ≤ length ports
    within = let row = row_within 0 devices firsts node are stands in
        omega (arith, row, count)

    all : List PortState
    all = replaced ports own (slice_index_or firsts node 0) device.ports

    stays : q.node ≢ node → slice_get all (place_of firsts q) ≡ slice_get ports (place_of firsts q)
        → slice_get all (place_of firsts q) ≡ Some (port_seen t q)
    stays apart same = same ∙ shown q has ∙ ap Some (sym (others q apart))

    by_node : ((q.node ≡ node) ⊎ (q.node ≡ node → ⊥))
        → slice_get all (place_of firsts q) ≡ Some (port_seen t q)
    by_node (inl same) =
        let below : q.port < device.ports =
        subst (λ o. HasPort o q.port) (ap (slice_get devices) same ∙ stands) has in
        ap (λ n. slice_get all (slice_index_or firsts n 0 + q.port)) same
        ∙ get-replaced ports own (slice_index_or firsts node 0) device.ports within many q.port
        below
        ∙ becomes q.port below ∙ ap (λ n. Some (port_seen t (port n q.port))) (sym same)
    by_node (inr apart) =
        elim (apart_from_row devices firsts node device q are stands has apart) [
          | inl low ↦ stays apart
              (get-before ports own (slice_index_or firsts node 0) device.ports within many
              (place_of firsts q) low)
          | inr high ↦ stays apart
              (get-past ports own (slice_index_or firsts node 0) device.ports within many
              (place_of firsts q)
              (place_of firsts q - (slice_index_or firsts node 0 + device.ports))
              (omega (arith, high)))
        ]
