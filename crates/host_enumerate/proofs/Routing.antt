-- The entries of an ID are set along a path, one switch after another.
use Rattle.host_enumerate.proofs.Prelude.{rules, ◌≡◌, ◌≢◌, ℕ, ◌-◌, ◌≤◌, ◌<◌, ◌==◌, Bool, true, false, List, [], ◌∷◌, ◌++◌, length, take, drop, get_or, Option, Some, None, arith, refl, sym, ap, subst, ◌∙◌, eqb-true, append_assoc, append-nil, if◌then◌else◌, ◌&&◌, nat_lt, option_and_then, eqb-false, take_all, PortRef, port_at, Registers, is_switch, next_port, port_named, next-same, entry-set_other, Topology, behind_port, along, entered, onward, AllRegisters, IsOpened, IsAskable, IsApart, PassesOnce, Becomes, with_entry, PathPasses, AreRouted}
use Rattle.host_enumerate.proofs.Opening.{SendsAs, opened-as, base_id_stays, became, stays, same_end}

-- a path that leads on enters a device before
along_front : (topology : Topology) (at : PortRef) (front rest : List ℕ) (last : PortRef)
    → along topology at (front ++ rest) ≡ Some last
    → (mid : PortRef) × (along topology at front ≡ Some mid)
along_front topology at [] rest last leads = (at, refl)
along_front topology at (x ∷ front) rest last leads =
    go (behind_port topology at.node x) leads
    (λ next on. along_front topology next front rest last on)
  where
    go : (o : Option PortRef)
        → option_and_then (λ next. along topology next (front ++ rest)) o ≡ Some last
        → ((next : PortRef) → along topology next (front ++ rest) ≡ Some last
        → (mid : PortRef) × (along topology next front ≡ Some mid))
        → (mid : PortRef) × (option_and_then (λ next. along topology next front) o ≡ Some mid)
    go None leads on = absurd (cc)
    go (Some next) leads on = on next leads

pub enters_before : (topology : Topology) (front rest : List ℕ) (last : PortRef)
    → entered topology (front ++ rest) ≡ Some last
    → (mid : PortRef) × (entered topology front ≡ Some mid)
enters_before topology front rest last leads = along_front topology
    (port_at topology.host 0) front rest last leads

-- what is open for a path is open for its front
pub opened-front : (topology : Topology) (registers : AllRegisters) (host_id : ℕ)
    (front rest : List ℕ) → IsOpened topology registers host_id (front ++ rest)
    → IsOpened topology registers host_id front
opened-front topology registers host_id front rest opened = record {
  onwards = λ first before later port at is enters.
      opened.onwards first before (later ++ rest) port at (longer first before later port is)
      enters;
  home = λ first before later port at is enters.
      opened.home first before (later ++ rest) port at (longer first before later port is) enters;
  not_host = λ first before later port at is enters.
      opened.not_host first before (later ++ rest) port at (longer first before later port is)
      enters;
}
  where
    longer : (first : ℕ) (before later : List ℕ) (port : ℕ)
        → front ≡ first ∷ before ++ port ∷ later
        → front ++ rest ≡ first ∷ before ++ port ∷ (later ++ rest)
    longer first before later port is =
        ap (λ l. l ++ rest) is
        ∙ ap (λ l. first ∷ l) (append_assoc before (port ∷ later) rest)

-- whatever sends a packet is a switch
pub sends_is_switch : (device : Registers) (dest port : ℕ) → next_port device dest ≡ Some port
    → is_switch device ≡ true
sends_is_switch device dest port sends = go (is_switch device) refl
    (nat_lt (port_named device dest) device.ports) sends
  where
    go : (is : Bool) → is_switch device ≡ is → (less : Bool)
        → (if is && less then Some (port_named device dest) else None) ≡ Some port
        → is_switch device ≡ true
    go true is less found = is
    go false is less found = absurd (cc)

shorter : (front rest : List ℕ) (port most : ℕ) → length (front ++ port ∷ rest) ≤ most
    → length front ≤ most
shorter [] rest port most short = omega arith
shorter (x ∷ front) rest port most short = go front (port ∷ rest) most short
  where
    go : (front rest : List ℕ) (most : ℕ) → length (x ∷ front ++ rest) ≤ most
        → length (x ∷ front) ≤ most
    go front rest most short = omega (arith, short, length_of front rest)
      where
        length_of : (l m : List ℕ) → length l ≤ length (l ++ m)
        length_of [] m = omega arith
        length_of (y ∷ l) m = omega (arith, length_of l m)

-- each switch that a path passes can be asked for itself
pub passed_askable : {topology : Topology} {registers : AllRegisters} {host_id : ℕ} (first port : ℕ)
    (front rest : List ℕ) {at mid : PortRef}
    → IsAskable topology registers host_id (first ∷ front ++ port ∷ rest) at
    → entered topology (first ∷ front) ≡ Some mid
    → IsAskable topology registers host_id (first ∷ front) mid
passed_askable {topology} {registers} {host_id} first port front rest {at} {mid} askable enters =
    record {
      id = askable.id;
      opened = opened-front topology registers host_id (first ∷ front) (port ∷ rest) askable.opened;
      leads = enters;
      not_host = λ is. absurd (askable.opened.not_host first front rest port mid refl enters is);
      short = shorter (first ∷ front) rest port 64 askable.short;
    }

pub passed_switch : {topology : Topology} {registers : AllRegisters} {host_id : ℕ} (first port : ℕ)
    (front rest : List ℕ) {at mid : PortRef}
    → IsAskable topology registers host_id (first ∷ front ++ port ∷ rest) at
    → entered topology (first ∷ front) ≡ Some mid
    → is_switch (registers mid.node) ≡ true
passed_switch {topology} {registers} {host_id} first port front rest {at} {mid} askable enters =
    sends_is_switch (registers mid.node) 255 port
    (askable.opened.onwards first front rest port mid refl enters)

-- an entry of another destination does not matter
pub entry_sends : (device : Registers) (id port dest : ℕ) → dest ≢ id
    → next_port (with_entry device id port) dest ≡ next_port device dest
entry_sends device id port dest other =
    next-same device (with_entry device id port) dest refl refl refl
    (entry-set_other device.routes id dest port other)

pub opened-entry : (topology : Topology) (old new : AllRegisters) (host_id node id port : ℕ)
    (path : List ℕ) → IsOpened topology old host_id path
    → Becomes old new node (with_entry (old node) id port) → 255 ≢ id → host_id ≢ id
    → IsOpened topology new host_id path
unfolding SendsAs
opened-entry topology old new host_id node id port path opened becomes not_all not_host =
    opened-as new opened (λ first front rest by at is enters. go at.node (at.node == node) refl)
  where
    go : (other : ℕ) (is : Bool) → (other == node) ≡ is
        → (next_port (new other) 255 ≡ next_port (old other) 255)
        × (next_port (new other) host_id ≡ next_port (old other) host_id)
    go other true is =
        let same = eqb-true other node is in
        let there : new other ≡ with_entry (old other) id port =
        subst (λ n. new n ≡ with_entry (old n) id port) (sym same)
        (became old new node (with_entry (old node) id port) becomes) in (
          ap (λ d. next_port d 255) there ∙ entry_sends (old other) id port 255 not_all,
          ap (λ d. next_port d host_id) there ∙ entry_sends (old other) id port host_id not_host,
        )
    go other false is =
        let there = stays old new node other (with_entry (old node) id port) becomes
        (eqb-false other node is) in
        (ap (λ d. next_port d 255) there, ap (λ d. next_port d host_id) there)

pub askable-entry : {topology : Topology} {old : AllRegisters} (new : AllRegisters) {host_id : ℕ}
    (node id port : ℕ) {path : List ℕ} {at : PortRef} → IsAskable topology old host_id path at
    → Becomes old new node (with_entry (old node) id port) → 255 ≢ id → host_id ≢ id
    → IsAskable topology new host_id path at
askable-entry {topology} {old} new {host_id} node id port {path} {at} askable becomes not_all
    not_host =
    search (
      rules,
      base_id_stays topology old new node (with_entry (old node) id port) becomes (λ _. refl)
          ∙ askable.id,
      opened-entry topology old new host_id node id port path askable.opened becomes not_all
          not_host,
    )

-- one switch, and then the others
module _ {topology : Topology} (old : AllRegisters) {mid new : AllRegisters} {first : ℕ} (port : ℕ)
    {id : ℕ}
    (front : List ℕ) {rest : List ℕ} {at : PortRef}
    (once : PassesOnce topology (first ∷ front ++ port ∷ rest))
    (enters : entered topology (first ∷ front) ≡ Some at)
    (one : Becomes old mid at.node (with_entry (old at.node) id port))
    (others : AreRouted topology mid new (first ∷ front ++ port ∷ []) rest id) where
  -- no later switch is this one
  later_apart : (node by : ℕ) → PathPasses topology (first ∷ front ++ port ∷ []) rest node by
      → at.node ≢ node
  later_apart node by (between, later, there, is, enters_there, same) is_node =
      once first (front ++ port ∷ between) later by there whole
      (ap (λ l. entered topology (first ∷ l)) (sym (append_assoc front (port ∷ []) between))
      ∙ enters_there)
      first front between port at refl enters (is_node ∙ sym same)
    where
      whole : first ∷ front ++ port ∷ rest ≡ first ∷ (front ++ port ∷ between) ++ by ∷ later
      whole =
          ap (λ l. first ∷ front ++ port ∷ l) is
          ∙ ap (λ l. first ∷ l) (sym (append_assoc front (port ∷ between) (by ∷ later)))

  pub routed-one : AreRouted topology old new (first ∷ front) (port ∷ rest) id
  routed-one = record {
    passed = λ node by passes. go node by passes.0 passes.1 passes.2 passes.3 passes.4 passes.5;
    others = λ node not.
        others.others node (λ by passes. not by (further node by passes))
        ∙ stays old mid at.node node (with_entry (old at.node) id port) one
        (λ same. not port (
          [],
          rest,
          at,
          refl,
          ap (λ l. entered topology (first ∷ l)) (append-nil front) ∙ enters,
          sym same,
        ));
  }
    where
      further : (node by : ℕ) → PathPasses topology (first ∷ front ++ port ∷ []) rest node by
          → PathPasses topology (first ∷ front) (port ∷ rest) node by
      further node by passes = (
        port ∷ passes.0,
        passes.1,
        passes.2,
        ap (λ l. port ∷ l) passes.3,
        ap (λ l. entered topology (first ∷ l)) (sym (append_assoc front (port ∷ []) passes.0))
            ∙ passes.4,
        passes.5,
      )

      here : (node by : ℕ) (later : List ℕ) (there : PortRef) → port ∷ rest ≡ by ∷ later
          → entered topology (first ∷ front ++ []) ≡ Some there → there.node ≡ node
          → new node ≡ with_entry (old node) id by
      here node by later there is enters_there same =
          let this : at ≡ there = same_end topology (first ∷ front) at there enters
          (ap (λ l. entered topology (first ∷ l)) (sym (append-nil front)) ∙ enters_there) in
          let is_node : at.node ≡ node = ap (λ (p : PortRef). p.node) this ∙ same in
          let is_port : port ≡ by = first_same is in
          others.others node (λ x passes. later_apart node x passes is_node)
          ∙ subst (λ n. mid n ≡ with_entry (old n) id by) is_node
          (became old mid at.node (with_entry (old at.node) id port) one
          ∙ ap (λ n. with_entry (old at.node) id n) is_port)
        where
          first_same : port ∷ rest ≡ by ∷ later → port ≡ by
          first_same same = cc

      go : (node by : ℕ) (between later : List ℕ) (there : PortRef)
          → port ∷ rest ≡ between ++ by ∷ later
          → entered topology (first ∷ front ++ between) ≡ Some there → there.node ≡ node
          → new node ≡ with_entry (old node) id by
      go node by [] later there is enters_there same = here node by later there is enters_there same
      go node by (x ∷ between) later there is enters_there same =
          others.passed node by passes
          ∙ ap (λ d. with_entry d id by)
          (stays old mid at.node node (with_entry (old at.node) id port) one
          (λ is_node. later_apart node by passes (sym is_node)))
        where
          is_rest : rest ≡ between ++ by ∷ later
          is_rest = cc

          is_port : x ≡ port
          is_port = cc

          passes : PathPasses topology (first ∷ front ++ port ∷ []) rest node by
          passes = (
            between,
            later,
            there,
            is_rest,
            ap (λ l. entered topology (first ∷ l)) (append_assoc front (port ∷ []) between
                ∙ ap (λ n. front ++ n ∷ between) (sym is_port)) ∙ enters_there,
            same,
          )

-- a path that goes on by one port, and then further
pub joined : (front next whole tail : List ℕ) (port : ℕ) → next ≡ onward front port
    → whole ≡ port ∷ tail → front ++ whole ≡ next ++ tail
joined front next whole tail port is_next is_whole =
    ap (λ l. front ++ l) is_whole
    ∙ (sym (append_assoc front (port ∷ []) tail) ∙ ap (λ l. l ++ tail) (sym is_next))

-- The switch at the front of a path can be asked to send on.
pub front_askable : {topology : Topology} {registers : AllRegisters} {host_id : ℕ}
    (front : List ℕ) {whole tail : List ℕ} {port : ℕ} {at : PortRef} → front ≢ []
    → whole ≡ port ∷ tail
    → IsAskable topology registers host_id (front ++ whole) at
    → PassesOnce topology (front ++ whole)
    → (mid : PortRef) × IsAskable topology registers host_id front mid
    × IsApart topology front mid.node × (is_switch (registers mid.node) ≡ true)
front_askable {topology} {registers} {host_id} [] {whole} {tail} {port} {at} some is askable once =
    absurd (some refl)
front_askable {topology} {registers} {host_id} (first ∷ front) {whole} {tail} {port}
    {at} some is askable once =
    go (enters_before topology (first ∷ front) whole at askable.leads)
  where
    asked : IsAskable topology registers host_id (first ∷ front ++ port ∷ tail) at
    asked = subst (λ l. IsAskable topology registers host_id (first ∷ front ++ l) at) is askable

    go : (mid : PortRef) × (entered topology (first ∷ front) ≡ Some mid)
        → (mid : PortRef) × IsAskable topology registers host_id (first ∷ front) mid
        × IsApart topology (first ∷ front) mid.node × (is_switch (registers mid.node) ≡ true)
    go (mid, enters) = (
      mid,
      passed_askable first port front tail asked enters,
      once first front tail port mid (ap (λ l. first ∷ front ++ l) is) enters,
      passed_switch first port front tail asked enters,
    )

-- and when it was, so can the next one
pub next_askable : {topology now : Topology} {old : AllRegisters} (new : AllRegisters) {host_id : ℕ}
    (id : ℕ) (front : List ℕ) {next whole tail : List ℕ} {port : ℕ} {at : PortRef} (mid : PortRef)
    → now ≡ topology
    → next ≡ onward front port → whole ≡ port ∷ tail → id < 255 → host_id ≢ id
    → IsAskable topology old host_id (front ++ whole) at
    → Becomes old new mid.node (with_entry (old mid.node) id port)
    → IsAskable now new host_id (next ++ tail) at
next_askable {topology} {now} {old} new {host_id} id front {next} {whole} {tail} {port}
    {at} mid is_now is_next is
    fits not_host askable becomes =
    subst (λ t. IsAskable t new host_id (next ++ tail) at) (sym is_now)
    (askable-entry new mid.node id port (subst (λ l. IsAskable topology old host_id l at)
    (joined front next whole tail port is_next is) askable) becomes
    (λ same. absurd (omega (arith, same, fits))) not_host)

pub next_once : {topology now : Topology} (front : List ℕ) {next whole tail : List ℕ} {port : ℕ}
    → now ≡ topology → next ≡ onward front port → whole ≡ port ∷ tail
    → PassesOnce topology (front ++ whole) → PassesOnce now (next ++ tail)
next_once {topology} {now} front {next} {whole} {tail} {port} is_now is_next is once =
    subst (λ t. PassesOnce t (next ++ tail)) (sym is_now)
    (subst (λ l. PassesOnce topology l) (joined front next whole tail port is_next is) once)

pub routed-step : {topology now : Topology} (old : AllRegisters) {mid new : AllRegisters}
    {id port : ℕ}
    (front : List ℕ) {next whole tail : List ℕ} {at : PortRef} → front ≢ [] → now ≡ topology
    → next ≡ onward front port → whole ≡ port ∷ tail → PassesOnce topology (front ++ whole)
    → entered topology front ≡ Some at
    → Becomes old mid at.node (with_entry (old at.node) id port)
    → AreRouted now mid new next tail id → AreRouted topology old new front whole id
routed-step {topology} {now} old {mid} {new} {id} {port} [] {next} {whole} {tail}
    {at} some is_now is_next is once
    enters one others = absurd (some refl)
routed-step {topology} {now} old {mid} {new} {id} {port} (first ∷ front) {next} {whole} {tail}
    {at} some is_now is_next
    is once enters one others =
    subst (λ l. AreRouted topology old new (first ∷ front) l id) (sym is)
    (routed-one old port front
    (subst (λ l. PassesOnce topology (first ∷ front ++ l)) is once) enters one
    (subst (λ l. AreRouted topology mid new l tail id) is_next
    (subst (λ t. AreRouted t mid new next tail id) is_now others)))

pub split : (whole : List ℕ) → 1 ≤ length whole
    → whole ≡ get_or whole 0 0 ∷ take (length whole - 1) (drop 1 whole)
split [] some = absurd (omega (arith, some))
split (x ∷ xs) some = ap (λ l. x ∷ l) (sym (take_all (length (x ∷ xs) - 1) xs (omega arith)))
