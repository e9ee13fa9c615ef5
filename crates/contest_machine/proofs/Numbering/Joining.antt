-- A switch that a walker keeps is set up: it is in the list, and the walker is on its way behind
-- it.
use Rattle.contest_machine.proofs.Prelude.{◌≡◌, ℕ, zero, suc, ◌+◌, ◌<◌, ◌==◌, Bool, true, false, eqb, List, [], ◌∷◌, ◌++◌, length, Some, Contains, arith, ◌⊎◌, inl, inr, subst, sym, refl, ap, ◌∙◌, if◌then◌else◌, eqb-true, Contains-append_left, Contains-append_right, PortRef, Registers, Switch, Device, entered, onward, AllRegisters, Fits, IsNext, paths_of, entered-inside, entered-port, paths_of-push, node_at-entered, Contains-first, met_as, IsUnmet, IsUnderway, registers_with, SwitchIsSetUp, same_Some, with_device-at, with_device-other, underway-entry, IsTaken, underway-switch, PendingWrite, Information, Walker, home_set, entry_set, cleared_below, switch_set_up}
use Rattle.contest_machine.proofs.Numbering.OnWay.{performed, taken_as, IsListed, IsApart, IsOnWay, not_foreign}
use Rattle.contest_machine.proofs.Keeping.Stepped.{at_stage}
use Rattle.contest_machine.proofs.Numbering.Settling.{AreAt, performed-one, after-home, device_after}

at-append : (path : List ℕ) (first second : List PendingWrite) → AreAt path first
    → AreAt path second
    → AreAt path (first ++ second)
at-append path [] second are more = more
at-append path (p ∷ rest) second are more = (are.0, at-append path rest second are.1 more)

at-cleared : (path : List ℕ) (host_id n : ℕ) → AreAt path (cleared_below path host_id n)
at-cleared path host_id zero = tt
at-cleared path host_id (suc n) =
    at-append path (cleared_below path host_id n)
    (if n == host_id then [] else entry_set path n 255)
    (at-cleared path host_id n) (go (eqb n host_id))
  where
    go : (b : Bool) → AreAt path (if b then [] else entry_set path n 255)
    go true = tt
    go false = (refl, (refl, tt))

pub at-home : (path : List ℕ) (host_id entry : ℕ) → AreAt path (home_set path host_id entry)
at-home path host_id entry = (
  refl,
  at-append path (cleared_below path host_id 63) (entry_set path host_id entry)
      (at-cleared path host_id 63) (refl, (refl, tt)),
)

module _ (w : Walker) (now : AllRegisters) (at : PortRef) (ports : ℕ)
    (way : IsOnWay (at_stage w Information) now) (fits : Fits w.view now)
    (small : w.id < 255)
    (enters : entered w.view w.path ≡ Some at)
    (kind : w.view.switch_ports at.node ≡ Some ports)
    (is_next : IsNext (paths_of w.devices) w.path)
    (front : List ℕ) (by : ℕ) (whole : w.path ≡ onward front by) where
  -- what the device was when it was claimed
  taken : IsTaken w.id w.devices (way.before at.node) (now at.node)
  taken =
      let fresh = way.fresh at.node (node_at-entered w.view w.path at enters) in
      subst (λ d. IsTaken w.id w.devices (way.before at.node) d)
      (sym (fresh.1 ∙ (ap (λ p. taken_as p w.id (length w.devices + 1) (way.before at.node)) whole
      ∙ behind front by (way.before at.node))))
      (record {
        lock = refl;
        tag = refl;
        not_foreign = not_foreign w.id (way.before at.node) fresh.0;
        changes = record {
          rest = refl;
          routes = λ id most less apart. refl;
        };
      })
    where
      behind : (front : List ℕ) (by : ℕ) (device : Registers)
          → taken_as (onward front by) w.id (length w.devices + 1) device
          ≡ record device { lock = w.id; tag = length w.devices + 1 }
      behind [] by device = refl
      behind (x ∷ front) by device = refl

  unmet : IsUnmet w.view w.devices at.node
  unmet = way.new at.node (node_at-entered w.view w.path at enters)

  abbrev devices : List Device
  devices = w.devices ++ met_as w.devices (Switch ports at.port) w.path ∷ []

  is_after : (node : ℕ) → performed w.view now (home_set w.path w.id at.port) node
      ≡ registers_with now at.node
      (device_after (now at.node) at.port (home_set w.path w.id at.port)) node
  is_after node = performed-one w.view w.path at (home_set w.path w.id at.port) now enters
      (at-home w.path w.id at.port) node

  pub taken_in : IsUnderway w.view way.before (performed w.view now (home_set w.path w.id at.port))
      w.id devices w.next (onward w.path 0)
  taken_in =
      let inside = entered-inside w.view w.path at way.underway.proper enters in
      let port = entered-port w.view w.path at way.underway.proper enters in
      let device = fits.devices at.node inside in
      let few = device.most_ports in
      let count = fits.ports at.node inside in
      underway-switch w.view way.before way.seen
      (performed w.view now (home_set w.path w.id at.port)) w.id w.next w.devices w.path at
      way.underway is_next enters unmet ports (now at.node) kind taken
      (subst (λ d. SwitchIsSetUp w.id at.port (now at.node) d)
      (sym (is_after at.node ∙ with_device-at now at.node _))
      (after-home (now at.node) at.port w.path w.id at.port
      (fits.switches at.node ports inside kind)
      device.destinations small (omega (arith, port.port, few, count))))
      (λ node apart.
      is_after node ∙ (with_device-other now at.node node _ apart
      ∙ sym (way.seen_is node (λ at_path.
      apart (same_Some node at.node (sym at_path ∙ node_at-entered w.view w.path at enters))))))

  -- the first port that is tried is not the port of entry
  pub set_up_way : IsOnWay (switch_set_up (at_stage w Information) ports at.port) now
  set_up_way = record {
    before = way.before;
    seen = performed w.view now (home_set w.path w.id at.port);
    underway = go (eqb at.port 0) refl;
    seen_is = λ node none. refl;
    new = λ node none. absurd none;
    hosted = way_hosted way.hosted;
    fresh = tt;
  }
    where
      listed : Contains (paths_of devices) w.path
      listed =
          subst (λ l. Contains l w.path)
          (sym (paths_of-push w.devices (met_as w.devices (Switch ports at.port) w.path)))
          (Contains-append_right (paths_of w.devices) (w.path ∷ []) w.path
          (Contains-first w.path []))

      go : (b : Bool) → eqb at.port 0 ≡ b → IsUnderway w.view way.before
          (performed w.view now (home_set w.path w.id at.port)) w.id devices w.next
          (onward w.path (if b then 1 else 0))
      go false other = taken_in
      go true same =
          subst (λ l. IsUnderway w.view way.before
          (performed w.view now (home_set w.path w.id at.port)) w.id devices w.next (onward l 1))
          (sym whole)
          (subst (λ n. IsUnderway w.view way.before
          (performed w.view now (home_set w.path w.id at.port)) w.id devices w.next
          (onward (onward front by) (n + 1))) (eqb-true at.port 0 same)
          (underway-entry w.view way.before
          (performed w.view now (home_set w.path w.id at.port)) w.id w.next devices front at by
          (subst (λ n. IsUnderway w.view way.before
          (performed w.view now (home_set w.path w.id at.port)) w.id devices w.next
          (onward (onward front by) n)) (sym (eqb-true at.port 0 same))
          (subst (λ l. IsUnderway w.view way.before
          (performed w.view now (home_set w.path w.id at.port)) w.id devices w.next
          (onward l 0)) whole taken_in))
          (subst (λ l. Contains (paths_of devices) l) whole listed)
          (ap (λ l. entered w.view l) (sym whole) ∙ enters)))

      way_hosted : IsListed w.view w.devices w.view.host
          ⊎ IsApart (at_stage w Information) Information w.view.host
          → IsListed w.view devices w.view.host ⊎ ⊥
      way_hosted (inl member) = inl (
        member.0,
        Contains-append_left w.devices (met_as w.devices (Switch ports at.port) w.path ∷ [])
            member.0 member.1,
        member.2,
      )
      way_hosted (inr apart) = inl (
        met_as w.devices (Switch ports at.port) w.path,
        Contains-append_right w.devices (met_as w.devices (Switch ports at.port) w.path ∷ [])
            (met_as w.devices (Switch ports at.port) w.path)
            (Contains-first (met_as w.devices (Switch ports at.port) w.path) []),
        apart,
      )
