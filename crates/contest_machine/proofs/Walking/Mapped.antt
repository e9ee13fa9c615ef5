-- A host that walks alone and is done has numbered the fabric from its first registers on.
use Rattle.std.specs.Prelude.{Ok}
use Rattle.contest_machine.proofs.Prelude.{◌≡◌, ℕ, [], ◌∷◌, Contains, subst, sym, refl, ap, ◌∙◌, Device, Topology, node_at, IsReached, entries_of, IsNumbered, IsForeign, device_on, State, HasNumbered, KeepsItsMap}
use Rattle.fabric_map.specs.Numbered.{IsMap, IsMarked, ChangesOnly}
use Rattle.fabric_map.specs.declared.map.Map.{Map}
use Rattle.host_enumerate.specs.Ends.{IsLockFree}
use Rattle.host_enumerate.specs.Enumerated.{IsEnumerated}
use Rattle.contest_machine.specs.AloneWalks.{accesses_on, BeginsAlone, IsMapOfWalker, AloneNumbers}
use Rattle.contest_machine.proofs.Walking.Beside.{idler, view_on, id_on, outside_on, inside_on, done_map_on}
use Rattle.contest_machine.proofs.Walking.Onward.{StandsAlone, locks_till, stands_on}

module _ (state : State) (begins : BeginsAlone state) (n : ℕ)
    (done : HasNumbered (accesses_on state n).walker) where
  abbrev last : State
  last = accesses_on state n

  abbrev view : Topology
  view = last.walker.view

  stands : StandsAlone state.registers (idler state) (locks_till state n) last
  stands = stands_on state begins n

  own_map : KeepsItsMap last.walker last.registers
  own_map = done_map_on state begins n done

  lock_own : (node : ℕ) → IsReached view node → (last.registers node).lock ≡ state.walker.id
  lock_own node reached =
      stands.sound.fair.contest.first.locks node (own_map.keeps node reached) ∙ id_on state begins n

  -- the lock that the host wrote to itself is its ID
  same_id : (own_map.before view.host).base_id ≡ (state.registers state.walker.view.host).base_id
  same_id =
      sym (own_map.numbered.marked found.0 view.host found.1
      (ap (λ p. node_at view p) found.2)).lock
      ∙ (lock_own view.host ([], refl) ∙ sym begins.id)
    where
      found : (device : Device) × Contains last.walker.devices device × (device.path ≡ [])
      found = device_on last.walker.devices []
          (own_map.numbered.map.walked.host_met tt)

  numbered_from : IsNumbered view last.walker.devices (entries_of last.walker.devices)
      state.registers last.registers
  numbered_from = record {
    map = subst (λ i. IsMap view i last.walker.devices (entries_of last.walker.devices)) is
        own_map.numbered.map;
    marked = λ device node listed leads.
        subst (λ i. IsMarked i device (last.registers node)) is
        (own_map.numbered.marked device node listed leads);
    tables = own_map.numbered.tables;
    routed = own_map.numbered.routed;
    outside = λ node apart.
        outside_on state begins n node
        (subst (λ v. ¬ IsReached v node) (view_on state begins n) apart);
    inside = λ node reached.
        subst (λ i. ChangesOnly (i ∷ []) (state.registers node) (last.registers node))
        (sym (ap (λ v. (state.registers v).base_id)
        (ap (λ (v : Topology). v.host) (view_on state begins n)) ∙ begins.id))
        (inside_on state begins n node);
  }
    where
      is : (own_map.before view.host).base_id ≡ (state.registers view.host).base_id
      is = same_id ∙ ap (λ (v : Topology). (state.registers v.host).base_id)
          (sym (view_on state begins n))

  none_foreign : IsLockFree view state.registers
  none_foreign node reached foreign =
      foreign_own.1
      (sym (stands.foreign node foreign_own)
      ∙ (lock_own node reached ∙ sym (id_on state begins n)))
    where
      foreign_own : IsForeign last.walker.id (state.registers node).lock
      foreign_own =
          subst (λ i. IsForeign i (state.registers node).lock)
          (ap (λ (v : Topology). (state.registers v.host).base_id) (view_on state begins n)
          ∙ (begins.id ∙ sym (id_on state begins n))) foreign

  pub numbered_alone : (map : Map) → IsMapOfWalker last map
      → IsEnumerated state.walker.view state.registers last.registers (Ok map)
  numbered_alone map is = (
    subst (λ v. IsNumbered v map.devices.items map.entries.items state.registers last.registers)
        (view_on state begins n)
        (subst (λ d. IsNumbered view d map.entries.items state.registers last.registers)
        (sym is.devices)
        (subst (λ e. IsNumbered view last.walker.devices e state.registers last.registers)
        (sym is.entries) numbered_from)),
    subst (λ v. IsLockFree v state.registers) (view_on state begins n) none_foreign,
  )

pub alone_numbers : AloneNumbers
alone_numbers state n map begins done is = numbered_alone state begins n done map is
