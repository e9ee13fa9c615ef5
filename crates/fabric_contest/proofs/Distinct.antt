-- The endpoints of a script that passes have different IDs, and each device has a name.
use Rattle.std.proofs.Common.{◌≡◌, ◌≢◌, ℕ, zero, suc, ◌<◌, ◌==◌, ◌&&◌, not, Bool, true, false, List, [], ◌∷◌, ◌++◌, map, length, slice_get, Option, Some, None, option_map, if◌then◌else◌, arith, ◌⊎◌, inl, inr, refl, sym, ap, subst, ◌∙◌}
use Rattle.std.proofs.lemmas.Bool.{or_parts, eqb-true, eqb-false}
use Rattle.std.proofs.lemmas.List.{map-append, length-map}
use Rattle.std.proofs.lemmas.Option.{same_Some, slice_get-map, slice_get-get_or}
use Rattle.maint_registers.specs.Devices.{Registers, is_switch, new_endpoint}
use Rattle.maint_registers.specs.Changes.{linked_at, routed, defaulted, held_by, large_set}
use Rattle.maint_registers.proofs.ChangeLaws.{map-with_device}
use Rattle.fabric_script.specs.declared.known.Node.{Node}
use Rattle.fabric_script.specs.declared.known.Node.TheVariants.{Endpoint as AnEndpoint, Switch as ASwitch}
use Rattle.fabric_script.specs.declared.lines.Line.{Line}
use Rattle.fabric_script.specs.declared.lines.Line.TheVariants.{Endpoint, Switch, Link, Route, Default, Lock, Large}
use Rattle.fabric_script.specs.declared.lines.Numbered.{Numbered}
use Rattle.fabric_script.specs.declared.reasons.Reason.TheVariants.{IdTaken}
use Rattle.fabric_script.specs.Lines.{new_name}
use Rattle.fabric_script.specs.Known.{Known, nothing, known_after, nodes_after, node_is_switch, has_id}
use Rattle.fabric_script.specs.Reading.{IsFree}
use Rattle.fabric_script.specs.Scripts.{ScriptPasses, PassesFrom}
use Rattle.fabric_map.specs.Plain.{registers_of}
use Rattle.host_enumerate.specs.Devised.{IsHost, with_linked_end, devices_of, links_of, devices_after, devices_after_all}
use Rattle.host_enumerate.proofs.Devised.{stage_after_all, first_stage}
use Rattle.host_enumerate.proofs.NewFabrics.{devised_fabric}

-- the ID of an endpoint
abbrev id_in : Registers → Option ℕ
id_in device = if is_switch device then None else Some device.base_id

abbrev id_at : Node → Option ℕ
id_at (AnEndpoint id) = Some id
id_at (ASwitch ports) = None

-- no ID stands at two places, but for 255
abbrev AreOnly : List (Option ℕ) → Type 0
AreOnly ids = (m n id : ℕ) → slice_get ids m ≡ Some (Some id) → slice_get ids n ≡ Some (Some id)
    → id ≢ 255 → m ≡ n

-- ---- one more ID

at_end : (ids : List (Option ℕ)) (x : Option ℕ) (n : ℕ) (y : Option ℕ)
    → slice_get (ids ++ x ∷ []) n ≡ Some y
    → (slice_get ids n ≡ Some y) ⊎ ((n ≡ length ids) × (x ≡ y))
at_end [] x zero y is = inr (refl, same_Some x y is)
at_end [] x (suc n) y is = absurd (cc)
at_end (i ∷ ids) x zero y is = inl is
at_end (i ∷ ids) x (suc n) y is = go (at_end ids x n y is)
  where
    go : (slice_get ids n ≡ Some y) ⊎ ((n ≡ length ids) × (x ≡ y))
        → (slice_get ids n ≡ Some y) ⊎ ((suc n ≡ suc (length ids)) × (x ≡ y))
    go (inl here) = inl here
    go (inr last) = inr (ap suc last.0, last.1)

longer : (ids : List (Option ℕ)) (x : Option ℕ) → AreOnly ids
    → ((n id : ℕ) → id ≢ 255 → x ≡ Some id → slice_get ids n ≢ Some (Some id))
    → AreOnly (ids ++ x ∷ [])
longer ids x only new m n id first second has =
    go (at_end ids x m (Some id) first) (at_end ids x n (Some id) second)
  where
    go : (slice_get ids m ≡ Some (Some id)) ⊎ ((m ≡ length ids) × (x ≡ Some id))
        → (slice_get ids n ≡ Some (Some id)) ⊎ ((n ≡ length ids) × (x ≡ Some id)) → m ≡ n
    go (inl a) (inl b) = only m n id a b has
    go (inl a) (inr b) = absurd (new m id has b.1 a)
    go (inr a) (inl b) = absurd (new n id has a.1 b)
    go (inr a) (inr b) = a.0 ∙ sym b.0

no_id : (nodes : List Node) (id : ℕ) → has_id nodes id ≡ false → (n : ℕ)
    → slice_get (map id_at nodes) n ≢ Some (Some id)
no_id [] id none n = λ is. cc
no_id (AnEndpoint other ∷ nodes) id none zero =
    let parts = or_parts (other == id) (has_id nodes id) none in
    λ is. eqb-false other id parts.0
    (same_Some other id (same_Some (Some other) (Some id) is))
no_id (AnEndpoint other ∷ nodes) id none (suc n) =
    no_id nodes id (or_parts (other == id) (has_id nodes id) none).1 n
no_id (ASwitch ports ∷ nodes) id none zero = λ is. cc
no_id (ASwitch ports ∷ nodes) id none (suc n) = no_id nodes id none n

-- ---- line by line

ids_after : (known : Known) (devices : List Registers) (line : Line)
    → map id_in devices ≡ map id_at known.nodes
    → map id_in (devices_after devices line) ≡ map id_at (nodes_after known.nodes line)
ids_after known devices (Endpoint name id) same =
    map-append id_in devices _ ∙ (ap (λ l. l ++ Some id ∷ []) same
    ∙ sym (map-append id_at known.nodes _))
ids_after known devices (Switch name ports) same =
    map-append id_in devices _ ∙ (ap (λ l. l ++ None ∷ []) same
    ∙ sym (map-append id_at known.nodes _))
ids_after known devices (Link a b) same =
    map-with_device id_in (with_linked_end devices a) b.node (linked_at b.port) (λ d. refl)
    ∙ (map-with_device id_in devices a.node (linked_at a.port) (λ d. refl) ∙ same)
ids_after known devices (Route node id p) same =
    map-with_device id_in devices node (routed id p) (λ d. refl) ∙ same
ids_after known devices (Default node p) same =
    map-with_device id_in devices node (defaulted p) (λ d. refl) ∙ same
ids_after known devices (Lock node id) same =
    map-with_device id_in devices node (held_by id) (λ d. refl) ∙ same
ids_after known devices (Large node id) same =
    map-with_device id_in devices node (large_set id) (λ d. refl) ∙ same
ids_after known devices _ same = same

untaken : (id : ℕ) (taken : Bool) → id ≢ 255 → (not (id == 255) && taken) ≡ false
    → taken ≡ false
untaken id taken has free = go (id == 255) refl free
  where
    go : (b : Bool) → (id == 255) ≡ b → (not b && taken) ≡ false → taken ≡ false
    go true is free = absurd (has (eqb-true id 255 is))
    go false is free = free

only_after : (known : Known) (line : Line) → AreOnly (map id_at known.nodes)
    → IsFree known line → AreOnly (map id_at (nodes_after known.nodes line))
only_after known (Endpoint name id) only free =
    subst AreOnly (sym (map-append id_at known.nodes (AnEndpoint id ∷ [])))
    (longer (map id_at known.nodes) (Some id) only
    (λ n other has is.
    let same : id ≡ other = same_Some id other is in
    subst (λ o. slice_get (map id_at known.nodes) n ≢ Some (Some o)) same
    (no_id known.nodes id
    (untaken id (has_id known.nodes id) (λ none. has (sym same ∙ none)) (free IdTaken)) n)))
only_after known (Switch name ports) only free =
    subst AreOnly (sym (map-append id_at known.nodes (ASwitch ports ∷ [])))
    (longer (map id_at known.nodes) None only (λ n other has is. absurd (cc)))
only_after known _ only free = only

only_at_end : (known : Known) (names : List (List ℕ)) (devices : List Registers)
    (lines : List Numbered) → map id_in devices ≡ map id_at known.nodes
    → AreOnly (map id_at known.nodes) → PassesFrom known names lines
    → AreOnly (map id_in (devices_after_all devices lines))
only_at_end known names devices [] same only passes = subst AreOnly (sym same) only
only_at_end known names devices (line ∷ lines) same only passes =
    only_at_end (known_after known (new_name names line.line) line.line) names
    (devices_after devices line.line) lines (ids_after known devices line.line same)
    (only_after known line.line only passes.1) passes.2

-- ---- of a script

module _ (names : List (List ℕ)) (lines : List Numbered) (passes : ScriptPasses names lines) where
  id_shown : (host : ℕ) → IsHost (devices_of lines) (links_of lines) host
      → slice_get (map id_in (devices_of lines)) host
      ≡ Some (Some (registers_of (devices_of lines) host).base_id)
  id_shown host is_host =
      let new = devised_fabric names lines host passes is_host in
      let held = registers_of (devices_of lines) host in
      let kind : is_switch held ≡ false =
      new.fits.endpoints host new.topology.host new.topology.host_is_endpoint in
      slice_get-map id_in (devices_of lines) host
      ∙ (ap (option_map id_in)
      (slice_get-get_or (devices_of lines) host (new_endpoint 0 false) new.topology.host)
      ∙ ap (λ (b : Bool). Some (if b then None else Some held.base_id)) kind)

  -- two hosts have different IDs
  pub ids_differ : (first second : ℕ) → IsHost (devices_of lines) (links_of lines) first
      → IsHost (devices_of lines) (links_of lines) second → first ≢ second
      → (registers_of (devices_of lines) first).base_id
      ≢ (registers_of (devices_of lines) second).base_id
  ids_differ first second host other differ same =
      let has = host.has_id in
      differ (only_at_end nothing names [] lines refl (λ m n id is. absurd (cc)) passes first
      second (registers_of (devices_of lines) first).base_id (id_shown first host)
      (id_shown second other ∙ ap (λ id. Some (Some id)) (sym same))
      (λ none. absurd (omega (arith, has, none))))

  -- each device has a name
  as_many_names : length (devices_of lines) ≡ length names
  as_many_names =
      let end = stage_after_all nothing names [] lines first_stage passes in
      sym (length-map (devices_of lines) is_switch) ∙ (ap length end.1.kinds
      ∙ (length-map end.0.nodes (λ node. node_is_switch (Some node)) ∙ (end.1.count
      ∙ ap length end.3)))

  pub host_named : (host : ℕ) → IsHost (devices_of lines) (links_of lines) host
      → host < length names
  host_named host is =
      subst (λ n. host < n) as_many_names
      (devised_fabric names lines host passes is).topology.host
