-- Of each text of set-up lines a name names a host, or none for a reason; and so do two names.
use Rattle.std.proofs.Common.{◌≡◌, ℕ, ◌+◌, ◌<◌, ◌⊎◌, inl, inr, false, List, [], length, Contains, Option, Some, None, is_some, option_map, Ok, Err, refl, sym, ap, ◌∙◌, subst, arith}
use Rattle.std.proofs.lemmas.Bool.{cases_lt, cases_eq, cases_Bool}
use Rattle.std.proofs.lemmas.Option.{slice_get-get_or}
use Rattle.maint_registers.specs.Devices.{Registers, is_switch, new_endpoint}
use Rattle.fabric_script.specs.declared.ports.PortRef.{PortRef}
use Rattle.fabric_script.specs.declared.lines.Numbered.{Numbered}
use Rattle.fabric_script.specs.Known.{nothing, of_set_up}
use Rattle.fabric_script.specs.Names.{name_of}
use Rattle.fabric_script.specs.Peers.{peer_in}
use Rattle.fabric_script.specs.Ports.{port_at}
use Rattle.fabric_script.specs.Reasons.{reason_number}
use Rattle.fabric_script.specs.Scripts.{IsScriptIn}
use Rattle.fabric_script.proofs.Exclusion.{there_is_named}
use Rattle.fabric_script.proofs.ScriptLaws.{Passes-from_script}
use Rattle.fabric_script.proofs.SetUpLaws.{set_up_passes}
use Rattle.fabric_map.specs.Plain.{registers_of}
use Rattle.host_enumerate.specs.Devised.{IsHost, JudgesHost, devices_of, links_of}
use Rattle.host_enumerate.specs.Hosts.{reason_of, IsFirstNamed}
use Rattle.host_enumerate.specs.declared.devising.NoHost.{NoHost}
use Rattle.host_enumerate.specs.declared.devising.NoHost.TheVariants.{Unknown, WrongKind, NotLinked}
use Rattle.host_enumerate.proofs.Devised.{first_stage, stage_after_all}
use Rattle.script_input.specs.Inputs.{texts_of}
use Rattle.script_law.proofs.Choosing.{first_or_none, same_or_not}
use Rattle.script_law.proofs.TextChoice.{script_or_refused}
use Rattle.rio_cli.specs.Contesting.{FindsIn, FindsHosts, HasHosts, IsRefusedForTwo, HitForTwo, NotHosts, same_host}
use Rattle.rio_cli.specs.Numbering.{HasHost, IsRefusedFor, HitFor, NotHostFor}

-- ---- one node

module _ (devices : List Registers) (links : List (PortRef × PortRef)) (node : ℕ) where
  -- its registers
  abbrev held : Registers
  held = registers_of devices node

  -- it is a host, or it is none for a reason
  abbrev IsDecided : Type 0
  IsDecided = IsHost devices links node ⊎ ((end : NoHost) × JudgesHost devices links node (Err end))

  by_link : node < length devices → is_switch held ≡ false → held.base_id < 255
      → (peer : Option PortRef) → peer_in links (port_at node 0) ≡ peer → IsDecided
  by_link there endpoint id None none =
      inr (NotLinked, (endpoint, (λ same. omega (arith, id, same)), there, none))
  by_link there endpoint id (Some port) some = inl record {
    endpoint = ap (option_map is_switch)
        (slice_get-get_or devices node (new_endpoint 0 false) there) ∙ ap Some endpoint;
    has_id = id;
    linked = ap (λ (o : Option PortRef). is_some o) some;
  }

  decided : (node < length devices → held.base_id < 256) → IsDecided
  decided ids = elim (cases_lt node (length devices)) [
    | inr past ↦ inr (Unknown, past)
    | inl there ↦ elim (cases_Bool (is_switch held)) [
      | inl switch ↦ inr (WrongKind, (there, inl switch))
      | inr endpoint ↦ elim (cases_eq held.base_id 255) [
        | inl none ↦ inr (WrongKind, (there, inr none))
        | inr other ↦
            let most = ids there in
            by_link there endpoint (omega (arith, most, other))
            (peer_in links (port_at node 0)) refl
      ]
    ]
  ]

-- ---- one name

named_or_none : (names : List (List ℕ)) (word : List ℕ)
    → ((node : ℕ) × IsFirstNamed names word node) ⊎ (¬ Contains names word)
named_or_none names word =
    elim (first_or_none (λ node. name_of names node ≡ word)
    (λ node. same_or_not (name_of names node) word) (length names)) [
      | inl found ↦ inl (
        found.n,
        record {
          within = found.below;
          named = found.is;
          first = λ before less same. let least = found.least before same in
              omega (arith, less, least);
        },
      )
      | inr none ↦ inr (λ there. let at = there_is_named names word there in
          none at.0 at.1 at.2)
    ]

-- ---- names among set-up lines

module _ (bytes : List ℕ) (names : List (List ℕ)) (lines : List Numbered)
    (spells : IsScriptIn of_set_up bytes names lines) where
  -- the ID of a device has eight bits
  ids : (node : ℕ) → node < length (devices_of lines)
      → (registers_of (devices_of lines) node).base_id < 256
  ids node there =
      let passes = set_up_passes names lines (Passes-from_script of_set_up bytes names lines spells)
      in
      let end = stage_after_all nothing names [] lines first_stage passes.0 in
      (end.1.are node (registers_of (devices_of lines) node)
      (slice_get-get_or (devices_of lines) node (new_endpoint 0 false) there)).id

  abbrev Finds : List ℕ → Type 0
  Finds word = ((host : ℕ) × FindsIn names lines word (Ok host))
      ⊎ ((end : NoHost) × FindsIn names lines word (Err end))

  finds : (word : List ℕ) → Finds word
  finds word = elim (named_or_none names word) [
    | inr none ↦ inr (Unknown, inl (none, refl))
    | inl named ↦ elim (decided (devices_of lines) (links_of lines) named.0 (ids named.0)) [
      | inl host ↦ inl (named.0, (named.1, host))
      | inr none ↦ inr (none.0, inr (named.0, named.1, none.1))
    ]
  ]

  abbrev FindsTwo : List ℕ → List ℕ → Type 0
  FindsTwo first second = ((hosts : ℕ × ℕ) × FindsHosts names lines first second (Ok hosts))
      ⊎ ((reason : ℕ) × FindsHosts names lines first second (Err reason))

  finds_second : (first second : List ℕ) (one : ℕ) → FindsIn names lines first (Ok one)
      → FindsTwo first second
  finds_second first second one found = elim (finds second) [
    | inr none ↦
        inr (reason_number (reason_of none.0), inr (one, found, inl (none.0, none.1, refl)))
    | inl other ↦ elim (cases_eq one other.0) [
      | inl same ↦ inr (
        same_host,
        inr (
          one,
          found,
          inr (subst (λ n. FindsIn names lines second (Ok n)) (sym same) other.1, refl),
        ),
      )
      | inr apart ↦ inl ((one, other.0), (found, other.1, apart))
    ]
  ]

  finds_two : (first second : List ℕ) → FindsTwo first second
  finds_two first second = elim (finds first) [
    | inr none ↦ inr (reason_number (reason_of none.0), inl (none.0, none.1, refl))
    | inl one ↦ finds_second first second one.0 one.1
  ]

-- ---- names and bytes

pub host_or_refused : (word bytes : List ℕ) → HasHost word bytes
    ⊎ ((line : ℕ) × (reason : ℕ) × IsRefusedFor word bytes line reason)
host_or_refused word bytes = elim (script_or_refused of_set_up bytes) [
  | inr refused ↦ inr (refused.0, refused.1, HitFor refused.2)
  | inl is ↦ elim (finds bytes is.0 is.1 is.2 word) [
    | inl host ↦ inl record {
      names = is.0;
      lines = is.1;
      spells = is.2;
      host = host.0;
      found = host.1;
    }
    | inr none ↦ inr (
      length (texts_of bytes) + 1,
      reason_number (reason_of none.0),
      NotHostFor is.0 is.1 none.0 is.2 none.1,
    )
  ]
]

pub hosts_or_refused : (first second bytes : List ℕ) → HasHosts first second bytes
    ⊎ ((line : ℕ) × (reason : ℕ) × IsRefusedForTwo first second bytes line reason)
hosts_or_refused first second bytes = elim (script_or_refused of_set_up bytes) [
  | inr refused ↦ inr (refused.0, refused.1, HitForTwo refused.2)
  | inl is ↦ elim (finds_two bytes is.0 is.1 is.2 first second) [
    | inl hosts ↦ inl record {
      names = is.0;
      lines = is.1;
      spells = is.2;
      hosts = hosts.0;
      found = hosts.1;
    }
    | inr none ↦ inr (
      length (texts_of bytes) + 1,
      none.0,
      NotHosts is.0 is.1 none.0 is.2 none.1,
    )
  ]
]
