-- What a write to another register leaves of lock, tag and entries, and any write of a switch's ID.
use Rattle.std.proofs.Common.{◌≡◌, ◌≢◌, ℕ, ◌%◌, ◌==◌, ◌&&◌, ◌||◌, Bool, true, false, not, eqb, List, [], ◌∷◌, Option, Some, None, option_map, unwrap_or, refl, sym, ap, ◌∙◌, if◌then◌else◌}
use Rattle.std.specs.Option.{option_or}
use Rattle.std.proofs.lemmas.Bool.{eqb-true, and_parts}
use Rattle.std.proofs.lemmas.Option.{same_Some}
use Rattle.maint_registers.specs.declared.registers.DeviceKind.{DeviceKind}
use Rattle.maint_registers.specs.declared.registers.DeviceKind.TheVariants.{Endpoint, Switch}
use Rattle.maint_registers.specs.declared.table.Register.{Register}
use Rattle.maint_registers.specs.declared.table.Register.TheVariants.{Fixed, PortInformation, BaseId, HostLock, ComponentTag, RouteSelect, RouteEntry, DefaultPort}
use Rattle.maint_registers.specs.Devices.{Registers, is_switch}
use Rattle.maint_registers.specs.Table.{Row, rows, column, in_rows, status_port, status_of, register_at}
use Rattle.maint_registers.specs.Access.{written_to, write_into}
use Rattle.maint_registers.specs.Routes.{entry_of}
use Rattle.maint_registers.proofs.AccessLaws.{kind-switch, kind-endpoint, by_register}
use Rattle.maint_registers.proofs.RouteLaws.{entry-set_other}

abbrev is_lock : Register → Bool
is_lock HostLock = true
is_lock _ = false

abbrev is_tag : Register → Bool
is_tag ComponentTag = true
is_tag _ = false

abbrev is_id : Register → Bool
is_id BaseId = true
is_id _ = false

abbrev is_entry : Register → Bool
is_entry RouteEntry = true
is_entry _ = false

-- a row with such a register has this offset
abbrev has_offset : (Register → Bool) → ℕ → Option Register → ℕ → Bool
has_offset test n None offset = true
has_offset test n (Some register) offset = not (test register) || (offset == n)

abbrev have_offset : (Register → Bool) → ℕ → DeviceKind → List Row → Bool
have_offset test n kind [] = true
have_offset test n kind (row ∷ rows) =
    has_offset test n (column kind row) row.0 && have_offset test n kind rows

module _ (test : Register → Bool) (n : ℕ) (register : Register) (such : test register ≡ true) where
  in_row : (o : Option Register) (offset : ℕ) → has_offset test n o offset ≡ true
      → o ≡ Some register → offset ≡ n
  in_row None offset has is = absurd (cc)
  in_row (Some found) offset has is =
      go (test found) (ap test (same_Some found register is) ∙ such) has
    where
      go : (b : Bool) → b ≡ true → (not b || (offset == n)) ≡ true → offset ≡ n
      go true so has = eqb-true offset n has
      go false so has = absurd (cc)

  in_table : (kind : DeviceKind) (rows : List Row) (offset : ℕ)
      → have_offset test n kind rows ≡ true
      → in_rows kind rows offset ≡ Some register → offset ≡ n
  in_table kind [] offset all is = absurd (cc)
  in_table kind (row ∷ rows) offset all is =
      go (eqb row.0 offset) refl is (in_table kind rows offset parts.1)
    where
      parts : (has_offset test n (column kind row) row.0 ≡ true)
          × (have_offset test n kind rows ≡ true)
      parts =
          and_parts (has_offset test n (column kind row) row.0) (have_offset test n kind rows) all

      go : (b : Bool) → eqb row.0 offset ≡ b
          → (if b then column kind row else in_rows kind rows offset) ≡ Some register
          → (in_rows kind rows offset ≡ Some register → offset ≡ n) → offset ≡ n
      go true same is on =
          sym (eqb-true row.0 offset same) ∙ in_row (column kind row) row.0 parts.0 is
      go false same is on = on is

  -- a register that no status register is stands in the rows
  in_device : (device : Registers) (offset : ℕ) → ((value : ℕ) → test (Fixed value) ≡ false)
      → have_offset test n device.kind (rows device.standard) ≡ true
      → register_at device offset ≡ Some register → offset ≡ n
  in_device device offset free all is =
      in_table device.kind (rows device.standard) offset all
      (go (in_rows device.kind (rows device.standard) offset) (status_port device.ports offset) is)
    where
      go : (o : Option Register) (p : Option ℕ)
          → option_or o (option_map (λ n. Fixed (status_of device n)) p) ≡ Some register
          → o ≡ Some register
      go (Some r) p is = is
      go None None is = absurd (cc)
      go None (Some n) is =
          let found = same_Some (Fixed (status_of device n)) register is in
          absurd (let e = sym (free (status_of device n)) ∙ ap test found ∙ such in cc)

lock_offset : (kind : DeviceKind) (standard : Bool)
    → have_offset is_lock 0x68 kind (rows standard) ≡ true
lock_offset Endpoint true = refl
lock_offset Endpoint false = refl
lock_offset Switch true = refl
lock_offset Switch false = refl

tag_offset : (kind : DeviceKind) (standard : Bool)
    → have_offset is_tag 0x6c kind (rows standard) ≡ true
tag_offset Endpoint true = refl
tag_offset Endpoint false = refl
tag_offset Switch true = refl
tag_offset Switch false = refl

-- No register of a kind stands in the rows if each of them stands at any offset.
in_none : (test : Register → Bool) (register : Register) → test register ≡ true
    → ((value : ℕ) → test (Fixed value) ≡ false) → (device : Registers) (offset : ℕ)
    → ((n : ℕ) → have_offset test n device.kind (rows device.standard) ≡ true)
    → register_at device offset ≡ Some register → ⊥
in_none test register such free device offset all at =
    absurd (let zero_is_one = sym (there 0) ∙ there 1 in cc)
  where
    there : (n : ℕ) → offset ≡ n
    there n = in_device test n register such device offset free (all n) at

entry_offset : (kind : DeviceKind) (standard : Bool)
    → have_offset is_entry 0x74 kind (rows standard) ≡ true
entry_offset Endpoint true = refl
entry_offset Endpoint false = refl
entry_offset Switch true = refl
entry_offset Switch false = refl

-- a switch has no ID, and an endpoint no entry, at whatever offset
no_id : (kind : DeviceKind) (standard : Bool) (n : ℕ) → kind ≡ Switch
    → have_offset is_id n kind (rows standard) ≡ true
no_id Switch true n is = refl
no_id Switch false n is = refl
no_id Endpoint standard n is = absurd (cc)

no_entry : (kind : DeviceKind) (standard : Bool) (n : ℕ) → kind ≡ Endpoint
    → have_offset is_entry n kind (rows standard) ≡ true
no_entry Endpoint true n is = refl
no_entry Endpoint false n is = refl
no_entry Switch standard n is = absurd (cc)

module _ (device : Registers) (offset value : ℕ) where
  -- what each write leaves to the register that stands there is left
  leaves : {A : Type 0} (part : Registers → A)
      → ((register : Register) → register_at device offset ≡ Some register
      → part (unwrap_or (written_to device value register) device) ≡ part device)
      → part (write_into device offset value).device ≡ part device
  leaves part each = by_register (λ d. part d ≡ part device) device offset value refl each

  pub lock-stays : offset ≢ 0x68 → (write_into device offset value).device.lock ≡ device.lock
  lock-stays other = leaves (λ d. d.lock) each
    where
      each : (register : Register) → register_at device offset ≡ Some register
          → (unwrap_or (written_to device value register) device).lock ≡ device.lock
      each (Fixed shown) at = refl
      each PortInformation at = refl
      each BaseId at = refl
      each HostLock at =
          absurd (other (in_device is_lock 0x68 HostLock refl device offset (λ value. refl)
          (lock_offset device.kind device.standard) at))
      each ComponentTag at = refl
      each RouteSelect at = refl
      each RouteEntry at = refl
      each DefaultPort at = refl

  pub tag-stays : offset ≢ 0x6c → (write_into device offset value).device.tag ≡ device.tag
  tag-stays other = leaves (λ d. d.tag) each
    where
      each : (register : Register) → register_at device offset ≡ Some register
          → (unwrap_or (written_to device value register) device).tag ≡ device.tag
      each (Fixed shown) at = refl
      each PortInformation at = refl
      each BaseId at = refl
      each HostLock at = refl
      each ComponentTag at =
          absurd (other (in_device is_tag 0x6c ComponentTag refl device offset (λ value. refl)
          (tag_offset device.kind device.standard) at))
      each RouteSelect at = refl
      each RouteEntry at = refl
      each DefaultPort at = refl

  -- a switch has no ID to write
  pub id-stays : is_switch device ≡ true
      → (write_into device offset value).device.base_id ≡ device.base_id
  id-stays is = leaves (λ d. d.base_id) each
    where
      each : (register : Register) → register_at device offset ≡ Some register
          → (unwrap_or (written_to device value register) device).base_id ≡ device.base_id
      each (Fixed shown) at = refl
      each PortInformation at = refl
      each BaseId at =
          absurd (in_none is_id BaseId refl (λ value. refl) device offset
          (λ n. no_id device.kind device.standard n (kind-switch device is)) at)
      each HostLock at = refl
      each ComponentTag at = refl
      each RouteSelect at = refl
      each RouteEntry at = refl
      each DefaultPort at = refl

  -- only that of the destination selected is written among the entries of a switch
  pub entry-stays : (dest : ℕ)
      → (offset ≡ 0x74 → is_switch device ≡ true → dest ≢ device.select)
      → entry_of (write_into device offset value).device dest ≡ entry_of device dest
  entry-stays dest apart = leaves (λ d. entry_of d dest) each
    where
      switch : (b : Bool) → is_switch device ≡ b → register_at device offset ≡ Some RouteEntry
          → is_switch device ≡ true
      switch true is at = is
      switch false is at =
          absurd (in_none is_entry RouteEntry refl (λ value. refl) device offset
          (λ n. no_entry device.kind device.standard n (kind-endpoint device is)) at)

      each : (register : Register) → register_at device offset ≡ Some register
          → entry_of (unwrap_or (written_to device value register) device) dest
          ≡ entry_of device dest
      each (Fixed shown) at = refl
      each PortInformation at = refl
      each BaseId at = refl
      each HostLock at = refl
      each ComponentTag at = refl
      each RouteSelect at = refl
      each RouteEntry at =
          entry-set_other device.routes device.select dest (value % 0x100)
          (apart (in_device is_entry 0x74 RouteEntry refl device offset (λ value. refl)
          (entry_offset device.kind device.standard) at) (switch (is_switch device) refl at))
      each DefaultPort at = refl
