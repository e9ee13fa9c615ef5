-- What a change of one of several devices does to them all.
use Rattle.std.proofs.Common.{◌≡◌, ◌≢◌, ℕ, zero, suc, ◌<◌, List, [], ◌∷◌, length, map, get_or, set, Some, option_map, slice_get, refl, sym, ap, ◌∙◌}
use Rattle.std.proofs.lemmas.Option.{same_Some, slice_get-map, slice_get_read}
use Rattle.maint_registers.specs.Devices.{Registers, is_switch}
use Rattle.maint_registers.specs.Changes.{with_device}

pub length-with_device : (devices : List Registers) (n : ℕ) (change : Registers → Registers)
    → length (with_device devices n change) ≡ length devices
length-with_device [] n change = refl
length-with_device (device ∷ devices) zero change = refl
length-with_device (device ∷ devices) (suc n) change =
    ap suc (length-with_device devices n change)

pub device-changed : (devices : List Registers) (n : ℕ) (change : Registers → Registers)
    → slice_get (with_device devices n change) n ≡ option_map change (slice_get devices n)
device-changed [] n change = refl
device-changed (device ∷ devices) zero change = refl
device-changed (device ∷ devices) (suc n) change = device-changed devices n change

pub device-kept : (devices : List Registers) (n m : ℕ) (change : Registers → Registers) → m ≢ n
    → slice_get (with_device devices n change) m ≡ slice_get devices m
device-kept [] n m change apart = refl
device-kept (device ∷ devices) zero zero change apart = absurd (apart refl)
device-kept (device ∷ devices) zero (suc m) change apart = refl
device-kept (device ∷ devices) (suc n) zero change apart = refl
device-kept (device ∷ devices) (suc n) (suc m) change apart =
    device-kept devices n m change (λ same. apart (ap suc same))

-- what the change leaves of a device, it leaves of all
pub map-with_device : {A : Type 0} (view : Registers → A) (devices : List Registers) (n : ℕ)
    (change : Registers → Registers) → ((device : Registers) → view (change device) ≡ view device)
    → map view (with_device devices n change) ≡ map view devices
map-with_device view [] n change same = refl
map-with_device view (device ∷ devices) zero change same =
    ap (λ x. x ∷ map view devices) (same device)
map-with_device view (device ∷ devices) (suc n) change same =
    ap (λ xs. view device ∷ xs) (map-with_device view devices n change same)

pub kinds_stay : (devices : List Registers) (p n : ℕ) (change : Registers → Registers)
    → ((device : Registers) → is_switch (change device) ≡ is_switch device)
    → option_map is_switch (slice_get (with_device devices p change) n)
    ≡ option_map is_switch (slice_get devices n)
kinds_stay devices p n change same =
    sym (slice_get-map is_switch (with_device devices p change) n)
    ∙ ap (λ kinds. slice_get kinds n) (map-with_device is_switch devices p change same)
    ∙ slice_get-map is_switch devices n

-- ---- a device that was read, changed and written back

pub set-change : (devices : List Registers) (n : ℕ) (read : Registers)
    (change : Registers → Registers)
    → slice_get devices n ≡ Some read → set devices n (change read) ≡ with_device devices n change
set-change [] n read change there = refl
set-change (d ∷ devices) zero read change there =
    ap (λ x. change x ∷ devices) (sym (same_Some d read there))
set-change (d ∷ devices) (suc n) read change there =
    ap (λ more. d ∷ more) (set-change devices n read change there)

pub changed_at : (devices : List Registers) (node i : ℕ) (read written : Registers)
    (change : Registers → Registers) → i ≡ node → i < length devices → read ≡ get_or devices i read
    → written ≡ change read → set devices i written ≡ with_device devices node change
changed_at devices node i read written change same within value is =
    ap (set devices i) is
    ∙ set-change devices i read change
    (slice_get_read devices (length devices) i read refl within value)
    ∙ ap (λ n. with_device devices n change) same

-- where the change leaves the device as it was, or there is none, all stay
pub unchanged : (devices : List Registers) (n : ℕ) (change : Registers → Registers)
    → ((device : Registers) → slice_get devices n ≡ Some device → change device ≡ device)
    → with_device devices n change ≡ devices
unchanged [] n change same = refl
unchanged (d ∷ devices) zero change same = ap (λ x. x ∷ devices) (same d refl)
unchanged (d ∷ devices) (suc n) change same =
    ap (λ more. d ∷ more) (unchanged devices n change same)
