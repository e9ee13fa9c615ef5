use Rattle.std.proofs.Common.{◌≡◌, ℕ, ◌+◌, ◌*◌, ◌/◌, ◌<◌, [], Some, None, arith, sym, ap, ◌∙◌}
use Rattle.std.proofs.lemmas.Option.{same_Some}
use Rattle.maint_registers.specs.Within.{IsWithin}
use Rattle.maint_registers.proofs.AccessLaws.{base_id-read}
use Rattle.fabric_model.proofs.Forms.{device_at}
use Rattle.fabric_maint.proofs.Owned.{own_device, own_is}
use Rattle.fabric_maint.proofs.maint.FabricMaint.host_id.Goals as goal

id_of : (base large value : ℕ) → large < 0x10000
    → Some value ≡ Some (base * 0x10000 + large) → value / 0x10000 ≡ base
id_of base large value low is =
    let same = same_Some value (base * 0x10000 + large) is in omega (arith, low, same)

pub returns : goal.returns
returns g c =
    let own = own_device c.args.self.now c.requires in
    let within : IsWithin own.device = device_at _ _ own.device own.stands
    c.requires.rests.can.stands.ready.formed.registers in
    id_of own.device.base_id own.device.large_id c.in-Some.value within.large_id
    (sym c.in-Some.is ∙ c.register_read.ensures c.requires.s [] own.device
    c.requires.rests.can.stands own.stands ∙ base_id-read own.device 0 own.kind)
    ∙ ap (λ d. d.base_id) (sym (own_is c.args.self.now c.requires))

pub overflow_cast-result : goal.overflow_cast-result
overflow_cast-result g c =
    let own = own_device c.args.self.now c.requires in
    let within : IsWithin own.device = device_at _ _ own.device own.stands
    c.requires.rests.can.stands.ready.formed.registers in
    let same = id_of own.device.base_id own.device.large_id c.in-Some.value within.large_id
    (sym c.in-Some.is ∙ c.register_read.ensures c.requires.s [] own.device
    c.requires.rests.can.stands own.stands ∙ base_id-read own.device 0 own.kind) in
    let low = within.base_id in
    omega (arith, same, low)

pub unreachable-requires : goal.unreachable-requires
unreachable-requires g c =
    let own = own_device c.args.self.now c.requires in
    let bad : None ≡ Some (own.device.base_id * 0x10000 + own.device.large_id) =
    sym c.in-None.is ∙ c.register_read.ensures c.requires.s [] own.device
    c.requires.rests.can.stands own.stands ∙ base_id-read own.device 0 own.kind in
    absurd cc
