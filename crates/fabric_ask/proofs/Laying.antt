-- A fabric stays laid out as it is when a device answers.
use Rattle.fabric_ask.proofs.Prelude.{◌≡◌, ℕ, zero, suc, ◌<◌, List, [], ◌∷◌, Some, option_map, slice_get, refl, sym, ap, ◌∙◌, subst, Registers, is_switch, Request, request_answered, answered_same, PortRef, with_device, IsLaid, after_request}
use Rattle.maint_registers.proofs.SameLaws.{same_kind}
use Rattle.fabric_model.proofs.Devices.{kinds_stay}

-- ---- a device that answers

-- ---- all devices

ports_at : (devices : List Registers) (n m : ℕ) (change : Registers → Registers)
    (device : Registers)
    → ((d : Registers) → (change d).ports ≡ d.ports) → slice_get devices m ≡ Some device
    → (next : Registers) × (slice_get (with_device devices n change) m ≡ Some next)
    × (next.ports ≡ device.ports)
ports_at [] n m change device same stands = absurd cc
ports_at (x ∷ devices) zero zero change device same stands = let here : x ≡ device = cc in
    (change x, refl, same x ∙ ap (λ (d : Registers). d.ports) here)
ports_at (x ∷ devices) zero (suc m) change device same stands = (device, stands, refl)
ports_at (x ∷ devices) (suc n) zero change device same stands = (device, stands, refl)
ports_at (x ∷ devices) (suc n) (suc m) change device same stands =
    ports_at devices n m change device same stands

pub laid_heard : (registers : List Registers) (links : List (PortRef × PortRef)) (host : ℕ)
    (at : PortRef) (request : Request) → IsLaid registers links host
    → IsLaid (after_request registers at request) links host
laid_heard registers links host at request laid = record {
  ports = λ q p peer.
      let port = laid.ports q p peer in
      let own = ports_at registers at.node q.node
      (λ device. (request_answered device request at.port).device) port.device
      (λ d. (answered_same d request at.port).ports) port.stands in
      record {
        device = own.0;
        stands = own.1;
        below = subst (λ n. q.port < n) (sym own.2) port.below;
      };
  ends = λ q p peer endpoint. laid.ends q p peer (sym (kinds q.node) ∙ endpoint);
  host_is = kinds host ∙ laid.host_is;
}
  where
    kinds : (n : ℕ) → option_map is_switch
        (slice_get (after_request registers at request) n) ≡ option_map
        is_switch (slice_get registers n)
    kinds n = kinds_stay registers at.node n
        (λ device. (request_answered device request at.port).device)
        (λ device. same_kind device (request_answered device request at.port).device
        (answered_same device request at.port))
