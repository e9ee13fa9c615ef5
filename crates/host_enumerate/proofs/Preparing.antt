-- A device that was taken is prepared by its kind.
use Rattle.host_enumerate.proofs.Prelude.{◌≡◌, ◌≢◌, ℕ, Bool, true, false, List, Some, bit_and, refl, sym, ap, subst, ◌∙◌, if◌then◌else◌, same_Some, PortRef, Registers, is_switch, value_at, features-read, Topology, AllRegisters, IsAskable, IsApart, AreSame}
use Rattle.host_enumerate.proofs.Holders.{askable-same}

features_are : (device : Registers) (port features : ℕ) → value_at device 0x10 port ≡ Some features
    → features ≡ (if is_switch device then 0x10000118 else 0x18)
features_are device port features told =
    same_Some features (if is_switch device then 0x10000118 else 0x18)
    (sym told ∙ features-read device port)

pub is_endpoint : (device : Registers) (port : ℕ) {features : ℕ}
    → value_at device 0x10 port ≡ Some features
    → bit_and features 0x10000000 ≡ 0 → is_switch device ≡ false
is_endpoint device port {features} told none = go (is_switch device) refl
    (ap (λ n. bit_and n 0x10000000) (sym (features_are device port features told)) ∙ none)
  where
    go : (is : Bool) → is_switch device ≡ is
        → bit_and (if is then 0x10000118 else 0x18) 0x10000000 ≡ 0 → is_switch device ≡ false
    go true is bits = absurd (cc)
    go false is bits = is

pub is_a_switch : (device : Registers) (port : ℕ) {features : ℕ}
    → value_at device 0x10 port ≡ Some features
    → bit_and features 0x10000000 ≢ 0 → is_switch device ≡ true
is_a_switch device port {features} told some = go (is_switch device) refl
    (λ none. some (ap (λ n. bit_and n 0x10000000) (features_are device port features told) ∙ none))
  where
    go : (is : Bool) → is_switch device ≡ is
        → bit_and (if is then 0x10000118 else 0x18) 0x10000000 ≢ 0 → is_switch device ≡ true
    go true is bits = is
    go false is bits = absurd (bits refl)

-- after a read, all can be asked as before
pub same_askable : {topology now : Topology} {old : AllRegisters} (new : AllRegisters) {host_id : ℕ}
    {path : List ℕ} {at : PortRef} {kind : Bool} → now ≡ topology → AreSame old new
    → IsAskable topology old host_id path at → IsApart topology path at.node
    → is_switch (old at.node) ≡ kind
    → IsAskable now new host_id path at × IsApart now path at.node
    × (is_switch (new at.node) ≡ kind)
same_askable new {path = path} {at = at} is_now same askable apart is = (
  askable-same new is_now same askable,
  subst (λ t. IsApart t path at.node) (sym is_now) apart,
  ap is_switch (same at.node) ∙ is,
)
