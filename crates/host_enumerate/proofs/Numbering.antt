-- What the whole call knows.
use Rattle.host_enumerate.proofs.Prelude.{◌≡◌, ℕ, ◌<◌, ◌/◌, List, [], Some, IsSome, sym, ap, subst, ◌∙◌, PortRef, port_at, value_at, Device, Topology, IsTopology, entered, after_all_paths, AllRegisters, Fits, entries_of, IsNumbered, IsAskable, AreSame, AreUntagged, IsUnderway, IsLockFree}
use Rattle.host_enumerate.proofs.Starting.{begun, own_askable, own_answers, own_id}
use Rattle.host_enumerate.proofs.Finishing.{underway-numbered, underway-free}

pub can_read : {topology : Topology} {registers : AllRegisters} {path : List ℕ}
    → IsTopology topology → Fits topology registers → path ≡ []
    → (host_id : ℕ) × (at : PortRef) × IsAskable topology registers host_id path at
    × IsSome (value_at (registers at.node) 0x60 at.port)
can_read {topology} {registers} {path} proper fits empty = (
  (registers topology.host).base_id,
  port_at topology.host 0,
  subst (λ l. IsAskable topology registers (registers topology.host).base_id l
      (port_at topology.host 0)) (sym empty) (own_askable topology registers proper),
  own_answers topology registers proper fits,
)

-- The host has read its own ID.
pub record OwnIdRead (topology one : Topology) (before now : AllRegisters) (path : List ℕ)
    (value : ℕ) : Type 0 where
  pub proper : IsTopology topology
  pub fits : Fits topology before
  pub empty : path ≡ []
  pub is_one : one ≡ topology
  pub same : AreSame before now
  pub told : (at : PortRef) → entered topology path ≡ Some at
      → value_at (before at.node) 0x60 at.port ≡ Some value
  pub below : (before topology.host).base_id < 255
  pub untagged : AreUntagged topology before

-- And then all devices were numbered.
pub record AllNumbered (one two : Topology) (now after : AllRegisters) (value : ℕ)
    (devices : List Device) : Type 0 where
  pub is_two : two ≡ one
  pub fits_after : Fits two after
  pub numbered : (before : AllRegisters) → IsUnderway one before now (value / 65536) [] 0 []
      → (next : ℕ) × IsUnderway two before after (value / 65536) devices next after_all_paths

module _ {topology one : Topology} {before now : AllRegisters} {path : List ℕ} {value : ℕ}
    (own : OwnIdRead topology one before now path value) where
  is_id : value / 65536 ≡ (before topology.host).base_id
  is_id = own_id topology before value own.proper own.fits
      (own.told (port_at topology.host 0) (ap (λ l. entered topology l) own.empty))

  pub id_fits : value / 65536 < 256
  id_fits = subst (λ n. n < 256) (sym is_id) (own.fits.ids topology.host own.proper.host)

  pub underway_first : IsUnderway one before now (value / 65536) [] 0 []
  underway_first =
      subst (λ t. IsUnderway t before now (value / 65536) [] 0 []) (sym own.is_one)
      (begun topology before now (value / 65536) own.proper (sym is_id)
      (subst (λ n. n < 255) (sym is_id) own.below) own.untagged own.same)

  module _ {two : Topology} {after : AllRegisters} {devices : List Device}
      (all : AllNumbered one two now after value devices) where
    done : (next : ℕ)
        × IsUnderway topology before after (value / 65536) devices next after_all_paths
    done =
        subst (λ t. (next : ℕ)
        × IsUnderway t before after (value / 65536) devices next after_all_paths)
        (all.is_two ∙ own.is_one) (all.numbered before underway_first)

    fits_now : Fits topology after
    fits_now = subst (λ t. Fits t after) (all.is_two ∙ own.is_one) all.fits_after

    pub is_numbered : IsNumbered topology devices (entries_of devices) before after
    is_numbered = underway-numbered topology before after (value / 65536) done.0 devices done.1
        fits_now

    pub is_free : IsLockFree topology before
    is_free = underway-free topology before after (value / 65536) done.0 devices done.1 fits_now
