-- A device of a kind among others.
use Rattle.fabric_trace.proofs.Prelude.{◌≡◌, ℕ, Bool, zero, suc, ◌<◌, List, [], ◌∷◌, option_map, Some, length, get_or, slice_get, ap, ◌∙◌, arith, same_Some, Registers, is_switch}

pub record IsKindThere (switch : Bool) (devices : List Registers) (node : ℕ) : Type 0 where
  pub within : node < length devices
  pub kind : (read : Registers) → read ≡ get_or devices node read → is_switch read ≡ switch

pub kind_there : (switch : Bool) (devices : List Registers) (node : ℕ)
    → option_map is_switch (slice_get devices node) ≡ Some switch
    → IsKindThere switch devices node
kind_there switch [] node is = absurd cc
kind_there switch (d ∷ devices) zero is = record {
  within = omega arith;
  kind = λ read value. ap is_switch value ∙ same_Some (is_switch d) switch is;
}
kind_there switch (d ∷ devices) (suc node) is =
    let later = kind_there switch devices node is in
    let within = later.within in
    record { within = omega arith; kind = later.kind }
