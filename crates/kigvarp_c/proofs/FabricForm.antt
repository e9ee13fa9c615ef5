-- The handle of a fabric.
use mathlib.Core.Path.{refl}
use Rattle.library_calls.specs.contracts.open_fabric.OpenFabric as Opened
use Rattle.library_calls.proofs.open_fabric.OpenFabric.TheLaws as opened
use Rattle.kigvarp_c.specs.contracts.fabric_handle.FabricHandle as Handle
use Rattle.kigvarp_c.proofs.HandleForm.{HandleForm}

abbrev pub fabric_form : HandleForm
fabric_form = record {
  thing = Opened.the_row;
  laws = opened.the_row_laws;
  row = Handle.the_row;
  name = Handle.the_type.name;
  make = λ p a xs. record { at = p; alloc = a; fabrics = xs };
  at = λ h. h.at;
  alloc = λ h. h.alloc;
  things = λ h. h.fabrics;
  made = λ h. refl;
  made_things = λ p a xs. refl;
  made_owns = λ p a xs us. refl;
  parts_own = λ p us. refl;
  last = λ h. tt;
  leaves_nothing = λ h w. refl;
}
