-- The handle of a port.
use mathlib.Core.Path.{refl}
use Rattle.library_calls.specs.contracts.open_port.OpenPort as Opened
use Rattle.library_calls.proofs.open_port.OpenPort.TheLaws as opened
use Rattle.kigvarp_c.specs.contracts.port_handle.PortHandle as Handle
use Rattle.kigvarp_c.proofs.HandleForm.{HandleForm}

abbrev pub port_form : HandleForm
port_form = record {
  thing = Opened.the_row;
  laws = opened.the_row_laws;
  row = Handle.the_row;
  name = Handle.the_type.name;
  make = λ p a xs. record { at = p; alloc = a; ports = xs };
  at = λ h. h.at;
  alloc = λ h. h.alloc;
  things = λ h. h.ports;
  made = λ h. refl;
  made_things = λ p a xs. refl;
  made_owns = λ p a xs us. refl;
  parts_own = λ p us. refl;
  last = λ h. tt;
  leaves_nothing = λ h w. refl;
}
