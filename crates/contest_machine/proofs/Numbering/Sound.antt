-- What registers show of a fabric they go on to show, whatever is written.
use Rattle.contest_machine.proofs.Prelude.{PortRef, Topology, AllRegisters, Fits, Access, answered, after_access}
use Rattle.host_enumerate.proofs.AccessKeeps.{access_keeps}
use Rattle.host_enumerate.proofs.Accessed.{fits-with}

pub fits_after : (view : Topology) (now : AllRegisters) (at : PortRef) (access : Access)
    → Fits view now → Fits view (after_access now at access)
fits_after view now at access fits =
    fits-with view now at.node (answered (now at.node) at.port access).device fits
    (access_keeps (now at.node) at.port access)
