use Rattle.std.proofs.Common.{◌≡◌, [], ◌∷◌, ap, ◌∙◌, arith}
use Rattle.library_calls.specs.declared.status.CallStatus.TheVariants.{Done, Argument, NoMemory}
use Rattle.library_calls.specs.PortsSeen.{PortSeen}
use Rattle.kigvarp_c.specs.Handles.{OpensPort, IsBufferCount}
use Rattle.kigvarp_c.proofs.CallLaws.{no_items, opens_closed}
use Rattle.kigvarp_c.proofs.port.kigvarp_port_open.Goals as goal

pub returns-then-buffers-lt4-clause-opens : goal.returns-then-buffers-lt4-clause-opens
returns-then-buffers-lt4-clause-opens c =
    let ports = c.args.port.now.handle.ports in
    let none : ports ≡ [] = no_items ports _ c.requires c.if-port-ne0.false in
    let either = c.then-buffers-lt4.either in
    opens_closed (OpensPort c.args.buffers c.args.tells) ports ports Argument _ none
    c.call_number-then-buffers-lt4.ensures
    ((λ (fits : IsBufferCount c.args.buffers). grind (arith, either, fits.0, fits.1)), none)

pub returns-in_default-clause-opens : goal.returns-in_default-clause-opens
returns-in_default-clause-opens c =
    let ports = c.args.port.now.handle.ports in
    let none : ports ≡ [] = no_items ports _ c.requires c.if-port-ne0.false in
    opens_closed (OpensPort c.args.buffers c.args.tells) ports ports NoMemory _ none
    c.call_number-in_default.ensures ((c.if-buffers-lt4.false, c.if-buffers-gt30.false), none)

pub returns-in_default-new-clause-opens : goal.returns-in_default-new-clause-opens
returns-in_default-new-clause-opens c =
    let ports = c.args.port.now.handle.ports in
    let none : ports ≡ [] = no_items ports _ c.requires c.if-port-ne0.false in
    opens_closed (OpensPort c.args.buffers c.args.tells) ports ports NoMemory _ none
    c.call_number-in_default-new.ensures ((c.if-buffers-lt4.false, c.if-buffers-gt30.false), none)

pub returns-clause-opens : goal.returns-clause-opens
returns-clause-opens c =
    let ports = c.args.port.now.handle.ports in
    let none : ports ≡ [] = no_items ports _ c.requires c.if-port-ne0.false in
    opens_closed (OpensPort c.args.buffers c.args.tells) ports _ Done _ none
    c.call_number-2.ensures (
      (c.if-buffers-lt4.false, c.if-buffers-gt30.false),
      c.put_port.ensures.open
          ∙ ap (λ (p : PortSeen). p ∷ []) (c.in-Ok-new.ensures.ok ∙ c.in-Ok.ensures),
    )
