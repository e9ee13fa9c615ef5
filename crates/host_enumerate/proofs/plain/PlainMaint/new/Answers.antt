use Rattle.host_enumerate.proofs.Prelude.{List, arith, subst, PortRef, HasPeers}
use Rattle.host_enumerate.proofs.NewFabrics.{made_fabric}
use Rattle.host_enumerate.proofs.plain.PlainMaint.new.Goals as goal

pub returns-clause-whole : goal.returns-clause-whole
returns-clause-whole c =
    let is = made_fabric c.args.script.now.names.items c.args.script.now.lines.items
    c.in_ok-devised.devised.devices.items c.in_ok-devised.devised.links.items c.args.host
    c.requires.passes c.requires.host c.in_ok-devised.ensures.devices
    c.in_ok-devised.ensures.links in (
      is.topology,
      is.fits,
      subst (λ (links : List (PortRef × PortRef)). HasPeers links c.in_ok-peers.peers.items)
          c.as_slice.ensures.value c.in_ok-peers.ensures,
    )

pub returns-clause-untagged : goal.returns-clause-untagged
returns-clause-untagged c =
    (made_fabric c.args.script.now.names.items c.args.script.now.lines.items
    c.in_ok-devised.devised.devices.items c.in_ok-devised.devised.links.items c.args.host
    c.requires.passes c.requires.host c.in_ok-devised.ensures.devices
    c.in_ok-devised.ensures.links).untagged

pub returns-clause-host_has_id : goal.returns-clause-host_has_id
returns-clause-host_has_id c =
    (made_fabric c.args.script.now.names.items c.args.script.now.lines.items
    c.in_ok-devised.devised.devices.items c.in_ok-devised.devised.links.items c.args.host
    c.requires.passes c.requires.host c.in_ok-devised.ensures.devices
    c.in_ok-devised.ensures.links).host_has_id

pub peers_of-requires : goal.peers_of-requires
peers_of-requires c =
    let most = (made_fabric c.args.script.now.names.items c.args.script.now.lines.items
    c.in_ok-devised.devised.devices.items c.in_ok-devised.devised.links.items c.args.host
    c.requires.passes c.requires.host c.in_ok-devised.ensures.devices
    c.in_ok-devised.ensures.links).topology.most in
    let count = c.len.ensures in omega (arith, most, count)
