use Rattle.fabric_ports.proofs.AfterLaws.{named_after, names_after, stands_after}
use Rattle.fabric_ports.proofs.GatherAllLaws.{round_ran, round_short}
use Rattle.fabric_ports.proofs.RanLaws.{err_is}
use Rattle.fabric_ports.proofs.fabric.Fabric.ask_round.Goals as goal

pub serve_all-requires-clause-stands : goal.serve_all-requires-clause-stands
serve_all-requires-clause-stands g c = stands_after c.in_ok-carry_all.ensures c.requires.stands

pub serve_all-requires-clause-named : goal.serve_all-requires-clause-named
serve_all-requires-clause-named g c =
    named_after c.in_ok-carry_all.ensures c.requires.stands c.requires.named

pub serve_all-requires-clause-few : goal.serve_all-requires-clause-few
serve_all-requires-clause-few g c =
    rw (names_after c.in_ok-carry_all.ensures c.requires.stands) c.requires.few

pub collect_nodes-requires-clause-stands : goal.collect_nodes-requires-clause-stands
collect_nodes-requires-clause-stands g c =
    stands_after c.serve_all.ensures (stands_after c.in_ok-carry_all.ensures c.requires.stands)

pub collect_nodes-requires-clause-named : goal.collect_nodes-requires-clause-named
collect_nodes-requires-clause-named g c =
    named_after c.serve_all.ensures (stands_after c.in_ok-carry_all.ensures c.requires.stands)
    (named_after c.in_ok-carry_all.ensures c.requires.stands c.requires.named)

pub collect_nodes-requires-clause-few : goal.collect_nodes-requires-clause-few
collect_nodes-requires-clause-few g c =
    rw (
      names_after c.serve_all.ensures (stands_after c.in_ok-carry_all.ensures c.requires.stands),
      names_after c.in_ok-carry_all.ensures c.requires.stands,
    )
    c.requires.few

pub returns-in_err-carry_all : goal.returns-in_err-carry_all
returns-in_err-carry_all g c =
    rw (err_is c.from_residual.result c.in_err-carry_all.field-0.0 c.from_residual.ensures.1)
    (λ from lines stands.
    round_short c.args.host _ stands (c.in_err-carry_all.ensures from lines stands))

pub returns : goal.returns
returns g c = λ from lines stands. round_ran _ _ _ _ c.args.host _ _
    (c.in_ok-carry_all.ensures from lines stands) (c.serve_all.ensures from)
    (c.collect_nodes.ensures from)
