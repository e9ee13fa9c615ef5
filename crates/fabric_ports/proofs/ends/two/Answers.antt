use Rattle.std.proofs.Common.{◌<◌, refl, arith}
use Rattle.fabric_ports.proofs.Halves.{first_low, first_high, low_is, high_is}
use Rattle.fabric_ports.proofs.ends.two.Goals as goal

pub returns-then-i-j : goal.returns-then-i-j
returns-then-i-j c =
    let s = c.split_at_mut-low in
    let all = c.args.ports.now in (
      (
        (refl, refl),
        λ x y. first_low s.result.0.now s.result.1.now all c.args.i c.args.j x y
            s.ensures.value s.ensures.front_len c.if-i-j.true,
      ),
      record {
        lends = tt;
        first = low_is s.result.0.now s.result.1.now all c.args.i c.args.j c.index-low-i.result
            s.ensures.value s.ensures.front_len c.if-i-j.true c.index-low-i.is;
        second = high_is s.result.0.now s.result.1.now all c.args.j c.index-high-0.result
            s.ensures.value s.ensures.front_len c.requires.second c.index-high-0.is;
      },
    )

pub returns : goal.returns
returns c =
    let s = c.split_at_mut-low-2 in
    let all = c.args.ports.now in
    let below : c.args.j < c.args.i = omega (arith, c.requires.apart, c.if-i-j.false) in (
      (
        (refl, refl),
        λ x y. first_high s.result.0.now s.result.1.now all c.args.i c.args.j x y
            s.ensures.value s.ensures.front_len below,
      ),
      record {
        lends = tt;
        first = high_is s.result.0.now s.result.1.now all c.args.i c.index-high-0-2.result
            s.ensures.value s.ensures.front_len c.requires.first c.index-high-0-2.is;
        second = low_is s.result.0.now s.result.1.now all c.args.j c.args.i c.index-low-j.result
            s.ensures.value s.ensures.front_len below c.index-low-j.is;
      },
    )
