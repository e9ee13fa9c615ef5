-- A delivery of which each event was sent takes all characters.
use Rattle.std.proofs.Common.{◌≡◌, ℕ, ◌+◌, List, length, sym, ap, arith}
use Rattle.link_model.specs.Prelude.{Char, Place, run, place_after}
use Rattle.link_port.specs.Prelude.{Event, PortState}
use Rattle.link_wires.specs.Deliveries.{Flow, Delivered, Through, WentUndetected, begun, come, ended, delivered}

-- the parts of a flow at its end
pub ended_count : (place : Place) (count : ℕ) (d : Delivered) (flow : Flow)
    → ended place count d ≡ Through flow → flow.told.count ≡ count
ended_count place count (Through f) flow is =
    let end : Flow = record f {
      port = record f.port { place = place };
      told = record f.told { count = count };
    } in
    let same : end ≡ flow = cc in
    ap (λ (g : Flow). g.told.count) (sym same)
ended_count place count (WentUndetected told e) flow is = absurd cc

ended_place : (place : Place) (count : ℕ) (d : Delivered) (flow : Flow)
    → ended place count d ≡ Through flow → flow.port.place ≡ place
ended_place place count (Through f) flow is =
    let end : Flow = record f {
      port = record f.port { place = place };
      told = record f.told { count = count };
    } in
    let same : end ≡ flow = cc in
    ap (λ (g : Flow). g.port.place) (sym same)
ended_place place count (WentUndetected told e) flow is = absurd cc

pub through_count : (port : PortState) (kept : List Event) (chars : List Char) (flow : Flow)
    → delivered port kept chars ≡ Through flow → flow.told.count ≡ length chars
through_count port kept chars flow is =
    let count = ended_count (place_after port.place chars) (0 + length chars)
    (come (run port.place 0 chars) (begun port kept)) flow is in
    omega (arith, count)

-- and leaves the framer where it stands after them
pub through_place : (port : PortState) (kept : List Event) (chars : List Char) (flow : Flow)
    → delivered port kept chars ≡ Through flow → flow.port.place ≡ place_after port.place chars
through_place port kept chars flow is =
    ended_place (place_after port.place chars) (0 + length chars)
    (come (run port.place 0 chars) (begun port kept)) flow is
