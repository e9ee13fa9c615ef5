-- The words of one way of a link that crates above cite most, passed on from one place. Declares
-- nothing.
pub use Rattle.link_wires.specs.Wires.{WireState, fits, answers}
unfoldable pub use Rattle.link_wires.specs.Wires.{bursts, port_turned}
pub use Rattle.link_wires.specs.Deliveries.{Delivered, Through, WentUndetected, Flow, Told, begun, comes, goes_on, met, done, ended, delivered, undetected, told_of}
unfoldable pub use Rattle.link_wires.specs.Deliveries.{come}
pub use Rattle.link_wires.specs.Acting.{acted_all}
pub use Rattle.link_wires.specs.Kept.{behind, behind_all, IsSubsequence}
