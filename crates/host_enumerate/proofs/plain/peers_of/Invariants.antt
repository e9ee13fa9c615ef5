use Rattle.host_enumerate.proofs.Prelude.{◌≡◌, length, HasPeers}
use Rattle.host_enumerate.proofs.plain.peers_of.Given as goal

abbrev pub invariant-loop-place : goal.invariant-loop-place
invariant-loop-place l = record {
  count : length l.peers.items ≡ l.place;
  has : HasPeers l.links l.peers.items;
}
