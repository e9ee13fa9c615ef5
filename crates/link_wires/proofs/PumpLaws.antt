-- One turn after another.
use Rattle.std.proofs.Common.{◌≡◌, ℕ, zero, suc, ◌-◌, ◌++◌, ◌<◌, List, refl, ap, ◌∙◌, arith, append_assoc}
use Rattle.std.proofs.lemmas.List.{append-nil}
use Rattle.link_model.specs.Prelude.{Char}
use Rattle.link_port.specs.Prelude.{Event, PortState, Burst, no_burst, turns_to, turn_sends}
use Rattle.link_wires.specs.Wires.{WireState, with_sent, both_bursts, port_turned, bursts}

less_one : (n : ℕ) → suc n - 1 ≡ n
less_one n = omega arith

pub turned_next : (n : ℕ) (port : PortState) → 0 < n
    → port_turned (n - 1) (turns_to port) ≡ port_turned n port
unfolding port_turned
turned_next zero port h = absurd (omega arith)
turned_next (suc n) port h = ap (λ k. port_turned k (turns_to port)) (less_one n)

pub bursts_next : (n : ℕ) (port : PortState) → 0 < n
    → both_bursts (turn_sends port) (bursts (n - 1) (turns_to port)) ≡ bursts n port
unfolding bursts
bursts_next zero port h = absurd (omega arith)
bursts_next (suc n) port h =
    ap (λ k. both_bursts (turn_sends port) (bursts k (turns_to port))) (less_one n)

pub turned_none : (port : PortState) → port_turned 0 port ≡ port
unfolding port_turned
turned_none port = refl

pub bursts_none : (port : PortState) → bursts 0 port ≡ no_burst
unfolding bursts
bursts_none port = refl

-- a turn, and then the turns that are left
pub sent_then : (kept : List Event) (n : ℕ) (port : PortState) → 0 < n
    → (kept ++ (turn_sends port).sent) ++ (bursts (n - 1) (turns_to port)).sent
    ≡ kept ++ (bursts n port).sent
sent_then kept n port h =
    append_assoc kept (turn_sends port).sent (bursts (n - 1) (turns_to port)).sent
    ∙ ap (λ (s : Burst). kept ++ s.sent) (bursts_next n port h)

pub chars_then : (chars : List Char) (n : ℕ) (port : PortState) → 0 < n
    → (chars ++ (turn_sends port).chars) ++ (bursts (n - 1) (turns_to port)).chars
    ≡ chars ++ (bursts n port).chars
chars_then chars n port h =
    append_assoc chars (turn_sends port).chars (bursts (n - 1) (turns_to port)).chars
    ∙ ap (λ (s : Burst). chars ++ s.chars) (bursts_next n port h)

-- the turns that are left send nothing
pub sent_end : (kept : List Event) (burst : Burst) → burst ≡ no_burst → kept ++ burst.sent ≡ kept
sent_end kept burst none = ap (λ (s : Burst). kept ++ s.sent) none ∙ append-nil kept

pub chars_end : (chars : List Char) (burst : Burst) → burst ≡ no_burst
    → chars ++ burst.chars ≡ chars
chars_end chars burst none = ap (λ (s : Burst). chars ++ s.chars) none ∙ append-nil chars

pub sent_nothing : (wire : WireState) (burst : Burst) → burst ≡ no_burst
    → with_sent wire burst ≡ wire
sent_nothing wire burst none =
    λ i. record {
      chars = chars_end wire.chars burst none i;
      kept = sent_end wire.kept burst none i;
    }
