-- A packet's way over a link, and lists of steps of which the laws do not hold.
use Rattle.fabric_model.proofs.Prelude.{true, ◌≡◌, [], ◌∷◌, refl, arith, Passes, passes, fed, shifted, shifted_times, decides_passes, Item, port_of, Hold, Free, Take, Leave, Linked, AtNode, after_all, LegalFrom, gone, items_ended, ItemPlace, ReceivedAt, WaitingAt, Over, HoldingExactly, StandsAt, items_at, Once, Unchanged, FreedAfterHeld, InOrder, packet, other, pair, pair_steps, first, held_once, kept_too, left_twice, twins, left_both, left_as_other, freed_too_early, fork, overtaking}

-- the packets are in their link form
test_packet : passes packet ≡ true
unfolding fed shifted_times shifted
test_packet = refl

test_other : passes other ≡ true
unfolding fed shifted_times shifted
test_other = refl

pub packet_passes : Passes packet
packet_passes = (decides_passes packet).0 test_packet

other_passes : Passes other
other_passes = (decides_passes other).0 test_other

pub pair_legal : LegalFrom pair pair_steps (after_all pair pair_steps)
pair_legal = (
  (refl, packet_passes, refl),
  ((port_of 0, refl, refl, refl), (refl, ((refl, refl, refl), refl))),
)

pub pair_gone : gone pair pair_steps ≡ first ∷ []
pair_gone = refl

pub kept_too_breaks : HoldingExactly pair held_once kept_too → ⊥
kept_too_breaks holding = go (holding.placed 0 (omega arith))
  where
    go : ((place : ItemPlace) × StandsAt (items_at kept_too (items_ended pair held_once)) 0 place)
        → ⊥
    go at = elsewhere at.0 at.1
      where
        elsewhere : (place : ItemPlace)
            → StandsAt (items_at kept_too (items_ended pair held_once)) 0 place
            → ⊥
        elsewhere (ReceivedAt p r) stands = omega (arith, stands (WaitingAt (port_of 0) 0))
        elsewhere (WaitingAt p r) stands = omega (arith, stands (ReceivedAt (port_of 1) 0))
        elsewhere (Over e) stands = omega (arith, stands (WaitingAt (port_of 0) 0))

pub left_twice_breaks : Once pair left_twice → ⊥
left_twice_breaks once = omega (arith, once.each)

pub left_both_breaks : Once twins left_both → ⊥
left_both_breaks once = omega (arith, once.never_twice 0)

pub left_as_other_breaks : Unchanged pair left_as_other → ⊥
left_as_other_breaks unchanged = absurd (cc unchanged.shown)

pub freed_too_early_breaks : FreedAfterHeld pair freed_too_early → ⊥
freed_too_early_breaks law =
    let front = law.front (AtNode (Take 0 packet) ∷ Linked (Free (port_of 0) packet) ∷ [])
    (Linked (Hold (port_of 1) packet) ∷ []) refl (port_of 0) in
    absurd (cc front.1)

pub overtaking_legal : LegalFrom fork overtaking (after_all fork overtaking)
overtaking_legal = (
  (refl, packet_passes, refl),
  (
    (refl, other_passes, refl),
    (
      (port_of 0, refl, refl, refl),
      ((port_of 0, refl, refl, refl), ((refl, refl, refl), ((refl, refl, refl), refl))),
    ),
  ),
)

pub overtaking_breaks : InOrder fork overtaking → ⊥
overtaking_breaks law =
    omega (
      arith,
      law.earlier_first [] (AtNode (Take 0 packet))
          (AtNode (Take 0 other) ∷ Linked (Hold (port_of 1) packet)
          ∷ Linked (Hold (port_of 2) other)
          ∷ []) (AtNode (Leave 2 other)) (AtNode (Leave 1 packet) ∷ []) first second refl refl refl
          (λ n. refl, (λ n. refl, (λ n. refl, tt)))
          (record {
            transport = refl;
            source = refl;
            course = record {
              port = refl;
              dest = refl;
              priority = refl;
              maintenance = refl;
              hop = refl;
            };
          })
          (omega arith),
    )
  where
    second : Item
    second = record { number = 1; port = port_of 0; taken = other; now = other }
