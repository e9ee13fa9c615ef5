-- The lists of steps through switches.
use Rattle.fabric_model.proofs.Prelude.{true, inr, ◌≡◌, [], ◌∷◌, Some, take, drop, refl, arith, map, Passes, dest_of, passes, closed, fed, shifted, shifted_times, decides_passes, Nowhere, Port, Item, port_of, Take, Leave, AtNode, after, after_all, LegalFrom, response_at, gone, AreProper, SameCourse, SameFlow, RoutesStand, EarlierFirst, InOrder, ByTables, packet, other, first}
use Rattle.fabric_script.specs.Ports.{port_at}
use Rattle.fabric_model.specs.Laws.Switches.{around, for_5, for_9, later_for_9, through, circle, parting, SamePriority, moved_elsewhere, dropped_on_its_way, for_7, later_for_7, request, response, changing, with_hop_0, with_hop_5, with_hop_3, hopping, large, of_both_sizes, taken_as}
use Rattle.fabric_model.proofs.Worked.{packet_passes}

test_for_5 : passes for_5 ≡ true
unfolding fed shifted_times shifted
test_for_5 = refl

passes_5 : Passes for_5
passes_5 = (decides_passes for_5).0 test_for_5

test_for_9 : passes for_9 ≡ true
unfolding fed shifted_times shifted
test_for_9 = refl

passes_9 : Passes for_9
passes_9 = (decides_passes for_9).0 test_for_9

test_later_for_9 : passes later_for_9 ≡ true
unfolding fed shifted_times shifted
test_later_for_9 = refl

passes_later : Passes later_for_9
passes_later = (decides_passes later_for_9).0 test_later_for_9

pub around_proper : AreProper around.links
around_proper = (refl, refl, refl, (refl, refl, refl, (refl, refl, refl, (refl, refl, refl, tt))))

pub through_legal : LegalFrom around through (after_all around through)
through_legal = (
  (refl, packet_passes, refl),
  (
    (port_of 0, refl, refl, refl),
    (
      (refl, refl, refl, refl),
      (
        (port_at 2 1, refl, refl, refl),
        (
          (refl, refl, refl, refl),
          ((port_at 3 0, refl, refl, refl), ((refl, refl, refl), refl)),
        ),
      ),
    ),
  ),
)

pub circle_legal : LegalFrom around circle (after_all around circle)
circle_legal = (
  (refl, passes_9, refl),
  (
    (port_of 0, refl, refl, refl),
    (
      (refl, refl, refl, refl),
      (
        (port_at 2 1, refl, refl, refl),
        (
          (refl, refl, refl, refl),
          (
            (refl, passes_later, refl),
            (
              (port_of 0, refl, refl, refl),
              (
                (refl, refl, refl, refl),
                ((port_at 3 2, refl, refl, refl), ((refl, refl, refl, refl), refl)),
              ),
            ),
          ),
        ),
      ),
    ),
  ),
)

pub circle_stands : map (λ (item : Item). item.number)
    ((after_all around circle).waiting (port_at 2 1) 0) ≡ 1 ∷ 0 ∷ []
circle_stands = refl

pub parting_legal : LegalFrom around parting (after_all around parting)
parting_legal = (
  (refl, packet_passes, refl),
  (
    (refl, passes_5, refl),
    (
      (port_of 0, refl, refl, refl),
      (
        (port_of 0, refl, refl, refl),
        (
          (refl, refl, refl, refl),
          (
            (refl, refl, refl, refl),
            (
              (port_at 2 2, refl, refl, refl),
              (
                (refl, refl, refl, refl),
                ((port_at 3 0, refl, refl, refl), ((refl, refl, refl), refl)),
              ),
            ),
          ),
        ),
      ),
    ),
  ),
)

pub parting_breaks : EarlierFirst SamePriority around parting → ⊥
parting_breaks law =
    let stand : RoutesStand (dest_of packet) (after around (AtNode (Take 0 packet)))
    (take 8 (drop 1 parting)) = (
      λ n. refl,
      (
        λ n. refl,
        (λ n. refl, (λ n. refl, (λ n. refl, (λ n. refl, (λ n. refl, (λ n. refl, tt)))))),
      ),
    ) in
    let later : Item = record { number = 1; port = port_of 0; taken = for_5; now = for_5 } in
    omega (
      arith,
      law [] (AtNode (Take 0 packet)) (take 8 (drop 1 parting)) (AtNode (Leave 1 for_5))
          [] first later refl refl refl stand (record { port = refl; priority = refl })
          (omega arith),
    )

pub elsewhere_overtakes : InOrder around moved_elsewhere → ⊥
elsewhere_overtakes law =
    let stand : RoutesStand (dest_of packet) (after around (AtNode (Take 0 packet)))
    (take 8 (drop 1 moved_elsewhere)) = (
      λ n. refl,
      (
        λ n. refl,
        (λ n. refl, (λ n. refl, (λ n. refl, (λ n. refl, (λ n. refl, (λ n. refl, tt)))))),
      ),
    ) in
    let later : Item = record { number = 1; port = port_of 0; taken = other; now = other } in
    let same : SameFlow first later = record {
      transport = refl;
      source = refl;
      course = record {
        port = refl;
        dest = refl;
        priority = refl;
        maintenance = refl;
        hop = refl;
      };
    } in
    omega (
      arith,
      law.earlier_first [] (AtNode (Take 0 packet)) (take 8 (drop 1 moved_elsewhere))
          (AtNode (Leave 1 other)) [] first later refl refl refl stand same (omega arith),
    )

pub elsewhere_breaks : ByTables around moved_elsewhere → ⊥
elsewhere_breaks law =
    let named : Some (Port 1) ≡ Some (Port 2) =
    (law.moved (take 5 moved_elsewhere) (drop 6 moved_elsewhere) (port_at 2 0) (port_at 2 2)
    other refl).1 in
    absurd (cc)

pub dropped_breaks : ByTables around dropped_on_its_way → ⊥
dropped_breaks law =
    let named : Some (Port 1) ≡ Some Nowhere = law.dropped (take 2 dropped_on_its_way) []
    (port_at 2 0) packet refl in
    absurd (cc)

test_for_7 : passes for_7 ≡ true
unfolding fed shifted_times shifted
test_for_7 = refl

passes_for_7 : Passes for_7
passes_for_7 = (decides_passes for_7).0 test_for_7

test_later_for_7 : passes later_for_7 ≡ true
unfolding fed shifted_times shifted
test_later_for_7 = refl

passes_later_for_7 : Passes later_for_7
passes_later_for_7 = (decides_passes later_for_7).0 test_later_for_7

test_request : passes request ≡ true
unfolding fed shifted_times shifted
test_request = refl

passes_request : Passes request
passes_request = (decides_passes request).0 test_request

test_response : passes response ≡ true
unfolding fed shifted_times shifted
test_response = refl

passes_response : Passes response
passes_response = (decides_passes response).0 test_response

test_with_hop_0 : passes with_hop_0 ≡ true
unfolding fed shifted_times shifted
test_with_hop_0 = refl

passes_with_hop_0 : Passes with_hop_0
passes_with_hop_0 = (decides_passes with_hop_0).0 test_with_hop_0

test_with_hop_5 : passes with_hop_5 ≡ true
unfolding fed shifted_times shifted
test_with_hop_5 = refl

passes_with_hop_5 : Passes with_hop_5
passes_with_hop_5 = (decides_passes with_hop_5).0 test_with_hop_5

-- the registers answer the write
written : response_at around (port_at 2 0) request ≡ Some response
unfolding closed fed shifted_times shifted
written = refl

pub changing_legal : LegalFrom around changing (after_all around changing)
changing_legal = (
  (refl, passes_for_7, refl),
  (
    (port_of 0, refl, refl, refl),
    (
      (refl, refl, refl, refl),
      (
        (refl, passes_request, refl),
        (
          (port_of 0, refl, refl, refl),
          (
            (refl, inr refl, written, passes_response, refl),
            (
              (refl, passes_later_for_7, refl),
              (
                (port_of 0, refl, refl, refl),
                (
                  (refl, refl, refl, refl),
                  (
                    (port_at 2 2, refl, refl, refl),
                    (
                      (refl, refl, refl, refl),
                      ((port_at 3 0, refl, refl, refl), ((refl, refl, refl), refl)),
                    ),
                  ),
                ),
              ),
            ),
          ),
        ),
      ),
    ),
  ),
)

pub hopping_legal : LegalFrom around hopping (after_all around hopping)
unfolding closed fed shifted_times shifted
hopping_legal = (
  (refl, passes_with_hop_0, refl),
  (
    (refl, passes_with_hop_5, refl),
    (
      (port_of 0, refl, refl, refl),
      (
        (refl, refl),
        (
          (port_of 0, refl, refl, refl),
          (
            (refl, refl, refl, refl),
            (
              (port_at 2 1, refl, refl, refl),
              (
                (refl, refl, refl, refl),
                ((port_at 3 0, refl, refl, refl), ((refl, refl, refl), refl)),
              ),
            ),
          ),
        ),
      ),
    ),
  ),
)

pub hopping_gone : gone around hopping ≡ taken_as 1 with_hop_5 with_hop_3 ∷ []
unfolding closed fed shifted_times shifted
hopping_gone = refl

-- ---- both sizes of IDs

test_large : passes large ≡ true
unfolding fed shifted_times shifted
test_large = refl

passes_large : Passes large
passes_large = (decides_passes large).0 test_large

pub sizes_legal : LegalFrom around of_both_sizes (after_all around of_both_sizes)
sizes_legal = (
  (refl, packet_passes, refl),
  (
    (refl, passes_large, refl),
    (
      (port_of 0, refl, refl, refl),
      (
        (port_of 0, refl, refl, refl),
        (
          (refl, refl, refl, refl),
          (
            (refl, refl, refl, refl),
            (
              (port_at 2 1, refl, refl, refl),
              (
                (port_at 2 1, refl, refl, refl),
                (
                  (refl, refl, refl, refl),
                  (
                    (refl, refl, refl, refl),
                    (
                      (port_at 3 0, refl, refl, refl),
                      (
                        (port_at 3 0, refl, refl, refl),
                        ((refl, refl, refl), ((refl, refl, refl), refl)),
                      ),
                    ),
                  ),
                ),
              ),
            ),
          ),
        ),
      ),
    ),
  ),
)

pub sizes_gone : gone around of_both_sizes ≡ first ∷ taken_as 1 large large ∷ []
sizes_gone = refl

pub sizes_course : SameCourse first (taken_as 1 large large)
sizes_course = record { port = refl; dest = refl; priority = refl; maintenance = refl; hop = refl }

pub sizes_flow : SameFlow first (taken_as 1 large large) → ⊥
sizes_flow flow = omega (arith, flow.transport)
