-- Small runs are traces of their scripts, and the laws fail of lines that they must not allow.
use Rattle.fabric_trace.proofs.Prelude.{◌≡◌, ◌≢◌, ℕ, true, false, Contains, Option, List, [], None, ◌∷◌, ◌++◌, Some, refl, sym, subst, if◌then◌else◌, inl, inr, drop, arith, ap, ◌∙◌, append-nil, append_assoc, Char, Event, IsSettled, highest_below, IsSubsequence, EndsWithin, TakesWithin, SkipsWithin, come, port_turned, bursts, kind, window, run, place_after, packet_event, carried, fed, shifted, shifted_times, bits, number, division_steps, complemented, field_bits, crc5_message, crc5_of, crc5_value, spelled, is_spelling, new_endpoint, new_switch, Port, greatest_first, least_first, Network, same_port, link_in, packet, next_at, LegalFrom, TraceLine, Empty, Short, Early, NoStep, Fired, Signed, Lacked, steps_of, UndetectedAt, Seen, link_at, says, sends, seen, bare, begins, Runs, FreesAllowed, IsBlockAtRest, IsSettle, WithLink, Faithful, FreesNoted, NeverFailWithin, AreOwned, SettlesTo, SettleAll, Settle, Run, PortRef, FindsFirst, Settled, NeverFail, Fields, Ctl, Pkt, Bad, packet_accepted, Acknowledges, Gotten, nothing_got, completed, FreesSaid, HoldsCame, IsMove, MaySetUpAll, WireFold, near, far, pair_network, idle_script, idle_trace, accepted_chars, switch_script, switch_trace, two_held, dropped_at, moved_to, joined_with_itself, held_from_nowhere, held_in_wrong_order, frees_once, freed_twice, freed_later, accepted_in_pieces, accepted_before, got_from_nowhere, got_another, got_behind_a_find, sent_from_nowhere, fires_once, still_under_way, moving, acted_from_nowhere, named_though_sent, not_settled, not_settled_yet, goes_on_with, named_at, found_before, fails_in_a_delivery, fails_in_a_run}
use Rattle.fabric_trace.proofs.Parts.Folding.{says_none}

pub idle_runs : Runs idle_script idle_trace
unfolding bursts port_turned highest_below run window greatest_first
idle_runs = (
  [],
  _,
  refl,
  refl,
  (
    Lacked Short ∷ [],
    _,
    refl,
    refl,
    (
      Lacked Short ∷ [],
      _,
      refl,
      refl,
      (
        Signed (Fired near) ∷ [],
        _,
        refl,
        refl,
        (
          [],
          _,
          refl,
          refl,
          (
            Lacked Early ∷ [],
            _,
            refl,
            refl,
            (
              Lacked Empty ∷ [],
              _,
              refl,
              record {
                endpoint = refl;
                device = new_endpoint 1 true;
                stands = refl;
                form = tt;
                lines = refl;
              },
              refl,
            ),
          ),
        ),
      ),
    ),
  ),
)

pub switch_runs : Runs switch_script switch_trace
unfolding greatest_first least_first
switch_runs = (
  Lacked NoStep ∷ [],
  _,
  refl,
  record { switch = refl; device = new_switch 2 0; stands = refl; form = tt; lines = refl },
  refl,
)

pub higher_first : IsMove (two_held 1) 0 (dropped_at 1 1)
unfolding greatest_first least_first
higher_first =
    record { switch = refl; device = new_switch 2 0; stands = refl; form = tt; lines = refl }

pub lower_port_first : IsMove (two_held 0) 0 (dropped_at 0 0)
unfolding greatest_first least_first
lower_port_first =
    record { switch = refl; device = new_switch 2 0; stands = refl; form = tt; lines = refl }

pub elsewhere_breaks : (net end : Network) (node from named to : ℕ) (packet : List ℕ)
    → next_at net node packet ≡ Some (Port named) → named ≢ to
    → LegalFrom net (steps_of (moved_to node from to packet)) end → ⊥
elsewhere_breaks net end node from named to packet is apart legal =
    let same : Some (Port named) ≡ Some (Port to) = sym is ∙ legal.0.2 in
    apart (cc same)

pub joined_breaks : MaySetUpAll bare joined_with_itself → ⊥
joined_breaks may = absurd (cc may.0.0)

pub held_breaks : (end : Network) → LegalFrom pair_network (steps_of held_from_nowhere) end → ⊥
held_breaks end legal = absurd (cc legal.0.2)

-- nothing has something within it
no_more : {e : Event} {all xs ys : List Event} → IsSubsequence xs ys → xs ≡ e ∷ all → ys ≡ [] → ⊥
no_more EndsWithin is nothing = absurd cc
no_more (TakesWithin x rest) is nothing = absurd cc
no_more (SkipsWithin x rest) is nothing = absurd cc

pub came_breaks : HoldsCame far held_from_nowhere → ⊥
came_breaks came = no_more came refl says_none

wrong_order : (chars : List Char) (first second : List ℕ) {xs ys : List Event} → first ≢ second
    → IsSubsequence xs ys → xs ≡ Pkt 0 second ∷ Pkt 1 first ∷ []
    → ys ≡ Pkt 0 first ∷ Pkt 1 second ∷ [] → ⊥
wrong_order chars first second apart EndsWithin is said = absurd cc
wrong_order chars first second apart (TakesWithin e rest) is said =
    let same : Pkt 0 second ≡ Pkt 0 first = cc in
    apart (cc same)
wrong_order chars first second apart (SkipsWithin x rest) is said = later rest is (ap (drop 1) said)
  where
    later : {xs ys : List Event} → IsSubsequence xs ys → xs ≡ Pkt 0 second ∷ Pkt 1 first ∷ []
        → ys ≡ Pkt 1 second ∷ [] → ⊥
    later EndsWithin is said = absurd cc
    later (TakesWithin e rest) is said =
        let same : Pkt 0 second ≡ Pkt 1 second = cc in
        absurd (cc same)
    later (SkipsWithin x rest) is said = no_more rest is (ap (drop 1) said)

pub order_breaks : (chars : List Char) (first second : List ℕ) → first ≢ second
    → says chars ≡ Pkt 0 first ∷ Pkt 1 second ∷ []
    → HoldsCame far (held_in_wrong_order chars first second) → ⊥
order_breaks chars first second apart said came =
    wrong_order chars first second apart came refl (ap says (append-nil chars) ∙ said)

pub got_breaks : WireFold pair_network.links (λ p. []) got_from_nowhere → ⊥
got_breaks fold = absurd (cc fold.0.stands)

pub another_breaks : (sent other : Char) → sent ≢ other
    → WireFold pair_network.links (λ p. []) (got_another sent other) → ⊥
another_breaks sent other apart fold =
    let peer : Some near ≡ Some fold.1.0.peer = fold.1.0.peer_is in
    let one : near ≡ fold.1.0.peer = cc in
    let stands =
    subst (λ p. (if same_port p near then ([] ++ sent ∷ []) else []) ≡ other ∷ fold.1.0.behind)
    (sym one) fold.1.0.stands in
    apart (cc stands)

pub moving_breaks : IsSettled (link_at (seen (begins pair_network) still_under_way) near far) → ⊥
moving_breaks settled = absurd (cc settled.quiet.wire_a)

-- the acceptance is acted on
pub acted_breaks : Faithful (begins pair_network) acted_from_nowhere → ⊥
unfolding run place_after kind spelled is_spelling crc5_value crc5_of crc5_message field_bits bits
    number division_steps complemented
acted_breaks faithful = no_more ((faithful.0 near refl).sent refl) refl refl

pub undetected_breaks : Faithful (begins pair_network) named_though_sent → ⊥
unfolding run place_after kind spelled is_spelling crc5_value crc5_of crc5_message field_bits bits
    number division_steps complemented
undetected_breaks faithful =
    (faithful.1.0 near refl).undetected refl (TakesWithin (Ctl (packet_accepted 0 31)) EndsWithin)

pub freed_breaks : FreesSaid near nothing_got 0 frees_once → ⊥
unfolding run
freed_breaks said = no_more (said.0 refl).among refl refl

one_in : {e x : Event} {xs ys : List Event} → IsSubsequence xs ys → xs ≡ e ∷ [] → ys ≡ x ∷ []
    → e ≡ x
one_in EndsWithin is one = absurd cc
one_in (TakesWithin y rest) is one = cc
one_in (SkipsWithin y rest) is one =
    let none : _ ≡ [] = ap (drop 1) one in absurd (no_more rest is none)

twice : (e : Event) → e ≡ Ctl (packet_accepted 0 31) → Acknowledges 1 e → ⊥
twice (Ctl symbol) is (inl own) =
    let same : symbol ≡ packet_accepted 0 31 = ap (λ (x : Event). symbol_of x symbol) is in
    let zero_is : 0 ≡ 1 = sym (ap (λ (s : Fields). s.p0) same) ∙ own.1 in
    omega (arith, zero_is)
  where
    symbol_of : Event → Fields → Fields
    symbol_of (Ctl s) other = s
    symbol_of (Pkt ack packet) other = other
    symbol_of (Bad cause) other = other
twice (Ctl symbol) is (inr own) =
    let same : symbol ≡ packet_accepted 0 31 = ap (λ (x : Event). symbol_in x symbol) is in
    let zero_is : 0 ≡ 6 = sym (ap (λ (s : Fields). s.s0) same) ∙ own in
    omega (arith, zero_is)
  where
    symbol_in : Event → Fields → Fields
    symbol_in (Ctl s) other = s
    symbol_in (Pkt ack packet) other = other
    symbol_in (Bad cause) other = other
twice (Pkt ack packet) is none = absurd none
twice (Bad cause) is none = absurd none

pub twice_breaks : (known : Gotten) → completed known ≡ Ctl (packet_accepted 0 31) ∷ []
    → FreesSaid near known 0 freed_twice → ⊥
twice_breaks known one said =
    let second = said.1.0 refl in
    twice second.event (one_in second.among refl one) second.acknowledges

-- ---- frees

pub earlier_breaks : FreesSaid near accepted_before 0 frees_once → ⊥
unfolding run place_after kind spelled is_spelling crc5_value crc5_of crc5_message field_bits bits
    number division_steps complemented
earlier_breaks said = no_more (said.0 refl).among refl refl

pub pieces_said : FreesSaid near accepted_in_pieces 0 frees_once
unfolding run place_after kind spelled is_spelling crc5_value crc5_of crc5_message field_bits bits
    number division_steps complemented
pieces_said = (
  λ own. record {
    event = Ctl (packet_accepted 0 31);
    among = TakesWithin (Ctl (packet_accepted 0 31)) EndsWithin;
    acknowledges = inl (refl, refl);
  },
  tt,
)

pub noted_breaks : FreesNoted near false frees_once → ⊥
noted_breaks noted = absurd (cc (noted.0 refl))

pub later_breaks : FreesNoted near false freed_later → ⊥
later_breaks noted = absurd (cc (noted.1.1.0 refl))

pub allowed_breaks : FreesAllowed near [] 0 frees_once → ⊥
unfolding run
allowed_breaks allowed = let low = allowed.0 refl in omega (arith, low)

pub once_allowed : FreesAllowed near accepted_chars 0 frees_once
unfolding run place_after kind spelled is_spelling crc5_value crc5_of crc5_message field_bits bits
    number division_steps complemented
once_allowed = (λ own. omega arith, tt)

pub too_many_breaks : FreesAllowed near accepted_chars 0 freed_twice → ⊥
unfolding run place_after kind spelled is_spelling crc5_value crc5_of crc5_message field_bits bits
    number division_steps complemented
too_many_breaks allowed = let low = allowed.1.0 refl in omega (arith, low)

-- ---- what is sent, and time-outs

nothing_there : (packet : List ℕ) → Contains [] packet → ⊥
nothing_there packet there = let within = there.1 in omega (arith, within)

pub sent_breaks : AreOwned (begins pair_network) sent_from_nowhere → ⊥
unfolding run place_after kind spelled is_spelling crc5_value crc5_of crc5_message field_bits bits
    number division_steps complemented packet_event carried fed shifted shifted_times
sent_breaks owned =
    elim owned.0.1.0 [ inl own ↦ nothing_there packet own | inr own ↦ nothing_there packet own ]

pub fired_breaks : AreOwned moving fires_once → ⊥
fired_breaks owned = absurd (cc owned.0.near)

-- ---- rest, ends and failures

pub round_breaks : SettlesTo (λ s a b lines. lines ≡ []) moving near far [] → ⊥
round_breaks settles = moving_breaks (settles.1 refl)

pub settle_at_rest : (s : Seen) (block : List TraceLine) → s.network ≡ pair_network
    → IsBlockAtRest s (Settle near) block → (seen s block).undetected ≡ None
    → IsSettled (link_at (seen s block) near far)
settle_at_rest s block is rests still =
    let link : link_in s.network.links near ≡ Some (near, far) =
    ap (λ (net : Network). link_in net.links near) is in
    (subst (λ o. WithLink o (SettlesTo IsSettle s) block) link rests).1 still

-- the first link of a round
pub round_at_rest : (s : Seen) (block : List TraceLine) → s.network ≡ pair_network
    → IsBlockAtRest s (Run 1) block
    → (first : List TraceLine) × (rest : List TraceLine) × (block ≡ first ++ rest) ×
    ((seen s first).undetected ≡ None → IsSettled (link_at (seen s first) near far))
round_at_rest s block is rounds =
    let round = rounds.3 in
    let links : s.network.links ≡ pair_network.links = ap (λ (net : Network). net.links) is in
    let own =
    subst (λ (l : List (PortRef × PortRef)). SettleAll (SettlesTo IsSettle) l s round.0) links
    round.3 in
    let whole : block ≡ own.0 ++ (own.1 ++ (round.1 ++ rounds.1)) =
    rounds.2 ∙ ap (λ l. l ++ rounds.1) (round.2 ∙ ap (λ l. l ++ round.1) own.2)
    ∙ append_assoc (own.0 ++ own.1) round.1 rounds.1
    ∙ append_assoc own.0 own.1 (round.1 ++ rounds.1) in
    (own.0, own.1 ++ (round.1 ++ rounds.1), whole, own.3.1)

pub rest_breaks : Settled (begins pair_network) None not_settled → ⊥
rest_breaks settled = let rests : IsSettled (link_at moving near far) =
    settled.1.1.0.1 (near, far) refl in moving_breaks rests

pub rest_before_breaks : Settled (begins pair_network) None not_settled_yet → ⊥
rest_before_breaks settled = let rests : IsSettled (link_at moving near far) =
    settled.1.1.0.1 (near, far) refl in moving_breaks rests

pub found_breaks : Settled found_before None goes_on_with → ⊥
found_breaks settled = absurd (cc settled.0.0)

pub named_breaks : Settled (begins pair_network) None (named_at far) → ⊥
named_breaks settled = absurd (cc settled.0)

pub named_other_breaks : Settled found_before None (named_at near) → ⊥
named_other_breaks settled =
    let same : far ≡ near = ap port_in settled.0 in
    absurd (omega (arith, ap (λ (p : PortRef). p.node) same))
  where
    port_in : Option UndetectedAt → PortRef
    port_in None = near
    port_in (Some found) = found.port

pub second_breaks : FindsFirst (begins pair_network) got_behind_a_find → ⊥
unfolding run place_after kind spelled is_spelling crc5_value crc5_of crc5_message field_bits bits
    number division_steps complemented come
second_breaks first = absurd (cc first.1.0)

pub failed_breaks : NeverFail (begins pair_network) fails_in_a_run → ⊥
unfolding run place_after kind spelled is_spelling crc5_value crc5_of crc5_message field_bits bits
    number division_steps complemented come sends
failed_breaks never = never.1.1.1.1.0 near refl

pub failed_within_breaks : NeverFailWithin (begins pair_network) fails_in_a_delivery → ⊥
unfolding run place_after kind spelled is_spelling crc5_value crc5_of crc5_message field_bits bits
    number division_steps complemented come sends
failed_within_breaks never = never.1.1.1.0 far 1 refl refl
