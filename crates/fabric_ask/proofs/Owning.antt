-- Lines in which a host's registers answer nothing may follow whatever these registers are.
use Rattle.std.proofs.Common.{◌≡◌, ◌≢◌, ℕ, zero, suc, false, List, [], ◌∷◌, ◌++◌, Option, Some, None, option_map, option_and_then, slice_get, refl, sym, ap, ◌∙◌, subst, arith, inl, inr, ◌⊎◌, if◌then◌else◌}
use Rattle.fabric_ask.proofs.Prelude.{cases_eq, Char, prio_of, Registers, is_switch, Next, Request, next_of, request_of, response_bytes, request_answered, Edit, PortRef, Network, with_device, peer_in, IsEndpoint, next_at, response_at, device_after, Hold, Free, Take, Leave, NodeStep, Move, Drop, Answer, DeviceStep, Step, Linked, AtNode, ByDevice, Needs, after_hold, after, Seen, peer_of, edit_of, edited_by, got_from, fired_from, seen_line, seen, Got, Fired, TraceLine, Begun, Stepped, Signed, Part, PartBegins, PartLacks, PartEnds, PartNames, PartSteps, PartServes, PartTurns, PartTells, PartDelivers, PartFires, Made, Done, Then, seen_board, IsGood, IsReady, IsWithin, AllByRecursion, IsEndpointIn, with_own, NoAnswer, NeverAnswers}
use Rattle.fabric_trace.specs.Settings.{with_change}
use Rattle.fabric_model.proofs.Lanes.{AreWell}
use Rattle.fabric_model.specs.Laws.Holding.{ReceivedAt, WaitingAt, Over}

-- ---- devices

own_at : (devices : List Registers) (host : ℕ) (device : Registers) (n : ℕ) → n ≢ host
    → slice_get (with_device devices host (λ other. device)) n ≡ slice_get devices n
own_at [] host device n apart = refl
own_at (x ∷ devices) zero device zero apart = absurd (apart refl)
own_at (x ∷ devices) zero device (suc n) apart = refl
own_at (x ∷ devices) (suc host) device zero apart = refl
own_at (x ∷ devices) (suc host) device (suc n) apart =
    own_at devices host device n (λ same. apart (ap suc same))

own_host : (devices : List Registers) (host : ℕ) (device : Registers) → IsEndpointIn devices host
    → slice_get (with_device devices host (λ other. device)) host ≡ Some device
own_host [] host device is = absurd cc
own_host (x ∷ devices) zero device is = refl
own_host (x ∷ devices) (suc host) device is = own_host devices host device is

commute : (devices : List Registers) (host n : ℕ) (device : Registers)
    (change : Registers → Registers)
    → n ≢ host
    → with_device (with_device devices host (λ other. device)) n change ≡ with_device
    (with_device devices n change) host (λ other. device)
commute [] host n device change apart = refl
commute (x ∷ devices) zero zero device change apart = absurd (apart refl)
commute (x ∷ devices) zero (suc n) device change apart = refl
commute (x ∷ devices) (suc host) zero device change apart = refl
commute (x ∷ devices) (suc host) (suc n) device change apart =
    ap (λ (l : List Registers). x ∷ l) (commute devices host n device change
    (λ same. apart (ap suc same)))

module _ (host : ℕ) (device : Registers) (endpoint : is_switch device ≡ false) where
  abbrev own : Network → Network
  own net = with_change net host (λ other. device)

  -- the kind of each node is the same
  kind_own : (net : Network) (n : ℕ) → IsEndpoint net host
      → option_map is_switch (slice_get (own net).registers n) ≡ option_map is_switch
      (slice_get net.registers n)
  kind_own net n is = elim (cases_eq n host) [
    | inl same ↦
        ap (λ k. option_map is_switch (slice_get (own net).registers k)) same
        ∙ ap (option_map is_switch) (own_host net.registers host device is)
        ∙ ap Some endpoint ∙ sym is ∙ ap (λ k. option_map is_switch (slice_get net.registers k))
        (sym same)
    | inr other ↦ ap (option_map is_switch)
        (own_at net.registers host device n (λ same. omega (arith, other, same)))
  ]

  next_own : (net : Network) (n : ℕ) (packet : List ℕ) (next : Next) → IsEndpoint net host
      → next_at (own net) n packet ≡ Some next → next_at net n packet ≡ Some next
  next_own net n packet next is named = elim (cases_eq n host) [
    | inl same ↦
        let none : next_at (own net) n packet ≡ None =
        ap (λ k. next_at (own net) k packet) same
        ∙ ap (option_and_then (λ (d : Registers). if is_switch d then Some (next_of d packet) else
        None)) (own_host net.registers host device is)
        ∙ ap (λ b. if b then Some (next_of device packet) else None) endpoint in
        absurd (some_none (next_at (own net) n packet) none named)
    | inr other ↦
        ap (option_and_then
        (λ (d : Registers). if is_switch d then Some (next_of d packet) else None))
        (sym (own_at net.registers host device n (λ same. omega (arith, other, same)))) ∙ named
  ]
    where
      some_none : (o : Option Next) → o ≡ None → o ≡ Some next → ⊥
      some_none o none some = let bad : None ≡ Some next = sym none ∙ some in absurd cc

  response_own : (net : Network) (p : PortRef) (packet response : List ℕ) → p.node ≢ host
      → response_at (own net) p packet ≡ Some response → response_at net p packet ≡ Some response
  response_own net p packet response apart answer =
      ap (option_and_then (λ (d : Registers). option_map
      (λ (r : Request). response_bytes (request_answered d r p.port).response) (request_of packet)))
      (sym (own_at net.registers host device p.node apart)) ∙ answer

  -- ---- steps

  node_own : (net : Network) (step : NodeStep) → IsEndpoint net host → Needs (own net) (AtNode step)
      → Needs net (AtNode step)
  node_own net (Take n packet) is needs = (sym (kind_own net n is) ∙ needs.0, needs.1, needs.2)
  node_own net (Leave n packet) is needs = (sym (kind_own net n is) ∙ needs.0, needs.1, needs.2)

  device_own : (net : Network) (step : DeviceStep) → IsEndpoint net host
      → NoAnswer host (Stepped (ByDevice step)) → Needs (own net) (ByDevice step)
      → Needs net (ByDevice step)
  device_own net (Move p q packet) is apart needs =
      (needs.0, needs.1, next_own net p.node packet _ is needs.2, needs.3)
  device_own net (Drop p packet) is apart needs = (needs.0, next_own net p.node packet _ is needs.1)
  device_own net (Answer p packet response) is apart needs =
      (needs.0, asked needs.1, response_own net p packet response apart needs.2, needs.3, needs.4)
    where
      asked : IsEndpoint (own net) p.node
          ⊎ (next_at (own net) p.node packet ≡ Some Next.RegisterUnit) → IsEndpoint net p.node
          ⊎ (next_at net p.node packet ≡ Some Next.RegisterUnit)
      asked (inl endpoint2) = inl (sym (kind_own net p.node is) ∙ endpoint2)
      asked (inr next) = inr (next_own net p.node packet _ is next)

  after_own : (net : Network) (step : Step) → NoAnswer host (Stepped step)
      → after (own net) step ≡ own (after net step)
  after_own net (Linked (Hold q packet)) apart = by_peer (peer_in net.links q)
    where
      by_peer : (o : Option PortRef) → after_hold (own net) q o (prio_of packet) ≡ own
          (after_hold net q o (prio_of packet))
      by_peer None = refl
      by_peer (Some p) = refl
  after_own net (Linked (Free p packet)) apart = refl
  after_own net (AtNode (Take n packet)) apart = refl
  after_own net (AtNode (Leave n packet)) apart = refl
  after_own net (ByDevice (Move p q packet)) apart = refl
  after_own net (ByDevice (Drop p packet)) apart = refl
  after_own net (ByDevice (Answer p packet response)) apart =
      ap (λ (l : List Registers). record (after net (ByDevice (Answer p packet response)))
      { registers = l }) (commute net.registers host p.node device
      (device_after p.port (request_of packet)) apart)

  -- ---- lines

  edited_own : (s : Seen) (edit : Option (PortRef × Edit))
      → edited_by (with_own host device s) edit ≡ with_own host device (edited_by s edit)
  edited_own s None = refl
  edited_own s (Some edit) = refl

  got_own : (s : Seen) (peer : Option PortRef) (q : PortRef) (chars : List Char)
      → got_from (with_own host device s) peer q chars ≡ with_own host device
      (got_from s peer q chars)
  got_own s None q chars = refl
  got_own s (Some p) q chars = refl

  fired_own : (s : Seen) (peer : Option PortRef) (p : PortRef)
      → fired_from (with_own host device s) peer p ≡ with_own host device (fired_from s peer p)
  fired_own s None p = refl
  fired_own s (Some q) p = refl

  pub line_own : (s : Seen) (line : TraceLine) → NoAnswer host line
      → seen_line (with_own host device s) line ≡ with_own host device (seen_line s line)
  line_own s (Begun line) apart = edited_own s (edit_of line)
  line_own s (Stepped step) apart = ap (λ (n : Network). record s { network = n })
      (after_own s.network step apart)
  line_own s (Signed (Got q chars)) apart = got_own s (peer_of s q) q chars
  line_own s (Signed (Fired p)) apart = fired_own s (peer_of s p) p
  line_own s _ apart = refl

  pub seen_own : (s : Seen) (lines : List TraceLine) → NeverAnswers host lines
      → seen (with_own host device s) lines ≡ with_own host device (seen s lines)
  seen_own s [] never = refl
  seen_own s (line ∷ lines) never = ap (λ (t : Seen). seen t lines) (line_own s line never.0)
      ∙ seen_own (seen_line s line) lines never.1

  never_parts : (xs ys : List TraceLine) → NeverAnswers host (xs ++ ys) → NeverAnswers host xs
      × NeverAnswers host ys
  never_parts [] ys never = (tt, never)
  never_parts (x ∷ xs) ys never = let rest = never_parts xs ys never.1 in
      ((never.0, rest.0), rest.1)

  never_by : {xs ys : List TraceLine} → xs ≡ ys → NeverAnswers host xs → NeverAnswers host ys
  never_by is never = subst (NeverAnswers host) is never

  part_own : (s : Seen) (lines : List TraceLine) → IsEndpoint s.network host
      → NeverAnswers host lines → Part (with_own host device s) lines → Part s lines
  part_own s lines is never (PartBegins line at) = PartBegins line at
  part_own s lines is never (PartLacks lack at) = PartLacks lack at
  part_own s lines is never (PartEnds at) = PartEnds at
  part_own s lines is never (PartNames number q e found at) = PartNames number q e found at
  part_own s lines is never (PartSteps step needs few at) =
      PartSteps step (node_own s.network step is needs) few at
  part_own s lines is never (PartServes step needs at) =
      PartServes step (device_own s.network step is (never_by at never).0 needs) at
  part_own s lines is never (PartTurns p q n peer none at) = PartTurns p q n peer none at
  part_own s lines is never (PartTells p q peer none at) = PartTells p q peer none at
  part_own s lines is never (PartDelivers p q n peer none has at) =
      PartDelivers p q n peer none has at
  part_own s lines is never (PartFires p q peer none silent at) = PartFires p q peer none silent at

  stays : (s : Seen) (lines : List TraceLine) → IsEndpoint s.network host
      → IsEndpoint (seen s lines).network host
  stays s lines is = (seen_board lines s).kinds host ∙ is

  made_from : (s t : Seen) (lines : List TraceLine) → t ≡ with_own host device s
      → IsEndpoint s.network host → NeverAnswers host lines → Made t lines → Made s lines
  made_from s t lines same is never (Done at) = Done at
  made_from s t lines same is never (Then first rest at own2 more) =
      let parts = never_parts first rest (never_by at never) in
      let there : seen t first ≡ with_own host device (seen s first) =
      ap (λ (x : Seen). seen x first) same ∙ seen_own s first parts.0 in
      Then first rest at (part_own s first is parts.0 (subst (λ x. Part x first) same own2))
      (made_from (seen s first) (seen t first) rest there (stays s first is) parts.1 more)

  -- Lines in which its registers answer nothing may follow whatever they are.
  pub made_own : (s : Seen) (lines : List TraceLine) → IsEndpoint s.network host
      → NeverAnswers host lines → Made (with_own host device s) lines → Made s lines
  made_own s lines is never made = made_from s (with_own host device s) lines refl is never made

-- What stands in lanes stands well whatever the host's registers are.
own_well : (host : ℕ) (device : Registers) (s : Seen) → AreWell s.network
    → AreWell (with_own host device s).network
own_well host device s well (ReceivedAt p r) = well (ReceivedAt p r)
own_well host device s well (WaitingAt p r) = well (WaitingAt p r)
own_well host device s well (Over e) = tt

-- What is known stays good.
pub own_good : (host : ℕ) (device : Registers) (s : Seen) → IsGood s
    → IsGood (with_own host device s)
own_good host device s good = record {
  well = own_well host device s good.well;
  proper = good.proper;
  links = λ none a b peer. let is = good.links none a b peer in
      record { sound = is.sound; stands = is.stands; kept_a = is.kept_a; kept_b = is.kept_b };
}

all_changed : (P : Registers → Type 0) (devices : List Registers) (n : ℕ) (device : Registers)
    → P device
    → AllByRecursion P devices → AllByRecursion P (with_device devices n (λ other. device))
all_changed P [] n device own all = tt
all_changed P (x ∷ devices) zero device own all = (own, all.1)
all_changed P (x ∷ devices) (suc n) device own all =
    (all.0, all_changed P devices n device own all.1)

-- And a trace may go on from it.
pub own_ready : (host : ℕ) (device : Registers) (s : Seen) → IsWithin device → IsReady s
    → IsReady (with_own host device s)
own_ready host device s within ready = record {
  formed = record {
    received = ready.formed.received;
    waiting = ready.formed.waiting;
    lent = ready.formed.lent;
    registers = all_changed IsWithin s.network.registers host device within ready.formed.registers;
  };
  by_priority =
      record { received = ready.by_priority.received; waiting = ready.by_priority.waiting };
  proper = ready.proper;
  links = λ none a b peer. let is = ready.links none a b peer in
      record { sound = is.sound; stands = is.stands; kept_a = is.kept_a; kept_b = is.kept_b };
}

-- The host is an endpoint whatever its registers are, if they are those of one.
pub own_endpoint : (host : ℕ) (device : Registers) (s : Seen) → is_switch device ≡ false
    → IsEndpoint s.network host → IsEndpoint (with_own host device s).network host
own_endpoint host device s kind is =
    ap (option_map is_switch) (own_host s.network.registers host device is) ∙ ap Some kind
