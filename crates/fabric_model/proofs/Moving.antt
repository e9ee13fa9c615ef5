-- What a packet is as it moves on, and where a switch sends it by what its flow knows of it.
use Rattle.fabric_model.proofs.Prelude.{◌≡◌, ℕ, zero, suc, ◌+◌, ◌-◌, ◌/◌, ◌%◌, ◌≤◌, ◌<◌, ◌==◌, ◌&&◌, Bool, true, false, not, nat_lt, List, get_or, Option, Some, None, option_map, slice_get, refl, sym, ap, ◌∙◌, subst, arith, cond, if◌then◌else◌, ⊤, option_and_then, false≢true, ne_eqb, prio_of, ftype_of, ttype_of, dest_of, hop_of, hop_place, is_maintenance, has_maintenance_form, is_request, Lowered, Passes, lowered, Registers, is_switch, next_port, Next, Nowhere, RegisterUnit, Port, is_foreign, is_spent, is_at_end, to_port, next_of, moved, Network, next_at, MovesTo}
use Rattle.rio_packets.proofs.PlaceLaws.{places}
use Rattle.rio_packets.proofs.LowerLaws.{Passes-lowered, Lowered-lowered}

-- what a flow knows of a packet beside its destination: whether it is of format type 8, and the hop
-- count of a maintenance
-- packet
pub record Key : Type 0 where
  pub eight : Bool
  pub hop : Option ℕ

abbrev pub key_of : List ℕ → Key
key_of packet = record { eight = ftype_of packet == 8; hop = hop_of packet }

-- as it moves on
abbrev pub moved_key : Key → Key
moved_key key = record { eight = key.eight; hop = option_map (λ h. h - 1) key.hop }

-- what stays of a packet that moves on
pub record MovesOn (old new : List ℕ) : Type 0 where
  pub passes : Passes new
  pub once : MovesTo old new
  pub prio : prio_of new ≡ prio_of old
  pub dest : dest_of new ≡ dest_of old
  pub key : key_of new ≡ moved_key (key_of old)

module _ (old : List ℕ) (passes : Passes old) (m : is_maintenance old ≡ true)
    (hops : 1 ≤ get_or old (hop_place old) 0) where
  is_lowered : Lowered old (lowered old)
  is_lowered = Lowered-lowered old passes m hops

  byte : (k : ℕ) → k < 6 → get_or (lowered old) k 0 ≡ get_or old k 0
  byte k below =
      let known = places old m in
      let hop = known.least in let crc = known.between in
      is_lowered.others k (λ e. omega (arith, below, hop, e))
      (λ e. omega (arith, below, hop, crc, e))
      (λ e. omega (arith, below, hop, crc, e))

  -- the hop count stays where it was
  place_is : hop_place (lowered old) ≡ hop_place old
  place_is = ap (λ type. (if type == 1 then 6 else 4) + 2) is_lowered.same_type

  hop_is : hop_of (lowered old) ≡ option_map (λ h. h - 1) (hop_of old)
  hop_is =
      let less = is_lowered.hop in
      let count : get_or (lowered old) (hop_place (lowered old)) 0 ≡ get_or old (hop_place old) 0
      - 1 =
      ap (λ place. get_or (lowered old) place 0) place_is ∙ omega (arith, less) in
      rw (m, is_lowered.is) (ap Some count)

  moves_lowered : MovesOn old (lowered old)
  moves_lowered = record {
    passes = Passes-lowered old passes m hops;
    once = rw m is_lowered;
    prio = ap (λ b. b / 64) (byte 1 (omega arith));
    dest = rw (byte 1 (omega arith), byte 2 (omega arith), byte 3 (omega arith)) refl;
    key = λ i. record { eight = byte 1 (omega arith) i % 16 == 8; hop = hop_is i };
  }

moves_as_is : (old : List ℕ) → Passes old → is_maintenance old ≡ false → MovesOn old old
moves_as_is old passes other = record {
  passes = passes;
  once = rw other refl;
  prio = refl;
  dest = refl;
  key = rw other refl;
}

-- what is not at its end moves on
pub moves_on : (old : List ℕ) → Passes old → is_at_end old ≡ false → MovesOn old (moved old)
moves_on old passes goes = go (is_maintenance old) refl
  where
    some : (n : ℕ) → (n == 0) ≡ false → 1 ≤ n
    some zero none = absurd (false≢true (sym none))
    some (suc n) none = omega arith

    go : (t : Bool) → is_maintenance old ≡ t → MovesOn old (cond t (lowered old) old)
    go true m = moves_lowered old passes m (some (get_or old (hop_place old) 0)
        (subst (λ t. is_spent (cond t (Some (get_or old (hop_place old) 0)) None) ≡ false) m goes))
    go false other = moves_as_is old passes other

-- a packet for which a switch names a port is not at its end
pub named_goes : (device : Registers) (packet : List ℕ) (n : ℕ) → next_of device packet ≡ Port n
    → is_at_end packet ≡ false
named_goes device packet n = go (is_foreign packet) (is_at_end packet) (is_request packet)
    (to_port (option_and_then (next_port device) (dest_of packet)))
  where
    go : (foreign ends asks : Bool) (next : Next)
        → cond foreign Nowhere (cond ends (cond asks RegisterUnit Nowhere) next) ≡ Port n → ends
        ≡ false
    go true ends asks next is = absurd (cc)
    go false true true next is = absurd (cc)
    go false true false next is = absurd (cc)
    go false false asks next is = refl

-- the port to which a switch with this route sends what has this key
abbrev pub by_key : Bool → Option ℕ → Option ℕ → Option ℕ
by_key true None route = None
by_key false None route = route
by_key eight (Some zero) route = None
by_key eight (Some (suc h)) route = route

-- a port, or none, and where a packet goes
abbrev pub Agrees : Option ℕ → Next → Type 0
Agrees (Some n) (Port m) = n ≡ m
Agrees (Some n) Nowhere = ⊥
Agrees (Some n) RegisterUnit = ⊥
Agrees None (Port m) = ⊥
Agrees None Nowhere = ⊤
Agrees None RegisterUnit = ⊤

to_port_agrees : (o : Option ℕ) → Agrees o (to_port o)
to_port_agrees None = tt
to_port_agrees (Some n) = refl

-- what a switch does with a packet, by what the packet says
agrees : (eight fits asks : Bool) (hop : ℕ) (route : Option ℕ)
    → Agrees (by_key eight (cond (eight && fits) (Some hop) None) route)
    (cond (eight && not (eight && fits)) Nowhere
    (cond (is_spent (cond (eight && fits) (Some hop) None))
    (cond ((eight && fits) && asks) RegisterUnit Nowhere) (to_port route)))
agrees false fits asks hop route = to_port_agrees route
agrees true false asks hop route = tt
agrees true true true zero route = tt
agrees true true false zero route = tt
agrees true true asks (suc hop) route =
    rw (ne_eqb (suc hop) 0 (λ same. omega arith)) (to_port_agrees route)

pub next_agrees : (device : Registers) (packet : List ℕ)
    → Agrees (by_key (ftype_of packet == 8) (hop_of packet)
    (option_and_then (next_port device) (dest_of packet))) (next_of device packet)
next_agrees device packet =
    agrees (ftype_of packet == 8)
    (has_maintenance_form packet)
    (nat_lt (ttype_of packet) 2) (get_or packet (hop_place packet) 0)
    (option_and_then (next_port device) (dest_of packet))

-- the switch that sends a packet
pub record SentBy (net : Network) (n : ℕ) (packet : List ℕ) (next : Next) : Type 0 where
  pub device : Registers
  pub known : slice_get net.registers n ≡ Some device
  pub switch : is_switch device ≡ true
  pub sends : next_of device packet ≡ next

pub sent_by : (net : Network) (n : ℕ) (packet : List ℕ) (next : Next) → next_at net n packet
    ≡ Some next → SentBy net n packet next
sent_by net n packet next named = go (slice_get net.registers n) refl named
  where
    go : (o : Option Registers) → slice_get net.registers n ≡ o
        → option_and_then (λ device. cond (is_switch device) (Some (next_of device packet)) None) o
        ≡ Some next → SentBy net n packet next
    go None known is = absurd (cc)
    go (Some device) known is = by_kind (is_switch device) refl is
      where
        by_kind : (t : Bool) → is_switch device ≡ t → cond t (Some (next_of device packet)) None
            ≡ Some next → SentBy net n packet next
        by_kind true switch is = record {
          device = device;
          known = known;
          switch = switch;
          sends = cc;
        }
        by_kind false other is = absurd (cc)
