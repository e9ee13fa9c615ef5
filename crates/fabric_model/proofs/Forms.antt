-- All that a network holds stays in its link form, and the numbers of its registers go on to fit.
use Rattle.fabric_model.proofs.Prelude.{◌≡◌, ℕ, zero, suc, ◌<◌, Bool, true, false, if◌then◌else◌, List, [], ◌∷◌, ◌++◌, Option, Some, None, option_map, slice_get, refl, sym, subst, option_and_then, AllByRecursion, prio_of, Passes, Registers, Request, request_of, request_answered, responses_pass, answered_within, PortRef, Item, Network, same_port, first_packet, with_lent, with_device, response_at, device_after, Hold, Free, Take, Leave, Move, Drop, Answer, Step, Linked, AtNode, ByDevice, Needs, only_first, behind_first, after_hold, after, LegalFrom, IsEmptyNetwork, taken_by, ended_by, ItemPlace, ReceivedAt, WaitingAt, Over, items_at, ItemsPass, IsFormed, AnswersPass}
use Rattle.maint_registers.specs.Within.{IsWithin}
use Rattle.maint_packets.specs.Responses.{response_bytes}
use Rattle.fabric_model.proofs.Boards.{allowed_along, step_on}
use Rattle.fabric_model.proofs.Lists.{all-append}
use Rattle.fabric_model.proofs.OnBoards.{AllOn, AllOn-step}
use Rattle.fabric_model.proofs.Tables.{registers_stay}

-- ---- items

front : (items : List Item) → ItemsPass items → ItemsPass (only_first items)
front [] all = tt
front (item ∷ items) all = (all.0, tt)

rest : (items : List Item) → ItemsPass items → ItemsPass (behind_first items)
rest [] all = tt
rest (item ∷ items) all = all.1

first_is_packet : (items : List Item) (packet : List ℕ) → first_packet items ≡ Some packet
    → ItemsPass items
    → Passes packet
first_is_packet [] packet first all = absurd (cc)
first_is_packet (item ∷ items) packet first all =
    let same : item.now ≡ packet = cc in
    subst Passes same all.0

-- wherever it stands
abbrev IsPacket : ItemPlace → Item → Type 0
IsPacket place item = Passes item.now

on_board : (net : Network) → IsFormed net → AllOn IsPacket (items_at net (λ e. []))
on_board net formed (ReceivedAt p r) = formed.received p r
on_board net formed (WaitingAt p r) = formed.waiting p r
on_board net formed (Over e) = tt

after_step : (net : Network) (step : Step) → Needs net step → IsFormed net
    → AllOn IsPacket (items_at (after net step) (λ e. [] ++ ended_by e net step))
after_step net step needs formed =
    AllOn-step IsPacket net (after net step) (taken_by net step) (items_at net (λ e. []))
    (items_at (after net step) (λ e. [] ++ ended_by e net step)) (step_on net (λ e. []) step needs)
    (λ p packet passes. passes)
    (λ from to item moved allowed passes.
    (allowed_along net from to item moved allowed passes).passes)
    (on_board net formed)

-- ---- what is lent

with_lent_packets : (lent : PortRef → List Item) (p : PortRef) (items : List Item)
    → ItemsPass items
    → ((q : PortRef) → ItemsPass (lent q)) → (q : PortRef) → ItemsPass (with_lent lent p items q)
with_lent_packets lent p items all others q = go (same_port q p)
  where
    go : (here : Bool) → ItemsPass (if here then items else lent q)
    go true = all
    go false = others q

step_lent : (net : Network) (step : Step) → Needs net step → IsFormed net
    → (q : PortRef) → ItemsPass ((after net step).lent q)
step_lent net (Linked (Hold far packet)) (p, peer, first, room) formed q =
    subst (λ (o : Option PortRef). ItemsPass ((after_hold net far o (prio_of packet)).lent q))
    (sym peer)
    (with_lent_packets net.lent p (net.lent p ++ only_first (net.waiting p (prio_of packet)))
    (all-append (λ (item : Item). Passes item.now) (net.lent p)
    (only_first (net.waiting p (prio_of packet))) (formed.lent p)
    (front (net.waiting p (prio_of packet)) (formed.waiting p (prio_of packet))))
    formed.lent q)
step_lent net (Linked (Free p packet)) needs formed q =
    with_lent_packets net.lent p (behind_first (net.lent p)) (rest (net.lent p) (formed.lent p))
    formed.lent q
step_lent net (AtNode (Take n packet)) needs formed q = formed.lent q
step_lent net (AtNode (Leave n packet)) needs formed q = formed.lent q
step_lent net (ByDevice (Move p t packet)) needs formed q = formed.lent q
step_lent net (ByDevice (Drop p packet)) needs formed q = formed.lent q
step_lent net (ByDevice (Answer p packet response)) needs formed q = formed.lent q

-- ---- registers

pub AreWithin-with : (devices : List Registers) (n : ℕ) (change : Registers → Registers)
    → ((device : Registers) → IsWithin device → IsWithin (change device))
    → AllByRecursion IsWithin devices → AllByRecursion IsWithin (with_device devices n change)
AreWithin-with [] n change keeps all = tt
AreWithin-with (device ∷ devices) zero change keeps all = (keeps device all.0, all.1)
AreWithin-with (device ∷ devices) (suc n) change keeps all =
    (all.0, AreWithin-with devices n change keeps all.1)

device_stays : (packet : List ℕ) (port : ℕ) (device : Registers) → Passes packet → IsWithin device
    → IsWithin (device_after port (request_of packet) device)
device_stays packet port device passes within = go (request_of packet) refl
  where
    go : (o : Option Request) → request_of packet ≡ o → IsWithin (device_after port o device)
    go None is = within
    go (Some request) is = answered_within device packet request port within passes is

step_registers : (net : Network) (step : Step) → Needs net step → IsFormed net
    → AllByRecursion IsWithin (after net step).registers
step_registers net (ByDevice (Answer p packet response)) (first, registers, is, form, room) formed =
    let passes = first_is_packet (net.received p (prio_of packet)) packet first
    (formed.received p (prio_of packet)) in
    AreWithin-with net.registers p.node (device_after p.port (request_of packet))
    (λ device within. device_stays packet p.port device passes within) formed.registers
step_registers net (Linked (Hold q packet)) needs formed =
    subst (AllByRecursion IsWithin) (sym (registers_stay net (Linked (Hold q packet)) refl))
    formed.registers
step_registers net (Linked (Free p packet)) needs formed = formed.registers
step_registers net (AtNode (Take n packet)) needs formed = formed.registers
step_registers net (AtNode (Leave n packet)) needs formed = formed.registers
step_registers net (ByDevice (Move p q packet)) needs formed = formed.registers
step_registers net (ByDevice (Drop p packet)) needs formed = formed.registers

-- ---- steps

step_formed : (net : Network) (step : Step) → Needs net step → IsFormed net
    → IsFormed (after net step)
step_formed net step needs formed =
    let board = after_step net step needs formed in
    record {
      received = λ p r. board (ReceivedAt p r);
      waiting = λ p r. board (WaitingAt p r);
      lent = step_lent net step needs formed;
      registers = step_registers net step needs formed;
    }

pub stays_formed : (start : Network) (steps : List Step) (end : Network) → IsFormed start
    → LegalFrom start steps end → IsFormed end
stays_formed start [] end formed legal = subst IsFormed (sym legal) formed
stays_formed start (step ∷ steps) end formed legal =
    stays_formed (after start step) steps end (step_formed start step legal.0 formed) legal.1

-- a network with no packet has none in another form
pub empty_formed : (start : Network) → IsEmptyNetwork start
    → AllByRecursion IsWithin start.registers
    → IsFormed start
empty_formed start empty within = record {
  received = λ p r. subst ItemsPass (sym (empty.received p r)) tt;
  waiting = λ p r. subst ItemsPass (sym (empty.waiting p r)) tt;
  lent = λ p. subst ItemsPass (sym (empty.lent p)) tt;
  registers = within;
}

-- ---- answers

pub device_at : (devices : List Registers) (n : ℕ) (device : Registers) → slice_get devices n
    ≡ Some device
    → AllByRecursion IsWithin devices → IsWithin device
device_at [] n device is all = absurd (cc)
device_at (other ∷ devices) zero device is all =
    let same : other ≡ device = cc in
    subst IsWithin same all.0
device_at (other ∷ devices) (suc n) device is all = device_at devices n device is all.1

-- what registers answer to a packet in its link form is another
pub answer_passes : (net : Network) → IsFormed net → (p : PortRef) (packet response : List ℕ)
    → p.port < 0x100
    → Passes packet → response_at net p packet ≡ Some response → Passes response
answer_passes net formed p packet response low passes = by_device (slice_get net.registers p.node)
    refl
  where
    answer : Registers → Request → List ℕ
    answer device request = response_bytes (request_answered device request p.port).response

    by_request : (device : Registers) (o : Option Request) → IsWithin device → request_of packet ≡ o
        → option_map (answer device) o ≡ Some response → Passes response
    by_request device None within asks is = absurd (cc)
    by_request device (Some request) within asks is =
        let same : answer device request ≡ response = cc in
        subst Passes same (responses_pass device packet request p.port within low passes asks)

    by_device : (o : Option Registers) → slice_get net.registers p.node ≡ o
        → option_and_then (λ device. option_map (answer device) (request_of packet)) o
        ≡ Some response → Passes response
    by_device None found is = absurd (cc)
    by_device (Some device) found is =
        by_request device (request_of packet)
        (device_at net.registers p.node device found formed.registers) refl is

pub answers_pass : (net : Network) → IsFormed net → AnswersPass net
answers_pass net formed p r packet response low first is =
    answer_passes net formed p packet response low
    (first_is_packet (net.received p r) packet first (formed.received p r)) is
