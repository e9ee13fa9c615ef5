-- What the lines of set-up give, and the laws of runs from there.
use Rattle.fabric_trace.proofs.Prelude.{◌≡◌, ◌≢◌, ◌↔◌, ℕ, ◌++◌, Bool, true, false, List, [], ◌∷◌, Some, None, refl, sym, ap, ◌∙◌, subst, arith, if◌then◌else◌, AllByRecursion, Char, new_port, link, empty_wires, new_sound, none_failed, Reached, At, FoundAt, OnState, goes, acts_notes, IsSettled, IsSoundLink, Registers, new_endpoint, new_switch, with_link, IsWithin, PortRef, Line, Endpoint, Switch, Link, Buffers, Route, Default, Lock, Large, Credits, undetected, Numbered, Network, same_port, with_device, Step, LegalFrom, all-append, well_begun, in_order, ArePeers, AreProper-append, TraceLine, steps_of, packets_in, Seen, peer_of, port_seen, link_at, says, taken_from, seen, lines_of, IsSettle, bare, set_up, set_up_all, begins, start, Runs, IsLink, AreLinks, Made, routed, defaulted, held_by, with_node, with_change, with_end, large_set, IsSetUp, MaySetUp, MaySetUpAll, place_start, place_after-none, EndsAs, nothing_got, FreesSaid, HoldsCame, FreesAllowed, ActsOnSent, WireFold, legal_parts}
use Rattle.link_model.specs.Output as out
use Rattle.link_sound.specs.Histories.{AreBuffers}
use Rattle.link_machine.proofs.Settling.Settled.{settling_rests}
use Rattle.maint_registers.proofs.WithinLaws.{new_endpoint_within, new_switch_within, lock_within, route_within, default_within, links_within, large_within}
use Rattle.fabric_model.specs.Laws.Lawful.{Lawful}
use Rattle.fabric_model.proofs.Forms.{AreWithin-with}
use Rattle.fabric_model.proofs.Freeing.{freed_after_held}
use Rattle.fabric_model.proofs.Holding.{holding_exactly}
use Rattle.fabric_model.proofs.Leaving.{once, unchanged}
use Rattle.fabric_model.proofs.Tables.{by_tables}
use Rattle.fabric_trace.proofs.Frees.FreesRead.{freed_carried, start_freed}
use Rattle.fabric_trace.proofs.Holds.Coming.{none_within}
use Rattle.fabric_trace.proofs.Traces.Ending.{runs_end}
use Rattle.fabric_trace.proofs.Holds.HoldsStill.{IsRead}
use Rattle.fabric_trace.proofs.Holds.HoldsRead.{read_carried}
use Rattle.fabric_trace.proofs.Allowance.Allowing.{counted_carried, start_raised}
use Rattle.fabric_trace.proofs.Parts.Carrying.{carry_made}
use Rattle.fabric_trace.proofs.Shown.Faith.{begins_kept, lines_keep, sent_exactly}
use Rattle.fabric_trace.proofs.Shown.Wiring.{made_fold}
use Rattle.fabric_trace.proofs.Parts.Folding.{seen-append, network_is}
use Rattle.fabric_trace.proofs.Parts.Keeping.{steps_of-append, IsGood, good_peers, made_keeps}
use Rattle.fabric_trace.proofs.Parts.Making.{Reaches}
use Rattle.fabric_trace.proofs.Links.EitherEnd.{acts_reach}
use Rattle.fabric_trace.proofs.Rounds.Running.{runs_made}
use Rattle.fabric_trace.proofs.Network.Viewing.{is_link}

-- ---- set-up

buffers_if : (own : Bool) (n m : ℕ) → AreBuffers n → AreBuffers m
    → AreBuffers (if own then n else m)
buffers_if own n m first second =
    elim own as (λ x. AreBuffers (if x then n else m)) [ true ↦ first | false ↦ second ]

-- other registers that are within
with_registers : (net : Network) (devices : List Registers) → IsSetUp net
    → AllByRecursion IsWithin devices → IsSetUp (record net { registers = devices })
with_registers net devices is within = record {
  empty = record {
    received = is.empty.received;
    waiting = is.empty.waiting;
    lent = is.empty.lent;
    given = is.empty.given;
  };
  proper = is.proper;
  buffers = is.buffers;
  within = within;
}

-- one more device
with_more : (net : Network) (device : Registers) → IsSetUp net → IsWithin device
    → IsSetUp (with_node net device)
with_more net device is within =
    with_registers net (net.registers ++ device ∷ []) is
    (all-append IsWithin net.registers (device ∷ []) is.within (within, tt))

-- a change of one device
changed_one : (net : Network) (node : ℕ) (change : Registers → Registers) → IsSetUp net
    → ((device : Registers) → IsWithin device → IsWithin (change device))
    → IsSetUp (with_change net node change)
changed_one net node change is keeps =
    with_registers net (with_device net.registers node change) is
    (AreWithin-with net.registers node change keeps is.within)

-- the port of a device has a link
linked_one : (net : Network) (p : PortRef) → AllByRecursion IsWithin net.registers
    → AllByRecursion IsWithin (with_end net p).registers
linked_one net p within =
    AreWithin-with net.registers p.node _
    (λ device is. links_within device (with_link device.linked p.port) is) within

set_up_one : (net : Network) (line : Line) → IsSetUp net → MaySetUp net line
    → IsSetUp (set_up net line)
set_up_one net (Endpoint name id) is may =
    with_more net (new_endpoint id false) is (new_endpoint_within id false may)
set_up_one net (Switch name ports) is may =
    with_more net (new_switch ports 0) is (new_switch_within ports 0 may.1)
set_up_one net (Route node id p) is may =
    changed_one net node (routed id p) is (λ device within. route_within device id p within may.2)
set_up_one net (Default node p) is may =
    changed_one net node (defaulted p) is (λ device within. default_within device p within may.1)
set_up_one net (Lock node id) is may =
    changed_one net node (held_by id) is (λ device within. lock_within device id within may.1)
set_up_one net (Large node id) is may =
    changed_one net node (large_set id) is (λ device within. large_within device id within may.1)
set_up_one net (Link a b) is may = record {
  empty = record {
    received = is.empty.received;
    waiting = is.empty.waiting;
    lent = is.empty.lent;
    given = is.empty.given;
  };
  proper = AreProper-append net.links a b is.proper may.0 may.1 may.2;
  buffers = is.buffers;
  within = linked_one (with_end net a) b (linked_one net a is.within);
}
set_up_one net (Buffers port n) is may = record {
  empty = record {
    received = is.empty.received;
    waiting = is.empty.waiting;
    lent = is.empty.lent;
    given = is.empty.given;
  };
  proper = is.proper;
  buffers = λ p. buffers_if (same_port p port) n (net.buffers p) may (is.buffers p);
  within = is.within;
}
set_up_one net (Credits port) is may = record {
  empty = record {
    received = is.empty.received;
    waiting = is.empty.waiting;
    lent = is.empty.lent;
    given = is.empty.given;
  };
  proper = is.proper;
  buffers = is.buffers;
  within = is.within;
}
set_up_one net _ is may = is

pub set_up_from : (net : Network) (script : List Numbered) → IsSetUp net → MaySetUpAll net script
    → IsSetUp (set_up_all net script)
set_up_from net [] is may = is
set_up_from net (line ∷ script) is may =
    set_up_from (set_up net line.line) script (set_up_one net line.line is may.0) may.1

pub set_up_bare : (script : List Numbered) → MaySetUpAll bare script
    → IsSetUp (set_up_all bare script)
set_up_bare script may =
    set_up_from bare script (record {
      empty = record {
        received = λ p r. refl;
        waiting = λ p r. refl;
        lent = λ p. refl;
        given = refl;
      };
      proper = tt;
      buffers = λ p. (omega arith, omega arith);
      within = tt;
    }) may

begins_link : (net : Network) (a b : PortRef) → IsSetUp net → IsLink (begins net) a b
begins_link net a b is =
    let empty = is.empty in
    is_link (begins net) a b
    (link empty_wires (new_port (net.tells a) (net.buffers a))
    (new_port (net.tells b) (net.buffers b)))
    (new_sound (net.tells a) (net.tells b) (net.buffers a) (net.buffers b) (is.buffers a)
    (is.buffers b))
    (record {
      queues = λ i. record {
        lent_a = packets_in (empty.lent a i);
        waiting_a =
            packets_in (empty.waiting a 0 i) ∷ packets_in (empty.waiting a 1 i)
            ∷ packets_in (empty.waiting a 2 i) ∷ packets_in (empty.waiting a 3 i) ∷ [];
        received_a =
            record {
              lists =
                  packets_in (empty.received a 0 i) ∷ packets_in (empty.received a 1 i)
                  ∷ packets_in (empty.received a 2 i) ∷ packets_in (empty.received a 3 i) ∷ [];
              buffers = net.buffers a;
            };
        lent_b = packets_in (empty.lent b i);
        waiting_b =
            packets_in (empty.waiting b 0 i) ∷ packets_in (empty.waiting b 1 i)
            ∷ packets_in (empty.waiting b 2 i) ∷ packets_in (empty.waiting b 3 i) ∷ [];
        received_b =
            record {
              lists =
                  packets_in (empty.received b 0 i) ∷ packets_in (empty.received b 1 i)
                  ∷ packets_in (empty.received b 2 i) ∷ packets_in (empty.received b 3 i) ∷ [];
              buffers = net.buffers b;
            };
      };
      tells_a = refl;
      tells_b = refl;
      half_a = refl;
      half_b = refl;
      wire_a = refl;
      wire_b = refl;
    })
    (record { left = []; found = refl }) (record { left = []; found = refl })

pub good_start : (net : Network) → IsSetUp net → IsGood (begins net)
good_start net is = record {
  well = well_begun net is.empty;
  proper = is.proper;
  links = λ none a b peer. begins_link net a b is;
}

-- ---- the laws

pub made : (script : List Numbered) (lines : List TraceLine) → MaySetUpAll bare script
    → Runs script lines → Made (start script) lines
made script lines may runs =
    runs_made script (start script) lines
    (good_start (set_up_all bare script) (set_up_bare script may)) refl runs

pub legal : (net : Network) (lines : List TraceLine) → IsSetUp net → Made (begins net) lines
    → LegalFrom net (steps_of lines) (seen (begins net) lines).network
legal net lines is all = (made_keeps (good_start net is) all).legal

pub lawful_steps : (net : Network) (steps : List Step) (end : Network) → IsSetUp net
    → LegalFrom net steps end → Lawful net steps end
lawful_steps net steps end is own = record {
  legal = own;
  holding_exactly = holding_exactly net steps end is.empty own;
  once = once net steps end is.empty own;
  unchanged = unchanged net steps end is.empty own;
  freed_after_held = freed_after_held net steps end is.empty own;
  by_tables = by_tables net steps end own;
  in_order = in_order net steps end is.empty is.proper own;
}

pub lawful : (net : Network) (lines : List TraceLine) → IsSetUp net → Made (begins net) lines
    → Lawful net (steps_of lines) (seen (begins net) lines).network
lawful net lines is all = lawful_steps net (steps_of lines) _ is (legal net lines is all)

pub links_sound : (net : Network) (lines : List TraceLine) → IsSetUp net → Made (begins net) lines
    → (seen (begins net) lines).undetected ≡ None → AreLinks (seen (begins net) lines)
links_sound net lines is all none = (made_keeps (good_start net is) all).good.links none

pub never_failed : (net : Network) (lines : List TraceLine) (p q : PortRef) → IsSetUp net
    → Made (begins net) lines → (seen (begins net) lines).undetected ≡ None
    → peer_of (seen (begins net) lines) p ≡ Some q
    → (port_seen (seen (begins net) lines) p).output ≢ out.Output.Failed
never_failed net lines p q is all none peer =
    (none_failed (link_at (seen (begins net) lines) p q)
    (links_sound net lines is all none p q peer).sound).0

-- where a link has come to, by how far it has come
settled_by : (s : Seen) (a b : PortRef) (lines : List TraceLine) (to : Reached)
    → Reaches s a b lines to → (seen s lines).undetected ≡ None → OnState IsSettled to
    → IsSettled (link_at (seen s lines) a b)
settled_by s a b lines (At m) r none settled = subst IsSettled (sym (r.there m refl).1) settled
settled_by s a b lines (FoundAt side e) r none settled = absurd (cc (r.found side e refl, none))

settled_only : (to : Reached) → OnState (λ m. IsSoundLink m × IsSettled m) to → OnState IsSettled to
settled_only (At m) both = both.1
settled_only (FoundAt side e) both = tt

pub settles_rest : (s : Seen) (a b : PortRef) (block : List TraceLine) → IsGood s
    → s.undetected ≡ None → ArePeers s.network.links a b → IsSettle s a b block
    → (seen s block).undetected ≡ None → IsSettled (link_at (seen s block) a b)
settles_rest s a b block good none peers settles still =
    let reach = acts_reach settles.acts s a b good none peers in
    let there : seen s block
    ≡ seen s (lines_of a b (acts_notes (At (link_at s a b)) settles.acts)) =
    ap (seen s) settles.lines in
    subst (λ (x : Seen). IsSettled (link_at x a b)) (sym there)
    (settled_by s a b _ (goes (At (link_at s a b)) settles.acts) reach
    (ap (λ (x : Seen). x.undetected) (sym there) ∙ still)
    (settled_only _ (settling_rests (link_at s a b) settles.acts
    (good.links none a b peers.there).sound settles.settles)))

pub settled : (net : Network) (before block : List TraceLine) (a b : PortRef) → IsSetUp net
    → Made (begins net) before → peer_of (seen (begins net) before) a ≡ Some b
    → (seen (begins net) before).undetected ≡ None → IsSettle (seen (begins net) before) a b block
    → (seen (begins net) (before ++ block)).undetected ≡ None
    → IsSettled (link_at (seen (begins net) (before ++ block)) a b)
settled net before block a b is all peer none settles still =
    let s = seen (begins net) before in
    let good = (made_keeps (good_start net is) all).good in
    let there : seen (begins net) (before ++ block) ≡ seen s block =
    seen-append (begins net) before block in
    subst (λ (x : Seen). IsSettled (link_at x a b)) (sym there)
    (settles_rest s a b block good none (good_peers a b good peer) settles
    (ap (λ (x : Seen). x.undetected) (sym there) ∙ still))

pub wires_fold : (net : Network) (lines : List TraceLine) → IsSetUp net → Made (begins net) lines
    → WireFold net.links (λ p. []) lines
wires_fold net lines is all = made_fold net.links refl (good_start net is) all

pub acted_exactly : (net : Network) (lines : List TraceLine) (p q : PortRef) (chars : List Char)
    → (undetected (taken_from (seen (begins net) lines) p q chars) ≡ None) ↔ ActsOnSent
    (seen (begins net) lines) p q chars
acted_exactly net lines p q chars =
    sent_exactly (seen (begins net) lines) p q chars
    (lines_keep (begins net) lines (begins_kept net) p)

-- the steps of a front are legal
pub front_legal : (net : Network) (front rest : List TraceLine) → IsSetUp net
    → Made (begins net) (front ++ rest)
    → LegalFrom net (steps_of front) (seen (begins net) front).network
front_legal net front rest is all =
    let whole = legal net (front ++ rest) is all in
    let parts =
    legal_parts net (steps_of front) (steps_of rest) _
    (subst (λ (x : List Step). LegalFrom net x (seen (begins net) (front ++ rest)).network)
    (steps_of-append front rest) whole) in
    subst (LegalFrom net (steps_of front)) (sym (network_is (begins net) front)) parts.0

begins_read : (net : Network) (q : PortRef) → IsRead [] (begins net) q
begins_read net q =
    record {
      within = none_within (says []);
      place = λ none. sym (place_after-none place_start);
      expected = λ none. refl;
    }

pub holds_came : (net : Network) (lines : List TraceLine) (q : PortRef) → IsSetUp net
    → Made (begins net) lines → HoldsCame q lines
holds_came net lines q is all =
    (carry_made (read_carried q) [] (good_start net is) all (begins_read net q)).within

pub ends_as : (script : List Numbered) (lines : List TraceLine) → Runs script lines
    → EndsAs (start script) lines
ends_as script lines runs = runs_end script (start script) lines refl runs

pub frees_said : (net : Network) (lines : List TraceLine) (p : PortRef) → IsSetUp net
    → Made (begins net) lines → FreesSaid p nothing_got 0 lines
frees_said net lines p is all =
    (carry_made (freed_carried p) [] (good_start net is) all
    (start_freed (begins net) p refl refl)).said

pub frees_allowed : (net : Network) (lines : List TraceLine) (p : PortRef) → IsSetUp net
    → Made (begins net) lines → FreesAllowed p [] 0 lines
frees_allowed net lines p is all =
    (carry_made (counted_carried p) [] (good_start net is) all (record {
      read = begins_read net p;
      freed = start_freed (begins net) p refl refl;
      raised = start_raised p;
    })).raised.all

-- of every trace of a script
pub runs_lawful : (script : List Numbered) (lines : List TraceLine) → MaySetUpAll bare script
    → Runs script lines → Lawful (set_up_all bare script) (steps_of lines)
    (seen (start script) lines).network
runs_lawful script lines may runs =
    lawful (set_up_all bare script) lines (set_up_bare script may) (made script lines may runs)
