-- What an endpoint collects, one packet after another.
use Rattle.fabric_ask.proofs.Prelude.{◌≡◌, ℕ, zero, suc, ◌+◌, ◌<◌, ◌==◌, ◌||◌, Bool, true, false, List, [], ◌∷◌, Option, Some, None, MatchBool, option_map, slice_get, arith, refl, sym, ap, ◌∙◌, subst, prio_of, Registers, is_switch, Collected, collected, PortRef, Network, port_of, held, IsEndpoint, switch_at, Leave, Answer, Step, AtNode, ByDevice, IsFirst, behind_first, without_first, behind_length, own_shorter, few_prio, seen_line, seen, Seen, Full, TraceLine, Stepped, Lacked, Done, IsReady, Joined, face_in, collect_lines, IsCollect, seen_board, Exists, good_of, ready_on, AreKinds, all_kinds, joined_exist, IsGood, passes_first, made-append, CollectsAll, CollectNodes, CollectGoes, CollectRests, CollectStops}
use Rattle.switch_core.specs.declared.endpoint.Collected.TheVariants as Collects
use Rattle.fabric_trace.proofs.Traces.Tracing.{collect_form}
use Rattle.fabric_ask.proofs.Collecting.{Makes, Leaving, Answering, collect_makes, collect_lines_made}

-- ---- lines, and more behind them

-- ---- a packet that is taken away

first_fewer : (net : Network) (p : PortRef) (packet : List ℕ) → IsFirst net p packet
    → prio_of packet < 4 → held (without_first net p (prio_of packet)) p + 1 ≡ held net p
first_fewer net p packet first few =
    let r = prio_of packet in
    own_shorter net.received p r (behind_first (net.received p r)) few
    (behind_length (net.received p r) packet first)

-- ---- an endpoint

-- what an endpoint collects
pub record HasCollect (net : Network) (node : ℕ) : Type 0 where
  pub device : Registers
  pub is : IsCollect net node
      (collect_lines node (collected device (face_in net (port_of node))))

pub collect_exists : (s : Seen) (node : ℕ) → IsReady s → IsEndpoint s.network node
    → HasCollect s.network node
collect_exists s node ready endpoint = by_device (slice_get s.network.registers node) refl endpoint
  where
    by_device : (o : Option Registers) → slice_get s.network.registers node ≡ o
        → option_map is_switch o ≡ Some false → HasCollect s.network node
    by_device None stands kind = absurd cc
    by_device (Some device) stands kind = record {
      device = device;
      is = record {
        endpoint = endpoint;
        device = device;
        stands = stands;
        form = collect_form s node device (good_of ready) ready.formed stands;
        lines = refl;
      };
    }

-- what an endpoint of a state with fewer received packets collects
abbrev CollectsBelow : ℕ → ℕ → Type 0
CollectsBelow node n = (t : Seen) → IsReady t → t.undetected ≡ None → IsEndpoint t.network node
    → held t.network (port_of node) < n → Exists t (CollectsAll t node)

pub stays_endpoint : (s : Seen) (node : ℕ) (lines : List TraceLine) → IsEndpoint s.network node
    → IsEndpoint (seen s lines).network node
stays_endpoint s node lines is = (seen_board lines s).kinds node ∙ is

collects_on : (s : Seen) (node n : ℕ) (step : Step) → IsReady s → s.undetected ≡ None
    → IsEndpoint s.network node
    → held (seen_line s (Stepped step)).network (port_of node) + 1
    ≡ held s.network (port_of node) → held s.network (port_of node) < suc n
    → CollectsBelow node n → IsCollect s.network node (Stepped step ∷ [])
    → Exists s (CollectsAll s node)
collects_on s node n step ready none endpoint fewer below later move =
    let own = collect_lines_made s node (Stepped step ∷ []) (good_of ready) none move in
    let rest = later (seen_line s (Stepped step)) (ready_on ready own) none
    (stays_endpoint s node (Stepped step ∷ []) endpoint) (omega (arith, fewer, below)) in
    record {
      lines = Stepped step ∷ rest.lines;
      is = CollectGoes step rest.lines move refl rest.is;
      made = made-append own rest.made;
    }

-- what an endpoint collects leaves it one packet fewer
pub collected_fewer : (s : Seen) (node : ℕ) (step : Step) → IsGood s
    → IsCollect s.network node (Stepped step ∷ [])
    → held (seen_line s (Stepped step)).network (port_of node) + 1
    ≡ held s.network (port_of node)
collected_fewer s node step good is = by_makes (collect_makes s node step good is)
  where
    by_makes : Makes s.network node step
        → held (seen_line s (Stepped step)).network (port_of node) + 1
        ≡ held s.network (port_of node)
    by_makes (Leaving packet at needs) =
        subst (λ x. held (seen_line s (Stepped x)).network (port_of node) + 1
        ≡ held s.network (port_of node)) (sym at)
        (first_fewer s.network (port_of node) packet needs.1
        (few_prio packet (passes_first s good (port_of node) packet needs.1)))
    by_makes (Answering packet response at needs) =
        subst (λ x. held (seen_line s (Stepped x)).network (port_of node) + 1
        ≡ held s.network (port_of node)) (sym at)
        (first_fewer s.network (port_of node) packet needs.0
        (few_prio packet (passes_first s good (port_of node) packet needs.0)))

collects_below : (node n : ℕ) → CollectsBelow node n
collects_below node zero s ready none endpoint below = absurd (omega (arith, below))
collects_below node (suc n) s ready none endpoint below =
    by_made (collected found.device (face_in s.network (port_of node))) found.is
    (collects_below node n)
  where
    found : HasCollect s.network node
    found = collect_exists s node ready endpoint

    by_made : (made : Collected) → IsCollect s.network node (collect_lines node made)
        → CollectsBelow node n → Exists s (CollectsAll s node)
    by_made (Collects.Left packet) is later =
        collects_on s node n (AtNode (Leave node packet)) ready none endpoint
        (collected_fewer s node (AtNode (Leave node packet)) (good_of ready) is) below later is
    by_made (Collects.Answered request response) is later =
        collects_on s node n (ByDevice (Answer (port_of node) request response)) ready none endpoint
        (collected_fewer s node (ByDevice (Answer (port_of node) request response)) (good_of ready)
        is) below later is
    by_made Collects.Empty is later =
        record { lines = []; is = CollectRests is refl; made = Done refl }
    by_made Collects.Full is later = record {
      lines = Lacked Full ∷ [];
      is = CollectStops is refl;
      made = collect_lines_made s node (Lacked Full ∷ []) (good_of ready) none is;
    }

-- An endpoint collects all it can.
pub collects_exist : (s : Seen) (node : ℕ) → IsReady s → s.undetected ≡ None
    → IsEndpoint s.network node → Exists s (CollectsAll s node)
collects_exist s node ready none endpoint =
    collects_below node (suc (held s.network (port_of node))) s ready none endpoint
    (omega arith)

-- Of these devices, one endpoint after another but the host.
pub others_exist : (host : ℕ) (devices : List Registers) (node : ℕ) (kinds : ℕ → Option Bool)
    (s : Seen) → IsReady s → s.undetected ≡ None → ((n : ℕ) → switch_at s.network n ≡ kinds n)
    → AreKinds kinds node devices → Exists s (CollectNodes host node devices s)
others_exist host [] node kinds s ready none same are =
    record { lines = []; is = refl; made = Done refl }
others_exist host (device ∷ devices) node kinds s ready none same are =
    by_test (is_switch device) (node == host) refl
    (λ t r n still. others_exist host devices (suc node) kinds t r n still are.1)
  where
    by_test : (kind own : Bool) → is_switch device ≡ kind
        → ((t : Seen) → IsReady t → t.undetected ≡ None
        → ((n : ℕ) → switch_at t.network n ≡ kinds n)
        → Exists t (CollectNodes host (suc node) devices t))
        → Exists s (λ lines. MatchBool (kind || own) (CollectNodes host (suc node) devices s lines)
        (Joined (CollectsAll s node) (CollectNodes host (suc node) devices) s lines))
    by_test true own is again = again s ready none same
    by_test false true is again = again s ready none same
    by_test false false is again =
        joined_exist s (CollectsAll s node) (CollectNodes host (suc node) devices)
        (collects_exist s node ready none (same node ∙ are.0 ∙ ap Some is))
        (λ first made still. again (seen s first) (ready_on ready made) still
        (λ n. (seen_board first s).kinds n ∙ same n))

-- All endpoints but the host.
pub all_others_exist : (host : ℕ) (s : Seen) → IsReady s → s.undetected ≡ None
    → Exists s (CollectNodes host 0 s.network.registers s)
all_others_exist host s ready none =
    others_exist host s.network.registers 0 (switch_at s.network) s ready none (λ n. refl)
    (all_kinds s.network)
