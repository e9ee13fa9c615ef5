-- From each state that a trace may go on from there are lines of an ask.
use Rattle.fabric_ask.proofs.Prelude.{◌≡◌, ℕ, zero, suc, Bool, true, false, List, [], ◌∷◌, ◌++◌, Option, Some, None, MatchBool, refl, sym, ap, ◌∙◌, subst, if◌then◌else◌, prio_of, LinkForm, Passes, Passes-from_form, Request, request_body, collected, Edit, PortRef, port_of, room_out, IsEndpoint, link_in, Take, AtNode, ArePeers, link_peers, few_prio, peers_round, take_lines, Asks, pumps, seen, UndetectedAt, Seen, Full, TraceLine, Stepped, Lacked, steps_of, Done, PartSteps, PartLacks, IsReady, Follows, NamesNothing, ServeNodes, face_in, collect_lines, IsCollect, Exists, good_of, ready_on, settle_exists, serve_all_exist, joined_exist, IsGood, made_keeps, legal_links, one_part, made-append, AreFound, all_found, CarryAll, CollectNodes, Handles, AskRound, holds_some, AskRounds, most_rounds, IsAsk, stirred, IsCarry}
use Rattle.fabric_ask.proofs.Carrying.{turn_goes, round_goes, stirred_goes, has_carried}
use Rattle.fabric_ask.proofs.Collecting.{collect_lines_made}
use Rattle.fabric_ask.proofs.Gathering.{collect_exists, stays_endpoint, all_others_exist}

-- ---- links

-- lines of which this is said of some edits that are left
pub record ExistsLeft (s : Seen) (Is : List Edit → List TraceLine → Type 0) : Type 0 where
  pub left : List Edit
  pub exists : Exists s (Is left)

pub carry_exists : (noise : List Edit) (s : Seen) (a b : PortRef) → IsGood s → s.undetected ≡ None
    → ArePeers s.network.links a b → ExistsLeft s (λ left. IsCarry noise left s a b)
carry_exists noise s a b good none peers =
    let one = pumps s a 1 b in
    let goes1 = turn_goes s a b good none peers in
    let t1 = seen s one in
    let two = pumps t1 b 1 a in
    let goes2 = round_goes t1 a b two (turn_goes t1 b a goes1.good goes1.still
    (peers_round goes1.peers)) in
    let t2 = seen t1 two in
    let first = stirred noise a (t2.wires a).chars in
    let goes3 = stirred_goes t2 a b noise (t2.wires a).chars goes2.good goes2.still goes2.peers in
    let t3 = seen t2 first.0 in
    let second = stirred first.1 b (t3.wires b).chars in
    let goes4 = round_goes t3 a b second.0
    (stirred_goes t3 b a first.1 (t3.wires b).chars goes3.good
    goes3.still (peers_round goes3.peers)) in
    let t4 = seen t3 second.0 in
    let settle = settle_exists t4 a b goes4.good goes4.still goes4.peers in
    let is : IsCarry noise second.1 s a b (one ++ two ++ first.0 ++ second.0 ++ settle.lines) =
    record {
      one = one;
      two = two;
      first = first;
      second = second;
      block = settle.lines;
      one_is = refl;
      two_is = refl;
      first_is = refl;
      second_is = refl;
      settles = settle.is;
      whole = refl;
      left_is = refl;
    } in
    record {
      left = second.1;
      exists = record {
        lines = one ++ two ++ first.0 ++ second.0 ++ settle.lines;
        is = is;
        made = (has_carried noise second.1 s a b
            (one ++ two ++ first.0 ++ second.0 ++ settle.lines) good none peers is).local.made;
      };
    }

pub carry_all_exist : (links all : List (PortRef × PortRef)) (noise : List Edit) (s : Seen)
    → IsGood s → s.undetected ≡ None → s.network.links ≡ all → AreFound all links
    → ExistsLeft s (λ left. CarryAll links noise left s)
carry_all_exist [] all noise s good none same found = record {
  left = noise;
  exists = record { lines = []; is = (refl, refl); made = Done refl };
}
carry_all_exist (link ∷ links) all noise s good none same found =
    let peers = link_peers s.network.links link.0 link good.proper
    (ap (λ l. link_in l link.0) same ∙ found.0) in
    let own = carry_exists noise s link.0 link.1 good none peers in
    by_still (seen s own.exists.lines).undetected own refl
    (λ t g n same2. carry_all_exist links all own.left t g n same2 found.1)
  where
    by_still : (o : Option UndetectedAt)
        (own : ExistsLeft s (λ left. IsCarry noise left s link.0 link.1))
        → (seen s own.exists.lines).undetected ≡ o
        → ((t : Seen) → IsGood t → t.undetected ≡ None → t.network.links ≡ all
        → ExistsLeft t (λ left. CarryAll links own.left left t))
        → ExistsLeft s (λ left. CarryAll (link ∷ links) noise left s)
    by_still (Some f) own is again = record {
      left = own.left;
      exists = record {
        lines = own.exists.lines ++ [];
        is = (
          own.left,
          (
            own.exists.lines,
            [],
            refl,
            own.exists.is,
            subst (λ x. Follows x (CarryAll links own.left own.left (seen s own.exists.lines))
                NamesNothing []) (sym is) refl,
          ),
        );
        made = made-append own.exists.made (Done refl);
      };
    }
    by_still None own is again =
        let kept = made_keeps good own.exists.made in
        let rest = again (seen s own.exists.lines) kept.good is
        (legal_links s.network (steps_of own.exists.lines) (seen s own.exists.lines).network
        kept.legal ∙ same) in
        record {
          left = rest.left;
          exists = record {
            lines = own.exists.lines ++ rest.exists.lines;
            is = (
              own.left,
              (
                own.exists.lines,
                rest.exists.lines,
                refl,
                own.exists.is,
                subst (λ x. Follows x (CarryAll links own.left rest.left (seen s own.exists.lines))
                    NamesNothing rest.exists.lines) (sym is) rest.exists.is,
              ),
            );
            made = made-append own.exists.made rest.exists.made;
          };
        }

-- ---- rounds

pub handles_exist : (host : ℕ) (s : Seen) → IsReady s → s.undetected ≡ None
    → Exists s (Handles host s)
handles_exist host s ready none =
    joined_exist s (λ first. ServeNodes 0 s.network.registers s first)
    (λ t rest. CollectNodes host 0 t.network.registers t rest) (serve_all_exist s ready)
    (λ first made still. all_others_exist host (seen s first) (ready_on ready made) still)

pub round_exists : (host : ℕ) (noise : List Edit) (s : Seen) → IsReady s → s.undetected ≡ None
    → ExistsLeft s (λ left. AskRound host noise left s)
round_exists host noise s ready none =
    let good = good_of ready in
    let carry = carry_all_exist s.network.links s.network.links noise s good none refl
    (all_found s.network.links good.proper) in
    record {
      left = carry.left;
      exists = joined_exist s (CarryAll s.network.links noise carry.left s) (Handles host)
          carry.exists (λ first made still. handles_exist host (seen s first) (ready_on ready made)
          still);
    }

by_held : (host n : ℕ) (left : List Edit) (t : Seen) (held : Bool) → IsReady t
    → t.undetected ≡ None → IsEndpoint t.network host
    → ((t : Seen) → IsReady t → t.undetected ≡ None → IsEndpoint t.network host
    → Exists t (AskRounds host n left t))
    → Exists t (λ rest. MatchBool held (IsCollect t.network host rest)
    (AskRounds host n left t rest))
by_held host n left t true ready none endpoint again =
    let own = collect_exists t host ready endpoint in
    record {
      lines = collect_lines host (collected own.device (face_in t.network (port_of host)));
      is = own.is;
      made = collect_lines_made t host _ (good_of ready) none own.is;
    }
by_held host n left t false ready none endpoint again = again t ready none endpoint

pub rounds_exist : (host n : ℕ) (noise : List Edit) (s : Seen) → IsReady s → s.undetected ≡ None
    → IsEndpoint s.network host → Exists s (AskRounds host n noise s)
rounds_exist host zero noise s ready none endpoint =
    record { lines = []; is = refl; made = Done refl }
rounds_exist host (suc n) noise s ready none endpoint =
    let round = round_exists host noise s ready none in
    let all = joined_exist s (AskRound host noise round.left s)
    (λ t rest. MatchBool (holds_some host t) (IsCollect t.network host rest)
    (AskRounds host n round.left t rest)) round.exists
    (λ first made still. by_held host n round.left (seen s first) (holds_some host (seen s first))
    (ready_on ready made) still (stays_endpoint s host first endpoint)
    (λ t r none2 endpoint2. rounds_exist host n round.left t r none2 endpoint2)) in
    record { lines = all.lines; is = (round.left, all.is); made = all.made }

-- What follows a round.
pub more_exists : (host n : ℕ) (left : List Edit) (t : Seen) → IsReady t → t.undetected ≡ None
    → IsEndpoint t.network host
    → Exists t (λ rest. MatchBool (holds_some host t) (IsCollect t.network host rest)
    (AskRounds host n left t rest))
more_exists host n left t ready none endpoint =
    by_held host n left t (holds_some host t) ready none endpoint
    (λ u r none2 endpoint2. rounds_exist host n left u r none2 endpoint2)

-- ---- an ask

takes_exist : (s : Seen) (host : ℕ) (request : Request) (packet : List ℕ)
    → IsEndpoint s.network host → LinkForm (request_body request) packet
    → Exists s (Asks s host request)
takes_exist s host request packet endpoint form =
    by_room (room_out s.network (port_of host) (prio_of packet)) refl
  where
    passes : Passes packet
    passes = Passes-from_form (request_body request) packet form

    is : (lines : List TraceLine) → lines ≡ take_lines s host packet → Asks s host request lines
    is lines same = record { packet = packet; endpoint = endpoint; form = form; lines = same }

    by_room : (room : Bool) → room_out s.network (port_of host) (prio_of packet) ≡ room
        → Exists s (Asks s host request)
    by_room true room = record {
      lines = Stepped (AtNode (Take host packet)) ∷ [];
      is = is (Stepped (AtNode (Take host packet)) ∷ [])
          (ap (λ r. if r then Stepped (AtNode (Take host packet)) ∷ [] else Lacked Full ∷ [])
          (sym room));
      made = one_part
          (PartSteps (Take host packet) (endpoint, passes, room) (few_prio packet passes)
          refl);
    }
    by_room false room = record {
      lines = Lacked Full ∷ [];
      is = is (Lacked Full ∷ [])
          (ap (λ r. if r then Stepped (AtNode (Take host packet)) ∷ [] else Lacked Full ∷ [])
          (sym room));
      made = one_part (PartLacks Full refl);
    }

pub ask_exists : (host : ℕ) (request : Request) (noise : List Edit) (s : Seen) (packet : List ℕ)
    → IsReady s → s.undetected ≡ None → IsEndpoint s.network host
    → LinkForm (request_body request) packet → Exists s (IsAsk host request noise s)
ask_exists host request noise s packet ready none endpoint form =
    joined_exist s (Asks s host request) (AskRounds host most_rounds noise)
    (takes_exist s host request packet endpoint form)
    (λ first made still. rounds_exist host most_rounds noise (seen s first) (ready_on ready made)
    still (stays_endpoint s host first endpoint))
