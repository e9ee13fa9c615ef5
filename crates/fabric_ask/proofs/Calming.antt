-- In rounds without edits no event is undetected.
use Rattle.fabric_ask.proofs.Prelude.{◌≡◌, ℕ, zero, suc, ◌||◌, ◌==◌, Bool, true, false, List, [], ◌∷◌, ◌++◌, Some, None, refl, sym, ap, ◌∙◌, subst, place_after, at_rest, Edit, pumped, At, A, PortRef, same_port, port_of, peer_in, link_in, AreProper, ArePeers, port_is, link_peers, peer_back, same_port-refl, some_is, pumps, IsSettle, seen_line, seen, Wire, Seen, link_at, kept_of, Half, Full, TraceLine, Stepped, Lacked, steps_of, Made, Done, face_in, collect_lines, IsCollect, Collected, collected, Registers, is_switch, Follows, NamesNothing, Joined, ServesAll, ServeNodes, seen-append, IsGood, made_keeps, legal_links, AreOthers, Reaches, pump_reaches, made-append, made_by, AreFound, all_found, by_test, serves_made, acts_reach, move_made, peers_round, stirred, IsCarry, CarryAll, CollectsAll, CollectNodes, Handles, AskRound, holds_some, AskRounds, CollectRests, CollectStops, CollectGoes, GoesOn, calm_round, turns_calm, acts_calm}
use Rattle.link_model.specs.Said.{said}
use Rattle.link_wires.specs.Kept.{IsSubsequence}
use Rattle.switch_core.specs.declared.endpoint.Collected.TheVariants as Collects
use Rattle.fabric_ask.proofs.Collecting.{collect_lines_made}
use Rattle.link_machine.specs.Calm.{IsCalm}
use Rattle.fabric_ask.proofs.Carrying.{has_carried}
use Rattle.fabric_ask.proofs.Quieting.{IsSamePort, OnlySteps, steps_same, serves_steps, serve_steps, collects_steps, handles_steps}

-- each link of the fabric is calm
abbrev pub AllCalm : Seen → Type 0
AllCalm s = (a b : PortRef) → peer_in s.network.links a ≡ Some b → IsCalm (link_at s a b)

-- lines behind which nothing was found, and the link is calm
pub record StaysCalm (s : Seen) (a b : PortRef) (lines : List TraceLine) : Type 0 where
  pub still : (seen s lines).undetected ≡ None
  pub calm : IsCalm (link_at (seen s lines) a b)

turn_calm : (s : Seen) (a b : PortRef) → IsGood s → s.undetected ≡ None
    → ArePeers s.network.links a b → IsCalm (link_at s a b) → StaysCalm s a b (pumps s a 1 b)
turn_calm s a b good none peers calm =
    let r = pump_reaches s a b 1 good none peers in
    let there = r.there (pumped A 1 (link_at s a b)) refl in
    record {
      still = there.0;
      calm = subst IsCalm (sym there.1)
          (turns_calm 1 (link_at s a b) (good.links none a b peers.there).sound.port_a calm);
    }

settle_calm : (s : Seen) (a b : PortRef) (block : List TraceLine) → IsGood s → s.undetected ≡ None
    → ArePeers s.network.links a b → IsCalm (link_at s a b) → IsSettle s a b block
    → StaysCalm s a b block
settle_calm s a b block good none peers calm settles =
    let r = acts_reach settles.acts s a b good none peers in
    let all = acts_calm settles.acts (link_at s a b) (good.links none a b peers.there).sound calm in
    let there = r.there all.m all.there in
    record {
      still = ap (λ (l : List TraceLine). (seen s l).undetected) settles.lines ∙ there.0;
      calm = subst IsCalm (sym (ap (λ (l : List TraceLine). link_at (seen s l) a b) settles.lines
          ∙ there.1)) all.calm;
    }

-- one link, without an edit
module _ (left : List Edit) (s : Seen) (a b : PortRef) (lines : List TraceLine) (good : IsGood s)
    (none : s.undetected ≡ None) (peers : ArePeers s.network.links a b)
    (calm : IsCalm (link_at s a b)) (is : IsCarry [] left s a b lines) where
  abbrev u1 : Seen
  u1 = seen s is.one

  abbrev u2 : Seen
  u2 = seen u1 is.two

  one : StaysCalm s a b is.one
  one = subst (StaysCalm s a b) (sym is.one_is) (turn_calm s a b good none peers calm)

  r1 : Reaches s a b is.one (At (pumped A 1 (link_at s a b)))
  r1 = subst (λ l. Reaches s a b l (At (pumped A 1 (link_at s a b)))) (sym is.one_is)
      (pump_reaches s a b 1 good none peers)

  good1 : IsGood u1
  good1 = (made_keeps good r1.made).good

  peers1 : ArePeers u1.network.links a b
  peers1 = subst (λ l. ArePeers l a b) (sym r1.others.links) peers

  r2 : Reaches u1 b a is.two (At (pumped A 1 (link_at u1 b a)))
  r2 = subst (λ l. Reaches u1 b a l (At (pumped A 1 (link_at u1 b a)))) (sym is.two_is)
      (pump_reaches u1 b a 1 good1 one.still (peers_round peers1))

  two : StaysCalm u1 b a is.two
  two = subst (StaysCalm u1 b a) (sym is.two_is)
      (turn_calm u1 b a good1 one.still (peers_round peers1) (calm_round one.calm))

  good2 : IsGood u2
  good2 = (made_keeps good1 r2.made).good

  peers2 : ArePeers u2.network.links a b
  peers2 = subst (λ l. ArePeers l a b) (sym r2.others.links) peers1

  first_none : is.first ≡ ([], [])
  first_none = is.first_is

  second_none : is.second ≡ ([], [])
  second_none = is.second_is ∙ ap (λ (f : List TraceLine × List Edit). stirred f.1 b
      ((seen u2 is.first.0).wires b).chars) first_none

  before_is : seen (seen u2 is.first.0) is.second.0 ≡ u2
  before_is = ap (λ (f : List TraceLine × List Edit). seen (seen u2 is.first.0) f.0) second_none
      ∙ ap (λ (f : List TraceLine × List Edit). seen u2 f.0) first_none

  last : StaysCalm u2 a b is.block
  last = settle_calm u2 a b is.block good2 two.still peers2 (calm_round two.calm)
      (subst (λ x. IsSettle x a b is.block) before_is is.settles)

  lines_end : seen s lines ≡ seen u2 is.block
  lines_end =
      ap (seen s) is.whole ∙ seen-append s (is.one ++ is.two ++ is.first.0 ++ is.second.0) is.block
      ∙ ap (λ x. seen x is.block) (seen-append s (is.one ++ is.two ++ is.first.0) is.second.0
      ∙ ap (λ x. seen x is.second.0) (seen-append s (is.one ++ is.two) is.first.0
      ∙ ap (λ x. seen x is.first.0) (seen-append s is.one is.two)) ∙ before_is)

  pub carry_calm : StaysCalm s a b lines
  carry_calm = record {
    still = ap (λ (x : Seen). x.undetected) lines_end ∙ last.still;
    calm = subst (λ x. IsCalm (link_at x a b)) (sym lines_end) last.calm;
  }

  pub none_left : left ≡ []
  none_left = is.left_is ∙ ap (λ (f : List TraceLine × List Edit). f.1) second_none

-- ---- all links

calm_same : (s t : Seen) (a b : PortRef) → IsSamePort s t a → IsSamePort s t b
    → IsCalm (link_at s a b) → IsCalm (link_at t a b)
calm_same s t a b first second calm = record {
  to_b = record {
    rests = (λ i. at_rest (place_after (second.half i).place (first.wire i).chars))
        ∙ calm.to_b.rests;
    found = subst (λ (x : Half × Wire). IsSubsequence (said x.0.place x.1.chars) (kept_of x.1))
        (λ i. (sym second.half i, sym first.wire i)) calm.to_b.found;
  };
  to_a = record {
    rests = (λ i. at_rest (place_after (first.half i).place (second.wire i).chars))
        ∙ calm.to_a.rests;
    found = subst (λ (x : Half × Wire). IsSubsequence (said x.0.place x.1.chars) (kept_of x.1))
        (λ i. (sym first.half i, sym second.wire i)) calm.to_a.found;
  };
}

-- after one link the others are calm as they were
pub after_link : (s t : Seen) (a b : PortRef) → AreProper s.network.links
    → ArePeers s.network.links a b
    → AreOthers s t a b → IsCalm (link_at t a b) → AllCalm s → AllCalm t
after_link s t a b proper peers others own all c d peer =
    by_ends (same_port c a) (same_port c b) refl refl
  where
    there : peer_in s.network.links c ≡ Some d
    there = ap (λ l. peer_in l c) (sym others.links) ∙ peer

    back : peer_in s.network.links d ≡ Some c
    back = peer_back s.network.links d c proper there

    apart : (e f : PortRef) → peer_in s.network.links e ≡ Some f → same_port c f ≡ false
        → same_port d e ≡ false
    apart e f is other = elim (same_port d e) as (λ x. same_port d e ≡ x → x ≡ false) [
      | true ↦ λ (same : same_port d e ≡ true).
          let one : c ≡ f = some_is (peer_in s.network.links d) c f back
          (ap (peer_in s.network.links) (port_is d e same) ∙ is) in
          absurd (cc (same_port-refl f, subst (λ x. same_port x f ≡ false) one other))
      | false ↦ λ (away : same_port d e ≡ false). refl
    ] refl

    same : (e : PortRef) → same_port e a ≡ false → same_port e b ≡ false → IsSamePort s t e
    same e x y = let u = others.untouched e x y in record { wire = u.wire; half = u.half }

    by_ends : (x y : Bool) → same_port c a ≡ x → same_port c b ≡ y → IsCalm (link_at t c d)
    by_ends true y first second =
        let one = port_is c a first in
        let two : d ≡ b = some_is (peer_in s.network.links c) d b there
        (ap (peer_in s.network.links) one ∙ peers.there) in
        subst (λ x. IsCalm (link_at t x d)) (sym one)
        (subst (λ x. IsCalm (link_at t a x)) (sym two) own)
    by_ends false true first second =
        let one = port_is c b second in
        let two : d ≡ a = some_is (peer_in s.network.links c) d a there
        (ap (peer_in s.network.links) one ∙ peers.back) in
        subst (λ x. IsCalm (link_at t x d)) (sym one)
        (subst (λ x. IsCalm (link_at t b x)) (sym two) (calm_round own))
    by_ends false false first second =
        calm_same s t c d (same c first second)
        (same d (apart a b peers.there second) (apart b a peers.back first)) (all c d there)

-- nothing was found in these lines, and all links are calm; no edit is left
pub record AllStay (left : List Edit) (s : Seen) (lines : List TraceLine) : Type 0 where
  pub still : (seen s lines).undetected ≡ None
  pub calm : AllCalm (seen s lines)
  pub none_left : left ≡ []
  pub made : Made s lines

pub links_calm : (all links : List (PortRef × PortRef)) (left : List Edit) (s : Seen)
    (lines : List TraceLine) → IsGood s → s.undetected ≡ None → s.network.links ≡ all
    → AreFound all links → AllCalm s → CarryAll links [] left s lines → AllStay left s lines
links_calm all [] left s lines good none same found calm carry =
    subst (λ l. AllStay left s l) (sym carry.0)
    (record { still = none; calm = calm; none_left = carry.1; made = Done refl })
links_calm all (link ∷ links) left s lines good none same found calm carry =
    let mid = carry.0 in
    let joined = carry.1 in
    let first = joined.0 in
    let rest = joined.1 in
    let t = seen s first in
    let peers = link_peers s.network.links link.0 link good.proper (ap (λ l. link_in l link.0) same
    ∙ found.0) in
    let own = carry_calm mid s link.0 link.1 first good none peers (calm link.0 link.1 peers.there)
    joined.3 in
    let empty = none_left mid s link.0 link.1 first good none peers (calm link.0 link.1 peers.there)
    joined.3 in
    let carried = has_carried [] mid s link.0 link.1 first good none peers joined.3 in
    let kept = made_keeps good carried.local.made in
    let more : CarryAll links mid left t rest =
    subst (λ f. Follows f (CarryAll links mid left t) NamesNothing rest) own.still joined.4 in
    let behind = links_calm all links left t rest kept.good own.still (carried.local.others.links
    ∙ same) found.1
    (after_link s t link.0 link.1 good.proper peers carried.local.others own.calm calm)
    (subst (λ m. CarryAll links m left t rest) empty more) in
    let after : seen s lines ≡ seen t rest = ap (seen s) joined.2 ∙ seen-append s first rest in
    record {
      still = ap (λ (x : Seen). x.undetected) after ∙ behind.still;
      calm = subst AllCalm (sym after) behind.calm;
      none_left = behind.none_left;
      made = made_by joined.2 (made-append carried.local.made behind.made);
    }

-- ---- rounds

pub steps_still : (s : Seen) (lines : List TraceLine) → OnlySteps lines
    → (seen s lines).undetected ≡ s.undetected
unfolding OnlySteps
steps_still s [] only = refl
steps_still s (Stepped step ∷ lines) only = steps_still (seen_line s (Stepped step)) lines only
steps_still s (Lacked lack ∷ lines) only = steps_still s lines only
steps_still s (_ ∷ lines) only = absurd only

pub collects_made : {s : Seen} {node : ℕ} {lines : List TraceLine} → IsGood s → s.undetected ≡ None
    → CollectsAll s node lines → Made s lines
collects_made {s} {node} {lines} good none (CollectRests move is) = Done is
collects_made {s} {node} {lines} good none (CollectStops move is) =
    made_by is (collect_lines_made s node (Lacked Full ∷ []) good none move)
collects_made {s} {node} {lines} good none (CollectGoes step rest move is more) =
    let one = collect_lines_made s node (Stepped step ∷ []) good none move in
    made_by is (made-append one (collects_made (made_keeps good one).good none more))

joined_made : (First : List TraceLine → Type 0) (More : Seen → List TraceLine → Type 0) (s : Seen)
    (lines : List TraceLine) → IsGood s → s.undetected ≡ None
    → ((first : List TraceLine) → First first → Made s first × OnlySteps first)
    → ((t : Seen) (rest : List TraceLine) → IsGood t → t.undetected ≡ None → More t rest
    → Made t rest) → Joined First More s lines → Made s lines
joined_made First More s lines good none one more joined =
    let own = one joined.0 joined.3 in
    let t = seen s joined.0 in
    let still : t.undetected ≡ None = steps_still s joined.0 own.1 ∙ none in
    made_by joined.2 (made-append own.0
    (more t joined.1 (made_keeps good own.0).good still
    (subst (λ f. Follows f (More t) NamesNothing joined.1) still joined.4)))

pub serve_made : (devices : List Registers) (k : ℕ) (s : Seen) (lines : List TraceLine) → IsGood s
    → s.undetected ≡ None → ServeNodes k devices s lines → Made s lines
serve_made [] k s lines good none is = Done is
serve_made (device ∷ devices) k s lines good none is =
    by_test (is_switch device)
    (λ joined. joined_made (ServesAll s k) (ServeNodes (suc k) devices) s lines good none
    (λ first own. (serves_made move_made good own, serves_steps own))
    (λ t rest g still more. serve_made devices (suc k) t rest g still more) joined)
    (λ more. serve_made devices (suc k) s lines good none more) is

pub collect_made : (host : ℕ) (devices : List Registers) (k : ℕ) (s : Seen) (lines : List TraceLine)
    → IsGood s → s.undetected ≡ None → CollectNodes host k devices s lines → Made s lines
collect_made host [] k s lines good none is = Done is
collect_made host (device ∷ devices) k s lines good none is =
    by_test (is_switch device || (k == host))
    (λ more. collect_made host devices (suc k) s lines good none more)
    (λ joined. joined_made (CollectsAll s k) (CollectNodes host (suc k) devices) s lines good none
    (λ first own. (collects_made good none own, collects_steps own))
    (λ t rest g still more. collect_made host devices (suc k) t rest g still more) joined) is

pub handles_made : (host : ℕ) (s : Seen) (lines : List TraceLine) → IsGood s → s.undetected ≡ None
    → Handles host s lines → Made s lines
handles_made host s lines good none handles =
    joined_made (λ first. ServeNodes 0 s.network.registers s first)
    (λ t rest. CollectNodes host 0 t.network.registers t rest) s lines good none
    (λ first own. (
      serve_made s.network.registers 0 s first good none own,
      serve_steps
          s.network.registers 0 s first own,
    ))
    (λ t rest g still more. collect_made host t.network.registers 0 t rest g still more) handles

pub round_calm : (host : ℕ) (left : List Edit) (s : Seen) (lines : List TraceLine) → IsGood s
    → s.undetected ≡ None → AllCalm s → AskRound host [] left s lines → AllStay left s lines
round_calm host left s lines good none calm joined =
    let first = joined.0 in
    let rest = joined.1 in
    let t = seen s first in
    let carried = links_calm s.network.links s.network.links left s first good none refl
    (all_found s.network.links good.proper) calm joined.3 in
    let more : Handles host t rest = subst (λ f. Follows f (Handles host t) NamesNothing rest)
    carried.still joined.4 in
    let kept = made_keeps good carried.made in
    let made = handles_made host t rest kept.good carried.still more in
    let steps = handles_steps host t rest more in
    let links = legal_links t.network (steps_of rest) (seen t rest).network
    (made_keeps kept.good made).legal in
    let after : seen s lines ≡ seen t rest = ap (seen s) joined.2 ∙ seen-append s first rest in
    record {
      still = ap (λ (x : Seen). x.undetected) after ∙ steps_still t rest steps ∙ carried.still;
      calm = subst AllCalm (sym after) (λ a b peer. calm_same t (seen t rest) a b
          (steps_same t rest a steps) (steps_same t rest b steps)
          (carried.calm a b (subst (λ l. peer_in l a ≡ Some b) links peer)));
      none_left = carried.none_left;
      made = made_by joined.2 (made-append carried.made made);
    }

collect_still : (t : Seen) (node : ℕ) (made : Collected)
    → (seen t (collect_lines node made)).undetected ≡ t.undetected
collect_still t node (Collects.Left packet) = refl
collect_still t node (Collects.Answered request response) = refl
collect_still t node Collects.Empty = refl
collect_still t node Collects.Full = refl

-- In an ask without edits nothing undetected is found.
pub rounds_still : (host n : ℕ) (s : Seen) (lines : List TraceLine) → IsGood s → s.undetected ≡ None
    → AllCalm s → AskRounds host n [] s lines → (seen s lines).undetected ≡ None
rounds_still host zero s lines good none calm asks =
    ap (λ (l : List TraceLine). (seen s l).undetected) asks ∙ none
rounds_still host (suc k) s lines good none calm asks =
    let left = asks.0 in
    let joined = asks.1 in
    let first = joined.0 in
    let rest = joined.1 in
    let t = seen s first in
    let round = round_calm host left s first good none calm joined.3 in
    let more : GoesOn host k left t rest =
    subst (λ f. Follows f (GoesOn host k left t) NamesNothing rest) round.still joined.4 in
    let behind : (seen t rest).undetected ≡ None =
    by_test (holds_some host t)
    (λ (is : IsCollect t.network host rest). ap (λ (l : List TraceLine). (seen t l).undetected)
    is.lines ∙ collect_still t host (collected is.device (face_in t.network (port_of host)))
    ∙ round.still)
    (λ (asks2 : AskRounds host k left t rest). rounds_still host k t rest
    (made_keeps good round.made).good round.still round.calm
    (subst (λ l. AskRounds host k l t rest) round.none_left asks2)) more in
    ap (λ (x : Seen). x.undetected) (ap (seen s) joined.2 ∙ seen-append s first rest) ∙ behind
