-- Rounds are made of parts, and in them each link is what is shown of a link that settles.
use Rattle.fabric_trace.proofs.Prelude.{◌≡◌, ℕ, zero, suc, Bool, true, false, List, [], ◌∷◌, Option, Some, None, MatchBool, refl, ap, ◌∙◌, AllByRecursion, Registers, is_switch, PortRef, link_in, ByDevice, AreProper, same_port-refl, unlinked_apart, ArePeers, link_peers, TraceLine, Stepped, steps_of, UndetectedAt, Seen, seen, IsMove, Follows, NamesNothing, Joined, AtLink, SettleAll, ServesAll, ServeRests, ServeGoes, ServeNodes, Round, Rounds, Made, Done}
use Rattle.fabric_trace.proofs.Parts.Keeping.{IsGood, made_keeps, legal_links}
use Rattle.fabric_trace.proofs.Parts.Making.{made-append, made_by}

-- ---- lines, and more behind them

follows_come : (t : Seen) (found : Option UndetectedAt) (More Known : List TraceLine → Type 0)
    (rest : List TraceLine) → t.undetected ≡ found
    → (t.undetected ≡ None → More rest → Made t rest × Known rest) → Follows found More NamesNothing
    rest → Made t rest × Follows found Known NamesNothing rest
follows_come t None More Known rest is more follows = more is follows
follows_come t (Some found) More Known rest is more follows = (Done follows, follows)

joined_come : (s : Seen) (First FirstKnown : List TraceLine → Type 0)
    (More MoreKnown : Seen → List TraceLine → Type 0) (lines : List TraceLine) → IsGood s
    → ((first : List TraceLine) → First first → Made s first × FirstKnown first)
    → ((t : Seen) (rest : List TraceLine) → IsGood t → t.undetected ≡ None → t.network.links
    ≡ s.network.links → More t rest → Made t rest × MoreKnown t rest)
    → Joined First More s lines → Made s lines × Joined FirstKnown MoreKnown s lines
joined_come s First FirstKnown More MoreKnown lines good one more joined =
    let first = joined.0 in
    let rest = joined.1 in
    let t = seen s first in
    let own = one first joined.3 in
    let kept = made_keeps good own.0 in
    let links = legal_links s.network (steps_of first) t.network kept.legal in
    let behind = follows_come t t.undetected (More t) (MoreKnown t) rest refl
    (λ still follows. more t rest kept.good still links follows) joined.4 in
    (made_by joined.2 (made-append own.0 behind.0), (first, rest, joined.2, own.1, behind.1))

-- ---- each link is found by its first port

found_later : (head link : PortRef × PortRef) (links : List (PortRef × PortRef))
    → AreProper (head ∷ links) → link_in links link.0 ≡ Some link → link_in (head ∷ links) link.0
    ≡ Some link
found_later head link links proper found =
    let peers = link_peers links link.0 link proper.3 found in
    rw (
      unlinked_apart links head.0 link.0 link.1 proper.1 peers.there,
      unlinked_apart links head.1
          link.0 link.1 proper.2 peers.there,
    ) found

-- each of these links is found among all
abbrev pub AreFound : List (PortRef × PortRef) → List (PortRef × PortRef) → Type 0
AreFound all links = AllByRecursion (λ link. link_in all link.0 ≡ Some link) links

found_behind : (head : PortRef × PortRef) (links more : List (PortRef × PortRef))
    → AreProper (head ∷ links) → AreFound links more → AreFound (head ∷ links) more
found_behind head links [] proper found = tt
found_behind head links (link ∷ more) proper found =
    (found_later head link links proper found.0, found_behind head links more proper found.1)

pub all_found : (links : List (PortRef × PortRef)) → AreProper links → AreFound links links
all_found [] proper = tt
all_found (link ∷ links) proper = (
  rw (same_port-refl link.0) refl,
  found_behind link links links proper
      (all_found links proper.3),
)

-- ---- switches, links and rounds

-- by a test, of a fact of one kind or another
pub by_test : {P Q C : Type 0} (test : Bool) → (P → C) → (Q → C) → MatchBool test P Q → C
by_test true f g x = f x
by_test false f g x = g x

module _ (moves_made : (s : Seen) (node : ℕ) (lines : List TraceLine) → IsGood s
    → IsMove s.network node lines → Made s lines) where
  pub serves_made : {s : Seen} {node : ℕ} {lines : List TraceLine} → IsGood s
      → ServesAll s node lines
      → Made s lines
  serves_made {s} {node} {lines} good (ServeRests move is) = Done is
  serves_made {s} {node} {lines} good (ServeGoes step rest move is more) =
      let one = moves_made s node (Stepped (ByDevice step) ∷ []) good move in
      made_by is (made-append one (serves_made (made_keeps good one).good more))

module _ (Link Known : AtLink)
    (links_come : (s : Seen) (a b : PortRef) (lines : List TraceLine) → IsGood s → s.undetected
    ≡ None → ArePeers s.network.links a b → Link s a b lines → Made s lines × Known s a b lines)
    (moves_made : (s : Seen) (node : ℕ) (lines : List TraceLine) → IsGood s
    → IsMove s.network node lines → Made s lines) where
  nodes_made : (devices : List Registers) (node : ℕ) (s : Seen) (lines : List TraceLine) → IsGood s
      → ServeNodes node devices s lines → Made s lines
  nodes_made [] node s lines good is = Done is
  nodes_made (device ∷ devices) node s lines good serves =
      by_test (is_switch device)
      (λ joined.
      (joined_come s (ServesAll s node) (ServesAll s node) (ServeNodes (suc node) devices)
      (ServeNodes (suc node) devices) lines good
      (λ first own. (serves_made moves_made good own, own))
      (λ t rest g still links more. (nodes_made devices (suc node) t rest g more, more))
      joined).0)
      (λ more. nodes_made devices (suc node) s lines good more) serves

  pub settle_all_come : (links all : List (PortRef × PortRef)) (s : Seen) (lines : List TraceLine)
      → IsGood s → s.undetected ≡ None → s.network.links ≡ all → AreFound all links
      → SettleAll Link links s lines → Made s lines × SettleAll Known links s lines
  settle_all_come [] all s lines good none same found is = (Done is, is)
  settle_all_come (link ∷ links) all s lines good none same found settle =
      let peers = link_peers s.network.links link.0 link good.proper
      (ap (λ l. link_in l link.0) same ∙ found.0) in
      joined_come s (Link s link.0 link.1) (Known s link.0 link.1) (SettleAll Link links)
      (SettleAll Known links) lines good
      (λ first own. links_come s link.0 link.1 first good none peers own)
      (λ t rest g still kept more. settle_all_come links all t rest g still (kept ∙ same) found.1
      more) settle

  pub round_come : (s : Seen) (lines : List TraceLine) → IsGood s → s.undetected ≡ None
      → Round Link s lines → Made s lines × Round Known s lines
  round_come s lines good none round =
      let links = s.network.links in
      joined_come s (SettleAll Link links s) (SettleAll Known links s)
      (λ t rest. ServeNodes 0 t.network.registers t rest)
      (λ t rest. ServeNodes 0 t.network.registers t rest) lines good
      (λ first settle. settle_all_come links links s first good none refl
      (all_found links good.proper) settle)
      (λ t rest g still kept serves. (nodes_made t.network.registers 0 t rest g serves, serves))
      round

  pub rounds_come : (n : ℕ) (s : Seen) (lines : List TraceLine) → IsGood s → s.undetected ≡ None
      → Rounds Link n s lines → Made s lines × Rounds Known n s lines
  rounds_come zero s lines good none is = (Done is, is)
  rounds_come (suc n) s lines good none rounds =
      joined_come s (Round Link s) (Round Known s) (Rounds Link n) (Rounds Known n) lines good
      (λ first round. round_come s first good none round)
      (λ t rest g still kept more. rounds_come n t rest g still more) rounds
