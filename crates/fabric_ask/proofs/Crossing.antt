-- The one packet, while one link after another carries what it can.
use Rattle.fabric_ask.proofs.Prelude.{◌≡◌, ◌<◌, ◌||◌, Bool, true, false, List, [], ◌∷◌, ◌++◌, length, Option, Some, None, refl, sym, ap, ◌∙◌, subst, arith, inl, inr, ◌⊎◌, cond, or_right, AllByRecursion, prio_of, IsSettled, Edit, PortRef, Item, Network, same_port, peer_in, link_in, ArePeers, port_is, same_port-refl, link_peers, some_is, seen, UndetectedAt, Seen, link_at, TraceLine, steps_of, IsLink, Made, Done, Follows, NamesNothing, Joined, seen-append, IsGood, IsKept, made_keeps, made-append, made_by, AreFound, Held, Waits, alone, IsOnly, IsClear, IsLent, is_end, Carried, Stays, Lends, Crosses, IsSame, IsCarry, CarryAll}
use Rattle.fabric_trace.proofs.Links.Serving.{link_round}
use Rattle.fabric_ask.proofs.Alone.{carries, none_carried, and_refl, at_same}
use Rattle.fabric_ask.proofs.Passing.{lent_none, waits_not}
use Rattle.fabric_ask.proofs.Carrying.{HasCarried, has_carried}

-- ---- one link

-- The packet waits at a port of the link, and then the other has received it; or it waits
-- elsewhere.
pub data Crossed (a b : PortRef) (net : Network) (p : PortRef) (item : Item) (end : Network) : Type
    0 where
  Over : (q : PortRef) → peer_in net.links q ≡ Some p → IsOnly end (Held q) item → IsSame net end
      → Crossed a b net p item end
  Away : is_end a b p ≡ false → end ≡ net → Crossed a b net p item end

either_end : (a b p : PortRef) → is_end a b p ≡ true → (p ≡ a) ⊎ (p ≡ b)
either_end a b p is = by_test (same_port p a) (same_port p b) refl refl is
  where
    by_test : (x y : Bool) → same_port p a ≡ x → same_port p b ≡ y → (x || y) ≡ true → (p ≡ a)
        ⊎ (p ≡ b)
    by_test true y first second is = inl (port_is p a first)
    by_test false true first second is = inr (port_is p b second)
    by_test false false first second is = absurd cc

turned_link : {t : Seen} {a b : PortRef} → IsLink t a b → IsLink t b a
turned_link is = link_round is

module _ (s t : Seen) (a b p : PortRef) (item : Item) (peers : ArePeers s.network.links a b)
    (only : IsOnly s.network (Waits p) item) (few : prio_of item.now < 4)
    (link : IsLink t a b) (settled : IsSettled (link_at t a b)) (alike : IsSame s.network t.network)
  where
    -- it does not stay at an end of the link
    not_at : p ≡ a → t.network ≡ s.network → ⊥
    not_at is same =
        waits_not t a b (prio_of item.now) link settled.done_a link.sound.port_b.receives.least few
        (subst (λ (l : List Item). 0 < length l) (sym there) (omega arith))
        (λ r. ap (λ (n : Network). n.received b r) same ∙ only.received b r)
      where
        there : t.network.waiting a (prio_of item.now) ≡ item ∷ []
        there = ap (λ (n : Network). n.waiting a (prio_of item.now)) same
            ∙ ap (λ x. s.network.waiting x (prio_of item.now)) (sym is)
            ∙ only.waiting p (prio_of item.now)
            ∙ ap (λ x. alone x item) (and_refl p (prio_of item.now))

    not_behind : p ≡ b → t.network ≡ s.network → ⊥
    not_behind is same =
        waits_not t b a (prio_of item.now) (turned_link link) settled.done_b
        link.sound.port_a.receives.least few
        (subst (λ (l : List Item). 0 < length l) (sym there) (omega arith))
        (λ r. ap (λ (n : Network). n.received a r) same ∙ only.received a r)
      where
        there : t.network.waiting b (prio_of item.now) ≡ item ∷ []
        there = ap (λ (n : Network). n.waiting b (prio_of item.now)) same
            ∙ ap (λ x. s.network.waiting x (prio_of item.now)) (sym is)
            ∙ only.waiting p (prio_of item.now)
            ∙ ap (λ x. alone x item) (and_refl p (prio_of item.now))

    lent_some : (c : PortRef) → t.network.lent c ≡ [] → c ≡ p → (q : PortRef)
        → IsLent t.network p q item → ⊥
    lent_some c none is q lent =
        let some : t.network.lent p ≡ item ∷ [] = lent.lent p
        ∙ ap (λ x. alone x item) (same_port-refl p) in
        let empty : t.network.lent p ≡ [] = ap t.network.lent (sym is) ∙ none in
        absurd (cc (some, empty))

    not_lent : (q : PortRef) → is_end a b q ≡ true → peer_in s.network.links q ≡ Some p
        → IsLent t.network p q item → ⊥
    not_lent q end peer lent = by_end (either_end a b q end)
      where
        none : (t.network.lent a ≡ []) × (t.network.lent b ≡ [])
        none = lent_none t a b link settled

        by_end : (q ≡ a) ⊎ (q ≡ b) → ⊥
        by_end (inl is) = lent_some b none.1
            (some_is (peer_in s.network.links a) b p peers.there
            (ap (peer_in s.network.links) (sym is) ∙ peer)) q lent
        by_end (inr is) = lent_some a none.0
            (some_is (peer_in s.network.links b) a p peers.back
            (ap (peer_in s.network.links) (sym is)
            ∙ peer)) q lent

    pub crossed : Carried a b s.network p item t.network → Crossed a b s.network p item t.network
    crossed (Stays same) = by_test (is_end a b p) refl
      where
        by_test : (x : Bool) → is_end a b p ≡ x → Crossed a b s.network p item t.network
        by_test true end = absurd (by_end (either_end a b p end))
          where
            by_end : (p ≡ a) ⊎ (p ≡ b) → ⊥
            by_end (inl is) = not_at is same
            by_end (inr is) = not_behind is same
        by_test false end = Away end same
    crossed (Lends q end peer lent) = absurd (not_lent q end peer lent)
    crossed (Crosses q end peer whole) = Over q peer whole alike

-- ---- what may follow

-- nothing was found in lines of which nothing was found behind
found_stays : (s : Seen) (more : List TraceLine) (found : UndetectedAt) → s.undetected ≡ Some found
    → more ≡ [] → (seen s more).undetected ≡ None → ⊥
found_stays s more found is none still =
    absurd (cc (is, ap (λ (l : List TraceLine). (seen s l).undetected) none ∙ refl, still))

-- Of joined lines behind which nothing was found: nothing was found in the first, and the rest
-- follow.
pub record Split (First : List TraceLine → Type 0) (More : Seen → List TraceLine → Type 0)
    (s : Seen) (lines : List TraceLine) : Type 0 where
  pub first : List TraceLine
  pub rest : List TraceLine
  pub whole : lines ≡ first ++ rest
  pub own : First first
  pub still : (seen s first).undetected ≡ None
  pub more : More (seen s first) rest
  pub after : seen s lines ≡ seen (seen s first) rest

pub split : (First : List TraceLine → Type 0) (More : Seen → List TraceLine → Type 0) (s : Seen)
    (lines : List TraceLine) → Joined First More s lines → (seen s lines).undetected ≡ None
    → Split First More s lines
split First More s lines joined still = by_found (seen s joined.0).undetected refl joined.4
  where
    after : seen s lines ≡ seen (seen s joined.0) joined.1
    after = ap (seen s) joined.2 ∙ seen-append s joined.0 joined.1

    by_found : (found : Option UndetectedAt) → (seen s joined.0).undetected ≡ found
        → Follows found (More (seen s joined.0)) NamesNothing joined.1 → Split First More s lines
    by_found None is follows = record {
      first = joined.0;
      rest = joined.1;
      whole = joined.2;
      own = joined.3;
      still = is;
      more = follows;
      after = after;
    }
    by_found (Some found) is none = absurd
        (found_stays (seen s joined.0) joined.1 found is none
        (sym (ap (λ (t : Seen). t.undetected) after) ∙ still))

-- ---- one link after another

-- a port is at none of these links
abbrev pub AreAway : List (PortRef × PortRef) → PortRef → Type 0
AreAway links p = AllByRecursion (λ link. is_end link.0 link.1 p ≡ false) links

pub away_alone : (links : List (PortRef × PortRef)) (p q : PortRef) → AreAway links p
    → peer_in links p ≡ Some q → ⊥
away_alone [] p q away peer = absurd cc
away_alone (link ∷ links) p q away peer = by_ends (same_port link.0 p) (same_port link.1 p) refl
    refl (away_alone links p q away.1) peer
  where
    by_ends : (x y : Bool) → same_port link.0 p ≡ x → same_port link.1 p ≡ y
        → (peer_in links p ≡ Some q → ⊥) → cond x (Some link.1)
        (cond y (Some link.0) (peer_in links p)) ≡ Some q → ⊥
    by_ends true y first second later is =
        let here : is_end link.0 link.1 p ≡ true =
        ap (is_end link.0 link.1) (sym (port_is link.0 p first))
        ∙ ap (λ z. z || same_port link.0 link.1) (same_port-refl link.0) in
        absurd (cc (here, away.0))
    by_ends false true first second later is =
        let here : is_end link.0 link.1 p ≡ true =
        ap (is_end link.0 link.1) (sym (port_is link.1 p second))
        ∙ ap (λ z. same_port link.1 link.0 || z) (same_port-refl link.1)
        ∙ or_right (same_port link.1 link.0) true refl in
        absurd (cc (here, away.0))
    by_ends false false first second later is = later is

-- The packet has gone over its link, or waits at a port of none of these.
pub data Ran (links : List (PortRef × PortRef)) (net : Network) (p : PortRef) (item : Item)
    (end : Network) : Type 0 where
  Reached : (q : PortRef) → peer_in net.links q ≡ Some p → IsOnly end (Held q) item → IsSame net end
      → Ran links net p item end
  Stuck : AreAway links p → end ≡ net → Ran links net p item end

-- lines of links: good, and behind them the packet is as said
pub record HasRun (s : Seen) (lines : List TraceLine) (Is : Network → Type 0) : Type 0 where
  pub made : Made s lines
  pub good : IsGood (seen s lines)
  pub links : (seen s lines).network.links ≡ s.network.links
  pub is : Is (seen s lines).network

-- what is said there follows from what was
weaker : {s : Seen} {lines : List TraceLine} (Is Other : Network → Type 0)
    → ((n : Network) → Is n → Other n) → HasRun s lines Is → HasRun s lines Other
weaker {s} {lines} Is Other turns run = record {
  made = run.made;
  good = run.good;
  links = run.links;
  is = turns (seen s lines).network run.is;
}

-- Links of which one carries first, where nothing is found: what it does, and the others behind.
pub record FirstCarried (all : List (PortRef × PortRef)) (link : PortRef × PortRef)
    (more : List (PortRef × PortRef)) (noise left : List Edit) (s : Seen) (lines : List TraceLine)
    : Type 0 where
  pub mid : List Edit
  pub parts : Split (IsCarry noise mid s link.0 link.1) (CarryAll more mid left) s lines
  pub peers : ArePeers s.network.links link.0 link.1
  pub own : HasCarried s link.0 link.1 parts.first
  pub kept : IsKept s parts.first
  pub links : (seen s parts.first).network.links ≡ all
  pub still : (seen (seen s parts.first) parts.rest).undetected ≡ None

pub first_carried : (all : List (PortRef × PortRef)) (link : PortRef × PortRef)
    (more : List (PortRef × PortRef)) (noise left : List Edit) (s : Seen) (lines : List TraceLine)
    → IsGood s → s.undetected ≡ None → s.network.links ≡ all → AreFound all (link ∷ more)
    → CarryAll (link ∷ more) noise left s lines → (seen s lines).undetected ≡ None
    → FirstCarried all link more noise left s lines
first_carried all link more noise left s lines good none same found carry still =
    let parts = split (IsCarry noise carry.0 s link.0 link.1) (CarryAll more carry.0 left) s lines
    carry.1 still in
    let peers = link_peers s.network.links link.0 link good.proper
    (ap (λ l. link_in l link.0) same ∙ found.0) in
    let own = has_carried noise carry.0 s link.0 link.1 parts.first good none peers parts.own in
    record {
      mid = carry.0;
      parts = parts;
      peers = peers;
      own = own;
      kept = made_keeps good own.local.made;
      links = own.local.others.links ∙ same;
      still = sym (ap (λ (x : Seen). x.undetected) parts.after) ∙ still;
    }

-- what the others run to is there behind the first
run_on : {all : List (PortRef × PortRef)} {link : PortRef × PortRef}
    {more : List (PortRef × PortRef)} {noise left : List Edit} {s : Seen} {lines : List TraceLine}
    (first : FirstCarried all link more noise left s lines) (Is : Network → Type 0)
    → HasRun (seen s first.parts.first) first.parts.rest Is → HasRun s lines Is
run_on first Is rest = record {
  made = made_by first.parts.whole (made-append first.own.local.made rest.made);
  good = subst IsGood (sym first.parts.after) rest.good;
  links = ap (λ (x : Seen). x.network.links) first.parts.after ∙ rest.links
      ∙ first.own.local.others.links;
  is = subst (λ (x : Seen). Is x.network) (sym first.parts.after) rest.is;
}

module _ (all : List (PortRef × PortRef)) where
  -- where it was received before, it stays there
  pub held_stays : (links : List (PortRef × PortRef)) (noise left : List Edit) (s : Seen)
      (lines : List TraceLine) (q : PortRef) (item : Item) → IsGood s → s.undetected ≡ None
      → s.network.links ≡ all → AreFound all links
      → IsOnly s.network (Held q) item → CarryAll links noise left s lines
      → (seen s lines).undetected ≡ None → HasRun s lines (λ net. net ≡ s.network)
  held_stays [] noise left s lines q item good none same found only carry still =
      subst (λ l. HasRun s l (λ net. net ≡ s.network)) (sym carry.0)
      (record { made = Done refl; good = good; links = refl; is = refl })
  held_stays (link ∷ links) noise left s lines q item good none same found only carry still =
      let first = first_carried all link links noise left s lines good none same found carry still
      in
      let t = seen s first.parts.first in
      let here : t.network ≡ s.network = none_carried link.0 link.1 s.network t.network
      (steps_of first.parts.first) only.waiting only.lent first.own.local.at first.kept.legal in
      weaker (λ net. net ≡ t.network) (λ net. net ≡ s.network) (λ n is. is ∙ here)
      (run_on first (λ net. net ≡ t.network)
      (held_stays links first.mid left t first.parts.rest q item first.kept.good first.parts.still
      first.links found.1 (subst (λ n. IsOnly n (Held q) item) (sym here) only) first.parts.more
      first.still))

  -- one that waits goes over its link
  pub waits_run : (links : List (PortRef × PortRef)) (noise left : List Edit) (s : Seen)
      (lines : List TraceLine) (p : PortRef) (item : Item) → IsGood s → s.undetected ≡ None
      → s.network.links ≡ all → AreFound all links
      → IsOnly s.network (Waits p) item → prio_of item.now < 4 → CarryAll links noise left s lines
      → (seen s lines).undetected ≡ None → HasRun s lines (Ran links s.network p item)
  waits_run [] noise left s lines p item good none same found only few carry still =
      subst (λ l. HasRun s l (Ran [] s.network p item)) (sym carry.0)
      (record { made = Done refl; good = good; links = refl; is = Stuck tt refl })
  waits_run (link ∷ links) noise left s lines p item good none same found only few carry still =
      by_link (λ mid t more good none same only own still. waits_run links mid left t more p item
      good none same found.1 only few own still)
      (crossed s t link.0 link.1 p item first.peers only few
      (first.kept.good.links first.parts.still link.0 link.1
      (subst (λ l. peer_in l link.0 ≡ Some link.1) (sym first.own.local.others.links)
      first.peers.there))
      (first.own.rests first.parts.still) (at_same link.0 link.1 s.network t.network
      (steps_of first.parts.first) first.own.local.at first.kept.legal)
      (carries link.0 link.1 s.network t.network (steps_of first.parts.first) p item only
      first.own.local.at first.kept.legal))
    where
      first : FirstCarried all link links noise left s lines
      first = first_carried all link links noise left s lines good none same found carry still

      t : Seen
      t = seen s first.parts.first

      by_link : ((mid : List Edit) (u : Seen) (more : List TraceLine) → IsGood u
          → u.undetected ≡ None → u.network.links ≡ all → IsOnly u.network (Waits p) item
          → CarryAll links mid left u more → (seen u more).undetected ≡ None
          → HasRun u more (Ran links u.network p item))
          → Crossed link.0 link.1 s.network p item t.network
          → HasRun s lines (Ran (link ∷ links) s.network p item)
      by_link again (Over q peer whole alike) =
          weaker (λ n. n ≡ t.network) (Ran (link ∷ links) s.network p item)
          (λ n is. Reached q peer (subst (λ x. IsOnly x (Held q) item) (sym is) whole)
          (subst (IsSame s.network) (sym is) alike))
          (run_on first (λ n. n ≡ t.network)
          (held_stays links first.mid left t first.parts.rest q item first.kept.good
          first.parts.still first.links found.1 whole first.parts.more first.still))
      by_link again (Away away here) =
          weaker (Ran links t.network p item) (Ran (link ∷ links) s.network p item) turns
          (run_on first (Ran links t.network p item)
          (again first.mid t first.parts.rest first.kept.good first.parts.still first.links
          (subst (λ n. IsOnly n (Waits p) item) (sym here) only) first.parts.more first.still))
        where
          turns : (n : Network) → Ran links t.network p item n
              → Ran (link ∷ links) s.network p item n
          turns n (Reached q peer whole alike) =
              Reached q (subst (λ (x : Network). peer_in x.links q ≡ Some p) here peer) whole
              (subst (λ x. IsSame x n) here alike)
          turns n (Stuck others is) = Stuck (away, others) (is ∙ here)

  -- where nothing is, nothing is carried
  pub clear_stays : (links : List (PortRef × PortRef)) (noise left : List Edit) (s : Seen)
      (lines : List TraceLine) → IsGood s → s.undetected ≡ None → s.network.links ≡ all
      → AreFound all links
      → IsClear s.network → CarryAll links noise left s lines → (seen s lines).undetected ≡ None
      → HasRun s lines (λ net. net ≡ s.network)
  clear_stays [] noise left s lines good none same found clear carry still =
      subst (λ l. HasRun s l (λ net. net ≡ s.network)) (sym carry.0)
      (record { made = Done refl; good = good; links = refl; is = refl })
  clear_stays (link ∷ links) noise left s lines good none same found clear carry still =
      let first = first_carried all link links noise left s lines good none same found carry still
      in
      let t = seen s first.parts.first in
      let here : t.network ≡ s.network = none_carried link.0 link.1 s.network t.network
      (steps_of first.parts.first) clear.waiting clear.lent first.own.local.at first.kept.legal in
      weaker (λ net. net ≡ t.network) (λ net. net ≡ s.network) (λ n is. is ∙ here)
      (run_on first (λ net. net ≡ t.network)
      (clear_stays links first.mid left t first.parts.rest first.kept.good first.parts.still
      first.links found.1 (subst IsClear (sym here) clear) first.parts.more first.still))
