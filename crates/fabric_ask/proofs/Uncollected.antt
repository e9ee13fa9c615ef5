-- In the rounds of an ask the host collects nothing, but in the last of them.
use Rattle.fabric_ask.proofs.Prelude.{◌≡◌, ◌≢◌, ℕ, zero, suc, ◌||◌, ◌==◌, Bool, true, false, List, [], ◌∷◌, ◌++◌, Option, Some, None, refl, sym, ap, ◌∙◌, subst, MatchBool, eq-eqb, append_assoc, inl, inr, ◌⊎◌, Registers, is_switch, Edit, PortRef, Network, IsEndpoint, IsSwitch, switch_at, link_in, Hold, Free, Leave, Move, Drop, Answer, DeviceStep, Step, Linked, AtNode, ByDevice, after, LegalFrom, switches_stay, two_kinds, link_peers, seen, UndetectedAt, Seen, TraceLine, Begun, Stepped, Signed, Lacked, Ended, Undetected, steps_of, Made, Done, IsCollect, Follows, NamesNothing, Joined, ServesAll, ServeRests, ServeGoes, ServeNodes, IsGood, made_keeps, legal_links, seen-append, made-append, made_by, AreFound, all_found, by_test, serves_made, move_made, AreAt, IsCarry, CarryAll, CollectsAll, CollectNodes, Handles, AskRound, holds_some, AskRounds, Unheld, CollectRests, CollectStops, CollectGoes, GoesOn, NoAnswer, NeverAnswers, IsElsewhere, CollectsNothing, AreQuiet}
use Rattle.fabric_ask.proofs.Carrying.{has_carried}
use Rattle.fabric_ask.proofs.Collecting.{Makes, Leaving, Answering, collect_makes, collect_lines_made}
use Rattle.fabric_ask.proofs.Serving.{IsMade, move_is}
use Rattle.fabric_ask.proofs.Quieting.{round_quiet}
use Rattle.fabric_ask.proofs.Calming.{collects_made, serve_made, handles_made}

pub never-append : (host : ℕ) (xs ys : List TraceLine) → CollectsNothing host xs
    → CollectsNothing host ys
    → CollectsNothing host (xs ++ ys)
never-append host [] ys first rest = rest
never-append host (x ∷ xs) ys first rest = (first.0, never-append host xs ys first.1 rest)

pub never_by : (host : ℕ) {xs ys : List TraceLine} → xs ≡ ys → CollectsNothing host ys
    → CollectsNothing host xs
never_by host is never = subst (CollectsNothing host) (sym is) never

pub never_none : (host : ℕ) (lines : List TraceLine) → lines ≡ [] → CollectsNothing host lines
never_none host lines is = never_by host is tt

-- Lines in which the host collects nothing, made of parts.
pub record IsApart (host : ℕ) (s : Seen) (lines : List TraceLine) : Type 0 where
  pub nothing : CollectsNothing host lines
  pub made : Made s lines

pub apart_then : (host : ℕ) (s : Seen) (first rest lines : List TraceLine) → lines ≡ first ++ rest
    → IsApart host s first → IsApart host (seen s first) rest → IsApart host s lines
apart_then host s first rest lines whole own more = record {
  nothing = never_by host whole (never-append host first rest own.nothing more.nothing);
  made = made_by whole (made-append own.made more.made);
}

-- of joined lines the first, and those behind if nothing was found in the first
joined_never : (host : ℕ) (First : List TraceLine → Type 0) (More : Seen → List TraceLine → Type 0)
    (s : Seen) (lines : List TraceLine) → Joined First More s lines
    → ((first : List TraceLine) → First first → CollectsNothing host first)
    → ((first rest : List TraceLine) → First first → (seen s first).undetected ≡ None
    → More (seen s first) rest → CollectsNothing host rest) → CollectsNothing host lines
joined_never host First More s lines joined own later =
    never_by host joined.2 (never-append host joined.0 joined.1 (own joined.0 joined.3)
    (by_found (seen s joined.0).undetected refl joined.4))
  where
    by_found : (found : Option UndetectedAt) → (seen s joined.0).undetected ≡ found
        → Follows found (More (seen s joined.0)) NamesNothing joined.1
        → CollectsNothing host joined.1
    by_found None is more = later joined.0 joined.1 joined.3 is more
    by_found (Some found) is none = never_none host joined.1 none

joined_apart : (host : ℕ) (First : List TraceLine → Type 0) (More : Seen → List TraceLine → Type 0)
    (s : Seen) (lines : List TraceLine) → Joined First More s lines
    → ((first : List TraceLine) → First first → IsApart host s first)
    → ((first rest : List TraceLine) → First first → (seen s first).undetected ≡ None
    → More (seen s first) rest → IsApart host (seen s first) rest) → IsApart host s lines
joined_apart host First More s lines joined own later =
    apart_then host s joined.0 joined.1 lines joined.2 (own joined.0 joined.3)
    (by_found (seen s joined.0).undetected refl joined.4)
  where
    by_found : (found : Option UndetectedAt) → (seen s joined.0).undetected ≡ found
        → Follows found (More (seen s joined.0)) NamesNothing joined.1
        → IsApart host (seen s joined.0) joined.1
    by_found None is more = later joined.0 joined.1 joined.3 is more
    by_found (Some found) is none =
        record { nothing = never_none host joined.1 none; made = made_by none (Done refl) }

elsewhere_answers : (host : ℕ) (line : TraceLine) → IsElsewhere host line → NoAnswer host line
elsewhere_answers host (Begun line) is = tt
elsewhere_answers host (Stepped (Linked step)) is = tt
elsewhere_answers host (Stepped (AtNode step)) is = tt
elsewhere_answers host (Stepped (ByDevice (Move p q packet))) is = tt
elsewhere_answers host (Stepped (ByDevice (Drop p packet))) is = tt
elsewhere_answers host (Stepped (ByDevice (Answer p packet response))) is = is
elsewhere_answers host (Signed sign) is = tt
elsewhere_answers host (Lacked lack) is = tt
elsewhere_answers host Ended is = tt
elsewhere_answers host (Undetected n q e) is = tt

-- where it collects nothing, its registers answer nothing
pub nothing_answers : (host : ℕ) (lines : List TraceLine) → CollectsNothing host lines
    → NeverAnswers host lines
nothing_answers host [] nothing = tt
nothing_answers host (line ∷ lines) nothing =
    (elsewhere_answers host line nothing.0, nothing_answers host lines nothing.1)

pub answers-append : (host : ℕ) (xs ys : List TraceLine) → NeverAnswers host xs
    → NeverAnswers host ys → NeverAnswers host (xs ++ ys)
answers-append host [] ys first rest = rest
answers-append host (x ∷ xs) ys first rest = (first.0, answers-append host xs ys first.1 rest)

-- it collects nothing in lines of which the last is a packet that leaves there
pub nothing_leaves : (host : ℕ) (front : List TraceLine) (packet : List ℕ)
    → CollectsNothing host (front ++ Stepped (AtNode (Leave host packet)) ∷ []) → ⊥
nothing_leaves host [] packet nothing = nothing.0 refl
nothing_leaves host (line ∷ front) packet nothing = nothing_leaves host front packet nothing.1

-- at a link no registers answer
at_never : (host : ℕ) (a b : PortRef) (lines : List TraceLine) → AreAt a b (steps_of lines)
    → CollectsNothing host lines
at_never host a b [] at = tt
at_never host a b (Begun line ∷ lines) at = (tt, at_never host a b lines at)
at_never host a b (Stepped (Linked (Hold c packet)) ∷ lines) at = (tt, at_never host a b lines at.1)
at_never host a b (Stepped (Linked (Free c packet)) ∷ lines) at = (tt, at_never host a b lines at.1)
at_never host a b (Stepped (AtNode step) ∷ lines) at = absurd at
at_never host a b (Stepped (ByDevice step) ∷ lines) at = absurd at
at_never host a b (Signed sign ∷ lines) at = (tt, at_never host a b lines at)
at_never host a b (Lacked lack ∷ lines) at = (tt, at_never host a b lines at)
at_never host a b (Ended ∷ lines) at = (tt, at_never host a b lines at)
at_never host a b (Undetected n q e ∷ lines) at = (tt, at_never host a b lines at)

-- the host stays an endpoint over legal steps
stays_endpoint : (host : ℕ) (net : Network) (steps : List Step) (end : Network)
    → IsEndpoint net host → LegalFrom net steps end → IsEndpoint end host
stays_endpoint host net [] end is legal = subst (λ (n : Network). IsEndpoint n host) (sym legal) is
stays_endpoint host net (step ∷ steps) end is legal = stays_endpoint host (after net step) steps end
    (switches_stay net step host ∙ is) legal.1

module _ (host : ℕ) where
  pub made_endpoint : (s : Seen) (lines : List TraceLine) → IsGood s → Made s lines
      → IsEndpoint s.network host → IsEndpoint (seen s lines).network host
  made_endpoint s lines good made is = stays_endpoint host s.network (steps_of lines)
      (seen s lines).network is (made_keeps good made).legal

  step_never : (s : Seen) (node : ℕ) (step : DeviceStep) → IsEndpoint s.network host
      → IsSwitch s.network node → IsMade s.network node step
      → IsElsewhere host (Stepped (ByDevice step))
  step_never s node (Move p q packet) is kind made = tt
  step_never s node (Drop p packet) is kind made = tt
  step_never s node (Answer p packet response) is kind made =
      λ same. two_kinds (switch_at s.network host) is
      (subst (λ n. switch_at s.network n ≡ Some true) (sym made.here ∙ same) kind)

  serves_never : {s : Seen} {node : ℕ} {lines : List TraceLine} → IsGood s
      → IsEndpoint s.network host → ServesAll s node lines → CollectsNothing host lines
  serves_never {s} {node} {lines} good is (ServeRests move at) = never_none host lines at
  serves_never {s} {node} {lines} good is (ServeGoes step rest move at more) =
      let one = move_made s node (Stepped (ByDevice step) ∷ []) good move in
      never_by host at (
        step_never s node step is move.switch (move_is s node step good move),
        serves_never (made_keeps good one).good (switches_stay s.network (ByDevice step) host
            ∙ is) more,
      )

  makes_never : (net : Network) (node : ℕ) (step : Step) → node ≢ host → Makes net node step
      → IsElsewhere host (Stepped step)
  makes_never net node step away (Leaving packet at needs) =
      subst (λ x. IsElsewhere host (Stepped x)) (sym at) away
  makes_never net node step away (Answering packet response at needs) =
      subst (λ x. IsElsewhere host (Stepped x)) (sym at) away

  collects_never : {s : Seen} {node : ℕ} {lines : List TraceLine} → IsGood s → s.undetected ≡ None
      → node ≢ host → CollectsAll s node lines → CollectsNothing host lines
  collects_never {s} {node} {lines} good none away (CollectRests move at) = never_none host lines at
  collects_never {s} {node} {lines} good none away (CollectStops move at) =
      never_by host at (tt, tt)
  collects_never {s} {node} {lines} good none away (CollectGoes step rest move at more) =
      let one = collect_lines_made s node (Stepped step ∷ []) good none move in
      never_by host at (
        makes_never s.network node step away (collect_makes s node step good move),
        collects_never (made_keeps good one).good none away more,
      )

  serve_never : (devices : List Registers) (k : ℕ) (s : Seen) (lines : List TraceLine) → IsGood s
      → IsEndpoint s.network host → ServeNodes k devices s lines → CollectsNothing host lines
  serve_never [] k s lines good is at = never_none host lines at
  serve_never (device ∷ devices) k s lines good is at =
      by_test (is_switch device)
      (λ joined. joined_never host (ServesAll s k) (ServeNodes (suc k) devices) s lines joined
      (λ first own. serves_never good is own)
      (λ first rest own still more.
      let made = serves_made move_made good own in
      serve_never devices (suc k) (seen s first) rest (made_keeps good made).good
      (made_endpoint s first good made is) more))
      (λ more. serve_never devices (suc k) s lines good is more) at

  collect_never : (devices : List Registers) (k : ℕ) (s : Seen) (lines : List TraceLine) → IsGood s
      → s.undetected ≡ None → CollectNodes host k devices s lines → CollectsNothing host lines
  collect_never [] k s lines good none at = never_none host lines at
  collect_never (device ∷ devices) k s lines good none at =
      by_both (is_switch device) (k == host) refl at
      (λ rest t g still more. collect_never devices (suc k) t rest g still more)
    where
      by_both : (kind own : Bool) → (k == host) ≡ own
          → MatchBool (kind || own) (CollectNodes host (suc k) devices s lines)
          (Joined (CollectsAll s k) (CollectNodes host (suc k) devices) s lines)
          → ((rest : List TraceLine) (t : Seen) → IsGood t → t.undetected ≡ None
          → CollectNodes host (suc k) devices t rest → CollectsNothing host rest)
          → CollectsNothing host lines
      by_both true own test more again = again lines s good none more
      by_both false true test more again = again lines s good none more
      by_both false false test joined again =
          let away : k ≢ host = λ same. let bad : true ≡ false = sym (eq-eqb k host same) ∙ test in
          absurd cc in
          joined_never host (CollectsAll s k) (CollectNodes host (suc k) devices) s lines joined
          (λ first own. collects_never good none away own)
          (λ first rest own still more.
          again rest (seen s first) (made_keeps good (collects_made good none own)).good still more)

  pub carry_apart : (all links : List (PortRef × PortRef)) (noise left : List Edit) (s : Seen)
      (lines : List TraceLine) → IsGood s → s.undetected ≡ None → s.network.links ≡ all
      → AreFound all links → CarryAll links noise left s lines → IsApart host s lines
  carry_apart all [] noise left s lines good none same found carry = record {
    nothing = never_none host lines carry.0;
    made = made_by carry.0 (Done refl);
  }
  carry_apart all (link ∷ links) noise left s lines good none same found carry =
      let mid = carry.0 in
      let peers = link_peers s.network.links link.0 link good.proper
      (ap (λ l. link_in l link.0) same ∙ found.0) in
      joined_apart host (IsCarry noise mid s link.0 link.1) (CarryAll links mid left) s lines
      carry.1
      (λ first own.
      let local = (has_carried noise mid s link.0 link.1 first good none peers own).local in
      record { nothing = at_never host link.0 link.1 first local.at; made = local.made })
      (λ first rest own still more.
      let local = (has_carried noise mid s link.0 link.1 first good none peers own).local in
      carry_apart all links mid left (seen s first) rest (made_keeps good local.made).good still
      (local.others.links ∙ same) found.1 more)

  handles_apart : (s : Seen) (lines : List TraceLine) → IsGood s → s.undetected ≡ None
      → IsEndpoint s.network host → Handles host s lines → IsApart host s lines
  handles_apart s lines good none is handles = record {
    nothing = joined_never host (λ first. ServeNodes 0 s.network.registers s first)
        (λ t rest. CollectNodes host 0 t.network.registers t rest) s lines handles
        (λ first own. serve_never s.network.registers 0 s first good is own)
        (λ first rest own still more.
        let made = serve_made s.network.registers 0 s first good none own in
        collect_never (seen s first).network.registers 0 (seen s first) rest
        (made_keeps good made).good still more);
    made = handles_made host s lines good none handles;
  }

  -- in a round
  pub round_apart : (noise left : List Edit) (s : Seen) (lines : List TraceLine) → IsGood s
      → s.undetected ≡ None → IsEndpoint s.network host → AskRound host noise left s lines
      → IsApart host s lines
  round_apart noise left s lines good none is round =
      joined_apart host (CarryAll s.network.links noise left s) (Handles host) s lines round
      (λ first own. carry_apart s.network.links s.network.links noise left s first good none refl
      (all_found s.network.links good.proper) own)
      (λ first rest own still more.
      let carried = carry_apart s.network.links s.network.links noise left s first good none refl
      (all_found s.network.links good.proper) own in
      handles_apart (seen s first) rest (made_keeps good carried.made).good still
      (made_endpoint s first good carried.made is) more)

  -- in rounds after none of which the host holds a packet
  pub unheld_apart : (n : ℕ) (noise left : List Edit) (s : Seen) (lines : List TraceLine)
      → IsGood s → s.undetected ≡ None → IsEndpoint s.network host
      → Unheld host n noise left s lines → IsApart host s lines
  unheld_apart zero noise left s lines good none is unheld = record {
    nothing = never_none host lines unheld.0;
    made = made_by unheld.0 (Done refl);
  }
  unheld_apart (suc n) noise left s lines good none is unheld =
      let mid = unheld.0 in
      joined_apart host (AskRound host noise mid s)
      (λ t rest. (holds_some host t ≡ false) × Unheld host n mid left t rest) s lines unheld.1
      (λ first own. round_apart noise mid s first good none is own)
      (λ first rest own still more.
      let made = (round_apart noise mid s first good none is own).made in
      unheld_apart n mid left (seen s first) rest (made_keeps good made).good still
      (made_endpoint s first good made is) more.1)

  -- The last lines are those of the host's collecting, behind which nothing follows.
  pub record CollectsLast (s : Seen) (lines : List TraceLine) : Type 0 where
    pub front : List TraceLine
    pub last : List TraceLine
    pub whole : lines ≡ front ++ last
    pub apart : IsApart host s front
    pub still : (seen s front).undetected ≡ None
    pub held : holds_some host (seen s front) ≡ true
    pub quiet : AreQuiet s.network.links (seen s front)
    pub collect : IsCollect (seen s front).network host last

  collects_behind : (s : Seen) (first rest lines : List TraceLine) → lines ≡ first ++ rest
      → (seen s first).network.links ≡ s.network.links
      → IsApart host s first → (IsApart host (seen s first) rest) ⊎ CollectsLast (seen s first) rest
      → (IsApart host s lines) ⊎ CollectsLast s lines
  collects_behind s first rest lines whole links own (inl apart) =
      inl (apart_then host s first rest lines whole own apart)
  collects_behind s first rest lines whole links own (inr more) =
      let joined = seen-append s first more.front in
      inr (record {
        front = first ++ more.front;
        last = more.last;
        whole = whole ∙ ap (λ (l : List TraceLine). first ++ l) more.whole
            ∙ sym (append_assoc first more.front more.last);
        apart = apart_then host s first more.front (first ++ more.front) refl own more.apart;
        still = ap (λ (x : Seen). x.undetected) joined ∙ more.still;
        held = ap (holds_some host) joined ∙ more.held;
        quiet = subst (AreQuiet s.network.links) (sym joined)
            (subst (λ l. AreQuiet l (seen (seen s first) more.front)) links more.quiet);
        collect = subst (λ (x : Seen). IsCollect x.network host more.last) (sym joined)
            more.collect;
      })

  -- In the rounds of an ask it collects nothing, or at their end alone.
  pub rounds_apart : (n : ℕ) (noise : List Edit) (s : Seen) (lines : List TraceLine) → IsGood s
      → s.undetected ≡ None → IsEndpoint s.network host → AskRounds host n noise s lines
      → (IsApart host s lines) ⊎ CollectsLast s lines
  rounds_apart zero noise s lines good none is asks =
      inl (record { nothing = never_none host lines asks; made = made_by asks (Done refl) })
  rounds_apart (suc n) noise s lines good none is asks =
      let left = asks.0 in
      let first = asks.1.0 in
      let rest = asks.1.1 in
      let own = round_apart noise left s first good none is asks.1.3 in
      let kept = made_keeps good own.made in
      let links = legal_links s.network (steps_of first) (seen s first).network kept.legal in
      collects_behind s first rest lines asks.1.2 links own
      (by_found (seen s first).undetected refl asks.1.4
      (λ still held more. inr (record {
        front = [];
        last = rest;
        whole = refl;
        apart = record { nothing = tt; made = Done refl };
        still = still;
        held = held;
        quiet = subst (λ l. AreQuiet l (seen s first)) (sym links)
            (round_quiet host noise left s first good none asks.1.3 still);
        collect = more;
      }))
      (λ still more. rounds_apart n left (seen s first) rest (made_keeps good own.made).good still
      (made_endpoint s first good own.made is) more))
    where
      by_found : (found : Option UndetectedAt) → (seen s asks.1.0).undetected ≡ found
          → Follows found (GoesOn host n asks.0 (seen s asks.1.0)) NamesNothing asks.1.1
          → ((seen s asks.1.0).undetected ≡ None → holds_some host (seen s asks.1.0) ≡ true
          → IsCollect (seen s asks.1.0).network host asks.1.1
          → (IsApart host (seen s asks.1.0) asks.1.1) ⊎ CollectsLast (seen s asks.1.0) asks.1.1)
          → ((seen s asks.1.0).undetected ≡ None
          → AskRounds host n asks.0 (seen s asks.1.0) asks.1.1
          → (IsApart host (seen s asks.1.0) asks.1.1) ⊎ CollectsLast (seen s asks.1.0) asks.1.1)
          → (IsApart host (seen s asks.1.0) asks.1.1) ⊎ CollectsLast (seen s asks.1.0) asks.1.1
      by_found (Some found) is none collects goes =
          inl (record { nothing = never_none host asks.1.1 none; made = made_by none (Done refl) })
      by_found None is more collects goes = by_held (holds_some host (seen s asks.1.0)) refl more
        where
          by_held : (b : Bool) → holds_some host (seen s asks.1.0) ≡ b
              → MatchBool b (IsCollect (seen s asks.1.0).network host asks.1.1)
              (AskRounds host n asks.0 (seen s asks.1.0) asks.1.1)
              → (IsApart host (seen s asks.1.0) asks.1.1) ⊎ CollectsLast (seen s asks.1.0) asks.1.1
          by_held true holds_one own2 = collects is holds_one own2
          by_held false holds_none own2 = goes is own2
