-- After each round of an ask every link is quiet.
use Rattle.fabric_ask.proofs.Prelude.{◌≡◌, ℕ, suc, ◌||◌, ◌==◌, Bool, true, false, List, [], ◌∷◌, ◌++◌, Option, Some, None, refl, sym, ap, ◌∙◌, subst, cond, ⊤, at_rest, IsQuiet, Edit, Registers, is_switch, PortRef, same_port, peer_in, Step, ByDevice, AreProper, apart_back, seen_line, seen, UndetectedAt, Wire, Seen, link_at, Half, Full, TraceLine, Stepped, Lacked, Follows, NamesNothing, Joined, ServesAll, ServeRests, ServeGoes, ServeNodes, IsGood, AreFound, all_found, by_test, is_end, CarryAll, CollectsAll, CollectNodes, Handles, AskRound, CollectRests, CollectStops, CollectGoes, AreQuiet}
use Rattle.fabric_ask.proofs.Crossing.{split, AreAway, first_carried}

-- what is known of a port's wire and half is the same
pub record IsSamePort (s t : Seen) (c : PortRef) : Type 0 where
  pub wire : t.wires c ≡ s.wires c
  pub half : t.halves c ≡ s.halves c

same_then : {s t u : Seen} {c : PortRef} → IsSamePort s t c → IsSamePort t u c → IsSamePort s u c
same_then first next = record { wire = next.wire ∙ first.wire; half = next.half ∙ first.half }

quiet_same : (s t : Seen) (a b : PortRef) → IsSamePort s t a → IsSamePort s t b
    → IsQuiet (link_at s a b) → IsQuiet (link_at t a b)
quiet_same s t a b first second quiet = record {
  wire_a = ap (λ (w : Wire). w.chars) first.wire ∙ quiet.wire_a;
  wire_b = ap (λ (w : Wire). w.chars) second.wire ∙ quiet.wire_b;
  a_to_b = record {
    ack = quiet.a_to_b.ack;
    report = quiet.a_to_b.report;
    sender_ok = ap (λ (h : Half). h.output) first.half ∙ quiet.a_to_b.sender_ok;
    receiver_ok = ap (λ (h : Half). h.input) second.half ∙ quiet.a_to_b.receiver_ok;
    place = ap (λ (h : Half). at_rest h.place) second.half ∙ quiet.a_to_b.place;
  };
  b_to_a = record {
    ack = quiet.b_to_a.ack;
    report = quiet.b_to_a.report;
    sender_ok = ap (λ (h : Half). h.output) second.half ∙ quiet.b_to_a.sender_ok;
    receiver_ok = ap (λ (h : Half). h.input) first.half ∙ quiet.b_to_a.receiver_ok;
    place = ap (λ (h : Half). at_rest h.place) first.half ∙ quiet.b_to_a.place;
  };
}

pub all_same : (links : List (PortRef × PortRef)) (s t : Seen) → ((c : PortRef) → IsSamePort s t c)
    → AreQuiet links s → AreQuiet links t
all_same [] s t same quiet = tt
all_same (link ∷ links) s t same quiet = (
  quiet_same s t link.0 link.1 (same link.0) (same link.1) quiet.0,
  all_same links s t same
      quiet.1,
)

-- ---- steps, and lines that say what could not be done, change no wire and no half

unfoldable pub OnlySteps : List TraceLine → Type 0
OnlySteps [] = ⊤
OnlySteps (Stepped step ∷ lines) = OnlySteps lines
OnlySteps (Lacked lack ∷ lines) = OnlySteps lines
OnlySteps (line ∷ lines) = ⊥

steps-append : (xs ys : List TraceLine) → OnlySteps xs → OnlySteps ys → OnlySteps (xs ++ ys)
unfolding OnlySteps
steps-append [] ys first rest = rest
steps-append (Stepped step ∷ xs) ys first rest = steps-append xs ys first rest
steps-append (Lacked lack ∷ xs) ys first rest = steps-append xs ys first rest
steps-append (_ ∷ xs) ys first rest = absurd first

steps_by : {xs ys : List TraceLine} → xs ≡ ys → OnlySteps ys → OnlySteps xs
steps_by is only = subst OnlySteps (sym is) only

steps_none : (lines : List TraceLine) → lines ≡ [] → OnlySteps lines
unfolding OnlySteps
steps_none lines is = subst OnlySteps (sym is) tt

pub steps_same : (s : Seen) (lines : List TraceLine) (c : PortRef) → OnlySteps lines
    → IsSamePort s (seen s lines) c
unfolding OnlySteps
steps_same s [] c only = record { wire = refl; half = refl }
steps_same s (Stepped step ∷ lines) c only = let rest =
    steps_same (seen_line s (Stepped step)) lines c only in
    record { wire = rest.wire; half = rest.half }
steps_same s (Lacked lack ∷ lines) c only = steps_same s lines c only
steps_same s (_ ∷ lines) c only = absurd only

one_step : (step : Step) (rest : List TraceLine) → OnlySteps rest → OnlySteps (Stepped step ∷ rest)
unfolding OnlySteps
one_step step rest only = only

joined_steps : (First : List TraceLine → Type 0) (More : Seen → List TraceLine → Type 0) (s : Seen)
    (lines : List TraceLine) → ((first : List TraceLine) → First first → OnlySteps first)
    → ((t : Seen) (rest : List TraceLine) → More t rest → OnlySteps rest)
    → Joined First More s lines → OnlySteps lines
joined_steps First More s lines one more joined =
    steps_by joined.2 (steps-append joined.0 joined.1 (one joined.0 joined.3)
    (by_found (seen s joined.0).undetected joined.4))
  where
    by_found : (found : Option UndetectedAt)
        → Follows found (More (seen s joined.0)) NamesNothing joined.1
        → OnlySteps joined.1
    by_found None follows = more (seen s joined.0) joined.1 follows
    by_found (Some found) is = steps_none joined.1 is

pub serves_steps : {s : Seen} {node : ℕ} {lines : List TraceLine} → ServesAll s node lines
    → OnlySteps lines
serves_steps {s} {node} {lines} (ServeRests move is) = steps_none lines is
serves_steps {s} {node} {lines} (ServeGoes step rest move is more) =
    steps_by is (one_step (ByDevice step) rest (serves_steps more))

full_steps : OnlySteps (Lacked Full ∷ [])
unfolding OnlySteps
full_steps = tt

pub collects_steps : {s : Seen} {node : ℕ} {lines : List TraceLine} → CollectsAll s node lines
    → OnlySteps lines
collects_steps {s} {node} {lines} (CollectRests move is) = steps_none lines is
collects_steps {s} {node} {lines} (CollectStops move is) = steps_by is full_steps
collects_steps {s} {node} {lines} (CollectGoes step rest move is more) =
    steps_by is (one_step step rest (collects_steps more))

pub serve_steps : (devices : List Registers) (k : ℕ) (s : Seen) (lines : List TraceLine)
    → ServeNodes k devices s lines → OnlySteps lines
serve_steps [] k s lines is = steps_none lines is
serve_steps (device ∷ devices) k s lines is =
    by_test (is_switch device) (λ joined. joined_steps (ServesAll s k) (ServeNodes (suc k) devices)
    s lines (λ first own. serves_steps own)
    (λ t rest more. serve_steps devices (suc k) t rest more) joined)
    (λ more. serve_steps devices (suc k) s lines more) is

collect_steps : (host : ℕ) (devices : List Registers) (k : ℕ) (s : Seen) (lines : List TraceLine)
    → CollectNodes host k devices s lines → OnlySteps lines
collect_steps host [] k s lines is = steps_none lines is
collect_steps host (device ∷ devices) k s lines is =
    by_test (is_switch device || (k == host))
    (λ more. collect_steps host devices (suc k) s lines more)
    (λ joined. joined_steps (CollectsAll s k) (CollectNodes host (suc k) devices) s lines
    (λ first own. collects_steps own)
    (λ t rest more. collect_steps host devices (suc k) t rest more) joined) is

pub handles_steps : (host : ℕ) (s : Seen) (lines : List TraceLine) → Handles host s lines
    → OnlySteps lines
handles_steps host s lines handles =
    joined_steps (λ first. ServeNodes 0 s.network.registers s first)
    (λ t rest. CollectNodes host 0 t.network.registers t rest) s lines
    (λ first own. serve_steps s.network.registers 0 s first own)
    (λ t rest more. collect_steps host t.network.registers 0 t rest more) handles

-- ---- links

apart_from : (a b c : PortRef) → is_end a b c ≡ false → (same_port c a ≡ false)
    × (same_port c b ≡ false)
apart_from a b c away = by_tests (same_port c a) (same_port c b) refl refl away
  where
    by_tests : (x y : Bool) → same_port c a ≡ x → same_port c b ≡ y → (x || y) ≡ false
        → (same_port c a ≡ false) × (same_port c b ≡ false)
    by_tests true y first second is = absurd cc
    by_tests false true first second is = absurd cc
    by_tests false false first second is = (first, second)

-- a port without a link is at none
away_none : (links : List (PortRef × PortRef)) (c : PortRef) → peer_in links c ≡ None
    → AreAway links c
away_none [] c none = tt
away_none (link ∷ links) c none = by_tests (same_port link.0 c) (same_port link.1 c) refl refl none
    (away_none links c)
  where
    by_tests : (x y : Bool) → same_port link.0 c ≡ x → same_port link.1 c ≡ y
        → cond x (Some link.1) (cond y (Some link.0) (peer_in links c)) ≡ None
        → (peer_in links c ≡ None → AreAway links c) → AreAway (link ∷ links) c
    by_tests true y first second is more = absurd cc
    by_tests false true first second is more = absurd cc
    by_tests false false first second is more =
        ((λ i. apart_back link.0 c first i || apart_back link.1 c second i), more is)

module _ (all : List (PortRef × PortRef)) where
  -- a port at none of the links keeps its wire and its half
  away_stays : (links : List (PortRef × PortRef)) (noise left : List Edit) (s : Seen)
      (lines : List TraceLine) (c : PortRef) → IsGood s → s.undetected ≡ None
      → s.network.links ≡ all → AreFound all links → AreAway links c
      → CarryAll links noise left s lines → (seen s lines).undetected ≡ None
      → IsSamePort s (seen s lines) c
  away_stays [] noise left s lines c good none same found away carry still =
      subst (λ l. IsSamePort s (seen s l) c) (sym carry.0) (record { wire = refl; half = refl })
  away_stays (link ∷ links) noise left s lines c good none same found away carry still =
      let first = first_carried all link links noise left s lines good none same found carry still
      in
      let apart = apart_from link.0 link.1 c away.0 in
      let here = first.own.local.others.untouched c apart.0 apart.1 in
      let rest = away_stays links first.mid left (seen s first.parts.first) first.parts.rest c
      first.kept.good first.parts.still first.links found.1 away.1 first.parts.more first.still in
      subst (λ x. IsSamePort s x c) (sym first.parts.after)
      (record { wire = rest.wire ∙ here.wire; half = rest.half ∙ here.half })

  -- all links that have carried are quiet
  carried_quiet : (links : List (PortRef × PortRef)) (noise left : List Edit) (s : Seen)
      (lines : List TraceLine) → IsGood s → s.undetected ≡ None → s.network.links ≡ all
      → AreFound all links → AreProper links
      → CarryAll links noise left s lines → (seen s lines).undetected ≡ None
      → AreQuiet links (seen s lines)
  carried_quiet [] noise left s lines good none same found proper carry still = tt
  carried_quiet (link ∷ links) noise left s lines good none same found proper carry still =
      let first = first_carried all link links noise left s lines good none same found carry still
      in
      let parts = first.parts in
      let good = first.kept.good in
      let t = seen s parts.first in
      let near = away_stays links first.mid left t parts.rest link.0 good parts.still first.links
      found.1 (away_none links link.0 proper.1) parts.more first.still in
      let far = away_stays links first.mid left t parts.rest link.1 good parts.still first.links
      found.1 (away_none links link.1 proper.2) parts.more first.still in
      subst (AreQuiet (link ∷ links)) (sym parts.after) (
        quiet_same t (seen t parts.rest) link.0 link.1 near far (first.own.rests parts.still).quiet,
        carried_quiet links first.mid left t parts.rest good parts.still first.links found.1
            proper.3 parts.more first.still,
      )

-- After a round every link is quiet.
pub round_quiet : (host : ℕ) (noise left : List Edit) (s : Seen) (lines : List TraceLine) → IsGood s
    → s.undetected ≡ None → AskRound host noise left s lines → (seen s lines).undetected ≡ None
    → AreQuiet s.network.links (seen s lines)
round_quiet host noise left s lines good none round still =
    let parts = split (CarryAll s.network.links noise left s) (Handles host) s lines round still in
    let t = seen s parts.first in
    let quiet = carried_quiet s.network.links s.network.links noise left s parts.first good none
    refl (all_found s.network.links good.proper) good.proper parts.own parts.still in
    subst (AreQuiet s.network.links) (sym parts.after)
    (all_same s.network.links t (seen t parts.rest)
    (λ c. steps_same t parts.rest c (handles_steps host t parts.rest parts.more)) quiet)
