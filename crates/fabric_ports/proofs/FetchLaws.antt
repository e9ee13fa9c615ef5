-- Rounds of an ask, one after another, until the host holds a packet.
use Rattle.std.proofs.Common.{◌≡◌, inl, inr, ℕ, zero, suc, ◌+◌, ◌<◌, Bool, true, false, List, [], ◌++◌, Option, Some, None, MatchBool, refl, sym, ap, ◌∙◌, subst, arith, append-nil, append_assoc, Ok, Err}
use Rattle.trace_lines.specs.AddsLaws.{Adds-then}
use Rattle.trace_lines.specs.declared.writer.TraceWriter.{TraceWriter}
use Rattle.rio_chars.specs.declared.edit.Edit.{Edit}
use Rattle.fabric_model.specs.Network.{IsEndpoint}
use Rattle.fabric_trace.specs.Fold.{seen}
use Rattle.fabric_trace.specs.Known.{UndetectedAt, Seen}
use Rattle.trace_lines.specs.Lines.{TraceLine}
use Rattle.fabric_trace.specs.Ready.{IsReady}
use Rattle.fabric_trace.specs.Rounds.{Follows, NamesNothing}
use Rattle.fabric_trace.specs.Served.{IsCollect}
use Rattle.fabric_trace.proofs.Traces.Existing.{ready_on, good_of}
use Rattle.fabric_trace.proofs.Parts.Folding.{seen-append}
use Rattle.fabric_ask.specs.Asks.{AskRound, AskRounds, Unheld, holds_some}
use Rattle.fabric_ask.specs.Travel.{GoesOn as Continues}
use Rattle.fabric_ask.proofs.Beginning.{more_exists}
use Rattle.fabric_ask.proofs.Collecting.{collect_lines_made}
use Rattle.fabric_ask.proofs.Gathering.{stays_endpoint}
use Rattle.fabric_ask.proofs.Uncollected.{round_apart, unheld_apart}
use Rattle.fabric_ports.specs.Carrying.{WithLeft}
use Rattle.fabric_ports.specs.Events.{Did, answer_collected}
use Rattle.fabric_ports.specs.Fetching.{left_of, RoundsLeave}
use Rattle.fabric_ports.specs.Ran.{Kind, Ran}
use Rattle.fabric_ports.specs.Spending.{HasCollected, LastRound, RoundsSpend}
use Rattle.fabric_ports.specs.Standing.{Stands}
use Rattle.fabric_ports.specs.declared.answers.FabricEnd.{FabricEnd}
use Rattle.fabric_ports.specs.declared.answers.FabricEnd.TheVariants.{Undetected, Failed, NoMemory}
use Rattle.fabric_ports.specs.declared.answers.Happened.{Happened}
use Rattle.fabric_ports.specs.declared.fabric.Fabric.{Fabric}
use Rattle.fabric_ports.proofs.LeaveLaws.{leaves_behind, nothing_leaves, left_leaves, did_stands, still_behind}
use Rattle.fabric_ports.proofs.RanLaws.{Both, ran_nothing, both_as, both_nothing, nothing_both, both_assoc, front_on, ran_both, ran_as}
use Rattle.fabric_ports.proofs.RoundLaws.{rounds_left}
use Rattle.fabric_ports.proofs.SettlingLaws.{good_behind}

-- ---- rounds, one after another

-- after a round the host holds none, and more such rounds follow
abbrev Stays : ℕ → ℕ → List Edit → List Edit → Kind
Stays host k noise left t rest = (holds_some host t ≡ false) × Unheld host k noise left t rest

not_held : (host : ℕ) (n : ℕ) (noise : List Edit) (t : Seen) (rest : List TraceLine)
    → holds_some host t ≡ false → AskRounds host n noise t rest
    → Continues host n noise t rest
not_held host n noise t rest held more =
    subst (λ b. MatchBool b (IsCollect t.network host rest) (AskRounds host n noise t rest))
    (sym held) more

pub rounds_behind : (host k m : ℕ) (noise mid : List Edit) (s : Seen) (lines : List TraceLine)
    → s.undetected ≡ None → Both (Unheld host k noise mid) (AskRounds host m mid) s lines
    → AskRounds host (k + m) noise s lines
rounds_behind host zero m noise mid s lines still both =
    let same : m ≡ 0 + m = omega arith in
    let own = nothing_both (AskRounds host m mid) s lines still
    (both.0, both.1, both.2, both.3.0, both.4) in
    subst (λ j. AskRounds host j noise s lines) same
    (subst (λ n. AskRounds host m n s lines) both.3.1 own)
rounds_behind host (suc k) m noise mid s lines still both =
    let same : suc (k + m) ≡ suc k + m = omega arith in
    let left = both.3.0 in
    subst (λ j. AskRounds host j noise s lines) same (
      left,
      both_as (AskRound host noise left) (Both (Stays host k left mid) (AskRounds host m mid))
          (Continues host (k + m) left) s lines
          (λ t rest sent own. not_held host (k + m) left t rest own.3.0
          (rounds_behind host k m left mid t rest sent
          (own.0, own.1, own.2, own.3.1, own.4)))
          (both_assoc (AskRound host noise left) (Stays host k left mid) (AskRounds host m mid) s
          lines (both.0, both.1, both.2, both.3.1, both.4)),
    )

pub unheld_behind : (host k m : ℕ) (noise mid left : List Edit) (s : Seen)
    (lines : List TraceLine) → s.undetected ≡ None
    → Both (Unheld host k noise mid) (Unheld host m mid left) s lines
    → Unheld host (k + m) noise left s lines
unheld_behind host zero m noise mid left s lines still both =
    let same : m ≡ 0 + m = omega arith in
    let own = nothing_both (Unheld host m mid left) s lines still
    (both.0, both.1, both.2, both.3.0, both.4) in
    subst (λ j. Unheld host j noise left s lines) same
    (subst (λ n. Unheld host m n left s lines) both.3.1 own)
unheld_behind host (suc k) m noise mid left s lines still both =
    let same : suc (k + m) ≡ suc k + m = omega arith in
    let one = both.3.0 in
    subst (λ j. Unheld host j noise left s lines) same (
      one,
      both_as (AskRound host noise one) (Both (Stays host k one mid) (Unheld host m mid left))
          (Stays host (k + m) one left) s lines
          (λ t rest sent own. (
            own.3.0,
            unheld_behind host k m one mid left t rest sent
                (own.0, own.1, own.2, own.3.1, own.4),
          ))
          (both_assoc (AskRound host noise one) (Stays host k one mid) (Unheld host m mid left) s
          lines (both.0, both.1, both.2, both.3.1, both.4)),
    )

-- a round after which the host holds a packet, or none
abbrev pub RoundTo : ℕ → Bool → List Edit → List Edit → Kind
RoundTo host held noise left s lines =
    AskRound host noise left s lines × (holds_some host (seen s lines) ≡ held)

unheld_one : (host : ℕ) (noise left : List Edit) (s : Seen) (lines : List TraceLine)
    → (seen s lines).undetected ≡ None → RoundTo host false noise left s lines
    → Unheld host 1 noise left s lines
unheld_one host noise left s lines still round = (
  left,
  (
    lines,
    [],
    sym (append-nil lines),
    round.0,
    subst (λ (f : Option UndetectedAt). Follows f
        (Stays host 0 left left (seen s lines)) NamesNothing [])
        (sym still) (round.1, (refl, refl)),
  ),
)

-- the host holds a packet after a round, and collects it
rounds_held : (host m : ℕ) (noise left : List Edit) (s : Seen) (first rest : List TraceLine)
    → (seen s first).undetected ≡ None → RoundTo host true noise left s first
    → IsCollect (seen s first).network host rest
    → AskRounds host (suc m) noise s (first ++ rest)
rounds_held host m noise left s first rest still round collect = (
  left,
  (
    first,
    rest,
    refl,
    round.0,
    subst (λ (f : Option UndetectedAt). Follows f
        (Continues host m left (seen s first)) NamesNothing rest)
        (sym still)
        (subst (λ b. MatchBool b (IsCollect (seen s first).network host rest)
        (AskRounds host m left (seen s first) rest)) (sym round.1) collect),
  ),
)

last_round : (host : ℕ) (noise left : List Edit) (s : Seen) (first rest : List TraceLine)
    → (seen s first).undetected ≡ None → RoundTo host true noise left s first
    → IsCollect (seen s first).network host rest → LastRound host noise left s (first ++ rest)
last_round host noise left s first rest still round collect = (
  first,
  rest,
  refl,
  round.0,
  subst (λ (f : Option UndetectedAt). Follows f (HasCollected host (seen s first)) NamesNothing
      rest) (sym still) (round.1, collect),
)

-- ---- what follows a round

-- lines behind a round: none if something was found
after_round : (host m : ℕ) (left : List Edit) {t : Seen} (found : Option UndetectedAt) → IsReady t
    → IsEndpoint t.network host → t.undetected ≡ found
    → (rest : List TraceLine) × Follows found (Continues host m left t) NamesNothing rest
after_round host m left {t = t} None ready endpoint is =
    let own = more_exists host m left t ready is endpoint in (own.lines, own.is)
after_round host m left (Some found) ready endpoint is = ([], refl)

-- a round that did not come to its end, and rounds behind it
rounds_on : (host : ℕ) {from : Seen} {lines : List TraceLine} (block : List TraceLine)
    {mid : Fabric} (m : ℕ)
    (noise : List Edit) → Stands from lines mid → IsEndpoint (seen from lines).network host
    → WithLeft (AskRound host noise) (seen from lines) block
    → (more : List TraceLine) × AskRounds host (suc m) noise (seen from lines) (block ++ more)
rounds_on host {from = from} {lines = lines} block m noise stands is round =
    let s = seen from lines in
    let t = seen s block in
    let ready = ready_on stands.ready stands.made in
    let made = (round_apart host noise round.0 s block (good_of ready) stands.sent is
    round.1).made in
    let more = after_round host m round.0 t.undetected (ready_on ready made)
    (stays_endpoint s host block is) refl in
    (more.0, (round.0, (block, more.0, refl, round.1, more.1)))

-- ---- what was written

module _ {K : Type 0} (host : ℕ) where
  -- before the first round
  pub unheld_none : (out : TraceWriter K) {from : Seen} {lines : List TraceLine} {fabric : Fabric}
      (noise : List Edit) → Stands from lines fabric
      → Ran (Unheld host 0 noise noise) out out from lines (Ok fabric)
  unheld_none out noise stands =
      ran_as (λ block none. (none, refl)) (ran_nothing out stands)

  -- one round more after which the host holds none
  pub unheld_more : {a b c : TraceWriter K} {from : Seen} {lines : List TraceLine}
      {old mid new : Fabric} (k : ℕ) (noise left last : List Edit) → Stands from lines old
      → (first : Ran (Unheld host k noise left) a b from lines (Ok mid))
      → (round : Ran (AskRound host left last) b c from (lines ++ first.block) (Ok new))
      → holds_some host (seen from ((lines ++ first.block) ++ round.block)) ≡ false
      → Ran (Unheld host (k + 1) noise last) a c from lines (Ok new)
  unheld_more {b = b} {c = c} {from = from} {lines = lines} {new = new} k noise left last stands
      first round none =
      let t = seen from (lines ++ first.block) in
      let held = sym (ap (holds_some host) (seen-append from (lines ++ first.block) round.block))
      ∙ none in
      let one : Ran (Unheld host 1 left last) b c from (lines ++ first.block) (Ok new) = record {
        block = round.block;
        is = unheld_one host left last t round.block
            (still_behind (lines ++ first.block) round.block round.ends.1) (round.is, held);
        ends = round.ends;
      } in
      ran_as
      (λ block both. unheld_behind host k 1 noise left last (seen from lines) block stands.sent
      both) (ran_both first one)

  -- no round is left
  pub fetched_none : {a b : TraceWriter K} {from : Seen} {lines : List TraceLine} {old new : Fabric}
      (k n : ℕ) (noise left : List Edit) → k ≡ n → Stands from lines old
      → IsEndpoint (seen from lines).network host
      → Ran (Unheld host k noise left) a b from lines (Ok new)
      → Ran (RoundsLeave host n noise left (Ok None)) a b from lines (Ok new)
  fetched_none {from = from} {lines = lines} k n noise left same stands is ran =
      let s = seen from lines in
      let many : k + 0 ≡ n = omega (arith, same) in
      let good = good_behind stands.ready stands.made in
      record {
        block = ran.block;
        is = (
          subst (λ j. AskRounds host j noise s ran.block) many
              (rounds_behind host k 0 noise left s ran.block stands.sent
              (both_nothing (Unheld host k noise left) s ran.block ran.is)),
          (
            nothing_leaves host ran.block
                (unheld_apart host k noise left s ran.block good stands.sent is ran.is).nothing,
            inl (subst (λ j. Unheld host j noise left s ran.block) same ran.is),
          ),
        );
        ends = ran.ends;
      }

  -- the host held a packet after a round, and has collected it
  pub fetched : {a b c d : TraceWriter K} {from : Seen} {lines : List TraceLine}
      {old mid next new : Fabric} (k n : ℕ) (noise left last : List Edit) (happened : Happened)
      → k < n → Stands from lines old → IsEndpoint (seen from lines).network host
      → (first : Ran (Unheld host k noise left) a b from lines (Ok mid))
      → (round : Ran (AskRound host left last) b c from (lines ++ first.block) (Ok next))
      → holds_some host (seen from ((lines ++ first.block) ++ round.block)) ≡ true
      → Did (λ block. IsCollect (seen from ((lines ++ first.block) ++ round.block)).network host
      block × (happened ≡ answer_collected block)) c d
      (seen from ((lines ++ first.block) ++ round.block)) new
      → Ran (RoundsLeave host n noise last (Ok (left_of happened))) a d from lines (Ok new)
  fetched {from = from} {lines = lines} {new = new} k n noise left last happened less stands is
      first round some did =
      let s = seen from lines in
      let here = lines ++ first.block in
      let t = seen from here in
      let t_is : t ≡ seen s first.block = seen-append from lines first.block in
      let there = here ++ round.block in
      let u_is : seen from there ≡ seen t round.block = seen-append from here round.block in
      let count = rounds_left k n less in
      let good = good_behind stands.ready stands.made in
      let t_good = good_behind first.ends.1.ready first.ends.1.made in
      let u_good = good_behind round.ends.1.ready round.ends.1.made in
      let endpoint = subst (λ (x : Seen). IsEndpoint x.network host) (sym t_is)
      (stays_endpoint s host first.block is) in
      let rest = round.block ++ did.block in
      let collect : IsCollect (seen t round.block).network host did.block =
      subst (λ (x : Seen). IsCollect x.network host did.block) u_is did.is.0 in
      let to_it : RoundTo host true left last t round.block =
      (round.is, sym (ap (holds_some host) u_is) ∙ some) in
      let calm = still_behind here round.block round.ends.1 in
      let rounds = rounds_held host count.0 left last t round.block did.block calm to_it collect in
      let ended = last_round host left last t round.block did.block calm to_it collect in
      let all : AskRounds host (k + suc count.0) noise s (first.block ++ rest) =
      rounds_behind host k (suc count.0) noise left s (first.block ++ rest) stands.sent (
        first.block,
        rest,
        refl,
        first.is,
        subst (λ (f : Option UndetectedAt). Follows f (AskRounds host (suc count.0) left
            (seen s first.block)) NamesNothing rest)
            (sym (still_behind lines first.block first.ends.1))
            (subst (λ (x : Seen). AskRounds host (suc count.0) left x rest) t_is rounds),
      ) in
      let spends : RoundsSpend host n noise last s (first.block ++ rest) = inr (
        k,
        left,
        less,
        (
          first.block,
          rest,
          refl,
          first.is,
          subst (λ (f : Option UndetectedAt). Follows f (LastRound host left last
              (seen s first.block)) NamesNothing rest)
              (sym (still_behind lines first.block first.ends.1))
              (subst (λ (x : Seen). LastRound host left last x rest) t_is ended),
        ),
      ) in
      let stays = did_stands round.ends.1 did
      (collect_lines_made (seen from there) host did.block u_good round.ends.1.sent did.is.0) in
      record {
        block = first.block ++ rest;
        is = (
          subst (λ j. AskRounds host j noise s (first.block ++ rest)) count.1 all,
          (
            leaves_behind host (left_of happened) first.block rest
                (nothing_leaves host first.block (unheld_apart host k noise left s first.block good
                stands.sent is first.is).nothing)
                (leaves_behind host (left_of happened) round.block did.block
                (nothing_leaves host round.block (round_apart host left last t round.block t_good
                first.ends.1.sent endpoint round.is).nothing)
                (left_leaves (seen from there).network host did.block happened did.is.0
                did.is.1)),
            spends,
          ),
        );
        ends = (
          Adds-then first.ends.0 (Adds-then round.ends.0 did.adds),
          subst (λ (l : List TraceLine). Stands from l new)
              (append_assoc here round.block did.block
              ∙ append_assoc lines first.block rest) stays,
        );
      }

  round_ends : {b c : TraceWriter K} {from : Seen} {lines : List TraceLine} {mid : Fabric} (m : ℕ)
      (noise : List Edit) (end : FabricEnd) → Stands from lines mid
      → IsEndpoint (seen from lines).network host
      → Ran (WithLeft (AskRound host noise)) b c from lines (Err end)
      → Ran (AskRounds host (suc m) noise) b c from lines (Err end)
  round_ends {from = from} {lines = lines} m noise (Undetected port event) stands is ran =
      let s = seen from lines in
      let found = sym (ap (λ (t : Seen). t.undetected) (seen-append from lines ran.block))
      ∙ ran.ends.1 in
      record {
        block = ran.block;
        is = (
          ran.is.0,
          (
            ran.block,
            [],
            sym (append-nil ran.block),
            ran.is.1,
            subst (λ (f : Option UndetectedAt). Follows f
                (Continues host m ran.is.0 (seen s ran.block)) NamesNothing []) (sym found) refl,
          ),
        );
        ends = ran.ends;
      }
  round_ends m noise Failed stands is ran =
      let rounds = rounds_on host ran.block m noise stands is ran.is in
      record {
        block = ran.block ++ rounds.0;
        is = rounds.1;
        ends = (front_on rounds.0 ran.ends.0, ran.ends.1);
      }
  round_ends m noise NoMemory stands is ran =
      let rounds = rounds_on host ran.block m noise stands is ran.is in
      record {
        block = ran.block ++ rounds.0;
        is = rounds.1;
        ends = front_on rounds.0 ran.ends;
      }

  -- a round did not come to its end
  pub fetch_ends : {a b c : TraceWriter K} {from : Seen} {lines : List TraceLine} {old mid : Fabric}
      (k n : ℕ) (noise left : List Edit) {end : FabricEnd} → k < n → Stands from lines old
      → IsEndpoint (seen from lines).network host
      → (first : Ran (Unheld host k noise left) a b from lines (Ok mid))
      → Ran (WithLeft (AskRound host left)) b c from (lines ++ first.block) (Err end)
      → Ran (RoundsLeave host n noise [] (Err end)) a c from lines (Err end)
  fetch_ends {from = from} {lines = lines} k n noise left {end = end} less stands is first ends =
      let count = rounds_left k n less in
      let endpoint = subst (λ (x : Seen). IsEndpoint x.network host)
      (sym (seen-append from lines first.block))
      (stays_endpoint (seen from lines) host first.block is) in
      ran_as (λ block both. (
        subst (λ j. AskRounds host j noise (seen from lines) block) count.1
            (rounds_behind host k (suc count.0) noise left (seen from lines) block stands.sent
            both),
        tt,
      )) (ran_both first (round_ends count.0 left end first.ends.1 endpoint ends))
