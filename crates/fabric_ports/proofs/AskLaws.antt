-- What an ask tells, and how it ends.
use Rattle.std.proofs.Common.{◌≡◌, ℕ, Bool, true, false, List, [], ◌∷◌, ◌++◌, length, Option, Some, None, Result, Ok, refl, sym, ap, ◌∙◌, subst, arith, append-nil, append_assoc, inl, inr, ◌⊎◌, if◌then◌else◌}
use Rattle.trace_lines.specs.declared.writer.TraceWriter.{TraceWriter}
use Rattle.rio_packets.specs.Fields.{prio_of}
use Rattle.rio_packets.specs.LinkForm.{LinkForm, Passes}
use Rattle.rio_packets.proofs.FormLaws.{Passes-from_form}
use Rattle.maint_packets.specs.Requests.{request_body}
use Rattle.maint_packets.specs.declared.request.Request.{Request}
use Rattle.switch_core.specs.EndpointSteps.{collected as collects}
use Rattle.switch_core.specs.declared.endpoint.Collected.{Collected}
use Rattle.switch_core.specs.declared.endpoint.Collected.TheVariants as Collects
use Rattle.rio_chars.specs.declared.edit.Edit.{Edit}
use Rattle.fabric_model.specs.Network.{port_of, room_out, IsEndpoint}
use Rattle.fabric_model.specs.Steps.{Take, Leave, AtNode}
use Rattle.fabric_trace.specs.Blocks.{take_lines, Asks}
use Rattle.fabric_trace.specs.Fold.{seen}
use Rattle.fabric_trace.specs.Known.{UndetectedAt, Seen}
use Rattle.trace_lines.specs.Lines.{Full, TraceLine, Stepped, Lacked}
use Rattle.fabric_trace.specs.Parts.{PartSteps, PartLacks}
use Rattle.fabric_trace.specs.Rounds.{Follows, NamesNothing}
use Rattle.fabric_trace.specs.Served.{face_in, collect_lines, IsCollect}
use Rattle.fabric_trace.proofs.Network.Boards.{seen_board}
use Rattle.fabric_trace.proofs.Parts.Folding.{seen-append}
use Rattle.fabric_trace.proofs.Parts.Keeping.{few_prio, IsGood, made_keeps}
use Rattle.fabric_trace.proofs.Parts.Making.{one_part, made_by}
use Rattle.fabric_ask.specs.Asks.{AskRounds, most_rounds, IsAsk}
use Rattle.fabric_ask.specs.Own.{CollectsNothing}
use Rattle.fabric_ask.specs.Quiet.{AreQuiet}
use Rattle.fabric_ask.proofs.Gathering.{stays_endpoint}
use Rattle.fabric_ask.proofs.Hosting.{one_line}
use Rattle.fabric_ask.proofs.Quieting.{OnlySteps, all_same, steps_same}
use Rattle.fabric_ask.proofs.Uncollected.{IsApart, CollectsLast, apart_then, never_by, nothing_answers, nothing_leaves, rounds_apart}
use Rattle.fabric_ports.specs.Asking.{CanAsk, NeverBefore}
use Rattle.fabric_ports.specs.Events.{Did, answer_taken}
use Rattle.fabric_ports.specs.Fetching.{RoundsLeave, AskLeaves}
use Rattle.fabric_ports.specs.Places.{IsEndpointAt}
use Rattle.fabric_ports.specs.Ran.{Ran, end_with}
use Rattle.fabric_ports.specs.Spending.{RoundsSpend}
use Rattle.fabric_ports.specs.declared.answers.FabricEnd.{FabricEnd}
use Rattle.fabric_ports.specs.declared.answers.Happened.{Happened}
use Rattle.fabric_ports.specs.declared.fabric.Fabric.{Fabric}
use Rattle.fabric_ports.proofs.LeaveLaws.{leaves_behind, nothing_leaves as none_of, did_stands}
use Rattle.fabric_ports.proofs.RanLaws.{if_ok, ran_joined}

-- ---- the request is taken

-- what is known of the lines where a packet is to be taken
record IsTaking (host : ℕ) (s : Seen) (lines : List TraceLine) : Type 0 where
  apart : IsApart host s lines
  same : (seen s lines).undetected ≡ s.undetected

taking : (host : ℕ) (s : Seen) (packet : List ℕ) (lines : List TraceLine)
    → IsEndpoint s.network host → Passes packet → lines ≡ take_lines s host packet
    → IsTaking host s lines
taking host s packet lines endpoint passes is =
    by_room (room_out s.network (port_of host) (prio_of packet)) refl
  where
    by_room : (room : Bool) → room_out s.network (port_of host) (prio_of packet) ≡ room
        → IsTaking host s lines
    by_room true room =
        let same : lines ≡ Stepped (AtNode (Take host packet)) ∷ [] =
        is ∙ ap (λ r. if r then Stepped (AtNode (Take host packet)) ∷ [] else Lacked Full ∷ []) room
        in
        record {
          apart = record {
            nothing = never_by host same (tt, tt);
            made = made_by same (one_part
                (PartSteps (Take host packet) (endpoint, passes, room) (few_prio packet passes)
                refl));
          };
          same = ap (λ (l : List TraceLine). (seen s l).undetected) same;
        }
    by_room false room =
        let same : lines ≡ Lacked Full ∷ [] =
        is ∙ ap (λ r. if r then Stepped (AtNode (Take host packet)) ∷ [] else Lacked Full ∷ []) room
        in
        record {
          apart = record {
            nothing = never_by host same (tt, tt);
            made = made_by same (one_part (PartLacks Full refl));
          };
          same = ap (λ (l : List TraceLine). (seen s l).undetected) same;
        }

asking : (host : ℕ) (s : Seen) (request : Request) (lines : List TraceLine)
    → Asks s host request lines → IsTaking host s lines
asking host s request lines asks = taking host s asks.packet lines asks.endpoint
    (Passes-from_form (request_body request) asks.packet asks.form) asks.lines

-- a host that may ask is an endpoint
pub host_is : {host : ℕ} {from : Seen} {lines : List TraceLine} {fabric : Fabric}
    → CanAsk host from lines fabric → IsEndpoint (seen from lines).network host
host_is {host} can = can.laid.host_is

pub host_at : {host : ℕ} {from : Seen} {lines : List TraceLine} {fabric : Fabric}
    → CanAsk host from lines fabric → IsEndpointAt fabric.devices.items host
host_at {host} can = can.stands.shows.endpoints host (host_is can)

module _ {K : Type 0} (host : ℕ) (request : Request) where
  -- the request is taken, and nothing else
  pub asked : {a b : TraceWriter K} {from : Seen} {lines : List TraceLine} {old new : Fabric}
      (packet : List ℕ) (happened : Happened) → CanAsk host from lines old
      → LinkForm (request_body request) packet
      → Did (λ block. (block ≡ take_lines (seen from lines) host packet)
      × (happened ≡ answer_taken block)) a b (seen from lines) new
      → Ran (λ s block. Asks s host request block) a b from lines (Ok new)
  asked {from = from} {lines = lines} packet happened can form did =
      let s = seen from lines in
      let own = taking host s packet did.block (host_is can)
      (Passes-from_form (request_body request) packet form) did.is.0 in
      record {
        block = did.block;
        is = record {
          packet = packet;
          endpoint = host_is can;
          form = form;
          lines = did.is.0;
        };
        ends = (did.adds, did_stands can.stands did own.apart.made);
      }

  -- and then the rounds are made
  pub asked_whole : (noise saved : List Edit) {a b c : TraceWriter K} {from : Seen}
      {lines : List TraceLine} {mid : Fabric} (new : Fabric)
      (told : Result (Option (List ℕ)) FabricEnd)
      → (first : Ran (λ s block. Asks s host request block) a b from lines (Ok mid))
      → Ran (RoundsLeave host most_rounds noise saved told) b c from (lines ++ first.block)
      (end_with new told)
      → Ran (AskLeaves host request noise saved told) a c from lines (end_with new told)
  asked_whole noise saved {from = from} {lines = lines} new told first second =
      ran_joined (λ x y own still more. (
        (
          x,
          y,
          refl,
          own,
          subst (λ (f : Option UndetectedAt). Follows f
              (AskRounds host most_rounds noise (seen (seen from lines) x)) NamesNothing y)
              (sym still)
              more.0,
        ),
        if_ok told (λ packet ends. (
          leaves_behind host packet x y
              (none_of host x (asking host (seen from lines) request x own).apart.nothing) ends.0,
          (
            x,
            y,
            refl,
            own,
            subst (λ (f : Option UndetectedAt). Follows f
                (RoundsSpend host most_rounds noise saved (seen (seen from lines) x)) NamesNothing
                y) (sym still) ends.1,
          ),
        )) more.1,
      ))
      first second

-- ---- what is known of the lines of an ask

-- The host collects nothing, or the last line alone, behind which nothing was found.
pub record LastOf (host : ℕ) (s : Seen) (lines : List TraceLine) : Type 0 where
  pub front : List TraceLine
  pub last : List TraceLine
  pub whole : lines ≡ front ++ last
  pub apart : IsApart host s front
  pub quiet : AreQuiet s.network.links (seen s front)
  pub still : (seen s front).undetected ≡ None
  pub collect : IsCollect (seen s front).network host last

-- lines that the host collects change no wire and no half, and nothing is found in them
collect_steps : (host : ℕ) (told : Collected) → OnlySteps (collect_lines host told)
unfolding OnlySteps
collect_steps host (Collects.Left packet) = tt
collect_steps host (Collects.Answered request response) = tt
collect_steps host Collects.Empty = tt
collect_steps host Collects.Full = tt

collect_calm : (host : ℕ) (t : Seen) (told : Collected)
    → (seen t (collect_lines host told)).undetected ≡ t.undetected
collect_calm host t (Collects.Left packet) = refl
collect_calm host t (Collects.Answered request response) = refl
collect_calm host t Collects.Empty = refl
collect_calm host t Collects.Full = refl

last_calm : (host : ℕ) (s : Seen) (lines : List TraceLine) → LastOf host s lines
    → (seen s lines).undetected ≡ None
last_calm host s lines own =
    ap (λ (l : List TraceLine). (seen s l).undetected) own.whole
    ∙ ap (λ (t : Seen). t.undetected) (seen-append s own.front own.last)
    ∙ ap (λ (l : List TraceLine). (seen (seen s own.front) l).undetected) own.collect.lines
    ∙ collect_calm host (seen s own.front) _ ∙ own.still

-- the links stay at rest while the host collects
last_quiet : (host : ℕ) (s : Seen) (lines : List TraceLine) → LastOf host s lines
    → AreQuiet (seen s lines).network.links (seen s lines)
last_quiet host s lines own =
    let t = seen s own.front in
    let only : OnlySteps own.last = subst OnlySteps (sym own.collect.lines)
    (collect_steps host (collects own.collect.device (face_in t.network (port_of host)))) in
    let whole : seen s lines ≡ seen t own.last =
    ap (seen s) own.whole ∙ seen-append s own.front own.last in
    let same = all_same s.network.links t (seen t own.last)
    (λ c. steps_same t own.last c only) own.quiet in
    subst (λ l. AreQuiet l (seen s lines)) (sym (seen_board lines s).links)
    (subst (AreQuiet s.network.links) (sym whole) same)

module _ (host : ℕ) (request : Request) (noise : List Edit) (s : Seen) (lines : List TraceLine)
    (good : IsGood s) (none : s.undetected ≡ None) (ask : IsAsk host request noise s lines) where
  abbrev first : List TraceLine
  first = ask.0

  abbrev rest : List TraceLine
  rest = ask.1

  own : IsTaking host s first
  own = asking host s request first ask.3

  behind : Seen
  behind = seen s first

  -- the lines behind the first, which took the request
  more : AskRounds host most_rounds noise (seen s first) rest
  more = subst (λ (f : Option UndetectedAt). Follows f
      (AskRounds host most_rounds noise (seen s first)) NamesNothing rest)
      (own.same ∙ none) ask.4

  last_of : IsApart host (seen s first) rest ⊎ CollectsLast host (seen s first) rest
      → IsApart host s lines ⊎ LastOf host s lines
  last_of (inl apart) = inl (apart_then host s first rest lines ask.2 own.apart apart)
  last_of (inr last) =
      let joined = seen-append s first last.front in
      inr (record {
        front = first ++ last.front;
        last = last.last;
        whole = ask.2 ∙ ap (λ (l : List TraceLine). first ++ l) last.whole
            ∙ sym (append_assoc first last.front last.last);
        apart = apart_then host s first last.front (first ++ last.front) refl own.apart last.apart;
        quiet = subst (AreQuiet s.network.links) (sym joined)
            (subst (λ l. AreQuiet l (seen (seen s first) last.front)) (seen_board first s).links
            last.quiet);
        still = ap (λ (x : Seen). x.undetected) joined ∙ last.still;
        collect = subst (λ (x : Seen). IsCollect x.network host last.last) (sym joined)
            last.collect;
      })

  pub ask_last : IsApart host s lines ⊎ LastOf host s lines
  ask_last = last_of (rounds_apart host most_rounds noise (seen s first) rest
      (made_keeps good own.apart.made).good (own.same ∙ none)
      (stays_endpoint s host first ask.3.endpoint) more)

  -- the host's registers answer nothing before the last line
  pub ask_before : NeverBefore host lines
  ask_before = by_last ask_last
    where
      by_last : IsApart host s lines ⊎ LastOf host s lines → NeverBefore host lines
      by_last (inl apart) = record {
        front = lines;
        last = [];
        whole = sym (append-nil lines);
        one = omega arith;
        own = nothing_answers host lines apart.nothing;
      }
      by_last (inr at) =
          let made = one_line host
          (collects at.collect.device (face_in (seen s at.front).network (port_of host))) in
          let one = ap (λ (l : List TraceLine). length l) (at.collect.lines ∙ made.1) in
          record {
            front = at.front;
            last = at.last;
            whole = at.whole;
            one = omega (arith, one);
            own = nothing_answers host at.front at.apart.nothing;
          }

  -- and none at all where an event was found that was not sent
  pub ask_found : (found : UndetectedAt) → (seen s lines).undetected ≡ Some found
      → IsApart host s lines
  ask_found found is = by_last ask_last
    where
      by_last : IsApart host s lines ⊎ LastOf host s lines → IsApart host s lines
      by_last (inl apart) = apart
      by_last (inr at) =
          let bad : None ≡ Some found = sym (last_calm host s lines at) ∙ is in absurd cc

  -- the links are at rest where a packet leaves at the host in the end
  pub ask_quiet : (front : List TraceLine) (packet : List ℕ)
      → lines ≡ front ++ Stepped (AtNode (Leave host packet)) ∷ []
      → AreQuiet (seen s lines).network.links (seen s lines)
  ask_quiet front packet whole = by_last ask_last
    where
      by_last : IsApart host s lines ⊎ LastOf host s lines
          → AreQuiet (seen s lines).network.links (seen s lines)
      by_last (inl apart) = absurd (nothing_leaves host front packet
          (subst (CollectsNothing host) whole apart.nothing))
      by_last (inr at) = last_quiet host s lines at
