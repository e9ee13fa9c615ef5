-- What is said of an ask by what was told of it.
use Rattle.std.proofs.Common.{◌≡◌, ℕ, ◌<◌, List, [], ◌∷◌, ◌++◌, Option, Some, None, Result, Ok, Err, refl, sym, ap, ◌∙◌, subst, append-nil, append_assoc}
use Rattle.std.proofs.lemmas.Grind.{flat_map-append}
use Rattle.std.proofs.lemmas.List.{same_from_push}
use Rattle.std.specs.Io.KnownBytes.{Appends}
use Rattle.rio_chars.specs.Fronts.{AppendsFront}
use Rattle.trace_lines.specs.Writing.{Adds}
use Rattle.trace_lines.specs.declared.writer.TraceWriter.{TraceWriter}
use Rattle.rio_packets.specs.LinkForm.{LinkForm}
use Rattle.rio_packets.proofs.FormLaws.{Passes-from_form}
use Rattle.maint_packets.specs.Requests.{IsGoodOp, request_of, request_body}
use Rattle.maint_packets.specs.Responses.{response_of}
use Rattle.maint_packets.specs.declared.request.Request.{Request}
use Rattle.maint_packets.specs.declared.response.Response.{Response}
use Rattle.maint_packets.proofs.RequestLaws.{read_back}
use Rattle.rio_chars.specs.declared.edit.Edit.{Edit}
use Rattle.fabric_script.specs.declared.ports.PortRef.{PortRef}
use Rattle.fabric_model.specs.Steps.{Leave, AtNode}
use Rattle.fabric_trace.specs.Fold.{seen}
use Rattle.fabric_trace.specs.Known.{Seen}
use Rattle.trace_lines.specs.Lines.{TraceLine, Stepped}
use Rattle.trace_lines.specs.Text.{trace_text}
use Rattle.fabric_trace.proofs.Network.Boards.{seen_board}
use Rattle.fabric_trace.proofs.Traces.Existing.{ready_on}
use Rattle.fabric_trace.proofs.Parts.Folding.{seen-append}
use Rattle.fabric_trace.proofs.Parts.Making.{made-append}
use Rattle.fabric_ask.specs.Answered.{IsReplied, response_home, after_request}
use Rattle.fabric_ask.specs.Asks.{IsAsk}
use Rattle.fabric_ask.specs.Course.{IsLaid}
use Rattle.fabric_ask.specs.Only.{IsClear}
use Rattle.fabric_ask.specs.Own.{NeverAnswers}
use Rattle.fabric_ask.specs.Quiet.{AreQuiet}
use Rattle.fabric_ask.proofs.Answering.{is_replied, goes_there}
use Rattle.fabric_ask.proofs.OnWay.{on_request, hop_low}
use Rattle.fabric_ask.proofs.Laying.{laid_heard}
use Rattle.fabric_ask.proofs.Uncollected.{nothing_answers, answers-append}
use Rattle.fabric_ports.specs.Asking.{CanAsk, Returns, Replied, AskEnds, AskedTextFront}
use Rattle.fabric_ports.specs.Fetching.{NoneLeaves, AskLeaves, response_or_end, response_in, ask_answer}
use Rattle.fabric_ports.specs.Ran.{AddsFront, Ran, end_with}
use Rattle.fabric_ports.specs.declared.answers.FabricEnd.{FabricEnd}
use Rattle.fabric_ports.specs.declared.answers.FabricEnd.TheVariants as Ends
use Rattle.fabric_ports.specs.declared.asking.AskEnd.{AskEnd}
use Rattle.fabric_ports.specs.declared.fabric.Fabric.{Fabric}
use Rattle.fabric_ports.proofs.AskLaws.{ask_before, ask_found, ask_quiet}
use Rattle.fabric_ports.proofs.LeaveLaws.{never_last, still_behind}
use Rattle.fabric_ports.proofs.SettlingLaws.{good_behind}

-- what a request needs that is to be sent
pub record IsSendable (request : Request) : Type 0 where
  pub op : IsGoodOp request.op
  pub prio : request.prio < 4

read : {request : Request} (packet : List ℕ) → IsSendable request
    → LinkForm (request_body request) packet → request_of packet ≡ Some request
read {request = request} packet sendable form = read_back request packet sendable.prio sendable.op
    form

-- its hop count is a byte of its packet
low_hop : {request : Request} (packet : List ℕ) → IsSendable request
    → LinkForm (request_body request) packet → request.hop < 256
low_hop {request = request} packet sendable form =
    hop_low packet request.dest request.hop (on_request packet request
    (Passes-from_form (request_body request) packet form) (read packet sendable form))

-- what was told of an ask, by what left at the host or why it ended
abbrev pub IsTold : {K : Type 0} → TraceWriter K → TraceWriter K → ℕ → Request → List Edit
    → List Edit → Seen → List TraceLine → Fabric → Result (Option (List ℕ)) FabricEnd → Type 0
IsTold a b host request noise saved from lines new told =
    Ran (AskLeaves host request noise saved told) a b from lines (end_with new told)

module _ {K : Type 0} {a b : TraceWriter K} (host : ℕ) (request : Request)
    (noise saved : List Edit) (new : Fabric) where
  -- some lines were told
  pub told_lines : (told : Result (Option (List ℕ)) FabricEnd) {from : Seen}
      {lines : List TraceLine} → IsTold a b host request noise saved from lines new told
      → (block : List TraceLine) × Adds a b block
  told_lines (Ok left) ran = (ran.block, ran.ends.0)
  told_lines (Err (Ends.Undetected port event)) ran = (ran.block, ran.ends.0)
  told_lines (Err Ends.Failed) ran = (ran.ends.0.front, ran.ends.0.adds)
  told_lines (Err Ends.NoMemory) ran = (ran.ends.front, ran.ends.adds)

  -- the lines go to the outbox of before
  pub told_same : (told : Result (Option (List ℕ)) FabricEnd) {old : Fabric}
      → ((from : Seen) (lines : List TraceLine) → CanAsk host from lines old
      → IsTold a b host request noise saved from lines new told)
      → (from : Seen) × (lines : List TraceLine) × CanAsk host from lines old
      → b.outbox.ghost_name ≡ a.outbox.ghost_name
  told_same told tells can = (told_lines told (tells can.0 can.1 can.2)).1.same

module _ (names : List (List ℕ)) (before after : Option (List ℕ)) (host : ℕ) (request : Request)
    (noise saved : List Edit) (from : Seen) (lines : List TraceLine) (old new : Fabric) where
  -- an ask ended so
  abbrev pub IsAnswered : Result Response AskEnd → Type 0
  IsAnswered (Ok response) =
      Replied names before after host request noise saved from lines new response
  IsAnswered (Err end) = AskEnds names before after host request noise from lines end

  module _ {K : Type 0} (a b : TraceWriter K)
      (can : CanAsk host from lines old) (sendable : IsSendable request) where
    abbrev s : Seen
    s = seen from lines

    reads : (packet : List ℕ) → LinkForm (request_body request) packet
        → request_of packet ≡ Some request
    reads packet form = read packet sendable form

    module _ (left : Option (List ℕ))
        (ran : IsTold a b host request noise saved from lines new (Ok left))
        (told : Appends before after (trace_text names ran.block)) where
      abbrev block : List TraceLine
      block = ran.block

      ask : IsAsk host request noise (seen from lines) ran.block
      ask = ran.is.0

      low : request.hop < 256
      low = low_hop ran.is.0.3.packet sendable ran.is.0.3.form

      still : (seen (seen from lines) ran.block).undetected ≡ None
      still = still_behind lines ran.block ran.ends.1

      there : (at : PortRef) → Returns (seen from lines).network host request at
          → IsReplied host (seen from lines) ran.block at request
      there at trip = is_replied host request noise (seen from lines) ran.block
          (good_behind can.stands.ready can.stands.made) can.stands.sent can.clear can.laid
          (ready_on can.stands.ready can.stands.made).formed.registers low reads ask still
          at trip

      -- no packet left
      nothing_came : NoneLeaves host ran.block
          → AskEnds names before after host request noise from lines AskEnd.Unanswered
      nothing_came stays = record {
        block = ran.block;
        told = told;
        is = ask;
        sent = ran.ends.1.sent;
        lost = λ at trip.
            let replied = there at trip in
            never_last host replied.front replied.packet
            (subst (NoneLeaves host) replied.whole stays);
        own = ask_before host request noise (seen from lines) ran.block
            (good_behind can.stands.ready can.stands.made) can.stands.sent ask;
      }

      -- a packet left, and so the response
      module _ (packet : List ℕ) (front : List TraceLine)
          (whole : ran.block ≡ front ++ Stepped (AtNode (Leave host packet)) ∷ []) where
        trip : (at : PortRef) × Returns (seen from lines).network host request at
        trip = goes_there host request noise (seen from lines) ran.block
            (good_behind can.stands.ready can.stands.made) can.stands.sent can.clear can.laid
            (ready_on can.stands.ready can.stands.made).formed.registers low reads ask
            still front packet whole

        replied : IsReplied host (seen from lines) ran.block trip.0 request
        replied = there trip.0 trip.1

        packet_is : packet ≡ replied.packet
        packet_is =
            let same = (same_from_push front replied.front
            (Stepped (AtNode (Leave host packet)))
            (Stepped (AtNode (Leave host replied.packet))) (sym whole ∙ replied.whole)).1 in cc

        abbrev home : Response
        home = response_home (seen from lines).network.registers (seen from lines).network.links
            host request trip.0

        response_is : response_of packet ≡ Some home
        response_is = ap response_of packet_is ∙ replied.response

        joined : seen from (lines ++ ran.block) ≡ seen (seen from lines) ran.block
        joined = seen-append from lines ran.block

        registers : (seen from (lines ++ ran.block)).network.registers
            ≡ after_request (seen from lines).network.registers trip.0 request
        registers = ap (λ (x : Seen). x.network.registers) joined ∙ replied.registers

        links : (seen from (lines ++ ran.block)).network.links ≡ (seen from lines).network.links
        links = ap (λ (x : Seen). x.network.links) joined
            ∙ (seen_board ran.block (seen from lines)).links

        laid : IsLaid (seen from (lines ++ ran.block)).network.registers
            (seen from (lines ++ ran.block)).network.links host
        laid = subst (λ r. IsLaid r (seen from (lines ++ ran.block)).network.links host)
            (sym registers)
            (subst (λ l. IsLaid
            (after_request (seen from lines).network.registers trip.0 request) l host) (sym links)
            (laid_heard (seen from lines).network.registers (seen from lines).network.links host
            trip.0 request can.laid))

        response_came : Replied names before after host request noise saved from lines new home
        response_came = record {
          block = ran.block;
          told = told;
          is = ask;
          spends = ran.is.1.1;
          again = record {
            stands = ran.ends.1;
            clear = subst (λ (x : Seen). IsClear x.network) (sym joined) replied.clear;
            laid = laid;
          };
          quiet = subst (λ (x : Seen). AreQuiet x.network.links x) (sym joined)
              (ask_quiet host request noise (seen from lines) ran.block
              (good_behind can.stands.ready can.stands.made) can.stands.sent ask front packet
              whole);
          at = trip.0;
          trip = trip.1;
          response_is = refl;
          registers = registers;
          links = links;
          own = subst (NeverAnswers host) (sym replied.whole)
              (answers-append host replied.front
              (Stepped (AtNode (Leave host replied.packet)) ∷ [])
              (nothing_answers host replied.front replied.nothing) (tt, tt));
        }

        pub came : IsAnswered (response_or_end (response_of packet))
        came = subst (λ o. IsAnswered (response_or_end o)) (sym response_is) response_came

    -- the lines were told whole
    told_whole : (left : Option (List ℕ))
        → (ran : IsTold a b host request noise saved from lines new (Ok left))
        → Appends before after (trace_text names ran.block)
        → IsAnswered (response_or_end (response_in left))
    told_whole None ran told = nothing_came None ran told ran.is.1.0
    told_whole (Some packet) ran told =
        came (Some packet) ran told packet ran.is.1.0.0 ran.is.1.0.1

    front_more : (front rest : List TraceLine)
        → AppendsFront before after (trace_text names front)
        → AppendsFront before after (trace_text names (front ++ rest))
    front_more front rest told = record {
      front = told.front;
      rest = told.rest ++ trace_text names rest;
      whole = flat_map-append _ front rest
          ∙ ap (λ (l : List ℕ). l ++ trace_text names rest) told.whole
          ∙ append_assoc told.front told.rest (trace_text names rest);
      told = told.told;
    }

    -- the first lines were told, and a front of their text was written
    told_short : {block : List TraceLine} → IsAsk host request noise (seen from lines) block
        → (short : AddsFront a b block)
        → AppendsFront before after (trace_text names short.front)
        → AskedTextFront names before after host request noise from lines
    told_short {block = block} is short front = record {
      block = block;
      told = subst (λ (l : List TraceLine). AppendsFront before after (trace_text names l))
          (sym short.whole) (front_more short.front short.rest front);
      is = is;
    }

    -- all that was told was written
    pub told_answers : (told : Result (Option (List ℕ)) FabricEnd)
        → IsTold a b host request noise saved from lines new told
        → ((block : List TraceLine) → Adds a b block
        → Appends before after (trace_text names block))
        → IsAnswered (ask_answer told)
    told_answers (Ok left) ran whole =
        told_whole left ran (whole ran.block ran.ends.0)
    told_answers (Err (Ends.Undetected port event)) ran whole =
        let found = sym (ap (λ (t : Seen). t.undetected) (seen-append from lines ran.block))
        ∙ ran.ends.1 in
        let apart = ask_found host request noise (seen from lines) ran.block
        (good_behind can.stands.ready can.stands.made) can.stands.sent ran.is.0
        (record { port = port; event = event }) found in
        record {
          block = ran.block;
          told = whole ran.block ran.ends.0;
          is = ran.is.0;
          made = made-append can.stands.made apart.made;
          found = ran.ends.1;
          own = nothing_answers host ran.block apart.nothing;
        }
    told_answers (Err Ends.Failed) ran whole =
        told_short ran.is.0 ran.ends.0 (record {
          front = trace_text names ran.ends.0.front;
          rest = [];
          whole = sym (append-nil _);
          told = whole ran.ends.0.front ran.ends.0.adds;
        })
    told_answers (Err Ends.NoMemory) ran whole = record {
      block = ran.block;
      front = ran.ends.front;
      rest = ran.ends.rest;
      told = whole ran.ends.front ran.ends.adds;
      is = ran.is.0;
      whole = ran.ends.whole;
    }

    -- a write failed
    pub told_fails : (told : Result (Option (List ℕ)) FabricEnd)
        → IsTold a b host request noise saved from lines new told
        → ((block : List TraceLine) → Adds a b block
        → AppendsFront before after (trace_text names block))
        → AskedTextFront names before after host request noise from lines
    told_fails (Ok left) ran front = record {
      block = ran.block;
      told = front ran.block ran.ends.0;
      is = ran.is.0;
    }
    told_fails (Err (Ends.Undetected port event)) ran front = record {
      block = ran.block;
      told = front ran.block ran.ends.0;
      is = ran.is.0;
    }
    told_fails (Err Ends.Failed) ran front =
        told_short ran.is.0 ran.ends.0 (front ran.ends.0.front ran.ends.0.adds)
    told_fails (Err Ends.NoMemory) ran front =
        told_short ran.is.0 ran.ends (front ran.ends.front ran.ends.adds)
