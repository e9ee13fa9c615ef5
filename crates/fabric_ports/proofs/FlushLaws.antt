-- What an ask answers when its lines are written.
use Rattle.std.proofs.Common.{◌≡◌, ◌<◌, ℕ, false, List, [], Option, Result, Ok, Err, IfOk, IfErr, IsErrAnd, refl, sym, subst, append-nil}
use Rattle.std.proofs.KnownBytes.{Appends-nil}
use Rattle.trace_lines.specs.Writing.{Adds}
use Rattle.trace_lines.specs.declared.writer.TraceWriter.{TraceWriter}
use Rattle.rio_chars.specs.Written.{Outgoing, Writes}
use Rattle.rio_chars.proofs.WrittenLaws.{Writes-then, Writes-whole, Writes-front}
use Rattle.trace_lines.specs.Text.{trace_text}
use Rattle.rio_packets.specs.LinkForm.{LinkForm}
use Rattle.maint_packets.specs.Requests.{IsGoodOp, request_body}
use Rattle.maint_packets.specs.declared.request.Request.{Request}
use Rattle.maint_packets.specs.declared.response.Response.{Response}
use Rattle.rio_chars.specs.declared.edit.Edit.{Edit}
use Rattle.fabric_trace.specs.Fold.{seen}
use Rattle.fabric_trace.specs.Known.{Seen}
use Rattle.trace_lines.specs.Lines.{TraceLine}
use Rattle.fabric_trace.proofs.Traces.Existing.{ready_on}
use Rattle.fabric_ask.proofs.Beginning.{ask_exists}
use Rattle.fabric_ports.specs.Asking.{CanAsk, Replied, AskEnds, AskedTextFront}
use Rattle.fabric_ports.specs.Fetching.{ask_answer}
use Rattle.fabric_ports.specs.declared.answers.FabricEnd.{FabricEnd}
use Rattle.fabric_ports.specs.declared.asking.AskEnd.{AskEnd}
use Rattle.fabric_ports.specs.declared.fabric.Fabric.{Fabric}
use Rattle.fabric_ports.proofs.AnswerLaws.{IsSendable, IsTold, IsAnswered, told_answers, told_fails}

-- ---- through an outbox that is flushed

module _ {K : Type 0} {a b : TraceWriter K} {c : Outgoing} {host : ℕ} (request : Request)
    (noise saved : List Edit) {old : Fabric} (new : Fabric)
    (told : Result (Option (List ℕ)) FabricEnd)
    (tells : (from : Seen) (lines : List TraceLine) → CanAsk host from lines old
    → IsTold a b host request noise saved from lines new told)
    (op : IsGoodOp request.op) (prio : request.prio < 4)
    (empty : a.outbox.now.waiting ≡ []) (flushed : Writes b.outbox.now c []) where
  sendable : IsSendable request
  sendable = record { op = op; prio = prio }

  flushed_lines : {block : List TraceLine} → Adds a b block
      → Writes a.outbox.now c (trace_text a.names.now block)
  flushed_lines {block = block} own =
      subst (Writes a.outbox.now c) (append-nil (trace_text a.names.now block))
      (Writes-then _ [] own.writes flushed)

  pub all_told : c.failed ≡ false → c.waiting ≡ [] → (result : Result Response AskEnd)
      → result ≡ ask_answer told → (from : Seen) (lines : List TraceLine)
      → CanAsk host from lines old
      → IsAnswered a.names.now a.outbox.now.written c.written host request noise saved from lines
      old new result
  all_told went none result is from lines can =
      subst
      (IsAnswered a.names.now a.outbox.now.written c.written host request noise saved from lines
      old new)
      (sym is)
      (told_answers a.names.now a.outbox.now.written c.written host request noise saved from lines
      old new a b can sendable told (tells from lines can)
      (λ block own. Writes-whole a.outbox.now c (trace_text a.names.now block) empty
      (flushed_lines own) went none))

  pub front_told : (from : Seen) (lines : List TraceLine) → CanAsk host from lines old
      → AskedTextFront a.names.now a.outbox.now.written c.written host request noise from lines
  front_told from lines can =
      told_fails a.names.now a.outbox.now.written c.written host request noise saved from lines old
      new a b can sendable told (tells from lines can)
      (λ block own. Writes-front a.outbox.now c (trace_text a.names.now block) empty
      (flushed_lines own))

-- ---- by the kind of the answer

module _ (names : List (List ℕ)) (before after : Option (List ℕ)) (host : ℕ) (request : Request)
    (noise saved : List Edit) (old new : Fabric) where
  pub ok_replied : (result : Result Response AskEnd)
      → ((from : Seen) (lines : List TraceLine) → CanAsk host from lines old
      → IsAnswered names before after host request noise saved from lines old new result)
      → IfOk result (λ response. (from : Seen) (lines : List TraceLine)
      → CanAsk host from lines old
      → Replied names before after host request noise saved from lines new response)
  ok_replied (Ok response) is = is
  ok_replied (Err end) is = tt

  pub err_ended : (result : Result Response AskEnd)
      → ((from : Seen) (lines : List TraceLine) → CanAsk host from lines old
      → IsAnswered names before after host request noise saved from lines old new result)
      → IfErr result (λ end. (from : Seen) (lines : List TraceLine)
      → CanAsk host from lines old
      → AskEnds names before after host request noise from lines end)
  err_ended (Ok response) is = tt
  err_ended (Err end) is = is

-- ---- memory was wanted before anything was told

pub nothing_told : {T : Type 0} (names : List (List ℕ)) (written : Option (List ℕ)) (host : ℕ)
    (request : Request) (noise : List Edit) (old : Fabric) (packet : List ℕ)
    (result : Result T AskEnd) → LinkForm (request_body request) packet
    → IsErrAnd result (λ end. end ≡ AskEnd.NoMemory)
    → IfErr result (λ end. (from : Seen) (lines : List TraceLine) → CanAsk host from lines old
    → AskEnds names written written host request noise from lines end)
nothing_told {T} names written host request noise old packet (Ok response) form is = absurd is
nothing_told {T} names written host request noise old packet (Err end) form is =
    subst (λ e. (from : Seen) (lines : List TraceLine) → CanAsk host from lines old
    → AskEnds names written written host request noise from lines e) (sym is) nothing
  where
    nothing : (from : Seen) (lines : List TraceLine) → CanAsk host from lines old
        → AskEnds names written written host request noise from lines AskEnd.NoMemory
    nothing from lines can =
        let own = ask_exists host request noise (seen from lines) packet
        (ready_on can.stands.ready can.stands.made) can.stands.sent can.laid.host_is form in
        record {
          block = own.lines;
          front = [];
          rest = own.lines;
          told = Appends-nil written;
          is = own.is;
          whole = refl;
        }
