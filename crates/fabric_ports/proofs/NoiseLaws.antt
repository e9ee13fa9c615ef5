-- Asks of one fabric that differ in noise have one response.
use Rattle.std.proofs.Common.{◌≡◌, ℕ, List, sym, ap, ◌∙◌, subst}
use Rattle.std.proofs.lemmas.Option.{same_Some}
use Rattle.maint_registers.specs.Devices.{Registers}
use Rattle.maint_packets.specs.declared.request.Request.{Request}
use Rattle.fabric_script.specs.declared.ports.PortRef.{PortRef}
use Rattle.fabric_trace.specs.Fold.{seen}
use Rattle.fabric_trace.specs.Known.{Seen}
use Rattle.trace_lines.specs.Lines.{TraceLine}
use Rattle.fabric_ask.specs.Answered.{IsRoundTrip, after_request, response_home}
use Rattle.fabric_ports.specs.Asking.{CanAsk, Returns}
use Rattle.fabric_ports.specs.Responses.{ResponsesAreOne, ResponsesStay}
use Rattle.fabric_ports.specs.declared.fabric.Fabric.{Fabric}

module _ (host : ℕ) (request : Request) (fabric : Fabric) (from from2 : Seen)
    (lines lines2 : List TraceLine) (can : CanAsk host from lines fabric)
    (can2 : CanAsk host from2 lines2 fabric) where
  pub same_registers : (seen from lines).network.registers ≡ (seen from2 lines2).network.registers
  same_registers = can.stands.shows.registers ∙ sym can2.stands.shows.registers

  pub same_links : (seen from lines).network.links ≡ (seen from2 lines2).network.links
  same_links = sym can.stands.shows.links ∙ can2.stands.shows.links

  pub trip_too : (at : PortRef) → Returns (seen from lines).network host request at
      → Returns (seen from2 lines2).network host request at
  trip_too at trip =
      subst (λ registers. IsRoundTrip registers (seen from2 lines2).network.links host request at)
      same_registers
      (subst (λ links. IsRoundTrip (seen from lines).network.registers links host request at)
      same_links trip)

  pub one_port : (at other : PortRef) → Returns (seen from lines).network host request at
      → Returns (seen from2 lines2).network host request other → at ≡ other
  one_port at other trip trip2 = same_Some at other (sym (trip_too at trip).ends ∙ trip2.ends)

pub responses_are_one : ResponsesAreOne
responses_are_one noise noise2 host request old new new2 response response2 one two =
    let s = seen one.from one.lines in
    let t = seen two.from two.lines in
    let a = one.replied in
    let b = two.replied in
    let registers = same_registers host request old one.from two.from one.lines two.lines one.can
    two.can in
    let links = same_links host request old one.from two.from one.lines two.lines one.can two.can
    in
    let port = one_port host request old one.from two.from one.lines two.lines one.can two.can a.at
    b.at a.trip b.trip in (
      a.response_is
          ∙ ap (λ (r : List Registers). response_home r s.network.links host request a.at)
          registers
          ∙ ap (λ (l : List (PortRef × PortRef)). response_home t.network.registers l host request
          a.at) links
          ∙ ap (λ (p : PortRef). response_home t.network.registers t.network.links host request p)
          port ∙ sym b.response_is,
      sym a.again.stands.shows.registers ∙ a.registers
          ∙ ap (λ (r : List Registers). after_request r a.at request) registers
          ∙ ap (λ (p : PortRef). after_request t.network.registers p request) port
          ∙ sym b.registers ∙ b.again.stands.shows.registers,
    )

pub responses_stay : ResponsesStay
responses_stay noise noise2 host request old new response one none =
    none.lost.lost one.replied.at (trip_too host request old one.from none.from one.lines
    none.lines one.can none.can one.replied.at one.replied.trip)
