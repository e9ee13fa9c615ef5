-- What leaves at a host, and for which lines a fabric stands behind a call.
use Rattle.std.proofs.Common.{◌≡◌, ℕ, ◌<◌, List, [], ◌∷◌, ◌++◌, Option, Some, None, option_map, slice_get, length, ◌≤◌, refl, sym, ap, ◌∙◌, subst, arith, append_assoc}
use Rattle.std.proofs.lemmas.Option.{slice_get_within}
use Rattle.trace_lines.specs.declared.writer.TraceWriter.{TraceWriter}
use Rattle.maint_registers.specs.Devices.{Registers, is_switch}
use Rattle.switch_core.specs.declared.endpoint.Collected.{Collected}
use Rattle.switch_core.specs.declared.endpoint.Collected.TheVariants as Collects
use Rattle.switch_core.specs.EndpointSteps.{collected}
use Rattle.fabric_model.specs.Network.{Network, port_of, IsEndpoint}
use Rattle.fabric_model.specs.Steps.{Leave, AtNode, Linked, ByDevice, Take}
use Rattle.fabric_trace.specs.Fold.{seen}
use Rattle.fabric_trace.specs.Known.{Seen}
use Rattle.trace_lines.specs.Lines.{TraceLine, Begun, Stepped, Signed, Lacked, Ended, Undetected as UndetectedLine}
use Rattle.fabric_trace.specs.Parts.{Made}
use Rattle.fabric_trace.specs.Served.{face_in, collect_lines, IsCollect}
use Rattle.fabric_trace.proofs.Parts.Folding.{seen-append}
use Rattle.fabric_ask.specs.Own.{IsElsewhere, CollectsNothing}
use Rattle.fabric_ports.specs.Events.{Did, answer_collected}
use Rattle.fabric_ports.specs.Fetching.{left_of, NoLeave, NoneLeaves, Leaves}
use Rattle.fabric_ports.specs.Places.{IsEndpointAt}
use Rattle.fabric_ports.specs.Standing.{Stands}
use Rattle.fabric_ports.specs.declared.answers.Happened.{Happened}
use Rattle.fabric_ports.specs.declared.fabric.Fabric.{Fabric}
use Rattle.fabric_ports.proofs.StandLaws.{stands_with}

-- ---- what leaves

pub none-append : (host : ℕ) (xs ys : List TraceLine) → NoneLeaves host xs → NoneLeaves host ys
    → NoneLeaves host (xs ++ ys)
none-append host [] ys first rest = rest
none-append host (x ∷ xs) ys first rest = (first.0, none-append host xs ys first.1 rest)

pub leaves_behind : (host : ℕ) (left : Option (List ℕ)) (xs ys : List TraceLine)
    → NoneLeaves host xs → Leaves host left ys → Leaves host left (xs ++ ys)
leaves_behind host None xs ys first rest = none-append host xs ys first rest
leaves_behind host (Some packet) xs ys first rest = (
  xs ++ rest.0,
  ap (λ (l : List TraceLine). xs ++ l) rest.1
      ∙ sym (append_assoc xs rest.0 (Stepped (AtNode (Leave host packet)) ∷ [])),
)

-- where none leaves, none does in the last line
pub never_last : (host : ℕ) (front : List TraceLine) (packet : List ℕ)
    → NoneLeaves host (front ++ Stepped (AtNode (Leave host packet)) ∷ []) → ⊥
never_last host [] packet none = none.0 refl
never_last host (line ∷ front) packet none = never_last host front packet none.1

elsewhere_stays : (host : ℕ) (line : TraceLine) → IsElsewhere host line → NoLeave host line
elsewhere_stays host (Begun line) is = tt
elsewhere_stays host (Stepped (Linked step)) is = tt
elsewhere_stays host (Stepped (AtNode (Take n packet))) is = tt
elsewhere_stays host (Stepped (AtNode (Leave n packet))) is = is
elsewhere_stays host (Stepped (ByDevice step)) is = tt
elsewhere_stays host (Signed sign) is = tt
elsewhere_stays host (Lacked lack) is = tt
elsewhere_stays host Ended is = tt
elsewhere_stays host (UndetectedLine n q e) is = tt

pub nothing_leaves : (host : ℕ) (lines : List TraceLine) → CollectsNothing host lines
    → NoneLeaves host lines
nothing_leaves host [] nothing = tt
nothing_leaves host (line ∷ lines) nothing =
    (elsewhere_stays host line nothing.0, nothing_leaves host lines nothing.1)

-- what leaves is what was collected
collect_leaves : (host : ℕ) (told : Collected)
    → Leaves host (left_of (answer_collected (collect_lines host told))) (collect_lines host told)
collect_leaves host (Collects.Left packet) = ([], refl)
collect_leaves host (Collects.Answered request response) = (tt, tt)
collect_leaves host Collects.Empty = (tt, tt)
collect_leaves host Collects.Full = (tt, tt)

pub left_leaves : (net : Network) (host : ℕ) (block : List TraceLine) (happened : Happened)
    → IsCollect net host block → happened ≡ answer_collected block
    → Leaves host (left_of happened) block
left_leaves net host block happened is same =
    subst (λ h. Leaves host (left_of h) block) (sym same)
    (subst (λ l. Leaves host (left_of (answer_collected l)) l) (sym is.lines)
    (collect_leaves host (collected is.device (face_in net (port_of host)))))

-- ---- what was written

-- what a call did behind lines for which a fabric stood
pub did_stands : {Is : List TraceLine → Type 0} {K : Type 0} {a b : TraceWriter K} {from : Seen}
    {lines : List TraceLine} {old new : Fabric} → Stands from lines old
    → (did : Did Is a b (seen from lines) new)
    → Made (seen from lines) did.block → Stands from (lines ++ did.block) new
did_stands stands did made = stands_with stands made did.sent did.shows

-- nothing was found in lines for which a fabric stands
pub still_behind : {from : Seen} {new : Fabric} (lines block : List TraceLine)
    → Stands from (lines ++ block) new → (seen (seen from lines) block).undetected ≡ None
still_behind {from} {new} lines block stands =
    sym (ap (λ (t : Seen). t.undetected) (seen-append from lines block)) ∙ stands.sent

-- ---- the host stays an endpoint

pub end_known : {from : Seen} {lines : List TraceLine} {fabric : Fabric} {n : ℕ}
    → Stands from lines fabric → IsEndpointAt fabric.devices.items n
    → IsEndpoint (seen from lines).network n
end_known {from} {lines} {fabric} {n = n} stands at =
    ap (λ (l : List Registers). option_map is_switch (slice_get l n)) stands.shows.registers
    ∙ ap (option_map is_switch) at.stands ∙ ap Some at.kind

-- it has a name, as each device has
pub end_named : (fabric : Fabric) (count : ℕ) {n : ℕ} → length fabric.devices.items ≤ count
    → IsEndpointAt fabric.devices.items n → n < count
end_named fabric count {n = n} named at =
    let within = slice_get_within fabric.devices.items n at.device at.stands in
    omega (arith, named, within)
