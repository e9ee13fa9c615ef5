-- For which lines a fabric stands behind more of them.
use Rattle.std.proofs.Common.{◌≡◌, List, [], ◌∷◌, ◌++◌, None, subst, sym, refl, ap, ◌∙◌}
use Rattle.fabric_script.specs.declared.lines.Line.{Line}
use Rattle.fabric_trace.specs.Blocks.{IsBlock}
use Rattle.fabric_trace.specs.Fold.{edit_of, edited_by, seen}
use Rattle.fabric_trace.specs.Known.{Seen}
use Rattle.trace_lines.specs.Lines.{TraceLine, Begun}
use Rattle.fabric_trace.specs.Parts.{Made}
use Rattle.fabric_trace.specs.Parts.Part.{PartBegins}
use Rattle.fabric_trace.proofs.Parts.Folding.{seen-append}
use Rattle.fabric_trace.proofs.Traces.Existing.{good_of}
use Rattle.fabric_trace.proofs.Parts.Keeping.{made_keeps}
use Rattle.fabric_trace.proofs.Parts.Making.{one_part, made-append}
use Rattle.fabric_trace.proofs.Rounds.Running.{block_made}
use Rattle.fabric_ports.specs.declared.fabric.Fabric.{Fabric}
use Rattle.fabric_ports.specs.Showing.{ShowsFabric}
use Rattle.fabric_ports.specs.Standing.{Stands}

-- behind more lines, which are made of parts
pub stands_with : {from : Seen} {lines : List TraceLine} {old new : Fabric}
    {block : List TraceLine} → Stands from lines old → Made (seen from lines) block
    → (seen (seen from lines) block).undetected ≡ None
    → ShowsFabric new (seen (seen from lines) block) → Stands from (lines ++ block) new
stands_with {from} {lines} {old} {new} {block = block} stands made sent shows =
    let joined = seen-append from lines block in
    record {
      ready = stands.ready;
      made = made-append stands.made made;
      sent = ap (λ (t : Seen). t.undetected) joined ∙ sent;
      shows = subst (ShowsFabric new) (sym joined) shows;
    }

-- behind the line with which an event begins that edits no wire
pub stands_begun : {from : Seen} {lines : List TraceLine} {fabric : Fabric} (line : Line)
    → edited_by (seen from lines) (edit_of line) ≡ seen from lines → Stands from lines fabric
    → Stands from (lines ++ Begun line ∷ []) fabric
stands_begun {fabric = fabric} line same stands =
    stands_with stands (one_part (PartBegins line refl))
    (ap (λ (t : Seen). t.undetected) same ∙ stands.sent)
    (subst (ShowsFabric fabric) (sym same) stands.shows)

-- behind the lines of an event
pub stands_on : {from : Seen} {lines : List TraceLine} {old new : Fabric} (line : Line)
    (block : List TraceLine) → Stands from lines old
    → IsBlock (seen from lines) line block
    → (seen (seen from lines) (Begun line ∷ block)).undetected ≡ None
    → ShowsFabric new (seen (seen from lines) (Begun line ∷ block))
    → Stands from (lines ++ Begun line ∷ block) new
stands_on {from = from} {lines = lines} line block stands is sent shows =
    let s = seen from lines in
    let good = (made_keeps (good_of stands.ready) stands.made).good in
    stands_with stands
    (made-append {s = s} {xs = Begun line ∷ []} {ys = block} (one_part (PartBegins line refl))
    (block_made line s block good stands.sent is)) sent shows
