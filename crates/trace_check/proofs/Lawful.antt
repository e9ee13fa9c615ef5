-- No reason hits a line of a trace.
use Rattle.std.proofs.Common.{◌≡◌, ℕ, ◌+◌, ◌%◌, ◌++◌, Bool, true, false, List, [], ◌∷◌, length, Option, Some, None, IsSome, refl, sym, ap, ◌∙◌, subst, arith, append_assoc, if◌then◌else◌}
use Rattle.std.specs.List.{AllByRecursion}
use Rattle.std.proofs.lemmas.List.{append-nil}
use Rattle.rio_chars.specs.declared.chars.Char.{Char}
use Rattle.link_model.specs.declared.event.Event.{Event}
use Rattle.link_model.specs.declared.event.Event.TheVariants.{Pkt}
use Rattle.link_wires.specs.Kept.{behind, IsSubsequence}
use Rattle.rio_chars.specs.declared.edit.Edit.{Edit}
use Rattle.link_wires.proofs.KeptLaws.{all_then, finds_all}
use Rattle.fabric_script.specs.declared.ports.PortRef.{PortRef}
use Rattle.fabric_script.specs.declared.lines.Numbered.{Numbered}
use Rattle.fabric_model.specs.Network.{Network, peer_in}
use Rattle.fabric_model.specs.Steps.{Hold, Free, Step, Linked, LegalFrom}
use Rattle.fabric_model.proofs.Joining.{legal_parts}
use Rattle.fabric_model.proofs.Peers.{same_port-refl}
use Rattle.trace_lines.specs.Lines.{Sent, Got, Fired, TraceLine, Begun, Stepped, Signed, steps_of}
use Rattle.fabric_trace.specs.Known.{Seen}
use Rattle.fabric_trace.specs.Fold.{edit_of, says, seen}
use Rattle.fabric_trace.specs.Holds.{got, holds, numbered_packets, HoldsCame}
use Rattle.fabric_trace.specs.Frees.{frees_by}
use Rattle.fabric_trace.specs.Parts.{Made}
use Rattle.fabric_trace.specs.Runs.{bare, set_up_all, begins, start, Runs}
use Rattle.fabric_trace.specs.SetUps.{IsSetUp, MaySetUpAll}
use Rattle.fabric_trace.specs.Wires.{WireChars, StoodThere}
use Rattle.fabric_trace.proofs.Holds.Coming.{numbered-append}
use Rattle.fabric_trace.proofs.Parts.Folding.{network_is}
use Rattle.fabric_trace.proofs.Frees.FreesRead.{frees_all}
use Rattle.fabric_trace.proofs.Parts.Fronting.{cut, cut_came}
use Rattle.fabric_trace.proofs.Holds.HoldsRead.{got-append, holds-append}
use Rattle.fabric_trace.proofs.Parts.Keeping.{steps_of-append}
use Rattle.fabric_trace.proofs.SetUps.Starting.{set_up_bare, legal, made, wires_fold, holds_came}
use Rattle.fabric_trace.specs.Allowance.{allowance, FreesAllowed}
use Rattle.fabric_trace.specs.Owned.{HasEvent, IsOwned, AreOwned}
use Rattle.trace_check.specs.Wires.{are_short, wires_after}
use Rattle.trace_check.specs.Checks.{freed, net_after, EditFits, OnWires, LineIsStep, HoldHasCome, IsAllowed, SendMayBe, LinePasses, PassAll}
use Rattle.fabric_trace.proofs.Allowance.Allowing.{allowed_at, freed_is, heard_is}
use Rattle.fabric_trace.proofs.Shown.Sending.{owned_at}
use Rattle.fabric_trace.proofs.Shown.Shows.{runs_shown}
use Rattle.fabric_trace.proofs.Shown.Wiring.{seen_links, chars_of}
use Rattle.trace_check.proofs.Edits.{ToldBy, ToldAt, EditsTold, told_at, runs_told, wires_are, stood_at}

-- ---- wires

edit_fits : (s : Seen) (edit : Option (PortRef × Edit)) (short : Bool) → ToldBy s edit short
    → EditFits (chars_of s) short edit
edit_fits s None short told = tt
edit_fits s (Some edit) true told = tt
edit_fits s (Some edit) false told = told

on_wires : (s : Seen) (links : List (PortRef × PortRef)) (line : TraceLine)
    (behind : List TraceLine) → s.network.links ≡ links → ToldAt s line behind → StoodThere links
    (chars_of s) line → IsOwned s line
    → OnWires links (chars_of s) line (are_short behind)
on_wires s links (Begun line) behind same told stood each = edit_fits s (edit_of line)
    (are_short behind) told
on_wires s links (Signed (Got q chars)) behind same told stood each = stood
on_wires s links (Signed (Fired p)) behind same told stood each =
    record {
      peer = each.peer;
      peer_is = ap (λ l. peer_in l p) (sym same) ∙ each.peer_is;
      near =
          each.near;
      far = each.far;
    }
on_wires s links _ behind same told stood each = tt

-- ---- steps

is_step : (net end : Network) (before behind : List TraceLine) (line : TraceLine) → LegalFrom net
    (steps_of (before ++ line ∷ behind)) end → LineIsStep (net_after net before) line
is_step net end before behind line legal = by_line line
    (legal_parts net (steps_of before) (steps_of (line ∷ behind)) end
    (subst (λ (l : List Step). LegalFrom net l end) (steps_of-append before
    (line ∷ behind)) legal)).1
  where
    by_line : (line : TraceLine) → LegalFrom (net_after net before) (steps_of (line ∷ behind)) end
        → LineIsStep (net_after net before) line
    by_line (Stepped step) legal = legal.0
    by_line _ legal = tt

-- ---- holds

hold_came : (before : List TraceLine) (q : PortRef) (packet : List ℕ) → HoldsCame q
    (before ++ Stepped (Linked (Hold q packet)) ∷ []) → HoldHasCome before
    (Stepped (Linked (Hold q packet)))
hold_came before q packet came =
    let line = Stepped (Linked (Hold q packet)) in
    let gets : got q (before ++ line ∷ []) ≡ got q before = got-append q before (line ∷ [])
    ∙ append-nil (got q before) in
    let one : holds q (line ∷ []) ≡ packet ∷ [] = ap (λ x. (if x then packet ∷ [] else []) ++ [])
    (same_port-refl q) in
    let has : holds q (before ++ line ∷ []) ≡ holds q before ++ packet ∷ [] = holds-append q before
    (line ∷ []) ∙ ap (λ (l : List (List ℕ)). holds q before ++ l) one in
    let all : numbered_packets 0 (holds q (before ++ line ∷ []))
    ≡ numbered_packets 0 (holds q before) ++ Pkt
    (length (holds q before) % 32) packet ∷ [] =
    ap (numbered_packets 0) has ∙ numbered-append 0 (length (holds q before)) (holds q before)
    (packet ∷ []) (omega arith) in
    let there : IsSubsequence (numbered_packets 0 (holds q before) ++ Pkt
    (length (holds q before) % 32) packet ∷ []) (says (got q before)) =
    subst (λ (l : List Event). IsSubsequence l (says (got q before))) all
    (subst (λ (l : List Char). IsSubsequence (numbered_packets 0 (holds q (before ++ line ∷ [])))
    (says l)) gets came) in
    subst IsSome (all_then (numbered_packets 0 (holds q before)) (says (got q before))
    (Pkt (length (holds q before) % 32) packet)) (finds_all there)

has_come : (before behind : List TraceLine) (line : TraceLine) →
    ((q : PortRef) → HoldsCame q (before ++ line ∷ [])) → HoldHasCome before line
has_come before behind (Stepped (Linked (Hold q packet))) came = hold_came before q packet (came q)
has_come before behind _ came = tt

-- ---- frees

frees_are : (p : PortRef) (lines : List TraceLine) → freed p lines ≡ frees_all p lines
frees_are p [] = refl
frees_are p (line ∷ lines) = ap (λ n. frees_by p line + n) (frees_are p lines)

free_allowed : (before behind : List TraceLine) (p : PortRef) (packet : List ℕ)
    → FreesAllowed p [] 0 (before ++ Stepped (Linked (Free p packet)) ∷ behind) → IsAllowed before
    (Stepped (Linked (Free p packet)))
free_allowed before behind p packet all =
    let low = allowed_at p before behind packet [] 0 all in
    let count = freed_is p before 0 in
    let same = frees_are p before in
    let chars = ap allowance (heard_is p before []) in
    omega (arith, low, count, same, chars)

is_allowed : (before behind : List TraceLine) (line : TraceLine) →
    ((p : PortRef) → FreesAllowed p [] 0 (before ++ line ∷ behind)) → IsAllowed before line
is_allowed before behind (Stepped (Linked (Free p packet))) all =
    free_allowed before behind p packet (all p)
is_allowed before behind _ all = tt

-- ---- packets that are sent

may_send : (s : Seen) (net : Network) (line : TraceLine) → s.network ≡ net → IsOwned s line
    → SendMayBe net line
may_send s net (Signed (Sent p chars)) same each = subst
    (λ (n : Network). AllByRecursion (HasEvent n p) (says chars)) same each
may_send s net _ same each = tt

-- ---- all of them

pub line_passes : (net : Network) (before behind : List TraceLine) (line : TraceLine) → IsSetUp net
    → Made (begins net) (before ++ line ∷ behind) → EditsTold (begins net) (before ++ line ∷ behind)
    → AreOwned (begins net) (before ++ line ∷ behind)
    → ((p : PortRef) → FreesAllowed p [] 0 (before ++ line ∷ behind))
    → LinePasses net before line behind
line_passes net before behind line is all told owned allowed =
    let s0 = begins net in
    let s = seen s0 before in
    let links : s.network.links ≡ net.links = seen_links s0 before in
    let own = owned_at before behind line s0 owned in
    let wires : wires_after net.links (λ p. []) before (line ∷ behind) ≡ chars_of s =
    wires_are before (line ∷ behind) s0 net.links refl told in
    let stood = stood_at before behind line s0 net.links refl
    (wires_fold net (before ++ line ∷ behind) is all) in
    let one : before ++ line ∷ behind ≡ (before ++ line ∷ []) ++ behind = sym
    (append_assoc before (line ∷ []) behind) in
    record {
      wires = subst (λ (w : WireChars). OnWires net.links w line (are_short behind)) (sym wires)
          (on_wires s net.links line behind links (told_at before behind line s0 told) stood own);
      step = is_step net _ before behind line (legal net (before ++ line ∷ behind) is all);
      came = has_come before behind line (λ q. cut_came q s0 (before ++ line ∷ [])
          (λ lines made. holds_came net lines q is made)
          (cut (before ++ line ∷ []) behind one all));
      allowed = is_allowed before behind line allowed;
      sends = may_send s (net_after net before) line (network_is s0 before) own;
    }

pub runs_pass : (script : List Numbered) (lines : List TraceLine) → MaySetUpAll bare script
    → Runs script lines → PassAll (set_up_all bare script) lines
runs_pass script lines may runs before line behind is =
    let net = set_up_all bare script in
    let shown = runs_shown script lines may runs in
    line_passes net before behind line (set_up_bare script may)
    (subst (Made (begins net)) is (made script lines may runs))
    (subst (EditsTold (begins net)) is (runs_told script (start script) lines runs))
    (subst (AreOwned (begins net)) is shown.owned)
    (λ p. subst (FreesAllowed p [] 0) is (shown.allowed p))
