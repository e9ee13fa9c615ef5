-- What no line of a trace changes of a network; that what is found is at a port with a link; and
-- that an event that may
-- happen at first may happen behind any lines.
use Rattle.fabric_trace.proofs.Prelude.{◌≡◌, ℕ, Bool, true, false, List, [], ◌∷◌, Option, Some, None, IsSome, length, refl, sym, ap, ◌∙◌, subst, Char, prio_of, Event, undetected, request_of, Line, PortRef, Network, peer_in, switch_at, device_after, Hold, Free, Take, Leave, MoveStep, Drop, Answer, Linked, AtNode, ByDevice, Step, after, after_hold, Registers, is_switch, length-with_device, kinds_stay, switches_stay, links_stay, with_change, HasLink, IsThere, MayHappen, edit_of, taken_from, undetected_at, got_from, seen_line, seen, UndetectedAt, Seen, peer_of, TraceLine, Begun, Stepped, Signed, Lacked, Ended, Undetected, Sent, Got, Fired}
use Rattle.fabric_script.specs.declared.lines.Line.TheVariants.{Send, Read, Write, Pump, Deliver, Alter, Insert, Erase, Timeout, Settle, Move, Collect, Send16, Read16, Write16}
use Rattle.fabric_trace.specs.Boards.{IsSameBoard}
use Rattle.fabric_trace.proofs.Parts.Folding.{edited_net, got_net, fired_net, edited_found, fired_found}

-- ---- how many registers there are, of which kinds, and links stay

count_stays : (net : Network) (step : Step) → length (after net step).registers
    ≡ length net.registers
count_stays net (Linked (Hold q packet)) = held (peer_in net.links q)
  where
    held : (p : Option PortRef) → length (after_hold net q p (prio_of packet)).registers
        ≡ length net.registers
    held None = refl
    held (Some p) = refl
count_stays net (Linked (Free p packet)) = refl
count_stays net (AtNode (Take n packet)) = refl
count_stays net (AtNode (Leave n packet)) = refl
count_stays net (ByDevice (MoveStep p q packet)) = refl
count_stays net (ByDevice (Drop p packet)) = refl
count_stays net (ByDevice (Answer p packet response)) =
    length-with_device net.registers p.node (device_after p.port (request_of packet))

pub same_board : (net next : Network) → next ≡ net → IsSameBoard net next
same_board net next is = record {
  count = ap (λ (n : Network). length n.registers) is;
  kinds = λ n. ap (λ (x : Network). switch_at x n) is;
  links = ap (λ (n : Network). n.links) is;
}

line_board : (s : Seen) (line : TraceLine) → IsSameBoard s.network (seen_line s line).network
line_board s (Begun line) = same_board s.network _ (edited_net s (edit_of line))
line_board s (Stepped step) = record {
  count = count_stays s.network step;
  kinds = switches_stay s.network step;
  links = links_stay s.network step;
}
line_board s (Signed (Sent p chars)) = same_board s.network s.network refl
line_board s (Signed (Got q chars)) = same_board s.network _ (got_net s (peer_of s q) q chars)
line_board s (Signed (Fired p)) = same_board s.network _ (fired_net s (peer_of s p) p)
line_board s (Lacked lack) = same_board s.network s.network refl
line_board s Ended = same_board s.network s.network refl
line_board s (Undetected number q e) = same_board s.network s.network refl

pub seen_board : (lines : List TraceLine) (s : Seen) → IsSameBoard s.network (seen s lines).network
seen_board [] s = same_board s.network s.network refl
seen_board (line ∷ lines) s =
    let one = line_board s line in
    let rest = seen_board lines (seen_line s line) in
    record {
      count = rest.count ∙ one.count;
      kinds = λ n. rest.kinds n ∙ one.kinds n;
      links = rest.links ∙ one.links;
    }

-- one after another
pub board_then : (net mid next : Network) → IsSameBoard net mid → IsSameBoard mid next
    → IsSameBoard net next
board_then net mid next one rest = record {
  count = rest.count ∙ one.count;
  kinds = λ n. rest.kinds n ∙ one.kinds n;
  links = rest.links ∙ one.links;
}

-- nor does a device that changes its registers and stays of its kind
pub changed_board : (net : Network) (node : ℕ) (change : Registers → Registers)
    → ((device : Registers) → is_switch (change device) ≡ is_switch device)
    → IsSameBoard net (with_change net node change)
changed_board net node change same = record {
  count = length-with_device net.registers node change;
  kinds = λ n. kinds_stay net.registers node n change same;
  links = refl;
}

-- ---- what is found is at a port with a link

abbrev pub IsLinked : List (PortRef × PortRef) → PortRef → Type 0
IsLinked links port = (p : PortRef) × (peer_in links port ≡ Some p)

-- if an event was found, then at a port with a link
abbrev FindsLinked : Seen → Type 0
FindsLinked s = (found : UndetectedAt) → s.undetected ≡ Some found
    → IsLinked s.network.links found.port

got_linked : (s : Seen) (q : PortRef) (chars : List Char) (peer : Option PortRef) → peer_of s q
    ≡ peer → FindsLinked s → (found : UndetectedAt) → (got_from s peer q chars).undetected
    ≡ Some found
    → IsLinked s.network.links found.port
got_linked s q chars None is linked found finds = linked found finds
got_linked s q chars (Some p) is linked found finds = by_end (undetected (taken_from s p q chars))
    finds
  where
    by_end : (e : Option Event) → undetected_at q e ≡ Some found
        → IsLinked s.network.links found.port
    by_end None same = absurd cc
    by_end (Some e) same =
        let port : q ≡ found.port = cc
        in
        (p, ap (peer_in s.network.links) (sym port) ∙ is)

line_linked : (s : Seen) (line : TraceLine) → FindsLinked s → (found : UndetectedAt)
    → (seen_line s line).undetected ≡ Some found → IsLinked s.network.links found.port
line_linked s (Begun line) linked found finds =
    linked found (sym (edited_found s (edit_of line)) ∙ finds)
line_linked s (Stepped step) linked found finds = linked found finds
line_linked s (Signed (Sent p chars)) linked found finds = linked found finds
line_linked s (Signed (Got q chars)) linked found finds =
    got_linked s q chars (peer_of s q) refl linked found finds
line_linked s (Signed (Fired p)) linked found finds =
    linked found (sym (fired_found s (peer_of s p) p) ∙ finds)
line_linked s (Lacked lack) linked found finds = linked found finds
line_linked s Ended linked found finds = linked found finds
line_linked s (Undetected number q e) linked found finds = linked found finds

lines_linked : (lines : List TraceLine) (s : Seen) → FindsLinked s → FindsLinked (seen s lines)
lines_linked [] s linked = linked
lines_linked (line ∷ lines) s linked =
    lines_linked lines (seen_line s line)
    (λ found finds. subst (λ (l : List (PortRef × PortRef)). IsLinked l found.port)
    (sym (line_board s line).links) (line_linked s line linked found finds))

-- an event that is found where none was found before
pub found_linked : (lines : List TraceLine) (s : Seen) (found : UndetectedAt)
    → s.undetected ≡ None → (seen s lines).undetected ≡ Some found
    → IsLinked s.network.links found.port
found_linked lines s found none finds =
    let linked = lines_linked lines s (λ other some. absurd cc) found finds in
    subst (λ (l : List (PortRef × PortRef)). IsLinked l found.port)
    (seen_board lines s).links linked

-- ---- an event that may happen may still happen

linked_still : (net next : Network) (port : PortRef) → IsSameBoard net next → HasLink net port
    → HasLink next port
linked_still net next port same linked =
    subst (λ (l : List (PortRef × PortRef)). IsSome (peer_in l port)) (sym same.links) linked

kind_still : (net next : Network) (node : ℕ) (own : Bool) → IsSameBoard net next
    → switch_at net node ≡ Some own → switch_at next node ≡ Some own
kind_still net next node own same is = same.kinds node ∙ is

there_still : (net next : Network) (line : Line) → IsSameBoard net next → IsThere net line
    → IsThere next line
there_still net next (Send node prio ftype dest hex) same there =
    kind_still net next node false same there
there_still net next (Read node prio dest hop tid offset) same there =
    kind_still net next node false same there
there_still net next (Write node prio dest hop tid offset value) same there =
    kind_still net next node false same there
there_still net next (Send16 node prio ftype dest hex) same there =
    kind_still net next node false same there
there_still net next (Read16 node prio dest hop tid offset) same there =
    kind_still net next node false same there
there_still net next (Write16 node prio dest hop tid offset value) same there =
    kind_still net next node false same there
there_still net next (Move node) same there = kind_still net next node true same there
there_still net next (Collect node) same there = kind_still net next node false same there
there_still net next (Pump port n) same there = linked_still net next port same there
there_still net next (Deliver port n) same there = linked_still net next port same there
there_still net next (Alter port place ch) same there = linked_still net next port same there
there_still net next (Insert port place ch) same there = linked_still net next port same there
there_still net next (Erase port place n) same there = linked_still net next port same there
there_still net next (Timeout port) same there = linked_still net next port same there
there_still net next (Settle port) same there = linked_still net next port same there
there_still net next _ same there = tt

pub happens_on : (names : List (List ℕ)) (net next : Network) (line : Line)
    → IsSameBoard net next → MayHappen names net line → MayHappen names next line
happens_on names net next line same may =
    record {
      named = may.named;
      range = may.range;
      there = there_still net next line same may.there;
    }

pub happens_still : (names : List (List ℕ)) (s : Seen) (lines : List TraceLine) (line : Line)
    → MayHappen names s.network line → MayHappen names (seen s lines).network line
happens_still names s lines line may = happens_on names s.network _ line (seen_board lines s) may
