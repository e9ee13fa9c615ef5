-- The lines of a block are no lines of events.
use Rattle.fabric_trace.proofs.Prelude.{◌≡◌, ◌++◌, ℕ, zero, suc, true, false, List, [], ◌∷◌, Option, Some, None, sym, subst, if◌then◌else◌, At, acts_notes, Note, A, fits, Edit, has_chars, pump_notes, delivery_notes, is_silent, time_out_notes, prio_of, Moved, Collected, step_of, collected, Registers, is_switch, PortRef, Line, link_in, room_out, port_of, Take, AtNode, TraceLine, Begun, Stepped, Signed, Lacked, Ended, Undetected, Full, Short, Early, UndetectedAt, Seen, peer_of, link_at, edit_of, seen, face_in, faces_in, step_lines, collect_lines, lines_of, take_lines, pumps, delivers, time_out_lines, edits, IsSettle, WithPeer, WithLink, IsBlock, Follows, NamesNothing, Joined, SettleAll, ServesAll, ServeRests, ServeGoes, ServeNodes, Round, Rounds}
use Rattle.link_watch.specs.declared.note.Note.TheVariants as Notes
use Rattle.switch_core.specs.declared.switch.Step as switch
use Rattle.switch_core.specs.declared.endpoint.Collected.TheVariants as Collects
use Rattle.fabric_script.specs.declared.lines.Line.TheVariants.{Send, Read, Write, Pump, Deliver, Alter, Insert, Erase, Timeout, Settle, Move, Collect, Run, Send16, Read16, Write16}
use Rattle.fabric_trace.proofs.Rounds.Blocks.{by_test}

unfoldable pub IsWithinBlock : List TraceLine → Type 0
IsWithinBlock [] = Unit {0}
IsWithinBlock (Begun line ∷ lines) = ⊥
IsWithinBlock (Ended ∷ lines) = ⊥
IsWithinBlock (Undetected number q e ∷ lines) = ⊥
IsWithinBlock (line ∷ lines) = IsWithinBlock lines

notes_within : (a b : PortRef) (notes : List Note) → IsWithinBlock (lines_of a b notes)
unfolding IsWithinBlock
notes_within a b [] = tt
notes_within a b (Notes.Sent side chars ∷ notes) = notes_within a b notes
notes_within a b (Notes.Got side chars ∷ notes) = notes_within a b notes
notes_within a b (Notes.Hold side packet ∷ notes) = notes_within a b notes
notes_within a b (Notes.Free side packet ∷ notes) = notes_within a b notes
notes_within a b (Notes.Fire side ∷ notes) = notes_within a b notes

within_by : {lines other : List TraceLine} → lines ≡ other → IsWithinBlock other
    → IsWithinBlock lines
within_by is within = subst IsWithinBlock (sym is) within

takes_within : (s : Seen) (node : ℕ) (packet : List ℕ) → IsWithinBlock (take_lines s node packet)
unfolding IsWithinBlock
takes_within s node packet =
    elim (room_out s.network (port_of node) (prio_of packet)) as (λ x. IsWithinBlock
    (if x then Stepped (AtNode (Take node packet)) ∷ [] else Lacked Full ∷ [])) [
      | true ↦
          tt
      | false ↦ tt
    ]

step_within : (node : ℕ) (step : switch.Step) → IsWithinBlock (step_lines node step)
unfolding IsWithinBlock
step_within node (Moved from to packet) = tt
step_within node _ = tt

collected_within : (node : ℕ) (what : Collected) → IsWithinBlock (collect_lines node what)
unfolding IsWithinBlock
collected_within node (Collects.Left packet) = tt
collected_within node _ = tt

delivers_within : (s : Seen) (p : PortRef) (n : ℕ) (q : PortRef) → IsWithinBlock (delivers s p n q)
unfolding IsWithinBlock
delivers_within s p n q =
    elim (has_chars A n (link_at s p q)) as (λ x. IsWithinBlock
    (if x then lines_of p q (delivery_notes A n (link_at s p q)) else Lacked Short ∷ [])) [
      | true ↦ notes_within p q (delivery_notes A n (link_at s p q))
      | false ↦ tt
    ]

times_out_within : (s : Seen) (p q : PortRef) → IsWithinBlock (time_out_lines s p q)
unfolding IsWithinBlock
times_out_within s p q =
    elim (is_silent (link_at s p q)) as (λ x. IsWithinBlock
    (if x then lines_of p q (time_out_notes A (link_at s p q)) else Lacked Early ∷ [])) [
      | true ↦ notes_within p q (time_out_notes A (link_at s p q))
      | false ↦ tt
    ]

edits_within : (s : Seen) (edit : Option (PortRef × Edit)) → IsWithinBlock (edits s edit)
unfolding IsWithinBlock
edits_within s None = tt
edits_within s (Some edit) =
    elim (fits edit.1 (s.wires edit.0).chars) as (λ x. IsWithinBlock
    (if x then [] else Lacked Short ∷ [])) [ true ↦ tt | false ↦ tt ]

peer_within : (peer : Option PortRef) (lines : PortRef → List TraceLine) (block : List TraceLine)
    → ((q : PortRef) → IsWithinBlock (lines q)) → WithPeer peer lines block → IsWithinBlock block
peer_within None lines block within is = absurd is
peer_within (Some q) lines block within is = within_by is (within q)

link_within : (s : Seen) (link : Option (PortRef × PortRef)) (block : List TraceLine)
    → WithLink link (IsSettle s) block → IsWithinBlock block
link_within s None block is = absurd is
link_within s (Some link) block is =
    within_by is.lines (notes_within link.0 link.1
    (acts_notes (At (link_at s link.0 link.1)) is.acts))

within-append : (xs ys : List TraceLine) → IsWithinBlock xs → IsWithinBlock ys
    → IsWithinBlock (xs ++ ys)
unfolding IsWithinBlock
within-append [] ys first rest = rest
within-append (Stepped step ∷ xs) ys first rest = within-append xs ys first rest
within-append (Signed sign ∷ xs) ys first rest = within-append xs ys first rest
within-append (Lacked lack ∷ xs) ys first rest = within-append xs ys first rest
within-append (_ ∷ xs) ys first rest = absurd first

follows_within : (found : Option UndetectedAt) (More : List TraceLine → Type 0)
    (rest : List TraceLine)
    → (More rest → IsWithinBlock rest) → Follows found More NamesNothing rest → IsWithinBlock rest
unfolding IsWithinBlock
follows_within None More rest more follows = more follows
follows_within (Some e) More rest more follows = within_by follows tt

joined_within : (s : Seen) (First : List TraceLine → Type 0) (More : Seen → List TraceLine → Type 0)
    (block : List TraceLine)
    → ((first : List TraceLine) → First first → IsWithinBlock first)
    → ((t : Seen) (rest : List TraceLine) → More t rest → IsWithinBlock rest)
    → Joined First More s block → IsWithinBlock block
joined_within s First More block one more joined =
    let t = seen s joined.0 in
    within_by joined.2 (within-append joined.0 joined.1 (one joined.0 joined.3)
    (follows_within t.undetected (More t) joined.1 (more t joined.1) joined.4))

settle_all_within : (links : List (PortRef × PortRef)) (s : Seen) (block : List TraceLine)
    → SettleAll IsSettle links s block → IsWithinBlock block
unfolding IsWithinBlock
settle_all_within [] s block is = within_by is tt
settle_all_within (link ∷ links) s block is =
    joined_within s (IsSettle s link.0 link.1) (SettleAll IsSettle links) block
    (λ first own. link_within s (Some link) first own) (settle_all_within links) is

serves_within : {s : Seen} {node : ℕ} {block : List TraceLine} → ServesAll s node block
    → IsWithinBlock block
unfolding IsWithinBlock
serves_within (ServeRests move is) = within_by is tt
serves_within (ServeGoes step rest move is more) = within_by is (serves_within more)

nodes_within : (devices : List Registers) (node : ℕ) (s : Seen) (block : List TraceLine)
    → ServeNodes node devices s block → IsWithinBlock block
unfolding IsWithinBlock
nodes_within [] node s block is = within_by is tt
nodes_within (device ∷ devices) node s block is =
    by_test (is_switch device)
    (joined_within s (ServesAll s node) (ServeNodes (suc node) devices) block
    (λ first own. serves_within own) (nodes_within devices (suc node)))
    (nodes_within devices (suc node) s block) is

round_within : (s : Seen) (block : List TraceLine) → Round IsSettle s block → IsWithinBlock block
round_within s block is =
    joined_within s (SettleAll IsSettle s.network.links s)
    (λ t rest. ServeNodes 0 t.network.registers t rest) block
    (settle_all_within s.network.links s) (λ t. nodes_within t.network.registers 0 t) is

rounds_within : (n : ℕ) (s : Seen) (block : List TraceLine) → Rounds IsSettle n s block
    → IsWithinBlock block
unfolding IsWithinBlock
rounds_within zero s block is = within_by is tt
rounds_within (suc n) s block is =
    joined_within s (Round IsSettle s) (Rounds IsSettle n) block (round_within s) (rounds_within n)
    is

pub block_within : (s : Seen) (line : Line) (block : List TraceLine) → IsBlock s line block
    → IsWithinBlock block
block_within s (Send node prio ftype dest hex) block is =
    within_by is.lines (takes_within s node is.packet)
block_within s (Read node prio dest hop tid offset) block is =
    within_by is.lines (takes_within s node is.packet)
block_within s (Write node prio dest hop tid offset value) block is =
    within_by is.lines (takes_within s node is.packet)
block_within s (Send16 node prio ftype dest hex) block is =
    within_by is.lines (takes_within s node is.packet)
block_within s (Read16 node prio dest hop tid offset) block is =
    within_by is.lines (takes_within s node is.packet)
block_within s (Write16 node prio dest hop tid offset value) block is =
    within_by is.lines (takes_within s node is.packet)
block_within s (Pump port n) block is =
    peer_within (peer_of s port) (pumps s port n) block
    (λ q. notes_within port q (pump_notes A n (link_at s port q))) is
block_within s (Deliver port n) block is =
    peer_within (peer_of s port) (delivers s port n) block (delivers_within s port n) is
block_within s (Alter port place ch) block is =
    within_by is (edits_within s (edit_of (Alter port place ch)))
block_within s (Insert port place ch) block is =
    within_by is (edits_within s (edit_of (Insert port place ch)))
block_within s (Erase port place n) block is =
    within_by is (edits_within s (edit_of (Erase port place n)))
block_within s (Timeout port) block is =
    peer_within (peer_of s port) (time_out_lines s port) block (times_out_within s port) is
block_within s (Settle port) block is = link_within s (link_in s.network.links port) block is
block_within s (Move node) block is =
    within_by is.lines (step_within node (step_of is.device (faces_in s.network node is.device)))
block_within s (Collect node) block is =
    within_by is.lines (collected_within node
    (collected is.device (face_in s.network (port_of node))))
block_within s (Run n) block is = rounds_within n s block is
block_within s _ block is = absurd is
