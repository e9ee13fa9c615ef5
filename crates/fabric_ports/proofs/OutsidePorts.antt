-- A port without a link, character by character and turn by turn: what it does, what is written of
-- it, and what stays of it.
use Rattle.std.proofs.Common.{◌≡◌, ℕ, zero, suc, ◌<◌, ◌≤◌, Bool, true, false, Option, option_to_list, List, [], ◌∷◌, ◌++◌, length, map, refl, sym, ap, ◌∙◌, subst, arith, append_assoc, append-nil}
use Rattle.std.proofs.lemmas.Grind.{flat_map-append}
use Rattle.std.proofs.lemmas.List.{map-append}
use Rattle.rio_chars.specs.declared.chars.Char.{Char}
use Rattle.rio_symbols.specs.Fields.{Fields}
use Rattle.link_model.specs.Prelude.{symbol_chars_of}
use Rattle.link_model.specs.declared.event.Event.{Event}
use Rattle.link_model.specs.declared.event.Event.TheVariants.{Ctl, Pkt, Bad}
use Rattle.link_buffers.specs.Queues.{Buffered, stored}
use Rattle.link_port.specs.Ports.{PortState}
use Rattle.link_port.specs.Steps.{Acted, acts, acts_all, after_reading, read, takes}
use Rattle.link_port.specs.Streams.{Streamed, followed, takes_each}
use Rattle.link_port.specs.Turns.{turns_to, turn_sends}
use Rattle.link_wires.specs.Deliveries.{moves_of}
use Rattle.link_wires.specs.Wires.{answers}
use Rattle.link_wires.specs.declared.moves.Move.{Move}
use Rattle.link_wires.specs.declared.moves.Move.TheVariants.{Held, Freed}
use Rattle.fabric_script.specs.declared.ports.PortRef.{PortRef}
use Rattle.trace_lines.specs.AddsLaws.{Adds-nil, Adds-then}
use Rattle.trace_lines.specs.Lines.{TraceLine}
use Rattle.trace_lines.specs.Writing.{Adds}
use Rattle.trace_lines.specs.declared.writer.TraceWriter.{TraceWriter}
use Rattle.fabric_ports.specs.Outside.{TurnsTold, move_told, moves_made, got_told, sent_told, taking_lines, turns_past, turns_told}

-- ---- what stays

-- as many buffers, and it tells its free ones or does not as before
pub record IsAsPlanned (before after : PortState) : Type 0 where
  pub buffers : after.received.buffers ≡ before.received.buffers
  pub tells : after.tells ≡ before.tells

planned : (port : PortState) → IsAsPlanned port port
planned port = record { buffers = refl; tells = refl }

planned-then : {first mid last : PortState} → IsAsPlanned first mid → IsAsPlanned mid last
    → IsAsPlanned first last
planned-then one more =
    record { buffers = more.buffers ∙ one.buffers; tells = more.tells ∙ one.tells }

stored_buffers : (held : Bool) (store : Buffered) (packet : List ℕ)
    → (stored held store packet).buffers ≡ store.buffers
stored_buffers true store packet = refl
stored_buffers false store packet = refl

acts_planned : (port : PortState) (e : Event) → IsAsPlanned port (acts port e).port
acts_planned port (Ctl symbol) = record { buffers = refl; tells = refl }
acts_planned port (Pkt ack packet) =
    record { buffers = stored_buffers _ port.received packet; tells = refl }
acts_planned port (Bad cause) = record { buffers = refl; tells = refl }

all_planned : (port : PortState) (events : List Event)
    → IsAsPlanned port (acts_all port events).port
unfolding acts_all
all_planned port [] = planned port
all_planned port (e ∷ events) =
    planned-then (acts_planned port e) (all_planned (acts port e).port events)

takes_planned : (port : PortState) (c : Char) → IsAsPlanned port (takes port c).port
takes_planned port c =
    let does = all_planned (after_reading port c) (read port c) in
    record { buffers = does.buffers; tells = does.tells }

pub each_planned : (port : PortState) (chars : List Char)
    → IsAsPlanned port (takes_each port chars).port
unfolding takes_each
each_planned port [] = planned port
each_planned port (c ∷ chars) =
    planned-then (takes_planned port c) (each_planned (takes port c).port chars)

past_planned : (p : PortRef) (chars : List Char) (before port : PortState) (rest : TurnsTold)
    → IsAsPlanned before port → IsAsPlanned before rest.port
    → IsAsPlanned before (turns_past p chars port rest).port
past_planned p [] before port rest one more = one
past_planned p (c ∷ chars) before port rest one more = more

pub turns_planned : (p : PortRef) (port : PortState) (count : ℕ)
    → IsAsPlanned port (turns_told p port count).port
unfolding turns_told
turns_planned p port zero = planned port
turns_planned p port (suc count) =
    let rest = turns_planned p (turns_to port) count in
    past_planned p (turn_sends port).chars port (turns_to port) (turns_told p (turns_to port) count)
    (record { buffers = refl; tells = refl })
    (record { buffers = rest.buffers; tells = rest.tells })

-- ---- characters

-- what a character had a port hold was written, and then what it had it free
pub moves_written : {K : Type 0} {before mid after : TraceWriter K} (p : PortRef) (did : Acted)
    (held : Option (List ℕ)) (freed : List (List ℕ)) → held ≡ did.held → freed ≡ did.freed
    → Adds before mid (map (move_told p) (map (λ packet. Held packet) (option_to_list held)))
    → Adds mid after (map (move_told p) (map (λ packet. Freed packet) freed))
    → Adds before after (map (move_told p) (moves_of did))
moves_written {before = before} {after = after} p did held freed first second one more =
    let moves = λ (o : Option (List ℕ)) (l : List (List ℕ)).
    map (λ packet. Held packet) (option_to_list o) ++ map (λ packet. Freed packet) l in
    subst (λ l. Adds before after (map (move_told p) l))
    (ap (λ o. moves o freed) first ∙ ap (moves did.held) second)
    (subst (Adds before after)
    (sym (map-append (move_told p) (map (λ packet. Held packet) (option_to_list held))
    (map (λ packet. Freed packet) freed)))
    (Adds-then one more))

-- the characters of symbols that answer
abbrev pub reply_chars : List Fields → List Char
reply_chars replies = (answers replies).chars

-- Of characters that come to a port these are left, and it stands here. What it did so far was
-- written, and the characters of its answers were added to the first ones.
pub record IsTaking {K : Type 0} (p : PortRef) (begun : PortState) (chars first : List Char)
    (before after : TraceWriter K) (port : PortState) (left replies : List Char) : Type 0 where
  pub moves : List Move
  pub told : Adds before after (map (move_told p) moves)
  pub whole : moves_made begun chars ≡ moves ++ moves_made port left
  pub state : (takes_each begun chars).port ≡ (takes_each port left).port
  pub answered : first ++ reply_chars (takes_each begun chars).replies
      ≡ replies ++ reply_chars (takes_each port left).replies

pub taking_begins : {K : Type 0} (p : PortRef) (begun : PortState) (chars first : List Char)
    (before : TraceWriter K) → IsTaking p begun chars first before before begun chars first
taking_begins p begun chars first before = record {
  moves = [];
  told = Adds-nil before;
  whole = refl;
  state = refl;
  answered = refl;
}

each-next : (port : PortState) (left rest : List Char) (c : Char) → left ≡ c ∷ rest
    → takes_each port left ≡ followed (takes port c) (takes_each (takes port c).port rest)
unfolding takes_each
each-next port left rest c is = ap (takes_each port) is

moves-next : (port : PortState) (left rest : List Char) (c : Char) → left ≡ c ∷ rest
    → moves_made port left ≡ moves_of (takes port c) ++ moves_made (takes port c).port rest
unfolding moves_made
moves-next port left rest c is = ap (moves_made port) is

reply-append : (xs ys : List Fields) → reply_chars (xs ++ ys) ≡ reply_chars xs ++ reply_chars ys
reply-append xs ys = flat_map-append symbol_chars_of xs ys

pub taking_more : {K : Type 0} {p : PortRef} {begun port next : PortState}
    {chars first left replies more : List Char} {before mid after : TraceWriter K}
    (c : Char) (rest : List Char) (reply : Option Fields)
    → IsTaking p begun chars first before mid port left replies → left ≡ c ∷ rest
    → next ≡ (takes port c).port → reply ≡ (takes port c).reply
    → Adds mid after (map (move_told p) (moves_of (takes port c)))
    → more ≡ replies ++ reply_chars (option_to_list reply)
    → IsTaking p begun chars first before after next rest more
taking_more {p} {begun} {port} {next} {chars} {first} {left} {replies} {more} {before} {mid}
    {after} c rest reply taking is stands says told adds =
    let did = takes port c in
    let behind = takes_each did.port rest in
    let own = option_to_list did.reply in
    record {
      moves = taking.moves ++ moves_of did;
      told = subst (Adds before after) (sym (map-append (move_told p) taking.moves (moves_of did)))
          (Adds-then taking.told told);
      whole = taking.whole ∙ ap (λ l. taking.moves ++ l) (moves-next port left rest c is)
          ∙ sym (append_assoc taking.moves (moves_of did) (moves_made did.port rest))
          ∙ ap (λ (q : PortState). (taking.moves ++ moves_of did) ++ moves_made q rest)
          (sym stands);
      state = taking.state ∙ ap (λ (a : Streamed). a.port) (each-next port left rest c is)
          ∙ ap (λ (q : PortState). (takes_each q rest).port) (sym stands);
      answered = taking.answered
          ∙ ap (λ (a : Streamed). replies ++ reply_chars a.replies) (each-next port left rest c is)
          ∙ ap (λ l. replies ++ l) (reply-append own behind.replies)
          ∙ sym (append_assoc replies (reply_chars own) (reply_chars behind.replies))
          ∙ ap (λ o. (replies ++ reply_chars (option_to_list o)) ++ reply_chars behind.replies)
          (sym says)
          ∙ ap (λ l. l ++ reply_chars behind.replies) (sym adds)
          ∙ ap (λ (q : PortState). more ++ reply_chars (takes_each q rest).replies) (sym stands);
    }

-- nothing is left
pub record HasTaken {K : Type 0} (p : PortRef) (begun : PortState) (chars first : List Char)
    (before after : TraceWriter K) (port : PortState) (replies : List Char) : Type 0 where
  pub state : port ≡ (takes_each begun chars).port
  pub answered : replies ≡ first ++ reply_chars (takes_each begun chars).replies
  pub told : Adds before after (map (move_told p) (moves_made begun chars))

pub taking_ends : {K : Type 0} {p : PortRef} {begun port : PortState}
    {chars first left replies : List Char} {before after : TraceWriter K}
    → IsTaking p begun chars first before after port left replies → length left ≤ 0
    → HasTaken p begun chars first before after port replies
unfolding takes_each moves_made
taking_ends {p} {begun} {port} {chars} {first} {left = []} {replies} {before} {after} taking none =
    record {
      state = sym taking.state;
      answered = sym (append-nil replies) ∙ sym taking.answered;
      told = subst (λ l. Adds before after (map (move_told p) l))
          (sym (append-nil taking.moves) ∙ sym taking.whole) taking.told;
    }
taking_ends {left = c ∷ left} taking none = absurd (omega (arith, none))

-- what it got, held and freed was written, and then all that it answers
pub took_written : {K : Type 0} {before first_mid mid after : TraceWriter K} (p : PortRef)
    (begun : PortState) (chars none replies said : List Char)
    → Adds before first_mid (got_told p chars)
    → Adds first_mid mid (map (move_told p) (moves_made begun chars))
    → Adds mid after (sent_told p said) → none ≡ []
    → replies ≡ none ++ reply_chars (takes_each begun chars).replies → said ≡ replies
    → Adds before after (taking_lines p begun chars)
took_written {mid = mid} {after = after} p begun chars none replies said got moved sent empty adds
    is =
    let own = reply_chars (takes_each begun chars).replies in
    Adds-then got (Adds-then moved
    (subst (λ l. Adds mid after (sent_told p l))
    (is ∙ adds ∙ ap (λ (l : List Char). l ++ own) empty) sent))

-- ---- turns

-- lines are told before those of turns
abbrev after_lines : List TraceLine → TurnsTold → TurnsTold
after_lines lines rest = record { port = rest.port; lines = lines ++ rest.lines }

-- Of the turns of a port so many are left, and it stands here. What it sent so far was written.
pub record IsTurning {K : Type 0} (p : PortRef) (begun : PortState) (count : ℕ)
    (before after : TraceWriter K) (rest : TurnsTold) : Type 0 where
  pub lines : List TraceLine
  pub told : Adds before after lines
  pub whole : turns_told p begun count ≡ after_lines lines rest

pub turning_begins : {K : Type 0} (p : PortRef) (begun : PortState) (count : ℕ)
    (before : TraceWriter K) → IsTurning p begun count before before (turns_told p begun count)
turning_begins p begun count before =
    record { lines = []; told = Adds-nil before; whole = refl }

turning_on : {K : Type 0} {p : PortRef} {begun : PortState} {count : ℕ}
    {before mid after : TraceWriter K} {rest : TurnsTold} (lines : List TraceLine)
    (left : TurnsTold) → IsTurning p begun count before mid rest → rest ≡ after_lines lines left
    → Adds mid after lines → IsTurning p begun count before after left
turning_on lines left turning is told = record {
  lines = turning.lines ++ lines;
  told = Adds-then turning.told told;
  whole = turning.whole ∙ ap (after_lines turning.lines) is
      ∙ (λ i. record {
        port = left.port;
        lines = sym (append_assoc turning.lines lines left.lines) i;
      });
}

past_more : (p : PortRef) (chars : List Char) (port : PortState) (rest : TurnsTold)
    → 0 < length chars → turns_past p chars port rest ≡ after_lines (sent_told p chars) rest
past_more p [] port rest some = absurd (omega (arith, some))
past_more p (c ∷ chars) port rest some = refl

past_none : (p : PortRef) (chars : List Char) (port : PortState) (rest : TurnsTold)
    → length chars ≤ 0
    → turns_past p chars port rest
    ≡ after_lines (sent_told p chars) (record { port = port; lines = [] })
past_none p [] port rest none = refl
past_none p (c ∷ chars) port rest none = absurd (omega (arith, none))

turns-next : (p : PortRef) (port : PortState) (count left : ℕ) → count ≡ suc left
    → turns_told p port count
    ≡ turns_past p (turn_sends port).chars (turns_to port) (turns_told p (turns_to port) left)
unfolding turns_told
turns-next p port count left is = ap (turns_told p port) is

-- a turn that sent something
pub turning_more : {K : Type 0} {p : PortRef} {begun next : PortState} {count now : ℕ}
    {before mid after : TraceWriter K} (port : PortState) (left : ℕ)
    → IsTurning p begun count before mid (turns_told p port now) → now ≡ suc left
    → 0 < length (turn_sends port).chars → next ≡ turns_to port
    → Adds mid after (sent_told p (turn_sends port).chars)
    → IsTurning p begun count before after (turns_told p next left)
turning_more {p} {begun} {next} {count} {now} {before} {mid} {after} port left turning is some
    stands told =
    subst (λ (q : PortState). IsTurning p begun count before after (turns_told p q left))
    (sym stands)
    (turning_on (sent_told p (turn_sends port).chars) (turns_told p (turns_to port) left) turning
    (turns-next p port now left is
    ∙ past_more p (turn_sends port).chars (turns_to port) (turns_told p (turns_to port) left) some)
    told)

-- the port after turns, of which these lines were written
pub record HasTurned {K : Type 0} (p : PortRef) (begun : PortState) (count : ℕ)
    (before after : TraceWriter K) (port : PortState) : Type 0 where
  pub state : port ≡ (turns_told p begun count).port
  pub told : Adds before after (turns_told p begun count).lines

turning_ends : {K : Type 0} {p : PortRef} {begun port : PortState} {count : ℕ}
    {before after : TraceWriter K} {rest : TurnsTold}
    → IsTurning p begun count before after rest → rest ≡ record { port = port; lines = [] }
    → HasTurned p begun count before after port
turning_ends {p} {begun} {port} {count} {before} {after} turning none =
    let all = turning.whole ∙ ap (after_lines turning.lines) none in
    record {
      state = sym (ap (λ (t : TurnsTold). t.port) all);
      told = subst (Adds before after)
          (sym (ap (λ (t : TurnsTold). t.lines) all ∙ append-nil turning.lines)) turning.told;
    }

-- a turn that sent nothing is the last
pub turning_stops : {K : Type 0} {p : PortRef} {begun next : PortState} {count now : ℕ}
    {before mid after : TraceWriter K} (port : PortState) (left : ℕ)
    → IsTurning p begun count before mid (turns_told p port now) → now ≡ suc left
    → length (turn_sends port).chars ≤ 0 → next ≡ turns_to port
    → Adds mid after (sent_told p (turn_sends port).chars)
    → HasTurned p begun count before after next
turning_stops {p} {begun} {next} {count} {now} {before} {mid} {after} port left turning is none
    stands told =
    let last : TurnsTold = record { port = turns_to port; lines = [] } in
    turning_ends
    (turning_on (sent_told p (turn_sends port).chars) last turning
    (turns-next p port now left is
    ∙ past_none p (turn_sends port).chars (turns_to port) (turns_told p (turns_to port) left) none)
    told)
    (ap (λ (q : PortState). record { port = q; lines = [] }) (sym stands))

no_turns : (p : PortRef) (port : PortState) (count : ℕ) → count ≡ 0
    → turns_told p port count ≡ record { port = port; lines = [] }
unfolding turns_told
no_turns p port count none = ap (turns_told p port) none

-- no turn is left
pub turning_done : {K : Type 0} {p : PortRef} {begun port : PortState} {count now : ℕ}
    {before after : TraceWriter K}
    → IsTurning p begun count before after (turns_told p port now) → now ≡ 0
    → HasTurned p begun count before after port
turning_done {p} {port} {now} turning none =
    turning_ends turning (no_turns p port now none)
