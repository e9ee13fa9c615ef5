-- Characters are taken one after another, and their answers are written one behind another.
use Rattle.std.proofs.Common.{◌≡◌, ℕ, suc, ◌+◌, ◌*◌, ◌≤◌, List, [], ◌∷◌, ◌++◌, Option, Some, None, option_to_list, length, take, drop, refl, sym, ap, ◌∙◌, append_assoc, append-nil, arith, length-append}
use Rattle.std.proofs.lemmas.List.{take_at, drop_at, drop-drop}
use Rattle.rio_symbols.specs.Fields.{Fields}
use Rattle.link_port.specs.Ports.{PortState}
use Rattle.link_port.specs.Steps.{Acted, takes}
use Rattle.link_port.specs.Streams.{Streamed, unmoved, followed, takes_each}
use Rattle.library_calls.specs.declared.told.RunDid.{RunDid}
use Rattle.library_calls.specs.Wires.{wire_char, wire_chars}
use Rattle.library_calls.specs.Rooms.{laid_over, laid_at}
use Rattle.library_calls.specs.Chars.{reply_wires, replies_wires, no_run, AddsChar, TellsRun}

-- Of a run this much was done, and what is left is to come.
pub record IsRun (whole rest : Streamed) (did : RunDid) (begun room : List ℕ) : Type 0 where
  pub port : whole.port ≡ rest.port
  pub held : length whole.held ≡ did.held + length rest.held
  pub freed : length whole.freed ≡ did.freed + length rest.freed
  pub front : List ℕ
  pub said : replies_wires whole.replies ≡ front ++ replies_wires rest.replies
  pub at : did.sent ≡ length front
  pub room_is : room ≡ laid_over front begun

pub IsRun-begin : (whole : Streamed) (room : List ℕ) → IsRun whole whole no_run room room
IsRun-begin whole room = record {
  port = refl;
  held = omega arith;
  freed = omega arith;
  front = [];
  said = refl;
  at = refl;
  room_is = refl;
}

-- what was written behind a front stands behind it
pub put_behind : (front text begun room : List ℕ) (at : ℕ) → at ≡ length front
    → room ≡ laid_over front begun → laid_at at text room ≡ laid_over (front ++ text) begun
put_behind front text begun room at size is =
    let behind = drop (length front) begun in
    let taken : take at room ≡ front =
    ap (take at) is ∙ take_at front behind at (sym size) in
    let dropped : drop at room ≡ behind = ap (drop at) is ∙ drop_at front behind at (sym size) in
    let past : drop (length text) behind ≡ drop (length (front ++ text)) begun =
    drop-drop (length text) (length front) begun
    ∙ ap (λ (n : ℕ). drop n begun) (sym (length-append front text)) in
    ap (λ (f : List ℕ). f ++ laid_over text (drop at room)) taken
    ∙ ap (λ (r : List ℕ). front ++ laid_over text r) dropped
    ∙ sym (append_assoc front text (drop (length text) behind))
    ∙ ap (λ (r : List ℕ). (front ++ text) ++ r) past

-- the answers of what came first, and of what is behind it
first_replies : (reply : Option Fields) (replies : List Fields)
    → replies_wires (option_to_list reply ++ replies)
    ≡ reply_wires reply ++ replies_wires replies
first_replies None replies = refl
first_replies (Some symbol) replies = refl

-- one thing more was done of what is left
pub IsRun-more : {whole rest left : Streamed} {did did_next : RunDid}
    {begun room room_next : List ℕ} (acted : Acted)
    → IsRun whole rest did begun room → rest ≡ followed acted left
    → AddsChar acted did did_next room room_next
    → IsRun whole left did_next begun room_next
IsRun-more {whole} {rest} {left} {did} {did_next} {begun} {room} {room_next} acted h is adds =
    let wires = reply_wires acted.reply in
    let held : length rest.held ≡ length (option_to_list acted.held) + length left.held =
    ap (λ (s : Streamed). length s.held) is ∙ length-append (option_to_list acted.held) left.held in
    let freed : length rest.freed ≡ length acted.freed + length left.freed =
    ap (λ (s : Streamed). length s.freed) is ∙ length-append acted.freed left.freed in
    record {
      port = h.port ∙ ap (λ (s : Streamed). s.port) is;
      held = omega (arith, h.held, held, adds.held);
      freed = omega (arith, h.freed, freed, adds.freed);
      front = h.front ++ wires;
      said = h.said
          ∙ ap (λ (s : Streamed). h.front ++ replies_wires s.replies) is
          ∙ ap (λ (r : List ℕ). h.front ++ r) (first_replies acted.reply left.replies)
          ∙ sym (append_assoc h.front wires (replies_wires left.replies));
      at = adds.sent ∙ ap (λ (n : ℕ). n + length wires) h.at
          ∙ sym (length-append h.front wires);
      room_is = adds.room_is ∙ put_behind h.front wires begun room did.sent h.at h.room_is;
    }

-- nothing is left
pub IsRun-end : {whole : Streamed} {did : RunDid} {begun room : List ℕ} (port : PortState)
    → IsRun whole (unmoved port) did begun room
    → (whole.port ≡ port) × TellsRun whole did begun room
IsRun-end {whole} {did} {begun} {room} port h =
    let said : replies_wires whole.replies ≡ h.front = h.said ∙ append-nil h.front in (
      h.port,
      record {
        held = omega (arith, h.held);
        freed = omega (arith, h.freed);
        sent = h.at ∙ ap length (sym said);
        room_is = h.room_is ∙ ap (λ (f : List ℕ). laid_over f begun) (sym said);
      },
    )

-- ---- the characters

pub each-next : (port : PortState) (numbers left : List ℕ) (number : ℕ)
    → numbers ≡ number ∷ left
    → takes_each port (wire_chars numbers)
    ≡ followed (takes port (wire_char number))
    (takes_each (takes port (wire_char number)).port (wire_chars left))
unfolding takes_each
each-next port numbers left number is =
    ap (λ (ns : List ℕ). takes_each port (wire_chars ns)) is

pub each-none : (port : PortState) (numbers : List ℕ) → length numbers ≤ 0
    → takes_each port (wire_chars numbers) ≡ unmoved port
unfolding takes_each
each-none port [] none = refl
each-none port (n ∷ ns) none = absurd (omega arith)

-- So much of a run of so many characters was done, and no count passes its bound.
pub record IsRunWithin (whole rest : Streamed) (did : RunDid) (begun room : List ℕ)
    (all left : ℕ) : Type 0 where
  pub run : IsRun whole rest did begun room
  pub held : did.held + left ≤ all
  pub freed : did.freed + 31 * left ≤ 31 * all
  pub sent : did.sent + 4 * left ≤ 4 * all

pub one_held : (held : Option (List ℕ)) → length (option_to_list held) ≤ 1
one_held None = omega arith
one_held (Some packet) = omega arith

pub IsRunWithin-more : {whole rest left : Streamed} {did did_next : RunDid}
    {begun room room_next : List ℕ} (acted : Acted) (all count less : ℕ)
    → IsRunWithin whole rest did begun room all count → rest ≡ followed acted left
    → AddsChar acted did did_next room room_next → count ≡ suc less
    → IsRunWithin whole left did_next begun room_next all less
IsRunWithin-more acted all count less h is adds one =
    let few : length (option_to_list acted.held) ≤ 1 = one_held acted.held in record {
      run = IsRun-more acted h.run is adds;
      held = omega (arith, h.held, adds.held, few, one);
      freed = omega (arith, h.freed, adds.freed, adds.few, one);
      sent = omega (arith, h.sent, adds.sent, adds.short, one);
    }
