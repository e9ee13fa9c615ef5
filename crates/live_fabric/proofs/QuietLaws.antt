-- What is left of a text without the lines with characters.
use Rattle.std.proofs.Common.{◌≡◌, ◌==◌, not, ℕ, Bool, true, false, if◌then◌else◌, List, [], ◌∷◌, ◌++◌, Option, Some, None, codes, refl, sym, ap, ◌∙◌, subst, append-nil, append_assoc}
use Rattle.std.specs.Io.KnownBytes.{Appends}
use Rattle.std.specs.List.{flat_map}
use Rattle.std.proofs.KnownBytes.{Appends-nil}
use Rattle.std.proofs.lemmas.List.Concat.{flat_map-append}
use Rattle.std.proofs.lemmas.List.Elements.{All-nil, All-cons}
use Rattle.std.proofs.lemmas.List.Splits.{slice_split_at}
use Rattle.rio_chars.specs.Written.{Outgoing, TextTold, Writes}
use Rattle.rio_chars.proofs.WrittenLaws.{Told-end, Writes-then}
use Rattle.fabric_script.specs.Scripts.{ScriptPasses}
use Rattle.fabric_script.proofs.Points.{Lacks, and_parts}
use Rattle.fabric_model.specs.Steps.{Hold, Free, Take, Leave, Move, Drop, Answer, Linked, AtNode, ByDevice}
use Rattle.fabric_trace.specs.Known.{UndetectedAt}
use Rattle.live_fabric.proofs.LineFeeds.{feedless, Feedless, AreFeedless, names_feedless, trace_line}
use Rattle.trace_lines.specs.Lines.{TraceLine, Begun, Stepped, Signed, Lacked, Ended, Undetected, Sent, Got, Fired, Full, Empty, Short, Early, NoStep}
use Rattle.trace_lines.specs.Text.{trace_line_text, trace_text}
use Rattle.fabric_script.specs.declared.lines.Line.{Line}
use Rattle.live_fabric.specs.declared.answers.Told.{Told}
use Rattle.live_fabric.specs.declared.live.Live.{Live}
use Rattle.live_fabric.specs.Lines.{Taken, seen_so_far, taken_with, undetected_at_text}
use Rattle.live_fabric.specs.Holding.{LiveHolds}
use Rattle.live_fabric.specs.Answers.{Happens, HappensWhole}
use Rattle.live_fabric.specs.Telling.{has_chars_line, without_chars, block_told}
use Rattle.live_fabric.specs.Pieces.{is_untold, told_piece, quiet_text}
use Rattle.live_fabric.proofs.AnsweringLaws.{undetected_line_text}

-- ---- a line of a trace

-- it is left out by its text exactly if it has characters
untold_line : (names : List (List ℕ)) (line : TraceLine)
    → is_untold (trace_line_text names line) ≡ has_chars_line line
untold_line names (Begun line) = refl
untold_line names (Stepped (Linked (Hold q packet))) = refl
untold_line names (Stepped (Linked (Free p packet))) = refl
untold_line names (Stepped (AtNode (Take n packet))) = refl
untold_line names (Stepped (AtNode (Leave n packet))) = refl
untold_line names (Stepped (ByDevice (Move p q packet))) = refl
untold_line names (Stepped (ByDevice (Drop p packet))) = refl
untold_line names (Stepped (ByDevice (Answer p packet response))) = refl
untold_line names (Signed (Sent p chars)) = refl
untold_line names (Signed (Got q chars)) = refl
untold_line names (Signed (Fired p)) = refl
untold_line names (Lacked Full) = refl
untold_line names (Lacked Empty) = refl
untold_line names (Lacked Short) = refl
untold_line names (Lacked Early) = refl
untold_line names (Lacked NoStep) = refl
untold_line names Ended = refl
untold_line names (Undetected number q e) = refl

not_feed : (b : Bool) → not b ≡ true → b ≡ false
not_feed true is = absurd cc
not_feed false is = refl

lacks_feed : (bytes : List ℕ) → Feedless bytes → Lacks 10 bytes
lacks_feed [] is = All-nil (λ byte. (byte == 10) ≡ false)
lacks_feed (byte ∷ bytes) is =
    let parts = and_parts (not (byte == 10)) (feedless bytes) is in
    All-cons (λ b. (b == 10) ≡ false) byte bytes (not_feed (byte == 10) parts.0)
    (lacks_feed bytes parts.1)

-- ---- a trace

-- a line before others, by whether it has characters
with_first : (names : List (List ℕ)) (line : TraceLine) (lines : List TraceLine) (b : Bool)
    → (if b then [] else trace_line_text names line ++ codes "\n") ++ trace_text names
    (without_chars lines)
    ≡ trace_text names (if b then without_chars lines else line ∷ without_chars lines)
with_first names line lines true = refl
with_first names line lines false = refl

pub quiet_trace : (names : List (List ℕ)) → AreFeedless names → (lines : List TraceLine)
    → quiet_text (trace_text names lines) ≡ trace_text names (without_chars lines)
quiet_trace names named [] = refl
quiet_trace names named (line ∷ lines) =
    let text = trace_line_text names line in
    let behind = trace_text names lines in
    ap quiet_text (append_assoc text (10 ∷ []) behind)
    ∙ ap (flat_map told_piece) (slice_split_at (λ byte. byte == 10) text 10 behind
    (lacks_feed text (trace_line names named line)) refl)
    ∙ ap (λ (l : List ℕ). told_piece text ++ l) (quiet_trace names named lines)
    ∙ ap (λ b. (if b then [] else text ++ codes "\n") ++ trace_text names (without_chars lines))
    (untold_line names line)
    ∙ with_first names line lines (has_chars_line line)

last_stays : (block : List TraceLine) (last : TraceLine) → has_chars_line last ≡ false
    → without_chars (block ++ last ∷ []) ≡ without_chars block ++ last ∷ []
last_stays [] last is = rw is refl
last_stays (line ∷ block) last is =
    ap (λ l. if has_chars_line line then l else line ∷ l) (last_stays block last is)
    ∙ by_first (has_chars_line line)
  where
    by_first : (b : Bool)
        → (if b then without_chars block ++ last ∷ []
        else line ∷ (without_chars block ++ last ∷ []))
        ≡ (if b then without_chars block else line ∷ without_chars block) ++ last ∷ []
    by_first true = refl
    by_first false = refl

-- and behind it the line of an event that was not sent
quiet_found : (names : List (List ℕ)) → AreFeedless names → (block : List TraceLine) (number : ℕ)
    (found : Option UndetectedAt)
    → quiet_text (trace_text names block ++ undetected_at_text names number found)
    ≡ trace_text names (without_chars block) ++ undetected_at_text names number found
quiet_found names named block number None =
    ap quiet_text (append-nil (trace_text names block)) ∙ quiet_trace names named block
    ∙ sym (append-nil (trace_text names (without_chars block)))
quiet_found names named block number (Some found) =
    let last = Undetected number found.port found.event in
    ap quiet_text (sym (undetected_line_text names block number found.port found.event))
    ∙ quiet_trace names named (block ++ last ∷ [])
    ∙ ap (trace_text names) (last_stays block last refl)
    ∙ undetected_line_text names (without_chars block) number found.port found.event

pub quiet_block : (taken : Taken) (number : ℕ) (event : Line) (block : List TraceLine)
    → ScriptPasses taken.known.names taken.set_up
    → quiet_text (block_told false taken number event block)
    ≡ block_told true taken number event block
quiet_block taken number event block passes =
    quiet_found taken.known.names (names_feedless taken.known.names taken.set_up passes)
    (Begun event ∷ block) number (seen_so_far (taken_with taken number event block)).undetected

-- ---- pieces, one after another

piece_more : (done : List (List ℕ)) (piece : List ℕ)
    → flat_map told_piece (done ++ piece ∷ []) ≡ flat_map told_piece done ++ told_piece piece
piece_more done piece =
    flat_map-append told_piece done (piece ∷ [])
    ∙ ap (λ (l : List ℕ). flat_map told_piece done ++ l) (append-nil (told_piece piece))

pub untold_more : (done : List (List ℕ)) (piece : List ℕ) → is_untold piece ≡ true
    → flat_map told_piece (done ++ piece ∷ []) ≡ flat_map told_piece done
untold_more done piece is =
    piece_more done piece
    ∙ ap (λ b. flat_map told_piece done ++ (if b then [] else piece ++ codes "\n")) is
    ∙ append-nil (flat_map told_piece done)

pub told_more : (done : List (List ℕ)) (piece : List ℕ) → is_untold piece ≡ false
    → flat_map told_piece (done ++ piece ∷ [])
    ≡ flat_map told_piece done ++ (piece ++ codes "\n")
told_more done piece is =
    piece_more done piece
    ∙ ap (λ b. flat_map told_piece done ++ (if b then [] else piece ++ codes "\n")) is

-- ---- a block that was kept

pub same_text : (items text : List ℕ) → Appends (Some []) (Some items) text → items ≡ text
same_text items text appends = appends

-- a text was written to an outbox that had nothing to write, and then what waited
pub whole_told : (text : List ℕ) (out mid last : Outgoing) → out.waiting ≡ []
    → Writes out mid text → Writes mid last [] → last.failed ≡ false → last.waiting ≡ []
    → Appends out.written last.written text
whole_told text out mid last empty told flush fine none =
    let all : TextTold out.written last.written last.waiting last.failed text =
    subst (TextTold out.written last.written last.waiting last.failed) (append-nil text)
    ((Writes-then text [] told flush).told out.written [] (record {
      front = [];
      rest = [];
      whole = refl;
      told = Appends-nil out.written;
      waits = λ fine. sym empty;
    })) in
    Told-end out.written last.written last.waiting last.failed text all fine none

module _ (taken : Taken) (number : ℕ) (event : Line) (now : Live) (told : Told) where
  -- all of it was written
  pub happens_whole : (out mid last : Outgoing) → out.waiting ≡ []
      → Happens false taken number event out mid now told → Writes mid last []
      → last.failed ≡ false → last.waiting ≡ []
      → HappensWhole taken number event out.written last.written now told
  happens_whole out mid last empty happens flush fine none =
      record {
        block = happens.block;
        is = happens.is;
        text = whole_told (block_told false taken number event happens.block) out mid last empty
            happens.text flush fine none;
        goes = happens.goes;
        did = happens.did;
      }

  -- and then its lines without those with characters
  pub happens_quietly : (out next : Outgoing) (live : Live) (items : List ℕ)
      → LiveHolds live taken
      → HappensWhole taken number event (Some []) (Some items) now told
      → Writes out next (quiet_text items)
      → Happens true taken number event out next now told
  happens_quietly out next live items holds whole written =
      record {
        block = whole.block;
        is = whole.is;
        text =
            subst (Writes out next)
            (ap quiet_text
            (same_text items (block_told false taken number event whole.block) whole.text)
            ∙ quiet_block taken number event whole.block holds.trace.passes)
            written;
        goes = whole.goes;
        did = whole.did;
      }
