-- The kind of each line of a trace.
use Rattle.std.proofs.Common.{◌≡◌, ◌≢◌, ℕ, List, refl, sym, ◌∙◌}
use Rattle.fabric_model.specs.Steps.{Hold, Free, Take, Leave, Move, Drop, Answer, Linked, AtNode, ByDevice}
use Rattle.fabric_script.specs.Words.{first_word}
use Rattle.trace_lines.specs.Lines.{Full, Empty, Short, Early, NoStep, Sent, Got, Fired, TraceLine, Begun, Stepped, Signed, Lacked, Ended, Undetected}
use Rattle.trace_lines.specs.Words.{trace_words}
use Rattle.check_words.specs.declared.kinds.LineKind.{LineKind}
use Rattle.check_words.specs.declared.kinds.LineKind.TheVariants as K
use Rattle.check_words.specs.Kinds.{line_kind_text}

abbrev kind_of_line : TraceLine → LineKind
kind_of_line (Begun line) = K.Begun
kind_of_line (Stepped (Linked (Hold q packet))) = K.Hold
kind_of_line (Stepped (Linked (Free p packet))) = K.Free
kind_of_line (Stepped (AtNode (Take n packet))) = K.Take
kind_of_line (Stepped (AtNode (Leave n packet))) = K.Leave
kind_of_line (Stepped (ByDevice (Move p q packet))) = K.Move
kind_of_line (Stepped (ByDevice (Drop p packet))) = K.Drop
kind_of_line (Stepped (ByDevice (Answer p packet response))) = K.Answer
kind_of_line (Signed (Sent p chars)) = K.Sent
kind_of_line (Signed (Got q chars)) = K.Got
kind_of_line (Signed (Fired p)) = K.Fire
kind_of_line (Lacked Full) = K.Full
kind_of_line (Lacked Empty) = K.Empty
kind_of_line (Lacked Short) = K.Short
kind_of_line (Lacked Early) = K.Early
kind_of_line (Lacked NoStep) = K.NoStep
kind_of_line Ended = K.End
kind_of_line (Undetected number q e) = K.Undetected

begins : (names : List (List ℕ)) (line : TraceLine)
    → first_word (trace_words names line) ≡ line_kind_text (kind_of_line line)
begins names (Begun line) = refl
begins names (Stepped (Linked (Hold q packet))) = refl
begins names (Stepped (Linked (Free p packet))) = refl
begins names (Stepped (AtNode (Take n packet))) = refl
begins names (Stepped (AtNode (Leave n packet))) = refl
begins names (Stepped (ByDevice (Move p q packet))) = refl
begins names (Stepped (ByDevice (Drop p packet))) = refl
begins names (Stepped (ByDevice (Answer p packet response))) = refl
begins names (Signed (Sent p chars)) = refl
begins names (Signed (Got q chars)) = refl
begins names (Signed (Fired p)) = refl
begins names (Lacked Full) = refl
begins names (Lacked Empty) = refl
begins names (Lacked Short) = refl
begins names (Lacked Early) = refl
begins names (Lacked NoStep) = refl
begins names Ended = refl
begins names (Undetected number q e) = refl

-- a word that no kind of line has is the first of no line
pub no_line_begins : (word : List ℕ) → ((kind : LineKind) → line_kind_text kind ≢ word)
    → (names : List (List ℕ)) (line : TraceLine) → first_word (trace_words names line) ≢ word
no_line_begins word none names line same = none (kind_of_line line) (sym (begins names line) ∙ same)
