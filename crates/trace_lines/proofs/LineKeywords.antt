-- A line has one keyword, and no other keyword has the same text.
use Rattle.std.proofs.Common.{◌≡◌, ℕ, ◌==◌, cond, List, [], ◌∷◌, sum, refl, sym, ap, ◌∙◌}
use Rattle.link_model.specs.declared.event.Event.{Event}
use Rattle.fabric_script.specs.declared.ports.PortRef.{PortRef}
use Rattle.fabric_script.specs.declared.lines.Line.{Line}
use Rattle.fabric_model.specs.Steps.{Hold, Free, Take, Leave, Move, Drop, Answer, Linked, AtNode, ByDevice}
use Rattle.trace_lines.specs.Lines.{Full, Empty, Short, Early, NoStep, Sent, Got, Fired, TraceLine, Begun, Stepped, Signed, Lacked, Ended, Undetected}
use Rattle.trace_lines.specs.declared.keywords.Keyword.{Keyword}
use Rattle.trace_lines.specs.declared.keywords.Keyword.TheVariants as K
use Rattle.trace_lines.specs.Keywords.{keyword_text, trace_keyword_of, words_behind}
use Rattle.trace_lines.specs.Words.{trace_words}

all_keywords : List Keyword
all_keywords = K.Begun ∷ K.Hold ∷ K.Free ∷ K.Take ∷ K.Leave ∷ K.Move ∷ K.Drop ∷ K.Answer ∷ K.Sent
    ∷ K.Got ∷ K.Fire ∷ K.Full ∷ K.Empty ∷ K.Short ∷ K.Early ∷ K.NoStep ∷ K.End ∷ K.Undetected ∷ []

keyword_with_sum : ℕ → List Keyword → Keyword
keyword_with_sum n [] = K.End
keyword_with_sum n (keyword ∷ keywords) = cond (sum (keyword_text keyword) == n) keyword
    (keyword_with_sum n keywords)

keyword_with_sum-text : (keyword : Keyword) → keyword_with_sum
    (sum (keyword_text keyword)) all_keywords ≡ keyword
unfolding keyword_with_sum all_keywords
keyword_with_sum-text K.Begun = refl
keyword_with_sum-text K.Hold = refl
keyword_with_sum-text K.Free = refl
keyword_with_sum-text K.Take = refl
keyword_with_sum-text K.Leave = refl
keyword_with_sum-text K.Move = refl
keyword_with_sum-text K.Drop = refl
keyword_with_sum-text K.Answer = refl
keyword_with_sum-text K.Sent = refl
keyword_with_sum-text K.Got = refl
keyword_with_sum-text K.Fire = refl
keyword_with_sum-text K.Full = refl
keyword_with_sum-text K.Empty = refl
keyword_with_sum-text K.Short = refl
keyword_with_sum-text K.Early = refl
keyword_with_sum-text K.NoStep = refl
keyword_with_sum-text K.End = refl
keyword_with_sum-text K.Undetected = refl

pub head_is : (names : List (List ℕ)) (line : TraceLine) → trace_words names line ≡ keyword_text
    (trace_keyword_of line) ∷ words_behind names line
head_is names (Begun line) = refl
head_is names (Stepped (Linked (Hold q packet))) = refl
head_is names (Stepped (Linked (Free q packet))) = refl
head_is names (Stepped (AtNode (Take n packet))) = refl
head_is names (Stepped (AtNode (Leave n packet))) = refl
head_is names (Stepped (ByDevice (Move p q packet))) = refl
head_is names (Stepped (ByDevice (Drop p packet))) = refl
head_is names (Stepped (ByDevice (Answer p packet response))) = refl
head_is names (Signed (Sent p chars)) = refl
head_is names (Signed (Got p chars)) = refl
head_is names (Signed (Fired p)) = refl
head_is names (Lacked Full) = refl
head_is names (Lacked Empty) = refl
head_is names (Lacked Short) = refl
head_is names (Lacked Early) = refl
head_is names (Lacked NoStep) = refl
head_is names Ended = refl
head_is names (Undetected number q e) = refl

pub same_keyword : (names : List (List ℕ)) (a b : TraceLine) → trace_words names a
    ≡ trace_words names b → trace_keyword_of a ≡ trace_keyword_of b
same_keyword names a b is =
    let words : keyword_text (trace_keyword_of a) ∷ words_behind names a
    ≡ keyword_text (trace_keyword_of b)
    ∷ words_behind names b = sym (head_is names a) ∙ is ∙ head_is names b in
    let heads : keyword_text (trace_keyword_of a) ≡ keyword_text (trace_keyword_of b) = cc in
    sym (keyword_with_sum-text (trace_keyword_of a)) ∙ ap (λ w. keyword_with_sum
    (sum w) all_keywords) heads ∙ keyword_with_sum-text (trace_keyword_of b)

-- ---- what a keyword says of the line

pub begun_of : (b : TraceLine) → K.Begun ≡ trace_keyword_of b → (line : Line) × (b ≡ Begun line)
begun_of (Begun line) is = (line, refl)
begun_of (Stepped (Linked (Hold q packet))) is = absurd cc
begun_of (Stepped (Linked (Free q packet))) is = absurd cc
begun_of (Stepped (AtNode (Take n packet))) is = absurd cc
begun_of (Stepped (AtNode (Leave n packet))) is = absurd cc
begun_of (Stepped (ByDevice (Move p q packet))) is = absurd cc
begun_of (Stepped (ByDevice (Drop p packet))) is = absurd cc
begun_of (Stepped (ByDevice (Answer p packet response))) is = absurd cc
begun_of (Signed (Sent p chars)) is = absurd cc
begun_of (Signed (Got p chars)) is = absurd cc
begun_of (Signed (Fired p)) is = absurd cc
begun_of (Lacked Full) is = absurd cc
begun_of (Lacked Empty) is = absurd cc
begun_of (Lacked Short) is = absurd cc
begun_of (Lacked Early) is = absurd cc
begun_of (Lacked NoStep) is = absurd cc
begun_of Ended is = absurd cc
begun_of (Undetected number q e) is = absurd cc

pub undetected_of : (b : TraceLine) → K.Undetected ≡ trace_keyword_of b → (number : ℕ)
    × (q : PortRef) ×
    (e : Event) × (b ≡ Undetected number q e)
undetected_of (Begun line) is = absurd cc
undetected_of (Stepped (Linked (Hold q packet))) is = absurd cc
undetected_of (Stepped (Linked (Free q packet))) is = absurd cc
undetected_of (Stepped (AtNode (Take n packet))) is = absurd cc
undetected_of (Stepped (AtNode (Leave n packet))) is = absurd cc
undetected_of (Stepped (ByDevice (Move p q packet))) is = absurd cc
undetected_of (Stepped (ByDevice (Drop p packet))) is = absurd cc
undetected_of (Stepped (ByDevice (Answer p packet response))) is = absurd cc
undetected_of (Signed (Sent p chars)) is = absurd cc
undetected_of (Signed (Got p chars)) is = absurd cc
undetected_of (Signed (Fired p)) is = absurd cc
undetected_of (Lacked Full) is = absurd cc
undetected_of (Lacked Empty) is = absurd cc
undetected_of (Lacked Short) is = absurd cc
undetected_of (Lacked Early) is = absurd cc
undetected_of (Lacked NoStep) is = absurd cc
undetected_of Ended is = absurd cc
undetected_of (Undetected number q e) is = (number, q, e, refl)
