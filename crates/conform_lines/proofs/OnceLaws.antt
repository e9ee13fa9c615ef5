-- A line of a scenario is read in one way.
use Rattle.std.proofs.Common.{◌≡◌, ℕ, ◌+◌, ◌*◌, ◌==◌, inl, inr, true, false, Ok, Err, List, [], ◌∷◌, length, map, get_or, slice_set, slice_range, refl, sym, ap, ◌∙◌, subst, arith, if◌then◌else◌}
use Rattle.std.specs.Fmt.{decimal}
use Rattle.std.proofs.lemmas.Fmt.{decimal_injective}
use Rattle.rio_symbols.specs.Fields.{Fields}
use Rattle.rio_chars.specs.CharText.{char_text_of}
use Rattle.rio_chars.specs.declared.chars.Char.{Char}
use Rattle.rio_chars.proofs.CharLaws.{char_text_of-injective}
use Rattle.fabric_script.proofs.HexWords.{hex_text-injective}
use Rattle.fabric_script.specs.Lines.{words_of}
use Rattle.fabric_script.specs.Words.{first_word}
use Rattle.link_model.specs.ReadingSpelt.{data_chars, symbol_chars_of}
use Rattle.port_lines.specs.Requests.{AsksRequest}
use Rattle.port_lines.specs.declared.faults.RequestRefusal.{RequestRefusal}
use Rattle.port_lines.specs.declared.requests.PortRequest.{PortRequest}
use Rattle.port_lines.specs.declared.requests.PortRequest.TheVariants.{Got, Turn, TimeOut, Send, Take, State, Reset, Clock}
use Rattle.conform_lines.specs.declared.items.LinkItem.{LinkItem}
use Rattle.conform_lines.specs.declared.items.LinkItem.TheVariants.{Symbol, Data, Packet, Spoiled, Part}
use Rattle.conform_lines.specs.declared.symbols.SymbolName.{SymbolName}
use Rattle.conform_lines.specs.declared.symbols.SymbolName.TheVariants as Names
use Rattle.conform_lines.specs.Names.{symbol_word, symbol_fields}
use Rattle.conform_lines.specs.Items.{SpellsParameters, SpellsLinkBytes, SpellsPart, SpellsItem, bit_turned, item_chars, packet_between}
use Rattle.conform_lines.specs.Stimuli.{ReadsStimulus}
use Rattle.conform_lines.proofs.ItemLaws.{first_same, rest_same, number_once, send_once, link_bytes_once, part_ends}

-- ---- a symbol

-- the length and the third letter of a word, as one number, and the symbol with such a word
abbrev name_code : List ℕ → ℕ
name_code word = 256 * length word + get_or word 2 0

abbrev name_at : ℕ → SymbolName
name_at n =
    if n == 2147 then Names.Accepted else
    (if n == 1396 then Names.Retry else
    (if n == 3188 then Names.NotAccepted else
    (if n == 1633 then Names.Status else
    (if n == 2163 then Names.Response else
    (if n == 1377 then Names.Start else
    (if n == 1391 then Names.Stomp else
    (if n == 868 then Names.End else
    (if n == 1907 then Names.Restart else
    (if n == 1905 then Names.Request else
    (if n == 1395 then Names.Reset else Names.Multicast))))))))))

name_back : (name : SymbolName) → name_at (name_code (symbol_word name)) ≡ name
name_back Names.Accepted = refl
name_back Names.Retry = refl
name_back Names.NotAccepted = refl
name_back Names.Status = refl
name_back Names.Response = refl
name_back Names.Start = refl
name_back Names.Stomp = refl
name_back Names.End = refl
name_back Names.Restart = refl
name_back Names.Request = refl
name_back Names.Reset = refl
name_back Names.Multicast = refl

name_once : (one other : SymbolName) → symbol_word one ≡ symbol_word other → one ≡ other
name_once one other same =
    sym (name_back one) ∙ ap (λ word. name_at (name_code word)) same ∙ name_back other

parameters_once : (words : List (List ℕ)) (p0 p1 q0 q1 : ℕ) → SpellsParameters words p0 p1
    → SpellsParameters words q0 q1 → (p0 ≡ q0) × (p1 ≡ q1)
parameters_once [] p0 p1 q0 q1 h k = (h.0 ∙ sym k.0, h.1 ∙ sym k.1)
parameters_once (first ∷ []) p0 p1 q0 q1 h k = (
  number_once p0 q0 (omega (arith, h.0)) (omega (arith, k.0)) (sym h.1 ∙ k.1),
  h.2 ∙ sym k.2,
)
parameters_once (first ∷ second ∷ []) p0 p1 q0 q1 h k = (
  number_once p0 q0 (omega (arith, h.0)) (omega (arith, k.0)) (sym h.2 ∙ k.2),
  number_once p1 q1 (omega (arith, h.1)) (omega (arith, k.1)) (sym h.3 ∙ k.3),
)
parameters_once (first ∷ second ∷ third ∷ words) p0 p1 q0 q1 h k = absurd h

symbol_once : (words : List (List ℕ)) (one other : Fields) → SpellsItem (Symbol one) words
    → SpellsItem (Symbol other) words → one ≡ other
symbol_once words one other h k =
    let name = name_once h.0 k.0 (first_same h.4 k.4) in
    let both =
    parameters_once k.1 h.2 h.3 k.2 k.3
    (subst (λ ws. SpellsParameters ws h.2 h.3) (rest_same h.4 k.4) h.5) k.5 in
    h.6 ∙ ap (λ n. symbol_fields n h.2 h.3) name ∙ ap (λ p. symbol_fields k.0 p h.3) both.0
    ∙ ap (symbol_fields k.0 k.2) both.1 ∙ sym k.6

-- ---- other items

part_once : (words : List (List ℕ)) (one other : List ℕ) → SpellsPart words one
    → SpellsPart words other → one ≡ other
part_once words one other h k =
    let ends = part_ends words one h in
    let others = part_ends words other k in
    let rest : decimal h.to ∷ h.behind ≡ decimal k.to ∷ k.behind =
    rest_same h.words_are k.words_are in
    let from : h.from ≡ k.from =
    number_once h.from k.from (omega (arith, ends.0)) (omega (arith, others.0))
    (first_same h.words_are k.words_are) in
    let to : h.to ≡ k.to =
    number_once h.to k.to (omega (arith, ends.1)) (omega (arith, others.1))
    (first_same refl rest) in
    let bytes : h.bytes ≡ k.bytes =
    link_bytes_once k.behind h.bytes k.bytes
    (subst (λ ws. SpellsLinkBytes ws h.bytes) (rest_same refl rest) h.spells) k.spells in
    h.part_is ∙ ap (λ bs. slice_range bs h.from h.to) bytes
    ∙ ap (λ n. slice_range k.bytes n h.to) from ∙ ap (slice_range k.bytes k.from) to
    ∙ sym k.part_is

-- the number of a kind of item, and of its first word
abbrev item_number : LinkItem → ℕ
item_number (Symbol symbol) = 0
item_number (Data bytes) = 1
item_number (Packet bytes) = 2
item_number (Spoiled bytes) = 3
item_number (Part bytes) = 4

abbrev item_at : List ℕ → ℕ
item_at word =
    if length word == 4 then (if get_or word 0 0 == 100 then 1 else 4) else
    (if get_or word 0 0 == 112 then 2 else
    (if get_or word 1 0 == 112 then 3 else 0))

name_number : (name : SymbolName) → item_at (symbol_word name) ≡ 0
name_number Names.Accepted = refl
name_number Names.Retry = refl
name_number Names.NotAccepted = refl
name_number Names.Status = refl
name_number Names.Response = refl
name_number Names.Start = refl
name_number Names.Stomp = refl
name_number Names.End = refl
name_number Names.Restart = refl
name_number Names.Request = refl
name_number Names.Reset = refl
name_number Names.Multicast = refl

numbered : (item : LinkItem) (words : List (List ℕ)) → SpellsItem item words
    → item_at (first_word words) ≡ item_number item
numbered (Symbol symbol) words h = ap (λ ws. item_at (first_word ws)) h.4 ∙ name_number h.0
numbered (Data bytes) words h = ap (λ ws. item_at (first_word ws)) h.1
numbered (Packet bytes) words h = ap (λ ws. item_at (first_word ws)) h.1
numbered (Spoiled bytes) words h = ap (λ ws. item_at (first_word ws)) h.2
numbered (Part bytes) words h = ap (λ ws. item_at (first_word ws)) h.1

-- words put the same characters on the wire
item_once : (one other : LinkItem) (words : List (List ℕ)) → SpellsItem one words
    → SpellsItem other words → item_chars one ≡ item_chars other
item_once (Symbol one) (Symbol other) words h k =
    ap symbol_chars_of (symbol_once words one other h k)
item_once (Data one) (Data other) words h k =
    ap data_chars (hex_text-injective one.items other.items
    (first_same refl (rest_same h.1 k.1)))
item_once (Packet one) (Packet other) words h k =
    ap packet_between (link_bytes_once k.0 one.items other.items
    (subst (λ ws. SpellsLinkBytes ws one.items) (rest_same h.1 k.1) h.2) k.2)
item_once (Spoiled one) (Spoiled other) words h k =
    let right : h.1 ≡ k.1 =
    link_bytes_once k.0 h.1 k.1
    (subst (λ ws. SpellsLinkBytes ws h.1) (rest_same h.2 k.2) h.3) k.3 in
    ap packet_between
    (h.5 ∙ ap (λ bs. slice_set bs 4 (bit_turned (get_or bs 4 0))) right ∙ sym k.5)
item_once (Part one) (Part other) words h k =
    ap data_chars (part_once k.0 one.items other.items
    (subst (λ ws. SpellsPart ws one.items) (rest_same h.1 k.1) h.2) k.2)
item_once one other words h k =
    let same : item_number one ≡ item_number other =
    sym (numbered one words h) ∙ numbered other words k in
    absurd (omega (arith, same))

-- ---- what is asked of a port

-- the first two letters of the first word, as one number, by the request
abbrev letters_at : List (List ℕ) → ℕ
letters_at words = 256 * get_or (first_word words) 0 0 + get_or (first_word words) 1 0

abbrev request_letters : PortRequest → ℕ
request_letters (Got chars) = 26479
request_letters (Turn count) = 29813
request_letters TimeOut = 29801
request_letters (Send packet) = 29541
request_letters Take = 29793
request_letters State = 29556
request_letters Reset = 29285
request_letters (Clock chars) = 25452

lettered : (request : PortRequest) (words : List (List ℕ)) → AsksRequest request words
    → letters_at words ≡ request_letters request
lettered (Got chars) words h = ap letters_at h.1
lettered (Turn count) words h = ap letters_at h.1
lettered TimeOut words h = ap letters_at h
lettered (Send packet) words (false, behind, is, h) = ap letters_at is
lettered (Send packet) words (true, behind, is, h) = ap letters_at is
lettered Take words h = ap letters_at h
lettered State words h = ap letters_at h
lettered Reset words h = ap letters_at h
lettered (Clock chars) words h = ap letters_at h.1

-- texts of characters are those of no others
chars_once : (one other : List Char) → map char_text_of one ≡ map char_text_of other → one ≡ other
chars_once [] [] e = refl
chars_once [] (d ∷ other) e = absurd cc
chars_once (c ∷ one) [] e = absurd cc
chars_once (c ∷ one) (d ∷ other) e =
    let first = char_text_of-injective c d cc in
    let rest = chars_once one other cc in
    cc

pub request_once : (one other : PortRequest) (words : List (List ℕ)) → AsksRequest one words
    → AsksRequest other words → one ≡ other
request_once (Got one) (Got other) words h k =
    ap (λ cs. Got cs) (chars_once one other (sym h.2.1 ∙ rest_same h.1 k.1 ∙ k.2.1))
request_once (Turn one) (Turn other) words h k =
    ap (λ n. Turn n)
    (decimal_injective one other (omega (arith, h.2.1)) (omega (arith, k.2.1))
    (first_same refl (sym h.2.2 ∙ rest_same h.1 k.1 ∙ k.2.2)))
request_once TimeOut TimeOut words h k = refl
request_once (Send one) (Send other) words h k = ap (λ p. Send p) (send_once words one other h k)
request_once Take Take words h k = refl
request_once State State words h k = refl
request_once Reset Reset words h k = refl
request_once (Clock one) (Clock other) words h k =
    ap (λ cs. Clock cs) (chars_once one other (sym h.2.1 ∙ rest_same h.1 k.1 ∙ k.2.1))
request_once one other words h k =
    let same : request_letters one ≡ request_letters other =
    sym (lettered one words h) ∙ lettered other words k in
    absurd (omega (arith, same))

-- ---- a line

pub stimulus_once : (line : List ℕ) (one other : PortRequest) → ReadsStimulus line (Ok one)
    → ReadsStimulus line (Ok other) → one ≡ other
stimulus_once line one other (inl h) (inl k) =
    h.2 ∙ ap (λ cs. Got cs) (item_once h.0 k.0 (words_of line) h.1 k.1) ∙ sym k.2
stimulus_once line one other (inl h) (inr k) = absurd (k.0 one h)
stimulus_once line one other (inr h) (inl k) = absurd (h.0 other k)
stimulus_once line one other (inr h) (inr k) = request_once one other (words_of line) h.1 k.1

pub stimulus_read : (line : List ℕ) (request : PortRequest) (refusal : RequestRefusal)
    → ReadsStimulus line (Ok request) → ¬ ReadsStimulus line (Err refusal)
stimulus_read line request refusal (inl wire) h = h.0 request wire
stimulus_read line request refusal (inr asks) h = h.1.0 request asks.1
