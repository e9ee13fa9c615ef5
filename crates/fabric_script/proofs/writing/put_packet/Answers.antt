use Rattle.std.proofs.Common.{◌≡◌, ℕ, Bool, true, false, List, [], ◌∷◌, ◌++◌, refl, sym, ap, ◌∙◌, subst}
use Rattle.std.specs.Fmt.{decimal}
use Rattle.rio_chars.specs.Written.{Outgoing, Writes}
use Rattle.fabric_script.specs.declared.given_packets.Contents.{Contents}
use Rattle.fabric_script.specs.declared.given_packets.Contents.TheVariants as Of
use Rattle.fabric_script.specs.declared.given_packets.GivenPacket.{GivenPacket}
use Rattle.fabric_script.specs.GivenPackets.{given_line, line_giving}
use Rattle.fabric_script.specs.LineTexts.{after_words, value_texts}
use Rattle.fabric_script.specs.Names.{name_of}
use Rattle.fabric_script.specs.Texts.{digits_text, hex_text}
use Rattle.fabric_script.proofs.SpacedWords.{Writes-words}
use Rattle.fabric_script.proofs.writing.put_packet.Goals as goal

-- the words of what stands behind the IDs, with the destination
abbrev contents_texts : ℕ → Contents → List (List ℕ)
contents_texts dest (Of.Data ftype hex) =
    decimal ftype ∷ decimal dest ∷ hex_text hex.now ∷ []
contents_texts dest (Of.Read head) =
    decimal dest ∷ decimal head.hop ∷ decimal head.tid ∷ digits_text 6 head.offset ∷ []
contents_texts dest (Of.Write head value) =
    decimal dest ∷ decimal head.hop ∷ decimal head.tid ∷ digits_text 6 head.offset
    ∷ digits_text 8 value ∷ []

-- the words of a line that gives a packet
given_texts : (names : List (List ℕ)) (node prio : ℕ) (large : Bool) (dest : ℕ)
    (contents : Contents) → value_texts names (given_line node prio large dest contents)
    ≡ name_of names node ∷ decimal prio ∷ contents_texts dest contents
given_texts names node prio true dest (Of.Data ftype hex) = refl
given_texts names node prio true dest (Of.Read head) = refl
given_texts names node prio true dest (Of.Write head value) = refl
given_texts names node prio false dest (Of.Data ftype hex) = refl
given_texts names node prio false dest (Of.Read head) = refl
given_texts names node prio false dest (Of.Write head value) = refl

-- they are told, where this stands behind the IDs
told : {a b : Outgoing}
    (names : List (List ℕ)) (given : GivenPacket) (contents : Contents)
    → given.contents ≡ contents
    → Writes a b (after_words []
    (name_of names given.node ∷ decimal given.prio ∷ contents_texts given.dest contents))
    → Writes a b (after_words [] (value_texts names (line_giving given)))
told {a} {b} names given contents is h =
    let texts = given_texts names given.node given.prio given.large given.dest given.contents
    ∙ ap (λ c. name_of names given.node ∷ decimal given.prio ∷ contents_texts given.dest c) is in
    subst (λ ts. Writes a b (after_words [] ts)) (sym texts) h

pub returns-in-Data : goal.returns-in-Data
returns-in-Data g c =
    let given = c.args.given.now in
    let ids : List (List ℕ) = name_of c.args.names.now given.node ∷ decimal given.prio ∷ [] in
    let numbers : List (List ℕ) = decimal c.in-Data.ftype ∷ decimal given.dest ∷ [] in
    let bytes : List (List ℕ) = hex_text c.in-Data.hex.now ∷ [] in
    told c.args.names.now given _ c.in-Data.is
    (Writes-words (ids ++ numbers) bytes
    (Writes-words ids numbers (rw c.from.ensures at c.put_node_number.ensures)
    (rw (c.from-in-Data.ensures, c.from-in-Data-2.ensures) at c.put_numbers.ensures))
    (rw c.as_slice.ensures at c.put_bytes.ensures))

pub returns-in-Read : goal.returns-in-Read
returns-in-Read g c =
    let given = c.args.given.now in
    let ids : List (List ℕ) = name_of c.args.names.now given.node ∷ decimal given.prio ∷ [] in
    told c.args.names.now given _ c.in-Read.is
    (Writes-words ids (contents_texts given.dest (Of.Read c.in-Read.head))
    (rw c.from.ensures at c.put_node_number.ensures) c.put_access.ensures)

pub returns-in-Write : goal.returns-in-Write
returns-in-Write g c =
    let given = c.args.given.now in
    let ids : List (List ℕ) = name_of c.args.names.now given.node ∷ decimal given.prio ∷ [] in
    let head = contents_texts given.dest (Of.Read c.in-Write.head) in
    told c.args.names.now given _ c.in-Write.is
    (Writes-words (ids ++ head) (digits_text 8 c.in-Write.value ∷ [])
    (Writes-words ids head (rw c.from.ensures at c.put_node_number.ensures)
    c.put_access-in-Write.ensures) c.put_value.ensures)
