-- What words spell as an item, and that they spell nothing else.
use Rattle.std.proofs.Common.{◌+◌, ◌*◌, ◌==◌, ◌||◌, true≢false, ◌≡◌, ◌≢◌, ℕ, ◌<◌, ◌≤◌, ◌^◌, All, Bool, true, false, Option, Some, None, is_some, List, [], ◌∷◌, codes, length, get_or, refl, sym, ap, ◌∙◌, subst, arith}
use denote.Ref.{Bor}
use Rattle.std.specs.Fmt.{decimal}
use Rattle.std.proofs.lemmas.Fmt.{decimal_injective}
use Rattle.rio_packets.specs.LinkForm.{LinkForm, Passes}
use Rattle.rio_packets.specs.Fields.{body_of}
use Rattle.rio_packets.proofs.FormLaws.{Passes-from_form, LinkForm-one}
use Rattle.link_model.specs.ReadingSpelt.{bytes_with_ack}
use Rattle.link_model.proofs.ReadingSpeltLaws.{length-bytes_with_ack}
use Rattle.fabric_script.specs.Texts.{hex_text}
use Rattle.fabric_script.proofs.HexWords.{hex_text-injective}
use Rattle.fabric_script.specs.Words.{words_left}
use Rattle.port_lines.proofs.RequestLaws.{some_left}
use Rattle.port_lines.specs.Kinds.{most_id}
use Rattle.port_lines.specs.Requests.{SpellsPacket, AsksRequest}
use Rattle.port_lines.specs.declared.requests.PortRequest.{PortRequest}
use Rattle.port_lines.specs.declared.requests.PortRequest.TheVariants.{Got, Turn, TimeOut, Send, Take, State, Reset, Clock}
use Rattle.conform_lines.specs.declared.items.LinkItem.{LinkItem}
use Rattle.conform_lines.specs.declared.items.LinkItem.TheVariants.{Symbol, Data, Packet, Spoiled, Part}
use Rattle.conform_lines.specs.declared.symbols.SymbolName.{SymbolName}
use Rattle.conform_lines.specs.declared.symbols.SymbolName.TheVariants as Names
use Rattle.conform_lines.specs.Names.{symbol_word}
use Rattle.conform_lines.specs.Items.{SpellsParameters, SpellsLinkBytes, SpellsPart, SpellsItem}

pub first_same : {word other : List ℕ} {words xs ys : List (List ℕ)} → words ≡ word ∷ xs
    → words ≡ other ∷ ys → word ≡ other
first_same h k = let both = sym h ∙ k in cc

pub rest_same : {word other : List ℕ} {words xs ys : List (List ℕ)} → words ≡ word ∷ xs
    → words ≡ other ∷ ys → xs ≡ ys
rest_same h k = let both = sym h ∙ k in cc

-- numbers below 2^16 have one text each
pub number_once : (a b : ℕ) → a ≤ 65535 → b ≤ 65535 → decimal a ≡ decimal b → a ≡ b
number_once a b h k is = decimal_injective a b (omega (arith, h)) (omega (arith, k)) is

pub id_fits : (large : Bool) (id : ℕ) → id ≤ most_id large → id ≤ 65535
id_fits false id h = omega (arith, h)
id_fits true id h = h

-- words say one packet
packet_once : (large : Bool) (words : List (List ℕ)) (p q : List ℕ) → SpellsPacket large words p
    → SpellsPacket large words q → p ≡ q
packet_once large words p q h k =
    let a = h.header in
    let b = k.header in
    let same = sym h.fields.words_are ∙ k.fields.words_are in
    let prio : a.prio ≡ b.prio =
    number_once a.prio b.prio (omega (arith, h.fields.prio)) (omega (arith, k.fields.prio)) cc in
    let ftype : a.ftype ≡ b.ftype =
    number_once a.ftype b.ftype (omega (arith, h.fields.ftype))
    (omega (arith, k.fields.ftype)) cc in
    let source : a.source ≡ b.source =
    number_once a.source b.source (id_fits large a.source h.fields.source)
    (id_fits large b.source k.fields.source) cc in
    let dest : a.dest ≡ b.dest =
    number_once a.dest b.dest (id_fits large a.dest h.fields.dest)
    (id_fits large b.dest k.fields.dest) cc in
    let texts : hex_text h.bytes ≡ hex_text k.bytes = cc in
    let bytes : h.bytes ≡ k.bytes = hex_text-injective h.bytes k.bytes texts in
    let body : body_of a.prio a.ftype large a.dest a.source h.bytes
    ≡ body_of b.prio b.ftype large b.dest b.source k.bytes =
    ap (λ x. body_of x a.ftype large a.dest a.source h.bytes) prio
    ∙ ap (λ x. body_of b.prio x large a.dest a.source h.bytes) ftype
    ∙ ap (λ x. body_of b.prio b.ftype large x a.source h.bytes) dest
    ∙ ap (λ x. body_of b.prio b.ftype large b.dest x h.bytes) source
    ∙ ap (λ x. body_of b.prio b.ftype large b.dest b.source x) bytes in
    LinkForm-one (body_of b.prio b.ftype large b.dest b.source k.bytes) p q
    (subst (λ x. LinkForm x p) body h.form) k.form

pub send_once : (words : List (List ℕ)) (p q : List ℕ) → AsksRequest (Send p) words
    → AsksRequest (Send q) words → p ≡ q
send_once words p q (false, behind, is, h) (false, other, same, k) =
    let rest : behind ≡ other = let both = sym is ∙ same in cc in
    packet_once false other p q (subst (λ ws. SpellsPacket false ws p) rest h) k
send_once words p q (true, behind, is, h) (true, other, same, k) =
    let rest : behind ≡ other = let both = sym is ∙ same in cc in
    packet_once true other p q (subst (λ ws. SpellsPacket true ws p) rest h) k
send_once words p q (false, behind, is, h) (true, other, same, k) =
    let both = sym is ∙ same in absurd cc
send_once words p q (true, behind, is, h) (false, other, same, k) =
    let both = sym is ∙ same in absurd cc

-- a packet that words ask for stands in its link form
pub send_passes : (words : List (List ℕ)) (packet : List ℕ) → AsksRequest (Send packet) words
    → Passes packet
send_passes words packet h =
    let its = h.3.header in
    Passes-from_form (body_of its.prio its.ftype h.0 its.dest its.source h.3.bytes) packet h.3.form

-- words spell one packet with an ackID
pub link_bytes_once : (words : List (List ℕ)) (one other : List ℕ) → SpellsLinkBytes words one
    → SpellsLinkBytes words other → one ≡ other
link_bytes_once words one other h k =
    let ack : h.ack ≡ k.ack =
    number_once h.ack k.ack (omega (arith, h.small)) (omega (arith, k.small))
    (first_same h.words_are k.words_are) in
    let packet =
    send_once k.line h.packet k.packet
    (subst (λ l. AsksRequest (Send h.packet) l) (rest_same h.words_are k.words_are) h.asks)
    k.asks in
    h.bytes_are ∙ ap (λ a. bytes_with_ack a h.packet) ack ∙ ap (bytes_with_ack k.ack) packet
    ∙ sym k.bytes_are

link_bytes_length : (words : List (List ℕ)) (bytes : List ℕ) (h : SpellsLinkBytes words bytes)
    → length bytes ≡ length h.packet
link_bytes_length words bytes h = ap length h.bytes_are ∙ length-bytes_with_ack h.packet h.ack

pub link_bytes_long : (words : List (List ℕ)) (bytes : List ℕ) → SpellsLinkBytes words bytes
    → 8 ≤ length bytes
link_bytes_long words bytes h =
    let form = send_passes h.line h.packet h.asks in
    omega (arith, form.least, link_bytes_length words bytes h)

pub link_bytes_most : (words : List (List ℕ)) (bytes : List ℕ) → SpellsLinkBytes words bytes
    → length bytes ≤ 276
link_bytes_most words bytes h =
    let form = send_passes h.line h.packet h.asks in
    omega (arith, form.most, link_bytes_length words bytes h)

-- words with another first one ask for no packet to be sent
no_send : (word : List ℕ) (words behind : List (List ℕ)) (packet : List ℕ) → word ≢ codes "send"
    → word ≢ codes "send16" → words ≡ word ∷ behind → ¬ AsksRequest (Send packet) words
no_send word words behind packet small large is (false, other, same, k) =
    let both = sym is ∙ same in small cc
no_send word words behind packet small large is (true, other, same, k) =
    let both = sym is ∙ same in large cc

pub asks_no_send : (request : PortRequest) (words : List (List ℕ)) (packet : List ℕ)
    → ((its : List ℕ) → request ≢ Send its) → AsksRequest request words
    → ¬ AsksRequest (Send packet) words
asks_no_send (Got chars) words packet other h =
    no_send (codes "got") words h.0 packet (λ e. let n : 3 ≡ 4 = ap length e in omega (arith, n))
    (λ e. let n : 3 ≡ 6 = ap length e in omega (arith, n)) h.1
asks_no_send (Turn count) words packet other h =
    no_send (codes "turn") words h.0 packet
    (λ e. let n : 116 ≡ 115 = ap (λ w. get_or w 0 0) e in omega (arith, n))
    (λ e. let n : 4 ≡ 6 = ap length e in omega (arith, n)) h.1
asks_no_send (Send its) words packet other h = absurd (other its refl)
asks_no_send TimeOut words packet other h =
    no_send (codes "timeout") words [] packet (λ e. let n : 7 ≡ 4 = ap length e in omega (arith, n))
    (λ e. let n : 7 ≡ 6 = ap length e in omega (arith, n)) h
asks_no_send Take words packet other h =
    no_send (codes "take") words [] packet
    (λ e. let n : 116 ≡ 115 = ap (λ w. get_or w 0 0) e in omega (arith, n))
    (λ e. let n : 4 ≡ 6 = ap length e in omega (arith, n)) h
asks_no_send State words packet other h =
    no_send (codes "state") words [] packet (λ e. let n : 5 ≡ 4 = ap length e in omega (arith, n))
    (λ e. let n : 5 ≡ 6 = ap length e in omega (arith, n)) h
asks_no_send Reset words packet other h =
    no_send (codes "reset") words [] packet (λ e. let n : 5 ≡ 4 = ap length e in omega (arith, n))
    (λ e. let n : 5 ≡ 6 = ap length e in omega (arith, n)) h
asks_no_send (Clock chars) words packet other h =
    no_send (codes "clock") words h.0 packet (λ e. let n : 5 ≡ 4 = ap length e in omega (arith, n))
    (λ e. let n : 5 ≡ 6 = ap length e in omega (arith, n)) h.1

-- ---- no item

-- whether a word is the first one of an item that is no symbol, of the words that are
abbrev is_item_word : List ℕ → Bool
is_item_word word =
    (length word == 4) || ((get_or word 0 0 == 112) || (get_or word 1 0 == 112))

no_item_word : (name : SymbolName) → is_item_word (symbol_word name) ≡ false
no_item_word Names.Accepted = refl
no_item_word Names.Retry = refl
no_item_word Names.NotAccepted = refl
no_item_word Names.Status = refl
no_item_word Names.Response = refl
no_item_word Names.Start = refl
no_item_word Names.Stomp = refl
no_item_word Names.End = refl
no_item_word Names.Restart = refl
no_item_word Names.Request = refl
no_item_word Names.Reset = refl
no_item_word Names.Multicast = refl

-- no symbol has the first word of another item
names_apart : (name : SymbolName) (word : List ℕ) → is_item_word word ≡ true
    → symbol_word name ≢ word
names_apart name word h e =
    true≢false (sym h ∙ ap is_item_word (sym e) ∙ no_item_word name)

-- the length and the first letter of a word
abbrev mark_of : List ℕ → ℕ
mark_of word = 256 * length word + get_or word 0 0

cons_first : (a b : List ℕ) (xs ys : List (List ℕ)) → a ∷ xs ≡ b ∷ ys → a ≡ b
cons_first a b xs ys is = cc

cons_rest : (a b : List ℕ) (xs ys : List (List ℕ)) → a ∷ xs ≡ b ∷ ys → xs ≡ ys
cons_rest a b xs ys is = cc

-- words of which the first names a symbol spell none, if those behind are no parameters
pub no_symbol : (name : SymbolName) (words behind : List (List ℕ))
    → words ≡ symbol_word name ∷ behind
    → ((p0 p1 : ℕ) → ¬ SpellsParameters behind p0 p1) → (item : LinkItem) → ¬ SpellsItem item words
no_symbol name words behind is none (Symbol symbol) h =
    none h.2 h.3 (subst (λ ws. SpellsParameters ws h.2 h.3) (sym (rest_same is h.4)) h.5)
no_symbol name words behind is none (Data bytes) h =
    names_apart name (codes "data") refl (first_same is h.1)
no_symbol name words behind is none (Packet bytes) h =
    names_apart name (codes "packet") refl (first_same is h.1)
no_symbol name words behind is none (Spoiled bytes) h =
    names_apart name (codes "spoiled") refl (first_same is h.2)
no_symbol name words behind is none (Part bytes) h =
    names_apart name (codes "part") refl (first_same is h.1)

pub no_data : (words behind : List (List ℕ)) → words ≡ codes "data" ∷ behind
    → ((bytes : List ℕ) → All (λ byte. byte < 256) bytes → behind ≢ hex_text bytes ∷ [])
    → (item : LinkItem) → ¬ SpellsItem item words
no_data words behind is none (Symbol symbol) h =
    names_apart h.0 (codes "data") refl (sym (first_same is h.4))
no_data words behind is none (Data bytes) h = none bytes.items h.0 (rest_same is h.1)
no_data words behind is none (Packet bytes) h =
    let n : 1124 ≡ 1648 = ap mark_of (first_same is h.1) in omega (arith, n)
no_data words behind is none (Spoiled bytes) h =
    let n : 1124 ≡ 1907 = ap mark_of (first_same is h.2) in omega (arith, n)
no_data words behind is none (Part bytes) h =
    let n : 1124 ≡ 1136 = ap mark_of (first_same is h.1) in omega (arith, n)

pub no_packet : (words behind : List (List ℕ)) → words ≡ codes "packet" ∷ behind
    → ((bytes : List ℕ) → ¬ SpellsLinkBytes behind bytes) → (item : LinkItem)
    → ¬ SpellsItem item words
no_packet words behind is none (Symbol symbol) h =
    names_apart h.0 (codes "packet") refl (sym (first_same is h.4))
no_packet words behind is none (Data bytes) h =
    let n : 1648 ≡ 1124 = ap mark_of (first_same is h.1) in omega (arith, n)
no_packet words behind is none (Packet bytes) h =
    none bytes.items (subst (λ ws. SpellsLinkBytes ws bytes.items) (sym (rest_same is h.1)) h.2)
no_packet words behind is none (Spoiled bytes) h =
    let n : 1648 ≡ 1907 = ap mark_of (first_same is h.2) in omega (arith, n)
no_packet words behind is none (Part bytes) h =
    let n : 1648 ≡ 1136 = ap mark_of (first_same is h.1) in omega (arith, n)

pub no_spoiled : (words behind : List (List ℕ)) → words ≡ codes "spoiled" ∷ behind
    → ((bytes : List ℕ) → 4 < length bytes → ¬ SpellsLinkBytes behind bytes) → (item : LinkItem)
    → ¬ SpellsItem item words
no_spoiled words behind is none (Symbol symbol) h =
    names_apart h.0 (codes "spoiled") refl (sym (first_same is h.4))
no_spoiled words behind is none (Data bytes) h =
    let n : 1907 ≡ 1124 = ap mark_of (first_same is h.1) in omega (arith, n)
no_spoiled words behind is none (Packet bytes) h =
    let n : 1907 ≡ 1648 = ap mark_of (first_same is h.1) in omega (arith, n)
no_spoiled words behind is none (Spoiled bytes) h =
    none h.1 h.4 (subst (λ ws. SpellsLinkBytes ws h.1) (sym (rest_same is h.2)) h.3)
no_spoiled words behind is none (Part bytes) h =
    let n : 1907 ≡ 1136 = ap mark_of (first_same is h.1) in omega (arith, n)

pub no_part : (words behind : List (List ℕ)) → words ≡ codes "part" ∷ behind
    → ((part : List ℕ) → ¬ SpellsPart behind part) → (item : LinkItem) → ¬ SpellsItem item words
no_part words behind is none (Symbol symbol) h =
    names_apart h.0 (codes "part") refl (sym (first_same is h.4))
no_part words behind is none (Data bytes) h =
    let n : 1136 ≡ 1124 = ap mark_of (first_same is h.1) in omega (arith, n)
no_part words behind is none (Packet bytes) h =
    let n : 1136 ≡ 1648 = ap mark_of (first_same is h.1) in omega (arith, n)
no_part words behind is none (Spoiled bytes) h =
    let n : 1136 ≡ 1907 = ap mark_of (first_same is h.2) in omega (arith, n)
no_part words behind is none (Part bytes) h =
    none bytes.items (subst (λ ws. SpellsPart ws bytes.items) (sym (rest_same is h.1)) h.2)

-- another first word
pub no_item : (words behind : List (List ℕ)) (word : List ℕ) → words ≡ word ∷ behind
    → ((name : SymbolName) → symbol_word name ≢ word) → word ≢ codes "data" → word ≢ codes "packet"
    → word ≢ codes "spoiled" → word ≢ codes "part" → (item : LinkItem) → ¬ SpellsItem item words
no_item words behind word is names a b c d (Symbol symbol) h = names h.0 (sym (first_same is h.4))
no_item words behind word is names a b c d (Data bytes) h = a (first_same is h.1)
no_item words behind word is names a b c d (Packet bytes) h = b (first_same is h.1)
no_item words behind word is names a b c d (Spoiled bytes) h = c (first_same is h.2)
no_item words behind word is names a b c d (Part bytes) h = d (first_same is h.1)

-- ---- what is read of words

-- there is a word more
pub words_more : (rest : Option (Bor (List ℕ))) → is_some rest ≡ true → 1 ≤ length (words_left rest)
words_more None h = absurd cc
words_more (Some text) h = some_left text

pub three_parameters : (words : List (List ℕ)) (a b : List ℕ) (rest : List (List ℕ))
    → words ≡ a ∷ b ∷ rest → 1 ≤ length rest → (p0 p1 : ℕ) → ¬ SpellsParameters words p0 p1
three_parameters words a b [] is long p0 p1 h = omega (arith, long)
three_parameters words a b (c ∷ rest) is long p0 p1 h =
    subst (λ ws. SpellsParameters ws p0 p1) is h

pub two_words : (words : List (List ℕ)) (a text : List ℕ) (rest : List (List ℕ))
    → words ≡ a ∷ rest → 1 ≤ length rest → words ≢ text ∷ []
two_words words a text [] is long other = omega (arith, long)
two_words words a text (b ∷ rest) is long other = let both = sym is ∙ other in absurd cc

-- the ends of a part are small
pub part_ends : (words : List (List ℕ)) (part : List ℕ) (h : SpellsPart words part)
    → (h.from ≤ 276) × (h.to ≤ 276)
part_ends words part h =
    let most = link_bytes_most h.behind h.bytes h.spells in
    (omega (arith, most, h.ordered, h.within), omega (arith, most, h.within))

-- these ends of a part are in order, and within the packet
pub part_within : (words behind : List (List ℕ)) (first second part bytes : List ℕ) (from to : ℕ)
    → words ≡ first ∷ second ∷ behind → first ≡ decimal from → second ≡ decimal to
    → from < 2 ^ 32 → to < 2 ^ 32 → SpellsLinkBytes behind bytes → SpellsPart words part
    → (from ≤ to) × (to ≤ length bytes)
part_within words behind first second part bytes from to is one other small few link h =
    let ends = part_ends words part h in
    let begins : from ≡ h.from =
    decimal_injective from h.from (omega (arith, small)) (omega (arith, ends.0))
    (sym one ∙ first_same is h.words_are) in
    let rest : second ∷ behind ≡ decimal h.to ∷ h.behind = rest_same is h.words_are in
    let ended : to ≡ h.to =
    decimal_injective to h.to (omega (arith, few)) (omega (arith, ends.1))
    (sym other ∙ cons_first second (decimal h.to) behind h.behind rest) in
    let same = ap length (link_bytes_once behind bytes h.bytes link
    (subst (λ ws. SpellsLinkBytes ws h.bytes)
    (sym (cons_rest second (decimal h.to) behind h.behind rest)) h.spells)) in
    (omega (arith, begins, ended, h.ordered), omega (arith, ended, same, h.within))
