-- The characters of a packet.
use Rattle.std.proofs.Common.{◌≡◌, ℕ, ◌+◌, ◌*◌, ◌++◌, ◌<◌, List, [], ◌∷◌, length, take, get_or, set, slice_index, refl, sym, ap, ◌∙◌, arith, append_assoc}
use Rattle.std.proofs.lemmas.List.{map-append, take_more, take_more_set}
use Rattle.rio_chars.specs.declared.chars.Char.{Char}
use Rattle.rio_chars.specs.declared.chars.Char.TheVariants.{Data}
use Rattle.rio_symbols.specs.Fields.{Fields}
use Rattle.link_model.specs.ReadingSpelt.{data_chars, symbol_chars_of, bytes_with_ack, packet_chars_of}

-- the first byte has the ackID
pub data_with_ack : (ack : ℕ) (packet : List ℕ) → 0 < length packet
    → set (data_chars packet) 0 (Data (8 * ack + slice_index packet 0))
    ≡ data_chars (bytes_with_ack ack packet)
unfolding bytes_with_ack
data_with_ack ack [] some = absurd (omega arith)
data_with_ack ack (b ∷ packet) some = refl

-- one byte more is written
pub data_chars-one_more : (room : List Char) (bytes : List ℕ) (i : ℕ) → i < length room
    → i < length bytes → take i room ≡ data_chars (take i bytes)
    → take (i + 1) (set room i (Data (get_or bytes i 0))) ≡ data_chars (take (i + 1) bytes)
data_chars-one_more room bytes i below within e =
    take_more_set room i (Data (get_or bytes i 0)) below
    ∙ ap (λ (l : List Char). l ++ Data (get_or bytes i 0) ∷ []) e
    ∙ sym (map-append (λ (byte : ℕ). Data byte) (take i bytes) (get_or bytes i 0 ∷ []))
    ∙ ap data_chars (sym (take_more bytes i 0 within))

-- its three parts, one behind another
pub packet_behind : (chars : List Char) (start : Fields) (ack : ℕ) (packet : List ℕ) (end : Fields)
    → ((chars ++ symbol_chars_of start) ++ data_chars (bytes_with_ack ack packet))
    ++ symbol_chars_of end
    ≡ chars ++ packet_chars_of start ack packet end
unfolding packet_chars_of
packet_behind chars start ack packet end =
    append_assoc (chars ++ symbol_chars_of start) (data_chars (bytes_with_ack ack packet))
    (symbol_chars_of end)
    ∙ append_assoc chars (symbol_chars_of start)
    (data_chars (bytes_with_ack ack packet) ++ symbol_chars_of end)
