-- What registers answer is in its link form, and their numbers go on to fit.
use Rattle.std.proofs.Common.{◌≡◌, ℕ, suc, ◌+◌, ◌*◌, ◌/◌, ◌%◌, ◌<◌, ◌≤◌, ◌==◌, Bool, true, false, min, List, [], ◌∷◌, ◌++◌, length, get_or, Option, Some, None, unwrap_or, option_map, ap, ◌∙◌, arith, refl, subst, length-append, inl, inr, if◌then◌else◌}
use Rattle.std.specs.List.{AllByRecursion}
use Rattle.std.proofs.lemmas.Bool.{cases_lt}
use Rattle.std.proofs.lemmas.Option.{same_Some}
use Rattle.std.proofs.lemmas.List.{get_or_past}
use Rattle.std.proofs.lemmas.List.Elements.{All-append, All-from_recursion}
use Rattle.rio_packets.specs.LinkForm.{AreBytes, Passes}
use Rattle.rio_packets.specs.Fields.{tt_of, dest_of, source_of, ids_end, half_word_at, ttype_of, is_request, body_of}
use Rattle.rio_packets.specs.Hops.{message_ended, is_large}
use Rattle.rio_packets.specs.Words.{word_at}
use Rattle.maint_registers.specs.Devices.{Registers, IsSameDevice}
use Rattle.maint_registers.specs.Within.{IsWithin}
use Rattle.maint_registers.specs.Access.{value_at, access_status}
use Rattle.maint_registers.proofs.SameLaws.{same_device, write_same}
use Rattle.maint_registers.proofs.WithinLaws.{write_within, read_fits}
use Rattle.maint_packets.specs.declared.request.Op.{Op}
use Rattle.maint_packets.specs.declared.request.Op.TheVariants.{Read, Write, BadRead, BadWrite}
use Rattle.maint_packets.specs.declared.request.Request.{Request}
use Rattle.maint_packets.specs.Layout.{offset_of, short_length, long_length, data_bytes, behind_ids}
use Rattle.maint_packets.specs.Requests.{names_second, in_half, value_in, has_form, op_of, request_in, request_of}
use Rattle.maint_packets.specs.Responses.{response_bytes}
use Rattle.maint_packets.specs.Answers.{back, is_writing, accessed_by, words_read, request_answered}
use Rattle.maint_packets.proofs.FormLaws.{above_fours, Passes-ended}

-- ---- bytes

-- a missing byte is 0
byte_at : (bytes : List ℕ) (i : ℕ) → AreBytes bytes → get_or bytes i 0 < 256
byte_at bytes i range =
    elim (cases_lt i (length bytes)) [
      | inl inside ↦ range i 0 inside
      | inr beyond ↦ let none = get_or_past bytes i 0 beyond in omega (arith, none)
    ]

word_fits : (bytes : List ℕ) (at : ℕ) → AreBytes bytes → word_at bytes at < 0x100000000
word_fits bytes at range =
    let a = byte_at bytes at range in
    let b = byte_at bytes (at + 1) range in
    let c = byte_at bytes (at + 2) range in
    let d = byte_at bytes (at + 3) range in
    omega (arith, a, b, c, d)

-- ---- IDs

-- IDs of one byte, or of two
abbrev ids_below : Bool → ℕ
ids_below false = 0x100
ids_below true = 0x10000

id_fits : (small large : Bool) (byte half : ℕ) → byte < 256 → half < 0x10000
    → unwrap_or (if small then Some byte else (if large then Some half else None)) 0 < ids_below
    large
id_fits true true byte half b h = omega arith
id_fits true false byte half b h = b
id_fits false true byte half b h = h
id_fits false false byte half b h = omega arith

dest_fits : (bytes : List ℕ) → AreBytes bytes → unwrap_or (dest_of bytes) 0 < ids_below
    (is_large bytes)
dest_fits bytes range =
    let high = byte_at bytes 2 range in let low = byte_at bytes 3 range in
    let half : half_word_at bytes 2 < 0x10000 = omega (arith, high, low) in
    id_fits (tt_of bytes == 0) (tt_of bytes == 1) (get_or bytes 2 0)
    (half_word_at bytes 2) high half

source_fits : (bytes : List ℕ) → AreBytes bytes → unwrap_or (source_of bytes) 0 < ids_below
    (is_large bytes)
source_fits bytes range =
    let high = byte_at bytes 4 range in let low = byte_at bytes 5 range in
    let half : half_word_at bytes 4 < 0x10000 = omega (arith, high, low) in
    id_fits (tt_of bytes == 0) (tt_of bytes == 1) (get_or bytes 3 0) (half_word_at bytes 4)
    (byte_at bytes 3 range) half

-- IDs of one byte are below 256
pub IDs-small : (bytes : List ℕ) → AreBytes bytes → is_large bytes ≡ false
    → (unwrap_or (dest_of bytes) 0 < 256) × (unwrap_or (source_of bytes) 0 < 256)
IDs-small bytes range small =
    let size : ids_below (is_large bytes) ≡ 256 = ap ids_below small in
    let dest = dest_fits bytes range in let source = source_fits bytes range in
    (omega (arith, dest, size), omega (arith, source, size))

-- ---- requests

-- each number of a request fits its field
record Fits (request : Request) : Type 0 where
  dest : request.dest < ids_below request.large
  source : request.source < ids_below request.large
  tid : request.tid < 256
  value : (value : ℕ) → request.op ≡ Write value → value < 0x100000000

op_fits : (bytes : List ℕ) (value : ℕ) → AreBytes bytes → op_of bytes ≡ Write value
    → value < 0x100000000
op_fits bytes value range =
    go (ttype_of bytes == 0) (has_form bytes (short_length (is_large bytes)))
    (has_form bytes (long_length (is_large bytes)))
  where
    go : (read short long : Bool)
        → (if read then (if short then Read else BadRead) else (if long then Write
        (value_in bytes) else BadWrite)) ≡ Write value
        → value < 0x100000000
    go true true long is = absurd (cc)
    go true false long is = absurd (cc)
    go false short false is = absurd (cc)
    go false short true is =
        let same : value_in bytes ≡ value = cc in
        subst (λ n. n < 0x100000000) same (word_fits bytes (ids_end bytes + (if names_second
        (offset_of bytes) then 10 else 6)) range)

request_fits : (packet : List ℕ) (request : Request) → AreBytes packet
    → request_of packet ≡ Some request → Fits request
request_fits packet request range is = go (is_request packet) is
  where
    go : (b : Bool) → (if b then Some (request_in packet) else None) ≡ Some request → Fits request
    go false none = absurd (cc)
    go true some = subst Fits (same_Some (request_in packet) request some) record {
      dest = dest_fits packet range;
      source = source_fits packet range;
      tid = byte_at packet (ids_end packet + 1) range;
      value = λ value is. op_fits packet value range is;
    }

-- ---- responses

-- two words, or none
abbrev AreWords : Option (ℕ × ℕ) → Type 0
AreWords None = Unit {0}
AreWords (Some words) = (words.0 < 0x100000000) × (words.1 < 0x100000000)

data_fits : (words : Option (ℕ × ℕ)) → AreWords words → AllByRecursion (λ b. b < 256)
    (data_bytes words)
data_fits None fit = tt
data_fits (Some words) fit =
    let first = fit.0 in let second = fit.1 in (
      omega arith,
      (
        omega arith,
        (
          omega arith,
          (
            omega arith,
            (
              omega arith,
              (
                omega arith,
                (omega arith, (omega arith, tt)),
              ),
            ),
          ),
        ),
      ),
    )

-- A body of a good length whose bytes fit is ended as a packet.
begun_passes : (large : Bool) (fields rest : List ℕ) → AllByRecursion (λ b. b < 256) fields
    → AreBytes rest → 3 ≤ length fields → length fields + length rest < 80
    → (length fields + length rest) % 2 ≡ 1
    → suc (length fields + length rest) % 4 ≡ above_fours large
    → Passes (message_ended large (0 ∷ fields ++ rest))
begun_passes large fields rest fit range least most even fills =
    let size = length-append fields rest in
    Passes-ended large (0 ∷ fields ++ rest) record {
      even = omega (arith, even, size);
      least = omega (arith, least, size);
      most = omega (arith, most, size);
      range = All-append (λ b. b < 256) (0 ∷ fields) rest
          (All-from_recursion (λ b. b < 256) (0 ∷ fields) (omega arith, fit)) range;
      origin = omega arith;
    } (omega (arith, most, size)) (ap (λ n. suc n % 4) size ∙ fills)

body_passes : (large : Bool) (prio dest source : ℕ) (rest : List ℕ) → prio < 4
    → dest < ids_below large
    → source < ids_below large → AreBytes rest → length rest % 4 ≡ 2 → length rest ≤ 74
    → Passes (message_ended large (body_of prio 8 large dest source rest))
body_passes false prio dest source rest p d s range fills most =
    begun_passes false ((64 * prio + 8) ∷ dest ∷ source ∷ []) rest
    (omega (arith, p), (d, (s, tt))) range (omega arith) (omega (arith, most))
    (omega (arith, fills)) (omega (arith, fills))
body_passes true prio dest source rest p d s range fills most =
    begun_passes true ((64 * prio + 16 + 8) ∷ dest / 0x100 ∷ dest % 0x100 ∷ source / 0x100
    ∷ source % 0x100 ∷ []) rest
    (omega (arith, p), (omega (arith, d), (omega arith, (omega (arith, s), (omega arith, tt)))))
    range (omega arith) (omega (arith, most)) (omega (arith, fills)) (omega (arith, fills))

-- what stands behind the IDs of a response
module _ (ttype status tid : ℕ) (t : ttype < 16) (l : status < 16) (n : tid < 256) where
  abbrev rest : Option (ℕ × ℕ) → List ℕ
  rest words = behind_ids ttype status tid 255 0 words

  rest_range : (words : Option (ℕ × ℕ)) → AreWords words → AreBytes (rest words)
  rest_range words fit =
      All-from_recursion (λ b. b < 256) (rest words) (
        omega arith,
        (
          n,
          (
            omega arith,
            (
              omega arith,
              (
                omega arith,
                (omega arith, data_fits words fit),
              ),
            ),
          ),
        ),
      )

  rest_fills : (words : Option (ℕ × ℕ)) → (length (rest words) % 4 ≡ 2) × (length (rest words) ≤ 74)
  rest_fills None = (refl, omega arith)
  rest_fills (Some words) = (refl, omega arith)

-- the response goes back in its link form
back_passes : (request : Request) (write : Bool) (status : ℕ) (words : Option (ℕ × ℕ))
    → Fits request
    → status < 16 → AreWords words → Passes (response_bytes (back request write status words))
back_passes request write status words fits small fit =
    let type : ℕ = if write then 3 else 2 in
    let fills : (length (behind_ids type status request.tid 255 0 words) % 4 ≡ 2)
    × (length (behind_ids type status request.tid 255 0 words) ≤ 74) =
    rest_fills type status request.tid (type_fits write) small fits.tid words in
    body_passes request.large (min (request.prio + 1) 3) request.source request.dest
    (behind_ids type status request.tid 255 0 words) (omega arith) fits.source fits.dest
    (rest_range type status request.tid (type_fits write) small fits.tid words fit) fills.0 fills.1
  where
    type_fits : (write : Bool) → (if write then 3 else 2) < 16
    type_fits true = omega arith
    type_fits false = omega arith

half_fits : (offset value : ℕ) → value < 0x100000000 → AreWords (Some (in_half offset value))
half_fits offset value fits = go (names_second offset)
  where
    go : (second : Bool) → AreWords (Some (if second then (0, value) else (value, 0)))
    go true = (omega arith, fits)
    go false = (fits, omega arith)

-- the status and the words that an access comes to
pub status_fits : (value : Option ℕ) → access_status value < 16
status_fits None = omega arith
status_fits (Some value) = omega arith

words_fit : (device : Registers) (offset port : ℕ) (op : Op) → IsWithin device → port < 0x100
    → AreWords (words_read offset op (accessed_by device offset port op).value)
words_fit device offset port Read within low =
    go (value_at device offset port) (λ value. read_fits device offset port value within low)
  where
    go : (o : Option ℕ) → ((value : ℕ) → o ≡ Some value → value < 0x100000000)
        → AreWords (option_map (in_half offset) o)
    go None fits = tt
    go (Some value) fits = half_fits offset value (fits value refl)
words_fit device offset port (Write value) within low = tt
words_fit device offset port BadRead within low = tt
words_fit device offset port BadWrite within low = tt

-- what the registers answer is in its link form
pub responses_pass : (device : Registers) (packet : List ℕ) (request : Request) (port : ℕ)
    → IsWithin device → port < 0x100 → Passes packet → request_of packet ≡ Some request
    → Passes (response_bytes (request_answered device request port).response)
responses_pass device packet request port within low form is =
    let accessed = accessed_by device request.offset port request.op in
    back_passes request (is_writing request.op) (access_status accessed.value)
    (words_read request.offset request.op accessed.value)
    (request_fits packet request form.range is) (status_fits accessed.value)
    (words_fit device request.offset port request.op within low)

-- ---- devices

accessed_within : (device : Registers) (offset port : ℕ) (op : Op) → IsWithin device
    → ((value : ℕ) → op ≡ Write value → value < 0x100000000)
    → IsWithin (accessed_by device offset port op).device
accessed_within device offset port Read within fits = within
accessed_within device offset port (Write value) within fits =
    write_within device offset value within (fits value refl)
accessed_within device offset port BadRead within fits = within
accessed_within device offset port BadWrite within fits = within

-- and leaves the device within its bounds
pub answered_within : (device : Registers) (packet : List ℕ) (request : Request) (port : ℕ)
    → IsWithin device → Passes packet → request_of packet ≡ Some request
    → IsWithin (request_answered device request port).device
answered_within device packet request port within form is =
    accessed_within device request.offset port request.op within
    (request_fits packet request form.range is).value

-- ---- kind, ports and links

accessed_same : (device : Registers) (offset port : ℕ) (op : Op)
    → IsSameDevice device (accessed_by device offset port op).device
accessed_same device offset port Read = same_device device
accessed_same device offset port (Write value) = write_same device offset value
accessed_same device offset port BadRead = same_device device
accessed_same device offset port BadWrite = same_device device

-- a device that answers is the same
pub answered_same : (device : Registers) (request : Request) (port : ℕ)
    → IsSameDevice device (request_answered device request port).device
answered_same device request port = accessed_same device request.offset port request.op
