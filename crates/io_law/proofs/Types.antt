-- What is met as a response is one, and carries what was answered.
use Rattle.io_law.proofs.Prelude.{◌≡◌, ◌+◌, ◌==◌, ◌&&◌, ℕ, Bool, true, false, nat_le, List, length, Option, Some, None, refl, sym, ap, ◌∙◌, subst, if◌then◌else◌, slice_range, eqb-true, prio_of, tt_of, ftype_of, Network, Item, id_of, Read, Written, Failed, Done, met_at, met_of, met_without, Io, read_or_bad, read_of, has_data, write_of, write_with_response_of, any_write_of, is_stream, streaming_write_of, is_plain_reply, is_reply_with_data, io_response_of, io_of_type, io_of, is_within, answer_to, met_by, answer_by, reply_line, IsSentBy, io_number_of}
use Rattle.io_memory.proofs.AnswerLaws.{answers_done}
use Rattle.io_packets.specs.declared.io.Io.TheVariants as Ios
use Rattle.io_packets.specs.Layout.{high_half_of, size_of, source_in}
use Rattle.io_law.proofs.Fit.{reply_prio}

-- ---- what is met

read_not_done : (b : Bool) (addr ftype tid status : ℕ) (bytes : List ℕ) (load : Option (List ℕ))
    → (if b then Read addr bytes else Failed ftype) ≡ Done tid status load → ⊥
read_not_done true addr ftype tid status bytes load is = absurd cc
read_not_done false addr ftype tid status bytes load is = absurd cc

write_not_done : (b : Bool) (addr ftype tid status : ℕ) (bytes : List ℕ) (load : Option (List ℕ))
    → (if b then Written addr bytes else Failed ftype) ≡ Done tid status load → ⊥
write_not_done true addr ftype tid status bytes load is = absurd cc
write_not_done false addr ftype tid status bytes load is = absurd cc

done_at : (memory : List ℕ) (ftype : ℕ) (io : Io) (tid status : ℕ) (load : Option (List ℕ))
    → met_at memory ftype io ≡ Done tid status load → io ≡ Ios.Reply status tid load
done_at memory ftype (Ios.Reply s t l) tid status load is = cc
done_at memory ftype (Ios.NRead t addr size) tid status load is =
    absurd (read_not_done (is_within memory addr size) addr ftype tid status
    (slice_range memory addr (addr + size)) load is)
done_at memory ftype (Ios.NWrite addr bytes) tid status load is =
    absurd (write_not_done (is_within memory addr (length bytes)) addr ftype tid status bytes load
    is)
done_at memory ftype (Ios.NWriteR t addr bytes) tid status load is =
    absurd (write_not_done (is_within memory addr (length bytes)) addr ftype tid status bytes load
    is)
done_at memory ftype (Ios.SWrite addr bytes) tid status load is =
    absurd (write_not_done (is_within memory addr (length bytes)) addr ftype tid status bytes load
    is)
done_at memory ftype (Ios.BadRead t) tid status load is = absurd cc
done_at memory ftype (Ios.BadWriteR t) tid status load is = absurd cc
done_at memory ftype Ios.BadWrite tid status load is = absurd cc
done_at memory ftype Ios.Other tid status load is = absurd cc

done_without : (ftype : ℕ) (io : Io) (tid status : ℕ) (load : Option (List ℕ))
    → met_without ftype io ≡ Done tid status load → io ≡ Ios.Reply status tid load
done_without ftype (Ios.Reply s t l) tid status load is = cc
done_without ftype (Ios.NRead t addr size) tid status load is = absurd cc
done_without ftype (Ios.NWrite addr bytes) tid status load is = absurd cc
done_without ftype (Ios.NWriteR t addr bytes) tid status load is = absurd cc
done_without ftype (Ios.SWrite addr bytes) tid status load is = absurd cc
done_without ftype (Ios.BadRead t) tid status load is = absurd cc
done_without ftype (Ios.BadWriteR t) tid status load is = absurd cc
done_without ftype Ios.BadWrite tid status load is = absurd cc
done_without ftype Ios.Other tid status load is = absurd cc

pub met_done : (held : Option (List ℕ)) (packet : List ℕ) (tid status : ℕ)
    (load : Option (List ℕ)) → met_by held packet ≡ Done tid status load
    → io_of packet ≡ Ios.Reply status tid load
met_done None packet tid status load is =
    done_without (ftype_of packet) (io_of packet) tid status load is
met_done (Some memory) packet tid status load is =
    done_at memory (ftype_of packet) (io_of packet) tid status load is

-- ---- which packets carry a response

abbrev NoReply : Io → Type 0
NoReply (Ios.Reply status tid load) = ⊥
NoReply _ = Unit {0}

either : (b : Bool) (x y : Io) → NoReply x → NoReply y → NoReply (if b then x else y)
either true x y one other = one
either false x y one other = other

-- of two of which the first is none, the second is one
the_other : (b : Bool) (x y : Io) (status tid : ℕ) (load : Option (List ℕ)) → NoReply x
    → (if b then x else y) ≡ Ios.Reply status tid load → y ≡ Ios.Reply status tid load
the_other true x y status tid load none is = absurd (subst NoReply is none)
the_other false x y status tid load none is = is

the_first : (b : Bool) (x y : Io) (status tid : ℕ) (load : Option (List ℕ)) → NoReply y
    → (if b then x else y) ≡ Ios.Reply status tid load
    → (b ≡ true) × (x ≡ Ios.Reply status tid load)
the_first true x y status tid load none is = (refl, is)
the_first false x y status tid load none is = absurd (subst NoReply is none)

read_none : (bytes : List ℕ) → NoReply (read_of bytes)
read_none bytes =
    either ((high_half_of bytes == 4) && (length bytes == 12)) (read_or_bad bytes (size_of bytes))
    Ios.Other (by (size_of bytes)) tt
  where
    by : (size : Option ℕ) → NoReply (read_or_bad bytes size)
    by None = tt
    by (Some size) = tt

write_none : (bytes : List ℕ) → NoReply (any_write_of bytes)
write_none bytes =
    either (nat_le 12 (length bytes)) _ Ios.Other
    (either (high_half_of bytes == 4) (write_of bytes) _
    (either (has_data bytes (size_of bytes)) _ Ios.BadWrite tt tt)
    (either (high_half_of bytes == 5) (write_with_response_of bytes) Ios.Other
    (either (has_data bytes (size_of bytes)) _ _ tt tt) tt)) tt

stream_none : (bytes : List ℕ) → NoReply (streaming_write_of bytes)
stream_none bytes = either (is_stream bytes) _ Ios.BadWrite tt tt

pub reply_type : (packet : List ℕ) (status tid : ℕ) (load : Option (List ℕ))
    → io_of packet ≡ Ios.Reply status tid load → ftype_of packet ≡ 13
reply_type packet status tid load is =
    let t = ftype_of packet in
    let small = the_first (tt_of packet == 0) (io_of_type t packet) Ios.Other status tid load tt is
    in
    let two = the_other (t == 2) (read_of packet) _ status tid load (read_none packet) small.1 in
    let five = the_other (t == 5) (any_write_of packet) _ status tid load (write_none packet) two
    in
    let six = the_other (t == 6) (streaming_write_of packet) _ status tid load
    (stream_none packet) five in
    eqb-true t 13 (the_first (t == 13) (io_response_of packet) Ios.Other status tid load tt six).0

-- ---- what an answer carries

record AsReply (answer : Io) : Type 0 where
  pub status : ℕ
  pub tid : ℕ
  pub load : Option (List ℕ)
  pub is : answer ≡ Ios.Reply status tid load

some_reply : (b : Bool) (s t u v : ℕ) (l m : Option (List ℕ)) (answer : Io)
    → (if b then Some (Ios.Reply s t l) else Some (Ios.Reply u v m)) ≡ Some answer
    → AsReply answer
some_reply true s t u v l m answer is =
    let same : Ios.Reply s t l ≡ answer = cc in
    record { status = s; tid = t; load = l; is = sym same }
some_reply false s t u v l m answer is =
    let same : Ios.Reply u v m ≡ answer = cc in
    record { status = u; tid = v; load = m; is = sym same }

answer_is_reply : (memory : List ℕ) (io answer : Io) → answer_to memory io ≡ Some answer
    → AsReply answer
answer_is_reply memory (Ios.NRead tid addr size) answer is =
    some_reply (is_within memory addr size) 0 tid 7 tid
    (Some (slice_range memory addr (addr + size))) None answer is
answer_is_reply memory (Ios.NWriteR tid addr load) answer is =
    some_reply (is_within memory addr (length load)) 0 tid 7 tid None None answer is
answer_is_reply memory (Ios.BadRead tid) answer is = some_reply true 7 tid 7 tid None None answer is
answer_is_reply memory (Ios.BadWriteR tid) answer is =
    some_reply true 7 tid 7 tid None None answer is
answer_is_reply memory (Ios.NWrite addr load) answer is = absurd cc
answer_is_reply memory (Ios.SWrite addr load) answer is = absurd cc
answer_is_reply memory (Ios.Reply status tid load) answer is = absurd cc
answer_is_reply memory Ios.BadWrite answer is = absurd cc
answer_is_reply memory Ios.Other answer is = absurd cc

done_same : (s t u v : ℕ) (l m : Option (List ℕ)) → Done t s l ≡ Done v u m
    → Ios.Reply s t l ≡ Ios.Reply u v m
done_same s t u v l m is = cc

-- what is told of the packet of a reply is what was answered
pub answer_is_told : (net : Network) (server : ℕ) (held memory : Option (List ℕ))
    (packet : List ℕ) (answer : Io) (item : Item) (tid status : ℕ) (load : Option (List ℕ))
    → answer_by memory packet ≡ Some answer → IsSentBy net (reply_line server packet answer) item
    → met_by held item.taken ≡ Done tid status load → answer ≡ Ios.Reply status tid load
answer_is_told net server held None packet answer item tid status load answered sent is = absurd cc
answer_is_told net server held (Some memory) packet answer item tid status load answered sent is =
    let it = answer_is_reply memory (io_of packet) answer answered in
    let same = it.is in
    let s = it.status in
    let t = it.tid in
    let l = it.load in
    let form = (subst (λ a. IsSentBy net (reply_line server packet a) item) same sent).1 in
    let both = answers_done memory packet _ (source_in packet) (id_of net server false) s t l
    item.taken (answered ∙ ap (λ a. Some a) same) (reply_prio (prio_of packet)) form in
    same ∙ by held s t l both.0 both.1 is
  where
    by : (held : Option (List ℕ)) (s t : ℕ) (l : Option (List ℕ))
        → ((other : List ℕ) → met_of other item.taken ≡ Done t s l)
        → met_without (ftype_of item.taken) (io_of item.taken) ≡ Done t s l
        → met_by held item.taken ≡ Done tid status load
        → Ios.Reply s t l ≡ Ios.Reply status tid load
    by None s t l some none is = done_same s t status tid l load (sym none ∙ is)
    by (Some memory) s t l some none is = done_same s t status tid l load (sym (some memory) ∙ is)

-- ---- what is answered is a request

if_number : (b : Bool) (tid : ℕ) (s : ℕ) (l m : Option (List ℕ)) (x : Option ℕ) (status t : ℕ)
    (load : Option (List ℕ)) → x ≡ Some tid
    → (if b then Some (Ios.Reply s tid l) else Some (Ios.Reply 7 tid m))
    ≡ Some (Ios.Reply status t load) → x ≡ Some t
if_number true tid s l m x status t load is same = cc (is, same)
if_number false tid s l m x status t load is same = cc (is, same)

answer_number : (memory : List ℕ) (io : Io) (status tid : ℕ) (load : Option (List ℕ))
    → answer_to memory io ≡ Some (Ios.Reply status tid load) → io_number_of io ≡ Some tid
answer_number memory (Ios.NRead t addr size) status tid load is =
    if_number (is_within memory addr size) t 0 (Some (slice_range memory addr (addr + size))) None
    (Some t) status tid load refl is
answer_number memory (Ios.NWriteR t addr bytes) status tid load is =
    if_number (is_within memory addr (length bytes)) t 0 None None (Some t) status tid load refl is
answer_number memory (Ios.BadRead t) status tid load is = cc
answer_number memory (Ios.BadWriteR t) status tid load is = cc
answer_number memory (Ios.NWrite addr bytes) status tid load is = absurd cc
answer_number memory (Ios.SWrite addr bytes) status tid load is = absurd cc
answer_number memory (Ios.Reply s t l) status tid load is = absurd cc
answer_number memory Ios.BadWrite status tid load is = absurd cc
answer_number memory Ios.Other status tid load is = absurd cc

pub answered_number : (memory : Option (List ℕ)) (packet : List ℕ) (answer : Io)
    (status tid : ℕ) (load : Option (List ℕ)) → answer_by memory packet ≡ Some answer
    → answer ≡ Ios.Reply status tid load → io_number_of (io_of packet) ≡ Some tid
answered_number None packet answer status tid load answered is = absurd cc
answered_number (Some memory) packet answer status tid load answered is =
    answer_number memory (io_of packet) status tid load (answered ∙ ap (λ a. Some a) is)

-- a packet of this type carries no request that is answered
no_number : (b : Bool) (x y : Io) → io_number_of x ≡ None → io_number_of y ≡ None
    → io_number_of (if b then x else y) ≡ None
no_number true x y one other = one
no_number false x y one other = other

response_number : (packet : List ℕ) → ftype_of packet ≡ 13 → io_number_of (io_of packet) ≡ None
response_number packet is =
    no_number (tt_of packet == 0) (io_of_type (ftype_of packet) packet) Ios.Other
    (ap (λ t. io_number_of (io_of_type t packet)) is
    ∙ no_number (is_plain_reply packet) _ _ refl
    (no_number (is_reply_with_data packet) _ Ios.Other refl refl)) refl

maintenance_number : (packet : List ℕ) → ftype_of packet ≡ 8 → io_number_of (io_of packet) ≡ None
maintenance_number packet is =
    no_number (tt_of packet == 0) (io_of_type (ftype_of packet) packet) Ios.Other
    (ap (λ t. io_number_of (io_of_type t packet)) is) refl

pub record IsRequest (packet : List ℕ) : Type 0 where
  pub no_response : ftype_of packet ≡ 13 → ⊥
  pub no_maintenance : ftype_of packet ≡ 8 → ⊥

pub numbered_request : (packet : List ℕ) (tid : ℕ) → io_number_of (io_of packet) ≡ Some tid
    → IsRequest packet
numbered_request packet tid is = record {
  no_response = λ type. absurd (cc (response_number packet type, is));
  no_maintenance = λ type. absurd (cc (maintenance_number packet type, is));
}
