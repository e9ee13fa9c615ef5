-- A request is read back from the packet that was built of it.
use Rattle.std.proofs.Common.{◌≡◌, ℕ, ◌+◌, ◌<◌, Bool, true, false, Option, Some, None, List, length, ap, subst, sym, nat_lt, ◌∙◌, refl, arith, eq-eqb, if◌then◌else◌}
use Rattle.rio_packets.specs.LinkForm.{LinkForm}
use Rattle.rio_packets.specs.Hops.{message_ended, is_large}
use Rattle.rio_packets.specs.Fields.{ids_end, ttype_of, is_maintenance, is_request, body_of}
use Rattle.rio_packets.specs.Words.{word_at}
use Rattle.maint_packets.specs.declared.request.Op.{Op}
use Rattle.maint_packets.specs.declared.request.Op.TheVariants.{Read, Write, BadRead, BadWrite}
use Rattle.maint_packets.specs.declared.request.Request.{Request}
use Rattle.maint_packets.specs.Layout.{low_half_of, short_length, long_length, behind_ids}
use Rattle.maint_packets.specs.Requests.{names_second, in_half, value_in, op_of, request_of, IsGoodOp, op_bytes, request_body, request_bytes}
use Rattle.maint_packets.proofs.LayoutLaws.{ended-built, prio-built, large-built, dest-built, source-built, ttype-built, low_half-built, tid-built, hop-built, offset-built, length-without, maintenance-without, length-with, maintenance-with, first-built, second-built}

op_of-read : (p : List ℕ) → ttype_of p ≡ 0 → low_half_of p ≡ 8 → length p ≡ short_length
    (is_large p)
    → op_of p ≡ Read
op_of-read p t s n =
    rw (
      eq-eqb (ttype_of p) 0 t,
      eq-eqb (low_half_of p) 8 s,
      eq-eqb (length p) (short_length
          (is_large p)) n,
    ) refl

op_of-write : (p : List ℕ) (value : ℕ) → ttype_of p ≡ 1 → low_half_of p ≡ 8
    → length p ≡ long_length (is_large p) → value_in p ≡ value → op_of p ≡ Write value
op_of-write p value t s n v =
    rw (t, s, eq-eqb (length p) (long_length (is_large p)) n) (ap (λ w. Write w) v)

-- if the form of a request is that of its parts
pub form-write : (request : Request) (p : List ℕ) (value : ℕ) (half : ℕ × ℕ)
    → half ≡ in_half request.offset value → request.op ≡ Write value
    → LinkForm (body_of request.prio 8 request.large request.dest request.source
    (behind_ids 1 8 request.tid request.hop request.offset (Some half))) p
    → LinkForm (request_body request) p
form-write request p value half h op form =
    rw op (subst (λ (w : ℕ × ℕ). LinkForm (body_of request.prio 8 request.large request.dest
    request.source
    (behind_ids 1 8 request.tid request.hop request.offset (Some w))) p) h form)

module _ (request : Request) (p : List ℕ) (h : request.prio < 4) where
  abbrev rest : ℕ → Option (ℕ × ℕ) → List ℕ
  rest ttype words = behind_ids ttype 8 request.tid request.hop request.offset words

  abbrev body : ℕ → Option (ℕ × ℕ) → List ℕ
  body ttype words = body_of request.prio 8 request.large request.dest request.source
      (rest ttype words)

  -- the word that the offset names
  word-half : (value : ℕ) (second : Bool) → LinkForm (body 1 (Some (if second then (0, value) else
      (value, 0)))) p
      → word_at p (ids_end p + (if second then 10 else 6)) ≡ value
  word-half value true form =
      second-built request.prio request.large request.dest request.source 1 8 request.tid
      request.hop request.offset 0 value p form h
  word-half value false form =
      first-built request.prio request.large request.dest request.source 1 8 request.tid request.hop
      request.offset value 0 p form h

  -- a packet of the layout is read as the request if it is one and asks for the same
  from_form : (ttype : ℕ) (words : Option (ℕ × ℕ)) → LinkForm (body ttype words) p
      → nat_lt ttype 2 ≡ true
      → is_maintenance p ≡ true → op_of p ≡ request.op → request_of p ≡ Some request
  from_form ttype words form low maintenance asks =
      let type = ttype-built request.prio request.large request.dest request.source ttype 8
      request.tid request.hop request.offset words p form h (omega arith) in
      let is : is_request p ≡ true = rw (maintenance, type) low in
      let a = prio-built request.prio request.large request.dest request.source
      (rest ttype words) p form h in
      let b = dest-built request.prio request.large request.dest request.source
      (rest ttype words) p form h in
      let c = source-built request.prio request.large request.dest request.source
      (rest ttype words) p form h in
      let l = large-built request.prio request.large request.dest request.source
      (rest ttype words) p form h in
      let e = tid-built request.prio request.large request.dest request.source ttype 8 request.tid
      request.hop request.offset words p form h in
      let f = hop-built request.prio request.large request.dest request.source ttype 8 request.tid
      request.hop request.offset words p form h in
      let g = offset-built request.prio request.large request.dest request.source ttype 8
      request.tid request.hop request.offset words p form h in
      rw is (λ i. Some record {
        prio = a i;
        dest = b i;
        source = c i;
        large = l i;
        op = asks i;
        tid = e i;
        hop = f i;
        offset = g i;
      })

  from_op : (op : Op) → request.op ≡ op → IsGoodOp op
      → LinkForm (body_of request.prio 8 request.large request.dest request.source
      (op_bytes request op)) p
      → request_of p ≡ Some request
  from_op Read is good form =
      let size = length-without request.prio request.large request.dest request.source 0 8
      request.tid request.hop request.offset p form h in
      let type = ttype-built request.prio request.large request.dest request.source 0 8 request.tid
      request.hop request.offset None p form h (omega arith) in
      let low = low_half-built request.prio request.large request.dest request.source 0 8
      request.tid request.hop request.offset None p form h (omega arith) in
      let maintenance = maintenance-without request.prio request.large request.dest request.source 0
      8 request.tid request.hop request.offset p form h in
      from_form 0 None form refl maintenance (op_of-read p type low size ∙ sym is)
  from_op (Write value) is good form =
      let words = in_half request.offset value in
      let size = length-with request.prio request.large request.dest request.source 1 8 request.tid
      request.hop request.offset words.0 words.1 p form h in
      let type = ttype-built request.prio request.large request.dest request.source 1 8 request.tid
      request.hop request.offset (Some words) p form h (omega arith) in
      let low = low_half-built request.prio request.large request.dest request.source 1 8
      request.tid request.hop request.offset (Some words) p form h (omega arith) in
      let offset = offset-built request.prio request.large request.dest request.source 1 8
      request.tid request.hop request.offset (Some words) p form h in
      let maintenance = maintenance-with request.prio request.large request.dest request.source 1 8
      request.tid request.hop request.offset words.0 words.1 p form h in
      let named : value_in p ≡ value =
      ap (λ o. word_at p (ids_end p + (if names_second o then 10 else 6))) offset
      ∙ word-half value (names_second request.offset) form in
      from_form 1 (Some words) form refl maintenance (op_of-write p value type low size named
      ∙ sym is)
  from_op BadRead is good form = absurd good
  from_op BadWrite is good form = absurd good

  pub read_back : IsGoodOp request.op → LinkForm (request_body request) p
      → request_of p ≡ Some request
  read_back good form = from_op request.op refl good form

  -- the packet is what the request names
  pub is_bytes : LinkForm (request_body request) p → p ≡ request_bytes request
  is_bytes form = by_op request.op form
    where
      built : (ttype : ℕ) (words : Option (ℕ × ℕ)) → LinkForm (body ttype words) p
          → p ≡ message_ended request.large (body ttype words)
      built ttype words form =
          ended-built request.prio request.large request.dest request.source ttype 8 request.tid
          request.hop request.offset words p form h

      by_op : (op : Op) → LinkForm (body_of request.prio 8 request.large request.dest request.source
          (op_bytes request op)) p
          → p ≡ message_ended request.large (body_of request.prio 8 request.large request.dest
          request.source (op_bytes request op))
      by_op Read form = built 0 None form
      by_op (Write value) form = built 1 (Some (in_half request.offset value)) form
      by_op BadRead form = built 0 None form
      by_op BadWrite form = built 0 None form
