-- Laws of what is on its way: a front may be lost, and events come in at the end.
use Rattle.link_sound.proofs.Prelude.{◌≡◌, ℕ, zero, suc, ◌%◌, ◌≤◌, Bool, true, false, List, [], ◌∷◌, ◌++◌, length, Some, slice_get, refl, arith, slice_get_within, Forward, ForwardPacket, ForwardRestart, ForwardRequest, Other, is_packet, is_restart, is_forward_request, is_forward, Backward, Accept, Retry, Response, Neutral, is_retry, is_response, is_backward, Lacks, AcceptsInTurn, PacketsInTurn, RetryOnce, RestartOnce, RequestLast, ResponseLast}

abbrev pub is_accept : Backward → Bool
is_accept (Accept ack) = true
is_accept (Retry ack) = false
is_accept (Response ack) = false
is_accept Neutral = false

pub Lacks-lost : {X : Type 0} (kind : X → Bool) (lost kept : List X) → Lacks kind (lost ++ kept)
    → Lacks kind kept
Lacks-lost kind [] kept none = none
Lacks-lost kind (e ∷ lost) kept none = Lacks-lost kind lost kept none.1

pub Lacks-append : {X : Type 0} (kind : X → Bool) (kept : List X) (e : X) → Lacks kind kept
    → kind e ≡ false → Lacks kind (kept ++ e ∷ [])
Lacks-append kind [] e none is = (is, tt)
Lacks-append kind (x ∷ kept) e none is = (none.0, Lacks-append kind kept e none.1 is)

pub AcceptsInTurn-lower : (low least held : ℕ) (kept : List Backward) → low ≤ least
    → AcceptsInTurn least held kept → AcceptsInTurn low held kept
AcceptsInTurn-lower low least held [] below accepts = tt
AcceptsInTurn-lower low least held (Accept ack ∷ kept) below (n, is, from, within, rest) =
    (n, is, omega arith, within, rest)
AcceptsInTurn-lower low least held (_ ∷ kept) below accepts =
    AcceptsInTurn-lower low least held kept below accepts

pub AcceptsInTurn-lost : (least held : ℕ) (lost kept : List Backward)
    → AcceptsInTurn least held (lost ++ kept) → AcceptsInTurn least held kept
AcceptsInTurn-lost least held [] kept accepts = accepts
AcceptsInTurn-lost least held (Accept ack ∷ lost) kept (n, is, from, within, rest) =
    AcceptsInTurn-lower least (suc n) held kept (omega arith)
    (AcceptsInTurn-lost (suc n) held lost kept rest)
AcceptsInTurn-lost least held (_ ∷ lost) kept accepts =
    AcceptsInTurn-lost least held lost kept accepts

-- the next packet is accepted
pub AcceptsInTurn-accept : (least held : ℕ) (kept : List Backward) → least ≤ held
    → AcceptsInTurn least held kept
    → AcceptsInTurn least (suc held) (kept ++ Accept (held % 32) ∷ [])
AcceptsInTurn-accept least held [] below accepts = (held, refl, below, omega arith, tt)
AcceptsInTurn-accept least held (Accept ack ∷ kept) below (n, is, from, within, rest) =
    (n, is, from, omega arith, AcceptsInTurn-accept (suc n) held kept (omega arith) rest)
AcceptsInTurn-accept least held (_ ∷ kept) below accepts =
    AcceptsInTurn-accept least held kept below accepts

pub AcceptsInTurn-append : (least held : ℕ) (kept : List Backward) (e : Backward)
    → is_accept e ≡ false → AcceptsInTurn least held kept
    → AcceptsInTurn least held (kept ++ e ∷ [])
AcceptsInTurn-append least held [] (Accept ack) is accepts = absurd cc
AcceptsInTurn-append least held [] _ is accepts = tt
AcceptsInTurn-append least held (Accept ack ∷ kept) e is (n, number, from, within, rest) =
    (n, number, from, within, AcceptsInTurn-append (suc n) held kept e is rest)
AcceptsInTurn-append least held (_ ∷ kept) e is accepts =
    AcceptsInTurn-append least held kept e is accepts

pub AcceptsInTurn-none : (least held : ℕ) (kept : List Backward) → Lacks is_backward kept
    → AcceptsInTurn least held kept
AcceptsInTurn-none least held [] none = tt
AcceptsInTurn-none least held (Neutral ∷ kept) none = AcceptsInTurn-none least held kept none.1
AcceptsInTurn-none least held (_ ∷ kept) none = absurd cc

pub PacketsInTurn-lower : (sent : List (List ℕ)) (low least : ℕ) (kept : List Forward) → low ≤ least
    → PacketsInTurn sent least kept → PacketsInTurn sent low kept
PacketsInTurn-lower sent low least [] below flight = tt
PacketsInTurn-lower sent low least (ForwardPacket ack packet ∷ kept) below (
  n,
  is,
  from,
  found,
  rest,
) =
    (n, is, omega arith, found, rest)
PacketsInTurn-lower sent low least (_ ∷ kept) below flight =
    PacketsInTurn-lower sent low least kept below flight

pub PacketsInTurn-lost : (sent : List (List ℕ)) (least : ℕ) (lost kept : List Forward)
    → PacketsInTurn sent least (lost ++ kept) → PacketsInTurn sent least kept
PacketsInTurn-lost sent least [] kept flight = flight
PacketsInTurn-lost sent least (ForwardPacket ack packet ∷ lost) kept (n, is, from, found, rest) =
    PacketsInTurn-lower sent least (suc n) kept (omega arith)
    (PacketsInTurn-lost sent (suc n) lost kept rest)
PacketsInTurn-lost sent least (_ ∷ lost) kept flight =
    PacketsInTurn-lost sent least lost kept flight

pub PacketsInTurn-append : (sent : List (List ℕ)) (least : ℕ) (kept : List Forward) (e : Forward)
    → is_packet e ≡ false → PacketsInTurn sent least kept
    → PacketsInTurn sent least (kept ++ e ∷ [])
PacketsInTurn-append sent least [] (ForwardPacket ack packet) is flight = absurd cc
PacketsInTurn-append sent least [] _ is flight = tt
PacketsInTurn-append sent least (ForwardPacket ack packet ∷ kept) e is (
  n,
  number,
  from,
  found,
  rest,
) =
    (n, number, from, found, PacketsInTurn-append sent (suc n) kept e is rest)
PacketsInTurn-append sent least (_ ∷ kept) e is flight =
    PacketsInTurn-append sent least kept e is flight

slice_get-last : (sent : List (List ℕ)) (packet : List ℕ)
    → slice_get (sent ++ packet ∷ []) (length sent) ≡ Some packet
slice_get-last [] packet = refl
slice_get-last (first ∷ sent) packet = slice_get-last sent packet

slice_get-before : (sent : List (List ℕ)) (packet : List ℕ) (n : ℕ) (other : List ℕ)
    → slice_get sent n ≡ Some other → slice_get (sent ++ packet ∷ []) n ≡ Some other
slice_get-before [] packet n other found = absurd cc
slice_get-before (first ∷ sent) packet zero other found = found
slice_get-before (first ∷ sent) packet (suc n) other found =
    slice_get-before sent packet n other found

-- one more packet is sent
pub PacketsInTurn-start :
    (sent : List (List ℕ)) (least : ℕ) (kept : List Forward) (packet : List ℕ) → least ≤ length sent
    → PacketsInTurn sent least kept
    → PacketsInTurn (sent ++ packet ∷ []) least (kept ++ ForwardPacket (length sent % 32) packet
    ∷ [])
PacketsInTurn-start sent least [] packet below flight =
    (length sent, refl, below, slice_get-last sent packet, tt)
PacketsInTurn-start sent least (ForwardPacket ack other ∷ kept) packet below (
  n,
  is,
  from,
  found,
  rest,
) = (
  n,
  is,
  from,
  slice_get-before sent packet n other found,
  PacketsInTurn-start sent (suc n) kept packet (slice_get_within sent n other found) rest,
)
PacketsInTurn-start sent least (_ ∷ kept) packet below flight =
    PacketsInTurn-start sent least kept packet below flight

pub PacketsInTurn-none : (sent : List (List ℕ)) (least : ℕ) (kept : List Forward)
    → Lacks is_forward kept → PacketsInTurn sent least kept
PacketsInTurn-none sent least [] none = tt
PacketsInTurn-none sent least (Other ∷ kept) none = PacketsInTurn-none sent least kept none.1
PacketsInTurn-none sent least (_ ∷ kept) none = absurd cc

pub RetryOnce-none : (held : ℕ) (kept : List Backward) → Lacks is_retry kept → RetryOnce held kept
RetryOnce-none held [] none = tt
RetryOnce-none held (Retry ack ∷ kept) none = absurd cc
RetryOnce-none held (_ ∷ kept) none = RetryOnce-none held kept none.1

pub RetryOnce-lost : (held : ℕ) (lost kept : List Backward) → RetryOnce held (lost ++ kept)
    → RetryOnce held kept
RetryOnce-lost held [] kept once = once
RetryOnce-lost held (Retry ack ∷ lost) kept once =
    RetryOnce-none held kept (Lacks-lost is_retry lost kept once.1)
RetryOnce-lost held (_ ∷ lost) kept once = RetryOnce-lost held lost kept once

pub RetryOnce-append : (held : ℕ) (kept : List Backward) (e : Backward) → is_retry e ≡ false
    → RetryOnce held kept → RetryOnce held (kept ++ e ∷ [])
RetryOnce-append held [] (Retry ack) is once = absurd cc
RetryOnce-append held [] _ is once = tt
RetryOnce-append held (Retry ack ∷ kept) e is once =
    (once.0, Lacks-append is_retry kept e once.1 is)
RetryOnce-append held (_ ∷ kept) e is once = RetryOnce-append held kept e is once

-- the packet that is expected has to be sent again
pub RetryOnce-retry : (held : ℕ) (kept : List Backward) → Lacks is_retry kept
    → RetryOnce held (kept ++ Retry (held % 32) ∷ [])
RetryOnce-retry held [] none = (refl, tt)
RetryOnce-retry held (Retry ack ∷ kept) none = absurd cc
RetryOnce-retry held (_ ∷ kept) none = RetryOnce-retry held kept none.1

pub RestartOnce-none : (sent : List (List ℕ)) (held : ℕ) (kept : List Forward)
    → Lacks is_restart kept → RestartOnce sent held kept
RestartOnce-none sent held [] none = tt
RestartOnce-none sent held (ForwardRestart ∷ kept) none = absurd cc
RestartOnce-none sent held (_ ∷ kept) none = RestartOnce-none sent held kept none.1

pub RestartOnce-lost : (sent : List (List ℕ)) (held : ℕ) (lost kept : List Forward)
    → RestartOnce sent held (lost ++ kept) → RestartOnce sent held kept
RestartOnce-lost sent held [] kept once = once
RestartOnce-lost sent held (ForwardRestart ∷ lost) kept once =
    RestartOnce-none sent held kept (Lacks-lost is_restart lost kept once.0)
RestartOnce-lost sent held (_ ∷ lost) kept once = RestartOnce-lost sent held lost kept once

pub RestartOnce-append :
    (sent : List (List ℕ)) (held : ℕ) (kept : List Forward) (e : Forward) → is_packet e ≡ false
    → is_restart e ≡ false → RestartOnce sent held kept
    → RestartOnce sent held (kept ++ e ∷ [])
RestartOnce-append sent held [] ForwardRestart is not once = absurd cc
RestartOnce-append sent held [] _ is not once = tt
RestartOnce-append sent held (ForwardRestart ∷ kept) e is not once =
    (Lacks-append is_restart kept e once.0 not, PacketsInTurn-append sent held kept e is once.1)
RestartOnce-append sent held (_ ∷ kept) e is not once =
    RestartOnce-append sent held kept e is not once

-- one more packet is sent
pub RestartOnce-start :
    (sent : List (List ℕ)) (held : ℕ) (kept : List Forward) (packet : List ℕ) → held ≤ length sent
    → RestartOnce sent held kept
    → RestartOnce (sent ++ packet ∷ []) held (kept ++ ForwardPacket (length sent % 32) packet ∷ [])
RestartOnce-start sent held [] packet below once = tt
RestartOnce-start sent held (ForwardRestart ∷ kept) packet below once = (
  Lacks-append is_restart kept (ForwardPacket (length sent % 32) packet) once.0 refl,
  PacketsInTurn-start sent held kept packet below once.1,
)
RestartOnce-start sent held (_ ∷ kept) packet below once =
    RestartOnce-start sent held kept packet below once

-- the first restart-from-retry is sent
pub RestartOnce-restart : (sent : List (List ℕ)) (held : ℕ) (kept : List Forward)
    → Lacks is_restart kept → RestartOnce sent held (kept ++ ForwardRestart ∷ [])
RestartOnce-restart sent held [] none = (tt, tt)
RestartOnce-restart sent held (ForwardRestart ∷ kept) none = absurd cc
RestartOnce-restart sent held (_ ∷ kept) none = RestartOnce-restart sent held kept none.1

pub RequestLast-none : (kept : List Forward) → Lacks is_forward kept → RequestLast kept
RequestLast-none [] none = tt
RequestLast-none (Other ∷ kept) none = RequestLast-none kept none.1
RequestLast-none (_ ∷ kept) none = absurd cc

pub RequestLast-lost : (lost kept : List Forward) → RequestLast (lost ++ kept) → RequestLast kept
RequestLast-lost [] kept last = last
RequestLast-lost (ForwardRequest ∷ lost) kept last =
    RequestLast-none kept (Lacks-lost is_forward lost kept last)
RequestLast-lost (_ ∷ lost) kept last = RequestLast-lost lost kept last

pub RequestLast-append : (kept : List Forward) → RequestLast kept → RequestLast (kept ++ Other ∷ [])
RequestLast-append [] last = tt
RequestLast-append (ForwardRequest ∷ kept) last = Lacks-append is_forward kept Other last refl
RequestLast-append (_ ∷ kept) last = RequestLast-append kept last

-- the first link-request is sent
pub RequestLast-request : (kept : List Forward) → Lacks is_forward_request kept
    → RequestLast (kept ++ ForwardRequest ∷ [])
RequestLast-request [] none = tt
RequestLast-request (ForwardRequest ∷ kept) none = absurd cc
RequestLast-request (_ ∷ kept) none = RequestLast-request kept none.1

pub ResponseLast-none : (held : ℕ) (kept : List Backward) → Lacks is_response kept
    → ResponseLast held kept
ResponseLast-none held [] none = tt
ResponseLast-none held (Response ack ∷ kept) none = absurd cc
ResponseLast-none held (_ ∷ kept) none = ResponseLast-none held kept none.1

pub Lacks-response : (kept : List Backward) → Lacks is_backward kept → Lacks is_response kept
Lacks-response [] none = tt
Lacks-response (Neutral ∷ kept) none = (refl, Lacks-response kept none.1)
Lacks-response (_ ∷ kept) none = absurd cc

pub ResponseLast-lost : (held : ℕ) (lost kept : List Backward) → ResponseLast held (lost ++ kept)
    → ResponseLast held kept
ResponseLast-lost held [] kept last = last
ResponseLast-lost held (Response ack ∷ lost) kept last =
    ResponseLast-none held kept (Lacks-response kept (Lacks-lost is_backward lost kept last.1))
ResponseLast-lost held (_ ∷ lost) kept last = ResponseLast-lost held lost kept last

pub ResponseLast-append : (held : ℕ) (kept : List Backward) → ResponseLast held kept
    → ResponseLast held (kept ++ Neutral ∷ [])
ResponseLast-append held [] last = tt
ResponseLast-append held (Response ack ∷ kept) last =
    (last.0, Lacks-append is_backward kept Neutral last.1 refl)
ResponseLast-append held (_ ∷ kept) last = ResponseLast-append held kept last

-- the first link-response is sent
pub ResponseLast-response : (held : ℕ) (kept : List Backward) → Lacks is_response kept
    → ResponseLast held (kept ++ Response (held % 32) ∷ [])
ResponseLast-response held [] none = (refl, tt)
ResponseLast-response held (Response ack ∷ kept) none = absurd cc
ResponseLast-response held (_ ∷ kept) none = ResponseLast-response held kept none.1
