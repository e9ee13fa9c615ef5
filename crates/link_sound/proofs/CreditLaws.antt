-- Laws of what is told of free buffers on its way, and of the packets that have room: a front may
-- be lost, more buffers may be free, and events come in at the end.
use Rattle.link_sound.proofs.Prelude.{◌≡◌, ℕ, suc, ◌+◌, ◌-◌, ◌%◌, ◌<◌, ◌≤◌, Bool, true, false, List, [], ◌∷◌, ◌++◌, refl, arith, prio_of, untold, Forward, ForwardPacket, Other, is_forward, is_packet, Lacks, Word, Accepted, WordTold, Responded, Silent, WordsInTurn, HaveRoom}

pub WordsInTurn-lower : (low least held total : ℕ) (words : List Word) → low ≤ least
    → WordsInTurn least held total words → WordsInTurn low held total words
WordsInTurn-lower low least held total [] below are = tt
WordsInTurn-lower low least held total (Accepted ack free ∷ words) below
    (n, is, from, within, few, enough, rest) =
    (n, is, omega arith, within, few, enough, rest)
WordsInTurn-lower low least held total (WordTold ack free ∷ words) below
    (n, is, from, within, few, enough, rest) = (
      n,
      is,
      omega arith,
      within,
      few,
      enough,
      WordsInTurn-lower low least held total words below rest,
    )
WordsInTurn-lower low least held total (Responded ack ∷ words) below are = are
WordsInTurn-lower low least held total (Silent ∷ words) below are =
    WordsInTurn-lower low least held total words below are

-- one word is heard, or lost
pub WordsInTurn-rest : (least held total : ℕ) (w : Word) (words : List Word) → least ≤ held
    → WordsInTurn least held total (w ∷ words) → WordsInTurn least held total words
WordsInTurn-rest least held total (Accepted ack free) words below
    (n, is, from, within, few, enough, rest) =
    WordsInTurn-lower least (suc n) held total words (omega arith) rest
WordsInTurn-rest least held total (WordTold ack free) words below
    (n, is, from, within, few, enough, rest) =
    rest
WordsInTurn-rest least held total (Responded ack) words below (is, rest) =
    WordsInTurn-lower least held held total words below rest
WordsInTurn-rest least held total Silent words below are = are

pub WordsInTurn-lost : (least held total : ℕ) (lost words : List Word) → least ≤ held
    → WordsInTurn least held total (lost ++ words) → WordsInTurn least held total words
WordsInTurn-lost least held total [] words below are = are
WordsInTurn-lost least held total (w ∷ lost) words below are =
    WordsInTurn-lost least held total lost words below
    (WordsInTurn-rest least held total w (lost ++ words) below are)

-- more buffers are free
pub WordsInTurn-more : (least held total more : ℕ) (words : List Word) → total ≤ more
    → WordsInTurn least held total words → WordsInTurn least held more words
WordsInTurn-more least held total more [] grows are = tt
WordsInTurn-more least held total more (Accepted ack free ∷ words) grows
    (n, is, from, within, few, enough, rest) = (
      n,
      is,
      from,
      within,
      few,
      omega arith,
      WordsInTurn-more (suc n) held total more words grows rest,
    )
WordsInTurn-more least held total more (WordTold ack free ∷ words) grows
    (n, is, from, within, few, enough, rest) = (
      n,
      is,
      from,
      within,
      few,
      omega arith,
      WordsInTurn-more least held total more words grows rest,
    )
WordsInTurn-more least held total more (Responded ack ∷ words) grows (is, rest) =
    (is, WordsInTurn-more held held total more words grows rest)
WordsInTurn-more least held total more (Silent ∷ words) grows are =
    WordsInTurn-more least held total more words grows are

-- what a receiver may say that holds no packet
abbrev pub MaySay : (held total : ℕ) → Word → Type 0
MaySay held total (Accepted ack free) = ⊥
MaySay held total (WordTold ack free) = (ack ≡ held % 32) × (free < untold) × (free + held ≤ total)
MaySay held total (Responded ack) = ack ≡ held % 32
MaySay held total Silent = Unit {0}

said : (least held total : ℕ) (w : Word) → least ≤ held → MaySay held total w
    → WordsInTurn least held total (w ∷ [])
said least held total (Accepted ack free) below may = absurd may
said least held total (WordTold ack free) below (is, few, enough) =
    (held, is, below, omega arith, few, enough, tt)
said least held total (Responded ack) below is = (is, tt)
said least held total Silent below may = tt

pub WordsInTurn-append : (least held total : ℕ) (words : List Word) (w : Word) → least ≤ held
    → MaySay held total w → WordsInTurn least held total words
    → WordsInTurn least held total (words ++ w ∷ [])
WordsInTurn-append least held total [] w below may are = said least held total w below may
WordsInTurn-append least held total (Accepted ack free ∷ words) w below may
    (n, is, from, within, few, enough, rest) = (
      n,
      is,
      from,
      within,
      few,
      enough,
      WordsInTurn-append (suc n) held total words w within may rest,
    )
WordsInTurn-append least held total (WordTold ack free ∷ words) w below may
    (n, is, from, within, few, enough, rest) = (
      n,
      is,
      from,
      within,
      few,
      enough,
      WordsInTurn-append least held total words w below may rest,
    )
WordsInTurn-append least held total (Responded ack ∷ words) w below may (is, rest) =
    (is, WordsInTurn-append held held total words w (omega arith) may rest)
WordsInTurn-append least held total (Silent ∷ words) w below may are =
    WordsInTurn-append least held total words w below may are

abbrev pub is_responded : Word → Bool
is_responded (Accepted ack free) = false
is_responded (WordTold ack free) = false
is_responded (Responded ack) = true
is_responded Silent = false

-- the next packet is held
pub WordsInTurn-accept :
    (least held total free : ℕ) (words : List Word) → least ≤ held → free < untold
    → free + suc held ≤ total → Lacks is_responded words → WordsInTurn least held total words
    → WordsInTurn least (suc held) total (words ++ Accepted (held % 32) free ∷ [])
WordsInTurn-accept least held total free [] below few enough none are =
    (held, refl, below, omega arith, few, enough, tt)
WordsInTurn-accept least held total free (Accepted ack f ∷ words) below few enough none
    (n, is, from, within, first, there, rest) = (
      n,
      is,
      from,
      omega arith,
      first,
      there,
      WordsInTurn-accept (suc n) held total free words within few enough none.1 rest,
    )
WordsInTurn-accept least held total free (WordTold ack f ∷ words) below few enough none
    (n, is, from, within, first, there, rest) = (
      n,
      is,
      from,
      omega arith,
      first,
      there,
      WordsInTurn-accept least held total free words below few enough none.1 rest,
    )
WordsInTurn-accept least held total free (Responded ack ∷ words) below few enough none are =
    absurd cc
WordsInTurn-accept least held total free (Silent ∷ words) below few enough none are =
    WordsInTurn-accept least held total free words below few enough none.1 are

pub HaveRoom-lower : (total low least next : ℕ) (kept : List Forward) → low ≤ least
    → HaveRoom total least next kept → HaveRoom total low next kept
HaveRoom-lower total low least next [] below have = tt
HaveRoom-lower total low least next (ForwardPacket ack packet ∷ kept) below
    (n, is, from, within, room, rest) =
    (n, is, omega arith, within, room, rest)
HaveRoom-lower total low least next (_ ∷ kept) below have =
    HaveRoom-lower total low least next kept below have

pub HaveRoom-lost : (total least next : ℕ) (lost kept : List Forward)
    → HaveRoom total least next (lost ++ kept) → HaveRoom total least next kept
HaveRoom-lost total least next [] kept have = have
HaveRoom-lost total least next (ForwardPacket ack packet ∷ lost) kept (
  n,
  is,
  from,
  within,
  room,
  rest,
) =
    HaveRoom-lower total least (suc n) next kept (omega arith)
    (HaveRoom-lost total (suc n) next lost kept rest)
HaveRoom-lost total least next (_ ∷ lost) kept have = HaveRoom-lost total least next lost kept have

-- more buffers are free
pub HaveRoom-more : (total more least next : ℕ) (kept : List Forward) → total ≤ more
    → HaveRoom total least next kept → HaveRoom more least next kept
HaveRoom-more total more least next [] grows have = tt
HaveRoom-more total more least next (ForwardPacket ack packet ∷ kept) grows
    (n, is, from, within, room, rest) =
    (n, is, from, within, omega arith, HaveRoom-more total more (suc n) next kept grows rest)
HaveRoom-more total more least next (_ ∷ kept) grows have =
    HaveRoom-more total more least next kept grows have

pub HaveRoom-append : (total least next : ℕ) (kept : List Forward) (e : Forward)
    → is_packet e ≡ false → HaveRoom total least next kept
    → HaveRoom total least next (kept ++ e ∷ [])
HaveRoom-append total least next [] (ForwardPacket ack packet) is have = absurd cc
HaveRoom-append total least next [] _ is have = tt
HaveRoom-append total least next (ForwardPacket ack packet ∷ kept) e is
    (n, number, from, within, room, rest) =
    (n, number, from, within, room, HaveRoom-append total (suc n) next kept e is rest)
HaveRoom-append total least next (_ ∷ kept) e is have =
    HaveRoom-append total least next kept e is have

-- the next packet starts
pub HaveRoom-start : (total least next : ℕ) (kept : List Forward) (packet : List ℕ) → least ≤ next
    → next + (3 - prio_of packet) < total → HaveRoom total least next kept
    → HaveRoom total least (suc next) (kept ++ ForwardPacket (next % 32) packet ∷ [])
HaveRoom-start total least next [] packet below room have =
    (next, refl, below, omega arith, room, tt)
HaveRoom-start total least next (ForwardPacket ack p ∷ kept) packet below room
    (n, is, from, within, there, rest) = (
      n,
      is,
      from,
      omega arith,
      there,
      HaveRoom-start total (suc n) next kept packet within room rest,
    )
HaveRoom-start total least next (_ ∷ kept) packet below room have =
    HaveRoom-start total least next kept packet below room have

-- nothing that means anything is on its way
pub HaveRoom-none : (total least next : ℕ) (kept : List Forward) → Lacks is_forward kept
    → HaveRoom total least next kept
HaveRoom-none total least next [] none = tt
HaveRoom-none total least next (Other ∷ kept) none = HaveRoom-none total least next kept none.1
HaveRoom-none total least next (_ ∷ kept) none = absurd cc
