-- A packet that a line gives to an endpoint can be made, so that the line has a block.
use Rattle.fabric_trace.proofs.Prelude.{◌≡◌, ℕ, ◌%◌, ◌^◌, ◌<◌, ◌≤◌, Bool, true, false, List, Option, Some, None, option_map, slice_get, unwrap_or, length, All, arith, refl, if◌then◌else◌, true≢false, All-from_recursion, body_of, IsBody, LinkForm-made, Registers, IsWithin, names_second, in_half, Network, sender_id, id_of, IsEndpoint, IsFormed, take_lines, SendsBody, id_limit, FitsSend, FitsRequest, Seen, TraceLine}
use Rattle.rio_packets.specs.Making.{made, most_rest}
use Rattle.rio_packets.proofs.MakingLaws.{IsBody-body_of}
use Rattle.maint_packets.specs.Layout.{behind_ids}
use Rattle.fabric_model.proofs.Forms.{device_at}

-- ---- packets

sized : (large : Bool) (id : ℕ) → id < id_limit large
    → (id < 0x10000) × (large ≡ false → id < 256)
sized false id low = (omega (arith, low), λ small. low)
sized true id low = (low, λ small. absurd (true≢false small))

body_is : (large : Bool) (prio ftype dest source : ℕ) (rest : List ℕ) → prio < 4 → ftype < 16
    → dest < id_limit large → source < id_limit large → All (λ b. b < 256) rest
    → length rest % 2 ≡ 0 → length rest ≤ most_rest large
    → IsBody (body_of prio ftype large dest source rest)
body_is large prio ftype dest source rest p f d s range even most =
    let to = sized large dest d in
    let from = sized large source s in
    IsBody-body_of prio ftype large dest source rest p f to.0 from.0 to.1 from.1 range even most

pub send_body : (large : Bool) (prio ftype dest source : ℕ) (hex : List ℕ)
    → FitsSend large prio ftype dest hex → source < id_limit large
    → IsBody (body_of prio ftype large dest source hex)
send_body large prio ftype dest source hex fits s =
    body_is large prio ftype dest source hex fits.0 fits.1 fits.2 s fits.3 fits.4.even
    fits.4.most

module _ (hop tid offset : ℕ) (h : hop < 256) (t : tid < 256) (o : offset < 16 ^ 6) where
  read_rest : All (λ b. b < 256) (behind_ids 0 8 tid hop offset None)
  read_rest =
      let low : offset < 0x1000000 = o in
      All-from_recursion (λ b. b < 256) (behind_ids 0 8 tid hop offset None)
      (omega arith, (t, (h, (omega arith, (omega arith, (omega arith, tt))))))

  write_rest : (a b : ℕ) → a < 0x100000000 → b < 0x100000000
      → All (λ b. b < 256) (behind_ids 1 8 tid hop offset (Some (a, b)))
  write_rest a b x y =
      let low : offset < 0x1000000 = o in
      All-from_recursion (λ b. b < 256) (behind_ids 1 8 tid hop offset (Some (a, b))) (
        omega arith,
        (
          t,
          (
            h,
            (
              omega arith,
              (
                omega arith,
                (
                  omega arith,
                  (
                    omega arith,
                    (
                      omega arith,
                      (
                        omega arith,
                        (
                          omega arith,
                          (
                            omega arith,
                            (
                              omega arith,
                              (
                                omega arith,
                                (
                                  omega arith,
                                  tt,
                                ),
                              ),
                            ),
                          ),
                        ),
                      ),
                    ),
                  ),
                ),
              ),
            ),
          ),
        ),
      )

most_least : (large : Bool) (n : ℕ) → n ≤ 14 → n ≤ most_rest large
most_least false n most = omega arith
most_least true n most = omega arith

module _ (large : Bool) (prio dest source hop tid offset : ℕ)
    (fits : FitsRequest large prio dest hop tid offset) (s : source < id_limit large) where
  ask_body : (rest : List ℕ) → All (λ b. b < 256) rest → length rest % 2 ≡ 0 → length rest ≤ 14
      → IsBody (body_of prio 8 large dest source rest)
  ask_body rest range even most =
      body_is large prio 8 dest source rest fits.0 (omega arith) fits.1 s range even
      (most_least large (length rest) most)

  pub read_body : IsBody (body_of prio 8 large dest source (behind_ids 0 8 tid hop offset None))
  read_body = ask_body (behind_ids 0 8 tid hop offset None)
      (read_rest hop tid offset fits.2 fits.3 fits.4) refl (omega arith)

  write_body : (a b : ℕ) → a < 0x100000000 → b < 0x100000000
      → IsBody (body_of prio 8 large dest source (behind_ids 1 8 tid hop offset (Some (a, b))))
  write_body a b x y = ask_body (behind_ids 1 8 tid hop offset (Some (a, b)))
      (write_rest hop tid offset fits.2 fits.3 fits.4 a b x y) refl (omega arith)

  pub half_body : (value : ℕ) → value < 16 ^ 8 → IsBody (body_of prio 8 large dest source
      (behind_ids 1 8 tid hop offset (Some (in_half offset value))))
  half_body value v =
      let word : value < 0x100000000 = v in
      elim (names_second offset) as (λ x. IsBody (body_of prio 8 large dest source
      (behind_ids 1 8 tid hop offset (Some (if x then (0, value) else (value, 0)))))) [
        | true ↦ write_body 0 value (omega arith) word
        | false ↦ write_body value 0 word (omega arith)
      ]

-- the ID of a node fits its size
pub id_low : (net : Network) (node : ℕ) (large : Bool) → IsFormed net
    → id_of net node large < id_limit large
id_low net node large formed = by_found (slice_get net.registers node) refl
  where
    of_size : (device : Registers) (large : Bool) → IsWithin device
        → sender_id device large < id_limit large
    of_size device false within = within.base_id
    of_size device true within = within.large_id

    zero_low : (large : Bool) → 0 < id_limit large
    zero_low false = omega arith
    zero_low true = omega arith

    by_found : (found : Option Registers) → slice_get net.registers node ≡ found
        → unwrap_or (option_map (λ (device : Registers). sender_id device large) found) 0
        < id_limit large
    by_found None at = zero_low large
    by_found (Some device) at =
        of_size device large (device_at net.registers node device at formed.registers)

pub sends_exist : (s : Seen) (node : ℕ) (body : List ℕ) → IsEndpoint s.network node → IsBody body
    → (block : List TraceLine) × SendsBody s node body block
sends_exist s node body there is = (
  take_lines s node (made body),
  record { packet = made body; endpoint = there; form = LinkForm-made body is; lines = refl },
)
