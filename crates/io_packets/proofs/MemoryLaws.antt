-- What a write leaves of a memory.
use Rattle.std.proofs.Common.{◌≡◌, ℕ, ◌+◌, ◌-◌, ◌≤◌, Bool, true, false, List, ◌++◌, length, take, drop, refl, sym, ap, ◌∙◌, inl, inr, arith, if◌then◌else◌, length-append, length-drop, length-take-le, append_assoc, le-leb, leb-true}
use Rattle.std.specs.Prelude.{slice_range, nat_le}
use Rattle.std.proofs.Math.Seq.{drop-append_seam, take-append_seam}
use Rattle.std.proofs.lemmas.List.{drop-take, take-append-le, take-take}
use Rattle.std.proofs.lemmas.Slice.{drop-append-drop}
use Rattle.std.proofs.lemmas.Bool.{cases_lt}
use Rattle.io_packets.specs.Serving.{memory_put, written}
use Rattle.io_packets.specs.Laws.{KeepsWritten, KeepsOthers, KeepsLength}

as_range : (xs : List ℕ) (from to : ℕ) → from ≤ to → slice_range xs from to ≡ drop from (take to xs)
as_range xs from to k =
    let whole : from + (to - from) ≡ to = omega arith in
    sym (drop-take from (to - from) xs) ∙ ap (λ n. drop from (take n xs)) whole

module _ (memory load : List ℕ) (addr : ℕ) where
  -- if all is within the memory
  module _ (h : addr + length load ≤ length memory) where
    written_within : written memory addr load ≡ memory_put memory addr load
    written_within = rw (le-leb (addr + length load) (length memory) h) refl

    front_size : length (take addr memory) ≡ addr
    front_size = length-take-le addr memory (omega arith)

    reads_load : slice_range (memory_put memory addr load) addr (addr + length load) ≡ load
    reads_load =
        let rest = load ++ drop (addr + length load) memory in
        let count : addr + length load - addr ≡ length load = omega arith in
        ap (λ n. take (addr + length load - addr) (drop n (take addr memory ++ rest)))
        (sym front_size)
        ∙ ap (λ (l : List ℕ). take (addr + length load - addr) l)
        (drop-append_seam (take addr memory) rest)
        ∙ ap (λ n. take n rest) count
        ∙ take-append_seam load (drop (addr + length load) memory)

    length-put : length (memory_put memory addr load) ≡ length memory
    length-put =
        let front = front_size in
        let whole = length-append (take addr memory) (load ++ drop (addr + length load) memory) in
        let rest = length-append load (drop (addr + length load) memory) in
        let back = length-drop (addr + length load) memory in
        omega (arith, front, whole, rest, back)

    -- before what was written
    reads_before : (from to : ℕ) → to ≤ addr
        → slice_range (memory_put memory addr load) from to ≡ slice_range memory from to
    reads_before from to k =
        let front = front_size in
        let rest = load ++ drop (addr + length load) memory in
        let taken : take to (take addr memory ++ rest) ≡ take to memory =
        take-append-le to (take addr memory) rest (omega arith) ∙ take-take to addr memory k in
        elim (cases_lt to from) [
          | inl none ↦
              (let zero : to - from ≡ 0 = omega arith in
              ap (λ n. take n (drop from (memory_put memory addr load))) zero
              ∙ sym (ap (λ n. take n (drop from memory)) zero))
          | inr some ↦
              as_range (memory_put memory addr load) from to some
              ∙ ap (λ (l : List ℕ). drop from l) taken
              ∙ sym (as_range memory from to some)
        ]

    -- and behind it
    reads_behind : (from to : ℕ) → addr + length load ≤ from
        → slice_range (memory_put memory addr load) from to ≡ slice_range memory from to
    reads_behind from to k =
        let front = front_size in
        let both = length-append (take addr memory) load in
        let end = addr + length load in
        ap (λ (l : List ℕ). take (to - from) (drop from l))
        (sym (append_assoc (take addr memory) load (drop end memory)))
        ∙ ap (λ (l : List ℕ). take (to - from) l)
        (drop-append-drop end memory (take addr memory ++ load) from k (omega (arith, front, both)))

pub keeps_written : KeepsWritten
keeps_written memory load addr h =
    rw (written_within memory load addr h) (reads_load memory load addr h)

by_within : (memory load : List ℕ) (addr : ℕ) (P : List ℕ → Type 0) → P memory
    → (addr + length load ≤ length memory → P (memory_put memory addr load))
    → P (written memory addr load)
by_within memory load addr P out within = by (nat_le (addr + length load) (length memory)) refl
  where
    by : (b : Bool) → nat_le (addr + length load) (length memory) ≡ b
        → P (if b then memory_put memory addr load else memory)
    by true h = within (leb-true (addr + length load) (length memory) h)
    by false h = out

pub keeps_others : KeepsOthers
keeps_others memory load addr from to apart =
    by_within memory load addr
    (λ (l : List ℕ). slice_range l from to ≡ slice_range memory from to) refl
    (λ h. elim apart [
      | inl before ↦ reads_before memory load addr h from to before
      | inr behind ↦ reads_behind memory load addr h from to behind
    ])

pub keeps_length : KeepsLength
keeps_length memory load addr =
    by_within memory load addr (λ (l : List ℕ). length l ≡ length memory) refl
    (λ h. length-put memory load addr h)
