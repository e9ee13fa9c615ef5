-- A streaming write is read back from the packet that was built of it.
use Rattle.std.proofs.Common.{◌≡◌, ℕ, zero, suc, ◌+◌, ◌-◌, ◌%◌, ◌<◌, ◌≤◌, true, List, [], ◌∷◌, ◌++◌, length, get_or, refl, ap, subst, ◌∙◌, arith, eq-eqb, length-append, get_or-append-add, false}
use Rattle.rio_packets.specs.LinkForm.{LinkForm}
use Rattle.rio_packets.specs.Fields.{body_of}
use Rattle.rio_packets.specs.Words.{word_at, word_bytes}
use Rattle.rio_packets.proofs.FieldLaws.{get_or-link_form, ftype_of-link_form, tt_of-link_form}
use Rattle.io_packets.specs.declared.io.Io.TheVariants.{SWrite}
use Rattle.io_packets.specs.Layout.{addr_in, extension_in, between}
use Rattle.io_packets.specs.Forms.{is_stream_size, IsAligned}
use Rattle.io_packets.specs.Reading.{is_stream, io_of}
use Rattle.io_packets.specs.Writing.{io_body}
use Rattle.io_packets.proofs.SizeLaws.{stream_most, stream_eights}
use Rattle.io_packets.proofs.FormLaws.{padded_form, between-parts}
use Rattle.io_packets.proofs.FieldLaws.{streams}

module _ (prio dest source addr : ℕ) (load p : List ℕ) (h : prio < 4) (aligned : IsAligned addr)
    (good : is_stream_size (length load) ≡ true)
    (form : LinkForm (io_body prio dest source (SWrite addr load)) p) where
  abbrev front : List ℕ
  front = body_of prio 6 false dest source (word_bytes addr)

  short : length (front ++ load) ≤ 80
  short = let most = stream_most (length load) good in omega arith

  fours : length (front ++ load) % 4 ≡ 0
  fours = let eights = stream_eights (length load) good in omega arith

  ends : (x : ℕ) × (y : ℕ) × (p ≡ (front ++ load) ++ x ∷ y ∷ 0 ∷ 0 ∷ [])
  ends = padded_form (front ++ load) p form short fours

  abbrev back : List ℕ
  back = ends.0 ∷ ends.1 ∷ 0 ∷ 0 ∷ []

  whole : length p ≡ 12 + length load
  whole = ap length ends.2 ∙ length-append (front ++ load) back ∙ omega arith

  byte : (i : ℕ) → i < 8 → get_or p i 0 ≡ get_or (front ++ load) i 0
  byte i small = get_or-link_form (front ++ load) p i form (omega arith) (omega arith)

  word : word_at p 4 ≡ addr
  word =
      let four = byte 4 (omega arith) in let five = byte 5 (omega arith) in
      let six = byte 6 (omega arith) in let seven = byte 7 (omega arith) in
      omega arith

  -- the pad is at the end
  zeros : (k : ℕ) → k < 2 → get_or back (2 + k) 0 ≡ 0
  zeros zero small = refl
  zeros (suc zero) small = refl
  zeros (suc (suc k)) small = absurd (omega arith)

  pad : (k : ℕ) → k < 2 → get_or p (length p - (2 - k)) 0 ≡ 0
  pad k small =
      let place : length p - (2 - k) ≡ length (front ++ load) + (2 + k) = omega (arith, whole) in
      ap (λ n. get_or p n 0) place
      ∙ ap (λ (l : List ℕ). get_or l (length (front ++ load) + (2 + k)) 0) ends.2
      ∙ get_or-append-add (front ++ load) back (2 + k) 0
      ∙ zeros k small

  form-stream : is_stream p ≡ true
  form-stream =
      let size : length load ≡ length p - 12 = omega (arith, whole) in
      let plain : extension_in (word_at p 4) ≡ 0 = ap extension_in word ∙ omega (arith, aligned) in
      rw (
        subst (λ n. is_stream_size n ≡ true) size good,
        eq-eqb (extension_in (word_at p 4)) 0 plain,
        eq-eqb (get_or p (length p - 2) 0) 0 (pad 0 (omega arith)),
        eq-eqb (get_or p (length p - 1) 0) 0 (pad 1 (omega arith)),
      ) refl

  pub read_back-stream : io_of p ≡ SWrite addr load
  read_back-stream =
      let rest = word_bytes addr ++ load in
      streams p load addr
      (tt_of-link_form prio 6 false dest source rest p form h (omega arith))
      (ftype_of-link_form prio 6 false dest source rest p form h (omega arith))
      form-stream (ap addr_in word ∙ omega (arith, aligned))
      (ap (λ (l : List ℕ). between l 8 4) ends.2 ∙ between-parts front load back)
