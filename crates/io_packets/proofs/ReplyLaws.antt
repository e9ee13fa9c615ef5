-- A response is read back from the packet that was built of it.
use Rattle.std.proofs.Common.{◌≡◌, ℕ, ◌-◌, ◌%◌, ◌<◌, ◌≤◌, true, Some, None, List, [], ◌∷◌, ◌++◌, length, get_or, refl, ap, subst, ◌∙◌, arith, false}
use Rattle.rio_packets.specs.LinkForm.{LinkForm}
use Rattle.rio_packets.specs.Fields.{body_of}
use Rattle.rio_packets.specs.Words.{is_status}
use Rattle.rio_packets.proofs.FieldLaws.{get_or-link_form, length-link_form, ftype_of-link_form, tt_of-link_form}
use Rattle.io_packets.specs.declared.io.Io.TheVariants.{Reply}
use Rattle.io_packets.specs.Layout.{between}
use Rattle.io_packets.specs.Forms.{is_size}
use Rattle.io_packets.specs.Reading.{io_of}
use Rattle.io_packets.specs.Writing.{io_body}
use Rattle.io_packets.proofs.SizeLaws.{size_most, size_eights, status_small}
use Rattle.io_packets.proofs.FormLaws.{plain_form, between-parts}
use Rattle.io_packets.proofs.FieldLaws.{replies, replies_with_data}

module _ (prio dest source : ℕ) (p : List ℕ) (h : prio < 4) where
  pub read_back-reply : (status tid : ℕ) → is_status status ≡ true
      → LinkForm (io_body prio dest source (Reply status tid None)) p
      → io_of p ≡ Reply status tid None
  read_back-reply status tid good form =
      let small = status_small status good in
      let rest = status ∷ tid ∷ [] in
      let body = body_of prio 13 false dest source rest in
      let four = get_or-link_form body p 4 form (omega arith) (omega arith) in
      replies p status tid
      (tt_of-link_form prio 13 false dest source rest p form h (omega arith))
      (ftype_of-link_form prio 13 false dest source rest p form h (omega arith))
      (omega (arith, four, small)) (omega (arith, four, small)) good
      (length-link_form body p form (omega arith) refl)
      (get_or-link_form body p 5 form (omega arith) (omega arith))

  -- with data
  module _ (tid : ℕ) (load : List ℕ) (good : is_size (length load) ≡ true)
      (form : LinkForm (io_body prio dest source (Reply 0 tid (Some load))) p) where
    abbrev front : List ℕ
    front = body_of prio 13 false dest source (128 ∷ tid ∷ [])

    short : length (front ++ load) ≤ 80
    short = let most = size_most (length load) good in omega arith

    twos : length (front ++ load) % 4 ≡ 2
    twos = let eights = size_eights (length load) good in omega arith

    byte : (i : ℕ) → i < 6 → get_or p i 0 ≡ get_or (front ++ load) i 0
    byte i small = get_or-link_form (front ++ load) p i form (omega arith) (omega arith)

    load-reply : between p 6 2 ≡ load
    load-reply =
        let ends = plain_form (front ++ load) p form short twos in
        ap (λ (l : List ℕ). between l 6 2) ends.2
        ∙ between-parts front load (ends.0 ∷ ends.1 ∷ [])

    size-reply : is_size (length p - 8) ≡ true
    size-reply =
        let whole = length-link_form (front ++ load) p form short twos in
        let size : length load ≡ length p - 8 = omega (arith, whole) in
        subst (λ n. is_size n ≡ true) size good

    pub read_back-reply_with_data : io_of p ≡ Reply 0 tid (Some load)
    read_back-reply_with_data =
        let rest = 128 ∷ tid ∷ load in
        let four = byte 4 (omega arith) in
        replies_with_data p load tid
        (tt_of-link_form prio 13 false dest source rest p form h (omega arith))
        (ftype_of-link_form prio 13 false dest source rest p form h (omega arith))
        (omega (arith, four)) (omega (arith, four)) size-reply (byte 5 (omega arith)) load-reply
