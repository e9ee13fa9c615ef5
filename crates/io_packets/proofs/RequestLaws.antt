-- A request is read back from the packet that was built of it.
use Rattle.std.proofs.Common.{◌≡◌, ℕ, ◌+◌, ◌%◌, ◌<◌, ◌≤◌, true, List, [], ◌∷◌, ◌++◌, length, refl, ap, ◌∙◌, arith, false}
use Rattle.rio_packets.specs.LinkForm.{LinkForm}
use Rattle.rio_packets.specs.Fields.{tt_of, ftype_of, body_of}
use Rattle.rio_packets.proofs.FieldLaws.{length-link_form, ftype_of-link_form, tt_of-link_form}
use Rattle.io_packets.specs.declared.io.Io.TheVariants.{NRead, NWrite, NWriteR}
use Rattle.io_packets.specs.Layout.{between}
use Rattle.io_packets.specs.Forms.{is_size, IsAligned}
use Rattle.io_packets.specs.Reading.{io_of}
use Rattle.io_packets.specs.Writing.{io_request_head, io_body}
use Rattle.io_packets.proofs.SizeLaws.{size_most, size_eights}
use Rattle.io_packets.proofs.FormLaws.{plain_form, between-parts}
use Rattle.io_packets.proofs.FieldLaws.{reads, writes, writes_with_response}
use Rattle.io_packets.proofs.LayoutLaws.{asks}

module _ (prio dest source : ℕ) (p : List ℕ) (h : prio < 4) where
  pub read_back-read : (tid addr size : ℕ) → IsAligned addr → is_size size ≡ true
      → LinkForm (io_body prio dest source (NRead tid addr size)) p
      → io_of p ≡ NRead tid addr size
  read_back-read tid addr size aligned good form =
      let rest = io_request_head 4 size tid addr in
      let fields = asks prio 2 dest source 4 size tid addr [] p aligned good form in
      reads p tid addr size
      (tt_of-link_form prio 2 false dest source rest p form h (omega arith))
      (ftype_of-link_form prio 2 false dest source rest p form h (omega arith))
      fields.kind
      (length-link_form (body_of prio 2 false dest source rest) p form (omega arith) refl)
      fields.size fields.number fields.addr

  -- the form of a write
  module _ (ttype tid addr : ℕ) (load : List ℕ) (good : is_size (length load) ≡ true)
      (form : LinkForm
      (body_of prio 5 false dest source (io_request_head ttype (length load) tid addr ++ load)) p)
    where
      abbrev front : List ℕ
      front = body_of prio 5 false dest source (io_request_head ttype (length load) tid addr)

      short : length (front ++ load) ≤ 80
      short = let most = size_most (length load) good in omega arith

      twos : length (front ++ load) % 4 ≡ 2
      twos = let eights = size_eights (length load) good in omega arith

      abbrev rest : List ℕ
      rest = io_request_head ttype (length load) tid addr ++ load

      width : tt_of p ≡ 0
      width = tt_of-link_form prio 5 false dest source rest p form h (omega arith)

      class : ftype_of p ≡ 5
      class = ftype_of-link_form prio 5 false dest source rest p form h (omega arith)

      length-write : length p ≡ 12 + length load
      length-write = length-link_form (front ++ load) p form short twos ∙ omega arith

      load-write : between p 10 2 ≡ load
      load-write =
          let ends = plain_form (front ++ load) p form short twos in
          ap (λ (l : List ℕ). between l 10 2) ends.2
          ∙ between-parts front load (ends.0 ∷ ends.1 ∷ [])

  pub read_back-write : (addr : ℕ) (load : List ℕ) → IsAligned addr → is_size (length load) ≡ true
      → LinkForm (io_body prio dest source (NWrite addr load)) p → io_of p ≡ NWrite addr load
  read_back-write addr load aligned good form =
      let fields = asks prio 5 dest source 4 (length load) 0 addr load p aligned good form in
      writes p load addr (width 4 0 addr load good form) (class 4 0 addr load good form)
      (length-write 4 0 addr load good form)
      fields.size fields.addr (load-write 4 0 addr load good form) fields.kind

  pub read_back-write_with_response : (tid addr : ℕ) (load : List ℕ) → IsAligned addr
      → is_size (length load) ≡ true
      → LinkForm (io_body prio dest source (NWriteR tid addr load)) p
      → io_of p ≡ NWriteR tid addr load
  read_back-write_with_response tid addr load aligned good form =
      let fields = asks prio 5 dest source 5 (length load) tid addr load p aligned good form in
      writes_with_response p load addr
      (width 5 tid addr load good form) (class 5 tid addr load good form)
      (length-write 5 tid addr load good form)
      fields.size fields.addr (load-write 5 tid addr load good form) tid fields.kind fields.number
