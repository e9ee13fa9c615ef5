-- What is read of a packet that was written is what was written.
use Rattle.std.proofs.Common.{◌≡◌, ℕ, ◌<◌, Some, None, List, sym, subst, false}
use Rattle.rio_packets.specs.LinkForm.{LinkForm}
use Rattle.rio_packets.specs.Fields.{body_of}
use Rattle.rio_packets.specs.Making.{made}
use Rattle.rio_packets.proofs.FormLaws.{LinkForm-one, LinkForm-made}
use Rattle.io_packets.specs.declared.io.Io.{Io}
use Rattle.io_packets.specs.declared.io.Io.TheVariants.{NRead, NWrite, NWriteR, SWrite, Reply, BadRead, BadWriteR, BadWrite, Other}
use Rattle.io_packets.specs.Forms.{IsGood}
use Rattle.io_packets.specs.Reading.{io_of}
use Rattle.io_packets.specs.Writing.{type_of, io_behind_ids, io_body, io_bytes}
use Rattle.io_packets.specs.Laws.{ReadsBack}
use Rattle.io_packets.proofs.RequestLaws.{read_back-read, read_back-write, read_back-write_with_response}
use Rattle.io_packets.proofs.StreamLaws.{read_back-stream}
use Rattle.io_packets.proofs.ReplyLaws.{read_back-reply, read_back-reply_with_data}

module _ (prio dest source : ℕ) (p : List ℕ) (h : prio < 4) where
  read_back : (io : Io) → IsGood io → LinkForm (io_body prio dest source io) p → io_of p ≡ io
  read_back (NRead tid addr size) good form =
      read_back-read prio dest source p h tid addr size good.0 good.1 form
  read_back (NWrite addr load) good form =
      read_back-write prio dest source p h addr load good.0 good.1 form
  read_back (NWriteR tid addr load) good form =
      read_back-write_with_response prio dest source p h tid addr load good.0 good.1 form
  read_back (SWrite addr load) good form =
      read_back-stream prio dest source addr load p h good.0 good.1 form
  read_back (Reply status tid None) good form =
      read_back-reply prio dest source p h status tid good form
  read_back (Reply status tid (Some load)) good form =
      let done : status ≡ 0 = good.0 in
      subst (λ s. io_of p ≡ Reply s tid (Some load)) (sym done)
      (read_back-reply_with_data prio dest source p h tid load good.1
      (subst (λ s. LinkForm (io_body prio dest source (Reply s tid (Some load))) p) done form))
  read_back (BadRead tid) good form = absurd good
  read_back (BadWriteR tid) good form = absurd good
  read_back BadWrite good form = absurd good
  read_back Other good form = absurd good

pub reads_back : ReadsBack
reads_back prio dest source io p h good form = read_back prio dest source p h io good form

-- the packet is what its parts name
pub is_bytes : (prio dest source : ℕ) (io : Io) (p : List ℕ)
    → LinkForm (io_body prio dest source io) p → p ≡ io_bytes prio dest source io
is_bytes prio dest source io p form =
    let body = io_body prio dest source io in
    LinkForm-one body p (made body) form (LinkForm-made body form.is_body)

-- where the form is that of its parts
pub form_of : (prio dest source to from ftype : ℕ) (rest : List ℕ) (io : Io) (p : List ℕ)
    → to ≡ dest → from ≡ source → ftype ≡ type_of io → rest ≡ io_behind_ids io
    → LinkForm (body_of prio ftype false to from rest) p → LinkForm (io_body prio dest source io) p
form_of prio dest source to from ftype rest io p d s f r form =
    let same : body_of prio ftype false to from rest ≡ io_body prio dest source io =
    λ i. body_of prio (f i) false (d i) (s i) (r i) in
    subst (λ (b : List ℕ). LinkForm b p) same form
