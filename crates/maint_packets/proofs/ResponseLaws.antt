-- A response is read back from the packet that was built of it.
use Rattle.std.proofs.Common.{◌≡◌, ℕ, ◌+◌, ◌<◌, ◌==◌, Bool, true, false, Option, Some, None, List, length, ap, ◌∙◌, sym, refl, arith, inl, inr, eq-eqb, if◌then◌else◌}
use Rattle.rio_packets.specs.LinkForm.{LinkForm}
use Rattle.rio_packets.specs.Hops.{is_large}
use Rattle.rio_packets.specs.Fields.{ids_end, ttype_of, body_of}
use Rattle.rio_packets.specs.Words.{word_at}
use Rattle.maint_packets.specs.declared.response.Response.{Response}
use Rattle.maint_packets.specs.Layout.{low_half_of, short_length, long_length, behind_ids}
use Rattle.maint_packets.specs.Responses.{is_with_data, is_without_data, with_words, response_of, IsResponseForm, response_body, response_bytes}
use Rattle.maint_packets.proofs.LayoutLaws.{ended-built, prio-built, large-built, dest-built, source-built, ttype-built, low_half-built, tid-built, hop-built, length-without, maintenance-without, length-with, maintenance-with, first-built, second-built}

module _ (response : Response) (p : List ℕ) (h : response.prio < 4) where
  abbrev rest : ℕ → Option (ℕ × ℕ) → List ℕ
  rest ttype words = behind_ids ttype response.status response.tid response.hop 0 words

  abbrev body : ℕ → Option (ℕ × ℕ) → List ℕ
  body ttype words = body_of response.prio 8 response.large response.dest response.source
      (rest ttype words)

  -- the fields of the layout are those of the response
  fields : (ttype : ℕ) (words read : Option (ℕ × ℕ)) → LinkForm (body ttype words) p
      → response.status < 16
      → (ttype == 3) ≡ response.write → read ≡ response.words → with_words p read ≡ response
  fields ttype words read form range write same =
      let a = prio-built response.prio response.large response.dest response.source
      (rest ttype words) p form h in
      let b = dest-built response.prio response.large response.dest response.source
      (rest ttype words) p form h in
      let c = source-built response.prio response.large response.dest response.source
      (rest ttype words) p form h in
      let l = large-built response.prio response.large response.dest response.source
      (rest ttype words) p form h in
      let t = ttype-built response.prio response.large response.dest response.source ttype
      response.status response.tid response.hop 0 words p form h range in
      let d = ap (λ n. n == 3) t ∙ write in
      let e = low_half-built response.prio response.large response.dest response.source ttype
      response.status response.tid response.hop 0 words p form h range in
      let f = tid-built response.prio response.large response.dest response.source ttype
      response.status response.tid response.hop 0 words p form h in
      let g = hop-built response.prio response.large response.dest response.source ttype
      response.status response.tid response.hop 0 words p form h in
      λ i. record {
        prio = a i;
        dest = b i;
        source = c i;
        large = l i;
        write = d i;
        status = e i;
        tid = f i;
        hop = g i;
        words = same i;
      }

  -- what is read of a long packet
  with_data : (words : ℕ × ℕ) → LinkForm (body 2 (Some words)) p → response.status ≡ 0
      → response.write ≡ false
      → response.words ≡ Some words → response_of p ≡ Some response
  with_data words form done write same =
      let size = length-with response.prio response.large response.dest response.source 2
      response.status response.tid response.hop 0 words.0 words.1 p form h in
      let m = maintenance-with response.prio response.large response.dest response.source 2
      response.status response.tid response.hop 0 words.0 words.1 p form h in
      let t = ttype-built response.prio response.large response.dest response.source 2
      response.status response.tid response.hop 0 (Some words) p form h (omega arith) in
      let s = low_half-built response.prio response.large response.dest response.source 2
      response.status response.tid response.hop 0 (Some words) p form h (omega arith) ∙ done in
      let long = eq-eqb (length p) (long_length (is_large p)) size in
      let two : is_with_data p ≡ true = rw (t, s, long) refl in
      let first = first-built response.prio response.large response.dest response.source 2
      response.status response.tid response.hop 0 words.0 words.1 p form h in
      let second = second-built response.prio response.large response.dest response.source 2
      response.status response.tid response.hop 0 words.0 words.1 p form h in
      let read : Option (ℕ × ℕ) = Some (word_at p (ids_end p + 6), word_at p (ids_end p + 10)) in
      let both : read ≡ Some words = λ i. Some (first i, second i) in
      rw (m, two) (ap (λ r. Some r) (fields 2 (Some words) read form (omega arith) (sym write)
      (both ∙ sym same)))

  -- what is read of a short packet
  without_data : (ttype : ℕ) → LinkForm (body ttype None) p → response.status < 16
      → (ttype == 3) ≡ response.write → response.words ≡ None
      → (ttype_of p ≡ ttype → low_half_of p ≡ response.status → (length p == short_length
      (is_large p)) ≡ true
      → (is_with_data p ≡ false) × (is_without_data p ≡ true))
      → response_of p ≡ Some response
  without_data ttype form range write same by =
      let size = length-without response.prio response.large response.dest response.source ttype
      response.status response.tid response.hop 0 p form h in
      let m = maintenance-without response.prio response.large response.dest response.source ttype
      response.status response.tid response.hop 0 p form h in
      let t = ttype-built response.prio response.large response.dest response.source ttype
      response.status response.tid response.hop 0 None p form h range in
      let s = low_half-built response.prio response.large response.dest response.source ttype
      response.status response.tid response.hop 0 None p form h range in
      let tests = by t s (eq-eqb (length p) (short_length (is_large p)) size) in
      rw (m, tests.0, tests.1) (ap (λ r. Some r) (fields ttype None None form range write
      (sym same)))

  from_form : (write : Bool) (words : Option (ℕ × ℕ)) → response.write ≡ write
      → response.words ≡ words
      → IsResponseForm write response.status words
      → LinkForm (body (if write then 3 else 2) words) p
      → response_of p ≡ Some response
  from_form false (Some words) w e done form = with_data words form done w e
  from_form false None w e failed form =
      without_data 2 form (omega arith) (sym w) e
      (λ t s n. let low : low_half_of p ≡ 7 = s ∙ failed in (rw (t, low) refl, rw (t, low, n) refl))
  from_form true (Some words) w e none form = absurd none
  from_form true None w e status form =
      elim status [
        | inl done ↦
            without_data 3 form (omega arith) (sym w) e
            (λ t s n. let low : low_half_of p ≡ 0 = s ∙ done in (rw t refl, rw (t, low, n) refl))
        | inr failed ↦
            without_data 3 form (omega arith) (sym w) e
            (λ t s n. let low : low_half_of p ≡ 7 = s ∙ failed in (rw t refl, rw (t, low, n) refl))
      ]

  pub read_back : IsResponseForm response.write response.status response.words → LinkForm
      (response_body response) p
      → response_of p ≡ Some response
  read_back formed form = from_form response.write response.words refl refl formed form

  -- the packet is what the response names
  pub is_bytes : LinkForm (response_body response) p → p ≡ response_bytes response
  is_bytes form =
      ended-built response.prio response.large response.dest response.source
      (if response.write then 3 else 2) response.status response.tid response.hop 0
      response.words p form h
