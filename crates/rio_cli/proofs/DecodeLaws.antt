-- What a loop over characters has told.
use Rattle.std.proofs.Common.{◌≡◌, ℕ, suc, ◌+◌, ◌-◌, ◌<◌, Bool, Option, List, [], ◌++◌, length, length-drop, take, drop, take-append-drop, refl, sym, ap, ◌∙◌, subst, append-nil, append_assoc, arith}
use Rattle.std.specs.List.{flat_map}
use Rattle.std.specs.Io.KnownBytes.{Appends}
use Rattle.std.proofs.lemmas.Grind.{flat_map-append}
use Rattle.rio_chars.specs.Fronts.{AppendsFront}
use Rattle.rio_chars.specs.Written.{Outgoing, Writes}
use Rattle.rio_chars.proofs.FrontLaws.{AppendsFront-longer}
use Rattle.rio_chars.proofs.WrittenLaws.{Writes-nil, Writes-then, Writes-front}
use Rattle.rio_chars.specs.declared.chars.Char.{Char}
use Rattle.link_model.specs.declared.event.Event.{Event}
use Rattle.link_model.specs.Reading.{placed, Plain}
use Rattle.link_model.specs.Places.{Place, place_start, run, place_after, at_rest}
use Rattle.link_model.specs.Fronts.{telling_front}
use Rattle.link_model.proofs.FrontLaws.{front-count, front-place, run-telling_front}
use Rattle.link_model.proofs.PlacesLaws.{reading_only, reading_cut, run-none, place_after-none, place_after-append}
use Rattle.link_model.proofs.ReadingFound.{found, none_yet}
use Rattle.rio_framer.specs.declared.events.Events.{Events}
use Rattle.rio_framer.specs.declared.events.Told.{Told}
use Rattle.rio_framer.specs.Framing.{Framing, framing_after}
use Rattle.rio_framer.specs.Giving.{listed, told_of_events, events_by}
use Rattle.rio_framer.proofs.GivingLaws.{events_by-front, listed-front}
use Rattle.rio_cli.specs.Decoding.{placed_text, end_text, decode_text, SpellsChars, Decoded, Decodes, DecodesFront}
use Rattle.rio_cli.proofs.WordLaws.{AreTexts-once}

-- the text of all lines of the characters
abbrev pub whole_text : List Char → List ℕ
whole_text chars = decode_text (run place_start 0 chars) (at_rest (place_after place_start chars))

-- how far a loop has come: the lines of the characters before these were told, and the framer
-- stands before these
pub record Going (begun out : Outgoing) (chars : List Char) (n : ℕ) (left : List Char)
    (framer : Place) : Type 0 where
  pub counted : n + length left ≡ length chars
  pub found : List (ℕ × Event)
  pub events : found ++ run framer n left ≡ run place_start 0 chars
  pub stands : place_after framer left ≡ place_after place_start chars
  pub told : Writes begun out (flat_map placed_text found)

-- behind a run of characters
behind_stands : (from : Place) (left : List Char)
    → place_after (telling_front from left).step.place (drop (telling_front from left).count left)
    ≡ place_after from left
behind_stands from left =
    ap (λ place. place_after place (drop (telling_front from left).count left))
    (front-place from left)
    ∙ sym (place_after-append from (take (telling_front from left).count left)
    (drop (telling_front from left).count left))
    ∙ ap (place_after from) (take-append-drop (telling_front from left).count left)

-- what a run of characters gives is what it tells, with the packet that ended
given_lines : (from : Place) (left : List Char) (place : ℕ) (told : Told) (new : Framing)
    → told ≡ told_of_events (telling_front from left).step.gives
    → new ≡ framing_after (telling_front from left).step
    → flat_map placed_text
    (placed place (listed (events_by told new.ended).first (events_by told new.ended).second))
    ≡ flat_map placed_text (placed place (telling_front from left).step.gives)
given_lines from left place told new told_is new_is =
    ap (λ t. flat_map placed_text
    (placed place (listed (events_by t new.ended).first (events_by t new.ended).second))) told_is
    ∙ ap (λ (f : Framing). flat_map placed_text (placed place (listed
    (events_by (told_of_events (telling_front from left).step.gives) f.ended).first
    (events_by (told_of_events (telling_front from left).step.gives) f.ended).second))) new_is
    ∙ ap (λ (e : Events). flat_map placed_text (placed place (listed e.first e.second)))
    (events_by-front from left)
    ∙ ap (λ es. flat_map placed_text (placed place es)) (listed-front from left)

module _ (begun : Outgoing) (chars : List Char) where
  abbrev Gone : Outgoing → ℕ → List Char → Place → Type 0
  Gone out n left framer = Going begun out chars n left framer

  pub Going-begin : (framer : Place) → framer ≡ place_start → Gone begun 0 chars framer
  Going-begin framer new = rw new (record {
    counted = omega arith;
    found = [];
    events = refl;
    stands = refl;
    told = Writes-nil begun;
  })

  -- a run of characters, of which the last has the place m
  pub Going-more : (n m : ℕ) (left : List Char) (framer : Place) {out out2 : Outgoing}
      → n + (telling_front framer left).count ≡ suc m → Gone out n left framer
      → Writes out out2 (flat_map placed_text (placed m (telling_front framer left).step.gives))
      → Gone out2 (suc m) (drop (telling_front framer left).count left)
      (telling_front framer left).step.place
  Going-more n m left framer {out} {out2} here h more =
      let front = telling_front framer left in
      let fits = front-count framer left in
      let counted = h.counted in
      record {
        counted = omega (arith, length-drop front.count left);
        found = h.found ++ placed m front.step.gives;
        events =
            append_assoc h.found (placed m front.step.gives)
            (run front.step.place (suc m) (drop front.count left))
            ∙ ap (λ es. h.found ++ es) (sym (run-telling_front framer n m left here)) ∙ h.events;
        stands = behind_stands framer left ∙ h.stands;
        told =
            subst (Writes begun out2)
            (sym (flat_map-append placed_text h.found (placed m front.step.gives)))
            (Writes-then (flat_map placed_text h.found)
            (flat_map placed_text (placed m front.step.gives)) h.told more);
      }

  -- the same, as the framer reads the run and its lines are told
  pub Going-read : (n : ℕ) (left left2 : List Char) (from : Place) (count : ℕ) (told : Told)
      (new : Framing) {out out2 : Outgoing} → count ≡ (telling_front from left).count
      → told ≡ told_of_events (telling_front from left).step.gives
      → new ≡ framing_after (telling_front from left).step → left2 ≡ drop count left → 0 < count
      → Gone out n left from
      → Writes out out2 (flat_map placed_text (placed (n + count - 1)
      (listed (events_by told new.ended).first (events_by told new.ended).second)))
      → Gone out2 (n + count) left2 new.place
  Going-read n left left2 from count told new {out} {out2} count_is told_is new_is left_is some h
      more =
      let front = telling_front from left in
      let m : ℕ = n + count - 1 in
      let here : n + front.count ≡ suc m = omega (arith, count_is) in
      let whole : n + count ≡ suc m = omega arith in
      let lines =
      subst (Writes out out2) (given_lines from left m told new told_is new_is) more in
      let done : Gone out2 (suc m) (drop front.count left) front.step.place =
      Going-more n m left from here h lines in
      subst (λ k. Gone out2 k left2 new.place) (sym whole)
      (subst (λ cs. Gone out2 (suc m) cs new.place) (sym (left_is ∙ ap (λ k. drop k left) count_is))
      (subst (λ p. Gone out2 (suc m) (drop front.count left) p)
      (sym (ap (λ (f : Framing). f.place) new_is)) done))

  -- the text so far is a front of the whole text
  pub Going-front : {out : Outgoing} (n : ℕ) (left : List Char) {framer : Place}
      → begun.waiting ≡ [] → Gone out n left framer
      → AppendsFront begun.written out.written (whole_text chars)
  Going-front {out} n left {framer} empty h =
      let rest =
      flat_map placed_text (run framer n left)
      ++ end_text (at_rest (place_after place_start chars)) in
      let all : whole_text chars ≡ flat_map placed_text h.found ++ rest =
      ap (λ es. flat_map placed_text es ++ end_text (at_rest (place_after place_start chars)))
      (sym h.events)
      ∙ ap (λ text. text ++ end_text (at_rest (place_after place_start chars)))
      (flat_map-append placed_text h.found (run framer n left))
      ∙ append_assoc (flat_map placed_text h.found) (flat_map placed_text (run framer n left))
      (end_text (at_rest (place_after place_start chars))) in
      subst (AppendsFront begun.written out.written) (sym all)
      (AppendsFront-longer begun.written out.written (flat_map placed_text h.found) rest
      (Writes-front begun out (flat_map placed_text h.found) empty h.told))

  -- the last line was told behind all others
  pub Going-end : (n : ℕ) (left : List Char) (rest : Bool) {out out2 out3 : Outgoing}
      {framer : Place} → left ≡ []
      → Gone out n left framer → rest ≡ at_rest framer
      → Writes out out2 (end_text rest) → Writes out2 out3 []
      → Writes begun out3 (whole_text chars)
  Going-end n left rest {out} {out2} {out3} {framer} none h is last flush =
      let events : h.found ≡ run place_start 0 chars =
      sym (ap (λ cs. h.found ++ run framer n cs) none
      ∙ ap (λ es. h.found ++ es) (run-none framer n) ∙ append-nil h.found)
      ∙ h.events in
      let stands : framer ≡ place_after place_start chars =
      sym (ap (place_after framer) none ∙ place_after-none framer) ∙ h.stands in
      let text : flat_map placed_text h.found ++ end_text rest ++ [] ≡ whole_text chars =
      append-nil (flat_map placed_text h.found ++ end_text rest)
      ∙ ap (λ es. flat_map placed_text es ++ end_text rest) events
      ∙ ap (λ b. flat_map placed_text (run place_start 0 chars) ++ end_text b) (is
      ∙ ap at_rest stands) in
      subst (Writes begun out3) text (Writes-then
      (flat_map placed_text h.found ++ end_text rest) []
      (Writes-then (flat_map placed_text h.found) (end_text rest) h.told last) flush)

-- what is spelled has the one reading that the steps tell
abbrev pub decoded_by : (bytes : List ℕ) (chars : List Char) → SpellsChars bytes chars
    → Decoded bytes
decoded_by bytes chars spelled = record {
  chars = chars;
  events = run place_start 0 chars;
  rest = at_rest (place_after place_start chars);
  spells = spelled;
  only = λ other other_spelled. AreTexts-once _ chars other spelled other_spelled;
  reads = found Plain none_yet tt 0 chars;
  one_reading = λ other h. reading_only chars other h;
  cut = reading_cut chars;
}

pub decodes : (bytes : List ℕ) (chars slice : List Char) {w w' : Option (List ℕ)}
    → SpellsChars bytes chars → slice ≡ chars → Appends w w' (whole_text slice) → Decodes bytes w w'
decodes bytes chars slice {w} {w'} spelled same told = record {
  decoded = decoded_by bytes chars spelled;
  told = subst (λ cs. Appends w w' (whole_text cs)) same told;
}

pub decodes_front : (bytes : List ℕ) (chars slice : List Char) {w w' : Option (List ℕ)}
    → SpellsChars bytes chars → slice ≡ chars → AppendsFront w w' (whole_text slice)
    → DecodesFront bytes w w'
decodes_front bytes chars slice {w} {w'} spelled same told = record {
  decoded = decoded_by bytes chars spelled;
  told = subst (λ cs. AppendsFront w w' (whole_text cs)) same told;
}
