-- Words are those of a step, a sign, a lack or an end of a trace, or of none.
use Rattle.judged_inputs.proofs.Prelude.{◌≡◌, ◌≢◌, ℕ, ◌<◌, ◌^◌, List, [], ◌∷◌, map, codes, ◌⊎◌, inl, inr, AllByRecursion, decimal, char_text_of, HasByte, hex_of, Char, Passes, Event, Ctl, Pkt, Bad, PortRef, name_of, port_text, Known, IsOrderly, Hold, Free, Take, Leave, Move, Drop, Answer, Step, Linked, AtNode, ByDevice, Lack, Full, Empty, Short, Early, NoStep, Sign, Sent, Got, Fired, step_words, sign_words, lack_words, event_words, IsScriptPort, IsEnd, IsNode, StepFits, SignFits, EventFits, Decided}
use Rattle.rio_symbols.specs.Fields.{Fields}
use Rattle.judged_inputs.proofs.Choices.{as_well, one_or_not}
use Rattle.judged_inputs.proofs.WordChoice.{number_word, node_word, port_word, end_word, packet_word}
use Rattle.judged_inputs.proofs.RowChoice.{SaysRow, no_word, word_then, keyword_then, some_chars_or_none}

module _ (known : Known) (orderly : IsOrderly known) where
  -- ---- rows of words

  abbrev no_row : Unit {0} → List (List ℕ)
  no_row _ = []

  abbrev Nothing : Unit {0} → Type 0
  Nothing _ = Unit {0}

  abbrev packet_row : List ℕ × Unit {0} → List (List ℕ)
  packet_row x = hex_of x.0 ∷ []

  abbrev IsPacket : List ℕ × Unit {0} → Type 0
  IsPacket x = Passes x.0 × Unit {0}

  one_packet : (words : List (List ℕ)) → Decided (SaysRow packet_row IsPacket words)
  one_packet = word_then hex_of Passes no_row Nothing (packet_word known orderly) no_word

  abbrev packets_row : List ℕ × (List ℕ × Unit {0}) → List (List ℕ)
  packets_row x = hex_of x.0 ∷ packet_row x.1

  abbrev ArePackets : List ℕ × (List ℕ × Unit {0}) → Type 0
  ArePackets x = Passes x.0 × IsPacket x.1

  two_packets : (words : List (List ℕ)) → Decided (SaysRow packets_row ArePackets words)
  two_packets = word_then hex_of Passes packet_row IsPacket (packet_word known orderly) one_packet

  -- a port with a link, and a packet
  abbrev at_port_row : PortRef × (List ℕ × Unit {0}) → List (List ℕ)
  at_port_row x = port_text known.names x.0 ∷ packet_row x.1

  abbrev IsAtEnd : PortRef × (List ℕ × Unit {0}) → Type 0
  IsAtEnd x = IsEnd known x.0 × IsPacket x.1

  at_end : (words : List (List ℕ)) → Decided (SaysRow at_port_row IsAtEnd words)
  at_end = word_then (port_text known.names) (IsEnd known) packet_row IsPacket
      (end_word known orderly) one_packet

  -- a port, and a packet
  abbrev IsAtPort : PortRef × (List ℕ × Unit {0}) → Type 0
  IsAtPort x = IsScriptPort known x.0 × IsPacket x.1

  at_port : (words : List (List ℕ)) → Decided (SaysRow at_port_row IsAtPort words)
  at_port = word_then (port_text known.names) (IsScriptPort known) packet_row IsPacket
      (port_word known orderly) one_packet

  -- a node, and a packet
  abbrev at_node_row : ℕ × (List ℕ × Unit {0}) → List (List ℕ)
  at_node_row x = name_of known.names x.0 ∷ packet_row x.1

  abbrev IsAtNode : ℕ × (List ℕ × Unit {0}) → Type 0
  IsAtNode x = IsNode known x.0 × IsPacket x.1

  at_node : (words : List (List ℕ)) → Decided (SaysRow at_node_row IsAtNode words)
  at_node = word_then (name_of known.names) (IsNode known) packet_row IsPacket
      (node_word known) one_packet

  -- two ports, and a packet
  abbrev ports_row : PortRef × (PortRef × (List ℕ × Unit {0})) → List (List ℕ)
  ports_row x = port_text known.names x.0 ∷ at_port_row x.1

  abbrev AtPorts : PortRef × (PortRef × (List ℕ × Unit {0})) → Type 0
  AtPorts x = IsScriptPort known x.0 × IsAtPort x.1

  at_ports : (words : List (List ℕ)) → Decided (SaysRow ports_row AtPorts words)
  at_ports = word_then (port_text known.names) (IsScriptPort known) at_port_row IsAtPort
      (port_word known orderly) at_port

  -- a port, and two packets
  abbrev answer_row : PortRef × (List ℕ × (List ℕ × Unit {0})) → List (List ℕ)
  answer_row x = port_text known.names x.0 ∷ packets_row x.1

  abbrev IsAnswer : PortRef × (List ℕ × (List ℕ × Unit {0})) → Type 0
  IsAnswer x = IsScriptPort known x.0 × ArePackets x.1

  at_answer : (words : List (List ℕ)) → Decided (SaysRow answer_row IsAnswer words)
  at_answer = word_then (port_text known.names) (IsScriptPort known) packets_row ArePackets
      (port_word known orderly) two_packets

  -- ---- steps

  abbrev pub SaysStep : List (List ℕ) → Type 0
  SaysStep words = (step : Step) × (words ≡ step_words known.names step) × StepFits known step

  hold_or_none : (words : List (List ℕ)) → Decided
      (SaysRow (λ x. codes "hold" ∷ at_port_row x) IsAtEnd words)
  hold_or_none = keyword_then (codes "hold") at_port_row IsAtEnd at_end

  free_or_none : (words : List (List ℕ)) → Decided
      (SaysRow (λ x. codes "free" ∷ at_port_row x) IsAtEnd words)
  free_or_none = keyword_then (codes "free") at_port_row IsAtEnd at_end

  take_or_none : (words : List (List ℕ)) → Decided
      (SaysRow (λ x. codes "take" ∷ at_node_row x) IsAtNode words)
  take_or_none = keyword_then (codes "take") at_node_row IsAtNode at_node

  leave_or_none : (words : List (List ℕ)) → Decided
      (SaysRow (λ x. codes "leave" ∷ at_node_row x) IsAtNode words)
  leave_or_none = keyword_then (codes "leave") at_node_row IsAtNode at_node

  move_or_none : (words : List (List ℕ)) → Decided
      (SaysRow (λ x. codes "move" ∷ ports_row x) AtPorts words)
  move_or_none = keyword_then (codes "move") ports_row AtPorts at_ports

  drop_or_none : (words : List (List ℕ)) → Decided
      (SaysRow (λ x. codes "drop" ∷ at_port_row x) IsAtPort words)
  drop_or_none = keyword_then (codes "drop") at_port_row IsAtPort at_port

  answer_or_none : (words : List (List ℕ)) → Decided
      (SaysRow (λ x. codes "answer" ∷ answer_row x) IsAnswer words)
  answer_or_none = keyword_then (codes "answer") answer_row IsAnswer at_answer

  abbrev OneStep : List (List ℕ) → Type 0
  OneStep words = SaysRow (λ x. codes "hold" ∷ at_port_row x) IsAtEnd words
      ⊎ (SaysRow (λ x. codes "free" ∷ at_port_row x) IsAtEnd words
      ⊎ (SaysRow (λ x. codes "take" ∷ at_node_row x) IsAtNode words
      ⊎ (SaysRow (λ x. codes "leave" ∷ at_node_row x) IsAtNode words
      ⊎ (SaysRow (λ x. codes "move" ∷ ports_row x) AtPorts words
      ⊎ (SaysRow (λ x. codes "drop" ∷ at_port_row x) IsAtPort words
      ⊎ SaysRow (λ x. codes "answer" ∷ answer_row x) IsAnswer words)))))

  pub step_or_none : (words : List (List ℕ)) → Decided (SaysStep words)
  step_or_none words = as_well to (λ says. from says.0 says.1 says.2)
      (one_or_not (hold_or_none words) (one_or_not (free_or_none words)
      (one_or_not (take_or_none words) (one_or_not (leave_or_none words)
      (one_or_not (move_or_none words)
      (one_or_not (drop_or_none words) (answer_or_none words)))))))
    where
      to : OneStep words → SaysStep words
      to (inl x) = (Linked (Hold x.0.0 x.0.1.0), x.1, (x.2.0, x.2.1.0))
      to (inr (inl x)) = (Linked (Free x.0.0 x.0.1.0), x.1, (x.2.0, x.2.1.0))
      to (inr (inr (inl x))) = (AtNode (Take x.0.0 x.0.1.0), x.1, (x.2.0, x.2.1.0))
      to (inr (inr (inr (inl x)))) = (AtNode (Leave x.0.0 x.0.1.0), x.1, (x.2.0, x.2.1.0))
      to (inr (inr (inr (inr (inl x))))) =
          (ByDevice (Move x.0.0 x.0.1.0 x.0.1.1.0), x.1, (x.2.0, x.2.1.0, x.2.1.1.0))
      to (inr (inr (inr (inr (inr (inl x)))))) =
          (ByDevice (Drop x.0.0 x.0.1.0), x.1, (x.2.0, x.2.1.0))
      to (inr (inr (inr (inr (inr (inr x)))))) =
          (ByDevice (Answer x.0.0 x.0.1.0 x.0.1.1.0), x.1, (x.2.0, x.2.1.0, x.2.1.1.0))

      from : (step : Step) → words ≡ step_words known.names step → StepFits known step
          → OneStep words
      from (Linked (Hold q packet)) e fits = inl ((q, (packet, tt)), e, (fits.0, (fits.1, tt)))
      from (Linked (Free p packet)) e fits =
          inr (inl ((p, (packet, tt)), e, (fits.0, (fits.1, tt))))
      from (AtNode (Take n packet)) e fits =
          inr (inr (inl ((n, (packet, tt)), e, (fits.0, (fits.1, tt)))))
      from (AtNode (Leave n packet)) e fits =
          inr (inr (inr (inl ((n, (packet, tt)), e, (fits.0, (fits.1, tt))))))
      from (ByDevice (Move p q packet)) e fits = inr (inr (inr (inr (inl
          ((p, (q, (packet, tt))), e, (fits.0, (fits.1, (fits.2, tt))))))))
      from (ByDevice (Drop p packet)) e fits =
          inr (inr (inr (inr (inr (inl ((p, (packet, tt)), e, (fits.0, (fits.1, tt))))))))
      from (ByDevice (Answer p packet response)) e fits = inr (inr (inr (inr (inr (inr
          ((p, (packet, (response, tt))), e, (fits.0, (fits.1, (fits.2, tt)))))))))

  -- ---- signs

  abbrev chars_row : List Char → List (List ℕ)
  chars_row chars = map char_text_of chars

  abbrev AreSome : List Char → Type 0
  AreSome chars = (chars ≢ []) × AllByRecursion HasByte chars

  abbrev signal_row : PortRef × List Char → List (List ℕ)
  signal_row x = port_text known.names x.0 ∷ chars_row x.1

  abbrev IsSignal : PortRef × List Char → Type 0
  IsSignal x = IsEnd known x.0 × AreSome x.1

  at_signal : (words : List (List ℕ)) → Decided (SaysRow signal_row IsSignal words)
  at_signal = word_then (port_text known.names) (IsEnd known) chars_row AreSome
      (end_word known orderly) (some_chars_or_none known orderly)

  abbrev end_row : PortRef × Unit {0} → List (List ℕ)
  end_row x = port_text known.names x.0 ∷ []

  abbrev IsOneEnd : PortRef × Unit {0} → Type 0
  IsOneEnd x = IsEnd known x.0 × Unit {0}

  at_one_end : (words : List (List ℕ)) → Decided (SaysRow end_row IsOneEnd words)
  at_one_end = word_then (port_text known.names) (IsEnd known) no_row Nothing
      (end_word known orderly) no_word

  abbrev pub SaysSign : List (List ℕ) → Type 0
  SaysSign words = (sign : Sign) × (words ≡ sign_words known.names sign) × SignFits known sign

  abbrev OneSign : List (List ℕ) → Type 0
  OneSign words = SaysRow (λ x. codes "sent" ∷ signal_row x) IsSignal words
      ⊎ (SaysRow (λ x. codes "got" ∷ signal_row x) IsSignal words
      ⊎ SaysRow (λ x. codes "fire" ∷ end_row x) IsOneEnd words)

  pub sign_or_none : (words : List (List ℕ)) → Decided (SaysSign words)
  sign_or_none words = as_well to (λ says. from says.0 says.1 says.2)
      (one_or_not (keyword_then (codes "sent") signal_row IsSignal at_signal words)
      (one_or_not (keyword_then (codes "got") signal_row IsSignal at_signal words)
      (keyword_then (codes "fire") end_row IsOneEnd at_one_end words)))
    where
      to : OneSign words → SaysSign words
      to (inl x) = (Sent x.0.0 x.0.1, x.1, (x.2.0, x.2.1.0, x.2.1.1))
      to (inr (inl x)) = (Got x.0.0 x.0.1, x.1, (x.2.0, x.2.1.0, x.2.1.1))
      to (inr (inr x)) = (Fired x.0.0, x.1, x.2.0)

      from : (sign : Sign) → words ≡ sign_words known.names sign → SignFits known sign
          → OneSign words
      from (Sent p chars) e fits = inl ((p, chars), e, (fits.0, (fits.1, fits.2)))
      from (Got q chars) e fits = inr (inl ((q, chars), e, (fits.0, (fits.1, fits.2))))
      from (Fired p) e fits = inr (inr ((p, tt), e, (fits, tt)))

  -- ---- lacks

  abbrev pub SaysLack : List (List ℕ) → Type 0
  SaysLack words = (lack : Lack) × (words ≡ lack_words lack)

  abbrev IsKeyword : List ℕ → List (List ℕ) → Type 0
  IsKeyword keyword words = SaysRow {A = Unit {0}} (λ _. keyword ∷ []) (λ _. Unit {0}) words

  pub keyword_or_none : (keyword : List ℕ) (words : List (List ℕ))
      → Decided (IsKeyword keyword words)
  keyword_or_none keyword words = keyword_then keyword no_row Nothing no_word words

  abbrev OneLack : List (List ℕ) → Type 0
  OneLack words = IsKeyword (codes "full") words ⊎ (IsKeyword (codes "empty") words
      ⊎ (IsKeyword (codes "short") words ⊎ (IsKeyword (codes "early") words
      ⊎ IsKeyword (codes "none") words)))

  pub lack_or_none : (words : List (List ℕ)) → Decided (SaysLack words)
  lack_or_none words = as_well to (λ says. from says.0 says.1)
      (one_or_not (keyword_or_none (codes "full") words)
      (one_or_not (keyword_or_none (codes "empty") words)
      (one_or_not (keyword_or_none (codes "short") words)
      (one_or_not (keyword_or_none (codes "early") words)
      (keyword_or_none (codes "none") words)))))
    where
      to : OneLack words → SaysLack words
      to (inl x) = (Full, x.1)
      to (inr (inl x)) = (Empty, x.1)
      to (inr (inr (inl x))) = (Short, x.1)
      to (inr (inr (inr (inl x)))) = (Early, x.1)
      to (inr (inr (inr (inr x)))) = (NoStep, x.1)

      from : (lack : Lack) → words ≡ lack_words lack → OneLack words
      from Full e = inl (tt, e, tt)
      from Empty e = inr (inl (tt, e, tt))
      from Short e = inr (inr (inl (tt, e, tt)))
      from Early e = inr (inr (inr (inl (tt, e, tt))))
      from NoStep e = inr (inr (inr (inr (tt, e, tt))))

  -- ---- the line of an event that was not sent

  abbrev Numbers5 : Type 0
  Numbers5 = ℕ × (ℕ × (ℕ × (ℕ × (ℕ × Unit {0}))))

  abbrev fields_row : Numbers5 → List (List ℕ)
  fields_row x = decimal x.0 ∷ decimal x.1.0 ∷ decimal x.1.1.0 ∷ decimal x.1.1.1.0
      ∷ decimal x.1.1.1.1.0 ∷ []

  abbrev AreFields : Numbers5 → Type 0
  AreFields x = (x.0 < 8) × ((x.1.0 < 32) × ((x.1.1.0 < 32) × ((x.1.1.1.0 < 8)
      × ((x.1.1.1.1.0 < 8) × Unit {0}))))

  at_fields : (words : List (List ℕ)) → Decided (SaysRow fields_row AreFields words)
  at_fields = word_then decimal (λ n. n < 8)
      (λ (x : ℕ × (ℕ × (ℕ × (ℕ × Unit {0})))). decimal x.0 ∷ decimal x.1.0 ∷ decimal x.1.1.0
      ∷ decimal x.1.1.1.0 ∷ [])
      (λ x. (x.0 < 32) × ((x.1.0 < 32) × ((x.1.1.0 < 8) × ((x.1.1.1.0 < 8) × Unit {0}))))
      (number_word 8)
      (word_then decimal (λ n. n < 32)
      (λ (x : ℕ × (ℕ × (ℕ × Unit {0}))). decimal x.0 ∷ decimal x.1.0 ∷ decimal x.1.1.0 ∷ [])
      (λ x. (x.0 < 32) × ((x.1.0 < 8) × ((x.1.1.0 < 8) × Unit {0})))
      (number_word 32)
      (word_then decimal (λ n. n < 32)
      (λ (x : ℕ × (ℕ × Unit {0})). decimal x.0 ∷ decimal x.1.0 ∷ [])
      (λ x. (x.0 < 8) × ((x.1.0 < 8) × Unit {0})) (number_word 32)
      (word_then decimal (λ n. n < 8) (λ (x : ℕ × Unit {0}). decimal x.0 ∷ [])
      (λ x. (x.0 < 8) × Unit {0}) (number_word 8)
      (word_then decimal (λ n. n < 8) no_row Nothing (number_word 8) no_word))))

  abbrev sent_row : ℕ × (List ℕ × Unit {0}) → List (List ℕ)
  sent_row x = decimal x.0 ∷ packet_row x.1

  abbrev IsSentRow : ℕ × (List ℕ × Unit {0}) → Type 0
  IsSentRow x = (x.0 < 32) × IsPacket x.1

  at_sent : (words : List (List ℕ)) → Decided (SaysRow sent_row IsSentRow words)
  at_sent = word_then decimal (λ n. n < 32) packet_row IsPacket (number_word 32) one_packet

  abbrev pub SaysEvent : List (List ℕ) → Type 0
  SaysEvent words = SaysRow (λ (e : Event). event_words e) EventFits words

  abbrev symbol_of : Numbers5 → Fields
  symbol_of x = record {
    s0 = x.0;
    p0 = x.1.0;
    p1 = x.1.1.0;
    s1 = x.1.1.1.0;
    cmd = x.1.1.1.1.0;
  }

  abbrev OneEvent : List (List ℕ) → Type 0
  OneEvent words = SaysRow (λ x. codes "symbol" ∷ fields_row x) AreFields words
      ⊎ SaysRow (λ x. codes "packet" ∷ sent_row x) IsSentRow words

  pub event_or_none : (words : List (List ℕ)) → Decided (SaysEvent words)
  event_or_none words = as_well to (λ says. from says.0 says.1 says.2)
      (one_or_not (keyword_then (codes "symbol") fields_row AreFields at_fields words)
      (keyword_then (codes "packet") sent_row IsSentRow at_sent words))
    where
      to : OneEvent words → SaysEvent words
      to (inl x) = (
        Ctl (symbol_of x.0),
        x.1,
        record {
          s0 = x.2.0;
          p0 = x.2.1.0;
          p1 = x.2.1.1.0;
          s1 = x.2.1.1.1.0;
          cmd = x.2.1.1.1.1.0;
        },
      )
      to (inr x) = (Pkt x.0.0 x.0.1.0, x.1, (x.2.0, x.2.1.0))

      from : (e : Event) → words ≡ event_words e → EventFits e → OneEvent words
      from (Ctl symbol) e fits = inl (
        (symbol.s0, (symbol.p0, (symbol.p1, (symbol.s1, (symbol.cmd, tt))))),
        e,
        (fits.s0, (fits.p0, (fits.p1, (fits.s1, (fits.cmd, tt))))),
      )
      from (Pkt ack packet) e fits = inr ((ack, (packet, tt)), e, (fits.0, (fits.1, tt)))
      from (Bad cause) e fits = absurd fits

  abbrev about_row : PortRef × Event → List (List ℕ)
  about_row x = port_text known.names x.0 ∷ event_words x.1

  abbrev IsAbout : PortRef × Event → Type 0
  IsAbout x = IsScriptPort known x.0 × EventFits x.1

  at_event : (words : List (List ℕ)) → Decided (SaysRow about_row IsAbout words)
  at_event = word_then (port_text known.names) (IsScriptPort known) (λ (e : Event). event_words e)
      EventFits (port_word known orderly) event_or_none

  abbrev pub undetected_row : ℕ × (PortRef × Event) → List (List ℕ)
  undetected_row x = decimal x.0 ∷ about_row x.1

  abbrev pub IsUndetected : ℕ × (PortRef × Event) → Type 0
  IsUndetected x = (x.0 < 2 ^ 32) × IsAbout x.1

  numbered : (words : List (List ℕ)) → Decided (SaysRow undetected_row IsUndetected words)
  numbered = word_then decimal (λ n. n < 2 ^ 32) about_row IsAbout (number_word (2 ^ 32)) at_event

  pub undetected_or_none : (words : List (List ℕ)) → Decided
      (SaysRow (λ x. codes "undetected" ∷ undetected_row x) IsUndetected words)
  undetected_or_none = keyword_then (codes "undetected") undetected_row IsUndetected numbered
