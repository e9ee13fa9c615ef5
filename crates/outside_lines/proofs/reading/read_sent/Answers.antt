use Rattle.std.proofs.Common.{inl, inr, ap, ◌∷◌, codes, rules}
use Rattle.fabric_script.specs.Lines.{words_of}
use Rattle.trace_lines.proofs.FieldLaws.{some_word}
use Rattle.trace_lines.proofs.ReadLaws.{some_chars}
use Rattle.outside_lines.proofs.ReadingLaws.{sending_refused, sent_words}
use Rattle.outside_lines.proofs.reading.read_sent.Goals as goal

pub returns-in_err-device-clause-refused : goal.returns-in_err-device-clause-refused
returns-in_err-device-clause-refused c = λ number is.
    let first = c.in_ok-first.first.now in
    let rest = c.in_ok-first.rest.now in
    sending_refused c.args.set_up.now.known c.args.facing.now (words_of c.args.words.now) first
    (words_of rest) number c.in_ok-first.ensures.more (some_word rest)
    (inl (c.in_err-device.ensures.none number (search rules)))

pub returns-in_default-clause-refused : goal.returns-in_default-clause-refused
returns-in_default-clause-refused c = λ number is.
    let first = c.in_ok-first.first.now in
    let rest = c.in_ok-first.rest.now in
    sending_refused c.args.set_up.now.known c.args.facing.now (words_of c.args.words.now) first
    (words_of rest) number c.in_ok-first.ensures.more (some_word rest)
    (inr (
      c.in_ok-device.device,
      c.in_ok-device.ensures.port,
      inl (rw c.in_default.is at (c.in_ok-chars.ensures), cc),
    ))

pub returns-in-Some-port_beside-clause-read : goal.returns-in-Some-port_beside-clause-read
returns-in-Some-port_beside-clause-read c =
    let rest = c.in_ok-first.rest.now in
    let chars = rw c.in-Some.is at (c.in_ok-chars.ensures) in
    let port = c.in_ok-device.ensures.port in (
      ap (λ words. codes "sent" ∷ words)
          (sent_words _ _ _ _ _ c.in_ok-first.ensures.more port.1 chars.1),
      port.0,
      search rules,
      some_chars rest c.in-Some.chars.items chars.1,
      chars.0,
    )

pub returns-in-None-clause-refused : goal.returns-in-None-clause-refused
returns-in-None-clause-refused c = λ number is.
    let first = c.in_ok-first.first.now in
    let rest = c.in_ok-first.rest.now in
    sending_refused c.args.set_up.now.known c.args.facing.now (words_of c.args.words.now) first
    (words_of rest) number c.in_ok-first.ensures.more (some_word rest)
    (inr (
      c.in_ok-device.device,
      c.in_ok-device.ensures.port,
      inr (
        c.in-Some.chars.items,
        rw c.in-Some.is at (c.in_ok-chars.ensures),
        search rules,
        cc,
      ),
    ))
