use Rattle.std.proofs.Common.{◌++◌, sym, ap, ◌∙◌}
use Rattle.rio_chars.specs.HexText.{hex_of}
use Rattle.check_words.specs.Hints.{waiting_text}
use Rattle.check_words.proofs.HintLaws.{hint-added, hint-joined}
use Rattle.check_words.proofs.hints.push_waiting.Goals as goal

pub returns-in_ok-extend_from_slice-in-Some : goal.returns-in_ok-extend_from_slice-in-Some
returns-in_ok-extend_from_slice-in-Some c =
    let begin = c.as_bytes.ensures.value ∙ c.in_ok-text-in-Some.ensures.ok in
    hint-joined c.push_hex.result c.args.message.now.items _ c.push_hex.new.message.items
    c.as_bytes.result.now (hex_of c.bytes.result.now) (waiting_text c.args.prio c.args.packet.now)
    c.push_hex.ensures c.in_ok-extend_from_slice-in-Some.ensures.items
    ((λ i. begin i ++ hex_of (c.bytes.ensures.value i))
    ∙ ap (waiting_text c.args.prio) (sym c.in-Some.is))

pub returns-in_ok-text-in-None : goal.returns-in_ok-text-in-None
returns-in_ok-text-in-None c =
    hint-added c.extend_from_slice-in-None.result c.args.message.now.items
    c.extend_from_slice-in-None.new.self.items c.as_bytes-in-None.result.now
    (waiting_text c.args.prio c.args.packet.now) c.extend_from_slice-in-None.ensures.items
    (c.as_bytes-in-None.ensures.value ∙ c.in_ok-text-in-None.ensures.ok
    ∙ ap (waiting_text c.args.prio) (sym c.in-None.is))
