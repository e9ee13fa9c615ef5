use Rattle.std.proofs.Common.{refl}
use Rattle.link_model.specs.Prelude.{symbol_bytes, symbol_chars_of}
use Rattle.rio_framer.proofs.sending.symbol_chars.Goals as goal

pub returns : goal.returns
unfolding symbol_chars_of symbol_bytes
returns c =
    rw (
      c.push-4.ensures.items,
      c.push-3.ensures.items,
      c.push-2.ensures.items,
      c.push.ensures.items,
      c.new-chars.ensures,
      c.special.ensures,
      c.delimiter.ensures.value,
      c.to_bytes-bytes.ensures.exact,
    ) refl
