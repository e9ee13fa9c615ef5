use Rattle.std.proofs.Common.{◌∙◌, sym, subst}
use Rattle.rio_symbols.specs.Spelling.{SpellsSymbol}
use Rattle.rio_symbols.proofs.SpellingLaws.{accepted, refused, list_some, list_back, spells_own}
use Rattle.rio_symbols.proofs.spelling.from_bytes.Goals as goal

pub returns-then-found-computed-clause-decided : goal.returns-then-found-computed-clause-decided
returns-then-found-computed-clause-decided c =
    sym (accepted _ _ _ (c.fits-bytes 0) (c.fits-bytes 1) (c.fits-bytes 2)
    (c.if-found-computed.true ∙ c.crc5-computed.ensures.value))

pub returns-then-found-computed-clause-ok : goal.returns-then-found-computed-clause-ok
returns-then-found-computed-clause-ok c =
    list_some c.args.bytes.now _ c.told-bytes (sym (returns-then-found-computed-clause-decided c))

pub returns-then-found-computed-clause-all_spelled :
    goal.returns-then-found-computed-clause-all_spelled
returns-then-found-computed-clause-all_spelled c = λ s h.
    let back = list_back c.args.bytes.now s c.told-bytes h in
    let here = returns-then-found-computed-clause-decided c in
    cc (here ∙ back)

pub returns-then-found-computed-clause-reads_back :
    goal.returns-then-found-computed-clause-reads_back
returns-then-found-computed-clause-reads_back c = λ s range e.
    returns-then-found-computed-clause-all_spelled c s
    (subst (SpellsSymbol s) (sym e) (spells_own s range))

pub returns-else-found-computed-clause-decided : goal.returns-else-found-computed-clause-decided
returns-else-found-computed-clause-decided c =
    sym (refused _ _ _ (λ e. c.if-found-computed.false (e ∙ sym c.crc5-computed.ensures.value)))

pub returns-else-found-computed-clause-all_spelled :
    goal.returns-else-found-computed-clause-all_spelled
returns-else-found-computed-clause-all_spelled c = λ s h.
    cc (returns-else-found-computed-clause-decided c ∙ list_back c.args.bytes.now s c.told-bytes h)

pub returns-else-found-computed-clause-reads_back :
    goal.returns-else-found-computed-clause-reads_back
returns-else-found-computed-clause-reads_back c = λ s range e.
    returns-else-found-computed-clause-all_spelled c s
    (subst (SpellsSymbol s) (sym e) (spells_own s range))
