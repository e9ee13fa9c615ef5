use Rattle.std.proofs.Common.{[], ◌∷◌, ◌*◌, ◌%◌, ◌∙◌, sym, ap, subst, bit_or}
use Rattle.rio_symbols.specs.Spelling.{SpellsSymbol, symbol_bytes, spelled_in}
use Rattle.rio_symbols.specs.Fields.{InRange}
use Rattle.rio_symbols.specs.Crc5.{crc5_value}
use Rattle.rio_symbols.proofs.SpellingLaws.{symbol_bytes-joined, spells_own, spelled_symbol_bytes}
use Rattle.rio_symbols.proofs.spelling.to_bytes.Goals as goal

pub returns-clause-exact : goal.returns-clause-exact
returns-clause-exact c =
    let s = c.symbol.inside in
    ap (λ crc. bit_or (s.s0 * 32 % 256) s.p0 ∷ bit_or (s.p1 * 8 % 256) s.s1
    ∷ bit_or (s.cmd * 32 % 256) crc ∷ [])
    (c.crc5.ensures.value ∙ sym (ap crc5_value c.symbol.view_is))
    ∙ symbol_bytes-joined _ c.symbol.invariant ∙ ap symbol_bytes c.symbol.view_is

pub returns-clause-spells : goal.returns-clause-spells
returns-clause-spells c =
    subst (SpellsSymbol c.args.symbol.now) (sym (returns-clause-exact c))
    (spells_own c.args.symbol.now (subst InRange c.symbol.view_is c.symbol.invariant))

pub returns-clause-reads_back : goal.returns-clause-reads_back
returns-clause-reads_back c =
    ap spelled_in (returns-clause-exact c)
    ∙ spelled_symbol_bytes c.args.symbol.now (subst InRange c.symbol.view_is c.symbol.invariant)
