use Rattle.std.proofs.Common.{◌≡◌, length, true, false, sym, ap, ◌∙◌, subst, rules}
use Rattle.fabric_script.specs.declared.values.Value.TheVariants.{Bytes}
use Rattle.fabric_script.specs.Texts.{hex_text}
use Rattle.io_script.specs.IoTaking.{data_field}
use Rattle.io_script.specs.IoWords.{FitsIo}
use Rattle.io_script.proofs.IoTakes.{data_fits, data_misspelled, data_wrong, fits_by}
use Rattle.io_script.proofs.words.read_load.Goals as goal

pub returns-in_default : goal.returns-in_default
returns-in_default c = λ known.
    data_misspelled known c.args.stream c.args.word.now
    (rw c.in_default.is at c.in_ok-bytes.ensures)

pub returns-then-fits : goal.returns-then-fits
returns-then-fits c = λ known.
    let bytes = c.in-Some.bytes.items in
    let read = rw c.in-Some.is at c.in_ok-bytes.ensures in
    let count : length bytes ≡ c.len.result = search rules in
    let right : fits_by c.args.stream (length bytes) ≡ true
    = ap (fits_by c.args.stream) count ∙ sym c.fits.ensures.size ∙ c.if-fits.true in
    let same : bytes ≡ c.of_bytes.result = search rules in
    subst (λ load. FitsIo known (data_field c.args.stream) (Bytes load)
    × (c.args.word.now ≡ hex_text load)) same
    (data_fits known c.args.stream c.args.word.now bytes read right)

pub returns : goal.returns
returns c = λ known.
    let bytes = c.in-Some.bytes.items in
    let read = rw c.in-Some.is at c.in_ok-bytes.ensures in
    let count : length bytes ≡ c.len.result = search rules in
    let wrong : fits_by c.args.stream (length bytes) ≡ false
    = ap (fits_by c.args.stream) count ∙ sym c.fits.ensures.size ∙ c.if-fits.false in
    data_wrong known c.args.stream c.args.word.now bytes read wrong
