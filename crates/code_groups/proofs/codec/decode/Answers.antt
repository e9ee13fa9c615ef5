use Rattle.std.proofs.Common.{◌≡◌, ◌<◌, ◌/◌, ℕ, ◌+◌, ◌*◌, get_or, sym, ap, ◌∙◌, subst, arith}
use Rattle.code_groups.specs.declared.tables.TheConstants.{DECODED}
use Rattle.code_groups.specs.Disparities.{after_group, level}
use Rattle.code_groups.specs.Groups.{IsHeardAs}
use Rattle.code_groups.specs.Numbers.{char_at}
use Rattle.code_groups.proofs.Plain.{plain_heard}
use Rattle.code_groups.proofs.TableLaws.{decoded_parts, level-lt, level-same}
use Rattle.code_groups.proofs.codec.decode.Goals as goal

pub disparity_of-requires : goal.disparity_of-requires
disparity_of-requires c =
    let place : ℕ = 1024 * c.row.result + c.from.result in
    let e : place ≡ 1024 * level c.args.before + c.args.group =
    omega (arith, c.row.ensures.value, c.from.ensures) in
    let parts = decoded_parts c.args.before c.args.group place c.requires e in
    let few = level-lt (after_group c.args.before c.args.group) in
    let low : get_or DECODED place 0 / 1024 < 2 = omega (arith, parts.1, few) in
    low

pub returns-clause-character : goal.returns-clause-character
returns-clause-character c =
    let place : ℕ = 1024 * c.row.result + c.from.result in
    let e : place ≡ 1024 * level c.args.before + c.args.group =
    omega (arith, c.row.ensures.value, c.from.ensures) in
    let parts = decoded_parts c.args.before c.args.group place c.requires e in
    subst (IsHeardAs c.args.before c.args.group) (sym (c.char_of.ensures ∙ ap char_at parts.0))
    (plain_heard c.args.before c.args.group)

pub returns-clause-disparity : goal.returns-clause-disparity
returns-clause-disparity c =
    let place : ℕ = 1024 * c.row.result + c.from.result in
    let e : place ≡ 1024 * level c.args.before + c.args.group =
    omega (arith, c.row.ensures.value, c.from.ensures) in
    let parts = decoded_parts c.args.before c.args.group place c.requires e in
    level-same c.disparity_of.result (after_group c.args.before c.args.group) _
    c.disparity_of.ensures parts.1
