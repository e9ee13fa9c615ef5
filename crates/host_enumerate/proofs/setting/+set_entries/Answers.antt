use Rattle.host_enumerate.proofs.Prelude.{rules, ◌-◌, length, take, drop, get_or, sym, ◌∙◌, IfOk-weaker, onward-not_empty}
use Rattle.host_enumerate.proofs.Routing.{split, front_askable, next_askable, next_once, routed-step}
use Rattle.host_enumerate.proofs.setting.+set_entries.Goals as goal

pub set_entry-requires-clause-askable : goal.set_entry-requires-clause-askable
set_entry-requires-clause-askable g t c =
    let asked = c.requires.askable in
    let tail = take (length c.args.rest.now - 1) (drop 1 c.args.rest.now) in
    let found = front_askable c.args.front.now c.requires.front
    (split c.args.rest.now c.in-len1-up.len_at_least) asked.2 c.requires.once in
    (asked.0, found.0, found.1, found.2, found.3)

pub set_entries-requires : goal.set_entries-requires
set_entries-requires g t c κs within =
    let asked = c.requires.askable in
    let topology = g.M.Maint.topology c.args.maint.now in
    let now = g.M.Maint.topology c.set_entry.new.maint in
    let old = g.M.Maint.registers c.args.maint.now in
    let new = g.M.Maint.registers c.set_entry.new.maint in
    let whole = c.args.rest.now in
    let tail = take (length whole - 1) (drop 1 whole) in
    let is = split whole c.in-len1-up.len_at_least in
    let found = front_askable c.args.front.now c.requires.front is asked.2 c.requires.once in
    let same = c.in_ok-set_entry.ensures.went.topology in
    let askable = next_askable new c.args.id c.args.front.now found.0 same
    c.onward-next.ensures is c.requires.id asked.3 asked.2
    (c.in_ok-set_entry.ensures.registers found.0 found.1.leads) in
    let once = next_once c.args.front.now same c.onward-next.ensures is c.requires.once in (
      search rules,
      (
        within,
        (
          c.in_ok-set_entry.ensures.went.whole,
          (
            λ empty. onward-not_empty c.args.front.now (get_or whole 0 0)
                (sym empty ∙ c.onward-next.ensures),
            ((asked.0, asked.1, askable, asked.3), (once, c.requires.id)),
          ),
        ),
      ),
    )

pub returns-clause-registers : goal.returns-clause-registers
returns-clause-registers g t c =
    let asked = c.requires.askable in
    let topology = g.M.Maint.topology c.args.maint.now in
    let now = g.M.Maint.topology c.set_entry.new.maint in
    let old = g.M.Maint.registers c.args.maint.now in
    let mid = g.M.Maint.registers c.set_entry.new.maint in
    let new = g.M.Maint.registers c.set_entries.new.maint in
    let whole = c.args.rest.now in
    let tail = take (length whole - 1) (drop 1 whole) in
    let is = split whole c.in-len1-up.len_at_least in
    let found = front_askable c.args.front.now c.requires.front is asked.2 c.requires.once in
    let same = c.in_ok-set_entry.ensures.went.topology in
    IfOk-weaker c.set_entries.result
    _ _
    (λ _ others. routed-step old c.args.front.now c.requires.front same
    c.onward-next.ensures is c.requires.once found.1.leads
    (c.in_ok-set_entry.ensures.registers found.0 found.1.leads) others)
    c.set_entries.ensures.registers
