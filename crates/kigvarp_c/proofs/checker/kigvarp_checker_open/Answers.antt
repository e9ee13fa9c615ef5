use Rattle.std.proofs.Common.{◌≡◌, [], inl, inr, refl, sym, subst}
use Rattle.library_calls.specs.declared.status.CallStatus.TheVariants.{Done, NoMemory}
use Rattle.library_calls.specs.Checks.{IsOpenedChecker}
use Rattle.kigvarp_c.specs.Checkers.{OpensChecker}
use Rattle.kigvarp_c.proofs.CallLaws.{no_items, opens_closed}
use Rattle.kigvarp_c.proofs.checker.kigvarp_checker_open.Goals as goal

pub returns-in-Err-clause-opens : goal.returns-in-Err-clause-opens
returns-in-Err-clause-opens c =
    let checkers = c.args.checker.now.handle.checkers in
    let none : checkers ≡ [] = no_items checkers _ c.requires c.if-checker-ne0.false in
    opens_closed (OpensChecker c.args.script.now c.new.new.hit) checkers checkers c.in-Err.status _
    none c.call_number-in-Err.ensures (inr (none, c.in-Err.ensures.refused))

pub returns-in_default-clause-opens : goal.returns-in_default-clause-opens
returns-in_default-clause-opens c =
    let checkers = c.args.checker.now.handle.checkers in
    let none : checkers ≡ [] = no_items checkers _ c.requires c.if-checker-ne0.false in
    opens_closed (OpensChecker c.args.script.now c.new.new.hit) checkers checkers NoMemory _ none
    c.call_number-in_default.ensures (inr (none, c.in-Ok.ensures.none))

pub returns-clause-opens : goal.returns-clause-opens
returns-clause-opens c =
    let checkers = c.args.checker.now.handle.checkers in
    let none : checkers ≡ [] = no_items checkers _ c.requires c.if-checker-ne0.false in
    opens_closed (OpensChecker c.args.script.now c.new.new.hit) checkers _ Done _ none
    c.call_number-2.ensures (inl (
      refl,
      c.in-Ok.ensures.none,
      (
        c.in-Ok-new.opened.value,
        c.put_checker.ensures.open,
        subst (IsOpenedChecker c.args.script.now) (sym c.in-Ok-new.ensures.ok)
            c.in-Ok.ensures.made,
      ),
    ))
