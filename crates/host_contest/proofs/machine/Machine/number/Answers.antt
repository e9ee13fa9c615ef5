use Rattle.host_contest.proofs.Prelude.{◌*◌, ◌++◌, ◌∷◌, [], ◌∙◌, sym, ap, write, routes_to, numbered, machine_of}
use Rattle.host_contest.proofs.Machines.{on_ok, no_length, no_empty, number_so}
use Rattle.host_contest.proofs.machine.Machine.number.Goals as goal

pub returns-then-is_empty : goal.returns-then-is_empty
returns-then-is_empty c =
    on_ok c.number_host.result (λ host view.
    host view
    ∙ ap (numbered (machine_of view c.args.self.now))
    (sym (sym c.as_slice.ensures ∙ no_length c.as_slice.result.now
    (sym c.is_empty.ensures ∙ c.if-is_empty.true)))) c.number_host.ensures

pub returns : goal.returns
returns c =
    let some = no_empty c.as_slice.result.now (sym c.is_empty.ensures ∙ c.if-is_empty.false) in
    on_ok c.go_on.result (λ gone view.
    number_so (machine_of view c.args.self.now) (machine_of view c.push_device.new.self)
    (machine_of view c.go_on.new.self) c.push_routes.new.todo c.next_id-id.result some.0 some.1
    (sym c.as_slice.ensures ∙ some.2) c.next_id-id.ensures
    (c.in_ok-push_routes.ensures
    ∙ (ap (λ l. l ++ routes_to c.as_slice-2.result.now c.args.self.now.path c.next_id-id.result)
    (c.in_ok-push_write.ensures
    ∙ (ap (λ l. l ++ write c.args.self.now.path 0x60 (c.from.result * 0x10000) ∷ []) c.clear.ensures
    ∙ ap (λ n. write c.args.self.now.path 0x60 (n * 0x10000) ∷ []) c.from.ensures))
    ∙ ap (λ d. write c.args.self.now.path 0x60 (c.next_id-id.result * 0x10000)
    ∷ routes_to d c.args.self.now.path c.next_id-id.result) c.as_slice-2.ensures.value))
    (c.in_ok-push_device.ensures view) (gone view)) c.go_on.ensures
