use Rattle.std.proofs.Common.{[], Some, sym, ◌∙◌}
use Rattle.std.proofs.lemmas.Bool.{both_ways}
use Rattle.fabric_maint.proofs.Owned.{own_device, read_answer, read_registers, done_answer, failed_answer, written_registers, written_whole, written_follows}
use Rattle.fabric_maint.proofs.maint.FabricMaintMaint.own.Goals as goal

pub returns-in-Some-clause-answer : goal.returns-in-Some-clause-answer
returns-in-Some-clause-answer g c =
    let own = own_device c.args.self.now c.requires.whole in
    c.done.ensures
    ∙ read_answer c.args.self.now c.requires.whole c.args.access c.in-Read.offset
    (Some c.in-Some.value) c.in-Read.is
    (sym c.in-Some.is ∙ c.register_read.ensures c.requires.whole.s [] own.device
    c.requires.whole.rests.can.stands own.stands)

pub returns-in-Some-clause-registers : goal.returns-in-Some-clause-registers
returns-in-Some-clause-registers g c =
    read_registers c.args.self.now c.requires.whole c.args.access c.in-Read.offset c.in-Read.is

pub returns-in-None-clause-answer : goal.returns-in-None-clause-answer
returns-in-None-clause-answer g c =
    let own = own_device c.args.self.now c.requires.whole in
    read_answer c.args.self.now c.requires.whole c.args.access c.in-Read.offset
    _ c.in-Read.is
    (sym c.in-None.is ∙ c.register_read.ensures c.requires.whole.s [] own.device
    c.requires.whole.rests.can.stands own.stands)

pub returns-in-None-clause-registers : goal.returns-in-None-clause-registers
returns-in-None-clause-registers g c =
    read_registers c.args.self.now c.requires.whole c.args.access c.in-Read.offset c.in-Read.is

pub returns-then-register_write-clause-answer : goal.returns-then-register_write-clause-answer
returns-then-register_write-clause-answer g c =
    let own = own_device c.args.self.now c.requires.whole in
    let wrote = c.register_write.ensures c.requires.whole.s [] own.device
    c.requires.whole.rests.can.stands own.stands in
    c.done-then-register_write.ensures
    ∙ done_answer c.args.self.now c.requires.whole c.args.access c.in-Write.offset c.in-Write.value
    c.in-Write.is (wrote.exact.0 c.if-register_write.true)

pub returns-then-register_write-clause-registers :
    goal.returns-then-register_write-clause-registers
returns-then-register_write-clause-registers g c =
    let own = own_device c.args.self.now c.requires.whole in
    written_registers c.args.self.now c.requires.whole c.register_write.new.self c.in-Write.offset
    c.in-Write.value c.register_write.result
    (c.register_write.ensures c.requires.whole.s [] own.device c.requires.whole.rests.can.stands
    own.stands) c.args.access c.in-Write.is

pub returns-then-register_write-clause-whole : goal.returns-then-register_write-clause-whole
returns-then-register_write-clause-whole g c =
    let own = own_device c.args.self.now c.requires.whole in
    written_whole c.args.self.now c.requires.whole c.register_write.new.self c.in-Write.offset
    c.in-Write.value c.register_write.result
    (c.register_write.ensures c.requires.whole.s [] own.device c.requires.whole.rests.can.stands
    own.stands)

pub returns-then-register_write-clause-follows : goal.returns-then-register_write-clause-follows
returns-then-register_write-clause-follows g c origin followed =
    written_follows g.N.Noise.edits g.K.Sink.written g.K.Sink.faults origin c.args.self.now
    c.register_write.new.self c.in-Write.offset c.in-Write.value c.register_write.result
    (λ t device stands at. c.register_write.ensures t [] device stands at) followed

pub returns-else-register_write-clause-answer : goal.returns-else-register_write-clause-answer
returns-else-register_write-clause-answer g c =
    let own = own_device c.args.self.now c.requires.whole in
    let wrote = c.register_write.ensures c.requires.whole.s [] own.device
    c.requires.whole.rests.can.stands own.stands in
    failed_answer c.args.self.now c.requires.whole c.args.access c.in-Write.offset
    c.in-Write.value c.in-Write.is
    (λ some. absurd (both_ways _ c.if-register_write.false (wrote.exact.1 some)))

pub returns-else-register_write-clause-registers :
    goal.returns-else-register_write-clause-registers
returns-else-register_write-clause-registers g c =
    let own = own_device c.args.self.now c.requires.whole in
    written_registers c.args.self.now c.requires.whole c.register_write.new.self c.in-Write.offset
    c.in-Write.value c.register_write.result
    (c.register_write.ensures c.requires.whole.s [] own.device c.requires.whole.rests.can.stands
    own.stands) c.args.access c.in-Write.is

pub returns-else-register_write-clause-whole : goal.returns-else-register_write-clause-whole
returns-else-register_write-clause-whole g c =
    let own = own_device c.args.self.now c.requires.whole in
    written_whole c.args.self.now c.requires.whole c.register_write.new.self c.in-Write.offset
    c.in-Write.value c.register_write.result
    (c.register_write.ensures c.requires.whole.s [] own.device c.requires.whole.rests.can.stands
    own.stands)

pub returns-else-register_write-clause-follows : goal.returns-else-register_write-clause-follows
returns-else-register_write-clause-follows g c origin followed =
    written_follows g.N.Noise.edits g.K.Sink.written g.K.Sink.faults origin c.args.self.now
    c.register_write.new.self c.in-Write.offset c.in-Write.value c.register_write.result
    (λ t device stands at. c.register_write.ensures t [] device stands at) followed
