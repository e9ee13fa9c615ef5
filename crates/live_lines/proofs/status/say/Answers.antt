use Rattle.std.proofs.Common.{◌≡◌, [], false, refl}
use Rattle.std.specs.Io.KnownBytes.{Appends}
use Rattle.std.proofs.KnownBytes.{Appends-nil}
use Rattle.rio_chars.proofs.UnlessLaws.{WritesUnless-then}
use Rattle.live_lines.proofs.status.say.Goals as goal

pub returns : goal.returns
returns g c =
    let written = g.M.Sink.written in
    let faults = g.M.Sink.faults in
    let mid = c.write_unless-failed.new.sink in
    let last = c.write_unless.new.sink in
    rw c.in-Some.ensures (WritesUnless-then false (written c.args.messages.now)
    (faults c.args.messages.now) c.write_unless-failed.result (written mid) (faults mid)
    c.write_unless.result (written last) (faults last) c.args.name.now c.in-Some.words.now
    c.write_unless-failed.ensures c.write_unless.ensures)

pub returns-in_default : goal.returns-in_default
returns-in_default g c =
    let written = g.M.Sink.written c.args.messages.now in
    let faults = g.M.Sink.faults c.args.messages.now in
    let kept : Appends written written [] × (faults ≡ faults) = (Appends-nil written, refl) in
    rw c.in_default.ensures kept
