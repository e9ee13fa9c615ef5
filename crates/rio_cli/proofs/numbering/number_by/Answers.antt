use Rattle.rio_cli.proofs.AskLaws.{maps, falls_never, same, rose, counted}
use Rattle.rio_cli.proofs.numbering.number_by.Goals as goal

pub enumerate-requires-clause-whole : goal.enumerate-requires-clause-whole
enumerate-requires-clause-whole g c = c.requires.whole

pub enumerate-requires-clause-untagged : goal.enumerate-requires-clause-untagged
enumerate-requires-clause-untagged g c = c.requires.untagged

pub enumerate-requires-clause-host : goal.enumerate-requires-clause-host
enumerate-requires-clause-host g c = c.requires.has_id

pub returns-clause-same : goal.returns-clause-same
returns-clause-same g c =
    same g.K.Sink.written g.K.Sink.faults c.args.maint.now c.enumerate.new.maint c.requires
    c.enumerate.result c.enumerate.ensures.follows c.enumerate.ensures.leaves

pub returns-clause-maps : goal.returns-clause-maps
returns-clause-maps g c =
    maps g.K.Sink.written g.K.Sink.faults c.args.maint.now c.enumerate.new.maint c.requires
    c.enumerate.result c.enumerate.ensures.enumerated c.enumerate.ensures.end
    c.enumerate.ensures.follows c.enumerate.ensures.leaves

pub returns-clause-rose : goal.returns-clause-rose
returns-clause-rose g c =
    rose g.K.Sink.written g.K.Sink.faults c.args.maint.now c.enumerate.new.maint c.requires
    c.enumerate.result c.enumerate.ensures.end

pub returns-clause-counts : goal.returns-clause-counts
returns-clause-counts g c =
    counted g.K.Sink.written g.K.Sink.faults c.args.maint.now c.enumerate.new.maint c.requires
    c.enumerate.result c.enumerate.ensures.end c.enumerate.ensures.faults

pub returns-clause-never_falls : goal.returns-clause-never_falls
returns-clause-never_falls g c =
    falls_never g.K.Sink.written g.K.Sink.faults c.args.maint.now c.enumerate.new.maint c.requires
    c.enumerate.result c.enumerate.ensures.follows c.enumerate.ensures.leaves
