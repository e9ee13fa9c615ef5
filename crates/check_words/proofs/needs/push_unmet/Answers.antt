use Rattle.std.proofs.Common.{sym, ap, ◌∙◌}
use Rattle.check_words.specs.Needs.{unmet_text}
use Rattle.check_words.proofs.HintLaws.{hint-added}
use Rattle.check_words.proofs.needs.push_unmet.Goals as goal

pub returns-in_ok-text-in-Buffers : goal.returns-in_ok-text-in-Buffers
returns-in_ok-text-in-Buffers c =
    hint-added c.extend_from_slice.result c.args.message.now.items
    c.extend_from_slice.new.self.items c.as_bytes.result.now
    (unmet_text c.args.unmet.now) c.extend_from_slice.ensures.items
    (c.as_bytes.ensures.value ∙ c.in_ok-text-in-Buffers.ensures.ok
    ∙ ap unmet_text (sym c.in-Buffers.is))

pub returns-in_ok-text-in-Place : goal.returns-in_ok-text-in-Place
returns-in_ok-text-in-Place c =
    hint-added c.extend_from_slice-in-Place.result c.args.message.now.items
    c.extend_from_slice-in-Place.new.self.items c.as_bytes-in-Place.result.now
    (unmet_text c.args.unmet.now) c.extend_from_slice-in-Place.ensures.items
    (c.as_bytes-in-Place.ensures.value ∙ c.in_ok-text-in-Place.ensures.ok
    ∙ ap unmet_text (sym c.in-Place.is))

pub returns-in-NoRequest : goal.returns-in-NoRequest
returns-in-NoRequest c =
    hint-added c.extend_from_slice-in-NoRequest.result c.args.message.now.items
    c.extend_from_slice-in-NoRequest.new.self.items _ (unmet_text c.args.unmet.now)
    c.extend_from_slice-in-NoRequest.ensures.items (ap unmet_text (sym c.in-NoRequest.is))

pub returns-in-Request : goal.returns-in-Request
returns-in-Request c =
    hint-added c.extend_from_slice-in-Request.result c.args.message.now.items
    c.extend_from_slice-in-Request.new.self.items _ (unmet_text c.args.unmet.now)
    c.extend_from_slice-in-Request.ensures.items (ap unmet_text (sym c.in-Request.is))

pub returns-in-Response : goal.returns-in-Response
returns-in-Response c =
    hint-added c.extend_from_slice-in-Response.result c.args.message.now.items
    c.extend_from_slice-in-Response.new.self.items _ (unmet_text c.args.unmet.now)
    c.extend_from_slice-in-Response.ensures.items (ap unmet_text (sym c.in-Response.is))
