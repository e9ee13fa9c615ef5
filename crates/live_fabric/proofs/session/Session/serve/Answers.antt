use Rattle.std.proofs.Common.{◌≡◌, ℕ, List, ◌∙◌, refl, subst}
use Rattle.rio_chars.specs.Written.{Writes}
use Rattle.fabric_script.specs.Reading.{Spells}
use Rattle.fabric_script.specs.SetUps.{IsRefused, SetUpLines}
use Rattle.refusal_words.specs.Citing.{refusal_line}
use Rattle.live_fabric.specs.Lines.{SaysWhy}
use Rattle.live_fabric.specs.OwnRegisters.{collect_text}
use Rattle.live_fabric.specs.Served.{with_served}
use Rattle.live_fabric.specs.Sessions.{SessionHeld, SessionHolds, ServeTold}
use Rattle.live_fabric.proofs.AnsweringLaws.{on_each_ok}
use Rattle.live_fabric.proofs.SessionLaws.{serve_taken, serve_refused}
use Rattle.live_fabric.proofs.session.Session.serve.Goals as goal

pub returns-in-Ok-clause-told : goal.returns-in-Ok-clause-told
returns-in-Ok-clause-told g c =
    let session = c.args.self.now in
    let words = c.args.words.now in
    let out = c.args.outbox.now in
    let event = c.in-Ok.event in
    let text : c.as_slice.result.now ≡ collect_text words =
    c.as_slice.ensures.value ∙ c.in_ok-line.ensures in
    let spells : Spells session.live.set_up.known (collect_text words) event =
    subst (λ (s : SetUpLines). Spells s.known (collect_text words) event) c.set_up.ensures
    (subst (λ (t : List ℕ). Spells c.set_up.result.now.known t event) text
    c.in-Ok.ensures.event) in
    on_each_ok
    (c.add.new.self.nodes.items ≡ with_served session.served.nodes.items event)
    ((held : SessionHeld) → SessionHolds session held
    → ServeTold held words out out (record session { served = c.add.new.self }))
    c.add.result
    (λ nodes held holds. serve_taken held words out session
    (record session { served = c.add.new.self }) event holds refl refl c.add.ensures.all nodes
    spells)
    c.add.ensures.nodes

pub returns-in-Err-Refused-clause-told : goal.returns-in-Err-Refused-clause-told
returns-in-Err-Refused-clause-told g c =
    let session = c.args.self.now in
    let words = c.args.words.now in
    let out = c.args.outbox.now in
    let next = c.refuse.new.outbox in
    let reason = c.in-Err-Refused.reason in
    let text : c.as_slice.result.now ≡ collect_text words =
    c.as_slice.ensures.value ∙ c.in_ok-line.ensures in
    let again : c.as_slice-in-Err-Refused.result.now ≡ collect_text words =
    c.as_slice-in-Err-Refused.ensures.value ∙ c.in_ok-line.ensures in
    let refused : IsRefused session.live.set_up.known (collect_text words) reason =
    subst (λ (s : SetUpLines). IsRefused s.known (collect_text words) reason) c.set_up.ensures
    (subst (λ (t : List ℕ). IsRefused c.set_up.result.now.known t reason) text
    (c.in-Err-Refused.ensures.refused reason (cc))) in
    on_each_ok
    ((why : List ℕ) × SaysWhy c.as_slice-in-Err-Refused.result.now reason why
    × Writes out next (refusal_line reason why))
    ((held : SessionHeld) → SessionHolds session held → ServeTold held words out next session)
    c.refuse.result
    (λ told held holds. serve_refused held words out next session reason holds refused
    (told.0, subst (λ (t : List ℕ). SaysWhy t reason told.0) again told.1, told.2))
    c.refuse.ensures.told
