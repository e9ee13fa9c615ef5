use Rattle.std.proofs.Common.{◌≡◌, ◌≢◌, ℕ, List, codes, inl, inr, refl, ◌∙◌, subst}
use Rattle.rio_chars.specs.Written.{Writes}
use Rattle.fabric_ports.specs.OwnRegisters.{with_standard}
use Rattle.refusal_words.specs.Citing.{refusal_line}
use Rattle.live_fabric.specs.declared.session.Session.{Session}
use Rattle.live_fabric.specs.Lines.{Taken, SaysWhy, seen_so_far, taken_anew}
use Rattle.live_fabric.specs.Holding.{LiveHolds}
use Rattle.live_fabric.specs.OwnRegisters.{collect_text, standard_everywhere, NamesDevice, NamesNoDevice}
use Rattle.live_fabric.specs.Sessions.{SessionHeld, SessionHolds, StandardTold}
use Rattle.live_fabric.proofs.AnsweringLaws.{on_each_ok}
use Rattle.live_fabric.proofs.NamingLaws.{device_there}
use Rattle.live_fabric.proofs.OwnedLaws.{known_held, standard_taken, standard_refused}
use Rattle.live_fabric.proofs.session.Session.standard.Goals as goal

pub returns-then-are_all-clause-told : goal.returns-then-are_all-clause-told
returns-then-are_all-clause-told g c =
    let session = c.args.self.now in
    let live = c.show_all_standard.new.self in
    let now : Session = record session { live = live } in
    let words = c.args.words.now in
    let out = c.args.outbox.now in
    on_each_ok
    ((taken : Taken) → LiveHolds session.live taken
    → LiveHolds live (taken_anew taken (standard_everywhere (seen_so_far taken))))
    ((held : SessionHeld) → SessionHolds session held → StandardTold held words out out now)
    c.show_all_standard.result
    (λ shown held holds. standard_taken held words out session now
    (standard_everywhere (seen_so_far held.taken)) holds refl refl
    (inl (c.are_all.ensures.0 c.if-are_all.true, refl)) (shown held.taken holds.live))
    c.show_all_standard.ensures

pub show_standard-requires : goal.show_standard-requires
show_standard-requires g c =
    let held = c.requires.0 in
    let holds = c.requires.1 in
    let words = c.args.words.now in
    let named = subst (λ known. NamesDevice known words c.in-Ok.node)
    (known_held held c.args.self.now c.set_up.result.now holds c.set_up.ensures)
    c.in-Ok.ensures.named in (
      held.taken,
      holds.live,
      device_there c.args.self.now.live held.taken holds.live words c.in-Ok.node named,
    )

pub returns-in-Ok-clause-told : goal.returns-in-Ok-clause-told
returns-in-Ok-clause-told g c =
    let session = c.args.self.now in
    let live = c.show_standard.new.self in
    let now : Session = record session { live = live } in
    let words = c.args.words.now in
    let out = c.args.outbox.now in
    let node = c.in-Ok.node in
    let other : words ≢ codes "all" =
    λ same. absurd (cc (c.are_all.ensures.1 same, c.if-are_all.false)) in
    on_each_ok
    ((taken : Taken) → LiveHolds session.live taken
    → LiveHolds live (taken_anew taken (with_standard node (seen_so_far taken))))
    ((held : SessionHeld) → SessionHolds session held → StandardTold held words out out now)
    c.show_standard.result
    (λ shown held holds. standard_taken held words out session now
    (with_standard node (seen_so_far held.taken)) holds refl refl
    (inr (
      other,
      (
        node,
        subst (λ known. NamesDevice known words node)
            (known_held held session c.set_up.result.now holds c.set_up.ensures)
            c.in-Ok.ensures.named,
        refl,
      ),
    )) (shown held.taken holds.live))
    c.show_standard.ensures

pub returns-in_ok-line-in-Err-Refused-clause-told :
    goal.returns-in_ok-line-in-Err-Refused-clause-told
returns-in_ok-line-in-Err-Refused-clause-told g c =
    let session = c.args.self.now in
    let words = c.args.words.now in
    let out = c.args.outbox.now in
    let next = c.refuse.new.outbox in
    let reason = c.in-Err-Refused.reason in
    let other : words ≢ codes "all" =
    λ same. absurd (cc (c.are_all.ensures.1 same, c.if-are_all.false)) in
    let text : c.as_slice.result.now ≡ collect_text words =
    c.as_slice.ensures.value ∙ c.in_ok-line-in-Err-Refused.ensures in
    on_each_ok
    ((why : List ℕ) × SaysWhy c.as_slice.result.now reason why
    × Writes out next (refusal_line reason why))
    ((held : SessionHeld) → SessionHolds session held → StandardTold held words out next session)
    c.refuse.result
    (λ told held holds. standard_refused held words out next session reason holds other
    (subst (λ known. NamesNoDevice known words reason)
    (known_held held session c.set_up.result.now holds c.set_up.ensures)
    (c.in-Err-Refused.ensures.refused reason (cc)))
    (told.0, subst (λ (t : List ℕ). SaysWhy t reason told.0) text told.1, told.2))
    c.refuse.ensures.told
