use Rattle.std.proofs.Common.{◌≡◌, [], Some, List, ℕ, false, refl, sym, ap, ◌∙◌, subst}
use Rattle.rio_chars.specs.Written.{Writes}
use Rattle.live_fabric.specs.declared.session.Session.{Session}
use Rattle.live_fabric.specs.Outside.{outside_answer, taken_outside}
use Rattle.live_fabric.specs.Pieces.{quiet_text}
use Rattle.live_fabric.specs.Sessions.{OutsideTold}
use Rattle.live_fabric.proofs.KeptLaws.{kept_behind}
use Rattle.live_fabric.proofs.OutsideLaws.{told_loud, told_quiet}
use Rattle.live_fabric.proofs.QuietLaws.{same_text}
use Rattle.live_fabric.proofs.session.Session.tell_outside.Goals.{then-self+in_ok-quiet, else-self}
use Rattle.live_fabric.proofs.session.Session.tell_outside.Goals as goal

pub returns-clause-told : goal.returns-clause-told
returns-clause-told g c = λ held holds may.
    let session = c.args.self.now in
    let now : Session = record session { live = c.outside_text.new.live } in
    let line = c.args.line.now in
    let out = c.args.outbox.now in
    let items = c.in_ok-text.text.text.items in
    let whole = c.in_ok-text.ensures held.taken holds.live may in
    let is : items ≡ outside_answer false held.taken line =
    same_text items (outside_answer false held.taken line) whole.told in
    let kept = kept_behind held session now (taken_outside held.taken line) holds refl refl
    whole.holds in
    elim c.if-self.branch [
      | then-self+in_ok-quiet w ↦ subst (λ o. OutsideTold held line out o now) (sym w.outbox-is)
          (told_quiet held line session now holds out w.write.new.self items w.if-self.true is kept
          (subst (Writes out w.write.new.self)
          (w.as_slice-then-self.ensures.value ∙ w.in_ok-quiet.ensures
          ∙ ap quiet_text w.as_slice.ensures) w.write.ensures))
      | else-self w ↦ subst (λ o. OutsideTold held line out o now) (sym w.outbox-is)
          (told_loud held line session now holds out w.write-else-self.new.self items
          w.if-self.false is kept
          (subst (Writes out w.write-else-self.new.self) w.as_slice-else-self.ensures
          w.write-else-self.ensures))
    ]
