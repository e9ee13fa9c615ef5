-- A walker that is done has numbered its fabric, and this stands whatever the other does.
use Rattle.contest_machine.proofs.Prelude.{◌≡◌, ℕ, [], subst, sym, ap, ◌∙◌, IsReached, after_all_paths, AllRegisters, Fits, paths_of, entries_of, IsNumbered, each_is_reached, IsUnderway, Contains-append_left, Done, Walker, fresh, Keeps}
use mathlib.Core.Path.{fun_ext}
use Rattle.host_enumerate.proofs.Finishing.{underway-numbered}
use Rattle.contest_machine.proofs.Numbering.OnWay.{performed, bound_at, IsApart, IsOnWay}

module _ (w : Walker) (now : AllRegisters) (is : w.stage ≡ Done) (none : w.todo ≡ [])
    (way : IsOnWay w now) where
  finished : IsUnderway w.view way.before way.seen w.id w.devices w.next after_all_paths
  finished =
      subst (λ s. IsUnderway w.view way.before way.seen w.id w.devices w.next (bound_at w s)) is
      way.underway

  seen_now : way.seen ≡ now
  seen_now = fun_ext (λ node.
      way.seen_is node (subst (λ s. ¬ IsApart w s node) (sym is) (λ a. a))
      ∙ ap (λ t. performed w.view now t node) none)

  -- the map is that of a numbered fabric, whose devices begin as they were when they were taken in
  pub done_numbered : Fits w.view now
      → IsNumbered w.view w.devices (entries_of w.devices) way.before now
  done_numbered fits =
      underway-numbered w.view way.before now w.id w.next w.devices
      (subst (λ r. IsUnderway w.view way.before r w.id w.devices w.next after_all_paths) seen_now
      finished) fits

  -- it keeps every device that it reaches
  pub done_keeps : (node : ℕ) → IsReached w.view node → Keeps w node
  done_keeps node reached =
      let found = each_is_reached w.view (paths_of w.devices) node finished.walked reached in (
        found.0,
        Contains-append_left (paths_of w.devices) (fresh w.stage w.path) found.0 found.1,
        found.2,
      )
