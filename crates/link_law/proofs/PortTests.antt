-- The tests of the schedule, by the names of a port's states.
use Rattle.link_law.proofs.Prelude.{◌≡◌, ℕ, ◌==◌, Bool, true, false, List, [], ◌∷◌, length, refl, arith, is_retry_stopped, has_failed, may_fire, is_none, is_done, is_ok}
use Rattle.link_model.specs.Input as in_half
use Rattle.link_model.specs.Output as out
use Rattle.link_port.specs.Halves.{out_kind_of, in_kind_of}
use Rattle.link_port.specs.States.{prios_of, has_asked}
use Rattle.link_port.specs.declared.kinds.OutKind.{OutKind}
use Rattle.link_port.specs.declared.kinds.OutKind.TheVariants as OutKinds
use Rattle.link_port.specs.declared.kinds.InKind.{InKind}
use Rattle.link_port.specs.declared.kinds.InKind.TheVariants as InKinds

abbrev pub retry_kind : OutKind → Bool
retry_kind OutKinds.Ok = false
retry_kind OutKinds.RetryStopped = true
retry_kind OutKinds.ErrorStopped = false
retry_kind OutKinds.Failed = false

pub retry_by_kind : (o : out.Output) → is_retry_stopped o ≡ retry_kind (out_kind_of o)
retry_by_kind (out.Output.Ok w) = refl
retry_by_kind _ = refl

abbrev pub failed_kind : OutKind → Bool
failed_kind OutKinds.Ok = false
failed_kind OutKinds.RetryStopped = false
failed_kind OutKinds.ErrorStopped = false
failed_kind OutKinds.Failed = true

pub failed_by_kind : (o : out.Output) → has_failed o ≡ failed_kind (out_kind_of o)
failed_by_kind (out.Output.Ok w) = refl
failed_by_kind _ = refl

abbrev pub fire_kind : OutKind → Bool → Bool
fire_kind OutKinds.Ok asked = true
fire_kind OutKinds.RetryStopped asked = false
fire_kind OutKinds.ErrorStopped asked = asked
fire_kind OutKinds.Failed asked = false

pub fire_by_kind : (o : out.Output) → may_fire o ≡ fire_kind (out_kind_of o) (has_asked o)
fire_by_kind (out.Output.Ok w) = refl
fire_by_kind _ = refl

none_by_length : (prios : List ℕ) → is_none prios ≡ (length prios == 0)
none_by_length [] = refl
none_by_length (prio ∷ prios) = grind arith

abbrev pub done_kind : OutKind → ℕ → Bool
done_kind OutKinds.Ok count = count == 0
done_kind OutKinds.RetryStopped count = false
done_kind OutKinds.ErrorStopped count = false
done_kind OutKinds.Failed count = false

pub done_by_kind : (o : out.Output) → is_done o ≡ done_kind (out_kind_of o) (length (prios_of o))
done_by_kind (out.Output.Ok w) = none_by_length w.prios
done_by_kind _ = refl

abbrev pub ok_kind : InKind → Bool
ok_kind InKinds.Ok = true
ok_kind InKinds.RetryStopped = false
ok_kind InKinds.ErrorStopped = false

pub ok_by_kind : (i : in_half.Input) → is_ok i ≡ ok_kind (in_kind_of i)
ok_by_kind (in_half.InputOk e) = refl
ok_by_kind _ = refl
