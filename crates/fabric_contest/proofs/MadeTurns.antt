-- A turn that was made over the links of a fabric.
use Rattle.std.proofs.Common.{◌≡◌, ℕ, Result, Ok, Err, OnOk, arith, inl, inr, subst, ◌∙◌}
use Rattle.rio_chars.specs.Faults.{Rose}
use Rattle.link_model.specs.declared.event.Event.{Event}
use Rattle.fabric_script.specs.declared.ports.PortRef.{PortRef}
use Rattle.host_enumerate.specs.Causes.{IsCaused}
use Rattle.host_enumerate.specs.declared.maint.MaintEnd.{MaintEnd}
use Rattle.fabric_script.specs.declared.lines.Script.{Script}
use Rattle.fabric_maint.specs.Going.{StandsFor, StandsWhole, MaintIsSame}
use Rattle.fabric_maint.specs.declared.maint.FabricMaint.{FabricMaint}

pub stands_over : {N K : Type 0} (maint after : FabricMaint N K) (script : Script) (host : ℕ)
    → MaintIsSame maint after → maint.script.now ≡ script → maint.host ≡ host → StandsWhole after
    → StandsFor script.names.items script.lines.items host after.fabric.now
stands_over maint after script host same is_script is_host whole =
    subst (λ (s : Script). StandsFor s.names.items s.lines.items host after.fabric.now)
    (same.script ∙ is_script)
    (subst (λ h. StandsFor after.script.now.names.items after.script.now.lines.items h
    after.fabric.now) (same.host ∙ is_host) whole)

-- what follows of three facts of an answer that is not an error, and of six
pub on_three_ok : {T E P Q R Z : Type 0} (r : Result T E) → (P → Q → R → Z) → OnOk r P → OnOk r Q
    → OnOk r R → OnOk r Z
on_three_ok (Ok value) f p q r = f p q r
on_three_ok (Err end) f p q r = p

pub on_six_ok : {T E P Q R S U V Z : Type 0} (r : Result T E)
    → (P → Q → R → S → U → V → Z) → OnOk r P → OnOk r Q → OnOk r R → OnOk r S → OnOk r U
    → OnOk r V → OnOk r Z
on_six_ok (Ok value) f p q r s u v = f p q r s u v
on_six_ok (Err end) f p q r s u v = p

-- the cause of an end that is this one
pub caused_by : (undetected faults : ℕ × ℕ) (met : PortRef → Event → Type 0) (end is : MaintEnd)
    → end ≡ is → IsCaused undetected faults met end → IsCaused undetected faults met is
caused_by undetected faults met end is same cause =
    subst (IsCaused undetected faults met) same cause

-- a count that stands at 0 has not risen
pub none_rose : Rose 0 0 → ⊥
none_rose (inl less) = omega (arith, less)
none_rose (inr most) = omega (arith, most)
