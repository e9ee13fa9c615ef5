-- The window, and what it lets a turn start.
use Rattle.std.proofs.Common.{◌≡◌, ℕ, ◌<◌, ◌≤◌, Bool, cond, length, Option, Some, None, if◌then◌else◌, true, false, ap, refl, le-ltb, lt-ltb, lit≤}
use Rattle.link_model.specs.Outstanding.{Outstanding}
use Rattle.link_model.specs.Window.{window}
use Rattle.link_model.specs.Output.{startable, credited}

-- fewer than the ackIDs are outstanding, so that the next ackID is none of theirs
pub window_few : window ≤ 31
unfolding window
window_few = lit≤ tt

-- the constant of the code
pub window_is : window ≡ 31
unfolding window
window_is = refl

pub startable-full : (w : Outstanding) (waiting : Option ℕ) → window ≤ length w.prios
    → startable w waiting ≡ None
startable-full w waiting full =
    ap (λ (b : Bool). cond b (credited w waiting) None) (le-ltb (length w.prios) window full)

pub startable-open : (w : Outstanding) (waiting : Option ℕ) → length w.prios < window
    → startable w waiting ≡ credited w waiting
startable-open w waiting few =
    ap (λ (b : Bool). cond b (credited w waiting) None) (lt-ltb (length w.prios) window few)

-- ---- what may start waits

if_some : (test : Bool) (waiting : Option ℕ) (prio : ℕ)
    → (if test then waiting else None) ≡ Some prio → waiting ≡ Some prio
if_some true waiting prio is = is
if_some false waiting prio is = absurd cc

pub credited_some : (w : Outstanding) (waiting : Option ℕ) (prio : ℕ)
    → credited w waiting ≡ Some prio → waiting ≡ Some prio
credited_some w None prio is = is
credited_some w (Some first) prio is = if_some _ (Some first) prio is

pub startable_some : (w : Outstanding) (waiting : Option ℕ) (prio : ℕ)
    → startable w waiting ≡ Some prio → waiting ≡ Some prio
startable_some w waiting prio is =
    credited_some w waiting prio (if_some _ (credited w waiting) prio is)
