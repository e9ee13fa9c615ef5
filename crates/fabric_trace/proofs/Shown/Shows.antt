-- All laws of a trace of a script, and of each front of one.
use Rattle.fabric_trace.proofs.Prelude.{◌++◌, inl, inr, false, List, [], None, refl, sym, subst, append-nil, Numbered, GoesAtRest, TraceLine, steps_of, nothing_got, bare, set_up_all, start, Runs, Begins, MaySetUpAll}
use Rattle.fabric_trace.specs.Shown.{Shown}
use Rattle.fabric_trace.proofs.Allowance.Allowing.{allowed_front}
use Rattle.fabric_trace.proofs.Shown.Failing.{made_works, never_front, first_front}
use Rattle.fabric_trace.proofs.Shown.Faith.{begins_kept, made_faithful}
use Rattle.fabric_trace.proofs.Parts.Fronting.{fold_front, frees_front, cut, cut_came}
use Rattle.fabric_trace.proofs.Frees.Notings.{made_noted, noted_front}
use Rattle.fabric_trace.proofs.Rest.Resting.{Rests, runs_rest, blocks_rest, settled_front}
use Rattle.fabric_trace.proofs.Rest.RunsRest.{traces_rest, fronts_rest}
use Rattle.fabric_trace.proofs.Shown.Sending.{made_owned, owned_front}
use Rattle.fabric_trace.proofs.SetUps.Starting.{set_up_bare, good_start, front_legal, lawful_steps, wires_fold, holds_came, frees_said, frees_allowed}
use Rattle.fabric_trace.proofs.Links.Ways.{made_ways, ways_front}

-- a front of lines that are made of parts, in which each event is over when the next begins
front_shown : (script : List Numbered) (front rest : List TraceLine) → MaySetUpAll bare script
    → Rests (start script) None (front ++ rest) → GoesAtRest script front → Shown script front
front_shown script front rest may whole at_rest =
    let net = set_up_all bare script in
    let is = set_up_bare script may in
    let good = good_start net is in
    let made = whole.made in
    let works = made_works good made (λ p. λ failed. cc) in
    let first = first_front front rest (start script) works.first in
    let settled = settled_front front rest (start script) None whole.settled in
    record {
      steps = lawful_steps net (steps_of front) _ is (front_legal net front rest is made);
      wires = fold_front front rest net.links (λ p. []) (wires_fold net (front ++ rest) is made);
      owned = owned_front front rest (start script) (made_owned good made);
      holds = λ q. cut_came q (start script) front (λ lines all. holds_came net lines q is all)
          (cut front rest refl made);
      frees = λ p. frees_front p nothing_got 0 front rest
          (frees_said net (front ++ rest) p is made);
      noted = λ p. noted_front p front rest false (made_noted p false made);
      allowed = λ p. allowed_front p front rest [] 0 (frees_allowed net (front ++ rest) p is made);
      faithful = made_faithful (start script) None front (begins_kept net) settled first;
      finds_first = first;
      settled = settled;
      rests = at_rest;
      never_fail = never_front front rest (start script) works.never;
      never_fail_within = ways_front front rest (start script) (made_ways good made);
    }

pub fronts_shown : (script : List Numbered) (front rest : List TraceLine) → MaySetUpAll bare script
    → Runs script (front ++ rest) → Shown script front
fronts_shown script front rest may runs =
    front_shown script front rest may
    (runs_rest script (start script) None (front ++ rest)
    (good_start (set_up_all bare script) (set_up_bare script may)) refl tt runs)
    (record { behind = rest; rests = inl (traces_rest script (front ++ rest) may runs) })

pub blocks_shown : (script : List Numbered) (front rest : List TraceLine) → MaySetUpAll bare script
    → Begins script (front ++ rest) → Shown script front
blocks_shown script front rest may begun =
    front_shown script front rest may
    (blocks_rest begun.done (start script) None (front ++ rest)
    (good_start (set_up_all bare script) (set_up_bare script may)) refl tt begun.blocks)
    (record { behind = rest; rests = inr (fronts_rest script (front ++ rest) may begun) })

pub runs_shown : (script : List Numbered) (lines : List TraceLine) → MaySetUpAll bare script
    → Runs script lines → Shown script lines
runs_shown script lines may runs =
    fronts_shown script lines [] may (subst (Runs script) (sym (append-nil lines)) runs)
