-- What an outbox is told, call by call.
use Rattle.std.proofs.Common.{◌≡◌, ◌≢◌, ◌≤◌, ℕ, Option, None, Some, List, [], ◌++◌, Bool, true, false, refl, sym, ap, ◌∙◌, subst, append-nil, append_assoc, inl, inr, arith}
use Rattle.std.specs.Io.KnownBytes.{Appends, Keeps}
use Rattle.std.proofs.KnownBytes.{Appends-nil, Appends-trans, Appends-kept, Keeps-refl, Keeps-trans}
use Rattle.rio_chars.specs.Faults.{Rose, FailedBy}
use Rattle.rio_chars.specs.Fronts.{AppendsFront}
use Rattle.rio_chars.proofs.FaultLaws.{FailedBy-trans}
use Rattle.rio_chars.specs.Unless.{WritesUnless}
use Rattle.rio_chars.specs.Written.{Outgoing, TextTold, TellsMore, Writes}

-- ---- what was told

-- where no write failed and nothing waits, all the text was written
pub Told-end : (start written : Option (List ℕ)) (waiting : List ℕ) (failed : Bool) (text : List ℕ)
    → TextTold start written waiting failed text
    → failed ≡ false → waiting ≡ [] → Appends start written text
Told-end start written waiting failed text told fine none =
    subst (Appends start written)
    (sym (told.whole ∙ ap (λ l. told.front ++ l) (told.waits fine ∙ none) ∙ append-nil told.front))
    told.told

-- whatever failed, a front of the text was written
pub Told-front : (start written : Option (List ℕ)) (waiting : List ℕ) (failed : Bool)
    (text : List ℕ) → TextTold start written waiting failed text → AppendsFront start written text
Told-front start written waiting failed text told = record {
  front = told.front;
  rest = told.rest;
  whole = told.whole;
  told = told.told;
}

-- other bytes wait
abbrev pub with_waiting : Outgoing → List ℕ → Outgoing
with_waiting out waiting = record {
  sink = out.sink;
  written = out.written;
  faults = out.faults;
  waiting = waiting;
  failed = out.failed;
}

-- bytes wait behind those that wait
Tells-kept : (out : Outgoing) (bytes : List ℕ)
    → TellsMore out (with_waiting out (out.waiting ++ bytes)) bytes
Tells-kept out bytes start text told = record {
  front = told.front;
  rest = told.rest ++ bytes;
  whole = ap (λ l. l ++ bytes) told.whole ∙ append_assoc told.front told.rest bytes;
  told = told.told;
  waits = λ fine. ap (λ l. l ++ bytes) (told.waits fine);
}

-- of a sink that tells nothing, whatever bytes may have been told
Tells-unseen : (start : Option (List ℕ)) (failed : Bool) (text bytes : List ℕ)
    → TextTold start None [] failed text → TextTold start None [] failed (text ++ bytes)
Tells-unseen None failed text bytes told = record {
  front = text ++ bytes;
  rest = [];
  whole = sym (append-nil (text ++ bytes));
  told = tt;
  waits = λ fine. refl;
}
Tells-unseen (Some x) failed text bytes told = absurd told.told

-- what waited was written, and more bytes behind it, and nothing waits any more
Tells-wrote : (a : Option (List ℕ)) (i : ℕ) (waiting : List ℕ) (failed : Bool) (b : Option (List ℕ))
    (j : ℕ) (failed_after : Bool) (bytes all : List ℕ) → waiting ++ bytes ≡ all
    → WritesUnless failed a i failed_after b j all
    → (start : Option (List ℕ)) (text : List ℕ) → TextTold start a waiting failed text
    → TextTold start b [] failed_after (text ++ bytes)
Tells-wrote a i waiting true b j true bytes all e wrote start text told = record {
  front = told.front;
  rest = told.rest ++ bytes;
  whole = ap (λ l. l ++ bytes) told.whole ∙ append_assoc told.front told.rest bytes;
  told = Appends-kept start a b told.front told.told wrote.0;
  waits = λ fine. cc;
}
Tells-wrote a i waiting true b j false bytes all e wrote start text told = absurd wrote
Tells-wrote a i waiting false b j true bytes all e wrote start text told = record {
  front = told.front ++ wrote.0.front;
  rest = wrote.0.rest;
  whole = ap (λ l. l ++ bytes) told.whole ∙ append_assoc told.front told.rest bytes
      ∙ ap (λ l. told.front ++ l) (ap (λ l. l ++ bytes) (told.waits refl) ∙ e ∙ wrote.0.whole)
      ∙ sym (append_assoc told.front wrote.0.front wrote.0.rest);
  told = Appends-trans start a b told.front wrote.0.front told.told wrote.0.told;
  waits = λ fine. cc;
}
Tells-wrote a i waiting false b j false bytes all e wrote start text told = record {
  front = told.front ++ all;
  rest = [];
  whole = ap (λ l. l ++ bytes) told.whole ∙ append_assoc told.front told.rest bytes
      ∙ ap (λ l. told.front ++ l) (ap (λ l. l ++ bytes) (told.waits refl) ∙ e)
      ∙ sym (append-nil (told.front ++ all));
  told = Appends-trans start a b told.front all told.told wrote.0;
  waits = λ fine. refl;
}

-- ---- what the flags and the counts say

cause_of : (failed : Bool) (a : Option (List ℕ)) (i : ℕ) (failed_after : Bool) (b : Option (List ℕ))
    (j : ℕ) (all : List ℕ) → WritesUnless failed a i failed_after b j all
    → FailedBy failed i failed_after j
cause_of true a i failed_after b j all wrote is = inl refl
cause_of false a i true b j all wrote is = inr wrote.1
cause_of false a i false b j all wrote is = cc

counts_of : (failed : Bool) (a : Option (List ℕ)) (i : ℕ) (failed_after : Bool)
    (b : Option (List ℕ)) (j : ℕ) (all : List ℕ) → WritesUnless failed a i failed_after b j all
    → failed_after ≡ false → j ≡ i
counts_of true a i true b j all wrote is = wrote.1
counts_of true a i false b j all wrote is = absurd wrote
counts_of false a i true b j all wrote is = cc
counts_of false a i false b j all wrote is = wrote.1

stays_of : (failed : Bool) (a : Option (List ℕ)) (i : ℕ) (failed_after : Bool) (b : Option (List ℕ))
    (j : ℕ) (all : List ℕ) → WritesUnless failed a i failed_after b j all
    → failed ≡ true → (failed_after ≡ true) × Keeps a b × (j ≡ i)
stays_of true a i true b j all wrote is = (refl, wrote.0, wrote.1)
stays_of true a i false b j all wrote is = absurd wrote
stays_of false a i failed_after b j all wrote is = cc

never_falls_of : (failed : Bool) (a : Option (List ℕ)) (i : ℕ) (failed_after : Bool)
    (b : Option (List ℕ)) (j : ℕ) (all : List ℕ) → WritesUnless failed a i failed_after b j all
    → i ≤ j
never_falls_of true a i true b j all wrote = omega (arith, wrote.1)
never_falls_of true a i false b j all wrote = absurd wrote
never_falls_of false a i true b j all wrote = wrote.2
never_falls_of false a i false b j all wrote = omega (arith, wrote.1)

never_true : (b : Bool) → b ≡ false → b ≢ true
never_true true is = cc
never_true false is = λ other. cc

-- a flag that never goes down again is down before if it is after
down_before : (before after : Bool) → (before ≡ true → after ≡ true) → after ≡ false
    → before ≡ false
down_before true after up down = cc (up refl)
down_before false after up down = refl

-- ---- what calls write

-- nothing was told
pub Writes-nil : (out : Outgoing) → Writes out out []
Writes-nil out = record {
  same = refl;
  told =
      λ start text told. subst (TextTold start out.written out.waiting out.failed)
      (sym (append-nil text)) told;
  cause = λ failed. inl failed;
  counts = λ fine. refl;
  never_falls = omega arith;
  stays = λ failed. (failed, Keeps-refl out.written, refl);
}

-- where nothing waits and the sink tells nothing, whatever bytes may have been told
pub Writes-unseen : (out : Outgoing) → out.written ≡ None → out.waiting ≡ [] → (bytes : List ℕ)
    → Writes out out bytes
Writes-unseen out none empty bytes = record {
  same = refl;
  told = λ start text told.
      subst (λ w. TextTold start w out.waiting out.failed (text ++ bytes)) (sym none)
      (subst (λ l. TextTold start None l out.failed (text ++ bytes)) (sym empty)
      (Tells-unseen start out.failed text bytes
      (subst (λ l. TextTold start None l out.failed text) empty
      (subst (λ w. TextTold start w out.waiting out.failed text) none told))));
  cause = λ failed. inl failed;
  counts = λ fine. refl;
  never_falls = omega arith;
  stays = λ failed. (failed, Keeps-refl out.written, refl);
}

-- bytes wait behind those that wait
pub Writes-kept : (out : Outgoing) (waiting bytes : List ℕ) → waiting ≡ out.waiting ++ bytes
    → Writes out (with_waiting out waiting) bytes
Writes-kept out waiting bytes behind = record {
  same = refl;
  told = λ start text told. rw behind (Tells-kept out bytes start text told);
  cause = λ is. inl is;
  counts = λ fine. refl;
  never_falls = omega arith;
  stays = λ is. (is, Keeps-refl out.written, refl);
}

-- what waited was written, and more bytes behind it, and nothing waits any more
pub Writes-wrote : (old new : Outgoing) (bytes all : List ℕ)
    → new.sink ≡ old.sink → new.waiting ≡ []
    → old.waiting ++ bytes ≡ all
    → WritesUnless old.failed old.written old.faults new.failed
    new.written new.faults all → Writes old new bytes
Writes-wrote old new bytes all same none e wrote = record {
  same = same;
  told =
      λ start text told. subst
      (λ l. TextTold start new.written l new.failed (text ++ bytes)) (sym none)
      (Tells-wrote old.written old.faults old.waiting old.failed
      new.written new.faults new.failed bytes all e wrote start text told);
  cause =
      cause_of old.failed old.written old.faults new.failed
      new.written new.faults all wrote;
  counts =
      counts_of old.failed old.written old.faults new.failed
      new.written new.faults all wrote;
  never_falls =
      never_falls_of old.failed old.written old.faults new.failed
      new.written new.faults all wrote;
  stays =
      stays_of old.failed old.written old.faults new.failed
      new.written new.faults all wrote;
}

-- a new outbox has been told nothing
Writes-begun : (start out : Outgoing) (text : List ℕ) → start.waiting ≡ []
    → Writes start out text
    → TextTold start.written out.written out.waiting out.failed text
Writes-begun start out text empty told = told.told start.written [] (record {
  front = [];
  rest = [];
  whole = refl;
  told = Appends-nil start.written;
  waits = λ fine. sym empty;
})

-- where no write failed and nothing waits, all was written that a new outbox was told
pub Writes-whole : (start out : Outgoing) (text : List ℕ) → start.waiting ≡ []
    → Writes start out text → out.failed ≡ false → out.waiting ≡ []
    → Appends start.written out.written text
Writes-whole start out text empty told fine none =
    Told-end start.written out.written out.waiting out.failed text
    (Writes-begun start out text empty told) fine none

-- whatever failed, a front of it was written
pub Writes-front : (start out : Outgoing) (text : List ℕ) → start.waiting ≡ []
    → Writes start out text
    → AppendsFront start.written out.written text
Writes-front start out text empty told =
    Told-front start.written out.written out.waiting out.failed text
    (Writes-begun start out text empty told)

-- a write failed only where the count of faults rose
pub Writes-rose : (start out : Outgoing) (text : List ℕ) → start.failed ≡ false
    → Writes start out text → out.failed ≡ true
    → Rose start.faults out.faults
Writes-rose start out text fine told failed =
    elim (told.cause failed) as (λ _. Rose start.faults out.faults)
    [ inl early ↦ absurd (never_true start.failed fine early) | inr rose ↦ rose ]

-- two calls, one after the other
pub Writes-then : {old mid new : Outgoing} (bytes more : List ℕ)
    → Writes old mid bytes → Writes mid new more
    → Writes old new (bytes ++ more)
Writes-then {old} {mid} {new} bytes more first second =
    let fine_before : new.failed ≡ false → mid.failed ≡ false =
    down_before mid.failed new.failed (λ is. (second.stays is).0) in
    record {
      same = second.same ∙ first.same;
      told =
          λ start text told. subst (TextTold start new.written new.waiting new.failed)
          (append_assoc text bytes more)
          (second.told start (text ++ bytes) (first.told start text told));
      cause =
          FailedBy-trans old.failed old.faults mid.failed mid.faults
          new.failed new.faults first.cause second.cause first.never_falls
          second.never_falls;
      counts = λ fine. second.counts fine ∙ first.counts (fine_before fine);
      never_falls = omega (arith, first.never_falls, second.never_falls);
      stays = λ failed.
          let once = first.stays failed in
          let twice = second.stays once.0 in (
            twice.0,
            Keeps-trans old.written mid.written new.written
                once.1 twice.1,
            twice.2
                ∙ once.2,
          );
    }
