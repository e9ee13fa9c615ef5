-- What is done one behind the other, by the lines of each and for which a fabric stands then.
use Rattle.std.proofs.Common.{◌≡◌, true, List, [], ◌∷◌, ◌++◌, Option, Some, None, Result, Ok, Err, IfOk, IsErrAnd, refl, sym, ap, ◌∙◌, subst, append-nil, append_assoc}
use Rattle.trace_lines.specs.Writing.{Adds}
use Rattle.trace_lines.specs.declared.writer.TraceWriter.{TraceWriter}
use Rattle.trace_lines.specs.AddsLaws.{Adds-nil, Adds-then}
use Rattle.fabric_trace.specs.Fold.{seen}
use Rattle.fabric_trace.specs.Known.{UndetectedAt, Seen}
use Rattle.trace_lines.specs.Lines.{TraceLine}
use Rattle.fabric_trace.specs.Parts.{Made}
use Rattle.fabric_trace.specs.Rounds.{Follows, NamesNothing, Joined}
use Rattle.fabric_trace.proofs.Parts.Folding.{seen-append}
use Rattle.fabric_ports.specs.Ran.{Kind, AddsFront, WritesTo, RanBehind, Ran}
use Rattle.fabric_ports.specs.Standing.{Stands}
use Rattle.fabric_ports.specs.declared.answers.FabricEnd.{FabricEnd}
use Rattle.fabric_ports.specs.declared.answers.FabricEnd.TheVariants.{Undetected, Failed, NoMemory}
use Rattle.fabric_ports.specs.declared.fabric.Fabric.{Fabric}

-- ---- kinds of lines

-- lines of one kind, and of another behind them while every event that was acted on was sent
abbrev pub Both : Kind → Kind → Kind
Both P Q s lines = Joined (P s) Q s lines

-- no lines
abbrev pub Nothing : Kind
Nothing s lines = lines ≡ []

follows_none : (found : Option UndetectedAt) (More : List TraceLine → Type 0)
    (rest : List TraceLine)
    → found ≡ None → More rest → Follows found More NamesNothing rest
follows_none found More rest is more =
    subst (λ (f : Option UndetectedAt). Follows f More NamesNothing rest) (sym is) more

follows_nothing : (found : Option UndetectedAt) → Follows found (λ rest. rest ≡ []) NamesNothing []
follows_nothing None = refl
follows_nothing (Some found) = refl

pub joined_both : (P Q : Kind) (s : Seen) (first second : List TraceLine) → P s first
    → (seen s first).undetected ≡ None → Q (seen s first) second → Both P Q s (first ++ second)
joined_both P Q s first second own still more = (
  first,
  second,
  refl,
  own,
  follows_none (seen s first).undetected (Q (seen s first)) second still more,
)

-- what is behind may be replaced while nothing was found
follows_as : (found : Option UndetectedAt) (More Other : List TraceLine → Type 0)
    (rest : List TraceLine) → (found ≡ None → More rest → Other rest)
    → Follows found More NamesNothing rest → Follows found Other NamesNothing rest
follows_as None More Other rest turns more = turns refl more
follows_as (Some found) More Other rest turns none = none

pub both_as : (P Q R : Kind) (s : Seen) (lines : List TraceLine)
    → ((t : Seen) (rest : List TraceLine) → t.undetected ≡ None → Q t rest → R t rest)
    → Both P Q s lines → Both P R s lines
both_as P Q R s lines turns both =
    let t = seen s both.0 in (
      both.0,
      both.1,
      both.2,
      both.3,
      follows_as t.undetected (Q t) (R t) both.1 (turns t both.1)
          both.4,
    )

-- nothing behind
pub both_nothing : (P : Kind) (s : Seen) (lines : List TraceLine) → P s lines
    → Both P Nothing s lines
both_nothing P s lines own =
    (lines, [], sym (append-nil lines), own, follows_nothing (seen s lines).undetected)

-- nothing before
pub nothing_both : (Q : Kind) (s : Seen) (lines : List TraceLine) → s.undetected ≡ None
    → Both Nothing Q s lines → Q s lines
nothing_both Q s lines still both =
    let first = both.3 in
    let rest =
    subst (λ (l : List TraceLine). Follows (seen s l).undetected (Q (seen s l)) NamesNothing
    both.1) first both.4 in
    let own = subst (λ (f : Option UndetectedAt). Follows f (Q s) NamesNothing both.1) still rest in
    subst (Q s) (sym (both.2 ∙ ap (λ (l : List TraceLine). l ++ both.1) first)) own

assoc_behind : (Q R : Kind) (t : Seen) (found : Option UndetectedAt) (second rest : List TraceLine)
    → t.undetected ≡ found → Follows found (Q t) NamesNothing second
    → Follows (seen t second).undetected (R (seen t second)) NamesNothing rest
    → Follows found (Both Q R t) NamesNothing (second ++ rest)
assoc_behind Q R t None second rest is own more = (second, rest, refl, own, more)
assoc_behind Q R t (Some found) second rest is none more =
    let behind =
    subst (λ (l : List TraceLine). Follows (seen t l).undetected (R (seen t l)) NamesNothing
    rest) none more in
    let empty : rest ≡ [] =
    subst (λ (f : Option UndetectedAt). Follows f (R t) NamesNothing rest) is behind in
    (λ i. none i ++ empty i)

pub both_assoc : (P Q R : Kind) (s : Seen) (lines : List TraceLine) → Both (Both P Q) R s lines
    → Both P (Both Q R) s lines
both_assoc P Q R s lines both =
    let inner = both.3 in
    let first = inner.0 in
    let second = inner.1 in
    let t = seen s first in
    let joined : seen s both.0 ≡ seen t second =
    ap (seen s) inner.2 ∙ seen-append s first second in (
      first,
      second ++ both.1,
      both.2 ∙ ap (λ (l : List TraceLine). l ++ both.1) inner.2 ∙ append_assoc first second both.1,
      inner.3,
      assoc_behind Q R t t.undetected second both.1 refl inner.4
          (subst (λ (u : Seen). Follows u.undetected (R u) NamesNothing both.1) joined both.4),
    )

-- ---- what may stand behind lines

-- behind any lines for which a fabric may stand, there are lines of the kind
abbrev pub GoesOn : Seen → Kind → Type 0
GoesOn from Q = (lines : List TraceLine) → Made from lines
    → (seen from lines).undetected ≡ None
    → (block : List TraceLine) × Q (seen from lines) block

-- lines of the kind behind those are made of parts
abbrev pub IsMade : Seen → Kind → Type 0
IsMade from P = (lines block : List TraceLine) → Made from lines
    → (seen from lines).undetected ≡ None → P (seen from lines) block
    → Made from (lines ++ block)

more_exists : (Q : Kind) (from : Seen) (lines block : List TraceLine) (found : Option UndetectedAt)
    → GoesOn from Q → Made from (lines ++ block)
    → (seen (seen from lines) block).undetected ≡ found
    → (rest : List TraceLine)
    × Follows found (Q (seen (seen from lines) block)) NamesNothing rest
more_exists Q from lines block None on made is =
    let joined = seen-append from lines block in
    let more = on (lines ++ block) made (ap (λ (s : Seen). s.undetected) joined ∙ is) in
    (more.0, subst (λ (s : Seen). Q s more.0) joined more.1)
more_exists Q from lines block (Some found) on made is = ([], refl)

-- what was told of the first, and behind it what may be told
both_on : (P Q : Kind) {from : Seen} {lines : List TraceLine} (block : List TraceLine)
    {old : Fabric}
    → IsMade from P → GoesOn from Q → Stands from lines old → P (seen from lines) block
    → (more : List TraceLine) × Both P Q (seen from lines) (block ++ more)
both_on P Q {from = from} {lines = lines} block made on stands is =
    let more = more_exists Q from lines block (seen (seen from lines) block).undetected on
    (made lines block stands.made stands.sent is) refl in
    (more.0, (block, more.0, refl, is, more.1))

-- ---- what an answer says

pub if_ok : {T : Type 0} {P Q : T → Type 0} (r : Result T FabricEnd) → ((x : T) → P x → Q x)
    → IfOk r P → IfOk r Q
if_ok (Ok x) turns own = turns x own
if_ok (Err end) turns own = own

-- a call ended as the one in it
pub err_is : {T : Type 0} (r : Result T FabricEnd) (end : FabricEnd)
    → IsErrAnd r (λ y. y ≡ end) → r ≡ Err end
err_is (Ok x) end gives = absurd gives
err_is (Err y) end gives = ap Err gives

-- ---- what was written

module _ {K : Type 0} where
  -- a front of lines is one of those with more behind
  pub front_on : {a b : TraceWriter K} {lines : List TraceLine} (more : List TraceLine)
      → AddsFront a b lines
      → AddsFront a b (lines ++ more)
  front_on more own = record {
    front = own.front;
    rest = own.rest ++ more;
    adds = own.adds;
    whole = ap (λ (l : List TraceLine). l ++ more) own.whole
        ∙ append_assoc own.front own.rest more;
  }

  -- and whole lines are a front of themselves
  pub front_whole : {a b : TraceWriter K} {lines : List TraceLine} → Adds a b lines
      → AddsFront a b lines
  front_whole {lines = lines} told =
      record { front = lines; rest = []; adds = told; whole = sym (append-nil lines) }

  front_behind : {a b c : TraceWriter K} {first lines : List TraceLine} → Adds a b first
      → AddsFront b c lines
      → AddsFront a c (first ++ lines)
  front_behind {first = first} told own = record {
    front = first ++ own.front;
    rest = own.rest;
    adds = Adds-then told own.adds;
    whole = ap (λ (l : List TraceLine). first ++ l) own.whole
        ∙ sym (append_assoc first own.front own.rest);
  }

  -- how a call ended, by the lines that were told before it with its own
  writes_behind : {a b : TraceWriter K} (c : TraceWriter K) (from : Seen) (lines : List TraceLine)
      {first : List TraceLine} (told : List TraceLine)
      (end : Result Fabric FabricEnd) → Adds a b first
      → WritesTo b c from (lines ++ first) told end
      → WritesTo a c from lines (first ++ told) end
  writes_behind c from lines {first = first} told (Ok fabric) before own = (
    Adds-then before own.0,
    subst (λ (l : List TraceLine). Stands from l fabric) (append_assoc lines first told) own.1,
  )
  writes_behind c from lines {first = first} told (Err (Undetected port event)) before own = (
    Adds-then before own.0,
    ap (λ (l : List TraceLine). (seen from l).undetected) (sym (append_assoc lines first told))
        ∙ own.1,
  )
  writes_behind c from lines told (Err Failed) before own =
      (front_behind before own.0, own.1)
  writes_behind c from lines told (Err NoMemory) before own =
      front_behind before own

  pub ran_nothing : (out : TraceWriter K) {from : Seen} {lines : List TraceLine} {fabric : Fabric}
      → Stands from lines fabric → Ran Nothing out out from lines (Ok fabric)
  ran_nothing out {from = from} {lines = lines} {fabric = fabric} stands = record {
    block = [];
    is = refl;
    ends = (
      Adds-nil out,
      subst (λ (l : List TraceLine). Stands from l fabric) (sym (append-nil lines)) stands,
    );
  }

  -- one behind the other
  pub ran_joined : {P Q R : Kind} {a b c : TraceWriter K} {from : Seen} {lines : List TraceLine}
      {mid : Fabric} {end : Result Fabric FabricEnd}
      → ((first second : List TraceLine) → P (seen from lines) first
      → (seen (seen from lines) first).undetected ≡ None
      → Q (seen (seen from lines) first) second
      → R (seen from lines) (first ++ second))
      → (first : Ran P a b from lines (Ok mid))
      → Ran Q b c from (lines ++ first.block) end
      → Ran R a c from lines end
  ran_joined {Q = Q} {c = c} {from = from} {lines = lines} {end = end} join first second =
      let joined = seen-append from lines first.block in
      record {
        block = first.block ++ second.block;
        is = join first.block second.block first.is
            (sym (ap (λ (t : Seen). t.undetected) joined) ∙ first.ends.1.sent)
            (subst (λ (t : Seen). Q t second.block) joined second.is);
        ends = writes_behind c from lines second.block end first.ends.0 second.ends;
      }

  pub ran_both : {P Q : Kind} {a b c : TraceWriter K} {from : Seen} {lines : List TraceLine}
      {mid : Fabric} {end : Result Fabric FabricEnd}
      → (first : Ran P a b from lines (Ok mid))
      → Ran Q b c from (lines ++ first.block) end
      → Ran (Both P Q) a c from lines end
  ran_both {P = P} {Q = Q} {from = from} {lines = lines} first second =
      ran_joined (joined_both P Q (seen from lines)) first second

  -- what is known before the lines may say that they are of another kind
  pub ran_as : {P Q : Kind} {a b : TraceWriter K} {from : Seen} {lines : List TraceLine}
      {end : Result Fabric FabricEnd}
      → ((block : List TraceLine) → P (seen from lines) block
      → Q (seen from lines) block)
      → Ran P a b from lines end
      → Ran Q a b from lines end
  ran_as turns ran =
      record { block = ran.block; is = turns ran.block ran.is; ends = ran.ends }

  -- it was told whole, but a write failed
  pub failed_behind : {Is : Kind} {a b : TraceWriter K} {from : Seen} {lines : List TraceLine}
      {fabric : Fabric} → b.outbox.now.failed ≡ true → Ran Is a b from lines (Ok fabric)
      → Ran Is a b from lines (Err Failed)
  failed_behind failed ran = record {
    block = ran.block;
    is = ran.is;
    ends = (front_whole ran.ends.0, failed);
  }

  -- a line was told before the call
  pub ran_behind : {P Q : Kind} (line : TraceLine) {a b c : TraceWriter K} {from : Seen}
      (lines : List TraceLine) {end : Result Fabric FabricEnd}
      → ((block : List TraceLine) → P (seen from (lines ++ line ∷ [])) block
      → Q (seen from lines) block) → Adds a b (line ∷ [])
      → Ran P b c from (lines ++ line ∷ []) end
      → RanBehind (line ∷ []) Q a c from lines end
  ran_behind line {c = c} {from = from} lines {end = end} turns told ran = record {
    block = ran.block;
    is = turns ran.block ran.is;
    ends = writes_behind c from lines ran.block end told ran.ends;
  }

  -- It ended in the first: nothing stands behind an event that was not sent, and else what would.
  pub ends_first : {P : Kind} (Q : Kind) {a b : TraceWriter K} {from : Seen}
      {lines : List TraceLine}
      {old : Fabric} (end : FabricEnd) → IsMade from P → GoesOn from Q → Stands from lines old
      → Ran P a b from lines (Err end)
      → Ran (Both P Q) a b from lines (Err end)
  ends_first Q {from = from} {lines = lines} (Undetected port event) made on stands ran =
      let joined = seen-append from lines ran.block in
      let found = sym (ap (λ (t : Seen). t.undetected) joined) ∙ ran.ends.1 in
      record {
        block = ran.block;
        is = (
          ran.block,
          [],
          sym (append-nil ran.block),
          ran.is,
          subst (λ (f : Option UndetectedAt). Follows f (Q (seen (seen from lines) ran.block))
              NamesNothing []) (sym found) refl,
        );
        ends = ran.ends;
      }
  ends_first {P = P} Q {from = from} {lines = lines} {old = old} Failed made on stands ran =
      let both = both_on P Q ran.block made on stands ran.is in
      record {
        block = ran.block ++ both.0;
        is = both.1;
        ends = (front_on both.0 ran.ends.0, ran.ends.1);
      }
  ends_first {P = P} Q {from = from} {lines = lines} {old = old} NoMemory made on stands ran =
      let both = both_on P Q ran.block made on stands ran.is in
      record {
        block = ran.block ++ both.0;
        is = both.1;
        ends = front_on both.0 ran.ends;
      }
