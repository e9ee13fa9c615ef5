-- A host makes an ask that has no answer.
use Rattle.std.proofs.Common.{◌≡◌, ℕ, ◌+◌, ◌-◌, ◌^◌, ◌<◌, ◌≤◌, ◌⊎◌, inl, inr, min, List, [], ◌++◌, Option, Some, IsSome, refl, sym, ap, ◌∙◌, subst, append-nil, arith}
use Rattle.std.proofs.lemmas.Bool.{cases_lt}
use Rattle.std.proofs.lemmas.Option.{same_Some}
use Rattle.std.specs.Io.KnownBytes.{Appends}
use Rattle.std.proofs.KnownBytes.{Appends-trans}
use Rattle.rio_chars.specs.Faults.{Rose}
use Rattle.maint_packets.specs.declared.request.Request.{Request}
use Rattle.link_model.specs.declared.event.Event.{Event}
use Rattle.rio_chars.specs.declared.edit.Edit.{Edit}
use Rattle.fabric_script.specs.declared.ports.PortRef.{PortRef}
use Rattle.fabric_trace.specs.Known.{Seen}
use Rattle.trace_lines.specs.Lines.{TraceLine}
use Rattle.trace_lines.specs.Text.{trace_text}
use Rattle.fabric_ask.specs.Asks.{IsAsk}
use Rattle.fabric_ask.proofs.Resting.{AnswersNothing}
use Rattle.fabric_ports.specs.declared.fabric.Fabric.{Fabric}
use Rattle.fabric_ports.specs.Asking.{CanAsk, Lost, AskedUndetected, AskedFront, AskedTextFront, AskEnds}
use Rattle.fabric_ports.specs.declared.asking.AskEnd.{AskEnd}
use Rattle.fabric_ports.specs.declared.asking.AskEnd.TheVariants.{Unanswered, Undetected, WriteFault, NoMemory}
use Rattle.host_enumerate.specs.declared.maint.Access.{Access}
use Rattle.host_enumerate.specs.declared.maint.MaintEnd.{MaintEnd}
use Rattle.host_enumerate.specs.declared.maint.MaintEnd.TheVariants as maint
use Rattle.host_enumerate.specs.Causes.{IsCaused}
use Rattle.host_enumerate.specs.Accesses.{access_offset, IsAnswered}
use Rattle.fabric_maint.specs.AskEnds.{count_after, end_for}
use Rattle.fabric_maint.specs.Going.{names_of, topology_in, registers_in, MaintRestsAt, StandsWhole, Went, Followed, FrontTold, WentFront, FollowedFront, HasMet}
use Rattle.fabric_maint.specs.Requests.{request_for}
use Rattle.fabric_maint.specs.declared.maint.FabricMaint.{FabricMaint}
use Rattle.fabric_maint.proofs.Asking.{good_request, ask_of, trip_at, moved}
use Rattle.fabric_maint.proofs.Leading.{ask_lines, made_more}
use Rattle.fabric_maint.proofs.Told.{text_more}

-- A front of the text of an ask was told.
pub record ToldAskFront (names : List (List ℕ)) (before after : Option (List ℕ)) (host : ℕ)
    (request : Request) (noise : List Edit) (t : Seen) : Type 0 where
  pub block : List TraceLine
  pub bytes : List ℕ
  pub rest : List ℕ
  pub is : IsAsk host request noise t block
  pub told : Appends before after bytes
  pub whole : trace_text names block ≡ bytes ++ rest

module _ {names : List (List ℕ)} {before after : Option (List ℕ)} {host : ℕ} {request : Request}
    {noise : List Edit} {t : Seen} where
  pub of_undetected : {port : PortRef} {event : Event}
      → AskedUndetected names before after host request noise t [] port event
      → ToldAskFront names before after host request noise t
  of_undetected exposed = record {
    block = exposed.block;
    bytes = trace_text names exposed.block;
    rest = [];
    is = exposed.is;
    told = exposed.told;
    whole = sym (append-nil (trace_text names exposed.block));
  }

  pub of_front : AskedFront names before after host request noise t []
      → ToldAskFront names before after host request noise t
  of_front told_front = record {
    block = told_front.block;
    bytes = trace_text names told_front.front;
    rest = trace_text names told_front.rest;
    is = told_front.is;
    told = told_front.told;
    whole = ap (trace_text names) told_front.whole
        ∙ sym (text_more names told_front.front told_front.rest);
  }

  pub of_text_front : AskedTextFront names before after host request noise t []
      → ToldAskFront names before after host request noise t
  of_text_front told_text_front = record {
    block = told_text_front.block;
    bytes = told_text_front.told.front;
    rest = told_text_front.told.rest;
    is = told_text_front.is;
    told = told_text_front.told.told;
    whole = told_text_front.told.whole;
  }

-- each end is for one of these reasons, unless no response came
pub of_end : (names : List (List ℕ)) (before after : Option (List ℕ)) (host : ℕ)
    (request : Request) (noise : List Edit) (t : Seen) (end : AskEnd) → IsSome (end_for end)
    → AskEnds names before after host request noise t [] end
    → ToldAskFront names before after host request noise t
of_end names before after host request noise t Unanswered some lost = absurd cc
of_end names before after host request noise t (Undetected port event) some exposed =
    of_undetected exposed
of_end names before after host request noise t WriteFault some told_text_front =
    of_text_front told_text_front
of_end names before after host request noise t NoMemory some told_front = of_front told_front

-- a count that goes up, or stands at its greatest
rose : (before after : ℕ) → after ≡ min (before + 1) (2 ^ 64 - 1) → Rose before after
rose before after is = go (cases_lt before 18446744073709551615)
  where
    go : (before < 18446744073709551615) ⊎ (18446744073709551615 ≤ before) → Rose before after
    go (inl less) = inl (omega (arith, is, less))
    go (inr most) = inr (omega (arith, is, most))

module _ {N K : Type 0} (edits : N → List Edit) (written : K → Option (List ℕ))
    (old : FabricMaint N K) (whole : StandsWhole old) (fabric : Fabric) (noise : N) (sink : K)
    (undetected dest hops : ℕ) (access : Access)
    (low : access_offset access < 2 ^ 24) (short : hops < 256) (at : PortRef)
    (is : IsAnswered (topology_in old) (registers_in old) dest hops access at) (asked : Request)
    (id : ℕ) (id_is : id ≡ (registers_in old old.host).base_id)
    (asks : asked ≡ request_for id old.tid dest hops access)
    (names : List (List ℕ)) (named : names ≡ names_of old) (end : AskEnd)
    (ended : (t : Seen) (lines : List TraceLine) → CanAsk old.host t lines old.fabric.now
    → AskEnds names (written old.sink.now) (written sink) old.host asked (edits old.noise.now) t
    lines end)
  where
    request_is : asked ≡ request_for (registers_in old old.host).base_id old.tid dest hops access
    request_is = asks ∙ ap (λ (i : ℕ). request_for i old.tid dest hops access) id_is

    ends : (t : Seen) → CanAsk old.host t [] old.fabric.now → AskEnds (names_of old)
        (written old.sink.now) (written sink) old.host asked (edits old.noise.now) t [] end
    ends t can = subst (λ (ns : List (List ℕ)). AskEnds ns (written old.sink.now) (written sink)
        old.host asked (edits old.noise.now) t [] end) named (ended t [] can)

    abbrev request : Request
    request = request_for (registers_in old old.host).base_id old.tid dest hops access

    -- it may not be that no response comes
    never_lost : Lost (names_of old) (written old.sink.now) (written sink) old.host asked
        (edits old.noise.now) whole.s [] → ⊥
    never_lost lost =
        let gone = subst (λ (r : Request). Lost (names_of old) (written old.sink.now)
        (written sink) old.host r (edits old.noise.now) whole.s []) request_is lost in
        gone.lost at (trip_at old whole dest hops access at is whole.s whole.rests.can)

    -- so it ends for another reason
    other_end : (other : AskEnd) → AskEnds (names_of old) (written old.sink.now) (written sink)
        old.host asked (edits old.noise.now) whole.s [] other → IsSome (end_for other)
    other_end Unanswered lost = absurd (never_lost lost)
    other_end (Undetected port event) exposed = refl
    other_end WriteFault told_text_front = refl
    other_end NoMemory told_front = refl

    pub some_end : IsSome (end_for end)
    some_end = other_end end (ends whole.s whole.rests.can)

    part : (t : Seen) → CanAsk old.host t [] old.fabric.now → ToldAskFront (names_of old)
        (written old.sink.now) (written sink) old.host asked (edits old.noise.now) t
    part t can = of_end (names_of old) (written old.sink.now) (written sink) old.host asked
        (edits old.noise.now) t end some_end (ends t can)

    -- whatever came of the lines, they may stand where they do
    lines_at : (given : List Edit) (t : Seen) (block : List TraceLine)
        → CanAsk old.host t [] old.fabric.now → IsAsk old.host asked given t block
        → AnswersNothing old.host t block
    lines_at given t block can ask =
        ask_lines old.host request given at t block old.fabric.now can short few
        (good_request (registers_in old old.host).base_id old.tid dest hops access)
        (trip_at old whole dest hops access at is t can)
        (subst (λ (r : Request). IsAsk old.host r given t block) request_is ask)
      where
        few : 0 < 4
        few = omega arith

    leaves_off : (s : Seen) (origin : FabricMaint N K)
        → MaintRestsAt origin.host s origin.fabric.now → Went edits written s origin old
        → WentFront edits written s origin (moved old fabric noise sink undetected)
    leaves_off s origin rests went =
        let own = part went.end went.rests.can in
        let own_lines = lines_at (edits old.noise.now) went.end own.block went.rests.can own.is in
        record {
          lines = went.lines;
          end = went.end;
          tid = old.tid;
          noise = old.noise.now;
          asked = went.asked;
          leads = went.leads;
          bytes = own.bytes;
          told = Appends-trans (written origin.sink.now) (written old.sink.now)
              (written sink) (trace_text (names_of old) went.lines) own.bytes went.told
              own.told;
          begun = FrontTold asked own.block own.rest
              (ask_of old whole dest hops access (edits old.noise.now) went.end own.block asked
              request_is low went.rests.can own.is)
              (made_more old.host s went.end went.lines own.block rests.can.stands.ready went.leads
              own_lines.never own_lines.made) own.whole;
        }

    -- whoever has followed so far leaves off here
    pub abandons_at : (faults : K → ℕ) (origin : FabricMaint N K)
        → faults old.sink.now ≤ faults sink
        → Followed edits written faults origin old
        → FollowedFront edits written faults origin (moved old fabric noise sink undetected)
    abandons_at faults origin more followed = record {
      never_falls = let before = followed.never_falls in omega (arith, before, more);
      same = record {
        script = followed.same.script;
        host = followed.same.host;
        fabric = followed.same.fabric;
        noise = followed.same.noise;
        sink = followed.same.sink;
      };
      left = λ s rests. leaves_off s origin rests (followed.went s rests);
    }

    pub meets : (port : PortRef) (event : Event)
        → AskedUndetected (names_of old) (written old.sink.now) (written sink) old.host asked
        (edits old.noise.now) whole.s [] port event
        → HasMet edits written (moved old fabric noise sink undetected) port event
    meets port event exposed = record {
      s = whole.s;
      tid = old.tid;
      request = asked;
      block = exposed.block;
      ready = whole.rests.can.stands.ready;
      sent = whole.rests.can.stands.sent;
      quiet = whole.rests.quiet;
      noise = old.noise.now;
      is = ask_of old whole dest hops access (edits old.noise.now) whole.s exposed.block asked
          request_is low whole.rests.can exposed.is;
      found = exposed.found;
      before = written old.sink.now;
      told = exposed.told;
    }

    -- no count changes but that of its cause
    caused : (faults : K → ℕ) (other : AskEnd) (given : MaintEnd) → Some given ≡ end_for other
        → undetected ≡ count_after old.undetected other
        → AskEnds (names_of old) (written old.sink.now) (written sink) old.host asked
        (edits old.noise.now) whole.s [] other
        → (other ≡ WriteFault → Rose (faults old.sink.now) (faults sink))
        → ((other ≡ WriteFault → ⊥) → faults sink ≡ faults old.sink.now)
        → IsCaused (old.undetected, undetected) (faults old.sink.now, faults sink)
        (HasMet edits written (moved old fabric noise sink undetected)) given
    caused faults Unanswered given is count ends fault stays = absurd cc
    caused faults (Undetected port event) given is count exposed fault stays =
        subst (IsCaused (old.undetected, undetected) (faults old.sink.now, faults sink)
        (HasMet edits written (moved old fabric noise sink undetected)))
        (sym (same_Some given (maint.Undetected port event) is))
        (meets port event exposed, rose old.undetected undetected count, stays (λ same. cc))
    caused faults WriteFault given is count told_text_front fault stays =
        subst (IsCaused (old.undetected, undetected) (faults old.sink.now, faults sink)
        (HasMet edits written (moved old fabric noise sink undetected)))
        (sym (same_Some given maint.WriteFault is)) (fault refl, count)
    caused faults NoMemory given is count told_front fault stays =
        subst (IsCaused (old.undetected, undetected) (faults old.sink.now, faults sink)
        (HasMet edits written (moved old fabric noise sink undetected)))
        (sym (same_Some given maint.NoMemory is)) (count, stays (λ same. cc))

    pub causes : (faults : K → ℕ) (given : MaintEnd) → Some given ≡ end_for end
        → undetected ≡ count_after old.undetected end
        → (end ≡ WriteFault → Rose (faults old.sink.now) (faults sink))
        → ((end ≡ WriteFault → ⊥) → faults sink ≡ faults old.sink.now)
        → IsCaused (old.undetected, undetected) (faults old.sink.now, faults sink)
        (HasMet edits written (moved old fabric noise sink undetected)) given
    causes faults given is count = caused faults end given is count (ends whole.s whole.rests.can)
