-- What a session answers of devices outside.
use Rattle.std.proofs.Common.{Vec, Global, ◌≡◌, ◌⊎◌, ℕ, Bool, true, false, List, [], ◌∷◌, ◌++◌, Some, codes, inl, inr, refl, sym, ap, ◌∙◌, subst}
use Rattle.rio_chars.specs.declared.chars.Char.{Char}
use Rattle.rio_chars.specs.Written.{Outgoing, Writes}
use Rattle.fabric_trace.specs.Known.{Seen}
use Rattle.fabric_ports.specs.Outside.{OutsideTook}
use Rattle.trace_lines.specs.Lines.{TraceLine, Signed, Sent}
use Rattle.trace_lines.specs.AddsLaws.{Adds-then}
use Rattle.trace_lines.specs.Writing.{Adds}
use Rattle.trace_lines.specs.declared.writer.TraceWriter.{TraceWriter}
use Rattle.fabric_script.specs.declared.lines.Numbered.{Numbered}
use Rattle.fabric_script.specs.SetUps.{SetUpLines, for_event}
use Rattle.fabric_ports.specs.declared.fabric.Fabric.{Fabric}
use Rattle.live_fabric.proofs.LineFeeds.{names_feedless}
use Rattle.outside_lines.specs.declared.facing.Facing.{Facing}
use Rattle.outside_lines.specs.declared.reading.OutsideLine.{OutsideLine}
use Rattle.outside_lines.specs.declared.reading.OutsideLine.TheVariants as Lines
use Rattle.outside_lines.specs.Reading.{SpellsOutside, NoOutside}
use Rattle.refusal_words.specs.Citing.{refusal_line}
use Rattle.refusal_words.specs.Reasons.{script_reason}
use Rattle.live_fabric.specs.declared.answers.AfterLine.TheVariants as Goings
use Rattle.live_fabric.specs.declared.live.Live.{Live}
use Rattle.live_fabric.specs.declared.session.Session.{Session}
use Rattle.live_fabric.specs.Lines.{Taken, seen_so_far, taken_anew}
use Rattle.live_fabric.specs.Holding.{AreFaced, IsFaced, StandsBy, LiveHolds}
use Rattle.live_fabric.specs.Outside.{OutsideActed, after_outside, port_of_line, outside_told, outside_answer, taken_outside}
use Rattle.live_fabric.specs.Pieces.{quiet_text}
use Rattle.live_fabric.specs.Sessions.{SessionHeld, SessionHolds, SessionTold, OutsideTold}
use Rattle.live_fabric.proofs.OwnedLaws.{known_held}
use Rattle.live_fabric.proofs.QuietLaws.{quiet_trace}

-- ---- one more port faces out

faced_more : (lines : List Numbered) (facing : List Facing) (at : Facing) → AreFaced lines facing
    → IsFaced lines at.port → AreFaced lines (facing ++ at ∷ [])
faced_more lines [] at all is = (is, tt)
faced_more lines (first ∷ facing) at all is = (all.0, faced_more lines facing at all.1 is)

pub face_holds : (put now : Live) (taken : Taken) (at : Facing) (fabric_now : Fabric)
    → LiveHolds put taken → put.fabric ≡ Some fabric_now
    → now.text ≡ put.text → now.set_up ≡ put.set_up → now.fabric ≡ put.fabric
    → now.facing.items ≡ put.facing.items ++ at ∷ [] → IsFaced taken.set_up at.port
    → LiveHolds now (record taken { facing = taken.facing ++ at ∷ [] })
face_holds put now taken at fabric_now holds some text set_up fabric facing faced = record {
  text = rw text holds.text;
  counted = rw text holds.counted;
  few = holds.few;
  spelled = holds.spelled;
  lines = rw set_up holds.lines;
  known = rw set_up holds.known;
  trace = record {
    passes = holds.trace.passes;
    no_events = holds.trace.no_events;
    board = holds.trace.board;
    sent = holds.trace.sent;
    events = holds.trace.events;
    blocks = holds.trace.blocks;
  };
  stands =
      subst (λ f. StandsBy f (record taken { facing = taken.facing ++ at ∷ [] }))
      (sym (fabric ∙ some))
      (subst (λ f. StandsBy f taken) some holds.stands);
  counts = holds.counts;
  facing = facing ∙ ap (λ l. l ++ at ∷ []) holds.facing;
  faced = faced_more taken.set_up taken.facing at holds.faced faced;
}

-- ---- what is held after a line

-- a port faces out from now on
pub joined_holds : (put now : Live) (taken : Taken) (line : OutsideLine) (at : Facing)
    (fabric_now : Fabric) → line ≡ Lines.External at
    → LiveHolds put (taken_anew taken (after_outside line (seen_so_far taken)))
    → put.fabric ≡ Some fabric_now → now.text ≡ put.text → now.set_up ≡ put.set_up
    → now.fabric ≡ put.fabric → now.facing.items ≡ put.facing.items ++ at ∷ []
    → IsFaced taken.set_up (port_of_line line) → LiveHolds now (taken_outside taken line)
joined_holds put now taken line at fabric_now is holds some text set_up fabric facing faced =
    let s = seen_so_far taken in
    subst (λ (l : OutsideLine). LiveHolds put (taken_anew taken (after_outside l s))
    → IsFaced taken.set_up (port_of_line l) → LiveHolds now (taken_outside taken l)) (sym is)
    (λ h f. face_holds put now (taken_anew taken (after_outside (Lines.External at) s)) at
    fabric_now h some text set_up fabric facing f) holds faced

-- or the same do
pub other_holds : (put : Live) (taken : Taken) (line : OutsideLine)
    → ((at : Facing) → line ≡ Lines.External at → ⊥)
    → LiveHolds put (taken_anew taken (after_outside line (seen_so_far taken)))
    → LiveHolds put (taken_outside taken line)
other_holds put taken (Lines.External at) none holds = absurd (none at refl)
other_holds put taken (Lines.Sent at chars) none holds = holds
other_holds put taken (Lines.Pump port count) none holds = holds
other_holds put taken (Lines.Timeout port) none holds = holds

-- ---- what is told of a line

-- without the lines with characters
quiet_answer : (taken : Taken) (line : OutsideLine) (live : Live) → LiveHolds live taken
    → quiet_text (outside_answer false taken line) ≡ outside_answer true taken line
quiet_answer taken line live holds =
    quiet_trace taken.known.names
    (names_feedless taken.known.names taken.set_up holds.trace.passes)
    (outside_told line (seen_so_far taken))

module _ (held : SessionHeld) (line : OutsideLine) (session now : Session)
    (holds : SessionHolds session held) where
  pub told_loud : (out next : Outgoing) (items : List ℕ) → session.quiet ≡ false
      → items ≡ outside_answer false held.taken line
      → SessionHolds now (record held { taken = taken_outside held.taken line })
      → Writes out next items → OutsideTold held line out next now
  told_loud out next items loud is kept written = record {
    told = subst (λ quiet. Writes out next (outside_answer quiet held.taken line))
        (sym loud ∙ holds.quiet) (subst (Writes out next) is written);
    holds = kept;
  }

  pub told_quiet : (out next : Outgoing) (items : List ℕ) → session.quiet ≡ true
      → items ≡ outside_answer false held.taken line
      → SessionHolds now (record held { taken = taken_outside held.taken line })
      → Writes out next (quiet_text items) → OutsideTold held line out next now
  told_quiet out next items quiet is kept written = record {
    told = subst (λ quiet. Writes out next (outside_answer quiet held.taken line))
        (sym quiet ∙ holds.quiet)
        (subst (Writes out next)
        (ap quiet_text is ∙ quiet_answer held.taken line session.live holds.live) written);
    holds = kept;
  }

-- ---- a fabric does what a line says

pub acted_sent : {K : Type 0} {old mid new : TraceWriter K} (line : OutsideLine) (at : Facing)
    (chars : Vec Char Global) (first second : List Char) (from : Seen) (lines : List TraceLine)
    (fabric : Fabric) → line ≡ Lines.Sent at chars → first ≡ chars.items → second ≡ chars.items
    → Adds old mid (Signed (Sent at.device first) ∷ [])
    → OutsideTook at.port second from lines fabric mid new
    → OutsideActed line from lines fabric old new
acted_sent {K} {old} {mid} {new} line at chars first second from lines fabric is one two own took =
    let did = subst (λ cs. OutsideTook at.port cs from lines fabric mid new) two took in
    subst (λ (l : OutsideLine). OutsideActed l from lines fabric old new) (sym is) (record {
      stands = did.stands;
      adds = Adds-then (subst (λ cs. Adds old mid (Signed (Sent at.device cs) ∷ [])) one own)
          did.adds;
    })

-- ---- the answer of a line

-- what is read after the lines that are held
pub spelled_held : (held : SessionHeld) (session : Session) (read : SetUpLines)
    (facing : List Facing) (line : List ℕ) (outside : OutsideLine) → SessionHolds session held
    → read ≡ session.live.set_up → facing ≡ session.live.facing.items
    → SpellsOutside read.known facing line outside
    → SpellsOutside (for_event held.taken.known) held.taken.facing line outside
spelled_held held session read facing line outside holds same faces spells =
    subst (λ known. SpellsOutside known held.taken.facing line outside)
    (known_held held session read holds same)
    (subst (λ f. SpellsOutside read.known f line outside) (faces ∙ holds.live.facing) spells)

pub refused_held : (held : SessionHeld) (session : Session) (read : SetUpLines)
    (facing : List Facing) (line : List ℕ) (reason : ℕ) → SessionHolds session held
    → read ≡ session.live.set_up → facing ≡ session.live.facing.items
    → NoOutside read.known facing line reason
    → NoOutside (for_event held.taken.known) held.taken.facing line reason
refused_held held session read facing line reason holds same faces refused =
    subst (λ known. NoOutside known held.taken.facing line reason)
    (known_held held session read holds same)
    (subst (λ f. NoOutside read.known f line reason) (faces ∙ holds.live.facing) refused)

module _ (held : SessionHeld) (number : ℕ) (line : List ℕ) where
  pub outside_taken : (out next : Outgoing) (now : Session) (outside : OutsideLine)
      → SpellsOutside (for_event held.taken.known) held.taken.facing line outside
      → OutsideTold held outside out next now
      → SessionTold held number line out next now Goings.On
  outside_taken out next now outside spells o = record {
    text = outside_answer held.quiet held.taken outside;
    next = record held { taken = taken_outside held.taken outside };
    answers = inr (inr (inr (inr (inl (inl (record {
      outside = outside;
      spells = spells;
      answer = refl;
      then = refl;
    }))))));
    told = o.told;
    goes = o.holds;
  }

  pub outside_refused : (out next : Outgoing) (session : Session) (reason : ℕ) (why : List ℕ)
      → SessionHolds session held
      → NoOutside (for_event held.taken.known) held.taken.facing line reason
      → why ≡ script_reason reason → Writes out next (refusal_line reason why)
      → SessionTold held number line out next session Goings.On
  outside_refused out next session reason why holds refused says told = record {
    text = refusal_line reason (script_reason reason);
    next = held;
    answers = inr (inr (inr (inr (inl (inr (record {
      reason = reason;
      refused = refused;
      answer = refl;
      then = refl;
    }))))));
    told = subst (λ w. Writes out next (refusal_line reason w)) says told;
    goes = holds;
  }
