-- How a replay goes from event to event, and what is told then.
use Rattle.std.proofs.Common.{◌≡◌, inl, inr, ℕ, ◌+◌, ◌<◌, ◌≤◌, true, false, MatchBool, List, [], ◌∷◌, ◌++◌, All, length, take, drop, get_or, Option, Some, None, Ok, Err, refl, sym, ap, ◌∙◌, subst, append-nil, append_assoc, take-append-drop}
use Rattle.std.proofs.lemmas.List.{take_more, take_all, drop_more}
use Rattle.link_model.specs.declared.event.Event.{Event}
use Rattle.fabric_script.specs.Lines.{is_event}
use Rattle.fabric_script.specs.Scripts.{ScriptPasses}
use Rattle.fabric_script.specs.declared.ports.PortRef.{PortRef}
use Rattle.fabric_script.specs.declared.lines.Numbered.{Numbered}
use Rattle.fabric_trace.specs.Blocks.{IsBlock}
use Rattle.fabric_trace.specs.Events.{MayHappen}
use Rattle.fabric_trace.specs.Fold.{seen}
use Rattle.fabric_trace.specs.Known.{UndetectedAt, Seen}
use Rattle.trace_lines.specs.Lines.{TraceLine, Begun, Ended, Undetected}
use Rattle.fabric_trace.specs.Runs.{bare, set_up_all, start, BlockThen, NamesNothing, BlocksFrom, RunsFrom, Runs, Begins}
use Rattle.trace_lines.specs.AddsLaws.{Adds-nil, Adds-then}
use Rattle.trace_lines.specs.Writing.{Adds}
use Rattle.trace_lines.specs.declared.writer.TraceWriter.{TraceWriter}
use Rattle.fabric_trace.proofs.Network.Boards.{happens_still}
use Rattle.fabric_trace.proofs.Parts.Folding.{seen-append}
use Rattle.fabric_trace.proofs.SetUps.Happening.{may_happen}
use Rattle.fabric_ports.specs.Events.{MayFollow, IsOwnBlock, IsAnsweredBlock, Evented}
use Rattle.fabric_ports.specs.Standing.{Stands}
use Rattle.fabric_ports.specs.declared.answers.FabricEnd.TheVariants.{Undetected as UndetectedEnd, Failed, NoMemory}
use Rattle.fabric_ports.specs.declared.answers.Happened.{Happened}
use Rattle.fabric_ports.specs.declared.fabric.Fabric.{Fabric}
use Rattle.fabric_ports.proofs.RanLaws.{front_whole}
use Rattle.fabric_replay.specs.Going.{Going, ToldUntil, ToldFront, ToldWhole}
use Rattle.fabric_replay.proofs.Joining.{blocks-append, runs-append, one_block, one_last}
use Rattle.fabric_replay.proofs.Naming.{names_suffice, names_few}

-- ---- the items of a script

-- an item that was read at a place of the script
pub record IsItem (script : List Numbered) (i : ℕ) (item : Numbered) : Type 0 where
  pub at : item ≡ get_or script i item
  pub within : i < length script

pub item_of : (script read : List Numbered) (i : ℕ) (item : Numbered) → read ≡ script → item
    ≡ get_or read i item → i < length read → IsItem script i item
item_of script read i item same at within =
    record {
      at = subst (λ xs. item ≡ get_or xs i item) same at;
      within = subst (λ xs. i < length xs) same within;
    }

-- what holds of all items holds of this one
of_item : (P : Numbered → Type 0) (script : List Numbered) (i : ℕ) (item : Numbered) → All P script
    → IsItem script i item → P item
of_item P script i item all is = subst P (sym is.at) (all i item is.within)

pub may_follow : (names : List (List ℕ)) (script : List Numbered) (i : ℕ) (item : Numbered)
    (lines : List TraceLine) (fabric : Fabric) → ScriptPasses names script → IsItem script i item
    → is_event item.line ≡ true
    → Stands (start script) lines fabric → MayFollow fabric names item.line
may_follow names script i item lines fabric passes is event stands = record {
  from = start script;
  lines = lines;
  stands = stands;
  happens = happens_still names (start script) lines item.line
      (of_item (λ line. is_event line.line ≡ true → MayHappen names (set_up_all bare script)
      line.line) script i item (may_happen names script passes) is event);
  event = event;
  names_suffice = names_suffice names script lines fabric passes stands;
  few_names = names_few names script passes;
}

-- the items up to one, with it
front_with : (script : List Numbered) (i : ℕ) (item : Numbered) → IsItem script i item
    → take i script ++ item ∷ [] ≡ take (i + 1) script
front_with script i item is = ap (λ x. take i script ++ x ∷ []) is.at
    ∙ sym (take_more script i item is.within)

-- the items up to one, and those from it on
front_from : (script : List Numbered) (i : ℕ) (item : Numbered) → IsItem script i item
    → take i script ++ item ∷ drop (i + 1) script ≡ script
front_from script i item is =
    ap (λ x. take i script ++ x ∷ drop (i + 1) script) is.at
    ∙ ap (λ l. take i script ++ l) (sym (drop_more script i item is.within))
    ∙ take-append-drop i script

-- ---- what was told

module _ {K : Type 0} (begun : TraceWriter K) (script : List Numbered) where
  abbrev pub Gone : TraceWriter K → ℕ → Fabric → Type 0
  Gone out count fabric = Going begun out script count fabric

  abbrev pub Fronts : TraceWriter K → Type 0
  Fronts out = ToldFront begun out script

  abbrev pub Wholes : TraceWriter K → TraceLine → Option UndetectedAt → Type 0
  Wholes out last found = ToldWhole begun out script last found

  pub Going-begin : (fabric : Fabric) → begun.outbox.now.failed ≡ false
      → Stands (start script) [] fabric → Gone begun 0 fabric
  Going-begin fabric fine stands = record {
    lines = [];
    adds = Adds-nil begun;
    fine = fine;
    blocks = refl;
    stands = stands;
  }

  pub Going-skip : (i : ℕ) (item : Numbered) (out : TraceWriter K) (fabric : Fabric)
      → IsItem script i item → is_event item.line ≡ false → Gone out i fabric
      → Gone out (i + 1) fabric
  Going-skip i item out fabric is no_block h = record {
    lines = h.lines;
    adds = h.adds;
    fine = h.fine;
    blocks = subst (λ front. BlocksFrom (start script) front h.lines) (front_with script i item is)
        (subst (BlocksFrom (start script) (take i script ++ item ∷ [])) (append-nil h.lines)
        (blocks-append (take i script) (item ∷ []) (start script) h.lines [] h.blocks h.stands.sent
        (subst (λ t. MatchBool t
        (BlockThen (λ s rest. BlocksFrom s [] rest) NamesNothing (seen (start script) h.lines)
        item.line []) (BlocksFrom (seen (start script) h.lines) [] [])) (sym no_block) refl)));
    stands = h.stands;
  }

  -- the blocks up to an event, with its own
  blocks_with : (i : ℕ) (item : Numbered) (out : TraceWriter K) (fabric : Fabric)
      (block : List TraceLine) → IsItem script i item → is_event item.line ≡ true
      → (h : Gone out i fabric) → IsBlock (seen (start script) h.lines) item.line block
      → BlocksFrom (start script) (take (i + 1) script) (h.lines ++ Begun item.line ∷ block)
  blocks_with i item out fabric block is has h own =
      subst (λ front. BlocksFrom (start script) front (h.lines ++ Begun item.line ∷ block))
      (front_with script i item is)
      (blocks-append (take i script) (item ∷ []) (start script) h.lines (Begun item.line ∷ block)
      h.blocks h.stands.sent (one_block (seen (start script) h.lines) item block has own))

  first_blocks : (count : ℕ) (lines : List TraceLine)
      → BlocksFrom (start script) (take count script) lines → Begins script lines
  first_blocks count lines blocks = record {
    done = take count script;
    rest = drop count script;
    whole = sym (take-append-drop count script);
    blocks = blocks;
  }

  -- ---- an event was carried out

  pub Going-event : (i : ℕ) (item : Numbered) (out out2 : TraceWriter K) (fabric fabric2 : Fabric)
      (what : Happened) → IsItem script i item → is_event item.line ≡ true → (h : Gone out i fabric)
      → out2.outbox.now.failed ≡ false
      → Evented item.line (IsAnsweredBlock item.line what) out out2 (start script) h.lines
      (Ok fabric2)
      → Gone out2 (i + 1) fabric2
  Going-event i item out out2 fabric fabric2 what is has h fine done = record {
    lines = h.lines ++ Begun item.line ∷ done.block;
    adds = Adds-then h.adds done.ends.0;
    fine = fine;
    blocks = blocks_with i item out fabric done.block is has h done.is.0;
    stands = done.ends.1;
  }

  -- it was carried out so far that a write failed
  pub Going-broken : (i : ℕ) (item : Numbered) (out out2 : TraceWriter K) (fabric : Fabric)
      → IsItem script i item → is_event item.line ≡ true → (h : Gone out i fabric)
      → Evented item.line (IsOwnBlock item.line) out out2 (start script) h.lines (Err Failed)
      → ToldUntil begun out2 script
  Going-broken i item out out2 fabric is has h ended = record {
    count = i;
    before = h.lines;
    front = ended.ends.0.front;
    rest = ended.ends.0.rest;
    mid = out;
    adds_before = h.adds;
    blocks_before = h.blocks;
    fine = h.fine;
    adds = ended.ends.0.adds;
    blocks = subst (λ own. BlocksFrom (start script) (take (i + 1) script) (h.lines ++ own))
        ended.ends.0.whole (blocks_with i item out fabric ended.block is has h ended.is.0);
    failed = ended.ends.1;
  }

  -- and a write failed in it
  pub Going-until : (i : ℕ) (item : Numbered) (out out2 : TraceWriter K) (fabric fabric2 : Fabric)
      (what : Happened) → IsItem script i item → is_event item.line ≡ true → (h : Gone out i fabric)
      → out2.outbox.now.failed ≡ true
      → Evented item.line (IsAnsweredBlock item.line what) out out2 (start script) h.lines
      (Ok fabric2)
      → ToldUntil begun out2 script
  Going-until i item out out2 fabric fabric2 what is has h failed done =
      Going-broken i item out out2 fabric is has h (record {
        block = done.block;
        is = (done.is.0, done.is.1);
        ends = (front_whole done.ends.0, failed);
      })

  -- and so a front of a trace was told
  pub until_front : (out : TraceWriter K) → ToldUntil begun out script → Fronts out
  until_front out until = record {
    lines = until.before ++ until.front;
    behind = until.rest;
    adds = Adds-then until.adds_before until.adds;
    begins = inl
        (subst (Begins script) (sym (append_assoc until.before until.front until.rest))
        (first_blocks (until.count + 1) (until.before ++ (until.front ++ until.rest))
        until.blocks));
  }

  -- or memory ran out in it
  pub Going-short : (i : ℕ) (item : Numbered) (out out2 : TraceWriter K) (fabric : Fabric)
      → IsItem script i item → is_event item.line ≡ true → (h : Gone out i fabric)
      → Evented item.line (IsOwnBlock item.line) out out2 (start script) h.lines (Err NoMemory)
      → Fronts out2
  Going-short i item out out2 fabric is has h ended =
      let short = ended.ends in
      record {
        lines = h.lines ++ short.front;
        behind = short.rest;
        adds = Adds-then h.adds short.adds;
        begins = inl
            (subst (Begins script)
            (ap (λ l. h.lines ++ l) short.whole ∙ sym (append_assoc h.lines short.front short.rest))
            (first_blocks (i + 1) (h.lines ++ Begun item.line ∷ ended.block)
            (blocks_with i item out fabric ended.block is has h ended.is.0)));
      }

  -- or an event was acted on that was not sent
  pub Going-undetected : (i : ℕ) (item : Numbered) (out out2 out3 : TraceWriter K) (fabric : Fabric)
      (port : PortRef) (event : Event) → IsItem script i item → is_event item.line ≡ true
      → (h : Gone out i fabric)
      → Evented item.line (IsOwnBlock item.line) out out2 (start script) h.lines
      (Err (UndetectedEnd port event))
      → Adds out2 out3 (Undetected item.number port event ∷ [])
      → Wholes out3 (Undetected item.number port event)
      (Some (record { port = port; event = event }))
  Going-undetected i item out out2 out3 fabric port event is has h exposed last =
      let own = Begun item.line ∷ exposed.block in
      let named = Undetected item.number port event ∷ [] in
      let found : UndetectedAt = record { port = port; event = event } in
      let there : seen (start script) (h.lines ++ own) ≡ seen (seen (start script) h.lines) own =
      seen-append (start script) h.lines own in
      let finds = ap (λ (x : Seen). x.undetected) (sym there) ∙ exposed.ends.1 in
      record {
        lines = (h.lines ++ own) ++ named;
        adds = Adds-then (Adds-then h.adds exposed.ends.0) last;
        runs = subst (Runs script) (sym (append_assoc h.lines own named))
            (subst (λ all. RunsFrom (start script) all (h.lines ++ (own ++ named)))
            (front_from script i item is)
            (runs-append (take i script) (item ∷ drop (i + 1) script) (start script) h.lines
            (own ++ named) h.blocks h.stands.sent
            (one_last (seen (start script) h.lines) item (drop (i + 1) script) exposed.block found
            has exposed.is.0 finds)));
        ends = record { front = h.lines ++ own; ends = refl; finds = exposed.ends.1 };
      }

  -- all events were carried out
  pub Going-end : (count : ℕ) (out out2 : TraceWriter K) (fabric : Fabric) → length script ≤ count
      → Gone out count fabric → Adds out out2 (Ended ∷ []) → Wholes out2 Ended None
  Going-end count out out2 fabric whole h last =
      let all : take count script ≡ script = take_all count script whole in
      record {
        lines = h.lines ++ Ended ∷ [];
        adds = Adds-then h.adds last;
        runs = subst (λ l. RunsFrom (start script) l (h.lines ++ Ended ∷ [])) (append-nil script)
            (runs-append script [] (start script) h.lines (Ended ∷ [])
            (subst (λ l. BlocksFrom (start script) l h.lines) all h.blocks) h.stands.sent refl);
        ends = record { front = h.lines; ends = refl; finds = h.stands.sent };
      }

  -- a whole trace was told, and so one that begins a trace
  pub whole_front : (out : TraceWriter K) (last : TraceLine) (found : Option UndetectedAt)
      → Wholes out last found → Fronts out
  whole_front out last found whole =
      record {
        lines = whole.lines;
        behind = [];
        adds = whole.adds;
        begins = inr (subst (Runs script) (sym (append-nil whole.lines)) whole.runs);
      }
