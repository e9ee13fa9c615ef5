-- In each trace of a script links are at rest when they have settled.
use Rattle.fabric_trace.proofs.Prelude.{◌≡◌, Bool, true, false, List, [], ◌∷◌, Option, Some, None, MatchBool, refl, is_event, PortRef, Line, Settle, Run, Numbered, link_in, link_peers, IsBlockAtRest, IsSettle, WithLink, IsBlock, seen, UndetectedAt, Seen, TraceLine, Begun, PartBegins, Made, Then, Follows, NamesNothing, SettlesTo, bare, set_up_all, start, EventThen, BlockThen, Names, RunsBy, RunsFrom, Runs, BlocksBy, BlocksFrom, BeginsBy, Begins, MaySetUpAll}
use Rattle.fabric_trace.proofs.Parts.Keeping.{IsGood, made_keeps}
use Rattle.fabric_trace.proofs.Rounds.Blocks.{rounds_come}
use Rattle.fabric_trace.proofs.Rounds.Running.{block_made, link_made, move_made}
use Rattle.fabric_trace.proofs.SetUps.Starting.{good_start, set_up_bare, settles_rest}

link_rests : (s : Seen) (port : PortRef) (link : Option (PortRef × PortRef))
    (block : List TraceLine) → IsGood s → s.undetected ≡ None → link_in s.network.links port ≡ link
    → WithLink link (IsSettle s) block → WithLink link (SettlesTo IsSettle s) block
link_rests s port None block good none is settles = settles
link_rests s port (Some link) block good none is settles = (
  settles,
  λ still. settles_rest s link.0 link.1 block good none
      (link_peers s.network.links port link good.proper is) settles still,
)

block_rests : (line : Line) (s : Seen) (block : List TraceLine) → IsGood s → s.undetected ≡ None
    → IsBlock s line block → IsBlockAtRest s line block
block_rests (Settle port) s block good none is =
    link_rests s port (link_in s.network.links port) block good none refl is
block_rests (Run n) s block good none is =
    (rounds_come IsSettle (SettlesTo IsSettle)
    (λ s a b lines good still peers settles. (
      link_made s a b lines good still peers settles,
      (settles, settles_rest s a b lines good still peers settles),
    ))
    move_made n s block good none is).1
block_rests _ s block good none is = is

follows_by : (found : Option UndetectedAt) (More Known : List TraceLine → Type 0)
    (Last : UndetectedAt → List TraceLine → Type 0) (rest : List TraceLine)
    →
    (found ≡ None → More rest → Known rest) → Follows found More Last rest
    → Follows found Known Last rest
follows_by None More Known Last rest more is = more refl is
follows_by (Some e) More Known Last rest more is = is

match_by : (P Q R S : Type 0) (test : Bool) → (P → R) → (Q → S) → MatchBool test P Q
    → MatchBool test R S
match_by P Q R S true f g x = f x
match_by P Q R S false f g x = g x

-- of one event, and of what comes behind
event_rests : (s : Seen) (line : Line) (More Known : Seen → List TraceLine → Type 0)
    (Last : UndetectedAt → List TraceLine → Type 0) (lines : List TraceLine) → IsGood s
    → s.undetected ≡ None
    →
    ((t : Seen) (rest : List TraceLine) → IsGood t → t.undetected ≡ None → More t rest
    → Known t rest)
    → EventThen IsBlock More Last s line lines → EventThen IsBlockAtRest Known Last s line lines
event_rests s line More Known Last lines good none more own =
    let block = own.0 in
    let t = seen s (Begun line ∷ block) in
    let begun : Made s (Begun line ∷ block) = Then (Begun line ∷ []) block refl
    (PartBegins line refl)
    (block_made line s block good none own.3) in (
      block,
      own.1,
      own.2,
      block_rests line s block good none own.3,
      follows_by t.undetected (More t) (Known t) Last own.1
          (λ still follows. more t own.1 (made_keeps good begun).good still follows) own.4,
    )

runs_by : (script : List Numbered) (s : Seen) (lines : List TraceLine) → IsGood s
    → s.undetected ≡ None → RunsFrom s script lines → RunsBy IsBlockAtRest s script lines
runs_by [] s lines good none run = run
runs_by (line ∷ script) s lines good none run =
    match_by (BlockThen (λ t rest. RunsFrom t script rest) (Names line.number) s line.line lines)
    (RunsFrom s script lines)
    (EventThen IsBlockAtRest (λ t rest. RunsBy IsBlockAtRest t script rest) (Names line.number) s
    line.line lines)
    (RunsBy IsBlockAtRest s script lines)
    (is_event line.line)
    (λ own. event_rests s line.line (λ t rest. RunsFrom t script rest)
    (λ t rest. RunsBy IsBlockAtRest t script rest) (Names line.number) lines good none
    (runs_by script) own)
    (λ more. runs_by script s lines good none more) run

blocks_by : (script : List Numbered) (s : Seen) (lines : List TraceLine) → IsGood s
    → s.undetected ≡ None → BlocksFrom s script lines → BlocksBy IsBlockAtRest s script lines
blocks_by [] s lines good none run = run
blocks_by (line ∷ script) s lines good none run =
    match_by (BlockThen (λ t rest. BlocksFrom t script rest) NamesNothing s line.line lines)
    (BlocksFrom s script lines)
    (EventThen IsBlockAtRest (λ t rest. BlocksBy IsBlockAtRest t script rest) NamesNothing s
    line.line lines)
    (BlocksBy IsBlockAtRest s script lines)
    (is_event line.line)
    (λ own. event_rests s line.line (λ t rest. BlocksFrom t script rest)
    (λ t rest. BlocksBy IsBlockAtRest t script rest) NamesNothing lines good none
    (blocks_by script) own)
    (λ more. blocks_by script s lines good none more) run

pub traces_rest : (script : List Numbered) (lines : List TraceLine) → MaySetUpAll bare script
    → Runs script lines → RunsBy IsBlockAtRest (start script) script lines
traces_rest script lines may runs =
    runs_by script (start script) lines
    (good_start (set_up_all bare script) (set_up_bare script may)) refl runs

pub fronts_rest : (script : List Numbered) (lines : List TraceLine) → MaySetUpAll bare script
    → Begins script lines → BeginsBy IsBlockAtRest script lines
fronts_rest script lines may begun = record {
  done = begun.done;
  rest = begun.rest;
  whole = begun.whole;
  blocks =
      blocks_by begun.done (start script) lines
      (good_start (set_up_all bare script) (set_up_bare script may)) refl begun.blocks;
}
