-- A link that was to settle is at rest when the next event begins.
use Rattle.fabric_trace.proofs.Prelude.{◌≡◌, ◌++◌, ℕ, List, [], ◌∷◌, Option, Some, None, refl, sym, subst, IsSettled, is_event, PortRef, Line, Settle, Numbered, link_in, link_peers, TraceLine, Begun, Stepped, Signed, Lacked, UndetectedAt, Seen, link_at, seen_line, seen, IsSettle, WithLink, IsBlock, Follows, NamesNothing, BlockThen, Names, RunsFrom, BlocksFrom, PartBegins, PartEnds, PartNames, Made, Done, Then, settled_by, under_way, RestsAt, Settled}
use Rattle.fabric_trace.proofs.Parts.Keeping.{IsGood, legal_links, made_keeps}
use Rattle.fabric_trace.proofs.Parts.Making.{one_part, made-append}
use Rattle.fabric_trace.proofs.Rounds.Blocks.{by_test}
use Rattle.fabric_trace.proofs.Rounds.Running.{block_made}
use Rattle.fabric_trace.proofs.SetUps.Starting.{settles_rest}
use Rattle.fabric_trace.proofs.Rounds.WithinBlocks.{IsWithinBlock, block_within}

-- ---- settling

settled_within : (block rest : List TraceLine) (s : Seen) (port : Option PortRef)
    → IsWithinBlock block → Settled (seen s block) port rest → Settled s port (block ++ rest)
unfolding IsWithinBlock
settled_within [] rest s port within more = more
settled_within (Stepped step ∷ block) rest s port within more =
    (tt, settled_within block rest (seen_line s (Stepped step)) port within more)
settled_within (Signed sign ∷ block) rest s port within more =
    (tt, settled_within block rest (seen_line s (Signed sign)) port within more)
settled_within (Lacked lack ∷ block) rest s port within more =
    (tt, settled_within block rest s port within more)
settled_within (_ ∷ block) rest s port within more = absurd within

-- what an event that settles leaves
settle_rests : (s : Seen) (port : PortRef) (found : Option (PortRef × PortRef))
    (block : List TraceLine) → IsGood s → s.undetected ≡ None → (seen s block).undetected ≡ None
    → (seen s block).network.links ≡ s.network.links → link_in s.network.links port ≡ found
    → WithLink found (IsSettle s) block → RestsAt (seen s block) (Some port)
settle_rests s port None block good none still links at is = absurd is
settle_rests s port (Some own) block good none still links at is = λ link there.
    let same : link ≡ own = cc (there, links, at) in
    subst (λ (x : PortRef × PortRef). IsSettled (link_at (seen s block) x.0 x.1)) (sym same)
    (settles_rest s own.0 own.1 block good none (link_peers s.network.links port own good.proper at)
    is still)

event_rests : (s : Seen) (line : Line) (block : List TraceLine) → IsGood s → s.undetected ≡ None
    → (seen s (Begun line ∷ block)).undetected ≡ None
    → (seen s (Begun line ∷ block)).network.links ≡ s.network.links → IsBlock s line block
    → RestsAt (seen s (Begun line ∷ block)) (settled_by line)
event_rests s (Settle port) block good none still links is =
    settle_rests s port (link_in s.network.links port) block good none still links refl is
event_rests s _ block good none still links is = tt

-- ---- runs, and their first blocks

-- lines are made of parts, and settling leaves links at rest in them
pub record Rests (s : Seen) (port : Option PortRef) (lines : List TraceLine) : Type 0 where
  pub made : Made s lines
  pub settled : Settled s port lines

rests_by : {s : Seen} {port : Option PortRef} {lines other : List TraceLine} → lines ≡ other
    → Rests s port other → Rests s port lines
rests_by {s} {port} is rests = subst (Rests s port) (sym is) rests

follows_rest : (t : Seen) (line : Line) (found : Option UndetectedAt)
    (More : List TraceLine → Type 0)
    (Last : UndetectedAt → List TraceLine → Type 0) (rest : List TraceLine) → t.undetected ≡ found
    → (t.undetected ≡ None → More rest → Rests t (settled_by line) rest)
    → ((e : UndetectedAt) → t.undetected ≡ Some e → Last e rest → Rests t (settled_by line) rest)
    → Follows found More Last rest → Rests t (settled_by line) rest
follows_rest t line None More Last rest is more last follows = more is follows
follows_rest t line (Some e) More Last rest is more last follows = last e is follows

event_then : (s : Seen) (port : Option PortRef) (line : Line)
    (More : Seen → List TraceLine → Type 0) (Last : UndetectedAt → List TraceLine → Type 0)
    (lines : List TraceLine) → IsGood s → s.undetected ≡ None → RestsAt s port
    → ((t : Seen) (p : Option PortRef) (rest : List TraceLine) → IsGood t → t.undetected ≡ None
    → RestsAt t p → More t rest → Rests t p rest)
    → ((t : Seen) (p : Option PortRef) (e : UndetectedAt) (rest : List TraceLine)
    → t.undetected ≡ Some e
    → Last e rest → Rests t p rest)
    → BlockThen More Last s line lines → Rests s port lines
event_then s port line More Last lines good none rests more last run =
    let block = run.0 in
    let t = seen s (Begun line ∷ block) in
    let begun : Made s (Begun line ∷ block) =
    Then (Begun line ∷ []) block refl (PartBegins line refl)
    (block_made line s block good none run.3) in
    let kept = made_keeps good begun in
    let links = legal_links s.network _ t.network kept.legal in
    let behind = follows_rest t line t.undetected (More t) Last run.1 refl
    (λ still follows. more t (settled_by line) run.1 kept.good still
    (event_rests s line block good none still links run.3) follows)
    (λ e found follows. last t (settled_by line) e run.1 found follows) run.4 in
    rests_by run.2 (record {
      made = made-append begun behind.made;
      settled = (
        (none, rests),
        settled_within block run.1 (seen_line s (Begun line)) (settled_by line)
            (block_within s line block run.3) behind.settled,
      );
    })

named_rests : (number : ℕ) (t : Seen) (p : Option PortRef) (e : UndetectedAt)
    (rest : List TraceLine)
    → t.undetected ≡ Some e → Names number e rest → Rests t p rest
named_rests number t p e rest found named =
    rests_by named (record {
      made = one_part (PartNames number e.port e.event found refl);
      settled = (found, tt);
    })

pub runs_rest : (script : List Numbered) (s : Seen) (port : Option PortRef) (lines : List TraceLine)
    → IsGood s → s.undetected ≡ None → RestsAt s port → RunsFrom s script lines → Rests s port lines
runs_rest [] s port lines good none rests run =
    rests_by run (record { made = one_part (PartEnds refl); settled = ((none, rests), tt) })
runs_rest (line ∷ script) s port lines good none rests run =
    by_test (is_event line.line)
    (event_then s port line.line (λ t rest. RunsFrom t script rest) (Names line.number) lines good
    none rests (λ t p rest g still at more. runs_rest script t p rest g still at more)
    (named_rests line.number))
    (λ more. runs_rest script s port lines good none rests more) run

nothing_rests : (t : Seen) (p : Option PortRef) (rest : List TraceLine) → rest ≡ [] → Rests t p rest
nothing_rests t p rest none = rests_by none (record { made = Done refl; settled = tt })

pub blocks_rest : (script : List Numbered) (s : Seen) (port : Option PortRef)
    (lines : List TraceLine) → IsGood s → s.undetected ≡ None → RestsAt s port
    → BlocksFrom s script lines → Rests s port lines
blocks_rest [] s port lines good none rests run = nothing_rests s port lines run
blocks_rest (line ∷ script) s port lines good none rests run =
    by_test (is_event line.line)
    (event_then s port line.line (λ t rest. BlocksFrom t script rest) NamesNothing lines good none
    rests (λ t p rest g still at more. blocks_rest script t p rest g still at more)
    (λ t p e rest found named. nothing_rests t p rest named))
    (λ more. blocks_rest script s port lines good none rests more) run

pub settled_front : (xs ys : List TraceLine) (s : Seen) (port : Option PortRef)
    → Settled s port (xs ++ ys) → Settled s port xs
settled_front [] ys s port settled = tt
settled_front (x ∷ xs) ys s port settled =
    (settled.0, settled_front xs ys (seen_line s x) (under_way port x) settled.1)
