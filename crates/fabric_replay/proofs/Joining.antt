-- The blocks of first events, and what comes behind them.
use Rattle.std.proofs.Common.{◌≡◌, Bool, true, false, List, [], ◌∷◌, ◌++◌, Option, Some, None, MatchBool, refl, sym, ap, ◌∙◌, subst, append_assoc}
use Rattle.fabric_script.specs.Lines.{is_event}
use Rattle.fabric_script.specs.declared.lines.Line.{Line}
use Rattle.fabric_script.specs.declared.lines.Numbered.{Numbered}
use Rattle.fabric_trace.specs.Blocks.{IsBlock}
use Rattle.fabric_trace.specs.Fold.{seen}
use Rattle.fabric_trace.specs.Known.{UndetectedAt, Seen}
use Rattle.std.proofs.lemmas.List.{append-nil}
use Rattle.trace_lines.specs.Lines.{TraceLine, Begun, Undetected}
use Rattle.fabric_trace.specs.Runs.{Follows, BlockThen, Names, NamesNothing, RunsFrom, BlocksFrom}
use Rattle.fabric_trace.proofs.Parts.Folding.{seen-append}

by_test : {P Q C D : Type 0} (test : Bool) → (P → C) → (Q → D) → MatchBool test P Q
    → MatchBool test C D
by_test true f g x = f x
by_test false f g x = g x

-- behind an event after which everything is known to be sent
follows-append : (t : Seen) (found : Option UndetectedAt) (Near Far : List TraceLine → Type 0)
    (Last : UndetectedAt → List TraceLine → Type 0) (rest ys : List TraceLine)
    → t.undetected ≡ found
    → (seen t rest).undetected ≡ None
    → (Near rest → Far (rest ++ ys)) → Follows found Near NamesNothing rest
    → Follows found Far Last (rest ++ ys)
follows-append t None Near Far Last rest ys is sent more near = more near
follows-append t (Some e) Near Far Last rest ys is sent more none =
    absurd (cc (is, sym (ap (λ (l : List TraceLine). (seen t l).undetected) none) ∙ sent))

event-append : (s : Seen) (line : Line) (Near Far : Seen → List TraceLine → Type 0)
    (Last : UndetectedAt → List TraceLine → Type 0) (xs ys : List TraceLine)
    → (seen s xs).undetected
    ≡ None
    → ((t : Seen) (rest : List TraceLine) → seen t rest ≡ seen s xs → Near t rest
    → Far t (rest ++ ys)) → BlockThen Near NamesNothing s line xs
    → BlockThen Far Last s line (xs ++ ys)
event-append s line Near Far Last xs ys sent more run =
    let block = run.0 in
    let rest = run.1 in
    let t = seen s (Begun line ∷ block) in
    let there : seen t rest ≡ seen s xs = sym (seen-append s (Begun line ∷ block) rest)
    ∙ ap (seen s) (sym run.2) in (
      block,
      rest ++ ys,
      ap (λ (l : List TraceLine). l ++ ys) run.2 ∙ append_assoc (Begun line ∷ block) rest ys,
      run.3,
      follows-append t t.undetected (Near t) (Far t) Last rest ys refl
          (ap (λ (x : Seen). x.undetected) there ∙ sent) (more t rest there) run.4,
    )

pub blocks-append : (a b : List Numbered) (s : Seen) (xs ys : List TraceLine) → BlocksFrom s a xs
    → (seen s xs).undetected ≡ None → BlocksFrom (seen s xs) b ys → BlocksFrom s (a ++ b) (xs ++ ys)
blocks-append [] b s xs ys none sent more =
    subst (λ (l : List TraceLine). BlocksFrom s b (l ++ ys)) (sym none)
    (subst (λ (l : List TraceLine). BlocksFrom (seen s l) b ys) none more)
blocks-append (line ∷ a) b s xs ys run sent more =
    by_test (is_event line.line)
    (event-append s line.line (λ t rest. BlocksFrom t a rest) (λ t rest. BlocksFrom t (a ++ b) rest)
    NamesNothing xs ys sent
    (λ t rest there near. blocks-append a b t rest ys near
    (ap (λ (x : Seen). x.undetected) there ∙ sent)
    (subst (λ (x : Seen). BlocksFrom x b ys) (sym there) more)))
    (λ near. blocks-append a b s xs ys near sent more) run

pub runs-append : (a b : List Numbered) (s : Seen) (xs ys : List TraceLine) → BlocksFrom s a xs
    → (seen s xs).undetected ≡ None → RunsFrom (seen s xs) b ys → RunsFrom s (a ++ b) (xs ++ ys)
runs-append [] b s xs ys none sent more =
    subst (λ (l : List TraceLine). RunsFrom s b (l ++ ys)) (sym none)
    (subst (λ (l : List TraceLine). RunsFrom (seen s l) b ys) none more)
runs-append (line ∷ a) b s xs ys run sent more =
    by_test (is_event line.line)
    (event-append s line.line (λ t rest. BlocksFrom t a rest) (λ t rest. RunsFrom t (a ++ b) rest)
    (Names line.number) xs ys sent
    (λ t rest there near. runs-append a b t rest ys near
    (ap (λ (x : Seen). x.undetected) there ∙ sent)
    (subst (λ (x : Seen). RunsFrom x b ys) (sym there) more)))
    (λ near. runs-append a b s xs ys near sent more) run

nothing_follows : (found : Option UndetectedAt) (More : List TraceLine → Type 0) → More []
    → Follows found More NamesNothing []
nothing_follows None More none = none
nothing_follows (Some e) More none = refl

-- the block of one event
pub one_block : (s : Seen) (item : Numbered) (block : List TraceLine) → is_event item.line ≡ true
    → IsBlock s item.line block → BlocksFrom s (item ∷ []) (Begun item.line ∷ block)
one_block s item block has is =
    let t = seen s (Begun item.line ∷ block) in
    subst (λ x. MatchBool x
    (BlockThen (λ t rest. BlocksFrom t [] rest) NamesNothing s item.line
    (Begun item.line ∷ block)) (BlocksFrom s [] (Begun item.line ∷ block))) (sym has) (
      block,
      [],
      sym (append-nil (Begun item.line ∷ block)),
      is,
      nothing_follows t.undetected
          (λ rest. rest ≡ []) refl,
    )

-- the block of one event, and the line that names what was not sent
pub one_last : (s : Seen) (item : Numbered) (script : List Numbered) (block : List TraceLine)
    (found : UndetectedAt) → is_event item.line ≡ true → IsBlock s item.line block
    → (seen s (Begun item.line ∷ block)).undetected ≡ Some found
    → RunsFrom s (item ∷ script)
    ((Begun item.line ∷ block) ++ Undetected item.number found.port found.event ∷ [])
one_last s item script block found has is finds =
    let last = Undetected item.number found.port found.event ∷ [] in
    subst (λ x. MatchBool x
    (BlockThen (λ t rest. RunsFrom t script rest) (Names item.number) s item.line
    ((Begun item.line ∷ block) ++ last))
    (RunsFrom s script ((Begun item.line ∷ block) ++ last))) (sym has) (
      block,
      last,
      refl,
      is,
      subst (λ (o : Option UndetectedAt). Follows o
          (RunsFrom (seen s (Begun item.line ∷ block)) script)
          (Names item.number) last) (sym finds) refl,
    )
