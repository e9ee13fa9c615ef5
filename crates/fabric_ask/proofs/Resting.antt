-- After a response all links are at rest.
use Rattle.fabric_ask.proofs.Prelude.{◌≡◌, ℕ, List, [], ◌∷◌, ◌++◌, Option, Some, None, refl, sym, ap, ◌∙◌, subst, inl, inr, ◌⊎◌, Bool, true, false, if◌then◌else◌, Request, Collected, Edit, PortRef, IsEndpoint, port_of, room_out, Leave, AtNode, Take, few_prio, Asks, seen, seen_line, Seen, UndetectedAt, TraceLine, Stepped, steps_of, Full, Lacked, Made, PartSteps, PartLacks, collect_lines, seen-append, IsGood, made_keeps, legal_links, prio_of, Passes, Passes-from_form, request_body, Follows, NamesNothing, one_part, made-append, made_by, IsReplied, AskRounds, most_rounds, IsAsk, CollectsNothing, NeverAnswers, AreQuiet}
use Rattle.switch_core.specs.declared.endpoint.Collected.TheVariants as Collects
use Rattle.fabric_ask.proofs.Crossing.{Split, split}
use Rattle.fabric_ask.proofs.Quieting.{OnlySteps, steps_same, all_same}
use Rattle.fabric_ask.proofs.Uncollected.{CollectsLast, IsApart, made_endpoint, never-append, nothing_leaves, rounds_apart, nothing_answers, answers-append}

collect_steps : (node : ℕ) (made : Collected) → OnlySteps (collect_lines node made)
unfolding OnlySteps
collect_steps node (Collects.Left packet) = tt
collect_steps node _ = tt

-- The request is taken, or has no room: the host collects nothing in it.
pub record IsTaken (host : ℕ) (s : Seen) (first : List TraceLine) : Type 0 where
  pub made : Made s first
  pub nothing : CollectsNothing host first
  pub good : IsGood (seen s first)
  pub endpoint : IsEndpoint (seen s first).network host
  pub sent : s.undetected ≡ None → (seen s first).undetected ≡ None
  pub links : (seen s first).network.links ≡ s.network.links

pub asks_apart : (s : Seen) (host : ℕ) (request : Request) (first : List TraceLine) → IsGood s
    → IsEndpoint s.network host → Asks s host request first → IsTaken host s first
asks_apart s host request first good endpoint own =
    by_room (room_out s.network (port_of host) (prio_of own.packet)) refl own.lines
  where
    passes : Passes own.packet
    passes = Passes-from_form (request_body request) own.packet own.form

    whole : (line : TraceLine) → first ≡ line ∷ [] → Made s first → CollectsNothing host (line ∷ [])
        → (seen_line s line).undetected ≡ s.undetected → IsTaken host s first
    whole line is made nothing same = record {
      made = made;
      nothing = subst (CollectsNothing host) (sym is) nothing;
      good = (made_keeps good made).good;
      endpoint = made_endpoint host s first good made endpoint;
      sent = λ none. ap (λ (l : List TraceLine). (seen s l).undetected) is ∙ same ∙ none;
      links = legal_links s.network (steps_of first) (seen s first).network
          (made_keeps good made).legal;
    }

    by_room : (room : Bool) → room_out s.network (port_of host) (prio_of own.packet) ≡ room
        → first ≡ (if room_out s.network (port_of host) (prio_of own.packet)
        then Stepped (AtNode (Take host own.packet)) ∷ [] else Lacked Full ∷ [])
        → IsTaken host s first
    by_room true room lines =
        let is : first ≡ Stepped (AtNode (Take host own.packet)) ∷ [] = lines
        ∙ ap (λ r. if r then Stepped (AtNode (Take host own.packet)) ∷ [] else Lacked Full ∷ [])
        room in
        whole (Stepped (AtNode (Take host own.packet))) is
        (made_by is (one_part (PartSteps (Take host own.packet) (endpoint, passes, room)
        (few_prio own.packet passes) refl))) (tt, tt) refl
    by_room false room lines =
        let is : first ≡ Lacked Full ∷ [] = lines
        ∙ ap (λ r. if r then Stepped (AtNode (Take host own.packet)) ∷ [] else Lacked Full ∷ [])
        room in
        whole (Lacked Full) is (made_by is (one_part (PartLacks Full refl))) (tt, tt) refl

-- Where a packet leaves at the host in the end, all links are at rest then.
module _ (host : ℕ) (request : Request) (noise : List Edit) (s : Seen) (lines : List TraceLine)
    (good : IsGood s) (endpoint : IsEndpoint s.network host)
    (ask : IsAsk host request noise s lines)
    (still : (seen s lines).undetected ≡ None) where
  parts : Split (Asks s host request) (AskRounds host most_rounds noise) s lines
  parts = split (Asks s host request) (AskRounds host most_rounds noise) s lines ask still

  abbrev t : Seen
  t = seen s parts.first

  taken : IsTaken host s parts.first
  taken = asks_apart s host request parts.first good endpoint parts.own

  pub rests_then : (front : List TraceLine) (packet : List ℕ)
      → lines ≡ front ++ Stepped (AtNode (Leave host packet)) ∷ []
      → AreQuiet s.network.links (seen s lines)
  rests_then front packet whole =
      by_end (rounds_apart host most_rounds noise t parts.rest taken.good parts.still
      taken.endpoint parts.more)
    where
      by_end : (IsApart host t parts.rest) ⊎ CollectsLast host t parts.rest
          → AreQuiet s.network.links (seen s lines)
      by_end (inl apart) =
          absurd (nothing_leaves host front packet (subst (CollectsNothing host)
          (sym parts.whole ∙ whole) (never-append host parts.first parts.rest
          taken.nothing apart.nothing)))
      by_end (inr last) =
          let u = seen t last.front in
          let only : OnlySteps last.last =
          subst OnlySteps (sym last.collect.lines) (collect_steps host _) in
          let end : seen s lines ≡ seen u last.last =
          parts.after ∙ ap (seen t) last.whole ∙ seen-append t last.front last.last in
          subst (AreQuiet s.network.links) (sym end)
          (all_same s.network.links u (seen u last.last) (λ c. steps_same u last.last c only)
          (subst (λ l. AreQuiet l u) taken.links last.quiet))

-- ---- the registers of the host

collect_still : (s : Seen) (node : ℕ) (made : Collected)
    → (seen s (collect_lines node made)).undetected ≡ s.undetected
collect_still s node (Collects.Left packet) = refl
collect_still s node (Collects.Answered request response) = refl
collect_still s node Collects.Empty = refl
collect_still s node Collects.Full = refl

-- lines in which the registers of a host answer nothing, made of parts
pub record AnswersNothing (host : ℕ) (s : Seen) (lines : List TraceLine) : Type 0 where
  pub never : NeverAnswers host lines
  pub made : Made s lines

-- In an ask they answer nothing if it is replied to where every event that was acted on was sent.
pub ask_answers_nothing : (host : ℕ) (request : Request) (noise : List Edit) (at : PortRef)
    (s : Seen) (lines : List TraceLine) → IsGood s → s.undetected ≡ None
    → IsEndpoint s.network host → IsAsk host request noise s lines
    → ((seen s lines).undetected ≡ None → IsReplied host s lines at request)
    → AnswersNothing host s lines
ask_answers_nothing host request noise at s lines good none endpoint ask replied =
    by_found (seen s lines).undetected refl
  where
    first : List TraceLine
    first = ask.0

    rest : List TraceLine
    rest = ask.1

    taken : IsTaken host s first
    taken = asks_apart s host request first good endpoint ask.3

    still : (seen s first).undetected ≡ None
    still = taken.sent none

    more : AskRounds host most_rounds noise (seen s first) rest
    more = subst (λ (f : Option UndetectedAt). Follows f
        (AskRounds host most_rounds noise (seen s first))
        NamesNothing rest) still ask.4

    after : seen s lines ≡ seen (seen s first) rest
    after = ap (seen s) ask.2 ∙ seen-append s first rest

    by_end : (Some_found : (seen (seen s first) rest).undetected ≡ None → ⊥)
        → (IsApart host (seen s first) rest) ⊎ CollectsLast host (seen s first) rest
        → AnswersNothing host s lines
    by_end found (inl apart) = record {
      never = nothing_answers host lines (subst (CollectsNothing host) (sym ask.2)
          (never-append host first rest taken.nothing apart.nothing));
      made = made_by ask.2 (made-append taken.made apart.made);
    }
    by_end found (inr last) =
        absurd (found (ap (λ (l : List TraceLine). (seen (seen s first) l).undetected) last.whole
        ∙ ap (λ (x : Seen). x.undetected) (seen-append (seen s first) last.front last.last)
        ∙ ap (λ (l : List TraceLine). (seen (seen (seen s first) last.front) l).undetected)
        last.collect.lines
        ∙ collect_still (seen (seen s first) last.front) host _ ∙ last.still))

    by_found : (o : Option UndetectedAt) → (seen s lines).undetected ≡ o
        → AnswersNothing host s lines
    by_found None is =
        let own = replied is in
        record {
          never = subst (NeverAnswers host) (sym own.whole)
              (answers-append host own.front _ (nothing_answers host own.front own.nothing)
              (tt, tt));
          made = own.made;
        }
    by_found (Some found) is =
        by_end (λ same. let bad : None ≡ Some found = sym same
        ∙ sym (ap (λ (x : Seen). x.undetected) after) ∙ is in absurd cc)
        (rounds_apart host most_rounds noise (seen s first) rest taken.good still taken.endpoint
        more)
